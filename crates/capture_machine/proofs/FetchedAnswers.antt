-- While a large response is fetched, an answer tells what it led to and which session was dropped before it, whatever
-- bytes stand for the large one.
use Rattle.std.proofs.Common.{◌≡◌, ◌≢◌, ◌==◌, ◌&&◌, ◌||◌, ℕ, List, [], ◌∷◌, refl, sym, ap, ◌∙◌, subst, drop, Bool, true, false, Option, Some, None, is_none, inl, inr, eqb-true}
use Rattle.std.specs.Prelude.{slice_index}
use Rattle.std.proofs.lemmas.Bool.{false≢true}
use Rattle.spdm_basis.specs.declared.causes.record_fault.RecordFault.{RecordFault}
use Rattle.spdm_grammar.specs.Codes.{code_for}
use Rattle.spdm_grammar.specs.Message.{RequestMessage, ChunkMessage}
use Rattle.spdm_grammar.specs.Message.RequestMessage.{ChunkSend}
use Rattle.spdm_grammar.specs.declared.messages.error_code.ErrorCode.{ErrorCode}
use Rattle.spdm_grammar.specs.declared.names.request_code.TheConstants.{CHUNK_SEND, PSK_EXCHANGE}
use Rattle.spdm_machine.specs.Bodies.{clear_body}
use Rattle.responder_machine.specs.Answer.{Free, answer_bytes, request_at}
use Rattle.responder_machine.specs.Handling.{turn_of, turn_by, chunk_in, effect_of, handle_for}
use Rattle.responder_machine.specs.History.{History, Entry, kept_of}
use Rattle.responder_machine.specs.History.Entry.{Dropped}
use Rattle.responder_machine.specs.May.{MayDrop, with_dropped}
use Rattle.responder_machine.specs.Place.{Place, clear_place}
use Rattle.responder_machine.specs.Records.{opening_fault}
use Rattle.responder_machine.specs.Refusal.{refusal, code_of}
use Rattle.responder_machine.specs.Responder.{Outcome, on_clear, on_record, is_repeat, kept_reply, repeats, body_of, sent_by}
use Rattle.responder_machine.specs.Responder.Outcome.{Same, Adds}
use Rattle.responder_machine.specs.Session.{Events, session_of, id_in_record, last_of}
use Rattle.responder_machine.specs.Setup.{RspSetup}
use Rattle.responder_machine.specs.Turn.{takes, code_in}
use Rattle.responder_machine.proofs.Codes.{asked-code}
use Rattle.capture_machine.specs.CapturedAnswers.{MayLeadAfter, AreShown, shows, belongs_to, is_plain}
use Rattle.capture_machine.specs.LargeAnswers.{is_large, with_large}
use Rattle.capture_machine.specs.Rounds.{no_draw}
use Rattle.capture_machine.proofs.DropsTell.{RecordForm, clear_form, record_shown, no_record_drop}
use Rattle.capture_machine.proofs.EventsAlike.{EventsAlike, live_alike, last_alike, fault_alike}
use Rattle.capture_machine.proofs.FetchedSessions.{InSession, sessions_fetched, record_fetched}
use Rattle.capture_machine.proofs.FetchedTells.{ReadsAlways, always_told, repeat_same}
use Rattle.capture_machine.proofs.LargeTells.{adds_here, outcome_apart, sealed_sent}
use Rattle.capture_machine.proofs.PlainTells.{ClearLed, RecordLed, led_clear, led_record, form_of, unopened_alike}
use Rattle.capture_machine.proofs.RepliesTell.{EntriesAlike, OutcomesAlike}
use Rattle.capture_machine.proofs.TurnsAlike.{chunk_is}

-- What a body is while a large response is fetched: GET_VERSION or CHUNK_GET in the clear; a repeat of a clear request;
-- or a record, and the large response is one of a session.
pub data Asking (h : History) (place : Option ℕ) (tag : ℕ) (body : List ℕ) : Type 0 where
  Always : (slice_index body 0 == 5) ≡ true → ReadsAlways (drop 1 body) → Asking h place tag body
  Again : (slice_index body 0 == 5) ≡ true → is_repeat (kept_of h) tag (drop 1 body) ≡ true → Asking h place tag body
  Within : (slice_index body 0 == 5) ≡ false → InSession place h → Asking h place tag body

-- ---- A message takes effect as its own code.

module _ (r : RspSetup) (p : Place) (m : List ℕ) (f : Free) (code : ℕ) (other : (0 == code) ≡ false) (whole : code_of m ≢ CHUNK_SEND) where
  plain_code : (q : Option RequestMessage) → request_at p m ≡ q → (code_in (effect_of q m (answer_bytes r p m f) (handle_for p f (answer_bytes r p m f))) == code) ≡ true → code_of m ≡ code
  plain_code None is takes_it = absurd (false≢true (sym other ∙ takes_it))
  plain_code (Some q) is takes_it = sym (asked-code p m q is) ∙ eqb-true (code_for q) code takes_it

  code_by : (x : Option ErrorCode) (c : Option ChunkMessage) → chunk_in (request_at p m) ≡ c → takes code (turn_by r p m f x c) ≡ true → code_of m ≡ code
  code_by (Some e) c asks takes_it = absurd (false≢true (sym other ∙ takes_it))
  code_by None None asks takes_it = plain_code (request_at p m) refl takes_it
  code_by None (Some c) asks takes_it = absurd (whole (sym (asked-code p m (ChunkSend c) (chunk_is (request_at p m) c asks))))

  pub turn_code : takes code (turn_of r p m f) ≡ true → code_of m ≡ code
  unfolding turn_of
  turn_code takes_it = code_by (refusal r p m f) (chunk_in (request_at p m)) refl takes_it

-- ---- In the clear.

-- Such a body shows no drop.
none_shown : (r : RspSetup) (h : History) (body : List ℕ) (o : Outcome) (ids : List ℕ) → ((id : ℕ) → shows r h body id o ≡ false) → AreShown r h body o ids → ids ≡ []
none_shown r h body o [] none shown = refl
none_shown r h body o (id ∷ []) none shown = absurd (false≢true (sym (none id) ∙ shown))
none_shown r h body o (id ∷ other ∷ others) none shown = absurd shown

not_exchange : (b c : Bool) → (b ≡ true → ⊥) → (b && c) ≡ false
not_exchange true c not = absurd (not refl)
not_exchange false c not = refl

clear_shows : (r : RspSetup) (h g : History) (tag : ℕ) (body : List ℕ) (f : Free) (o : Outcome) (id : ℕ) → ReadsAlways (drop 1 body) → on_clear r g tag (drop 1 body) f no_draw ≡ o → shows r h body id o ≡ false
clear_shows r h g tag body f o id reads is = elim (clear_form r g tag (drop 1 body) f o is) [
  | inl same ↦ ap (shows r h body id) same.1
  | inr adds ↦ ap (shows r h body id) adds ∙ not_exchange _ _ (λ takes_it. reads.no_exchange (turn_code r (clear_place g) (drop 1 body) f PSK_EXCHANGE refl reads.no_chunk takes_it))
]

pub repeated : (r : RspSetup) (h : History) (place : Option ℕ) (w ids : List ℕ) (tag : ℕ) (body : List ℕ) (o : Outcome) → is_repeat (kept_of h) tag (drop 1 body) ≡ true → ClearLed r (with_dropped (with_large place w h) ids) tag body o
    → o ≡ Same (clear_body (kept_reply (kept_of h)))
repeated r h place w ids tag body o again led = sym led.leads ∙ repeat_same r h place w ids tag (drop 1 body) led.free again

-- Nothing that is shown was dropped.
pub always_none : (r : RspSetup) (h : History) (ids : List ℕ) (tag : ℕ) (body : List ℕ) (o : Outcome) → (slice_index body 0 == 5) ≡ true → ReadsAlways (drop 1 body) → MayLeadAfter r h ids tag body o → AreShown r h body o ids → ids ≡ []
always_none r h ids tag body o type reads may shown =
    let a = led_clear r (with_dropped h ids) tag body o type may.1 in
    none_shown r h body o ids (λ id. clear_shows r h (with_dropped h ids) tag body a.free o id reads a.leads) shown

pub again_none : (r : RspSetup) (h : History) (place : Option ℕ) (w ids : List ℕ) (tag : ℕ) (body : List ℕ) (o : Outcome) → (slice_index body 0 == 5) ≡ true → is_repeat (kept_of h) tag (drop 1 body) ≡ true
    → MayLeadAfter r (with_large place w h) ids tag body o → AreShown r (with_large place w h) body o ids → ids ≡ []
again_none r h place w ids tag body o type again may shown =
    let a = led_clear r (with_dropped (with_large place w h) ids) tag body o type may.1 in
    none_shown r (with_large place w h) body o ids (λ id. ap (shows r (with_large place w h) body id) (repeated r h place w ids tag body o again a)) shown

-- ---- In a session.

form_alike : (r : RspSetup) (h g : History) (tag : ℕ) (sealed : List ℕ) (o : Outcome) → EventsAlike (session_of (id_in_record sealed) h) (session_of (id_in_record sealed) g) → RecordForm r h tag sealed o → RecordForm r g tag sealed o
form_alike r h g tag sealed o a (inl same) = inl same
form_alike r h g tag sealed o a (inr (inr added)) = inr (inr added)
form_alike r h g tag sealed o a (inr (inl none)) =
    let s : Events = session_of (id_in_record sealed) h in
    let u : Events = session_of (id_in_record sealed) g in
    let belongs : belongs_to r s sealed ≡ belongs_to r u sealed =
    ap (λ k. repeats k sealed || is_none (opening_fault r.psk s sealed)) (last_alike s u a) ∙ ap (λ (x : Option RecordFault). repeats (last_of u) sealed || is_none x) (fault_alike r.psk s u sealed a) in
    inr (inl (none.0, none.1, λ live. sym belongs ∙ none.2 (live_alike s u a ∙ live)))

-- ---- Both.

module _ (r : RspSetup) (h : History) (place : Option ℕ) (w v : List ℕ) (tag : ℕ) (body : List ℕ) where
  clear_told : (ids others : List ℕ) (o q : Outcome) → ReadsAlways (drop 1 body) → ClearLed r (with_dropped (with_large place w h) ids) tag body o → ClearLed r (with_dropped (with_large place v h) others) tag body q
      → body_of o ≡ body_of q → OutcomesAlike o q
  clear_told ids others o q reads one two same =
      let P : Outcome → Type 0 = λ x. OutcomesAlike x q in
      let Q : Outcome → Type 0 = λ x. OutcomesAlike (on_clear r (with_dropped (with_large place w h) ids) tag (drop 1 body) one.free no_draw) x in
      subst P one.leads (subst Q two.leads (always_told r h place w v ids others tag (drop 1 body) one.free two.free reads (ap body_of one.leads ∙ same ∙ sym (ap body_of two.leads))))

  both_repeated : (ids others : List ℕ) (o q : Outcome) → is_repeat (kept_of h) tag (drop 1 body) ≡ true → ClearLed r (with_dropped (with_large place w h) ids) tag body o → ClearLed r (with_dropped (with_large place v h) others) tag body q
      → OutcomesAlike o q
  both_repeated ids others o q again one two =
      let k : List ℕ = clear_body (kept_reply (kept_of h)) in
      let P : Outcome → Type 0 = λ x. OutcomesAlike x q in
      let Q : Outcome → Type 0 = λ x. OutcomesAlike (Same k) x in
      subst P (sym (repeated r h place w ids tag body o again one)) (subst Q (sym (repeated r h place v others tag body q again two)) refl)

  record_told : (o q : Outcome) → InSession place h → RecordLed r (with_large place w h) tag body o → RecordLed r (with_large place v h) tag body q → body_of o ≡ body_of q → OutcomesAlike o q
  record_told o q within one two same =
      let P : Outcome → Type 0 = λ x. OutcomesAlike x q in
      let Q : Outcome → Type 0 = λ x. OutcomesAlike (on_record r (with_large place w h) tag (drop 1 body) one.free no_draw) x in
      subst P one.leads (subst Q two.leads (record_fetched r h place w v tag (drop 1 body) one.free two.free one.few two.few within (one.short, two.short) (ap body_of one.leads ∙ same ∙ sym (ap body_of two.leads))))

  record_plain : (ids others : List ℕ) (o q : Outcome) → InSession place h → MayDrop (with_large place w h) ids → MayDrop (with_large place v h) others
      → RecordLed r (with_dropped (with_large place w h) ids) tag body o → RecordLed r (with_dropped (with_large place v h) others) tag body q
      → AreShown r (with_large place w h) body o ids → AreShown r (with_large place v h) body q others → body_of o ≡ body_of q → (ids ≡ others) × OutcomesAlike o q
  record_plain [] [] o q within may might one two shown show same = (refl, record_told o q within one two same)
  record_plain (id ∷ []) (other ∷ []) o q within may might one two shown show same =
      let a = record_shown r (with_large place w h) (Dropped id ∷ with_large place w h) tag body id o (form_of r (Dropped id ∷ with_large place w h) tag body o one) shown in
      let b = record_shown r (with_large place v h) (Dropped other ∷ with_large place v h) tag body other q (form_of r (Dropped other ∷ with_large place v h) tag body q two) show in
      (ap (λ (n : ℕ). n ∷ []) (sym a.1 ∙ b.1), unopened_alike o q _ _ a.0.1 b.0.1 same)
  record_plain [] (id ∷ []) o q within may might one two shown show same =
      let form = form_alike r (with_large place w h) (with_large place v h) tag (drop 1 body) o (sessions_fetched (id_in_record (drop 1 body)) place w v h within) (form_of r (with_large place w h) tag body o one) in
      absurd (no_record_drop r (with_large place v h) (Dropped id ∷ with_large place v h) tag body id o q might form (form_of r (Dropped id ∷ with_large place v h) tag body q two) show same)
  record_plain (id ∷ []) [] o q within may might one two shown show same =
      let form = form_alike r (with_large place v h) (with_large place w h) tag (drop 1 body) q (sessions_fetched (id_in_record (drop 1 body)) place v w h within) (form_of r (with_large place v h) tag body q two) in
      absurd (no_record_drop r (with_large place w h) (Dropped id ∷ with_large place w h) tag body id q o may form (form_of r (Dropped id ∷ with_large place w h) tag body o one) shown (sym same))
  record_plain (id ∷ x ∷ xs) others o q within may might one two shown show same = absurd shown
  record_plain ids (id ∷ x ∷ xs) o q within may might one two shown show same = absurd show

  -- Which sessions were dropped, and what the answer led to.
  pub plain_fetched : (ids others : List ℕ) (o q : Outcome) → Asking h place tag body → MayLeadAfter r (with_large place w h) ids tag body o → MayLeadAfter r (with_large place v h) others tag body q
      → AreShown r (with_large place w h) body o ids → AreShown r (with_large place v h) body q others → body_of o ≡ body_of q → (ids ≡ others) × OutcomesAlike o q
  plain_fetched ids others o q (Always type reads) one two shown show same =
      let a = led_clear r (with_dropped (with_large place w h) ids) tag body o type one.1 in
      let b = led_clear r (with_dropped (with_large place v h) others) tag body q type two.1 in (
        always_none r (with_large place w h) ids tag body o type reads one shown ∙ sym (always_none r (with_large place v h) others tag body q type reads two show),
        clear_told ids others o q reads a b same,
      )
  plain_fetched ids others o q (Again type again) one two shown show same =
      let a = led_clear r (with_dropped (with_large place w h) ids) tag body o type one.1 in
      let b = led_clear r (with_dropped (with_large place v h) others) tag body q type two.1 in (
        again_none r h place w ids tag body o type again one shown ∙ sym (again_none r h place v others tag body q type again two show),
        both_repeated ids others o q again a b,
      )
  plain_fetched ids others o q (Within type within) one two shown show same =
      record_plain ids others o q within one.0 two.0 (led_record r (with_dropped (with_large place w h) ids) tag body o type one.1) (led_record r (with_dropped (with_large place v h) others) tag body q type two.1) shown show same

  -- Two entries.
  pub adds_fetched : (ids others : List ℕ) (e f : Entry) → Asking h place tag body → MayLeadAfter r (with_large place w h) ids tag body (Adds e) → MayLeadAfter r (with_large place v h) others tag body (Adds f) → sent_by e ≡ sent_by f → EntriesAlike e f
  adds_fetched ids others e f (Always type reads) one two same =
      clear_told ids others (Adds e) (Adds f) reads (led_clear r (with_dropped (with_large place w h) ids) tag body (Adds e) type one.1) (led_clear r (with_dropped (with_large place v h) others) tag body (Adds f) type two.1) same
  adds_fetched ids others e f (Again type again) one two same =
      both_repeated ids others (Adds e) (Adds f) again (led_clear r (with_dropped (with_large place w h) ids) tag body (Adds e) type one.1) (led_clear r (with_dropped (with_large place v h) others) tag body (Adds f) type two.1)
  adds_fetched ids others e f (Within type within) one two same =
      record_told (Adds e) (Adds f) within (adds_here r (with_large place w h) ids tag body e (led_record r (with_dropped (with_large place w h) ids) tag body (Adds e) type one.1))
      (adds_here r (with_large place v h) others tag body f (led_record r (with_dropped (with_large place v h) others) tag body (Adds f) type two.1)) same

  record_apart : (ids : List ℕ) (o : Outcome) (f : Entry) → InSession place h → RecordLed r (with_dropped (with_large place w h) ids) tag body o → RecordLed r (with_large place v h) tag body (Adds f) → AreShown r (with_large place w h) body o ids
      → is_plain (with_large place w h) o ≡ true → is_large f ≡ true → body_of o ≡ sent_by f → ⊥
  record_apart [] o f within one two shown plain large same = outcome_apart (with_large place w h) o f (record_told o (Adds f) within one two same) plain large
  record_apart (id ∷ []) o f within one two shown plain large same =
      let known = record_shown r (with_large place w h) (Dropped id ∷ with_large place w h) tag body id o (form_of r (Dropped id ∷ with_large place w h) tag body o one) shown in
      sealed_sent r (with_large place v h) tag (drop 1 body) known.0.0 f (form_of r (with_large place v h) tag body (Adds f) two) (sym (ap body_of known.0.1) ∙ same)
  record_apart (id ∷ x ∷ xs) o f within one two shown plain large same = shown

  -- No LargeResponse is an answer that goes whole.
  pub large_fetched : (ids others : List ℕ) (o : Outcome) (f : Entry) → Asking h place tag body → MayLeadAfter r (with_large place w h) ids tag body o → MayLeadAfter r (with_large place v h) others tag body (Adds f)
      → AreShown r (with_large place w h) body o ids → is_plain (with_large place w h) o ≡ true → is_large f ≡ true → body_of o ≡ sent_by f → ⊥
  large_fetched ids others o f (Always type reads) one two shown plain large same =
      outcome_apart (with_large place w h) o f
      (clear_told ids others o (Adds f) reads (led_clear r (with_dropped (with_large place w h) ids) tag body o type one.1) (led_clear r (with_dropped (with_large place v h) others) tag body (Adds f) type two.1) same) plain large
  large_fetched ids others o f (Again type again) one two shown plain large same =
      outcome_apart (with_large place w h) o f
      (both_repeated ids others o (Adds f) again (led_clear r (with_dropped (with_large place w h) ids) tag body o type one.1) (led_clear r (with_dropped (with_large place v h) others) tag body (Adds f) type two.1)) plain large
  large_fetched ids others o f (Within type within) one two shown plain large same =
      record_apart ids o f within (led_record r (with_dropped (with_large place w h) ids) tag body o type one.1)
      (adds_here r (with_large place v h) others tag body f (led_record r (with_dropped (with_large place v h) others) tag body (Adds f) type two.1)) shown plain large same
