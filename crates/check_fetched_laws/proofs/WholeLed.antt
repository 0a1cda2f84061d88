-- A body leads to an entry whose answer goes by LargeResponse at the values that this and the whole answer show.
use Rattle.std.proofs.Common.{◌≡◌, ◌<◌, ◌≤◌, ◌==◌, ℕ, List, ◌∷◌, refl, sym, ap, ◌∙◌, subst, length, drop, Bool, true, false, Option, Some, None, is_some, cond}
use Rattle.std.specs.Prelude.{slice_index}
use Rattle.std.proofs.lemmas.Bool.{false≢true}
use Rattle.responder_machine.specs.Answer.{Free, answer_bytes, request_at}
use Rattle.responder_machine.specs.Handling.{chunk_in, turn_by, turn_of}
use Rattle.responder_machine.specs.History.{Entry, History, kept_of}
use Rattle.responder_machine.specs.History.Entry.{Clear, Sealed}
use Rattle.responder_machine.specs.May.{IsAllowed, on_body, place_for}
use Rattle.responder_machine.specs.Place.{Place, clear_place, session_place}
use Rattle.responder_machine.specs.Records.{opened, reply_record}
use Rattle.responder_machine.specs.Refusal.{refusal}
use Rattle.responder_machine.specs.Responder.{Outcome, body_of, data_turn, inner_refusal, inner_reply, is_repeat, kept_reply, on_clear, on_record, sent_by, session_turn, session_turn_by}
use Rattle.responder_machine.specs.Responder.Outcome.{Same, Adds}
use Rattle.responder_machine.specs.Session.{Events, id_in_record, session_of, stage_of}
use Rattle.responder_machine.specs.Setup.{RspSetup}
use Rattle.responder_machine.specs.Turn.{Effect, Turn, answer_in, handle_in, is_data}
use Rattle.responder_machine.specs.Turn.Effect.{NoEffect, Took, TookData}
use Rattle.spdm_grammar.specs.Message.{ChunkMessage}
use Rattle.spdm_grammar.specs.declared.messages.error_code.ErrorCode.{ErrorCode}
use Rattle.spdm_grammar.specs.declared.names.TheConstants.{MAX_MESSAGE_SIZE}
use Rattle.spdm_machine.specs.Bodies.{clear_body}
use Rattle.check_laws.proofs.BodyShown.{values_lead}
use Rattle.check_laws.proofs.LargeLed.{record_too}
use Rattle.check_laws.proofs.SessionShown.{record_is, updates_alike}
use Rattle.check_laws.specs.AnswersShown.{LeadsAt, values_shown_by}
use Rattle.check_laws.specs.LargeShown.{whole_of}
use Rattle.check_fetched_laws.proofs.WholeGiven.{plain_gives, same_turn, turn_gives, turn_handle}
use Rattle.check_responder.specs.WholeAnswers.{clear_whole, whole_values}
use Rattle.check_fetched_laws.specs.WholeValues.{WholeIsShown, values_with_whole}
use Rattle.capture_machine.proofs.RecordAdds.{record_added}
use Rattle.capture_machine.proofs.RepliesTell.{OutcomesAlike, EntriesAlike, no_chunk}
use Rattle.capture_machine.proofs.TurnsAlike.{EffectsAlike, TurnsAlike, chunk_is, turns_large}
use Rattle.capture_machine.specs.CapturedAnswers.{MayLeadTo, answer_to, clear_answer, record_answer}
use Rattle.capture_machine.specs.LargeAnswers.{is_large}
use Rattle.capture_machine.specs.Rounds.{no_draw}

-- Alike turns have one handle.
pub same_handle : (x y : Effect) → EffectsAlike x y → handle_in x ≡ handle_in y
same_handle NoEffect NoEffect alike = refl
same_handle (Took a m w None) (Took b n v None) alike = refl
same_handle (Took a m w (Some h)) (Took b n v (Some k)) alike = ap Some alike.2
same_handle (TookData w u) (TookData v x) alike = refl
same_handle NoEffect (Took b n v k) alike = absurd alike
same_handle NoEffect (TookData v x) alike = absurd alike
same_handle (Took a m w None) NoEffect alike = absurd alike
same_handle (Took a m w None) (Took b n v (Some k)) alike = absurd alike
same_handle (Took a m w None) (TookData v x) alike = absurd alike
same_handle (Took a m w (Some h)) NoEffect alike = absurd alike
same_handle (Took a m w (Some h)) (Took b n v None) alike = absurd alike
same_handle (Took a m w (Some h)) (TookData v x) alike = absurd alike
same_handle (TookData w u) NoEffect alike = absurd alike
same_handle (TookData w u) (Took b n v k) alike = absurd alike

-- ---- In the clear.

module _ (r : RspSetup) (h : History) (tag : ℕ) (m : List ℕ) (byte : r.beat < 256) (f k : Free) (fits : IsAllowed h (clear_place h) f) (may : IsAllowed h (clear_place h) k) where
  abbrev p : Place
  p = clear_place h

  abbrev clear_by : Bool → Free → Outcome
  clear_by again v = cond again (Same (clear_body (kept_reply (kept_of h)))) (Adds (Clear tag (turn_of r p m v) no_draw))

  abbrev value : List ℕ → Free
  value whole = clear_whole p m k whole (chunk_in (request_at p m))

  clear_led : (again : Bool) (e : Entry) → is_large e ≡ true → clear_by again f ≡ Adds e → OutcomesAlike (clear_by again k) (Adds e) → length (clear_answer r p m f) ≤ MAX_MESSAGE_SIZE
      → IsAllowed h p (value (whole_of e)) × (length (clear_answer r p m (value (whole_of e))) ≤ MAX_MESSAGE_SIZE) × (clear_by again (value (whole_of e)) ≡ Adds e)
  clear_led true e large is alike short = absurd (cc)
  clear_led false e large is alike short =
      let t : Turn = turn_of r p m f in
      let u : Turn = turn_of r p m k in
      let same : Clear tag t no_draw ≡ e = cc in
      let like : TurnsAlike u t = (subst (λ (x : Entry). EntriesAlike (Clear tag u no_draw) x) (sym same) alike).1 in
      let big : is_some (handle_in t.effect) ≡ true = ap is_large same ∙ large in
      let handle : handle_in t.effect ≡ Some k.handle = sym (same_handle u.effect t.effect like.effect) ∙ turn_handle r p m k (turns_large u t like ∙ big) in
      let gives = turn_gives r h p m f k byte fits may short big handle in
      let v : Free = value (answer_in t.effect) in
      let P : Entry → Type 0 = λ x. IsAllowed h p (value (whole_of x)) × (length (clear_answer r p m (value (whole_of x))) ≤ MAX_MESSAGE_SIZE) × (clear_by false (value (whole_of x)) ≡ Adds x) in
      subst P same (gives.allowed, gives.short, ap (λ (x : Turn). Adds (Clear tag x no_draw)) (same_turn r h p m f k v gives))

-- ---- In a session.

not_data : (x : Effect) → is_some (handle_in x) ≡ true → is_data x ≡ false
not_data NoEffect large = refl
not_data (Took asked request answer handle) large = refl
not_data (TookData bytes answer) large = absurd (false≢true large)

module _ (r : RspSetup) (h : History) (s : Events) (byte : r.beat < 256) (f k : Free) (fits : IsAllowed h (session_place s) f) (may : IsAllowed h (session_place s) k) where
  abbrev q : Place
  q = session_place s

  -- These values lead to the same turn, with the padding.
  abbrev GivesSealed : (Free → Turn) → Free → (m : List ℕ) → Type 0
  GivesSealed at v m = (at v ≡ at f) × IsAllowed h q v × (length (answer_bytes r q m v) ≤ MAX_MESSAGE_SIZE) × (v.pad ≡ k.pad)

  module _ (m : List ℕ) (short : length (answer_bytes r q m f) ≤ MAX_MESSAGE_SIZE) where
    message_by : (o : Option ErrorCode) (c : Option ChunkMessage) → refusal r q m f ≡ o → chunk_in (request_at q m) ≡ c
        → is_some (handle_in (turn_by r q m f o c).effect) ≡ true → handle_in (turn_by r q m f o c).effect ≡ Some k.handle
        → let v = whole_values q m k (answer_in (turn_by r q m f o c).effect) in
        (turn_by r q m v (refusal r q m v) c ≡ turn_by r q m f o c) × IsAllowed h q v × (length (answer_bytes r q m v) ≤ MAX_MESSAGE_SIZE) × (v.pad ≡ k.pad)
    message_by (Some e) c is asks large handle = absurd (false≢true large)
    message_by None (Some c) is asks large handle = absurd (no_chunk r s m f c (chunk_is (request_at q m) c asks) is)
    message_by None None is asks large handle =
        let gives = plain_gives r h q m f k byte fits may is short large handle in
        (gives.turn ∙ ap (λ (x : Option ErrorCode). turn_by r q m f x None) is, gives.allowed, gives.short, gives.pad)

    message_gives : is_some (handle_in (turn_of r q m f).effect) ≡ true → handle_in (turn_of r q m f).effect ≡ Some k.handle
        → GivesSealed (λ v. turn_of r q m v) (whole_values q m k (answer_in (turn_of r q m f).effect)) m
    unfolding turn_of
    message_gives large handle = message_by (refusal r q m f) (chunk_in (request_at q m)) refl refl large handle

  module _ (inner : List ℕ) (short : length (answer_bytes r q (drop 1 inner) f) ≤ MAX_MESSAGE_SIZE) where
    session_by : (o : Option ErrorCode) → is_some (handle_in (session_turn_by r s inner f o).effect) ≡ true → handle_in (session_turn_by r s inner f o).effect ≡ Some k.handle
        → GivesSealed (λ v. session_turn_by r s inner v o) (whole_values q (drop 1 inner) k (answer_in (session_turn_by r s inner f o).effect)) (drop 1 inner)
    session_by (Some e) large handle = absurd (false≢true large)
    session_by None large handle = by_type (slice_index inner 0 == 5) large handle
      where
        by_type : (b : Bool) → let at = λ (v : Free). cond b (turn_of r q (drop 1 inner) v) (data_turn v (drop 1 inner)) in
            is_some (handle_in (at f).effect) ≡ true → handle_in (at f).effect ≡ Some k.handle
            → GivesSealed at (whole_values q (drop 1 inner) k (answer_in (at f).effect)) (drop 1 inner)
        by_type true large handle = message_gives (drop 1 inner) short large handle
        by_type false large handle = absurd (false≢true large)

    session_gives : is_some (handle_in (session_turn r s inner f).effect) ≡ true → handle_in (session_turn r s inner f).effect ≡ Some k.handle
        → GivesSealed (λ v. session_turn r s inner v) (whole_values q (drop 1 inner) k (answer_in (session_turn r s inner f).effect)) (drop 1 inner)
    unfolding session_turn
    session_gives large handle = session_by (inner_refusal (stage_of s) inner) large handle

-- The handle that was chosen.
session_handle_by : (r : RspSetup) (s : Events) (inner : List ℕ) (f : Free) (o : Option ErrorCode) → is_some (handle_in (session_turn_by r s inner f o).effect) ≡ true → handle_in (session_turn_by r s inner f o).effect ≡ Some f.handle
session_handle_by r s inner f (Some e) large = absurd (false≢true large)
session_handle_by r s inner f None large = by_type (slice_index inner 0 == 5) large
  where
    by_type : (b : Bool) → let t = cond b (turn_of r (session_place s) (drop 1 inner) f) (data_turn f (drop 1 inner)) in is_some (handle_in t.effect) ≡ true → handle_in t.effect ≡ Some f.handle
    by_type true large = turn_handle r (session_place s) (drop 1 inner) f large
    by_type false large = absurd (false≢true large)

session_handle : (r : RspSetup) (s : Events) (inner : List ℕ) (f : Free) → is_some (handle_in (session_turn r s inner f).effect) ≡ true → handle_in (session_turn r s inner f).effect ≡ Some f.handle
unfolding session_turn
session_handle r s inner f large = session_handle_by r s inner f (inner_refusal (stage_of s) inner) large

module _ (r : RspSetup) (h : History) (tag : ℕ) (sealed : List ℕ) (byte : r.beat < 256) (f k : Free) where
  abbrev s : Events
  s = session_of (id_in_record sealed) h

  abbrev inner : List ℕ
  inner = opened r.psk (session_of (id_in_record sealed) h) sealed

  abbrev sealed_value : List ℕ → Free
  sealed_value whole = whole_values (session_place s) (drop 1 inner) k whole

  -- An entry of the record at some values.
  abbrev at : Free → Entry
  at v = Sealed tag sealed (session_turn r s inner v) (reply_record r.psk s (session_turn r s inner v) (inner_reply (session_turn r s inner v)) v.pad) no_draw

  record_led : (e : Entry) → IsAllowed h (session_place s) f → IsAllowed h (session_place s) k → is_large e ≡ true → on_record r h tag sealed f no_draw ≡ Adds e → OutcomesAlike (on_record r h tag sealed k no_draw) (Adds e)
      → length (record_answer r s sealed f) ≤ MAX_MESSAGE_SIZE
      → IsAllowed h (session_place s) (sealed_value (whole_of e)) × (length (record_answer r s sealed (sealed_value (whole_of e))) ≤ MAX_MESSAGE_SIZE) × (on_record r h tag sealed (sealed_value (whole_of e)) no_draw ≡ Adds e)
  record_led e fits may large leads alike short =
      let t : Turn = session_turn r s inner f in
      let u : Turn = session_turn r s inner k in
      let same : at f ≡ e = record_added r f tag sealed e h leads in
      let there : on_record r h tag sealed k no_draw ≡ Adds (at k) = (record_too r f k tag sealed e h leads).0 in
      let A : Outcome → Type 0 = λ x. OutcomesAlike x (Adds e) in
      let like : EntriesAlike (at k) (at f) = subst (EntriesAlike (at k)) (sym same) (subst A there alike) in
      let big : is_some (handle_in t.effect) ≡ true = ap is_large same ∙ large in
      let too : is_some (handle_in u.effect) ≡ true = turns_large u t like.2 ∙ big in
      let handle : handle_in t.effect ≡ Some k.handle = sym (same_handle u.effect t.effect like.2.effect) ∙ session_handle r s inner k too in
      let gives = session_gives r h s byte f k fits may inner short big handle in
      let v : Free = sealed_value (answer_in t.effect) in
      let texts : inner_reply u ≡ inner_reply t =
      ap (λ (b : Bool). cond b 1 5 ∷ u.reply) (not_data u.effect too ∙ sym (not_data t.effect big)) ∙ ap (λ (l : List ℕ). cond (is_data t.effect) 1 5 ∷ l) like.2.reply in
      let reply : reply_record r.psk s t (inner_reply t) v.pad ≡ reply_record r.psk s t (inner_reply t) f.pad =
      ap (reply_record r.psk s t (inner_reply t)) gives.3
      ∙ sym (record_is r.psk s u t (inner_reply u) (inner_reply t) k.pad k.pad (updates_alike r s inner k f) texts refl) ∙ like.3 in
      let entry : at v ≡ at f =
      ap (λ (x : Turn). Sealed tag sealed x (reply_record r.psk s x (inner_reply x) v.pad) no_draw) gives.0 ∙ ap (λ (l : List ℕ). Sealed tag sealed t l no_draw) reply in
      let P : Entry → Type 0 = λ x. IsAllowed h (session_place s) (sealed_value (whole_of x)) × (length (record_answer r s sealed (sealed_value (whole_of x))) ≤ MAX_MESSAGE_SIZE) × (on_record r h tag sealed (sealed_value (whole_of x)) no_draw ≡ Adds x) in
      subst P same (gives.1, gives.2, (record_too r f v tag sealed e h leads).0 ∙ ap Adds entry)

-- ---- Any body.

module _ (r : RspSetup) (h : History) (tag : ℕ) (body : List ℕ) (byte : r.beat < 256) (f k : Free) (e : Entry) (large : is_large e ≡ true) where
  abbrev m : List ℕ
  m = drop 1 body

  abbrev events : Events
  events = session_of (id_in_record (drop 1 body)) h

  abbrev place_by : Bool → Place
  place_by clear = cond clear (clear_place h) (session_place events)

  abbrev outcome_by : Bool → Free → Outcome
  outcome_by clear v = cond clear (on_clear r h tag m v no_draw) (on_record r h tag m v no_draw)

  abbrev answer_by : Bool → Free → List ℕ
  answer_by clear v = cond clear (clear_answer r (clear_place h) m v) (record_answer r events m v)

  abbrev value_by : Bool → Free
  value_by clear = cond clear (clear_whole (clear_place h) m k (whole_of e) (chunk_in (request_at (clear_place h) m))) (whole_values (session_place events) (drop 1 (opened r.psk events m)) k (whole_of e))

  led_by : (clear : Bool) → IsAllowed h (place_by clear) f → IsAllowed h (place_by clear) k → outcome_by clear f ≡ Adds e → OutcomesAlike (outcome_by clear k) (Adds e) → length (answer_by clear f) ≤ MAX_MESSAGE_SIZE
      → IsAllowed h (place_by clear) (value_by clear) × (length (answer_by clear (value_by clear)) ≤ MAX_MESSAGE_SIZE) × (outcome_by clear (value_by clear) ≡ Adds e)
  unfolding on_clear
  led_by true fits may leads alike short = clear_led r h tag m byte f k fits may (is_repeat (kept_of h) tag m) e large leads alike short
  led_by false fits may leads alike short = record_led r h tag m byte f k e fits may large leads alike short

pub whole_is_shown : WholeIsShown
unfolding MayLeadTo values_with_whole
whole_is_shown r h tag body e byte large = (shown, λ leads. (values_with_whole r h tag body (sent_by e) (whole_of e), leads.0, leads.1, leads.2))
  where
    k : Free
    k = values_shown_by r h tag body (sent_by e)

    shown : MayLeadTo r h tag body (Adds e) → LeadsAt r h tag body (Adds e) (values_with_whole r h tag body (sent_by e) (whole_of e))
    shown may =
        let P : Outcome → Type 0 = λ x. IsAllowed h (place_for h body) (values_shown_by r h tag body (body_of x)) × (length (answer_to r h body (values_shown_by r h tag body (body_of x))) ≤ MAX_MESSAGE_SIZE)
        × OutcomesAlike (on_body r h tag body (values_shown_by r h tag body (body_of x)) no_draw) x in
        let known = subst P may.3 (values_lead r h tag body byte may.0 may.1 may.2) in
        led_by r h tag body byte may.0 k e large (slice_index body 0 == 5) may.1 known.0 may.3 known.2 may.2
