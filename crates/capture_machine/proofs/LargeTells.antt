-- A LargeResponse, and the last chunk of a large response, tell what they lead to at the responder, where no answer is
-- being fetched.
use Rattle.std.proofs.Common.{◌≡◌, ◌≤◌, ◌==◌, ◌⊎◌, ℕ, List, [], ◌∷◌, refl, sym, ap, ◌∙◌, subst, length, drop, Bool, true, false, Option, cond, inl, inr, arith, eqb-true}
use Rattle.std.specs.Prelude.{slice_index, MatchBool}
use Rattle.std.proofs.lemmas.Bool.{false≢true, not-true}
use Rattle.spdm_grammar.specs.declared.told.phase.Phase.{Phase}
use Rattle.spdm_grammar.specs.declared.names.TheConstants.{MAX_MESSAGE_SIZE}
use Rattle.spdm_grammar.specs.declared.names.request_code.TheConstants.{PSK_EXCHANGE}
use Rattle.spdm_machine.specs.Bodies.{clear_body, record_body}
use Rattle.spdm_machine.specs.Sessions.{id_in_exchange}
use Rattle.responder_machine.specs.Answer.{Free, answer_bytes}
use Rattle.responder_machine.specs.Handling.{turn_of}
use Rattle.responder_machine.specs.History.{History, Entry, ended_of, clear_turns, phase_of}
use Rattle.responder_machine.specs.History.Entry.{Clear, Sealed, Queued, Ticked, Dropped}
use Rattle.responder_machine.specs.May.{MayDrop, with_dropped, place_for}
use Rattle.responder_machine.specs.Place.{clear_place, session_place, is_held}
use Rattle.responder_machine.specs.Records.{opened}
use Rattle.responder_machine.specs.Responder.{Outcome, on_record, to_session, repeats, kept_record, body_of, sent_by}
use Rattle.responder_machine.specs.Responder.Outcome.{Same, Unopened, Adds}
use Rattle.responder_machine.specs.Session.{Events, session_of, id_in_record}
use Rattle.responder_machine.specs.Setup.{RspSetup}
use Rattle.responder_machine.specs.Turn.{Turn, takes, answer_in}
use Rattle.capture_machine.specs.CapturedAnswers.{MayLeadTo, MayLeadAfter, AreShown, shows, is_plain, tag_in, request_in, MayLeadToEntry, MayHaveLed}
use Rattle.capture_machine.specs.LargeAnswers.{is_large, unseen, is_unseen_in, seen}
use Rattle.capture_machine.specs.Rounds.{no_draw}
use Rattle.capture_machine.proofs.RepliesTell.{EntriesAlike, OutcomesAlike}
use Rattle.capture_machine.proofs.DropsTell.{RecordForm, record_shown, turns_stay, fresh_id, held_before, clear_form, no_record_drop}
use Rattle.capture_machine.proofs.PlainTells.{ClearLed, RecordLed, led_clear, led_record, clear_alike, record_alike, form_of, entries_erased}
use Rattle.spdm_basis.proofs.Bools.{and_first, and_second}

-- ---- A record that adds an entry comes to a session that was not dropped.

pub ended_stay : (ids : List ℕ) (h : History) → ended_of (with_dropped h ids) ≡ ended_of h
ended_stay [] h = refl
ended_stay (id ∷ ids) h = ended_stay ids (Dropped id ∷ h)

session_stays : (id : ℕ) (ids : List ℕ) (h : History) → (session_of id (with_dropped h ids) ≡ session_of id h) ⊎ (session_of id (with_dropped h ids) ≡ [])
unfolding session_of
session_stays id [] h = inl refl
session_stays id (other ∷ ids) h = elim (session_stays id ids (Dropped other ∷ h)) [
  | inl same ↦ by_id (other == id) same
  | inr gone ↦ inr gone
]
  where
    by_id : (b : Bool) → session_of id (with_dropped (Dropped other ∷ h) ids) ≡ cond b [] (session_of id h)
        → (session_of id (with_dropped (Dropped other ∷ h) ids) ≡ session_of id h) ⊎ (session_of id (with_dropped (Dropped other ∷ h) ids) ≡ [])
    by_id true same = inr same
    by_id false same = inl same

-- What a record leads to, by what it looks at.
abbrev record_on : (r : RspSetup) → ℕ → List ℕ → Free → History → Events → Outcome
record_on r tag sealed f h s = cond (repeats (ended_of h) sealed) (Same (record_body (kept_record (ended_of h)))) (to_session r (phase_of (clear_turns h)) s f tag sealed no_draw)

not_gone : (r : RspSetup) (tag : ℕ) (sealed : List ℕ) (f : Free) (b : Bool) (kept : List ℕ) (phase : Phase) (e : Entry) → cond b (Same kept) (to_session r phase [] f tag sealed no_draw) ≡ Adds e → ⊥
not_gone r tag sealed f true kept phase e is = absurd (cc)
not_gone r tag sealed f false kept phase e is = absurd (cc)

pub adds_here : (r : RspSetup) (h : History) (ids : List ℕ) (tag : ℕ) (body : List ℕ) (e : Entry) → RecordLed r (with_dropped h ids) tag body (Adds e) → RecordLed r h tag body (Adds e)
unfolding on_record
adds_here r h ids tag body e led = elim (session_stays (id_in_record (drop 1 body)) ids h) [
  | inl same ↦ record {
    free = led.free;
    few = led.few;
    short = subst (λ (s : Events). length (answer_bytes r (session_place s) (drop 1 (opened r.psk s (drop 1 body))) led.free) ≤ MAX_MESSAGE_SIZE) same led.short;
    leads =
        sym (
        ap (λ (s : Events). record_on r tag (drop 1 body) led.free (with_dropped h ids) s) same
        ∙ ap (λ k. cond (repeats k (drop 1 body)) (Same (record_body (kept_record k))) (to_session r (phase_of (clear_turns (with_dropped h ids))) (session_of (id_in_record (drop 1 body)) h) led.free tag (drop 1 body) no_draw)) (ended_stay ids h)
        ∙ ap (λ (l : List Turn). cond (repeats (ended_of h) (drop 1 body)) (Same (record_body (kept_record (ended_of h)))) (to_session r (phase_of l) (session_of (id_in_record (drop 1 body)) h) led.free tag (drop 1 body) no_draw)) (turns_stay ids h))
        ∙ led.leads;
  }
  | inr gone ↦ absurd (not_gone r tag (drop 1 body) led.free (repeats (ended_of (with_dropped h ids)) (drop 1 body)) _ _ e
      (sym (ap (λ (s : Events). record_on r tag (drop 1 body) led.free (with_dropped h ids) s) gone) ∙ led.leads))
]

-- ---- Two entries of one body.

-- Whatever was dropped before them, they are alike.
pub adds_alike : (r : RspSetup) (h : History) (ids others : List ℕ) (tag : ℕ) (body : List ℕ) (e f : Entry) → MayLeadAfter r h ids tag body (Adds e) → MayLeadAfter r h others tag body (Adds f) → sent_by e ≡ sent_by f → EntriesAlike e f
adds_alike r h ids others tag body e f one two same = by_type (slice_index body 0 == 5) refl
  where
    by_type : (b : Bool) → (slice_index body 0 == 5) ≡ b → EntriesAlike e f
    by_type true is = clear_alike r h ids others tag body (Adds e) (Adds f) (led_clear r (with_dropped h ids) tag body (Adds e) is one.1) (led_clear r (with_dropped h others) tag body (Adds f) is two.1) same
    by_type false is = record_alike r h tag body (Adds e) (Adds f) (adds_here r h ids tag body e (led_record r (with_dropped h ids) tag body (Adds e) is one.1)) (adds_here r h others tag body f (led_record r (with_dropped h others) tag body (Adds f) is two.1)) same

-- Two LargeResponses lead to one history.
pub large_next : (r : RspSetup) (h : History) (ids others : List ℕ) (tag : ℕ) (body : List ℕ) (e f : Entry) → MayLeadAfter r h ids tag body (Adds e) → MayLeadAfter r h others tag body (Adds f) → sent_by e ≡ sent_by f
    → unseen e ∷ h ≡ unseen f ∷ h
large_next r h ids others tag body e f one two same = ap (λ x. x ∷ h) (entries_erased e f (adds_alike r h ids others tag body e f one two same)).0

-- No LargeResponse is an answer that goes whole.
pub outcome_apart : (h : History) (o : Outcome) (f : Entry) → OutcomesAlike o (Adds f) → is_plain h o ≡ true → is_large f ≡ true → ⊥
outcome_apart h (Same b) f alike plain large = alike
outcome_apart h (Unopened b) f alike plain large = alike
outcome_apart h (Adds e) f alike plain large = false≢true (sym (not-true _ (and_first _ _ plain)) ∙ (entries_erased e f alike).1 ∙ large)

pub sealed_sent : (r : RspSetup) (h : History) (tag : ℕ) (sealed b : List ℕ) (f : Entry) → RecordForm r h tag sealed (Adds f) → clear_body b ≡ sent_by f → ⊥
sealed_sent r h tag sealed b f (inl kept) same = let e = kept.1 in absurd (cc)
sealed_sent r h tag sealed b f (inr (inl none)) same = let e = none.1 in absurd (cc)
sealed_sent r h tag sealed b f (inr (inr added)) same =
    absurd (let t = ap (λ (l : List ℕ). slice_index l 0) (same ∙ ap body_of added.2) in omega (arith, t))

record_apart : (r : RspSetup) (h : History) (ids : List ℕ) (tag : ℕ) (body : List ℕ) (o : Outcome) (f : Entry) → RecordLed r (with_dropped h ids) tag body o → RecordLed r h tag body (Adds f) → AreShown r h body o ids
    → is_plain h o ≡ true → is_large f ≡ true → body_of o ≡ sent_by f → ⊥
record_apart r h [] tag body o f one two shown plain large same = outcome_apart h o f (record_alike r h tag body o (Adds f) one two same) plain large
record_apart r h (id ∷ []) tag body o f one two shown plain large same =
    let known = record_shown r h (Dropped id ∷ h) tag body id o (form_of r (Dropped id ∷ h) tag body o one) shown in
    sealed_sent r h tag (drop 1 body) known.0.0 f (form_of r h tag body (Adds f) two) (sym (ap body_of known.0.1) ∙ same)
record_apart r h (id ∷ x ∷ xs) tag body o f one two shown plain large same = shown

pub large_apart : (r : RspSetup) (h : History) (ids others : List ℕ) (tag : ℕ) (body : List ℕ) (o : Outcome) (f : Entry) → MayLeadAfter r h ids tag body o → MayLeadAfter r h others tag body (Adds f) → AreShown r h body o ids
    → is_plain h o ≡ true → is_large f ≡ true → body_of o ≡ sent_by f → ⊥
large_apart r h ids others tag body o f one two shown plain large same = by_type (slice_index body 0 == 5) refl
  where
    by_type : (b : Bool) → (slice_index body 0 == 5) ≡ b → ⊥
    by_type true is =
        outcome_apart h o f (clear_alike r h ids others tag body o (Adds f) (led_clear r (with_dropped h ids) tag body o is one.1) (led_clear r (with_dropped h others) tag body (Adds f) is two.1) same) plain large
    by_type false is =
        record_apart r h ids tag body o f (led_record r (with_dropped h ids) tag body o is one.1) (adds_here r h others tag body f (led_record r (with_dropped h others) tag body (Adds f) is two.1)) shown plain large same

-- ---- The last chunk.

-- The sessions that one large response shows as dropped are determined by it.
no_shown : (r : RspSetup) (h : History) (tag : ℕ) (body : List ℕ) (id : ℕ) (e : Entry) → MayDrop h (id ∷ []) → MayLeadTo r h tag body (Adds e) → MayLeadTo r (Dropped id ∷ h) tag body (Adds e) → shows r h body id (Adds e) ≡ true → ⊥
no_shown r h tag body id e may one two shown = by_type (slice_index body 0 == 5) refl
  where
    clear : (o : ClearLed r h tag body (Adds e)) → e ≡ Clear tag (turn_of r (clear_place h) (drop 1 body) o.free) no_draw → ⊥
    clear o is =
        let t = turn_of r (clear_place h) (drop 1 body) o.free in
        let at : shows r h body id (Adds (Clear tag t no_draw)) ≡ true = ap (λ x. shows r h body id (Adds x)) (sym is) ∙ shown in
        let same : id_in_exchange (answer_in t.effect) ≡ id = eqb-true _ id (and_second (takes PSK_EXCHANGE t) _ at) in
        false≢true (sym (fresh_id r h (drop 1 body) o.free (place_for h body) o.allowed (and_first _ _ at)) ∙ ap (is_held h) same ∙ held_before h id may)

    form : (o : ClearLed r h tag body (Adds e)) → ((b : List ℕ) × (Adds e ≡ Same b)) ⊎ (Adds e ≡ Adds (Clear tag (turn_of r (clear_place h) (drop 1 body) o.free) no_draw)) → ⊥
    form o (inl same) = let x = same.1 in absurd (cc)
    form o (inr added) = clear o (let x : Adds e ≡ Adds (Clear tag (turn_of r (clear_place h) (drop 1 body) o.free) no_draw) = added in cc)

    by_type : (b : Bool) → (slice_index body 0 == 5) ≡ b → ⊥
    by_type true is = let o = led_clear r h tag body (Adds e) is one in form o (clear_form r h tag (drop 1 body) o.free (Adds e) o.leads)
    by_type false is =
        let o = led_record r h tag body (Adds e) is one in
        let p = led_record r (Dropped id ∷ h) tag body (Adds e) is two in
        no_record_drop r h (Dropped id ∷ h) tag body id (Adds e) (Adds e) may (form_of r h tag body (Adds e) o) (form_of r (Dropped id ∷ h) tag body (Adds e) p) shown refl

-- Which of two shown ones it is, the entry tells.
one_shown : (r : RspSetup) (h : History) (body : List ℕ) (id other : ℕ) (e : Entry) → shows r h body id (Adds e) ≡ true → shows r h body other (Adds e) ≡ true → id ≡ other
one_shown r h body id other (Clear tag t d) one two =
    sym (eqb-true (id_in_exchange (answer_in t.effect)) id (and_second (takes PSK_EXCHANGE t) _ one)) ∙ eqb-true (id_in_exchange (answer_in t.effect)) other (and_second (takes PSK_EXCHANGE t) _ two)
one_shown r h body id other (Sealed tag m t reply d) one two = absurd (false≢true one)
one_shown r h body id other (Queued bytes) one two = absurd (false≢true one)
one_shown r h body id other (Ticked seconds) one two = absurd (false≢true one)
one_shown r h body id other (Dropped which) one two = absurd (false≢true one)

large_drops : (r : RspSetup) (h : History) (ids others : List ℕ) (tag : ℕ) (body : List ℕ) (e : Entry) → MayLeadAfter r h ids tag body (Adds e) → AreShown r h body (Adds e) ids
    → MayLeadAfter r h others tag body (Adds e) → AreShown r h body (Adds e) others → ids ≡ others
large_drops r h [] [] tag body e one shown two show = refl
large_drops r h (id ∷ []) (other ∷ []) tag body e one shown two show = ap (λ (n : ℕ). n ∷ []) (one_shown r h body id other e shown show)
large_drops r h [] (id ∷ []) tag body e one shown two show = absurd (no_shown r h tag body id e two.0 one.1 two.1 show)
large_drops r h (id ∷ []) [] tag body e one shown two show = absurd (no_shown r h tag body id e one.0 two.1 one.1 shown)
large_drops r h (id ∷ x ∷ xs) others tag body e one shown two show = absurd shown
large_drops r h ids (id ∷ x ∷ xs) tag body e one shown two show = absurd show

led_by : (r : RspSetup) (place : Option ℕ) (whole ids others : List ℕ) (h : History) (e : Entry) (b : Bool) → (MayHaveLed r place whole ids h → MayHaveLed r place whole others h → ids ≡ others)
    → MatchBool b (MayLeadToEntry r ids h (seen whole e)) (MayHaveLed r place whole ids h) → MatchBool b (MayLeadToEntry r others h (seen whole e)) (MayHaveLed r place whole others h) → ids ≡ others
led_by r place whole ids others h e true before one two = large_drops r h ids others (tag_in (seen whole e)) (request_in (seen whole e)) (seen whole e) one.0 one.1 two.0 two.1
led_by r place whole ids others h e false before one two = before one two

pub led_drops : (r : RspSetup) (place : Option ℕ) (whole ids others : List ℕ) (h : History) → MayHaveLed r place whole ids h → MayHaveLed r place whole others h → ids ≡ others
led_drops r place whole ids others [] one two = absurd one
led_drops r place whole ids others (e ∷ h) one two = led_by r place whole ids others h e (is_unseen_in place e) (led_drops r place whole ids others h) one two
