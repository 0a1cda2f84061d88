-- An answer shows the values that a body was answered at.
use Rattle.std.proofs.Common.{◌≡◌, ◌<◌, ◌≤◌, ◌==◌, ℕ, List, [], ◌∷◌, refl, ap, ◌∙◌, subst, length, drop, Bool, true, false, Option, Some, None, cond, arith}
use Rattle.std.specs.Prelude.{slice_index}
use Rattle.std.proofs.lemmas.Bool.{not-true}
use Rattle.responder_machine.specs.Answer.{Free, request_at}
use Rattle.responder_machine.specs.Handling.{chunk_in, turn_of}
use Rattle.responder_machine.specs.History.{Entry, History, clear_turns, ended_of, kept_of, phase_of}
use Rattle.responder_machine.specs.History.Entry.{Clear, Sealed, Queued, Ticked, Dropped}
use Rattle.responder_machine.specs.May.{IsAllowed, on_body, place_for}
use Rattle.responder_machine.specs.Place.{Place, clear_place, session_place}
use Rattle.responder_machine.specs.Records.{opened, opening_fault}
use Rattle.responder_machine.specs.Responder.{Outcome, body_of, in_session, in_session_by, is_repeat, kept_record, kept_reply, on_clear, on_record, repeats, sealed_entry, sent_by, session_turn, to_session}
use Rattle.responder_machine.specs.Responder.Outcome.{Same, Unopened, Adds}
use Rattle.responder_machine.specs.Session.{Events, id_in_record, last_of, session_of}
use Rattle.responder_machine.specs.Setup.{RspSetup}
use Rattle.spdm_basis.specs.declared.causes.record_fault.RecordFault.{RecordFault}
use Rattle.spdm_grammar.specs.declared.names.TheConstants.{MAX_MESSAGE_SIZE}
use Rattle.spdm_grammar.specs.declared.told.phase.Phase.{Phase}
use Rattle.spdm_machine.specs.Bodies.{clear_body, record_body}
use Rattle.check_laws.proofs.LeastValues.{least_allowed, least_are, no_longer}
use Rattle.check_laws.proofs.SessionShown.{record_gives, updates_alike}
use Rattle.check_laws.proofs.TurnShown.{least_at, turn_gives, turn_reply}
use Rattle.check_laws.specs.AnswersShown.{AnswersAreShown, LargeAreShown, LeadsAt, answered_text, clear_values, is_whole, least_values, record_values, values_in_reply, values_in_text, values_shown_by}
use Rattle.capture_machine.proofs.PlainTells.{entries_erased, entries_same}
use Rattle.capture_machine.proofs.RecordsTell.{one_place, record_told}
use Rattle.capture_machine.proofs.RepliesTell.{EntriesAlike, OutcomesAlike, clear_told}
use Rattle.capture_machine.specs.CapturedAnswers.{MayLeadTo, answer_to, clear_answer, record_answer}
use Rattle.capture_machine.specs.LargeAnswers.{unseen, is_large}
use Rattle.capture_machine.specs.Opening.{any_free, turn_in}
use Rattle.capture_machine.specs.Rounds.{no_draw}

-- ---- In the clear.

module _ (r : RspSetup) (h : History) (tag : ℕ) (m : List ℕ) (byte : r.beat < 256) where
  abbrev p : Place
  p = clear_place h

  abbrev k : Free
  k = least_values h p

  -- By whether it is a repeat.
  abbrev clear_by : Bool → Free → Outcome
  clear_by again f = cond again (Same (clear_body (kept_reply (kept_of h)))) (Adds (Clear tag (turn_of r p m f) no_draw))

  abbrev clear_shown : (answer : List ℕ) → Outcome → Free
  clear_shown answer (Adds entry) = clear_values r h m (drop 1 answer)
  clear_shown answer _ = k

  -- The values that the answer shows give it.
  clear_gives : (again : Bool) (f : Free) → IsAllowed h p f → length (clear_answer r p m f) ≤ MAX_MESSAGE_SIZE → let v = clear_shown (body_of (clear_by again f)) (clear_by again k) in
      IsAllowed h p v × (length (clear_answer r p m v) ≤ MAX_MESSAGE_SIZE) × (body_of (clear_by again v) ≡ body_of (clear_by again f))
  clear_gives true f fits short =
      let less = least_at r h p m f k byte fits (least_allowed h p [] (omega arith)) (least_are h p []) (chunk_in (request_at p m)) in
      (least_allowed h p [] (omega arith), omega (arith, less, short), refl)
  clear_gives false f fits short =
      let gives = turn_gives r h p m f k byte fits (least_allowed h p [] (omega arith)) (least_are h p []) short in
      (gives.allowed, gives.short, ap clear_body (turn_reply r h p m f (values_in_reply r p m k (turn_of r p m f).reply (chunk_in (request_at p m))) gives))

-- ---- In a session.

module _ (r : RspSetup) (h : History) (tag : ℕ) (sealed : List ℕ) (byte : r.beat < 256) where
  abbrev least_in : Events → Free
  least_in s = least_values h (session_place s)

  abbrev record_shown : Events → (answer : List ℕ) → Outcome → Free
  record_shown s answer (Adds entry) = values_in_text r s (opened r.psk s sealed) (least_in s) (answered_text r s (turn_in r s sealed) (drop 1 answer))
  record_shown s answer _ = least_in s

  -- Where a record leads to this at each choice, the values that the answer shows give it.
  abbrev Gives : Events → (Free → Outcome) → Type 0
  Gives s at = (f : Free) → IsAllowed h (session_place s) f → length (record_answer r s sealed f) ≤ MAX_MESSAGE_SIZE → let v = record_shown s (body_of (at f)) (at (least_in s)) in
      IsAllowed h (session_place s) v × (length (record_answer r s sealed v) ≤ MAX_MESSAGE_SIZE) × (body_of (at v) ≡ body_of (at f))

  least_short : (s : Events) (f : Free) → IsAllowed h (session_place s) f → length (record_answer r s sealed f) ≤ MAX_MESSAGE_SIZE → length (record_answer r s sealed (least_in s)) ≤ MAX_MESSAGE_SIZE
  least_short s f fits short =
      let less = no_longer r h (session_place s) (drop 1 (opened r.psk s sealed)) f (least_in s) fits (least_allowed h (session_place s) [] (omega arith)) (least_are h (session_place s) []) in
      omega (arith, less, short)

  added_gives : (s : Events) → Gives s (λ v. Adds (sealed_entry r s v tag sealed no_draw (session_turn r s (opened r.psk s sealed) v)))
  added_gives s f fits short =
      let inner : List ℕ = opened r.psk s sealed in
      let gives = record_gives r h s inner f (turn_in r s sealed) byte fits short (updates_alike r s inner any_free f) in
      (gives.allowed, gives.short, ap record_body gives.reply)

  opening_gives : (phase : Phase) (s : Events) (x : Option RecordFault) → Gives s (λ v. in_session_by r phase s v tag sealed no_draw x)
  opening_gives phase s (Some fault) f fits short = (least_allowed h (session_place s) [] (omega arith), least_short s f fits short, refl)
  opening_gives phase s None f fits short = added_gives s f fits short

  session_gives : (phase : Phase) (s : Events) (again : Bool) (kept : List ℕ) → Gives s (λ v. cond again (Same kept) (in_session r phase s v tag sealed no_draw))
  unfolding in_session
  session_gives phase s true kept f fits short = (least_allowed h (session_place s) [] (omega arith), least_short s f fits short, refl)
  session_gives phase s false kept f fits short = opening_gives phase s (opening_fault r.psk s sealed) f fits short

  to_gives : (phase : Phase) (s : Events) → Gives s (λ v. to_session r phase s v tag sealed no_draw)
  to_gives phase [] f fits short = (least_allowed h (session_place []) [] (omega arith), least_short [] f fits short, refl)
  to_gives phase (x ∷ s) f fits short = session_gives phase (x ∷ s) (repeats (last_of (x ∷ s)) sealed) (record_body (kept_record (last_of (x ∷ s)))) f fits short

  ended_gives : (again : Bool) (kept : List ℕ) (phase : Phase) (s : Events) → Gives s (λ v. cond again (Same kept) (to_session r phase s v tag sealed no_draw))
  ended_gives true kept phase s f fits short = (least_allowed h (session_place s) [] (omega arith), least_short s f fits short, refl)
  ended_gives false kept phase s f fits short = to_gives phase s f fits short

-- ---- A body.

module _ (r : RspSetup) (h : History) (tag : ℕ) (body : List ℕ) (byte : r.beat < 256) where
  abbrev pub events : Events
  events = session_of (id_in_record (drop 1 body)) h

  abbrev pub place_by : Bool → Place
  place_by clear = cond clear (clear_place h) (session_place events)

  abbrev outcome_by : Bool → Free → Outcome
  outcome_by clear f = cond clear (on_clear r h tag (drop 1 body) f no_draw) (on_record r h tag (drop 1 body) f no_draw)

  abbrev IsShort : Bool → Free → Type 0
  IsShort clear f = length (cond clear (clear_answer r (clear_place h) (drop 1 body) f) (record_answer r events (drop 1 body) f)) ≤ MAX_MESSAGE_SIZE

  abbrev pub shown_by : Bool → (answer : List ℕ) → Outcome → Free
  shown_by clear answer (Adds entry) = cond clear (clear_values r h (drop 1 body) (drop 1 answer)) (record_values r h (drop 1 body) (drop 1 answer))
  shown_by clear answer _ = least_values h (place_by clear)

  abbrev value_of : Bool → Free → Free
  value_of clear f = shown_by clear (body_of (outcome_by clear f)) (outcome_by clear (least_values h (place_by clear)))

  abbrev GivesBody : Bool → Free → Free → Type 0
  GivesBody clear f v = IsAllowed h (place_by clear) v × IsShort clear v × (body_of (outcome_by clear v) ≡ body_of (outcome_by clear f))

  by_type : (clear : Bool) (f : Free) → IsAllowed h (place_by clear) f → IsShort clear f → GivesBody clear f (value_of clear f)
  unfolding on_clear on_record
  by_type true f fits short = clear_as (clear_by r h tag (drop 1 body) byte (is_repeat (kept_of h) tag (drop 1 body)) (least_values h (clear_place h)))
      (clear_gives r h tag (drop 1 body) byte (is_repeat (kept_of h) tag (drop 1 body)) f fits short)
    where
      clear_as : (x : Outcome) → GivesBody true f (clear_shown r h tag (drop 1 body) byte (body_of (outcome_by true f)) x) → GivesBody true f (shown_by true (body_of (outcome_by true f)) x)
      clear_as (Same b) gives = gives
      clear_as (Unopened b) gives = gives
      clear_as (Adds e) gives = gives
  by_type false f fits short = record_as (outcome_by false (least_values h (session_place events)))
      (ended_gives r h tag (drop 1 body) byte (repeats (ended_of h) (drop 1 body)) (record_body (kept_record (ended_of h))) (phase_of (clear_turns h)) events f fits short)
    where
      record_as : (x : Outcome) → GivesBody false f (record_shown r h tag (drop 1 body) byte events (body_of (outcome_by false f)) x) → GivesBody false f (shown_by false (body_of (outcome_by false f)) x)
      record_as (Same b) gives = gives
      record_as (Unopened b) gives = gives
      record_as (Adds e) gives = gives

  -- One body tells the outcome.
  alike_by : (clear : Bool) (f v : Free) → IsAllowed h (place_by clear) f → IsShort clear f → GivesBody clear f v → OutcomesAlike (outcome_by clear v) (outcome_by clear f)
  alike_by true f v fits short gives = clear_told r h h tag (drop 1 body) v f no_draw refl (one_place (clear_place h) (drop 1 body)) gives.2
  alike_by false f v fits short gives = record_told r tag v f no_draw gives.0.reply fits.reply h (drop 1 body) gives.1 short gives.2

  -- What the values that an answer shows lead to.
  pub values_lead : (f : Free) → IsAllowed h (place_for h body) f → length (answer_to r h body f) ≤ MAX_MESSAGE_SIZE → let o = on_body r h tag body f no_draw in let v = values_shown_by r h tag body (body_of o) in
      IsAllowed h (place_for h body) v × (length (answer_to r h body v) ≤ MAX_MESSAGE_SIZE) × OutcomesAlike (on_body r h tag body v no_draw) o
  unfolding values_shown_by
  values_lead f fits short =
      let clear : Bool = slice_index body 0 == 5 in
      let gives = by_type clear f fits short in
      (gives.0, gives.1, alike_by clear f (value_of clear f) fits short gives)

entries_sent : (e f : Entry) → EntriesAlike e f → sent_by e ≡ sent_by f
entries_sent (Clear tag t d) (Clear tag' u d') alike = ap clear_body alike.1.reply
entries_sent (Sealed tag m t reply d) (Sealed tag' n u answer d') alike = ap record_body alike.3
entries_sent (Clear tag t d) (Sealed tag' n u answer d') alike = absurd alike
entries_sent (Clear tag t d) (Queued bytes) alike = absurd alike
entries_sent (Clear tag t d) (Ticked seconds) alike = absurd alike
entries_sent (Clear tag t d) (Dropped id) alike = absurd alike
entries_sent (Sealed tag m t reply d) (Clear tag' u d') alike = absurd alike
entries_sent (Sealed tag m t reply d) (Queued bytes) alike = absurd alike
entries_sent (Sealed tag m t reply d) (Ticked seconds) alike = absurd alike
entries_sent (Sealed tag m t reply d) (Dropped id) alike = absurd alike
entries_sent (Queued bytes) f alike = absurd alike
entries_sent (Ticked seconds) f alike = absurd alike
entries_sent (Dropped id) f alike = absurd alike

-- An outcome that brings no LargeResponse is told.
pub outcomes_same : (x o : Outcome) → OutcomesAlike x o → is_whole o ≡ true → x ≡ o
outcomes_same (Same a) (Same b) alike whole = ap Same alike
outcomes_same (Unopened a) (Unopened b) alike whole = ap Unopened alike
outcomes_same (Adds e) (Adds f) alike whole = ap Adds (entries_same e f alike ((entries_erased e f alike).1 ∙ not-true _ whole))
outcomes_same (Same a) (Unopened b) alike whole = absurd alike
outcomes_same (Same a) (Adds f) alike whole = absurd alike
outcomes_same (Unopened a) (Same b) alike whole = absurd alike
outcomes_same (Unopened a) (Adds f) alike whole = absurd alike
outcomes_same (Adds e) (Same b) alike whole = absurd alike
outcomes_same (Adds e) (Unopened b) alike whole = absurd alike

pub answers_are_shown : AnswersAreShown
unfolding MayLeadTo
answers_are_shown r h tag body o byte whole = (to_shown, λ leads. (values_shown_by r h tag body (body_of o), leads.0, leads.1, leads.2))
  where
    to_shown : MayLeadTo r h tag body o → LeadsAt r h tag body o (values_shown_by r h tag body (body_of o))
    to_shown may =
        let known = values_lead r h tag body byte may.0 may.1 may.2 in
        let P : Outcome → Type 0 = λ x. is_whole x ≡ true → LeadsAt r h tag body x (values_shown_by r h tag body (body_of x)) in
        subst P may.3 (λ is. (known.0, known.1, outcomes_same _ _ known.2 is)) whole

pub large_are_shown : LargeAreShown
unfolding MayLeadTo
large_are_shown r h tag body entry byte large may = (by_outcome (on_body r h tag body v no_draw) refl alike)
  where
    v : Free
    v = values_shown_by r h tag body (sent_by entry)

    known : IsAllowed h (place_for h body) v × (length (answer_to r h body v) ≤ MAX_MESSAGE_SIZE) × OutcomesAlike (on_body r h tag body v no_draw) (Adds entry)
    known =
        let P : Outcome → Type 0 = λ x. IsAllowed h (place_for h body) (values_shown_by r h tag body (body_of x)) × (length (answer_to r h body (values_shown_by r h tag body (body_of x))) ≤ MAX_MESSAGE_SIZE)
        × OutcomesAlike (on_body r h tag body (values_shown_by r h tag body (body_of x)) no_draw) x in
        subst P may.3 (values_lead r h tag body byte may.0 may.1 may.2)

    alike : OutcomesAlike (on_body r h tag body v no_draw) (Adds entry)
    alike = known.2

    by_outcome : (x : Outcome) → on_body r h tag body v no_draw ≡ x → OutcomesAlike x (Adds entry)
        → (other : Entry) × LeadsAt r h tag body (Adds other) v × (is_large other ≡ true) × (sent_by other ≡ sent_by entry) × (unseen other ≡ unseen entry)
    by_outcome (Same b) is same = absurd same
    by_outcome (Unopened b) is same = absurd same
    by_outcome (Adds other) is same =
        let told = entries_erased other entry same in
        (other, (known.0, known.1, is), told.1 ∙ large, entries_sent other entry same, told.0)
