-- The session that a whole large response begins, and whether it was touched since its request.
use Rattle.std.proofs.Common.{◌≡◌, ◌≤◌, ◌==◌, ◌||◌, ◌∙◌, ℕ, List, refl, sym, ap, subst, arith, Bool, true, false, Option, Some, None, cond, inl, inr}
use Rattle.std.specs.Prelude.{is_some, nat_lt}
use Rattle.std.proofs.lemmas.Bool.{false≢true}
use Rattle.std.proofs.lemmas.Bool.Decides.{nat_tests}
use Rattle.check_laws.specs.AnswersShown.{LeadsAt}
use Rattle.check_laws.specs.Changes.{IsFew}
use Rattle.check_fetched_laws.specs.ClearSessions.{IsUnseenRequest}
use Rattle.check_fetched_laws.specs.LastShown.{IsShownEntry, drops_with}
use Rattle.check_fetched_laws.specs.WholeValues.{values_with_whole}
use Rattle.check_fetched_ends.proofs.LastWhole.{answer_seen}
use Rattle.check_fetched_ends.specs.LastMarked.{IsUnmarked, begins_touched, is_touched_at}
use Rattle.check_late_laws.specs.Late.Passed.{touched}
use Rattle.check_late_laws.specs.Late.PassedLast.{touched_by}
use Rattle.check_late_laws.specs.declared.late_fetch.marks.Marks.{Marks}
use Rattle.responder_machine.proofs.Fresh.{IsFresh, exchange-fresh, turn_of-fresh}
use Rattle.responder_machine.specs.Answer.{Free}
use Rattle.responder_machine.specs.Handling.{turn_of}
use Rattle.responder_machine.specs.History.{History}
use Rattle.responder_machine.specs.History.Entry.{Clear}
use Rattle.responder_machine.specs.May.{with_dropped}
use Rattle.responder_machine.specs.Place.{clear_place}
use Rattle.responder_machine.specs.Responder.Outcome.{Adds}
use Rattle.responder_machine.specs.Setup.{RspSetup}
use Rattle.responder_machine.specs.Turn.{Effect, Turn, answer_in, handle_in, takes}
use Rattle.responder_machine.specs.Turn.Effect.{NoEffect, Took, TookData}
use Rattle.spdm_grammar.specs.declared.names.request_code.TheConstants.{PSK_EXCHANGE}
use Rattle.spdm_machine.specs.Bodies.{clear_body}
use Rattle.spdm_machine.specs.Sessions.{id_in_exchange}
use Rattle.capture_machine.proofs.DropsTell.{clear_form}
use Rattle.capture_machine.proofs.FetchedSessions.{takes_with}
use Rattle.capture_machine.specs.LargeAnswers.{effect_with, handle_shown, id_begun, is_unseen_effect, seen, seen_turn}
use Rattle.capture_machine.specs.Rounds.{no_draw}

-- With its bytes the answer goes by LargeResponse.
pub large_seen : (w : List ℕ) (k : ℕ) (e : Effect) → is_unseen_effect e ≡ true → is_some (handle_in (effect_with w (Some k) e)) ≡ true
large_seen w k NoEffect is = absurd (false≢true is)
large_seen w k (Took a m old large) is = refl
large_seen w k (TookData bytes old) is = absurd (false≢true is)

-- ---- The id.

pub begun_is : (tag : ℕ) (t : Turn) (v : List ℕ) → IsUnseenRequest (Clear tag t no_draw) → id_begun (seen v (Clear tag t no_draw)) ≡ cond (takes PSK_EXCHANGE t) (Some (id_in_exchange v)) None
begun_is tag t v unseen =
    ap (λ (b : Bool). cond b (Some (id_in_exchange (answer_in (seen_turn v t).effect))) None) (takes_with v (Some (handle_shown t)) PSK_EXCHANGE t)
    ∙ ap (λ (l : List ℕ). cond (takes PSK_EXCHANGE t) (Some (id_in_exchange l)) None) (answer_seen v (handle_shown t) t.effect unseen.0)

-- Where the request leads to the bytes, it is from 1 to 4.
pub few_led : (r : RspSetup) (g : History) (tag : ℕ) (t : Turn) (v : List ℕ) (f : Free) → IsUnseenRequest (Clear tag t no_draw) → takes PSK_EXCHANGE t ≡ true → LeadsAt r g tag (clear_body t.message) (Adds (seen v (Clear tag t no_draw))) f
    → IsFew (id_in_exchange v)
few_led r g tag t v f unseen psk leads =
    let turn : seen_turn v t ≡ turn_of r (clear_place g) t.message f =
    elim (clear_form r g tag t.message f (Adds (seen v (Clear tag t no_draw))) leads.2) [
      | inl same ↦ absurd (let x = same.1 in cc)
      | inr adds ↦ cc adds
    ] in
    let fresh : IsFresh (clear_place g).past_handshake f.id (seen_turn v t).effect = subst (λ (u : Turn). IsFresh (clear_place g).past_handshake f.id u.effect) (sym turn) (turn_of-fresh r (clear_place g) t.message f leads.0.most) in
    subst (λ (l : List ℕ). IsFew (id_in_exchange l)) (answer_seen v (handle_shown t) t.effect unseen.0)
    (subst IsFew (sym (exchange-fresh (clear_place g).past_handshake f.id (seen_turn v t).effect (takes_with v (Some (handle_shown t)) PSK_EXCHANGE t ∙ psk) fresh).0) (leads.0.least, leads.0.most))

few_shown : (r : RspSetup) (tag : ℕ) (t : Turn) (before : History) (v : List ℕ) → IsUnseenRequest (Clear tag t no_draw) → takes PSK_EXCHANGE t ≡ true → IsShownEntry r before (seen v (Clear tag t no_draw)) → IsFew (id_in_exchange v)
few_shown r tag t before v unseen psk shown =
    let g : History = with_dropped before (drops_with before (seen v (Clear tag t no_draw))) in
    few_led r g tag t v (values_with_whole r g tag (clear_body t.message) (clear_body t.reply) (answer_in (seen_turn v t).effect)) unseen psk shown

-- ---- Its mark.

not_either : (a b : Bool) → a ≡ false → b ≡ false → (a || b) ≡ false
not_either false b one other = other
not_either true b one other = absurd (false≢true (sym one))

not_zero : (id : ℕ) → 1 ≤ id → (id == 0) ≡ false
not_zero id least = grind (arith, nat_tests)

not_more : (id : ℕ) → id ≤ 4 → nat_lt 4 id ≡ false
not_more id most = grind (arith, nat_tests)

few_touched : (id : ℕ) (h : History) → IsFew id → is_touched_at id h ≡ touched id h
few_touched id h few = ap (λ (b : Bool). cond b false (touched id h)) (not_either (id == 0) (nat_lt 4 id) (not_zero id few.0) (not_more id few.1))

untouched_none : (id : ℕ) (h : History) → touched id h ≡ false → is_touched_at id h ≡ false
untouched_none id h none = by_few (id == 0 || nat_lt 4 id)
  where
    by_few : (b : Bool) → cond b false (touched id h) ≡ false
    by_few true = refl
    by_few false = none

-- No mark is set of it.
pub unmarked_by : (late : Option Marks) (exchange : Bool) (tag : ℕ) (t : Turn) (before : History) (v : List ℕ) → IsUnseenRequest (Clear tag t no_draw) → takes PSK_EXCHANGE t ≡ exchange → (takes PSK_EXCHANGE t ≡ true → IsFew (id_in_exchange v))
    → begins_touched late exchange v before ≡ false → IsUnmarked late before (seen v (Clear tag t no_draw))
unmarked_by None exchange tag t before v unseen is few none = tt
unmarked_by (Some marks) exchange tag t before v unseen is few none = ap (λ (o : Option ℕ). touched_by o before) (begun_is tag t v unseen) ∙ by_code exchange is none
  where
    by_code : (b : Bool) → takes PSK_EXCHANGE t ≡ b → cond b (is_touched_at (id_in_exchange v) before) false ≡ false → touched_by (cond (takes PSK_EXCHANGE t) (Some (id_in_exchange v)) None) before ≡ false
    by_code true psk other = ap (λ (b : Bool). touched_by (cond b (Some (id_in_exchange v)) None) before) psk ∙ sym (few_touched (id_in_exchange v) before (few psk)) ∙ other
    by_code false not_it other = ap (λ (b : Bool). touched_by (cond b (Some (id_in_exchange v)) None) before) not_it

pub unmarked_shown : (r : RspSetup) (late : Option Marks) (exchange : Bool) (tag : ℕ) (t : Turn) (before : History) (v : List ℕ) → IsUnseenRequest (Clear tag t no_draw) → takes PSK_EXCHANGE t ≡ exchange
    → begins_touched late exchange v before ≡ false → IsShownEntry r before (seen v (Clear tag t no_draw)) → IsUnmarked late before (seen v (Clear tag t no_draw))
unmarked_shown r late exchange tag t before v unseen is none shown = unmarked_by late exchange tag t before v unseen is (λ psk. few_shown r tag t before v unseen psk shown) none

-- One is.
pub marked_not : (late : Option Marks) (exchange : Bool) (tag : ℕ) (t : Turn) (before : History) (v : List ℕ) → IsUnseenRequest (Clear tag t no_draw) → takes PSK_EXCHANGE t ≡ exchange → begins_touched late exchange v before ≡ true
    → IsUnmarked late before (seen v (Clear tag t no_draw)) → ⊥
marked_not None exchange tag t before v unseen is one none = absurd (false≢true one)
marked_not (Some marks) exchange tag t before v unseen is one none = by_code exchange is one
  where
    by_code : (b : Bool) → takes PSK_EXCHANGE t ≡ b → cond b (is_touched_at (id_in_exchange v) before) false ≡ true → ⊥
    by_code true psk it =
        let clean : touched (id_in_exchange v) before ≡ false = sym (ap (λ (b : Bool). touched_by (cond b (Some (id_in_exchange v)) None) before) psk) ∙ sym (ap (λ (o : Option ℕ). touched_by o before) (begun_is tag t v unseen)) ∙ none in
        false≢true (sym (untouched_none (id_in_exchange v) before clean) ∙ it)
    by_code false not_it it = false≢true it
