-- Sessions that wait, and sessions that were dropped without a trace.
use Rattle.std.proofs.Common.{refl, ◌∙◌, ◌≡◌, ◌≢◌, ℕ, zero, suc, [], ◌∷◌, true, false, Bool, Option, None, ap, sym, subst, arith}
use Rattle.std.proofs.lemmas.Bool.{false≢true, eq-eqb, eqb-false}
use Rattle.std.proofs.lemmas.Bool.Decides.{nat_tests}
use Rattle.std.specs.Prelude.{◌==◌, ◌-◌, ◌||◌, nat_lt, slice_index_or, if◌then◌else◌}
use Rattle.responder_core.proofs.Recorded.{standing_with}
use Rattle.responder_core.specs.LiveSession.{IsSlotOf}
use Rattle.responder_core.specs.Sessions.{StandsFor, slot_of}
use Rattle.responder_core.specs.declared.in_sessions.live_session.LiveSession.{LiveSession}
use Rattle.responder_core.specs.declared.in_sessions.sessions.Sessions.{Sessions}
use Rattle.responder_machine.proofs.Entries.{session_of-Ticked}
use Rattle.responder_machine.specs.History.{History}
use Rattle.responder_machine.specs.History.Entry.{Dropped, Ticked}
use Rattle.responder_machine.specs.Session.{Events, after_tick, session_of}
use Rattle.responder_machine.specs.Setup.{RspSetup}

-- ---- All of them.

-- What happened to the slot of one id, and to no other.
pub record Visits (r : RspSetup) (change : Events → Events) (id : ℕ) (old new : Sessions) : Type 0 where
  pub own : (s : Events) → IsSlotOf (slot_of old id) r s → IsSlotOf (slot_of new id) r (change s)
  pub others : (i : ℕ) → i ≢ id → slot_of new i ≡ slot_of old i

carried : (r : RspSetup) (change : Events → Events) (id i : ℕ) (old new : Sessions) (s : Events) → Visits r change id old new → (i == id) ≡ false → IsSlotOf (slot_of old i) r s → IsSlotOf (slot_of new i) r s
carried r change id i old new s visits other slot = subst (λ (x : Option LiveSession). IsSlotOf x r s) (sym (visits.others i (eqb-false i id other))) slot

by_tests : (b c : Bool) (x : Option LiveSession) → c ≡ true → (if b || c then None else x) ≡ None
by_tests true c x h = refl
by_tests false true x h = refl
by_tests false false x h = absurd (false≢true h)

nothing_above : (seen : Sessions) (i : ℕ) → nat_lt 4 i ≡ true → slot_of seen i ≡ None
nothing_above seen i h = by_tests (i == 0) (nat_lt 4 i) (slice_index_or seen.slots (i - 1) None) h

five : (n : ℕ) → nat_lt 4 (suc (suc (suc (suc (suc n))))) ≡ true
five n = grind (arith, nat_tests)

pub all_visited : (r : RspSetup) (change : Events → Events) (a b c d e : Sessions) → change [] ≡ []
    → Visits r change 1 a b → Visits r change 2 b c → Visits r change 3 c d → Visits r change 4 d e
    → (i : ℕ) (s : Events) → IsSlotOf (slot_of a i) r s → IsSlotOf (slot_of e i) r (change s)
all_visited r change a b c d e nothing first second third fourth zero s slot = ap change slot ∙ nothing
all_visited r change a b c d e nothing first second third fourth (suc zero) s slot =
    carried r change 4 1 d e (change s) fourth refl (carried r change 3 1 c d (change s) third refl (carried r change 2 1 b c (change s) second refl (first.own s slot)))
all_visited r change a b c d e nothing first second third fourth (suc (suc zero)) s slot =
    carried r change 4 2 d e (change s) fourth refl (carried r change 3 2 c d (change s) third refl (second.own s (carried r change 1 2 a b s first refl slot)))
all_visited r change a b c d e nothing first second third fourth (suc (suc (suc zero))) s slot =
    carried r change 4 3 d e (change s) fourth refl (third.own s (carried r change 2 3 b c s second refl (carried r change 1 3 a b s first refl slot)))
all_visited r change a b c d e nothing first second third fourth (suc (suc (suc (suc zero)))) s slot =
    fourth.own s (carried r change 3 4 c d s third refl (carried r change 2 4 b c s second refl (carried r change 1 4 a b s first refl slot)))
all_visited r change a b c d e nothing first second third fourth (suc (suc (suc (suc (suc n))))) s slot =
    let i : ℕ = suc (suc (suc (suc (suc n)))) in
    let empty : s ≡ [] = subst (λ (x : Option LiveSession). IsSlotOf x r s) (nothing_above a i (five n)) slot in
    subst (λ (x : Option LiveSession). IsSlotOf x r (change s)) (sym (nothing_above e i (five n))) (ap change empty ∙ nothing)

nothing_waits : (seconds : ℕ) → after_tick [] seconds ≡ []
nothing_waits seconds = refl

pub ticked : (r : RspSetup) (h : History) (seconds : ℕ) (a b c d e : Sessions) → StandsFor a r h → e.ended ≡ a.ended
    → Visits r (λ (s : Events). after_tick s seconds) 1 a b → Visits r (λ (s : Events). after_tick s seconds) 2 b c → Visits r (λ (s : Events). after_tick s seconds) 3 c d → Visits r (λ (s : Events). after_tick s seconds) 4 d e
    → StandsFor e r (Ticked seconds ∷ h)
ticked r h seconds a b c d e stands ended first second third fourth = record {
  slots = λ i. subst (λ (s : Events). IsSlotOf (slot_of e i) r s) (sym (session_of-Ticked i seconds h))
      (all_visited r (λ (s : Events). after_tick s seconds) a b c d e (nothing_waits seconds) first second third fourth i (session_of i h) (stands.slots i));
  ended = ended ∙ stands.ended;
}

-- ---- One that was dropped unseen.

session_of-Dropped : (id which : ℕ) (h : History) → session_of id (Dropped which ∷ h) ≡ (if which == id then [] else session_of id h)
unfolding session_of
session_of-Dropped id which h = refl

pub not_same : (a b : ℕ) → a ≢ b → (b == a) ≡ false
not_same a b h = grind (arith, nat_tests)

pub dropped : (r : RspSetup) (h : History) (id : ℕ) (old new : Sessions) → StandsFor old r h → slot_of new id ≡ None → ((i : ℕ) → i ≢ id → slot_of new i ≡ slot_of old i) → new.ended ≡ old.ended
    → StandsFor new r (Dropped id ∷ h)
dropped r h id old new stands own others ended =
    standing_with new r (Dropped id ∷ h) id
    (subst (λ (x : Option LiveSession). IsSlotOf x r (session_of id (Dropped id ∷ h))) (sym own)
    (session_of-Dropped id id h ∙ ap (λ (b : Bool). if b then [] else session_of id h) (eq-eqb id id refl)))
    (λ i other. subst (λ (s : Events). IsSlotOf (slot_of new i) r s) (sym (session_of-Dropped i id h ∙ ap (λ (b : Bool). if b then [] else session_of i h) (not_same i id other)))
    (subst (λ (x : Option LiveSession). IsSlotOf x r (session_of i h)) (sym (others i other)) (stands.slots i)))
    (ended ∙ stands.ended)
