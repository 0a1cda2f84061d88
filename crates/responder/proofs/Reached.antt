-- What a responder keeps over every step.
use Rattle.std.proofs.Common.{◌≡◌, ◌≢◌, ◌≤◌, ◌<◌, ◌∙◌, ◌+◌, ◌-◌, ◌^◌, ℕ, List, [], ◌∷◌, map, ap, sym, subst, inl, inr, arith, lit<}
use Rattle.std.specs.List.{AllByRecursion}
use Rattle.responder_core.specs.ClearPart.{is_drawn}
use Rattle.responder.specs.Came.{Came, draws_in, history_after}
use Rattle.responder.specs.Came.Came.{Does, Told}
use Rattle.responder.specs.Standing.{AreApart, IsReached, last_first}
use Rattle.responder_machine.proofs.Connected.{KeepsSetup, PeersDiffer, count_changed}
use Rattle.responder_machine.proofs.Runs.{runs_bounded}
use Rattle.responder_machine.proofs.Within.{connection_within}
use Rattle.responder_machine.specs.BoundLaws.{messages_of}
use Rattle.responder_machine.specs.History.{History, draws_of}
use Rattle.responder_machine.specs.History.Entry.{Clear, Dropped, Queued, Sealed, Ticked}
use Rattle.responder_machine.specs.Independence.{Given, IsRun, after_given}
use Rattle.responder_machine.specs.Responder.{Outcome, after}
use Rattle.responder_machine.specs.Responder.Outcome.{Adds, Same, Unopened}
use Rattle.responder_machine.specs.Responding.{Connection, Responding, all_draws, over_all, with_history}
use Rattle.responder_machine.specs.Setup.{RspSetup}
use Rattle.responder_machine.specs.Turn.{takes_draw}
use Rattle.spdm_machine.proofs.Members.{IsIn}
use Rattle.session_keys.proofs.Draws.{counted_as}
use Rattle.session_keys.specs.Drawing.{drawn_by}

pub run_is : (r : Responding) (x : IsReached r) → IsRun x.end r
run_is r x = subst (IsRun x.end) (sym x.is) (runs_bounded x.end x.all x.apart)

pub after_reached : (r : Responding) (g : Given) → IsReached r → IsReached (after_given g r)
after_reached r g x = record { end = x.end; all = g ∷ x.all; apart = x.apart; is = ap (after_given g) x.is }

pub count_in : (count : History → ℕ) (cs : List Connection) (c : Connection) → IsIn cs c → count c.history ≤ over_all count cs
count_in count [] c m = absurd m
count_in count (d ∷ others) c m = elim m [
  | inl e ↦ (let same = ap (λ (x : Connection). count x.history) e in omega (arith, same))
  | inr l ↦ (let rest = count_in count others c l in omega (arith, rest))
]

all_in : (eid : ℕ) (cs : List Connection) → AllByRecursion (λ (d : Connection). d.setup.peer ≢ eid) cs → (d : Connection) → IsIn cs d → d.setup.peer ≡ eid → ⊥
all_in eid [] all d m same = m
all_in eid (c ∷ others) all d m same = elim m [ inl e ↦ all.0 (sym (ap (λ (x : Connection). x.setup.peer) e) ∙ same) | inr l ↦ all_in eid others all.1 d l same ]

pub differ : (cs : List Connection) → AreApart cs → PeersDiffer cs
differ [] apart = tt
differ (c ∷ others) apart = (all_in c.setup.peer others apart.0, differ others apart.1)

none_stays : (f : Connection → Connection) (eid : ℕ) (cs : List Connection) → KeepsSetup f → AllByRecursion (λ (d : Connection). d.setup.peer ≢ eid) cs → AllByRecursion (λ (d : Connection). d.setup.peer ≢ eid) (map f cs)
none_stays f eid [] keeps all = tt
none_stays f eid (c ∷ others) keeps all = ((λ same. all.0 (sym (ap (λ (s : RspSetup). s.peer) (keeps c)) ∙ same)), none_stays f eid others keeps all.1)

pub apart_stays : (f : Connection → Connection) (cs : List Connection) → KeepsSetup f → AreApart cs → AreApart (map f cs)
apart_stays f [] keeps apart = tt
apart_stays f (c ∷ others) keeps apart = (
  subst (λ (s : RspSetup). AllByRecursion (λ (d : Connection). d.setup.peer ≢ s.peer) (map f others)) (sym (keeps c)) (none_stays f c.setup.peer others keeps apart.0),
  apart_stays f others keeps apart.1,
)

-- ---- Draws.

pub draws_after : (h : History) (o : Outcome) → draws_of (after h o) ≡ draws_of h + drawn_by (is_drawn o)
draws_after h (Same body) = omega arith
draws_after h (Unopened body) = omega arith
draws_after h (Adds (Clear tag t d)) = counted_as (takes_draw t) (draws_of h)
draws_after h (Adds (Sealed tag m t reply d)) = counted_as (takes_draw t) (draws_of h)
draws_after h (Adds (Queued bytes)) = omega arith
draws_after h (Adds (Ticked seconds)) = omega arith
draws_after h (Adds (Dropped id)) = omega arith

draws_came : (h : History) (x : Came) → draws_of (history_after h x) ≡ draws_of h + draws_in x
draws_came h (Told told) = omega arith
draws_came h (Does route body o) = draws_after h o

pub all_draws_after : (cs : List Connection) (c : Connection) (x : Came) → AreApart cs → IsIn cs c → all_draws (with_history c.setup.peer (λ h. history_after h x) cs) ≡ all_draws cs + draws_in x
all_draws_after cs c x apart m =
    let changed = count_changed draws_of (λ h. history_after h x) cs c (differ cs apart) m in
    let own = draws_came c.history x in
    omega (arith, changed, own)

draws_few : (cs : List Connection) → all_draws cs ≤ over_all messages_of cs
draws_few [] = omega arith
draws_few (c ∷ others) = (let own = (connection_within c.history).draws in let rest = draws_few others in omega (arith, own, rest))

pub number_few : (r : Responding) → IsReached r → r.first ≤ last_first → r.first + all_draws r.connections < 2 ^ 64 - 1
number_few r x first =
    let run = run_is r x in
    let draws = draws_few r.connections in
    let messages = run.messages in
    let limit = run.limit in
    let most : last_first + 2 ^ 40 < 2 ^ 64 - 1 = lit< tt in
    omega (arith, first, draws, messages, limit, most)

pub messages_few : (r : Responding) → IsReached r → (c : Connection) → IsIn r.connections c → messages_of c.history < 2 ^ 64 - 1
messages_few r x c m =
    let run = run_is r x in
    let own = count_in messages_of r.connections c m in
    let messages = run.messages in
    let limit = run.limit in
    let most : 2 ^ 40 < 2 ^ 64 - 1 = lit< tt in
    omega (arith, own, messages, limit, most)
