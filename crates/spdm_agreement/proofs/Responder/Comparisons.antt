-- Moves of the ends of one key that lead from one state to another, and the comparisons among them.
use Rattle.std.proofs.Common.{◌≡◌, ℕ, List, [], ◌∷◌, ◌++◌, refl, sym, subst, inr}
use Rattle.key_schedule.specs.Purpose.{Purpose}
use Rattle.spdm_machine.specs.TagLog.{Act, Log}
use Rattle.spdm_machine.specs.TagLog.Act.{Made, Checked}
use Rattle.spdm_agreement.specs.Marks.{Asked, Served}
use Rattle.spdm_agreement.specs.Moves.{State, Move, IsPassed, after, IsLegal, IsRun}
use Rattle.spdm_agreement.specs.Moves.Move.{Check}
use Rattle.spdm_agreement.specs.Reading.{Reading}
use Rattle.spdm_agreement.proofs.Moves.Foreign.{IsOwn, AreOwn}

-- Own moves lead from one state to another.
pub record IsMoved (r : Reading) (s z : State) : Type 0 where
  pub moves : List Move
  pub own : AreOwn moves
  pub run : IsRun r moves s z

pub stays : (r : Reading) (s : State) → IsMoved r s s
stays r s = record { moves = []; own = tt; run = refl }

pub moves_by : (r : Reading) (m : Move) (s z : State) → IsOwn m → IsLegal r m s → after r m s ≡ z → IsMoved r s z
moves_by r m s z own legal is = record { moves = m ∷ []; own = (own, tt); run = (legal, is) }

chained : (r : Reading) (ms ns : List Move) (s y z : State) → AreOwn ms → AreOwn ns → IsRun r ms s y → IsRun r ns y z → IsMoved r s z
chained r [] ns s y z o p run k = record { moves = ns; own = p; run = subst (λ (x : State). IsRun r ns x z) (sym run) k }
chained r (m ∷ ms) ns s y z o p run k =
    let l = chained r ms ns (after r m s) y z o.1 p run.1 k in
    record { moves = m ∷ l.moves; own = (o.0, l.own); run = (run.0, l.run) }

pub chain : (r : Reading) (s y z : State) → IsMoved r s y → IsMoved r y z → IsMoved r s z
chain r s y z a b = chained r a.moves b.moves s y z a.own b.own a.run b.run

-- All these acts are comparisons.
abbrev pub AreChecks : List Act → Type 0
AreChecks [] = Unit {0}
AreChecks (Checked p i v w ∷ older) = AreChecks older
AreChecks (Made p i v ∷ older) = ⊥

pub checks : (r : Reading) (asked : List Asked) (served : List Served) (cs : List Act) (log : Log) → AreChecks cs → IsMoved r (record { asked = asked; served = served; log = log }) (record { asked = asked; served = served; log = cs ++ log })
checks r asked served [] log are = stays r _
checks r asked served (Checked p i v w ∷ cs) log are =
    chain r _ _ _ (checks r asked served cs log are)
    (moves_by r (Check p i v w) (record { asked = asked; served = served; log = cs ++ log }) (record { asked = asked; served = served; log = Checked p i v w ∷ cs ++ log }) tt tt refl)
checks r asked served (Made p i v ∷ cs) log are = absurd are

-- A comparison that was right stays so.
pub passed_before : (p : Purpose) (i : List ℕ) (acts : List Act) (log : Log) → IsPassed p i log → IsPassed p i (acts ++ log)
passed_before p i [] log x = x
passed_before p i (Made q j v ∷ acts) log x = passed_before p i acts log x
passed_before p i (Checked q j v w ∷ acts) log x = inr (passed_before p i acts log x)
