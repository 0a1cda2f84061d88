-- All requesters where no packet came yet.
use Rattle.std.proofs.Common.{◌≡◌, ◌<◌, ◌+◌, ◌++◌, ◌∙◌, ℕ, zero, suc, List, [], ◌∷◌, arith, ap, sym, subst, length, map, take, drop, get_or}
use Rattle.std.proofs.Math.Seq.{drop-cons}
use Rattle.std.proofs.lemmas.List.{get_or-map, length-take-le, take-append-drop, take_more}
use Rattle.std.specs.List.{AllByRecursion}
use Rattle.requester_machine.specs.Setup.{ReqSetup}
use Rattle.check_laws.proofs.RowsKept.{numbers_are_order}
use Rattle.script_ends.specs.Configured.{requester_in}
use Rattle.script_text.specs.declared.configuration.config.ReqPart.{ReqPart}
use Rattle.trace_check.specs.Checker.{AreKept}
use Rattle.trace_check.specs.JudgedPair.{StandsFor}
use Rattle.trace_check.specs.Limits.{AreSound, IsSound}
use Rattle.trace_check.specs.declared.judged_pair.JudgedPair.{JudgedPair}
use Rattle.capture_machine.specs.SessionTable.{number_from}
use Rattle.world_machine.specs.Setup.{Configuration}

-- One requester more.
appended : (xs : List JudgedPair) (w : Configuration) (qs : List ReqSetup) (x : JudgedPair) (q : ReqSetup) → AreKept xs w [] [] qs → StandsFor x w q [] [] → AreKept (xs ++ x ∷ []) w [] [] (qs ++ q ∷ [])
appended [] w [] x q are s = (s, tt)
appended (y ∷ ys) w (o ∷ os) x q are s = (are.0, appended ys w os x q are.1 s)
appended [] w (o ∷ os) x q are s = absurd are
appended (y ∷ ys) w [] x q are s = absurd are

sound_at : (qs : List ReqSetup) (i : ℕ) (d : ReqSetup) → AllByRecursion IsSound qs → i < length qs → IsSound (get_or qs i d)
sound_at [] i d all few = absurd (omega (arith, few))
sound_at (q ∷ qs) zero d all few = all.0
sound_at (q ∷ qs) (suc i) d all few = sound_at qs i d all.1 (omega (arith, few))

module _ (w : Configuration) (own i : ℕ) (parts : List ReqPart) (part : ReqPart) (sound : AreSound w) (all : w.requesters ≡ map (requester_in own) parts) (few : i < length w.requesters) (less : i < length parts) (at : part ≡ get_or parts i part) where
  abbrev q : ReqSetup
  q = requester_in own part

  it_is : get_or w.requesters i q ≡ q
  it_is = ap (λ (l : List ReqSetup). get_or l i q) all ∙ get_or-map (requester_in own) parts i part q less ∙ ap (requester_in own) (sym at)

  pub is_sound : IsSound q
  is_sound = subst IsSound it_is (sound_at w.requesters i q sound.requesters few)

  -- The requesters up to it, it, and those after it.
  split : w.requesters ≡ take i w.requesters ++ q ∷ drop (suc i) w.requesters
  split =
      sym (take-append-drop i w.requesters)
      ∙ ap (λ (l : List ReqSetup). take i w.requesters ++ l) (drop-cons w.requesters i q few)
      ∙ ap (λ (x : ReqSetup). take i w.requesters ++ x ∷ drop (suc i) w.requesters) it_is

  -- Its number.
  pub number_is : i + 1 ≡ number_from 1 q.eid w.requesters
  number_is =
      let long : length (take i w.requesters) ≡ i = length-take-le i w.requesters (omega (arith, few)) in
      sym ((numbers_are_order w q (take i w.requesters) (drop (suc i) w.requesters) sound.apart split).1 ∙ ap (λ (n : ℕ). n + 1) long)

  pub more_kept : (xs : List JudgedPair) (x : JudgedPair) → AreKept xs w [] [] (take i w.requesters) → StandsFor x w q [] [] → AreKept (xs ++ x ∷ []) w [] [] (take (i + 1) w.requesters)
  more_kept xs x are stands =
      let step : take (i + 1) w.requesters ≡ take i w.requesters ++ q ∷ [] = take_more w.requesters i q few ∙ ap (λ (o : ReqSetup). take i w.requesters ++ o ∷ []) it_is in
      subst (AreKept (xs ++ x ∷ []) w [] []) (sym step) (appended xs w (take i w.requesters) x q are stands)
