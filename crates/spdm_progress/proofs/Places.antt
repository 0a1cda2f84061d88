-- One requester of a world, and the responder's connection with it, found again after each change.
use Rattle.std.proofs.Common.{◌≡◌, ◌≢◌, ◌∙◌, ℕ, zero, suc, ◌+◌, ◌==◌, List, [], ◌∷◌, map, find, Bool, true, false, cond, Option, Some, refl, sym, ap, arith, eq-eqb}
use Rattle.std.specs.Prelude.{if◌then◌else◌}
use Rattle.std.proofs.lemmas.Bool.{ne_eqb}
use Rattle.spdm_machine.proofs.Members.{IsIn, some_same, none_some, map_in}
use Rattle.requester_machine.specs.Requesting.{Requesting}
use Rattle.world_machine.specs.World.{World, requester_of, requester_at, is_at, number_from, number_at, with_requester}
use Rattle.spdm_agreement.proofs.Worlds.AllEvents.{found_at}
use Rattle.spdm_progress.proofs.Placed.{eids_stay}

-- ---- The requester of an end point.

found_by : (new old : Requesting) (others : List Requesting) (a : Requesting) (b : Bool) → (old.setup.eid == new.setup.eid) ≡ b → (if b then Some old else find (is_at new.setup.eid) others) ≡ Some a
    → (find (is_at new.setup.eid) others ≡ Some a → find (is_at new.setup.eid) (with_requester new others) ≡ Some new)
    → find (is_at new.setup.eid) (cond b new old ∷ with_requester new others) ≡ Some new
found_by new old others a true e is next = ap (λ (b : Bool). if b then Some new else find (is_at new.setup.eid) (with_requester new others)) (eq-eqb new.setup.eid new.setup.eid refl)
found_by new old others a false e is next = rw e (next is)

-- One that is put in its place is found there.
pub found_new : (new : Requesting) (rs : List Requesting) (a : Requesting) → find (is_at new.setup.eid) rs ≡ Some a → find (is_at new.setup.eid) (with_requester new rs) ≡ Some new
found_new new [] a is = absurd (none_some a is)
found_new new (old ∷ others) a is = found_by new old others a (old.setup.eid == new.setup.eid) refl is (found_new new others a)

-- ---- The requester of a number.

pub at_new : (place : ℕ) (new : Requesting) (rs : List Requesting) (a : Requesting) → requester_at place rs ≡ Some a → a.setup.eid ≡ new.setup.eid → requester_at place (with_requester new rs) ≡ Some new
at_new place new [] a is same = absurd (none_some a is)
at_new zero new (old ∷ others) a is same =
    ap (λ (b : Bool). let o : Option Requesting = Some (if b then new else old) in o) (eq-eqb old.setup.eid new.setup.eid (ap (λ (x : Requesting). x.setup.eid) (some_same old a is) ∙ same))
at_new (suc place) new (old ∷ others) a is same = at_new place new others a is same

pub of_new : (n : ℕ) (new : Requesting) (world later : World) (a : Requesting) → later.requesters ≡ with_requester new world.requesters → requester_of n world ≡ Some a → a.setup.eid ≡ new.setup.eid → requester_of n later ≡ Some new
of_new zero new world later a moved is same = absurd (none_some a is)
of_new (suc place) new world later a moved is same = ap (requester_at place) moved ∙ at_new place new world.requesters a is same

pub of_same : (n : ℕ) (world later : World) (o : Option Requesting) → later.requesters ≡ world.requesters → requester_of n world ≡ o → requester_of n later ≡ o
of_same zero world later o same is = is
of_same (suc place) world later o same is = ap (requester_at place) same ∙ is

-- ---- Its number.

-- The number of an endpoint in a list of them.
abbrev number_in : ℕ → ℕ → List ℕ → ℕ
number_in n eid [] = 0
number_in n eid (e ∷ others) = if e == eid then n else number_in (n + 1) eid others

numbered : (n eid : ℕ) (rs : List Requesting) → number_from n eid rs ≡ number_in n eid (map (λ (a : Requesting). a.setup.eid) rs)
numbered n eid [] = refl
numbered n eid (a ∷ others) = ap (λ (m : ℕ). if a.setup.eid == eid then n else m) (numbered (n + 1) eid others)

pub number_new : (n eid : ℕ) (new : Requesting) (rs : List Requesting) → number_from n eid (with_requester new rs) ≡ number_from n eid rs
number_new n eid new rs = numbered n eid (with_requester new rs) ∙ ap (number_in n eid) (eids_stay new rs) ∙ sym (numbered n eid rs)

-- No endpoint stands twice.
abbrev pub AllDiffer : List ℕ → Type 0
AllDiffer [] = Unit {0}
AllDiffer (e ∷ others) = ((o : ℕ) → IsIn others o → e ≢ o) × AllDiffer others

counts_on : (place n : ℕ) → place + (n + 1) ≡ suc place + n
counts_on place n = omega arith

number_place : (place n : ℕ) (rs : List Requesting) (a : Requesting) → requester_at place rs ≡ Some a → AllDiffer (map (λ (x : Requesting). x.setup.eid) rs) → number_from n a.setup.eid rs ≡ place + n
number_place place n [] a is differ = absurd (none_some a is)
number_place zero n (b ∷ others) a is differ =
    ap (λ (t : Bool). if t then n else number_from (n + 1) a.setup.eid others) (eq-eqb b.setup.eid a.setup.eid (ap (λ (x : Requesting). x.setup.eid) (some_same b a is))) ∙ sym (zero_plus n)
  where
    zero_plus : (k : ℕ) → 0 + k ≡ k
    zero_plus k = omega arith
number_place (suc place) n (b ∷ others) a is differ =
    ap (λ (t : Bool). if t then n else number_from (n + 1) a.setup.eid others)
    (ne_eqb b.setup.eid a.setup.eid (differ.0 a.setup.eid (map_in (λ (x : Requesting). x.setup.eid) others a (found_at place others a is))))
    ∙ number_place place (n + 1) others a is differ.1 ∙ counts_on place n

one_on : (place : ℕ) → place + 1 ≡ suc place
one_on place = omega arith

pub number_is : (n : ℕ) (world : World) (a : Requesting) → requester_of n world ≡ Some a → AllDiffer (map (λ (x : Requesting). x.setup.eid) world.requesters) → number_at a.setup.eid world ≡ n
number_is zero world a is differ = absurd (none_some a is)
number_is (suc place) world a is differ = number_place place 1 world.requesters a is differ ∙ one_on place

-- The first requester of an endpoint is the one of this place.
first_place : (place : ℕ) (rs : List Requesting) (a : Requesting) → requester_at place rs ≡ Some a → AllDiffer (map (λ (x : Requesting). x.setup.eid) rs) → find (is_at a.setup.eid) rs ≡ Some a
first_place place [] a is differ = absurd (none_some a is)
first_place zero (b ∷ others) a is differ =
    ap (λ (t : Bool). if t then Some b else find (is_at a.setup.eid) others) (eq-eqb b.setup.eid a.setup.eid (ap (λ (x : Requesting). x.setup.eid) (some_same b a is))) ∙ is
first_place (suc place) (b ∷ others) a is differ =
    ap (λ (t : Bool). if t then Some b else find (is_at a.setup.eid) others)
    (ne_eqb b.setup.eid a.setup.eid (differ.0 a.setup.eid (map_in (λ (x : Requesting). x.setup.eid) others a (found_at place others a is))))
    ∙ first_place place others a is differ.1

pub first_is : (n : ℕ) (world : World) (a : Requesting) → requester_of n world ≡ Some a → AllDiffer (map (λ (x : Requesting). x.setup.eid) world.requesters) → find (is_at a.setup.eid) world.requesters ≡ Some a
first_is zero world a is differ = absurd (none_some a is)
first_is (suc place) world a is differ = first_place place world.requesters a is differ
