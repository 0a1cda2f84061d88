-- The requesters of a world, of which one goes on: no endpoint changes, and each requester but that one stays.
use Rattle.std.proofs.Common.{◌≡◌, ◌≢◌, ◌==◌, ◌∙◌, ◌+◌, ◌≤◌, ℕ, zero, suc, List, [], ◌∷◌, Bool, true, false, cond, Some, refl, sym, ap, subst, inl, inr, eq-eqb, arith}
use Rattle.std.proofs.lemmas.Bool.{ne_eqb}
use Rattle.requester_machine.specs.Requesting.{Requesting}
use Rattle.spdm_machine.proofs.Members.{IsIn, in_map, none_some, some_same}
use Rattle.world_machine.specs.World.{number_from, replaced, requester_at, requester_of, with_requester, World}

-- ---- One goes on.

replaced_by : (new old : Requesting) (b : Bool) → (old.setup.eid == new.setup.eid) ≡ b → replaced new old ≡ cond b new old
replaced_by new old b e = ap (λ (c : Bool). cond c new old) e

pub replaced_own : (new old : Requesting) → old.setup.eid ≡ new.setup.eid → replaced new old ≡ new
replaced_own new old e = replaced_by new old true (eq-eqb old.setup.eid new.setup.eid e)

pub replaced_other : (new old : Requesting) → old.setup.eid ≢ new.setup.eid → replaced new old ≡ old
replaced_other new old e = replaced_by new old false (ne_eqb old.setup.eid new.setup.eid e)

pub others_stay : (new : Requesting) (others : List Requesting) → ((b : Requesting) → IsIn others b → b.setup.eid ≢ new.setup.eid) → with_requester new others ≡ others
others_stay new [] apart = refl
others_stay new (b ∷ others) apart =
    ap (λ (x : Requesting). x ∷ with_requester new others) (replaced_other new b (apart b (inl refl)))
    ∙ ap (λ (rest : List Requesting). b ∷ rest) (others_stay new others (λ x m. apart x (inr m)))

replaced_is : (P : ℕ → Type 0) (new old : Requesting) (b : Bool) → P new.setup.eid → P old.setup.eid → P (cond b new old).setup.eid
replaced_is P new old true p q = p
replaced_is P new old false p q = q

-- Their endpoints are as they were.
pub ends_stay : (P : ℕ → Type 0) (new : Requesting) (all : List Requesting) → P new.setup.eid → ((b : Requesting) → IsIn all b → P b.setup.eid) → (b : Requesting) → IsIn (with_requester new all) b → P b.setup.eid
ends_stay P new all is each b m =
    let o = in_map (replaced new) all b m in
    subst (λ (x : Requesting). P x.setup.eid) (sym o.2) (replaced_is P new o.0 (o.0.setup.eid == new.setup.eid) is (each o.0 o.1))

-- ---- Their numbers.

-- The requester at a place is one of them.
pub stands_at : (place : ℕ) (all : List Requesting) (b : Requesting) → requester_at place all ≡ Some b → IsIn all b
stands_at place [] b is = absurd (none_some b is)
stands_at zero (a ∷ others) b is = inl (sym (some_same a b is))
stands_at (suc place) (a ∷ others) b is = inr (stands_at place others b is)

-- So is the requester of a number.
pub is_one : (n : ℕ) (world : World) (b : Requesting) → requester_of n world ≡ Some b → IsIn world.requesters b
is_one zero world b is = absurd (none_some b is)
is_one (suc place) world b is = stands_at place world.requesters b is

number_by : (n eid : ℕ) (others : List Requesting) (b : Bool) → 2 ≤ n → number_from (n + 1) eid others ≢ 1 → cond b n (number_from (n + 1) eid others) ≢ 1
number_by n eid others true more next e = omega (arith, e, more)
number_by n eid others false more next e = next e

-- A requester after the first has not number 1.
pub number_behind : (n eid : ℕ) (all : List Requesting) → 2 ≤ n → number_from n eid all ≢ 1
number_behind n eid [] more = λ e. omega (arith, e)
number_behind n eid (a ∷ others) more = number_by n eid others (a.setup.eid == eid) more (number_behind (n + 1) eid others (omega (arith, more)))
