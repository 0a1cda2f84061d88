-- The numbers of requesters in a world are those of a configuration, where their endpoints are.
use Rattle.std.proofs.Common.{◌≡◌, ◌==◌, ◌∙◌, ◌+◌, ℕ, suc, List, [], ◌∷◌, map, Bool, true, false, cond, Option, Some, refl, sym, ap, inl, inr, eqb-true, eq-eqb, arith}
use Rattle.std.proofs.lemmas.Bool.{false≢true}
use Rattle.std.specs.List.{position_from}
use Rattle.device_serve.specs.Devised.{has_eid, number_in, number_of}
use Rattle.requester_machine.specs.Requesting.{Requesting}
use Rattle.script_text.specs.declared.configuration.config.ReqPart.{ReqPart}
use Rattle.script_text.specs.declared.configuration.config.ScriptConfig.{ScriptConfig}
use Rattle.spdm_machine.proofs.Members.{IsIn}
use Rattle.world_machine.specs.World.{World, number_at, number_from, requester_at, requester_of, with_requester}

abbrev pub own_eid : Requesting → ℕ
own_eid a = a.setup.eid

abbrev pub part_eid : ReqPart → ℕ
part_eid q = q.eid.number

nil_cons : (x : ℕ) (xs : List ℕ) → [] ≡ x ∷ xs → ⊥
nil_cons x xs e = cc

cons_nil : (x : ℕ) (xs : List ℕ) → x ∷ xs ≡ [] → ⊥
cons_nil x xs e = cc

heads : (x y : ℕ) (xs ys : List ℕ) → x ∷ xs ≡ y ∷ ys → x ≡ y
heads x y xs ys e = cc

tails : (x y : ℕ) (xs ys : List ℕ) → x ∷ xs ≡ y ∷ ys → xs ≡ ys
tails x y xs ys e = cc

-- ---- The number of an endpoint.

counted : (b : Bool) (n later : ℕ) (o : Option ℕ) → later ≡ number_of o → cond b (n + 1) later ≡ number_of (cond b (Some n) o)
counted true n later o e = refl
counted false n later o e = e

numbers_from : (n eid : ℕ) (all : List Requesting) (qs : List ReqPart) → map own_eid all ≡ map part_eid qs → number_from (n + 1) eid all ≡ number_of (position_from (has_eid eid) n qs)
numbers_from n eid [] [] same = refl
numbers_from n eid [] (q ∷ qs) same = absurd (nil_cons (part_eid q) (map part_eid qs) same)
numbers_from n eid (a ∷ all) [] same = absurd (cons_nil (own_eid a) (map own_eid all) same)
numbers_from n eid (a ∷ all) (q ∷ qs) same =
    ap (λ (own : ℕ). cond (own == eid) (n + 1) (number_from (n + 1 + 1) eid all)) (heads (own_eid a) (part_eid q) (map own_eid all) (map part_eid qs) same)
    ∙ counted (part_eid q == eid) n (number_from (n + 1 + 1) eid all) (position_from (has_eid eid) (n + 1) qs)
    (numbers_from (n + 1) eid all qs (tails (own_eid a) (part_eid q) (map own_eid all) (map part_eid qs) same))

pub numbers_same : (c : ScriptConfig) (world : World) (eid : ℕ) → map own_eid world.requesters ≡ map part_eid c.requesters → number_at eid world ≡ number_in c eid
numbers_same c world eid same = numbers_from 0 eid world.requesters c.requesters same

-- ---- The requester of a number.

record Placed (n eid : ℕ) (all : List Requesting) (qs : List ReqPart) : Type 0 where
  i : ℕ
  k : ℕ
  is : i ≡ n + k
  at : position_from (has_eid eid) n qs ≡ Some i
  a : Requesting
  there : requester_at k all ≡ Some a
  own : a.setup.eid ≡ eid

by_eid : (n eid : ℕ) (a : Requesting) (all : List Requesting) (q : ReqPart) (qs : List ReqPart) (b : Bool) → (part_eid q == eid) ≡ b → own_eid a ≡ part_eid q
    → IsIn (part_eid q ∷ map part_eid qs) eid → (IsIn (map part_eid qs) eid → Placed (n + 1) eid all qs) → Placed n eid (a ∷ all) (q ∷ qs)
by_eid n eid a all q qs true e same m next = record {
  i = n;
  k = 0;
  is = omega arith;
  at = ap (λ (b : Bool). cond b (Some n) (position_from (has_eid eid) (n + 1) qs)) e;
  a = a;
  there = refl;
  own = same ∙ eqb-true (part_eid q) eid e;
}
by_eid n eid a all q qs false e same m next = elim m [
  | inl is ↦ absurd (false≢true (sym e ∙ eq-eqb (part_eid q) eid (sym is)))
  | inr later ↦ (let p = next later in
      let is = p.is in record {
        i = p.i;
        k = suc p.k;
        is = omega (arith, is);
        at = ap (λ (b : Bool). cond b (Some n) (position_from (has_eid eid) (n + 1) qs)) e ∙ p.at;
        a = p.a;
        there = p.there;
        own = p.own;
      })
]

placed : (n eid : ℕ) (all : List Requesting) (qs : List ReqPart) → map own_eid all ≡ map part_eid qs → IsIn (map part_eid qs) eid → Placed n eid all qs
placed n eid all [] same m = absurd m
placed n eid [] (q ∷ qs) same m = absurd (nil_cons (part_eid q) (map part_eid qs) same)
placed n eid (a ∷ all) (q ∷ qs) same m =
    by_eid n eid a all q qs (part_eid q == eid) refl (heads (own_eid a) (part_eid q) (map own_eid all) (map part_eid qs) same) m
    (placed (n + 1) eid all qs (tails (own_eid a) (part_eid q) (map own_eid all) (map part_eid qs) same))

pub record Found (c : ScriptConfig) (world : World) (eid : ℕ) : Type 0 where
  pub a : Requesting
  pub is : requester_of (number_in c eid) world ≡ Some a
  pub own : a.setup.eid ≡ eid

pub requester_found : (c : ScriptConfig) (world : World) (eid : ℕ) → map own_eid world.requesters ≡ map part_eid c.requesters → IsIn (map part_eid c.requesters) eid → Found c world eid
requester_found c world eid same m =
    let p = placed 0 eid world.requesters c.requesters same m in
    let is = p.is in
    let number : p.i + 1 ≡ suc p.k = omega (arith, is) in record {
      a = p.a;
      is = ap (λ (n : ℕ). requester_of n world) (ap number_of p.at ∙ number) ∙ p.there;
      own = p.own;
    }

-- ---- Where a requester goes on.

replaced_eid : (new old : Requesting) (b : Bool) → (old.setup.eid == new.setup.eid) ≡ b → (cond b new old).setup.eid ≡ old.setup.eid
replaced_eid new old true e = sym (eqb-true old.setup.eid new.setup.eid e)
replaced_eid new old false e = refl

pub eids_stay : (new : Requesting) (all : List Requesting) → map own_eid (with_requester new all) ≡ map own_eid all
eids_stay new [] = refl
eids_stay new (a ∷ others) =
    ap (λ (x : ℕ). x ∷ map own_eid (with_requester new others)) (replaced_eid new a (a.setup.eid == new.setup.eid) refl)
    ∙ ap (λ (rest : List ℕ). own_eid a ∷ rest) (eids_stay new others)
