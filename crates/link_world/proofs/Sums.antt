-- Counts over all requesters, and over all connections.
use Rattle.std.proofs.Common.{refl, ◌≡◌, ◌≢◌, ◌∙◌, ◌+◌, ◌*◌, ◌≤◌, ◌∷◌, [], ℕ, zero, suc, List, Bool, cond, Some, ap, sym, subst, arith, take, length, eq-eqb, ne_eqb}
use Rattle.std.proofs.lemmas.Option.{none-some, same_Some}
use Rattle.std.specs.List.{AllByRecursion}
use Rattle.link_world.proofs.Askers.{behind_first, eid_of}
use Rattle.link_world.specs.HeldOpen.{count_at}
use Rattle.link_world.specs.Standing.{AreApart, eids_of, peers_of}
use Rattle.requester_machine.specs.Requesting.{Requesting}
use Rattle.responder_machine.specs.History.{History}
use Rattle.responder_machine.specs.Responding.{Connection, connection_of, over_all}
use Rattle.world_machine.specs.Totals.{over_connections, over_requesters}
use Rattle.world_machine.specs.World.{requester_at, with_requester}

-- The two words for a count over all connections.
pub over_each : (count : History → ℕ) (cs : List Connection) → over_connections (λ c. count c.history) cs ≡ over_all count cs
over_each count [] = refl
over_each count (c ∷ cs) = ap (λ (n : ℕ). count c.history + n) (over_each count cs)

-- ---- One requester in place of another.

module _ (count : Requesting → ℕ) (new : Requesting) where
  others_count : (rs : List Requesting) → AllByRecursion (λ (b : Requesting). b.setup.eid ≢ eid_of new) rs → over_requesters count (with_requester new rs) ≡ over_requesters count rs
  others_count [] apart = refl
  others_count (a ∷ rs) apart =
      ap (λ (b : Bool). count (cond b new a) + over_requesters count (with_requester new rs)) (ne_eqb (eid_of a) (eid_of new) apart.0)
      ∙ ap (λ (n : ℕ). count a + n) (others_count rs apart.1)

  pub with_count : (k : ℕ) (rs : List Requesting) (old : Requesting) → requester_at k rs ≡ Some old → AreApart rs → eid_of new ≡ eid_of old
      → over_requesters count (with_requester new rs) + count old ≡ over_requesters count rs + count new
  with_count k [] old is apart same = absurd (none-some old is)
  with_count zero (a ∷ rs) old is apart same =
      let first = same_Some a old is in
      let its : eid_of new ≡ eid_of a = same ∙ sym (ap eid_of first) in
      let own = ap (λ (b : Bool). count (cond b new a) + over_requesters count (with_requester new rs)) (eq-eqb (eid_of a) (eid_of new) (sym its)) in
      let others = others_count rs (subst (λ (e : ℕ). AllByRecursion (λ (b : Requesting). b.setup.eid ≢ e) rs) (sym its) apart.0) in
      let kept = ap count first in
      omega (arith, own, others, kept)
  with_count (suc k) (a ∷ rs) old is apart same =
      let other : eid_of old ≢ eid_of a = behind_first k rs a old is apart.0 in
      let own = ap (λ (b : Bool). count (cond b new a) + over_requesters count (with_requester new rs)) (ne_eqb (eid_of a) (eid_of new) (λ e. other (sym (e ∙ same)))) in
      let others = with_count k rs old is apart.1 same in
      omega (arith, own, others)

-- ---- One requester more.

pub over_more : (count : Requesting → ℕ) (i : ℕ) (all : List Requesting) (a : Requesting) → requester_at i all ≡ Some a → over_requesters count (take (i + 1) all) ≡ over_requesters count (take i all) + count a
over_more count i [] a is = absurd (none-some a is)
over_more count zero (b ∷ all) a is = (let same = ap count (same_Some b a is) in omega (arith, same))
over_more count (suc i) (b ∷ all) a is =
    let next : suc i + 1 ≡ suc (i + 1) = omega arith in
    let rest = over_more count i all a is in
    ap (λ (k : ℕ). over_requesters count (take k (b ∷ all))) next ∙ omega (arith, rest)

pub over_most : (count : Requesting → ℕ) (most : ℕ) → ((a : Requesting) → count a ≤ most) → (k : ℕ) (all : List Requesting) → over_requesters count (take k all) ≤ most * length all
over_most count most each zero all = omega arith
over_most count most each (suc k) [] = omega arith
over_most count most each (suc k) (a ∷ all) =
    let own = each a in
    let rest = over_most count most each k all in
    let more : most * suc (length all) ≡ most + most * length all = omega arith in
    omega (arith, own, rest, more)

-- ---- Each requester with its connection.

abbrev head_of : List ℕ → ℕ
head_of [] = 0
head_of (n ∷ ns) = n

abbrev tail_of : List ℕ → List ℕ
tail_of [] = []
tail_of (n ∷ ns) = ns

module _ (asked : Requesting → ℕ) (served : Connection → ℕ) where
  abbrev with_own : List Connection → Requesting → ℕ
  with_own cs a = asked a + count_at served (connection_of a.setup.eid cs)

  others_own : (c : Connection) (cs : List Connection) (rs : List Requesting) → AllByRecursion (λ (b : Requesting). b.setup.eid ≢ c.setup.peer) rs → over_requesters (with_own (c ∷ cs)) rs ≡ over_requesters (with_own cs) rs
  others_own c cs [] apart = refl
  others_own c cs (a ∷ rs) apart =
      ap (λ (b : Bool). asked a + count_at served (cond b (Some c) (connection_of a.setup.eid cs)) + over_requesters (with_own (c ∷ cs)) rs) (ne_eqb c.setup.peer a.setup.eid (λ e. apart.0 (sym e)))
      ∙ ap (λ (n : ℕ). with_own cs a + n) (others_own c cs rs apart.1)

  pub paired : (rs : List Requesting) (cs : List Connection) → peers_of cs ≡ eids_of rs → AreApart rs → over_requesters (with_own cs) rs ≡ over_requesters asked rs + over_connections served cs
  paired [] [] same apart = refl
  paired [] (c ∷ cs) same apart = absurd (cc same)
  paired (a ∷ rs) [] same apart = absurd (cc same)
  paired (a ∷ rs) (c ∷ cs) same apart =
      let its : c.setup.peer ≡ a.setup.eid = ap head_of same in
      let own : with_own (c ∷ cs) a ≡ asked a + served c = ap (λ (b : Bool). asked a + count_at served (cond b (Some c) (connection_of a.setup.eid cs))) (eq-eqb c.setup.peer a.setup.eid its) in
      let others = others_own c cs rs (subst (λ (e : ℕ). AllByRecursion (λ (b : Requesting). b.setup.eid ≢ e) rs) (sym its) apart.0) in
      let rest = paired rs cs (ap tail_of same) apart.1 in
      omega (arith, own, others, rest)
