-- Which requester is at a place, and what becomes of the others.
use Rattle.std.proofs.Common.{refl, ◌≡◌, ◌≢◌, ◌∙◌, ◌+◌, ◌<◌, ◌≤◌, ℕ, zero, suc, List, [], ◌∷◌, length, Bool, true, false, cond, Some, None, ap, sym, subst, arith, slice_set, get_or, find, eq-eqb, eqb-true, ne_eqb}
use Rattle.std.proofs.lemmas.Option.{none-some, same_Some}
use Rattle.std.specs.List.{AllByRecursion, position_from}
use Rattle.std.specs.Prelude.{◌==◌}
use Rattle.link_world.specs.Standing.{AreApart, AreAskers, AreEnds, IsAsker, eids_of, has_eid}
use Rattle.link_world.specs.declared.ends.AddressedRequester.{AddressedRequester}
use Rattle.link_world.specs.declared.ends.Ends.{Ends}
use Rattle.requester_machine.specs.Requesting.{Requesting}
use Rattle.world_machine.specs.World.{World, is_at, number_from, replaced, requester_at, requester_of, with_requester}

abbrev pub eid_of : Requesting → ℕ
eid_of a = a.setup.eid

-- Requesters with other endpoints stay.
others_stay : (new : Requesting) (xs : List AddressedRequester) (rs : List Requesting) (eid : ℕ) → eid_of new ≡ eid → AllByRecursion (λ (b : Requesting). b.setup.eid ≢ eid) rs → AreAskers xs rs → AreAskers xs (with_requester new rs)
others_stay new [] [] eid same apart are = tt
others_stay new [] (a ∷ rs) eid same apart are = absurd are
others_stay new (x ∷ xs) [] eid same apart are = absurd are
others_stay new (x ∷ xs) (a ∷ rs) eid same apart are = (
  subst (λ (b : Bool). IsAsker x (cond b new a)) (sym (ne_eqb (eid_of a) (eid_of new) (λ e. apart.0 (e ∙ same)))) are.0,
  others_stay new xs rs eid same apart.1 are.1,
)

-- The requester at a place, and what becomes of all where it has changed.
pub record Hit (k : ℕ) (xs : List AddressedRequester) (rs : List Requesting) : Type 0 where
  pub seen : AddressedRequester
  pub there : (e : AddressedRequester) → get_or xs k e ≡ seen
  pub a : Requesting
  pub at : requester_at k rs ≡ Some a
  pub stands : IsAsker seen a
  pub found : find (is_at (eid_of a)) rs ≡ Some a
  pub number : (n : ℕ) → number_from n (eid_of a) rs ≡ n + k
  pub change : (new : AddressedRequester) (b : Requesting) → eid_of b ≡ eid_of a → IsAsker new b → AreAskers (slice_set xs k new) (with_requester b rs)

first_hit : (x : AddressedRequester) (xs : List AddressedRequester) (a : Requesting) (rs : List Requesting) → AreAskers (x ∷ xs) (a ∷ rs) → AreApart (a ∷ rs) → Hit 0 (x ∷ xs) (a ∷ rs)
first_hit x xs a rs are apart = record {
  seen = x;
  there = λ e. refl;
  a = a;
  at = refl;
  stands = are.0;
  found = ap (λ (b : Bool). cond b (Some a) (find (is_at (eid_of a)) rs)) (eq-eqb (eid_of a) (eid_of a) refl);
  number = λ n. (ap (λ (b : Bool). cond b n (number_from (n + 1) (eid_of a) rs)) (eq-eqb (eid_of a) (eid_of a) refl) ∙ omega arith);
  change = λ new b same stands. (
    subst (λ (t : Bool). IsAsker new (cond t b a)) (sym (eq-eqb (eid_of a) (eid_of b) (sym same))) stands,
    others_stay b xs rs (eid_of a) same apart.0 are.1,
  );
}

-- One after the first has another endpoint.
pub behind_first : (k : ℕ) (rs : List Requesting) (a b : Requesting) → requester_at k rs ≡ Some b → AllByRecursion (λ (c : Requesting). c.setup.eid ≢ eid_of a) rs → eid_of b ≢ eid_of a
behind_first k [] a b is apart = absurd (none-some b is)
behind_first zero (c ∷ rs) a b is apart = subst (λ (d : Requesting). eid_of d ≢ eid_of a) (same_Some c b is) apart.0
behind_first (suc k) (c ∷ rs) a b is apart = behind_first k rs a b is apart.1

later_hit : (k : ℕ) (x : AddressedRequester) (xs : List AddressedRequester) (a : Requesting) (rs : List Requesting) → AreAskers (x ∷ xs) (a ∷ rs) → AreApart (a ∷ rs) → Hit k xs rs → Hit (suc k) (x ∷ xs) (a ∷ rs)
later_hit k x xs a rs are apart hit =
    let other : eid_of hit.a ≢ eid_of a = behind_first k rs a hit.a hit.at apart.0 in
    let differs : eid_of a ≢ eid_of hit.a = λ e. other (sym e) in
    record {
      seen = hit.seen;
      there = hit.there;
      a = hit.a;
      at = hit.at;
      stands = hit.stands;
      found = ap (λ (b : Bool). cond b (Some a) (find (is_at (eid_of hit.a)) rs)) (ne_eqb (eid_of a) (eid_of hit.a) differs) ∙ hit.found;
      number = λ n. (ap (λ (b : Bool). cond b n (number_from (n + 1) (eid_of hit.a) rs)) (ne_eqb (eid_of a) (eid_of hit.a) differs) ∙ hit.number (n + 1) ∙ omega arith);
      change = λ new b same stands. (
        subst (λ (t : Bool). IsAsker x (cond t b a)) (sym (ne_eqb (eid_of a) (eid_of b) (λ e. differs (e ∙ same)))) are.0,
        hit.change new b same stands,
      );
    }

pub hit : (k : ℕ) (xs : List AddressedRequester) (rs : List Requesting) → k < length xs → AreAskers xs rs → AreApart rs → Hit k xs rs
hit k [] rs inside are apart = absurd (omega (arith, inside))
hit k (x ∷ xs) [] inside are apart = absurd are
hit zero (x ∷ xs) (a ∷ rs) inside are apart = first_hit x xs a rs are apart
hit (suc k) (x ∷ xs) (a ∷ rs) inside are apart = later_hit k x xs a rs are apart (hit k xs rs (omega (arith, inside)) are.1 apart.1)

-- ---- Where no requester is.

pub none_at : (k : ℕ) (xs : List AddressedRequester) (rs : List Requesting) → length xs ≤ k → AreAskers xs rs → requester_at k rs ≡ None
none_at k [] [] outside are = refl
none_at k [] (a ∷ rs) outside are = absurd are
none_at k (x ∷ xs) [] outside are = absurd are
none_at zero (x ∷ xs) (a ∷ rs) outside are = absurd (omega (arith, outside))
none_at (suc k) (x ∷ xs) (a ∷ rs) outside are = none_at k xs rs (omega (arith, outside)) are.1

-- ---- By end points.

-- The place that was found.
pub record Placed (eid n i : ℕ) (xs : List AddressedRequester) : Type 0 where
  pub k : ℕ
  pub is : i ≡ n + k
  pub inside : k < length xs
  pub own : (e : AddressedRequester) → (get_or xs k e).eid.number ≡ eid

pub placed : (eid n i : ℕ) (xs : List AddressedRequester) → position_from (has_eid eid) n xs ≡ Some i → Placed eid n i xs
placed eid n i [] is = absurd (none-some i is)
placed eid n i (x ∷ xs) is = go (has_eid eid x) refl is (placed eid (n + 1) i xs)
  where
    go : (b : Bool) → has_eid eid x ≡ b → cond b (Some n) (position_from (has_eid eid) (n + 1) xs) ≡ Some i → (position_from (has_eid eid) (n + 1) xs ≡ Some i → Placed eid (n + 1) i xs) → Placed eid n i (x ∷ xs)
    go true e it next =
        let same = same_Some n i it in
        record { k = 0; is = omega (arith, same); inside = omega arith; own = λ e'. eqb-true _ _ e }
    go false e it next =
        let p = next it in
        let is = p.is in
        let inside = p.inside in
        record { k = suc p.k; is = omega (arith, is); inside = omega (arith, inside); own = p.own }

none_by : (eid n : ℕ) (x : AddressedRequester) (xs : List AddressedRequester) (b : Bool) → has_eid eid x ≡ b → cond b (Some n) (position_from (has_eid eid) (n + 1) xs) ≡ None → (has_eid eid x ≡ false) × (position_from (has_eid eid) (n + 1) xs ≡ None)
none_by eid n x xs true e none = absurd (none-some n (sym none))
none_by eid n x xs false e none = (e, none)

pub record Unplaced (eid : ℕ) (rs : List Requesting) : Type 0 where
  pub found : find (is_at eid) rs ≡ None
  pub number : (n : ℕ) → number_from n eid rs ≡ 0

pub unplaced : (eid n : ℕ) (xs : List AddressedRequester) (rs : List Requesting) → AreAskers xs rs → position_from (has_eid eid) n xs ≡ None → Unplaced eid rs
unplaced eid n [] [] are none = record { found = refl; number = λ m. refl }
unplaced eid n [] (a ∷ rs) are none = absurd are
unplaced eid n (x ∷ xs) [] are none = absurd are
unplaced eid n (x ∷ xs) (a ∷ rs) are none =
    let first = none_by eid n x xs (has_eid eid x) refl none in
    let rest = unplaced eid (n + 1) xs rs are.1 first.1 in
    let other : (eid_of a == eid) ≡ false = ap (λ (m : ℕ). m == eid) are.0.eid ∙ first.0 in
    record {
      found = ap (λ (b : Bool). cond b (Some a) (find (is_at eid) rs)) other ∙ rest.found;
      number = λ m. (ap (λ (b : Bool). cond b m (number_from (m + 1) eid rs)) other ∙ rest.number (m + 1));
    }

-- ---- A requester that changed is still apart from the others.

pub length_with : (new : Requesting) (rs : List Requesting) → length (with_requester new rs) ≡ length rs
length_with new [] = refl
length_with new (a ∷ rs) = ap suc (length_with new rs)

pub same_eid : (new a : Requesting) → eid_of (replaced new a) ≡ eid_of a
same_eid new a = go (eid_of a == eid_of new) refl
  where
    go : (b : Bool) → (eid_of a == eid_of new) ≡ b → eid_of (cond b new a) ≡ eid_of a
    go true e = sym (eqb-true (eid_of a) (eid_of new) e)
    go false e = refl

-- The endpoints stay.
pub same_eids : (new : Requesting) (rs : List Requesting) → eids_of (with_requester new rs) ≡ eids_of rs
same_eids new [] = refl
same_eids new (a ∷ rs) =
    ap (λ (n : ℕ). n ∷ eids_of (with_requester new rs)) (same_eid new a) ∙ ap (λ (l : List ℕ). eid_of a ∷ l) (same_eids new rs)

apart_with : (new : Requesting) (rs : List Requesting) (eid : ℕ) → AllByRecursion (λ (b : Requesting). b.setup.eid ≢ eid) rs → AllByRecursion (λ (b : Requesting). b.setup.eid ≢ eid) (with_requester new rs)
apart_with new [] eid all = tt
apart_with new (a ∷ rs) eid all = (λ e. all.0 (sym (same_eid new a) ∙ e), apart_with new rs eid all.1)

pub still_apart : (new : Requesting) (rs : List Requesting) → AreApart rs → AreApart (with_requester new rs)
still_apart new [] apart = tt
still_apart new (a ∷ rs) apart = (
  subst (λ (e : ℕ). AllByRecursion (λ (b : Requesting). b.setup.eid ≢ e) (with_requester new rs)) (sym (same_eid new a)) (apart_with new rs (eid_of a) apart.0),
  still_apart new rs apart.1,
)

-- ---- A place that was found by an end point.

pub same_length : (xs : List AddressedRequester) (rs : List Requesting) → AreAskers xs rs → length xs ≡ length rs
same_length [] [] are = refl
same_length [] (a ∷ rs) are = absurd are
same_length (x ∷ xs) [] are = absurd are
same_length (x ∷ xs) (a ∷ rs) are = ap suc (same_length xs rs are.1)

-- There are few of them.
pub few_places : (k : ℕ) (ends : Ends) (w : World) → AreEnds ends w → k < length ends.requesters.items → k < 255
few_places k ends w e inside =
    let same = same_length ends.requesters.items w.requesters e.requesters in
    let few = e.few in
    omega (arith, same, few, inside)

pub record Found (eid i : ℕ) (xs : List AddressedRequester) (rs : List Requesting) : Type 0 where
  pub inside : i < length xs
  pub hit_is : Hit i xs rs
  pub own : eid_of hit_is.a ≡ eid
  pub found : find (is_at eid) rs ≡ Some hit_is.a
  pub number : number_from 1 eid rs ≡ i + 1

found_by : (eid i k : ℕ) (xs : List AddressedRequester) (rs : List Requesting) → AreAskers xs rs → AreApart rs → k ≡ i → k < length xs → ((e : AddressedRequester) → (get_or xs k e).eid.number ≡ eid) → Found eid i xs rs
found_by eid i k xs rs are apart same inside own =
    let at : i < length xs = omega (arith, same, inside) in
    let h = hit i xs rs at are apart in
    let its : eid_of h.a ≡ eid = h.stands.eid ∙ ap (λ (x : AddressedRequester). x.eid.number) (sym (h.there h.seen) ∙ ap (λ (n : ℕ). get_or xs n h.seen) (sym same)) ∙ own h.seen in
    record {
      inside = at;
      hit_is = h;
      own = its;
      found = ap (λ (e : ℕ). find (is_at e) rs) (sym its) ∙ h.found;
      number = ap (λ (e : ℕ). number_from 1 e rs) (sym its) ∙ h.number 1 ∙ omega arith;
    }

pub found_at : (eid i : ℕ) (xs : List AddressedRequester) (rs : List Requesting) → AreAskers xs rs → AreApart rs → position_from (has_eid eid) 0 xs ≡ Some i → Found eid i xs rs
found_at eid i xs rs are apart is =
    let p = placed eid 0 i xs is in
    let at = p.is in
    found_by eid i p.k xs rs are apart (omega (arith, at)) p.inside p.own

-- ---- By number.

pub number_over : (q k : ℕ) → q ≡ k + 1 → q ≡ suc k
number_over q k is = is ∙ omega arith

pub requester_numbered : (w : World) (ends : Ends) (q k : ℕ) (h : Hit k ends.requesters.items w.requesters) → q ≡ k + 1 → requester_of q w ≡ Some h.a
requester_numbered w ends q k h is = ap (λ (n : ℕ). requester_of n w) (number_over q k is) ∙ h.at

pub none_numbered : (w : World) (ends : Ends) (q k : ℕ) → AreEnds ends w → q ≡ k + 1 → length ends.requesters.items ≤ k → requester_of q w ≡ None
none_numbered w ends q k e is outside = ap (λ (n : ℕ). requester_of n w) (number_over q k is) ∙ none_at k ends.requesters.items w.requesters outside e.requesters

-- The requester at a place.
pub ends_hit : (w : World) (ends : Ends) (k : ℕ) → AreEnds ends w → k < length ends.requesters.items → Hit k ends.requesters.items w.requesters
ends_hit w ends k e inside = hit k ends.requesters.items w.requesters inside e.requesters e.apart
