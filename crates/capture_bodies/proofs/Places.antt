-- Which requester a packet is of, and what is kept of all after it.
use Rattle.std.proofs.Common.{◌≡◌, ◌≢◌, ◌∙◌, ◌+◌, ◌<◌, ◌==◌, ◌&&◌, ◌||◌, ℕ, suc, List, [], ◌∷◌, length, Bool, true, false, cond, Option, Some, Err, Ok, refl, ap, sym, subst, arith, get_or, slice_set, eq-eqb, eqb-true, ne_eqb}
use Rattle.std.proofs.Math.Seq.{map-set_same}
use Rattle.std.proofs.lemmas.Bool.{false≢true}
use Rattle.std.proofs.lemmas.Grind.{get_or-set_at}
use Rattle.std.proofs.lemmas.List.{get_or-set_other, length-set}
use Rattle.std.proofs.lemmas.Option.{none-some, same_Some}
use Rattle.std.specs.List.{position_from}
use Rattle.std.specs.Prelude.{is_some, map}
use Rattle.capture_bodies.proofs.Staying.{skipped, stays}
use Rattle.capture_bodies.specs.Completing.{is_one_of}
use Rattle.capture_bodies.specs.Keeping.{Keeps, Stand, eid_of, has_eid}
use Rattle.capture_bodies.specs.declared.gathering.Gathering.{Gathering}
use Rattle.capture_bodies.specs.declared.gathering.Pair.{Pair}
use Rattle.mctp_framing.specs.Packet.{PacketFields, parsed}
use Rattle.spdm_basis.specs.declared.causes.faults.PacketFault.{PacketFault}

-- ---- The place of an endpoint.

-- it depends on the endpoints alone
place_in : (eid n : ℕ) (pairs : List Pair) → position_from (has_eid eid) n pairs ≡ position_from (λ (e : ℕ). e == eid) n (map eid_of pairs)
place_in eid n [] = refl
place_in eid n (x ∷ pairs) = ap (λ (o : Option ℕ). cond (has_eid eid x) (Some n) o) (place_in eid (n + 1) pairs)

same_places : (eid : ℕ) (these those : List Pair) → map eid_of these ≡ map eid_of those → position_from (has_eid eid) 0 these ≡ position_from (has_eid eid) 0 those
same_places eid these those same = place_in eid 0 these ∙ ap (position_from (λ (e : ℕ). e == eid) 0) same ∙ sym (place_in eid 0 those)

-- there is one exactly where the endpoint is one of all
pub known : (eid n : ℕ) (pairs : List Pair) → is_some (position_from (has_eid eid) n pairs) ≡ is_one_of (map eid_of pairs) eid
known eid n [] = refl
known eid n (x ∷ pairs) = go (has_eid eid x) (known eid (n + 1) pairs)
  where
    go : (b : Bool) → is_some (position_from (has_eid eid) (n + 1) pairs) ≡ is_one_of (map eid_of pairs) eid → is_some (cond b (Some n) (position_from (has_eid eid) (n + 1) pairs)) ≡ (b || is_one_of (map eid_of pairs) eid)
    go true e = refl
    go false e = e

-- the place at which a test holds
record Found (test : Pair → Bool) (n k : ℕ) (pairs : List Pair) : Type 0 where
  pub i : ℕ
  pub at : k ≡ n + i
  pub inside : i < length pairs
  pub holds : (d : Pair) → test (get_or pairs i d) ≡ true

found : (test : Pair → Bool) (n k : ℕ) (pairs : List Pair) → position_from test n pairs ≡ Some k → Found test n k pairs
found test n k [] is = absurd (none-some k is)
found test n k (x ∷ pairs) is = go (test x) refl is (found test (n + 1) k pairs)
  where
    go : (b : Bool) → test x ≡ b → cond b (Some n) (position_from test (n + 1) pairs) ≡ Some k → (position_from test (n + 1) pairs ≡ Some k → Found test (n + 1) k pairs) → Found test n k (x ∷ pairs)
    go true e it next = let same = same_Some n k it in record { i = 0; at = omega (arith, same); inside = omega arith; holds = λ d. e }
    go false e it next =
        let later = next it in
        let at = later.at in
        let inside = later.inside in
        record { i = suc later.i; at = omega (arith, at); inside = omega (arith, inside); holds = later.holds }

-- the requester there has it
pub has_it : (eid k : ℕ) (pairs : List Pair) (d : Pair) → position_from (has_eid eid) 0 pairs ≡ Some k → eid_of (get_or pairs k d) ≡ eid
has_it eid k pairs d is =
    let it = found (has_eid eid) 0 k pairs is in
    let at = it.at in
    let same : k ≡ it.i = omega (arith, at) in
    eqb-true _ _ (subst (λ (j : ℕ). has_eid eid (get_or pairs j d) ≡ true) (sym same) (it.holds d))

-- what is kept of it
pub stand_at : (seen : Gathering) (own : ℕ) (eids : List ℕ) (older : List (List ℕ)) → Keeps seen own eids older → (eid place : ℕ) → place < length seen.pairs.items → position_from (has_eid eid) 0 seen.pairs.items ≡ Some place → eid ≢ own
    → (d : Pair) → Stand (get_or seen.pairs.items place d) own eid older
stand_at seen own eids older k eid place within first other d =
    let pair = get_or seen.pairs.items place d in
    let its : eid_of pair ≡ eid = has_it eid place seen.pairs.items d first in
    let there : position_from (has_eid (eid_of pair)) 0 seen.pairs.items ≡ Some place = ap (λ (n : ℕ). position_from (has_eid n) 0 seen.pairs.items) its ∙ first in
    subst (λ (n : ℕ). Stand pair own n older) its (k.stand place d within there (λ is. other (sym its ∙ is)))

pub stand_here : (seen : Gathering) (own : ℕ) (eids : List ℕ) (older : List (List ℕ)) → Keeps seen own eids older → (eid place : ℕ) → place < length seen.pairs.items → position_from (has_eid eid) 0 seen.pairs.items ≡ Some place → eid ≢ own
    → (d : Pair) → d ≡ get_or seen.pairs.items place d → Stand d own eid older
stand_here seen own eids older k eid place within first other d same =
    subst (λ (x : Pair). Stand x own eid older) (sym same) (stand_at seen own eids older k eid place within first other d)

-- ---- Between which ends a packet does not go.

-- It goes neither way between the responder and this requester.
pub record IsAway (own e : ℕ) (p : PacketFields) : Type 0 where
  pub asks : (p.to == own && p.from == e) ≡ false
  pub replies : (p.to == e && p.from == own) ≡ false

and_false : (b : Bool) → (b && false) ≡ false
and_false true = refl
and_false false = refl

-- another requester sends it
pub asked_away : (own eid e : ℕ) (p : PacketFields) → p.to ≡ own → p.from ≡ eid → e ≢ eid → e ≢ own → IsAway own e p
asked_away own eid e p to from away other = record {
  asks = ap (λ (b : Bool). (p.to == own) && b) (ne_eqb p.from e (λ is. away (sym is ∙ from))) ∙ and_false (p.to == own);
  replies = ap (λ (b : Bool). b && (p.from == own)) (ne_eqb p.to e (λ is. other (sym is ∙ to)));
}

-- it goes to another end
pub answered_away : (own e : ℕ) (p : PacketFields) → p.to ≢ own → p.to ≢ e → IsAway own e p
answered_away own e p away other = record {
  asks = ap (λ (b : Bool). b && (p.from == e)) (ne_eqb p.to own away);
  replies = ap (λ (b : Bool). b && (p.from == own)) (ne_eqb p.to e other);
}

-- it goes neither to the responder nor comes from it
pub none_away : (own e : ℕ) (p : PacketFields) → p.to ≢ own → p.from ≢ own → IsAway own e p
none_away own e p to from = record {
  asks = ap (λ (b : Bool). b && (p.from == e)) (ne_eqb p.to own to);
  replies = ap (λ (b : Bool). (p.to == e) && b) (ne_eqb p.from own from) ∙ and_false (p.to == e);
}

-- it goes from an end to itself
pub itself_away : (own e : ℕ) (p : PacketFields) → p.to ≡ p.from → e ≢ own → IsAway own e p
itself_away own e p same other = record { asks = neither (p.to == own) refl; replies = nor (p.from == own) refl }
  where
    neither : (b : Bool) → (p.to == own) ≡ b → (b && p.from == e) ≡ false
    neither true is = ne_eqb p.from e (λ its. other (sym its ∙ sym same ∙ eqb-true p.to own is))
    neither false is = refl

    nor : (b : Bool) → (p.from == own) ≡ b → (p.to == e && b) ≡ false
    nor true is = ap (λ (b : Bool). b && true) (ne_eqb p.to e (λ its. other (sym its ∙ same ∙ eqb-true p.from own is)))
    nor false is = and_false (p.to == e)

-- ---- After a packet.

stand_away : (pair : Pair) (own e : ℕ) (older : List (List ℕ)) (packet : List ℕ) (p : PacketFields) → parsed packet ≡ Ok p → Stand pair own e older → IsAway own e p → Stand pair own e (packet ∷ older)
stand_away pair own e older packet p parses s away = record {
  requests = stays pair.requests own e older packet p s.requests parses away.asks;
  answers = stays pair.answers e own older packet p s.answers parses away.replies;
}

-- bytes that are no packet
pub keeps_skipped : (seen : Gathering) (own : ℕ) (eids : List ℕ) (older : List (List ℕ)) (packet : List ℕ) (fault : PacketFault) → Keeps seen own eids older → parsed packet ≡ Err fault → Keeps seen own eids (packet ∷ older)
keeps_skipped seen own eids older packet fault k none = record {
  at = k.at;
  all = k.all;
  stand = λ i d inside its other.
      let pair = get_or seen.pairs.items i d in
      let s = k.stand i d inside its other in record {
        requests = skipped pair.requests own (eid_of pair) older packet fault s.requests none;
        answers = skipped pair.answers (eid_of pair) own older packet fault s.answers none;
      };
}

-- that goes between none of the requesters and the responder
pub keeps_on : (seen : Gathering) (own : ℕ) (eids : List ℕ) (older : List (List ℕ)) (packet : List ℕ) (p : PacketFields) → Keeps seen own eids older → parsed packet ≡ Ok p
    → ((e i : ℕ) → position_from (has_eid e) 0 seen.pairs.items ≡ Some i → e ≢ own → IsAway own e p) → Keeps seen own eids (packet ∷ older)
keeps_on seen own eids older packet p k parses away = record {
  at = k.at;
  all = k.all;
  stand = λ i d inside its other. let pair = get_or seen.pairs.items i d in stand_away pair own (eid_of pair) older packet p parses (k.stand i d inside its other) (away (eid_of pair) i its other);
}

module _ (seen : Gathering) (own : ℕ) (eids : List ℕ) (older : List (List ℕ)) (packet : List ℕ) (p : PacketFields) (k : Keeps seen own eids older) (parses : parsed packet ≡ Ok p)
    (eid place : ℕ) (within : place < length seen.pairs.items) (first : position_from (has_eid eid) 0 seen.pairs.items ≡ Some place)
    (away : (e : ℕ) → e ≢ eid → e ≢ own → IsAway own e p) (x old : Pair) (same : eid_of x ≡ eid_of (get_or seen.pairs.items place old)) where
  its : eid_of x ≡ eid
  its = same ∙ has_it eid place seen.pairs.items old first

  eids_stay : map eid_of (slice_set seen.pairs.items place x) ≡ map eid_of seen.pairs.items
  eids_stay = map-set_same eid_of seen.pairs.items place x old same

  others : (i : ℕ) (d : Pair) → i < length (slice_set seen.pairs.items place x)
      → position_from (has_eid (eid_of (get_or seen.pairs.items i d))) 0 (slice_set seen.pairs.items place x) ≡ Some i → eid_of (get_or seen.pairs.items i d) ≢ own
      → i ≢ place → Stand (get_or seen.pairs.items i d) own (eid_of (get_or seen.pairs.items i d)) (packet ∷ older)
  others i d inside its_place other differ =
      let pair = get_or seen.pairs.items i d in
      let e = eid_of pair in
      let long : length (slice_set seen.pairs.items place x) ≡ length seen.pairs.items = length-set seen.pairs.items place x in
      let below : i < length seen.pairs.items = omega (arith, inside, long) in
      let before : position_from (has_eid e) 0 seen.pairs.items ≡ Some i = same_places e seen.pairs.items (slice_set seen.pairs.items place x) (sym eids_stay) ∙ its_place in
      let apart : e ≢ eid = λ is. differ (same_Some i place (sym before ∙ ap (λ (n : ℕ). position_from (has_eid n) 0 seen.pairs.items) is ∙ first)) in
      stand_away pair own e older packet p parses (k.stand i d below before other) (away e apart other)

  each : (it_stands : eid ≢ own → Stand x own eid (packet ∷ older)) (i : ℕ) (d : Pair) → i < length (slice_set seen.pairs.items place x)
      → position_from (has_eid (eid_of (get_or (slice_set seen.pairs.items place x) i d))) 0 (slice_set seen.pairs.items place x) ≡ Some i
      → eid_of (get_or (slice_set seen.pairs.items place x) i d) ≢ own → Stand (get_or (slice_set seen.pairs.items place x) i d) own (eid_of (get_or (slice_set seen.pairs.items place x) i d)) (packet ∷ older)
  each it_stands i d inside = go (i == place) refl
    where
      go : (b : Bool) → (i == place) ≡ b → position_from (has_eid (eid_of (get_or (slice_set seen.pairs.items place x) i d))) 0 (slice_set seen.pairs.items place x) ≡ Some i
          → eid_of (get_or (slice_set seen.pairs.items place x) i d) ≢ own → Stand (get_or (slice_set seen.pairs.items place x) i d) own (eid_of (get_or (slice_set seen.pairs.items place x) i d)) (packet ∷ older)
      go true e =
          let there : get_or (slice_set seen.pairs.items place x) i d ≡ x = get_or-set_at seen.pairs.items place i x d (eqb-true i place e) within in
          subst (λ (y : Pair). position_from (has_eid (eid_of y)) 0 (slice_set seen.pairs.items place x) ≡ Some i → eid_of y ≢ own → Stand y own (eid_of y) (packet ∷ older)) (sym there)
          (λ it other. subst (λ (n : ℕ). Stand x own n (packet ∷ older)) (sym its) (it_stands (λ is. other (its ∙ is))))
      go false e =
          let differ : i ≢ place = λ is. false≢true (sym e ∙ eq-eqb i place is) in
          let there : get_or (slice_set seen.pairs.items place x) i d ≡ get_or seen.pairs.items i d = get_or-set_other seen.pairs.items place i x d differ in
          subst (λ (y : Pair). position_from (has_eid (eid_of y)) 0 (slice_set seen.pairs.items place x) ≡ Some i → eid_of y ≢ own → Stand y own (eid_of y) (packet ∷ older)) (sym there)
          (λ its_place other. others i d inside its_place other differ)

  pub keeps_after : (new : Gathering) → new.own.number ≡ seen.own.number → new.pairs.items ≡ slice_set seen.pairs.items place x
      → (eid ≢ own → Stand x own eid (packet ∷ older)) → Keeps new own eids (packet ∷ older)
  keeps_after new same_own are it_stands = record {
    at = same_own ∙ k.at;
    all = ap (map eid_of) are ∙ eids_stay ∙ k.all;
    stand = subst (λ (l : List Pair). (i : ℕ) (d : Pair) → i < length l → position_from (has_eid (eid_of (get_or l i d))) 0 l ≡ Some i → eid_of (get_or l i d) ≢ own → Stand (get_or l i d) own (eid_of (get_or l i d)) (packet ∷ older)) (sym are)
        (each it_stands);
  }
