-- Which requester a packet is of, and what becomes of all.
use Rattle.std.proofs.Common.{refl, ◌≡◌, ◌≢◌, ◌∙◌, ◌+◌, ◌==◌, ◌||◌, ℕ, suc, List, [], ◌∷◌, length, Bool, true, false, cond, Some, None, Result, Ok, Err, ap, sym, subst, arith, slice_set, get_or, eq-eqb, eqb-true}
use Rattle.std.proofs.lemmas.Bool.{false≢true}
use Rattle.std.proofs.lemmas.Option.{none-some, same_Some}
use Rattle.std.specs.List.{AllByRecursion, position_from}
use Rattle.std.specs.Prelude.{IfOk, find}
use Rattle.mctp_framing.specs.Packet.{PacketFields, parsed}
use Rattle.requester_machine.specs.Setup.{ReqSetup}
use Rattle.spdm_grammar.specs.declared.told.why.Why as declared
use Rattle.spdm_basis.specs.declared.OutOfMemory.{OutOfMemory}
use Rattle.spdm_basis.specs.declared.PacketFault.{PacketFault}
use Rattle.check_laws.specs.Judged.{AreApart}
use Rattle.check_laws.specs.Order.{is_known, order_why, ordered_why}
use Rattle.check_laws.specs.ReasonsEach.{IsOneOf}
use Rattle.check_laws.specs.Rows.{StandsForRows}
use Rattle.trace_check.proofs.Refusals.{order_refused}
use Rattle.trace_check.specs.Checker.{AreKept, IsChecker, IsTold, has_eid}
use Rattle.trace_check.specs.JudgedPair.{IsRefused, IsTaken, StandsFor}
use Rattle.trace_check.specs.Limits.{IsAnswering}
use Rattle.trace_check.specs.declared.checker.Checker.{Checker}
use Rattle.trace_check.specs.declared.judged_pair.JudgedPair.{JudgedPair}
use Rattle.capture_machine.specs.Difference.{Why}
use Rattle.capture_machine.specs.SessionTable.{Row}
use Rattle.world_machine.specs.Setup.{Configuration}

-- What is kept of each other requester is kept after a packet of this one.
abbrev pub OthersStay : Configuration → ReqSetup → List (List ℕ) → List ℕ → (rows behind : List Row) → Type 0
OthersStay w q older packet rows behind =
    (seen : JudgedPair) (other : ReqSetup) → other.eid ≢ q.eid → other.eid ≢ w.responder.eid → StandsFor seen w other older rows → StandsFor seen w other (packet ∷ older) behind

others_stay : (xs : List JudgedPair) (w : Configuration) (q : ReqSetup) (older : List (List ℕ)) (packet : List ℕ) (rows behind : List Row) (qs : List ReqSetup) → OthersStay w q older packet rows behind
    → AllByRecursion (λ (other : ReqSetup). other.eid ≢ q.eid) qs → AreApart w.responder.eid qs → AreKept xs w older rows qs → AreKept xs w (packet ∷ older) behind qs
others_stay [] w q older packet rows behind [] stay others apart are = tt
others_stay (x ∷ xs) w q older packet rows behind (o ∷ qs) stay others apart are =
    (stay x o others.0 apart.0 are.0, others_stay xs w q older packet rows behind qs stay others.1 apart.2 are.1)
others_stay [] w q older packet rows behind (o ∷ qs) stay others apart are = absurd are
others_stay (x ∷ xs) w q older packet rows behind [] stay others apart are = absurd are

-- ---- A packet of none.

none_by : (eid n : ℕ) (x : JudgedPair) (xs : List JudgedPair) (b : Bool) → has_eid eid x ≡ b → cond b (Some n) (position_from (has_eid eid) (n + 1) xs) ≡ None → (has_eid eid x ≡ false) × (position_from (has_eid eid) (n + 1) xs ≡ None)
none_by eid n x xs true e none = absurd (none-some n (sym none))
none_by eid n x xs false e none = (e, none)

pub none_known : (xs : List JudgedPair) (w : Configuration) (older : List (List ℕ)) (rows : List Row) (qs : List ReqSetup) (eid n : ℕ) → AreKept xs w older rows qs → position_from (has_eid eid) n xs ≡ None → is_known eid qs ≡ false
none_known [] w older rows [] eid n are none = refl
none_known (x ∷ xs) w older rows (q ∷ qs) eid n are none =
    let first = none_by eid n x xs (has_eid eid x) refl none in
    ap (λ (m : ℕ). m == eid || is_known eid qs) (sym are.0.order.at) ∙ ap (λ (b : Bool). b || is_known eid qs) first.0 ∙ none_known xs w older rows qs eid (n + 1) are.1 first.1
none_known [] w older rows (q ∷ qs) eid n are none = absurd are
none_known (x ∷ xs) w older rows [] eid n are none = absurd are

-- ---- A packet of one.

-- The requester at a place, counted from a number on, and what becomes of all where a packet of it goes on.
pub record Hit (w : Configuration) (older : List (List ℕ)) (rows : List Row) (eid n i : ℕ) (xs : List JudgedPair) (qs : List ReqSetup) : Type 0 where
  pub k : ℕ
  pub at : i ≡ n + k
  pub seen : JudgedPair
  pub there : (e : JudgedPair) → get_or xs k e ≡ seen
  pub q : ReqSetup
  pub end : q.eid ≡ eid
  pub known : find (λ (x : ReqSetup). x.eid == eid) qs ≡ Some q
  pub stands : StandsFor seen w q older rows
  pub change : (packet : List ℕ) (behind : List Row) (new : JudgedPair) → StandsFor new w q (packet ∷ older) behind → OthersStay w q older packet rows behind → AreKept (slice_set xs k new) w (packet ∷ older) behind qs

first_hit : (w : Configuration) (older : List (List ℕ)) (rows : List Row) (eid n i : ℕ) (x : JudgedPair) (xs : List JudgedPair) (q : ReqSetup) (qs : List ReqSetup) → StandsFor x w q older rows → AreKept xs w older rows qs → AreApart w.responder.eid (q ∷ qs)
    → has_eid eid x ≡ true → Some n ≡ Some i → Hit w older rows eid n i (x ∷ xs) (q ∷ qs)
first_hit w older rows eid n i x xs q qs s are apart e is =
    let same : q.eid ≡ eid = sym s.order.at ∙ eqb-true _ _ e in
    let place : i ≡ n = sym (same_Some n i is) in record {
      k = 0;
      at = omega (arith, place);
      seen = x;
      there = λ e'. refl;
      q = q;
      end = same;
      known = ap (λ (b : Bool). cond b (Some q) (find (λ (y : ReqSetup). y.eid == eid) qs)) (eq-eqb _ _ same);
      stands = s;
      change = λ packet behind new stands stay. (stands, others_stay xs w q older packet rows behind qs stay apart.1 apart.2 are);
    }

later_hit : (w : Configuration) (older : List (List ℕ)) (rows : List Row) (eid n i : ℕ) (x : JudgedPair) (xs : List JudgedPair) (q : ReqSetup) (qs : List ReqSetup) → StandsFor x w q older rows → AreApart w.responder.eid (q ∷ qs) → has_eid eid x ≡ false
    → Hit w older rows eid (n + 1) i xs qs → Hit w older rows eid n i (x ∷ xs) (q ∷ qs)
later_hit w older rows eid n i x xs q qs s apart e hit =
    let at = hit.at in
    let other : (q.eid == eid) ≡ false = ap (λ (m : ℕ). m == eid) (sym s.order.at) ∙ e in record {
      k = suc hit.k;
      at = omega (arith, at);
      seen = hit.seen;
      there = hit.there;
      q = hit.q;
      end = hit.end;
      known = ap (λ (b : Bool). cond b (Some q) (find (λ (y : ReqSetup). y.eid == eid) qs)) other ∙ hit.known;
      stands = hit.stands;
      change = λ packet behind new stands stay. (stay x q (away q.eid eid hit.q.eid other hit.end) apart.0 s, hit.change packet behind new stands stay);
    }
  where
    away : (a b c : ℕ) → (a == b) ≡ false → c ≡ b → a ≢ c
    away a b c differ same is = false≢true (sym differ ∙ eq-eqb a b (is ∙ same))

pub hit : (w : Configuration) (older : List (List ℕ)) (rows : List Row) (eid n i : ℕ) (xs : List JudgedPair) (qs : List ReqSetup) → AreKept xs w older rows qs → AreApart w.responder.eid qs → position_from (has_eid eid) n xs ≡ Some i → Hit w older rows eid n i xs qs
hit w older rows eid n i [] [] are apart is = absurd (none-some i is)
hit w older rows eid n i (x ∷ xs) (q ∷ qs) are apart is = go (has_eid eid x) refl is (hit w older rows eid (n + 1) i xs qs are.1 apart.2)
  where
    go : (b : Bool) → has_eid eid x ≡ b → cond b (Some n) (position_from (has_eid eid) (n + 1) xs) ≡ Some i → (position_from (has_eid eid) (n + 1) xs ≡ Some i → Hit w older rows eid (n + 1) i xs qs) → Hit w older rows eid n i (x ∷ xs) (q ∷ qs)
    go true e it next = first_hit w older rows eid n i x xs q qs are.0 are.1 apart e it
    go false e it next = later_hit w older rows eid n i x xs q qs are.0 apart e (next it)
hit w older rows eid n i [] (q ∷ qs) are apart is = absurd are
hit w older rows eid n i (x ∷ xs) [] are apart is = absurd are

-- It is one of those that are set up.
pub one_of : (w : Configuration) (q : ReqSetup) (eid : ℕ) → q.eid ≡ eid → find (λ (x : ReqSetup). x.eid == eid) w.requesters ≡ Some q → IsOneOf w q
one_of w q eid end known = subst (λ (n : ℕ). find (λ (x : ReqSetup). x.eid == n) w.requesters ≡ Some q) (sym end) known

-- ---- What is told of a packet.

-- What is reported of it by its requester.
pub told_by : (w : Configuration) (q : ReqSetup) (older : List (List ℕ)) (packet : List ℕ) (rows : List Row) (x : Result Unit declared.Why) (pair : JudgedPair) (new : Checker)
    → IsTaken w q older packet rows x pair new.table → new.own.number ≡ w.responder.eid → IsAnswering new.answering w.responder
    → ((behind : List Row) → StandsFor pair w q (packet ∷ older) behind → OthersStay w q older packet rows behind → AreKept new.pairs.items w (packet ∷ older) behind w.requesters) → IsTold w older packet x new
told_by w q older packet rows (Ok u) pair new taken own answering change =
    let more : length older + 1 ≡ length (packet ∷ older) = omega arith in record {
      own = own;
      answering = answering;
      rows = taken.behind;
      shows = taken.shows;
      pairs = change taken.behind taken.stands taken.others;
      entries = subst (λ (n : ℕ). StandsForRows new.table w n taken.behind) more taken.entries;
    }
told_by w q older packet rows (Err why) pair new taken own answering change = taken

-- The same, where memory may be wanted.
pub given_by : (w : Configuration) (q : ReqSetup) (older : List (List ℕ)) (packet : List ℕ) (rows : List Row) (x : Result (Result Unit declared.Why) OutOfMemory) (pair : JudgedPair) (new : Checker)
    → IfOk x (λ told. IsTaken w q older packet rows told pair new.table) → new.own.number ≡ w.responder.eid → IsAnswering new.answering w.responder
    → ((behind : List Row) → StandsFor pair w q (packet ∷ older) behind → OthersStay w q older packet rows behind → AreKept new.pairs.items w (packet ∷ older) behind w.requesters) → IfOk x (λ told. IsTold w older packet told new)
given_by w q older packet rows (Ok told) pair new taken own answering change = told_by w q older packet rows told pair new taken own answering change
given_by w q older packet rows (Err fault) pair new taken own answering change = tt

-- The order of the packets refuses it.
pub refused_by : (w : Configuration) (older : List (List ℕ)) (seen : Checker) (packet : List ℕ) (r : Result PacketFields PacketFault) (why : Why) → IsChecker seen w older → parsed packet ≡ r → ordered_why w.responder.eid w.requesters older r ≡ Some why
    → IsRefused w older packet why
unfolding order_why
refused_by w older seen packet r why is parses told =
    order_refused w older is.rows packet why is.shows.0 is.shows.1 (ap (ordered_why w.responder.eid w.requesters older) parses ∙ told)
