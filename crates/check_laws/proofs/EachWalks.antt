-- A walk for each requester is a walk over the packets.
use Rattle.std.proofs.Common.{◌≡◌, ◌≢◌, ◌==◌, ◌&&◌, ◌||◌, ℕ, List, [], ◌∷◌, refl, sym, ap, ◌∙◌, subst, map, reverse, Bool, true, false, Option, Some, Result, Ok, Err, cond, eq-eqb, eqb-true}
use Rattle.std.specs.List.{AllByRecursion}
use Rattle.std.specs.Prelude.{MatchBool}
use Rattle.std.proofs.lemmas.Bool.{false≢true}
use Rattle.mctp_framing.specs.Packet.{PacketFields, parsed}
use Rattle.requester_machine.specs.Setup.{ReqSetup}
use Rattle.spdm_basis.proofs.Bools.{and_first, and_second}
use Rattle.spdm_basis.specs.declared.PacketFault.{PacketFault}
use Rattle.spdm_machine.specs.Packets.{gathered_from}
use Rattle.check_laws.specs.Judged.{AreApart}
use Rattle.check_laws.specs.Order.{is_known}
use Rattle.check_laws.specs.Walks.{ConformsIsEach, HaveWalks, LeadsIsEach, StepsTo, StepsBy, WalkEach, Walks, all_between, goes_between}
use Rattle.check_laws.proofs.PairWalks.{IsFor, Made, it_made, other_stayed, stays_in, steps_setup, to_each, walks_setup}
use Rattle.capture_machine.specs.Capture.{AsksBy, ComesFrom, Follows, FollowsBy, GoesTo, Leads, RepliesBy}
use Rattle.capture_machine.specs.Rounds.{Dialogue, dialogue_at, new_dialogue, replaced, with_dialogue}
use Rattle.world_machine.specs.Setup.{Configuration}

-- ---- The others were as they are.

module _ (w : Configuration) (older : List (List ℕ)) (packet : List ℕ) (to : Bool) (at : ℕ) (p : PacketFields) (parses : parsed packet ≡ Ok p) (is : IsFor w to at p) where
  was_so : (q : ReqSetup) (d : Dialogue) → q.eid ≢ at → Walks w q (packet ∷ older) d → Walks w q older d
  unfolding StepsTo
  was_so q d apart walk =
      let P : Result PacketFields PacketFault → Type 0 = λ r. StepsBy w q.eid older walk.0 d r in
      subst (Walks w q older) (sym (other_stayed w older to at q.eid p walk.0 d is apart (subst P parses walk.2))) walk.1

  were_so : (qs : List ReqSetup) (ds : List Dialogue) → AllByRecursion (λ (other : ReqSetup). other.eid ≢ at) qs → WalkEach w (packet ∷ older) qs ds → WalkEach w older qs ds
  were_so [] [] apart each = tt
  were_so (q ∷ qs) (d ∷ ds) apart each = (was_so q d apart.0 each.0, were_so qs ds apart.1 each.1)
  were_so [] (d ∷ ds) apart each = absurd each
  were_so (q ∷ qs) [] apart each = absurd each

eid_of : (w : Configuration) (q : ReqSetup) (older : List (List ℕ)) (d : Dialogue) → Walks w q older d → d.setup.eid ≡ q.eid
eid_of w q older d walk = ap (λ (s : ReqSetup). s.eid) (walks_setup w q older d walk)

stay_in : (w : Configuration) (older : List (List ℕ)) (at : ℕ) (n : Dialogue) (qs : List ReqSetup) (ds : List Dialogue) → n.setup.eid ≡ at → AllByRecursion (λ (other : ReqSetup). other.eid ≢ at) qs → WalkEach w older qs ds → ds ≡ with_dialogue n ds
stay_in w older at n [] [] its apart each = refl
stay_in w older at n (q ∷ qs) (d ∷ ds) its apart each =
    ap (λ (x : Dialogue). x ∷ ds) (sym (stays_in n d q.eid (eid_of w q older d each.0) (λ same. apart.0 (same ∙ its)))) ∙ ap (λ (l : List Dialogue). replaced n d ∷ l) (stay_in w older at n qs ds its apart.1 each.1)
stay_in w older at n [] (d ∷ ds) its apart each = absurd each
stay_in w older at n (q ∷ qs) [] its apart each = absurd each

-- ---- What was before the packet.

pub record Came (w : Configuration) (older : List (List ℕ)) (to : Bool) (at : ℕ) (p : PacketFields) (qs : List ReqSetup) (ds : List Dialogue) : Type 0 where
  pub before : List Dialogue
  pub each : WalkEach w older qs before
  pub one : Dialogue
  pub found : dialogue_at at before ≡ Some one
  pub own : one.setup.eid ≡ at
  pub next : Dialogue
  pub its : next.setup.eid ≡ at
  pub made : Made w to at older p one next
  pub all : ds ≡ with_dialogue next before

first_came : (w : Configuration) (older : List (List ℕ)) (packet : List ℕ) (to : Bool) (at : ℕ) (p : PacketFields) (q : ReqSetup) (qs : List ReqSetup) (d : Dialogue) (ds : List Dialogue) → parsed packet ≡ Ok p → IsFor w to at p → q.eid ≡ at
    → AllByRecursion (λ (other : ReqSetup). other.eid ≢ at) qs → WalkEach w (packet ∷ older) (q ∷ qs) (d ∷ ds) → Came w older to at p (q ∷ qs) (d ∷ ds)
unfolding StepsTo
first_came w older packet to at p q qs d ds parses is here apart each =
    let b : Dialogue = each.0.0 in
    let own : b.setup.eid ≡ at = eid_of w q older b each.0.1 ∙ here in
    let its : d.setup.eid ≡ at = ap (λ (s : ReqSetup). s.eid) (steps_setup w q.eid older b d (parsed packet) each.0.2) ∙ own in
    let rest = were_so w older packet to at p parses is qs ds apart each.1 in
    let P : Result PacketFields PacketFault → Type 0 = λ r. StepsBy w q.eid older b d r in
    let Q : ℕ → Type 0 = λ m. StepsBy w m older b d (Ok p) in record {
      before = b ∷ ds;
      each = (each.0.1, rest);
      one = b;
      found = ap (λ (x : Bool). cond x (Some b) (dialogue_at at ds)) (eq-eqb b.setup.eid at own);
      own = own;
      next = d;
      its = its;
      made = it_made w older at p b d to is (subst Q here (subst P parses each.0.2));
      all = ap (λ (x : Dialogue). x ∷ ds) (sym (ap (λ (x : Bool). cond x d b) (eq-eqb b.setup.eid d.setup.eid (own ∙ sym its)))) ∙ ap (λ (l : List Dialogue). replaced d b ∷ l) (stay_in w older at d qs ds its apart rest);
    }

later_came : (w : Configuration) (older : List (List ℕ)) (packet : List ℕ) (to : Bool) (at : ℕ) (p : PacketFields) (q : ReqSetup) (qs : List ReqSetup) (d : Dialogue) (ds : List Dialogue) → parsed packet ≡ Ok p → IsFor w to at p → q.eid ≢ at
    → Walks w q (packet ∷ older) d → Came w older to at p qs ds → Came w older to at p (q ∷ qs) (d ∷ ds)
later_came w older packet to at p q qs d ds parses is apart walk came =
    let was = was_so w older packet to at p parses is q d apart walk in
    let eid : d.setup.eid ≡ q.eid = eid_of w q older d was in
    let none : (d.setup.eid == at) ≡ false = ne (d.setup.eid == at) (λ same. apart (sym eid ∙ eqb-true _ _ same)) in record {
      before = d ∷ came.before;
      each = (was, came.each);
      one = came.one;
      found = ap (λ (x : Bool). cond x (Some d) (dialogue_at at came.before)) none ∙ came.found;
      own = came.own;
      next = came.next;
      its = came.its;
      made = came.made;
      all = ap (λ (l : List Dialogue). d ∷ l) came.all ∙ ap (λ (x : Dialogue). x ∷ with_dialogue came.next came.before) (sym (stays_in came.next d q.eid eid (λ same. apart (same ∙ came.its))));
    }
  where
    ne : (b : Bool) → (b ≡ true → ⊥) → b ≡ false
    ne true not = absurd (not refl)
    ne false not = refl

came_by : (w : Configuration) (older : List (List ℕ)) (packet : List ℕ) (to : Bool) (at : ℕ) (p : PacketFields) (own : ℕ) (qs : List ReqSetup) (ds : List Dialogue) → parsed packet ≡ Ok p → IsFor w to at p → AreApart own qs → is_known at qs ≡ true
    → WalkEach w (packet ∷ older) qs ds → Came w older to at p qs ds
came_by w older packet to at p own [] [] parses is apart known each = absurd (false≢true known)
came_by w older packet to at p own (q ∷ qs) (d ∷ ds) parses is apart known each = by_eid (q.eid == at) refl known (λ more. came_by w older packet to at p own qs ds parses is apart.2 more each.1)
  where
    by_eid : (b : Bool) → (q.eid == at) ≡ b → (b || is_known at qs) ≡ true → (is_known at qs ≡ true → Came w older to at p qs ds) → Came w older to at p (q ∷ qs) (d ∷ ds)
    by_eid true e there rest =
        let here : q.eid ≡ at = eqb-true _ _ e in
        first_came w older packet to at p q qs d ds parses is here (subst (λ (m : ℕ). AllByRecursion (λ (other : ReqSetup). other.eid ≢ m) qs) here apart.1) each
    by_eid false e there rest = later_came w older packet to at p q qs d ds parses is (λ same. absurd (false≢true (sym e ∙ eq-eqb _ _ same))) each.0 (rest there)
came_by w older packet to at p own [] (d ∷ ds) parses is apart known each = absurd each
came_by w older packet to at p own (q ∷ qs) [] parses is apart known each = absurd each

-- ---- One packet.

pub record Followed (w : Configuration) (older : List (List ℕ)) (ds : List Dialogue) (r : Result PacketFields PacketFault) : Type 0 where
  pub before : List Dialogue
  pub each : WalkEach w older w.requesters before
  pub follows : FollowsBy w older before ds r

module _ (w : Configuration) (older : List (List ℕ)) (packet : List ℕ) (p : PacketFields) (ds : List Dialogue) (apart : AreApart w.responder.eid w.requesters) (parses : parsed packet ≡ Ok p) (each : WalkEach w (packet ∷ older) w.requesters ds) where
  abbrev Ends : Bool → Bool → List Dialogue → Type 0
  Ends to from before = MatchBool to (ComesFrom w older p before ds (dialogue_at p.from before)) (MatchBool from (GoesTo w older p before ds (dialogue_at p.to before)) ⊥)

  came_from : (p.to == w.responder.eid) ≡ true → is_known p.from w.requesters ≡ true → (before : List Dialogue) × WalkEach w older w.requesters before × ComesFrom w older p before ds (dialogue_at p.from before)
  came_from to known =
      let is : IsFor w true p.from p = record { to_is = to; end = refl; from_is = λ no. absurd (false≢true (sym no)) } in
      let came = came_by w older packet true p.from p w.responder.eid w.requesters ds parses is apart known each in
      let G : ℕ → Type 0 = λ m. AsksBy came.one (gathered_from w.responder.eid m older p) came.next in
      let C : Option Dialogue → Type 0 = λ o. ComesFrom w older p came.before ds o in
      (came.before, came.each, subst C (sym came.found) (came.next, subst G (sym came.own) came.made, came.all))

  went_to : (p.to == w.responder.eid) ≡ false → (p.from == w.responder.eid) ≡ true → is_known p.to w.requesters ≡ true
      → (before : List Dialogue) × WalkEach w older w.requesters before × GoesTo w older p before ds (dialogue_at p.to before)
  went_to to from known =
      let is : IsFor w false p.to p = record { to_is = to; end = refl; from_is = λ no. from } in
      let came = came_by w older packet false p.to p w.responder.eid w.requesters ds parses is apart known each in
      let G : ℕ → Type 0 = λ m. RepliesBy w came.one (gathered_from m w.responder.eid older p) came.next in
      let C : Option Dialogue → Type 0 = λ o. GoesTo w older p came.before ds o in
      (came.before, came.each, subst C (sym came.found) (came.next, subst G (sym came.own) came.made, came.all))

  either_came : (to from : Bool) → (p.to == w.responder.eid) ≡ to → (p.from == w.responder.eid) ≡ from → cond to (is_known p.from w.requesters) (from && is_known p.to w.requesters) ≡ true
      → (before : List Dialogue) × WalkEach w older w.requesters before × Ends to from before
  either_came true from is at known = came_from is known
  either_came false true is at known = went_to is at known
  either_came false false is at known = absurd (false≢true known)

  pub packet_came : goes_between w (Ok p) ≡ true → Followed w older ds (Ok p)
  packet_came between =
      let came = either_came (p.to == w.responder.eid) (p.from == w.responder.eid) refl refl between in
      record { before = came.0; each = came.1; follows = came.2 }

followed : (w : Configuration) (older : List (List ℕ)) (packet : List ℕ) (ds : List Dialogue) (r : Result PacketFields PacketFault) → AreApart w.responder.eid w.requesters → parsed packet ≡ r → WalkEach w (packet ∷ older) w.requesters ds
    → goes_between w r ≡ true → Followed w older ds r
followed w older packet ds (Err fault) apart parses each between = absurd (false≢true between)
followed w older packet ds (Ok p) apart parses each between = packet_came w older packet p ds apart parses each between

-- ---- All packets.

nothing_came : (w : Configuration) (qs : List ReqSetup) (ds : List Dialogue) → WalkEach w [] qs ds → ds ≡ map new_dialogue qs
nothing_came w [] [] each = refl
nothing_came w (q ∷ qs) (d ∷ ds) each = ap (λ (x : Dialogue). x ∷ ds) each.0 ∙ ap (λ (l : List Dialogue). new_dialogue q ∷ l) (nothing_came w qs ds each.1)
nothing_came w [] (d ∷ ds) each = absurd each
nothing_came w (q ∷ qs) [] each = absurd each

from_each : (w : Configuration) (older : List (List ℕ)) (ds : List Dialogue) → AreApart w.responder.eid w.requesters → WalkEach w older w.requesters ds → all_between w older ≡ true → Leads w older ds
unfolding Follows
from_each w [] ds apart each all = nothing_came w w.requesters ds each
from_each w (packet ∷ older) ds apart each all =
    let came = followed w older packet ds (parsed packet) apart refl each (and_first (goes_between w (parsed packet)) (all_between w older) all) in
    (came.before, from_each w older came.before apart came.each (and_second (goes_between w (parsed packet)) (all_between w older) all), came.follows)

pub leads_is_each : LeadsIsEach
leads_is_each w older ds apart = (to_each w older ds apart, λ each. from_each w older ds apart each.0 each.1)

-- ---- What conforms.

have_each : (w : Configuration) (older : List (List ℕ)) (qs : List ReqSetup) (ds : List Dialogue) → WalkEach w older qs ds → HaveWalks w older qs
have_each w older [] [] each = tt
have_each w older (q ∷ qs) (d ∷ ds) each = ((d, each.0), have_each w older qs ds each.1)
have_each w older [] (d ∷ ds) each = absurd each
have_each w older (q ∷ qs) [] each = absurd each

pub each_had : (w : Configuration) (older : List (List ℕ)) (qs : List ReqSetup) → HaveWalks w older qs → (ds : List Dialogue) × WalkEach w older qs ds
each_had w older [] have = ([], tt)
each_had w older (q ∷ qs) have = let rest = each_had w older qs have.1 in (have.0.0 ∷ rest.0, (have.0.1, rest.1))

pub conforms_is_each : ConformsIsEach
conforms_is_each w packets apart = (
  λ conforms. let both = to_each w (reverse packets) conforms.0 apart conforms.1 in (have_each w (reverse packets) w.requesters conforms.0 both.0, both.1),
  λ have. let each = each_had w (reverse packets) w.requesters have.0 in (each.0, from_each w (reverse packets) each.0 apart each.1 have.1),
)
