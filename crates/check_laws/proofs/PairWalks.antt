-- A walk over packets is a walk for each requester.
use Rattle.std.proofs.Common.{◌≡◌, ◌≢◌, ◌==◌, ◌&&◌, ◌||◌, not, ℕ, List, [], ◌∷◌, refl, sym, ap, ◌∙◌, subst, map, Bool, true, false, Option, Some, None, Result, Ok, Err, cond, eq-eqb, eqb-true, ne_eqb}
use Rattle.std.specs.List.{AllByRecursion}
use Rattle.std.specs.Prelude.{MatchBool}
use Rattle.std.proofs.lemmas.Bool.{false≢true}
use Rattle.std.proofs.lemmas.Option.{none-some, same_Some}
use Rattle.mctp_framing.specs.Packet.{PacketFields, parsed}
use Rattle.requester_machine.specs.Setup.{ReqSetup}
use Rattle.spdm_basis.specs.declared.PacketFault.{PacketFault}
use Rattle.spdm_grammar.proofs.Spelled.{both}
use Rattle.spdm_machine.specs.Packets.{gathered_from}
use Rattle.check_laws.specs.Judged.{AreApart}
use Rattle.check_laws.specs.Order.{is_answer, is_known, is_request}
use Rattle.check_laws.specs.Walks.{StepsTo, StepsBy, WalkEach, Walks, all_between, goes_between}
use Rattle.check_laws.proofs.Rounded.{answer_turned, request_turned}
use Rattle.capture_machine.specs.Capture.{AsksBy, ComesFrom, Follows, FollowsBy, GoesTo, Leads, RepliesBy}
use Rattle.capture_machine.specs.Rounds.{Dialogue, dialogue_at, new_dialogue, replaced, with_dialogue}
use Rattle.world_machine.specs.Setup.{Configuration}

-- ---- The set-up stays.

pub steps_setup : (w : Configuration) (eid : ℕ) (older : List (List ℕ)) (d next : Dialogue) (r : Result PacketFields PacketFault) → StepsBy w eid older d next r → next.setup ≡ d.setup
steps_setup w eid older d next (Err fault) step = ap (λ (x : Dialogue). x.setup) step
steps_setup w eid older d next (Ok p) step = by_ends (is_request w.responder.eid eid p) (is_answer w.responder.eid eid p) step
  where
    by_ends : (b c : Bool) → MatchBool b (AsksBy d (gathered_from w.responder.eid eid older p) next) (MatchBool c (RepliesBy w d (gathered_from eid w.responder.eid older p) next) (next ≡ d)) → next.setup ≡ d.setup
    by_ends true c asks = (request_turned d (gathered_from w.responder.eid eid older p) next asks).setup
    by_ends false true replies = (answer_turned w d (gathered_from eid w.responder.eid older p) next replies).setup
    by_ends false false same = ap (λ (x : Dialogue). x.setup) same

pub walks_setup : (w : Configuration) (q : ReqSetup) (older : List (List ℕ)) (d : Dialogue) → Walks w q older d → d.setup ≡ q
unfolding StepsTo
walks_setup w q [] d walk = ap (λ (x : Dialogue). x.setup) walk
walks_setup w q (packet ∷ older) d walk = steps_setup w q.eid older walk.0 d (parsed packet) walk.2 ∙ walks_setup w q older walk.0 walk.1

-- ---- A packet for one requester leaves the others.

-- What it makes of the one with this endpoint, by whether it comes from there or goes there.
abbrev pub Made : Configuration → (to : Bool) → (at : ℕ) → List (List ℕ) → PacketFields → Dialogue → Dialogue → Type 0
Made w to at older p b n = MatchBool to (AsksBy b (gathered_from w.responder.eid at older p) n) (RepliesBy w b (gathered_from at w.responder.eid older p) n)

-- The packet is for the responder, from the requester with this endpoint; or from the responder, for that requester.
pub record IsFor (w : Configuration) (to : Bool) (at : ℕ) (p : PacketFields) : Type 0 where
  pub to_is : (p.to == w.responder.eid) ≡ to
  pub end : cond to p.from p.to ≡ at
  pub from_is : to ≡ false → (p.from == w.responder.eid) ≡ true

module _ (w : Configuration) (older : List (List ℕ)) (at : ℕ) (p : PacketFields) (b n : Dialogue) where
  abbrev Answered : Bool → Type 0
  Answered x = MatchBool x (RepliesBy w b (gathered_from at w.responder.eid older p) n) (n ≡ b)

  abbrev Asked : Bool → Type 0
  Asked x = MatchBool x (AsksBy b (gathered_from w.responder.eid at older p) n) (Answered (is_answer w.responder.eid at p))

  asked_here : IsFor w true at p → is_request w.responder.eid at p ≡ true
  asked_here is = ap (λ (x : Bool). x && p.from == at) is.to_is ∙ eq-eqb p.from at is.end

  not_asked : IsFor w false at p → is_request w.responder.eid at p ≡ false
  not_asked is = ap (λ (x : Bool). x && p.from == at) is.to_is

  answered_here : IsFor w false at p → is_answer w.responder.eid at p ≡ true
  answered_here is =
      ap (λ (x : Bool). not x && (p.from == w.responder.eid && p.to == at)) is.to_is ∙ ap (λ (x : Bool). x && p.to == at) (is.from_is refl) ∙ eq-eqb p.to at is.end

  pub of_it : (to : Bool) → IsFor w to at p → Made w to at older p b n → StepsBy w at older b n (Ok p)
  of_it true is made = subst Asked (sym (asked_here is)) made
  of_it false is made = subst Asked (sym (not_asked is)) (subst Answered (sym (answered_here is)) made)

  pub it_made : (to : Bool) → IsFor w to at p → StepsBy w at older b n (Ok p) → Made w to at older p b n
  it_made true is step = subst Asked (asked_here is) step
  it_made false is step = subst Answered (answered_here is) (subst Asked (not_asked is) step)

no_request : (w : Configuration) (to : Bool) (at eid : ℕ) (p : PacketFields) → IsFor w to at p → eid ≢ at → is_request w.responder.eid eid p ≡ false
no_request w true at eid p is apart = ap (λ (x : Bool). x && p.from == eid) is.to_is ∙ ne_eqb p.from eid (λ same. apart (sym same ∙ is.end))
no_request w false at eid p is apart = ap (λ (x : Bool). x && p.from == eid) is.to_is

no_answer : (w : Configuration) (to : Bool) (at eid : ℕ) (p : PacketFields) → IsFor w to at p → eid ≢ at → is_answer w.responder.eid eid p ≡ false
no_answer w true at eid p is apart = ap (λ (x : Bool). not x && (p.from == w.responder.eid && p.to == eid)) is.to_is
no_answer w false at eid p is apart =
    ap (λ (x : Bool). not x && (p.from == w.responder.eid && p.to == eid)) is.to_is ∙ ap (λ (x : Bool). x && p.to == eid) (is.from_is refl) ∙ ne_eqb p.to eid (λ same. apart (sym same ∙ is.end))

module _ (w : Configuration) (older : List (List ℕ)) (to : Bool) (at eid : ℕ) (p : PacketFields) (d next : Dialogue) (is : IsFor w to at p) (apart : eid ≢ at) where
  abbrev OnAnswer : Bool → Type 0
  OnAnswer x = MatchBool x (RepliesBy w d (gathered_from eid w.responder.eid older p) next) (next ≡ d)

  abbrev OnRequest : Bool → Type 0
  OnRequest x = MatchBool x (AsksBy d (gathered_from w.responder.eid eid older p) next) (OnAnswer (is_answer w.responder.eid eid p))

  other_stays : next ≡ d → StepsBy w eid older d next (Ok p)
  other_stays same = subst OnRequest (sym (no_request w to at eid p is apart)) (subst OnAnswer (sym (no_answer w to at eid p is apart)) same)

  pub other_stayed : StepsBy w eid older d next (Ok p) → next ≡ d
  other_stayed step = subst OnAnswer (no_answer w to at eid p is apart) (subst OnRequest (no_request w to at eid p is apart) step)

-- It leaves the others as they are, in the list too.
pub stays_in : (n x : Dialogue) (eid : ℕ) → x.setup.eid ≡ eid → eid ≢ n.setup.eid → replaced n x ≡ x
stays_in n x eid is apart = ap (λ (b : Bool). cond b n x) (ne_eqb x.setup.eid n.setup.eid (λ same. apart (sym is ∙ same)))

others_walk : (w : Configuration) (older : List (List ℕ)) (packet : List ℕ) (to : Bool) (at : ℕ) (p : PacketFields) (n : Dialogue) (qs : List ReqSetup) (ds : List Dialogue) → parsed packet ≡ Ok p → IsFor w to at p → n.setup.eid ≡ at
    → AllByRecursion (λ (other : ReqSetup). other.eid ≢ at) qs → WalkEach w older qs ds → WalkEach w (packet ∷ older) qs (with_dialogue n ds)
unfolding StepsTo
others_walk w older packet to at p n [] [] parses is own apart each = tt
others_walk w older packet to at p n (q ∷ qs) (d ∷ ds) parses is own apart each =
    let eid : d.setup.eid ≡ q.eid = ap (λ (s : ReqSetup). s.eid) (walks_setup w q older d each.0) in
    let same : replaced n d ≡ d = stays_in n d q.eid eid (λ e. apart.0 (e ∙ own)) in
    let P : Result PacketFields PacketFault → Type 0 = λ r. StepsBy w q.eid older d (replaced n d) r in
    let step : StepsBy w q.eid older d (replaced n d) (parsed packet) = subst P (sym parses) (other_stays w older to at q.eid p d (replaced n d) is apart.0 same) in
    ((d, each.0, step), others_walk w older packet to at p n qs ds parses is own apart.1 each.1)
others_walk w older packet to at p n [] (d ∷ ds) parses is own apart each = absurd each
others_walk w older packet to at p n (q ∷ qs) [] parses is own apart each = absurd each

-- ---- From one walk to a walk for each.

-- The dialogue that it is for.
one_walks : (w : Configuration) (older : List (List ℕ)) (packet : List ℕ) (to : Bool) (at : ℕ) (p : PacketFields) (b n : Dialogue) (own : ℕ) (qs : List ReqSetup) (ds : List Dialogue) → parsed packet ≡ Ok p → IsFor w to at p → n.setup.eid ≡ at
    → Made w to at older p b n → AreApart own qs → WalkEach w older qs ds → dialogue_at at ds ≡ Some b → WalkEach w (packet ∷ older) qs (with_dialogue n ds)
unfolding StepsTo
one_walks w older packet to at p b n own [] [] parses is its made apart each found = absurd (none-some b found)
one_walks w older packet to at p b n own (q ∷ qs) (d ∷ ds) parses is its made apart each found =
    by_eid (d.setup.eid == at) refl found (λ there. one_walks w older packet to at p b n own qs ds parses is its made apart.2 each.1 there)
    (λ here. others_walk w older packet to at p n qs ds parses is its here each.1)
  where
    same_eid : d.setup.eid ≡ q.eid
    same_eid = ap (λ (s : ReqSetup). s.eid) (walks_setup w q older d each.0)

    Step : Dialogue → Result PacketFields PacketFault → Type 0
    Step x r = StepsBy w q.eid older d x r

    by_eid : (c : Bool) → (d.setup.eid == at) ≡ c → cond c (Some d) (dialogue_at at ds) ≡ Some b → (dialogue_at at ds ≡ Some b → WalkEach w (packet ∷ older) qs (with_dialogue n ds))
        → (AllByRecursion (λ (other : ReqSetup). other.eid ≢ at) qs → WalkEach w (packet ∷ older) qs (with_dialogue n ds)) → WalkEach w (packet ∷ older) (q ∷ qs) (with_dialogue n (d ∷ ds))
    by_eid true e it rest others =
        let here : q.eid ≡ at = sym same_eid ∙ eqb-true _ _ e in
        let new : replaced n d ≡ n = ap (λ (x : Bool). cond x n d) (eq-eqb d.setup.eid n.setup.eid (eqb-true _ _ e ∙ sym its)) in
        let B : Dialogue → Type 0 = λ x. Made w to at older p x n in
        let E : ℕ → Type 0 = λ m. StepsBy w m older d n (Ok p) in
        let step = subst E (sym here) (of_it w older at p d n to is (subst B (sym (same_Some d b it)) made)) in
        let P : Dialogue → Type 0 = λ x. StepsBy w q.eid older d x (parsed packet) in
        let Q : Result PacketFields PacketFault → Type 0 = λ r. StepsBy w q.eid older d n r in
        ((d, each.0, subst P (sym new) (subst Q (sym parses) step)), others (subst (λ (m : ℕ). AllByRecursion (λ (other : ReqSetup). other.eid ≢ m) qs) here apart.1))
    by_eid false e it rest others =
        let apart_here : q.eid ≢ at = λ same. absurd (false≢true (sym e ∙ eq-eqb d.setup.eid at (same_eid ∙ same))) in
        let same : replaced n d ≡ d = stays_in n d q.eid same_eid (λ x. apart_here (x ∙ its)) in
        let Q : Result PacketFields PacketFault → Type 0 = λ r. StepsBy w q.eid older d (replaced n d) r in
        ((d, each.0, subst Q (sym parses) (other_stays w older to at q.eid p d (replaced n d) is apart_here same)), rest it)
one_walks w older packet to at p b n own [] (d ∷ ds) parses is its made apart each found = absurd each
one_walks w older packet to at p b n own (q ∷ qs) [] parses is its made apart each found = absurd each

-- The endpoint of a dialogue is that of its requester.
pub known_at : (w : Configuration) (older : List (List ℕ)) (at : ℕ) (b : Dialogue) (qs : List ReqSetup) (ds : List Dialogue) → WalkEach w older qs ds → dialogue_at at ds ≡ Some b → (b.setup.eid ≡ at) × (is_known at qs ≡ true)
known_at w older at b [] [] each found = absurd (none-some b found)
known_at w older at b (q ∷ qs) (d ∷ ds) each found = by_eid (d.setup.eid == at) refl found (known_at w older at b qs ds each.1)
  where
    same_eid : d.setup.eid ≡ q.eid
    same_eid = ap (λ (s : ReqSetup). s.eid) (walks_setup w q older d each.0)

    by_eid : (c : Bool) → (d.setup.eid == at) ≡ c → cond c (Some d) (dialogue_at at ds) ≡ Some b → (dialogue_at at ds ≡ Some b → (b.setup.eid ≡ at) × (is_known at qs ≡ true)) → (b.setup.eid ≡ at) × (is_known at (q ∷ qs) ≡ true)
    by_eid true e it rest = (
      ap (λ (x : Dialogue). x.setup.eid) (sym (same_Some d b it)) ∙ eqb-true _ _ e,
      ap (λ (x : Bool). x || is_known at qs) (ap (λ (m : ℕ). m == at) (sym same_eid) ∙ e),
    )
    by_eid false e it rest = ((rest it).0, ap (λ (x : Bool). x || is_known at qs) (ap (λ (m : ℕ). m == at) (sym same_eid) ∙ e) ∙ (rest it).1)
known_at w older at b [] (d ∷ ds) each found = absurd each
known_at w older at b (q ∷ qs) [] each found = absurd each

comes_each : (w : Configuration) (older : List (List ℕ)) (packet : List ℕ) (p : PacketFields) (ds after : List Dialogue) (o : Option Dialogue) → AreApart w.responder.eid w.requesters → parsed packet ≡ Ok p → (p.to == w.responder.eid) ≡ true
    → WalkEach w older w.requesters ds → dialogue_at p.from ds ≡ o → ComesFrom w older p ds after o → WalkEach w (packet ∷ older) w.requesters after × (is_known p.from w.requesters ≡ true)
comes_each w older packet p ds after None apart parses to each found c = absurd c
comes_each w older packet p ds after (Some b) apart parses to each found c =
    let at = known_at w older p.from b w.requesters ds each found in
    let is : IsFor w true p.from p = record { to_is = to; end = refl; from_is = λ no. absurd (false≢true (sym no)) } in
    let G : ℕ → Type 0 = λ m. AsksBy b (gathered_from w.responder.eid m older p) c.0 in
    let its : c.0.setup.eid ≡ p.from = ap (λ (s : ReqSetup). s.eid) (request_turned b (gathered_from w.responder.eid b.setup.eid older p) c.0 c.1).setup ∙ at.0 in
    let all = one_walks w older packet true p.from p b c.0 w.responder.eid w.requesters ds parses is its (subst G at.0 c.1) apart each found in
    (subst (WalkEach w (packet ∷ older) w.requesters) (sym c.2) all, at.1)

goes_each : (w : Configuration) (older : List (List ℕ)) (packet : List ℕ) (p : PacketFields) (ds after : List Dialogue) (o : Option Dialogue) → AreApart w.responder.eid w.requesters → parsed packet ≡ Ok p → (p.to == w.responder.eid) ≡ false
    → (p.from == w.responder.eid) ≡ true → WalkEach w older w.requesters ds → dialogue_at p.to ds ≡ o → GoesTo w older p ds after o → WalkEach w (packet ∷ older) w.requesters after × (is_known p.to w.requesters ≡ true)
goes_each w older packet p ds after None apart parses to from each found c = absurd c
goes_each w older packet p ds after (Some b) apart parses to from each found c =
    let at = known_at w older p.to b w.requesters ds each found in
    let is : IsFor w false p.to p = record { to_is = to; end = refl; from_is = λ no. from } in
    let G : ℕ → Type 0 = λ m. RepliesBy w b (gathered_from m w.responder.eid older p) c.0 in
    let its : c.0.setup.eid ≡ p.to = ap (λ (s : ReqSetup). s.eid) (answer_turned w b (gathered_from b.setup.eid w.responder.eid older p) c.0 c.1).setup ∙ at.0 in
    let all = one_walks w older packet false p.to p b c.0 w.responder.eid w.requesters ds parses is its (subst G at.0 c.1) apart each found in
    (subst (WalkEach w (packet ∷ older) w.requesters) (sym c.2) all, at.1)

either_each : (w : Configuration) (older : List (List ℕ)) (packet : List ℕ) (p : PacketFields) (ds after : List Dialogue) (to from : Bool) → AreApart w.responder.eid w.requesters → parsed packet ≡ Ok p → (p.to == w.responder.eid) ≡ to
    → (p.from == w.responder.eid) ≡ from → WalkEach w older w.requesters ds → MatchBool to (ComesFrom w older p ds after (dialogue_at p.from ds)) (MatchBool from (GoesTo w older p ds after (dialogue_at p.to ds)) ⊥)
    → WalkEach w (packet ∷ older) w.requesters after × (cond to (is_known p.from w.requesters) (from && is_known p.to w.requesters) ≡ true)
either_each w older packet p ds after true from apart parses is at each c = comes_each w older packet p ds after (dialogue_at p.from ds) apart parses is each refl c
either_each w older packet p ds after false true apart parses is at each c = goes_each w older packet p ds after (dialogue_at p.to ds) apart parses is at each refl c
either_each w older packet p ds after false false apart parses is at each c = absurd c

follows_each : (w : Configuration) (older : List (List ℕ)) (packet : List ℕ) (ds after : List Dialogue) (r : Result PacketFields PacketFault) → AreApart w.responder.eid w.requesters → parsed packet ≡ r → WalkEach w older w.requesters ds → FollowsBy w older ds after r
    → WalkEach w (packet ∷ older) w.requesters after × (goes_between w r ≡ true)
follows_each w older packet ds after (Err fault) apart parses each c = absurd c
follows_each w older packet ds after (Ok p) apart parses each c = either_each w older packet p ds after (p.to == w.responder.eid) (p.from == w.responder.eid) apart parses refl refl each c

new_each : (w : Configuration) (qs : List ReqSetup) → WalkEach w [] qs (map new_dialogue qs)
new_each w [] = tt
new_each w (q ∷ qs) = (refl, new_each w qs)

pub to_each : (w : Configuration) (older : List (List ℕ)) (ds : List Dialogue) → AreApart w.responder.eid w.requesters → Leads w older ds → WalkEach w older w.requesters ds × (all_between w older ≡ true)
unfolding Follows
to_each w [] ds apart leads = (subst (WalkEach w [] w.requesters) (sym leads) (new_each w w.requesters), refl)
to_each w (packet ∷ older) ds apart leads =
    let before = to_each w older leads.0 apart leads.1 in
    let next = follows_each w older packet leads.0 ds (parsed packet) apart refl before.0 leads.2 in
    (next.0, both next.1 before.1)
