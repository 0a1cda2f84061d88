-- The rounds of a walk are those of its packets.
use Rattle.std.proofs.Common.{◌≡◌, ◌==◌, ◌&&◌, ◌||◌, not, ℕ, List, [], ◌∷◌, refl, sym, ap, ◌∙◌, subst, map, Bool, true, false, Option, Some, None, Result, Ok, Err, cond, eq-eqb, eqb-true, arith}
use Rattle.std.specs.Prelude.{MatchBool}
use Rattle.std.proofs.lemmas.Option.{none-some, same_Some}
use Rattle.mctp_framing.specs.Packet.{PacketFields, parsed}
use Rattle.requester_machine.specs.Setup.{ReqSetup}
use Rattle.spdm_basis.specs.declared.PacketFault.{PacketFault}
use Rattle.spdm_machine.specs.Packets.{gathered_from}
use Rattle.check_laws.specs.Laws.{OneRound}
use Rattle.check_laws.specs.Order.{round_by_request, round_by_answer, round_after, round_of, is_request, is_answer, is_known}
use Rattle.check_laws.proofs.Rounded.{request_turned, answer_turned}
use Rattle.capture_machine.specs.Capture.{Leads, Follows, FollowsBy, ComesFrom, GoesTo}
use Rattle.capture_machine.specs.Rounds.{Dialogue, Round, new_dialogue, dialogue_at, with_dialogue}
use Rattle.world_machine.specs.Setup.{Configuration}

-- The dialogues are those of these requesters, in their order, with these rounds by their endpoints.
abbrev pub AreOf : (round : ℕ → Option Round) → List ReqSetup → List Dialogue → Type 0
AreOf round [] [] = Unit {0}
AreOf round (q ∷ qs) (d ∷ ds) = (d.setup.eid ≡ q.eid) × (d.round ≡ round q.eid) × AreOf round qs ds
AreOf round _ _ = ⊥

new_are : (qs : List ReqSetup) → AreOf (λ eid. None) qs (map new_dialogue qs)
new_are [] = tt
new_are (q ∷ qs) = (refl, refl, new_are qs)

-- ---- Which dialogue.

-- A dialogue with this endpoint and its round.
pub record Has (rounds : ℕ → Option Round) (qs : List ReqSetup) (at : ℕ) (d : Dialogue) : Type 0 where
  pub eid : d.setup.eid ≡ at
  pub round : d.round ≡ rounds at
  pub known : is_known at qs ≡ true

found_by : (round : ℕ → Option Round) (q : ReqSetup) (qs : List ReqSetup) (d : Dialogue) (ds : List Dialogue) (eid : ℕ) (f : Dialogue) (b : Bool) → d.setup.eid ≡ q.eid → d.round ≡ round q.eid → (d.setup.eid == eid) ≡ b
    → (dialogue_at eid ds ≡ Some f → Has round qs eid f) → cond b (Some d) (dialogue_at eid ds) ≡ Some f → Has round (q ∷ qs) eid f
found_by round q qs d ds eid f true same is e next at =
    let it : d ≡ f = same_Some d f at in
    let own : d.setup.eid ≡ eid = eqb-true _ _ e in
    subst (Has round (q ∷ qs) eid) it (record {
      eid = own;
      round = is ∙ ap round (sym same ∙ own);
      known = ap (λ (b : Bool). b || is_known eid qs) (eq-eqb q.eid eid (sym same ∙ own));
    })
found_by round q qs d ds eid f false same is e next at =
    let rest = next at in record {
      eid = rest.eid;
      round = rest.round;
      known = ap (λ (n : ℕ). n == eid || is_known eid qs) (sym same) ∙ ap (λ (b : Bool). b || is_known eid qs) e ∙ rest.known;
    }

pub found : (round : ℕ → Option Round) (qs : List ReqSetup) (ds : List Dialogue) (eid : ℕ) (f : Dialogue) → AreOf round qs ds → dialogue_at eid ds ≡ Some f → Has round qs eid f
found round [] [] eid f are at = absurd (none-some f at)
found round (q ∷ qs) (d ∷ ds) eid f are at = found_by round q qs d ds eid f (d.setup.eid == eid) are.0 are.1 refl (found round qs ds eid f are.2) at
found round [] (d ∷ ds) eid f are at = absurd are
found round (q ∷ qs) [] eid f are at = absurd are

none_by : (q : ReqSetup) (qs : List ReqSetup) (d : Dialogue) (ds : List Dialogue) (eid : ℕ) (b : Bool) → d.setup.eid ≡ q.eid → (d.setup.eid == eid) ≡ b
    → (dialogue_at eid ds ≡ None → is_known eid qs ≡ false) → cond b (Some d) (dialogue_at eid ds) ≡ None → is_known eid (q ∷ qs) ≡ false
none_by q qs d ds eid true same e next at = absurd (none-some d (sym at))
none_by q qs d ds eid false same e next at = ap (λ (n : ℕ). n == eid || is_known eid qs) (sym same) ∙ ap (λ (b : Bool). b || is_known eid qs) e ∙ next at

pub unknown : (round : ℕ → Option Round) (qs : List ReqSetup) (ds : List Dialogue) (eid : ℕ) → AreOf round qs ds → dialogue_at eid ds ≡ None → is_known eid qs ≡ false
unknown round [] [] eid are at = refl
unknown round (q ∷ qs) (d ∷ ds) eid are at = none_by q qs d ds eid (d.setup.eid == eid) are.0 refl (unknown round qs ds eid are.2) at
unknown round [] (d ∷ ds) eid are at = absurd are
unknown round (q ∷ qs) [] eid are at = absurd are

-- ---- A dialogue in place of the one with its end point.

-- The rounds of all others stay.
abbrev pub OthersStay : (old new : ℕ → Option Round) → (eid : ℕ) → Type 0
OthersStay old new own = (eid : ℕ) → (eid == own) ≡ false → old eid ≡ new eid

with_by : (old new : ℕ → Option Round) (n : Dialogue) (q : ReqSetup) (d : Dialogue) (b : Bool) → n.round ≡ new n.setup.eid → OthersStay old new n.setup.eid → d.setup.eid ≡ q.eid → d.round ≡ old q.eid
    → (d.setup.eid == n.setup.eid) ≡ b → ((cond b n d).setup.eid ≡ q.eid) × ((cond b n d).round ≡ new q.eid)
with_by old new n q d true is stay same at e =
    let own : n.setup.eid ≡ q.eid = sym (eqb-true d.setup.eid n.setup.eid e) ∙ same in
    (own, is ∙ ap new own)
with_by old new n q d false is stay same at e = (same, at ∙ stay q.eid (ap (λ (m : ℕ). m == n.setup.eid) (sym same) ∙ e))

with_are : (old new : ℕ → Option Round) (n : Dialogue) (qs : List ReqSetup) (ds : List Dialogue) → n.round ≡ new n.setup.eid → OthersStay old new n.setup.eid → AreOf old qs ds → AreOf new qs (with_dialogue n ds)
with_are old new n [] [] is stay are = tt
with_are old new n (q ∷ qs) (d ∷ ds) is stay are =
    let first = with_by old new n q d (d.setup.eid == n.setup.eid) is stay are.0 are.1 refl in
    (first.0, first.1, with_are old new n qs ds is stay are.2)
with_are old new n [] (d ∷ ds) is stay are = absurd are
with_are old new n (q ∷ qs) [] is stay are = absurd are

-- ---- One packet.

-- The rounds before a packet, and after it.
abbrev pub before : (own : ℕ) → List (List ℕ) → ℕ → Option Round
before own older eid = round_of own eid older

abbrev pub behind : (own : ℕ) → List (List ℕ) → Result PacketFields PacketFault → ℕ → Option Round
behind own older p eid = round_after own eid older (round_of own eid older) p

-- What a packet for the responder makes of a round.
pub asked_is : (own eid : ℕ) (older : List (List ℕ)) (round : Option Round) (p : PacketFields) → (p.to == own) ≡ true → (p.from == eid) ≡ true
    → round_after own eid older round (Ok p) ≡ round_by_request round (gathered_from own eid older p)
asked_is own eid older round p to from =
    let is : is_request own eid p ≡ true = ap (λ (b : Bool). b && p.from == eid) to ∙ from in
    ap (λ (b : Bool). cond b (round_by_request round (gathered_from own eid older p)) (cond (is_answer own eid p) (round_by_answer round (gathered_from eid own older p)) round)) is

pub stays : (own eid : ℕ) (older : List (List ℕ)) (round : Option Round) (p : PacketFields) → is_request own eid p ≡ false → is_answer own eid p ≡ false → round_after own eid older round (Ok p) ≡ round
stays own eid older round p ask other =
    ap (λ (b : Bool). cond b (round_by_request round (gathered_from own eid older p)) (cond (is_answer own eid p) (round_by_answer round (gathered_from eid own older p)) round)) ask
    ∙ ap (λ (b : Bool). cond b (round_by_answer round (gathered_from eid own older p)) round) other

pub answered_is : (own eid : ℕ) (older : List (List ℕ)) (round : Option Round) (p : PacketFields) → (p.to == own) ≡ false → (p.from == own) ≡ true → (p.to == eid) ≡ true
    → round_after own eid older round (Ok p) ≡ round_by_answer round (gathered_from eid own older p)
answered_is own eid older round p to from at =
    let none : is_request own eid p ≡ false = ap (λ (b : Bool). b && p.from == eid) to in
    let is : is_answer own eid p ≡ true = ap (λ (b : Bool). not b && (p.from == own && p.to == eid)) to ∙ ap (λ (b : Bool). b && p.to == eid) from ∙ at in
    ap (λ (b : Bool). cond b (round_by_request round (gathered_from own eid older p)) (cond (is_answer own eid p) (round_by_answer round (gathered_from eid own older p)) round)) none
    ∙ ap (λ (b : Bool). cond b (round_by_answer round (gathered_from eid own older p)) round) is

asked_others : (own : ℕ) (older : List (List ℕ)) (p : PacketFields) (n : ℕ) → (p.to == own) ≡ true → p.from ≡ n → OthersStay (before own older) (behind own older (Ok p)) n
asked_others own older p n to from eid other =
    let apart : (p.from == eid) ≡ false = ap (λ (m : ℕ). m == eid) from ∙ turned n eid other in
    sym (stays own eid older (round_of own eid older) p (ap (λ (b : Bool). b && p.from == eid) to ∙ apart) (ap (λ (b : Bool). not b && (p.from == own && p.to == eid)) to))
  where
    turned : (n eid : ℕ) → (eid == n) ≡ false → (n == eid) ≡ false
    turned n eid other = grind (arith, other)

answered_others : (own : ℕ) (older : List (List ℕ)) (p : PacketFields) (n : ℕ) → (p.to == own) ≡ false → (p.from == own) ≡ true → p.to ≡ n → OthersStay (before own older) (behind own older (Ok p)) n
answered_others own older p n to from at eid other =
    let apart : (p.to == eid) ≡ false = ap (λ (m : ℕ). m == eid) at ∙ turned n eid other in
    let not_answer : is_answer own eid p ≡ false = ap (λ (b : Bool). not b && (p.from == own && p.to == eid)) to ∙ ap (λ (b : Bool). b && p.to == eid) from ∙ apart in
    sym (stays own eid older (round_of own eid older) p (ap (λ (b : Bool). b && p.from == eid) to) not_answer)
  where
    turned : (n eid : ℕ) → (eid == n) ≡ false → (n == eid) ≡ false
    turned n eid other = grind (arith, other)

comes_are : (w : Configuration) (older : List (List ℕ)) (p : PacketFields) (ds after : List Dialogue) (o : Option Dialogue) → (p.to == w.responder.eid) ≡ true → dialogue_at p.from ds ≡ o
    → AreOf (before w.responder.eid older) w.requesters ds → ComesFrom w older p ds after o → AreOf (behind w.responder.eid older (Ok p)) w.requesters after
comes_are w older p ds after None to at are c = absurd c
comes_are w older p ds after (Some d) to at are c =
    let own : ℕ = w.responder.eid in
    let has = found (before own older) w.requesters ds p.from d are at in
    let turn = request_turned d (gathered_from own d.setup.eid older p) c.0 c.1 in
    let eid : c.0.setup.eid ≡ d.setup.eid = ap (λ (q : ReqSetup). q.eid) turn.setup in
    let from : p.from ≡ c.0.setup.eid = sym has.eid ∙ sym eid in
    let old : d.round ≡ round_of own c.0.setup.eid older = has.round ∙ ap (before own older) from in
    let is : c.0.round ≡ behind own older (Ok p) c.0.setup.eid =
    turn.round ∙ ap (λ (r : Option Round). round_by_request r (gathered_from own d.setup.eid older p)) old ∙ ap (λ (n : ℕ). round_by_request (round_of own c.0.setup.eid older) (gathered_from own n older p)) (sym eid)
    ∙ sym (asked_is own c.0.setup.eid older (round_of own c.0.setup.eid older) p to (eq-eqb _ _ from)) in
    subst (AreOf (behind own older (Ok p)) w.requesters) (sym c.2)
    (with_are (before own older) (behind own older (Ok p)) c.0 w.requesters ds is (asked_others own older p c.0.setup.eid to from) are)

goes_are : (w : Configuration) (older : List (List ℕ)) (p : PacketFields) (ds after : List Dialogue) (o : Option Dialogue) → (p.to == w.responder.eid) ≡ false → (p.from == w.responder.eid) ≡ true → dialogue_at p.to ds ≡ o
    → AreOf (before w.responder.eid older) w.requesters ds → GoesTo w older p ds after o → AreOf (behind w.responder.eid older (Ok p)) w.requesters after
goes_are w older p ds after None to from at are c = absurd c
goes_are w older p ds after (Some d) to from at are c =
    let own : ℕ = w.responder.eid in
    let has = found (before own older) w.requesters ds p.to d are at in
    let turn = answer_turned w d (gathered_from d.setup.eid own older p) c.0 c.1 in
    let eid : c.0.setup.eid ≡ d.setup.eid = ap (λ (q : ReqSetup). q.eid) turn.setup in
    let its : p.to ≡ c.0.setup.eid = sym has.eid ∙ sym eid in
    let old : d.round ≡ round_of own c.0.setup.eid older = has.round ∙ ap (before own older) its in
    let is : c.0.round ≡ behind own older (Ok p) c.0.setup.eid =
    turn.round ∙ ap (λ (r : Option Round). round_by_answer r (gathered_from d.setup.eid own older p)) old ∙ ap (λ (n : ℕ). round_by_answer (round_of own c.0.setup.eid older) (gathered_from n own older p)) (sym eid)
    ∙ sym (answered_is own c.0.setup.eid older (round_of own c.0.setup.eid older) p to from (eq-eqb _ _ its)) in
    subst (AreOf (behind own older (Ok p)) w.requesters) (sym c.2)
    (with_are (before own older) (behind own older (Ok p)) c.0 w.requesters ds is (answered_others own older p c.0.setup.eid to from its) are)

either_are : (w : Configuration) (older : List (List ℕ)) (p : PacketFields) (ds after : List Dialogue) (to from : Bool) → (p.to == w.responder.eid) ≡ to → (p.from == w.responder.eid) ≡ from
    → AreOf (before w.responder.eid older) w.requesters ds
    → MatchBool to (ComesFrom w older p ds after (dialogue_at p.from ds)) (MatchBool from (GoesTo w older p ds after (dialogue_at p.to ds)) ⊥) → AreOf (behind w.responder.eid older (Ok p)) w.requesters after
either_are w older p ds after true from is at are c = comes_are w older p ds after (dialogue_at p.from ds) is refl are c
either_are w older p ds after false true is at are c = goes_are w older p ds after (dialogue_at p.to ds) is at refl are c
either_are w older p ds after false false is at are c = absurd c

follows_are : (w : Configuration) (older : List (List ℕ)) (p : Result PacketFields PacketFault) (ds after : List Dialogue) → AreOf (before w.responder.eid older) w.requesters ds → FollowsBy w older ds after p
    → AreOf (behind w.responder.eid older p) w.requesters after
follows_are w older (Err fault) ds after are c = absurd c
follows_are w older (Ok p) ds after are c = either_are w older p ds after (p.to == w.responder.eid) (p.from == w.responder.eid) refl refl are c

-- ---- All packets.

pub leads_are : (w : Configuration) (packets : List (List ℕ)) (ds : List Dialogue) → Leads w packets ds → AreOf (before w.responder.eid packets) w.requesters ds
unfolding Follows
leads_are w [] ds c = subst (AreOf (λ eid. None) w.requesters) (sym c) (new_are w.requesters)
leads_are w (packet ∷ older) ds c = follows_are w older (parsed packet) c.0 ds (leads_are w older c.0 c.1) c.2

pub one_round : OneRound
one_round w older ds eid d leads at = (found (before w.responder.eid older) w.requesters ds eid d (leads_are w older ds leads) at).round
