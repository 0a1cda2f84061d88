use Rattle.std.proofs.Common.{rules, ◌≡◌, ◌≤◌, ◌<◌, ◌^◌, ℕ, List, Some, None, subst, sym}
use Rattle.responder.proofs.Found.{hit, none_found}
use Rattle.responder.proofs.GivenUp.{fresh_fault, reset_goes, reset_others, reset_stays, worn_fault}
use Rattle.responder.proofs.Steps.{fresh_is, worn_now}
use Rattle.responder.proofs.serving.Responder.reset.Goals as goal
use Rattle.responder.specs.Standing.{has_eid}
use Rattle.responder.specs.declared.peer.Peer.{Peer}
use Rattle.responder.specs.declared.resetting.ResetFault.TheVariants.{UnknownPeer, Worn}
use Rattle.spdm_machine.specs.Packets.{fields_in}
use Rattle.std.specs.List.{position_from}

pub returns-then-self-ge-WEAR_LIMIT-clause-fault : goal.returns-then-self-ge-WEAR_LIMIT-clause-fault
returns-then-self-ge-WEAR_LIMIT-clause-fault c = λ r stands.
    let many : 2 ^ 40 ≤ c.args.self.now.given = search rules in
    worn_fault c.args.eid.number r (worn_now c.args.self.now r stands many)

pub returns-then-self-ge-WEAR_LIMIT-clause-stands : goal.returns-then-self-ge-WEAR_LIMIT-clause-stands
returns-then-self-ge-WEAR_LIMIT-clause-stands c = λ r stands.
    reset_stays c.args.eid.number r Worn c.args.self.now (returns-then-self-ge-WEAR_LIMIT-clause-fault c r stands) stands

pub returns-then-self-ge-WEAR_LIMIT-clause-others : goal.returns-then-self-ge-WEAR_LIMIT-clause-others
returns-then-self-ge-WEAR_LIMIT-clause-others c = λ r stands.
    reset_others c.args.eid.number r c.args.self.now (returns-then-self-ge-WEAR_LIMIT-clause-stands c r stands)

pub returns-in-Some-clause-fault : goal.returns-in-Some-clause-fault
returns-in-Some-clause-fault c = λ r stands.
    let eid : ℕ = c.args.eid.number in
    let items : List Peer = c.args.self.now.peers.items in
    let few : c.args.self.now.given < 2 ^ 40 = search rules in
    let here : position_from (has_eid eid) 0 items ≡ Some c.in-Some.field-0 = subst (λ (n : ℕ). position_from (has_eid n) 0 items ≡ Some c.in-Some.field-0) c.number.ensures.value (sym c.in-Some.ensures.place) in
    let found = hit r.part (fields_in r.given) eid 0 c.in-Some.field-0 items r.connections stands.peers stands.apart here in
    fresh_fault eid r (Some found.c) (fresh_is c.args.self.now r stands few) found.found

pub returns-in-Some-clause-stands : goal.returns-in-Some-clause-stands
returns-in-Some-clause-stands c = λ r stands.
    reset_goes c.args.eid.number r c.hear_version.new.self (returns-in-Some-clause-fault c r stands) (c.hear_version.ensures.stands r stands)

pub returns-in-Some-clause-others : goal.returns-in-Some-clause-others
returns-in-Some-clause-others c = λ r stands.
    reset_others c.args.eid.number r c.hear_version.new.self (returns-in-Some-clause-stands c r stands)

pub returns-in-None-clause-fault : goal.returns-in-None-clause-fault
returns-in-None-clause-fault c = λ r stands.
    let eid : ℕ = c.args.eid.number in
    let items : List Peer = c.args.self.now.peers.items in
    let few : c.args.self.now.given < 2 ^ 40 = search rules in
    let nothing = none_found r.part (fields_in r.given) eid 0 items r.connections stands.peers (subst (λ (n : ℕ). position_from (has_eid n) 0 items ≡ None) c.number.ensures.value (sym c.in-None.ensures.place)) in
    fresh_fault eid r None (fresh_is c.args.self.now r stands few) nothing

pub returns-in-None-clause-stands : goal.returns-in-None-clause-stands
returns-in-None-clause-stands c = λ r stands.
    reset_stays c.args.eid.number r UnknownPeer c.args.self.now (returns-in-None-clause-fault c r stands) stands

pub returns-in-None-clause-others : goal.returns-in-None-clause-others
returns-in-None-clause-others c = λ r stands.
    reset_others c.args.eid.number r c.args.self.now (returns-in-None-clause-stands c r stands)
