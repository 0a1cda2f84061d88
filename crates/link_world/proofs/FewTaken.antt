-- The application messages that all ends of a world ever took are fewer than 2^64.
use Rattle.std.proofs.Common.{◌≡◌, ◌≤◌, ◌+◌, ◌*◌, ◌∷◌, [], ℕ, suc, List, Bool, true, false, length, arith}
use Rattle.std.specs.Prelude.{if◌then◌else◌, is_some}
use Rattle.link_world.specs.Standing.{AreAskers, AreEnds, counted, taken_in}
use Rattle.link_world.specs.declared.ends.AddressedRequester.{AddressedRequester}
use Rattle.link_world.specs.declared.ends.Ends.{Ends}
use Rattle.requester_machine.specs.History as asking
use Rattle.requester_machine.specs.Requesting.{Requesting}
use Rattle.requester_machine.specs.Shown as shown
use Rattle.responder.proofs.Reached.{run_is}
use Rattle.responder_machine.specs.BoundLaws.{messages_of}
use Rattle.responder_machine.proofs.Within.{connection_within}
use Rattle.responder_machine.specs.History.{all_taken}
use Rattle.responder_machine.specs.Responding.{Connection, over_all}
use Rattle.spdm_machine.specs.Packets.{wear_limit}
use Rattle.world_machine.specs.Totals.{over_connections, over_requesters}
use Rattle.world_machine.specs.World.{World}

-- At the responder each came with a message.
served_few : (cs : List Connection) → over_connections (λ (c : Connection). all_taken c.history) cs ≤ over_all messages_of cs
served_few [] = omega arith
served_few (c ∷ others) = (let own = (connection_within c.history).taken in let rest = served_few others in omega (arith, own, rest))

-- At a requester each came with an entry of its own.
one_at_most : (b : Bool) (n m : ℕ) → n ≤ m → (if b then n + 1 else n) ≤ suc m
one_at_most true n m few = omega (arith, few)
one_at_most false n m few = omega (arith, few)

asked_few : (h : asking.History) → shown.all_taken h ≤ length h
asked_few [] = omega arith
asked_few (entry ∷ older) = one_at_most (is_some (shown.bytes_in (shown.effect_in entry))) (shown.all_taken older) (length older) (asked_few older)

askers_few : (xs : List AddressedRequester) (all : List Requesting) → AreAskers xs all → over_requesters (λ (a : Requesting). shown.all_taken a.history) all ≤ length all * wear_limit
askers_few [] [] are = omega arith
askers_few [] (a ∷ others) are = absurd are
askers_few (x ∷ rest) [] are = absurd are
askers_few (x ∷ rest) (a ∷ others) are =
    let own = asked_few a.history in
    let entries = are.0.stands.entries in
    let limit = are.0.stands.limit in
    let behind = askers_few rest others are.1 in
    omega (arith, own, entries, limit, behind)

-- So their count is kept as it is.
pub taken_whole : (seen : Ends) (w : World) → AreEnds seen w → counted (taken_in w.requesters w.responder.connections) ≡ taken_in w.requesters w.responder.connections
taken_whole seen w e =
    let run = run_is w.responder e.responder.reached in
    let messages = run.messages in
    let limit = run.limit in
    let served = served_few w.responder.connections in
    let asked = askers_few seen.requesters.items w.requesters e.requesters in
    let few = e.few in
    omega (arith, messages, limit, served, asked, few)
