-- The application messages that all ends of a world took, after one of them did something.
use Rattle.std.proofs.Common.{refl, ◌≡◌, ◌+◌, ◌∷◌, ℕ, List, Option, Some, None, ap, arith}
use Rattle.link_world.proofs.Askers.{eid_of}
use Rattle.link_world.proofs.Sums.{over_each, with_count}
use Rattle.link_world.proofs.Taken.{queued_counts, responder_counts, same_peers, ticked_counts, told_counts}
use Rattle.link_world.proofs.Telling.{tells_taken}
use Rattle.link_world.specs.Standing.{AreApart, counted, peers_of, taken_in}
use Rattle.link_world.specs.Told.{is_taken}
use Rattle.requester_machine.proofs.SetUpKept.{told_setup}
use Rattle.requester_machine.specs.Message.{Command}
use Rattle.requester_machine.specs.Requesting.{Requesting, requester_told}
use Rattle.requester_machine.specs.Setup.{ReqSetup}
use Rattle.requester_machine.specs.Shown as asked
use Rattle.responder.proofs.Reached.{differ}
use Rattle.responder.specs.Standing as answering
use Rattle.responder_machine.proofs.Connected.{changed_keeps}
use Rattle.responder_machine.specs.History as served
use Rattle.responder_machine.specs.History.{Entry as entry}
use Rattle.responder_machine.specs.Responding.{Connection, Responding, changed, changed_if, queues, responder_hears, ticks, with_history}
use Rattle.spdm_grammar.specs.declared.told.heard.ReplyFault.{ReplyFault}
use Rattle.spdm_machine.specs.Sessions.{one_if}
use Rattle.world_machine.specs.World.{requester_at, with_requester}

-- ---- As the program counts.

pub kept_more : (seen n m new after : ℕ) → seen ≡ counted n → new ≡ counted (seen + m) → after ≡ n + m → new ≡ counted after
kept_more seen n m new after is more all = omega (arith, is, more, all)

pub kept_same : (seen n new after : ℕ) → new ≡ seen → seen ≡ counted n → after ≡ n + 0 → new ≡ counted after
kept_same seen n new after same is all = omega (arith, same, is, all)

-- ---- A requester.

abbrev asked_taken : Requesting → ℕ
asked_taken a = asked.all_taken a.history

pub asked_more : (new old : Requesting) (m k : ℕ) (rs : List Requesting) (cs : List Connection) → requester_at k rs ≡ Some old → AreApart rs → eid_of new ≡ eid_of old
    → asked_taken new ≡ asked_taken old + m → taken_in (with_requester new rs) cs ≡ taken_in rs cs + m
asked_more new old m k rs cs at apart same more =
    let moved = with_count asked_taken new k rs old at apart same in
    omega (arith, moved, more)

pub told_same : (a : Requesting) (command : Command) (k : ℕ) (rs : List Requesting) (cs : List Connection) → requester_at k rs ≡ Some a → AreApart rs
    → taken_in (with_requester (requester_told a command).after rs) cs ≡ taken_in rs cs + 0
told_same a command k rs cs at apart =
    let kept = told_counts a command in
    asked_more (requester_told a command).after a 0 k rs cs at apart (ap (λ (s : ReqSetup). s.eid) (told_setup a command)) (omega (arith, kept))

-- ---- The responder.

pub heard_peers : (r : Responding) (packet : List ℕ) → answering.AreApart r.connections → peers_of (responder_hears r packet).after.connections ≡ peers_of r.connections
heard_peers r packet apart = (responder_counts r packet (differ r.connections apart)).peers

pub heard_more : (r : Responding) (packet : List ℕ) (rs : List Requesting) → answering.AreApart r.connections
    → taken_in rs (responder_hears r packet).after.connections ≡ taken_in rs r.connections + one_if (is_taken (responder_hears r packet).heard)
heard_more r packet rs apart =
    let counts = (responder_counts r packet (differ r.connections apart)).taken in
    let before = over_each served.all_taken r.connections in
    let after = over_each served.all_taken (responder_hears r packet).after.connections in
    let told = ap one_if (tells_taken r packet) in
    omega (arith, counts, before, after, told)

pub queued_peers : (fault : Option ReplyFault) (r : Responding) (eid : ℕ) (bytes : List ℕ) → peers_of (queues fault r eid bytes).connections ≡ peers_of r.connections
queued_peers (Some fault) r eid bytes = refl
queued_peers None r eid bytes = same_peers (changed_if eid (λ h. entry.Queued bytes ∷ h)) r.connections (changed_keeps eid (λ h. entry.Queued bytes ∷ h))

pub queued_same : (fault : Option ReplyFault) (r : Responding) (eid : ℕ) (bytes : List ℕ) (rs : List Requesting) → taken_in rs (queues fault r eid bytes).connections ≡ taken_in rs r.connections
queued_same (Some fault) r eid bytes rs = refl
queued_same None r eid bytes rs =
    let counts = queued_counts eid bytes r.connections in
    let before = over_each served.all_taken r.connections in
    let after = over_each served.all_taken (with_history eid (λ h. entry.Queued bytes ∷ h) r.connections) in
    omega (arith, counts, before, after)

pub ticked_peers : (r : Responding) (seconds : ℕ) → peers_of (ticks r seconds).connections ≡ peers_of r.connections
ticked_peers r seconds = same_peers (changed (λ h. entry.Ticked seconds ∷ h)) r.connections (λ c. refl)

pub ticked_same : (r : Responding) (seconds : ℕ) (rs : List Requesting) → taken_in rs (ticks r seconds).connections ≡ taken_in rs r.connections
ticked_same r seconds rs =
    let counts = ticked_counts seconds r.connections in
    let before = over_each served.all_taken r.connections in
    let after = over_each served.all_taken (ticks r seconds).connections in
    omega (arith, counts, before, after)
