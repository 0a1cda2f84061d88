-- The packets of a body name the end that sends them in byte 2.
use Rattle.std.proofs.Common.{◌≡◌, ◌≢◌, ℕ, List, [], ◌∷◌, map, Bool, true, Option, Some, None, slice_index}
use Rattle.std.specs.List.{range_with_len}
use Rattle.mctp_framing.specs.Cutting.{RouteFields, nth_packet, packet_count}
use Rattle.mctp_framing.specs.Packet.{spelled_packet}
use Rattle.requester_machine.specs.Message.{Sent, body_of}
use Rattle.requester_machine.specs.Requesting.{packets_of_sent}
use Rattle.requester_machine.specs.Setup.{ReqSetup}
use Rattle.spdm_machine.specs.Packets.{packets_to}

-- An endpoint is this one, or another.
abbrev pub IsOwn : ℕ → ℕ → Type 0
IsOwn eid own = own ≡ eid

abbrev pub IsOther : ℕ → ℕ → Type 0
IsOther eid other = other ≢ eid

-- The end that each of these packets names as its sender is such a one.
abbrev pub AreSent : (P : ℕ → Type 0) → List (List ℕ) → Type 0
AreSent P [] = Unit {0}
AreSent P (packet ∷ others) = P (slice_index packet 2) × AreSent P others

cut_are_sent : (P : ℕ → Type 0) (route : RouteFields) (unit : ℕ) (body : List ℕ) (ks : List ℕ) → P route.from → AreSent P (map (λ (k : ℕ). spelled_packet (nth_packet route unit body k)) ks)
cut_are_sent P route unit body [] is = tt
cut_are_sent P route unit body (k ∷ ks) is = (is, cut_are_sent P route unit body ks is)

pub packets_are_sent : (P : ℕ → Type 0) (to from : ℕ) (owner : Bool) (tag unit : ℕ) (body : List ℕ) → P from → AreSent P (packets_to to from owner tag unit body)
packets_are_sent P to from owner tag unit body is =
    let route : RouteFields = record { to = to; from = from; owner = owner; tag = tag } in
    cut_are_sent P route unit body (range_with_len 0 (packet_count unit body)) is

pub message_is_sent : (P : ℕ → Type 0) (q : ReqSetup) (sent : Option Sent) → P q.eid → AreSent P (packets_of_sent q sent)
message_is_sent P q None is = tt
message_is_sent P q (Some sent) is = packets_are_sent P q.responder q.eid true sent.tag q.unit (body_of sent.content) is
