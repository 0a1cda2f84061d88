-- Packets that are not the receiver's count in nothing.
use Rattle.std.proofs.Common.{◌≡◌, Bool, true, false, not, List, [], ◌∷◌, refl, ap}
use Rattle.std.specs.Prelude.{filter, if◌then◌else◌}
use Rattle.mctp_framing.specs.Packet.{PacketFields}
use Rattle.mctp_framing.specs.Gathering.{Receiver, Gathered, is_ours, group_of, belongs_to, answer_of, gathered}
use Rattle.mctp_framing.specs.Gathering.Gathered.{Dropped}
use Rattle.spdm_basis.specs.declared.DropCause.TheVariants.{NoStart, NotOurs}

-- what a packet leads to, by the receiver's packets before it
gathered_in : Receiver → PacketFields → List PacketFields → Gathered
gathered_in r p own =
    let group = group_of own in
    if not (is_ours r p) then Dropped NotOurs
    else (if p.start then answer_of r.limit p []
    else (if belongs_to r.limit p group then answer_of r.limit p group
    else Dropped NoStart))

pub gathered-alike : (r : Receiver) (given others : List PacketFields) (p : PacketFields) → filter (is_ours r) given ≡ filter (is_ours r) others → gathered r given p ≡ gathered r others p
unfolding gathered_in
gathered-alike r given others p e = ap (gathered_in r p) e

-- what was left out once is left out
again : (r : Receiver) (p : PacketFields) (own : List PacketFields) (b : Bool) → is_ours r p ≡ b → filter (is_ours r) own ≡ own → filter (is_ours r) (if b then p ∷ own else own) ≡ (if b then p ∷ own else own)
again r p own true is e = rw (is, e) refl
again r p own false is e = e

filter-again : (r : Receiver) (given : List PacketFields) → filter (is_ours r) (filter (is_ours r) given) ≡ filter (is_ours r) given
filter-again r [] = refl
filter-again r (p ∷ earlier) = again r p (filter (is_ours r) earlier) (is_ours r p) refl (filter-again r earlier)

pub gathered-own : (r : Receiver) (earlier : List PacketFields) (p : PacketFields) → gathered r (filter (is_ours r) earlier) p ≡ gathered r earlier p
gathered-own r earlier p = gathered-alike r (filter (is_ours r) earlier) earlier p (filter-again r earlier)
