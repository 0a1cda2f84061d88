-- The ends of a capture, and the way of a packet between them. This project's own.
use Rattle.std.specs.Prelude.{ℕ, List, map, Bool, not, ◌==◌, ◌&&◌, if◌then◌else◌, Option, Some, None, Result, Ok, Err}
use Rattle.std.specs.List.{position_from}
use Rattle.capture_records.specs.declared.ends.Way.{Way}
use Rattle.key_schedule.specs.declared.direction.Direction.{Direction}
use Rattle.key_schedule.specs.declared.direction.Direction.TheVariants.{Request, Response}
use Rattle.mctp_framing.specs.Packet.{PacketFields}
use Rattle.script_text.specs.declared.configuration.config.ReqPart.{ReqPart}
use Rattle.script_text.specs.declared.configuration.config.ScriptConfig.{ScriptConfig}
use Rattle.spdm_basis.specs.declared.causes.faults.PacketFault.{PacketFault}

-- The endpoints of a configuration: the responder's, and those of the requesters.
abbrev pub own_of : ScriptConfig → ℕ
own_of config = config.responder.eid.number

abbrev pub eid_of : ReqPart → ℕ
eid_of q = q.eid.number

abbrev pub eids_of : ScriptConfig → List ℕ
eids_of config = map eid_of config.requesters

-- The requester has this endpoint.
abbrev pub has_eid : ℕ → ReqPart → Bool
has_eid eid q = q.eid.number == eid

-- The place of the first requester that has.
abbrev pub place_of : ScriptConfig → (eid : ℕ) → Option ℕ
place_of config eid = position_from (has_eid eid) 0 config.requesters

-- ---- The way of a packet: from a requester to the responder, with the tag owner bit, or from the responder to one, without
-- it. None goes from an end to itself.

abbrev pub way_at : Direction → Option ℕ → Option Way
way_at direction None = None
way_at direction (Some place) = Some (record { direction = direction; place = place })

abbrev pub way_by : ScriptConfig → PacketFields → Option Way
way_by config p =
    if p.to == p.from then None
    else (if p.to == own_of config && p.owner then way_at Request (place_of config p.from)
    else (if p.from == own_of config && not p.owner then way_at Response (place_of config p.to)
    else None))

-- Bytes that are no packet have none.
abbrev pub way_in : ScriptConfig → Result PacketFields PacketFault → Option Way
way_in config (Ok p) = way_by config p
way_in config (Err fault) = None
