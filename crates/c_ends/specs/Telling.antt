-- What C is told of a packet, as numbers: each case of an enum has one number.
use Rattle.std.specs.Prelude.{◌+◌, ◌*◌, ◌^◌, ℕ}
use Rattle.c_ends.specs.declared.packet_outcome.PacketOutcome.{PacketOutcome}
use Rattle.spdm_basis.specs.declared.DropCause.{DropCause}
use Rattle.spdm_basis.specs.declared.DropCause.TheVariants as dropped
use Rattle.spdm_basis.specs.declared.PacketFault.{PacketFault}
use Rattle.spdm_basis.specs.declared.PacketFault.TheVariants as packet
use Rattle.spdm_basis.specs.declared.RecordFault.{RecordFault}
use Rattle.spdm_basis.specs.declared.RecordFault.TheVariants as sealed
use Rattle.spdm_basis.specs.declared.values.session_id.SessionId.{SessionId}
use Rattle.spdm_grammar.specs.declared.messages.part_faults.CapsFault.{CapsFault}
use Rattle.spdm_grammar.specs.declared.messages.part_faults.CapsFault.TheVariants as caps
use Rattle.spdm_grammar.specs.declared.messages.part_faults.ChunkFault.{ChunkFault}
use Rattle.spdm_grammar.specs.declared.messages.part_faults.ChunkFault.TheVariants as chunk
use Rattle.spdm_grammar.specs.declared.told.event.BadReply.{BadReply}
use Rattle.spdm_grammar.specs.declared.told.event.BadReply.TheVariants as bad
use Rattle.spdm_grammar.specs.declared.told.event.Event.{Event}
use Rattle.spdm_grammar.specs.declared.told.event.Event.TheVariants as event
use Rattle.spdm_grammar.specs.declared.told.event.Finished.{Finished}
use Rattle.spdm_grammar.specs.declared.told.event.Finished.TheVariants as finished
use Rattle.spdm_grammar.specs.declared.told.event.ReqIgnored.{ReqIgnored}
use Rattle.spdm_grammar.specs.declared.told.event.ReqIgnored.TheVariants as requester
use Rattle.spdm_grammar.specs.declared.told.event.Stop.{Stop}
use Rattle.spdm_grammar.specs.declared.told.event.Stop.TheVariants as stop
use Rattle.spdm_grammar.specs.declared.told.heard.Heard.{Heard}
use Rattle.spdm_grammar.specs.declared.told.heard.Heard.TheVariants as heard
use Rattle.spdm_grammar.specs.declared.told.heard.RspIgnored.{RspIgnored}
use Rattle.spdm_grammar.specs.declared.told.heard.RspIgnored.TheVariants as responder

-- ---- Details of a cause.

abbrev pub packet_code : PacketFault → ℕ
packet_code packet.Short = 1
packet_code packet.WrongVersion = 2

abbrev pub drop_code : DropCause → ℕ
drop_code dropped.NotOurs = 1
drop_code dropped.NoStart = 2
drop_code dropped.WrongSequence = 3
drop_code dropped.WrongSize = 4
drop_code dropped.TooLong = 5
drop_code dropped.IntegritySet = 6

abbrev pub record_code : RecordFault → ℕ
record_code sealed.Short = 1
record_code sealed.WrongId = 2
record_code sealed.WrongNumber = 3
record_code sealed.WrongLength = 4
record_code sealed.BadTag = 5
record_code sealed.BadInnerLength = 6
record_code sealed.KeySpent = 7

abbrev pub chunk_code : ChunkFault → ℕ
chunk_code chunk.WrongHandle = 1
chunk_code chunk.WrongNumber = 2
chunk_code chunk.WrongSize = 3
chunk_code chunk.TooLarge = 4
chunk_code chunk.EarlyLast = 5
chunk_code chunk.MissingLast = 6

abbrev pub caps_code : CapsFault → ℕ
caps_code caps.SizeTooSmall = 1
caps_code caps.SizesCrossed = 2
caps_code caps.NoPsk = 3
caps_code caps.NoProtection = 4

-- ---- Lines.

-- The line of a kind and a cause that carries nothing else,
abbrev pub caused : (kind cause : ℕ) → PacketOutcome
caused kind cause = record { kind = kind; cause = cause; detail = 0; session = 0; number = 0 }

-- that with a detail, that of a session, and that with a number.
abbrev pub detailed : (kind cause detail : ℕ) → PacketOutcome
detailed kind cause detail = record (caused kind cause) { detail = detail }

-- A session as one number: ReqSessionID is its low half.
abbrev pub session_number : SessionId → ℕ
session_number id = id.req + 2 ^ 16 * id.rsp

abbrev pub of_session : (kind cause : ℕ) → SessionId → PacketOutcome
of_session kind cause id = record (caused kind cause) { session = session_number id }

abbrev pub numbered : (kind cause number : ℕ) → PacketOutcome
numbered kind cause number = record (caused kind cause) { number = number }

-- ---- A responder.

abbrev pub unheard_told : RspIgnored → PacketOutcome
unheard_told responder.Worn = caused 7 1
unheard_told (responder.Packet why) = detailed 7 2 (packet_code why)
unheard_told (responder.Dropped why) = detailed 7 3 (drop_code why)
unheard_told responder.UnknownPeer = caused 7 4
unheard_told responder.NotRequest = caused 7 5
unheard_told responder.OtherType = caused 7 6

abbrev pub heard_told : Heard → PacketOutcome
heard_told (heard.Answered code) = numbered 1 0 code
heard_told (heard.Taken id) = of_session 2 0 id
heard_told (heard.Refused code) = numbered 3 0 code
heard_told heard.Unopened = caused 4 0
heard_told heard.Same = caused 5 0
heard_told heard.More = caused 6 0
heard_told (heard.Ignored why) = unheard_told why

-- ---- A requester.

abbrev pub finished_told : Finished → PacketOutcome
finished_told finished.Connected = caused 18 1
finished_told (finished.Opened id) = of_session 18 2 id
finished_told (finished.Answered id) = of_session 18 3 id
finished_told (finished.Alive id) = of_session 18 4 id
finished_told (finished.Updated id) = of_session 18 5 id
finished_told (finished.Measured count) = numbered 18 6 count
finished_told (finished.Ended id) = of_session 18 7 id

abbrev pub stopped_told : Stop → PacketOutcome
stopped_told stop.NoVersion = caused 21 1
stopped_told (stop.Caps why) = detailed 21 2 (caps_code why)
stopped_told stop.NoChoice = caused 21 3
stopped_told stop.TooLong = caused 21 4

-- Why a session was lost, whatever the session.
abbrev pub lost_told : BadReply → PacketOutcome
lost_told bad.TooLong = caused 22 1
lost_told (bad.Malformed place) = numbered 22 2 place
lost_told bad.WrongKind = caused 22 3
lost_told (bad.Refused code) = numbered 22 4 code
lost_told (bad.Chunk why) = detailed 22 5 (chunk_code why)

abbrev pub ignored_told : ReqIgnored → PacketOutcome
ignored_told requester.Worn = caused 23 1
ignored_told (requester.Packet why) = detailed 23 2 (packet_code why)
ignored_told (requester.Dropped why) = detailed 23 3 (drop_code why)
ignored_told requester.NotResponse = caused 23 4
ignored_told requester.NothingOutstanding = caused 23 5
ignored_told requester.WrongTag = caused 23 6
ignored_told requester.OtherType = caused 23 7
ignored_told requester.WrongPlace = caused 23 8
ignored_told requester.TooLong = caused 23 9
ignored_told (requester.Malformed place) = numbered 23 10 place
ignored_told (requester.Chunk why) = detailed 23 11 (chunk_code why)
ignored_told requester.BadVerify = caused 23 12
ignored_told (requester.Record why) = detailed 23 13 (record_code why)

abbrev pub event_told : Event → PacketOutcome
event_told event.Progress = caused 16 0
event_told event.More = caused 17 0
event_told (event.Done finished) = finished_told finished
event_told (event.Refused code) = numbered 19 0 code
event_told (event.Warned code) = numbered 20 0 code
event_told (event.Stopped why) = stopped_told why
event_told (event.Lost id why) = record (lost_told why) { session = session_number id }
event_told (event.Ignored why) = ignored_told why
