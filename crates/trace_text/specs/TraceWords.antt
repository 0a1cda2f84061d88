-- The words of a trace for phases and stages, and for causes: of faults, of what is ignored, and of negotiations that
-- stop. Those of outcomes and events, as `answered` and `lost`, stand in TraceLines.antt; those of a difference in
-- OtherLines.antt. This project's own.
use Rattle.std.specs.Prelude.{ℕ, List, codes}
use Rattle.spdm_grammar.specs.declared.told.command_fault.CommandFault.TheVariants as command
use Rattle.spdm_grammar.specs.declared.told.command_fault.CommandFault.{CommandFault}
use Rattle.spdm_grammar.specs.declared.told.event.ReqIgnored.TheVariants as requester
use Rattle.spdm_grammar.specs.declared.told.event.ReqIgnored.{ReqIgnored}
use Rattle.spdm_grammar.specs.declared.told.event.Stop.TheVariants as stop
use Rattle.spdm_grammar.specs.declared.told.event.Stop.{Stop}
use Rattle.spdm_grammar.specs.declared.told.heard.ReplyFault.TheVariants as reply
use Rattle.spdm_grammar.specs.declared.told.heard.ReplyFault.{ReplyFault}
use Rattle.spdm_grammar.specs.declared.told.heard.RspIgnored.TheVariants as responder
use Rattle.spdm_grammar.specs.declared.told.heard.RspIgnored.{RspIgnored}
use Rattle.spdm_grammar.specs.declared.told.phase.Phase.TheVariants as phase
use Rattle.spdm_grammar.specs.declared.told.phase.Phase.{Phase}
use Rattle.spdm_grammar.specs.declared.told.phase.Stage.TheVariants as stage
use Rattle.spdm_grammar.specs.declared.told.phase.Stage.{Stage}

-- A phase.
abbrev pub phase_word : Phase → List ℕ
phase_word phase.Fresh = codes "fresh"
phase_word phase.Versioned = codes "versioned"
phase_word phase.Capable = codes "capable"
phase_word phase.Negotiated = codes "negotiated"

-- A stage.
abbrev pub stage_word : Stage → List ℕ
stage_word stage.Handshake = codes "handshake"
stage_word stage.Open = codes "open"
stage_word stage.Verifying = codes "verifying"

-- Why a command is not done.
abbrev pub command_fault_word : CommandFault → List ℕ
command_fault_word command.Worn = codes "worn"
command_fault_word command.NothingToRetry = codes "nothing-to-retry"
command_fault_word command.Busy = codes "busy"
command_fault_word command.NotConnected = codes "not-connected"
command_fault_word command.NoSuchSession = codes "no-session"
command_fault_word command.SessionLimit = codes "session-limit"
command_fault_word command.NotNegotiated = codes "not-negotiated"
command_fault_word command.BadSummary = codes "bad-summary"
command_fault_word command.KeySpent = codes "key-spent"
command_fault_word command.TooLong = codes "too-long"

-- Why application data is not queued. No event of a script is for an unknown peer.
abbrev pub reply_fault_word : ReplyFault → List ℕ
reply_fault_word reply.UnknownPeer = codes "unknown-peer"
reply_fault_word reply.TooLong = codes "too-long"
reply_fault_word reply.Full = codes "full"

-- Why a packet is ignored at the responder.
abbrev pub responder_ignored_word : RspIgnored → List ℕ
responder_ignored_word responder.Worn = codes "worn"
responder_ignored_word (responder.Packet why) = codes "packet"
responder_ignored_word (responder.Dropped why) = codes "dropped"
responder_ignored_word responder.UnknownPeer = codes "unknown-peer"
responder_ignored_word responder.NotRequest = codes "not-request"
responder_ignored_word responder.OtherType = codes "other-type"

-- Why a packet is ignored at a requester.
abbrev pub requester_ignored_word : ReqIgnored → List ℕ
requester_ignored_word requester.Worn = codes "worn"
requester_ignored_word (requester.Packet why) = codes "packet"
requester_ignored_word (requester.Dropped why) = codes "dropped"
requester_ignored_word requester.NotResponse = codes "not-response"
requester_ignored_word requester.NothingOutstanding = codes "nothing-outstanding"
requester_ignored_word requester.WrongTag = codes "wrong-tag"
requester_ignored_word requester.OtherType = codes "other-type"
requester_ignored_word requester.WrongPlace = codes "wrong-place"
requester_ignored_word requester.TooLong = codes "too-long"
requester_ignored_word (requester.Malformed why) = codes "malformed"
requester_ignored_word (requester.Chunk why) = codes "chunk"
requester_ignored_word requester.BadVerify = codes "bad-verify"
requester_ignored_word (requester.Record why) = codes "record"

-- Why a negotiation stops.
abbrev pub stop_word : Stop → List ℕ
stop_word stop.NoVersion = codes "no-version"
stop_word (stop.Caps why) = codes "caps"
stop_word stop.NoChoice = codes "no-choice"
stop_word stop.TooLong = codes "too-long"
