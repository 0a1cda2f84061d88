-- The numbers that C is told in place of enums: those that calls answer. No two causes of one call have one number.
use Rattle.std.specs.Prelude.{ℕ, Option, Some, None}
use Rattle.c_ends.specs.declared.argument.ArgumentFault.{ArgumentFault}
use Rattle.c_ends.specs.declared.argument.ArgumentFault.TheVariants as argument
use Rattle.c_ends.specs.declared.codes.TheConstants.{BAD_ALGORITHMS, BAD_BOOT, BAD_EID, BAD_PSK, MEMORY, OK, UNKNOWN_PEER, WORN}
use Rattle.measurements.specs.declared.fault.InventoryFault.TheVariants as inventory
use Rattle.requester.specs.declared.fault.ReqConfigFault.{ReqConfigFault}
use Rattle.requester.specs.declared.fault.ReqConfigFault.TheVariants as req
use Rattle.responder.specs.declared.fault.RspConfigFault.{RspConfigFault}
use Rattle.responder.specs.declared.fault.RspConfigFault.TheVariants as rsp
use Rattle.responder.specs.declared.resetting.ResetFault.{ResetFault}
use Rattle.responder.specs.declared.resetting.ResetFault.TheVariants as reset
use Rattle.spdm_grammar.specs.declared.told.command_fault.CommandFault.{CommandFault}
use Rattle.spdm_grammar.specs.declared.told.command_fault.CommandFault.TheVariants as command
use Rattle.spdm_grammar.specs.declared.told.heard.ReplyFault.{ReplyFault}
use Rattle.spdm_grammar.specs.declared.told.heard.ReplyFault.TheVariants as reply

-- ---- Why an end is not opened.

abbrev pub argument_code : ArgumentFault → ℕ
argument_code argument.Eid = BAD_EID
argument_code argument.Psk = BAD_PSK
argument_code argument.Algorithms = BAD_ALGORITHMS
argument_code argument.Boot = BAD_BOOT

-- No inventory has the fault OutOfMemory: where memory ran out, the configuration has.
abbrev pub responder_code : RspConfigFault → ℕ
responder_code rsp.TooManyRequesters = 32
responder_code rsp.SameEid = 33
responder_code rsp.SamePsk = 34
responder_code rsp.SizeRange = 35
responder_code (rsp.Inventory inventory.IndexOutOfRange) = 36
responder_code (rsp.Inventory inventory.IndexTaken) = 37
responder_code (rsp.Inventory inventory.TooLong) = 38
responder_code (rsp.Inventory inventory.OutOfMemory) = MEMORY
responder_code rsp.OutOfMemory = MEMORY

abbrev pub requester_code : ReqConfigFault → ℕ
requester_code req.SameEid = 33
requester_code req.SizeRange = 35
requester_code req.OutOfMemory = MEMORY

-- ---- Why a command is not done, application data are not queued, and a connection is not reset.

abbrev pub command_code : CommandFault → ℕ
command_code command.Worn = WORN
command_code command.NothingToRetry = 49
command_code command.Busy = 50
command_code command.NotConnected = 51
command_code command.NoSuchSession = 52
command_code command.SessionLimit = 53
command_code command.NotNegotiated = 54
command_code command.BadSummary = 55
command_code command.KeySpent = 56
command_code command.TooLong = 57

abbrev pub reply_code : ReplyFault → ℕ
reply_code reply.UnknownPeer = UNKNOWN_PEER
reply_code reply.TooLong = 64
reply_code reply.Full = 65

abbrev pub reset_code : ResetFault → ℕ
reset_code reset.Worn = WORN
reset_code reset.UnknownPeer = UNKNOWN_PEER

-- The code of a fault, or that it is done.
abbrev pub told_of_command : Option CommandFault → ℕ
told_of_command None = OK
told_of_command (Some fault) = command_code fault

abbrev pub told_of_reply : Option ReplyFault → ℕ
told_of_reply None = OK
told_of_reply (Some fault) = reply_code fault

abbrev pub told_of_reset : Option ResetFault → ℕ
told_of_reset None = OK
told_of_reset (Some fault) = reset_code fault
