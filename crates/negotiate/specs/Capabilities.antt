-- What two ends can do together (DSP0274, "GET_CAPABILITIES request message format" and "Successful CAPABILITIES response message format").
use Rattle.std.specs.Prelude.{ℕ, Bool, ◌==◌, ◌&&◌, ◌||◌, not, nat_lt, min, bit_and, if◌then◌else◌, Result, Ok, Err}
use Rattle.spdm_grammar.specs.declared.messages.capabilities.Caps.{Caps}
use Rattle.spdm_grammar.specs.declared.messages.part_faults.CapsFault.{CapsFault}
use Rattle.spdm_grammar.specs.declared.messages.part_faults.CapsFault.TheVariants.{SizeTooSmall, SizesCrossed, NoPsk, NoProtection}
use Rattle.spdm_grammar.specs.declared.names.TheConstants.{MIN_DATA_TRANSFER_SIZE, MAX_MESSAGE_SIZE}
use Rattle.spdm_grammar.specs.declared.names.capability.TheConstants.{MEAS_CAP_BITS, MEAS_CAP, MEAS_CAP_SIGNED, ENCRYPT_CAP, MAC_CAP, PSK_CAP_BITS, PSK_CAP, PSK_CAP_WITH_CONTEXT, HBEAT_CAP, KEY_UPD_CAP, CHUNK_CAP}
use Rattle.negotiate.specs.declared.shared.Common.{Common}
use Rattle.negotiate.specs.declared.shared.Sizes.{Sizes}

-- All these bits are set.
abbrev pub has_all : ℕ → ℕ → Bool
has_all flags bits = bit_and flags bits == bits

-- MEAS_CAP: measurements without signatures or with them.
abbrev pub measures : ℕ → Bool
measures flags = bit_and flags MEAS_CAP_BITS == MEAS_CAP || bit_and flags MEAS_CAP_BITS == MEAS_CAP_SIGNED

-- PSK_CAP has this value.
abbrev pub psk_is : ℕ → ℕ → Bool
psk_is value flags = bit_and flags PSK_CAP_BITS == value

-- ENCRYPT_CAP and MAC_CAP.
abbrev pub protects : ℕ → Bool
protects flags = has_all flags ENCRYPT_CAP && has_all flags MAC_CAP

-- Both ends have this flag.
abbrev pub both_have : ℕ → Caps → Caps → Bool
both_have flag requester responder = has_all requester.flags flag && has_all responder.flags flag

-- How long the messages are that an end takes: no SPDM message passes 4,096 bytes, whatever an end announces (this
-- project's own limit).
abbrev pub sizes_of : Caps → Sizes
sizes_of caps = record { transfer = min caps.transfer MAX_MESSAGE_SIZE; max = min caps.max MAX_MESSAGE_SIZE }

-- What both can do: measurements are the responder's alone, HBEAT_CAP, KEY_UPD_CAP and CHUNK_CAP need both ends, and each end takes messages of its own sizes.
abbrev pub shared : Caps → Caps → Common
shared requester responder = record {
  measure = measures responder.flags;
  heartbeat = both_have HBEAT_CAP requester responder;
  key_update = both_have KEY_UPD_CAP requester responder;
  chunk = both_have CHUNK_CAP requester responder;
  to_requester = sizes_of requester;
  to_responder = sizes_of responder;
}

-- What both can do, or the first reason in this order why they do not go together. A DataTransferSize of an end is at least 42, and a MaxSPDMmsgSize at least that DataTransferSize; a requester of this profile has PSK_CAP 01 and a responder 10; and both protect their records.
abbrev pub common_of : Caps → Caps → Result Common CapsFault
common_of requester responder =
    if nat_lt requester.transfer MIN_DATA_TRANSFER_SIZE || nat_lt responder.transfer MIN_DATA_TRANSFER_SIZE then Err SizeTooSmall
    else (if nat_lt requester.max requester.transfer || nat_lt responder.max responder.transfer then Err SizesCrossed
    else (if not (psk_is PSK_CAP requester.flags && psk_is PSK_CAP_WITH_CONTEXT responder.flags) then Err NoPsk
    else (if not (protects requester.flags && protects responder.flags) then Err NoProtection
    else Ok (shared requester responder))))
