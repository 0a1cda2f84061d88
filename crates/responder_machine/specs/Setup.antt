-- How a responder is set up, for all requesters and towards each of them, and which capabilities it announces.
use Rattle.std.specs.Prelude.{◌+◌, ℕ, List, if◌then◌else◌}
use Rattle.measurements.specs.Blocks.{by_index}
use Rattle.negotiate.specs.declared.selection.AlgPolicy.{AlgPolicy}
use Rattle.spdm_grammar.specs.declared.told.block_spec.BlockSpec.{BlockSpec}
use Rattle.spdm_grammar.specs.declared.messages.capabilities.Caps.{Caps}
use Rattle.spdm_grammar.specs.declared.messages.choice.FlagSet.{FlagSet}
use Rattle.spdm_grammar.specs.declared.messages.choice.Suites.{Suites}
use Rattle.spdm_grammar.specs.declared.names.capability.TheConstants.{MEAS_CAP, PSK_CAP_WITH_CONTEXT}
use Rattle.spdm_machine.specs.Setup.{protection_flags, optional_flags}

-- What is set up of a responder for all requesters: its endpoint, the sizes of its messages, the payload size of its
-- packets, its heartbeat period in seconds, the capabilities that it announces, its opaque data, its measurements and
-- its algorithms.
pub record RspPart : Type 0 where
  pub eid : ℕ
  pub transfer : ℕ
  pub max : ℕ
  pub unit : ℕ
  pub beat : ℕ
  pub flags : FlagSet
  pub opaque : List ℕ
  pub blocks : List BlockSpec
  pub suites : Suites

-- What a responder knows of a requester: its endpoint, the hint that it gives, and the pre-shared key.
pub record Known : Type 0 where
  pub eid : ℕ
  pub hint : List ℕ
  pub psk : List ℕ

-- A responder as an end of its own: how it is set up, the requesters that it knows, the seed of its draws, and the
-- number of its first draw.
pub record RspEnd : Type 0 where
  pub part : RspPart
  pub known : List Known
  pub seed : List ℕ
  pub first : ℕ

-- A responder as it is set up towards one requester: its endpoint, the sizes of its messages, the payload size of its
-- packets, its heartbeat period in seconds, the capabilities that it announces, its opaque data, its measurements and
-- its algorithms; and the endpoint, the hint and the pre-shared key of the requester.
pub record RspSetup : Type 0 where
  pub eid : ℕ
  pub transfer : ℕ
  pub max : ℕ
  pub unit : ℕ
  pub beat : ℕ
  pub flags : FlagSet
  pub opaque : List ℕ
  pub blocks : List BlockSpec
  pub suites : Suites
  pub peer : ℕ
  pub hint : List ℕ
  pub psk : List ℕ

-- The responder as it is set up towards a requester that it knows.
abbrev pub towards : RspPart → Known → RspSetup
towards r q = record {
  eid = r.eid;
  transfer = r.transfer;
  max = r.max;
  unit = r.unit;
  beat = r.beat;
  flags = r.flags;
  opaque = r.opaque;
  blocks = r.blocks;
  suites = r.suites;
  peer = q.eid;
  hint = q.hint;
  psk = q.psk;
}

-- The capabilities of a responder: PSK_CAP is 10, and MEAS_CAP is 01 where it has measurements.
abbrev pub responder_caps : RspSetup → Caps
responder_caps r = record {
  ct = 0;
  flags = protection_flags + PSK_CAP_WITH_CONTEXT + (if r.flags.measure then MEAS_CAP else 0) + optional_flags r.flags;
  transfer = r.transfer;
  max = r.max;
}

-- What a responder goes by when it chooses algorithms.
abbrev pub policy_of : RspSetup → AlgPolicy
policy_of r = record { measure = r.flags.measure; suites = r.suites; transfer = r.transfer }

-- The measurements of a responder, by rising index.
abbrev pub inventory_of : RspSetup → List BlockSpec
inventory_of r = by_index r.blocks
