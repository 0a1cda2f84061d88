-- The ends that a configuration sets up, and why there are none. This project's own.
use Rattle.std.specs.Prelude.{◌≡◌, ℕ, List, map, Option, Some, None}
use Rattle.requester.specs.Config as asking
use Rattle.requester.specs.SetUp.{setup_of}
use Rattle.requester.specs.declared.config.ReqConfig.{ReqConfig}
use Rattle.requester.specs.declared.fault.ReqConfigFault.{ReqConfigFault}
use Rattle.requester.specs.declared.fault.ReqConfigFault.TheVariants as asks
use Rattle.requester_machine.specs.Setup.{ReqEnd, ReqSetup}
use Rattle.responder.specs.Config as answering
use Rattle.responder.specs.SetUp as known
use Rattle.responder.specs.SetUp.{part_of}
use Rattle.responder.specs.declared.config.RspConfig.{RspConfig}
use Rattle.responder.specs.declared.fault.RspConfigFault.{RspConfigFault}
use Rattle.responder.specs.declared.fault.RspConfigFault.TheVariants as answers
use Rattle.responder_machine.specs.Setup.{Known, RspEnd, RspPart}
use Rattle.script_text.specs.declared.configuration.config.ReqPart.{ReqPart}
use Rattle.script_text.specs.declared.configuration.config.ScriptConfig.{ScriptConfig}
use Rattle.world_machine.specs.Setup.{Configuration, first_draw, known_of}

-- The responder, with the measurements of the configuration.
abbrev pub responder_in : ScriptConfig → RspPart
responder_in c = record {
  eid = c.responder.eid.number;
  transfer = c.responder.transfer;
  max = c.responder.max;
  unit = c.responder.unit;
  beat = c.responder.beat;
  flags = c.responder.flags;
  opaque = c.responder.opaque;
  blocks = c.blocks;
  suites = c.responder.suites;
}

-- A requester, beside a responder with this endpoint.
abbrev pub requester_in : (responder : ℕ) → ReqPart → ReqSetup
requester_in responder q = record {
  eid = q.eid.number;
  responder = responder;
  transfer = q.transfer;
  max = q.max;
  unit = q.unit;
  pad = q.pad;
  flags = q.flags;
  hint = q.hint;
  psk = q.psk;
  opaque = q.opaque;
  suites = q.suites;
}

-- What a responder with this endpoint knows of requesters.
abbrev pub known_in : (responder : ℕ) → List ReqPart → List Known
known_in responder qs = map known_of (map (requester_in responder) qs)

-- All ends.
abbrev pub configuration_in : ScriptConfig → Configuration
configuration_in c = record {
  responder = responder_in c;
  requesters = map (requester_in c.responder.eid.number) c.requesters;
}

-- ---- Whole ends, each with a seed of its own, in the life of a boot number.

abbrev pub responder_end : ScriptConfig → (seed : List ℕ) → (boot : ℕ) → RspEnd
responder_end c seed boot = record {
  part = responder_in c;
  known = known_in c.responder.eid.number c.requesters;
  seed = seed;
  first = first_draw boot;
}

abbrev pub requester_end : (responder : ℕ) → ReqPart → (seed : List ℕ) → (boot : ℕ) → ReqEnd
requester_end responder q seed boot = record { setup = requester_in responder q; seed = seed; first = first_draw boot }

-- ---- Why there are none.

-- A responder is made of this, as the configuration says it.
pub record SetsUpResponder (c : ScriptConfig) (config : RspConfig) : Type 0 where
  pub part : part_of config ≡ responder_in c
  pub known : map known.known_of config.known.now ≡ known_in c.responder.eid.number c.requesters

-- This is the first fault of what is made so, or it has none.
pub record HasResponderFault (c : ScriptConfig) (fault : Option RspConfigFault) : Type 0 where
  pub config : RspConfig
  pub sets_up : SetsUpResponder c config
  pub is : answering.config_fault config ≡ fault

-- The same of a requester.
pub record HasRequesterFault (responder : ℕ) (q : ReqPart) (fault : Option ReqConfigFault) : Type 0 where
  pub config : ReqConfig
  pub sets_up : setup_of config ≡ requester_in responder q
  pub is : asking.config_fault config ≡ fault

-- Why there is no responder: its first fault. Allocation failure may come at any time.
abbrev pub IsResponderFault : ScriptConfig → RspConfigFault → Type 0
IsResponderFault c answers.OutOfMemory = Unit {0}
IsResponderFault c fault = HasResponderFault c (Some fault)

-- Why there is no requester: its first fault; or there was no memory, and it has none.
abbrev pub IsRequesterFault : (responder : ℕ) → ReqPart → ReqConfigFault → Type 0
IsRequesterFault responder q asks.OutOfMemory = HasRequesterFault responder q None
IsRequesterFault responder q fault = HasRequesterFault responder q (Some fault)
