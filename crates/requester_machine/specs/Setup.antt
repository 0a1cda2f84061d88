-- How a requester is set up, and which capabilities it announces.
use Rattle.std.specs.Prelude.{◌+◌, ℕ, List}
use Rattle.spdm_grammar.specs.declared.messages.capabilities.Caps.{Caps}
use Rattle.spdm_grammar.specs.declared.messages.choice.FlagSet.{FlagSet}
use Rattle.spdm_grammar.specs.declared.messages.choice.Suites.{Suites}
use Rattle.spdm_grammar.specs.declared.names.capability.TheConstants.{PSK_CAP}
use Rattle.spdm_machine.specs.Setup.{protection_flags, optional_flags}

-- A requester: its endpoint and that of its responder, the sizes of its messages, the payload size of its packets, how
-- many bytes of padding its records have, the capabilities that it announces, the hint, the pre-shared key, its opaque
-- data and its algorithms.
pub record ReqSetup : Type 0 where
  pub eid : ℕ
  pub responder : ℕ
  pub transfer : ℕ
  pub max : ℕ
  pub unit : ℕ
  pub pad : ℕ
  pub flags : FlagSet
  pub hint : List ℕ
  pub psk : List ℕ
  pub opaque : List ℕ
  pub suites : Suites

-- A requester as an end of its own: how it is set up, the seed of its draws, and the number of its first draw.
pub record ReqEnd : Type 0 where
  pub setup : ReqSetup
  pub seed : List ℕ
  pub first : ℕ

-- The capabilities of a requester: PSK_CAP is 01.
abbrev pub requester_caps : ReqSetup → Caps
requester_caps q = record { ct = 0; flags = protection_flags + PSK_CAP + optional_flags q.flags; transfer = q.transfer; max = q.max }
