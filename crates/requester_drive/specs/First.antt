-- The first requester of a configuration, which is the one that is driven. This project's own.
use Rattle.std.specs.Prelude.{◌≡◌, ℕ, List, [], ◌∷◌, Option, Some, None}
use Rattle.std.specs.Option.{option_map}
use Rattle.script_ends.specs.Configured.{HasRequesterFault, requester_end}
use Rattle.requester.specs.declared.fault.ReqConfigFault.{ReqConfigFault}
use Rattle.requester_machine.specs.Requesting.{Requesting, new_requesting}
use Rattle.script_text.specs.declared.configuration.config.ReqPart.{ReqPart}
use Rattle.script_text.specs.declared.configuration.config.ScriptConfig.{ScriptConfig}

-- The first of the requesters, if there is one.
abbrev pub first_of : List ReqPart → Option ReqPart
first_of [] = None
first_of (q ∷ others) = Some q

-- A requester of a configuration with this seed, in the life of a boot number. It was told and given nothing yet.
abbrev pub requester_in_life : ScriptConfig → (seed : List ℕ) → (boot : ℕ) → ReqPart → Requesting
requester_in_life c seed boot q = new_requesting (requester_end c.responder.eid.number q seed boot)

-- The same in its first life.
abbrev pub requester_as : ScriptConfig → (seed : List ℕ) → ReqPart → Requesting
requester_as c seed q = requester_in_life c seed 0 q

-- The first requester of a configuration in the life of a boot number, if it has one.
abbrev pub first_in_life : ScriptConfig → (seed : List ℕ) → (boot : ℕ) → Option Requesting
first_in_life c seed boot = option_map (requester_in_life c seed boot) (first_of c.requesters)

-- The same in its first life.
abbrev pub first_requester : ScriptConfig → (seed : List ℕ) → Option Requesting
first_requester c seed = option_map (requester_as c seed) (first_of c.requesters)

-- This is the first fault of what the first requester is made of, or it has none.
pub record HasFirstFault (c : ScriptConfig) (fault : Option ReqConfigFault) : Type 0 where
  pub q : ReqPart
  pub first : first_of c.requesters ≡ Some q
  pub has : HasRequesterFault c.responder.eid.number q fault
