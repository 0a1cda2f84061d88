-- Why a configuration yields no world. This project's own.
use Rattle.std.specs.Prelude.{◌⊎◌, ℕ, List, [], ◌∷◌, Some, None}
use Rattle.script_ends.specs.Configured.{HasRequesterFault, HasResponderFault}
use Rattle.link_world.specs.declared.fault.WorldFault.{WorldFault}
use Rattle.link_world.specs.declared.fault.WorldFault.TheVariants.{OutOfMemory, Requester, Responder}
use Rattle.requester.specs.declared.fault.ReqConfigFault.{ReqConfigFault}
use Rattle.script_text.specs.declared.configuration.config.ReqPart.{ReqPart}
use Rattle.script_text.specs.declared.configuration.config.ScriptConfig.{ScriptConfig}

-- The first fault of requesters in order: that of the first which has one.
abbrev pub HaveFirstFault : (responder : ℕ) → List ReqPart → ReqConfigFault → Type 0
HaveFirstFault responder [] fault = ⊥
HaveFirstFault responder (q ∷ others) fault =
    HasRequesterFault responder q (Some fault) ⊎ (HasRequesterFault responder q None × HaveFirstFault responder others fault)

-- None of them has a fault.
abbrev pub HaveNoFault : (responder : ℕ) → List ReqPart → Type 0
HaveNoFault responder [] = Unit {0}
HaveNoFault responder (q ∷ others) = HasRequesterFault responder q None × HaveNoFault responder others

-- The cause of a fault: the responder's precedes those of the requesters. An allocation failure may occur at any time.
abbrev pub IsCause : ScriptConfig → WorldFault → Type 0
IsCause c (Responder fault) = HasResponderFault c (Some fault)
IsCause c (Requester fault) = HasResponderFault c None × HaveFirstFault c.responder.eid.number c.requesters fault
IsCause c OutOfMemory = Unit {0}

-- There is a world: no end has a fault.
abbrev pub IsSound : ScriptConfig → Type 0
IsSound c = HasResponderFault c None × HaveNoFault c.responder.eid.number c.requesters
