-- Why an end of a script is not made. This project's own.
use Rattle.std.specs.Prelude.{ℕ, List, Some}
use Rattle.script_ends.specs.Configured.{HasRequesterFault}
use Rattle.link_world.specs.Configured.{HaveFirstFault}
use Rattle.link_world.specs.declared.fault.WorldFault.{WorldFault}
use Rattle.link_world.specs.declared.fault.WorldFault.TheVariants.{OutOfMemory, Requester, Responder}
use Rattle.requester.specs.declared.fault.ReqConfigFault.{ReqConfigFault}
use Rattle.requester.specs.declared.fault.ReqConfigFault.TheVariants as asking
use Rattle.responder.specs.declared.fault.RspConfigFault.{RspConfigFault}
use Rattle.responder.specs.declared.fault.RspConfigFault.TheVariants as answering
use Rattle.script_text.specs.declared.configuration.config.ReqPart.{ReqPart}

-- One requester is not made.
abbrev pub IsAskerFault : (responder : ℕ) → ReqPart → WorldFault → Type 0
IsAskerFault responder q (Requester fault) = HasRequesterFault responder q (Some fault)
IsAskerFault responder q (Responder fault) = ⊥
IsAskerFault responder q OutOfMemory = Unit {0}

-- One of them is not made.
abbrev pub AreAskersFault : (responder : ℕ) → List ReqPart → WorldFault → Type 0
AreAskersFault responder qs (Requester fault) = HaveFirstFault responder qs fault
AreAskersFault responder qs (Responder fault) = ⊥
AreAskersFault responder qs OutOfMemory = Unit {0}

-- A fault of an end, as that of the world; allocation failure is the same of all.
abbrev pub of_responder : RspConfigFault → WorldFault
of_responder answering.OutOfMemory = OutOfMemory
of_responder fault = Responder fault

abbrev pub of_requester : ReqConfigFault → WorldFault
of_requester asking.OutOfMemory = OutOfMemory
of_requester fault = Requester fault
