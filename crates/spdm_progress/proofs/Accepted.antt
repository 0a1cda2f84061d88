-- A command that a requester answers `ok`: it is done, and no test of it holds.
use Rattle.std.proofs.Common.{◌≡◌, ◌∙◌, false, Option, Some, None, refl, sym, ap}
use Rattle.spdm_grammar.specs.declared.told.command_fault.CommandFault.{CommandFault}
use Rattle.spdm_machine.specs.Keys.{Draw}
use Rattle.spdm_machine.proofs.Members.{none_some}
use Rattle.requester_machine.specs.Asking.{asks, asks_by, done}
use Rattle.requester_machine.specs.Commands.{Free, command_fault}
use Rattle.requester_machine.specs.Does.{command_chosen, requester_asks}
use Rattle.requester_machine.specs.History as asked
use Rattle.requester_machine.specs.Message.{Command}
use Rattle.requester_machine.specs.Requesting.{Requesting, CommandStep, is_worn, next_draw, requester_told}
use Rattle.requester_machine.specs.Setup.{ReqSetup}
use Rattle.requester_machine.specs.Shown.{fault_of}
use Rattle.requester_machine.proofs.Telling.{fresh_told}

pub fault_none : (q : ReqSetup) (h : asked.History) (command : Command) (f : Free) (d : Draw) (o : Option CommandFault) → fault_of (asks_by q h command f d o) ≡ None → o ≡ None
fault_none q h command f d None e = refl
fault_none q h command f d (Some x) e = absurd (none_some x (sym e))

pub told_done : (q : ReqSetup) (h : asked.History) (command : Command) (d : Draw) → fault_of (requester_asks false q h command d) ≡ None → requester_asks false q h command d ≡ done q h command (command_chosen q h d) d
unfolding asks
told_done q h command d e =
    ap (asks_by q h command (command_chosen q h d) d) (fault_none q h command (command_chosen q h d) d (command_fault false q h command (command_chosen q h d)) e)

-- A command without a fault that is done so.
pub told_so : (a : Requesting) (command : Command) → is_worn a ≡ false → (requester_told a command).fault ≡ None
    → (command_fault false a.setup a.history command (command_chosen a.setup a.history (next_draw a)) ≡ None)
    × (requester_asks false a.setup a.history command (next_draw a) ≡ done a.setup a.history command (command_chosen a.setup a.history (next_draw a)) (next_draw a))
unfolding asks
told_so a command fresh accepted =
    let fine = sym (ap (λ (s : CommandStep). s.fault) (fresh_told a command fresh)) ∙ accepted in
    (fault_none a.setup a.history command (command_chosen a.setup a.history (next_draw a)) (next_draw a) (command_fault false a.setup a.history command (command_chosen a.setup a.history (next_draw a))) fine, told_done a.setup a.history command (next_draw a) fine)
