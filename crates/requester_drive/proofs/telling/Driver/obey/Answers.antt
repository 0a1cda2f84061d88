use Rattle.std.proofs.Common.{◌≡◌, ◌∙◌, ℕ, List, Some, ap, sym, length}
use Rattle.requester_core.specs.Joined.{command_of}
use Rattle.frame_stream.specs.Standing.{beginning_of, content_in}
use Rattle.requester_drive.proofs.Written.{obeyed}
use Rattle.requester_drive.specs.Commands.{command_line, command_read}
use Rattle.script_text.specs.CommandText.{command_in}
use Rattle.requester_drive.proofs.telling.Driver.obey.Goals as goal

pub returns-in-Some-clause-obeyed : goal.returns-in-Some-clause-obeyed
returns-in-Some-clause-obeyed g c = λ a stands.
    let config = c.args.config.now in
    let reader = c.args.self.now.reader in
    let line = content_in reader in
    let said : command_line config line ≡ Some (command_of c.in-Some.command) =
    ap (λ (l : List ℕ). command_read (command_in (length config.requesters) l)) (sym c.content.ensures) ∙ ap command_read c.in-Ok.ensures ∙ sym c.in-Some.ensures in
    obeyed config a (beginning_of reader) line (record { before = g.K.Sink.faults c.args.sink.now; after = g.K.Sink.faults c.tell_command.new.sink })
    (g.K.Sink.contents c.args.sink.now) c.tell_command.result c.tell_command.new.self (g.K.Sink.contents c.tell_command.new.sink) (command_of c.in-Some.command) said c.tell_command.ensures.fault (c.tell_command.ensures.told a stands)
