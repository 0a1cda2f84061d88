use Rattle.std.proofs.Common.{ℕ, List, subst, sym}
use Rattle.requester_core.specs.Joined.{command_of}
use Rattle.requester_drive.proofs.Short.{short_told}
use Rattle.requester_drive.proofs.Written.{told_written}
use Rattle.frame_stream.specs.Packets.{AreShort}
use Rattle.requester_machine.specs.Requesting.{requester_told}
use Rattle.spdm_basis.specs.Stream.{Takes}
use Rattle.requester_drive.proofs.telling.Driver.tell_command.Goals as goal

pub write_told-requires : goal.write_told-requires
write_told-requires g c =
    let a = c.requires.0 in
    subst (λ (l : List (List ℕ)). AreShort l) (sym (c.command-answer.ensures a c.requires.1).sent) (short_told c.args.self.now.requester a (command_of c.args.command) c.requires.1)

pub returns-in-Ok-clause-told : goal.returns-in-Ok-clause-told
returns-in-Ok-clause-told g c = λ a stands.
    let told = c.command-answer.ensures a stands in (
      told.stands,
      subst (λ (l : List ℕ). Takes (g.K.Sink.contents c.args.sink.now) l (g.K.Sink.contents c.write_told.new.sink))
          (told_written (requester_told a (command_of c.args.command)) c.command-answer.result c.command-answer.new.out told.fault told.sent) c.in-Ok.ensures.whole,
    )
