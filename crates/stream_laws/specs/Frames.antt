-- What frames bring to the end that reads them, in the words of a world. This project's own.
use Rattle.std.specs.Prelude.{List, [], ◌∷◌, Option, Some, None}
use Rattle.std.specs.List.{flat_map}
use Rattle.frame_stream.specs.Frames.{GivenFrame}
use Rattle.frame_stream.specs.Frames.GivenFrame.{PacketOf, TicksOf, CommandOf}
use Rattle.requester_drive.specs.Commands.{command_line}
use Rattle.requester_machine.specs.Message.{Command}
use Rattle.script_text.specs.declared.configuration.config.ScriptConfig.{ScriptConfig}
use Rattle.stream_laws.specs.Coming.{Coming}
use Rattle.stream_laws.specs.Coming.Coming.{Tells, Gives, Passes}

-- A line tells requester 1 its command. One without a command tells nothing.
abbrev pub told_first : Option Command → List Coming
told_first None = []
told_first (Some command) = Tells 1 command ∷ []

-- To requester 1 of a configuration: seconds bring it nothing.
abbrev pub brings_first : ScriptConfig → GivenFrame → List Coming
brings_first c (PacketOf packet) = Gives packet ∷ []
brings_first c (TicksOf seconds) = []
brings_first c (CommandOf line) = told_first (command_line c line)

-- To the responder: a command brings it nothing.
abbrev pub brings_responder : GivenFrame → List Coming
brings_responder (PacketOf packet) = Gives packet ∷ []
brings_responder (TicksOf seconds) = Passes seconds ∷ []
brings_responder (CommandOf line) = []

-- All of them, in order.
abbrev pub bring_first : ScriptConfig → List GivenFrame → List Coming
bring_first c frames = flat_map (brings_first c) frames

abbrev pub bring_responder : List GivenFrame → List Coming
bring_responder frames = flat_map brings_responder frames
