use Rattle.psk_session.proofs.AskCommands.{ask_is_command}
use Rattle.psk_session.proofs.laws.ask_is_command.Goals as goal

pub returns : goal.returns
returns c = ask_is_command
