-- What an end does on frames is what it does of what they bring.
use Rattle.std.proofs.Common.{◌≡◌, ℕ, List, [], ◌∷◌, ◌++◌, Option, Some, None, refl, ap}
use Rattle.frame_stream.specs.Frames.{GivenFrame}
use Rattle.frame_stream.specs.Frames.GivenFrame.{PacketOf, TicksOf, CommandOf}
use Rattle.frame_stream.specs.Packets.{packet_frames}
use Rattle.requester_drive.specs.Commands.{command_line}
use Rattle.requester_drive.specs.Driven as driving
use Rattle.requester_drive.specs.Driven.{driven_by, driven_by_line, driven_from}
use Rattle.requester_machine.specs.Message.{Command}
use Rattle.requester_machine.specs.Requesting.{Requesting, requester_given, requester_told}
use Rattle.responder_machine.specs.Responding.{Responding, responder_hears, ticks}
use Rattle.responder_serve.specs.Served as serving
use Rattle.responder_serve.specs.Served.{served_from}
use Rattle.script_text.specs.declared.configuration.config.ScriptConfig.{ScriptConfig}
use Rattle.stream_laws.proofs.Following.{after_all, written_by}
use Rattle.stream_laws.proofs.FirstGoes.{first}
use Rattle.stream_laws.proofs.ResponderGoes.{answering}
use Rattle.stream_laws.specs.Frames.{bring_first, bring_responder, told_first}

-- ---- A requester.

module _ (eid : ℕ) (c : ScriptConfig) where
  pub driven_after : (a : Requesting) (frames : List GivenFrame) → driving.after_frames c a frames ≡ after_all (first eid) a (bring_first c frames)
  driven_after a [] = refl
  driven_after a (PacketOf packet ∷ others) = driven_after (requester_given a packet).after others
  driven_after a (TicksOf seconds ∷ others) = driven_after a others
  driven_after a (CommandOf line ∷ others) = by_line (command_line c line) (driven_after a others) (λ command. driven_after (requester_told a command).after others)
    where
      by_line : (o : Option Command) → driving.after_frames c a others ≡ after_all (first eid) a (bring_first c others)
          → ((command : Command) → driving.after_frames c (requester_told a command).after others ≡ after_all (first eid) (requester_told a command).after (bring_first c others))
          → driving.after_frames c (driven_by_line a o).after others ≡ after_all (first eid) a (told_first o ++ bring_first c others)
      by_line None none some = none
      by_line (Some command) none some = some command

  pub driven_written : (a : Requesting) (frames : List GivenFrame) → driven_from c a frames ≡ written_by (first eid) a (bring_first c frames)
  driven_written a [] = refl
  driven_written a (PacketOf packet ∷ others) =
      ap (λ (rest : List ℕ). (driven_by c a (PacketOf packet)).written ++ rest) (driven_written (requester_given a packet).after others)
  driven_written a (TicksOf seconds ∷ others) = driven_written a others
  driven_written a (CommandOf line ∷ others) = by_line (command_line c line) (driven_written a others) (λ command. driven_written (requester_told a command).after others)
    where
      by_line : (o : Option Command) → driven_from c a others ≡ written_by (first eid) a (bring_first c others)
          → ((command : Command) → driven_from c (requester_told a command).after others ≡ written_by (first eid) (requester_told a command).after (bring_first c others))
          → (driven_by_line a o).written ++ driven_from c (driven_by_line a o).after others ≡ written_by (first eid) a (told_first o ++ bring_first c others)
      by_line None none some = none
      by_line (Some command) none some = ap (λ (rest : List ℕ). (driven_by_line a (Some command)).written ++ rest) (some command)

-- ---- A responder.

module _ (eid : ℕ) where
  pub served_after : (r : Responding) (frames : List GivenFrame) → serving.after_frames r frames ≡ after_all (answering eid) r (bring_responder frames)
  served_after r [] = refl
  served_after r (PacketOf packet ∷ others) = served_after (responder_hears r packet).after others
  served_after r (TicksOf seconds ∷ others) = served_after (ticks r seconds) others
  served_after r (CommandOf line ∷ others) = served_after r others

  pub served_written : (r : Responding) (frames : List GivenFrame) → served_from r frames ≡ written_by (answering eid) r (bring_responder frames)
  served_written r [] = refl
  served_written r (PacketOf packet ∷ others) =
      ap (λ (rest : List ℕ). packet_frames (responder_hears r packet).sent ++ rest) (served_written (responder_hears r packet).after others)
  served_written r (TicksOf seconds ∷ others) = served_written (ticks r seconds) others
  served_written r (CommandOf line ∷ others) = served_written r others
