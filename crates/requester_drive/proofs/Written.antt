-- What is written of a packet and of a command.
use Rattle.std.proofs.Common.{◌≡◌, ◌∙◌, ◌++◌, ℕ, List, [], ◌∷◌, Option, Some, Result, Ok, Err, true, refl, ap, sym, subst, append-nil}
use Rattle.std.specs.Prelude.{OnErr, is_some}
use Rattle.frame_stream.specs.Frames.{counted}
use Rattle.frame_stream.specs.Packets.{packet_frames}
use Rattle.requester.specs.Standing.{StandsFor, fault_in}
use Rattle.script_ends.proofs.Tells.{requester_tells}
use Rattle.requester_drive.specs.Commands.{command_line}
use Rattle.requester_drive.specs.Driven.{driven_by_command, driven_by_line, driven_by_packet, line_frame, line_frames, without_feed}
use Rattle.script_ends.specs.Told.{event_lines}
use Rattle.requester_drive.specs.Standing.{IsDrivenBy, IsObeyed, Written}
use Rattle.requester_drive.specs.declared.fault.DriveFault.{DriveFault}
use Rattle.requester_drive.specs.declared.fault.DriveFault.TheVariants as fault
use Rattle.requester_drive.specs.declared.telling.Driver.{Driver}
use Rattle.requester_machine.specs.Message.{Command}
use Rattle.requester_machine.specs.Requesting.{CommandStep, Requesting, requester_given, requester_told}
use Rattle.requester_machine.specs.Shown.{last_data}
use Rattle.trace_text.specs.TraceLines.{line_text}
use Rattle.trace_text.specs.Whose.{fault_of}
use Rattle.script_text.specs.declared.configuration.config.ScriptConfig.{ScriptConfig}
use Rattle.spdm_basis.specs.Stream.{HasFault, Takes, TakesPrefix}
use Rattle.spdm_grammar.specs.Lines.{Line}
use Rattle.spdm_grammar.specs.declared.told.command_fault.CommandFault.{CommandFault}
use Rattle.spdm_grammar.specs.declared.told.event.Event.{Event}

pub framed : (line : Line) (text : List ℕ) → text ≡ line_text line → 4 ∷ counted (without_feed text) ≡ line_frame line
framed line text is = ap (λ (t : List ℕ). 4 ∷ counted (without_feed t)) is

pub framed_alone : (line : Line) (text : List ℕ) → text ≡ line_text line → 4 ∷ counted (without_feed text) ≡ line_frames (line ∷ [])
framed_alone line text is = framed line text is ∙ sym (append-nil (line_frame line))

-- ---- A command.

same_fault : (r : Result (Unit {0}) CommandFault) → fault_of r ≡ fault_in r
same_fault (Ok done) = refl
same_fault (Err f) = refl

pub told_written : (step : CommandStep) (r : Result (Unit {0}) CommandFault) (sends : List (List ℕ)) → fault_in r ≡ step.fault → sends ≡ step.sent →
    line_frames (Line.Command 1 (fault_of r) ∷ []) ++ packet_frames sends ≡ (driven_by_command step).written
told_written step r sends fault_is sent_is =
    ap (λ (f : Option CommandFault). line_frames (Line.Command 1 f ∷ []) ++ packet_frames sends) (same_fault r ∙ fault_is)
    ∙ ap (λ (l : List (List ℕ)). line_frames (Line.Command 1 step.fault ∷ []) ++ packet_frames l) sent_is

-- ---- A packet.

pub given_written : (a : Requesting) (packet : List ℕ) (event : Event) (last : List ℕ) (sends : List (List ℕ)) → event ≡ (requester_given a packet).event → last ≡ last_data (requester_given a packet).after.history
    → sends ≡ (requester_given a packet).sent → line_frames (event_lines 1 event last) ++ packet_frames sends ≡ (driven_by_packet (requester_given a packet)).written
given_written a packet event last sends event_is last_is sent_is =
    let step = requester_given a packet in
    ap (λ (e : Event). line_frames (event_lines 1 e last) ++ packet_frames sends) event_is
    ∙ ap (λ (l : List ℕ). line_frames (event_lines 1 step.event l) ++ packet_frames sends) last_is
    ∙ ap (λ (l : List Line). line_frames l ++ packet_frames sends) (requester_tells 1 a packet)
    ∙ ap (λ (l : List (List ℕ)). (driven_by_packet (record step { sent = l })).written) sent_is

-- ---- A line.

pub obeyed : (c : ScriptConfig) (a : Requesting) (at : ℕ) (line : List ℕ) (n : Written) (held : Option (List ℕ)) (r : Result (Unit {0}) DriveFault) (new : Driver) (holds : Option (List ℕ)) (command : Command) →
    command_line c line ≡ Some command → OnErr r (HasFault n.before n.after) → IsDrivenBy (driven_by_command (requester_told a command)) held r new holds → IsObeyed c a at line n held r new holds
obeyed c a at line n held (Ok done) new holds command is counted driven =
    subst (λ (o : Option Command). (is_some o ≡ true) × StandsFor new.requester (driven_by_line a o).after × Takes held (driven_by_line a o).written holds) (sym is) (refl, driven.0, driven.1)
obeyed c a at line n held (Err fault.WriteFault) new holds command is counted driven =
    subst (λ (o : Option Command). (is_some o ≡ true) × HasFault n.before n.after × TakesPrefix held (driven_by_line a o).written holds) (sym is) (refl, counted, driven)
obeyed c a at line n held (Err fault.ReadFault) new holds command is counted driven = absurd driven
obeyed c a at line n held (Err fault.TooLong) new holds command is counted driven = absurd driven
obeyed c a at line n held (Err fault.OutOfMemory) new holds command is counted driven = absurd driven
obeyed c a at line n held (Err (fault.BadFrame place)) new holds command is counted driven = absurd driven
obeyed c a at line n held (Err (fault.Requester of)) new holds command is counted driven = absurd driven
