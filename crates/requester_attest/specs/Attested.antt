-- What an attestor writes on a stream of frames, and what it comes to. This project's own.
use Rattle.std.specs.Prelude.{◌≡◌, ◌++◌, ℕ, List, [], ◌∷◌, true, false, Option, Some, None}
use Rattle.std.specs.Option.{option_map}
use Rattle.appraise.specs.Answers.{IsAppraisal}
use Rattle.appraise.specs.declared.appraisal.Appraisal.{Appraisal}
use Rattle.attestor.specs.Attesting.{AttestStep, Attesting, Decision, attesting_given, attesting_over, attesting_started, attesting_timed}
use Rattle.attestor.specs.Attesting.Decision.{Undecided, Measured, Failed}
use Rattle.attestor.specs.declared.progressed.Progressed.{Progressed}
use Rattle.attestor.specs.declared.progressed.Progressed.TheVariants as progress
use Rattle.frame_stream.specs.Frames.{Begin, Ending, GivenFrame, IsStream, stream_limit}
use Rattle.frame_stream.specs.Frames.Ending.{Done}
use Rattle.frame_stream.specs.Frames.GivenFrame.{PacketOf, TicksOf, CommandOf}
use Rattle.frame_stream.specs.Packets.{packet_frames}
use Rattle.frame_stream.specs.declared.kinds.Kinds.{Kinds}
use Rattle.requester_attest.specs.Words.{progress_frame}
use Rattle.requester_drive.specs.First.{first_in_life}
use Rattle.requester_machine.specs.Requesting.{Requesting}
use Rattle.script_text.specs.declared.configuration.config.ScriptConfig.{ScriptConfig}
use Rattle.script_text.specs.declared.texts.rule.Rule.{Rule}
use Rattle.spdm_basis.specs.Stream.{Takes, TakesPrefix}

-- An attestor reads packets and seconds that passed, and no commands.
abbrev pub attested_kinds : Kinds
attested_kinds = record { ticks = true; commands = false }

-- The first requester of a configuration with a seed, in the life of a boot number, which appraises under these rules.
abbrev pub attesting_in_life : ScriptConfig → List Rule → (seed : List ℕ) → (boot : ℕ) → Option Attesting
attesting_in_life c rules seed boot = option_map (λ (requester : Requesting). attesting_over requester rules) (first_in_life c seed boot)

-- ---- What records come to.

-- This tells of each record what it comes to under the rules. Of each there is one appraisal (`one_answer_holds` of
-- `appraise`).
abbrev pub Appraises : List Rule → (List ℕ → Appraisal) → Type 0
Appraises rules appraised = (blocks : List ℕ) → IsAppraisal rules blocks (appraised blocks)

-- What a decision is told as.
abbrev pub told_as : (List ℕ → Appraisal) → Decision → Progressed
told_as appraised Undecided = progress.Going
told_as appraised (Measured blocks) = progress.Verdict (appraised blocks)
told_as appraised Failed = progress.Failed

-- The verdict: what the record came to that decided.
abbrev pub verdict_of : (List ℕ → Appraisal) → Decision → Option Appraisal
verdict_of appraised Undecided = None
verdict_of appraised (Measured blocks) = Some (appraised blocks)
verdict_of appraised Failed = None

-- ---- What is written.

-- Of a call: the line of what is decided at it, and the packets that are sent.
abbrev pub step_frames : (List ℕ → Appraisal) → AttestStep → List ℕ
step_frames appraised step = progress_frame (told_as appraised step.decides) ++ packet_frames step.sent

-- A frame: a packet is given, seconds pass. No frame with a command stands in such a stream.
abbrev pub attested_by : Attesting → GivenFrame → AttestStep
attested_by a (PacketOf packet) = attesting_given a packet
attested_by a (TicksOf seconds) = attesting_timed a
attested_by a (CommandOf line) = record { decides = Undecided; sent = []; after = a }

-- The attestor after all of them in order.
abbrev pub after_frames : Attesting → List GivenFrame → Attesting
after_frames a [] = a
after_frames a (frame ∷ others) = after_frames (attested_by a frame).after others

-- What is written of all of them, in order.
abbrev pub attested_from : (List ℕ → Appraisal) → Attesting → List GivenFrame → List ℕ
attested_from appraised a [] = []
attested_from appraised a (frame ∷ others) = step_frames appraised (attested_by a frame) ++ attested_from appraised (attested_by a frame).after others

-- The first request is sent before a frame is read.
abbrev pub attested : (List ℕ → Appraisal) → Attesting → List GivenFrame → List ℕ
attested appraised a frames = step_frames appraised (attesting_started a) ++ attested_from appraised (attesting_started a).after frames

-- The attestor after the beginning and the frames.
abbrev pub attesting_after : Attesting → List GivenFrame → Attesting
attesting_after a frames = after_frames (attesting_started a).after frames

-- ---- What was read and written in a call, of an attestor. Of a source that tells what it has left the stream is known:
-- `before` the call.

-- What the beginning and the frames of the stream led to was written, and no more. The stream ends so after them.
pub record IsAttested (appraised : List ℕ → Appraisal) (a : Attesting) (before held holds : Option (List ℕ)) (ending : Ending) : Type 0 where
  pub frames : List GivenFrame
  pub stream : (left : List ℕ) → before ≡ Some left → IsStream attested_kinds stream_limit left frames ending
  pub written : Takes held (attested appraised a frames) holds

-- The stream was read to its end, and this is the verdict.
pub record HasVerdict (appraised : List ℕ → Appraisal) (a : Attesting) (before held holds : Option (List ℕ)) (verdict : Option Appraisal) : Type 0 where
  pub whole : IsAttested appraised a before held holds Done
  pub is : verdict ≡ verdict_of appraised (attesting_after a whole.frames).decision

-- What the beginning and the first frames of the stream led to was written, and no more.
pub record IsAttestedSoFar (appraised : List ℕ → Appraisal) (a : Attesting) (before held holds : Option (List ℕ)) : Type 0 where
  pub frames : List GivenFrame
  pub stream : (left : List ℕ) → before ≡ Some left → Begin attested_kinds frames left
  pub written : Takes held (attested appraised a frames) holds

-- A prefix of it was written.
pub record IsAttestedInPart (appraised : List ℕ → Appraisal) (a : Attesting) (before held holds : Option (List ℕ)) : Type 0 where
  pub frames : List GivenFrame
  pub stream : (left : List ℕ) → before ≡ Some left → Begin attested_kinds frames left
  pub written : TakesPrefix held (attested appraised a frames) holds
