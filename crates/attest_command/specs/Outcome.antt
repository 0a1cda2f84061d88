-- What a requester does with an input that appraises its responder's measurements: a configuration and a policy, and a
-- stream of frames after them. This project's own.
use Rattle.std.specs.Prelude.{◌≡◌, ℕ, List, Option, Some, Result}
use Rattle.appraise.specs.declared.appraisal.Appraisal.{Appraisal}
use Rattle.attest_command.specs.Text.{IsSet, Setting, stream_in, texts_before}
use Rattle.attestor.specs.Attesting.{Attesting}
use Rattle.frame_stream.specs.Frames.{Ending}
use Rattle.requester_attest.specs.Attested as attesting
use Rattle.requester_attest.specs.Attested.{Appraises, attesting_in_life}
use Rattle.spdm_basis.specs.Stream.{GivesSeed}
use Rattle.stream_commands.specs.Kept.{IsKeptAnswerOf, KeeperState}
use Rattle.stream_commands.specs.Outside.{IsAnswerOf, Outside, StreamCommand}
use Rattle.stream_commands.specs.declared.fault.StreamFault.{StreamFault}
use Rattle.stream_commands.specs.declared.kept_fault.KeptFault.{KeptFault}

-- ---- In the life of a boot number.

-- The text is this configuration and these rules, and this seed was taken, and no other. The first requester of the
-- configuration with the seed appraises under the rules: of each record it is told so.
pub record IsSetUp (boot : ℕ) (setting : Setting) (seed : List ℕ) (a : Attesting) (appraised : List ℕ → Appraisal) (before after : Outside) : Type 0 where
  pub set : IsSet setting before.left
  pub given : GivesSeed before.seeds seed after.seeds
  pub first : attesting_in_life setting.config setting.rules seed boot ≡ Some a
  pub appraises : Appraises setting.rules appraised

-- The first request and what all whole frames of the stream led to was written, and no more. The stream ends so after
-- them.
pub record IsAttested (boot : ℕ) (before after : Outside) (ending : Ending) : Type 0 where
  pub setting : Setting
  pub seed : List ℕ
  pub requester : Attesting
  pub appraised : List ℕ → Appraisal
  pub set_up : IsSetUp boot setting seed requester appraised before after
  pub attested : attesting.IsAttested appraised requester (stream_in before.left) before.holds after.holds ending

-- The same of a stream that was read to its end, with this verdict: what the record came to that was measured, if one was.
pub record HasVerdict (boot : ℕ) (before after : Outside) (verdict : Option Appraisal) : Type 0 where
  pub setting : Setting
  pub seed : List ℕ
  pub requester : Attesting
  pub appraised : List ℕ → Appraisal
  pub set_up : IsSetUp boot setting seed requester appraised before after
  pub attested : attesting.HasVerdict appraised requester (stream_in before.left) before.holds after.holds verdict

-- A prefix of the first request and of what the first frames of the stream led to was written.
pub record IsBegunToAttest (boot : ℕ) (before after : Outside) : Type 0 where
  pub setting : Setting
  pub seed : List ℕ
  pub requester : Attesting
  pub appraised : List ℕ → Appraisal
  pub set_up : IsSetUp boot setting seed requester appraised before after
  pub attested : attesting.IsAttestedInPart appraised requester (stream_in before.left) before.holds after.holds

-- What was answered then.
abbrev pub attesting_command : StreamCommand (Option Appraisal)
attesting_command = record {
  text = texts_before;
  whole = IsAttested;
  part = IsBegunToAttest;
  done = HasVerdict;
}

-- ---- What was answered in its first life, and in the life of the next boot of a keeper.

abbrev pub IsAnswered : (before after : Outside) → Result (Option Appraisal) StreamFault → Type 0
IsAnswered before after answer = IsAnswerOf attesting_command 0 before after answer

abbrev pub IsAnsweredKept : (found left : KeeperState) → (before after : Outside) → Result (Option Appraisal) KeptFault → Type 0
IsAnsweredKept found left before after answer = IsKeptAnswerOf attesting_command found left before after answer
