-- What was written of the stream that is ahead was written of the stream of the input.
use Rattle.std.proofs.Common.{◌≡◌, ℕ, List, [], sym, append-nil, Option, Some}
use Rattle.device_serve.specs.Devised.{Device, devised_from, frames_of}
use Rattle.device_serve.specs.Streams.{IsDevised, IsDevisedInPart, IsDevisedSoFar}
use Rattle.frame_stream.specs.Frames.{Ending}
use Rattle.script_text.specs.declared.configuration.config.ScriptConfig.{ScriptConfig}

module _ (c : ScriptConfig) (d : Device) (left ahead held holds : Option (List ℕ)) (same : (stream : List ℕ) → left ≡ Some stream → ahead ≡ Some stream) where
  pub devised_ahead : (ending : Ending) → IsDevised c d ahead held holds ending → IsDevised c d left held holds ending
  devised_ahead ending s = record { frames = s.frames; stream = λ stream is. s.stream stream (same stream is); written = s.written }

  pub part_ahead : IsDevisedInPart c d ahead held holds → IsDevisedInPart c d left held holds
  part_ahead s = record { frames = s.frames; stream = λ stream is. s.stream stream (same stream is); told = s.told; written = s.written }

-- All that was written is a prefix of it.
pub so_far : (c : ScriptConfig) (d : Device) (left held holds : Option (List ℕ)) → IsDevisedSoFar c d left held holds → IsDevisedInPart c d left held holds
so_far c d left held holds s = record {
  frames = s.frames;
  stream = s.stream;
  told = s.told;
  written = (frames_of (devised_from c d s.frames), [], sym (append-nil (frames_of (devised_from c d s.frames))), s.written);
}
