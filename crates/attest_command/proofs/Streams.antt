-- The stream of an input is what was read with its texts and what is left after it.
use Rattle.std.proofs.Common.{◌≡◌, ◌∙◌, ◌++◌, ℕ, List, [], refl, ap, sym, append-nil, Option, Some, None}
use Rattle.std.proofs.lemmas.Option.{none-some}
use Rattle.appraise.specs.declared.appraisal.Appraisal.{Appraisal}
use Rattle.attest_command.specs.Text.{stream_behind, stream_in}
use Rattle.attestor.specs.Attesting.{Attesting}
use Rattle.frame_stream.specs.Frames.{Ending}
use Rattle.frame_stream.specs.Standing.{in_front}
use Rattle.requester_attest.specs.Attested.{HasVerdict, IsAttested, IsAttestedInPart, IsAttestedSoFar, attested}

pub same_stream : (left : Option (List ℕ)) (before bytes : List ℕ) (rest : Option (List ℕ)) → ((input : List ℕ) → left ≡ Some input → (behind : List ℕ) × (rest ≡ Some behind) × (stream_behind input ≡ before ++ behind)) →
    bytes ≡ before → (stream : List ℕ) → stream_in left ≡ Some stream → in_front bytes rest ≡ Some stream
same_stream None before bytes rest read same stream is = absurd (none-some stream is)
same_stream (Some input) before bytes rest read same stream is =
    let behind = read input refl in
    ap (λ (b : List ℕ). in_front b rest) same ∙ ap (in_front before) behind.1 ∙ ap (λ (l : List ℕ). Some l) (sym behind.2) ∙ is

-- So what was attested on it was attested on the stream.
module _ (appraised : List ℕ → Appraisal) (a : Attesting) (left ahead held holds : Option (List ℕ)) (same : (stream : List ℕ) → left ≡ Some stream → ahead ≡ Some stream) where
  pub whole : (ending : Ending) → IsAttested appraised a ahead held holds ending → IsAttested appraised a left held holds ending
  whole ending s = record { frames = s.frames; stream = λ stream is. s.stream stream (same stream is); written = s.written }

  pub with_verdict : (verdict : Option Appraisal) → HasVerdict appraised a ahead held holds verdict → HasVerdict appraised a left held holds verdict
  with_verdict verdict s = record {
    whole = record { frames = s.whole.frames; stream = λ stream is. s.whole.stream stream (same stream is); written = s.whole.written };
    is = s.is;
  }

  pub in_part : IsAttestedInPart appraised a ahead held holds → IsAttestedInPart appraised a left held holds
  in_part s = record { frames = s.frames; stream = λ stream is. s.stream stream (same stream is); written = s.written }

-- All that was written is a prefix of it.
pub so_far : (appraised : List ℕ → Appraisal) (a : Attesting) (left held holds : Option (List ℕ)) → IsAttestedSoFar appraised a left held holds → IsAttestedInPart appraised a left held holds
so_far appraised a left held holds s = record {
  frames = s.frames;
  stream = s.stream;
  written = (attested appraised a s.frames, [], sym (append-nil (attested appraised a s.frames)), s.written);
}
