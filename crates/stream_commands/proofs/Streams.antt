-- The stream of an input is what was read with its text and what is left after it.
use Rattle.std.proofs.Common.{◌≡◌, ◌∙◌, ℕ, List, [], refl, ap, sym, append-nil, Option, Some, None}
use Rattle.std.proofs.lemmas.Option.{none-some}
use Rattle.frame_stream.specs.Frames.{Ending}
use Rattle.frame_stream.specs.Parts.{IsTextOf}
use Rattle.frame_stream.specs.Standing.{in_front}
use Rattle.requester_drive.specs.Driven.{IsDriven, IsDrivenInPart, IsDrivenSoFar, driven_from}
use Rattle.requester_machine.specs.Requesting.{Requesting}
use Rattle.responder_machine.specs.Responding.{Responding}
use Rattle.responder_serve.specs.Served.{IsServed, IsServedInPart, IsServedSoFar, served_from}
use Rattle.script_text.specs.declared.configuration.config.ScriptConfig.{ScriptConfig}
use Rattle.stream_commands.specs.StreamStart.{stream_in}

pub same_stream : (left : Option (List ℕ)) (text before bytes : List ℕ) (rest : Option (List ℕ)) → IsTextOf left text before rest → bytes ≡ before → (stream : List ℕ) → stream_in left ≡ Some stream → in_front bytes rest ≡ Some stream
same_stream None text before bytes rest read same stream is = absurd (none-some stream is)
same_stream (Some input) text before bytes rest read same stream is =
    let behind = (read input refl).1 in
    ap (λ (b : List ℕ). in_front b rest) same ∙ ap (in_front before) behind.1 ∙ ap (λ (l : List ℕ). Some l) (sym behind.2) ∙ is

-- So what was served of it was served of the stream.
pub served : (r : Responding) (left ahead held holds : Option (List ℕ)) (ending : Ending) → ((stream : List ℕ) → left ≡ Some stream → ahead ≡ Some stream) → IsServed r ahead held holds ending → IsServed r left held holds ending
served r left ahead held holds ending same s = record { frames = s.frames; stream = λ stream is. s.stream stream (same stream is); written = s.written }

pub in_part : (r : Responding) (left ahead held holds : Option (List ℕ)) → ((stream : List ℕ) → left ≡ Some stream → ahead ≡ Some stream) → IsServedInPart r ahead held holds → IsServedInPart r left held holds
in_part r left ahead held holds same s = record { frames = s.frames; stream = λ stream is. s.stream stream (same stream is); written = s.written }

-- All that was written is a prefix of it.
pub so_far : (r : Responding) (left held holds : Option (List ℕ)) → IsServedSoFar r left held holds → IsServedInPart r left held holds
so_far r left held holds s = record {
  frames = s.frames;
  stream = s.stream;
  written = (served_from r s.frames, [], sym (append-nil (served_from r s.frames)), s.written);
}

-- ---- The same of a requester that is driven.

pub driven : (c : ScriptConfig) (a : Requesting) (left ahead held holds : Option (List ℕ)) (ending : Ending) → ((stream : List ℕ) → left ≡ Some stream → ahead ≡ Some stream) → IsDriven c a ahead held holds ending → IsDriven c a left held holds ending
driven c a left ahead held holds ending same d = record { frames = d.frames; stream = λ stream is. d.stream stream (same stream is); written = d.written }

pub driven_in_part : (c : ScriptConfig) (a : Requesting) (left ahead held holds : Option (List ℕ)) → ((stream : List ℕ) → left ≡ Some stream → ahead ≡ Some stream) → IsDrivenInPart c a ahead held holds → IsDrivenInPart c a left held holds
driven_in_part c a left ahead held holds same d = record { frames = d.frames; stream = λ stream is. d.stream stream (same stream is); told = d.told; written = d.written }

pub driven_so_far : (c : ScriptConfig) (a : Requesting) (left held holds : Option (List ℕ)) → IsDrivenSoFar c a left held holds → IsDrivenInPart c a left held holds
driven_so_far c a left held holds d = record {
  frames = d.frames;
  stream = d.stream;
  told = d.told;
  written = (driven_from c a d.frames, [], sym (append-nil (driven_from c a d.frames)), d.written);
}
