-- Frames that are read one after another.
use Rattle.std.proofs.Common.{◌≡◌, ◌∙◌, ◌++◌, ◌≤◌, ℕ, List, [], ◌∷◌, Option, Some, length, refl, ap, sym, subst, arith, append_assoc, append-nil, length-append}
use Rattle.spdm_basis.specs.Stream.{Gives, Takes}
use Rattle.frame_stream.proofs.Fronts.{behind_front, in_front_of}
use Rattle.frame_stream.proofs.Parts.{gives_all}
use Rattle.frame_stream.specs.Frames.{AreFrames, Begin, Ending, Ends, GivenFrame, IsFrame, IsStream, all_spelled, spelled}
use Rattle.frame_stream.specs.Runs.{AreRead, IsFresh}
use Rattle.frame_stream.specs.Standing.{IsDone, IsRead, left_of}
use Rattle.frame_stream.specs.declared.kinds.Kinds.{Kinds}
use Rattle.frame_stream.specs.declared.reader.FrameReader.{FrameReader}

spelled_more : (frames : List GivenFrame) (frame : GivenFrame) → all_spelled (frames ++ frame ∷ []) ≡ all_spelled frames ++ spelled frame
spelled_more [] frame = append-nil (spelled frame)
spelled_more (f ∷ frames) frame = ap (λ (l : List ℕ). spelled f ++ l) (spelled_more frames frame) ∙ sym (append_assoc (spelled f) (all_spelled frames) (spelled frame))

allowed_more : (kinds : Kinds) (frames : List GivenFrame) (frame : GivenFrame) → AreFrames kinds frames → IsFrame kinds frame → AreFrames kinds (frames ++ frame ∷ [])
allowed_more kinds [] frame all own = (own, tt)
allowed_more kinds (f ∷ frames) frame all own = (all.0, allowed_more kinds frames frame all.1 own)

-- before the first frame
pub none_read : (reader : FrameReader) (first : Option (List ℕ)) → AreRead reader first [] reader first
none_read reader first = record {
  allowed = tt;
  gives = λ left e. (left, e, refl);
  taken = omega arith;
  kinds = refl;
  limit = refl;
}

-- one more frame
pub one_more_read : (old : FrameReader) (first : Option (List ℕ)) (frames : List GivenFrame) (mid : FrameReader) (before : Option (List ℕ)) (frame : GivenFrame) (new : FrameReader) (after : Option (List ℕ)) →
    AreRead old first frames mid before → IsRead mid before frame new after → AreRead old first (frames ++ frame ∷ []) new after
one_more_read old first frames mid before frame new after so_far read =
    let long : length (all_spelled (frames ++ frame ∷ [])) ≡ length (all_spelled frames ++ spelled frame) = ap (λ (l : List ℕ). length l) (spelled_more frames frame) in
    record {
      allowed = allowed_more old.kinds frames frame so_far.allowed (subst (λ (k : Kinds). IsFrame k frame) so_far.kinds read.allowed);
      gives = subst (λ (l : List ℕ). Gives (left_of old first) l (left_of new after)) (sym (spelled_more frames frame))
          (gives_all (left_of old first) (left_of mid before) (left_of new after) (all_spelled frames) (spelled frame) so_far.gives read.gives);
      taken = omega (arith, long, length-append (all_spelled frames) (spelled frame), read.taken, so_far.taken);
      kinds = read.kinds ∙ so_far.kinds;
      limit = read.limit ∙ so_far.limit;
    }

-- ---- What a stream is.

-- the frames precede it
pub stream_begins : (kinds : Kinds) (most : ℕ) (old : FrameReader) (first : Option (List ℕ)) (frames : List GivenFrame) (new : FrameReader) (after : Option (List ℕ)) → IsFresh kinds most old → AreRead old first frames new after →
    (left : List ℕ) → left_of old first ≡ Some left → Begin kinds frames left
stream_begins kinds most old first frames new after fresh read left e =
    let given = read.gives left e in
    record { rest = given.0; parts = given.2; allowed = subst (λ (k : Kinds). AreFrames k frames) fresh.kinds read.allowed }

-- and what is left after them is as the reader has it before itself
pub record IsBehind (Is : Kinds → (limit at : ℕ) → List ℕ → Type 0) (kinds : Kinds) (most : ℕ) (frames : List GivenFrame) (left : List ℕ) : Type 0 where
  pub rest : List ℕ
  pub parts : left ≡ all_spelled frames ++ rest
  pub allowed : AreFrames kinds frames
  pub within : length (all_spelled frames) ≤ most
  pub is : Is kinds most (length (all_spelled frames)) rest

pub behind_frames : (Is : Kinds → (limit at : ℕ) → List ℕ → Type 0) (kinds : Kinds) (most : ℕ) (old : FrameReader) (first : Option (List ℕ)) (frames : List GivenFrame) (new : FrameReader) (after : Option (List ℕ)) →
    IsFresh kinds most old → AreRead old first frames new after → ((rest : List ℕ) → left_of new after ≡ Some rest → Is new.kinds new.limit new.taken rest) →
    (left : List ℕ) → left_of old first ≡ Some left → IsBehind Is kinds most frames left
behind_frames Is kinds most old first frames new after fresh read is left e =
    let given = read.gives left e in
    let rest = given.0 in
    let at = length (all_spelled frames) in
    let size : new.taken ≡ at = omega (arith, read.taken, fresh.taken) in
    let limit : new.limit ≡ most = read.limit ∙ fresh.limit in
    let within : new.taken ≤ new.limit = new.within in
    record {
      rest = rest;
      parts = given.2;
      allowed = subst (λ (k : Kinds). AreFrames k frames) fresh.kinds read.allowed;
      within = subst (λ n. at ≤ n) limit (subst (λ n. n ≤ new.limit) size within);
      is = subst (λ (k : Kinds). Is k most at rest) (read.kinds ∙ fresh.kinds)
          (subst (λ n. Is new.kinds n at rest) limit (subst (λ n. Is new.kinds new.limit n rest) size (is rest given.1)));
    }

pub stream_is : (kinds : Kinds) (most : ℕ) (old : FrameReader) (first : Option (List ℕ)) (frames : List GivenFrame) (new : FrameReader) (after : Option (List ℕ)) (ending : Ending) → IsFresh kinds most old → AreRead old first frames new after →
    ((rest : List ℕ) → left_of new after ≡ Some rest → Ends new.kinds new.limit new.taken rest ending) → (left : List ℕ) → left_of old first ≡ Some left → IsStream kinds most left frames ending
stream_is kinds most old first frames new after ending fresh read ends left e =
    let behind = behind_frames (λ k limit at bytes. Ends k limit at bytes ending) kinds most old first frames new after fresh read ends left e in
    record { rest = behind.rest; parts = behind.parts; allowed = behind.allowed; within = behind.within; ends = behind.is }

-- ---- The end.

second_none : (ahead rest : List ℕ) → ahead ++ rest ≡ [] → rest ≡ []
second_none [] rest none = none
second_none (b ∷ ahead) rest none =
    let size : length (b ∷ (ahead ++ rest)) ≡ 0 = ap (λ (l : List ℕ). length l) none in
    absurd (omega (arith, size))

-- where there is no further frame nothing is left
pub end_reached : (old : FrameReader) (first : Option (List ℕ)) (frames : List GivenFrame) (mid : FrameReader) (before : Option (List ℕ)) (new : FrameReader) (after : Option (List ℕ)) → AreRead old first frames mid before → IsDone mid before new after →
    (left : List ℕ) → first ≡ Some left → after ≡ Some []
end_reached old first frames mid before new after read done left e =
    let given = read.gives (old.ahead ++ left) (in_front_of old.ahead left first e) in
    let none : given.0 ≡ [] = done.ended given.0 given.1 in
    let last = behind_front new.ahead after given.0 (done.same given.0 given.1) in
    let nothing : new.ahead ++ last.0 ≡ [] = sym last.2 ∙ none in
    last.1 ∙ ap (λ (l : List ℕ). Some l) (second_none new.ahead last.0 nothing)

-- what was written so far is all that was written, where no more was
pub written_so_far : (held between holds : Option (List ℕ)) (text : List ℕ) → holds ≡ between → Takes held text between → Takes held text holds
written_so_far held between holds text same taken = λ had e. same ∙ taken had e

pub nothing_written : (held : Option (List ℕ)) → Takes held [] held
nothing_written held = λ had e. e ∙ ap (λ (l : List ℕ). Some l) (sym (append-nil had))
