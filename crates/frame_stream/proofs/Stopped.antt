-- Why a frame that did not get its bytes is bad, or too long.
use Rattle.std.proofs.Common.{◌≡◌, ◌≢◌, ◌∙◌, ◌++◌, ◌+◌, ◌-◌, ◌<◌, ◌≤◌, ℕ, List, [], Option, refl, ap, sym, subst, arith, inr, length, take, length-append}
use Rattle.std.proofs.Math.Seq.{take-append_seam}
use Rattle.frame_stream.specs.Causes.{fault_as}
use Rattle.frame_stream.specs.Frames.{HasNoFrame, IsBad, IsLong, IsWrong}
use Rattle.frame_stream.specs.Standing.{IsCauseWithin, IsCutShort, IsMoved, IsStopped, beginning_of}
use Rattle.frame_stream.specs.declared.filling.Stop.{Stop}
use Rattle.frame_stream.specs.declared.filling.Stop.TheVariants as stop
use Rattle.frame_stream.specs.declared.kinds.Kinds.{Kinds}
use Rattle.frame_stream.specs.declared.reader.FrameReader.{FrameReader}

not_none : (bytes : List ℕ) → 0 < length bytes → bytes ≢ []
not_none bytes some none =
    let size : length bytes ≡ 0 = ap (λ (l : List ℕ). length l) none in
    absurd (omega (arith, size))

-- these bytes are all that is left
cut_bad : (kinds : Kinds) (limit at : ℕ) (bytes left : List ℕ) → left ≡ bytes → 0 < length bytes → at + length bytes ≤ limit → HasNoFrame kinds bytes → IsBad kinds limit at left
cut_bad kinds limit at bytes left is some within none =
    subst (λ (l : List ℕ). IsBad kinds limit at l) (sym is) (inr (not_none bytes some, within, none))

-- these bytes are all that is read
long_cut : (kinds : Kinds) (limit at : ℕ) (bytes left : List ℕ) → IsCutShort bytes left → at + length bytes ≡ limit → (IsWrong kinds bytes → ⊥) → HasNoFrame kinds bytes → IsLong kinds limit at left
long_cut kinds limit at bytes left (behind, is, some) reached right none =
    let size : limit - at ≡ length bytes = omega (arith, reached) in
    let all : length left ≡ length (bytes ++ behind) = ap (λ (l : List ℕ). length l) is in
    let front : take (limit - at) left ≡ bytes = ap (λ n. take n left) size ∙ ap (λ (l : List ℕ). take (length bytes) l) is ∙ take-append_seam bytes behind in
    record {
      more = omega (arith, all, length-append bytes behind, some, reached);
      right = λ wrong. right (subst (λ (l : List ℕ). IsWrong kinds l) front wrong);
      unfinished = subst (λ (l : List ℕ). HasNoFrame kinds l) (sym front) none;
    }

pub stop_cause : (size : ℕ) (old new : FrameReader) (before after : Option (List ℕ)) (failed fails : ℕ) (s : Stop) → IsMoved old before new after → IsStopped size old before new failed fails s →
    0 < length old.frame → (IsWrong old.kinds new.frame → ⊥) → (length new.frame < size → HasNoFrame old.kinds new.frame) →
    IsCauseWithin old before failed fails (fault_as (beginning_of old) s)
stop_cause size old new before after failed fails stop.End m (less, is) some right none =
    let inside : length old.frame ≤ old.taken = old.inside in
    let within : new.taken ≤ new.limit = new.within in
    let long : length new.frame ≡ length (old.frame ++ m.more) = ap (λ (l : List ℕ). length l) m.frame in (
      refl,
      λ left w. cut_bad old.kinds old.limit (beginning_of old) new.frame left (is left w) (omega (arith, long, length-append old.frame m.more, some))
          (omega (arith, long, length-append old.frame m.more, inside, within, m.taken, m.limit)) (none less),
    )
stop_cause size old new before after failed fails stop.TooLong m (less, at, is) some right none =
    let inside : length old.frame ≤ old.taken = old.inside in
    let long : length new.frame ≡ length (old.frame ++ m.more) = ap (λ (l : List ℕ). length l) m.frame in
    λ left w. long_cut old.kinds old.limit (beginning_of old) new.frame left (is left w)
    (omega (arith, long, length-append old.frame m.more, inside, at, m.taken, m.limit)) right (none less)
stop_cause size old new before after failed fails stop.ReadFault m fault some right none = fault
