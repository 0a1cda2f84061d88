-- A stream of a device has its frames and its end from its bytes alone.
use Rattle.std.proofs.Common.{◌≡◌, ◌∙◌, ◌++◌, ◌+◌, ◌≤◌, ◌∷◌, ◌⊎◌, inl, inr, ℕ, List, [], refl, ap, sym, subst, arith, length, append_assoc, length-append, None}
use Rattle.std.proofs.lemmas.Bool.{false≢true}
use Rattle.std.specs.Option.{is_some}
use Rattle.frame_stream.proofs.Unique.{no_end, same_end, same_frame}
use Rattle.frame_stream.specs.Frames.{AreFrames, Ending, Ends, GivenFrame, IsFrame, all_spelled, spelled, stream_limit}
use Rattle.frame_stream.specs.Frames.Ending.{Done, Bad, TooLong}
use Rattle.frame_stream.specs.Frames.GivenFrame.{CommandOf}
use Rattle.device_serve.specs.Devised.{device_kinds}
use Rattle.device_serve.specs.Replies.{Answer, answer_in}
use Rattle.device_serve.specs.Streams.{AreTold, HasNoAnswer, IsDeviceStream, IsTold, Stops}
use Rattle.std.specs.Prelude.{Option}

not_told : (frame : GivenFrame) (line : List ℕ) → frame ≡ CommandOf line → answer_in line ≡ None → IsTold frame → ⊥
not_told frame line is none told = false≢true (sym (ap (λ (o : Option Answer). is_some o) none) ∙ subst (λ (f : GivenFrame). IsTold f) is told)

module _ (limit : ℕ) where
  -- it ends as any stream of frames, or with a line that is no answer
  stopped : (at : ℕ) (bytes : List ℕ) (e : Ending) → Stops device_kinds limit at bytes e → Ends device_kinds limit at bytes e ⊎ ((e ≡ Bad at) × HasNoAnswer limit at bytes)
  stopped at bytes Done stops = inl stops
  stopped at bytes (Bad place) (inl ends) = inl ends
  stopped at bytes (Bad place) (inr none) = inr (ap (λ n. Bad n) none.0, none.1)
  stopped at bytes TooLong stops = inl stops

  -- a line that is no answer is a frame of such a stream
  not_both : (at : ℕ) (bytes : List ℕ) (e : Ending) → Ends device_kinds limit at bytes e → HasNoAnswer limit at bytes → ⊥
  not_both at bytes e ends none = no_end device_kinds limit at bytes e (CommandOf none.line) none.rest ends (refl, none.fits) none.parts none.within

  same_stop : (at : ℕ) (bytes : List ℕ) (e d : Ending) → at ≤ limit → Stops device_kinds limit at bytes e → Stops device_kinds limit at bytes d → e ≡ d
  same_stop at bytes e d within x y = by_both (stopped at bytes e x) (stopped at bytes d y)
    where
      by_both : Ends device_kinds limit at bytes e ⊎ ((e ≡ Bad at) × HasNoAnswer limit at bytes) → Ends device_kinds limit at bytes d ⊎ ((d ≡ Bad at) × HasNoAnswer limit at bytes) → e ≡ d
      by_both (inl ends) (inl others) = same_end device_kinds limit at bytes e d within ends others
      by_both (inl ends) (inr none) = absurd (not_both at bytes e ends none.1)
      by_both (inr none) (inl ends) = absurd (not_both at bytes d ends none.1)
      by_both (inr none) (inr other) = none.0 ∙ sym other.0

  -- no stream stops where a frame stands in front that is taken
  goes_on : (at : ℕ) (bytes : List ℕ) (e : Ending) (frame : GivenFrame) (rest : List ℕ) → Stops device_kinds limit at bytes e → IsFrame device_kinds frame → IsTold frame →
      bytes ≡ spelled frame ++ rest → at + length (spelled frame) ≤ limit → ⊥
  goes_on at bytes e frame rest stops allowed told is within = by_stop (stopped at bytes e stops)
    where
      by_stop : Ends device_kinds limit at bytes e ⊎ ((e ≡ Bad at) × HasNoAnswer limit at bytes) → ⊥
      by_stop (inl ends) = no_end device_kinds limit at bytes e frame rest ends allowed is within
      by_stop (inr none) =
          let one = same_frame frame (CommandOf none.1.line) rest none.1.rest (sym is ∙ none.1.parts) in
          not_told frame none.1.line one.0 none.1.none told

  same_from : (at : ℕ) (stream : List ℕ) (fs gs : List GivenFrame) (r s : List ℕ) (e d : Ending) → stream ≡ all_spelled fs ++ r → stream ≡ all_spelled gs ++ s →
      AreFrames device_kinds fs → AreFrames device_kinds gs → AreTold fs → AreTold gs → at + length (all_spelled fs) ≤ limit → at + length (all_spelled gs) ≤ limit →
      Stops device_kinds limit (at + length (all_spelled fs)) r e → Stops device_kinds limit (at + length (all_spelled gs)) s d → (fs ≡ gs) × (e ≡ d)
  same_from at stream [] [] r s e d x y left right told others few many ends other =
      let same : s ≡ r = sym y ∙ x in
      (refl, same_stop (at + 0) r e d few ends (subst (λ (l : List ℕ). Stops device_kinds limit (at + 0) l d) same other))
  same_from at stream [] (g ∷ gs) r s e d x y left right told others few many ends other =
      let is : r ≡ spelled g ++ (all_spelled gs ++ s) = sym x ∙ y ∙ append_assoc (spelled g) (all_spelled gs) s in
      let size : length (spelled g ++ all_spelled gs) ≡ length (spelled g) + length (all_spelled gs) = length-append (spelled g) (all_spelled gs) in
      absurd (goes_on (at + 0) r e g (all_spelled gs ++ s) ends right.0 others.0 is (omega (arith, many, size)))
  same_from at stream (f ∷ fs) [] r s e d x y left right told others few many ends other =
      let is : s ≡ spelled f ++ (all_spelled fs ++ r) = sym y ∙ x ∙ append_assoc (spelled f) (all_spelled fs) r in
      let size : length (spelled f ++ all_spelled fs) ≡ length (spelled f) + length (all_spelled fs) = length-append (spelled f) (all_spelled fs) in
      absurd (goes_on (at + 0) s d f (all_spelled fs ++ r) other left.0 told.0 is (omega (arith, few, size)))
  same_from at stream (f ∷ fs) (g ∷ gs) r s e d x y left right told others few many ends other =
      let one = same_frame f g (all_spelled fs ++ r) (all_spelled gs ++ s)
      (sym (append_assoc (spelled f) (all_spelled fs) r) ∙ sym x ∙ y ∙ append_assoc (spelled g) (all_spelled gs) s) in
      let next = at + length (spelled f) in
      let long : length (spelled f) ≡ length (spelled g) = ap (λ (h : GivenFrame). length (spelled h)) one.0 in
      let size : length (spelled f ++ all_spelled fs) ≡ length (spelled f) + length (all_spelled fs) = length-append (spelled f) (all_spelled fs) in
      let size' : length (spelled g ++ all_spelled gs) ≡ length (spelled g) + length (all_spelled gs) = length-append (spelled g) (all_spelled gs) in
      let first : at + length (spelled f ++ all_spelled fs) ≡ next + length (all_spelled fs) = omega (arith, size) in
      let second : at + length (spelled g ++ all_spelled gs) ≡ next + length (all_spelled gs) = omega (arith, size', long) in
      let rest = same_from next (all_spelled fs ++ r) fs gs r s e d refl one.1 left.1 right.1 told.1 others.1 (omega (arith, few, first)) (omega (arith, many, second))
      (subst (λ n. Stops device_kinds limit n r e) first ends) (subst (λ n. Stops device_kinds limit n s d) second other) in
      (ap (λ (h : GivenFrame). h ∷ fs) one.0 ∙ ap (λ (l : List GivenFrame). g ∷ l) rest.0, rest.1)

-- the whole stream
pub device_stream_is_one : (stream : List ℕ) (fs gs : List GivenFrame) (e d : Ending) → IsDeviceStream stream fs e → IsDeviceStream stream gs d → (fs ≡ gs) × (e ≡ d)
device_stream_is_one stream fs gs e d x y =
    let first : 0 + length (all_spelled fs) ≡ length (all_spelled fs) = omega arith in
    let second : 0 + length (all_spelled gs) ≡ length (all_spelled gs) = omega arith in
    same_from stream_limit 0 stream fs gs x.rest y.rest e d x.parts y.parts x.allowed y.allowed x.told y.told (omega (arith, x.within)) (omega (arith, y.within))
    (subst (λ n. Stops device_kinds stream_limit n x.rest e) (sym first) x.ends) (subst (λ n. Stops device_kinds stream_limit n y.rest d) (sym second) y.ends)
