-- A stream determines its frames and its end.
use Rattle.std.proofs.Common.{◌≡◌, ◌∙◌, ◌++◌, ◌+◌, ◌-◌, ◌/◌, ◌%◌, ◌≤◌, ◌∷◌, inl, inr, ℕ, suc, zero, List, [], refl, ap, sym, subst, arith, length, take, drop, append_assoc, length-append}
use Rattle.std.proofs.Math.Seq.{drop-append_seam, take-append_seam}
use Rattle.std.proofs.lemmas.Bool.{false≢true}
use Rattle.std.specs.Prelude.{slice_index}
use Rattle.frame_stream.proofs.Whole.{not_wrong_none}
use Rattle.frame_stream.specs.Frames.{AreFrames, Ending, Ends, GivenFrame, IsFrame, IsStream, IsWrong, all_spelled, counted, four_bytes, spelled}
use Rattle.frame_stream.specs.Frames.Ending.{Done, Bad, TooLong}
use Rattle.frame_stream.specs.Frames.GivenFrame.{PacketOf, TicksOf, CommandOf}
use Rattle.frame_stream.specs.declared.kinds.Kinds.{Kinds}

-- equal bytes in front, where they are as many
same_front : (a b r s : List ℕ) → length a ≡ length b → a ++ r ≡ b ++ s → (a ≡ b) × (r ≡ s)
same_front a b r s long e = (
  sym (take-append_seam a r) ∙ ap (λ (l : List ℕ). take (length a) l) e ∙ ap (λ n. take n (b ++ s)) long ∙ take-append_seam b s,
  sym (drop-append_seam a r) ∙ ap (λ (l : List ℕ). drop (length a) l) e ∙ ap (λ n. drop n (b ++ s)) long ∙ drop-append_seam b s,
)

same_number : (m n : ℕ) → m % 256 ≡ n % 256 → m / 256 ≡ n / 256 → m ≡ n
same_number m n low high = omega arith

-- counted bytes in front
same_counted : (kind : ℕ) (a b r s : List ℕ) → (kind ∷ counted a) ++ r ≡ (kind ∷ counted b) ++ s → (a ≡ b) × (r ≡ s)
same_counted kind a b r s e =
    let low : length a % 256 ≡ length b % 256 = ap (λ (l : List ℕ). slice_index l 1) e in
    let high : length a / 256 ≡ length b / 256 = ap (λ (l : List ℕ). slice_index l 2) e in
    same_front a b r s (same_number (length a) (length b) low high) (ap (λ (l : List ℕ). drop 3 l) e)

same_seconds : (m n : ℕ) → m % 256 ≡ n % 256 → m / 256 % 256 ≡ n / 256 % 256 → m / 65536 % 256 ≡ n / 65536 % 256 → m / 16777216 ≡ n / 16777216 → m ≡ n
same_seconds m n a b c d =
    let third : m / 65536 ≡ n / 65536 = omega (arith, c, d) in
    let second : m / 256 ≡ n / 256 = omega (arith, b, third) in
    omega (arith, a, second)

same_ticks : (m n : ℕ) (r s : List ℕ) → spelled (TicksOf m) ++ r ≡ spelled (TicksOf n) ++ s → (m ≡ n) × (r ≡ s)
same_ticks m n r s e = (
  same_seconds m n (ap (λ (l : List ℕ). slice_index l 1) e) (ap (λ (l : List ℕ). slice_index l 2) e) (ap (λ (l : List ℕ). slice_index l 3) e) (ap (λ (l : List ℕ). slice_index l 4) e),
  ap (λ (l : List ℕ). drop 5 l) e,
)

-- the kind in front
same_kind : (a b : ℕ) (r s : List ℕ) → a ∷ r ≡ b ∷ s → a ≡ b
same_kind a b r s e = ap (λ (l : List ℕ). slice_index l 0) e

-- frames in front are one
pub same_frame : (f g : GivenFrame) (r s : List ℕ) → spelled f ++ r ≡ spelled g ++ s → (f ≡ g) × (r ≡ s)
same_frame (PacketOf a) (PacketOf b) r s e =
    let is = same_counted 1 a b r s e in
    (ap (λ (l : List ℕ). PacketOf l) is.0, is.1)
same_frame (PacketOf a) (TicksOf n) r s e = absurd (omega (arith, same_kind 1 2 (counted a ++ r) (four_bytes n ++ s) e))
same_frame (PacketOf a) (CommandOf b) r s e = absurd (omega (arith, same_kind 1 3 (counted a ++ r) (counted b ++ s) e))
same_frame (TicksOf m) (PacketOf b) r s e = absurd (omega (arith, same_kind 2 1 (four_bytes m ++ r) (counted b ++ s) e))
same_frame (TicksOf m) (TicksOf n) r s e =
    let is = same_ticks m n r s e in
    (ap (λ k. TicksOf k) is.0, is.1)
same_frame (TicksOf m) (CommandOf b) r s e = absurd (omega (arith, same_kind 2 3 (four_bytes m ++ r) (counted b ++ s) e))
same_frame (CommandOf a) (PacketOf b) r s e = absurd (omega (arith, same_kind 3 1 (counted a ++ r) (counted b ++ s) e))
same_frame (CommandOf a) (TicksOf n) r s e = absurd (omega (arith, same_kind 3 2 (counted a ++ r) (four_bytes n ++ s) e))
same_frame (CommandOf a) (CommandOf b) r s e =
    let is = same_counted 3 a b r s e in
    (ap (λ (l : List ℕ). CommandOf l) is.0, is.1)

-- what is read of a stream with a frame in front has it in front
take_more : (front back : List ℕ) (n : ℕ) → length front ≤ n → take n (front ++ back) ≡ front ++ take (n - length front) back
take_more [] back n few = ap (λ k. take k back) (omega arith)
take_more (b ∷ front) back zero few = absurd (omega (arith, few))
take_more (b ∷ front) back (suc n) few =
    let same : n - length front ≡ suc n - length (b ∷ front) = omega arith in
    ap (λ (l : List ℕ). b ∷ l) (take_more front back n (omega (arith, few)) ∙ ap (λ k. front ++ take k back) same)

take_none : (n : ℕ) (bytes : List ℕ) → bytes ≡ [] → take n bytes ≡ []
take_none zero bytes none = refl
take_none (suc n) [] none = refl
take_none (suc n) (b ∷ bytes) none =
    let size : length (b ∷ bytes) ≡ 0 = ap (λ (l : List ℕ). length l) none in
    absurd (omega (arith, size))

-- no stream ends where a frame stands in front
pub no_end : (kinds : Kinds) (limit at : ℕ) (bytes : List ℕ) (ending : Ending) (frame : GivenFrame) (rest : List ℕ) → Ends kinds limit at bytes ending → IsFrame kinds frame →
    bytes ≡ spelled frame ++ rest → at + length (spelled frame) ≤ limit → ⊥
no_end kinds limit at bytes Done frame rest ends allowed is within =
    let size : length bytes ≡ length (spelled frame ++ rest) = ap (λ (l : List ℕ). length l) is in
    let none : length bytes ≡ 0 = ap (λ (l : List ℕ). length l) ends in
    omega (arith, size, none)
no_end kinds limit at bytes (Bad place) frame rest (at_is, inl wrong) allowed is within =
    let front : take (limit - at) bytes ≡ spelled frame ++ take (limit - at - length (spelled frame)) rest =
    ap (λ (l : List ℕ). take (limit - at) l) is ∙ take_more (spelled frame) rest (limit - at) (omega (arith, within)) in
    false≢true (sym (subst (λ (l : List ℕ). IsWrong kinds l) front wrong) ∙ allowed.0)
no_end kinds limit at bytes (Bad place) frame rest (at_is, inr cut) allowed is within = cut.2 frame rest allowed is
no_end kinds limit at bytes TooLong frame rest long allowed is within =
    let front : take (limit - at) bytes ≡ spelled frame ++ take (limit - at - length (spelled frame)) rest =
    ap (λ (l : List ℕ). take (limit - at) l) is ∙ take_more (spelled frame) rest (limit - at) (omega (arith, within)) in
    long.unfinished frame (take (limit - at - length (spelled frame)) rest) allowed front

-- of no bytes none is a wrong kind
wrong_none : (kinds : Kinds) (limit at : ℕ) (bytes : List ℕ) → bytes ≡ [] → IsWrong kinds (take (limit - at) bytes) → ⊥
wrong_none kinds limit at bytes none wrong = not_wrong_none kinds (take (limit - at) bytes) (take_none (limit - at) bytes none) wrong

-- an end is one
pub same_end : (kinds : Kinds) (limit at : ℕ) (bytes : List ℕ) (e d : Ending) → at ≤ limit → Ends kinds limit at bytes e → Ends kinds limit at bytes d → e ≡ d
same_end kinds limit at bytes Done Done within x y = refl
same_end kinds limit at bytes Done (Bad p) within x (at_is, inl wrong) = absurd (wrong_none kinds limit at bytes x wrong)
same_end kinds limit at bytes Done (Bad p) within x (at_is, inr cut) = absurd (cut.0 x)
same_end kinds limit at bytes Done TooLong within x y =
    let none : length bytes ≡ 0 = ap (λ (l : List ℕ). length l) x in
    absurd (omega (arith, none, y.more, within))
same_end kinds limit at bytes (Bad p) Done within (at_is, inl wrong) y = absurd (wrong_none kinds limit at bytes y wrong)
same_end kinds limit at bytes (Bad p) Done within (at_is, inr cut) y = absurd (cut.0 y)
same_end kinds limit at bytes (Bad p) (Bad q) within x y = ap (λ n. Bad n) (x.0 ∙ sym y.0)
same_end kinds limit at bytes (Bad p) TooLong within (at_is, inl wrong) y = absurd (y.right wrong)
same_end kinds limit at bytes (Bad p) TooLong within (at_is, inr cut) y = absurd (omega (arith, cut.1, y.more))
same_end kinds limit at bytes TooLong Done within x y =
    let none : length bytes ≡ 0 = ap (λ (l : List ℕ). length l) y in
    absurd (omega (arith, none, x.more, within))
same_end kinds limit at bytes TooLong (Bad q) within x (at_is, inl wrong) = absurd (x.right wrong)
same_end kinds limit at bytes TooLong (Bad q) within x (at_is, inr cut) = absurd (omega (arith, cut.1, x.more))
same_end kinds limit at bytes TooLong TooLong within x y = refl

-- the frames from a byte of the stream on
pub same_from : (kinds : Kinds) (limit at : ℕ) (stream : List ℕ) (fs gs : List GivenFrame) (r s : List ℕ) (e d : Ending) →
    stream ≡ all_spelled fs ++ r → stream ≡ all_spelled gs ++ s → AreFrames kinds fs → AreFrames kinds gs → at + length (all_spelled fs) ≤ limit → at + length (all_spelled gs) ≤ limit →
    Ends kinds limit (at + length (all_spelled fs)) r e → Ends kinds limit (at + length (all_spelled gs)) s d → (fs ≡ gs) × (e ≡ d)
same_from kinds limit at stream [] [] r s e d x y left right few many ends others =
    let same : s ≡ r = sym y ∙ x in
    (refl, same_end kinds limit (at + 0) r e d few ends (subst (λ (l : List ℕ). Ends kinds limit (at + 0) l d) same others))
same_from kinds limit at stream [] (g ∷ gs) r s e d x y left right few many ends others =
    let is : r ≡ spelled g ++ (all_spelled gs ++ s) = sym x ∙ y ∙ append_assoc (spelled g) (all_spelled gs) s in
    let size : length (spelled g ++ all_spelled gs) ≡ length (spelled g) + length (all_spelled gs) = length-append (spelled g) (all_spelled gs) in
    absurd (no_end kinds limit (at + 0) r e g (all_spelled gs ++ s) ends right.0 is (omega (arith, many, size)))
same_from kinds limit at stream (f ∷ fs) [] r s e d x y left right few many ends others =
    let is : s ≡ spelled f ++ (all_spelled fs ++ r) = sym y ∙ x ∙ append_assoc (spelled f) (all_spelled fs) r in
    let size : length (spelled f ++ all_spelled fs) ≡ length (spelled f) + length (all_spelled fs) = length-append (spelled f) (all_spelled fs) in
    absurd (no_end kinds limit (at + 0) s d f (all_spelled fs ++ r) others left.0 is (omega (arith, few, size)))
same_from kinds limit at stream (f ∷ fs) (g ∷ gs) r s e d x y left right few many ends others =
    let one = same_frame f g (all_spelled fs ++ r) (all_spelled gs ++ s)
    (sym (append_assoc (spelled f) (all_spelled fs) r) ∙ sym x ∙ y ∙ append_assoc (spelled g) (all_spelled gs) s) in
    let next = at + length (spelled f) in
    let long : length (spelled f) ≡ length (spelled g) = ap (λ (h : GivenFrame). length (spelled h)) one.0 in
    let size : length (spelled f ++ all_spelled fs) ≡ length (spelled f) + length (all_spelled fs) = length-append (spelled f) (all_spelled fs) in
    let size' : length (spelled g ++ all_spelled gs) ≡ length (spelled g) + length (all_spelled gs) = length-append (spelled g) (all_spelled gs) in
    let first : at + length (spelled f ++ all_spelled fs) ≡ next + length (all_spelled fs) = omega (arith, size) in
    let second : at + length (spelled g ++ all_spelled gs) ≡ next + length (all_spelled gs) = omega (arith, size', long) in
    let rest = same_from kinds limit next (all_spelled fs ++ r) fs gs r s e d refl one.1 left.1 right.1 (omega (arith, few, first)) (omega (arith, many, second))
    (subst (λ n. Ends kinds limit n r e) first ends) (subst (λ n. Ends kinds limit n s d) second others) in
    (ap (λ (h : GivenFrame). h ∷ fs) one.0 ∙ ap (λ (l : List GivenFrame). g ∷ l) rest.0, rest.1)

-- the whole stream
pub stream_is_one : (kinds : Kinds) (limit : ℕ) (stream : List ℕ) (fs gs : List GivenFrame) (e d : Ending) → IsStream kinds limit stream fs e → IsStream kinds limit stream gs d → (fs ≡ gs) × (e ≡ d)
stream_is_one kinds limit stream fs gs e d x y =
    let first : 0 + length (all_spelled fs) ≡ length (all_spelled fs) = omega arith in
    let second : 0 + length (all_spelled gs) ≡ length (all_spelled gs) = omega arith in
    same_from kinds limit 0 stream fs gs x.rest y.rest e d x.parts y.parts x.allowed y.allowed (omega (arith, x.within)) (omega (arith, y.within))
    (subst (λ n. Ends kinds limit n x.rest e) (sym first) x.ends) (subst (λ n. Ends kinds limit n y.rest d) (sym second) y.ends)
