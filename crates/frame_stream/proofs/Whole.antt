-- Where frames are whole, and where no frame is.
use Rattle.std.proofs.Common.{◌≡◌, ◌≢◌, ◌∙◌, ◌++◌, ◌+◌, ◌*◌, ◌/◌, ◌%◌, ◌^◌, ◌<◌, ◌≤◌, ◌∷◌, ℕ, List, [], true, refl, ap, sym, subst, arith, length, drop, length-append}
use Rattle.std.proofs.lemmas.Bool.{false≢true}
use Rattle.std.specs.Prelude.{slice_index}
use Rattle.frame_stream.specs.Frames.{HasNoFrame, IsWrong, counted, may_be, spelled}
use Rattle.frame_stream.specs.Frames.GivenFrame.{PacketOf, TicksOf, CommandOf}
use Rattle.frame_stream.specs.Standing.{size_in}
use Rattle.frame_stream.specs.declared.kinds.Kinds.{Kinds}

-- counted bytes take at least three bytes in all, and the length that they begin with
room_counted : (bytes : List ℕ) (kind : ℕ) (content rest : List ℕ) → bytes ≡ (kind ∷ counted content) ++ rest → (3 ≤ length bytes) × (size_in bytes ≤ length bytes)
room_counted bytes kind content rest e =
    let size : length bytes ≡ length ((kind ∷ counted content) ++ rest) = ap (λ (l : List ℕ). length l) e in
    let told : size_in bytes ≡ size_in ((kind ∷ counted content) ++ rest) = ap size_in e in
    (omega (arith, size), omega (arith, size, told, length-append content rest))

room_ticks : (bytes : List ℕ) (seconds : ℕ) (rest : List ℕ) → bytes ≡ spelled (TicksOf seconds) ++ rest → (5 ≤ length bytes) × (slice_index bytes 0 ≡ 2)
room_ticks bytes seconds rest e =
    let size : length bytes ≡ length (spelled (TicksOf seconds) ++ rest) = ap (λ (l : List ℕ). length l) e in
    (omega (arith, size), ap (λ (l : List ℕ). slice_index l 0) e)

-- the kind of counted bytes, without the whole length
pub no_head : (kinds : Kinds) (bytes : List ℕ) → slice_index bytes 0 ≢ 2 → length bytes < 3 → HasNoFrame kinds bytes
no_head kinds bytes other short (PacketOf content) rest allowed e = absurd (omega (arith, (room_counted bytes 1 content rest e).0))
no_head kinds bytes other short (TicksOf seconds) rest allowed e = absurd (other (room_ticks bytes seconds rest e).1)
no_head kinds bytes other short (CommandOf content) rest allowed e = absurd (omega (arith, (room_counted bytes 3 content rest e).0))

-- and fewer than it tells
pub no_counted : (kinds : Kinds) (bytes : List ℕ) → slice_index bytes 0 ≢ 2 → length bytes < size_in bytes → HasNoFrame kinds bytes
no_counted kinds bytes other short (PacketOf content) rest allowed e = absurd (omega (arith, (room_counted bytes 1 content rest e).1))
no_counted kinds bytes other short (TicksOf seconds) rest allowed e = absurd (other (room_ticks bytes seconds rest e).1)
no_counted kinds bytes other short (CommandOf content) rest allowed e = absurd (omega (arith, (room_counted bytes 3 content rest e).1))

-- the kind of seconds, with too few bytes
kind_counted : (bytes : List ℕ) (kind : ℕ) (content rest : List ℕ) → bytes ≡ (kind ∷ counted content) ++ rest → slice_index bytes 0 ≡ kind
kind_counted bytes kind content rest e = ap (λ (l : List ℕ). slice_index l 0) e

pub no_ticks : (kinds : Kinds) (bytes : List ℕ) → slice_index bytes 0 ≡ 2 → length bytes < 5 → HasNoFrame kinds bytes
no_ticks kinds bytes is short (PacketOf content) rest allowed e = absurd (omega (arith, kind_counted bytes 1 content rest e))
no_ticks kinds bytes is short (TicksOf seconds) rest allowed e = absurd (omega (arith, (room_ticks bytes seconds rest e).0))
no_ticks kinds bytes is short (CommandOf content) rest allowed e = absurd (omega (arith, kind_counted bytes 3 content rest e))

-- no bytes
pub no_bytes : (kinds : Kinds) (bytes : List ℕ) → bytes ≡ [] → HasNoFrame kinds bytes
no_bytes kinds bytes none frame rest allowed e =
    let size : length bytes ≡ length (spelled frame ++ rest) = ap (λ (l : List ℕ). length l) e in
    let empty : length bytes ≡ 0 = ap (λ (l : List ℕ). length l) none in
    absurd (omega (arith, size, empty))

pub not_wrong : (kinds : Kinds) (bytes : List ℕ) → may_be kinds (slice_index bytes 0) ≡ true → IsWrong kinds bytes → ⊥
not_wrong kinds [] allowed wrong = wrong
not_wrong kinds (kind ∷ bytes) allowed wrong = false≢true (sym wrong ∙ allowed)

pub not_wrong_none : (kinds : Kinds) (bytes : List ℕ) → bytes ≡ [] → IsWrong kinds bytes → ⊥
not_wrong_none kinds bytes none wrong = subst (λ (l : List ℕ). IsWrong kinds l) none wrong

-- the first bytes stay in front
pub first_stays : (frame more : List ℕ) → 0 < length frame → slice_index (frame ++ more) 0 ≡ slice_index frame 0
first_stays [] more some = absurd (omega arith)
first_stays (kind ∷ frame) more some = refl

pub size_stays : (frame more : List ℕ) → length frame ≡ 3 → size_in (frame ++ more) ≡ size_in frame
size_stays (a ∷ b ∷ c ∷ frame) more is = refl
size_stays [] more is = absurd (omega arith)
size_stays (a ∷ []) more is = absurd (omega arith)
size_stays (a ∷ b ∷ []) more is = absurd (omega arith)

pub length_stays : (frame more : List ℕ) → length frame ≡ 3 → (slice_index (frame ++ more) 1 ≡ slice_index frame 1) × (slice_index (frame ++ more) 2 ≡ slice_index frame 2)
length_stays (a ∷ b ∷ c ∷ frame) more is = (refl, refl)
length_stays [] more is = absurd (omega arith)
length_stays (a ∷ []) more is = absurd (omega arith)
length_stays (a ∷ b ∷ []) more is = absurd (omega arith)

-- all counted bytes are there
pub is_counted : (bytes : List ℕ) (low high : ℕ) → 3 ≤ length bytes → length bytes ≡ 3 + low + 256 * high → slice_index bytes 1 ≡ low → slice_index bytes 2 ≡ high → low < 256 → high < 256 →
    (bytes ≡ slice_index bytes 0 ∷ counted (drop 3 bytes)) × (length (drop 3 bytes) < 2 ^ 16)
is_counted (a ∷ b ∷ c ∷ bytes) low high long size low_is high_is l h =
    let count : length bytes ≡ low + 256 * high = omega (arith, size) in
    let first : length bytes % 256 ≡ b = omega (arith, count, low_is, l) in
    let second : length bytes / 256 ≡ c = omega (arith, count, high_is, l, h) in
    (ap (λ n. a ∷ n ∷ c ∷ bytes) (sym first) ∙ ap (λ n. a ∷ length bytes % 256 ∷ n ∷ bytes) (sym second), omega (arith, count, l, h))
is_counted [] low high long size low_is high_is l h = absurd (omega arith)
is_counted (a ∷ []) low high long size low_is high_is l h = absurd (omega arith)
is_counted (a ∷ b ∷ []) low high long size low_is high_is l h = absurd (omega arith)
