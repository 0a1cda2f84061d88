-- Rounds on slices.
use Rattle.std.proofs.Common.{◌≡◌, ℕ, ◌+◌, ◌*◌, ◌%◌, ◌<◌, List, get_or, length, refl, ap, sym, ◌∙◌, arith}
use Rattle.std.specs.Prelude.{map, bit_xor}
use Rattle.std.specs.List.{range_with_len}
use Rattle.std.proofs.lemmas.List.FromFn.{get_or-map-range_with_len, fill_by_all}
use Rattle.aes.specs.ByteField.{sbox_of}
use Rattle.aes.specs.Cipher.{sub_bytes, shift_rows, mix_columns, add_round_key}
use Rattle.aes.specs.Slices.{byte_at, place, block_at, shifted_place}
use Rattle.aes.specs.SlicedKeys.{shifted_back}
use Rattle.aes.specs.declared.slices.Slices.{Slices}
use Rattle.aes.proofs.Mixes.{same_blocks}
use Rattle.aes.proofs.Packs.{below_four}

pub added_blocks : (k : ℕ) (r s t : Slices) → ((p : ℕ) → byte_at r p ≡ bit_xor (byte_at s p) (byte_at t p)) → (b : ℕ) → block_at k r b ≡ add_round_key (block_at k s b) (block_at k t b)
added_blocks k r s t h b = same_blocks (λ (i : ℕ). byte_at r (place k b i)) (λ (i : ℕ). bit_xor (get_or (block_at k s b) i 0) (get_or (block_at k t b) i 0)) λ i lt.
    h (place k b i)
    ∙ ap (λ (x : ℕ). bit_xor x (byte_at t (place k b i))) (sym (get_or-map-range_with_len (λ (i : ℕ). byte_at s (place k b i)) 0 16 i i 0 lt (omega arith)))
    ∙ ap (bit_xor (get_or (block_at k s b) i 0)) (sym (get_or-map-range_with_len (λ (i : ℕ). byte_at t (place k b i)) 0 16 i i 0 lt (omega arith)))

pub substituted_blocks : (k : ℕ) (r s : Slices) → ((p : ℕ) → p < 64 → byte_at r p ≡ sbox_of (byte_at s p)) → (b : ℕ) → b < 4 → block_at k r b ≡ sub_bytes (block_at k s b)
substituted_blocks k r s h b hb = same_blocks (λ (i : ℕ). byte_at r (place k b i)) (λ (i : ℕ). sbox_of (byte_at s (place k b i))) λ i lt. h (place k b i) (omega arith)

shift_0 : (s : Slices) (b : ℕ) → block_at 1 s b ≡ shift_rows (block_at 0 s b)
shift_0 s b = refl

shift_1 : (s : Slices) (b : ℕ) → block_at 2 s b ≡ shift_rows (block_at 1 s b)
shift_1 s b = refl

shift_2 : (s : Slices) (b : ℕ) → block_at 3 s b ≡ shift_rows (block_at 2 s b)
shift_2 s b = refl

shift_3 : (s : Slices) (b : ℕ) → block_at 0 s b ≡ shift_rows (block_at 3 s b)
shift_3 s b = refl

module _ (k l : ℕ) (shift : (s : Slices) (b : ℕ) → block_at l s b ≡ shift_rows (block_at k s b)) (s sub mix key r : Slices)
    (hs : (p : ℕ) → p < 64 → byte_at sub p ≡ sbox_of (byte_at s p))
    (hm : (b : ℕ) → b < 4 → block_at l mix b ≡ mix_columns (block_at l sub b))
    (hr : (p : ℕ) → byte_at r p ≡ bit_xor (byte_at mix p) (byte_at key p)) where
  round_is : (b : ℕ) → b < 4 → block_at l r b ≡ add_round_key (mix_columns (shift_rows (sub_bytes (block_at k s b)))) (block_at l key b)
  round_is b h =
      added_blocks l r mix key hr b
      ∙ ap (λ (t : List ℕ). add_round_key t (block_at l key b))
      (hm b h ∙ ap mix_columns (shift sub b ∙ ap shift_rows (substituted_blocks k sub s hs b h)))

pub first_is : (s sub mix key r : Slices) → ((p : ℕ) → p < 64 → byte_at sub p ≡ sbox_of (byte_at s p)) → ((b : ℕ) → b < 4 → block_at 1 mix b ≡ mix_columns (block_at 1 sub b)) →
    ((p : ℕ) → byte_at r p ≡ bit_xor (byte_at mix p) (byte_at key p)) → (b : ℕ) → b < 4 → block_at 1 r b ≡ add_round_key (mix_columns (shift_rows (sub_bytes (block_at 0 s b)))) (block_at 1 key b)
first_is = round_is 0 1 shift_0

pub second_is : (s sub mix key r : Slices) → ((p : ℕ) → p < 64 → byte_at sub p ≡ sbox_of (byte_at s p)) → ((b : ℕ) → b < 4 → block_at 2 mix b ≡ mix_columns (block_at 2 sub b)) →
    ((p : ℕ) → byte_at r p ≡ bit_xor (byte_at mix p) (byte_at key p)) → (b : ℕ) → b < 4 → block_at 2 r b ≡ add_round_key (mix_columns (shift_rows (sub_bytes (block_at 1 s b)))) (block_at 2 key b)
second_is = round_is 1 2 shift_1

pub third_is : (s sub mix key r : Slices) → ((p : ℕ) → p < 64 → byte_at sub p ≡ sbox_of (byte_at s p)) → ((b : ℕ) → b < 4 → block_at 3 mix b ≡ mix_columns (block_at 3 sub b)) →
    ((p : ℕ) → byte_at r p ≡ bit_xor (byte_at mix p) (byte_at key p)) → (b : ℕ) → b < 4 → block_at 3 r b ≡ add_round_key (mix_columns (shift_rows (sub_bytes (block_at 2 s b)))) (block_at 3 key b)
third_is = round_is 2 3 shift_2

pub fourth_is : (s sub mix key r : Slices) → ((p : ℕ) → p < 64 → byte_at sub p ≡ sbox_of (byte_at s p)) → ((b : ℕ) → b < 4 → block_at 0 mix b ≡ mix_columns (block_at 0 sub b)) →
    ((p : ℕ) → byte_at r p ≡ bit_xor (byte_at mix p) (byte_at key p)) → (b : ℕ) → b < 4 → block_at 0 r b ≡ add_round_key (mix_columns (shift_rows (sub_bytes (block_at 3 s b)))) (block_at 0 key b)
fourth_is = round_is 3 0 shift_3

shifted_places : (b : ℕ) → b < 4 → map (λ (i : ℕ). shifted_place (place 0 b i)) (range_with_len 0 16) ≡ map (place 2 b) (range_with_len 0 16)
shifted_places = below_four (λ (b : ℕ). map (λ (i : ℕ). shifted_place (place 0 b i)) (range_with_len 0 16) ≡ map (place 2 b) (range_with_len 0 16)) refl refl refl refl

pub last_is : (s sub moved key r : Slices) → ((p : ℕ) → p < 64 → byte_at sub p ≡ sbox_of (byte_at s p)) → ((p : ℕ) → p < 64 → byte_at moved p ≡ byte_at sub (shifted_place p)) →
    ((p : ℕ) → byte_at r p ≡ bit_xor (byte_at moved p) (byte_at key p)) → (b : ℕ) → b < 4 → block_at 0 r b ≡ add_round_key (shift_rows (sub_bytes (block_at 1 s b))) (block_at 0 key b)
last_is s sub moved key r hs hm hr b h =
    added_blocks 0 r moved key hr b
    ∙ ap (λ (t : List ℕ). add_round_key t (block_at 0 key b))
    (same_blocks (λ (i : ℕ). byte_at moved (place 0 b i)) (λ (i : ℕ). byte_at sub (shifted_place (place 0 b i))) (λ i lt. hm (place 0 b i) (omega arith))
    ∙ ap (map (byte_at sub)) (shifted_places b h)
    ∙ shift_1 sub b
    ∙ ap shift_rows (substituted_blocks 1 sub s hs b h))

-- a round key by slices
pub key_is : (k : ℕ) → k < 4 → (s : Slices) (b : ℕ) (key : List ℕ) → length key ≡ 16 → block_at 0 s b ≡ shifted_back k key → block_at k s b ≡ key
key_is k h s b key long e =
    below_four (λ (k : ℕ). block_at k s b ≡ map (λ (i : ℕ). get_or (block_at 0 s b) ((i + 4 * k * (i % 4)) % 16) 0) (range_with_len 0 16)) refl refl refl refl k h
    ∙ ap (λ (t : List ℕ). map (λ (i : ℕ). get_or t ((i + 4 * k * (i % 4)) % 16) 0) (range_with_len 0 16)) e
    ∙ below_four (λ (k : ℕ). map (λ (i : ℕ). get_or (shifted_back k key) ((i + 4 * k * (i % 4)) % 16) 0) (range_with_len 0 16) ≡ map (λ (i : ℕ). get_or key i 0) (range_with_len 0 16)) refl refl refl refl k h
    ∙ sym (fill_by_all (λ (i : ℕ). get_or key i 0) key 16 0 long (λ i _. refl))
