-- Round keys as states.
use Rattle.std.proofs.Common.{◌≡◌, ℕ, ◌+◌, ◌-◌, ◌<◌, List, [], ◌∷◌, ◌++◌, length, get_or, ap, sym, ◌∙◌, arith, zero-add, add-one}
use Rattle.std.specs.Prelude.{map}
use Rattle.std.specs.List.{range_with_len}
use Rattle.std.proofs.lemmas.List.{get_or-map, length-map, map-append}
use Rattle.std.proofs.lemmas.List.FromFn.{get_or-map-range_with_len, length-map-range_with_len, map-range_with_len_more}
use Rattle.aes.specs.Cipher.{round_key, round_keys, round_count, rounds, last_round, cipher, sub_bytes, shift_rows, mix_columns, add_round_key}
use Rattle.aes.specs.Schedule.{IsSchedule}
use Rattle.aes.specs.Words.{bytes_of}
use Rattle.aes.specs.declared.columns.Columns.{Columns}

-- one more round key
pub keys-more : (w : List ℕ) (keys : List Columns) (k : Columns) (n : ℕ) → map bytes_of keys ≡ map (round_key w) (range_with_len 0 n) → bytes_of k ≡ round_key w n →
    map bytes_of (keys ++ k ∷ []) ≡ map (round_key w) (range_with_len 0 (n + 1))
keys-more w keys k n e f =
    map-append bytes_of keys (k ∷ [])
    ∙ ap (λ (t : List (List ℕ)). t ++ bytes_of k ∷ []) e
    ∙ ap (λ (t : List ℕ). map (round_key w) (range_with_len 0 n) ++ t ∷ []) f
    ∙ sym (map-range_with_len_more (round_key w) 0 n n (zero-add n))

pub length-keys : (keys : List Columns) (key : List ℕ) → IsSchedule keys key → length keys ≡ round_count key + 1
length-keys keys key e =
    sym (length-map keys bytes_of) ∙ ap length e ∙ length-map-range_with_len (round_key (round_keys key)) 0 (round_count key + 1)

-- the key of a round, of a copy of the keys
pub key_at : (shown keys : List Columns) (key value : List ℕ) (n : ℕ) (d : Columns) → shown ≡ keys → key ≡ value → IsSchedule keys key → n < round_count key + 1 →
    bytes_of (get_or shown n d) ≡ round_key (round_keys value) n
key_at shown keys key value n d s v e lt =
    ap (λ (t : List Columns). bytes_of (get_or t n d)) s
    ∙ sym (get_or-map bytes_of keys n d [] (omega (arith, length-keys keys key e)))
    ∙ ap (λ (t : List (List ℕ)). get_or t n []) e
    ∙ get_or-map-range_with_len (round_key (round_keys key)) 0 (round_count key + 1) n n [] lt (zero-add n)
    ∙ ap (λ (t : List ℕ). round_key (round_keys t) n) v

-- one more round
pub rounds-more : (w block now key : List ℕ) (n : ℕ) → now ≡ rounds w block n → key ≡ round_key w (n + 1) →
    add_round_key (mix_columns (shift_rows (sub_bytes now))) key ≡ rounds w block (n + 1)
unfolding rounds
rounds-more w block now key n e f =
    ap (λ (t : List ℕ). add_round_key (mix_columns (shift_rows (sub_bytes t))) key) e
    ∙ ap (λ (t : List ℕ). add_round_key (mix_columns (shift_rows (sub_bytes (rounds w block n)))) t) (f ∙ ap (round_key w) (add-one n))
    ∙ ap (rounds w block) (sym (add-one n))

pub rounds-none : (w block now key : List ℕ) → now ≡ block → key ≡ round_key w 0 → add_round_key now key ≡ rounds w block 0
unfolding rounds
rounds-none w block now key e f =
    ap (λ (t : List ℕ). add_round_key t key) e ∙ ap (λ (t : List ℕ). add_round_key block t) f

-- the last round
pub cipher-last : (key block now last : List ℕ) (n nr : ℕ) → now ≡ rounds (round_keys key) block n → n ≡ nr - 1 → nr ≡ round_count key → last ≡ round_key (round_keys key) nr →
    add_round_key (shift_rows (sub_bytes now)) last ≡ cipher key block
unfolding cipher
cipher-last key block now last n nr e f g h =
    let w = round_keys key in
    ap (λ (t : List ℕ). add_round_key (shift_rows (sub_bytes t)) last) (e ∙ ap (rounds w block) f)
    ∙ ap (λ (t : List ℕ). add_round_key (shift_rows (sub_bytes (rounds w block (nr - 1)))) t) h
    ∙ ap (λ (n : ℕ). last_round w block n) g
