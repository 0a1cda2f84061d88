-- A text encrypted or decrypted piece by piece.
use Rattle.std.proofs.Common.{◌≡◌, ℕ, ◌+◌, ◌-◌, ◌*◌, ◌/◌, ◌%◌, ◌<◌, ◌≤◌, List, ◌++◌, length, get_or, take, drop, refl, ap, sym, ◌∙◌, arith, inl, inr, length-append}
use Rattle.std.specs.Prelude.{bit_xor, min}
use Rattle.std.specs.List.{refill}
use Rattle.std.proofs.Math.Seq.{take-append_seam}
use Rattle.std.proofs.lemmas.Bool.{cases_lt}
use Rattle.std.proofs.lemmas.List.{get_or_append_left, get_or-append_right, get_or-take, length-take-le, take_min}
use Rattle.std.proofs.lemmas.List.FromFn.{length-map-range_with_len, get_or-map-range_with_len, take-map-range_with_len, fill_by_all}
use Rattle.aes_gcm.specs.Gcm.{stream_block, crypted, crypt}
use Rattle.aes_gcm.specs.Behind.{crypted_behind, crypt_behind}
use Rattle.aes_gcm.proofs.Twice.{length-crypt}

pub length-crypt_behind : (blocks : ℕ) (key iv text : List ℕ) → length (crypt_behind blocks key iv text) ≡ length text
length-crypt_behind blocks key iv text = length-map-range_with_len (crypted_behind blocks key iv text) 0 (length text)

-- byte i of a text, encrypted or decrypted
get_or-crypt : (key iv text : List ℕ) (i : ℕ) → i < length text → get_or (crypt key iv text) i 0 ≡ crypted key iv text i
get_or-crypt key iv text i lt = get_or-map-range_with_len (crypted key iv text) 0 (length text) i i 0 lt (omega arith)

get_or-crypt_behind : (blocks : ℕ) (key iv text : List ℕ) (i : ℕ) → i < length text → get_or (crypt_behind blocks key iv text) i 0 ≡ crypted_behind blocks key iv text i
get_or-crypt_behind blocks key iv text i lt = get_or-map-range_with_len (crypted_behind blocks key iv text) 0 (length text) i i 0 lt (omega arith)

-- behind no block it is the text itself
pub crypt_behind-none : (key iv text : List ℕ) → crypt_behind 0 key iv text ≡ crypt key iv text
crypt_behind-none key iv text =
    fill_by_all (crypted key iv text) (crypt_behind 0 key iv text) (length text) 0 (length-crypt_behind 0 key iv text)
    (λ k lt. get_or-crypt_behind 0 key iv text k lt
    ∙ ap (λ (t : ℕ). bit_xor (get_or text k 0) (get_or (stream_block key iv t) (k % 16) 0)) (let e : 0 + k / 16 + 2 ≡ k / 16 + 2 = omega arith in e))

-- whole blocks, and what stands behind them
pub crypt-append : (blocks : ℕ) (key iv before text : List ℕ) → length before ≡ 16 * blocks → crypt key iv (before ++ text) ≡ crypt key iv before ++ crypt_behind blocks key iv text
crypt-append blocks key iv before text e = sym
    (fill_by_all (crypted key iv (before ++ text)) (crypt key iv before ++ crypt_behind blocks key iv text) (length (before ++ text)) 0
    (omega (arith, length-append (crypt key iv before) (crypt_behind blocks key iv text), length-append before text, length-crypt key iv before, length-crypt_behind blocks key iv text))
    (λ k lt. elim (cases_lt k (length before)) [
      | inl less ↦ get_or_append_left (crypt key iv before) (crypt_behind blocks key iv text) 0 k (omega (arith, length-crypt key iv before))
          ∙ get_or-crypt key iv before k less
          ∙ ap (λ (t : ℕ). bit_xor t (get_or (stream_block key iv (k / 16 + 2)) (k % 16) 0)) (sym (get_or_append_left before text 0 k less))
      | inr more ↦
          let i = k - length before in
          let less : i < length text = omega (arith, length-append before text) in
          let counter : blocks + i / 16 + 2 ≡ k / 16 + 2 = omega arith in
          let place : i % 16 ≡ k % 16 = omega arith in
          get_or-append_right (crypt key iv before) (crypt_behind blocks key iv text) (length before) k 0 (length-crypt key iv before) more
          ∙ get_or-crypt_behind blocks key iv text i less
          ∙ ap (λ (t : ℕ). bit_xor (get_or text i 0) (get_or (stream_block key iv t) (i % 16) 0)) counter
          ∙ ap (λ (t : ℕ). bit_xor (get_or text i 0) (get_or (stream_block key iv (k / 16 + 2)) t 0)) place
          ∙ ap (λ (t : ℕ). bit_xor t (get_or (stream_block key iv (k / 16 + 2)) (k % 16) 0)) (sym (get_or-append_right before text (length before) k 0 refl more))
    ]))

-- the first bytes of a text
pub crypt-take : (key iv text : List ℕ) (n : ℕ) → n ≤ length text → crypt key iv (take n text) ≡ take n (crypt key iv text)
crypt-take key iv text n h =
    let long : length (take n text) ≡ n = length-take-le n text h in
    fill_by_all (crypted key iv text) (crypt key iv (take n text)) n 0 (length-crypt key iv (take n text) ∙ long)
    (λ k lt. get_or-crypt key iv (take n text) k (omega arith)
    ∙ ap (λ (t : ℕ). bit_xor t (get_or (stream_block key iv (k / 16 + 2)) (k % 16) 0)) (get_or-take n text k 0 lt))
    ∙ sym (take-map-range_with_len (crypted key iv text) 0 (length text) n h)

pub crypt_behind-take : (blocks : ℕ) (key iv text : List ℕ) (n : ℕ) → n ≤ length text → crypt_behind blocks key iv (take n text) ≡ take n (crypt_behind blocks key iv text)
crypt_behind-take blocks key iv text n h =
    let long : length (take n text) ≡ n = length-take-le n text h in
    fill_by_all (crypted_behind blocks key iv text) (crypt_behind blocks key iv (take n text)) n 0 (length-crypt_behind blocks key iv (take n text) ∙ long)
    (λ k lt. get_or-crypt_behind blocks key iv (take n text) k (omega arith)
    ∙ ap (λ (t : ℕ). bit_xor t (get_or (stream_block key iv (blocks + k / 16 + 2)) (k % 16) 0)) (get_or-take n text k 0 lt))
    ∙ sym (take-map-range_with_len (crypted_behind blocks key iv text) 0 (length text) n h)

-- the first bytes of a text, or all where there are fewer
pub crypt-first : (n : ℕ) (key iv text : List ℕ) → crypt key iv (take n text) ≡ take n (crypt key iv text)
crypt-first n key iv text =
    let o = crypt key iv text in
    let same : min n (length text) ≡ min n (length o) = ap (min n) (sym (length-crypt key iv text)) in
    ap (crypt key iv) (sym (take_min n text))
    ∙ crypt-take key iv text (min n (length text)) (omega arith)
    ∙ ap (λ (m : ℕ). take m o) same
    ∙ take_min n o

-- as many bytes as there were replace them
pub refill-all : (n : ℕ) (xs ws : List ℕ) → n ≡ length ws → refill n xs ws ≡ ws
refill-all n xs ws e = ap (λ k. take k (ws ++ drop (length ws) xs)) e ∙ take-append_seam ws (drop (length ws) xs)

-- and encrypted or decrypted in a buffer of their own
pub first_crypted : (n : ℕ) (key iv text b lent left : List ℕ) → b ≡ take n text → lent ≡ b → left ≡ crypt key iv lent
    → refill (length b) b left ≡ take n (crypt key iv text)
first_crypted n key iv text b lent left e same f =
    let g : left ≡ crypt key iv b = f ∙ ap (crypt key iv) same in
    refill-all (length b) b left (sym (ap length g ∙ length-crypt key iv b))
    ∙ g ∙ ap (crypt key iv) e ∙ crypt-first n key iv text
