-- Round keys by slices.
use Rattle.std.proofs.Common.{◌≡◌, ℕ, zero, suc, ◌+◌, ◌%◌, ◌<◌, List, [], ◌∷◌, ◌++◌, length, get_or, ap, sym, ◌∙◌, arith, inl, inr, refl, Bool}
use Rattle.std.specs.Prelude.{if◌then◌else◌}
use Rattle.std.proofs.lemmas.Bool.{cases_lt, eq-eqb, ne_eqb}
use Rattle.aes.specs.Cipher.{round_key, round_keys, round_count}
use Rattle.aes.specs.Slices.{block_at}
use Rattle.aes.specs.SlicedKeys.{IsSlicedSchedule, turns}
use Rattle.aes.specs.declared.slices.Slices.{Slices}

before : (keys : List Slices) (k : Slices) (m : ℕ) (none : Slices) → m < length keys → get_or (keys ++ k ∷ []) m none ≡ get_or keys m none
before [] k m none lt = absurd (omega arith)
before (x ∷ xs) k zero none lt = refl
before (x ∷ xs) k (suc m) none lt = before xs k m none (omega arith)

here : (keys : List Slices) (k : Slices) (none : Slices) → get_or (keys ++ k ∷ []) (length keys) none ≡ k
here [] k none = refl
here (x ∷ xs) k none = here xs k none

pub sliced_keys-more : (w : List ℕ) (keys more : List Slices) (k : Slices) (n : ℕ) → more ≡ keys ++ k ∷ [] → length keys ≡ n →
    ((m b : ℕ) (none : Slices) → m < n → b < 4 → block_at (m % 4) (get_or keys m none) b ≡ round_key w m) →
    ((b : ℕ) → b < 4 → block_at (n % 4) k b ≡ round_key w n) →
    (m b : ℕ) (none : Slices) → m < n + 1 → b < 4 → block_at (m % 4) (get_or more m none) b ≡ round_key w m
sliced_keys-more w keys more k n e long made one m b none lt hb =
    ap (λ (l : List Slices). block_at (m % 4) (get_or l m none) b) e
    ∙ elim (cases_lt m n) [
      | inl h ↦ (ap (λ (s : Slices). block_at (m % 4) s b) (before keys k m none (omega arith)) ∙ made m b none h hb)
      | inr h ↦ (
          let at : length keys ≡ m = omega arith in
          let same : n ≡ m = omega arith in
          ap (λ (s : Slices). block_at (m % 4) s b) (ap (λ (j : ℕ). get_or (keys ++ k ∷ []) j none) (sym at) ∙ here keys k none)
          ∙ ap (λ (j : ℕ). block_at (j % 4) k b) (sym same) ∙ one b hb ∙ ap (round_key w) same)
    ]

pub sliced_keys-last : (key w : List ℕ) (keys more : List Slices) (k : Slices) (n : ℕ) → more ≡ keys ++ k ∷ [] → length keys ≡ n → n ≡ round_count key → w ≡ round_keys key →
    ((m b : ℕ) (none : Slices) → m < n → b < 4 → block_at (m % 4) (get_or keys m none) b ≡ round_key w m) →
    ((b : ℕ) → b < 4 → block_at 0 k b ≡ round_key w n) →
    IsSlicedSchedule more key
sliced_keys-last key w keys more k n e long count is made one m b none lt hb =
    ap (λ (l : List Slices). block_at (turns (round_count key) m) (get_or l m none) b) e
    ∙ elim (cases_lt m n) [
      | inl h ↦ (
          let other : m ≡ round_count key → ⊥ = λ f. omega arith in
          ap (λ (t : Bool). block_at (if t then 0 else m % 4) (get_or (keys ++ k ∷ []) m none) b) (ne_eqb m (round_count key) other)
          ∙ ap (λ (s : Slices). block_at (m % 4) s b) (before keys k m none (omega arith)) ∙ made m b none h hb)
      | inr h ↦ (
          let at : length keys ≡ m = omega arith in
          let same : n ≡ m = omega arith in
          let last : m ≡ round_count key = omega arith in
          ap (λ (t : Bool). block_at (if t then 0 else m % 4) (get_or (keys ++ k ∷ []) m none) b) (eq-eqb m (round_count key) last)
          ∙ ap (λ (s : Slices). block_at 0 s b) (ap (λ (j : ℕ). get_or (keys ++ k ∷ []) j none) (sym at) ∙ here keys k none)
          ∙ one b hb ∙ ap (round_key w) same)
    ]
    ∙ ap (λ (t : List ℕ). round_key t m) is

-- the key of a round, of a copy of the keys
pub sliced_key_at : (shown keys : List Slices) (key value : List ℕ) (t n b : ℕ) (none : Slices) → shown ≡ keys → key ≡ value → IsSlicedSchedule keys key → n < round_count key + 1 → b < 4 → turns (round_count key) n ≡ t →
    block_at t (get_or shown n none) b ≡ round_key (round_keys value) n
sliced_key_at shown keys key value t n b none s v is lt hb e =
    ap (λ (l : List Slices). block_at t (get_or l n none) b) s
    ∙ ap (λ (t : ℕ). block_at t (get_or keys n none) b) (sym e)
    ∙ is n b none lt hb
    ∙ ap (λ (k : List ℕ). round_key (round_keys k) n) v

pub turns_last : (nr n : ℕ) → n ≡ nr → turns nr n ≡ 0
turns_last nr n e = ap (λ (t : Bool). if t then 0 else n % 4) (eq-eqb n nr e)

pub turns_before : (nr n t : ℕ) → n < nr → n % 4 ≡ t → turns nr n ≡ t
turns_before nr n t lt e =
    let other : n ≡ nr → ⊥ = λ f. omega arith in
    ap (λ (t : Bool). if t then 0 else n % 4) (ne_eqb n nr other) ∙ e
