-- The chunks of a message, one after another, break no rule of collecting, and the last one completes it.
use Rattle.std.proofs.Common.{◌≡◌, ◌∙◌, ◌+◌, ◌-◌, ◌*◌, ◌<◌, ◌≤◌, ◌==◌, ℕ, zero, suc, Bool, true, false, List, [], ◌∷◌, length, Option, Some, None, refl, sym, ap, arith, append-nil}
use Rattle.std.specs.Prelude.{IfSome, if◌then◌else◌, ◌^◌}
use Rattle.std.proofs.lemmas.Bool.{ne_eqb}
use Rattle.std.proofs.lemmas.Nat.{mul-le}
use Rattle.chunking.proofs.ChunkSteps as step
use Rattle.chunking.proofs.CutAndCollected.{collected-nth}
use Rattle.chunking.specs.Collecting.{answer_from, broken_rule, collected, joined_with, under_way}
use Rattle.chunking.specs.Collecting.Collection.{Whole, More}
use Rattle.chunking.specs.Cutting.{IsCollectable, chunk_count, chunks_before, nth_chunk}
use Rattle.spdm_grammar.specs.Fields.{FitsChunk, IsSoundChunk}
use Rattle.spdm_grammar.specs.Message.{ChunkMessage}
use Rattle.spdm_grammar.specs.declared.ChunkFault.{ChunkFault}
use Rattle.chunking.proofs.ChunkLengths.{told_first}

no_rule : (o : Option ChunkFault) (c : ChunkMessage) (x whole : List ℕ) (b : Bool) → answer_from o c x ≡ (if b then Whole whole else More) → o ≡ None
no_rule None c x whole b e = refl
no_rule (Some fault) c x whole true e = absurd (cc)
no_rule (Some fault) c x whole false e = absurd (cc)

same_whole : (last : Bool) (x whole : List ℕ) → (if last then Whole x else More) ≡ (if last then Whole whole else More) → last ≡ true → x ≡ whole
same_whole true x whole e is = cc
same_whole false x whole e is = absurd (cc)

large_fits : (b : Bool) (n : ℕ) → n < 2 ^ 32 → IfSome (if b then Some n else None) (λ m. m < 2 ^ 32)
large_fits true n small = small
large_fits false n small = tt

module _ (max transfer handle : ℕ) (message : List ℕ) (sound : IsCollectable max transfer message) where
  abbrev count : ℕ
  count = chunk_count transfer message

  abbrev nth : ℕ → ChunkMessage
  nth k = nth_chunk transfer handle message k

  abbrev before : ℕ → List ChunkMessage
  before k = chunks_before transfer handle message k

  -- Those before one that there is are in progress.
  under : (k : ℕ) → k < count → under_way (before k) ≡ before k
  under zero within = refl
  under (suc k) within =
      let n = nth k in
      ap (λ (b : Bool). if b then [] else (if k == 0 then n ∷ [] else n ∷ under_way (before k))) (ne_eqb (k + 1) count (λ e. omega (arith, within, e)))
      ∙ ap (λ (l : List ChunkMessage). if k == 0 then n ∷ [] else n ∷ l) (under k (omega (arith, within)))
      ∙ first_alone k
    where
      first_alone : (k : ℕ) → (if k == 0 then nth k ∷ [] else nth k ∷ before k) ≡ nth k ∷ before k
      first_alone zero = refl
      first_alone (suc k) = ap (λ (b : Bool). if b then nth (suc k) ∷ [] else nth (suc k) ∷ before (suc k)) (ne_eqb (suc k) 0 (λ e. omega (arith, e)))

  collects : (k : ℕ) → k < count → answer_from (broken_rule max (before k) (nth k)) (nth k) (joined_with (before k) (nth k)) ≡ (if k + 1 == count then Whole message else More)
  collects k within =
      ap (λ (l : List ChunkMessage). answer_from (broken_rule max l (nth k)) (nth k) (joined_with l (nth k))) (sym (under k within))
      ∙ ap (λ (l : List ChunkMessage). collected max l (nth k)) (sym (append-nil (before k)))
      ∙ collected-nth max transfer handle message sound [] k within

  pub breaks_none : (k : ℕ) → k < count → broken_rule max (before k) (nth k) ≡ None
  breaks_none k within = no_rule (broken_rule max (before k) (nth k)) (nth k) (joined_with (before k) (nth k)) message (k + 1 == count) (collects k within)

  pub last_whole : (k : ℕ) → k < count → (k + 1 == count) ≡ true → joined_with (before k) (nth k) ≡ message
  last_whole k within last =
      same_whole (k + 1 == count) (joined_with (before k) (nth k)) message
      (ap (λ (o : Option ChunkFault). answer_from o (nth k) (joined_with (before k) (nth k))) (sym (breaks_none k within)) ∙ collects k within) last

  -- Each of them is encoded.
  low_number : (k : ℕ) → k < count → k < 2 ^ 16
  low_number k within =
      let low = sound.low in
      let short = sound.short in
      let reached = step.reaches transfer handle message (omega (arith, low)) k within in
      let ones : k * 1 ≤ k * (transfer - 12) = mul-le k 1 k (transfer - 12) (omega arith) (omega (arith, low)) in
      omega (arith, reached, ones, short)

  pub fits_chunk : (k : ℕ) → handle < 256 → k < count → FitsChunk (nth k)
  fits_chunk k small within = (let short = sound.short in record { handle = small; number = low_number k within; large = large_fits (k == 0) (length message) (omega (arith, short)) })

  pub sound_chunk : (k : ℕ) → IsSoundChunk (nth k)
  sound_chunk k =
      let low = sound.low in
      let short = sound.short in
      let size = step.size_is transfer handle message (omega (arith, low)) k in record {
        first = told_first (k == 0) (length message);
        size = omega (arith, size, short);
      }
