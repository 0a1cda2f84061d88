-- Beginnings of bytes, and the chunks of bytes that begin alike.
use Rattle.std.proofs.Common.{◌≡◌, ◌+◌, ◌-◌, ◌≤◌, ◌==◌, ◌++◌, ℕ, zero, suc, List, [], ◌∷◌, refl, sym, ap, ◌∙◌, drop, take, length, arith, cond, Some, None}
use Rattle.std.specs.Prelude.{slice_range}
use Rattle.std.specs.Int.{div_ceil}
use Rattle.std.proofs.lemmas.List.{drop-take}
use Rattle.chunking.specs.Cutting.{chunk_end, chunk_start, nth_chunk, unit_of}
use Rattle.spdm_grammar.specs.Message.{ChunkMessage}

abbrev head_of : List ℕ → ℕ
head_of [] = 0
head_of (x ∷ l) = x

abbrev tail_of : List ℕ → List ℕ
tail_of [] = []
tail_of (x ∷ l) = l

-- Of two of one length, one that begins as the other does up to there.
pub same_begin : (n : ℕ) (v w : List ℕ) → length w ≡ length v → take (length (take n v)) w ≡ take n v → take n w ≡ take n v
same_begin zero v w size same = refl
same_begin (suc n) [] [] size same = refl
same_begin (suc n) [] (y ∷ w) size same = absurd (omega (arith, size))
same_begin (suc n) (x ∷ v) [] size same = absurd (omega (arith, size))
same_begin (suc n) (x ∷ v) (y ∷ w) size same =
    ap (λ (k : ℕ). k ∷ take n w) (ap head_of same) ∙ ap (λ (l : List ℕ). x ∷ l) (same_begin n v w (omega (arith, size)) (ap tail_of same))

-- What begins with more begins with less.
pub less_begins : (a b v : List ℕ) → take (length (a ++ b)) v ≡ a ++ b → take (length a) v ≡ a
less_begins [] b v same = refl
less_begins (x ∷ a) b [] same = absurd (let e = ap length same in omega (arith, e))
less_begins (x ∷ a) b (y ∷ v) same = ap (λ (k : ℕ). k ∷ take (length a) v) (ap head_of same) ∙ ap (λ (l : List ℕ). x ∷ l) (less_begins a b v (ap tail_of same))

range_is : (w : List ℕ) (a b : ℕ) → a ≤ b → slice_range w a b ≡ drop a (take b w)
range_is w a b less =
    let whole : a + (b - a) ≡ b = omega arith in
    sym (drop-take a (b - a) w) ∙ ap (λ (n : ℕ). drop a (take n w)) whole

-- The chunk of this number of bytes that begin alike up to its end.
pub same_chunk : (transfer handle number : ℕ) (w v : List ℕ) → length w ≡ length v → take (chunk_end transfer number) w ≡ take (chunk_end transfer number) v → nth_chunk transfer handle w number ≡ nth_chunk transfer handle v number
same_chunk transfer handle number w v size same =
    let bytes : slice_range w (chunk_start transfer number) (chunk_end transfer number) ≡ slice_range v (chunk_start transfer number) (chunk_end transfer number) =
    range_is w (chunk_start transfer number) (chunk_end transfer number) (omega arith) ∙ ap (drop (chunk_start transfer number)) same
    ∙ sym (range_is v (chunk_start transfer number) (chunk_end transfer number) (omega arith)) in
    let P : ℕ → List ℕ → ChunkMessage = λ n l. record {
      last = number + 1 == div_ceil (n + 4) (unit_of transfer);
      handle = handle;
      number = number;
      large = cond (number == 0) (Some n) None;
      chunk = l;
    } in
    ap (λ (n : ℕ). P n (slice_range w (chunk_start transfer number) (chunk_end transfer number))) size ∙ ap (P (length v)) bytes
