-- A text has one inner message.
use Rattle.std.proofs.Common.{◌≡◌, ◌<◌, ◌+◌, ◌++◌, ℕ, List, sym, ap, ◌∙◌, drop, take, length, length-append, arith}
use Rattle.std.proofs.Math.Seq.{take-append_seam}
use Rattle.byteorder.specs.Endian.{little_number}
use Rattle.secured_record.proofs.Records.{inner_length}
use Rattle.secured_record.specs.Format.{plain_text}

-- It is shown by the text.
shown : (text a p : List ℕ) → length text < 65536 → text ≡ plain_text a p → take (little_number 2 text) (drop 2 text) ≡ a
shown text a p brief is =
    let long : length text ≡ length (plain_text a p) = ap length is in
    let more : length (a ++ p) ≡ length a + length p = length-append a p in
    let all : length (plain_text a p) ≡ 2 + length (a ++ p) = omega arith in
    let short : length a < 65536 = omega (arith, long, more, all, brief) in
    ap (λ (l : List ℕ). take (little_number 2 l) (drop 2 l)) is
    ∙ ap (λ (n : ℕ). take n (a ++ p)) (inner_length (length a) (a ++ p) short) ∙ take-append_seam a p

pub one_inner : (text a b p q : List ℕ) → length text < 65536 → text ≡ plain_text a p → text ≡ plain_text b q → a ≡ b
one_inner text a b p q brief one other = sym (shown text a p brief one) ∙ shown text b q brief other
