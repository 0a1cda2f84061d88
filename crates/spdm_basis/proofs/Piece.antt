-- A piece copied to the front of a buffer.
use Rattle.std.proofs.Common.{◌≡◌, ℕ, ◌+◌, ◌≤◌, ◌++◌, List, length, take, drop, arith, sym, ap, ◌∙◌, take-append-drop, Some, Option, append_assoc, refl}
use Rattle.spdm_basis.specs.Stream.{Gives, GivesSome}
use Rattle.std.proofs.Math.Seq.{take-append_seam}
use Rattle.std.proofs.lemmas.Grind.{common_steps}

pub piece_given : (bs piece into : List ℕ) (at n : ℕ) → piece ≡ take n (drop at bs) → n ≤ length (drop at bs) →
    drop at bs ≡ take n (piece ++ drop n into) ++ drop (at + n) bs
piece_given bs piece into at n e h =
    let len : length piece ≡ n = grind (arith, common_steps) in
    let front : take n (piece ++ drop n into) ≡ piece =
    ap (λ k. take k (piece ++ drop n into)) (sym len) ∙ take-append_seam piece (drop n into) in
    let back : drop n (drop at bs) ≡ drop (at + n) bs = grind (arith, common_steps) in
    let whole : take n (drop at bs) ++ drop n (drop at bs) ≡ drop at bs = take-append-drop n (drop at bs) in
    cc

-- a read from memory that copied n bytes gives them
pub read_gives : (seen bs piece into : List ℕ) (at n : ℕ) → seen ≡ drop at bs → piece ≡ take n (drop at bs) → n ≤ length (drop at bs) →
    Gives (Some seen) (take n (piece ++ drop n into)) (Some (drop (at + n) bs))
read_gives seen bs piece into at n s e h = λ left t.
    let given = piece_given bs piece into at n e h in
    (drop (at + n) bs, refl, cc)

-- what was given in two steps was given
pub gives_both : (old mid new : Option (List ℕ)) (bs more : List ℕ) → Gives old bs mid → Gives mid more new → GivesSome old new
gives_both old mid new bs more first then = (
  bs ++ more,
  λ left e.
      let a = first left e in
      let b = then a.0 a.1 in
      (b.0, b.1, a.2 ∙ ap (λ (rest : List ℕ). bs ++ rest) b.2 ∙ sym (append_assoc bs more b.0)),
)
