use Rattle.std.proofs.Common.{◌≡◌, bytes_eq, ℕ, List, length, get_or, arith, below_more, sym, ap, ◌∙◌, refl}
use Rattle.std.specs.Prelude.{bit_xor, nat_eq}
use Rattle.std.proofs.lemmas.Bool.Decides.{same_from_decides, Decides-like, Decides-eqb}
use Rattle.std.proofs.lemmas.List.FromFn.{fill_by_all}
use Rattle.std.proofs.lemmas.Slice.Eq.{bytes_eq-Decides}
use Rattle.byte_compare.proofs.Zeros.{or_none, or_of_none, xor_none, xor_of_same}
use Rattle.byte_compare.proofs.same_bytes.Goals as goal

pub loop-i-preserved : goal.loop-i-preserved
loop-i-preserved c =
    let a = c.args.a.now in
    let b = c.args.b.now in
    let i = c.loop-i.i in
    let d = c.loop-i.differing in
    let x = bit_xor (get_or a i 0) (get_or b i 0) in
    record {
      same = λ e. let both = or_none d x e in below_more (λ (k : ℕ). get_or a k 0 ≡ get_or b k 0) i (c.loop-i.invariant.same both.0) (xor_none (get_or a i 0) (get_or b i 0) both.1);
      none = λ h. or_of_none d x (c.loop-i.invariant.none (λ k lt. h k (omega arith))) (xor_of_same (get_or a i 0) (get_or b i 0) (h i (omega arith)));
    }

pub returns : goal.returns
returns c =
    let a = c.args.a.now in
    let b = c.args.b.now in
    let d = c.loop-i.differing in
    let at = λ (k : ℕ). get_or b k 0 in
    let forth : d ≡ 0 → a ≡ b =
    λ e. fill_by_all at a (length b) 0 c.if-a-b.false (λ k lt. c.loop-i.invariant.same e k (omega arith))
    ∙ sym (fill_by_all at b (length b) 0 refl (λ k lt. refl)) in
    let back : a ≡ b → d ≡ 0 = λ e. c.loop-i.invariant.none (λ k lt. ap (λ (t : List ℕ). get_or t k 0) e) in
    same_from_decides (nat_eq d 0) (bytes_eq a b) (Decides-like (nat_eq d 0) forth back (Decides-eqb d 0)) (bytes_eq-Decides a b)
