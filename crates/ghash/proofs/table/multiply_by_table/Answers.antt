use Rattle.std.proofs.Common.{◌≡◌, ◌<◌, ◌≤◌, ◌+◌, ◌-◌, ◌*◌, ◌/◌, ◌%◌, ◌^◌, ◌∙◌, ℕ, get_or, ap, arith, pow_mono, refl}
use Rattle.std.specs.Prelude.{bit_xor}
use Rattle.std.proofs.lemmas.Nat.{xor_lt}
use Rattle.ghash.specs.Windows.{moved, number_of}
use Rattle.ghash.proofs.Parts.{halves, halves-none, halves-more, halves-joined, halves-product, half-sum, last-sum}
use Rattle.ghash.proofs.table.multiply_by_table.Goals as goal

-- a bound that is no higher than another
within : (h i k : ℕ) → h < 2 ^ i → i ≤ k → h < 2 ^ k
within h i k lt le = omega (arith, pow_mono le)

pub loop-j-init : goal.loop-j-init
loop-j-init c =
    let x = c.args.a / 2 ^ 64 in
    let y = c.args.a % 2 ^ 64 in
    record {
      first = halves-none x y c.args.b 0 58;
      others = halves-none x y c.args.b 30 58;
      first_room = omega arith;
      others_room = omega arith;
    }

pub next-first-requires : goal.next-first-requires
next-first-requires c = within c.loop-j.first.high (58 + 6 * c.loop-j.j) 122 c.loop-j.invariant.first_room (omega arith)

pub next-others-requires : goal.next-others-requires
next-others-requires c = within c.loop-j.others.high (58 + 6 * c.loop-j.j) 122 c.loop-j.invariant.others_room (omega arith)

pub loop-j-preserved : goal.loop-j-preserved
loop-j-preserved c =
    let x = c.args.a / 2 ^ 64 in
    let y = c.args.a % 2 ^ 64 in
    let b = c.args.b in
    let j = c.loop-j.j in
    let table = c.args.table.now in
    let at : ℕ → ℕ = λ (w : ℕ). get_or table w 0 in
    let n : 58 + 6 * j + 6 ≡ 58 + 6 * (j + 1) = omega arith in
    let one : 58 - 6 * j ≡ 58 - (0 + 6 * j) = omega arith in
    let two : 58 - 6 * j - 30 ≡ 58 - (30 + 6 * j) = omega arith in
    let half = λ (z w k : ℕ) (le : k ≤ 58) (e : w ≡ z / 2 ^ (58 - k) % 64). half-sum table z b w k c.requires le e in
    let room = λ (h : ℕ) (lt : h < 2 ^ (58 + 6 * j + 6)). within h (58 + 6 * j + 6) (58 + 6 * (j + 1)) lt (omega arith) in
    let last = 58 + 6 * (j + 1) in
    record {
      first = ap (moved last) c.next-first.ensures.value
          ∙ halves-more x y b 0 j (number_of c.loop-j.first) (at c.window.result) (at c.window-in-loop-j.result) c.loop-j.invariant.first
          (half x c.window.result (0 + 6 * j) (omega arith) (c.window.ensures ∙ ap (λ t. x / 2 ^ t % 64) one))
          (half y c.window-in-loop-j.result (0 + 6 * j) (omega arith) (c.window-in-loop-j.ensures ∙ ap (λ t. y / 2 ^ t % 64) one));
      others = ap (moved last) c.next-others.ensures.value
          ∙ halves-more x y b 30 j (number_of c.loop-j.others) (at c.window-in-loop-j-2.result) (at c.window-in-loop-j-3.result) c.loop-j.invariant.others
          (half x c.window-in-loop-j-2.result (30 + 6 * j) (omega arith) (c.window-in-loop-j-2.ensures ∙ ap (λ t. x / 2 ^ t % 64) two))
          (half y c.window-in-loop-j-3.result (30 + 6 * j) (omega arith) (c.window-in-loop-j-3.ensures ∙ ap (λ t. y / 2 ^ t % 64) two));
      first_room = room c.next-first.result.high (c.next-first.ensures.room (58 + 6 * j) (omega arith) c.loop-j.invariant.first_room);
      others_room = room c.next-others.result.high (c.next-others.ensures.room (58 + 6 * j) (omega arith) c.loop-j.invariant.others_room);
    }

pub shifted-requires-2-clause-room : goal.shifted-requires-2-clause-room
shifted-requires-2-clause-room c =
    let first = c.shifted.result.high in
    let others = c.next-others-2.result.high in
    let lt : c.loop-j.first.high < 2 ^ 88 = within c.loop-j.first.high (58 + 6 * c.loop-j.j) 88 c.loop-j.invariant.first_room (omega arith) in
    let less : c.loop-j.others.high < 2 ^ 88 = within c.loop-j.others.high (58 + 6 * c.loop-j.j) 88 c.loop-j.invariant.others_room (omega arith) in
    let p : first < 2 ^ 124 = c.shifted.ensures.room 88 lt in
    let q : others < 2 ^ 124 = within others 94 124 (c.next-others-2.ensures.room 88 (omega arith) less) (omega arith) in
    rw c.plus.ensures.high (xor_lt 124 first others p q)

pub returns : goal.returns
returns c =
    let x = c.args.a / 2 ^ 64 in
    let y = c.args.a % 2 ^ 64 in
    let b = c.args.b in
    let table = c.args.table.now in
    let five : c.loop-j.j ≡ 5 = omega arith in
    let first = number_of c.loop-j.first in
    let others = number_of c.loop-j.others in
    let e : moved 88 first ≡ halves x y b 0 30 = rw five at c.loop-j.invariant.first in
    let f : moved 88 others ≡ halves x y b 30 30 = rw five at c.loop-j.invariant.others in
    let g : moved 94 (number_of c.next-others-2.result) ≡ halves x y b 30 36 =
    ap (moved 94) c.next-others-2.ensures.value
    ∙ halves-more x y b 30 5 others (get_or table (x % 16 * 4) 0) (get_or table (y % 16 * 4) 0) f
    (last-sum table x b (x % 16 * 4) c.requires refl) (last-sum table y b (y % 16 * 4) c.requires refl) in
    c.folded.ensures
    ∙ ap (moved 128) (c.shifted-2.ensures.value ∙ ap (λ t. t * 2 ^ 4) (c.plus.ensures.value ∙ ap (λ t. bit_xor t (number_of c.next-others-2.result)) c.shifted.ensures.value))
    ∙ halves-joined x y b first (number_of c.next-others-2.result) e g
    ∙ halves-product c.args.a b
