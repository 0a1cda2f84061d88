use Rattle.std.proofs.Common.{◌≡◌, ◌≢◌, ◌<◌, ◌≤◌, ◌+◌, ◌-◌, ◌*◌, ◌%◌, ◌^◌, ◌∙◌, ℕ, length, get_or, set, arith, ap, sym, inl, inr, pow_mono, get_or-set_other, get_or-set_same, add-one}
use Rattle.std.specs.Prelude.{bit_xor}
use Rattle.std.proofs.Math.Nat.{pow-suc}
use Rattle.std.proofs.lemmas.Bool.{cases_eq, cases_lt}
use Rattle.std.proofs.lemmas.Grind.{common_steps}
use Rattle.ghash.specs.Field.{product}
use Rattle.ghash.proofs.Parts.{entry-sum}
use Rattle.ghash.proofs.table.extend.Goals as goal

-- a place of the table
place : (i w : ℕ) → i < 6 → w < 2 ^ i → 2 ^ i + w < 64
place i w lt less = let le : i ≤ 5 = omega arith in omega (arith, pow_mono le)

pub bounds-table-w : goal.bounds-table-w
bounds-table-w c =
    let i = c.args.i in
    let w = c.loop-w.w in
    let e = c.loop-w.invariant.count in
    let lt : w < 2 ^ i = omega (arith, e) in
    omega (arith, place i w c.requires.place lt)

pub bounds-table-count : goal.bounds-table-count
bounds-table-count c =
    let i = c.args.i in
    let w = c.loop-w.w in
    let e = c.loop-w.invariant.count in
    let lt : w < 2 ^ i = omega (arith, e) in
    omega (arith, e, place i w c.requires.place lt)

pub loop-w-preserved : goal.loop-w-preserved
loop-w-preserved c =
    let i = c.args.i in
    let w = c.loop-w.w in
    let b = c.args.b in
    let table = c.loop-w.table in
    let at = 1 * 2 ^ i % 2 ^ 64 + w in
    let v = bit_xor (get_or table w 0) c.args.entry in
    let e = c.loop-w.invariant.count in
    let lt : w < 2 ^ i = omega (arith, e) in
    let room : at < length table = omega (arith, e, c.loop-w.invariant.long, place i w c.requires.place lt) in
    let here : v ≡ product ((2 ^ i + w) * 2 ^ 122) b =
    ap (λ t. bit_xor t c.args.entry) (c.loop-w.invariant.below w lt)
    ∙ ap (bit_xor (product (w * 2 ^ 122) b)) c.requires.entry
    ∙ entry-sum i w b lt in
    record {
      long = grind (arith, common_steps);
      count = e;
      below = λ k less. let ne : k ≢ at = omega (arith, e) in rw get_or-set_other (c.loop-w.invariant.below k less);
      done = λ k less. elim (cases_eq k w) [
        | inl f ↦
            let same : 2 ^ i + k ≡ at = omega (arith, e, f) in
            ap (λ t. get_or (set table at v) t 0) same ∙ get_or-set_same table at v 0 room ∙ here ∙ ap (λ t. product ((2 ^ i + t) * 2 ^ 122) b) (sym f)
        | inr f ↦
            let ne : 2 ^ i + k ≢ at = omega (arith, e) in
            rw get_or-set_other (c.loop-w.invariant.done k (omega arith))
      ];
    }

pub returns : goal.returns
returns c = λ w lt.
    let i = c.args.i in
    let e = c.loop-w.invariant.count in
    let double : 2 ^ (i + 1) ≡ 2 ^ i * 2 = rw (add-one, pow-suc) (omega arith) in
    elim (cases_lt w (2 ^ i)) [
      | inl less ↦ c.loop-w.invariant.below w less
      | inr more ↦
          let k = w - 2 ^ i in
          let same : w ≡ 2 ^ i + k = omega arith in
          let less : k < c.loop-w.w = omega (arith, e, double) in
          ap (λ t. get_or c.loop-w.table t 0) same
          ∙ c.loop-w.invariant.done k less
          ∙ ap (λ t. product (t * 2 ^ 122) c.args.b) (sym same)
    ]
