use Rattle.std.proofs.Common.{nat_eq, sym, ◌∙◌, arith}
use Rattle.script_text.proofs.Searching.{place-passed}
use Rattle.script_text.proofs.reading.places.behind_pieces.Goals as goal

pub pieces-preserved : goal.pieces-preserved
pieces-preserved c =
    let cut = c.split_at.ensures in
    let old = c.pieces.invariant in
    let none = sym c.has.ensures ∙ c.if-has.false in
    let passed = place-passed (λ b. nat_eq b c.args.sought) c.pieces.rest.now c.split_at.result.0.now c.split_at.result.1.now cut.by_index.0 none in
    record {
      place = omega (arith, passed, cut.front_len, cut.back_len, old.place);
      within = omega (arith, cut.back_len, old.within);
    }
