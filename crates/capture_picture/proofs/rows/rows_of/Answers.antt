use Rattle.std.proofs.Common.{◌≡◌, ◌∙◌, ◌+◌, ◌++◌, ◌∷◌, [], arith, ℕ, List, ap, sym, length, take, get_or}
use Rattle.std.proofs.lemmas.Grind.{common_steps}
use Rattle.capture_picture.proofs.Numbered.{own_row, rows_count, rows_more}
use Rattle.capture_picture.specs.Arrows.{rows_from}
use Rattle.sequence_picture.specs.declared.rows.Row.{Row}
use Rattle.capture_picture.proofs.rows.rows_of.Goals as goal

pub loop-index-preserved : goal.loop-index-preserved
loop-index-preserved c =
    let w = c.args.config.now in
    let i = c.loop-index.index in
    let packets = c.args.packets.now in
    let packet = c.index-packets-index.result in
    let front = rows_from w 1 (take i packets) in
    let next : i + 1 ≡ 1 + i = omega arith in
    let row_is : own_row w (i + 1) c.as_slice.result.now ≡ own_row w (1 + i) (get_or packets i packet) =
    ap (λ (n : ℕ). own_row w n c.as_slice.result.now) next ∙ ap (own_row w (1 + i)) (c.as_slice.ensures ∙ c.index-packets-index.is) in
    c.in_ok-add_row.ensures
    ∙ ap (λ (l : List Row). l ++ own_row w (i + 1) c.as_slice.result.now ∷ []) c.loop-index.invariant
    ∙ ap (λ (r : Row). front ++ r ∷ []) row_is
    ∙ sym (rows_more w 1 packets i packet c.loop-index-test.true)

pub returns-clause-count : goal.returns-clause-count
returns-clause-count c =
    let packets = c.args.packets.now in
    let i = c.loop-index.index in
    let all : take i packets ≡ packets = grind (arith, common_steps) in
    ap length c.loop-index.invariant ∙ ap (λ (l : List (List ℕ)). length (rows_from c.args.config.now 1 l)) all ∙ rows_count c.args.config.now 1 packets
