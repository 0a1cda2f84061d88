use Rattle.std.proofs.Common.{◌≡◌, [], ap, ◌∙◌, drop, length, arith}
use Rattle.std.proofs.lemmas.Grind.{common_steps}
use Rattle.std.specs.Prelude.{unwrap_or}
use Rattle.script_picture.proofs.FirstLine.{first_line}
use Rattle.script_picture.proofs.text_lines.next_line.Goals as goal

pub returns-clause-line : goal.returns-clause-line
returns-clause-line c =
    let text = c.args.text.now in
    let end = c.unwrap_or-end.result in
    let some : (text ≡ [] → ⊥) = grind (arith, common_steps) in
    let place = c.unwrap_or-end.ensures ∙ ap (λ p. unwrap_or p (length text)) c.feed_of.ensures.place in
    let behind : c.behind_first.result.now ≡ drop 1 (drop end text) = c.behind_first.ensures ∙ ap (drop 1) c.split_at.ensures.back in
    rw (c.split_at.ensures.front, behind) (first_line text some end place)
