use Rattle.std.proofs.Common.{arith, sym, length}
use Rattle.std.proofs.lemmas.Bool.{eqb-true}
use Rattle.script_text.proofs.Letters.{is_some_of-other}
use Rattle.script_text.proofs.reading.choices.behind.Goals as goal
use Rattle.script_text.proofs.reading.choices.behind.Goals.{else-not-is_empty-via-then-not-is_empty+else-word-letter, else-not-is_empty-via-else-not-is_empty}

pub returns-else-not-is_empty : goal.returns-else-not-is_empty
returns-else-not-is_empty c = λ letters.
    elim c.else-not-is_empty.branch [
      | else-not-is_empty-via-then-not-is_empty+else-word-letter w ↦ is_some_of-other c.args.letter letters c.args.word.now (λ h. w.if-word-letter.false)
      | else-not-is_empty-via-else-not-is_empty w ↦ is_some_of-other c.args.letter letters c.args.word.now (λ h. absurd (omega (arith, eqb-true (length c.args.word.now) 0 (sym w.if-not-is_empty.ensures))))
    ]
