use Rattle.std.proofs.Common.{◌≡◌, ◌+◌, ℕ}
use Rattle.script_text.specs.Lines.{word}
use Rattle.script_text.proofs.reading.words.word.Given as goal

-- what is left has the word at the places that are left
abbrev pub invariant-loop : goal.invariant-loop
invariant-loop l = (k : ℕ) → k + l.counter ≡ l.place → word l.place l.line ≡ word k l.rest
