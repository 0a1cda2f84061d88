use Rattle.std.proofs.Common.{◌≡◌, ◌≤◌, ◌+◌, length}
use Rattle.script_text.specs.Lines.{count_of_words}
use Rattle.script_text.proofs.reading.words.count_of_words.Given as goal

abbrev pub invariant-words : goal.invariant-words
invariant-words l = record {
  count : l.count + count_of_words l.rest ≡ count_of_words l.line + 1;
  within : l.count + length l.rest ≤ length l.line + 1;
}

abbrev pub decreases-words : goal.decreases-words
decreases-words l = length l.rest
