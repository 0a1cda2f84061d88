use Rattle.std.proofs.Common.{sym, ◌∙◌}
use Rattle.script_text.proofs.HexLengths.{bytes_of-none}
use Rattle.script_text.proofs.reading.hex_words.any_bytes.Goals as goal

pub returns-then-is_none_word-clause-value : goal.returns-then-is_none_word-clause-value
returns-then-is_none_word-clause-value c = c.new.ensures ∙ bytes_of-none c.args.word.now (sym c.if-is_none_word.ensures)
