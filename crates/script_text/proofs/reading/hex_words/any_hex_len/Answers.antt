use Rattle.std.proofs.Common.{sym}
use Rattle.script_text.proofs.HexLengths.{length-bytes_of-pairs, length-bytes_of-none}
use Rattle.script_text.proofs.reading.hex_words.any_hex_len.Goals as goal

pub returns-then-is_none_word-clause-value : goal.returns-then-is_none_word-clause-value
returns-then-is_none_word-clause-value c = length-bytes_of-none c.args.word.now (sym c.if-is_none_word.ensures)

pub returns-clause-value : goal.returns-clause-value
returns-clause-value c = length-bytes_of-pairs c.args.word.now (sym c.if-not-is_pairs.ensures)
