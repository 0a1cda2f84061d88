use Rattle.std.proofs.Common.{sym, ◌∙◌}
use Rattle.script_text.proofs.HexLengths.{bytes_of-no_pairs}
use Rattle.script_text.proofs.reading.hex_words.bytes_of.Goals as goal

pub returns-then-not-is_pairs : goal.returns-then-not-is_pairs
returns-then-not-is_pairs c =
    c.new.ensures ∙ bytes_of-no_pairs c.args.word.now (sym c.is_pairs.ensures ∙ c.if-not-is_pairs.true)
