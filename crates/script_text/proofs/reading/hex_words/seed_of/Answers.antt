use Rattle.std.proofs.Common.{arith}
use Rattle.script_text.proofs.HexLengths.{decoded_is}
use Rattle.script_text.proofs.reading.hex_words.seed_of.Goals as goal

pub returns : goal.returns
returns c = λ long. decoded_is c.args.word.now c.decode_to_slice.new.out 32 c.decode_to_slice.result long (omega arith) c.decode_to_slice.ensures.value
