use Rattle.std.proofs.Common.{arith, length, sym, ◌∙◌}
use Rattle.std.proofs.Math.Seq.{take-append_seam}
use Rattle.script_text.specs.HexWords.{bytes_of, most_bytes}
use Rattle.script_text.proofs.HexLengths.{decoded_is, none_in}
use Rattle.script_text.proofs.reading.hex_words.bytes_into.Goals as goal

pub returns : goal.returns
returns c = λ fits.
    let told = c.in-Some.ensures in
    let size = c.split_at_mut-into.ensures.front_len in
    let room = c.split_at_mut-into.result.0.now in
    let out = c.decode_to_slice.new.out in
    let decoded = decoded_is c.args.word.now out (length room) c.decode_to_slice.result (sym told.value ∙ sym size) (omega (arith, told.low, size)) c.decode_to_slice.ensures.value in
    rw (decoded, told.value) (take-append_seam (bytes_of c.args.word.now) c.split_at_mut-into.result.1.now)

pub returns-in_default : goal.returns-in_default
returns-in_default c = λ fits. none_in c.args.word.now most_bytes fits (sym c.in_default.ensures.valid)
