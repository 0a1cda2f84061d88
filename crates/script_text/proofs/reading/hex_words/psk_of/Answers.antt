use Rattle.std.proofs.Common.{arith, length, sym, ◌∙◌}
use Rattle.script_text.proofs.HexLengths.{decoded_is}
use Rattle.script_text.proofs.reading.hex_words.psk_of.Goals as goal

pub returns-clause-value : goal.returns-clause-value
returns-clause-value c =
    let told = c.in_ok-len.ensures in
    let size = c.split_at_mut-room.ensures.front_len in
    let room = c.split_at_mut-room.result.0.now in
    let decoded = decoded_is c.args.word.now c.decode_to_slice.new.out (length room) c.decode_to_slice.result (sym told.value ∙ sym size) (omega (arith, told.low, size)) c.decode_to_slice.ensures.value in
    rw (← decoded) c.new.ensures.value
