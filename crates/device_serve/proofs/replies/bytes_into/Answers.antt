use Rattle.std.proofs.Common.{◌≡◌, ◌∙◌, ◌/◌, arith, length, sym}
use Rattle.std.proofs.Math.Seq.{take-append_seam}
use Rattle.device_serve.proofs.HexData.{decoded_err, decoded_is_hex, decoded_ok, long_is_none, none_is_empty, none_is_hex, refused_is_none, short_is_none}
use Rattle.device_serve.proofs.replies.bytes_into.Goals as goal

pub returns-then-is_none_word-clause-valid : goal.returns-then-is_none_word-clause-valid
returns-then-is_none_word-clause-valid c = none_is_hex c.args.word.now (sym c.if-is_none_word.ensures)

pub returns-then-is_none_word-clause-value : goal.returns-then-is_none_word-clause-value
returns-then-is_none_word-clause-value c = none_is_empty c.args.word.now (sym c.if-is_none_word.ensures)

pub returns-then-count-eq0-clause-valid : goal.returns-then-count-eq0-clause-valid
returns-then-count-eq0-clause-valid c = short_is_none c.args.word.now (sym c.if-is_none_word.ensures) (omega arith)

pub returns-then-count-gt-MOST_BYTES-clause-valid : goal.returns-then-count-gt-MOST_BYTES-clause-valid
returns-then-count-gt-MOST_BYTES-clause-valid c = long_is_none c.args.word.now (sym c.if-is_none_word.ensures) (omega arith)

pub returns-in-Ok-clause-valid : goal.returns-in-Ok-clause-valid
returns-in-Ok-clause-valid c =
    let word = c.args.word.now in
    let out = c.decode_to_slice.new.out in
    let room = c.split_at_mut-into.result.0.now in
    let size : length room ≡ length word / 2 = c.split_at_mut-into.ensures.front_len in
    let told = decoded_ok word out (length room) c.decode_to_slice.result c.in-Ok.field-0 c.in-Ok.is c.decode_to_slice.ensures.value in
    (decoded_is_hex word out (length room) (sym c.if-is_none_word.ensures) size (omega (arith, size)) (omega (arith, size)) told).0

pub returns-in-Ok-clause-value : goal.returns-in-Ok-clause-value
returns-in-Ok-clause-value c =
    let word = c.args.word.now in
    let out = c.decode_to_slice.new.out in
    let room = c.split_at_mut-into.result.0.now in
    let size : length room ≡ length word / 2 = c.split_at_mut-into.ensures.front_len in
    let told = decoded_ok word out (length room) c.decode_to_slice.result c.in-Ok.field-0 c.in-Ok.is c.decode_to_slice.ensures.value in
    let is = (decoded_is_hex word out (length room) (sym c.if-is_none_word.ensures) size (omega (arith, size)) (omega (arith, size)) told).1 in
    let long : length out ≡ length word / 2 = omega (arith, c.decode_to_slice.auto.out, size) in
    rw (← long) (take-append_seam out c.split_at_mut-into.result.1.now) ∙ is

pub returns-in-Err-clause-valid : goal.returns-in-Err-clause-valid
returns-in-Err-clause-valid c =
    let word = c.args.word.now in
    let room = c.split_at_mut-into.result.0.now in
    let size : length room ≡ length word / 2 = c.split_at_mut-into.ensures.front_len in
    let fault = decoded_err word c.decode_to_slice.new.out (length room) c.decode_to_slice.result c.in-Err.field-0 c.in-Err.is c.decode_to_slice.ensures.value in
    refused_is_none word (length room) fault.0 (sym c.if-is_none_word.ensures) size fault.1
