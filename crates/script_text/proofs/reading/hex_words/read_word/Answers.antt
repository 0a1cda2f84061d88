use Rattle.std.proofs.Common.{◌≡◌, ℕ, List, ◌++◌, length, take, arith, ◌∙◌}
use Rattle.std.proofs.lemmas.List.{take_all, take-append-le}
use Rattle.script_text.proofs.HexLengths.{pairs_parts, bytes_of-decoded}
use Rattle.script_text.proofs.reading.hex_words.read_word.Goals as goal

-- a front of its own length
whole_front : (n : ℕ) (front back : List ℕ) → length front ≡ n → take n (front ++ back) ≡ front
whole_front n front back long = take-append-le n front back (omega (arith, long)) ∙ take_all n front (omega (arith, long))

pub read_pairs-requires-clause-twice : goal.read_pairs-requires-clause-twice
read_pairs-requires-clause-twice c =
    let even = (pairs_parts c.args.word.now c.requires).0 in
    omega (arith, even, c.as_mut_slice.ensures.len, c.in-Ok.ensures.len)

pub read_pairs-requires-clause-digits : goal.read_pairs-requires-clause-digits
read_pairs-requires-clause-digits c = (pairs_parts c.args.word.now c.requires).1

pub returns : goal.returns
returns c =
    let bytes = c.read_pairs.new.bytes in
    let long : length bytes ≡ c.in-Ok.room.len = omega (arith, c.read_pairs.auto.bytes, c.as_mut_slice.ensures.len) in
    let read = c.as_slice.ensures.value ∙ whole_front c.in-Ok.room.len bytes _ long ∙ bytes_of-decoded c.args.word.now bytes c.read_pairs.ensures in
    rw (← read) c.copy.ensures
