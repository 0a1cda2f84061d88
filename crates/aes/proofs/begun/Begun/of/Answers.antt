use Rattle.std.proofs.Common.{◌≡◌, ◌∙◌, ◌%◌, ◌^◌, ap}
use Rattle.std.specs.Prelude.{bit_xor}
use Rattle.aes.specs.Begun.{sum_of, round_of, share_of}
use Rattle.aes.specs.Tables.{fourth_row}
use Rattle.aes.specs.declared.columns.Columns.{Columns}
use Rattle.aes.specs.declared.begun.Begun.{Begun}
use Rattle.aes.proofs.Begins.{state_is}
use Rattle.aes.proofs.begun.Begun.of.Goals as goal

pub returns : goal.returns
returns c = λ fourth last e f.
    let s = c.args.start.now in
    let k = c.args.first.now in
    let l = c.args.second.now in
    let one = c.round-one.result in
    let begun : Begun = record { key = c.args.key; first = bit_xor one.first c.fourth_row.result; rest = c.add.result } in
    let one_is : one ≡ round_of s k = c.round-one.ensures.value in
    state_is s k l fourth last begun e f
    (ap (bit_xor one.first) c.fourth_row.ensures ∙ ap (λ (t : Columns). bit_xor t.first (fourth_row (s.fourth % 2 ^ 8))) one_is)
    (c.add.ensures.value
    ∙ ap (λ (t : Columns). sum_of t c.share.result) (c.round-two.ensures.value ∙ ap (λ (t : Columns). round_of t l) one_is)
    ∙ ap (sum_of (round_of (round_of s k) l)) (c.share.ensures ∙ ap (λ (t : Columns). share_of t.first) one_is))
