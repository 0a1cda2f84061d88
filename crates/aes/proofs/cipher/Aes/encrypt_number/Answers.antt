use Rattle.std.proofs.Common.{◌+◌, ◌<◌, ◌∙◌, ℕ, arith}
use Rattle.aes.specs.Cipher.{round_keys, round_count}
use Rattle.aes.specs.Words.{block_bytes}
use Rattle.aes.specs.declared.columns.Columns.{Columns}
use Rattle.aes.proofs.Schedules.{key_at, rounds-none, rounds-more}
use Rattle.aes.proofs.cipher.Aes.encrypt_number.Goals as goal

pub returns : goal.returns
returns c =
    let w = round_keys c.args.self.now in
    let block = block_bytes c.args.block in
    let none : Columns = record { first = 0; second = 0; third = 0; fourth = 0 } in
    let key_is = λ (n : ℕ) (lt : n < round_count c.self.inside.key.items + 1).
    key_at c.as_slice-keys.result.now c.self.inside.keys.items c.self.inside.key.items c.args.self.now n none c.as_slice-keys.ensures.value c.self.view_is c.self.invariant.0 lt in
    c.finish.ensures block
    (c.round-2.ensures.bytes
    ∙ rounds-more w block _ _ 1
    (c.round.ensures.bytes
    ∙ rounds-more w block _ _ 0 (c.add-start.ensures.bytes ∙ rounds-none w block _ _ c.of.ensures.bytes (key_is 0 (omega arith))) (key_is 1 (omega arith)))
    (key_is 2 (omega arith)))
