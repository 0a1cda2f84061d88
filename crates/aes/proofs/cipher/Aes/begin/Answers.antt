use Rattle.std.proofs.Common.{◌+◌, ◌<◌, ◌∙◌, ℕ, get_or, ap, arith}
use Rattle.aes.specs.Cipher.{round_keys, round_count}
use Rattle.aes.specs.Begun.{sum_of}
use Rattle.aes.specs.declared.columns.Columns.{Columns}
use Rattle.aes.proofs.Begins.{begun_is}
use Rattle.aes.proofs.Schedules.{key_at}
use Rattle.aes.proofs.cipher.Aes.begin.Goals as goal

pub returns : goal.returns
returns c =
    let w = round_keys c.args.self.now in
    let none : Columns = record { first = 0; second = 0; third = 0; fourth = 0 } in
    let key : ℕ → Columns = λ n. get_or c.as_slice-keys.result.now n none in
    let key_is = λ (n : ℕ) (lt : n < round_count c.self.inside.key.items + 1).
    key_at c.as_slice-keys.result.now c.self.inside.keys.items c.self.inside.key.items c.args.self.now n none c.as_slice-keys.ensures.value c.self.view_is c.self.invariant.0 lt in
    begun_is w c.add-start.result (key 0) (key 1) (key 2) c.args.block c.of-2.result
    (c.add-start.ensures.value ∙ ap (λ (t : Columns). sum_of t (key 0)) c.of.ensures.value)
    c.of-2.ensures (key_is 0 (omega arith)) (key_is 1 (omega arith)) (key_is 2 (omega arith))
