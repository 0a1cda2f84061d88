use Rattle.std.proofs.Common.{◌∙◌, ap, List, ℕ}
use Rattle.aes.specs.Cipher.{add_round_key}
use Rattle.aes.specs.Words.{bytes_of}
use Rattle.aes.proofs.StateBytes.{round-bytes}
use Rattle.aes.proofs.Begins.{round-value}
use Rattle.aes.proofs.columns.Columns.round.Goals as goal

pub returns-clause-bytes : goal.returns-clause-bytes
returns-clause-bytes c =
    c.add.ensures.bytes
    ∙ ap (λ (t : List ℕ). add_round_key t (bytes_of c.args.key.now))
    (round-bytes c.args.self.now c.mixed.result c.mixed-2.result c.mixed-3.result c.mixed-4.result
    (rw (c.to_be_bytes-a.ensures, c.to_be_bytes-b.ensures, c.to_be_bytes-c.ensures, c.to_be_bytes-d.ensures) at c.mixed.ensures.bytes)
    (rw (c.to_be_bytes-a.ensures, c.to_be_bytes-b.ensures, c.to_be_bytes-c.ensures, c.to_be_bytes-d.ensures) at c.mixed-2.ensures.bytes)
    (rw (c.to_be_bytes-a.ensures, c.to_be_bytes-b.ensures, c.to_be_bytes-c.ensures, c.to_be_bytes-d.ensures) at c.mixed-3.ensures.bytes)
    (rw (c.to_be_bytes-a.ensures, c.to_be_bytes-b.ensures, c.to_be_bytes-c.ensures, c.to_be_bytes-d.ensures) at c.mixed-4.ensures.bytes))

pub returns-clause-value : goal.returns-clause-value
returns-clause-value c =
    let s = c.args.self.now in
    c.add.ensures.value
    ∙ round-value c.mixed.result c.mixed-2.result c.mixed-3.result c.mixed-4.result _ _ _ _ c.args.key.now
    (rw (c.to_be_bytes-a.ensures, c.to_be_bytes-b.ensures, c.to_be_bytes-c.ensures, c.to_be_bytes-d.ensures) at c.mixed.ensures.value)
    (rw (c.to_be_bytes-a.ensures, c.to_be_bytes-b.ensures, c.to_be_bytes-c.ensures, c.to_be_bytes-d.ensures) at c.mixed-2.ensures.value)
    (rw (c.to_be_bytes-a.ensures, c.to_be_bytes-b.ensures, c.to_be_bytes-c.ensures, c.to_be_bytes-d.ensures) at c.mixed-3.ensures.value)
    (rw (c.to_be_bytes-a.ensures, c.to_be_bytes-b.ensures, c.to_be_bytes-c.ensures, c.to_be_bytes-d.ensures) at c.mixed-4.ensures.value)
