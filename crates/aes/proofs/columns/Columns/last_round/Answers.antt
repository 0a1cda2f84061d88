use Rattle.std.proofs.Common.{◌∙◌, ap, List, ℕ}
use Rattle.aes.specs.Cipher.{add_round_key}
use Rattle.aes.specs.Words.{bytes_of}
use Rattle.aes.proofs.StateBytes.{last_round-bytes}
use Rattle.aes.proofs.columns.Columns.last_round.Goals as goal

pub returns : goal.returns
returns c =
    c.add.ensures.bytes
    ∙ ap (λ (t : List ℕ). add_round_key t (bytes_of c.args.key.now))
    (last_round-bytes c.args.self.now c.substituted.result c.substituted-2.result c.substituted-3.result c.substituted-4.result
    (rw (c.to_be_bytes-a.ensures, c.to_be_bytes-b.ensures, c.to_be_bytes-c.ensures, c.to_be_bytes-d.ensures) at c.substituted.ensures)
    (rw (c.to_be_bytes-a.ensures, c.to_be_bytes-b.ensures, c.to_be_bytes-c.ensures, c.to_be_bytes-d.ensures) at c.substituted-2.ensures)
    (rw (c.to_be_bytes-a.ensures, c.to_be_bytes-b.ensures, c.to_be_bytes-c.ensures, c.to_be_bytes-d.ensures) at c.substituted-3.ensures)
    (rw (c.to_be_bytes-a.ensures, c.to_be_bytes-b.ensures, c.to_be_bytes-c.ensures, c.to_be_bytes-d.ensures) at c.substituted-4.ensures))
