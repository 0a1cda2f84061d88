use Rattle.std.proofs.Common.{ap, ◌∙◌}
use Rattle.byteorder.specs.Endian.{little_bytes}
use Rattle.secured_record.proofs.Records.{little_bytes-little_number}
use Rattle.secured_record.proofs.opening.inner_length.Goals as goal

pub returns-clause-bytes : goal.returns-clause-bytes
returns-clause-bytes c =
    ap (little_bytes 2) c.read_u16.ensures ∙ little_bytes-little_number c.args.text.now c.requires (c.type_inv.text 0).fits (c.type_inv.text 1).fits
