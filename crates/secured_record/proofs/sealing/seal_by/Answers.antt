use Rattle.std.proofs.Common.{◌≡◌, ◌≤◌, ◌+◌, ◌++◌, length, ap, ◌∙◌, arith, length-append}
use Rattle.std.specs.List.{refill}
use Rattle.secured_record.specs.Format.{plain_text, sealed_text}
use Rattle.secured_record.proofs.Written.{sealed_is, extended, length-sealed_text}
use Rattle.secured_record.proofs.sealing.seal_by.Goals as goal

pub returns : goal.returns
returns c =
    let a = c.args in
    let text = plain_text a.inner.now a.pad.now in
    let b = c.write_plain.new.out in
    let left = c.seal_behind_header-tag.new.bytes in
    let tag = c.seal_behind_header-tag.result in
    let whole = refill (length b) b left in
    let done : whole ++ tag ≡ sealed_text a.cipher.now a.iv.now a.id.now a.number text =
    sealed_is a.cipher.now a.iv.now a.id.now a.number a.inner.now a.pad.now c.header-header.result c.nonce-nonce.result b c.as_mut_slice.result.now left tag
    c.told-id c.header-header.ensures c.nonce-nonce.ensures c.write_plain.ensures.value c.as_mut_slice.ensures.value c.seal_behind_header-tag.ensures.text c.seal_behind_header-tag.ensures.tag in
    let size : length whole + length tag ≤ 4160 =
    omega (arith, length-append whole tag, ap length done, length-sealed_text a.cipher.now a.iv.now a.id.now a.number text c.told-id, length-append a.inner.now a.pad.now, c.requires) in
    extended c.extend.result c.extend.new.self (whole ++ tag) 4160 (length whole + length tag) c.extend.ensures.ok c.extend.ensures.full size ∙ done
