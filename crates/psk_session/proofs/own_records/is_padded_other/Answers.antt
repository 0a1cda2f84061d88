use Rattle.std.proofs.Common.{◌∙◌, ◌+◌, ℕ, List, length, sym, refl, subst}
use Rattle.std.specs.Prelude.{nat_le}
use Rattle.std.proofs.lemmas.Slice.Eq.{bytes_eq-Decides}
use Rattle.secured_record.specs.Format.{iv_of, key_of}
use Rattle.session_keys.proofs.Purposes.{opened_fits}
use Rattle.spdm_basis.specs.SessionIdBytes.{session_id_bytes}
use Rattle.psk_session.specs.OwnRecords.{TellsPadded}
use Rattle.psk_session.proofs.OwnSealed.{next_as, not_opened, on_ok, other_inner, padded_by}
use Rattle.psk_session.proofs.own_records.is_padded_other.Goals as goal

pub returns-then-is_err-clause-told : goal.returns-then-is_err-clause-told
returns-then-is_err-clause-told c = λ psk s inner pad is number sent.
    let opened = c.open.ensures.opens inner pad (next_as c.args.key.now c.args.id psk s c.args.number inner pad c.args.sent.now is number sent) c.requires in
    not_opened c.open.result opened.0 (sym c.is_err.ensures.value ∙ c.if-is_err.true)

pub returns-then-is_err-2-clause-told : goal.returns-then-is_err-2-clause-told
returns-then-is_err-2-clause-told c = λ psk s inner pad is number sent fits padded.
    let opened = c.open-2.ensures.opens inner padded.0 (next_as c.args.key.now c.args.id psk s c.args.number inner padded.0 c.args.sealed.now is number padded.2) fits in
    not_opened c.open-2.result opened.0 (sym c.is_err-2.ensures.value ∙ c.if-is_err-2.true)

pub returns-then-same_bytes-clause-told : goal.returns-then-same_bytes-clause-told
returns-then-same_bytes-clause-told c = λ psk s inner pad is number sent.
    let asked = c.open.ensures.opens inner pad (next_as c.args.key.now c.args.id psk s c.args.number inner pad c.args.sent.now is number sent) c.requires in
    let same = (bytes_eq-Decides c.as_slice.result.now c.as_slice-2.result.now).0 (sym c.same_bytes.ensures ∙ c.if-same_bytes.true) in
    let found = sym c.as_slice.ensures.value ∙ same ∙ c.as_slice-2.ensures.value ∙ asked.1 in
    subst (λ (m : List ℕ). TellsPadded psk s inner c.args.sealed.now (nat_le (length c.args.sealed.now) (length m + 42))) (sym c.as_slice-then-same_bytes.ensures.value)
    (padded_by c.args.key.now c.args.id psk s c.args.number inner c.args.sealed.now c.open-2.new.out _ is number found
    (on_ok c.open-2.result (sym c.is_err-2.ensures.value ∙ c.if-is_err-2.false) c.open-2.ensures.record) refl)

pub returns-then-same_bytes-clause-fits : goal.returns-then-same_bytes-clause-fits
returns-then-same_bytes-clause-fits c = λ short.
    on_ok c.open-2.result (sym c.is_err-2.ensures.value ∙ c.if-is_err-2.false)
    (opened_fits c.open-2.result (key_of c.args.key.now) (iv_of c.args.key.now) (session_id_bytes c.args.id.req c.args.id.rsp) c.args.number c.args.sealed.now c.open-2.ensures.fault)

pub returns-else-same_bytes-clause-told : goal.returns-else-same_bytes-clause-told
returns-else-same_bytes-clause-told c = λ psk s inner pad is number sent.
    let asked = c.open.ensures.opens inner pad (next_as c.args.key.now c.args.id psk s c.args.number inner pad c.args.sent.now is number sent) c.requires in
    other_inner psk s inner c.args.sealed.now c.as_slice-2.result.now c.as_slice.result.now c.same_bytes.result c.if-same_bytes.false c.same_bytes.ensures (c.as_slice-2.ensures.value ∙ asked.1)
    (λ fits padded. c.as_slice.ensures.value ∙ (c.open-2.ensures.opens inner padded.0 (next_as c.args.key.now c.args.id psk s c.args.number inner padded.0 c.args.sealed.now is number padded.2) fits).1)
