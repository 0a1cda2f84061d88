use Rattle.std.proofs.Common.{◌∙◌, ◌+◌, ℕ, List, length, sym, refl, subst}
use Rattle.std.specs.Prelude.{nat_le}
use Rattle.psk_session.specs.OwnRecords.{TellsPadded}
use Rattle.psk_session.proofs.OwnSealed.{next_as, not_opened, on_ok, padded_by}
use Rattle.psk_session.proofs.own_records.is_padded_little.Goals as goal

pub returns-then-is_err : goal.returns-then-is_err
returns-then-is_err c = λ psk s inner pad is number sent.
    let opened = c.open.ensures.opens inner pad (next_as c.args.key.now c.args.id psk s c.args.number inner pad c.args.sent.now is number sent) c.requires in
    not_opened c.open.result opened.0 (sym c.is_err.ensures.value ∙ c.if-is_err.true)

pub returns : goal.returns
returns c = λ psk s inner pad is number sent.
    let opened = c.open.ensures.opens inner pad (next_as c.args.key.now c.args.id psk s c.args.number inner pad c.args.sent.now is number sent) c.requires in
    subst (λ (m : List ℕ). TellsPadded psk s inner c.args.sent.now (nat_le (length c.args.sent.now) (length m + 42))) (sym c.as_slice.ensures.value)
    (padded_by c.args.key.now c.args.id psk s c.args.number inner c.args.sent.now c.open.new.out _ is number opened.1
    (on_ok c.open.result (sym c.is_err.ensures.value ∙ c.if-is_err.false) c.open.ensures.record) refl)
