use Rattle.std.proofs.Common.{◌∙◌, ◌≤◌, ℕ, List, length, sym, subst}
use Rattle.std.proofs.lemmas.Slice.Eq.{bytes_eq-Decides}
use Rattle.psk_session.specs.OwnRecords.{TellsPadded}
use Rattle.psk_session.proofs.own_records.is_padded_anew.Goals as goal

pub returns-then-same_bytes-clause-told : goal.returns-then-same_bytes-clause-told
returns-then-same_bytes-clause-told c = λ psk s inner pad is number sent.
    let same = (bytes_eq-Decides c.args.sealed.now c.args.sent.now).0 (sym c.same_bytes.ensures ∙ c.if-same_bytes.true) in
    subst (λ (m : List ℕ). TellsPadded psk s inner m c.is_padded_little.result) (sym same) (c.is_padded_little.ensures psk s inner pad is number sent)

pub returns-then-same_bytes-clause-fits : goal.returns-then-same_bytes-clause-fits
returns-then-same_bytes-clause-fits c = λ short.
    let same = (bytes_eq-Decides c.args.sealed.now c.args.sent.now).0 (sym c.same_bytes.ensures ∙ c.if-same_bytes.true) in
    subst (λ (m : List ℕ). length m ≤ 4160) (sym same) c.requires
