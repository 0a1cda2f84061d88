use Rattle.std.proofs.Common.{◌∙◌, ◌∷◌, ℕ, ap}
use Rattle.check_requester.proofs.OwedSent.{record_sent}
use Rattle.check_requester.proofs.owed_messages.take_record.Goals as goal

pub returns-in-Some-eq6-default : goal.returns-in-Some-eq6-default
returns-in-Some-eq6-default c = λ q bare sent id ask took aims short stands.
    record_sent q bare sent id ask took aims c.args.body.now c.in-Some-eq6-default.sealed.now c.args.asking.now c.take_padded.new.self c.take_padded.result
    (c.in-Some-eq6-default.ensures.cases.0 ∙ ap (λ (n : ℕ). n ∷ c.in-Some-eq6-default.sealed.now) c.in-Some-eq6-default.field-0-0-test) short stands
    (c.take_padded.ensures.repadded q bare sent id ask took aims stands) c.take_padded.ensures.unchanged
