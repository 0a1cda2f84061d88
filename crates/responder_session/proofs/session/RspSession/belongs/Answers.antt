use Rattle.std.proofs.Common.{◌∙◌, ap, sym}
use Rattle.std.specs.Prelude.{is_ok}
use Rattle.responder_session.proofs.session.RspSession.belongs.Goals as goal

pub returns-else-repeats_last-clause-ended : goal.returns-else-repeats_last-clause-ended
returns-else-repeats_last-clause-ended c = λ id old answer ended.
    c.is_ok.ensures.value ∙ ap is_ok (c.read_request.ensures.ended id old answer ended) ∙ sym c.if-repeats_last.false ∙ c.repeats_last.ensures.ended id old answer ended
