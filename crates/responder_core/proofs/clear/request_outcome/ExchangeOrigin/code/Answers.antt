use Rattle.std.proofs.Common.{subst}
use Rattle.responder_core.specs.Coming.{IsBegun}
use Rattle.responder_core.specs.declared.clear.request_outcome.ExchangeOrigin.{ExchangeOrigin}
use Rattle.responder_core.proofs.clear.request_outcome.ExchangeOrigin.code.Goals as goal
use Rattle.responder_machine.proofs.Codes.{asked-code}
use Rattle.spdm_grammar.specs.Message.RequestMessage.{ChunkSend, PskExchange}

pub returns-in-InClear : goal.returns-in-InClear
returns-in-InClear c = λ r p m f seen begun.
    let here = subst (λ (o : ExchangeOrigin). IsBegun r p m f o seen) c.in-InClear.is begun in
    asked-code p m (PskExchange here.exchange) here.asked_is

pub returns-in-InChunks : goal.returns-in-InChunks
returns-in-InChunks c = λ r p m f seen begun.
    let here = subst (λ (o : ExchangeOrigin). IsBegun r p m f o seen) c.in-InChunks.is begun in
    asked-code p m (ChunkSend here.chunk) here.completes.asked_is
