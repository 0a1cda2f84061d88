use Rattle.responder_session.proofs.ended.RspEnded.take.Goals as goal

pub returns : goal.returns
returns c = λ id old answer stands. c.of.ensures.ended id old answer c.args.sealed.now (c.take_with-told.ensures.ended id old answer stands.session)
