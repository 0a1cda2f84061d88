use Rattle.std.proofs.Common.{◌≡◌, sym}
use Rattle.std.specs.Prelude.{None}
use Rattle.requester_machine.specs.Session.{response_epoch}
use Rattle.psk_session.specs.SessionRequest.{ask_fault}
use Rattle.psk_session.proofs.req_session.ReqSession.ask.Goals as goal

pub returns-in-Some-clause-asked : goal.returns-in-Some-clause-asked
returns-in-Some-clause-asked c = λ psk s stands. sym (c.in-Some.ensures.value psk s (response_epoch s) stands.1.keeps)

pub returns-in-None-clause-asked : goal.returns-in-None-clause-asked
returns-in-None-clause-asked c = λ psk s stands.
    let fault : ask_fault s c.args.ask ≡ None = sym (c.in-None.ensures.value psk s (response_epoch s) stands.1.keeps) in
    (fault, c.make.ensures.asked psk s stands.1 fault)
