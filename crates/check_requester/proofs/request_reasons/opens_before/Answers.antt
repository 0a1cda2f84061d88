use Rattle.requester_machine.specs.Named.{session_named}
use Rattle.check_requester.proofs.OpensAsking.{few_named, few_opened}
use Rattle.check_requester.proofs.request_reasons.opens_before.Goals as goal

pub returns : goal.returns
returns c = λ q bare sent took short stands.
    few_opened q (session_named bare c.args.sealed.now) c.args.sealed.now c.open_before.new.out c.open_before.result (few_named c.args.asking.now.sessions q bare sent took stands.sessions c.args.sealed.now)
    (c.open_before.ensures q bare sent took short stands)
