use Rattle.std.proofs.Common.{◌∙◌, ◌<◌, arith}
use Rattle.requester_machine.specs.Session.{response_epoch}
use Rattle.psk_session.specs.Waiting.{awaited_epoch}
use Rattle.psk_session.proofs.OwnSealed.{seals_next}
use Rattle.psk_session.proofs.req_session.ReqSession.open_next.Goals as goal

pub returns-clause-opened : goal.returns-clause-opened
returns-clause-opened c = λ psk s stands.
    let keeps = stands.1.keeps in
    let few = stands.1.few.0 in
    let small : c.args.self.now.kept.request_next < 65536 = omega (arith, keeps.request_next, few) in
    c.open_own.ensures.opened psk s (seals_next c.args.self.now.kept psk s (response_epoch s) keeps) (c.record_number-number.ensures small ∙ keeps.request_next)

pub returns-clause-awaiting : goal.returns-clause-awaiting
returns-clause-awaiting c = λ psk s a stands few.
    let keeps = stands.1.keeps in
    let small : c.args.self.now.kept.request_next < 65536 = omega (arith, keeps.request_next, few) in
    c.open_own.ensures.opened psk s (seals_next c.args.self.now.kept psk s (awaited_epoch s a) keeps) (c.record_number-number.ensures small ∙ keeps.request_next)
