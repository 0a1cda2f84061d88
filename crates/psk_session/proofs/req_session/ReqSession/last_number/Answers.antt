use Rattle.std.proofs.Common.{◌≡◌, ◌∙◌, ◌+◌, arith}
use Rattle.requester_machine.specs.Session.{request_next, response_next}
use Rattle.psk_session.proofs.OwnSealed.{few_most}
use Rattle.psk_session.proofs.req_session.ReqSession.last_number.Goals as goal

pub returns : goal.returns
returns c = λ psk s a inner pad stands.
    let kept = c.args.self.now.kept in
    let next : kept.request_next ≡ request_next s + 1 = stands.1.keeps.request_next in
    let few = few_most a (request_next s + 1) (response_next s) stands.1.few in
    let number : c.saturating_sub.result ≡ request_next s = omega (arith, c.saturating_sub.ensures, next) in
    c.record_number.ensures (omega (arith, number, few)) ∙ number
