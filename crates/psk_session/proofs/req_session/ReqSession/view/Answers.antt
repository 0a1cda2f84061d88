use Rattle.std.proofs.Common.{◌∙◌, ap, sym, []}
use Rattle.requester_machine.specs.Order.{stage_for}
use Rattle.psk_session.proofs.Standings.{open_stage}
use Rattle.psk_session.proofs.req_session.ReqSession.view.Goals as goal

pub returns-clause-opened : goal.returns-clause-opened
returns-clause-opened c = λ psk s stands fits.
    c.view.ensures.value psk s _ stands.1.keeps
    (c.stage.ensures [] ∙ open_stage c.args.self.now.standing stands.0 ∙ sym stands.1.stage)
    (c.shown_epoch.ensures.opened stands.0 ∙ stands.1.keeps.response.secret.epoch) fits

pub returns-clause-awaiting : goal.returns-clause-awaiting
returns-clause-awaiting c = λ psk s a stands fits.
    c.view.ensures.value psk s _ stands.1.keeps
    (c.stage.ensures stands.1.awaits.before ∙ sym (ap stage_for stands.1.awaits.is) ∙ sym stands.1.stage)
    (c.shown_epoch.ensures.awaiting psk s a stands) fits
