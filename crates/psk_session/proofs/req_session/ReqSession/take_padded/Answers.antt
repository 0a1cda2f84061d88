use Rattle.std.proofs.Common.{◌≡◌, ◌∙◌, ◌∷◌, refl, sym, subst}
use Rattle.requester_machine.specs.Message.{Ask}
use Rattle.requester_machine.specs.Records.{sealed_next}
use Rattle.requester_machine.specs.Session.Step.{Asked}
use Rattle.psk_session.specs.Kept.{Keeps}
use Rattle.psk_session.specs.OwnRecords.{TellsPadded}
use Rattle.psk_session.specs.ReqSession.{awaited_in}
use Rattle.psk_session.specs.Waiting.{awaited_epoch}
use Rattle.psk_session.proofs.OwnSealed.{keeps_repadded}
use Rattle.psk_session.proofs.Replies.{extended}
use Rattle.psk_session.proofs.req_session.ReqSession.take_padded.Goals as goal

pub returns-clause-repadded : goal.returns-clause-repadded
returns-clause-repadded c = λ psk s a inner pad stands.
    let old = c.args.self.now in
    let sealed = c.args.sealed.now in
    let padded = subst (TellsPadded psk s inner sealed) c.if-not-is_last_padded.false (c.is_last_padded.ensures.told psk s a inner pad stands) in
    let at = stands.1 in
    let w = awaited_in old.standing in
    let before = at.awaits.before in
    let epoch = awaited_epoch s a in
    let was = sealed_next psk s inner pad in
    let now = sealed_next psk s inner padded.0 in
    let written : c.extend.new.self ≡ sealed =
    extended c.extend.result c.clear.new.self c.extend.new.self sealed c.clear.ensures c.extend.ensures.ok c.extend.ensures.full (c.is_last_padded.ensures.fits c.if-not-is_last_padded.false) in
    let keeps = subst (λ (x : Ask). Keeps old.kept psk (Asked x inner now ∷ s) epoch) (sym at.awaits.is)
    (keeps_repadded w before inner was now old.kept psk s epoch (subst (λ (x : Ask). Keeps old.kept psk (Asked x inner was ∷ s) epoch) at.awaits.is at.keeps)) in (
      padded.0,
      padded.1,
      padded.2,
      (stands.0, record { stage = at.stage; keeps = keeps; newest = (refl, sym padded.2 ∙ sym written); awaits = at.awaits; few = at.few }),
    )
