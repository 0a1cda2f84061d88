use Rattle.std.proofs.Common.{◌≡◌, ◌∙◌, sym, subst}
use Rattle.psk_session.specs.Finishing.{Seen, StandsFor}
use Rattle.psk_session.specs.Opening.{accepted, finish_inner}
use Rattle.psk_session.specs.OwnRecords.{TellsPadded}
use Rattle.psk_session.proofs.OwnSealed.{finish_short, put_within}
use Rattle.psk_session.proofs.finishing.Finishing.take_padded.Goals as goal

pub returns-clause-repadded : goal.returns-clause-repadded
returns-clause-repadded c = λ psk n exchange answer pad stands.
    let inside = subst (λ (x : Seen). StandsFor x psk n exchange answer pad) (sym c.self.view_is) stands in
    let older = accepted n exchange answer in
    let sealed = c.args.sealed.now in
    let padded = subst (TellsPadded psk older (finish_inner psk older) sealed) c.if-not-is_last_padded.false (c.is_last_padded.ensures psk n exchange answer pad stands) in
    let written : c.extend.new.self ≡ sealed =
    put_within c.extend.result c.clear.new.self c.extend.new.self sealed 96 c.clear.ensures c.extend.ensures.ok c.extend.ensures.full (finish_short psk older padded.0 sealed padded.1 padded.2) in (
      padded.0,
      padded.1,
      padded.2,
      record {
        terms = inside.terms;
        handshake = inside.handshake;
        pushed = inside.pushed;
        response = inside.response;
        id = inside.id;
        sent = written ∙ padded.2;
        told = inside.told;
      },
    )
