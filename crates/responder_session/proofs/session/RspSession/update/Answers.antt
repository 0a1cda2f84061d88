use Rattle.std.proofs.Common.{◌∙◌, ap, sym, subst, Bool}
use Rattle.std.specs.Prelude.{if◌then◌else◌}
use Rattle.spdm_grammar.specs.Message.ResponseMessage.{KeyUpdateAck}
use Rattle.spdm_grammar.specs.Responses.{canonical_response}
use Rattle.responder_session.specs.Session.{StandsFor}
use Rattle.responder_session.specs.Turns.{heard_by}
use Rattle.responder_session.specs.Updates.{update_turn}
use Rattle.responder_session.proofs.session.RspSession.update.Goals as goal

pub returns-then-all : goal.returns-then-all
returns-then-all c = λ psk s tag stands at epochs is.
    subst (λ (b : Bool). StandsFor c.update_all.new.self psk (heard_by psk s c.args.opened.now.sealed.now (update_turn c.args.opened.now.message.now (if b then 2 else 1) tag) c.args.opened.now.pad.now)) (sym c.if-all.true)
    (c.update_all.ensures psk s tag stands at epochs (is ∙ ap (λ (b : Bool). canonical_response (KeyUpdateAck (if b then 2 else 1) tag)) c.if-all.true))

pub returns-else-all : goal.returns-else-all
returns-else-all c = λ psk s tag stands at epochs is.
    subst (λ (b : Bool). StandsFor c.update_key.new.self psk (heard_by psk s c.args.opened.now.sealed.now (update_turn c.args.opened.now.message.now (if b then 2 else 1) tag) c.args.opened.now.pad.now)) (sym c.if-all.false)
    (c.update_key.ensures psk s tag stands at epochs (is ∙ ap (λ (b : Bool). canonical_response (KeyUpdateAck (if b then 2 else 1) tag)) c.if-all.false))
