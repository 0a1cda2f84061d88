use Rattle.std.proofs.Common.{◌∙◌, ap, sym, subst, refl}
use Rattle.responder_machine.specs.Place.{session_place}
use Rattle.responder_machine.specs.Refusal.{lacks_flag}
use Rattle.responder_machine.specs.Session.{session_terms}
use Rattle.spdm_basis.specs.Sizes.{hash_size}
use Rattle.spdm_grammar.specs.Message.{RequestMessage, request_message}
use Rattle.spdm_grammar.specs.Message.RequestMessage.{GetMeasurements, Heartbeat, KeyUpdate, EndSession, ChunkGet, PskFinish}
use Rattle.spdm_grammar.specs.Requests.{IsSoundRequest}
use Rattle.spdm_grammar.specs.declared.messages.error_code.ErrorCode.TheVariants.{UnsupportedRequest}
use Rattle.responder_session.proofs.Allowed.{asked_sound, unhandled, request_handled}
use Rattle.responder_session.proofs.Doing.{alive_deed, ended_deed, lacking_turn, refused_deed, allowed}
use Rattle.responder_session.proofs.session.RspSession.judge_request.Goals as goal

pub returns-then-lacks_flag : goal.returns-then-lacks_flag
returns-then-lacks_flag c = λ r s f sizes blocks given stands place read.
    refused_deed r s f c.args.message.now c.refused.new.out UnsupportedRequest c.refused.result c.refused.ensures.deed (c.refused.ensures.answer r s f place (λ e. cc))
    (lacking_turn r s f c.args.message.now (request_message c.args.request.now) read.0 read.1
    (sym (ap (lacks_flag (session_terms s)) c.byte_at.ensures) ∙ sym (c.lacks_flag.ensures (session_place s) place) ∙ c.if-lacks_flag.true))

pub returns-in-PskFinish : goal.returns-in-PskFinish
returns-in-PskFinish c = λ r s f sizes blocks given stands place read.
    c.finish.ensures r s f stands place (allowed r s c.args.message.now c.args.request.now (PskFinish c.in-PskFinish.verify.now) _ c.byte_at.result c.if-lacks_flag.false sizes read.0 read.1 (ap request_message c.in-PskFinish.is) c.byte_at.ensures (c.lacks_flag.ensures (session_place s) place))

pub returns-in-Heartbeat : goal.returns-in-Heartbeat
returns-in-Heartbeat c = λ r s f sizes blocks given stands place read.
    alive_deed r s f c.args.message.now c.write_alive.new.out (allowed r s c.args.message.now c.args.request.now Heartbeat _ c.byte_at.result c.if-lacks_flag.false sizes read.0 read.1 (ap request_message c.in-Heartbeat.is) c.byte_at.ensures (c.lacks_flag.ensures (session_place s) place)) c.write_alive.ensures

pub returns-in-EndSession : goal.returns-in-EndSession
returns-in-EndSession c = λ r s f sizes blocks given stands place read.
    ended_deed r s f c.args.message.now c.write_ended.new.out (allowed r s c.args.message.now c.args.request.now EndSession _ c.byte_at.result c.if-lacks_flag.false sizes read.0 read.1 (ap request_message c.in-EndSession.is) c.byte_at.ensures (c.lacks_flag.ensures (session_place s) place)) c.write_ended.ensures

pub returns-in-KeyUpdate : goal.returns-in-KeyUpdate
returns-in-KeyUpdate c = λ r s f sizes blocks given stands place read.
    let sound = asked_sound s c.args.message.now (request_message c.args.request.now) (λ i. (c.type_inv.message i).fits) read.1 in
    let good = subst (λ (q : RequestMessage). IsSoundRequest (hash_size (session_terms s).choice.hash) q) (ap request_message c.in-KeyUpdate.is) sound in
    c.update.ensures r s f good.0 good.1 place (λ at. (given at).epochs) (allowed r s c.args.message.now c.args.request.now (KeyUpdate c.in-KeyUpdate.op c.in-KeyUpdate.tag) _ c.byte_at.result c.if-lacks_flag.false sizes read.0 read.1 (ap request_message c.in-KeyUpdate.is) c.byte_at.ensures (c.lacks_flag.ensures (session_place s) place))

pub returns-in-GetMeasurements : goal.returns-in-GetMeasurements
returns-in-GetMeasurements c = λ r s f sizes blocks given stands place read.
    c.measure.ensures r s f blocks given place (allowed r s c.args.message.now c.args.request.now (GetMeasurements c.in-GetMeasurements.op) _ c.byte_at.result c.if-lacks_flag.false sizes read.0 read.1 (ap request_message c.in-GetMeasurements.is) c.byte_at.ensures (c.lacks_flag.ensures (session_place s) place))

pub returns-in-ChunkGet : goal.returns-in-ChunkGet
returns-in-ChunkGet c = λ r s f sizes blocks given stands place read.
    c.give.ensures r s f stands.large place (allowed r s c.args.message.now c.args.request.now (ChunkGet c.in-ChunkGet.handle c.in-ChunkGet.number) _ c.byte_at.result c.if-lacks_flag.false sizes read.0 read.1 (ap request_message c.in-ChunkGet.is) c.byte_at.ensures (c.lacks_flag.ensures (session_place s) place))

pub returns-in_default : goal.returns-in_default
returns-in_default c = λ r s f sizes blocks given stands place read.
    absurd (unhandled r s c.args.message.now (request_message c.args.request.now)
    (allowed r s c.args.message.now c.args.request.now (request_message c.args.request.now) _ c.byte_at.result c.if-lacks_flag.false sizes read.0 read.1 refl c.byte_at.ensures (c.lacks_flag.ensures (session_place s) place))
    (request_handled c.args.request.now c.in_default.not-PskFinish c.in_default.not-GetMeasurements c.in_default.not-Heartbeat c.in_default.not-KeyUpdate c.in_default.not-EndSession c.in_default.not-ChunkGet))
