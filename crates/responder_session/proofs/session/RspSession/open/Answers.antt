use Rattle.std.proofs.Common.{◌≡◌, ◌∙◌, ◌∷◌, ◌++◌, ap, sym, refl, ℕ, List}
use Rattle.responder_machine.specs.Records.{reply_record}
use Rattle.responder_machine.specs.Responder.{inner_reply}
use Rattle.responder_machine.specs.Session.{session_vca, exchange_of, exchange_answer, session_terms, t1_of, turns_of}
use Rattle.running_hash.specs.Hash.{hash_of}
use Rattle.spdm_grammar.specs.Message.RequestMessage.{PskFinish}
use Rattle.spdm_grammar.specs.Message.ResponseMessage.{PskFinishRsp}
use Rattle.spdm_grammar.specs.Responses.{canonical_response}
use Rattle.spdm_grammar.specs.declared.told.phase.Stage.TheVariants.{Open}
use Rattle.responder_session.specs.Turns.{answered_turn}
use Rattle.responder_session.proofs.Finish.{kept_finished}
use Rattle.responder_session.proofs.Stands.{stands_past}
use Rattle.responder_session.proofs.session.RspSession.open.Goals as goal

pub returns : goal.returns
returns c = λ psk s verify stands at is.
    let message = c.args.opened.now.message.now in
    let sealed = c.args.opened.now.sealed.now in
    let pad = c.args.opened.now.pad.now in
    let answer = canonical_response PskFinishRsp in
    let t = answered_turn message (PskFinish verify) answer in
    let choice = (session_terms s).choice in
    let same : inner_reply t ≡ 5 ∷ c.args.answer.now = ap (λ (b : List ℕ). 5 ∷ b) (sym is) in
    let before = session_vca s ++ exchange_of s ++ exchange_answer s in
    let hash : c.th2-hash.result ≡ (hash_of choice.hash).digest (before ++ message ++ answer) =
    c.th2-hash.ensures.value choice psk (t1_of s) before stands.handshake stands.pushed
    ∙ ap (λ (x : List ℕ). (hash_of choice.hash).digest (before ++ message ++ x)) is in
    let reply = reply_record psk s t (inner_reply t) pad in
    let fresh = stands.fresh at in
    let keeps = kept_finished c.args.self.now.kept c.reply.new.self c.past_handshake.new.self c.app_keys-keys.result.request c.app_keys-keys.result.response psk s sealed message verify reply c.th2-hash.result
    c.reply.ensures.rest c.past_handshake.ensures (c.reply.ensures.last psk s t stands.keeps refl same)
    (c.app_keys-keys.ensures.request choice psk (t1_of s) (before ++ message ++ answer) stands.handshake hash)
    (c.app_keys-keys.ensures.response choice psk (t1_of s) (before ++ message ++ answer) stands.handshake hash)
    hash fresh.request_epoch fresh.response_epoch stands.keeps in
    stands_past c.args.self.now _ psk s sealed t reply Open refl refl refl refl refl keeps
    (c.clear.ensures (session_terms s).common.to_requester.transfer (turns_of s) t stands.large refl refl refl) stands.bytes stands
