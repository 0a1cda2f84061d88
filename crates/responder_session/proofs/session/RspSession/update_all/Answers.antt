use Rattle.std.proofs.Common.{◌≡◌, ◌∙◌, ◌∷◌, ◌<◌, ◌+◌, ◌-◌, ◌^◌, ap, sym, subst, refl, ℕ, List}
use Rattle.std.specs.Prelude.{Some, Option}
use Rattle.key_schedule.specs.Keys.{DirectionSecret}
use Rattle.key_schedule.specs.Purpose.{application_record}
use Rattle.key_schedule.specs.declared.direction.Direction.TheVariants.{Request, Response}
use Rattle.responder_machine.specs.History.{KeptRecord}
use Rattle.responder_machine.specs.Records.{reply_record}
use Rattle.responder_machine.specs.Responder.{inner_reply}
use Rattle.responder_machine.specs.Session.{session_terms, t2_of, turns_of, request_epoch, response_epoch}
use Rattle.session_keys.specs.Keys.{IsKeyOf}
use Rattle.spdm_basis.specs.SessionIdBytes.{session_id_bytes}
use Rattle.spdm_grammar.specs.declared.told.phase.Stage.TheVariants.{Verifying}
use Rattle.spdm_machine.specs.Keys.{sealed_of}
use Rattle.responder_session.specs.Updates.{update_turn}
use Rattle.responder_session.specs.declared.kept.Kept.{Kept}
use Rattle.responder_session.proofs.Stands.{stands_past}
use Rattle.responder_session.proofs.Steps.{kept_all, all_sealed, open_request, open_response}
use Rattle.responder_session.proofs.session.RspSession.update_all.Goals as goal

pub returns : goal.returns
returns c = λ psk s tag stands at epochs is.
    let message = c.args.opened.now.message.now in
    let sealed = c.args.opened.now.sealed.now in
    let pad = c.args.opened.now.pad.now in
    let old = c.args.self.now.kept in
    let one = c.rekey_responses.new.self in
    let t = update_turn message 2 tag in
    let choice = (session_terms s).choice in
    let requests = application_record psk (t2_of s) Request (request_epoch s) in
    let responses = application_record psk (t2_of s) Response (response_epoch s) in
    let next = application_record psk (t2_of s) Response (response_epoch s + 1) in
    let same : inner_reply t ≡ 5 ∷ c.args.answer.now = ap (λ (b : List ℕ). 5 ∷ b) (sym is) in
    let kept : List ℕ → Option KeptRecord = λ reply. Some (record { sealed = sealed; reply = reply }) in
    let response = open_response old psk s at stands.keeps in
    let other = c.rekey_responses.ensures.key (subst (λ (n : ℕ). n < 2 ^ 64 - 1) (sym response.secret.epoch) epochs.response) choice responses response in
    let key = subst (λ (k : DirectionSecret). IsKeyOf k choice requests) (sym (ap (λ (x : Kept). x.request) c.reply.ensures.rest ∙ ap (λ (x : Kept). x.request) c.rekey_responses.ensures.rest))
    (open_request old psk s at stands.keeps) in
    let low = subst (λ (n : ℕ). n < 2 ^ 64 - 1) (sym key.secret.epoch) epochs.request in
    let told = c.reply.ensures.key choice next other
    ∙ ap (λ (x : Kept). kept (sealed_of choice next x.response_next (session_id_bytes x.id.req x.id.rsp) (5 ∷ c.args.answer.now) pad)) c.rekey_responses.ensures.rest
    ∙ ap kept (all_sealed old psk s message c.args.answer.now pad tag at stands.keeps same) in
    let reply = reply_record psk s t (inner_reply t) pad in
    let keeps = kept_all old one c.reply.new.self c.rekey_requests.new.self psk s sealed message reply tag at
    c.rekey_responses.ensures.rest c.reply.ensures.rest c.rekey_requests.ensures.rest (c.rekey_requests.ensures.key low choice requests key) other told stands.keeps in
    stands_past c.args.self.now _ psk s sealed t reply Verifying refl refl refl refl refl keeps
    (c.clear.ensures (session_terms s).common.to_requester.transfer (turns_of s) t stands.large refl refl refl) stands.bytes stands
