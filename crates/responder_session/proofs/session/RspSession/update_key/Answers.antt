use Rattle.std.proofs.Common.{◌∷◌, ◌<◌, ◌-◌, ◌^◌, ap, sym, subst, refl, ℕ, List}
use Rattle.key_schedule.specs.Keys.{DirectionSecret}
use Rattle.key_schedule.specs.Purpose.{application_record}
use Rattle.key_schedule.specs.declared.direction.Direction.TheVariants.{Request}
use Rattle.responder_machine.specs.Records.{reply_record}
use Rattle.responder_machine.specs.Responder.{inner_reply}
use Rattle.responder_machine.specs.Session.{session_terms, t2_of, turns_of, request_epoch}
use Rattle.session_keys.specs.Keys.{IsKeyOf}
use Rattle.spdm_grammar.specs.declared.told.phase.Stage.TheVariants.{Verifying}
use Rattle.responder_session.specs.Updates.{update_turn}
use Rattle.responder_session.specs.declared.kept.Kept.{Kept}
use Rattle.responder_session.proofs.Stands.{stands_past}
use Rattle.responder_session.proofs.Steps.{kept_key, open_request}
use Rattle.responder_session.proofs.session.RspSession.update_key.Goals as goal

pub returns : goal.returns
returns c = λ psk s tag stands at epochs is.
    let message = c.args.opened.now.message.now in
    let sealed = c.args.opened.now.sealed.now in
    let t = update_turn message 1 tag in
    let choice = (session_terms s).choice in
    let p = application_record psk (t2_of s) Request (request_epoch s) in
    let reply = reply_record psk s t (inner_reply t) c.args.opened.now.pad.now in
    let same = ap (λ (x : Kept). x.request) c.reply.ensures.rest in
    let key = subst (λ (k : DirectionSecret). IsKeyOf k choice p) (sym same) (open_request c.args.self.now.kept psk s at stands.keeps) in
    let low = subst (λ (n : ℕ). n < 2 ^ 64 - 1) (sym key.secret.epoch) epochs.request in
    let keeps = kept_key c.args.self.now.kept c.reply.new.self c.rekey_requests.new.self psk s sealed message reply tag at
    c.reply.ensures.rest c.rekey_requests.ensures.rest (c.rekey_requests.ensures.key low choice p key)
    (c.reply.ensures.last psk s t stands.keeps refl (ap (λ (b : List ℕ). 5 ∷ b) (sym is))) stands.keeps in
    stands_past c.args.self.now _ psk s sealed t reply Verifying refl refl refl refl refl keeps
    (c.clear.ensures (session_terms s).common.to_requester.transfer (turns_of s) t stands.large refl refl refl) stands.bytes stands
