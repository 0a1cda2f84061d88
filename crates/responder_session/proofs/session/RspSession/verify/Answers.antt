use Rattle.std.proofs.Common.{◌∷◌, ap, sym, refl, ℕ, List}
use Rattle.responder_machine.specs.Records.{reply_record}
use Rattle.responder_machine.specs.Responder.{inner_reply}
use Rattle.responder_machine.specs.Session.{session_terms, turns_of}
use Rattle.spdm_grammar.specs.declared.told.phase.Stage.TheVariants.{Open}
use Rattle.responder_session.specs.Updates.{update_turn}
use Rattle.responder_session.proofs.Stands.{stands_past}
use Rattle.responder_session.proofs.Updating.{kept_verified}
use Rattle.responder_session.proofs.session.RspSession.verify.Goals as goal

pub returns : goal.returns
returns c = λ psk s tag stands at is.
    let message = c.args.opened.now.message.now in
    let sealed = c.args.opened.now.sealed.now in
    let t = update_turn message 3 tag in
    let reply = reply_record psk s t (inner_reply t) c.args.opened.now.pad.now in
    let keeps = kept_verified c.args.self.now.kept c.reply.new.self psk s sealed message reply tag at
    c.reply.ensures.rest (c.reply.ensures.last psk s t stands.keeps refl (ap (λ (b : List ℕ). 5 ∷ b) (sym is))) stands.keeps in
    stands_past c.args.self.now _ psk s sealed t reply Open refl refl refl refl refl keeps
    (c.clear.ensures (session_terms s).common.to_requester.transfer (turns_of s) t stands.large refl refl refl) stands.bytes stands
