use Rattle.std.proofs.Common.{Some, ◌≡◌, ◌∙◌, ◌∷◌, ap, refl, ℕ, List}
use Rattle.responder_machine.specs.Records.{reply_record}
use Rattle.responder_machine.specs.Responder.{data_turn, inner_reply}
use Rattle.responder_machine.specs.Session.{session_terms, turns_of}
use Rattle.spdm_grammar.specs.declared.told.phase.Stage.{Stage}
use Rattle.spdm_grammar.specs.declared.told.phase.Stage.TheVariants.{Open}
use Rattle.responder_session.specs.Turns.{KeepsKeys}
use Rattle.responder_session.proofs.Moves.{same_stage}
use Rattle.responder_session.proofs.Stands.{stands_past}
use Rattle.responder_session.proofs.Steps.{kept_data}
use Rattle.responder_session.proofs.session.RspSession.take_data.Goals as goal

pub returns : goal.returns
returns c = λ psk s f stands at same short.
    let t = data_turn f c.args.opened.now.message.now in
    let sealed = c.args.opened.now.sealed.now in
    let reply = reply_record psk s t (inner_reply t) c.args.opened.now.pad.now in
    let inner : inner_reply t ≡ 1 ∷ c.args.reply.now = ap (λ (b : List ℕ). 1 ∷ b) same in
    let keys : KeepsKeys t = record { finish = refl; update = refl; key = refl; all = refl; verify = refl } in
    let keeps = kept_data c.args.self.now.kept c.reply.new.self _ psk s f sealed c.args.opened.now.message.now reply c.reply.ensures.rest refl
    (c.reply.ensures.last psk s t stands.keeps refl inner) stands.keeps in
    stands_past c.args.self.now _ psk s sealed t reply Open (stands.stage ∙ ap (λ (x : Stage). Some x) at) (same_stage s sealed t reply keys ∙ at) refl refl refl keeps
    (c.clear.ensures (session_terms s).common.to_requester.transfer (turns_of s) t stands.large refl refl refl) (c.hold.ensures short) stands
