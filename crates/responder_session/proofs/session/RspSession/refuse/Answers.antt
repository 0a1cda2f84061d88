use Rattle.std.proofs.Common.{◌∷◌, ap, sym, refl, ℕ, List}
use Rattle.responder_machine.specs.Handling.{refused_turn}
use Rattle.responder_machine.specs.Place.{session_place}
use Rattle.responder_machine.specs.Records.{reply_record}
use Rattle.responder_machine.specs.Responder.{inner_reply}
use Rattle.responder_session.specs.Turns.{KeepsKeys}
use Rattle.responder_session.proofs.Moves.{kept_plain}
use Rattle.responder_session.proofs.Stands.{stands_by}
use Rattle.responder_session.proofs.session.RspSession.refuse.Goals as goal

pub returns : goal.returns
returns c = λ r s f code stands is.
    let t = refused_turn r (session_place s) c.args.opened.now.message.now f code in
    let sealed = c.args.opened.now.sealed.now in
    let reply = reply_record r.psk s t (inner_reply t) c.args.opened.now.pad.now in
    let keys : KeepsKeys t = record { finish = refl; update = refl; key = refl; all = refl; verify = refl } in
    let keeps = kept_plain c.args.self.now.kept c.reply.new.self r.psk s sealed t reply c.reply.ensures.rest refl
    (c.reply.ensures.last r.psk s t stands.keeps refl (ap (λ (b : List ℕ). 5 ∷ b) (sym is))) keys stands.keeps in
    stands_by c.args.self.now (record c.args.self.now { kept = c.reply.new.self }) r.psk s sealed t reply refl refl refl keys (λ at. refl) keeps
    (record { left = stands.large.left; next = stands.large.next }) stands.bytes stands
