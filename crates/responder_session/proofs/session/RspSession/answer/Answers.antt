use Rattle.std.proofs.Common.{refl}
use Rattle.responder_machine.specs.Records.{reply_record}
use Rattle.responder_machine.specs.Responder.{inner_reply}
use Rattle.responder_machine.specs.Session.{session_terms, turns_of}
use Rattle.responder_session.specs.Turns.{answered_turn}
use Rattle.responder_session.proofs.Moves.{kept_plain}
use Rattle.responder_session.proofs.Stands.{stands_by}
use Rattle.responder_session.proofs.Steps.{no_chunk, quiet_keys}
use Rattle.responder_session.proofs.session.RspSession.answer.Goals as goal

pub returns : goal.returns
returns c = λ psk s asked stands quiet.
    let message = c.args.opened.now.message.now in
    let sealed = c.args.opened.now.sealed.now in
    let answer = c.args.answer.now in
    let t = answered_turn message asked answer in
    let keys = quiet_keys message answer asked quiet in
    let reply = reply_record psk s t (inner_reply t) c.args.opened.now.pad.now in
    let keeps = kept_plain c.args.self.now.kept c.reply.new.self psk s sealed t reply c.reply.ensures.rest refl
    (c.reply.ensures.last psk s t stands.keeps keys.all refl) keys stands.keeps in
    stands_by c.args.self.now (record c.args.self.now { kept = c.reply.new.self; large = c.clear.new.self }) psk s sealed t reply refl refl refl keys (λ at. refl) keeps
    (c.clear.ensures (session_terms s).common.to_requester.transfer (turns_of s) t stands.large refl (no_chunk message answer asked quiet) refl) stands.bytes stands
