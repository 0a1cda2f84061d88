use Rattle.std.proofs.Common.{refl}
use Rattle.responder_machine.specs.Records.{reply_record}
use Rattle.responder_machine.specs.Responder.{inner_reply}
use Rattle.responder_machine.specs.Session.{session_terms, turns_of}
use Rattle.spdm_grammar.specs.Message.RequestMessage.{ChunkGet}
use Rattle.responder_session.specs.Turns.{KeepsKeys, answered_turn}
use Rattle.responder_session.proofs.Moves.{kept_plain}
use Rattle.responder_session.proofs.Stands.{stands_by}
use Rattle.responder_session.proofs.session.RspSession.give_chunk.Goals as goal

pub returns : goal.returns
returns c = λ psk s handle number stands.
    let sealed = c.args.opened.now.sealed.now in
    let answer = c.args.answer.now in
    let t = answered_turn c.args.opened.now.message.now (ChunkGet handle number) answer in
    let keys : KeepsKeys t = record { finish = refl; update = refl; key = refl; all = refl; verify = refl } in
    let reply = reply_record psk s t (inner_reply t) c.args.opened.now.pad.now in
    let keeps = kept_plain c.args.self.now.kept c.reply.new.self psk s sealed t reply c.reply.ensures.rest refl
    (c.reply.ensures.last psk s t stands.keeps refl refl) keys stands.keeps in
    stands_by c.args.self.now (record c.args.self.now { kept = c.reply.new.self; large = c.advance.new.self }) psk s sealed t reply refl refl refl keys (λ at. refl) keeps
    (c.advance.ensures (session_terms s).common.to_requester.transfer (turns_of s) t stands.large refl refl refl) stands.bytes stands
