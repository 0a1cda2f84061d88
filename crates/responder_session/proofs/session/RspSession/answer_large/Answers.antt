use Rattle.std.proofs.Common.{◌≡◌, ◌∙◌, ◌∷◌, ◌≤◌, ◌<◌, ◌+◌, ap, sym, subst, refl, ℕ, List, length, arith}
use Rattle.negotiate.specs.declared.shared.Common.{Common}
use Rattle.responder_rules.specs.LargeAnswer as large_answers
use Rattle.responder_machine.specs.Records.{reply_record}
use Rattle.responder_machine.specs.Responder.{inner_reply}
use Rattle.responder_machine.specs.Session.{session_terms, turns_of}
use Rattle.spdm_grammar.specs.Message.RequestMessage.{GetMeasurements}
use Rattle.spdm_grammar.specs.declared.names.TheConstants.{MIN_DATA_TRANSFER_SIZE}
use Rattle.responder_session.specs.RequestEffects.{large_turn}
use Rattle.responder_session.specs.Turns.{KeepsKeys}
use Rattle.responder_session.proofs.Moves.{kept_plain}
use Rattle.responder_session.proofs.Stands.{stands_by}
use Rattle.responder_session.proofs.session.RspSession.answer_large.Goals as goal

pub returns : goal.returns
returns c = λ r s op stands sizes long.
    let sealed = c.args.opened.now.sealed.now in
    let answer = c.args.answer.now in
    let handle = c.args.handle in
    let t = large_turn c.args.opened.now.message.now (GetMeasurements op) answer handle in
    let keys : KeepsKeys t = record { finish = refl; update = refl; key = refl; all = refl; verify = refl } in
    let reply = reply_record r.psk s t (inner_reply t) c.args.opened.now.pad.now in
    let transfer = (session_terms s).common.to_requester.transfer in
    let same : c.args.self.now.kept.terms.common.to_requester.transfer ≡ transfer = ap (λ (x : Common). x.to_requester.transfer) stands.keeps.terms.common in
    let least : MIN_DATA_TRANSFER_SIZE ≤ c.args.self.now.kept.terms.common.to_requester.transfer = subst (λ (n : ℕ). MIN_DATA_TRANSFER_SIZE ≤ n) (sym same) sizes.least in
    let whole : c.as_slice.result.now ≡ answer = c.as_slice.ensures.value in
    let keeps = kept_plain c.args.self.now.kept c.reply.new.self r.psk s sealed t reply c.reply.ensures.rest refl
    (c.reply.ensures.last r.psk s t stands.keeps refl (ap (λ (b : List ℕ). 5 ∷ b) (sym (c.as_slice-answer.ensures.value ∙ c.write_large_response.ensures.value)))) keys stands.keeps in
    let large = c.begin.ensures (turns_of s) t least (subst (λ (n : ℕ). n < length c.as_slice.result.now + 16) (sym same) (subst (λ (x : List ℕ). transfer < length x + 16) (sym whole) (omega (arith, long))))
    (subst (λ (n : ℕ). large_answers.StandsFor c.args.self.now.large n (turns_of s)) (sym same) stands.large) refl refl refl (ap (λ (x : List ℕ). Rattle.std.specs.Prelude.Some x) (sym whole)) in
    stands_by c.args.self.now (record c.args.self.now { kept = c.reply.new.self; large = c.begin.new.self }) r.psk s sealed t reply refl refl refl keys (λ at. refl) keeps
    (subst (λ (n : ℕ). large_answers.StandsFor c.begin.new.self n (t ∷ turns_of s)) same large) stands.bytes stands
