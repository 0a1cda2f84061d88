use Rattle.std.proofs.Common.{refl, ◌≡◌, ◌≤◌, ◌<◌, ◌+◌, ◌∙◌, ap, sym, subst, ℕ, List, length}
use Rattle.std.specs.Prelude.{is_some}
use Rattle.negotiate.specs.declared.shared.Common.{Common}
use Rattle.responder_rules.specs.LargeAnswer as large_answers
use Rattle.responder_rules.specs.LargeAnswer.{turns_with}
use Rattle.responder_machine.specs.LargeMessages.{pending_of}
use Rattle.responder_machine.specs.Session.{session_terms, turns_of}
use Rattle.responder_machine.specs.Turn.{Turn}
use Rattle.spdm_grammar.specs.declared.names.TheConstants.{MIN_DATA_TRANSFER_SIZE}
use Rattle.responder_session.proofs.Pendings.{events_alike, stands_alike, turns_replaced}
use Rattle.responder_session.specs.Pending.{events_with}
use Rattle.responder_session.specs.declared.session.RspSession.{RspSession}
use Rattle.responder_session.proofs.session.RspSession.set_pending_bytes.Goals as goal

pub returns : goal.returns
returns c = λ r s sizes large pending measures stands.
    let old = c.args.self.now in
    let answer = c.args.answer.now in
    let new : RspSession = record { stage = old.stage; kept = old.kept; exchange = old.exchange; large = c.put.new.self; bytes = old.bytes } in
    let same : old.kept.terms.common.to_requester.transfer ≡ (session_terms s).common.to_requester.transfer = ap (λ (x : Common). x.to_requester.transfer) stands.keeps.terms.common in
    let put = c.put.ensures (turns_of s) (subst (λ (n : ℕ). MIN_DATA_TRANSFER_SIZE ≤ n) (sym same) sizes.least) (subst (λ (n : ℕ). n < length answer + 16) (sym same) large)
    (subst (λ (n : ℕ). large_answers.StandsFor old.large n (turns_of s)) (sym same) stands.large) (ap (λ (n : ℕ). is_some (pending_of n (turns_of s))) same ∙ pending) in
    stands_alike s (events_with answer s) (events_alike answer s measures) old new r.psk stands refl refl refl refl
    (subst (λ (ts : List Turn). large_answers.StandsFor c.put.new.self (session_terms s).common.to_requester.transfer ts) (sym (turns_replaced answer s))
    (subst (λ (n : ℕ). large_answers.StandsFor c.put.new.self n (turns_with answer (turns_of s))) same put))
