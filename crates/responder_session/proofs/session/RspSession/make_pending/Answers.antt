use Rattle.std.proofs.Common.{refl, ◌≡◌, ◌≤◌, ◌<◌, ◌+◌, ◌∷◌, ap, sym, subst, ℕ, List, length}
use Rattle.negotiate.specs.declared.shared.Common.{Common}
use Rattle.responder_rules.specs.LargeAnswer as large_answers
use Rattle.responder_machine.specs.Session.{session_terms, turns_of}
use Rattle.responder_machine.specs.Turn.{Turn}
use Rattle.spdm_grammar.specs.declared.names.TheConstants.{MIN_DATA_TRANSFER_SIZE}
use Rattle.responder_session.proofs.LateFetch.{last_unseen, recalled, recalled_alike, turns_recalled}
use Rattle.responder_session.proofs.Pendings.{stands_alike}
use Rattle.responder_session.specs.LateFetch.{events_pending}
use Rattle.responder_session.specs.declared.session.RspSession.{RspSession}
use Rattle.responder_session.proofs.session.RspSession.make_pending.Goals as goal

pub returns : goal.returns
returns c = λ r s sizes large unseen stands.
    let old = c.args.self.now in
    let answer = c.args.answer.now in
    let handle = c.args.handle in
    let transfer = (session_terms s).common.to_requester.transfer in
    let new : RspSession = record { stage = old.stage; kept = old.kept; exchange = old.exchange; large = c.begin.new.self; bytes = old.bytes } in
    let same : old.kept.terms.common.to_requester.transfer ≡ transfer = ap (λ (x : Common). x.to_requester.transfer) stands.keeps.terms.common in
    let least : MIN_DATA_TRANSFER_SIZE ≤ old.kept.terms.common.to_requester.transfer = subst (λ (n : ℕ). MIN_DATA_TRANSFER_SIZE ≤ n) (sym same) sizes.least in
    let long : old.kept.terms.common.to_requester.transfer < length answer + 16 = subst (λ (n : ℕ). n < length answer + 16) (sym same) large in
    let before : large_answers.StandsFor old.large old.kept.terms.common.to_requester.transfer (turns_of s) = subst (λ (n : ℕ). large_answers.StandsFor old.large n (turns_of s)) (sym same) stands.large in
    let left = recalled transfer handle answer c.begin.new.self (turns_of s) unseen
    (λ p taken gets under bytes. subst (λ (n : ℕ). large_answers.StandsFor c.begin.new.self n (p ∷ turns_of s)) same (c.begin.ensures (turns_of s) p least long before taken gets under bytes)) in
    stands_alike s (events_pending answer handle s) (recalled_alike answer handle s (last_unseen (turns_of s) unseen)) old new r.psk stands refl refl refl refl
    (subst (λ (ts : List Turn). large_answers.StandsFor c.begin.new.self transfer ts) (sym (turns_recalled answer handle s)) left)
