use Rattle.std.proofs.Common.{◌≡◌, refl, sym, subst, List}
use Rattle.responder_rules.specs.LargeAnswer as large_answers
use Rattle.responder_machine.specs.Session.{session_terms, turns_of}
use Rattle.responder_machine.specs.Turn.{Turn}
use Rattle.responder_session.proofs.Pendings.{forgotten_alike, stands_alike, turns_forgotten}
use Rattle.responder_session.specs.Pending.{events_unseen}
use Rattle.responder_session.specs.declared.session.RspSession.{RspSession}
use Rattle.responder_session.proofs.session.RspSession.forget_pending.Goals as goal

pub returns : goal.returns
returns c = λ psk s large measures stands.
    let old = c.args.self.now in
    let new : RspSession = record { stage = old.stage; kept = old.kept; exchange = old.exchange; large = c.forget.new.self; bytes = old.bytes } in
    let transfer = (session_terms s).common.to_requester.transfer in
    stands_alike s (events_unseen s) (forgotten_alike s measures) old new psk stands refl refl refl refl
    (subst (λ (ts : List Turn). large_answers.StandsFor c.forget.new.self transfer ts) (sym (turns_forgotten s)) (c.forget.ensures transfer (turns_of s) stands.large large))
