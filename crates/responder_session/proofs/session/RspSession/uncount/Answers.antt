use Rattle.std.proofs.Common.{refl}
use Rattle.responder_machine.specs.Session.{session_terms, turns_of}
use Rattle.responder_session.proofs.Pendings.{stands_alike}
use Rattle.responder_session.specs.declared.session.RspSession.{RspSession}
use Rattle.responder_session.proofs.session.RspSession.uncount.Goals as goal

pub returns : goal.returns
returns c = λ psk s e is stands.
    let old = c.args.self.now in
    let new : RspSession = record { stage = old.stage; kept = old.kept; exchange = old.exchange; large = c.uncount.new.self; bytes = old.bytes } in
    stands_alike s e is.alike old new psk stands refl refl refl refl (c.uncount.ensures (session_terms s).common.to_requester.transfer (turns_of s) (turns_of e) is.large stands.large)
