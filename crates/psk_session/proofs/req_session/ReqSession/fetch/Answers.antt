use Rattle.std.proofs.Common.{subst, refl, ℕ, List}
use Rattle.requester_machine.specs.Message.Ask.{AskChunk}
use Rattle.requester_machine.specs.Session.{session_terms}
use Rattle.psk_session.specs.Course.{with_asked}
use Rattle.psk_session.specs.ReqSession.{IsAwaiting}
use Rattle.psk_session.specs.Waiting.{Awaits}
use Rattle.psk_session.specs.declared.session_request.Awaited.TheVariants.{Chunk}
use Rattle.psk_session.proofs.req_session.ReqSession.fetch.Goals as goal

pub returns-clause-asked : goal.returns-clause-asked
returns-clause-asked c = λ psk s before keeps stage few next under gathered max.
    let a = AskChunk c.args.op c.args.handle c.args.number before in
    let awaits : Awaits (Chunk c.args.op c.args.handle c.args.number) c.args.self.now.gathered (session_terms s).common.to_requester.max a =
    record { before = before; is = refl; behind = under; gathered = (gathered, max) } in
    subst (λ (m : List ℕ). IsAwaiting c.send.new.self psk (with_asked psk s a m c.args.pad.now) a) c.write_inner_request.ensures.value
    (c.send.ensures.sent psk s a keeps stage few next awaits)
