use Rattle.std.proofs.Common.{◌≡◌, ◌∙◌, ◌+◌, ap, sym, subst, refl, ℕ, List, ◌∷◌, ◌-◌, ◌^◌, arith}
use Rattle.std.specs.Prelude.{min}
use Rattle.chunking.specs.Keeping as keeping
use Rattle.requester_machine.proofs.Few.{chunk_few}
use Rattle.requester_machine.specs.SpentLaws.{FewFor}
use Rattle.requester_machine.specs.History.Effect.{Nothing}
use Rattle.requester_machine.specs.Message.Ask.{AskChunk}
use Rattle.requester_machine.specs.Records.{answer_inner}
use Rattle.requester_machine.specs.Sending.{inner_request}
use Rattle.requester_machine.specs.Session.{session_terms, request_next, response_next, response_epoch}
use Rattle.requester_machine.specs.UnderWay.{AreUnderWay}
use Rattle.spdm_grammar.specs.Message.{ChunkMessage}
use Rattle.spdm_grammar.specs.Message.RequestMessage.{ChunkGet}
use Rattle.psk_session.specs.Course.{with_asked, with_taken}
use Rattle.psk_session.specs.ReqSession.{IsAwaiting}
use Rattle.requester_machine.proofs.Collected.{counted_on, is_next}
use Rattle.psk_session.proofs.req_session.ReqSession.go_on.Goals as goal

pub returns-clause-follows : goal.returns-clause-follows
returns-clause-follows c = λ psk s sealed handle number before piece its_handle its_number keeps stage waits few under gathered max same_handle same_number came.
    let op = c.args.op in
    let most = (session_terms s).common.to_requester.max in
    let next = is_next most handle number before piece same_handle same_number under came in
    let raised = c.saturating_add.result in
    let counted : raised ≡ piece.number + 1 =
    counted_on piece.number raised (c.saturating_add.ensures ∙ ap (λ (n : ℕ). min (n + 1) (2 ^ 16 - 1)) its_number) next.under.few in
    let inner = answer_inner psk s (AskChunk op handle number before) sealed in
    let after = with_taken psk s (AskChunk op handle number before) sealed Nothing in
    let response = few.1 in
    let small = few.2 in
    let chunks = piece ∷ before in
    let room = chunk_few sealed inner op handle number op piece.handle (piece.number + 1) before chunks s waits (ap (λ (n : ℕ). n + 1) next.counted) next.under.few few in
    let got : IsAwaiting c.fetch.new.self psk (with_asked psk after (AskChunk op c.args.handle raised chunks) (inner_request (ChunkGet c.args.handle raised)) c.args.pad.now) (AskChunk op c.args.handle raised chunks) =
    c.fetch.ensures.asked psk after chunks
    (c.count.ensures psk s (response_epoch s) sealed inner Nothing keeps refl refl refl (omega (arith, response, small)))
    stage room.1
    (subst (λ (h : ℕ). FewFor (AskChunk op h raised chunks) (request_next after + 1) (response_next after)) (sym its_handle)
    (subst (λ (n : ℕ). FewFor (AskChunk op piece.handle n chunks) (request_next after + 1) (response_next after)) (sym counted) room.2))
    (subst (λ (h : ℕ). AreUnderWay most h raised chunks) (sym its_handle) (subst (λ (n : ℕ). AreUnderWay most piece.handle n chunks) (sym counted) next.under))
    (subst (λ (x : List ChunkMessage). keeping.StandsFor c.args.self.now.gathered x) next.accepted gathered)
    max in (
      Nothing,
      AskChunk op piece.handle (piece.number + 1) chunks,
      inner_request (ChunkGet piece.handle (piece.number + 1)),
      refl,
      refl,
      subst (λ (h : ℕ). IsAwaiting c.fetch.new.self psk (with_asked psk after (AskChunk op h (piece.number + 1) chunks) (inner_request (ChunkGet h (piece.number + 1))) c.args.pad.now) (AskChunk op h (piece.number + 1) chunks)) its_handle
          (subst (λ (n : ℕ). IsAwaiting c.fetch.new.self psk (with_asked psk after (AskChunk op c.args.handle n chunks) (inner_request (ChunkGet c.args.handle n)) c.args.pad.now) (AskChunk op c.args.handle n chunks)) counted got),
    )
