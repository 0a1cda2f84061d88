use Rattle.std.proofs.Common.{refl, ◌≡◌, ◌∙◌, ap, subst, sym, ℕ, List, arith}
use Rattle.std.specs.Prelude.{Ok, Result}
use Rattle.requester_core.proofs.Answered.{clear_request}
use Rattle.requester_core.proofs.Carrying.{carried_by, other_ack}
use Rattle.requester_machine.proofs.ResponseLengths.{ack_short}
use Rattle.requester_core.specs.ReplyOutcome.{IsCarried}
use Rattle.requester_core.specs.Outgoing.{IsCut}
use Rattle.requester_core.specs.ClearState.{Seen, Shows}
use Rattle.requester_core.specs.declared.clear.outstanding.TransferMode.TheVariants as modes
use Rattle.negotiate.specs.declared.shared.Common.{Common}
use Rattle.chunking.specs.Cutting.{nth_chunk}
use Rattle.requester_machine.specs.Bodies.{first_cause}
use Rattle.requester_machine.specs.ClearAnswers.{Carried, ack_carries, ack_tests, acknowledged, carried_led, has_summary, reading_of}
use Rattle.requester_machine.specs.ClearAnswers.Carried.{Refused}
use Rattle.requester_machine.specs.History.{connection_terms}
use Rattle.requester_machine.specs.Sending.{piece_of}
use Rattle.spdm_grammar.specs.Message.{ResponseMessage, response_message}
use Rattle.spdm_grammar.specs.Message.ResponseMessage.{ChunkSendAck}
use Rattle.spdm_grammar.specs.Requests.{canonical_request}
use Rattle.spdm_grammar.specs.declared.messages.malformed.Malformed.{Malformed}
use Rattle.spdm_grammar.specs.declared.messages.response.Response.{Response}
use Rattle.spdm_machine.specs.Terms.{hash_len}
use Rattle.requester_core.proofs.clear.clear_state.ClearState.on_sent.Goals as goal

pub returns-in-Err : goal.returns-in-Err
returns-in-Err c = λ q h request setup shows awaits kind keeps up short cut.
    let common = (connection_terms h).common in
    let reads = c.in-Err.ensures h request shows (clear_request q h request awaits) kind in
    λ f. (ap (λ (r : Result ResponseMessage Malformed). carried_led q h f request (ack_carries h common request (piece_of common request c.args.handle c.args.number) r)) reads, refl)

pub returns-in-Error : goal.returns-in-Error
returns-in-Error c = λ q h request setup shows awaits kind keeps up short cut.
    let common = (connection_terms h).common in
    let piece = piece_of common request c.args.handle c.args.number in
    let reads = c.in-Ok.ensures h request shows (clear_request q h request awaits) kind ∙ ap (λ (x : Response). Ok (response_message x)) c.in-Error.is in
    let leads : ack_carries h common request piece (reading_of h request c.args.message.now) ≡ Refused c.in-Error.code = ap (ack_carries h common request piece) reads in
    subst (λ (x : Carried). IsCarried q h request x c.refuse.result c.args.self.now c.refuse.new.self c.args.out.now) (sym leads)
    (carried_by q h request (Refused c.in-Error.code) c.refuse.result c.args.self.now c.refuse.new.self c.args.out.now (λ f. c.refuse.ensures h request c.args.out.now shows (clear_request q h request awaits) kind))

pub returns-in-ChunkSendAck : goal.returns-in-ChunkSendAck
returns-in-ChunkSendAck c = λ q h request setup shows awaits kind keeps up short cut.
    let before : Seen = record { negotiating = c.self.inside.negotiating; outgoing = c.self.inside.outgoing; brought = c.self.inside.brought } in
    let shown = subst (λ (s : Seen). Shows s h) (sym c.self.view_is) shows in
    let kept = subst (λ (s : Seen). s.outgoing.request ≡ canonical_request request) (sym c.self.view_is) keeps in
    let common = (connection_terms h).common in
    let handle : ℕ = c.args.handle in
    let number : ℕ = c.args.number in
    let piece = piece_of common request handle number in
    let early = c.in-ChunkSendAck.early in
    let of : ℕ = c.in-ChunkSendAck.of in
    let at : ℕ = c.in-ChunkSendAck.at in
    let response = c.in-ChunkSendAck.response.now in
    let reads : reading_of h request c.args.message.now ≡ Ok (ChunkSendAck early of at response) =
    c.in-Ok.ensures h request shows (clear_request q h request awaits) kind ∙ ap (λ (x : Response). Ok (response_message x)) c.in-ChunkSendAck.is in
    let leads : ack_carries h common request piece (reading_of h request c.args.message.now) ≡ acknowledged h common request piece early response (first_cause (ack_tests piece early of at response)) = ap (ack_carries h common request piece) reads in
    let fits = ack_short (hash_len (connection_terms h)) (has_summary request) c.args.message.now early of at response reads in
    let transfer : common.to_responder.transfer ≡ c.common.result.now.to_responder.transfer = ap (λ (x : Common). x.to_responder.transfer) (shown.negotiating.common ∙ sym c.common.ensures) in
    let cut_here = subst (λ (n : ℕ). IsCut (modes.ByChunks handle number) n before.outgoing.request) transfer (subst (λ (m : List ℕ). IsCut (modes.ByChunks handle number) common.to_responder.transfer m) (sym kept) cut) in
    let last : c.is_last-last.result ≡ piece.last =
    c.is_last-last.ensures cut_here ∙ ap (λ (n : ℕ). (nth_chunk n handle before.outgoing.request number).last) (sym transfer) ∙ ap (λ (m : List ℕ). (nth_chunk common.to_responder.transfer handle m number).last) kept in
    subst (λ (x : Carried). IsCarried q h request x c.on_ack.result c.args.self.now c.on_ack.new.self c.on_ack.new.out) (sym leads)
    (c.on_ack.ensures q h request setup shows awaits kind keeps up (omega (arith, fits, short)) cut last)

pub returns-in_default : goal.returns-in_default
returns-in_default c = λ q h request setup shows awaits kind keeps up short cut.
    let common = (connection_terms h).common in
    let piece = piece_of common request c.args.handle c.args.number in
    let reads = c.in-Ok.ensures h request shows (clear_request q h request awaits) kind in
    let leads = ap (ack_carries h common request piece) reads ∙ other_ack h common request piece c.in-Ok.response c.in_default.not-Error c.in_default.not-ChunkSendAck in
    λ f. (ap (carried_led q h f request) leads, refl)
