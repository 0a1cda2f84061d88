use Rattle.std.proofs.Common.{refl, ◌≡◌, ◌∙◌, ap, subst, sym, ℕ}
use Rattle.std.specs.Prelude.{Ok, Result}
use Rattle.requester_core.proofs.Answered.{clear_request}
use Rattle.requester_core.proofs.Carrying.{carried_by}
use Rattle.requester_core.proofs.Fetched.{led_leaves, other_fault, other_get, same_chunk}
use Rattle.requester_core.specs.Gathering.{IsFetched}
use Rattle.requester_core.specs.ReplyOutcome.{IsCarried}
use Rattle.requester_machine.specs.Answers.{is_refused}
use Rattle.requester_machine.specs.ClearAnswers.{Carried, carried_led, chunk_carries, collected, get_fault, reading_of}
use Rattle.requester_machine.specs.ClearAnswers.Carried.{Ignored, Refused}
use Rattle.requester_machine.specs.History.Effect.{Refuses}
use Rattle.requester_machine.specs.UnderWay.{AreUnderWay}
use Rattle.spdm_grammar.specs.Message.{ResponseMessage, chunk_message, response_message}
use Rattle.spdm_grammar.specs.declared.told.event.ReqIgnored.TheVariants as ignored
use Rattle.spdm_grammar.specs.declared.messages.malformed.Malformed.{Malformed}
use Rattle.spdm_grammar.specs.declared.messages.response.Response.{Response}
use Rattle.requester_core.proofs.clear.clear_state.ClearState.on_get.Goals as goal

pub returns-in-Err : goal.returns-in-Err
returns-in-Err c = λ q h request before setup shows awaits kind keeps up short under gathered max.
    let reads = c.in-Err.ensures h request shows (clear_request q h request awaits) kind in
    record {
      carries = λ f. (ap (λ (r : Result ResponseMessage Malformed). carried_led q h f request (chunk_carries q h request c.args.handle c.args.number before r)) reads, refl);
      leaves = refl;
    }

pub returns-in-Error : goal.returns-in-Error
returns-in-Error c = λ q h request before setup shows awaits kind keeps up short under gathered max.
    let reads = c.in-Ok.ensures h request shows (clear_request q h request awaits) kind ∙ ap (λ (x : Response). Ok (response_message x)) c.in-Error.is in
    let leads : chunk_carries q h request c.args.handle c.args.number before (reading_of h request c.args.message.now) ≡ Refused c.in-Error.code = ap (chunk_carries q h request c.args.handle c.args.number before) reads in
    let refused = c.refuse.ensures h request c.args.out.now shows (clear_request q h request awaits) kind in
    record {
      carries = subst (λ (x : Carried). IsCarried q h request x c.refuse.result c.args.self.now c.refuse.new.self c.args.out.now) (sym leads)
          (carried_by q h request (Refused c.in-Error.code) c.refuse.result c.args.self.now c.refuse.new.self c.args.out.now (λ f. refused));
      leaves = led_leaves q h (Ok (is_refused c.in-Error.code (Refuses request))) (chunk_carries q h request c.args.handle c.args.number before (reading_of h request c.args.message.now)) c.refuse.result c.args.self.now c.refuse.new.self c.args.out.now
          c.args.gathered.now refused max;
    }

pub returns-in-Some : goal.returns-in-Some
returns-in-Some c = λ q h request before setup shows awaits kind keeps up short under gathered max.
    let handle : ℕ = c.args.handle in
    let number : ℕ = c.args.number in
    let piece = chunk_message c.in-ChunkResponse.chunk in
    let reads = c.in-Ok.ensures h request shows (clear_request q h request awaits) kind ∙ ap (λ (x : Response). Ok (response_message x)) c.in-ChunkResponse.is in
    let leads : chunk_carries q h request handle number before (reading_of h request c.args.message.now) ≡ Ignored (ignored.Chunk c.in-Some.fault) =
    ap (chunk_carries q h request handle number before) reads ∙ ap (collected h request before piece) (other_fault q.max handle number before piece c.in-Some.fault c.in-Some.ensures) in
    record { carries = λ f. (ap (carried_led q h f request) leads, refl); leaves = refl }

pub returns-in-None : goal.returns-in-None
returns-in-None c = λ q h request before setup shows awaits kind keeps up short under gathered max.
    let handle : ℕ = c.args.handle in
    let number : ℕ = c.args.number in
    let piece = chunk_message c.in-ChunkResponse.chunk in
    let reads = c.in-Ok.ensures h request shows (clear_request q h request awaits) kind ∙ ap (λ (x : Response). Ok (response_message x)) c.in-ChunkResponse.is in
    let same = same_chunk handle number piece c.in-None.ensures in
    let leads : chunk_carries q h request handle number before (reading_of h request c.args.message.now) ≡ collected h request before piece (get_fault q.max piece.handle piece.number before piece) =
    ap (chunk_carries q h request handle number before) reads ∙ ap (λ (n : ℕ). collected h request before piece (get_fault q.max n number before piece)) (sym same.0)
    ∙ ap (λ (n : ℕ). collected h request before piece (get_fault q.max piece.handle n before piece)) (sym same.1) in
    let here = subst (λ (n : ℕ). AreUnderWay q.max piece.handle n before) (sym same.1) (subst (λ (n : ℕ). AreUnderWay q.max n number before) (sym same.0) under) in
    subst (λ (x : Carried). IsFetched q h request x c.on_chunk.result c.args.self.now c.on_chunk.new.self c.args.gathered.now c.on_chunk.new.gathered c.on_chunk.new.out) (sym leads)
    (c.on_chunk.ensures q h request before setup shows awaits kind keeps up here gathered max)

pub returns-in_default : goal.returns-in_default
returns-in_default c = λ q h request before setup shows awaits kind keeps up short under gathered max.
    let reads = c.in-Ok.ensures h request shows (clear_request q h request awaits) kind in
    let leads = ap (chunk_carries q h request c.args.handle c.args.number before) reads ∙ other_get q h request c.args.handle c.args.number before c.in-Ok.response c.in_default.not-Error c.in_default.not-ChunkResponse in
    record { carries = λ f. (ap (carried_led q h f request) leads, refl); leaves = refl }
