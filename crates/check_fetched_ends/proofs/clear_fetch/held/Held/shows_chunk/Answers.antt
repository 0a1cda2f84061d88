use Rattle.std.proofs.Common.{◌≡◌, ◌∙◌, ◌<◌, ℕ, List, Some, refl, sym, ap, subst}
use Rattle.std.proofs.lemmas.Option.{same_Some}
use Rattle.std.specs.Prelude.{slice_index}
use Rattle.chunking.specs.Cutting.{chunk_count, nth_chunk}
use Rattle.check_fetched_ends.proofs.HeldResponse.{no_response}
use Rattle.check_fetched_ends.specs.Held.{chunk_held, filled_with}
use Rattle.check_fetched_ends.specs.InSession.{filled}
use Rattle.check_fetched_ends.proofs.clear_fetch.held.Held.shows_chunk.Goals as goal

-- src/held.rt:108:13
pub returns-then-not-is_response : goal.returns-then-not-is_response
returns-then-not-is_response c cut fits is =
    let held = c.args.self.now in
    let body = c.args.body.now in
    let answer = c.args.answer.now in
    let can = cut fits in
    let whole : c.as_slice.result.now ≡ filled_with held answer = c.as_slice.ensures.value ∙ c.in-Some.ensures.1 ∙ ap (filled held.answer.number held.answer.size held.answer.bytes) c.behind_type.ensures in
    let more : c.number.result < chunk_count held.transfer c.as_slice.result.now =
    subst (λ (n : ℕ). n < chunk_count held.transfer c.as_slice.result.now) (sym c.number.ensures) (subst (λ (l : List ℕ). held.answer.number < chunk_count held.transfer l) (sym whole) can.more) in
    let given = same_Some _ _ (c.in-Some-nth_chunk.ensures can.low more) in
    let chunk = given
    ∙ ap (λ (n : ℕ). nth_chunk held.transfer n c.as_slice.result.now c.number.result) c.byte_at-handle.ensures
    ∙ ap (λ (l : List ℕ). nth_chunk held.transfer (slice_index body 4) l c.number.result) whole
    ∙ ap (λ (n : ℕ). nth_chunk held.transfer (slice_index body 4) (filled_with held answer) n) c.number.ensures in
    no_response held body answer (filled_with held answer) _ c.is_response.result can chunk c.is_response.ensures c.if-not-is_response.true is
