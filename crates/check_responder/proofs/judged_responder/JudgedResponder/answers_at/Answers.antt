use Rattle.std.proofs.Common.{◌≡◌, ◌∙◌, ap, sym, subst, ℕ, List, arith}
use Rattle.std.proofs.lemmas.Bool.{false≢true}
use Rattle.spdm_basis.specs.Sizes.{hash_size}
use Rattle.responder_machine.specs.Place.{clear_place, place_terms}
use Rattle.responder_machine.specs.Responder.{after, on_clear}
use Rattle.spdm_grammar.specs.declared.messages.choice.Choice.{Choice}
use Rattle.spdm_machine.specs.Bodies.{clear_body}
use Rattle.spdm_machine.specs.Terms.{hash_len}
use Rattle.check_responder.proofs.AllowedTold.{allowed_from, allowed_to}
use Rattle.check_responder.proofs.ClearAnswered.{judged_told, long_at, refused_at}
use Rattle.check_responder.specs.ClearAnswers.{IsJudgedAt, judged_by}
use Rattle.check_responder.specs.declared.given.Judged.{Judged}
use Rattle.capture_machine.specs.Rounds.{no_draw}
use Rattle.check_responder.proofs.judged_responder.JudgedResponder.answers_at.Goals as goal

pub returns-then-not-are_allowed-clause-told : goal.returns-then-not-are_allowed-clause-told
returns-then-not-are_allowed-clause-told c = λ r h f set stands few free bounded long.
    let chosen = ap (λ (x : Choice). x.hash) (sym (c.choice-hash.ensures.value r h stands)) in
    let test = c.are_allowed.ensures.value r h (clear_place h) f stands (omega (arith, few)) chosen free in
    refused_at r h c.args.tag c.args.message.now f c.args.reply.now (λ fits short. false≢true (sym c.if-not-are_allowed.true ∙ test ∙ allowed_to h (clear_place h) f fits))

pub returns-then-is_too_long-clause-told : goal.returns-then-is_too_long-clause-told
returns-then-is_too_long-clause-told c = λ r h f set stands few free bounded long.
    let chosen = ap (λ (x : Choice). x.hash) (sym (c.choice-hash.ensures.value r h stands)) in
    let test = c.is_too_long.ensures r (clear_place h) f set chosen free bounded.nonce in
    refused_at r h c.args.tag c.args.message.now f c.args.reply.now (λ fits short. long_at r h c.args.tag c.args.message.now f (long ∙ sym test ∙ c.if-is_too_long.true) short)

pub returns-clause-told : goal.returns-clause-told
returns-clause-told c = λ r h f set stands few free bounded long.
    let tag : ℕ = c.args.tag in
    let m : List ℕ = c.args.message.now in
    let reply : List ℕ = c.args.reply.now in
    let chosen = ap (λ (x : Choice). x.hash) (sym (c.choice-hash.ensures.value r h stands)) in
    let test = c.are_allowed.ensures.value r h (clear_place h) f stands (omega (arith, few)) chosen free in
    let fits = allowed_from h (clear_place h) f bounded (sym test ∙ c.if-not-are_allowed.false) in
    let size = c.is_too_long.ensures r (clear_place h) f set chosen free bounded.nonce in
    let done = c.on_clear-heard.ensures.done r h f no_draw set free fits stands in
    let body = ap clear_body c.as_slice.ensures.value ∙ done.body in
    let pending = c.is_pending-pending.ensures r (after h (on_clear r h tag m f no_draw)) done.stands in
    let bytes : c.size.result ≡ hash_len (place_terms (clear_place h)) = c.size.ensures ∙ ap hash_size (sym chosen) in
    let told = judged_told r h tag m f c.on_clear-heard.result c.as_slice.result.now reply c.is_pending-pending.result done.told body pending fits (long ∙ sym size ∙ c.if-is_too_long.false) in
    let P : Judged → Type 0 = λ x. IsJudgedAt r h tag m f reply x in
    subst P (sym (c.judged_by.ensures ∙ ap (judged_by c.on_clear-heard.result c.as_slice.result.now reply c.is_pending-pending.result) bytes)) told

pub returns-clause-stands : goal.returns-clause-stands
returns-clause-stands c = λ r h f set stands few free bounded is.
    let chosen = ap (λ (x : Choice). x.hash) (sym (c.choice-hash.ensures.value r h stands)) in
    let test = c.are_allowed.ensures.value r h (clear_place h) f stands (omega (arith, few)) chosen free in
    let fits = allowed_from h (clear_place h) f bounded (sym test ∙ c.if-not-are_allowed.false) in
    (c.on_clear-heard.ensures.done r h f no_draw set free fits stands).stands
