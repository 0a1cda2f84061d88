use Rattle.std.proofs.Common.{◌≡◌, ◌∙◌, ap, sym, subst, ℕ, List, Option, Some, None, is_some, arith}
use Rattle.std.proofs.lemmas.Bool.{false≢true}
use Rattle.spdm_basis.specs.Sizes.{hash_size}
use Rattle.responder_machine.specs.Place.{clear_place, place_terms}
use Rattle.responder_machine.specs.Responder.{after, on_clear}
use Rattle.spdm_grammar.specs.declared.messages.choice.Choice.{Choice}
use Rattle.spdm_machine.specs.Bodies.{clear_body}
use Rattle.spdm_machine.specs.Terms.{hash_len}
use Rattle.responder_core.specs.declared.judging.dry_run.DryRun.{DryRun}
use Rattle.check_responder.proofs.AllowedTold.{allowed_from, allowed_to}
use Rattle.check_responder.proofs.ClearAnswered.{judged_told, long_at, refused_at}
use Rattle.check_responder.specs.ClearAnswers.{IsJudgedAt, judged_by}
use Rattle.check_responder.specs.declared.given.Judged.{Judged}
use Rattle.capture_machine.specs.Rounds.{no_draw}
use Rattle.check_responder.proofs.judged_responder.JudgedResponder.says_at.Goals as goal

pub returns-then-not-are_allowed : goal.returns-then-not-are_allowed
returns-then-not-are_allowed c = λ r h f set stands idle few free bounded long.
    let chosen = ap (λ (x : Choice). x.hash) (sym (c.choice-hash.ensures.value r h stands)) in
    let test = c.are_allowed.ensures.value r h (clear_place h) f stands (omega (arith, few)) chosen free in
    refused_at r h c.args.tag c.args.message.now f c.args.reply.now (λ fits short. false≢true (sym c.if-not-are_allowed.true ∙ test ∙ allowed_to h (clear_place h) f fits))

pub returns-then-is_too_long : goal.returns-then-is_too_long
returns-then-is_too_long c = λ r h f set stands idle few free bounded long.
    let chosen = ap (λ (x : Choice). x.hash) (sym (c.choice-hash.ensures.value r h stands)) in
    let test = c.is_too_long.ensures r (clear_place h) f set chosen free bounded.nonce in
    refused_at r h c.args.tag c.args.message.now f c.args.reply.now (λ fits short. long_at r h c.args.tag c.args.message.now f (long ∙ sym test ∙ c.if-is_too_long.true) short)

pub returns-in-None : goal.returns-in-None
returns-in-None c = λ r h f set stands idle few free bounded long.
    let there = c.would_answer.ensures.idle r h stands idle in
    absurd (false≢true (sym (ap is_some c.in-None.is) ∙ there))

pub returns-in-Some : goal.returns-in-Some
returns-in-Some c = λ r h f set stands idle few free bounded long.
    let tag : ℕ = c.args.tag in
    let m : List ℕ = c.args.message.now in
    let reply : List ℕ = c.args.reply.now in
    let tried : DryRun = c.in-Some.tried in
    let chosen = ap (λ (x : Choice). x.hash) (sym (c.choice-hash.ensures.value r h stands)) in
    let test = c.are_allowed.ensures.value r h (clear_place h) f stands (omega (arith, few)) chosen free in
    let fits = allowed_from h (clear_place h) f bounded (sym test ∙ c.if-not-are_allowed.false) in
    let size = c.is_too_long.ensures r (clear_place h) f set chosen free bounded.nonce in
    let done = c.in-Some.ensures.tried r h f no_draw set free fits stands in
    let body = ap clear_body c.as_slice.ensures.value ∙ done.body in
    let bytes : c.size.result ≡ hash_len (place_terms (clear_place h)) = c.size.ensures ∙ ap hash_size (sym chosen) in
    let told = judged_told r h tag m f tried.heard c.as_slice.result.now reply tried.pending done.told body done.pending fits (long ∙ sym size ∙ c.if-is_too_long.false) in
    let P : Judged → Type 0 = λ x. IsJudgedAt r h tag m f reply x in
    subst P (sym (c.judged_by.ensures ∙ ap (judged_by tried.heard c.as_slice.result.now reply tried.pending) bytes)) told
