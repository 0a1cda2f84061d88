use Rattle.std.proofs.Common.{◌≡◌, ◌∙◌, ap, sym, drop, length, List, ℕ}
use Rattle.std.proofs.lemmas.Bool.{false≢true}
use Rattle.std.specs.Prelude.{nat_lt}
use Rattle.responder_machine.specs.Answer.{answer_bytes}
use Rattle.spdm_grammar.specs.declared.names.TheConstants.{MAX_MESSAGE_SIZE}
use Rattle.check_responder.proofs.AllowedTold.{allowed_from, allowed_to}
use Rattle.check_responder.proofs.RecordTold.{short_test, test_short}
use Rattle.check_responder.proofs.record_answers.may_give.Goals as goal

pub returns-then-allowed-clause-told : goal.returns-then-allowed-clause-told
returns-then-allowed-clause-told c = λ r h p f set stands few free chosen.
    let bounded = c.values_are_bounded.ensures f free in
    let fits = allowed_from h p f bounded (sym (c.are_allowed-allowed.ensures.value r h p f stands few chosen free) ∙ c.if-allowed.true) in
    let size : ℕ = length (answer_bytes r p (drop 1 c.args.inner.now) f) in
    let long : c.is_too_long-long.result ≡ nat_lt MAX_MESSAGE_SIZE size =
    c.is_too_long-long.ensures r p f set chosen free bounded.nonce ∙ ap (λ (l : List ℕ). nat_lt MAX_MESSAGE_SIZE (length (answer_bytes r p l f))) c.behind_type.ensures in
    (λ is. (fits, short_test size c.is_too_long-long.result long is), λ a. test_short size c.is_too_long-long.result long a.1)

pub returns-else-allowed-clause-told : goal.returns-else-allowed-clause-told
returns-else-allowed-clause-told c = λ r h p f set stands few free chosen.
    (λ yes. absurd (false≢true (sym c.if-allowed.false ∙ yes)), λ a. absurd (false≢true (sym c.if-allowed.false ∙ c.are_allowed-allowed.ensures.value r h p f stands few chosen free ∙ allowed_to h p f a.0)))
