use Rattle.std.proofs.Common.{◌≤◌, ◌∙◌, List, ℕ, ap, arith, length, subst, sym}
use Rattle.spdm_machine.specs.Bodies.{clear_body, record_body}
use Rattle.check_requester.proofs.SentBy.{first_in, first_other, other_kind, short_rest}
use Rattle.check_requester.proofs.sending.sends_command.Goals as goal
use Rattle.check_requester.specs.Commanded.{IsSentByCommand}

pub returns-then-is_clear : goal.returns-then-is_clear
returns-then-is_clear c = λ q h kept short fits none stands.
    let is = first_in c.args.body.now 5 (sym c.is_clear.ensures ∙ c.if-is_clear.true) (omega arith) in
    subst (λ (l : List ℕ). IsSentByCommand q h l c.sends_clear.result c.sends_clear.new.asking) (ap clear_body c.rest_of.ensures ∙ sym is) (c.sends_clear.ensures q h kept short none stands)

pub returns-then-is_secured : goal.returns-then-is_secured
returns-then-is_secured c = λ q h kept short fits none stands.
    let is = first_in c.args.body.now 6 (sym c.is_secured.ensures ∙ c.if-is_secured.true) (omega arith) in
    let least = subst (λ (l : List ℕ). length l ≤ 4160) (sym c.rest_of-then-is_secured.ensures) (short_rest c.args.body.now 6 is fits) in
    subst (λ (l : List ℕ). IsSentByCommand q h l c.sends_sealed.result c.sends_sealed.new.asking) (ap record_body c.rest_of-then-is_secured.ensures ∙ sym is) (c.sends_sealed.ensures q h kept short least none stands)

pub returns : goal.returns
returns c = λ q h kept short fits none stands.
    other_kind q h c.args.body.now c.args.asking.now (first_other c.args.body.now 5 (sym c.is_clear.ensures ∙ c.if-is_clear.false)) (first_other c.args.body.now 6 (sym c.is_secured.ensures ∙ c.if-is_secured.false))
