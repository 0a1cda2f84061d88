use Rattle.std.proofs.Common.{◌∙◌, Option, ap, sym}
use Rattle.std.specs.Prelude.{is_some}
use Rattle.spdm_grammar.specs.declared.told.session_view.SessionView.{SessionView}
use Rattle.spdm_grammar.specs.Message.{exchange_message}
use Rattle.check_requester.proofs.ClearTold.{taken_id}
use Rattle.check_requester.proofs.clear_commands.may_open.Goals as goal
use Rattle.check_requester.specs.Commanded.{values_in}

pub returns-then-is_some-clause-refused : goal.returns-then-is_some-clause-refused
returns-then-is_some-clause-refused c = λ q h kept short none stands not allowed.
    taken_id q h (values_in (exchange_message c.args.exchange.now)) (ap (λ (o : Option SessionView). is_some o) (sym (c.view.ensures q h stands short)) ∙ sym c.is_some.ensures ∙ c.if-is_some.true) allowed
