use Rattle.std.proofs.Common.{◌∙◌, ◌==◌, ap, sym, ℕ}
use Rattle.spdm_grammar.specs.declared.names.response_code.TheConstants.{ERROR}
use Rattle.check_fetched_ends.proofs.TextsHeld.{holds_refusing, none_refusing}
use Rattle.check_fetched_ends.proofs.session_fetch.session_texts.holds_error.Goals as goal

pub returns-in_default : goal.returns-in_default
returns-in_default c = λ brief. none_refusing c.args.text.now brief c.in_default.ensures

pub returns : goal.returns
returns c = λ brief. holds_refusing c.args.text.now c.in-Some.message.now (c.byte_at.result == ERROR) brief c.in-Some.ensures (ap (λ (n : ℕ). n == ERROR) (sym c.byte_at.ensures))
