use Rattle.std.proofs.Common.{ap, ◌∙◌, length, nat_eq}
use Rattle.std.specs.Prelude.{unwrap_or}
use Rattle.script_text.proofs.FirstLine.{place_is}
use Rattle.script_text.proofs.reading.words.first_space.Goals as goal

pub returns-clause-place : goal.returns-clause-place
returns-clause-place c =
    c.unwrap_or.ensures ∙ ap (λ p. unwrap_or p (length c.args.line.now)) c.place_of.ensures ∙ place_is (λ b. nat_eq b 32) c.args.line.now
