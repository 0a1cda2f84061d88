use Rattle.std.proofs.Common.{ℕ, List, Option, IfOk, subst, ap, ◌∙◌}
use Rattle.frame_stream.proofs.Parts.{none_in_front}
use Rattle.frame_stream.specs.Parts.{IsTextTo}
use Rattle.frame_stream.specs.Standing.{in_front}
use Rattle.frame_stream.specs.Text.{end_line}
use Rattle.frame_stream.proofs.text.read_text.Goals as goal

pub returns-clause-text : goal.returns-clause-text
returns-clause-text g c =
    let old = g.S.Source.remaining c.args.source.now in
    let new = g.S.Source.remaining c.read_text_to.new.source in
    subst (λ (o : Option (List ℕ)). IfOk c.read_text_to.result (λ read. IsTextTo end_line o read.text read.before new))
    (ap (λ (l : List ℕ). in_front l old) c.new.ensures ∙ none_in_front old) c.read_text_to.ensures.text
