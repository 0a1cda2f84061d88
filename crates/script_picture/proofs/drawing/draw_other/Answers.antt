use Rattle.std.proofs.Common.{◌∙◌, ℕ, List, OnErr, subst, sym}
use Rattle.script_laws.proofs.ScriptRead.{script_sound}
use Rattle.script_picture.proofs.OfText.{drawn_script}
use Rattle.spdm_basis.specs.Stream.{TakesPrefix}
use Rattle.script_picture.proofs.drawing.draw_other.Goals as goal

pub returns-in-Ok-Ok-clause-prefix : goal.returns-in-Ok-Ok-clause-prefix
returns-in-Ok-Ok-clause-prefix g c =
    subst (λ (t : List ℕ). OnErr c.draw_script.result (TakesPrefix (g.K.Sink.contents c.args.sink.now) t (g.K.Sink.contents c.draw_script.new.sink)))
    (drawn_script c.args.form c.args.text.now c.args.fault c.in-Ok-Ok.script c.requires.none (sym c.in-Ok-Ok.field-0-is ∙ c.in-Ok-Ok.ensures)) c.draw_script.ensures.prefix

pub draw_script-requires : goal.draw_script-requires
draw_script-requires g c = (script_sound c.args.text.now c.in-Ok-Ok.script (sym c.in-Ok-Ok.ensures ∙ c.in-Ok-Ok.field-0-is)).0
