use Rattle.std.proofs.Common.{◌∙◌, ℕ, List, OnErr, subst, sym}
use Rattle.capture_text.proofs.PacketsFit.{packets_fit}
use Rattle.script_picture.proofs.OfText.{drawn_capture}
use Rattle.spdm_basis.specs.Stream.{TakesPrefix}
use Rattle.script_picture.proofs.drawing.draw_text.Goals as goal

pub draw-requires : goal.draw-requires
draw-requires g c = (packets_fit c.args.text.now c.in-Ok-Ok.capture (sym c.in-Ok-Ok.ensures ∙ c.in-Ok-Ok.field-0-is)).1

pub returns-in-Ok-Ok-clause-prefix : goal.returns-in-Ok-Ok-clause-prefix
returns-in-Ok-Ok-clause-prefix g c =
    subst (λ (t : List ℕ). OnErr c.draw.result (TakesPrefix (g.K.Sink.contents c.args.sink.now) t (g.K.Sink.contents c.draw.new.sink)))
    (drawn_capture c.args.form c.args.text.now c.in-Ok-Ok.capture (sym c.in-Ok-Ok.field-0-is ∙ c.in-Ok-Ok.ensures)) c.draw.ensures.prefix
