use Rattle.std.proofs.Common.{refl, ◌≡◌, ◌∙◌, ◌++◌, ◌∷◌, ℕ, List, false, ap, sym, subst}
use Rattle.std.specs.Prelude.{Err}
use Rattle.link_world.proofs.Entered.{cut_written, line_failed, ok_through, on_err_through, on_ok, on_ok_through, show_happens, shown_failed, shown_written, whole_failed}
use Rattle.link_world.proofs.Full.{full_is}
use Rattle.link_world.proofs.Shown.{shown_plain}
use Rattle.link_world.proofs.Writing.{on_err, whole_prefix}
use Rattle.link_world.specs.Events.{entry_of, happening_of}
use Rattle.link_world.specs.Standing.{IsCutOff, IsLink, IsStepped, IsWhole}
use Rattle.link_world.specs.Written.{before_full, has_full, text_of}
use Rattle.link_world.specs.declared.sent.SendFault.{SendFault}
use Rattle.trace_text.specs.TraceLines.{line_text}
use Rattle.spdm_basis.specs.Stream.{Takes, TakesPrefix}
use Rattle.spdm_grammar.specs.Lines.Line.{At}
use Rattle.world_machine.specs.World.{WorldStep, happens, shown_lines}
use Rattle.link_world.proofs.world.World.step.Goals as goal

pub returns-in_err-write-clause-prefix : goal.returns-in_err-write-clause-prefix
returns-in_err-write-clause-prefix g c = λ w s.
    let n = c.args.line in
    let old = g.K.Sink.contents c.args.sink.now in
    let new = g.K.Sink.contents c.write.new.sink in
    let shown = show_happens w c.args.event.now (sym c.is_show.ensures ∙ c.if-is_show.true) in
    let pushed = ok_through c.push_at.result c.map_err.result c.in_ok-map_err.field-0 _ c.map_err.ensures.variant c.in_ok-map_err.was c.push_at.ensures in
    let text : c.push_at.new.text ≡ line_text (At n) = pushed ∙ ap (λ (t : List ℕ). t ++ line_text (At n)) c.clear.ensures in
    let first = subst (λ (t : List ℕ). TakesPrefix old t new) text c.in_err-write.ensures.prefix in
    on_err c.from_residual-in_err-write.result _ (subst (λ (t : WorldStep). TakesPrefix old (text_of (before_full (At n ∷ t.lines))) new) (sym shown) (line_failed n (shown_lines w) old new (shown_plain w) first))

pub returns-then-is_show-clause-written : goal.returns-then-is_show-clause-written
returns-then-is_show-clause-written g c = λ w s.
    let n = c.args.line in
    let old = g.K.Sink.contents c.args.sink.now in
    let middle = g.K.Sink.contents c.write.new.sink in
    let new = g.K.Sink.contents c.show.new.sink in
    let shown = show_happens w c.args.event.now (sym c.is_show.ensures ∙ c.if-is_show.true) in
    let pushed = ok_through c.push_at.result c.map_err.result c.in_ok-map_err.field-0 _ c.map_err.ensures.variant c.in_ok-map_err.was c.push_at.ensures in
    let text : c.push_at.new.text ≡ line_text (At n) = pushed ∙ ap (λ (t : List ℕ). t ++ line_text (At n)) c.clear.ensures in
    let first = subst (λ (t : List ℕ). Takes old t middle) text c.in_ok-write.ensures.whole in
    on_ok_through c.show.result c.map_err-then-is_show.result (Takes middle (text_of (shown_lines w)) new) _ c.map_err-then-is_show.ensures.variant (c.show.ensures.whole w s.ends)
    (λ second. subst (λ (t : WorldStep). Takes old (text_of (At n ∷ t.lines)) new) (sym shown) (shown_written n (shown_lines w) old middle new first second))

pub returns-then-is_show-clause-stands : goal.returns-then-is_show-clause-stands
returns-then-is_show-clause-stands g c = λ w s.
    let shown = show_happens w c.args.event.now (sym c.is_show.ensures ∙ c.if-is_show.true) in
    on_ok c.map_err-then-is_show.result _ (subst (λ (t : WorldStep). IsLink c.args.self.now.link t.after) (sym shown) s)

pub returns-then-is_show-clause-fits : goal.returns-then-is_show-clause-fits
returns-then-is_show-clause-fits g c = λ w s.
    let shown = show_happens w c.args.event.now (sym c.is_show.ensures ∙ c.if-is_show.true) in
    on_ok c.map_err-then-is_show.result _ (subst (λ (t : WorldStep). has_full t.lines ≡ false) (sym shown) (shown_plain w))

pub returns-then-is_show-clause-has_room : goal.returns-then-is_show-clause-has_room
returns-then-is_show-clause-has_room g c = λ w s.
    let shown = show_happens w c.args.event.now (sym c.is_show.ensures ∙ c.if-is_show.true) in
    on_ok c.map_err-then-is_show.result _
    (sym (full_is w (entry_of c.args.line c.args.event.now) s.within) ∙ subst (λ (t : WorldStep). has_full t.lines ≡ false) (sym shown) (shown_plain w))

pub returns-then-is_show-clause-prefix : goal.returns-then-is_show-clause-prefix
returns-then-is_show-clause-prefix g c = λ w s.
    let n = c.args.line in
    let old = g.K.Sink.contents c.args.sink.now in
    let middle = g.K.Sink.contents c.write.new.sink in
    let new = g.K.Sink.contents c.show.new.sink in
    let shown = show_happens w c.args.event.now (sym c.is_show.ensures ∙ c.if-is_show.true) in
    let pushed = ok_through c.push_at.result c.map_err.result c.in_ok-map_err.field-0 _ c.map_err.ensures.variant c.in_ok-map_err.was c.push_at.ensures in
    let text : c.push_at.new.text ≡ line_text (At n) = pushed ∙ ap (λ (t : List ℕ). t ++ line_text (At n)) c.clear.ensures in
    let first = subst (λ (t : List ℕ). Takes old t middle) text c.in_ok-write.ensures.whole in
    on_err_through c.show.result c.map_err-then-is_show.result (TakesPrefix middle (text_of (shown_lines w)) new) _ c.map_err-then-is_show.ensures.variant (c.show.ensures.prefix w s.ends)
    (λ second. subst (λ (t : WorldStep). TakesPrefix old (text_of (before_full (At n ∷ t.lines))) new) (sym shown) (shown_failed n (shown_lines w) old middle new (shown_plain w) first second))

pub returns-in-Ok-clause-prefix : goal.returns-in-Ok-clause-prefix
returns-in-Ok-clause-prefix g c = λ w s.
    let n = c.args.line in
    let old = g.K.Sink.contents c.args.sink.now in
    let new = g.K.Sink.contents c.write-in-Ok.new.sink in
    let now = c.happen.new.text in
    let step = happens w (happening_of c.args.event.now) in
    let pushed = ok_through c.push_at.result c.map_err.result c.in_ok-map_err.field-0 _ c.map_err.ensures.variant c.in_ok-map_err.was c.push_at.ensures in
    let text : c.push_at.new.text ≡ line_text (At n) = pushed ∙ ap (λ (t : List ℕ). t ++ line_text (At n)) c.clear.ensures in
    let whole = subst (λ (t : List ℕ). IsWhole step t now c.happen.new.self) text (c.in-Ok.ensures w s) in
    on_err_through c.write-in-Ok.result c.write-in-Ok.result (TakesPrefix old now new) _ refl c.write-in-Ok.ensures.prefix (λ taken. whole_failed n step now c.happen.new.self old new whole taken)

pub returns-in_ok-write-in-Err-LinkFull-clause-prefix :
    goal.returns-in_ok-write-in-Err-LinkFull-clause-prefix
returns-in_ok-write-in-Err-LinkFull-clause-prefix g c = λ w s.
    let n = c.args.line in
    let old = g.K.Sink.contents c.args.sink.now in
    let new = g.K.Sink.contents c.write-in-Err-LinkFull.new.sink in
    let now = c.happen.new.text in
    let step = happens w (happening_of c.args.event.now) in
    let pushed = ok_through c.push_at.result c.map_err.result c.in_ok-map_err.field-0 _ c.map_err.ensures.variant c.in_ok-map_err.was c.push_at.ensures in
    let text : c.push_at.new.text ≡ line_text (At n) = pushed ∙ ap (λ (t : List ℕ). t ++ line_text (At n)) c.clear.ensures in
    let stepped = subst (λ (fault : SendFault). IsStepped step (Err fault) c.push_at.new.text now c.happen.new.self) c.in-Err-LinkFull.field-0-is (c.in-Err-LinkFull.ensures w s) in
    let cut = subst (λ (t : List ℕ). IsCutOff step t now) text stepped in
    whole_prefix old new (text_of (before_full (At n ∷ step.lines))) (cut_written n step now c.happen.new.self old new cut c.in_ok-write-in-Err-LinkFull.ensures.whole)

pub returns-in_ok-write-in-Err-LinkFull-clause-is_full :
    goal.returns-in_ok-write-in-Err-LinkFull-clause-is_full
returns-in_ok-write-in-Err-LinkFull-clause-is_full g c = λ w s told.
    let now = c.happen.new.text in
    let step = happens w (happening_of c.args.event.now) in
    let stepped = subst (λ (fault : SendFault). IsStepped step (Err fault) c.push_at.new.text now c.happen.new.self) c.in-Err-LinkFull.field-0-is (c.in-Err-LinkFull.ensures w s) in
    sym (full_is w (entry_of c.args.line c.args.event.now) s.within) ∙ stepped.full
