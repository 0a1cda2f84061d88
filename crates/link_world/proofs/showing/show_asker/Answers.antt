use Rattle.std.proofs.Common.{◌∙◌, ◌∷◌, [], List, ap, sym}
use Rattle.link_world.proofs.Writing.{err_lines, ok_lines, on_err, prefix_lines}
use Rattle.link_world.specs.Showing.{asker_lines}
use Rattle.requester_machine.specs.History.{phase_of}
use Rattle.requester_machine.specs.Shown.{views_of}
use Rattle.spdm_grammar.specs.Lines.Line.{State}
use Rattle.spdm_grammar.specs.Lines.Whose.{Requester}
use Rattle.spdm_grammar.specs.declared.told.phase.Phase.{Phase}
use Rattle.spdm_grammar.specs.declared.told.session_view.SessionView.{SessionView}
use Rattle.world_machine.specs.World.{session_lines}
use Rattle.link_world.proofs.showing.show_asker.Goals as goal

pub returns-in_err-show_phase-clause-prefix : goal.returns-in_err-show_phase-clause-prefix
returns-in_err-show_phase-clause-prefix g c = λ a s.
    let who = Requester c.args.q in
    let ys = session_lines who (views_of a.history) in
    on_err c.from_residual.result _
    (prefix_lines (g.K.Sink.contents c.args.sink.now) (g.K.Sink.contents c.show_phase.new.sink) (State who c.phase.result ∷ []) ys (asker_lines c.args.q a)
    (ap (λ (p : Phase). State who p ∷ ys) (sym (c.phase.ensures a s.stands))) c.in_err-show_phase.ensures.prefix)

pub returns-clause-whole : goal.returns-clause-whole
returns-clause-whole g c = λ a s.
    let who = Requester c.args.q in
    let views = c.as_slice.result.now in
    ok_lines (g.K.Sink.contents c.args.sink.now) (g.K.Sink.contents c.show_phase.new.sink) (g.K.Sink.contents c.show_sessions.new.sink) (State who c.phase.result ∷ []) (session_lines who views) (asker_lines c.args.q a)
    (ap (λ (p : Phase). State who p ∷ session_lines who views) (c.phase.ensures a s.stands) ∙ ap (λ (l : List SessionView). State who (phase_of a.history) ∷ session_lines who l) (c.as_slice.ensures.value ∙ c.sessions.ensures a s.stands))
    c.in_ok-show_phase.ensures.whole c.show_sessions.result c.show_sessions.ensures.whole

pub returns-clause-prefix : goal.returns-clause-prefix
returns-clause-prefix g c = λ a s.
    let who = Requester c.args.q in
    let views = c.as_slice.result.now in
    err_lines (g.K.Sink.contents c.args.sink.now) (g.K.Sink.contents c.show_phase.new.sink) (g.K.Sink.contents c.show_sessions.new.sink) (State who c.phase.result ∷ []) (session_lines who views) (asker_lines c.args.q a)
    (ap (λ (p : Phase). State who p ∷ session_lines who views) (c.phase.ensures a s.stands) ∙ ap (λ (l : List SessionView). State who (phase_of a.history) ∷ session_lines who l) (c.as_slice.ensures.value ∙ c.sessions.ensures a s.stands))
    c.in_ok-show_phase.ensures.whole c.show_sessions.result c.show_sessions.ensures.prefix
