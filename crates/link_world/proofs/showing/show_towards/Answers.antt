use Rattle.std.proofs.Common.{◌∙◌, ◌∷◌, [], refl, sym}
use Rattle.link_world.proofs.Shown.{towards_lines}
use Rattle.link_world.proofs.Writing.{err_lines, ok_lines, on_err, prefix_lines}
use Rattle.responder.specs.Standing.{views_at}
use Rattle.responder_machine.specs.Responding.{connection_of}
use Rattle.spdm_grammar.specs.Lines.Line.{State}
use Rattle.spdm_grammar.specs.Lines.Whose.{Responder}
use Rattle.world_machine.specs.World.{connection_lines, session_lines}
use Rattle.link_world.proofs.showing.show_towards.Goals as goal

pub returns-in_err-show_phase-clause-prefix : goal.returns-in_err-show_phase-clause-prefix
returns-in_err-show_phase-clause-prefix g c = λ r s.
    let who = Responder c.args.q in
    let it = connection_of c.args.eid.number r.connections in
    on_err c.from_residual.result _
    (prefix_lines (g.K.Sink.contents c.args.sink.now) (g.K.Sink.contents c.show_phase.new.sink) (State who c.in-Some.phase ∷ []) (session_lines who (views_at it)) (connection_lines c.args.q it)
    (sym (towards_lines c.args.q it c.in-Some.phase (views_at it) (sym (c.in-Some.ensures r s)) refl)) c.in_err-show_phase.ensures.prefix)

pub returns-clause-whole : goal.returns-clause-whole
returns-clause-whole g c = λ r s.
    let who = Responder c.args.q in
    let it = connection_of c.args.eid.number r.connections in
    let views = c.as_slice.result.now in
    ok_lines (g.K.Sink.contents c.args.sink.now) (g.K.Sink.contents c.show_phase.new.sink) (g.K.Sink.contents c.show_sessions.new.sink) (State who c.in-Some.phase ∷ []) (session_lines who views) (connection_lines c.args.q it)
    (towards_lines c.args.q it c.in-Some.phase views (sym (c.in-Some.ensures r s)) (c.as_slice.ensures.value ∙ c.sessions.ensures r s))
    c.in_ok-show_phase.ensures.whole c.show_sessions.result c.show_sessions.ensures.whole

pub returns-clause-prefix : goal.returns-clause-prefix
returns-clause-prefix g c = λ r s.
    let who = Responder c.args.q in
    let it = connection_of c.args.eid.number r.connections in
    let views = c.as_slice.result.now in
    err_lines (g.K.Sink.contents c.args.sink.now) (g.K.Sink.contents c.show_phase.new.sink) (g.K.Sink.contents c.show_sessions.new.sink) (State who c.in-Some.phase ∷ []) (session_lines who views) (connection_lines c.args.q it)
    (towards_lines c.args.q it c.in-Some.phase views (sym (c.in-Some.ensures r s)) (c.as_slice.ensures.value ∙ c.sessions.ensures r s))
    c.in_ok-show_phase.ensures.whole c.show_sessions.result c.show_sessions.ensures.prefix
