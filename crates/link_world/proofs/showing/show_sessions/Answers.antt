use Rattle.std.proofs.Common.{◌≡◌, ◌+◌, ◌∷◌, [], List, sym, subst, arith, take}
use Rattle.std.proofs.lemmas.Grind.{common_steps}
use Rattle.link_world.proofs.Shown.{sessions_begin, sessions_more}
use Rattle.link_world.proofs.Writing.{both_lines, both_prefix, on_err, prefix_lines, takes_none}
use Rattle.link_world.specs.Written.{text_of}
use Rattle.trace_text.specs.Whose.{whose_of}
use Rattle.spdm_basis.specs.Stream.{Takes}
use Rattle.spdm_grammar.specs.Lines.Line.{Session}
use Rattle.spdm_grammar.specs.declared.told.session_view.SessionView.{SessionView}
use Rattle.world_machine.specs.World.{session_lines}
use Rattle.link_world.proofs.showing.show_sessions.Goals as goal

pub loop-view-init : goal.loop-view-init
loop-view-init g c = record { taken = takes_none (g.K.Sink.contents c.args.sink.now); later = omega arith }

pub loop-view-preserved : goal.loop-view-preserved
loop-view-preserved g c =
    let views = c.args.views.now in
    let i = c.loop-view.view-index in
    let who = whose_of c.args.q c.args.responder in
    let view = c.view-item.result in
    let old = g.K.Sink.contents c.args.sink.now in
    let middle = g.K.Sink.contents c.loop-view.sink in
    let new = g.K.Sink.contents c.show_session.new.sink in
    record {
      taken = both_lines old middle new (session_lines who (take i views)) (Session who view ∷ []) (session_lines who (take (i + 1) views))
          (sym (sessions_more who i views view c.loop-view-test.true (sym c.view-item.is))) c.loop-view.invariant.taken c.in_ok-show_session.ensures.whole;
      later = omega (arith, c.loop-view.invariant.later, c.show_session.ensures.later);
    }

pub returns-in_err-show_session-clause-prefix : goal.returns-in_err-show_session-clause-prefix
returns-in_err-show_session-clause-prefix g c =
    let views = c.args.views.now in
    let i = c.loop-view.view-index in
    let who = whose_of c.args.q c.args.responder in
    let view = c.view-item.result in
    let old = g.K.Sink.contents c.args.sink.now in
    let middle = g.K.Sink.contents c.loop-view.sink in
    let new = g.K.Sink.contents c.show_session.new.sink in
    let rest = sessions_begin who (i + 1) views in
    on_err c.from_residual.result _
    (prefix_lines old new (session_lines who (take (i + 1) views)) rest.0 (session_lines who views) rest.1
    (both_prefix old middle new (session_lines who (take i views)) (Session who view ∷ []) (session_lines who (take (i + 1) views))
    (sym (sessions_more who i views view c.loop-view-test.true (sym c.view-item.is))) c.loop-view.invariant.taken c.in_err-show_session.ensures.prefix))

pub returns-clause-whole : goal.returns-clause-whole
returns-clause-whole g c =
    let views = c.args.views.now in
    let i = c.loop-view.view-index in
    let all : take i views ≡ views = grind (arith, common_steps) in
    subst (λ (l : List SessionView). Takes (g.K.Sink.contents c.args.sink.now) (text_of (session_lines (whose_of c.args.q c.args.responder) l)) (g.K.Sink.contents c.loop-view.sink)) all c.loop-view.invariant.taken
