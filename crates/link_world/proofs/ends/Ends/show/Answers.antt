use Rattle.std.proofs.Common.{◌∙◌, ◌+◌, ◌%◌, ◌++◌, List, sym, subst, refl, arith, append_assoc, take, length}
use Rattle.link_world.proofs.Shown.{all_there, is_there, next_number, turn_begins, turn_lines}
use Rattle.link_world.proofs.Writing.{both_lines, both_prefix, on_err, prefix_lines, takes_none}
use Rattle.link_world.specs.Showing.{asker_lines}
use Rattle.link_world.specs.Standing.{AreAskers}
use Rattle.link_world.specs.Written.{text_of}
use Rattle.link_world.specs.declared.ends.AddressedRequester.{AddressedRequester}
use Rattle.requester_machine.specs.Requesting.{Requesting}
use Rattle.responder_machine.specs.Responding.{connection_of}
use Rattle.spdm_basis.specs.Stream.{Takes}
use Rattle.world_machine.specs.World.{all_end_lines, connection_lines, shown_lines}
use Rattle.link_world.proofs.ends.Ends.show.Goals as goal

pub loop-asker-init : goal.loop-asker-init
loop-asker-init g c = record { taken = λ w s. takes_none (g.K.Sink.contents c.args.sink.now); number = λ w s. refl; later = omega arith }

pub loop-asker-preserved : goal.loop-asker-preserved
loop-asker-preserved g c =
    let i = c.loop-asker.asker-index in
    let q = (c.loop-asker.q + 1) % 256 in
    let x = c.asker-item.result in
    let old = g.K.Sink.contents c.args.sink.now in
    let start = g.K.Sink.contents c.loop-asker.sink in
    let middle = g.K.Sink.contents c.show_asker.new.sink in
    let new = g.K.Sink.contents c.show_towards.new.sink in
    record {
      taken = λ w s.
          let r = w.responder in
          let t = is_there i c.as_slice-asker-items.result.now w.requesters x c.loop-asker-test.true c.asker-item.is (subst (λ (xs : List AddressedRequester). AreAskers xs w.requesters) (sym c.as_slice-asker-items.ensures.value) s.requesters) in
          let number = next_number c.loop-asker.q i (length w.requesters) (c.loop-asker.invariant.number w s) t.inside s.few in
          let before = all_end_lines r 1 (take i w.requesters) in
          let own = asker_lines q t.a in
          let first = both_lines old start middle before own (before ++ own) refl (c.loop-asker.invariant.taken w s) (c.in_ok-show_asker.ensures.whole t.a t.stands) in
          both_lines old middle new (before ++ own) (connection_lines q (connection_of x.eid.number r.connections)) (all_end_lines r 1 (take (i + 1) w.requesters))
          (turn_lines r i q x.eid.number w.requesters t.a t.at number t.stands.eid) first (c.in_ok-show_towards.ensures.whole r s.responder);
      number = λ w s.
          let r = w.responder in
          let t = is_there i c.as_slice-asker-items.result.now w.requesters x c.loop-asker-test.true c.asker-item.is (subst (λ (xs : List AddressedRequester). AreAskers xs w.requesters) (sym c.as_slice-asker-items.ensures.value) s.requesters) in
          let number = next_number c.loop-asker.q i (length w.requesters) (c.loop-asker.invariant.number w s) t.inside s.few in
          number;
      later = omega (arith, c.loop-asker.invariant.later, c.show_asker.ensures.later, c.show_towards.ensures.later);
    }

pub returns-in_err-show_asker-clause-prefix : goal.returns-in_err-show_asker-clause-prefix
returns-in_err-show_asker-clause-prefix g c = λ w s.
    let i = c.loop-asker.asker-index in
    let q = (c.loop-asker.q + 1) % 256 in
    let x = c.asker-item.result in
    let old = g.K.Sink.contents c.args.sink.now in
    let start = g.K.Sink.contents c.loop-asker.sink in
    let middle = g.K.Sink.contents c.show_asker.new.sink in
    let r = w.responder in
    let t = is_there i c.as_slice-asker-items.result.now w.requesters x c.loop-asker-test.true c.asker-item.is (subst (λ (xs : List AddressedRequester). AreAskers xs w.requesters) (sym c.as_slice-asker-items.ensures.value) s.requesters) in
    let number = next_number c.loop-asker.q i (length w.requesters) (c.loop-asker.invariant.number w s) t.inside s.few in
    let before = all_end_lines r 1 (take i w.requesters) in
    let own = asker_lines q t.a in
    let theirs = connection_lines q (connection_of x.eid.number r.connections) in
    let begins = turn_begins r i q x.eid.number w.requesters t.a t.at number t.stands.eid in
    let first = both_prefix old start middle before own (before ++ own) refl (c.loop-asker.invariant.taken w s) (c.in_err-show_asker.ensures.prefix t.a t.stands) in
    on_err c.from_residual.result _ (prefix_lines old middle (before ++ own) (theirs ++ begins.0) (shown_lines w) (begins.1 ∙ append_assoc (before ++ own) theirs begins.0) first)

pub returns-in_err-show_towards-clause-prefix : goal.returns-in_err-show_towards-clause-prefix
returns-in_err-show_towards-clause-prefix g c = λ w s.
    let i = c.loop-asker.asker-index in
    let q = (c.loop-asker.q + 1) % 256 in
    let x = c.asker-item.result in
    let old = g.K.Sink.contents c.args.sink.now in
    let start = g.K.Sink.contents c.loop-asker.sink in
    let middle = g.K.Sink.contents c.show_asker.new.sink in
    let r = w.responder in
    let t = is_there i c.as_slice-asker-items.result.now w.requesters x c.loop-asker-test.true c.asker-item.is (subst (λ (xs : List AddressedRequester). AreAskers xs w.requesters) (sym c.as_slice-asker-items.ensures.value) s.requesters) in
    let number = next_number c.loop-asker.q i (length w.requesters) (c.loop-asker.invariant.number w s) t.inside s.few in
    let before = all_end_lines r 1 (take i w.requesters) in
    let own = asker_lines q t.a in
    let new = g.K.Sink.contents c.show_towards.new.sink in
    let theirs = connection_lines q (connection_of x.eid.number r.connections) in
    let begins = turn_begins r i q x.eid.number w.requesters t.a t.at number t.stands.eid in
    let first = both_lines old start middle before own (before ++ own) refl (c.loop-asker.invariant.taken w s) (c.in_ok-show_asker.ensures.whole t.a t.stands) in
    let second = both_prefix old middle new (before ++ own) theirs ((before ++ own) ++ theirs) refl first (c.in_err-show_towards.ensures.prefix r s.responder) in
    on_err c.from_residual-in_err-show_towards.result _ (prefix_lines old new ((before ++ own) ++ theirs) begins.0 (shown_lines w) begins.1 second)

pub returns-clause-whole : goal.returns-clause-whole
returns-clause-whole g c = λ w s.
    let i = c.loop-asker.asker-index in
    let are = subst (λ (xs : List AddressedRequester). AreAskers xs w.requesters) (sym c.as_slice-asker-items.ensures.value) s.requesters in
    subst (λ (l : List Requesting). Takes (g.K.Sink.contents c.args.sink.now) (text_of (all_end_lines w.responder 1 l)) (g.K.Sink.contents c.loop-asker.sink))
    (all_there i c.as_slice-asker-items.result.now w.requesters are c.loop-asker-test.false) (c.loop-asker.invariant.taken w s)
