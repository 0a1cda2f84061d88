use Rattle.std.proofs.Common.{◌≡◌, ◌∙◌, ◌+◌, ◌++◌, ◌∷◌, [], List, Bool, length, ap, sym, subst}
use Rattle.device_serve.proofs.Changed.{answered_in_part, answered_more, fault_before, last_apart, others_of}
use Rattle.device_serve.specs.Devised.{changes_at, devised_by, frames_of, told_changes}
use Rattle.device_serve.specs.Standing.{IsAnswered, IsStep, IsStepFault}
use Rattle.frame_stream.proofs.Fronts.{fault_later}
use Rattle.frame_stream.specs.Runs.{Counts}
use Rattle.responder.specs.Changes.{marks_at, marks_in}
use Rattle.responder_machine.specs.Responding.{connection_of}
use Rattle.responder_serve.specs.declared.fault.ServeFault.{ServeFault}
use Rattle.responder_serve.specs.declared.fault.ServeFault.TheVariants.{WriteFault}
use Rattle.script_text.specs.declared.configuration.config.ReqPart.{ReqPart}
use Rattle.spdm_basis.specs.Stream.{HasFault, Takes, TakesPrefix}
use Rattle.spdm_basis.specs.declared.values.eid.Eid.{Eid}
use Rattle.device_serve.proofs.device.Device.+take_watched.Goals as goal

pub returns-in-Ok-clause-step : goal.returns-in-Ok-clause-step
returns-in-Ok-clause-step g t c = λ d stands.
    let config = c.args.config.now in
    let watched = c.args.watched.now in
    let others = others_of watched in
    let last = c.last-item.result in
    let watch = c.new-watch.result in
    let old = c.args.self.now in
    let before = g.S.Source.remaining c.args.source.now in
    let held = g.K.Sink.contents c.args.sink.now in
    let new = c.take_watched.new.self in
    let after = g.S.Source.remaining c.take_watched.new.source in
    let mid = g.K.Sink.contents c.take_watched.new.sink in
    let holds = g.K.Sink.contents c.tell_changes.new.sink in
    let step : IsAnswered config others d old before held new after mid =
    subst (λ (b : Bool). IsStep config others d old before held b new after mid) c.in-Ok-true.field-0-test (c.in-Ok-true.ensures.step d stands) in
    let own : watch.eid ≡ last.eid = c.new-watch.ensures.eid in
    let marks : marks_in watch ≡ marks_at (connection_of last.eid.number d.responder.connections) = c.new-watch.ensures.marks d.responder stands.responder in
    let watches : marks_in watch ≡ marks_at (connection_of watch.eid.number d.responder.connections) = marks ∙ ap (λ (e : Eid). marks_at (connection_of e.number d.responder.connections)) (sym own) in
    let after_d = (devised_by config d step.frame).after in
    let told : Takes mid (frames_of (told_changes (length others + 1) (changes_at watch.eid.number d.responder after_d.responder))) holds = c.in-Ok.ensures.whole d.responder after_d step.stands watches in
    let told' : Takes mid (frames_of (told_changes (length others + 1) (changes_at last.eid.number d.responder after_d.responder))) holds =
    subst (λ (e : Eid). Takes mid (frames_of (told_changes (length others + 1) (changes_at e.number d.responder after_d.responder))) holds) own told in
    let parts : watched ≡ others ++ last ∷ [] = last_apart watched last c.in-len1-up.len_at_least c.last-item.is in
    subst (λ (l : List ReqPart). IsAnswered config l d old before held new after holds) (sym parts)
    (answered_more config others last d old before held new after mid holds step told')

pub returns-in-Err-tell_changes-clause-fault : goal.returns-in-Err-tell_changes-clause-fault
returns-in-Err-tell_changes-clause-fault g t c = λ d stands.
    let config = c.args.config.now in
    let watched = c.args.watched.now in
    let others = others_of watched in
    let last = c.last-item.result in
    let watch = c.new-watch.result in
    let old = c.args.self.now in
    let before = g.S.Source.remaining c.args.source.now in
    let held = g.K.Sink.contents c.args.sink.now in
    let new = c.take_watched.new.self in
    let after = g.S.Source.remaining c.take_watched.new.source in
    let mid = g.K.Sink.contents c.take_watched.new.sink in
    let holds = g.K.Sink.contents c.tell_changes.new.sink in
    let step : IsAnswered config others d old before held new after mid =
    subst (λ (b : Bool). IsStep config others d old before held b new after mid) c.in-Ok-true.field-0-test (c.in-Ok-true.ensures.step d stands) in
    let own : watch.eid ≡ last.eid = c.new-watch.ensures.eid in
    let marks : marks_in watch ≡ marks_at (connection_of last.eid.number d.responder.connections) = c.new-watch.ensures.marks d.responder stands.responder in
    let watches : marks_in watch ≡ marks_at (connection_of watch.eid.number d.responder.connections) = marks ∙ ap (λ (e : Eid). marks_at (connection_of e.number d.responder.connections)) (sym own) in
    let after_d = (devised_by config d step.frame).after in
    let part : TakesPrefix mid (frames_of (told_changes (length others + 1) (changes_at watch.eid.number d.responder after_d.responder))) holds = c.in-Err-tell_changes.ensures.prefix d.responder after_d step.stands watches in
    let part' : TakesPrefix mid (frames_of (told_changes (length others + 1) (changes_at last.eid.number d.responder after_d.responder))) holds =
    subst (λ (e : Eid). TakesPrefix mid (frames_of (told_changes (length others + 1) (changes_at e.number d.responder after_d.responder))) holds) own part in
    let n : Counts = record {
      read_before = g.S.Source.faults c.args.source.now;
      read_after = g.S.Source.faults c.take_watched.new.source;
      written_before = g.K.Sink.faults c.args.sink.now;
      written_after = g.K.Sink.faults c.tell_changes.new.sink;
    } in
    let counted : HasFault n.written_before n.written_after = fault_later n.written_before (g.K.Sink.faults c.take_watched.new.sink) n.written_after c.take_watched.ensures.written_later c.tell_changes.ensures.later c.in-Err-tell_changes.ensures.fault in
    let blamed : c.in-Err-tell_changes.fault ≡ WriteFault = c.in-Err-tell_changes.ensures.blamed in
    let parts : watched ≡ others ++ last ∷ [] = last_apart watched last c.in-len1-up.len_at_least c.last-item.is in
    subst (λ (l : List ReqPart). IsStepFault config l d old before held n c.in-Err-tell_changes.fault new after holds) (sym parts)
    (subst (λ (f : ServeFault). IsStepFault config (others ++ last ∷ []) d old before held n f new after holds) (sym blamed)
    (answered_in_part config others last d old before held n new after mid holds counted step part'))

pub returns-in-Err-clause-fault : goal.returns-in-Err-clause-fault
returns-in-Err-clause-fault g t c = λ d stands.
    let config = c.args.config.now in
    let watched = c.args.watched.now in
    let others = others_of watched in
    let last = c.last-item.result in
    let old = c.args.self.now in
    let before = g.S.Source.remaining c.args.source.now in
    let held = g.K.Sink.contents c.args.sink.now in
    let new = c.take_watched.new.self in
    let after = g.S.Source.remaining c.take_watched.new.source in
    let mid = g.K.Sink.contents c.take_watched.new.sink in
    let n : Counts = record {
      read_before = g.S.Source.faults c.args.source.now;
      read_after = g.S.Source.faults c.take_watched.new.source;
      written_before = g.K.Sink.faults c.args.sink.now;
      written_after = g.K.Sink.faults c.take_watched.new.sink;
    } in
    let parts : watched ≡ others ++ last ∷ [] = last_apart watched last c.in-len1-up.len_at_least c.last-item.is in
    subst (λ (l : List ReqPart). IsStepFault config l d old before held n c.in-Err.fault new after mid) (sym parts)
    (fault_before config others last d old before held n c.in-Err.fault new after mid (c.in-Err.ensures.fault d stands))
