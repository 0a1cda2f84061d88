use Rattle.std.proofs.Common.{List, Option, subst}
use Rattle.device_serve.proofs.Changed.{changes_are}
use Rattle.device_serve.specs.Devised.{frames_of, told_changes}
use Rattle.responder.specs.Changes.{marks_in}
use Rattle.responder.specs.declared.changes.SessionChange.{SessionChange}
use Rattle.spdm_basis.specs.Stream.{Takes, TakesPrefix}
use Rattle.device_serve.proofs.device.Device.tell_changes.Goals as goal

pub returns-in-Ok-clause-whole : goal.returns-in-Ok-clause-whole
returns-in-Ok-clause-whole g c = λ before d stands watched.
    let watch = c.args.watch.now in
    let later = c.changes-changes.new.self in
    let same = changes_are c.changes-changes.result (marks_in watch) (marks_in later) watch.eid.number before d.responder c.changes-changes.ensures.changes watched (c.changes-changes.ensures.marks d.responder stands.responder) in
    subst (λ (l : List (Option SessionChange)). Takes (g.K.Sink.contents c.args.sink.now) (frames_of (told_changes c.args.q l)) (g.K.Sink.contents c.write_changes.new.sink)) same c.in-Ok.ensures.whole

pub returns-in-Err-clause-prefix : goal.returns-in-Err-clause-prefix
returns-in-Err-clause-prefix g c = λ before d stands watched.
    let watch = c.args.watch.now in
    let later = c.changes-changes.new.self in
    let same = changes_are c.changes-changes.result (marks_in watch) (marks_in later) watch.eid.number before d.responder c.changes-changes.ensures.changes watched (c.changes-changes.ensures.marks d.responder stands.responder) in
    subst (λ (l : List (Option SessionChange)). TakesPrefix (g.K.Sink.contents c.args.sink.now) (frames_of (told_changes c.args.q l)) (g.K.Sink.contents c.write_changes.new.sink)) same c.in-Err.ensures.prefix
