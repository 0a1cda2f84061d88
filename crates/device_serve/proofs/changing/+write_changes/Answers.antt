use Rattle.std.proofs.Common.{List, ℕ, sym, subst}
use Rattle.device_serve.proofs.Changed.{first_changes, front_told, other_changes}
use Rattle.device_serve.specs.Devised.{frames_of, told_changes}
use Rattle.frame_stream.proofs.Written.{on_err, on_ok, prefix_of_first, takes_both, takes_then_prefix}
use Rattle.spdm_basis.specs.Stream.{Takes, TakesPrefix}
use Rattle.device_serve.proofs.changing.+write_changes.Goals as goal

pub returns-in-Ok-clause-whole : goal.returns-in-Ok-clause-whole
returns-in-Ok-clause-whole g t c =
    let old = g.K.Sink.contents c.args.sink.now in
    let mid = g.K.Sink.contents c.write_change.new.sink in
    let new = g.K.Sink.contents c.write_changes.new.sink in
    let changes = c.args.changes.now in
    let front = frames_of (told_changes c.args.q (first_changes changes)) in
    let back = frames_of (told_changes c.args.q (other_changes changes)) in
    on_ok (Takes mid back new) (Takes old (frames_of (told_changes c.args.q changes)) new) c.write_changes.result
    (λ rest. subst (λ (l : List ℕ). Takes old l new) (sym (front_told c.args.q changes c.in-len1-up.len_at_least)) (takes_both old mid new front back c.in-Ok.ensures.whole rest)) c.write_changes.ensures.whole

pub returns-in-Ok-clause-prefix : goal.returns-in-Ok-clause-prefix
returns-in-Ok-clause-prefix g t c =
    let old = g.K.Sink.contents c.args.sink.now in
    let mid = g.K.Sink.contents c.write_change.new.sink in
    let new = g.K.Sink.contents c.write_changes.new.sink in
    let changes = c.args.changes.now in
    let front = frames_of (told_changes c.args.q (first_changes changes)) in
    let back = frames_of (told_changes c.args.q (other_changes changes)) in
    on_err (TakesPrefix mid back new) (TakesPrefix old (frames_of (told_changes c.args.q changes)) new) c.write_changes.result
    (λ rest. subst (λ (l : List ℕ). TakesPrefix old l new) (sym (front_told c.args.q changes c.in-len1-up.len_at_least)) (takes_then_prefix old mid new front back c.in-Ok.ensures.whole rest)) c.write_changes.ensures.prefix

pub returns-in-Err-clause-prefix : goal.returns-in-Err-clause-prefix
returns-in-Err-clause-prefix g t c =
    let old = g.K.Sink.contents c.args.sink.now in
    let mid = g.K.Sink.contents c.write_change.new.sink in
    let changes = c.args.changes.now in
    let front = frames_of (told_changes c.args.q (first_changes changes)) in
    let back = frames_of (told_changes c.args.q (other_changes changes)) in
    subst (λ (l : List ℕ). TakesPrefix old l mid) (sym (front_told c.args.q changes c.in-len1-up.len_at_least)) (prefix_of_first old mid front back c.in-Err.ensures.prefix)
