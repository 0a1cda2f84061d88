use Rattle.std.proofs.Common.{◌≡◌, ◌∙◌, ◌<◌, ◌+◌, ◌*◌, ◌∷◌, drop, ap, arith, sym, subst, length, List, ℕ}
use Rattle.frame_stream.proofs.Moves.{moved_both, stopped_both}
use Rattle.frame_stream.proofs.Stopped.{stop_cause}
use Rattle.frame_stream.proofs.Whole.{first_stays, is_counted, length_stays, no_counted, not_wrong, size_stays}
use Rattle.frame_stream.specs.Causes.{fault_as}
use Rattle.frame_stream.specs.Frames.{counted, may_be}
use Rattle.frame_stream.specs.Standing.{IsCauseWithin, size_in}
use Rattle.std.specs.Prelude.{slice_index}
use Rattle.frame_stream.specs.declared.kinds.FrameFault.{FrameFault}
use Rattle.frame_stream.proofs.reader.FrameReader.counted.Goals as goal

pub returns-in-Err-fill-clause-fault : goal.returns-in-Err-fill-clause-fault
returns-in-Err-fill-clause-fault g c =
    let old = c.args.self.now in
    let mid = c.fill.new.self in
    let new = c.fill-2.new.self in
    let first = g.S.Source.remaining c.args.source.now in
    let before = g.S.Source.remaining c.fill.new.source in
    let after = g.S.Source.remaining c.fill-2.new.source in
    let head = c.in_default.ensures in
    let rest = c.in-Err-fill.ensures in
    let m = moved_both old mid new first before after head.moved rest.moved in
    let stop = c.in-Err-fill.stop in
    let size = c.size-size.result in
    let some : 0 < length old.frame = omega (arith, c.requires.head) in
    let kind : slice_index new.frame 0 ≡ slice_index old.frame 0 = ap (λ (l : List ℕ). slice_index l 0) m.frame ∙ first_stays old.frame m.more some in
    let told : size_in new.frame ≡ size_in mid.frame = ap size_in rest.moved.frame ∙ size_stays mid.frame rest.moved.more head.filled in
    let cause = stop_cause size old new first after (g.S.Source.faults c.args.source.now) (g.S.Source.faults c.fill-2.new.source) stop m
    (stopped_both size old mid new first before (g.S.Source.faults c.args.source.now) (g.S.Source.faults c.fill.new.source) (g.S.Source.faults c.fill-2.new.source) stop
    head.moved head.later rest.later rest.stopped)
    some
    (not_wrong old.kinds new.frame (ap (may_be old.kinds) kind ∙ c.requires.allowed.0))
    (λ less. no_counted old.kinds new.frame (λ two. c.requires.allowed.1 (sym kind ∙ two)) (omega (arith, less, told, c.size-size.ensures.size))) in
    subst (λ (f : FrameFault). IsCauseWithin old first (g.S.Source.faults c.args.source.now) (g.S.Source.faults c.fill-2.new.source) f)
    (sym (c.fault-in-Err-fill.ensures ∙ ap (λ n. fault_as n stop) c.frame_begins-at.ensures)) cause

pub returns-clause-whole : goal.returns-clause-whole
returns-clause-whole g c =
    let old = c.args.self.now in
    let mid = c.fill.new.self in
    let new = c.fill-2.new.self in
    let first = g.S.Source.remaining c.args.source.now in
    let before = g.S.Source.remaining c.fill.new.source in
    let after = g.S.Source.remaining c.fill-2.new.source in
    let head = c.in_default.ensures in
    let rest = c.in_default-fill.ensures in
    let m = moved_both old mid new first before after head.moved rest.moved in
    let some : 0 < length old.frame = omega (arith, c.requires.head) in
    let kind : slice_index new.frame 0 ≡ slice_index old.frame 0 = ap (λ (l : List ℕ). slice_index l 0) m.frame ∙ first_stays old.frame m.more some in
    let stays = length_stays mid.frame rest.moved.more head.filled in
    let low : slice_index new.frame 1 ≡ slice_index mid.frame 1 = ap (λ (l : List ℕ). slice_index l 1) rest.moved.frame ∙ stays.0 in
    let high : slice_index new.frame 2 ≡ slice_index mid.frame 2 = ap (λ (l : List ℕ). slice_index l 2) rest.moved.frame ∙ stays.1 in
    let told : c.size-size.result ≡ 3 + slice_index mid.frame 1 + 256 * slice_index mid.frame 2 = c.size-size.ensures.size in
    let is = is_counted new.frame (slice_index mid.frame 1) (slice_index mid.frame 2) (omega (arith, rest.filled, c.size-size.ensures.low)) (rest.filled ∙ told) low high
    c.size-size.ensures.low_byte c.size-size.ensures.high_byte in
    record {
      is = is.0 ∙ ap (λ k. k ∷ counted (drop 3 new.frame)) kind;
      fit = is.1;
      moved = m;
    }
