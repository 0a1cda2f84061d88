use Rattle.std.proofs.Common.{◌-◌, ◌≤◌, ◌≡◌, ◌++◌, ap, arith, length, List, ℕ, length-append, length-take, take}
use Rattle.frame_stream.proofs.Moves.{moved_more}
use Rattle.frame_stream.proofs.reader.FrameReader.fill.Goals as goal

pub loop-self-preserved : goal.loop-self-preserved
loop-self-preserved g c =
    let s = c.supply.new.self in
    let t = c.take.ensures in
    let long : length c.take.new.self.frame ≡ length (s.frame ++ take t.count s.ahead) = ap (λ (l : List ℕ). length l) t.frame in
    let few : t.count ≤ c.args.size - c.len-in-loop-self.result = t.few in
    record {
      moved = moved_more c.args.self.now c.loop-self.self s c.take.new.self (g.S.Source.remaining c.args.source.now) (g.S.Source.remaining c.loop-self.source)
          (g.S.Source.remaining c.supply.new.source) (c.args.size - c.len-in-loop-self.result) c.loop-self.invariant.moved c.supply.ensures.supplied t;
      within = omega (arith, long, few, length-append s.frame (take t.count s.ahead), length-take t.count s.ahead, c.len-in-loop-self.ensures, c.loop-self.invariant.within);
      later = omega arith;
    }
