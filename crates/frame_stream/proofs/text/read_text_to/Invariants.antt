use Rattle.std.proofs.Common.{◌≡◌, ◌≤◌, ◌-◌, ◌+◌, ◌*◌, ◌++◌, ℕ, List, length, true}
use Rattle.spdm_basis.specs.Stream.{Gives, GivesSome}
use Rattle.frame_stream.specs.Standing.{in_front}
use Rattle.frame_stream.specs.Lines.{goes_on, to_come}
use Rattle.frame_stream.specs.Text.{line_of, text_to}
use Rattle.frame_stream.proofs.text.read_text_to.Given as goal

abbrev pub invariant-loop-last : goal.invariant-loop-last
invariant-loop-last g l = record {
  given : Gives (in_front l.fn.before (g.S.Source.remaining l.fn.source)) (l.text ++ l.ahead) (g.S.Source.remaining l.source);
  gave : GivesSome (g.S.Source.remaining l.fn.source) (g.S.Source.remaining l.source);
  later : g.S.Source.faults l.fn.source ≤ g.S.Source.faults l.source;
  within : length l.text ≤ l.limit;
  more : goes_on l.last l.place ≡ true;
  own : (bytes : List ℕ) → text_to (line_of l.last) (l.text ++ bytes) ≡ l.text ++ to_come l.last l.place bytes;
}

abbrev pub decreases-loop-last : goal.decreases-loop-last
decreases-loop-last g l = 2 * (l.limit - length l.text) + (1 - length l.ahead)
