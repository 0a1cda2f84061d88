use Rattle.std.proofs.Common.{◌∙◌, sym}
use Rattle.frame_stream.proofs.Pieces.{nothing_left, none_left}
use Rattle.frame_stream.proofs.ahead.Ahead.is_empty.Goals as goal

pub returns : goal.returns
returns c =
    let s = c.self.inside in
    let inv = c.self.invariant in (
      λ is. sym c.self.view_is ∙ nothing_left s.at s.end s.bytes.items is,
      λ none. none_left s.at s.end s.bytes.items inv.0 inv.1 (c.self.view_is ∙ none),
    )
