use Rattle.std.proofs.Common.{◌∷◌, []}
use Rattle.aes.proofs.Packs.{transposed_at, transposed_word, transposed_words, four-lt}
use Rattle.aes.proofs.Sources.{value}
use Rattle.aes.proofs.packing.transposed.Goals as goal

pub returns : goal.returns
unfolding transposed_word transposed_words value
returns c =
    let a = c.args in
    transposed_at (a.first ∷ a.second ∷ a.third ∷ a.fourth ∷ [])
    (four-lt a.first a.second a.third a.fourth c.ranges.first.fits c.ranges.second.fits c.ranges.third.fits c.ranges.fourth.fits)
