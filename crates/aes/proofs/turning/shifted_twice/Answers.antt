use Rattle.aes.specs.Slices.{shifted_place}
use Rattle.aes.proofs.BitsAt.{same_byte}
use Rattle.aes.proofs.turning.shifted_twice.Goals as goal

pub returns : goal.returns
returns c = λ p h. same_byte _ c.args.s.now p (shifted_place p) (c.shifted_of.ensures p h) (c.shifted_of-2.ensures p h) (c.shifted_of-3.ensures p h) (c.shifted_of-4.ensures p h) (c.shifted_of-5.ensures p h) (c.shifted_of-6.ensures p h) (c.shifted_of-7.ensures p h) (c.shifted_of-8.ensures p h)
