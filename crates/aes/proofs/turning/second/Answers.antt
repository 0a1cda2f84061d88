use Rattle.aes.specs.Slices.{second_place}
use Rattle.aes.proofs.BitsAt.{same_byte}
use Rattle.aes.proofs.turning.second.Goals as goal

pub returns : goal.returns
returns c = λ p h. same_byte _ c.args.s.now p (second_place 0 p) (c.second_of.ensures p h) (c.second_of-2.ensures p h) (c.second_of-3.ensures p h) (c.second_of-4.ensures p h) (c.second_of-5.ensures p h) (c.second_of-6.ensures p h) (c.second_of-7.ensures p h) (c.second_of-8.ensures p h)
