use Rattle.aes.specs.Slices.{next_place}
use Rattle.aes.proofs.BitsAt.{same_byte}
use Rattle.aes.proofs.turning.next_turned_twice.Goals as goal

pub returns : goal.returns
returns c = λ p h. same_byte _ c.args.s.now p (next_place 2 p) (c.next_turned_twice_of.ensures p h) (c.next_turned_twice_of-2.ensures p h) (c.next_turned_twice_of-3.ensures p h) (c.next_turned_twice_of-4.ensures p h) (c.next_turned_twice_of-5.ensures p h) (c.next_turned_twice_of-6.ensures p h) (c.next_turned_twice_of-7.ensures p h) (c.next_turned_twice_of-8.ensures p h)
