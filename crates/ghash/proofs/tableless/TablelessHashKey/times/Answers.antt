use Rattle.std.proofs.Common.{◌*◌, ◌∙◌, ap, rules}
use Rattle.ghash.specs.Field.{product}
use Rattle.ghash.specs.Windows.{moved}
use Rattle.ghash.proofs.Blocks.{product-folded}
use Rattle.ghash.proofs.tableless.TablelessHashKey.times.Goals as goal

pub returns : goal.returns
returns c =
    c.folded.ensures
    ∙ ap (moved 128) (c.shifted.ensures.value ∙ ap (λ t. t * 2) c.multiply_words.ensures.value)
    ∙ product-folded c.args.a c.self.inside.h c.ranges.a.fits (search rules)
    ∙ ap (product c.args.a) c.self.view_is
