use Rattle.std.proofs.Common.{refl}
use Rattle.check_requester.proofs.HearsKept.{heard_as}
use Rattle.check_requester.proofs.answer_effect.hear.Goals as goal
use Rattle.check_laws.specs.RepliesShown.{no_values}
use Rattle.capture_machine.specs.Rounds.{no_draw}

pub returns : goal.returns
returns c = λ q h kept few stands.
    heard_as q h c.args.tag c.args.body.now c.on_body-reaction.new.out c.on_body-reaction.result c.is_some.result c.on_body-reaction.new.self
    (c.on_body-reaction.ensures q h no_values no_draw (c.setup.ensures q kept) refl few stands) c.is_some.ensures
