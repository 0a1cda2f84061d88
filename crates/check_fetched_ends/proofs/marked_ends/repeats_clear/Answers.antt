use Rattle.std.proofs.Common.{◌≡◌, ◌∙◌, ap, sym, Option}
use Rattle.check_fetched_ends.proofs.EndsSeen.{fetched_repeats, stands_like}
use Rattle.check_fetched_ends.proofs.marked_ends.repeats_clear.Goals as goal
use Rattle.responder_machine.specs.History.{Kept}
use Rattle.responder_machine.specs.Responder.{is_repeat}

pub returns-in-Some : goal.returns-in-Some
returns-in-Some c = λ w q older rows d stands walk.
    fetched_repeats w q older d walk c.args.ends.now rows c.args.tag c.args.message.now c.repeats_fetched.result c.in-Some.large c.in-Some.is stands c.repeats_fetched.ensures.clear c.repeats_fetched.ensures.session

pub returns-in-None : goal.returns-in-None
returns-in-None c = λ w q older rows d stands walk.
    let like = stands_like w q older d walk c.args.ends.now rows stands (λ held no. absurd (let x = sym c.in-None.is ∙ no in cc)) in
    c.is_repeat.ensures like.responder like.history like.stands ∙ ap (λ (k : Option Kept). is_repeat k c.args.tag c.args.message.now) like.kept
