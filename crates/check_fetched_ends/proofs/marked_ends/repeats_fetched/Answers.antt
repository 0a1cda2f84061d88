use Rattle.std.proofs.Common.{◌≡◌, ◌∙◌, ap, sym}
use Rattle.check_fetched_ends.proofs.EndsSeen.{same_held}
use Rattle.check_fetched_ends.proofs.marked_ends.repeats_fetched.Goals as goal
use Rattle.check_fetched_ends.specs.declared.clear_fetch.held.Held.{Held}
use Rattle.responder_machine.specs.Responder.{is_repeat}

pub returns-in-InClear-clause-clear : goal.returns-in-InClear-clause-clear
returns-in-InClear-clause-clear c = λ held is. c.is_repeat.ensures ∙ ap (λ (x : Held). is_repeat x.newest c.args.tag c.args.message.now) (same_held c.in-InClear.held held (sym c.in-InClear.is ∙ is))

pub returns-in-InClear-clause-session : goal.returns-in-InClear-clause-session
returns-in-InClear-clause-session c = λ fetched is. absurd (let x = sym c.in-InClear.is ∙ is in cc)

pub returns-in-InSession-clause-clear : goal.returns-in-InSession-clause-clear
returns-in-InSession-clause-clear c = λ held is. absurd (let x = sym c.in-InSession.is ∙ is in cc)

pub returns-in-InSession-clause-session : goal.returns-in-InSession-clause-session
returns-in-InSession-clause-session c = λ fetched is r h stands. c.is_repeat-in-InSession.ensures r h stands
