use Rattle.std.proofs.Common.{sym, subst}
use Rattle.psk_session.specs.Waiting.{Seen, StandsFor}
use Rattle.psk_session.proofs.waiting.Waiting.take_with.Goals as goal

pub returns-in-Answer : goal.returns-in-Answer
returns-in-Answer c = λ psk s a stands.
    let told = c.in-Answer.ensures.told psk s a (c.self.invariant, subst (λ (x : Seen). StandsFor x psk s a) (sym c.self.view_is) stands) in
    let follows = told.2 in
    (told.0, told.1, (follows.0, follows.1, follows.2, follows.3.1))

pub returns-in-Next : goal.returns-in-Next
returns-in-Next c = λ psk s a stands.
    let told = c.in-Next.ensures.told psk s a (c.self.invariant, subst (λ (x : Seen). StandsFor x psk s a) (sym c.self.view_is) stands) in
    let follows = told.2 in
    (told.0, told.1, (follows.0, follows.1, follows.2, follows.3, follows.4, follows.5.1))
