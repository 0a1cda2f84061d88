use Rattle.std.proofs.Common.{◌≡◌, ◌∙◌, sym, ap, subst, ℕ}
use Rattle.check_ends.proofs.party.Party.go_on.Goals as goal
use Rattle.check_requester.specs.JudgedRequester.{IsAsker}
use Rattle.check_requester.specs.HeardKept.{asks_upon, heard_kept}
use Rattle.check_laws.specs.KeptChanges.{accepted_from}
use Rattle.check_laws.specs.Order.{tag_in}

pub returns-clause-asker : goal.returns-clause-asker
returns-clause-asker c = λ w q older k behind of keeps few is now asker.
    let tag : c.tag.result ≡ of.tag = c.tag.ensures ∙ ap tag_in now in
    subst (λ (n : ℕ). IsAsker c.hears.new.self q (heard_kept k behind n of c.args.answer.now)) tag
    (c.hears.ensures.kept w q older k behind of keeps few is (sym tag) asker)

pub returns-clause-accepted : goal.returns-clause-accepted
returns-clause-accepted c = λ w q older k of keeps few is now asker.
    let tag : c.tag.result ≡ of.tag = c.tag.ensures ∙ ap tag_in now in
    c.hears.ensures.accepted w q older k of keeps few is (sym tag) asker ∙ ap (λ (n : ℕ). accepted_from k n c.args.answer.now) tag

pub returns-clause-fetches : goal.returns-clause-fetches
returns-clause-fetches c = λ w q older k of keeps few is now asker waits.
    let tag : c.tag.result ≡ of.tag = c.tag.ensures ∙ ap tag_in now in
    c.hears.ensures.fetches w q older k of keeps few is (sym tag) asker waits ∙ ap (λ (n : ℕ). asks_upon k n c.args.answer.now) tag
