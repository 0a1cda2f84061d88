use Rattle.std.proofs.Common.{◌∙◌, Bool, subst, sym}
use Rattle.std.proofs.lemmas.Bool.{false≢true}
use Rattle.requester_core.specs.OwnRecords.{OpensAs}
use Rattle.requester_machine.specs.Named.{session_named}
use Rattle.check_requester.proofs.OpensAsking.{few_opened, few_shown, hidden, spent}
use Rattle.check_requester.proofs.request_reasons.opens_next.Goals as goal

pub returns-in_default-clause-told : goal.returns-in_default-clause-told
returns-in_default-clause-told c = λ q h short stands. hidden q (session_named h c.args.sealed.now) c.args.sealed.now (c.in_default.ensures q h short stands)

pub returns-in_default-clause-opened : goal.returns-in_default-clause-opened
returns-in_default-clause-opened c = λ q h short stands is. absurd (false≢true is)

pub returns-then-not-has_number-clause-told : goal.returns-then-not-has_number-clause-told
returns-then-not-has_number-clause-told c = λ q h short stands.
    spent q (session_named h c.args.sealed.now) c.args.sealed.now c.in-Some.view (c.in-Some.ensures q h short stands) (sym c.has_number.ensures ∙ c.if-not-has_number.true)

pub returns-then-not-has_number-clause-opened : goal.returns-then-not-has_number-clause-opened
returns-then-not-has_number-clause-opened c = λ q h short stands is. absurd (false≢true is)

pub returns-clause-told : goal.returns-clause-told
returns-clause-told c = λ q h short stands.
    let s = session_named h c.args.sealed.now in
    let few = few_shown s c.in-Some.view (c.in-Some.ensures q h short stands) (sym c.has_number.ensures ∙ c.if-not-has_number.false) in
    few_opened q s c.args.sealed.now c.open_next.new.out c.open_next.result few (c.open_next.ensures.few q h stands short few)

pub returns-clause-opened : goal.returns-clause-opened
returns-clause-opened c = λ q h short stands is.
    let s = session_named h c.args.sealed.now in
    let few = few_shown s c.in-Some.view (c.in-Some.ensures q h short stands) (sym c.has_number.ensures ∙ c.if-not-has_number.false) in
    subst (λ (b : Bool). OpensAs q.psk s c.args.sealed.now b c.open_next.new.out) is (c.open_next.ensures.few q h stands short few)
