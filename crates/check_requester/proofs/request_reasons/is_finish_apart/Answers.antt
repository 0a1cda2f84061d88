use Rattle.std.proofs.Common.{◌∙◌, Bool, List, ℕ, ap, refl, subst, sym}
use Rattle.std.specs.Prelude.{◌&&◌}
use Rattle.std.proofs.lemmas.Bool.{false≢true}
use Rattle.requester_core.specs.OwnRecords.{OpensNamed}
use Rattle.requester_machine.specs.Message.Ask.{AskFinish}
use Rattle.requester_machine.specs.Session.{session_of}
use Rattle.spdm_basis.specs.Sizes.{hash_size}
use Rattle.check_requester.proofs.FinishApart.{is_finish_of, its_last, no_finish, open_apart, own_opens, shut_apart}
use Rattle.check_requester.proofs.request_reasons.is_finish_apart.Goals as goal
use Rattle.capture_machine.specs.Difference.{is_apart, is_padded}

pub returns-in_default : goal.returns-in_default
returns-in_default c = λ q bare sent took short is fits stands. no_finish c.args.asking.now q bare sent took stands c.args.sealed.now (c.in_default.ensures q bare sent took short stands)

pub returns-then-not-open_owed : goal.returns-then-not-open_owed
returns-then-not-open_owed c = λ q bare sent took short is fits stands.
    let x = c.args.asking.now in
    let f = is_finish_of x q bare sent took stands c.in-Some.view (c.in-Some.ensures q bare sent took short stands) in
    let last = its_last x q bare sent took stands f.id AskFinish f.aims in
    let opens = own_opens x q bare sent took stands f.id AskFinish f.aims c.args.record.now c.open_owed.new.out c.open_owed.result is fits (c.open_owed.ensures q bare sent f.id AskFinish last f.aims short stands) in
    absurd (false≢true (sym c.if-not-open_owed.true ∙ opens.0))

pub returns-then-not-open_owed-2 : goal.returns-then-not-open_owed-2
returns-then-not-open_owed-2 c = λ q bare sent took short is fits stands.
    let x = c.args.asking.now in
    let f = is_finish_of x q bare sent took stands c.in-Some.view (c.in-Some.ensures q bare sent took short stands) in
    let last = its_last x q bare sent took stands f.id AskFinish f.aims in
    shut_apart x q bare sent took stands f.id AskFinish f.aims refl c.args.sealed.now c.open_owed-2.new.out
    (subst (λ (b : Bool). OpensNamed q.psk (session_of f.id bare) c.args.sealed.now b c.open_owed-2.new.out) c.if-not-open_owed-2.true (c.open_owed-2.ensures q bare sent f.id AskFinish last f.aims short stands))

pub returns : goal.returns
returns c = λ q bare sent took short is fits stands.
    let x = c.args.asking.now in
    let view = c.in-Some.view in
    let f = is_finish_of x q bare sent took stands view (c.in-Some.ensures q bare sent took short stands) in
    let last = its_last x q bare sent took stands f.id AskFinish f.aims in
    let own = own_opens x q bare sent took stands f.id AskFinish f.aims c.args.record.now c.open_owed.new.out c.open_owed.result is fits (c.open_owed.ensures q bare sent f.id AskFinish last f.aims short stands) in
    let opened = subst (λ (b : Bool). OpensNamed q.psk (session_of f.id bare) c.args.sealed.now b c.open_owed-2.new.out) c.if-not-open_owed-2.false (c.open_owed-2.ensures q bare sent f.id AskFinish last f.aims short stands) in
    let told = open_apart x q bare sent took stands f.id AskFinish f.aims refl c.args.sealed.now c.open_owed-2.new.out c.open_owed.new.out view opened own.1 f.shown in
    c.is_padded_apart.ensures ∙ ap (λ (n : ℕ). is_padded c.args.sealed.now c.as_slice-2.result.now && is_apart n c.as_slice.result.now c.as_slice-2.result.now) c.size-size.ensures
    ∙ ap (λ (l : List ℕ). is_padded c.args.sealed.now c.as_slice-2.result.now && is_apart (hash_size view.choice.hash) l c.as_slice-2.result.now) c.as_slice.ensures.value
    ∙ ap (λ (l : List ℕ). is_padded c.args.sealed.now l && is_apart (hash_size view.choice.hash) c.open_owed.new.out l) c.as_slice-2.ensures.value ∙ told
