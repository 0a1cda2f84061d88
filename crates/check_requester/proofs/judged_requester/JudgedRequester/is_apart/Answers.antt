use Rattle.std.proofs.Common.{◌≤◌, ◌∙◌, List, ℕ, Option, Some, ap, drop, length, subst, sym}
use Rattle.requester_core.specs.Joined.{StandsFor}
use Rattle.requester_machine.specs.Message.{Sent}
use Rattle.requester_machine.specs.Owed.{with_next}
use Rattle.check_requester.proofs.GoneOn.{some_of}
use Rattle.check_requester.proofs.FinishApart.{drop_short, long_with, owing_long}
use Rattle.check_requester.proofs.OwedSent.{out_owed}
use Rattle.check_requester.proofs.OwedTook.{kept_few, owed_took}
use Rattle.check_requester.proofs.ReasonsKept.{none_apart, other_body, owed_apart}
use Rattle.check_requester.proofs.judged_requester.JudgedRequester.is_apart.Goals as goal
use Rattle.check_laws.specs.Keeping.{owing}
use Rattle.check_requester.specs.RefusedRequest.{finish_apart}
use Rattle.capture_machine.specs.Difference.{finish_in}

pub returns-then-not-is_secured-clause-apart : goal.returns-then-not-is_secured-clause-apart
returns-then-not-is_secured-clause-apart c = λ w q older k keeps few asker. other_body w q older k keeps c.args.body.now (sym c.is_secured.ensures ∙ c.if-not-is_secured.true)

pub returns-then-not-self-clause-apart : goal.returns-then-not-self-clause-apart
returns-then-not-self-clause-apart c = λ w q older k keeps few asker. none_apart w q older k keeps c.args.body.now (sym asker.owes ∙ c.if-not-self.true)

pub returns-clause-apart : goal.returns-clause-apart
returns-clause-apart c = λ w q older k keeps few asker.
    let some = some_of k.owed (sym asker.owes ∙ c.if-not-self.false) in
    let sent = some.0 in
    let short = kept_few w q older k keeps few in
    let took = owed_took w q older k sent keeps some.1 in
    let stands = subst (λ (o : Option Sent). StandsFor c.args.self.now.asking q (owing o k.requester)) some.1 asker.stands in
    let long = long_with k.requester sent short in
    let still = c.write_outstanding.ensures.stands q (with_next (Some sent) k.requester) asker.kept long stands in
    let room = c.write_outstanding.ensures.room q (with_next (Some sent) k.requester) sent asker.kept long stands (out_owed k.requester sent took) in
    let own = c.rest_of.ensures ∙ ap (drop 1) (c.as_slice.ensures.value ∙ room) in
    let fits = subst (λ (l : List ℕ). length l ≤ 4160) (sym (c.rest_of.ensures ∙ ap (drop 1) c.as_slice.ensures.value)) (drop_short c.write_outstanding.new.room c.as_slice.ensures.fits) in
    let told = c.is_finish_apart.ensures q k.requester sent took short own fits still in
    told ∙ ap (λ (l : List ℕ). finish_apart q k.requester l (finish_in (Some sent))) c.rest_of-2.ensures ∙ owed_apart w q older k keeps c.args.body.now sent asker.setup (sym c.is_secured.ensures ∙ c.if-not-is_secured.false) some.1

pub returns-clause-kept : goal.returns-clause-kept
returns-clause-kept c = λ w q older k keeps few asker. record {
  kept = asker.kept;
  setup = asker.setup;
  stands = c.write_outstanding.ensures.stands q (owing k.owed k.requester) asker.kept (owing_long k.owed k.requester (kept_few w q older k keeps few)) asker.stands;
  owes = asker.owes;
}
