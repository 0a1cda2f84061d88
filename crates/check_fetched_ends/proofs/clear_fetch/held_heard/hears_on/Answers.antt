use Rattle.std.proofs.Common.{◌≡◌, ◌∙◌, ◌<◌, ◌≤◌, ◌+◌, ◌-◌, ◌^◌, ℕ, List, Bool, true, false, Option, Some, None, refl, sym, ap, subst, length, arith, inl, inr, is_some, Result}
use Rattle.std.specs.Prelude.{OnOk}
use Rattle.spdm_basis.specs.declared.OutOfMemory.{OutOfMemory}
use Rattle.check_requester.specs.JudgedRequester.{IsAsker}
use Rattle.check_requester.specs.HeardKept.{asks_upon, heard_kept}
use Rattle.check_laws.specs.Keeping.{Kept, restored}
use Rattle.check_laws.specs.KeptChanges.{accepted_from}
use Rattle.check_laws.specs.Order.{tag_in}
use Rattle.check_laws.specs.RepliesShown.{responder_for}
use Rattle.check_laws.specs.Rows as rows_of
use Rattle.check_fetched_ends.proofs.HeldHeard.{change_is, step_is}
use Rattle.check_fetched_ends.proofs.HeldOn.{carries, few, views_here}
use Rattle.requester_machine.specs.Setup.{ReqSetup}
use Rattle.capture_machine.specs.SessionTable.{number_from, rows_between}
use Rattle.check_fetched_ends.proofs.clear_fetch.held_heard.hears_on.Goals as goal

pub returns-clause-told : goal.returns-clause-told
returns-clause-told c w q older rows f route held behind of own less is now one kept gets asks accepts quiet stands =
    let k : Kept = f.kept in
    let answer : List ℕ = c.args.answer.now in
    let carried = carries w q older rows f own c.args.party.now held kept in
    let tag : of.tag ≡ c.tag.result = sym (c.tag.ensures ∙ ap tag_in now) in
    let heard = c.hears-heard.ensures.accepted w q older k of carried (omega (arith, less)) is tag kept.beside.asker in
    let accepted : c.hears-heard.result.accepted ≡ accepted_from k of.tag answer = heard ∙ ap (λ (n : ℕ). accepted_from k n answer) (sym tag) in
    let none : accepted_from k of.tag answer ≡ None = ap (λ (n : ℕ). accepted_from k n answer) one ∙ accepts in
    let small = few w q older rows f own c.args.party.now held kept less in
    let views = c.change-change.ensures.views (responder_for w k) kept.before.left kept.before.stands (omega (arith, small)) ∙ views_here w q older rows f own c.args.party.now held kept in
    let next : Kept = heard_kept k behind route.tag of answer in
    let change = change_is k behind quiet route.tag of answer is one c.answer_accepts.ensures c.change-change.result c.change-change.ensures.begun (c.change-change.ensures.accepted ∙ accepted) c.change-change.ensures.taken c.change-change.ensures.asked views in
    let step = step_is k behind quiet route.tag of answer is one c.answer_accepts.ensures none in
    let number = kept.beside.number ∙ ap (λ (s : ReqSetup). number_from 1 s.eid w.requesters) (sym kept.beside.asker.setup) in
    let it = c.in_ok-take.was in
    let table = subst (λ (x : Result Unit OutOfMemory). OnOk x (rows_of.StandsForRows c.take.new.self w (length older + 1) (rows_between (restored k) (restored next) rows))) it
    (c.take.ensures.table w (length older) (restored k) (restored next) rows change step (omega (arith, less)) number stands kept.beside.places) in
    let places = subst (λ (x : Result Unit OutOfMemory). OnOk x (rows_of.StandFor c.take.new.places (restored next) (rows_between (restored k) (restored next) rows))) it
    (c.take.ensures.places w (length older) (restored k) (restored next) rows change step stands kept.beside.places) in
    record {
      asker = subst (λ (n : ℕ). IsAsker c.hears-heard.new.self q (heard_kept k behind n of answer)) (sym tag ∙ one) (c.hears-heard.ensures.kept w q older k behind of carried less is tag kept.beside.asker);
      answerer = refl;
      keys = refl;
      number = refl;
      places = places;
      stands = table;
    }
