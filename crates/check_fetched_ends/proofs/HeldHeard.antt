-- An answer with which a large one is fetched on in the clear: what the table is told of it.
use Rattle.std.proofs.Common.{◌≡◌, ◌+◌, ◌<◌, ◌==◌, ◌||◌, ℕ, List, refl, sym, ap, ◌∙◌, subst, length, arith, Bool, true, false, Option, Some, None, cond, inl}
use Rattle.std.specs.Prelude.{nat_lt, not}
use Rattle.std.proofs.lemmas.Bool.{false≢true}
use Rattle.std.proofs.lemmas.Bool.Decides.{nat_tests}
use Rattle.std.proofs.lemmas.Option.{none-some}
use Rattle.mctp_framing.specs.Cutting.{RouteFields}
use Rattle.mctp_framing.specs.Gathering.Gathered.{Whole}
use Rattle.check_ends.proofs.InTurn.{AnswersInTurn}
use Rattle.check_requester.specs.HeardKept.{asks_upon, heard_kept}
use Rattle.check_laws.specs.ChangeLaws.{AnswerAccepts}
use Rattle.check_laws.specs.Changes.{IsChange, IsStep, answered_between, answered_in, begun_between, views_in}
use Rattle.check_laws.specs.Keeping.{Kept, kept_of, restored}
use Rattle.check_laws.specs.KeptChanges.{accepted_from}
use Rattle.check_laws.specs.RepliesShown.{answered, responder_for}
use Rattle.check_laws.specs.declared.change.Change.{Change}
use Rattle.check_fetched_ends.proofs.ChangesOn.{accepted_on, asked_on}
use Rattle.check_fetched_ends.specs.Held.{IsQuiet}
use Rattle.check_late_laws.specs.Fetching.{Fetching, IsFetchingOf, dialogue_of}
use Rattle.check_late_laws.specs.FetchingLaws.{GoesFetching}
use Rattle.requester_machine.specs.History.{outstanding}
use Rattle.requester_machine.specs.Setup.{ReqSetup}
use Rattle.responder_machine.specs.History.{History}
use Rattle.capture_machine.specs.Capture.{RepliesBy}
use Rattle.capture_machine.specs.CapturedAnswers.{Answers}
use Rattle.capture_machine.specs.LargeAnswers.{is_fetching, while_fetched}
use Rattle.capture_machine.specs.Rounds.{Dialogue, Round}
use Rattle.capture_machine.specs.SessionTable.{begun_count, has_begun, last_begun}
use Rattle.world_machine.specs.Setup.{Configuration}

not_less : (n : ℕ) → nat_lt n n ≡ false
not_less n = grind (arith, nat_tests)

module _ (k : Kept) (behind : History) (quiet : IsQuiet k.responder behind) (tag : ℕ) (round : Round) (answer : List ℕ) (is : k.round ≡ Some round) (one : round.tag ≡ tag) (accepts : AnswerAccepts) where
  abbrev next : Kept
  next = heard_kept k behind tag round answer

  begun_none : begun_between (restored k) (restored next) ≡ None
  begun_none =
      ap (λ (n : ℕ). cond (nat_lt (begun_count k.responder) n) (Some (last_begun behind)) None) quiet.begun
      ∙ ap (λ (b : Bool). cond b (Some (last_begun behind)) None) (not_less (begun_count k.responder))

  pub change_is : (change : Change) → change.begun ≡ None → change.accepted ≡ accepted_from k round.tag answer → change.answered ≡ None → change.asked ≡ None → change.views ≡ views_in k.responder → IsChange change (restored k) (restored next)
  change_is change begun accepted answered asked views = record {
    begun = begun ∙ sym begun_none;
    accepted = accepted ∙ sym (accepted_on k behind tag round answer is one accepts);
    answered = answered ∙ sym quiet.taken;
    asked = asked ∙ sym (asked_on k behind tag round answer is one);
    views = views ∙ sym quiet.views;
  }

  begun_not : has_begun (restored k) (restored next) ≡ false
  begun_not = ap (nat_lt (begun_count k.responder)) quiet.begun ∙ not_less (begun_count k.responder)

  -- By it the requester accepts no session.
  pub step_is : accepted_from k round.tag answer ≡ None → IsStep (restored k) (restored next)
  step_is none = record {
    setup = refl;
    live = λ begun. absurd (false≢true (sym begun_not ∙ begun));
    few = λ begun. absurd (false≢true (sym begun_not ∙ begun));
    accepted = λ id some. absurd (none-some id (sym none ∙ sym (accepted_on k behind tag round answer is one accepts) ∙ some));
  }
