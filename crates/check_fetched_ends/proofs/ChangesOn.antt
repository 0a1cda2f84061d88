-- What an answer changes of what rows of the table depend on, whether a large response is fetched or not.
use Rattle.std.proofs.Common.{◌≡◌, ◌==◌, ℕ, List, refl, sym, ap, ◌∙◌, Bool, false, Option, Some, None, cond, eq-eqb}
use Rattle.std.specs.Prelude.{not}
use Rattle.check_requester.specs.HeardKept.{heard_kept}
use Rattle.check_laws.proofs.AnswerSteps.{taken_same}
use Rattle.check_laws.specs.ChangeLaws.{AnswerAccepts}
use Rattle.check_laws.specs.Changes.{asked_between, session_in}
use Rattle.check_laws.specs.Keeping.{Kept, restored}
use Rattle.check_laws.specs.KeptChanges.{accepted_from}
use Rattle.check_laws.specs.RepliesShown.{answered, heard_from, no_values}
use Rattle.requester_machine.specs.Hearing.{hears}
use Rattle.requester_machine.specs.History as requester_history
use Rattle.requester_machine.specs.History.{outstanding}
use Rattle.responder_machine.specs.History.{History}
use Rattle.capture_machine.specs.Rounds.{Dialogue, Round, no_draw}
use Rattle.capture_machine.specs.SessionTable.{accepted_between, is_new}

module _ (k : Kept) (behind : History) (tag : ℕ) (round : Round) (answer : List ℕ) (is : k.round ≡ Some round) (one : round.tag ≡ tag) where
  abbrev next : Kept
  next = heard_kept k behind tag round answer

  pub accepted_on : AnswerAccepts → accepted_between (restored k) (restored next) ≡ accepted_from k round.tag answer
  unfolding heard_from accepted_from
  accepted_on accepts =
      let after : Dialogue = record (restored k) { requester = heard_from k tag answer; responder = behind; round = Some (answered round) } in
      taken_same (restored k) after ∙ accepts (restored k) after (hears k.setup (restored k).requester false tag answer no_values no_draw) refl
      ∙ ap (λ (n : ℕ). accepted_from k n answer) (sym one)

  same_tag : (n : ℕ) → not (n == n) ≡ false
  same_tag n = ap not (eq-eqb n n refl)

  pub asked_on : asked_between (restored k) (restored next) ≡ None
  asked_on =
      let sent : requester_history.History = (restored next).requester in
      ap (λ (x : Option Round). cond (is_new x (answered round)) (session_in (outstanding sent)) None) is
      ∙ ap (λ (b : Bool). cond b (session_in (outstanding sent)) None) (same_tag round.tag)
