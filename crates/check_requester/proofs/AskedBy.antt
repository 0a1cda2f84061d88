-- Whether a body begins a round whole, by what it may be.
use Rattle.std.proofs.Common.{◌≡◌, ◌∙◌, ℕ, List, Bool, true, false, Option, Some, None, inl, inr, sym, ap, subst}
use Rattle.std.specs.Prelude.{is_some}
use Rattle.std.proofs.lemmas.Bool.{false≢true}
use Rattle.requester_core.specs.Joined.{StandsFor}
use Rattle.requester_machine.specs.History.{History, outstanding}
use Rattle.requester_machine.specs.Message.{Sent}
use Rattle.requester_machine.specs.Message.Command.{Connect}
use Rattle.requester_machine.specs.Setup.{ReqSetup}
use Rattle.spdm_basis.proofs.Options.{none_out}
use Rattle.check_requester.specs.Asked.{IsAskedBy}
use Rattle.check_requester.specs.JudgedRequester.{IsAsker, IsGoneOn, IsKeptSetup, gone_on}
use Rattle.check_requester.specs.Commanded.{IsSentByCommand}
use Rattle.check_laws.specs.Keeping.{GoesOnKept, Kept, owing}
use Rattle.check_requester.specs.SealedTold.{IsSentBy}
use Rattle.check_requester.specs.declared.judged_requester.JudgedRequester.{JudgedRequester}
use Rattle.check_requester.specs.declared.judged_setup.JudgedSetup.{JudgedSetup}
use Rattle.capture_machine.specs.CapturedRequests.{Tells}

-- The message that is owed came.
pub owed_asks : (q : ReqSetup) (k : Kept) (body : List ℕ) (new : JudgedRequester) → IsGoneOn q k body true new → IsAskedBy q k body true new
owed_asks q k body new goes = (goes.0, inr (inr goes.1), goes.2)

module _ (q : ReqSetup) (k : Kept) (body : List ℕ) (old new : JudgedRequester) (asker : IsAsker old q k) (same : new.setup ≡ old.setup) (rests : new.owes ≡ false) (not : (after : History) → GoesOnKept k body after → ⊥) where
  keeps : (after : History) → StandsFor new.asking q after → IsAsker new q (gone_on k after)
  keeps after stands = record {
    kept = subst (λ (x : JudgedSetup). IsKeptSetup x q) (sym same) asker.kept;
    setup = asker.setup;
    stands = stands;
    owes = rests;
  }

  as_own : (Tell : ReqSetup → Type 0) → Tell q → Tell k.setup
  as_own Tell t = subst Tell (sym asker.setup) t

  as_seen : (Tell : ReqSetup → Type 0) → Tell k.setup → Tell q
  as_seen Tell t = subst Tell asker.setup t

  -- No command may come, and GET_VERSION is judged.
  pub version_asks : ((k.owed ≡ None) → (outstanding k.requester ≡ None) → ⊥) → (b : Bool) → IsSentBy q k.requester Connect body b new.asking → IsAskedBy q k body b new
  version_asks busy true sent = (sent.0, inl (as_own (λ x. Tells x k.requester Connect body sent.0) sent.1), keeps sent.0 sent.2)
  version_asks busy false sent = λ after s. elim s [
    | inl c ↦ sent after (as_seen (λ x. Tells x k.requester Connect body after) c)
    | inr r ↦ elim r [
      | inl c ↦ busy c.1 c.2
      | inr g ↦ not after g
    ]
  ]

  -- A command may come.
  pub command_asks : k.owed ≡ None → outstanding k.requester ≡ None → (b : Bool) → IsSentByCommand q k.requester body b new.asking → IsAskedBy q k body b new
  command_asks owed none true sent = (sent.1, inr (inl (sent.0, owed, none, as_own (λ x. Tells x k.requester sent.0 body sent.1) sent.2)), keeps sent.1 sent.3)
  command_asks owed none false sent = λ after s. elim s [
    | inl c ↦ sent Connect after (as_seen (λ x. Tells x k.requester Connect body after) c)
    | inr r ↦ elim r [
      | inl c ↦ sent c.0 after (as_seen (λ x. Tells x k.requester c.0 body after) c.3)
      | inr g ↦ not after g
    ]
  ]

-- ---- Whether a message is owed or outstanding.

pub none_kept : (q : ReqSetup) (k : Kept) (seen : JudgedRequester) → IsAsker seen q k → seen.owes ≡ false → k.owed ≡ None
none_kept q k seen asker is = none_out k.owed (sym asker.owes ∙ is)

pub bare_kept : (q : ReqSetup) (k : Kept) (seen : JudgedRequester) → IsAsker seen q k → seen.owes ≡ false → StandsFor seen.asking q k.requester
bare_kept q k seen asker is = subst (λ (o : Option Sent). StandsFor seen.asking q (owing o k.requester)) (none_kept q k seen asker is) asker.stands

pub waits_busy : (k : Kept) → is_some (outstanding k.requester) ≡ true → k.owed ≡ None → outstanding k.requester ≡ None → ⊥
waits_busy k is owed none = false≢true (ap is_some (sym none) ∙ is)

pub owed_busy : (k : Kept) (sent : Sent) → k.owed ≡ Some sent → k.owed ≡ None → outstanding k.requester ≡ None → ⊥
owed_busy k sent is owed none = false≢true (ap is_some (sym owed ∙ is))

pub none_waits : (k : Kept) → is_some (outstanding k.requester) ≡ false → outstanding k.requester ≡ None
none_waits k is = none_out (outstanding k.requester) is
