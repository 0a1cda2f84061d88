-- What the program tells of a body that may begin a round. This project's own.
use Rattle.std.specs.Prelude.{◌≡◌, ◌==◌, ℕ, List, Bool, true, false, None, Result, Ok, Err, slice_index}
use Rattle.requester_machine.specs.History.{History, outstanding}
use Rattle.requester_machine.specs.Setup.{ReqSetup}
use Rattle.spdm_grammar.specs.declared.told.why.Why as declared
use Rattle.check_requester.specs.JudgedRequester.{IsAsker, gone_on}
use Rattle.check_laws.specs.Judged.{why_of}
use Rattle.check_laws.specs.Keeping.{Kept, SendsKept, restored}
use Rattle.check_requester.specs.declared.judged_requester.JudgedRequester.{JudgedRequester}
use Rattle.capture_machine.specs.Difference.{Why, asks_apart, request_why}
use Rattle.capture_machine.specs.Difference.Why.{BadVerify}
use Rattle.capture_machine.specs.Rounds.{Dialogue}
use Rattle.spdm_grammar.specs.declared.names.message_type.TheConstants.{SECURED}

-- Whether it begins a round whole: then what is kept is that of the history after it.
abbrev pub IsAskedBy : ReqSetup → Kept → (body : List ℕ) → Bool → (new : JudgedRequester) → Type 0
IsAskedBy q k body true new = (after : History) × SendsKept k body after × IsAsker new q (gone_on k after)
IsAskedBy q k body false new = (after : History) → SendsKept k body after → ⊥

-- Why a request in turn is refused: its verify data alone are wrong, or what else is.
abbrev pub IsRefusedFor : Dialogue → (body : List ℕ) → Why → Type 0
IsRefusedFor d body BadVerify = asks_apart d body ≡ true
IsRefusedFor d body why = (asks_apart d body ≡ false) × (request_why d body ≡ why)

-- A body is a record, where nothing is owed and nothing outstanding.
pub record ComesPlain (k : Kept) (body : List ℕ) : Type 0 where
  pub secured : (slice_index body 0 == SECURED) ≡ true
  pub owed : k.owed ≡ None
  pub none : outstanding k.requester ≡ None

-- One or the other.
abbrev pub IsJudged : ReqSetup → Kept → (body : List ℕ) → Result Unit declared.Why → (new : JudgedRequester) → Type 0
IsJudged q k body (Ok u) new = IsAskedBy q k body true new
IsJudged q k body (Err why) new = IsAskedBy q k body false new × IsRefusedFor (restored k) body (why_of why)
