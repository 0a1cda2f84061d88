-- While a talk goes on a request of the requester is outstanding.
use Rattle.std.proofs.Common.{◌≡◌, ℕ, Bool, true, Some, is_some, ap}
use Rattle.spdm_grammar.specs.declared.told.event.Event.{Event}
use Rattle.spdm_machine.proofs.Members.{none_some}
use Rattle.spdm_machine.specs.TagLog.{Log}
use Rattle.requester_machine.specs.Asking.{Outcome}
use Rattle.requester_machine.specs.Asking.Outcome.{Adds, Fails, Ignores, Resends, Warns}
use Rattle.requester_machine.specs.History as asked
use Rattle.requester_machine.specs.Message.{Sent}
use Rattle.requester_machine.specs.Shown as shown
use Rattle.responder_machine.specs.History as served
use Rattle.spdm_progress.proofs.PacketSteps.{Pair}
use Rattle.spdm_progress.proofs.Talk.{AreShort, Further, IsTalk, Leads, Over, Stage}

-- A request is outstanding.
abbrev pub is_out : asked.History → Bool
is_out h = is_some (asked.outstanding h)

-- What is sent is outstanding from then on.
out_then : (h : asked.History) (o : Outcome) (next : Sent) → shown.sent_by o ≡ Some next → is_out h ≡ true → is_out (shown.after h o) ≡ true
out_then h (Fails fault) next is out = absurd (none_some next is)
out_then h (Ignores cause) next is out = absurd (none_some next is)
out_then h (Warns code) next is out = absurd (none_some next is)
out_then h (Resends sent) next is out = out
out_then h (Adds entry) next is out = ap is_some is

module _ (p : Pair) (Asks Answers : Stage) (Done : Log → asked.History → served.History → Type 0) (told : Event) where
  -- The same stages, with that.
  abbrev pub AsksOut : Stage
  AsksOut more tag body log h g = Asks more tag body log h g × (is_out h ≡ true)

  abbrev pub AnswersOut : Stage
  AnswersOut more tag body log h g = Answers more tag body log h g × (is_out h ≡ true)

  leads_out : (more : ℕ) (o : Outcome) (log : Log) (h : asked.History) (g : served.History) → is_out h ≡ true → Leads p Asks Done told more o log h g → Leads p AsksOut Done told more o log h g
  leads_out more o log h g out (Further next fewer one_less sends asks) = Further next fewer one_less sends (asks, out_then h o next sends out)
  leads_out more o log h g out (Over sends tells done) = Over sends tells done

  pub out_talk : IsTalk p Asks Answers Done told → IsTalk p AsksOut AnswersOut Done told
  out_talk talk = record {
    asks_sent = λ more tag body log h g x. talk.asks_sent more tag body log h g x.0;
    answers_sent = λ more tag body log h g x. talk.answers_sent more tag body log h g x.0;
    serves = λ more tag body log h g d drawn chance x. (talk.serves more tag body log h g d drawn chance x.0, x.1);
    hears = λ more tag body log h g d chance x. leads_out more _ _ h g x.1 (talk.hears more tag body log h g d chance x.0);
    asks_still = λ more tag body log h g later alike x. (talk.asks_still more tag body log h g later alike x.0, x.1);
    answers_still = λ more tag body log h g later alike x. (talk.answers_still more tag body log h g later alike x.0, x.1);
    done_still = talk.done_still;
  }

  pub out_short : (there round : ℕ → ℕ) → AreShort there round Asks Answers → AreShort there round AsksOut AnswersOut
  out_short there round short = record {
    asks = λ more tag body log h g x. short.asks more tag body log h g x.0;
    answers = λ more tag body log h g x. short.answers more tag body log h g x.0;
  }
