-- A talk of one round more: a first one, whose answer leads to the request of a talk.
use Rattle.std.proofs.Common.{◌≡◌, ◌⊎◌, ℕ, suc, List, ◌++◌, length, false, Some, inl, inr}
use Rattle.spdm_grammar.specs.declared.told.event.Event.{Event}
use Rattle.spdm_machine.specs.Keys.{Draw}
use Rattle.spdm_machine.specs.TagLog.{Log}
use Rattle.requester_machine.specs.Asking.{Outcome}
use Rattle.requester_machine.specs.Does.{requester_hears}
use Rattle.requester_machine.specs.History as asked
use Rattle.requester_machine.specs.Message.{Sent, body_of}
use Rattle.requester_machine.specs.RequesterLog as asked_log
use Rattle.requester_machine.specs.Shown as shown
use Rattle.responder_machine.specs.Does.{responder_does}
use Rattle.responder_machine.specs.History as served
use Rattle.responder_machine.specs.Responder as answering
use Rattle.responder_machine.specs.ResponderLog as served_log
use Rattle.world_machine.specs.Chance.{NoChance}
use Rattle.spdm_progress.proofs.PacketSteps.{Pair}
use Rattle.spdm_progress.proofs.StillKept.{AreAlike}
use Rattle.spdm_progress.proofs.Talk.{IsSendable, IsTalk, Leads, Further, Over, Stage}

-- What holds of the two ends while a body of one round is on its way.
abbrev pub OneStage : Type 1
OneStage = ℕ → List ℕ → Log → asked.History → served.History → Type 0

-- A round whose answer leads to a further request.
pub record LeadsTo (Asks : OneStage) (o : Outcome) (log : Log) (h : asked.History) (g : served.History) : Type 0 where
  pub next : Sent
  pub sends : shown.sent_by o ≡ Some next
  pub asks : Asks next.tag (body_of next.content) log (shown.after h o) g

pub record IsFirst (p : Pair) (Asks Answers Then : OneStage) : Type 0 where
  pub asks_sent : (tag : ℕ) (body : List ℕ) (log : Log) (h : asked.History) (g : served.History) → Asks tag body log h g → IsSendable tag body
  pub answers_sent : (tag : ℕ) (body : List ℕ) (log : Log) (h : asked.History) (g : served.History) → Answers tag body log h g → IsSendable tag body
  pub serves : (tag : ℕ) (body : List ℕ) (log : Log) (h : asked.History) (g : served.History) (d : Draw) → length d.bytes ≡ 32 → NoChance log → Asks tag body log h g
      → Answers tag (answering.body_of (responder_does p.responder g tag body d)) (served_log.acts_of p.responder g body (responder_does p.responder g tag body d) ++ log) h (answering.after g (responder_does p.responder g tag body d))
  pub hears : (tag : ℕ) (body : List ℕ) (log : Log) (h : asked.History) (g : served.History) (d : Draw) → NoChance log → Answers tag body log h g
      → LeadsTo Then (requester_hears p.requester h false tag body d) (asked_log.acts_of p.requester h body (requester_hears p.requester h false tag body d) ++ log) h g
  pub asks_still : (tag : ℕ) (body : List ℕ) (log : Log) (h : asked.History) (g later : served.History) → AreAlike p.responder g later → Asks tag body log h g → Asks tag body log h later
  pub answers_still : (tag : ℕ) (body : List ℕ) (log : Log) (h : asked.History) (g later : served.History) → AreAlike p.responder g later → Answers tag body log h g → Answers tag body log h later

module _ (p : Pair) (count : ℕ) (First FirstAnswer : OneStage) (Second SecondAnswer : Stage) (Done : Log → asked.History → served.History → Type 0) (told : Event) where
  -- The first round, with so many to follow; or one of these.
  abbrev pub Asks : Stage
  Asks more tag body log h g = ((more ≡ suc count) × First tag body log h g) ⊎ Second more tag body log h g

  abbrev pub Answers : Stage
  Answers more tag body log h g = ((more ≡ suc count) × FirstAnswer tag body log h g) ⊎ SecondAnswer more tag body log h g

  wider : (more : ℕ) (o : Outcome) (log : Log) (h : asked.History) (g : served.History) → Leads p Second Done told more o log h g → Leads p Asks Done told more o log h g
  wider more o log h g (Further next fewer one_less sends asks) = Further next fewer one_less sends (inr asks)
  wider more o log h g (Over sends tells done) = Over sends tells done

  leads_on : (more : ℕ) (o : Outcome) (log : Log) (h : asked.History) (g : served.History) → more ≡ suc count → LeadsTo (Second count) o log h g → Leads p Asks Done told more o log h g
  leads_on more o log h g one x = Further x.next count one x.sends (inr x.asks)

  module _ (first : IsFirst p First FirstAnswer (Second count)) (second : IsTalk p Second SecondAnswer Done told) where
    sent_so : (more tag : ℕ) (body : List ℕ) (log : Log) (h : asked.History) (g : served.History) → Asks more tag body log h g → IsSendable tag body
    sent_so more tag body log h g (inl x) = first.asks_sent tag body log h g x.1
    sent_so more tag body log h g (inr x) = second.asks_sent more tag body log h g x

    answered_so : (more tag : ℕ) (body : List ℕ) (log : Log) (h : asked.History) (g : served.History) → Answers more tag body log h g → IsSendable tag body
    answered_so more tag body log h g (inl x) = first.answers_sent tag body log h g x.1
    answered_so more tag body log h g (inr x) = second.answers_sent more tag body log h g x

    serves_so : (more tag : ℕ) (body : List ℕ) (log : Log) (h : asked.History) (g : served.History) (d : Draw) → length d.bytes ≡ 32 → NoChance log → Asks more tag body log h g
        → Answers more tag (answering.body_of (responder_does p.responder g tag body d)) (served_log.acts_of p.responder g body (responder_does p.responder g tag body d) ++ log) h (answering.after g (responder_does p.responder g tag body d))
    serves_so more tag body log h g d drawn chance (inl x) = inl (x.0, first.serves tag body log h g d drawn chance x.1)
    serves_so more tag body log h g d drawn chance (inr x) = inr (second.serves more tag body log h g d drawn chance x)

    hears_so : (more tag : ℕ) (body : List ℕ) (log : Log) (h : asked.History) (g : served.History) (d : Draw) → NoChance log → Answers more tag body log h g
        → Leads p Asks Done told more (requester_hears p.requester h false tag body d) (asked_log.acts_of p.requester h body (requester_hears p.requester h false tag body d) ++ log) h g
    hears_so more tag body log h g d chance (inl x) = leads_on more _ _ h g x.0 (first.hears tag body log h g d chance x.1)
    hears_so more tag body log h g d chance (inr x) = wider more _ _ h g (second.hears more tag body log h g d chance x)

    asks_on : (more tag : ℕ) (body : List ℕ) (log : Log) (h : asked.History) (g later : served.History) → AreAlike p.responder g later → Asks more tag body log h g → Asks more tag body log h later
    asks_on more tag body log h g later alike (inl x) = inl (x.0, first.asks_still tag body log h g later alike x.1)
    asks_on more tag body log h g later alike (inr x) = inr (second.asks_still more tag body log h g later alike x)

    answers_on : (more tag : ℕ) (body : List ℕ) (log : Log) (h : asked.History) (g later : served.History) → AreAlike p.responder g later → Answers more tag body log h g → Answers more tag body log h later
    answers_on more tag body log h g later alike (inl x) = inl (x.0, first.answers_still tag body log h g later alike x.1)
    answers_on more tag body log h g later alike (inr x) = inr (second.answers_still more tag body log h g later alike x)

    pub two_talk : IsTalk p Asks Answers Done told
    two_talk = record {
      asks_sent = sent_so;
      answers_sent = answered_so;
      serves = serves_so;
      hears = hears_so;
      asks_still = asks_on;
      answers_still = answers_on;
      done_still = second.done_still;
    }
