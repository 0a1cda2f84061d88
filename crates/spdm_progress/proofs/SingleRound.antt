-- A command that takes one round in a session, from when it is told to its result.
use Rattle.std.proofs.Common.{◌≡◌, ◌∙◌, ℕ, List, ◌∷◌, ◌++◌, Bool, true, false, None, Ok, refl, sym, subst}
use Rattle.spdm_grammar.specs.declared.told.event.Event.{Event}
use Rattle.spdm_grammar.specs.declared.told.phase.Stage.TheVariants as stage
use Rattle.spdm_machine.specs.Keys.{Draw}
use Rattle.spdm_machine.specs.TagLog.{Log}
use Rattle.requester_machine.specs.Asking.{Outcome}
use Rattle.requester_machine.specs.Asking.Outcome.{Adds}
use Rattle.requester_machine.specs.Does.{body_chosen, requester_hears}
use Rattle.requester_machine.specs.History as asked
use Rattle.requester_machine.specs.History.{Led}
use Rattle.requester_machine.specs.History.Effect.{Grants}
use Rattle.requester_machine.specs.InnerMessages.{inner_led}
use Rattle.requester_machine.specs.Order.{stage_for}
use Rattle.requester_machine.specs.RequesterLog as asked_log
use Rattle.requester_machine.specs.Session as steps
use Rattle.requester_machine.specs.Session.{Steps}
use Rattle.responder_machine.specs.History as served
use Rattle.responder_machine.specs.Responder.{inner_reply}
use Rattle.responder_machine.specs.Turn.{Turn}
use Rattle.responder_machine.specs.Session as events
use Rattle.spdm_progress.specs.InStep.{AreQuiet, rsp_id}
use Rattle.spdm_progress.proofs.AlikeSessions.{is_kept}
use Rattle.spdm_progress.proofs.MeasureStages.{newest_in}
use Rattle.spdm_progress.proofs.PacketSteps.{Pair}
use Rattle.spdm_progress.proofs.RecordHeard.{came_as}
use Rattle.spdm_progress.proofs.RecordRounds.{live_waited, quiet_still}
use Rattle.spdm_progress.proofs.SessionRounds.{AreAnswered, Asking, CameThere, IsAnswered, IsAsked, answer_for, answered_sent, answered_still, asked_sent, asked_steps, asked_still, came_still, entry, held_then, hears_so, live_then, quiet_gone, quiet_then, serves_so, took_steps}
use Rattle.spdm_progress.proofs.Talk.{IsTalk, Leads, Over}

module _ (p : Pair) (same_key : p.requester.psk ≡ p.responder.psk) (id : ℕ) (x : Asking) (Fit : Steps → Type 0) (Good : Steps → Turn → Type 0) (told : Event) where
  -- The round alone.
  pub record AsksOnce (more tag : ℕ) (body : List ℕ) (log : Log) (h : asked.History) (g : served.History) : Type 0 where
    pub is : IsAsked p.requester p.responder p.first id x Fit tag body log h g

  pub record AnswersOnce (more tag : ℕ) (body : List ℕ) (log : Log) (h : asked.History) (g : served.History) : Type 0 where
    pub is : IsAnswered p.requester p.responder p.first id x Fit Good tag body log h g

  -- The newest entry is what the ask brings about, in a turn of which so much is known.
  pub record HasBrought (h : asked.History) : Type 0 where
    pub before : Steps
    pub turn : Turn
    pub fit : Fit before
    pub good : Good before turn
    pub newest : newest_in h ≡ x.brings turn

  -- The two ends are quiet, and the session goes on at both unless it is ended.
  pub record Quiet (log : Log) (h : asked.History) (g : served.History) : Type 0 where
    pub quiet : AreQuiet p.requester p.responder p.first log h g
    pub session : steps.is_live (steps.session_of id h) ≡ is_kept x.ask
    pub brought : HasBrought h
    pub there : events.is_live (events.session_of (rsp_id brought.before) g) ≡ is_kept x.ask
    pub came : CameThere p.requester p.responder p.first id x brought.turn g

  -- The responder's answer is the one that the command waits for, and after it the session is open or ended.
  pub record IsLast : Type 0 where
    pub answers : AreAnswered p.requester p.responder p.first id x Fit Good
    pub leads : (h : asked.History) (d : Draw) (s : Steps) (pad : List ℕ) (t : Turn) → Fit s → Good s t → steps.session_of id h ≡ asked_steps p.requester p.responder p.first id x s pad
        → inner_led p.requester h (body_chosen p.requester h d) (came_as h id (answer_for p.requester p.responder p.first id x s t) (inner_reply t)) x.ask ≡ Ok (record { event = told; effect = x.brings t; next = None })
    pub at_end : (s : Steps) (pad : List ℕ) (t : Turn) → steps.stage_of s ≡ stage_for x.ask → is_kept x.ask ≡ true → steps.stage_of (took_steps p.requester p.responder p.first id x s pad t) ≡ stage.Open

  quiet_behind : (k : Bool) → is_kept x.ask ≡ k → IsLast → (more tag : ℕ) (body : List ℕ) (log : Log) (h : asked.History) (g : served.History) (d : Draw) → (y : IsAnswered p.requester p.responder p.first id x Fit Good tag body log h g)
      → (acts : Log) → AreQuiet p.requester p.responder p.first (acts ++ log) (entry p.requester p.responder p.first id x Fit Good tag log h g d body y told None ∷ h) g
  quiet_behind true kept last more tag body log h g d y acts =
      quiet_then p.requester p.responder p.first id x Fit Good tag log h g d body y told None (last.leads h d y.s y.pad y.t y.fit y.good y.steps_are) acts refl kept (last.at_end y.s y.pad y.t y.at kept)
  quiet_behind false ends last more tag body log h g d y acts =
      quiet_gone p.requester p.responder p.first id x Fit Good tag log h g d body y told None (last.leads h d y.s y.pad y.t y.fit y.good y.steps_are) acts refl ends

  once_heard : IsLast → (more tag : ℕ) (body : List ℕ) (log : Log) (h : asked.History) (g : served.History) (d : Draw) → AnswersOnce more tag body log h g
      → Leads p AsksOnce Quiet told more (requester_hears p.requester h false tag body d) (asked_log.acts_of p.requester h body (requester_hears p.requester h false tag body d) ++ log) h g
  once_heard last more tag body log h g d z =
      let e = entry p.requester p.responder p.first id x Fit Good tag log h g d body z.is told None in
      subst (λ (o : Outcome). Leads p AsksOnce Quiet told more o (asked_log.acts_of p.requester h body o ++ log) h g)
      (sym (hears_so p.requester p.responder p.first id x Fit Good tag log h g d body z.is told None (last.leads h d z.is.s z.is.pad z.is.t z.is.fit z.is.good z.is.steps_are)))
      (Over refl refl (record {
        quiet = quiet_behind (is_kept x.ask) refl last more tag body log h g d z.is (asked_log.acts_of p.requester h body (Adds e));
        session = live_then p.requester p.responder p.first id x Fit Good tag log h g d body z.is told None (last.leads h d z.is.s z.is.pad z.is.t z.is.fit z.is.good z.is.steps_are) (is_kept x.ask) refl refl;
        brought = record { before = z.is.s; turn = z.is.t; fit = z.is.fit; good = z.is.good; newest = refl };
        there = held_then p.requester p.responder p.first id x Fit Good tag body log h g z.is (is_kept x.ask) refl;
        came = z.is.came;
      }))

  pub once_talk : IsLast → IsTalk p AsksOnce AnswersOnce Quiet told
  once_talk last = record {
    asks_sent = λ more tag body log h g z. asked_sent p.requester p.responder p.first id x Fit tag body log h g z.is;
    answers_sent = λ more tag body log h g z. answered_sent p.requester p.responder p.first id x Fit Good tag body log h g z.is;
    serves = λ more tag body log h g d drawn chance z. record { is = serves_so p.requester p.responder p.first id x same_key Fit Good last.answers tag log h g d drawn body z.is chance };
    hears = λ more tag body log h g d chance z. once_heard last more tag body log h g d z;
    asks_still = λ more tag body log h g later alike z. record { is = asked_still p.requester p.responder p.first id x Fit tag body log h g later alike z.is };
    answers_still = λ more tag body log h g later alike z. record { is = answered_still p.requester p.responder p.first id x Fit Good tag body log h g later alike z.is };
    done_still = λ log h g later alike z. record { quiet = quiet_still p.requester p.responder p.first log h g later alike z.quiet; session = z.session; brought = z.brought; there = live_waited _ _ (alike.sessions (rsp_id z.brought.before)) ∙ z.there; came = came_still p.requester p.responder p.first id x z.brought.turn g later alike z.came };
  }
