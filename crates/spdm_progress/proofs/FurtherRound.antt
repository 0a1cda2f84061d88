-- A further record follows the answer to a record, for the session as it follows it.
use Rattle.std.proofs.Common.{◌≡◌, ◌∙◌, ℕ, ◌≤◌, ◌+◌, List, [], ◌∷◌, ◌++◌, length, Bool, true, false, Some, Ok, refl, sym, ap, subst, eq-eqb}
use Rattle.std.specs.Prelude.{if◌then◌else◌}
use Rattle.spdm_grammar.specs.declared.told.event.Event.{Event}
use Rattle.spdm_machine.specs.Bodies.{record_body}
use Rattle.spdm_machine.specs.Keys.{Draw}
use Rattle.spdm_machine.specs.TagLog.{Log, made_record}
use Rattle.requester_machine.specs.Asking.{Outcome}
use Rattle.requester_machine.specs.Asking.Outcome.{Adds}
use Rattle.requester_machine.specs.Does.{body_chosen, requester_hears}
use Rattle.requester_machine.specs.History as asked
use Rattle.requester_machine.specs.History.{Led, outstanding}
use Rattle.requester_machine.specs.History.Effect.{Grants}
use Rattle.requester_machine.specs.InnerMessages.{inner_led}
use Rattle.requester_machine.specs.Message.{Sent}
use Rattle.requester_machine.specs.Order.{stage_for}
use Rattle.requester_machine.specs.Records.{request_purpose, sealed_next}
use Rattle.requester_machine.specs.RequesterLog as asked_log
use Rattle.requester_machine.specs.Sending.{record_sent}
use Rattle.requester_machine.specs.Session as steps
use Rattle.requester_machine.specs.Session.{Steps}
use Rattle.requester_machine.specs.Session.Step.{Asked, Took as TookAnswer}
use Rattle.requester_machine.specs.Setup.{ReqSetup}
use Rattle.responder_machine.specs.History as served
use Rattle.responder_machine.specs.Responder.{inner_reply}
use Rattle.responder_machine.specs.Session as events
use Rattle.responder_machine.specs.Setup.{RspSetup}
use Rattle.responder_machine.specs.Turn.{Turn}
use Rattle.spdm_progress.specs.InStep.{rsp_id}
use Rattle.spdm_progress.proofs.AlikeSessions.{is_kept}
use Rattle.spdm_progress.proofs.RecordHeard.{came_as}
use Rattle.spdm_progress.proofs.RequesterStages.{next_small}
use Rattle.spdm_progress.proofs.SessionRounds.{Asking, IsAnswered, IsAsked, answer_for, asked_steps, beside_then, entry, hears_so, last_then, led, took_is, took_steps}
use Rattle.spdm_progress.proofs.TwoRounds.{LeadsTo}

module _ (q : ReqSetup) (r : RspSetup) (first id : ℕ) (x x' : Asking) (Fit Fit' : Steps → Type 0) (Good : Steps → Turn → Type 0) (tag : ℕ) (log : Log) (h : asked.History) (g : served.History) (d : Draw) (body : List ℕ) (y : IsAnswered q r first id x Fit Good tag body log h g) (event : Event) where
  abbrev s : Steps
  s = took_steps q r first id x y.s y.pad y.t

  abbrev pub next : Sent
  next = record_sent q h id s x'.ask (x'.inner s) []

  module _ (leads : inner_led q h (body_chosen q h d) (came_as h id (answer_for q r first id x y.s y.t) (inner_reply y.t)) x.ask ≡ Ok (led q r first id x Fit Good tag log h g d body y event (Some next))) (kept : is_kept x.ask ≡ true) (fit : Fit' s) (at : steps.stage_of s ≡ stage_for x'.ask) (short : length (x'.inner s) + 0 ≤ 4134) (known : x'.before (events.turns_of (events.session_of (rsp_id y.s) g))) (queued : x'.there g) where
    abbrev pub sealed : List ℕ
    sealed = sealed_next q.psk s (x'.inner s) []

    abbrev checks : Log
    checks = asked_log.sealed_check q h (answer_for q r first id x y.s y.t) (outstanding h)

    abbrev pub new : asked.Entry
    new = entry q r first id x Fit Good tag log h g d body y event (Some next)

    abbrev pub acts : Log
    acts = asked_log.acts_of q h body (Adds new)

    acts_are : acts ++ log ≡ made_record (steps.session_terms s).choice (request_purpose q.psk s) (steps.request_next s) sealed ∷ (checks ++ log)
    acts_are = ap (λ (z : Steps). (asked_log.sent_made q.psk (steps.when_live z (TookAnswer (answer_for q r first id x y.s y.t) (inner_reply y.t) (x.brings y.t))) (Some next) ++ checks) ++ log) y.steps_are

    steps_follow : steps.session_of id (new ∷ h) ≡ asked_steps q r first id x' s []
    steps_follow =
        took_is q r first id x Fit Good tag log h g d body y event (Some next) leads kept
        ∙ ap (λ (b : Bool). if b then Asked x'.ask (x'.inner s) sealed ∷ s else s) (eq-eqb id id refl)

    pub asked_then : IsAsked q r first id x' Fit' (asked.next_tag h) (record_body sealed) (acts ++ log) (new ∷ h) g
    asked_then = record {
      s = s;
      pad = [];
      fit = fit;
      short = short;
      small = next_small h;
      body_is = refl;
      waits = refl;
      steps_are = steps_follow;
      at = at;
      in_step = y.kept kept;
      two_bytes = y.two_bytes;
      older = checks ++ log;
      log_is = acts_are;
      known = known;
      queued = queued;
      last = last_then q r first id x Fit Good tag log h g d body y event (Some next) leads checks kept;
      beside = beside_then q r first id x Fit Good tag log h g d body y event (Some next) leads acts;
    }

    pub follows : LeadsTo (IsAsked q r first id x' Fit') (requester_hears q h false tag body d) (asked_log.acts_of q h body (requester_hears q h false tag body d) ++ log) h g
    follows =
        subst (λ (o : Outcome). LeadsTo (IsAsked q r first id x' Fit') o (asked_log.acts_of q h body o ++ log) h g) (sym (hears_so q r first id x Fit Good tag log h g d body y event (Some next) leads))
        (record { next = next; sends = refl; asks = asked_then })
