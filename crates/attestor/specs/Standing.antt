-- What an attestor is kept as, and what its calls answer. This project's own.
use Rattle.std.specs.Prelude.{◌≡◌, ℕ, List, Bool, true, false, is_some, Result}
use Rattle.appraise.specs.Answers.{IsTheAppraisal}
use Rattle.attestor.specs.Attesting.{AttestStep, Attesting, Decision, has_failed, is_decided, with_requester}
use Rattle.attestor.specs.Attesting.Decision.{Undecided, Measured, Failed}
use Rattle.attestor.specs.declared.attestor.Attestor.{Attestor}
use Rattle.attestor.specs.declared.progressed.Progressed.{Progressed}
use Rattle.attestor.specs.declared.progressed.Progressed.TheVariants as progress
use Rattle.requester.specs.Standing as asking
use Rattle.requester.specs.Standing.{fault_in}
use Rattle.requester_machine.specs.History.{outstanding}
use Rattle.requester_machine.specs.Requesting.{CommandStep, PacketStep}
use Rattle.script_text.specs.declared.texts.rule.Rule.{Rule}
use Rattle.spdm_grammar.specs.declared.told.command_fault.CommandFault.{CommandFault}
use Rattle.spdm_grammar.specs.declared.told.event.Event.{Event}
use Rattle.spdm_grammar.specs.declared.told.event.Event.TheVariants as event

-- A request is outstanding.
abbrev pub waits : Attesting → Bool
waits a = is_some (outstanding a.requester.history)

-- The program's attestor stands for this one of the definitions. After the failure nothing is outstanding.
pub record StandsFor (seen : Attestor) (a : Attesting) : Type 0 where
  pub requester : asking.StandsFor seen.requester a.requester
  pub rules : seen.policy ≡ a.rules
  pub decided : seen.is_decided ≡ is_decided a.decision
  pub waiting : seen.is_waiting ≡ waits a
  pub rests : has_failed a.decision ≡ true → waits a ≡ false

-- The answer to what is decided at a packet. A record comes to one appraisal under the rules.
abbrev pub IsAnswer : List Rule → Decision → Progressed → Type 0
IsAnswer rules Undecided answer = answer ≡ progress.Going
IsAnswer rules (Measured blocks) (progress.Verdict appraisal) = IsTheAppraisal rules blocks appraisal
IsAnswer rules (Measured blocks) progress.Going = ⊥
IsAnswer rules (Measured blocks) progress.Failed = ⊥
IsAnswer rules Failed answer = answer ≡ progress.Failed

-- A call is this step: what it sends is sent, and the program's attestor stands for the one after it.
pub record IsSent (step : AttestStep) (sends : List (List ℕ)) (new : Attestor) : Type 0 where
  pub sent : sends ≡ step.sent
  pub stands : StandsFor new step.after

-- A packet is this step: the answer is that to what is decided, too.
pub record IsGiven (step : AttestStep) (told : Progressed) (sends : List (List ℕ)) (new : Attestor) : Type 0 where
  pub answer : IsAnswer step.after.rules step.decides told
  pub sent : sends ≡ step.sent
  pub stands : StandsFor new step.after

-- ---- Within a call.

-- A command is this step of the requester: its fault is reported, its packets are sent, and that is all.
pub record IsTold (a : Attesting) (step : CommandStep) (told : Result Unit CommandFault) (sends : List (List ℕ)) (new : Attestor) : Type 0 where
  pub fault : fault_in told ≡ step.fault
  pub sent : sends ≡ step.sent
  pub stands : StandsFor new (with_requester a step.after)

-- Whether a request is outstanding after a packet of which this was told, by whether one was before.
abbrev pub waits_after : Event → Bool → Bool
waits_after event.Progress before = true
waits_after (event.Done finish) before = false
waits_after (event.Refused code) before = false
waits_after (event.Stopped why) before = false
waits_after (event.Lost id reply) before = false
waits_after event.More before = before
waits_after (event.Warned code) before = before
waits_after (event.Ignored cause) before = before

-- The packet was given to the requester, and that is all.
pub record IsHeard (a : Attesting) (step : PacketStep) (told : Event) (sends : List (List ℕ)) (new : Attestor) : Type 0 where
  pub event : told ≡ step.event
  pub sent : sends ≡ step.sent
  pub stands : StandsFor new (with_requester a step.after)
