-- What an attestor is kept as after a packet and after a command.
use Rattle.std.proofs.Common.{◌≡◌, ◌∙◌, ℕ, List, [], Bool, true, false, Option, Some, None, Result, Ok, Err, refl, ap, sym, subst}
use Rattle.std.proofs.lemmas.Bool.{false≢true}
use Rattle.std.specs.Prelude.{◌||◌, if◌then◌else◌, is_none, is_some}
use Rattle.appraise.specs.Answers.{IsAppraisal, IsTheAppraisal}
use Rattle.appraise.specs.declared.appraisal.Appraisal.{Appraisal}
use Rattle.attestor.proofs.Outstanding.{fault_sends_nothing, given_quiet, given_waits, told_waits}
use Rattle.attestor.specs.Attesting.{AttestStep, Attesting, Decision, attesting_given, attesting_started, attesting_timed, decides, ends, follows, given_by, goes, goes_on, goes_on_by, has_failed, is_decided, started_by, tells, with_requester}
use Rattle.attestor.specs.Attesting.Decision.{Undecided, Measured, Failed}
use Rattle.attestor.specs.Standing.{IsGiven, IsHeard, IsSent, IsTold, StandsFor, waits, waits_after}
use Rattle.attestor.specs.declared.attestor.Attestor.{Attestor}
use Rattle.attestor.specs.declared.progressed.Progressed.{Progressed}
use Rattle.attestor.specs.declared.progressed.Progressed.TheVariants as progress
use Rattle.requester.specs.Standing as asking
use Rattle.requester.specs.Standing.{fault_in}
use Rattle.requester.specs.declared.whole.Requester.{Requester}
use Rattle.requester_machine.specs.History.{outstanding}
use Rattle.requester_machine.specs.Message.{Command}
use Rattle.requester_machine.specs.Message.Command.{Connect, Retry}
use Rattle.requester_machine.specs.Requesting.{CommandStep, PacketStep, Requesting, requester_given, requester_told}
use Rattle.requester_machine.specs.Shown.{last_data}
use Rattle.script_text.specs.declared.texts.rule.Rule.{Rule}
use Rattle.spdm_grammar.specs.declared.told.command_fault.CommandFault.{CommandFault}
use Rattle.spdm_grammar.specs.declared.told.event.Event.{Event}

-- ---- A packet was given to the requester.

pub heard_stands : (seen new : Attestor) (a : Attesting) (packet : List ℕ) (e : Event) → StandsFor seen a → e ≡ (requester_given a.requester packet).event →
    asking.StandsFor new.requester (requester_given a.requester packet).after → new.policy ≡ seen.policy → new.is_decided ≡ seen.is_decided → new.is_waiting ≡ waits_after e seen.is_waiting →
    StandsFor new (with_requester a (requester_given a.requester packet).after)
heard_stands seen new a packet e old told stands policy decided waiting = record {
  requester = stands;
  rules = policy ∙ old.rules;
  decided = decided ∙ old.decided;
  waiting = waiting ∙ ap (waits_after e) old.waiting ∙ ap (λ (x : Event). waits_after x (waits a)) told ∙ sym (given_waits a.requester packet);
  rests = λ failed. (given_quiet a.requester packet (old.rests failed)).1;
}

-- ---- A command was told.

pub told_stands : (seen new : Attestor) (a : Attesting) (command : Command) → StandsFor seen a → has_failed a.decision ≡ false →
    asking.StandsFor new.requester (requester_told a.requester command).after → new.policy ≡ seen.policy → new.is_decided ≡ seen.is_decided →
    new.is_waiting ≡ (is_none (requester_told a.requester command).fault || seen.is_waiting) → StandsFor new (with_requester a (requester_told a.requester command).after)
told_stands seen new a command old goes stands policy decided waiting = record {
  requester = stands;
  rules = policy ∙ old.rules;
  decided = decided ∙ old.decided;
  waiting = waiting ∙ ap (λ (b : Bool). is_none (requester_told a.requester command).fault || b) old.waiting ∙ sym (told_waits a.requester command);
  rests = λ failed. absurd (false≢true (sym goes ∙ failed));
}

-- ---- What was decided.

-- nothing was decided
pub undecided : (d : Decision) → is_decided d ≡ false → d ≡ Undecided
undecided Undecided none = refl
undecided (Measured blocks) none = absurd (cc)
undecided Failed none = absurd (cc)

pub not_failed : (d : Decision) → is_decided d ≡ false → has_failed d ≡ false
not_failed Undecided none = refl
not_failed (Measured blocks) none = absurd (cc)
not_failed Failed none = absurd (cc)

-- where a request is outstanding nothing has failed
pub waits_on : (seen : Attestor) (a : Attesting) → StandsFor seen a → waits a ≡ true → has_failed a.decision ≡ false
waits_on seen a stands out = by_test (has_failed a.decision) refl
  where
    by_test : (b : Bool) → has_failed a.decision ≡ b → has_failed a.decision ≡ false
    by_test true failed = absurd (false≢true (sym (stands.rests failed) ∙ out))
    by_test false goes = goes

-- ---- The beginning.

pub started_open : (a : Attesting) (d : Decision) (r : Result (Unit {0}) CommandFault) (sends : List (List ℕ)) (new : Attestor) → is_decided d ≡ false → IsTold a (requester_told a.requester Connect) r sends new → IsSent (started_by a d) sends new
started_open a Undecided r sends new none told = record { sent = told.sent; stands = told.stands }
started_open a (Measured blocks) r sends new none told = absurd (cc)
started_open a Failed r sends new none told = absurd (cc)

pub started_decided : (a : Attesting) (d : Decision) (sends : List (List ℕ)) (new : Attestor) → is_decided d ≡ true → sends ≡ [] → StandsFor new a → IsSent (started_by a d) sends new
started_decided a Undecided sends new some none stands = absurd (cc)
started_decided a (Measured blocks) sends new some none stands = record { sent = none; stands = stands }
started_decided a Failed sends new some none stands = record { sent = none; stands = stands }

-- ---- Time.

pub timed_waiting : (a : Attesting) (r : Result (Unit {0}) CommandFault) (sends : List (List ℕ)) (new : Attestor) → waits a ≡ true → IsTold a (requester_told a.requester Retry) r sends new → IsSent (attesting_timed a) sends new
unfolding attesting_timed
timed_waiting a r sends new out told =
    subst (λ (b : Bool). IsSent (if b then tells a (requester_told a.requester Retry) else goes a []) sends new) (sym out) (record { sent = told.sent; stands = told.stands })

pub timed_resting : (a : Attesting) (sends : List (List ℕ)) (new : Attestor) → waits a ≡ false → sends ≡ [] → StandsFor new a → IsSent (attesting_timed a) sends new
unfolding attesting_timed
timed_resting a sends new out none stands =
    subst (λ (b : Bool). IsSent (if b then tells a (requester_told a.requester Retry) else goes a []) sends new) (sym out) (record { sent = none; stands = stands })

-- ---- The next command.

decided_stands : (mid new : Attestor) (a : Attesting) (d : Decision) → StandsFor mid a → new.requester ≡ mid.requester → new.policy ≡ mid.policy → new.is_waiting ≡ mid.is_waiting → new.is_decided ≡ is_decided d →
    (has_failed d ≡ true → waits a ≡ false) → StandsFor new (record a { decision = d })
decided_stands mid new a d stands requester policy waiting decided rests = record {
  requester = subst (λ (r : Requester). asking.StandsFor r a.requester) (sym requester) stands.requester;
  rules = policy ∙ stands.rules;
  decided = decided;
  waiting = waiting ∙ stands.waiting;
  rests = rests;
}

pub goes_on_done : (a : Attesting) (command : Command) (sends : List (List ℕ)) (new : Attestor) → IsTold a (requester_told a.requester command) (Ok tt) sends new → IsGiven (goes_on a command) progress.Going sends new
goes_on_done a command sends new told =
    subst (λ (f : Option CommandFault). IsGiven (goes_on_by a (requester_told a.requester command) f) progress.Going sends new) told.fault (record { answer = refl; sent = told.sent; stands = told.stands })

pub goes_on_failed : (a : Attesting) (command : Command) (f : CommandFault) (sends : List (List ℕ)) (mid new : Attestor) → waits a ≡ false → IsTold a (requester_told a.requester command) (Err f) sends mid →
    new.requester ≡ mid.requester → new.policy ≡ mid.policy → new.is_waiting ≡ mid.is_waiting → new.is_decided ≡ true → IsGiven (goes_on a command) progress.Failed sends new
goes_on_failed a command f sends mid new out told requester policy waiting decided =
    let step = requester_told a.requester command in
    let still : waits (with_requester a step.after) ≡ false = told_waits a.requester command ∙ ap (λ (o : Option CommandFault). is_none o || waits a) (sym told.fault) ∙ out in
    subst (λ (o : Option CommandFault). IsGiven (goes_on_by a step o) progress.Failed sends new) told.fault (record {
      answer = refl;
      sent = told.sent;
      stands = decided_stands mid new (with_requester a step.after) Failed told.stands requester policy waiting decided (λ failed. still);
    })

-- ---- The record.

pub the_one : (rules own : List Rule) (blocks bytes : List ℕ) (answer : Appraisal) → own ≡ rules → bytes ≡ blocks → IsAppraisal own bytes answer → ((other : Appraisal) → IsAppraisal own bytes other → other ≡ answer) → IsTheAppraisal rules blocks answer
the_one rules own blocks bytes answer policy bytes_is holds only =
    subst (λ (r : List Rule). IsTheAppraisal r blocks answer) policy (subst (λ (b : List ℕ). IsTheAppraisal own b answer) bytes_is (holds, only))

pub ends_given : (a : Attesting) (command : Command) (r : Result (Unit {0}) CommandFault) (appraisal : Appraisal) (sends : List (List ℕ)) (mid new : Attestor) →
    IsTheAppraisal a.rules (last_data a.requester.history) appraisal → IsTold a (requester_told a.requester command) r sends mid →
    new.requester ≡ mid.requester → new.policy ≡ mid.policy → new.is_waiting ≡ mid.is_waiting → new.is_decided ≡ true → IsGiven (ends a (requester_told a.requester command)) (progress.Verdict appraisal) sends new
ends_given a command r appraisal sends mid new is told requester policy waiting decided = record {
  answer = is;
  sent = told.sent;
  stands = decided_stands mid new (with_requester a (requester_told a.requester command).after) (Measured (last_data a.requester.history)) told.stands requester policy waiting decided (λ failed. absurd (false≢true failed));
}

-- ---- What follows of a packet.

pub fails_given : (a : Attesting) (sends : List (List ℕ)) (mid new : Attestor) → StandsFor mid a → waits a ≡ false →
    new.requester ≡ mid.requester → new.policy ≡ mid.policy → new.is_waiting ≡ mid.is_waiting → new.is_decided ≡ true → IsGiven (decides Failed a sends) progress.Failed sends new
fails_given a sends mid new stands out requester policy waiting decided = record {
  answer = refl;
  sent = refl;
  stands = decided_stands mid new a Failed stands requester policy waiting decided (λ failed. out);
}

pub given_open : (a : Attesting) (step : PacketStep) (d : Decision) (told : Progressed) (sends : List (List ℕ)) (new : Attestor) → is_decided d ≡ false → IsGiven (follows (with_requester a step.after) step.sent step.event) told sends new → IsGiven (given_by a step d) told sends new
given_open a step Undecided told sends new none given = given
given_open a step (Measured blocks) told sends new none given = absurd (cc)
given_open a step Failed told sends new none given = absurd (cc)

pub given_decided : (a : Attesting) (step : PacketStep) (d : Decision) (sends : List (List ℕ)) (new : Attestor) → is_decided d ≡ true → sends ≡ step.sent → StandsFor new (with_requester a step.after) → IsGiven (given_by a step d) progress.Going sends new
given_decided a step Undecided sends new some sent stands = absurd (cc)
given_decided a step (Measured blocks) sends new some sent stands = record { answer = refl; sent = sent; stands = stands }
given_decided a step Failed sends new some sent stands = record { answer = refl; sent = sent; stands = stands }
