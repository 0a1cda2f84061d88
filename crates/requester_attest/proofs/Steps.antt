-- What a call that was answered is told as, and the verdict after it.
use Rattle.std.proofs.Common.{◌≡◌, ◌<◌, ◌∙◌, ℕ, List, [], Bool, true, false, Option, Some, None, ap, length, refl, subst, sym}
use Rattle.std.proofs.lemmas.Option.{none-some, same_Some}
use Rattle.std.specs.Option.{option_map}
use Rattle.std.specs.Prelude.{◌++◌, if◌then◌else◌, is_some}
use Rattle.appraise.proofs.Existence.{one_answer}
use Rattle.appraise.specs.Policies.{policy_fault}
use Rattle.appraise.specs.declared.appraisal.Appraisal.{Appraisal}
use Rattle.attestor.specs.Attesting.{AttestStep, Attesting, Decision, attesting_given, attesting_over, attesting_started, attesting_timed, follows, given_by, goes, goes_on_by, own_session, started_by, tells, with_requester}
use Rattle.attestor.specs.Attesting.Decision.{Undecided, Measured, Failed}
use Rattle.attestor.specs.Standing as attestor
use Rattle.attestor.specs.Standing.{IsAnswer}
use Rattle.attestor.specs.declared.attestor.Attestor.{Attestor}
use Rattle.attestor.specs.declared.progressed.Progressed.{Progressed}
use Rattle.attestor.specs.declared.progressed.Progressed.TheVariants as progress
use Rattle.frame_stream.specs.Packets.{packet_frames}
use Rattle.requester_attest.specs.Attested.{Appraises, attesting_in_life, step_frames, told_as, verdict_of}
use Rattle.requester_attest.specs.Standing.{StandsFor, verdict_after}
use Rattle.requester_attest.specs.Words.{progress_frame}
use Rattle.requester_attest.specs.declared.attending.Attending.{Attending}
use Rattle.requester_drive.proofs.Faults.{some_requester}
use Rattle.requester_drive.specs.First.{first_in_life, first_of, requester_in_life}
use Rattle.requester_machine.specs.History.{outstanding}
use Rattle.requester_machine.specs.Message.Command.{Measure, Open, Retry}
use Rattle.requester_machine.specs.Requesting.{CommandStep, PacketStep, Requesting, requester_given, requester_told}
use Rattle.script_text.specs.declared.configuration.config.ReqPart.{ReqPart}
use Rattle.script_text.specs.declared.configuration.config.ScriptConfig.{ScriptConfig}
use Rattle.script_text.specs.declared.texts.rule.Rule.{Rule}
use Rattle.spdm_grammar.specs.declared.names.TheConstants.{ALL_BLOCKS}
use Rattle.spdm_grammar.specs.declared.told.command_fault.CommandFault.{CommandFault}
use Rattle.spdm_grammar.specs.declared.told.event.Event.{Event}
use Rattle.spdm_grammar.specs.declared.told.event.Event.TheVariants as event
use Rattle.spdm_grammar.specs.declared.told.event.Finished.TheVariants as finished

-- an answer is what the decision is told as
pub answer_told : (rules : List Rule) (appraised : List ℕ → Appraisal) (decision : Decision) (answer : Progressed) → Appraises rules appraised → IsAnswer rules decision answer → answer ≡ told_as appraised decision
answer_told rules appraised Undecided answer right is = is
answer_told rules appraised (Measured blocks) (progress.Verdict appraisal) right is = ap progress.Verdict (sym (is.1 (appraised blocks) (right blocks)))
answer_told rules appraised (Measured blocks) progress.Going right is = absurd is
answer_told rules appraised (Measured blocks) progress.Failed right is = absurd is
answer_told rules appraised Failed answer right is = is

-- ---- The rules stay, and the verdict is that so far, or the one that is told.

pub record Moves (appraised : List ℕ → Appraisal) (a : Attesting) (step : AttestStep) : Type 0 where
  pub rules : step.after.rules ≡ a.rules
  pub verdict : verdict_of appraised step.after.decision ≡ verdict_after (told_as appraised step.decides) (verdict_of appraised a.decision)

module _ (appraised : List ℕ → Appraisal) where
  moves_on : (a : Attesting) (step : CommandStep) (fault : Option CommandFault) → verdict_of appraised a.decision ≡ None → Moves appraised a (goes_on_by a step fault)
  moves_on a step None none = record { rules = refl; verdict = refl }
  moves_on a step (Some fault) none = record { rules = refl; verdict = sym none }

  follow_moves : (a : Attesting) (sent : List (List ℕ)) (e : Event) → verdict_of appraised a.decision ≡ None → Moves appraised a (follows a sent e)
  follow_moves a sent (event.Done finished.Connected) none = moves_on a (requester_told a.requester (Open 0)) (requester_told a.requester (Open 0)).fault none
  follow_moves a sent (event.Done (finished.Opened id)) none =
      moves_on a (requester_told a.requester (Measure (Some own_session) ALL_BLOCKS)) (requester_told a.requester (Measure (Some own_session) ALL_BLOCKS)).fault none
  follow_moves a sent (event.Done (finished.Measured number)) none = record { rules = refl; verdict = refl }
  follow_moves a sent (event.Refused code) none = record { rules = refl; verdict = sym none }
  follow_moves a sent (event.Stopped why) none = record { rules = refl; verdict = sym none }
  follow_moves a sent (event.Lost id reply) none = record { rules = refl; verdict = sym none }
  follow_moves a sent _ none = record { rules = refl; verdict = refl }

  given_moves : (a : Attesting) (step : PacketStep) (d : Decision) → a.decision ≡ d → Moves appraised a (given_by a step d)
  given_moves a step Undecided is =
      let moves = follow_moves (with_requester a step.after) step.sent step.event (ap (verdict_of appraised) is) in
      record { rules = moves.rules; verdict = moves.verdict }
  given_moves a step (Measured blocks) is = record { rules = refl; verdict = refl }
  given_moves a step Failed is = record { rules = refl; verdict = refl }

  pub packet_moves : (a : Attesting) (packet : List ℕ) → Moves appraised a (attesting_given a packet)
  unfolding attesting_given
  packet_moves a packet = given_moves a (requester_given a.requester packet) a.decision refl

-- Nothing is decided by the beginning and by time.
pub record Stays (a : Attesting) (step : AttestStep) : Type 0 where
  pub rules : step.after.rules ≡ a.rules
  pub decision : step.after.decision ≡ a.decision
  pub none : step.decides ≡ Undecided

started_stays : (a : Attesting) (d : Decision) → Stays a (started_by a d)
started_stays a Undecided = record { rules = refl; decision = refl; none = refl }
started_stays a (Measured blocks) = record { rules = refl; decision = refl; none = refl }
started_stays a Failed = record { rules = refl; decision = refl; none = refl }

pub start_stays : (a : Attesting) → Stays a (attesting_started a)
unfolding attesting_started
start_stays a = started_stays a a.decision

stays_if : (a : Attesting) (b : Bool) (x y : AttestStep) → Stays a x → Stays a y → Stays a (if b then x else y)
stays_if a true x y first second = first
stays_if a false x y first second = second

pub time_stays : (a : Attesting) → Stays a (attesting_timed a)
unfolding attesting_timed
time_stays a =
    stays_if a (is_some (outstanding a.requester.history)) (tells a (requester_told a.requester Retry)) (goes a []) (record { rules = refl; decision = refl; none = refl }) (record { rules = refl; decision = refl; none = refl })

-- ---- What is kept after a call, and what was written of it.

pub kept_on : (old new : Attending) (appraised : List ℕ → Appraisal) (a : Attesting) (packet : List ℕ) (progress : Progressed) → StandsFor old appraised a →
    IsAnswer (attesting_given a packet).after.rules (attesting_given a packet).decides progress → attestor.StandsFor new.attestor (attesting_given a packet).after → new.verdict ≡ verdict_after progress old.verdict →
    StandsFor new appraised (attesting_given a packet).after × (progress ≡ told_as appraised (attesting_given a packet).decides)
kept_on old new appraised a packet progress stands answer kept verdict =
    let step = attesting_given a packet in
    let moves = packet_moves appraised a packet in
    let right = subst (λ (r : List Rule). Appraises r appraised) (sym moves.rules) stands.appraises in
    let told = answer_told step.after.rules appraised step.decides progress right answer in (
      record {
        attestor = kept;
        appraises = right;
        verdict = verdict ∙ ap (verdict_after progress) stands.verdict ∙ ap (λ (p : Progressed). verdict_after p (verdict_of appraised a.decision)) told ∙ sym moves.verdict;
      },
      told,
    )

pub kept_still : (old new : Attending) (appraised : List ℕ → Appraisal) (a : Attesting) (step : AttestStep) → Stays a step → StandsFor old appraised a → attestor.StandsFor new.attestor step.after → new.verdict ≡ old.verdict → StandsFor new appraised step.after
kept_still old new appraised a step stays stands kept verdict = record {
  attestor = kept;
  appraises = subst (λ (r : List Rule). Appraises r appraised) (sym stays.rules) stands.appraises;
  verdict = verdict ∙ stands.verdict ∙ ap (verdict_of appraised) (sym stays.decision);
}

-- the frames of a call that was told so and sent these packets
pub written_of : (appraised : List ℕ → Appraisal) (step : AttestStep) (told : Progressed) (sends : List (List ℕ)) → told ≡ told_as appraised step.decides → sends ≡ step.sent → progress_frame told ++ packet_frames sends ≡ step_frames appraised step
written_of appraised step told sends is sent =
    ap (λ (p : Progressed). progress_frame p ++ packet_frames sends) is ∙ ap (λ (l : List (List ℕ)). progress_frame (told_as appraised step.decides) ++ packet_frames l) sent

-- ---- The first attestor.

pub first_stands : (c : ScriptConfig) (rules : List Rule) (seed : List ℕ) (boot : ℕ) (q : ReqPart) (seen : Attestor) (a : Attesting) → first_of c.requesters ≡ Some q → attestor.StandsFor seen (attesting_over (requester_in_life c seed boot q) rules) →
    attesting_in_life c rules seed boot ≡ Some a → attestor.StandsFor seen a
first_stands c rules seed boot q seen a first stands is =
    let over = λ (r : Requesting). attesting_over r rules in
    let own : attesting_in_life c rules seed boot ≡ Some (attesting_over (requester_in_life c seed boot q) rules) = ap (λ (o : Option ReqPart). option_map over (option_map (requester_in_life c seed boot) o)) first in
    subst (λ (b : Attesting). attestor.StandsFor seen b) (same_Some (attesting_over (requester_in_life c seed boot q) rules) a (sym own ∙ is)) stands

-- there is a first attestor
pub some_attesting : (c : ScriptConfig) (rules : List Rule) (seed : List ℕ) (boot : ℕ) → 0 < length c.requesters → (a : Attesting) × (attesting_in_life c rules seed boot ≡ Some a)
some_attesting c rules seed boot some =
    let first = some_requester c seed boot some in
    (attesting_over first.0 rules, ap (option_map (λ (r : Requesting). attesting_over r rules)) first.1)

-- of each record there is an appraisal
pub some_appraised : (rules : List Rule) → policy_fault rules ≡ None → (appraised : List ℕ → Appraisal) × Appraises rules appraised
some_appraised rules sound = (λ blocks. (one_answer rules sound blocks).0, λ blocks. (one_answer rules sound blocks).1.0)

over_is : (rules : List Rule) (o : Option Requesting) (a : Attesting) → option_map (λ (r : Requesting). attesting_over r rules) o ≡ Some a → (r : Requesting) × (attesting_over r rules ≡ a)
over_is rules None a is = absurd (none-some a is)
over_is rules (Some r) a is = (r, same_Some (attesting_over r rules) a is)

pub first_kept : (c : ScriptConfig) (rules : List Rule) (seed : List ℕ) (boot : ℕ) (seen : Attending) (appraised : List ℕ → Appraisal) (a : Attesting) → attesting_in_life c rules seed boot ≡ Some a → Appraises rules appraised →
    attestor.StandsFor seen.attestor a → seen.verdict ≡ None → StandsFor seen appraised a
first_kept c rules seed boot seen appraised a is right stands verdict =
    let own = over_is rules (first_in_life c seed boot) a is in
    record {
      attestor = stands;
      appraises = subst (λ (b : Attesting). Appraises b.rules appraised) own.1 right;
      verdict = verdict ∙ ap (λ (b : Attesting). verdict_of appraised b.decision) own.1;
    }
