-- An attesting requester as one of the requesters of a world, and its verdict there. This project's own.
use Rattle.std.specs.Prelude.{◌≡◌, ◌≢◌, ◌↔◌, nat_lt, ℕ, List, [], ◌∷◌, ◌++◌, length, slice_index, false, Option, Some, None}
use Rattle.appraise.specs.Answers.{IsTheAppraisal}
use Rattle.appraise.specs.Trusted.{IsTrusted}
use Rattle.appraise.specs.declared.appraisal.Appraisal.{Appraisal}
use Rattle.appraise.specs.declared.appraisal.Appraisal.TheVariants.{Trusted}
use Rattle.attestor.specs.Attesting.{Attesting, Decision, attesting_given, attesting_over, attesting_started, attesting_timed, own_session}
use Rattle.attestor.specs.Attesting.Decision.{Undecided, Measured}
use Rattle.attestor.specs.Standing.{IsAnswer}
use Rattle.attestor.specs.declared.progressed.Progressed.TheVariants.{Verdict}
use Rattle.requester_machine.specs.History.{outstanding}
use Rattle.requester_machine.specs.Message.{Command, Sent}
use Rattle.requester_machine.specs.Message.Command.{Connect, End, Measure, Open, Retry}
use Rattle.requester_machine.specs.Requesting.{Requesting, requester_given}
use Rattle.responder_machine.specs.Setup.{RspPart}
use Rattle.script_text.specs.declared.texts.rule.Rule.{Rule}
use Rattle.spdm_agreement.specs.Configured.{IsConfigured}
use Rattle.spdm_grammar.specs.declared.names.TheConstants.{ALL_BLOCKS}
use Rattle.spdm_grammar.specs.declared.told.event.Event.{Event}
use Rattle.spdm_grammar.specs.declared.told.event.Event.TheVariants as event
use Rattle.spdm_grammar.specs.declared.told.event.Finished.TheVariants as finished
use Rattle.world_machine.specs.Chance.{NoChance}
use Rattle.world_machine.specs.Happenings.{Entry, Happening}
use Rattle.world_machine.specs.Happenings.Happening.{Told, Deliver, Inject, Pump}
use Rattle.world_machine.specs.Setup.{WorldSetup}
use Rattle.world_machine.specs.Trace.{world_after}
use Rattle.world_machine.specs.World.{new_world, requester_of}
use Rattle.attest_laws.specs.Measured.{configured_record}

-- ---- What happens.

-- The attesting requester begins; a packet, of whatever bytes, is given to it; some time passed there; or something else
-- happens in the world.
pub data Happened : Type 0 where
  Begins : Happened
  Given : (packet : List ℕ) → Happened
  Timed : Happened
  Elsewhere : (happening : Happening) → Happened

-- The packet is for the end that its byte 1 names, if it has one.
abbrev pub IsFor : (eid : ℕ) → (packet : List ℕ) → Type 0
IsFor eid packet = (nat_lt (length packet) 2 ≡ false) × (slice_index packet 1 ≡ eid)

-- By such an event nothing comes to requester n, which has this endpoint. A packet is given with its bytes, whether it
-- was sent or not, and so none by its number.
abbrev pub IsElsewhere : (n eid : ℕ) → Happening → Type 0
IsElsewhere n eid (Told m command) = m ≢ n
IsElsewhere n eid (Inject packet) = IsFor eid packet → ⊥
IsElsewhere n eid (Deliver number) = ⊥
IsElsewhere n eid (Pump count) = ⊥
IsElsewhere n eid happening = Unit {0}

-- What is given to the attesting requester is for it, and nothing else comes to it.
abbrev pub MayHappen : (n eid : ℕ) → Happened → Type 0
MayHappen n eid (Given packet) = IsFor eid packet
MayHappen n eid (Elsewhere happening) = IsElsewhere n eid happening
MayHappen n eid happened = Unit {0}

abbrev pub MayAllHappen : (n eid : ℕ) → List Happened → Type 0
MayAllHappen n eid [] = Unit {0}
MayAllHappen n eid (one ∷ others) = MayHappen n eid one × MayAllHappen n eid others

-- ---- What the attesting requester comes to.

abbrev pub attested_by : Attesting → Happened → Attesting
attested_by a Begins = (attesting_started a).after
attested_by a (Given packet) = (attesting_given a packet).after
attested_by a Timed = (attesting_timed a).after
attested_by a (Elsewhere happening) = a

abbrev pub attested_after : Attesting → List Happened → Attesting
attested_after a [] = a
attested_after a (one ∷ others) = attested_after (attested_by a one) others

-- ---- The same as events of the world, in which it is requester n. They stand on no line of a script, so each has number
-- 0.

abbrev pub event_of : Happening → Entry
event_of happening = record { line = 0; happening = happening }

-- A command is told to it, if one is.
abbrev pub tells : (n : ℕ) → Option Command → List Entry
tells n None = []
tells n (Some command) = event_of (Told n command) ∷ []

-- The command with which it begins.
abbrev pub first_command : Decision → Option Command
first_command Undecided = Some Connect
first_command decision = None

-- The command that it tells its requester upon what a packet told, while nothing is decided.
abbrev pub next_command : Event → Option Command
next_command (event.Done finished.Connected) = Some (Open 0)
next_command (event.Done (finished.Opened id)) = Some (Measure (Some own_session) ALL_BLOCKS)
next_command (event.Done (finished.Measured number)) = Some (End own_session)
next_command told = None

abbrev pub packet_command : Decision → Event → Option Command
packet_command Undecided told = next_command told
packet_command decision told = None

-- The command by which the outstanding request is sent again, if there is one.
abbrev pub time_command : Option Sent → Option Command
time_command None = None
time_command (Some sent) = Some Retry

abbrev pub events_by : (n : ℕ) → Attesting → Happened → List Entry
events_by n a Begins = tells n (first_command a.decision)
events_by n a (Given packet) = event_of (Inject packet) ∷ tells n (packet_command a.decision (requester_given a.requester packet).event)
events_by n a Timed = tells n (time_command (outstanding a.requester.history))
events_by n a (Elsewhere happening) = event_of happening ∷ []

abbrev pub events_after : (n : ℕ) → Attesting → List Happened → List Entry
events_after n a [] = []
events_after n a (one ∷ others) = events_by n a one ++ events_after n (attested_by a one) others

-- ---- The verdict.

-- What is decided, under these rules, where the responder is set up like this. The record that is appraised is that of
-- all its blocks; the verdict is what this record comes to under the rules; and so it is `Trusted` exactly where this
-- record is trusted.
pub record DecidesAsConfigured (part : RspPart) (rules : List Rule) (decision : Decision) : Type 0 where
  pub measured : (blocks : List ℕ) → decision ≡ Measured blocks → blocks ≡ configured_record part ALL_BLOCKS
  pub verdict : (appraisal : Appraisal) → IsAnswer rules decision (Verdict appraisal)
      → IsTheAppraisal rules (configured_record part ALL_BLOCKS) appraisal
  pub trusted : (appraisal : Appraisal) → IsAnswer rules decision (Verdict appraisal)
      → (appraisal ≡ Trusted) ↔ IsTrusted rules (configured_record part ALL_BLOCKS)

-- Whatever happens, the attesting requester does what requester n of the world does by these events. So where nothing
-- agrees by chance, it decides by what the responder is set up with.
pub record AttestsAsConfigured (w : WorldSetup) (n : ℕ) (a : Attesting) (happened : List Happened) : Type 0 where
  pub is : requester_of n (world_after w (events_after n a happened)) ≡ Some (attested_after a happened).requester
  pub decides : NoChance (world_after w (events_after n a happened)).log
      → DecidesAsConfigured w.responder.part a.rules (attested_after a happened).decision

-- So it is in every configured world, for each of its requesters, under any rules.
abbrev pub WorldsAttestAsConfigured : Type 0
WorldsAttestAsConfigured =
    (w : WorldSetup) → IsConfigured w → (n : ℕ) (requester : Requesting) → requester_of n (new_world w) ≡ Some requester
    → (rules : List Rule) (happened : List Happened) → MayAllHappen n requester.setup.eid happened
    → AttestsAsConfigured w n (attesting_over requester rules) happened
