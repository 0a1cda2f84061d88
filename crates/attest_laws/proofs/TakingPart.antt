-- An attesting requester does what a requester of the world does, by the events that it brings about.
use Rattle.std.proofs.Common.{◌≡◌, ℕ, List, [], ◌∷◌, cond, Option, Some, None, is_some, refl, sym, subst}
use Rattle.requester_machine.specs.History.{outstanding}
use Rattle.requester_machine.specs.Message.{Command, Sent}
use Rattle.requester_machine.specs.Message.Command.{Measure, Open, Retry}
use Rattle.requester_machine.specs.Requesting.{Requesting, requester_given, requester_told}
use Rattle.responder_machine.specs.Setup.{RspPart}
use Rattle.spdm_grammar.specs.declared.names.TheConstants.{ALL_BLOCKS}
use Rattle.spdm_grammar.specs.declared.told.command_fault.CommandFault.{CommandFault}
use Rattle.spdm_grammar.specs.declared.told.event.Event.{Event}
use Rattle.spdm_grammar.specs.declared.told.event.Event.TheVariants as event
use Rattle.spdm_grammar.specs.declared.told.event.Finished.TheVariants as finished
use Rattle.spdm_progress.proofs.QuietWorlds.{from_both}
use Rattle.world_machine.specs.Happenings.Happening.{Inject}
use Rattle.world_machine.specs.Trace.{world_from}
use Rattle.world_machine.specs.World.{World, happens}
use Rattle.attestor.specs.Attesting.{Attesting, Decision, attesting_given, attesting_started, attesting_timed, follows, given_by, goes, goes_on_by, own_session, started_by, with_requester}
use Rattle.attestor.specs.Attesting.Decision.{Undecided, Measured, Failed}
use Rattle.attestor.specs.Attesting as attesting
use Rattle.attest_laws.proofs.Following.{Stands, elsewhere_stands, given_stands, told_stands}
use Rattle.attest_laws.specs.Attested.{Happened, MayAllHappen, MayHappen, attested_after, attested_by, events_after, events_by, first_command, next_command, packet_command, tells, time_command}
use Rattle.attest_laws.specs.Attested.Happened.{Begins, Given, Timed, Elsewhere}

-- ---- The requester after a command, if one is told.

abbrev told_after : Requesting → Option Command → Requesting
told_after a None = a
told_after a (Some command) = (requester_told a command).after

next_after : (a : Attesting) (command : Command) (fault : Option CommandFault) → (goes_on_by a (requester_told a.requester command) fault).after.requester ≡ (requester_told a.requester command).after
next_after a command None = refl
next_after a command (Some fault) = refl

follows_after : (a : Attesting) (sent : List (List ℕ)) (told : Event) → (follows a sent told).after.requester ≡ told_after a.requester (next_command told)
follows_after a sent (event.Done finished.Connected) = next_after a (Open 0) (requester_told a.requester (Open 0)).fault
follows_after a sent (event.Done (finished.Opened id)) = next_after a (Measure (Some own_session) ALL_BLOCKS) (requester_told a.requester (Measure (Some own_session) ALL_BLOCKS)).fault
follows_after a sent (event.Done (finished.Measured number)) = refl
follows_after a sent (event.Refused code) = refl
follows_after a sent (event.Stopped why) = refl
follows_after a sent (event.Lost id reply) = refl
follows_after a sent _ = refl

given_after : (a : Attesting) (packet : List ℕ) (decision : Decision)
    → (given_by a (requester_given a.requester packet) decision).after.requester ≡ told_after (requester_given a.requester packet).after (packet_command decision (requester_given a.requester packet).event)
given_after a packet Undecided = (let step = requester_given a.requester packet in follows_after (with_requester a step.after) step.sent step.event)
given_after a packet (Measured blocks) = refl
given_after a packet Failed = refl

begun_after : (a : Attesting) (decision : Decision) → (started_by a decision).after.requester ≡ told_after a.requester (first_command decision)
begun_after a Undecided = refl
begun_after a (Measured blocks) = refl
begun_after a Failed = refl

timed_after : (a : Attesting) (o : Option Sent) → (cond (is_some o) (attesting.tells a (requester_told a.requester Retry)) (goes a [])).after.requester ≡ told_after a.requester (time_command o)
timed_after a None = refl
timed_after a (Some sent) = refl

-- ---- In the world.

module _ (part : RspPart) (n eid : ℕ) where
  told_maybe : (a : Requesting) (world : World) (o : Option Command) → Stands part n eid a world → Stands part n eid (told_after a o) (world_from world (tells n o))
  told_maybe a world None k = k
  told_maybe a world (Some command) k = told_stands part n eid a world k command

  one_stands : (a : Attesting) (one : Happened) (world : World) → MayHappen n eid one → Stands part n eid a.requester world → Stands part n eid (attested_by a one).requester (world_from world (events_by n a one))
  unfolding attesting_started attesting_given attesting_timed
  one_stands a Begins world may k =
      subst (λ (b : Requesting). Stands part n eid b (world_from world (tells n (first_command a.decision)))) (sym (begun_after a a.decision)) (told_maybe a.requester world (first_command a.decision) k)
  one_stands a (Given packet) world may k =
      let step = requester_given a.requester packet in
      let later = (happens world (Inject packet)).after in
      subst (λ (b : Requesting). Stands part n eid b (world_from later (tells n (packet_command a.decision step.event)))) (sym (given_after a packet a.decision))
      (told_maybe step.after later (packet_command a.decision step.event) (given_stands part n eid a.requester world k packet may))
  one_stands a Timed world may k =
      let waiting = outstanding a.requester.history in
      subst (λ (b : Requesting). Stands part n eid b (world_from world (tells n (time_command waiting)))) (sym (timed_after a waiting)) (told_maybe a.requester world (time_command waiting) k)
  one_stands a (Elsewhere happening) world may k = elsewhere_stands part n eid a.requester world k happening may

  pub all_stand : (a : Attesting) (happened : List Happened) (world : World) → MayAllHappen n eid happened → Stands part n eid a.requester world → Stands part n eid (attested_after a happened).requester (world_from world (events_after n a happened))
  all_stand a [] world may k = k
  all_stand a (one ∷ others) world may k =
      subst (Stands part n eid (attested_after (attested_by a one) others).requester) (sym (from_both world (events_by n a one) (events_after n (attested_by a one) others)))
      (all_stand (attested_by a one) others (world_from world (events_by n a one)) may.1 (one_stands a one world may.0 k))
