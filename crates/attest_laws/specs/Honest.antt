-- An attestation whose packets are delivered honestly: each is given to its end once, in order. This project's own.
use Rattle.std.specs.Prelude.{◌≡◌, ◌≤◌, ◌+◌, ◌*◌, ◌==◌, nat_lt, ℕ, zero, suc, List, [], ◌∷◌, ◌++◌, length, slice_index, if◌then◌else◌, Bool, true, false, Option, Some, None}
use Rattle.attestor.specs.Attesting.{Attesting, attesting_given, attesting_over}
use Rattle.attestor.specs.Attesting.Decision.{Measured}
use Rattle.requester_machine.specs.Message.{Command}
use Rattle.requester_machine.specs.Requesting.{Requesting, requester_given, requester_told}
use Rattle.responder_machine.specs.Responding.{Connection, connection_of}
use Rattle.script_text.specs.declared.texts.rule.Rule.{Rule}
use Rattle.spdm_agreement.specs.Configured.{IsConfigured}
use Rattle.spdm_grammar.specs.declared.names.TheConstants.{ALL_BLOCKS}
use Rattle.spdm_machine.specs.Packets.{wear_limit}
use Rattle.spdm_progress.specs.Scripts.{CanDo, HaveTaken, IsQuietWorld, OfEachCommand}
use Rattle.spdm_progress.specs.SessionCommands.{most_asked, most_packets}
use Rattle.world_machine.specs.Chance.{NoChance}
use Rattle.world_machine.specs.Happenings.{Entry}
use Rattle.world_machine.specs.Happenings.Happening.{Pump}
use Rattle.world_machine.specs.Setup.{WorldSetup}
use Rattle.world_machine.specs.Trace.{world_after, world_from}
use Rattle.world_machine.specs.World.{SentPacket, World, first_waiting, packet_of, requester_of}
use Rattle.attest_laws.specs.Attested.{attested_by, event_of, events_by, packet_command, tells}
use Rattle.attest_laws.specs.Attested.Happened.{Begins}
use Rattle.attest_laws.specs.Measured.{configured_record}

-- ---- What happens.

-- The packet that waits with the least number, if one waits.
abbrev pub waiting_at : List SentPacket → Option ℕ → Option (List ℕ)
waiting_at sent None = None
waiting_at sent (Some number) = packet_of number sent

abbrev pub next_packet : World → Option (List ℕ)
next_packet world = waiting_at world.sent (first_waiting world.sent)

-- Its byte 1 names this endpoint.
abbrev pub is_for : (eid : ℕ) → (packet : List ℕ) → Bool
is_for eid packet = if nat_lt (length packet) 2 then false else slice_index packet 1 == eid

-- The waiting packet of least number is given to its end.
abbrev pub carries : Entry
carries = event_of (Pump 1)

-- The events of a turn, and the attesting requester after it.
pub record Turn : Type 0 where
  pub events : List Entry
  pub after : Attesting

-- A turn in which this packet is given to its end. Where that is the attesting requester, which is requester n, the
-- command that it tells upon it follows at once.
abbrev pub turn_for : (n : ℕ) → Attesting → (packet : List ℕ) → Bool → Turn
turn_for n a packet true = record {
  events = carries ∷ tells n (packet_command a.decision (requester_given a.requester packet).event);
  after = (attesting_given a packet).after;
}
turn_for n a packet false = record { events = carries ∷ []; after = a }

-- Where no packet waits, nothing happens.
abbrev pub turn_of : (n : ℕ) → Attesting → Option (List ℕ) → Turn
turn_of n a None = record { events = carries ∷ []; after = a }
turn_of n a (Some packet) = turn_for n a packet (is_for a.requester.setup.eid packet)

abbrev pub turn_in : (n : ℕ) → World → Attesting → Turn
turn_in n world a = turn_of n a (next_packet world)

-- So many turns.
abbrev pub turns_from : (count n : ℕ) → World → Attesting → List Entry
turns_from zero n world a = []
turns_from (suc count) n world a =
    (turn_in n world a).events
    ++ turns_from count n (world_from world (turn_in n world a).events) (turn_in n world a).after

abbrev pub after_turns : (count n : ℕ) → World → Attesting → Attesting
after_turns zero n world a = a
after_turns (suc count) n world a =
    after_turns count n (world_from world (turn_in n world a).events) (turn_in n world a).after

-- The attesting requester begins, and so many turns follow: the events, and what it comes to.
abbrev pub honest_events : (count n : ℕ) → World → Attesting → List Entry
honest_events count n world a =
    events_by n a Begins
    ++ turns_from count n (world_from world (events_by n a Begins)) (attested_by a Begins)

abbrev pub honestly_attested : (count n : ℕ) → World → Attesting → Attesting
honestly_attested count n world a =
    after_turns count n (world_from world (events_by n a Begins)) (attested_by a Begins)

-- ---- What comes of it.

-- A command is answered `ok`, and has what it needs.
abbrev pub CanBeTold : World → (line n : ℕ) → Command → (behind : List Entry) → Type 0
CanBeTold world line n command behind =
    (a : Requesting) (c : Connection) → requester_of n world ≡ Some a
    → connection_of a.setup.eid world.responder.connections ≡ Some c
    → ((requester_told a command).fault ≡ None) × CanDo a c command

-- The packets of a connect, an open and a measure, at most.
abbrev pub most_turns : ℕ
most_turns = 3 * most_packets

-- In every configured world that is quiet, whatever led to it, where nothing agrees by chance, neither end can be worn
-- out by then, and each command that the attesting requester tells is answered `ok` and has what it needs: by so many
-- turns it has decided, by the record of all blocks that the responder is set up with. Its verdict is then what this
-- record comes to under its rules.
abbrev pub HonestAttestationsDecide : Type 0
HonestAttestationsDecide =
    (w : WorldSetup) → IsConfigured w → (before : List Entry) → IsQuietWorld (world_after w before)
    → (most : ℕ) → HaveTaken most (world_after w before) → most + 3 * most_asked ≤ wear_limit
    → (n : ℕ) (requester : Requesting) → requester_of n (world_after w before) ≡ Some requester
    → (rules : List Rule) (count : ℕ) → most_turns ≤ count
    → OfEachCommand CanBeTold (world_after w before)
    (honest_events count n (world_after w before) (attesting_over requester rules))
    → NoChance (world_from (world_after w before)
    (honest_events count n (world_after w before) (attesting_over requester rules))).log
    → (honestly_attested count n (world_after w before) (attesting_over requester rules)).decision
    ≡ Measured (configured_record w.responder.part ALL_BLOCKS)
