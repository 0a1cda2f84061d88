-- What every run of a requester keeps.
use Rattle.std.proofs.Common.{◌≡◌, ℕ, ◌≤◌, ◌<◌, ◌+◌, List, [], ◌∷◌, length, Bool, true, false, cond, Result, Ok, Err, refl, arith}
use Rattle.std.proofs.lemmas.Bool.{leb-false}
use Rattle.mctp_framing.specs.Gathering.{Gathered}
use Rattle.mctp_framing.specs.Gathering.Gathered.{Whole, More, Dropped}
use Rattle.mctp_framing.specs.Packet.{PacketFields, parsed}
use Rattle.requester_machine.proofs.Making.{asks_made, hears_made}
use Rattle.requester_machine.specs.Asking.{Outcome}
use Rattle.requester_machine.specs.Asking.Outcome.{Fails, Ignores, Warns, Resends, Adds}
use Rattle.requester_machine.specs.Does.{IsMade, requester_asks, requester_hears}
use Rattle.requester_machine.specs.EndLaws.{Given, IsRun, RunsAreBounded, run_of}
use Rattle.requester_machine.specs.EndLaws.Given.{Told, Packet}
use Rattle.requester_machine.specs.History.{History}
use Rattle.requester_machine.specs.Message.{Command}
use Rattle.requester_machine.specs.Requesting.{Requesting, is_worn, next_draw, requester_told, requester_given, worn_command, commanded_by, worn_step, hears_packet, hears_gathered}
use Rattle.requester_machine.specs.Setup.{ReqEnd}
use Rattle.requester_machine.specs.Shown.{after}
use Rattle.spdm_basis.specs.declared.PacketFault.{PacketFault}
use Rattle.spdm_machine.specs.Packets.{gathered_from, wear_limit}

-- An outcome adds one entry at most.
pub one_more : (h : History) (o : Outcome) → length (after h o) ≤ length h + 1
one_more h (Fails fault) = omega arith
one_more h (Ignores cause) = omega arith
one_more h (Warns code) = omega arith
one_more h (Resends sent) = omega arith
one_more h (Adds entry) = omega arith

module _ (e : ReqEnd) where
  -- It went on with these packets, commands and history.
  goes_on : (a : Requesting) → IsRun e a → (given : List (List ℕ)) (commands : ℕ) (history : History) → IsMade a.setup history → is_worn a ≡ false
      → length given + commands ≡ length a.given + a.commands + 1 → length history ≤ length a.history + 1
      → IsRun e (record a { given = given; commands = commands; history = history })
  goes_on a k given commands history made fresh count more =
      let less : length a.given + a.commands < wear_limit = leb-false wear_limit (length a.given + a.commands) fresh in
      let entries = k.entries in
      record { setup = k.setup; seed = k.seed; first = k.first; made = made; entries = omega arith; limit = omega arith }

  told_by : (a : Requesting) (command : Command) → IsRun e a → (worn : Bool) → is_worn a ≡ worn
      → IsRun e (cond worn (worn_command a (requester_asks true a.setup a.history command (next_draw a))) (commanded_by a (requester_asks false a.setup a.history command (next_draw a)))).after
  told_by a command k true is = k
  told_by a command k false is =
      let o = requester_asks false a.setup a.history command (next_draw a) in
      goes_on a k a.given (a.commands + 1) (after a.history o) (asks_made a.setup a.history command (next_draw a) k.made).made is (omega arith) (one_more a.history o)

  told_runs : (a : Requesting) (command : Command) → IsRun e a → IsRun e (requester_told a command).after
  unfolding requester_told
  told_runs a command k = told_by a command k (is_worn a) refl

  gathered_runs : (a : Requesting) (packet : List ℕ) (g : Gathered) → IsRun e a → is_worn a ≡ false → IsRun e (hears_gathered a packet g).after
  gathered_runs a packet (Whole route body) k is =
      let o = requester_hears a.setup a.history route.owner route.tag body (next_draw a) in
      goes_on a k (packet ∷ a.given) a.commands (after a.history o) (hears_made a.setup a.history route.owner route.tag body (next_draw a) k.made).made is (omega arith) (one_more a.history o)
  gathered_runs a packet More k is = goes_on a k (packet ∷ a.given) a.commands a.history k.made is (omega arith) (omega arith)
  gathered_runs a packet (Dropped cause) k is = goes_on a k (packet ∷ a.given) a.commands a.history k.made is (omega arith) (omega arith)

  packet_runs : (a : Requesting) (packet : List ℕ) (p : Result PacketFields PacketFault) → IsRun e a → is_worn a ≡ false → IsRun e (hears_packet a packet p).after
  packet_runs a packet (Err fault) k is = goes_on a k (packet ∷ a.given) a.commands a.history k.made is (omega arith) (omega arith)
  packet_runs a packet (Ok fields) k is = gathered_runs a packet (gathered_from a.setup.eid a.setup.responder a.given fields) k is

  given_by : (a : Requesting) (packet : List ℕ) → IsRun e a → (worn : Bool) → is_worn a ≡ worn → IsRun e (cond worn (worn_step a) (hears_packet a packet (parsed packet))).after
  given_by a packet k true is = k
  given_by a packet k false is = packet_runs a packet (parsed packet) k is

  given_runs : (a : Requesting) (packet : List ℕ) → IsRun e a → IsRun e (requester_given a packet).after
  unfolding requester_given
  given_runs a packet k = given_by a packet k (is_worn a) refl

  runs : (given : List Given) → IsRun e (run_of e given)
  runs [] = record { setup = refl; seed = refl; first = refl; made = tt; entries = omega arith; limit = omega arith }
  runs (Told command ∷ older) = told_runs (run_of e older) command (runs older)
  runs (Packet bytes ∷ older) = given_runs (run_of e older) bytes (runs older)

pub runs_bounded : RunsAreBounded
runs_bounded e given = runs e given
