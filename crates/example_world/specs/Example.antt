-- A world in which a session is opened and data is sent: one requester, and three commands, each with a pump after it.
-- This project's own.
use Rattle.std.specs.Prelude.{◌≡◌, ℕ, List, [], ◌∷◌, replicate, false, true}
use Rattle.requester_machine.specs.Message.Command.{Connect, Open, Send}
use Rattle.requester_machine.specs.Requesting.{Requesting}
use Rattle.requester_machine.specs.Session as asking
use Rattle.requester_machine.specs.Setup.{ReqSetup}
use Rattle.responder_machine.specs.Place.{is_held}
use Rattle.responder_machine.specs.Responding.{Connection}
use Rattle.responder_machine.specs.Session as serving
use Rattle.responder_machine.specs.Setup.{RspPart}
use Rattle.spdm_agreement.specs.Configured.{IsConfigured}
use Rattle.spdm_grammar.specs.declared.messages.choice.Pick.TheVariants.{Small}
use Rattle.spdm_progress.specs.Honest.{AreHonest, NothingWaits}
use Rattle.spdm_progress.specs.Scripts.{CanBeDone, OfEachCommand, Order, with_pumps}
use Rattle.world_machine.specs.Agreement.{ArePair, holds, requests_taken}
use Rattle.world_machine.specs.Chance.{NoChance}
use Rattle.world_machine.specs.Happenings.{Entry}
use Rattle.world_machine.specs.Setup.{WorldSetup, script_world}
use Rattle.world_machine.specs.Trace.{world_after}
use Rattle.world_machine.specs.World.{World, new_world}

abbrev pub requester : ReqSetup
requester = record {
  eid = 9;
  responder = 8;
  transfer = 512;
  max = 2048;
  unit = 64;
  pad = 0;
  flags = record { measure = false; heartbeat = true; key_update = true; chunk = true };
  hint = 1 ∷ [];
  psk = 7 ∷ [];
  opaque = [];
  suites = record { hash = Small; aead = Small };
}

abbrev pub part : RspPart
part = record {
  eid = 8;
  transfer = 512;
  max = 2048;
  unit = 64;
  beat = 5;
  flags = record { measure = false; heartbeat = true; key_update = true; chunk = true };
  opaque = [];
  blocks = [];
  suites = record { hash = Small; aead = Small };
}

-- The common seed has 32 zeros.
abbrev pub setup : WorldSetup
setup = script_world (record { responder = part; requesters = requester ∷ [] }) (replicate 32 0) 0

-- Application data, of two bytes.
abbrev pub data_bytes : List ℕ
data_bytes = 104 ∷ 105 ∷ []

-- Connect, open a session without a summary, and send the data in it.
abbrev pub script : List Order
script =
    record { line = 5; n = 1; command = Connect; pump_line = 6 }
    ∷ record { line = 7; n = 1; command = Open 0; pump_line = 8 }
    ∷ record { line = 9; n = 1; command = Send 1 data_bytes; pump_line = 10 } ∷ []

abbrev pub entries : List Entry
entries = with_pumps script

abbrev pub world : World
world = world_after setup entries

-- Both ends of a pair hold a session open, with one T2, and under it the responder took the data.
pub record HoldOne (w : World) : Type 0 where
  pub asks : Requesting
  pub answers : Connection
  pub pair : ArePair w asks answers
  pub req : ℕ
  pub rsp : ℕ
  pub held : holds asks.history req ≡ true
  pub held_there : is_held answers.history rsp ≡ true
  pub ids : asking.id_bytes (asking.session_of req asks.history) ≡ serving.id_bytes (serving.session_of rsp answers.history)
  pub transcript : asking.t2_of (asking.session_of req asks.history) ≡ serving.t2_of (serving.session_of rsp answers.history)
  pub taken : requests_taken (asking.t2_of (asking.session_of req asks.history)) answers.history ≡ data_bytes ∷ []

-- The script is honest, no packet waits at its end, and each command has what it needs.
pub record IsHonestly : Type 0 where
  pub honest : AreHonest (new_world setup) entries
  pub idle : NothingWaits world
  pub can : OfEachCommand CanBeDone (new_world setup) entries

-- The world keeps all limits, nothing agrees by chance in it, and both ends hold a session open; so it is what the laws of
-- agreement speak of, and its script what those of honest completion do.
abbrev pub SessionOpens : Type 0
SessionOpens = IsConfigured setup × NoChance world.log × HoldOne world × IsHonestly
