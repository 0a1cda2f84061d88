-- A connect of a configured world: it begins where nothing has happened yet, and a pump of six packets completes it. So
-- the laws speak of something.
use Rattle.std.proofs.Common.{ℕ, List, [], ◌∷◌, false, refl, arith}
use Rattle.spdm_basis.specs.declared.values.aead_alg.AeadAlg.TheVariants.{Aes128Gcm}
use Rattle.spdm_basis.specs.declared.values.hash_alg.HashAlg.TheVariants.{Sha256}
use Rattle.requester_machine.specs.Requesting.{Requesting, new_requesting}
use Rattle.responder_machine.specs.Responding.{Connection, new_connection}
use Rattle.spdm_grammar.specs.declared.messages.choice.Choice.{Choice}
use Rattle.spdm_agreement.proofs.Requester.OwnRequests.{offer_with}
use Rattle.spdm_agreement.proofs.Worlds.Configuration.{setup, requester, part, configuration}
use Rattle.spdm_agreement.proofs.Worlds.Scripts.{scripts_are_configured}
use Rattle.world_machine.specs.Happenings.{Entry}
use Rattle.world_machine.specs.Happenings.Happening.{Pump}
use Rattle.world_machine.specs.Setup.{WorldSetup, known_of, script_world, requester_seed, first_draw}
use Rattle.world_machine.specs.Trace.{world_after, world_from, lines_from}
use Rattle.spdm_progress.specs.Connecting.{CanConnect, ConnectIsTold, IsConnected, connecting}
use Rattle.spdm_progress.proofs.Connected.{connect_completes, six_packets_are_enough}

abbrev world : List ℕ → WorldSetup
world seed = script_world setup seed 0

-- Its one requester and the responder's connection with it, to which nothing has happened.
abbrev asker : List ℕ → Requesting
asker seed = new_requesting (record { setup = requester; seed = requester_seed seed 1; first = first_draw 0 })

abbrev server : Connection
server = new_connection part (known_of requester)

abbrev choice : Choice
choice = record { hash = Sha256; aead = Aes128Gcm; measure = false }

abbrev can : (seed : List ℕ) → CanConnect (asker seed) server
can seed = record { offer = offer_with 1 1; offered = refl; choice = choice; chosen = refl; request_goes = (omega arith, λ none. omega arith); answer_goes = (omega arith, λ none. omega arith) }

told : (seed : List ℕ) → ConnectIsTold (world seed) [] 1 (asker seed) server
told seed = record {
  configured = scripts_are_configured setup seed 0 configuration (omega arith);
  no_chance = tt;
  idle = refl;
  is_requester = refl;
  is_connection = refl;
  can = can seed;
  request_fits = omega arith;
  answer_fits = omega arith;
  life = record { requester = omega arith; responder = omega arith };
}

-- One pump of six packets after it.
abbrev pumped : List Entry
pumped = record { line = 6; happening = Pump 6 } ∷ []

connected : (seed : List ℕ) → IsConnected 1 requester server.setup (told seed).can.choice (world_from (connecting (world_after (world seed) []) 5 1) pumped) (lines_from (connecting (world_after (world seed) []) 5 1) pumped)
connected seed = connect_completes (world seed) [] 1 (asker seed) server (told seed) 5 pumped (refl, tt) (tt, tt) (six_packets_are_enough (world seed) [] 1 (asker seed) server (told seed) 5 6 (omega arith))
