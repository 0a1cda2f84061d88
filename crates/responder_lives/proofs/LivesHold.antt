-- All that is said of a responder that starts again beside requesters that go on.
use Rattle.std.proofs.Common.{◌<◌, ◌≤◌, ℕ, List, [], ◌∷◌, map, ap, arith}
use Rattle.responder_lives.proofs.Holds.{agrees, hears, matches, nothing_old, seals_once, shows_alike, takes}
use Rattle.responder_lives.proofs.Restarted.{framed}
use Rattle.responder_lives.specs.Laws.{ResponderLivesHold, ScriptRestartsHold}
use Rattle.responder_lives.specs.Restarts.{AreRestarts, BootsRiseAbove, again_at, first_of, newest_boot}
use Rattle.spdm_agreement.proofs.Worlds.Scripts.{scripts_are_configured}
use Rattle.spdm_agreement.specs.Configured.{HasDraws, IsConfiguration, boot_most}
use Rattle.spdm_lives.specs.Lives.{Booted, IsBehind}
use Rattle.world_machine.specs.Setup.{Configuration, first_draw, script_world}
use Rattle.world_machine.specs.World.{World}

pub responder_lives_hold : ResponderLivesHold
responder_lives_hold w entries lives are chance = record {
  agreement = agrees w entries lives are chance;
  hashes_agree = shows_alike w entries lives are chance;
  sealed_once = seals_once w entries lives are chance;
  requests = takes w entries lives are chance;
  responses = hears w entries lives are chance;
  matched = matches w entries lives are chance;
  nothing_old = nothing_old w entries lives are chance;
  parted = ap (λ (x : World). x.log) (framed w entries lives);
}

-- ---- Scripts.

draws_behind : (before later : ℕ) → before < later → IsBehind (first_draw before) (first_draw later)
draws_behind before later less = omega arith

has_draws : (boot : ℕ) → boot ≤ boot_most → HasDraws (first_draw boot)
has_draws boot most = omega arith

behind_newest : (c : Configuration) (seed : List ℕ) (boot : ℕ) (earlier : List Booted) (later : ℕ) → newest_boot boot earlier < later → IsBehind (first_of (script_world c seed boot) (map (again_at seed) earlier)) (first_draw later)
behind_newest c seed boot [] later less = draws_behind boot later less
behind_newest c seed boot (b ∷ earlier) later less = draws_behind b.boot later less

pub are_restarts : (c : Configuration) (seed : List ℕ) (boot : ℕ) (booted : List Booted) → IsConfiguration c → BootsRiseAbove boot booted → AreRestarts (script_world c seed boot) (map (again_at seed) booted)
are_restarts c seed boot [] is rise = scripts_are_configured c seed boot is rise
are_restarts c seed boot (b ∷ earlier) is rise = (behind_newest c seed boot earlier b.boot rise.0, has_draws b.boot rise.1, are_restarts c seed boot earlier is rise.2)

pub script_restarts_hold : ScriptRestartsHold
script_restarts_hold c seed boot entries booted is rise chance =
    responder_lives_hold (script_world c seed boot) entries (map (again_at seed) booted) (are_restarts c seed boot booted is rise) chance
