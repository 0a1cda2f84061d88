-- The world of the ends that a configuration sets up, each with a seed of its own. This project's own.
use Rattle.std.specs.Prelude.{◌+◌, ◌==◌, ℕ, List, [], ◌∷◌, if◌then◌else◌}
use Rattle.script_ends.specs.Configured.{requester_end, responder_end}
use Rattle.requester_machine.specs.Setup.{ReqEnd}
use Rattle.script_text.specs.declared.configuration.config.ReqPart.{ReqPart}
use Rattle.script_text.specs.declared.configuration.config.ScriptConfig.{ScriptConfig}
use Rattle.world_machine.specs.Setup.{WorldSetup, requester_seed, responder_seed}

-- Requesters beside a responder with this endpoint, in their first lives. The first of them has number n.
abbrev pub ends_from : (responder n : ℕ) → (seeds : ℕ → List ℕ) → List ReqPart → List ReqEnd
ends_from responder n seeds [] = []
ends_from responder n seeds (q ∷ others) = requester_end responder q (seeds n) 0 ∷ ends_from responder (n + 1) seeds others

-- The responder has seed 0, and each requester, counted from 1, the seed of its number.
abbrev pub world_of : ScriptConfig → (seeds : ℕ → List ℕ) → WorldSetup
world_of c seeds = record {
  responder = responder_end c (seeds 0) 0;
  requesters = ends_from c.responder.eid.number 1 seeds c.requesters;
}

-- The seeds that the ends of a script have from the seed of that script.
abbrev pub script_seeds : (seed : List ℕ) → ℕ → List ℕ
script_seeds seed n = if n == 0 then responder_seed seed else requester_seed seed n
