-- What a lane stands for. This project's own.
use Rattle.std.specs.Prelude.{ℕ, List}
use Rattle.spdm_basis.specs.declared.values.hash_alg.HashAlg.{HashAlg}
use Rattle.running_hash.specs.Holds.{Holds, function_of}
use Rattle.transcript.specs.declared.lane.Lane.{Lane}

-- The hash function of a lane.
abbrev pub lane_hash : Lane → HashAlg
lane_hash lane = function_of lane.running

-- A lane stands for the list of all bytes that were pushed.
abbrev pub StandsFor : Lane → List ℕ → Type 0
StandsFor lane pushed = Holds lane.running pushed
