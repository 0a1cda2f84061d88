-- An answer goes to one of the requesters.
use Rattle.std.proofs.Common.{◌≡◌, ◌+◌, ◌<◌, ◌==◌, ◌&&◌, ℕ, List, [], ◌∷◌, length, Bool, true, false, cond, Option, Some, None, Err, Ok, arith}
use Rattle.std.proofs.lemmas.Option.{none-some, same_Some}
use Rattle.std.specs.List.{position_from}
use Rattle.std.specs.Prelude.{Result, not}
use Rattle.capture_records.specs.Ends.{has_eid, own_of, place_of, way_at, way_in}
use Rattle.capture_records.specs.Inside.{answered}
use Rattle.key_schedule.specs.declared.direction.Direction.TheVariants.{Request, Response}
use Rattle.mctp_framing.specs.Packet.{PacketFields}
use Rattle.script_text.specs.declared.configuration.config.ScriptConfig.{ScriptConfig}
use Rattle.spdm_basis.specs.declared.causes.faults.PacketFault.{PacketFault}

-- ---- A requester that has an end point is one of all.

inside_from : {K : Type 0} (test : K → Bool) (n k : ℕ) (xs : List K) → position_from test n xs ≡ Some k → k < n + length xs
inside_from test n k [] is = absurd (none-some k is)
inside_from test n k (x ∷ xs) is = go (test x) is (inside_from test (n + 1) k xs)
  where
    go : (b : Bool) → cond b (Some n) (position_from test (n + 1) xs) ≡ Some k → (position_from test (n + 1) xs ≡ Some k → k < n + 1 + length xs) → k < n + length (x ∷ xs)
    go true it next = let same = same_Some n k it in omega (arith, same)
    go false it next = let below = next it in omega (arith, below)

inside_all : {K : Type 0} (test : K → Bool) (k : ℕ) (xs : List K) → position_from test 0 xs ≡ Some k → k < length xs
inside_all test k xs is = let below = inside_from test 0 k xs is in omega (arith, below)

by_way : (n place : ℕ) (itself to_own from_own : Bool) (asks gets : Option ℕ) → (gets ≡ Some place → place < n) → answered (cond itself None (cond to_own (way_at Request asks) (cond from_own (way_at Response gets) None))) ≡ Some place → place < n
by_way n place true to_own from_own asks gets inside is = absurd (none-some place is)
by_way n place false true from_own None gets inside is = absurd (none-some place is)
by_way n place false true from_own (Some k) gets inside is = absurd (none-some place is)
by_way n place false false true asks None inside is = absurd (none-some place is)
by_way n place false false true asks (Some k) inside is = inside is
by_way n place false false false asks gets inside is = absurd (none-some place is)

pub answered_inside : (config : ScriptConfig) (r : Result PacketFields PacketFault) (place : ℕ) → answered (way_in config r) ≡ Some place → place < length config.requesters
answered_inside config (Err fault) place is = absurd (none-some place is)
answered_inside config (Ok p) place is =
    by_way (length config.requesters) place (p.to == p.from) (p.to == own_of config && p.owner) (p.from == own_of config && not p.owner) (place_of config p.from) (place_of config p.to)
    (inside_all (has_eid p.to) place config.requesters) is
