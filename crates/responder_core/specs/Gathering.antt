-- Chunks of a large request, as the program gathers them.
use Rattle.std.specs.Prelude.{◌≡◌, ℕ, List, Bool, true, false}
use Rattle.chunking.specs.Collecting.{Collection}
use Rattle.chunking.specs.Collecting.Collection.{More, Refused, Whole}
use Rattle.responder_core.specs.declared.clear.gathering.Gathered.{Gathered}
use Rattle.responder_core.specs.declared.clear.gathering.Gathered.TheVariants as seen

-- The outcome of a chunk, with the large request that is kept.
abbrev pub gathered_as : Gathered → (whole : List ℕ) → Collection
gathered_as seen.Whole whole = Whole whole
gathered_as seen.More whole = More
gathered_as (seen.Refused fault) whole = Refused fault

-- A chunk completes a large request.
abbrev pub is_whole : Collection → Bool
is_whole (Whole message) = true
is_whole More = false
is_whole (Refused fault) = false

-- It completes this one, or none.
abbrev pub IsCompletedBy : Collection → Bool → (whole : List ℕ) → Type 0
IsCompletedBy answer true whole = answer ≡ Whole whole
IsCompletedBy answer false whole = is_whole answer ≡ false
