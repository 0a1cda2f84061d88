-- What is kept of one requester and the responder while a large response is fetched in chunks, from its LargeResponse
-- to its last chunk. This project's own.
use Rattle.std.specs.Prelude.{⊤, ◌≡◌, ◌+◌, ◌*◌, ◌==◌, ◌&&◌, ℕ, List, [], ◌∷◌, ◌++◌, drop, length, slice_index, take, true, if◌then◌else◌, Bool, Option, Some, None}
use Rattle.requester_machine.specs.History.{outstanding}
use Rattle.requester_machine.specs.Setup.{ReqSetup}
use Rattle.responder_machine.specs.History.{Entry, History}
use Rattle.responder_machine.specs.History.Entry.{Clear, Sealed}
use Rattle.responder_machine.specs.Place.{Place}
use Rattle.responder_machine.specs.Turn.{answer_in}
use Rattle.check_laws.specs.Keeping.{Kept, kept_of, restored}
use Rattle.check_laws.specs.Order.{body_in}
use Rattle.check_laws.specs.Walks.{Walks}
use Rattle.capture_machine.specs.LargeAnswers.{IsLargeAnswer, is_fetching, is_kept_in, is_unseen_in, place_named, takes_get}
use Rattle.capture_machine.specs.Rounds.{Dialogue}
use Rattle.world_machine.specs.Setup.{Configuration}

-- ---- The chunks that came.

-- A chunk was given with the entry at this place.
abbrev pub gives_in : Option ℕ → Entry → Bool
gives_in at entry = is_kept_in at entry && takes_get entry

-- The answer of an entry; empty where it is no message.
abbrev pub answer_by : Entry → List ℕ
answer_by (Clear tag t d) = answer_in t.effect
answer_by (Sealed tag sealed t reply d) = answer_in t.effect
answer_by _ = []

-- How many chunks were given at a place since its newest answer that was not seen.
abbrev pub number_given : Option ℕ → History → ℕ
number_given at [] = 0
number_given at (entry ∷ older) =
    if is_unseen_in at entry then 0
    else (if gives_in at entry then number_given at older + 1
    else number_given at older)

-- The bytes of the large response in CHUNK_RESPONSE of this number. In the first one the length of all stands before
-- them.
abbrev pub bytes_in : (number : ℕ) → List ℕ → List ℕ
bytes_in number answer = drop (if number == 0 then 16 else 12) answer

-- The length that the first one tells, by the lower two of its four bytes.
abbrev pub size_in : List ℕ → ℕ
size_in answer = slice_index answer 12 + slice_index answer 13 * 256

-- The bytes that these chunks hold, one after another.
abbrev pub bytes_given : Option ℕ → History → List ℕ
bytes_given at [] = []
bytes_given at (entry ∷ older) =
    if is_unseen_in at entry then []
    else (if gives_in at entry then bytes_given at older ++ bytes_in (number_given at older) (answer_by entry)
    else bytes_given at older)

-- The length that was told of all, by the first of them.
abbrev pub size_told : Option ℕ → History → Option ℕ
size_told at [] = None
size_told at (entry ∷ older) =
    if is_unseen_in at entry then None
    else (if gives_in at entry && number_given at older == 0 then Some (size_in (answer_by entry))
    else size_told at older)

-- ---- What is kept.

-- What is kept of the two ends, with the answer not seen in the responder's history; where it is fetched, the clear
-- part or the session of an id; and the place by whose sizes it went in chunks.
pub record Fetching : Type 0 where
  pub kept : Kept
  pub at : Option ℕ
  pub place : Place

-- How many chunks came, their bytes, and the announced length; none before the first one.
abbrev pub number_of : Fetching → ℕ
number_of f = number_given f.at f.kept.responder

abbrev pub bytes_of : Fetching → List ℕ
bytes_of f = bytes_given f.at f.kept.responder

abbrev pub size_of : Fetching → Option ℕ
size_of f = size_told f.at f.kept.responder

-- The bytes have the announced length, if one was told.
abbrev pub HasSize : Option ℕ → List ℕ → Type 0
HasSize None whole = ⊤
HasSize (Some size) whole = length whole ≡ size

-- Any bytes of a length that is sent in chunks, of the told one once that is told, that begin with those of the chunks
-- may stand for the answer.
abbrev pub MayStand : Fetching → (whole : List ℕ) → Type 0
MayStand f whole = IsLargeAnswer f.place whole × HasSize (size_of f) whole × (take (length (bytes_of f)) whole ≡ bytes_of f)

-- What is between the two ends, with these bytes.
abbrev pub dialogue_of : Fetching → (whole : List ℕ) → Dialogue
dialogue_of f whole = record (restored f.kept) { fetching = Some whole }

-- While the requester asks for a chunk, the last request went where the answer is fetched. In place of that it may have
-- asked for GET_VERSION.
abbrev pub GoesThere : Fetching → Type 0
GoesThere f = is_fetching (outstanding (restored f.kept).requester) ≡ true → place_named (body_in f.kept.round) ≡ f.at

-- This is kept of the packets, the newest first: a large response is fetched after them; they lead to it with any bytes
-- that may stand for it, and each walk over them leads to it with some.
pub record IsFetchingOf (w : Configuration) (q : ReqSetup) (older : List (List ℕ)) (f : Fetching) : Type 0 where
  pub kept : kept_of (restored f.kept) ≡ f.kept
  pub there : GoesThere f
  pub stands : (whole : List ℕ) × MayStand f whole
  pub all : (whole : List ℕ) → MayStand f whole → Walks w q older (dialogue_of f whole)
  pub each : (d : Dialogue) → Walks w q older d → (whole : List ℕ) × MayStand f whole × (d.fetching ≡ Some whole)
