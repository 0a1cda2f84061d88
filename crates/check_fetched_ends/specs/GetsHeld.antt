-- The CHUNK_GETs that came while a large response is fetched in the clear. This project's own.
use Rattle.std.specs.Prelude.{◌≡◌, ◌+◌, ℕ, List, [], ◌∷◌, MatchBool}
use Rattle.chunking.specs.Cutting.{nth_chunk}
use Rattle.check_fetched_laws.specs.ClearChunks.{clear_with, get_entry}
use Rattle.check_fetched_laws.specs.ClearSessions.{is_clear_get}
use Rattle.check_late_laws.specs.Fetching.{Fetching, MayStand, number_of}
use Rattle.responder_machine.specs.History.{Entry, History}
use Rattle.responder_machine.specs.LargeMessages.{handle_of}
use Rattle.spdm_grammar.specs.Message.ResponseMessage.{ChunkResponse}
use Rattle.spdm_grammar.specs.Responses.{canonical_response}

-- The entry asks for this chunk of these bytes, cut for this transfer size, and gives it.
abbrev pub GivesChunk : (transfer handle : ℕ) → (whole : List ℕ) → (number tag : ℕ) → Entry → Type 0
GivesChunk transfer handle whole number tag entry = entry ≡ get_entry tag handle number (canonical_response (ChunkResponse (nth_chunk transfer handle whole number)))

-- The newest entries ask for so many chunks, from the first one on, and give them.
abbrev pub GiveChunks : (transfer handle : ℕ) → (whole : List ℕ) → History → (number : ℕ) → Type 0
GiveChunks transfer handle whole [] number = number ≡ 0
GiveChunks transfer handle whole (entry ∷ older) number =
    MatchBool (is_clear_get entry)
    ((before : ℕ) × (tag : ℕ) × (number ≡ before + 1) × GivesChunk transfer handle whole before tag entry × GiveChunks transfer handle whole older before)
    (number ≡ 0)

-- They give those of any bytes that may stand.
abbrev pub GiveAll : (transfer : ℕ) → Fetching → Type 0
GiveAll transfer f = (whole : List ℕ) → MayStand f whole → GiveChunks transfer (handle_of (clear_with f.kept.responder whole).turns) whole f.kept.responder (number_of f)

-- These entries do, and are no more.
abbrev pub AreGiven : (transfer handle : ℕ) → (whole : List ℕ) → List Entry → (number : ℕ) → Type 0
AreGiven transfer handle whole [] number = number ≡ 0
AreGiven transfer handle whole (entry ∷ older) number =
    (before : ℕ) × (tag : ℕ) × (number ≡ before + 1) × GivesChunk transfer handle whole before tag entry × AreGiven transfer handle whole older before
