-- A large response of a place that is sent in chunks, as the program represents it.
use Rattle.std.specs.Prelude.{◌≡◌, ◌+◌, ◌||◌, not, if◌then◌else◌, ℕ, List, [], ◌∷◌, drop, Bool, true, false, Option, Some, None, replicate}
use Rattle.chunking.specs.Cutting.{chunks_of}
use Rattle.responder_machine.specs.Answer.{chunk_answer}
use Rattle.responder_machine.specs.LargeMessages.{given_of, handle_of, large_of, larges_of, next_handle}
use Rattle.responder_machine.specs.Place.{Place}
use Rattle.responder_machine.specs.Refusal.{is_get_refused}
use Rattle.responder_machine.specs.Turn.{Effect, Turn, is_taken, takes}
use Rattle.responder_machine.specs.Turn.Effect.{NoEffect, Took, TookData}
use Rattle.spdm_grammar.specs.Message.{ChunkMessage, chunk_message}
use Rattle.spdm_grammar.specs.Message.RequestMessage.{ChunkGet}
use Rattle.spdm_grammar.specs.Message.ResponseMessage.{ChunkResponse}
use Rattle.spdm_grammar.specs.declared.ChunkView.{ChunkView}
use Rattle.spdm_grammar.specs.declared.names.TheConstants.{MAX_MESSAGE_SIZE, MIN_DATA_TRANSFER_SIZE}
use Rattle.spdm_grammar.specs.declared.names.request_code.TheConstants.{CHUNK_GET}

-- The chunks that are still to be given of the answer that last went by LargeResponse.
abbrev pub left_by : ℕ → List Turn → Option (List ℕ) → List ChunkMessage
left_by transfer turns None = []
left_by transfer turns (Some answer) = drop (given_of turns) (chunks_of transfer (handle_of turns) answer)

-- The state in contracts: these chunks, and the handle of the next large response.
pub record Seen : Type 0 where
  pub left : List ChunkMessage
  pub next : ℕ

-- It is kept of a place with these turns, whose answers go in chunks of this transfer size.
pub record StandsFor (seen : Seen) (transfer : ℕ) (turns : List Turn) : Type 0 where
  pub left : seen.left ≡ left_by transfer turns (large_of turns)
  pub next : seen.next ≡ next_handle turns

-- What it keeps is overwritten: the message that is cut is zeros, as many as a message has at most.
pub record IsWiped (seen : Seen) : Type 0 where
  pub left : seen.left ≡ chunks_of MIN_DATA_TRANSFER_SIZE 0 (replicate MAX_MESSAGE_SIZE 0)
  pub next : seen.next ≡ 0

-- CHUNK_GET is refused for its handle or its number, or this chunk is the answer.
abbrev pub IsAsked : Place → (handle number : ℕ) → Option ChunkView → Type 0
IsAsked p handle number None = is_get_refused p (Some (ChunkGet handle number)) ≡ true
IsAsked p handle number (Some chunk) =
    (is_get_refused p (Some (ChunkGet handle number)) ≡ false) × (chunk_answer p handle number ≡ ChunkResponse (chunk_message chunk))

-- ---- With other bytes, for one who judges answers whose bytes come chunk by chunk.

-- What took effect, with these bytes as the whole answer to a request; all else stays as it is.
abbrev pub effect_with : List ℕ → Effect → Effect
effect_with answer NoEffect = NoEffect
effect_with answer (Took asked request old large) = Took asked request answer large
effect_with answer (TookData bytes old) = TookData bytes old

-- A turn with these bytes as the whole answer to its request.
abbrev pub turn_with : List ℕ → Turn → Turn
turn_with answer t = record t { effect = effect_with answer t.effect }

-- The turns with these bytes as the whole answer to the last message that was taken and is no CHUNK_GET: a large
-- response that is pending is its answer.
abbrev pub turns_with : List ℕ → List Turn → List Turn
turns_with answer [] = []
turns_with answer (t ∷ older) =
    if not (is_taken t) || takes CHUNK_GET t then t ∷ turns_with answer older
    else turn_with answer t ∷ older

-- A request with this code is the last message that was taken and is no CHUNK_GET.
abbrev pub last_takes : (code : ℕ) → List Turn → Bool
last_takes code [] = false
last_takes code (t ∷ older) =
    if not (is_taken t) || takes CHUNK_GET t then last_takes code older else takes code t

-- ---- Without its bytes, for one who judges requests whose large answer was never seen.

-- What took effect, with no bytes as the answer to a request, and nothing pending; all else stays as it is.
abbrev pub effect_unseen : Effect → Effect
effect_unseen NoEffect = NoEffect
effect_unseen (Took asked request answer large) = Took asked request [] None
effect_unseen (TookData bytes answer) = TookData bytes answer

-- A turn whose large response was never seen.
abbrev pub turn_unseen : Turn → Turn
turn_unseen t = record t { effect = effect_unseen t.effect }

-- The turns whose last message that was taken and is no CHUNK_GET has an answer that was never seen: a large response
-- that is pending is its answer.
abbrev pub turns_unseen : List Turn → List Turn
turns_unseen [] = []
turns_unseen (t ∷ older) =
    if not (is_taken t) || takes CHUNK_GET t then t ∷ turns_unseen older
    else turn_unseen t ∷ older

-- One answer less went by LargeResponse in the others, and the same chunks are left to be given.
pub record IsUncounted (transfer : ℕ) (turns others : List Turn) : Type 0 where
  pub left : left_by transfer turns (large_of turns) ≡ left_by transfer others (large_of others)
  pub count : larges_of turns ≡ larges_of others + 1
