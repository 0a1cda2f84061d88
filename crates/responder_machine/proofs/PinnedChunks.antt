-- What is refused of the chunks of large requests and answers.
use Rattle.std.proofs.Common.{refl, ℕ, List, [], ◌∷◌, true, false, replicate, Some, None}
use Rattle.spdm_grammar.specs.Message.{ChunkMessage}
use Rattle.spdm_grammar.specs.Message.RequestMessage.{GetMeasurements, ChunkSend, ChunkGet}
use Rattle.spdm_grammar.specs.Requests.{canonical_request}
use Rattle.spdm_grammar.specs.declared.messages.error_code.ErrorCode.TheVariants.{InvalidRequest, UnexpectedRequest, RequestTooLarge}
use Rattle.spdm_grammar.specs.declared.told.phase.Phase.TheVariants.{Negotiated}
use Rattle.spdm_grammar.specs.declared.names.capability.TheConstants.{CHUNK_CAP}
use Rattle.responder_machine.proofs.Pinned.{computed, setup, IsTable, clear_with, negotiation, negotiation_with, caps_with, offer, took, large, opened_with, with_large, after_taking, chunk_get}
use Rattle.responder_machine.specs.Place.{Place, session_place}
use Rattle.responder_machine.specs.Turn.{Turn}
use Rattle.responder_machine.specs.Turn.Effect.{NoEffect}

-- ---- Chunks of a large request.

abbrev sending : ChunkMessage → List ℕ
sending c = canonical_request (ChunkSend c)

-- The first 30 bytes of a request of 60, with handle 7; and all that are left.
abbrev first : ChunkMessage
first = record { last = false; handle = 7; number = 0; large = Some 60; chunk = replicate 30 0 }

abbrev second : ChunkMessage
second = record { last = true; handle = 7; number = 1; large = None; chunk = replicate 30 0 }

-- A chunk that was taken, and any message that was refused.
abbrev taken_chunk : ChunkMessage → Turn
taken_chunk c = record { message = []; refused = None; chunk = Some c; effect = NoEffect; reply = [] }

abbrev refused : Turn
refused = record { message = []; refused = Some InvalidRequest; chunk = None; effect = NoEffect; reply = [] }

abbrev after_turns : List Turn → Place
after_turns turns = clear_with Negotiated turns negotiation

-- Where none is in progress: the number is 0; at most 4,096 bytes are told; a chunk is not empty, does not pass the
-- announced length, and has at least 26 bytes unless it is the last; the last mark stands exactly on the chunk that
-- reaches the announced length.
first_chunks : IsTable setup (after_turns []) (
    (sending first, None)
    ∷ (sending second, Some InvalidRequest)
    ∷ (sending (record first { large = Some 4096 }), None)
    ∷ (sending (record first { large = Some 4097 }), Some RequestTooLarge)
    ∷ (sending (record first { large = Some 4097; chunk = [] }), Some RequestTooLarge)
    ∷ (sending (record first { large = Some 29 }), Some InvalidRequest)
    ∷ (sending (record first { chunk = [] }), Some InvalidRequest)
    ∷ (sending (record first { chunk = replicate 26 0 }), None)
    ∷ (sending (record first { chunk = replicate 25 0 }), Some InvalidRequest)
    ∷ (sending (record first { last = true }), Some InvalidRequest)
    ∷ (sending (record first { last = true; large = Some 30 }), None)
    ∷ (sending (record first { large = Some 30 }), Some InvalidRequest)
    ∷ [])
unfolding computed
first_chunks = refl

-- The greatest length is the own max size where that is less.
own_max_size : IsTable (record setup { max = 60 }) (after_turns []) (
    (sending first, None)
    ∷ (sending (record first { large = Some 61 }), Some RequestTooLarge)
    ∷ [])
unfolding computed
own_max_size = refl

-- Where one is in progress: its handle; the next number; the sizes and marks as before. Number 0 starts over.
next_chunks : IsTable setup (after_turns (taken_chunk first ∷ [])) (
    (sending second, None)
    ∷ (sending (record second { handle = 8 }), Some InvalidRequest)
    ∷ (sending (record second { number = 2 }), Some InvalidRequest)
    ∷ (sending (record second { chunk = [] }), Some InvalidRequest)
    ∷ (sending (record second { chunk = replicate 31 0 }), Some InvalidRequest)
    ∷ (sending (record second { chunk = replicate 29 0 }), Some InvalidRequest)
    ∷ (sending (record second { last = false }), Some InvalidRequest)
    ∷ (sending (record second { last = false; chunk = replicate 26 0 }), None)
    ∷ (sending (record second { last = false; chunk = replicate 25 0 }), Some InvalidRequest)
    ∷ (sending first, None)
    ∷ (sending (record first { handle = 8 }), None)
    ∷ [])
unfolding computed
next_chunks = refl

-- A taken message that is no chunk drops what is in progress, and so does the last chunk; a refused one does not.
behind_other_messages : IsTable setup (after_turns (took (GetMeasurements 0) [] None ∷ taken_chunk first ∷ [])) ((sending second, Some InvalidRequest) ∷ [])
unfolding computed
behind_other_messages = refl

behind_last_chunk : IsTable setup (after_turns (taken_chunk second ∷ taken_chunk first ∷ [])) ((sending (record second { number = 2 }), Some InvalidRequest) ∷ [])
unfolding computed
behind_last_chunk = refl

behind_refused_messages : IsTable setup (after_turns (refused ∷ taken_chunk first ∷ [])) ((sending second, None) ∷ [])
unfolding computed
behind_refused_messages = refl

-- ---- Chunks of a large answer: 100 bytes at a transfer size of 42 are four chunks. Their handle is 5.

abbrev get : Turn
get = took (ChunkGet 5 0) [] None

abbrev small_after : List Turn → Place
small_after turns = clear_with Negotiated turns (negotiation_with setup (caps_with CHUNK_CAP 42 4096) offer)

first_get : IsTable setup (small_after (large ∷ [])) (
    (chunk_get 5 0, None)
    ∷ (chunk_get 4 0, Some InvalidRequest)
    ∷ (chunk_get 6 0, Some InvalidRequest)
    ∷ (chunk_get 5 1, Some InvalidRequest)
    ∷ [])
unfolding computed
first_get = refl

fourth_get : IsTable setup (small_after (get ∷ get ∷ get ∷ large ∷ [])) (
    (chunk_get 5 3, None)
    ∷ (chunk_get 4 3, Some InvalidRequest)
    ∷ (chunk_get 5 0, Some InvalidRequest)
    ∷ (chunk_get 5 2, Some InvalidRequest)
    ∷ (chunk_get 5 4, Some InvalidRequest)
    ∷ [])
unfolding computed
fourth_get = refl

-- All four were given: none is pending.
fifth_get : IsTable setup (small_after (get ∷ get ∷ get ∷ get ∷ large ∷ [])) ((chunk_get 5 4, Some UnexpectedRequest) ∷ (chunk_get 5 3, Some UnexpectedRequest) ∷ [])
unfolding computed
fifth_get = refl

-- A new large response begins at its first chunk.
get_of_new_answer : IsTable setup (small_after (large ∷ get ∷ get ∷ large ∷ [])) ((chunk_get 5 0, None) ∷ (chunk_get 5 2, Some InvalidRequest) ∷ [])
unfolding computed
get_of_new_answer = refl

-- A taken message other than CHUNK_GET drops the answer, a refused one does not.
get_behind_other_messages : IsTable setup (small_after (took (GetMeasurements 0) [] None ∷ large ∷ [])) ((chunk_get 5 0, Some UnexpectedRequest) ∷ [])
unfolding computed
get_behind_other_messages = refl

get_behind_chunks : IsTable setup (small_after (taken_chunk first ∷ large ∷ [])) ((chunk_get 5 0, Some UnexpectedRequest) ∷ [])
unfolding computed
get_behind_chunks = refl

get_behind_refused_messages : IsTable setup (small_after (refused ∷ get ∷ refused ∷ large ∷ [])) ((chunk_get 5 1, None) ∷ (chunk_get 5 0, Some InvalidRequest) ∷ [])
unfolding computed
get_behind_refused_messages = refl

-- The same in a session.
get_in_session : IsTable setup (session_place (with_large (opened_with negotiation))) (
    (chunk_get 5 0, None)
    ∷ (chunk_get 4 0, Some InvalidRequest)
    ∷ (chunk_get 5 1, Some InvalidRequest)
    ∷ [])
unfolding computed
get_in_session = refl

get_given_in_session : IsTable setup (session_place (after_taking (ChunkGet 5 0) (with_large (opened_with negotiation)))) ((chunk_get 5 1, Some UnexpectedRequest) ∷ [])
unfolding computed
get_given_in_session = refl
