-- How long requests and answers may be, and which answers go by LargeResponse.
use Rattle.std.proofs.Common.{refl, ◌≡◌, ℕ, List, [], ◌∷◌, ◌++◌, take, length, replicate, true, false, Bool, Option, Some, None}
use Rattle.std.specs.Prelude.{if◌then◌else◌, map}
use Rattle.spdm_grammar.specs.Message.RequestMessage.{ChunkSend, GetMeasurements}
use Rattle.spdm_grammar.specs.Requests.{canonical_request}
use Rattle.spdm_grammar.specs.declared.messages.error_code.ErrorCode.{ErrorCode}
use Rattle.spdm_grammar.specs.declared.messages.error_code.ErrorCode.TheVariants.{InvalidRequest, ResponseTooLarge, RequestTooLarge}
use Rattle.spdm_grammar.specs.declared.told.phase.Phase.TheVariants.{Capable, Negotiated}
use Rattle.transcript.specs.Transcripts.{Negotiation}
use Rattle.spdm_grammar.specs.declared.names.capability.TheConstants.{CHUNK_CAP}
use Rattle.responder_machine.proofs.Pinned.{computed, setup, free, IsTable, clear_with, negotiation_with, caps_with, offer, fresh, versioned, capable, opened, opened_with, get_version, get_capabilities, negotiate_algorithms, get_measurements, heartbeat, chunk_get, took}
use Rattle.responder_machine.specs.Answer.{Free}
use Rattle.responder_machine.specs.Handling.{turn_of}
use Rattle.responder_machine.specs.Place.{Place, inside, session_place}
use Rattle.responder_machine.specs.Setup.{RspSetup}
use Rattle.responder_machine.specs.Turn.{Turn, handle_in}

-- ---- Requests.

too_short_in_clear : IsTable setup fresh (
    ([], Some InvalidRequest)
    ∷ (take 1 get_version, Some InvalidRequest)
    ∷ (take 2 get_version, Some InvalidRequest)
    ∷ (take 3 get_version, Some InvalidRequest)
    ∷ (take 3 get_capabilities, Some InvalidRequest)
    ∷ (take 3 heartbeat, Some InvalidRequest)
    ∷ (get_version, None)
    ∷ [])
unfolding computed
too_short_in_clear = refl

too_short_by_chunks : IsTable setup (inside versioned) (([], Some InvalidRequest) ∷ (take 3 get_capabilities, Some InvalidRequest) ∷ [])
unfolding computed
too_short_by_chunks = refl

too_short_in_session : IsTable setup (session_place opened) (([], Some InvalidRequest) ∷ (take 3 heartbeat, Some InvalidRequest) ∷ (heartbeat, None) ∷ [])
unfolding computed
too_short_in_session = refl

abbrev sized : (transfer max : ℕ) → RspSetup
sized transfer max = record setup { transfer = transfer; max = max }

-- NEGOTIATE_ALGORITHMS has 48 bytes. In the clear the own transfer size is the limit, whatever the max size.
own_transfer_size : IsTable (sized 48 48) capable ((negotiate_algorithms, None) ∷ [])
unfolding computed
own_transfer_size = refl

one_more_than_own_transfer_size : IsTable (sized 47 4096) capable ((negotiate_algorithms, Some RequestTooLarge) ∷ [])
unfolding computed
one_more_than_own_transfer_size = refl

-- A chunk is in the clear: 26 bytes of a large request make 42.
abbrev sending : List ℕ → List ℕ
sending bytes = canonical_request (ChunkSend (record { last = false; handle = 0; number = 0; large = Some 48; chunk = bytes }))

own_transfer_size_of_chunks : IsTable (sized 42 4096) capable ((sending (replicate 26 0), None) ∷ (sending (replicate 27 0), Some RequestTooLarge) ∷ [])
unfolding computed
own_transfer_size_of_chunks = refl

-- By chunks it is the own max size, whatever the transfer size.
own_max_size : IsTable (sized 42 48) (inside capable) ((negotiate_algorithms, None) ∷ [])
unfolding computed
own_max_size = refl

one_more_than_own_max_size : IsTable (sized 42 47) (inside capable) ((negotiate_algorithms, Some RequestTooLarge) ∷ [])
unfolding computed
one_more_than_own_max_size = refl

-- In a session it is the own transfer size again. HEARTBEAT has four bytes.
own_transfer_size_in_session : IsTable (sized 4 4) (session_place opened) ((heartbeat, None) ∷ [])
unfolding computed
own_transfer_size_in_session = refl

one_more_than_own_transfer_size_in_session : IsTable (sized 4 4096) (session_place opened) ((heartbeat ++ 0 ∷ [], Some RequestTooLarge) ∷ [])
unfolding computed
one_more_than_own_transfer_size_in_session = refl

-- ---- Answers.

-- How a request is answered: the code with which it is refused, the handle of its answer where it goes by
-- LargeResponse, and the length of what is sent.
pub record Way : Type 0 where
  refused : Option ErrorCode
  handle : Option ℕ
  sent : ℕ

abbrev way_of : Turn → Way
way_of t = record { refused = t.refused; handle = handle_in t.effect; sent = length t.reply }

-- The answer itself, of so many bytes; LargeResponse, in five bytes; and ResponseTooLarge, in eight.
abbrev whole : ℕ → Way
whole n = record { refused = None; handle = None; sent = n }

abbrev by_handle : ℕ → Way
by_handle n = record { refused = None; handle = Some n; sent = 5 }

abbrev too_long : Way
too_long = record { refused = Some ResponseTooLarge; handle = None; sent = 8 }

-- The flags and the sizes of the requester, and how the answer goes there.
pub record SizeRow : Type 0 where
  chunked : Bool
  transfer : ℕ
  max : ℕ
  goes : Way

abbrev row : Bool → (transfer max : ℕ) → Way → SizeRow
row chunked transfer max goes = record { chunked = chunked; transfer = transfer; max = max; goes = goes }

abbrev settled : SizeRow → Negotiation
settled s = negotiation_with setup (caps_with (if s.chunked then CHUNK_CAP else 0) s.transfer s.max) offer

-- A message is answered so at the places that go by the requester's sizes.
abbrev AreAnswered : (SizeRow → Place) → List ℕ → Free → List SizeRow → Type 0
AreAnswered place m f rows = map (λ (s : SizeRow). way_of (turn_of setup (place s) m f)) rows ≡ map (λ (s : SizeRow). s.goes) rows

abbrev in_clear : SizeRow → Place
in_clear s = clear_with Capable [] (settled s)

-- ALGORITHMS has 52 bytes.
answers_in_clear : AreAnswered in_clear negotiate_algorithms (record free { handle = 9 }) (
    row true 1024 4096 (whole 52)
    ∷ row true 52 52 (whole 52)
    ∷ row true 51 4096 (by_handle 9)
    ∷ row true 51 52 (by_handle 9)
    ∷ row true 51 51 too_long
    ∷ row true 42 4096 (by_handle 9)
    ∷ row false 1024 1024 (whole 52)
    ∷ row false 52 52 (whole 52)
    ∷ row false 51 51 too_long
    ∷ row false 51 4096 too_long
    ∷ [])
unfolding computed
answers_in_clear = refl

-- In an acknowledgement the six bytes round it count for the transfer size, and not for the max size.
answers_by_chunks : AreAnswered (λ s. inside (in_clear s)) negotiate_algorithms (record free { handle = 9 }) (
    row true 1024 4096 (whole 52)
    ∷ row true 58 58 (whole 52)
    ∷ row true 57 4096 (by_handle 9)
    ∷ row true 57 57 (by_handle 9)
    ∷ row true 51 52 (by_handle 9)
    ∷ row true 51 51 too_long
    ∷ row false 58 58 (whole 52)
    ∷ row false 57 4096 too_long
    ∷ [])
unfolding computed
answers_by_chunks = refl

-- In a session nothing stands round it. MEASUREMENTS without blocks has 42 bytes, and more with opaque data.
abbrev with_opaque : ℕ → Free
with_opaque n = record free { measured_opaque = replicate n 0; handle = 9 }

abbrev in_session : SizeRow → Place
in_session s = session_place (opened_with (settled s))

answers_in_session : AreAnswered in_session (get_measurements 0) (with_opaque 0) (
    row true 42 4096 (whole 42)
    ∷ row false 42 42 (whole 42)
    ∷ [])
unfolding computed
answers_in_session = refl

longer_answers_in_session : AreAnswered in_session (get_measurements 0) (with_opaque 1) (
    row true 43 4096 (whole 43)
    ∷ row true 42 4096 (by_handle 9)
    ∷ row true 42 43 (by_handle 9)
    ∷ row true 42 42 too_long
    ∷ row false 43 43 (whole 43)
    ∷ row false 42 42 too_long
    ∷ [])
unfolding computed
longer_answers_in_session = refl

-- The two measurements have 8 and 9 bytes.
all_measurements_in_session : AreAnswered in_session (get_measurements 255) (with_opaque 0) (
    row true 59 4096 (whole 59)
    ∷ row true 58 4096 (by_handle 9)
    ∷ row true 42 58 too_long
    ∷ [])
unfolding computed
all_measurements_in_session = refl

-- No message passes 4,096 bytes, whatever the requester tells.
answers_of_4096_bytes : AreAnswered in_session (get_measurements 0) (with_opaque 4054) (
    row true 5000 5000 (whole 4096)
    ∷ row false 5000 5000 (whole 4096)
    ∷ row true 4095 5000 (by_handle 9)
    ∷ [])
unfolding computed
answers_of_4096_bytes = refl

answers_of_4097_bytes : AreAnswered in_session (get_measurements 0) (with_opaque 4055) (
    row true 5000 5000 too_long
    ∷ row false 5000 5000 too_long
    ∷ row true 1024 5000 too_long
    ∷ [])
unfolding computed
answers_of_4097_bytes = refl

-- Nor does an acknowledgement, with its six bytes round the answer.
abbrev carried : SizeRow → Place
carried s = inside (clear_with Negotiated [] (settled s))

acknowledged_with_4096_bytes : AreAnswered carried (get_measurements 0) (with_opaque 4048) (row true 5000 5000 (whole 4090) ∷ [])
unfolding computed
acknowledged_with_4096_bytes = refl

acknowledged_with_4097_bytes : AreAnswered carried (get_measurements 0) (with_opaque 4049) (row true 5000 5000 (by_handle 9) ∷ [])
unfolding computed
acknowledged_with_4097_bytes = refl

-- Nor does a chunk: to a requester that tells 4,100 the first CHUNK_RESPONSE of a longer answer has 4,096 bytes.
pending : SizeRow → Place
pending s = clear_with Negotiated (took (GetMeasurements 0) (replicate 4091 0) (Some 9) ∷ []) (settled s)

chunk_of_4096_bytes : AreAnswered pending (chunk_get 9 0) free (row true 4100 4100 (whole 4096) ∷ row true 4095 4100 (whole 4095) ∷ [])
unfolding computed pending
chunk_of_4096_bytes = refl

-- ---- Before phase Capable no size of the requester is tested.

before_sizes_in_fresh : way_of (turn_of setup fresh get_version free) ≡ whole 8
unfolding computed
before_sizes_in_fresh = refl

before_sizes_in_versioned : way_of (turn_of setup versioned get_capabilities free) ≡ whole 20
unfolding computed
before_sizes_in_versioned = refl
