-- What a responder took from one requester, and what of it is counted for the whole connection.
use Rattle.std.specs.Prelude.{◌||◌, ◌+◌, ℕ, List, [], ◌∷◌, ◌++◌, drop, if◌then◌else◌, Option, Some, None}
use Rattle.spdm_grammar.specs.declared.told.phase.Phase.{Phase}
use Rattle.spdm_grammar.specs.declared.told.phase.Phase.TheVariants.{Fresh, Versioned, Capable, Negotiated}
use Rattle.spdm_machine.specs.Keys.{Draw}
use Rattle.spdm_machine.specs.Terms.{no_negotiation}
use Rattle.responder_machine.specs.Turn.{Turn, is_taken, takes, takes_draw, is_data, request_in, answer_in}
use Rattle.transcript.specs.Transcripts.{Negotiation}
use Rattle.spdm_grammar.specs.declared.names.request_code.TheConstants.{GET_VERSION, GET_CAPABILITIES, NEGOTIATE_ALGORITHMS, PSK_EXCHANGE, END_SESSION}

-- What came: a clear message with its tag; a record with its tag, the turn of what was sealed in it, and the record
-- sent in answer; application data queued for the requester; seconds that passed. Each message stands with the draw
-- that stood next. In the history of a capture alone there are sessions that were dropped without a trace.
pub data Entry : Type 0 where
  Clear : (tag : ℕ) → (turn : Turn) → (draw : Draw) → Entry
  Sealed : (tag : ℕ) → (sealed : List ℕ) → (turn : Turn) → (reply : List ℕ) → (draw : Draw) → Entry
  Queued : (bytes : List ℕ) → Entry
  Ticked : (seconds : ℕ) → Entry
  Dropped : (id : ℕ) → Entry

-- All that was taken, from the first moment on. In every list of entries the newest stands first.
abbrev pub History : Type 0
History = List Entry

-- ---- The clear part of the connection.

-- The turns of the clear messages, the newest first.
abbrev pub clear_turns : History → List Turn
clear_turns [] = []
clear_turns (Clear tag t d ∷ older) = t ∷ clear_turns older
clear_turns (_ ∷ older) = clear_turns older

-- The last of three requests that was taken (DSP0274, "Message exchanges").
abbrev pub phase_of : List Turn → Phase
phase_of [] = Fresh
phase_of (t ∷ older) =
    if takes GET_VERSION t then Versioned
    else (if takes GET_CAPABILITIES t then Capable
    else (if takes NEGOTIATE_ALGORITHMS t then Negotiated
    else phase_of older))

-- The messages of the negotiation from the last GET_VERSION on, each whole, as they were sent.
abbrev pub negotiation_of : List Turn → Negotiation
negotiation_of [] = no_negotiation
negotiation_of (t ∷ older) =
    if takes GET_VERSION t then record no_negotiation { get_version = request_in t.effect; version = answer_in t.effect }
    else (if takes GET_CAPABILITIES t then record (negotiation_of older) { get_capabilities = request_in t.effect; capabilities = answer_in t.effect }
    else (if takes NEGOTIATE_ALGORITHMS t then record (negotiation_of older) { negotiate_algorithms = request_in t.effect; algorithms = answer_in t.effect }
    else negotiation_of older))

-- A clear request with its tag, and its reply.
pub record Kept : Type 0 where
  pub tag : ℕ
  pub message : List ℕ
  pub reply : List ℕ

-- The last clear request that was not refused.
abbrev pub kept_of : History → Option Kept
kept_of [] = None
kept_of (Clear tag t d ∷ older) = if is_taken t then Some (record { tag = tag; message = t.message; reply = t.reply }) else kept_of older
kept_of (_ ∷ older) = kept_of older

-- ---- The connection.

-- Application data that waits to be an answer, the oldest first. Each application data taken uses one up.
abbrev pub queue_of : History → List (List ℕ)
queue_of [] = []
queue_of (Queued bytes ∷ older) = queue_of older ++ bytes ∷ []
queue_of (Sealed tag m t reply d ∷ older) = if is_data t.effect then drop 1 (queue_of older) else queue_of older
queue_of (_ ∷ older) = queue_of older

-- A record, and the record sent in answer.
pub record KeptRecord : Type 0 where
  pub sealed : List ℕ
  pub reply : List ℕ

-- The last record of the one ended session that is kept: its END_SESSION, until the next PSK_EXCHANGE,
-- GET_VERSION or END_SESSION is taken.
abbrev pub ended_of : History → Option KeptRecord
ended_of [] = None
ended_of (Clear tag t d ∷ older) = if takes GET_VERSION t || takes PSK_EXCHANGE t then None else ended_of older
ended_of (Sealed tag m t reply d ∷ older) = if takes END_SESSION t then Some (record { sealed = m; reply = reply }) else ended_of older
ended_of (_ ∷ older) = ended_of older

-- How many draws the connection took.
abbrev pub draws_of : History → ℕ
draws_of [] = 0
draws_of (Clear tag t d ∷ older) = if takes_draw t then draws_of older + 1 else draws_of older
draws_of (Sealed tag m t reply d ∷ older) = if takes_draw t then draws_of older + 1 else draws_of older
draws_of (_ ∷ older) = draws_of older

-- How many application messages were taken.
abbrev pub all_taken : History → ℕ
all_taken [] = 0
all_taken (Sealed tag m t reply d ∷ older) = if is_data t.effect then all_taken older + 1 else all_taken older
all_taken (_ ∷ older) = all_taken older
