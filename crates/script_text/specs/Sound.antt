-- Which configurations and events are read back as they are printed: those in which each number and each list of bytes
-- is in its range, nothing is said twice, and events are on lines one after the other. This project's own.
use Rattle.std.specs.Prelude.{ℕ, List, [], ◌∷◌, ◌++◌, ◌+◌, ◌<◌, ◌≡◌, ◌==◌, ◌&&◌, ◌||◌, ◌^◌, not, nat_le, nat_lt, length, Bool, true, Option, Some, None}
use Rattle.std.specs.List.{list_all}
use Rattle.spdm_grammar.specs.declared.told.block_spec.BlockSpec.{BlockSpec}
use Rattle.spdm_grammar.specs.declared.messages.choice.FlagSet.{FlagSet}
use Rattle.spdm_grammar.specs.declared.names.TheConstants.{MAX_MESSAGE_SIZE, MAX_OPAQUE_LEN, MIN_DATA_TRANSFER_SIZE}
use Rattle.script_text.specs.Configuring.{has_block, requester_has_eid, has_psk}
use Rattle.script_text.specs.Measured.{block_size, sizes_of}
use Rattle.script_text.specs.declared.configuration.config.ReqPart.{ReqPart}
use Rattle.script_text.specs.declared.configuration.config.RspPart.{RspPart}
use Rattle.script_text.specs.declared.configuration.config.ScriptConfig.{ScriptConfig}
use Rattle.script_text.specs.declared.events.event.Entry.{Entry}
use Rattle.script_text.specs.declared.events.event.LinkEvent.{LinkEvent}
use Rattle.script_text.specs.declared.events.event.LinkEvent.TheVariants as event

-- A number is in a range.
abbrev pub is_within : (low high n : ℕ) → Bool
is_within low high n = nat_le low n && nat_le n high

-- Numbers of a list are bytes.
abbrev pub are_bytes : List ℕ → Bool
are_bytes bytes = list_all (λ b. nat_lt b 256) bytes

-- Bytes that fit into a word.
abbrev pub fits_word : List ℕ → Bool
fits_word bytes = are_bytes bytes && nat_le (length bytes) 8000

-- A place where measurements are asked for.
abbrev pub is_sound_place : Option ℕ → Bool
is_sound_place None = true
is_sound_place (Some session) = is_within 1 4 session

-- An event is in range where `requesters` are configured.
abbrev pub is_sound_event : (requesters : ℕ) → LinkEvent → Bool
is_sound_event n (event.Connect q) = is_within 1 n q
is_sound_event n (event.Retry q) = is_within 1 n q
is_sound_event n (event.Open q summary) = is_within 1 n q && (summary == 0 || summary == 1 || summary == 255)
is_sound_event n (event.Send q session bytes) = is_within 1 n q && is_within 1 4 session && fits_word bytes
is_sound_event n (event.Beat q session) = is_within 1 n q && is_within 1 4 session
is_sound_event n (event.End q session) = is_within 1 n q && is_within 1 4 session
is_sound_event n (event.Update q session all) = is_within 1 n q && is_within 1 4 session
is_sound_event n (event.Measure q session op) = is_within 1 n q && is_sound_place session && nat_le op 255
is_sound_event n (event.Reply q bytes) = is_within 1 n q && fits_word bytes
is_sound_event n (event.Deliver number) = nat_lt number (2 ^ 32)
is_sound_event n (event.Lose number) = nat_lt number (2 ^ 32)
is_sound_event n (event.Inject bytes) = fits_word bytes
is_sound_event n (event.Pump count) = nat_le count 65536
is_sound_event n (event.Tick seconds) = nat_le seconds 1000000
is_sound_event n event.Show = true

-- Events in range.
abbrev pub are_sound_events : (requesters : ℕ) → List Entry → Bool
are_sound_events n entries = list_all (λ (e : Entry). is_sound_event n e.event) entries

-- Events stand on lines one after the other, of which the first has this number.
abbrev pub AreNumbered : ℕ → List Entry → Type 0
AreNumbered number [] = Unit {0}
AreNumbered number (e ∷ entries) = (e.line ≡ number) × AreNumbered (number + 1) entries

-- ---- Configurations.

-- As many bytes as these.
abbrev pub are_bytes_in : (low high : ℕ) → List ℕ → Bool
are_bytes_in low high bytes = are_bytes bytes && is_within low high (length bytes)

-- The sizes of an end, a number of its own of at most `limit`, and its capabilities.
abbrev pub is_sound_end : (limit transfer max unit own : ℕ) → FlagSet → Bool
is_sound_end limit transfer max unit own flags =
    is_within MIN_DATA_TRANSFER_SIZE MAX_MESSAGE_SIZE transfer
    && is_within transfer MAX_MESSAGE_SIZE max
    && is_within 64 1024 unit
    && nat_le own limit
    && (flags.chunk || nat_le max transfer)

abbrev pub is_sound_responder : RspPart → Bool
is_sound_responder r = is_sound_end 255 r.transfer r.max r.unit r.beat r.flags && are_bytes_in 0 1024 r.opaque

abbrev pub is_sound_requester : ReqPart → Bool
is_sound_requester q =
    is_sound_end 16 q.transfer q.max q.unit q.pad q.flags
    && are_bytes_in 0 64 q.hint
    && are_bytes_in 1 64 q.psk
    && are_bytes_in 0 MAX_OPAQUE_LEN q.opaque

abbrev pub is_sound_block : BlockSpec → Bool
is_sound_block b = is_within 1 254 b.index && nat_le b.value_type 255 && fits_word b.value

-- Blocks after others: each has an index of its own, and all together fit into a record.
abbrev pub are_sound_blocks : (before blocks : List BlockSpec) → Bool
are_sound_blocks before [] = true
are_sound_blocks before (b ∷ blocks) =
    is_sound_block b
    && not (has_block b.index before)
    && nat_le (sizes_of before + block_size b) 4054
    && are_sound_blocks (before ++ b ∷ []) blocks

-- Requesters after others: at most eight, each with an endpoint, which is not that of the responder either, and a
-- pre-shared key of its own.
abbrev pub are_sound_requesters : (responder : ℕ) → (before requesters : List ReqPart) → Bool
are_sound_requesters responder before [] = true
are_sound_requesters responder before (q ∷ requesters) =
    is_sound_requester q
    && nat_lt (length before) 8
    && not (responder == q.eid.number || requester_has_eid q.eid.number before)
    && not (has_psk q.psk before)
    && are_sound_requesters responder (before ++ q ∷ []) requesters

-- A configuration with a seed.
pub record IsSoundConfig (config : ScriptConfig) : Type 0 where
  pub seed_bytes : List ℕ
  pub seed : config.seed ≡ Some seed_bytes
  pub seed_size : are_bytes_in 32 32 seed_bytes ≡ true
  pub responder : is_sound_responder config.responder ≡ true
  pub blocks : are_sound_blocks [] config.blocks ≡ true
  pub some : 0 < length config.requesters
  pub requesters : are_sound_requesters config.responder.eid.number [] config.requesters ≡ true
