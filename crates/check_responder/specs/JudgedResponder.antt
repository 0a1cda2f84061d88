-- What is kept of the responder towards one requester, and what the program reads off an answer. This project's own.
use Rattle.std.specs.Prelude.{◌≡◌, ◌<◌, ◌≤◌, ◌^◌, ◌==◌, ◌&&◌, ◌||◌, ◌⊎◌, not, nat_le, Bool, ℕ, List, [], ◌∷◌, length, Option, Some, None, MatchOption, slice_index}
use Rattle.responder_core.specs.Connected as connected
use Rattle.responder_core.specs.Free.{IsFree}
use Rattle.responder_core.specs.declared.free_values.FreeValues.{FreeValues}
use Rattle.responder_machine.specs.Answer.{Free, answer_bytes, exchange_answer, measurements_answer}
use Rattle.responder_machine.specs.History.{History}
use Rattle.responder_machine.specs.May.{with_dropped}
use Rattle.responder_machine.specs.Place.{Place, held_of, is_held, place_terms}
use Rattle.responder_machine.specs.Responder.{after}
use Rattle.responder_machine.specs.Setup.{RspSetup}
use Rattle.spdm_grammar.specs.Fields.{zeros}
use Rattle.spdm_grammar.specs.Message.{RequestMessage, ResponseMessage}
use Rattle.spdm_grammar.specs.Message.RequestMessage.{GetMeasurements, PskExchange}
use Rattle.spdm_grammar.specs.Message.ResponseMessage.{Measurements, PskExchangeRsp}
use Rattle.spdm_grammar.specs.Responses.{canonical_response}
use Rattle.spdm_grammar.specs.declared.names.TheConstants.{MAX_APP_DATA_LEN, MAX_MESSAGE_SIZE, MAX_OPAQUE_LEN, MAX_PADDING}
use Rattle.spdm_grammar.specs.declared.names.error_number.TheConstants.{LARGE_RESPONSE}
use Rattle.spdm_grammar.specs.declared.names.response_code.TheConstants.{ERROR}
use Rattle.spdm_machine.specs.Terms.{hash_len}
use Rattle.check_laws.specs.DropsShown.{drops_shown_by, outcome_shown}
use Rattle.check_responder.specs.declared.judged_responder.JudgedResponder.{JudgedResponder}

-- ---- Lengths.

-- The length of an answer in which values are free; 0 for any other.
abbrev pub free_length : RspSetup → Place → List ℕ → Free → RequestMessage → ℕ
free_length r p m f (PskExchange exchange) = length (canonical_response (exchange_answer r p m f exchange))
free_length r p m f (GetMeasurements op) = length (canonical_response (measurements_answer r f op))
free_length r p m f _ = 0

-- The response is LargeResponse.
abbrev pub shows_large : (response : List ℕ) → Bool
shows_large response = slice_index response 1 == ERROR && slice_index response 2 == LARGE_RESPONSE

-- ---- Values that are allowed.

-- The id may be given to a session.
abbrev pub is_unused : History → ℕ → Bool
is_unused h id = held_of h == 4 || not (is_held h id)

-- The id is one from 1 to 4.
abbrev pub is_id : ℕ → Bool
is_id id = nat_le 1 id && nat_le id 4

-- The application data and the padding of a record have no more bytes than these.
abbrev pub are_few : (reply pad : List ℕ) → Bool
are_few reply pad = nat_le (length reply) MAX_APP_DATA_LEN && nat_le (length pad) MAX_PADDING

-- The test of the values whose bounds no type of the program has.
abbrev pub are_allowed : History → Place → Free → Bool
are_allowed h p f = is_id f.id && (is_unused h f.id && (nat_le (hash_len (place_terms p)) (length f.context) && are_few f.reply f.pad))

-- The bounds that the types of the program have.
pub record AreBounded (f : Free) : Type 0 where
  pub exchange_opaque : length f.exchange_opaque ≤ MAX_OPAQUE_LEN
  pub nonce : length f.nonce ≡ 32
  pub measured_opaque : length f.measured_opaque ≤ MAX_OPAQUE_LEN
  pub handle : f.handle < 256

-- ---- Values that are shown.

-- The fields of a response that show values have no more bytes than these.
abbrev pub HasShortFields : ResponseMessage → Type 0
HasShortFields (PskExchangeRsp rsp) = (length rsp.context < 2 ^ 16) × (length rsp.opaque ≤ MAX_OPAQUE_LEN)
HasShortFields (Measurements measured) = (length measured.nonce ≡ 32) × (length measured.opaque ≤ MAX_OPAQUE_LEN)
HasShortFields _ = Unit {0}

-- Of these values no more is set than the shortest that is allowed.
pub record AreShort (p : Place) (f : Free) : Type 0 where
  pub context : f.context ≡ zeros (hash_len (place_terms p))
  pub measured_opaque : f.measured_opaque ≡ []
  pub nonce : length f.nonce ≡ 32

-- An answer at a place that has these values is too long, or its opaque data are.
abbrev pub AreTooLong : RspSetup → Place → List ℕ → Free → Type 0
AreTooLong r p m f = (MAX_MESSAGE_SIZE < length (answer_bytes r p m f)) ⊎ (MAX_OPAQUE_LEN < length f.measured_opaque)

-- A context like this, or one of more than 4,096 bytes.
abbrev pub IsLongerContext : Free → Option FreeValues → Type 0
IsLongerContext f None = MAX_MESSAGE_SIZE < length f.context
IsLongerContext f (Some values) = IsFree values f

-- Opaque data like these, or of more than 1,024 bytes.
abbrev pub IsLongerOpaque : Free → Option FreeValues → Type 0
IsLongerOpaque f None = MAX_OPAQUE_LEN < length f.measured_opaque
IsLongerOpaque f (Some values) = IsFree values f

-- Values that are free in the answer to a request, or longer ones than any answer has.
abbrev pub AreLonger : RequestMessage → Free → Option FreeValues → Type 0
AreLonger (PskExchange exchange) f result = IsLongerContext f result
AreLonger (GetMeasurements op) f result = IsLongerOpaque f result
AreLonger _ f result = MatchOption result ⊥ (λ values. IsFree values f)

-- These values are shown, or ones that are too long.
abbrev pub AreRead : RspSetup → Place → List ℕ → Free → Option FreeValues → Type 0
AreRead r p m f None = AreTooLong r p m f
AreRead r p m f (Some values) = IsFree values f

-- ---- What is kept.

-- It is kept of the responder of this set-up, with this history towards the requester.
abbrev pub IsAnswerer : JudgedResponder → RspSetup → History → Type 0
IsAnswerer seen r h = connected.StandsFor seen.connection r h

-- ---- What an answer shows.

-- The history after an answer that is shown so.
abbrev pub history_shown : RspSetup → History → ℕ → (body answer : List ℕ) → History
history_shown r h tag body answer = after (with_dropped h (drops_shown_by r h tag body answer)) (outcome_shown r h tag body answer)

-- The session that was dropped, one or none.
abbrev pub IsDropped : (ids : List ℕ) → Option ℕ → Type 0
IsDropped ids None = ids ≡ []
IsDropped ids (Some id) = ids ≡ id ∷ []
