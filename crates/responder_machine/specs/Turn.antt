-- One message that a responder handled at a place, and what it led to.
use Rattle.std.specs.Prelude.{◌==◌, ◌||◌, ℕ, List, [], Bool, true, false, Option, Some, None, is_none, option_map}
use Rattle.spdm_grammar.specs.Codes.{code_for}
use Rattle.spdm_grammar.specs.Message.{RequestMessage, ChunkMessage}
use Rattle.spdm_grammar.specs.Message.RequestMessage.{KeyUpdate}
use Rattle.spdm_grammar.specs.declared.messages.error_code.ErrorCode.{ErrorCode}
use Rattle.spdm_grammar.specs.declared.names.request_code.TheConstants.{GET_MEASUREMENTS, PSK_EXCHANGE}

-- What took effect: nothing; a request, as a value and as its bytes, with its whole answer, and with the handle of the
-- ERROR LargeResponse by which the answer went, where it went so; application data, with the application data sent in
-- answer. A request is the message itself, or the large one that it completed.
pub data Effect : Type 0 where
  NoEffect : Effect
  Took : (asked : RequestMessage) → (request : List ℕ) → (answer : List ℕ) → (large : Option ℕ) → Effect
  TookData : (bytes : List ℕ) → (answer : List ℕ) → Effect

-- A message as it came (in a session without its type byte), the error code with which it was refused, the chunk of a
-- large request that it was, where it was one and was taken, what took effect, and the message that was sent.
pub record Turn : Type 0 where
  pub message : List ℕ
  pub refused : Option ErrorCode
  pub chunk : Option ChunkMessage
  pub effect : Effect
  pub reply : List ℕ

-- The code of the request that took effect, and 0 where none did.
abbrev pub code_in : Effect → ℕ
code_in NoEffect = 0
code_in (Took asked request answer large) = code_for asked
code_in (TookData bytes answer) = 0

-- The bytes of the request, or the application data; none where nothing took effect.
abbrev pub request_in : Effect → List ℕ
request_in NoEffect = []
request_in (Took asked request answer large) = request
request_in (TookData bytes answer) = bytes

-- The bytes of its whole answer, or the application data sent in answer; none where nothing took effect.
abbrev pub answer_in : Effect → List ℕ
answer_in NoEffect = []
answer_in (Took asked request answer large) = answer
answer_in (TookData bytes answer) = answer

-- The request as a value.
abbrev pub asked_in : Effect → Option RequestMessage
asked_in NoEffect = None
asked_in (Took asked request answer large) = Some asked
asked_in (TookData bytes answer) = None

-- The handle of the LargeResponse by which the answer went; none where it did not go so.
abbrev pub handle_in : Effect → Option ℕ
handle_in NoEffect = None
handle_in (Took asked request answer large) = large
handle_in (TookData bytes answer) = None

-- The answer that went by LargeResponse; none where it did not go so.
abbrev pub large_in : Effect → Option (List ℕ)
large_in NoEffect = None
large_in (Took asked request answer large) = option_map (λ handle. answer) large
large_in (TookData bytes answer) = None

-- It is application data that took effect.
abbrev pub is_data : Effect → Bool
is_data NoEffect = false
is_data (Took asked request answer large) = false
is_data (TookData bytes answer) = true

-- The message was not refused.
abbrev pub is_taken : Turn → Bool
is_taken t = is_none t.refused

-- A request with this code took effect.
abbrev pub takes : ℕ → Turn → Bool
takes code t = code_in t.effect == code

-- KEY_UPDATE took effect with this operation: 1 UpdateKey, 2 UpdateAllKeys, 3 VerifyNewKey.
abbrev pub updates : ℕ → Turn → Bool
updates operation t = is_update operation (asked_in t.effect)
  where
    is_update : ℕ → Option RequestMessage → Bool
    is_update operation (Some (KeyUpdate op tag)) = op == operation
    is_update operation _ = false

-- A draw was taken: for the context of a PSK_EXCHANGE_RSP, or for the nonce of MEASUREMENTS.
abbrev pub takes_draw : Turn → Bool
takes_draw t = takes PSK_EXCHANGE t || takes GET_MEASUREMENTS t
