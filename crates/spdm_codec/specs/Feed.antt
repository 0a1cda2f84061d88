-- A message that comes in pieces. This project's own.
use Rattle.std.specs.Prelude.{ℕ, List, Option}
use Rattle.spdm_grammar.specs.declared.messages.malformed.Malformed.{Malformed}
use Rattle.spdm_grammar.specs.Requests.{request_fault}
use Rattle.spdm_grammar.specs.Responses.{response_fault}
use Rattle.spdm_codec.specs.declared.expect.Expect.{Expect}
use Rattle.spdm_codec.specs.declared.expect.Expect.TheVariants.{Request, Response}

-- What is awaited, and the bytes that came.
pub record Fed : Type 0 where
  pub expect : Expect
  pub bytes : List ℕ

-- The first fault of bytes that encode no message of the expected kind.
abbrev pub fault_in : Expect → List ℕ → Option Malformed
fault_in (Request hash_len) bytes = request_fault hash_len bytes
fault_in (Response hash_len summary) bytes = response_fault hash_len summary bytes

-- A request is awaited.
abbrev pub AwaitsRequest : Expect → Type 0
AwaitsRequest (Request hash_len) = Unit {0}
AwaitsRequest (Response hash_len summary) = ⊥

-- A response is awaited.
abbrev pub AwaitsResponse : Expect → Type 0
AwaitsResponse (Request hash_len) = ⊥
AwaitsResponse (Response hash_len summary) = Unit {0}
