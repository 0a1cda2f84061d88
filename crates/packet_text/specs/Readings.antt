-- How the bytes of a message in the clear are read, of which no session is known: with hashes of 32 bytes or of 48, and
-- with a measurement summary hash or without. This project's own.
use Rattle.std.specs.Prelude.{ℕ, List, Bool, true, false, is_ok, if◌then◌else◌}
use Rattle.spdm_grammar.specs.Requests.{request_reading}
use Rattle.spdm_grammar.specs.Responses.{response_reading}
use Rattle.packet_text.specs.declared.readings.Lengths.{Lengths}

abbrev pub lengths : ℕ → Bool → Lengths
lengths hash_len has_summary = record { hash_len = hash_len; has_summary = has_summary }

-- The length of a hash under which bytes are read as a request: 32, unless they are one with 48 alone.
unfoldable pub request_hash : List ℕ → ℕ
request_hash bytes =
    if is_ok (request_reading 32 bytes) then 32
    else (if is_ok (request_reading 48 bytes) then 48
    else 32)

-- What decides how bytes are read as a response: the first of these four under which they are one, and the first of all
-- where they are none.
unfoldable pub response_lengths : List ℕ → Lengths
response_lengths bytes =
    if is_ok (response_reading 32 false bytes) then lengths 32 false
    else (if is_ok (response_reading 48 false bytes) then lengths 48 false
    else (if is_ok (response_reading 32 true bytes) then lengths 32 true
    else (if is_ok (response_reading 48 true bytes) then lengths 48 true
    else lengths 32 false)))
