-- The fields of a request that bytes encode take as many bytes as there are.
use Rattle.std.proofs.Common.{ℕ, arith}
use Rattle.spdm_grammar.specs.Message.{RequestMessage}
use Rattle.spdm_grammar.specs.Message.RequestMessage.{GetCapabilities, ChunkSend}
use Rattle.spdm_grammar.specs.Requests.{request_layout, request_body, get_version_layout, get_capabilities_layout, negotiate_algorithms_layout, get_measurements_layout, psk_exchange_layout, psk_finish_layout, heartbeat_layout, key_update_layout, end_session_layout, chunk_send_layout, chunk_get_layout}
use Rattle.message_fields.specs.Covering.{RequestsAreCovered, size_of}
use Rattle.message_fields.specs.Tables.{request_fields}
use Rattle.message_fields.proofs.Covering.{HasEnds, caps_ends, chunk_ends, either_ends, size_at_end}

abbrev size : RequestMessage → ℕ
size request = size_of (request_fields request)

get_version : HasEnds size get_version_layout 2
unfolding get_version_layout
get_version = record { are = λ _ _. omega arith }

get_capabilities : HasEnds size get_capabilities_layout 2
unfolding get_capabilities_layout
get_capabilities = record { are = caps_ends size GetCapabilities (λ caps. omega arith) }

negotiate_algorithms : HasEnds size negotiate_algorithms_layout 2
unfolding negotiate_algorithms_layout
negotiate_algorithms = record {
  are = λ count _ _ told measurement other asym hash _ _ asyms hashes _ _ ext_asym asym_long ext_hash hash_long tables. omega (arith, asym_long, hash_long);
}

get_measurements : HasEnds size get_measurements_layout 2
unfolding get_measurements_layout
get_measurements = record { are = λ attributes op. omega arith }

psk_exchange : (hash_len : ℕ) → HasEnds size (psk_exchange_layout hash_len) 2
unfolding psk_exchange_layout
psk_exchange hash_len = record {
  are = λ summary _ _ id hint_len context_len opaque_len hint hint_long context context_long opaque opaque_long. omega (arith, hint_long, context_long, opaque_long);
}

psk_finish : (hash_len : ℕ) → HasEnds size (psk_finish_layout hash_len) 2
unfolding psk_finish_layout
psk_finish hash_len = record { are = λ _ _ verify long. omega (arith, long) }

heartbeat : HasEnds size heartbeat_layout 2
unfolding heartbeat_layout
heartbeat = record { are = λ _ _. omega arith }

key_update : HasEnds size key_update_layout 2
unfolding key_update_layout
key_update = record { are = λ op tag. omega arith }

end_session : HasEnds size end_session_layout 2
unfolding end_session_layout
end_session = record { are = λ _ _. omega arith }

chunk_send : HasEnds size chunk_send_layout 2
unfolding chunk_send_layout
chunk_send = record { are = chunk_ends size ChunkSend (λ chunk. omega arith) }

chunk_get : HasEnds size chunk_get_layout 2
unfolding chunk_get_layout
chunk_get = record { are = λ _ _ handle number. omega arith }

body : (hash_len code : ℕ) → HasEnds size (request_body hash_len code) 2
unfolding request_body
body hash_len code =
    either_ends _ get_version
    (either_ends _ get_capabilities
    (either_ends _ negotiate_algorithms
    (either_ends _ get_measurements
    (either_ends _ (psk_exchange hash_len)
    (either_ends _ (psk_finish hash_len)
    (either_ends _ heartbeat
    (either_ends _ key_update
    (either_ends _ end_session
    (either_ends _ chunk_send
    chunk_get)))))))))

pub requests_covered : RequestsAreCovered
requests_covered hash_len request bytes spelled =
    let e = size_at_end size (request_layout hash_len) 0 request bytes (λ version code. (body hash_len code).are) spelled in
    omega (arith, e)
