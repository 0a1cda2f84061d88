-- The fields of a response that bytes encode take as many bytes as there are; so do those of a record.
use Rattle.std.proofs.Common.{ℕ, Bool, arith}
use Rattle.spdm_grammar.specs.Layout.Layout.{Whole, Bytes, UpTo}
use Rattle.spdm_grammar.specs.Message.{ResponseMessage}
use Rattle.spdm_grammar.specs.Message.ResponseMessage.{Capabilities, ChunkResponse, Error}
use Rattle.spdm_grammar.specs.Responses.{response_layout, response_body, version_layout, capabilities_layout, algorithms_layout, measurements_layout, psk_exchange_rsp_layout, psk_finish_rsp_layout, heartbeat_ack_layout, key_update_ack_layout, end_session_ack_layout, chunk_send_ack_layout, chunk_response_layout, error_layout}
use Rattle.message_fields.specs.Covering.{RecordsAreCovered, ResponsesAreCovered, size_of}
use Rattle.message_fields.specs.Tables.{response_fields}
use Rattle.message_fields.proofs.Covering.{HasEnds, caps_ends, chunk_ends, either_ends, size_at_end}

abbrev size : ResponseMessage → ℕ
size response = size_of (response_fields response)

version : HasEnds size version_layout 2
unfolding version_layout
version = record { are = λ _ _ count entries long. omega (arith, long) }

capabilities : HasEnds size capabilities_layout 2
unfolding capabilities_layout
capabilities = record { are = caps_ends size Capabilities (λ caps. omega arith) }

algorithms : HasEnds size algorithms_layout 2
unfolding algorithms_layout
algorithms = record {
  are = λ count _ _ told measurement other measurement_hash asym hash _ _ asyms hashes _ _ ext_asym asym_long ext_hash hash_long tables. omega (arith, asym_long, hash_long);
}

measurements : HasEnds size measurements_layout 2
unfolding measurements_layout
measurements = record {
  are = λ total _ _ blocks record_len block_bytes record_long nonce nonce_long opaque_len opaque opaque_long. omega (arith, record_long, nonce_long, opaque_long);
}

psk_exchange_rsp : (hash_len : ℕ) (has_summary : Bool) → HasEnds size (psk_exchange_rsp_layout hash_len has_summary) 2
unfolding psk_exchange_rsp_layout
psk_exchange_rsp hash_len has_summary = record {
  are = λ heartbeat _ _ id _ _ context_len opaque_len summary summary_long context context_long opaque opaque_long verify verify_long. omega (arith, summary_long, context_long, opaque_long, verify_long);
}

psk_finish_rsp : HasEnds size psk_finish_rsp_layout 2
unfolding psk_finish_rsp_layout
psk_finish_rsp = record { are = λ _ _. omega arith }

heartbeat_ack : HasEnds size heartbeat_ack_layout 2
unfolding heartbeat_ack_layout
heartbeat_ack = record { are = λ _ _. omega arith }

key_update_ack : HasEnds size key_update_ack_layout 2
unfolding key_update_ack_layout
key_update_ack = record { are = λ op tag. omega arith }

end_session_ack : HasEnds size end_session_ack_layout 2
unfolding end_session_ack_layout
end_session_ack = record { are = λ _ _. omega arith }

chunk_send_ack : HasEnds size chunk_send_ack_layout 2
unfolding chunk_send_ack_layout
chunk_send_ack = record { are = λ attributes handle number answer. omega arith }

chunk_response : HasEnds size chunk_response_layout 2
unfolding chunk_response_layout
chunk_response = record { are = chunk_ends size ChunkResponse (λ chunk. omega arith) }

-- extended error data of so many bytes, and of any number
error_sized : (version code detail count : ℕ) → HasEnds size (Bytes count (λ extended. Whole (Error version code detail extended))) 4
error_sized version code detail count = record { are = λ extended long. omega (arith, long) }

error_any : (version code detail : ℕ) → HasEnds size (UpTo 32 (λ extended. Error version code detail extended)) 4
error_any version code detail = record { are = λ extended. omega arith }

error : (version : ℕ) → HasEnds size (error_layout version) 2
unfolding error_layout
error version = record {
  are = λ code detail. (either_ends {size = size} {at = 4} _ (error_sized version code detail 4) (either_ends _ (error_sized version code detail 1) (error_any version code detail))).are;
}

body : (hash_len : ℕ) (has_summary : Bool) (version_number code : ℕ) → HasEnds size (response_body hash_len has_summary version_number code) 2
unfolding response_body
body hash_len has_summary version_number code =
    either_ends _ version
    (either_ends _ (error version_number)
    (either_ends _ capabilities
    (either_ends _ algorithms
    (either_ends _ measurements
    (either_ends _ (psk_exchange_rsp hash_len has_summary)
    (either_ends _ psk_finish_rsp
    (either_ends _ heartbeat_ack
    (either_ends _ key_update_ack
    (either_ends _ end_session_ack
    (either_ends _ chunk_send_ack
    chunk_response))))))))))

pub responses_covered : ResponsesAreCovered
responses_covered hash_len has_summary response bytes spelled =
    let e = size_at_end size (response_layout hash_len has_summary) 0 response bytes (λ number code. (body hash_len has_summary number code).are) spelled in
    omega (arith, e)

pub records_covered : RecordsAreCovered
records_covered count long = omega (arith, long)
