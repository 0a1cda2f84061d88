-- The canonical encoding of a sound response is an encoding of it.
use Rattle.std.proofs.Common.{◌≡◌, ◌<◌, ◌^◌, ℕ, ◌+◌, ◌*◌, ◌/◌, Bool, cond, eqb, List, [], ◌∷◌, ◌++◌, length, refl, sym, ap, subst, append_assoc, arith, inl, inr}
use Rattle.std.proofs.lemmas.Bool.{le-leb, eqb-true}
use Rattle.std.proofs.lemmas.List.{append-nil}
use Rattle.byteorder.specs.Endian.{little_bytes}
use Rattle.spdm_grammar.specs.Message.{ResponseMessage, ReplyMessage, ExchangeRspMessage, MeasuredMessage}
use Rattle.spdm_grammar.specs.Message.ResponseMessage.{Version, Capabilities, Algorithms, Measurements, PskExchangeRsp, PskFinishRsp, HeartbeatAck, KeyUpdateAck, EndSessionAck, ChunkSendAck, ChunkResponse, Error}
use Rattle.spdm_grammar.specs.Responses.{response_layout, response_body, version_layout, capabilities_layout, algorithms_layout, measurements_layout, psk_exchange_rsp_layout, psk_finish_rsp_layout, heartbeat_ack_layout, key_update_ack_layout, end_session_ack_layout, chunk_send_ack_layout, chunk_response_layout, error_layout, IsExtended, FitsReply, FitsResponse, IsSoundResponse, canonical_response}
use Rattle.spdm_grammar.proofs.Spelled.{Spelled, whole, one, two, three, four, bytes, tables, either, mark_back, both}
use Rattle.spdm_grammar.proofs.CanonicalRequests.{caps_spelled, chunk_spelled}
use Rattle.spdm_grammar.specs.declared.names.error_number.TheConstants.{RESPONSE_TOO_LARGE, LARGE_RESPONSE}
use Rattle.spdm_grammar.specs.declared.names.response_code.TheConstants.{MEASUREMENTS, CAPABILITIES, ALGORITHMS, PSK_EXCHANGE_RSP, PSK_FINISH_RSP, HEARTBEAT_ACK, KEY_UPDATE_ACK, END_SESSION_ACK, ERROR, VERSION, CHUNK_SEND_ACK, CHUNK_RESPONSE}
use Rattle.spdm_grammar.specs.declared.names.spdm_version.TheConstants.{V1_0, V1_2}

version_spelled : (hash_len : ℕ) (has_summary : Bool) (entries : List ℕ) → IsSoundResponse hash_len has_summary (Version entries) → Spelled (response_layout hash_len has_summary) 0 (Version entries) (canonical_response (Version entries))
unfolding response_body version_layout
version_spelled hash_len has_summary entries s =
    let long : length entries ≡ 2 * (length entries / 2) = omega (arith, s.0) in
    one V1_0 refl (one VERSION refl (bytes (0 ∷ 0 ∷ 0 ∷ []) _ refl refl (one (length entries / 2) refl (bytes entries [] (sym (append-nil entries)) long (whole _ _ refl)))))

reply_spelled : (hash_len : ℕ) (has_summary : Bool) (reply : ReplyMessage) → FitsReply reply → IsSoundResponse hash_len has_summary (Algorithms reply) → Spelled (response_layout hash_len has_summary) 0 (Algorithms reply) (canonical_response (Algorithms reply))
unfolding response_body algorithms_layout
reply_spelled hash_len has_summary reply f s =
    let asyms : length reply.ext_asym ≡ 4 * (length reply.ext_asym / 4) = omega (arith, s.ext_asym) in
    let hashes : length reply.ext_hash ≡ 4 * (length reply.ext_hash / 4) = omega (arith, s.ext_hash) in
    let size : 36 + length reply.ext_asym + length reply.ext_hash + length reply.tables ≡ 36 + 4 * (length reply.ext_asym / 4) + 4 * (length reply.ext_hash / 4) + length reply.tables = omega (arith, asyms, hashes) in
    one V1_2 refl (one ALGORITHMS refl (one reply.count refl (bytes (0 ∷ []) _ refl refl
    (two (36 + length reply.ext_asym + length reply.ext_hash + length reply.tables) s.told refl
    (one reply.measurement refl (one reply.other refl (four reply.measurement_hash f.measurement_hash refl (four reply.asym f.asym refl (four reply.hash f.hash refl
    (bytes (0 ∷ 0 ∷ 0 ∷ 0 ∷ 0 ∷ 0 ∷ 0 ∷ 0 ∷ 0 ∷ 0 ∷ 0 ∷ 0 ∷ []) _ refl refl
    (one (length reply.ext_asym / 4) refl (one (length reply.ext_hash / 4) refl (bytes (0 ∷ 0 ∷ []) _ refl refl
    (bytes reply.ext_asym (reply.ext_hash ++ reply.tables) (append_assoc reply.ext_asym reply.ext_hash reply.tables) asyms
    (bytes reply.ext_hash reply.tables refl hashes
    (tables reply.tables [] (sym (append-nil reply.tables)) s.tables
    (record { is = (refl, refl, size) })))))))))))))))))

measured_spelled : (hash_len : ℕ) (has_summary : Bool) (measured : MeasuredMessage) → IsSoundResponse hash_len has_summary (Measurements measured) → Spelled (response_layout hash_len has_summary) 0 (Measurements measured) (canonical_response (Measurements measured))
unfolding response_body measurements_layout
measured_spelled hash_len has_summary measured s =
    let told : List ℕ = little_bytes 2 (length measured.opaque) in
    let first : measured.block_bytes ++ measured.nonce ++ told ++ measured.opaque ≡ measured.block_bytes ++ (measured.nonce ++ (told ++ measured.opaque)) = simp append_assoc in
    one V1_2 refl (one MEASUREMENTS refl (one measured.total refl (bytes (0 ∷ []) _ refl refl (one measured.blocks refl
    (three (length measured.block_bytes) s.block_bytes refl
    (bytes measured.block_bytes (measured.nonce ++ (told ++ measured.opaque)) first refl
    (bytes measured.nonce (told ++ measured.opaque) refl s.nonce
    (two (length measured.opaque) (omega (arith, s.opaque)) (le-leb _ _ s.opaque)
    (bytes measured.opaque [] (sym (append-nil measured.opaque)) refl (whole _ _ refl))))))))))

exchange_rsp_spelled : (hash_len : ℕ) (has_summary : Bool) (exchange : ExchangeRspMessage) → exchange.rsp_id < 2 ^ 16 → IsSoundResponse hash_len has_summary (PskExchangeRsp exchange) → Spelled (response_layout hash_len has_summary) 0 (PskExchangeRsp exchange) (canonical_response (PskExchangeRsp exchange))
unfolding response_body psk_exchange_rsp_layout
exchange_rsp_spelled hash_len has_summary exchange fits s =
    let first : exchange.summary ++ exchange.context ++ exchange.opaque ++ exchange.verify ≡ exchange.summary ++ (exchange.context ++ (exchange.opaque ++ exchange.verify)) = simp append_assoc in
    one V1_2 refl (one PSK_EXCHANGE_RSP refl (one exchange.heartbeat refl (bytes (0 ∷ []) _ refl refl
    (two exchange.rsp_id fits refl (bytes (0 ∷ 0 ∷ []) _ refl refl
    (two (length exchange.context) s.context (le-leb _ _ s.context_long) (two (length exchange.opaque) (omega (arith, s.opaque)) (le-leb _ _ s.opaque)
    (bytes exchange.summary (exchange.context ++ (exchange.opaque ++ exchange.verify)) first s.summary
    (bytes exchange.context (exchange.opaque ++ exchange.verify) refl refl
    (bytes exchange.opaque exchange.verify refl refl
    (bytes exchange.verify [] (sym (append-nil exchange.verify)) s.verify
    (whole _ _ refl))))))))))))

extended_spelled : (version code detail : ℕ) (extended : List ℕ) → IsExtended code extended → Spelled (error_layout version) 2 (Error version code detail extended) (code ∷ detail ∷ extended)
unfolding error_layout
extended_spelled version code detail extended s =
    one code refl (one detail refl (either (eqb code RESPONSE_TOO_LARGE) _ _
    (λ is. bytes extended [] (sym (append-nil extended)) (s.0 (eqb-true _ _ is)) (whole _ _ refl))
    (λ _. either (eqb code LARGE_RESPONSE) _ _
    (λ is. bytes extended [] (sym (append-nil extended)) (s.1 (eqb-true _ _ is)) (whole _ _ refl))
    (λ _. record { is = (refl, s.2) }))))

error_spelled : (hash_len : ℕ) (has_summary : Bool) (version code detail : ℕ) (extended : List ℕ) → IsSoundResponse hash_len has_summary (Error version code detail extended) → Spelled (response_layout hash_len has_summary) 0 (Error version code detail extended) (canonical_response (Error version code detail extended))
unfolding response_body
error_spelled hash_len has_summary version code detail extended s =
    let P : ℕ → Type 0 = λ k. Spelled (response_layout hash_len has_summary) 0 (Error k code detail extended) (canonical_response (Error k code detail extended)) in
    let old : P V1_0 = one V1_0 refl (one ERROR refl (extended_spelled V1_0 code detail extended s.1)) in
    let new : P V1_2 = one V1_2 refl (one ERROR refl (extended_spelled V1_2 code detail extended s.1)) in
    elim s.0 [ inl is ↦ subst P (sym is) old | inr is ↦ subst P (sym is) new ]

-- the response's canonical encoding encodes it
pub response_spelled : (hash_len : ℕ) (has_summary : Bool) (m : ResponseMessage) → FitsResponse m → IsSoundResponse hash_len has_summary m → Spelled (response_layout hash_len has_summary) 0 m (canonical_response m)
unfolding response_body capabilities_layout psk_finish_rsp_layout heartbeat_ack_layout key_update_ack_layout end_session_ack_layout chunk_send_ack_layout chunk_response_layout
response_spelled hash_len has_summary (Version entries) f s = version_spelled hash_len has_summary entries s
response_spelled hash_len has_summary (Capabilities caps) f s = one V1_2 refl (one CAPABILITIES refl (caps_spelled Capabilities caps f))
response_spelled hash_len has_summary (Algorithms reply) f s = reply_spelled hash_len has_summary reply f s
response_spelled hash_len has_summary (Measurements measured) f s = measured_spelled hash_len has_summary measured s
response_spelled hash_len has_summary (PskExchangeRsp exchange) f s = exchange_rsp_spelled hash_len has_summary exchange f.1 s
response_spelled hash_len has_summary PskFinishRsp f s = one V1_2 refl (one PSK_FINISH_RSP refl (bytes (0 ∷ 0 ∷ []) [] refl refl (whole _ _ refl)))
response_spelled hash_len has_summary HeartbeatAck f s = one V1_2 refl (one HEARTBEAT_ACK refl (bytes (0 ∷ 0 ∷ []) [] refl refl (whole _ _ refl)))
response_spelled hash_len has_summary (KeyUpdateAck op tag) f s =
    one V1_2 refl (one KEY_UPDATE_ACK refl (one op (both (le-leb _ _ s.0) (le-leb _ _ s.1)) (one tag refl (whole _ _ refl))))
response_spelled hash_len has_summary EndSessionAck f s = one V1_2 refl (one END_SESSION_ACK refl (bytes (0 ∷ 0 ∷ []) [] refl refl (whole _ _ refl)))
response_spelled hash_len has_summary (ChunkSendAck early handle number answer) f s =
    one V1_2 refl (one CHUNK_SEND_ACK refl (one (cond early 1 0) refl (one handle refl (two number f.1 refl
    (record { is = ap (λ (b : Bool). ChunkSendAck b handle number answer) (mark_back early) })))))
response_spelled hash_len has_summary (ChunkResponse chunk) f s = one V1_2 refl (one CHUNK_RESPONSE refl (chunk_spelled ChunkResponse chunk f s))
response_spelled hash_len has_summary (Error version code detail extended) f s = error_spelled hash_len has_summary version code detail extended s
