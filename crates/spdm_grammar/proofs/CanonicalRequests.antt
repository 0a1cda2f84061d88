-- The canonical encoding of a sound request is an encoding of it.
use Rattle.std.proofs.Common.{◌≡◌, ◌<◌, ◌^◌, ℕ, ◌+◌, ◌*◌, ◌/◌, Bool, cond, [], ◌∷◌, ◌++◌, length, refl, sym, ap, append_assoc, arith}
use Rattle.std.proofs.lemmas.Bool.{le-leb}
use Rattle.std.proofs.lemmas.List.{append-nil}
use Rattle.spdm_grammar.specs.declared.messages.capabilities.Caps.{Caps}
use Rattle.spdm_grammar.specs.Fields.{FitsCaps, FitsChunk, IsSoundChunk, caps_bytes, caps_layout, chunk_bytes, chunk_layout}
use Rattle.spdm_grammar.specs.Message.{RequestMessage, OfferMessage, ExchangeMessage, ChunkMessage}
use Rattle.spdm_grammar.specs.Message.RequestMessage.{GetVersion, GetCapabilities, NegotiateAlgorithms, GetMeasurements, PskExchange, PskFinish, Heartbeat, KeyUpdate, EndSession, ChunkSend, ChunkGet}
use Rattle.spdm_grammar.specs.Requests.{request_layout, request_body, get_version_layout, get_capabilities_layout, negotiate_algorithms_layout, get_measurements_layout, psk_exchange_layout, psk_finish_layout, heartbeat_layout, key_update_layout, end_session_layout, chunk_send_layout, chunk_get_layout, FitsOffer, FitsRequest, IsSoundRequest, canonical_request}
use Rattle.spdm_grammar.proofs.Spelled.{Spelled, whole, one, two, four, bytes, tables, optional, mark_back, both}
use Rattle.spdm_grammar.specs.declared.names.request_code.TheConstants.{GET_VERSION, CHUNK_SEND, CHUNK_GET, GET_MEASUREMENTS, GET_CAPABILITIES, NEGOTIATE_ALGORITHMS, PSK_EXCHANGE, PSK_FINISH, HEARTBEAT, KEY_UPDATE, END_SESSION}
use Rattle.spdm_grammar.specs.declared.names.spdm_version.TheConstants.{V1_0, V1_2}

pub caps_spelled : {A : Type 0} {at : ℕ} (value : Caps → A) (caps : Caps) → FitsCaps caps → Spelled (caps_layout value) at (value caps) (caps_bytes caps)
caps_spelled value caps s =
    bytes (0 ∷ 0 ∷ 0 ∷ []) _ refl refl (one caps.ct refl (bytes (0 ∷ 0 ∷ []) _ refl refl
    (four caps.flags s.flags refl (four caps.transfer s.transfer refl (four caps.max s.max refl (whole _ _ refl))))))

pub chunk_spelled : {A : Type 0} {at : ℕ} (value : ChunkMessage → A) (chunk : ChunkMessage) → FitsChunk chunk → IsSoundChunk chunk → Spelled (chunk_layout value) at (value chunk) (chunk_bytes chunk)
chunk_spelled value chunk f s =
    one (cond chunk.last 1 0) refl (one chunk.handle refl (two chunk.number f.number refl (bytes (0 ∷ 0 ∷ []) _ refl refl (four (length chunk.chunk) s.size refl
    (optional chunk.large s.first f.large (λ k. bytes chunk.chunk [] (sym (append-nil chunk.chunk)) refl (whole _ _ (ap (λ (b : Bool). value (record { last = b; handle = chunk.handle; number = chunk.number; large = chunk.large; chunk = chunk.chunk })) (mark_back chunk.last)))))))))

offer_spelled : (hash_len : ℕ) (offer : OfferMessage) → FitsOffer offer → IsSoundRequest hash_len (NegotiateAlgorithms offer) → Spelled (request_layout hash_len) 0 (NegotiateAlgorithms offer) (canonical_request (NegotiateAlgorithms offer))
unfolding request_body negotiate_algorithms_layout
offer_spelled hash_len offer f s =
    let asyms : length offer.ext_asym ≡ 4 * (length offer.ext_asym / 4) = omega (arith, s.ext_asym) in
    let hashes : length offer.ext_hash ≡ 4 * (length offer.ext_hash / 4) = omega (arith, s.ext_hash) in
    let size : 32 + length offer.ext_asym + length offer.ext_hash + length offer.tables ≡ 32 + 4 * (length offer.ext_asym / 4) + 4 * (length offer.ext_hash / 4) + length offer.tables = omega (arith, asyms, hashes) in
    one V1_2 refl (one NEGOTIATE_ALGORITHMS refl (one offer.count refl (bytes (0 ∷ []) _ refl refl
    (two (32 + length offer.ext_asym + length offer.ext_hash + length offer.tables) s.told refl
    (one offer.measurement refl (one offer.other refl (four offer.asym f.asym refl (four offer.hash f.hash refl
    (bytes (0 ∷ 0 ∷ 0 ∷ 0 ∷ 0 ∷ 0 ∷ 0 ∷ 0 ∷ 0 ∷ 0 ∷ 0 ∷ 0 ∷ []) _ refl refl
    (one (length offer.ext_asym / 4) refl (one (length offer.ext_hash / 4) refl (bytes (0 ∷ 0 ∷ []) _ refl refl
    (bytes offer.ext_asym (offer.ext_hash ++ offer.tables) (append_assoc offer.ext_asym offer.ext_hash offer.tables) asyms
    (bytes offer.ext_hash offer.tables refl hashes
    (tables offer.tables [] (sym (append-nil offer.tables)) s.tables
    (record { is = (refl, refl, size) }))))))))))))))))

exchange_spelled : (hash_len : ℕ) (exchange : ExchangeMessage) → exchange.req_id < 2 ^ 16 → IsSoundRequest hash_len (PskExchange exchange) → Spelled (request_layout hash_len) 0 (PskExchange exchange) (canonical_request (PskExchange exchange))
unfolding request_body psk_exchange_layout
exchange_spelled hash_len exchange fits s =
    one V1_2 refl (one PSK_EXCHANGE refl (one exchange.summary s.summary (bytes (0 ∷ []) _ refl refl
    (two exchange.req_id fits refl (two (length exchange.hint) s.hint refl
    (two (length exchange.context) s.context (le-leb _ _ s.context_long) (two (length exchange.opaque) (omega (arith, s.opaque)) (le-leb _ _ s.opaque)
    (bytes exchange.hint (exchange.context ++ exchange.opaque) (append_assoc exchange.hint exchange.context exchange.opaque) refl
    (bytes exchange.context exchange.opaque refl refl
    (bytes exchange.opaque [] (sym (append-nil exchange.opaque)) refl
    (whole _ _ refl)))))))))))

-- the request's canonical encoding encodes it
pub request_spelled : (hash_len : ℕ) (m : RequestMessage) → FitsRequest m → IsSoundRequest hash_len m → Spelled (request_layout hash_len) 0 m (canonical_request m)
unfolding request_body get_version_layout get_capabilities_layout get_measurements_layout psk_finish_layout heartbeat_layout key_update_layout end_session_layout chunk_send_layout chunk_get_layout
request_spelled hash_len GetVersion f s = one V1_0 refl (one GET_VERSION refl (bytes (0 ∷ 0 ∷ []) [] refl refl (whole _ _ refl)))
request_spelled hash_len (GetCapabilities caps) f s = one V1_2 refl (one GET_CAPABILITIES refl (caps_spelled GetCapabilities caps f))
request_spelled hash_len (NegotiateAlgorithms offer) f s = offer_spelled hash_len offer f s
request_spelled hash_len (GetMeasurements op) f s = one V1_2 refl (one GET_MEASUREMENTS refl (one 0 refl (one op refl (whole _ _ refl))))
request_spelled hash_len (PskExchange exchange) f s = exchange_spelled hash_len exchange f.1 s
request_spelled hash_len (PskFinish verify) f s = one V1_2 refl (one PSK_FINISH refl (bytes (0 ∷ 0 ∷ []) _ refl refl (bytes verify [] (sym (append-nil verify)) s (whole _ _ refl))))
request_spelled hash_len Heartbeat f s = one V1_2 refl (one HEARTBEAT refl (bytes (0 ∷ 0 ∷ []) [] refl refl (whole _ _ refl)))
request_spelled hash_len (KeyUpdate op tag) f s =
    one V1_2 refl (one KEY_UPDATE refl (one op (both (le-leb _ _ s.0) (le-leb _ _ s.1)) (one tag refl (whole _ _ refl))))
request_spelled hash_len EndSession f s = one V1_2 refl (one END_SESSION refl (bytes (0 ∷ 0 ∷ []) [] refl refl (whole _ _ refl)))
request_spelled hash_len (ChunkSend chunk) f s = one V1_2 refl (one CHUNK_SEND refl (chunk_spelled ChunkSend chunk f s))
request_spelled hash_len (ChunkGet handle number) f s =
    one V1_2 refl (one CHUNK_GET refl (bytes (0 ∷ []) _ refl refl (one handle refl (two number f.1 refl (whole _ _ refl)))))
