-- A request that bytes encode fits its fields and is sound.
use Rattle.std.proofs.Common.{ℕ, ◌%◌, eqb, leb, List, Some, None, sym, arith}
use Rattle.std.proofs.lemmas.Bool.{leb-true, and_parts}
use Rattle.spdm_grammar.specs.declared.messages.capabilities.Caps.{Caps}
use Rattle.spdm_grammar.specs.Layout.Layout.{Whole, Bytes}
use Rattle.spdm_grammar.specs.Fields.{FitsCaps, FitsChunk, IsSoundChunk, caps_layout, chunk_layout}
use Rattle.spdm_grammar.specs.Message.{RequestMessage, ChunkMessage}
use Rattle.spdm_grammar.specs.Message.RequestMessage.{GetCapabilities, ChunkSend}
use Rattle.spdm_grammar.specs.Requests.{request_layout, request_body, get_version_layout, get_capabilities_layout, negotiate_algorithms_layout, get_measurements_layout, psk_exchange_layout, psk_finish_layout, heartbeat_layout, key_update_layout, end_session_layout, chunk_send_layout, chunk_get_layout, FitsRequest, IsSoundRequest, IsRequestSpelling}
use Rattle.spdm_grammar.proofs.Sound.{AreBytes, Values, HasValues, value_of, either_values, optional_values}

abbrev Good : ℕ → RequestMessage → Type 0
Good hash_len m = FitsRequest m × IsSoundRequest hash_len m

pub caps_values : {A : Type 0} (P : A → Type 0) (value : Caps → A) (at : ℕ) → ((caps : Caps) → FitsCaps caps → P (value caps)) → Values P (caps_layout value) at
caps_values P value at all =
    λ _ _ ct ct_fits _ _ _ flags flags_fit _ transfer transfer_fits _ max max_fits _. all (record { ct = ct; flags = flags; transfer = transfer; max = max }) (record { ct = ct_fits; flags = flags_fit; transfer = transfer_fits; max = max_fits })

pub chunk_values : {A : Type 0} (P : A → Type 0) (value : ChunkMessage → A) (at : ℕ) → ((chunk : ChunkMessage) → FitsChunk chunk → IsSoundChunk chunk → P (value chunk)) → Values P (chunk_layout value) at
chunk_values P value at all =
    λ attributes _ _ handle handle_fits _ number number_fits _ _ _ size size_fits _. optional_values P (eqb number 0) _ (λ large. Bytes size (λ chunk. Whole (value (record { last = eqb (attributes % 2) 1; handle = handle; number = number; large = large; chunk = chunk }))))
    (λ is chunk long. all (record { last = eqb (attributes % 2) 1; handle = handle; number = number; large = None; chunk = chunk }) (record { handle = handle_fits; number = number_fits; large = tt }) (record { first = sym is; size = omega (arith, long, size_fits) }))
    (λ is n fits chunk long. all (record { last = eqb (attributes % 2) 1; handle = handle; number = number; large = Some n; chunk = chunk }) (record { handle = handle_fits; number = number_fits; large = fits }) (record { first = sym is; size = omega (arith, long, size_fits) }))

plain : (hash_len : ℕ) → HasValues (Good hash_len) get_version_layout 2
unfolding get_version_layout
plain hash_len = record { are = λ _ _. (tt, tt) }

get_capabilities : (hash_len : ℕ) → HasValues (Good hash_len) get_capabilities_layout 2
unfolding get_capabilities_layout
get_capabilities hash_len = record { are = caps_values (Good hash_len) GetCapabilities 2 (λ caps fits. (fits, tt)) }

negotiate_algorithms : (hash_len : ℕ) → HasValues (Good hash_len) negotiate_algorithms_layout 2
unfolding negotiate_algorithms_layout
negotiate_algorithms hash_len = record {
  are = λ count count_fits _ _ _ told told_fits _ measurement measurement_fits _ other other_fits _ asym asym_fits _ hash hash_fits _ _ _ asyms asyms_fit _ hashes hashes_fit _ _ _ ext_asym ext_asym_long ext_hash ext_hash_long tables are size. (
    record { measurement = measurement_fits; other = other_fits; asym = asym_fits; hash = hash_fits; count = count_fits },
    record {
      ext_asym = omega (arith, ext_asym_long);
      ext_asym_few = omega (arith, ext_asym_long, asyms_fit);
      ext_hash = omega (arith, ext_hash_long);
      ext_hash_few = omega (arith, ext_hash_long, hashes_fit);
      tables = are;
      told = omega (arith, size, told_fits, ext_asym_long, ext_hash_long);
    },
  );
}

get_measurements : (hash_len : ℕ) → HasValues (Good hash_len) get_measurements_layout 2
unfolding get_measurements_layout
get_measurements hash_len = record { are = λ _ _ _ op fits _. (fits, tt) }

psk_exchange : (hash_len : ℕ) → HasValues (Good hash_len) (psk_exchange_layout hash_len) 2
unfolding psk_exchange_layout
psk_exchange hash_len = record {
  are = λ summary summary_fits known _ _ req_id req_id_fits _ hint_len hint_fits _ context_len context_fits enough opaque_len _ few hint hint_long context context_long opaque opaque_long. (
    (summary_fits, req_id_fits),
    record {
      summary = known;
      hint = omega (arith, hint_long, hint_fits);
      context_long = omega (arith, context_long, leb-true _ _ enough);
      context = omega (arith, context_long, context_fits);
      opaque = omega (arith, opaque_long, leb-true _ _ few);
    },
  );
}

psk_finish : (hash_len : ℕ) → HasValues (Good hash_len) (psk_finish_layout hash_len) 2
unfolding psk_finish_layout
psk_finish hash_len = record { are = λ _ _ verify long. (tt, long) }

heartbeat : (hash_len : ℕ) → HasValues (Good hash_len) heartbeat_layout 2
unfolding heartbeat_layout
heartbeat hash_len = record { are = λ _ _. (tt, tt) }

key_update : (hash_len : ℕ) → HasValues (Good hash_len) key_update_layout 2
unfolding key_update_layout
key_update hash_len = record {
  are = λ op op_fits known tag tag_fits _. let k = and_parts (leb 1 op) (leb op 3) known in ((op_fits, tag_fits), (leb-true _ _ k.0, leb-true _ _ k.1));
}

end_session : (hash_len : ℕ) → HasValues (Good hash_len) end_session_layout 2
unfolding end_session_layout
end_session hash_len = record { are = λ _ _. (tt, tt) }

chunk_send : (hash_len : ℕ) → HasValues (Good hash_len) chunk_send_layout 2
unfolding chunk_send_layout
chunk_send hash_len = record { are = chunk_values (Good hash_len) ChunkSend 2 (λ chunk fits sound. (fits, sound)) }

chunk_get : (hash_len : ℕ) → HasValues (Good hash_len) chunk_get_layout 2
unfolding chunk_get_layout
chunk_get hash_len = record { are = λ _ _ handle handle_fits _ number number_fits _. ((handle_fits, number_fits), tt) }

body : (hash_len code : ℕ) → HasValues (Good hash_len) (request_body hash_len code) 2
unfolding request_body
body hash_len code =
    either_values _ (plain hash_len)
    (either_values _ (get_capabilities hash_len)
    (either_values _ (negotiate_algorithms hash_len)
    (either_values _ (get_measurements hash_len)
    (either_values _ (psk_exchange hash_len)
    (either_values _ (psk_finish hash_len)
    (either_values _ (heartbeat hash_len)
    (either_values _ (key_update hash_len)
    (either_values _ (end_session hash_len)
    (either_values _ (chunk_send hash_len)
    (chunk_get hash_len))))))))))

-- what bytes encode fits and is sound
pub spelled_request : (hash_len : ℕ) (m : RequestMessage) (bytes : List ℕ) → AreBytes bytes → IsRequestSpelling hash_len m bytes → FitsRequest m × IsSoundRequest hash_len m
spelled_request hash_len m bytes h s =
    value_of (Good hash_len) (request_layout hash_len) 0 m bytes (λ version _ _ code _ _. (body hash_len code).are) h s
