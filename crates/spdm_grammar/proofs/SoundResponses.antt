-- A response that bytes encode fits its fields and is sound.
use Rattle.std.proofs.Common.{◌≡◌, ℕ, ◌⊎◌, Bool, true, cond, eqb, leb, List, arith, inl, inr}
use Rattle.std.specs.Prelude.{◌||◌}
use Rattle.std.proofs.lemmas.Bool.{leb-true, eqb-true, eqb-false, and_parts}
use Rattle.spdm_grammar.specs.Layout.Layout.{Whole, Bytes, UpTo}
use Rattle.spdm_grammar.specs.Message.{ResponseMessage}
use Rattle.spdm_grammar.specs.Message.ResponseMessage.{Capabilities, ChunkResponse, Error}
use Rattle.spdm_grammar.specs.Responses.{response_layout, response_body, version_layout, capabilities_layout, algorithms_layout, measurements_layout, psk_exchange_rsp_layout, psk_finish_rsp_layout, heartbeat_ack_layout, key_update_ack_layout, end_session_ack_layout, chunk_send_ack_layout, chunk_response_layout, error_layout, FitsResponse, IsSoundResponse, IsResponseSpelling}
use Rattle.spdm_grammar.proofs.Sound.{AreBytes, HasValues, value_of, either_values, tested_values, one_of}
use Rattle.spdm_grammar.proofs.SoundRequests.{caps_values, chunk_values}
use Rattle.spdm_grammar.specs.declared.names.error_number.TheConstants.{RESPONSE_TOO_LARGE, LARGE_RESPONSE}
use Rattle.spdm_grammar.specs.declared.names.spdm_version.TheConstants.{V1_0, V1_2}

abbrev Good : ℕ → Bool → ResponseMessage → Type 0
Good h s m = FitsResponse m × IsSoundResponse h s m

-- SPDMVersion is 1.0 or 1.2
abbrev IsKnown : ℕ → Type 0
IsKnown version = (version ≡ V1_0) ⊎ (version ≡ V1_2)

version_values : (h : ℕ) (s : Bool) → HasValues (Good h s) version_layout 2
unfolding version_layout
version_values h s = record { are = λ _ _ count count_fits _ entries long. (tt, (omega (arith, long), omega (arith, long, count_fits))) }

capabilities : (h : ℕ) (s : Bool) → HasValues (Good h s) capabilities_layout 2
unfolding capabilities_layout
capabilities h s = record { are = caps_values (Good h s) Capabilities 2 (λ caps fits. (fits, tt)) }

algorithms : (h : ℕ) (s : Bool) → HasValues (Good h s) algorithms_layout 2
unfolding algorithms_layout
algorithms h s = record {
  are = λ count count_fits _ _ _ told told_fits _ measurement measurement_fits _ other other_fits _ measurement_hash measurement_hash_fits _ asym asym_fits _ hash hash_fits _ _ _ asyms asyms_fit _ hashes hashes_fit _ _ _ ext_asym ext_asym_long ext_hash ext_hash_long tables are size. (
    record { measurement = measurement_fits; other = other_fits; measurement_hash = measurement_hash_fits; asym = asym_fits; hash = hash_fits; count = count_fits },
    record {
      ext_asym = omega (arith, ext_asym_long);
      ext_asym_few = omega (arith, ext_asym_long, asyms_fit);
      ext_hash = omega (arith, ext_hash_long);
      ext_hash_few = omega (arith, ext_hash_long, hashes_fit);
      tables = are;
      told = omega (arith, size, told_fits, ext_asym_long, ext_hash_long);
    },
  );
}

measurements : (h : ℕ) (s : Bool) → HasValues (Good h s) measurements_layout 2
unfolding measurements_layout
measurements h s = record {
  are = λ total total_fits _ _ _ blocks blocks_fit _ record_len record_fits _ block_bytes record_long nonce nonce_long opaque_len _ few opaque opaque_long. (
    (total_fits, blocks_fit),
    record {
      block_bytes = omega (arith, record_long, record_fits);
      nonce = nonce_long;
      opaque = omega (arith, opaque_long, leb-true _ _ few);
    },
  );
}

psk_exchange_rsp : (h : ℕ) (s : Bool) → HasValues (Good h s) (psk_exchange_rsp_layout h s) 2
unfolding psk_exchange_rsp_layout
psk_exchange_rsp h s = record {
  are = λ heartbeat heartbeat_fits _ _ _ rsp_id rsp_id_fits _ _ _ context_len context_fits enough opaque_len _ few summary summary_long context context_long opaque opaque_long verify verify_long. (
    (heartbeat_fits, rsp_id_fits),
    record {
      summary = summary_long;
      context_long = omega (arith, context_long, leb-true _ _ enough);
      context = omega (arith, context_long, context_fits);
      opaque = omega (arith, opaque_long, leb-true _ _ few);
      verify = verify_long;
    },
  );
}

psk_finish_rsp : (h : ℕ) (s : Bool) → HasValues (Good h s) psk_finish_rsp_layout 2
unfolding psk_finish_rsp_layout
psk_finish_rsp h s = record { are = λ _ _. (tt, tt) }

heartbeat_ack : (h : ℕ) (s : Bool) → HasValues (Good h s) heartbeat_ack_layout 2
unfolding heartbeat_ack_layout
heartbeat_ack h s = record { are = λ _ _. (tt, tt) }

key_update_ack : (h : ℕ) (s : Bool) → HasValues (Good h s) key_update_ack_layout 2
unfolding key_update_ack_layout
key_update_ack h s = record {
  are = λ op op_fits known tag tag_fits _. let k = and_parts (leb 1 op) (leb op 3) known in ((op_fits, tag_fits), (leb-true _ _ k.0, leb-true _ _ k.1));
}

end_session_ack : (h : ℕ) (s : Bool) → HasValues (Good h s) end_session_ack_layout 2
unfolding end_session_ack_layout
end_session_ack h s = record { are = λ _ _. (tt, tt) }

chunk_send_ack : (h : ℕ) (s : Bool) → HasValues (Good h s) chunk_send_ack_layout 2
unfolding chunk_send_ack_layout
chunk_send_ack h s = record { are = λ _ _ _ handle handle_fits _ number number_fits _ _. ((handle_fits, number_fits), tt) }

chunk_response : (h : ℕ) (s : Bool) → HasValues (Good h s) chunk_response_layout 2
unfolding chunk_response_layout
chunk_response h s = record { are = chunk_values (Good h s) ChunkResponse 2 (λ chunk fits sound. (fits, sound)) }

error : (h : ℕ) (s : Bool) (version : ℕ) → IsKnown version → HasValues (Good h s) (error_layout version) 2
unfolding error_layout
error h s version known = record {
  are = λ code code_fits _ detail detail_fits _. (tested_values {P = Good h s} {at = 4} (eqb code RESPONSE_TOO_LARGE)
      (Bytes 4 (λ extended. Whole (Error version code detail extended)))
      (cond (eqb code LARGE_RESPONSE) (Bytes 1 (λ extended. Whole (Error version code detail extended))) (UpTo 32 (λ extended. Error version code detail extended)))
      (λ is. let here : code ≡ RESPONSE_TOO_LARGE = eqb-true _ _ is in record { are = λ extended long. ((code_fits, detail_fits), (known, ((λ _. long), (λ e. absurd (omega (arith, here, e))), omega (arith, long)))) })
      (λ not_large. tested_values {P = Good h s} {at = 4} (eqb code LARGE_RESPONSE)
      (Bytes 1 (λ extended. Whole (Error version code detail extended)))
      (UpTo 32 (λ extended. Error version code detail extended))
      (λ is. let here : code ≡ LARGE_RESPONSE = eqb-true _ _ is in record { are = λ extended long. ((code_fits, detail_fits), (known, ((λ e. absurd (omega (arith, here, e))), (λ _. long), omega (arith, long)))) })
      (λ not_handle. record { are = λ extended few. ((code_fits, detail_fits), (known, ((λ e. absurd (eqb-false _ _ not_large e)), (λ e. absurd (eqb-false _ _ not_handle e)), few))) }))).are;
}

body : (h : ℕ) (s : Bool) (version code : ℕ) → IsKnown version → HasValues (Good h s) (response_body h s version code) 2
unfolding response_body
body h s version code known =
    either_values _ (version_values h s)
    (either_values _ (error h s version known)
    (either_values _ (capabilities h s)
    (either_values _ (algorithms h s)
    (either_values _ (measurements h s)
    (either_values _ (psk_exchange_rsp h s)
    (either_values _ (psk_finish_rsp h s)
    (either_values _ (heartbeat_ack h s)
    (either_values _ (key_update_ack h s)
    (either_values _ (end_session_ack h s)
    (either_values _ (chunk_send_ack h s)
    (chunk_response h s)))))))))))

known_version : (version : ℕ) → (eqb version V1_0 || eqb version V1_2) ≡ true → IsKnown version
known_version version e =
    elim (one_of (eqb version V1_0) (eqb version V1_2) e) [ inl is ↦ inl (eqb-true _ _ is) | inr is ↦ inr (eqb-true _ _ is) ]

-- what bytes encode fits and is sound
pub spelled_response : (h : ℕ) (s : Bool) (m : ResponseMessage) (bytes : List ℕ) → AreBytes bytes → IsResponseSpelling h s m bytes → FitsResponse m × IsSoundResponse h s m
spelled_response h s m bytes are spelled =
    value_of (Good h s) (response_layout h s) 0 m bytes (λ version _ known code _ _. (body h s version code (known_version version known)).are) are spelled
