-- The keys of the session, what they verify, and the records under their purposes.
use Rattle.std.proofs.Common.{◌≡◌, ◌∙◌, ℕ, List, [], ◌∷◌, refl, ap₂, take, None, false}
use Rattle.aes_gcm.specs.Gcm.{tag_of}
use Rattle.example_world.proofs.Bytes.{covered, first_inner, first_iv, first_key, first_record, first_tag, request_verify, response_verify, second_inner, second_iv, second_key, second_record, second_tag, third_inner, third_iv, third_key, third_record, third_tag, fourth_inner, fourth_iv, fourth_key, fourth_record, fourth_tag, transcript, whole_transcript}
use Rattle.example_world.proofs.Gcm.{first_fits, first_opened, first_sealed, first_tag_is, second_fits, second_opened, second_sealed, second_tag_is, third_fits, third_opened, third_sealed, third_tag_is, fourth_fits, fourth_opened, fourth_sealed, fourth_tag_is}
use Rattle.hmac_hkdf.specs.Hkdf.{block_of, blocks_of, expand}
use Rattle.hmac_hkdf.specs.Hmac.{hmac}
use Rattle.key_schedule.specs.Purpose.{Purpose, application_record, handshake_record, iv_of, key_of}
use Rattle.key_schedule.specs.Schedule.{secret_at}
use Rattle.key_schedule.specs.declared.direction.Direction.TheVariants.{Request, Response}
use Rattle.secured_record.specs.Faults.{fault_of, inner_of, text_part}
use Rattle.secured_record.specs.Format.{nonce, record_of}
use Rattle.sha2.specs.Sha256.{sha256, digest_bytes, hash_after, compress, rounds, schedule, first_words}
use Rattle.spdm_basis.specs.declared.values.aead_alg.AeadAlg.TheVariants.{Aes128Gcm}
use Rattle.spdm_basis.specs.declared.values.hash_alg.HashAlg.TheVariants.{Sha256}
use Rattle.spdm_grammar.specs.declared.messages.choice.Choice.{Choice}
use Rattle.spdm_machine.specs.Keys.{inner_message, record_fault, sealed_of, verify_data}
use Rattle.spdm_machine.specs.TagLog.{record_tag}

abbrev pub choice : Choice
choice = record { hash = Sha256; aead = Aes128Gcm; measure = false }

abbrev pub psk : List ℕ
psk = 7 ∷ []

abbrev pub request : Purpose
request = handshake_record psk transcript Request

abbrev pub response : Purpose
response = handshake_record psk transcript Response

abbrev pub data_request : Purpose
data_request = application_record psk whole_transcript Request 0

abbrev pub data_response : Purpose
data_response = application_record psk whole_transcript Response 0

first_key_is : key_of Sha256 Aes128Gcm request ≡ first_key
unfolding expand blocks_of block_of secret_at hmac sha256 digest_bytes hash_after compress rounds schedule first_words
first_key_is = refl

first_iv_is : iv_of Sha256 request ≡ first_iv
unfolding expand blocks_of block_of secret_at hmac sha256 digest_bytes hash_after compress rounds schedule first_words
first_iv_is = refl

pub seals_first : sealed_of choice request 0 (1 ∷ 0 ∷ 1 ∷ 0 ∷ []) first_inner [] ≡ first_record
unfolding sealed_of
seals_first = ap₂ (λ (k v : List ℕ). record_of k v (1 ∷ 0 ∷ 1 ∷ 0 ∷ []) 0 first_inner []) first_key_is first_iv_is ∙ first_sealed

pub fits_first : record_fault choice request 0 (1 ∷ 0 ∷ 1 ∷ 0 ∷ []) first_record ≡ None
unfolding record_fault
fits_first = ap₂ (λ (k v : List ℕ). fault_of k v (1 ∷ 0 ∷ 1 ∷ 0 ∷ []) 0 first_record) first_key_is first_iv_is ∙ first_fits

pub opens_first : inner_message choice request 0 first_record ≡ first_inner
unfolding inner_message
opens_first = ap₂ (λ (k v : List ℕ). inner_of k v 0 first_record) first_key_is first_iv_is ∙ first_opened

pub tags_first : record_tag choice request 0 first_record ≡ first_tag
unfolding record_tag
tags_first = ap₂ (λ (k v : List ℕ). tag_of k (nonce v 0) (take 8 first_record) (text_part first_record)) first_key_is first_iv_is ∙ first_tag_is

second_key_is : key_of Sha256 Aes128Gcm response ≡ second_key
unfolding expand blocks_of block_of secret_at hmac sha256 digest_bytes hash_after compress rounds schedule first_words
second_key_is = refl

second_iv_is : iv_of Sha256 response ≡ second_iv
unfolding expand blocks_of block_of secret_at hmac sha256 digest_bytes hash_after compress rounds schedule first_words
second_iv_is = refl

pub seals_second : sealed_of choice response 0 (1 ∷ 0 ∷ 1 ∷ 0 ∷ []) second_inner [] ≡ second_record
unfolding sealed_of
seals_second = ap₂ (λ (k v : List ℕ). record_of k v (1 ∷ 0 ∷ 1 ∷ 0 ∷ []) 0 second_inner []) second_key_is second_iv_is ∙ second_sealed

pub fits_second : record_fault choice response 0 (1 ∷ 0 ∷ 1 ∷ 0 ∷ []) second_record ≡ None
unfolding record_fault
fits_second = ap₂ (λ (k v : List ℕ). fault_of k v (1 ∷ 0 ∷ 1 ∷ 0 ∷ []) 0 second_record) second_key_is second_iv_is ∙ second_fits

pub opens_second : inner_message choice response 0 second_record ≡ second_inner
unfolding inner_message
opens_second = ap₂ (λ (k v : List ℕ). inner_of k v 0 second_record) second_key_is second_iv_is ∙ second_opened

pub tags_second : record_tag choice response 0 second_record ≡ second_tag
unfolding record_tag
tags_second = ap₂ (λ (k v : List ℕ). tag_of k (nonce v 0) (take 8 second_record) (text_part second_record)) second_key_is second_iv_is ∙ second_tag_is

third_key_is : key_of Sha256 Aes128Gcm data_request ≡ third_key
unfolding expand blocks_of block_of secret_at hmac sha256 digest_bytes hash_after compress rounds schedule first_words
third_key_is = refl

third_iv_is : iv_of Sha256 data_request ≡ third_iv
unfolding expand blocks_of block_of secret_at hmac sha256 digest_bytes hash_after compress rounds schedule first_words
third_iv_is = refl

pub seals_third : sealed_of choice data_request 0 (1 ∷ 0 ∷ 1 ∷ 0 ∷ []) third_inner [] ≡ third_record
unfolding sealed_of
seals_third = ap₂ (λ (k v : List ℕ). record_of k v (1 ∷ 0 ∷ 1 ∷ 0 ∷ []) 0 third_inner []) third_key_is third_iv_is ∙ third_sealed

pub fits_third : record_fault choice data_request 0 (1 ∷ 0 ∷ 1 ∷ 0 ∷ []) third_record ≡ None
unfolding record_fault
fits_third = ap₂ (λ (k v : List ℕ). fault_of k v (1 ∷ 0 ∷ 1 ∷ 0 ∷ []) 0 third_record) third_key_is third_iv_is ∙ third_fits

pub opens_third : inner_message choice data_request 0 third_record ≡ third_inner
unfolding inner_message
opens_third = ap₂ (λ (k v : List ℕ). inner_of k v 0 third_record) third_key_is third_iv_is ∙ third_opened

pub tags_third : record_tag choice data_request 0 third_record ≡ third_tag
unfolding record_tag
tags_third = ap₂ (λ (k v : List ℕ). tag_of k (nonce v 0) (take 8 third_record) (text_part third_record)) third_key_is third_iv_is ∙ third_tag_is

fourth_key_is : key_of Sha256 Aes128Gcm data_response ≡ fourth_key
unfolding expand blocks_of block_of secret_at hmac sha256 digest_bytes hash_after compress rounds schedule first_words
fourth_key_is = refl

fourth_iv_is : iv_of Sha256 data_response ≡ fourth_iv
unfolding expand blocks_of block_of secret_at hmac sha256 digest_bytes hash_after compress rounds schedule first_words
fourth_iv_is = refl

pub seals_fourth : sealed_of choice data_response 0 (1 ∷ 0 ∷ 1 ∷ 0 ∷ []) fourth_inner [] ≡ fourth_record
unfolding sealed_of
seals_fourth = ap₂ (λ (k v : List ℕ). record_of k v (1 ∷ 0 ∷ 1 ∷ 0 ∷ []) 0 fourth_inner []) fourth_key_is fourth_iv_is ∙ fourth_sealed

pub fits_fourth : record_fault choice data_response 0 (1 ∷ 0 ∷ 1 ∷ 0 ∷ []) fourth_record ≡ None
unfolding record_fault
fits_fourth = ap₂ (λ (k v : List ℕ). fault_of k v (1 ∷ 0 ∷ 1 ∷ 0 ∷ []) 0 fourth_record) fourth_key_is fourth_iv_is ∙ fourth_fits

pub opens_fourth : inner_message choice data_response 0 fourth_record ≡ fourth_inner
unfolding inner_message
opens_fourth = ap₂ (λ (k v : List ℕ). inner_of k v 0 fourth_record) fourth_key_is fourth_iv_is ∙ fourth_opened

pub tags_fourth : record_tag choice data_response 0 fourth_record ≡ fourth_tag
unfolding record_tag
tags_fourth = ap₂ (λ (k v : List ℕ). tag_of k (nonce v 0) (take 8 fourth_record) (text_part fourth_record)) fourth_key_is fourth_iv_is ∙ fourth_tag_is

pub verifies_response : verify_data choice psk transcript Response transcript ≡ response_verify
unfolding verify_data expand blocks_of block_of secret_at hmac sha256 digest_bytes hash_after compress rounds schedule first_words
verifies_response = refl

pub verifies_request : verify_data choice psk transcript Request covered ≡ request_verify
unfolding verify_data expand blocks_of block_of secret_at hmac sha256 digest_bytes hash_after compress rounds schedule first_words
verifies_request = refl
