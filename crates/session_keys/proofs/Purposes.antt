-- The key of a purpose in the program is that of the definitions.
use Rattle.std.proofs.Common.{◌≡◌, ◌≤◌, ◌∙◌, ap, sym, subst, refl, ℕ, ◌+◌, ◌-◌, List, Bool, length, length-append, take, drop, arith}
use Rattle.std.proofs.lemmas.Bool.Decides.{nat_tests}
use Rattle.std.proofs.lemmas.Option.{none-some}
use Rattle.std.specs.Prelude.{if◌then◌else◌, nat_lt, Option, Result, Ok, Err, None, Some, MatchResult, OnOk, IsOk, bytes_eq}
use Rattle.byteorder.specs.Endian.{little_bytes}
use Rattle.key_schedule.specs.Keys.{DirectionSecret}
use Rattle.key_schedule.specs.Purpose as purpose
use Rattle.hmac_hkdf.specs.Hmac.{hmac}
use Rattle.key_schedule.specs.Purpose.{Purpose, IsSecretOf, AreSecretsOf, is_record, secret_of, verify, handshake_record}
use Rattle.key_schedule.specs.declared.direction.Direction.{Direction}
use Rattle.key_schedule.specs.Schedule.{record_key, record_iv, finished_key}
use Rattle.running_hash.specs.Hash.{hash_of}
use Rattle.secured_record.specs.Faults.{fault_of, header_fault, fault_behind, inner_of}
use Rattle.secured_record.specs.Format as format
use Rattle.secured_record.specs.Format.{record_of, plain_text}
use Rattle.secured_record.proofs.Records.{header_of_none}
use Rattle.secured_record.proofs.Written.{length-sealed_text}
use Rattle.spdm_basis.specs.SessionIdBytes.{session_id_bytes}
use Rattle.spdm_basis.specs.declared.values.aead_alg.AeadAlg.{AeadAlg}
use Rattle.spdm_basis.specs.declared.values.hash_alg.HashAlg.{HashAlg}
use Rattle.spdm_basis.specs.declared.causes.record_fault.RecordFault.{RecordFault}
use Rattle.spdm_grammar.specs.declared.messages.choice.Choice.{Choice}
use Rattle.spdm_machine.specs.Keys.{sealed_of, record_fault, inner_message, verify_data}
use Rattle.session_keys.specs.Handshake.{IsHandshakeOf}
use Rattle.session_keys.specs.Keys.{IsKeyOf}
use Rattle.session_keys.specs.declared.handshake.Handshake.{Handshake}

secret_at_choice : (k : DirectionSecret) (choice : Choice) (p : Purpose) → IsKeyOf k choice p → k.secret ≡ secret_of choice.hash p
secret_at_choice k choice p is = is.secret.secret ∙ ap (λ (h : HashAlg). secret_of h p) is.hash

pub key_at : (k : DirectionSecret) (choice : Choice) (p : Purpose) → IsKeyOf k choice p → format.key_of k ≡ purpose.key_of choice.hash choice.aead p
key_at k choice p is =
    ap (λ (h : HashAlg). record_key (hash_of h) k.aead k.secret) is.hash
    ∙ ap (λ (a : AeadAlg). record_key (hash_of choice.hash) a k.secret) is.aead
    ∙ ap (λ (s : List ℕ). record_key (hash_of choice.hash) choice.aead s) (secret_at_choice k choice p is)
    ∙ ap (λ (b : Bool). if b then record_key (hash_of choice.hash) choice.aead (secret_of choice.hash p) else finished_key (hash_of choice.hash) (secret_of choice.hash p)) (sym is.secret.records)

pub iv_at : (k : DirectionSecret) (choice : Choice) (p : Purpose) → IsKeyOf k choice p → format.iv_of k ≡ purpose.iv_of choice.hash p
iv_at k choice p is =
    ap (λ (h : HashAlg). record_iv (hash_of h) k.secret) is.hash
    ∙ ap (λ (s : List ℕ). record_iv (hash_of choice.hash) s) (secret_at_choice k choice p is)

-- What is sealed under the key is sealed under the purpose.
pub sealed_at : (k : DirectionSecret) (choice : Choice) (p : Purpose) (number : ℕ) (id inner pad out : List ℕ) → IsKeyOf k choice p
    → out ≡ record_of (format.key_of k) (format.iv_of k) id number inner pad → out ≡ sealed_of choice p number id inner pad
unfolding sealed_of
sealed_at k choice p number id inner pad out is e =
    e ∙ ap (λ (x : List ℕ). record_of x (format.iv_of k) id number inner pad) (key_at k choice p is)
    ∙ ap (λ (x : List ℕ). record_of (purpose.key_of choice.hash choice.aead p) x id number inner pad) (iv_at k choice p is)

-- What opens under the key, or does not, opens under the purpose, or does not.
pub fault_at : {U : Type 0} (r : Result U RecordFault) (k : DirectionSecret) (choice : Choice) (p : Purpose) (number : ℕ) (id sealed : List ℕ) → IsKeyOf k choice p
    → MatchResult r (λ _. fault_of (format.key_of k) (format.iv_of k) id number sealed ≡ None) (λ e. fault_of (format.key_of k) (format.iv_of k) id number sealed ≡ Some e)
    → MatchResult r (λ _. record_fault choice p number id sealed ≡ None) (λ e. record_fault choice p number id sealed ≡ Some e)
unfolding record_fault
fault_at r k choice p number id sealed is m =
    subst (λ (v : List ℕ). MatchResult r (λ _. fault_of (purpose.key_of choice.hash choice.aead p) v id number sealed ≡ None) (λ e. fault_of (purpose.key_of choice.hash choice.aead p) v id number sealed ≡ Some e)) (iv_at k choice p is)
    (subst (λ (v : List ℕ). MatchResult r (λ _. fault_of v (format.iv_of k) id number sealed ≡ None) (λ e. fault_of v (format.iv_of k) id number sealed ≡ Some e)) (key_at k choice p is) m)

pub inner_at : {U : Type 0} (r : Result U RecordFault) (k : DirectionSecret) (choice : Choice) (p : Purpose) (number : ℕ) (sealed out : List ℕ) → IsKeyOf k choice p
    → OnOk r (out ≡ inner_of (format.key_of k) (format.iv_of k) number sealed) → OnOk r (out ≡ inner_message choice p number sealed)
unfolding inner_message
inner_at r k choice p number sealed out is m =
    subst (λ (v : List ℕ). OnOk r (out ≡ inner_of (purpose.key_of choice.hash choice.aead p) v number sealed)) (iv_at k choice p is)
    (subst (λ (v : List ℕ). OnOk r (out ≡ inner_of v (format.iv_of k) number sealed)) (key_at k choice p is) m)

pub of_ok : {U E : Type 0} (r : Result U E) (P : Type 0) → IsOk r → OnOk r P → P
of_ok (Ok u) P ok p = p
of_ok (Err e) P ok p = absurd (cc)

-- How long a record is.
pub size_of : (key iv : List ℕ) (req rsp number : ℕ) (inner pad out : List ℕ) → out ≡ record_of key iv (session_id_bytes req rsp) number inner pad
    → length out ≡ length inner + length pad + 26
unfolding record_of
size_of key iv req rsp number inner pad out e =
    omega (arith, ap (λ (x : List ℕ). length x) e, length-sealed_text key iv (session_id_bytes req rsp) number (plain_text inner pad) refl, length-append inner pad)

-- Verify data of a handshake are those of the definitions.
pub verify_at : (hash : HashAlg) (aead : AeadAlg) (choice : Choice) (psk t1 transcript : List ℕ) (direction : Direction) (th out : List ℕ) → hash ≡ choice.hash → aead ≡ choice.aead
    → th ≡ (hash_of choice.hash).digest transcript → out ≡ hmac (hash_of hash) (purpose.key_of hash aead (verify psk t1 direction)) th
    → out ≡ verify_data choice psk t1 direction transcript
unfolding verify_data
verify_at hash aead choice psk t1 transcript direction th out h a t e =
    e ∙ ap (λ (x : HashAlg). hmac (hash_of x) (purpose.key_of x aead (verify psk t1 direction)) th) h
    ∙ ap (λ (x : AeadAlg). hmac (hash_of choice.hash) (purpose.key_of choice.hash x (verify psk t1 direction)) th) a
    ∙ ap (λ (x : List ℕ). hmac (hash_of choice.hash) (purpose.key_of choice.hash choice.aead (verify psk t1 direction)) x) t

-- The key of a direction of a handshake is that of its records.
pub handshake_key : (seen : Handshake) (choice : Choice) (psk t1 : List ℕ) (k : DirectionSecret) (direction : Direction)
    → IsHandshakeOf seen choice psk t1 → k.hash ≡ seen.keys.hash → k.aead ≡ seen.keys.aead
    → ((psk t1 : List ℕ) → AreSecretsOf seen.keys psk t1 → IsSecretOf k (handshake_record psk t1 direction))
    → IsKeyOf k choice (handshake_record psk t1 direction)
handshake_key seen choice psk t1 k direction is h a p = record { hash = h ∙ is.hash; aead = a ∙ is.aead; secret = p psk t1 is.secrets }

-- What opens has at most 4,160 bytes.
no_header_fault : (f : Option RecordFault) (key iv : List ℕ) (number : ℕ) (sealed : List ℕ) → fault_behind f key iv number sealed ≡ None → f ≡ None
no_header_fault None key iv number sealed h = refl
no_header_fault (Some fault) key iv number sealed h = absurd (none-some fault (sym h))

pub header_fits : (id : List ℕ) (number : ℕ) (sealed : List ℕ) → header_fault id number sealed ≡ None → length sealed ≤ 4160
unfolding header_fault
header_fits id number sealed h =
    let long = (header_of_none (nat_lt (length sealed) 26) (bytes_eq (take 4 sealed) id) (bytes_eq (take 2 (drop 4 sealed)) (little_bytes 2 number)) (bytes_eq (take 2 (drop 6 sealed)) (little_bytes 2 (length sealed - 8))) (nat_lt 4160 (length sealed)) h).4 in
    grind (arith, nat_tests)

pub opened_fits : {U : Type 0} (r : Result U RecordFault) (key iv id : List ℕ) (number : ℕ) (sealed : List ℕ)
    → MatchResult r (λ _. fault_of key iv id number sealed ≡ None) (λ e. fault_of key iv id number sealed ≡ Some e) → OnOk r (length sealed ≤ 4160)
unfolding fault_of
opened_fits (Ok u) key iv id number sealed m = header_fits id number sealed (no_header_fault (header_fault id number sealed) key iv number sealed m)
opened_fits (Err e) key iv id number sealed m = tt
