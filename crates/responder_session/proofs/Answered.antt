-- PSK_EXCHANGE_RSP and its verify data.
use Rattle.std.proofs.Common.{◌≡◌, ◌∙◌, ap, sym, ℕ, ◌-◌, ◌+◌, ◌<◌, ◌≤◌, ◌^◌, Bool, true, false, if◌then◌else◌, subst, List, [], ◌++◌, length, take, length-append, arith, append_assoc, append-nil}
use Rattle.std.proofs.Math.Seq.{take-append_seam}
use Rattle.byteorder.specs.Numbers.{little_number-reads_back}
use Rattle.running_hash.specs.Hash.{hash_of}
use Rattle.spdm_basis.specs.Sizes.{hash_size}
use Rattle.session_keys.specs.declared.terms.SessionTerms.{SessionTerms}
use Rattle.spdm_basis.specs.declared.values.hash_alg.HashAlg.{HashAlg}
use Rattle.spdm_basis.specs.declared.values.hash_alg.HashAlg.TheVariants.{Sha256, Sha384}
use Rattle.spdm_machine.specs.Sessions.{id_in_exchange}
use Rattle.transcript.specs.Transcripts.{without_verify}
use Rattle.responder_session.specs.Exchange.{AreAnswered, AreParts, answer_with}
use Rattle.responder_session.specs.declared.parts.ExchangeParts.{ExchangeParts}

-- Verify data stand at the end.
pub answer_split : (parts : ExchangeParts) (verify : List ℕ) → answer_with parts verify ≡ answer_with parts [] ++ verify
answer_split parts verify = simp (append_assoc, append-nil)

pub unverified : (hash : HashAlg) (parts : ExchangeParts) (verify : List ℕ) → length verify ≡ hash_size hash → without_verify (hash_of hash) (answer_with parts verify) ≡ answer_with parts []
unverified hash parts verify long =
    let front = answer_with parts [] in
    let e = answer_split parts verify in
    let n : length (answer_with parts verify) - hash_size hash ≡ length front = omega (arith, ap (λ (x : List ℕ). length x) e, length-append front verify, long) in
    ap (λ (k : ℕ). take k (answer_with parts verify)) n ∙ ap (λ (x : List ℕ). take (length front) x) e ∙ take-append_seam front verify

pub told : (parts : ExchangeParts) (verify : List ℕ) → parts.rsp_id < 2 ^ 16 → parts.rsp_id ≡ id_in_exchange (answer_with parts verify)
told parts verify few = sym (little_number-reads_back 2 parts.rsp_id [] (omega arith))

-- ---- An answer whose context is as long as the hash is whole.

hash_few : (hash : HashAlg) → hash_size hash ≤ 48
hash_few Sha256 = omega arith
hash_few Sha384 = omega arith

summary_few : (asked : Bool) (hash : HashAlg) → (if asked then hash_size hash else 0) ≤ 48
summary_few true hash = hash_few hash
summary_few false hash = omega arith

total : (parts : ExchangeParts) (verify : List ℕ)
    → length (answer_with parts verify) ≡ 12 + length parts.summary.now + length parts.context.now + length parts.opaque.now + length verify
total parts verify = simp length-append (omega arith)

pub answered : (terms : SessionTerms) (parts : ExchangeParts) → AreParts terms parts → length parts.context.now ≡ hash_size terms.choice.hash → AreAnswered terms parts
answered terms parts are context = λ verify long.
    let hash = hash_few terms.choice.hash in
    let summary = subst (λ (n : ℕ). n ≤ 48) (sym are.summary) (summary_few terms.summary terms.choice.hash) in
    let opaque = are.opaque in
    let whole = total parts verify in
    omega (arith, whole, hash, summary, context, opaque, long)
