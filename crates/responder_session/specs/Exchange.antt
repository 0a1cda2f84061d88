-- The answer to PSK_EXCHANGE (DSP0274, "PSK_EXCHANGE_RSP"), from the parts that the responder puts into it.
use Rattle.std.specs.Prelude.{◌≡◌, ◌≤◌, ◌<◌, ◌^◌, ℕ, List, [], ◌∷◌, ◌++◌, length, if◌then◌else◌}
use Rattle.key_schedule.specs.declared.direction.Direction.TheVariants.{Response}
use Rattle.responder_machine.specs.Session.{Events}
use Rattle.responder_machine.specs.Session.Event.{Began}
use Rattle.session_keys.specs.declared.terms.SessionTerms.{SessionTerms}
use Rattle.spdm_basis.specs.Sizes.{hash_size}
use Rattle.spdm_grammar.specs.Message.ResponseMessage.{PskExchangeRsp}
use Rattle.spdm_grammar.specs.Responses.{canonical_response}
use Rattle.spdm_grammar.specs.declared.names.TheConstants.{MAX_MESSAGE_SIZE, MAX_OPAQUE_LEN}
use Rattle.spdm_machine.specs.Keys.{verify_data}
use Rattle.spdm_machine.specs.Terms.{terms_of}
use Rattle.transcript.specs.Transcripts.{Negotiation, vca_of}
use Rattle.responder_session.specs.declared.parts.ExchangeParts.{ExchangeParts}

-- The parts fit their fields: a summary stands exactly when one was asked for, the context is at least as long as the
-- hash and has below 65,536 bytes, and the opaque data have at most 1,024.
pub record AreParts (terms : SessionTerms) (parts : ExchangeParts) : Type 0 where
  pub summary : length parts.summary.now ≡ (if terms.summary then hash_size terms.choice.hash else 0)
  pub least : hash_size terms.choice.hash ≤ length parts.context.now
  pub context : length parts.context.now < 2 ^ 16
  pub opaque : length parts.opaque.now ≤ MAX_OPAQUE_LEN

-- PSK_EXCHANGE_RSP with these parts and verify data.
abbrev pub answer_with : ExchangeParts → List ℕ → List ℕ
answer_with parts verify = canonical_response (PskExchangeRsp (record {
  heartbeat = parts.heartbeat;
  rsp_id = parts.rsp_id;
  summary = parts.summary.now;
  context = parts.context.now;
  opaque = parts.opaque.now;
  verify = verify;
}))

-- They make an answer: with verify data as long as the hash it has at most 4,096 bytes.
abbrev pub AreAnswered : SessionTerms → ExchangeParts → Type 0
AreAnswered terms parts = (verify : List ℕ) → length verify ≡ hash_size terms.choice.hash → length (answer_with parts verify) ≤ MAX_MESSAGE_SIZE

-- T1: VCA, PSK_EXCHANGE, and the answer without verify data.
abbrev pub t1_with : Negotiation → List ℕ → ExchangeParts → List ℕ
t1_with n exchange parts = vca_of n ++ exchange ++ answer_with parts []

-- The answer, with the responder's verify data over T1.
abbrev pub answer_for : (psk : List ℕ) → Negotiation → List ℕ → ExchangeParts → List ℕ
answer_for psk n exchange parts =
    answer_with parts (verify_data (terms_of n).choice psk (t1_with n exchange parts) Response (t1_with n exchange parts))

-- The session that PSK_EXCHANGE and its answer begin under a negotiation.
abbrev pub begun : Negotiation → (exchange answer : List ℕ) → Events
begun n exchange answer = Began n exchange answer ∷ []
