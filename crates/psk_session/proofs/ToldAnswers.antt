-- What an answer to PSK_EXCHANGE tells, once it is read.
use Rattle.std.proofs.Common.{◌≡◌, ◌≤◌, ◌∙◌, ap, sym, subst, ℕ, List, Bool, true, false, Some, None, length, arith}
use Rattle.std.proofs.lemmas.Option.{none-some, same_Some}
use Rattle.std.specs.Prelude.{Ok, Err, Result, bytes_eq, if◌then◌else◌, slice_index, ◌<◌}
use Rattle.psk_session.specs.Answers.{no_exchange_rsp}
use Rattle.psk_session.specs.Opening.{accepted, fault_by, open_fault}
use Rattle.psk_session.specs.Told.{FitsTold, told_by, told_in, told_of}
use Rattle.psk_session.specs.declared.open_fault.OpenFault.TheVariants as fault
use Rattle.psk_session.specs.declared.session_told.SessionTold.{SessionTold}
use Rattle.requester_machine.specs.Answers.{answer_verify}
use Rattle.session_keys.specs.Terms.{AreTermsOf, asks_summary}
use Rattle.session_keys.specs.declared.terms.SessionTerms.{SessionTerms}
use Rattle.spdm_basis.specs.Sizes.{hash_size}
use Rattle.spdm_basis.specs.declared.values.hash_alg.HashAlg.{HashAlg}
use Rattle.spdm_basis.specs.declared.values.hash_alg.HashAlg.TheVariants.{Sha256, Sha384}
use Rattle.spdm_grammar.proofs.SoundResponses.{spelled_response}
use Rattle.spdm_grammar.proofs.Spellings.{read_spelling}
use Rattle.spdm_grammar.specs.Message.{ExchangeRspMessage, ResponseMessage}
use Rattle.spdm_grammar.specs.Message.ResponseMessage.{Version, Capabilities, Algorithms, Measurements, PskExchangeRsp, PskFinishRsp, HeartbeatAck, KeyUpdateAck, EndSessionAck, ChunkSendAck, ChunkResponse, Error}
use Rattle.spdm_grammar.specs.Reading.{front}
use Rattle.spdm_grammar.specs.Responses.{response_layout, response_reading, summary_len}
use Rattle.spdm_grammar.specs.declared.messages.choice.Choice.{Choice}
use Rattle.spdm_grammar.specs.declared.messages.malformed.Malformed.{Malformed}
use Rattle.spdm_machine.specs.Terms.{hash_len, terms_of}
use Rattle.transcript.specs.Transcripts.{Negotiation}

-- ---- How long its fields are.

few_summary : (hash : HashAlg) (some : Bool) → summary_len (hash_size hash) some ≤ 48
few_summary Sha256 true = omega arith
few_summary Sha256 false = omega arith
few_summary Sha384 true = omega arith
few_summary Sha384 false = omega arith

pub read_fits : (len : ℕ) (hash : HashAlg) (some : Bool) (rsp : ExchangeRspMessage) (answer : List ℕ) → ((i : ℕ) → slice_index answer i < 256) → len ≡ hash_size hash
    → response_reading len some answer ≡ Ok (PskExchangeRsp rsp) → FitsTold rsp
read_fits len hash some rsp answer bytes size reads =
    let sound = (spelled_response len some (PskExchangeRsp rsp) answer bytes (read_spelling (response_layout len some) (front answer) (PskExchangeRsp rsp) reads)).1 in
    let few = few_summary hash some in
    let long : length rsp.summary ≡ summary_len (hash_size hash) some = sound.summary ∙ ap (λ (l : ℕ). summary_len l some) size in (omega (arith, few, long), sound.opaque)

-- ---- What comes of it.

-- Under the terms of the session, it reads as it reads under its negotiation.
pub read_under : (len : ℕ) (terms : SessionTerms) (n : Negotiation) (exchange answer : List ℕ) (P : Result ResponseMessage Malformed → Type 0) → AreTermsOf terms n exchange
    → len ≡ hash_size terms.choice.hash → P (response_reading len terms.summary answer) → P (response_reading (hash_len (terms_of n)) (asks_summary exchange) answer)
read_under len terms n exchange answer P are size p =
    subst (λ (some : Bool). P (response_reading (hash_len (terms_of n)) some answer)) are.summary
    (subst (λ (l : ℕ). P (response_reading l terms.summary answer)) (size ∙ ap (λ (choice : Choice). hash_size choice.hash) are.choice) p)

by_place : (at b : ℕ) → Some b ≡ Some at → Some (fault.Malformed b) ≡ Some (fault.Malformed at)
by_place at b is = ap (λ (x : ℕ). Some (fault.Malformed x)) (same_Some b at is)

no_answer : (psk : List ℕ) (n : Negotiation) (exchange answer : List ℕ) (at : ℕ) (read : Result ResponseMessage Malformed) → no_exchange_rsp read ≡ Some at
    → fault_by psk n exchange answer read ≡ Some (fault.Malformed at)
no_answer psk n exchange answer at (Err bad) is = by_place at bad.at is
no_answer psk n exchange answer at (Ok (PskExchangeRsp rsp)) is = absurd (none-some at is)
no_answer psk n exchange answer at (Ok (Version entries)) is = by_place at 1 is
no_answer psk n exchange answer at (Ok (Capabilities caps)) is = by_place at 1 is
no_answer psk n exchange answer at (Ok (Algorithms reply)) is = by_place at 1 is
no_answer psk n exchange answer at (Ok (Measurements measured)) is = by_place at 1 is
no_answer psk n exchange answer at (Ok PskFinishRsp) is = by_place at 1 is
no_answer psk n exchange answer at (Ok HeartbeatAck) is = by_place at 1 is
no_answer psk n exchange answer at (Ok (KeyUpdateAck op tag)) is = by_place at 1 is
no_answer psk n exchange answer at (Ok EndSessionAck) is = by_place at 1 is
no_answer psk n exchange answer at (Ok (ChunkSendAck early handle number body)) is = by_place at 1 is
no_answer psk n exchange answer at (Ok (ChunkResponse chunk)) is = by_place at 1 is
no_answer psk n exchange answer at (Ok (Error version code detail extended)) is = by_place at 1 is

pub verified : (right : Bool) → right ≡ true → (if right then None else Some fault.BadVerify) ≡ None
verified right is = ap (λ (b : Bool). if b then None else Some fault.BadVerify) is

module _ (psk : List ℕ) (n : Negotiation) (exchange answer : List ℕ) (terms : SessionTerms) (are : AreTermsOf terms n exchange) (len : ℕ) (size : len ≡ hash_size terms.choice.hash) where
  abbrev Read : Result ResponseMessage Malformed
  Read = response_reading (hash_len (terms_of n)) (asks_summary exchange) answer

  pub no_answer_is : (at : ℕ) → no_exchange_rsp (response_reading len terms.summary answer) ≡ Some at
      → open_fault psk n exchange answer ≡ Some (fault.Malformed at)
  no_answer_is at is = no_answer psk n exchange answer at Read (read_under len terms n exchange answer (λ read. no_exchange_rsp read ≡ Some at) are size is)

  -- An answer that reads has the fault of its verify data alone.
  verdict_is : (rsp : ExchangeRspMessage) (right : Bool) → Read ≡ Ok (PskExchangeRsp rsp) → right ≡ bytes_eq rsp.verify (answer_verify psk (accepted n exchange answer))
      → open_fault psk n exchange answer ≡ (if right then None else Some fault.BadVerify)
  verdict_is rsp right reads is =
      ap (fault_by psk n exchange answer) reads ∙ ap (λ (b : Bool). if b then None else Some fault.BadVerify) (sym is)

  read_is : (rsp : ExchangeRspMessage) → response_reading len terms.summary answer ≡ Ok (PskExchangeRsp rsp) → Read ≡ Ok (PskExchangeRsp rsp)
  read_is rsp reads = read_under len terms n exchange answer (λ read. read ≡ Ok (PskExchangeRsp rsp)) are size reads

  pub answer_is : (rsp : ExchangeRspMessage) (right : Bool) → response_reading len terms.summary answer ≡ Ok (PskExchangeRsp rsp)
      → right ≡ bytes_eq rsp.verify (answer_verify psk (accepted n exchange answer)) → open_fault psk n exchange answer ≡ (if right then None else Some fault.BadVerify)
  answer_is rsp right reads is = verdict_is rsp right (read_is rsp reads) is

  pub told_is : (rsp : ExchangeRspMessage) (told : SessionTold) → response_reading len terms.summary answer ≡ Ok (PskExchangeRsp rsp)
      → told ≡ told_by rsp → told_of (accepted n exchange answer) ≡ Some told
  unfolding told_of
  told_is rsp told reads is = ap told_in (read_is rsp reads) ∙ ap (λ (t : SessionTold). Some t) (sym is)
