-- A session at the requester while PSK_EXCHANGE_RSP is awaited (DSP0274, "PSK_EXCHANGE",
-- "PSK_EXCHANGE_RSP"), and the session that the answer makes of it.
use Rattle.std.specs.Prelude.{◌≡◌, ℕ, List, [], ◌∷◌, ◌++◌, if◌then◌else◌, Option, Some, None, Result, Ok, Err, bytes_eq}
use Rattle.spdm_grammar.specs.Message.{ResponseMessage}
use Rattle.spdm_grammar.specs.Message.ResponseMessage.{PskExchangeRsp}
use Rattle.spdm_grammar.specs.Message.RequestMessage.{PskFinish}
use Rattle.spdm_grammar.specs.Responses.{response_reading}
use Rattle.spdm_grammar.specs.declared.messages.malformed.Malformed.{Malformed}
use Rattle.spdm_machine.specs.Terms.{terms_of, hash_len}
use Rattle.requester_machine.specs.Answers.{answer_verify}
use Rattle.requester_machine.specs.Message.Ask.{AskFinish}
use Rattle.requester_machine.specs.Records.{sealed_next}
use Rattle.requester_machine.specs.Sending.{finish_verify, inner_request}
use Rattle.requester_machine.specs.Session.{Steps}
use Rattle.requester_machine.specs.Session.Step.{Started, Accepted, Asked}
use Rattle.transcript.specs.Lane as lane
use Rattle.transcript.specs.Transcripts.{Negotiation, vca_of}
use Rattle.transcript.specs.declared.lane.Lane.{Lane}
use Rattle.session_keys.specs.Terms.{AreTermsOf, asks_summary}
use Rattle.session_keys.specs.declared.terms.SessionTerms.{SessionTerms}
use Rattle.psk_session.specs.declared.open_fault.OpenFault.{OpenFault}
use Rattle.psk_session.specs.declared.open_fault.OpenFault.TheVariants as fault

-- ---- The steps of a session that is begun.

-- PSK_EXCHANGE began it, under a negotiation.
abbrev pub started : Negotiation → List ℕ → Steps
started n exchange = Started n exchange ∷ []

-- PSK_EXCHANGE_RSP was taken.
abbrev pub accepted : Negotiation → (exchange answer : List ℕ) → Steps
accepted n exchange answer = Accepted answer ∷ started n exchange

-- The inner message of PSK_FINISH.
abbrev pub finish_inner : (psk : List ℕ) → Steps → List ℕ
finish_inner psk s = inner_request (PskFinish (finish_verify psk s))

-- The record of PSK_FINISH.
abbrev pub finish_record : (psk : List ℕ) → Steps → (pad : List ℕ) → List ℕ
finish_record psk s pad = sealed_next psk s (finish_inner psk s) pad

-- PSK_FINISH was sent.
abbrev pub finishing : (psk : List ℕ) → Negotiation → (exchange answer pad : List ℕ) → Steps
finishing psk n exchange answer pad =
    Asked AskFinish (finish_inner psk (accepted n exchange answer))
    (finish_record psk (accepted n exchange answer) pad) ∷ accepted n exchange answer

-- ---- The state of the program.

-- The state as contracts see it: the running hash of the transcript so far, the pre-shared key and the terms.
pub record Seen : Type 0 where
  pub lane : Lane
  pub psk : List ℕ
  pub terms : SessionTerms

-- The state stands for the session that this PSK_EXCHANGE began under this negotiation, with this pre-shared key.
pub record StandsFor (seen : Seen) (psk : List ℕ) (n : Negotiation)
    (exchange : List ℕ) : Type 0 where
  pub terms : AreTermsOf seen.terms n exchange
  pub key : seen.psk ≡ psk
  pub pushed : lane.StandsFor seen.lane (vca_of n ++ exchange)

-- ---- The answer.

-- Why a message is no answer: it is no PSK_EXCHANGE_RSP, or its verify data are not the computed ones.
abbrev pub fault_by : (psk : List ℕ) → Negotiation → (exchange answer : List ℕ)
    → Result ResponseMessage Malformed → Option OpenFault
fault_by psk n exchange answer (Err at) = Some (fault.Malformed at.at)
fault_by psk n exchange answer (Ok (PskExchangeRsp rsp)) =
    if bytes_eq rsp.verify (answer_verify psk (accepted n exchange answer)) then None
    else Some fault.BadVerify
fault_by psk n exchange answer (Ok _) = Some (fault.Malformed 1)

abbrev pub open_fault : (psk : List ℕ) → Negotiation → (exchange answer : List ℕ) → Option OpenFault
open_fault psk n exchange answer =
    fault_by psk n exchange answer
    (response_reading (hash_len (terms_of n)) (asks_summary exchange) answer)
