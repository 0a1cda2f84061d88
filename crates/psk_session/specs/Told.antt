-- What PSK_EXCHANGE_RSP tells the requester of a session, beside the session's id (DSP0274, "PSK_EXCHANGE_RSP response
-- message format").
use Rattle.std.specs.Prelude.{◌≤◌, Option, Some, None, Result, Ok, length, if◌then◌else◌}
use Rattle.psk_session.specs.declared.session_told.SessionTold.{SessionTold}
use Rattle.requester_machine.specs.Session.{Steps, exchange_answer, exchange_of, is_accepted, session_terms}
use Rattle.session_keys.specs.Terms.{asks_summary}
use Rattle.spdm_grammar.specs.Message.{ExchangeRspMessage, ResponseMessage}
use Rattle.spdm_grammar.specs.Message.ResponseMessage.{PskExchangeRsp}
use Rattle.spdm_grammar.specs.Responses.{response_reading}
use Rattle.spdm_grammar.specs.declared.names.TheConstants.{MAX_OPAQUE_LEN}
use Rattle.spdm_grammar.specs.declared.messages.malformed.Malformed.{Malformed}
use Rattle.spdm_machine.specs.Terms.{hash_len}

-- The HeartbeatPeriod, the measurement summary hash and the opaque data of an answer.
abbrev pub told_by : ExchangeRspMessage → SessionTold
told_by rsp = record { period = rsp.heartbeat; summary = rsp.summary; opaque = rsp.opaque }

-- No longer than these fields are in any answer that has an encoding.
abbrev pub FitsTold : ExchangeRspMessage → Type 0
FitsTold rsp = (length rsp.summary ≤ 48) × (length rsp.opaque ≤ MAX_OPAQUE_LEN)

-- What a message told that was read as an answer.
abbrev pub told_in : Result ResponseMessage Malformed → Option SessionTold
told_in (Ok (PskExchangeRsp rsp)) = Some (told_by rsp)
told_in _ = None

-- What a session's PSK_EXCHANGE_RSP told; nothing before it was taken.
unfoldable pub told_of : Steps → Option SessionTold
told_of s =
    if is_accepted s then told_in (response_reading (hash_len (session_terms s)) (asks_summary (exchange_of s)) (exchange_answer s))
    else None
