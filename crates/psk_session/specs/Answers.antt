-- How the answers of responders are read.
use Rattle.std.specs.Prelude.{ℕ, Option, Some, None, Result, Ok, Err}
use Rattle.spdm_grammar.specs.Message.{ResponseMessage}
use Rattle.spdm_grammar.specs.Message.ResponseMessage.{PskExchangeRsp}
use Rattle.spdm_grammar.specs.declared.messages.malformed.Malformed.{Malformed}

-- Where a message is no PSK_EXCHANGE_RSP: at its first fault where it does not read, and at its code, byte 1, where it
-- is another response. Nowhere where it is one.
abbrev pub no_exchange_rsp : Result ResponseMessage Malformed → Option ℕ
no_exchange_rsp (Err fault) = Some fault.at
no_exchange_rsp (Ok (PskExchangeRsp rsp)) = None
no_exchange_rsp (Ok _) = Some 1
