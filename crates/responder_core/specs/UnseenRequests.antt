-- A request in the clear whose large response was never seen; used only by the checker. This project's own.
use Rattle.std.specs.Prelude.{◌≡◌, ℕ, List, [], Bool, false, true, None}
use Rattle.responder_machine.specs.Turn.{Turn, answer_in, handle_in, is_taken, takes}
use Rattle.spdm_grammar.specs.declared.names.request_code.TheConstants.{CHUNK_GET, GET_CAPABILITIES, GET_VERSION, NEGOTIATE_ALGORITHMS, PSK_EXCHANGE}

-- It was taken, is no chunk, and has no answer; and it is none of the negotiation, and no CHUNK_GET.
pub record IsUnseenTurn (t : Turn) : Type 0 where
  pub taken : is_taken t ≡ true
  pub whole : t.chunk ≡ None
  pub unseen : answer_in t.effect ≡ []
  pub no_handle : handle_in t.effect ≡ None
  pub no_get : takes CHUNK_GET t ≡ false
  pub no_version : takes GET_VERSION t ≡ false
  pub no_capabilities : takes GET_CAPABILITIES t ≡ false
  pub no_algorithms : takes NEGOTIATE_ALGORITHMS t ≡ false

-- It is this message, with this reply, and is PSK_EXCHANGE or is not.
pub record IsTurnOf (t : Turn) (m out : List ℕ) (begins : Bool) : Type 0 where
  pub message : t.message ≡ m
  pub reply : t.reply ≡ out
  pub exchange : takes PSK_EXCHANGE t ≡ begins
