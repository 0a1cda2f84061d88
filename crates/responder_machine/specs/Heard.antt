-- What is reported of a packet that a responder was given, and what is seen of its sessions. This project's own.
use Rattle.std.specs.Prelude.{ℕ, List, [], ◌∷◌, ◌++◌, if◌then◌else◌, Option, Some, None}
use Rattle.spdm_basis.specs.declared.values.session_id.SessionId.{SessionId}
use Rattle.spdm_grammar.specs.ErrorNumber.{error_number}
use Rattle.spdm_grammar.specs.declared.messages.error_code.ErrorCode.{ErrorCode}
use Rattle.spdm_grammar.specs.declared.told.heard.Heard.{Heard}
use Rattle.spdm_grammar.specs.declared.told.heard.Heard.TheVariants as heard
use Rattle.byteorder.specs.Endian.{little_number}
use Rattle.std.specs.Prelude.{drop}
use Rattle.spdm_grammar.specs.declared.told.session_view.SessionView.{SessionView}
use Rattle.spdm_machine.specs.Sessions.{transcript_in}
use Rattle.responder_machine.specs.History.{History, Entry}
use Rattle.responder_machine.specs.History.Entry.{Clear, Sealed}
use Rattle.responder_machine.specs.Refusal.{code_of}
use Rattle.responder_machine.specs.Responder.{Outcome}
use Rattle.responder_machine.specs.Responder.Outcome.{Same, Unopened, Adds}
use Rattle.responder_machine.specs.Session.{Events, session_of, session_terms, session_hash, exchange_of, exchange_answer, stage_of, request_epoch, response_epoch, request_next, response_next, taken_of, t1_of, t2_of}
use Rattle.spdm_machine.specs.Sessions.{id_in_exchange}
use Rattle.responder_machine.specs.Turn.{Turn, is_data}

-- The session that a record names.
abbrev pub record_id : List ℕ → SessionId
record_id sealed = record { req = little_number 2 sealed; rsp = little_number 2 (drop 2 sealed) }

-- A turn is determined by the code with which it was refused, as data taken in the session, or by the code of its
-- message, that of CHUNK_SEND for a large request.
abbrev pub heard_in : Turn → SessionId → Option ErrorCode → Heard
heard_in t id (Some e) = heard.Refused (error_number e)
heard_in t id None = if is_data t.effect then heard.Taken id else heard.Answered (code_of t.message)

-- What stands for the id of a session where there is none.
abbrev pub no_id : SessionId
no_id = record { req = 0; rsp = 0 }

-- An entry is determined by its turn: in the clear with no session, in a record with the session that it names. One
-- that is no message, which no body adds, is told as a repeat.
abbrev pub heard_by : Entry → Heard
heard_by (Clear tag t d) = heard_in t no_id t.refused
heard_by (Sealed tag sealed t reply d) = heard_in t (record_id sealed) t.refused
heard_by _ = heard.Same

-- An outcome is told as a repeat, as a record that no session opens, or by the entry that it adds.
abbrev pub heard_of : Outcome → Heard
heard_of (Same body) = heard.Same
heard_of (Unopened body) = heard.Unopened
heard_of (Adds entry) = heard_by entry

-- ---- Sessions as they are shown.

-- The id of a session: ReqSessionID of its PSK_EXCHANGE, and RspSessionID of the answer.
abbrev pub session_id : Events → SessionId
session_id s = record { req = id_in_exchange (exchange_of s); rsp = id_in_exchange (exchange_answer s) }

-- A view of a session, read off its own history.
unfoldable pub view_of : Events → SessionView
view_of s = record {
  id = session_id s;
  stage = stage_of s;
  request_epoch = request_epoch s;
  response_epoch = response_epoch s;
  request_next = request_next s;
  response_next = response_next s;
  taken = taken_of s;
  hash = (session_hash s).digest (transcript_in (stage_of s) (t1_of s) (t2_of s));
  choice = (session_terms s).choice;
}

-- A live session is shown; where there is none, nothing is.
abbrev pub view_if_live : Events → List SessionView
view_if_live [] = []
view_if_live (e ∷ s) = view_of (e ∷ s) ∷ []

-- The live sessions, by rising RspSessionID.
abbrev pub views_of : History → List SessionView
views_of h = view_if_live (session_of 1 h) ++ view_if_live (session_of 2 h) ++ view_if_live (session_of 3 h) ++ view_if_live (session_of 4 h)
