-- Under which key a session's own answers are sealed, and which records belong to it.
use Rattle.std.specs.Prelude.{◌≡◌, ◌||◌, ℕ, List, Bool, is_none}
use Rattle.key_schedule.specs.Purpose.{Purpose}
use Rattle.responder_machine.specs.Records.{opening_fault, reply_number, reply_purpose, response_purpose}
use Rattle.responder_machine.specs.Responder.{repeats}
use Rattle.responder_machine.specs.Session.{Events, id_bytes, last_of, response_next, session_terms}
use Rattle.responder_machine.specs.Turn.{Turn}
use Rattle.session_keys.specs.Keys.{IsKeyOf}
use Rattle.spdm_basis.specs.SessionIdBytes.{session_id_bytes}
use Rattle.spdm_grammar.specs.declared.messages.choice.Choice.{Choice}
use Rattle.responder_session.specs.declared.answer_key.AnswerKey.{AnswerKey}

-- It opens the record of this number in the session of this id, under the key of this purpose.
pub record IsAnswerKey (seen : AnswerKey) (choice : Choice) (p : Purpose) (counted : ℕ) (session : List ℕ) : Type 0 where
  pub key : IsKeyOf seen.key choice p
  pub number : seen.number ≡ counted
  pub id : session_id_bytes seen.id.req seen.id.rsp ≡ session

-- It opens the next answer of a session.
abbrev pub IsKeyOfNext : AnswerKey → (psk : List ℕ) → Events → Type 0
IsKeyOfNext seen psk s =
    IsAnswerKey seen (session_terms s).choice (response_purpose psk s) (response_next s) (id_bytes s)

-- It opens the answer to a turn of a session.
abbrev pub IsKeyOfReply : AnswerKey → (psk : List ℕ) → Events → Turn → Type 0
IsKeyOfReply seen psk s t =
    IsAnswerKey seen (session_terms s).choice (reply_purpose psk s t) (reply_number s t) (id_bytes s)

-- A record is the last one that a session took, or opens as its next one.
abbrev pub belongs_to : (psk : List ℕ) → Events → (sealed : List ℕ) → Bool
belongs_to psk s sealed = repeats (last_of s) sealed || is_none (opening_fault psk s sealed)
