-- Under which key a responder's own answers in sessions are sealed, and which records belong to a session.
use Rattle.std.specs.Prelude.{◌≡◌, ◌==◌, ◌&&◌, not, ℕ, List, Bool, true, false, Option, Some, None, is_none}
use Rattle.responder_machine.specs.Answer.{Free}
use Rattle.responder_machine.specs.Records.{opened, opening_fault}
use Rattle.responder_machine.specs.Session.{Events, is_live, response_next}
use Rattle.responder_machine.specs.Setup.{RspSetup}
use Rattle.responder_session.specs.OwnAnswers.{IsKeyOfNext, IsKeyOfReply}
use Rattle.responder_session.specs.OwnAnswers as session
use Rattle.responder_session.specs.Took.{turn_in}
use Rattle.responder_session.specs.declared.answer_key.AnswerKey.{AnswerKey}
use Rattle.spdm_grammar.specs.declared.names.TheConstants.{MAX_RECORDS}

-- There is a session, and its key of answers has a number left.
abbrev pub has_next : Events → Bool
has_next s = is_live s && not (response_next s == MAX_RECORDS)

-- There is a session in which the record opens as the next one of the requester.
abbrev pub opens_in : RspSetup → Events → (sealed : List ℕ) → Bool
opens_in r s sealed = is_live s && is_none (opening_fault r.psk s sealed)

-- There is a session that took the record last, or in which it opens.
abbrev pub belongs_in : RspSetup → Events → (sealed : List ℕ) → Bool
belongs_in r s sealed = is_live s && session.belongs_to r.psk s sealed

-- The key of the next answer of a session; none exactly when it has none.
abbrev pub IsNextKey : RspSetup → Events → Option AnswerKey → Type 0
IsNextKey r s None = has_next s ≡ false
IsNextKey r s (Some key) = (has_next s ≡ true) × IsKeyOfNext key r.psk s

-- The key of the answer to a record, with its inner message; none exactly when the record does not open.
abbrev pub IsReplyKey : RspSetup → Events → Free → (request inner : List ℕ) → Option AnswerKey → Type 0
IsReplyKey r s f request inner None = opens_in r s request ≡ false
IsReplyKey r s f request inner (Some key) =
    (opens_in r s request ≡ true) × (inner ≡ opened r.psk s request) × IsKeyOfReply key r.psk s (turn_in r s f request)
