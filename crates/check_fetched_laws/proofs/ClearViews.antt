-- While a large response is fetched in the clear, refused answers open, sessions are shown and keys stand as before its
-- request.
use Rattle.std.proofs.Common.{◌≢◌, ◌==◌, ℕ, [], ◌∷◌, ◌++◌, ap, ◌∙◌, Bool, true, false, Option, cond, arith}
use Rattle.spdm_grammar.specs.declared.names.request_code.TheConstants.{GET_VERSION, PSK_EXCHANGE}
use Rattle.spdm_grammar.specs.declared.told.session_view.SessionView.{SessionView}
use Rattle.spdm_machine.specs.Sessions.{id_in_exchange, is_past_handshake}
use Rattle.responder_machine.specs.History.{History, clear_turns, negotiation_of}
use Rattle.responder_machine.specs.History.Entry.{Clear, Sealed, Queued, Ticked, Dropped}
use Rattle.responder_machine.specs.Session.{Events, id_in_record, session_of, stage_of, gives_id}
use Rattle.responder_machine.specs.Session.Event.{Began}
use Rattle.responder_machine.specs.Setup.{RspSetup}
use Rattle.responder_machine.specs.Turn.{Turn, answer_in, request_in, takes}
use Rattle.responder_session.specs.declared.answer_key.AnswerKey.{AnswerKey}
use Rattle.check_responder.specs.AnswerKeys.{IsLastKey, last_key}
use Rattle.check_laws.specs.Changes.{shown}
use Rattle.check_fetched_laws.proofs.ClearLeft.{sessions_are_left}
use Rattle.check_fetched_laws.specs.ClearSessions.{ClearWhyIsBefore, KeysStandOn, ViewsAreLeft}
use Rattle.capture_machine.specs.Opening.{opens_next}

pub clear_why_is_before : ClearWhyIsBefore
clear_why_is_before r gets entry before left m sealed are is leaves =
    ap (λ (s : Events). opens_next r s sealed) (sessions_are_left gets entry before left are is leaves (id_in_record sealed))

pub views_are_left : ViewsAreLeft
views_are_left gets entry before left are is leaves =
    let h : History = gets ++ entry ∷ before in
    let same = λ (id : ℕ). ap shown (sessions_are_left gets entry before left are is leaves id) in
    ap (λ (v : Option SessionView). v ∷ shown (session_of 2 h) ∷ shown (session_of 3 h) ∷ shown (session_of 4 h) ∷ []) (same 1)
    ∙ ap (λ (v : Option SessionView). shown (session_of 1 left) ∷ v ∷ shown (session_of 3 h) ∷ shown (session_of 4 h) ∷ []) (same 2)
    ∙ ap (λ (v : Option SessionView). shown (session_of 1 left) ∷ shown (session_of 2 left) ∷ v ∷ shown (session_of 4 h) ∷ []) (same 3)
    ∙ ap (λ (v : Option SessionView). shown (session_of 1 left) ∷ shown (session_of 2 left) ∷ shown (session_of 3 left) ∷ v ∷ []) (same 4)

-- ---- Keys.

either_key : (r : RspSetup) (b : Bool) (s u : Events) (key : Option AnswerKey) → IsLastKey r s key → IsLastKey r u key → IsLastKey r (cond b s u) key
either_key r true s u key one two = one
either_key r false s u key one two = two

clear_key : (r : RspSetup) (id tag : ℕ) (t : Turn) (d : _) (h : History) (key : Option AnswerKey) → IsLastKey r (session_of id h) key → IsLastKey r (session_of id (Clear tag t d ∷ h)) key
unfolding session_of
clear_key r id tag t d h key is =
    let s : Events = session_of id h in
    let new : Events = Began (negotiation_of (clear_turns h)) (request_in t.effect) (answer_in t.effect) ∷ [] in
    let past : Events = cond (is_past_handshake (stage_of s)) s [] in
    either_key r (takes GET_VERSION t) [] _ key tt
    (either_key r (takes PSK_EXCHANGE t) _ s key (either_key r (gives_id id (answer_in t.effect)) new past key tt (either_key r (is_past_handshake (stage_of s)) s [] key is tt)) is)

dropped_key : (r : RspSetup) (id which : ℕ) (h : History) (key : Option AnswerKey) → IsLastKey r (session_of id h) key → IsLastKey r (session_of id (Dropped which ∷ h)) key
unfolding session_of
dropped_key r id which h key is = either_key r (which == id) [] (session_of id h) key tt is

pub keys_stand_on : KeysStandOn
keys_stand_on seen r [] before are stand = stand
keys_stand_on seen r (Clear tag t d ∷ newer) before are stand =
    let rest = keys_stand_on seen r newer before are.1 stand in record { last = λ id. clear_key r id tag t d (newer ++ before) (last_key seen id) (rest.last id); ended = rest.ended }
keys_stand_on seen r (Dropped which ∷ newer) before are stand =
    let rest = keys_stand_on seen r newer before are.1 stand in record { last = λ id. dropped_key r id which (newer ++ before) (last_key seen id) (rest.last id); ended = rest.ended }
keys_stand_on seen r (Sealed tag m t reply d ∷ newer) before are stand = absurd are.0
keys_stand_on seen r (Queued bytes ∷ newer) before are stand = absurd are.0
keys_stand_on seen r (Ticked seconds ∷ newer) before are stand = absurd are.0
