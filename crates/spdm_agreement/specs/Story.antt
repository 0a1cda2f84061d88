-- The marks of the two ends, counted out of their histories, and the sessions that they name.
use Rattle.std.specs.Prelude.{◌++◌, ℕ, List, [], ◌∷◌, if◌then◌else◌, Option, Some, None}
use Rattle.key_schedule.specs.Purpose.{Purpose, key_of, iv_of}
use Rattle.requester_machine.specs.Answers.{with_answer}
use Rattle.requester_machine.specs.History as asked
use Rattle.requester_machine.specs.History.{Effect, Led}
use Rattle.requester_machine.specs.History.Effect.{Answers}
use Rattle.requester_machine.specs.History.Entry.{Told, TookClear, TookRecord}
use Rattle.requester_machine.specs.Message.{Ask, Aim, Command, Content, Sent, asked_in}
use Rattle.requester_machine.specs.Message.Aim.{InSession}
use Rattle.requester_machine.specs.Message.Ask.{AskEnd}
use Rattle.requester_machine.specs.Message.Command.{Open}
use Rattle.requester_machine.specs.Message.Content.{Clear, Sealed}
use Rattle.requester_machine.specs.Records.{answer_purpose, answer_number}
use Rattle.requester_machine.specs.RequesterLog.{steps_at}
use Rattle.requester_machine.specs.Session as requester
use Rattle.requester_machine.specs.Session.{Step}
use Rattle.secured_record.specs.Faults.{opened_text}
use Rattle.secured_record.specs.Format.{plain_text}
use Rattle.spdm_agreement.specs.Marks.{Asked, Served, Text}
use Rattle.spdm_agreement.specs.Marks.Asked.{Started, Accepted, Opened, Heard}
use Rattle.spdm_agreement.specs.Marks.Served.{Began, Finished, Refused, Took}
use Rattle.spdm_agreement.specs.Reading.{First}
use Rattle.spdm_grammar.specs.Message.{RequestMessage}
use Rattle.spdm_grammar.specs.Message.RequestMessage.{PskExchange}
use Rattle.spdm_grammar.specs.declared.messages.choice.Choice.{Choice}
use Rattle.spdm_grammar.specs.declared.told.phase.Stage.{Stage}
use Rattle.spdm_grammar.specs.declared.told.phase.Stage.TheVariants as stage
use Rattle.responder_machine.specs.History as served
use Rattle.responder_machine.specs.History.{Entry}
use Rattle.spdm_machine.specs.Keys.{Draw}
use Rattle.responder_machine.specs.Records.{request_purpose}
use Rattle.responder_machine.specs.Responder.{inner_reply}
use Rattle.responder_machine.specs.ResponderLog.{began_by}
use Rattle.responder_machine.specs.Session as responder
use Rattle.responder_machine.specs.Session.{Event}
use Rattle.requester_machine.specs.Setup.{ReqSetup}
use Rattle.responder_machine.specs.Setup.{RspSetup}
use Rattle.responder_machine.specs.Turn.{Turn, takes}
use Rattle.spdm_machine.specs.TagLog.{Log}
use Rattle.spdm_grammar.specs.declared.names.request_code.TheConstants.{PSK_EXCHANGE, PSK_FINISH}

-- ---- Where ends go on from.

-- What ends go on from: the marks of the requester and of the responder's connection of each set-up, and the tags that all
-- ends computed and compared, all from before the first moment of their histories.
pub record Past : Type 0 where
  pub asked : ReqSetup → List Asked
  pub served : RspSetup → List Served
  pub log : Log

-- Nothing was before.
abbrev pub no_past : Past
no_past = record { asked = λ q. []; served = λ r. []; log = [] }

-- ---- What is read off a record.

-- The text of a record under a purpose and number.
unfoldable pub text_of : Choice → Purpose → ℕ → List ℕ → Text
text_of choice p number sealed = opened_text (key_of choice.hash choice.aead p) (iv_of choice.hash p) number sealed

-- The text of a message that a requester sealed.
abbrev pub sent_text : Content → Text
sent_text (Clear message) = []
sent_text (Sealed sealed inner pad) = plain_text inner pad

-- The text of the record that answers a turn: this project's responder pads none.
abbrev pub reply_text : Turn → Text
reply_text t = plain_text (inner_reply t) []

-- ---- The requester.

-- What a session began with.
abbrev pub asked_first : requester.Steps → First
asked_first s = record { negotiation = requester.session_negotiation s; exchange = requester.exchange_of s; answer = requester.exchange_answer s }

-- The ReqSessionID of PSK_EXCHANGE.
abbrev pub exchange_id : Option RequestMessage → ℕ
exchange_id (Some (PskExchange exchange)) = exchange.req_id
exchange_id _ = 0

-- A request of a session is sealed; a message in the clear is none.
abbrev pub content_marks : requester.Steps → Content → List Asked
content_marks s (Clear message) = []
content_marks s (Sealed sealed inner pad) = Asked.Sealed (requester.t2_of s) (plain_text inner pad) ∷ []

abbrev pub next_marks : requester.Steps → Option Sent → List Asked
next_marks s None = []
next_marks s (Some sent) = content_marks s sent.content

-- Open asks for a session.
abbrev pub command_marks : asked.History → Command → Sent → Draw → List Asked
command_marks h (Open summary) sent d = Started (exchange_id (asked_in sent.aim)) d.number ∷ []
command_marks h _ sent d = content_marks (steps_at h sent.aim) sent.content

-- PSK_EXCHANGE_RSP is taken.
abbrev pub clear_marks : asked.History → Effect → List Asked
clear_marks h (Answers (PskExchange exchange) answer) = Accepted (asked_first (with_answer h exchange answer)) ∷ []
clear_marks h _ = []

-- The request that a record answers: its text, and what it asks for.
abbrev pub request_text : Option Sent → Text
request_text None = []
request_text (Some sent) = sent_text sent.content

abbrev pub ask_of : Aim → Ask
ask_of (InSession id ask) = ask
ask_of _ = AskEnd

abbrev pub ask_in : Option Sent → Ask
ask_in None = AskEnd
ask_in (Some sent) = ask_of sent.aim

-- The text of a record that answers.
abbrev pub answer_text : List ℕ → requester.Steps → Ask → List ℕ → Text
answer_text psk s ask sealed = text_of (requester.session_terms s).choice (answer_purpose psk s ask) (answer_number s ask) sealed

-- A record is taken in the handshake: with PSK_FINISH_RSP the session is open. After it, a record is a reply, and the
-- next request may go out with it.
abbrev pub taken_marks : Stage → ReqSetup → requester.Steps → Option Sent → (sealed inner : List ℕ) → Led → List Asked
taken_marks stage.Handshake q s waiting sealed inner led =
    if requester.finishes led.effect then Opened (asked_first s) (requester.t2_of (Step.Took sealed inner led.effect ∷ s)) ∷ [] else []
taken_marks stage.Open q s waiting sealed inner led =
    next_marks (Step.Took sealed inner led.effect ∷ s) led.next ++ Heard (requester.t2_of s) (request_text waiting) (answer_text q.psk s (ask_in waiting) sealed) ∷ []
taken_marks stage.Verifying q s waiting sealed inner led =
    next_marks (Step.Took sealed inner led.effect ∷ s) led.next ++ Heard (requester.t2_of s) (request_text waiting) (answer_text q.psk s (ask_in waiting) sealed) ∷ []

-- The marks of a history, in front of those from which its end goes on.
abbrev pub asked_from : Past → ReqSetup → asked.History → List Asked
asked_from prior q [] = prior.asked q
asked_from prior q (Told command sent d ∷ older) = command_marks older command sent d ++ asked_from prior q older
asked_from prior q (TookClear tag m led d ∷ older) = clear_marks older led.effect ++ asked_from prior q older
asked_from prior q (TookRecord tag id sealed inner led d ∷ older) =
    taken_marks (requester.stage_of (requester.session_of id older)) q (requester.session_of id older) (asked.outstanding older) sealed inner led ++ asked_from prior q older

-- The marks of a history alone.
abbrev pub asked_marks : ReqSetup → asked.History → List Asked
asked_marks q h = asked_from no_past q h

-- ---- The responder.

abbrev pub served_first : responder.Events → First
served_first s = record { negotiation = responder.session_negotiation s; exchange = responder.exchange_of s; answer = responder.exchange_answer s }

-- The text of a record that was taken.
abbrev pub taken_text : List ℕ → responder.Events → List ℕ → Text
taken_text psk s sealed = text_of (responder.session_terms s).choice (request_purpose psk s) (responder.request_next s) sealed

-- A record is taken in the handshake: it is PSK_FINISH, or is refused. After it, a record is a request.
abbrev pub served_turn : Stage → RspSetup → responder.Events → List ℕ → Turn → List ℕ → List Served
served_turn stage.Handshake r s sealed t reply =
    if takes PSK_FINISH t then Finished (served_first s) (responder.t2_of (Event.Heard sealed t reply ∷ s)) ∷ []
    else Refused (served_first s) (reply_text t) ∷ []
served_turn stage.Open r s sealed t reply = Took (responder.t2_of s) (taken_text r.psk s sealed) (reply_text t) ∷ []
served_turn stage.Verifying r s sealed t reply = Took (responder.t2_of s) (taken_text r.psk s sealed) (reply_text t) ∷ []

-- A record for no live session leaves none.
abbrev pub record_marks : RspSetup → responder.Events → List ℕ → Turn → List ℕ → List Served
record_marks r [] sealed t reply = []
record_marks r (e ∷ s) sealed t reply = served_turn (responder.stage_of (e ∷ s)) r (e ∷ s) sealed t reply

-- PSK_EXCHANGE is answered.
abbrev pub began_marks : served.History → Turn → List Served
began_marks h t = if takes PSK_EXCHANGE t then Began (served_first (began_by h t)) ∷ [] else []

abbrev pub served_from : Past → RspSetup → served.History → List Served
served_from prior r [] = prior.served r
served_from prior r (Entry.Clear tag t d ∷ older) = began_marks older t ++ served_from prior r older
served_from prior r (Entry.Sealed tag sealed t reply d ∷ older) = record_marks r (responder.session_of (responder.id_in_record sealed) older) sealed t reply ++ served_from prior r older
served_from prior r (_ ∷ older) = served_from prior r older

abbrev pub served_marks : RspSetup → served.History → List Served
served_marks r h = served_from no_past r h
