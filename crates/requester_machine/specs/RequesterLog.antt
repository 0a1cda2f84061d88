-- The tags that a requester computes and compares, message by message. This project's own.
use Rattle.std.specs.Prelude.{ℕ, List, [], ◌∷◌, ◌++◌, drop, Option, Some, None, Result, Ok}
use Rattle.key_schedule.specs.Purpose.{verify}
use Rattle.key_schedule.specs.declared.direction.Direction.TheVariants as direction
use Rattle.spdm_grammar.specs.Message.{RequestMessage, ResponseMessage, ExchangeRspMessage}
use Rattle.spdm_grammar.specs.Message.RequestMessage.{PskExchange}
use Rattle.spdm_grammar.specs.Message.ResponseMessage.{PskExchangeRsp}
use Rattle.spdm_grammar.specs.declared.told.event.ReqIgnored.{ReqIgnored}
use Rattle.spdm_grammar.specs.declared.told.event.ReqIgnored.TheVariants as ignored
use Rattle.spdm_grammar.specs.declared.messages.malformed.Malformed.{Malformed}
use Rattle.requester_machine.specs.Setup.{ReqSetup}
use Rattle.spdm_machine.specs.TagLog.{Act, made_record, checked_record}
use Rattle.spdm_machine.specs.TagLog.Act.{Made, Checked}
use Rattle.requester_machine.specs.Answers.{with_answer, answer_verify}
use Rattle.requester_machine.specs.Asking.{Outcome}
use Rattle.requester_machine.specs.Asking.Outcome.{Fails, Ignores, Warns, Resends, Adds}
use Rattle.requester_machine.specs.ClearAnswers.{Carried, carried_by, reading_of}
use Rattle.requester_machine.specs.ClearAnswers.Carried.{Whole}
use Rattle.requester_machine.specs.History.{History, Effect, Led, outstanding}
use Rattle.requester_machine.specs.History.Effect.{Answers}
use Rattle.requester_machine.specs.History.Entry.{Told, TookClear, TookRecord}
use Rattle.requester_machine.specs.InnerMessages.{Came, with_record}
use Rattle.requester_machine.specs.Message.{Ask, Aim, Content, Sent, asked_in}
use Rattle.requester_machine.specs.Message.Aim.{InSession}
use Rattle.requester_machine.specs.Message.Content.{Clear, Sealed}
use Rattle.requester_machine.specs.Records.{request_purpose, answer_purpose, answer_number}
use Rattle.requester_machine.specs.Sending.{finish_input, finish_verify}
use Rattle.requester_machine.specs.Session.{Steps, session_of, session_terms, id_bytes, request_next, t1_of}

-- ---- What is made. Each list has the newest act first.

-- A record that is sent, by the session as it stands when it is sealed.
abbrev pub record_made : List ℕ → Steps → Content → List Act
record_made psk s (Clear message) = []
record_made psk s (Sealed sealed inner pad) = made_record (session_terms s).choice (request_purpose psk s) (request_next s) sealed ∷ []

-- What is made with the message that is sent, if one is.
abbrev pub sent_made : List ℕ → Steps → Option Sent → List Act
sent_made psk s None = []
sent_made psk s (Some sent) = record_made psk s sent.content

-- The session whose record a command sends.
abbrev pub steps_at : History → Aim → Steps
steps_at h (InSession id ask) = session_of id h
steps_at h _ = []

-- The verify data of PSK_FINISH.
abbrev pub finish_made : List ℕ → Steps → Act
finish_made psk s = Made (verify psk (t1_of s) direction.Request) (finish_input s) (finish_verify psk s)

-- With the answer to PSK_EXCHANGE, PSK_FINISH is made: first its verify data, then its record.
abbrev pub answer_made : List ℕ → History → Effect → Option Sent → List Act
answer_made psk h (Answers (PskExchange exchange) answer) next =
    sent_made psk (with_answer h exchange answer) next ++ finish_made psk (with_answer h exchange answer) ∷ []
answer_made psk h _ next = []

-- ---- What is compared.

-- The verify data of a PSK_EXCHANGE_RSP.
abbrev pub answer_check : List ℕ → Steps → ExchangeRspMessage → Act
answer_check psk s rsp = Checked (verify psk (t1_of s) direction.Response) (t1_of s) (answer_verify psk s) rsp.verify

-- An answer that reads has verify data to compare where it is the PSK_EXCHANGE_RSP to a PSK_EXCHANGE.
abbrev pub read_check : ReqSetup → History → RequestMessage → List ℕ → Result ResponseMessage Malformed → List Act
read_check q h (PskExchange exchange) answer (Ok (PskExchangeRsp rsp)) = answer_check q.psk (with_answer h exchange answer) rsp ∷ []
read_check q h _ answer _ = []

-- Verify data are compared in a whole answer alone.
abbrev pub carried_check : ReqSetup → History → RequestMessage → Carried → List Act
carried_check q h asked (Whole answer place) = read_check q h asked answer (reading_of h asked answer)
carried_check q h asked _ = []

-- By the request in the clear that was asked; what is asked of a session has no verify data in its answer.
abbrev pub aim_check : ReqSetup → History → List ℕ → Aim → Option RequestMessage → List Act
aim_check q h m aim None = []
aim_check q h m aim (Some asked) = carried_check q h asked (carried_by q h m aim)

-- The verify data that a clear message brings whole to a PSK_EXCHANGE.
abbrev pub clear_check : ReqSetup → History → List ℕ → Option Sent → List Act
clear_check q h m None = []
clear_check q h m (Some sent) = aim_check q h m sent.aim (asked_in sent.aim)

-- The tag of a record that came to a session which asked this.
abbrev pub record_check : ReqSetup → Steps → Ask → List ℕ → List Act
record_check q s ask sealed = checked_record (session_terms s).choice (answer_purpose q.psk s ask) (answer_number s ask) (id_bytes s) sealed

-- The tag of a record is compared where a session was asked something.
abbrev pub check_at : ReqSetup → History → List ℕ → Aim → List Act
check_at q h sealed (InSession id ask) = record_check q (session_of id h) ask sealed
check_at q h sealed _ = []

-- The tag of a record is compared by the outstanding message, if there is one.
abbrev pub sealed_check : ReqSetup → History → List ℕ → Option Sent → List Act
sealed_check q h sealed None = []
sealed_check q h sealed (Some sent) = check_at q h sealed sent.aim

-- ---- By outcome. Of what is ignored, only wrong verify data and a record had a tag compared.

-- What was compared of an ignored body: wrong verify data, the tag of a record with a fault, or nothing.
abbrev pub ignored_acts : ReqSetup → History → List ℕ → ReqIgnored → List Act
ignored_acts q h body ignored.BadVerify = clear_check q h (drop 1 body) (outstanding h)
ignored_acts q h body (ignored.Record fault) = sealed_check q h (drop 1 body) (outstanding h)
ignored_acts q h body _ = []

-- A record that was taken, and the one that is sent next.
abbrev pub taken_acts : ReqSetup → History → Came → Led → List Act
taken_acts q h came led = sent_made q.psk (with_record came led.effect) led.next ++ sealed_check q h came.sealed (outstanding h)

-- The acts of a command, or of a body that came, with this outcome.
abbrev pub acts_of : ReqSetup → History → List ℕ → Outcome → List Act
acts_of q h body (Fails fault) = []
acts_of q h body (Ignores cause) = ignored_acts q h body cause
acts_of q h body (Warns code) = []
acts_of q h body (Resends sent) = []
acts_of q h body (Adds (Told command sent d)) = record_made q.psk (steps_at h sent.aim) sent.content
acts_of q h body (Adds (TookClear tag m led d)) = answer_made q.psk h led.effect led.next ++ clear_check q h m (outstanding h)
acts_of q h body (Adds (TookRecord tag id sealed inner led d)) =
    taken_acts q h (record { id = id; steps = session_of id h; sealed = sealed; inner = inner }) led
