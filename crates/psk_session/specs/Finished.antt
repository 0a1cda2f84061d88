-- What comes of a record while PSK_FINISH_RSP is awaited. The answers are those of the definitions of a requester.
use Rattle.std.specs.Prelude.{◌≡◌, ℕ, List, drop, Option, Some, None, Result, Ok, Err}
use Rattle.requester_machine.specs.Answers.{is_done}
use Rattle.requester_machine.specs.Commands.{Free}
use Rattle.requester_machine.specs.History.{History, Led}
use Rattle.requester_machine.specs.History.Effect.{Grants}
use Rattle.requester_machine.specs.InnerMessages.{Came, inner_led, message_in}
use Rattle.requester_machine.specs.Message.Ask.{AskFinish}
use Rattle.requester_machine.specs.Records.{answer_fault, answer_inner}
use Rattle.requester_machine.specs.Session.{Steps, session_id, session_terms}
use Rattle.requester_machine.specs.Setup.{ReqSetup}
use Rattle.spdm_grammar.specs.Message.ResponseMessage.{PskFinishRsp, Error}
use Rattle.spdm_grammar.specs.declared.told.event.BadReply.{BadReply}
use Rattle.spdm_grammar.specs.declared.told.event.BadReply.TheVariants as bad
use Rattle.spdm_grammar.specs.declared.told.event.Finished.TheVariants as finished
use Rattle.psk_session.specs.Course.{came_to, with_taken}
use Rattle.psk_session.specs.Finishing as finishing
use Rattle.psk_session.specs.Inner.{Contents}
use Rattle.psk_session.specs.Inner.Contents.{Spoken, AppData}
use Rattle.psk_session.specs.ReqOpen as open_state
use Rattle.psk_session.specs.declared.finish_answer.FinishAnswer.{FinishAnswer}
use Rattle.psk_session.specs.declared.finish_answer.FinishAnswer.TheVariants as answered
use Rattle.psk_session.specs.declared.finish_took.FinishTook.{FinishTook}
use Rattle.psk_session.specs.declared.finish_took.FinishTook.TheVariants as took

-- ---- The inner message.

-- Why contents are not PSK_FINISH_RSP: an ERROR refuses, and all else is of the wrong kind.
abbrev pub finish_fault : Result Contents BadReply → Option BadReply
finish_fault (Err fault) = Some fault
finish_fault (Ok (Spoken PskFinishRsp)) = None
finish_fault (Ok (Spoken (Error version code detail extended))) = Some (bad.Refused code)
finish_fault (Ok (Spoken _)) = Some bad.WrongKind
finish_fault (Ok (AppData bytes)) = Some bad.WrongKind

-- What a record leads to whose inner message is at fault or not: the session is open.
abbrev pub finish_led : Came → Option BadReply → Result Led BadReply
finish_led came (Some fault) = Err fault
finish_led came None =
    Ok (is_done (finished.Opened (session_id came.steps)) (Grants AskFinish (message_in came)))

-- ---- The record.

-- The record is taken with this verdict on its inner message, by each requester whose transfer size is that of the
-- session's terms.
abbrev pub IsJudged : (psk : List ℕ) → Steps → (sealed : List ℕ) → Option BadReply → Type 0
IsJudged psk s sealed verdict =
    (answer_fault psk s AskFinish sealed ≡ None)
    × ((q : ReqSetup) (h : History) (f : Free) (id : ℕ)
    → q.transfer ≡ (session_terms s).common.to_requester.transfer
    → inner_led q h f (came_to psk id s AskFinish sealed) AskFinish
    ≡ finish_led (came_to psk id s AskFinish sealed) verdict)

-- The session with PSK_FINISH_RSP.
abbrev pub finished_by : (psk : List ℕ) → Steps → (sealed : List ℕ) → Steps
finished_by psk s sealed =
    with_taken psk s AskFinish sealed
    (Grants AskFinish (drop 1 (answer_inner psk s AskFinish sealed)))

-- The outcome of a record: the session is open; it is lost; or the record did not open, with its fault.
abbrev pub IsFinishAnswer : (psk : List ℕ) → Steps → (sealed : List ℕ) → FinishAnswer → Type 0
IsFinishAnswer psk s sealed (answered.Open state) =
    IsJudged psk s sealed None × open_state.StandsFor state psk (finished_by psk s sealed)
IsFinishAnswer psk s sealed (answered.Bad fault) = IsJudged psk s sealed (Some fault)
IsFinishAnswer psk s sealed (answered.Stay fault) = answer_fault psk s AskFinish sealed ≡ Some fault

-- The same, where a record that does not open leaves the same state.
abbrev pub IsFinishTook : finishing.Seen → (psk : List ℕ) → Steps → (sealed : List ℕ) → FinishTook
    → Type 0
IsFinishTook old psk s sealed (took.Open state) =
    IsJudged psk s sealed None × open_state.StandsFor state psk (finished_by psk s sealed)
IsFinishTook old psk s sealed (took.Bad closed fault) = IsJudged psk s sealed (Some fault)
IsFinishTook old psk s sealed (took.Stay state fault) =
    (answer_fault psk s AskFinish sealed ≡ Some fault) × (state ≡ old)
