-- How many records the keys of a session seal and take at a requester. A number has two bytes (DSP0277, "Sequence
-- number"), and the next one is counted up to 65,536; the laws are this project's own.
use Rattle.std.specs.Prelude.{⊤, ◌≡◌, ◌≤◌, ◌+◌, ℕ, [], ◌∷◌, Option, Some, None, true, false}
use Rattle.key_schedule.specs.Purpose.{Purpose}
use Rattle.requester_machine.specs.Setup.{ReqSetup}
use Rattle.requester_machine.specs.Does.{IsMade}
use Rattle.requester_machine.specs.History.{History, outstanding}
use Rattle.requester_machine.specs.Laws.{sealed_under}
use Rattle.requester_machine.specs.Message.{Ask, Sent}
use Rattle.requester_machine.specs.Message.Ask.{AskFinish, AskData, AskBeat, AskUpdate, AskVerify, AskMeasure, AskChunk, AskEnd}
use Rattle.requester_machine.specs.Message.Aim.{InSession}
use Rattle.requester_machine.specs.Order.{Waits, waiting_ask}
use Rattle.requester_machine.specs.Order.Waits.{Rests, ForExchange, ForRecord}
use Rattle.requester_machine.specs.Records.{answer_number}
use Rattle.requester_machine.specs.ResponseLaws.{taken_under}
use Rattle.requester_machine.specs.Session.{Steps, session_of, request_next, response_next}
use Rattle.requester_machine.specs.Session.Step.{Asked, Took}
use Rattle.spdm_grammar.specs.declared.names.TheConstants.{MAX_RECORDS}

-- The number under which the answer to what waits is taken; where nothing waits, none is.
abbrev pub number_for : Steps → Option Ask → ℕ
number_for s None = 0
number_for s (Some ask) = answer_number s ask

-- What bounds the next numbers while something is asked. Each chunk of a large response adds one to both.
abbrev pub FewFor : Ask → (request response : ℕ) → Type 0
FewFor AskFinish request response = (request ≤ 65535) × (response ≤ 65534)
FewFor AskData request response = (request ≤ 65535) × (response ≤ 65534)
FewFor AskBeat request response = (request ≤ 65535) × (response ≤ 65534)
FewFor (AskUpdate true) request response = (request ≤ MAX_RECORDS) × (response ≤ 65535)
FewFor (AskUpdate false) request response = (request ≤ 65535) × (response ≤ 65533)
FewFor AskVerify request response = (request ≤ 65535) × (response ≤ 65534)
FewFor (AskMeasure op) request response = (request ≤ 65300) × (response ≤ 65299)
FewFor (AskChunk op handle number before) request response = (request ≤ 65301 + number) × (response ≤ 65300 + number) × (number ≤ 157)
FewFor AskEnd request response = (request ≤ MAX_RECORDS) × (response ≤ 65535)

-- What bounds them by what the session waits for.
abbrev pub FewBy : Waits → Steps → Type 0
FewBy Rests s = (request_next s ≤ 65535) × (response_next s ≤ 65535)
FewBy ForExchange s = (request_next s ≤ 0) × (response_next s ≤ 0)
FewBy (ForRecord ask) s = FewFor ask (request_next s) (response_next s)

-- Each record was sealed under a number of at most 65,535, and each one that the session outlived was taken under a
-- number of at most 65,534.
abbrev pub AreNumbersFew : Steps → Type 0
AreNumbersFew [] = ⊤
AreNumbersFew (Asked ask inner sealed ∷ older) = (request_next older ≤ 65535) × AreNumbersFew older
AreNumbersFew (Took sealed inner effect ∷ older) = (number_for older (waiting_ask older) ≤ 65534) × AreNumbersFew older
AreNumbersFew (_ ∷ older) = AreNumbersFew older

-- The next number of requests is at most 65,536, and at most 65,535 while nothing is asked. That of responses is at most
-- 65,535, and so is the number of an answer that is awaited.
pub record AreFew (s : Steps) : Type 0 where
  pub numbers : AreNumbersFew s
  pub resting : waiting_ask s ≡ None → request_next s ≤ 65535
  pub request : request_next s ≤ MAX_RECORDS
  pub response : response_next s ≤ 65535
  pub awaited : number_for s (waiting_ask s) ≤ 65535

-- It is so in each session of a made history.
abbrev pub NumbersAreFew : Type 0
NumbersAreFew = (q : ReqSetup) (h : History) (id : ℕ) → IsMade q h → AreFew (session_of id h)

-- No key of a session of a made history sealed more than 65,536 records, or took more than 65,535, beside the answer to
-- END_SESSION and one for which the session is lost: with these it is gone.
abbrev pub KeysAreFew : Type 0
KeysAreFew = (q : ReqSetup) (h : History) (id : ℕ) (p : Purpose) → IsMade q h
    → (sealed_under q.psk p (session_of id h) ≤ MAX_RECORDS) × (taken_under q.psk p (session_of id h) ≤ 65535)

-- A record that comes in answer to what is outstanding is taken under a number of at most 65,535, also where the session
-- is gone with it.
abbrev pub TakenNumberIsFew : Type 0
TakenNumberIsFew = (q : ReqSetup) (h : History) (sent : Sent) (id : ℕ) (ask : Ask) → IsMade q h
    → outstanding h ≡ Some sent → sent.aim ≡ InSession id ask → answer_number (session_of id h) ask ≤ 65535
