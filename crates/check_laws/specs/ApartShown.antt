-- Whether the verify data of an answer are alone wrong is determined by what it shows. This project's own.
use Rattle.std.specs.Prelude.{◌≡◌, ◌<◌, ◌↔◌, ℕ, List, true, None, Some}
use Rattle.responder_machine.specs.History.{History}
use Rattle.responder_machine.specs.May.{with_dropped}
use Rattle.responder_machine.specs.Responder.{body_of}
use Rattle.responder_machine.specs.Setup.{RspSetup}
use Rattle.check_laws.specs.AnswersShown.{LeadsAt, values_shown_by}
use Rattle.check_laws.specs.DropsShown.{drops_shown_by, outcome_shown}
use Rattle.capture_machine.specs.CapturedAnswers.{is_plain}
use Rattle.capture_machine.specs.Difference.{AreRepliesApart, carries_exchange, is_apart, verify_size}
use Rattle.capture_machine.specs.Rounds.{Dialogue, Round}

-- The answer that is given at the drops and the values that this one shows.
abbrev pub answer_shown : RspSetup → History → ℕ → (body answer : List ℕ) → List ℕ
answer_shown r h tag body answer = body_of (outcome_shown r h tag body answer)

-- These values are allowed, and that answer carries PSK_EXCHANGE_RSP and has other verify data than this one, but differs
-- in nothing else.
abbrev pub IsApartShown : RspSetup → Dialogue → Round → (answer : List ℕ) → Type 0
IsApartShown r d round answer =
    let h = d.responder in
    let g = with_dropped h (drops_shown_by r h round.tag round.body answer) in
    LeadsAt r g round.tag round.body (outcome_shown r h round.tag round.body answer) (values_shown_by r g round.tag round.body answer)
    × (is_plain h (outcome_shown r h round.tag round.body answer) ≡ true)
    × (carries_exchange (answer_shown r h round.tag round.body answer) ≡ true)
    × (is_apart (verify_size d) (answer_shown r h round.tag round.body answer) answer ≡ true)

-- So, while no large response is fetched, the verify data of an answer are alone wrong exactly when that is so. The
-- heartbeat period is a byte.
abbrev pub ApartIsShown : Type 0
ApartIsShown = (r : RspSetup) (d : Dialogue) (round : Round) (answer : List ℕ) → r.beat < 256 → d.fetching ≡ None
    → AreRepliesApart r d (Some round) answer ↔ IsApartShown r d round answer
