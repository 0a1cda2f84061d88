-- What is said of the numbers of responses at a requester. The numbers are those of DSP0277, "Sequence number"; the
-- laws are this project's own.
use Rattle.std.specs.Prelude.{◌≡◌, ◌+◌, ℕ, List, [], ◌∷◌, if◌then◌else◌, true}
use Rattle.key_schedule.specs.Purpose.{Purpose}
use Rattle.requester_machine.specs.Setup.{ReqSetup}
use Rattle.requester_machine.specs.Does.{IsMade}
use Rattle.requester_machine.specs.History.{History, Effect}
use Rattle.requester_machine.specs.History.Effect.{Grants}
use Rattle.requester_machine.specs.Laws.{is_same_purpose}
use Rattle.requester_machine.specs.Message.Ask.{AskUpdate}
use Rattle.requester_machine.specs.Records.{response_purpose}
use Rattle.requester_machine.specs.Session.{Steps, session_of, response_next, response_epoch, updates_all}
use Rattle.requester_machine.specs.Session.Step.{Took}

-- The purpose under which a record was taken that brought this about: that of the new response key for the answer to
-- UpdateAllKeys, else the present one.
abbrev pub taken_purpose : List ℕ → Steps → Effect → Purpose
taken_purpose psk s effect =
    if updates_all effect then record (response_purpose psk s) { epoch = response_epoch s + 1 }
    else response_purpose psk s

-- How many records were taken under a purpose, each under the one that stood for it.
abbrev pub taken_under : List ℕ → Purpose → Steps → ℕ
taken_under psk p [] = 0
taken_under psk p (Took sealed inner effect ∷ older) = if is_same_purpose p (taken_purpose psk older effect) then taken_under psk p older + 1 else taken_under psk p older
taken_under psk p (_ ∷ older) = taken_under psk p older

-- In each session of a made history, the number of the next response is the count of those taken under its purpose.
abbrev pub ResponsesAreCounts : Type 0
ResponsesAreCounts = (q : ReqSetup) (h : History) (id : ℕ) → IsMade q h
    → response_next (session_of id h) ≡ taken_under q.psk (response_purpose q.psk (session_of id h)) (session_of id h)

-- The answer to UpdateAllKeys was number 0 of the next epoch of responses.
abbrev pub UpdateAllBeginsAnew : Type 0
UpdateAllBeginsAnew = (psk : List ℕ) (s : Steps) (sealed inner answer : List ℕ)
    → (response_next (Took sealed inner (Grants (AskUpdate true) answer) ∷ s) ≡ 1)
    × (response_epoch (Took sealed inner (Grants (AskUpdate true) answer) ∷ s) ≡ response_epoch s + 1)
