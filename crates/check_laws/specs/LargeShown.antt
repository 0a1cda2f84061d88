-- Which answers begin a large response is determined by what they show. This project's own.
use Rattle.std.specs.Prelude.{◌≡◌, ◌<◌, ◌↔◌, ◌==◌, ◌&&◌, ℕ, List, [], ◌∷◌, slice_index, if◌then◌else◌, Bool, false}
use Rattle.responder_machine.specs.History.{History, Entry}
use Rattle.responder_machine.specs.History.Entry.{Clear, Sealed}
use Rattle.responder_machine.specs.May.{on_body, with_dropped}
use Rattle.responder_machine.specs.Place.{held_of}
use Rattle.responder_machine.specs.Responder.{Outcome, body_of}
use Rattle.responder_machine.specs.Responder.Outcome.{Adds}
use Rattle.responder_machine.specs.Setup.{RspSetup}
use Rattle.responder_machine.specs.Turn.{answer_in}
use Rattle.check_laws.specs.AnswersShown.{LeadsAt, is_whole, values_shown_by}
use Rattle.check_laws.specs.DropsShown.{may_be_dropped}
use Rattle.capture_machine.specs.CapturedAnswers.{AnswersLarge}
use Rattle.capture_machine.specs.LargeAnswers.{gives_last, judging, unseen}
use Rattle.capture_machine.specs.Rounds.{Dialogue, Round, no_draw}
use Rattle.spdm_grammar.specs.declared.names.message_type.TheConstants.{SPDM}

-- ---- The last chunk of a large answer.

-- The whole answer of an entry; empty where it is no message.
abbrev pub whole_of : Entry → List ℕ
whole_of (Clear tag t d) = answer_in t.effect
whole_of (Sealed tag sealed t reply d) = answer_in t.effect
whole_of _ = []

-- What a body leads to at the values that an answer shows, where no session was dropped before it.
unfoldable pub last_shown : RspSetup → History → ℕ → (body answer : List ℕ) → Outcome
last_shown r h tag body answer = on_body r h tag body (values_shown_by r h tag body answer) no_draw

-- The outcome gives a chunk after which none is left to be fetched.
abbrev pub ends_large : History → Outcome → Bool
ends_large h (Adds entry) = gives_last h entry
ends_large h _ = false

-- ---- LargeResponse.

-- The first of these sessions that may have been dropped without a trace; none where none may.
abbrev pub first_dropped : History → (ids : List ℕ) → List ℕ
first_dropped h [] = []
first_dropped h (id ∷ ids) = if may_be_dropped h id then id ∷ [] else first_dropped h ids

-- Beside four established sessions an exchange gets LargeResponse only where one of them was dropped. Nothing shows
-- which, and none counts as dropped after it, so the first that may have been stands for each.
abbrev pub drops_before : History → (body : List ℕ) → List ℕ
drops_before h body = if slice_index body 0 == SPDM && held_of h == 4 then first_dropped h (1 ∷ 2 ∷ 3 ∷ 4 ∷ []) else []

-- What a body leads to after these drops, at the values that an answer shows.
unfoldable pub large_shown : RspSetup → History → ℕ → (body answer : List ℕ) → Outcome
large_shown r h tag body answer = let g = with_dropped h (drops_before h body) in on_body r g tag body (values_shown_by r g tag body answer) no_draw

-- It is that answer, these values are allowed, and it is LargeResponse, or an acknowledgement with one in it.
abbrev pub IsShownLarge : RspSetup → History → ℕ → (body answer : List ℕ) → Type 0
IsShownLarge r h tag body answer =
    let g = with_dropped h (drops_before h body) in
    LeadsAt r g tag body (large_shown r h tag body answer) (values_shown_by r g tag body answer)
    × (is_whole (large_shown r h tag body answer) ≡ false)
    × (body_of (large_shown r h tag body answer) ≡ answer)

-- The history after it: the answer to the request was not seen.
abbrev pub begun_large : History → Outcome → History
begun_large h (Adds entry) = unseen entry ∷ h
begun_large h _ = h

-- LargeResponse may be given, for some large response, exactly when that is so, and the history after it is a function
-- of what it shows. The heartbeat period is a byte.
abbrev pub LargeIsShown : Type 0
LargeIsShown = (r : RspSetup) (d : Dialogue) (round : Round) (answer : List ℕ) (next : History) → r.beat < 256
    → let h = judging d.fetching round.body d.responder in
    ((whole : List ℕ) × AnswersLarge r d round answer next whole)
    ↔ (IsShownLarge r h round.tag round.body answer
    × (next ≡ begun_large d.responder (large_shown r h round.tag round.body answer)))
