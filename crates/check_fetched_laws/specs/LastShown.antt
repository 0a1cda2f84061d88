-- Whether an answer is the last chunk of a large one is determined by what it shows, and by what the whole answer
-- shows. This project's own.
use Rattle.std.specs.Prelude.{◌≡◌, ◌<◌, ◌↔◌, ◌∷◌, ℕ, List, [], if◌then◌else◌, true, Option, Some, MatchBool}
use Rattle.responder_machine.specs.History.{Entry, History}
use Rattle.responder_machine.specs.History.Entry.{Clear}
use Rattle.responder_machine.specs.May.{with_dropped}
use Rattle.responder_machine.specs.Responder.Outcome.{Adds}
use Rattle.responder_machine.specs.Responder.{after, body_of, sent_by}
use Rattle.responder_machine.specs.Setup.{RspSetup}
use Rattle.responder_machine.specs.Turn.{answer_in, takes}
use Rattle.spdm_grammar.specs.declared.names.request_code.TheConstants.{PSK_EXCHANGE}
use Rattle.spdm_machine.specs.Sessions.{id_in_exchange}
use Rattle.check_laws.specs.AnswersShown.{LeadsAt, values_shown_by}
use Rattle.check_laws.specs.DropsShown.{dropped_for}
use Rattle.check_laws.specs.LargeShown.{ends_large, last_shown, whole_of}
use Rattle.check_fetched_laws.specs.WholeValues.{values_with_whole}
use Rattle.capture_machine.specs.CapturedAnswers.{Completes, MayHaveLed, request_in, tag_in}
use Rattle.capture_machine.specs.LargeAnswers.{begun_with, dropped_before_large, is_unseen_in, is_untouched, place_named, seen, with_large}
use Rattle.capture_machine.specs.Rounds.{Dialogue, Round}

-- ---- The request of a large answer, by what the whole answer shows.

-- PSK_EXCHANGE_RSP shows that the session of its id was dropped before its request, where that may have been.
abbrev pub drops_with : (older : History) → Entry → List ℕ
drops_with older (Clear tag t d) = if takes PSK_EXCHANGE t then dropped_for older (Some (id_in_exchange (answer_in t.effect))) else []
drops_with older _ = []

-- The request of an entry leads to it at the drops and the values that its whole answer shows, which are allowed.
abbrev pub IsShownEntry : RspSetup → (older : History) → Entry → Type 0
IsShownEntry r older entry =
    let g = with_dropped older (drops_with older entry) in
    LeadsAt r g (tag_in entry) (request_in entry) (Adds entry) (values_with_whole r g (tag_in entry) (request_in entry) (sent_by entry) (whole_of entry))

-- The drops that these bytes show as the newest large response of a place that was not seen.
abbrev pub drops_of_whole : Option ℕ → (whole : List ℕ) → History → List ℕ
drops_of_whole place whole [] = []
drops_of_whole place whole (entry ∷ older) = if is_unseen_in place entry then drops_with older (seen whole entry) else drops_of_whole place whole older

-- Its request leads to these bytes, by what they show.
abbrev pub IsShownWhole : RspSetup → Option ℕ → (whole : List ℕ) → History → Type 0
IsShownWhole r place whole [] = ⊥
IsShownWhole r place whole (entry ∷ older) = MatchBool (is_unseen_in place entry) (IsShownEntry r older (seen whole entry)) (IsShownWhole r place whole older)

-- So whether the request may have led to these bytes is determined by what they show, and so is which session was
-- dropped before it. The heartbeat period is a byte.
abbrev pub WholeHasLed : Type 0
WholeHasLed = (r : RspSetup) (place : Option ℕ) (whole dropped : List ℕ) (h : History) → r.beat < 256
    → MayHaveLed r place whole dropped h ↔ ((dropped ≡ drops_of_whole place whole h) × IsShownWhole r place whole h)

-- ---- The last chunk.

-- An answer is the last chunk of these bytes as the large response of a history, which its request may have led to:
-- both by what they show. Where the whole answer begins a session, nothing was shown since its request of another one
-- with that id.
pub record IsShownLast (r : RspSetup) (h : History) (round : Round) (answer whole : List ℕ) : Type 0 where
  pub leads : let g = with_large (place_named round.body) whole h in LeadsAt r g round.tag round.body (last_shown r g round.tag round.body answer) (values_shown_by r g round.tag round.body answer)
  pub last : let g = with_large (place_named round.body) whole h in ends_large g (last_shown r g round.tag round.body answer) ≡ true
  pub body : let g = with_large (place_named round.body) whole h in body_of (last_shown r g round.tag round.body answer) ≡ answer
  pub led : IsShownWhole r (place_named round.body) whole h
  pub untouched : is_untouched (place_named round.body) (begun_with (place_named round.body) whole h) h ≡ true

-- The history after it.
abbrev pub completed : RspSetup → History → Round → (answer whole : List ℕ) → History
completed r h round answer whole =
    let place = place_named round.body in
    after (with_large place whole (dropped_before_large place (drops_of_whole place whole h) h)) (last_shown r (with_large place whole h) round.tag round.body answer)

-- While these bytes stand for the large response that is fetched, an answer ends it exactly when that is so, and the
-- history after it is a function of what it shows. The heartbeat period is a byte.
abbrev pub LastIsShown : Type 0
LastIsShown = (r : RspSetup) (d : Dialogue) (round : Round) (answer whole : List ℕ) (next : History) → r.beat < 256 → d.fetching ≡ Some whole
    → Completes r d round answer next ↔ (IsShownLast r d.responder round answer whole × (next ≡ completed r d.responder round answer whole))
