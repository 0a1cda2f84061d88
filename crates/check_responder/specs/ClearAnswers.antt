-- How the program judges an answer to a clear message. This project's own.
use Rattle.std.specs.Prelude.{◌≡◌, ◌≤◌, ◌==◌, ◌&&◌, ◌↔◌, not, nat_lt, bytes_eq, if◌then◌else◌, Bool, true, false, ℕ, List, [], ◌∷◌, length, Option, Some, None}
use Rattle.responder_machine.specs.Answer.{Free, answer_bytes}
use Rattle.responder_machine.specs.History.{History}
use Rattle.responder_machine.specs.May.{IsAllowed, with_dropped}
use Rattle.responder_machine.specs.Place.{clear_place, held_of, place_terms}
use Rattle.responder_machine.specs.Responder.{Outcome, after, body_of, on_clear}
use Rattle.responder_machine.specs.Responder.Outcome.{Adds}
use Rattle.responder_machine.specs.Setup.{RspSetup}
use Rattle.spdm_grammar.specs.declared.told.heard.Heard.{Heard}
use Rattle.spdm_grammar.specs.declared.told.heard.Heard.TheVariants as heard
use Rattle.spdm_grammar.specs.declared.names.TheConstants.{MAX_MESSAGE_SIZE}
use Rattle.spdm_grammar.specs.declared.names.request_code.TheConstants.{CHUNK_GET}
use Rattle.spdm_machine.specs.Bodies.{clear_body}
use Rattle.spdm_machine.specs.Terms.{hash_len}
use Rattle.check_responder.specs.JudgedResponder.{history_shown, shows_large}
use Rattle.check_laws.specs.AnswersShown.{LeadsAt, clear_values, values_shown_by}
use Rattle.check_laws.specs.ApartShown.{answer_shown}
use Rattle.check_laws.specs.DropsShown.{IsShownAnswer, dropped_for, drops_shown_by, id_begun, outcome_shown, response_of}
use Rattle.check_laws.specs.LargeShown.{IsShownLarge, drops_before, ends_large, first_dropped, large_shown, last_shown}
use Rattle.check_responder.specs.ShownBy.{AnswersSo}
use Rattle.check_responder.specs.declared.request_source.RequestSource.{RequestSource}
use Rattle.check_responder.specs.declared.request_source.RequestSource.TheVariants as bytes
use Rattle.check_responder.specs.declared.given.Given.{Given}
use Rattle.check_responder.specs.declared.given.Given.TheVariants as given
use Rattle.check_responder.specs.declared.given.Judged.{Judged}
use Rattle.check_responder.specs.declared.given.Judged.TheVariants as judged
use Rattle.capture_machine.specs.CapturedAnswers.{clear_answer, is_plain}
use Rattle.capture_machine.specs.Difference.{carries_exchange, is_apart}
use Rattle.capture_machine.specs.LargeAnswers.{gives_last, is_large}
use Rattle.capture_machine.specs.Rounds.{no_draw}

-- ---- What an answer brings.

-- By the entry that it adds.
abbrev pub given_of : History → Outcome → Given
given_of h (Adds entry) = if is_large entry then given.Large else (if gives_last h entry then given.Last else given.Whole)
given_of h _ = given.Whole

-- A repeat is told.
abbrev pub is_same : Heard → Bool
is_same heard.Same = true
is_same _ = false

-- CHUNK_GET is told.
abbrev pub tells_get : Heard → Bool
tells_get (heard.Answered code) = code == CHUNK_GET
tells_get _ = false

-- By what is reported of it, by the reply, and by whether a large response is pending after it.
abbrev pub given_by : Heard → (reply : List ℕ) → (pending : Bool) → Given
given_by told reply pending =
    if is_same told then given.Whole
    else (if shows_large (response_of reply) then given.Large
    else (if tells_get told && not pending then given.Last
    else given.Whole))

-- It goes whole.
abbrev pub is_whole_given : Given → Bool
is_whole_given given.Whole = true
is_whole_given _ = false

-- It begins a large response.
abbrev pub is_large_given : Option Given → Bool
is_large_given (Some given.Large) = true
is_large_given _ = false

-- What is said of this reply, where that one was given: it is the same, and brings this; or it is apart from it in verify
-- data of this size.
abbrev pub judged_by : Heard → (out reply : List ℕ) → (pending : Bool) → (size : ℕ) → Judged
judged_by told out reply pending size =
    if bytes_eq out reply then judged.Given (given_by told reply pending)
    else (if is_apart size (clear_body out) (clear_body reply) && (carries_exchange (clear_body out) && is_whole_given (given_by told out pending)) then judged.Apart
    else judged.Refused)

-- What a right answer brings.
abbrev pub given_in : Judged → Option Given
given_in (judged.Given brought) = Some brought
given_in _ = None

-- ---- An answer at some values.

-- At these values, which are allowed, a clear message is answered so.
pub record IsAnsweredAt (r : RspSetup) (h : History) (tag : ℕ) (m : List ℕ) (f : Free) (reply : List ℕ) : Type 0 where
  pub allowed : IsAllowed h (clear_place h) f
  pub short : length (clear_answer r (clear_place h) m f) ≤ MAX_MESSAGE_SIZE
  pub body : body_of (on_clear r h tag m f no_draw) ≡ clear_body reply

-- It is answered so, and this is what the answer brings; or it is not.
abbrev pub IsGivenAt : RspSetup → History → ℕ → (m : List ℕ) → Free → (reply : List ℕ) → Option Given → Type 0
IsGivenAt r h tag m f reply None = IsAnsweredAt r h tag m f reply → ⊥
IsGivenAt r h tag m f reply (Some brought) = IsAnsweredAt r h tag m f reply × (brought ≡ given_of h (on_clear r h tag m f no_draw))

-- At these values, which are allowed, it would be answered whole, with PSK_EXCHANGE_RSP, but for the verify data.
pub record IsApartAt (r : RspSetup) (h : History) (tag : ℕ) (m : List ℕ) (f : Free) (reply : List ℕ) : Type 0 where
  pub allowed : IsAllowed h (clear_place h) f
  pub short : length (clear_answer r (clear_place h) m f) ≤ MAX_MESSAGE_SIZE
  pub whole : given_of h (on_clear r h tag m f no_draw) ≡ given.Whole
  pub carries : carries_exchange (body_of (on_clear r h tag m f no_draw)) ≡ true
  pub apart : is_apart (hash_len (place_terms (clear_place h))) (body_of (on_clear r h tag m f no_draw)) (clear_body reply) ≡ true

-- The one or the other.
abbrev pub IsJudgedAt : RspSetup → History → ℕ → (m : List ℕ) → Free → (reply : List ℕ) → Judged → Type 0
IsJudgedAt r h tag m f reply result = IsGivenAt r h tag m f reply (given_in result) × ((result ≡ judged.Apart) ↔ IsApartAt r h tag m f reply)

-- The whole answer to a message passes 4,096 bytes where that to this request does: the message, or the large request
-- up to the chunk that it is.
abbrev pub IsLongWith : RspSetup → History → (m asked : List ℕ) → Free → Type 0
IsLongWith r h m asked f = nat_lt MAX_MESSAGE_SIZE (length (clear_answer r (clear_place h) m f)) ≡ nat_lt MAX_MESSAGE_SIZE (length (answer_bytes r (clear_place h) asked f))

-- Which bytes have that request: the message itself, or the large request that its chunk completes. Or its last chunk
-- completes none, and is acknowledged all the same, which no responder does.
abbrev pub IsAskedBy : RspSetup → History → (m reply whole : List ℕ) → RequestSource → Type 0
IsAskedBy r h m reply whole bytes.Itself = IsLongWith r h m m (clear_values r h m reply)
IsAskedBy r h m reply whole bytes.Carried = IsLongWith r h m whole (clear_values r h m reply)
IsAskedBy r h m reply whole bytes.Never = (f : Free) → AnswersSo r h m reply f → ⊥

-- ---- What an answer shows.

-- Beside four established sessions the first that may have been dropped.
abbrev pub first_of_held : History → List ℕ
first_of_held h = if held_of h == 4 then first_dropped h (1 ∷ 2 ∷ 3 ∷ 4 ∷ []) else []

-- The session that was dropped before it: that of its id; or before LargeResponse the first of four.
abbrev pub dropped_before : History → (reply : List ℕ) → List ℕ
dropped_before h reply = if shows_large (response_of reply) then first_of_held h else dropped_for h (id_begun (response_of reply))

-- ---- An answer.

-- What it leads to, by what it brings.
abbrev pub history_given : RspSetup → History → ℕ → (m reply : List ℕ) → Given → History
history_given r h tag m reply given.Whole = history_shown r h tag (clear_body m) (clear_body reply)
history_given r h tag m reply given.Large = after (with_dropped h (drops_before h (clear_body m))) (large_shown r h tag (clear_body m) (clear_body reply))
history_given r h tag m reply given.Last = after h (last_shown r h tag (clear_body m) (clear_body reply))

-- It gives the last chunk of a large response, by what it shows.
abbrev pub EndsLarge : RspSetup → History → ℕ → (body answer : List ℕ) → Type 0
EndsLarge r h tag body answer =
    LeadsAt r h tag body (last_shown r h tag body answer) (values_shown_by r h tag body answer)
    × (ends_large h (last_shown r h tag body answer) ≡ true)
    × (body_of (last_shown r h tag body answer) ≡ answer)

-- It brings this, or is not right.
pub record IsGiven (r : RspSetup) (h : History) (tag : ℕ) (m reply : List ℕ) (result : Option Given) : Type 0 where
  pub whole : (result ≡ Some given.Whole) ↔ IsShownAnswer r h tag (clear_body m) (clear_body reply)
  pub large : (result ≡ Some given.Large) ↔ IsShownLarge r h tag (clear_body m) (clear_body reply)
  pub last : (result ≡ Some given.Last) ↔ EndsLarge r h tag (clear_body m) (clear_body reply)

-- Its verify data are alone wrong, by what it shows.
abbrev pub IsApart : RspSetup → History → ℕ → (body answer : List ℕ) → Type 0
IsApart r h tag body answer =
    let g = with_dropped h (drops_shown_by r h tag body answer) in
    LeadsAt r g tag body (outcome_shown r h tag body answer) (values_shown_by r g tag body answer)
    × (is_plain h (outcome_shown r h tag body answer) ≡ true)
    × (carries_exchange (answer_shown r h tag body answer) ≡ true)
    × (is_apart (hash_len (place_terms (clear_place h))) (answer_shown r h tag body answer) answer ≡ true)

-- What the program says of an answer to a clear message.
pub record IsJudged (r : RspSetup) (h : History) (tag : ℕ) (m reply : List ℕ) (result : Judged) : Type 0 where
  pub given : IsGiven r h tag m reply (given_in result)
  pub apart : (result ≡ judged.Apart) ↔ IsApart r h tag (clear_body m) (clear_body reply)
