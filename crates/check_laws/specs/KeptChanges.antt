-- What a request and an answer change of what rows of the table of sessions depend on, by what is kept. This project's
-- own.
use Rattle.std.specs.Prelude.{◌≡◌, ◌==◌, ◌&&◌, ◌||◌, not, Bool, ℕ, List, drop, slice_index, if◌then◌else◌, false, Option, Some, None}
use Rattle.mctp_framing.specs.Gathering.{Gathered}
use Rattle.requester_machine.specs.Hearing.{hears}
use Rattle.requester_machine.specs.History.{outstanding}
use Rattle.requester_machine.specs.Setup.{ReqSetup}
use Rattle.responder_machine.specs.History.{History, ended_of, kept_of}
use Rattle.responder_machine.specs.Responder.{is_repeat, repeats}
use Rattle.responder_machine.specs.Session.{id_in_record, last_of, session_of}
use Rattle.check_laws.specs.ChangeLaws.{IsRequestStep, accepted_by}
use Rattle.check_laws.specs.Changes.{IsStep, answered_between, asked_between, begun_between, session_in}
use Rattle.check_laws.specs.DropsShown.{IsShownAnswer, id_begun, response_of}
use Rattle.check_laws.specs.Keeping.{BeginsKept, CopiesKept, Keeps, Kept, RepliesKept, restored}
use Rattle.check_laws.specs.RepliesShown.{AnswersRound, no_values, replied, responder_for}
use Rattle.capture_machine.specs.Rounds.{Round, no_draw}
use Rattle.capture_machine.specs.SessionTable.{accepted_between}
use Rattle.world_machine.specs.Setup.{Configuration}
use Rattle.spdm_grammar.specs.declared.names.message_type.TheConstants.{SPDM}

-- ---- A request.

-- By a copy of the last request no record was sent.
abbrev pub KeptCopyIsRequest : Type 0
KeptCopyIsRequest = (k next : Kept) (tag : ℕ) (body : List ℕ) → CopiesKept k tag body next → IsRequestStep None (restored k) (restored next)

-- By any other one the record of a session was sent, or none.
abbrev pub KeptRoundIsRequest : Type 0
KeptRoundIsRequest = (k next : Kept) (tag : ℕ) (body : List ℕ) → BeginsKept k tag body next
    → IsRequestStep (session_in (outstanding next.requester)) (restored k) (restored next)

-- ---- What an answer shows of its change.

-- The RspSessionID of the session that an answer begins: it is PSK_EXCHANGE_RSP in the clear, plain or in an
-- acknowledgement, and no repeat.
abbrev pub begun_shown : History → ℕ → (body answer : List ℕ) → Option ℕ
begun_shown h tag body answer =
    if slice_index body 0 == SPDM && not (is_repeat (kept_of h) tag (drop 1 body)) then id_begun (response_of (drop 1 answer)) else None

-- The record is the last one of the ended session, or of the session that it names, and gets its reply again.
abbrev pub is_kept_record : History → (sealed : List ℕ) → Bool
is_kept_record h sealed = repeats (ended_of h) sealed || repeats (last_of (session_of (id_in_record sealed) h)) sealed

-- The RspSessionID in a record that its session took: the answer is a record too, and no repeat.
abbrev pub taken_shown : History → (body answer : List ℕ) → Option ℕ
taken_shown h body answer =
    if slice_index body 0 == SPDM || (slice_index answer 0 == SPDM || is_kept_record h (drop 1 body)) then None else Some (id_in_record (drop 1 body))

-- The ReqSessionID of the PSK_EXCHANGE whose answer the requester takes by an answer.
unfoldable pub accepted_from : Kept → ℕ → (answer : List ℕ) → Option ℕ
accepted_from k tag answer = accepted_by (hears k.setup (restored k).requester false tag answer no_values no_draw)

-- ---- An answer that goes whole.

-- It changes what it shows, and what the requester takes by it; and no round begins.
pub record IsAnswerStep (k : Kept) (round : Round) (answer : List ℕ) (next : Kept) : Type 0 where
  pub begun : begun_between (restored k) (restored next) ≡ begun_shown k.responder round.tag round.body answer
  pub accepted : accepted_between (restored k) (restored next) ≡ accepted_from k round.tag answer
  pub answered : answered_between (restored k) (restored next) ≡ taken_shown k.responder round.body answer
  pub asked : asked_between (restored k) (restored next) ≡ None

-- So it is after each answer that may be given by what it shows.
abbrev pub KeptAnswerChanges : Type 0
KeptAnswerChanges = (w : Configuration) (k : Kept) (tag : ℕ) (round : Round) (answer : List ℕ) → AnswersRound k tag round
    → IsShownAnswer (responder_for w k) k.responder round.tag round.body answer → IsAnswerStep k round answer (replied w k tag round answer)

-- Any answer after which no large one is fetched is a step by which a change is taken.
abbrev pub KeptAnswerIsStep : Type 0
KeptAnswerIsStep = (w : Configuration) (q : ReqSetup) (older : List (List ℕ)) (k next : Kept) (g : Gathered)
    → Keeps w q older k → RepliesKept w k g next → IsStep (restored k) (restored next)
