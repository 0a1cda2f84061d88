-- The last chunk of a large response whose fetch began late: it is judged as if its request had come last, under
-- another tag. This project's own.
use Rattle.std.specs.Prelude.{◌≡◌, ◌≢◌, ◌↔◌, ◌⊎◌, ◌++◌, ℕ, List, [], ◌∷◌, Bool, true, false, Option, Some, None}
use Rattle.check_laws.specs.Walks.{Walks}
use Rattle.check_late_laws.specs.Late.Passed.{StandsBack, touched}
use Rattle.requester_machine.specs.Setup.{ReqSetup}
use Rattle.responder_machine.specs.History.{Entry, History, kept_of}
use Rattle.responder_machine.specs.History.Entry.{Clear}
use Rattle.responder_machine.specs.May.{with_dropped}
use Rattle.responder_machine.specs.Responder.{is_repeat}
use Rattle.responder_machine.specs.Setup.{RspSetup}
use Rattle.responder_machine.specs.Turn.{Turn, code_in}
use Rattle.spdm_grammar.specs.declared.names.request_code.TheConstants.{GET_MEASUREMENTS, PSK_EXCHANGE}
use Rattle.capture_machine.specs.CapturedAnswers.{MayHaveLed, MayLeadToEntry}
use Rattle.capture_machine.specs.LargeAnswers.{begun_with, dropped_before_large, id_begun, is_unseen_effect, is_untouched, seen, with_large}
use Rattle.capture_machine.specs.Rounds.{Dialogue}
use Rattle.world_machine.specs.Setup.{Configuration}

-- ---- What it is about.

-- A request whose answer has a free length, GET_MEASUREMENTS or PSK_EXCHANGE, whole in one message.
pub record IsFree (t : Turn) : Type 0 where
  pub whole : t.chunk ≡ None
  pub code : (code_in t.effect ≡ GET_MEASUREMENTS) ⊎ (code_in t.effect ≡ PSK_EXCHANGE)

-- What came since the repeat: messages in the clear whose answers were seen, as CHUNK_GET is.
abbrev pub IsSince : Entry → Type 0
IsSince (Clear tag t d) = is_unseen_effect t.effect ≡ false
IsSince _ = ⊥

abbrev pub AreSince : List Entry → Type 0
AreSince [] = Unit {0}
AreSince (e ∷ es) = IsSince e × AreSince es

-- The session that the whole answer begins was touched since the request; none that it does not begin was.
abbrev pub touched_by : Option ℕ → History → Bool
touched_by None h = false
touched_by (Some id) h = touched id h

-- The request under this tag, with these bytes as its answer.
abbrev pub in_front : (h : History) → StandsBack h → (tag : ℕ) → (whole : List ℕ) → Entry
in_front h s tag whole = seen whole (Clear tag s.turn s.draw)

-- It was no repeat.
abbrev pub WasAnew : (h : History) → StandsBack h → Type 0
WasAnew h s = is_repeat (kept_of s.before) s.tag s.turn.message ≡ false

-- ---- The laws.

-- In a walk it was.
abbrev pub RequestWasAnew : Type 0
RequestWasAnew = (w : Configuration) (q : ReqSetup) (older : List (List ℕ)) (d : Dialogue) → Walks w q older d → (s : StandsBack d.responder) → WasAnew d.responder s

-- The request may have led to these bytes at its place, after these drops, and the session that they begin was not
-- touched since, exactly when it may lead to them now, as the newest one under another tag, and no mark says that the
-- session was touched.
abbrev pub LastIsInFront : Type 0
LastIsInFront = (r : RspSetup) (since : List Entry) (h : History) (s : StandsBack h) (whole dropped : List ℕ) (other : ℕ)
    → AreSince since → IsFree s.turn → WasAnew h s → other ≢ s.tag
    → (MayHaveLed r None whole dropped (since ++ h) × (is_untouched None (begun_with None whole (since ++ h)) (since ++ h) ≡ true))
    ↔ (MayLeadToEntry r dropped h (in_front h s other whole) × (touched_by (id_begun (in_front h s other whole)) h ≡ false))

-- The history with these bytes as the answer: the request and the drops before it stay at their place.
abbrev pub LastStaysBack : Type 0
LastStaysBack = (since : List Entry) (h : History) (s : StandsBack h) (whole dropped : List ℕ) → AreSince since
    → with_large None whole (dropped_before_large None dropped (since ++ h))
    ≡ since ++ (s.behind ++ in_front h s s.tag whole ∷ with_dropped s.before dropped)
