-- In which order the steps of a session come, and how they go with the outstanding request. This project's own.
use Rattle.std.specs.Prelude.{⊤, ◌≡◌, ◌==◌, not, ℕ, [], ◌∷◌, if◌then◌else◌, Bool, true, false, Option, Some, None}
use Rattle.spdm_grammar.specs.Message.{RequestMessage}
use Rattle.spdm_grammar.specs.Message.RequestMessage.{PskExchange}
use Rattle.spdm_grammar.specs.declared.told.phase.Stage.{Stage}
use Rattle.spdm_grammar.specs.declared.told.phase.Stage.TheVariants as stage
use Rattle.requester_machine.specs.History.{Effect}
use Rattle.requester_machine.specs.History.Effect.{Nothing, Grants}
use Rattle.requester_machine.specs.InnerMessages.{outlives_error}
use Rattle.requester_machine.specs.Message.{Ask, Aim, Sent}
use Rattle.requester_machine.specs.Message.Aim.{Plain, ByChunks, ForChunk, InSession}
use Rattle.requester_machine.specs.Message.Ask.{AskFinish, AskData, AskBeat, AskUpdate, AskVerify, AskMeasure, AskChunk}
use Rattle.requester_machine.specs.Session.{Steps, is_live, is_accepted, stage_of}
use Rattle.requester_machine.specs.Session.Step.{Started, Accepted, Asked, Took}

-- PSK_EXCHANGE was sent, and nothing came yet.
abbrev pub is_opening : Steps → Bool
is_opening [] = false
is_opening (Started negotiation exchange ∷ older) = not (is_live older)
is_opening (_ ∷ older) = false

-- What the newest step asks, where it is a record sealed.
abbrev pub waiting_ask : Steps → Option Ask
waiting_ask [] = None
waiting_ask (Asked ask inner sealed ∷ older) = Some ask
waiting_ask (_ ∷ older) = None

-- The stage in which something is asked.
abbrev pub stage_for : Ask → Stage
stage_for AskFinish = stage.Handshake
stage_for AskVerify = stage.Verifying
stage_for _ = stage.Open

-- Both hold, or neither does.
abbrev pub is_same : Bool → Bool → Bool
is_same true b = b
is_same false b = not b

-- What a record may bring about that answers what was asked: the answer, whole; or nothing, where an ERROR leaves the
-- session open.
abbrev pub may_bring : Effect → Ask → Bool
may_bring Nothing ask = outlives_error ask
may_bring (Grants AskFinish answer) AskFinish = true
may_bring (Grants AskData answer) AskData = true
may_bring (Grants AskBeat answer) AskBeat = true
may_bring (Grants (AskUpdate all) answer) (AskUpdate asked) = is_same all asked
may_bring (Grants AskVerify answer) AskVerify = true
may_bring (Grants (AskMeasure op) answer) (AskMeasure asked) = op == asked
may_bring (Grants (AskMeasure op) answer) (AskChunk asked handle number before) = op == asked
may_bring _ _ = false

-- A record may bring this about in answer to what is asked; where nothing is asked, no record may come.
abbrev pub is_answer : Effect → Option Ask → Bool
is_answer effect None = false
is_answer effect (Some ask) = may_bring effect ask

-- PSK_EXCHANGE stands first, PSK_EXCHANGE_RSP second. Then records are sealed and taken in turn, each sealed in its
-- stage, and each taken an answer to the one before it.
abbrev pub IsOrdered : Steps → Type 0
IsOrdered [] = ⊤
IsOrdered (Started negotiation exchange ∷ older) = is_live older ≡ false
IsOrdered (Accepted answer ∷ older) = is_opening older ≡ true
IsOrdered (Asked ask inner sealed ∷ older) =
    (stage_of older ≡ stage_for ask) × (is_accepted older ≡ true) × (waiting_ask older ≡ None) × IsOrdered older
IsOrdered (Took sealed inner effect ∷ older) = (is_answer effect (waiting_ask older) ≡ true) × IsOrdered older

-- What a session waits for: nothing; PSK_EXCHANGE_RSP; the answer to what a record asked.
pub data Waits : Type 0 where
  Rests : Waits
  ForExchange : Waits
  ForRecord : (ask : Ask) → Waits

-- What the session with this ReqSessionID waits for by a request in the clear: by its own PSK_EXCHANGE for the answer
-- to that, by any other for nothing.
abbrev pub waits_asked : ℕ → RequestMessage → Waits
waits_asked id (PskExchange exchange) = if exchange.req_id == id then ForExchange else Rests
waits_asked id _ = Rests

-- What it waits for by what a message asks for: in the clear as said, and in a record of its own the answer to that.
abbrev pub waits_aim : ℕ → Aim → Waits
waits_aim id (Plain asked) = waits_asked id asked
waits_aim id (ByChunks asked handle number) = waits_asked id asked
waits_aim id (ForChunk asked handle number before) = waits_asked id asked
waits_aim id (InSession of ask) = if of == id then ForRecord ask else Rests

-- What it waits for by the outstanding message; where there is none, nothing.
abbrev pub waits_for : ℕ → Option Sent → Waits
waits_for id None = Rests
waits_for id (Some sent) = waits_aim id sent.aim

-- A live session that waits so. One that waits for nothing is open.
abbrev pub WaitsAs : Waits → Steps → Type 0
WaitsAs Rests s = (stage_of s ≡ stage.Open) × (is_accepted s ≡ true) × (waiting_ask s ≡ None)
WaitsAs ForExchange s = is_opening s ≡ true
WaitsAs (ForRecord ask) s = waiting_ask s ≡ Some ask

-- A session, where there is one, waits so.
abbrev pub FitsWaits : Waits → Steps → Type 0
FitsWaits waits [] = ⊤
FitsWaits waits (step ∷ older) = WaitsAs waits (step ∷ older)

-- The steps of a session are in order, and go with the outstanding request: all other sessions are open and wait for
-- nothing.
pub record IsInOrder (waiting : Option Sent) (id : ℕ) (s : Steps) : Type 0 where
  pub ordered : IsOrdered s
  pub fits : FitsWaits (waits_for id waiting) s
