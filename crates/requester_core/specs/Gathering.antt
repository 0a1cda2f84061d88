-- What a requester gathers of a large response in the clear.
use Rattle.std.specs.Prelude.{⊤, ◌≡◌, ◌==◌, not, if◌then◌else◌, ℕ, List, Option, Some, None, Ok}
use Rattle.chunking.specs.Keeping as keeping
use Rattle.requester_core.specs.ReplyOutcome.{IsCarried}
use Rattle.requester_core.specs.ClearState.{Seen}
use Rattle.requester_core.specs.declared.clear.reply_outcome.ReplyOutcome as seen_led
use Rattle.requester_core.specs.declared.clear.reply_outcome.ReplyOutcome.TheVariants as seen
use Rattle.requester_machine.specs.ClearAnswers.{Carried, clear_led}
use Rattle.requester_machine.specs.ClearAnswers.Carried.{Further}
use Rattle.requester_machine.specs.Commands.{Free}
use Rattle.requester_machine.specs.History.{History, Led}
use Rattle.requester_machine.specs.Message.{Aim, Sent}
use Rattle.requester_machine.specs.Message.Aim.{ForChunk}
use Rattle.requester_machine.specs.Setup.{ReqSetup}
use Rattle.spdm_grammar.specs.Message.{ChunkMessage, RequestMessage}
use Rattle.spdm_grammar.specs.declared.messages.part_faults.ChunkFault.{ChunkFault}
use Rattle.spdm_grammar.specs.declared.messages.part_faults.ChunkFault.TheVariants as chunk

-- Why a chunk is not the one of this handle and number, if it is not.
abbrev pub is_other : (handle number : ℕ) → ChunkMessage → Option ChunkFault
is_other handle number c =
    if not (c.handle == handle) then Some chunk.WrongHandle
    else (if not (c.number == number) then Some chunk.WrongNumber else None)

-- Where a message asks for a chunk, the chunks before it were gathered.
abbrev pub IsGathered : Aim → keeping.Kept → Type 0
IsGathered (ForChunk asked handle number before) gathered = keeping.StandsFor gathered before
IsGathered _ gathered = ⊤

-- By the outstanding message, if there is one.
abbrev pub IsGatheredFor : Option Sent → keeping.Kept → Type 0
IsGatheredFor None gathered = ⊤
IsGatheredFor (Some sent) gathered = IsGathered sent.aim gathered

-- What is gathered, in messages of up to the own greatest length, while this is outstanding.
pub record Gathers (q : ReqSetup) (outstanding : Option Sent) (gathered : keeping.Kept) : Type 0
  where
    pub max : gathered.max ≡ q.max
    pub chunks : IsGatheredFor outstanding gathered

-- What a message that is this leaves of what was gathered: all of it where nothing changed, and what the next message
-- asks for a chunk after.
abbrev pub Leaves : ReqSetup → Carried → seen_led.ReplyOutcome → (old new : keeping.Kept) → Type 0
Leaves q carried (seen.Ignored cause) old new = new ≡ old
Leaves q carried seen.Exchange old new = new ≡ old
Leaves q carried (seen.More tag) old new = (next : Sent) × (carried ≡ Further next)
    × Gathers q (Some next) new
Leaves q carried _ old new = new.max ≡ q.max

-- A message came to CHUNK_GET that is this to a request.
pub record IsFetched (q : ReqSetup) (h : History) (request : RequestMessage) (carried : Carried)
    (led : seen_led.ReplyOutcome) (old new : Seen) (before after : keeping.Kept) (out : List ℕ) : Type 0
  where
    pub carries : IsCarried q h request carried led old new out
    pub leaves : Leaves q carried led before after

-- What a message in the clear to the outstanding one leaves of what was gathered: all of it where nothing changed, and
-- else what is gathered while the next message is outstanding.
abbrev pub Gathered : ReqSetup → History → Sent → RequestMessage → List ℕ → seen_led.ReplyOutcome
    → (old new : keeping.Kept) → Type 0
Gathered q h sent request m (seen.Ignored cause) old new = new ≡ old
Gathered q h sent request m seen.Exchange old new = new ≡ old
Gathered q h sent request m _ old new = (f : Free) (led : Led)
    → clear_led q h f sent.aim request m ≡ Ok led → Gathers q led.next new
