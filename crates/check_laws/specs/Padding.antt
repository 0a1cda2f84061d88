-- The padding of a record that a requester owes: in each walk it has one, and it may be any. This project's own.
use Rattle.std.specs.Prelude.{◌≡◌, ◌≤◌, ℕ, List, true, length, Option, Some, None}
use Rattle.requester_machine.specs.History.{History, outstanding}
use Rattle.requester_machine.specs.Message.{Aim, Sent}
use Rattle.requester_machine.specs.Message.Aim.{InSession}
use Rattle.requester_machine.specs.Owed.{sent_with, with_next}
use Rattle.requester_machine.specs.Session.{session_of}
use Rattle.requester_machine.specs.Setup.{ReqSetup}
use Rattle.check_laws.specs.Walks.{Walks}
use Rattle.capture_machine.specs.CapturedRequests.{owes}
use Rattle.capture_machine.specs.Rounds.{Dialogue}
use Rattle.world_machine.specs.Setup.{Configuration}
use Rattle.spdm_grammar.specs.declared.names.TheConstants.{MAX_PADDING}

-- The session that a message asks something of; 0 where it asks nothing of one.
abbrev pub session_asked : Aim → ℕ
session_asked (InSession id ask) = id
session_asked _ = 0

-- The message that was sent by itself on the last answer, with this padding: sealed in its session, as that stands with
-- the answer.
abbrev pub next_with : (psk : List ℕ) → History → (pad : List ℕ) → Option Sent → Option Sent
next_with psk h pad None = None
next_with psk h pad (Some sent) = Some (sent_with psk (session_of (session_asked sent.aim) (with_next None h)) pad sent)

-- What is between two ends, with this padding in the record that is owed.
abbrev pub with_padding : (pad : List ℕ) → Dialogue → Dialogue
with_padding pad d = record d { requester = with_next (next_with d.setup.psk d.requester pad (outstanding d.requester)) d.requester }

-- Where a walk leads to a message that is owed, walks over the same packets lead to it with each padding of at most 16
-- bytes.
abbrev pub PaddingIsFree : Type 0
PaddingIsFree = (w : Configuration) (q : ReqSetup) (older : List (List ℕ)) (d : Dialogue) (pad : List ℕ)
    → Walks w q older d → owes d ≡ true → length pad ≤ MAX_PADDING → Walks w q older (with_padding pad d)

-- A message that is owed has a padding of at most 16 bytes, and is what it would be with that.
abbrev pub OwedIsPadded : Type 0
OwedIsPadded = (w : Configuration) (q : ReqSetup) (older : List (List ℕ)) (d : Dialogue)
    → Walks w q older d → owes d ≡ true → (pad : List ℕ) × (length pad ≤ MAX_PADDING) × (with_padding pad d ≡ d)
