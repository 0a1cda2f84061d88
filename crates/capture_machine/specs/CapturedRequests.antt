-- Which bodies begin a round of a capture: what any requester of this profile may send next, and what that leads to.
-- This project's own.
use Rattle.std.specs.Prelude.{◌≡◌, ◌==◌, ◌⊎◌, not, ℕ, List, [], ◌∷◌, if◌then◌else◌, Bool, true, false, Option, Some, None}
use Rattle.requester_machine.specs.Asking.Outcome.{Adds}
use Rattle.requester_machine.specs.History.{History, outstanding, begins_large}
use Rattle.requester_machine.specs.History.Entry.{Told}
use Rattle.requester_machine.specs.May.{MayAsk}
use Rattle.requester_machine.specs.Message.{Command, Sent, body_of, asked_in}
use Rattle.requester_machine.specs.Message.Command.{Connect}
use Rattle.spdm_grammar.specs.Message.{RequestMessage}
use Rattle.requester_machine.specs.Owed.{with_next}
use Rattle.requester_machine.specs.Setup.{ReqSetup}
use Rattle.capture_machine.specs.LargeRequests.{IsLargeRequest, IsJudged, common_of, first_piece, still_sending}
use Rattle.capture_machine.specs.Rounds.{Dialogue, Round, no_draw}

-- ---- The message that is owed.

-- The requester's messages stand in the capture, all but the last one at most: one that it sends by itself on an
-- answer, and that did not come yet. It has another tag than the last round.
abbrev pub is_later : Option Round → Option Sent → Bool
is_later (Some round) (Some sent) = not (sent.tag == round.tag)
is_later _ _ = false

-- The requester owes a message: what is outstanding has another tag than the last round.
abbrev pub owes : Dialogue → Bool
owes d = is_later d.round (outstanding d.requester)

-- This message is the one that is owed.
abbrev pub IsOwed : Dialogue → Sent → Type 0
IsOwed d sent = (outstanding d.requester ≡ Some sent) × (owes d ≡ true)

-- Without the message that is owed, which then was never sent: it took no tag and no handle.
abbrev pub without_owed : Dialogue → History
without_owed d = if owes d then with_next None d.requester else d.requester

-- ---- What may begin a round.

-- A command sends this body, under some allowed values, and leads to this history.
abbrev pub Tells : ReqSetup → History → Command → List ℕ → History → Type 0
Tells q h command body after =
    (sent : Sent) × MayAsk false q h command no_draw (Adds (Told command sent no_draw))
    × (begins_large sent.aim ≡ false)
    × (body_of sent.content ≡ body)
    × (after ≡ Told command sent no_draw ∷ h)

-- GET_VERSION, whatever is outstanding, and in place of a message that is owed.
abbrev pub Connects : Dialogue → List ℕ → History → Type 0
Connects d body after = Tells d.setup (without_owed d) Connect body after

-- A command, where nothing is outstanding.
abbrev pub Commands : Dialogue → List ℕ → History → Type 0
Commands d body after = (command : Command) × (outstanding d.requester ≡ None) × Tells d.setup d.requester command body after

-- The message that is owed; the last chunk of a large request only if that is one that it may send.
abbrev pub GoesOn : Dialogue → List ℕ → History → Option (List ℕ) → Type 0
GoesOn d body after sending =
    (sent : Sent) × IsOwed d sent
    × (begins_large sent.aim ≡ false)
    × (body_of sent.content ≡ body)
    × IsJudged d.setup d.requester d.sending sent.aim
    × (after ≡ d.requester)
    × (sending ≡ still_sending d.requester d.sending sent.aim)

-- The first chunk of a large request, where some allowed values make the command send one. The bytes that stand for it
-- are not judged yet.
abbrev pub BeginsLarge : Dialogue → List ℕ → History → List ℕ → Type 0
BeginsLarge d body after whole =
    (command : Command) × (some : Sent) × (asked : RequestMessage)
    × MayAsk false d.setup d.requester command no_draw (Adds (Told command some no_draw))
    × (begins_large some.aim ≡ true)
    × (asked_in some.aim ≡ Some asked)
    × IsLargeRequest (common_of d.requester) whole
    × (body_of (first_piece d.requester asked whole).content ≡ body)
    × (after ≡ Told command (first_piece d.requester asked whole) no_draw ∷ d.requester)

-- The first chunk of a large request that is owed. The bytes that stand for it are not judged yet.
abbrev pub BeginsOwed : Dialogue → List ℕ → History → List ℕ → Type 0
BeginsOwed d body after whole =
    (sent : Sent) × (asked : RequestMessage) × IsOwed d sent
    × (begins_large sent.aim ≡ true)
    × (asked_in sent.aim ≡ Some asked)
    × IsLargeRequest (common_of d.requester) whole
    × (body_of (first_piece (without_owed d) asked whole).content ≡ body)
    × (after ≡ with_next (Some (first_piece (without_owed d) asked whole)) d.requester)

-- The first chunk of a large request, by a command or owed; the bytes that stand for it are in progress from then on.
abbrev pub BeginsByChunks : Dialogue → List ℕ → History → Option (List ℕ) → Type 0
BeginsByChunks d body after sending =
    (whole : List ℕ) × (BeginsLarge d body after whole ⊎ BeginsOwed d body after whole) × (sending ≡ Some whole)

-- What a body that begins a round leads to: the requester's history after it, and the large request in progress.
unfoldable pub Sends : Dialogue → List ℕ → History → Option (List ℕ) → Type 0
Sends d body after sending =
    ((Connects d body after ⊎ Commands d body after) × (sending ≡ None))
    ⊎ (GoesOn d body after sending ⊎ BeginsByChunks d body after sending)
