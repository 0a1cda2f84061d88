-- What is kept of one requester and the responder while no large message is in progress, and which requests and answers
-- go on from it. This project's own.
use Rattle.std.specs.Prelude.{◌≡◌, ◌≤◌, ◌+◌, ◌⊎◌, ◌↔◌, ℕ, List, [], ◌∷◌, length, if◌then◌else◌, true, false, Option, Some, None, Ok}
use Rattle.mctp_framing.specs.Gathering.{Gathered}
use Rattle.mctp_framing.specs.Gathering.Gathered.{Whole, More, Dropped}
use Rattle.mctp_framing.specs.Packet.{PacketFields, parsed}
use Rattle.requester_machine.specs.History.{History, begins_large, outstanding}
use Rattle.requester_machine.specs.May.{IsSetUp}
use Rattle.requester_machine.specs.Message.{Command, Sent, body_of}
use Rattle.requester_machine.specs.Message.Command.{Connect}
use Rattle.requester_machine.specs.Session.{session_of}
use Rattle.requester_machine.specs.Setup.{ReqSetup}
use Rattle.responder_machine.specs.History as responder_history
use Rattle.spdm_grammar.specs.Message.RequestMessage.{GetVersion}
use Rattle.spdm_grammar.specs.Requests.{canonical_request}
use Rattle.spdm_machine.specs.Bodies.{clear_body}
use Rattle.spdm_machine.specs.Packets.{gathered_from}
use Rattle.check_laws.specs.Order.{is_answer, is_request}
use Rattle.check_laws.specs.Padding.{next_with, session_asked}
use Rattle.requester_machine.specs.Owed.{sent_with}
use Rattle.check_laws.specs.Walks.{Walks}
use Rattle.capture_machine.specs.Capture.{IsBody, RepliesBy, may_begin}
use Rattle.capture_machine.specs.CapturedRequests.{Tells, owes, without_owed}
use Rattle.requester_machine.specs.Owed.{with_next}
use Rattle.capture_machine.specs.Rounds.{Dialogue, Round, following_tag, new_dialogue, new_round}
use Rattle.world_machine.specs.Setup.{Configuration}
use Rattle.spdm_grammar.specs.declared.names.TheConstants.{MAX_PADDING}

-- How the requester is set up; what it was told and took, without the message that it owes; that message, with no
-- padding; what the responder took from it; and the last round.
pub record Kept : Type 0 where
  pub setup : ReqSetup
  pub requester : History
  pub owed : Option Sent
  pub responder : responder_history.History
  pub round : Option Round

-- What is kept of what is between two ends.
abbrev pub kept_of : Dialogue → Kept
kept_of d = record {
  setup = d.setup;
  requester = without_owed d;
  owed = if owes d then next_with d.setup.psk d.requester [] (outstanding d.requester) else None;
  responder = d.responder;
  round = d.round;
}

-- Some walk over these packets, the newest first, leads to what this is kept of, and no large message is in progress.
abbrev pub Keeps : Configuration → ReqSetup → List (List ℕ) → Kept → Type 0
Keeps w q older kept = (d : Dialogue) × Walks w q older d × (d.sending ≡ None) × (d.fetching ≡ None) × (kept ≡ kept_of d)

-- The initial state, before any message.
abbrev pub KeptBegins : Type 0
KeptBegins = (w : Configuration) (q : ReqSetup) → Keeps w q [] (kept_of (new_dialogue q))

-- A packet between two other ends leaves it.
abbrev pub KeptStays : Type 0
KeptStays = (w : Configuration) (q : ReqSetup) (older : List (List ℕ)) (packet : List ℕ) (p : PacketFields) (k : Kept)
    → parsed packet ≡ Ok p → is_request w.responder.eid q.eid p ≡ false → is_answer w.responder.eid q.eid p ≡ false
    → Keeps w q older k → Keeps w q (packet ∷ older) k

-- ---- A request.

-- GET_VERSION, in place of a message that is owed.
abbrev pub ConnectsKept : Kept → List ℕ → History → Type 0
ConnectsKept k body after = Tells k.setup k.requester Connect body after

-- It goes on at any place, and nothing else does so in its place.
abbrev pub ConnectsAlways : Type 0
ConnectsAlways = (k : Kept) (body : List ℕ) → IsSetUp k.setup
    → ((after : History) × ConnectsKept k body after) ↔ (body ≡ clear_body (canonical_request GetVersion))

-- A command, where nothing is outstanding or owed.
abbrev pub CommandsKept : Kept → List ℕ → History → Type 0
CommandsKept k body after =
    (command : Command) × (k.owed ≡ None) × (outstanding k.requester ≡ None) × Tells k.setup k.requester command body after

-- The message that is owed, with a padding of at most 16 bytes.
abbrev pub owed_with : Kept → (pad : List ℕ) → Sent → Sent
owed_with k pad sent = sent_with k.setup.psk (session_of (session_asked sent.aim) k.requester) pad sent

abbrev pub GoesOnKept : Kept → List ℕ → History → Type 0
GoesOnKept k body after =
    (sent : Sent) × (pad : List ℕ) × (k.owed ≡ Some sent) × (length pad ≤ MAX_PADDING)
    × (begins_large sent.aim ≡ false)
    × (body_of (owed_with k pad sent).content ≡ body)
    × (after ≡ with_next (Some (owed_with k pad sent)) k.requester)

-- A body that begins a round whole, and the requester's history after it.
abbrev pub SendsKept : Kept → List ℕ → History → Type 0
SendsKept k body after = ConnectsKept k body after ⊎ (CommandsKept k body after ⊎ GoesOnKept k body after)

-- A copy of the last round's request.
abbrev pub CopiesKept : Kept → ℕ → List ℕ → Kept → Type 0
CopiesKept k tag body next =
    (round : Round) × (k.round ≡ Some round) × (round.tag ≡ tag) × (round.body ≡ body)
    × (next ≡ record k { round = Some (record round { waiting = round.waiting + 1 }) })

-- A request that begins a round.
abbrev pub BeginsKept : Kept → ℕ → List ℕ → Kept → Type 0
BeginsKept k tag body next =
    (may_begin k.round body ≡ true) × (tag ≡ following_tag k.round)
    × ((after : History) × SendsKept k body after
    × (next ≡ record k { requester = after; owed = None; round = Some (new_round tag body) }))

-- What a packet from the requester makes of what is kept.
abbrev pub AsksKept : Kept → Gathered → Kept → Type 0
AsksKept k (Whole route body) next = IsBody body × (route.owner ≡ true) × (CopiesKept k route.tag body next ⊎ BeginsKept k route.tag body next)
AsksKept k More next = next ≡ k
AsksKept k (Dropped cause) next = ⊥

-- What a packet from the requester makes of what is kept, is kept after it.
abbrev pub KeptAsks : Type 0
KeptAsks = (w : Configuration) (q : ReqSetup) (older : List (List ℕ)) (packet : List ℕ) (p : PacketFields) (k next : Kept)
    → parsed packet ≡ Ok p → is_request w.responder.eid q.eid p ≡ true
    → Keeps w q older k → AsksKept k (gathered_from w.responder.eid q.eid older p) next → Keeps w q (packet ∷ older) next

-- Where some walk goes on with a packet from the requester, and no large request is in progress after it, it makes
-- something of what is kept.
abbrev pub AsksAreKept : Type 0
AsksAreKept = (w : Configuration) (q : ReqSetup) (older : List (List ℕ)) (packet : List ℕ) (p : PacketFields) (k : Kept) (d : Dialogue)
    → parsed packet ≡ Ok p → is_request w.responder.eid q.eid p ≡ true
    → Keeps w q older k → Walks w q (packet ∷ older) d → d.sending ≡ None
    → (next : Kept) × AsksKept k (gathered_from w.responder.eid q.eid older p) next

-- ---- What this is kept of.

-- The history with the message that is owed.
abbrev pub owing : Option Sent → History → History
owing None h = h
owing (Some sent) h = with_next (Some sent) h

-- What is between two ends, with no padding in a record that is owed.
abbrev pub restored : Kept → Dialogue
restored k = record {
  setup = k.setup;
  requester = owing k.owed k.requester;
  responder = k.responder;
  round = k.round;
  sending = None;
  fetching = None;
}

-- A walk leads to it, and it is what this is kept of.
abbrev pub KeptIsRestored : Type 0
KeptIsRestored = (w : Configuration) (q : ReqSetup) (older : List (List ℕ)) (k : Kept)
    → Keeps w q older k → Walks w q older (restored k) × (kept_of (restored k) ≡ k)

-- ---- An answer.

-- What a packet for the requester makes of what is kept, where no large response is fetched after it.
abbrev pub RepliesKept : Configuration → Kept → Gathered → Kept → Type 0
RepliesKept w k g next = (d : Dialogue) × RepliesBy w (restored k) g d × (d.fetching ≡ None) × (next ≡ kept_of d)

-- It is kept after it.
abbrev pub KeptReplies : Type 0
KeptReplies = (w : Configuration) (q : ReqSetup) (older : List (List ℕ)) (packet : List ℕ) (p : PacketFields) (k next : Kept)
    → parsed packet ≡ Ok p → is_request w.responder.eid q.eid p ≡ false → is_answer w.responder.eid q.eid p ≡ true
    → Keeps w q older k → RepliesKept w k (gathered_from q.eid w.responder.eid older p) next → Keeps w q (packet ∷ older) next

-- Where some walk goes on with a packet for the requester, and no large response is fetched after it, it makes
-- something of what is kept.
abbrev pub RepliesAreKept : Type 0
RepliesAreKept = (w : Configuration) (q : ReqSetup) (older : List (List ℕ)) (packet : List ℕ) (p : PacketFields) (k : Kept) (d : Dialogue)
    → parsed packet ≡ Ok p → is_request w.responder.eid q.eid p ≡ false → is_answer w.responder.eid q.eid p ≡ true
    → Keeps w q older k → Walks w q (packet ∷ older) d → d.fetching ≡ None
    → (next : Kept) × RepliesKept w k (gathered_from q.eid w.responder.eid older p) next
