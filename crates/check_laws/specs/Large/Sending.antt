-- What is kept of one requester and the responder while a large request is sent in chunks, up to its last one. This
-- project's own.
use Rattle.std.specs.Prelude.{⊤, ◌≡◌, ◌<◌, ◌+◌, ◌==◌, ℕ, List, [], ◌∷◌, length, take, Bool, true, false, Option, Some, None, is_some}
use Rattle.std.specs.Int.{div_ceil}
use Rattle.chunking.specs.Cutting.{chunk_end, nth_chunk, unit_of}
use Rattle.requester_machine.specs.Answers.{goes_on}
use Rattle.requester_machine.specs.Asking.Outcome.{Adds}
use Rattle.requester_machine.specs.History.{History, begins_large, next_handle, outstanding}
use Rattle.requester_machine.specs.History.Effect.{Nothing}
use Rattle.requester_machine.specs.History.Entry.{Told, TookClear}
use Rattle.requester_machine.specs.May.{MayAsk}
use Rattle.requester_machine.specs.Message.{Command, Sent, asked_in}
use Rattle.requester_machine.specs.Owed.{with_next}
use Rattle.requester_machine.specs.Setup.{ReqSetup}
use Rattle.responder_machine.specs.History as responder_history
use Rattle.spdm_grammar.specs.Message.{RequestMessage}
use Rattle.spdm_grammar.specs.Message.RequestMessage.{ChunkSend}
use Rattle.spdm_grammar.specs.Requests.{canonical_request}
use Rattle.spdm_machine.specs.Bodies.{clear_body}
use Rattle.check_laws.specs.Keeping.{Kept}
use Rattle.check_laws.specs.Walks.{Walks}
use Rattle.capture_machine.specs.CapturedRequests.{owes}
use Rattle.capture_machine.specs.LargeRequests.{MayHaveBegun, common_of, first_piece, piece_with}
use Rattle.capture_machine.specs.Rounds.{Dialogue, Round, no_draw}
use Rattle.world_machine.specs.Setup.{Configuration}

-- ---- How one is begun.

-- By a command, which asks for this request; or it was owed, and asks for this one.
pub data Beginning : Type 0 where
  ByCommand : (command : Command) → (asked : RequestMessage) → Beginning
  ByItself : (asked : RequestMessage) → Beginning

-- The request that is asked.
abbrev pub asked_of : Beginning → RequestMessage
asked_of (ByCommand command asked) = asked
asked_of (ByItself asked) = asked

-- The newest entry is a clear message that was taken.
abbrev pub is_upon_clear : History → Bool
is_upon_clear (TookClear tag m led d ∷ older) = true
is_upon_clear _ = false

-- From what is kept a large request may be begun so: some allowed values make the command send one that asks for this;
-- or such a one is owed on a clear answer.
abbrev pub MayBegin : Kept → Beginning → Type 0
MayBegin k (ByCommand command asked) =
    (k.owed ≡ None)
    × ((some : Sent) × MayAsk false k.setup k.requester command no_draw (Adds (Told command some no_draw))
    × (begins_large some.aim ≡ true)
    × (asked_in some.aim ≡ Some asked))
MayBegin k (ByItself asked) =
    (sent : Sent) × (k.owed ≡ Some sent)
    × (is_upon_clear k.requester ≡ true)
    × (outstanding k.requester ≡ None)
    × (begins_large sent.aim ≡ true)
    × (asked_in sent.aim ≡ Some asked)

-- These bytes may be sent in chunks there: the command sends them, under some allowed values. Those of a request that
-- was owed need no more than to encode it.
abbrev pub MaySend : Kept → Beginning → (whole : List ℕ) → Type 0
MaySend k (ByCommand command asked) whole =
    MayAsk false k.setup k.requester command no_draw (Adds (Told command (first_piece k.requester asked whole) no_draw))
MaySend k (ByItself asked) whole = ⊤

-- ---- What is kept.

-- A message that the requester took for the acknowledgement of a chunk, with its tag.
pub record Ack : Type 0 where
  pub tag : ℕ
  pub message : List ℕ

-- How many there are.
abbrev pub number_in : List Ack → ℕ
number_in [] = 0
number_in (ack ∷ acks) = number_in acks + 1

-- What was kept before the first chunk; the announced length; the bytes of the chunks so far; the acknowledgements in
-- response to which a chunk was sent, the newest first; the one in response to which the next chunk is owed; what the
-- responder took; and the last round.
pub record Sending : Type 0 where
  pub before : Kept
  pub size : ℕ
  pub bytes : List ℕ
  pub acks : List Ack
  pub due : Option Ack
  pub responder : responder_history.History
  pub round : Round

-- The transfer size of the responder, for which the request is cut.
abbrev pub transfer_of : Sending → ℕ
transfer_of s = (common_of s.before.requester).to_responder.transfer

-- The handle of the request.
abbrev pub handle_of : Sending → ℕ
handle_of s = next_handle s.before.requester

-- The number of the chunk that was sent last.
abbrev pub number_of : Sending → ℕ
number_of s = number_in s.acks

-- How many chunks a request of this length has.
abbrev pub count_of : (transfer size : ℕ) → ℕ
count_of transfer size = div_ceil (size + 4) (unit_of transfer)

-- The body of CHUNK_SEND with the chunk of this number of these bytes.
abbrev pub chunk_body : Sending → (whole : List ℕ) → (number : ℕ) → List ℕ
chunk_body s whole number = clear_body (canonical_request (ChunkSend (nth_chunk (transfer_of s) (handle_of s) whole number)))

-- The chunk of this number is the last one.
abbrev pub is_last : Sending → (number : ℕ) → Bool
is_last s number = number + 1 == count_of (transfer_of s) s.size

-- Any bytes of the announced length that begin so may stand for the request.
abbrev pub MayStand : Sending → (whole : List ℕ) → Type 0
MayStand s whole = (length whole ≡ s.size) × (take (length s.bytes) whole ≡ s.bytes)

-- ---- What this is kept of.

-- The requester's history after the first chunk of these bytes.
abbrev pub begun_with : Kept → Beginning → (whole : List ℕ) → History
begun_with k (ByCommand command asked) whole = Told command (first_piece k.requester asked whole) no_draw ∷ k.requester
begun_with k (ByItself asked) whole = with_next (Some (first_piece k.requester asked whole)) k.requester

-- An acknowledgement, in response to which the chunk of this number is sent.
abbrev pub acked_by : RequestMessage → (whole : List ℕ) → (handle : ℕ) → Ack → (number : ℕ) → History → History
acked_by asked whole handle ack number h = TookClear ack.tag ack.message (goes_on Nothing (piece_with h asked whole handle number)) no_draw ∷ h

-- The acknowledgements in response to which a chunk was sent.
abbrev pub behind : RequestMessage → (whole : List ℕ) → (handle : ℕ) → List Ack → History → History
behind asked whole handle [] h = h
behind asked whole handle (ack ∷ acks) h = acked_by asked whole handle ack (number_in acks + 1) (behind asked whole handle acks h)

-- And the one in response to which the next is owed.
abbrev pub behind_due : RequestMessage → (whole : List ℕ) → (handle : ℕ) → Option Ack → (number : ℕ) → History → History
behind_due asked whole handle None number h = h
behind_due asked whole handle (Some ack) number h = acked_by asked whole handle ack (number + 1) h

-- The history after the chunks so far.
abbrev pub shown_by : Sending → Beginning → (whole : List ℕ) → History
shown_by s b whole = behind (asked_of b) whole (handle_of s) s.acks (begun_with s.before b whole)

-- The requester's history, with these bytes.
abbrev pub requester_of : Sending → Beginning → (whole : List ℕ) → History
requester_of s b whole = behind_due (asked_of b) whole (handle_of s) s.due (number_of s) (shown_by s b whole)

-- What is between the two ends, with these bytes.
abbrev pub dialogue_of : Sending → Beginning → (whole : List ℕ) → Dialogue
dialogue_of s b whole = record {
  setup = s.before.setup;
  requester = requester_of s b whole;
  responder = s.responder;
  round = Some s.round;
  sending = Some whole;
  fetching = None;
}

-- What is between two ends sends these bytes as the other does, and was begun so.
pub record SendsAs (k : Kept) (b : Beginning) (whole : List ℕ) (d e : Dialogue) : Type 0 where
  pub sending : d.sending ≡ Some whole
  pub waits : outstanding d.requester ≡ outstanding e.requester
  pub begun : MayHaveBegun d.setup d.requester → MaySend k b whole

-- This is kept of the packets, the newest first: a large request is in progress after them, of which not all chunks
-- came; they lead to it with any bytes of the announced length that begin so, however it may be begun; and each walk
-- over them leads to it with such bytes.
pub record IsSendingOf (w : Configuration) (q : ReqSetup) (older : List (List ℕ)) (s : Sending) : Type 0 where
  pub held : length s.bytes ≡ chunk_end (transfer_of s) (number_of s)
  pub more : number_of s + 1 < count_of (transfer_of s) s.size
  pub begins : (b : Beginning) × MayBegin s.before b
  pub stands : (whole : List ℕ) × MayStand s whole
  pub all : (b : Beginning) (whole : List ℕ) → MayBegin s.before b → MayStand s whole
      → Walks w q older (dialogue_of s b whole) × (owes (dialogue_of s b whole) ≡ is_some s.due)
  pub each : (d : Dialogue) → Walks w q older d
      → (b : Beginning) × (whole : List ℕ) × MayBegin s.before b × MayStand s whole × SendsAs s.before b whole d (dialogue_of s b whole)
