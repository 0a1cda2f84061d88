-- What a requester is told to do, what it sends, and what each message that it sends asks for.
use Rattle.std.specs.Prelude.{ℕ, List, Bool, Option, Some, None}
use Rattle.spdm_grammar.specs.Message.{RequestMessage, ChunkMessage}
use Rattle.spdm_machine.specs.Bodies.{clear_body, record_body}

-- The commands of a requester. Negotiate anew; open a session, with a measurement summary of a kind; send application
-- data; send a heartbeat; update the request key, or all keys; ask for measurements, in the clear or in a session; end
-- a session; send the outstanding message again. A session is named by its ReqSessionID. This project's own.
pub data Command : Type 0 where
  Connect : Command
  Open : (summary : ℕ) → Command
  Send : (session : ℕ) → (bytes : List ℕ) → Command
  Beat : (session : ℕ) → Command
  Update : (session : ℕ) → (all : Bool) → Command
  Measure : (session : Option ℕ) → (op : ℕ) → Command
  End : (session : ℕ) → Command
  Retry : Command

-- What a record asks for: PSK_FINISH; application data; HEARTBEAT; KEY_UPDATE with UpdateKey or, for all,
-- UpdateAllKeys; KEY_UPDATE with VerifyNewKey; GET_MEASUREMENTS with an operation; CHUNK_GET for one chunk of a large
-- response to GET_MEASUREMENTS, after the chunks of it that were taken, the newest first; END_SESSION.
pub data Ask : Type 0 where
  AskFinish : Ask
  AskData : Ask
  AskBeat : Ask
  AskUpdate : (all : Bool) → Ask
  AskVerify : Ask
  AskMeasure : (op : ℕ) → Ask
  AskChunk : (op : ℕ) → (handle : ℕ) → (number : ℕ) → (before : List ChunkMessage) → Ask
  AskEnd : Ask

-- What a message asks for. In the clear, a request: it stands whole in the message; or the message is CHUNK_SEND with
-- the chunk of this number of it; or CHUNK_GET for the chunk of this number of its large response, after the chunks of
-- it that were taken, the newest first. In a record, an ask of the session with this ReqSessionID.
pub data Aim : Type 0 where
  Plain : (asked : RequestMessage) → Aim
  ByChunks : (asked : RequestMessage) → (handle : ℕ) → (number : ℕ) → Aim
  ForChunk : (asked : RequestMessage) → (handle : ℕ) → (number : ℕ) → (before : List ChunkMessage) → Aim
  InSession : (id : ℕ) → (ask : Ask) → Aim

-- A message is a clear one; or a record, which was sealed of an inner message and padding.
pub data Content : Type 0 where
  Clear : (message : List ℕ) → Content
  Sealed : (sealed : List ℕ) → (inner : List ℕ) → (pad : List ℕ) → Content

-- A message as it is sent, under its message tag (DSP0236).
pub record Sent : Type 0 where
  pub tag : ℕ
  pub content : Content
  pub aim : Aim

-- The body that is cut into packets.
abbrev pub body_of : Content → List ℕ
body_of (Clear message) = clear_body message
body_of (Sealed sealed inner pad) = record_body sealed

-- The request in the clear that a message asks for.
abbrev pub asked_in : Aim → Option RequestMessage
asked_in (Plain asked) = Some asked
asked_in (ByChunks asked handle number) = Some asked
asked_in (ForChunk asked handle number before) = Some asked
asked_in (InSession id ask) = None
