-- A connection at which the first chunk of a large response is asked for late, for the checker answers whose bytes come
-- chunk by chunk. This project's own.
use Rattle.std.specs.Prelude.{ℕ, List, Option}
use Rattle.responder_core.specs.Pending.{history_changed}
use Rattle.responder_core.specs.declared.connected.Connection.{Connection}
use Rattle.responder_machine.specs.History.{History, KeptRecord}
use Rattle.responder_session.specs.LateFetch.{turn_pending}

-- The history in which the last record of the session of this id that was taken and is no CHUNK_GET has these bytes as
-- the answer to its request, which goes by LargeResponse with this handle.
abbrev pub history_pending : (id : ℕ) → List ℕ → (handle : ℕ) → History → History
history_pending id answer handle = history_changed (turn_pending answer handle) id

-- The connection with another last record of the ended session.
abbrev pub with_ended : Connection → Option KeptRecord → Connection
with_ended seen last = record seen { sessions = record seen.sessions { ended = last } }
