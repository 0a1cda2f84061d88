-- A responder whose keys and plaintexts are overwritten, as its memory may be given back.
use Rattle.std.specs.Prelude.{◌≡◌, length, replicate}
use Rattle.std.specs.List.{AllWithin}
use Rattle.responder.specs.declared.peer.Peer.{Peer}
use Rattle.responder.specs.declared.room.Room.{Room}
use Rattle.responder.specs.declared.serving.Responder.{Responder}
use Rattle.responder.specs.declared.shared.Shared.{Shared}
use Rattle.responder_core.specs.NoSessions.{HasNoSessions}
use Rattle.responder_session.specs.Wiped.{IsWipedWork}
use Rattle.secured_record.specs.declared.TheConstants.{MAX_RECORD_SIZE}
use Rattle.spdm_grammar.specs.declared.names.TheConstants.{MAX_APP_DATA_LEN, MAX_MESSAGE_SIZE}

-- The buffers for a response are zeros, to their whole capacity, but for the body that was sent.
pub record IsWipedRoom (room : Room) : Type 0 where
  pub message : room.message ≡ replicate MAX_MESSAGE_SIZE 0
  pub sealed : room.«record» ≡ replicate MAX_RECORD_SIZE 0
  pub reply : room.reply ≡ replicate MAX_APP_DATA_LEN 0
  pub work : IsWipedWork room.work.value

-- The seed of the draws, the application data received last and the buffers are zeros.
pub record IsWipedShared (shared : Shared) : Type 0 where
  pub seed : shared.draws ≡ record { seed = replicate 32 0; number = 0 }
  pub last : shared.last ≡ replicate MAX_APP_DATA_LEN 0
  pub room : IsWipedRoom shared.room.value

-- The pre-shared key is zeros, as many as a key has at most; there is no session: each slot is overwritten; and the
-- application data that waited are zeros, in as many places as there are.
pub record IsWipedPeer (peer : Peer) : Type 0 where
  pub psk : peer.known.psk ≡ replicate 64 0
  pub sessions : HasNoSessions peer.connection.sessions
  pub queue : peer.connection.queue ≡ replicate 16 (replicate MAX_APP_DATA_LEN 0)

-- So it is of each requester, and of what they share.
pub record IsWiped (seen : Responder) : Type 0 where
  pub shared : IsWipedShared seen.shared
  pub peers : AllWithin IsWipedPeer seen.peers.items 0 (length seen.peers.items)
