-- How a responder and its requesters may be set up: the limits that both ends refuse to go past, and what keeps the
-- pairs of a world apart. A script that is read keeps all of this.
use Rattle.std.specs.Prelude.{◌≡◌, ◌≢◌, ◌≤◌, ◌<◌, ◌+◌, ◌-◌, ◌^◌, ℕ, List, [], ◌∷◌, length, map, false, None, All}
use Rattle.measurements.specs.Faults.{inventory_fault}
use Rattle.spdm_grammar.specs.declared.messages.choice.FlagSet.{FlagSet}
use Rattle.spdm_grammar.specs.declared.names.TheConstants.{MAX_MESSAGE_SIZE, MAX_OPAQUE_LEN, MAX_PADDING, MIN_DATA_TRANSFER_SIZE}
use Rattle.responder_machine.specs.Setup.{RspSetup, Known, towards}
use Rattle.requester_machine.specs.Setup.{ReqSetup, ReqEnd}
use Rattle.spdm_machine.specs.Packets.{wear_limit}
use Rattle.world_machine.specs.Setup.{WorldSetup, Configuration, known_of}

-- An EID is neither one of the special ones, 0 to 7, nor the broadcast EID, 255 (DSP0236, "MCTP endpoint ID").
pub record IsEid (eid : ℕ) : Type 0 where
  pub least : 8 ≤ eid
  pub most : eid < 255

-- The sizes of an end: the transfer size is at least 42 bytes (DSP0274, "GET_CAPABILITIES request message format"),
-- and no message has more than 4,096 bytes (this project's own limit). Without CHUNK_CAP both sizes are one (DSP0274).
-- The payload of a packet has at least the 64 bytes of the baseline transmission unit (DSP0236), and at most 1,024
-- (this project's own limit).
pub record HasSizes (transfer max unit : ℕ) (flags : FlagSet) : Type 0 where
  pub least : MIN_DATA_TRANSFER_SIZE ≤ transfer
  pub ordered : transfer ≤ max
  pub most : max ≤ MAX_MESSAGE_SIZE
  pub whole : flags.chunk ≡ false → max ≡ transfer
  pub payload : 64 ≤ unit
  pub payload_most : unit ≤ 1024

-- A hint has at most 64 bytes, a pre-shared key 1 to 64: HMAC takes such a key as it is. These and the others below are
-- this project's own limits.
pub record HasKey (hint psk : List ℕ) : Type 0 where
  pub hint_most : length hint ≤ 64
  pub hint_bytes : All (λ (byte : ℕ). byte < 256) hint
  pub psk_least : 1 ≤ length psk
  pub psk_most : length psk ≤ 64
  pub psk_bytes : All (λ (byte : ℕ). byte < 256) psk

-- A requester: PSK_EXCHANGE with the longest context, hint and opaque data is a message of at most 4,096 bytes, and a
-- record has at most 16 bytes of padding.
pub record IsRequester (q : ReqSetup) : Type 0 where
  pub eid : IsEid q.eid
  pub responder : IsEid q.responder
  pub other : q.eid ≢ q.responder
  pub sizes : HasSizes q.transfer q.max q.unit q.flags
  pub key : HasKey q.hint q.psk
  pub opaque : length q.opaque ≤ MAX_OPAQUE_LEN
  pub opaque_bytes : All (λ (byte : ℕ). byte < 256) q.opaque
  pub pad : q.pad ≤ MAX_PADDING

-- A responder towards one requester. Its heartbeat period is a byte, and its measurements make an inventory.
pub record IsResponder (r : RspSetup) : Type 0 where
  pub eid : IsEid r.eid
  pub peer : IsEid r.peer
  pub sizes : HasSizes r.transfer r.max r.unit r.flags
  pub beat : r.beat < 256
  pub key : HasKey r.hint r.psk
  pub opaque : length r.opaque ≤ MAX_OPAQUE_LEN
  pub opaque_bytes : All (λ (byte : ℕ). byte < 256) r.opaque
  pub blocks : inventory_fault r.blocks ≡ None

-- No endpoint and no pre-shared key occurs twice.
abbrev pub AreApart : List ReqSetup → Type 0
AreApart [] = Unit {0}
AreApart (q ∷ others) = All (λ (other : ReqSetup). (q.eid ≢ other.eid) × (q.psk ≢ other.psk)) others × AreApart others

-- No draw from this first one on has a number that eight bytes do not hold: an end takes at most one draw with each
-- packet and command.
abbrev pub HasDraws : (first : ℕ) → Type 0
HasDraws first = first + wear_limit ≤ 2 ^ 64

-- How the requesters of a world are set up.
abbrev pub setups_of : List ReqEnd → List ReqSetup
setups_of ends = map (λ (e : ReqEnd). e.setup) ends

-- A world of ends: at most eight requesters, each of which knows the responder, and each of which the responder knows;
-- and each end with draws enough, whatever its seed and wherever they begin.
pub record IsConfigured (w : WorldSetup) : Type 0 where
  pub count : length w.requesters ≤ 8
  pub requesters : All IsRequester (setups_of w.requesters)
  pub responders : All (λ (q : Known). IsResponder (towards w.responder.part q)) w.responder.known
  pub known : w.responder.known ≡ map known_of (setups_of w.requesters)
  pub peers : All (λ (q : ReqSetup). q.responder ≡ w.responder.part.eid) (setups_of w.requesters)
  pub apart : AreApart (setups_of w.requesters)
  pub draws : All (λ (e : ReqEnd). HasDraws e.first) w.requesters
  pub responder_draws : HasDraws w.responder.first

-- What a text may set up: the same limits of the responder and its requesters.
pub record IsConfiguration (c : Configuration) : Type 0 where
  pub count : length c.requesters ≤ 8
  pub requesters : All IsRequester c.requesters
  pub responders : All (λ (q : Known). IsResponder (towards c.responder q)) (map known_of c.requesters)
  pub peers : All (λ (q : ReqSetup). q.responder ≡ c.responder.eid) c.requesters
  pub apart : AreApart c.requesters

-- The greatest boot number: the draws of its life still have numbers of eight bytes.
abbrev pub boot_most : ℕ
boot_most = 2 ^ 24 - 2
