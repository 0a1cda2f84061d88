-- What goes on from one walk over the packets of a capture goes on from each other one. This project's own.
use Rattle.std.specs.Prelude.{◌≡◌, ◌==◌, ◌&&◌, not, ℕ, List, ◌∷◌, if◌then◌else◌, Bool, true, false, Option, Some, None, is_none, Result, Ok, Err}
use Rattle.mctp_framing.specs.Gathering.{Gathered}
use Rattle.mctp_framing.specs.Gathering.Gathered.{Whole}
use Rattle.mctp_framing.specs.Packet.{PacketFields, parsed}
use Rattle.spdm_basis.specs.declared.PacketFault.{PacketFault}
use Rattle.spdm_machine.specs.Packets.{body_type, gathered_from}
use Rattle.capture_machine.specs.Capture.{AsksBy, Follows, Leads, RepliesBy}
use Rattle.capture_machine.specs.CapturedRequests.{owes}
use Rattle.capture_machine.specs.Difference.{is_copy}
use Rattle.capture_machine.specs.Rounds.{Dialogue, dialogue_at}
use Rattle.world_machine.specs.Setup.{Configuration}
use Rattle.spdm_grammar.specs.declared.names.message_type.TheConstants.{SECURED}

-- It completes the record that is owed. Each walk has a padding for it, and the record shows which.
abbrev pub shows_padding : Dialogue → Gathered → Bool
shows_padding d (Whole route body) = owes d && (body_type body == SECURED && not (is_copy d.round route.tag body))
shows_padding d _ = false

-- ---- One dialogue.

-- A request that goes on from what is between two ends in one walk goes on from what is between them in each other one,
-- where no large request is in progress, and it is no record that was owed.
abbrev pub AsksGoOn : Type 0
AsksGoOn = (w : Configuration) (older : List (List ℕ)) (ds es : List Dialogue) (eid : ℕ) (d e : Dialogue) (g : Gathered) (next : Dialogue)
    → Leads w older ds → Leads w older es → dialogue_at eid ds ≡ Some d → dialogue_at eid es ≡ Some e
    → d.sending ≡ None → shows_padding d g ≡ false
    → AsksBy d g next → (other : Dialogue) × AsksBy e g other

-- An answer likewise, where no large response is fetched.
abbrev pub RepliesGoOn : Type 0
RepliesGoOn = (w : Configuration) (older : List (List ℕ)) (ds es : List Dialogue) (eid : ℕ) (d e : Dialogue) (g : Gathered) (next : Dialogue)
    → Leads w older ds → Leads w older es → dialogue_at eid ds ≡ Some d → dialogue_at eid es ≡ Some e
    → d.fetching ≡ None
    → RepliesBy w d g next → (other : Dialogue) × RepliesBy w e g other

-- ---- One packet.

-- No large request is in progress at this requester, and the packet completes no record that was owed.
abbrev pub is_shared_from : Configuration → List (List ℕ) → PacketFields → Option Dialogue → Bool
is_shared_from w older packet None = true
is_shared_from w older packet (Some d) = is_none d.sending && not (shows_padding d (gathered_from w.responder.eid d.setup.eid older packet))

-- No large response is fetched by this requester.
abbrev pub is_shared_to : Option Dialogue → Bool
is_shared_to None = true
is_shared_to (Some d) = is_none d.fetching

-- Walks differ in nothing that counts for this packet.
abbrev pub is_shared : Configuration → List (List ℕ) → List Dialogue → Result PacketFields PacketFault → Bool
is_shared w older ds (Err fault) = true
is_shared w older ds (Ok packet) =
    if packet.to == w.responder.eid then is_shared_from w older packet (dialogue_at packet.from ds)
    else is_shared_to (dialogue_at packet.to ds)

-- Such a packet goes on from each walk over the packets before it, if it goes on from some walk: what one walk refuses,
-- all refuse.
abbrev pub GoesOnFromEach : Type 0
GoesOnFromEach = (w : Configuration) (older : List (List ℕ)) (packet : List ℕ) (ds after : List Dialogue)
    → Leads w older ds → is_shared w older ds (parsed packet) ≡ true
    → Leads w (packet ∷ older) after → (other : List Dialogue) × Follows w older ds packet other
