-- A walk over the packets of a capture is one walk for each requester, and these do not touch one another. This
-- project's own.
use Rattle.std.specs.Prelude.{◌≡◌, ◌↔◌, ◌==◌, ◌&&◌, ℕ, List, [], ◌∷◌, reverse, if◌then◌else◌, Bool, true, false, Result, Ok, Err, MatchBool}
use Rattle.mctp_framing.specs.Packet.{PacketFields, parsed}
use Rattle.requester_machine.specs.Setup.{ReqSetup}
use Rattle.spdm_basis.specs.declared.PacketFault.{PacketFault}
use Rattle.spdm_machine.specs.Packets.{gathered_from}
use Rattle.check_laws.specs.Judged.{AreApart}
use Rattle.check_laws.specs.Order.{is_answer, is_known, is_request}
use Rattle.capture_machine.specs.Capture.{AsksBy, Conforms, Leads, RepliesBy}
use Rattle.capture_machine.specs.Rounds.{Dialogue, new_dialogue}
use Rattle.world_machine.specs.Setup.{Configuration}

-- ---- One requester.

-- What a packet may make of what is between the responder and the requester with this endpoint: a packet from this
-- requester, or one for it. Any other leaves it as it is.
abbrev pub StepsBy : Configuration → (eid : ℕ) → List (List ℕ) → Dialogue → Dialogue → Result PacketFields PacketFault → Type 0
StepsBy w eid older d next (Err fault) = next ≡ d
StepsBy w eid older d next (Ok packet) =
    MatchBool (is_request w.responder.eid eid packet)
    (AsksBy d (gathered_from w.responder.eid eid older packet) next)
    (MatchBool (is_answer w.responder.eid eid packet) (RepliesBy w d (gathered_from eid w.responder.eid older packet) next) (next ≡ d))

-- The same of bytes, after the packets before them, the newest first.
unfoldable pub StepsTo : Configuration → (eid : ℕ) → List (List ℕ) → Dialogue → List ℕ → Dialogue → Type 0
StepsTo w eid older d packet next = StepsBy w eid older d next (parsed packet)

-- Packets, the newest first, may lead to what is then between the responder and a requester that is set up so.
abbrev pub Walks : Configuration → ReqSetup → List (List ℕ) → Dialogue → Type 0
Walks w q [] d = d ≡ new_dialogue q
Walks w q (packet ∷ older) d = (before : Dialogue) × Walks w q older before × StepsTo w q.eid older before packet d

-- ---- All requesters.

-- To each of them there is such a walk.
abbrev pub WalkEach : Configuration → List (List ℕ) → List ReqSetup → List Dialogue → Type 0
WalkEach w older [] [] = Unit {0}
WalkEach w older (q ∷ qs) (d ∷ ds) = Walks w q older d × WalkEach w older qs ds
WalkEach w older _ _ = ⊥

-- It is a packet, and goes between the responder and a requester that is set up.
abbrev pub goes_between : Configuration → Result PacketFields PacketFault → Bool
goes_between w (Err fault) = false
goes_between w (Ok packet) =
    if packet.to == w.responder.eid then is_known packet.from w.requesters
    else packet.from == w.responder.eid && is_known packet.to w.requesters

-- All of these are, and do.
abbrev pub all_between : Configuration → List (List ℕ) → Bool
all_between w [] = true
all_between w (packet ∷ older) = goes_between w (parsed packet) && all_between w older

-- Where the endpoints differ, a walk over packets is a walk for each requester over packets that all go between the
-- responder and one of them.
abbrev pub LeadsIsEach : Type 0
LeadsIsEach = (w : Configuration) (older : List (List ℕ)) (ds : List Dialogue) → AreApart w.responder.eid w.requesters
    → Leads w older ds ↔ (WalkEach w older w.requesters ds × (all_between w older ≡ true))

-- Each of these requesters has a walk over the packets.
abbrev pub HaveWalks : Configuration → List (List ℕ) → List ReqSetup → Type 0
HaveWalks w older [] = Unit {0}
HaveWalks w older (q ∷ qs) = ((d : Dialogue) × Walks w q older d) × HaveWalks w older qs

-- So packets, in order, conform where they all go between the responder and a requester, and each requester has a walk
-- over them.
abbrev pub ConformsIsEach : Type 0
ConformsIsEach = (w : Configuration) (packets : List (List ℕ)) → AreApart w.responder.eid w.requesters
    → Conforms w packets ↔ (HaveWalks w (reverse packets) w.requesters × (all_between w (reverse packets) ≡ true))
