-- When a capture conforms: its packets are what a responder and its requesters, as they are set up, may have sent to
-- one another. This project's own.
use Rattle.std.specs.Prelude.{◌≡◌, ◌<◌, ◌+◌, ◌-◌, ◌==◌, ◌||◌, ◌⊎◌, ℕ, List, [], ◌∷◌, ◌++◌, map, reverse, take, length, Bool, true, false, Option, Some, None, Result, Ok, Err, MatchBool, bytes_eq}
use Rattle.mctp_framing.specs.Gathering.{Gathered}
use Rattle.mctp_framing.specs.Gathering.Gathered.{Whole, More, Dropped}
use Rattle.mctp_framing.specs.Packet.{PacketFields, parsed}
use Rattle.requester_machine.specs.History as requester_history
use Rattle.spdm_basis.specs.declared.PacketFault.{PacketFault}
use Rattle.spdm_grammar.specs.Message.RequestMessage.{GetVersion}
use Rattle.spdm_grammar.specs.Requests.{canonical_request}
use Rattle.responder_machine.specs.History.{History}
use Rattle.spdm_machine.specs.Bodies.{clear_body}
use Rattle.capture_machine.specs.CapturedAnswers.{Answers, Hears}
use Rattle.capture_machine.specs.CapturedRequests.{Sends}
use Rattle.capture_machine.specs.LargeAnswers.{while_fetched, asks_known}
use Rattle.spdm_machine.specs.Packets.{gathered_from, body_type}
use Rattle.capture_machine.specs.Rounds.{Dialogue, Round, new_dialogue, new_round, following_tag, dialogue_at, with_dialogue}
use Rattle.responder_machine.specs.Setup.{towards}
use Rattle.world_machine.specs.Setup.{Configuration, known_of}
use Rattle.spdm_grammar.specs.declared.names.message_type.TheConstants.{SECURED, SPDM}

-- ---- A request.

-- A copy: the tag and the bytes of the last round's request.
abbrev pub Copies : Dialogue → ℕ → List ℕ → Dialogue → Type 0
Copies d tag body next =
    (round : Round) × (d.round ≡ Some round) × (round.tag ≡ tag) × (round.body ≡ body)
    × (next ≡ record d { round = Some (record round { waiting = round.waiting + 1 }) })

-- A new round begins after an answer, or at any place by GET_VERSION. Of the last round's requests some may have no
-- answer. Where one has, they are copies of it, and were answered with the same again; where none has, any answer may
-- have been given, and GET_VERSION follows. No later answer can tell, so they add nothing to the histories.
abbrev pub may_begin : Option Round → List ℕ → Bool
may_begin None body = true
may_begin (Some round) body = round.answered || bytes_eq body (clear_body (canonical_request GetVersion))

-- It begins under the next tag, with a body that the requester may send.
abbrev pub Begins : Dialogue → ℕ → List ℕ → Dialogue → Type 0
Begins d tag body next =
    (may_begin d.round body ≡ true) × (tag ≡ following_tag d.round)
    × ((h : requester_history.History) × (sending : Option (List ℕ)) × Sends d body h sending
    × (next ≡ record d { requester = h; sending = sending; round = Some (new_round tag body) }))

-- ---- An answer.

-- An answer has the tag of the last round, in which a request has none yet. The responder takes the oldest such request
-- and may answer it so, and the requester hears the answer. Where it asks for a chunk in response to it, a large
-- response is in progress.
abbrev pub Replies : Configuration → Dialogue → ℕ → List ℕ → Dialogue → Type 0
Replies w d tag answer next =
    (round : Round) × (d.round ≡ Some round) × (round.tag ≡ tag) × (0 < round.waiting)
    × ((h : History) × (fetching : Option (List ℕ)) × Answers (towards w.responder (known_of d.setup)) d round answer h fetching
    × ((g : requester_history.History) × Hears d tag answer g
    × (next ≡ record d {
      requester = g;
      responder = h;
      fetching = while_fetched g fetching;
      round = Some (record round { waiting = round.waiting - 1; answered = true });
    })
    × (asks_known g fetching ≡ true)))

-- ---- Packets.

-- A body of type 5 or 6, with the tag owner bit set: a request.
abbrev pub IsBody : List ℕ → Type 0
IsBody body = (body_type body == SPDM || body_type body == SECURED) ≡ true

-- A packet for the responder completes a request, or more is awaited. It is not dropped.
abbrev pub AsksBy : Dialogue → Gathered → Dialogue → Type 0
AsksBy d (Whole route body) next = IsBody body × (route.owner ≡ true) × (Copies d route.tag body next ⊎ Begins d route.tag body next)
AsksBy d More next = next ≡ d
AsksBy d (Dropped cause) next = ⊥

-- The same for a requester and an answer, with the tag owner bit clear.
abbrev pub RepliesBy : Configuration → Dialogue → Gathered → Dialogue → Type 0
RepliesBy w d (Whole route body) next = IsBody body × (route.owner ≡ false) × Replies w d route.tag body next
RepliesBy w d More next = next ≡ d
RepliesBy w d (Dropped cause) next = ⊥

-- It comes from a requester that is set up, after the packets before it, the newest first.
abbrev pub ComesFrom : Configuration → List (List ℕ) → PacketFields → List Dialogue → List Dialogue → Option Dialogue → Type 0
ComesFrom w older packet before after None = ⊥
ComesFrom w older packet before after (Some d) =
    (next : Dialogue) × AsksBy d (gathered_from w.responder.eid d.setup.eid older packet) next × (after ≡ with_dialogue next before)

-- It goes to a requester that is set up, after the packets before it, the newest first.
abbrev pub GoesTo : Configuration → List (List ℕ) → PacketFields → List Dialogue → List Dialogue → Option Dialogue → Type 0
GoesTo w older packet before after None = ⊥
GoesTo w older packet before after (Some d) =
    (next : Dialogue) × RepliesBy w d (gathered_from d.setup.eid w.responder.eid older packet) next × (after ≡ with_dialogue next before)

-- A packet parses, and goes between the responder and a requester. So it may follow those before it.
abbrev pub FollowsBy : Configuration → List (List ℕ) → List Dialogue → List Dialogue → Result PacketFields PacketFault → Type 0
FollowsBy w older before after (Err fault) = ⊥
FollowsBy w older before after (Ok packet) =
    MatchBool (packet.to == w.responder.eid)
    (ComesFrom w older packet before after (dialogue_at packet.from before))
    (MatchBool (packet.from == w.responder.eid) (GoesTo w older packet before after (dialogue_at packet.to before)) ⊥)

-- A packet may follow those before it, the newest first, and lead from dialogues to what they are after it.
unfoldable pub Follows : Configuration → List (List ℕ) → List Dialogue → List ℕ → List Dialogue → Type 0
Follows w older before packet after = FollowsBy w older before after (parsed packet)

-- ---- A capture.

-- Packets, the newest first, may lead to what the dialogues then are.
abbrev pub Leads : Configuration → List (List ℕ) → List Dialogue → Type 0
Leads w [] ds = ds ≡ map new_dialogue w.requesters
Leads w (packet ∷ older) ds = (before : List Dialogue) × Leads w older before × Follows w older before packet ds

-- Packets, in order, conform where they may lead to something.
abbrev pub Conforms : Configuration → List (List ℕ) → Type 0
Conforms w packets = (ds : List Dialogue) × Leads w (reverse packets) ds

-- The packet of this number, counted from 1, is the first that does not conform: the packets before it do, and those up
-- to it do not.
pub record IsFirstDifference (w : Configuration) (packets : List (List ℕ)) (number : ℕ) : Type 0 where
  pub least : 0 < number
  pub most : number < length packets + 1
  pub before : Conforms w (take (number - 1) packets)
  pub at : Conforms w (take number packets) → ⊥

-- The beginning of a conforming capture conforms.
abbrev pub BeginningConforms : Type 0
BeginningConforms = (w : Configuration) (earlier later : List (List ℕ)) → Conforms w (earlier ++ later) → Conforms w earlier

-- No capture has two first differences.
abbrev pub OneIsFirst : Type 0
OneIsFirst = (w : Configuration) (packets : List (List ℕ)) (one other : ℕ)
    → IsFirstDifference w packets one → IsFirstDifference w packets other → one ≡ other
