-- Why a packet is the first of a capture that does not conform. This project's own.
use Rattle.std.specs.Prelude.{◌≡◌, ◌+◌, ◌-◌, ◌==◌, ◌&&◌, ◌||◌, ◌⊎◌, not, nat_lt, nat_le, ℕ, List, [], length, take, drop, reverse, slice_index, slice_index_or, if◌then◌else◌, Bool, true, false, Option, Some, None, Result, Ok, Err, MatchBool, bytes_eq}
use Rattle.mctp_framing.specs.Gathering.{Gathered}
use Rattle.mctp_framing.specs.Gathering.Gathered.{Whole, More, Dropped}
use Rattle.mctp_framing.specs.Packet.{PacketFields, parsed}
use Rattle.requester_machine.specs.History.{outstanding}
use Rattle.requester_machine.specs.Message.{Aim, Content, Sent}
use Rattle.requester_machine.specs.Message.Aim.{InSession}
use Rattle.requester_machine.specs.Message.Ask.{AskFinish}
use Rattle.requester_machine.specs.Message.Content.{Sealed}
use Rattle.requester_machine.specs.Session as requester_session
use Rattle.spdm_basis.specs.declared.PacketFault.{PacketFault}
use Rattle.spdm_grammar.specs.Message.{RequestMessage}
use Rattle.spdm_grammar.specs.Message.RequestMessage.{GetVersion}
use Rattle.responder_machine.specs.History.{History, Entry, clear_turns, negotiation_of}
use Rattle.responder_machine.specs.Responder.Outcome.{Adds}
use Rattle.responder_machine.specs.Responder.{sent_by}
use Rattle.responder_machine.specs.Setup.{RspSetup}
use Rattle.spdm_machine.specs.Terms.{request_value, terms_of, hash_len}
use Rattle.capture_machine.specs.Capture.{IsFirstDifference, Leads}
use Rattle.capture_machine.specs.CapturedAnswers.{Answers, MayLeadTo, MayHaveLed}
use Rattle.capture_machine.specs.CapturedRequests.{owes, without_owed}
use Rattle.capture_machine.specs.LargeAnswers.{gives_last, judging, place_named, begun_with, is_untouched}
use Rattle.capture_machine.specs.Opening.{opens_asking, inner_asking, opens_answering}
use Rattle.requester_machine.specs.Named.{names, session_named}
use Rattle.spdm_machine.specs.Packets.{gathered_from, body_type}
use Rattle.capture_machine.specs.Rounds.{Dialogue, Round, following_tag, dialogue_at}
use Rattle.responder_machine.specs.Setup.{towards}
use Rattle.world_machine.specs.Setup.{Configuration, known_of}
use Rattle.spdm_grammar.specs.declared.names.response_code.TheConstants.{PSK_EXCHANGE_RSP, CHUNK_SEND_ACK}
use Rattle.secured_record.specs.declared.TheConstants.{MIN_RECORD_SIZE}
use Rattle.spdm_grammar.specs.declared.names.message_type.TheConstants.{SECURED, SPDM}

-- The reasons, of which the first that holds is the one. It is no packet, is dropped by its receiver, or completes a
-- body of another type than 5 and 6; it does not go between the responder and a requester that is set up; it comes out
-- of turn; it is a request that the requester may not send, or an answer that the responder may not give, in the clear
-- or in a record that opens; its verify data alone are not the right ones; it is a record that does not open.
pub data Why : Type 0 where
  BadPacket : Why
  UnknownEnd : Why
  WrongTurn : Why
  BadRequest : Why
  BadReply : Why
  BadVerify : Why
  BadRecord : Why

-- ---- Turns.

-- The tag and the bytes are those of the last round's request.
abbrev pub is_copy : Option Round → ℕ → List ℕ → Bool
is_copy None tag body = false
is_copy (Some round) tag body = round.tag == tag && bytes_eq round.body body

-- The request is GET_VERSION.
abbrev pub is_get_version : Option RequestMessage → Bool
is_get_version (Some GetVersion) = true
is_get_version _ = false

-- A body that encodes GET_VERSION comes at any place, also in an encoding that no requester sends.
abbrev pub may_come : Option Round → List ℕ → Bool
may_come None body = true
may_come (Some round) body = round.answered || (body_type body == SPDM && is_get_version (request_value (drop 1 body)))

-- A request is out of turn without the tag owner bit, and where it is no copy, with another tag than the next, or
-- before the last round has an answer.
abbrev pub asks_out_of_turn : Dialogue → Bool → ℕ → List ℕ → Bool
asks_out_of_turn d owner tag body =
    not owner || (not (is_copy d.round tag body) && (not (tag == following_tag d.round) || not (may_come d.round body)))

-- The last round has this tag, and a request of it waits for an answer.
abbrev pub is_waiting : Option Round → ℕ → Bool
is_waiting None tag = false
is_waiting (Some round) tag = round.tag == tag && nat_lt 0 round.waiting

-- An answer is out of turn with the tag owner bit, with another tag than the last round's, and where no request of it
-- waits.
abbrev pub replies_out_of_turn : Dialogue → Bool → ℕ → Bool
replies_out_of_turn d owner tag = owner || not (is_waiting d.round tag)

-- ---- Verify data.

-- Two messages of one length differ in their last bytes alone, as many as verify data have.
abbrev pub is_apart : ℕ → List ℕ → List ℕ → Bool
is_apart size one other =
    length one == length other && not (bytes_eq one other) && bytes_eq (take (length one - size) one) (take (length other - size) other)

-- The inner message of the PSK_FINISH that is owed, with the ReqSessionID of its session.
abbrev pub finish_in : Option Sent → Option (ℕ × List ℕ)
finish_in None = None
finish_in (Some sent) = finish_by sent.aim sent.content
  where
    finish_by : Aim → Content → Option (ℕ × List ℕ)
    finish_by (InSession id AskFinish) (Sealed sealed inner pad) = Some (id, inner)
    finish_by _ _ = None

-- A record with an inner message has at most 16 bytes of padding.
abbrev pub is_padded : List ℕ → List ℕ → Bool
is_padded sealed inner = nat_le (length sealed) (MIN_RECORD_SIZE + length inner + 16)

-- A record names a session and opens there, its padding is no longer than it may be, and its inner message is apart
-- from the PSK_FINISH that is owed.
abbrev pub is_finish_apart : Dialogue → (sealed : List ℕ) → Option (ℕ × List ℕ) → Bool
is_finish_apart d sealed None = false
is_finish_apart d sealed (Some finish) =
    let s = requester_session.session_of finish.0 (without_owed d) in
    names sealed s && opens_asking d.setup s sealed
    && is_padded sealed (inner_asking d.setup s sealed)
    && is_apart (hash_len (requester_session.session_terms s)) finish.1 (inner_asking d.setup s sealed)

-- A record is apart from the PSK_FINISH that is owed.
abbrev pub asks_apart : Dialogue → List ℕ → Bool
asks_apart d body = body_type body == SECURED && owes d && is_finish_apart d (drop 1 body) (finish_in (outstanding d.requester))

-- How many bytes verify data have: the length of the hash that was chosen.
abbrev pub verify_size : Dialogue → ℕ
verify_size d = hash_len (terms_of (negotiation_of (clear_turns d.responder)))

-- PSK_EXCHANGE_RSP, plain or in an acknowledgement.
abbrev pub carries_exchange : List ℕ → Bool
carries_exchange body = body_type body == SPDM && (slice_index body 2 == PSK_EXCHANGE_RSP || (slice_index body 2 == CHUNK_SEND_ACK && slice_index body 8 == PSK_EXCHANGE_RSP))

-- An answer may be given that carries PSK_EXCHANGE_RSP, and from which this one is apart.
abbrev pub RepliesApart : RspSetup → Dialogue → Round → List ℕ → Type 0
RepliesApart r d round answer =
    (other : List ℕ) × (h : History) × (fetching : Option (List ℕ)) × Answers r d round other h fetching
    × (carries_exchange other ≡ true)
    × (is_apart (verify_size d) other answer ≡ true)

-- By chunks, of which this is the last: all of them have the right form, and carry bytes from which an answer is apart
-- that may be given.
abbrev pub CompletesApart : RspSetup → Dialogue → Round → List ℕ → Type 0
CompletesApart r d round answer =
    (whole : List ℕ) × (other : List ℕ) × (dropped : List ℕ) × (entry : Entry)
    × (d.fetching ≡ Some whole)
    × MayLeadTo r (judging d.fetching round.body d.responder) round.tag round.body (Adds entry)
    × (gives_last (judging d.fetching round.body d.responder) entry ≡ true)
    × (sent_by entry ≡ answer)
    × MayHaveLed r (place_named round.body) other dropped d.responder
    × (slice_index other 1 ≡ PSK_EXCHANGE_RSP)
    × (is_apart (verify_size d) other whole ≡ true)
    × (is_untouched (place_named round.body) (begun_with (place_named round.body) other d.responder) d.responder ≡ true)

-- An answer is apart in one of these two ways; where there is no round, in none.
abbrev pub AreRepliesApart : RspSetup → Dialogue → Option Round → List ℕ → Type 0
AreRepliesApart r d None answer = ⊥
AreRepliesApart r d (Some round) answer = RepliesApart r d round answer ⊎ CompletesApart r d round answer

-- The packet completes a request, in turn, whose verify data alone are wrong.
abbrev pub ComesApart : Dialogue → Gathered → Type 0
ComesApart d (Whole route body) = (asks_out_of_turn d route.owner route.tag body ≡ false) × (asks_apart d body ≡ true)
ComesApart d _ = ⊥

-- The packet completes an answer, in turn, whose verify data alone are wrong.
abbrev pub GoesApart : RspSetup → Dialogue → Gathered → Type 0
GoesApart r d (Whole route body) = (replies_out_of_turn d route.owner route.tag ≡ false) × AreRepliesApart r d d.round body
GoesApart r d _ = ⊥

-- It comes from a requester that is set up and completes such a request.
abbrev pub ComesApartFrom : Configuration → List (List ℕ) → PacketFields → Option Dialogue → Type 0
ComesApartFrom w older packet None = ⊥
ComesApartFrom w older packet (Some d) = ComesApart d (gathered_from w.responder.eid d.setup.eid older packet)

-- It goes to a requester that is set up and completes such an answer.
abbrev pub GoesApartTo : Configuration → List (List ℕ) → PacketFields → Option Dialogue → Type 0
GoesApartTo w older packet None = ⊥
GoesApartTo w older packet (Some d) = GoesApart (towards w.responder (known_of d.setup)) d (gathered_from d.setup.eid w.responder.eid older packet)

-- It parses, and is such a packet to the responder from a requester, or from the responder to one.
abbrev pub IsApartBy : Configuration → List (List ℕ) → List Dialogue → Result PacketFields PacketFault → Type 0
IsApartBy w older ds (Err fault) = ⊥
IsApartBy w older ds (Ok packet) =
    MatchBool (packet.to == w.responder.eid)
    (ComesApartFrom w older packet (dialogue_at packet.from ds))
    (MatchBool (packet.from == w.responder.eid) (GoesApartTo w older packet (dialogue_at packet.to ds)) ⊥)

-- The packet is apart, that is wrong in its verify data only, after some walk over the packets before it, the newest
-- first.
unfoldable pub IsVerifyApart : Configuration → List (List ℕ) → List ℕ → Type 0
IsVerifyApart w older packet = (ds : List Dialogue) × Leads w older ds × IsApartBy w older ds (parsed packet)

-- ---- The other reasons.

-- A request that is in turn: a clear one is known to be none that the requester may send, and so is a record that opens
-- in the session that it names.
abbrev pub request_why : Dialogue → List ℕ → Why
request_why d body =
    if body_type body == SPDM || opens_asking d.setup (session_named (without_owed d) (drop 1 body)) (drop 1 body) then BadRequest
    else BadRecord

-- An answer that is in turn, likewise.
abbrev pub reply_why : RspSetup → Dialogue → List ℕ → Option Round → Why
reply_why r d answer None = WrongTurn
reply_why r d answer (Some round) =
    if body_type answer == SPDM || opens_answering r d.responder (body_type round.body == SPDM) (drop 1 round.body) (drop 1 answer) then BadReply
    else BadRecord

-- The type of the body is neither 5 nor 6.
abbrev pub is_other_type : List ℕ → Bool
is_other_type body = not (body_type body == SPDM || body_type body == SECURED)

-- A packet with which more is awaited always conforms.
abbrev pub comes_why : Dialogue → Gathered → Option Why
comes_why d (Whole route body) =
    Some (if is_other_type body then BadPacket
    else (if asks_out_of_turn d route.owner route.tag body then WrongTurn
    else request_why d body))
comes_why d More = None
comes_why d (Dropped cause) = Some BadPacket

-- The same of a packet for a requester, with an answer.
abbrev pub goes_why : RspSetup → Dialogue → Gathered → Option Why
goes_why r d (Whole route body) =
    Some (if is_other_type body then BadPacket
    else (if replies_out_of_turn d route.owner route.tag then WrongTurn
    else reply_why r d body d.round))
goes_why r d More = None
goes_why r d (Dropped cause) = Some BadPacket

-- The end that it comes from is unknown; else the reason is that of what it completes.
abbrev pub from_why : Configuration → List (List ℕ) → PacketFields → Option Dialogue → Option Why
from_why w older packet None = Some UnknownEnd
from_why w older packet (Some d) = comes_why d (gathered_from w.responder.eid d.setup.eid older packet)

-- The end that it goes to is unknown; else the reason is that of what it completes.
abbrev pub to_why : Configuration → List (List ℕ) → PacketFields → Option Dialogue → Option Why
to_why w older packet None = Some UnknownEnd
to_why w older packet (Some d) = goes_why (towards w.responder (known_of d.setup)) d (gathered_from d.setup.eid w.responder.eid older packet)

-- It is no packet; it goes to the responder or comes from it, and is judged so; or its ends are unknown.
abbrev pub why_by : Configuration → List (List ℕ) → List Dialogue → Result PacketFields PacketFault → Option Why
why_by w older ds (Err fault) = Some BadPacket
why_by w older ds (Ok packet) =
    if packet.to == w.responder.eid then from_why w older packet (dialogue_at packet.from ds)
    else (if packet.from == w.responder.eid then to_why w older packet (dialogue_at packet.to ds)
    else Some UnknownEnd)

-- No walk over the packets before it leaves its verify data alone wrong, and after some walk this is the reason.
unfoldable pub IsOtherwiseWrong : Configuration → List (List ℕ) → List ℕ → Why → Type 0
IsOtherwiseWrong w older packet why =
    (IsVerifyApart w older packet → ⊥) × ((ds : List Dialogue) × Leads w older ds × (why_by w older ds (parsed packet) ≡ Some why))

-- ---- All together.

-- Why a packet does not conform after those before it, the newest first.
abbrev pub IsReason : Configuration → List (List ℕ) → List ℕ → Why → Type 0
IsReason w older packet BadVerify = IsVerifyApart w older packet
IsReason w older packet why = IsOtherwiseWrong w older packet why

-- The packet of this number, counted from 1, is the first that does not conform, for this reason.
pub record IsDifference (w : Configuration) (packets : List (List ℕ)) (number : ℕ) (why : Why) : Type 0 where
  pub first : IsFirstDifference w packets number
  pub reason : IsReason w (reverse (take (number - 1) packets)) (slice_index_or packets (number - 1) []) why

-- ---- Laws.

-- A first difference has a reason: not each of them is refuted. Nothing here decides whether some body that might stand
-- there instead differs in its verify data alone, so which reason it is may stay open.
abbrev pub FirstHasReason : Type 0
FirstHasReason = (w : Configuration) (packets : List (List ℕ)) (number : ℕ)
    → IsFirstDifference w packets number → ((why : Why) → IsDifference w packets number why → ⊥) → ⊥

-- No capture has two first differences, and none has two reasons.
abbrev pub OneReason : Type 0
OneReason = (w : Configuration) (packets : List (List ℕ)) (number other : ℕ) (why because : Why)
    → IsDifference w packets number why → IsDifference w packets other because → (number ≡ other) × (why ≡ because)
