-- A first difference has a reason.
use Rattle.std.proofs.Common.{◌≡◌, ◌≢◌, ◌+◌, ◌-◌, ◌<◌, ◌==◌, ℕ, suc, List, [], ◌∷◌, refl, sym, ap, ◌∙◌, subst, reverse, take, get_or, length, Bool, true, false, Option, Some, None, Result, Ok, Err, arith, cond}
use Rattle.std.specs.Prelude.{MatchBool, slice_index_or}
use Rattle.std.proofs.Math.Seq.{take-suc}
use Rattle.std.proofs.lemmas.List.{reverse-append}
use Rattle.mctp_framing.specs.Gathering.{Gathered}
use Rattle.mctp_framing.specs.Gathering.Gathered.{Whole, More, Dropped}
use Rattle.mctp_framing.specs.Packet.{PacketFields, parsed}
use Rattle.responder_machine.specs.Setup.{RspSetup, towards}
use Rattle.spdm_basis.specs.declared.PacketFault.{PacketFault}
use Rattle.spdm_machine.specs.Packets.{gathered_from}
use Rattle.capture_machine.specs.Capture.{Leads, Follows, FollowsBy, ComesFrom, GoesTo, AsksBy, RepliesBy, IsFirstDifference}
use Rattle.capture_machine.specs.Difference.{Why, IsDifference, IsReason, IsVerifyApart, IsOtherwiseWrong, FirstHasReason, why_by, from_why, to_why, comes_why, goes_why, request_why, reply_why}
use Rattle.capture_machine.specs.Difference.Why.{BadPacket, UnknownEnd, WrongTurn, BadRequest, BadReply, BadVerify, BadRecord}
use Rattle.capture_machine.specs.Rounds.{Dialogue, Round, dialogue_at, with_dialogue}
use Rattle.world_machine.specs.Setup.{Configuration, known_of}

-- ---- Where no reason is told, the packet may follow.

asks_more : (d : Dialogue) (g : Gathered) → comes_why d g ≡ None → (next : Dialogue) × AsksBy d g next
asks_more d (Whole route body) none = absurd (cc)
asks_more d More none = (d, refl)
asks_more d (Dropped cause) none = absurd (cc)

replies_more : (w : Configuration) (r : RspSetup) (d : Dialogue) (g : Gathered) → goes_why r d g ≡ None → (next : Dialogue) × RepliesBy w d g next
replies_more w r d (Whole route body) none = absurd (cc)
replies_more w r d More none = (d, refl)
replies_more w r d (Dropped cause) none = absurd (cc)

comes_more : (w : Configuration) (older : List (List ℕ)) (packet : PacketFields) (before : List Dialogue) (o : Option Dialogue) → from_why w older packet o ≡ None → (after : List Dialogue) × ComesFrom w older packet before after o
comes_more w older packet before None none = absurd (cc)
comes_more w older packet before (Some d) none =
    let more = asks_more d (gathered_from w.responder.eid d.setup.eid older packet) none in
    (with_dialogue more.0 before, (more.0, more.1, refl))

goes_more : (w : Configuration) (older : List (List ℕ)) (packet : PacketFields) (before : List Dialogue) (o : Option Dialogue) → to_why w older packet o ≡ None → (after : List Dialogue) × GoesTo w older packet before after o
goes_more w older packet before None none = absurd (cc)
goes_more w older packet before (Some d) none =
    let more = replies_more w (towards w.responder (known_of d.setup)) d (gathered_from d.setup.eid w.responder.eid older packet) none in
    (with_dialogue more.0 before, (more.0, more.1, refl))

either_more : (w : Configuration) (older : List (List ℕ)) (packet : PacketFields) (before : List Dialogue) (to from : Bool)
    → cond to (from_why w older packet (dialogue_at packet.from before)) (cond from (to_why w older packet (dialogue_at packet.to before)) (Some UnknownEnd)) ≡ None
    → (after : List Dialogue) × MatchBool to (ComesFrom w older packet before after (dialogue_at packet.from before)) (MatchBool from (GoesTo w older packet before after (dialogue_at packet.to before)) ⊥)
either_more w older packet before true from none = comes_more w older packet before (dialogue_at packet.from before) none
either_more w older packet before false true none = goes_more w older packet before (dialogue_at packet.to before) none
either_more w older packet before false false none = absurd (cc)

follows_more : (w : Configuration) (older : List (List ℕ)) (before : List Dialogue) (p : Result PacketFields PacketFault) → why_by w older before p ≡ None → (after : List Dialogue) × FollowsBy w older before after p
follows_more w older before (Err fault) none = absurd (cc)
follows_more w older before (Ok packet) none = either_more w older packet before (packet.to == w.responder.eid) (packet.from == w.responder.eid) none

-- ---- The reason that is told is another than wrong verify data.

choice_not : (b : Bool) (one other : Why) → one ≢ BadVerify → other ≢ BadVerify → cond b one other ≢ BadVerify
choice_not true one other n m = n
choice_not false one other n m = m

plain : (b : Bool) (one other : Option Why) → one ≢ Some BadVerify → other ≢ Some BadVerify → cond b one other ≢ Some BadVerify
plain true one other n m = n
plain false one other n m = m

some_not : (why : Why) → why ≢ BadVerify → Some why ≢ Some BadVerify
some_not why n e = n (cc)

reply_not : (r : RspSetup) (d : Dialogue) (body : List ℕ) (o : Option Round) → reply_why r d body o ≢ BadVerify
reply_not r d body None = λ e. absurd (cc)
reply_not r d body (Some round) = choice_not _ BadReply BadRecord (λ e. absurd (cc)) (λ e. absurd (cc))

asks_not : (d : Dialogue) (g : Gathered) → comes_why d g ≢ Some BadVerify
asks_not d (Whole route body) =
    some_not _ (choice_not _ BadPacket _ (λ e. absurd (cc)) (choice_not _ WrongTurn (request_why d body) (λ e. absurd (cc)) (choice_not _ BadRequest BadRecord (λ e. absurd (cc)) (λ e. absurd (cc)))))
asks_not d More = λ e. absurd (cc)
asks_not d (Dropped cause) = λ e. absurd (cc)

replies_not : (r : RspSetup) (d : Dialogue) (g : Gathered) → goes_why r d g ≢ Some BadVerify
replies_not r d (Whole route body) =
    some_not _ (choice_not _ BadPacket _ (λ e. absurd (cc)) (choice_not _ WrongTurn (reply_why r d body d.round) (λ e. absurd (cc)) (reply_not r d body d.round)))
replies_not r d More = λ e. absurd (cc)
replies_not r d (Dropped cause) = λ e. absurd (cc)

from_not : (w : Configuration) (older : List (List ℕ)) (packet : PacketFields) (o : Option Dialogue) → from_why w older packet o ≢ Some BadVerify
from_not w older packet None = λ e. absurd (cc)
from_not w older packet (Some d) = asks_not d (gathered_from w.responder.eid d.setup.eid older packet)

to_not : (w : Configuration) (older : List (List ℕ)) (packet : PacketFields) (o : Option Dialogue) → to_why w older packet o ≢ Some BadVerify
to_not w older packet None = λ e. absurd (cc)
to_not w older packet (Some d) = replies_not (towards w.responder (known_of d.setup)) d (gathered_from d.setup.eid w.responder.eid older packet)

pub told_not : (w : Configuration) (older : List (List ℕ)) (ds : List Dialogue) (p : Result PacketFields PacketFault) → why_by w older ds p ≢ Some BadVerify
told_not w older ds (Err fault) = λ e. absurd (cc)
told_not w older ds (Ok packet) =
    plain (packet.to == w.responder.eid) _ _ (from_not w older packet (dialogue_at packet.from ds))
    (plain (packet.from == w.responder.eid) _ _ (to_not w older packet (dialogue_at packet.to ds)) (λ e. absurd (cc)))

-- A reason of the packet from what is told.
as_reason : (w : Configuration) (older : List (List ℕ)) (packet : List ℕ) (why : Why) → why ≢ BadVerify → IsOtherwiseWrong w older packet why → IsReason w older packet why
as_reason w older packet BadPacket not is = is
as_reason w older packet UnknownEnd not is = is
as_reason w older packet WrongTurn not is = is
as_reason w older packet BadRequest not is = is
as_reason w older packet BadReply not is = is
as_reason w older packet BadVerify not is = absurd (not refl)
as_reason w older packet BadRecord not is = is

-- ---- All together.

-- The packets up to a number are those before it and the one of the number.
last_of : (packets : List (List ℕ)) (number : ℕ) → 0 < number → number < length packets + 1
    → reverse (take number packets) ≡ slice_index_or packets (number - 1) [] ∷ reverse (take (number - 1) packets)
last_of packets number least most =
    let before : ℕ = number - 1 in
    let within : before < length packets = omega arith in
    let is : number ≡ suc before = omega arith in
    ap (λ (n : ℕ). reverse (take n packets)) is ∙ ap reverse (take-suc packets before [] within) ∙ reverse-append (take before packets) (get_or packets before [] ∷ [])

told_or_none : (w : Configuration) (packets : List (List ℕ)) (number : ℕ) (first : IsFirstDifference w packets number) → ((why : Why) → IsDifference w packets number why → ⊥)
    → (o : Option Why) → why_by w (reverse (take (number - 1) packets)) first.before.0 (parsed (slice_index_or packets (number - 1) [])) ≡ o → ⊥
unfolding Follows IsOtherwiseWrong
told_or_none w packets number first not None told =
    let more = follows_more w (reverse (take (number - 1) packets)) first.before.0 (parsed (slice_index_or packets (number - 1) [])) told in
    let P : List (List ℕ) → Type 0 = λ l. Leads w l more.0 in
    first.at (more.0, subst P (sym (last_of packets number first.least first.most)) (first.before.0, first.before.1, more.1))
told_or_none w packets number first not (Some why) told =
    let older = reverse (take (number - 1) packets) in
    let packet = slice_index_or packets (number - 1) [] in
    let apart : IsVerifyApart w older packet → ⊥ = λ is. not BadVerify (record { first = first; reason = is }) in
    let other : why ≢ BadVerify = λ e. told_not w older first.before.0 (parsed packet) (told ∙ ap Some e) in
    not why (record { first = first; reason = as_reason w older packet why other (apart, (first.before.0, first.before.1, told)) })

pub has_reason : FirstHasReason
has_reason w packets number first not = told_or_none w packets number first not _ refl

-- ---- Wrong verify data stand beside no other reason.

other_is : (w : Configuration) (older : List (List ℕ)) (packet : List ℕ) (why : Why) → IsVerifyApart w older packet → IsReason w older packet why → why ≡ BadVerify
unfolding IsOtherwiseWrong
other_is w older packet BadPacket apart is = absurd (is.0 apart)
other_is w older packet UnknownEnd apart is = absurd (is.0 apart)
other_is w older packet WrongTurn apart is = absurd (is.0 apart)
other_is w older packet BadRequest apart is = absurd (is.0 apart)
other_is w older packet BadReply apart is = absurd (is.0 apart)
other_is w older packet BadVerify apart is = refl
other_is w older packet BadRecord apart is = absurd (is.0 apart)

pub verify_is_alone : (w : Configuration) (packets : List (List ℕ)) (number : ℕ) (why : Why) → IsDifference w packets number BadVerify → IsDifference w packets number why → why ≡ BadVerify
verify_is_alone w packets number why one other = other_is w _ _ why one.reason other.reason
