-- The reasons that the order of the packets gives are those that a walk gives.
use Rattle.std.proofs.Common.{◌≡◌, ◌==◌, ◌&&◌, ◌||◌, ◌⊎◌, not, ℕ, List, ◌∷◌, refl, sym, ap, ◌∙◌, drop, Bool, true, false, Option, Some, None, Result, Ok, Err, cond, inl, inr, eq-eqb, lt-ltb}
use Rattle.std.specs.Prelude.{MatchBool, bytes_eq, nat_lt, ◌<◌}
use Rattle.std.proofs.lemmas.Bool.{and_right, false≢true}
use Rattle.std.proofs.lemmas.Option.{none-some, same_Some}
use Rattle.std.proofs.lemmas.Slice.Eq.{bytes_eq-Decides}
use Rattle.mctp_framing.specs.Gathering.{Gathered}
use Rattle.mctp_framing.specs.Gathering.Gathered.{Whole, More, Dropped}
use Rattle.mctp_framing.specs.Packet.{PacketFields, parsed}
use Rattle.requester_machine.specs.Setup.{ReqSetup}
use Rattle.responder_machine.specs.Setup.{RspSetup, towards}
use Rattle.spdm_basis.specs.declared.PacketFault.{PacketFault}
use Rattle.spdm_grammar.specs.Message.RequestMessage.{GetVersion}
use Rattle.spdm_grammar.specs.Reading.{field_at, number_at}
use Rattle.spdm_grammar.specs.Requests.{canonical_request, request_body, get_version_layout}
use Rattle.spdm_machine.specs.Bodies.{clear_body}
use Rattle.spdm_machine.specs.Packets.{gathered_from, body_type}
use Rattle.spdm_machine.specs.Terms.{request_value}
use Rattle.check_laws.specs.Laws.{OrderRefuses, OrderTells}
use Rattle.check_laws.specs.Order.{asks_wrong, replies_wrong, asked_why, answered_why, coming_why, going_why, ordered_why, order_why, round_of, is_known, is_of_order}
use Rattle.check_laws.proofs.Ordering.{AreOf, before, found, unknown, leads_are}
use Rattle.check_laws.proofs.Rounded.{copy_is}
use Rattle.capture_machine.specs.Capture.{Leads, Follows, FollowsBy, ComesFrom, GoesTo, AsksBy, RepliesBy, Copies, Begins, may_begin}
use Rattle.capture_machine.specs.Difference.{IsVerifyApart, Why, IsReason, IsOtherwiseWrong, why_by, from_why, to_why, comes_why, goes_why, request_why, reply_why, is_get_version, may_come, is_copy, is_waiting, is_other_type}
use Rattle.capture_machine.specs.Difference.Why.{BadPacket, UnknownEnd, WrongTurn, BadRequest, BadReply, BadVerify, BadRecord}
use Rattle.capture_machine.specs.Rounds.{Dialogue, Round, dialogue_at, following_tag}
use Rattle.world_machine.specs.Setup.{Configuration, known_of}

-- ---- A walk tells what the order tells.

-- A reason that is told after two tests, of which the later reasons are none of the order.
abbrev pub told_by : (other wrong : Bool) → Why → Option Why
told_by other wrong why = Some (cond other BadPacket (cond wrong WrongTurn why))

abbrev pub ordered_by : (other wrong : Bool) → Option Why
ordered_by other wrong = cond other (Some BadPacket) (cond wrong (Some WrongTurn) None)

as_ordered : (other wrong : Bool) (else why : Why) → (wrong ≡ false → is_of_order else ≡ false) → is_of_order why ≡ true → told_by other wrong else ≡ Some why → ordered_by other wrong ≡ Some why
as_ordered true wrong else why not is told = told
as_ordered false true else why not is told = told
as_ordered false false else why not is told = absurd (false≢true (sym (not refl) ∙ ap is_of_order (same_Some else why told) ∙ is))

as_told : (other wrong : Bool) (else why : Why) → ordered_by other wrong ≡ Some why → told_by other wrong else ≡ Some why
as_told true wrong else why told = told
as_told false true else why told = told
as_told false false else why told = absurd (none-some why told)

either_later : (b : Bool) (one other : Why) → is_of_order one ≡ false → is_of_order other ≡ false → is_of_order (cond b one other) ≡ false
either_later true one other n m = n
either_later false one other n m = m

reply_later : (r : RspSetup) (d : Dialogue) (tag : ℕ) (owner : Bool) (body : List ℕ) (o : Option Round) → replies_wrong o owner tag ≡ false → is_of_order (reply_why r d body o) ≡ false
reply_later r d tag true body None right = absurd (false≢true (sym right))
reply_later r d tag false body None right = absurd (false≢true (sym right))
reply_later r d tag owner body (Some round) right = either_later _ BadReply BadRecord refl refl

comes_ordered : (d : Dialogue) (g : Gathered) (why : Why) → is_of_order why ≡ true → comes_why d g ≡ Some why → asked_why d.round g ≡ Some why
comes_ordered d (Whole route body) why is told =
    as_ordered (is_other_type body) (asks_wrong d.round route.owner route.tag body) (request_why d body) why (λ e. either_later _ BadRequest BadRecord refl refl) is told
comes_ordered d More why is told = absurd (none-some why told)
comes_ordered d (Dropped cause) why is told = told

goes_ordered : (r : RspSetup) (d : Dialogue) (g : Gathered) (why : Why) → is_of_order why ≡ true → goes_why r d g ≡ Some why → answered_why d.round g ≡ Some why
goes_ordered r d (Whole route body) why is told =
    as_ordered (is_other_type body) (replies_wrong d.round route.owner route.tag) (reply_why r d body d.round) why (reply_later r d route.tag route.owner body d.round) is told
goes_ordered r d More why is told = absurd (none-some why told)
goes_ordered r d (Dropped cause) why is told = told

comes_told : (d : Dialogue) (g : Gathered) (why : Why) → asked_why d.round g ≡ Some why → comes_why d g ≡ Some why
comes_told d (Whole route body) why told = as_told (is_other_type body) (asks_wrong d.round route.owner route.tag body) (request_why d body) why told
comes_told d More why told = absurd (none-some why told)
comes_told d (Dropped cause) why told = told

goes_told : (r : RspSetup) (d : Dialogue) (g : Gathered) (why : Why) → answered_why d.round g ≡ Some why → goes_why r d g ≡ Some why
goes_told r d (Whole route body) why told = as_told (is_other_type body) (replies_wrong d.round route.owner route.tag) (reply_why r d body d.round) why told
goes_told r d More why told = absurd (none-some why told)
goes_told r d (Dropped cause) why told = told

-- ---- Which requester.

-- The same of a known requester: its round, and what comes of the packet, are read off the packets.
pub coming_is : (w : Configuration) (older : List (List ℕ)) (p : PacketFields) (ds : List Dialogue) (d : Dialogue) → AreOf (before w.responder.eid older) w.requesters ds → dialogue_at p.from ds ≡ Some d
    → asked_why d.round (gathered_from w.responder.eid d.setup.eid older p) ≡ coming_why w.responder.eid older p (is_known p.from w.requesters)
coming_is w older p ds d are at =
    let own : ℕ = w.responder.eid in
    let has = found (before own older) w.requesters ds p.from d are at in
    ap (λ (o : Option Round). asked_why o (gathered_from own d.setup.eid older p)) has.round
    ∙ ap (λ (n : ℕ). asked_why (round_of own p.from older) (gathered_from own n older p)) has.eid
    ∙ ap (coming_why own older p) (sym has.known)

pub going_is : (w : Configuration) (older : List (List ℕ)) (p : PacketFields) (ds : List Dialogue) (d : Dialogue) → AreOf (before w.responder.eid older) w.requesters ds → dialogue_at p.to ds ≡ Some d
    → answered_why d.round (gathered_from d.setup.eid w.responder.eid older p) ≡ going_why w.responder.eid older p (is_known p.to w.requesters)
going_is w older p ds d are at =
    let own : ℕ = w.responder.eid in
    let has = found (before own older) w.requesters ds p.to d are at in
    ap (λ (o : Option Round). answered_why o (gathered_from d.setup.eid own older p)) has.round
    ∙ ap (λ (n : ℕ). answered_why (round_of own p.to older) (gathered_from n own older p)) has.eid
    ∙ ap (going_why own older p) (sym has.known)

no_coming : (w : Configuration) (older : List (List ℕ)) (p : PacketFields) (ds : List Dialogue) → AreOf (before w.responder.eid older) w.requesters ds → dialogue_at p.from ds ≡ None
    → Some UnknownEnd ≡ coming_why w.responder.eid older p (is_known p.from w.requesters)
no_coming w older p ds are at = ap (coming_why w.responder.eid older p) (sym (unknown (before w.responder.eid older) w.requesters ds p.from are at))

no_going : (w : Configuration) (older : List (List ℕ)) (p : PacketFields) (ds : List Dialogue) → AreOf (before w.responder.eid older) w.requesters ds → dialogue_at p.to ds ≡ None
    → Some UnknownEnd ≡ going_why w.responder.eid older p (is_known p.to w.requesters)
no_going w older p ds are at = ap (going_why w.responder.eid older p) (sym (unknown (before w.responder.eid older) w.requesters ds p.to are at))

-- ---- What a walk tells is told by the order, and the other way round.

abbrev pub Both : Option Why → Option Why → Type 0
Both walk order = (why : Why) → ((is_of_order why ≡ true) → walk ≡ Some why → order ≡ Some why) × (order ≡ Some why → walk ≡ Some why)

same_both : (a b : Option Why) → a ≡ b → Both a b
same_both a b same why = (λ is told. sym same ∙ told, λ told. same ∙ told)

from_both : (w : Configuration) (older : List (List ℕ)) (p : PacketFields) (ds : List Dialogue) (o : Option Dialogue) → AreOf (before w.responder.eid older) w.requesters ds → dialogue_at p.from ds ≡ o
    → Both (from_why w older p o) (coming_why w.responder.eid older p (is_known p.from w.requesters))
from_both w older p ds None are at why = same_both _ _ (no_coming w older p ds are at) why
from_both w older p ds (Some d) are at why =
    let is = coming_is w older p ds d are at in
    let g : Gathered = gathered_from w.responder.eid d.setup.eid older p in
    (λ of told. sym is ∙ comes_ordered d g why of told, λ told. comes_told d g why (is ∙ told))

to_both : (w : Configuration) (older : List (List ℕ)) (p : PacketFields) (ds : List Dialogue) (o : Option Dialogue) → AreOf (before w.responder.eid older) w.requesters ds → dialogue_at p.to ds ≡ o
    → Both (to_why w older p o) (going_why w.responder.eid older p (is_known p.to w.requesters))
to_both w older p ds None are at why = same_both _ _ (no_going w older p ds are at) why
to_both w older p ds (Some d) are at why =
    let is = going_is w older p ds d are at in
    let g : Gathered = gathered_from d.setup.eid w.responder.eid older p in
    let r : RspSetup = towards w.responder (known_of d.setup) in
    (λ of told. sym is ∙ goes_ordered r d g why of told, λ told. goes_told r d g why (is ∙ told))

either_both : (to from : Bool) (a b c d : Option Why) → Both a b → Both c d → Both (cond to a (cond from c (Some UnknownEnd))) (cond to b (cond from d (Some UnknownEnd)))
either_both true from a b c d one other = one
either_both false true a b c d one other = other
either_both false false a b c d one other = same_both (Some UnknownEnd) (Some UnknownEnd) refl

pub why_both : (w : Configuration) (older : List (List ℕ)) (r : Result PacketFields PacketFault) (ds : List Dialogue) → AreOf (before w.responder.eid older) w.requesters ds
    → Both (why_by w older ds r) (ordered_why w.responder.eid w.requesters older r)
why_both w older (Err fault) ds are = same_both (Some BadPacket) (Some BadPacket) refl
why_both w older (Ok p) ds are =
    either_both (p.to == w.responder.eid) (p.from == w.responder.eid) _ _ _ _ (from_both w older p ds (dialogue_at p.from ds) are refl) (to_both w older p ds (dialogue_at p.to ds) are refl)

tells_by : (w : Configuration) (older : List (List ℕ)) (packet : List ℕ) (why : Why) → is_of_order why ≡ true → IsOtherwiseWrong w older packet why → order_why w older packet ≡ Some why
unfolding IsOtherwiseWrong order_why
tells_by w older packet why is c = (why_both w older (parsed packet) c.1.0 (leads_are w older c.1.0 c.1.1) why).0 is c.1.2

pub order_tells : OrderTells
order_tells w older packet BadPacket is c = tells_by w older packet BadPacket is c
order_tells w older packet UnknownEnd is c = tells_by w older packet UnknownEnd is c
order_tells w older packet WrongTurn is c = tells_by w older packet WrongTurn is c
order_tells w older packet BadRequest is c = absurd (false≢true is)
order_tells w older packet BadReply is c = absurd (false≢true is)
order_tells w older packet BadVerify is c = absurd (false≢true is)
order_tells w older packet BadRecord is c = absurd (false≢true is)

-- ---- A packet that may follow is in order.

other_type : (body : List ℕ) → (body_type body == 5 || body_type body == 6) ≡ true → is_other_type body ≡ false
other_type body is = ap not is

version_comes : (body_type (clear_body (canonical_request GetVersion)) == 5 && is_get_version (request_value (drop 1 (clear_body (canonical_request GetVersion))))) ≡ true
unfolding field_at number_at request_body get_version_layout
version_comes = refl

come_by : (b c : Bool) (body : List ℕ) → bytes_eq body (clear_body (canonical_request GetVersion)) ≡ c → (b || c) ≡ true → (b || (body_type body == 5 && is_get_version (request_value (drop 1 body)))) ≡ true
come_by true c body is may = refl
come_by false true body is may =
    let same : body ≡ clear_body (canonical_request GetVersion) = (bytes_eq-Decides body (clear_body (canonical_request GetVersion))).0 is in
    ap (λ (l : List ℕ). body_type l == 5 && is_get_version (request_value (drop 1 l))) same ∙ version_comes
come_by false false body is may = absurd (false≢true may)

begin_comes : (o : Option Round) (body : List ℕ) → may_begin o body ≡ true → may_come o body ≡ true
begin_comes None body may = refl
begin_comes (Some round) body may = come_by round.answered (bytes_eq body (clear_body (canonical_request GetVersion))) body refl may

turn_by : (owner copy next come : Bool) → owner ≡ true → (copy ≡ true) ⊎ ((next ≡ true) × (come ≡ true)) → (not owner || (not copy && (not next || not come))) ≡ false
turn_by owner copy next come is (inl c) = ap (λ (b : Bool). not b || (not copy && (not next || not come))) is ∙ ap (λ (b : Bool). not b && (not next || not come)) c
turn_by owner copy next come is (inr c) =
    ap (λ (b : Bool). not b || (not copy && (not next || not come))) is ∙ ap (λ (b : Bool). not copy && (not b || not come)) c.0 ∙ ap (λ (b : Bool). not copy && not b) c.1 ∙ and_right (not copy) false refl

in_turn : (d : Dialogue) (tag : ℕ) (body : List ℕ) (next : Dialogue) → Copies d tag body next ⊎ Begins d tag body next
    → (is_copy d.round tag body ≡ true) ⊎ (((tag == following_tag d.round) ≡ true) × (may_come d.round body ≡ true))
in_turn d tag body next (inl c) = inl (copy_is d.round c.0 tag body c.1 c.2 c.3)
in_turn d tag body next (inr c) = inr (eq-eqb _ _ c.1, begin_comes d.round body c.0)

pub right_by : (other wrong : Bool) → other ≡ false → wrong ≡ false → ordered_by other wrong ≡ None
right_by other wrong n m = ap (λ (b : Bool). ordered_by b wrong) n ∙ ap (λ (b : Bool). ordered_by false b) m

asks_right : (d : Dialogue) (g : Gathered) (next : Dialogue) → AsksBy d g next → asked_why d.round g ≡ None
asks_right d (Whole route body) next c =
    right_by (is_other_type body) (asks_wrong d.round route.owner route.tag body) (other_type body c.0)
    (turn_by route.owner (is_copy d.round route.tag body) (route.tag == following_tag d.round) (may_come d.round body) c.1 (in_turn d route.tag body next c.2))
asks_right d More next c = refl
asks_right d (Dropped cause) next c = absurd c

waits : (o : Option Round) (round : Round) (tag : ℕ) → o ≡ Some round → round.tag ≡ tag → 0 < round.waiting → is_waiting o tag ≡ true
waits o round tag is at few =
    ap (λ (x : Option Round). is_waiting x tag) is ∙ ap (λ (b : Bool). b && nat_lt 0 round.waiting) (eq-eqb _ _ at) ∙ lt-ltb 0 round.waiting few

replies_right : (w : Configuration) (d : Dialogue) (g : Gathered) (next : Dialogue) → RepliesBy w d g next → answered_why d.round g ≡ None
replies_right w d (Whole route body) next c =
    right_by (is_other_type body) (replies_wrong d.round route.owner route.tag) (other_type body c.0)
    (ap (λ (b : Bool). b || not (is_waiting d.round route.tag)) c.1 ∙ ap not (waits d.round c.2.0 route.tag c.2.1 c.2.2 c.2.3))
replies_right w d More next c = refl
replies_right w d (Dropped cause) next c = absurd c

comes_right : (w : Configuration) (older : List (List ℕ)) (p : PacketFields) (ds after : List Dialogue) (o : Option Dialogue) → AreOf (before w.responder.eid older) w.requesters ds → dialogue_at p.from ds ≡ o
    → ComesFrom w older p ds after o → coming_why w.responder.eid older p (is_known p.from w.requesters) ≡ None
comes_right w older p ds after None are at c = absurd c
comes_right w older p ds after (Some d) are at c = sym (coming_is w older p ds d are at) ∙ asks_right d (gathered_from w.responder.eid d.setup.eid older p) c.0 c.1

goes_right : (w : Configuration) (older : List (List ℕ)) (p : PacketFields) (ds after : List Dialogue) (o : Option Dialogue) → AreOf (before w.responder.eid older) w.requesters ds → dialogue_at p.to ds ≡ o
    → GoesTo w older p ds after o → going_why w.responder.eid older p (is_known p.to w.requesters) ≡ None
goes_right w older p ds after None are at c = absurd c
goes_right w older p ds after (Some d) are at c = sym (going_is w older p ds d are at) ∙ replies_right w d (gathered_from d.setup.eid w.responder.eid older p) c.0 c.1

either_right : (w : Configuration) (older : List (List ℕ)) (p : PacketFields) (ds after : List Dialogue) (to from : Bool) → AreOf (before w.responder.eid older) w.requesters ds
    → MatchBool to (ComesFrom w older p ds after (dialogue_at p.from ds)) (MatchBool from (GoesTo w older p ds after (dialogue_at p.to ds)) ⊥)
    → cond to (coming_why w.responder.eid older p (is_known p.from w.requesters)) (cond from (going_why w.responder.eid older p (is_known p.to w.requesters)) (Some UnknownEnd)) ≡ None
either_right w older p ds after true from are c = comes_right w older p ds after (dialogue_at p.from ds) are refl c
either_right w older p ds after false true are c = goes_right w older p ds after (dialogue_at p.to ds) are refl c
either_right w older p ds after false false are c = absurd c

pub follows_right : (w : Configuration) (older : List (List ℕ)) (r : Result PacketFields PacketFault) (ds after : List Dialogue) → AreOf (before w.responder.eid older) w.requesters ds → FollowsBy w older ds after r
    → ordered_why w.responder.eid w.requesters older r ≡ None
follows_right w older (Err fault) ds after are c = absurd c
follows_right w older (Ok p) ds after are c = either_right w older p ds after (p.to == w.responder.eid) (p.from == w.responder.eid) are c

-- ---- Refused packets.

not_alone : (w : Configuration) (older : List (List ℕ)) (packet : List ℕ) (why : Why) (after : List Dialogue) → order_why w older packet ≡ Some why → Leads w (packet ∷ older) after → ⊥
unfolding Follows order_why
not_alone w older packet why after is c = none-some why (sym (follows_right w older (parsed packet) c.0 after (leads_are w older c.0 c.1) c.2) ∙ is)

pub order_refuses : OrderRefuses
order_refuses w older packet why is after c = not_alone w older packet why after is c

-- ---- The reason, where verify data are not alone wrong.

later_none : (b : Bool) (one other : Option Why) → ((why : Why) → one ≡ Some why → is_of_order why ≡ true) → ((why : Why) → other ≡ Some why → is_of_order why ≡ true) → (why : Why) → cond b one other ≡ Some why → is_of_order why ≡ true
later_none true one other n m = n
later_none false one other n m = m

of_reason : (reason : Why) → is_of_order reason ≡ true → (why : Why) → Some reason ≡ Some why → is_of_order why ≡ true
of_reason reason is why same = ap is_of_order (sym (same_Some reason why same)) ∙ is

no_reason : (why : Why) → None ≡ Some why → is_of_order why ≡ true
no_reason why same = absurd (none-some why same)

asked_of : (o : Option Round) (g : Gathered) (why : Why) → asked_why o g ≡ Some why → is_of_order why ≡ true
asked_of o (Whole route body) = later_none (is_other_type body) _ _ (of_reason BadPacket refl) (later_none (asks_wrong o route.owner route.tag body) _ _ (of_reason WrongTurn refl) no_reason)
asked_of o More = no_reason
asked_of o (Dropped cause) = of_reason BadPacket refl

answered_of : (o : Option Round) (g : Gathered) (why : Why) → answered_why o g ≡ Some why → is_of_order why ≡ true
answered_of o (Whole route body) = later_none (is_other_type body) _ _ (of_reason BadPacket refl) (later_none (replies_wrong o route.owner route.tag) _ _ (of_reason WrongTurn refl) no_reason)
answered_of o More = no_reason
answered_of o (Dropped cause) = of_reason BadPacket refl

coming_of : (own : ℕ) (older : List (List ℕ)) (p : PacketFields) (b : Bool) (why : Why) → coming_why own older p b ≡ Some why → is_of_order why ≡ true
coming_of own older p true = asked_of (round_of own p.from older) (gathered_from own p.from older p)
coming_of own older p false = of_reason UnknownEnd refl

going_of : (own : ℕ) (older : List (List ℕ)) (p : PacketFields) (b : Bool) (why : Why) → going_why own older p b ≡ Some why → is_of_order why ≡ true
going_of own older p true = answered_of (round_of own p.to older) (gathered_from p.to own older p)
going_of own older p false = of_reason UnknownEnd refl

pub ordered_of : (own : ℕ) (qs : List ReqSetup) (older : List (List ℕ)) (r : Result PacketFields PacketFault) (why : Why) → ordered_why own qs older r ≡ Some why → is_of_order why ≡ true
ordered_of own qs older (Err fault) = of_reason BadPacket refl
ordered_of own qs older (Ok p) =
    later_none (p.to == own) _ _ (coming_of own older p (is_known p.from qs)) (later_none (p.from == own) _ _ (going_of own older p (is_known p.to qs)) (of_reason UnknownEnd refl))

as_reason : (w : Configuration) (older : List (List ℕ)) (packet : List ℕ) (why : Why) → is_of_order why ≡ true → IsOtherwiseWrong w older packet why → IsReason w older packet why
as_reason w older packet BadPacket of is = is
as_reason w older packet UnknownEnd of is = is
as_reason w older packet WrongTurn of is = is
as_reason w older packet BadRequest of is = is
as_reason w older packet BadReply of is = is
as_reason w older packet BadVerify of is = absurd (false≢true of)
as_reason w older packet BadRecord of is = is

pub reason_alone : (w : Configuration) (older : List (List ℕ)) (packet : List ℕ) (ds : List Dialogue) (why : Why) → Leads w older ds → order_why w older packet ≡ Some why → (IsVerifyApart w older packet → ⊥) → IsReason w older packet why
unfolding IsOtherwiseWrong order_why
reason_alone w older packet ds why leads is alone =
    as_reason w older packet why (ordered_of w.responder.eid w.requesters older (parsed packet) why is)
    (alone, (ds, leads, (why_both w older (parsed packet) ds (leads_are w older ds leads) why).1 is))
