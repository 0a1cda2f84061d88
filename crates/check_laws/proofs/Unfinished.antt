-- A part of a body conforms.
use Rattle.std.proofs.Common.{◌≡◌, ◌==◌, ℕ, List, refl, sym, ap, ◌∙◌, subst, Bool, true, false, Option, Some, None, Result, Ok, Err, cond}
use Rattle.std.specs.Prelude.{MatchBool}
use Rattle.std.proofs.lemmas.Option.{none-some}
use Rattle.mctp_framing.specs.Gathering.{Gathered}
use Rattle.mctp_framing.specs.Gathering.Gathered.{Whole, More, Dropped}
use Rattle.mctp_framing.specs.Packet.{PacketFields, parsed}
use Rattle.spdm_basis.specs.declared.PacketFault.{PacketFault}
use Rattle.spdm_machine.specs.Packets.{gathered_from}
use Rattle.check_laws.specs.Awaits.{IsPart, MoreConforms}
use Rattle.check_laws.specs.Order.{answered_why, asked_why, coming_why, going_why, is_known, order_why, ordered_why, round_of}
use Rattle.check_laws.proofs.Ordering.{AreOf, before, found, leads_are, unknown}
use Rattle.capture_machine.specs.Capture.{AsksBy, ComesFrom, Follows, FollowsBy, GoesTo, RepliesBy}
use Rattle.capture_machine.specs.Difference.Why.{BadPacket, UnknownEnd}
use Rattle.capture_machine.specs.Rounds.{Dialogue, Round, dialogue_at, with_dialogue}
use Rattle.world_machine.specs.Setup.{Configuration}

asks_stays : (o : Option Round) (d : Dialogue) (g : Gathered) → asked_why o g ≡ None → g ≡ More → AsksBy d g d
asks_stays o d (Whole route body) none more = absurd (cc)
asks_stays o d More none more = refl
asks_stays o d (Dropped cause) none more = absurd (none-some BadPacket (sym none))

replies_stays : (w : Configuration) (o : Option Round) (d : Dialogue) (g : Gathered) → answered_why o g ≡ None → g ≡ More → RepliesBy w d g d
replies_stays w o d (Whole route body) none more = absurd (cc)
replies_stays w o d More none more = refl
replies_stays w o d (Dropped cause) none more = absurd (none-some BadPacket (sym none))

-- ---- Of which requester.

comes_more : (w : Configuration) (older : List (List ℕ)) (p : PacketFields) (ds : List Dialogue) (o : Option Dialogue) → AreOf (before w.responder.eid older) w.requesters ds → dialogue_at p.from ds ≡ o → coming_why w.responder.eid older p (is_known p.from w.requesters) ≡ None
    → gathered_from w.responder.eid p.from older p ≡ More
    → (after : List Dialogue) × ComesFrom w older p ds after o
comes_more w older p ds None are at none more =
    absurd (none-some UnknownEnd (sym (sym (ap (coming_why w.responder.eid older p) (unknown (before w.responder.eid older) w.requesters ds p.from are at)) ∙ none)))
comes_more w older p ds (Some d) are at none more =
    let own : ℕ = w.responder.eid in
    let has = found (before own older) w.requesters ds p.from d are at in
    let right : asked_why (round_of own p.from older) (gathered_from own p.from older p) ≡ None = sym (ap (coming_why own older p) has.known) ∙ none in
    let G : ℕ → Type 0 = λ n. AsksBy d (gathered_from own n older p) d in
    (with_dialogue d ds, (d, subst G (sym has.eid) (asks_stays (round_of own p.from older) d (gathered_from own p.from older p) right more), refl))

goes_more : (w : Configuration) (older : List (List ℕ)) (p : PacketFields) (ds : List Dialogue) (o : Option Dialogue) → AreOf (before w.responder.eid older) w.requesters ds → dialogue_at p.to ds ≡ o → going_why w.responder.eid older p (is_known p.to w.requesters) ≡ None
    → gathered_from p.to w.responder.eid older p ≡ More
    → (after : List Dialogue) × GoesTo w older p ds after o
goes_more w older p ds None are at none more =
    absurd (none-some UnknownEnd (sym (sym (ap (going_why w.responder.eid older p) (unknown (before w.responder.eid older) w.requesters ds p.to are at)) ∙ none)))
goes_more w older p ds (Some d) are at none more =
    let own : ℕ = w.responder.eid in
    let has = found (before own older) w.requesters ds p.to d are at in
    let right : answered_why (round_of own p.to older) (gathered_from p.to own older p) ≡ None = sym (ap (going_why own older p) has.known) ∙ none in
    let G : ℕ → Type 0 = λ n. RepliesBy w d (gathered_from n own older p) d in
    (with_dialogue d ds, (d, subst G (sym has.eid) (replies_stays w (round_of own p.to older) d (gathered_from p.to own older p) right more), refl))

either_more : (w : Configuration) (older : List (List ℕ)) (p : PacketFields) (ds : List Dialogue) (to from : Bool) → AreOf (before w.responder.eid older) w.requesters ds
    → cond to (coming_why w.responder.eid older p (is_known p.from w.requesters)) (cond from (going_why w.responder.eid older p (is_known p.to w.requesters)) (Some UnknownEnd)) ≡ None
    → cond to (gathered_from w.responder.eid p.from older p) (gathered_from p.to w.responder.eid older p) ≡ More
    → (after : List Dialogue) × MatchBool to (ComesFrom w older p ds after (dialogue_at p.from ds)) (MatchBool from (GoesTo w older p ds after (dialogue_at p.to ds)) ⊥)
either_more w older p ds true from are none more = comes_more w older p ds (dialogue_at p.from ds) are refl none more
either_more w older p ds false true are none more = goes_more w older p ds (dialogue_at p.to ds) are refl none more
either_more w older p ds false false are none more = absurd (none-some UnknownEnd (sym none))

follows_more : (w : Configuration) (older : List (List ℕ)) (r : Result PacketFields PacketFault) (ds : List Dialogue) → AreOf (before w.responder.eid older) w.requesters ds
    → ordered_why w.responder.eid w.requesters older r ≡ None → IsPart w.responder.eid older r → (after : List Dialogue) × FollowsBy w older ds after r
follows_more w older (Err fault) ds are none more = absurd (none-some BadPacket (sym none))
follows_more w older (Ok p) ds are none more = either_more w older p ds (p.to == w.responder.eid) (p.from == w.responder.eid) are none more

pub more_conforms : MoreConforms
unfolding Follows order_why
more_conforms w older packet ds leads none more =
    let next = follows_more w older (parsed packet) ds (leads_are w older ds leads) none more in
    (next.0, (ds, leads, next.1))
