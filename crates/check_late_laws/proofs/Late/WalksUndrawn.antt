-- In a walk each message in the clear stands without a draw, for a capture shows none.
use Rattle.std.proofs.Common.{◌≡◌, ◌++◌, ◌==◌, ℕ, List, [], ◌∷◌, refl, sym, ap, subst, drop, Bool, true, false, Option, Result, Ok, Err, cond, inl, inr}
use Rattle.std.specs.Prelude.{MatchBool, slice_index}
use Rattle.mctp_framing.specs.Gathering.{Gathered}
use Rattle.mctp_framing.specs.Gathering.Gathered.{Whole, More, Dropped as Lost}
use Rattle.mctp_framing.specs.Packet.{PacketFields, parsed}
use Rattle.spdm_basis.specs.declared.PacketFault.{PacketFault}
use Rattle.spdm_machine.specs.Packets.{gathered_from}
use Rattle.requester_machine.specs.Setup.{ReqSetup}
use Rattle.responder_machine.specs.Handling.{turn_of}
use Rattle.responder_machine.specs.History.{Entry, History}
use Rattle.responder_machine.specs.History.Entry.{Clear, Sealed, Queued, Ticked, Dropped}
use Rattle.responder_machine.specs.May.{with_dropped}
use Rattle.responder_machine.specs.Place.{clear_place}
use Rattle.responder_machine.specs.Responder.{Outcome, after}
use Rattle.responder_machine.specs.Responder.Outcome.{Same, Unopened, Adds}
use Rattle.responder_machine.specs.Setup.{RspSetup, towards}
use Rattle.check_laws.specs.Order.{is_answer, is_request}
use Rattle.check_laws.specs.Walks.{StepsBy, StepsTo, Walks}
use Rattle.capture_machine.proofs.DropsTell.{clear_form, record_form}
use Rattle.capture_machine.proofs.PlainTells.{led_clear, led_record}
use Rattle.capture_machine.specs.Capture.{AsksBy, RepliesBy}
use Rattle.capture_machine.specs.CapturedAnswers.{Answers, MayLeadTo}
use Rattle.capture_machine.specs.LargeAnswers.{dropped_before_large, is_unseen_in, judging, place_named, seen, unseen, with_large}
use Rattle.capture_machine.specs.Rounds.{Dialogue, Round, no_draw}
use Rattle.world_machine.specs.Setup.{Configuration, known_of}

-- The entry has no draw, where it is a message in the clear.
abbrev pub IsUndrawn : Entry → Type 0
IsUndrawn (Clear tag t d) = d ≡ no_draw
IsUndrawn _ = Unit {0}

-- Each one of the history.
abbrev pub AreUndrawn : History → Type 0
AreUndrawn [] = Unit {0}
AreUndrawn (e ∷ h) = IsUndrawn e × AreUndrawn h

pub undrawn_behind : (es : List Entry) (h : History) → AreUndrawn (es ++ h) → AreUndrawn h
undrawn_behind [] h all = all
undrawn_behind (e ∷ es) h all = undrawn_behind es h all.1

pub undrawn_at : (es : List Entry) (e : Entry) (h : History) → AreUndrawn (es ++ e ∷ h) → IsUndrawn e
undrawn_at [] e h all = all.0
undrawn_at (x ∷ es) e h all = undrawn_at es e h all.1

-- ---- What a request leads to.

added : (one other : Entry) → Adds one ≡ Adds other → one ≡ other
added one other same = cc

led_undrawn : (r : RspSetup) (k : History) (tag : ℕ) (body : List ℕ) (e : Entry) → MayLeadTo r k tag body (Adds e) → IsUndrawn e
led_undrawn r k tag body e may = by_type (slice_index body 0 == 5) refl
  where
    by_type : (b : Bool) → (slice_index body 0 == 5) ≡ b → IsUndrawn e
    by_type true type =
        let led = led_clear r k tag body (Adds e) type may in
        elim (clear_form r k tag (drop 1 body) led.free (Adds e) led.leads) [
          | inl same ↦ absurd (let x = same.1 in cc)
          | inr adds ↦ subst IsUndrawn (sym (added e (Clear tag (turn_of r (clear_place k) (drop 1 body) led.free) no_draw) adds)) refl
        ]
    by_type false type =
        let led = led_record r k tag body (Adds e) type may in
        elim (record_form r tag (drop 1 body) led.free (Adds e) k led.leads) [
          | inl same ↦ absurd (let x = same.1 in cc)
          | inr (inl none) ↦ absurd (let x = none.1 in cc)
          | inr (inr sealed) ↦ subst IsUndrawn (sym (added e (Sealed tag (drop 1 body) sealed.0 sealed.1 no_draw) sealed.2)) tt
        ]

unseen_undrawn : (e : Entry) → IsUndrawn e → IsUndrawn (unseen e)
unseen_undrawn (Clear tag t d) is = is
unseen_undrawn (Sealed tag m t reply d) is = tt
unseen_undrawn (Queued bytes) is = tt
unseen_undrawn (Ticked seconds) is = tt
unseen_undrawn (Dropped id) is = tt

seen_undrawn : (w : List ℕ) (e : Entry) → IsUndrawn e → IsUndrawn (seen w e)
seen_undrawn w (Clear tag t d) is = is
seen_undrawn w (Sealed tag m t reply d) is = tt
seen_undrawn w (Queued bytes) is = tt
seen_undrawn w (Ticked seconds) is = tt
seen_undrawn w (Dropped id) is = tt

dropped_undrawn : (ids : List ℕ) (h : History) → AreUndrawn h → AreUndrawn (with_dropped h ids)
dropped_undrawn [] h all = all
dropped_undrawn (id ∷ ids) h all = dropped_undrawn ids (Dropped id ∷ h) (tt, all)

given_undrawn : (place : Option ℕ) (w : List ℕ) (h : History) → AreUndrawn h → AreUndrawn (with_large place w h)
given_undrawn place w [] all = tt
given_undrawn place w (e ∷ h) all = by_is (is_unseen_in place e) (given_undrawn place w h all.1)
  where
    by_is : (b : Bool) → AreUndrawn (with_large place w h) → AreUndrawn (cond b (seen w e ∷ h) (e ∷ with_large place w h))
    by_is true rest = (seen_undrawn w e all.0, all.1)
    by_is false rest = (all.0, rest)

before_undrawn : (place : Option ℕ) (ids : List ℕ) (h : History) → AreUndrawn h → AreUndrawn (dropped_before_large place ids h)
before_undrawn place ids [] all = tt
before_undrawn place ids (e ∷ h) all = by_is (is_unseen_in place e) (before_undrawn place ids h all.1)
  where
    by_is : (b : Bool) → AreUndrawn (dropped_before_large place ids h) → AreUndrawn (cond b (e ∷ with_dropped h ids) (e ∷ dropped_before_large place ids h))
    by_is true rest = (all.0, dropped_undrawn ids h all.1)
    by_is false rest = (all.0, rest)

after_undrawn : (r : RspSetup) (k h : History) (tag : ℕ) (body : List ℕ) (o : Outcome) → MayLeadTo r k tag body o → AreUndrawn h → AreUndrawn (after h o)
after_undrawn r k h tag body (Same b) may all = all
after_undrawn r k h tag body (Unopened b) may all = all
after_undrawn r k h tag body (Adds e) may all = (led_undrawn r k tag body e may, all)

-- ---- An answer.

answers_undrawn : (r : RspSetup) (d : Dialogue) (round : Round) (answer : List ℕ) (next : History) (fetching : Option (List ℕ)) → Answers r d round answer next fetching → AreUndrawn d.responder → AreUndrawn next
unfolding Answers
answers_undrawn r d round answer next fetching (inl a) all =
    subst AreUndrawn (sym a.0.6) (after_undrawn r (with_dropped (judging d.fetching round.body d.responder) a.0.0) (with_dropped d.responder a.0.0) round.tag round.body a.0.1 a.0.2.1 (dropped_undrawn a.0.0 d.responder all))
answers_undrawn r d round answer next fetching (inr (inl a)) all =
    subst AreUndrawn (sym a.1.6) (unseen_undrawn a.1.1 (led_undrawn r (with_dropped (judging d.fetching round.body d.responder) a.1.0) round.tag round.body a.1.1 a.1.2.1), all)
answers_undrawn r d round answer next fetching (inr (inr (inl a))) all = subst AreUndrawn (sym a.1.4) all
answers_undrawn r d round answer next fetching (inr (inr (inr a))) all =
    let place : Option ℕ = place_named round.body in
    subst AreUndrawn (sym a.0.8)
    (led_undrawn r (judging d.fetching round.body d.responder) round.tag round.body a.0.2 a.0.4, given_undrawn place a.0.0 (dropped_before_large place a.0.1 d.responder) (before_undrawn place a.0.1 d.responder all))

-- ---- A walk.

asks_undrawn : (d : Dialogue) (g : Gathered) (next : Dialogue) → AreUndrawn d.responder → AsksBy d g next → AreUndrawn next.responder
asks_undrawn d (Whole route body) next all asks = elim asks.2 [
  | inl copies ↦ subst AreUndrawn (sym (ap (λ (x : Dialogue). x.responder) copies.4)) all
  | inr begins ↦ subst AreUndrawn (sym (ap (λ (x : Dialogue). x.responder) begins.2.3)) all
]
asks_undrawn d More next all asks = subst (λ (x : Dialogue). AreUndrawn x.responder) (sym asks) all
asks_undrawn d (Lost cause) next all asks = absurd asks

replies_undrawn : (w : Configuration) (d : Dialogue) (g : Gathered) (next : Dialogue) → AreUndrawn d.responder → RepliesBy w d g next → AreUndrawn next.responder
replies_undrawn w d (Whole route body) next all replies =
    let c = replies.2 in
    subst AreUndrawn (sym (ap (λ (x : Dialogue). x.responder) c.4.3.2)) (answers_undrawn (towards w.responder (known_of d.setup)) d c.0 body c.4.0 c.4.1 c.4.2 all)
replies_undrawn w d More next all replies = subst (λ (x : Dialogue). AreUndrawn x.responder) (sym replies) all
replies_undrawn w d (Lost cause) next all replies = absurd replies

step_undrawn : (w : Configuration) (eid : ℕ) (older : List (List ℕ)) (d next : Dialogue) (r : Result PacketFields PacketFault) → AreUndrawn d.responder → StepsBy w eid older d next r → AreUndrawn next.responder
step_undrawn w eid older d next (Err fault) all step = subst (λ (x : Dialogue). AreUndrawn x.responder) (sym step) all
step_undrawn w eid older d next (Ok p) all step = by_ends (is_request w.responder.eid eid p) (is_answer w.responder.eid eid p) step
  where
    by_ends : (b c : Bool) → MatchBool b (AsksBy d (gathered_from w.responder.eid eid older p) next) (MatchBool c (RepliesBy w d (gathered_from eid w.responder.eid older p) next) (next ≡ d)) → AreUndrawn next.responder
    by_ends true c asks = asks_undrawn d (gathered_from w.responder.eid eid older p) next all asks
    by_ends false true replies = replies_undrawn w d (gathered_from eid w.responder.eid older p) next all replies
    by_ends false false same = subst (λ (x : Dialogue). AreUndrawn x.responder) (sym same) all

pub walks_undrawn : (w : Configuration) (q : ReqSetup) (older : List (List ℕ)) (d : Dialogue) → Walks w q older d → AreUndrawn d.responder
unfolding StepsTo
walks_undrawn w q [] d walk = subst (λ (x : Dialogue). AreUndrawn x.responder) (sym walk) tt
walks_undrawn w q (packet ∷ older) d walk = step_undrawn w q.eid older walk.0 d (parsed packet) (walks_undrawn w q older walk.0 walk.1) walk.2
