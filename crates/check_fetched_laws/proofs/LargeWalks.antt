-- In a walk each request in the clear whose large response was not seen was answered by LargeResponse.
use Rattle.std.proofs.Common.{◌≡◌, ℕ, List, [], ◌∷◌, sym, ap, ◌∙◌, subst, Bool, true, false, Option, Result, Ok, Err, cond, inl, inr}
use Rattle.std.specs.Prelude.{MatchBool}
use Rattle.std.proofs.lemmas.Bool.{false≢true}
use Rattle.mctp_framing.specs.Gathering.{Gathered}
use Rattle.mctp_framing.specs.Gathering.Gathered.{Whole, More, Dropped as Lost}
use Rattle.mctp_framing.specs.Packet.{PacketFields, parsed}
use Rattle.spdm_basis.specs.declared.PacketFault.{PacketFault}
use Rattle.spdm_machine.specs.Packets.{gathered_from}
use Rattle.requester_machine.specs.Setup.{ReqSetup}
use Rattle.responder_machine.specs.History.{Entry, History}
use Rattle.responder_machine.specs.History.Entry.{Clear, Sealed, Queued, Ticked, Dropped}
use Rattle.responder_machine.specs.May.{with_dropped}
use Rattle.responder_machine.specs.Responder.{Outcome, after}
use Rattle.responder_machine.specs.Responder.Outcome.{Same, Unopened, Adds}
use Rattle.responder_machine.specs.Setup.{RspSetup, towards}
use Rattle.check_laws.specs.Order.{is_answer, is_request}
use Rattle.check_laws.specs.Walks.{StepsBy, StepsTo, Walks}
use Rattle.check_fetched_laws.proofs.LargeTurns.{LargeStandsIn, large_stands}
use Rattle.check_fetched_laws.proofs.ReadyGets.{LargeStand}
use Rattle.capture_machine.proofs.SeenAnswers.{led_seen}
use Rattle.capture_machine.proofs.UnseenStands.{given_seen}
use Rattle.capture_machine.specs.Capture.{AsksBy, RepliesBy}
use Rattle.capture_machine.specs.CapturedAnswers.{Answers, MayLeadTo}
use Rattle.capture_machine.specs.LargeAnswers.{dropped_before_large, is_unseen, is_unseen_in, judging, place_named, seen, with_large}
use Rattle.capture_machine.specs.Rounds.{Dialogue, Round}
use Rattle.world_machine.specs.Setup.{Configuration, known_of}

-- ---- Entries that were seen.

seen_stands : (e : Entry) → is_unseen e ≡ false → LargeStandsIn e
seen_stands (Clear tag t d) is = λ un. absurd (false≢true (sym is ∙ un))
seen_stands (Sealed tag m t reply d) is = tt
seen_stands (Queued bytes) is = tt
seen_stands (Ticked seconds) is = tt
seen_stands (Dropped id) is = tt

dropped_stands : (ids : List ℕ) (h : History) → LargeStand h → LargeStand (with_dropped h ids)
dropped_stands [] h stands = stands
dropped_stands (id ∷ ids) h stands = dropped_stands ids (Dropped id ∷ h) (tt, stands)

given_stands : (place : Option ℕ) (w : List ℕ) (h : History) → LargeStand h → LargeStand (with_large place w h)
given_stands place w [] stands = tt
given_stands place w (e ∷ h) stands = by_is (is_unseen_in place e) (given_stands place w h stands.1)
  where
    by_is : (b : Bool) → LargeStand (with_large place w h) → LargeStand (cond b (seen w e ∷ h) (e ∷ with_large place w h))
    by_is true rest = (seen_stands (seen w e) (given_seen w e), stands.1)
    by_is false rest = (stands.0, rest)

before_stands : (place : Option ℕ) (ids : List ℕ) (h : History) → LargeStand h → LargeStand (dropped_before_large place ids h)
before_stands place ids [] stands = tt
before_stands place ids (e ∷ h) stands = by_is (is_unseen_in place e) (before_stands place ids h stands.1)
  where
    by_is : (b : Bool) → LargeStand (dropped_before_large place ids h) → LargeStand (cond b (e ∷ with_dropped h ids) (e ∷ dropped_before_large place ids h))
    by_is true rest = (stands.0, dropped_stands ids h stands.1)
    by_is false rest = (stands.0, rest)

after_stands : (r : RspSetup) (k h : History) (tag : ℕ) (body : List ℕ) (o : Outcome) → MayLeadTo r k tag body o → LargeStand h → LargeStand (after h o)
after_stands r k h tag body (Same b) may stands = stands
after_stands r k h tag body (Unopened b) may stands = stands
after_stands r k h tag body (Adds e) may stands = (seen_stands e (led_seen r k tag body e may), stands)

-- ---- An answer.

answers_stand : (r : RspSetup) (d : Dialogue) (round : Round) (answer : List ℕ) (next : History) (fetching : Option (List ℕ)) → Answers r d round answer next fetching → LargeStand d.responder → LargeStand next
unfolding Answers
answers_stand r d round answer next fetching (inl a) stands =
    subst LargeStand (sym a.0.6) (after_stands r (with_dropped (judging d.fetching round.body d.responder) a.0.0) (with_dropped d.responder a.0.0) round.tag round.body a.0.1 a.0.2.1 (dropped_stands a.0.0 d.responder stands))
answers_stand r d round answer next fetching (inr (inl a)) stands =
    subst LargeStand (sym a.1.6) (large_stands r (with_dropped (judging d.fetching round.body d.responder) a.1.0) round.tag round.body a.1.1 a.1.2.1 a.1.3, stands)
answers_stand r d round answer next fetching (inr (inr (inl a))) stands = subst LargeStand (sym a.1.4) stands
answers_stand r d round answer next fetching (inr (inr (inr a))) stands =
    let place : Option ℕ = place_named round.body in
    subst LargeStand (sym a.0.8) (seen_stands a.0.2 (led_seen r (judging d.fetching round.body d.responder) round.tag round.body a.0.2 a.0.4), given_stands place a.0.0 (dropped_before_large place a.0.1 d.responder) (before_stands place a.0.1 d.responder stands))

-- ---- A walk.

asks_stand : (d : Dialogue) (g : Gathered) (next : Dialogue) → LargeStand d.responder → AsksBy d g next → LargeStand next.responder
asks_stand d (Whole route body) next stands asks = elim asks.2 [
  | inl copies ↦ subst LargeStand (sym (ap (λ (x : Dialogue). x.responder) copies.4)) stands
  | inr begins ↦ subst LargeStand (sym (ap (λ (x : Dialogue). x.responder) begins.2.3)) stands
]
asks_stand d More next stands asks = subst (λ (x : Dialogue). LargeStand x.responder) (sym asks) stands
asks_stand d (Lost cause) next stands asks = absurd asks

replies_stand : (w : Configuration) (d : Dialogue) (g : Gathered) (next : Dialogue) → LargeStand d.responder → RepliesBy w d g next → LargeStand next.responder
replies_stand w d (Whole route body) next stands replies =
    let c = replies.2 in
    subst LargeStand (sym (ap (λ (x : Dialogue). x.responder) c.4.3.2)) (answers_stand (towards w.responder (known_of d.setup)) d c.0 body c.4.0 c.4.1 c.4.2 stands)
replies_stand w d More next stands replies = subst (λ (x : Dialogue). LargeStand x.responder) (sym replies) stands
replies_stand w d (Lost cause) next stands replies = absurd replies

step_stands : (w : Configuration) (eid : ℕ) (older : List (List ℕ)) (d next : Dialogue) (r : Result PacketFields PacketFault) → LargeStand d.responder → StepsBy w eid older d next r → LargeStand next.responder
step_stands w eid older d next (Err fault) stands step = subst (λ (x : Dialogue). LargeStand x.responder) (sym step) stands
step_stands w eid older d next (Ok p) stands step = by_ends (is_request w.responder.eid eid p) (is_answer w.responder.eid eid p) step
  where
    by_ends : (b c : Bool) → MatchBool b (AsksBy d (gathered_from w.responder.eid eid older p) next) (MatchBool c (RepliesBy w d (gathered_from eid w.responder.eid older p) next) (next ≡ d)) → LargeStand next.responder
    by_ends true c asks = asks_stand d (gathered_from w.responder.eid eid older p) next stands asks
    by_ends false true replies = replies_stand w d (gathered_from eid w.responder.eid older p) next stands replies
    by_ends false false same = subst (λ (x : Dialogue). LargeStand x.responder) (sym same) stands

pub walks_large : (w : Configuration) (q : ReqSetup) (older : List (List ℕ)) (d : Dialogue) → Walks w q older d → LargeStand d.responder
unfolding StepsTo
walks_large w q [] d walk = subst (λ (x : Dialogue). LargeStand x.responder) (sym walk) tt
walks_large w q (packet ∷ older) d walk = step_stands w q.eid older walk.0 d (parsed packet) (walks_large w q older walk.0 walk.1) walk.2
