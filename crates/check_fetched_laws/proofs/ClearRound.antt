-- Which rounds in the clear a walk has while a large response is fetched.
use Rattle.std.proofs.Common.{◌≡◌, ◌≤◌, ◌⊎◌, ℕ, List, [], ◌∷◌, refl, sym, ap, ◌∙◌, subst, drop, Bool, true, false, Some, Result, Ok, Err, inl, inr, ◌+◌, None, arith}
use Rattle.std.specs.Prelude.{MatchBool}
use Rattle.std.proofs.lemmas.Bool.{false≢true}
use Rattle.std.proofs.lemmas.Option.{none-some, same_Some}
use Rattle.mctp_framing.specs.Packet.{PacketFields, parsed}
use Rattle.spdm_basis.specs.declared.PacketFault.{PacketFault}
use Rattle.spdm_grammar.specs.Message.RequestMessage.{GetVersion}
use Rattle.spdm_grammar.specs.Requests.{canonical_request}
use Rattle.spdm_machine.specs.Bodies.{clear_body}
use Rattle.spdm_machine.specs.Packets.{gathered_from}
use Rattle.requester_machine.specs.History as asker
use Rattle.requester_machine.specs.History.{outstanding}
use Rattle.requester_machine.specs.Setup.{ReqSetup}
use Rattle.responder_machine.specs.History.{History, kept_of}
use Rattle.responder_machine.specs.Responder.{is_repeat}
use Rattle.responder_machine.specs.Setup.{RspSetup, towards}
use Rattle.check_laws.proofs.OneWalk.{walks_alike}
use Rattle.check_laws.specs.Order.{body_in, is_answer, is_request}
use Rattle.check_laws.specs.Walks.{StepsBy, StepsTo, Walks}
use Rattle.check_fetched_laws.proofs.ClearChunks.{next_is_given}
use Rattle.check_fetched_laws.proofs.GetSteps.{Fetches, next_of}
use Rattle.check_fetched_laws.proofs.GetSteps.Fetches.{Owes, Asks, Has}
use Rattle.check_fetched_laws.proofs.GetTurns.{Alike, FetchesSo, asks_so, replies_so}
use Rattle.check_laws.proofs.KnownFetches.{IsKnown, asks_known, replies_known}
use Rattle.check_fetched_laws.proofs.LargeWalks.{walks_large}
use Rattle.check_fetched_laws.proofs.ReadyGets.{IsReady, LargeStand}
use Rattle.check_fetched_laws.proofs.RoomWalks.{RoomStand, given_stands, room_chunks, walks_room}
use Rattle.check_fetched_laws.proofs.SettledCaps.{walks_settle}
use Rattle.check_fetched_laws.proofs.TurnsBoth.{Settles}
use Rattle.check_fetched_laws.proofs.WalksSound.{walks_sound}
use Rattle.check_fetched_laws.specs.ClearRounds.{GetIsNext, IsClearRound, RoundIsThere}
use Rattle.check_late_laws.specs.Fetching.{dialogue_of}
use Rattle.capture_machine.proofs.Fetching.{IsSound}
use Rattle.capture_machine.proofs.UnseenStands.{UnseenStand}
use Rattle.capture_machine.specs.Capture.{AsksBy, RepliesBy}
use Rattle.capture_machine.specs.LargeAnswers.{is_fetching, place_named, with_large}
use Rattle.capture_machine.specs.Rounds.{Dialogue, Round, new_dialogue}
use Rattle.world_machine.specs.Setup.{Configuration, known_of}

-- ---- A walk.

-- While a chunk is asked for the responder takes messages of six bytes.
room_fetches : (n : ℕ) (h : asker.History) (k : History) (whole : List ℕ) (rd : Round) → RoomStand n k → Fetches h k whole rd → 6 ≤ n
room_fetches n h k whole rd stands fetches = by_ready fetches
  where
    ready_room : (handle number : ℕ) → IsReady k whole handle number → 6 ≤ n
    ready_room handle number ready = let room = room_chunks n (with_large None whole k) (given_stands n None whole k stands) ready.chunks in omega (arith, room)

    by_ready : Fetches h k whole rd → 6 ≤ n
    by_ready (Owes handle number m later again ready) = ready_room handle number ready
    by_ready (Asks handle number m own body anew ready) = ready_room handle number ready
    by_ready (Has handle number m own body again reply ready) = ready_room handle (number + 1) ready

-- A chunk is asked for only while a large response is fetched, and in the clear it is the next one.
pub record IsInStep (d : Dialogue) : Type 0 where
  pub known : IsKnown d
  pub so : FetchesSo d

begins_in_step : (q : ReqSetup) → IsInStep (new_dialogue q)
begins_in_step q = record { known = λ is. absurd (false≢true is); so = λ whole round fetching at type gets. absurd (none-some whole fetching) }

step_in_step : (w : Configuration) (eid : ℕ) (older : List (List ℕ)) (d next : Dialogue) (r : Result PacketFields PacketFault) → RoomStand w.responder.transfer d.responder → IsSound d → Alike d → IsInStep d
    → UnseenStand next.responder → Settles next.responder → LargeStand next.responder → StepsBy w eid older d next r → IsInStep next
step_in_step w eid older d next (Err fault) room sound alike in_step unseen_stand settles stand step = subst IsInStep (sym step) in_step
step_in_step w eid older d next (Ok p) room sound alike in_step unseen_stand settles stand step = by_ends (is_request w.responder.eid eid p) (is_answer w.responder.eid eid p) step
  where
    by_ends : (b c : Bool) → MatchBool b (AsksBy d (gathered_from w.responder.eid eid older p) next) (MatchBool c (RepliesBy w d (gathered_from eid w.responder.eid older p) next) (next ≡ d)) → IsInStep next
    by_ends true c asks = record { known = asks_known d (gathered_from w.responder.eid eid older p) next in_step.known asks; so = asks_so d (gathered_from w.responder.eid eid older p) next sound alike in_step.so asks }
    by_ends false true replies = record {
      known = replies_known w d (gathered_from eid w.responder.eid older p) next in_step.known replies;
      so = replies_so w next_is_given d sound alike in_step.known in_step.so (λ whole rd fetches. room_fetches w.responder.transfer d.requester d.responder whole rd room fetches) (gathered_from eid w.responder.eid older p) next unseen_stand settles stand replies;
    }
    by_ends false false same = subst IsInStep (sym same) in_step

pub walks_in_step : (w : Configuration) (q : ReqSetup) (older : List (List ℕ)) (d : Dialogue) → Walks w q older d → IsInStep d
unfolding StepsTo
walks_in_step w q [] d walk = subst IsInStep (sym walk) (begins_in_step q)
walks_in_step w q (packet ∷ older) d walk =
    let before : Dialogue = walk.0 in
    step_in_step w q.eid older before d (parsed packet) (walks_room w.responder.transfer w refl q older before walk.1) (walks_sound w q older before walk.1) (walks_alike w q older before before walk.1 walk.1).alike.askers (walks_in_step w q older before walk.1)
    (walks_sound w q (packet ∷ older) d walk).unseen (walks_settle w q (packet ∷ older) d walk) (walks_large w q (packet ∷ older) d walk) walk.2

-- ---- The laws.

-- GET_VERSION, or a chunk is asked for.
pub asked_or_version : (w : Configuration) (q : ReqSetup) (older : List (List ℕ)) (d : Dialogue) (whole : List ℕ) (round : Round) → Walks w q older d → d.fetching ≡ Some whole → d.round ≡ Some round
    → (round.body ≡ clear_body (canonical_request GetVersion)) ⊎ (is_fetching (outstanding d.requester) ≡ true)
asked_or_version w q older d whole round walk fetching at =
    let old = (walks_sound w q older d walk).fetched whole fetching in
    let same : old.0 ≡ round = same_Some old.0 round (sym old.1 ∙ at) in
    elim old.2.stands [
      | inl version ↦ inl (ap (λ (x : Round). x.body) (sym same) ∙ version.1)
      | inr fetch ↦ inr (ap is_fetching old.2.waits ∙ fetch.0)
    ]

round_by : (r : RspSetup) (room : 6 ≤ r.transfer) (d : Dialogue) (whole : List ℕ) (round : Round) → Fetches d.requester d.responder whole round → IsClearRound r d.responder whole round
round_by r room d whole round (Owes handle number m later again ready) = inr (inl again)
round_by r room d whole round (Has handle number m own body again reply ready) = inr (inl again)
round_by r room d whole round (Asks handle number m own body anew ready) =
    inr (inr (handle, number, body, next_of r room d.responder whole [] round.tag handle number ready (ap (λ (l : List ℕ). is_repeat (kept_of d.responder) round.tag (drop 1 l)) (sym body) ∙ anew)))

pub get_is_next : GetIsNext
get_is_next c q older d whole round walk fetching at type = elim (asked_or_version c q older d whole round walk fetching at) [
  | inl version ↦ inl version
  | inr gets ↦
      let fetches = (walks_in_step c q older d walk).so whole round fetching at type gets in
      round_by (towards c.responder (known_of d.setup)) (room_fetches c.responder.transfer d.requester d.responder whole round (walks_room c.responder.transfer c refl q older d walk) fetches) d whole round fetches
]

pub round_is_there : RoundIsThere
round_is_there w q older f is =
    let whole : List ℕ = is.stands.0 in
    let d : Dialogue = dialogue_of f whole in
    let walk : Walks w q older d = is.all whole is.stands.1 in
    let there = (walks_sound w q older d walk).fetched whole refl in
    let round : Round = there.0 in (
      round,
      there.1,
      elim (asked_or_version w q older d whole round walk refl there.1) [
        | inl version ↦ inl version
        | inr gets ↦ inr (ap place_named (sym (ap body_in there.1)) ∙ is.there gets)
      ],
    )
