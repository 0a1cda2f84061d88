-- In a walk the responder takes messages of 42 bytes, as soon as GET_CAPABILITIES took effect.
use Rattle.std.proofs.Common.{◌≡◌, ◌≤◌, ◌==◌, ◌||◌, ℕ, List, [], ◌∷◌, refl, sym, ap, ◌∙◌, subst, drop, Bool, true, false, Option, Some, None, Result, Ok, Err, is_none, cond, inl, inr, arith}
use Rattle.std.specs.Prelude.{MatchBool, nat_lt, slice_index}
use Rattle.std.specs.Result.{result_ok}
use Rattle.std.proofs.lemmas.Bool.{false≢true}
use Rattle.std.proofs.lemmas.Bool.Decides.{nat_tests}
use Rattle.chunking.specs.Collecting.{joined_with, under_way}
use Rattle.mctp_framing.specs.Gathering.{Gathered}
use Rattle.mctp_framing.specs.Gathering.Gathered.{Whole, More, Dropped as Lost}
use Rattle.mctp_framing.specs.Packet.{PacketFields, parsed}
use Rattle.negotiate.specs.declared.shared.Common.{Common}
use Rattle.spdm_basis.specs.declared.PacketFault.{PacketFault}
use Rattle.spdm_grammar.specs.Codes.{code_for}
use Rattle.spdm_grammar.specs.Message.{ChunkMessage, RequestMessage}
use Rattle.spdm_grammar.specs.Message.RequestMessage.{GetCapabilities}
use Rattle.spdm_grammar.specs.Reading.{field_at, number_at}
use Rattle.spdm_grammar.specs.declared.messages.error_code.ErrorCode.{ErrorCode}
use Rattle.spdm_grammar.specs.declared.names.TheConstants.{MIN_DATA_TRANSFER_SIZE}
use Rattle.spdm_grammar.specs.declared.names.request_code.TheConstants.{GET_CAPABILITIES, GET_VERSION}
use Rattle.spdm_grammar.specs.declared.messages.part_faults.CapsFault.{CapsFault}
use Rattle.spdm_grammar.specs.declared.messages.part_faults.CapsFault.TheVariants.{SizeTooSmall}
use Rattle.spdm_machine.specs.Packets.{gathered_from}
use Rattle.spdm_machine.specs.Terms.{no_negotiation, terms_of}
use Rattle.requester_machine.specs.Setup.{ReqSetup}
use Rattle.responder_machine.specs.Answer.{Free, answer_bytes, request_at}
use Rattle.responder_machine.specs.Handling.{carried_turn, chunk_in, effect_of, handle_for, last_chunk_turn, taken_chunk, turn_by, turn_of}
use Rattle.responder_machine.specs.History.{Entry, History, clear_turns}
use Rattle.responder_machine.specs.History.Entry.{Clear, Sealed, Queued, Ticked, Dropped}
use Rattle.responder_machine.specs.LargeMessages.{chunks_of}
use Rattle.responder_machine.specs.May.{with_dropped}
use Rattle.responder_machine.specs.Place.{Place, clear_place, inside}
use Rattle.responder_machine.specs.Refusal.{are_caps_refused, refusal}
use Rattle.responder_machine.specs.Responder.{Outcome, after}
use Rattle.responder_machine.specs.Responder.Outcome.{Same, Unopened, Adds}
use Rattle.responder_machine.specs.Setup.{RspSetup, towards}
use Rattle.responder_machine.specs.Turn.{Turn, code_in, takes}
use Rattle.responder_machine.specs.Turn.Effect.{NoEffect}
use Rattle.responder_machine.proofs.Tests.{contents_shown}
use Rattle.check_laws.specs.Order.{is_answer, is_request}
use Rattle.check_laws.specs.Walks.{StepsBy, StepsTo, Walks}
use Rattle.check_fetched_laws.proofs.ReadyGets.{common_at, common_next}
use Rattle.capture_machine.proofs.DropsTell.{clear_form}
use Rattle.capture_machine.proofs.FetchedSessions.{takes_with}
use Rattle.capture_machine.proofs.PlainTells.{led_clear, led_record}
use Rattle.capture_machine.proofs.RecordAdds.{record_added}
use Rattle.capture_machine.specs.Capture.{AsksBy, RepliesBy}
use Rattle.capture_machine.specs.CapturedAnswers.{Answers, MayLeadTo}
use Rattle.capture_machine.specs.LargeAnswers.{dropped_before_large, handle_shown, is_unseen_in, judging, place_named, seen, unseen, with_large}
use Rattle.capture_machine.specs.Rounds.{Dialogue, Round, no_draw}
use Rattle.world_machine.specs.Setup.{Configuration, known_of}

-- ---- An entry.

-- Where GET_CAPABILITIES took effect, messages of 42 bytes are taken.
abbrev pub RoomBy : (transfer : ℕ) → Turn → Type 0
RoomBy n t = takes GET_CAPABILITIES t ≡ true → 42 ≤ n

abbrev pub RoomStandsIn : ℕ → Entry → Type 0
RoomStandsIn n (Clear tag t d) = RoomBy n t
RoomStandsIn n _ = Unit {0}

abbrev pub RoomStand : ℕ → History → Type 0
RoomStand n [] = Unit {0}
RoomStand n (e ∷ h) = RoomStandsIn n e × RoomStand n h

small_by : (a b : Bool) (rest : Result Common CapsFault) → is_none (result_ok (cond (a || b) (Err SizeTooSmall) rest)) ≡ false → b ≡ false
small_by true b rest is = absurd (false≢true (sym is))
small_by false true rest is = absurd (false≢true (sym is))
small_by false false rest is = refl

module _ (r : RspSetup) (f : Free) where
  caps_room : (p : Place) (m : List ℕ) (q : RequestMessage) → refusal r p m f ≡ None → request_at p m ≡ Some q → (code_for q == GET_CAPABILITIES) ≡ true → 42 ≤ r.transfer
  caps_room p m (GetCapabilities caps) none is code =
      let fit : are_caps_refused r (Some (GetCapabilities caps)) ≡ false = ap (are_caps_refused r) (sym is) ∙ contents_shown r p m f none 1 in
      let low : nat_lt r.transfer 42 ≡ false = small_by (nat_lt caps.transfer MIN_DATA_TRANSFER_SIZE) (nat_lt r.transfer MIN_DATA_TRANSFER_SIZE) _ fit in
      grind (arith, nat_tests)
  caps_room p m _ none is code = absurd (false≢true code)

  effect_room : (p : Place) (m : List ℕ) (o : Option RequestMessage) (answer : List ℕ) (large : Option ℕ) → refusal r p m f ≡ None → request_at p m ≡ o → (code_in (effect_of o m answer large) == GET_CAPABILITIES) ≡ true → 42 ≤ r.transfer
  effect_room p m None answer large none is code = absurd (false≢true code)
  effect_room p m (Some q) answer large none is code = caps_room p m q none is code

  module _ (p : Place) (m : List ℕ) where
    carried_room : (c : ChunkMessage) (l : List ℕ) (x : Option ErrorCode) → refusal r (inside p) l f ≡ x → RoomBy r.transfer (carried_turn r (inside p) m f c l x)
    carried_room c l (Some e) is code = absurd (false≢true code)
    carried_room c l None is code = effect_room (inside p) l (request_at (inside p) l) (answer_bytes r (inside p) l f) (handle_for (inside p) f (answer_bytes r (inside p) l f)) is refl code

    chunk_room : (c : ChunkMessage) (l : List ℕ) (b : Bool) → RoomBy r.transfer (cond b (last_chunk_turn r (inside p) m f c l) (taken_chunk m c NoEffect []))
    chunk_room c l true code = carried_room c l (refusal r (inside p) l f) refl code
    chunk_room c l false code = absurd (false≢true code)

    by_room : (x : Option ErrorCode) (c : Option ChunkMessage) → refusal r p m f ≡ x → RoomBy r.transfer (turn_by r p m f x c)
    by_room (Some e) c is code = absurd (false≢true code)
    by_room None None is code = effect_room p m (request_at p m) (answer_bytes r p m f) (handle_for p f (answer_bytes r p m f)) is refl code
    by_room None (Some c) is code = chunk_room c (joined_with (under_way (chunks_of p.turns)) c) c.last code

    turn_room : RoomBy r.transfer (turn_of r p m f)
    unfolding turn_of
    turn_room code = by_room (refusal r p m f) (chunk_in (request_at p m)) refl code

room_led : (n : ℕ) (r : RspSetup) → r.transfer ≡ n → (h : History) (tag : ℕ) (body : List ℕ) (e : Entry) → MayLeadTo r h tag body (Adds e) → RoomStandsIn n e
room_led n r same h tag body e may = by_type (slice_index body 0 == 5) refl
  where
    by_type : (b : Bool) → (slice_index body 0 == 5) ≡ b → RoomStandsIn n e
    by_type true is =
        let led = led_clear r h tag body (Adds e) is may in
        elim (clear_form r h tag (drop 1 body) led.free (Adds e) led.leads) [
          | inl again ↦ absurd (let x = again.1 in cc)
          | inr adds ↦
              let here : Clear tag (turn_of r (clear_place h) (drop 1 body) led.free) no_draw ≡ e = cc (sym adds) in
              subst (RoomStandsIn n) here (λ code. subst (λ (k : ℕ). 42 ≤ k) same (turn_room r led.free (clear_place h) (drop 1 body) code))
        ]
    by_type false is =
        let led = led_record r h tag body (Adds e) is may in
        subst (RoomStandsIn n) (record_added r led.free tag (drop 1 body) e h led.leads) tt

room_seen : (n : ℕ) (w : List ℕ) (e : Entry) → RoomStandsIn n e → RoomStandsIn n (seen w e)
room_seen n w (Clear tag t d) stands = λ code. stands (sym (takes_with w (Some (handle_shown t)) GET_CAPABILITIES t) ∙ code)
room_seen n w (Sealed tag m t reply d) stands = tt
room_seen n w (Queued bytes) stands = tt
room_seen n w (Ticked seconds) stands = tt
room_seen n w (Dropped id) stands = tt

room_unseen : (n : ℕ) (e : Entry) → RoomStandsIn n e → RoomStandsIn n (unseen e)
room_unseen n (Clear tag t d) stands = λ code. stands (sym (takes_with [] None GET_CAPABILITIES t) ∙ code)
room_unseen n (Sealed tag m t reply d) stands = tt
room_unseen n (Queued bytes) stands = tt
room_unseen n (Ticked seconds) stands = tt
room_unseen n (Dropped id) stands = tt

-- ---- Where chunks are in common.

none_common : (terms_of no_negotiation).common.chunk ≡ false
unfolding terms_of field_at number_at
none_common = refl

none_or : (b : Bool) (c : Common) → (cond b (terms_of no_negotiation).common c).chunk ≡ true → c.chunk ≡ true
none_or true c is = absurd (false≢true (sym none_common ∙ is))
none_or false c is = is

pub room_chunks : (n : ℕ) (h : History) → RoomStand n h → (common_at (clear_turns h)).chunk ≡ true → 42 ≤ n
room_chunks n [] stands is = absurd (false≢true (sym none_common ∙ is))
room_chunks n (Clear tag t d ∷ h) stands is = by_code (takes GET_CAPABILITIES t) refl (λ rest. room_chunks n h stands.1 rest)
  where
    by_code : (b : Bool) → takes GET_CAPABILITIES t ≡ b → ((common_at (clear_turns h)).chunk ≡ true → 42 ≤ n) → 42 ≤ n
    by_code true code rest = stands.0 code
    by_code false code rest = rest (none_or (takes GET_VERSION t) (common_at (clear_turns h)) (ap (λ (c : Common). c.chunk) (sym (common_next t (clear_turns h) code)) ∙ is))
room_chunks n (Sealed tag m t reply d ∷ h) stands is = room_chunks n h stands.1 is
room_chunks n (Queued bytes ∷ h) stands is = room_chunks n h stands.1 is
room_chunks n (Ticked seconds ∷ h) stands is = room_chunks n h stands.1 is
room_chunks n (Dropped id ∷ h) stands is = room_chunks n h stands.1 is

-- ---- A history.

dropped_stands : (n : ℕ) (ids : List ℕ) (h : History) → RoomStand n h → RoomStand n (with_dropped h ids)
dropped_stands n [] h stands = stands
dropped_stands n (id ∷ ids) h stands = dropped_stands n ids (Dropped id ∷ h) (tt, stands)

pub given_stands : (n : ℕ) (place : Option ℕ) (w : List ℕ) (h : History) → RoomStand n h → RoomStand n (with_large place w h)
given_stands n place w [] stands = tt
given_stands n place w (e ∷ h) stands = by_is (is_unseen_in place e) (given_stands n place w h stands.1)
  where
    by_is : (b : Bool) → RoomStand n (with_large place w h) → RoomStand n (cond b (seen w e ∷ h) (e ∷ with_large place w h))
    by_is true rest = (room_seen n w e stands.0, stands.1)
    by_is false rest = (stands.0, rest)

before_stands : (n : ℕ) (place : Option ℕ) (ids : List ℕ) (h : History) → RoomStand n h → RoomStand n (dropped_before_large place ids h)
before_stands n place ids [] stands = tt
before_stands n place ids (e ∷ h) stands = by_is (is_unseen_in place e) (before_stands n place ids h stands.1)
  where
    by_is : (b : Bool) → RoomStand n (dropped_before_large place ids h) → RoomStand n (cond b (e ∷ with_dropped h ids) (e ∷ dropped_before_large place ids h))
    by_is true rest = (stands.0, dropped_stands n ids h stands.1)
    by_is false rest = (stands.0, rest)

after_stands : (n : ℕ) (r : RspSetup) (same : r.transfer ≡ n) (k h : History) (tag : ℕ) (body : List ℕ) (o : Outcome) → MayLeadTo r k tag body o → RoomStand n h → RoomStand n (after h o)
after_stands n r same k h tag body (Same b) may stands = stands
after_stands n r same k h tag body (Unopened b) may stands = stands
after_stands n r same k h tag body (Adds e) may stands = (room_led n r same k tag body e may, stands)

-- ---- An answer.

answers_stand : (n : ℕ) (r : RspSetup) (same : r.transfer ≡ n) (d : Dialogue) (round : Round) (answer : List ℕ) (next : History) (fetching : Option (List ℕ)) → Answers r d round answer next fetching → RoomStand n d.responder → RoomStand n next
unfolding Answers
answers_stand n r same d round answer next fetching (inl a) stands =
    subst (RoomStand n) (sym a.0.6) (after_stands n r same (with_dropped (judging d.fetching round.body d.responder) a.0.0) (with_dropped d.responder a.0.0) round.tag round.body a.0.1 a.0.2.1 (dropped_stands n a.0.0 d.responder stands))
answers_stand n r same d round answer next fetching (inr (inl a)) stands =
    subst (RoomStand n) (sym a.1.6) (room_unseen n a.1.1 (room_led n r same (with_dropped (judging d.fetching round.body d.responder) a.1.0) round.tag round.body a.1.1 a.1.2.1), stands)
answers_stand n r same d round answer next fetching (inr (inr (inl a))) stands = subst (RoomStand n) (sym a.1.4) stands
answers_stand n r same d round answer next fetching (inr (inr (inr a))) stands =
    let place : Option ℕ = place_named round.body in
    subst (RoomStand n) (sym a.0.8) (room_led n r same (judging d.fetching round.body d.responder) round.tag round.body a.0.2 a.0.4, given_stands n place a.0.0 (dropped_before_large place a.0.1 d.responder) (before_stands n place a.0.1 d.responder stands))

-- ---- A walk.

asks_stand : (n : ℕ) (d : Dialogue) (g : Gathered) (next : Dialogue) → RoomStand n d.responder → AsksBy d g next → RoomStand n next.responder
asks_stand n d (Whole route body) next stands asks = elim asks.2 [
  | inl copies ↦ subst (RoomStand n) (sym (ap (λ (x : Dialogue). x.responder) copies.4)) stands
  | inr begins ↦ subst (RoomStand n) (sym (ap (λ (x : Dialogue). x.responder) begins.2.3)) stands
]
asks_stand n d More next stands asks = subst (λ (x : Dialogue). RoomStand n x.responder) (sym asks) stands
asks_stand n d (Lost cause) next stands asks = absurd asks

replies_stand : (n : ℕ) (w : Configuration) (same : w.responder.transfer ≡ n) (d : Dialogue) (g : Gathered) (next : Dialogue) → RoomStand n d.responder → RepliesBy w d g next → RoomStand n next.responder
replies_stand n w same d (Whole route body) next stands replies =
    let c = replies.2 in
    subst (RoomStand n) (sym (ap (λ (x : Dialogue). x.responder) c.4.3.2)) (answers_stand n (towards w.responder (known_of d.setup)) same d c.0 body c.4.0 c.4.1 c.4.2 stands)
replies_stand n w same d More next stands replies = subst (λ (x : Dialogue). RoomStand n x.responder) (sym replies) stands
replies_stand n w same d (Lost cause) next stands replies = absurd replies

step_stands : (n : ℕ) (w : Configuration) (same : w.responder.transfer ≡ n) (eid : ℕ) (older : List (List ℕ)) (d next : Dialogue) (r : Result PacketFields PacketFault) → RoomStand n d.responder → StepsBy w eid older d next r → RoomStand n next.responder
step_stands n w same eid older d next (Err fault) stands step = subst (λ (x : Dialogue). RoomStand n x.responder) (sym step) stands
step_stands n w same eid older d next (Ok p) stands step = by_ends (is_request w.responder.eid eid p) (is_answer w.responder.eid eid p) step
  where
    by_ends : (b c : Bool) → MatchBool b (AsksBy d (gathered_from w.responder.eid eid older p) next) (MatchBool c (RepliesBy w d (gathered_from eid w.responder.eid older p) next) (next ≡ d)) → RoomStand n next.responder
    by_ends true c asks = asks_stand n d (gathered_from w.responder.eid eid older p) next stands asks
    by_ends false true replies = replies_stand n w same d (gathered_from eid w.responder.eid older p) next stands replies
    by_ends false false stays = subst (λ (x : Dialogue). RoomStand n x.responder) (sym stays) stands

pub walks_room : (n : ℕ) (w : Configuration) (same : w.responder.transfer ≡ n) (q : ReqSetup) (older : List (List ℕ)) (d : Dialogue) → Walks w q older d → RoomStand n d.responder
unfolding StepsTo
walks_room n w same q [] d walk = subst (λ (x : Dialogue). RoomStand n x.responder) (sym walk) tt
walks_room n w same q (packet ∷ older) d walk = step_stands n w same q.eid older walk.0 d (parsed packet) (walks_room n w same q older walk.0 walk.1) walk.2
