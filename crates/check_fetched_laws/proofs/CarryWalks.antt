-- In a walk a reply in the clear carries PSK_EXCHANGE_RSP only where PSK_EXCHANGE took effect, and GET_VERSION did not come.
use Rattle.std.proofs.Common.{◌≡◌, ◌==◌, ◌⊎◌, ℕ, List, [], ◌∷◌, refl, sym, ap, ◌∙◌, subst, drop, Bool, true, false, Option, Some, None, Result, Ok, Err, cond, inl, inr, eq-eqb, arith}
use Rattle.std.specs.Prelude.{MatchBool, slice_index}
use Rattle.mctp_framing.specs.Gathering.{Gathered}
use Rattle.mctp_framing.specs.Gathering.Gathered.{Whole, More, Dropped as Lost}
use Rattle.mctp_framing.specs.Packet.{PacketFields, parsed}
use Rattle.spdm_basis.specs.declared.PacketFault.{PacketFault}
use Rattle.spdm_grammar.specs.Message.{ChunkMessage}
use Rattle.spdm_grammar.specs.Message.RequestMessage.{ChunkSend, PskExchange}
use Rattle.spdm_grammar.specs.declared.names.request_code.TheConstants.{CHUNK_SEND, GET_VERSION, PSK_EXCHANGE}
use Rattle.spdm_machine.specs.Bodies.{clear_body}
use Rattle.spdm_machine.specs.Packets.{gathered_from}
use Rattle.requester_machine.specs.Setup.{ReqSetup}
use Rattle.responder_machine.specs.Answer.{Free, request_at}
use Rattle.responder_machine.specs.Handling.{chunk_in, turn_of}
use Rattle.responder_machine.specs.History.{Entry, History}
use Rattle.responder_machine.specs.History.Entry.{Clear, Sealed, Queued, Ticked, Dropped}
use Rattle.responder_machine.specs.May.{with_dropped}
use Rattle.responder_machine.specs.Place.{Place, clear_place}
use Rattle.responder_machine.specs.Refusal.{code_of}
use Rattle.responder_machine.specs.Responder.{Outcome, after}
use Rattle.responder_machine.specs.Responder.Outcome.{Same, Unopened, Adds}
use Rattle.responder_machine.specs.Setup.{RspSetup, towards}
use Rattle.responder_machine.specs.Turn.{Turn, code_in, takes}
use Rattle.responder_machine.proofs.Codes.{asked-code}
use Rattle.responder_machine.proofs.Making.{turn_message}
use Rattle.check_laws.proofs.CarriedExchange.{Carries, turn_carries}
use Rattle.check_laws.proofs.CarriedExchange.Carries.{Plainly, InAck}
use Rattle.check_laws.specs.Order.{is_answer, is_request}
use Rattle.check_laws.specs.Walks.{StepsBy, StepsTo, Walks}
use Rattle.capture_machine.proofs.DropsTell.{clear_form}
use Rattle.capture_machine.proofs.FetchedSessions.{takes_with}
use Rattle.capture_machine.proofs.PlainTells.{led_clear, led_record}
use Rattle.capture_machine.proofs.RecordAdds.{record_added}
use Rattle.capture_machine.proofs.TurnsAlike.{chunk_is}
use Rattle.capture_machine.specs.Capture.{AsksBy, RepliesBy}
use Rattle.capture_machine.specs.CapturedAnswers.{Answers, MayLeadTo}
use Rattle.capture_machine.specs.Difference.{carries_exchange}
use Rattle.capture_machine.specs.LargeAnswers.{dropped_before_large, handle_shown, is_unseen_in, judging, place_named, seen, unseen, with_large}
use Rattle.capture_machine.specs.Rounds.{Dialogue, Round, no_draw}
use Rattle.world_machine.specs.Setup.{Configuration, known_of}

-- ---- An entry.

abbrev pub CarriesBy : Turn → Type 0
CarriesBy t = carries_exchange (clear_body t.reply) ≡ true → (takes PSK_EXCHANGE t ≡ true) × (code_of t.message ≡ GET_VERSION → ⊥)

abbrev pub CarryStandsIn : Entry → Type 0
CarryStandsIn (Clear tag t d) = CarriesBy t
CarryStandsIn _ = Unit {0}

abbrev pub CarryStand : History → Type 0
CarryStand [] = Unit {0}
CarryStand (e ∷ h) = CarryStandsIn e × CarryStand h

-- Only PSK_EXCHANGE and the last chunk of one are answered so.
pub carried_code : (r : RspSetup) (p : Place) (m : List ℕ) (f : Free) (reply : List ℕ) (c : Option ChunkMessage) → chunk_in (request_at p m) ≡ c → Carries r p m f reply c → (code_of m ≡ PSK_EXCHANGE) ⊎ (code_of m ≡ CHUNK_SEND)
carried_code r p m f reply c is (Plainly x none gives same) = inl (sym (asked-code p m (PskExchange x) gives.0))
carried_code r p m f reply c is (InAck chunk x some last gives same) = inr (sym (asked-code p m (ChunkSend chunk) (chunk_is (request_at p m) chunk (is ∙ some))))

turn_carry : (r : RspSetup) (p : Place) (m : List ℕ) (f : Free) → CarriesBy (turn_of r p m f)
turn_carry r p m f carries =
    let known = turn_carries r p m f carries in
    let message = turn_message r p m f in (
      eq-eqb (code_in (turn_of r p m f).effect) PSK_EXCHANGE known.1.1,
      λ version.
          let code : code_of m ≡ GET_VERSION = ap code_of (sym message) ∙ version in
          elim (carried_code r p m f (turn_of r p m f).reply (chunk_in (request_at p m)) refl known.0) [
            | inl exchange ↦ (let no = sym exchange ∙ code in absurd (omega (arith, no)))
            | inr chunk ↦ (let no = sym chunk ∙ code in absurd (omega (arith, no)))
          ],
    )

carry_led : (r : RspSetup) (h : History) (tag : ℕ) (body : List ℕ) (e : Entry) → MayLeadTo r h tag body (Adds e) → CarryStandsIn e
carry_led r h tag body e may = by_type (slice_index body 0 == 5) refl
  where
    by_type : (b : Bool) → (slice_index body 0 == 5) ≡ b → CarryStandsIn e
    by_type true is =
        let led = led_clear r h tag body (Adds e) is may in
        elim (clear_form r h tag (drop 1 body) led.free (Adds e) led.leads) [
          | inl same ↦ absurd (let x = same.1 in cc)
          | inr adds ↦
              let same : Clear tag (turn_of r (clear_place h) (drop 1 body) led.free) no_draw ≡ e = cc (sym adds) in
              subst CarryStandsIn same (turn_carry r (clear_place h) (drop 1 body) led.free)
        ]
    by_type false is =
        let led = led_record r h tag body (Adds e) is may in
        subst CarryStandsIn (record_added r led.free tag (drop 1 body) e h led.leads) tt

carry_seen : (w : List ℕ) (e : Entry) → CarryStandsIn e → CarryStandsIn (seen w e)
carry_seen w (Clear tag t d) stands = λ carries. let known = stands carries in (takes_with w (Some (handle_shown t)) PSK_EXCHANGE t ∙ known.0, known.1)
carry_seen w (Sealed tag m t reply d) stands = tt
carry_seen w (Queued bytes) stands = tt
carry_seen w (Ticked seconds) stands = tt
carry_seen w (Dropped id) stands = tt

carry_unseen : (e : Entry) → CarryStandsIn e → CarryStandsIn (unseen e)
carry_unseen (Clear tag t d) stands = λ carries. let known = stands carries in (takes_with [] None PSK_EXCHANGE t ∙ known.0, known.1)
carry_unseen (Sealed tag m t reply d) stands = tt
carry_unseen (Queued bytes) stands = tt
carry_unseen (Ticked seconds) stands = tt
carry_unseen (Dropped id) stands = tt

-- ---- A history.

dropped_stands : (ids : List ℕ) (h : History) → CarryStand h → CarryStand (with_dropped h ids)
dropped_stands [] h stands = stands
dropped_stands (id ∷ ids) h stands = dropped_stands ids (Dropped id ∷ h) (tt, stands)

given_stands : (place : Option ℕ) (w : List ℕ) (h : History) → CarryStand h → CarryStand (with_large place w h)
given_stands place w [] stands = tt
given_stands place w (e ∷ h) stands = by_is (is_unseen_in place e) (given_stands place w h stands.1)
  where
    by_is : (b : Bool) → CarryStand (with_large place w h) → CarryStand (cond b (seen w e ∷ h) (e ∷ with_large place w h))
    by_is true rest = (carry_seen w e stands.0, stands.1)
    by_is false rest = (stands.0, rest)

before_stands : (place : Option ℕ) (ids : List ℕ) (h : History) → CarryStand h → CarryStand (dropped_before_large place ids h)
before_stands place ids [] stands = tt
before_stands place ids (e ∷ h) stands = by_is (is_unseen_in place e) (before_stands place ids h stands.1)
  where
    by_is : (b : Bool) → CarryStand (dropped_before_large place ids h) → CarryStand (cond b (e ∷ with_dropped h ids) (e ∷ dropped_before_large place ids h))
    by_is true rest = (stands.0, dropped_stands ids h stands.1)
    by_is false rest = (stands.0, rest)

after_stands : (r : RspSetup) (k h : History) (tag : ℕ) (body : List ℕ) (o : Outcome) → MayLeadTo r k tag body o → CarryStand h → CarryStand (after h o)
after_stands r k h tag body (Same b) may stands = stands
after_stands r k h tag body (Unopened b) may stands = stands
after_stands r k h tag body (Adds e) may stands = (carry_led r k tag body e may, stands)

-- ---- An answer.

answers_stand : (r : RspSetup) (d : Dialogue) (round : Round) (answer : List ℕ) (next : History) (fetching : Option (List ℕ)) → Answers r d round answer next fetching → CarryStand d.responder → CarryStand next
unfolding Answers
answers_stand r d round answer next fetching (inl a) stands =
    subst CarryStand (sym a.0.6) (after_stands r (with_dropped (judging d.fetching round.body d.responder) a.0.0) (with_dropped d.responder a.0.0) round.tag round.body a.0.1 a.0.2.1 (dropped_stands a.0.0 d.responder stands))
answers_stand r d round answer next fetching (inr (inl a)) stands =
    subst CarryStand (sym a.1.6) (carry_unseen a.1.1 (carry_led r (with_dropped (judging d.fetching round.body d.responder) a.1.0) round.tag round.body a.1.1 a.1.2.1), stands)
answers_stand r d round answer next fetching (inr (inr (inl a))) stands = subst CarryStand (sym a.1.4) stands
answers_stand r d round answer next fetching (inr (inr (inr a))) stands =
    let place : Option ℕ = place_named round.body in
    subst CarryStand (sym a.0.8) (carry_led r (judging d.fetching round.body d.responder) round.tag round.body a.0.2 a.0.4, given_stands place a.0.0 (dropped_before_large place a.0.1 d.responder) (before_stands place a.0.1 d.responder stands))

-- ---- A walk.

asks_stand : (d : Dialogue) (g : Gathered) (next : Dialogue) → CarryStand d.responder → AsksBy d g next → CarryStand next.responder
asks_stand d (Whole route body) next stands asks = elim asks.2 [
  | inl copies ↦ subst CarryStand (sym (ap (λ (x : Dialogue). x.responder) copies.4)) stands
  | inr begins ↦ subst CarryStand (sym (ap (λ (x : Dialogue). x.responder) begins.2.3)) stands
]
asks_stand d More next stands asks = subst (λ (x : Dialogue). CarryStand x.responder) (sym asks) stands
asks_stand d (Lost cause) next stands asks = absurd asks

replies_stand : (w : Configuration) (d : Dialogue) (g : Gathered) (next : Dialogue) → CarryStand d.responder → RepliesBy w d g next → CarryStand next.responder
replies_stand w d (Whole route body) next stands replies =
    let c = replies.2 in
    subst CarryStand (sym (ap (λ (x : Dialogue). x.responder) c.4.3.2)) (answers_stand (towards w.responder (known_of d.setup)) d c.0 body c.4.0 c.4.1 c.4.2 stands)
replies_stand w d More next stands replies = subst (λ (x : Dialogue). CarryStand x.responder) (sym replies) stands
replies_stand w d (Lost cause) next stands replies = absurd replies

step_stands : (w : Configuration) (eid : ℕ) (older : List (List ℕ)) (d next : Dialogue) (r : Result PacketFields PacketFault) → CarryStand d.responder → StepsBy w eid older d next r → CarryStand next.responder
step_stands w eid older d next (Err fault) stands step = subst (λ (x : Dialogue). CarryStand x.responder) (sym step) stands
step_stands w eid older d next (Ok p) stands step = by_ends (is_request w.responder.eid eid p) (is_answer w.responder.eid eid p) step
  where
    by_ends : (b c : Bool) → MatchBool b (AsksBy d (gathered_from w.responder.eid eid older p) next) (MatchBool c (RepliesBy w d (gathered_from eid w.responder.eid older p) next) (next ≡ d)) → CarryStand next.responder
    by_ends true c asks = asks_stand d (gathered_from w.responder.eid eid older p) next stands asks
    by_ends false true replies = replies_stand w d (gathered_from eid w.responder.eid older p) next stands replies
    by_ends false false same = subst (λ (x : Dialogue). CarryStand x.responder) (sym same) stands

pub walks_carry : (w : Configuration) (q : ReqSetup) (older : List (List ℕ)) (d : Dialogue) → Walks w q older d → CarryStand d.responder
unfolding StepsTo
walks_carry w q [] d walk = subst (λ (x : Dialogue). CarryStand x.responder) (sym walk) tt
walks_carry w q (packet ∷ older) d walk = step_stands w q.eid older walk.0 d (parsed packet) (walks_carry w q older walk.0 walk.1) walk.2
