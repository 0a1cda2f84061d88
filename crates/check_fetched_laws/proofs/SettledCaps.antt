-- No answer to GET_CAPABILITIES goes by LargeResponse, so none is left unseen in a walk.
use Rattle.std.proofs.Common.{◌≡◌, ◌+◌, ◌==◌, ◌&&◌, ℕ, List, [], ◌∷◌, refl, sym, ap, ◌∙◌, subst, drop, length, Bool, true, false, Option, Some, None, Result, Ok, Err, is_some, cond, inl, inr, eqb-true}
use Rattle.std.specs.Prelude.{MatchBool, nat_lt, slice_index}
use Rattle.std.proofs.lemmas.Bool.{false≢true, not-false}
use Rattle.chunking.specs.Collecting.{joined_with, under_way}
use Rattle.mctp_framing.specs.Gathering.{Gathered}
use Rattle.mctp_framing.specs.Gathering.Gathered.{Whole, More, Dropped as Lost}
use Rattle.mctp_framing.specs.Packet.{PacketFields, parsed}
use Rattle.spdm_basis.specs.declared.PacketFault.{PacketFault}
use Rattle.spdm_grammar.specs.Codes.{code_for}
use Rattle.spdm_grammar.specs.Message.{ChunkMessage, RequestMessage}
use Rattle.spdm_grammar.specs.declared.messages.error_code.ErrorCode.{ErrorCode}
use Rattle.spdm_grammar.specs.declared.names.request_code.TheConstants.{GET_CAPABILITIES}
use Rattle.spdm_grammar.specs.declared.told.phase.Phase.{Phase}
use Rattle.spdm_grammar.specs.declared.told.phase.Phase.TheVariants.{Fresh, Versioned, Capable, Negotiated}
use Rattle.spdm_machine.specs.Packets.{gathered_from}
use Rattle.requester_machine.specs.Setup.{ReqSetup}
use Rattle.responder_machine.specs.Answer.{Free, answer_bytes, request_at}
use Rattle.responder_machine.specs.Handling.{carried_turn, chunk_in, effect_of, goes_large, last_chunk_turn, taken_chunk, turn_by, turn_of}
use Rattle.responder_machine.specs.History.{Entry, History}
use Rattle.responder_machine.specs.History.Entry.{Clear, Sealed, Queued, Ticked, Dropped}
use Rattle.responder_machine.specs.LargeMessages.{chunks_of}
use Rattle.responder_machine.specs.May.{with_dropped}
use Rattle.responder_machine.specs.Place.{Place, clear_place, inside, place_terms}
use Rattle.responder_machine.specs.Refusal.{bytes_round, code_of, is_allowed, phase_allows, refusal, sizes_are_known}
use Rattle.responder_machine.specs.Responder.{Outcome, after}
use Rattle.responder_machine.specs.Responder.Outcome.{Same, Unopened, Adds}
use Rattle.responder_machine.specs.Setup.{RspSetup, towards}
use Rattle.responder_machine.specs.Turn.{Turn, code_in, handle_in, takes}
use Rattle.responder_machine.specs.Turn.Effect.{NoEffect}
use Rattle.responder_machine.proofs.Codes.{asked-code}
use Rattle.responder_machine.proofs.Tests.{form_shown}
use Rattle.check_laws.specs.Order.{is_answer, is_request}
use Rattle.check_laws.specs.Walks.{StepsBy, StepsTo, Walks}
use Rattle.check_fetched_laws.proofs.TurnsBoth.{Settles, SettlesEntry}
use Rattle.capture_machine.proofs.DropsTell.{clear_form}
use Rattle.capture_machine.proofs.FetchedSessions.{takes_with}
use Rattle.capture_machine.proofs.PlainTells.{led_clear, led_record}
use Rattle.capture_machine.proofs.RecordAdds.{record_added}
use Rattle.capture_machine.proofs.SeenAnswers.{led_seen}
use Rattle.capture_machine.proofs.UnseenStands.{given_seen}
use Rattle.capture_machine.specs.Capture.{AsksBy, RepliesBy}
use Rattle.capture_machine.specs.CapturedAnswers.{Answers, MayLeadTo}
use Rattle.capture_machine.specs.LargeAnswers.{dropped_before_large, is_large, is_unseen, is_unseen_in, judging, place_named, seen, unseen, with_large}
use Rattle.capture_machine.specs.Rounds.{Dialogue, Round, no_draw}
use Rattle.world_machine.specs.Setup.{Configuration, known_of}

-- ---- An answer that goes by LargeResponse.

caps_phase : (phase : Phase) (b : Bool) → phase_allows phase b GET_CAPABILITIES ≡ true → sizes_are_known phase ≡ false
caps_phase Fresh b is = absurd (false≢true is)
caps_phase Versioned b is = refl
caps_phase Capable b is = absurd (false≢true is)
caps_phase Negotiated b is = absurd (false≢true is)

-- The place allows GET_CAPABILITIES only where sizes are not known.
abbrev IsEarly : Place → Type 0
IsEarly p = is_allowed p.at p GET_CAPABILITIES ≡ true → sizes_are_known p.phase ≡ false

module _ (r : RspSetup) (f : Free) where
  effect_settles : (p : Place) (m : List ℕ) (q : Option RequestMessage) → IsEarly p → refusal r p m f ≡ None → request_at p m ≡ q
      → is_some (handle_in (effect_of q m (answer_bytes r p m f) (cond (goes_large p (answer_bytes r p m f)) (Some f.handle) None))) ≡ true
      → (code_in (effect_of q m (answer_bytes r p m f) (cond (goes_large p (answer_bytes r p m f)) (Some f.handle) None)) == GET_CAPABILITIES) ≡ false
  effect_settles p m None early none is large = absurd (false≢true large)
  effect_settles p m (Some q) early none is large = by_code (code_for q == GET_CAPABILITIES) refl
    where
      by_code : (b : Bool) → (code_for q == GET_CAPABILITIES) ≡ b → b ≡ false
      by_code false same = refl
      by_code true same =
          let code : code_of m ≡ GET_CAPABILITIES = sym (asked-code p m q is) ∙ eqb-true (code_for q) GET_CAPABILITIES same in
          let allows : is_allowed p.at p GET_CAPABILITIES ≡ true = ap (is_allowed p.at p) (sym code) ∙ not-false (is_allowed p.at p (code_of m)) (form_shown r p m f none 6) in
          let whole : goes_large p (answer_bytes r p m f) ≡ false =
          ap (λ (b : Bool). b && nat_lt (place_terms p).common.to_requester.transfer (bytes_round p.at + length (answer_bytes r p m f))) (early allows) in
          absurd (false≢true (sym (ap (λ (b : Bool). is_some (handle_in (effect_of (Some q) m (answer_bytes r p m f) (cond b (Some f.handle) None)))) whole) ∙ large))

  module _ (h : History) (m : List ℕ) where
    abbrev p : Place
    p = clear_place h

    carried_settles : (c : ChunkMessage) (l : List ℕ) (o : Option ErrorCode) → refusal r (inside p) l f ≡ o → is_some (handle_in (carried_turn r (inside p) m f c l o).effect) ≡ true → takes GET_CAPABILITIES (carried_turn r (inside p) m f c l o) ≡ false
    carried_settles c l (Some e) is large = absurd (false≢true large)
    carried_settles c l None is large = effect_settles (inside p) l (request_at (inside p) l) (λ x. caps_phase _ _ x) is refl large

    chunk_settles : (c : ChunkMessage) (l : List ℕ) (b : Bool) → let t = cond b (last_chunk_turn r (inside p) m f c l) (taken_chunk m c NoEffect []) in is_some (handle_in t.effect) ≡ true → takes GET_CAPABILITIES t ≡ false
    chunk_settles c l true large = carried_settles c l (refusal r (inside p) l f) refl large
    chunk_settles c l false large = absurd (false≢true large)

    turn_by_settles : (o : Option ErrorCode) (c : Option ChunkMessage) → refusal r p m f ≡ o → is_some (handle_in (turn_by r p m f o c).effect) ≡ true → takes GET_CAPABILITIES (turn_by r p m f o c) ≡ false
    turn_by_settles (Some e) c is large = absurd (false≢true large)
    turn_by_settles None None is large = effect_settles p m (request_at p m) (λ x. caps_phase _ _ x) is refl large
    turn_by_settles None (Some c) is large = chunk_settles c (joined_with (under_way (chunks_of p.turns)) c) c.last large

    turn_settles : is_some (handle_in (turn_of r p m f).effect) ≡ true → takes GET_CAPABILITIES (turn_of r p m f) ≡ false
    unfolding turn_of
    turn_settles large = turn_by_settles (refusal r p m f) (chunk_in (request_at p m)) refl large

large_settles : (r : RspSetup) (h : History) (tag : ℕ) (body : List ℕ) (e : Entry) → MayLeadTo r h tag body (Adds e) → is_large e ≡ true → SettlesEntry (unseen e)
large_settles r h tag body e may large = by_type (slice_index body 0 == 5) refl
  where
    by_type : (b : Bool) → (slice_index body 0 == 5) ≡ b → SettlesEntry (unseen e)
    by_type true is =
        let led = led_clear r h tag body (Adds e) is may in
        elim (clear_form r h tag (drop 1 body) led.free (Adds e) led.leads) [
          | inl same ↦ absurd (let x = same.1 in cc)
          | inr adds ↦
              let t : Turn = turn_of r (clear_place h) (drop 1 body) led.free in
              let same : Clear tag t no_draw ≡ e = cc (sym adds) in
              let not : takes GET_CAPABILITIES t ≡ false = turn_settles r led.free h (drop 1 body) (ap is_large same ∙ large) in
              subst (λ (x : Entry). SettlesEntry (unseen x)) same (λ un. takes_with [] None GET_CAPABILITIES t ∙ not)
        ]
    by_type false is =
        let led = led_record r h tag body (Adds e) is may in
        subst (λ (x : Entry). SettlesEntry (unseen x)) (record_added r led.free tag (drop 1 body) e h led.leads) tt

-- ---- Entries that were seen.

seen_settles : (e : Entry) → is_unseen e ≡ false → SettlesEntry e
seen_settles (Clear tag t d) is = λ un. absurd (false≢true (sym is ∙ un))
seen_settles (Sealed tag m t reply d) is = tt
seen_settles (Queued bytes) is = tt
seen_settles (Ticked seconds) is = tt
seen_settles (Dropped id) is = tt

dropped_settles : (ids : List ℕ) (h : History) → Settles h → Settles (with_dropped h ids)
dropped_settles [] h settles = settles
dropped_settles (id ∷ ids) h settles = dropped_settles ids (Dropped id ∷ h) (tt, settles)

given_settles : (place : Option ℕ) (w : List ℕ) (h : History) → Settles h → Settles (with_large place w h)
given_settles place w [] settles = tt
given_settles place w (e ∷ h) settles = by_is (is_unseen_in place e) (given_settles place w h settles.1)
  where
    by_is : (b : Bool) → Settles (with_large place w h) → Settles (cond b (seen w e ∷ h) (e ∷ with_large place w h))
    by_is true rest = (seen_settles (seen w e) (given_seen w e), settles.1)
    by_is false rest = (settles.0, rest)

before_settles : (place : Option ℕ) (ids : List ℕ) (h : History) → Settles h → Settles (dropped_before_large place ids h)
before_settles place ids [] settles = tt
before_settles place ids (e ∷ h) settles = by_is (is_unseen_in place e) (before_settles place ids h settles.1)
  where
    by_is : (b : Bool) → Settles (dropped_before_large place ids h) → Settles (cond b (e ∷ with_dropped h ids) (e ∷ dropped_before_large place ids h))
    by_is true rest = (settles.0, dropped_settles ids h settles.1)
    by_is false rest = (settles.0, rest)

after_settles : (r : RspSetup) (k h : History) (tag : ℕ) (body : List ℕ) (o : Outcome) → MayLeadTo r k tag body o → Settles h → Settles (after h o)
after_settles r k h tag body (Same b) may settles = settles
after_settles r k h tag body (Unopened b) may settles = settles
after_settles r k h tag body (Adds e) may settles = (seen_settles e (led_seen r k tag body e may), settles)

-- ---- An answer.

answers_settle : (r : RspSetup) (d : Dialogue) (round : Round) (answer : List ℕ) (next : History) (fetching : Option (List ℕ)) → Answers r d round answer next fetching → Settles d.responder → Settles next
unfolding Answers
answers_settle r d round answer next fetching (inl a) settles =
    subst Settles (sym a.0.6) (after_settles r (with_dropped (judging d.fetching round.body d.responder) a.0.0) (with_dropped d.responder a.0.0) round.tag round.body a.0.1 a.0.2.1 (dropped_settles a.0.0 d.responder settles))
answers_settle r d round answer next fetching (inr (inl a)) settles =
    subst Settles (sym a.1.6) (large_settles r (with_dropped (judging d.fetching round.body d.responder) a.1.0) round.tag round.body a.1.1 a.1.2.1 a.1.3, settles)
answers_settle r d round answer next fetching (inr (inr (inl a))) settles = subst Settles (sym a.1.4) settles
answers_settle r d round answer next fetching (inr (inr (inr a))) settles =
    let place : Option ℕ = place_named round.body in
    subst Settles (sym a.0.8) (seen_settles a.0.2 (led_seen r (judging d.fetching round.body d.responder) round.tag round.body a.0.2 a.0.4), given_settles place a.0.0 (dropped_before_large place a.0.1 d.responder) (before_settles place a.0.1 d.responder settles))

-- ---- A walk.

asks_settle : (d : Dialogue) (g : Gathered) (next : Dialogue) → Settles d.responder → AsksBy d g next → Settles next.responder
asks_settle d (Whole route body) next settles asks = elim asks.2 [
  | inl copies ↦ subst Settles (sym (ap (λ (x : Dialogue). x.responder) copies.4)) settles
  | inr begins ↦ subst Settles (sym (ap (λ (x : Dialogue). x.responder) begins.2.3)) settles
]
asks_settle d More next settles asks = subst (λ (x : Dialogue). Settles x.responder) (sym asks) settles
asks_settle d (Lost cause) next settles asks = absurd asks

replies_settle : (w : Configuration) (d : Dialogue) (g : Gathered) (next : Dialogue) → Settles d.responder → RepliesBy w d g next → Settles next.responder
replies_settle w d (Whole route body) next settles replies =
    let c = replies.2 in
    subst Settles (sym (ap (λ (x : Dialogue). x.responder) c.4.3.2)) (answers_settle (towards w.responder (known_of d.setup)) d c.0 body c.4.0 c.4.1 c.4.2 settles)
replies_settle w d More next settles replies = subst (λ (x : Dialogue). Settles x.responder) (sym replies) settles
replies_settle w d (Lost cause) next settles replies = absurd replies

step_settles : (w : Configuration) (eid : ℕ) (older : List (List ℕ)) (d next : Dialogue) (r : Result PacketFields PacketFault) → Settles d.responder → StepsBy w eid older d next r → Settles next.responder
step_settles w eid older d next (Err fault) settles step = subst (λ (x : Dialogue). Settles x.responder) (sym step) settles
step_settles w eid older d next (Ok p) settles step = by_ends (is_request w.responder.eid eid p) (is_answer w.responder.eid eid p) step
  where
    by_ends : (b c : Bool) → MatchBool b (AsksBy d (gathered_from w.responder.eid eid older p) next) (MatchBool c (RepliesBy w d (gathered_from eid w.responder.eid older p) next) (next ≡ d)) → Settles next.responder
    by_ends true c asks = asks_settle d (gathered_from w.responder.eid eid older p) next settles asks
    by_ends false true replies = replies_settle w d (gathered_from eid w.responder.eid older p) next settles replies
    by_ends false false same = subst (λ (x : Dialogue). Settles x.responder) (sym same) settles

pub walks_settle : (w : Configuration) (q : ReqSetup) (older : List (List ℕ)) (d : Dialogue) → Walks w q older d → Settles d.responder
unfolding StepsTo
walks_settle w q [] d walk = subst (λ (x : Dialogue). Settles x.responder) (sym walk) tt
walks_settle w q (packet ∷ older) d walk = step_settles w q.eid older walk.0 d (parsed packet) (walks_settle w q older walk.0 walk.1) walk.2
