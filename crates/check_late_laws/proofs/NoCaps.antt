-- No large response that was not seen is CAPABILITIES: before these no sizes are known.
use Rattle.std.proofs.Common.{◌≡◌, ◌==◌, ◌⊎◌, ℕ, List, [], ◌∷◌, refl, sym, ap, ◌∙◌, subst, drop, Bool, true, false, Option, Some, None, cond, is_some, eqb-true, inl, inr, Result, Ok, Err}
use Rattle.std.specs.Prelude.{MatchBool, slice_index}
use Rattle.std.proofs.lemmas.Bool.{false≢true, not-false}
use Rattle.mctp_framing.specs.Gathering.{Gathered}
use Rattle.mctp_framing.specs.Gathering.Gathered.{Whole, More, Dropped}
use Rattle.mctp_framing.specs.Packet.{PacketFields, parsed}
use Rattle.requester_machine.specs.Setup.{ReqSetup}
use Rattle.spdm_basis.specs.declared.PacketFault.{PacketFault}
use Rattle.spdm_machine.specs.Packets.{gathered_from}
use Rattle.check_laws.specs.Order.{is_answer, is_request}
use Rattle.responder_machine.specs.Turn.Effect.{NoEffect}
use Rattle.responder_machine.proofs.Codes.{asked-code}
use Rattle.responder_machine.proofs.Tests.{form_shown}
use Rattle.responder_machine.specs.Answer.{Free, answer_bytes, request_at}
use Rattle.responder_machine.specs.Handling.{carried_turn, chunk_in, effect_of, goes_large, handle_for, last_chunk_turn, request_effect, taken_chunk, turn_by, turn_of}
use Rattle.responder_machine.specs.History.{Entry, History}
use Rattle.responder_machine.specs.History.Entry.{Clear, Sealed, Queued, Ticked, Dropped as Gone}
use Rattle.responder_machine.specs.LargeMessages.{chunks_of}
use Rattle.responder_machine.specs.May.{with_dropped}
use Rattle.responder_machine.specs.Place.{Place, Where, clear_place, inside}
use Rattle.responder_machine.specs.Place.Where.{InClear, InChunks}
use Rattle.responder_machine.specs.Refusal.{code_of, has_pending, is_allowed, phase_allows, refusal, sizes_are_known}
use Rattle.responder_machine.specs.Responder.{Outcome, after}
use Rattle.responder_machine.specs.Responder.Outcome.{Same, Unopened, Adds}
use Rattle.responder_machine.specs.Setup.{RspSetup, towards}
use Rattle.responder_machine.specs.Turn.{Turn, code_in, handle_in, takes}
use Rattle.spdm_basis.proofs.Bools.{and_first}
use Rattle.spdm_grammar.specs.Message.{ChunkMessage, RequestMessage}
use Rattle.spdm_grammar.specs.Codes.{code_for}
use Rattle.spdm_grammar.specs.declared.messages.error_code.ErrorCode.{ErrorCode}
use Rattle.spdm_grammar.specs.declared.names.request_code.TheConstants.{GET_CAPABILITIES}
use Rattle.spdm_grammar.specs.declared.told.phase.Phase.{Phase}
use Rattle.spdm_grammar.specs.declared.told.phase.Phase.TheVariants.{Fresh, Versioned, Capable, Negotiated}
use Rattle.chunking.specs.Collecting.{joined_with, under_way}
use Rattle.check_laws.specs.Walks.{StepsBy, StepsTo, Walks}
use Rattle.capture_machine.proofs.DropsTell.{clear_form}
use Rattle.capture_machine.proofs.FetchedSessions.{takes_with}
use Rattle.capture_machine.proofs.PlainTells.{led_clear, led_record}
use Rattle.capture_machine.proofs.RecordAdds.{record_added}
use Rattle.capture_machine.proofs.SeenAnswers.{led_seen}
use Rattle.capture_machine.proofs.UnseenStands.{given_seen}
use Rattle.capture_machine.specs.Capture.{AsksBy, RepliesBy}
use Rattle.capture_machine.specs.CapturedAnswers.{Answers, MayLeadTo}
use Rattle.capture_machine.specs.LargeAnswers.{dropped_before_large, is_large, is_unseen, is_unseen_effect, is_unseen_in, judging, place_named, seen, unseen, with_large}
use Rattle.capture_machine.specs.Rounds.{Dialogue, Round, no_draw}
use Rattle.world_machine.specs.Setup.{Configuration, known_of}

-- ---- A turn.

-- GET_CAPABILITIES comes before sizes are known.
no_phase : (phase : Phase) (b : Bool) → phase_allows phase b GET_CAPABILITIES ≡ true → sizes_are_known phase ≡ true → ⊥
no_phase Fresh b is known = false≢true known
no_phase Versioned b is known = false≢true known
no_phase Capable b is known = false≢true is
no_phase Negotiated b is known = false≢true is

allowed_phase : (p : Place) (c : ℕ) → (p.at ≡ InClear) ⊎ (p.at ≡ InChunks) → is_allowed p.at p c ≡ phase_allows p.phase (has_pending p) c
allowed_phase p c (inl is) = ap (λ (a : Where). is_allowed a p c) is
allowed_phase p c (inr is) = ap (λ (a : Where). is_allowed a p c) is

either_known : (q : Option RequestMessage) (m answer : List ℕ) (b : Bool) (handle : ℕ) → is_some (handle_in (effect_of q m answer (cond b (Some handle) None))) ≡ true → b ≡ true
either_known None m answer b handle large = absurd (false≢true large)
either_known (Some q) m answer true handle large = refl
either_known (Some q) m answer false handle large = absurd (false≢true large)

code_by : (q : Option RequestMessage) (m answer : List ℕ) (large : Option ℕ) → (code_in (effect_of q m answer large) == GET_CAPABILITIES) ≡ true → (asked : RequestMessage) × (q ≡ Some asked) × ((code_for asked == GET_CAPABILITIES) ≡ true)
code_by None m answer large is = absurd (false≢true is)
code_by (Some asked) m answer large is = (asked, refl, is)

not_caps : (r : RspSetup) (p : Place) (m : List ℕ) (f : Free) → (p.at ≡ InClear) ⊎ (p.at ≡ InChunks) → refusal r p m f ≡ None → is_some (handle_in (request_effect r p m f)) ≡ true → (code_in (request_effect r p m f) == GET_CAPABILITIES) ≡ true → ⊥
not_caps r p m f at none large caps =
    let asked = code_by (request_at p m) m (answer_bytes r p m f) (handle_for p f (answer_bytes r p m f)) caps in
    let code : code_of m ≡ GET_CAPABILITIES = sym (asked-code p m asked.0 asked.1) ∙ eqb-true (code_for asked.0) GET_CAPABILITIES asked.2 in
    let allows : phase_allows p.phase (has_pending p) GET_CAPABILITIES ≡ true =
    ap (phase_allows p.phase (has_pending p)) (sym code) ∙ sym (allowed_phase p (code_of m) at) ∙ not-false (is_allowed p.at p (code_of m)) (form_shown r p m f none 6) in
    let goes : goes_large p (answer_bytes r p m f) ≡ true = either_known (request_at p m) m (answer_bytes r p m f) (goes_large p (answer_bytes r p m f)) f.handle large in
    no_phase p.phase (has_pending p) allows (and_first (sizes_are_known p.phase) _ goes)

-- A turn whose answer is large takes no GET_CAPABILITIES.
abbrev Apart : Turn → Type 0
Apart t = is_some (handle_in t.effect) ≡ true → takes GET_CAPABILITIES t ≡ true → ⊥

module _ (r : RspSetup) (p : Place) (at : p.at ≡ InClear) (m : List ℕ) (f : Free) where
  carried_apart : (c : ChunkMessage) (text : List ℕ) (x : Option ErrorCode) → refusal r (inside p) text f ≡ x → Apart (carried_turn r (inside p) m f c text x)
  carried_apart c text (Some e) is large caps = false≢true large
  carried_apart c text None is large caps = not_caps r (inside p) text f (inr refl) is large caps

  chunk_apart : (c : ChunkMessage) (b : Bool) (text : List ℕ) → Apart (cond b (last_chunk_turn r (inside p) m f c text) (taken_chunk m c NoEffect []))
  chunk_apart c true text = carried_apart c text (refusal r (inside p) text f) refl
  chunk_apart c false text = λ large caps. false≢true large

  turn_apart : (x : Option ErrorCode) (c : Option ChunkMessage) → refusal r p m f ≡ x → Apart (turn_by r p m f x c)
  turn_apart (Some e) c is = λ large caps. false≢true large
  turn_apart None None is = not_caps r p m f (inl at) is
  turn_apart None (Some c) is = chunk_apart c c.last (joined_with (under_way (chunks_of p.turns)) c)

  clear_apart : Apart (turn_of r p m f)
  unfolding turn_of
  clear_apart = turn_apart (refusal r p m f) (chunk_in (request_at p m)) refl

-- ---- An entry.

abbrev pub EntryCaps : Entry → Type 0
EntryCaps (Clear tag t d) = is_unseen_effect t.effect ≡ true → takes GET_CAPABILITIES t ≡ false
EntryCaps _ = Unit {0}

abbrev pub NoCaps : History → Type 0
NoCaps [] = Unit {0}
NoCaps (e ∷ h) = EntryCaps e × NoCaps h

seen_caps : (e : Entry) → is_unseen e ≡ false → EntryCaps e
seen_caps (Clear tag t d) is = λ un. absurd (false≢true (sym is ∙ un))
seen_caps (Sealed tag m t reply d) is = tt
seen_caps (Queued bytes) is = tt
seen_caps (Ticked seconds) is = tt
seen_caps (Gone id) is = tt

caps_by : (b : Bool) → (b ≡ true → ⊥) → b ≡ false
caps_by true none = absurd (none refl)
caps_by false none = refl

large_clear : (r : RspSetup) (h : History) (tag : ℕ) (body : List ℕ) (e : Entry) → (slice_index body 0 == 5) ≡ true → MayLeadTo r h tag body (Adds e) → is_large e ≡ true → EntryCaps (unseen e)
large_clear r h tag body e type may large =
    let led = led_clear r h tag body (Adds e) type may in
    elim (clear_form r h tag (drop 1 body) led.free (Adds e) led.leads) [
      | inl same ↦ absurd (let x = same.1 in cc)
      | inr adds ↦
          let t : Turn = turn_of r (clear_place h) (drop 1 body) led.free in
          let is : Clear tag t no_draw ≡ e = cc (sym adds) in
          let big : is_some (handle_in t.effect) ≡ true = ap is_large is ∙ large in
          subst (λ (x : Entry). EntryCaps (unseen x)) is (λ un. takes_with [] None GET_CAPABILITIES t ∙ caps_by (takes GET_CAPABILITIES t) (clear_apart r (clear_place h) refl (drop 1 body) led.free big))
    ]

sealed_caps : (tag : ℕ) (m : List ℕ) (t : Turn) (reply : List ℕ) (e : Entry) → Sealed tag m t reply no_draw ≡ e → EntryCaps (unseen e)
sealed_caps tag m t reply e is = subst (λ (x : Entry). EntryCaps (unseen x)) is tt

large_caps : (r : RspSetup) (h : History) (tag : ℕ) (body : List ℕ) (e : Entry) → MayLeadTo r h tag body (Adds e) → is_large e ≡ true → EntryCaps (unseen e)
large_caps r h tag body e may large = by_type (slice_index body 0 == 5) refl
  where
    by_type : (b : Bool) → (slice_index body 0 == 5) ≡ b → EntryCaps (unseen e)
    by_type true type = large_clear r h tag body e type may large
    by_type false type =
        let led = led_record r h tag body (Adds e) type may in
        sealed_caps tag (drop 1 body) _ _ e (record_added r led.free tag (drop 1 body) e h led.leads)

-- ---- A history.

dropped_caps : (ids : List ℕ) (h : History) → NoCaps h → NoCaps (with_dropped h ids)
dropped_caps [] h caps = caps
dropped_caps (id ∷ ids) h caps = dropped_caps ids (Gone id ∷ h) (tt, caps)

given_by : (place : Option ℕ) (w : List ℕ) (e : Entry) (h : History) (b : Bool) → EntryCaps e → NoCaps h → NoCaps (with_large place w h) → NoCaps (cond b (seen w e ∷ h) (e ∷ with_large place w h))
given_by place w e h true one caps given = (seen_caps (seen w e) (given_seen w e), caps)
given_by place w e h false one caps given = (one, given)

given_caps : (place : Option ℕ) (w : List ℕ) (h : History) → NoCaps h → NoCaps (with_large place w h)
given_caps place w [] caps = tt
given_caps place w (e ∷ h) caps = given_by place w e h (is_unseen_in place e) caps.0 caps.1 (given_caps place w h caps.1)

before_by : (place : Option ℕ) (ids : List ℕ) (e : Entry) (h : History) (b : Bool) → EntryCaps e → NoCaps h → NoCaps (dropped_before_large place ids h) → NoCaps (cond b (e ∷ with_dropped h ids) (e ∷ dropped_before_large place ids h))
before_by place ids e h true one caps before = (one, dropped_caps ids h caps)
before_by place ids e h false one caps before = (one, before)

before_caps : (place : Option ℕ) (ids : List ℕ) (h : History) → NoCaps h → NoCaps (dropped_before_large place ids h)
before_caps place ids [] caps = tt
before_caps place ids (e ∷ h) caps = before_by place ids e h (is_unseen_in place e) caps.0 caps.1 (before_caps place ids h caps.1)

after_caps : (r : RspSetup) (k h : History) (tag : ℕ) (body : List ℕ) (o : Outcome) → MayLeadTo r k tag body o → NoCaps h → NoCaps (after h o)
after_caps r k h tag body (Same b) may caps = caps
after_caps r k h tag body (Unopened b) may caps = caps
after_caps r k h tag body (Adds e) may caps = (seen_caps e (led_seen r k tag body e may), caps)

answers_caps : (r : RspSetup) (d : Dialogue) (round : Round) (answer : List ℕ) (next : History) (fetching : Option (List ℕ)) → Answers r d round answer next fetching → NoCaps d.responder → NoCaps next
unfolding Answers
answers_caps r d round answer next fetching (inl (a, same)) caps =
    subst NoCaps (sym a.6) (after_caps r (with_dropped (judging d.fetching round.body d.responder) a.0) (with_dropped d.responder a.0) round.tag round.body a.1 a.2.1 (dropped_caps a.0 d.responder caps))
answers_caps r d round answer next fetching (inr (inl (x, a, same))) caps =
    subst NoCaps (sym a.6) (large_caps r (with_dropped (judging d.fetching round.body d.responder) a.0) round.tag round.body a.1 a.2.1 a.3, caps)
answers_caps r d round answer next fetching (inr (inr (inl (x, a, same)))) caps = subst NoCaps (sym a.4) caps
answers_caps r d round answer next fetching (inr (inr (inr (a, same)))) caps =
    let place : Option ℕ = place_named round.body in
    let k : History = judging d.fetching round.body d.responder in
    subst NoCaps (sym a.8) (seen_caps a.2 (led_seen r k round.tag round.body a.2 a.4), given_caps place a.0 (dropped_before_large place a.1 d.responder) (before_caps place a.1 d.responder caps))

-- ---- Each walk.

asks_keep : (d : Dialogue) (g : Gathered) (next : Dialogue) → NoCaps d.responder → AsksBy d g next → NoCaps next.responder
asks_keep d (Whole route body) next all (body_is, owner, inl k) = subst (λ (x : Dialogue). NoCaps x.responder) (sym k.4) all
asks_keep d (Whole route body) next all (body_is, owner, inr k) = subst (λ (x : Dialogue). NoCaps x.responder) (sym k.2.3) all
asks_keep d More next all c = subst (λ (x : Dialogue). NoCaps x.responder) (sym c) all
asks_keep d (Dropped cause) next all c = absurd c

replies_keep : (w : Configuration) (d : Dialogue) (g : Gathered) (next : Dialogue) → NoCaps d.responder → RepliesBy w d g next → NoCaps next.responder
replies_keep w d (Whole route body) next all (body_is, owner, k) =
    subst (λ (x : Dialogue). NoCaps x.responder) (sym k.4.3.2) (answers_caps (towards w.responder (known_of d.setup)) d k.0 body k.4.0 k.4.1 k.4.2 all)
replies_keep w d More next all c = subst (λ (x : Dialogue). NoCaps x.responder) (sym c) all
replies_keep w d (Dropped cause) next all c = absurd c

step_keep : (w : Configuration) (eid : ℕ) (older : List (List ℕ)) (d next : Dialogue) (r : Result PacketFields PacketFault) → NoCaps d.responder → StepsBy w eid older d next r → NoCaps next.responder
step_keep w eid older d next (Err fault) all step = subst (λ (x : Dialogue). NoCaps x.responder) (sym step) all
step_keep w eid older d next (Ok p) all step = by_ends (is_request w.responder.eid eid p) (is_answer w.responder.eid eid p) step
  where
    by_ends : (b c : Bool) → MatchBool b (AsksBy d (gathered_from w.responder.eid eid older p) next) (MatchBool c (RepliesBy w d (gathered_from eid w.responder.eid older p) next) (next ≡ d)) → NoCaps next.responder
    by_ends true c asks = asks_keep d (gathered_from w.responder.eid eid older p) next all asks
    by_ends false true replies = replies_keep w d (gathered_from eid w.responder.eid older p) next all replies
    by_ends false false same = subst (λ (x : Dialogue). NoCaps x.responder) (sym same) all

pub walks_caps : (w : Configuration) (q : ReqSetup) (older : List (List ℕ)) (d : Dialogue) → Walks w q older d → NoCaps d.responder
unfolding StepsTo
walks_caps w q [] d walk = subst (λ (x : Dialogue). NoCaps x.responder) (sym walk) tt
walks_caps w q (packet ∷ older) d walk = step_keep w q.eid older walk.0 d (parsed packet) (walks_caps w q older walk.0 walk.1) walk.2
