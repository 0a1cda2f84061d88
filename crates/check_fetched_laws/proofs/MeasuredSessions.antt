-- In a session only MEASUREMENTS go by LargeResponse, so each large response there is one, in each walk.
use Rattle.std.proofs.Common.{◌≡◌, ◌≤◌, ◌+◌, ◌==◌, ◌&&◌, ◌||◌, ℕ, List, [], ◌∷◌, refl, sym, ap, ◌∙◌, subst, drop, length, Bool, true, false, Option, Some, None, Result, Ok, Err, is_some, cond, inl, inr, arith}
use Rattle.std.specs.Prelude.{MatchBool, nat_lt, slice_index, not}
use Rattle.std.proofs.Math.Bool.{and-false, or-true}
use Rattle.std.proofs.lemmas.Bool.{false≢true, le-ltb, not-true}
use Rattle.spdm_basis.proofs.Bools.{and_first, and_second}
use Rattle.mctp_framing.specs.Gathering.{Gathered}
use Rattle.mctp_framing.specs.Gathering.Gathered.{Whole, More, Dropped as Lost}
use Rattle.mctp_framing.specs.Packet.{PacketFields, parsed}
use Rattle.spdm_basis.specs.declared.PacketFault.{PacketFault}
use Rattle.spdm_grammar.specs.Codes.{code_for}
use Rattle.spdm_grammar.specs.Message.{ChunkMessage, RequestMessage}
use Rattle.spdm_grammar.specs.Message.RequestMessage.{GetVersion, GetCapabilities, NegotiateAlgorithms, GetMeasurements, PskExchange, PskFinish, Heartbeat, KeyUpdate, EndSession, ChunkSend, ChunkGet}
use Rattle.spdm_grammar.specs.Responses.{canonical_response}
use Rattle.spdm_grammar.specs.declared.messages.error_code.ErrorCode.{ErrorCode}
use Rattle.spdm_grammar.specs.declared.names.request_code.TheConstants.{GET_MEASUREMENTS}
use Rattle.spdm_machine.specs.Packets.{gathered_from}
use Rattle.requester_machine.specs.Setup.{ReqSetup}
use Rattle.responder_machine.specs.Answer.{Free, answer_bytes, answer_of, answer_to, request_at}
use Rattle.responder_machine.specs.Handling.{chunk_in, effect_of, goes_large, request_effect, turn_by, turn_of}
use Rattle.responder_machine.specs.History.{Entry, History}
use Rattle.responder_machine.specs.History.Entry.{Clear, Sealed, Queued, Ticked, Dropped}
use Rattle.responder_machine.specs.May.{with_dropped}
use Rattle.responder_machine.specs.Place.{Place, clear_place, place_terms, session_place}
use Rattle.responder_machine.specs.Place.Where.{InSession}
use Rattle.responder_machine.specs.Records.{opened}
use Rattle.responder_machine.specs.Refusal.{bytes_round, is_answer_too_long, is_misplaced, refusal, sizes_are_known}
use Rattle.responder_machine.specs.Responder.{Outcome, after, data_turn, inner_refusal, session_turn, session_turn_by}
use Rattle.responder_machine.specs.Responder.Outcome.{Same, Unopened, Adds}
use Rattle.responder_machine.specs.Session.{Events, id_in_record, session_of, stage_of}
use Rattle.responder_machine.specs.Setup.{RspSetup, towards}
use Rattle.responder_machine.specs.Turn.{Turn, code_in, handle_in, takes}
use Rattle.responder_machine.proofs.Codes.{asked-code}
use Rattle.responder_machine.proofs.Tests.{contents_shown, form_shown}
use Rattle.check_fetched_laws.proofs.GetAlike.{fits}
use Rattle.check_laws.specs.Order.{is_answer, is_request}
use Rattle.check_laws.specs.Walks.{StepsBy, StepsTo, Walks}
use Rattle.capture_machine.proofs.DropsTell.{clear_form}
use Rattle.capture_machine.proofs.FetchedSessions.{takes_with}
use Rattle.capture_machine.proofs.PlainTells.{led_clear, led_record}
use Rattle.capture_machine.proofs.RecordAdds.{record_added}
use Rattle.capture_machine.proofs.RepliesTell.{no_chunk}
use Rattle.capture_machine.proofs.SeenAnswers.{led_seen}
use Rattle.capture_machine.proofs.SmallGets.{chunk_sized, get_chunks, gets_are_small}
use Rattle.capture_machine.proofs.TurnsAlike.{chunk_is, is_request as reads_request}
use Rattle.capture_machine.specs.Capture.{AsksBy, RepliesBy}
use Rattle.capture_machine.specs.CapturedAnswers.{Answers, MayLeadTo, is_plain}
use Rattle.capture_machine.specs.LargeAnswers.{dropped_before_large, handle_shown, is_in, is_large, is_unseen, is_unseen_effect, is_unseen_in, judging, place_named, seen, unseen, with_large}
use Rattle.capture_machine.specs.Rounds.{Dialogue, Round, no_draw}
use Rattle.world_machine.specs.Setup.{Configuration, known_of}

-- ---- What goes by LargeResponse in a session.

-- A turn with a large response, seen or not.
abbrev pub goes_by_chunks : Turn → Bool
goes_by_chunks t = is_unseen_effect t.effect || is_some (handle_in t.effect)

abbrev pub MeasuresEntry : Entry → Type 0
MeasuresEntry (Sealed tag m t reply d) = goes_by_chunks t ≡ true → takes GET_MEASUREMENTS t ≡ true
MeasuresEntry _ = Unit {0}

abbrev pub Measures : History → Type 0
Measures [] = Unit {0}
Measures (e ∷ h) = MeasuresEntry e × Measures h

-- A short answer goes whole: chunks are in common where it would go otherwise, and then the sizes are large enough.
pub short_goes : (r : RspSetup) (p : Place) (m : List ℕ) (f : Free) → refusal r p m f ≡ None → bytes_round p.at ≡ 0 → length (answer_bytes r p m f) ≤ 42 → goes_large p (answer_bytes r p m f) ≡ false
short_goes r p m f none round few = by_chunk (place_terms p).common.chunk refl
  where
    n : ℕ
    n = length (answer_bytes r p m f)

    by_chunk : (b : Bool) → (place_terms p).common.chunk ≡ b → goes_large p (answer_bytes r p m f) ≡ false
    by_chunk true chunk =
        let low = chunk_sized p.negotiation chunk in
        ap (λ (b : Bool). sizes_are_known p.phase && b) (le-ltb (place_terms p).common.to_requester.transfer (bytes_round p.at + n) (omega (arith, low, few, round))) ∙ and-false (sizes_are_known p.phase)
    by_chunk false chunk = by_known (sizes_are_known p.phase) (nat_lt (place_terms p).common.to_requester.transfer (bytes_round p.at + n)) refl refl
      where
        by_known : (a b : Bool) → sizes_are_known p.phase ≡ a → nat_lt (place_terms p).common.to_requester.transfer (bytes_round p.at + n) ≡ b → goes_large p (answer_bytes r p m f) ≡ false
        by_known false b known less = ap (λ (x : Bool). x && nat_lt (place_terms p).common.to_requester.transfer (bytes_round p.at + n)) known
        by_known true false known less = ap (λ (x : Bool). sizes_are_known p.phase && x) less ∙ and-false (sizes_are_known p.phase)
        by_known true true known less =
            let test : is_answer_too_long p (answer_bytes r p m f) ≡ false = contents_shown r p m f none 10 in
            let most : Bool = nat_lt (place_terms p).common.to_requester.max n in
            let is : is_answer_too_long p (answer_bytes r p m f) ≡ (most || true) =
            ap (λ (x : Bool). x && (most || (not (place_terms p).common.chunk && nat_lt (place_terms p).common.to_requester.transfer (bytes_round p.at + n)))) known
            ∙ ap (λ (x : Bool). most || (not x && nat_lt (place_terms p).common.to_requester.transfer (bytes_round p.at + n))) chunk ∙ ap (λ (x : Bool). most || x) less in
            absurd (false≢true (sym test ∙ is ∙ or-true most))

module _ (r : RspSetup) (s : Events) (m : List ℕ) (f : Free) where
  abbrev p : Place
  p = session_place s

  -- A request of this code does not come in a session.
  not_here : (q : RequestMessage) → refusal r p m f ≡ None → request_at p m ≡ Some q → is_misplaced InSession (code_for q) ≡ true → ⊥
  not_here q none is misplaced = false≢true (sym (form_shown r p m f none 5) ∙ ap (is_misplaced InSession) (sym (asked-code p m q is)) ∙ misplaced)

  short_one : (q : RequestMessage) → refusal r p m f ≡ None → request_at p m ≡ Some q → length (canonical_response (answer_of r p m f q)) ≤ 42 → is_some (handle_in (request_effect r p m f)) ≡ true → ⊥
  unfolding answer_bytes
  short_one q none is few large =
      let bytes : length (answer_bytes r p m f) ≤ 42 = subst (λ (l : List ℕ). length l ≤ 42) (sym (ap (answer_to r p m f) is)) few in
      let whole = short_goes r p m f none refl bytes in
      false≢true (sym (ap (λ (b : Bool). is_some (handle_in (effect_of (request_at p m) m (answer_bytes r p m f) (cond b (Some f.handle) None)))) whole ∙ none_of (request_at p m)) ∙ large)
    where
      none_of : (o : Option RequestMessage) → is_some (handle_in (effect_of o m (answer_bytes r p m f) None)) ≡ false
      none_of None = refl
      none_of (Some q) = refl

  -- CHUNK_GET fits.
  small_get : (handle number : ℕ) → refusal r p m f ≡ None → request_at p m ≡ Some (ChunkGet handle number) → is_some (handle_in (request_effect r p m f)) ≡ true → ⊥
  small_get handle number none is large =
      let chunk = get_chunks r p m f handle number none is in
      let few = fits r m handle number p f is chunk in
      let n : ℕ = length (answer_bytes r p m f) in
      let whole : goes_large p (answer_bytes r p m f) ≡ false =
      ap (λ (b : Bool). sizes_are_known p.phase && b) (le-ltb (place_terms p).common.to_requester.transfer (bytes_round p.at + n) (omega (arith, few))) ∙ and-false (sizes_are_known p.phase) in
      false≢true (sym (ap (λ (b : Bool). is_some (handle_in (effect_of (request_at p m) m (answer_bytes r p m f) (cond b (Some f.handle) None)))) whole ∙ small_of (request_at p m)) ∙ large)
    where
      small_of : (o : Option RequestMessage) → is_some (handle_in (effect_of o m (answer_bytes r p m f) None)) ≡ false
      small_of None = refl
      small_of (Some q) = refl

  by_request : (q : RequestMessage) → refusal r p m f ≡ None → request_at p m ≡ Some q → is_some (handle_in (request_effect r p m f)) ≡ true → (code_for q == GET_MEASUREMENTS) ≡ true
  by_request (GetMeasurements op) none is large = refl
  by_request GetVersion none is large = absurd (not_here GetVersion none is refl)
  by_request (GetCapabilities caps) none is large = absurd (not_here (GetCapabilities caps) none is refl)
  by_request (NegotiateAlgorithms offer) none is large = absurd (not_here (NegotiateAlgorithms offer) none is refl)
  by_request (PskExchange x) none is large = absurd (not_here (PskExchange x) none is refl)
  by_request (PskFinish verify) none is large = absurd (short_one (PskFinish verify) none is (omega arith) large)
  by_request Heartbeat none is large = absurd (short_one Heartbeat none is (omega arith) large)
  by_request (KeyUpdate op tag) none is large = absurd (short_one (KeyUpdate op tag) none is (omega arith) large)
  by_request EndSession none is large = absurd (short_one EndSession none is (omega arith) large)
  by_request (ChunkSend c) none is large = absurd (no_chunk r s m f c is none)
  by_request (ChunkGet handle number) none is large = absurd (small_get handle number none is large)

  message_by : (o : Option ErrorCode) (c : Option ChunkMessage) → refusal r p m f ≡ o → chunk_in (request_at p m) ≡ c → is_some (handle_in (turn_by r p m f o c).effect) ≡ true → takes GET_MEASUREMENTS (turn_by r p m f o c) ≡ true
  message_by (Some e) c is asks large = absurd (false≢true large)
  message_by None (Some c) is asks large = absurd (no_chunk r s m f c (chunk_is (request_at p m) c asks) is)
  message_by None None is asks large =
      let one = reads_request r p m f is in
      ap (λ (o : Option RequestMessage). code_in (effect_of o m (answer_bytes r p m f) (cond (goes_large p (answer_bytes r p m f)) (Some f.handle) None)) == GET_MEASUREMENTS) one.1 ∙ by_request one.0 is one.1 large

  message_measures : is_some (handle_in (turn_of r p m f).effect) ≡ true → takes GET_MEASUREMENTS (turn_of r p m f) ≡ true
  unfolding turn_of
  message_measures large = message_by (refusal r p m f) (chunk_in (request_at p m)) refl refl large

turn_measures_by : (r : RspSetup) (s : Events) (inner : List ℕ) (f : Free) (o : Option ErrorCode) → is_some (handle_in (session_turn_by r s inner f o).effect) ≡ true → takes GET_MEASUREMENTS (session_turn_by r s inner f o) ≡ true
turn_measures_by r s inner f (Some e) large = absurd (false≢true large)
turn_measures_by r s inner f None large = by_type (slice_index inner 0 == 5) large
  where
    by_type : (b : Bool) → let t = cond b (turn_of r (session_place s) (drop 1 inner) f) (data_turn f (drop 1 inner)) in is_some (handle_in t.effect) ≡ true → takes GET_MEASUREMENTS t ≡ true
    by_type true large = message_measures r s (drop 1 inner) f large
    by_type false large = absurd (false≢true large)

turn_measures : (r : RspSetup) (s : Events) (inner : List ℕ) (f : Free) → is_some (handle_in (session_turn r s inner f).effect) ≡ true → takes GET_MEASUREMENTS (session_turn r s inner f) ≡ true
unfolding session_turn
turn_measures r s inner f large = turn_measures_by r s inner f (inner_refusal (stage_of s) inner) large

-- What a request leads to.
large_measures : (r : RspSetup) (h : History) (tag : ℕ) (body : List ℕ) (e : Entry) → MayLeadTo r h tag body (Adds e) → is_large e ≡ true → MeasuresEntry (unseen e)
large_measures r h tag body e may large = by_type (slice_index body 0 == 5) refl
  where
    by_type : (b : Bool) → (slice_index body 0 == 5) ≡ b → MeasuresEntry (unseen e)
    by_type true is =
        let led = led_clear r h tag body (Adds e) is may in
        elim (clear_form r h tag (drop 1 body) led.free (Adds e) led.leads) [
          | inl same ↦ absurd (let x = same.1 in cc)
          | inr adds ↦
              let t : Turn = turn_of r (clear_place h) (drop 1 body) led.free in
              let same : Clear tag t no_draw ≡ e = cc (sym adds) in
              subst (λ (x : Entry). MeasuresEntry (unseen x)) same tt
        ]
    by_type false is =
        let led = led_record r h tag body (Adds e) is may in
        let s : Events = session_of (id_in_record (drop 1 body)) h in
        let t : Turn = session_turn r s (opened r.psk s (drop 1 body)) led.free in
        let same = record_added r led.free tag (drop 1 body) e h led.leads in
        subst (λ (x : Entry). MeasuresEntry (unseen x)) same
        (λ goes. takes_with [] None GET_MEASUREMENTS t ∙ turn_measures r s (opened r.psk s (drop 1 body)) led.free (ap is_large same ∙ large))

-- ---- Entries that were seen.

whole_measures : (e : Entry) → is_unseen e ≡ false → is_large e ≡ false → MeasuresEntry e
whole_measures (Clear tag t d) seen small = tt
whole_measures (Sealed tag m t reply d) seen small = λ goes. absurd (false≢true (sym (ap (λ (b : Bool). b || is_some (handle_in t.effect)) seen ∙ small) ∙ goes))
whole_measures (Queued bytes) seen small = tt
whole_measures (Ticked seconds) seen small = tt
whole_measures (Dropped id) seen small = tt

given_entry : (place : Option ℕ) (w : List ℕ) (e : Entry) → is_unseen_in place e ≡ true → MeasuresEntry e → MeasuresEntry (seen w e)
given_entry place w (Clear tag t d) is measures = tt
given_entry place w (Sealed tag m t reply d) is measures = λ goes.
    takes_with w (Some (handle_shown t)) GET_MEASUREMENTS t ∙ measures (ap (λ (b : Bool). b || is_some (handle_in t.effect)) (and_second (is_in place (Sealed tag m t reply d)) _ is))
given_entry place w (Queued bytes) is measures = tt
given_entry place w (Ticked seconds) is measures = tt
given_entry place w (Dropped id) is measures = tt

dropped_measures : (ids : List ℕ) (h : History) → Measures h → Measures (with_dropped h ids)
dropped_measures [] h measures = measures
dropped_measures (id ∷ ids) h measures = dropped_measures ids (Dropped id ∷ h) (tt, measures)

pub given_measures : (place : Option ℕ) (w : List ℕ) (h : History) → Measures h → Measures (with_large place w h)
given_measures place w [] measures = tt
given_measures place w (e ∷ h) measures = by_is (is_unseen_in place e) refl (given_measures place w h measures.1)
  where
    by_is : (b : Bool) → is_unseen_in place e ≡ b → Measures (with_large place w h) → Measures (cond b (seen w e ∷ h) (e ∷ with_large place w h))
    by_is true is rest = (given_entry place w e is measures.0, measures.1)
    by_is false is rest = (measures.0, rest)

before_measures : (place : Option ℕ) (ids : List ℕ) (h : History) → Measures h → Measures (dropped_before_large place ids h)
before_measures place ids [] measures = tt
before_measures place ids (e ∷ h) measures = by_is (is_unseen_in place e) (before_measures place ids h measures.1)
  where
    by_is : (b : Bool) → Measures (dropped_before_large place ids h) → Measures (cond b (e ∷ with_dropped h ids) (e ∷ dropped_before_large place ids h))
    by_is true rest = (measures.0, dropped_measures ids h measures.1)
    by_is false rest = (measures.0, rest)

after_measures : (r : RspSetup) (k g h : History) (tag : ℕ) (body : List ℕ) (o : Outcome) → MayLeadTo r k tag body o → is_plain g o ≡ true → Measures h → Measures (after h o)
after_measures r k g h tag body (Same b) may plain measures = measures
after_measures r k g h tag body (Unopened b) may plain measures = measures
after_measures r k g h tag body (Adds e) may plain measures = (whole_measures e (led_seen r k tag body e may) (not-true (is_large e) (and_first _ _ plain)), measures)

-- ---- An answer.

answers_measure : (r : RspSetup) (d : Dialogue) (round : Round) (answer : List ℕ) (next : History) (fetching : Option (List ℕ)) → Answers r d round answer next fetching → Measures d.responder → Measures next
unfolding Answers
answers_measure r d round answer next fetching (inl a) measures =
    subst Measures (sym a.0.6)
    (after_measures r (with_dropped (judging d.fetching round.body d.responder) a.0.0) (judging d.fetching round.body d.responder) (with_dropped d.responder a.0.0) round.tag round.body a.0.1 a.0.2.1 a.0.4 (dropped_measures a.0.0 d.responder measures))
answers_measure r d round answer next fetching (inr (inl a)) measures =
    subst Measures (sym a.1.6) (large_measures r (with_dropped (judging d.fetching round.body d.responder) a.1.0) round.tag round.body a.1.1 a.1.2.1 a.1.3, measures)
answers_measure r d round answer next fetching (inr (inr (inl a))) measures = subst Measures (sym a.1.4) measures
answers_measure r d round answer next fetching (inr (inr (inr a))) measures =
    let place : Option ℕ = place_named round.body in
    let g : History = judging d.fetching round.body d.responder in
    subst Measures (sym a.0.8)
    (whole_measures a.0.2 (led_seen r g round.tag round.body a.0.2 a.0.4) (gets_are_small r g round.tag round.body a.0.2 a.0.4 (and_first _ _ a.0.5)), given_measures place a.0.0 (dropped_before_large place a.0.1 d.responder) (before_measures place a.0.1 d.responder measures))

-- ---- A walk.

asks_measure : (d : Dialogue) (g : Gathered) (next : Dialogue) → Measures d.responder → AsksBy d g next → Measures next.responder
asks_measure d (Whole route body) next measures asks = elim asks.2 [
  | inl copies ↦ subst Measures (sym (ap (λ (x : Dialogue). x.responder) copies.4)) measures
  | inr begins ↦ subst Measures (sym (ap (λ (x : Dialogue). x.responder) begins.2.3)) measures
]
asks_measure d More next measures asks = subst (λ (x : Dialogue). Measures x.responder) (sym asks) measures
asks_measure d (Lost cause) next measures asks = absurd asks

replies_measure : (w : Configuration) (d : Dialogue) (g : Gathered) (next : Dialogue) → Measures d.responder → RepliesBy w d g next → Measures next.responder
replies_measure w d (Whole route body) next measures replies =
    let c = replies.2 in
    subst Measures (sym (ap (λ (x : Dialogue). x.responder) c.4.3.2)) (answers_measure (towards w.responder (known_of d.setup)) d c.0 body c.4.0 c.4.1 c.4.2 measures)
replies_measure w d More next measures replies = subst (λ (x : Dialogue). Measures x.responder) (sym replies) measures
replies_measure w d (Lost cause) next measures replies = absurd replies

step_measure : (w : Configuration) (eid : ℕ) (older : List (List ℕ)) (d next : Dialogue) (r : Result PacketFields PacketFault) → Measures d.responder → StepsBy w eid older d next r → Measures next.responder
step_measure w eid older d next (Err fault) measures step = subst (λ (x : Dialogue). Measures x.responder) (sym step) measures
step_measure w eid older d next (Ok p) measures step = by_ends (is_request w.responder.eid eid p) (is_answer w.responder.eid eid p) step
  where
    by_ends : (b c : Bool) → MatchBool b (AsksBy d (gathered_from w.responder.eid eid older p) next) (MatchBool c (RepliesBy w d (gathered_from eid w.responder.eid older p) next) (next ≡ d)) → Measures next.responder
    by_ends true c asks = asks_measure d (gathered_from w.responder.eid eid older p) next measures asks
    by_ends false true replies = replies_measure w d (gathered_from eid w.responder.eid older p) next measures replies
    by_ends false false same = subst (λ (x : Dialogue). Measures x.responder) (sym same) measures

pub walks_measure : (w : Configuration) (q : ReqSetup) (older : List (List ℕ)) (d : Dialogue) → Walks w q older d → Measures d.responder
unfolding StepsTo
walks_measure w q [] d walk = subst (λ (x : Dialogue). Measures x.responder) (sym walk) tt
walks_measure w q (packet ∷ older) d walk = step_measure w q.eid older walk.0 d (parsed packet) (walks_measure w q older walk.0 walk.1) walk.2
