-- A session that a responder begins is sound: its negotiation and PSK_EXCHANGE are what they should be, and the answer ends
-- in the right verify data and holds the number of its draw.
use Rattle.std.proofs.Common.{◌≡◌, ℕ, ◌+◌, ◌-◌, ◌≤◌, List, [], ◌∷◌, ◌++◌, length, take, drop, Bool, true, false, cond, Some, None, is_some, unwrap_or, ◌==◌, ◌&&◌, ◌||◌, refl, sym, ap, ap₂, ◌∙◌, subst, inl, inr, arith, true≢false, length-append, append_assoc, append-nil, drop-drop, replicate}
use Rattle.std.proofs.Math.Seq.{take-append_seam, drop-append_seam}
use Rattle.std.proofs.lemmas.List.{length-take-le}
use Rattle.std.specs.Prelude.{if◌then◌else◌}
use Rattle.std.proofs.lemmas.Slice.Eq.{bytes_eq-Decides}
use Rattle.byteorder.specs.Endian.{little_bytes, little_number}
use Rattle.byteorder.specs.Numbers.{little_number-reads_back}
use Rattle.key_schedule.specs.declared.direction.Direction.TheVariants.{Response}
use Rattle.measurements.specs.Summaries.{hash_of_blocks, summarized}
use Rattle.running_hash.specs.Hash.{hash_of}
use Rattle.spdm_basis.specs.Sizes.{hash_size}
use Rattle.spdm_basis.specs.declared.values.hash_alg.HashAlg.{HashAlg}
use Rattle.spdm_basis.specs.declared.values.hash_alg.HashAlg.TheVariants.{Sha256, Sha384}
use Rattle.spdm_grammar.specs.Fields.{is_summary}
use Rattle.spdm_grammar.specs.Layout.{IsSpelling}
use Rattle.spdm_grammar.specs.Message.{RequestMessage, ExchangeMessage}
use Rattle.spdm_grammar.specs.Message.RequestMessage.{PskExchange}
use Rattle.spdm_grammar.specs.Requests.{IsRequestSpelling, request_layout, request_in, request_body, psk_exchange_layout}
use Rattle.spdm_grammar.specs.Responses.{canonical_response}
use Rattle.spdm_grammar.specs.declared.told.phase.Phase.{Phase}
use Rattle.spdm_grammar.specs.declared.told.phase.Phase.TheVariants.{Fresh, Versioned, Capable, Negotiated}
use Rattle.spdm_grammar.proofs.Spellings.{read_iff}
use Rattle.responder_machine.specs.Answer.{Free, request_at, summary_answer, exchange_rsp, exchange_answer, t1_with}
use Rattle.responder_machine.specs.Does.{IsMade, chosen, clear_chosen}
use Rattle.responder_machine.specs.History.{History, clear_turns, phase_of, negotiation_of}
use Rattle.responder_machine.specs.History.Entry.{Clear, Sealed, Queued, Ticked, Dropped}
use Rattle.spdm_machine.specs.Keys.{Draw, context_of, verify_data}
use Rattle.responder_machine.specs.Place.{Place, place_terms}
use Rattle.responder_machine.specs.Refusal.{phase_allows, has_pending}
use Rattle.responder_machine.specs.ResponderLog.{began_by}
use Rattle.responder_machine.specs.Session.{Event, Events, session_of, is_live, stage_of, session_negotiation, after_tick, when_live, id_in_record, gives_id}
use Rattle.spdm_machine.specs.Sessions.{is_past_handshake}
use Rattle.responder_machine.specs.Session.Event.{Began, Heard, Waited}
use Rattle.responder_machine.specs.Setup.{RspSetup, inventory_of}
use Rattle.spdm_machine.specs.Terms.{terms_of, hash_len}
use Rattle.responder_machine.specs.Turn.{Turn, Effect, code_in, takes, request_in as request_bytes, answer_in}
use Rattle.spdm_grammar.specs.Codes.{code_for}
use Rattle.transcript.specs.Transcripts.{Negotiation, vca_of, without_verify}
use Rattle.spdm_grammar.specs.declared.names.TheConstants.{MIN_DATA_TRANSFER_SIZE}
use Rattle.spdm_agreement.specs.Configured.{IsResponder}
use Rattle.spdm_agreement.specs.Reading.{First}
use Rattle.spdm_agreement.proofs.Messages.RequestCodes.{code_read, second_byte}
use Rattle.spdm_agreement.proofs.Worlds.EndSteps.{IsDraw, DoesWell}
use Rattle.responder_machine.proofs.VerifyLength.{length_blocks, length_verify}
use Rattle.spdm_agreement.proofs.Messages.Beginnings.{reading_of, is_sound_first, is_negotiated, first_hash, transcript_of, answer_verify, context_number, summary_size, answer_context, front_draw}
use Rattle.spdm_agreement.proofs.Responder.ClearTurns.{TakesClear, clear_case}
use Rattle.spdm_agreement.proofs.Responder.Negotiation.{HasVersion, HasCaps, HasAlgorithms, IsKnown, answered, entry_turn, known, common_in}
use Rattle.spdm_agreement.proofs.Responder.Replies.{IsRoomy}
use Rattle.spdm_agreement.proofs.Responder.Bodies.{AreCounted, BeginsWell, clear_turn, does_where}
use Rattle.spdm_grammar.specs.declared.names.request_code.TheConstants.{GET_VERSION, PSK_EXCHANGE, END_SESSION}
use Rattle.spdm_grammar.specs.declared.names.response_code.TheConstants.{PSK_EXCHANGE_RSP}
use Rattle.spdm_grammar.specs.declared.names.spdm_version.TheConstants.{V1_2}
use Rattle.spdm_agreement.specs.Story.{Past, served_first}

-- ---- PSK_EXCHANGE comes where all is negotiated.

begins_known : (p : Phase) (pending : Bool) (n : Negotiation) → phase_allows p pending PSK_EXCHANGE ≡ true → IsKnown p n → HasVersion n × HasCaps n × HasAlgorithms n
begins_known Fresh pending n e k = absurd (true≢false (sym e))
begins_known Versioned pending n e k = absurd (true≢false (sym e))
begins_known Capable pending n e k = absurd (true≢false (sym e))
begins_known Negotiated pending n e k = k

exchange_value : (v : RequestMessage) → (code_for v == PSK_EXCHANGE) ≡ true → (exchange : ExchangeMessage) × (v ≡ PskExchange exchange)
exchange_value (PskExchange exchange) e = (exchange, refl)
exchange_value v e = absurd (true≢false (sym e))

-- What is known of a PSK_EXCHANGE that took effect.
pub record Exchanges (r : RspSetup) (n : Negotiation) (f : Free) (e : Effect) : Type 0 where
  pub place : Place
  pub exchange : ExchangeMessage
  pub negotiation : place.negotiation ≡ n
  pub spelled : request_at place (request_bytes e) ≡ Some (PskExchange exchange)
  pub answer : answer_in e ≡ canonical_response (exchange_answer r place (request_bytes e) f exchange)
  pub version : HasVersion n
  pub caps : HasCaps n
  pub algorithms : HasAlgorithms n

exchanges_by : (r : RspSetup) (n : Negotiation) (p : Phase) (f : Free) (e : Effect) → IsKnown p n → (code_in e == PSK_EXCHANGE) ≡ true → TakesClear r n p f e → Exchanges r n f e
exchanges_by r n p f e k code a =
    let v = exchange_value a.value (sym (ap (λ (e : Effect). code_in e == PSK_EXCHANGE) a.is) ∙ code) in
    let allowed = ap (λ (v : RequestMessage). phase_allows p (has_pending a.place) (code_for v)) (sym v.1) ∙ a.allowed in
    let known = begins_known p (has_pending a.place) n allowed k in
    let spelled : request_at a.place a.request ≡ Some (PskExchange v.0) = a.spelled ∙ ap (λ (v : RequestMessage). Some v) v.1 in
    let request : request_bytes e ≡ a.request = ap request_bytes a.is in
    record {
      place = a.place;
      exchange = v.0;
      negotiation = a.negotiation;
      spelled = ap (request_at a.place) request ∙ spelled;
      answer = ap answer_in a.is ∙ answered r a.place a.request f (PskExchange v.0) spelled ∙ ap (λ (m : List ℕ). canonical_response (exchange_answer r a.place m f v.0)) (sym request);
      version = known.0;
      caps = known.1;
      algorithms = known.2;
    }

exchanges : (r : RspSetup) (h : History) (m : List ℕ) (d : Draw) → IsResponder r → IsMade r h → takes PSK_EXCHANGE (clear_turn r h m d) ≡ true → Exchanges r (negotiation_of (clear_turns h)) (clear_chosen r h d) (clear_turn r h m d).effect
exchanges r h m d setup made code = elim (clear_case r h m (clear_chosen r h d)) [
  | inl is ↦ absurd (true≢false (sym code ∙ ap (λ (e : Effect). code_in e == PSK_EXCHANGE) is))
  | inr a ↦ exchanges_by r (negotiation_of (clear_turns h)) (phase_of (clear_turns h)) (clear_chosen r h d) (clear_turn r h m d).effect (known r h setup made) code a
]

-- ---- Every live session is under such a negotiation.

pub record HasRoom (s : Events) : Type 0 where
  pub room : is_live s ≡ true → MIN_DATA_TRANSFER_SIZE ≤ (common_in (session_negotiation s)).to_requester.transfer

no_session : HasRoom []
no_session = record { room = λ e. absurd (true≢false (sym e)) }

room_ticked : (e : Event) (s : Events) (seconds : ℕ) (a b : Bool) → HasRoom (e ∷ s) → HasRoom (cond a (e ∷ s) (cond b [] (Waited seconds ∷ e ∷ s)))
room_ticked e s seconds true b i = i
room_ticked e s seconds false true i = no_session
room_ticked e s seconds false false i = record { room = λ l. i.room refl }

room_after_tick : (s : Events) (seconds : ℕ) → HasRoom s → HasRoom (after_tick s seconds)
room_after_tick [] seconds i = no_session
room_after_tick (e ∷ s) seconds i = room_ticked e s seconds _ _ i

room_heard : (s : Events) (sealed : List ℕ) (t : Turn) (reply : List ℕ) (b : Bool) → HasRoom s → HasRoom (cond b (cond (takes END_SESSION t) [] (when_live s (Heard sealed t reply))) s)
room_heard s sealed t reply false i = i
room_heard s sealed t reply true i = go (takes END_SESSION t) s i
  where
    go : (c : Bool) (s : Events) → HasRoom s → HasRoom (cond c [] (when_live s (Heard sealed t reply)))
    go true s i = no_session
    go false [] i = no_session
    go false (e ∷ s) i = record { room = λ l. i.room refl }

room_dropped : (s : Events) (b : Bool) → HasRoom s → HasRoom (cond b [] s)
room_dropped s true i = no_session
room_dropped s false i = i

room_cleared : (s : Events) (n : Negotiation) (request answer : List ℕ) (a b c d : Bool) → (b ≡ true → MIN_DATA_TRANSFER_SIZE ≤ (common_in n).to_requester.transfer) → HasRoom s → HasRoom (cond a [] (cond b (cond c (Began n request answer ∷ []) (cond d s [])) s))
room_cleared s n request answer true b c d k i = no_session
room_cleared s n request answer false true true d k i = record { room = λ l. k refl }
room_cleared s n request answer false true false true k i = i
room_cleared s n request answer false true false false k i = no_session
room_cleared s n request answer false false c d k i = i

clear_room : (r : RspSetup) (h : History) (m : List ℕ) (d : Draw) (t : Turn) → IsResponder r → IsMade r h → clear_turn r h m d ≡ t → takes PSK_EXCHANGE t ≡ true → MIN_DATA_TRANSFER_SIZE ≤ (common_in (negotiation_of (clear_turns h))).to_requester.transfer
clear_room r h m d t setup made is code = (exchanges r h m d setup made (ap (takes PSK_EXCHANGE) is ∙ code)).caps.room

rooms : (r : RspSetup) (h : History) → IsResponder r → IsMade r h → (id : ℕ) → HasRoom (session_of id h)
unfolding session_of
rooms r [] setup made id = no_session
rooms r (Clear tag t d ∷ older) setup made id =
    room_cleared (session_of id older) (negotiation_of (clear_turns older)) (request_bytes t.effect) (answer_in t.effect) (takes GET_VERSION t) (takes PSK_EXCHANGE t) (gives_id id (answer_in t.effect)) (is_past_handshake (stage_of (session_of id older)))
    (clear_room r older t.message d t setup made.1 (entry_turn r older tag t d made.0)) (rooms r older setup made.1 id)
rooms r (Sealed tag sealed t reply d ∷ older) setup made id = room_heard (session_of id older) sealed t reply (id_in_record sealed == id) (rooms r older setup made.1 id)
rooms r (Queued bytes ∷ older) setup made id = rooms r older setup made.2 id
rooms r (Ticked seconds ∷ older) setup made id = room_after_tick (session_of id older) seconds (rooms r older setup made id)
rooms r (Dropped which ∷ older) setup made id = absurd made

roomy : (s : Events) → HasRoom s → is_live s ≡ true → IsRoomy s
unfolding terms_of
roomy s i l = let k = i.room l in omega arith

-- ---- The answer: what stands before the verify data, and these.

abbrev pub fields_of : RspSetup → Place → Free → ExchangeMessage → List ℕ
fields_of r p f exchange = summary_answer r p exchange.summary ++ f.context ++ f.exchange_opaque

abbrev pub front_of : RspSetup → Place → Free → ExchangeMessage → List ℕ
front_of r p f exchange = canonical_response (exchange_rsp r p f exchange [])

abbrev pub own_verify : RspSetup → Place → List ℕ → Free → ExchangeMessage → List ℕ
own_verify r p m f exchange = verify_data (place_terms p).choice r.psk (t1_with r p m f exchange) Response (t1_with r p m f exchange)

pub answer_parts : (r : RspSetup) (p : Place) (f : Free) (exchange : ExchangeMessage) (v : List ℕ) → canonical_response (exchange_rsp r p f exchange v) ≡ front_of r p f exchange ++ v
answer_parts r p f exchange v =
    let heartbeat = if (place_terms p).common.heartbeat then r.beat else 0 in
    ap (λ (l : List ℕ). (V1_2 ∷ PSK_EXCHANGE_RSP ∷ heartbeat ∷ 0 ∷ []) ++ little_bytes 2 f.id ++ (0 ∷ 0 ∷ []) ++ little_bytes 2 (length f.context) ++ little_bytes 2 (length f.exchange_opaque) ++ (l ++ v)) (sym (append-nil (fields_of r p f exchange)))

pub before_verify : (hash : HashAlg) (front v : List ℕ) → length v ≡ hash_size hash → without_verify (hash_of hash) (front ++ v) ≡ front
before_verify hash front v long =
    let size : length (front ++ v) - hash_size hash ≡ length front = omega (arith, length-append front v) in
    ap (λ (n : ℕ). take n (front ++ v)) size ∙ take-append_seam front v

-- ---- It is sound.

pub both_hold : (a b : Bool) → a ≡ true → b ≡ true → (a && b) ≡ true
both_hold a b e f = ap₂ (λ (x y : Bool). x && y) e f

negotiated : (n : Negotiation) → HasVersion n → HasCaps n → HasAlgorithms n → is_negotiated n ≡ true
negotiated n v c a =
    both_hold _ _ v.request (both_hold _ _ v.answer (both_hold _ _ c.request (both_hold _ _ c.answer (both_hold _ _ a.request a.answer))))

abbrev first_of : Place → List ℕ → List ℕ → First
first_of p m a = record { negotiation = p.negotiation; exchange = m; answer = a }

ends_well : (r : RspSetup) (p : Place) (m a : List ℕ) (f : Free) (exchange : ExchangeMessage) → a ≡ canonical_response (exchange_answer r p m f exchange)
    → a ≡ without_verify (first_hash (first_of p m a)) a ++ answer_verify r.psk (first_of p m a)
ends_well r p m a f exchange is =
    let v = own_verify r p m f exchange in
    let front = front_of r p f exchange in
    let hash = (place_terms p).choice.hash in
    let parts : a ≡ front ++ v = is ∙ answer_parts r p f exchange v in
    let front_is : without_verify (hash_of hash) a ≡ front = ap (without_verify (hash_of hash)) parts ∙ before_verify hash front v (length_verify (place_terms p).choice r.psk (t1_with r p m f exchange) Response (t1_with r p m f exchange)) in
    let transcript : transcript_of (first_of p m a) ≡ t1_with r p m f exchange = ap (λ (l : List ℕ). vca_of p.negotiation ++ m ++ l) front_is in
    let verify : answer_verify r.psk (first_of p m a) ≡ v = ap (λ (t : List ℕ). verify_data (place_terms p).choice r.psk t Response t) transcript in
    parts ∙ sym (ap₂ (λ (x y : List ℕ). x ++ y) front_is verify)

sound_first : (r : RspSetup) (p : Place) (m a : List ℕ) (f : Free) (exchange : ExchangeMessage) → HasVersion p.negotiation → HasCaps p.negotiation → HasAlgorithms p.negotiation → request_at p m ≡ Some (PskExchange exchange)
    → a ≡ canonical_response (exchange_answer r p m f exchange) → is_sound_first r.psk (first_of p m a) ≡ true
unfolding is_sound_first
sound_first r p m a f exchange v c g spelled is =
    both_hold _ _ (negotiated p.negotiation v c g) (both_hold _ _ (ap is_some spelled) ((bytes_eq-Decides a (without_verify (first_hash (first_of p m a)) a ++ answer_verify r.psk (first_of p m a))).1 (ends_well r p m a f exchange is)))

-- ---- It holds the number of the draw.

summary_by : (a b c : Bool) (x : List ℕ) (size : ℕ) → (a || b || c) ≡ true → length x ≡ size → length (cond a [] (unwrap_or (cond (b || c) (Some x) None) [])) ≡ cond a 0 size
summary_by true b c x size e long = refl
summary_by false true c x size e long = long
summary_by false false true x size e long = long
summary_by false false false x size e long = absurd (true≢false (sym e))

summary_spelled : (len : ℕ) (exchange : ExchangeMessage) (rest : List ℕ) → IsSpelling (request_body len PSK_EXCHANGE) 2 (PskExchange exchange) rest → is_summary exchange.summary ≡ true
unfolding request_body psk_exchange_layout
summary_spelled len exchange rest s =
    let same : exchange.summary ≡ little_number 1 s.0 = ap summary_in (s.5.4.5.5.5.5.4.4.4.0) in
    subst (λ (n : ℕ). is_summary n ≡ true) (sym same) s.4
  where
    summary_in : RequestMessage → ℕ
    summary_in (PskExchange exchange) = exchange.summary
    summary_in _ = 0

summary_read : (len : ℕ) (m : List ℕ) (exchange : ExchangeMessage) → request_in len m ≡ Some (PskExchange exchange) → is_summary exchange.summary ≡ true
summary_read len m exchange e =
    let s : IsRequestSpelling len (PskExchange exchange) m = (read_iff (request_layout len) (PskExchange exchange) m).0 e in
    let t = s.5 in
    let code : little_number 1 t.0 ≡ PSK_EXCHANGE = sym (second_byte m s.0 t.0 s.1 t.1 s.2 t.2 s.3 t.3) ∙ sym (code_read len m (PskExchange exchange) e) in
    summary_spelled len exchange t.1 (subst (λ (c : ℕ). IsSpelling (request_body len c) 2 (PskExchange exchange) t.1) code t.5)

pub length_summary : (r : RspSetup) (p : Place) (m : List ℕ) (exchange : ExchangeMessage) → request_at p m ≡ Some (PskExchange exchange) → length (summary_answer r p exchange.summary) ≡ summary_size (hash_len (place_terms p)) (Some (PskExchange exchange))
length_summary r p m exchange spelled =
    let k = exchange.summary in
    let hash = (place_terms p).choice.hash in
    summary_by (k == 0) (k == 1) (k == 255) (hash_of_blocks (hash_of hash) (summarized k (inventory_of r))) (hash_size hash) (summary_read (hash_len (place_terms p)) m exchange spelled) (length_blocks hash (summarized k (inventory_of r)))

context_begins : (hash : HashAlg) (d : Draw) (rest : List ℕ) → IsDraw d → context_number hash (context_of hash d ++ rest) ≡ d.number
context_begins Sha256 d rest i =
    let bytes = take 24 d.bytes in
    let long : length bytes ≡ 24 = length-take-le 24 d.bytes (let n = i.bytes in omega arith) in
    ap (λ (l : List ℕ). little_number 8 (drop 24 l)) (append_assoc bytes (little_bytes 8 d.number) rest)
    ∙ ap (λ (n : ℕ). little_number 8 (drop n (bytes ++ (little_bytes 8 d.number ++ rest)))) (sym long)
    ∙ ap (little_number 8) (drop-append_seam bytes (little_bytes 8 d.number ++ rest))
    ∙ little_number-reads_back 8 d.number rest i.number
context_begins Sha384 d rest i =
    let tail = replicate 8 0 ++ rest in
    ap (λ (l : List ℕ). little_number 8 (drop 32 l)) (append_assoc (d.bytes ++ little_bytes 8 d.number) (replicate 8 0) rest ∙ append_assoc d.bytes (little_bytes 8 d.number) tail)
    ∙ ap (λ (n : ℕ). little_number 8 (drop n (d.bytes ++ (little_bytes 8 d.number ++ tail)))) (sym i.bytes)
    ∙ ap (little_number 8) (drop-append_seam d.bytes (little_bytes 8 d.number ++ tail))
    ∙ little_number-reads_back 8 d.number tail i.number

behind_fields : (s c o v : List ℕ) → (s ++ c ++ o) ++ v ≡ s ++ (c ++ (o ++ v))
behind_fields s c o v = simp append_assoc

holds_draw : (r : RspSetup) (p : Place) (m a : List ℕ) (f : Free) (exchange : ExchangeMessage) (d : Draw) → IsDraw d → f.context ≡ context_of (place_terms p).choice.hash d → request_at p m ≡ Some (PskExchange exchange)
    → a ≡ canonical_response (exchange_answer r p m f exchange) → (reading_of r.psk).responder_draw (first_of p m a) ≡ d.number
holds_draw r p m a f exchange d i context spelled is =
    let hash = (place_terms p).choice.hash in
    let v = own_verify r p m f exchange in
    let s = summary_answer r p exchange.summary in
    let rest = f.exchange_opaque ++ v in
    let size : summary_size (hash_len (place_terms p)) (request_at p m) ≡ length s = ap (summary_size (hash_len (place_terms p))) spelled ∙ sym (length_summary r p m exchange spelled) in
    let twelve : drop 12 a ≡ s ++ (f.context ++ rest) = ap (drop 12) is ∙ behind_fields s f.context f.exchange_opaque v in
    let here : answer_context (first_of p m a) ≡ f.context ++ rest =
    ap (λ (n : ℕ). drop (12 + n) a) size ∙ sym (drop-drop (length s) 12 a) ∙ ap (drop (length s)) twelve ∙ drop-append_seam s (f.context ++ rest) in
    ap (context_number hash) (here ∙ ap (λ (l : List ℕ). l ++ rest) context) ∙ context_begins hash d rest i

-- So does what stands before the verify data.
front_holds : (r : RspSetup) (p : Place) (m a : List ℕ) (f : Free) (exchange : ExchangeMessage) (d : Draw) → IsDraw d → f.context ≡ context_of (place_terms p).choice.hash d → request_at p m ≡ Some (PskExchange exchange)
    → a ≡ canonical_response (exchange_answer r p m f exchange) → front_draw (first_of p m a) ≡ d.number
front_holds r p m a f exchange d i context spelled is =
    let hash = (place_terms p).choice.hash in
    let v = own_verify r p m f exchange in
    let s = summary_answer r p exchange.summary in
    let front = front_of r p f exchange in
    let rest = f.exchange_opaque ++ [] in
    let size : summary_size (hash_len (place_terms p)) (request_at p m) ≡ length s = ap (summary_size (hash_len (place_terms p))) spelled ∙ sym (length_summary r p m exchange spelled) in
    let front_is : without_verify (hash_of hash) a ≡ front =
    ap (without_verify (hash_of hash)) (is ∙ answer_parts r p f exchange v) ∙ before_verify hash front v (length_verify (place_terms p).choice r.psk (t1_with r p m f exchange) Response (t1_with r p m f exchange)) in
    let twelve : drop 12 (without_verify (hash_of hash) a) ≡ s ++ (f.context ++ rest) = ap (drop 12) front_is ∙ behind_fields s f.context f.exchange_opaque [] in
    let here : drop (12 + summary_size (hash_len (place_terms p)) (request_at p m)) (without_verify (hash_of hash) a) ≡ f.context ++ rest =
    ap (λ (n : ℕ). drop (12 + n) (without_verify (hash_of hash) a)) size ∙ sym (drop-drop (length s) 12 (without_verify (hash_of hash) a)) ∙ ap (drop (length s)) twelve ∙ drop-append_seam s (f.context ++ rest) in
    ap (context_number hash) (here ∙ ap (λ (l : List ℕ). l ++ rest) context) ∙ context_begins hash d rest i

-- ---- Together.

own_context : (r : RspSetup) (h : History) (d : Draw) → (clear_chosen r h d).context ≡ context_of (terms_of (negotiation_of (clear_turns h))).choice.hash d
unfolding chosen
own_context r h d = refl

pub begins_well : (r : RspSetup) → IsResponder r → BeginsWell r
begins_well r setup = record {
  begins = λ h made m d i code.
      (let n = negotiation_of (clear_turns h) in
      let f = clear_chosen r h d in
      let e = (clear_turn r h m d).effect in
      let x = exchanges r h m d setup made code in
      let place : Negotiation → Place = λ k. record x.place { negotiation = k } in
      let spelled : request_at (place n) (request_bytes e) ≡ Some (PskExchange x.exchange) = subst (λ (k : Negotiation). request_at (place k) (request_bytes e) ≡ Some (PskExchange x.exchange)) x.negotiation x.spelled in
      let answer : answer_in e ≡ canonical_response (exchange_answer r (place n) (request_bytes e) f x.exchange) =
      subst (λ (k : Negotiation). answer_in e ≡ canonical_response (exchange_answer r (place k) (request_bytes e) f x.exchange)) x.negotiation x.answer in (
        sound_first r (place n) (request_bytes e) (answer_in e) f x.exchange x.version x.caps x.algorithms spelled answer,
        holds_draw r (place n) (request_bytes e) (answer_in e) f x.exchange d i (own_context r h d) spelled answer,
      ));
  room = λ h made id live. roomy (session_of id h) (rooms r h setup made id) live;
}

-- A session that begins holds the number of the draw before the verify data.
pub begins_in_front : (r : RspSetup) → IsResponder r → (h : History) → IsMade r h → (m : List ℕ) (d : Draw) → IsDraw d → takes PSK_EXCHANGE (clear_turn r h m d) ≡ true → front_draw (served_first (began_by h (clear_turn r h m d))) ≡ d.number
begins_in_front r setup h made m d i code =
    let n = negotiation_of (clear_turns h) in
    let f = clear_chosen r h d in
    let e = (clear_turn r h m d).effect in
    let x = exchanges r h m d setup made code in
    let place : Negotiation → Place = λ k. record x.place { negotiation = k } in
    let spelled : request_at (place n) (request_bytes e) ≡ Some (PskExchange x.exchange) = subst (λ (k : Negotiation). request_at (place k) (request_bytes e) ≡ Some (PskExchange x.exchange)) x.negotiation x.spelled in
    let answer : answer_in e ≡ canonical_response (exchange_answer r (place n) (request_bytes e) f x.exchange) =
    subst (λ (k : Negotiation). answer_in e ≡ canonical_response (exchange_answer r (place k) (request_bytes e) f x.exchange)) x.negotiation x.answer in
    front_holds r (place n) (request_bytes e) (answer_in e) f x.exchange d i (own_context r h d) spelled answer

-- Whatever a responder does, it does well.
pub does_well : (prior : Past) → DoesWell prior (AreCounted prior)
does_well prior r h asked log tag body d ready = does_where prior r h asked log tag body d (begins_well r ready.setup) ready
