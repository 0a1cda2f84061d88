-- What is known of the negotiation in each phase of a responder: its messages are what they should be, and the requester
-- takes messages of at least 42 bytes.
use Rattle.std.proofs.Common.{◌≡◌, ◌⊎◌, ℕ, ◌≤◌, List, [], ◌∷◌, Bool, true, false, cond, not, Option, Some, None, Ok, Err, is_none, is_some, unwrap_or, ◌==◌, ◌&&◌, ◌||◌, refl, sym, ap, ap₂, ◌∙◌, subst, inl, inr, arith, true≢false, ltb-false}
use Rattle.std.proofs.lemmas.Nat.{and_le_r}
use Rattle.std.specs.Prelude.{nat_lt, if◌then◌else◌}
use Rattle.std.specs.Result.{result_ok}
use Rattle.byteorder.specs.Endian.{little_number}
use Rattle.negotiate.specs.Capabilities.{common_of, shared, psk_is, protects}
use Rattle.negotiate.specs.Choosing.{hash_bit, selected}
use Rattle.negotiate.specs.Reply.{reply_of, answered_kinds, measurement_hash_bit}
use Rattle.negotiate.specs.declared.shared.Common.{Common}
use Rattle.negotiate.proofs.Answered.{are_tables, four_each}
use Rattle.negotiate.proofs.FewKinds.{few_kinds}
use Rattle.spdm_basis.specs.declared.values.hash_alg.HashAlg.{HashAlg}
use Rattle.spdm_basis.specs.declared.values.hash_alg.HashAlg.TheVariants.{Sha256, Sha384}
use Rattle.spdm_grammar.specs.Layout.{Layout, IsSpelling}
use Rattle.spdm_grammar.specs.Message.{RequestMessage, ResponseMessage, OfferMessage}
use Rattle.spdm_grammar.specs.Message.RequestMessage.{GetVersion, GetCapabilities, NegotiateAlgorithms}
use Rattle.spdm_grammar.specs.Message.ResponseMessage.{Capabilities, Algorithms}
use Rattle.spdm_grammar.specs.Requests.{IsRequestSpelling, request_layout, request_in, request_body}
use Rattle.spdm_grammar.specs.Responses.{response_layout, response_in, canonical_response, FitsResponse, FitsReply, IsSoundResponse, IsSoundReply}
use Rattle.spdm_grammar.specs.Fields.{FitsCaps}
use Rattle.spdm_grammar.proofs.CanonicalResponses.{response_spelled}
use Rattle.spdm_grammar.proofs.Spellings.{read_iff}
use Rattle.spdm_grammar.specs.declared.messages.capabilities.Caps.{Caps}
use Rattle.spdm_grammar.specs.declared.messages.choice.Choice.{Choice}
use Rattle.spdm_grammar.specs.declared.messages.part_faults.CapsFault.{CapsFault}
use Rattle.spdm_grammar.specs.declared.messages.part_faults.CapsFault.TheVariants.{SizeTooSmall, SizesCrossed, NoPsk, NoProtection}
use Rattle.spdm_grammar.specs.declared.told.phase.Phase.{Phase}
use Rattle.spdm_grammar.specs.declared.told.phase.Phase.TheVariants.{Fresh, Versioned, Capable, Negotiated}
use Rattle.responder_machine.specs.Answer.{Free, request_at, answer_bytes, answer_to, answer_of, version_answer, algorithms_answer}
use Rattle.responder_machine.specs.Does.{IsMade, clear_does, clear_chosen}
use Rattle.responder_machine.specs.Handling.{turn_of, handle_for}
use Rattle.responder_machine.specs.History.{History, clear_turns, phase_of, negotiation_of, kept_of}
use Rattle.responder_machine.specs.History.Entry.{Clear, Sealed, Queued, Ticked, Dropped}
use Rattle.spdm_machine.specs.Keys.{Draw}
use Rattle.responder_machine.specs.Place.{Place, clear_place, place_terms}
use Rattle.responder_machine.specs.Refusal.{phase_allows, refused_contents, are_caps_refused}
use Rattle.responder_machine.specs.Responder.{on_clear, is_repeat, kept_reply}
use Rattle.spdm_machine.specs.Bodies.{clear_body}
use Rattle.responder_machine.specs.Responder.Outcome.{Same, Adds}
use Rattle.responder_machine.specs.Setup.{RspSetup, responder_caps, policy_of}
use Rattle.spdm_machine.specs.Terms.{hash_len, no_negotiation, no_choice, no_common, request_value, response_value, asked_caps, told_caps, common_from}
use Rattle.responder_machine.specs.Turn.{Turn, Effect, code_in, request_in as request_bytes, answer_in}
use Rattle.spdm_grammar.specs.Codes.{code_for}
use Rattle.responder_machine.specs.Turn.Effect.{NoEffect, Took}
use Rattle.transcript.specs.Transcripts.{Negotiation}
use Rattle.std.proofs.Math.Nat.{le-min}
use Rattle.spdm_grammar.specs.declared.names.TheConstants.{MIN_DATA_TRANSFER_SIZE}
use Rattle.spdm_grammar.specs.declared.names.capability.TheConstants.{MEAS_CAP, PSK_CAP, PSK_CAP_WITH_CONTEXT, HBEAT_CAP, KEY_UPD_CAP, CHUNK_CAP}
use Rattle.spdm_agreement.specs.Configured.{IsResponder}
use Rattle.spdm_agreement.proofs.Messages.RequestCodes.{code_read, second_byte}
use Rattle.spdm_agreement.proofs.Messages.Beginnings.{is_request, is_response, ends_by_itself}
use Rattle.spdm_agreement.proofs.Responder.ClearTurns.{TakesClear, clear_case, contents_fit}
use Rattle.spdm_grammar.specs.declared.names.request_code.TheConstants.{GET_VERSION, GET_CAPABILITIES, NEGOTIATE_ALGORITHMS}

-- ---- A request of the negotiation is read alike under each hash.

read_alike : (len : ℕ) (m : List ℕ) (v : RequestMessage) → request_in len m ≡ Some v → request_body len (code_for v) ≡ request_body 32 (code_for v) → request_in 32 m ≡ Some v
read_alike len m v e alike =
    let s : IsRequestSpelling len v m = (read_iff (request_layout len) v m).0 e in
    let t = s.5 in
    let code : code_for v ≡ little_number 1 t.0 = code_read len m v e ∙ second_byte m s.0 t.0 s.1 t.1 s.2 t.2 s.3 t.3 in
    let body : request_body len (little_number 1 t.0) ≡ request_body 32 (little_number 1 t.0) = subst (λ (c : ℕ). request_body len c ≡ request_body 32 c) code alike in
    (read_iff (request_layout 32) v m).1 (s.0, s.1, s.2, s.3, s.4, (t.0, t.1, t.2, t.3, t.4, subst (λ (l : Layout RequestMessage). IsSpelling l 2 v t.1) body t.5))

version_alike : (len : ℕ) → request_body len GET_VERSION ≡ request_body 32 GET_VERSION
unfolding request_body
version_alike len = refl

caps_alike : (len : ℕ) → request_body len GET_CAPABILITIES ≡ request_body 32 GET_CAPABILITIES
unfolding request_body
caps_alike len = refl

algorithms_alike : (len : ℕ) → request_body len NEGOTIATE_ALGORITHMS ≡ request_body 32 NEGOTIATE_ALGORITHMS
unfolding request_body
algorithms_alike len = refl

-- ---- The answers are read again.

answer_read : (len : ℕ) (v : ResponseMessage) → FitsResponse v → IsSoundResponse len false v → response_in len false (canonical_response v) ≡ Some v
answer_read len v fits sound = (read_iff (response_layout len false) v (canonical_response v)).1 (response_spelled len false v fits sound).is

flag_most : (b : Bool) (n : ℕ) → cond b n 0 ≤ n
flag_most true n = omega arith
flag_most false n = omega arith

pub caps_fit : (r : RspSetup) → IsResponder r → FitsCaps (responder_caps r)
caps_fit r s =
    let a = flag_most r.flags.measure MEAS_CAP in
    let b = flag_most r.flags.heartbeat HBEAT_CAP in
    let c = flag_most r.flags.key_update KEY_UPD_CAP in
    let d = flag_most r.flags.chunk CHUNK_CAP in
    let m = s.sizes.most in
    let o = s.sizes.ordered in
    record { ct = omega arith; flags = omega arith; transfer = omega arith; max = omega arith }

hash_bit_few : (hash : HashAlg) → hash_bit hash ≤ 2
hash_bit_few Sha256 = omega arith
hash_bit_few Sha384 = omega arith

measurement_few : (hash : HashAlg) → measurement_hash_bit hash ≤ 4
measurement_few Sha256 = omega arith
measurement_few Sha384 = omega arith

pub reply_fits : (offer : OfferMessage) (choice : Choice) → FitsReply (reply_of offer choice)
reply_fits offer choice =
    let a = flag_most choice.measure 1 in
    let b = flag_most choice.measure (measurement_hash_bit choice.hash) in
    let c = measurement_few choice.hash in
    let d = hash_bit_few choice.hash in
    let e = and_le_r offer.other 2 in
    let f = few_kinds offer in
    record { measurement = omega arith; other = omega arith; measurement_hash = omega arith; asym = omega arith; hash = omega arith; count = omega arith }

pub reply_sound : (offer : OfferMessage) (choice : Choice) → IsSoundReply (reply_of offer choice)
reply_sound offer choice = record {
  ext_asym = refl;
  ext_asym_few = omega arith;
  ext_hash = refl;
  ext_hash_few = omega arith;
  tables = are_tables choice (answered_kinds offer);
  told = omega (arith, four_each choice (answered_kinds offer), few_kinds offer);
}

-- ---- What is known.

abbrev pub common_in : Negotiation → Common
common_in n = common_from (asked_caps (request_value n.get_capabilities)) (told_caps (response_value n.capabilities))

pub record HasVersion (n : Negotiation) : Type 0 where
  pub request : is_request 32 n.get_version ≡ true
  pub answer : is_response n.version ≡ true

pub record HasCaps (n : Negotiation) : Type 0 where
  pub request : is_request 32 n.get_capabilities ≡ true
  pub answer : is_response n.capabilities ≡ true
  pub room : MIN_DATA_TRANSFER_SIZE ≤ (common_in n).to_requester.transfer

pub record HasAlgorithms (n : Negotiation) : Type 0 where
  pub request : is_request 32 n.negotiate_algorithms ≡ true
  pub answer : is_response n.algorithms ≡ true

abbrev pub IsKnown : Phase → Negotiation → Type 0
IsKnown Fresh n = Unit {0}
IsKnown Versioned n = HasVersion n
IsKnown Capable n = HasVersion n × HasCaps n
IsKnown Negotiated n = HasVersion n × HasCaps n × HasAlgorithms n

-- ---- One turn more.

abbrev phase_with : Effect → Phase → Phase
phase_with e p = if code_in e == GET_VERSION then Versioned else (if code_in e == GET_CAPABILITIES then Capable else (if code_in e == NEGOTIATE_ALGORITHMS then Negotiated else p))

abbrev negotiation_with : Effect → Negotiation → Negotiation
negotiation_with e n =
    if code_in e == GET_VERSION then record no_negotiation { get_version = request_bytes e; version = answer_in e }
    else (if code_in e == GET_CAPABILITIES then record n { get_capabilities = request_bytes e; capabilities = answer_in e }
    else (if code_in e == NEGOTIATE_ALGORITHMS then record n { negotiate_algorithms = request_bytes e; algorithms = answer_in e }
    else n))

-- The bytes of the answer to a request that was read.
pub answered : (r : RspSetup) (p : Place) (m : List ℕ) (f : Free) (v : RequestMessage) → request_at p m ≡ Some v → answer_bytes r p m f ≡ canonical_response (answer_of r p m f v)
unfolding answer_bytes
answered r p m f v is = ap (answer_to r p m f) is

read_response : (bytes : List ℕ) (v : ResponseMessage) → response_in 32 false bytes ≡ Some v → ends_by_itself (Some v) ≡ true → is_response bytes ≡ true
read_response bytes v is e = ap ends_by_itself is ∙ e

room_by : (a b c d e : Bool) (common : Common) (w x y z : CapsFault) → is_none (result_ok (cond (a || b) (Err w) (cond c (Err x) (cond d (Err y) (cond e (Err z) (Ok common)))))) ≡ false
    → (a ≡ false) × (unwrap_or (result_ok (cond (a || b) (Err w) (cond c (Err x) (cond d (Err y) (cond e (Err z) (Ok common)))))) no_common ≡ common)
room_by true b c d e common w x y z h = absurd (true≢false h)
room_by false true c d e common w x y z h = absurd (true≢false h)
room_by false false true d e common w x y z h = absurd (true≢false h)
room_by false false false true e common w x y z h = absurd (true≢false h)
room_by false false false false true common w x y z h = absurd (true≢false h)
room_by false false false false false common w x y z h = (refl, refl)

has_room : (asked told : Caps) → is_none (result_ok (common_of asked told)) ≡ false → MIN_DATA_TRANSFER_SIZE ≤ (unwrap_or (result_ok (common_of asked told)) no_common).to_requester.transfer
has_room asked told e =
    let l = room_by (nat_lt asked.transfer MIN_DATA_TRANSFER_SIZE) (nat_lt told.transfer MIN_DATA_TRANSFER_SIZE) (nat_lt asked.max asked.transfer || nat_lt told.max told.transfer) (not (psk_is PSK_CAP asked.flags && psk_is PSK_CAP_WITH_CONTEXT told.flags)) (not (protects asked.flags && protects told.flags)) (shared asked told) SizeTooSmall SizesCrossed NoPsk NoProtection e in
    subst (λ (c : Common). MIN_DATA_TRANSFER_SIZE ≤ c.to_requester.transfer) (sym l.1) (le-min (ltb-false asked.transfer MIN_DATA_TRANSFER_SIZE l.0) (omega arith))

caps_took : (r : RspSetup) (n : Negotiation) (p : Phase) (pending : Bool) (f : Free) (caps : Caps) (place : Place) (request answer : List ℕ) → IsResponder r → request_at place request ≡ Some (GetCapabilities caps) → phase_allows p pending GET_CAPABILITIES ≡ true
    → refused_contents r place request f ≡ None → answer ≡ canonical_response (Capabilities (responder_caps r)) → IsKnown p n → IsKnown Capable (record n { get_capabilities = request; capabilities = answer })
caps_took r n Fresh pending f caps place request answer setup is allowed contents told known = absurd (true≢false (sym allowed))
caps_took r n Versioned pending f caps place request answer setup is allowed contents told known =
    let asked : request_in 32 request ≡ Some (GetCapabilities caps) = read_alike (hash_len (place_terms place)) request (GetCapabilities caps) is (caps_alike (hash_len (place_terms place))) in
    let mine : response_in 32 false answer ≡ Some (Capabilities (responder_caps r)) = ap (response_in 32 false) told ∙ answer_read 32 (Capabilities (responder_caps r)) (caps_fit r setup) tt in
    let fit : is_none (result_ok (common_of caps (responder_caps r))) ≡ false = sym (ap (are_caps_refused r) is) ∙ (contents_fit r place request f contents).0 in
    let common : common_from (asked_caps (request_in 32 request)) (told_caps (response_in 32 false answer)) ≡ unwrap_or (result_ok (common_of caps (responder_caps r))) no_common =
    ap₂ (λ (a : Option RequestMessage) (b : Option ResponseMessage). common_from (asked_caps a) (told_caps b)) asked mine in (
      record { request = known.request; answer = known.answer },
      record {
        request = ap is_some asked;
        answer = read_response answer (Capabilities (responder_caps r)) mine refl;
        room = subst (λ (c : Common). MIN_DATA_TRANSFER_SIZE ≤ c.to_requester.transfer) (sym common) (has_room caps (responder_caps r) fit);
      },
    )
caps_took r n Capable pending f caps place request answer setup is allowed contents told known = absurd (true≢false (sym allowed))
caps_took r n Negotiated pending f caps place request answer setup is allowed contents told known = absurd (true≢false (sym allowed))

algorithms_took : (r : RspSetup) (n : Negotiation) (p : Phase) (pending : Bool) (offer : OfferMessage) (place : Place) (request answer : List ℕ) → request_at place request ≡ Some (NegotiateAlgorithms offer) → phase_allows p pending NEGOTIATE_ALGORITHMS ≡ true
    → answer ≡ canonical_response (algorithms_answer r offer) → IsKnown p n → IsKnown Negotiated (record n { negotiate_algorithms = request; algorithms = answer })
algorithms_took r n Fresh pending offer place request answer is allowed told known = absurd (true≢false (sym allowed))
algorithms_took r n Versioned pending offer place request answer is allowed told known = absurd (true≢false (sym allowed))
algorithms_took r n Capable pending offer place request answer is allowed told known =
    let asked : request_in 32 request ≡ Some (NegotiateAlgorithms offer) = read_alike (hash_len (place_terms place)) request (NegotiateAlgorithms offer) is (algorithms_alike (hash_len (place_terms place))) in
    let choice = unwrap_or (selected offer (policy_of r)) no_choice in
    let mine : response_in 32 false answer ≡ Some (Algorithms (reply_of offer choice)) = ap (response_in 32 false) told ∙ answer_read 32 (Algorithms (reply_of offer choice)) (reply_fits offer choice) (reply_sound offer choice) in (
      record { request = known.0.request; answer = known.0.answer },
      record { request = known.1.request; answer = known.1.answer; room = known.1.room },
      record { request = ap is_some asked; answer = read_response answer (Algorithms (reply_of offer choice)) mine refl },
    )
algorithms_took r n Negotiated pending offer place request answer is allowed told known = absurd (true≢false (sym allowed))

version_took : (place : Place) (request answer : List ℕ) → request_at place request ≡ Some GetVersion → answer ≡ canonical_response version_answer → HasVersion (record no_negotiation { get_version = request; version = answer })
version_took place request answer is told = record {
  request = ap is_some (read_alike (hash_len (place_terms place)) request GetVersion is (version_alike (hash_len (place_terms place))));
  answer = read_response answer version_answer (ap (response_in 32 false) told ∙ answer_read 32 version_answer tt (refl, (omega arith))) refl;
}

took_known : (r : RspSetup) (n : Negotiation) (p : Phase) (pending : Bool) (f : Free) (v : RequestMessage) (place : Place) (request answer : List ℕ) (large : Option ℕ) → IsResponder r → request_at place request ≡ Some v → phase_allows p pending (code_for v) ≡ true
    → refused_contents r place request f ≡ None → answer ≡ canonical_response (answer_of r place request f v) → IsKnown p n → IsKnown (phase_with (Took v request answer large) p) (negotiation_with (Took v request answer large) n)
took_known r n p pending f GetVersion place request answer large setup is allowed contents told known = version_took place request answer is told
took_known r n p pending f (GetCapabilities caps) place request answer large setup is allowed contents told known = caps_took r n p pending f caps place request answer setup is allowed contents told known
took_known r n p pending f (NegotiateAlgorithms offer) place request answer large setup is allowed contents told known = algorithms_took r n p pending offer place request answer is allowed told known
took_known r n p pending f v place request answer large setup is allowed contents told known = known

turn_known : (r : RspSetup) (n : Negotiation) (p : Phase) (f : Free) (e : Effect) → IsResponder r → (e ≡ NoEffect) ⊎ TakesClear r n p f e → IsKnown p n → IsKnown (phase_with e p) (negotiation_with e n)
turn_known r n p f e setup x known = elim x [
  | inl is ↦ subst (λ (e : Effect). IsKnown (phase_with e p) (negotiation_with e n)) (sym is) known
  | inr a ↦ subst (λ (e : Effect). IsKnown (phase_with e p) (negotiation_with e n)) (sym a.is)
      (took_known r n p _ f a.value a.place a.request (answer_bytes r a.place a.request f) (handle_for a.place f (answer_bytes r a.place a.request f)) setup a.spelled a.allowed a.contents (answered r a.place a.request f a.value a.spelled) known)
]

-- ---- The turn of an entry.

repeat_or : (b : Bool) (body : List ℕ) (tag tag' : ℕ) (s t : Turn) (c d : Draw) → cond b (Same body) (Adds (Clear tag s c)) ≡ Adds (Clear tag' t d) → s ≡ t
repeat_or true body tag tag' s t c d e = absurd (cc)
repeat_or false body tag tag' s t c d e = cc

pub entry_turn : (r : RspSetup) (h : History) (tag : ℕ) (t : Turn) (d : Draw) → clear_does r h tag t.message d ≡ Adds (Clear tag t d) → turn_of r (clear_place h) t.message (clear_chosen r h d) ≡ t
unfolding on_clear
entry_turn r h tag t d e = repeat_or (is_repeat (kept_of h) tag t.message) (clear_body (kept_reply (kept_of h))) tag tag (turn_of r (clear_place h) t.message (clear_chosen r h d)) t d d e

-- What is known of the negotiation of a history that a responder made.
pub known : (r : RspSetup) (h : History) → IsResponder r → IsMade r h → IsKnown (phase_of (clear_turns h)) (negotiation_of (clear_turns h))
known r [] setup made = tt
known r (Clear tag t d ∷ older) setup made =
    let f = clear_chosen r older d in
    subst (λ (t : Turn). IsKnown (phase_of (t ∷ clear_turns older)) (negotiation_of (t ∷ clear_turns older))) (entry_turn r older tag t d made.0)
    (turn_known r (negotiation_of (clear_turns older)) (phase_of (clear_turns older)) f (turn_of r (clear_place older) t.message f).effect setup (clear_case r older t.message f) (known r older setup made.1))
known r (Sealed tag sealed t reply d ∷ older) setup made = known r older setup made.1
known r (Queued bytes ∷ older) setup made = known r older setup made.2
known r (Ticked seconds ∷ older) setup made = known r older setup made
known r (Dropped id ∷ older) setup made = absurd made
