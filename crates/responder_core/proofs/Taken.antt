-- What a request changes that is taken in the clear.
use Rattle.std.proofs.Common.{refl, ◌∙◌, ◌≡◌, ◌≤◌, ◌<◌, ◌+◌, ℕ, List, [], ◌∷◌, true, false, Bool, Option, Some, None, length, ap, sym, subst, arith}
use Rattle.std.proofs.lemmas.Bool.{false≢true, ltb-false, ltb-true}
use Rattle.std.proofs.lemmas.Option.{none-some}
use Rattle.std.specs.Prelude.{◌==◌, ◌&&◌, ◌||◌, if◌then◌else◌, is_none, nat_lt, not, unwrap_or}
use Rattle.negotiate.specs.Capabilities.{common_of}
use Rattle.negotiate.specs.Choosing.{selected}
use Rattle.negotiate.specs.declared.shared.Common.{Common}
use Rattle.responder_rules.specs.LargeAnswer as large_answer
use Rattle.responder_machine.proofs.Codes.{asked-code}
use Rattle.responder_machine.proofs.Tests.{contents_shown, tests_are_false}
use Rattle.responder_machine.specs.Answer.{Free, answer_bytes, request_at}
use Rattle.responder_machine.specs.Handling.{chunk_in, effect_of, goes_large, handle_for, request_effect}
use Rattle.responder_machine.specs.History.{negotiation_of}
use Rattle.responder_machine.specs.LargeMessages.{large_of, pending_of}
use Rattle.responder_machine.specs.Place.{Place, Where, place_terms}
use Rattle.responder_machine.specs.Place.Where.{InChunks, InClear, InSession}
use Rattle.responder_machine.specs.Refusal.{are_caps_refused, bytes_round, chunk_fault, has_pending, is_misplaced, is_offer_refused, limit_of, phase_allows, refused_form, sizes_are_known, tests_of_form}
use Rattle.responder_machine.specs.Setup.{RspSetup, policy_of, responder_caps}
use Rattle.responder_machine.specs.Turn.{Effect, Turn, answer_in, code_in, handle_in, is_taken, large_in, request_in, takes}
use Rattle.responder_machine.specs.Turn.Effect.{NoEffect, Took}
use Rattle.std.specs.Option.{option_map}
use Rattle.spdm_machine.specs.Terms.{terms_of}
use Rattle.transcript.specs.Transcripts.{Negotiation}
use Rattle.responder_core.proofs.Reached.{unmoved}
use Rattle.responder_core.specs.Negotiating as negotiating
use Rattle.std.specs.Result.{result_ok}
use Rattle.spdm_grammar.specs.Codes.{code_for}
use Rattle.spdm_grammar.specs.Message.{OfferMessage, RequestMessage, request_message}
use Rattle.spdm_grammar.specs.Message.RequestMessage.{ChunkGet, GetCapabilities, GetVersion, NegotiateAlgorithms}
use Rattle.spdm_grammar.specs.declared.messages.capabilities.Caps.{Caps}
use Rattle.spdm_grammar.specs.declared.names.request_code.TheConstants.{CHUNK_GET, GET_CAPABILITIES, GET_VERSION, NEGOTIATE_ALGORITHMS}
use Rattle.spdm_grammar.specs.declared.told.phase.Phase.{Phase}
use Rattle.spdm_grammar.specs.declared.told.phase.Phase.TheVariants.{Capable, Fresh, Negotiated, Versioned}
use Rattle.responder_core.proofs.AnswerLengths.{chunk_fits}
use Rattle.responder_machine.proofs.Settled.{answer_is}
use Rattle.responder_core.proofs.Table.{phase_allowed}
use Rattle.responder_core.specs.Negotiating.{IsSettled, IsSized}
use Rattle.responder_core.specs.Answering.{is_made_here}
use Rattle.responder_core.specs.Refused.{IsClear, chunk_refusal}
use Rattle.spdm_grammar.specs.declared.ChunkView.{ChunkView}
use Rattle.spdm_grammar.specs.declared.messages.exchange.Exchange.{Exchange}
use Rattle.spdm_grammar.specs.declared.messages.request.Request.{Request}
use Rattle.spdm_grammar.specs.declared.messages.request.Request.TheVariants as asked
use Rattle.spdm_grammar.specs.declared.names.TheConstants.{MAX_MESSAGE_SIZE, MIN_DATA_TRANSFER_SIZE}
use Rattle.spdm_basis.proofs.Bools.{and_first, and_second, lt_false}
use Rattle.responder_core.specs.ClearState.{IsSettledAt}
use Rattle.responder_core.specs.Taking.{IsTaking}
use Rattle.spdm_machine.proofs.Settling.{algorithms_keep}

-- ---- In which phase it comes.

in_versioned : (phase : Phase) (pending : Bool) → phase_allows phase pending GET_CAPABILITIES ≡ true → phase ≡ Versioned
in_versioned Fresh pending h = absurd (false≢true h)
in_versioned Versioned pending h = refl
in_versioned Capable pending h = absurd (false≢true h)
in_versioned Negotiated pending h = absurd (false≢true h)

in_capable : (phase : Phase) (pending : Bool) → phase_allows phase pending NEGOTIATE_ALGORITHMS ≡ true → phase ≡ Capable
in_capable Fresh pending h = absurd (false≢true h)
in_capable Versioned pending h = absurd (false≢true h)
in_capable Capable pending h = refl
in_capable Negotiated pending h = absurd (false≢true h)

pub caps_phase : (r : RspSetup) (p : Place) (m : List ℕ) (f : Free) (caps : Caps) (answer : List ℕ) (t : Turn) → IsTaking r p m f (GetCapabilities caps) answer t → p.phase ≡ Versioned
caps_phase r p m f caps answer t taking = in_versioned p.phase (has_pending p) (phase_allowed r p m (GetCapabilities caps) taking.clear taking.form taking.asked_is)

pub offer_phase : (r : RspSetup) (p : Place) (m : List ℕ) (f : Free) (offer : OfferMessage) (answer : List ℕ) (t : Turn) → IsTaking r p m f (NegotiateAlgorithms offer) answer t → p.phase ≡ Capable
offer_phase r p m f offer answer t taking = in_capable p.phase (has_pending p) (phase_allowed r p m (NegotiateAlgorithms offer) taking.clear taking.form taking.asked_is)

-- ---- What it settles.

there_is : {A : Type 0} (x : Option A) → is_none x ≡ false → x ≡ None → ⊥
there_is None h e = false≢true (sym h)
there_is (Some a) h e = none-some a (sym e)

pub caps_agree : (r : RspSetup) (p : Place) (m : List ℕ) (f : Free) (caps : Caps) (answer : List ℕ) (t : Turn) → IsTaking r p m f (GetCapabilities caps) answer t → result_ok (common_of caps (responder_caps r)) ≡ None → ⊥
caps_agree r p m f caps answer t taking =
    there_is (result_ok (common_of caps (responder_caps r))) (sym (ap (are_caps_refused r) taking.asked_is) ∙ contents_shown r p m f taking.refused 1)

pub offer_chosen : (r : RspSetup) (p : Place) (m : List ℕ) (f : Free) (offer : OfferMessage) (answer : List ℕ) (t : Turn) → IsTaking r p m f (NegotiateAlgorithms offer) answer t → selected offer (policy_of r) ≡ None → ⊥
offer_chosen r p m f offer answer t taking =
    there_is (selected offer (policy_of r)) (sym (ap (is_offer_refused r) taking.asked_is) ∙ contents_shown r p m f taking.refused 2)

-- ---- The large answer.

-- An answer that does not be sent in chunks has no handle.
pub no_handle : (p : Place) (f : Free) (answer : List ℕ) → goes_large p answer ≡ false → handle_for p f answer ≡ None
no_handle p f answer small = ap (λ (b : Bool). if b then Some f.handle else None) small

pub a_handle : (p : Place) (f : Free) (answer : List ℕ) → goes_large p answer ≡ true → handle_for p f answer ≡ Some f.handle
a_handle p f answer large = ap (λ (b : Bool). if b then Some f.handle else None) large

-- CHUNK_GET comes in no large request.
not_in_chunks : (at : Where) → is_misplaced at CHUNK_GET ≡ false → bytes_round at ≡ 0
not_in_chunks InClear h = refl
not_in_chunks InChunks h = absurd (false≢true (sym h))
not_in_chunks InSession h = refl

get_round : (r : RspSetup) (p : Place) (m : List ℕ) (handle number : ℕ) → refused_form r p m ≡ None → request_at p m ≡ Some (ChunkGet handle number) → bytes_round p.at ≡ 0
unfolding refused_form
get_round r p m handle number form is = not_in_chunks p.at (ap (is_misplaced p.at) (asked-code p m (ChunkGet handle number) is) ∙ tests_are_false (tests_of_form r p m) form 5)

small_by : (known : Bool) (transfer round : ℕ) (n : ℕ) → (known ≡ true → round + n ≤ transfer) → (known && nat_lt transfer (round + n)) ≡ false
small_by true transfer round n h = lt_false transfer (round + n) (h refl)
small_by false transfer round n h = refl

known_sized : (phase : Phase) (common : Common) → IsSettled phase common → sizes_are_known phase ≡ true → IsSized common
known_sized Fresh common settled known = absurd (false≢true known)
known_sized Versioned common settled known = absurd (false≢true known)
known_sized Capable common settled known = settled
known_sized Negotiated common settled known = settled

-- A chunk of a large response does not be sent in chunks itself.
pub get_small : (r : RspSetup) (p : Place) (m : List ℕ) (f : Free) (handle number : ℕ) (answer : List ℕ) (t : Turn) → IsSettledAt p → IsTaking r p m f (ChunkGet handle number) answer t → goes_large p answer ≡ false
get_small r p m f handle number answer t settled taking =
    small_by (sizes_are_known p.phase) transfer (bytes_round p.at) (length answer) (λ known.
    let sized = known_sized p.phase (place_terms p).common settled.settled known in
    let least = sized.least in
    let fits = chunk_fits transfer handle (unwrap_or (pending_of transfer p.turns) []) number (omega arith) in
    let round = get_round r p m handle number taking.form taking.asked_is in
    let long = ap length (taking.answer_is ∙ answer_is r p m f (ChunkGet handle number) taking.asked_is) in
    omega arith)
  where
    transfer : ℕ
    transfer = (place_terms p).common.to_requester.transfer

pub code_small : (r : RspSetup) (p : Place) (m : List ℕ) (f : Free) (asked : RequestMessage) (answer : List ℕ) (t : Turn) → code_for asked ≡ CHUNK_GET → IsSettledAt p → IsTaking r p m f asked answer t → goes_large p answer ≡ false
code_small r p m f (ChunkGet handle number) answer t code settled taking = get_small r p m f handle number answer t settled taking
code_small r p m f _ answer t code settled taking = absurd (omega arith)

-- The turn takes a request of its code.
pub takes_code : (r : RspSetup) (p : Place) (m : List ℕ) (f : Free) (asked : RequestMessage) (answer : List ℕ) (t : Turn) → IsTaking r p m f asked answer t → (code : ℕ) → takes code t ≡ (code_for asked == code)
takes_code r p m f asked answer t taking code = ap (λ (e : Effect). code_in e == code) taking.effect

pub handle_of_turn : (r : RspSetup) (p : Place) (m : List ℕ) (f : Free) (asked : RequestMessage) (answer : List ℕ) (t : Turn) → IsTaking r p m f asked answer t → goes_large p answer ≡ false → handle_in t.effect ≡ None
handle_of_turn r p m f asked answer t taking small = ap handle_in taking.effect ∙ no_handle p f answer small

-- Nor do VERSION and CAPABILITIES.
round_few : (at : Where) → bytes_round at ≤ 6
round_few InClear = omega arith
round_few InChunks = omega arith
round_few InSession = omega arith

pub short_small : (p : Place) (answer : List ℕ) → IsSettledAt p → length answer ≤ 36 → goes_large p answer ≡ false
short_small p answer settled short =
    small_by (sizes_are_known p.phase) (place_terms p).common.to_requester.transfer (bytes_round p.at) (length answer) (λ known.
    let sized = known_sized p.phase (place_terms p).common settled.settled known in
    let least = sized.least in
    let few = round_few p.at in
    omega arith)

pub version_small : (r : RspSetup) (p : Place) (m : List ℕ) (f : Free) (answer : List ℕ) (t : Turn) → IsSettledAt p → IsTaking r p m f GetVersion answer t → goes_large p answer ≡ false
version_small r p m f answer t settled taking =
    short_small p answer settled (subst (λ (a : List ℕ). length a ≤ 36) (sym (taking.answer_is ∙ answer_is r p m f GetVersion taking.asked_is)) (omega arith))

pub caps_small : (r : RspSetup) (p : Place) (m : List ℕ) (f : Free) (caps : Caps) (answer : List ℕ) (t : Turn) → IsSettledAt p → IsTaking r p m f (GetCapabilities caps) answer t → goes_large p answer ≡ false
caps_small r p m f caps answer t settled taking =
    short_small p answer settled (subst (λ (a : List ℕ). length a ≤ 36) (sym (taking.answer_is ∙ answer_is r p m f (GetCapabilities caps) taking.asked_is)) (omega arith))

-- An answer that is sent in chunks is long for a transfer size of 42 at least.
pub large_sized : (p : Place) (answer : List ℕ) → IsSettledAt p → goes_large p answer ≡ true
    → (MIN_DATA_TRANSFER_SIZE ≤ (place_terms p).common.to_requester.transfer) × ((place_terms p).common.to_requester.transfer < length answer + 16)
large_sized p answer settled large =
    let sized = known_sized p.phase (place_terms p).common settled.settled (and_first (sizes_are_known p.phase) _ large) in
    let few = round_few p.at in
    let long = ltb-true (place_terms p).common.to_requester.transfer (bytes_round p.at + length answer) (and_second (sizes_are_known p.phase) _ large) in
    (sized.least, omega arith)

-- ---- Both parts.

-- Where no answer went in chunks the transfer size does not matter.
any_transfer : (large : large_answer.Seen) (a b : ℕ) (turns : List Turn) → large_of turns ≡ None → large_answer.StandsFor large a turns → large_answer.StandsFor large b turns
any_transfer large a b turns none stands = record {
  left = stands.left ∙ ap (large_answer.left_by a turns) none ∙ ap (large_answer.left_by b turns) (sym none);
  next = stands.next;
}

either_none : {A : Type 0} (taken gets : Bool) (older own : Option A) → taken ≡ true → gets ≡ false → own ≡ None → (if not taken || gets then older else own) ≡ None
either_none taken gets older own x y z = rw (x, y) z

none_large : (turns : List Turn) (t : Turn) → is_taken t ≡ true → takes CHUNK_GET t ≡ false → large_in t.effect ≡ None → large_of (t ∷ turns) ≡ None
none_large turns t taken other none = either_none (is_taken t) (takes CHUNK_GET t) (large_of turns) (large_in t.effect) taken other none

-- What both ends can do stands but for two requests.
common_kept : (turns : List Turn) (t : Turn) → takes GET_VERSION t ≡ false → takes GET_CAPABILITIES t ≡ false → (terms_of (negotiation_of (t ∷ turns))).common ≡ (terms_of (negotiation_of turns)).common
common_kept turns t version capabilities = ap (λ (n : Negotiation). (terms_of n).common) (rest (takes GET_VERSION t) (takes GET_CAPABILITIES t) _ _ _ version capabilities) ∙ by_third (takes NEGOTIATE_ALGORITHMS t)
  where
    rest : {A : Type 0} (a b : Bool) (x y z : A) → a ≡ false → b ≡ false → (if a then x else (if b then y else z)) ≡ z
    rest a b x y z e f = rw (e, f) refl

    by_third : (c : Bool) → (terms_of (if c then record (negotiation_of turns) { negotiate_algorithms = request_in t.effect; algorithms = answer_in t.effect } else negotiation_of turns)).common ≡ (terms_of (negotiation_of turns)).common
    by_third true = algorithms_keep (negotiation_of turns) (request_in t.effect) (answer_in t.effect)
    by_third false = refl

-- The large response goes on in the transfer size that stands after the turn.
abbrev pub IsMoved : (old new : negotiating.Seen) (large : large_answer.Seen) (turns : List Turn) (t : Turn) → Type 0
IsMoved old new large turns t = negotiating.StandsFor old turns → negotiating.StandsFor new (t ∷ turns)
    → large_answer.StandsFor large (terms_of (negotiation_of turns)).common.to_requester.transfer (t ∷ turns) → large_answer.StandsFor large new.common.to_requester.transfer (t ∷ turns)

moved_same : (old new : negotiating.Seen) (large : large_answer.Seen) (turns : List Turn) (t : Turn) → takes GET_VERSION t ≡ false → takes GET_CAPABILITIES t ≡ false → IsMoved old new large turns t
moved_same old new large turns t version capabilities stood stands goes =
    subst (λ (c : Common). large_answer.StandsFor large c.to_requester.transfer (t ∷ turns)) (sym (common_kept turns t version capabilities) ∙ stands.common) goes

moved_anew : (old new : negotiating.Seen) (large : large_answer.Seen) (turns : List Turn) (t : Turn) → large_of (t ∷ turns) ≡ None → IsMoved old new large turns t
moved_anew old new large turns t none stood stands goes = any_transfer large (terms_of (negotiation_of turns)).common.to_requester.transfer new.common.to_requester.transfer (t ∷ turns) none goes

pub moved : (r : RspSetup) (p : Place) (m : List ℕ) (f : Free) (asked : RequestMessage) (answer : List ℕ) (old new : negotiating.Seen) (large : large_answer.Seen) (turns : List Turn) (t : Turn)
    → IsSettledAt p → IsTaking r p m f asked answer t → IsMoved old new large turns t
moved r p m f GetVersion answer old new large turns t settled taking =
    let small = no_handle p f answer (version_small r p m f answer t settled taking) in
    moved_anew old new large turns t (none_large turns t taking.taken (takes_code r p m f GetVersion answer t taking CHUNK_GET) (ap large_in taking.effect ∙ ap (λ (o : Option ℕ). option_map (λ handle. answer) o) small))
moved r p m f (GetCapabilities caps) answer old new large turns t settled taking =
    let small = no_handle p f answer (caps_small r p m f caps answer t settled taking) in
    moved_anew old new large turns t (none_large turns t taking.taken (takes_code r p m f (GetCapabilities caps) answer t taking CHUNK_GET) (ap large_in taking.effect ∙ ap (λ (o : Option ℕ). option_map (λ handle. answer) o) small))
moved r p m f asked answer old new large turns t settled taking =
    moved_same old new large turns t (takes_code r p m f asked answer t taking GET_VERSION) (takes_code r p m f asked answer t taking GET_CAPABILITIES)

pub moved_nothing : (old : negotiating.Seen) (large : large_answer.Seen) (turns : List Turn) (t : Turn) → t.effect ≡ NoEffect → IsMoved old old large turns t
moved_nothing old large turns t nothing =
    moved_same old old large turns t (ap (λ (e : Effect). code_in e == GET_VERSION) nothing) (ap (λ (e : Effect). code_in e == GET_CAPABILITIES) nothing)

-- A turn without effect leaves the negotiation as it was.
pub nothing_unmoved : (seen : negotiating.Seen) (turns : List Turn) (t : Turn) → negotiating.StandsFor seen turns → t.effect ≡ NoEffect → negotiating.StandsFor seen (t ∷ turns)
nothing_unmoved seen turns t stands nothing =
    unmoved seen turns t stands (ap (λ (e : Effect). code_in e == GET_VERSION) nothing) (ap (λ (e : Effect). code_in e == GET_CAPABILITIES) nothing) (ap (λ (e : Effect). code_in e == NEGOTIATE_ALGORITHMS) nothing)

-- ---- A request that is answered.

-- A message is no longer than what its place takes.
limit_few : (r : RspSetup) (at : Where) → IsClear at → r.transfer ≤ r.max → r.max ≤ MAX_MESSAGE_SIZE → limit_of r at ≤ MAX_MESSAGE_SIZE
limit_few r InClear clear ordered most = omega arith
limit_few r InChunks clear ordered most = omega arith
limit_few r InSession clear ordered most = absurd clear

pub message_short : (r : RspSetup) (p : Place) (m : List ℕ) → IsClear p.at → r.transfer ≤ r.max → r.max ≤ MAX_MESSAGE_SIZE → refused_form r p m ≡ None → length m ≤ MAX_MESSAGE_SIZE
unfolding refused_form
message_short r p m clear ordered most form =
    let few = limit_few r p.at clear ordered most in
    let within = ltb-false (limit_of r p.at) (length m) (tests_are_false (tests_of_form r p m) form 1) in
    omega arith

-- The effect of a request with its answer.
pub effect_is : (r : RspSetup) (p : Place) (m : List ℕ) (f : Free) (asked : RequestMessage) (answer : List ℕ) → request_at p m ≡ Some asked → answer ≡ answer_bytes r p m f
    → request_effect r p m f ≡ Took asked m answer (handle_for p f answer)
effect_is r p m f asked answer is answered =
    ap (λ (q : Option RequestMessage). effect_of q m (answer_bytes r p m f) (handle_for p f (answer_bytes r p m f))) is
    ∙ ap (λ (a : List ℕ). Took asked m a (handle_for p f a)) (sym answered)

-- What holds of a request that is neither a chunk nor begins a session.
pub record IsPlain (asked : RequestMessage) : Type 0 where
  pub here : is_made_here asked ≡ true
  pub no_chunk : chunk_in (Some asked) ≡ None
  pub no_fault : (r : RspSetup) (p : Place) → chunk_refusal (chunk_fault r p (Some asked)) ≡ None

pub plain_is : (request : Request) → ((chunk : ChunkView) → request ≡ asked.ChunkSend chunk → ⊥) → ((exchange : Exchange) → request ≡ asked.PskExchange exchange → ⊥) → IsPlain (request_message request)
plain_is (asked.ChunkSend chunk) no_chunk no_exchange = absurd (no_chunk chunk refl)
plain_is (asked.PskExchange exchange) no_chunk no_exchange = absurd (no_exchange exchange refl)
plain_is _ no_chunk no_exchange = record { here = refl; no_chunk = refl; no_fault = λ r p. refl }
