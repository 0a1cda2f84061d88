-- What a message in the clear leaves of what is kept.
use Rattle.std.proofs.Common.{refl, ◌≡◌, ◌∙◌, ◌≤◌, ◌<◌, ◌+◌, ◌++◌, ℕ, List, [], true, false, Bool, Option, Some, None, ap, sym, subst, length, arith}
use Rattle.std.specs.Prelude.{◌==◌, ◌&&◌, if◌then◌else◌, unwrap_or, Result, Ok, Err, OnErr, OnOk}
use Rattle.std.specs.Option.{option_or}
use Rattle.std.specs.Result.{result_ok}
use Rattle.std.proofs.lemmas.List.{append-nil, length-append}
use Rattle.std.proofs.lemmas.Option.{same_Some}
use Rattle.spdm_basis.specs.Sizes.{hash_size}
use Rattle.std.proofs.lemmas.Bool.Decides.{nat_tests}
use Rattle.negotiate.specs.Capabilities.{common_of}
use Rattle.negotiate.specs.Choosing.{agreed, has_large, has_room_for_sha_384, has_small}
use Rattle.negotiate.specs.Offer.{hash_offer, offer_of, offer_tables, pick_bits}
use Rattle.negotiate.specs.declared.shared.Common.{Common}
use Rattle.requester_machine.proofs.CapsRead.{common_read}
use Rattle.requester_machine.specs.Answers.{goes_on}
use Rattle.requester_machine.specs.ClearAnswers.{reading_of}
use Rattle.requester_machine.specs.History.{Effect, History, begins_large, connection_terms, larges_of, negotiation_after, negotiation_of, next_tag, phase_after, phase_of, sent_count}
use Rattle.requester_machine.specs.History.Effect.{Answers, Nothing}
use Rattle.requester_machine.specs.Message.{Sent, asked_in}
use Rattle.requester_machine.specs.Message.Content.{Clear}
use Rattle.requester_machine.specs.Sending.{get_sent, piece_of, piece_sent, plain_sent}
use Rattle.requester_machine.specs.Setup.{ReqSetup, requester_caps}
use Rattle.requester_machine.specs.Shown.{blocks_in, blocks_of, bytes_in, last_data}
use Rattle.requester_machine.specs.UnderWay.{HasSizes}
use Rattle.spdm_grammar.proofs.CanonicalRequests.{request_spelled}
use Rattle.spdm_grammar.proofs.Spellings.{spelling_read}
use Rattle.spdm_grammar.specs.Message.{ChunkMessage, MeasuredMessage, OfferMessage, ReplyMessage, RequestMessage, ResponseMessage}
use Rattle.spdm_grammar.specs.Message.RequestMessage.{ChunkGet, ChunkSend, GetCapabilities, GetMeasurements, GetVersion, NegotiateAlgorithms}
use Rattle.spdm_grammar.specs.Message.ResponseMessage.{Algorithms, Capabilities, Measurements}
use Rattle.spdm_grammar.specs.Reading.{field_at, number_at}
use Rattle.spdm_grammar.specs.Requests.{FitsOffer, IsSoundOffer, canonical_request, request_layout}
use Rattle.spdm_grammar.specs.Responses.{response_reading}
use Rattle.spdm_grammar.specs.declared.messages.capabilities.Caps.{Caps}
use Rattle.spdm_grammar.specs.declared.messages.choice.Choice.{Choice}
use Rattle.spdm_grammar.specs.declared.messages.choice.Suites.{Suites}
use Rattle.spdm_grammar.specs.declared.told.event.Event.{Event}
use Rattle.spdm_grammar.specs.declared.names.TheConstants.{MAX_MESSAGE_SIZE}
use Rattle.spdm_grammar.specs.declared.told.phase.Phase.{Phase}
use Rattle.spdm_grammar.specs.declared.told.phase.Phase.TheVariants.{Capable, Negotiated, Versioned}
use Rattle.spdm_machine.specs.Terms.{Terms, hash_len, no_choice, no_negotiation, request_value, response_value, terms_of}
use Rattle.transcript.specs.Transcripts.{Negotiation, vca_of}
use Rattle.requester_core.specs.ReplyOutcome.{Follows, SendsNext, is_no_get}
use Rattle.requester_core.specs.Negotiating as negotiating
use Rattle.requester_core.specs.Negotiating.{IsShort, IsUpTo, IsUpToAsked}
use Rattle.requester_core.specs.Outgoing as outgoing
use Rattle.requester_core.specs.Outgoing.{Sends, tag_after}
use Rattle.requester_core.specs.ClearState.{Seen, Shows}
use Rattle.requester_core.specs.Outstanding.{kind_of, waiting_of}
use Rattle.requester_core.specs.declared.clear.outstanding.PendingRequest.{PendingRequest}
use Rattle.requester_core.specs.declared.clear.outstanding.Outstanding.TheVariants as waits
use Rattle.requester_core.specs.declared.clear.outstanding.TransferMode.{TransferMode}
use Rattle.requester_core.specs.declared.clear.outstanding.TransferMode.TheVariants as modes
use Rattle.requester_machine.proofs.ResponseLengths.{measured_value}
use Rattle.requester_core.proofs.Started.{sends_shown}
use Rattle.spdm_machine.proofs.Settling.{algorithms_keep, capabilities_keep, choice_by, with_algorithms, with_capabilities}

-- ---- Messages that are sent.

-- A message is sent that begins no large request.
pub record Small (x : Sent) (h : History) (request : RequestMessage) (mode : TransferMode) (out : List ℕ) : Type 0 where
  pub tag : x.tag ≡ next_tag h
  pub waits : (tag : ℕ) → waits.InClear tag (kind_of request) mode ≡ waiting_of (Some (record x { tag = tag }))
  pub content : x.content ≡ Clear out
  pub begins : begins_large x.aim ≡ false

pub small_sends : (x : Sent) (h : History) (request : RequestMessage) (asked : PendingRequest) (mode : TransferMode) (old new : outgoing.Seen) (tag : ℕ) (out : List ℕ) → Small x h request mode out → kind_of request ≡ asked → old.tag ≡ next_tag h
    → tag ≡ old.tag → new ≡ record old { tag = tag_after old.tag; waiting = waits.InClear old.tag asked mode } → Sends x old new tag out
small_sends x h request asked mode old new tag out small kind was is sends = record {
  tag_is = small.tag ∙ sym was ∙ sym is;
  content = small.content;
  tags = ap (λ (s : outgoing.Seen). s.tag) sends;
  handles = ap (λ (s : outgoing.Seen). s.handle) sends ∙ sym (ap (λ (b : Bool). if b then outgoing.handle_after old.handle else old.handle) small.begins);
  waiting = ap (λ (s : outgoing.Seen). s.waiting) sends ∙ ap (λ (k : PendingRequest). waits.InClear old.tag k mode) (sym kind) ∙ small.waits old.tag ∙ ap (λ (n : ℕ). waiting_of (Some (record x { tag = n }))) (was ∙ sym small.tag);
  request = ap (λ (s : outgoing.Seen). s.request) sends;
}

pub plain_small : (h : History) (request : RequestMessage) → Small (plain_sent h request) h request modes.Whole (canonical_request request)
plain_small h request = record { tag = refl; waits = λ tag. refl; content = refl; begins = refl }

pub get_small : (h : History) (request : RequestMessage) (handle number : ℕ) (before : List ChunkMessage) → Small (get_sent h request handle number before) h request (modes.ForChunk handle number) (canonical_request (ChunkGet handle number))
get_small h request handle number before = record { tag = refl; waits = λ tag. refl; content = refl; begins = refl }

not_first : (n : ℕ) → (n + 1 == 0) ≡ false
not_first n = grind (arith, nat_tests)

pub piece_small : (common : Common) (h : History) (request : RequestMessage) (handle number : ℕ) → Small (piece_sent common h request handle (number + 1)) h request (modes.ByChunks handle (number + 1)) (canonical_request (ChunkSend (piece_of common request handle (number + 1))))
piece_small common h request handle number = record { tag = refl; waits = λ tag. refl; content = refl; begins = not_first number }

-- ---- What is kept with one more message.

-- A message that brings no data.
abbrev pub IsQuiet : History → Effect → Type 0
IsQuiet h effect = unwrap_or (option_or (bytes_in effect) (blocks_in effect)) (last_data h) ≡ last_data h

-- The answer leads to a further message in the clear.
pub next_led : (h : History) (effect : Effect) (x : Sent) (request : RequestMessage) (old : Seen) (negotiated : negotiating.Seen) (sending new : outgoing.Seen) (tag : ℕ) (out : List ℕ)
    → Shows old h → negotiating.StandsFor negotiated (phase_after effect (phase_of h)) (negotiation_after effect (negotiation_of h)) → IsUpTo request (negotiation_after effect (negotiation_of h)) → IsQuiet h effect
    → asked_in x.aim ≡ Some request → sending.tag ≡ old.outgoing.tag → sending.handle ≡ old.outgoing.handle → sending.request ≡ canonical_request request → Sends x sending new tag out
    → SendsNext h (goes_on effect x) x tag (record { negotiating = negotiated; outgoing = new; brought = old.brought }) out
next_led h effect x request old negotiated sending new tag out shows stands up quiet asks tags handles keeps sends = record {
  event = refl;
  next = refl;
  tag_is = sends.tag_is;
  content = sends.content;
  follows = λ its_tag m d. record {
    negotiating = stands;
    outgoing = sends_shown (sent_count h) (larges_of h) tag x request sending new out (tags ∙ shows.outgoing.tag) (handles ∙ shows.outgoing.handle) asks keeps sends;
    up_to = subst (λ (a : Option RequestMessage). IsUpToAsked a (negotiation_after effect (negotiation_of h))) (sym asks) up;
    brought = shows.brought ∙ sym quiet;
  };
}

-- The answer leaves nothing outstanding.
pub rest_follows : (h : History) (effect : Effect) (told : Event) (old : Seen) (negotiated : negotiating.Seen) (new : outgoing.Seen) (brought : List ℕ)
    → Shows old h → negotiating.StandsFor negotiated (phase_after effect (phase_of h)) (negotiation_after effect (negotiation_of h)) → new ≡ record old.outgoing { waiting = waits.Nothing }
    → brought ≡ unwrap_or (option_or (bytes_in effect) (blocks_in effect)) (last_data h)
    → Follows h (record { event = told; effect = effect; next = None }) (record { negotiating = negotiated; outgoing = new; brought = brought })
rest_follows h effect told old negotiated new brought shows stands rests brings = λ tag m d. record {
  negotiating = stands;
  outgoing = record {
    tag = ap (λ (s : outgoing.Seen). s.tag) rests ∙ shows.outgoing.tag;
    handle = ap (λ (s : outgoing.Seen). s.handle) rests ∙ shows.outgoing.handle;
    waiting = ap (λ (s : outgoing.Seen). s.waiting) rests;
    request = tt;
  };
  up_to = tt;
  brought = brings;
}

-- What is added to an empty buffer that it fits into.
pub extended : {U E : Type 0} (r : Result U E) (old new more : List ℕ) → old ≡ [] → OnOk r (new ≡ old ++ more) → OnErr r (MAX_MESSAGE_SIZE < length old + length more) → length more ≤ MAX_MESSAGE_SIZE → new ≡ more
extended (Ok u) old new more none ok full short = ok ∙ ap (λ (x : List ℕ). x ++ more) none
extended (Err e) old new more none ok full short = absurd (omega (arith, full, short, ap (λ (x : List ℕ). length x) none))

-- ---- Measurements.

pub measured_brings : (h : History) (op : ℕ) (answer : List ℕ) (measured : MeasuredMessage) → reading_of h (GetMeasurements op) answer ≡ Ok (Measurements measured)
    → measured.block_bytes ≡ unwrap_or (option_or (bytes_in (Answers (GetMeasurements op) answer)) (blocks_in (Answers (GetMeasurements op) answer))) (last_data h)
measured_brings h op answer measured reads =
    sym (ap (λ (o : Option ResponseMessage). unwrap_or (option_or None (blocks_of o)) (last_data h)) (measured_value (hash_len (connection_terms h)) answer measured reads))

-- ---- Requests.

pub request_no_get : (common : Common) (h : History) (request : RequestMessage) (b : Bool) (handle : ℕ) → is_no_get ((if b then piece_sent common h request handle 0 else plain_sent h request).aim) ≡ true
request_no_get common h request true handle = refl
request_no_get common h request false handle = refl

-- ---- A large answer.

pub large_led : (h : History) (request : RequestMessage) (asked : PendingRequest) (handle tag : ℕ) (old : Seen) (new : outgoing.Seen) (out : List ℕ) → Shows old h → old.outgoing.request ≡ canonical_request request → kind_of request ≡ asked → IsUpTo request (negotiation_of h)
    → tag ≡ old.outgoing.tag → new ≡ record old.outgoing { tag = tag_after old.outgoing.tag; waiting = waits.InClear old.outgoing.tag asked (modes.ForChunk handle 0) } → out ≡ canonical_request (ChunkGet handle 0)
    → SendsNext h (goes_on Nothing (get_sent h request handle 0 [])) (get_sent h request handle 0 []) tag (record { negotiating = old.negotiating; outgoing = new; brought = old.brought }) (canonical_request (ChunkGet handle 0))
large_led h request asked handle tag old new out shows keeps kind up is sends written =
    next_led h Nothing (get_sent h request handle 0 []) request old old.negotiating old.outgoing new tag (canonical_request (ChunkGet handle 0)) shows shows.negotiating up refl refl refl refl keeps
    (small_sends (get_sent h request handle 0 []) h request asked (modes.ForChunk handle 0) old.outgoing new tag (canonical_request (ChunkGet handle 0)) (get_small h request handle 0 []) kind shows.outgoing.tag is sends)

-- ---- VERSION.

version_keeps : (n : Negotiation) (a b : List ℕ) → terms_of (record n { get_version = a; version = b }) ≡ terms_of n
unfolding terms_of
version_keeps n a b = refl

said_first : (a b : List ℕ) → a ++ b ≡ vca_of (record no_negotiation { get_version = a; version = b })
said_first a b = simp append-nil

pub version_up : (n : Negotiation) (a b : List ℕ) → n ≡ no_negotiation → record n { get_version = a; version = b } ≡ record no_negotiation { get_version = a; version = b }
version_up n a b e = ap (λ (x : Negotiation). record x { get_version = a; version = b }) e

pub version_stands : (old new : negotiating.Seen) (p : Phase) (n : Negotiation) (request answer : List ℕ) → negotiating.StandsFor old p n → n ≡ no_negotiation → request ≡ canonical_request GetVersion → length answer ≤ MAX_MESSAGE_SIZE
    → (length old.messages + length request + length answer ≤ 8768 → new ≡ record old { phase = Versioned; messages = old.messages ++ request ++ answer })
    → negotiating.StandsFor new Versioned (record n { get_version = canonical_request GetVersion; version = answer })
version_stands old new p n request answer stands none asks short keeps =
    let empty : old.messages ≡ [] = stands.messages ∙ ap vca_of none in
    let first = ap length empty in
    let asked = ap length asks in
    let said = keeps (omega (arith, first, asked, short)) in
    record {
      phase = sym (ap (λ (s : negotiating.Seen). s.phase) said);
      messages = ap (λ (s : negotiating.Seen). s.messages) said ∙ ap (λ (m : List ℕ). m ++ request ++ answer) empty ∙ ap (λ (m : List ℕ). m ++ answer) asks ∙ said_first (canonical_request GetVersion) answer
          ∙ sym (ap vca_of (version_up n (canonical_request GetVersion) answer none));
      common = ap (λ (t : Terms). t.common) (version_keeps n (canonical_request GetVersion) answer) ∙ stands.common ∙ sym (ap (λ (s : negotiating.Seen). s.common) said);
      choice = ap (λ (t : Terms). t.choice) (version_keeps n (canonical_request GetVersion) answer) ∙ stands.choice ∙ sym (ap (λ (s : negotiating.Seen). s.choice) said);
      short = record {
        get_version = omega arith;
        version = short;
        get_capabilities = stands.short.get_capabilities;
        capabilities = stands.short.capabilities;
        negotiate_algorithms = stands.short.negotiate_algorithms;
        algorithms = stands.short.algorithms;
      };
    }

-- ---- CAPABILITIES.

vca_long : (n : Negotiation) → length (vca_of n) ≡ length n.get_version + length n.version + length n.get_capabilities + length n.capabilities + length n.negotiate_algorithms + length n.algorithms
vca_long n = simp length-append (omega arith)

pub capabilities_stand : (q : ReqSetup) (old new : negotiating.Seen) (p : Phase) (n : Negotiation) (caps theirs : Caps) (common : Common) (len : ℕ) (request answer : List ℕ) → HasSizes q → negotiating.StandsFor old p n
    → n ≡ record no_negotiation { get_version = n.get_version; version = n.version } → caps ≡ requester_caps q → request ≡ canonical_request (GetCapabilities caps) → length answer ≡ 20
    → response_reading len false answer ≡ Ok (Capabilities theirs) → common_of (requester_caps q) theirs ≡ Ok common
    → (length old.messages + length request + length answer ≤ 8768 → new ≡ record old { phase = Capable; messages = old.messages ++ request ++ answer; common = common })
    → negotiating.StandsFor new Capable (record n { get_capabilities = canonical_request (GetCapabilities caps); capabilities = answer })
capabilities_stand q old new p n caps theirs common len request answer sizes stands is own asks long reads shared keeps =
    let first = ap length stands.messages ∙ vca_long n in
    let asked : length request ≡ 20 = ap length asks ∙ omega arith in
    let s = stands.short in
    let a = s.get_version in
    let b = s.version in
    let c = s.get_capabilities in
    let e = s.capabilities in
    let g = s.negotiate_algorithms in
    let i = ap (λ (x : Negotiation). length x.algorithms) is in
    let said = keeps (omega (arith, first, asked, long, a, b, c, e, g, i)) in
    record {
      phase = sym (ap (λ (s : negotiating.Seen). s.phase) said);
      messages = ap (λ (s : negotiating.Seen). s.messages) said ∙ ap (λ (m : List ℕ). old.messages ++ m ++ answer) asks ∙ with_capabilities n old.messages (canonical_request (GetCapabilities caps)) answer is stands.messages;
      common = common_read q (record n { get_capabilities = canonical_request (GetCapabilities caps); capabilities = answer }) len theirs common sizes (ap (λ (x : Caps). canonical_request (GetCapabilities x)) own) reads shared
          ∙ sym (ap (λ (s : negotiating.Seen). s.common) said);
      choice = capabilities_keep n (canonical_request (GetCapabilities caps)) answer ∙ stands.choice ∙ sym (ap (λ (s : negotiating.Seen). s.choice) said);
      short = record {
        get_version = stands.short.get_version;
        version = stands.short.version;
        get_capabilities = omega arith;
        capabilities = omega (arith, long);
        negotiate_algorithms = stands.short.negotiate_algorithms;
        algorithms = stands.short.algorithms;
      };
    }

-- ---- The own offer.

small_bits : (a b : Bool) → (if a then 1 else 0) + (if b then 2 else 0) < 256
small_bits true true = omega arith
small_bits true false = omega arith
small_bits false true = omega arith
small_bits false false = omega arith

-- The offer to a responder of this DataTransferSize, where there is one.
abbrev own : Suites → ℕ → OfferMessage
own suites transfer = record { measurement = 1; other = 2; asym = 0; hash = hash_offer suites.hash transfer; ext_asym = []; ext_hash = []; count = 4; tables = offer_tables (pick_bits suites.aead) }

-- An offer has an encoding of 48 bytes.
pub record IsOwn (offer : OfferMessage) : Type 0 where
  pub reads : IsSoundOffer offer → request_value (canonical_request (NegotiateAlgorithms offer)) ≡ Some (NegotiateAlgorithms offer)
  pub long : length (canonical_request (NegotiateAlgorithms offer)) ≡ 48

own_reads : (offer : OfferMessage) → FitsOffer offer → IsSoundOffer offer → request_value (canonical_request (NegotiateAlgorithms offer)) ≡ Some (NegotiateAlgorithms offer)
own_reads offer fits sound =
    ap result_ok (spelling_read (request_layout 32) 0 (NegotiateAlgorithms offer) (canonical_request (NegotiateAlgorithms offer)) (request_spelled 32 (NegotiateAlgorithms offer) fits sound).is)

own_by : (suites : Suites) (transfer : ℕ) (offer : OfferMessage) (b : Bool) → (hash_offer suites.hash transfer == 0) ≡ b → offer_of suites transfer ≡ Some offer → IsOwn offer
own_by suites transfer offer true e is = absurd (let none : None ≡ Some offer = sym (ap (λ (b : Bool). if b then None else Some (own suites transfer)) e) ∙ is in cc none)
own_by suites transfer offer false e is =
    subst IsOwn (same_Some (own suites transfer) offer (sym (ap (λ (b : Bool). if b then None else Some (own suites transfer)) e) ∙ is)) (record {
      reads = own_reads (own suites transfer) (record { measurement = omega arith; other = omega arith; asym = omega arith; hash = (let a = small_bits (has_small suites.hash) (has_large suites.hash && has_room_for_sha_384 transfer) in omega (arith, a)); count = omega arith });
      long = refl;
    })

pub own_offer_is : (suites : Suites) (transfer : ℕ) (offer : OfferMessage) → offer_of suites transfer ≡ Some offer → IsOwn offer
own_offer_is suites transfer offer is = own_by suites transfer offer (hash_offer suites.hash transfer == 0) refl is

-- ---- ALGORITHMS.

unsettled : (n : Negotiation) → n ≡ record n { negotiate_algorithms = []; algorithms = [] } → (terms_of n).choice ≡ no_choice
unfolding terms_of number_at field_at
unsettled n is = ap (λ (x : Negotiation). (terms_of x).choice) is

pub algorithms_stand : (old new : negotiating.Seen) (p : Phase) (n : Negotiation) (offer : OfferMessage) (reply : ReplyMessage) (choice : Choice) (request answer : List ℕ) → negotiating.StandsFor old p n
    → n ≡ record n { negotiate_algorithms = []; algorithms = [] } → IsOwn offer → IsSoundOffer offer → request ≡ canonical_request (NegotiateAlgorithms offer) → length answer ≤ MAX_MESSAGE_SIZE
    → response_reading (hash_len (terms_of n)) false answer ≡ Ok (Algorithms reply) → agreed offer reply ≡ Some choice
    → (length old.messages + length request + length answer ≤ 8768 → new ≡ record old { phase = Negotiated; messages = old.messages ++ request ++ answer; choice = choice })
    → negotiating.StandsFor new Negotiated (record n { negotiate_algorithms = canonical_request (NegotiateAlgorithms offer); algorithms = answer })
algorithms_stand old new p n offer reply choice request answer stands is own sound asks short reads chooses keeps =
    let first = ap length stands.messages ∙ vca_long n in
    let asked : length request ≡ 48 = ap length asks ∙ own.long in
    let s = stands.short in
    let a = s.get_version in
    let b = s.version in
    let c = s.get_capabilities in
    let e = s.capabilities in
    let g = ap (λ (x : Negotiation). length x.negotiate_algorithms) is in
    let i = ap (λ (x : Negotiation). length x.algorithms) is in
    let said = keeps (omega (arith, first, asked, short, a, b, c, e, g, i)) in
    let value : response_value answer ≡ Some (Algorithms reply) = ap result_ok (ap (λ (x : Choice). response_reading (hash_size x.hash) false answer) (sym (unsettled n is)) ∙ reads) in
    record {
      phase = sym (ap (λ (s : negotiating.Seen). s.phase) said);
      messages = ap (λ (s : negotiating.Seen). s.messages) said ∙ ap (λ (m : List ℕ). old.messages ++ m ++ answer) asks ∙ with_algorithms n old.messages (canonical_request (NegotiateAlgorithms offer)) answer is stands.messages;
      common = algorithms_keep n (canonical_request (NegotiateAlgorithms offer)) answer ∙ stands.common ∙ sym (ap (λ (s : negotiating.Seen). s.common) said);
      choice = choice_by n (canonical_request (NegotiateAlgorithms offer)) answer offer reply choice (own.reads sound) value chooses ∙ sym (ap (λ (s : negotiating.Seen). s.choice) said);
      short = record {
        get_version = stands.short.get_version;
        version = stands.short.version;
        get_capabilities = stands.short.get_capabilities;
        capabilities = stands.short.capabilities;
        negotiate_algorithms = (let long = own.long in omega (arith, long));
        algorithms = short;
      };
    }
