-- A responder as a connect goes on: the three requests are taken one after the other, and answered.
use Rattle.std.proofs.Common.{◌≡◌, ◌∙◌, ℕ, ◌≤◌, ◌+◌, List, ◌∷◌, length, Bool, true, false, nat_lt, Option, Some, None, Result, Ok, ◌==◌, ◌&&◌, ◌||◌, not, is_none, refl, sym, ap, subst, arith}
use Rattle.std.specs.Prelude.{bytes_eq}
use Rattle.std.specs.Result.{result_ok}
use Rattle.std.proofs.lemmas.Bool.{false≢true}
use Rattle.std.proofs.lemmas.Slice.Eq.{bytes_eq-Decides}
use Rattle.negotiate.specs.Capabilities.{common_of}
use Rattle.negotiate.specs.Choosing.{selected}
use Rattle.negotiate.specs.declared.shared.Common.{Common}
use Rattle.spdm_basis.proofs.Bools.{and_second, lt_false}
use Rattle.spdm_grammar.specs.declared.names.TheConstants.{MIN_DATA_TRANSFER_SIZE}
use Rattle.spdm_grammar.specs.Message.{OfferMessage}
use Rattle.spdm_grammar.specs.Message.RequestMessage.{GetVersion, GetCapabilities, NegotiateAlgorithms}
use Rattle.spdm_grammar.specs.Message.ResponseMessage.{Capabilities}
use Rattle.spdm_grammar.specs.Requests.{canonical_request, FitsRequest, IsSoundRequest}
use Rattle.spdm_grammar.specs.Responses.{canonical_response}
use Rattle.spdm_grammar.specs.declared.messages.choice.Choice.{Choice}
use Rattle.spdm_grammar.specs.declared.told.phase.Phase.{Phase}
use Rattle.spdm_grammar.specs.declared.told.phase.Phase.TheVariants.{Fresh, Versioned, Capable, Negotiated}
use Rattle.spdm_grammar.specs.declared.names.request_code.TheConstants.{GET_VERSION, GET_CAPABILITIES, NEGOTIATE_ALGORITHMS}
use Rattle.spdm_machine.specs.Bodies.{clear_body}
use Rattle.spdm_machine.specs.Keys.{Draw}
use Rattle.spdm_machine.specs.Terms.{no_negotiation}
use Rattle.responder_machine.specs.Answer.{Free, version_answer, algorithms_answer}
use Rattle.responder_machine.specs.Does.{clear_does, clear_chosen}
use Rattle.responder_machine.specs.Handling.{turn_of, goes_large}
use Rattle.responder_machine.specs.History.{History, Kept, kept_of, clear_turns, phase_of, negotiation_of}
use Rattle.responder_machine.specs.History.Entry.{Clear}
use Rattle.responder_machine.specs.Place.{Place, clear_place, inside, place_terms}
use Rattle.responder_machine.specs.Refusal.{phase_allows, refusal, sizes_are_known, is_answer_too_long, has_pending}
use Rattle.responder_machine.specs.Responder.{Outcome, on_clear, is_repeat, kept_reply, after, body_of}
use Rattle.responder_machine.specs.Responder.Outcome.{Same, Adds}
use Rattle.responder_machine.specs.Responding.{data_of}
use Rattle.responder_machine.specs.Setup.{RspSetup, responder_caps, policy_of}
use Rattle.responder_machine.specs.Turn.{Turn}
use Rattle.requester_machine.specs.Setup.{ReqSetup, requester_caps}
use Rattle.transcript.specs.Transcripts.{Negotiation}
use Rattle.spdm_progress.proofs.ResponderTurns.{contents_passed, form_passed, not_refused, plainly_taken, taken_turn, taken_at, read_at}

-- ---- The six messages.

abbrev pub get_version : List ℕ
get_version = canonical_request GetVersion

abbrev pub version : List ℕ
version = canonical_response version_answer

abbrev pub get_capabilities : ReqSetup → List ℕ
get_capabilities q = canonical_request (GetCapabilities (requester_caps q))

abbrev pub capabilities : RspSetup → List ℕ
capabilities r = canonical_response (Capabilities (responder_caps r))

abbrev pub negotiate_algorithms : OfferMessage → List ℕ
negotiate_algorithms offer = canonical_request (NegotiateAlgorithms offer)

abbrev pub algorithms : RspSetup → OfferMessage → List ℕ
algorithms r offer = canonical_response (algorithms_answer r offer)

abbrev pub first_pair : Negotiation
first_pair = record no_negotiation { get_version = get_version; version = version }

abbrev pub two_pairs : ReqSetup → RspSetup → Negotiation
two_pairs q r = record first_pair { get_capabilities = get_capabilities q; capabilities = capabilities r }

abbrev pub three_pairs : ReqSetup → RspSetup → OfferMessage → Negotiation
three_pairs q r offer = record (two_pairs q r) { negotiate_algorithms = negotiate_algorithms offer; algorithms = algorithms r offer }

-- ---- What stands after each.

-- The last clear request that was taken is this one.
pub record LastTook (m : List ℕ) (h : History) : Type 0 where
  pub kept : Kept
  pub is : kept_of h ≡ Some kept
  pub message : kept.message ≡ m

pub record Stands (phase : Phase) (n : Negotiation) (m : List ℕ) (h : History) : Type 0 where
  pub phase_is : phase_of (clear_turns h) ≡ phase
  pub negotiation : negotiation_of (clear_turns h) ≡ n
  pub last : LastTook m h

abbrev pub HasVersion : History → Type 0
HasVersion h = Stands Versioned first_pair get_version h

abbrev pub HasCapabilities : ReqSetup → RspSetup → History → Type 0
HasCapabilities q r h = Stands Capable (two_pairs q r) (get_capabilities q) h

abbrev pub HasAlgorithms : ReqSetup → RspSetup → OfferMessage → History → Type 0
HasAlgorithms q r offer h = Stands Negotiated (three_pairs q r offer) (negotiate_algorithms offer) h

-- What a clear request leads to.
pub record Answered (r : RspSetup) (h : History) (tag : ℕ) (m : List ℕ) (d : Draw) (reply : List ℕ) (P : History → Type 0) : Type 0 where
  pub body : body_of (clear_does r h tag m d) ≡ clear_body reply
  pub leaves : P (after h (clear_does r h tag m d))
  pub nothing : data_of (clear_does r h tag m d) ≡ None

-- ---- No repeat.

and_false : (b : Bool) → (b && false) ≡ false
and_false true = refl
and_false false = refl

pub other_message : (h : History) (tag : ℕ) (m n : List ℕ) → LastTook m h → bytes_eq m n ≡ false → is_repeat (kept_of h) tag n ≡ false
other_message h tag m n last differ =
    ap (λ (o : Option Kept). is_repeat o tag n) last.is
    ∙ ap (λ (x : List ℕ). last.kept.tag == tag && bytes_eq x n) last.message
    ∙ ap (λ (b : Bool). last.kept.tag == tag && b) differ
    ∙ and_false (last.kept.tag == tag)

pub adds : (r : RspSetup) (h : History) (tag : ℕ) (m : List ℕ) (d : Draw) (t : Turn) → is_repeat (kept_of h) tag m ≡ false → turn_of r (clear_place h) m (clear_chosen r h d) ≡ t → clear_does r h tag m d ≡ Adds (Clear tag t d)
unfolding on_clear
adds r h tag m d t new is = rw (new, is) refl

pub answers_by : (r : RspSetup) (h : History) (tag : ℕ) (m : List ℕ) (d : Draw) (t : Turn) (P : History → Type 0) → clear_does r h tag m d ≡ Adds (Clear tag t d) → P (Clear tag t d ∷ h) → Answered r h tag m d t.reply P
answers_by r h tag m d t P is holds = record {
  body = ap body_of is;
  leaves = subst (λ (o : Outcome). P (after h o)) (sym is) holds;
  nothing = ap data_of is;
}

-- ---- An answer that is short enough.

pub both_short : (known chunk : Bool) (max transfer n : ℕ) → (known ≡ true → (n ≤ max) × (n ≤ transfer)) → (known && (nat_lt max n || (not chunk && nat_lt transfer n))) ≡ false
both_short false chunk max transfer n k = refl
both_short true true max transfer n k = rw (lt_false max n (k refl).0) refl
both_short true false max transfer n k = rw (lt_false max n (k refl).0, lt_false transfer n (k refl).1) refl

one_short : (known : Bool) (transfer n : ℕ) → (known ≡ true → n ≤ transfer) → (known && nat_lt transfer n) ≡ false
one_short false transfer n k = refl
one_short true transfer n k = lt_false transfer n (k refl)

pub zero_plus : (n : ℕ) → 0 + n ≡ n
zero_plus n = omega arith

-- What a requester at this place takes.
pub record Takes (p : Place) (n : ℕ) : Type 0 where
  pub both : sizes_are_known p.phase ≡ true → (n ≤ (place_terms p).common.to_requester.max) × (n ≤ (place_terms p).common.to_requester.transfer)

pub not_too_long : (h : History) (answer : List ℕ) → Takes (clear_place h) (length answer) → is_answer_too_long (clear_place h) answer ≡ false
not_too_long h answer k =
    let common = (place_terms (clear_place h)).common in
    ap (λ (n : ℕ). sizes_are_known (phase_of (clear_turns h)) && (nat_lt common.to_requester.max (length answer) || (not common.chunk && nat_lt common.to_requester.transfer n))) (zero_plus (length answer))
    ∙ both_short (sizes_are_known (phase_of (clear_turns h))) common.chunk common.to_requester.max common.to_requester.transfer (length answer) k.both

pub not_large : (h : History) (answer : List ℕ) → Takes (clear_place h) (length answer) → goes_large (clear_place h) answer ≡ false
not_large h answer k =
    let common = (place_terms (clear_place h)).common in
    ap (λ (n : ℕ). sizes_are_known (phase_of (clear_turns h)) && nat_lt common.to_requester.transfer n) (zero_plus (length answer))
    ∙ one_short (sizes_are_known (phase_of (clear_turns h))) common.to_requester.transfer (length answer) (λ known. (k.both known).1)

-- ---- GET_VERSION.

version_allowed : (x : Phase) (pending : Bool) → phase_allows x pending GET_VERSION ≡ true
version_allowed Fresh pending = refl
version_allowed Versioned pending = refl
version_allowed Capable pending = refl
version_allowed Negotiated pending = refl

pub version_turn : (r : RspSetup) (h : History) (f : Free) → MIN_DATA_TRANSFER_SIZE ≤ r.transfer → Takes (clear_place h) 8 → turn_of r (clear_place h) get_version f ≡ taken_turn r (clear_place h) get_version f GetVersion
version_turn r h f room fits =
    taken_at r (clear_place h) get_version f GetVersion (read_at (clear_place h) GetVersion tt tt) refl
    (record {
      long = refl;
      short = lt_false r.transfer 4 (omega arith);
      known = refl;
      outside = refl;
      whole = refl;
      placed = refl;
      allowed = version_allowed (phase_of (clear_turns h)) (has_pending (clear_place h));
      version = refl;
    })
    (record { flags = refl; caps = refl; offer = refl; block = refl; exchange = refl; verify = refl; update = refl; chunk = refl; get = refl; fits = not_too_long h version fits; limit = refl })
    (not_large h version fits)

-- ---- GET_CAPABILITIES.

pub capabilities_turn : (q : ReqSetup) (r : RspSetup) (h : History) (f : Free) (common : Common) → MIN_DATA_TRANSFER_SIZE ≤ r.transfer → FitsRequest (GetCapabilities (requester_caps q)) → common_of (requester_caps q) (responder_caps r) ≡ Ok common → HasVersion h
    → turn_of r (clear_place h) (get_capabilities q) f ≡ taken_turn r (clear_place h) (get_capabilities q) f (GetCapabilities (requester_caps q))
capabilities_turn q r h f common room own go_together has =
    let takes : Takes (clear_place h) (length (capabilities r)) = record { both = λ known. absurd (false≢true (sym (ap sizes_are_known has.phase_is) ∙ known)) } in
    taken_at r (clear_place h) (get_capabilities q) f (GetCapabilities (requester_caps q)) (read_at (clear_place h) (GetCapabilities (requester_caps q)) own tt) refl
    (record {
      long = refl;
      short = lt_false r.transfer 20 (omega arith);
      known = refl;
      outside = refl;
      whole = refl;
      placed = refl;
      allowed = ap (λ (x : Phase). phase_allows x (has_pending (clear_place h)) GET_CAPABILITIES) has.phase_is;
      version = refl;
    })
    (record {
      flags = refl;
      caps = ap (λ (x : Result Common _). is_none (result_ok x)) go_together;
      offer = refl;
      block = refl;
      exchange = refl;
      verify = refl;
      update = refl;
      chunk = refl;
      get = refl;
      fits = not_too_long h (capabilities r) takes;
      limit = refl;
    })
    (not_large h (capabilities r) takes)

-- ---- NEGOTIATE_ALGORITHMS.

-- It is taken, where its answer is not too long.
pub algorithms_taken : (q : ReqSetup) (r : RspSetup) (h : History) (f : Free) (offer : OfferMessage) (choice : Choice) → 4 ≤ length (negotiate_algorithms offer) → length (negotiate_algorithms offer) ≤ r.transfer
    → FitsRequest (NegotiateAlgorithms offer) → IsSoundRequest 32 (NegotiateAlgorithms offer) → selected offer (policy_of r) ≡ Some choice → is_answer_too_long (clear_place h) (algorithms r offer) ≡ false → HasCapabilities q r h
    → refusal r (clear_place h) (negotiate_algorithms offer) f ≡ None
algorithms_taken q r h f offer choice long room own sound chosen fits has =
    let is = read_at (clear_place h) (NegotiateAlgorithms offer) own sound in
    not_refused r (clear_place h) (negotiate_algorithms offer) f
    (form_passed r (clear_place h) (negotiate_algorithms offer) (NegotiateAlgorithms offer) is (record {
      long = lt_false (length (negotiate_algorithms offer)) 4 long;
      short = lt_false r.transfer (length (negotiate_algorithms offer)) room;
      known = refl;
      outside = refl;
      whole = refl;
      placed = refl;
      allowed = ap (λ (x : Phase). phase_allows x (has_pending (clear_place h)) NEGOTIATE_ALGORITHMS) has.phase_is;
      version = refl;
    }))
    (contents_passed r (clear_place h) (negotiate_algorithms offer) f (NegotiateAlgorithms offer) is (record {
      flags = refl;
      caps = refl;
      offer = ap is_none chosen;
      block = refl;
      exchange = refl;
      verify = refl;
      update = refl;
      chunk = refl;
      get = refl;
      fits = fits;
      limit = refl;
    }))

-- So it is inside of its chunks.
pub algorithms_inside : (q : ReqSetup) (r : RspSetup) (h : History) (f : Free) (offer : OfferMessage) (choice : Choice) → 4 ≤ length (negotiate_algorithms offer) → length (negotiate_algorithms offer) ≤ r.max
    → FitsRequest (NegotiateAlgorithms offer) → IsSoundRequest 32 (NegotiateAlgorithms offer) → selected offer (policy_of r) ≡ Some choice → is_answer_too_long (inside (clear_place h)) (algorithms r offer) ≡ false
    → phase_of (clear_turns h) ≡ Capable → refusal r (inside (clear_place h)) (negotiate_algorithms offer) f ≡ None
algorithms_inside q r h f offer choice long room own sound chosen fits phase =
    let p = inside (clear_place h) in
    let is = read_at p (NegotiateAlgorithms offer) own sound in
    not_refused r p (negotiate_algorithms offer) f
    (form_passed r p (negotiate_algorithms offer) (NegotiateAlgorithms offer) is (record {
      long = lt_false (length (negotiate_algorithms offer)) 4 long;
      short = lt_false r.max (length (negotiate_algorithms offer)) room;
      known = refl;
      outside = refl;
      whole = refl;
      placed = refl;
      allowed = ap (λ (x : Phase). phase_allows x (has_pending p) NEGOTIATE_ALGORITHMS) phase;
      version = refl;
    }))
    (contents_passed r p (negotiate_algorithms offer) f (NegotiateAlgorithms offer) is (record {
      flags = refl;
      caps = refl;
      offer = ap is_none chosen;
      block = refl;
      exchange = refl;
      verify = refl;
      update = refl;
      chunk = refl;
      get = refl;
      fits = fits;
      limit = refl;
    }))

pub algorithms_turn : (q : ReqSetup) (r : RspSetup) (h : History) (f : Free) (offer : OfferMessage) (choice : Choice) → 4 ≤ length (negotiate_algorithms offer) → length (negotiate_algorithms offer) ≤ r.transfer
    → FitsRequest (NegotiateAlgorithms offer) → IsSoundRequest 32 (NegotiateAlgorithms offer) → selected offer (policy_of r) ≡ Some choice → Takes (clear_place h) (length (algorithms r offer)) → HasCapabilities q r h
    → turn_of r (clear_place h) (negotiate_algorithms offer) f ≡ taken_turn r (clear_place h) (negotiate_algorithms offer) f (NegotiateAlgorithms offer)
algorithms_turn q r h f offer choice long room own sound chosen takes has =
    plainly_taken r (clear_place h) (negotiate_algorithms offer) f (NegotiateAlgorithms offer) (read_at (clear_place h) (NegotiateAlgorithms offer) own sound) refl
    (algorithms_taken q r h f offer choice long room own sound chosen (not_too_long h (algorithms r offer) takes) has)
    (not_large h (algorithms r offer) takes)

-- ---- Each request as it comes.

-- Where GET_VERSION comes again, it is the last request that was taken.
pub record AwaitsVersion (h : History) : Type 0 where
  pub sized : Takes (clear_place h) 8
  pub again : (k : Kept) → kept_of h ≡ Some k → k.message ≡ get_version → HasVersion h × (k.reply ≡ version)

pub took_version : (r : RspSetup) (h : History) (f : Free) (tag : ℕ) (d : Draw) → HasVersion (Clear tag (taken_turn r (clear_place h) get_version f GetVersion) d ∷ h)
took_version r h f tag d = record { phase_is = refl; negotiation = refl; last = record { kept = record { tag = tag; message = get_version; reply = version }; is = refl; message = refl } }

-- A repeat of the last one is answered from memory.
pub same_by : (r : RspSetup) (h : History) (tag : ℕ) (m : List ℕ) (d : Draw) (k : Kept) → kept_of h ≡ Some k → is_repeat (kept_of h) tag m ≡ true → clear_does r h tag m d ≡ Same (clear_body k.reply)
unfolding on_clear
same_by r h tag m d k is repeats = rw repeats (ap (λ (o : Option Kept). Same (clear_body (kept_reply o))) is)

repeated : (r : RspSetup) (h : History) (tag : ℕ) (d : Draw) → AwaitsVersion h → (o : Option Kept) → kept_of h ≡ o → is_repeat o tag get_version ≡ true → Answered r h tag get_version d version HasVersion
repeated r h tag d awaits None is repeats = absurd (false≢true repeats)
repeated r h tag d awaits (Some k) is repeats =
    let found = awaits.again k is ((bytes_eq-Decides k.message get_version).0 (and_second (k.tag == tag) (bytes_eq k.message get_version) repeats)) in
    let same = same_by r h tag get_version d k is (ap (λ (o : Option Kept). is_repeat o tag get_version) is ∙ repeats) in record {
      body = ap body_of same ∙ ap clear_body found.1;
      leaves = subst (λ (o : Outcome). HasVersion (after h o)) (sym same) found.0;
      nothing = ap data_of same;
    }

version_by : (r : RspSetup) (h : History) (tag : ℕ) (d : Draw) → MIN_DATA_TRANSFER_SIZE ≤ r.transfer → AwaitsVersion h → (b : Bool) → is_repeat (kept_of h) tag get_version ≡ b → Answered r h tag get_version d version HasVersion
version_by r h tag d room awaits true is = repeated r h tag d awaits (kept_of h) refl is
version_by r h tag d room awaits false is =
    answers_by r h tag get_version d (taken_turn r (clear_place h) get_version (clear_chosen r h d) GetVersion) HasVersion
    (adds r h tag get_version d (taken_turn r (clear_place h) get_version (clear_chosen r h d) GetVersion) is (version_turn r h (clear_chosen r h d) room awaits.sized))
    (took_version r h (clear_chosen r h d) tag d)

pub version_answered : (r : RspSetup) (h : History) (tag : ℕ) (d : Draw) → MIN_DATA_TRANSFER_SIZE ≤ r.transfer → AwaitsVersion h → Answered r h tag get_version d version HasVersion
version_answered r h tag d room awaits = version_by r h tag d room awaits (is_repeat (kept_of h) tag get_version) refl

took_capabilities : (q : ReqSetup) (r : RspSetup) (h : History) (f : Free) (tag : ℕ) (d : Draw) → HasVersion h → HasCapabilities q r (Clear tag (taken_turn r (clear_place h) (get_capabilities q) f (GetCapabilities (requester_caps q))) d ∷ h)
took_capabilities q r h f tag d has = record {
  phase_is = refl;
  negotiation = ap (λ (n : Negotiation). record n { get_capabilities = get_capabilities q; capabilities = capabilities r }) has.negotiation;
  last = record { kept = record { tag = tag; message = get_capabilities q; reply = capabilities r }; is = refl; message = refl };
}

pub capabilities_answered : (q : ReqSetup) (r : RspSetup) (h : History) (tag : ℕ) (d : Draw) (common : Common) → MIN_DATA_TRANSFER_SIZE ≤ r.transfer → FitsRequest (GetCapabilities (requester_caps q)) → common_of (requester_caps q) (responder_caps r) ≡ Ok common → HasVersion h
    → Answered r h tag (get_capabilities q) d (capabilities r) (HasCapabilities q r)
capabilities_answered q r h tag d common room own go_together has =
    let f = clear_chosen r h d in
    answers_by r h tag (get_capabilities q) d (taken_turn r (clear_place h) (get_capabilities q) f (GetCapabilities (requester_caps q))) (HasCapabilities q r)
    (adds r h tag (get_capabilities q) d (taken_turn r (clear_place h) (get_capabilities q) f (GetCapabilities (requester_caps q))) (other_message h tag get_version (get_capabilities q) has.last refl) (capabilities_turn q r h f common room own go_together has))
    (took_capabilities q r h f tag d has)

took_algorithms : (q : ReqSetup) (r : RspSetup) (h : History) (f : Free) (offer : OfferMessage) (tag : ℕ) (d : Draw) → HasCapabilities q r h
    → HasAlgorithms q r offer (Clear tag (taken_turn r (clear_place h) (negotiate_algorithms offer) f (NegotiateAlgorithms offer)) d ∷ h)
took_algorithms q r h f offer tag d has = record {
  phase_is = refl;
  negotiation = ap (λ (n : Negotiation). record n { negotiate_algorithms = negotiate_algorithms offer; algorithms = algorithms r offer }) has.negotiation;
  last = record { kept = record { tag = tag; message = negotiate_algorithms offer; reply = algorithms r offer }; is = refl; message = refl };
}

pub algorithms_answered : (q : ReqSetup) (r : RspSetup) (h : History) (tag : ℕ) (d : Draw) (offer : OfferMessage) (choice : Choice) → 4 ≤ length (negotiate_algorithms offer) → length (negotiate_algorithms offer) ≤ r.transfer
    → FitsRequest (NegotiateAlgorithms offer) → IsSoundRequest 32 (NegotiateAlgorithms offer) → selected offer (policy_of r) ≡ Some choice → Takes (clear_place h) (length (algorithms r offer)) → HasCapabilities q r h
    → Answered r h tag (negotiate_algorithms offer) d (algorithms r offer) (HasAlgorithms q r offer)
algorithms_answered q r h tag d offer choice long room own sound chosen takes has =
    let f = clear_chosen r h d in
    answers_by r h tag (negotiate_algorithms offer) d (taken_turn r (clear_place h) (negotiate_algorithms offer) f (NegotiateAlgorithms offer)) (HasAlgorithms q r offer)
    (adds r h tag (negotiate_algorithms offer) d (taken_turn r (clear_place h) (negotiate_algorithms offer) f (NegotiateAlgorithms offer)) (other_message h tag (get_capabilities q) (negotiate_algorithms offer) has.last refl)
    (algorithms_turn q r h f offer choice long room own sound chosen takes has))
    (took_algorithms q r h f offer tag d has)
