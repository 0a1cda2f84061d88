-- What the messages of a negotiation settle.
use Rattle.std.proofs.Common.{refl, ◌∙◌, ◌≡◌, ◌<◌, ◌^◌, ℕ, ◌+◌, List, [], ◌∷◌, true, false, Bool, Option, Some, Result, Err, ap, sym, subst, arith}
use Rattle.std.proofs.lemmas.Nat.{and_le_r}
use Rattle.std.specs.Prelude.{if◌then◌else◌, ◌==◌, take, unwrap_or}
use Rattle.std.specs.Result.{result_ok}
use Rattle.byteorder.specs.Endian.{little_number}
use Rattle.negotiate.proofs.Choices.{choice_is_agreed}
use Rattle.negotiate.proofs.Answered.{are_tables, four_each}
use Rattle.negotiate.proofs.FewKinds.{few_kinds}
use Rattle.negotiate.specs.Capabilities.{common_of}
use Rattle.negotiate.specs.Choosing.{selected, hash_bit}
use Rattle.negotiate.specs.Reply.{reply_of, measurement_hash_bit, answered_kinds}
use Rattle.negotiate.specs.declared.shared.Common.{Common}
use Rattle.spdm_basis.specs.declared.values.hash_alg.HashAlg.{HashAlg}
use Rattle.spdm_basis.specs.declared.values.hash_alg.HashAlg.TheVariants.{Sha256, Sha384}
use Rattle.spdm_grammar.proofs.CanonicalResponses.{response_spelled}
use Rattle.spdm_grammar.proofs.Spellings.{spelling_read}
use Rattle.spdm_grammar.specs.Layout.{Layout}
use Rattle.spdm_grammar.specs.Layout.Layout.{Number}
use Rattle.spdm_grammar.specs.Message.{RequestMessage, ResponseMessage, OfferMessage}
use Rattle.spdm_grammar.specs.Message.RequestMessage.{GetCapabilities, NegotiateAlgorithms}
use Rattle.spdm_grammar.specs.Message.ResponseMessage.{Capabilities, Algorithms}
use Rattle.spdm_grammar.specs.Reading as reading_at
use Rattle.spdm_grammar.specs.Reading.{read, and_then, number_at, field_at}
use Rattle.spdm_grammar.specs.Requests.{request_in, request_body}
use Rattle.spdm_grammar.specs.Codes.{is_request_code}
use Rattle.spdm_grammar.specs.Responses.{response_layout, canonical_response, FitsResponse, IsSoundResponse, FitsReply, IsSoundReply}
use Rattle.spdm_grammar.specs.declared.messages.capabilities.Caps.{Caps}
use Rattle.spdm_grammar.specs.declared.messages.choice.Choice.{Choice}
use Rattle.spdm_grammar.specs.declared.messages.malformed.Malformed.{Malformed}
use Rattle.spdm_grammar.specs.declared.messages.malformed.Part.TheVariants.{Field}
use Rattle.responder_machine.proofs.Codes.{number_at-cons, sized-code, is_version, one_byte}
use Rattle.responder_machine.specs.Answer.{Free, answer_bytes, answer_to, request_at, answer_of}
use Rattle.responder_machine.specs.Place.{Place, place_terms}
use Rattle.responder_machine.specs.Refusal.{code_of}
use Rattle.responder_machine.specs.Setup.{RspSetup, responder_caps, policy_of}
use Rattle.responder_machine.specs.SettledLaws.{CapabilitiesSettleCommon, AlgorithmsSettleChoice}
use Rattle.spdm_machine.specs.Terms.{terms_of, hash_len, request_value, response_value, common_from, asked_caps, told_caps, no_common, no_choice}
use Rattle.transcript.specs.Transcripts.{Negotiation}
use Rattle.spdm_grammar.specs.declared.names.request_code.TheConstants.{GET_CAPABILITIES, NEGOTIATE_ALGORITHMS, PSK_EXCHANGE, PSK_FINISH}
use Rattle.spdm_machine.proofs.Settling.{choice_by}

-- ---- The length of the hash does not tell in most requests.

body_same : (a b code : ℕ) → (code == PSK_EXCHANGE) ≡ false → (code == PSK_FINISH) ≡ false → request_body a code ≡ request_body b code
unfolding request_body
body_same a b code x y = rw (x, y) refl

-- A reading with this layout after the code.
abbrev with_body : ℕ → ℕ → Layout RequestMessage → List ℕ → Result RequestMessage Malformed
with_body version code layout rest =
    if is_version version then (if is_request_code version code then read layout (record { rest = rest; at = 0 + 1 + 1 }) else Err (record { at = 0 + 1; what = Field }))
    else Err (record { at = 0; what = Field })

reading : (size x y : ℕ) (rest : List ℕ)
    → request_in size (x ∷ y ∷ rest) ≡ result_ok (with_body (little_number 1 (take 1 (x ∷ y ∷ rest))) (little_number 1 (take 1 (y ∷ rest))) (request_body size (little_number 1 (take 1 (y ∷ rest)))) rest)
reading size x y rest =
    ap (λ (z : Result (ℕ × reading_at.Place) Malformed). result_ok (and_then z (λ number. if is_version number.0 then read (Number 1 (is_request_code number.0) (λ code. request_body size code)) number.1 else Err (record { at = 0; what = Field })))) (number_at-cons x (y ∷ rest) 0)
    ∙ ap (λ (z : Result (ℕ × reading_at.Place) Malformed). result_ok (if is_version (little_number 1 (take 1 (x ∷ y ∷ rest))) then and_then z (λ number. if is_request_code (little_number 1 (take 1 (x ∷ y ∷ rest))) number.0 then read (request_body size number.0) number.1 else Err (record { at = 0 + 1; what = Field })) else Err (record { at = 0; what = Field }))) (number_at-cons y rest (0 + 1))

pub same_reading : (a b : ℕ) (m : List ℕ) → (code_of m == PSK_EXCHANGE) ≡ false → (code_of m == PSK_FINISH) ≡ false → request_in a m ≡ request_in b m
unfolding number_at field_at
same_reading a b [] x y = refl
same_reading a b (v ∷ []) x y = refl
same_reading a b (v ∷ code ∷ rest) x y =
    reading a v code rest
    ∙ ap (λ (l : Layout RequestMessage). result_ok (with_body (little_number 1 (take 1 (v ∷ code ∷ rest))) (little_number 1 (take 1 (code ∷ rest))) l rest))
    (body_same a b (little_number 1 (take 1 (code ∷ rest))) (subst (λ c. (c == PSK_EXCHANGE) ≡ false) (sym (one_byte code rest)) x) (subst (λ c. (c == PSK_FINISH) ≡ false) (sym (one_byte code rest)) y))
    ∙ sym (reading b v code rest)

-- ---- What is read of the messages that settle.

other_code : (k c code : ℕ) → k ≡ code → (k == c) ≡ false → (code == c) ≡ false
other_code k c code is h = subst (λ n. (n == c) ≡ false) is h

-- A request other than those of the key exchange is read alike without a hash.
value_read : (p : Place) (m : List ℕ) (asked : RequestMessage) (code : ℕ) → request_at p m ≡ Some asked → code ≡ code_of m → (code == PSK_EXCHANGE) ≡ false → (code == PSK_FINISH) ≡ false → request_value m ≡ Some asked
value_read p m asked code is known x y =
    same_reading 32 (hash_len (place_terms p)) m (other_code code PSK_EXCHANGE (code_of m) known x) (other_code code PSK_FINISH (code_of m) known y) ∙ is

told_read : (message : ResponseMessage) → FitsResponse message → IsSoundResponse 32 false message → response_value (canonical_response message) ≡ Some message
told_read message fits sound =
    ap result_ok (spelling_read (response_layout 32 false) 0 message (canonical_response message) (response_spelled 32 false message fits sound).is)

-- The answer to a request.
pub answer_is : (r : RspSetup) (p : Place) (m : List ℕ) (f : Free) (asked : RequestMessage) → request_at p m ≡ Some asked → answer_bytes r p m f ≡ canonical_response (answer_of r p m f asked)
unfolding answer_bytes
answer_is r p m f asked is = ap (answer_to r p m f) is

found_or : {A : Type 0} (x : Option A) (v d : A) → x ≡ Some v → unwrap_or x d ≡ v
found_or x v d is = rw is refl

common_by : (n : Negotiation) (m answer : List ℕ) (caps told : Caps) (common : Common) → request_value m ≡ Some (GetCapabilities caps) → response_value answer ≡ Some (Capabilities told) → result_ok (common_of caps told) ≡ Some common
    → (terms_of (record n { get_capabilities = m; capabilities = answer })).common ≡ common
unfolding terms_of
common_by n m answer caps told common asked answered is =
    ap (λ (q : Option RequestMessage). common_from (asked_caps q) (told_caps (response_value answer))) asked
    ∙ ap (λ (q : Option ResponseMessage). common_from (Some caps) (told_caps q)) answered
    ∙ found_or (result_ok (common_of caps told)) common no_common is

pub common_settled : CapabilitiesSettleCommon
common_settled r p m f caps common n fits is agreed_on =
    common_by n m (answer_bytes r p m f) caps (responder_caps r) common (value_read p m (GetCapabilities caps) GET_CAPABILITIES is (sized-code (hash_len (place_terms p)) m (GetCapabilities caps) is) refl refl)
    (ap response_value (answer_is r p m f (GetCapabilities caps) is) ∙ told_read (Capabilities (responder_caps r)) fits tt) agreed_on

small_bit : (b : Bool) (x : ℕ) → x < 256 → (if b then x else 0) < 256
small_bit true x h = h
small_bit false x h = omega arith

small_hash : (hash : HashAlg) → (measurement_hash_bit hash < 2 ^ 32) × (hash_bit hash < 2 ^ 32)
small_hash Sha256 = (omega arith, omega arith)
small_hash Sha384 = (omega arith, omega arith)

measured_hash : (b : Bool) (hash : HashAlg) → (if b then measurement_hash_bit hash else 0) < 2 ^ 32
measured_hash true hash = (small_hash hash).0
measured_hash false hash = omega arith

reply_fits : (offer : OfferMessage) (choice : Choice) → FitsReply (reply_of offer choice)
reply_fits offer choice = record {
  measurement = small_bit choice.measure 1 (omega arith);
  other = omega (arith, and_le_r offer.other 2);
  measurement_hash = measured_hash choice.measure choice.hash;
  asym = omega arith;
  hash = (small_hash choice.hash).1;
  count = omega (arith, few_kinds offer);
}

reply_sound : (offer : OfferMessage) (choice : Choice) → IsSoundReply (reply_of offer choice)
reply_sound offer choice = record {
  ext_asym = refl;
  ext_asym_few = omega arith;
  ext_hash = refl;
  ext_hash_few = omega arith;
  tables = are_tables choice (answered_kinds offer);
  told = omega (arith, four_each choice (answered_kinds offer), few_kinds offer);
}

reply_chosen : (r : RspSetup) (p : Place) (m : List ℕ) (f : Free) (offer : OfferMessage) (choice : Choice) → request_at p m ≡ Some (NegotiateAlgorithms offer) → selected offer (policy_of r) ≡ Some choice
    → answer_bytes r p m f ≡ canonical_response (Algorithms (reply_of offer choice))
reply_chosen r p m f offer choice is chosen =
    answer_is r p m f (NegotiateAlgorithms offer) is
    ∙ ap (λ (c : Choice). canonical_response (Algorithms (reply_of offer c))) (found_or (selected offer (policy_of r)) choice no_choice chosen)

pub choice_settled : AlgorithmsSettleChoice
choice_settled r p m f offer choice n is chosen =
    choice_by n m (answer_bytes r p m f) offer (reply_of offer choice) choice (value_read p m (NegotiateAlgorithms offer) NEGOTIATE_ALGORITHMS is (sized-code (hash_len (place_terms p)) m (NegotiateAlgorithms offer) is) refl refl)
    (ap response_value (reply_chosen r p m f offer choice is chosen) ∙ told_read (Algorithms (reply_of offer choice)) (reply_fits offer choice) (reply_sound offer choice))
    (choice_is_agreed offer (policy_of r) choice chosen)
