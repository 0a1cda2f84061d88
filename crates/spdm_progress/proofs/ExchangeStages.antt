-- What the two ends make of the two messages of PSK_EXCHANGE in the clear.
use Rattle.std.proofs.Common.{◌≡◌, ◌≢◌, ◌∙◌, ℕ, ◌<◌, ◌≤◌, ◌+◌, ◌==◌, ◌&&◌, ◌||◌, List, ◌++◌, length, Bool, true, false, not, Option, Some, None, Ok, refl, sym, ap, subst, arith, eqb-true, length-append}
use Rattle.std.specs.Prelude.{bytes_eq, if◌then◌else◌}
use Rattle.std.proofs.lemmas.Bool.{false≢true}
use Rattle.std.proofs.lemmas.Slice.Eq.{bytes_eq-Decides}
use Rattle.key_schedule.specs.declared.direction.Direction.TheVariants as direction
use Rattle.requester_machine.proofs.Choosing.{context-length}
use Rattle.responder_machine.proofs.Ids.{free_id-range}
use Rattle.responder_machine.proofs.VerifyLength.{length_verify}
use Rattle.responder_machine.specs.Answer.{Free, request_at, summary_answer, t1_with}
use Rattle.responder_machine.specs.Does.{chosen, clear_chosen, clear_does}
use Rattle.responder_machine.specs.Handling.{goes_large, large_response, request_effect, request_reply, turn_of}
use Rattle.responder_machine.specs.History as served
use Rattle.responder_machine.specs.History.Entry.{Clear}
use Rattle.responder_machine.specs.Place.{clear_place, free_id, held_of, inside, place_terms}
use Rattle.responder_machine.specs.Refusal.{is_answer_too_long, has_pending, is_exchange_refused, phase_allows, refusal}
use Rattle.responder_machine.specs.Responder.{is_repeat}
use Rattle.responder_machine.specs.Responder.Outcome.{Adds}
use Rattle.responder_machine.specs.Setup.{RspSetup}
use Rattle.responder_machine.specs.Turn.{Turn}
use Rattle.responder_machine.specs.Turn.Effect.{Took}
use Rattle.running_hash.specs.Hash.{hash_of}
use Rattle.spdm_agreement.specs.Configured.{IsResponder}
use Rattle.spdm_agreement.proofs.Responder.Exchange.{answer_parts, before_verify, front_of, length_summary, own_verify}
use Rattle.spdm_basis.proofs.Bools.{and_second, lt_false}
use Rattle.spdm_basis.specs.Sizes.{hash_size}
use Rattle.spdm_basis.specs.declared.values.hash_alg.HashAlg.{HashAlg}
use Rattle.spdm_basis.specs.declared.values.hash_alg.HashAlg.TheVariants.{Sha256, Sha384}
use Rattle.spdm_grammar.proofs.CanonicalResponses.{response_spelled}
use Rattle.spdm_grammar.proofs.Spellings.{spelling_read}
use Rattle.spdm_grammar.specs.Fields.{is_summary}
use Rattle.spdm_grammar.specs.Message.{ExchangeMessage, ExchangeRspMessage}
use Rattle.spdm_grammar.specs.Message.RequestMessage.{PskExchange}
use Rattle.spdm_grammar.specs.Message.ResponseMessage.{PskExchangeRsp}
use Rattle.spdm_grammar.specs.Requests.{canonical_request, FitsRequest, IsSoundRequest}
use Rattle.spdm_grammar.specs.Responses.{canonical_response, response_layout, response_reading, summary_len, FitsResponse, IsSoundResponse}
use Rattle.spdm_grammar.specs.declared.names.request_code.TheConstants.{PSK_EXCHANGE}
use Rattle.spdm_grammar.specs.declared.told.phase.Phase.{Phase}
use Rattle.spdm_grammar.specs.declared.told.phase.Phase.TheVariants.{Negotiated}
use Rattle.spdm_machine.specs.Keys.{Draw, context_of, verify_data}
use Rattle.spdm_machine.specs.Sessions.{id_in_exchange}
use Rattle.spdm_machine.specs.Terms.{Terms}
use Rattle.transcript.specs.Transcripts.{vca_of, without_verify}
use Rattle.spdm_progress.specs.Opening.{exchange_rsp_size}
use Rattle.spdm_progress.proofs.ResponderStages.{adds}
use Rattle.spdm_progress.proofs.ResponderTurns.{contents_passed, effect_so, form_passed, not_refused as passes_all, read_at, reply_so, taken_somehow, turn_with}

pub hash_few : (hash : HashAlg) → (32 ≤ hash_size hash) × (hash_size hash ≤ 48)
hash_few Sha256 = ((omega arith), (omega arith))
hash_few Sha384 = ((omega arith), (omega arith))

-- ---- The request.

-- A PSK_EXCHANGE that has an encoding, with a context as long as the hash, and ids and data within their limits.
pub record IsExchange (hash : HashAlg) (x : ExchangeMessage) : Type 0 where
  pub summary : is_summary x.summary ≡ true
  pub req_id : x.req_id ≤ 4
  pub hint : length x.hint ≤ 64
  pub context : length x.context ≡ hash_size hash
  pub opaque : length x.opaque ≤ 1024

abbrev pub exchange_bytes : ExchangeMessage → List ℕ
exchange_bytes x = canonical_request (PskExchange x)

-- The kind of a summary is a byte.
summary_small : (n : ℕ) → (a b c : Bool) → (n == 0) ≡ a → (n == 1) ≡ b → (n == 255) ≡ c → (a || b || c) ≡ true → n < 256
summary_small n true b c e f g is = (let z = eqb-true n 0 e in omega arith)
summary_small n false true c e f g is = (let z = eqb-true n 1 f in omega arith)
summary_small n false false true e f g is = (let z = eqb-true n 255 g in omega arith)
summary_small n false false false e f g is = absurd (false≢true is)

pub exchange_fits : (hash : HashAlg) (x : ExchangeMessage) → IsExchange hash x → FitsRequest (PskExchange x) × IsSoundRequest (hash_size hash) (PskExchange x)
exchange_fits hash x k =
    let id = k.req_id in
    let hint = k.hint in
    let context = k.context in
    let few = hash_few hash in (
      ((summary_small x.summary (x.summary == 0) (x.summary == 1) (x.summary == 255) refl refl refl k.summary), (omega arith)),
      record { summary = k.summary; hint = omega arith; context_long = omega arith; context = omega (arith, few.1); opaque = k.opaque },
    )

pub exchange_length : (x : ExchangeMessage) → length (exchange_bytes x) ≡ 12 + length x.hint + length x.context + length x.opaque
exchange_length x = omega (arith, length-append (x.hint ++ x.context) x.opaque, length-append x.hint x.context)

-- ReqSessionID follows the header.
pub request_id : (x : ExchangeMessage) → x.req_id ≤ 4 → id_in_exchange (exchange_bytes x) ≡ x.req_id
request_id x small = omega arith

-- ---- The answer.

module _ (r : RspSetup) (g : served.History) (d : Draw) (x : ExchangeMessage) where
  abbrev pub f : Free
  f = clear_chosen r g d

  abbrev pub terms : Terms
  terms = place_terms (clear_place g)

  abbrev pub hash : HashAlg
  hash = terms.choice.hash

  abbrev pub m : List ℕ
  m = exchange_bytes x

  abbrev pub verify : List ℕ
  verify = own_verify r (clear_place g) m f x

  abbrev pub rsp : ExchangeRspMessage
  rsp = record {
    heartbeat = if terms.common.heartbeat then r.beat else 0;
    rsp_id = f.id;
    summary = summary_answer r (clear_place g) x.summary;
    context = f.context;
    opaque = f.exchange_opaque;
    verify = verify;
  }

  abbrev pub answer : List ℕ
  answer = canonical_response (PskExchangeRsp rsp)

  pub own_id : f.id ≡ free_id g
  unfolding chosen
  own_id = refl

  own_context : f.context ≡ context_of hash d
  unfolding chosen
  own_context = refl

  own_opaque : f.exchange_opaque ≡ r.opaque
  unfolding chosen
  own_opaque = refl

  module _ (server : IsResponder r) (drawn : length d.bytes ≡ 32) (is : IsExchange hash x) where
    read : request_at (clear_place g) m ≡ Some (PskExchange x)
    read = (let k = exchange_fits hash x is in read_at (clear_place g) (PskExchange x) k.0 k.1)

    summary_long : length rsp.summary ≡ (if x.summary == 0 then 0 else hash_size hash)
    summary_long = length_summary r (clear_place g) m x read

    context_long : length rsp.context ≡ hash_size hash
    context_long = ap length own_context ∙ context-length hash d drawn

    verify_long : length verify ≡ hash_size hash
    verify_long = length_verify terms.choice r.psk (t1_with r (clear_place g) m f x) direction.Response (t1_with r (clear_place g) m f x)

    opaque_long : length rsp.opaque ≡ length r.opaque
    opaque_long = ap length own_opaque

    pub answer_length : length answer ≡ exchange_rsp_size r terms x.summary
    answer_length =
        omega (arith, length-append ((rsp.summary ++ rsp.context) ++ rsp.opaque) verify, length-append (rsp.summary ++ rsp.context) rsp.opaque, length-append rsp.summary rsp.context, summary_long, context_long, verify_long, opaque_long)

    pub id_small : f.id ≤ 4
    id_small = subst (λ (n : ℕ). n ≤ 4) (sym own_id) (free_id-range g).1

    -- RspSessionID follows the header.
    pub answer_id : id_in_exchange answer ≡ free_id g
    answer_id = (let small = id_small in let is_id = own_id in let told : id_in_exchange answer ≡ f.id = omega arith in told ∙ is_id)

    beat_small : (b : Bool) → (if b then r.beat else 0) < 256
    beat_small true = server.beat
    beat_small false = omega arith

    asked_summary : (b : Bool) → (if b then 0 else hash_size hash) ≡ summary_len (hash_size hash) (not b)
    asked_summary true = refl
    asked_summary false = refl

    -- The requester reads it.
    pub answer_reads : response_reading (hash_size hash) (not (x.summary == 0)) answer ≡ Ok (PskExchangeRsp rsp)
    answer_reads =
        let small = id_small in
        let few = hash_few hash in
        let data_few = server.opaque in
        let fits : FitsResponse (PskExchangeRsp rsp) = (beat_small terms.common.heartbeat, (omega arith)) in
        let sound : IsSoundResponse (hash_size hash) (not (x.summary == 0)) (PskExchangeRsp rsp) = record {
          summary = summary_long ∙ asked_summary (x.summary == 0);
          context_long = omega (arith, context_long);
          context = omega (arith, context_long, few.1);
          opaque = omega (arith, opaque_long);
          verify = verify_long;
        } in
        spelling_read (response_layout (hash_size hash) (not (x.summary == 0))) 0 (PskExchangeRsp rsp) answer (response_spelled (hash_size hash) (not (x.summary == 0)) (PskExchangeRsp rsp) fits sound).is

    -- Its verify data are over T1.
    pub verify_is : rsp.verify ≡ verify_data terms.choice r.psk (vca_of (served.negotiation_of (served.clear_turns g)) ++ m ++ without_verify (hash_of hash) answer) direction.Response (vca_of (served.negotiation_of (served.clear_turns g)) ++ m ++ without_verify (hash_of hash) answer)
    verify_is =
        let front : without_verify (hash_of hash) answer ≡ front_of r (clear_place g) f x = ap (without_verify (hash_of hash)) (answer_parts r (clear_place g) f x verify) ∙ before_verify hash (front_of r (clear_place g) f x) verify verify_long in
        ap (λ (end : List ℕ). verify_data terms.choice r.psk (vca_of (served.negotiation_of (served.clear_turns g)) ++ m ++ end) direction.Response (vca_of (served.negotiation_of (served.clear_turns g)) ++ m ++ end)) (sym front)

    -- ---- The responder takes it.

    not_refused : x.hint ≡ r.hint → (b c : Bool) → (x.summary == 0) ≡ b → terms.choice.measure ≡ c → (not b && not c) ≡ false → is_exchange_refused r (clear_place g) (Some (PskExchange x)) ≡ false
    not_refused hint b c e w fine = rw ((bytes_eq-Decides x.hint r.hint).1 hint, e, w) fine

    -- Its answer goes whole, or by LargeResponse.
    abbrev pub turn_as : Bool → Turn
    turn_as large = turn_with m f (Some (PskExchange x)) answer large

    taken : served.phase_of (served.clear_turns g) ≡ Negotiated → length m ≤ r.transfer → x.hint ≡ r.hint → (not (x.summary == 0) && not terms.choice.measure) ≡ false → is_answer_too_long (clear_place g) answer ≡ false → (held_of g == 4) ≡ false
        → (large : Bool) → goes_large (clear_place g) answer ≡ large → turn_of r (clear_place g) m f ≡ turn_as large
    taken phase fits hint summary long limit large goes =
        taken_somehow r (clear_place g) m f (PskExchange x) read refl
        (passes_all r (clear_place g) m f
        (form_passed r (clear_place g) m (PskExchange x) read (record {
          long = lt_false (length m) 4 (omega (arith, exchange_length x));
          short = lt_false r.transfer (length m) fits;
          known = refl;
          outside = refl;
          whole = refl;
          placed = refl;
          allowed = ap (λ (p : Phase). phase_allows p (has_pending (clear_place g)) PSK_EXCHANGE) phase;
          version = refl;
        }))
        (contents_passed r (clear_place g) m f (PskExchange x) read (record {
          flags = refl;
          caps = refl;
          offer = refl;
          block = refl;
          exchange = not_refused hint (x.summary == 0) terms.choice.measure refl refl summary;
          verify = refl;
          update = refl;
          chunk = refl;
          get = refl;
          fits = long;
          limit = limit;
        })))
        ∙ ap turn_as goes

    -- So it is inside of its chunks.
    pub exchange_inside : served.phase_of (served.clear_turns g) ≡ Negotiated → length m ≤ r.max → x.hint ≡ r.hint → (not (x.summary == 0) && not terms.choice.measure) ≡ false → is_answer_too_long (inside (clear_place g)) answer ≡ false → (held_of g == 4) ≡ false
        → refusal r (inside (clear_place g)) m f ≡ None
    exchange_inside phase fits hint summary long limit =
        let k = exchange_fits hash x is in
        let place = inside (clear_place g) in
        let reads_there : request_at place m ≡ Some (PskExchange x) = read_at place (PskExchange x) k.0 k.1 in
        passes_all r place m f
        (form_passed r place m (PskExchange x) reads_there (record {
          long = lt_false (length m) 4 (omega (arith, exchange_length x));
          short = lt_false r.max (length m) fits;
          known = refl;
          outside = refl;
          whole = refl;
          placed = refl;
          allowed = ap (λ (p : Phase). phase_allows p (has_pending place) PSK_EXCHANGE) phase;
          version = refl;
        }))
        (contents_passed r place m f (PskExchange x) reads_there (record {
          flags = refl;
          caps = refl;
          offer = refl;
          block = refl;
          exchange = not_refused hint (x.summary == 0) terms.choice.measure refl refl summary;
          verify = refl;
          update = refl;
          chunk = refl;
          get = refl;
          fits = long;
          limit = limit;
        }))

    -- Its effect, and what is sent for it.
    pub inside_leads : (large : Bool) → goes_large (inside (clear_place g)) answer ≡ large
        → (request_effect r (inside (clear_place g)) m f ≡ Took (PskExchange x) m answer (if large then Some f.handle else None)) × (request_reply r (inside (clear_place g)) m f ≡ (if large then large_response f.handle else answer))
    inside_leads large goes =
        let k = exchange_fits hash x is in
        let place = inside (clear_place g) in
        let reads_there : request_at place m ≡ Some (PskExchange x) = read_at place (PskExchange x) k.0 k.1 in
        (effect_so r place m f (PskExchange x) large reads_there goes, reply_so r place m f (PskExchange x) large reads_there goes)

    new_there : (o : Option served.Kept) (tag : ℕ) (b : Bool) → ((k : served.Kept) → o ≡ Some k → k.message ≢ m) → is_repeat o tag m ≡ b → b ≡ false
    new_there None tag b new is_so = sym is_so
    new_there (Some k) tag true new is_so = absurd (new k refl ((bytes_eq-Decides k.message m).0 (and_second (k.tag == tag) (bytes_eq k.message m) is_so)))
    new_there (Some k) tag false new is_so = refl

    pub exchange_taken : (tag : ℕ) → served.phase_of (served.clear_turns g) ≡ Negotiated → length m ≤ r.transfer → x.hint ≡ r.hint → (not (x.summary == 0) && not terms.choice.measure) ≡ false → is_answer_too_long (clear_place g) answer ≡ false → (held_of g == 4) ≡ false
        → ((k : served.Kept) → served.kept_of g ≡ Some k → k.message ≢ m) → (large : Bool) → goes_large (clear_place g) answer ≡ large → clear_does r g tag m d ≡ Adds (Clear tag (turn_as large) d)
    exchange_taken tag phase fits hint summary long limit new large goes =
        adds r g tag m d (turn_as large) (new_there (served.kept_of g) tag (is_repeat (served.kept_of g) tag m) new refl) (taken phase fits hint summary long limit large goes)
