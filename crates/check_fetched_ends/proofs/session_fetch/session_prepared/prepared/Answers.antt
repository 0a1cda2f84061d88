use Rattle.std.proofs.Common.{◌≡◌, ◌≤◌, ◌<◌, ◌+◌, ◌∙◌, refl, sym, ap, subst, drop, arith, List, [], ℕ, Some, None, Option, Result, Ok, Err, inl, inr}
use Rattle.std.proofs.lemmas.Option.{none-some, same_Some}
use Rattle.std.proofs.lemmas.Bool.{false≢true}
use Rattle.responder_core.specs.OwnAnswers.{opens_in}
use Rattle.responder_core.specs.SeenTerms.{AreTermsIn}
use Rattle.measurements.specs.Records.{is_missing}
use Rattle.responder_machine.specs.Place.{session_place}
use Rattle.responder_machine.specs.Records.{opened}
use Rattle.responder_machine.specs.Refusal.{has_no_block}
use Rattle.responder_machine.specs.Session.{Events, id_in_record, session_of, session_terms}
use Rattle.session_keys.specs.declared.terms.SessionTerms.{SessionTerms}
use Rattle.spdm_basis.specs.Sizes.{hash_size}
use Rattle.spdm_grammar.specs.Message.{RequestMessage}
use Rattle.spdm_grammar.specs.Message.RequestMessage.{GetVersion, GetCapabilities, NegotiateAlgorithms, GetMeasurements, PskExchange, PskFinish, Heartbeat, KeyUpdate, EndSession, ChunkSend, ChunkGet}
use Rattle.responder_machine.specs.Answer.{request_at}
use Rattle.spdm_grammar.specs.Requests.{request_in}
use Rattle.spdm_grammar.specs.declared.messages.choice.Choice.{Choice}
use Rattle.spdm_machine.specs.Terms.{hash_len}
use Rattle.check_fetched_ends.proofs.LargeTurns.{is_large_turn, large_blocks, large_room}
use Rattle.check_fetched_ends.proofs.LengthsIn.{lengths_are}
use Rattle.check_fetched_ends.proofs.session_fetch.session_prepared.prepared.Goals as goal
use Rattle.check_fetched_ends.specs.Prepared.{IsPreparedFor, operation_in}
use Rattle.check_fetched_ends.proofs.session_fetch.session_prepared.prepared.Goals.{then-max-gt-MOST_BYTES, else-max-gt-MOST_BYTES}

-- What asks for an operation is GET_MEASUREMENTS for it.
asked_by : (o : Option RequestMessage) (op : ℕ) → operation_in o ≡ Some op → o ≡ Some (GetMeasurements op)
asked_by None op is = absurd (none-some op is)
asked_by (Some (GetMeasurements n)) op is = ap (λ (k : ℕ). Some (GetMeasurements k)) (same_Some n op is)
asked_by (Some GetVersion) op is = absurd (none-some op is)
asked_by (Some (GetCapabilities caps)) op is = absurd (none-some op is)
asked_by (Some (NegotiateAlgorithms offer)) op is = absurd (none-some op is)
asked_by (Some (PskExchange exchange)) op is = absurd (none-some op is)
asked_by (Some (PskFinish verify)) op is = absurd (none-some op is)
asked_by (Some Heartbeat) op is = absurd (none-some op is)
asked_by (Some (KeyUpdate n tag)) op is = absurd (none-some op is)
asked_by (Some EndSession) op is = absurd (none-some op is)
asked_by (Some (ChunkSend chunk)) op is = absurd (none-some op is)
asked_by (Some (ChunkGet handle number)) op is = absurd (none-some op is)

pub returns-then-not-reads_request : goal.returns-then-not-reads_request
returns-then-not-reads_request c = λ r h set stands opens f large. false≢true (sym c.if-not-reads_request.true ∙ c.reads_request.ensures.opens r h stands ∙ opens)

pub returns-in_err-terms : goal.returns-in_err-terms
returns-in_err-terms c = λ r h set stands.
    let request : List ℕ = c.args.request.now in
    let id : c.record_id-id.result.rsp ≡ id_in_record request = ap (λ x. x.rsp) c.record_id-id.ensures in
    let found = subst (λ (o : Option SessionTerms). AreTermsIn o (session_of c.record_id-id.result.rsp h)) c.in_err-terms.was (c.session_terms.ensures r h stands) in
    let gone : session_of (id_in_record request) h ≡ [] = subst (λ (n : ℕ). session_of n h ≡ []) id found in
    subst (IsPreparedFor r h request) (sym c.from_residual.ensures)
    (λ opens f large. false≢true (sym (ap (λ (s : Events). opens_in r s request) gone) ∙ opens))

pub returns-in_err-op : goal.returns-in_err-op
returns-in_err-op c = λ r h set stands. subst (IsPreparedFor r h c.args.request.now) (sym c.from_residual-in_err-op.ensures) (λ opens f large.
    let request : List ℕ = c.args.request.now in
    let s : Events = session_of (id_in_record request) h in
    let id : c.record_id-id.result.rsp ≡ id_in_record request = ap (λ x. x.rsp) c.record_id-id.ensures in
    let terms = c.in_ok-terms.terms in
    let found = subst (λ (o : Option SessionTerms). AreTermsIn o (session_of c.record_id-id.result.rsp h)) c.in_ok-terms.was (c.session_terms.ensures r h stands) in
    let are = subst (λ (n : ℕ). AreTermsIn (Some terms) (session_of n h)) id found in
    let inner = c.reads_request.ensures.inner r h stands c.if-not-reads_request.false in
    let message = c.behind_type-message.ensures ∙ ap (λ (l : List ℕ). drop 1 l) (c.as_slice.ensures.value ∙ inner) in
    let turn = is_large_turn r s (opened r.psk s request) f large in
    let read = c.operation_in.ensures ∙ ap (λ (n : ℕ). operation_in (request_in n c.behind_type-message.result.now)) (c.size.ensures ∙ ap (λ (x : Choice). hash_size x.hash) are.1.choice) ∙ ap (λ (l : List ℕ). operation_in (request_in (hash_len (session_terms s)) l)) message ∙ ap operation_in turn.asks in
    none-some turn.op (sym c.in_err-op.was ∙ read))

pub returns-then-not-terms : goal.returns-then-not-terms
returns-then-not-terms c = λ r h set stands opens f large.
    let request : List ℕ = c.args.request.now in
    let s : Events = session_of (id_in_record request) h in
    let id : c.record_id-id.result.rsp ≡ id_in_record request = ap (λ x. x.rsp) c.record_id-id.ensures in
    let terms = c.in_ok-terms.terms in
    let found = subst (λ (o : Option SessionTerms). AreTermsIn o (session_of c.record_id-id.result.rsp h)) c.in_ok-terms.was (c.session_terms.ensures r h stands) in
    let are = subst (λ (n : ℕ). AreTermsIn (Some terms) (session_of n h)) id found in
    let transfer = ap (λ x. x.to_requester.transfer) are.1.common in
    let turn = is_large_turn r s (opened r.psk s request) f large in
    let room = large_room r s (opened r.psk s request) f turn in
    elim c.then-not-terms.either [
      | inl none ↦ false≢true (sym none ∙ ap (λ x. x.chunk) are.1.common ∙ turn.chunk)
      | inr narrow ↦ (let less = narrow.1 in omega (arith, room, less, transfer))
    ]

pub returns-then-is_err : goal.returns-then-is_err
returns-then-is_err c = λ r h set stands opens f large.
    let request : List ℕ = c.args.request.now in
    let s : Events = session_of (id_in_record request) h in
    let id : c.record_id-id.result.rsp ≡ id_in_record request = ap (λ x. x.rsp) c.record_id-id.ensures in
    let terms = c.in_ok-terms.terms in
    let found = subst (λ (o : Option SessionTerms). AreTermsIn o (session_of c.record_id-id.result.rsp h)) c.in_ok-terms.was (c.session_terms.ensures r h stands) in
    let are = subst (λ (n : ℕ). AreTermsIn (Some terms) (session_of n h)) id found in
    let inner = c.reads_request.ensures.inner r h stands c.if-not-reads_request.false in
    let message = c.behind_type-message.ensures ∙ ap (λ (l : List ℕ). drop 1 l) (c.as_slice.ensures.value ∙ inner) in
    let asks : request_at (session_place s) (drop 1 (opened r.psk s request)) ≡ Some (GetMeasurements c.in_ok-op.op) =
    asked_by _ c.in_ok-op.op (sym (sym c.in_ok-op.was ∙ c.operation_in.ensures ∙ ap (λ (n : ℕ). operation_in (request_in n c.behind_type-message.result.now)) (c.size.ensures ∙ ap (λ (x : Choice). hash_size x.hash) are.1.choice) ∙ ap (λ (l : List ℕ). operation_in (request_in (hash_len (session_terms s)) l)) message)) in
    let missing = ap (is_missing c.in_ok-op.op) set.inventory ∙ sym c.record.ensures.missing ∙ sym c.is_err.ensures.value ∙ c.if-is_err.true in
    let turn = is_large_turn r s (opened r.psk s request) f large in
    false≢true (sym (large_blocks r s (opened r.psk s request) f turn) ∙ ap (has_no_block r) asks ∙ missing)

pub returns : goal.returns
returns c = λ r h set stands.
    let request : List ℕ = c.args.request.now in
    let s : Events = session_of (id_in_record request) h in
    let id : c.record_id-id.result.rsp ≡ id_in_record request = ap (λ x. x.rsp) c.record_id-id.ensures in
    let terms = c.in_ok-terms.terms in
    let found = subst (λ (o : Option SessionTerms). AreTermsIn o (session_of c.record_id-id.result.rsp h)) c.in_ok-terms.was (c.session_terms.ensures r h stands) in
    let are = subst (λ (n : ℕ). AreTermsIn (Some terms) (session_of n h)) id found in
    let inner = c.reads_request.ensures.inner r h stands c.if-not-reads_request.false in
    let message = c.behind_type-message.ensures ∙ ap (λ (l : List ℕ). drop 1 l) (c.as_slice.ensures.value ∙ inner) in
    let chunk = sym (ap (λ x. x.chunk) are.1.common) ∙ c.if-not-terms.false in
    let transfer = ap (λ x. x.to_requester.transfer) are.1.common in
    let max = ap (λ x. x.to_requester.max) are.1.common in
    let wide = c.if-terms-le-CHUNK_FIELDS.false in
    let most = c.if-max-gt-MOST_BYTES.result in
    let range : (most ≤ terms.common.to_requester.max) × (most ≤ 4096) × ((n : ℕ) → n ≤ terms.common.to_requester.max → n ≤ 4096 → n ≤ most) =
    elim c.if-max-gt-MOST_BYTES.branch [
      | then-max-gt-MOST_BYTES y ↦ (let more = y.if-max-gt-MOST_BYTES.true in let is = y.result-is in (omega (arith, more, is), omega (arith, is), λ n one two. omega (arith, two, is)))
      | else-max-gt-MOST_BYTES y ↦ (let less = y.if-max-gt-MOST_BYTES.false in let is = y.result-is in (omega (arith, is), omega (arith, less, is), λ n one two. omega (arith, one, is)))
    ] in
    record {
      id = id;
      asks = asked_by _ c.in_ok-op.op (sym (sym c.in_ok-op.was ∙ c.operation_in.ensures ∙ ap (λ (n : ℕ). operation_in (request_in n c.behind_type-message.result.now)) (c.size.ensures ∙ ap (λ (x : Choice). hash_size x.hash) are.1.choice) ∙ ap (λ (l : List ℕ). operation_in (request_in (hash_len (session_terms s)) l)) message));
      found = ap (is_missing c.in_ok-op.op) set.inventory ∙ sym c.record.ensures.missing ∙ sym c.is_err.ensures.value ∙ c.if-is_err.false;
      lengths = lengths_are s chunk (terms.common.to_requester.transfer + 1) most (ap (λ (n : ℕ). n + 1) transfer) (subst (λ (n : ℕ). most ≤ n) max range.0) range.1 (λ n one two. range.2 n (subst (λ (x : ℕ). n ≤ x) (sym max) one) two);
      wide = omega (arith, wide, transfer);
      left = refl;
      none = c.new-2.ensures;
    }
