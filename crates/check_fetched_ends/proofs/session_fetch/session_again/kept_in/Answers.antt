use Rattle.std.proofs.Common.{◌≡◌, ◌≤◌, ◌+◌, ◌∙◌, refl, sym, ap, subst, length, arith, [], ℕ, Some, None, Option, inl, inr}
use Rattle.std.proofs.lemmas.Bool.{false≢true, not-false, not-true}
use Rattle.std.proofs.lemmas.List.{length-replicate}
use Rattle.std.proofs.lemmas.Option.{none-some, same_Some}
use Rattle.responder_core.specs.SeenTerms.{AreTermsIn}
use Rattle.measurements.specs.Records.{is_missing}
use Rattle.responder_machine.specs.Answer.{request_at}
use Rattle.responder_machine.specs.Place.{session_place}
use Rattle.responder_machine.specs.Session.{Events, is_live, session_of}
use Rattle.responder_machine.specs.Setup.{inventory_of}
use Rattle.session_keys.specs.declared.terms.SessionTerms.{SessionTerms}
use Rattle.spdm_basis.specs.Sizes.{hash_size}
use Rattle.spdm_grammar.specs.Fields.{zeros}
use Rattle.spdm_grammar.specs.Message.{RequestMessage}
use Rattle.spdm_grammar.specs.Message.RequestMessage.{GetVersion, GetCapabilities, NegotiateAlgorithms, GetMeasurements, PskExchange, PskFinish, Heartbeat, KeyUpdate, EndSession, ChunkSend, ChunkGet}
use Rattle.spdm_grammar.specs.Requests.{request_in}
use Rattle.spdm_grammar.specs.declared.messages.choice.Choice.{Choice}
use Rattle.check_fetched_ends.proofs.LengthsIn.{lengths_are}
use Rattle.check_fetched_ends.proofs.session_fetch.session_again.kept_in.Goals as goal
use Rattle.check_fetched_ends.proofs.session_fetch.session_again.kept_in.Goals.{then-max-gt-MOST_BYTES, else-max-gt-MOST_BYTES}
use Rattle.check_fetched_ends.specs.AgainRead.{IsKeptFor}
use Rattle.check_fetched_ends.specs.Prepared.{operation_in}

-- What asks for an operation is GET_MEASUREMENTS for it.
asked_by : (o : Option RequestMessage) (op : ℕ) → operation_in o ≡ Some op → o ≡ Some (GetMeasurements op)
asked_by None op is = absurd (none-some op is)
asked_by (Some (GetMeasurements n)) op is = ap (λ (k : ℕ). Some (GetMeasurements k)) (same_Some n op is)
asked_by (Some GetVersion) op is = absurd (none-some op is)
asked_by (Some (GetCapabilities caps)) op is = absurd (none-some op is)
asked_by (Some (NegotiateAlgorithms offer)) op is = absurd (none-some op is)
asked_by (Some (PskExchange exchange)) op is = absurd (none-some op is)
asked_by (Some (PskFinish verify)) op is = absurd (none-some op is)
asked_by (Some Heartbeat) op is = absurd (none-some op is)
asked_by (Some (KeyUpdate n tag)) op is = absurd (none-some op is)
asked_by (Some EndSession) op is = absurd (none-some op is)
asked_by (Some (ChunkSend chunk)) op is = absurd (none-some op is)
asked_by (Some (ChunkGet handle number)) op is = absurd (none-some op is)

same_op : (a b : ℕ) → Some (GetMeasurements a) ≡ Some (GetMeasurements b) → a ≡ b
same_op a b same = cc

pub returns-in_err-terms-clause-kept : goal.returns-in_err-terms-clause-kept
returns-in_err-terms-clause-kept c = λ r h set stands.
    let id = c.args.id in
    let gone : session_of id h ≡ [] = subst (λ (o : Option SessionTerms). AreTermsIn o (session_of id h)) c.in_err-terms.was (c.session_terms.ensures r h stands) in
    subst (IsKeptFor r (session_of id h) id c.args.message.now) (sym c.from_residual.ensures)
    (λ op asks. false≢true (ap (λ (s : Events). is_live s) (sym gone) ∙ asks.live))

pub returns-then-not-terms-clause-kept : goal.returns-then-not-terms-clause-kept
returns-then-not-terms-clause-kept c = λ r h set stands op asks.
    let id = c.args.id in
    let terms = c.in_ok-terms.terms in
    let are = subst (λ (o : Option SessionTerms). AreTermsIn o (session_of id h)) c.in_ok-terms.was (c.session_terms.ensures r h stands) in
    let transfer = ap (λ x. x.to_requester.transfer) are.1.common in
    let room = asks.wide in
    elim c.then-not-terms.either [
      | inl none ↦ false≢true (sym (not-true _ none) ∙ ap (λ x. x.chunk) are.1.common ∙ asks.chunk)
      | inr narrow ↦ (let less = narrow.1 in omega (arith, room, less, transfer))
    ]

pub returns-then-least-most-clause-kept : goal.returns-then-least-most-clause-kept
returns-then-least-most-clause-kept c = λ r h set stands op asks.
    let s : Events = session_of c.args.id h in
    let terms = c.in_ok-terms.terms in
    let are = subst (λ (o : Option SessionTerms). AreTermsIn o s) c.in_ok-terms.was (c.session_terms.ensures r h stands) in
    let transfer = ap (λ x. x.to_requester.transfer) are.1.common in
    let max = ap (λ x. x.to_requester.max) are.1.common in
    let most = c.if-max-gt-MOST_BYTES.most in
    let range : (most ≤ terms.common.to_requester.max) × (most ≤ 4096) × ((n : ℕ) → n ≤ terms.common.to_requester.max → n ≤ 4096 → n ≤ most) =
    elim c.if-max-gt-MOST_BYTES.branch [
      | then-max-gt-MOST_BYTES y ↦ (let more = y.if-max-gt-MOST_BYTES.true in let is = y.most-is in (omega (arith, more, is), omega (arith, is), λ n one two. omega (arith, two, is)))
      | else-max-gt-MOST_BYTES y ↦ (let less = y.if-max-gt-MOST_BYTES.false in let is = y.most-is in (omega (arith, is), omega (arith, less, is), λ n one two. omega (arith, one, is)))
    ] in
    let lengths = lengths_are s asks.chunk (terms.common.to_requester.transfer + 1) most (ap (λ (n : ℕ). n + 1) transfer) (subst (λ (n : ℕ). most ≤ n) max range.0) range.1 (λ n one two. range.2 n (subst (λ (x : ℕ). n ≤ x) (sym max) one) two) in
    let fits = (lengths asks.some.0).0 asks.some.1 in
    let low = fits.0 in
    let high = fits.1 in
    let over = c.if-least-most.true in
    omega (arith, low, high, over)

pub returns-in_err-op-clause-kept : goal.returns-in_err-op-clause-kept
returns-in_err-op-clause-kept c = λ r h set stands.
    let s : Events = session_of c.args.id h in
    let are = subst (λ (o : Option SessionTerms). AreTermsIn o s) c.in_ok-terms.was (c.session_terms.ensures r h stands) in
    subst (IsKeptFor r s c.args.id c.args.message.now) (sym c.from_residual-in_err-op.ensures)
    (λ op asks.
    none-some op (sym c.in_err-op.was ∙ c.asked_operation.ensures ∙ ap (λ (n : ℕ). operation_in (request_in n c.args.message.now)) (c.size.ensures ∙ ap (λ (x : Choice). hash_size x.hash) are.1.choice) ∙ ap operation_in asks.asks))

pub returns-then-is_err-clause-kept : goal.returns-then-is_err-clause-kept
returns-then-is_err-clause-kept c = λ r h set stands op asks.
    let s : Events = session_of c.args.id h in
    let are = subst (λ (o : Option SessionTerms). AreTermsIn o s) c.in_ok-terms.was (c.session_terms.ensures r h stands) in
    let asked : request_at (session_place s) c.args.message.now ≡ Some (GetMeasurements c.in_ok-op.op) =
    asked_by _ c.in_ok-op.op (sym (sym c.in_ok-op.was ∙ c.asked_operation.ensures ∙ ap (λ (n : ℕ). operation_in (request_in n c.args.message.now)) (c.size.ensures ∙ ap (λ (x : Choice). hash_size x.hash) are.1.choice))) in
    let missing = ap (is_missing c.in_ok-op.op) set.inventory ∙ sym c.record.ensures.missing ∙ sym c.is_err.ensures.value ∙ c.if-is_err.true in
    false≢true (sym asks.found ∙ ap (λ (n : ℕ). is_missing n (inventory_of r)) (same_op op c.in_ok-op.op (sym asks.asks ∙ asked)) ∙ missing)

pub returns-clause-kept : goal.returns-clause-kept
returns-clause-kept c = λ r h set stands.
    let s : Events = session_of c.args.id h in
    let terms = c.in_ok-terms.terms in
    let are = subst (λ (o : Option SessionTerms). AreTermsIn o s) c.in_ok-terms.was (c.session_terms.ensures r h stands) in
    let transfer = ap (λ x. x.to_requester.transfer) are.1.common in
    let max = ap (λ x. x.to_requester.max) are.1.common in
    let most = c.if-max-gt-MOST_BYTES.most in
    let chunk = sym (ap (λ x. x.chunk) are.1.common) ∙ not-false _ c.if-not-terms.false in
    let room = c.if-transfer-le-CHUNK_FIELDS.false in
    let range : (most ≤ terms.common.to_requester.max) × (most ≤ 4096) × ((n : ℕ) → n ≤ terms.common.to_requester.max → n ≤ 4096 → n ≤ most) =
    elim c.if-max-gt-MOST_BYTES.branch [
      | then-max-gt-MOST_BYTES y ↦ (let more = y.if-max-gt-MOST_BYTES.true in let is = y.most-is in (omega (arith, more, is), omega (arith, is), λ n one two. omega (arith, two, is)))
      | else-max-gt-MOST_BYTES y ↦ (let less = y.if-max-gt-MOST_BYTES.false in let is = y.most-is in (omega (arith, is), omega (arith, less, is), λ n one two. omega (arith, one, is)))
    ] in
    let lengths = lengths_are s chunk (terms.common.to_requester.transfer + 1) most (ap (λ (n : ℕ). n + 1) transfer) (subst (λ (n : ℕ). most ≤ n) max range.0) range.1 (λ n one two. range.2 n (subst (λ (x : ℕ). n ≤ x) (sym max) one) two) in
    let low = c.if-least-most.false in
    let long : length (zeros (terms.common.to_requester.transfer + 1)) ≡ terms.common.to_requester.transfer + 1 = length-replicate {A = ℕ} (terms.common.to_requester.transfer + 1) 0 in record {
      asked = record {
        live = are.0;
        asks = asked_by _ c.in_ok-op.op (sym (sym c.in_ok-op.was ∙ c.asked_operation.ensures ∙ ap (λ (n : ℕ). operation_in (request_in n c.args.message.now)) (c.size.ensures ∙ ap (λ (x : Choice). hash_size x.hash) are.1.choice)));
        found = ap (is_missing c.in_ok-op.op) set.inventory ∙ sym c.record.ensures.missing ∙ sym c.is_err.ensures.value ∙ c.if-is_err.false;
        chunk = chunk;
        wide = omega (arith, room, transfer);
        some = (zeros (terms.common.to_requester.transfer + 1), (lengths (zeros (terms.common.to_requester.transfer + 1))).1 (omega (arith, long), omega (arith, long, low)));
      };
      id_is = refl;
      lengths = lengths;
      left = refl;
      none = c.new-2.ensures;
    }
