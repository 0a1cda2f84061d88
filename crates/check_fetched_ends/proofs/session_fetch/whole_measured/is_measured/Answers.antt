use Rattle.std.proofs.Common.{◌+◌, ◌∙◌, ap, sym, refl, take, drop, length, ℕ, List, arith}
use Rattle.std.proofs.lemmas.Bool.{false≢true}
use Rattle.std.proofs.lemmas.Slice.Eq.{bytes_eq-Decides}
use Rattle.measurements.specs.Blocks.{record_of}
use Rattle.measurements.specs.Records.{asked, is_missing}
use Rattle.responder_machine.specs.Answer.{Free}
use Rattle.spdm_grammar.specs.declared.told.block_spec.BlockSpec.{BlockSpec}
use Rattle.capture_machine.specs.Opening.{any_free}
use Rattle.check_late_laws.proofs.Late.MeasuredParts.{nonce_is, on_ok, opaque_is}
use Rattle.check_fetched_ends.proofs.session_fetch.whole_measured.is_measured.Goals as goal

pub returns-then-size-le-MAX_MESSAGE_SIZE-clause-yes : goal.returns-then-size-le-MAX_MESSAGE_SIZE-clause-yes
returns-then-size-le-MAX_MESSAGE_SIZE-clause-yes c = λ r set same.
    let f : Free = record any_free { nonce = c.split_at-2.result.0.now; measured_opaque = c.split_at-3.result.1.now } in
    let right = c.write_measurements-size.ensures.value r f set.inventory refl refl c.if-size-le-MAX_MESSAGE_SIZE.true in
    let few = c.if-opaque-gt-MAX_OPAQUE_LEN.false in
    (f, c.split_at-2.ensures.front_len, omega (arith, few), sym ((bytes_eq-Decides _ _).0 (sym c.same_bytes.ensures ∙ same)) ∙ c.as_slice-then-size-le-MAX_MESSAGE_SIZE.ensures.value ∙ right)

pub returns-then-size-le-MAX_MESSAGE_SIZE-clause-none : goal.returns-then-size-le-MAX_MESSAGE_SIZE-clause-none
returns-then-size-le-MAX_MESSAGE_SIZE-clause-none c = λ r set found few unlike measured.
    let came = on_ok c.record.result _ (c.record.ensures.missing ∙ ap (is_missing c.args.op) (sym set.inventory) ∙ found) c.record.ensures.bytes in
    let there = ap (λ (l : List ℕ). 8 + length l) (c.as_slice.ensures.value ∙ came ∙ ap (λ (l : List BlockSpec). record_of (asked c.args.op l)) (sym set.inventory)) in
    let nonce = sym (nonce_is r c.args.op measured.0 measured.1 c.args.whole.now measured.3 _ there) ∙ sym (c.split_at-2.ensures.front ∙ ap (take 32) c.split_at.ensures.back) in
    let opaque = sym (opaque_is r c.args.op measured.0 measured.1 c.args.whole.now measured.3 _ there) ∙ sym (c.split_at-3.ensures.back ∙ ap (drop 2) (c.split_at-2.ensures.back ∙ ap (drop 32) c.split_at.ensures.back)) in
    let right = c.write_measurements-size.ensures.value r measured.0 set.inventory nonce opaque c.if-size-le-MAX_MESSAGE_SIZE.true in
    false≢true (sym unlike ∙ c.same_bytes.ensures ∙ (bytes_eq-Decides _ _).1 (c.as_slice-then-size-le-MAX_MESSAGE_SIZE.ensures.value ∙ right ∙ sym measured.3))

pub returns-else-size-le-MAX_MESSAGE_SIZE-clause-none : goal.returns-else-size-le-MAX_MESSAGE_SIZE-clause-none
returns-else-size-le-MAX_MESSAGE_SIZE-clause-none c = λ r set found few unlike measured.
    let came = on_ok c.record.result _ (c.record.ensures.missing ∙ ap (is_missing c.args.op) (sym set.inventory) ∙ found) c.record.ensures.bytes in
    let there = ap (λ (l : List ℕ). 8 + length l) (c.as_slice.ensures.value ∙ came ∙ ap (λ (l : List BlockSpec). record_of (asked c.args.op l)) (sym set.inventory)) in
    let nonce = sym (nonce_is r c.args.op measured.0 measured.1 c.args.whole.now measured.3 _ there) ∙ sym (c.split_at-2.ensures.front ∙ ap (take 32) c.split_at.ensures.back) in
    let opaque = sym (opaque_is r c.args.op measured.0 measured.1 c.args.whole.now measured.3 _ there) ∙ sym (c.split_at-3.ensures.back ∙ ap (drop 2) (c.split_at-2.ensures.back ∙ ap (drop 32) c.split_at.ensures.back)) in
    let size = c.write_measurements-size.ensures.size r measured.0 set.inventory nonce opaque in
    let long = ap (λ (l : List ℕ). length l) measured.3 in
    let most = c.if-size-le-MAX_MESSAGE_SIZE.false in
    absurd (omega (arith, few, long, size, most))
