use Rattle.std.proofs.Common.{◌≡◌, ◌∙◌, ◌-◌, ◌==◌, sym, subst, cond, drop, length, ℕ, Bool, true, false}
use Rattle.std.proofs.lemmas.Bool.{eq-eqb, ne_eqb}
use Rattle.std.specs.Prelude.{slice_index}
use Rattle.byteorder.specs.Endian.{little_number}
use Rattle.responder_core.specs.Free.{IsFree}
use Rattle.responder_machine.specs.Answer.{Free, answer_bytes, request_at}
use Rattle.spdm_grammar.specs.declared.names.error_number.TheConstants.{LARGE_RESPONSE, RESPONSE_TOO_LARGE}
use Rattle.check_responder.specs.JudgedResponder.{AreRead}
use Rattle.check_laws.specs.AnswersShown.{least_large, lengthened}
use Rattle.check_responder.proofs.response_values.error_values.Goals as goal

pub returns-then-code-eq-RESPONSE_TOO_LARGE : goal.returns-then-code-eq-RESPONSE_TOO_LARGE
returns-then-code-eq-RESPONSE_TOO_LARGE c = λ r p f set at free short.
    let m = c.args.message.now in
    let reply = c.args.response.now in
    let g : ℕ → Free = λ n. lengthened f (request_at p m) (n - length (answer_bytes r p m f)) in
    let large : Free = record (g (least_large p)) { handle = slice_index reply 4 } in
    let one : (slice_index reply 2 == RESPONSE_TOO_LARGE) ≡ true = eq-eqb (slice_index reply 2) RESPONSE_TOO_LARGE (sym c.byte_at-code.ensures ∙ c.if-code-eq-RESPONSE_TOO_LARGE.true) in
    subst (λ (b : Bool). AreRead r p m (cond b (g (little_number 4 (drop 4 reply))) (cond (slice_index reply 2 == LARGE_RESPONSE) large f)) c.long_values.result) (sym one)
    (subst (λ (n : ℕ). AreRead r p m (g n) c.long_values.result) c.told_length.ensures (c.long_values.ensures r p f set at free short))

pub returns-then-code-eq-LARGE_RESPONSE : goal.returns-then-code-eq-LARGE_RESPONSE
returns-then-code-eq-LARGE_RESPONSE c = λ r p f set at free short.
    let m = c.args.message.now in
    let reply = c.args.response.now in
    let g : ℕ → Free = λ n. lengthened f (request_at p m) (n - length (answer_bytes r p m f)) in
    let large : ℕ → Free = λ b. record (g (least_large p)) { handle = b } in
    let one : (slice_index reply 2 == RESPONSE_TOO_LARGE) ≡ false = ne_eqb (slice_index reply 2) RESPONSE_TOO_LARGE (λ e. c.if-code-eq-RESPONSE_TOO_LARGE.false (c.byte_at-code.ensures ∙ e)) in
    let two : (slice_index reply 2 == LARGE_RESPONSE) ≡ true = eq-eqb (slice_index reply 2) LARGE_RESPONSE (sym c.byte_at-code.ensures ∙ c.if-code-eq-LARGE_RESPONSE.true) in
    subst (λ (b : Bool). AreRead r p m (cond b (g (little_number 4 (drop 4 reply))) (cond (slice_index reply 2 == LARGE_RESPONSE) (large (slice_index reply 4)) f)) c.large_values.result) (sym one)
    (subst (λ (b : Bool). AreRead r p m (cond b (large (slice_index reply 4)) f) c.large_values.result) (sym two)
    (subst (λ (b : ℕ). AreRead r p m (large b) c.large_values.result) c.byte_at.ensures (c.large_values.ensures r p f set at free short)))

pub returns : goal.returns
returns c = λ r p f set at free short.
    let m = c.args.message.now in
    let reply = c.args.response.now in
    let g : ℕ → Free = λ n. lengthened f (request_at p m) (n - length (answer_bytes r p m f)) in
    let large : Free = record (g (least_large p)) { handle = slice_index reply 4 } in
    let one : (slice_index reply 2 == RESPONSE_TOO_LARGE) ≡ false = ne_eqb (slice_index reply 2) RESPONSE_TOO_LARGE (λ e. c.if-code-eq-RESPONSE_TOO_LARGE.false (c.byte_at-code.ensures ∙ e)) in
    let two : (slice_index reply 2 == LARGE_RESPONSE) ≡ false = ne_eqb (slice_index reply 2) LARGE_RESPONSE (λ e. c.if-code-eq-LARGE_RESPONSE.false (c.byte_at-code.ensures ∙ e)) in
    subst (λ (b : Bool). IsFree c.args.values (cond b (g (little_number 4 (drop 4 reply))) (cond (slice_index reply 2 == LARGE_RESPONSE) large f))) (sym one)
    (subst (λ (b : Bool). IsFree c.args.values (cond b large f)) (sym two) free)
