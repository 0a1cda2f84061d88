use Rattle.std.proofs.Common.{◌≡◌, ◌∙◌, ◌==◌, sym, subst, cond, Bool, true, false}
use Rattle.std.proofs.lemmas.Bool.{eq-eqb, ne_eqb}
use Rattle.std.specs.Prelude.{slice_index}
use Rattle.responder_core.specs.Free.{IsFree}
use Rattle.responder_machine.specs.Answer.{Free, request_at}
use Rattle.responder_machine.specs.Place.{place_terms}
use Rattle.spdm_grammar.specs.Responses.{response_in}
use Rattle.spdm_grammar.specs.declared.names.response_code.TheConstants.{ERROR}
use Rattle.spdm_machine.specs.Terms.{hash_len}
use Rattle.check_responder.specs.JudgedResponder.{AreRead}
use Rattle.check_laws.specs.AnswersShown.{asks_summary, values_in_error, with_fields}
use Rattle.check_responder.proofs.response_values.values_in.Goals as goal

pub returns-then-byte_at-eq-ERROR : goal.returns-then-byte_at-eq-ERROR
returns-then-byte_at-eq-ERROR c = λ r p f set at free short.
    let m = c.args.message.now in
    let reply = c.args.response.now in
    let other : Free = with_fields f (request_at p m) (response_in (hash_len (place_terms p)) (asks_summary (request_at p m)) reply) in
    let is : (slice_index reply 1 == ERROR) ≡ true = eq-eqb (slice_index reply 1) ERROR (sym c.byte_at.ensures ∙ c.if-byte_at-eq-ERROR.true) in
    subst (λ (b : Bool). AreRead r p m (cond b (values_in_error r p m f reply) other) c.error_values.result) (sym is) (c.error_values.ensures r p f set at free short)

pub returns : goal.returns
returns c = λ r p f set at free short.
    let m = c.args.message.now in
    let reply = c.args.response.now in
    let other : Free = with_fields f (request_at p m) (response_in (hash_len (place_terms p)) (asks_summary (request_at p m)) reply) in
    let is : (slice_index reply 1 == ERROR) ≡ false = ne_eqb (slice_index reply 1) ERROR (λ e. c.if-byte_at-eq-ERROR.false (c.byte_at.ensures ∙ e)) in
    subst (λ (b : Bool). IsFree c.field_values.result (cond b (values_in_error r p m f reply) other)) (sym is) (c.field_values.ensures p f at.hash free)
