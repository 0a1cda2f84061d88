use Rattle.std.proofs.Common.{◌∙◌, ◌≤◌, ap, sym, length, arith}
use Rattle.measurements.specs.Records.{is_missing}
use Rattle.responder_machine.specs.Place.{session_place}
use Rattle.spdm_grammar.specs.declared.messages.error_code.ErrorCode.TheVariants.{InvalidRequest, ResponseTooLarge}
use Rattle.responder_session.proofs.Doing.{refused_deed, missing_turn, too_long_turn, told_length, large_deed, measured_deed, measured_answer, fits_frame}
use Rattle.responder_session.proofs.requests.measure_of.Goals as goal

pub returns-then-is_err : goal.returns-then-is_err
returns-then-is_err c = λ r s f blocks free place a.
    refused_deed r s f c.args.message.now c.refused.new.out InvalidRequest c.refused.result c.refused.ensures.deed
    (c.refused.ensures.answer r s f place (λ e. cc))
    (missing_turn r s f c.args.message.now c.args.op a (ap (is_missing c.args.op) blocks ∙ sym c.record.ensures.missing ∙ sym c.is_err.ensures.value ∙ c.if-is_err.true))

pub returns-then-is_too_long : goal.returns-then-is_too_long
returns-then-is_too_long c = λ r s f blocks free place a.
    let found = ap (is_missing c.args.op) blocks ∙ sym c.record.ensures.missing ∙ sym c.is_err.ensures.value ∙ c.if-is_err.false in
    let long = c.write_measurements-len.ensures.size r f blocks free.nonce free.opaque in
    let is = sym (c.is_too_long.ensures (session_place s) (measured_answer r f c.args.op) place long) ∙ c.if-is_too_long.true in
    refused_deed r s f c.args.message.now c.write_error.new.out ResponseTooLarge _ Rattle.std.proofs.Common.refl
    (c.write_error.ensures.value r (session_place s) f place (λ e. told_length r s f c.args.message.now c.args.op c.write_measurements-len.result a long))
    (too_long_turn r s f c.args.message.now c.args.op a found is)

pub returns-then-goes_large : goal.returns-then-goes_large
returns-then-goes_large c = λ r s f blocks free place a.
    let found = ap (is_missing c.args.op) blocks ∙ sym c.record.ensures.missing ∙ sym c.is_err.ensures.value ∙ c.if-is_err.false in
    let long = c.write_measurements-len.ensures.size r f blocks free.nonce free.opaque in
    let fits = sym (c.is_too_long.ensures (session_place s) (measured_answer r f c.args.op) place long) ∙ c.if-is_too_long.false in
    let within = fits_frame r s (measured_answer r f c.args.op) a.sizes fits in
    large_deed r s f c.args.message.now c.write_measurements-len.new.out c.args.op a found fits
    (sym (c.goes_large.ensures (session_place s) (measured_answer r f c.args.op) place long) ∙ c.if-goes_large.true)
    (c.write_measurements-len.ensures.value r f blocks free.nonce free.opaque (omega (arith, long, within))) c.args.free.now.handle free.handle

pub returns : goal.returns
returns c = λ r s f blocks free place a.
    let found = ap (is_missing c.args.op) blocks ∙ sym c.record.ensures.missing ∙ sym c.is_err.ensures.value ∙ c.if-is_err.false in
    let long = c.write_measurements-len.ensures.size r f blocks free.nonce free.opaque in
    let fits = sym (c.is_too_long.ensures (session_place s) (measured_answer r f c.args.op) place long) ∙ c.if-is_too_long.false in
    let within = fits_frame r s (measured_answer r f c.args.op) a.sizes fits in
    measured_deed r s f c.args.message.now c.write_measurements-len.new.out c.args.op a found fits
    (sym (c.goes_large.ensures (session_place s) (measured_answer r f c.args.op) place long) ∙ c.if-goes_large.false)
    (c.write_measurements-len.ensures.value r f blocks free.nonce free.opaque (omega (arith, long, within)))
