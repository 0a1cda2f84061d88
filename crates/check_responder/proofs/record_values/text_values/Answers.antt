use Rattle.std.proofs.Common.{subst, drop, take, List, ℕ}
use Rattle.byteorder.specs.Endian.{little_number}
use Rattle.responder_machine.specs.Answer.{Free}
use Rattle.responder_machine.specs.Place.{session_place}
use Rattle.check_responder.specs.JudgedResponder.{AreRead}
use Rattle.check_laws.specs.AnswersShown.{values_in_inner}
use Rattle.check_responder.proofs.record_values.text_values.Goals as goal

pub returns : goal.returns
returns c = λ r s f set at free short.
    let request = c.args.request.now in
    let p = session_place s in
    let g : List ℕ → Free = λ pad. record f { pad = pad } in
    subst (λ (l : List ℕ). AreRead r p (drop 1 request) (values_in_inner r s request (g l) (take (little_number 2 c.args.text.now) (drop 2 c.args.text.now))) c.inner_values.result) c.pad_part.ensures
    (subst (λ (l : List ℕ). AreRead r p (drop 1 request) (values_in_inner r s request (g c.pad_part.result.now) l) c.inner_values.result) c.inner_part.ensures
    (c.inner_values.ensures r s (g c.pad_part.result.now) set at (c.with_pad-padded.ensures f free) (record { context = short.context; measured_opaque = short.measured_opaque; nonce = short.nonce })))
