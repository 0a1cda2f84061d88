use Rattle.std.proofs.Common.{ap, sym, refl}
use Rattle.std.proofs.lemmas.Bool.{false≢true}
use Rattle.negotiate.specs.declared.shared.Common.{Common}
use Rattle.responder_machine.specs.Place.{session_place}
use Rattle.responder_machine.specs.Session.{id_in_record, session_of}
use Rattle.spdm_grammar.specs.declared.messages.choice.Choice.{Choice}
use Rattle.spdm_machine.specs.Bodies.{record_body}
use Rattle.check_responder.proofs.RecordTold.{not_given}
use Rattle.check_responder.proofs.judged_responder.JudgedResponder.gives_under.Goals as goal
use Rattle.check_laws.specs.AnswersShown.{least_values}
use Rattle.check_responder.specs.ShownBy.{text_shown}

pub returns-in-Some-clause-told : goal.returns-in-Some-clause-told
returns-in-Some-clause-told c = λ r h tag set stands few terms opens.
    let s = session_of (id_in_record c.args.request.now) h in
    let chosen = ap (λ (x : Choice). x.hash) (sym terms.1.choice) in
    let place = c.at_round-at.ensures (session_place s) chosen (ap (λ (x : Common). x.to_requester.transfer) (sym terms.1.common)) refl in
    let least = c.least_values-least.ensures r h (session_place s) stands chosen in
    let free = c.in-Some.ensures r s (least_values h (session_place s)) set place least (record { context = refl; measured_opaque = refl; nonce = refl }) in
    c.gives.ensures.told r h tag (text_shown r h c.args.request.now c.args.inner.now c.args.text.now) set stands few free chosen opens

pub returns-in-Some-clause-stands : goal.returns-in-Some-clause-stands
returns-in-Some-clause-stands c = λ r h tag set stands few terms is.
    let s = session_of (id_in_record c.args.request.now) h in
    let chosen = ap (λ (x : Choice). x.hash) (sym terms.1.choice) in
    let place = c.at_round-at.ensures (session_place s) chosen (ap (λ (x : Common). x.to_requester.transfer) (sym terms.1.common)) refl in
    let least = c.least_values-least.ensures r h (session_place s) stands chosen in
    let free = c.in-Some.ensures r s (least_values h (session_place s)) set place least (record { context = refl; measured_opaque = refl; nonce = refl }) in
    c.gives.ensures.stands r h tag (text_shown r h c.args.request.now c.args.inner.now c.args.text.now) set stands few free is

pub returns-in-None-clause-told : goal.returns-in-None-clause-told
returns-in-None-clause-told c = λ r h tag set stands few terms opens.
    let s = session_of (id_in_record c.args.request.now) h in
    let chosen = ap (λ (x : Choice). x.hash) (sym terms.1.choice) in
    let place = c.at_round-at.ensures (session_place s) chosen (ap (λ (x : Common). x.to_requester.transfer) (sym terms.1.common)) refl in
    let least = c.least_values-least.ensures r h (session_place s) stands chosen in
    let long = c.in-None.ensures r s (least_values h (session_place s)) set place least (record { context = refl; measured_opaque = refl; nonce = refl }) in (
      λ no. absurd (false≢true no),
      λ a. absurd (not_given r h tag c.args.request.now c.args.inner.now (text_shown r h c.args.request.now c.args.inner.now c.args.text.now) (record_body c.args.sealed.now) opens long a),
    )
