use Rattle.std.proofs.Common.{refl, ◌≡◌, ◌∙◌, ◌≤◌, ℕ, Some, List, length, sym, ap, subst}
use Rattle.responder_machine.proofs.Settled.{answer_is}
use Rattle.responder_core.proofs.Passing.{answer_fits, answerable, passed_all, refused_for_answer, large_at, not_too_long, refused_for_form, refused_for_request, settled_at}
use Rattle.responder_core.proofs.Table.{none_there, pending_for}
use Rattle.responder_core.proofs.clear.clear_state.ClearState.tested.Goals as goal
use Rattle.responder_core.specs.Refused.{tests_of_answer}
use Rattle.responder_core.specs.ClearState.{place_at}
use Rattle.responder_rules.specs.Place.{where_of}
use Rattle.responder_machine.specs.Answer.{answer_bytes}
use Rattle.responder_machine.specs.Place.{Place}
use Rattle.spdm_basis.specs.Tests.{first_of_tests}
use Rattle.spdm_grammar.specs.Message.{RequestMessage, request_message}
use Rattle.spdm_grammar.specs.declared.names.TheConstants.{MAX_MESSAGE_SIZE}
use Rattle.spdm_grammar.specs.declared.messages.error_code.ErrorCode.{ErrorCode}

pub returns-in-Err-clause-tested : goal.returns-in-Err-clause-tested
returns-in-Err-clause-tested c = λ r turns f setup free stands place clear.
    let p : Place = place_at (where_of c.args.place.now.at) turns c.args.held in
    refused_for_form r p c.args.message.now f c.with.result (c.in-Err.ensures r p place (c.limit_of.ensures r setup) ∙ ap (λ (e : ErrorCode). Some e) (sym c.with.ensures))

pub returns-in-Some-clause-tested : goal.returns-in-Some-clause-tested
returns-in-Some-clause-tested c = λ r turns f setup free stands place clear.
    let p : Place = place_at (where_of c.args.place.now.at) turns c.args.held in
    let asked : RequestMessage = request_message c.in-Ok.request in
    let m : List ℕ = c.args.message.now in
    let read = c.in-Ok.ensures r p place (c.limit_of.ensures r setup) in
    let settled = settled_at c.args.self.now (where_of c.args.place.now.at) turns c.args.held stands in
    let large = large_at c.args.self.now (where_of c.args.place.now.at) turns c.args.held stands in
    let pending = pending_for r p m asked clear read.0 read.1 in
    let refused = sym (c.in-Some.ensures.value r p setup place large pending) ∙ ap (λ (e : ErrorCode). Some e) (sym c.with-in-Some.ensures) in
    refused_for_request r p m f asked c.with-in-Some.result clear settled read.0 read.1 refused

pub returns-in-Some-answer_fault-clause-tested : goal.returns-in-Some-answer_fault-clause-tested
returns-in-Some-answer_fault-clause-tested c = λ r turns f setup free stands place clear.
    let p : Place = place_at (where_of c.args.place.now.at) turns c.args.held in
    let asked : RequestMessage = request_message c.in-Ok.request in
    let m : List ℕ = c.args.message.now in
    let read = c.in-Ok.ensures r p place (c.limit_of.ensures r setup) in
    let settled = settled_at c.args.self.now (where_of c.args.place.now.at) turns c.args.held stands in
    let large = large_at c.args.self.now (where_of c.args.place.now.at) turns c.args.held stands in
    let pending = pending_for r p m asked clear read.0 read.1 in
    let passed = sym (c.contents_fault.ensures.value r p setup place large pending) ∙ none_there c.contents_fault.result c.in_default.not-Some in
    let able = answerable r p m c.args.self.now.large asked clear settled read.0 read.1 large passed in
    let long : c.write_answer-len.result ≡ length (answer_bytes r p m f) =
    c.write_answer-len.ensures.size r p m f setup place free able ∙ ap length (sym (answer_is r p m f asked read.1)) in
    let refused = sym (c.in-Some-answer_fault.ensures p (answer_bytes r p m f) place long refl) in
    refused_for_answer r p m f asked (record { code = c.in-Some-answer_fault.code; answer_len = c.write_answer-len.result }) clear settled read.0 read.1 passed
    (ap (λ (code : ℕ). first_of_tests (tests_of_answer p code (answer_bytes r p m f))) (sym c.code_of.ensures) ∙ refused) long

pub returns-clause-tested : goal.returns-clause-tested
returns-clause-tested c = λ r turns f setup free stands place clear.
    let p : Place = place_at (where_of c.args.place.now.at) turns c.args.held in
    let asked : RequestMessage = request_message c.in-Ok.request in
    let m : List ℕ = c.args.message.now in
    let read = c.in-Ok.ensures r p place (c.limit_of.ensures r setup) in
    let settled = settled_at c.args.self.now (where_of c.args.place.now.at) turns c.args.held stands in
    let large = large_at c.args.self.now (where_of c.args.place.now.at) turns c.args.held stands in
    let pending = pending_for r p m asked clear read.0 read.1 in
    let passed = sym (c.contents_fault.ensures.value r p setup place large pending) ∙ none_there c.contents_fault.result c.in_default.not-Some in
    let able = answerable r p m c.args.self.now.large asked clear settled read.0 read.1 large passed in
    let long : c.write_answer-len.result ≡ length (answer_bytes r p m f) =
    c.write_answer-len.ensures.size r p m f setup place free able ∙ ap length (sym (answer_is r p m f asked read.1)) in
    let fits = sym (c.answer_fault.ensures p (answer_bytes r p m f) place long refl) ∙ none_there c.answer_fault.result c.in_default-answer_fault.not-Some in
    passed_all r p m f asked clear settled read.0 read.1 passed (ap (λ (code : ℕ). first_of_tests (tests_of_answer p code (answer_bytes r p m f))) (sym c.code_of.ensures) ∙ fits)

pub returns-clause-answer : goal.returns-clause-answer
returns-clause-answer c = λ r turns f setup free stands place clear here.
    let p : Place = place_at (where_of c.args.place.now.at) turns c.args.held in
    let asked : RequestMessage = request_message c.in-Ok.request in
    let m : List ℕ = c.args.message.now in
    let read = c.in-Ok.ensures r p place (c.limit_of.ensures r setup) in
    let settled = settled_at c.args.self.now (where_of c.args.place.now.at) turns c.args.held stands in
    let large = large_at c.args.self.now (where_of c.args.place.now.at) turns c.args.held stands in
    let pending = pending_for r p m asked clear read.0 read.1 in
    let passed = sym (c.contents_fault.ensures.value r p setup place large pending) ∙ none_there c.contents_fault.result c.in_default.not-Some in
    let able = answerable r p m c.args.self.now.large asked clear settled read.0 read.1 large passed in
    let long : c.write_answer-len.result ≡ length (answer_bytes r p m f) =
    c.write_answer-len.ensures.size r p m f setup place free able ∙ ap length (sym (answer_is r p m f asked read.1)) in
    let fits = sym (c.answer_fault.ensures p (answer_bytes r p m f) place long refl) ∙ none_there c.answer_fault.result c.in_default-answer_fault.not-Some in
    let short = not_too_long p c.code_of.result (answer_bytes r p m f) fits in
    let few = answer_fits r p m f c.args.self.now.large asked clear settled read.0 read.1 able here short in
    c.write_answer-len.ensures.value r p m f setup place free able here (subst (λ (n : ℕ). n ≤ MAX_MESSAGE_SIZE) (sym (c.write_answer-len.ensures.size r p m f setup place free able)) few)
    ∙ sym (answer_is r p m f asked read.1)
