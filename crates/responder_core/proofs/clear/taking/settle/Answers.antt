use Rattle.std.proofs.Common.{◌∙◌, sym, subst}
use Rattle.responder_core.proofs.Taken.{caps_agree, caps_phase, offer_chosen, offer_phase}
use Rattle.responder_core.proofs.Table.{none_there}
use Rattle.responder_core.proofs.clear.taking.settle.Goals as goal
use Rattle.responder_core.specs.Taking.{IsTaking}
use Rattle.responder_machine.specs.Handling.{handle_for}
use Rattle.spdm_grammar.specs.Message.{offer_message, request_message}
use Rattle.spdm_grammar.specs.declared.messages.request.Request.{Request}

pub returns-in-GetVersion : goal.returns-in-GetVersion
returns-in-GetVersion c = λ r p f turns t setup stands phase taking.
    let now = subst (λ (q : Request). IsTaking r p c.args.message.now f (request_message q) c.args.answer.now t) c.in-GetVersion.is taking in
    c.take_version.ensures r p f turns t (handle_for p f c.args.answer.now) now.asked_is now.answer_is now.effect

pub returns-in-Some : goal.returns-in-Some
returns-in-Some c = λ r p f turns t setup stands phase taking.
    let caps = c.in-GetCapabilities.caps in
    let now = subst (λ (q : Request). IsTaking r p c.args.message.now f (request_message q) c.args.answer.now t) c.in-GetCapabilities.is taking in
    let versioned = sym phase ∙ caps_phase r p c.args.message.now f caps c.args.answer.now t now in
    c.take_capabilities.ensures r p f caps turns t (handle_for p f c.args.answer.now) stands versioned (c.common_with.ensures.fits r setup) now.asked_is (sym (c.in-Some.ensures.value r setup)) now.answer_is now.effect

pub returns-in_default-common_with : goal.returns-in_default-common_with
returns-in_default-common_with c = λ r p f turns t setup stands phase taking.
    let now = subst (λ (q : Request). IsTaking r p c.args.message.now f (request_message q) c.args.answer.now t) c.in-GetCapabilities.is taking in
    absurd (caps_agree r p c.args.message.now f c.in-GetCapabilities.caps c.args.answer.now t now (sym (c.common_with.ensures.value r setup) ∙ none_there c.common_with.result c.in_default-common_with.not-Some))

pub returns-in-Some-choice_of : goal.returns-in-Some-choice_of
returns-in-Some-choice_of c = λ r p f turns t setup stands phase taking.
    let offer = offer_message c.in-NegotiateAlgorithms.offer in
    let now = subst (λ (q : Request). IsTaking r p c.args.message.now f (request_message q) c.args.answer.now t) c.in-NegotiateAlgorithms.is taking in
    let capable = sym phase ∙ offer_phase r p c.args.message.now f offer c.args.answer.now t now in
    c.take_algorithms.ensures r p f offer turns t (handle_for p f c.args.answer.now) stands capable now.short now.asked_is (sym (c.in-Some-choice_of.ensures r setup)) now.answer_is now.effect

pub returns-in_default-choice_of : goal.returns-in_default-choice_of
returns-in_default-choice_of c = λ r p f turns t setup stands phase taking.
    let now = subst (λ (q : Request). IsTaking r p c.args.message.now f (request_message q) c.args.answer.now t) c.in-NegotiateAlgorithms.is taking in
    absurd (offer_chosen r p c.args.message.now f (offer_message c.in-NegotiateAlgorithms.offer) c.args.answer.now t now (sym (c.choice_of.ensures r setup) ∙ none_there c.choice_of.result c.in_default-choice_of.not-Some))
