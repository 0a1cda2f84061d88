use Rattle.std.proofs.Common.{refl, ◌≡◌, ◌∙◌, sym, subst, ap, List, ℕ}
use Rattle.std.specs.Prelude.{◌==◌}
use Rattle.responder_core.proofs.NoExchange.{other_request}
use Rattle.responder_core.proofs.Taken.{effect_is, message_short, plain_is}
use Rattle.responder_core.proofs.clear.clear_state.ClearState.handle.Goals as goal
use Rattle.responder_core.specs.Refused.{IsClear, IsPassed, IsRefused}
use Rattle.responder_core.specs.ClearState.{place_at}
use Rattle.responder_core.specs.Taking.{IsTaking}
use Rattle.responder_rules.specs.Place.{IsPlace, where_of}
use Rattle.responder_machine.proofs.Codes.{asked-code}
use Rattle.responder_machine.specs.Answer.{answer_bytes}
use Rattle.responder_machine.specs.Handling.{chunk_in, sent_for}
use Rattle.responder_machine.specs.Place.{Place, Where}
use Rattle.spdm_grammar.specs.Message.{RequestMessage, request_message}
use Rattle.spdm_grammar.specs.declared.names.request_code.TheConstants.{PSK_EXCHANGE}
use Rattle.spdm_grammar.specs.declared.messages.request.Request.{Request}

pub returns-in-Err-clause-handled : goal.returns-in-Err-clause-handled
returns-in-Err-clause-handled c = λ r turns f setup free stands clear.
    let p : Place = place_at (where_of c.args.at) turns c.args.held in
    let m : List ℕ = c.args.message.now in
    let place = c.place-place.ensures turns c.args.held stands in
    let same = place.at in
    let here = subst (λ (a : Where). IsPlace c.place-place.result (place_at a turns c.args.held)) same place in
    let cleared = subst IsClear same clear in
    let refused = subst (λ (a : Where). IsRefused r (place_at a turns c.args.held) m f c.in-Err.refused) (sym same) (c.in-Err.ensures.tested r turns f setup free stands here cleared) in
    (refused.code, refl, c.write_error.ensures.value r p f place refused.answer)

pub returns-in-ChunkSend-clause-handled : goal.returns-in-ChunkSend-clause-handled
returns-in-ChunkSend-clause-handled c = λ r turns f setup free stands clear.
    let p : Place = place_at (where_of c.args.at) turns c.args.held in
    let m : List ℕ = c.args.message.now in
    let place = c.place-place.ensures turns c.args.held stands in
    let same = place.at in
    let here = subst (λ (a : Where). IsPlace c.place-place.result (place_at a turns c.args.held)) same place in
    let cleared = subst IsClear same clear in
    let passed = subst (λ (a : Where). IsPassed r (place_at a turns c.args.held) m f (request_message c.in-Ok.request)) (sym same) (c.in-Ok.ensures.tested r turns f setup free stands here cleared) in
    let now = subst (λ (q : Request). IsPassed r p m f (request_message q)) c.in-ChunkSend.is passed in
    (now.form, now.asked_is, now.refused, refl)

pub returns-in-PskExchange-clause-handled : goal.returns-in-PskExchange-clause-handled
returns-in-PskExchange-clause-handled c = λ r turns f setup free stands clear.
    let p : Place = place_at (where_of c.args.at) turns c.args.held in
    let m : List ℕ = c.args.message.now in
    let place = c.place-place.ensures turns c.args.held stands in
    let same = place.at in
    let here = subst (λ (a : Where). IsPlace c.place-place.result (place_at a turns c.args.held)) same place in
    let cleared = subst IsClear same clear in
    let passed = subst (λ (a : Where). IsPassed r (place_at a turns c.args.held) m f (request_message c.in-Ok.request)) (sym same) (c.in-Ok.ensures.tested r turns f setup free stands here cleared) in
    let now = subst (λ (q : Request). IsPassed r p m f (request_message q)) c.in-PskExchange.is passed in
    (now.form, now.refused, now.asked_is, refl)

pub returns-in_default-clause-handled : goal.returns-in_default-clause-handled
returns-in_default-clause-handled c = λ r turns f setup free stands clear.
    let p : Place = place_at (where_of c.args.at) turns c.args.held in
    let m : List ℕ = c.args.message.now in
    let place = c.place-place.ensures turns c.args.held stands in
    let same = place.at in
    let here = subst (λ (a : Where). IsPlace c.place-place.result (place_at a turns c.args.held)) same place in
    let cleared = subst IsClear same clear in
    let passed = subst (λ (a : Where). IsPassed r (place_at a turns c.args.held) m f (request_message c.in-Ok.request)) (sym same) (c.in-Ok.ensures.tested r turns f setup free stands here cleared) in
    let asked : RequestMessage = request_message c.in-Ok.request in
    let plain = plain_is c.in-Ok.request c.in_default.not-ChunkSend c.in_default.not-PskExchange in
    let taken = passed.refused ∙ plain.no_fault r p in
    let answered : c.tested.new.answer ≡ answer_bytes r p m f =
    subst (λ (a : Where). c.tested.new.answer ≡ answer_bytes r (place_at a turns c.args.held) m f) (sym same) (c.in-Ok.ensures.answer r turns f setup free stands here cleared plain.here) in
    let effect = effect_is r p m f asked c.tested.new.answer passed.asked_is answered in
    let short = message_short r p m clear setup.ordered setup.most passed.form in (
      taken,
      ap chunk_in passed.asked_is ∙ plain.no_chunk,
      (λ t is_taken took. c.answer.ensures.stands r turns c.args.held f t setup free.handle stands here
          (subst (λ (a : Where). IsTaking r (place_at a turns c.args.held) m f asked c.tested.new.answer t) same (record {
            clear = clear;
            form = passed.form;
            asked_is = passed.asked_is;
            refused = taken;
            short = short;
            answer_is = answered;
            taken = is_taken;
            effect = took ∙ effect;
          }))),
      c.answer.ensures.sent p f place free.handle ∙ ap (sent_for p f) answered,
      ap (λ (n : ℕ). n == PSK_EXCHANGE) (sym (asked-code p m asked passed.asked_is)) ∙ other_request asked plain.here,
      c.code_of.ensures ∙ asked-code p m asked passed.asked_is,
    )
