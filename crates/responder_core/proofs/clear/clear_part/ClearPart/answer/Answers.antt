-- A message is answered, whether it begins a session or not.
use Rattle.std.proofs.Common.{◌∙◌, sym, subst, ap, List, ℕ}
use Rattle.responder_core.specs.ClearPart.{IsAnswered}
use Rattle.responder_core.specs.Starting.{IsStartedAt}
use Rattle.responder_machine.specs.Place.{clear_place}
use Rattle.responder_core.proofs.clear.clear_part.ClearPart.answer.Goals as goal
use Rattle.spdm_grammar.specs.declared.told.heard.Heard.TheVariants as heard

pub returns-in-Same : goal.returns-in-Same
returns-in-Same c = λ r h f d setup free allowed stands held. (c.in-Same.ensures.told r h f d setup free stands held).0

pub returns-in-Refused : goal.returns-in-Refused
returns-in-Refused c = λ r h f d setup free allowed stands held.
    subst (λ (n : ℕ). IsAnswered r h c.args.tag c.args.message.now f d (heard.Refused n) c.on_clear.new.self c.on_clear.new.out) (sym c.number.ensures) (c.in-Refused.ensures.told r h f d setup free stands held).0

pub returns-in-Answered : goal.returns-in-Answered
returns-in-Answered c = λ r h f d setup free allowed stands held. (c.in-Answered.ensures.told r h f d setup free stands held).0

pub returns-in-Begins : goal.returns-in-Begins
returns-in-Begins c = λ r h f d setup free allowed stands held.
    let m : List ℕ = c.args.message.now in
    let tag : ℕ = c.args.tag in
    let beginning = c.in-Begins.ensures.told r h f d setup free stands held in
    let bytes = c.as_slice.ensures.value in
    let started = subst (λ (a : List ℕ). IsStartedAt r h m f c.in-Begins.begun c.on_clear.new.self.requests c.start-session.result a) (sym bytes) (c.start-session.ensures r h tag f setup free allowed beginning) in
    let told = c.begin.ensures r h f d free.handle setup.ordered setup.most beginning started.answer_is in
    record { told = ap heard.Answered (c.code.ensures r (clear_place h) m f c.on_clear.new.self.requests beginning.begins) ∙ told.told; body = told.body; stands = told.stands }
