use Rattle.std.proofs.Common.{◌≡◌, ◌∙◌, subst, sym, List, ℕ}
use Rattle.responder_core.specs.ClearPart.{IsBeginning, Seen}
use Rattle.responder_core.specs.Coming.{exchange_bytes, exchange_place}
use Rattle.responder_machine.specs.Answer.{answer_bytes}
use Rattle.responder_machine.specs.Place.{clear_place}
use Rattle.responder_core.proofs.clear.clear_place.ClearPlace.begin.Goals as goal

pub returns : goal.returns
returns c = λ r h f d handle ordered most beginning answered.
    let m : List ℕ = c.args.message.now in
    let same = sym (c.deref_mut.ensures.value ∙ c.self.view_is) in
    c.begin.ensures r h f d handle ordered most (subst (λ (s : Seen). IsBeginning r h c.args.tag m f c.args.begun s) same beginning)
    (subst (λ (s : Seen). c.args.answer.now ≡ answer_bytes r (exchange_place c.args.begun (clear_place h)) (exchange_bytes c.args.begun m s.requests) f) same answered)
