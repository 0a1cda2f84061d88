use Rattle.std.proofs.Common.{◌==◌, ◌∙◌, ap, List, ℕ}
use Rattle.std.specs.Prelude.{slice_index}
use Rattle.check_responder.proofs.KeysComing.{asks_had, none_asks}
use Rattle.check_responder.proofs.prepared_request.PreparedRequest.asks.Goals as goal

pub returns-in-Some : goal.returns-in-Some
returns-in-Some c = λ r h body coming.
    ap (λ (n : ℕ). n == c.args.code) (c.byte_at.ensures ∙ ap (λ (l : List ℕ). slice_index l 2) c.as_slice.ensures.value)
    ∙ asks_had c.args.self.now r h body c.args.code c.in-Some.field-0 c.in-Some.is coming

pub returns-in-None : goal.returns-in-None
returns-in-None c = λ r h body coming. none_asks c.args.self.now r h body c.args.code c.in-None.is coming
