use Rattle.std.proofs.Common.{◌∙◌, ap}
use Rattle.key_schedule.specs.Keys.{DirectionSecret}
use Rattle.responder_session.proofs.kept.update.Goals as goal

pub returns : goal.returns
returns c = λ few choice p is. record {
  hash = ap (λ (k : DirectionSecret). k.hash) c.update.ensures.value ∙ is.hash;
  aead = ap (λ (k : DirectionSecret). k.aead) c.update.ensures.value ∙ is.aead;
  secret = c.update.ensures.purpose p is.secret;
}
