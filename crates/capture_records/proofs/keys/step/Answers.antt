use Rattle.std.proofs.Common.{◌∙◌, ap}
use Rattle.key_schedule.specs.Keys.{DirectionSecret}
use Rattle.capture_records.proofs.keys.step.Goals as goal

pub returns : goal.returns
returns c = λ choice p is. record {
  hash = ap (λ (k : DirectionSecret). k.hash) c.update.ensures.value ∙ is.hash;
  aead = ap (λ (k : DirectionSecret). k.aead) c.update.ensures.value ∙ is.aead;
  secret = c.update.ensures.purpose p is.secret;
}
