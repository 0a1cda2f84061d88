use Rattle.std.proofs.Common.{ap, sym, subst}
use Rattle.key_schedule.specs.Keys.{DirectionSecret}
use Rattle.key_schedule.specs.Purpose.{handshake_record}
use Rattle.key_schedule.specs.declared.direction.Direction.TheVariants.{Response}
use Rattle.session_keys.specs.Keys.{IsKeyOf}
use Rattle.session_keys.proofs.Purposes.{handshake_key}
use Rattle.session_keys.proofs.handshake.Handshake.response_key.Goals as goal

pub returns : goal.returns
returns c = λ choice psk t1 is.
    subst (λ (x : DirectionSecret). IsKeyOf x choice (handshake_record psk t1 Response)) (sym c.new.ensures)
    (handshake_key c.args.self.now choice psk t1 c.response_key.result Response is
    (ap (λ (x : DirectionSecret). x.hash) c.response_key.ensures.value) (ap (λ (x : DirectionSecret). x.aead) c.response_key.ensures.value) c.response_key.ensures.purpose)
