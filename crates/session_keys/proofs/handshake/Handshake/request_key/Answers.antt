use Rattle.std.proofs.Common.{ap, sym, subst}
use Rattle.key_schedule.specs.Keys.{DirectionSecret}
use Rattle.key_schedule.specs.Purpose.{handshake_record}
use Rattle.key_schedule.specs.declared.direction.Direction.TheVariants.{Request}
use Rattle.session_keys.specs.Keys.{IsKeyOf}
use Rattle.session_keys.proofs.Purposes.{handshake_key}
use Rattle.session_keys.proofs.handshake.Handshake.request_key.Goals as goal

pub returns : goal.returns
returns c = λ choice psk t1 is.
    subst (λ (x : DirectionSecret). IsKeyOf x choice (handshake_record psk t1 Request)) (sym c.new.ensures)
    (handshake_key c.args.self.now choice psk t1 c.request_key.result Request is
    (ap (λ (x : DirectionSecret). x.hash) c.request_key.ensures.value) (ap (λ (x : DirectionSecret). x.aead) c.request_key.ensures.value) c.request_key.ensures.purpose)
