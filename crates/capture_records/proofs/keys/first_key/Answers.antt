use Rattle.std.proofs.Common.{subst, sym}
use Rattle.capture_records.specs.Keyed.{Keyed, data_purpose, t1_in, t2_in}
use Rattle.key_schedule.specs.declared.direction.Direction.{Direction}
use Rattle.session_keys.specs.Keys.{IsKeyOf}
use Rattle.capture_records.proofs.keys.first_key.Goals as goal

pub returns-in-Request : goal.returns-in-Request
returns-in-Request c =
    let s : Keyed = c.args.session.now in
    subst (λ (d : Direction). IsKeyOf c.app_keys-keys.result.request s.choice (data_purpose s c.args.psk.now d 0)) (sym c.in-Request.is)
    (c.app_keys-keys.ensures.request s.choice c.args.psk.now (t1_in s) (t2_in s) c.handshake_of.ensures.stands c.th2_of.ensures.value)

pub returns-in-Response : goal.returns-in-Response
returns-in-Response c =
    let s : Keyed = c.args.session.now in
    subst (λ (d : Direction). IsKeyOf c.app_keys-keys.result.response s.choice (data_purpose s c.args.psk.now d 0)) (sym c.in-Response.is)
    (c.app_keys-keys.ensures.response s.choice c.args.psk.now (t1_in s) (t2_in s) c.handshake_of.ensures.stands c.th2_of.ensures.value)
