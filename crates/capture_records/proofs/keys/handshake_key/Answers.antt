use Rattle.std.proofs.Common.{subst, sym}
use Rattle.capture_records.specs.Keyed.{Keyed, handshake_purpose, t1_in}
use Rattle.key_schedule.specs.declared.direction.Direction.{Direction}
use Rattle.session_keys.specs.Keys.{IsKeyOf}
use Rattle.capture_records.proofs.keys.handshake_key.Goals as goal

pub returns-in-Request : goal.returns-in-Request
returns-in-Request c =
    let s : Keyed = c.args.session.now in
    subst (λ (d : Direction). IsKeyOf c.request_key.result s.choice (handshake_purpose s c.args.psk.now d)) (sym c.in-Request.is)
    (c.request_key.ensures s.choice c.args.psk.now (t1_in s) c.handshake_of-handshake.ensures.stands)

pub returns-in-Response : goal.returns-in-Response
returns-in-Response c =
    let s : Keyed = c.args.session.now in
    subst (λ (d : Direction). IsKeyOf c.response_key.result s.choice (handshake_purpose s c.args.psk.now d)) (sym c.in-Response.is)
    (c.response_key.ensures s.choice c.args.psk.now (t1_in s) c.handshake_of-handshake.ensures.stands)
