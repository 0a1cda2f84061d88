use Rattle.std.proofs.Common.{refl}
use Rattle.psk_session.proofs.opening.Opening.take_response_with.Goals as goal

pub returns-in-Err : goal.returns-in-Err
returns-in-Err c = λ psk n exchange stands. (c.in-Err.ensures psk n exchange stands, refl)
