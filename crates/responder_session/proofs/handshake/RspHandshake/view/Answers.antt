use Rattle.std.proofs.Common.{◌<◌, ◌^◌, sym, subst, ℕ, arith}
use Rattle.responder_session.proofs.handshake.RspHandshake.view.Goals as goal

pub returns : goal.returns
returns c = λ r s stands.
    c.view.ensures.shown r.psk s stands.session.keeps (sym stands.stage) (subst (λ (n : ℕ). n < 2 ^ 64) (sym (stands.session.fresh stands.stage).taken) (omega arith))
