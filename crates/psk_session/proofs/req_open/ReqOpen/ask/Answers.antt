use Rattle.std.proofs.Common.{◌∙◌, sym, subst, ap}
use Rattle.psk_session.specs.ReqOpen.{Seen, StandsFor}
use Rattle.psk_session.specs.ReqSession.{open_of}
use Rattle.psk_session.specs.declared.req_session.ReqSession.{ReqSession}
use Rattle.psk_session.proofs.req_open.ReqOpen.ask.Goals as goal

pub returns-in-Ok : goal.returns-in-Ok
returns-in-Ok c = λ psk s stands.
    let asked = c.in-Ok.ensures.asked psk s (c.self.invariant, subst (λ (x : Seen). StandsFor x psk s) (sym c.self.view_is) stands) in
    (asked.0, asked.1.1)

pub returns-in-Err : goal.returns-in-Err
returns-in-Err c = λ psk s stands. (
  c.in-Err.ensures.asked psk s (c.self.invariant, subst (λ (x : Seen). StandsFor x psk s) (sym c.self.view_is) stands),
  ap (λ (x : ReqSession). open_of x) c.in-Err.ensures.unchanged ∙ c.self.view_is,
)
