use Rattle.std.proofs.Common.{refl, sym, subst}
use Rattle.requester_machine.specs.Session.{t1_of}
use Rattle.spdm_machine.specs.Terms.{terms_of}
use Rattle.psk_session.specs.Finishing.{Seen, StandsFor}
use Rattle.psk_session.specs.Opening.{accepted}
use Rattle.psk_session.proofs.finishing.Finishing.open_last.Goals as goal

pub returns-clause-opened : goal.returns-clause-opened
returns-clause-opened c = λ psk n exchange answer pad stands.
    let inside = subst (λ (x : Seen). StandsFor x psk n exchange answer pad) (sym c.self.view_is) stands in
    c.open_own.ensures.opened psk (accepted n exchange answer)
    (record { is_key = c.request_key.ensures (terms_of n).choice psk (t1_of (accepted n exchange answer)) inside.handshake; is_id = inside.id }) refl
