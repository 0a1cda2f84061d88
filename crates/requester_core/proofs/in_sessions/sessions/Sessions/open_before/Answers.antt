use Rattle.std.proofs.Common.{◌∙◌}
use Rattle.requester_core.proofs.OwedOpened.{named_as, others_before, own_before, short_as}
use Rattle.requester_core.proofs.OwnSlots.{opens_none}
use Rattle.requester_machine.specs.Owed.{with_next}
use Rattle.std.specs.Prelude.{Some}
use Rattle.requester_core.proofs.in_sessions.sessions.Sessions.open_before.Goals as goal

pub returns-in-Some : goal.returns-in-Some
returns-in-Some c = λ q bare sent id ask took aims short stands.
    let x = c.args.self.now in
    let named = c.in-Some.ensures q (with_next (Some sent) bare) stands (short_as x q bare id ask sent took aims stands short) in
    own_before x q bare id ask sent took aims stands c.args.sealed.now c.in-Some.id c.open_last_at.result c.open_last_at.new.out c.is_ok.result c.is_ok.ensures.value named c.if-id-self.true c.open_last_at.ensures

pub returns-in-Some-2 : goal.returns-in-Some-2
returns-in-Some-2 c = λ q bare sent id ask took aims short stands.
    let x = c.args.self.now in
    let named = c.in-Some.ensures q (with_next (Some sent) bare) stands (short_as x q bare id ask sent took aims stands short) in
    others_before x q bare id ask sent took aims stands c.args.sealed.now c.in-Some.id c.open_next_at.result c.open_next_at.new.out c.is_ok-in-Some-2.result c.is_ok-in-Some-2.ensures.value named c.if-id-self.false c.open_next_at.ensures

pub returns-in-None : goal.returns-in-None
returns-in-None c = λ q bare sent id ask took aims short stands.
    let x = c.args.self.now in
    let named = c.in-None.ensures q (with_next (Some sent) bare) stands (short_as x q bare id ask sent took aims stands short) in
    opens_none q.psk bare c.args.sealed.now c.args.out.now (named ∙ named_as x q bare id ask sent took aims stands c.args.sealed.now)
