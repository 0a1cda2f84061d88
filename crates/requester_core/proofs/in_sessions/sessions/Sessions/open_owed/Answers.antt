use Rattle.std.proofs.Common.{◌∙◌, sym}
use Rattle.requester_core.proofs.OwedOpened.{own_names_not, own_opens, short_as}
use Rattle.requester_machine.specs.Owed.{with_next}
use Rattle.std.specs.Prelude.{Some}
use Rattle.requester_core.proofs.in_sessions.sessions.Sessions.open_owed.Goals as goal

pub returns-then-not-names : goal.returns-then-not-names
returns-then-not-names c = λ q bare sent id ask took aims short stands.
    let x = c.args.self.now in
    let named = c.names.ensures q (with_next (Some sent) bare) stands (short_as x q bare id ask sent took aims stands short) in
    own_names_not x q bare id ask sent took aims stands c.args.sealed.now c.args.out.now (sym c.if-not-names.true ∙ named)

pub returns : goal.returns
returns c = λ q bare sent id ask took aims short stands.
    let x = c.args.self.now in
    let named = c.names.ensures q (with_next (Some sent) bare) stands (short_as x q bare id ask sent took aims stands short) in
    own_opens x q bare id ask sent took aims stands c.args.sealed.now c.open_last_at.result c.open_last_at.new.out c.is_ok.result c.is_ok.ensures.value (sym c.if-not-names.false ∙ named) c.open_last_at.ensures
