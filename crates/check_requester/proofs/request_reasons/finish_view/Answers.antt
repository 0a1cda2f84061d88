use Rattle.std.proofs.Common.{◌∙◌, sym, Some}
use Rattle.check_requester.proofs.FinishApart.{aimed_at, in_handshake, long_with, none_awaited, not_handshake, shown_finish, shown_other, shown_some}
use Rattle.check_requester.proofs.request_reasons.finish_view.Goals as goal
use Rattle.requester_machine.specs.Owed.{with_next}

pub returns-in_default : goal.returns-in_default
returns-in_default c = λ q bare sent took short stands. none_awaited c.args.asking.now q bare sent took stands (c.in_default.ensures q (with_next (Some sent) bare) stands)

pub returns-in_default-view : goal.returns-in_default-view
returns-in_default-view c = λ q bare sent took short stands.
    let h = with_next (Some sent) bare in
    let its = aimed_at c.args.asking.now q bare sent took stands c.in-Some.id (c.in-Some.ensures q h stands) in
    shown_some c.args.asking.now q bare sent took stands c.in-Some.id its.0 its.1 (c.in_default-view.ensures q h stands (long_with bare sent short))

pub returns-then-is_handshake : goal.returns-then-is_handshake
returns-then-is_handshake c = λ q bare sent took short stands.
    let h = with_next (Some sent) bare in
    let its = aimed_at c.args.asking.now q bare sent took stands c.in-Some.id (c.in-Some.ensures q h stands) in
    shown_finish c.args.asking.now q bare sent took stands c.in-Some.id its.0 its.1 c.in-Some-view.view (c.in-Some-view.ensures q h stands (long_with bare sent short)) (in_handshake _ (sym c.is_handshake.ensures ∙ c.if-is_handshake.true))

pub returns-else-is_handshake : goal.returns-else-is_handshake
returns-else-is_handshake c = λ q bare sent took short stands.
    let h = with_next (Some sent) bare in
    let its = aimed_at c.args.asking.now q bare sent took stands c.in-Some.id (c.in-Some.ensures q h stands) in
    shown_other c.args.asking.now q bare sent took stands c.in-Some.id its.0 its.1 c.in-Some-view.view (c.in-Some-view.ensures q h stands (long_with bare sent short)) (not_handshake _ (sym c.is_handshake.ensures ∙ c.if-is_handshake.false))
