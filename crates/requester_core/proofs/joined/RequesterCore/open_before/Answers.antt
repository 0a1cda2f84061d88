use Rattle.std.proofs.Common.{◌∙◌, ◌<◌, ◌-◌, ◌^◌, ℕ, ap, sym, subst}
use Rattle.std.specs.Prelude.{Some}
use Rattle.requester_core.proofs.OwedClear.{any_of, clear_named, in_session_of, out_last}
use Rattle.requester_core.proofs.OwedSessions.{as_long}
use Rattle.requester_machine.specs.Owed.{with_next}
use Rattle.requester_core.specs.OwnRecords.{OpensAs, awaits_record}
use Rattle.requester_machine.specs.Session.{Steps}
use Rattle.requester_core.proofs.joined.RequesterCore.open_before.Goals as goal

pub returns-then-awaits_record : goal.returns-then-awaits_record
returns-then-awaits_record c = λ q bare sent took short stands.
    let h = with_next (Some sent) bare in
    let sealed = sym (ap awaits_record (out_last bare sent.aim sent took)) ∙ sym (c.awaits_record.ensures h stands.clear_state.shows) ∙ c.if-awaits_record.true in
    let its = in_session_of bare sent.aim took sealed in
    c.open_before.ensures q bare sent its.id its.ask its.took its.aims short stands.sessions

pub returns-else-awaits_record : goal.returns-else-awaits_record
returns-else-awaits_record c = λ q bare sent took short stands.
    let h = with_next (Some sent) bare in
    let idle = sym (c.awaits_record.ensures h stands.clear_state.shows) ∙ c.if-awaits_record.false in
    let clear = sym (ap awaits_record (out_last bare sent.aim sent took)) ∙ idle in
    let long = subst (λ (n : ℕ). n < 2 ^ 64 - 1) (sym (as_long (Some sent) bare)) short in
    subst (λ (s : Steps). OpensAs q.psk s c.args.sealed.now c.open_next.result c.open_next.new.out) (clear_named bare sent c.args.sealed.now (any_of bare sent.aim took clear) clear)
    (c.open_next.ensures.resting q h stands.sessions long idle)
