use Rattle.std.proofs.Common.{◌∙◌, ap, sym, subst, false}
use Rattle.std.specs.Prelude.{Ok, Result}
use Rattle.requester_core.proofs.Joining.{clear_out, record_out, resent_done, resent_waits}
use Rattle.requester_core.specs.Commands.{IsRetried}
use Rattle.requester_core.specs.declared.clear.resend.Resend.{Resend}
use Rattle.requester_machine.specs.Asking.{asks}
use Rattle.requester_machine.specs.Message.Command.{Retry}
use Rattle.requester_machine.specs.Message.Content.{Clear}
use Rattle.spdm_grammar.specs.declared.told.command_fault.CommandFault.{CommandFault}
use Rattle.requester_core.proofs.joined.RequesterCore.retry.Goals as goal

pub returns-in-InClear : goal.returns-in-InClear
returns-in-InClear c = λ q h f d sizes stands.
    let r = subst (λ (x : Result Resend CommandFault). IsRetried q h f d x c.retry.new.out) (c.in_ok-again.was ∙ ap (λ (a : Resend). Ok a) c.in-InClear.is) (c.retry.ensures q h f d sizes stands.clear_state) in
    resent_done q h (asks false q h Retry f d) c.in-InClear.tag c.write_clear.new.out (record { clear_state = c.args.self.now.clear_state; gathered = c.args.self.now.gathered; sessions = c.args.self.now.sessions; message = c.retry.new.out }) r.0.sent r.0.outcome r.0.tag_is
    (clear_out r.0.sent.content c.as_slice.result.now c.write_clear.new.out (r.1 ∙ ap Clear (sym c.as_slice.ensures.value)) c.write_clear.ensures) (record { clear_state = stands.clear_state; sessions = stands.sessions; gathers = stands.gathers })

pub returns-in-InSession : goal.returns-in-InSession
returns-in-InSession c = λ q h f d sizes stands.
    let r = subst (λ (x : Result Resend CommandFault). IsRetried q h f d x c.retry.new.out) (c.in_ok-again.was ∙ ap (λ (a : Resend). Ok a) c.in-InSession.is) (c.retry.ensures q h f d sizes stands.clear_state) in
    resent_done q h (asks false q h Retry f d) c.in-InSession.tag c.write_record.new.out (record { clear_state = c.args.self.now.clear_state; gathered = c.args.self.now.gathered; sessions = c.args.self.now.sessions; message = c.retry.new.out }) r.0.sent r.0.outcome r.0.tag_is
    (record_out r.0.sent.content c.record.result.now c.write_record.new.out
    (c.record.ensures.bytes q h r.0.sent c.in-InSession.id r.1.0 (resent_waits q h f d r.0.sent r.0.outcome) r.1.1 stands.sessions) c.write_record.ensures) (record { clear_state = stands.clear_state; sessions = stands.sessions; gathers = stands.gathers })
