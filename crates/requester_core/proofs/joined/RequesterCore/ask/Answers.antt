use Rattle.std.proofs.Common.{refl, ◌∙◌, ap, Option}
use Rattle.std.specs.Option.{option_or}
use Rattle.requester_core.proofs.Joining.{ask_aims, asks_it, record_done}
use Rattle.requester_core.specs.InSession.{session_fault}
use Rattle.psk_session.specs.AskLaws.{command_at}
use Rattle.requester_machine.specs.History.{outstanding}
use Rattle.spdm_grammar.specs.declared.told.command_fault.CommandFault.{CommandFault}
use Rattle.requester_core.proofs.joined.RequesterCore.ask.Goals as goal
use Rattle.spdm_basis.proofs.Options.{none_out}
use Rattle.requester_core.proofs.Started.{told_fails}

pub returns-in-Some : goal.returns-in-Some
returns-in-Some c = λ q h f d padded short stands.
    let command = command_at c.args.id c.args.ask in (
      told_fails q h command f d c.in-Some.fault
          (c.session_fault.ensures.fault q h command f stands.clear_state.shows (asks_it c.args.id c.args.ask) ∙ ap (λ (o : Option CommandFault). option_or o (session_fault q h command f)) c.in-Some.is),
      stands,
    )

pub returns-in-Err : goal.returns-in-Err
returns-in-Err c = λ q h f d padded short stands.
    let none = none_out (outstanding h) (c.session_fault.ensures.idle h stands.clear_state.shows c.in_default.is) in
    let told = c.in-Err.ensures q h f d padded short none (c.session_fault.ensures.connected h stands.clear_state.shows c.in_default.is) stands.sessions in
    (told.0, record { clear_state = stands.clear_state; sessions = told.1; gathers = stands.gathers })

pub returns-in-Ok : goal.returns-in-Ok
returns-in-Ok c = λ q h f d padded short stands.
    let command = command_at c.args.id c.args.ask in
    let none = none_out (outstanding h) (c.session_fault.ensures.idle h stands.clear_state.shows c.in_default.is) in
    let told = c.in-Ok.ensures q h f d padded short none (c.session_fault.ensures.connected h stands.clear_state.shows c.in_default.is) stands.sessions in
    let aims = ask_aims q h f d c.args.id c.args.ask told.0 told.1 in
    record_done q h command f d c.send_record-tag.result c.write_record.new.out
    (record { clear_state = c.send_record-tag.new.self; gathered = c.args.self.now.gathered; sessions = c.ask.new.self; message = c.args.self.now.message })
    told.0 c.record.result.now told.1 (c.send_record-tag.ensures.told q h command f d told.0 aims.0 stands.clear_state told.1 aims.1)
    (c.record.ensures.bytes q _ told.0 c.args.id aims.0 refl aims.1 told.2) c.write_record.ensures told.2 stands.gathers.max
