use Rattle.std.proofs.Common.{refl, sym, subst}
use Rattle.requester_core.proofs.BodiesJoined.{as_told, asked, ignored_answer, record_follows, record_leads_to, record_settles, rest_answer}
use Rattle.requester_core.specs.Joined.{IsAnswered}
use Rattle.requester_core.specs.declared.in_sessions.record_outcome.RecordOutcome.TheVariants as seen
use Rattle.requester_machine.specs.Asking.{Outcome}
use Rattle.requester_machine.specs.Asking.Outcome.{Ignores}
use Rattle.requester_machine.specs.Hearing.{hears}
use Rattle.spdm_grammar.specs.declared.told.event.ReqIgnored.TheVariants as ignored
use Rattle.requester_core.proofs.joined.RequesterCore.on_record.Goals as goal

pub returns-in-Ignored : goal.returns-in-Ignored
returns-in-Ignored c = λ q h owner tag body f d sizes padded short same x stands.
    let told = c.in-Ignored.ensures q h f tag d x.sent c.args.id x.ask sizes padded short x.waits x.aims stands.sessions in
    as_told q h _ c.told.result _ _ _ c.told.ensures
    (ignored_answer q h (hears q h owner tag body f d) (ignored.Record c.in-Ignored.fault) c.args.out.now _
    (record_leads_to q h owner tag body c.args.id _ f d c.args.sealed.now x same (Ignores (ignored.Record c.in-Ignored.fault)) told.0)
    (record { clear_state = stands.clear_state; sessions = told.1; gathers = stands.gathers }))

pub returns-in-Sends : goal.returns-in-Sends
returns-in-Sends c = λ q h owner tag body f d sizes padded short same x stands.
    let a = c.in-Sends.ensures q h f tag d x.sent c.args.id x.ask sizes padded short x.waits x.aims stands.sessions in
    let follows = record_follows q h owner tag body c.args.id _ f d c.args.sealed.now x same seen.Sends c.on_record.new.self a refl refl in
    subst (λ (o : Outcome). IsAnswered q h o c.follow.result c.follow.new.out c.follow.new.self) (sym follows.adds)
    (c.follow.ensures q h owner tag body f d a.entry follows.next follows.ask (record { clear_state = stands.clear_state; sessions = a.stands; max = stands.gathers.max }) follows.adds follows.event follows.sends follows.aims)

pub returns-in-Rests : goal.returns-in-Rests
returns-in-Rests c = λ q h owner tag body f d sizes padded short same x stands.
    let a = c.in-Rests.ensures q h f tag d x.sent c.args.id x.ask sizes padded short x.waits x.aims stands.sessions in
    let settles = record_settles q h owner tag body c.args.id _ f d c.args.sealed.now x same (seen.Rests c.in-Rests.event) c.on_record.new.self a refl in
    as_told q h _ c.told-in-Rests.result _ _ _ c.told-in-Rests.ensures
    (rest_answer q h (hears q h owner tag body f d) a.entry c.in-Rests.event c.args.out.now c.settle.new.self settles.outcome a.event settles.next
    (c.settle.ensures q h owner tag body f d a.entry x.sent x.ask sizes (record { clear_state = stands.clear_state; sessions = a.stands; max = stands.gathers.max }) (asked q h owner tag body c.args.id _ f d c.args.sealed.now x same) settles a.event))

pub returns-in-Ends : goal.returns-in-Ends
returns-in-Ends c = λ q h owner tag body f d sizes padded short same x stands.
    let a = c.in-Ends.ensures q h f tag d x.sent c.args.id x.ask sizes padded short x.waits x.aims stands.sessions in
    let settles = record_settles q h owner tag body c.args.id _ f d c.args.sealed.now x same (seen.Ends c.in-Ends.event) c.on_record.new.self a refl in
    as_told q h _ c.told-in-Ends.result _ _ _ c.told-in-Ends.ensures
    (rest_answer q h (hears q h owner tag body f d) a.entry c.in-Ends.event c.args.out.now c.settle-in-Ends.new.self settles.outcome a.event settles.next
    (c.settle-in-Ends.ensures q h owner tag body f d a.entry x.sent x.ask sizes (record { clear_state = stands.clear_state; sessions = a.stands; max = stands.gathers.max }) (asked q h owner tag body c.args.id _ f d c.args.sealed.now x same) settles a.event))
