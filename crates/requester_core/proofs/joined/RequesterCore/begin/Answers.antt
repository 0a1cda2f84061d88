use Rattle.std.proofs.Common.{ℕ, List, sym, subst}
use Rattle.requester_core.proofs.BodiesJoined.{as_told, begun_follows, begun_refuses, brings, ignored_answer}
use Rattle.requester_core.specs.Hearing.{IsExchangeFor}
use Rattle.requester_core.specs.Joined.{IsAnswered}
use Rattle.requester_machine.specs.Asking.{Outcome}
use Rattle.requester_machine.specs.Hearing.{hears}
use Rattle.requester_core.proofs.joined.RequesterCore.begin.Goals as goal

pub returns-in-Ok : goal.returns-in-Ok
returns-in-Ok c = λ q h owner tag body f d padded came stands.
    let clear_state = c.args.self.now.clear_state in
    let answer = c.as_slice.result.now in
    let x = subst (λ (m : List ℕ). IsExchangeFor q h owner tag body c.args.id clear_state clear_state m) (sym c.as_slice.ensures.value) came in
    let told = c.in-Ok.ensures q h f tag d x.sent _ x.exchange padded (brings q h owner tag body c.args.id clear_state answer x) stands.sessions in
    let follows = begun_follows q h owner tag body c.args.id clear_state answer f d c.begin.new.self x told in
    subst (λ (o : Outcome). IsAnswered q h o c.follow.result c.follow.new.out c.follow.new.self) (sym follows.adds)
    (c.follow.ensures q h owner tag body f d _ follows.next follows.ask (record { clear_state = stands.clear_state; sessions = told.3; max = stands.gathers.max }) follows.adds follows.event follows.sends follows.aims)

pub returns-in-Err : goal.returns-in-Err
returns-in-Err c = λ q h owner tag body f d padded came stands.
    let clear_state = c.args.self.now.clear_state in
    let answer = c.as_slice.result.now in
    let x = subst (λ (m : List ℕ). IsExchangeFor q h owner tag body c.args.id clear_state clear_state m) (sym c.as_slice.ensures.value) came in
    let told = c.in-Err.ensures q h f tag d x.sent _ x.exchange padded (brings q h owner tag body c.args.id clear_state answer x) stands.sessions in
    as_told q h _ c.told.result _ _ _ c.told.ensures
    (ignored_answer q h (hears q h owner tag body f d) c.in-Err.cause c.args.out.now (record { clear_state = clear_state; gathered = c.args.self.now.gathered; sessions = c.begin.new.self; message = c.args.self.now.message })
    (begun_refuses q h owner tag body c.args.id clear_state answer f d c.in-Err.cause c.begin.new.self x told) (record { clear_state = stands.clear_state; sessions = told.2; gathers = stands.gathers }))
