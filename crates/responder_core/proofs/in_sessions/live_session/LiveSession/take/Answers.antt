use Rattle.std.proofs.Common.{refl, List, ℕ}
use Rattle.responder_core.proofs.Slots.{again, took, unopened}
use Rattle.responder_core.proofs.in_sessions.live_session.LiveSession.take.Goals as goal
use Rattle.responder_core.specs.declared.in_sessions.live_session.LiveSession.{LiveSession}

pub returns-in-Moved : goal.returns-in-Moved
returns-in-Moved c = λ r s f free epochs inventory stands.
    let sealed : List ℕ = c.args.sealed.now in
    let after : LiveSession = record { session = c.take_with.new.self; idle = 0; period = c.args.self.now.period } in
    let is = c.in-Moved.ensures.live r s f stands.sizes free.pad (λ _. inventory) (λ _. record { free = free; epochs = epochs }) stands.session in
    took r s f sealed c.args.self.now after c.in-Moved.act c.write_reply.new.out stands is refl refl c.write_reply.ensures

pub returns-in-Same : goal.returns-in-Same
returns-in-Same c = λ r s f free epochs inventory stands.
    let sealed : List ℕ = c.args.sealed.now in
    let after : LiveSession = record { session = c.take_with.new.self; idle = c.args.self.now.idle; period = c.args.self.now.period } in
    let is = c.in-Same.ensures.live r s f stands.sizes free.pad (λ _. inventory) (λ _. record { free = free; epochs = epochs }) stands.session in
    again r s f sealed c.args.self.now after c.write_reply-in-Same.new.out stands is refl refl c.write_reply-in-Same.ensures

pub returns-in-Unopened : goal.returns-in-Unopened
returns-in-Unopened c = λ r s f free epochs inventory stands.
    let sealed : List ℕ = c.args.sealed.now in
    let after : LiveSession = record { session = c.take_with.new.self; idle = c.args.self.now.idle; period = c.args.self.now.period } in
    let is = c.in-Unopened.ensures.live r s f stands.sizes free.pad (λ _. inventory) (λ _. record { free = free; epochs = epochs }) stands.session in
    unopened r s f sealed c.args.self.now after c.in-Unopened.fault c.args.out.now stands is refl refl
