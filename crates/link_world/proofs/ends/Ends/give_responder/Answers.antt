use Rattle.std.proofs.Common.{refl, ◌≡◌, ◌∙◌, ◌+◌, ℕ, List, Bool, ap}
use Rattle.std.proofs.lemmas.Result.{on_ok_weaker}
use Rattle.std.specs.Prelude.{slice_index}
use Rattle.link_world.proofs.GivenTo.{responder_given}
use Rattle.link_world.specs.Standing.{counted}
use Rattle.responder_machine.specs.Responding.{responder_hears}
use Rattle.spdm_machine.specs.Sessions.{one_if}
use Rattle.world_machine.specs.World.{number_at}
use Rattle.link_world.proofs.ends.Ends.give_responder.Goals as goal

pub returns : goal.returns
returns c = λ w e.
    let ends = c.args.self.now in
    let packet : List ℕ = c.args.packet.now in
    let step = c.on_packet-heard.ensures.step w.responder e.responder in
    let number : c.number_of-q.result ≡ number_at (slice_index packet 2) w = c.number_of-q.ensures w e ∙ ap (λ (n : ℕ). number_at n w) c.source.ensures in
    on_ok_weaker c.push_heard.result (responder_given w ends _ c.number_of-q.result packet c.on_packet-heard.result c.last_data.result.now c.on_packet-heard.new.out c.args.text.now c.push_heard.new.text e refl refl step number
    (c.last_data.ensures (responder_hears w.responder packet).after step.stands)
    (c.with_one-self.ensures ∙ ap (λ (b : Bool). counted (ends.taken + one_if b)) c.is_taken.ensures))
    c.push_heard.ensures
