use Rattle.std.proofs.Common.{◌≡◌, ◌≢◌, ◌∙◌, ◌==◌, ◌&&◌, ℕ, Bool, refl, sym, ap, subst, ne_eqb}
use Rattle.capture_bodies.proofs.Places.{answered_away, keeps_after, stand_here}
use Rattle.capture_bodies.proofs.Staying.{stays}
use Rattle.capture_bodies.specs.Keeping.{StandsFor, eid_of}
use Rattle.capture_bodies.specs.declared.gathering.Pair.{Pair}
use Rattle.mctp_framing.specs.Packet.{PacketFields, view_of}
use Rattle.capture_bodies.proofs.gathering.Gathering.take_answer.Goals as goal

pub returns-clause-came : goal.returns-clause-came
returns-clause-came c = λ own eids older k.
    let to = c.args.view.to in
    let d : Pair = c.index_mut.result.now in
    let from : c.args.view.from ≡ own = c.requires.from ∙ k.at in
    let other : to ≢ own = λ is. c.requires.other (is ∙ sym k.at) in
    let stand = stand_here c.args.self.now own eids older k to c.args.place c.requires.inside c.requires.first other d c.index_mut.ensures.value in
    c.take.ensures.came to c.args.view.from older (subst (λ (n : ℕ). StandsFor d.answers to n older) (sym from) stand.answers)

pub returns-clause-large : goal.returns-clause-large
returns-clause-large c = λ own eids older k.
    let to = c.args.view.to in
    let d : Pair = c.index_mut.result.now in
    let from : c.args.view.from ≡ own = c.requires.from ∙ k.at in
    let other : to ≢ own = λ is. c.requires.other (is ∙ sym k.at) in
    let stand = stand_here c.args.self.now own eids older k to c.args.place c.requires.inside c.requires.first other d c.index_mut.ensures.value in
    c.take.ensures.large to c.args.view.from older (subst (λ (n : ℕ). StandsFor d.answers to n older) (sym from) stand.answers)

pub returns-clause-keeps : goal.returns-clause-keeps
returns-clause-keeps c = λ own eids older packet k parses.
    let p : PacketFields = view_of c.args.view in
    let to = c.args.view.to in
    let d : Pair = c.index_mut.result.now in
    let x : Pair = record { eid = d.eid; requests = d.requests; answers = c.take.new.self } in
    let from : c.args.view.from ≡ own = c.requires.from ∙ k.at in
    let other : to ≢ own = λ is. c.requires.other (is ∙ sym k.at) in
    let stand = stand_here c.args.self.now own eids older k to c.args.place c.requires.inside c.requires.first other d c.index_mut.ensures.value in
    keeps_after c.args.self.now own eids older packet p k parses to c.args.place c.requires.inside c.requires.first (λ e apart others. answered_away own e p other (λ is. apart (sym is))) x d (ap eid_of c.index_mut.ensures.value)
    _ refl refl
    (λ _. record {
      requests = stays d.requests own to older packet p stand.requests parses (ap (λ (b : Bool). b && (p.from == to)) (ne_eqb p.to own other));
      answers = c.take.ensures.stands to own older packet stand.answers parses refl from;
    })
