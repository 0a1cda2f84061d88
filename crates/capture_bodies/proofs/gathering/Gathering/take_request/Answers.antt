use Rattle.std.proofs.Common.{◌≡◌, ◌≢◌, ◌∙◌, ◌==◌, ◌&&◌, ℕ, Bool, refl, sym, ap, subst, ne_eqb}
use Rattle.capture_bodies.proofs.Places.{asked_away, keeps_after, stand_here}
use Rattle.capture_bodies.proofs.Staying.{stays}
use Rattle.capture_bodies.specs.Keeping.{StandsFor, eid_of}
use Rattle.capture_bodies.specs.declared.gathering.Pair.{Pair}
use Rattle.mctp_framing.specs.Packet.{PacketFields, view_of}
use Rattle.capture_bodies.proofs.gathering.Gathering.take_request.Goals as goal

pub returns-clause-came : goal.returns-clause-came
returns-clause-came c = λ own eids older k.
    let from = c.args.view.from in
    let d : Pair = c.index_mut.result.now in
    let to : c.args.view.to ≡ own = c.requires.to ∙ k.at in
    let other : from ≢ own = λ is. c.requires.other (is ∙ sym k.at) in
    let stand = stand_here c.args.self.now own eids older k from c.args.place c.requires.inside c.requires.first other d c.index_mut.ensures.value in
    c.take.ensures.came c.args.view.to from older (subst (λ (n : ℕ). StandsFor d.requests n from older) (sym to) stand.requests)

pub returns-clause-large : goal.returns-clause-large
returns-clause-large c = λ own eids older k.
    let from = c.args.view.from in
    let d : Pair = c.index_mut.result.now in
    let to : c.args.view.to ≡ own = c.requires.to ∙ k.at in
    let other : from ≢ own = λ is. c.requires.other (is ∙ sym k.at) in
    let stand = stand_here c.args.self.now own eids older k from c.args.place c.requires.inside c.requires.first other d c.index_mut.ensures.value in
    c.take.ensures.large c.args.view.to from older (subst (λ (n : ℕ). StandsFor d.requests n from older) (sym to) stand.requests)

pub returns-clause-keeps : goal.returns-clause-keeps
returns-clause-keeps c = λ own eids older packet k parses.
    let p : PacketFields = view_of c.args.view in
    let from = c.args.view.from in
    let d : Pair = c.index_mut.result.now in
    let x : Pair = record { eid = d.eid; requests = c.take.new.self; answers = d.answers } in
    let to : c.args.view.to ≡ own = c.requires.to ∙ k.at in
    let other : from ≢ own = λ is. c.requires.other (is ∙ sym k.at) in
    let stand = stand_here c.args.self.now own eids older k from c.args.place c.requires.inside c.requires.first other d c.index_mut.ensures.value in
    keeps_after c.args.self.now own eids older packet p k parses from c.args.place c.requires.inside c.requires.first (λ e apart others. asked_away own from e p to refl apart others) x d (ap eid_of c.index_mut.ensures.value)
    _ refl refl
    (λ _. record {
      requests = c.take.ensures.stands own from older packet stand.requests parses to refl;
      answers = stays d.answers from own older packet p stand.answers parses (ap (λ (b : Bool). b && (p.from == own)) (ne_eqb p.to from (λ is. other (sym is ∙ to))));
    })
