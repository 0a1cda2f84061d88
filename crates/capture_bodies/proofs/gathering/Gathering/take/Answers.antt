use Rattle.std.proofs.Common.{◌≡◌, ◌≢◌, ◌∙◌, ℕ, true, false, Some, None, refl, sym, ap}
use Rattle.std.proofs.lemmas.Option.{none-some}
use Rattle.std.specs.List.{position_from}
use Rattle.capture_bodies.proofs.Between.{answered_to, asked_by, completed_alone, completed_between, large_nowhere, large_where}
use Rattle.capture_bodies.proofs.Places.{answered_away, asked_away, keeps_on}
use Rattle.capture_bodies.specs.Completing.{goes_between}
use Rattle.capture_bodies.specs.Keeping.{has_eid}
use Rattle.mctp_framing.specs.Packet.{PacketFields, view_of}
use Rattle.capture_bodies.proofs.gathering.Gathering.take.Goals as goal

pub returns-in-Some-clause-came : goal.returns-in-Some-clause-came
returns-in-Some-clause-came c = λ own eids older k.
    let p : PacketFields = view_of c.args.view in
    let to : p.to ≡ own = c.if-view-number.true ∙ c.number.ensures.value ∙ k.at in
    let between : goes_between own eids p ≡ true = asked_by c.args.self.now own eids older k p c.if-view.false to (Some c.in-Some.place) c.in-Some.ensures.place in
    c.take_request.ensures.came own eids older k ∙ sym (completed_between own eids older p between)

pub returns-in-Some-clause-large : goal.returns-in-Some-clause-large
returns-in-Some-clause-large c = λ own eids older k.
    let p : PacketFields = view_of c.args.view in
    let to : p.to ≡ own = c.if-view-number.true ∙ c.number.ensures.value ∙ k.at in
    let between : goes_between own eids p ≡ true = asked_by c.args.self.now own eids older k p c.if-view.false to (Some c.in-Some.place) c.in-Some.ensures.place in
    c.take_request.ensures.large own eids older k ∙ sym (large_where own eids older p between)

pub returns-in-None-clause-came : goal.returns-in-None-clause-came
returns-in-None-clause-came c = λ own eids older k.
    let p : PacketFields = view_of c.args.view in
    let to : p.to ≡ own = c.if-view-number.true ∙ c.number.ensures.value ∙ k.at in
    let between : goes_between own eids p ≡ false = asked_by c.args.self.now own eids older k p c.if-view.false to None c.in-None.ensures.place in
    c.alone-in-None.ensures ∙ sym (completed_alone own eids older p between)

pub returns-in-None-clause-large : goal.returns-in-None-clause-large
returns-in-None-clause-large c = λ own eids older k.
    let p : PacketFields = view_of c.args.view in
    let to : p.to ≡ own = c.if-view-number.true ∙ c.number.ensures.value ∙ k.at in
    let between : goes_between own eids p ≡ false = asked_by c.args.self.now own eids older k p c.if-view.false to None c.in-None.ensures.place in
    sym (large_nowhere own eids older p between)

pub returns-in-None-clause-keeps : goal.returns-in-None-clause-keeps
returns-in-None-clause-keeps c = λ own eids older packet k parses.
    let p : PacketFields = view_of c.args.view in
    let to : p.to ≡ own = c.if-view-number.true ∙ c.number.ensures.value ∙ k.at in
    keeps_on c.args.self.now own eids older packet p k parses
    (λ e i its other. asked_away own p.from e p to refl (λ is. none-some i (c.in-None.ensures.place ∙ ap (λ (n : ℕ). position_from (has_eid n) 0 c.args.self.now.pairs.items) (sym is) ∙ its)) other)

pub returns-in-Some-place_of-clause-came : goal.returns-in-Some-place_of-clause-came
returns-in-Some-place_of-clause-came c = λ own eids older k.
    let p : PacketFields = view_of c.args.view in
    let to : p.to ≢ own = λ is. c.if-view-number.false (is ∙ sym k.at ∙ sym c.number.ensures.value) in
    let from : p.from ≡ own = c.if-view-number-2.true ∙ c.number-else-view-number.ensures.value ∙ k.at in
    let between : goes_between own eids p ≡ true = answered_to c.args.self.now own eids older k p c.if-view.false to from (Some c.in-Some-place_of.place) c.in-Some-place_of.ensures.place in
    c.take_answer.ensures.came own eids older k ∙ sym (completed_between own eids older p between)

pub returns-in-Some-place_of-clause-large : goal.returns-in-Some-place_of-clause-large
returns-in-Some-place_of-clause-large c = λ own eids older k.
    let p : PacketFields = view_of c.args.view in
    let to : p.to ≢ own = λ is. c.if-view-number.false (is ∙ sym k.at ∙ sym c.number.ensures.value) in
    let from : p.from ≡ own = c.if-view-number-2.true ∙ c.number-else-view-number.ensures.value ∙ k.at in
    let between : goes_between own eids p ≡ true = answered_to c.args.self.now own eids older k p c.if-view.false to from (Some c.in-Some-place_of.place) c.in-Some-place_of.ensures.place in
    c.take_answer.ensures.large own eids older k ∙ sym (large_where own eids older p between)

pub returns-in-None-place_of-clause-came : goal.returns-in-None-place_of-clause-came
returns-in-None-place_of-clause-came c = λ own eids older k.
    let p : PacketFields = view_of c.args.view in
    let to : p.to ≢ own = λ is. c.if-view-number.false (is ∙ sym k.at ∙ sym c.number.ensures.value) in
    let from : p.from ≡ own = c.if-view-number-2.true ∙ c.number-else-view-number.ensures.value ∙ k.at in
    let between : goes_between own eids p ≡ false = answered_to c.args.self.now own eids older k p c.if-view.false to from None c.in-None-place_of.ensures.place in
    c.alone-in-None-place_of.ensures ∙ sym (completed_alone own eids older p between)

pub returns-in-None-place_of-clause-large : goal.returns-in-None-place_of-clause-large
returns-in-None-place_of-clause-large c = λ own eids older k.
    let p : PacketFields = view_of c.args.view in
    let to : p.to ≢ own = λ is. c.if-view-number.false (is ∙ sym k.at ∙ sym c.number.ensures.value) in
    let from : p.from ≡ own = c.if-view-number-2.true ∙ c.number-else-view-number.ensures.value ∙ k.at in
    let between : goes_between own eids p ≡ false = answered_to c.args.self.now own eids older k p c.if-view.false to from None c.in-None-place_of.ensures.place in
    sym (large_nowhere own eids older p between)

pub returns-in-None-place_of-clause-keeps : goal.returns-in-None-place_of-clause-keeps
returns-in-None-place_of-clause-keeps c = λ own eids older packet k parses.
    let p : PacketFields = view_of c.args.view in
    let to : p.to ≢ own = λ is. c.if-view-number.false (is ∙ sym k.at ∙ sym c.number.ensures.value) in
    let from : p.from ≡ own = c.if-view-number-2.true ∙ c.number-else-view-number.ensures.value ∙ k.at in
    keeps_on c.args.self.now own eids older packet p k parses
    (λ e i its other. answered_away own e p to (λ is. none-some i (c.in-None-place_of.ensures.place ∙ ap (λ (n : ℕ). position_from (has_eid n) 0 c.args.self.now.pairs.items) is ∙ its)))
