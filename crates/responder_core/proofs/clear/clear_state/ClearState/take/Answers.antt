use Rattle.std.proofs.Common.{◌≡◌, sym, subst, ℕ, List}
use Rattle.responder_core.proofs.Passing.{large_at, settled_at}
use Rattle.responder_core.proofs.Taken.{moved}
use Rattle.responder_core.proofs.clear.clear_state.ClearState.take.Goals as goal
use Rattle.responder_core.specs.ClearState.{Seen, StandsFor, place_at}
use Rattle.responder_rules.specs.Place.{where_of}
use Rattle.responder_machine.specs.Place.{Place}
use Rattle.spdm_grammar.specs.Message.{RequestMessage, request_message}

pub returns : goal.returns
returns c = λ r turns held f t setup handle stands place taking.
    let p : Place = place_at (where_of c.args.place.now.at) turns held in
    let m : List ℕ = c.args.message.now in
    let asked : RequestMessage = request_message c.args.request.now in
    let before : Seen = record { negotiating = c.self.inside.negotiating; large = c.self.inside.large } in
    let same : c.args.self.now ≡ before = sym c.self.view_is in
    let stood = subst (λ (s : Seen). StandsFor s turns) same stands in
    let settled = settled_at before (where_of c.args.place.now.at) turns held stood in
    let negotiates = c.settle.ensures r p f turns t setup stood.negotiating stood.negotiating.phase taking in
    let goes = c.settle_large.ensures r p m f asked t place handle settled c.code_of.ensures (large_at before (where_of c.args.place.now.at) turns held stood) taking in
    record {
      negotiating = negotiates;
      large = moved r p m f asked c.args.answer.now before.negotiating c.settle.new.negotiating c.settle_large.new.large turns t settled taking stood.negotiating negotiates goes;
    }
