use Rattle.std.proofs.Common.{refl, ◌≡◌, sym, subst}
use Rattle.responder_core.proofs.Passing.{large_at, settled_at}
use Rattle.responder_core.proofs.Reached.{unmoved}
use Rattle.responder_core.proofs.Taken.{moved, takes_code}
use Rattle.responder_core.proofs.clear.clear_state.ClearState.take_exchange.Goals as goal
use Rattle.responder_core.specs.ClearState.{Seen, StandsFor, place_at}
use Rattle.responder_rules.specs.Place.{where_of}
use Rattle.responder_machine.specs.Place.{Place}
use Rattle.spdm_grammar.specs.Message.{RequestMessage}
use Rattle.spdm_grammar.specs.Message.RequestMessage.{PskExchange}
use Rattle.spdm_grammar.specs.declared.names.request_code.TheConstants.{GET_CAPABILITIES, GET_VERSION, NEGOTIATE_ALGORITHMS}

pub returns : goal.returns
returns c = λ r turns held m f exchange t handle stands place taking.
    let p : Place = place_at (where_of c.args.place.now.at) turns held in
    let asked : RequestMessage = PskExchange exchange in
    let before : Seen = record { negotiating = c.self.inside.negotiating; large = c.self.inside.large } in
    let same : c.args.self.now ≡ before = sym c.self.view_is in
    let stood = subst (λ (s : Seen). StandsFor s turns) same stands in
    let settled = settled_at before (where_of c.args.place.now.at) turns held stood in
    let takes = takes_code r p m f asked c.args.answer.now t taking in
    let negotiates = unmoved before.negotiating turns t stood.negotiating (takes GET_VERSION) (takes GET_CAPABILITIES) (takes NEGOTIATE_ALGORITHMS) in
    let goes = c.settle_large.ensures r p m f asked t place handle settled refl (large_at before (where_of c.args.place.now.at) turns held stood) taking in
    record {
      negotiating = negotiates;
      large = moved r p m f asked c.args.answer.now before.negotiating before.negotiating c.settle_large.new.large turns t settled taking stood.negotiating negotiates goes;
    }
