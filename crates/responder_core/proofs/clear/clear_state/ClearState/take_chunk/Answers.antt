use Rattle.std.proofs.Common.{◌≡◌, sym, subst, ap}
use Rattle.std.specs.Prelude.{◌==◌}
use Rattle.responder_core.proofs.Taken.{nothing_unmoved}
use Rattle.responder_core.proofs.clear.clear_state.ClearState.take_chunk.Goals as goal
use Rattle.responder_core.specs.ClearState.{Seen, StandsFor}
use Rattle.responder_machine.specs.Turn.{Effect, code_in, handle_in}
use Rattle.spdm_grammar.specs.declared.names.request_code.TheConstants.{CHUNK_GET}

pub returns : goal.returns
returns c = λ turns t stands taken nothing.
    let before : Seen = record { negotiating = c.self.inside.negotiating; large = c.self.inside.large } in
    let same : c.args.self.now ≡ before = sym c.self.view_is in
    let stood = subst (λ (s : Seen). StandsFor s turns) same stands in
    record {
      negotiating = nothing_unmoved before.negotiating turns t stood.negotiating nothing;
      large = c.clear.ensures before.negotiating.common.to_requester.transfer turns t stood.large taken (ap (λ (e : Effect). code_in e == CHUNK_GET) nothing) (ap handle_in nothing);
    }
