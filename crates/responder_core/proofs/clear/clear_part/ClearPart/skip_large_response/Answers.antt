use Rattle.std.proofs.Common.{◌∙◌, subst, sym}
use Rattle.responder_core.proofs.UnseenRequests.{kept_here}
use Rattle.responder_core.specs.ClearPart.{Seen, StandsFor}
use Rattle.responder_core.proofs.clear.clear_part.ClearPart.skip_large_response.Goals as goal
use Rattle.responder_machine.specs.History.{clear_turns}

pub returns : goal.returns
returns c = λ r h t d exchange few brief u is stands.
    let before : Seen = record { requests = c.self.inside.requests; kept = c.self.inside.kept } in
    let stood = subst (λ (s : Seen). StandsFor s r h) (sym c.self.view_is) stands in
    record {
      requests = c.skip_large_response.ensures r t (clear_turns h) u stood.requests;
      kept = c.keep.ensures few brief ∙ sym (kept_here t u c.args.tag d h c.args.message.now c.args.reply.now exchange is);
    }
