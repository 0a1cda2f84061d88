use Rattle.std.proofs.Common.{◌∙◌, List, subst, sym}
use Rattle.chunking.specs.Keeping as keeping
use Rattle.responder_core.proofs.UnseenRequests.{no_chunks}
use Rattle.responder_core.specs.Coming.{Seen, StandsFor}
use Rattle.responder_core.proofs.clear.requests.Requests.skip_large_response.Goals as goal
use Rattle.spdm_grammar.specs.Message.{ChunkMessage}

pub returns : goal.returns
returns c = λ r t older u stands.
    let before : Seen = record { standing = c.self.inside.standing; collector = c.self.inside.collector; whole = c.self.inside.whole } in
    let stood = subst (λ (s : Seen). StandsFor s r older) (sym c.self.view_is) stands in
    record {
      standing = c.skip_large_response.ensures t older u stood.standing;
      collector = subst (λ (l : List ChunkMessage). keeping.StandsFor c.clear.new.self l) (sym (no_chunks t u older)) c.clear.ensures.stands;
      max = c.clear.ensures.max ∙ stood.max;
    }
