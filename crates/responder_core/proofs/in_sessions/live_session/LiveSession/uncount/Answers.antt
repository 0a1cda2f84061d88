use Rattle.std.proofs.Common.{◌∙◌, ap, subst, List, ℕ}
use Rattle.std.specs.Prelude.{slice_index}
use Rattle.responder_machine.specs.SizeLaws.{HasSizes}
use Rattle.spdm_machine.specs.Terms.{terms_of}
use Rattle.transcript.specs.Transcripts.{Negotiation}
use Rattle.responder_core.proofs.in_sessions.live_session.LiveSession.uncount.Goals as goal

pub returns : goal.returns
returns c = λ r s e is stands. record {
  session = c.uncount.ensures r.psk s e is stands.session;
  idle = stands.idle ∙ is.alike.idle;
  period = stands.period ∙ ap (λ (m : List ℕ). slice_index m 2) is.alike.answer;
  sizes = subst (λ (n : Negotiation). HasSizes r (terms_of n).common) is.alike.negotiation stands.sizes;
}
