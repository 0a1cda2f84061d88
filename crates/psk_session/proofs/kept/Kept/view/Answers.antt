use Rattle.std.proofs.Common.{◌∙◌, ap, ℕ, List}
use Rattle.requester_machine.specs.Session.{stage_of, session_hash, t1_of, t2_of}
use Rattle.requester_machine.specs.Shown.{view_of}
use Rattle.psk_session.proofs.Past.{past_transcript}
use Rattle.psk_session.proofs.kept.Kept.view.Goals as goal

pub returns-clause-value : goal.returns-clause-value
unfolding view_of
returns-clause-value c = λ psk s epoch keeps stage shown fits. λ i. record {
  id = keeps.id i;
  stage = stage i;
  request_epoch = (c.epoch.ensures ∙ keeps.request.secret.epoch) i;
  response_epoch = shown i;
  request_next = keeps.request_next i;
  response_next = keeps.response_next i;
  taken = keeps.taken fits i;
  hash = (c.hash.ensures ∙ keeps.th2 ∙ ap (λ (t : List ℕ). (session_hash s).digest t) (past_transcript (stage_of s) (t1_of s) (t2_of s) keeps.past)) i;
  choice = keeps.choice i;
}
