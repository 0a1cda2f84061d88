use Rattle.std.proofs.Common.{◌∙◌}
use Rattle.requester_core.proofs.SessionsAsked.{least_is}
use Rattle.requester_core.proofs.in_sessions.sessions.Sessions.free_id.Goals as goal

pub returns-clause-value : goal.returns-clause-value
returns-clause-value c = λ q h stands. c.least_free.ensures.value ∙ least_is c.is_live.result c.is_live-2.result c.is_live-3.result h (c.is_live.ensures q h stands) (c.is_live-2.ensures q h stands) (c.is_live-3.ensures q h stands)
