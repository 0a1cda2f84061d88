use Rattle.std.proofs.Common.{◌∙◌}
use Rattle.requester_core.proofs.SessionsAsked.{counted}
use Rattle.requester_core.proofs.in_sessions.sessions.Sessions.count.Goals as goal

pub returns : goal.returns
returns c = λ q h stands. c.count_of.ensures ∙ counted c.is_live.result c.is_live-2.result c.is_live-3.result c.is_live-4.result h (c.is_live.ensures q h stands) (c.is_live-2.ensures q h stands) (c.is_live-3.ensures q h stands) (c.is_live-4.ensures q h stands)
