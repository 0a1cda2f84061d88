use Rattle.std.proofs.Common.{◌∙◌}
use Rattle.responder_core.proofs.UnseenRequests.{sessions_pass}
use Rattle.responder_core.proofs.in_sessions.sessions.Sessions.skip_large_response.Goals as goal

pub returns-then-exchange : goal.returns-then-exchange
returns-then-exchange c = λ r h tag t d u is stands. c.leave_handshake.ensures r h tag t d u (is ∙ c.if-exchange.true) stands

pub returns-else-exchange : goal.returns-else-exchange
returns-else-exchange c = λ r h tag t d u is stands. sessions_pass t u r tag d h c.args.self.now (is ∙ c.if-exchange.false) stands
