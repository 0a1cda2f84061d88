use Rattle.responder_core.proofs.UnseenRequests.{sizes_pass}
use Rattle.responder_core.proofs.connected.Connection.skip_large_response.Goals as goal
use Rattle.responder_machine.specs.History.{clear_turns}

pub returns : goal.returns
returns c = λ r h t d few brief u is stands. record {
  clear = c.skip_large_response.ensures r h t d c.args.exchange few brief u is stands.clear;
  sessions = c.skip_large_response-2.ensures r h c.args.tag t d u is.exchange stands.sessions;
  queue = stands.queue;
  sizes = sizes_pass t u r (clear_turns h) stands.sizes;
}
