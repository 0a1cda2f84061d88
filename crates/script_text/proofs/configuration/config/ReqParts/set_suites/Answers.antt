use Rattle.std.proofs.Common.{ap, ◌∙◌}
use Rattle.script_text.specs.Configuring.{with_suites}
use Rattle.script_text.proofs.Requesters.{with_suites-is}
use Rattle.script_text.proofs.configuration.config.ReqParts.set_suites.Goals as goal

pub returns : goal.returns
returns c =
    let items = c.self.inside.items.items in
    with_suites-is c.args.index c.args.suites items c.index_mut-requester.result.now (rw c.self.view_is c.requires) c.index_mut-requester.ensures.value
    ∙ ap (with_suites c.args.index c.args.suites) c.self.view_is
