use Rattle.spdm_grammar.proofs.Ends.{no_request_longer}
use Rattle.spdm_grammar.proofs.laws.no_request_prefix.Goals as goal

pub returns : goal.returns
returns c = no_request_longer
