use Rattle.spdm_grammar.proofs.Ends.{no_response_longer}
use Rattle.spdm_grammar.proofs.laws.no_response_prefix.Goals as goal

pub returns : goal.returns
returns c = no_response_longer
