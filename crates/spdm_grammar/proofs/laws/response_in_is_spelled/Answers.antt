use Rattle.spdm_grammar.specs.Responses.{response_layout}
use Rattle.spdm_grammar.proofs.Spellings.{read_iff}
use Rattle.spdm_grammar.proofs.laws.response_in_is_spelled.Goals as goal

pub returns : goal.returns
returns c = λ hash_len summary message bytes. read_iff (response_layout hash_len summary) message bytes
