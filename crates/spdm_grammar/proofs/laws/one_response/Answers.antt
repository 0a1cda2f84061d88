use Rattle.spdm_grammar.specs.Responses.{response_layout}
use Rattle.spdm_grammar.proofs.Spellings.{one_value}
use Rattle.spdm_grammar.proofs.laws.one_response.Goals as goal

pub returns : goal.returns
returns c = λ hash_len summary m n bytes. one_value (response_layout hash_len summary) m n bytes
