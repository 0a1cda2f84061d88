use Rattle.spdm_grammar.specs.Responses.{response_layout}
use Rattle.spdm_grammar.proofs.Longer.{fault_stays_whole}
use Rattle.spdm_grammar.proofs.laws.response_fault_stays.Goals as goal

pub returns : goal.returns
returns c = λ hash_len summary. fault_stays_whole (response_layout hash_len summary)
