use Rattle.spdm_grammar.specs.Requests.{request_layout}
use Rattle.spdm_grammar.proofs.Longer.{fault_stays_whole}
use Rattle.spdm_grammar.proofs.laws.request_fault_stays.Goals as goal

pub returns : goal.returns
returns c = λ hash_len. fault_stays_whole (request_layout hash_len)
