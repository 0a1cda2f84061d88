use Rattle.spdm_grammar.specs.Requests.{request_layout}
use Rattle.spdm_grammar.proofs.Spellings.{read_iff}
use Rattle.spdm_grammar.proofs.laws.request_in_is_spelled.Goals as goal

pub returns : goal.returns
returns c = λ hash_len message bytes. read_iff (request_layout hash_len) message bytes
