use Rattle.spdm_grammar.specs.Requests.{request_layout}
use Rattle.spdm_grammar.proofs.Spellings.{one_value}
use Rattle.spdm_grammar.proofs.laws.one_request.Goals as goal

pub returns : goal.returns
returns c = λ hash_len m n bytes. one_value (request_layout hash_len) m n bytes
