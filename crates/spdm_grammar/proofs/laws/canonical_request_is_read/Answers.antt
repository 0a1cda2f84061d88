use Rattle.std.proofs.Common.{ap}
use Rattle.std.specs.Result.{result_ok}
use Rattle.spdm_grammar.specs.Requests.{request_layout, canonical_request}
use Rattle.spdm_grammar.proofs.CanonicalRequests.{request_spelled}
use Rattle.spdm_grammar.proofs.Spellings.{spelling_read}
use Rattle.spdm_grammar.proofs.laws.canonical_request_is_read.Goals as goal

pub returns-clause-spelled : goal.returns-clause-spelled
returns-clause-spelled c = λ hash_len message fits sound. (request_spelled hash_len message fits sound).is

pub returns-clause-read : goal.returns-clause-read
returns-clause-read c = λ hash_len message fits sound. ap result_ok (spelling_read (request_layout hash_len) 0 message (canonical_request message) (request_spelled hash_len message fits sound).is)
