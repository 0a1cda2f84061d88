use Rattle.std.proofs.Common.{ap}
use Rattle.std.specs.Result.{result_ok}
use Rattle.spdm_grammar.specs.Responses.{response_layout, canonical_response}
use Rattle.spdm_grammar.proofs.CanonicalResponses.{response_spelled}
use Rattle.spdm_grammar.proofs.Spellings.{spelling_read}
use Rattle.spdm_grammar.proofs.laws.canonical_response_is_read.Goals as goal

pub returns-clause-spelled : goal.returns-clause-spelled
returns-clause-spelled c = λ hash_len summary message fits sound. (response_spelled hash_len summary message fits sound).is

pub returns-clause-read : goal.returns-clause-read
returns-clause-read c = λ hash_len summary message fits sound. ap result_ok (spelling_read (response_layout hash_len summary) 0 message (canonical_response message) (response_spelled hash_len summary message fits sound).is)
