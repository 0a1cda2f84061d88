use Rattle.spdm_grammar.specs.Message.{response_message}
use Rattle.spdm_grammar.specs.Responses.{response_layout}
use Rattle.spdm_codec.proofs.Answers.{value_given, fault_given, found_given, only_given}
use Rattle.spdm_codec.proofs.response.read_response.Goals as goal

pub returns-clause-value : goal.returns-clause-value
returns-clause-value c = value_given _ _ _ c.read_whole.ensures

pub returns-clause-fault : goal.returns-clause-fault
returns-clause-fault c = fault_given response_message _ _ c.read_whole.ensures

pub returns-clause-found : goal.returns-clause-found
returns-clause-found c = found_given response_message _ (response_layout c.args.hash_len c.args.summary) c.args.bytes.now c.read_whole.ensures

pub returns-clause-only : goal.returns-clause-only
returns-clause-only c = only_given response_message _ (response_layout c.args.hash_len c.args.summary) c.args.bytes.now c.read_whole.ensures
