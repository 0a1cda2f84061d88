use Rattle.spdm_grammar.specs.Message.{request_message}
use Rattle.spdm_grammar.specs.Requests.{request_layout}
use Rattle.spdm_codec.proofs.Answers.{value_given, fault_given, found_given, only_given}
use Rattle.spdm_codec.proofs.request.read_request.Goals as goal

pub returns-clause-value : goal.returns-clause-value
returns-clause-value c = value_given _ _ _ c.read_whole.ensures

pub returns-clause-fault : goal.returns-clause-fault
returns-clause-fault c = fault_given request_message _ _ c.read_whole.ensures

pub returns-clause-found : goal.returns-clause-found
returns-clause-found c = found_given request_message _ (request_layout c.args.hash_len) c.args.bytes.now c.read_whole.ensures

pub returns-clause-only : goal.returns-clause-only
returns-clause-only c = only_given request_message _ (request_layout c.args.hash_len) c.args.bytes.now c.read_whole.ensures
