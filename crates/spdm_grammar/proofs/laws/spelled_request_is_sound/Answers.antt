use Rattle.spdm_grammar.proofs.SoundRequests.{spelled_request}
use Rattle.spdm_grammar.proofs.laws.spelled_request_is_sound.Goals as goal

pub returns : goal.returns
returns c = spelled_request
