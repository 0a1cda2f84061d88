use Rattle.spdm_grammar.proofs.SoundResponses.{spelled_response}
use Rattle.spdm_grammar.proofs.laws.spelled_response_is_sound.Goals as goal

pub returns : goal.returns
returns c = spelled_response
