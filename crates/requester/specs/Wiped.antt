-- A requester whose keys and plaintexts are overwritten, as its memory may be given back.
use Rattle.std.specs.Prelude.{◌≡◌, replicate}
use Rattle.requester.specs.declared.whole.Requester.{Requester}
use Rattle.requester_core.specs.Wiped as wiped
use Rattle.spdm_grammar.specs.declared.names.TheConstants.{MAX_MESSAGE_SIZE}

-- The pre-shared key is zeros, as many as a key has at most; what each slot holds of a session is overwritten; the data that were brought last are zeros, to the whole capacity of their buffer; and the seed of the draws is zeros.
pub record IsWiped (seen : Requester) : Type 0 where
  pub psk : seen.part.psk ≡ replicate 64 0
  pub sessions : wiped.IsWiped seen.asking.sessions
  pub brought : seen.asking.clear_state.brought ≡ replicate MAX_MESSAGE_SIZE 0
  pub seed : seen.draws ≡ record { seed = replicate 32 0; number = 0 }
