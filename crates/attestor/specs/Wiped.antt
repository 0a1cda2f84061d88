-- An attestor whose keys and plaintexts are overwritten, as its memory may be given back.
use Rattle.attestor.specs.declared.attestor.Attestor.{Attestor}
use Rattle.requester.specs.Wiped as requester

-- All that is secret in its requester is.
abbrev pub IsWiped : Attestor → Type 0
IsWiped seen = requester.IsWiped seen.requester
