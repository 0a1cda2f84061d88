-- What is kept while no large message is in progress is so, too, where a large response may be fetched.
use Rattle.std.proofs.Common.{List, ℕ, None}
use Rattle.requester_machine.specs.Setup.{ReqSetup}
use Rattle.check_laws.proofs.KeptAnswers.{kept_is_restored}
use Rattle.check_laws.specs.Keeping.{Keeps, Kept}
use Rattle.check_requester.specs.JudgedRequester.{Carries}
use Rattle.world_machine.specs.Setup.{Configuration}

pub keeps_carries : (w : Configuration) (q : ReqSetup) (older : List (List ℕ)) (k : Kept) → Keeps w q older k → Carries w q older k
keeps_carries w q older k keeps = let there = kept_is_restored w q older k keeps in (None, there.0, there.1)
