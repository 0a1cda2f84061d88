-- What is kept of a large response that is fetched depends on the responder's history, and on what is kept beside.
use Rattle.std.proofs.Common.{◌≡◌, List}
use Rattle.requester_machine.specs.Setup.{ReqSetup}
use Rattle.check_ends.specs.Party.{IsBeside}
use Rattle.check_ends.specs.declared.party.Party.{Party}
use Rattle.check_laws.specs.Keeping.{Kept}
use Rattle.check_fetched_ends.proofs.FetchedKept.{fetched_with}
use Rattle.check_fetched_ends.proofs.HeldKept.{held_with}
use Rattle.check_fetched_ends.specs.JudgedEnds.{IsFetched}
use Rattle.check_fetched_ends.specs.declared.fetch.Fetch.{Fetch}
use Rattle.check_fetched_ends.specs.declared.fetch.Fetch.TheVariants as fetch
use Rattle.check_late_laws.specs.Fetching.{Fetching}
use Rattle.capture_machine.specs.SessionTable.{Row}
use Rattle.world_machine.specs.Setup.{Configuration}

-- What is kept of the requester and of the two ends beside it.
pub record IsKeptOn (party new : Party) (w : Configuration) (q : ReqSetup) (f : Fetching) (next : Kept) (behind : List Row) : Type 0 where
  pub answerer : new.answerer ≡ party.answerer
  pub keys : new.keys ≡ party.keys
  pub setup : next.setup ≡ f.kept.setup
  pub responder : next.responder ≡ f.kept.responder
  pub beside : IsBeside new w q next behind

pub fetched_as : (party new : Party) (x : Fetch) (w : Configuration) (q : ReqSetup) (f : Fetching) (next : Kept) (rows behind : List Row) → IsFetched party x w q f rows
    → IsKeptOn party new w q f next behind → IsFetched new x w q (record f { kept = next }) behind
fetched_as party new (fetch.InSession fetched) w q f next rows behind is on = fetched_with party new fetched w q f next rows behind is on.answerer on.setup on.responder on.beside
fetched_as party new (fetch.InClear held) w q f next rows behind is on = held_with party new held w q f next rows behind is on.answerer on.keys on.setup on.responder on.beside

-- What is kept of the requester, and what is kept beside.
pub beside_of : (party : Party) (x : Fetch) (w : Configuration) (q : ReqSetup) (f : Fetching) (rows : List Row) → IsFetched party x w q f rows → IsBeside party w q f.kept rows
beside_of party (fetch.InSession fetched) w q f rows is = is.beside
beside_of party (fetch.InClear held) w q f rows is = is.beside
