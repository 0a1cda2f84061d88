-- What is had of a request changes nothing that is kept.
use Rattle.std.proofs.Common.{◌≡◌, List, subst, sym}
use Rattle.requester_machine.specs.Setup.{ReqSetup}
use Rattle.check_laws.specs.Keeping.{Kept}
use Rattle.check_ends.specs.Party.{IsParty}
use Rattle.check_ends.specs.declared.party.Party.{Party}
use Rattle.capture_machine.specs.SessionTable.{Row}
use Rattle.world_machine.specs.Setup.{Configuration}

pub same_party : (old new : Party) → new ≡ record old { coming = new.coming } → (w : Configuration) (q : ReqSetup) (k : Kept) (rows : List Row) → IsParty old w q k rows → IsParty new w q k rows
same_party old new same w q k rows party =
    let last : Party = record old { coming = new.coming } in
    let kept : IsParty last w q k rows = record { asker = party.asker; answerer = party.answerer; keys = party.keys; number = party.number; places = party.places } in
    subst (λ (x : Party). IsParty x w q k rows) (sym same) kept
