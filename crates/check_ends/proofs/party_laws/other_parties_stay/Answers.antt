use Rattle.std.proofs.Common.{◌∙◌, sym, ap}
use Rattle.requester_machine.specs.Setup.{ReqSetup}
use Rattle.check_laws.specs.Keeping.{restored}
use Rattle.check_ends.proofs.party_laws.other_parties_stay.Goals as goal

pub returns : goal.returns
returns c = λ seen w q k rows before after apart party. record {
  asker = party.asker;
  answerer = party.answerer;
  keys = party.keys;
  number = party.number;
  places = c.other_places_stay.ensures seen.places before after (restored k) rows (λ same. apart (ap (λ (x : ReqSetup). x.eid) (sym party.asker.setup) ∙ same)) party.places;
}
