use Rattle.std.proofs.Common.{nat_eq}
use Rattle.script_text.proofs.Searching.{place-Some, place-None}
use Rattle.script_text.proofs.reading.places.place_of.Goals as goal

pub returns-in-Some : goal.returns-in-Some
returns-in-Some c =
    let left = c.behind_pieces-rest.ensures in
    place-Some (λ b. nat_eq b c.args.sought) c.args.bytes.now c.behind_pieces-rest.result.now c.first.result c.in-Some.place left.place left.within c.first.ensures c.in-Some.is

pub returns-in-None : goal.returns-in-None
returns-in-None c =
    place-None (λ b. nat_eq b c.args.sought) c.args.bytes.now c.behind_pieces-rest.result.now c.first.result c.behind_pieces-rest.ensures.place c.first.ensures c.in-None.is
