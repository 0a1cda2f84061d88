-- What was read and parsed gives the trace of the text.
use Rattle.std.proofs.Common.{◌≡◌, ℕ, List, [], ◌++◌, ◌∙◌, ap, sym, Option, Some}
use Rattle.std.proofs.lemmas.List.{append-nil}
use Rattle.std.proofs.lemmas.Option.{same_Some}
use Rattle.spdm_basis.specs.Stream.{Gives}

pub read_is : (old : Option (List ℕ)) (bytes text : List ℕ) → Gives old bytes (Some []) → old ≡ Some text → bytes ≡ text
read_is old bytes text gives is =
    let given = gives text is in
    let rest : given.0 ≡ [] = sym (same_Some [] given.0 given.1) in
    sym (given.2 ∙ ap (λ r. bytes ++ r) rest ∙ append-nil bytes)
