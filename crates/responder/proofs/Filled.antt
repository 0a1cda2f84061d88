-- Bytes that were put into an empty buffer.
use Rattle.std.proofs.Common.{◌≡◌, ◌≤◌, ◌<◌, ◌+◌, ◌++◌, ◌∙◌, ℕ, List, [], length, Result, Ok, Err, OnOk, OnErr, ap, subst, arith}

pub filled : {A E : Type 0} (x : Result A E) (n : ℕ) (old more new : List ℕ) → OnOk x (new ≡ old ++ more) → OnErr x (n < length old + length more) → old ≡ [] → length more ≤ n → new ≡ more
filled (Ok a) n old more new ok full none fits = ok ∙ ap (λ (o : List ℕ). o ++ more) none
filled (Err e) n old more new ok full none fits =
    let less : n < 0 + length more = subst (λ (o : List ℕ). n < length o + length more) none full in
    absurd (omega (arith, less, fits))
