-- What was written in two steps.
use Rattle.std.proofs.Common.{◌∙◌, ◌++◌, ℕ, List, Option, Some, Result, Ok, Err, OnOk, OnErr, ap, sym, append_assoc}
use Rattle.spdm_basis.specs.Stream.{Takes, TakesPrefix}

pub takes_both : (old mid new : Option (List ℕ)) (bs more : List ℕ) → Takes old bs mid → Takes mid more new → Takes old (bs ++ more) new
takes_both old mid new bs more first then = λ held e. then (held ++ bs) (first held e) ∙ ap (λ (l : List ℕ). Some l) (append_assoc held bs more)

-- a prefix of the second, after the first
pub takes_then_prefix : (old mid new : Option (List ℕ)) (bs more : List ℕ) → Takes old bs mid → TakesPrefix mid more new → TakesPrefix old (bs ++ more) new
takes_then_prefix old mid new bs more first then = (
  bs ++ then.0,
  then.1,
  ap (λ (l : List ℕ). bs ++ l) then.2 ∙ sym (append_assoc bs then.0 then.1),
  takes_both old mid new bs then.0 first then.3,
)

-- a prefix of the first, whatever was to follow
pub prefix_of_first : (old new : Option (List ℕ)) (bs more : List ℕ) → TakesPrefix old bs new → TakesPrefix old (bs ++ more) new
prefix_of_first old new bs more first = (first.0, first.1 ++ more, ap (λ (l : List ℕ). l ++ more) first.2 ∙ append_assoc first.0 first.1 more, first.3)

-- what follows where a call went well, or failed
pub on_ok : {T E : Type 0} (P Q : Type 0) (r : Result T E) → (P → Q) → OnOk r P → OnOk r Q
on_ok P Q (Ok x) f h = f h
on_ok P Q (Err e) f h = tt

pub on_err : {T E : Type 0} (P Q : Type 0) (r : Result T E) → (P → Q) → OnErr r P → OnErr r Q
on_err P Q (Ok x) f h = tt
on_err P Q (Err e) f h = f h
