-- What was written in two steps.
use Rattle.std.proofs.Common.{◌∙◌, ◌++◌, ℕ, List, Option, Some, ap, sym, append_assoc}
use Rattle.spdm_basis.specs.Stream.{Takes, TakesPrefix}

pub takes_both : (old mid new : Option (List ℕ)) (bytes more : List ℕ) → Takes old bytes mid → Takes mid more new → Takes old (bytes ++ more) new
takes_both old mid new bytes more first then = λ held e. then (held ++ bytes) (first held e) ∙ ap (λ (l : List ℕ). Some l) (append_assoc held bytes more)

-- a prefix of the second, after the first
pub takes_then_prefix : (old mid new : Option (List ℕ)) (bytes more : List ℕ) → Takes old bytes mid → TakesPrefix mid more new → TakesPrefix old (bytes ++ more) new
takes_then_prefix old mid new bytes more first then = (
  bytes ++ then.0,
  then.1,
  ap (λ (l : List ℕ). bytes ++ l) then.2 ∙ sym (append_assoc bytes then.0 then.1),
  takes_both old mid new bytes then.0 first then.3,
)

-- a prefix of the first, whatever was to follow
pub prefix_of_first : (old new : Option (List ℕ)) (bytes more : List ℕ) → TakesPrefix old bytes new → TakesPrefix old (bytes ++ more) new
prefix_of_first old new bytes more first = (first.0, first.1 ++ more, ap (λ (l : List ℕ). l ++ more) first.2 ∙ append_assoc first.0 first.1 more, first.3)
