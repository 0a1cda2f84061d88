-- Bytes before what a source has left.
use Rattle.std.proofs.Common.{◌≡◌, ◌∙◌, ◌++◌, ◌≤◌, inl, inr, ℕ, List, [], Option, Some, None, refl, ap, sym, arith}
use Rattle.std.proofs.lemmas.Option.{none-some, same_Some}
use Rattle.spdm_basis.specs.Stream.{HasFault, IsAtEnd}
use Rattle.frame_stream.specs.Standing.{in_front}

-- what stands there is these bytes, and what the source has left
pub behind_front : (bytes : List ℕ) (o : Option (List ℕ)) (left : List ℕ) → in_front bytes o ≡ Some left → (rest : List ℕ) × (o ≡ Some rest) × (left ≡ bytes ++ rest)
behind_front bytes None left e = absurd (none-some left e)
behind_front bytes (Some rest) left e = (rest, refl, sym (same_Some (bytes ++ rest) left e))

pub in_front_of : (bytes rest : List ℕ) (o : Option (List ℕ)) → o ≡ Some rest → in_front bytes o ≡ Some (bytes ++ rest)
in_front_of bytes rest o e = ap (in_front bytes) e

-- where nothing was read ahead and the source is at its end, nothing is left
pub nothing_left : (ahead : List ℕ) (o : Option (List ℕ)) → ahead ≡ [] → IsAtEnd o → IsAtEnd (in_front ahead o)
nothing_left ahead o none ended left e =
    let b = behind_front ahead o left e in
    b.2 ∙ ap (λ (l : List ℕ). l ++ b.0) none ∙ ended b.0 b.1

-- a fault that was counted later in a call was counted in the call
pub fault_later : (first mid last : ℕ) → first ≤ mid → mid ≤ last → HasFault mid last → HasFault first last
fault_later first mid last low high (inl rose) = inl (omega arith)
fault_later first mid last low high (inr stands) = grind arith
