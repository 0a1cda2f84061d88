-- Words of some letters.
use Rattle.std.proofs.Common.{◌≡◌, ℕ, List, [], ◌∷◌, length, drop, get_or, refl, true, false, nat_eq, ◌<◌, ◌≢◌, arith, eq-eqb}
use Rattle.std.proofs.lemmas.Bool.{ne_eqb}
use Rattle.script_text.specs.Choices.{is_some_of}

-- a word that begins with the letter goes on after it
pub is_some_of-first : (letter : ℕ) (letters word : List ℕ) → 0 < length word → get_or word 0 0 ≡ letter → is_some_of letters (drop 1 word) ≡ is_some_of (letter ∷ letters) word
is_some_of-first letter letters [] some e = absurd (omega arith)
is_some_of-first letter letters (c ∷ word) some e = let same : nat_eq c letter ≡ true = eq-eqb c letter e in rw same refl

-- the empty word is some of any letters
is_some_of-empty : (letters : List ℕ) → is_some_of letters [] ≡ true
is_some_of-empty [] = refl
is_some_of-empty (letter ∷ letters) = refl

-- a word that begins with none leaves the letter out
pub is_some_of-other : (letter : ℕ) (letters word : List ℕ) → (0 < length word → get_or word 0 0 ≢ letter) → is_some_of letters word ≡ is_some_of (letter ∷ letters) word
is_some_of-other letter letters [] other = is_some_of-empty letters
is_some_of-other letter letters (c ∷ word) other = let differs : nat_eq c letter ≡ false = ne_eqb c letter (other (omega arith)) in rw differs refl
