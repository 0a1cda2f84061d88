-- The bytes so far, those of one more chunk, and zeros up to the announced length.
use Rattle.std.proofs.Common.{◌≡◌, ◌≤◌, ◌-◌, ◌==◌, ℕ, zero, suc, List, sym, ap, ◌∙◌, subst, take, length, arith, Bool, false, Option, Some, cond, length-append}
use Rattle.std.proofs.lemmas.List.{length-replicate}
use Rattle.std.proofs.Math.Seq.{take-append_seam}
use Rattle.std.specs.Prelude.{unwrap_or}
use Rattle.std.proofs.lemmas.Bool.{ne_eqb}
use Rattle.check_late_laws.proofs.Cuts.{less_begins}
use Rattle.check_late_laws.proofs.GoesWith.{Told, told}
use Rattle.check_late_laws.specs.Fetching.{Fetching, HasSize, MayStand, bytes_in, bytes_of, number_of, size_in, size_of}
use Rattle.spdm_grammar.specs.Fields.{zeros}
use Rattle.capture_machine.specs.LargeAnswers.{IsLargeAnswer}
use Rattle.check_fetched_ends.specs.InSession.{AreLengths, bytes_with, filled, size_with}

module _ (n : ℕ) (o : Option ℕ) (bytes m : List ℕ) (within : length (bytes_with n bytes m) ≤ size_with n o m) where
  pub filled_long : length (filled n o bytes m) ≡ size_with n o m
  filled_long =
      let more = length-append (bytes_with n bytes m) (zeros (size_with n o m - length (bytes_with n bytes m))) in
      let none = length-replicate {A = ℕ} (size_with n o m - length (bytes_with n bytes m)) 0 in
      omega (arith, more, none, within)

  pub filled_begins : take (length (bytes_with n bytes m)) (filled n o bytes m) ≡ bytes_with n bytes m
  filled_begins = take-append_seam (bytes_with n bytes m) _

-- They stand for the answer.
size_by : (n : ℕ) (o : Option ℕ) (m v : List ℕ) → Told n o → length v ≡ size_with n o m → HasSize o v
size_by zero o m v none is = subst (λ (x : Option ℕ). HasSize x v) (sym none) tt
size_by (suc n) o m v some is =
    let first : (suc n == 0) ≡ false = ne_eqb (suc n) 0 (λ e. absurd (omega (arith, e))) in
    subst (λ (x : Option ℕ). HasSize x v) (sym some.1) (is ∙ ap (λ (b : Bool). cond b (size_in m) (unwrap_or o 0)) first ∙ ap (λ (x : Option ℕ). unwrap_or x 0) some.1)

module _ (f : Fetching) (least most : ℕ) (lengths : AreLengths f.place least most) (m : List ℕ) (within : length (bytes_with (number_of f) (bytes_of f) m) ≤ size_with (number_of f) (size_of f) m) (low : least ≤ size_with (number_of f) (size_of f) m) (high : size_with (number_of f) (size_of f) m ≤ most) where
  abbrev v : List ℕ
  v = filled (number_of f) (size_of f) (bytes_of f) m

  long : length v ≡ size_with (number_of f) (size_of f) m
  long = filled_long (number_of f) (size_of f) (bytes_of f) m within

  large : IsLargeAnswer f.place v
  large = (lengths v).1 (omega (arith, long, low), omega (arith, long, high))

  pub stands_now : MayStand f v
  stands_now =
      let begins = filled_begins (number_of f) (size_of f) (bytes_of f) m within in
      (large, size_by (number_of f) (size_of f) m v (told f.at f.kept.responder) long, less_begins (bytes_of f) (bytes_in (number_of f) m) v begins)

  -- And after that chunk.
  pub stands_next : (next : Fetching) → next.place ≡ f.place → bytes_of next ≡ bytes_with (number_of f) (bytes_of f) m → size_of next ≡ cond (number_of f == 0) (Some (size_in m)) (size_of f) → MayStand next v
  stands_next next place bytes size =
      let begins = filled_begins (number_of f) (size_of f) (bytes_of f) m within in
      (subst (λ p. IsLargeAnswer p v) (sym place) large, subst (λ (o : Option ℕ). HasSize o v) (sym size) (by_first (number_of f) (size_of f) (told f.at f.kept.responder) long), subst (λ (l : List ℕ). take (length l) v ≡ l) (sym bytes) begins)
    where
      by_first : (n : ℕ) (o : Option ℕ) → Told n o → length v ≡ size_with n o m → HasSize (cond (n == 0) (Some (size_in m)) o) v
      by_first zero o none is = is
      by_first (suc n) o some is =
          let first : (suc n == 0) ≡ false = ne_eqb (suc n) 0 (λ e. absurd (omega (arith, e))) in
          subst (λ (b : Bool). HasSize (cond b (Some (size_in m)) o) v) (sym first) (size_by (suc n) o m v some is)
