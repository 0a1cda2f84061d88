-- Which lengths of a large response in the clear are sent in chunks: those from the least to the most.
use Rattle.std.proofs.Common.{◌≡◌, ◌≤◌, ◌<◌, ◌+◌, ◌-◌, ◌==◌, ◌&&◌, ◌||◌, ◌↔◌, ◌∙◌, ℕ, List, refl, sym, ap, subst, length, arith, Bool, true, false, cond}
use Rattle.std.specs.Prelude.{nat_lt, not}
use Rattle.std.proofs.lemmas.Bool.{false≢true}
use Rattle.std.proofs.lemmas.Bool.Decides.{nat_tests}
use Rattle.check_fetched_ends.specs.InSession.{AreLengths}
use Rattle.responder_machine.specs.Handling.{goes_large}
use Rattle.responder_machine.specs.Place.{Place, place_terms}
use Rattle.responder_machine.specs.Refusal.{bytes_round, is_answer_too_long, sizes_are_known}
use Rattle.spdm_grammar.specs.declared.names.TheConstants.{MAX_MESSAGE_SIZE}
use Rattle.capture_machine.specs.LargeAnswers.{IsLargeAnswer}

less_is : (a b : ℕ) → nat_lt a b ≡ true → a < b
less_is a b is = grind (arith, nat_tests)

not_more : (a b : ℕ) → nat_lt a b ≡ false → b ≤ a
not_more a b is = grind (arith, nat_tests)

is_less : (a b : ℕ) → a < b → nat_lt a b ≡ true
is_less a b is = grind (arith, nat_tests)

no_more : (a b : ℕ) → b ≤ a → nat_lt a b ≡ false
no_more a b is = grind (arith, nat_tests)

goes_by : (known less : Bool) → known ≡ true → (known && less) ≡ less
goes_by true less is = refl
goes_by false less is = absurd (false≢true is)

long_by : (known more chunk less : Bool) → known ≡ true → chunk ≡ true → (known && (more || (not chunk && less))) ≡ more
long_by true true true less is at = refl
long_by true false true less is at = refl
long_by true more false less is at = absurd (false≢true at)
long_by false more chunk less is at = absurd (false≢true is)

module _ (p : Place) (least most : ℕ) (known : sizes_are_known p.phase ≡ true) (chunk : (place_terms p).common.chunk ≡ true) (low : least + bytes_round p.at ≡ (place_terms p).common.to_requester.transfer + 1)
    (high : most ≤ (place_terms p).common.to_requester.max) (few : most ≤ MAX_MESSAGE_SIZE) (all : (n : ℕ) → n ≤ (place_terms p).common.to_requester.max → n ≤ MAX_MESSAGE_SIZE → n ≤ most) where
  abbrev transfer : ℕ
  transfer = (place_terms p).common.to_requester.transfer

  abbrev max : ℕ
  max = (place_terms p).common.to_requester.max

  goes : (v : List ℕ) → goes_large p v ≡ nat_lt transfer (bytes_round p.at + length v)
  goes v = goes_by (sizes_are_known p.phase) (nat_lt transfer (bytes_round p.at + length v)) known

  long : (v : List ℕ) → is_answer_too_long p v ≡ nat_lt max (length v)
  long v = long_by (sizes_are_known p.phase) (nat_lt max (length v)) (place_terms p).common.chunk (nat_lt transfer (bytes_round p.at + length v)) known chunk

  to_lengths : (v : List ℕ) → IsLargeAnswer p v → (least ≤ length v) × (length v ≤ most)
  to_lengths v large =
      let more = less_is transfer (bytes_round p.at + length v) (sym (goes v) ∙ large.0) in
      let less = not_more max (length v) (sym (long v) ∙ large.1) in
      (omega (arith, more, low), all (length v) less large.2)

  from_lengths : (v : List ℕ) → (least ≤ length v) × (length v ≤ most) → IsLargeAnswer p v
  from_lengths v within = (
    goes v ∙ is_less transfer (bytes_round p.at + length v) (let at = within.0 in omega (arith, at, low)),
    long v ∙ no_more max (length v) (let at = within.1 in omega (arith, at, high)),
    (let at = within.1 in omega (arith, at, few)),
  )

  pub lengths_are : AreLengths p least most
  lengths_are v = (to_lengths v, from_lengths v)
