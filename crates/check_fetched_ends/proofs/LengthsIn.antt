-- The lengths of a large response that are sent in chunks in a session.
use Rattle.std.proofs.Common.{◌≡◌, ◌≤◌, ◌+◌, ◌&&◌, ◌||◌, ℕ, refl, sym, ap, ◌∙◌, length, arith, Bool, true, false}
use Rattle.std.specs.Prelude.{nat_lt, not}
use Rattle.std.proofs.lemmas.Bool.Decides.{nat_tests}
use Rattle.responder_machine.specs.Place.{session_place}
use Rattle.responder_machine.specs.Session.{Events, session_terms}
use Rattle.spdm_grammar.specs.declared.names.TheConstants.{MAX_MESSAGE_SIZE}
use Rattle.capture_machine.specs.LargeAnswers.{IsLargeAnswer}
use Rattle.check_fetched_ends.specs.InSession.{AreLengths}

module _ (s : Events) (chunk : (session_terms s).common.chunk ≡ true) (least most : ℕ) (low : least ≡ (session_terms s).common.to_requester.transfer + 1)
    (short : most ≤ (session_terms s).common.to_requester.max) (few : most ≤ MAX_MESSAGE_SIZE) (full : (n : ℕ) → n ≤ (session_terms s).common.to_requester.max → n ≤ MAX_MESSAGE_SIZE → n ≤ most) where
  abbrev t : ℕ
  t = (session_terms s).common.to_requester.transfer

  abbrev x : ℕ
  x = (session_terms s).common.to_requester.max

  no_second : (b c : Bool) → (session_terms s).common.chunk ≡ true → (b || (not (session_terms s).common.chunk && c)) ≡ b
  no_second true c is = refl
  no_second false c is = ap (λ (x : Bool). not x && c) is

  less : (n m : ℕ) → nat_lt n m ≡ false → m ≤ n
  less n m is = grind (arith, nat_tests)

  more : (n m : ℕ) → nat_lt n m ≡ true → n + 1 ≤ m
  more n m is = grind (arith, nat_tests)

  none_less : (n m : ℕ) → m ≤ n → nat_lt n m ≡ false
  none_less n m is = grind (arith, nat_tests)

  some_more : (n m : ℕ) → n + 1 ≤ m → nat_lt n m ≡ true
  some_more n m is = grind (arith, nat_tests)

  pub lengths_are : AreLengths (session_place s) least most
  lengths_are v = (to, from)
    where
      to : IsLargeAnswer (session_place s) v → (least ≤ length v) × (length v ≤ most)
      to large =
          let long = more t (0 + length v) large.0 in
          let fits = less x (length v) (sym (no_second (nat_lt x (length v)) (nat_lt t (0 + length v)) chunk) ∙ large.1) in
          (omega (arith, long, low), full (length v) fits large.2)

      from : (least ≤ length v) × (length v ≤ most) → IsLargeAnswer (session_place s) v
      from range =
          let one = range.0 in
          let two = range.1 in
          (some_more t (0 + length v) (omega (arith, one, low)), no_second (nat_lt x (length v)) (nat_lt t (0 + length v)) chunk ∙ none_less x (length v) (omega (arith, two, short)), omega (arith, two, few))
