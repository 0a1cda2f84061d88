-- The test of values tells whether they are allowed.
use Rattle.std.proofs.Common.{◌≡◌, ◌≤◌, ◌==◌, ◌&&◌, ◌||◌, ◌∙◌, ap, sym, ℕ, Bool, true, false, length, refl, arith}
use Rattle.std.proofs.lemmas.Bool.Decides.{nat_tests}
use Rattle.std.proofs.lemmas.Bool.{false≢true, ne_eqb}
use Rattle.std.specs.Prelude.{nat_le, not}
use Rattle.responder_machine.specs.Answer.{Free}
use Rattle.responder_machine.specs.History.{History}
use Rattle.responder_machine.specs.May.{IsAllowed}
use Rattle.responder_machine.specs.Place.{Place, held_of, is_held, place_terms}
use Rattle.spdm_basis.proofs.Bools.{and_first, and_second}
use Rattle.spdm_machine.specs.Terms.{hash_len}
use Rattle.check_responder.specs.JudgedResponder.{AreBounded, are_allowed, are_few, is_id, is_unused}

from_test : (a b : ℕ) → nat_le a b ≡ true → a ≤ b
from_test a b is = grind (arith, nat_tests)

to_test : (a b : ℕ) → a ≤ b → nat_le a b ≡ true
to_test a b is = grind (arith, nat_tests)

both : (a b : Bool) → a ≡ true → b ≡ true → (a && b) ≡ true
both true b x y = y
both false b x y = absurd (false≢true x)

free_for : (b : Bool) → (all : Bool) → (all || not b) ≡ true → all ≡ false → b ≡ false
free_for false all is none = refl
free_for true true is none = absurd (false≢true (sym none))
free_for true false is none = absurd (false≢true is)

unused_by : (all b : Bool) → (all ≡ false → b ≡ false) → (all || not b) ≡ true
unused_by true b free = refl
unused_by false true free = absurd (false≢true (sym (free refl)))
unused_by false false free = refl

module _ (h : History) (p : Place) (f : Free) where
  abbrev long : Bool
  long = nat_le (hash_len (place_terms p)) (length f.context)

  pub allowed_from : AreBounded f → are_allowed h p f ≡ true → IsAllowed h p f
  allowed_from bounded is =
      let id = and_first (is_id f.id) (is_unused h f.id && (long && are_few f.reply f.pad)) is in
      let rest = and_second (is_id f.id) (is_unused h f.id && (long && are_few f.reply f.pad)) is in
      let unused = and_first (is_unused h f.id) (long && are_few f.reply f.pad) rest in
      let last = and_second (is_unused h f.id) (long && are_few f.reply f.pad) rest in
      let few = and_second long (are_few f.reply f.pad) last in record {
        least = from_test 1 f.id (and_first (nat_le 1 f.id) (nat_le f.id 4) id);
        most = from_test f.id 4 (and_second (nat_le 1 f.id) (nat_le f.id 4) id);
        unused = λ some. free_for (is_held h f.id) (held_of h == 4) unused (ne_eqb (held_of h) 4 some);
        context = from_test (hash_len (place_terms p)) (length f.context) (and_first long (are_few f.reply f.pad) last);
        exchange_opaque = bounded.exchange_opaque;
        nonce = bounded.nonce;
        measured_opaque = bounded.measured_opaque;
        handle = bounded.handle;
        reply = from_test (length f.reply) 1024 (and_first (nat_le (length f.reply) 1024) (nat_le (length f.pad) 16) few);
        pad = from_test (length f.pad) 16 (and_second (nat_le (length f.reply) 1024) (nat_le (length f.pad) 16) few);
      }

  pub allowed_to : IsAllowed h p f → are_allowed h p f ≡ true
  allowed_to fits =
      let id : is_id f.id ≡ true = both (nat_le 1 f.id) (nat_le f.id 4) (to_test 1 f.id fits.least) (to_test f.id 4 fits.most) in
      let unused : is_unused h f.id ≡ true = unused_by (held_of h == 4) (is_held h f.id) (λ none. fits.unused (λ all. false≢true (sym none ∙ to_eq (held_of h) all))) in
      let few : are_few f.reply f.pad ≡ true = both (nat_le (length f.reply) 1024) (nat_le (length f.pad) 16) (to_test (length f.reply) 1024 fits.reply) (to_test (length f.pad) 16 fits.pad) in
      both (is_id f.id) _ id (both (is_unused h f.id) _ unused (both long (are_few f.reply f.pad) (to_test (hash_len (place_terms p)) (length f.context) fits.context) few))
    where
      to_eq : (n : ℕ) → n ≡ 4 → (n == 4) ≡ true
      to_eq n is = ap (λ (k : ℕ). k == 4) is
