-- The marks as an answer moves them, case by case.
use Rattle.std.proofs.Common.{◌≡◌, ◌≤◌, ◌==◌, ◌&&◌, ◌||◌, ◌∙◌, ℕ, List, [], ◌∷◌, refl, sym, ap, Bool, true, false, None, cond}
use Rattle.std.proofs.Math.Bool.{and-false}
use Rattle.check_late_laws.specs.Late.Marking.{StandsFor, mark_of}
use Rattle.check_late_laws.specs.Late.Passed.{touched}
use Rattle.check_late_laws.specs.declared.late_fetch.marks.Marks.{Marks}
use Rattle.responder_machine.specs.History.{History}
use Rattle.responder_machine.specs.History.Entry.{Clear, Dropped}
use Rattle.responder_machine.specs.Turn.{Turn, is_taken}
use Rattle.responder_machine.specs.Turn.Effect.{NoEffect}
use Rattle.spdm_machine.specs.Keys.{Draw}

abbrev pub moved_by : (clear moves : Bool) → (id i : ℕ) → (was : Bool) → Bool
moved_by clear moves id i was = cond clear (cond moves false was) ((id == i && moves) || was)

unmoved : (clear : Bool) (id i : ℕ) (was : Bool) → moved_by clear false id i was ≡ was
unmoved true id i was = refl
unmoved false id i was = ap (λ (b : Bool). b || was) (and-false (id == i))

all_of : (b : Bool) → (b && true) ≡ b
all_of true = refl
all_of false = refl

module _ (old new : Marks) (clear moves : Bool) (id : ℕ) (h g : History) (are : (i : ℕ) → touched i g ≡ moved_by clear moves id i (touched i h)) where
  -- They stay,
  pub marks_stay : moves ≡ false → new ≡ old → StandsFor old h → StandsFor new g
  marks_stay none same stands = λ i least most.
      ap (λ (x : Marks). mark_of x i) same ∙ stands i least most ∙ sym (are i ∙ ap (λ (b : Bool). moved_by clear b id i (touched i h)) none ∙ unmoved clear id i (touched i h))

  -- are cleared,
  pub marks_clear : moves ≡ true → clear ≡ true → (t : Turn) (d : Draw) → is_taken t ≡ true → StandsFor new (Clear 0 t d ∷ h) → StandsFor new g
  marks_clear is clears t d taken stands = λ i least most.
      stands i least most ∙ ap (λ (b : Bool). cond b false (touched i h)) taken
      ∙ sym (are i ∙ ap (λ (b : Bool). moved_by b moves id i (touched i h)) clears ∙ ap (λ (b : Bool). cond b false (touched i h)) is)

  -- or one is set.
  pub marks_set : moves ≡ true → clear ≡ false → StandsFor new (Dropped id ∷ h) → StandsFor new g
  marks_set is other stands = λ i least most.
      stands i least most
      ∙ sym (are i ∙ ap (λ (b : Bool). moved_by b moves id i (touched i h)) other ∙ ap (λ (b : Bool). (id == i && b) || touched i h) is ∙ ap (λ (b : Bool). b || touched i h) (all_of (id == i)))

-- A turn that was taken.
abbrev pub taken_turn : Turn
taken_turn = record { message = []; refused = None; chunk = None; effect = NoEffect; reply = [] }
