-- A text that holds a message holds no other one.
use Rattle.std.proofs.Common.{◌≡◌, ◌<◌, ◌+◌, ◌++◌, ℕ, List, ◌∷◌, sym, ap, ◌∙◌, drop, length, length-append, arith, Bool, true, false}
use Rattle.std.proofs.lemmas.Bool.{false≢true}
use Rattle.check_fetched_laws.specs.AnswerTexts.{Holds, HoldsNone}
use Rattle.secured_record.specs.Format.{plain_text}
use Rattle.check_late_laws.proofs.Late.PlainTexts.{one_inner}
use Rattle.check_fetched_ends.specs.InSession.{is_chunk}
use Rattle.check_fetched_ends.specs.SessionOthers.{IsRefusing, is_error}

pub holds_none : (text : List ℕ) → length text < 65536 → HoldsNone text → (m : List ℕ) → Holds text m → ⊥
holds_none text brief none m holds =
    let long : length text ≡ length (plain_text (5 ∷ m) holds.0) = ap (λ (l : List ℕ). length l) holds.1 in
    let more : length ((5 ∷ m) ++ holds.0) ≡ length (5 ∷ m) + length holds.0 = length-append (5 ∷ m) holds.0 in
    let all : length (plain_text (5 ∷ m) holds.0) ≡ 2 + length ((5 ∷ m) ++ holds.0) = omega arith in
    none m holds.0 (omega (arith, long, more, all, brief)) holds.1

pub holds_other : (text one : List ℕ) → length text < 65536 → Holds text one → is_chunk one ≡ false → (m : List ℕ) → Holds text m → is_chunk m ≡ true → ⊥
holds_other text one brief holds unlike m other chunk =
    false≢true (sym unlike ∙ ap (λ (l : List ℕ). is_chunk (drop 1 l)) (one_inner text (5 ∷ one) (5 ∷ m) holds.0 other.0 brief holds.1 other.1) ∙ chunk)

-- Whether it is ERROR.
pub holds_refusing : (text m : List ℕ) (b : Bool) → length text < 65536 → Holds text m → is_error m ≡ b → IsRefusing text b
holds_refusing text m true brief holds is = (m, holds, is)
holds_refusing text m false brief holds is = λ n other error.
    false≢true (sym is ∙ ap (λ (l : List ℕ). is_error (drop 1 l)) (one_inner text (5 ∷ m) (5 ∷ n) holds.0 other.0 brief holds.1 other.1) ∙ error)

pub none_refusing : (text : List ℕ) → length text < 65536 → HoldsNone text → IsRefusing text false
none_refusing text brief none = λ m holds error. holds_none text brief none m holds
