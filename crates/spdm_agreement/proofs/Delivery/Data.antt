-- Application data among the texts of requests and replies.
use Rattle.std.proofs.Common.{◌≡◌, ℕ, ◌==◌, ◌&&◌, ◌||◌, not, List, [], ◌∷◌, ◌++◌, length, take, drop, nat_lt, slice_index, Bool, true, false, cond, if◌then◌else◌, Option, Some, refl, sym, subst, inl, inr, ap₂}
use Rattle.byteorder.specs.Endian.{little_number}
use Rattle.world_machine.specs.Agreement.{IsPrefixOf}
use Rattle.spdm_agreement.specs.Claims.{in_order}
use Rattle.spdm_agreement.specs.Marks.{Asked, Served, Text, Exchange, requests, outstanding, heard, taken, firsts}
use Rattle.spdm_agreement.specs.Reading.{Reading}
use Rattle.spdm_agreement.proofs.Moves.Earlier.{in_order_prefix}
use Rattle.spdm_agreement.proofs.Moves.Invariant.{Invariant, IsAhead}
use Rattle.spdm_agreement.proofs.Moves.Runs.{taken_was_said, heard_was_taken}
use Rattle.spdm_agreement.proofs.Messages.Beginnings.{is_update_of, operation_in}
use Rattle.spdm_machine.specs.TagLog.{Log}

-- The inner message of a text: its length stands in front.
abbrev pub inner_in : Text → List ℕ
inner_in text = take (little_number 2 text) (drop 2 text)

-- The text holds application data, of at most 1,024 bytes.
abbrev pub is_data_inner : List ℕ → Bool
is_data_inner inner = slice_index inner 0 == 1 && not (nat_lt 1025 (length inner))

abbrev pub is_data_text : Text → Bool
is_data_text text = is_data_inner (inner_in text)

abbrev pub data_in : Text → List ℕ
data_in text = drop 1 (inner_in text)

-- The application data of a request; those of an exchange whose reply holds such data too, and those of its reply.
abbrev pub asked_data : Text → List (List ℕ)
asked_data b = if is_data_text b then data_in b ∷ [] else []

abbrev pub taken_data : Exchange → List (List ℕ)
taken_data x = if is_data_text x.0 && is_data_text x.1 then data_in x.0 ∷ [] else []

abbrev pub answered_data : Exchange → List (List ℕ)
answered_data x = if is_data_text x.0 && is_data_text x.1 then data_in x.1 ∷ [] else []

-- ---- Where application data are taken.

-- The last key update that was granted was not verified yet.
abbrev pub is_verification : Exchange → Bool
is_verification x = is_update_of (operation_in x.0 == 3) x

abbrev pub is_any_update : Exchange → Bool
is_any_update x = is_update_of (operation_in x.0 == 1 || operation_in x.0 == 2) x

abbrev pub verifying : List Exchange → Bool
verifying [] = false
verifying (x ∷ older) = if is_any_update x then true else (if is_verification x then false else verifying older)

-- Application data were asked with a verified key alone; what was asked so was answered with application data; and so
-- all of it was.
abbrev pub AskedOpenly : List Exchange → Type 0
AskedOpenly [] = Unit {0}
AskedOpenly (x ∷ older) = (is_data_text x.0 ≡ true → verifying older ≡ false) × AskedOpenly older

abbrev pub AnsweredDuly : List Exchange → Type 0
AnsweredDuly [] = Unit {0}
AnsweredDuly (x ∷ older) = (is_data_text x.0 ≡ true → verifying older ≡ false → is_data_text x.1 ≡ true) × AnsweredDuly older

abbrev AllAnswered : List Exchange → Type 0
AllAnswered [] = Unit {0}
AllAnswered (x ∷ older) = (is_data_text x.0 ≡ true → is_data_text x.1 ≡ true) × AllAnswered older

-- What a requester that has marks like these did.
pub record AsksOpenly (asked : List Asked) : Type 0 where
  pub asks : (u : List ℕ) → AskedOpenly (heard u asked)
  pub waits : (u : List ℕ) (b : Text) → outstanding u asked ≡ Some b → is_data_text b ≡ true → verifying (heard u asked) ≡ false

pub record ServesDuly (served : List Served) : Type 0 where
  pub duly : (u : List ℕ) → AnsweredDuly (taken u served)

all_answered : (ts : List Exchange) → AskedOpenly ts → AnsweredDuly ts → AllAnswered ts
all_answered [] a d = tt
all_answered (x ∷ older) a d = (λ e. d.0 e (a.0 e), all_answered older a.1 d.1)

taken_openly : (o : Option Text) (hs ts : List Exchange) → IsAhead o hs ts → AskedOpenly hs → ((b : Text) → o ≡ Some b → is_data_text b ≡ true → verifying hs ≡ false) → AskedOpenly ts
taken_openly o hs ts ahead openly waits = elim ahead [
  | inl e ↦ subst AskedOpenly (sym e) openly
  | inr x ↦ subst AskedOpenly (sym x.3) (waits x.0 x.2, openly)
]

-- Of what was answered, all requests count.
as_taken_by : (x : Exchange) (a b : Bool) → is_data_text x.0 ≡ a → is_data_text x.1 ≡ b → (a ≡ true → b ≡ true) → cond a (data_in x.0 ∷ []) [] ≡ cond (a && b) (data_in x.0 ∷ []) []
as_taken_by x true true p q all = refl
as_taken_by x true false p q all = absurd (let n = all refl in cc)
as_taken_by x false b p q all = refl

as_taken : (ts : List Exchange) → AllAnswered ts → in_order asked_data (firsts ts) ≡ in_order taken_data ts
as_taken [] all = refl
as_taken (x ∷ older) all = ap₂ (λ (a b : List (List ℕ)). a ++ b) (as_taken older all.1) (as_taken_by x (is_data_text x.0) (is_data_text x.1) refl refl all.0)

-- The application data taken under a T2 are the beginning of those sealed under it, in both directions.
pub data_prefix : (r : Reading) (asked : List Asked) (served : List Served) (log : Log) → Invariant r asked served log → AsksOpenly asked → ServesDuly served → (u : List ℕ)
    → IsPrefixOf (in_order taken_data (taken u served)) (in_order asked_data (requests u asked))
    × IsPrefixOf (in_order answered_data (heard u asked)) (in_order answered_data (taken u served))
data_prefix r asked served log k openly duly u =
    let ahead = k.links.ahead u in
    let all = all_answered (taken u served) (taken_openly (outstanding u asked) (heard u asked) (taken u served) ahead (openly.asks u) (openly.waits u)) (duly.duly u) in (
      subst (λ (l : List (List ℕ)). IsPrefixOf l (in_order asked_data (requests u asked))) (as_taken (taken u served) all)
          (in_order_prefix asked_data (firsts (taken u served)) (requests u asked) (taken_was_said (outstanding u asked) (requests u asked) (heard u asked) (taken u served) (k.asks.talks u) ahead)),
      in_order_prefix answered_data (heard u asked) (taken u served) (heard_was_taken (outstanding u asked) (heard u asked) (taken u served) ahead),
    )
