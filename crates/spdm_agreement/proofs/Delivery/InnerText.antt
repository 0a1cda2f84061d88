-- The inner message stands in the text that is made of it.
use Rattle.std.proofs.Common.{◌≡◌, ℕ, zero, suc, ◌<◌, ◌≤◌, not, List, [], ◌∷◌, ◌++◌, length, take, drop, Bool, true, false, cond, Option, Some, None, refl, sym, ap, ◌∙◌, arith, append-nil, bytes_eq}
use Rattle.std.proofs.Math.Seq.{take-append_seam}
use Rattle.std.proofs.lemmas.Bool.{lt-leb}
use Rattle.byteorder.specs.Endian.{little_number}
use Rattle.secured_record.specs.Format.{plain_text}
use Rattle.secured_record.proofs.Records.{inner_length}
use Rattle.world_machine.specs.Agreement.{some_under}
use Rattle.spdm_agreement.specs.Claims.{in_order}
use Rattle.spdm_agreement.proofs.Delivery.Data.{inner_in, is_data_inner, is_data_text, data_in}

pub inner_is : (inner pad : List ℕ) → length inner < 65536 → inner_in (plain_text inner pad) ≡ inner
inner_is inner pad less = ap (λ (n : ℕ). take n (inner ++ pad)) (inner_length (length inner) (inner ++ pad) less) ∙ take-append_seam inner pad

-- Application data that are sealed.
pub data_text : (bytes pad : List ℕ) → length bytes ≤ 1024 → (is_data_text (plain_text (1 ∷ bytes) pad) ≡ true) × (data_in (plain_text (1 ∷ bytes) pad) ≡ bytes)
data_text bytes pad short =
    let is = inner_is (1 ∷ bytes) pad (omega arith) in
    (ap is_data_inner is ∙ ap not (lt-leb (suc 1025) (length (1 ∷ bytes)) (omega arith)), ap (λ (l : List ℕ). drop 1 l) is)

-- An SPDM message is none.
no_data : (n : ℕ) (l : List ℕ) → is_data_inner (take n (5 ∷ l)) ≡ false
no_data zero l = refl
no_data (suc n) l = refl

pub message_no_data : (message pad : List ℕ) → is_data_text (plain_text (5 ∷ message) pad) ≡ false
message_no_data message pad = no_data (little_number 2 (plain_text (5 ∷ message) pad)) (message ++ pad)

-- ---- What is chosen of the texts under a T2.

abbrev pub as_list : Option (List ℕ) → List (List ℕ)
as_list None = []
as_list (Some x) = x ∷ []

-- One more text, under its own T2.
pub one_more : {A : Type 0} (choose : A → List (List ℕ)) (x : A) (rest : List A) (t2 transcript : List ℕ) (o : Option (List ℕ)) → choose x ≡ as_list o
    → in_order choose (cond (bytes_eq transcript t2) (x ∷ rest) rest) ≡ in_order choose rest ++ some_under t2 transcript o
one_more {A = A} choose x rest t2 transcript None e = go (bytes_eq transcript t2)
  where
    go : (b : Bool) → in_order choose (cond b (x ∷ rest) rest) ≡ in_order choose rest ++ []
    go true = ap (λ (l : List (List ℕ)). in_order choose rest ++ l) e
    go false = sym (append-nil (in_order choose rest))
one_more {A = A} choose x rest t2 transcript (Some bytes) e = go (bytes_eq transcript t2)
  where
    go : (b : Bool) → in_order choose (cond b (x ∷ rest) rest) ≡ in_order choose rest ++ cond b (bytes ∷ []) []
    go true = ap (λ (l : List (List ℕ)). in_order choose rest ++ l) e
    go false = sym (append-nil (in_order choose rest))

-- No more.
pub no_more : (rest : List (List ℕ)) (t2 transcript : List ℕ) (o : Option (List ℕ)) → o ≡ None → rest ≡ rest ++ some_under t2 transcript o
no_more rest t2 transcript None e = sym (append-nil rest)
no_more rest t2 transcript (Some bytes) e = absurd (cc)
