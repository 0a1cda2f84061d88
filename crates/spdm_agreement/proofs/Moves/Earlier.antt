-- Lists as they were earlier, the newest first, and the epoch and number that a list tells.
use Rattle.std.proofs.Common.{◌≡◌, ◌⊎◌, ℕ, ◌+◌, ◌<◌, ◌≤◌, List, [], ◌∷◌, ◌++◌, length, Bool, true, false, refl, sym, ap, ◌∙◌, subst, inl, inr, arith, cond, append_assoc, append-nil}
use Rattle.spdm_agreement.specs.Claims.{in_order}
use Rattle.spdm_agreement.specs.Marks.{Exchange, firsts, epoch_of, count_of, reply_number}
use Rattle.spdm_agreement.specs.Reading.{Reading}
use Rattle.world_machine.specs.Agreement.{IsPrefixOf}

-- One list is what another was, or is.
abbrev pub IsEarlier : {A : Type 0} → List A → List A → Type 0
IsEarlier xs [] = xs ≡ []
IsEarlier xs (y ∷ ys) = (xs ≡ y ∷ ys) ⊎ IsEarlier xs ys

pub earlier_self : {A : Type 0} (ys : List A) → IsEarlier ys ys
earlier_self [] = refl
earlier_self (y ∷ ys) = inl refl

pub earlier_trans : {A : Type 0} (xs ys zs : List A) → IsEarlier xs ys → IsEarlier ys zs → IsEarlier xs zs
earlier_trans xs ys [] h k = subst (λ l. IsEarlier xs l) k h
earlier_trans xs ys (z ∷ zs) h k = elim k [ inl e ↦ subst (λ l. IsEarlier xs l) e h | inr k' ↦ inr (earlier_trans xs ys zs h k') ]

pub earlier_tail : {A : Type 0} (x : A) (xs ys : List A) → IsEarlier (x ∷ xs) ys → IsEarlier xs ys
earlier_tail x xs [] h = absurd (cc)
earlier_tail x xs (y ∷ ys) h = elim h [ inl e ↦ (let same : ys ≡ xs = cc in inr (subst (λ l. IsEarlier l ys) same (earlier_self ys))) | inr h' ↦ inr (earlier_tail x xs ys h') ]

pub earlier_if : {A : Type 0} (c : Bool) (y : A) (xs ys : List A) → IsEarlier xs ys → IsEarlier xs (cond c (y ∷ ys) ys)
earlier_if true y xs ys h = inr h
earlier_if false y xs ys h = h

pub firsts_earlier : (xs ys : List Exchange) → IsEarlier xs ys → IsEarlier (firsts xs) (firsts ys)
firsts_earlier xs [] h = ap firsts h
firsts_earlier xs (y ∷ ys) h = elim h [ inl e ↦ inl (ap firsts e) | inr h' ↦ inr (firsts_earlier xs ys h') ]

-- ---- The epoch and the count of a list tell where it stands.

no_less : (b : Bool) (n : ℕ) → n ≤ cond b (n + 1) n
no_less true n = omega arith
no_less false n = omega arith

epoch_below : (ends : Exchange → Bool) (xs ys : List Exchange) → IsEarlier xs ys → epoch_of ends xs ≤ epoch_of ends ys
epoch_below ends xs [] h = rw h (omega arith)
epoch_below ends xs (y ∷ ys) h = elim h [ inl e ↦ rw e (omega arith) | inr h' ↦ (let k = epoch_below ends xs ys h' in let l = no_less (ends y) (epoch_of ends ys) in omega arith) ]

abbrev Behind : (Exchange → Bool) → ℕ → Bool → List Exchange → List Exchange → Type 0
Behind ends start b xs ys = epoch_of ends xs ≡ cond b (epoch_of ends ys + 1) (epoch_of ends ys) → count_of ends start xs < cond b start (count_of ends start ys + 1)

behind : (ends : Exchange → Bool) (start : ℕ) (b : Bool) (xs ys : List Exchange) → epoch_of ends xs ≤ epoch_of ends ys → (epoch_of ends xs ≡ epoch_of ends ys → count_of ends start xs ≤ count_of ends start ys) → Behind ends start b xs ys
behind ends start true xs ys l f e = absurd (omega arith)
behind ends start false xs ys l f e = (let k = f e in omega arith)

count_below : (ends : Exchange → Bool) (start : ℕ) (xs ys : List Exchange) → IsEarlier xs ys → epoch_of ends xs ≡ epoch_of ends ys → count_of ends start xs ≤ count_of ends start ys
count_below ends start xs [] h e = rw h (omega arith)
count_below ends start xs (y ∷ ys) h e = elim h [ inl s ↦ rw s (omega arith) | inr h' ↦ (let k = behind ends start (ends y) xs ys (epoch_below ends xs ys h') (count_below ends start xs ys h') e in omega arith) ]

pub same_place : (ends : Exchange → Bool) (start : ℕ) (xs zs ys : List Exchange) → IsEarlier xs ys → IsEarlier zs ys → epoch_of ends xs ≡ epoch_of ends zs → count_of ends start xs ≡ count_of ends start zs → xs ≡ zs
same_place ends start xs zs [] h k e n = h ∙ sym k
same_place ends start xs zs (y ∷ ys) h k e n = elim h [
  | inl hx ↦ elim k [
    | inl kz ↦ hx ∙ sym kz
    | inr k' ↦ absurd (let below = behind ends start (ends y) zs ys (epoch_below ends zs ys k') (count_below ends start zs ys k') (sym e ∙ ap (epoch_of ends) hx) in let c = ap (count_of ends start) hx in omega arith)
  ]
  | inr h' ↦ elim k [
    | inl kz ↦ absurd (let below = behind ends start (ends y) xs ys (epoch_below ends xs ys h') (count_below ends start xs ys h') (e ∙ ap (epoch_of ends) kz) in let c = ap (count_of ends start) kz in omega arith)
    | inr k' ↦ same_place ends start xs zs ys h' k' e n
  ]
]

length_below : {A : Type 0} (xs ys : List A) → IsEarlier xs ys → length xs ≤ length ys
length_below xs [] h = rw h (omega arith)
length_below xs (y ∷ ys) h = elim h [ inl e ↦ rw e (omega arith) | inr h' ↦ (let k = length_below xs ys h' in omega arith) ]

pub same_length : {A : Type 0} (xs zs ys : List A) → IsEarlier xs ys → IsEarlier zs ys → length xs ≡ length zs → xs ≡ zs
same_length xs zs [] h k n = h ∙ sym k
same_length xs zs (y ∷ ys) h k n = elim h [
  | inl hx ↦ elim k [
    | inl kz ↦ hx ∙ sym kz
    | inr k' ↦ absurd (let below = length_below zs ys k' in let c = ap length hx in omega arith)
  ]
  | inr h' ↦ elim k [
    | inl kz ↦ absurd (let below = length_below xs ys h' in let c = ap length kz in omega arith)
    | inr k' ↦ same_length xs zs ys h' k' n
  ]
]

-- What was earlier than a list does not stand where the list stands.
pub longer : {A : Type 0} (x : A) (xs ys : List A) → IsEarlier (x ∷ xs) ys → length xs < length ys
longer x xs ys h = length_below (x ∷ xs) ys h

pub not_same_place : (ends : Exchange → Bool) (start : ℕ) (x : Exchange) (xs ys : List Exchange) → IsEarlier (x ∷ xs) ys → epoch_of ends ys ≡ epoch_of ends xs → count_of ends start ys ≡ count_of ends start xs → ⊥
not_same_place ends start x xs ys h e n =
    let same : ys ≡ xs = same_place ends start ys xs ys (earlier_self ys) (earlier_tail x xs ys h) e n in
    let l = longer x xs ys h in let k = ap length same in omega arith

positive : (b : Bool) (n : ℕ) → 0 < cond b 1 (n + 1)
positive true n = omega arith
positive false n = omega arith

-- The numbers of two replies are equal only if the counts are.
pub same_count : (r : Reading) (b c : Exchange) (xs zs : List Exchange) → reply_number r (b ∷ xs) ≡ reply_number r (c ∷ zs) → count_of r.is_update_all 1 (b ∷ xs) ≡ count_of r.is_update_all 1 (c ∷ zs)
same_count r b c xs zs e =
    let k = positive (r.is_update_all b) (count_of r.is_update_all 1 xs) in
    let l = positive (r.is_update_all c) (count_of r.is_update_all 1 zs) in
    omega arith

-- ---- What was earlier is a beginning, in order.

prefix_more : (xs ys new : List (List ℕ)) → IsPrefixOf xs ys → IsPrefixOf xs (ys ++ new)
prefix_more xs ys new p = (p.0 ++ new, sym (append_assoc xs p.0 new) ∙ ap (λ (l : List (List ℕ)). l ++ new) p.1)

pub in_order_prefix : {A : Type 0} (choose : A → List (List ℕ)) (xs ys : List A) → IsEarlier xs ys → IsPrefixOf (in_order choose xs) (in_order choose ys)
in_order_prefix choose xs [] h = ([], append-nil _ ∙ ap (in_order choose) h)
in_order_prefix choose xs (y ∷ ys) h = elim h [
  | inl e ↦ ([], append-nil _ ∙ ap (in_order choose) e)
  | inr h' ↦ prefix_more _ _ (choose y) (in_order_prefix choose xs ys h')
]
