-- A requester takes from a reply what the responder chose.
use Rattle.std.proofs.Common.{◌≡◌, ℕ, Bool, true, false, cond, eqb, List, map, Option, Some, None, refl, ap, subst, ◌∙◌, ◌⊎◌, inl, inr}
use Rattle.std.specs.Prelude.{◌&&◌, ◌||◌, nat_eq}
use Rattle.std.proofs.lemmas.Bool.{and_parts}
use Rattle.spdm_basis.specs.declared.values.hash_alg.HashAlg.{HashAlg}
use Rattle.spdm_basis.specs.declared.values.hash_alg.HashAlg.TheVariants.{Sha256, Sha384}
use Rattle.spdm_basis.specs.declared.values.aead_alg.AeadAlg.{AeadAlg}
use Rattle.spdm_basis.specs.declared.values.aead_alg.AeadAlg.TheVariants.{Aes128Gcm, Aes256Gcm}
use Rattle.spdm_grammar.specs.declared.messages.choice.Choice.{Choice}
use Rattle.spdm_grammar.specs.Message.{OfferMessage}
use Rattle.negotiate.specs.declared.selection.AlgPolicy.{AlgPolicy}
use Rattle.negotiate.specs.Capabilities.{has_all}
use Rattle.negotiate.specs.Tables.{Table, tables_in, value_of}
use Rattle.negotiate.specs.Choosing.{has_small, has_large, has_room_for_sha_384, hash_bit, aead_bit, offered_aead, offered_key_schedule, hash_choice, aead_choice, choice_with, selected, chosen_hash, chosen_aead, agreed}
use Rattle.negotiate.specs.Reply.{answered_kinds, answer_bits, reply_of}
use Rattle.negotiate.proofs.KindLists.{is_in}
use Rattle.negotiate.proofs.Answered.{read_again, answer_at, is_in_once, has_kind}

-- ---- what a choice says

first_or_second : {A : Type 0} (p q : Bool) (x y z : A) → cond p (Some x) (cond q (Some y) None) ≡ Some z → ((p ≡ true) × (x ≡ z)) ⊎ ((q ≡ true) × (y ≡ z))
first_or_second true q x y z h = inl (refl, cc)
first_or_second false true x y z h = inr (refl, cc)
first_or_second false false x y z h = absurd cc

hash_again : (offer : OfferMessage) (policy : AlgPolicy) (hash : HashAlg) → hash_choice offer policy ≡ Some hash → chosen_hash offer.hash (hash_bit hash) ≡ Some hash
hash_again offer policy hash h =
    elim (first_or_second (has_all offer.hash 2 && has_large policy.suites.hash && has_room_for_sha_384 policy.transfer) (has_all offer.hash 1 && has_small policy.suites.hash) Sha384 Sha256 hash h) [
      | inl both ↦
          (let offered = and_parts (has_all offer.hash 2) (has_large policy.suites.hash) (and_parts (has_all offer.hash 2 && has_large policy.suites.hash) (has_room_for_sha_384 policy.transfer) both.0).0 in
          let P : HashAlg → Type 0 = λ a. chosen_hash offer.hash (hash_bit a) ≡ Some a in
          subst P both.1 (ap (λ (b : Bool). cond b (Some Sha384) None) offered.0))
      | inr both ↦
          let offered = and_parts (has_all offer.hash 1) (has_small policy.suites.hash) both.0 in
          let P : HashAlg → Type 0 = λ a. chosen_hash offer.hash (hash_bit a) ≡ Some a in
          subst P both.1 (ap (λ (b : Bool). cond b (Some Sha256) None) offered.0)
    ]

-- the AEAD that was chosen is taken, and it was offered
pub record IsTaken (offered : ℕ) (aead : AeadAlg) : Type 0 where
  pub taken : chosen_aead offered (aead_bit aead) ≡ Some aead
  pub was_offered : has_all offered (aead_bit aead) ≡ true

aead_again : (offer : OfferMessage) (policy : AlgPolicy) (aead : AeadAlg) → aead_choice offer policy ≡ Some aead → IsTaken (offered_aead offer) aead
aead_again offer policy aead h =
    elim (first_or_second (has_all (offered_aead offer) 2 && has_large policy.suites.aead) (has_all (offered_aead offer) 1 && has_small policy.suites.aead) Aes256Gcm Aes128Gcm aead h) [
      | inl both ↦
          (let offered = and_parts (has_all (offered_aead offer) 2) (has_large policy.suites.aead) both.0 in
          subst (λ (a : AeadAlg). IsTaken (offered_aead offer) a) both.1 (record { taken = ap (λ (b : Bool). cond b (Some Aes256Gcm) None) offered.0; was_offered = offered.0 }))
      | inr both ↦
          let offered = and_parts (has_all (offered_aead offer) 1) (has_small policy.suites.aead) both.0 in
          subst (λ (a : AeadAlg). IsTaken (offered_aead offer) a) both.1 (record { taken = ap (λ (b : Bool). cond b (Some Aes128Gcm) None) offered.0; was_offered = offered.0 })
    ]

no_bits : (aead : AeadAlg) → has_all 0 (aead_bit aead) ≡ false
no_bits Aes128Gcm = refl
no_bits Aes256Gcm = refl

-- ---- the structures of the reply

answered : (offer : OfferMessage) (choice : Choice) (kind bit : ℕ) → is_in (answered_kinds offer) kind ≡ true → value_of kind (tables_in (reply_of offer choice).count (reply_of offer choice).tables) ≡ answer_bits choice kind
answered offer choice kind bit h =
    ap (λ (ts : List Table). value_of kind ts) (read_again choice (answered_kinds offer)) ∙ answer_at kind choice (answered_kinds offer) h

key_schedule_answered : (offer : OfferMessage) (choice : Choice) → has_all (offered_key_schedule offer) 1 ≡ true → value_of 5 (tables_in (reply_of offer choice).count (reply_of offer choice).tables) ≡ 1
key_schedule_answered offer choice h =
    answered offer choice 5 1 (is_in_once 5 (map (λ (table : Table). table.kind) (tables_in offer.count offer.tables)) refl (has_kind 5 1 (tables_in offer.count offer.tables) refl h))

aead_answered : (offer : OfferMessage) (choice : Choice) → has_all (offered_aead offer) (aead_bit choice.aead) ≡ true → value_of 3 (tables_in (reply_of offer choice).count (reply_of offer choice).tables) ≡ aead_bit choice.aead
aead_answered offer choice h =
    answered offer choice 3 (aead_bit choice.aead) (is_in_once 3 (map (λ (table : Table). table.kind) (tables_in offer.count offer.tables)) refl (has_kind 3 (aead_bit choice.aead) (tables_in offer.count offer.tables) (no_bits choice.aead) h))

-- ---- measurements

measured : (m p offered : Bool) → (p && offered) ≡ m → (nat_eq (cond m 1 0) 0 || (nat_eq (cond m 1 0) 1 && offered)) ≡ true
measured false p offered h = refl
measured true p offered h = (and_parts p offered h).1

told : (m : Bool) → nat_eq (cond m 1 0) 1 ≡ m
told true = refl
told false = refl

-- ---- the law

-- the parts of a responder's choice
pub record IsChosen (offer : OfferMessage) (policy : AlgPolicy) (choice : Choice) : Type 0 where
  pub key_schedule : has_all (offered_key_schedule offer) 1 ≡ true
  pub hash : hash_choice offer policy ≡ Some choice.hash
  pub aead : aead_choice offer policy ≡ Some choice.aead
  pub measure : (policy.measure && has_all offer.measurement 1) ≡ choice.measure

parts : (k : Bool) (hash : Option HashAlg) (aead : Option AeadAlg) (measure : Bool) (choice : Choice) → cond k (choice_with hash aead measure) None ≡ Some choice → (k ≡ true) × (hash ≡ Some choice.hash) × (aead ≡ Some choice.aead) × (measure ≡ choice.measure)
parts false hash aead measure choice h = absurd cc
parts true None aead measure choice h = absurd cc
parts true (Some hash) None measure choice h = absurd cc
parts true (Some hash) (Some aead) measure choice h = (refl, cc, cc, cc)

is_chosen : (offer : OfferMessage) (policy : AlgPolicy) (choice : Choice) → selected offer policy ≡ Some choice → IsChosen offer policy choice
is_chosen offer policy choice h =
    let p = parts (has_all (offered_key_schedule offer) 1) (hash_choice offer policy) (aead_choice offer policy) (policy.measure && has_all offer.measurement 1) choice h in
    record { key_schedule = p.0; hash = p.1; aead = p.2; measure = p.3 }

joined : (k o m : Bool) (hash : Option HashAlg) (aead : Option AeadAlg) (told : Bool) (choice : Choice) → k ≡ true → o ≡ true → m ≡ true → hash ≡ Some choice.hash → aead ≡ Some choice.aead → told ≡ choice.measure → cond (k && o && m) (choice_with hash aead told) None ≡ Some choice
joined k o m hash aead told choice a b c d e f = rw (a, b, c, d, e, f) refl

pub choice_is_agreed : (offer : OfferMessage) (policy : AlgPolicy) (choice : Choice) → selected offer policy ≡ Some choice → agreed offer (reply_of offer choice) ≡ Some choice
choice_is_agreed offer policy choice h =
    let c = is_chosen offer policy choice h in
    let aead = aead_again offer policy choice.aead c.aead in
    joined (eqb (value_of 5 (tables_in (reply_of offer choice).count (reply_of offer choice).tables)) 1) (has_all (offered_key_schedule offer) 1)
    (nat_eq (reply_of offer choice).measurement 0 || (nat_eq (reply_of offer choice).measurement 1 && has_all offer.measurement 1))
    (chosen_hash offer.hash (reply_of offer choice).hash) (chosen_aead (offered_aead offer) (value_of 3 (tables_in (reply_of offer choice).count (reply_of offer choice).tables))) (nat_eq (reply_of offer choice).measurement 1) choice
    (ap (λ (v : ℕ). eqb v 1) (key_schedule_answered offer choice c.key_schedule))
    c.key_schedule
    (measured choice.measure policy.measure (has_all offer.measurement 1) c.measure)
    (hash_again offer policy choice.hash c.hash)
    (ap (λ (v : ℕ). chosen_aead (offered_aead offer) v) (aead_answered offer choice aead.was_offered) ∙ aead.taken)
    (told choice.measure)
