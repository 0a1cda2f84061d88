-- Where a fault is that reading a response finds: not far after the end of its bytes.
use Rattle.std.proofs.Common.{◌≡◌, ◌≤◌, ◌+◌, ◌*◌, ◌/◌, ◌%◌, ℕ, zero, suc, Bool, true, false, eqb, ltb, cond, List, ◌++◌, length, refl, sym, ap, subst, arith, inl, inr}
use Rattle.std.specs.Prelude.{⊤, ◌==◌, Option, Ok, Err}
use Rattle.std.proofs.lemmas.Bool.{ltb-true}
use Rattle.std.proofs.lemmas.List.{length-append}
use Rattle.spdm_grammar.specs.declared.messages.malformed.Malformed.{Malformed}
use Rattle.spdm_grammar.specs.declared.messages.malformed.Part.TheVariants.{End, Field, Length, Rest}
use Rattle.spdm_grammar.specs.Layout.{Layout}
use Rattle.spdm_grammar.specs.Layout.Layout.{Whole, Sized, Number, Optional, Bytes, Tables, UpTo, Remaining}
use Rattle.spdm_grammar.specs.Message.ResponseMessage.{Error}
use Rattle.spdm_grammar.specs.Reading.{and_then, front, Place, read, field_at, number_at, optional_at, behind_table, behind_tables, tables_at, ended, all_up_to}
use Rattle.spdm_grammar.specs.Responses.{response_reading, response_layout, response_body, psk_exchange_rsp_layout, version_layout, error_layout, capabilities_layout, algorithms_layout, measurements_layout, psk_finish_rsp_layout, heartbeat_ack_layout, key_update_ack_layout, end_session_ack_layout, chunk_send_ack_layout, chunk_response_layout}
use Rattle.spdm_grammar.specs.declared.names.error_number.TheConstants.{RESPONSE_TOO_LARGE, LARGE_RESPONSE}
use Rattle.spdm_grammar.proofs.Steps.{Between, then_err, passed_err, avoided_err, field_takes, number_takes, optional_none, optional_some, table_takes, tables_take}

-- A Length field is among the first.
abbrev Early : {A : Type 0} → Layout A → Type 0
Early (Whole value) = ⊤
Early (Sized told told_at value) = told_at ≤ 4
Early (Number width is_allowed next) = (n : ℕ) → Early (next n)
Early (Optional is_there width next) = (n : Option ℕ) → Early (next n)
Early (Bytes width next) = (field : List ℕ) → Early (next field)
Early (Tables count next) = (field : List ℕ) → Early (next field)
Early (UpTo most value) = ⊤
Early (Remaining value) = ⊤

-- The fault is within the bytes from a place on, or among the first four.
abbrev IsNear : Place → Malformed → Type 0
IsNear p e = e.at ≤ p.at + length p.rest + 4

field_near : (width : ℕ) (p : Place) (e : Malformed) → field_at width p ≡ Err e → IsNear p e
unfolding field_at
field_near width p e h =
    elim (avoided_err (ltb (length p.rest) width) _ (record { at = p.at + length p.rest; what = End }) e h) [
      | inl t ↦ (let is = ap (λ (d : Malformed). d.at) t.1 in omega (arith, is))
      | inr t ↦ absurd (let k = t.1 in cc)
    ]

number_near : (width : ℕ) (p : Place) (e : Malformed) → number_at width p ≡ Err e → IsNear p e
unfolding number_at
number_near width p e h =
    elim (then_err (field_at width p) _ e h) [
      | inl t ↦ field_near width p e t
      | inr t ↦ absurd (let k = t.2 in cc)
    ]

optional_near : (is_there : Bool) (width : ℕ) (p : Place) (e : Malformed) → optional_at is_there width p ≡ Err e → IsNear p e
unfolding optional_at
optional_near false width p e h = absurd (cc h)
optional_near true width p e h =
    elim (then_err (number_at width p) _ e h) [
      | inl t ↦ number_near width p e t
      | inr t ↦ absurd (let k = t.2 in cc)
    ]

-- A place after some of the bytes.
later : (p q : Place) (field : List ℕ) (k : ℕ) (e : Malformed) → p.rest ≡ field ++ q.rest → q.at ≡ p.at + k → length field ≡ k → IsNear q e → IsNear p e
later p q field k e parts at long near = omega (arith, ap length parts, length-append field q.rest, at, long, near)

table_near : (p : Place) (e : Malformed) → behind_table p ≡ Err e → IsNear p e
unfolding behind_table
table_near p e h =
    elim (then_err (field_at 1 p) _ e h) [
      | inl t ↦ field_near 1 p e t
      | inr kind ↦
          let a = field_takes 1 p kind.0 kind.1 in
          later p kind.0.1 kind.0.0 1 e a.parts a.at a.long
          (elim (then_err (number_at 1 kind.0.1) _ e kind.2) [
            | inl t ↦ number_near 1 kind.0.1 e t
            | inr count ↦
                let b = number_takes 1 kind.0.1 count.0 count.1 in
                elim (passed_err (eqb (count.0.0 / 16) 2) (and_then (field_at (2 + 4 * (count.0.0 % 16)) count.0.1) (λ others. Ok others.1)) (record { at = kind.0.1.at; what = Field }) e count.2) [
                  | inl t ↦ (let is = ap (λ (d : Malformed). d.at) t.1 in omega (arith, is))
                  | inr t ↦
                      later kind.0.1 count.0.1 b.0 1 e b.1.parts b.1.at b.1.long
                      (elim (then_err (field_at (2 + 4 * (count.0.0 % 16)) count.0.1) _ e t.1) [
                        | inl u ↦ field_near (2 + 4 * (count.0.0 % 16)) count.0.1 e u
                        | inr u ↦ absurd (let k = u.2 in cc)
                      ])
                ]
          ])
    ]

between : (p q : Place) (field : List ℕ) (e : Malformed) → Between p field q → IsNear q e → IsNear p e
between p q field e b near = later p q field (length field) e b.parts b.at refl near

tables_near : (count : ℕ) (p : Place) (e : Malformed) → behind_tables count p ≡ Err e → IsNear p e
unfolding behind_tables
tables_near zero p e h = absurd (cc h)
tables_near (suc count) p e h =
    elim (then_err (behind_table p) _ e h) [
      | inl t ↦ table_near p e t
      | inr first ↦ (let t = table_takes p first.0 first.1 in between p first.0 t.0 e t.1 (tables_near count first.0 e first.2))
    ]

tables_at_near : (count : ℕ) (p : Place) (e : Malformed) → tables_at count p ≡ Err e → IsNear p e
unfolding tables_at
tables_at_near count p e h =
    elim (then_err (behind_tables count p) _ e h) [
      | inl t ↦ tables_near count p e t
      | inr t ↦ absurd (let k = t.2 in cc)
    ]

ended_near : {A : Type 0} (value : A) (p : Place) (e : Malformed) → ended value p ≡ Err e → IsNear p e
ended_near value p e h =
    elim (passed_err (eqb (length p.rest) 0) (Ok value) (record { at = p.at; what = Rest }) e h) [
      | inl t ↦ (let is = ap (λ (d : Malformed). d.at) t.1 in omega (arith, is))
      | inr t ↦ absurd (let k = t.1 in cc)
    ]

near : {A : Type 0} (l : Layout A) (p : Place) (e : Malformed) → Early l → read l p ≡ Err e → IsNear p e
near (Whole value) p e early h = ended_near value p e h
near (Sized told told_at value) p e early h =
    elim (passed_err (eqb told p.at) (ended value p) (record { at = told_at; what = Length }) e h) [
      | inl t ↦ (let is = ap (λ (d : Malformed). d.at) t.1 in omega (arith, is, early))
      | inr t ↦ ended_near value p e t.1
    ]
near (Number width is_allowed next) p e early h =
    elim (then_err (number_at width p) _ e h) [
      | inl t ↦ number_near width p e t
      | inr n ↦ elim (passed_err (is_allowed n.0.0) (read (next n.0.0) n.0.1) (record { at = p.at; what = Field }) e n.2) [
        | inl t ↦ (let is = ap (λ (d : Malformed). d.at) t.1 in omega (arith, is))
        | inr t ↦ (let b = number_takes width p n.0 n.1 in later p n.0.1 b.0 width e b.1.parts b.1.at b.1.long (near (next n.0.0) n.0.1 e (early n.0.0) t.1))
      ]
    ]
near (Optional false width next) p e early h =
    elim (then_err (optional_at false width p) _ e h) [
      | inl t ↦ optional_near false width p e t
      | inr n ↦ (let same = optional_none width p n.0 n.1 in subst (λ (x : Option ℕ × Place). IsNear x.1 e) (sym same) (near (next n.0.0) n.0.1 e (early n.0.0) n.2))
    ]
near (Optional true width next) p e early h =
    elim (then_err (optional_at true width p) _ e h) [
      | inl t ↦ optional_near true width p e t
      | inr n ↦ (let b = optional_some width p n.0 n.1 in later p n.0.1 b.0 width e b.1.parts b.1.at b.1.long (near (next n.0.0) n.0.1 e (early n.0.0) n.2))
    ]
near (Bytes width next) p e early h =
    elim (then_err (field_at width p) _ e h) [
      | inl t ↦ field_near width p e t
      | inr n ↦ (let b = field_takes width p n.0 n.1 in later p n.0.1 n.0.0 width e b.parts b.at b.long (near (next n.0.0) n.0.1 e (early n.0.0) n.2))
    ]
near (Tables count next) p e early h =
    elim (then_err (tables_at count p) _ e h) [
      | inl t ↦ tables_at_near count p e t
      | inr n ↦ (let b = tables_take count p n.0 n.1 in between p n.0.1 n.0.0 e b.0 (near (next n.0.0) n.0.1 e (early n.0.0) n.2))
    ]
near (UpTo most value) p e early h =
    elim (then_err (all_up_to most p) _ e h) [
      | inl t ↦ elim (avoided_err (ltb most (length p.rest)) (Ok p.rest) (record { at = p.at + most; what = Rest }) e t) [
        | inl u ↦ (let is = ap (λ (d : Malformed). d.at) u.1 in let over = ltb-true _ _ u.0 in omega (arith, is, over))
        | inr u ↦ absurd (let k = u.1 in cc)
      ]
      | inr t ↦ absurd (let k = t.2 in cc)
    ]
near (Remaining value) p e early h = absurd (cc h)

-- ---- The responses.

record IsEarly {A : Type 0} (l : Layout A) : Type 0 where
  are : Early l

either_early : {A : Type 0} (b : Bool) {l m : Layout A} → IsEarly l → IsEarly m → IsEarly (cond b l m)
either_early true x y = x
either_early false x y = y

version_early : IsEarly version_layout
unfolding version_layout
version_early = record { are = λ _ _ _. tt }

capabilities_early : IsEarly capabilities_layout
unfolding capabilities_layout
capabilities_early = record { are = λ _ _ _ _ _ _. tt }

algorithms_early : IsEarly algorithms_layout
unfolding algorithms_layout
algorithms_early = record { are = λ _ _ _ _ _ _ _ _ _ _ _ _ _ _ _. omega arith }

measurements_early : IsEarly measurements_layout
unfolding measurements_layout
measurements_early = record { are = λ _ _ _ _ _ _ _ _. tt }

exchange_early : (len : ℕ) (summary : Bool) → IsEarly (psk_exchange_rsp_layout len summary)
unfolding psk_exchange_rsp_layout
exchange_early len summary = record { are = λ _ _ _ _ _ _ _ _ _ _. tt }

finish_early : IsEarly psk_finish_rsp_layout
unfolding psk_finish_rsp_layout
finish_early = record { are = λ _. tt }

heartbeat_early : IsEarly heartbeat_ack_layout
unfolding heartbeat_ack_layout
heartbeat_early = record { are = λ _. tt }

update_early : IsEarly key_update_ack_layout
unfolding key_update_ack_layout
update_early = record { are = λ _ _. tt }

end_early : IsEarly end_session_ack_layout
unfolding end_session_ack_layout
end_early = record { are = λ _. tt }

ack_early : IsEarly chunk_send_ack_layout
unfolding chunk_send_ack_layout
ack_early = record { are = λ _ _ _. tt }

chunk_early : IsEarly chunk_response_layout
unfolding chunk_response_layout
chunk_early = record { are = λ _ _ _ _ _ _ _. tt }

error_early : (version : ℕ) → IsEarly (error_layout version)
unfolding error_layout
error_early version = record {
  are = λ code detail. (either_early (code == RESPONSE_TOO_LARGE) {l = Bytes 4 (λ extended. Whole (Error version code detail extended))}
      {m = cond (code == LARGE_RESPONSE) (Bytes 1 (λ extended. Whole (Error version code detail extended))) (UpTo 32 (λ extended. Error version code detail extended))}
      (record { are = λ _. tt })
      (either_early (code == LARGE_RESPONSE) {l = Bytes 1 (λ extended. Whole (Error version code detail extended))} {m = UpTo 32 (λ extended. Error version code detail extended)}
      (record { are = λ _. tt }) (record { are = tt }))).are;
}

body_early : (len : ℕ) (summary : Bool) (version code : ℕ) → IsEarly (response_body len summary version code)
unfolding response_body
body_early len summary version code =
    either_early _ version_early
    (either_early _ (error_early version)
    (either_early _ capabilities_early
    (either_early _ algorithms_early
    (either_early _ measurements_early
    (either_early _ (exchange_early len summary)
    (either_early _ finish_early
    (either_early _ heartbeat_early
    (either_early _ update_early
    (either_early _ end_early
    (either_early _ ack_early
    chunk_early))))))))))

pub fault_near : (len : ℕ) (summary : Bool) (bytes : List ℕ) (e : Malformed) → response_reading len summary bytes ≡ Err e → e.at ≤ length bytes + 4
fault_near len summary bytes e h = (let k = near (response_layout len summary) (front bytes) e (λ version code. (body_early len summary version code).are) h in omega (arith, k))
