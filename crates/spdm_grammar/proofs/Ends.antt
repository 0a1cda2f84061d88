-- No encoding is a proper prefix of another, but where a message takes all the rest.
use Rattle.std.proofs.Common.{◌≡◌, ℕ, suc, ◌+◌, ◌⊎◌, Bool, true, false, cond, eqb, List, [], ◌∷◌, ◌++◌, length, Option, Result, Ok, Err, refl, sym, ap, subst, ◌∙◌, arith, inl, inr}
use Rattle.std.proofs.lemmas.Bool.{eqb-true, ne_eqb}
use Rattle.std.proofs.lemmas.List.{length-append}
use Rattle.spdm_grammar.specs.declared.messages.malformed.Malformed.{Malformed}
use Rattle.spdm_grammar.specs.declared.messages.malformed.Part.TheVariants.{Field, Length, Rest}
use Rattle.spdm_grammar.specs.Ends.{EndsByItself}
use Rattle.spdm_grammar.specs.Layout.{Layout, IsSpelling}
use Rattle.spdm_grammar.specs.Layout.Layout.{Whole, Sized, Number, Optional, Bytes, Tables, UpTo, Remaining}
use Rattle.spdm_grammar.specs.Message.{RequestMessage, ResponseMessage}
use Rattle.spdm_grammar.specs.Message.ResponseMessage.{Error}
use Rattle.spdm_grammar.specs.Reading.{Place, read, front, field_at, number_at, optional_at, tables_at, ended, all_up_to}
use Rattle.spdm_grammar.specs.Requests.{request_layout, request_body, get_version_layout, get_capabilities_layout, negotiate_algorithms_layout, get_measurements_layout, psk_exchange_layout, psk_finish_layout, heartbeat_layout, key_update_layout, end_session_layout, chunk_send_layout, chunk_get_layout, IsRequestSpelling}
use Rattle.spdm_grammar.specs.Responses.{response_layout, response_body, version_layout, capabilities_layout, algorithms_layout, measurements_layout, psk_exchange_rsp_layout, psk_finish_rsp_layout, heartbeat_ack_layout, key_update_ack_layout, end_session_ack_layout, chunk_send_ack_layout, chunk_response_layout, error_layout, IsResponseSpelling}
use Rattle.spdm_grammar.proofs.Steps.{then_ok, passed, ok_is, Takes, Between, field_takes, number_takes, optional_none, optional_some, tables_take}
use Rattle.spdm_grammar.proofs.Longer.{longer, field_longer, number_longer, optional_longer, tables_longer}
use Rattle.spdm_grammar.proofs.Spellings.{spelling_read}
use Rattle.spdm_grammar.specs.declared.names.error_number.TheConstants.{RESPONSE_TOO_LARGE, LARGE_RESPONSE}

-- the values of those ends that take all the rest
abbrev pub OpenEnds : {A : Type 0} → (A → Type 0) → Layout A → Type 0
OpenEnds P (Whole value) = Unit {0}
OpenEnds P (Sized told told_at value) = Unit {0}
OpenEnds P (Number width is_allowed next) = (n : ℕ) → OpenEnds P (next n)
OpenEnds P (Optional is_there width next) = (n : Option ℕ) → OpenEnds P (next n)
OpenEnds P (Bytes width next) = (field : List ℕ) → OpenEnds P (next field)
OpenEnds P (Tables count next) = (field : List ℕ) → OpenEnds P (next field)
OpenEnds P (UpTo most value) = (field : List ℕ) → P (value field)
OpenEnds P (Remaining value) = (field : List ℕ) → P (value field)

-- where the input ends
abbrev stop : Place → ℕ
stop p = p.at + length p.rest

abbrev behind : {A : Type 0} → ℕ → Result A Malformed
behind k = Err (record { at = k; what = Rest })

takes_stop : (width : ℕ) (p q : Place) (field : List ℕ) → Takes width p field q → stop q ≡ stop p
takes_stop width p q field t = omega (arith, t.at, t.long, ap length t.parts, length-append field q.rest)

between_stop : (p q : Place) (field : List ℕ) → Between p field q → stop q ≡ stop p
between_stop p q field t = omega (arith, t.at, ap length t.parts, length-append field q.rest)

optional_stop : (is_there : Bool) (width : ℕ) (p : Place) (n : Option ℕ × Place) → optional_at is_there width p ≡ Ok n → stop n.1 ≡ stop p
optional_stop false width p n e = ap (λ (y : Option ℕ × Place). stop y.1) (sym (optional_none width p n e))
optional_stop true width p n e = let t = optional_some width p n e in takes_stop width p n.1 t.0 t.1

ended_behind : {A : Type 0} (value v : A) (p : Place) (x : ℕ) (more : List ℕ) → ended value p ≡ Ok v → ended value (longer p (x ∷ more)) ≡ behind (stop p)
ended_behind {A} value v p x more e =
    let t = passed (eqb (length p.rest) 0) (Ok value) (record { at = p.at; what = Rest }) v e in
    let none : length p.rest ≡ 0 = eqb-true _ _ t.0 in
    let some : eqb (length (p.rest ++ x ∷ more)) 0 ≡ false = ne_eqb _ _ (λ z. let k = length-append p.rest (x ∷ more) in let s : length p.rest + suc (length more) ≡ 0 = omega (arith, k, z) in absurd (omega (arith, s))) in
    let place : p.at ≡ stop p = omega (arith, none) in
    rw some (ap (behind {A = A}) place)

-- a whole message with one byte more
pub one_more_byte : {A : Type 0} (P : A → Type 0) (l : Layout A) → OpenEnds P l → (p : Place) (v : A) (x : ℕ) (more : List ℕ) → read l p ≡ Ok v → P v ⊎ (read l (longer p (x ∷ more)) ≡ behind (stop p))
one_more_byte P (Whole value) ends p v x more e = inr (ended_behind value v p x more e)
one_more_byte P (Sized told told_at value) ends p v x more e =
    let t = passed (eqb told p.at) (ended value p) (record { at = told_at; what = Length }) v e in
    inr (rw t.0 (ended_behind value v p x more t.1))
one_more_byte {A} P (Number width is_allowed next) ends p v x more e =
    let n = then_ok (number_at width p) _ v e in
    let t = passed (is_allowed n.0.0) (read (next n.0.0) n.0.1) (record { at = p.at; what = Field }) v n.2 in
    let f = number_takes width p n.0 n.1 in
    let s : stop n.0.1 ≡ stop p = takes_stop width p n.0.1 f.0 f.1 in
    elim (one_more_byte P (next n.0.0) (ends n.0.0) n.0.1 v x more t.1) [
      | inl holds ↦ inl holds
      | inr is ↦ inr (rw (number_longer width p n.0 (x ∷ more) n.1, t.0) (is ∙ ap (behind {A = A}) s))
    ]
one_more_byte {A} P (Optional is_there width next) ends p v x more e =
    let n = then_ok (optional_at is_there width p) _ v e in
    let s : stop n.0.1 ≡ stop p = optional_stop is_there width p n.0 n.1 in
    elim (one_more_byte P (next n.0.0) (ends n.0.0) n.0.1 v x more n.2) [
      | inl holds ↦ inl holds
      | inr is ↦ inr (rw (optional_longer is_there width p n.0 (x ∷ more) n.1) (is ∙ ap (behind {A = A}) s))
    ]
one_more_byte {A} P (Bytes width next) ends p v x more e =
    let n = then_ok (field_at width p) _ v e in
    let s : stop n.0.1 ≡ stop p = takes_stop width p n.0.1 n.0.0 (field_takes width p n.0 n.1) in
    elim (one_more_byte P (next n.0.0) (ends n.0.0) n.0.1 v x more n.2) [
      | inl holds ↦ inl holds
      | inr is ↦ inr (rw (field_longer width p n.0 (x ∷ more) n.1) (is ∙ ap (behind {A = A}) s))
    ]
one_more_byte {A} P (Tables count next) ends p v x more e =
    let n = then_ok (tables_at count p) _ v e in
    let s : stop n.0.1 ≡ stop p = between_stop p n.0.1 n.0.0 (tables_take count p n.0 n.1).0 in
    elim (one_more_byte P (next n.0.0) (ends n.0.0) n.0.1 v x more n.2) [
      | inl holds ↦ inl holds
      | inr is ↦ inr (rw (tables_longer count p n.0 (x ∷ more) n.1) (is ∙ ap (behind {A = A}) s))
    ]
one_more_byte P (UpTo most value) ends p v x more e =
    let n = then_ok (all_up_to most p) _ v e in
    inl (subst P (ok_is (value n.0) v n.2) (ends n.0))
one_more_byte P (Remaining value) ends p v x more e = inl (subst P (ok_is (value p.rest) v e) (ends p.rest))

pub no_longer : {A : Type 0} (P : A → Type 0) (l : Layout A) → OpenEnds P l → (v w : A) (a b : List ℕ) → IsSpelling l 0 v a → IsSpelling l 0 w (a ++ b) → P v ⊎ (b ≡ [])
no_longer P l ends v w a [] s t = inr refl
no_longer P l ends v w a (x ∷ b) s t =
    elim (one_more_byte P l ends (front a) v x b (spelling_read l 0 v a s)) [
      | inl holds ↦ inl holds
      | inr is ↦ absurd (let k = sym (spelling_read l 0 w (a ++ x ∷ b) t) ∙ is in cc)
    ]

-- ---- the ends of requests and responses

record HasEnds {A : Type 0} (P : A → Type 0) (l : Layout A) : Type 0 where
  pub are : OpenEnds P l

either_ends : {A : Type 0} {P : A → Type 0} (b : Bool) {l m : Layout A} → HasEnds P l → HasEnds P m → HasEnds P (cond b l m)
either_ends true x y = x
either_ends false x y = y

closed : {A : Type 0} {P : A → Type 0} {l : Layout A} → OpenEnds P l → HasEnds P l
closed x = record { are = x }

abbrev Never : RequestMessage → Type 0
Never m = ⊥

get_version_ends : HasEnds Never (get_version_layout)
unfolding get_version_layout
get_version_ends = record { are = λ _. tt }

get_capabilities_ends : HasEnds Never (get_capabilities_layout)
unfolding get_capabilities_layout
get_capabilities_ends = record { are = λ _ _ _ _ _ _. tt }

negotiate_algorithms_ends : HasEnds Never (negotiate_algorithms_layout)
unfolding negotiate_algorithms_layout
negotiate_algorithms_ends = record { are = λ _ _ _ _ _ _ _ _ _ _ _ _ _ _. tt }

get_measurements_ends : HasEnds Never (get_measurements_layout)
unfolding get_measurements_layout
get_measurements_ends = record { are = λ _ _. tt }

psk_exchange_ends : (hash_len : ℕ) → HasEnds Never (psk_exchange_layout hash_len)
unfolding psk_exchange_layout
psk_exchange_ends hash_len = record { are = λ _ _ _ _ _ _ _ _ _. tt }

psk_finish_ends : (hash_len : ℕ) → HasEnds Never (psk_finish_layout hash_len)
unfolding psk_finish_layout
psk_finish_ends hash_len = record { are = λ _ _. tt }

heartbeat_ends : HasEnds Never (heartbeat_layout)
unfolding heartbeat_layout
heartbeat_ends = record { are = λ _. tt }

key_update_ends : HasEnds Never (key_update_layout)
unfolding key_update_layout
key_update_ends = record { are = λ _ _. tt }

end_session_ends : HasEnds Never (end_session_layout)
unfolding end_session_layout
end_session_ends = record { are = λ _. tt }

chunk_send_ends : HasEnds Never (chunk_send_layout)
unfolding chunk_send_layout
chunk_send_ends = record { are = λ _ _ _ _ _ _ _. tt }

chunk_get_ends : HasEnds Never (chunk_get_layout)
unfolding chunk_get_layout
chunk_get_ends = record { are = λ _ _ _. tt }

request_ends : (hash_len code : ℕ) → HasEnds Never (request_body hash_len code)
unfolding request_body
request_ends hash_len code =
    either_ends _ get_version_ends
    (either_ends _ get_capabilities_ends
    (either_ends _ negotiate_algorithms_ends
    (either_ends _ get_measurements_ends
    (either_ends _ (psk_exchange_ends hash_len)
    (either_ends _ (psk_finish_ends hash_len)
    (either_ends _ heartbeat_ends
    (either_ends _ key_update_ends
    (either_ends _ end_session_ends
    (either_ends _ chunk_send_ends
    chunk_get_ends)))))))))

pub no_request_longer : (hash_len : ℕ) (m n : RequestMessage) (a b : List ℕ) → IsRequestSpelling hash_len m a → IsRequestSpelling hash_len n (a ++ b) → b ≡ []
no_request_longer hash_len m n a b s t =
    elim (no_longer Never (request_layout hash_len) (λ _ code. (request_ends hash_len code).are) m n a b s t) [
      | inl none ↦ absurd none
      | inr is ↦ is
    ]

abbrev Open : ResponseMessage → Type 0
Open m = EndsByItself m → ⊥

one_field_ends : (version code detail width : ℕ) → HasEnds Open (Bytes width (λ extended. Whole (Error version code detail extended)))
one_field_ends version code detail width = record { are = λ _. tt }

open_ends : (version code detail : ℕ) → HasEnds Open (UpTo 32 (λ extended. Error version code detail extended))
open_ends version code detail = record { are = λ _ z. z }

version_ends : HasEnds Open (version_layout)
unfolding version_layout
version_ends = record { are = λ _ _ _. tt }

error_ends : (version : ℕ) → HasEnds Open (error_layout version)
unfolding error_layout
error_ends version = record { are = λ code detail. (either_ends (eqb code RESPONSE_TOO_LARGE) (one_field_ends version code detail 4) (either_ends (eqb code LARGE_RESPONSE) (one_field_ends version code detail 1) (open_ends version code detail))).are }

capabilities_ends : HasEnds Open (capabilities_layout)
unfolding capabilities_layout
capabilities_ends = record { are = λ _ _ _ _ _ _. tt }

algorithms_ends : HasEnds Open (algorithms_layout)
unfolding algorithms_layout
algorithms_ends = record { are = λ _ _ _ _ _ _ _ _ _ _ _ _ _ _ _. tt }

measurements_ends : HasEnds Open (measurements_layout)
unfolding measurements_layout
measurements_ends = record { are = λ _ _ _ _ _ _ _ _. tt }

psk_exchange_rsp_ends : (hash_len : ℕ) (has_summary : Bool) → HasEnds Open (psk_exchange_rsp_layout hash_len has_summary)
unfolding psk_exchange_rsp_layout
psk_exchange_rsp_ends hash_len has_summary = record { are = λ _ _ _ _ _ _ _ _ _ _. tt }

psk_finish_rsp_ends : HasEnds Open (psk_finish_rsp_layout)
unfolding psk_finish_rsp_layout
psk_finish_rsp_ends = record { are = λ _. tt }

heartbeat_ack_ends : HasEnds Open (heartbeat_ack_layout)
unfolding heartbeat_ack_layout
heartbeat_ack_ends = record { are = λ _. tt }

key_update_ack_ends : HasEnds Open (key_update_ack_layout)
unfolding key_update_ack_layout
key_update_ack_ends = record { are = λ _ _. tt }

end_session_ack_ends : HasEnds Open (end_session_ack_layout)
unfolding end_session_ack_layout
end_session_ack_ends = record { are = λ _. tt }

chunk_send_ack_ends : HasEnds Open (chunk_send_ack_layout)
unfolding chunk_send_ack_layout
chunk_send_ack_ends = record { are = λ _ _ _ _ z. z }

chunk_response_ends : HasEnds Open (chunk_response_layout)
unfolding chunk_response_layout
chunk_response_ends = record { are = λ _ _ _ _ _ _ _. tt }

response_ends : (hash_len : ℕ) (has_summary : Bool) (version code : ℕ) → HasEnds Open (response_body hash_len has_summary version code)
unfolding response_body
response_ends hash_len has_summary version code =
    either_ends _ version_ends
    (either_ends _ (error_ends version)
    (either_ends _ capabilities_ends
    (either_ends _ algorithms_ends
    (either_ends _ measurements_ends
    (either_ends _ (psk_exchange_rsp_ends hash_len has_summary)
    (either_ends _ psk_finish_rsp_ends
    (either_ends _ heartbeat_ack_ends
    (either_ends _ key_update_ack_ends
    (either_ends _ end_session_ack_ends
    (either_ends _ chunk_send_ack_ends
    chunk_response_ends))))))))))

pub no_response_longer : (hash_len : ℕ) (has_summary : Bool) (m n : ResponseMessage) (a b : List ℕ) → EndsByItself m → IsResponseSpelling hash_len has_summary m a → IsResponseSpelling hash_len has_summary n (a ++ b) → b ≡ []
no_response_longer hash_len has_summary m n a b itself s t =
    elim (no_longer Open (response_layout hash_len has_summary) (λ version code. (response_ends hash_len has_summary version code).are) m n a b s t) [
      | inl fails ↦ absurd (fails itself)
      | inr is ↦ is
    ]
