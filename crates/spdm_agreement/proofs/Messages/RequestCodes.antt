-- The code of a request is that of its bytes.
use Rattle.std.proofs.Common.{◌≡◌, ℕ, ◌+◌, List, [], ◌∷◌, ◌++◌, length, Bool, true, false, cond, Option, Some, None, ◌==◌, ◌||◌, refl, sym, ap, ◌∙◌, subst, arith, eqb-true, true≢false}
use Rattle.std.specs.Prelude.{slice_index}
use Rattle.std.proofs.Math.Bool.{or-false}
use Rattle.byteorder.specs.Endian.{little_number}
use Rattle.spdm_grammar.specs.Layout.{Layout, IsSpelling}
use Rattle.spdm_grammar.specs.Layout.Layout.{Whole, Sized, Number, Optional, Bytes, Tables, UpTo, Remaining}
use Rattle.spdm_grammar.specs.Message.{RequestMessage}
use Rattle.spdm_grammar.specs.Requests.{IsRequestSpelling, request_layout, request_in, request_body, get_version_layout, get_capabilities_layout, negotiate_algorithms_layout, get_measurements_layout, psk_exchange_layout, psk_finish_layout, heartbeat_layout, key_update_layout, end_session_layout, chunk_send_layout, chunk_get_layout}
use Rattle.spdm_grammar.specs.Codes.{is_request_code}
use Rattle.spdm_grammar.proofs.Spellings.{read_iff}
use Rattle.spdm_grammar.specs.Codes.{code_for}
use Rattle.spdm_grammar.specs.declared.names.request_code.TheConstants.{GET_VERSION, CHUNK_SEND, CHUNK_GET, GET_MEASUREMENTS, GET_CAPABILITIES, NEGOTIATE_ALGORITHMS, PSK_EXCHANGE, PSK_FINISH, HEARTBEAT, KEY_UPDATE, END_SESSION}
use Rattle.spdm_grammar.specs.declared.names.spdm_version.TheConstants.{V1_0}

-- ---- What holds of each value of a layout holds of a value that bytes spell.

abbrev pub Gives : {A : Type 0} → (A → Type 0) → Layout A → Type 0
Gives P (Whole value) = P value
Gives P (Sized told told_at value) = P value
Gives P (Number width is_allowed next) = (n : ℕ) → Gives P (next n)
Gives P (Optional is_there width next) = (n : Option ℕ) → Gives P (next n)
Gives P (Bytes width next) = (field : List ℕ) → Gives P (next field)
Gives P (Tables count next) = (field : List ℕ) → Gives P (next field)
Gives P (UpTo most value) = (field : List ℕ) → P (value field)
Gives P (Remaining value) = (field : List ℕ) → P (value field)

pub given : {A : Type 0} (P : A → Type 0) (l : Layout A) (at : ℕ) (v : A) (bytes : List ℕ) → Gives P l → IsSpelling l at v bytes → P v
given P (Whole value) at v bytes all s = subst P (sym s.0) all
given P (Sized told told_at value) at v bytes all s = subst P (sym s.0) all
given P (Number width is_allowed next) at v bytes all s = given P (next (little_number width s.0)) (at + width) v s.1 (all (little_number width s.0)) s.5
given P (Optional false width next) at v bytes all s = given P (next None) at v bytes (all None) s
given P (Optional true width next) at v bytes all s = given P (next (Some (little_number width s.0))) (at + width) v s.1 (all (Some (little_number width s.0))) s.4
given P (Bytes width next) at v bytes all s = given P (next s.0) (at + width) v s.1 (all s.0) s.4
given P (Tables count next) at v bytes all s = given P (next s.0) (at + length s.0) v s.1 (all s.0) s.4
given P (UpTo most value) at v bytes all s = subst P (sym s.0) (all bytes)
given P (Remaining value) at v bytes all s = subst P (sym s) (all bytes)

pub record HasGiven {A : Type 0} (P : A → Type 0) (l : Layout A) : Type 0 where
  pub are : Gives P l

pub tested : {A : Type 0} {P : A → Type 0} (b : Bool) (l m : Layout A) → (b ≡ true → HasGiven P l) → (b ≡ false → HasGiven P m) → HasGiven P (cond b l m)
tested true l m x y = x refl
tested false l m x y = y refl

-- ---- The bodies of the requests.

abbrev HasCode : ℕ → RequestMessage → Type 0
HasCode code v = code_for v ≡ code

pub is_code : (code n : ℕ) → (code == n) ≡ true → n ≡ code
is_code code n e = sym (eqb-true code n e)

version : (code : ℕ) → (code == GET_VERSION) ≡ true → HasGiven (HasCode code) get_version_layout
unfolding get_version_layout
version code e = record { are = λ _. is_code code GET_VERSION e }

capabilities : (code : ℕ) → (code == GET_CAPABILITIES) ≡ true → HasGiven (HasCode code) get_capabilities_layout
unfolding get_capabilities_layout
capabilities code e = record { are = λ _ _ _ _ _ _. is_code code GET_CAPABILITIES e }

algorithms : (code : ℕ) → (code == NEGOTIATE_ALGORITHMS) ≡ true → HasGiven (HasCode code) negotiate_algorithms_layout
unfolding negotiate_algorithms_layout
algorithms code e = record { are = λ _ _ _ _ _ _ _ _ _ _ _ _ _ _. is_code code NEGOTIATE_ALGORITHMS e }

measurements : (code : ℕ) → (code == GET_MEASUREMENTS) ≡ true → HasGiven (HasCode code) get_measurements_layout
unfolding get_measurements_layout
measurements code e = record { are = λ _ _. is_code code GET_MEASUREMENTS e }

exchange : (len code : ℕ) → (code == PSK_EXCHANGE) ≡ true → HasGiven (HasCode code) (psk_exchange_layout len)
unfolding psk_exchange_layout
exchange len code e = record { are = λ _ _ _ _ _ _ _ _ _. is_code code PSK_EXCHANGE e }

finish : (len code : ℕ) → (code == PSK_FINISH) ≡ true → HasGiven (HasCode code) (psk_finish_layout len)
unfolding psk_finish_layout
finish len code e = record { are = λ _ _. is_code code PSK_FINISH e }

heartbeat : (code : ℕ) → (code == HEARTBEAT) ≡ true → HasGiven (HasCode code) heartbeat_layout
unfolding heartbeat_layout
heartbeat code e = record { are = λ _. is_code code HEARTBEAT e }

key_update : (code : ℕ) → (code == KEY_UPDATE) ≡ true → HasGiven (HasCode code) key_update_layout
unfolding key_update_layout
key_update code e = record { are = λ _ _. is_code code KEY_UPDATE e }

end_session : (code : ℕ) → (code == END_SESSION) ≡ true → HasGiven (HasCode code) end_session_layout
unfolding end_session_layout
end_session code e = record { are = λ _. is_code code END_SESSION e }

chunk_send : (code : ℕ) → (code == CHUNK_SEND) ≡ true → HasGiven (HasCode code) chunk_send_layout
unfolding chunk_send_layout
chunk_send code e = record { are = λ _ _ _ _ _ _ _. is_code code CHUNK_SEND e }

chunk_get : (code : ℕ) → (code == CHUNK_GET) ≡ true → HasGiven (HasCode code) chunk_get_layout
unfolding chunk_get_layout
chunk_get code e = record { are = λ _ _ _. is_code code CHUNK_GET e }

last_code : (v10 c84 ce1 ce3 ce0 ce6 ce7 ce8 ce9 cec c85 c86 : Bool) → c84 ≡ false → ce1 ≡ false → ce3 ≡ false → ce0 ≡ false → ce6 ≡ false → ce7 ≡ false → ce8 ≡ false → ce9 ≡ false → cec ≡ false → c85 ≡ false
    → cond v10 c84 (ce1 || (ce3 || (ce0 || (ce6 || (ce7 || (ce8 || (ce9 || (cec || (c85 || (c86 || false)))))))))) ≡ true → c86 ≡ true
last_code true c84 ce1 ce3 ce0 ce6 ce7 ce8 ce9 cec c85 c86 e84 e1 e3 e0 e6 e7 e8 e9 ec e85 k = absurd (true≢false (sym k ∙ e84))
last_code false c84 ce1 ce3 ce0 ce6 ce7 ce8 ce9 cec c85 c86 e84 e1 e3 e0 e6 e7 e8 e9 ec e85 k = sym (or-false c86) ∙ rw (e1, e3, e0, e6, e7, e8, e9, ec, e85) at k

body : (len spoken code : ℕ) → is_request_code spoken code ≡ true → HasGiven (HasCode code) (request_body len code)
unfolding request_body
body len spoken code known =
    tested (code == GET_VERSION) _ _ (version code) (λ e84.
    tested (code == GET_CAPABILITIES) _ _ (capabilities code) (λ e1.
    tested (code == NEGOTIATE_ALGORITHMS) _ _ (algorithms code) (λ e3.
    tested (code == GET_MEASUREMENTS) _ _ (measurements code) (λ e0.
    tested (code == PSK_EXCHANGE) _ _ (exchange len code) (λ e6.
    tested (code == PSK_FINISH) _ _ (finish len code) (λ e7.
    tested (code == HEARTBEAT) _ _ (heartbeat code) (λ e8.
    tested (code == KEY_UPDATE) _ _ (key_update code) (λ e9.
    tested (code == END_SESSION) _ _ (end_session code) (λ ec.
    tested (code == CHUNK_SEND) _ _ (chunk_send code) (λ e85.
    chunk_get code (last_code (spoken == V1_0) (code == GET_VERSION) (code == GET_CAPABILITIES) (code == NEGOTIATE_ALGORITHMS) (code == GET_MEASUREMENTS) (code == PSK_EXCHANGE) (code == PSK_FINISH) (code == HEARTBEAT) (code == KEY_UPDATE) (code == END_SESSION) (code == CHUNK_SEND) (code == CHUNK_GET) e84 e1 e3 e0 e6 e7 e8 e9 ec e85 known)))))))))))

-- ---- The whole request.

pub second_byte : (m f g rest others : List ℕ) → m ≡ f ++ rest → rest ≡ g ++ others → length f ≡ 1 → length g ≡ 1 → slice_index m 1 ≡ little_number 1 g
second_byte m [] g rest others e e' n k = absurd (omega arith)
second_byte m (x ∷ y ∷ f) g rest others e e' n k = absurd (omega arith)
second_byte m (x ∷ []) [] rest others e e' n k = absurd (omega arith)
second_byte m (x ∷ []) (y ∷ z ∷ g) rest others e e' n k = absurd (omega arith)
second_byte m (x ∷ []) (y ∷ []) rest others e e' n k = ap (λ (l : List ℕ). slice_index l 1) e ∙ ap (λ (l : List ℕ). slice_index l 0) e' ∙ (omega arith)

pub code_read : (len : ℕ) (m : List ℕ) (v : RequestMessage) → request_in len m ≡ Some v → code_for v ≡ slice_index m 1
code_read len m v e =
    let s : IsRequestSpelling len v m = (read_iff (request_layout len) v m).0 e in
    let t = s.5 in
    given (HasCode (little_number 1 t.0)) (request_body len (little_number 1 t.0)) 2 v t.1 (body len (little_number 1 s.0) (little_number 1 t.0) t.4).are t.5
    ∙ sym (second_byte m s.0 t.0 s.1 t.1 s.2 t.2 s.3 t.3)
