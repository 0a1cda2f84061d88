-- How long the responses are, and what they are for every hash.
use Rattle.std.proofs.Common.{◌≡◌, ◌∙◌, ◌≤◌, ◌+◌, ap, sym, subst, refl, ℕ, List, ◌++◌, Bool, true, false, cond, length, length-append, arith, eqb-true}
use Rattle.std.specs.Prelude.{⊤, ◌==◌, Option, Some, None, Ok}
use Rattle.std.specs.Result.{result_ok}
use Rattle.byteorder.specs.Endian.{little_number}
use Rattle.spdm_grammar.specs.Layout.{Layout, IsSpelling}
use Rattle.spdm_grammar.specs.Layout.Layout.{Whole, Sized, Number, Optional, Bytes, Tables, UpTo, Remaining}
use Rattle.spdm_grammar.specs.Message.{ResponseMessage, MeasuredMessage}
use Rattle.spdm_grammar.specs.Message.ResponseMessage.{Capabilities, ChunkSendAck, Measurements, Error}
use Rattle.spdm_grammar.specs.Reading.{front}
use Rattle.spdm_grammar.specs.Responses.{IsResponseSpelling, response_reading, response_layout, response_body, psk_exchange_rsp_layout, version_layout, error_layout, capabilities_layout, algorithms_layout, measurements_layout, psk_finish_rsp_layout, heartbeat_ack_layout, key_update_ack_layout, end_session_ack_layout, chunk_send_ack_layout, chunk_response_layout}
use Rattle.spdm_grammar.specs.declared.messages.capabilities.Caps.{Caps}
use Rattle.spdm_grammar.specs.declared.names.error_number.TheConstants.{RESPONSE_TOO_LARGE, LARGE_RESPONSE}
use Rattle.spdm_grammar.specs.declared.names.response_code.TheConstants.{PSK_EXCHANGE_RSP}
use Rattle.spdm_grammar.proofs.Spellings.{read_spelling, spelling_read}
use Rattle.spdm_machine.specs.Terms.{response_value}
use Rattle.requester_machine.proofs.CapsRead.{alike, exchange_body}

-- ---- By the layouts.

-- What holds of each value of a layout and of the length of its fields, after so many bytes.
abbrev Totals : {A : Type 0} → (A → ℕ → Type 0) → Layout A → ℕ → Type 0
Totals P (Whole value) k = P value k
Totals P (Sized told told_at value) k = P value k
Totals P (Number width is_allowed next) k = (n : ℕ) → Totals P (next n) (k + width)
Totals P (Optional is_there width next) k = (n : Option ℕ) → Totals P (next n) (k + cond is_there width 0)
Totals P (Bytes width next) k = (field : List ℕ) → length field ≡ width → Totals P (next field) (k + width)
Totals P (Tables count next) k = (field : List ℕ) → Totals P (next field) (k + length field)
Totals P (UpTo most value) k = (field : List ℕ) → P (value field) (k + length field)
Totals P (Remaining value) k = (field : List ℕ) → P (value field) (k + length field)

behind : (k width total : ℕ) (bytes field others : List ℕ) → bytes ≡ field ++ others → length field ≡ width → k + length bytes ≡ total → k + width + length others ≡ total
behind k width total bytes field others parts long is = omega (arith, ap length parts, length-append field others, long, is)

ended : (k total : ℕ) (bytes : List ℕ) → length bytes ≡ 0 → k + length bytes ≡ total → k ≡ total
ended k total bytes none is = omega (arith, none, is)

total : {A : Type 0} (P : A → ℕ → Type 0) (l : Layout A) (at : ℕ) (v : A) (bytes : List ℕ) (k n : ℕ) → Totals P l k → IsSpelling l at v bytes → k + length bytes ≡ n → P v n
total P (Whole value) at v bytes k n all s is = subst (λ (x : ℕ). P v x) (ended k n bytes (ap length s.1) is) (subst (λ x. P x k) (sym s.0) all)
total P (Sized told told_at value) at v bytes k n all s is = subst (λ (x : ℕ). P v x) (ended k n bytes (ap length s.1) is) (subst (λ x. P x k) (sym s.0) all)
total P (Number width is_allowed next) at v bytes k n all s is =
    total P (next (little_number width s.0)) (at + width) v s.1 (k + width) n (all (little_number width s.0)) s.5 (behind k width n bytes s.0 s.1 s.2 s.3 is)
total P (Optional false width next) at v bytes k n all s is = total P (next None) at v bytes (k + 0) n (all None) s (omega (arith, is))
total P (Optional true width next) at v bytes k n all s is =
    total P (next (Some (little_number width s.0))) (at + width) v s.1 (k + width) n (all (Some (little_number width s.0))) s.4 (behind k width n bytes s.0 s.1 s.2 s.3 is)
total P (Bytes width next) at v bytes k n all s is =
    total P (next s.0) (at + width) v s.1 (k + width) n (all s.0 s.3) s.4 (behind k width n bytes s.0 s.1 s.2 s.3 is)
total P (Tables count next) at v bytes k n all s is = total P (next s.0) (at + length s.0) v s.1 (k + length s.0) n (all s.0) s.4 (behind k (length s.0) n bytes s.0 s.1 s.2 refl is)
total P (UpTo most value) at v bytes k n all s is = subst (λ (x : ℕ). P v x) is (subst (λ x. P x (k + length bytes)) (sym s.0) (all bytes))
total P (Remaining value) at v bytes k n all s is = subst (λ (x : ℕ). P v x) is (subst (λ x. P x (k + length bytes)) (sym s) (all bytes))

record HasTotals {A : Type 0} (P : A → ℕ → Type 0) (l : Layout A) (k : ℕ) : Type 0 where
  are : Totals P l k

either_total : {A : Type 0} {P : A → ℕ → Type 0} {k : ℕ} (b : Bool) {l m : Layout A} → HasTotals P l k → HasTotals P m k → HasTotals P (cond b l m) k
either_total true x y = x
either_total false x y = y

-- ---- The responses.

-- CAPABILITIES has 20 bytes, MEASUREMENTS at least those of its measurement record, and CHUNK_SEND_ACK those of its
-- response.
abbrev Fits : ResponseMessage → ℕ → Type 0
Fits (Capabilities caps) k = k ≡ 20
Fits (Measurements measured) k = length measured.block_bytes ≤ k
Fits (ChunkSendAck early handle number answer) k = length answer ≤ k
Fits _ k = ⊤

version_fits : HasTotals Fits version_layout 2
unfolding version_layout
version_fits = record { are = λ _ _ _ _ _. tt }

capabilities_fit : HasTotals Fits capabilities_layout 2
unfolding capabilities_layout
capabilities_fit = record { are = λ _ _ _ _ _ _ _ _. refl }

algorithms_fit : HasTotals Fits algorithms_layout 2
unfolding algorithms_layout
algorithms_fit = record { are = λ _ _ _ _ _ _ _ _ _ _ _ _ _ _ _ _ _ _ _ _. tt }

has_record : (blocks : List ℕ) (width opaque_len : ℕ) → length blocks ≡ width → length blocks ≤ 2 + 1 + 1 + 1 + 3 + width + 32 + 2 + opaque_len
has_record blocks width opaque_len is = omega (arith, is)

measurements_fit : HasTotals Fits measurements_layout 2
unfolding measurements_layout
measurements_fit = record { are = λ _ _ _ _ width blocks is _ _ opaque_len _ _. has_record blocks width opaque_len is }

exchange_fits : (len : ℕ) (summary : Bool) → HasTotals Fits (psk_exchange_rsp_layout len summary) 2
unfolding psk_exchange_rsp_layout
exchange_fits len summary = record { are = λ _ _ _ _ _ _ _ _ _ _ _ _ _ _ _ _. tt }

finish_fits : HasTotals Fits psk_finish_rsp_layout 2
unfolding psk_finish_rsp_layout
finish_fits = record { are = λ _ _. tt }

heartbeat_fits : HasTotals Fits heartbeat_ack_layout 2
unfolding heartbeat_ack_layout
heartbeat_fits = record { are = λ _ _. tt }

update_fits : HasTotals Fits key_update_ack_layout 2
unfolding key_update_ack_layout
update_fits = record { are = λ _ _. tt }

end_fits : HasTotals Fits end_session_ack_layout 2
unfolding end_session_ack_layout
end_fits = record { are = λ _ _. tt }

has_rest : (answer : List ℕ) → length answer ≤ 2 + 1 + 1 + 2 + length answer
has_rest answer = omega arith

ack_fits : HasTotals Fits chunk_send_ack_layout 2
unfolding chunk_send_ack_layout
ack_fits = record { are = λ _ _ _ answer. has_rest answer }

chunk_fits : HasTotals Fits chunk_response_layout 2
unfolding chunk_response_layout
chunk_fits = record { are = λ _ _ _ _ _ _ _ _ _. tt }

error_fits : (version : ℕ) → HasTotals Fits (error_layout version) 2
unfolding error_layout
error_fits version = record {
  are = λ code detail. (either_total {P = Fits} {k = 2 + 1 + 1} (code == RESPONSE_TOO_LARGE) {l = Bytes 4 (λ extended. Whole (Error version code detail extended))}
      {m = cond (code == LARGE_RESPONSE) (Bytes 1 (λ extended. Whole (Error version code detail extended))) (UpTo 32 (λ extended. Error version code detail extended))}
      (record { are = λ _ _. tt })
      (either_total {P = Fits} {k = 2 + 1 + 1} (code == LARGE_RESPONSE) {l = Bytes 1 (λ extended. Whole (Error version code detail extended))} {m = UpTo 32 (λ extended. Error version code detail extended)}
      (record { are = λ _ _. tt }) (record { are = λ _. tt }))).are;
}

body_fits : (len : ℕ) (summary : Bool) (version code : ℕ) → HasTotals Fits (response_body len summary version code) 2
unfolding response_body
body_fits len summary version code =
    either_total _ version_fits
    (either_total _ (error_fits version)
    (either_total _ capabilities_fit
    (either_total _ algorithms_fit
    (either_total _ measurements_fit
    (either_total _ (exchange_fits len summary)
    (either_total _ finish_fits
    (either_total _ heartbeat_fits
    (either_total _ update_fits
    (either_total _ end_fits
    (either_total _ ack_fits
    chunk_fits))))))))))

fits : (len : ℕ) (summary : Bool) (bytes : List ℕ) (value : ResponseMessage) → response_reading len summary bytes ≡ Ok value → Fits value (length bytes)
fits len summary bytes value e =
    total Fits (response_layout len summary) 0 value bytes 0 (length bytes) (λ version code. (body_fits len summary version code).are) (read_spelling (response_layout len summary) (front bytes) value e) (omega arith)

pub capabilities_long : (len : ℕ) (bytes : List ℕ) (caps : Caps) → response_reading len false bytes ≡ Ok (Capabilities caps) → length bytes ≡ 20
capabilities_long len bytes caps e = fits len false bytes (Capabilities caps) e

pub measured_short : (len : ℕ) (bytes : List ℕ) (measured : MeasuredMessage) → response_reading len false bytes ≡ Ok (Measurements measured) → length measured.block_bytes ≤ length bytes
measured_short len bytes measured e = fits len false bytes (Measurements measured) e

pub ack_short : (len : ℕ) (summary : Bool) (bytes : List ℕ) (early : Bool) (handle number : ℕ) (answer : List ℕ) → response_reading len summary bytes ≡ Ok (ChunkSendAck early handle number answer) → length answer ≤ length bytes
ack_short len summary bytes early handle number answer e = fits len summary bytes (ChunkSendAck early handle number answer) e

-- ---- Whatever the hash.

no_exchange : {A : Type 0} (len : ℕ) (measured : MeasuredMessage) (bytes : List ℕ) → IsSpelling (psk_exchange_rsp_layout len false) 2 (Measurements measured) bytes → A
unfolding psk_exchange_rsp_layout
no_exchange len measured bytes s = absurd (let e = s.5.4.5.4.5.5.4.4.4.4.0 in cc e)

body_alike : (len said code : ℕ) (measured : MeasuredMessage) (bytes : List ℕ) (b : Bool) → (code == PSK_EXCHANGE_RSP) ≡ b → IsSpelling (response_body len false said code) 2 (Measurements measured) bytes
    → IsSpelling (response_body 32 false said code) 2 (Measurements measured) bytes
body_alike len said code measured bytes true e s =
    no_exchange len measured bytes
    (subst (λ (l : Layout ResponseMessage). IsSpelling l 2 (Measurements measured) bytes) (ap (response_body len false said) (eqb-true code PSK_EXCHANGE_RSP e) ∙ exchange_body len false said) s)
body_alike len said code measured bytes false e s = subst (λ (l : Layout ResponseMessage). IsSpelling l 2 (Measurements measured) bytes) (alike len false said code e) s

pub measured_value : (len : ℕ) (bytes : List ℕ) (measured : MeasuredMessage) → response_reading len false bytes ≡ Ok (Measurements measured) → response_value bytes ≡ Some (Measurements measured)
measured_value len bytes measured e =
    let s : IsResponseSpelling len false (Measurements measured) bytes = read_spelling (response_layout len false) (front bytes) (Measurements measured) e in
    let t = s.5 in
    let again : IsResponseSpelling 32 false (Measurements measured) bytes = (s.0, s.1, s.2, s.3, s.4, (t.0, t.1, t.2, t.3, t.4, body_alike len (little_number 1 s.0) (little_number 1 t.0) measured t.1 (little_number 1 t.0 == PSK_EXCHANGE_RSP) refl t.5)) in
    ap result_ok (spelling_read (response_layout 32 false) 0 (Measurements measured) bytes again)
