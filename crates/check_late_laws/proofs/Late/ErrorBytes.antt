-- A response that is read as ERROR shows that by its second byte, and its error code by the third.
use Rattle.std.proofs.Common.{◌≡◌, ◌+◌, ◌++◌, ◌==◌, ◌∙◌, ℕ, List, [], ◌∷◌, refl, sym, ap, subst, length, arith, Bool, true, false, Option, Some, None, cond, eqb-true}
use Rattle.std.specs.Prelude.{Ok, slice_index}
use Rattle.byteorder.specs.Endian.{little_number}
use Rattle.spdm_grammar.specs.Fields.{any}
use Rattle.spdm_grammar.specs.Layout.{Layout, IsSpelling}
use Rattle.spdm_grammar.specs.Layout.Layout.{Whole, Sized, Number, Optional, Bytes, Tables, UpTo, Remaining}
use Rattle.spdm_grammar.specs.Message.{ResponseMessage}
use Rattle.spdm_grammar.specs.Message.ResponseMessage.{Error}
use Rattle.spdm_grammar.specs.Reading.{front}
use Rattle.spdm_grammar.specs.Responses.{IsResponseSpelling, response_reading, response_layout, response_body, version_layout, error_layout, capabilities_layout, algorithms_layout, measurements_layout, psk_exchange_rsp_layout, psk_finish_rsp_layout, heartbeat_ack_layout, key_update_ack_layout, end_session_ack_layout, chunk_send_ack_layout, chunk_response_layout}
use Rattle.spdm_grammar.proofs.Spellings.{read_spelling}
use Rattle.spdm_grammar.specs.declared.names.error_number.TheConstants.{RESPONSE_TOO_LARGE, LARGE_RESPONSE}
use Rattle.spdm_grammar.specs.declared.names.response_code.TheConstants.{MEASUREMENTS, CAPABILITIES, ALGORITHMS, PSK_EXCHANGE_RSP, PSK_FINISH_RSP, HEARTBEAT_ACK, KEY_UPDATE_ACK, END_SESSION_ACK, ERROR, VERSION, CHUNK_SEND_ACK}

-- ---- What holds of each value of a layout holds of a value that bytes spell.

abbrev pub Gives : (ResponseMessage → Type 0) → Layout ResponseMessage → Type 0
Gives P (Whole value) = P value
Gives P (Sized told told_at value) = P value
Gives P (Number width is_allowed next) = (n : ℕ) → Gives P (next n)
Gives P (Optional is_there width next) = (n : Option ℕ) → Gives P (next n)
Gives P (Bytes width next) = (field : List ℕ) → Gives P (next field)
Gives P (Tables count next) = (field : List ℕ) → Gives P (next field)
Gives P (UpTo most value) = (field : List ℕ) → P (value field)
Gives P (Remaining value) = (field : List ℕ) → P (value field)

pub given : (P : ResponseMessage → Type 0) (l : Layout ResponseMessage) (at : ℕ) (v : ResponseMessage) (bytes : List ℕ) → Gives P l → IsSpelling l at v bytes → P v
given P (Whole value) at v bytes all s = subst P (sym s.0) all
given P (Sized told told_at value) at v bytes all s = subst P (sym s.0) all
given P (Number width is_allowed next) at v bytes all s = given P (next (little_number width s.0)) (at + width) v s.1 (all (little_number width s.0)) s.5
given P (Optional false width next) at v bytes all s = given P (next None) at v bytes (all None) s
given P (Optional true width next) at v bytes all s = given P (next (Some (little_number width s.0))) (at + width) v s.1 (all (Some (little_number width s.0))) s.4
given P (Bytes width next) at v bytes all s = given P (next s.0) (at + width) v s.1 (all s.0) s.4
given P (Tables count next) at v bytes all s = given P (next s.0) (at + length s.0) v s.1 (all s.0) s.4
given P (UpTo most value) at v bytes all s = subst P (sym s.0) (all bytes)
given P (Remaining value) at v bytes all s = subst P (sym s) (all bytes)

pub record HasGiven (P : ResponseMessage → Type 0) (l : Layout ResponseMessage) : Type 0 where
  pub are : Gives P l

pub either_given : (P : ResponseMessage → Type 0) (b : Bool) (l m : Layout ResponseMessage) → HasGiven P l → HasGiven P m → HasGiven P (cond b l m)
either_given P true l m x y = x
either_given P false l m x y = y

-- ---- The bodies of the responses.

-- An ERROR has this code, and follows this byte.
abbrev TellsError : (byte code : ℕ) → ResponseMessage → Type 0
TellsError byte code (Error version said detail extended) = (byte ≡ ERROR) × (code ≡ said)
TellsError byte code _ = Unit {0}

module _ (byte code : ℕ) where
  abbrev P : ResponseMessage → Type 0
  P = TellsError byte code

  version : HasGiven P version_layout
  unfolding version_layout
  version = record { are = λ _ _ _. tt }

  capabilities : HasGiven P capabilities_layout
  unfolding capabilities_layout
  capabilities = record { are = λ _ _ _ _ _ _. tt }

  algorithms : HasGiven P algorithms_layout
  unfolding algorithms_layout
  algorithms = record { are = λ _ _ _ _ _ _ _ _ _ _ _ _ _ _ _. tt }

  measurements : HasGiven P measurements_layout
  unfolding measurements_layout
  measurements = record { are = λ _ _ _ _ _ _ _ _. tt }

  exchange : (len : ℕ) (summary : Bool) → HasGiven P (psk_exchange_rsp_layout len summary)
  unfolding psk_exchange_rsp_layout
  exchange len summary = record { are = λ _ _ _ _ _ _ _ _ _ _. tt }

  finish : HasGiven P psk_finish_rsp_layout
  unfolding psk_finish_rsp_layout
  finish = record { are = λ _. tt }

  heartbeat : HasGiven P heartbeat_ack_layout
  unfolding heartbeat_ack_layout
  heartbeat = record { are = λ _. tt }

  key_update : HasGiven P key_update_ack_layout
  unfolding key_update_ack_layout
  key_update = record { are = λ _ _. tt }

  end_session : HasGiven P end_session_ack_layout
  unfolding end_session_ack_layout
  end_session = record { are = λ _. tt }

  chunk_send : HasGiven P chunk_send_ack_layout
  unfolding chunk_send_ack_layout
  chunk_send = record { are = λ _ _ _ _. tt }

  chunk_response : HasGiven P chunk_response_layout
  unfolding chunk_response_layout
  chunk_response = record { are = λ _ _ _ _ _ _ _. tt }

  others : (len : ℕ) (summary : Bool) (said : ℕ) → HasGiven P (
      cond (said == CAPABILITIES) capabilities_layout
      (cond (said == ALGORITHMS) algorithms_layout
      (cond (said == MEASUREMENTS) measurements_layout
      (cond (said == PSK_EXCHANGE_RSP) (psk_exchange_rsp_layout len summary)
      (cond (said == PSK_FINISH_RSP) psk_finish_rsp_layout
      (cond (said == HEARTBEAT_ACK) heartbeat_ack_layout
      (cond (said == KEY_UPDATE_ACK) key_update_ack_layout
      (cond (said == END_SESSION_ACK) end_session_ack_layout
      (cond (said == CHUNK_SEND_ACK) chunk_send_ack_layout
      chunk_response_layout)))))))))
  others len summary said =
      either_given P (said == CAPABILITIES) _ _ capabilities
      (either_given P (said == ALGORITHMS) _ _ algorithms
      (either_given P (said == MEASUREMENTS) _ _ measurements
      (either_given P (said == PSK_EXCHANGE_RSP) _ _ (exchange len summary)
      (either_given P (said == PSK_FINISH_RSP) _ _ finish
      (either_given P (said == HEARTBEAT_ACK) _ _ heartbeat
      (either_given P (said == KEY_UPDATE_ACK) _ _ key_update
      (either_given P (said == END_SESSION_ACK) _ _ end_session
      (either_given P (said == CHUNK_SEND_ACK) _ _ chunk_send
      chunk_response))))))))

  -- The extended data of an ERROR with this code, after its detail.
  abbrev extended_layout : (version : ℕ) → Layout ResponseMessage
  extended_layout version =
      Number 1 any (λ detail.
      cond (code == RESPONSE_TOO_LARGE) (Bytes 4 (λ extended. Whole (Error version code detail extended)))
      (cond (code == LARGE_RESPONSE) (Bytes 1 (λ extended. Whole (Error version code detail extended)))
      (UpTo 32 (λ extended. Error version code detail extended))))

  extended_given : (is : byte ≡ ERROR) (said : ℕ) → Gives P (extended_layout said)
  extended_given is said = λ detail.
      (either_given P (code == RESPONSE_TOO_LARGE) (Bytes 4 (λ extended. Whole (Error said code detail extended)))
      (cond (code == LARGE_RESPONSE) (Bytes 1 (λ extended. Whole (Error said code detail extended))) (UpTo 32 (λ extended. Error said code detail extended))) (record { are = λ extended. (is, refl) })
      (either_given P (code == LARGE_RESPONSE) (Bytes 1 (λ extended. Whole (Error said code detail extended))) (UpTo 32 (λ extended. Error said code detail extended)) (record { are = λ extended. (is, refl) })
      (record { are = λ extended. (is, refl) }))).are

first_byte : (m f rest : List ℕ) → m ≡ f ++ rest → length f ≡ 1 → slice_index m 0 ≡ little_number 1 f
first_byte m [] rest e n = absurd (omega arith)
first_byte m (x ∷ y ∷ f) rest e n = absurd (omega arith)
first_byte m (x ∷ []) rest e n = ap (λ (l : List ℕ). slice_index l 0) e ∙ (omega arith)

second_byte : (m f g rest others : List ℕ) → m ≡ f ++ rest → rest ≡ g ++ others → length f ≡ 1 → length g ≡ 1 → (slice_index m 1 ≡ little_number 1 g) × (slice_index m 2 ≡ slice_index others 0)
second_byte m [] g rest others e e' n k = absurd (omega arith)
second_byte m (x ∷ y ∷ f) g rest others e e' n k = absurd (omega arith)
second_byte m (x ∷ []) [] rest others e e' n k = absurd (omega arith)
second_byte m (x ∷ []) (y ∷ z ∷ g) rest others e e' n k = absurd (omega arith)
second_byte m (x ∷ []) (y ∷ []) rest others e e' n k = (
  ap (λ (l : List ℕ). slice_index l 1) e ∙ ap (λ (l : List ℕ). slice_index l 0) e' ∙ (omega arith),
  ap (λ (l : List ℕ). slice_index l 2) e ∙ ap (λ (l : List ℕ). slice_index l 1) e',
)

error_read : (said byte : ℕ) (v : ResponseMessage) (rest : List ℕ) → byte ≡ ERROR → IsSpelling (error_layout said) 2 v rest → TellsError byte (slice_index rest 0) v
unfolding error_layout
error_read said byte v rest is s =
    subst (λ (n : ℕ). TellsError byte n v) (sym (first_byte rest s.0 s.1 s.2 s.3))
    (given (TellsError byte (little_number 1 s.0)) (extended_layout byte (little_number 1 s.0) said) 3 v s.1 (extended_given byte (little_number 1 s.0) is said) s.5)

body_read : (len : ℕ) (summary : Bool) (said byte : ℕ) (v : ResponseMessage) (rest : List ℕ) → IsSpelling (response_body len summary said byte) 2 v rest → TellsError byte (slice_index rest 0) v
unfolding response_body
body_read len summary said byte v rest s = by_version (byte == VERSION) s
  where
    by_error : (b : Bool) → (byte == ERROR) ≡ b → IsSpelling (cond b (error_layout said) (
        cond (byte == CAPABILITIES) capabilities_layout
        (cond (byte == ALGORITHMS) algorithms_layout
        (cond (byte == MEASUREMENTS) measurements_layout
        (cond (byte == PSK_EXCHANGE_RSP) (psk_exchange_rsp_layout len summary)
        (cond (byte == PSK_FINISH_RSP) psk_finish_rsp_layout
        (cond (byte == HEARTBEAT_ACK) heartbeat_ack_layout
        (cond (byte == KEY_UPDATE_ACK) key_update_ack_layout
        (cond (byte == END_SESSION_ACK) end_session_ack_layout
        (cond (byte == CHUNK_SEND_ACK) chunk_send_ack_layout
        chunk_response_layout)))))))))) 2 v rest → TellsError byte (slice_index rest 0) v
    by_error true is t = error_read said byte v rest (eqb-true byte ERROR is) t
    by_error false is t = given (TellsError byte (slice_index rest 0)) _ 2 v rest (others byte (slice_index rest 0) len summary byte).are t

    by_version : (b : Bool) → IsSpelling (cond b version_layout (cond (byte == ERROR) (error_layout said) (
        cond (byte == CAPABILITIES) capabilities_layout
        (cond (byte == ALGORITHMS) algorithms_layout
        (cond (byte == MEASUREMENTS) measurements_layout
        (cond (byte == PSK_EXCHANGE_RSP) (psk_exchange_rsp_layout len summary)
        (cond (byte == PSK_FINISH_RSP) psk_finish_rsp_layout
        (cond (byte == HEARTBEAT_ACK) heartbeat_ack_layout
        (cond (byte == KEY_UPDATE_ACK) key_update_ack_layout
        (cond (byte == END_SESSION_ACK) end_session_ack_layout
        (cond (byte == CHUNK_SEND_ACK) chunk_send_ack_layout
        chunk_response_layout))))))))))) 2 v rest → TellsError byte (slice_index rest 0) v
    by_version true t = given (TellsError byte (slice_index rest 0)) version_layout 2 v rest (version byte (slice_index rest 0)).are t
    by_version false t = by_error (byte == ERROR) refl t

pub error_bytes : (len : ℕ) (summary : Bool) (m : List ℕ) (said code detail : ℕ) (extended : List ℕ) → response_reading len summary m ≡ Ok (Error said code detail extended) → (slice_index m 1 ≡ ERROR) × (slice_index m 2 ≡ code)
error_bytes len summary m said code detail extended e =
    let s : IsResponseSpelling len summary (Error said code detail extended) m = read_spelling (response_layout len summary) (front m) (Error said code detail extended) e in
    let t = s.5 in
    let told = body_read len summary (little_number 1 s.0) (little_number 1 t.0) (Error said code detail extended) t.1 t.5 in
    let bytes = second_byte m s.0 t.0 s.1 t.1 s.2 t.2 s.3 t.3 in
    (bytes.0 ∙ told.0, bytes.1 ∙ told.1)
