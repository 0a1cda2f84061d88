-- The verify data of PSK_EXCHANGE_RSP stand at its end.
use Rattle.std.proofs.Common.{◌≡◌, ℕ, ◌+◌, List, [], ◌++◌, length, Bool, true, false, cond, Some, None, ◌==◌, refl, sym, ap, ◌∙◌, subst, append_assoc, append-nil}
use Rattle.std.specs.Prelude.{Ok}
use Rattle.byteorder.specs.Endian.{little_number}
use Rattle.spdm_grammar.specs.Layout.{Layout, IsSpelling}
use Rattle.spdm_grammar.specs.Layout.Layout.{Whole, Sized, Number, Optional, Bytes, Tables, UpTo, Remaining}
use Rattle.spdm_grammar.specs.Message.{ResponseMessage, ExchangeRspMessage}
use Rattle.spdm_grammar.specs.Message.ResponseMessage.{PskExchangeRsp}
use Rattle.spdm_grammar.specs.Reading.{front}
use Rattle.spdm_grammar.specs.Responses.{IsResponseSpelling, response_reading, response_layout, response_body, version_layout, error_layout, capabilities_layout, algorithms_layout, measurements_layout, psk_exchange_rsp_layout, psk_finish_rsp_layout, heartbeat_ack_layout, key_update_ack_layout, end_session_ack_layout, chunk_send_ack_layout, chunk_response_layout}
use Rattle.spdm_grammar.proofs.Spellings.{read_spelling}
use Rattle.spdm_grammar.specs.declared.names.error_number.TheConstants.{RESPONSE_TOO_LARGE, LARGE_RESPONSE}
use Rattle.spdm_grammar.specs.declared.names.response_code.TheConstants.{MEASUREMENTS, CAPABILITIES, ALGORITHMS, PSK_EXCHANGE_RSP, PSK_FINISH_RSP, HEARTBEAT_ACK, KEY_UPDATE_ACK, END_SESSION_ACK, ERROR, VERSION, CHUNK_SEND_ACK}

-- ---- What a value says of all bytes that spell it.

abbrev Reaches : {A : Type 0} → (A → List ℕ → Type 0) → Layout A → List ℕ → Type 0
Reaches Q (Whole value) pre = Q value pre
Reaches Q (Sized told told_at value) pre = Q value pre
Reaches Q (Number width is_allowed next) pre = (field : List ℕ) → Reaches Q (next (little_number width field)) (pre ++ field)
Reaches Q (Optional is_there width next) pre = Reaches Q (next None) pre × ((field : List ℕ) → Reaches Q (next (Some (little_number width field))) (pre ++ field))
Reaches Q (Bytes width next) pre = (field : List ℕ) → length field ≡ width → Reaches Q (next field) (pre ++ field)
Reaches Q (Tables count next) pre = (field : List ℕ) → Reaches Q (next field) (pre ++ field)
Reaches Q (UpTo most value) pre = (field : List ℕ) → Q (value field) (pre ++ field)
Reaches Q (Remaining value) pre = (field : List ℕ) → Q (value field) (pre ++ field)

further : {A : Type 0} (Q : A → List ℕ → Type 0) (v : A) (pre field others bytes : List ℕ) → bytes ≡ field ++ others → Q v ((pre ++ field) ++ others) → Q v (pre ++ bytes)
further Q v pre field others bytes e k = subst (λ (l : List ℕ). Q v l) (append_assoc pre field others ∙ ap (λ (l : List ℕ). pre ++ l) (sym e)) k

ended : {A : Type 0} (Q : A → List ℕ → Type 0) (v value : A) (pre bytes : List ℕ) → v ≡ value → bytes ≡ [] → Q value pre → Q v (pre ++ bytes)
ended Q v value pre bytes e n k = subst (λ (l : List ℕ). Q v l) (sym (append-nil pre) ∙ ap (λ (l : List ℕ). pre ++ l) (sym n)) (subst (λ (x : _). Q x pre) (sym e) k)

reached : {A : Type 0} (Q : A → List ℕ → Type 0) (l : Layout A) (at : ℕ) (v : A) (pre bytes : List ℕ) → Reaches Q l pre → IsSpelling l at v bytes → Q v (pre ++ bytes)
reached Q (Whole value) at v pre bytes k s = ended Q v value pre bytes s.0 s.1 k
reached Q (Sized told told_at value) at v pre bytes k s = ended Q v value pre bytes s.0 s.1 k
reached Q (Number width is_allowed next) at v pre bytes k s = further Q v pre s.0 s.1 bytes s.2 (reached Q (next (little_number width s.0)) (at + width) v (pre ++ s.0) s.1 (k s.0) s.5)
reached Q (Optional false width next) at v pre bytes k s = reached Q (next None) at v pre bytes k.0 s
reached Q (Optional true width next) at v pre bytes k s = further Q v pre s.0 s.1 bytes s.2 (reached Q (next (Some (little_number width s.0))) (at + width) v (pre ++ s.0) s.1 (k.1 s.0) s.4)
reached Q (Bytes width next) at v pre bytes k s = further Q v pre s.0 s.1 bytes s.2 (reached Q (next s.0) (at + width) v (pre ++ s.0) s.1 (k s.0 s.3) s.4)
reached Q (Tables count next) at v pre bytes k s = further Q v pre s.0 s.1 bytes s.2 (reached Q (next s.0) (at + length s.0) v (pre ++ s.0) s.1 (k s.0) s.4)
reached Q (UpTo most value) at v pre bytes k s = subst (λ (x : _). Q x (pre ++ bytes)) (sym s.0) (k bytes)
reached Q (Remaining value) at v pre bytes k s = subst (λ (x : _). Q x (pre ++ bytes)) (sym s) (k bytes)

record HasReached {A : Type 0} (Q : A → List ℕ → Type 0) (l : Layout A) : Type 0 where
  are : (pre : List ℕ) → Reaches Q l pre

either_reached : {A : Type 0} {Q : A → List ℕ → Type 0} (b : Bool) (l m : Layout A) → HasReached Q l → HasReached Q m → HasReached Q (cond b l m)
either_reached true l m x y = x
either_reached false l m x y = y

-- ---- The bodies of the responses.

abbrev pub HasVerify : ℕ → ResponseMessage → List ℕ → Type 0
HasVerify len (PskExchangeRsp rsp) bytes = (behind : List ℕ) × (bytes ≡ behind ++ rsp.verify) × (length rsp.verify ≡ len)
HasVerify len _ bytes = Unit {0}

version : (len : ℕ) → HasReached (HasVerify len) version_layout
unfolding version_layout
version len = record { are = λ pre _ _ _ _ _. tt }

error_ends : (len said code detail : ℕ) (pre : List ℕ) → HasReached (HasVerify len) (cond (code == RESPONSE_TOO_LARGE) (Bytes 4 (λ extended. Whole (ResponseMessage.Error said code detail extended))) (cond (code == LARGE_RESPONSE) (Bytes 1 (λ extended. Whole (ResponseMessage.Error said code detail extended))) (UpTo 32 (λ extended. ResponseMessage.Error said code detail extended))))
error_ends len said code detail pre =
    either_reached (code == RESPONSE_TOO_LARGE) _ _ (record { are = λ pre _ _. tt }) (either_reached (code == LARGE_RESPONSE) _ _ (record { are = λ pre _ _. tt }) (record { are = λ pre _. tt }))

error : (len said : ℕ) → HasReached (HasVerify len) (error_layout said)
unfolding error_layout
error len said = record { are = λ pre code detail. (error_ends len said (little_number 1 code) (little_number 1 detail) pre).are ((pre ++ code) ++ detail) }

capabilities : (len : ℕ) → HasReached (HasVerify len) capabilities_layout
unfolding capabilities_layout
capabilities len = record { are = λ pre _ _ _ _ _ _ _ _. tt }

algorithms : (len : ℕ) → HasReached (HasVerify len) algorithms_layout
unfolding algorithms_layout
algorithms len = record { are = λ pre _ _ _ _ _ _ _ _ _ _ _ _ _ _ _ _ _ _ _ _. tt }

measurements : (len : ℕ) → HasReached (HasVerify len) measurements_layout
unfolding measurements_layout
measurements len = record { are = λ pre _ _ _ _ _ _ _ _ _ _ _ _. tt }

exchange : (len : ℕ) (summary : Bool) → HasReached (HasVerify len) (psk_exchange_rsp_layout len summary)
unfolding psk_exchange_rsp_layout
exchange len summary = record {
  are = λ pre heartbeat zero _ rsp_id zeros _ context_len opaque_len summary _ context _ opaque _ verify long.
      ((((((((((pre ++ heartbeat) ++ zero) ++ rsp_id) ++ zeros) ++ context_len) ++ opaque_len) ++ summary) ++ context) ++ opaque), refl, long);
}

finish : (len : ℕ) → HasReached (HasVerify len) psk_finish_rsp_layout
unfolding psk_finish_rsp_layout
finish len = record { are = λ pre _ _. tt }

heartbeat : (len : ℕ) → HasReached (HasVerify len) heartbeat_ack_layout
unfolding heartbeat_ack_layout
heartbeat len = record { are = λ pre _ _. tt }

key_update : (len : ℕ) → HasReached (HasVerify len) key_update_ack_layout
unfolding key_update_ack_layout
key_update len = record { are = λ pre _ _. tt }

end_session : (len : ℕ) → HasReached (HasVerify len) end_session_ack_layout
unfolding end_session_ack_layout
end_session len = record { are = λ pre _ _. tt }

chunk_send : (len : ℕ) → HasReached (HasVerify len) chunk_send_ack_layout
unfolding chunk_send_ack_layout
chunk_send len = record { are = λ pre _ _ _ _. tt }

chunk_response : (len : ℕ) → HasReached (HasVerify len) chunk_response_layout
unfolding chunk_response_layout
chunk_response len = record { are = λ pre _ _ _ _ _ _. ((λ _ _. tt), (λ _ _ _. tt)) }

body : (len said code : ℕ) (summary : Bool) → HasReached (HasVerify len) (response_body len summary said code)
unfolding response_body
body len said code summary =
    either_reached (code == VERSION) _ _ (version len)
    (either_reached (code == ERROR) _ _ (error len said)
    (either_reached (code == CAPABILITIES) _ _ (capabilities len)
    (either_reached (code == ALGORITHMS) _ _ (algorithms len)
    (either_reached (code == MEASUREMENTS) _ _ (measurements len)
    (either_reached (code == PSK_EXCHANGE_RSP) _ _ (exchange len summary)
    (either_reached (code == PSK_FINISH_RSP) _ _ (finish len)
    (either_reached (code == HEARTBEAT_ACK) _ _ (heartbeat len)
    (either_reached (code == KEY_UPDATE_ACK) _ _ (key_update len)
    (either_reached (code == END_SESSION_ACK) _ _ (end_session len)
    (either_reached (code == CHUNK_SEND_ACK) _ _ (chunk_send len)
    (chunk_response len)))))))))))

pub verify_stands : (len : ℕ) (summary : Bool) (m : List ℕ) (rsp : ExchangeRspMessage) → response_reading len summary m ≡ Ok (PskExchangeRsp rsp) → (behind : List ℕ) × (m ≡ behind ++ rsp.verify) × (length rsp.verify ≡ len)
verify_stands len summary m rsp e =
    let s : IsResponseSpelling len summary (PskExchangeRsp rsp) m = read_spelling (response_layout len summary) (front m) (PskExchangeRsp rsp) e in
    reached (HasVerify len) (response_layout len summary) 0 (PskExchangeRsp rsp) [] m
    (λ said code. (body len (little_number 1 said) (little_number 1 code) summary).are (([] ++ said) ++ code)) s
