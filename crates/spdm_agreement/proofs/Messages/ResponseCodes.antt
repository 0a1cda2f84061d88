-- The code of PSK_FINISH_RSP and of KEY_UPDATE_ACK is that of their bytes.
use Rattle.std.proofs.Common.{◌≡◌, ℕ, List, Bool, true, false, cond, ◌==◌, sym, subst}
use Rattle.std.specs.Prelude.{slice_index, Ok}
use Rattle.byteorder.specs.Endian.{little_number}
use Rattle.spdm_grammar.specs.Layout.{Layout}
use Rattle.spdm_grammar.specs.Message.{ResponseMessage}
use Rattle.spdm_grammar.specs.Message.ResponseMessage.{PskFinishRsp, KeyUpdateAck}
use Rattle.spdm_grammar.specs.Reading.{front}
use Rattle.spdm_grammar.specs.Responses.{IsResponseSpelling, response_reading, response_layout, response_body, version_layout, error_layout, capabilities_layout, algorithms_layout, measurements_layout, psk_exchange_rsp_layout, psk_finish_rsp_layout, heartbeat_ack_layout, key_update_ack_layout, end_session_ack_layout, chunk_send_ack_layout, chunk_response_layout}
use Rattle.spdm_grammar.proofs.Spellings.{read_spelling}
use Rattle.spdm_agreement.proofs.Messages.RequestCodes.{Gives, given, HasGiven, tested, is_code, second_byte}
use Rattle.spdm_grammar.specs.declared.names.error_number.TheConstants.{RESPONSE_TOO_LARGE, LARGE_RESPONSE}
use Rattle.spdm_grammar.specs.declared.names.response_code.TheConstants.{MEASUREMENTS, CAPABILITIES, ALGORITHMS, PSK_EXCHANGE_RSP, PSK_FINISH_RSP, HEARTBEAT_ACK, KEY_UPDATE_ACK, END_SESSION_ACK, ERROR, VERSION, CHUNK_SEND_ACK}

-- An answer of one of the two codes is of no other.
abbrev pub TellsCode : ℕ → ResponseMessage → Type 0
TellsCode code PskFinishRsp = code ≡ PSK_FINISH_RSP
TellsCode code (KeyUpdateAck op tag) = code ≡ KEY_UPDATE_ACK
TellsCode code _ = Unit {0}

both_given : {A : Type 0} (P : A → Type 0) (b : Bool) (l m : Layout A) → Gives P l → Gives P m → Gives P (cond b l m)
both_given P true l m x y = x
both_given P false l m x y = y

version : (code : ℕ) → HasGiven (TellsCode code) version_layout
unfolding version_layout
version code = record { are = λ _ _ _. tt }

error : (code said : ℕ) → HasGiven (TellsCode code) (error_layout said)
unfolding error_layout
error code said = record { are = λ c detail. both_given (TellsCode code) (c == RESPONSE_TOO_LARGE) _ _ (λ _. tt) (both_given (TellsCode code) (c == LARGE_RESPONSE) _ _ (λ _. tt) (λ _. tt)) }

capabilities : (code : ℕ) → HasGiven (TellsCode code) capabilities_layout
unfolding capabilities_layout
capabilities code = record { are = λ _ _ _ _ _ _. tt }

algorithms : (code : ℕ) → HasGiven (TellsCode code) algorithms_layout
unfolding algorithms_layout
algorithms code = record { are = λ _ _ _ _ _ _ _ _ _ _ _ _ _ _ _. tt }

measurements : (code : ℕ) → HasGiven (TellsCode code) measurements_layout
unfolding measurements_layout
measurements code = record { are = λ _ _ _ _ _ _ _ _. tt }

exchange : (len code : ℕ) (summary : Bool) → HasGiven (TellsCode code) (psk_exchange_rsp_layout len summary)
unfolding psk_exchange_rsp_layout
exchange len code summary = record { are = λ _ _ _ _ _ _ _ _ _ _. tt }

finish : (code : ℕ) → (code == PSK_FINISH_RSP) ≡ true → HasGiven (TellsCode code) psk_finish_rsp_layout
unfolding psk_finish_rsp_layout
finish code e = record { are = λ _. sym (is_code code PSK_FINISH_RSP e) }

heartbeat : (code : ℕ) → HasGiven (TellsCode code) heartbeat_ack_layout
unfolding heartbeat_ack_layout
heartbeat code = record { are = λ _. tt }

key_update : (code : ℕ) → (code == KEY_UPDATE_ACK) ≡ true → HasGiven (TellsCode code) key_update_ack_layout
unfolding key_update_ack_layout
key_update code e = record { are = λ _ _. sym (is_code code KEY_UPDATE_ACK e) }

end_session : (code : ℕ) → HasGiven (TellsCode code) end_session_ack_layout
unfolding end_session_ack_layout
end_session code = record { are = λ _. tt }

chunk_send : (code : ℕ) → HasGiven (TellsCode code) chunk_send_ack_layout
unfolding chunk_send_ack_layout
chunk_send code = record { are = λ _ _ _ _. tt }

chunk_response : (code : ℕ) → HasGiven (TellsCode code) chunk_response_layout
unfolding chunk_response_layout
chunk_response code = record { are = λ _ _ _ _ _ _ _. tt }

body : (len said code : ℕ) (summary : Bool) → HasGiven (TellsCode code) (response_body len summary said code)
unfolding response_body
body len said code summary =
    tested (code == VERSION) _ _ (λ e. version code) (λ e.
    tested (code == ERROR) _ _ (λ e. error code said) (λ e.
    tested (code == CAPABILITIES) _ _ (λ e. capabilities code) (λ e.
    tested (code == ALGORITHMS) _ _ (λ e. algorithms code) (λ e.
    tested (code == MEASUREMENTS) _ _ (λ e. measurements code) (λ e.
    tested (code == PSK_EXCHANGE_RSP) _ _ (λ e. exchange len code summary) (λ e.
    tested (code == PSK_FINISH_RSP) _ _ (λ e. finish code e) (λ e.
    tested (code == HEARTBEAT_ACK) _ _ (λ e. heartbeat code) (λ e.
    tested (code == KEY_UPDATE_ACK) _ _ (λ e. key_update code e) (λ e.
    tested (code == END_SESSION_ACK) _ _ (λ e. end_session code) (λ e.
    tested (code == CHUNK_SEND_ACK) _ _ (λ e. chunk_send code) (λ e.
    chunk_response code)))))))))))

tells : (code byte : ℕ) (v : ResponseMessage) → byte ≡ code → TellsCode code v → TellsCode byte v
tells code byte v e t = subst (λ (n : ℕ). TellsCode n v) (sym e) t

pub answer_code : (len : ℕ) (summary : Bool) (m : List ℕ) (v : ResponseMessage) → response_reading len summary m ≡ Ok v → TellsCode (slice_index m 1) v
answer_code len summary m v e =
    let s : IsResponseSpelling len summary v m = read_spelling (response_layout len summary) (front m) v e in
    let t = s.5 in
    tells (little_number 1 t.0) (slice_index m 1) v (second_byte m s.0 t.0 s.1 t.1 s.2 t.2 s.3 t.3)
    (given (TellsCode (little_number 1 t.0)) (response_body len summary (little_number 1 s.0) (little_number 1 t.0)) 2 v t.1 (body len (little_number 1 s.0) (little_number 1 t.0) summary).are t.5)
