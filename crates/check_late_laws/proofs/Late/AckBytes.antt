-- A response that is read as CHUNK_SEND_ACK shows that by its second byte, and what it carries follows its first six
-- bytes.
use Rattle.std.proofs.Common.{◌≡◌, ◌+◌, ◌++◌, ◌==◌, ◌∙◌, ℕ, List, [], ◌∷◌, refl, sym, ap, subst, drop, length, arith, Bool, true, false, Option, Some, None, cond, eqb-true}
use Rattle.std.specs.Prelude.{Ok, slice_index}
use Rattle.byteorder.specs.Endian.{little_number}
use Rattle.check_late_laws.proofs.Late.ErrorBytes.{HasGiven, either_given, given}
use Rattle.spdm_grammar.specs.Layout.{Layout, IsSpelling}
use Rattle.spdm_grammar.specs.Layout.Layout.{Whole, Bytes, UpTo}
use Rattle.spdm_grammar.specs.Message.{ResponseMessage}
use Rattle.spdm_grammar.specs.Message.ResponseMessage.{ChunkSendAck, Error}
use Rattle.spdm_grammar.specs.Reading.{front}
use Rattle.spdm_grammar.specs.Responses.{IsResponseSpelling, response_reading, response_layout, response_body, version_layout, error_layout, capabilities_layout, algorithms_layout, measurements_layout, psk_exchange_rsp_layout, psk_finish_rsp_layout, heartbeat_ack_layout, key_update_ack_layout, end_session_ack_layout, chunk_send_ack_layout, chunk_response_layout}
use Rattle.spdm_grammar.proofs.Spellings.{read_spelling}
use Rattle.spdm_grammar.specs.declared.names.error_number.TheConstants.{RESPONSE_TOO_LARGE, LARGE_RESPONSE}
use Rattle.spdm_grammar.specs.declared.names.response_code.TheConstants.{MEASUREMENTS, CAPABILITIES, ALGORITHMS, PSK_EXCHANGE_RSP, PSK_FINISH_RSP, HEARTBEAT_ACK, KEY_UPDATE_ACK, END_SESSION_ACK, ERROR, VERSION, CHUNK_SEND_ACK}

-- ---- The other bodies spell none.

abbrev NoAck : ResponseMessage → Type 0
NoAck (ChunkSendAck early handle number answer) = ⊥
NoAck _ = Unit {0}

version : HasGiven NoAck version_layout
unfolding version_layout
version = record { are = λ _ _ _. tt }

capabilities : HasGiven NoAck capabilities_layout
unfolding capabilities_layout
capabilities = record { are = λ _ _ _ _ _ _. tt }

algorithms : HasGiven NoAck algorithms_layout
unfolding algorithms_layout
algorithms = record { are = λ _ _ _ _ _ _ _ _ _ _ _ _ _ _ _. tt }

measurements : HasGiven NoAck measurements_layout
unfolding measurements_layout
measurements = record { are = λ _ _ _ _ _ _ _ _. tt }

exchange : (len : ℕ) (summary : Bool) → HasGiven NoAck (psk_exchange_rsp_layout len summary)
unfolding psk_exchange_rsp_layout
exchange len summary = record { are = λ _ _ _ _ _ _ _ _ _ _. tt }

finish : HasGiven NoAck psk_finish_rsp_layout
unfolding psk_finish_rsp_layout
finish = record { are = λ _. tt }

heartbeat : HasGiven NoAck heartbeat_ack_layout
unfolding heartbeat_ack_layout
heartbeat = record { are = λ _. tt }

key_update : HasGiven NoAck key_update_ack_layout
unfolding key_update_ack_layout
key_update = record { are = λ _ _. tt }

end_session : HasGiven NoAck end_session_ack_layout
unfolding end_session_ack_layout
end_session = record { are = λ _. tt }

chunk_response : HasGiven NoAck chunk_response_layout
unfolding chunk_response_layout
chunk_response = record { are = λ _ _ _ _ _ _ _. tt }

error : (said : ℕ) → HasGiven NoAck (error_layout said)
unfolding error_layout
error said = record {
  are = λ code detail.
      (either_given NoAck (code == RESPONSE_TOO_LARGE) (Bytes 4 (λ extended. Whole (Error said code detail extended)))
      (cond (code == LARGE_RESPONSE) (Bytes 1 (λ extended. Whole (Error said code detail extended))) (UpTo 32 (λ extended. Error said code detail extended))) (record { are = λ extended. tt })
      (either_given NoAck (code == LARGE_RESPONSE) (Bytes 1 (λ extended. Whole (Error said code detail extended))) (UpTo 32 (λ extended. Error said code detail extended)) (record { are = λ extended. tt })
      (record { are = λ extended. tt }))).are;
}

-- Where the code is another one.
others : (len : ℕ) (summary : Bool) (said code : ℕ) → (code == CHUNK_SEND_ACK) ≡ false → HasGiven NoAck (response_body len summary said code)
unfolding response_body
others len summary said code other =
    either_given NoAck (code == VERSION) _ _ version
    (either_given NoAck (code == ERROR) _ _ (error said)
    (either_given NoAck (code == CAPABILITIES) _ _ capabilities
    (either_given NoAck (code == ALGORITHMS) _ _ algorithms
    (either_given NoAck (code == MEASUREMENTS) _ _ measurements
    (either_given NoAck (code == PSK_EXCHANGE_RSP) _ _ (exchange len summary)
    (either_given NoAck (code == PSK_FINISH_RSP) _ _ finish
    (either_given NoAck (code == HEARTBEAT_ACK) _ _ heartbeat
    (either_given NoAck (code == KEY_UPDATE_ACK) _ _ key_update
    (either_given NoAck (code == END_SESSION_ACK) _ _ end_session
    (subst (λ (b : Bool). HasGiven NoAck (cond b chunk_send_ack_layout chunk_response_layout)) (sym other) chunk_response))))))))))

-- ---- That body.

ack_body : (len : ℕ) (summary : Bool) (said : ℕ) → response_body len summary said CHUNK_SEND_ACK ≡ chunk_send_ack_layout
unfolding response_body
ack_body len summary said = refl

-- The bytes after some fields.
behind_one : (m f rest : List ℕ) → m ≡ f ++ rest → length f ≡ 1 → drop 1 m ≡ rest
behind_one m [] rest e n = absurd (omega (arith, n))
behind_one m (x ∷ y ∷ f) rest e n = absurd (omega (arith, n))
behind_one m (x ∷ []) rest e n = ap (drop 1) e

behind_two : (m f rest : List ℕ) → m ≡ f ++ rest → length f ≡ 2 → drop 2 m ≡ rest
behind_two m [] rest e n = absurd (omega (arith, n))
behind_two m (x ∷ []) rest e n = absurd (omega (arith, n))
behind_two m (x ∷ y ∷ z ∷ f) rest e n = absurd (omega (arith, n))
behind_two m (x ∷ y ∷ []) rest e n = ap (drop 2) e

drop_two : (l : List ℕ) → drop 2 l ≡ drop 1 (drop 1 l)
drop_two [] = refl
drop_two (x ∷ l) = refl

drop_four : (l : List ℕ) → drop 4 l ≡ drop 2 (drop 2 l)
drop_four [] = refl
drop_four (x ∷ []) = refl
drop_four (x ∷ y ∷ l) = refl

drop_six : (l : List ℕ) → drop 6 l ≡ drop 4 (drop 2 l)
drop_six [] = refl
drop_six (x ∷ []) = refl
drop_six (x ∷ y ∷ l) = refl

carried : (early : Bool) (handle number : ℕ) (answer rest : List ℕ) → IsSpelling chunk_send_ack_layout 2 (ChunkSendAck early handle number answer) rest → answer ≡ drop 4 rest
unfolding chunk_send_ack_layout
carried early handle number answer rest s =
    let one : drop 1 rest ≡ s.1 = behind_one rest s.0 s.1 s.2 s.3 in
    let t = s.5 in
    let two : drop 1 s.1 ≡ t.1 = behind_one s.1 t.0 t.1 t.2 t.3 in
    let u = t.5 in
    let four : drop 2 t.1 ≡ u.1 = behind_two t.1 u.0 u.1 u.2 u.3 in
    let same : answer ≡ u.1 = cc (u.5) in
    same ∙ sym (drop_four rest ∙ ap (drop 2) (drop_two rest ∙ ap (drop 1) one ∙ two) ∙ four)

first_byte : (m f rest : List ℕ) → m ≡ f ++ rest → length f ≡ 1 → slice_index m 0 ≡ little_number 1 f
first_byte m [] rest e n = absurd (omega arith)
first_byte m (x ∷ y ∷ f) rest e n = absurd (omega arith)
first_byte m (x ∷ []) rest e n = ap (λ (l : List ℕ). slice_index l 0) e ∙ (omega arith)

index_behind : (m : List ℕ) → slice_index m 1 ≡ slice_index (drop 1 m) 0
index_behind [] = refl
index_behind (x ∷ m) = refl

pub ack_bytes : (len : ℕ) (summary : Bool) (m : List ℕ) (early : Bool) (handle number : ℕ) (answer : List ℕ) → response_reading len summary m ≡ Ok (ChunkSendAck early handle number answer)
    → (slice_index m 1 ≡ CHUNK_SEND_ACK) × (answer ≡ drop 6 m)
ack_bytes len summary m early handle number answer e =
    let s : IsResponseSpelling len summary (ChunkSendAck early handle number answer) m = read_spelling (response_layout len summary) (front m) (ChunkSendAck early handle number answer) e in
    let t = s.5 in
    let one : drop 1 m ≡ s.1 = behind_one m s.0 s.1 s.2 s.3 in
    let two : drop 1 s.1 ≡ t.1 = behind_one s.1 t.0 t.1 t.2 t.3 in
    let byte : slice_index m 1 ≡ little_number 1 t.0 = index_behind m ∙ ap (λ (l : List ℕ). slice_index l 0) one ∙ first_byte s.1 t.0 t.1 t.2 t.3 in
    let rest : drop 2 m ≡ t.1 = drop_two m ∙ ap (drop 1) one ∙ two in
    by_code (little_number 1 s.0) (little_number 1 t.0) t.1 byte rest (little_number 1 t.0 == CHUNK_SEND_ACK) refl t.5
  where
    by_code : (said code : ℕ) (l : List ℕ) → slice_index m 1 ≡ code → drop 2 m ≡ l → (b : Bool) → (code == CHUNK_SEND_ACK) ≡ b → IsSpelling (response_body len summary said code) 2 (ChunkSendAck early handle number answer) l
        → (slice_index m 1 ≡ CHUNK_SEND_ACK) × (answer ≡ drop 6 m)
    by_code said code l byte rest false other spelled = absurd (given NoAck (response_body len summary said code) 2 (ChunkSendAck early handle number answer) l (others len summary said code other).are spelled)
    by_code said code l byte rest true is spelled =
        let same : code ≡ CHUNK_SEND_ACK = eqb-true code CHUNK_SEND_ACK is in
        let own = subst (λ (x : Layout ResponseMessage). IsSpelling x 2 (ChunkSendAck early handle number answer) l) (ap (response_body len summary said) same ∙ ack_body len summary said) spelled in
        (byte ∙ same, carried early handle number answer l own ∙ ap (drop 4) (sym rest) ∙ sym (drop_six m))
