-- PSK_EXCHANGE_RSP and PSK_FINISH_RSP, as a requester takes them, are moves.
use Rattle.std.proofs.Common.{◌≡◌, ◌<◌, ◌^◌, ◌-◌, ℕ, List, [], ◌∷◌, ◌++◌, length, drop, take, Bool, true, Option, Some, None, is_some, ◌&&◌, refl, sym, ap, ap₂, ◌∙◌, inl, arith, length-append, append_assoc}
use Rattle.std.specs.Prelude.{replicate}
use Rattle.std.proofs.Math.Seq.{drop-append_seam, take-append_seam}
use Rattle.std.proofs.lemmas.List.{length-take-le}
use Rattle.std.proofs.lemmas.Slice.Eq.{bytes_eq-Decides}
use Rattle.std.specs.Result.{result_ok}
use Rattle.byteorder.specs.Endian.{little_bytes, little_number}
use Rattle.byteorder.specs.Numbers.{little_number-reads_back}
use Rattle.key_schedule.specs.Purpose.{handshake_record}
use Rattle.key_schedule.specs.declared.direction.Direction.TheVariants.{Request, Response}
use Rattle.requester_machine.specs.Answers as asked
use Rattle.requester_machine.specs.Message.Ask.{AskFinish}
use Rattle.requester_machine.specs.Message.Content.{Sealed}
use Rattle.requester_machine.specs.Records.{answer_purpose, answer_number, answer_fault, sealed_next}
use Rattle.requester_machine.specs.RequesterLog.{record_made, finish_made, answer_check, record_check}
use Rattle.requester_machine.specs.Sending.{inner_request, finish_verify, finish_input}
use Rattle.requester_machine.specs.Session.{Steps, stage_of, t1_of, t2_of, request_next, response_next}
use Rattle.secured_record.specs.Faults.{tag_part}
use Rattle.spdm_basis.specs.declared.values.hash_alg.HashAlg.{HashAlg}
use Rattle.spdm_basis.specs.declared.values.hash_alg.HashAlg.TheVariants.{Sha256, Sha384}
use Rattle.spdm_grammar.specs.Message.{RequestMessage, ExchangeMessage, ExchangeRspMessage}
use Rattle.spdm_grammar.specs.Message.RequestMessage.{PskExchange, PskFinish}
use Rattle.spdm_grammar.specs.Requests.{canonical_request, request_in, request_layout, FitsRequest, IsSoundRequest}
use Rattle.spdm_grammar.proofs.CanonicalRequests.{request_spelled}
use Rattle.spdm_grammar.proofs.Spellings.{spelling_read}
use Rattle.spdm_grammar.specs.declared.told.phase.Stage.{Stage}
use Rattle.spdm_grammar.specs.declared.told.phase.Stage.TheVariants as stage
use Rattle.spdm_machine.specs.Keys.{Draw, context_of}
use Rattle.spdm_machine.specs.Sessions.{purpose_in}
use Rattle.requester_machine.specs.Setup.{ReqSetup}
use Rattle.spdm_machine.specs.TagLog.{Act, Log, record_input}
use Rattle.spdm_machine.specs.TagLog.Act.{Made}
use Rattle.spdm_machine.specs.Terms.{hash_len}
use Rattle.transcript.specs.Transcripts.{without_verify}
use Rattle.spdm_agreement.specs.Marks as marks
use Rattle.spdm_agreement.specs.Marks.{Served, Text, waiting, finishing}
use Rattle.spdm_agreement.specs.Moves.{request_shake, response_shake, response_verify}
use Rattle.spdm_agreement.specs.Moves.Move.{Accept, Open, Check}
use Rattle.spdm_agreement.specs.Reading.{First, covered}
use Rattle.spdm_agreement.specs.Story.{asked_first, answer_text}
use Rattle.spdm_agreement.proofs.Requester.SealAndHear.{at, made_as, tag_made, checked_as, passed_as, tag_of_answer}
use Rattle.spdm_agreement.proofs.Worlds.EndSteps.{OwnLeads}
use Rattle.spdm_agreement.proofs.Messages.Beginnings as sessions
use Rattle.spdm_agreement.proofs.Messages.Beginnings.{reading_of, first_terms, first_hash, transcript_of, is_sound_first, is_negotiated, is_request, context_number, context_in, exchange_in, draw_place}

-- ---- The context holds the number of its draw.

pub context_told : (hash : HashAlg) (d : Draw) → d.number < 256 ^ 8 → length d.bytes ≡ 32 → context_number hash (context_of hash d) ≡ d.number
context_told Sha256 d few long =
    let front : length (take 24 d.bytes) ≡ 24 = length-take-le 24 d.bytes (omega arith) in
    ap (little_number 8) (ap (λ (n : ℕ). drop n (take 24 d.bytes ++ little_bytes 8 d.number)) (sym front) ∙ drop-append_seam (take 24 d.bytes) (little_bytes 8 d.number))
    ∙ little_number-reads_back 8 d.number [] few
context_told Sha384 d few long =
    ap (little_number 8) (ap (λ (n : ℕ). drop n (context_of Sha384 d)) (sym long) ∙ ap (λ (l : List ℕ). drop (length d.bytes) l) (behind d.bytes (little_bytes 8 d.number) (replicate 8 0)) ∙ drop-append_seam d.bytes (little_bytes 8 d.number ++ replicate 8 0))
    ∙ little_number-reads_back 8 d.number (replicate 8 0) few
  where
    behind : (a b c : List ℕ) → a ++ b ++ c ≡ a ++ (b ++ c)
    behind a b c = simp append_assoc

-- PSK_EXCHANGE is read as it was written.
pub exchange_read : (len : ℕ) (message : RequestMessage) → FitsRequest message → IsSoundRequest len message → request_in len (canonical_request message) ≡ Some message
exchange_read len message fits sound = ap result_ok (spelling_read (request_layout len) 0 message (canonical_request message) (request_spelled len message fits sound).is)

pub draw_told : (psk : List ℕ) (t : First) (exchange : ExchangeMessage) (d : Draw) → request_in (hash_len (first_terms t)) t.exchange ≡ Some (PskExchange exchange) → exchange.context ≡ context_of (first_terms t).choice.hash d
    → d.number < 256 ^ 8 → length d.bytes ≡ 32 → (reading_of psk).requester_draw t ≡ d.number
draw_told psk t exchange d read is few long =
    ap (λ (o : Option RequestMessage). context_number (first_terms t).choice.hash (context_in o)) read
    ∙ ap (context_number (first_terms t).choice.hash) is ∙ context_told (first_terms t).choice.hash d few long

-- ---- The beginning is sound.

front_of : (a v : List ℕ) (n : ℕ) → length v ≡ n → take (length (a ++ v) - n) (a ++ v) ≡ a
front_of a v n e =
    let size : length (a ++ v) - n ≡ length a = omega (arith, length-append a v) in
    ap (λ (k : ℕ). take k (a ++ v)) size ∙ take-append_seam a v

all_three : (a b c : Bool) → a ≡ true → b ≡ true → c ≡ true → (a && (b && c)) ≡ true
all_three a b c x y z = rw (x, y, z) refl

pub sound_first : (psk : List ℕ) (t : First) (message : RequestMessage) (verify behind : List ℕ) → is_negotiated t.negotiation ≡ true → request_in (hash_len (first_terms t)) t.exchange ≡ Some message
    → t.answer ≡ behind ++ verify → length verify ≡ hash_len (first_terms t) → verify ≡ sessions.answer_verify psk t → is_sound_first psk t ≡ true
unfolding is_sound_first
sound_first psk t message verify behind negotiated read ends long right =
    let cut : without_verify (first_hash t) t.answer ≡ behind = ap (without_verify (first_hash t)) ends ∙ front_of behind verify (hash_len (first_terms t)) long in
    let whole : t.answer ≡ without_verify (first_hash t) t.answer ++ sessions.answer_verify psk t = ends ∙ ap₂ (λ (a b : List ℕ). a ++ b) (sym cut) right in
    all_three (is_negotiated t.negotiation) (is_request (hash_len (first_terms t)) t.exchange) _ negotiated (ap is_some read)
    ((bytes_eq-Decides t.answer (without_verify (first_hash t) t.answer ++ sessions.answer_verify psk t)).1 whole)

-- ---- PSK_EXCHANGE_RSP.

abbrev pub finish_inner : List ℕ → Steps → List ℕ
finish_inner psk s = inner_request (PskFinish (finish_verify psk s))

pub shakes_under : (g : Stage) (psk t1 t2 : List ℕ) (e : ℕ) → g ≡ stage.Handshake → (purpose_in g psk t1 t2 Request e ≡ handshake_record psk t1 Request) × (purpose_in g psk t1 t2 Response e ≡ handshake_record psk t1 Response)
shakes_under stage.Handshake psk t1 t2 e is = (refl, refl)
shakes_under stage.Open psk t1 t2 e is = absurd (cc)
shakes_under stage.Verifying psk t1 t2 e is = absurd (cc)

finish_as : (psk : List ℕ) (s : Steps) → stage_of s ≡ stage.Handshake → request_next s ≡ 0
    → record_made psk s (Sealed (sealed_next psk s (finish_inner psk s) []) (finish_inner psk s) []) ≡ Made (request_shake (reading_of psk) (asked_first s)) (covered (reading_of psk) (asked_first s) (request_shake (reading_of psk) (asked_first s)) 0 ((reading_of psk).finish (asked_first s))) (tag_made psk s (finish_inner psk s) []) ∷ []
finish_as psk s shakes first = made_as psk s (finish_inner psk s) [] (request_shake (reading_of psk) (asked_first s)) 0 (shakes_under (stage_of s) psk (t1_of s) (t2_of s) _ shakes).0 first

pub accepts : (psk : List ℕ) (s : Steps) (x : ℕ × ℕ) (m : List marks.Asked) (served : List Served) (log : Log) (rsp : ExchangeRspMessage) → stage_of s ≡ stage.Handshake → request_next s ≡ 0
    → (reading_of psk).is_sound (asked_first s) ≡ true → waiting m ≡ Some x → (reading_of psk).requester_draw (asked_first s) ≡ x.1 → rsp.verify ≡ asked.answer_verify psk s
    → OwnLeads (reading_of psk) (at m served log)
    (at (marks.Asked.Accepted (asked_first s) ∷ m) served (record_made psk s (Sealed (sealed_next psk s (finish_inner psk s) []) (finish_inner psk s) []) ++ finish_made psk s ∷ answer_check psk s rsp ∷ log))
accepts psk s x m served log rsp shakes first sound waits draws right =
    let r = reading_of psk in
    let t = asked_first s in (
      Check (response_verify r t) (r.transcript t) (asked.answer_verify psk s) rsp.verify ∷ Accept t (finish_input s) (finish_verify psk s) (tag_made psk s (finish_inner psk s) []) ∷ [],
      (tt, (tt, tt)),
      (
        tt,
        (
          (sound, (x, waits, draws), inl (refl, refl, sym right)),
          ap (λ (l : List Act). at (marks.Asked.Accepted t ∷ m) served (l ++ finish_made psk s ∷ answer_check psk s rsp ∷ log)) (sym (finish_as psk s shakes first)),
        ),
      ),
    )

-- ---- PSK_FINISH_RSP.

pub opens : (q : ReqSetup) (s : Steps) (u : List ℕ) (m : List marks.Asked) (served : List Served) (log : Log) (sealed : List ℕ) → stage_of s ≡ stage.Handshake → response_next s ≡ 0
    → finishing m ≡ Some (asked_first s) → answer_fault q.psk s AskFinish sealed ≡ None → (reading_of q.psk).opens (answer_text q.psk s AskFinish sealed) ≡ true
    → (answer_text q.psk s AskFinish sealed ≡ (reading_of q.psk).finish_answer (asked_first s) → u ≡ (reading_of q.psk).second (asked_first s))
    → OwnLeads (reading_of q.psk) (at m served log) (at (marks.Asked.Opened (asked_first s) u ∷ m) served (record_check q s AskFinish sealed ++ log))
opens q s u m served log sealed shakes first waits opened is second =
    let r = reading_of q.psk in
    let t = asked_first s in (
      Check (answer_purpose q.psk s AskFinish) (record_input (answer_number s AskFinish) sealed) (tag_of_answer q.psk s AskFinish sealed) (tag_part sealed) ∷ Open t u (answer_text q.psk s AskFinish sealed) ∷ [],
      (tt, (tt, tt)),
      (
        tt,
        (
          (waits, is, passed_as q.psk s AskFinish sealed log (response_shake r t) 0 opened (shakes_under (stage_of s) q.psk (t1_of s) (t2_of s) _ shakes).1 first, second),
          ap (λ (l : List Act). at (marks.Asked.Opened t u ∷ m) served (l ++ log)) (sym (checked_as q s AskFinish sealed opened)),
        ),
      ),
    )
