-- What a requester makes of the answer to GET_MEASUREMENTS, and to CHUNK_GET for it, once it knows of which turn it is.
use Rattle.std.proofs.Common.{◌≡◌, ◌≢◌, ◌⊎◌, ◌∙◌, ℕ, ◌<◌, ◌≤◌, ◌+◌, ◌==◌, ◌&&◌, List, [], ◌∷◌, length, drop, Bool, true, false, cond, Option, Some, None, Result, Ok, Err, refl, sym, ap, subst, inl, inr, arith, add-one}
use Rattle.std.specs.Prelude.{slice_index}
use Rattle.std.proofs.lemmas.Bool.{eqb-false}
use Rattle.chunking.specs.Collecting.{joined_with}
use Rattle.chunking.specs.Cutting.{chunk_count, chunks_before, nth_chunk}
use Rattle.measurements.specs.Records.{asked as blocks_asked}
use Rattle.requester_machine.specs.Answers.{goes_on, is_done, is_refused}
use Rattle.requester_machine.specs.ClearAnswers.{get_fault}
use Rattle.requester_machine.specs.Commands.{Free}
use Rattle.requester_machine.specs.History.{History, Led}
use Rattle.requester_machine.specs.History.Effect.{Grants, Nothing}
use Rattle.requester_machine.specs.InnerMessages.{Came, chunk_led, data_led, first_get, inner_fault, inner_led, inner_led_by, message_led, or_lost, read_led, reading_of, whole_led, with_record}
use Rattle.requester_machine.specs.Message.{Aim, Ask, Sent}
use Rattle.requester_machine.specs.Message.Aim.{InSession}
use Rattle.requester_machine.specs.Message.Ask.{AskChunk, AskMeasure}
use Rattle.requester_machine.specs.Sending.{chunk_sent}
use Rattle.requester_machine.specs.Session.{session_terms}
use Rattle.requester_machine.specs.Setup.{ReqSetup}
use Rattle.responder_machine.specs.Answer.{Free as FreeThere, answer_bytes}
use Rattle.responder_machine.specs.Handling.{detail_of, error_bytes, extended_of, large_response}
use Rattle.responder_machine.specs.Place.{session_place}
use Rattle.responder_machine.specs.Refusal.{code_of}
use Rattle.responder_machine.specs.Session.{Events}
use Rattle.responder_machine.specs.Setup.{RspSetup, inventory_of}
use Rattle.responder_machine.specs.Turn.{Turn}
use Rattle.spdm_grammar.specs.ErrorNumber.{error_number}
use Rattle.spdm_grammar.specs.Message.{ChunkMessage, ResponseMessage}
use Rattle.spdm_grammar.specs.Message.ResponseMessage.{ChunkResponse, Error, Measurements}
use Rattle.spdm_grammar.specs.Responses.{response_reading}
use Rattle.spdm_grammar.specs.declared.messages.error_code.ErrorCode.{ErrorCode}
use Rattle.spdm_grammar.specs.declared.messages.error_code.ErrorCode.TheVariants.{InvalidRequest, UnexpectedRequest, Unspecified, DecryptError, UnsupportedRequest, SessionLimitExceeded, SessionRequired, ResponseTooLarge, RequestTooLarge, LargeResponse, VersionMismatch}
use Rattle.spdm_grammar.specs.declared.messages.malformed.Malformed.{Malformed}
use Rattle.spdm_grammar.specs.declared.messages.part_faults.ChunkFault.{ChunkFault}
use Rattle.spdm_grammar.specs.declared.names.TheConstants.{MAX_MESSAGE_SIZE}
use Rattle.spdm_grammar.specs.declared.names.error_number.TheConstants.{LARGE_RESPONSE}
use Rattle.spdm_grammar.specs.declared.names.spdm_version.TheConstants.{V1_2}
use Rattle.spdm_grammar.specs.declared.told.event.BadReply.{BadReply}
use Rattle.spdm_grammar.specs.declared.told.event.Event.TheVariants as event
use Rattle.spdm_grammar.specs.declared.told.event.Finished.TheVariants as finished
use Rattle.spdm_machine.specs.Terms.{hash_len}
use Rattle.spdm_progress.proofs.ChunkCounts.{next_below}
use Rattle.spdm_progress.proofs.ChunkRules.{fits_chunk, last_whole, sound_chunk}
use Rattle.spdm_progress.proofs.ClearFetch.{IsPending, chunk_response, reads_large, reads_so, transfer_in}
use Rattle.spdm_progress.proofs.MeasureStages.{measured, measured_fits, measured_sound, measurements, measurements_are, told_number}
use Rattle.spdm_progress.specs.Measuring.{number_for}
use Rattle.transcript.specs.Transcripts.{Negotiation}
use Rattle.chunking.specs.Cutting.{IsCollectable}
use Rattle.attest_laws.proofs.Turns.{IsUnderWay}

-- ---- What it may lead to.

-- No measurements are told, and no chunk is asked for.
abbrev pub NoGetAim : Aim → Type 0
NoGetAim (InSession id (AskChunk op handle number before)) = ⊥
NoGetAim _ = Unit {0}

abbrev pub NoGet : Option Sent → Type 0
NoGet None = Unit {0}
NoGet (Some x) = NoGetAim x.aim

pub record IsQuiet (led : Led) : Type 0 where
  pub told : (number : ℕ) → led.event ≡ event.Done (finished.Measured number) → ⊥
  pub next : NoGet led.next

-- MEASUREMENTS came whole.
pub record IsMeasured (r : RspSetup) (op : ℕ) (led : Led) : Type 0 where
  pub nonce : List ℕ
  pub whole : length nonce ≡ 32
  pub few : length (measurements r op nonce) ≤ MAX_MESSAGE_SIZE
  pub is : led ≡ is_done (finished.Measured (number_for r op)) (Grants (AskMeasure op) (measurements r op nonce))

-- The next chunk of them is asked for, after those before it.
pub record IsFetching (r : RspSetup) (n : Negotiation) (op handle k : ℕ) (before : List ChunkMessage) (turns : List Turn) : Type 0 where
  pub under : IsUnderWay r n op handle k turns
  pub before_are : before ≡ chunks_before (transfer_in n) handle (measurements r op under.nonce) k

pub record GetsChunk (r : RspSetup) (n : Negotiation) (of op : ℕ) (turns : List Turn) (led : Led) : Type 0 where
  pub handle : ℕ
  pub k : ℕ
  pub before : List ChunkMessage
  pub sent : Sent
  pub event_is : led.event ≡ event.Progress
  pub next : led.next ≡ Some sent
  pub aim : sent.aim ≡ InSession of (AskChunk op handle k before)
  pub fetching : IsFetching r n op handle k before turns

abbrev pub LeadsOn : RspSetup → Negotiation → (of op : ℕ) → List Turn → Led → Type 0
LeadsOn r n of op turns led = IsQuiet led ⊎ (IsMeasured r op led ⊎ GetsChunk r n of op turns led)

quiet_lost : (came : Came) (fault : BadReply) → IsQuiet (or_lost came (Err fault))
quiet_lost came fault = record { told = λ number e. cc; next = tt }

quiet_refused : (code : ℕ) → IsQuiet (is_refused code Nothing)
quiet_refused code = record { told = λ number e. cc; next = tt }

-- ---- Reading.

-- An SPDM message is read, unless it is too long.
module _ (q : ReqSetup) (h : History) (f : Free) (came : Came) (ask : Ask) (m : List ℕ) (is : came.inner ≡ 5 ∷ m) (P : Led → Type 0) (lost : (fault : BadReply) → P (or_lost came (Err fault))) where
  fault_by : (o : Option BadReply) → P (or_lost came (read_led q h f came ask (reading_of came m))) → P (or_lost came (inner_led_by q h f came ask o))
  fault_by (Some fault) read = lost fault
  fault_by None read = subst (λ (l : List ℕ). P (or_lost came (cond (slice_index l 0 == 5) (read_led q h f came ask (reading_of came (drop 1 l))) (data_led came ask)))) (sym is) read

  read_as : (v : ResponseMessage) → reading_of came m ≡ Ok v → P (or_lost came (message_led q h f came ask v)) → P (or_lost came (inner_led q h f came ask))
  unfolding inner_led
  read_as v reads led = fault_by (inner_fault q came.inner) (subst (λ (x : Result ResponseMessage Malformed). P (or_lost came (read_led q h f came ask x))) (sym reads) led)

-- ---- ERROR.

error_read : (r : RspSetup) (s : Events) (m : List ℕ) (f : FreeThere) (e : ErrorCode) (len : ℕ) → code_of m < 256 → e ≢ LargeResponse
    → response_reading len false (error_bytes r (session_place s) m f e) ≡ Ok (Error V1_2 (error_number e) (detail_of e (code_of m)) (extended_of e (answer_bytes r (session_place s) m f)))
error_read r s m f InvalidRequest len byte other = reads_so (Error V1_2 (error_number InvalidRequest) 0 []) len false (omega arith, omega arith) (inr refl, (λ e. absurd (omega (arith, e)), λ e. absurd (omega (arith, e)), omega arith))
error_read r s m f UnexpectedRequest len byte other = reads_so (Error V1_2 (error_number UnexpectedRequest) 0 []) len false (omega arith, omega arith) (inr refl, (λ e. absurd (omega (arith, e)), λ e. absurd (omega (arith, e)), omega arith))
error_read r s m f Unspecified len byte other = reads_so (Error V1_2 (error_number Unspecified) 0 []) len false (omega arith, omega arith) (inr refl, (λ e. absurd (omega (arith, e)), λ e. absurd (omega (arith, e)), omega arith))
error_read r s m f DecryptError len byte other = reads_so (Error V1_2 (error_number DecryptError) 0 []) len false (omega arith, omega arith) (inr refl, (λ e. absurd (omega (arith, e)), λ e. absurd (omega (arith, e)), omega arith))
error_read r s m f UnsupportedRequest len byte other = reads_so (Error V1_2 (error_number UnsupportedRequest) (code_of m) []) len false (omega arith, byte) (inr refl, (λ e. absurd (omega (arith, e)), λ e. absurd (omega (arith, e)), omega arith))
error_read r s m f SessionLimitExceeded len byte other = reads_so (Error V1_2 (error_number SessionLimitExceeded) 0 []) len false (omega arith, omega arith) (inr refl, (λ e. absurd (omega (arith, e)), λ e. absurd (omega (arith, e)), omega arith))
error_read r s m f SessionRequired len byte other = reads_so (Error V1_2 (error_number SessionRequired) 0 []) len false (omega arith, omega arith) (inr refl, (λ e. absurd (omega (arith, e)), λ e. absurd (omega (arith, e)), omega arith))
error_read r s m f ResponseTooLarge len byte other = reads_so (Error V1_2 (error_number ResponseTooLarge) 0 (extended_of ResponseTooLarge (answer_bytes r (session_place s) m f))) len false (omega arith, omega arith) (inr refl, (λ e. refl, λ e. absurd (omega (arith, e)), omega arith))
error_read r s m f RequestTooLarge len byte other = reads_so (Error V1_2 (error_number RequestTooLarge) 0 []) len false (omega arith, omega arith) (inr refl, (λ e. absurd (omega (arith, e)), λ e. absurd (omega (arith, e)), omega arith))
error_read r s m f LargeResponse len byte other = absurd (other refl)
error_read r s m f VersionMismatch len byte other = reads_so (Error V1_2 (error_number VersionMismatch) 0 []) len false (omega arith, omega arith) (inr refl, (λ e. absurd (omega (arith, e)), λ e. absurd (omega (arith, e)), omega arith))

small_code : (e : ErrorCode) → e ≢ LargeResponse → (error_number e == LARGE_RESPONSE) ≡ false
small_code InvalidRequest other = refl
small_code UnexpectedRequest other = refl
small_code Unspecified other = refl
small_code DecryptError other = refl
small_code UnsupportedRequest other = refl
small_code SessionLimitExceeded other = refl
small_code SessionRequired other = refl
small_code ResponseTooLarge other = refl
small_code RequestTooLarge other = refl
small_code LargeResponse other = absurd (other refl)
small_code VersionMismatch other = refl

-- ---- MEASUREMENTS.

module _ (r : RspSetup) (op : ℕ) (nonce : List ℕ) (whole : length nonce ≡ 32) (few : length (measurements r op nonce) ≤ MAX_MESSAGE_SIZE) where
  pub measured_read : (len : ℕ) → response_reading len false (measurements r op nonce) ≡ Ok (Measurements (measured r op nonce))
  measured_read len =
      let size = measurements_are r op nonce whole in
      reads_so (Measurements (measured r op nonce)) len false (measured_fits r op nonce) (measured_sound r op len nonce whole (omega (arith, size, few)))

  number_told : (bytes : List ℕ) → bytes ≡ measurements r op nonce → is_done (finished.Measured (cond (op == 0) (measured r op nonce).total (measured r op nonce).blocks)) (Grants (AskMeasure op) bytes)
      ≡ is_done (finished.Measured (number_for r op)) (Grants (AskMeasure op) (measurements r op nonce))
  number_told bytes is =
      ap (λ (l : List ℕ). is_done (finished.Measured (cond (op == 0) (measured r op nonce).total (measured r op nonce).blocks)) (Grants (AskMeasure op) l)) is
      ∙ ap (λ (z : ℕ). is_done (finished.Measured z) (Grants (AskMeasure op) (measurements r op nonce))) (told_number (op == 0) (length (inventory_of r)) (length (blocks_asked op (inventory_of r))))

-- ---- The answer to GET_MEASUREMENTS.

module _ (q : ReqSetup) (h : History) (f : Free) (came : Came) (r : RspSetup) (n : Negotiation) (op : ℕ) (turns : List Turn) where
  abbrev Leads : Led → Type 0
  Leads = LeadsOn r n came.id op turns

  abbrev len : ℕ
  len = hash_len (session_terms came.steps)

  lost : (fault : BadReply) → Leads (or_lost came (Err fault))
  lost fault = inl (quiet_lost came fault)

  pub refused_leads : (s : Events) (m : List ℕ) (there : FreeThere) (e : ErrorCode) → code_of m < 256 → e ≢ LargeResponse → came.inner ≡ 5 ∷ error_bytes r (session_place s) m there e → Leads (or_lost came (inner_led q h f came (AskMeasure op)))
  refused_leads s m there e byte other is =
      let extended = extended_of e (answer_bytes r (session_place s) m there) in
      read_as q h f came (AskMeasure op) (error_bytes r (session_place s) m there e) is Leads lost _ (error_read r s m there e len byte other)
      (subst (λ (b : Bool). Leads (or_lost came (cond (b && (session_terms came.steps).common.chunk) (Ok (first_get q h f came op extended)) (Ok (is_refused (error_number e) Nothing))))) (sym (small_code e other)) (inl (quiet_refused (error_number e))))

  pub whole_leads : (nonce : List ℕ) → length nonce ≡ 32 → length (measurements r op nonce) ≤ MAX_MESSAGE_SIZE → came.inner ≡ 5 ∷ measurements r op nonce → Leads (or_lost came (inner_led q h f came (AskMeasure op)))
  whole_leads nonce whole few is =
      read_as q h f came (AskMeasure op) (measurements r op nonce) is Leads lost _ (measured_read r op nonce whole few len)
      (inr (inl (record { nonce = nonce; whole = whole; few = few; is = number_told r op nonce whole few (drop 1 came.inner) (ap (λ (l : List ℕ). drop 1 l) is) })))

  large_by : (b : Bool) (handle : ℕ) → IsUnderWay r n op handle 0 turns → Leads (or_lost came (cond b (Ok (first_get q h f came op (handle ∷ []))) (Ok (is_refused LARGE_RESPONSE Nothing))))
  large_by false handle under = inl (quiet_refused LARGE_RESPONSE)
  large_by true handle under = inr (inr (record {
    handle = handle;
    k = 0;
    before = [];
    sent = chunk_sent q h came.id (with_record came Nothing) op handle 0 [] f.pad;
    event_is = refl;
    next = refl;
    aim = refl;
    fetching = record { under = under; before_are = refl };
  }))

  pub large_leads : (handle : ℕ) → IsUnderWay r n op handle 0 turns → came.inner ≡ 5 ∷ large_response handle → Leads (or_lost came (inner_led q h f came (AskMeasure op)))
  large_leads handle under is =
      read_as q h f came (AskMeasure op) (large_response handle) is Leads lost _ (reads_large len handle false) (large_by (session_terms came.steps).common.chunk handle under)

  -- ---- The answer to CHUNK_GET.

  module _ (handle k : ℕ) (before : List ChunkMessage) where
    abbrev ask : Ask
    ask = AskChunk op handle k before

    pub chunk_refused : (s : Events) (m : List ℕ) (there : FreeThere) (e : ErrorCode) → code_of m < 256 → e ≢ LargeResponse → came.inner ≡ 5 ∷ error_bytes r (session_place s) m there e → Leads (or_lost came (inner_led q h f came ask))
    chunk_refused s m there e byte other is =
        read_as q h f came ask (error_bytes r (session_place s) m there e) is Leads lost _ (error_read r s m there e len byte other) (inl (quiet_refused (error_number e)))

    module _ (older : List Turn) (under : IsUnderWay r n op handle k older) (before_are : before ≡ chunks_before (transfer_in n) handle (measurements r op under.nonce) k)
        (collects : IsCollectable MAX_MESSAGE_SIZE (transfer_in n) (measurements r op under.nonce)) (pending : IsPending (measurements r op under.nonce) handle (k + 1) turns) where
      abbrev w : List ℕ
      w = measurements r op under.nonce

      abbrev c : ChunkMessage
      c = nth_chunk (transfer_in n) handle w k

      joined : c.last ≡ true → joined_with before c ≡ w
      joined last = ap (λ (l : List ChunkMessage). joined_with l c) before_are ∙ last_whole MAX_MESSAGE_SIZE (transfer_in n) handle w collects k under.within last

      last_by : c.last ≡ true → Leads (or_lost came (whole_led q h f came op (joined_with before c) (reading_of came (joined_with before c))))
      last_by last =
          subst (λ (l : List ℕ). Leads (or_lost came (whole_led q h f came op l (reading_of came l)))) (sym (joined last))
          (subst (λ (x : Result ResponseMessage Malformed). Leads (or_lost came (whole_led q h f came op w x))) (sym (measured_read r op under.nonce under.whole under.few len))
          (inr (inl (record { nonce = under.nonce; whole = under.whole; few = under.few; is = number_told r op under.nonce under.whole under.few w refl }))))

      further : c.last ≡ false → IsUnderWay r n op handle (k + 1) turns
      further more =
          let other = eqb-false (k + 1) (chunk_count (transfer_in n) w) more in
          let below = next_below k (chunk_count (transfer_in n) w) under.within other in record {
            nonce = under.nonce;
            whole = under.whole;
            few = under.few;
            small = under.small;
            low = under.low;
            large = under.large;
            within = omega (arith, below);
            pending = pending;
          }

      more_by : c.last ≡ false → Leads (or_lost came (Ok (goes_on Nothing (chunk_sent q h came.id (with_record came Nothing) op c.handle (c.number + 1) (c ∷ before) f.pad))))
      unfolding further
      more_by more = inr (inr (record {
        handle = handle;
        k = k + 1;
        before = c ∷ before;
        sent = chunk_sent q h came.id (with_record came Nothing) op handle (k + 1) (c ∷ before) f.pad;
        event_is = refl;
        next = refl;
        aim = refl;
        fetching = record {
          under = further more;
          before_are = ap (λ (l : List ChunkMessage). c ∷ l) before_are ∙ ap (chunks_before (transfer_in n) handle w) (sym (add-one k));
        };
      }))

      last_case : (b : Bool) → c.last ≡ b → Leads (or_lost came (cond b (whole_led q h f came op (joined_with before c) (reading_of came (joined_with before c))) (Ok (goes_on Nothing (chunk_sent q h came.id (with_record came Nothing) op c.handle (c.number + 1) (c ∷ before) f.pad)))))
      last_case true is = last_by is
      last_case false is = more_by is

      fault_case : (o : Option ChunkFault) → Leads (or_lost came (chunk_led q h f came op before c o))
      fault_case (Some fault) = inl (quiet_lost came _)
      fault_case None = last_case c.last refl

      chunk_read : reading_of came (chunk_response (transfer_in n) handle w k) ≡ Ok (ChunkResponse c)
      chunk_read = reads_so (ChunkResponse c) len false (fits_chunk MAX_MESSAGE_SIZE (transfer_in n) handle w collects k under.small under.within) (sound_chunk MAX_MESSAGE_SIZE (transfer_in n) handle w collects k)

      pub chunk_leads : came.inner ≡ 5 ∷ chunk_response (transfer_in n) handle w k → Leads (or_lost came (inner_led q h f came ask))
      chunk_leads is = read_as q h f came ask (chunk_response (transfer_in n) handle w k) is Leads lost _ chunk_read (fault_case (get_fault q.max handle k before c))
