-- On LargeResponse in the clear, plain or in the acknowledgement of its last chunk, a requester that awaits the answer
-- and has chunks in common asks for the first chunk.
use Rattle.std.proofs.Common.{◌≡◌, ◌≢◌, ◌≤◌, ◌<◌, ◌+◌, ◌^◌, ◌==◌, ◌&&◌, ◌∙◌, ℕ, List, [], ◌∷◌, refl, sym, ap, subst, drop, length, Bool, true, false, Option, Some, None, Result, Ok, Err, cond, inr, arith, eq-eqb, le-ltb}
use Rattle.std.specs.Result.{result_ok}
use Rattle.std.specs.Prelude.{IfSome, not, nat_lt, slice_index}
use Rattle.std.proofs.lemmas.Bool.{false≢true}
use Rattle.std.proofs.lemmas.Option.{none-some, same_Some}
use Rattle.requester_core.proofs.Carrying.{count_few}
use Rattle.chunking.proofs.ChunkLengths.{chunk_sound}
use Rattle.chunking.specs.Cutting.{chunk_count, nth_chunk}
use Rattle.check_fetched_laws.proofs.LargeHeard.{large_reply}
use Rattle.check_late_laws.proofs.Late.CapsAsked.{AsksIn, AsksSo}
use Rattle.negotiate.specs.declared.shared.Common.{Common}
use Rattle.requester_machine.specs.Answers.{error_led, goes_on, is_refused, may_be_large}
use Rattle.requester_machine.specs.Asking.{Outcome}
use Rattle.requester_machine.specs.Bodies.{body_fault, first_cause, is_clear, is_out_of_place}
use Rattle.requester_machine.specs.ClearAnswers.{ack_carries, ack_tests, acknowledged, carried_by, carried_led, clear_led, has_summary, read_led, reading_of}
use Rattle.requester_machine.specs.ClearAnswers.Carried.{Further, Whole}
use Rattle.requester_machine.specs.Commands.{Free}
use Rattle.requester_machine.specs.Hearing.{clear_outcome, hears, hears_by, hears_to}
use Rattle.requester_machine.specs.History.{History, Led, connection_terms, outstanding, phase_of}
use Rattle.requester_machine.specs.History.Effect.{Nothing, Refuses}
use Rattle.requester_machine.specs.Holds.{Holds, Waits}
use Rattle.requester_machine.specs.Message.{Aim, Content, Sent, body_of}
use Rattle.requester_machine.specs.Message.Aim.{Plain, ByChunks, ForChunk, InSession}
use Rattle.requester_machine.specs.Message.Content.{Clear}
use Rattle.requester_machine.specs.Sending.{get_sent, piece_of, piece_sent}
use Rattle.requester_machine.specs.Setup.{ReqSetup}
use Rattle.requester_machine.specs.Shown.{after}
use Rattle.requester_machine.specs.UnderWay.{HasSizes, IsAwaited, IsOutstanding, IsPiece, is_capable}
use Rattle.responder_machine.proofs.Codes.{sized-code}
use Rattle.responder_machine.specs.Handling as handling
use Rattle.responder_machine.specs.Handling.{chunk_in, large_response}
use Rattle.responder_machine.specs.Refusal.{code_of}
use Rattle.spdm_grammar.proofs.CanonicalRequests.{request_spelled}
use Rattle.spdm_grammar.proofs.CanonicalResponses.{response_spelled}
use Rattle.spdm_grammar.proofs.Spelled.{Spelled, one, two}
use Rattle.spdm_grammar.proofs.Spellings.{spelling_read}
use Rattle.spdm_grammar.specs.ErrorNumber.{error_number}
use Rattle.spdm_grammar.specs.Fields.{FitsChunk}
use Rattle.spdm_grammar.specs.Message.{ChunkMessage, RequestMessage, ResponseMessage}
use Rattle.spdm_grammar.specs.Message.RequestMessage.{GetVersion, GetCapabilities, NegotiateAlgorithms, GetMeasurements, PskExchange, PskFinish, Heartbeat, KeyUpdate, EndSession, ChunkSend, ChunkGet}
use Rattle.spdm_grammar.specs.Message.ResponseMessage.{ChunkSendAck, Error}
use Rattle.spdm_grammar.specs.Requests.{canonical_request, request_in, request_layout}
use Rattle.spdm_grammar.specs.Responses.{canonical_response, chunk_send_ack_layout, response_body, response_layout, response_reading}
use Rattle.spdm_grammar.specs.declared.messages.error_code.ErrorCode.TheVariants.{LargeResponse}
use Rattle.spdm_grammar.specs.declared.told.event.ReqIgnored.{ReqIgnored}
use Rattle.spdm_grammar.specs.declared.told.event.ReqIgnored.TheVariants as ignored
use Rattle.spdm_grammar.specs.declared.messages.malformed.Malformed.{Malformed}
use Rattle.spdm_grammar.specs.declared.names.request_code.TheConstants.{CHUNK_SEND, GET_CAPABILITIES, GET_VERSION}
use Rattle.spdm_grammar.specs.declared.names.response_code.TheConstants.{CHUNK_SEND_ACK}
use Rattle.spdm_grammar.specs.declared.names.spdm_version.TheConstants.{V1_2}
use Rattle.spdm_grammar.specs.declared.told.phase.Phase.{Phase}
use Rattle.spdm_machine.specs.Bodies.{clear_body}
use Rattle.spdm_machine.specs.Terms.{hash_len}
use Rattle.capture_machine.specs.LargeAnswers.{is_fetching, is_for_chunk}
use Rattle.capture_machine.specs.Rounds.{no_draw}

-- ---- Reading.

reads_large : (len handle : ℕ) (summary : Bool) → response_reading len summary (large_response handle) ≡ Ok (Error V1_2 (error_number LargeResponse) 0 (handle ∷ []))
reads_large len handle summary =
    let v : ResponseMessage = Error V1_2 (error_number LargeResponse) 0 (handle ∷ []) in
    spelling_read (response_layout len summary) 0 v (canonical_response v) (response_spelled len summary v (omega arith, omega arith) (inr refl, (λ e. absurd (omega (arith, e)), λ e. refl, omega arith))).is

spells_ack : (len : ℕ) (summary : Bool) (handle number : ℕ) (response : List ℕ) → number < 2 ^ 16
    → Spelled (response_layout len summary) 0 (ChunkSendAck false handle number response) (canonical_response (ChunkSendAck false handle number response))
unfolding response_body chunk_send_ack_layout
spells_ack len summary handle number response few =
    one V1_2 refl (one CHUNK_SEND_ACK refl (one 0 refl (one handle refl (two number few refl (record { is = refl })))))

reads_ack : (len : ℕ) (summary : Bool) (c : ChunkMessage) (response : List ℕ) → c.number < 2 ^ 16 → response_reading len summary (handling.acknowledged c response) ≡ Ok (ChunkSendAck false c.handle c.number response)
reads_ack len summary c response few =
    let v : ResponseMessage = ChunkSendAck false c.handle c.number response in
    spelling_read (response_layout len summary) 0 v (canonical_response v) (spells_ack len summary c.handle c.number response few).is

-- ---- What it leads to.

-- No test of an acknowledgement of the last chunk holds.
acked_none : (a b c e : Bool) (x y z u : ReqIgnored) → a ≡ true → b ≡ true → c ≡ true → first_cause ((not a, x) ∷ (not b, y) ∷ (false, z) ∷ (not c && e, u) ∷ []) ≡ None
acked_none true true true e x y z u i j k = refl
acked_none false b c e x y z u i j k = absurd (false≢true i)
acked_none true false c e x y z u i j k = absurd (false≢true j)
acked_none true true false e x y z u i j k = absurd (false≢true k)

module _ (q : ReqSetup) (h : History) (f : Free) (chunks : (connection_terms h).common.chunk ≡ true) where
  abbrev Asks : Result Led ReqIgnored → Type 0
  Asks (Ok led) = is_fetching led.next ≡ true
  Asks (Err cause) = ⊥

  error_asks : (a : RequestMessage) (handle : ℕ) → may_be_large a ≡ true → Asks (Ok (error_led h a (error_number LargeResponse) (handle ∷ [])))
  error_asks a handle may =
      ap (λ (b : Bool). is_fetching (cond b (goes_on Nothing (get_sent h a handle 0 [])) (is_refused (error_number LargeResponse) (Refuses a))).next) (ap (λ (b : Bool). b && (connection_terms h).common.chunk) may ∙ chunks)

  whole_asks : (at : ℕ) (a : RequestMessage) (handle : ℕ) → may_be_large a ≡ true → Asks (read_led q h f at a (large_response handle) (reading_of h a (large_response handle)))
  whole_asks at a handle may =
      subst (λ (x : Result ResponseMessage Malformed). Asks (read_led q h f at a (large_response handle) x)) (sym (reads_large (hash_len (connection_terms h)) handle (has_summary a)))
      (error_asks a handle may)

  plain_asks : (a : RequestMessage) (handle : ℕ) → may_be_large a ≡ true → Asks (clear_led q h f (Plain a) a (large_response handle))
  unfolding clear_led carried_by
  plain_asks a handle may = whole_asks 0 a handle may

  by_last : (a : RequestMessage) (c : ChunkMessage) (handle : ℕ) (o : Option ReqIgnored) → may_be_large a ≡ true → c.last ≡ true → o ≡ None
      → Asks (carried_led q h f a (acknowledged h (connection_terms h).common a c false (large_response handle) o))
  by_last a c handle (Some cause) may last none = absurd (none-some cause (sym none))
  by_last a c handle None may last none =
      subst (λ (b : Bool). Asks (carried_led q h f a (cond b (Whole (large_response handle) 6) (Further (piece_sent (connection_terms h).common h a c.handle (c.number + 1)))))) (sym last) (whole_asks 6 a handle may)

  acked_asks : (a : RequestMessage) (own number : ℕ) (handle : ℕ) → may_be_large a ≡ true → (piece_of (connection_terms h).common a own number).last ≡ true → number < 2 ^ 16
      → Asks (clear_led q h f (ByChunks a own number) a (handling.acknowledged (piece_of (connection_terms h).common a own number) (large_response handle)))
  unfolding clear_led carried_by
  acked_asks a own number handle may last few =
      let common : Common = (connection_terms h).common in
      let piece : ChunkMessage = piece_of common a own number in
      let reads = reads_ack (hash_len (connection_terms h)) (has_summary a) piece (large_response handle) few in
      subst (λ (x : Result ResponseMessage Malformed). Asks (carried_led q h f a (ack_carries h common a piece x))) (sym reads)
      (by_last a piece handle (first_cause (ack_tests piece false own number (large_response handle))) may last (acked_none (own == own) (number == number) piece.last (not (length (large_response handle) == 0)) (ignored.Malformed 3) (ignored.Malformed 4) (ignored.Malformed 6) (ignored.Malformed 6) (eq-eqb own own refl) (eq-eqb number number refl) last))

-- ---- What is heard.

-- No test of a body holds.
none_holds : (a b c : Bool) (x y z u v w : ReqIgnored) → a ≡ true → b ≡ false → c ≡ false → first_cause ((false, x) ∷ (false, y) ∷ (not a, z) ∷ (false, u) ∷ (b, v) ∷ (c, w) ∷ []) ≡ None
none_holds true false false x y z u v w i j k = refl
none_holds false b c x y z u v w i j k = absurd (false≢true i)
none_holds true true c x y z u v w i j k = absurd (false≢true (sym j))
none_holds true false true x y z u v w i j k = absurd (false≢true (sym k))

module _ (q : ReqSetup) (h : History) (f : Free) (tag : ℕ) (s : Sent) (waits : outstanding h ≡ Some s) (tagged : (s.tag == tag) ≡ true) (m : List ℕ) (small : length m ≤ q.transfer) where
  fault_none : is_out_of_place s.aim (clear_body m) ≡ false → body_fault q (Some s) false tag (clear_body m) ≡ None
  unfolding body_fault
  fault_none there = none_holds (s.tag == tag) (is_out_of_place s.aim (clear_body m)) (nat_lt q.transfer (length m)) ignored.NotResponse ignored.NothingOutstanding ignored.WrongTag ignored.OtherType ignored.WrongPlace ignored.TooLong tagged there (le-ltb q.transfer (length m) small)

  hears_is : is_out_of_place s.aim (clear_body m) ≡ false → hears q h false tag (clear_body m) f no_draw ≡ hears_to q h f tag (clear_body m) no_draw s.aim
  unfolding hears
  hears_is there =
      ap (λ (o : Option Sent). hears_by q h f tag (clear_body m) no_draw o (body_fault q o false tag (clear_body m))) waits
      ∙ ap (hears_by q h f tag (clear_body m) no_draw (Some s)) (fault_none there)

  outcome_asks : (chunks : (connection_terms h).common.chunk ≡ true) (x : Result Led ReqIgnored) → Asks q h f chunks x → is_fetching (outstanding (after h (clear_outcome tag m no_draw x))) ≡ true
  outcome_asks chunks (Ok led) asks = asks
  outcome_asks chunks (Err cause) asks = absurd asks

  abbrev Fetches : Type 0
  Fetches = is_fetching (outstanding (after h (hears q h false tag (clear_body m) f no_draw))) ≡ true

  plain_fetches : (chunks : (connection_terms h).common.chunk ≡ true) (a : RequestMessage) → s.aim ≡ Plain a → Asks q h f chunks (clear_led q h f (Plain a) a m) → Fetches
  plain_fetches chunks a aims asks =
      let there : is_out_of_place s.aim (clear_body m) ≡ false = ap (λ (x : Aim). is_out_of_place x (clear_body m)) aims in
      ap (λ (o : Outcome). is_fetching (outstanding (after h o))) (hears_is there ∙ ap (hears_to q h f tag (clear_body m) no_draw) aims) ∙ outcome_asks chunks (clear_led q h f (Plain a) a m) asks

  chunk_fetches : (chunks : (connection_terms h).common.chunk ≡ true) (a : RequestMessage) (own number : ℕ) → s.aim ≡ ByChunks a own number → Asks q h f chunks (clear_led q h f (ByChunks a own number) a m) → Fetches
  chunk_fetches chunks a own number aims asks =
      let there : is_out_of_place s.aim (clear_body m) ≡ false = ap (λ (x : Aim). is_out_of_place x (clear_body m)) aims in
      ap (λ (o : Outcome). is_fetching (outstanding (after h o))) (hears_is there ∙ ap (hears_to q h f tag (clear_body m) no_draw) aims) ∙ outcome_asks chunks (clear_led q h f (ByChunks a own number) a m) asks

-- ---- What is outstanding.

-- How LargeResponse was given to a message: to its last chunk, if it is one, and to neither GET_VERSION nor GET_CAPABILITIES.
pub record IsGivenLarge (m : List ℕ) (c : Option ChunkMessage) : Type 0 where
  pub len : ℕ
  pub chunk : c ≡ chunk_in (request_in len m)
  pub last : (x : ChunkMessage) → c ≡ Some x → x.last ≡ true
  pub version : code_of m ≢ GET_VERSION
  pub capabilities : code_of m ≢ GET_CAPABILITIES

large_short : (c : Option ChunkMessage) (handle : ℕ) → length (large_reply c handle) ≤ 42
large_short None handle = omega arith
large_short (Some c) handle = omega arith

pub chunk_sent : (o : Option RequestMessage) (c : ChunkMessage) → chunk_in o ≡ Some c → o ≡ Some (ChunkSend c)
chunk_sent None c is = absurd (none-some c is)
chunk_sent (Some (ChunkSend x)) c is = ap (λ (y : ChunkMessage). Some (ChunkSend y)) (same_Some x c is)
chunk_sent (Some GetVersion) c is = absurd (none-some c is)
chunk_sent (Some (GetCapabilities caps)) c is = absurd (none-some c is)
chunk_sent (Some (NegotiateAlgorithms offer)) c is = absurd (none-some c is)
chunk_sent (Some (GetMeasurements op)) c is = absurd (none-some c is)
chunk_sent (Some (PskExchange x)) c is = absurd (none-some c is)
chunk_sent (Some (PskFinish verify)) c is = absurd (none-some c is)
chunk_sent (Some Heartbeat) c is = absurd (none-some c is)
chunk_sent (Some (KeyUpdate op tag)) c is = absurd (none-some c is)
chunk_sent (Some EndSession) c is = absurd (none-some c is)
chunk_sent (Some (ChunkGet handle number)) c is = absurd (none-some c is)

-- A message with another code carries no chunk.
none_carried : (m : List ℕ) (c : Option ChunkMessage) → IsGivenLarge m c → code_of m ≢ CHUNK_SEND → c ≡ None
none_carried m None given other = refl
none_carried m (Some c) given other = absurd (other (sym (sized-code given.len m (ChunkSend c) (chunk_sent (request_in given.len m) c (sym given.chunk)))))

large_fits : (b : Bool) (n : ℕ) → n < 2 ^ 32 → IfSome (cond b (Some n) None) (λ m. m < 2 ^ 32)
large_fits true n small = small
large_fits false n small = tt

-- One chunk is read as it was sent.
pub piece_read : (len transfer handle number : ℕ) (whole : List ℕ) → handle < 256 → number < 2 ^ 16 → length whole ≤ 4096 → transfer < 2 ^ 32
    → chunk_in (request_in len (canonical_request (ChunkSend (nth_chunk transfer handle whole number)))) ≡ Some (nth_chunk transfer handle whole number)
piece_read len transfer handle number whole byte few short most =
    let c : ChunkMessage = nth_chunk transfer handle whole number in
    let x : RequestMessage = ChunkSend c in
    let fits : FitsChunk c = record { handle = byte; number = few; large = large_fits (number == 0) (length whole) (omega (arith, short)) } in
    ap chunk_in (ap result_ok (spelling_read (request_layout len) 0 x (canonical_request x) (request_spelled len x fits (chunk_sound transfer handle whole number most)).is))

module _ (q : ReqSetup) (h : History) (f : Free) (tag : ℕ) (s : Sent) (holds : Holds q h) (sizes : HasSizes q) (waits : outstanding h ≡ Some s) (tagged : (s.tag == tag) ≡ true) (so : AsksSo (is_capable (phase_of h)) s)
    (m : List ℕ) (sent : body_of s.content ≡ clear_body m) (c : Option ChunkMessage) (given : IsGivenLarge m c) (handle : ℕ)
    (knows : is_capable (phase_of h) ≡ true → (connection_terms h).common.chunk ≡ true) (none : is_fetching (outstanding h) ≡ false) where
  own : IsOutstanding q h s.content s.aim
  own = subst (Waits q h) waits holds.waits

  abbrev reply : List ℕ
  reply = large_reply c handle

  abbrev Fetched : Type 0
  Fetched = is_fetching (outstanding (after h (hears q h false tag (clear_body (large_reply c handle)) f no_draw))) ≡ true

  fits_in : is_capable (phase_of h) ≡ true → length reply ≤ q.transfer
  fits_in known = (let common = holds.known sizes known in let low = common.least in let short = large_short c handle in omega (arith, low, short))

  spelled : (x : List ℕ) → s.content ≡ Clear x → m ≡ x
  spelled x is = ap (drop 1) (sym sent ∙ ap body_of is)

  -- The request is whole in the message.
  whole_fetches : (a : RequestMessage) → s.aim ≡ Plain a → may_be_large a ≡ true → is_capable (phase_of h) ≡ true → s.content ≡ Clear (canonical_request a) → code_of (canonical_request a) ≢ CHUNK_SEND → Fetched
  whole_fetches a aims may known is other =
      let none_in : c ≡ None = none_carried m c given (λ code. other (ap code_of (sym (spelled (canonical_request a) is)) ∙ code)) in
      let chunks = knows known in
      plain_fetches q h f tag s waits tagged reply (fits_in known) chunks a aims
      (subst (λ (o : Option ChunkMessage). Asks q h f chunks (clear_led q h f (Plain a) a (large_reply o handle))) (sym none_in) (plain_asks q h f chunks a handle may))

  plain_asked : (a : RequestMessage) → s.aim ≡ Plain a → IsAwaited q h a → s.content ≡ Clear (canonical_request a) → Fetched
  plain_asked GetVersion aims awaited is = absurd (given.version (ap code_of (spelled (canonical_request GetVersion) is)))
  plain_asked (GetCapabilities caps) aims awaited is = absurd (given.capabilities (ap code_of (spelled (canonical_request (GetCapabilities caps)) is)))
  plain_asked (NegotiateAlgorithms offer) aims awaited is = whole_fetches (NegotiateAlgorithms offer) aims refl (ap is_capable awaited.0) is (λ code. absurd (omega (arith, code)))
  plain_asked (GetMeasurements op) aims awaited is = whole_fetches (GetMeasurements op) aims refl (ap is_capable awaited) is (λ code. absurd (omega (arith, code)))
  plain_asked (PskExchange x) aims awaited is = whole_fetches (PskExchange x) aims refl (ap is_capable awaited.0) is (λ code. absurd (omega (arith, code)))
  plain_asked (PskFinish verify) aims awaited is = absurd awaited
  plain_asked Heartbeat aims awaited is = absurd awaited
  plain_asked (KeyUpdate op n) aims awaited is = absurd awaited
  plain_asked EndSession aims awaited is = absurd awaited
  plain_asked (ChunkSend x) aims awaited is = absurd awaited
  plain_asked (ChunkGet n k) aims awaited is = absurd awaited

  -- It is in the chunk that was sent last.
  piece_fetches : (a : RequestMessage) (at number : ℕ) → s.aim ≡ ByChunks a at number → may_be_large a ≡ true → is_capable (phase_of h) ≡ true → IsPiece (connection_terms h).common a at number s.content → Fetched
  piece_fetches a at number aims may known piece =
      let common : Common = (connection_terms h).common in
      let sized = holds.known sizes known in
      let short : length (canonical_request a) ≤ 4096 = (let x = piece.short in let y = sized.their_most in omega (arith, x, y)) in
      let few : number < 2 ^ 16 = (let x = piece.within in let y = count_few common.to_responder.transfer (canonical_request a) short in omega (arith, x, y)) in
      let most : common.to_responder.transfer < 2 ^ 32 = (let x = sized.their_ordered in let y = sized.their_most in omega (arith, x, y)) in
      let p : ChunkMessage = piece_of common a at number in
      let read : c ≡ Some p =
      given.chunk ∙ ap (λ (l : List ℕ). chunk_in (request_in given.len l)) (spelled (canonical_request (ChunkSend p)) piece.is) ∙ piece_read given.len common.to_responder.transfer at number (canonical_request a) piece.one_byte few short most in
      let chunks = knows known in
      chunk_fetches q h f tag s waits tagged reply (fits_in known) chunks a at number aims
      (subst (λ (o : Option ChunkMessage). Asks q h f chunks (clear_led q h f (ByChunks a at number) a (large_reply o handle))) (sym read) (acked_asks q h f chunks a at number handle may (given.last p read) few))

  chunk_asked : (a : RequestMessage) (at number : ℕ) → s.aim ≡ ByChunks a at number → AsksIn (is_capable (phase_of h)) (ByChunks a at number) → IsAwaited q h a → IsPiece (connection_terms h).common a at number s.content → Fetched
  chunk_asked GetVersion at number aims asks awaited piece = absurd (false≢true asks.1)
  chunk_asked (GetCapabilities caps) at number aims asks awaited piece = absurd (false≢true asks)
  chunk_asked (NegotiateAlgorithms offer) at number aims asks awaited piece = piece_fetches (NegotiateAlgorithms offer) at number aims refl (ap is_capable awaited.0) piece
  chunk_asked (GetMeasurements op) at number aims asks awaited piece = piece_fetches (GetMeasurements op) at number aims refl (ap is_capable awaited) piece
  chunk_asked (PskExchange x) at number aims asks awaited piece = piece_fetches (PskExchange x) at number aims refl (ap is_capable awaited.0) piece
  chunk_asked (PskFinish verify) at number aims asks awaited piece = absurd awaited
  chunk_asked Heartbeat at number aims asks awaited piece = absurd awaited
  chunk_asked (KeyUpdate op n) at number aims asks awaited piece = absurd awaited
  chunk_asked EndSession at number aims asks awaited piece = absurd awaited
  chunk_asked (ChunkSend x) at number aims asks awaited piece = absurd awaited
  chunk_asked (ChunkGet n k) at number aims asks awaited piece = absurd awaited

  by_aim : (aim : Aim) → s.aim ≡ aim → Fetched
  by_aim (Plain a) aims = let is = subst (IsOutstanding q h s.content) aims own in plain_asked a aims is.0 is.1
  by_aim (ByChunks a at number) aims =
      let is = subst (IsOutstanding q h s.content) aims own in chunk_asked a at number aims (subst (AsksIn (is_capable (phase_of h))) aims so.asks) is.0 (is.1 sizes)
  by_aim (ForChunk a at number before) aims = absurd (false≢true (sym none ∙ ap is_fetching waits ∙ ap is_for_chunk aims))
  by_aim (InSession id ask) aims =
      let is = subst (IsOutstanding q h s.content) aims own in
      absurd (let x : slice_index (clear_body m) 0 ≡ 6 = ap (λ (l : List ℕ). slice_index l 0) (sym sent ∙ ap body_of is.0.content_is) in omega (arith, x))

  pub asks_first : is_fetching (outstanding (after h (hears q h false tag (clear_body (large_reply c handle)) f no_draw))) ≡ true
  asks_first = by_aim s.aim refl
