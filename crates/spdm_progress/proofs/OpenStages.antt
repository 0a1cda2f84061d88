-- An open begins: what holds of the two ends while PSK_EXCHANGE, its answer or a chunk of it is on its way.
use Rattle.std.proofs.Common.{◌≡◌, ◌≢◌, ◌⊎◌, ◌∙◌, ℕ, suc, nat_lt, ◌<◌, ◌≤◌, ◌+◌, ◌-◌, ◌^◌, ◌==◌, ◌&&◌, List, [], ◌∷◌, ◌++◌, length, Bool, true, false, not, Option, Some, None, Ok, refl, sym, ap, ap₂, subst, inl, inr, arith, eq-eqb}
use Rattle.std.specs.Prelude.{bytes_eq, if◌then◌else◌}
use Rattle.std.proofs.lemmas.Bool.{ne_eqb}
use Rattle.std.specs.Int.{div_ceil}
use Rattle.chunking.specs.Cutting.{chunk_count, chunks_before, nth_chunk}
use Rattle.key_schedule.specs.declared.direction.Direction.TheVariants as direction
use Rattle.requester_machine.specs.Answers.{goes_on}
use Rattle.requester_machine.specs.Asking.Outcome.{Adds}
use Rattle.requester_machine.specs.ClearAnswers.{carried_by, clear_led, read_led, reading_of}
use Rattle.requester_machine.specs.Commands.{Free as AskerFree, exchange_for}
use Rattle.requester_machine.specs.Does.{body_chosen, command_chosen, requester_asks, requester_hears}
use Rattle.requester_machine.specs.Hearing.{clear_outcome}
use Rattle.requester_machine.specs.History as asked
use Rattle.requester_machine.specs.History.{Led, outstanding}
use Rattle.requester_machine.specs.History.Effect.{Answers, Nothing}
use Rattle.requester_machine.specs.History.Entry.{Told, TookClear}
use Rattle.requester_machine.specs.Message.{Sent, asked_in}
use Rattle.requester_machine.specs.Message.Aim.{Plain}
use Rattle.requester_machine.specs.Message.Command.{Open}
use Rattle.requester_machine.specs.Message.Content.{Clear as ClearContent}
use Rattle.requester_machine.specs.Sending.{get_sent, piece_sent, plain_sent, request_sent}
use Rattle.requester_machine.specs.Session as steps
use Rattle.requester_machine.specs.Session.{Steps}
use Rattle.requester_machine.specs.Session.Step.{Accepted, Asked, Started}
use Rattle.requester_machine.specs.Setup.{ReqSetup}
use Rattle.responder_machine.specs.Does.{chosen as chosen_there, clear_chosen}
use Rattle.responder_machine.specs.History as served
use Rattle.responder_machine.specs.History.Entry.{Clear}
use Rattle.responder_machine.specs.Place.{free_id, held_of, is_held}
use Rattle.responder_machine.specs.Session as events
use Rattle.responder_machine.specs.Session.{Events}
use Rattle.responder_machine.specs.Session.Event.{Began}
use Rattle.responder_machine.specs.Setup.{RspSetup}
use Rattle.running_hash.specs.Hash.{hash_of}
use Rattle.spdm_agreement.specs.Configured.{IsRequester, IsResponder}
use Rattle.spdm_basis.specs.Sizes.{hash_size}
use Rattle.spdm_grammar.specs.declared.names.TheConstants.{MAX_MESSAGE_SIZE}
use Rattle.spdm_grammar.specs.Message.{ChunkMessage, ExchangeMessage, ExchangeRspMessage, RequestMessage}
use Rattle.spdm_grammar.specs.Message.RequestMessage.{PskExchange}
use Rattle.spdm_grammar.specs.Message.ResponseMessage.{PskExchangeRsp}
use Rattle.spdm_grammar.specs.Requests.{canonical_request}
use Rattle.spdm_grammar.specs.Responses.{response_reading}
use Rattle.spdm_grammar.specs.declared.told.phase.Phase.TheVariants.{Negotiated}
use Rattle.spdm_machine.specs.Bodies.{clear_body}
use Rattle.spdm_machine.specs.Keys.{Draw, context_of, verify_data}
use Rattle.spdm_machine.specs.Sessions.{id_in_exchange, is_past_handshake}
use Rattle.spdm_machine.specs.TagLog.{Log}
use Rattle.spdm_machine.specs.Terms.{Terms, terms_of}
use Rattle.transcript.specs.Transcripts.{Negotiation, vca_of, without_verify}
use Rattle.spdm_progress.specs.InStep.{AreInStep, AreQuiet, AreResting, rsp_id}
use Rattle.spdm_progress.specs.Opening.{exchange_rsp_size}
use Rattle.spdm_progress.proofs.AtRequester.{asking}
use Rattle.spdm_progress.proofs.ClearSend.{AreHeld, CanSend, ack_of, few_bytes as piece_bytes, send_chunk, sending, transfer_there}
use Rattle.spdm_progress.proofs.ClearFetch.{CanFetchIn, IsPending, chunk_is_few, chunk_response, fetching, get_chunk, transfer_in}
use Rattle.spdm_progress.proofs.LargeMeasure.{last_on}
use Rattle.spdm_progress.proofs.ExchangeStages.{IsExchange, exchange_bytes, exchange_length, hash_few}
use Rattle.spdm_progress.proofs.FinishRound.{finish_asking}
use Rattle.spdm_progress.proofs.FirstAgain.{IsKeptRight, right_still}
use Rattle.spdm_progress.proofs.ManyPackets.{clear_is_body}
use Rattle.spdm_progress.proofs.PacketSteps.{Pair}
use Rattle.spdm_progress.proofs.RecordRounds.{Beside, last_waited, quiet_still, resting_past}
use Rattle.spdm_progress.proofs.RequesterStages.{next_small}
use Rattle.spdm_progress.proofs.ResponderStages.{LastTook}
use Rattle.spdm_progress.proofs.SessionRounds.{still_beside}
use Rattle.spdm_progress.proofs.StillKept.{AreAlike, IsSameSession}
use Rattle.spdm_progress.proofs.AlikeSessions.{still_in_step}
use Rattle.spdm_progress.proofs.Talk.{IsSendable}

-- ---- Ids of the responder.

pub same_held : (old new : Events) → IsSameSession old new → (events.is_live new && is_past_handshake (events.stage_of new)) ≡ (events.is_live old && is_past_handshake (events.stage_of old))
same_held old new (inl same) = ap (λ (e : Events). events.is_live e && is_past_handshake (events.stage_of e)) same
same_held old new (inr x) = ap (λ (e : Events). events.is_live e && is_past_handshake (events.stage_of e)) x.2 ∙ ap (λ (b : Bool). b && is_past_handshake (events.stage_of old)) (sym x.1)

-- Queued data and time leave which ids are held.
module _ (r : RspSetup) (g later : served.History) (alike : AreAlike r g later) where
  pub held_still : (id : ℕ) → is_held later id ≡ is_held g id
  held_still id = same_held (events.session_of id g) (events.session_of id later) (alike.sessions id)

  pub free_still : free_id later ≡ free_id g
  free_still = rw (held_still 1, held_still 2, held_still 3) refl

  pub count_still : held_of later ≡ held_of g
  count_still = rw (held_still 1, held_still 2, held_still 3, held_still 4) refl

-- A session that rests is held.
pub resting_held : (psk : List ℕ) (log : Log) (s : Steps) (g : served.History) → AreResting psk log s (events.session_of (rsp_id s) g) → is_held g (rsp_id s) ≡ true
resting_held psk log s g k = ap₂ (λ (a b : Bool). a && b) k.in_step.live (resting_past psk log s (events.session_of (rsp_id s) g) k)

pub same_context : (x y : ExchangeMessage) → PskExchange x ≡ PskExchange y → x.context ≡ y.context
same_context x y e = ap context_in e
  where
    context_in : RequestMessage → List ℕ
    context_in (PskExchange z) = z.context
    context_in _ = []

pub own_handle : (r : RspSetup) (g : served.History) (d : Draw) → (clear_chosen r g d).handle < 256
unfolding chosen_there
own_handle r g d = omega arith

-- A whole answer that came as it is.
pub plainly : (q : ReqSetup) (h : asked.History) (f : AskerFree) (v : RequestMessage) (m : List ℕ) → clear_led q h f (Plain v) v m ≡ read_led q h f 0 v m (reading_of h v m)
unfolding clear_led carried_by
plainly q h f v m = refl

-- ---- What an open begins with.

-- The answer, with so many bytes round it, fits one message.
pub record GoesWhole (round : ℕ) (q : ReqSetup) (n : Negotiation) (size : ℕ) : Type 0 where
  pub fits : round + size ≤ (terms_of n).common.to_requester.transfer
  pub own : round + size ≤ q.transfer

-- It goes whole, or in chunks.
abbrev pub AnswerGoes : (round : ℕ) → ReqSetup → RspSetup → Negotiation → (size : ℕ) → Type 0
AnswerGoes round q r n size = GoesWhole round q n size ⊎ CanFetchIn round q r size n

-- PSK_EXCHANGE goes whole, or in chunks; its answer goes with nothing or with 6 bytes round it.
pub record SendsWhole (q : ReqSetup) (r : RspSetup) (n : Negotiation) (v : RequestMessage) (size : ℕ) : Type 0 where
  pub request_fits : length (canonical_request v) ≤ r.transfer
  pub whole : nat_lt (transfer_there n) (length (canonical_request v)) ≡ false
  pub answer : AnswerGoes 0 q r n size

pub record SendsChunks (q : ReqSetup) (r : RspSetup) (n : Negotiation) (v : RequestMessage) (size : ℕ) : Type 0 where
  pub send : CanSend q r (canonical_request v) n
  pub split : nat_lt (transfer_there n) (length (canonical_request v)) ≡ true
  pub answer_max : size ≤ (terms_of n).common.to_requester.max
  pub answer : AnswerGoes 6 q r n size

abbrev pub Way : ReqSetup → RspSetup → Negotiation → RequestMessage → (size : ℕ) → Type 0
Way q r n v size = SendsWhole q r n v size ⊎ SendsChunks q r n v size

-- What the command sends.
abbrev pub exchange_sent : asked.History → ExchangeMessage → Sent
exchange_sent h x = request_sent (asked.connection_terms h).common h (PskExchange x)

-- A requester that was told to open, with this history and this draw.
pub record CanExchange (q : ReqSetup) (r : RspSetup) (first summary : ℕ) (h : asked.History) (d : Draw) (x : ExchangeMessage) : Type 0 where
  pub is_x : exchange_for q (command_chosen q h d) summary ≡ PskExchange x
  pub phase : asked.phase_of h ≡ Negotiated
  pub sound : IsExchange (asked.connection_terms h).choice.hash x
  pub measures : (not (x.summary == 0) && not (asked.connection_terms h).choice.measure) ≡ false
  pub hint : x.hint ≡ r.hint
  pub way : Way q r (asked.negotiation_of h) (PskExchange x) (exchange_rsp_size r (asked.connection_terms h) x.summary)
  pub finish_fits : 4 + hash_size (asked.connection_terms h).choice.hash ≤ r.transfer
  pub asks : requester_asks false q h (Open summary) d ≡ Adds (Told (Open summary) (exchange_sent h x) d)
  pub free : steps.is_live (steps.session_of x.req_id h) ≡ false
  pub context : x.context ≡ context_of (asked.connection_terms h).choice.hash d
  pub drawn : length d.bytes ≡ 32
  pub number : d.number ≡ first + asked.draws_of q h
  pub small : d.number < 2 ^ 64

module _ (p : Pair) (same_key : p.requester.psk ≡ p.responder.psk) (asker : IsRequester p.requester) (server : IsResponder p.responder) (summary : ℕ) (h0 : asked.History) (d0 : Draw) (x : ExchangeMessage) (rid : ℕ) (can : CanExchange p.requester p.responder p.first summary h0 d0 x) where
  abbrev pub q : ReqSetup
  q = p.requester

  abbrev pub r : RspSetup
  r = p.responder

  abbrev pub first : ℕ
  first = p.first

  abbrev pub id : ℕ
  id = x.req_id

  abbrev pub m : List ℕ
  m = exchange_bytes x

  abbrev pub n : Negotiation
  n = asked.negotiation_of h0

  abbrev pub terms : Terms
  terms = asked.connection_terms h0

  -- The history after the command.
  abbrev pub h1 : asked.History
  h1 = Told (Open summary) (exchange_sent h0 x) d0 ∷ h0

  asks_exchange : (b : Bool) → asked_in (if b then piece_sent terms.common h0 (PskExchange x) (asked.next_handle h0) 0 else plain_sent h0 (PskExchange x)).aim ≡ Some (PskExchange x)
  asks_exchange true = refl
  asks_exchange false = refl

  is_asked : asked_in (exchange_sent h0 x).aim ≡ Some (PskExchange x)
  is_asked = asks_exchange (nat_lt (transfer_there n) (length m))

  pub begun_here : steps.session_of id h1 ≡ Started n m ∷ []
  unfolding steps.session_of
  begun_here =
      ap (λ (o : Option RequestMessage). steps.begun id n o (steps.session_of id h0)) is_asked
      ∙ ap (λ (b : Bool). if b then Started n m ∷ [] else steps.session_of id h0) (eq-eqb id id refl)

  pub others_same : (j : ℕ) → j ≢ id → steps.session_of j h1 ≡ steps.session_of j h0
  unfolding steps.session_of
  others_same j other =
      ap (λ (o : Option RequestMessage). steps.begun j n o (steps.session_of j h0)) is_asked
      ∙ ap (λ (b : Bool). if b then Started n m ∷ [] else steps.session_of j h0) (ne_eqb id j (λ same. other (sym same)))

  -- What is outstanding, whole or the first chunk.
  pub sent_plain : nat_lt (transfer_there n) (length m) ≡ false → exchange_sent h0 x ≡ plain_sent h0 (PskExchange x)
  sent_plain whole = ap (λ (b : Bool). if b then piece_sent terms.common h0 (PskExchange x) (asked.next_handle h0) 0 else plain_sent h0 (PskExchange x)) whole

  pub sent_whole : (tag : ℕ) → nat_lt (transfer_there n) (length m) ≡ false → tag ≡ asked.next_tag h0 → outstanding h1 ≡ Some (asking tag (ClearContent m) (PskExchange x))
  sent_whole tag whole tag_is =
      ap (λ (s : Sent). let o : Option Sent = Some s in o) (sent_plain whole)
      ∙ ap (λ (t : ℕ). let o : Option Sent = Some (asking t (ClearContent m) (PskExchange x)) in o) (sym tag_is)

  pub sent_first : nat_lt (transfer_there n) (length m) ≡ true → exchange_sent h0 x ≡ piece_sent terms.common h0 (PskExchange x) (asked.next_handle h0) 0
  sent_first split = ap (λ (b : Bool). if b then piece_sent terms.common h0 (PskExchange x) (asked.next_handle h0) 0 else plain_sent h0 (PskExchange x)) split

  pub outstanding_first : nat_lt (transfer_there n) (length m) ≡ true → outstanding h1 ≡ Some (sending (PskExchange x) (exchange_sent h0 x).tag (asked.next_handle h0) 0 (nth_chunk (transfer_there n) (asked.next_handle h0) m 0))
  outstanding_first split =
      ap (λ (s : Sent). let o : Option Sent = Some s in o) (sent_first split)
      ∙ ap (λ (t : ℕ). let o : Option Sent = Some (sending (PskExchange x) t (asked.next_handle h0) 0 (nth_chunk (transfer_there n) (asked.next_handle h0) m 0)) in o) (sym (ap (λ (s : Sent). s.tag) (sent_first split)))

  -- ---- The stages.

  abbrev pub size : ℕ
  size = exchange_rsp_size r terms x.summary

  abbrev pub transfer : ℕ
  transfer = transfer_in n

  -- How many chunks the answer has, where it is sent in chunks.
  abbrev pub count : ℕ
  count = div_ceil (size + 4) (transfer - 12)

  -- How many chunks the request has, where it is sent in chunks, and one of them.
  abbrev pub pieces : ℕ
  pieces = chunk_count (transfer_there n) m

  abbrev pub piece : (handle j : ℕ) → ChunkMessage
  piece handle j = nth_chunk (transfer_there n) handle m j

  abbrev pub OfWay : Type 0
  OfWay = Way q r n (PskExchange x) size

  -- How many chunks of the answer are asked for.
  abbrev pub gets_in : {round : ℕ} → AnswerGoes round q r n size → ℕ
  gets_in (inl whole) = 0
  gets_in (inr fetch) = count

  abbrev pub gets_of : OfWay → ℕ
  gets_of (inl whole) = gets_in whole.answer
  gets_of (inr chunks) = gets_in chunks.answer

  -- How many rounds there are before those.
  abbrev pub sends_of : OfWay → ℕ
  sends_of (inl whole) = 1
  sends_of (inr chunks) = pieces

  -- How many rounds follow the first.
  abbrev pub rounds_of : OfWay → ℕ
  rounds_of way = gets_of way + sends_of way

  -- The requester, since the command: the session was begun, and nothing was settled anew.
  pub record Since (h : asked.History) : Type 0 where
    pub phase : asked.phase_of h ≡ Negotiated
    pub negotiation : asked.negotiation_of h ≡ n
    pub begun : steps.session_of id h ≡ Started n m ∷ []

  -- The responder holds no session of this command yet.
  pub record IsReady (log : Log) (h : asked.History) (g : served.History) : Type 0 where
    pub since : Since h
    pub beside : Beside q r first id rid log h g
    pub id_is : free_id g ≡ rid
    pub limit : (held_of g == 4) ≡ false

  -- The responder took PSK_EXCHANGE, and made this answer.
  pub record IsMadeThere (reply : List ℕ) (log : Log) (h : asked.History) (g : served.History) : Type 0 where
    pub since : Since h
    pub value : ExchangeRspMessage
    pub reads : response_reading (hash_size terms.choice.hash) (not (x.summary == 0)) reply ≡ Ok (PskExchangeRsp value)
    pub verify : value.verify ≡ verify_data terms.choice q.psk (vca_of n ++ m ++ without_verify (hash_of terms.choice.hash) reply) direction.Response (vca_of n ++ m ++ without_verify (hash_of terms.choice.hash) reply)
    pub id_told : id_in_exchange reply ≡ rid
    pub small : rid ≤ 4
    pub in_step : AreInStep (Accepted reply ∷ Started n m ∷ []) (events.session_of rid g)
    pub last : events.last_of (events.session_of rid g) ≡ None
    pub beside : Beside q r first id rid log h g

  -- PSK_EXCHANGE is on its way, whole.
  pub record OpenAsked (more tag : ℕ) (body : List ℕ) (log : Log) (h : asked.History) (g : served.History) : Type 0 where
    pub way : SendsWhole q r n (PskExchange x) size
    pub way_is : can.way ≡ inl way
    pub more_is : more ≡ gets_in way.answer + 1
    pub h_is : h ≡ h1
    pub tag_is : tag ≡ asked.next_tag h0
    pub body_is : body ≡ clear_body m
    pub quiet : AreQuiet q r first log h0 g
    pub id_is : free_id g ≡ rid
    pub limit : (held_of g == 4) ≡ false

  -- CHUNK_SEND with one of its chunks is on its way, and the acknowledgement of one that is not the last on its way back.
  pub record PieceAsked (more tag : ℕ) (body : List ℕ) (log : Log) (h : asked.History) (g : served.History) : Type 0 where
    pub way : SendsChunks q r n (PskExchange x) size
    pub way_is : can.way ≡ inr way
    pub handle : ℕ
    pub handle_small : handle < 256
    pub j : ℕ
    pub left : more + j ≡ gets_in way.answer + pieces
    pub within : j < pieces
    pub low : tag < 8
    pub waits : outstanding h ≡ Some (sending (PskExchange x) tag handle j (piece handle j))
    pub body_is : body ≡ clear_body (send_chunk (piece handle j))
    pub ready : IsReady log h g
    pub kept : IsKeptRight q r (PskExchange x) n way.send handle handle_small j g
    pub held : AreHeld q r (PskExchange x) n way.send handle handle_small j (served.clear_turns g)

  pub record PieceAnswered (more tag : ℕ) (body : List ℕ) (log : Log) (h : asked.History) (g : served.History) : Type 0 where
    pub way : SendsChunks q r n (PskExchange x) size
    pub way_is : can.way ≡ inr way
    pub handle : ℕ
    pub handle_small : handle < 256
    pub j : ℕ
    pub left : more + j ≡ gets_in way.answer + pieces
    pub within : j < pieces
    pub again : (j + 1 == pieces) ≡ false
    pub low : tag < 8
    pub waits : outstanding h ≡ Some (sending (PskExchange x) tag handle j (piece handle j))
    pub body_is : body ≡ clear_body (ack_of (piece handle j) [])
    pub ready : IsReady log h g
    pub kept : IsKeptRight q r (PskExchange x) n way.send handle handle_small (suc j) g
    pub held : AreHeld q r (PskExchange x) n way.send handle handle_small (suc j) (served.clear_turns g)

  -- Its answer is on its way, whole in this message or with the last chunk in it.
  pub record OpenAnswered (more tag : ℕ) (body : List ℕ) (log : Log) (h : asked.History) (g : served.History) : Type 0 where
    pub more_is : more ≡ 1
    pub low : tag < 8
    pub reply : List ℕ
    pub made : IsMadeThere reply log h g
    pub message : List ℕ
    pub body_is : body ≡ clear_body message
    pub few : length message ≤ q.transfer
    pub at : ℕ
    pub carries : (d : Draw) → requester_hears q h false tag (clear_body message) d ≡ clear_outcome tag message d (read_led q h (body_chosen q h d) at (PskExchange x) reply (reading_of h (PskExchange x) reply))

  -- A message with LargeResponse in it is on its way.
  pub record LargeTold (more tag : ℕ) (body : List ℕ) (log : Log) (h : asked.History) (g : served.History) : Type 0 where
    pub round : ℕ
    pub fetch : CanFetchIn round q r size n
    pub gets_are : gets_of can.way ≡ count
    pub more_is : more ≡ suc count
    pub low : tag < 8
    pub reply : List ℕ
    pub long : length reply ≡ size
    pub handle : ℕ
    pub handle_small : handle < 256
    pub message : List ℕ
    pub short : length message ≤ 63
    pub body_is : body ≡ clear_body message
    pub carries : (d : Draw) → requester_hears q h false tag (clear_body message) d ≡ Adds (TookClear tag message (goes_on Nothing (get_sent h (PskExchange x) handle 0 [])) d)
    pub made : IsMadeThere reply log h g
    pub pending : IsPending reply handle 0 (served.clear_turns g)
    pub last : List ℕ
    pub other : bytes_eq last (get_chunk handle 0) ≡ false
    pub took : LastTook last g

  -- CHUNK_GET for one of the chunks is on its way, and one that is not the last on its way back.
  pub record ChunkAsked (more tag : ℕ) (body : List ℕ) (log : Log) (h : asked.History) (g : served.History) : Type 0 where
    pub round : ℕ
    pub fetch : CanFetchIn round q r size n
    pub gets_are : gets_of can.way ≡ count
    pub k : ℕ
    pub left : more + k ≡ count
    pub some : 1 ≤ more
    pub reply : List ℕ
    pub long : length reply ≡ size
    pub handle : ℕ
    pub handle_small : handle < 256
    pub low : tag < 8
    pub waits : outstanding h ≡ Some (fetching (PskExchange x) tag handle k (chunks_before transfer handle reply k))
    pub body_is : body ≡ clear_body (get_chunk handle k)
    pub made : IsMadeThere reply log h g
    pub pending : IsPending reply handle k (served.clear_turns g)
    pub last : List ℕ
    pub other : bytes_eq last (get_chunk handle k) ≡ false
    pub took : LastTook last g

  pub record ChunkAnswered (more tag : ℕ) (body : List ℕ) (log : Log) (h : asked.History) (g : served.History) : Type 0 where
    pub round : ℕ
    pub fetch : CanFetchIn round q r size n
    pub gets_are : gets_of can.way ≡ count
    pub k : ℕ
    pub left : more + k ≡ count
    pub again : (k + 1 == count) ≡ false
    pub some : 1 ≤ more
    pub reply : List ℕ
    pub long : length reply ≡ size
    pub handle : ℕ
    pub handle_small : handle < 256
    pub low : tag < 8
    pub waits : outstanding h ≡ Some (fetching (PskExchange x) tag handle k (chunks_before transfer handle reply k))
    pub body_is : body ≡ clear_body (chunk_response transfer handle reply k)
    pub made : IsMadeThere reply log h g
    pub pending : IsPending reply handle (k + 1) (served.clear_turns g)
    pub took : LastTook (get_chunk handle k) g

  pub exchange_most : length m ≤ 1215
  exchange_most =
      let hint = can.sound.hint in
      let opaque = can.sound.opaque in
      let few = hash_few terms.choice.hash in
      omega (arith, exchange_length x, can.sound.context, few.1, hint, opaque)

  pub sendable : (tag : ℕ) (message body : List ℕ) → tag < 8 → length message < 4161 → body ≡ clear_body message → IsSendable tag body
  sendable tag message body low short is = subst (IsSendable tag) (sym is) (record { small = low; whole = clear_is_body message short; typed = refl })

  pub first_tag : (tag : ℕ) → tag ≡ asked.next_tag h0 → tag < 8
  first_tag tag is = subst (λ (t : ℕ). t < 8) (sym is) (next_small h0)

  pub within : (more k : ℕ) (reply : List ℕ) → length reply ≡ size → more + k ≡ count → 1 ≤ more → k < chunk_count transfer reply
  within more k reply long left some = subst (λ (z : ℕ). k < z) (ap (λ (z : ℕ). div_ceil (z + 4) (transfer - 12)) (sym long)) (omega (arith, left, some))

  pub few_bytes : {round : ℕ} (more k handle : ℕ) (reply : List ℕ) → CanFetchIn round q r size n → length reply ≡ size → handle < 256 → more + k ≡ count → 1 ≤ more → length (chunk_response transfer handle reply k) ≤ q.transfer
  few_bytes more k handle reply fetch long small left some =
      (let few = chunk_is_few q r size n fetch reply long handle k small (within more k reply long left some) in let is = fetch.transfer in omega (arith, few, is))

  pub few_piece : (way : SendsChunks q r n (PskExchange x) size) (handle : ℕ) → handle < 256 → (j : ℕ) → length (send_chunk (piece handle j)) ≤ r.transfer
  few_piece way handle small j = piece_bytes q r (PskExchange x) n way.send handle small j

  pub own_most : q.transfer ≤ MAX_MESSAGE_SIZE
  own_most = (let most = asker.sizes.most in let ordered = asker.sizes.ordered in omega arith)

  pub their_most : r.transfer ≤ MAX_MESSAGE_SIZE
  their_most = (let most = server.sizes.most in let ordered = server.sizes.ordered in omega arith)

  -- ---- Queued data and time.

  pub ready_still : (log : Log) (h : asked.History) (g later : served.History) → AreAlike r g later → IsReady log h g → IsReady log h later
  ready_still log h g later alike y = record {
    since = y.since;
    beside = still_beside q r first id (finish_asking q.psk) log h g later rid alike y.beside;
    id_is = free_still r g later alike ∙ y.id_is;
    limit = ap (λ (k : ℕ). k == 4) (count_still r g later alike) ∙ y.limit;
  }

  pub made_still : (reply : List ℕ) (log : Log) (h : asked.History) (g later : served.History) → AreAlike r g later → IsMadeThere reply log h g → IsMadeThere reply log h later
  made_still reply log h g later alike y = record {
    since = y.since;
    value = y.value;
    reads = y.reads;
    verify = y.verify;
    id_told = y.id_told;
    small = y.small;
    in_step = still_in_step _ _ _ (alike.sessions rid) y.in_step;
    last = last_waited _ _ (alike.sessions rid) ∙ y.last;
    beside = still_beside q r first id (finish_asking q.psk) log h g later rid alike y.beside;
  }

  pub asked_still : (more tag : ℕ) (body : List ℕ) (log : Log) (h : asked.History) (g later : served.History) → AreAlike r g later → OpenAsked more tag body log h g → OpenAsked more tag body log h later
  asked_still more tag body log h g later alike y = record {
    way = y.way;
    way_is = y.way_is;
    more_is = y.more_is;
    h_is = y.h_is;
    tag_is = y.tag_is;
    body_is = y.body_is;
    quiet = quiet_still q r first log h0 g later alike y.quiet;
    id_is = free_still r g later alike ∙ y.id_is;
    limit = ap (λ (k : ℕ). k == 4) (count_still r g later alike) ∙ y.limit;
  }

  pub piece_still : (more tag : ℕ) (body : List ℕ) (log : Log) (h : asked.History) (g later : served.History) → AreAlike r g later → PieceAsked more tag body log h g → PieceAsked more tag body log h later
  piece_still more tag body log h g later alike y = record {
    way = y.way;
    way_is = y.way_is;
    handle = y.handle;
    handle_small = y.handle_small;
    j = y.j;
    left = y.left;
    within = y.within;
    low = y.low;
    waits = y.waits;
    body_is = y.body_is;
    ready = ready_still log h g later alike y.ready;
    kept = right_still q r (PskExchange x) n y.way.send y.handle y.handle_small y.j g later alike.clear.kept alike.turns y.kept;
    held = subst (AreHeld q r (PskExchange x) n y.way.send y.handle y.handle_small y.j) (sym alike.turns) y.held;
  }

  pub ack_still : (more tag : ℕ) (body : List ℕ) (log : Log) (h : asked.History) (g later : served.History) → AreAlike r g later → PieceAnswered more tag body log h g → PieceAnswered more tag body log h later
  ack_still more tag body log h g later alike y = record {
    way = y.way;
    way_is = y.way_is;
    handle = y.handle;
    handle_small = y.handle_small;
    j = y.j;
    left = y.left;
    within = y.within;
    again = y.again;
    low = y.low;
    waits = y.waits;
    body_is = y.body_is;
    ready = ready_still log h g later alike y.ready;
    kept = right_still q r (PskExchange x) n y.way.send y.handle y.handle_small (suc y.j) g later alike.clear.kept alike.turns y.kept;
    held = subst (AreHeld q r (PskExchange x) n y.way.send y.handle y.handle_small (suc y.j)) (sym alike.turns) y.held;
  }

  pub answered_still : (more tag : ℕ) (body : List ℕ) (log : Log) (h : asked.History) (g later : served.History) → AreAlike r g later → OpenAnswered more tag body log h g → OpenAnswered more tag body log h later
  answered_still more tag body log h g later alike y = record { more_is = y.more_is; low = y.low; reply = y.reply; made = made_still y.reply log h g later alike y.made; message = y.message; body_is = y.body_is; few = y.few; at = y.at; carries = y.carries }

  pub told_still : (more tag : ℕ) (body : List ℕ) (log : Log) (h : asked.History) (g later : served.History) → AreAlike r g later → LargeTold more tag body log h g → LargeTold more tag body log h later
  told_still more tag body log h g later alike y = record {
    round = y.round;
    fetch = y.fetch;
    gets_are = y.gets_are;
    more_is = y.more_is;
    low = y.low;
    reply = y.reply;
    long = y.long;
    handle = y.handle;
    handle_small = y.handle_small;
    message = y.message;
    short = y.short;
    body_is = y.body_is;
    carries = y.carries;
    made = made_still y.reply log h g later alike y.made;
    pending = subst (IsPending y.reply y.handle 0) (sym alike.turns) y.pending;
    last = y.last;
    other = y.other;
    took = last_on y.last g later alike.clear.kept y.took;
  }

  pub get_still : (more tag : ℕ) (body : List ℕ) (log : Log) (h : asked.History) (g later : served.History) → AreAlike r g later → ChunkAsked more tag body log h g → ChunkAsked more tag body log h later
  get_still more tag body log h g later alike y = record {
    round = y.round;
    fetch = y.fetch;
    gets_are = y.gets_are;
    k = y.k;
    left = y.left;
    some = y.some;
    reply = y.reply;
    long = y.long;
    handle = y.handle;
    handle_small = y.handle_small;
    low = y.low;
    waits = y.waits;
    body_is = y.body_is;
    made = made_still y.reply log h g later alike y.made;
    pending = subst (IsPending y.reply y.handle y.k) (sym alike.turns) y.pending;
    last = y.last;
    other = y.other;
    took = last_on y.last g later alike.clear.kept y.took;
  }

  pub chunk_still : (more tag : ℕ) (body : List ℕ) (log : Log) (h : asked.History) (g later : served.History) → AreAlike r g later → ChunkAnswered more tag body log h g → ChunkAnswered more tag body log h later
  chunk_still more tag body log h g later alike y = record {
    round = y.round;
    fetch = y.fetch;
    gets_are = y.gets_are;
    k = y.k;
    left = y.left;
    again = y.again;
    some = y.some;
    reply = y.reply;
    long = y.long;
    handle = y.handle;
    handle_small = y.handle_small;
    low = y.low;
    waits = y.waits;
    body_is = y.body_is;
    made = made_still y.reply log h g later alike y.made;
    pending = subst (IsPending y.reply y.handle (y.k + 1)) (sym alike.turns) y.pending;
    took = last_on (get_chunk y.handle y.k) g later alike.clear.kept y.took;
  }
