-- While a requester awaits the answer to a later chunk of a large request, no request that a responder had before is that chunk: it
-- took the first chunk, and the chunks have other numbers.
use Rattle.std.proofs.Common.{◌≡◌, ◌==◌, ◌&&◌, ◌<◌, ◌≤◌, ◌+◌, ◌*◌, ◌-◌, ◌^◌, ◌∙◌, ◌⊎◌, ℕ, zero, suc, List, [], ◌∷◌, refl, sym, ap, subst, drop, length, Bool, true, false, Option, Some, None, Result, Ok, Err, cond, inl, inr, arith, eq-eqb, eqb-true, ne_eqb}
use Rattle.std.specs.Bool.{OnTrue}
use Rattle.std.specs.Prelude.{MatchBool, bytes_eq, not, slice_index}
use Rattle.std.proofs.lemmas.Bool.{OnTrue_at, false≢true, not-false}
use Rattle.std.proofs.lemmas.Option.{none-some, same_Some}
use Rattle.std.proofs.lemmas.Slice.Eq.{bytes_eq-Decides}
use Rattle.check_laws.proofs.OneWalk.{walks_alike}
use Rattle.check_laws.specs.Order.{is_answer, is_request}
use Rattle.check_laws.specs.RepliesShown.{no_values}
use Rattle.check_laws.specs.Walks.{StepsBy, StepsTo, Walks}
use Rattle.chunking.specs.Cutting.{chunk_count, nth_chunk}
use Rattle.check_fetched_laws.proofs.GetAnswers.{heard_so}
use Rattle.check_fetched_laws.proofs.WalksSound.{walks_sound}
use Rattle.check_late_laws.proofs.Late.CapsAsked.{AllAsk, AsksSo, IsFor}
use Rattle.check_fetched_laws.proofs.CapsSent.{hears_taken, owed_took, IsTook}
use Rattle.check_fetched_ends.proofs.FirstTaken.{first_passes, first_taken}
use Rattle.check_fetched_ends.proofs.LeftSame.{outcome_fetching}
use Rattle.check_fetched_ends.proofs.OfferAwaited.{Asks, heard_tag, large_reply, next_is, not_later, own_agree}
use Rattle.check_fetched_ends.proofs.OfferKept.{plain_same}
use Rattle.check_fetched_ends.proofs.SameChunks.{Agrees, walks_agree}
use Rattle.check_fetched_laws.proofs.SizesSeen.{common_same}
use Rattle.check_laws.proofs.Large.Histories.{next_terms}
use Rattle.check_late_laws.proofs.Late.WalksAnew.{kept_before, kept_large}
use Rattle.mctp_framing.specs.Gathering.{Gathered}
use Rattle.mctp_framing.specs.Gathering.Gathered.{Whole, More, Dropped}
use Rattle.mctp_framing.specs.Packet.{PacketFields, parsed}
use Rattle.negotiate.specs.declared.shared.Common.{Common}
use Rattle.requester_machine.proofs.ClearLeads.{ClearLeads, clear_leads}
use Rattle.requester_machine.proofs.ClearLeads.ClearLeads.{ByRefusal, ByLarge, BySend, ByGet, ByStop, ByVersion, ByCaps, ByChoice, ByMeasured, ByExchange}
use Rattle.requester_machine.proofs.Entries.{asked}
use Rattle.requester_machine.proofs.Heard.{heard}
use Rattle.requester_machine.proofs.RecordLeads.{RecordLeads, record_leads}
use Rattle.requester_machine.proofs.RecordLeads.RecordLeads.{ByEnd, ByAnswer, ByUpdate, ByFirst, ByChunk}
use Rattle.requester_machine.specs.Answers.{goes_on}
use Rattle.requester_machine.specs.Asking.Outcome.{Adds}
use Rattle.requester_machine.specs.Bodies.{has_tag}
use Rattle.requester_machine.specs.Commands.{Free}
use Rattle.requester_machine.specs.Hearing.{came_to, hears}
use Rattle.requester_machine.specs.History.{Entry, History, Led, begins_large, connection_terms, is_connect, negotiation_of as asked_negotiation, next_handle, next_tag, outstanding, phase_of, sent_in}
use Rattle.requester_machine.specs.History.Effect.{Nothing}
use Rattle.requester_machine.specs.History.Entry.{Told, TookClear, TookRecord}
use Rattle.requester_machine.specs.InnerMessages.{Came}
use Rattle.requester_machine.specs.Message.{Aim, Ask, Command, Content, Sent, asked_in, body_of}
use Rattle.requester_machine.specs.Message.Aim.{Plain, ByChunks, ForChunk, InSession}
use Rattle.requester_machine.specs.Message.Command.{Connect, Open, Send, Beat, Update, Measure, End, Retry}
use Rattle.requester_machine.specs.Message.Content.{Clear}
use Rattle.requester_machine.specs.Owed.{with_next}
use Rattle.requester_machine.specs.Sending.{piece_of, piece_sent, plain_sent}
use Rattle.requester_machine.specs.Setup.{ReqSetup}
use Rattle.requester_machine.specs.Shown.{after}
use Rattle.requester_machine.specs.UnderWay.{is_capable}
use Rattle.responder_machine.proofs.Making.{turn_message}
use Rattle.responder_machine.specs.Answer as responder_values
use Rattle.responder_machine.specs.Handling.{turn_of}
use Rattle.responder_machine.specs.History as responder_history
use Rattle.responder_machine.specs.History.{Kept, clear_turns, kept_of, negotiation_of}
use Rattle.responder_machine.specs.History.Entry.{Clear as RespClear, Sealed, Queued, Ticked, Dropped as RespDropped}
use Rattle.responder_machine.specs.May.{with_dropped}
use Rattle.responder_machine.specs.Place.{Place, clear_place, place_terms}
use Rattle.responder_machine.specs.Refusal.{refusal, sizes_are_known}
use Rattle.responder_machine.specs.Responder as responder
use Rattle.responder_machine.specs.Responder.{is_repeat, kept_reply}
use Rattle.responder_machine.specs.Responder.Outcome.{Adds as RespAdds, Same as RespSame, Unopened as RespUnopened}
use Rattle.responder_machine.specs.Setup.{RspSetup, towards}
use Rattle.responder_machine.specs.SizeLaws.{HasSizes}
use Rattle.responder_machine.specs.Turn.{Turn, is_taken}
use Rattle.spdm_basis.proofs.Bools.{and_second}
use Rattle.spdm_basis.specs.declared.PacketFault.{PacketFault}
use Rattle.spdm_grammar.specs.Message.{RequestMessage}
use Rattle.spdm_grammar.specs.Message.RequestMessage.{ChunkSend, GetVersion, NegotiateAlgorithms}
use Rattle.spdm_grammar.specs.Requests.{canonical_request}
use Rattle.spdm_grammar.specs.declared.messages.error_code.ErrorCode.{ErrorCode}
use Rattle.spdm_grammar.specs.declared.told.phase.Phase.{Phase}
use Rattle.spdm_grammar.specs.declared.told.phase.Phase.TheVariants.{Fresh}
use Rattle.spdm_machine.specs.Bodies.{clear_body}
use Rattle.spdm_machine.specs.Packets.{gathered_from}
use Rattle.spdm_machine.specs.Terms.{Terms, no_negotiation, terms_of}
use Rattle.transcript.specs.Transcripts.{Negotiation}
use Rattle.capture_machine.proofs.Agrees.{Agree}
use Rattle.capture_machine.proofs.AskTells.{IsSent, kind_of, sent_by_kind}
use Rattle.capture_machine.proofs.AskersAlike.{AskersAlike}
use Rattle.capture_machine.proofs.AskersAlike.AskersAlike.{Settled, Owing, Shown, Due}
use Rattle.capture_machine.proofs.AskersStep.{owed}
use Rattle.capture_machine.proofs.DropsTell.{clear_form, kept_same}
use Rattle.capture_machine.proofs.Fetching.{IsSound}
use Rattle.capture_machine.proofs.HeardNext.{either_next}
use Rattle.capture_machine.proofs.HearsAlike.{hears_alike}
use Rattle.capture_machine.proofs.PlainTells.{led_clear, led_record}
use Rattle.capture_machine.proofs.RecordAdds.{record_added}
use Rattle.capture_machine.specs.Capture.{AsksBy, Begins, Copies, Replies, RepliesBy}
use Rattle.capture_machine.specs.CapturedAnswers.{Answers, Hears, HearsWhile, MayLeadTo}
use Rattle.capture_machine.specs.CapturedRequests.{Sends, is_later, owes, without_owed}
use Rattle.capture_machine.specs.LargeAnswers.{dropped_before_large, is_fetching, is_for_chunk, is_large, judging, place_named, repeats_large, turn_with, unseen, with_large}
use Rattle.capture_machine.specs.LargeRequests.{AreAsked, IsJudged, IsLargeRequest, common_of, first_piece, is_last_piece, piece_with, still_sending, with_ack, with_ack_to, with_next_piece}
use Rattle.capture_machine.specs.Rounds.{Dialogue, Round, following_tag, new_dialogue, new_round, no_draw}
use Rattle.world_machine.specs.Setup.{Configuration, known_of}

-- ---- The number of a chunk.

-- It stands in two bytes of CHUNK_SEND.
abbrev pub number_in : List ℕ → ℕ
number_in m = slice_index m 4 + 256 * slice_index m 5

number_low : (transfer handle number : ℕ) (whole : List ℕ) → number_in (canonical_request (ChunkSend (nth_chunk transfer handle whole number))) ≤ number
number_low transfer handle number whole = omega arith

pub number_is : (transfer handle number : ℕ) (whole : List ℕ) → number < 2 ^ 16 → number_in (canonical_request (ChunkSend (nth_chunk transfer handle whole number))) ≡ number
number_is transfer handle number whole few = omega (arith, few)

-- The message that a repeat is compared with has a lower one.
abbrev pub Below : responder_history.History → ℕ → Type 0
Below h n = (x : Kept) → kept_of h ≡ Some x → number_in x.message < n

repeat_message : (o : Option Kept) (tag : ℕ) (m : List ℕ) → is_repeat o tag m ≡ true → (x : Kept) × (o ≡ Some x) × (x.message ≡ m)
repeat_message None tag m again = absurd (false≢true again)
repeat_message (Some x) tag m again = (x, refl, (bytes_eq-Decides x.message m).0 (and_second (x.tag == tag) (bytes_eq x.message m) again))

below_none : (h : responder_history.History) (n tag : ℕ) (m : List ℕ) → Below h n → number_in m ≡ n → is_repeat (kept_of h) tag m ≡ true → ⊥
below_none h n tag m below num again =
    let x = repeat_message (kept_of h) tag m again in
    let less = below x.0 x.1 in
    let same : number_in x.0.message ≡ number_in m = ap number_in x.2 in
    omega (arith, less, same, num)

-- ---- What an answer makes of that message.

abbrev HasMessage : List ℕ → responder_history.Entry → Type 0
HasMessage m (RespClear n t d) = t.message ≡ m
HasMessage m _ = Unit {0}

led_message : (r : RspSetup) (g : responder_history.History) (tag : ℕ) (body : List ℕ) (e : responder_history.Entry) → MayLeadTo r g tag body (RespAdds e) → HasMessage (drop 1 body) e
led_message r g tag body e may = by_type (slice_index body 0 == 5) refl
  where
    by_type : (b : Bool) → (slice_index body 0 == 5) ≡ b → HasMessage (drop 1 body) e
    by_type true type =
        let led = led_clear r g tag body (RespAdds e) type may in
        elim (clear_form r g tag (drop 1 body) led.free (RespAdds e) led.leads) [
          | inl same ↦ absurd (let x = same.1 in cc)
          | inr adds ↦
              let is : RespClear tag (turn_of r (clear_place g) (drop 1 body) led.free) no_draw ≡ e = cc (sym adds) in
              subst (HasMessage (drop 1 body)) is (turn_message r (clear_place g) (drop 1 body) led.free)
        ]
    by_type false type =
        let led = led_record r g tag body (RespAdds e) type may in
        subst (HasMessage (drop 1 body)) (record_added r led.free tag (drop 1 body) e g led.leads) tt

unseen_message : (m : List ℕ) (e : responder_history.Entry) → HasMessage m e → HasMessage m (unseen e)
unseen_message m (RespClear n t d) is = is
unseen_message m (Sealed n x t reply d) is = tt
unseen_message m (Queued bytes) is = tt
unseen_message m (Ticked seconds) is = tt
unseen_message m (RespDropped id) is = tt

-- It stays, or is that of the round.
abbrev Moves : responder_history.History → List ℕ → responder_history.History → Type 0
Moves h m next = (kept_of next ≡ kept_of h) ⊎ ((x : Kept) × (kept_of next ≡ Some x) × (x.message ≡ m))

front_moves : (h g : responder_history.History) (m : List ℕ) (e : responder_history.Entry) → kept_of g ≡ kept_of h → HasMessage m e → Moves h m (e ∷ g)
front_moves h g m (RespClear n t d) same is = by_taken (is_taken t)
  where
    by_taken : (b : Bool) → (cond b (Some (record { tag = n; message = t.message; reply = t.reply })) (kept_of g) ≡ kept_of h)
        ⊎ ((x : Kept) × (cond b (Some (record { tag = n; message = t.message; reply = t.reply })) (kept_of g) ≡ Some x) × (x.message ≡ m))
    by_taken true = inr (record { tag = n; message = t.message; reply = t.reply }, refl, is)
    by_taken false = inl same
front_moves h g m (Sealed n x t reply d) same is = inl same
front_moves h g m (Queued bytes) same is = inl same
front_moves h g m (Ticked seconds) same is = inl same
front_moves h g m (RespDropped id) same is = inl same

module _ (r : RspSetup) (d : Dialogue) (round : Round) (answer : List ℕ) where
  abbrev h : responder_history.History
  h = d.responder

  abbrev m : List ℕ
  m = drop 1 round.body

  after_moves : (k : responder_history.History) (ids : List ℕ) (o : responder.Outcome) → MayLeadTo r k round.tag round.body o → Moves h m (responder.after (with_dropped h ids) o)
  after_moves k ids (RespSame b) may = inl (kept_same ids h)
  after_moves k ids (RespUnopened b) may = inl (kept_same ids h)
  after_moves k ids (RespAdds e) may = front_moves h (with_dropped h ids) m e (kept_same ids h) (led_message r k round.tag round.body e may)

  answers_move : (next : responder_history.History) (fetching : Option (List ℕ)) → Answers r d round answer next fetching → Moves h m next
  unfolding Answers
  answers_move next fetching (inl (a, same)) = subst (Moves h m) (sym a.6) (after_moves (with_dropped (judging d.fetching round.body h) a.0) a.0 a.1 a.2.1)
  answers_move next fetching (inr (inl (whole, a, same))) =
      subst (Moves h m) (sym a.6) (front_moves h h m (unseen a.1) refl (unseen_message m a.1 (led_message r (with_dropped (judging d.fetching round.body h) a.0) round.tag round.body a.1 a.2.1)))
  answers_move next fetching (inr (inr (inl (whole, a, same)))) = inl (ap kept_of a.4)
  answers_move next fetching (inr (inr (inr (a, same)))) =
      let place : Option ℕ = place_named round.body in
      let g : responder_history.History = with_large place a.0 (dropped_before_large place a.1 h) in
      subst (Moves h m) (sym a.8)
      (front_moves h g m a.2 (kept_large place a.0 (dropped_before_large place a.1 h) ∙ kept_before place a.1 h) (led_message r (judging d.fetching round.body h) round.tag round.body a.2 a.4))

  -- So it stays below, where the message of the round is.
  below_on : (n k : ℕ) → n ≤ k → number_in (drop 1 round.body) < k → Below d.responder n → (next : responder_history.History) → Moves d.responder (drop 1 round.body) next → Below next k
  below_on n k most under below next (inl same) = λ x at. (let less = below x (sym same ∙ at) in omega (arith, less, most))
  below_on n k most under below next (inr (y, is, own)) = λ x at. subst (λ (z : Kept). number_in z.message < k) (same_Some y x (sym is ∙ at)) (subst (λ (l : List ℕ). number_in l < k) (sym own) under)

-- ---- What stands between two ends.

-- A later chunk of a large request.
abbrev IsLaterAim : Aim → Type 0
IsLaterAim (ByChunks a handle number) = 0 < number
IsLaterAim _ = ⊥

-- A chunk of one.
abbrev IsPieceAim : Aim → Type 0
IsPieceAim (ByChunks a handle number) = Unit {0}
IsPieceAim _ = ⊥

abbrev number_of : Aim → ℕ
number_of (ByChunks a handle number) = number
number_of _ = 0

-- The sizes are known at the requester, and are those of this responder.
pub record Fits (r : RspSetup) (h : History) : Type 0 where
  pub known : is_capable (phase_of h) ≡ true
  pub sizes : HasSizes r (common_of h)

-- The first chunk of these bytes.
pub record IsFirst (h : History) (whole : List ℕ) (s : Sent) : Type 0 where
  pub handle : ℕ
  pub small : handle < 256
  pub is : s.content ≡ Clear (canonical_request (ChunkSend (nth_chunk (common_of h).to_responder.transfer handle whole 0)))
  pub large : IsLargeRequest (common_of h) whole

-- The responder towards the requester.
abbrev responder_of : Configuration → Dialogue → RspSetup
responder_of w d = towards w.responder (known_of d.setup)

-- Where no large request is sent, the first chunk is owed, and of the later ones the last one was sent; a repeat of it
-- gets no LargeResponse in response to which the requester asks for a chunk. While one is sent, the message that a
-- repeat is compared with has a lower number than the next chunk.
pub record PiecesStand (w : Configuration) (d : Dialogue) : Type 0 where
  pub early : (s : Sent) (a : RequestMessage) (handle : ℕ) → d.sending ≡ None → outstanding d.requester ≡ Some s → s.aim ≡ ByChunks a handle 0 → (rd : Round) → d.round ≡ Some rd → (s.tag == rd.tag) ≡ false
  pub last : (s : Sent) (a : RequestMessage) (handle number : ℕ) → d.sending ≡ None → outstanding d.requester ≡ Some s → s.aim ≡ ByChunks a handle number → 0 < number → (piece_of (common_of d.requester) a handle number).last ≡ true
  pub told : (s : Sent) (a : RequestMessage) (handle number : ℕ) → d.sending ≡ None → outstanding d.requester ≡ Some s → s.aim ≡ ByChunks a handle number → 0 < number → (rd : Round) → d.round ≡ Some rd → (s.tag == rd.tag) ≡ true
  pub first : (whole : List ℕ) (s : Sent) (a : RequestMessage) (handle : ℕ) → d.sending ≡ Some whole → outstanding d.requester ≡ Some s → s.aim ≡ ByChunks a handle 0 → is_capable (phase_of d.requester) ≡ true → IsFirst d.requester whole s
  pub below : (whole : List ℕ) (s : Sent) (a : RequestMessage) (handle number : ℕ) → d.sending ≡ Some whole → outstanding d.requester ≡ Some s → s.aim ≡ ByChunks a handle number → 0 < number
      → Fits (responder_of w d) d.requester → Below d.responder number
  pub behind : (whole : List ℕ) (s : Sent) (a : RequestMessage) (handle number : ℕ) → d.sending ≡ Some whole → outstanding d.requester ≡ Some s → s.aim ≡ ByChunks a handle number → 0 < number → (rd : Round) → d.round ≡ Some rd
      → (s.tag == rd.tag) ≡ false → number_in (drop 1 rd.body) < number
  pub done : (s : Sent) (a : RequestMessage) (handle number : ℕ) → d.sending ≡ None → outstanding d.requester ≡ Some s → s.aim ≡ ByChunks a handle number → 0 < number → Fits (responder_of w d) d.requester
      → (rd : Round) → d.round ≡ Some rd → number_in (drop 1 rd.body) ≡ number → is_repeat (kept_of d.responder) rd.tag (drop 1 rd.body) ≡ true → repeats_large None d.responder ≡ true
      → Asks d.setup d.requester rd.tag (kept_reply (kept_of d.responder)) → ⊥

-- ---- A request.

copies_stand : (w : Configuration) (d : Dialogue) (tag : ℕ) (body : List ℕ) (next : Dialogue) → PiecesStand w d → Copies d tag body next → PiecesStand w next
copies_stand w d tag body next all c =
    let again : Round = record c.0 { waiting = c.0.waiting + 1 } in
    subst (PiecesStand w) (sym c.4) (record {
      early = λ s a handle none waits aims rd at. ap (λ (x : Round). s.tag == x.tag) (sym (same_Some again rd at)) ∙ all.early s a handle none waits aims c.0 c.1;
      last = all.last;
      told = λ s a handle number none waits aims later rd at. ap (λ (x : Round). s.tag == x.tag) (sym (same_Some again rd at)) ∙ all.told s a handle number none waits aims later c.0 c.1;
      first = all.first;
      below = all.below;
      behind = λ whole s a handle number sends waits aims later rd at other.
          let same = same_Some again rd at in
          subst (λ (x : Round). number_in (drop 1 x.body) < number) same (all.behind whole s a handle number sends waits aims later c.0 c.1 (ap (λ (x : Round). s.tag == x.tag) same ∙ other));
      done = λ s a handle number none waits aims later fits rd at num repeats large asks.
          let same = same_Some again rd at in
          all.done s a handle number none waits aims later fits c.0 c.1 (ap (λ (x : Round). number_in (drop 1 x.body)) same ∙ num) (ap (λ (x : Round). is_repeat (kept_of d.responder) x.tag (drop 1 x.body)) same ∙ repeats) large
          (ap (λ (x : Round). is_fetching (outstanding (after d.requester (hears d.setup d.requester false x.tag (clear_body (kept_reply (kept_of d.responder))) no_values no_draw)))) same ∙ asks);
    })

-- No command sends a chunk whole in one message.
told_none : (q : ReqSetup) (h : History) (f : Free) (c : Command) (s : Sent) → IsSent q h f (kind_of q h f c) s → begins_large s.aim ≡ false → IsPieceAim s.aim → ⊥
told_none q h f Connect s kind small is = subst (λ (x : Sent). IsPieceAim x.aim) (kind.0 small) is
told_none q h f (Open summary) s kind small is = subst (λ (x : Sent). IsPieceAim x.aim) (kind.0 small) is
told_none q h f (Send id bytes) s kind small is = subst (λ (x : Sent). IsPieceAim x.aim) kind is
told_none q h f (Beat id) s kind small is = subst (λ (x : Sent). IsPieceAim x.aim) kind is
told_none q h f (Update id all) s kind small is = subst (λ (x : Sent). IsPieceAim x.aim) kind is
told_none q h f (Measure None op) s kind small is = subst (λ (x : Sent). IsPieceAim x.aim) (kind.0 small) is
told_none q h f (Measure (Some id) op) s kind small is = subst (λ (x : Sent). IsPieceAim x.aim) kind is
told_none q h f (End id) s kind small is = subst (λ (x : Sent). IsPieceAim x.aim) kind is
told_none q h f Retry s kind small is = absurd kind

-- What was sent, where it is a chunk: one that was owed; or the first one.
data IsBegun (d : Dialogue) (body : List ℕ) (next : History) (sending : Option (List ℕ)) (s : Sent) : Type 0 where
  Owed : outstanding d.requester ≡ Some s → owes d ≡ true → begins_large s.aim ≡ false → next ≡ d.requester → sending ≡ still_sending d.requester d.sending s.aim → IsJudged d.setup d.requester d.sending s.aim → IsBegun d body next sending s
  First : (whole : List ℕ) → sending ≡ Some whole → begins_large s.aim ≡ true → (is_capable (phase_of next) ≡ true → IsFirst next whole s) → IsBegun d body next sending s

handle_small : (h : History) → next_handle h < 256
handle_small h = omega arith

command_by : (h : History) (c : Command) (a : RequestMessage) (whole : List ℕ) → IsLargeRequest (common_of h) whole → (b : Bool) → is_connect c ≡ b → is_capable (phase_of (Told c (first_piece h a whole) no_draw ∷ h)) ≡ true
    → IsFirst (Told c (first_piece h a whole) no_draw ∷ h) whole (first_piece h a whole)
command_by h c a whole large true is known = absurd (false≢true (sym (ap (λ (x : Bool). is_capable (cond x Fresh (phase_of h))) is) ∙ known))
command_by h c a whole large false is known =
    let same : common_of (Told c (first_piece h a whole) no_draw ∷ h) ≡ common_of h = ap (λ (x : Bool). (terms_of (cond x no_negotiation (asked_negotiation h))).common) is in
    record {
      handle = next_handle h;
      small = handle_small h;
      is = ap (λ (x : Common). Clear (canonical_request (ChunkSend (nth_chunk x.to_responder.transfer (next_handle h) whole 0)))) (sym same);
      large = subst (λ (x : Common). IsLargeRequest x whole) (sym same) large;
    }

took_next : (h : History) (x s : Sent) → IsTook h → outstanding (with_next (Some x) h) ≡ Some s → x ≡ s
took_next [] x s took is = absurd took
took_next (Told c y d ∷ h) x s took is = absurd took
took_next (TookClear tag m led d ∷ h) x s took is = same_Some x s is
took_next (TookRecord tag id sealed inner led d ∷ h) x s took is = same_Some x s is

owed_first : (d : Dialogue) (a : RequestMessage) (whole : List ℕ) → owes d ≡ true → IsLargeRequest (common_of d.requester) whole → IsFirst (with_next (Some (first_piece (without_owed d) a whole)) d.requester) whole (first_piece (without_owed d) a whole)
owed_first d a whole is large =
    let x : Sent = first_piece (without_owed d) a whole in
    let there : connection_terms (without_owed d) ≡ connection_terms d.requester = ap connection_terms (owed d is) ∙ next_terms None d.requester in
    let here : connection_terms (with_next (Some x) d.requester) ≡ connection_terms d.requester = next_terms (Some x) d.requester in
    record {
      handle = next_handle (without_owed d);
      small = handle_small (without_owed d);
      is = ap (λ (t : Terms). Clear (canonical_request (ChunkSend (nth_chunk t.common.to_responder.transfer (next_handle (without_owed d)) whole 0)))) (there ∙ sym here);
      large = subst (λ (t : Terms). IsLargeRequest t.common whole) (sym here) large;
    }

sends_piece : (d : Dialogue) (body : List ℕ) (next : History) (sending : Option (List ℕ)) → AskersAlike d.round d.requester d.requester d.sending d.sending → Sends d body next sending → (s : Sent) → outstanding next ≡ Some s → IsPieceAim s.aim → IsBegun d body next sending s
unfolding Sends
sends_piece d body next sending askers (inl (inl connects, none)) s waits is =
    let same : connects.0 ≡ s = same_Some connects.0 s (sym (ap outstanding connects.4) ∙ waits) in
    let kind = sent_by_kind d.setup (without_owed d) connects.1.0 Connect connects.0 no_draw (asked false d.setup (without_owed d) Connect connects.1.0 no_draw (Told Connect connects.0 no_draw) connects.1.2).1 in
    absurd (told_none d.setup (without_owed d) connects.1.0 Connect connects.0 kind connects.2 (subst (λ (x : Sent). IsPieceAim x.aim) (sym same) is))
sends_piece d body next sending askers (inl (inr commands, none)) s waits is =
    let t = commands.2 in
    let same : t.0 ≡ s = same_Some t.0 s (sym (ap outstanding t.4) ∙ waits) in
    let kind = sent_by_kind d.setup d.requester t.1.0 commands.0 t.0 no_draw (asked false d.setup d.requester commands.0 t.1.0 no_draw (Told commands.0 t.0 no_draw) t.1.2).1 in
    absurd (told_none d.setup d.requester t.1.0 commands.0 t.0 kind t.2 (subst (λ (x : Sent). IsPieceAim x.aim) (sym same) is))
sends_piece d body next sending askers (inr (inl goes)) s waits is =
    let same : goes.0 ≡ s = same_Some goes.0 s (sym goes.1.0 ∙ ap outstanding (sym goes.5) ∙ waits) in
    Owed (goes.1.0 ∙ ap (λ (x : Sent). Some x) same) goes.1.1 (ap (λ (x : Sent). begins_large x.aim) (sym same) ∙ goes.2) goes.5 (goes.6 ∙ ap (λ (x : Sent). still_sending d.requester d.sending x.aim) same)
    (subst (λ (x : Sent). IsJudged d.setup d.requester d.sending x.aim) same goes.4)
sends_piece d body next sending askers (inr (inr (whole, inl large, at))) s waits is =
    let piece : Sent = first_piece d.requester large.2 whole in
    let l : History = Told large.0 piece no_draw ∷ d.requester in
    let same : piece ≡ s = same_Some piece s (sym (ap outstanding large.8) ∙ waits) in
    First whole at (subst (λ (x : Sent). begins_large x.aim ≡ true) same refl)
    (λ known.
    subst (λ (k : History). IsFirst k whole s) (sym large.8)
    (subst (IsFirst l whole) same (command_by d.requester large.0 large.2 whole large.6 (is_connect large.0) refl (ap (λ (k : History). is_capable (phase_of k)) (sym large.8) ∙ known))))
sends_piece d body next sending askers (inr (inr (whole, inr owes_it, at))) s waits is =
    let piece : Sent = first_piece (without_owed d) owes_it.1 whole in
    let took = owed_took d.round d.requester d.requester d.sending d.sending askers owes_it.2.1 in
    let same : piece ≡ s = took_next d.requester piece s took (sym (ap outstanding owes_it.7) ∙ waits) in
    First whole at (subst (λ (x : Sent). begins_large x.aim ≡ true) same refl)
    (λ known. subst (λ (k : History). IsFirst k whole s) (sym owes_it.7) (subst (IsFirst (with_next (Some piece) d.requester) whole) same (owed_first d owes_it.1 whole owes_it.2.1 owes_it.5)))

-- What is owed has the tag of the next round.
owed_tagged : (round : Option Round) (h g : History) (sd se : Option (List ℕ)) → AskersAlike round h g sd se → (s : Sent) → outstanding h ≡ Some s → is_later round (outstanding h) ≡ true → s.tag ≡ following_tag round
owed_tagged round _ _ _ _ (Settled h g agree not at) s waits later = absurd (false≢true (sym not ∙ later))
owed_tagged round _ _ _ _ (Owing e f h g x t agree alike out sent like tagged else still at) s waits later = ap (λ (y : Sent). y.tag) (same_Some s x (sym waits ∙ out)) ∙ tagged
owed_tagged round _ _ _ _ (Shown h g w v a b handle number x t u own wait aims aim tags not at) s waits later = absurd (false≢true (sym not ∙ ap (is_later round) (sym own) ∙ later))
owed_tagged round _ _ _ _ (Due tag m h g w v a b handle number u still at) s waits later = ap (λ (y : Sent). y.tag) (same_Some s (piece_with h a w handle (number + 1)) (sym waits)) ∙ at

not_first : (s : Sent) (a : RequestMessage) (handle number : ℕ) → s.aim ≡ ByChunks a handle number → 0 < number → begins_large s.aim ≡ true → ⊥
not_first s a handle number aims later is = false≢true (sym (ne_eqb number 0 (λ e. absurd (omega (arith, e, later)))) ∙ sym (ap begins_large aims) ∙ is)

is_first : (s : Sent) (a : RequestMessage) (handle : ℕ) → s.aim ≡ ByChunks a handle 0 → begins_large s.aim ≡ false → ⊥
is_first s a handle aims small = false≢true (sym small ∙ ap begins_large aims)

is_piece : (s : Sent) (a : RequestMessage) (handle number : ℕ) → s.aim ≡ ByChunks a handle number → IsPieceAim s.aim
is_piece s a handle number aims = subst IsPieceAim (sym aims) tt

is_later_aim : (s : Sent) (a : RequestMessage) (handle number : ℕ) → s.aim ≡ ByChunks a handle number → 0 < number → IsLaterAim s.aim
is_later_aim s a handle number aims later = subst IsLaterAim (sym aims) later

last_true : (b : Bool) (whole : List ℕ) → cond b None (Some whole) ≡ None → b ≡ true
last_true true whole is = refl
last_true false whole is = absurd (none-some whole (sym is))

module _ (w : Configuration) (d : Dialogue) (tag : ℕ) (body : List ℕ) (next : Dialogue) (askers : AskersAlike d.round d.requester d.requester d.sending d.sending) (all : PiecesStand w d) (b : Begins d tag body next) where
  module _ (s : Sent) (a : RequestMessage) (handle number : ℕ) (aims : s.aim ≡ ByChunks a handle number) where
    begun : outstanding b.2.0 ≡ Some s → IsBegun d body b.2.0 b.2.1 s
    begun waits = sends_piece d body b.2.0 b.2.1 askers b.2.2 s waits (is_piece s a handle number aims)

    -- Where no large request is sent, no later chunk is owed.
    none_owed : outstanding d.requester ≡ Some s → owes d ≡ true → d.sending ≡ None → 0 < number → ⊥
    none_owed old later none above =
        let there = not_later d.round s (ap (is_later d.round) (sym old) ∙ later) in
        false≢true (sym there.2 ∙ all.told s a handle number none old aims above there.0 there.1)

    now_tagged : outstanding d.requester ≡ Some s → owes d ≡ true → (rd : Round) → Some (new_round tag body) ≡ Some rd → (s.tag == rd.tag) ≡ true
    now_tagged old later rd at =
        let follows = owed_tagged d.round d.requester d.requester d.sending d.sending askers s old later in
        eq-eqb s.tag rd.tag (follows ∙ sym b.1 ∙ ap (λ (x : Round). x.tag) (same_Some (new_round tag body) rd at))

    last_by : (o : Option (List ℕ)) → d.sending ≡ o → outstanding d.requester ≡ Some s → owes d ≡ true → b.2.1 ≡ still_sending d.requester d.sending s.aim → IsJudged d.setup d.requester d.sending s.aim → b.2.1 ≡ None → 0 < number
        → (piece_of (common_of d.requester) a handle number).last ≡ true
    last_by None is old later still judged none above = absurd (none_owed old later is above)
    last_by (Some whole) is old later still judged none above =
        let ends : is_last_piece d.requester whole s.aim ≡ true = last_true (is_last_piece d.requester whole s.aim) whole (ap (λ (o : Option (List ℕ)). still_sending d.requester o s.aim) (sym is) ∙ sym still ∙ none) in
        let at = OnTrue_at ends (subst (λ (o : Option (List ℕ)). IsJudged d.setup d.requester o s.aim) is judged) in
        let same : whole ≡ canonical_request a = subst (AreAsked whole) aims at.0 in
        ap (λ (l : List ℕ). number + 1 == chunk_count (common_of d.requester).to_responder.transfer l) (sym same) ∙ ap (is_last_piece d.requester whole) (sym aims) ∙ ends

    below_by : (o : Option (List ℕ)) → d.sending ≡ o → outstanding d.requester ≡ Some s → b.2.1 ≡ still_sending d.requester d.sending s.aim → (whole : List ℕ) → b.2.1 ≡ Some whole → 0 < number → Fits (responder_of w d) d.requester → Below d.responder number
    below_by None is old still whole sends above fits = absurd (none-some whole (ap (λ (o : Option (List ℕ)). still_sending d.requester o s.aim) (sym is) ∙ sym still ∙ sends))
    below_by (Some other) is old still whole sends above fits = all.below other s a handle number is old aims above fits

    done_by : (o : Option (List ℕ)) → d.sending ≡ o → outstanding d.requester ≡ Some s → owes d ≡ true → 0 < number → Fits (responder_of w d) d.requester → (rd : Round) → number_in (drop 1 rd.body) ≡ number → is_repeat (kept_of d.responder) rd.tag (drop 1 rd.body) ≡ true → ⊥
    done_by None is old later above fits rd num repeats = none_owed old later is above
    done_by (Some whole) is old later above fits rd num repeats = below_none d.responder number rd.tag (drop 1 rd.body) (all.below whole s a handle number is old aims above fits) num repeats

    early_at : IsBegun d body b.2.0 b.2.1 s → number ≡ 0 → b.2.1 ≡ None → (rd : Round) → (s.tag == rd.tag) ≡ false
    early_at (Owed old later small same still judged) zeroth none rd = absurd (is_first s a handle (aims ∙ ap (λ (n : ℕ). ByChunks a handle n) zeroth) small)
    early_at (First whole at large is) zeroth none rd = absurd (none-some whole (sym none ∙ at))

    last_at : IsBegun d body b.2.0 b.2.1 s → b.2.1 ≡ None → 0 < number → (piece_of (common_of b.2.0) a handle number).last ≡ true
    last_at (Owed old later small same still judged) none above = subst (λ (l : History). (piece_of (common_of l) a handle number).last ≡ true) (sym same) (last_by d.sending refl old later still judged none above)
    last_at (First whole at large is) none above = absurd (none-some whole (sym none ∙ at))

    told_at : IsBegun d body b.2.0 b.2.1 s → 0 < number → (rd : Round) → Some (new_round tag body) ≡ Some rd → (s.tag == rd.tag) ≡ true
    told_at (Owed old later small same still judged) above rd at = now_tagged old later rd at
    told_at (First whole here large is) above rd at = absurd (not_first s a handle number aims above large)

    first_at : IsBegun d body b.2.0 b.2.1 s → number ≡ 0 → (whole : List ℕ) → b.2.1 ≡ Some whole → is_capable (phase_of b.2.0) ≡ true → IsFirst b.2.0 whole s
    first_at (Owed old later small same still judged) zeroth whole sends known = absurd (is_first s a handle (aims ∙ ap (λ (n : ℕ). ByChunks a handle n) zeroth) small)
    first_at (First other at large is) zeroth whole sends known = subst (λ (v : List ℕ). IsFirst b.2.0 v s) (same_Some other whole (sym at ∙ sends)) (is known)

    below_at : IsBegun d body b.2.0 b.2.1 s → (whole : List ℕ) → b.2.1 ≡ Some whole → 0 < number → Fits (responder_of w d) b.2.0 → Below d.responder number
    below_at (Owed old later small same still judged) whole sends above fits = below_by d.sending refl old still whole sends above (subst (Fits (responder_of w d)) same fits)
    below_at (First other at large is) whole sends above fits = absurd (not_first s a handle number aims above large)

    behind_at : IsBegun d body b.2.0 b.2.1 s → 0 < number → (rd : Round) → Some (new_round tag body) ≡ Some rd → (s.tag == rd.tag) ≡ false → number_in (drop 1 rd.body) < number
    behind_at (Owed old later small same still judged) above rd at other = absurd (false≢true (sym other ∙ now_tagged old later rd at))
    behind_at (First whole here large is) above rd at other = absurd (not_first s a handle number aims above large)

    done_at : IsBegun d body b.2.0 b.2.1 s → 0 < number → Fits (responder_of w d) b.2.0 → (rd : Round) → number_in (drop 1 rd.body) ≡ number → is_repeat (kept_of d.responder) rd.tag (drop 1 rd.body) ≡ true → ⊥
    done_at (Owed old later small same still judged) above fits rd num repeats = done_by d.sending refl old later above (subst (Fits (responder_of w d)) same fits) rd num repeats
    done_at (First whole at large is) above fits rd num repeats = not_first s a handle number aims above large

  begun_stand : PiecesStand w next
  begun_stand =
      subst (PiecesStand w) (sym b.2.3) (record {
        early = λ s a handle none waits aims rd at. early_at s a handle 0 aims (begun s a handle 0 aims waits) refl none rd;
        last = λ s a handle number none waits aims above. last_at s a handle number aims (begun s a handle number aims waits) none above;
        told = λ s a handle number none waits aims above rd at. told_at s a handle number aims (begun s a handle number aims waits) above rd at;
        first = λ whole s a handle sends waits aims known. first_at s a handle 0 aims (begun s a handle 0 aims waits) refl whole sends known;
        below = λ whole s a handle number sends waits aims above fits. below_at s a handle number aims (begun s a handle number aims waits) whole sends above fits;
        behind = λ whole s a handle number sends waits aims above rd at other. behind_at s a handle number aims (begun s a handle number aims waits) above rd at other;
        done = λ s a handle number none waits aims above fits rd at num repeats large asks. done_at s a handle number aims (begun s a handle number aims waits) above fits rd num repeats;
      })

asks_stand : (w : Configuration) (d : Dialogue) (g : Gathered) (next : Dialogue) → AskersAlike d.round d.requester d.requester d.sending d.sending → PiecesStand w d → AsksBy d g next → PiecesStand w next
asks_stand w d (Whole route body) next askers all asks = elim asks.2 [ inl copies ↦ copies_stand w d route.tag body next all copies | inr begins ↦ begun_stand w d route.tag body next askers all begins ]
asks_stand w d More next askers all asks = subst (PiecesStand w) (sym asks) all
asks_stand w d (Dropped cause) next askers all asks = absurd asks

-- ---- What is heard.

clear_later : (q : ReqSetup) (h : History) (f : Free) (m : List ℕ) (aim : Aim) → ((a : RequestMessage) (handle : ℕ) → aim ≡ ByChunks a handle 0 → ⊥)
    → ((a : RequestMessage) (handle number : ℕ) → aim ≡ ByChunks a handle number → 0 < number → (piece_of (common_of h) a handle number).last ≡ true)
    → (a : RequestMessage) (led : Led) → ClearLeads q h f aim m a led → (s : Sent) → led.next ≡ Some s → IsLaterAim s.aim → ⊥
clear_later q h f m aim early last a led (ByRefusal code is) s here above = none-some s (sym (ap (λ (l : Led). l.next) is) ∙ here)
clear_later q h f m aim early last a led (ByLarge handle may is) s here above = subst (λ (x : Sent). IsLaterAim x.aim) (same_Some s _ (sym here ∙ ap (λ (l : Led). l.next) is)) above
clear_later q h f m aim early last a led (BySend handle zero aims more is) s here above = early a handle aims
clear_later q h f m aim early last a led (BySend handle (suc k) aims more is) s here above = false≢true (sym more ∙ last a handle (suc k) aims (omega arith))
clear_later q h f m aim early last a led (ByGet handle number before c aims none more is) s here above = subst (λ (x : Sent). IsLaterAim x.aim) (same_Some s _ (sym here ∙ ap (λ (l : Led). l.next) is)) above
clear_later q h f m aim early last a led (ByStop why may is) s here above = none-some s (sym (ap (λ (l : Led). l.next) is) ∙ here)
clear_later q h f m aim early last a led (ByVersion whole was is) s here above = subst (λ (x : Sent). IsLaterAim x.aim) (same_Some s _ (sym here ∙ ap (λ (l : Led). l.next) is)) above
clear_later q h f m aim early last a led (ByCaps caps theirs whole common offer was read settled offers short is) s here above =
    let none = either_next (λ (x : Sent). IsLaterAim x.aim → ⊥) _ (piece_sent common h (NegotiateAlgorithms offer) (next_handle h) 0) (plain_sent h (NegotiateAlgorithms offer)) (λ (l : 0 < 0). absurd (omega (arith, l))) (λ l. l) in
    none (subst (λ (x : Sent). IsLaterAim x.aim) (same_Some s _ (sym here ∙ ap (λ (l : Led). l.next) is)) above)
clear_later q h f m aim early last a led (ByChoice offer whole was is) s here above = none-some s (sym (ap (λ (l : Led). l.next) is) ∙ here)
clear_later q h f m aim early last a led (ByMeasured op whole finish was is) s here above = none-some s (sym (ap (λ (l : Led). l.next) is) ∙ here)
clear_later q h f m aim early last a led (ByExchange exchange whole rsp was read right is) s here above = subst (λ (x : Sent). IsLaterAim x.aim) (same_Some s _ (sym here ∙ ap (λ (l : Led). l.next) is)) above

record_later : (q : ReqSetup) (h : History) (f : Free) (came : Came) (ask : Ask) (led : Led) → RecordLeads q h f came ask led → (s : Sent) → led.next ≡ Some s → IsLaterAim s.aim → ⊥
record_later q h f came ask led (ByEnd ends none) s here above = none-some s (sym none ∙ here)
record_later q h f came ask led (ByAnswer ends updates brings none) s here above = none-some s (sym none ∙ here)
record_later q h f came ask led (ByUpdate all asks is) s here above = subst (λ (x : Sent). IsLaterAim x.aim) (same_Some s _ (sym here ∙ ap (λ (l : Led). l.next) is)) above
record_later q h f came ask led (ByFirst op handle follows is) s here above = subst (λ (x : Sent). IsLaterAim x.aim) (same_Some s _ (sym here ∙ ap (λ (l : Led). l.next) is)) above
record_later q h f came ask led (ByChunk op handle number before c asks none last is) s here above = subst (λ (x : Sent). IsLaterAim x.aim) (same_Some s _ (sym here ∙ ap (λ (l : Led). l.next) is)) above

-- No later chunk is sent on an answer that is heard, where the one that is outstanding is the last one.
heard_later : (q : ReqSetup) (h : History) (f : Free) (tag : ℕ) (answer : List ℕ) (entry : Entry)
    → ((x : Sent) (a : RequestMessage) (handle : ℕ) → outstanding h ≡ Some x → (x.tag == tag) ≡ true → x.aim ≡ ByChunks a handle 0 → ⊥)
    → ((x : Sent) (a : RequestMessage) (handle number : ℕ) → outstanding h ≡ Some x → x.aim ≡ ByChunks a handle number → 0 < number → (piece_of (common_of h) a handle number).last ≡ true)
    → hears q h false tag answer f no_draw ≡ Adds entry → (s : Sent) → sent_in entry ≡ Some s → IsLaterAim s.aim → ⊥
heard_later q h f tag answer entry early last adds s here above = elim (heard q h false tag answer f no_draw entry adds) [
  | inl t ↦ clear_later q h f (drop 1 answer) t.sent.aim (λ a handle aims. early t.sent a handle t.waits (heard_tag q h f tag answer entry t.sent adds t.waits (t.sent.tag == tag) refl) aims)
      (λ a handle number aims later. last t.sent a handle number t.waits aims later) t.asked t.led (clear_leads q h f t.sent.aim (drop 1 answer) t.asked t.led t.asks t.leads) s (sym (ap sent_in t.is) ∙ here) above
  | inr o ↦ record_later q h f (came_to q h o.1.id o.1.ask (drop 1 answer)) o.1.ask _ (record_leads q h f (came_to q h o.1.id o.1.ask (drop 1 answer)) o.1.ask) s (sym (ap sent_in o.1.is) ∙ here) above
]

-- An answer acknowledges the chunk of its tag, and the next one is owed; else it leaves all.
data Acked (whole : List ℕ) (tag : ℕ) (m : List ℕ) (h : History) : Type 0 where
  Goes : (x : Sent) (a : RequestMessage) (handle number : ℕ) → outstanding h ≡ Some x → x.aim ≡ ByChunks a handle number → (x.tag == tag) ≡ true
      → with_ack whole tag m h ≡ TookClear tag m (goes_on Nothing (piece_with h a whole handle (number + 1))) no_draw ∷ h → Acked whole tag m h
  Rests : with_ack whole tag m h ≡ h → ((x : Sent) → outstanding h ≡ Some x → IsPieceAim x.aim → (x.tag == tag) ≡ false) → Acked whole tag m h

module _ (whole : List ℕ) (tag : ℕ) (m : List ℕ) (h : History) where
  acks_if : (o : Option Sent) → outstanding h ≡ o → with_ack whole tag m h ≡ cond (has_tag o tag) (with_ack_to whole tag m h o) h
  acks_if o is = ap (λ (x : Option Sent). cond (has_tag x tag) (with_ack_to whole tag m h x) h) is

  module _ (s : Sent) (waits : outstanding h ≡ Some s) where
    now : (s.tag == tag) ≡ true → with_ack whole tag m h ≡ with_next_piece whole tag m h s.aim
    now same = acks_if (Some s) waits ∙ ap (λ (b : Bool). cond b (with_next_piece whole tag m h s.aim) h) same

    not_piece : (s.tag == tag) ≡ true → (IsPieceAim s.aim → ⊥) → (x : Sent) → outstanding h ≡ Some x → IsPieceAim x.aim → (x.tag == tag) ≡ false
    not_piece same other x here is = absurd (other (subst (λ (y : Sent). IsPieceAim y.aim) (same_Some x s (sym here ∙ waits)) is))

    by_aim : (aim : Aim) → s.aim ≡ aim → (s.tag == tag) ≡ true → Acked whole tag m h
    by_aim (ByChunks a handle number) aims same = Goes s a handle number waits aims same (now same ∙ ap (with_next_piece whole tag m h) aims)
    by_aim (Plain a) aims same = Rests (now same ∙ ap (with_next_piece whole tag m h) aims) (not_piece same (λ is. subst IsPieceAim aims is))
    by_aim (ForChunk a handle number before) aims same = Rests (now same ∙ ap (with_next_piece whole tag m h) aims) (not_piece same (λ is. subst IsPieceAim aims is))
    by_aim (InSession id ask) aims same = Rests (now same ∙ ap (with_next_piece whole tag m h) aims) (not_piece same (λ is. subst IsPieceAim aims is))

    by_tag : (b : Bool) → (s.tag == tag) ≡ b → Acked whole tag m h
    by_tag true same = by_aim s.aim refl same
    by_tag false other = Rests (acks_if (Some s) waits ∙ ap (λ (b : Bool). cond b (with_next_piece whole tag m h s.aim) h) other) (λ x here is. ap (λ (y : Sent). y.tag == tag) (same_Some x s (sym here ∙ waits)) ∙ other)

  acked_by : (o : Option Sent) → outstanding h ≡ o → Acked whole tag m h
  acked_by None none = Rests (acks_if None none) (λ x here is. absurd (none-some x (sym none ∙ here)))
  acked_by (Some s) waits = by_tag s waits (s.tag == tag) refl

-- ---- An answer.

module _ (w : Configuration) (d : Dialogue) (round : Round) (at : d.round ≡ Some round) (askers : AskersAlike d.round d.requester d.requester d.sending d.sending) (agrees : Agrees d) (sound : IsSound d) (all : PiecesStand w d) (answer : List ℕ)
    (next : responder_history.History) (fetching : Option (List ℕ)) (answers : Answers (responder_of w d) d round answer next fetching) (g : History) (hear : Hears d round.tag answer g) where
  -- Nothing is fetched while a chunk is outstanding.
  none_fetched : (s : Sent) → outstanding d.requester ≡ Some s → IsPieceAim s.aim → (whole : List ℕ) → d.fetching ≡ Some whole → ⊥
  none_fetched s waits piece whole is =
      let f = (sound.fetched whole is).2 in
      let same : f.sent ≡ s = same_Some f.sent s (sym f.waits ∙ waits) in
      elim f.stands [
        | inl one ↦ subst IsPieceAim (ap (λ (x : Sent). x.aim) (sym same) ∙ one.0) piece
        | inr one ↦ not_for_chunk s.aim piece (ap (λ (x : Sent). is_for_chunk x.aim) (sym same) ∙ one.0)
      ]
    where
      not_for_chunk : (aim : Aim) → IsPieceAim aim → is_for_chunk aim ≡ true → ⊥
      not_for_chunk (ByChunks a handle number) is gets = false≢true gets
      not_for_chunk (Plain a) is gets = is
      not_for_chunk (ForChunk a handle number before) is gets = is
      not_for_chunk (InSession id ask) is gets = is

  nothing_fetched : (s : Sent) → outstanding d.requester ≡ Some s → IsPieceAim s.aim → (o : Option (List ℕ)) → d.fetching ≡ o → o ≡ None
  nothing_fetched s waits piece None is = refl
  nothing_fetched s waits piece (Some whole) is = absurd (none_fetched s waits piece whole is)

  -- The round asks with what is outstanding under its tag.
  module _ (s : Sent) (a : RequestMessage) (handle number : ℕ) (waits : outstanding d.requester ≡ Some s) (aims : s.aim ≡ ByChunks a handle number) (tagged : (s.tag == round.tag) ≡ true) where
    body_is : body_of s.content ≡ round.body
    body_is = agrees.body s round waits at tagged

    spelled : (transfer : ℕ) × (whole : List ℕ) × (round.body ≡ clear_body (canonical_request (ChunkSend (nth_chunk transfer handle whole number))))
    spelled =
        let content = subst (λ (x : Aim). IsFor x s.content) aims (agrees.asks s waits).is in
        (content.0, content.1, sym body_is ∙ ap body_of content.2)

    round_low : number_in (drop 1 round.body) ≤ number
    round_low = subst (λ (l : List ℕ). number_in (drop 1 l) ≤ number) (sym spelled.2) (number_low spelled.0 handle number spelled.1)

    round_clear : (slice_index round.body 0 == 5) ≡ true
    round_clear = ap (λ (l : List ℕ). slice_index l 0 == 5) spelled.2

  -- The first chunk was taken.
  module _ (whole : List ℕ) (s : Sent) (a : RequestMessage) (handle : ℕ) (sends : d.sending ≡ Some whole) (waits : outstanding d.requester ≡ Some s) (aims : s.aim ≡ ByChunks a handle 0) (tagged : (s.tag == round.tag) ≡ true) (fits : Fits (responder_of w d) d.requester) where
    own : IsFirst d.requester whole s
    own = all.first whole s a handle sends waits aims fits.known

    own_body : round.body ≡ clear_body (canonical_request (ChunkSend (nth_chunk (common_of d.requester).to_responder.transfer own.handle whole 0)))
    own_body = sym (body_is s a handle 0 waits aims tagged) ∙ ap body_of own.is

    passes : (k : responder_history.History) (f : responder_values.Free) → clear_turns k ≡ clear_turns d.responder → refusal (responder_of w d) (clear_place k) (drop 1 round.body) f ≡ None
    passes k f turns =
        let told = agrees.told fits.known in
        let same : common_of d.requester ≡ (place_terms (clear_place k)).common =
        common_same (asked_negotiation d.requester) (negotiation_of (clear_turns d.responder)) (record { asked = sym told.asked; told = sym told.told })
        ∙ ap (λ (l : List Turn). (terms_of (negotiation_of l)).common) (sym turns) in
        subst (λ (l : List ℕ). refusal (responder_of w d) (clear_place k) (drop 1 l) f ≡ None) (sym own_body)
        (first_passes (responder_of w d) k f d.requester whole own.handle own.small own.large fits.sizes same (ap (λ (l : List Turn). sizes_are_known (responder_history.phase_of l)) turns ∙ told.known))

    first_below : Below next 1
    first_below =
        let piece = is_piece s a handle 0 aims in
        let taken = first_taken (responder_of w d) d round (round_clear s a handle 0 waits aims tagged) (nothing_fetched s waits piece d.fetching refl) passes answer next fetching answers in
        let x = repeat_message (kept_of next) round.tag (drop 1 round.body) taken in
        let low = round_low s a handle 0 waits aims tagged in
        let one : number_in x.0.message ≡ number_in (drop 1 round.body) = ap number_in x.2 in
        λ y is. (let same : number_in x.0.message ≡ number_in y.message = ap (λ (z : Kept). number_in z.message) (same_Some x.0 y (sym x.1 ∙ is)) in omega (arith, low, one, same))

  -- ---- While a large request is sent.

  module _ (whole : List ℕ) (sends : d.sending ≡ Some whole) where
    ack : g ≡ with_ack whole round.tag (drop 1 answer) d.requester
    unfolding Hears
    ack = subst (λ (o : Option (List ℕ)). HearsWhile o d round.tag answer g) sends hear

    states : Acked whole round.tag (drop 1 answer) d.requester
    states = acked_by whole round.tag (drop 1 answer) d.requester (outstanding d.requester) refl

    module _ (s : Sent) (b : RequestMessage) (handle number : ℕ) (waits : outstanding g ≡ Some s) (aims : s.aim ≡ ByChunks b handle number) where
      -- The next one.
      next_number : (a : RequestMessage) (own n : ℕ) → with_ack whole round.tag (drop 1 answer) d.requester ≡ TookClear round.tag (drop 1 answer) (goes_on Nothing (piece_with d.requester a whole own (n + 1))) no_draw ∷ d.requester → number ≡ n + 1
      next_number a own n is =
          let same : piece_with d.requester a whole own (n + 1) ≡ s = same_Some (piece_with d.requester a whole own (n + 1)) s (sym (ap outstanding (ack ∙ is)) ∙ waits) in
          ap number_of (sym aims) ∙ ap (λ (x : Sent). number_of x.aim) (sym same)

      old : with_ack whole round.tag (drop 1 answer) d.requester ≡ d.requester → outstanding d.requester ≡ Some s
      old is = ap outstanding (sym (ack ∙ is)) ∙ waits

      first_by : Acked whole round.tag (drop 1 answer) d.requester → number ≡ 0 → is_capable (phase_of g) ≡ true → IsFirst g whole s
      first_by (Goes x a own n here aim tagged is) zeroth known = absurd (let more = next_number a own n is in omega (arith, more, zeroth))
      first_by (Rests is rests) zeroth known =
          subst (λ (l : History). IsFirst l whole s) (sym (ack ∙ is)) (all.first whole s b handle sends (old is) (aims ∙ ap (λ (n : ℕ). ByChunks b handle n) zeroth) (ap (λ (l : History). is_capable (phase_of l)) (sym (ack ∙ is)) ∙ known))

      fits_before : (a : RequestMessage) (shown n : ℕ) → with_ack whole round.tag (drop 1 answer) d.requester ≡ TookClear round.tag (drop 1 answer) (goes_on Nothing (piece_with d.requester a whole shown (n + 1))) no_draw ∷ d.requester → Fits (responder_of w d) g → Fits (responder_of w d) d.requester
      fits_before a shown n is fits = (let there = subst (Fits (responder_of w d)) (ack ∙ is) fits in record { known = there.known; sizes = there.sizes })

      goes_below : (x : Sent) (a : RequestMessage) (own n : ℕ) → outstanding d.requester ≡ Some x → x.aim ≡ ByChunks a own n → (x.tag == round.tag) ≡ true → Fits (responder_of w d) d.requester → Below next (n + 1)
      goes_below x a own zero here aim tagged fits = first_below whole x a own sends here aim tagged fits
      goes_below x a own (suc k) here aim tagged fits =
          let low = round_low x a own (suc k) here aim tagged in
          below_on (responder_of w d) d round answer (suc k) (suc k + 1) (omega arith) (omega (arith, low)) (all.below whole x a own (suc k) sends here aim (omega arith) fits) next (answers_move (responder_of w d) d round answer next fetching answers)

      below_by_state : Acked whole round.tag (drop 1 answer) d.requester → 0 < number → Fits (responder_of w d) g → Below next number
      below_by_state (Goes x a own n here aim tagged is) above fits = subst (Below next) (sym (next_number a own n is)) (goes_below x a own n here aim tagged (fits_before a own n is fits))
      below_by_state (Rests is rests) above fits =
          let here = old is in
          let apart = rests s here (is_piece s b handle number aims) in
          below_on (responder_of w d) d round answer number number (omega arith) (all.behind whole s b handle number sends here aims above round at apart) (all.below whole s b handle number sends here aims above (subst (Fits (responder_of w d)) (ack ∙ is) fits)) next
          (answers_move (responder_of w d) d round answer next fetching answers)

      behind_by : Acked whole round.tag (drop 1 answer) d.requester → 0 < number → number_in (drop 1 round.body) < number
      behind_by (Goes x a own n here aim tagged is) above = (let low = round_low x a own n here aim tagged in let more = next_number a own n is in omega (arith, low, more))
      behind_by (Rests is rests) above = all.behind whole s b handle number sends (old is) aims above round at (rests s (old is) (is_piece s b handle number aims))

  -- ---- Where none is sent.

  module _ (none : d.sending ≡ None) where
    stays : (s : Sent) → outstanding g ≡ Some s → IsLaterAim s.aim → g ≡ d.requester
    stays s waits above = elim (heard_so d round.tag answer g none hear) [
      | inl takes ↦
          absurd (heard_later d.setup d.requester takes.1 round.tag answer takes.0 (λ x a handle here tagged aims. false≢true (sym (all.early x a handle none here aims round at) ∙ tagged))
          (λ x a handle number here aims later. all.last x a handle number none here aims later) takes.2 s (ap outstanding (sym takes.3) ∙ waits) above)
      | inr same ↦ same
    ]

    early_on : (s : Sent) (a : RequestMessage) (handle : ℕ) → outstanding g ≡ Some s → s.aim ≡ ByChunks a handle 0 → (s.tag == round.tag) ≡ false
    early_on s a handle waits aims = by_now (s.tag == round.tag) refl
      where
        by_now : (b : Bool) → (s.tag == round.tag) ≡ b → b ≡ false
        by_now false is = refl
        by_now true is = absurd (false≢true (sym (all.early s a handle none ((hears_taken d round at askers agrees.asks answer g hear).new s waits is) aims round at) ∙ is))

    module _ (s : Sent) (a : RequestMessage) (handle number : ℕ) (waits : outstanding g ≡ Some s) (aims : s.aim ≡ ByChunks a handle number) (above : 0 < number) where
      same_asker : g ≡ d.requester
      same_asker = stays s waits (is_later_aim s a handle number aims above)

      here : outstanding d.requester ≡ Some s
      here = ap outstanding (sym same_asker) ∙ waits

      tagged : (s.tag == round.tag) ≡ true
      tagged = all.told s a handle number none here aims above round at

      last_on : (piece_of (common_of g) a handle number).last ≡ true
      last_on = subst (λ (l : History). (piece_of (common_of l) a handle number).last ≡ true) (sym same_asker) (all.last s a handle number none here aims above)

      module _ (fits : Fits (responder_of w d) g) (num : number_in (drop 1 round.body) ≡ number) (repeats : is_repeat (kept_of next) round.tag (drop 1 round.body) ≡ true) (large : repeats_large None next ≡ true)
          (asks : Asks d.setup g round.tag (kept_reply (kept_of next))) where
        asked_so : Asks d.setup d.requester round.tag (kept_reply (kept_of next))
        asked_so = subst (λ (l : History). Asks d.setup l round.tag (kept_reply (kept_of next))) same_asker asks

        before : kept_of next ≡ kept_of d.responder → repeats_large None d.responder ≡ true → ⊥
        before same was =
            all.done s a handle number none here aims above (subst (Fits (responder_of w d)) same_asker fits) round at num (ap (λ (x : Option Kept). is_repeat x round.tag (drop 1 round.body)) (sym same) ∙ repeats) was
            (subst (λ (x : Option Kept). Asks d.setup d.requester round.tag (kept_reply x)) same asked_so)

        rests : is_later d.round (outstanding d.requester) ≡ false
        rests = ap (λ (o : Option Round). is_later o (outstanding d.requester)) at ∙ ap (is_later (Some round)) here ∙ ap not tagged

        idle : is_fetching (outstanding d.requester) ≡ false
        idle = ap is_fetching here ∙ ap is_for_chunk aims

        heard_it : clear_body (kept_reply (kept_of next)) ≡ answer → ⊥
        unfolding Hears
        heard_it is =
            let x = subst (λ (o : Option (List ℕ)). HearsWhile o d round.tag answer g) none hear in
            let agree = own_agree d.round d.requester d.requester d.sending d.sending askers rests none in
            let gets = subst (λ (l : List ℕ). is_fetching (outstanding (after d.requester (hears d.setup d.requester false round.tag l no_values no_draw))) ≡ true) is asked_so in
            let same = hears_alike d.setup d.requester d.requester agree no_values x.1.0 false round.tag answer no_draw in
            let got = outcome_fetching d.requester d.requester (hears d.setup d.requester false round.tag answer no_values no_draw) (hears d.setup d.requester false round.tag answer x.1.0 no_draw) idle same gets in
            false≢true (sym idle ∙ ap (λ (l : History). is_fetching (outstanding l)) (sym same_asker ∙ x.2 ∙ ap (after d.requester) (sym x.1.2)) ∙ got)

        by_answer : Answers (responder_of w d) d round answer next fetching → ⊥
        unfolding Answers
        by_answer (inl (b, x)) =
            let k = with_dropped (judging d.fetching round.body d.responder) b.0 in
            let same = plain_same (responder_of w d) k d.responder b.0 round.tag round.body b.1 b.2.1 (ap (repeats_large None) (sym b.6) ∙ large) in before (ap kept_of b.6 ∙ same.kept) same.large
        by_answer (inr (inl (whole, b, x))) =
            heard_it (ap (λ (l : responder_history.History). clear_body (kept_reply (kept_of l))) b.6
            ∙ large_reply (responder_of w d) (with_dropped (judging d.fetching round.body d.responder) b.0) d.responder round.tag round.body b.1 (round_clear s a handle number here aims tagged) b.2.1 b.3 ∙ b.5)
        by_answer (inr (inr (inl (whole, b, x)))) = before (ap kept_of b.4) (ap (repeats_large None) (sym b.4) ∙ large)
        by_answer (inr (inr (inr (b, x)))) = none_fetched s here (is_piece s a handle number aims) b.0 b.3

        done_on : ⊥
        done_on = by_answer answers

replied_stand : (w : Configuration) (d : Dialogue) (tag : ℕ) (answer : List ℕ) (next : Dialogue) → AskersAlike d.round d.requester d.requester d.sending d.sending → Agrees d → IsSound d → PiecesStand w d → Replies w d tag answer next → PiecesStand w next
replied_stand w d tag answer next askers agrees sound all c =
    let round : Round = c.0 in
    let again : Round = record round { waiting = round.waiting - 1; answered = true } in
    let hear = subst (λ (n : ℕ). Hears d n answer c.4.3.0) (sym c.2) c.4.3.1 in
    let k = c.4.0 in
    let g = c.4.3.0 in
    let f = c.4.1 in
    let how = c.4.2 in
    subst (PiecesStand w) (sym c.4.3.2) (record {
      early = λ s a handle none waits aims rd at. ap (λ (x : Round). s.tag == x.tag) (sym (same_Some again rd at)) ∙ early_on w d round c.1 askers agrees sound all answer k f how g hear none s a handle waits aims;
      last = λ s a handle number none waits aims above. last_on w d round c.1 askers agrees sound all answer k f how g hear none s a handle number waits aims above;
      told = λ s a handle number none waits aims above rd at. ap (λ (x : Round). s.tag == x.tag) (sym (same_Some again rd at)) ∙ tagged w d round c.1 askers agrees sound all answer k f how g hear none s a handle number waits aims above;
      first = λ whole s a handle sends waits aims known.
          first_by w d round c.1 askers agrees sound all answer k f how g hear whole sends s a handle 0 waits aims (states w d round c.1 askers agrees sound all answer k f how g hear whole sends) refl known;
      below = λ whole s a handle number sends waits aims above fits.
          below_by_state w d round c.1 askers agrees sound all answer k f how g hear whole sends s a handle number waits aims (states w d round c.1 askers agrees sound all answer k f how g hear whole sends) above fits;
      behind = λ whole s a handle number sends waits aims above rd at other.
          subst (λ (x : Round). number_in (drop 1 x.body) < number) (same_Some again rd at)
          (behind_by w d round c.1 askers agrees sound all answer k f how g hear whole sends s a handle number waits aims (states w d round c.1 askers agrees sound all answer k f how g hear whole sends) above);
      done = λ s a handle number none waits aims above fits rd at num repeats large asks.
          let same = same_Some again rd at in
          done_on w d round c.1 askers agrees sound all answer k f how g hear none s a handle number waits aims above fits (ap (λ (x : Round). number_in (drop 1 x.body)) same ∙ num)
          (ap (λ (x : Round). is_repeat (kept_of k) x.tag (drop 1 x.body)) same ∙ repeats) large
          (ap (λ (x : Round). is_fetching (outstanding (after g (hears d.setup g false x.tag (clear_body (kept_reply (kept_of k))) no_values no_draw)))) same ∙ asks);
    })

replies_stand : (w : Configuration) (d : Dialogue) (g : Gathered) (next : Dialogue) → AskersAlike d.round d.requester d.requester d.sending d.sending → Agrees d → IsSound d → PiecesStand w d → RepliesBy w d g next → PiecesStand w next
replies_stand w d (Whole route body) next askers agrees sound all replies = replied_stand w d route.tag body next askers agrees sound all replies.2
replies_stand w d More next askers agrees sound all replies = subst (PiecesStand w) (sym replies) all
replies_stand w d (Dropped cause) next askers agrees sound all replies = absurd replies

-- ---- A walk.

step_stands : (w : Configuration) (eid : ℕ) (older : List (List ℕ)) (d next : Dialogue) (x : Result PacketFields PacketFault) → AskersAlike d.round d.requester d.requester d.sending d.sending → Agrees d → IsSound d → PiecesStand w d → StepsBy w eid older d next x → PiecesStand w next
step_stands w eid older d next (Err fault) askers agrees sound all step = subst (PiecesStand w) (sym step) all
step_stands w eid older d next (Ok p) askers agrees sound all step = by_ends (is_request w.responder.eid eid p) (is_answer w.responder.eid eid p) step
  where
    by_ends : (b c : Bool) → MatchBool b (AsksBy d (gathered_from w.responder.eid eid older p) next) (MatchBool c (RepliesBy w d (gathered_from eid w.responder.eid older p) next) (next ≡ d)) → PiecesStand w next
    by_ends true c asks = asks_stand w d (gathered_from w.responder.eid eid older p) next askers all asks
    by_ends false true replies = replies_stand w d (gathered_from eid w.responder.eid older p) next askers agrees sound all replies
    by_ends false false same = subst (PiecesStand w) (sym same) all

begins_stand : (w : Configuration) (q : ReqSetup) → PiecesStand w (new_dialogue q)
begins_stand w q = record {
  early = λ s a handle none waits aims rd at. absurd (none-some rd at);
  last = λ s a handle number none waits aims above. absurd (none-some s waits);
  told = λ s a handle number none waits aims above rd at. absurd (none-some rd at);
  first = λ whole s a handle sends waits aims known. absurd (none-some whole sends);
  below = λ whole s a handle number sends waits aims above fits. absurd (none-some whole sends);
  behind = λ whole s a handle number sends waits aims above rd at other. absurd (none-some whole sends);
  done = λ s a handle number none waits aims above fits rd at num repeats large asks. none-some rd at;
}

pub walks_pieces : (w : Configuration) (q : ReqSetup) (older : List (List ℕ)) (d : Dialogue) → Walks w q older d → PiecesStand w d
unfolding StepsTo
walks_pieces w q [] d walk = subst (PiecesStand w) (sym walk) (begins_stand w q)
walks_pieces w q (packet ∷ older) d walk =
    step_stands w q.eid older walk.0 d (parsed packet) (walks_alike w q older walk.0 walk.0 walk.1 walk.1).alike.askers (walks_agree w q older walk.0 walk.1) (walks_sound w q older walk.0 walk.1) (walks_pieces w q older walk.0 walk.1) walk.2
