-- A request in the clear that was answered was taken or refused, and gets no LargeResponse again.
use Rattle.std.proofs.Common.{◌≡◌, ◌≢◌, ◌==◌, ◌&&◌, ◌+◌, ◌-◌, ◌∙◌, ◌⊎◌, ℕ, List, [], ◌∷◌, refl, sym, ap, subst, drop, Bool, true, false, Option, Some, None, Result, Ok, Err, is_some, cond, inl, inr, eq-eqb}
use Rattle.std.specs.Prelude.{MatchBool, bytes_eq, not, slice_index}
use Rattle.std.proofs.lemmas.Bool.{false≢true, not-false}
use Rattle.std.proofs.lemmas.Option.{none-some, same_Some}
use Rattle.std.proofs.lemmas.Slice.Eq.{bytes_eq-Decides}
use Rattle.check_laws.proofs.OneWalk.{begun_later, walks_alike}
use Rattle.check_laws.specs.AnswersShown.{is_whole}
use Rattle.check_laws.specs.Order.{is_answer, is_request}
use Rattle.check_laws.specs.Walks.{StepsBy, StepsTo, Walks}
use Rattle.chunking.specs.Collecting.{joined_with, under_way}
use Rattle.check_fetched_laws.proofs.WalksSound.{walk_stands}
use Rattle.check_late_laws.proofs.Late.CapsAsked.{AllAsk}
use Rattle.check_fetched_laws.proofs.CapsSent.{IsTagged, sends_begun}
use Rattle.check_fetched_ends.proofs.HeldNever.{clear_shape}
use Rattle.check_fetched_ends.proofs.RefusedAgain.{none_large_again}
use Rattle.check_fetched_ends.proofs.SameChunks.{walks_agree}
use Rattle.mctp_framing.specs.Gathering.{Gathered}
use Rattle.mctp_framing.specs.Gathering.Gathered.{Whole, More, Dropped}
use Rattle.mctp_framing.specs.Packet.{PacketFields, parsed}
use Rattle.requester_machine.specs.History.{outstanding}
use Rattle.requester_machine.specs.Message.{Sent}
use Rattle.requester_machine.specs.Setup.{ReqSetup}
use Rattle.responder_machine.proofs.Making.{turn_message}
use Rattle.responder_machine.specs.Answer.{Free, request_at}
use Rattle.responder_machine.specs.Handling.{carried_turn, chunk_in, last_chunk_turn, taken_chunk, turn_by, turn_of}
use Rattle.responder_machine.specs.History.{Entry, History, Kept, kept_of}
use Rattle.responder_machine.specs.History.Entry.{Clear}
use Rattle.responder_machine.specs.LargeMessages.{chunks_of}
use Rattle.responder_machine.specs.May.{on_body, with_dropped}
use Rattle.responder_machine.specs.Place.{Place, clear_place, inside}
use Rattle.responder_machine.specs.Refusal.{code_of, refusal}
use Rattle.responder_machine.specs.Responder.{Outcome, after, is_repeat, kept_reply, on_clear}
use Rattle.responder_machine.specs.Responder.Outcome.{Same, Adds}
use Rattle.responder_machine.specs.Setup.{RspSetup, towards}
use Rattle.responder_machine.specs.Turn.{Turn, is_taken}
use Rattle.responder_machine.specs.Turn.Effect.{NoEffect}
use Rattle.spdm_basis.specs.declared.PacketFault.{PacketFault}
use Rattle.spdm_grammar.specs.Message.{ChunkMessage}
use Rattle.spdm_grammar.specs.Message.RequestMessage.{ChunkGet, GetVersion}
use Rattle.spdm_grammar.specs.Requests.{canonical_request}
use Rattle.spdm_grammar.specs.declared.messages.error_code.ErrorCode.{ErrorCode}
use Rattle.spdm_grammar.specs.declared.names.request_code.TheConstants.{CHUNK_GET, GET_MEASUREMENTS, GET_VERSION, PSK_EXCHANGE}
use Rattle.spdm_machine.specs.Bodies.{clear_body}
use Rattle.spdm_machine.specs.Packets.{gathered_from}
use Rattle.capture_machine.proofs.AskersAlike.{AskersAlike}
use Rattle.capture_machine.proofs.DropsTell.{kept_same}
use Rattle.capture_machine.proofs.FetchBegins.{large_leaves}
use Rattle.capture_machine.proofs.FetchStates.{Getting}
use Rattle.capture_machine.proofs.FetchStates.Getting.{Asks, Repeats, Seals}
use Rattle.capture_machine.proofs.FetchedAnswers.{repeated}
use Rattle.capture_machine.proofs.FetchedTold.{Stands}
use Rattle.capture_machine.proofs.PlainTells.{led_clear}
use Rattle.capture_machine.specs.Capture.{AsksBy, Begins, Copies, Replies, RepliesBy}
use Rattle.capture_machine.specs.CapturedAnswers.{Answers, MayLeadTo}
use Rattle.capture_machine.specs.CapturedRequests.{is_later}
use Rattle.capture_machine.specs.LargeAnswers.{judging, place_named, unseen, with_large}
use Rattle.capture_machine.specs.Rounds.{Dialogue, Round, new_dialogue, new_round, no_draw}
use Rattle.world_machine.specs.Setup.{Configuration, known_of}

-- ---- What was answered.

-- How long the answers to GET_MEASUREMENTS and PSK_EXCHANGE are is free; GET_VERSION and CHUNK_GET come while a large
-- response is fetched. Any other request is one of these.
pub record IsSteady (m : List ℕ) : Type 0 where
  pub measures : code_of m ≢ GET_MEASUREMENTS
  pub exchange : code_of m ≢ PSK_EXCHANGE
  pub version : code_of m ≢ GET_VERSION
  pub get : code_of m ≢ CHUNK_GET

-- It gets none, whatever was dropped before, and whatever is chosen.
abbrev pub NoneLarge : RspSetup → History → ℕ → List ℕ → Type 0
NoneLarge r h tag m = (ids : List ℕ) (f : Free) → is_whole (on_body r (with_dropped h ids) tag (clear_body m) f no_draw) ≡ true

module _ (r : RspSetup) (tag : ℕ) (m : List ℕ) where
  again_whole : (g : History) (f : Free) → is_repeat (kept_of g) tag m ≡ true → is_whole (on_clear r g tag m f no_draw) ≡ true
  unfolding on_clear
  again_whole g f again = ap (λ (b : Bool). is_whole (cond b (Same (clear_body (kept_reply (kept_of g)))) (Adds (Clear tag (turn_of r (clear_place g) m f) no_draw)))) again

  -- What was taken is a repeat.
  repeats_none : (h : History) → is_repeat (kept_of h) tag m ≡ true → NoneLarge r h tag m
  repeats_none h again ids f = again_whole (with_dropped h ids) f (ap (λ (o : Option Kept). is_repeat o tag m) (kept_same ids h) ∙ again)

  carried_taken : (p : Place) (f : Free) (c : ChunkMessage) (text : List ℕ) (x : Option ErrorCode) → is_taken (carried_turn r p m f c text x) ≡ true
  carried_taken p f c text (Some e) = refl
  carried_taken p f c text None = refl

  chunk_taken : (p : Place) (f : Free) (c : ChunkMessage) (text : List ℕ) (b : Bool) → is_taken (cond b (last_chunk_turn r p m f c text) (taken_chunk m c NoEffect [])) ≡ true
  chunk_taken p f c text true = carried_taken p f c text (refusal r p text f)
  chunk_taken p f c text false = refl

  by_parts : (p : Place) (f : Free) (x : Option ErrorCode) (c : Option ChunkMessage) → (is_taken (turn_by r p m f x c) ≡ true) ⊎ ((e : ErrorCode) × (x ≡ Some e))
  by_parts p f (Some e) c = inr (e, refl)
  by_parts p f None None = inl refl
  by_parts p f None (Some c) = inl (chunk_taken (inside p) f c (joined_with (under_way (chunks_of p.turns)) c) c.last)

  -- A turn is taken, or its message is refused.
  pub turn_taken : (p : Place) (f : Free) → (is_taken (turn_of r p m f) ≡ true) ⊎ ((e : ErrorCode) × (refusal r p m f ≡ Some e))
  unfolding turn_of
  turn_taken p f = by_parts p f (refusal r p m f) (chunk_in (request_at p m))

  pub taken_again : (t : Turn) (g : History) → is_taken t ≡ true → t.message ≡ m → is_repeat (kept_of (Clear tag t no_draw ∷ g)) tag m ≡ true
  taken_again t g taken spells =
      ap (λ (b : Bool). is_repeat (cond b (Some (record { tag = tag; message = t.message; reply = t.reply })) (kept_of g)) tag m) taken
      ∙ ap (λ (b : Bool). b && bytes_eq t.message m) (eq-eqb tag tag refl) ∙ (bytes_eq-Decides t.message m).1 spells

  module _ (steady : IsSteady m) where
    turn_none : (g : History) (f : Free) → NoneLarge r (Clear tag (turn_of r (clear_place g) m f) no_draw ∷ g) tag m
    turn_none g f = elim (turn_taken (clear_place g) f) [
      | inl taken ↦ repeats_none (Clear tag (turn_of r (clear_place g) m f) no_draw ∷ g) (taken_again (turn_of r (clear_place g) m f) g taken (turn_message r (clear_place g) m f))
      | inr refused ↦ λ ids k. none_large_again r g tag m f k no_draw ids refused.0 steady.measures steady.exchange refused.1
    ]

    -- Whatever it led to.
    led_none : (g : History) (f : Free) (o : Outcome) → on_clear r g tag m f no_draw ≡ o → NoneLarge r (after g o) tag m
    unfolding on_clear
    led_none g f o leads = subst (λ (x : Outcome). NoneLarge r (after g x) tag m) leads (by_again (is_repeat (kept_of g) tag m) refl)
      where
        by_again : (b : Bool) → is_repeat (kept_of g) tag m ≡ b → NoneLarge r (after g (cond b (Same (clear_body (kept_reply (kept_of g)))) (Adds (Clear tag (turn_of r (clear_place g) m f) no_draw)))) tag m
        by_again true again = repeats_none g again
        by_again false other = turn_none g f

-- ---- An answer.

get_code : (handle number : ℕ) → code_of (canonical_request (ChunkGet handle number)) ≡ CHUNK_GET
get_code handle number = refl

-- While a large response is fetched it is a repeat.
fetched_again : (h : History) (w : List ℕ) (tag : ℕ) (body : List ℕ) → (slice_index body 0 == 5) ≡ true → IsSteady (drop 1 body) → Stands h w tag body → is_repeat (kept_of h) tag (drop 1 body) ≡ true
fetched_again h w tag body type steady (inl version) = absurd (steady.version (ap (λ (l : List ℕ). code_of (drop 1 l)) version))
fetched_again h w tag body type steady (inr fetch) = by_how fetch.how
  where
    by_how : Getting h tag body → is_repeat (kept_of h) tag (drop 1 body) ≡ true
    by_how (Asks handle number is since) = absurd (steady.get (ap (λ (l : List ℕ). code_of (drop 1 l)) is ∙ get_code handle number))
    by_how (Repeats clear again since) = again
    by_how (Seals sealed within) = absurd (false≢true (sym sealed ∙ type))

module _ (r : RspSetup) (d : Dialogue) (round : Round) (type : (slice_index round.body 0 == 5) ≡ true) (steady : IsSteady (drop 1 round.body))
    (fetched : (w : List ℕ) → d.fetching ≡ Some w → is_repeat (kept_of d.responder) round.tag (drop 1 round.body) ≡ true) where
  abbrev m : List ℕ
  m = drop 1 round.body

  abbrev h : History
  h = d.responder

  dropped_again : (ids : List ℕ) → is_repeat (kept_of h) round.tag m ≡ true → is_repeat (kept_of (with_dropped h ids)) round.tag m ≡ true
  dropped_again ids again = ap (λ (o : Option Kept). is_repeat o round.tag m) (kept_same ids h) ∙ again

  by_fetching : (x : Option (List ℕ)) → d.fetching ≡ x → (ids : List ℕ) (o : Outcome) → MayLeadTo r (with_dropped (judging x round.body h) ids) round.tag round.body o → NoneLarge r (after (with_dropped h ids) o) round.tag m
  by_fetching None is ids o may = let led = led_clear r (with_dropped h ids) round.tag round.body o type may in led_none r round.tag m steady (with_dropped h ids) led.free o led.leads
  by_fetching (Some w) is ids o may =
      let again = fetched w is in
      let led = led_clear r (with_dropped (with_large (place_named round.body) w h) ids) round.tag round.body o type may in
      let same = repeated r h (place_named round.body) w ids round.tag round.body o again led in
      subst (λ (x : Outcome). NoneLarge r (after (with_dropped h ids) x) round.tag m) (sym same) (repeats_none r round.tag m (with_dropped h ids) (dropped_again ids again))

  -- No last chunk comes.
  never_last : (x : Option (List ℕ)) (w : List ℕ) (e : Entry) → d.fetching ≡ x → x ≡ Some w → MayLeadTo r (judging x round.body h) round.tag round.body (Adds e) → ⊥
  never_last None w e is some may = none-some w some
  never_last (Some v) w e is some may =
      let same = repeated r h (place_named round.body) v [] round.tag round.body (Adds e) (fetched v is) (led_clear r (with_large (place_named round.body) v h) round.tag round.body (Adds e) type may) in absurd (cc)

  pub answered_none : (answer : List ℕ) (next : History) (fetching : Option (List ℕ)) → Answers r d round answer next fetching → NoneLarge r next round.tag m
  unfolding Answers
  answered_none answer next fetching (inl (a, same)) = subst (λ (l : History). NoneLarge r l round.tag m) (sym a.6) (by_fetching d.fetching refl a.0 a.1 a.2.1)
  answered_none answer next fetching (inr (inl (whole, a, same))) =
      let leaves = large_leaves r (with_dropped (judging d.fetching round.body h) a.0) round.tag round.body a.1 a.2.1 a.3 in
      subst (λ (l : History). NoneLarge r l round.tag m) (sym a.6) (repeats_none r round.tag m (unseen a.1 ∷ h) (leaves.again h type))
  answered_none answer next fetching (inr (inr (inl (whole, a, same)))) =
      let led = led_clear r h round.tag round.body (Same answer) type a.1 in
      subst (λ (l : History). NoneLarge r l round.tag m) (sym a.4) (led_none r round.tag m steady h led.free (Same answer) led.leads)
  answered_none answer next fetching (inr (inr (inr (a, same)))) = absurd (never_last d.fetching a.0 a.2 refl a.3 a.4)

-- ---- A walk.

-- The requester awaits the answer to the round's request, or that was answered.
abbrev pub IsWaiting : RspSetup → Dialogue → Round → Type 0
IsWaiting r d round =
    IsTagged d.requester round.tag
    ⊎ ((slice_index round.body 0 == 5) ≡ true → IsSteady (drop 1 round.body) → NoneLarge r d.responder round.tag (drop 1 round.body))

-- So it is where no large request is in progress.
pub record Waits (w : Configuration) (d : Dialogue) : Type 0 where
  pub waits : d.sending ≡ None → (round : Round) → d.round ≡ Some round → IsWaiting (towards w.responder (known_of d.setup)) d round

tagged_by : (tag : ℕ) (s : Sent) → not (s.tag == tag) ≡ false → (s.tag == tag) ≡ true
tagged_by tag s is = not-false (s.tag == tag) is

module _ (w : Configuration) (d : Dialogue) (askers : AskersAlike d.round d.requester d.requester d.sending d.sending) (own : AllAsk d.requester) (all : Waits w d) where
  abbrev r : RspSetup
  r = towards w.responder (known_of d.setup)

  copies_wait : (tag : ℕ) (body : List ℕ) (next : Dialogue) → Copies d tag body next → Waits w next
  copies_wait tag body next c =
      let again : Round = record c.0 { waiting = c.0.waiting + 1 } in
      subst (Waits w) (sym c.4) (record { waits = λ none round at. subst (IsWaiting r d) (same_Some again round at) (all.waits none c.0 c.1) })

  begun_waits : (tag : ℕ) (body : List ℕ) (next : Dialogue) → Begins d tag body next → Waits w next
  begun_waits tag body next b =
      let begun = sends_begun d body b.2.0 b.2.1 askers own b.2.2 in
      let to : Dialogue = record d { requester = b.2.0; sending = b.2.1; round = Some (new_round tag body) } in
      subst (Waits w) (sym b.2.3) (record {
        waits = λ none round at.
            let later = begun_later d.setup d.requester d.requester d.sending d.sending d.responder d.round d.fetching tag body b.2.0 b.2.1 askers b.1 none b.2.2 in
            let same : not (begun.sent.tag == tag) ≡ false = sym (ap (λ (o : Option Sent). is_later (Some (new_round tag body)) o) begun.waits) ∙ later in
            let tagged : IsTagged b.2.0 tag = record { sent = begun.sent; waits = begun.waits; tagged = tagged_by tag begun.sent same } in
            subst (IsWaiting r to) (same_Some (new_round tag body) round at) (inl tagged);
      })

  asked_waits : (g : Gathered) (next : Dialogue) → AsksBy d g next → Waits w next
  asked_waits (Whole route body) next asks = elim asks.2 [ inl copies ↦ copies_wait route.tag body next copies | inr begins ↦ begun_waits route.tag body next begins ]
  asked_waits More next asks = subst (Waits w) (sym asks) all
  asked_waits (Dropped cause) next asks = absurd asks

  module _ (stands : (v : List ℕ) (round : Round) → d.fetching ≡ Some v → d.round ≡ Some round → Stands d.responder v round.tag round.body) where
    replied_waits : (tag : ℕ) (answer : List ℕ) (next : Dialogue) → Replies w d tag answer next → Waits w next
    replied_waits tag answer next c =
        let round : Round = c.0 in
        let own_round : Round = record round { waiting = round.waiting - 1; answered = true } in
        subst (Waits w) (sym c.4.3.2) (record {
          waits = λ none other at.
              subst (λ (x : Round). IsTagged c.4.3.0 x.tag ⊎ ((slice_index x.body 0 == 5) ≡ true → IsSteady (drop 1 x.body) → NoneLarge r c.4.0 x.tag (drop 1 x.body))) (same_Some own_round other at)
              (inr (λ type steady. answered_none r d round type steady (λ v is. fetched_again d.responder v round.tag round.body type steady (stands v round is c.1)) answer c.4.0 c.4.1 c.4.2));
        })

    replies_wait : (g : Gathered) (next : Dialogue) → RepliesBy w d g next → Waits w next
    replies_wait (Whole route body) next replies = replied_waits route.tag body next replies.2
    replies_wait More next replies = subst (Waits w) (sym replies) all
    replies_wait (Dropped cause) next replies = absurd replies

    step_waits : (eid : ℕ) (older : List (List ℕ)) (next : Dialogue) (x : Result PacketFields PacketFault) → StepsBy w eid older d next x → Waits w next
    step_waits eid older next (Err fault) step = subst (Waits w) (sym step) all
    step_waits eid older next (Ok p) step = by_ends (is_request w.responder.eid eid p) (is_answer w.responder.eid eid p) step
      where
        by_ends : (b c : Bool) → MatchBool b (AsksBy d (gathered_from w.responder.eid eid older p) next) (MatchBool c (RepliesBy w d (gathered_from eid w.responder.eid older p) next) (next ≡ d)) → Waits w next
        by_ends true c asks = asked_waits (gathered_from w.responder.eid eid older p) next asks
        by_ends false true replies = replies_wait (gathered_from eid w.responder.eid older p) next replies
        by_ends false false same = subst (Waits w) (sym same) all

begins_waits : (w : Configuration) (q : ReqSetup) → Waits w (new_dialogue q)
begins_waits w q = record { waits = λ none round at. absurd (none-some round at) }

pub walks_wait : (w : Configuration) (q : ReqSetup) (older : List (List ℕ)) (d : Dialogue) → Walks w q older d → Waits w d
unfolding StepsTo
walks_wait w q [] d walk = subst (Waits w) (sym walk) (begins_waits w q)
walks_wait w q (packet ∷ older) d walk =
    step_waits w walk.0 (walks_alike w q older walk.0 walk.0 walk.1 walk.1).alike.askers (walks_agree w q older walk.0 walk.1).asks (walks_wait w q older walk.0 walk.1)
    (λ v round is at. walk_stands w q older walk.0 v round walk.1 is at) q.eid older d (parsed packet) walk.2
