-- LargeResponse in the clear in response to which the requester asks for no chunk comes to GET_MEASUREMENTS and
-- PSK_EXCHANGE alone.
use Rattle.std.proofs.Common.{◌≡◌, ◌≢◌, ◌<◌, ◌+◌, ◌==◌, ◌&&◌, ◌||◌, ◌∙◌, ℕ, List, [], ◌∷◌, refl, sym, ap, subst, drop, length, Bool, true, false, Option, Some, None, is_some, cond, inl, inr, arith, eq-eqb}
use Rattle.std.specs.Prelude.{nat_lt, not, slice_index}
use Rattle.std.proofs.lemmas.Bool.{false≢true}
use Rattle.std.proofs.lemmas.Option.{none-some, same_Some}
use Rattle.check_ends.proofs.InTurn.{AnswersInTurn}
use Rattle.check_laws.proofs.KnownFetches.{kept_asks_none}
use Rattle.check_requester.specs.HeardKept.{asks_upon}
use Rattle.check_laws.proofs.KeptAnswers.{kept_is_restored}
use Rattle.check_laws.proofs.LargeShown.{large_is_shown}
use Rattle.check_laws.specs.AnswersShown.{is_whole, values_shown_by}
use Rattle.check_laws.specs.Keeping.{Keeps, Kept, restored}
use Rattle.check_laws.specs.LargeShown.{IsShownLarge, begun_large, drops_before, large_shown}
use Rattle.check_laws.specs.RepliesShown.{heard_from, no_values, responder_for}
use Rattle.check_laws.specs.Walks.{Walks}
use Rattle.chunking.specs.Collecting.{joined_with, under_way}
use Rattle.check_fetched_laws.proofs.LargeHeard.{large_reply}
use Rattle.check_fetched_laws.proofs.LargeTurns.{SendsLarge, turn_large}
use Rattle.check_fetched_ends.proofs.BegunPassed.{plain_large}
use Rattle.check_late_laws.proofs.Late.CapsTurns.{Settling, turn_settles}
use Rattle.check_late_laws.proofs.Late.CapsTurns.Settling.{Renews, Tells, Stays}
use Rattle.check_fetched_ends.proofs.HeldNever.{clear_shape}
use Rattle.check_fetched_ends.proofs.HeldTurns.{large_turn}
use Rattle.check_fetched_ends.proofs.LargeAsks.{IsGivenLarge, asks_first}
use Rattle.check_fetched_ends.proofs.RoundAnswered.{IsSteady, IsWaiting, walks_wait}
use Rattle.check_fetched_laws.proofs.CapsSent.{IsTagged}
use Rattle.check_fetched_ends.proofs.SameChunks.{same_common, walks_agree}
use Rattle.check_fetched_ends.specs.BegunHeld.{has_free_length}
use Rattle.mctp_framing.specs.Cutting.{RouteFields}
use Rattle.negotiate.specs.declared.shared.Common.{Common}
use Rattle.requester_machine.specs.History as requester_history
use Rattle.requester_machine.specs.History.{connection_terms, outstanding, phase_of}
use Rattle.requester_machine.specs.Hearing.{hears}
use Rattle.requester_machine.specs.Holds.{Holds}
use Rattle.requester_machine.specs.Setup.{ReqSetup}
use Rattle.requester_machine.specs.Shown as shown
use Rattle.requester_machine.specs.UnderWay.{HasSizes, is_capable}
use Rattle.responder_machine.proofs.Making.{turn_message}
use Rattle.responder_machine.specs.Answer.{Free, request_at}
use Rattle.responder_machine.specs.Handling.{carried_turn, chunk_in, last_chunk_turn, taken_chunk, turn_by, turn_of}
use Rattle.responder_machine.specs.History as responder_history
use Rattle.responder_machine.specs.History.{Entry, History, clear_turns, negotiation_of}
use Rattle.responder_machine.specs.History.Entry.{Clear}
use Rattle.responder_machine.specs.LargeMessages.{chunks_of}
use Rattle.responder_machine.specs.May.{on_body, with_dropped}
use Rattle.responder_machine.specs.Place.{Place, clear_place, inside, place_terms}
use Rattle.responder_machine.specs.Refusal.{bytes_round, code_of, refusal, sizes_are_known}
use Rattle.responder_machine.specs.Responder.{sent_by}
use Rattle.responder_machine.specs.Responder.Outcome.{Adds}
use Rattle.responder_machine.specs.Setup.{RspSetup}
use Rattle.responder_machine.specs.Turn.{Effect, Turn, handle_in, is_taken, takes}
use Rattle.responder_machine.specs.Turn.Effect.{NoEffect}
use Rattle.spdm_grammar.specs.Message.{ChunkMessage}
use Rattle.spdm_grammar.specs.declared.messages.error_code.ErrorCode.{ErrorCode}
use Rattle.spdm_grammar.specs.declared.names.request_code.TheConstants.{CHUNK_GET, CHUNK_SEND, GET_CAPABILITIES, GET_MEASUREMENTS, GET_VERSION, PSK_EXCHANGE}
use Rattle.spdm_grammar.specs.declared.told.phase.Phase.{Phase}
use Rattle.spdm_machine.specs.Bodies.{clear_body}
use Rattle.spdm_machine.specs.Terms.{hash_len, terms_of}
use Rattle.capture_machine.proofs.DropsTell.{clear_form, turns_stay}
use Rattle.capture_machine.proofs.FetchedSessions.{takes_with}
use Rattle.capture_machine.proofs.GetTells.{turn_idle}
use Rattle.capture_machine.proofs.PlainTells.{led_clear}
use Rattle.capture_machine.proofs.SmallGets.{gets_are_small}
use Rattle.capture_machine.specs.CapturedAnswers.{AnswersLarge, MayLeadTo}
use Rattle.capture_machine.specs.LargeAnswers.{IsLargeAnswer, is_fetching, is_large, place_of, unseen}
use Rattle.capture_machine.specs.Rounds.{Dialogue, Round, no_draw}
use Rattle.world_machine.specs.Setup.{Configuration}

-- ---- A turn that brings LargeResponse.

-- Where chunks are not in common, no answer goes by them.
chunk_by : (known over past chunk : Bool) → (known && over) ≡ true → (known && (past || (not chunk && over))) ≡ false → chunk ≡ true
chunk_by known over past true goes short = refl
chunk_by false over past false goes short = absurd (false≢true goes)
chunk_by true false past false goes short = absurd (false≢true goes)
chunk_by true true false false goes short = absurd (false≢true (sym short))
chunk_by true true true false goes short = absurd (false≢true (sym short))

has_chunks : (p : Place) (whole : List ℕ) → IsLargeAnswer p whole → (place_terms p).common.chunk ≡ true
has_chunks p whole large =
    chunk_by (sizes_are_known p.phase) (nat_lt (place_terms p).common.to_requester.transfer (bytes_round p.at + length whole)) (nat_lt (place_terms p).common.to_requester.max (length whole)) (place_terms p).common.chunk large.0 large.1

inside_terms : (b : Bool) (p : Place) → (place_terms (cond b (inside p) p)).common ≡ (place_terms p).common
inside_terms true p = refl
inside_terms false p = refl

module _ (r : RspSetup) (g : History) (m : List ℕ) (f : Free) (large : is_some (handle_in (turn_of r (clear_place g) m f).effect) ≡ true) where
  abbrev p : Place
  p = clear_place g

  abbrev t : Turn
  t = turn_of r (clear_place g) m f

  -- It is the last chunk, if it is one.
  taken_last : (c : ChunkMessage) (text : List ℕ) (b : Bool) → c.last ≡ b → let x = cond b (last_chunk_turn r (inside p) m f c text) (taken_chunk m c NoEffect []) in
      is_some (handle_in x.effect) ≡ true → c.last ≡ true
  taken_last c text true last goes = last
  taken_last c text false last goes = absurd (false≢true goes)

  carried_chunk : (c : ChunkMessage) (text : List ℕ) (x : Option ErrorCode) → (carried_turn r (inside p) m f c text x).chunk ≡ Some c
  carried_chunk c text (Some e) = refl
  carried_chunk c text None = refl

  chunk_is_in : (c : ChunkMessage) (text : List ℕ) (b : Bool) → (cond b (last_chunk_turn r (inside p) m f c text) (taken_chunk m c NoEffect [])).chunk ≡ Some c
  chunk_is_in c text true = carried_chunk c text (refusal r (inside p) text f)
  chunk_is_in c text false = refl

  last_by : (o : Option ErrorCode) (c : Option ChunkMessage) → is_some (handle_in (turn_by r p m f o c).effect) ≡ true → (x : ChunkMessage) → (turn_by r p m f o c).chunk ≡ Some x → x.last ≡ true
  last_by (Some e) c goes x is = absurd (false≢true goes)
  last_by None None goes x is = absurd (none-some x is)
  last_by None (Some c) goes x is =
      let text : List ℕ = joined_with (under_way (chunks_of p.turns)) c in
      let same : c ≡ x = same_Some c x (sym (chunk_is_in c text c.last) ∙ is) in
      subst (λ (y : ChunkMessage). y.last ≡ true) same (taken_last c text c.last refl goes)

  is_last : (x : ChunkMessage) → (turn_of r (clear_place g) m f).chunk ≡ Some x → x.last ≡ true
  unfolding turn_of
  is_last = last_by (refusal r p m f) (chunk_in (request_at p m)) large

  -- It was taken.
  large_taken : is_taken t ≡ true
  large_taken = by_taken (is_taken t) refl
    where
      by_taken : (b : Bool) → is_taken t ≡ b → b ≡ true
      by_taken true is = refl
      by_taken false is = absurd (false≢true (sym (ap (λ (x : Effect). is_some (handle_in x)) (turn_idle r (clear_place g) m f is)) ∙ large))

  -- It is no GET_CAPABILITIES.
  no_capabilities : Settling (responder_history.phase_of (clear_turns g)) m t → code_of m ≢ GET_CAPABILITIES
  no_capabilities (Renews version taken) code = (let no = sym version ∙ code in absurd (omega (arith, no)))
  no_capabilities (Tells early taken version caps asked answered whole) code = absurd (false≢true (sym whole ∙ large))
  no_capabilities (Stays version caps short) code = absurd (false≢true (sym (short (eq-eqb (code_of m) GET_CAPABILITIES code)).refused ∙ large_taken))

  sends : SendsLarge f.handle t
  sends = turn_large r f (clear_place g) m refl large

  pub given_large : IsGivenLarge m (turn_of r (clear_place g) m f).chunk
  given_large = record {
    len = hash_len (terms_of (negotiation_of (clear_turns g)));
    chunk = (large_turn r f g m large).chunk;
    last = is_last;
    version = λ code. sends.other (ap code_of (turn_message r (clear_place g) m f) ∙ code);
    capabilities = no_capabilities (turn_settles r g m f);
  }

  -- Nor CHUNK_GET.
  pub no_get : (tag : ℕ) (body : List ℕ) → MayLeadTo r g tag body (Adds (Clear tag (turn_of r (clear_place g) m f) no_draw)) → code_of m ≢ CHUNK_GET
  no_get tag body may code =
      let plain = plain_large r (clear_place g) m f (λ other. (let no = sym code ∙ other in absurd (omega (arith, no)))) large in
      let gets : takes CHUNK_GET t ≡ true = sym (takes_with [] None CHUNK_GET t) ∙ ap (λ (n : ℕ). n == CHUNK_GET) plain.code ∙ eq-eqb (code_of m) CHUNK_GET code in
      absurd (false≢true (sym (gets_are_small r g tag body (Clear tag t no_draw) may gets) ∙ large))

-- ---- An answer.

module _ (w : Configuration) (q : ReqSetup) (older : List (List ℕ)) (k : Kept) (route : RouteFields) (answer : List ℕ) (byte : w.responder.beat < 256) (keeps : Keeps w q older k) (turn : AnswersInTurn k route answer)
    (type : (slice_index turn.round.body 0 == 5) ≡ true) (large : IsShownLarge (responder_for w k) k.responder turn.round.tag turn.round.body answer) (holds : Holds k.setup (restored k).requester) (sizes : HasSizes k.setup) where
  abbrev r : RspSetup
  r = responder_for w k

  abbrev h : History
  h = k.responder

  abbrev round : Round
  round = turn.round

  abbrev m : List ℕ
  m = drop 1 turn.round.body

  abbrev asker : requester_history.History
  asker = (restored k).requester

  walk : Walks w q older (restored k)
  walk = (kept_is_restored w q older k keeps).0

  body_is : round.body ≡ clear_body m
  body_is = clear_shape round.body type

  -- How it was given.
  record IsGiven : Type 0 where
    pub dropped : List ℕ
    pub free : Free
    pub may : MayLeadTo (responder_for w k) (with_dropped k.responder dropped) turn.round.tag turn.round.body (Adds (Clear turn.round.tag (turn_of (responder_for w k) (clear_place (with_dropped k.responder dropped)) (drop 1 turn.round.body) free) no_draw))
    pub goes : is_some (handle_in (turn_of (responder_for w k) (clear_place (with_dropped k.responder dropped)) (drop 1 turn.round.body) free).effect) ≡ true
    pub sent : clear_body (turn_of (responder_for w k) (clear_place (with_dropped k.responder dropped)) (drop 1 turn.round.body) free).reply ≡ answer
    pub chunks : (terms_of (negotiation_of (clear_turns k.responder))).common.chunk ≡ true

  by_entry : (ids : List ℕ) (f : Free) (e : Entry) (whole : List ℕ) → Clear round.tag (turn_of r (clear_place (with_dropped h ids)) m f) no_draw ≡ e → MayLeadTo r (with_dropped h ids) round.tag round.body (Adds e)
      → is_large e ≡ true → IsLargeAnswer (place_of h e) whole → sent_by e ≡ answer → IsGiven
  by_entry ids f e whole is may goes fits sent =
      let t : Turn = turn_of r (clear_place (with_dropped h ids)) m f in
      let at : IsLargeAnswer (place_of h (Clear round.tag t no_draw)) whole = subst (λ (x : Entry). IsLargeAnswer (place_of h x) whole) (sym is) fits in record {
        dropped = ids;
        free = f;
        may = subst (λ (x : Entry). MayLeadTo r (with_dropped h ids) round.tag round.body (Adds x)) (sym is) may;
        goes = ap is_large is ∙ goes;
        sent = ap sent_by is ∙ sent;
        chunks = ap (λ (c : Common). c.chunk) (sym (inside_terms (is_some t.chunk) (clear_place h))) ∙ has_chunks (place_of h (Clear round.tag t no_draw)) whole at;
      }

  given : IsGiven
  given =
      let next : History = begun_large h (large_shown r h round.tag round.body answer) in
      let came = (large_is_shown r (restored k) round answer next byte).1 (large, refl) in
      let c = came.1 in
      let g : History = with_dropped h c.0 in
      let led = led_clear r g round.tag round.body (Adds c.1) type c.2.1 in
      elim (clear_form r g round.tag m led.free (Adds c.1) led.leads) [
        | inl same ↦ absurd (let x = same.1 in cc)
        | inr adds ↦ by_entry c.0 led.free c.1 came.0 (cc (sym adds)) c.2.1 c.3 c.4 c.5
      ]

  -- The requester awaits its answer.
  awaited : IsTagged asker round.tag → is_fetching (outstanding (heard_from k round.tag answer)) ≡ true
  unfolding heard_from
  awaited tagged =
      let agrees = walks_agree w q older (restored k) walk in
      let g : History = with_dropped h given.dropped in
      let c : Option ChunkMessage = (turn_of r (clear_place g) m given.free).chunk in
      let sent = agrees.body tagged.sent round tagged.waits turn.answers.0 tagged.tagged ∙ body_is in
      let reply = (turn_large r given.free (clear_place g) m refl given.goes).reply in
      let is : clear_body (large_reply c given.free.handle) ≡ answer = ap clear_body (sym reply) ∙ given.sent in
      subst (λ (l : List ℕ). is_fetching (outstanding (shown.after asker (hears k.setup asker false round.tag l no_values no_draw))) ≡ true) is
      (asks_first k.setup asker no_values round.tag tagged.sent holds sizes tagged.waits tagged.tagged (agrees.asks tagged.sent tagged.waits) m sent c (given_large r g m given.free given.goes) given.free.handle
      (λ known. ap (λ (x : Common). x.chunk) (same_common w q older (restored k) walk known) ∙ given.chunks) (kept_asks_none w q older k keeps))

  module _ (other : has_free_length (code_of (drop 1 turn.round.body)) ≡ false) where
    free_by : (n : ℕ) → code_of m ≡ n → has_free_length n ≡ true → ⊥
    free_by n is free = false≢true (sym other ∙ ap has_free_length is ∙ free)

    steady : IsSteady m
    steady = record {
      measures = λ is. free_by GET_MEASUREMENTS is refl;
      exchange = λ is. free_by PSK_EXCHANGE is refl;
      version = (given_large r (with_dropped h given.dropped) m given.free given.goes).version;
      get = no_get r (with_dropped h given.dropped) m given.free given.goes round.tag round.body given.may;
    }

    -- Nothing was answered in this round.
    not_answered : ((ids : List ℕ) (f : Free) → is_whole (on_body r (with_dropped h ids) round.tag (clear_body m) f no_draw) ≡ true) → ⊥
    unfolding large_shown
    not_answered none =
        false≢true (sym large.1 ∙ subst (λ (l : List ℕ). is_whole (on_body r (with_dropped h (drops_before h round.body)) round.tag l (values_shown_by r (with_dropped h (drops_before h round.body)) round.tag round.body answer) no_draw) ≡ true) (sym body_is)
        (none (drops_before h round.body) (values_shown_by r (with_dropped h (drops_before h round.body)) round.tag round.body answer)))

    none_unfetched : asks_upon k route.tag answer ≡ false → ⊥
    none_unfetched idle = elim ((walks_wait w q older (restored k) walk).waits refl round turn.answers.0) [
      | inl tagged ↦ false≢true (sym idle ∙ ap (λ (n : ℕ). asks_upon k n answer) (sym turn.answers.1) ∙ awaited tagged)
      | inr answered ↦ not_answered (answered type steady)
    ]

  -- So the request is GET_MEASUREMENTS or PSK_EXCHANGE.
  pub is_free : asks_upon k route.tag answer ≡ false → has_free_length (code_of (drop 1 turn.round.body)) ≡ true
  is_free idle = by_free (has_free_length (code_of m)) refl
    where
      by_free : (b : Bool) → has_free_length (code_of m) ≡ b → b ≡ true
      by_free true is = refl
      by_free false is = absurd (none_unfetched is idle)
