-- LargeResponse again to GET_MEASUREMENTS or PSK_EXCHANGE in the clear: it goes on, and where the requester asks for a
-- chunk in response to it, a fetch begins late.
use Rattle.std.proofs.Common.{◌≡◌, ◌≢◌, ◌⊎◌, ◌≤◌, ◌<◌, ◌+◌, ◌==◌, ◌&&◌, ◌||◌, ◌++◌, ◌∙◌, ℕ, List, [], ◌∷◌, refl, sym, ap, subst, drop, length, arith, Bool, true, false, Option, Some, None, is_some, cond, inl, inr, eqb-true}
use Rattle.std.specs.Prelude.{MatchBool, is_none, nat_lt, not, slice_index}
use Rattle.std.proofs.lemmas.Bool.{false≢true}
use Rattle.std.proofs.lemmas.Bool.Decides.{nat_tests}
use Rattle.check_requester.proofs.CarriedBy.{keeps_carries}
use Rattle.check_ends.proofs.InTurn.{AnswersInTurn}
use Rattle.check_responder.specs.AnswerKeys as answer_keys
use Rattle.check_responder.specs.JudgedResponder.{shows_large}
use Rattle.check_requester.specs.JudgedRequester.{IsAsker}
use Rattle.check_requester.specs.HeardKept.{asks_upon, heard_kept}
use Rattle.check_responder.specs.ShownBy.{HasFewBlocks}
use Rattle.check_ends.specs.declared.party.Party.{Party}
use Rattle.check_laws.proofs.KeptAnswers.{kept_is_restored}
use Rattle.check_laws.proofs.LargeFits.{large_fits}
use Rattle.check_laws.proofs.LeastValues.{least_allowed}
use Rattle.check_laws.specs.AnswersShown.{least_values}
use Rattle.check_laws.specs.Changes.{answered_in}
use Rattle.check_laws.specs.DropsShown.{response_of}
use Rattle.check_laws.specs.Keeping.{Keeps, Kept, RepliesKept, restored}
use Rattle.check_laws.specs.LargeShown.{whole_of}
use Rattle.check_laws.specs.RepliesShown.{answered, responder_for}
use Rattle.check_laws.specs.Rows as rows_of
use Rattle.check_laws.specs.Walks.{Walks}
use Rattle.chunking.specs.Collecting.{joined_with, under_way}
use Rattle.responder_core.proofs.Whole.{turn_short}
use Rattle.responder_core.specs.Connected as connected
use Rattle.check_fetched_laws.proofs.FewBytes.{answers_few}
use Rattle.check_fetched_laws.proofs.RestQuiet.{none_pends_in_clear}
use Rattle.check_fetched_laws.specs.ClearChunks.{clear_with}
use Rattle.check_fetched_laws.specs.ClearSessions.{is_clear_get}
use Rattle.check_fetched_ends.proofs.HeardOn.{heard_on}
use Rattle.check_fetched_ends.proofs.HeldLengths.{lengths_are}
use Rattle.check_fetched_ends.proofs.HeldNever.{clear_shape}
use Rattle.check_fetched_ends.proofs.LargeShows.{AllShow, repeats_shown, shows_at, walk_shows}
use Rattle.check_fetched_ends.proofs.LateRequest.{late_before}
use Rattle.check_fetched_ends.proofs.LateShown.{response_plain}
use Rattle.check_fetched_ends.specs.BegunHeld.{has_free_length}
use Rattle.check_fetched_ends.specs.Fetched.{rows_upon}
use Rattle.check_fetched_ends.specs.GetsHeld.{GiveAll, GiveChunks, GivesChunk}
use Rattle.check_fetched_ends.specs.Held.{HasGets, IsHeldIn, IsLate, IsQuiet}
use Rattle.check_fetched_ends.specs.HeldAgain.{IsHeldAgain}
use Rattle.check_fetched_ends.specs.InSession.{AreLengths}
use Rattle.check_fetched_ends.specs.LateBefore.{IsLateBefore}
use Rattle.check_fetched_ends.specs.declared.clear_fetch.held.Held.{Held}
use Rattle.check_late_laws.specs.Fetching.{Fetching, gives_in, number_given, number_of}
use Rattle.check_late_laws.specs.FetchingLaws.{BeginsFetching}
use Rattle.check_late_laws.proofs.Late.Behind.{kept_passed, repeat_is_passed, repeat_stands_back}
use Rattle.check_late_laws.proofs.Late.WalksAnew.{request_was_anew}
use Rattle.check_late_laws.proofs.Late.WalksLed.{request_was_led}
use Rattle.check_late_laws.specs.Late.Marking as marking
use Rattle.check_late_laws.specs.Late.Passed.{AreBehind, IsPassed, StandsBack}
use Rattle.check_late_laws.specs.Late.PassedLarge.{IsLedLargely}
use Rattle.check_late_laws.specs.Late.PassedLast.{IsFree, WasAnew}
use Rattle.check_late_laws.specs.declared.late_fetch.marks.Marks.{Marks}
use Rattle.mctp_framing.specs.Cutting.{RouteFields}
use Rattle.mctp_framing.specs.Gathering.Gathered.{Whole}
use Rattle.negotiate.specs.declared.shared.Common.{Common}
use Rattle.requester_machine.specs.History.{outstanding}
use Rattle.requester_machine.specs.May.{IsSetUp}
use Rattle.requester_machine.specs.Setup.{ReqSetup}
use Rattle.responder_machine.specs.Answer.{Free, request_at}
use Rattle.responder_machine.specs.Handling.{chunk_in, turn_of}
use Rattle.responder_machine.specs.History as responder_history
use Rattle.responder_machine.specs.History.{Entry, History, clear_turns, kept_of, negotiation_of, phase_of}
use Rattle.responder_machine.specs.History.Entry.{Clear, Sealed, Queued, Ticked, Dropped}
use Rattle.responder_machine.specs.LargeMessages.{chunks_of, handle_of}
use Rattle.responder_machine.specs.May.{with_dropped}
use Rattle.responder_machine.specs.Place.{Place, clear_place, inside, place_terms}
use Rattle.responder_machine.specs.Refusal.{code_of, sizes_are_known}
use Rattle.responder_machine.specs.Responder.Outcome.{Same, Adds}
use Rattle.responder_machine.specs.Responder.{is_repeat, kept_reply, on_clear}
use Rattle.responder_machine.specs.Setup.{RspSetup}
use Rattle.responder_machine.specs.Turn.{Effect, Turn, code_in, handle_in, is_taken, takes}
use Rattle.spdm_grammar.specs.Message.{ChunkMessage}
use Rattle.spdm_grammar.specs.declared.messages.error_code.ErrorCode.{ErrorCode}
use Rattle.spdm_grammar.specs.declared.names.TheConstants.{MAX_MESSAGE_SIZE}
use Rattle.spdm_grammar.specs.declared.names.request_code.TheConstants.{CHUNK_GET, GET_MEASUREMENTS, PSK_EXCHANGE}
use Rattle.spdm_machine.specs.Bodies.{clear_body}
use Rattle.spdm_machine.specs.Keys.{Draw}
use Rattle.spdm_machine.specs.Terms.{terms_of}
use Rattle.capture_machine.proofs.DropsTell.{clear_form}
use Rattle.capture_machine.proofs.PlacesServed.{named_clear}
use Rattle.capture_machine.proofs.PlainTells.{led_clear}
use Rattle.capture_machine.specs.Capture.{RepliesBy}
use Rattle.capture_machine.specs.CapturedAnswers.{Answers, AnswersAgain, AnswersPlainly, MayLeadTo, answer_at}
use Rattle.capture_machine.specs.LargeAnswers.{IsLargeAnswer, asks_known, is_fetching, is_kept_in, is_large, is_unseen_effect, is_unseen_in, place_again, place_named, place_of, repeats_large, takes_get, turn_with, unseen, while_fetched}
use Rattle.capture_machine.specs.Rounds.{Dialogue, Round, no_draw}
use Rattle.capture_machine.specs.SessionTable.{Row, number_from}
use Rattle.world_machine.specs.Setup.{Configuration}

-- ---- Behind the request, in the clear.

free_is : (n : ℕ) → has_free_length n ≡ true → (n ≡ GET_MEASUREMENTS) ⊎ (n ≡ PSK_EXCHANGE)
free_is n is = by_first (n == GET_MEASUREMENTS) refl is
  where
    by_first : (b : Bool) → (n == GET_MEASUREMENTS) ≡ b → (b || n == PSK_EXCHANGE) ≡ true → (n ≡ GET_MEASUREMENTS) ⊎ (n ≡ PSK_EXCHANGE)
    by_first true one two = inl (eqb-true n GET_MEASUREMENTS one)
    by_first false one two = inr (eqb-true n PSK_EXCHANGE two)

free_code : (e : Effect) (n : ℕ) → code_in e ≡ n → (n ≡ GET_MEASUREMENTS) ⊎ (n ≡ PSK_EXCHANGE) → (code_in e ≡ GET_MEASUREMENTS) ⊎ (code_in e ≡ PSK_EXCHANGE)
free_code e n is (inl one) = inl (is ∙ one)
free_code e n is (inr one) = inr (is ∙ one)

-- A request whose answer was not seen has its place by its chunk.
place_unseen : (h : History) (e : Entry) → place_of h (unseen e) ≡ place_of h e
place_unseen h (Clear tag t d) = refl
place_unseen h (Sealed tag m t reply d) = refl
place_unseen h (Queued bytes) = refl
place_unseen h (Ticked seconds) = refl
place_unseen h (Dropped id) = refl

-- The place by whose sizes a repeat of it is answered.
place_back : (all : History) (es : List Entry) (tag : ℕ) (t : Turn) (d : Draw) (before : History) → AreBehind es → is_taken t ≡ true → place_again None all (es ++ Clear tag t d ∷ before) ≡ place_of all (Clear tag t d)
place_back all [] tag t d before are taken = ap (λ (b : Bool). cond b (place_of all (Clear tag t d)) (place_again None all before)) taken
place_back all (Clear n u x ∷ es) tag t d before are taken =
    ap (λ (b : Bool). cond b (place_of all (Clear n u x)) (place_again None all (es ++ Clear tag t d ∷ before))) are.0.0 ∙ place_back all es tag t d before are.1 taken
place_back all (Sealed n m u reply x ∷ es) tag t d before are taken = place_back all es tag t d before are.1 taken
place_back all (Queued bytes ∷ es) tag t d before are taken = absurd are.0
place_back all (Ticked seconds ∷ es) tag t d before are taken = absurd are.0
place_back all (Dropped id ∷ es) tag t d before are taken = place_back all es tag t d before are.1 taken

-- No chunk came since.
none_since : (es : List Entry) (tag : ℕ) (t : Turn) (d : Draw) (before : History) → AreBehind es → is_unseen_effect t.effect ≡ true → number_given None (es ++ Clear tag t d ∷ before) ≡ 0
none_since [] tag t d before are un = ap (λ (b : Bool). cond b 0 (cond (gives_in None (Clear tag t d)) (number_given None before + 1) (number_given None before))) un
none_since (Clear n u x ∷ es) tag t d before are un =
    let rest : ℕ = number_given None (es ++ Clear tag t d ∷ before) in
    ap (λ (e : Effect). cond (is_unseen_effect e) 0 (cond (is_taken u && takes CHUNK_GET u) (rest + 1) rest)) are.0.1
    ∙ ap (λ (b : Bool). cond (b && takes CHUNK_GET u) (rest + 1) rest) are.0.0 ∙ none_since es tag t d before are.1 un
none_since (Sealed n m u reply x ∷ es) tag t d before are un = none_since es tag t d before are.1 un
none_since (Queued bytes ∷ es) tag t d before are un = absurd are.0
none_since (Ticked seconds ∷ es) tag t d before are un = absurd are.0
none_since (Dropped id ∷ es) tag t d before are un = none_since es tag t d before are.1 un

not_get : (b unseen large : Bool) → unseen ≡ true → (b && not (unseen || large)) ≡ false
not_get true true large is = refl
not_get false unseen large is = refl
not_get true false large is = absurd (false≢true is)

no_chunk : (b : Bool) (A : Type 0) (n : ℕ) → b ≡ false → n ≡ 0 → MatchBool b A (n ≡ 0)
no_chunk false A n is none = none
no_chunk true A n is none = absurd (false≢true (sym is))

first_no_get : (es : List Entry) (tag : ℕ) (t : Turn) (d : Draw) (before : History) (transfer handle : ℕ) (whole : List ℕ) (n : ℕ) → AreBehind es → is_unseen_effect t.effect ≡ true → n ≡ 0 → GiveChunks transfer handle whole (es ++ Clear tag t d ∷ before) n
first_no_get [] tag t d before transfer handle whole n are un none = no_chunk (is_clear_get (Clear tag t d)) _ n (not_get (takes CHUNK_GET t) (is_unseen_effect t.effect) (is_some (handle_in t.effect)) un) none
first_no_get (Clear m u x ∷ es) tag t d before transfer handle whole n are un none =
    no_chunk (is_clear_get (Clear m u x)) _ n (ap (λ (e : Effect). (code_in e == CHUNK_GET) && not (is_unseen_effect e || is_some (handle_in e))) are.0.1) none
first_no_get (Sealed m b u reply x ∷ es) tag t d before transfer handle whole n are un none = none
first_no_get (Queued bytes ∷ es) tag t d before transfer handle whole n are un none = absurd are.0
first_no_get (Ticked seconds ∷ es) tag t d before transfer handle whole n are un none = absurd are.0
first_no_get (Dropped id ∷ es) tag t d before transfer handle whole n are un none = none

not_longer : (n : ℕ) → nat_lt n n ≡ false
not_longer n = grind (arith, nat_tests)

pub quiet : (h : History) → IsQuiet h h
quiet h = record { begun = refl; taken = ap (λ (b : Bool). cond b (answered_in h) None) (not_longer (length h)); views = refl }

-- ---- The repeat.

module _ (w : Configuration) (q : ReqSetup) (older : List (List ℕ)) (k : Kept) (route : RouteFields) (answer : List ℕ) (limits : IsSetUp k.setup) (keeps : Keeps w q older k) (turn : AnswersInTurn k route answer)
    (type : (slice_index turn.round.body 0 == 5) ≡ true) (blocks : HasFewBlocks (responder_for w k))
    (again : is_repeat (kept_of k.responder) turn.round.tag (drop 1 turn.round.body) ≡ true) (same : clear_body (kept_reply (kept_of k.responder)) ≡ answer) where
  abbrev r : RspSetup
  r = responder_for w k

  abbrev h : History
  h = k.responder

  abbrev m : List ℕ
  m = drop 1 turn.round.body

  walk : Walks w q older (restored k)
  walk = (kept_is_restored w q older k keeps).0

  body_is : turn.round.body ≡ clear_body m
  body_is = clear_shape turn.round.body type

  abbrev least : Free
  least = least_values h (clear_place h)

  short : (o : Option ChunkMessage) → length (answer_at r (clear_place h) m least o) ≤ MAX_MESSAGE_SIZE
  short None = answers_few r blocks h (clear_place h) m
  short (Some c) = answers_few r blocks h (inside (clear_place h)) (joined_with (under_way (chunks_of (clear_turns h))) c)

  gets_same : on_clear r h turn.round.tag m least no_draw ≡ Same (clear_body (kept_reply (kept_of h)))
  unfolding on_clear
  gets_same = ap (λ (b : Bool). cond b (Same (clear_body (kept_reply (kept_of h)))) (Adds (Clear turn.round.tag (turn_of r (clear_place h) m least) no_draw))) again

  may_clear : MayLeadTo r h turn.round.tag (clear_body m) (Same (clear_body (kept_reply (kept_of h))))
  unfolding MayLeadTo
  may_clear = (least, least_allowed h (clear_place h) [] (omega arith), short (chunk_in (request_at (clear_place h) m)), gets_same)

  may_here : MayLeadTo r h turn.round.tag turn.round.body (Same answer)
  may_here = subst (λ (b : List ℕ). MayLeadTo r h turn.round.tag b (Same answer)) (sym body_is) (subst (λ (b : List ℕ). MayLeadTo r h turn.round.tag (clear_body m) (Same b)) same may_clear)

  abbrev pub stays : Kept
  stays = heard_kept k k.responder route.tag turn.round answer

  plainly : AnswersPlainly r (restored k) turn.round answer h
  plainly = ([], Same answer, (tt, may_here), tt, refl, refl, refl)

  -- It goes on where the requester asks for no chunk in response to it.
  pub passes : asks_upon k route.tag answer ≡ false → RepliesKept w k (Whole route answer) stays
  unfolding Answers
  passes idle =
      let heard = heard_on w q older k limits (keeps_carries w q older k keeps) route.tag turn.round answer turn.answers.0 turn.answers.1 None h in
      let none = heard.asks ∙ idle in
      let next : Dialogue = record (restored k) { requester = heard.history; responder = h; fetching = while_fetched heard.history None; round = Some (answered turn.round) } in (
        next,
        (
          turn.body,
          turn.owner,
          (turn.round, turn.answers.0, turn.answers.1, turn.answers.2, (h, None, inl (plainly, refl), (heard.history, heard.hears, refl, ap (λ (b : Bool). not b || false) none))),
        ),
        ap (λ (b : Bool). cond b None None) none,
        sym heard.kept,
      )

  -- ---- LargeResponse upon which it asks for one.

  module _ (free : has_free_length (code_of (drop 1 turn.round.body)) ≡ true) (large : shows_large (drop 1 answer) ≡ true) (wide : 12 < (place_terms (clear_place k.responder)).common.to_requester.transfer) (chunks : (place_terms (clear_place k.responder)).common.chunk ≡ true) where
    reply_is : kept_reply (kept_of h) ≡ drop 1 answer
    reply_is = ap (drop 1) same

    plain_reply : shows_large (response_of (drop 1 answer)) ≡ true
    plain_reply = ap shows_large (response_plain (drop 1 answer) large) ∙ large

    repeats : repeats_large None h ≡ true
    repeats = repeats_shown h (walk_shows w q older (restored k) walk) wide (none_pends_in_clear w q older (restored k) walk) (ap (λ (l : List ℕ). shows_large (response_of l)) reply_is ∙ plain_reply)

    pub back : StandsBack k.responder
    back = repeat_stands_back w q older (restored k) walk repeats

    passed : (turn.round.tag ≡ back.tag) × (m ≡ back.turn.message) × (answer ≡ clear_body back.turn.reply)
    passed = repeat_is_passed r h back turn.round.tag m answer (subst (λ (b : List ℕ). MayLeadTo r h turn.round.tag b (Same answer)) body_is may_here)

    back_free : IsFree back.turn
    back_free =
        let reply : shows_large (response_of back.turn.reply) ≡ true = ap (λ (l : List ℕ). shows_large (response_of (drop 1 l))) (sym passed.2) ∙ plain_reply in
        let shown = shows_at back.behind (Clear back.tag back.turn back.draw) back.before (subst AllShow back.is (walk_shows w q older (restored k) walk)) reply in
        let code : has_free_length (code_of back.turn.message) ≡ true = ap (λ (l : List ℕ). has_free_length (code_of l)) (sym passed.1) ∙ free in
        let it = shown.free code in
        record { whole = it.0; code = free_code back.turn.effect (code_of back.turn.message) it.1 (free_is (code_of back.turn.message) code) }

    back_anew : WasAnew k.responder back
    back_anew = request_was_anew w q older (restored k) walk back

    back_led : IsLedLargely r back.before (Clear back.tag back.turn back.draw)
    back_led = request_was_led w q older (restored k) walk back back_free

    named : place_named turn.round.body ≡ None
    named = named_clear turn.round.body type

    place_is : place_again (place_named turn.round.body) h h ≡ clear_place h
    place_is =
        ap (λ (o : Option ℕ). place_again o h h) named ∙ ap (place_again None h) back.is
        ∙ place_back h back.behind back.tag back.turn back.draw back.before back.are back.passed.taken
        ∙ ap (λ (o : Option ChunkMessage). cond (is_some o) (inside (clear_place h)) (clear_place h)) back_free.whole

    abbrev pub next : Fetching
    next = record { kept = heard_kept k k.responder route.tag turn.round answer; at = place_named turn.round.body; place = place_again (place_named turn.round.body) k.responder k.responder }

    -- Before what came since, under another tag.
    module _ (other : ℕ) (apart : other ≢ turn.round.tag) where
      apart_back : other ≢ back.tag
      apart_back = λ is. apart (is ∙ sym passed.0)

      front : IsLateBefore r h (Clear other back.turn no_draw)
      front = late_before r h back other back_free apart_back back_led

      abbrev led : Entry
      led = front.led.1

      fits : IsLargeAnswer (clear_place h) (whole_of led)
      fits =
          let at : place_of h led ≡ clear_place h =
          sym (place_unseen h led) ∙ ap (place_of h) front.led.4 ∙ ap (λ (o : Option ChunkMessage). cond (is_some o) (inside (clear_place h)) (clear_place h)) back_free.whole in
          subst (λ (p : Place). IsLargeAnswer p (whole_of led)) at (large_fits r h other (clear_body back.turn.message) led front.led.3 front.led.0 front.led.2)

      again_answers : AnswersAgain r (restored k) turn.round answer h (whole_of led)
      again_answers = (
        refl,
        may_here,
        ap (λ (o : Option ℕ). repeats_large o h) named ∙ repeats,
        subst (λ (p : Place). IsLargeAnswer p (whole_of led)) (sym place_is) fits,
        refl,
      )

      pub begins : asks_upon k route.tag answer ≡ true → BeginsFetching w k (Whole route answer) next
      begins asks =
          let heard = heard_on w q older k limits (keeps_carries w q older k keeps) route.tag turn.round answer turn.answers.0 turn.answers.1 None h in (
            turn.body,
            turn.owner,
            (
              turn.round,
              turn.answers,
              (h, next.place, inr ((whole_of led, again_answers), refl), (heard.history, heard.hears, heard.asks ∙ asks, ap (λ (x : Kept). record next { kept = x }) (sym heard.kept))),
            ),
          )

      -- Its message is short.
      few_by : (t : Turn) (e : Entry) (g : History) (f : Free) → e ≡ Clear other (turn_of r (clear_place g) back.turn.message f) no_draw → unseen e ≡ Clear other back.turn no_draw → r.transfer ≤ r.max → r.max ≤ MAX_MESSAGE_SIZE → length back.turn.message ≤ MAX_MESSAGE_SIZE
      few_by t e g f is passes_as ordered most =
          let same_turn : turn_with [] None (turn_of r (clear_place g) back.turn.message f) ≡ back.turn = turn_in (sym (ap unseen is) ∙ passes_as) in
          turn_short r g back.turn.message f ordered most (none_of back.turn.refused back.passed.taken (ap (λ (x : Turn). x.refused) same_turn))
        where
          turn_in : {a b : Turn} → Clear other a no_draw ≡ Clear other b no_draw → a ≡ b
          turn_in same = cc

          none_of : {x : Option ErrorCode} (o : Option ErrorCode) → is_none o ≡ true → x ≡ o → x ≡ None
          none_of None taken here = here
          none_of (Some e) taken here = absurd (false≢true taken)

      pub few_asked : r.transfer ≤ r.max → r.max ≤ MAX_MESSAGE_SIZE → length (drop 1 turn.round.body) ≤ MAX_MESSAGE_SIZE
      few_asked ordered most =
          let g : History = with_dropped h front.led.0 in
          let may = led_clear r g other (clear_body back.turn.message) (Adds led) refl front.led.2 in
          elim (clear_form r g other back.turn.message may.free (Adds led) may.leads) [
            | inl gone ↦ absurd (let x = gone.1 in cc)
            | inr adds ↦ subst (λ (l : List ℕ). length l ≤ MAX_MESSAGE_SIZE) (sym passed.1) (few_by back.turn led g may.free (cc adds) front.led.4 ordered most)
          ]

      none_came : number_of next ≡ 0
      none_came =
          ap (λ (o : Option ℕ). number_given o h) named ∙ ap (number_given None) back.is
          ∙ none_since back.behind back.tag back.turn back.draw back.before back.are back.passed.unseen

      gave_none : (transfer : ℕ) → GiveAll transfer next
      gave_none transfer u may =
          subst (λ (l : History). GiveChunks transfer (handle_of (clear_with h u).turns) u l (number_of next)) (sym back.is)
          (first_no_get back.behind back.tag back.turn back.draw back.before transfer (handle_of (clear_with h u).turns) u (number_of next) back.are back.passed.unseen none_came)

      newest_is : kept_of h ≡ Some (record { tag = turn.round.tag; message = m; reply = drop 1 answer })
      newest_is =
          let by_tag : ℕ → Option responder_history.Kept = λ n. Some (record { tag = n; message = back.turn.message; reply = back.turn.reply }) in
          let by_message : List ℕ → Option responder_history.Kept = λ l. Some (record { tag = turn.round.tag; message = l; reply = back.turn.reply }) in
          let by_reply : List ℕ → Option responder_history.Kept = λ l. Some (record { tag = turn.round.tag; message = m; reply = l }) in
          kept_passed h back ∙ ap by_tag (sym passed.0) ∙ ap by_message (sym passed.1) ∙ ap by_reply (ap (drop 1) (sym passed.2))

    abbrev pub From : Marks → Held → Type 0
    From marks held = IsHeldAgain (terms_of (negotiation_of (clear_turns k.responder))).common marks turn.round.tag (drop 1 turn.round.body) (drop 1 answer) held

    module _ (rows : List Row) (new : Party) (marks : Marks) (marked : marking.StandsFor marks k.responder) (held : Held) (from : From marks held) (stands : connected.StandsFor new.answerer.connection (responder_for w k) k.responder)
        (asker : IsAsker new.asker q next.kept) (keys : answer_keys.StandFor new.keys (responder_for w k) k.responder) (number : new.number ≡ number_from 1 q.eid w.requesters) (places : rows_of.StandFor new.places (restored next.kept) rows) where
      lengths : AreLengths next.place held.least held.most
      lengths =
          subst (λ (p : Place). AreLengths p held.least held.most) (sym place_is)
          (lengths_are (clear_place h) held.least held.most (front held.tag from.other).sized chunks (let is = from.least in omega (arith, is)) from.short from.few from.full)

      is_late : IsLate marks held.tag back.turn k.responder
      is_late = record { back = back; same = refl; free = back_free; anew = back_anew; other = apart_back held.tag from.other; stand = marked }

      pub held_late : IsHeldIn new held w q next rows
      held_late =
          let f : IsLateBefore r h (Clear held.tag back.turn no_draw) = front held.tag from.other in record {
            beside = record { asker = asker; keys = keys; number = number; places = places };
            at = named;
            before = record {
              gets = [];
              turn = back.turn;
              before = h;
              left = h;
              behind = subst (λ (o : Option Marks). HasGets o held.tag back.turn [] h h) (sym from.late) (is_late, refl);
              are = tt;
              unseen = f.unseen;
              left_is = f.left;
              led = f.led;
              sized = f.sized;
              stands = stands;
              keys = keys;
              request = sym passed.1 ∙ sym from.request;
              reply = ap (drop 1) (sym passed.2) ∙ sym from.reply_is;
              newest = from.newest ∙ sym (newest_is held.tag from.other);
            };
            answer = from.answer next (none_came held.tag from.other);
            lengths = lengths;
            transfer = from.transfer;
            gave = gave_none held.tag from.other held.transfer;
          }
