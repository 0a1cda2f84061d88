-- In each walk the newest request in the clear that was taken led to LargeResponse, if its answer passed unseen.
use Rattle.std.proofs.Common.{◌≡◌, ◌≢◌, ◌==◌, ◌++◌, ◌∙◌, ℕ, List, [], ◌∷◌, refl, sym, ap, subst, arith, drop, Bool, true, false, Option, Some, None, Result, Ok, Err, cond, inl, inr, eq-eqb, eqb-true}
use Rattle.std.specs.Prelude.{MatchBool, slice_index}
use Rattle.std.proofs.lemmas.Bool.{false≢true}
use Rattle.std.proofs.lemmas.Option.{same_Some}
use Rattle.spdm_basis.proofs.Bools.{and_first}
use Rattle.check_laws.specs.Order.{is_answer, is_request}
use Rattle.check_laws.specs.Walks.{StepsBy, StepsTo, Walks}
use Rattle.check_late_laws.proofs.Late.BehindClear.{IsFreeCode, code_with}
use Rattle.check_late_laws.proofs.Late.LargeFront.{added, led_elsewhere, led_goes_on, turn_is}
use Rattle.check_late_laws.proofs.Late.SessionNewest.{turns_same}
use Rattle.check_late_laws.proofs.Late.WalksAnew.{AllAnew, AnewHere, asks_keep, before_anew, drops_kept, kept_before, kept_large, led_anew, walk_anew}
use Rattle.check_late_laws.proofs.Late.WalksStand.{walk_sound}
use Rattle.check_late_laws.specs.Late.Passed.{IsBehind, IsPassed}
use Rattle.check_late_laws.specs.Late.PassedLarge.{IsLedLargely, RequestWasLed, WasLed}
use Rattle.check_late_laws.specs.Late.PassedLast.{IsFree}
use Rattle.mctp_framing.specs.Gathering.{Gathered}
use Rattle.mctp_framing.specs.Gathering.Gathered.{Whole, More, Dropped as Lost}
use Rattle.mctp_framing.specs.Packet.{PacketFields, parsed}
use Rattle.requester_machine.specs.Setup.{ReqSetup}
use Rattle.responder_machine.proofs.Making.{turn_message}
use Rattle.responder_machine.specs.Answer.{Free}
use Rattle.responder_machine.specs.Handling.{turn_of}
use Rattle.responder_machine.specs.History.{Entry, History, Kept, clear_turns, kept_of, negotiation_of, phase_of}
use Rattle.responder_machine.specs.History.Entry.{Clear, Sealed, Queued, Ticked, Dropped}
use Rattle.responder_machine.specs.May.{with_dropped}
use Rattle.responder_machine.specs.Place.{Place, clear_place}
use Rattle.responder_machine.specs.Refusal.{code_of}
use Rattle.responder_machine.specs.Responder.Outcome.{Same, Unopened, Adds}
use Rattle.responder_machine.specs.Responder.{Outcome, after, is_repeat}
use Rattle.responder_machine.specs.Session.{id_in_record}
use Rattle.responder_machine.specs.Setup.{RspSetup, towards}
use Rattle.responder_machine.specs.Turn.{Effect, Turn, code_in, is_taken, takes}
use Rattle.spdm_basis.specs.declared.PacketFault.{PacketFault}
use Rattle.spdm_grammar.specs.Message.RequestMessage.{ChunkGet, GetVersion}
use Rattle.spdm_grammar.specs.Reading.{field_at, number_at}
use Rattle.spdm_grammar.specs.Requests.{canonical_request, chunk_get_layout, get_version_layout, request_body}
use Rattle.spdm_grammar.specs.declared.names.request_code.TheConstants.{CHUNK_GET, GET_MEASUREMENTS, PSK_EXCHANGE}
use Rattle.spdm_machine.specs.Bodies.{clear_body}
use Rattle.spdm_machine.specs.Keys.{Draw}
use Rattle.spdm_machine.specs.Packets.{gathered_from}
use Rattle.capture_machine.proofs.DropsTell.{clear_form, kept_same, record_form, turns_stay}
use Rattle.capture_machine.proofs.FetchStates.{Getting}
use Rattle.capture_machine.proofs.FetchStates.Getting.{Asks, Repeats, Seals}
use Rattle.capture_machine.proofs.FetchedAnswers.{turn_code}
use Rattle.capture_machine.proofs.FetchedTells.{ReadsAlways, get_reads, version_reads}
use Rattle.capture_machine.proofs.Fetching.{Fetched, IsSound}
use Rattle.capture_machine.proofs.PlacesServed.{named_session}
use Rattle.capture_machine.proofs.PlainTells.{led_clear, led_record}
use Rattle.capture_machine.proofs.SeenAnswers.{led_seen}
use Rattle.capture_machine.specs.Capture.{AsksBy, RepliesBy}
use Rattle.capture_machine.specs.CapturedAnswers.{Answers, AnswersAgain, AnswersLarge, AnswersPlainly, Completes, MayLeadTo, request_in, tag_in}
use Rattle.capture_machine.specs.LargeAnswers.{dropped_before_large, is_large, is_unseen, is_unseen_in, judging, place_named, seen, seen_turn, takes_get, turn_with, unseen, with_large}
use Rattle.capture_machine.specs.Rounds.{Dialogue, Round, no_draw}
use Rattle.world_machine.specs.Setup.{Configuration, known_of}

-- ---- CHUNK_GET and GET_VERSION ask for no measurements and for no session.

get_other : (handle number : ℕ) → code_of (canonical_request (ChunkGet handle number)) ≢ GET_MEASUREMENTS
unfolding field_at number_at request_body chunk_get_layout
get_other handle number = λ e. absurd (omega (arith, e))

version_other : code_of (canonical_request GetVersion) ≢ GET_MEASUREMENTS
unfolding field_at number_at request_body get_version_layout
version_other = λ e. absurd (omega (arith, e))

none_free : (r : RspSetup) (p : Place) (m : List ℕ) (f : Free) → ReadsAlways m → code_of m ≢ GET_MEASUREMENTS → IsFree (turn_of r p m f) → ⊥
none_free r p m f reads other free = elim free.code [
  | inl is ↦ other (turn_code r p m f GET_MEASUREMENTS refl reads.no_chunk (eq-eqb (code_in (turn_of r p m f).effect) GET_MEASUREMENTS is))
  | inr is ↦ reads.no_exchange (turn_code r p m f PSK_EXCHANGE refl reads.no_chunk (eq-eqb (code_in (turn_of r p m f).effect) PSK_EXCHANGE is))
]

body_is : (body : List ℕ) → (slice_index body 0 == 5) ≡ true → clear_body (drop 1 body) ≡ body
body_is [] is = absurd (false≢true is)
body_is (x ∷ xs) is = ap (λ (n : ℕ). n ∷ xs) (sym (eqb-true x 5 is))

-- ---- One more entry.

module _ (r : RspSetup) where
  -- What was seen.
  seen_not : (e : Entry) (h : History) → is_unseen e ≡ false → (tag : ℕ) (t : Turn) (d : Draw) → e ≡ Clear tag t d → IsPassed t → IsFree t → IsLedLargely r h e
  seen_not e h old tag t d is passed free = absurd (false≢true (sym old ∙ ap is_unseen is ∙ passed.unseen))

  seen_led : (e : Entry) (h : History) → is_unseen e ≡ false → (IsBehind e → WasLed r h) → WasLed r (e ∷ h)
  seen_led e h old before = led_goes_on r h e (seen_not e h old) before

  older_led : (e : Entry) (h : History) → WasLed r (e ∷ h) → IsBehind e → WasLed r h
  older_led e h led one s free = led (record {
    behind = e ∷ s.behind;
    tag = s.tag;
    turn = s.turn;
    draw = s.draw;
    before = s.before;
    is = ap (λ (l : History). e ∷ l) s.is;
    are = (one, s.are);
    passed = s.passed;
  }) free

  dropped_led : (ids : List ℕ) (h : History) → WasLed r h → WasLed r (with_dropped h ids)
  dropped_led [] h led = led
  dropped_led (id ∷ ids) h led = dropped_led ids (Dropped id ∷ h) (seen_led (Dropped id) h refl (λ one. led))

  -- The same entry on another history with the same negotiation and kept message.
  moved_led : (e : Entry) (g h : History) → WasLed r (e ∷ g) → AllAnew (e ∷ g) → kept_of g ≡ kept_of h → clear_turns g ≡ clear_turns h → (IsBehind e → WasLed r h) → WasLed r (e ∷ h)
  moved_led e g h led anew kept turns before = led_goes_on r h e now before
    where
      now : (tag : ℕ) (t : Turn) (d : Draw) → e ≡ Clear tag t d → IsPassed t → IsFree t → IsLedLargely r h e
      now tag t d is passed free =
          let one = led (record { behind = []; tag = tag; turn = t; draw = d; before = g; is = ap (λ (x : Entry). x ∷ g) is; are = tt; passed = passed }) free in
          let was : is_repeat (kept_of g) tag t.message ≡ false = (subst (λ (x : Entry). AllAnew (x ∷ g)) is anew).0 passed.taken in
          subst (IsLedLargely r h) (sym is) (led_elsewhere r g h tag tag t d free passed.taken (ap phase_of turns) (ap negotiation_of turns) (ap (λ (k : Option Kept). is_repeat k tag t.message) (sym kept) ∙ was) one)

  -- ---- Another answer of a session.

  module _ (id : ℕ) (w ids : List ℕ) where
    large_by : (b : Bool) (e : Entry) (h : History) → is_unseen_in (Some id) e ≡ b → WasLed r (e ∷ h) → AllAnew (e ∷ h) → (WasLed r h → WasLed r (with_large (Some id) w h)) → WasLed r (cond b (seen w e ∷ h) (e ∷ with_large (Some id) w h))
    large_by true (Clear tag t d) h is led anew rest = absurd (false≢true is)
    large_by true (Queued bytes) h is led anew rest = absurd (false≢true is)
    large_by true (Ticked seconds) h is led anew rest = absurd (false≢true is)
    large_by true (Dropped which) h is led anew rest = absurd (false≢true is)
    large_by true (Sealed tag m t reply d) h is led anew rest =
        led_goes_on r h (Sealed tag m (seen_turn w t) reply d) (λ at u dr same passed free. absurd (cc)) (λ one. older_led (Sealed tag m t reply d) h led tt)
    large_by false e h is led anew rest =
        moved_led e h (with_large (Some id) w h) led anew (sym (kept_large (Some id) w h)) (sym (turns_same id w h)) (λ one. rest (older_led e h led one))

    large_led : (h : History) → AllAnew h → WasLed r h → WasLed r (with_large (Some id) w h)
    large_led [] anew led = led
    large_led (e ∷ h) anew led = large_by (is_unseen_in (Some id) e) e h refl led anew (large_led h anew.1)

    before_turns_by : (b : Bool) (e : Entry) (h : History) → clear_turns (dropped_before_large (Some id) ids h) ≡ clear_turns h → clear_turns (cond b (e ∷ with_dropped h ids) (e ∷ dropped_before_large (Some id) ids h)) ≡ clear_turns (e ∷ h)
    before_turns_by true (Clear tag t d) h same = ap (λ (l : List Turn). t ∷ l) (turns_stay ids h)
    before_turns_by true (Sealed tag m t reply d) h same = turns_stay ids h
    before_turns_by true (Queued bytes) h same = turns_stay ids h
    before_turns_by true (Ticked seconds) h same = turns_stay ids h
    before_turns_by true (Dropped which) h same = turns_stay ids h
    before_turns_by false (Clear tag t d) h same = ap (λ (l : List Turn). t ∷ l) same
    before_turns_by false (Sealed tag m t reply d) h same = same
    before_turns_by false (Queued bytes) h same = same
    before_turns_by false (Ticked seconds) h same = same
    before_turns_by false (Dropped which) h same = same

    before_turns : (h : History) → clear_turns (dropped_before_large (Some id) ids h) ≡ clear_turns h
    before_turns [] = refl
    before_turns (e ∷ h) = before_turns_by (is_unseen_in (Some id) e) e h (before_turns h)

    before_by : (b : Bool) (e : Entry) (h : History) → WasLed r (e ∷ h) → AllAnew (e ∷ h) → (WasLed r h → WasLed r (dropped_before_large (Some id) ids h)) → WasLed r (cond b (e ∷ with_dropped h ids) (e ∷ dropped_before_large (Some id) ids h))
    before_by true e h led anew rest =
        moved_led e h (with_dropped h ids) led anew (sym (kept_same ids h)) (sym (turns_stay ids h)) (λ one. dropped_led ids h (older_led e h led one))
    before_by false e h led anew rest =
        moved_led e h (dropped_before_large (Some id) ids h) led anew (sym (kept_before (Some id) ids h)) (sym (before_turns h)) (λ one. rest (older_led e h led one))

    before_led : (h : History) → AllAnew h → WasLed r h → WasLed r (dropped_before_large (Some id) ids h)
    before_led [] anew led = led
    before_led (e ∷ h) anew led = before_by (is_unseen_in (Some id) e) e h led anew (before_led h anew.1)

-- ---- LargeResponse.

module _ (r : RspSetup) (d : Dialogue) (rd : Round) (at : d.round ≡ Some rd) (sound : IsSound d) (ids : List ℕ) (e : Entry)
    (may : MayLeadTo r (with_dropped (judging d.fetching rd.body d.responder) ids) rd.tag rd.body (Adds e)) (large : is_large e ≡ true) where
  abbrev h : History
  h = d.responder

  abbrev k : History
  k = with_dropped (judging d.fetching rd.body h) ids

  abbrev m : List ℕ
  m = drop 1 rd.body

  -- A record is no message in the clear.
  sealed_not : (slice_index rd.body 0 == 5) ≡ false → (tag : ℕ) (t : Turn) (dr : Draw) → unseen e ≡ Clear tag t dr → ⊥
  sealed_not type tag t dr is =
      let led = led_record r k rd.tag rd.body (Adds e) type may in
      elim (record_form r rd.tag m led.free (Adds e) k led.leads) [
        | inl same ↦ absurd (let x = same.1 in cc)
        | inr (inl none) ↦ absurd (let x = none.1 in cc)
        | inr (inr sealed) ↦ absurd (let x = sym (ap unseen (added e (Sealed rd.tag m sealed.0 sealed.1 no_draw) sealed.2)) ∙ is in cc)
      ]

  -- The turn that it led to.
  module _ (type : (slice_index rd.body 0 == 5) ≡ true) (f : Free) (is : e ≡ Clear rd.tag (turn_of r (clear_place k) m f) no_draw) (free : IsFree (turn_of r (clear_place k) m f)) (taken : is_taken (turn_of r (clear_place k) m f) ≡ true) where
    abbrev t : Turn
    t = turn_of r (clear_place k) m f

    tag_is : rd.tag ≡ tag_in (unseen e)
    tag_is = sym (ap (λ (x : Entry). tag_in (unseen x)) is)

    request_is : rd.body ≡ request_in (unseen e)
    request_is = sym (ap (λ (x : Entry). request_in (unseen x)) is ∙ ap clear_body (turn_message r (clear_place k) m f) ∙ body_is rd.body type)

    anew_by : d.fetching ≡ None → IsLedLargely r h (unseen e)
    anew_by none =
        let here : MayLeadTo r (with_dropped h ids) rd.tag rd.body (Adds e) = subst (λ (o : Option (List ℕ)). MayLeadTo r (with_dropped (judging o rd.body h) ids) rd.tag rd.body (Adds e)) none may in
        (ids, e, subst (λ (n : ℕ). MayLeadTo r (with_dropped h ids) n (request_in (unseen e)) (Adds e)) tag_is (subst (λ (l : List ℕ). MayLeadTo r (with_dropped h ids) rd.tag l (Adds e)) request_is here), large, refl)

    fetched_not : (w : List ℕ) → d.fetching ≡ Some w → ⊥
    fetched_not w some = by_round (sound.fetched w some)
      where
        by_how : Getting h rd.tag rd.body → ⊥
        by_how (Asks handle number asks since) =
            none_free r (clear_place k) m f (subst ReadsAlways (sym (ap (drop 1) asks)) (get_reads handle number)) (subst (λ (l : List ℕ). code_of l ≢ GET_MEASUREMENTS) (sym (ap (drop 1) asks)) (get_other handle number)) free
        by_how (Repeats clear again since) =
            let one : is_repeat (kept_of k) rd.tag t.message ≡ false = (subst (λ (x : Entry). AnewHere x k) is (led_anew r k rd.tag rd.body e may)) taken in
            false≢true (
            sym one ∙ ap (is_repeat (kept_of k) rd.tag) (turn_message r (clear_place k) m f) ∙ ap (λ (x : Option Kept). is_repeat x rd.tag m) (drops_kept d.fetching rd.body h ids) ∙ again)
        by_how (Seals not_clear stand) = false≢true (sym not_clear ∙ type)

        by_round : ((round : Round) × (d.round ≡ Some round) × Fetched d.requester h w round.tag round.body) → ⊥
        by_round old =
            let same : old.0 ≡ rd = same_Some old.0 rd (sym old.1 ∙ at) in
            let fetched : Fetched d.requester h w rd.tag rd.body = subst (λ (x : Round). Fetched d.requester h w x.tag x.body) same old.2 in
            elim fetched.stands [
              | inl version ↦ none_free r (clear_place k) m f (subst ReadsAlways (sym (ap (drop 1) version.1)) version_reads) (subst (λ (l : List ℕ). code_of l ≢ GET_MEASUREMENTS) (sym (ap (drop 1) version.1)) version_other) free
              | inr fetch ↦ by_how fetch.1.how
            ]

  led_new : WasLed r d.responder → WasLed r (unseen e ∷ d.responder)
  led_new old = led_goes_on r h (unseen e) now (λ one. old)
    where
      now : (tag : ℕ) (t : Turn) (dr : Draw) → unseen e ≡ Clear tag t dr → IsPassed t → IsFree t → IsLedLargely r h (unseen e)
      now tag t dr is passed free = by_type (slice_index rd.body 0 == 5) refl
        where
          by_fetching : (type : (slice_index rd.body 0 == 5) ≡ true) (f : Free) (one : e ≡ Clear rd.tag (turn_of r (clear_place k) m f) no_draw) → IsFree (turn_of r (clear_place k) m f) → is_taken (turn_of r (clear_place k) m f) ≡ true
              → (o : Option (List ℕ)) → d.fetching ≡ o → IsLedLargely r h (unseen e)
          by_fetching type f one fits taken None none = anew_by type f one fits taken none
          by_fetching type f one fits taken (Some w) some = absurd (fetched_not type f one fits taken w some)

          by_type : (b : Bool) → (slice_index rd.body 0 == 5) ≡ b → IsLedLargely r h (unseen e)
          by_type false type = absurd (sealed_not type tag t dr is)
          by_type true type =
              let led = led_clear r k rd.tag rd.body (Adds e) type may in
              elim (clear_form r k rd.tag m led.free (Adds e) led.leads) [
                | inl same ↦ absurd (let x = same.1 in cc)
                | inr adds ↦
                    let u : Turn = turn_of r (clear_place k) m led.free in
                    let one : e ≡ Clear rd.tag u no_draw = added e (Clear rd.tag u no_draw) adds in
                    let same : turn_with [] None u ≡ t = turn_is rd.tag tag (turn_with [] None u) t no_draw dr (sym (ap unseen one) ∙ is) in
                    by_fetching type led.free one
                    (record { whole = ap (λ (x : Turn). x.chunk) same ∙ free.whole; code = subst IsFreeCode (sym (ap (λ (x : Turn). code_in x.effect) same) ∙ code_with [] None u.effect) free.code })
                    (ap is_taken same ∙ passed.taken) d.fetching refl
              ]

-- ---- An answer.

after_led : (r : RspSetup) (g h : History) (tag : ℕ) (body : List ℕ) (o : Outcome) → MayLeadTo r g tag body o → WasLed r h → WasLed r (after h o)
after_led r g h tag body (Same b) may led = led
after_led r g h tag body (Unopened b) may led = led
after_led r g h tag body (Adds e) may led = seen_led r e h (led_seen r g tag body e may) (λ one. led)

-- A CHUNK_GET that was taken came after no such request.
get_not : (tag : ℕ) (t : Turn) (d : Draw) → takes CHUNK_GET t ≡ true → IsBehind (Clear tag t d) → ⊥
get_not tag t d gets behind = false≢true (ap (λ (x : Effect). code_in x == CHUNK_GET) (sym behind.1) ∙ gets)

module _ (r : RspSetup) (d : Dialogue) (rd : Round) (w ids : List ℕ) (e : Entry) (may : MayLeadTo r (judging d.fetching rd.body d.responder) rd.tag rd.body (Adds e)) (gives : takes_get e ≡ true) (anew : AllAnew d.responder) (old : WasLed r d.responder) where
  abbrev Settled : Option ℕ → History
  Settled o = with_large o w (dropped_before_large o ids d.responder)

  behind_by : (b : Bool) → (slice_index rd.body 0 == 5) ≡ b → IsBehind e → WasLed r (Settled (place_named rd.body))
  behind_by true type behind =
      let k : History = judging d.fetching rd.body d.responder in
      let led = led_clear r k rd.tag rd.body (Adds e) type may in
      elim (clear_form r k rd.tag (drop 1 rd.body) led.free (Adds e) led.leads) [
        | inl same ↦ absurd (let x = same.1 in cc)
        | inr adds ↦
            let t : Turn = turn_of r (clear_place k) (drop 1 rd.body) led.free in
            let one : e ≡ Clear rd.tag t no_draw = added e (Clear rd.tag t no_draw) adds in
            absurd (get_not rd.tag t no_draw (sym (ap takes_get one) ∙ gives) (subst IsBehind one behind))
      ]
  behind_by false type behind =
      let id : ℕ = id_in_record (drop 1 rd.body) in
      subst (λ (o : Option ℕ). WasLed r (Settled o)) (sym (named_session rd.body type))
      (large_led r id w ids (dropped_before_large (Some id) ids d.responder) (before_anew (Some id) ids d.responder anew) (before_led r id w ids d.responder anew old))

  settled_led : WasLed r (e ∷ Settled (place_named rd.body))
  settled_led = seen_led r e (Settled (place_named rd.body)) (led_seen r (judging d.fetching rd.body d.responder) rd.tag rd.body e may) (behind_by (slice_index rd.body 0 == 5) refl)

answers_led : (r : RspSetup) (d : Dialogue) (rd : Round) (answer : List ℕ) (next : History) (fetching : Option (List ℕ)) → d.round ≡ Some rd → IsSound d → AllAnew d.responder → WasLed r d.responder → Answers r d rd answer next fetching → WasLed r next
unfolding Answers
answers_led r d rd answer next fetching at sound anew old (inl a) =
    let p : AnswersPlainly r d rd answer next = a.0 in
    subst (WasLed r) (sym p.6) (after_led r (with_dropped (judging d.fetching rd.body d.responder) p.0) (with_dropped d.responder p.0) rd.tag rd.body p.1 p.2.1 (dropped_led r p.0 d.responder old))
answers_led r d rd answer next fetching at sound anew old (inr (inl a)) =
    let p : AnswersLarge r d rd answer next a.0 = a.1 in
    subst (WasLed r) (sym p.6) (led_new r d rd at sound p.0 p.1 p.2.1 p.3 old)
answers_led r d rd answer next fetching at sound anew old (inr (inr (inl a))) =
    let p : AnswersAgain r d rd answer next a.0 = a.1 in subst (WasLed r) (sym p.4) old
answers_led r d rd answer next fetching at sound anew old (inr (inr (inr a))) =
    let p : Completes r d rd answer next = a.0 in
    subst (WasLed r) (sym p.8) (settled_led r d rd p.0 p.1 p.2 p.4 (and_first (takes_get p.2) _ p.5) anew old)

-- ---- A walk.

-- The responder towards the requester of a dialogue.
abbrev towards_of : Configuration → Dialogue → RspSetup
towards_of w d = towards w.responder (known_of d.setup)

abbrev IsLed : Configuration → Dialogue → Type 0
IsLed w d = WasLed (towards_of w d) d.responder

asks_set_up : (d : Dialogue) (g : Gathered) (next : Dialogue) → AsksBy d g next → next.setup ≡ d.setup
asks_set_up d (Whole route body) next asks = elim asks.2 [
  | inl copies ↦ ap (λ (x : Dialogue). x.setup) copies.4
  | inr begins ↦ ap (λ (x : Dialogue). x.setup) begins.2.3
]
asks_set_up d More next asks = ap (λ (x : Dialogue). x.setup) asks
asks_set_up d (Lost cause) next asks = absurd asks

asks_led : (w : Configuration) (d : Dialogue) (g : Gathered) (next : Dialogue) → IsLed w d → AsksBy d g next → IsLed w next
asks_led w d g next led asks =
    subst (λ (q : ReqSetup). WasLed (towards w.responder (known_of q)) next.responder) (sym (asks_set_up d g next asks))
    (subst (WasLed (towards_of w d)) (sym (asks_keep d g next asks)) led)

replies_led : (w : Configuration) (d : Dialogue) (g : Gathered) (next : Dialogue) → IsSound d → AllAnew d.responder → IsLed w d → RepliesBy w d g next → IsLed w next
replies_led w d (Whole route body) next sound anew led replies =
    let c = replies.2 in
    subst (IsLed w) (sym c.4.3.2) (answers_led (towards_of w d) d c.0 body c.4.0 c.4.1 c.1 sound anew led c.4.2)
replies_led w d More next sound anew led replies = subst (IsLed w) (sym replies) led
replies_led w d (Lost cause) next sound anew led replies = absurd replies

step_led : (w : Configuration) (eid : ℕ) (older : List (List ℕ)) (d next : Dialogue) (r : Result PacketFields PacketFault) → IsSound d → AllAnew d.responder → IsLed w d → StepsBy w eid older d next r → IsLed w next
step_led w eid older d next (Err fault) sound anew led step = subst (IsLed w) (sym step) led
step_led w eid older d next (Ok p) sound anew led step = by_ends (is_request w.responder.eid eid p) (is_answer w.responder.eid eid p) step
  where
    by_ends : (b c : Bool) → MatchBool b (AsksBy d (gathered_from w.responder.eid eid older p) next) (MatchBool c (RepliesBy w d (gathered_from eid w.responder.eid older p) next) (next ≡ d)) → IsLed w next
    by_ends true c asks = asks_led w d (gathered_from w.responder.eid eid older p) next led asks
    by_ends false true replies = replies_led w d (gathered_from eid w.responder.eid older p) next sound anew led replies
    by_ends false false same = subst (IsLed w) (sym same) led

none_stands : {A : Type 0} (es : List Entry) (e : Entry) (h : History) → [] ≡ es ++ e ∷ h → A
none_stands [] e h is = absurd (cc)
none_stands (x ∷ es) e h is = absurd (cc)

nothing_led : (r : RspSetup) → WasLed r []
nothing_led r s free = none_stands s.behind (Clear s.tag s.turn s.draw) s.before s.is

walk_led : (w : Configuration) (q : ReqSetup) (older : List (List ℕ)) (d : Dialogue) → Walks w q older d → IsLed w d
unfolding StepsTo
walk_led w q [] d walk = subst (IsLed w) (sym walk) (nothing_led (towards w.responder (known_of q)))
walk_led w q (packet ∷ older) d walk =
    step_led w q.eid older walk.0 d (parsed packet) (walk_sound w q older walk.0 walk.1) (walk_anew w q older walk.0 walk.1) (walk_led w q older walk.0 walk.1) walk.2

pub request_was_led : RequestWasLed
request_was_led = walk_led
