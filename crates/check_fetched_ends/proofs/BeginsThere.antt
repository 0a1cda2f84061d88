-- LargeResponse in answer to a record: what is kept of the large response that is fetched in its session from then on.
use Rattle.std.proofs.Common.{◌≡◌, ◌≤◌, ◌<◌, ◌+◌, ◌==◌, ◌&&◌, ◌↔◌, ℕ, List, [], ◌∷◌, ◌++◌, refl, sym, ap, ◌∙◌, subst, drop, take, length, Bool, true, false, Option, Some, None, cond, eq-eqb, inl}
use Rattle.std.specs.Prelude.{MatchBool, slice_index}
use Rattle.std.proofs.lemmas.Bool.{not-false}
use Rattle.mctp_framing.specs.Cutting.{RouteFields}
use Rattle.mctp_framing.specs.Gathering.Gathered.{Whole}
use Rattle.check_ends.proofs.InTurn.{AnswersInTurn}
use Rattle.check_responder.specs.AnswerKeys.{will_take}
use Rattle.check_requester.specs.JudgedRequester.{Carries}
use Rattle.check_requester.specs.HeardKept.{asks_upon, heard_kept}
use Rattle.check_laws.proofs.LargeFits.{large_fits}
use Rattle.check_laws.proofs.LargeShown.{large_is_shown}
use Rattle.check_laws.proofs.SessionShown.{record_is}
use Rattle.check_laws.specs.AnswersShown.{LeadsAt, is_whole, values_shown_by}
use Rattle.check_laws.specs.Keeping.{Kept, restored}
use Rattle.check_laws.specs.LargeShown.{IsShownLarge, begun_large, drops_before, first_dropped, large_shown, whole_of}
use Rattle.check_laws.specs.RepliesShown.{responder_for}
use Rattle.check_fetched_laws.proofs.BegunJudged.{begins_judging}
use Rattle.check_fetched_laws.proofs.WholeLed.{whole_is_shown}
use Rattle.check_fetched_laws.specs.LastShown.{IsShownEntry, IsShownWhole}
use Rattle.check_late_laws.specs.Fetching.{Fetching, HasSize, MayStand, answer_by, bytes_given, bytes_in, gives_in, number_given, number_of, size_in, size_told}
use Rattle.check_late_laws.specs.FetchingLaws.{BeginsFetching, place_in}
use Rattle.requester_machine.specs.May.{IsSetUp}
use Rattle.requester_machine.specs.Setup.{ReqSetup}
use Rattle.responder_machine.specs.Answer.{Free, request_at}
use Rattle.responder_machine.specs.History.{Entry, History}
use Rattle.responder_machine.specs.History.Entry.{Sealed}
use Rattle.responder_machine.specs.May.{IsAllowed, on_body, place_for, with_dropped}
use Rattle.responder_machine.specs.Place.{clear_place, held_of, session_place}
use Rattle.responder_machine.specs.Records.{opened, reply_record}
use Rattle.responder_machine.specs.Responder.{Outcome, inner_reply}
use Rattle.responder_machine.specs.Responder.Outcome.{Adds}
use Rattle.responder_machine.specs.Session.{Events, id_in_record, session_of}
use Rattle.responder_machine.specs.Setup.{RspSetup}
use Rattle.responder_machine.specs.Turn.{Turn, answer_in}
use Rattle.responder_session.specs.Took.{turn_in}
use Rattle.spdm_grammar.specs.Message.RequestMessage.{GetMeasurements}
use Rattle.spdm_grammar.specs.declared.names.TheConstants.{MAX_MESSAGE_SIZE}
use Rattle.spdm_machine.specs.Bodies.{record_body}
use Rattle.capture_machine.proofs.PlacesServed.{named_session}
use Rattle.capture_machine.proofs.RecordAdds.{record_added}
use Rattle.capture_machine.specs.CapturedAnswers.{MayLeadTo, answer_to, clear_answer, record_answer}
use Rattle.capture_machine.specs.LargeAnswers.{IsLargeAnswer, is_large, is_unseen_in, place_named, seen, unseen, with_large}
use Rattle.capture_machine.specs.Rounds.{Round, no_draw}
use Rattle.world_machine.specs.Setup.{Configuration}
use Rattle.check_fetched_ends.proofs.HeardOn.{heard_on}
use Rattle.check_late_laws.proofs.Late.MeasuredTurns.{GoesLarge, answer_at, bytes_are, goes_at, goes_turn, large_turn, turn_goes}
use Rattle.check_fetched_laws.proofs.RecordTaken.{body_adds, entry_at}
use Rattle.check_fetched_ends.specs.InSession.{IsMeasuredBy}

-- ---- What it leads to.

module _ (r : RspSetup) (h : History) (tag : ℕ) (body answer : List ℕ) (type : (slice_index body 0 == 5) ≡ false) (will : will_take r h body ≡ true) (large : IsShownLarge r h tag body answer) where
  abbrev pub m : List ℕ
  m = drop 1 body

  abbrev pub s : Events
  s = session_of (id_in_record (drop 1 body)) h

  abbrev pub f0 : Free
  f0 = values_shown_by r h tag body answer

  drops_none : drops_before h body ≡ []
  drops_none = ap (λ (b : Bool). cond (b && held_of h == 4) (first_dropped h (1 ∷ 2 ∷ 3 ∷ 4 ∷ [])) []) type

  adds : large_shown r h tag body answer ≡ Adds (entry_at r h tag body answer type will f0)
  unfolding large_shown
  adds =
      ap (λ (l : List ℕ). on_body r (with_dropped h l) tag body (values_shown_by r (with_dropped h l) tag body answer) no_draw) drops_none ∙ body_adds r h tag body answer type will f0

  pub its : LeadsAt r h tag body (Adds (entry_at r h tag body answer type will f0)) f0
  unfolding large_shown
  its =
      let at : LeadsAt r h tag body (on_body r h tag body f0 no_draw) f0 =
      subst (λ (l : List ℕ). LeadsAt r (with_dropped h l) tag body (on_body r (with_dropped h l) tag body (values_shown_by r (with_dropped h l) tag body answer) no_draw) (values_shown_by r (with_dropped h l) tag body answer)) drops_none large.0 in
      subst (λ (x : Outcome). LeadsAt r h tag body x f0) (body_adds r h tag body answer type will f0) at

  -- It asks for measurements.
  module _ (op : ℕ) (asks : request_at (session_place (session_of (id_in_record (drop 1 body)) h)) (drop 1 (opened r.psk (session_of (id_in_record (drop 1 body)) h) (drop 1 body))) ≡ Some (GetMeasurements op)) where
    abbrev inner : List ℕ
    inner = opened r.psk s m

    abbrev turn_at : Free → Turn
    turn_at f = large_turn r s inner op asks f

    abbrev pub e0 : Entry
    e0 = Sealed tag m (turn_at f0) (reply_record r.psk s (turn_at f0) (inner_reply (turn_at f0)) f0.pad) no_draw

    pub goes0 : GoesLarge r s inner op asks f0
    goes0 = turn_goes r s inner op asks f0 (not-false _ (sym (ap is_whole adds) ∙ large.1))

    is_entry : (f : Free) → GoesLarge r s inner op asks f → entry_at r h tag body answer type will f ≡ Sealed tag m (turn_at f) (reply_record r.psk s (turn_at f) (inner_reply (turn_at f)) f.pad) no_draw
    is_entry f goes = ap (λ (t : Turn). Sealed tag m t (reply_record r.psk s t (inner_reply t) f.pad) no_draw) (goes_turn r s inner op asks f goes)

    pub shown_is : large_shown r h tag body answer ≡ Adds e0
    shown_is = adds ∙ ap Adds (is_entry f0 goes0)

    pub leads : MayLeadTo r h tag body (Adds e0)
    unfolding MayLeadTo
    leads = (f0, its.0, its.1, its.2 ∙ ap Adds (is_entry f0 goes0))

    pub on_is : on_body r h tag body f0 no_draw ≡ Adds e0
    on_is = its.2 ∙ ap Adds (is_entry f0 goes0)

    pub big : IsLargeAnswer (session_place s) (answer_at r s inner op asks f0)
    big = large_fits r h tag body e0 refl [] (subst (λ (b : Bool). MayLeadTo r (with_dropped h (cond b [] [])) tag body (Adds e0)) (sym type) leads)

    pub judged : with_large (place_named body) (whole_of e0) (unseen e0 ∷ h) ≡ e0 ∷ h
    judged = begins_judging r h h tag body e0 leads refl

    pub unseen_is : is_unseen_in (Some (id_in_record m)) (unseen e0) ≡ true
    unseen_is = ap (λ (b : Bool). b && true) (eq-eqb (id_in_record m) (id_in_record m) refl)

    -- ---- Which bytes its request may lead to.

    module _ (byte : r.beat < 256) (six : record_body (drop 1 body) ≡ body) (v : List ℕ) (fits : IsLargeAnswer (session_place (session_of (id_in_record (drop 1 body)) h)) v) where
      abbrev ev : Entry
      ev = seen v (unseen e0)

      abbrev Here : Bool → Type 0
      Here b = MatchBool b (IsShownEntry r h ev) (IsShownWhole r (Some (id_in_record m)) v h)

      measured : MayLeadTo r h tag (record_body m) (Adds ev) → IsMeasuredBy r op v
      unfolding MayLeadTo
      measured may =
          let f : Free = may.0 in
          let same = record_added r f tag m ev h may.3 in
          let goes = turn_goes r s inner op asks f (ap is_large same) in
          let whole : answer_in (turn_in r s f m).effect ≡ v = ap whole_of same in
          (f, may.1.nonce, may.1.measured_opaque, sym whole ∙ ap (λ (t : Turn). answer_in t.effect) (goes_turn r s inner op asks f goes))

      led : IsMeasuredBy r op v → MayLeadTo r h tag (record_body m) (Adds ev)
      unfolding MayLeadTo
      led by =
          let k : Free = record f0 { nonce = by.0.nonce; measured_opaque = by.0.measured_opaque } in
          let is : v ≡ answer_at r s inner op asks k = by.3 in
          let at : IsLargeAnswer (session_place s) (answer_at r s inner op asks k) = subst (IsLargeAnswer (session_place s)) is fits in
          let goes = goes_at r s inner op asks f0 k goes0 (big.1 ∙ sym at.1) at.0 in
          let allowed : IsAllowed h (place_for h body) f0 = its.0 in
          let there : entry_at r h tag body answer type will k ≡ ev =
          is_entry k goes
          ∙ ap (λ (x : List ℕ). Sealed tag m (turn_at k) x no_draw) (record_is r.psk s (turn_at k) (turn_at f0) (inner_reply (turn_at k)) (inner_reply (turn_at f0)) k.pad f0.pad refl refl refl)
          ∙ ap (λ (l : List ℕ). seen l (unseen e0)) (sym is) in
          let fit : IsAllowed h (place_for h body) k = record {
            least = allowed.least;
            most = allowed.most;
            unused = allowed.unused;
            context = allowed.context;
            exchange_opaque = allowed.exchange_opaque;
            nonce = by.1;
            measured_opaque = by.2;
            handle = allowed.handle;
            reply = allowed.reply;
            pad = allowed.pad;
          } in
          let short : length (answer_to r h body k) ≤ MAX_MESSAGE_SIZE =
          subst (λ (b : Bool). length (cond b (clear_answer r (clear_place h) m k) (record_answer r s m k)) ≤ MAX_MESSAGE_SIZE) (sym type)
          (subst (λ (l : List ℕ). length l ≤ MAX_MESSAGE_SIZE) (sym (bytes_are r s inner op asks k)) at.2) in
          subst (λ (b : List ℕ). (f : Free) × IsAllowed h (place_for h b) f × (length (answer_to r h b f) ≤ MAX_MESSAGE_SIZE) × (on_body r h tag b f no_draw ≡ Adds ev)) (sym six)
          (k, fit, short, body_adds r h tag body answer type will k ∙ ap Adds there)

      pub asks_one : IsShownWhole r (Some (id_in_record m)) v (unseen e0 ∷ h) ↔ IsMeasuredBy r op v
      asks_one =
          let shown = whole_is_shown r h tag (record_body m) ev byte refl in
          (λ c. measured (shown.1 (subst Here unseen_is c)), λ c. subst Here (sym unseen_is) (shown.0 (led c)))

-- ---- What is kept behind it.

module _ (w : Configuration) (q : ReqSetup) (older : List (List ℕ)) (k : Kept) (route : RouteFields) (answer : List ℕ) (byte : w.responder.beat < 256) (limits : IsSetUp k.setup) (carries : Carries w q older k) (turn : AnswersInTurn k route answer)
    (type : (slice_index turn.round.body 0 == 5) ≡ false) (will : will_take (responder_for w k) k.responder turn.round.body ≡ true) (large : IsShownLarge (responder_for w k) k.responder turn.round.tag turn.round.body answer) (op : ℕ)
    (asks : request_at (session_place (session_of (id_in_record (drop 1 turn.round.body)) k.responder)) (drop 1 (opened (responder_for w k).psk (session_of (id_in_record (drop 1 turn.round.body)) k.responder) (drop 1 turn.round.body))) ≡ Some (GetMeasurements op)) where
  abbrev r : RspSetup
  r = responder_for w k

  abbrev h : History
  h = k.responder

  abbrev round : Round
  round = turn.round

  abbrev pub id : ℕ
  id = id_in_record (drop 1 turn.round.body)

  abbrev pub begun : Entry
  begun = e0 r h round.tag round.body answer type will large op asks

  abbrev pub next : Fetching
  next = record { kept = heard_kept k (unseen begun ∷ h) route.tag round answer; at = place_named round.body; place = place_in h (unseen begun ∷ h) }

  pub at_is : next.at ≡ Some id
  at_is = named_session round.body type

  pub begins : asks_upon k route.tag answer ≡ true → BeginsFetching w k (Whole route answer) next
  begins fetches =
      let heard = heard_on w q older k limits carries route.tag round answer turn.answers.0 turn.answers.1 None (unseen begun ∷ h) in
      let is : unseen begun ∷ h ≡ begun_large h (large_shown r h round.tag round.body answer) = sym (ap (begun_large h) (shown_is r h round.tag round.body answer type will large op asks)) in
      let given = (large_is_shown r (restored k) round answer (unseen begun ∷ h) byte).1 (large, is) in
      (turn.body, turn.owner, (round, turn.answers, (unseen begun ∷ h, next.place, inl (given, refl), (heard.history, heard.hears, heard.asks ∙ fetches, ap (λ (x : Kept). record next { kept = x }) (sym heard.kept)))))

  unseen_here : is_unseen_in next.at (unseen begun) ≡ true
  unseen_here = ap (λ (o : Option ℕ). is_unseen_in o (unseen begun)) at_is ∙ unseen_is r h round.tag round.body answer type will large op asks

  pub none_came : number_of next ≡ 0
  none_came = ap (λ (b : Bool). cond b 0 (cond (gives_in next.at (unseen begun)) (number_given next.at h + 1) (number_given next.at h))) unseen_here

  none_told : size_told next.at (unseen begun ∷ h) ≡ None
  none_told = ap (λ (b : Bool). cond b None (cond (gives_in next.at (unseen begun) && number_given next.at h == 0) (Some (size_in (answer_by (unseen begun)))) (size_told next.at h))) unseen_here

  no_bytes : bytes_given next.at (unseen begun ∷ h) ≡ []
  no_bytes = ap (λ (b : Bool). cond b [] (cond (gives_in next.at (unseen begun)) (bytes_given next.at h ++ bytes_in (number_given next.at h) (answer_by (unseen begun))) (bytes_given next.at h))) unseen_here

  pub stands : MayStand next (whole_of begun)
  stands = (
    big r h round.tag round.body answer type will large op asks,
    subst (λ (o : Option ℕ). HasSize o (whole_of begun)) (sym none_told) tt,
    subst (λ (l : List ℕ). take (length l) (whole_of begun) ≡ l) (sym no_bytes) refl,
  )

  pub judged_is : with_large (Some id) (whole_of begun) (unseen begun ∷ h) ≡ begun ∷ h
  judged_is = ap (λ (o : Option ℕ). with_large o (whole_of begun) (unseen begun ∷ h)) (sym at_is) ∙ judged r h round.tag round.body answer type will large op asks
