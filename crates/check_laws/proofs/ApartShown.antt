-- Whether the verify data of an answer are alone wrong is determined by what it shows.
use Rattle.std.proofs.Common.{◌≡◌, ◌<◌, ◌≤◌, ◌==◌, ℕ, List, [], ◌∷◌, refl, sym, ap, ◌∙◌, subst, length, drop, Bool, true, false, Option, Some, None, cond, inl, inr}
use Rattle.std.specs.Prelude.{slice_index}
use Rattle.std.proofs.lemmas.Bool.{false≢true}
use Rattle.std.proofs.lemmas.Option.{none-some}
use Rattle.responder_machine.specs.Answer.{Free, request_at}
use Rattle.responder_machine.specs.Handling.{chunk_in, turn_of}
use Rattle.responder_machine.specs.History.{Entry, History, clear_turns, ended_of, kept_of, negotiation_of, phase_of}
use Rattle.responder_machine.specs.History.Entry.{Clear}
use Rattle.responder_machine.specs.May.{IsAllowed, on_body, with_dropped}
use Rattle.responder_machine.specs.Place.{Place, clear_place, place_terms}
use Rattle.responder_machine.specs.Records.{opening_fault}
use Rattle.responder_machine.specs.Responder.{Outcome, after, body_of, in_session, in_session_by, is_repeat, kept_record, kept_reply, on_clear, on_record, repeats, sent_by, to_session}
use Rattle.responder_machine.specs.Responder.Outcome.{Same, Adds}
use Rattle.responder_machine.specs.Session.{Events, id_in_record, last_of, session_of}
use Rattle.responder_machine.specs.Setup.{RspSetup}
use Rattle.responder_machine.specs.Turn.{Turn}
use Rattle.spdm_basis.proofs.Bools.{and_first}
use Rattle.spdm_basis.specs.declared.causes.record_fault.RecordFault.{RecordFault}
use Rattle.spdm_grammar.specs.declared.names.TheConstants.{MAX_MESSAGE_SIZE}
use Rattle.spdm_grammar.specs.declared.names.request_code.TheConstants.{CHUNK_GET}
use Rattle.spdm_grammar.specs.declared.told.phase.Phase.{Phase}
use Rattle.spdm_machine.specs.Bodies.{clear_body, record_body}
use Rattle.spdm_machine.specs.Terms.{hash_len, terms_of}
use Rattle.check_laws.proofs.BodyShown.{answers_are_shown, events, place_by, shown_by}
use Rattle.check_laws.proofs.CarriedExchange.{carried_shows, turn_carries}
use Rattle.check_laws.proofs.DropsShown.{again_is, drops_back, drops_by, outcome_by}
use Rattle.check_laws.proofs.PlainShown.{plain_whole, shown_from}
use Rattle.check_laws.specs.AnswersShown.{LeadsAt, least_values, values_in_reply, values_shown_by}
use Rattle.check_laws.specs.ApartShown.{ApartIsShown, IsApartShown}
use Rattle.check_laws.specs.DropsShown.{dropped_for, drops_shown_by, id_begun, outcome_shown, response_of}
use Rattle.capture_machine.proofs.DropsTell.{turns_stay}
use Rattle.capture_machine.specs.CapturedAnswers.{AnswersAgain, AnswersLarge, AnswersPlainly, Answers, MayLeadTo, clear_answer, is_plain, record_answer}
use Rattle.capture_machine.specs.Difference.{AreRepliesApart, carries_exchange, is_apart, verify_size}
use Rattle.capture_machine.specs.LargeAnswers.{is_large, takes_get}
use Rattle.capture_machine.specs.Rounds.{Dialogue, Round, no_draw}

-- ---- No answer to a record carries PSK_EXCHANGE_RSP.

module _ (r : RspSetup) (tag : ℕ) (sealed : List ℕ) (f : Free) where
  opening_silent : (phase : Phase) (s : Events) (x : Option RecordFault) → carries_exchange (body_of (in_session_by r phase s f tag sealed no_draw x)) ≡ false
  opening_silent phase s (Some fault) = refl
  opening_silent phase s None = refl

  session_silent : (phase : Phase) (s : Events) (again : Bool) (kept : List ℕ) → carries_exchange (body_of (cond again (Same (record_body kept)) (in_session r phase s f tag sealed no_draw))) ≡ false
  unfolding in_session
  session_silent phase s true kept = refl
  session_silent phase s false kept = opening_silent phase s (opening_fault r.psk s sealed)

  to_silent : (phase : Phase) (s : Events) → carries_exchange (body_of (to_session r phase s f tag sealed no_draw)) ≡ false
  to_silent phase [] = refl
  to_silent phase (e ∷ s) = session_silent phase (e ∷ s) (repeats (last_of (e ∷ s)) sealed) (kept_record (last_of (e ∷ s)))

  ended_silent : (again : Bool) (kept : List ℕ) (phase : Phase) (s : Events) → carries_exchange (body_of (cond again (Same (record_body kept)) (to_session r phase s f tag sealed no_draw))) ≡ false
  ended_silent true kept phase s = refl
  ended_silent false kept phase s = to_silent phase s

  pub record_silent : (g : History) → carries_exchange (body_of (on_record r g tag sealed f no_draw)) ≡ false
  unfolding on_record
  record_silent g = ended_silent (repeats (ended_of g) sealed) (kept_record (ended_of g)) (phase_of (clear_turns g)) (session_of (id_in_record sealed) g)

-- ---- An entry whose answer carries it.

-- It is no large response, and no CHUNK_GET.
module _ (r : RspSetup) (g : History) (tag : ℕ) (body : List ℕ) (f : Free) (entry : Entry) where
  clear_entry : (again : Bool) (kept : List ℕ) → cond again (Same kept) (Adds (Clear tag (turn_of r (clear_place g) (drop 1 body) f) no_draw)) ≡ Adds entry → carries_exchange (sent_by entry) ≡ true
      → (is_large entry ≡ false) × (takes_get entry ≡ false)
  clear_entry true kept is carries = absurd (cc)
  clear_entry false kept is carries =
      let t : Turn = turn_of r (clear_place g) (drop 1 body) f in
      let same : Clear tag t no_draw ≡ entry = cc in
      let known = turn_carries r (clear_place g) (drop 1 body) f (ap (λ (e : Entry). carries_exchange (sent_by e)) same ∙ carries) in
      (ap is_large (sym same) ∙ known.1.0, ap takes_get (sym same) ∙ ap (λ (n : ℕ). n == CHUNK_GET) known.1.1)

  by_type : (clear : Bool) → cond clear (on_clear r g tag (drop 1 body) f no_draw) (on_record r g tag (drop 1 body) f no_draw) ≡ Adds entry → carries_exchange (sent_by entry) ≡ true → (is_large entry ≡ false) × (takes_get entry ≡ false)
  unfolding on_clear
  by_type true is carries = clear_entry (is_repeat (kept_of g) tag (drop 1 body)) (clear_body (kept_reply (kept_of g))) is carries
  by_type false is carries = absurd (false≢true (sym (record_silent r tag (drop 1 body) f g) ∙ ap (λ (o : Outcome). carries_exchange (body_of o)) is ∙ carries))

entry_carries : (r : RspSetup) (g : History) (tag : ℕ) (body : List ℕ) (entry : Entry) → MayLeadTo r g tag body (Adds entry) → carries_exchange (sent_by entry) ≡ true → (is_large entry ≡ false) × (takes_get entry ≡ false)
unfolding MayLeadTo
entry_carries r g tag body entry may carries = by_type r g tag body may.0 entry (slice_index body 0 == 5) may.3 carries

-- ---- What differs in the verify data alone shows the same.

module _ (r : RspSetup) (h : History) (ids : List ℕ) (tag : ℕ) (body : List ℕ) (byte : r.beat < 256) where
  abbrev g : History
  g = with_dropped h ids

  abbrev m : List ℕ
  m = drop 1 body

  abbrev p : Place
  p = clear_place g

  abbrev size : ℕ
  size = hash_len (terms_of (negotiation_of (clear_turns h)))

  size_is : hash_len (place_terms p) ≡ size
  size_is = ap (λ (l : List Turn). hash_len (terms_of (negotiation_of l))) (turns_stay ids h)

  abbrev value : Bool → (answer : List ℕ) → Free
  value clear answer = shown_by r g tag body byte clear answer (outcome_by r h tag body clear g (least_values g (place_by r g tag body byte clear)))

  abbrev clear_outcome : Bool → Free → Outcome
  clear_outcome again f = cond again (Same (clear_body (kept_reply (kept_of g)))) (Adds (Clear tag (turn_of r p m f) no_draw))

  no_drops : (b : Bool) (x y : List ℕ) → b ≡ true → cond b [] x ≡ cond b [] y
  no_drops true x y is = refl
  no_drops false x y is = absurd (false≢true is)

  clear_same : (again : Bool) (f : Free) (answer : List ℕ) → is_repeat (kept_of g) tag m ≡ again → IsAllowed g p f → length (clear_answer r p m f) ≤ MAX_MESSAGE_SIZE → let o = clear_outcome again f in
      carries_exchange (body_of o) ≡ true → is_apart size (body_of o) answer ≡ true
      → (drops_by r h tag body true answer ≡ drops_by r h tag body true (body_of o))
      × (shown_by r g tag body byte true answer (clear_outcome again (least_values g p)) ≡ shown_by r g tag body byte true (body_of o) (clear_outcome again (least_values g p)))
  clear_same true f answer is fits short carries apart = (no_drops (is_repeat (kept_of h) tag m) _ _ (sym (again_is r h tag body ids) ∙ is), refl)
  clear_same false f answer is fits short carries apart =
      let t : Turn = turn_of r p m f in
      let known = turn_carries r p m f carries in
      let same = carried_shows r g p m f byte fits t.reply answer (chunk_in (request_at p m)) known.0 short (ap (λ (n : ℕ). is_apart n (clear_body t.reply) answer) size_is ∙ apart) in
      let other : drop 1 answer ≡ same.other = ap (λ (l : List ℕ). drop 1 l) same.is in (
        ap (λ (o : Option ℕ). cond (is_repeat (kept_of h) tag m) [] (dropped_for h o)) (ap (λ (l : List ℕ). id_begun (response_of l)) other ∙ same.id),
        ap (λ (l : List ℕ). values_in_reply r p m (least_values g p) l (chunk_in (request_at p m))) other ∙ same.values (least_values g p),
      )

  -- Of an answer that may be given.
  same_shown : (clear : Bool) (f : Free) (o : Outcome) (answer : List ℕ) → IsAllowed g (place_by r g tag body byte clear) f
      → length (cond clear (clear_answer r p m f) (record_answer r (events r g tag body byte) m f)) ≤ MAX_MESSAGE_SIZE → outcome_by r h tag body clear g f ≡ o
      → carries_exchange (body_of o) ≡ true → is_apart size (body_of o) answer ≡ true
      → (drops_by r h tag body clear answer ≡ drops_by r h tag body clear (body_of o)) × (value clear answer ≡ value clear (body_of o))
  unfolding on_clear
  same_shown true f o answer fits short leads carries apart =
      let P : Outcome → Type 0 = λ x. carries_exchange (body_of x) ≡ true → is_apart size (body_of x) answer ≡ true → (drops_by r h tag body true answer ≡ drops_by r h tag body true (body_of x)) × (value true answer ≡ value true (body_of x)) in
      subst P leads (clear_same (is_repeat (kept_of g) tag m) f answer refl fits short) carries apart
  same_shown false f o answer fits short leads carries apart = absurd (false≢true (sym (record_silent r tag m f g) ∙ ap (λ (x : Outcome). carries_exchange (body_of x)) leads ∙ carries))

-- ---- An answer in a round.

module _ (r : RspSetup) (d : Dialogue) (round : Round) (answer : List ℕ) (byte : r.beat < 256) where
  abbrev h : History
  h = d.responder

  abbrev tag : ℕ
  tag = round.tag

  abbrev body : List ℕ
  body = round.body

  -- Where no large response is fetched.
  abbrev still : Dialogue
  still = record d { fetching = None }

  plain_apart : (other : List ℕ) (next : History) → AnswersPlainly r still round other next → carries_exchange other ≡ true → is_apart (verify_size d) other answer ≡ true → IsApartShown r d round answer
  unfolding MayLeadTo drops_shown_by values_shown_by outcome_shown
  plain_apart other next plain carries apart =
      let ids : List ℕ = plain.0 in
      let o : Outcome = plain.1 in
      let g : History = with_dropped h ids in
      let may = plain.2.1 in
      let clear : Bool = slice_index body 0 == 5 in
      let brings : carries_exchange (body_of o) ≡ true = ap carries_exchange plain.5 ∙ carries in
      let differs : is_apart (verify_size d) (body_of o) answer ≡ true = ap (λ (l : List ℕ). is_apart (verify_size d) l answer) plain.5 ∙ apart in
      let same = same_shown r h ids tag body byte clear may.0 o answer may.1 may.2 may.3 brings differs in
      let known = shown_from r h tag body byte ids o plain.2 plain.3 plain.4 in
      let leads = (answers_are_shown r g tag body o byte (plain_whole h o plain.4)).0 may in
      let drops : drops_shown_by r h tag body answer ≡ ids = same.0 ∙ known.0 in
      let values : values_shown_by r g tag body answer ≡ values_shown_by r g tag body (body_of o) = same.1 in
      let here : LeadsAt r g tag body o (values_shown_by r g tag body answer) = subst (LeadsAt r g tag body o) (sym values) leads in
      let outcome : outcome_shown r h tag body answer ≡ o =
      ap (λ (l : List ℕ). on_body r (with_dropped h l) tag body (values_shown_by r (with_dropped h l) tag body answer) no_draw) drops ∙ here.2 in
      let P : List ℕ → Type 0 = λ l. LeadsAt r (with_dropped h l) tag body o (values_shown_by r (with_dropped h l) tag body answer) in
      let Q : Outcome → Type 0 = λ x. LeadsAt r (with_dropped h (drops_shown_by r h tag body answer)) tag body x (values_shown_by r (with_dropped h (drops_shown_by r h tag body answer)) tag body answer)
      × (is_plain h x ≡ true) × (carries_exchange (body_of x) ≡ true) × (is_apart (verify_size d) (body_of x) answer ≡ true) in
      subst Q (sym outcome) (subst P (sym drops) here, plain.4, brings, differs)

  large_not : (other : List ℕ) (next : History) (whole : List ℕ) → AnswersLarge r still round other next whole → carries_exchange other ≡ true → ⊥
  large_not other next whole large carries =
      let known = entry_carries r (with_dropped h large.0) tag body large.1 large.2.1 (ap carries_exchange large.5 ∙ carries) in
      false≢true (sym known.0 ∙ large.3)

  -- LargeResponse again is shown as any repeat.
  again_plain : (other : List ℕ) (next : History) (whole : List ℕ) → AnswersAgain r still round other next whole → AnswersPlainly r still round other next
  again_plain other next whole again = ([], Same other, (tt, again.1), tt, refl, refl, again.4)

  to_shown : AreRepliesApart r still (Some round) answer → IsApartShown r d round answer
  unfolding Answers
  to_shown (inl c) = by_kind c.3
    where
      by_kind : Answers r still round c.0 c.1 c.2 → IsApartShown r d round answer
      by_kind (inl plain) = plain_apart c.0 c.1 plain.0 c.4 c.5
      by_kind (inr (inl large)) = absurd (large_not c.0 c.1 large.0 large.1 c.4)
      by_kind (inr (inr (inl again))) = plain_apart c.0 c.1 (again_plain c.0 c.1 again.0 again.1) c.4 c.5
      by_kind (inr (inr (inr last))) = absurd (none-some last.0.0 last.0.3)
  to_shown (inr c) = absurd (none-some c.0 c.4)

  from_shown : IsApartShown r d round answer → AreRepliesApart r still (Some round) answer
  unfolding Answers MayLeadTo drops_shown_by values_shown_by outcome_shown
  from_shown shown =
      let ids : List ℕ = drops_shown_by r h tag body answer in
      let g : History = with_dropped h ids in
      let v : Free = values_shown_by r g tag body answer in
      let o : Outcome = outcome_shown r h tag body answer in
      let clear : Bool = slice_index body 0 == 5 in
      let same = same_shown r h ids tag body byte clear v o answer shown.0.0 shown.0.1 shown.0.2 shown.2 shown.3 in
      let back = drops_back r h tag body clear ids v o shown.0.2 shown.1 same.0 in
      let next : History = after (with_dropped h ids) o in
      let plain : AnswersPlainly r still round (body_of o) next = (ids, o, (back.0, (v, shown.0.0, shown.0.1, shown.0.2)), back.1, shown.1, refl, refl) in
      inl (body_of o, next, None, inl (plain, refl), shown.2, shown.3)

pub apart_is_shown : ApartIsShown
apart_is_shown r d round answer byte none =
    let P : Option (List ℕ) → Type 0 = λ o. AreRepliesApart r (record d { fetching = o }) (Some round) answer in
    (λ c. to_shown r d round answer byte (subst P none c), λ c. subst P (sym none) (from_shown r d round answer byte c))
