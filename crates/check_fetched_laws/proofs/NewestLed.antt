-- In each walk the newest record of a session was led to, from what the session was then.
use Rattle.std.proofs.Common.{◌≡◌, ◌≤◌, ◌||◌, ◌==◌, ◌&&◌, ◌⊎◌, ◌∙◌, ℕ, List, [], ◌∷◌, refl, sym, ap, subst, drop, length, arith, Bool, true, false, Option, Some, None, Result, Ok, Err, is_some, is_none, cond, eq-eqb, eqb-true, ne_eqb, inl, inr, ◌≢◌}
use Rattle.std.specs.Prelude.{MatchBool, not, slice_index}
use Rattle.std.proofs.lemmas.Bool.{and_parts, eqb-false, false≢true, not-true}
use Rattle.check_responder.proofs.KeysKept.{LeadsBy, dropped_ended, dropped_session, record_leads}
use Rattle.check_responder.specs.AnswerKeys.{is_taken_in}
use Rattle.check_laws.specs.Order.{is_answer, is_request}
use Rattle.check_laws.specs.Walks.{StepsBy, StepsTo, Walks}
use Rattle.check_late_laws.proofs.Late.SeenAlike.{SeenAlike}
use Rattle.check_late_laws.proofs.Late.SeenAlike.SeenAlike.{NoEvent}
use Rattle.check_late_laws.proofs.Late.SeenSessions.{events_equal, seen_alike}
use Rattle.check_late_laws.proofs.Late.SessionsQuiet.{none_dropped}
use Rattle.check_late_laws.proofs.Late.SettledSessions.{IsSettled, settled_sessions}
use Rattle.check_laws.proofs.BegunAtLast.{settled, settled_behind, settled_here}
use Rattle.check_laws.proofs.StepsOfWalks.{completes_since, walks_held}
use Rattle.check_late_laws.proofs.Late.BehindSessions.{dropped_session as session_dropped}
use Rattle.check_late_laws.proofs.Late.SessionNewest.{again_leaves_others}
use Rattle.mctp_framing.specs.Gathering.{Gathered}
use Rattle.mctp_framing.specs.Gathering.Gathered.{Whole, More, Dropped as Lost}
use Rattle.mctp_framing.specs.Packet.{PacketFields, parsed}
use Rattle.requester_machine.specs.Setup.{ReqSetup}
use Rattle.responder_machine.specs.Answer.{Free}
use Rattle.responder_machine.specs.Handling.{turn_of}
use Rattle.responder_machine.specs.History.{Entry, History, KeptRecord, ended_of}
use Rattle.responder_machine.specs.History.Entry.{Clear, Sealed, Queued, Ticked, Dropped}
use Rattle.responder_machine.specs.May.{IsAllowed, with_dropped}
use Rattle.responder_machine.specs.Place.{clear_place, session_place}
use Rattle.responder_machine.specs.Records.{opened, opening_fault, reply_record}
use Rattle.responder_machine.specs.Responder.{Outcome, after, inner_reply, on_clear, on_record, repeats, sealed_entry, session_turn}
use Rattle.responder_machine.specs.Responder.Outcome.{Same, Unopened, Adds}
use Rattle.responder_machine.specs.Session.{Events, id_in_record, is_live, last_of, session_of}
use Rattle.responder_machine.specs.Setup.{RspSetup, towards}
use Rattle.responder_machine.specs.Turn.{Turn, handle_in, takes}
use Rattle.spdm_basis.proofs.Bools.{and_first}
use Rattle.spdm_basis.specs.declared.PacketFault.{PacketFault}
use Rattle.spdm_basis.specs.declared.causes.record_fault.RecordFault.{RecordFault}
use Rattle.spdm_grammar.specs.declared.names.TheConstants.{MAX_MESSAGE_SIZE}
use Rattle.spdm_grammar.specs.declared.names.request_code.TheConstants.{END_SESSION, GET_VERSION, PSK_EXCHANGE}
use Rattle.spdm_machine.specs.Keys.{Draw}
use Rattle.spdm_machine.specs.Packets.{gathered_from}
use Rattle.capture_machine.proofs.DropsTell.{clear_form}
use Rattle.capture_machine.proofs.Fetching.{IsSound}
use Rattle.capture_machine.proofs.FetchedSessions.{ended_fetched}
use Rattle.capture_machine.proofs.PlacesServed.{named_clear, named_session}
use Rattle.capture_machine.proofs.PlainTells.{led_clear}
use Rattle.capture_machine.proofs.SmallGets.{gets_are_small}
use Rattle.capture_machine.proofs.UnseenStands.{IsClearSince, IsQuiet, UnseenStand}
use Rattle.capture_machine.specs.Capture.{AsksBy, RepliesBy}
use Rattle.capture_machine.specs.CapturedAnswers.{Answers, Completes, MayHaveLed, MayLeadTo, MayLeadToEntry, clear_answer, is_plain, record_answer}
use Rattle.capture_machine.specs.LargeAnswers.{begun_with, dropped_before_large, id_begun, is_large, is_unseen_in, is_untouched, judging, place_named, seen, seen_turn, touches, turn_with, unseen, with_large}
use Rattle.capture_machine.specs.Rounds.{Dialogue, Round, no_draw}
use Rattle.world_machine.specs.Setup.{Configuration, known_of}

-- ---- What is kept of an entry.

-- A turn is the one that was led to: its answer went whole; or it went by LargeResponse, and was not seen.
abbrev pub IsTurnOf : Turn → (led : Turn) → Type 0
IsTurnOf t led =
    ((t ≡ led) × (is_some (handle_in led.effect) ≡ false))
    ⊎ ((t ≡ turn_with [] None led) × (is_some (handle_in led.effect) ≡ true))

-- A record was led to this turn and this reply from a session that was as it is in this history, but for a large
-- response.
pub record LedHere (r : RspSetup) (before : History) (m : List ℕ) (t : Turn) (reply : List ℕ) (d : Draw) : Type 0 where
  pub s : Events
  pub alike : SeenAlike s (session_of (id_in_record m) before)
  pub live : is_live s ≡ true
  pub fault : opening_fault r.psk s m ≡ None
  pub fresh : repeats (last_of s) m ≡ false
  pub ended : repeats (ended_of before) m ≡ false
  pub free : Free
  pub then : History
  pub allowed : IsAllowed then (session_place s) free
  pub short : length (record_answer r s m free) ≤ MAX_MESSAGE_SIZE
  pub drawn : d ≡ no_draw
  pub turn : IsTurnOf t (session_turn r s (opened r.psk s m) free)
  pub reply_is : reply ≡ reply_record r.psk s (session_turn r s (opened r.psk s m) free) (inner_reply (session_turn r s (opened r.psk s m) free)) free.pad

-- So it is of the newest record of a session.
abbrev pub NewestLed : RspSetup → (id : ℕ) → History → Type 0
NewestLed r id [] = Unit {0}
NewestLed r id (Clear tag t d ∷ h) = NewestLed r id h
NewestLed r id (Sealed tag m t reply d ∷ h) = MatchBool (id_in_record m == id) (LedHere r h m t reply d) (NewestLed r id h)
NewestLed r id (Queued bytes ∷ h) = NewestLed r id h
NewestLed r id (Ticked seconds ∷ h) = NewestLed r id h
NewestLed r id (Dropped which ∷ h) = NewestLed r id h

-- ---- What a record leads to.

either_led : {A B : Type 0} (b : Bool) → (b ≡ true → A) → (b ≡ false → B) → MatchBool b A B
either_led true one other = one refl
either_led false one other = other refl

-- What adds an entry does not leave the history.
adds_more : (g : History) (o : Outcome) (e : Entry) → o ≡ Adds e → after g o ≡ g → ⊥
adds_more g o e is stays =
    let same : length (e ∷ g) ≡ length g = ap (λ (l : History). length l) (sym (ap (after g) is) ∙ stays) in omega (arith, same)

-- At some values a record led to an entry.
pub record LedAt (r : RspSetup) (g : History) (tag : ℕ) (body : List ℕ) (e : Entry) : Type 0 where
  pub free : Free
  pub allowed : IsAllowed g (session_place (session_of (id_in_record (drop 1 body)) g)) free
  pub short : length (record_answer r (session_of (id_in_record (drop 1 body)) g) (drop 1 body) free) ≤ MAX_MESSAGE_SIZE
  pub leads : on_record r g tag (drop 1 body) free no_draw ≡ Adds e

pub led_at : (r : RspSetup) (g : History) (tag : ℕ) (body : List ℕ) (e : Entry) → (slice_index body 0 == 5) ≡ false → MayLeadTo r g tag body (Adds e) → LedAt r g tag body e
unfolding MayLeadTo
led_at r g tag body e type may =
    let m : List ℕ = drop 1 body in
    let s : Events = session_of (id_in_record m) g in
    let f : Free = may.0 in record {
      free = f;
      allowed = subst (λ (b : Bool). IsAllowed g (cond b (clear_place g) (session_place s)) f) type may.1;
      short = subst (λ (b : Bool). length (cond b (clear_answer r (clear_place g) m f) (record_answer r s m f)) ≤ MAX_MESSAGE_SIZE) type may.2;
      leads = sym (ap (λ (b : Bool). cond b (on_clear r g tag m f no_draw) (on_record r g tag m f no_draw)) type) ∙ may.3;
    }

module _ (r : RspSetup) (g : History) (tag : ℕ) (body : List ℕ) (e : Entry) (type : (slice_index body 0 == 5) ≡ false) (may : MayLeadTo r g tag body (Adds e)) where
  abbrev m : List ℕ
  m = drop 1 body

  abbrev s : Events
  s = session_of (id_in_record (drop 1 body)) g

  abbrev f : Free
  f = (led_at r g tag body e type may).free

  abbrev u : Turn
  u = session_turn r s (opened r.psk s m) f

  leads : on_record r g tag m f no_draw ≡ Adds e
  leads = (led_at r g tag body e type may).leads

  pub taken : (Adds e ≡ Adds (sealed_entry r s f tag m no_draw u)) × (is_taken_in r s (repeats (ended_of g) m) m ≡ true)
  taken = by_leads (record_leads r g tag m f no_draw)
    where
      by_leads : LeadsBy r g tag m f no_draw s (is_taken_in r s (repeats (ended_of g) m) m) (on_record r g tag m f no_draw) → (Adds e ≡ Adds (sealed_entry r s f tag m no_draw u)) × (is_taken_in r s (repeats (ended_of g) m) m ≡ true)
      by_leads (inl stays) = absurd (adds_more g (on_record r g tag m f no_draw) e leads stays.0)
      by_leads (inr adds) = (sym leads ∙ adds.0, adds.1)

  same_entry : (one other : Entry) → Adds one ≡ Adds other → one ≡ other
  same_entry one other same = cc

  pub entry_is : e ≡ sealed_entry r s f tag m no_draw u
  entry_is = same_entry e (sealed_entry r s f tag m no_draw u) taken.0

  pub was_live : is_live s ≡ true
  was_live = (and_parts (is_live s) _ (and_parts (not (repeats (last_of s) m)) _ (and_parts (not (repeats (ended_of g) m)) _ taken.1).1).1).0

  no_fault : (o : Option RecordFault) → is_none o ≡ true → o ≡ None
  no_fault None is = refl
  no_fault (Some x) is = absurd (false≢true is)

  -- In a history with such a session.
  pub led_here : (before : History) (t : Turn) (reply : List ℕ) → SeenAlike s (session_of (id_in_record (drop 1 body)) before) → ended_of g ≡ ended_of before → IsTurnOf t u → reply ≡ reply_record r.psk s u (inner_reply u) f.pad
      → LedHere r before m t reply no_draw
  led_here before t reply alike ended turn is =
      let first = and_parts (not (repeats (ended_of g) m)) _ taken.1 in
      let second = and_parts (not (repeats (last_of s) m)) _ first.1 in
      let third = and_parts (is_live s) _ second.1 in record {
        s = s;
        alike = alike;
        live = third.0;
        fault = no_fault (opening_fault r.psk s m) third.1;
        fresh = not-true _ second.0;
        ended = ap (λ (o : Option KeptRecord). repeats o m) (sym ended) ∙ not-true _ first.0;
        free = f;
        then = g;
        allowed = (led_at r g tag body e type may).allowed;
        short = (led_at r g tag body e type may).short;
        drawn = refl;
        turn = turn;
        reply_is = is;
      }

  abbrev pub Here : History → Type 0
  Here before = SeenAlike s (session_of (id_in_record (drop 1 body)) before)

  -- Whole.
  pub whole_led : (id : ℕ) (before : History) → Here before → ended_of g ≡ ended_of before → is_large e ≡ false → ((id_in_record (drop 1 body) == id) ≡ false → NewestLed r id before) → NewestLed r id (e ∷ before)
  whole_led id before alike ended small old =
      subst (λ (x : Entry). NewestLed r id (x ∷ before)) (sym entry_is)
      (either_led (id_in_record m == id) (λ one. led_here before u (reply_record r.psk s u (inner_reply u) f.pad) alike ended (inl (refl, sym (ap is_large entry_is) ∙ small)) refl) old)

  -- By LargeResponse.
  pub large_led : (id : ℕ) (before : History) → Here before → ended_of g ≡ ended_of before → is_large e ≡ true → NewestLed r id before → NewestLed r id (unseen e ∷ before)
  large_led id before alike ended large old =
      subst (λ (x : Entry). NewestLed r id (unseen x ∷ before)) (sym entry_is)
      (either_led (id_in_record m == id) (λ one. led_here before (turn_with [] None u) (reply_record r.psk s u (inner_reply u) f.pad) alike ended (inr (refl, sym (ap is_large entry_is) ∙ large)) refl) (λ other. old))

-- One in the clear is no record.
clear_adds : (r : RspSetup) (g : History) (tag : ℕ) (body : List ℕ) (e : Entry) (id : ℕ) (before : History) → (slice_index body 0 == 5) ≡ true → MayLeadTo r g tag body (Adds e) → NewestLed r id before
    → NewestLed r id (e ∷ before) × NewestLed r id (unseen e ∷ before)
clear_adds r g tag body e id before type may old =
    let led = led_clear r g tag body (Adds e) type may in
    elim (clear_form r g tag (drop 1 body) led.free (Adds e) led.leads) [
      | inl same ↦ absurd (let x = same.1 in cc)
      | inr adds ↦
          let is : Clear tag (turn_of r (clear_place g) (drop 1 body) led.free) no_draw ≡ e = cc (sym adds) in
          (subst (λ (x : Entry). NewestLed r id (x ∷ before)) is old, subst (λ (x : Entry). NewestLed r id (unseen x ∷ before)) is old)
    ]

-- ---- Drops.

pub dropped_led : (r : RspSetup) (id : ℕ) (ids : List ℕ) (h : History) → NewestLed r id h → NewestLed r id (with_dropped h ids)
dropped_led r id [] h led = led
dropped_led r id (x ∷ ids) h led = dropped_led r id ids (Dropped x ∷ h) led

drop_alike : (b : Bool) (s u : Events) → SeenAlike s u → SeenAlike (cond b [] s) (cond b [] u)
drop_alike true s u a = NoEvent
drop_alike false s u a = a

dropped_alike : (n : ℕ) (ids : List ℕ) (g h : History) → SeenAlike (session_of n g) (session_of n h) → SeenAlike (session_of n (with_dropped g ids)) (session_of n (with_dropped h ids))
dropped_alike n [] g h a = a
dropped_alike n (x ∷ ids) g h a =
    dropped_alike n ids (Dropped x ∷ g) (Dropped x ∷ h)
    (subst (λ (s : Events). SeenAlike s (session_of n (Dropped x ∷ h))) (sym (session_dropped x n g))
    (subst (SeenAlike (cond (x == n) [] (session_of n g))) (sym (session_dropped x n h)) (drop_alike (x == n) (session_of n g) (session_of n h) a)))

-- A session that is live after drops is as before them.
kept_alike : (n : ℕ) (ids : List ℕ) (g h : History) → is_live (session_of n (with_dropped g ids)) ≡ true → SeenAlike (session_of n g) (session_of n h) → SeenAlike (session_of n (with_dropped g ids)) (session_of n h)
kept_alike n ids g h live a = elim (dropped_session n g ids) [
  | inl same ↦ subst (λ (s : Events). SeenAlike s (session_of n h)) (sym same) a
  | inr none ↦ absurd (false≢true (ap is_live (sym none) ∙ live))
]

-- ---- What is judged.

judged_alike : (fetching : Option (List ℕ)) (body : List ℕ) (h : History) → (slice_index body 0 == 5) ≡ false → UnseenStand h → (n : ℕ) → SeenAlike (session_of n (judging fetching body h)) (session_of n h)
judged_alike None body h type stand n = events_equal (session_of n h)
judged_alike (Some w) body h type stand n =
    subst (λ (p : Option ℕ). SeenAlike (session_of n (with_large p w h)) (session_of n h)) (sym (named_session body type)) (seen_alike n (id_in_record (drop 1 body)) w h stand)

judged_ended : (fetching : Option (List ℕ)) (body : List ℕ) (h : History) → ended_of (judging fetching body h) ≡ ended_of h
judged_ended None body h = refl
judged_ended (Some w) body h = ended_fetched (place_named body) w h

-- ---- An answer that goes whole, and LargeResponse.

module _ (r : RspSetup) (d : Dialogue) (round : Round) (stand : UnseenStand d.responder) (ids : List ℕ) where
  abbrev h : History
  h = d.responder

  abbrev k : History
  k = judging d.fetching round.body d.responder

  ended_is : ended_of (with_dropped k ids) ≡ ended_of h
  ended_is = dropped_ended k ids ∙ judged_ended d.fetching round.body h

  after_led : (id : ℕ) (o : Outcome) → MayLeadTo r (with_dropped k ids) round.tag round.body o → is_plain k o ≡ true → NewestLed r id h → NewestLed r id (after (with_dropped h ids) o)
  after_led id (Same b) may plain old = dropped_led r id ids h old
  after_led id (Unopened b) may plain old = dropped_led r id ids h old
  after_led id (Adds e) may plain old = by_type (slice_index round.body 0 == 5) refl
    where
      by_type : (b : Bool) → (slice_index round.body 0 == 5) ≡ b → NewestLed r id (e ∷ with_dropped h ids)
      by_type true type = (clear_adds r (with_dropped k ids) round.tag round.body e id (with_dropped h ids) type may (dropped_led r id ids h old)).0
      by_type false type =
          let n : ℕ = id_in_record (drop 1 round.body) in
          whole_led r (with_dropped k ids) round.tag round.body e type may id (with_dropped h ids) (dropped_alike n ids k h (judged_alike d.fetching round.body h type stand n)) (ended_is ∙ sym (dropped_ended h ids))
          (not-true (is_large e) (and_first _ _ plain)) (λ other. dropped_led r id ids h old)

  begun_led : (id : ℕ) (e : Entry) → MayLeadTo r (with_dropped k ids) round.tag round.body (Adds e) → is_large e ≡ true → NewestLed r id h → NewestLed r id (unseen e ∷ h)
  begun_led id e may large old = by_type (slice_index round.body 0 == 5) refl
    where
      by_type : (b : Bool) → (slice_index round.body 0 == 5) ≡ b → NewestLed r id (unseen e ∷ h)
      by_type true type = (clear_adds r (with_dropped k ids) round.tag round.body e id h type may old).1
      by_type false type =
          let n : ℕ = id_in_record (drop 1 round.body) in
          large_led r (with_dropped k ids) round.tag round.body e type may id h
          (kept_alike n ids k h (was_live r (with_dropped k ids) round.tag round.body e type may) (judged_alike d.fetching round.body h type stand n)) ended_is large old

-- ---- The history behind a last chunk.

moved_led : (r : RspSetup) (g h : History) (m : List ℕ) (t : Turn) (reply : List ℕ) (d : Draw) → session_of (id_in_record m) h ≡ session_of (id_in_record m) g → ended_of h ≡ ended_of g → LedHere r g m t reply d → LedHere r h m t reply d
moved_led r g h m t reply d session ended led = record {
  s = led.s;
  alike = subst (SeenAlike led.s) (sym session) led.alike;
  live = led.live;
  fault = led.fault;
  fresh = led.fresh;
  ended = ap (λ (o : Option KeptRecord). repeats o m) ended ∙ led.ended;
  free = led.free;
  then = led.then;
  allowed = led.allowed;
  short = led.short;
  drawn = led.drawn;
  turn = led.turn;
  reply_is = led.reply_is;
}

ended_more : (e : Entry) (g h : History) → ended_of g ≡ ended_of h → ended_of (e ∷ g) ≡ ended_of (e ∷ h)
ended_more (Clear tag t d) g h same = ap (λ (o : Option KeptRecord). cond (takes GET_VERSION t || takes PSK_EXCHANGE t) None o) same
ended_more (Sealed tag m t reply d) g h same = ap (λ (o : Option KeptRecord). cond (takes END_SESSION t) (Some (record { sealed = m; reply = reply })) o) same
ended_more (Queued bytes) g h same = same
ended_more (Ticked seconds) g h same = same
ended_more (Dropped id) g h same = same

either_ended : (b : Bool) (x y : History) (o : Option KeptRecord) → ended_of x ≡ o → ended_of y ≡ o → ended_of (cond b x y) ≡ o
either_ended true x y o one other = one
either_ended false x y o one other = other

ended_before : (place : Option ℕ) (ids : List ℕ) (h : History) → ended_of (dropped_before_large place ids h) ≡ ended_of h
ended_before place ids [] = refl
ended_before place ids (e ∷ h) =
    either_ended (is_unseen_in place e) (e ∷ with_dropped h ids) (e ∷ dropped_before_large place ids h) (ended_of (e ∷ h)) (ended_more e (with_dropped h ids) h (dropped_ended h ids))
    (ended_more e (dropped_before_large place ids h) h (ended_before place ids h))

ended_settled : (place : Option ℕ) (w ids : List ℕ) (h : History) → ended_of (settled place w ids h) ≡ ended_of h
ended_settled place w ids h = ended_fetched place w (dropped_before_large place ids h) ∙ ended_before place ids h

-- In the clear.
module _ (r : RspSetup) (w ids : List ℕ) (id : ℕ) where
  request_led : (e : Entry) (h : History) → is_unseen_in None e ≡ true → NewestLed r id (e ∷ h) → NewestLed r id (seen w e ∷ with_dropped h ids)
  request_led (Clear tag t d) h is led = dropped_led r id ids h led
  request_led (Sealed tag m t reply d) h is led = absurd (false≢true is)
  request_led (Queued bytes) h is led = absurd (false≢true is)
  request_led (Ticked seconds) h is led = absurd (false≢true is)
  request_led (Dropped which) h is led = absurd (false≢true is)

  by_touched : (o : Option ℕ) (tag : ℕ) (m : List ℕ) (t : Turn) (reply : List ℕ) (d : Draw) (new old : Events) → touches o (Sealed tag m t reply d) ≡ false → IsSettled (id_in_record m) o new old → new ≡ old
  by_touched o tag m t reply d new old none (inl same) = same
  by_touched o tag m t reply d new old none (inr begins) =
      absurd (false≢true (sym none ∙ ap (λ (x : Option ℕ). touches x (Sealed tag m t reply d)) begins.1 ∙ eq-eqb (id_in_record m) (id_in_record m) refl))

  since_led : (e : Entry) (h : History) → IsClearSince h → MayHaveLed r None w ids h → is_untouched None (begun_with None w h) h ≡ true → touches (begun_with None w h) e ≡ false
      → NewestLed r id (e ∷ h) → (NewestLed r id h → NewestLed r id (settled None w ids h)) → NewestLed r id (e ∷ settled None w ids h)
  since_led (Clear tag t d) h since led untouched none old rest = rest old
  since_led (Queued bytes) h since led untouched none old rest = rest old
  since_led (Ticked seconds) h since led untouched none old rest = rest old
  since_led (Dropped which) h since led untouched none old rest = rest old
  since_led (Sealed tag m t reply d) h since led untouched none old rest = by_id (id_in_record m == id) old
    where
      by_id : (b : Bool) → MatchBool b (LedHere r h m t reply d) (NewestLed r id h) → MatchBool b (LedHere r (settled None w ids h) m t reply d) (NewestLed r id (settled None w ids h))
      by_id true here =
          let n : ℕ = id_in_record m in
          moved_led r h (settled None w ids h) m t reply d
          (by_touched (begun_with None w h) tag m t reply d (session_of n (settled None w ids h)) (session_of n h) none (settled_sessions r w ids n h since led untouched)) (ended_settled None w ids h) here
      by_id false other = rest other

  by_unseen : (e : Entry) (h : History) (b : Bool) → is_unseen_in None e ≡ b → MatchBool b (Unit {0}) (IsQuiet e × IsClearSince h) → MatchBool b (MayLeadToEntry r ids h (seen w e)) (MayHaveLed r None w ids h)
      → cond b true (not (touches (cond b (id_begun (seen w e)) (begun_with None w h)) e) && is_untouched None (cond b (id_begun (seen w e)) (begun_with None w h)) h) ≡ true
      → NewestLed r id (e ∷ h) → (IsClearSince h → MayHaveLed r None w ids h → is_untouched None (begun_with None w h) h ≡ true → NewestLed r id h → NewestLed r id (settled None w ids h))
      → NewestLed r id (settled None w ids (e ∷ h))
  by_unseen e h true is since led untouched old rest = subst (NewestLed r id) (sym (settled_here None w ids e h is)) (request_led e h is old)
  by_unseen e h false is since led untouched old rest =
      let parts = and_parts (not (touches (begun_with None w h) e)) _ untouched in
      subst (NewestLed r id) (sym (settled_behind None w ids e h is)) (since_led e h since.1 led parts.1 (not-true (touches (begun_with None w h) e) parts.0) old (rest since.1 led parts.1))

  clear_led : (h : History) → IsClearSince h → MayHaveLed r None w ids h → is_untouched None (begun_with None w h) h ≡ true → NewestLed r id h → NewestLed r id (settled None w ids h)
  clear_led [] since led untouched old = absurd since
  clear_led (e ∷ h) since led untouched old = by_unseen e h (is_unseen_in None e) refl since led untouched old (clear_led h)

-- In another session.
module _ (r : RspSetup) (d : Dialogue) (w : List ℕ) (which id : ℕ) (apart : (id == which) ≡ false) where
  seen_led : (e : Entry) (h : History) → is_unseen_in (Some which) e ≡ true → NewestLed r id (e ∷ h) → NewestLed r id (seen w e ∷ h)
  seen_led (Sealed tag m t reply dr) h is led =
      let here : (id_in_record m == id) ≡ false = other_id (id_in_record m) (eqb-true (id_in_record m) which (and_first _ _ is)) in
      subst (λ (b : Bool). MatchBool b (LedHere r h m (seen_turn w t) reply dr) (NewestLed r id h)) (sym here) (subst (λ (b : Bool). MatchBool b (LedHere r h m t reply dr) (NewestLed r id h)) here led)
    where
      other_id : (n : ℕ) → n ≡ which → (n == id) ≡ false
      other_id n is = ne_eqb n id (λ same. false≢true (sym apart ∙ eq-eqb id which (sym same ∙ is)))
  seen_led (Clear tag t dr) h is led = absurd (false≢true is)
  seen_led (Queued bytes) h is led = absurd (false≢true is)
  seen_led (Ticked seconds) h is led = absurd (false≢true is)
  seen_led (Dropped other) h is led = absurd (false≢true is)

  more_led : (e : Entry) (h : History) → NewestLed r id (e ∷ h) → (NewestLed r id h → NewestLed r id (with_large (Some which) w h)) → NewestLed r id (e ∷ with_large (Some which) w h)
  more_led (Clear tag t dr) h old rest = rest old
  more_led (Queued bytes) h old rest = rest old
  more_led (Ticked seconds) h old rest = rest old
  more_led (Dropped other) h old rest = rest old
  more_led (Sealed tag m t reply dr) h old rest = by_id (id_in_record m == id) refl old
    where
      by_id : (b : Bool) → (id_in_record m == id) ≡ b → MatchBool b (LedHere r h m t reply dr) (NewestLed r id h) → MatchBool b (LedHere r (with_large (Some which) w h) m t reply dr) (NewestLed r id (with_large (Some which) w h))
      by_id true is here =
          let other : id_in_record m ≢ which = λ same. false≢true (sym apart ∙ eq-eqb id which (sym (eqb-true (id_in_record m) id is) ∙ same)) in
          moved_led r h (with_large (Some which) w h) m t reply dr (again_leaves_others (record d { responder = h }) which (id_in_record m) w other).0 (ended_fetched (Some which) w h) here
      by_id false is other = rest other

  given_by : (e : Entry) (h : History) (b : Bool) → is_unseen_in (Some which) e ≡ b → NewestLed r id (e ∷ h) → (NewestLed r id h → NewestLed r id (with_large (Some which) w h))
      → NewestLed r id (cond b (seen w e ∷ h) (e ∷ with_large (Some which) w h))
  given_by e h true is old rest = seen_led e h is old
  given_by e h false is old rest = more_led e h old rest

  given_led : (h : History) → NewestLed r id h → NewestLed r id (with_large (Some which) w h)
  given_led [] old = old
  given_led (e ∷ h) old = given_by e h (is_unseen_in (Some which) e) refl old (given_led h)

-- ---- The last chunk.

module _ (r : RspSetup) (d : Dialogue) (round : Round) (answer : List ℕ) (next : History) (c : Completes r d round answer next) (sound : IsSound d) (at : d.round ≡ Some round) (old : (id : ℕ) → NewestLed r id d.responder) where
  abbrev past : History
  past = d.responder

  abbrev judged_past : History
  judged_past = judging d.fetching round.body d.responder

  clear_completes : (slice_index round.body 0 == 5) ≡ true → (id : ℕ) → NewestLed r id next
  clear_completes type id =
      let named : place_named round.body ≡ None = named_clear round.body type in
      let since = completes_since r d round answer next sound at c named in
      let led = subst (λ (p : Option ℕ). MayHaveLed r p c.0 c.1 past) named c.6 in
      let untouched = subst (λ (p : Option ℕ). is_untouched p (begun_with p c.0 past) past ≡ true) named c.9 in
      let behind : next ≡ c.2 ∷ settled None c.0 c.1 past = c.8 ∙ ap (λ (p : Option ℕ). c.2 ∷ settled p c.0 c.1 past) named in
      subst (NewestLed r id) (sym behind) (clear_adds r judged_past round.tag round.body c.2 id (settled None c.0 c.1 past) type c.4 (clear_led r c.0 c.1 id past since led untouched (old id))).0

  before_step : (b : Bool) (e : Entry) (g l : History) → g ≡ l → cond b (e ∷ l) (e ∷ g) ≡ e ∷ l
  before_step true e g l same = refl
  before_step false e g l same = ap (λ (x : History). e ∷ x) same

  before_none : (id : ℕ) (l : History) → dropped_before_large (Some id) [] l ≡ l
  before_none id [] = refl
  before_none id (e ∷ l) = before_step (is_unseen_in (Some id) e) e (dropped_before_large (Some id) [] l) l (before_none id l)

  session_completes : (slice_index round.body 0 == 5) ≡ false → (id : ℕ) → NewestLed r id next
  session_completes type id =
      let which : ℕ = id_in_record (drop 1 round.body) in
      let named : place_named round.body ≡ Some which = named_session round.body type in
      let g : History = with_large (Some which) c.0 past in
      let judged : judged_past ≡ g = ap (λ (o : Option (List ℕ)). judging o round.body past) c.3 ∙ ap (λ (p : Option ℕ). with_large p c.0 past) named in
      let may : MayLeadTo r g round.tag round.body (Adds c.2) = subst (λ (l : History). MayLeadTo r l round.tag round.body (Adds c.2)) judged c.4 in
      let behind : next ≡ c.2 ∷ g =
      c.8 ∙ ap (λ (p : Option ℕ). c.2 ∷ settled p c.0 c.1 past) named
      ∙ ap (λ (ids : List ℕ). c.2 ∷ settled (Some which) c.0 ids past) (none_dropped r which c.0 c.1 past (subst (λ (p : Option ℕ). MayHaveLed r p c.0 c.1 past) named c.6))
      ∙ ap (λ (l : History). c.2 ∷ with_large (Some which) c.0 l) (before_none which past) in
      let small = gets_are_small r g round.tag round.body c.2 may (and_first _ _ c.5) in
      subst (NewestLed r id) (sym behind)
      (whole_led r g round.tag round.body c.2 type may id g (events_equal (session_of which g)) refl small
      (λ other. given_led r d c.0 which id (ne_eqb id which (λ same. eqb-false which id other (sym same))) past (old id)))

answers_led : (r : RspSetup) (d : Dialogue) (round : Round) (answer : List ℕ) (next : History) (fetching : Option (List ℕ)) → IsSound d → d.round ≡ Some round → ((id : ℕ) → NewestLed r id d.responder) → Answers r d round answer next fetching
    → (id : ℕ) → NewestLed r id next
unfolding Answers
answers_led r d round answer next fetching sound at old (inl a) id =
    subst (NewestLed r id) (sym a.0.6) (after_led r d round sound.unseen a.0.0 id a.0.1 a.0.2.1 a.0.4 (old id))
answers_led r d round answer next fetching sound at old (inr (inl a)) id =
    subst (NewestLed r id) (sym a.1.6) (begun_led r d round sound.unseen a.1.0 id a.1.1 a.1.2.1 a.1.3 (old id))
answers_led r d round answer next fetching sound at old (inr (inr (inl a))) id = subst (NewestLed r id) (sym a.1.4) (old id)
answers_led r d round answer next fetching sound at old (inr (inr (inr a))) id = by_type (slice_index round.body 0 == 5) refl
  where
    by_type : (b : Bool) → (slice_index round.body 0 == 5) ≡ b → NewestLed r id next
    by_type true type = clear_completes r d round answer next a.0 sound at old type id
    by_type false type = session_completes r d round answer next a.0 sound at old type id

-- ---- A walk.

-- The responder towards the requester of a dialogue.
abbrev pub towards_of : Configuration → Dialogue → RspSetup
towards_of w d = towards w.responder (known_of d.setup)

abbrev pub AreLed : Configuration → Dialogue → Type 0
AreLed w d = (id : ℕ) → NewestLed (towards_of w d) id d.responder

asks_led : (w : Configuration) (d : Dialogue) (g : Gathered) (next : Dialogue) → AreLed w d → AsksBy d g next → AreLed w next
asks_led w d (Whole route body) next old asks = elim asks.2 [
  | inl copies ↦ subst (AreLed w) (sym copies.4) old
  | inr begins ↦ subst (AreLed w) (sym begins.2.3) old
]
asks_led w d More next old asks = subst (AreLed w) (sym asks) old
asks_led w d (Lost cause) next old asks = absurd asks

replies_led : (w : Configuration) (d : Dialogue) (g : Gathered) (next : Dialogue) → IsSound d → AreLed w d → RepliesBy w d g next → AreLed w next
replies_led w d (Whole route body) next sound old replies =
    let c = replies.2 in
    subst (AreLed w) (sym c.4.3.2) (answers_led (towards_of w d) d c.0 body c.4.0 c.4.1 sound c.1 old c.4.2)
replies_led w d More next sound old replies = subst (AreLed w) (sym replies) old
replies_led w d (Lost cause) next sound old replies = absurd replies

step_led : (w : Configuration) (eid : ℕ) (older : List (List ℕ)) (d next : Dialogue) (r : Result PacketFields PacketFault) → IsSound d → AreLed w d → StepsBy w eid older d next r → AreLed w next
step_led w eid older d next (Err fault) sound old step = subst (AreLed w) (sym step) old
step_led w eid older d next (Ok p) sound old step = by_ends (is_request w.responder.eid eid p) (is_answer w.responder.eid eid p) step
  where
    by_ends : (b c : Bool) → MatchBool b (AsksBy d (gathered_from w.responder.eid eid older p) next) (MatchBool c (RepliesBy w d (gathered_from eid w.responder.eid older p) next) (next ≡ d)) → AreLed w next
    by_ends true c asks = asks_led w d (gathered_from w.responder.eid eid older p) next old asks
    by_ends false true replies = replies_led w d (gathered_from eid w.responder.eid older p) next sound old replies
    by_ends false false same = subst (AreLed w) (sym same) old

pub newest_led : (w : Configuration) (q : ReqSetup) (older : List (List ℕ)) (d : Dialogue) → Walks w q older d → AreLed w d
unfolding StepsTo
newest_led w q [] d walk = subst (AreLed w) (sym walk) (λ id. tt)
newest_led w q (packet ∷ older) d walk =
    step_led w q.eid older walk.0 d (parsed packet) (walks_held w q older walk.0 walk.1).sound (newest_led w q older walk.0 walk.1) walk.2
