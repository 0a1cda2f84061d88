-- An answer that goes whole to a record, while a large response of its session is fetched, may be given with any bytes
-- that stand for that after it.
use Rattle.std.proofs.Common.{◌≡◌, ◌==◌, ◌&&◌, ◌||◌, ℕ, List, [], ◌∷◌, refl, sym, ap, ◌∙◌, subst, drop, take, length, Bool, true, false, Option, Some, cond, is_none}
use Rattle.std.specs.Prelude.{not, slice_index}
use Rattle.std.proofs.lemmas.Bool.{false≢true}
use Rattle.chunking.specs.Cutting.{chunk_end}
use Rattle.responder_machine.specs.History.{Entry, History, clear_turns}
use Rattle.responder_machine.specs.History.Entry.{Clear, Sealed, Queued, Ticked, Dropped}
use Rattle.responder_machine.specs.May.{MayDrop, place_for, with_dropped}
use Rattle.responder_machine.specs.Place.{Place, session_place}
use Rattle.responder_machine.specs.Records.{opening_fault}
use Rattle.responder_machine.specs.Refusal.{has_pending}
use Rattle.responder_machine.specs.Responder.{Outcome, repeats}
use Rattle.responder_machine.specs.Responder.Outcome.{Same, Unopened, Adds}
use Rattle.responder_machine.specs.Session.{Events, id_in_record, last_of, session_of}
use Rattle.responder_machine.specs.Setup.{RspSetup}
use Rattle.spdm_machine.specs.Bodies.{clear_body}
use Rattle.spdm_machine.specs.Terms.{terms_of}
use Rattle.transcript.specs.Transcripts.{Negotiation}
use Rattle.capture_machine.proofs.ChunksGiven.{Chunked}
use Rattle.capture_machine.proofs.DropsTell.{record_shown}
use Rattle.capture_machine.proofs.EventsAlike.{EventsAlike, fault_alike, last_alike, live_alike, negotiation_alike}
use Rattle.capture_machine.proofs.EventsAlike.EventsAlike.{NoEvent}
use Rattle.capture_machine.proofs.FetchStates.{Fetch, served}
use Rattle.capture_machine.proofs.FetchedSessions.{InSession, ended_fetched, sessions_fetched, timed_alike}
use Rattle.capture_machine.proofs.GetTells.{transfer_of}
use Rattle.capture_machine.proofs.PlacesServed.{named_session, place_type}
use Rattle.capture_machine.proofs.PlainTells.{form_of, led_record}
use Rattle.capture_machine.proofs.SmallGets.{gets_are_small}
use Rattle.capture_machine.proofs.UnseenStands.{UnseenStand}
use Rattle.capture_machine.specs.CapturedAnswers.{AreShown, MayLeadAfter, MayLeadTo, belongs_to, is_plain, shows}
use Rattle.capture_machine.specs.LargeAnswers.{gives_last, is_large, is_unseen_in, place_named, place_of, seen, takes_get, with_large}
use Rattle.check_late_laws.specs.Fetching.{number_given}
use Rattle.check_late_laws.proofs.Gave.{number_same}
use Rattle.check_late_laws.proofs.RecordMoved.{ChunkSame}
use Rattle.check_late_laws.proofs.SessionMoved.{chunk_at, given_alike}
use Rattle.check_late_laws.proofs.WithinMoved.{Beside, large_alike, pending_at, within_moved}
use Rattle.capture_machine.proofs.FetchedSessions.{turns_fetched}

-- ---- Whether it goes whole.

-- With which bytes a chunk goes on: those of the same length, once that is told, and where one is given, of the same
-- beginning up to its end.
pub record GoesWith (o : Outcome) (transfer number : ℕ) (v w : List ℕ) : Type 0 where
  pub size : (number ≡ 0 → ⊥) → length w ≡ length v
  pub chunk : (e : Entry) → o ≡ Adds e → takes_get e ≡ true → (length w ≡ length v) × (take (chunk_end transfer number) w ≡ take (chunk_end transfer number) v)

-- What an answer leads to with other bytes.
pub record Moved (r : RspSetup) (h : History) (w : List ℕ) (tag : ℕ) (body ids : List ℕ) (o : Outcome) : Type 0 where
  pub may : MayLeadAfter r (with_large (place_named body) w h) ids tag body o
  pub shown : AreShown r (with_large (place_named body) w h) body o ids
  pub plain : is_plain (with_large (place_named body) w h) o ≡ true

entry_plain : (r : RspSetup) (h : History) (v w : List ℕ) (tag : ℕ) (body : List ℕ) (e : Entry) (b : Bool) → takes_get e ≡ b → Fetch h v tag body → Fetch h w tag body → MayLeadTo r (with_large (place_named body) v h) tag body (Adds e)
    → MayLeadTo r (with_large (place_named body) w h) tag body (Adds e) → gives_last (with_large (place_named body) v h) e ≡ gives_last (with_large (place_named body) w h) e
entry_plain r h v w tag body e true gets one two may might = (served r h v tag body e one may).last gets ∙ sym ((served r h w tag body e two might).last gets)
entry_plain r h v w tag body e false none one two may might = ap (λ (b : Bool). b && not (has_pending (place_of (e ∷ with_large (place_named body) v h) e))) none ∙ sym (ap (λ (b : Bool). b && not (has_pending (place_of (e ∷ with_large (place_named body) w h) e))) none)

pub still_plain : (r : RspSetup) (h : History) (v w : List ℕ) (tag : ℕ) (body : List ℕ) (o : Outcome) → Fetch h v tag body → Fetch h w tag body → MayLeadTo r (with_large (place_named body) v h) tag body o → MayLeadTo r (with_large (place_named body) w h) tag body o
    → is_plain (with_large (place_named body) v h) o ≡ true → is_plain (with_large (place_named body) w h) o ≡ true
still_plain r h v w tag body (Same b) one two may might plain = refl
still_plain r h v w tag body (Unopened b) one two may might plain = refl
still_plain r h v w tag body (Adds e) one two may might plain =
    ap (λ (b : Bool). not (is_large e) && not b) (sym (entry_plain r h v w tag body e (takes_get e) refl one two may might)) ∙ plain

pub turns_same : (at : Option ℕ) (id : ℕ) (v w : List ℕ) (h : History) → at ≡ Some id → clear_turns (with_large at v h) ≡ clear_turns (with_large at w h)
turns_same at id v w h is = ap (λ (o : Option ℕ). clear_turns (with_large o v h)) is ∙ turns_fetched id v h ∙ sym (turns_fetched id w h) ∙ ap (λ (o : Option ℕ). clear_turns (with_large o w h)) (sym is)

module _ (r : RspSetup) (h : History) (v w : List ℕ) (tag : ℕ) (body : List ℕ) (type : (slice_index body 0 == 5) ≡ false) (stand : UnseenStand h) (one : Fetch h v tag body) (two : Fetch h w tag body) where
  abbrev at : Option ℕ
  at = place_named body

  abbrev g : History
  g = with_large (place_named body) v h

  abbrev k : History
  k = with_large (place_named body) w h

  abbrev sid : ℕ
  sid = id_in_record (drop 1 body)

  abbrev s : Events
  s = session_of (id_in_record (drop 1 body)) (with_large (place_named body) v h)

  abbrev u : Events
  u = session_of (id_in_record (drop 1 body)) (with_large (place_named body) w h)

  within : InSession (place_named body) h
  within = record { id = id_in_record (drop 1 body); at = named_session body type; stand = stand }

  beside : Beside g k
  beside = record {
    turns = turns_same (place_named body) (id_in_record (drop 1 body)) v w h (named_session body type);
    ended = ended_fetched (place_named body) v h ∙ sym (ended_fetched (place_named body) w h);
    events = λ id. sessions_fetched id (place_named body) v w h within;
  }

  chunked_one : Chunked (session_place s) (place_named body) v h
  chunked_one = subst (λ (p : Place). Chunked p (place_named body) v h) (place_type g body false type) one.chunked

  chunked_two : Chunked (session_place u) (place_named body) w h
  chunked_two = subst (λ (p : Place). Chunked p (place_named body) w h) (place_type k body false type) two.chunked

  transfers : transfer_of (session_place s) ≡ transfer_of (session_place u)
  transfers = ap (λ (n : Negotiation). (terms_of n).common.to_requester.transfer) (negotiation_alike s u (beside.events sid))

  pending : ((number_given (place_named body) h ≡ 0 → ⊥) → length w ≡ length v) → has_pending (session_place s) ≡ has_pending (session_place u)
  pending size = pending_at (session_place s) (session_place u) (place_named body) h v w transfers (large_alike s u (beside.events sid)) chunked_one chunked_two (λ some. size (λ none. some (number_same (place_named body) h ∙ none)))

  chunks : length w ≡ length v → take (chunk_end (transfer_of (session_place s)) (number_given (place_named body) h)) w ≡ take (chunk_end (transfer_of (session_place s)) (number_given (place_named body) h)) v → ChunkSame s u
  chunks size same =
      let number = number_same (place_named body) h in
      chunk_at (session_place s) (session_place u) (place_named body) h v w transfers (large_alike s u (beside.events sid)) (given_alike s u (beside.events sid)) chunked_one chunked_two size
      (ap (λ (n : ℕ). take (chunk_end (transfer_of (session_place s)) n) w) number ∙ same ∙ sym (ap (λ (n : ℕ). take (chunk_end (transfer_of (session_place s)) n) v) number))

  place_is : place_for g body ≡ session_place s
  place_is = place_type g body false type

  none_moved : (o : Outcome) → GoesWith o (transfer_of (place_for g body)) (number_given (place_named body) h) v w → MayLeadTo r g tag body o → MayLeadTo r k tag body o
  none_moved o goes may =
      within_moved r g k beside tag body (pending goes.size) o type
      (λ e is gets. (
      let both = goes.chunk e is gets in
      let same = subst (λ (p : Place). take (chunk_end (transfer_of p) (number_given (place_named body) h)) w ≡ take (chunk_end (transfer_of p) (number_given (place_named body) h)) v) place_is both.1 in
      chunks both.0 same
      )) may

  -- ---- A session was dropped before it.

  either : (b : Bool) (x y : Events) → EventsAlike x y → EventsAlike (cond b [] x) (cond b [] y)
  either true x y a = NoEvent
  either false x y a = a

  dropped_beside : (id : ℕ) → Beside (Dropped id ∷ g) (Dropped id ∷ k)
  unfolding session_of
  dropped_beside id = record {
    turns = beside.turns;
    ended = beside.ended;
    events = λ which. either (id == which) (session_of which g) (session_of which k) (beside.events which);
  }

  either_pending : (b : Bool) → has_pending (session_place s) ≡ has_pending (session_place u) → has_pending (session_place (cond b [] s)) ≡ has_pending (session_place (cond b [] u))
  either_pending true same = refl
  either_pending false same = same

  dropped_pending : (id : ℕ) → has_pending (session_place s) ≡ has_pending (session_place u) → has_pending (session_place (session_of sid (Dropped id ∷ g))) ≡ has_pending (session_place (session_of sid (Dropped id ∷ k)))
  unfolding session_of
  dropped_pending id same = either_pending (id == sid) same

  belongs_same : (id : ℕ) → belongs_to r (session_of id g) (drop 1 body) ≡ belongs_to r (session_of id k) (drop 1 body)
  belongs_same id =
      ap (λ x. repeats x (drop 1 body) || is_none (opening_fault r.psk (session_of id g) (drop 1 body))) (last_alike (session_of id g) (session_of id k) (beside.events id))
      ∙ ap (λ x. repeats (last_of (session_of id k)) (drop 1 body) || is_none x) (fault_alike r.psk (session_of id g) (session_of id k) (drop 1 body) (beside.events id))

  shows_same : (id : ℕ) (o : Outcome) → shows r g body id o ≡ shows r k body id o
  shows_same id (Same b) = refl
  shows_same id (Unopened b) = ap (λ (x : Bool). id_in_record (drop 1 body) == id && x) (belongs_same id)
  shows_same id (Adds (Clear t x d)) = refl
  shows_same id (Adds (Sealed t m x y d)) = refl
  shows_same id (Adds (Queued b)) = refl
  shows_same id (Adds (Ticked n)) = refl
  shows_same id (Adds (Dropped n)) = refl

  unopened_plain : (l : History) (o : Outcome) (b : List ℕ) → o ≡ Unopened b → is_plain l o ≡ true
  unopened_plain l o b is = ap (is_plain l) is

  pub plain_within : (ids : List ℕ) (o : Outcome) → GoesWith o (transfer_of (place_for g body)) (number_given (place_named body) h) v w → MayLeadAfter r g ids tag body o → AreShown r g body o ids → is_plain g o ≡ true → Moved r h w tag body ids o
  plain_within [] o goes may shown plain =
      let moved = none_moved o goes may.1 in
      record { may = (tt, moved); shown = tt; plain = still_plain r h v w tag body o one two may.1 moved plain }
  plain_within (id ∷ []) o goes may shown plain =
      let known = record_shown r g (Dropped id ∷ g) tag body id o (form_of r (Dropped id ∷ g) tag body o (led_record r (Dropped id ∷ g) tag body o type may.1)) shown in
      let a = beside.events id in
      let moved = within_moved r (Dropped id ∷ g) (Dropped id ∷ k) (dropped_beside id) tag body (dropped_pending id (pending goes.size)) o type (λ e is gets. absurd (let x = sym known.0.1 ∙ is in cc)) may.1 in record {
        may = ((sym (live_alike (session_of id g) (session_of id k) a) ∙ may.0.0, sym (timed_alike (session_of id g) (session_of id k) a) ∙ may.0.1, tt), moved);
        shown = sym (shows_same id o) ∙ shown;
        plain = unopened_plain k o (clear_body known.0.0) known.0.1;
      }
  plain_within (id ∷ other ∷ others) o goes may shown plain = absurd shown

  -- ---- LargeResponse to a record.

  behind_drop : (a b : History) (id : ℕ) → Beside a b → Beside (Dropped id ∷ a) (Dropped id ∷ b)
  unfolding session_of
  behind_drop a b id both = record { turns = both.turns; ended = both.ended; events = λ which. either (id == which) (session_of which a) (session_of which b) (both.events which) }

  behind_drops : (drops : List ℕ) (a b : History) → Beside a b → Beside (with_dropped a drops) (with_dropped b drops)
  behind_drops [] a b both = both
  behind_drops (id ∷ drops) a b both = behind_drops drops (Dropped id ∷ a) (Dropped id ∷ b) (behind_drop a b id both)

  abbrev PendsSame : History → History → Type 0
  PendsSame a b = has_pending (session_place (session_of (id_in_record (drop 1 body)) a)) ≡ has_pending (session_place (session_of (id_in_record (drop 1 body)) b))

  place_either : (b : Bool) (x y : Events) → has_pending (session_place x) ≡ has_pending (session_place y) → has_pending (session_place (cond b [] x)) ≡ has_pending (session_place (cond b [] y))
  place_either true x y same = refl
  place_either false x y same = same

  pend_drop : (a b : History) (id : ℕ) → PendsSame a b → PendsSame (Dropped id ∷ a) (Dropped id ∷ b)
  unfolding session_of
  pend_drop a b id same = place_either (id == sid) (session_of sid a) (session_of sid b) same

  pend_drops : (drops : List ℕ) (a b : History) → PendsSame a b → PendsSame (with_dropped a drops) (with_dropped b drops)
  pend_drops [] a b same = same
  pend_drops (id ∷ drops) a b same = pend_drops drops (Dropped id ∷ a) (Dropped id ∷ b) (pend_drop a b id same)

  drops_may : (drops : List ℕ) (a b : History) → Beside a b → MayDrop a drops → MayDrop b drops
  drops_may [] a b both may = tt
  drops_may (id ∷ drops) a b both may =
      let events = both.events id in (
        sym (live_alike (session_of id a) (session_of id b) events) ∙ may.0,
        sym (timed_alike (session_of id a) (session_of id b) events) ∙ may.1,
        drops_may drops (Dropped id ∷ a) (Dropped id ∷ b) (behind_drop a b id both) may.2,
      )

  same_entry : (x y : Entry) → Adds x ≡ Adds y → x ≡ y
  same_entry x y is = cc

  pub large_within : (drops : List ℕ) (e : Entry) → ((number_given (place_named body) h ≡ 0 → ⊥) → length w ≡ length v) → MayLeadAfter r g drops tag body (Adds e) → is_large e ≡ true → MayLeadAfter r k drops tag body (Adds e)
  large_within drops e size may large = (
    drops_may drops g k beside may.0,
    within_moved r (with_dropped g drops) (with_dropped k drops) (behind_drops drops g k beside) tag body (pend_drops drops g k (pending size)) (Adds e) type
        (λ other is gets. (
        let same = same_entry e other is in
        absurd (false≢true (sym (gets_are_small r (with_dropped g drops) tag body e may.1 (ap takes_get same ∙ gets)) ∙ large))
        )) may.1,
  )
