-- The newest record of a session stands in the newest event of that session, and what it was led to is read off the history.
use Rattle.std.proofs.Common.{◌≡◌, ◌+◌, ◌==◌, ◌&&◌, ◌++◌, ◌↔◌, ◌∙◌, ℕ, List, [], ◌∷◌, refl, sym, ap, subst, Bool, true, false, Some, None, is_some, cond, eqb-true}
use Rattle.std.specs.Prelude.{MatchBool, not}
use Rattle.std.proofs.lemmas.Bool.{false≢true}
use Rattle.responder_core.specs.Pending.{history_changed, passes}
use Rattle.check_fetched_laws.specs.LastShown.{IsShownEntry, IsShownWhole}
use Rattle.check_fetched_laws.proofs.NewestLed.{LedHere, NewestLed}
use Rattle.check_late_laws.specs.Fetching.{answer_by, bytes_given, bytes_in, gives_in, number_given, size_in, size_told}
use Rattle.responder_machine.proofs.Entries.{session_of-Sealed}
use Rattle.responder_machine.specs.History.{Entry, History, clear_turns, negotiation_of}
use Rattle.responder_machine.specs.History.Entry.{Clear, Sealed, Queued, Ticked, Dropped}
use Rattle.responder_machine.specs.Place.{session_place}
use Rattle.responder_machine.specs.Session.{Events, after_clear, after_record, gives_id, id_in_record, last_of, session_of, stage_of, when_live}
use Rattle.responder_machine.specs.Session.Event.{Began, Heard}
use Rattle.responder_machine.specs.Setup.{RspSetup}
use Rattle.responder_machine.specs.Turn.{Turn, answer_in, request_in, takes}
use Rattle.spdm_grammar.specs.declared.names.request_code.TheConstants.{END_SESSION, GET_VERSION, PSK_EXCHANGE}
use Rattle.spdm_machine.specs.Keys.{Draw}
use Rattle.spdm_machine.specs.Sessions.{is_past_handshake}
use Rattle.transcript.specs.Transcripts.{Negotiation}
use Rattle.capture_machine.proofs.UnseenStands.{UnseenStand}
use Rattle.capture_machine.specs.LargeAnswers.{is_kept_in, is_unseen, is_unseen_effect, is_unseen_in, place_again, place_of, repeats_large, seen, seen_turn, takes_get, with_large}

-- ---- What leaves the last record of a session.

clear_last : (id : ℕ) (s : Events) (t : Turn) (n : Negotiation) → is_some (last_of (after_clear id s t n)) ≡ true → after_clear id s t n ≡ s
clear_last id s t n last = by_parts (takes GET_VERSION t) (takes PSK_EXCHANGE t) (gives_id id (answer_in t.effect)) (is_past_handshake (stage_of s)) last
  where
    new : Events
    new = Began n (request_in t.effect) (answer_in t.effect) ∷ []

    by_parts : (v x given past : Bool) → is_some (last_of (cond v [] (cond x (cond given new (cond past s [])) s))) ≡ true → cond v [] (cond x (cond given new (cond past s [])) s) ≡ s
    by_parts true x given past one = absurd (false≢true one)
    by_parts false true true past one = absurd (false≢true one)
    by_parts false true false false one = absurd (false≢true one)
    by_parts false true false true one = refl
    by_parts false false given past one = refl

dropped_last : (b : Bool) (s : Events) → is_some (last_of (cond b [] s)) ≡ true → cond b [] s ≡ s
dropped_last true s last = absurd (false≢true last)
dropped_last false s last = refl

record_last : (s : Events) (m : List ℕ) (t : Turn) (reply : List ℕ) → is_some (last_of (after_record s m t reply)) ≡ true → after_record s m t reply ≡ Heard m t reply ∷ s
record_last s m t reply last = by_end (takes END_SESSION t) s last
  where
    by_end : (b : Bool) (u : Events) → is_some (last_of (cond b [] (when_live u (Heard m t reply)))) ≡ true → cond b [] (when_live u (Heard m t reply)) ≡ Heard m t reply ∷ u
    by_end true u is = absurd (false≢true is)
    by_end false [] is = absurd (false≢true is)
    by_end false (x ∷ xs) is = refl

-- ---- Where it stands.

-- The newest record of the session of this id: its entry, the history before it, and what is read off the history as that of
-- the entry.
pub record NewestIs (r : RspSetup) (id : ℕ) (h : History) : Type 0 where
  pub before : History
  pub tag : ℕ
  pub m : List ℕ
  pub t : Turn
  pub reply : List ℕ
  pub draw : Draw
  pub id_is : id_in_record m ≡ id
  pub session : session_of id h ≡ Heard m t reply ∷ session_of (id_in_record m) before
  pub led : LedHere r before m t reply draw
  pub large : repeats_large (Some id) h ≡ is_unseen_effect t.effect
  pub place : (all : History) → place_again (Some id) all h ≡ session_place (session_of id all)
  pub shown : is_unseen_effect t.effect ≡ true → (v : List ℕ) → IsShownWhole r (Some id) v h ↔ IsShownEntry r before (seen v (Sealed tag m t reply draw))
  pub none : is_unseen_effect t.effect ≡ true → number_given (Some id) h ≡ 0
  pub no_bytes : is_unseen_effect t.effect ≡ true → bytes_given (Some id) h ≡ []
  pub no_size : is_unseen_effect t.effect ≡ true → size_told (Some id) h ≡ None
  pub changed : is_unseen_effect t.effect ≡ true → passes t ≡ false → (change : Turn → Turn) (v : List ℕ) → change t ≡ seen_turn v t → history_changed change id h ≡ with_large (Some id) v h

-- ---- An entry that is none of the session.

unseen_not : (id : ℕ) (e : Entry) → is_kept_in (Some id) e ≡ false → is_unseen_in (Some id) e ≡ false
unseen_not id (Clear tag t d) kept = refl
unseen_not id (Sealed tag m t reply d) kept = ap (λ (b : Bool). b && is_unseen_effect t.effect) kept
unseen_not id (Queued bytes) kept = refl
unseen_not id (Ticked seconds) kept = refl
unseen_not id (Dropped which) kept = refl

changed_not : (id : ℕ) (e : Entry) (h : History) (change : Turn → Turn) → is_kept_in (Some id) e ≡ false → history_changed change id (e ∷ h) ≡ e ∷ history_changed change id h
changed_not id (Clear tag t d) h change kept = refl
changed_not id (Sealed tag m t reply d) h change kept =
    ap (λ (b : Bool). cond (b && not (passes t)) (Sealed tag m (change t) reply d ∷ h) (Sealed tag m t reply d ∷ history_changed change id h)) kept
changed_not id (Queued bytes) h change kept = refl
changed_not id (Ticked seconds) h change kept = refl
changed_not id (Dropped which) h change kept = refl

skips : (r : RspSetup) (id : ℕ) (e : Entry) (h : History) → is_kept_in (Some id) e ≡ false → session_of id (e ∷ h) ≡ session_of id h → NewestIs r id h → NewestIs r id (e ∷ h)
skips r id e h kept session is =
    let un = unseen_not id e kept in record {
      before = is.before;
      tag = is.tag;
      m = is.m;
      t = is.t;
      reply = is.reply;
      draw = is.draw;
      id_is = is.id_is;
      session = session ∙ is.session;
      led = is.led;
      large = ap (λ (b : Bool). cond b (is_unseen e) (repeats_large (Some id) h)) kept ∙ is.large;
      place = λ all. ap (λ (b : Bool). cond b (place_of all e) (place_again (Some id) all h)) kept ∙ is.place all;
      shown = λ here v. subst (λ (b : Bool). MatchBool b (IsShownEntry r h (seen v e)) (IsShownWhole r (Some id) v h) ↔ IsShownEntry r is.before (seen v (Sealed is.tag is.m is.t is.reply is.draw))) (sym un) (is.shown here v);
      none = λ here. ap (λ (b : Bool). cond b 0 (cond (gives_in (Some id) e) (number_given (Some id) h + 1) (number_given (Some id) h))) un
          ∙ ap (λ (b : Bool). cond (b && takes_get e) (number_given (Some id) h + 1) (number_given (Some id) h)) kept ∙ is.none here;
      no_bytes = λ here. ap (λ (b : Bool). cond b [] (cond (gives_in (Some id) e) (bytes_given (Some id) h ++ bytes_in (number_given (Some id) h) (answer_by e)) (bytes_given (Some id) h))) un
          ∙ ap (λ (b : Bool). cond (b && takes_get e) (bytes_given (Some id) h ++ bytes_in (number_given (Some id) h) (answer_by e)) (bytes_given (Some id) h)) kept ∙ is.no_bytes here;
      no_size = λ here. ap (λ (b : Bool). cond b None (cond (gives_in (Some id) e && number_given (Some id) h == 0) (Some (size_in (answer_by e))) (size_told (Some id) h))) un
          ∙ ap (λ (b : Bool). cond (b && takes_get e && number_given (Some id) h == 0) (Some (size_in (answer_by e))) (size_told (Some id) h)) kept ∙ is.no_size here;
      changed = λ here other change v same. changed_not id e h change kept ∙ ap (λ (l : History). e ∷ l) (is.changed here other change v same)
          ∙ sym (ap (λ (b : Bool). cond b (seen v e ∷ h) (e ∷ with_large (Some id) v h)) un);
    }

-- ---- The entry itself.

stands_here : (r : RspSetup) (id : ℕ) (tag : ℕ) (m : List ℕ) (t : Turn) (reply : List ℕ) (d : Draw) (h : History) → (id_in_record m == id) ≡ true → is_some (last_of (session_of id (Sealed tag m t reply d ∷ h))) ≡ true → LedHere r h m t reply d
    → NewestIs r id (Sealed tag m t reply d ∷ h)
stands_here r id tag m t reply d h is last led =
    let e : Entry = Sealed tag m t reply d in
    let same : id_in_record m ≡ id = eqb-true (id_in_record m) id is in
    let at : session_of id (e ∷ h) ≡ after_record (session_of id h) m t reply = session_of-Sealed id tag m t reply d h ∙ ap (λ (b : Bool). cond b (after_record (session_of id h) m t reply) (session_of id h)) is in
    let un : is_unseen_effect t.effect ≡ true → is_unseen_in (Some id) e ≡ true = λ here. ap (λ (b : Bool). b && is_unseen_effect t.effect) is ∙ here in record {
      before = h;
      tag = tag;
      m = m;
      t = t;
      reply = reply;
      draw = d;
      id_is = same;
      session = at ∙ record_last (session_of id h) m t reply (sym (ap (λ (s : Events). is_some (last_of s)) at) ∙ last) ∙ ap (λ (n : ℕ). Heard m t reply ∷ session_of n h) (sym same);
      led = led;
      large = ap (λ (b : Bool). cond b (is_unseen_effect t.effect) (repeats_large (Some id) h)) is;
      place = λ all. ap (λ (b : Bool). cond b (session_place (session_of (id_in_record m) all)) (place_again (Some id) all h)) is ∙ ap (λ (n : ℕ). session_place (session_of n all)) same;
      shown = λ here v. subst (λ (b : Bool). MatchBool b (IsShownEntry r h (seen v e)) (IsShownWhole r (Some id) v h) ↔ IsShownEntry r h (seen v e)) (sym (un here)) (λ c. c, λ c. c);
      none = λ here. ap (λ (b : Bool). cond b 0 (cond (gives_in (Some id) e) (number_given (Some id) h + 1) (number_given (Some id) h))) (un here);
      no_bytes = λ here. ap (λ (b : Bool). cond b [] (cond (gives_in (Some id) e) (bytes_given (Some id) h ++ bytes_in (number_given (Some id) h) (answer_by e)) (bytes_given (Some id) h))) (un here);
      no_size = λ here. ap (λ (b : Bool). cond b None (cond (gives_in (Some id) e && number_given (Some id) h == 0) (Some (size_in (answer_by e))) (size_told (Some id) h))) (un here);
      changed = λ here other change v made.
          ap (λ (b : Bool). cond (b && not (passes t)) (Sealed tag m (change t) reply d ∷ h) (e ∷ history_changed change id h)) is
          ∙ ap (λ (b : Bool). cond (not b) (Sealed tag m (change t) reply d ∷ h) (e ∷ history_changed change id h)) other
          ∙ ap (λ (x : Turn). Sealed tag m x reply d ∷ h) made
          ∙ sym (ap (λ (b : Bool). cond b (seen v e ∷ h) (e ∷ with_large (Some id) v h)) (un here));
    }

pub newest_is : (r : RspSetup) (id : ℕ) (h : History) → UnseenStand h → NewestLed r id h → is_some (last_of (session_of id h)) ≡ true → NewestIs r id h
unfolding session_of
newest_is r id [] stand led last = absurd (false≢true last)
newest_is r id (Clear tag t d ∷ h) stand led last =
    let same = clear_last id (session_of id h) t (negotiation_of (clear_turns h)) last in
    skips r id (Clear tag t d) h refl same (newest_is r id h stand.1 led (ap (λ (s : Events). is_some (last_of s)) (sym same) ∙ last))
newest_is r id (Sealed tag m t reply d ∷ h) stand led last = by_id (id_in_record m == id) refl led last (λ other some. newest_is r id h stand.1 other some)
  where
    by_id : (b : Bool) → (id_in_record m == id) ≡ b → MatchBool b (LedHere r h m t reply d) (NewestLed r id h) → is_some (last_of (cond b (after_record (session_of id h) m t reply) (session_of id h))) ≡ true → (NewestLed r id h → is_some (last_of (session_of id h)) ≡ true → NewestIs r id h) → NewestIs r id (Sealed tag m t reply d ∷ h)
    by_id true is here some rest = stands_here r id tag m t reply d h is last here
    by_id false is other some rest = skips r id (Sealed tag m t reply d) h is (ap (λ (b : Bool). cond b (after_record (session_of id h) m t reply) (session_of id h)) is) (rest other some)
newest_is r id (Queued bytes ∷ h) stand led last = absurd stand.0
newest_is r id (Ticked seconds ∷ h) stand led last = absurd stand.0
newest_is r id (Dropped which ∷ h) stand led last =
    let same = dropped_last (which == id) (session_of id h) last in
    skips r id (Dropped which) h refl same (newest_is r id h stand.1 led (ap (λ (s : Events). is_some (last_of s)) (sym same) ∙ last))
