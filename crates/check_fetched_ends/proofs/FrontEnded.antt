-- After the last chunk of a large response whose fetch began late: a connection that stands for the history with the
-- request in front stands for the one with it at its place, once it has the last record of the ended session, and so do
-- the keys of answers.
use Rattle.std.proofs.Common.{◌≡◌, ◌<◌, ◌==◌, ◌||◌, ◌++◌, ◌∙◌, ℕ, List, [], ◌∷◌, refl, sym, ap, subst, Bool, true, false, Option, Some, None, cond, inl, inr, eq-eqb, eqb-true}
use Rattle.std.specs.Prelude.{MatchBool}
use Rattle.std.proofs.lemmas.Bool.{false≢true}
use Rattle.check_responder.specs.AnswerKeys.{IsEndedKey, IsKeyOfTurn}
use Rattle.check_laws.specs.DropsShown.{dropped_for, may_be_dropped}
use Rattle.responder_core.specs.Connected as connected
use Rattle.responder_core.specs.LateFetch.{with_ended}
use Rattle.responder_core.specs.declared.connected.Connection.{Connection}
use Rattle.check_fetched_laws.proofs.WholeDrops.{entry_led}
use Rattle.check_fetched_laws.specs.ClearSessions.{AreGets, IsLeftBy, IsUnseenRequest, IsWithoutHandshake, is_clear_get}
use Rattle.check_fetched_laws.specs.LastShown.{IsShownEntry, drops_with}
use Rattle.check_fetched_ends.proofs.FrontLed.{front_is}
use Rattle.check_fetched_ends.proofs.FrontMarked.{large_seen}
use Rattle.check_fetched_ends.proofs.LastAlike as alike
use Rattle.check_late_laws.proofs.Late.WalksUndrawn.{AreUndrawn}
use Rattle.check_fetched_ends.specs.Held.{HasGets}
use Rattle.check_late_laws.proofs.Late.BehindSessions.{dropped_session, gives_no}
use Rattle.check_fetched_laws.proofs.ConnectionNear.{stands_near}
use Rattle.check_late_laws.proofs.Late.FrontNear.{ended_stays, front_is_near, near_goes_on, near_is_kept}
use Rattle.check_late_laws.specs.Late.Passed.{AreBehind, StandsBack, touched}
use Rattle.check_late_laws.specs.Late.PassedLast.{in_front, touched_by}
use Rattle.check_late_laws.specs.Late.PassedStands.{AreNear}
use Rattle.check_late_laws.specs.declared.late_fetch.marks.Marks.{Marks}
use Rattle.responder_machine.proofs.Entries.{session_of-Clear, session_of-Sealed, session_of-no_effect}
use Rattle.responder_machine.proofs.GivenIds.{gives_other}
use Rattle.responder_machine.specs.History.{Entry, History, KeptRecord, clear_turns, ended_of, negotiation_of}
use Rattle.responder_machine.specs.History.Entry.{Clear, Sealed, Queued, Ticked, Dropped}
use Rattle.responder_machine.specs.May.{with_dropped}
use Rattle.responder_machine.specs.Responder.Outcome.{Adds}
use Rattle.responder_machine.specs.Session.{Events, after_record, gives_id, id_in_record, session_of, stage_of}
use Rattle.responder_machine.specs.Session.Event.{Began}
use Rattle.responder_machine.specs.Setup.{RspSetup}
use Rattle.responder_machine.specs.Turn.{Turn, answer_in, is_taken, request_in, takes}
use Rattle.responder_session.specs.declared.answer_key.AnswerKey.{AnswerKey}
use Rattle.spdm_grammar.specs.declared.names.request_code.TheConstants.{END_SESSION, GET_VERSION, PSK_EXCHANGE}
use Rattle.spdm_machine.specs.Keys.{Draw}
use Rattle.spdm_machine.specs.Sessions.{id_in_exchange, is_past_handshake}
use Rattle.capture_machine.proofs.FetchedSessions.{takes_with}
use Rattle.capture_machine.specs.CapturedAnswers.{AreShown, request_in as request_of}
use Rattle.capture_machine.specs.LargeAnswers.{handle_shown, id_begun, seen, seen_turn}
use Rattle.capture_machine.specs.Rounds.{no_draw}

-- What a request left has the last record of the ended session that was there before.
pub left_record : (e : Entry) (before left : History) → IsLeftBy e before left → ended_of left ≡ ended_of before
left_record (Clear tag t d) before left is = by_code (takes PSK_EXCHANGE t) is
  where
    by_code : (b : Bool) → MatchBool b (IsWithoutHandshake before left) (left ≡ before) → ended_of left ≡ ended_of before
    by_code true (inl none) = ap ended_of none.1
    by_code true (inr one) = ap ended_of one.2
    by_code false same = ap ended_of same
left_record (Sealed tag m t reply d) before left is = absurd is
left_record (Queued bytes) before left is = absurd is
left_record (Ticked seconds) before left is = absurd is
left_record (Dropped id) before left is = absurd is

-- Messages in the clear go on from near histories.
gets_near : (gets : List Entry) (x y : History) → AreGets gets → AreNear x y → AreNear (gets ++ x) (gets ++ y)
gets_near [] x y are near = near
gets_near (Clear tag t d ∷ gets) x y are near = near_goes_on (gets ++ x) (gets ++ y) tag tag t d (gets_near gets x y are.1 near)
gets_near (Sealed tag m t reply d ∷ gets) x y are near = absurd (false≢true are.0)
gets_near (Queued bytes ∷ gets) x y are near = absurd (false≢true are.0)
gets_near (Ticked seconds ∷ gets) x y are near = absurd (false≢true are.0)
gets_near (Dropped id ∷ gets) x y are near = absurd (false≢true are.0)

-- ---- The key of the answer to END_SESSION.

sessions_on : (es : List Entry) (x y : History) (id : ℕ) → AreBehind es → session_of id x ≡ session_of id y → session_of id (es ++ x) ≡ session_of id (es ++ y)
sessions_on [] x y id are same = same
sessions_on (Clear tag t d ∷ es) x y id are same = session_of-no_effect id tag t d (es ++ x) are.0.1 ∙ sessions_on es x y id are.1 same ∙ sym (session_of-no_effect id tag t d (es ++ y) are.0.1)
sessions_on (Sealed tag m t reply d ∷ es) x y id are same =
    session_of-Sealed id tag m t reply d (es ++ x) ∙ ap (λ (s : Events). cond (id_in_record m == id) (after_record s m t reply) s) (sessions_on es x y id are.1 same) ∙ sym (session_of-Sealed id tag m t reply d (es ++ y))
sessions_on (Queued bytes ∷ es) x y id are same = absurd are.0
sessions_on (Ticked seconds ∷ es) x y id are same = absurd are.0
sessions_on (Dropped which ∷ es) x y id are same = dropped_session which id (es ++ x) ∙ ap (λ (s : Events). cond (which == id) [] s) (sessions_on es x y id are.1 same) ∙ sym (dropped_session which id (es ++ y))

either_second : (a b : Bool) → b ≡ true → (a || b) ≡ true
either_second true b is = refl
either_second false b is = is

module _ (r : RspSetup) (key : Option AnswerKey) where
  key_by : (b : Bool) (s u : Events) (t : Turn) (A B : Type 0) → s ≡ u → (A → B) → MatchBool b (IsKeyOfTurn r s t key) A → MatchBool b (IsKeyOfTurn r u t key) B
  key_by true s u t A B same rest is = subst (λ (x : Events). IsKeyOfTurn r x t key) same is
  key_by false s u t A B same rest is = rest is

  -- It is the same where the sessions that ended since were the same.
  key_on : (es : List Entry) (x y : History) → AreBehind es → ((id : ℕ) → touched id (es ++ x) ≡ true → session_of id x ≡ session_of id y) → (IsEndedKey r x key → IsEndedKey r y key) → IsEndedKey r (es ++ x) key → IsEndedKey r (es ++ y) key
  key_on [] x y are same base is = base is
  key_on (Clear tag t d ∷ es) x y are same base is =
      key_on es x y are.1 (λ id it. same id (ap (λ (b : Bool). cond b false (touched id (es ++ x))) are.0.0 ∙ it)) base is
  key_on (Sealed tag m t reply d ∷ es) x y are same base is =
      let id : ℕ = id_in_record m in
      key_by (takes END_SESSION t) (session_of id (es ++ x)) (session_of id (es ++ y)) t (IsEndedKey r (es ++ x) key) (IsEndedKey r (es ++ y) key)
      (sessions_on es x y id are.1 (same id (ap (λ (b : Bool). b || touched id (es ++ x)) (eq-eqb id id refl))))
      (key_on es x y are.1 (λ other it. same other (either_second (id == other) (touched other (es ++ x)) it)) base) is
  key_on (Queued bytes ∷ es) x y are same base is = absurd are.0
  key_on (Ticked seconds ∷ es) x y are same base is = absurd are.0
  key_on (Dropped which ∷ es) x y are same base is = key_on es x y are.1 (λ id it. same id (either_second (which == id) (touched id (es ++ x)) it)) base is

  key_dropped : (ids : List ℕ) (h : History) → IsEndedKey r h key → IsEndedKey r (with_dropped h ids) key
  key_dropped [] h is = is
  key_dropped (id ∷ ids) h is = key_dropped ids (Dropped id ∷ h) is

  pub key_gets : (gets : List Entry) (h : History) → AreGets gets → IsEndedKey r h key → IsEndedKey r (gets ++ h) key
  key_gets [] h are is = is
  key_gets (Clear tag t d ∷ gets) h are is = key_gets gets h are.1 is
  key_gets (Sealed tag m t reply d ∷ gets) h are is = absurd (false≢true are.0)
  key_gets (Queued bytes ∷ gets) h are is = absurd (false≢true are.0)
  key_gets (Ticked seconds ∷ gets) h are is = absurd (false≢true are.0)
  key_gets (Dropped id ∷ gets) h are is = absurd (false≢true are.0)

-- ---- A session that another request begins than its own.

-- What a message in the clear leaves of a session that it does not begin.
abbrev left_part : (version exchange : Bool) → Events → Events
left_part version exchange s = cond version [] (cond exchange (cond (is_past_handshake (stage_of s)) s []) s)

-- It leaves of it what its code says, for its answer does not give its id.
other_by : (version exchange gives : Bool) (new s : Events) → (exchange ≡ true → gives ≡ false) → cond version [] (cond exchange (cond gives new (cond (is_past_handshake (stage_of s)) s [])) s) ≡ left_part version exchange s
other_by version true gives new s other = ap (λ (b : Bool). cond version [] (cond b new (cond (is_past_handshake (stage_of s)) s []))) (other refl)
other_by version false gives new s other = refl

not_begun : (id tag : ℕ) (t : Turn) (d : Draw) (h : History) → (takes PSK_EXCHANGE t ≡ true → gives_id id (answer_in t.effect) ≡ false) → session_of id (Clear tag t d ∷ h) ≡ left_part (takes GET_VERSION t) (takes PSK_EXCHANGE t) (session_of id h)
not_begun id tag t d h other =
    session_of-Clear id tag t d h
    ∙ other_by (takes GET_VERSION t) (takes PSK_EXCHANGE t) (gives_id id (answer_in t.effect)) (Began (negotiation_of (clear_turns h)) (request_in t.effect) (answer_in t.effect) ∷ []) (session_of id h) other

apart_by : (n id : ℕ) (touches : ℕ → Bool) → touches n ≡ false → touches id ≡ true → (n == id) ≡ false
apart_by n id touches none one = by_same (n == id) refl
  where
    by_same : (b : Bool) → (n == id) ≡ b → b ≡ false
    by_same false is = refl
    by_same true is = absurd (false≢true (sym none ∙ ap touches (eqb-true n id is) ∙ one))

module _ (h : History) (s : StandsBack h) (v : List ℕ) (none : touched_by (id_begun (in_front h s s.tag v)) h ≡ false) where
  abbrev now : Turn
  now = seen_turn v s.turn

  abbrev new : ℕ
  new = id_in_exchange (answer_in now.effect)

  abbrev ids : List ℕ
  ids = drops_with h (in_front h s s.tag v)

  exchange_is : takes PSK_EXCHANGE now ≡ takes PSK_EXCHANGE s.turn
  exchange_is = takes_with v (Some (handle_shown s.turn)) PSK_EXCHANGE s.turn

  not_new : (id : ℕ) → touched id h ≡ true → takes PSK_EXCHANGE now ≡ true → (new == id) ≡ false
  not_new id it psk =
      apart_by (new) id (λ (n : ℕ). touched n h) (sym (ap (λ (b : Bool). touched_by (cond b (Some (new)) None) h) psk) ∙ none) it

  -- The drops that the whole shows are of the session that it begins.
  others_stay : (id : ℕ) (x : History) → touched id h ≡ true → session_of id (with_dropped x ids) ≡ session_of id x
  others_stay id x it = by_code (takes PSK_EXCHANGE now) refl
    where
      one_gone : (b : Bool) → takes PSK_EXCHANGE now ≡ true → session_of id (with_dropped x (cond b (new ∷ []) [])) ≡ session_of id x
      one_gone true psk = dropped_session (new) id x ∙ ap (λ (b : Bool). cond b [] (session_of id x)) (not_new id it psk)
      one_gone false psk = refl

      by_code : (b : Bool) → takes PSK_EXCHANGE now ≡ b → session_of id (with_dropped x ids) ≡ session_of id x
      by_code true psk = ap (λ (b : Bool). session_of id (with_dropped x (cond b (dropped_for h (Some new)) []))) psk ∙ one_gone (may_be_dropped h new) psk
      by_code false other = ap (λ (b : Bool). session_of id (with_dropped x (cond b (dropped_for h (Some new)) []))) other

  -- At its place the request leaves it alike, with its bytes and without.
  pub others_same : (id : ℕ) → touched id h ≡ true → session_of id (Clear s.tag s.turn s.draw ∷ s.before) ≡ session_of id (in_front h s s.tag v ∷ with_dropped s.before ids)
  others_same id it =
      not_begun id s.tag s.turn s.draw s.before (λ psk. gives_no id s.turn.effect s.passed.unseen)
      ∙ ap (λ (b : Bool). left_part b (takes PSK_EXCHANGE s.turn) (session_of id s.before)) (sym (takes_with v (Some (handle_shown s.turn)) GET_VERSION s.turn))
      ∙ ap (λ (b : Bool). left_part (takes GET_VERSION now) b (session_of id s.before)) (sym exchange_is)
      ∙ ap (left_part (takes GET_VERSION now) (takes PSK_EXCHANGE now)) (sym (others_stay id s.before it))
      ∙ sym (not_begun id s.tag now s.draw (with_dropped s.before ids) (λ psk. gives_other id (answer_in now.effect) (not_new id it psk)))

-- ---- Behind all chunks.

module _ (r : RspSetup) (byte : r.beat < 256) (marks : Marks) (tag : ℕ) (t : Turn) (gets : List Entry) (before h : History) (has : HasGets (Some marks) tag t gets before h) (undrawn : AreUndrawn h) (are : AreGets gets)
    (unseen : IsUnseenRequest (Clear tag t no_draw)) (v : List ℕ) (shown : IsShownEntry r before (seen v (Clear tag t no_draw))) (none : touched_by (id_begun (seen v (Clear tag t no_draw))) before ≡ false) (at : ℕ) (u : Turn)
    (get : is_clear_get (Clear at u no_draw) ≡ true) (taken : is_taken u ≡ true) where
  abbrev asked : Entry
  asked = Clear tag t no_draw

  abbrev newest : Entry
  newest = Clear at u no_draw

  abbrev s : StandsBack before
  s = has.0.back

  abbrev gone : List ℕ
  gone = drops_with before (seen v asked)

  -- With the request in front, and with it at its place.
  abbrev front : History
  front = seen v asked ∷ with_dropped before gone

  abbrev place : History
  place = s.behind ++ in_front before s s.tag v ∷ with_dropped s.before gone

  entry_is : Clear tag s.turn s.draw ≡ asked
  entry_is = front_is marks tag t gets before h has.0 has.1 undrawn

  untouched : touched_by (id_begun (seen v (Clear tag s.turn s.draw))) before ≡ false
  untouched = subst (λ (e : Entry). touched_by (id_begun (seen v e)) before ≡ false) (sym entry_is) none

  shows : AreShown r before (request_of (seen v asked)) (Adds (seen v asked)) gone
  shows = (entry_led r before byte (seen v asked) (large_seen v (handle_shown t) t.effect unseen.0) gone refl shown).1

  near : AreNear front place
  near =
      subst (λ (e : Entry). AreNear (seen v e ∷ with_dropped before gone) place) entry_is
      (front_is_near r before s v gone tag has.0.free untouched (subst (λ (e : Entry). AreShown r before (request_of (seen v e)) (Adds (seen v e)) gone) (sym entry_is) shows))

  near_behind : AreNear (newest ∷ gets ++ front) (newest ∷ gets ++ place)
  near_behind = gets_near (newest ∷ gets) front place (get, are) near

  record_there : ended_of (newest ∷ gets ++ place) ≡ ended_of before
  record_there = alike.gets_ended (newest ∷ gets) place (get, are) ∙ ended_stays before s v gone

  pub stands_late : (left : History) → IsLeftBy (Clear tag t no_draw) before left → (seen_as : Connection) → connected.StandsFor seen_as r (Clear at u no_draw ∷ gets ++ seen v (Clear tag t no_draw) ∷ with_dropped before (drops_with before (seen v (Clear tag t no_draw))))
      → connected.StandsFor (with_ended seen_as (ended_of left)) r (Clear at u no_draw ∷ gets ++ (has.0.back.behind ++ in_front before has.0.back has.0.back.tag v ∷ with_dropped has.0.back.before (drops_with before (seen v (Clear tag t no_draw)))))
  stands_late left leaves seen_as stands =
      subst (λ (o : Option KeptRecord). connected.StandsFor (with_ended seen_as o) r (newest ∷ gets ++ place)) (record_there ∙ sym (left_record asked before left leaves))
      (stands_near seen_as r (newest ∷ gets ++ front) (newest ∷ gets ++ place) near_behind (near_is_kept (gets ++ front) (gets ++ place) at u no_draw taken) stands)

  pub sessions_late : (id : ℕ) → session_of id (Clear at u no_draw ∷ gets ++ seen v (Clear tag t no_draw) ∷ with_dropped before (drops_with before (seen v (Clear tag t no_draw))))
      ≡ session_of id (Clear at u no_draw ∷ gets ++ (has.0.back.behind ++ in_front before has.0.back has.0.back.tag v ∷ with_dropped has.0.back.before (drops_with before (seen v (Clear tag t no_draw)))))
  sessions_late id = near_behind.sessions id

  same_session : (id : ℕ) → touched id (s.behind ++ Clear s.tag s.turn s.draw ∷ s.before) ≡ true → session_of id (Clear s.tag s.turn s.draw ∷ s.before) ≡ session_of id (in_front before s s.tag v ∷ with_dropped s.before gone)
  same_session id it =
      others_same before s v untouched id (ap (touched id) s.is ∙ it)
      ∙ ap (λ (e : Entry). session_of id (in_front before s s.tag v ∷ with_dropped s.before (drops_with before (seen v e)))) entry_is

  pub key_late : (key : Option AnswerKey) → IsEndedKey r before key → IsEndedKey r (Clear at u no_draw ∷ gets ++ (has.0.back.behind ++ in_front before has.0.back has.0.back.tag v ∷ with_dropped has.0.back.before (drops_with before (seen v (Clear tag t no_draw))))) key
  key_late key is =
      key_gets r key (newest ∷ gets) place (get, are)
      (key_on r key s.behind (Clear s.tag s.turn s.draw ∷ s.before) (in_front before s s.tag v ∷ with_dropped s.before gone) s.are same_session (key_dropped r key gone s.before) (subst (λ (l : History). IsEndedKey r l key) s.is is))
