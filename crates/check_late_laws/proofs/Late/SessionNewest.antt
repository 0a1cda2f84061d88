-- The large response to the newest record of a session stands in the newest event of that session.
use Rattle.std.proofs.Common.{◌≡◌, ◌==◌, ◌&&◌, ◌∙◌, ℕ, List, [], ◌∷◌, refl, sym, ap, Bool, true, false, Some, is_some, cond, eqb-true, ne_eqb}
use Rattle.std.proofs.lemmas.Bool.{false≢true}
use Rattle.check_late_laws.proofs.Late.BehindClear.{code_with}
use Rattle.check_late_laws.proofs.Late.BehindSessions.{dropped_session}
use Rattle.check_late_laws.proofs.Late.WalksStand.{walk_stands}
use Rattle.check_late_laws.specs.Late.AgainInSession.{AgainIsNewest, AgainLeavesOthers, newest_with}
use Rattle.responder_machine.proofs.Entries.{session_of-Clear, session_of-Sealed, session_of-Ticked}
use Rattle.responder_machine.specs.History.{Entry, History, clear_turns, negotiation_of}
use Rattle.responder_machine.specs.History.Entry.{Clear, Sealed, Queued, Ticked, Dropped}
use Rattle.responder_machine.specs.Session.{Events, after_clear, after_record, after_tick, gives_id, id_in_record, last_of, session_of, stage_of, when_live}
use Rattle.responder_machine.specs.Session.Event.{Began, Heard, Waited}
use Rattle.responder_machine.specs.Turn.{Effect, Turn, answer_in, request_in, takes}
use Rattle.responder_machine.specs.Turn.Effect.{NoEffect, Took, TookData}
use Rattle.spdm_grammar.specs.declared.names.request_code.TheConstants.{END_SESSION, GET_VERSION, PSK_EXCHANGE}
use Rattle.spdm_grammar.specs.declared.told.phase.Stage.{Stage}
use Rattle.spdm_machine.specs.Sessions.{is_past_handshake}
use Rattle.transcript.specs.Transcripts.{Negotiation}
use Rattle.capture_machine.proofs.UnseenStands.{UnseenStand}
use Rattle.capture_machine.specs.LargeAnswers.{effect_with, handle_shown, is_unseen_effect, is_unseen_in, repeats_large, seen, seen_turn, with_large}

-- ---- What came in the clear.

turns_by : (b : Bool) (e : Entry) (w : List ℕ) (id : ℕ) (h : History) → is_unseen_in (Some id) e ≡ b → clear_turns (with_large (Some id) w h) ≡ clear_turns h
    → clear_turns (cond b (seen w e ∷ h) (e ∷ with_large (Some id) w h)) ≡ clear_turns (e ∷ h)
turns_by true (Clear tag t d) w id h is same = absurd (false≢true is)
turns_by true (Sealed tag m t reply d) w id h is same = refl
turns_by true (Queued bytes) w id h is same = refl
turns_by true (Ticked seconds) w id h is same = refl
turns_by true (Dropped which) w id h is same = refl
turns_by false (Clear tag t d) w id h is same = ap (λ (l : List Turn). t ∷ l) same
turns_by false (Sealed tag m t reply d) w id h is same = same
turns_by false (Queued bytes) w id h is same = same
turns_by false (Ticked seconds) w id h is same = same
turns_by false (Dropped which) w id h is same = same

pub turns_same : (id : ℕ) (w : List ℕ) (h : History) → clear_turns (with_large (Some id) w h) ≡ clear_turns h
turns_same id w [] = refl
turns_same id w (e ∷ h) = turns_by (is_unseen_in (Some id) e) e w id h refl (turns_same id w h)

-- ---- The newest event.

-- It has the same stage.
stage_with : (w : List ℕ) (s : Events) → stage_of (newest_with w s) ≡ stage_of s
stage_with w [] = refl
stage_with w (Began n x a ∷ s) = refl
stage_with w (Waited seconds ∷ s) = refl
stage_with w (Heard m t reply ∷ s) = by_effect t.effect
  where
    at : Effect → Stage
    at e = stage_of (Heard m (record t { effect = e }) reply ∷ s)

    by_effect : (e : Effect) → at (effect_with w (Some (handle_shown t)) e) ≡ at e
    by_effect NoEffect = refl
    by_effect (Took a text old large) = refl
    by_effect (TookData bytes old) = refl

record_with : (w : List ℕ) (s : Events) (m : List ℕ) (t : Turn) (reply : List ℕ) → is_some (last_of (after_record s m t reply)) ≡ true → after_record s m (seen_turn w t) reply ≡ newest_with w (after_record s m t reply)
record_with w s m t reply last =
    ap (λ (n : ℕ). cond (n == END_SESSION) [] (when_live s (Heard m (seen_turn w t) reply))) (code_with w (Some (handle_shown t)) t.effect) ∙ by_end (takes END_SESSION t) s last
  where
    by_end : (b : Bool) (u : Events) → is_some (last_of (cond b [] (when_live u (Heard m t reply)))) ≡ true → cond b [] (when_live u (Heard m (seen_turn w t) reply)) ≡ newest_with w (cond b [] (when_live u (Heard m t reply)))
    by_end true u is = absurd (false≢true is)
    by_end false [] is = absurd (false≢true is)
    by_end false (x ∷ xs) is = refl

-- One message in the clear: the session is ended, begun, or as it was.
clear_with : (id : ℕ) (w : List ℕ) (t : Turn) (n : Negotiation) (s u : Events) → (is_some (last_of s) ≡ true → u ≡ newest_with w s) → is_some (last_of (after_clear id s t n)) ≡ true
    → after_clear id u t n ≡ newest_with w (after_clear id s t n)
clear_with id w t n s u rest last = by_parts (takes GET_VERSION t) (takes PSK_EXCHANGE t) (gives_id id (answer_in t.effect)) last
  where
    new : Events
    new = Began n (request_in t.effect) (answer_in t.effect) ∷ []

    by_past : (p : Bool) → is_past_handshake (stage_of s) ≡ p → is_some (last_of (cond p s [])) ≡ true → cond (is_past_handshake (stage_of u)) u [] ≡ newest_with w (cond p s [])
    by_past false is one = absurd (false≢true one)
    by_past true is one =
        let same : u ≡ newest_with w s = rest one in
        ap (λ (x : Events). cond (is_past_handshake (stage_of x)) x []) same
        ∙ ap (λ (k : Stage). cond (is_past_handshake k) (newest_with w s) []) (stage_with w s) ∙ ap (λ (b : Bool). cond b (newest_with w s) []) is

    by_parts : (v x given : Bool) → is_some (last_of (cond v [] (cond x (cond given new (cond (is_past_handshake (stage_of s)) s [])) s))) ≡ true
        → cond v [] (cond x (cond given new (cond (is_past_handshake (stage_of u)) u [])) u) ≡ newest_with w (cond v [] (cond x (cond given new (cond (is_past_handshake (stage_of s)) s [])) s))
    by_parts true x given one = absurd (false≢true one)
    by_parts false true true one = absurd (false≢true one)
    by_parts false true false one = by_past (is_past_handshake (stage_of s)) refl one
    by_parts false false given one = rest one

newest : (id : ℕ) (w : List ℕ) (h : History) → UnseenStand h → repeats_large (Some id) h ≡ true → is_some (last_of (session_of id h)) ≡ true
    → session_of id (with_large (Some id) w h) ≡ newest_with w (session_of id h)
newest id w [] stand is last = absurd (false≢true is)
newest id w (Clear tag t d ∷ h) stand is last =
    let n : Negotiation = negotiation_of (clear_turns h) in
    session_of-Clear id tag t d (with_large (Some id) w h)
    ∙ ap (λ (l : List Turn). after_clear id (session_of id (with_large (Some id) w h)) t (negotiation_of l)) (turns_same id w h)
    ∙ clear_with id w t n (session_of id h) (session_of id (with_large (Some id) w h)) (newest id w h stand.1 is) (sym (ap (λ (s : Events). is_some (last_of s)) (session_of-Clear id tag t d h)) ∙ last)
    ∙ ap (newest_with w) (sym (session_of-Clear id tag t d h))
newest id w (Sealed tag m t reply d ∷ h) stand is last = by_id (id_in_record m == id) refl (newest id w h stand.1)
  where
    s : Events
    s = session_of id h

    old : History
    old = with_large (Some id) w h

    at : (b : Bool) → (id_in_record m == id) ≡ b → session_of id (Sealed tag m t reply d ∷ h) ≡ cond b (after_record s m t reply) s
    at b same = session_of-Sealed id tag m t reply d h ∙ ap (λ (x : Bool). cond x (after_record s m t reply) s) same

    by_id : (b : Bool) → (id_in_record m == id) ≡ b → (repeats_large (Some id) h ≡ true → is_some (last_of s) ≡ true → session_of id old ≡ newest_with w s)
        → session_of id (cond (id_in_record m == id && is_unseen_effect t.effect) (Sealed tag m (seen_turn w t) reply d ∷ h) (Sealed tag m t reply d ∷ old)) ≡ newest_with w (session_of id (Sealed tag m t reply d ∷ h))
    by_id true same rest =
        let un : is_unseen_effect t.effect ≡ true = sym (ap (λ (b : Bool). cond b (is_unseen_effect t.effect) (repeats_large (Some id) h)) same) ∙ is in
        ap (λ (b : Bool). session_of id (cond (b && is_unseen_effect t.effect) (Sealed tag m (seen_turn w t) reply d ∷ h) (Sealed tag m t reply d ∷ old))) same
        ∙ ap (λ (b : Bool). session_of id (cond b (Sealed tag m (seen_turn w t) reply d ∷ h) (Sealed tag m t reply d ∷ old))) un
        ∙ session_of-Sealed id tag m (seen_turn w t) reply d h ∙ ap (λ (b : Bool). cond b (after_record s m (seen_turn w t) reply) s) same
        ∙ record_with w s m t reply (sym (ap (λ (x : Events). is_some (last_of x)) (at true same)) ∙ last) ∙ ap (newest_with w) (sym (at true same))
    by_id false same rest =
        let before : repeats_large (Some id) h ≡ true = sym (ap (λ (b : Bool). cond b (is_unseen_effect t.effect) (repeats_large (Some id) h)) same) ∙ is in
        ap (λ (b : Bool). session_of id (cond (b && is_unseen_effect t.effect) (Sealed tag m (seen_turn w t) reply d ∷ h) (Sealed tag m t reply d ∷ old))) same
        ∙ session_of-Sealed id tag m t reply d old ∙ ap (λ (b : Bool). cond b (after_record (session_of id old) m t reply) (session_of id old)) same
        ∙ rest before (sym (ap (λ (x : Events). is_some (last_of x)) (at false same)) ∙ last) ∙ ap (newest_with w) (sym (at false same))
newest id w (Queued bytes ∷ h) stand is last = absurd stand.0
newest id w (Ticked seconds ∷ h) stand is last = absurd stand.0
newest id w (Dropped which ∷ h) stand is last = by_id (which == id) refl (newest id w h stand.1 is)
  where
    by_id : (b : Bool) → (which == id) ≡ b → (is_some (last_of (session_of id h)) ≡ true → session_of id (with_large (Some id) w h) ≡ newest_with w (session_of id h))
        → session_of id (Dropped which ∷ with_large (Some id) w h) ≡ newest_with w (session_of id (Dropped which ∷ h))
    by_id true same rest =
        absurd (false≢true (ap (λ (b : Bool). is_some (last_of (cond b [] (session_of id h)))) (sym same) ∙ sym (ap (λ (s : Events). is_some (last_of s)) (dropped_session which id h)) ∙ last))
    by_id false same rest =
        let here : session_of id (Dropped which ∷ h) ≡ session_of id h = dropped_session which id h ∙ ap (λ (b : Bool). cond b [] (session_of id h)) same in
        dropped_session which id (with_large (Some id) w h) ∙ ap (λ (b : Bool). cond b [] (session_of id (with_large (Some id) w h))) same
        ∙ rest (sym (ap (λ (s : Events). is_some (last_of s)) here) ∙ last) ∙ ap (newest_with w) (sym here)

pub again_is_newest : AgainIsNewest
again_is_newest w q older d id whole walk is last = newest id whole d.responder (walk_stands w q older d walk) is last

-- ---- The others.

queued_session : (bytes : List ℕ) (id : ℕ) (h : History) → session_of id (Queued bytes ∷ h) ≡ session_of id h
unfolding session_of
queued_session bytes id h = refl

module _ (id other : ℕ) (w : List ℕ) (apart : (id == other) ≡ false) where
  by_unseen : (b : Bool) (e : Entry) (h : History) → is_unseen_in (Some id) e ≡ b → session_of other (with_large (Some id) w h) ≡ session_of other h
      → session_of other (cond b (seen w e ∷ h) (e ∷ with_large (Some id) w h)) ≡ session_of other (e ∷ h)
  by_unseen true (Clear tag t d) h is same = absurd (false≢true is)
  by_unseen true (Queued bytes) h is same = refl
  by_unseen true (Ticked seconds) h is same = refl
  by_unseen true (Dropped which) h is same = refl
  by_unseen true (Sealed tag m t reply d) h is same =
      let here : (id_in_record m == other) ≡ false = ap (λ (n : ℕ). n == other) (eqb-true (id_in_record m) id (left_of (id_in_record m == id) (is_unseen_effect t.effect) is)) ∙ apart in
      session_of-Sealed other tag m (seen_turn w t) reply d h ∙ ap (λ (b : Bool). cond b (after_record (session_of other h) m (seen_turn w t) reply) (session_of other h)) here
      ∙ sym (session_of-Sealed other tag m t reply d h ∙ ap (λ (b : Bool). cond b (after_record (session_of other h) m t reply) (session_of other h)) here)
    where
      left_of : (a b : Bool) → (a && b) ≡ true → a ≡ true
      left_of true b both = refl
      left_of false b both = absurd (false≢true both)
  by_unseen false (Clear tag t d) h is same =
      session_of-Clear other tag t d (with_large (Some id) w h) ∙ ap (λ (s : Events). after_clear other s t (negotiation_of (clear_turns (with_large (Some id) w h)))) same
      ∙ ap (λ (l : List Turn). after_clear other (session_of other h) t (negotiation_of l)) (turns_same id w h) ∙ sym (session_of-Clear other tag t d h)
  by_unseen false (Sealed tag m t reply d) h is same =
      session_of-Sealed other tag m t reply d (with_large (Some id) w h) ∙ ap (λ (s : Events). cond (id_in_record m == other) (after_record s m t reply) s) same
      ∙ sym (session_of-Sealed other tag m t reply d h)
  by_unseen false (Queued bytes) h is same = queued_session bytes other (with_large (Some id) w h) ∙ same ∙ sym (queued_session bytes other h)
  by_unseen false (Ticked seconds) h is same =
      session_of-Ticked other seconds (with_large (Some id) w h) ∙ ap (λ (s : Events). after_tick s seconds) same ∙ sym (session_of-Ticked other seconds h)
  by_unseen false (Dropped which) h is same =
      dropped_session which other (with_large (Some id) w h) ∙ ap (λ (s : Events). cond (which == other) [] s) same ∙ sym (dropped_session which other h)

  others : (h : History) → session_of other (with_large (Some id) w h) ≡ session_of other h
  others [] = refl
  others (e ∷ h) = by_unseen (is_unseen_in (Some id) e) e h refl (others h)

pub again_leaves_others : AgainLeavesOthers
again_leaves_others d id other whole apart = (others id other whole (ne_eqb id other (λ same. apart (sym same))) d.responder, turns_same id whole d.responder)
