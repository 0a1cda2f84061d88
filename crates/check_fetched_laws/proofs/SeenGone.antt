-- A connection that judges with some bytes in the place of a large response of a session, which is gone by now, stands
-- for the history without them.
use Rattle.std.proofs.Common.{◌≡◌, ◌≢◌, ◌==◌, ◌&&◌, ℕ, List, [], ◌∷◌, refl, sym, ap, ◌∙◌, subst, Bool, true, false, Some, cond, eq-eqb, eqb-true, ne_eqb}
use Rattle.std.proofs.lemmas.Bool.{false≢true}
use Rattle.spdm_basis.proofs.Bools.{and_first}
use Rattle.responder_core.specs.Coming as coming
use Rattle.responder_core.specs.Connected as connected
use Rattle.responder_core.specs.Connected.{HasSizesAt}
use Rattle.responder_core.specs.LiveSession.{IsSlotOf}
use Rattle.responder_core.specs.Sessions.{slot_of}
use Rattle.responder_core.specs.declared.connected.Connection.{Connection}
use Rattle.responder_machine.specs.History.{Entry, History, clear_turns, negotiation_of}
use Rattle.responder_machine.specs.History.Entry.{Clear, Sealed, Queued, Ticked, Dropped}
use Rattle.responder_machine.specs.Session.{Events, after_clear, after_record, after_tick, id_in_record, is_live, session_of}
use Rattle.responder_machine.specs.Setup.{RspSetup}
use Rattle.responder_machine.specs.Turn.{Turn}
use Rattle.capture_machine.proofs.FetchedSessions.{ended_fetched}
use Rattle.capture_machine.proofs.FetchedTells.{kept_large}
use Rattle.capture_machine.proofs.UnseenStands.{UnseenStand}
use Rattle.capture_machine.specs.LargeAnswers.{is_unseen_in, seen, seen_turn, with_large}
use Rattle.check_late_laws.proofs.Late.SeenAlike.{SeenAlike, live_alike}
use Rattle.check_late_laws.proofs.Late.SeenSessions.{seen_alike}
use Rattle.check_fetched_laws.proofs.SizesSeen.{session_queue, session_turns}

-- ---- The sessions of other ids.

behind : (i : ℕ) (e : Entry) (h g : History) → clear_turns h ≡ clear_turns g → session_of i h ≡ session_of i g → session_of i (e ∷ h) ≡ session_of i (e ∷ g)
unfolding session_of
behind i (Clear tag t d) h g turns same =
    ap (λ (s : Events). after_clear i s t (negotiation_of (clear_turns h))) same ∙ ap (λ (l : List Turn). after_clear i (session_of i g) t (negotiation_of l)) turns
behind i (Sealed tag m t reply d) h g turns same = ap (λ (s : Events). cond (id_in_record m == i) (after_record s m t reply) s) same
behind i (Queued bytes) h g turns same = same
behind i (Ticked seconds) h g turns same = ap (λ (s : Events). after_tick s seconds) same
behind i (Dropped which) h g turns same = ap (λ (s : Events). cond (which == i) [] s) same

here : (i id : ℕ) (e : Entry) (h : History) (w : List ℕ) → i ≢ id → is_unseen_in (Some id) e ≡ true → session_of i (seen w e ∷ h) ≡ session_of i (e ∷ h)
unfolding session_of
here i id (Sealed tag m t reply d) h w apart is =
    let own : id_in_record m ≡ id = eqb-true (id_in_record m) id (and_first (id_in_record m == id) _ is) in
    let none : (id_in_record m == i) ≡ false = ne_eqb (id_in_record m) i (λ same. apart (sym same ∙ own)) in
    ap (λ (b : Bool). cond b (after_record (session_of i h) m (seen_turn w t) reply) (session_of i h)) none
    ∙ sym (ap (λ (b : Bool). cond b (after_record (session_of i h) m t reply) (session_of i h)) none)
here i id (Clear tag t d) h w apart is = absurd (false≢true is)
here i id (Queued bytes) h w apart is = absurd (false≢true is)
here i id (Ticked seconds) h w apart is = absurd (false≢true is)
here i id (Dropped which) h w apart is = absurd (false≢true is)

by_place : (i id : ℕ) (e : Entry) (h : History) (w : List ℕ) (b : Bool) → i ≢ id → is_unseen_in (Some id) e ≡ b → session_of i (with_large (Some id) w h) ≡ session_of i h
    → session_of i (cond b (seen w e ∷ h) (e ∷ with_large (Some id) w h)) ≡ session_of i (e ∷ h)
by_place i id e h w true apart is before = here i id e h w apart is
by_place i id e h w false apart is before = behind i e (with_large (Some id) w h) h (session_turns id w h) before

pub other_session : (i id : ℕ) (w : List ℕ) (h : History) → i ≢ id → session_of i (with_large (Some id) w h) ≡ session_of i h
other_session i id w [] apart = refl
other_session i id w (e ∷ h) apart = by_place i id e h w (is_unseen_in (Some id) e) apart refl (other_session i id w h apart)

-- ---- The own one.

gone_too : (s u : Events) → SeenAlike s u → s ≡ [] → u ≡ []
gone_too s [] a gone = refl
gone_too s (x ∷ u) a gone = absurd (false≢true (sym (ap is_live gone) ∙ live_alike s (x ∷ u) a))

each_session : (i id : ℕ) (w : List ℕ) (h : History) → UnseenStand h → session_of id (with_large (Some id) w h) ≡ [] → session_of i (with_large (Some id) w h) ≡ session_of i h
each_session i id w h none gone = by_id (i == id) refl
  where
    by_id : (b : Bool) → (i == id) ≡ b → session_of i (with_large (Some id) w h) ≡ session_of i h
    by_id true is =
        subst (λ (n : ℕ). session_of n (with_large (Some id) w h) ≡ session_of n h) (sym (eqb-true i id is)) (gone ∙ sym (gone_too (session_of id (with_large (Some id) w h)) (session_of id h) (seen_alike id id w h none) gone))
    by_id false is = other_session i id w h (λ same. false≢true (sym is ∙ eq-eqb i id same))

-- ---- The connection.

pub gone_stands : (c : Connection) (r : RspSetup) (id : ℕ) (w : List ℕ) (h : History) → UnseenStand h → session_of id (with_large (Some id) w h) ≡ [] → connected.StandsFor c r (with_large (Some id) w h) → connected.StandsFor c r h
gone_stands c r id w h none gone is = record {
  clear = record {
    requests = subst (coming.StandsFor c.clear.requests r) (session_turns id w h) is.clear.requests;
    kept = is.clear.kept ∙ kept_large (Some id) w h;
  };
  sessions = record {
    slots = λ i. subst (IsSlotOf (slot_of c.sessions i) r) (each_session i id w h none gone) (is.sessions.slots i);
    ended = is.sessions.ended ∙ ended_fetched (Some id) w h;
  };
  queue = is.queue ∙ session_queue id w h;
  sizes = subst (HasSizesAt r) (session_turns id w h) is.sizes;
}
