-- Which keys are kept after a body that was handed in, with the key of the answer to it.
use Rattle.std.proofs.Common.{◌≡◌, ◌≢◌, ◌≤◌, ◌⊎◌, ◌==◌, ◌&&◌, ◌||◌, ◌-◌, ◌∙◌, ℕ, List, [], ◌∷◌, refl, sym, ap, subst, drop, Bool, true, false, Option, Some, None, cond, inl, inr, arith}
use Rattle.std.proofs.lemmas.Bool.{false≢true, not-true}
use Rattle.std.proofs.lemmas.Bool.Decides.{nat_tests}
use Rattle.std.specs.Prelude.{nat_lt, not, slice_index, slice_index_or}
use Rattle.responder_core.specs.Connected as connected
use Rattle.responder_core.specs.LiveSession.{IsSlotOf}
use Rattle.responder_core.specs.declared.connected.Connection.{Connection}
use Rattle.responder_machine.specs.Answer.{Free}
use Rattle.responder_machine.specs.History.{History, KeptRecord, ended_of}
use Rattle.responder_machine.specs.History.Entry.{Sealed}
use Rattle.responder_machine.specs.May.{on_body, with_dropped}
use Rattle.responder_machine.specs.Records.{reply_record}
use Rattle.responder_machine.specs.Responder.{Outcome, after, inner_reply, on_clear, on_record, repeats}
use Rattle.responder_machine.specs.Session.{Events, after_record, id_in_record, is_live, last_of, session_of, when_live}
use Rattle.responder_machine.specs.Session.Event.{Heard}
use Rattle.responder_machine.specs.Setup.{RspSetup}
use Rattle.responder_machine.specs.Turn.{Turn, takes}
use Rattle.responder_session.specs.OwnAnswers.{IsKeyOfReply}
use Rattle.responder_session.specs.Took.{turn_in}
use Rattle.responder_session.specs.declared.answer_key.AnswerKey.{AnswerKey}
use Rattle.spdm_basis.proofs.Bools.{and_first, and_second}
use Rattle.spdm_grammar.specs.declared.names.request_code.TheConstants.{END_SESSION}
use Rattle.spdm_machine.specs.Keys.{Draw}
use Rattle.check_responder.proofs.KeysKept.{LeadsBy, dropped_ended, dropped_session, ended_kept, keys_after_clear, keys_dropped, last_kept, record_leads, same_bytes}
use Rattle.check_responder.specs.AnswerKeys.{IsComingKey, StandFor, is_taken_in, last_key, session_named}
use Rattle.check_responder.specs.declared.answer_keys.AnswerKeys.{AnswerKeys}

-- No session takes a record where there is none.
none_taken : (r : RspSetup) (ended : Bool) (m : List ℕ) → is_taken_in r [] ended m ≡ false
none_taken r true m = refl
none_taken r false m = refl

is_lively : (r : RspSetup) (s : Events) (ended : Bool) (m : List ℕ) → is_taken_in r s ended m ≡ true → is_live s ≡ true
is_lively r [] ended m is = absurd (false≢true (sym (none_taken r ended m) ∙ is))
is_lively r (e ∷ s) ended m is = refl

-- A RspSessionID whose session is live is one of the four.
pub is_few : (connection : Connection) (r : RspSetup) (h : History) (id : ℕ) → connected.StandsFor connection r h → is_live (session_of id h) ≡ true → (1 ≤ id) × (id ≤ 4)
is_few connection r h id stands live = by_test (id == 0 || nat_lt 4 id) refl
  where
    by_test : (b : Bool) → (id == 0 || nat_lt 4 id) ≡ b → (1 ≤ id) × (id ≤ 4)
    by_test false is = (grind (arith, nat_tests, is), grind (arith, nat_tests, is))
    by_test true is =
        let slot : IsSlotOf (cond true None (slice_index_or connection.sessions.slots (id - 1) None)) r (session_of id h) =
        subst (λ (b : Bool). IsSlotOf (cond b None (slice_index_or connection.sessions.slots (id - 1) None)) r (session_of id h)) is (stands.sessions.slots id) in
        absurd (false≢true (sym (ap is_live slot) ∙ live))

module _ (keys new : AnswerKeys) (r : RspSetup) (h : History) (ids : List ℕ) (tag : ℕ) (body : List ℕ) (f : Free) (d : Draw) (stand : StandFor keys r h) where
  abbrev g : History
  g = with_dropped h ids

  abbrev m : List ℕ
  m = drop 1 body

  abbrev s : Events
  s = session_of (id_in_record m) g

  abbrev t : Turn
  t = turn_in r s f m

  abbrev o : Outcome
  o = on_record r g tag m f d

  abbrev stood : StandFor keys r g
  stood = keys_dropped keys r h ids stand

  -- The record is an entry then.
  abbrev behind : History
  behind = Sealed tag m t (reply_record r.psk s t (inner_reply t) f.pad) d ∷ g

  abbrev LeadsHere : Type 0
  LeadsHere = LeadsBy r g tag m f d s (is_taken_in r s (repeats (ended_of g) m) m) o

  leads : LeadsHere
  leads = record_leads r g tag m f d

  -- What is taken after drops is taken without them.
  taken_before : is_taken_in r s (repeats (ended_of g) m) m ≡ true → (s ≡ session_named h body) × (is_taken_in r (session_named h body) (repeats (ended_of h) m) m ≡ true)
  taken_before taken = by_drop (dropped_session (id_in_record m) h ids)
    where
      by_drop : (s ≡ session_named h body) ⊎ (s ≡ []) → (s ≡ session_named h body) × (is_taken_in r (session_named h body) (repeats (ended_of h) m) m ≡ true)
      by_drop (inl same) = (same, ap (λ (k : Option KeptRecord). is_taken_in r (session_named h body) (repeats k m) m) (sym (dropped_ended h ids)) ∙ ap (λ (e : Events). is_taken_in r e (repeats (ended_of g) m) m) (sym same) ∙ taken)
      by_drop (inr none) = absurd (false≢true (sym (none_taken r (repeats (ended_of g) m) m) ∙ ap (λ (e : Events). is_taken_in r e (repeats (ended_of g) m) m) (sym none) ∙ taken))

  as_record : (slice_index body 0 == 5) ≡ false → (k : AnswerKeys) → StandFor k r (after g o) → StandFor k r (after g (on_body r g tag body f d))
  as_record type k is = subst (λ (b : Bool). StandFor k r (after g (cond b (on_clear r g tag m f d) o))) (sym type) is

  from_record : (slice_index body 0 == 5) ≡ false → (P : History → Type 0) → P (after g (on_body r g tag body f d)) → P (after g o)
  from_record type P is = subst (λ (b : Bool). P (after g (cond b (on_clear r g tag m f d) o))) type is

  -- ---- No record that is taken.

  pub none_follows : IsComingKey r h body None → StandFor keys r (after g (on_body r g tag body f d))
  none_follows none = by_type (slice_index body 0 == 5) refl
    where
      by_leads : (slice_index body 0 == 5) ≡ false → LeadsHere → StandFor keys r (after g o)
      by_leads type (inl same) = subst (StandFor keys r) (sym same.0) stood
      by_leads type (inr adds) =
          absurd (false≢true (sym none ∙ ap (λ (b : Bool). not b && is_taken_in r (session_named h body) (repeats (ended_of h) m) m) type ∙ (taken_before adds.1).1))

      by_type : (b : Bool) → (slice_index body 0 == 5) ≡ b → StandFor keys r (after g (on_body r g tag body f d))
      by_type true type = subst (λ (b : Bool). StandFor keys r (after g (cond b (on_clear r g tag m f d) o))) (sym type) (keys_after_clear keys r g tag m f d stood)
      by_type false type = as_record type keys (by_leads type leads)

  -- ---- A record that is taken, with its key.

  module _ (key : AnswerKey) (coming : IsComingKey r h body (Some key)) where
    type : (slice_index body 0 == 5) ≡ false
    type = not-true (slice_index body 0 == 5) (and_first (not (slice_index body 0 == 5)) _ coming.0)

    will : is_taken_in r (session_named h body) (repeats (ended_of h) m) m ≡ true
    will = and_second (not (slice_index body 0 == 5)) _ coming.0

    not_ended : repeats (ended_of g) m ≡ false
    not_ended = ap (λ (k : Option KeptRecord). repeats k m) (dropped_ended h ids) ∙ not-true (repeats (ended_of h) m) (and_first (not (repeats (ended_of h) m)) _ will)

    not_last : repeats (last_of s) m ≡ false
    not_last = by_drop (dropped_session (id_in_record m) h ids)
      where
        by_drop : (s ≡ session_named h body) ⊎ (s ≡ []) → repeats (last_of s) m ≡ false
        by_drop (inl same) =
            ap (λ (e : Events). repeats (last_of e) m) same
            ∙ not-true (repeats (last_of (session_named h body)) m) (and_first (not (repeats (last_of (session_named h body)) m)) _ (and_second (not (repeats (ended_of h) m)) _ will))
        by_drop (inr none) = ap (λ (e : Events). repeats (last_of e) m) none

    its : is_taken_in r s (repeats (ended_of g) m) m ≡ true → IsKeyOfReply key r.psk s t
    its taken = subst (λ (e : Events). IsKeyOfReply key r.psk e (turn_in r e f m)) (sym (taken_before taken).0) (coming.1 f)

    -- Whether it was END_SESSION.
    ends_from : (b : Bool) (reply : List ℕ) → repeats (cond b (Some (record { sealed = m; reply = reply })) (ended_of g)) m ≡ true → b ≡ true
    ends_from true reply again = refl
    ends_from false reply again = absurd (false≢true (sym not_ended ∙ again))

    goes_from : (b : Bool) (reply : List ℕ) → repeats (cond b (Some (record { sealed = m; reply = reply })) (ended_of g)) m ≡ false → b ≡ false
    goes_from true reply other = absurd (false≢true (sym other ∙ same_bytes m))
    goes_from false reply other = refl

    -- Its key is that of the last END_SESSION.
    pub ended_follows : repeats (ended_of (after g (on_body r g tag body f d))) m ≡ true → new.ended ≡ Some key → ((i : ℕ) → last_key new i ≡ last_key keys i)
        → StandFor new r (after g (on_body r g tag body f d))
    ended_follows again kept same = as_record type new (by_leads leads (from_record type (λ (x : History). repeats (ended_of x) m ≡ true) again))
      where
        by_leads : LeadsHere → repeats (ended_of (after g o)) m ≡ true → StandFor new r (after g o)
        by_leads (inl stays) told = absurd (false≢true (sym not_ended ∙ ap (λ (x : History). repeats (ended_of x) m) (sym stays.0) ∙ told))
        by_leads (inr adds) told =
            let at = subst (λ (x : Outcome). repeats (ended_of (after g x)) m ≡ true) adds.0 told in
            subst (λ (x : Outcome). StandFor new r (after g x)) (sym adds.0)
            (ended_kept keys new r g tag m t (reply_record r.psk s t (inner_reply t) f.pad) d key stood (ends_from (takes END_SESSION t) (reply_record r.psk s t (inner_reply t) f.pad) at) (its adds.1) kept same)

    live_behind : takes END_SESSION t ≡ false → is_live s ≡ true → is_live (session_of (id_in_record m) behind) ≡ true
    unfolding session_of
    live_behind ends live =
        ap (λ (b : Bool). is_live (cond b (after_record s m t (reply_record r.psk s t (inner_reply t) f.pad)) s)) (self (id_in_record m))
        ∙ ap (λ (b : Bool). is_live (cond b [] (when_live s (Heard m t (reply_record r.psk s t (inner_reply t) f.pad))))) ends ∙ when s live
      where
        self : (n : ℕ) → (n == n) ≡ true
        self n = grind (arith, nat_tests)

        when : (e : Events) → is_live e ≡ true → is_live (when_live e (Heard m t (reply_record r.psk s t (inner_reply t) f.pad))) ≡ true
        when [] live = absurd (false≢true live)
        when (x ∷ e) live = refl

    -- Or that of the last record of its session.
    pub last_follows : (connection : Connection) → connected.StandsFor connection r (after g (on_body r g tag body f d)) → repeats (ended_of (after g (on_body r g tag body f d))) m ≡ false
        → repeats (last_of (session_of (id_in_record m) (after g (on_body r g tag body f d)))) m ≡ true
        → (1 ≤ id_in_record m → id_in_record m ≤ 4 → last_key new (id_in_record m) ≡ Some key) → ((i : ℕ) → i ≢ id_in_record m → last_key new i ≡ last_key keys i) → new.ended ≡ keys.ended
        → StandFor new r (after g (on_body r g tag body f d))
    last_follows connection stands other again own same old =
        as_record type new
        (by_leads leads (from_record type (connected.StandsFor connection r) stands) (from_record type (λ (x : History). repeats (ended_of x) m ≡ false) other)
        (from_record type (λ (x : History). repeats (last_of (session_of (id_in_record m) x)) m ≡ true) again))
      where
        by_leads : LeadsHere → connected.StandsFor connection r (after g o) → repeats (ended_of (after g o)) m ≡ false → repeats (last_of (session_of (id_in_record m) (after g o))) m ≡ true → StandFor new r (after g o)
        by_leads (inl stays) there apart told = absurd (false≢true (sym not_last ∙ ap (λ (x : History). repeats (last_of (session_of (id_in_record m) x)) m) (sym stays.0) ∙ told))
        by_leads (inr adds) there apart told =
            let goes = goes_from (takes END_SESSION t) (reply_record r.psk s t (inner_reply t) f.pad) (subst (λ (x : Outcome). repeats (ended_of (after g x)) m ≡ false) adds.0 apart) in
            let live = is_lively r s (repeats (ended_of g) m) m adds.1 in
            let few = is_few connection r behind (id_in_record m) (subst (λ (x : Outcome). connected.StandsFor connection r (after g x)) adds.0 there) (live_behind goes live) in
            subst (λ (x : Outcome). StandFor new r (after g x)) (sym adds.0)
            (last_kept keys new r g tag m t (reply_record r.psk s t (inner_reply t) f.pad) d key stood goes live (its adds.1) (own few.0 few.1) same old)

    last_behind : takes END_SESSION t ≡ false → is_live s ≡ true → repeats (last_of (session_of (id_in_record m) behind)) m ≡ true
    unfolding session_of
    last_behind ends live =
        ap (λ (b : Bool). repeats (last_of (cond b (after_record s m t (reply_record r.psk s t (inner_reply t) f.pad)) s)) m) (self (id_in_record m))
        ∙ ap (λ (b : Bool). repeats (last_of (cond b [] (when_live s (Heard m t (reply_record r.psk s t (inner_reply t) f.pad))))) m) ends ∙ when s (reply_record r.psk s t (inner_reply t) f.pad) live
      where
        when : (e : Events) (reply : List ℕ) → is_live e ≡ true → repeats (last_of (when_live e (Heard m t reply))) m ≡ true
        when [] reply live = absurd (false≢true live)
        when (x ∷ e) reply live = same_bytes m

        self : (n : ℕ) → (n == n) ≡ true
        self n = grind (arith, nat_tests)

    -- Or it was not taken, as its session was dropped.
    pub rest_follows : repeats (ended_of (after g (on_body r g tag body f d))) m ≡ false → repeats (last_of (session_of (id_in_record m) (after g (on_body r g tag body f d)))) m ≡ false
        → StandFor keys r (after g (on_body r g tag body f d))
    rest_follows other apart =
        as_record type keys
        (by_leads leads (from_record type (λ (x : History). repeats (ended_of x) m ≡ false) other) (from_record type (λ (x : History). repeats (last_of (session_of (id_in_record m) x)) m ≡ false) apart))
      where
        by_leads : LeadsHere → repeats (ended_of (after g o)) m ≡ false → repeats (last_of (session_of (id_in_record m) (after g o))) m ≡ false → StandFor keys r (after g o)
        by_leads (inl stays) told last = subst (StandFor keys r) (sym stays.0) stood
        by_leads (inr adds) told last =
            let goes = goes_from (takes END_SESSION t) (reply_record r.psk s t (inner_reply t) f.pad) (subst (λ (x : Outcome). repeats (ended_of (after g x)) m ≡ false) adds.0 told) in
            let live = is_lively r s (repeats (ended_of g) m) m adds.1 in
            absurd (false≢true (sym (subst (λ (x : Outcome). repeats (last_of (session_of (id_in_record m) (after g x))) m ≡ false) adds.0 last) ∙ last_behind goes live))
