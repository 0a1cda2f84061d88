-- Under which of the kept keys an answer opens, and which are kept after a body.
use Rattle.std.proofs.Common.{◌≡◌, ◌≢◌, ◌⊎◌, ◌==◌, ◌&&◌, ◌||◌, ◌∙◌, ℕ, List, [], ◌∷◌, refl, sym, ap, subst, Bool, true, false, Option, Some, None, is_some, is_none, cond, inl, inr, arith, eqb-true}
use Rattle.std.proofs.lemmas.Bool.{false≢true}
use Rattle.std.proofs.lemmas.Bool.Decides.{nat_tests}
use Rattle.std.proofs.lemmas.Slice.Eq.{bytes_eq-Decides}
use Rattle.std.specs.Prelude.{MatchBool, bytes_eq, not}
use Rattle.responder_core.specs.OwnAnswers.{opens_in}
use Rattle.responder_machine.specs.Answer.{Free}
use Rattle.responder_machine.specs.Handling.{turn_of}
use Rattle.responder_machine.specs.History.{History, KeptRecord, clear_turns, ended_of, kept_of, negotiation_of, phase_of}
use Rattle.responder_machine.specs.History.Entry.{Clear, Sealed, Queued, Ticked, Dropped}
use Rattle.responder_machine.specs.May.{with_dropped}
use Rattle.responder_machine.specs.Place.{clear_place}
use Rattle.responder_machine.specs.Records.{opening_fault}
use Rattle.responder_machine.specs.Responder.{Outcome, after, in_session, in_session_by, is_repeat, kept_record, kept_reply, on_clear, on_record, repeats, sealed_entry, to_session}
use Rattle.responder_machine.specs.Responder.Outcome.{Same, Adds}
use Rattle.responder_machine.specs.Session.{Event, Events, after_clear, after_record, id_in_record, is_live, last_of, session_of, stage_of, when_live, gives_id}
use Rattle.responder_machine.specs.Session.Event.{Began, Heard, Waited}
use Rattle.responder_machine.specs.Setup.{RspSetup}
use Rattle.responder_machine.specs.Turn.{Turn, answer_in, request_in, takes}
use Rattle.responder_session.specs.OwnAnswers.{IsKeyOfReply}
use Rattle.responder_session.specs.Took.{turn_in}
use Rattle.responder_session.specs.declared.answer_key.AnswerKey.{AnswerKey}
use Rattle.spdm_basis.specs.declared.causes.record_fault.RecordFault.{RecordFault}
use Rattle.spdm_grammar.specs.declared.names.request_code.TheConstants.{END_SESSION, GET_VERSION, PSK_EXCHANGE}
use Rattle.spdm_grammar.specs.declared.told.phase.Phase.{Phase}
use Rattle.spdm_machine.specs.Bodies.{clear_body, record_body}
use Rattle.spdm_machine.specs.Keys.{Draw}
use Rattle.spdm_machine.specs.Sessions.{id_in_exchange, is_past_handshake}
use Rattle.check_responder.specs.AnswerKeys.{IsEndedKey, IsKeyOfTurn, IsLastKey, StandFor, is_taken_in, last_key}
use Rattle.check_responder.specs.declared.answer_keys.AnswerKeys.{AnswerKeys}
use Rattle.transcript.specs.Transcripts.{Negotiation}
use Rattle.capture_machine.specs.Opening.{opens_again, opens_ended, opens_to}

-- ---- What opens.

pub repeats_some : (o : Option KeptRecord) (sealed : List ℕ) → repeats o sealed ≡ true → is_some o ≡ true
repeats_some None sealed is = absurd (false≢true is)
repeats_some (Some kept) sealed is = refl

-- The answer to the last record that a session took.
pub opens_last : (r : RspSetup) (s : Events) (sealed : List ℕ) (key : Option AnswerKey) (b : Bool) → IsLastKey r s key → is_some (last_of s) ≡ true
    → ((older : Events) (t : Turn) → IsKeyOfTurn r older t key → b ≡ opens_to r older t sealed) → b ≡ opens_again r s sealed
opens_last r [] sealed key b is took opens = absurd (false≢true took)
opens_last r (Began n exchange answer ∷ older) sealed key b is took opens = opens_last r older sealed key b is took opens
opens_last r (Heard m t reply ∷ older) sealed key b is took opens = opens older t is
opens_last r (Waited seconds ∷ older) sealed key b is took opens = opens_last r older sealed key b is took opens

some_left : (b : Bool) (o : Option KeptRecord) → is_some (cond b None o) ≡ true → is_some o ≡ true
some_left true o is = absurd (false≢true is)
some_left false o is = is

-- The answer to the last END_SESSION.
pub opens_last_ended : (r : RspSetup) (h : History) (sealed : List ℕ) (key : Option AnswerKey) (b : Bool) → IsEndedKey r h key → is_some (ended_of h) ≡ true
    → ((older : Events) (t : Turn) → IsKeyOfTurn r older t key → b ≡ opens_to r older t sealed) → b ≡ opens_ended r h sealed
opens_last_ended r [] sealed key b is took opens = absurd (false≢true took)
opens_last_ended r (Clear tag t d ∷ older) sealed key b is took opens = opens_last_ended r older sealed key b is (some_left (takes GET_VERSION t || takes PSK_EXCHANGE t) (ended_of older) took) opens
opens_last_ended r (Sealed tag m t reply d ∷ older) sealed key b is took opens = by_end (takes END_SESSION t) (λ its some. opens_last_ended r older sealed key b its some opens) is took
  where
    by_end : (e : Bool) → (IsEndedKey r older key → is_some (ended_of older) ≡ true → b ≡ opens_ended r older sealed)
        → MatchBool e (IsKeyOfTurn r (session_of (id_in_record m) older) t key) (IsEndedKey r older key) → is_some (cond e (Some (record { sealed = m; reply = reply })) (ended_of older)) ≡ true
        → b ≡ cond e (opens_to r (session_of (id_in_record m) older) t sealed) (opens_ended r older sealed)
    by_end true before its some = opens (session_of (id_in_record m) older) t its
    by_end false before its some = before its some
opens_last_ended r (Queued bytes ∷ older) sealed key b is took opens = opens_last_ended r older sealed key b is took opens
opens_last_ended r (Ticked seconds ∷ older) sealed key b is took opens = opens_last_ended r older sealed key b is took opens
opens_last_ended r (Dropped id ∷ older) sealed key b is took opens = opens_last_ended r older sealed key b is took opens

-- ---- What a record leads to.

module _ (r : RspSetup) (g : History) (tag : ℕ) (m : List ℕ) (f : Free) (d : Draw) where
  -- Nothing changes, where it is not taken; else it is an entry.
  abbrev pub LeadsBy : Events → (taken : Bool) → Outcome → Type 0
  LeadsBy s taken o = ((after g o ≡ g) × (taken ≡ false)) ⊎ ((o ≡ Adds (sealed_entry r s f tag m d (turn_in r s f m))) × (taken ≡ true))

  by_fault : (phase : Phase) (s : Events) (o : Option RecordFault) → LeadsBy s (is_none o) (in_session_by r phase s f tag m d o)
  by_fault phase s (Some fault) = inl (refl, refl)
  by_fault phase s None = inr (refl, refl)

  by_last : (phase : Phase) (e : Event) (s : Events) (again : Bool) (kept : List ℕ) → LeadsBy (e ∷ s) (not again && opens_in r (e ∷ s) m) (cond again (Same kept) (in_session r phase (e ∷ s) f tag m d))
  unfolding in_session
  by_last phase e s true kept = inl (refl, refl)
  by_last phase e s false kept = by_fault phase (e ∷ s) (opening_fault r.psk (e ∷ s) m)

  by_session : (phase : Phase) (s : Events) → LeadsBy s (not (repeats (last_of s) m) && opens_in r s m) (to_session r phase s f tag m d)
  by_session phase [] = inl (refl, refl)
  by_session phase (e ∷ s) = by_last phase e s (repeats (last_of (e ∷ s)) m) (record_body (kept_record (last_of (e ∷ s))))

  by_ended : (ended : Bool) (kept : List ℕ) (phase : Phase) (s : Events) → LeadsBy s (is_taken_in r s ended m) (cond ended (Same kept) (to_session r phase s f tag m d))
  by_ended true kept phase s = inl (refl, refl)
  by_ended false kept phase s = by_session phase s

  pub record_leads : LeadsBy (session_of (id_in_record m) g) (is_taken_in r (session_of (id_in_record m) g) (repeats (ended_of g) m) m) (on_record r g tag m f d)
  unfolding on_record
  record_leads = by_ended (repeats (ended_of g) m) (record_body (kept_record (ended_of g))) (phase_of (clear_turns g)) (session_of (id_in_record m) g)

-- ---- Sessions that were dropped.

gone_or : (b : Bool) (x s : Events) → ((x ≡ cond b [] s) ⊎ (x ≡ [])) → (x ≡ s) ⊎ (x ≡ [])
gone_or true x s (inl is) = inr is
gone_or false x s (inl is) = inl is
gone_or b x s (inr none) = inr none

pub dropped_session : (id : ℕ) (h : History) (ids : List ℕ) → (session_of id (with_dropped h ids) ≡ session_of id h) ⊎ (session_of id (with_dropped h ids) ≡ [])
unfolding session_of
dropped_session id h [] = inl refl
dropped_session id h (x ∷ ids) = gone_or (x == id) (session_of id (with_dropped (Dropped x ∷ h) ids)) (session_of id h) (dropped_session id (Dropped x ∷ h) ids)

pub dropped_ended : (h : History) (ids : List ℕ) → ended_of (with_dropped h ids) ≡ ended_of h
dropped_ended h [] = refl
dropped_ended h (x ∷ ids) = dropped_ended (Dropped x ∷ h) ids

either_last : (r : RspSetup) (key : Option AnswerKey) (b : Bool) (x y : Events) → IsLastKey r x key → IsLastKey r y key → IsLastKey r (cond b x y) key
either_last r key true x y one two = one
either_last r key false x y one two = two

pub keys_dropped : (keys : AnswerKeys) (r : RspSetup) (h : History) (ids : List ℕ) → StandFor keys r h → StandFor keys r (with_dropped h ids)
unfolding session_of
keys_dropped keys r h [] stand = stand
keys_dropped keys r h (x ∷ ids) stand =
    keys_dropped keys r (Dropped x ∷ h) ids (record { last = λ id. either_last r (last_key keys id) (x == id) [] (session_of id h) tt (stand.last id); ended = stand.ended })

-- ---- A message in the clear.

clear_last : (r : RspSetup) (key : Option AnswerKey) (id : ℕ) (s : Events) (t : Turn) (n : Negotiation) → IsLastKey r s key → IsLastKey r (after_clear id s t n) key
clear_last r key id s t n is =
    either_last r key (takes GET_VERSION t) [] _ tt
    (either_last r key (takes PSK_EXCHANGE t) _ s
    (either_last r key (gives_id id (answer_in t.effect)) (Began n (request_in t.effect) (answer_in t.effect) ∷ []) _ tt (either_last r key (is_past_handshake (stage_of s)) s [] is tt))
    is)

pub keys_clear : (keys : AnswerKeys) (r : RspSetup) (h : History) (tag : ℕ) (t : Turn) (d : Draw) → StandFor keys r h → StandFor keys r (Clear tag t d ∷ h)
unfolding session_of
keys_clear keys r h tag t d stand = record {
  last = λ id. clear_last r (last_key keys id) id (session_of id h) t (negotiation_of (clear_turns h)) (stand.last id);
  ended = stand.ended;
}

pub keys_after_clear : (keys : AnswerKeys) (r : RspSetup) (h : History) (tag : ℕ) (m : List ℕ) (f : Free) (d : Draw) → StandFor keys r h → StandFor keys r (after h (on_clear r h tag m f d))
unfolding on_clear
keys_after_clear keys r h tag m f d stand = by_again (is_repeat (kept_of h) tag m)
  where
    by_again : (b : Bool) → StandFor keys r (after h (cond b (Same (clear_body (kept_reply (kept_of h)))) (Adds (Clear tag (turn_of r (clear_place h) m f) d))))
    by_again true = stand
    by_again false = keys_clear keys r h tag (turn_of r (clear_place h) m f) d stand

-- ---- A record that is taken.

pick_last : (r : RspSetup) (key : Option AnswerKey) (b : Bool) (x y : Events) → (b ≡ true → IsLastKey r x key) → (b ≡ false → IsLastKey r y key) → IsLastKey r (cond b x y) key
pick_last r key true x y one two = one refl
pick_last r key false x y one two = two refl

pub same_bytes : (m : List ℕ) → bytes_eq m m ≡ true
same_bytes m = (bytes_eq-Decides m m).1 refl

module _ (keys new : AnswerKeys) (r : RspSetup) (g : History) (tag : ℕ) (m : List ℕ) (t : Turn) (reply : List ℕ) (d : Draw) (key : AnswerKey) (stand : StandFor keys r g) where
  abbrev id : ℕ
  id = id_in_record m

  abbrev h : History
  h = Sealed tag m t reply d ∷ g

  last_when : ((i : ℕ) → (id == i) ≡ true → IsLastKey r (after_record (session_of i g) m t reply) (last_key new i)) → ((i : ℕ) → (id == i) ≡ false → last_key new i ≡ last_key keys i)
      → (i : ℕ) → IsLastKey r (session_of i h) (last_key new i)
  unfolding session_of
  last_when own others i =
      pick_last r (last_key new i) (id == i) (after_record (session_of i g) m t reply) (session_of i g) (own i) (λ other. subst (IsLastKey r (session_of i g)) (sym (others i other)) (stand.last i))

  -- END_SESSION: its key is kept, and its session is gone.
  pub ended_kept : takes END_SESSION t ≡ true → IsKeyOfReply key r.psk (session_of id g) t → new.ended ≡ Some key → ((i : ℕ) → last_key new i ≡ last_key keys i) → StandFor new r h
  ended_kept ends its is same = record {
    last = last_when (λ i own. subst (λ (b : Bool). IsLastKey r (cond b [] (when_live (session_of i g) (Heard m t reply))) (last_key new i)) (sym ends) tt) (λ i other. same i);
    ended = subst (λ (b : Bool). MatchBool b (IsKeyOfTurn r (session_of id g) t new.ended) (IsEndedKey r g new.ended)) (sym ends) (subst (IsKeyOfTurn r (session_of id g) t) (sym is) its);
  }

  -- Any other: its key is that of the last record of its session.
  live_last : (s : Events) (k : Option AnswerKey) → is_live s ≡ true → IsKeyOfTurn r s t k → IsLastKey r (when_live s (Heard m t reply)) k
  live_last [] k live its = absurd (false≢true live)
  live_last (e ∷ s) k live its = its

  pub last_kept : takes END_SESSION t ≡ false → is_live (session_of id g) ≡ true → IsKeyOfReply key r.psk (session_of id g) t → last_key new id ≡ Some key
      → ((i : ℕ) → i ≢ id → last_key new i ≡ last_key keys i) → new.ended ≡ keys.ended → StandFor new r h
  last_kept ends live its is same old = record {
    last = last_when own (λ i other. same i (λ e. false≢true (sym other ∙ ap (λ (n : ℕ). id == n) e ∙ self id)));
    ended = subst (λ (b : Bool). MatchBool b (IsKeyOfTurn r (session_of id g) t new.ended) (IsEndedKey r g new.ended)) (sym ends) (subst (IsEndedKey r g) (sym old) stand.ended);
  }
    where
      self : (n : ℕ) → (n == n) ≡ true
      self n = grind (arith, nat_tests)

      mine : IsLastKey r (after_record (session_of id g) m t reply) (last_key new id)
      mine =
          subst (λ (b : Bool). IsLastKey r (cond b [] (when_live (session_of id g) (Heard m t reply))) (last_key new id)) (sym ends)
          (live_last (session_of id g) (last_key new id) live (subst (IsKeyOfTurn r (session_of id g) t) (sym is) its))

      own : (i : ℕ) → (id == i) ≡ true → IsLastKey r (after_record (session_of i g) m t reply) (last_key new i)
      own i at = subst (λ (n : ℕ). IsLastKey r (after_record (session_of n g) m t reply) (last_key new n)) (eqb-true id i at) mine
