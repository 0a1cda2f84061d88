-- The keys of answers that are kept of a history are those of it with some bytes as a large response that was not seen
-- in a session; and its sessions are shown alike.
use Rattle.std.proofs.Common.{◌≡◌, ℕ, List, [], ◌∷◌, refl, sym, ap, subst, Bool, true, false, Option, Some, None, cond}
use Rattle.std.specs.Prelude.{MatchBool}
use Rattle.key_schedule.specs.Purpose.{Purpose}
use Rattle.check_responder.specs.AnswerKeys.{IsEndedKey, IsKeyOfTurn, IsLastKey, StandFor, last_key}
use Rattle.check_responder.specs.declared.answer_keys.AnswerKeys.{AnswerKeys}
use Rattle.check_laws.specs.Changes.{shown, views_in}
use Rattle.responder_machine.specs.Heard.{view_of}
use Rattle.responder_machine.specs.History.{Entry, History}
use Rattle.responder_machine.specs.History.Entry.{Clear, Sealed, Queued, Ticked, Dropped}
use Rattle.responder_machine.specs.Session.{Events, id_bytes, id_in_record, session_of, session_terms}
use Rattle.responder_machine.specs.Session.Event.{Began, Heard, Waited}
use Rattle.responder_machine.specs.Setup.{RspSetup}
use Rattle.responder_machine.specs.Turn.{Turn, takes, updates}
use Rattle.responder_session.specs.OwnAnswers.{IsAnswerKey}
use Rattle.responder_session.specs.declared.answer_key.AnswerKey.{AnswerKey}
use Rattle.spdm_grammar.specs.declared.messages.choice.Choice.{Choice}
use Rattle.spdm_grammar.specs.declared.names.request_code.TheConstants.{END_SESSION}
use Rattle.capture_machine.proofs.FetchedSessions.{takes_with}
use Rattle.capture_machine.proofs.UnseenStands.{UnseenStand}
use Rattle.capture_machine.specs.LargeAnswers.{handle_shown, is_unseen_in, seen, seen_turn, with_large}
use Rattle.check_late_laws.proofs.Late.SeenAlike.{SeenAlike, answer_alike, answered, epoch_alike, exchange_alike, finish_alike, finish_answer_alike, negotiation_alike, number_alike, response_epoch_alike, response_number_alike, same_backwards, stage_alike, taken_alike}
use Rattle.check_late_laws.proofs.Late.SeenAlike.SeenAlike.{NoEvent, Behind, Here}
use Rattle.check_late_laws.proofs.Late.SeenOpens.{number_by, one_key, purpose_by, updates_with}
use Rattle.check_late_laws.proofs.Late.SeenSessions.{seen_alike}

-- ---- A key.

abbrev IsKeyBy : AnswerKey → List ℕ → Events → Bool → Type 0
IsKeyBy key psk s b = IsAnswerKey key (session_terms s).choice (purpose_by psk s b) (number_by s b) (id_bytes s)

key_by : (key : AnswerKey) (psk : List ℕ) (s u : Events) (b : Bool) → SeenAlike s u → IsKeyBy key psk s b → IsKeyBy key psk u b
key_by key psk s u b a is =
    let one = one_key psk s u b a in
    subst (λ (l : List ℕ). IsAnswerKey key (session_terms u).choice (purpose_by psk u b) (number_by u b) l) one.id
    (subst (λ (n : ℕ). IsAnswerKey key (session_terms u).choice (purpose_by psk u b) n (id_bytes s)) one.number
    (subst (λ (p : Purpose). IsAnswerKey key (session_terms u).choice p (number_by s b) (id_bytes s)) one.purpose
    (subst (λ (c : Choice). IsAnswerKey key c (purpose_by psk s b) (number_by s b) (id_bytes s)) one.choice is)))

turn_key : (r : RspSetup) (s u : Events) (t k : Turn) (key : Option AnswerKey) → updates 2 t ≡ updates 2 k → SeenAlike s u → IsKeyOfTurn r s t key → IsKeyOfTurn r u k key
turn_key r s u t k None same a is = absurd is
turn_key r s u t k (Some key) same a is = subst (λ (b : Bool). IsKeyBy key r.psk u b) same (key_by key r.psk s u (updates 2 t) a is)

last_alike : (r : RspSetup) (s u : Events) (key : Option AnswerKey) → SeenAlike s u → IsLastKey r s key → IsLastKey r u key
last_alike r _ _ key NoEvent is = tt
last_alike r _ _ key (Behind (Began n x y) s u a) is = last_alike r s u key a is
last_alike r _ _ key (Behind (Waited n) s u a) is = last_alike r s u key a is
last_alike r _ _ key (Behind (Heard m t reply) s u a) is = turn_key r s u t t key refl a is
last_alike r _ _ key (Here m t x n large other w v reply s u not a) is = turn_key r s u (answered t x n large w) (answered t x n other v) key refl a is

-- ---- Those of a history.

module _ (r : RspSetup) (which : ℕ) (w : List ℕ) (key : Option AnswerKey) where
  abbrev given : History → History
  given h = with_large (Some which) w h

  abbrev Both : History → History → Type 0
  Both h k = (IsEndedKey r h key → IsEndedKey r k key) × (IsEndedKey r k key → IsEndedKey r h key)

  by_end : (b c : Bool) (s u : Events) (t k : Turn) (h l : History) → b ≡ c → updates 2 t ≡ updates 2 k → SeenAlike s u → Both h l
      → MatchBool b (IsKeyOfTurn r s t key) (IsEndedKey r h key) → MatchBool c (IsKeyOfTurn r u k key) (IsEndedKey r l key)
  by_end true true s u t k h l one same a both is = turn_key r s u t k key same a is
  by_end false false s u t k h l one same a both is = both.0 is
  by_end true false s u t k h l one same a both is = absurd (let x = one in cc)
  by_end false true s u t k h l one same a both is = absurd (let x = one in cc)

  same_both : (h : History) → Both h h
  same_both h = (λ is. is, λ is. is)

  behind : (e : Entry) (h : History) → UnseenStand h → Both (given h) h → Both (e ∷ given h) (e ∷ h)
  behind (Sealed tag m t reply d) h none both =
      let a = seen_alike (id_in_record m) which w h none in (
        by_end (takes END_SESSION t) (takes END_SESSION t) (session_of (id_in_record m) (given h)) (session_of (id_in_record m) h) t t (given h) h refl refl a both,
        by_end (takes END_SESSION t) (takes END_SESSION t) (session_of (id_in_record m) h) (session_of (id_in_record m) (given h)) t t h (given h) refl refl (same_backwards _ _ a) (both.1, both.0),
      )
  behind (Clear tag t d) h none both = both
  behind (Queued bytes) h none both = both
  behind (Ticked seconds) h none both = both
  behind (Dropped id) h none both = both

  here : (e : Entry) (h : History) → UnseenStand h → Both (seen w e ∷ h) (e ∷ h)
  here (Sealed tag m t reply d) h none =
      let s : Events = session_of (id_in_record m) h in
      let a : SeenAlike s s = events_same s in (
        by_end (takes END_SESSION (seen_turn w t)) (takes END_SESSION t) s s (seen_turn w t) t h h (takes_with w (Some (handle_shown t)) END_SESSION t) (updates_with w t) a (same_both h),
        by_end (takes END_SESSION t) (takes END_SESSION (seen_turn w t)) s s t (seen_turn w t) h h (sym (takes_with w (Some (handle_shown t)) END_SESSION t)) (sym (updates_with w t)) a (same_both h),
      )
    where
      events_same : (s : Events) → SeenAlike s s
      events_same [] = NoEvent
      events_same (e ∷ s) = Behind e s s (events_same s)
  here (Clear tag t d) h none = same_both (Clear tag t d ∷ h)
  here (Queued bytes) h none = same_both (Queued bytes ∷ h)
  here (Ticked seconds) h none = same_both (Ticked seconds ∷ h)
  here (Dropped id) h none = same_both (Dropped id ∷ h)

  by_place : (e : Entry) (h : History) (b : Bool) → UnseenStand h → Both (given h) h → Both (cond b (seen w e ∷ h) (e ∷ given h)) (e ∷ h)
  by_place e h true none both = here e h none
  by_place e h false none both = behind e h none both

  ended_both : (h : History) → UnseenStand h → Both (given h) h
  ended_both [] none = same_both []
  ended_both (e ∷ h) none = by_place e h (is_unseen_in (Some which) e) none.1 (ended_both h none.1)

module _ (keys : AnswerKeys) (r : RspSetup) (which : ℕ) (w : List ℕ) (h : History) (none : UnseenStand h) where
  pub keys_given : StandFor keys r h → StandFor keys r (with_large (Some which) w h)
  keys_given stand = record {
    last = λ id. last_alike r (session_of id h) (session_of id (with_large (Some which) w h)) (last_key keys id) (same_backwards _ _ (seen_alike id which w h none)) (stand.last id);
    ended = (ended_both r which w keys.ended h none).1 stand.ended;
  }

  pub keys_unseen : StandFor keys r (with_large (Some which) w h) → StandFor keys r h
  keys_unseen stand = record {
    last = λ id. last_alike r (session_of id (with_large (Some which) w h)) (session_of id h) (last_key keys id) (seen_alike id which w h none) (stand.last id);
    ended = (ended_both r which w keys.ended h none).0 stand.ended;
  }

-- ---- How they are shown.

view_alike : (s u : Events) → SeenAlike s u → view_of s ≡ view_of u
unfolding view_of
view_alike s u a =
    let negotiation = negotiation_alike s u a in
    let exchange = exchange_alike s u a in
    let answer = answer_alike s u a in
    let stage = stage_alike s u a in
    let request = epoch_alike s u a in
    let epoch = response_epoch_alike s u a in
    let next = number_alike s u a in
    let number = response_number_alike s u a in
    let taken = taken_alike s u a in
    let finish = finish_alike s u a in
    let finished = finish_answer_alike s u a in
    cc

shown_alike : (s u : Events) → SeenAlike s u → shown s ≡ shown u
shown_alike _ _ NoEvent = refl
shown_alike _ _ (Behind e s u a) = ap Some (view_alike (e ∷ s) (e ∷ u) (Behind e s u a))
shown_alike _ _ (Here m t x n large other w v reply s u not a) = ap Some (view_alike _ _ (Here m t x n large other w v reply s u not a))

pub views_alike : (which : ℕ) (w : List ℕ) (h : History) → UnseenStand h → views_in (with_large (Some which) w h) ≡ views_in h
views_alike which w h none =
    let at : (id : ℕ) → shown (session_of id (with_large (Some which) w h)) ≡ shown (session_of id h) = λ id. shown_alike _ _ (seen_alike id which w h none) in
    λ i. at 1 i ∷ at 2 i ∷ at 3 i ∷ at 4 i ∷ []
