-- Other bytes as the large response that is fetched in a session: the history of the definitions with them.
use Rattle.std.proofs.Common.{◌≡◌, ◌≢◌, ◌==◌, ◌&&◌, ◌||◌, ℕ, List, [], ◌∷◌, refl, sym, ap, ◌∙◌, subst, Bool, true, false, Some, None, cond}
use Rattle.std.specs.Prelude.{bytes_eq, not}
use Rattle.std.proofs.lemmas.Bool.{false≢true}
use Rattle.std.proofs.lemmas.Slice.Eq.{bytes_eq-Decides}
use Rattle.std.proofs.lemmas.Option.{none-some, same_Some}
use Rattle.responder_core.specs.Pending.{history_unseen, history_with, passes}
use Rattle.responder_rules.specs.LargeAnswer as rules
use Rattle.responder_machine.specs.History.{Entry, History, clear_turns, negotiation_of}
use Rattle.responder_machine.specs.History.Entry.{Clear, Sealed, Queued, Ticked, Dropped}
use Rattle.responder_machine.specs.LargeMessages.{large_of}
use Rattle.responder_machine.specs.Session.{Events, after_clear, after_record, id_in_record, is_timed, session_of, stage_of, turns_of, when_live, gives_id}
use Rattle.responder_machine.specs.Session.Event.{Began, Heard, Waited}
use Rattle.responder_machine.specs.Turn.{Effect, Turn, answer_in, is_taken, large_in, request_in, takes}
use Rattle.responder_machine.specs.Turn.Effect.{NoEffect, Took, TookData}
use Rattle.spdm_basis.proofs.Bools.{and_first, and_second}
use Rattle.spdm_grammar.specs.declared.names.request_code.TheConstants.{CHUNK_GET, END_SESSION, GET_VERSION, PSK_EXCHANGE}
use Rattle.spdm_machine.specs.Keys.{Draw}
use Rattle.spdm_machine.specs.Sessions.{id_in_exchange, is_past_handshake}
use Rattle.transcript.specs.Transcripts.{Negotiation}
use Rattle.capture_machine.proofs.FetchedSessions.{takes_with}
use Rattle.capture_machine.specs.LargeAnswers.{effect_with, handle_shown, is_unseen_effect, is_unseen_in, seen, seen_turn, with_large}

-- ---- What is pending in a session, without its newest entry.

-- These bytes are the large response of the session.
abbrev pub IsLargeOf : (id : ℕ) → History → List ℕ → Type 0
IsLargeOf id g w = large_of (turns_of (session_of id g)) ≡ Some w

abbrev HasLarge : Events → List ℕ → Type 0
HasLarge s w = large_of (turns_of s) ≡ Some w

none_large : {A : Type 0} (w : List ℕ) → HasLarge [] w → A
none_large w is = absurd (none-some w is)

cond_large : (b : Bool) (s : Events) (w : List ℕ) → HasLarge (cond b [] s) w → HasLarge s w
cond_large true s w is = none_large w is
cond_large false s w is = is

kept_large : (b : Bool) (s : Events) (w : List ℕ) → HasLarge (cond b s []) w → HasLarge s w
kept_large true s w is = is
kept_large false s w is = none_large w is

began_large : (b : Bool) (n : Negotiation) (x y : List ℕ) (s : Events) (w : List ℕ) → HasLarge (cond b (Began n x y ∷ []) s) w → HasLarge s w
began_large true n x y s w is = absurd (none-some w is)
began_large false n x y s w is = is

clear_large : (id : ℕ) (s : Events) (t : Turn) (n : Negotiation) (w : List ℕ) → HasLarge (after_clear id s t n) w → HasLarge s w
clear_large id s t n w is =
    by_exchange (takes PSK_EXCHANGE t) (cond_large (takes GET_VERSION t) _ w is)
  where
    by_exchange : (b : Bool)
        → HasLarge (cond b (cond (gives_id id (answer_in t.effect)) (Began n (request_in t.effect) (answer_in t.effect) ∷ []) (cond (is_past_handshake (stage_of s)) s [])) s) w → HasLarge s w
    by_exchange true is = kept_large (is_past_handshake (stage_of s)) s w (began_large (gives_id id (answer_in t.effect)) n _ _ _ w is)
    by_exchange false is = is

waited_large : (b c : Bool) (seconds : ℕ) (s : Events) (w : List ℕ) → HasLarge (cond b s (cond c [] (Waited seconds ∷ s))) w → HasLarge s w
waited_large true c seconds s w is = is
waited_large false true seconds s w is = none_large w is
waited_large false false seconds s w is = is

live_large : (s : Events) (m : List ℕ) (t : Turn) (reply w : List ℕ) → HasLarge (when_live s (Heard m t reply)) w → large_of (t ∷ turns_of s) ≡ Some w
live_large [] m t reply w is = absurd (none-some w is)
live_large (e ∷ s) m t reply w is = is

-- It came to another place.
abbrev IsOther : (id : ℕ) → Entry → Type 0
IsOther id (Sealed tag m t reply d) = (id_in_record m == id) ≡ false
IsOther id _ = Unit {0}

other_behind : (id : ℕ) (e : Entry) (g : History) (w : List ℕ) → IsOther id e → IsLargeOf id (e ∷ g) w → IsLargeOf id g w
unfolding session_of
other_behind id (Clear tag t d) g w other is = clear_large id (session_of id g) t (negotiation_of (clear_turns g)) w is
other_behind id (Sealed tag m t reply d) g w other is = subst (λ (b : Bool). HasLarge (cond b (after_record (session_of id g) m t reply) (session_of id g)) w) other is
other_behind id (Queued bytes) g w other is = is
other_behind id (Ticked seconds) g w other is = waited_large (not (is_timed (session_of id g))) _ seconds (session_of id g) w is
other_behind id (Dropped which) g w other is = cond_large (which == id) (session_of id g) w is

own_behind : (id tag : ℕ) (m : List ℕ) (t : Turn) (reply : List ℕ) (d : Draw) (g : History) (w : List ℕ) → (id_in_record m == id) ≡ true → IsLargeOf id (Sealed tag m t reply d ∷ g) w → large_of (t ∷ turns_of (session_of id g)) ≡ Some w
unfolding session_of
own_behind id tag m t reply d g w own is =
    let here : HasLarge (after_record (session_of id g) m t reply) w = subst (λ (b : Bool). HasLarge (cond b (after_record (session_of id g) m t reply) (session_of id g)) w) own is in
    live_large (session_of id g) m t reply w (cond_large (takes END_SESSION t) (when_live (session_of id g) (Heard m t reply)) w here)

-- What it is after a turn.
passed_large : (t : Turn) (ts : List Turn) (w : List ℕ) → passes t ≡ true → large_of (t ∷ ts) ≡ Some w → large_of ts ≡ Some w
passed_large t ts w is large = sym (ap (λ (b : Bool). cond b (large_of ts) (large_in t.effect)) is) ∙ large

held_large : (t : Turn) (ts : List Turn) (w : List ℕ) → passes t ≡ false → large_of (t ∷ ts) ≡ Some w → large_in t.effect ≡ Some w
held_large t ts w is large = sym (ap (λ (b : Bool). cond b (large_of ts) (large_in t.effect)) is) ∙ large

-- ---- The same bytes.

effect_same : (e : Effect) (w : List ℕ) → large_in e ≡ Some w → rules.effect_with w e ≡ e
effect_same NoEffect w is = refl
effect_same (Took a m answer None) w is = absurd (none-some w is)
effect_same (Took a m answer (Some handle)) w is = ap (λ (l : List ℕ). Took a m l (Some handle)) (sym (same_Some answer w is))
effect_same (TookData bytes answer) w is = refl

module _ (id tag : ℕ) (m : List ℕ) (t : Turn) (reply : List ℕ) (d : Draw) (w : List ℕ) (g : History) where
  same_by : (b c : Bool) → (id_in_record m == id) ≡ b → passes t ≡ c → IsLargeOf id (Sealed tag m t reply d ∷ g) w → (IsLargeOf id g w → history_with id w g ≡ g)
      → cond (b && not c) (Sealed tag m (rules.turn_with w t) reply d ∷ g) (Sealed tag m t reply d ∷ history_with id w g) ≡ Sealed tag m t reply d ∷ g
  same_by false c own pass is rest = ap (λ (l : History). Sealed tag m t reply d ∷ l) (rest (other_behind id (Sealed tag m t reply d) g w own is))
  same_by true true own pass is rest = ap (λ (l : History). Sealed tag m t reply d ∷ l) (rest (passed_large t (turns_of (session_of id g)) w pass (own_behind id tag m t reply d g w own is)))
  same_by true false own pass is rest =
      ap (λ (x : Effect). Sealed tag m (record t { effect = x }) reply d ∷ g) (effect_same t.effect w (held_large t (turns_of (session_of id g)) w pass (own_behind id tag m t reply d g w own is)))

same_put : (id : ℕ) (w : List ℕ) (g : History) → IsLargeOf id g w → history_with id w g ≡ g
same_put id w [] is = refl
same_put id w (Clear tag t d ∷ g) is = ap (λ (l : History). Clear tag t d ∷ l) (same_put id w g (other_behind id (Clear tag t d) g w tt is))
same_put id w (Queued bytes ∷ g) is = ap (λ (l : History). Queued bytes ∷ l) (same_put id w g (other_behind id (Queued bytes) g w tt is))
same_put id w (Ticked seconds ∷ g) is = ap (λ (l : History). Ticked seconds ∷ l) (same_put id w g (other_behind id (Ticked seconds) g w tt is))
same_put id w (Dropped which ∷ g) is = ap (λ (l : History). Dropped which ∷ l) (same_put id w g (other_behind id (Dropped which) g w tt is))
same_put id w (Sealed tag m t reply d ∷ g) is = same_by id tag m t reply d w g (id_in_record m == id) (passes t) refl refl is (same_put id w g)

-- ---- Other bytes.

-- Both are the large response of the session, each in its history; so it is the one that was not seen.
abbrev AreBoth : (id : ℕ) → (w v : List ℕ) → History → Type 0
AreBoth id w v h = IsLargeOf id (with_large (Some id) w h) w × IsLargeOf id (with_large (Some id) v h) v

effect_put : (e : Effect) (w v : List ℕ) (n : ℕ) → rules.effect_with v (effect_with w (Some n) e) ≡ effect_with v (Some n) e
effect_put NoEffect w v n = refl
effect_put (Took a m answer large) w v n = refl
effect_put (TookData bytes answer) w v n = refl

module _ (id : ℕ) (w v : List ℕ) (apart : w ≢ v) where
  module _ (tag : ℕ) (m : List ℕ) (t : Turn) (reply : List ℕ) (d : Draw) (h : History) where
    abbrev before : History
    before = with_large (Some id) w h

    abbrev behind : History
    behind = with_large (Some id) v h

    -- The one that was not seen.
    unseen_by : (c : Bool) → (id_in_record m == id) ≡ true → passes (seen_turn w t) ≡ c → passes (seen_turn v t) ≡ c
        → IsLargeOf id (Sealed tag m (seen_turn w t) reply d ∷ h) w → IsLargeOf id (Sealed tag m (seen_turn v t) reply d ∷ h) v
        → cond (true && not c) (Sealed tag m (rules.turn_with v (seen_turn w t)) reply d ∷ h) (Sealed tag m (seen_turn w t) reply d ∷ history_with id v h) ≡ Sealed tag m (seen_turn v t) reply d ∷ h
    unseen_by true own one other is are =
        let ts : List Turn = turns_of (session_of id h) in
        absurd (apart (same_Some w v (sym (passed_large (seen_turn w t) ts w one (own_behind id tag m (seen_turn w t) reply d h w own is)) ∙ passed_large (seen_turn v t) ts v other (own_behind id tag m (seen_turn v t) reply d h v own are))))
    unseen_by false own one other is are = ap (λ (x : Effect). Sealed tag m (record t { effect = x }) reply d ∷ h) (effect_put t.effect w v (handle_shown t))

    -- One that was seen.
    seen_by : (b c : Bool) → (id_in_record m == id) ≡ b → passes t ≡ c → IsLargeOf id (Sealed tag m t reply d ∷ before) w → IsLargeOf id (Sealed tag m t reply d ∷ behind) v → (AreBoth id w v h → history_with id v before ≡ behind)
        → cond (b && not c) (Sealed tag m (rules.turn_with v t) reply d ∷ before) (Sealed tag m t reply d ∷ history_with id v before) ≡ Sealed tag m t reply d ∷ behind
    seen_by false c own pass is are rest =
        ap (λ (l : History). Sealed tag m t reply d ∷ l) (rest (other_behind id (Sealed tag m t reply d) before w own is, other_behind id (Sealed tag m t reply d) behind v own are))
    seen_by true true own pass is are rest =
        ap (λ (l : History). Sealed tag m t reply d ∷ l)
        (rest (passed_large t (turns_of (session_of id before)) w pass (own_behind id tag m t reply d before w own is), passed_large t (turns_of (session_of id behind)) v pass (own_behind id tag m t reply d behind v own are)))
    seen_by true false own pass is are rest =
        absurd (apart (same_Some w v (sym (held_large t (turns_of (session_of id before)) w pass (own_behind id tag m t reply d before w own is)) ∙ held_large t (turns_of (session_of id behind)) v pass (own_behind id tag m t reply d behind v own are))))

    -- CHUNK_GET passes, whatever its bytes.
    passes_same : passes (seen_turn v t) ≡ passes (seen_turn w t)
    passes_same = ap (λ (b : Bool). not (is_taken t) || b) (takes_with v (Some (handle_shown t)) CHUNK_GET t ∙ sym (takes_with w (Some (handle_shown t)) CHUNK_GET t))

    sealed_by : (b : Bool) → is_unseen_in (Some id) (Sealed tag m t reply d) ≡ b → (AreBoth id w v h → history_with id v before ≡ behind)
        → IsLargeOf id (cond b (seen w (Sealed tag m t reply d) ∷ h) (Sealed tag m t reply d ∷ before)) w → IsLargeOf id (cond b (seen v (Sealed tag m t reply d) ∷ h) (Sealed tag m t reply d ∷ behind)) v
        → history_with id v (cond b (seen w (Sealed tag m t reply d) ∷ h) (Sealed tag m t reply d ∷ before)) ≡ cond b (seen v (Sealed tag m t reply d) ∷ h) (Sealed tag m t reply d ∷ behind)
    sealed_by true unseen rest is are =
        let own : (id_in_record m == id) ≡ true = and_first _ _ unseen in
        ap (λ (b : Bool). cond (b && not (passes (seen_turn w t))) (Sealed tag m (rules.turn_with v (seen_turn w t)) reply d ∷ h) (Sealed tag m (seen_turn w t) reply d ∷ history_with id v h)) own
        ∙ unseen_by (passes (seen_turn w t)) own refl passes_same is are
    sealed_by false unseen rest is are = seen_by (id_in_record m == id) (passes t) refl refl is are rest

  put_apart : (h : History) → AreBoth id w v h → history_with id v (with_large (Some id) w h) ≡ with_large (Some id) v h
  put_apart [] both = refl
  put_apart (Clear tag t d ∷ h) both =
      ap (λ (l : History). Clear tag t d ∷ l) (put_apart h (other_behind id (Clear tag t d) (with_large (Some id) w h) w tt both.0, other_behind id (Clear tag t d) (with_large (Some id) v h) v tt both.1))
  put_apart (Queued bytes ∷ h) both =
      ap (λ (l : History). Queued bytes ∷ l) (put_apart h (other_behind id (Queued bytes) (with_large (Some id) w h) w tt both.0, other_behind id (Queued bytes) (with_large (Some id) v h) v tt both.1))
  put_apart (Ticked seconds ∷ h) both =
      ap (λ (l : History). Ticked seconds ∷ l) (put_apart h (other_behind id (Ticked seconds) (with_large (Some id) w h) w tt both.0, other_behind id (Ticked seconds) (with_large (Some id) v h) v tt both.1))
  put_apart (Dropped which ∷ h) both =
      ap (λ (l : History). Dropped which ∷ l) (put_apart h (other_behind id (Dropped which) (with_large (Some id) w h) w tt both.0, other_behind id (Dropped which) (with_large (Some id) v h) v tt both.1))
  put_apart (Sealed tag m t reply d ∷ h) both = sealed_by tag m t reply d h (is_unseen_in (Some id) (Sealed tag m t reply d)) refl (put_apart h) both.0 both.1

pub put_is : (id : ℕ) (w v : List ℕ) (h : History) → AreBoth id w v h → history_with id v (with_large (Some id) w h) ≡ with_large (Some id) v h
put_is id w v h both = by_same (bytes_eq w v) refl
  where
    by_same : (b : Bool) → bytes_eq w v ≡ b → history_with id v (with_large (Some id) w h) ≡ with_large (Some id) v h
    by_same true is =
        let same : w ≡ v = (bytes_eq-Decides w v).0 is in
        ap (λ (l : List ℕ). history_with id v (with_large (Some id) l h)) same ∙ same_put id v (with_large (Some id) v h) both.1
    by_same false is = put_apart id w v (λ same. false≢true (sym is ∙ (bytes_eq-Decides w v).1 same)) h both

-- ---- No bytes.

effect_back : (e : Effect) (w : List ℕ) (n : ℕ) → is_unseen_effect e ≡ true → rules.effect_unseen (effect_with w (Some n) e) ≡ e
effect_back NoEffect w n is = absurd (false≢true is)
effect_back (Took a m [] None) w n is = refl
effect_back (Took a m (x ∷ l) None) w n is = absurd (false≢true is)
effect_back (Took a m [] (Some k)) w n is = absurd (false≢true is)
effect_back (Took a m (x ∷ l) (Some k)) w n is = absurd (false≢true is)
effect_back (TookData bytes answer) w n is = absurd (false≢true is)

module _ (id : ℕ) (w v : List ℕ) (apart : w ≢ v) where
  module _ (tag : ℕ) (m : List ℕ) (t : Turn) (reply : List ℕ) (d : Draw) (h : History) where
    abbrev with_bytes : History
    with_bytes = with_large (Some id) w h

    abbrev with_other : History
    with_other = with_large (Some id) v h

    -- The one that was not seen.
    back_by : (c : Bool) → (id_in_record m == id) ≡ true → is_unseen_effect t.effect ≡ true → passes (seen_turn w t) ≡ c → passes (seen_turn v t) ≡ c
        → IsLargeOf id (Sealed tag m (seen_turn w t) reply d ∷ h) w → IsLargeOf id (Sealed tag m (seen_turn v t) reply d ∷ h) v
        → cond (true && not c) (Sealed tag m (rules.turn_unseen (seen_turn w t)) reply d ∷ h) (Sealed tag m (seen_turn w t) reply d ∷ history_unseen id h) ≡ Sealed tag m t reply d ∷ h
    back_by true own unseen one other is are =
        let ts : List Turn = turns_of (session_of id h) in
        absurd (apart (same_Some w v (sym (passed_large (seen_turn w t) ts w one (own_behind id tag m (seen_turn w t) reply d h w own is)) ∙ passed_large (seen_turn v t) ts v other (own_behind id tag m (seen_turn v t) reply d h v own are))))
    back_by false own unseen one other is are = ap (λ (x : Effect). Sealed tag m (record t { effect = x }) reply d ∷ h) (effect_back t.effect w (handle_shown t) unseen)

    -- One that was seen.
    stays_by : (b c : Bool) → (id_in_record m == id) ≡ b → passes t ≡ c → IsLargeOf id (Sealed tag m t reply d ∷ with_bytes) w → IsLargeOf id (Sealed tag m t reply d ∷ with_other) v → (AreBoth id w v h → history_unseen id with_bytes ≡ h)
        → cond (b && not c) (Sealed tag m (rules.turn_unseen t) reply d ∷ with_bytes) (Sealed tag m t reply d ∷ history_unseen id with_bytes) ≡ Sealed tag m t reply d ∷ h
    stays_by false c own pass is are rest =
        ap (λ (l : History). Sealed tag m t reply d ∷ l) (rest (other_behind id (Sealed tag m t reply d) with_bytes w own is, other_behind id (Sealed tag m t reply d) with_other v own are))
    stays_by true true own pass is are rest =
        ap (λ (l : History). Sealed tag m t reply d ∷ l)
        (rest (passed_large t (turns_of (session_of id with_bytes)) w pass (own_behind id tag m t reply d with_bytes w own is), passed_large t (turns_of (session_of id with_other)) v pass (own_behind id tag m t reply d with_other v own are)))
    stays_by true false own pass is are rest =
        absurd (apart (same_Some w v (sym (held_large t (turns_of (session_of id with_bytes)) w pass (own_behind id tag m t reply d with_bytes w own is)) ∙ held_large t (turns_of (session_of id with_other)) v pass (own_behind id tag m t reply d with_other v own are))))

    -- CHUNK_GET passes, whatever its bytes.
    passes_both : passes (seen_turn v t) ≡ passes (seen_turn w t)
    passes_both = ap (λ (b : Bool). not (is_taken t) || b) (takes_with v (Some (handle_shown t)) CHUNK_GET t ∙ sym (takes_with w (Some (handle_shown t)) CHUNK_GET t))

    forgot_by : (b : Bool) → is_unseen_in (Some id) (Sealed tag m t reply d) ≡ b → (AreBoth id w v h → history_unseen id with_bytes ≡ h)
        → IsLargeOf id (cond b (seen w (Sealed tag m t reply d) ∷ h) (Sealed tag m t reply d ∷ with_bytes)) w → IsLargeOf id (cond b (seen v (Sealed tag m t reply d) ∷ h) (Sealed tag m t reply d ∷ with_other)) v
        → history_unseen id (cond b (seen w (Sealed tag m t reply d) ∷ h) (Sealed tag m t reply d ∷ with_bytes)) ≡ Sealed tag m t reply d ∷ h
    forgot_by true unseen rest is are =
        let own : (id_in_record m == id) ≡ true = and_first _ _ unseen in
        ap (λ (b : Bool). cond (b && not (passes (seen_turn w t))) (Sealed tag m (rules.turn_unseen (seen_turn w t)) reply d ∷ h) (Sealed tag m (seen_turn w t) reply d ∷ history_unseen id h)) own
        ∙ back_by (passes (seen_turn w t)) own (and_second _ _ unseen) refl passes_both is are
    forgot_by false unseen rest is are = stays_by (id_in_record m == id) (passes t) refl refl is are rest

  -- So it is the history in which that answer was not seen.
  pub forgotten_is : (h : History) → AreBoth id w v h → history_unseen id (with_large (Some id) w h) ≡ h
  forgotten_is [] both = refl
  forgotten_is (Clear tag t d ∷ h) both =
      ap (λ (l : History). Clear tag t d ∷ l) (forgotten_is h (other_behind id (Clear tag t d) (with_large (Some id) w h) w tt both.0, other_behind id (Clear tag t d) (with_large (Some id) v h) v tt both.1))
  forgotten_is (Queued bytes ∷ h) both =
      ap (λ (l : History). Queued bytes ∷ l) (forgotten_is h (other_behind id (Queued bytes) (with_large (Some id) w h) w tt both.0, other_behind id (Queued bytes) (with_large (Some id) v h) v tt both.1))
  forgotten_is (Ticked seconds ∷ h) both =
      ap (λ (l : History). Ticked seconds ∷ l) (forgotten_is h (other_behind id (Ticked seconds) (with_large (Some id) w h) w tt both.0, other_behind id (Ticked seconds) (with_large (Some id) v h) v tt both.1))
  forgotten_is (Dropped which ∷ h) both =
      ap (λ (l : History). Dropped which ∷ l) (forgotten_is h (other_behind id (Dropped which) (with_large (Some id) w h) w tt both.0, other_behind id (Dropped which) (with_large (Some id) v h) v tt both.1))
  forgotten_is (Sealed tag m t reply d ∷ h) both = forgot_by tag m t reply d h (is_unseen_in (Some id) (Sealed tag m t reply d)) refl (forgotten_is h) both.0 both.1
