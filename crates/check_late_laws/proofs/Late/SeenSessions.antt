-- The sessions of a history with some bytes as a large response that was not seen in a session, and without.
use Rattle.std.proofs.Common.{◌≡◌, ◌+◌, ◌*◌, ◌==◌, ℕ, List, [], ◌∷◌, refl, sym, ap, ◌∙◌, subst, Bool, true, false, Option, Some, cond}
use Rattle.std.specs.Prelude.{not, nat_le, slice_index}
use Rattle.std.proofs.lemmas.Bool.{false≢true}
use Rattle.spdm_basis.proofs.Bools.{and_second}
use Rattle.spdm_grammar.specs.Message.{RequestMessage}
use Rattle.spdm_grammar.specs.Codes.{code_for}
use Rattle.spdm_grammar.specs.declared.names.request_code.TheConstants.{GET_VERSION, PSK_EXCHANGE, PSK_FINISH, END_SESSION}
use Rattle.spdm_machine.specs.Sessions.{id_in_exchange, is_past_handshake}
use Rattle.transcript.specs.Transcripts.{Negotiation}
use Rattle.responder_machine.specs.History.{History, Entry, clear_turns, negotiation_of}
use Rattle.responder_machine.specs.History.Entry.{Clear, Sealed, Queued, Ticked, Dropped}
use Rattle.responder_machine.specs.Session.{Events, Event, session_of, stage_of, idle_of, is_timed, period_of, when_live, after_record, after_clear, after_tick, id_in_record, gives_id}
use Rattle.responder_machine.specs.Session.Event.{Began, Heard, Waited}
use Rattle.responder_machine.specs.Turn.{Turn, Effect, takes, code_in, request_in, answer_in}
use Rattle.responder_machine.specs.Turn.Effect.{NoEffect, Took, TookData}
use Rattle.check_late_laws.proofs.Late.SeenAlike.{SeenAlike, answered, stage_alike, answer_alike}
use Rattle.check_late_laws.proofs.Late.SeenAlike.SeenAlike.{NoEvent, Behind, Here}
use Rattle.capture_machine.proofs.UnseenStands.{StandsUnseen, UnseenStand}
use Rattle.capture_machine.specs.LargeAnswers.{with_large, is_unseen_in, is_unseen_effect, handle_shown, seen, effect_with}
use Rattle.capture_machine.proofs.FetchedSessions.{turns_fetched}

-- ---- Sessions.

pub events_equal : (s : Events) → SeenAlike s s
events_equal [] = NoEvent
events_equal (e ∷ s) = Behind e s s (events_equal s)

either_events : (b : Bool) (s u x y : Events) → SeenAlike s u → SeenAlike x y → SeenAlike (cond b s x) (cond b u y)
either_events true s u x y a c = a
either_events false s u x y a c = c

live_events : (e : Event) (s u : Events) → SeenAlike s u → SeenAlike (when_live s e) (when_live u e)
live_events e _ _ NoEvent = NoEvent
live_events e _ _ (Behind x s u a) = Behind e (x ∷ s) (x ∷ u) (Behind x s u a)
live_events e _ _ (Here m t x n large other w v reply s u not a) = Behind e _ _ (Here m t x n large other w v reply s u not a)

-- The large response itself.
live_here : (m : List ℕ) (t : Turn) (a : RequestMessage) (n : List ℕ) (large other : Option ℕ) (w v reply : List ℕ) (s : Events) → (code_for a == PSK_FINISH) ≡ false
    → SeenAlike (when_live s (Heard m (answered t a n large w) reply)) (when_live s (Heard m (answered t a n other v) reply))
live_here m t a n large other w v reply [] not = NoEvent
live_here m t a n large other w v reply (e ∷ s) not = Here m t a n large other w v reply (e ∷ s) (e ∷ s) not (events_equal (e ∷ s))

record_here : (m : List ℕ) (t : Turn) (x : Effect) (large : Option ℕ) (w reply : List ℕ) (s : Events) → (is_unseen_effect x ≡ true → (code_in x == PSK_FINISH) ≡ false) → is_unseen_effect x ≡ true
    → SeenAlike (after_record s m (record t { effect = effect_with w large x }) reply) (after_record s m (record t { effect = x }) reply)
record_here m t NoEffect large w reply s not is = absurd (false≢true is)
record_here m t (TookData x y) large w reply s not is = absurd (false≢true is)
record_here m t (Took a n y handle) large w reply s not is = either_events (code_for a == END_SESSION) [] [] _ _ NoEvent (live_here m t a n large handle w y reply s (not is))

idle_alike : (s u : Events) → SeenAlike s u → idle_of s ≡ idle_of u
idle_alike _ _ NoEvent = refl
idle_alike _ _ (Behind (Began n x y) s u a) = refl
idle_alike _ _ (Behind (Heard m t reply) s u a) = refl
idle_alike _ _ (Behind (Waited n) s u a) = ap (λ (k : ℕ). k + n) (idle_alike s u a)
idle_alike _ _ (Here m t x n large other w v reply s u not a) = refl

pub timed_alike : (s u : Events) → SeenAlike s u → is_timed s ≡ is_timed u
timed_alike s u a = let stage = stage_alike s u a in let answer = answer_alike s u a in cc

tick_by : (b c x y : Bool) (seconds : ℕ) (s u : Events) → b ≡ c → x ≡ y → SeenAlike s u → SeenAlike (cond b s (cond x [] (Waited seconds ∷ s))) (cond c u (cond y [] (Waited seconds ∷ u)))
tick_by true true x y seconds s u one two a = a
tick_by false false true true seconds s u one two a = NoEvent
tick_by false false false false seconds s u one two a = Behind (Waited seconds) s u a
tick_by false false true false seconds s u one two a = absurd (false≢true (sym two))
tick_by false false false true seconds s u one two a = absurd (false≢true two)
tick_by true false x y seconds s u one two a = absurd (false≢true (sym one))
tick_by false true x y seconds s u one two a = absurd (false≢true one)

tick_alike : (seconds : ℕ) (s u : Events) → SeenAlike s u → SeenAlike (after_tick s seconds) (after_tick u seconds)
tick_alike seconds s u a =
    tick_by _ _ _ _ seconds s u (ap not (timed_alike s u a))
    (ap (λ (n : ℕ). nat_le (2 * period_of s) (n + seconds)) (idle_alike s u a) ∙ ap (λ (l : List ℕ). nat_le (2 * slice_index l 2) (idle_of u + seconds)) (answer_alike s u a)) a

held_by : (b c : Bool) (s u : Events) → b ≡ c → SeenAlike s u → SeenAlike (cond b s []) (cond c u [])
held_by true true s u one a = a
held_by false false s u one a = NoEvent
held_by true false s u one a = absurd (false≢true (sym one))
held_by false true s u one a = absurd (false≢true one)

clear_alike : (id : ℕ) (s u : Events) (t : Turn) (n k : Negotiation) → n ≡ k → SeenAlike s u → SeenAlike (after_clear id s t n) (after_clear id u t k)
clear_alike id s u t n k same a =
    let P : Negotiation → Type 0 = λ x. SeenAlike (after_clear id s t n) (after_clear id u t x) in
    subst P same
    (either_events (takes GET_VERSION t) [] [] _ _ NoEvent
    (either_events (takes PSK_EXCHANGE t) _ _ s u
    (either_events (gives_id id (answer_in t.effect)) (Began n (request_in t.effect) (answer_in t.effect) ∷ []) (Began n (request_in t.effect) (answer_in t.effect) ∷ []) _ _ (events_equal (Began n (request_in t.effect) (answer_in t.effect) ∷ []))
    (held_by (is_past_handshake (stage_of s)) (is_past_handshake (stage_of u)) s u (ap is_past_handshake (stage_alike s u a)) a)) a))

behind : (id : ℕ) (e : Entry) (h g : History) → clear_turns h ≡ clear_turns g → SeenAlike (session_of id h) (session_of id g) → SeenAlike (session_of id (e ∷ h)) (session_of id (e ∷ g))
unfolding session_of
behind id (Clear tag t d) h g turns a = clear_alike id (session_of id h) (session_of id g) t _ _ (ap negotiation_of turns) a
behind id (Sealed tag m t reply d) h g turns a =
    either_events (id_in_record m == id) _ _ _ _ (either_events (takes END_SESSION t) [] [] _ _ NoEvent (live_events (Heard m t reply) (session_of id h) (session_of id g) a)) a
behind id (Queued bytes) h g turns a = a
behind id (Ticked seconds) h g turns a = tick_alike seconds (session_of id h) (session_of id g) a
behind id (Dropped which) h g turns a = either_events (which == id) [] [] _ _ NoEvent a

here : (id which : ℕ) (e : Entry) (h : History) (w : List ℕ) → is_unseen_in (Some which) e ≡ true → StandsUnseen e → SeenAlike (session_of id (seen w e ∷ h)) (session_of id (e ∷ h))
unfolding session_of
here id which (Sealed tag m t reply d) h w is not =
    either_events (id_in_record m == id) _ _ (session_of id h) (session_of id h) (record_here m t t.effect (Some (handle_shown t)) w reply (session_of id h) (λ un. (not un).0) (and_second _ _ is)) (events_equal (session_of id h))
here id which (Clear tag t d) h w is not = absurd (false≢true is)
here id which (Queued bytes) h w is not = absurd (false≢true is)
here id which (Ticked seconds) h w is not = absurd (false≢true is)
here id which (Dropped other) h w is not = absurd (false≢true is)

seen_by : (id which : ℕ) (e : Entry) (h : History) (w : List ℕ) (b : Bool) → is_unseen_in (Some which) e ≡ b → StandsUnseen e → SeenAlike (session_of id (with_large (Some which) w h)) (session_of id h)
    → SeenAlike (session_of id (cond b (seen w e ∷ h) (e ∷ with_large (Some which) w h))) (session_of id (e ∷ h))
seen_by id which e h w true is not before = here id which e h w is not
seen_by id which e h w false is not before = behind id e (with_large (Some which) w h) h (turns_fetched which w h) before

-- All sessions are alike.
pub seen_alike : (id which : ℕ) (w : List ℕ) (h : History) → UnseenStand h → SeenAlike (session_of id (with_large (Some which) w h)) (session_of id h)
seen_alike id which w [] none = events_equal (session_of id [])
seen_alike id which w (e ∷ h) none = seen_by id which e h w (is_unseen_in (Some which) e) refl none.0 (seen_alike id which w h none.1)
