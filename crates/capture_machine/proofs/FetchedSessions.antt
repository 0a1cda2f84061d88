-- While a large response is fetched in a session, the sessions are alike, and the answer to a record tells the outcome,
-- whatever bytes stand for the large one.
use Rattle.capture_machine.proofs.FetchedOutcomes.{AreShort, to_told}
use Rattle.capture_machine.proofs.RepliesTell.{OutcomesAlike}
use Rattle.capture_machine.specs.Rounds.{no_draw}
use Rattle.responder_machine.specs.Setup.{RspSetup}
use Rattle.responder_machine.specs.Responder.Outcome.{Same}
use Rattle.responder_machine.specs.Responder.{on_record, to_session, repeats, kept_record, body_of}
use Rattle.responder_machine.specs.Answer.{Free}
use Rattle.spdm_machine.specs.Bodies.{record_body}
use Rattle.spdm_grammar.specs.declared.told.phase.Phase.{Phase}
use Rattle.std.proofs.Common.{◌≡◌, ◌+◌, ◌*◌, ◌==◌, ◌||◌, ℕ, List, [], ◌∷◌, refl, sym, ap, ◌∙◌, subst, Bool, true, false, Option, Some, None, is_some, cond, length, ◌≤◌}
use Rattle.std.specs.Prelude.{not, nat_le, slice_index}
use Rattle.std.proofs.lemmas.Bool.{false≢true}
use Rattle.spdm_basis.proofs.Bools.{and_second}
use Rattle.spdm_grammar.specs.Message.{RequestMessage}
use Rattle.spdm_grammar.specs.Codes.{code_for}
use Rattle.spdm_grammar.specs.declared.names.request_code.TheConstants.{GET_VERSION, PSK_EXCHANGE, PSK_FINISH, END_SESSION}
use Rattle.spdm_machine.specs.Sessions.{id_in_exchange, is_past_handshake}
use Rattle.transcript.specs.Transcripts.{Negotiation}
use Rattle.responder_machine.specs.History.{History, Entry, clear_turns, negotiation_of, ended_of, phase_of}
use Rattle.responder_machine.specs.History.Entry.{Clear, Sealed, Queued, Ticked, Dropped}
use Rattle.responder_machine.specs.Session.{Events, Event, session_of, stage_of, idle_of, is_timed, period_of, when_live, after_record, after_clear, after_tick, id_in_record, gives_id}
use Rattle.responder_machine.specs.Session.Event.{Began, Heard, Waited}
use Rattle.responder_machine.specs.Turn.{Turn, Effect, takes, code_in, request_in, answer_in, handle_in}
use Rattle.responder_machine.specs.Turn.Effect.{NoEffect, Took, TookData}
use Rattle.capture_machine.specs.LargeAnswers.{with_large, is_unseen_in, is_unseen_effect, handle_shown, seen, seen_turn, turn_with, effect_with}
use Rattle.capture_machine.proofs.UnseenStands.{StandsUnseen, UnseenStand}
use Rattle.capture_machine.proofs.EventsAlike.{EventsAlike, answered, stage_alike, answer_alike}
use Rattle.capture_machine.proofs.EventsAlike.EventsAlike.{NoEvent, Behind, Here}

-- The large response is one of a session.
pub record InSession (place : Option ℕ) (h : History) : Type 0 where
  pub id : ℕ
  pub at : place ≡ Some id
  pub stand : UnseenStand h

-- ---- What stays as it is.

code_with : (w : List ℕ) (large : Option ℕ) (e : Effect) → code_in (effect_with w large e) ≡ code_in e
code_with w large NoEffect = refl
code_with w large (Took a m x handle) = refl
code_with w large (TookData x y) = refl

pub takes_with : (w : List ℕ) (large : Option ℕ) (code : ℕ) (t : Turn) → takes code (turn_with w large t) ≡ takes code t
takes_with w large code t = ap (λ (n : ℕ). n == code) (code_with w large t.effect)

pub turns_by : (id : ℕ) (w : List ℕ) (e : Entry) (h : History) (b : Bool) → is_unseen_in (Some id) e ≡ b → clear_turns (with_large (Some id) w h) ≡ clear_turns h
    → clear_turns (cond b (seen w e ∷ h) (e ∷ with_large (Some id) w h)) ≡ clear_turns (e ∷ h)
turns_by id w (Sealed tag m t reply d) h true is before = refl
turns_by id w (Clear tag t d) h true is before = absurd (false≢true is)
turns_by id w (Queued bytes) h true is before = absurd (false≢true is)
turns_by id w (Ticked seconds) h true is before = absurd (false≢true is)
turns_by id w (Dropped which) h true is before = absurd (false≢true is)
turns_by id w (Clear tag t d) h false is before = ap (λ l. t ∷ l) before
turns_by id w (Sealed tag m t reply d) h false is before = before
turns_by id w (Queued bytes) h false is before = before
turns_by id w (Ticked seconds) h false is before = before
turns_by id w (Dropped which) h false is before = before

-- No clear turn is another.
pub turns_fetched : (id : ℕ) (w : List ℕ) (h : History) → clear_turns (with_large (Some id) w h) ≡ clear_turns h
turns_fetched id w [] = refl
turns_fetched id w (e ∷ h) = turns_by id w e h (is_unseen_in (Some id) e) refl (turns_fetched id w h)

ended_entry : (w : List ℕ) (e : Entry) (h : History) → ended_of (seen w e ∷ h) ≡ ended_of (e ∷ h)
ended_entry w (Clear tag t d) h =
    ap (λ (b : Bool). cond (b || takes PSK_EXCHANGE (seen_turn w t)) None (ended_of h)) (takes_with w (Some (handle_shown t)) GET_VERSION t)
    ∙ ap (λ (b : Bool). cond (takes GET_VERSION t || b) None (ended_of h)) (takes_with w (Some (handle_shown t)) PSK_EXCHANGE t)
ended_entry w (Sealed tag m t reply d) h = ap (λ (b : Bool). cond b (Some (record { sealed = m; reply = reply })) (ended_of h)) (takes_with w (Some (handle_shown t)) END_SESSION t)
ended_entry w (Queued bytes) h = refl
ended_entry w (Ticked seconds) h = refl
ended_entry w (Dropped id) h = refl

ended_behind : (e : Entry) (h g : History) → ended_of h ≡ ended_of g → ended_of (e ∷ h) ≡ ended_of (e ∷ g)
ended_behind (Clear tag t d) h g same = ap (cond (takes GET_VERSION t || takes PSK_EXCHANGE t) None) same
ended_behind (Sealed tag m t reply d) h g same = ap (cond (takes END_SESSION t) (Some (record { sealed = m; reply = reply }))) same
ended_behind (Queued bytes) h g same = same
ended_behind (Ticked seconds) h g same = same
ended_behind (Dropped id) h g same = same

ended_by : (place : Option ℕ) (w : List ℕ) (e : Entry) (h : History) (b : Bool) → ended_of (with_large place w h) ≡ ended_of h → ended_of (cond b (seen w e ∷ h) (e ∷ with_large place w h)) ≡ ended_of (e ∷ h)
ended_by place w e h true same = ended_entry w e h
ended_by place w e h false same = ended_behind e (with_large place w h) h same

-- The record of the ended session that is kept, and its reply.
pub ended_fetched : (place : Option ℕ) (w : List ℕ) (h : History) → ended_of (with_large place w h) ≡ ended_of h
ended_fetched place w [] = refl
ended_fetched place w (e ∷ h) = ended_by place w e h (is_unseen_in place e) (ended_fetched place w h)

-- ---- Sessions.

pub events_equal : (s : Events) → EventsAlike s s
events_equal [] = NoEvent
events_equal (e ∷ s) = Behind e s s (events_equal s)

either_events : (b : Bool) (s u x y : Events) → EventsAlike s u → EventsAlike x y → EventsAlike (cond b s x) (cond b u y)
either_events true s u x y a c = a
either_events false s u x y a c = c

live_events : (e : Event) (s u : Events) → EventsAlike s u → EventsAlike (when_live s e) (when_live u e)
live_events e _ _ NoEvent = NoEvent
live_events e _ _ (Behind x s u a) = Behind e (x ∷ s) (x ∷ u) (Behind x s u a)
live_events e _ _ (Here m t x n large w v reply s u not a) = Behind e _ _ (Here m t x n large w v reply s u not a)

-- The large response itself.
live_here : (m : List ℕ) (t : Turn) (a : RequestMessage) (n : List ℕ) (large : Option ℕ) (w v reply : List ℕ) (s : Events) → (code_for a == PSK_FINISH) ≡ false
    → EventsAlike (when_live s (Heard m (answered t a n large w) reply)) (when_live s (Heard m (answered t a n large v) reply))
live_here m t a n large w v reply [] not = NoEvent
live_here m t a n large w v reply (e ∷ s) not = Here m t a n large w v reply (e ∷ s) (e ∷ s) not (events_equal (e ∷ s))

record_here : (m : List ℕ) (t : Turn) (x : Effect) (large : Option ℕ) (w v reply : List ℕ) (s : Events) → (is_unseen_effect x ≡ true → (code_in x == PSK_FINISH) ≡ false) → is_unseen_effect x ≡ true
    → EventsAlike (after_record s m (record t { effect = effect_with w large x }) reply) (after_record s m (record t { effect = effect_with v large x }) reply)
record_here m t NoEffect large w v reply s not is = absurd (false≢true is)
record_here m t (TookData x y) large w v reply s not is = absurd (false≢true is)
record_here m t (Took a n y handle) large w v reply s not is = either_events (code_for a == END_SESSION) [] [] _ _ NoEvent (live_here m t a n large w v reply s (not is))

idle_alike : (s u : Events) → EventsAlike s u → idle_of s ≡ idle_of u
idle_alike _ _ NoEvent = refl
idle_alike _ _ (Behind (Began n x y) s u a) = refl
idle_alike _ _ (Behind (Heard m t reply) s u a) = refl
idle_alike _ _ (Behind (Waited n) s u a) = ap (λ (k : ℕ). k + n) (idle_alike s u a)
idle_alike _ _ (Here m t x n large w v reply s u not a) = refl

pub timed_alike : (s u : Events) → EventsAlike s u → is_timed s ≡ is_timed u
timed_alike s u a = let stage = stage_alike s u a in let answer = answer_alike s u a in cc

tick_by : (b c x y : Bool) (seconds : ℕ) (s u : Events) → b ≡ c → x ≡ y → EventsAlike s u → EventsAlike (cond b s (cond x [] (Waited seconds ∷ s))) (cond c u (cond y [] (Waited seconds ∷ u)))
tick_by true true x y seconds s u one two a = a
tick_by false false true true seconds s u one two a = NoEvent
tick_by false false false false seconds s u one two a = Behind (Waited seconds) s u a
tick_by false false true false seconds s u one two a = absurd (false≢true (sym two))
tick_by false false false true seconds s u one two a = absurd (false≢true two)
tick_by true false x y seconds s u one two a = absurd (false≢true (sym one))
tick_by false true x y seconds s u one two a = absurd (false≢true one)

tick_alike : (seconds : ℕ) (s u : Events) → EventsAlike s u → EventsAlike (after_tick s seconds) (after_tick u seconds)
tick_alike seconds s u a =
    tick_by _ _ _ _ seconds s u (ap not (timed_alike s u a))
    (ap (λ (n : ℕ). nat_le (2 * period_of s) (n + seconds)) (idle_alike s u a) ∙ ap (λ (l : List ℕ). nat_le (2 * slice_index l 2) (idle_of u + seconds)) (answer_alike s u a)) a

held_by : (b c : Bool) (s u : Events) → b ≡ c → EventsAlike s u → EventsAlike (cond b s []) (cond c u [])
held_by true true s u one a = a
held_by false false s u one a = NoEvent
held_by true false s u one a = absurd (false≢true (sym one))
held_by false true s u one a = absurd (false≢true one)

clear_alike : (id : ℕ) (s u : Events) (t : Turn) (n k : Negotiation) → n ≡ k → EventsAlike s u → EventsAlike (after_clear id s t n) (after_clear id u t k)
clear_alike id s u t n k same a =
    let P : Negotiation → Type 0 = λ x. EventsAlike (after_clear id s t n) (after_clear id u t x) in
    subst P same
    (either_events (takes GET_VERSION t) [] [] _ _ NoEvent
    (either_events (takes PSK_EXCHANGE t) _ _ s u
    (either_events (gives_id id (answer_in t.effect)) (Began n (request_in t.effect) (answer_in t.effect) ∷ []) (Began n (request_in t.effect) (answer_in t.effect) ∷ []) _ _ (events_equal (Began n (request_in t.effect) (answer_in t.effect) ∷ []))
    (held_by (is_past_handshake (stage_of s)) (is_past_handshake (stage_of u)) s u (ap is_past_handshake (stage_alike s u a)) a)) a))

behind : (id : ℕ) (e : Entry) (h g : History) → clear_turns h ≡ clear_turns g → EventsAlike (session_of id h) (session_of id g) → EventsAlike (session_of id (e ∷ h)) (session_of id (e ∷ g))
unfolding session_of
behind id (Clear tag t d) h g turns a = clear_alike id (session_of id h) (session_of id g) t _ _ (ap negotiation_of turns) a
behind id (Sealed tag m t reply d) h g turns a =
    either_events (id_in_record m == id) _ _ _ _ (either_events (takes END_SESSION t) [] [] _ _ NoEvent (live_events (Heard m t reply) (session_of id h) (session_of id g) a)) a
behind id (Queued bytes) h g turns a = a
behind id (Ticked seconds) h g turns a = tick_alike seconds (session_of id h) (session_of id g) a
behind id (Dropped which) h g turns a = either_events (which == id) [] [] _ _ NoEvent a

here : (id which : ℕ) (e : Entry) (h : History) (w v : List ℕ) → is_unseen_in (Some which) e ≡ true → StandsUnseen e → EventsAlike (session_of id (seen w e ∷ h)) (session_of id (seen v e ∷ h))
unfolding session_of
here id which (Sealed tag m t reply d) h w v is not =
    either_events (id_in_record m == id) _ _ (session_of id h) (session_of id h) (record_here m t t.effect (Some (handle_shown t)) w v reply (session_of id h) (λ un. (not un).0) (and_second _ _ is)) (events_equal (session_of id h))
here id which (Clear tag t d) h w v is not = absurd (false≢true is)
here id which (Queued bytes) h w v is not = absurd (false≢true is)
here id which (Ticked seconds) h w v is not = absurd (false≢true is)
here id which (Dropped other) h w v is not = absurd (false≢true is)

fetched_by : (id which : ℕ) (e : Entry) (h : History) (w v : List ℕ) (b : Bool) → is_unseen_in (Some which) e ≡ b → StandsUnseen e → EventsAlike (session_of id (with_large (Some which) w h)) (session_of id (with_large (Some which) v h))
    → EventsAlike (session_of id (cond b (seen w e ∷ h) (e ∷ with_large (Some which) w h))) (session_of id (cond b (seen v e ∷ h) (e ∷ with_large (Some which) v h)))
fetched_by id which e h w v true is not before = here id which e h w v is not
fetched_by id which e h w v false is not before =
    behind id e (with_large (Some which) w h) (with_large (Some which) v h) (turns_fetched which w h ∙ sym (turns_fetched which v h)) before

named_fetched : (id which : ℕ) (w v : List ℕ) (h : History) → UnseenStand h → EventsAlike (session_of id (with_large (Some which) w h)) (session_of id (with_large (Some which) v h))
named_fetched id which w v [] none = events_equal (session_of id [])
named_fetched id which w v (e ∷ h) none = fetched_by id which e h w v (is_unseen_in (Some which) e) refl none.0 (named_fetched id which w v h none.1)

-- All sessions are alike.
pub sessions_fetched : (id : ℕ) (place : Option ℕ) (w v : List ℕ) (h : History) → InSession place h → EventsAlike (session_of id (with_large place w h)) (session_of id (with_large place v h))
sessions_fetched id place w v h is = subst (λ (p : Option ℕ). EventsAlike (session_of id (with_large p w h)) (session_of id (with_large p v h))) (sym is.at) (named_fetched id is.id w v h is.stand)

-- And so are the clear turns.
turns_same : (place : Option ℕ) (w v : List ℕ) (h : History) → InSession place h → clear_turns (with_large place w h) ≡ clear_turns (with_large place v h)
turns_same place w v h is = ap (λ (p : Option ℕ). clear_turns (with_large p w h)) is.at ∙ turns_fetched is.id w h ∙ sym (turns_fetched is.id v h) ∙ ap (λ (p : Option ℕ). clear_turns (with_large p v h)) (sym is.at)

-- ---- A record.

record_by : (r : RspSetup) (tag : ℕ) (sealed : List ℕ) (f k : Free) (few : length f.reply ≤ 1024) (less : length k.reply ≤ 1024) (b c : Bool) (kept other : List ℕ) (phase : Phase) (s u : Events) → b ≡ c → kept ≡ other → EventsAlike s u
    → AreShort r tag sealed f k no_draw few less s u
    → body_of (cond b (Same kept) (to_session r phase s f tag sealed no_draw)) ≡ body_of (cond c (Same other) (to_session r phase u k tag sealed no_draw))
    → OutcomesAlike (cond b (Same kept) (to_session r phase s f tag sealed no_draw)) (cond c (Same other) (to_session r phase u k tag sealed no_draw))
record_by r tag sealed f k few less true true kept other phase s u one two a short same = two
record_by r tag sealed f k few less false false kept other phase s u one two a short same = to_told r tag sealed f k no_draw few less phase s u a short same
record_by r tag sealed f k few less true false kept other phase s u one two a short same = absurd (false≢true (sym one))
record_by r tag sealed f k few less false true kept other phase s u one two a short same = absurd (false≢true one)

-- Where nothing was dropped before it, the answer to a record tells the outcome, whatever bytes stand for the large
-- response.
pub record_fetched : (r : RspSetup) (h : History) (place : Option ℕ) (w v : List ℕ) (tag : ℕ) (sealed : List ℕ) (f k : Free) (few : length f.reply ≤ 1024) (less : length k.reply ≤ 1024) → InSession place h
    → AreShort r tag sealed f k no_draw few less (session_of (id_in_record sealed) (with_large place w h)) (session_of (id_in_record sealed) (with_large place v h))
    → body_of (on_record r (with_large place w h) tag sealed f no_draw) ≡ body_of (on_record r (with_large place v h) tag sealed k no_draw)
    → OutcomesAlike (on_record r (with_large place w h) tag sealed f no_draw) (on_record r (with_large place v h) tag sealed k no_draw)
unfolding on_record
record_fetched r h place w v tag sealed f k few less is short =
    let ended = ended_fetched place w h ∙ sym (ended_fetched place v h) in
    let turns = turns_same place w v h is in
    let id : ℕ = id_in_record sealed in
    let P : Phase → Type 0 = λ x. body_of (on_record r (with_large place w h) tag sealed f no_draw) ≡ body_of (cond (repeats (ended_of (with_large place v h)) sealed) (Same (record_body (kept_record (ended_of (with_large place v h))))) (to_session r x (session_of id (with_large place v h)) k tag sealed no_draw))
    → OutcomesAlike (on_record r (with_large place w h) tag sealed f no_draw) (cond (repeats (ended_of (with_large place v h)) sealed) (Same (record_body (kept_record (ended_of (with_large place v h))))) (to_session r x (session_of id (with_large place v h)) k tag sealed no_draw)) in
    subst P (ap phase_of turns)
    (record_by r tag sealed f k few less _ _ _ _ (phase_of (clear_turns (with_large place w h))) (session_of id (with_large place w h)) (session_of id (with_large place v h))
    (ap (λ o. repeats o sealed) ended) (ap (λ o. record_body (kept_record o)) ended) (sessions_fetched id place w v h is) short)
