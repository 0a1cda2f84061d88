-- The sessions after a request whose large response passed unseen.
use Rattle.std.proofs.Common.{◌≡◌, ◌==◌, ◌&&◌, ◌||◌, ◌++◌, ℕ, zero, suc, List, [], ◌∷◌, refl, sym, ap, ◌∙◌, subst, arith, Bool, true, false, Some, None, cond, eqb-true}
use Rattle.std.specs.Prelude.{not}
use Rattle.std.proofs.lemmas.Bool.{false≢true}
use Rattle.std.proofs.lemmas.Bool.Decides.{nat_tests}
use Rattle.check_late_laws.specs.Late.Passed.{AreBehind, touched}
use Rattle.check_late_laws.specs.Late.PassedSessions.{AllArePast, NoneBeginsSince, UntouchedIsTold, UntouchedStays}
use Rattle.responder_machine.proofs.Entries.{session_of-Clear, session_of-Sealed, session_of-no_effect}
use Rattle.responder_machine.proofs.GivenIds.{gives_none, gives_other}
use Rattle.responder_machine.specs.History.{Entry, History, clear_turns, negotiation_of}
use Rattle.responder_machine.specs.History.Entry.{Clear, Sealed, Queued, Ticked, Dropped}
use Rattle.responder_machine.specs.Session.{Events, after_record, gives_id, id_in_record, is_live, is_timed, period_of, session_of, stage_of, when_live}
use Rattle.responder_machine.specs.Session.Event.{Began, Heard}
use Rattle.responder_machine.specs.Turn.{Effect, Turn, answer_in, code_in, request_in, takes, updates}
use Rattle.responder_machine.specs.Turn.Effect.{NoEffect, Took, TookData}
use Rattle.spdm_grammar.specs.declared.names.request_code.TheConstants.{END_SESSION, GET_VERSION, KEY_UPDATE, PSK_EXCHANGE, PSK_FINISH}
use Rattle.spdm_grammar.specs.declared.told.phase.Stage.TheVariants.{Open, Verifying}
use Rattle.spdm_machine.specs.Keys.{Draw}
use Rattle.spdm_machine.specs.Sessions.{is_past_handshake}
use Rattle.capture_machine.specs.LargeAnswers.{is_unseen_effect}

-- ---- One entry.

pub dropped_session : (which id : ℕ) (h : History) → session_of id (Dropped which ∷ h) ≡ cond (which == id) [] (session_of id h)
unfolding session_of
dropped_session which id h = refl

either_false : (a v : Bool) → (a || v) ≡ false → (a ≡ false) × (v ≡ false)
either_false true v is = absurd (false≢true (sym is))
either_false false v is = (refl, is)

not_touched : (b : Bool) (v : Bool) → b ≡ false → cond b false v ≡ false → v ≡ false
not_touched b v not_it is = sym (ap (λ (x : Bool). cond x false v) not_it) ∙ is

-- ---- The session of an id that was not touched.

pub untouched_list : (behind : List Entry) (g : History) (id : ℕ) → AreBehind behind → touched id (behind ++ g) ≡ false → session_of id (behind ++ g) ≡ session_of id g
untouched_list [] g id are none = refl
untouched_list (Clear tag t d ∷ behind) g id are none =
    session_of-no_effect id tag t d (behind ++ g) are.0.1 ∙ untouched_list behind g id are.1 (sym (ap (λ (b : Bool). cond b false (touched id (behind ++ g))) are.0.0) ∙ none)
untouched_list (Sealed tag m t reply d ∷ behind) g id are none =
    let parts = either_false (id_in_record m == id) (touched id (behind ++ g)) none in
    session_of-Sealed id tag m t reply d (behind ++ g)
    ∙ ap (λ (b : Bool). cond b (after_record (session_of id (behind ++ g)) m t reply) (session_of id (behind ++ g))) parts.0 ∙ untouched_list behind g id are.1 parts.1
untouched_list (Queued bytes ∷ behind) g id are none = absurd are.0
untouched_list (Ticked seconds ∷ behind) g id are none = absurd are.0
untouched_list (Dropped which ∷ behind) g id are none =
    let parts = either_false (which == id) (touched id (behind ++ g)) none in
    dropped_session which id (behind ++ g) ∙ ap (λ (b : Bool). cond b [] (session_of id (behind ++ g))) parts.0 ∙ untouched_list behind g id are.1 parts.1

pub untouched_stays : UntouchedStays
untouched_stays h s id none =
    ap (session_of id) s.is ∙ untouched_list s.behind (Clear s.tag s.turn s.draw ∷ s.before) id s.are (sym (ap (touched id) s.is) ∙ none)

-- ---- The request: its answer was not seen, so it begins no session.

pub unseen_answer : (e : Effect) → is_unseen_effect e ≡ true → answer_in e ≡ []
unseen_answer NoEffect is = refl
unseen_answer (Took a m [] None) is = refl
unseen_answer (Took a m [] (Some handle)) is = absurd (false≢true is)
unseen_answer (Took a m (b ∷ l) large) is = absurd (false≢true is)
unseen_answer (TookData bytes answer) is = absurd (false≢true is)

zero_other : (n : ℕ) → (0 == suc n) ≡ false
zero_other n = grind (arith, nat_tests)

none_given : (id : ℕ) → gives_id id [] ≡ false
none_given zero = gives_none []
none_given (suc n) = gives_other (suc n) [] (zero_other n)

pub gives_no : (id : ℕ) (e : Effect) → is_unseen_effect e ≡ true → gives_id id (answer_in e) ≡ false
gives_no id e is = ap (gives_id id) (unseen_answer e is) ∙ none_given id

-- What such a request leaves of a session.
pub left_of : (id : ℕ) (tag : ℕ) (t : Turn) (d : Draw) (before : History) → is_unseen_effect t.effect ≡ true
    → let s = session_of id before in session_of id (Clear tag t d ∷ before) ≡ cond (takes GET_VERSION t) [] (cond (takes PSK_EXCHANGE t) (cond (is_past_handshake (stage_of s)) s []) s)
left_of id tag t d before is =
    let s : Events = session_of id before in
    let new : Events = Began (negotiation_of (clear_turns before)) (request_in t.effect) (answer_in t.effect) ∷ [] in
    session_of-Clear id tag t d before
    ∙ ap (λ (b : Bool). cond (takes GET_VERSION t) [] (cond (takes PSK_EXCHANGE t) (cond b new (cond (is_past_handshake (stage_of s)) s [])) s)) (gives_no id t.effect is)

-- ---- None begins.

record_live : (s : Events) (m : List ℕ) (t : Turn) (reply : List ℕ) → is_live (after_record s m t reply) ≡ true → is_live s ≡ true
record_live (x ∷ xs) m t reply live = refl
record_live [] m t reply live = by_end (takes END_SESSION t) live
  where
    by_end : (b : Bool) → is_live (cond b [] []) ≡ true → false ≡ true
    by_end true is = is
    by_end false is = is

pick_live : (b : Bool) (n s : Events) → (is_live n ≡ true → is_live s ≡ true) → is_live (cond b n s) ≡ true → is_live s ≡ true
pick_live true n s same live = same live
pick_live false n s same live = live

none_live : (s : Events) → is_live [] ≡ true → is_live s ≡ true
none_live s live = absurd (false≢true live)

live_list : (behind : List Entry) (g : History) (id : ℕ) → AreBehind behind → is_live (session_of id (behind ++ g)) ≡ true → is_live (session_of id g) ≡ true
live_list [] g id are live = live
live_list (Clear tag t d ∷ behind) g id are live = live_list behind g id are.1 (sym (ap is_live (session_of-no_effect id tag t d (behind ++ g) are.0.1)) ∙ live)
live_list (Sealed tag m t reply d ∷ behind) g id are live =
    let s : Events = session_of id (behind ++ g) in
    live_list behind g id are.1 (pick_live (id_in_record m == id) (after_record s m t reply) s (record_live s m t reply) (sym (ap is_live (session_of-Sealed id tag m t reply d (behind ++ g))) ∙ live))
live_list (Queued bytes ∷ behind) g id are live = absurd are.0
live_list (Ticked seconds ∷ behind) g id are live = absurd are.0
live_list (Dropped which ∷ behind) g id are live =
    let s : Events = session_of id (behind ++ g) in
    live_list behind g id are.1 (pick_live (which == id) [] s (none_live s) (sym (ap is_live (dropped_session which id (behind ++ g))) ∙ live))

left_live : (v x p : Bool) (s : Events) → is_live (cond v [] (cond x (cond p s []) s)) ≡ true → is_live s ≡ true
left_live true x p s live = absurd (false≢true live)
left_live false true true s live = live
left_live false true false s live = absurd (false≢true live)
left_live false false p s live = live

pub none_begins_since : NoneBeginsSince
none_begins_since h s id live =
    let at : Events = session_of id s.before in
    let there = live_list s.behind (Clear s.tag s.turn s.draw ∷ s.before) id s.are (sym (ap (λ (l : History). is_live (session_of id l)) s.is) ∙ live) in
    left_live (takes GET_VERSION s.turn) (takes PSK_EXCHANGE s.turn) (is_past_handshake (stage_of at)) at (sym (ap is_live (left_of id s.tag s.turn s.draw s.before s.passed.unseen)) ∙ there)

-- ---- None is in its handshake.

abbrev IsPast : Events → Type 0
IsPast s = is_live s ≡ true → is_past_handshake (stage_of s) ≡ true

none_past : IsPast []
none_past live = absurd (false≢true live)

pick_past : (b : Bool) (n s : Events) → IsPast n → IsPast s → IsPast (cond b n s)
pick_past true n s one other = one
pick_past false n s one other = other

heard_past : (s : Events) (m : List ℕ) (t : Turn) (reply : List ℕ) → is_past_handshake (stage_of s) ≡ true → is_past_handshake (stage_of (Heard m t reply ∷ s)) ≡ true
heard_past s m t reply past = by_turn (takes PSK_FINISH t) (updates 3 t) (takes KEY_UPDATE t)
  where
    by_turn : (a b c : Bool) → is_past_handshake (cond a Open (cond b Open (cond c Verifying (stage_of s)))) ≡ true
    by_turn true b c = refl
    by_turn false true c = refl
    by_turn false false true = refl
    by_turn false false false = past

live_past : (s : Events) (m : List ℕ) (t : Turn) (reply : List ℕ) → IsPast s → IsPast (when_live s (Heard m t reply))
live_past [] m t reply past = none_past
live_past (x ∷ xs) m t reply past = λ live. heard_past (x ∷ xs) m t reply (past refl)

past_list : (behind : List Entry) (g : History) (id : ℕ) → AreBehind behind → IsPast (session_of id g) → IsPast (session_of id (behind ++ g))
past_list [] g id are past = past
past_list (Clear tag t d ∷ behind) g id are past = subst IsPast (sym (session_of-no_effect id tag t d (behind ++ g) are.0.1)) (past_list behind g id are.1 past)
past_list (Sealed tag m t reply d ∷ behind) g id are past =
    let s : Events = session_of id (behind ++ g) in
    let old : IsPast s = past_list behind g id are.1 past in
    subst IsPast (sym (session_of-Sealed id tag m t reply d (behind ++ g)))
    (pick_past (id_in_record m == id) (after_record s m t reply) s (pick_past (takes END_SESSION t) [] (when_live s (Heard m t reply)) none_past (live_past s m t reply old)) old)
past_list (Queued bytes ∷ behind) g id are past = absurd are.0
past_list (Ticked seconds ∷ behind) g id are past = absurd are.0
past_list (Dropped which ∷ behind) g id are past =
    let s : Events = session_of id (behind ++ g) in
    subst IsPast (sym (dropped_session which id (behind ++ g))) (pick_past (which == id) [] s none_past (past_list behind g id are.1 past))

held_past : (p : Bool) (s : Events) → is_past_handshake (stage_of s) ≡ p → IsPast (cond p s [])
held_past true s is = λ live. is
held_past false s is = none_past

pub exchange_left : (id tag : ℕ) (t : Turn) (d : Draw) (before : History) → is_unseen_effect t.effect ≡ true → takes PSK_EXCHANGE t ≡ true
    → let s = session_of id before in session_of id (Clear tag t d ∷ before) ≡ cond (is_past_handshake (stage_of s)) s []
exchange_left id tag t d before is exchange =
    let s : Events = session_of id before in
    let kept : Events = cond (is_past_handshake (stage_of s)) s [] in
    let version : takes GET_VERSION t ≡ false = ap (λ (n : ℕ). n == GET_VERSION) (eqb-true (code_in t.effect) PSK_EXCHANGE exchange) in
    left_of id tag t d before is ∙ ap (λ (b : Bool). cond b [] (cond (takes PSK_EXCHANGE t) kept s)) version ∙ ap (λ (b : Bool). cond b kept s) exchange

pub all_are_past : AllArePast
all_are_past h s id exchange live =
    let g : History = Clear s.tag s.turn s.draw ∷ s.before in
    let was : Events = session_of id s.before in
    let there : IsPast (session_of id g) = subst IsPast (sym (exchange_left id s.tag s.turn s.draw s.before s.passed.unseen exchange)) (held_past (is_past_handshake (stage_of was)) was refl) in
    subst (λ (l : History). IsPast (session_of id l)) (sym s.is) (past_list s.behind g id s.are there) live

-- ---- What an untouched one tells.

held_same : (s : Events) → let k = cond (is_past_handshake (stage_of s)) s [] in (is_live k && is_past_handshake (stage_of k)) ≡ (is_live s && is_past_handshake (stage_of s))
held_same s = by_past (is_past_handshake (stage_of s)) refl s refl
  where
    by_past : (p : Bool) → is_past_handshake (stage_of s) ≡ p → (u : Events) → s ≡ u → let k = cond p s [] in (is_live k && is_past_handshake (stage_of k)) ≡ (is_live s && is_past_handshake (stage_of s))
    by_past true is u same = refl
    by_past false is [] same = sym (ap (λ (x : Events). is_live x && is_past_handshake (stage_of x)) same)
    by_past false is (x ∷ xs) same = sym (ap (λ (y : Events). is_live y && is_past_handshake (stage_of s)) same ∙ is)

timed_same : (s : Events) → let k = cond (is_past_handshake (stage_of s)) s [] in (is_live k && is_timed k) ≡ (is_live s && is_timed s)
timed_same s = by_past (is_past_handshake (stage_of s)) refl s refl
  where
    by_past : (p : Bool) → is_past_handshake (stage_of s) ≡ p → (u : Events) → s ≡ u → let k = cond p s [] in (is_live k && is_timed k) ≡ (is_live s && is_timed s)
    by_past true is u same = refl
    by_past false is [] same = sym (ap (λ (x : Events). is_live x && is_timed x) same)
    by_past false is (x ∷ xs) same = sym (ap (λ (y : Events). is_live y && is_timed s) same ∙ ap (λ (b : Bool). b && not (period_of s == 0)) is)

pub untouched_is_told : UntouchedIsTold
untouched_is_told h s id exchange none =
    let was : Events = session_of id s.before in
    let now : session_of id h ≡ cond (is_past_handshake (stage_of was)) was [] = untouched_stays h s id none ∙ exchange_left id s.tag s.turn s.draw s.before s.passed.unseen exchange in (
      ap (λ (x : Events). is_live x && is_past_handshake (stage_of x)) now ∙ held_same was,
      ap (λ (x : Events). is_live x && is_timed x) now ∙ timed_same was,
    )
