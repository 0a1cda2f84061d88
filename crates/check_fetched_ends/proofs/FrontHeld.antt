-- The request of a large response that is held, as the newest one: what stands of the history stands of it there,
-- whether it came last, or its fetch began late.
use Rattle.std.proofs.Common.{◌≡◌, ◌+◌, ◌==◌, ◌&&◌, ◌||◌, ◌++◌, ◌∙◌, ℕ, List, [], ◌∷◌, refl, sym, ap, subst, Bool, true, false, Option, Some, None, cond, is_some, unwrap_or}
use Rattle.std.specs.Prelude.{MatchBool, not}
use Rattle.std.proofs.lemmas.Bool.{false≢true}
use Rattle.check_laws.specs.ChangeLaws.{begun_by, begun_by_large}
use Rattle.check_fetched_laws.proofs.ReadyGets.{LargeStand, common_at}
use Rattle.check_fetched_laws.proofs.TurnsBoth.{Settles, SettlesEntry}
use Rattle.check_fetched_laws.proofs.LargeTurns.{LargeStandsIn}
use Rattle.check_fetched_laws.specs.ClearChunks.{clear_with}
use Rattle.check_fetched_laws.specs.ClearSessions.{AreGets, IsUnseenRequest, is_clear_get}
use Rattle.check_fetched_ends.proofs.GetsGiven.{gets_given}
use Rattle.check_fetched_laws.proofs.HeldSettled.{common_stays, gets_common, settles_at}
use Rattle.check_fetched_laws.proofs.LastLed.{with_here}
use Rattle.check_fetched_ends.proofs.LastReady.{gets_handle, handle_given, large_behind as stand_behind, settles_behind, unseen_behind}
use Rattle.check_fetched_ends.proofs.LateLed.{gets_since}
use Rattle.check_fetched_ends.specs.GetsHeld.{AreGiven, GiveChunks, GivesChunk}
use Rattle.check_fetched_ends.specs.Held.{HasGets}
use Rattle.check_fetched_ends.specs.LastMarked.{MarksStandAt}
use Rattle.check_late_laws.proofs.Late.BehindClear.{AreSeen, behind_same, behind_seen, large_behind, since_seen}
use Rattle.check_late_laws.specs.Late.Passed.{AreBehind}
use Rattle.check_late_laws.specs.declared.late_fetch.marks.Marks.{Marks}
use Rattle.responder_machine.specs.BoundLaws.{messages_of}
use Rattle.responder_machine.specs.History.{Entry, History, clear_turns}
use Rattle.responder_machine.specs.History.Entry.{Clear, Sealed, Queued, Ticked, Dropped}
use Rattle.responder_machine.specs.LargeMessages.{handle_of}
use Rattle.responder_machine.specs.May.{with_dropped}
use Rattle.responder_machine.specs.Responder.Outcome.{Adds}
use Rattle.responder_machine.specs.Turn.{Effect, Turn, code_in, handle_in, is_taken}
use Rattle.responder_machine.specs.Turn.Effect.{NoEffect}
use Rattle.spdm_grammar.specs.declared.names.request_code.TheConstants.{CHUNK_GET}
use Rattle.spdm_machine.specs.Keys.{Draw}
use Rattle.capture_machine.proofs.UnseenStands.{StandsUnseen, UnseenStand}
use Rattle.capture_machine.specs.LargeAnswers.{dropped_before_large, handle_shown, is_unseen_effect, is_unseen_in, seen, seen_turn, with_large}
use Rattle.capture_machine.specs.Rounds.{no_draw}

-- ---- One entry of a history.

unseen_at : (es : List Entry) (e : Entry) (h : History) → UnseenStand (es ++ e ∷ h) → StandsUnseen e
unseen_at [] e h all = all.0
unseen_at (x ∷ es) e h all = unseen_at es e h all.1

large_at : (es : List Entry) (e : Entry) (h : History) → LargeStand (es ++ e ∷ h) → LargeStandsIn e
large_at [] e h all = all.0
large_at (x ∷ es) e h all = large_at es e h all.1

-- ---- What holds of each entry holds of the request in front.

pub settles_held : (late : Option Marks) (tag : ℕ) (t : Turn) (gets : List Entry) (before h : History) → HasGets late tag t gets before h → Settles h → Settles (Clear tag t no_draw ∷ before)
settles_held None tag t gets before h is all = settles_behind gets (Clear tag t no_draw ∷ before) (subst Settles is all)
settles_held (Some marks) tag t gets before h has all =
    let s = has.0.back in
    let rest : Settles before = settles_behind gets before (subst Settles has.1 all) in
    (subst (λ (x : Turn). SettlesEntry (Clear tag x no_draw)) has.0.same (settles_at s.behind (Clear s.tag s.turn s.draw) s.before (subst Settles s.is rest)), rest)

pub unseen_held : (late : Option Marks) (tag : ℕ) (t : Turn) (gets : List Entry) (before h : History) → HasGets late tag t gets before h → UnseenStand h → UnseenStand (Clear tag t no_draw ∷ before)
unseen_held None tag t gets before h is all = unseen_behind gets (Clear tag t no_draw ∷ before) (subst UnseenStand is all)
unseen_held (Some marks) tag t gets before h has all =
    let s = has.0.back in
    let rest : UnseenStand before = unseen_behind gets before (subst UnseenStand has.1 all) in
    (subst (λ (x : Turn). StandsUnseen (Clear tag x no_draw)) has.0.same (unseen_at s.behind (Clear s.tag s.turn s.draw) s.before (subst UnseenStand s.is rest)), rest)

pub large_held : (late : Option Marks) (tag : ℕ) (t : Turn) (gets : List Entry) (before h : History) → HasGets late tag t gets before h → LargeStand h → LargeStand (Clear tag t no_draw ∷ before)
large_held None tag t gets before h is all = stand_behind gets (Clear tag t no_draw ∷ before) (subst LargeStand is all)
large_held (Some marks) tag t gets before h has all =
    let s = has.0.back in
    let rest : LargeStand before = stand_behind gets before (subst LargeStand has.1 all) in
    (subst (λ (x : Turn). LargeStandsIn (Clear tag x no_draw)) has.0.same (large_at s.behind (Clear s.tag s.turn s.draw) s.before (subst LargeStand s.is rest)), rest)

-- The marks stand for the history at the repeat.
pub marks_held : (late : Option Marks) (tag : ℕ) (t : Turn) (gets : List Entry) (before h : History) → HasGets late tag t gets before h → MarksStandAt late before
marks_held None tag t gets before h is = tt
marks_held (Some marks) tag t gets before h has = has.0.stand

-- ---- What both ends can do.

pub common_held : (late : Option Marks) (tag : ℕ) (t : Turn) (gets : List Entry) (before h : History) → HasGets late tag t gets before h → AreGets gets → IsUnseenRequest (Clear tag t no_draw) → Settles h
    → common_at (clear_turns (Clear tag t no_draw ∷ before)) ≡ common_at (clear_turns h)
common_held None tag t gets before h is are unseen all = sym (ap (λ (l : History). common_at (clear_turns l)) is ∙ gets_common gets (Clear tag t no_draw ∷ before) are)
common_held (Some marks) tag t gets before h has are unseen all =
    common_stays tag t no_draw before unseen.1 ((settles_held (Some marks) tag t gets before h has all).0 unseen.0)
    ∙ sym (ap (λ (l : History). common_at (clear_turns l)) has.1 ∙ gets_common gets before are)

-- ---- The handle that LargeResponse shows.

handle_idle : (u : Turn) (ts : List Turn) → is_taken u ≡ false → u.effect ≡ NoEffect → handle_of (u ∷ ts) ≡ handle_of ts
handle_idle u ts not_taken none = ap (λ (e : Effect). unwrap_or (handle_in e) (handle_of ts)) none

pub handle_held : (late : Option Marks) (tag : ℕ) (t : Turn) (gets : List Entry) (before h : History) (v : List ℕ) → HasGets late tag t gets before h → AreGets gets → IsUnseenRequest (Clear tag t no_draw)
    → handle_of (clear_with h v).turns ≡ handle_shown t
handle_held None tag t gets before h v is are unseen =
    ap (λ (l : History). handle_of (clear_turns (with_large None v l))) is
    ∙ ap (λ (l : History). handle_of (clear_turns l)) (with_here v (Clear tag t no_draw) before unseen before gets are)
    ∙ gets_handle gets (seen v (Clear tag t no_draw) ∷ before) are ∙ handle_given v (handle_shown t) t.effect (handle_of (clear_turns before)) unseen.0
handle_held (Some marks) tag t gets before h v has are unseen =
    let s = has.0.back in
    let e : Entry = Clear s.tag s.turn s.draw in
    ap (λ (l : History). handle_of (clear_turns (with_large None v l))) has.1
    ∙ ap (λ (l : History). handle_of (clear_turns l)) (large_behind v [] gets before (since_seen gets (gets_since gets are)))
    ∙ gets_handle gets (with_large None v before) are
    ∙ ap (λ (l : History). handle_of (clear_turns (with_large None v l))) s.is
    ∙ ap (λ (l : History). handle_of (clear_turns l)) (large_behind v [] s.behind (e ∷ s.before) (behind_seen s.behind s.are))
    ∙ behind_same handle_of handle_idle s.behind (with_large None v (e ∷ s.before)) s.are
    ∙ ap (λ (b : Bool). handle_of (clear_turns (cond b (seen v e ∷ s.before) (e ∷ with_large None v s.before)))) s.passed.unseen
    ∙ handle_given v (handle_shown s.turn) s.turn.effect (handle_of (clear_turns s.before)) s.passed.unseen ∙ ap handle_shown has.0.same

-- ---- The chunks that were given.

-- An entry that is no CHUNK_GET gives none.
module _ (transfer handle : ℕ) (whole : List ℕ) where
  first_stops : (e : Entry) (h : History) (n : ℕ) → is_clear_get e ≡ false → GiveChunks transfer handle whole (e ∷ h) n → n ≡ 0
  first_stops e h n none given =
      subst (λ (b : Bool). MatchBool b ((before : ℕ) × (id : ℕ) × (n ≡ before + 1) × GivesChunk transfer handle whole before id e × GiveChunks transfer handle whole h before) (n ≡ 0)) none given

  unseen_none : (a b c : Bool) → b ≡ true → (a && not (b || c)) ≡ false
  unseen_none true true c is = refl
  unseen_none false b c is = refl
  unseen_none true false c is = absurd (false≢true is)

  stops_behind : (es : List Entry) (tag : ℕ) (t : Turn) (d : Draw) (h : History) (n : ℕ) → AreBehind es → is_unseen_effect t.effect ≡ true → GiveChunks transfer handle whole (es ++ Clear tag t d ∷ h) n → n ≡ 0
  stops_behind [] tag t d h n are un given = first_stops (Clear tag t d) h n (unseen_none (code_in t.effect == CHUNK_GET) (is_unseen_effect t.effect) (is_some (handle_in t.effect)) un) given
  stops_behind (Clear at u dr ∷ es) tag t d h n are un given =
      first_stops (Clear at u dr) (es ++ Clear tag t d ∷ h) n (ap (λ (x : Effect). (code_in x == CHUNK_GET) && not (is_unseen_effect x || is_some (handle_in x))) are.0.1) given
  stops_behind (Sealed at m u reply dr ∷ es) tag t d h n are un given = first_stops (Sealed at m u reply dr) (es ++ Clear tag t d ∷ h) n refl given
  stops_behind (Queued bytes ∷ es) tag t d h n are un given = absurd are.0
  stops_behind (Ticked seconds ∷ es) tag t d h n are un given = absurd are.0
  stops_behind (Dropped id ∷ es) tag t d h n are un given = first_stops (Dropped id) (es ++ Clear tag t d ∷ h) n refl given

  one_more : (b : Bool) (A : Type 0) (n : ℕ) → b ≡ true → MatchBool b A (n ≡ 0) → A
  one_more true A n is given = given
  one_more false A n is none = absurd (false≢true is)

  -- CHUNK_GETs give all, where what stands before them gives none.
  gets_alone : (gets : List Entry) (h : History) (n : ℕ) → AreGets gets → ((m : ℕ) → GiveChunks transfer handle whole h m → m ≡ 0) → GiveChunks transfer handle whole (gets ++ h) n → AreGiven transfer handle whole gets n
  gets_alone [] h n are stops given = stops n given
  gets_alone (e ∷ es) h n are stops given =
      let it = one_more (is_clear_get e) ((before : ℕ) × (id : ℕ) × (n ≡ before + 1) × GivesChunk transfer handle whole before id e × GiveChunks transfer handle whole (es ++ h) before) n are.0 given in
      (it.0, it.1, it.2, it.3, gets_alone es h it.0 are.1 stops it.4)

  pub given_held : (late : Option Marks) (tag : ℕ) (t : Turn) (gets : List Entry) (before h : History) (n : ℕ) → HasGets late tag t gets before h → AreGets gets → IsUnseenRequest (Clear tag t no_draw) → GiveChunks transfer handle whole h n
      → AreGiven transfer handle whole gets n
  given_held None tag t gets before h n is are unseen given =
      gets_given transfer handle whole gets tag t before n are unseen.0 (subst (λ (l : History). GiveChunks transfer handle whole l n) is given)
  given_held (Some marks) tag t gets before h n has are unseen given =
      let s = has.0.back in
      gets_alone gets before n are
      (λ m some. stops_behind s.behind s.tag s.turn s.draw s.before m s.are s.passed.unseen (subst (λ (l : History). GiveChunks transfer handle whole l m) s.is some))
      (subst (λ (l : History). GiveChunks transfer handle whole l n) has.1 given)

-- ---- The session that the whole begins.

begun_on : (v : List ℕ) (es : List Entry) (h : History) → AreSeen es → begun_by_large None v (es ++ h) ≡ begun_by_large None v h
begun_on v [] h are = refl
begun_on v (e ∷ es) h are = ap (λ (b : Bool). cond b (begun_by (Adds (seen v e))) (begun_by_large None v (es ++ h))) are.0 ∙ begun_on v es h are.1

pub begun_held : (late : Option Marks) (tag : ℕ) (t : Turn) (gets : List Entry) (before h : History) (v : List ℕ) → HasGets late tag t gets before h → AreGets gets → IsUnseenRequest (Clear tag t no_draw)
    → begun_by_large None v h ≡ begun_by (Adds (seen v (Clear tag t no_draw)))
begun_held None tag t gets before h v is are unseen =
    ap (begun_by_large None v) is ∙ begun_on v gets (Clear tag t no_draw ∷ before) (since_seen gets (gets_since gets are))
    ∙ ap (λ (b : Bool). cond b (begun_by (Adds (seen v (Clear tag t no_draw)))) (begun_by_large None v before)) unseen.0
begun_held (Some marks) tag t gets before h v has are unseen =
    let s = has.0.back in
    let e : Entry = Clear s.tag s.turn s.draw in
    ap (begun_by_large None v) has.1 ∙ begun_on v gets before (since_seen gets (gets_since gets are))
    ∙ ap (begun_by_large None v) s.is ∙ begun_on v s.behind (e ∷ s.before) (behind_seen s.behind s.are)
    ∙ ap (λ (b : Bool). cond b (begun_by (Adds (seen v e))) (begun_by_large None v s.before)) s.passed.unseen
    ∙ ap (λ (x : Turn). begun_by (Adds (Clear tag (seen_turn v x) no_draw))) has.0.same

-- ---- How many messages there are.

on_message : (e : Entry) (g h : History) → messages_of g ≡ messages_of h → messages_of (e ∷ g) ≡ messages_of (e ∷ h)
on_message (Clear tag t d) g h same = ap (λ (n : ℕ). n + 1) same
on_message (Sealed tag m t reply d) g h same = ap (λ (n : ℕ). n + 1) same
on_message (Queued bytes) g h same = same
on_message (Ticked seconds) g h same = same
on_message (Dropped id) g h same = same

seen_message : (w : List ℕ) (e : Entry) (h : History) → messages_of (seen w e ∷ h) ≡ messages_of (e ∷ h)
seen_message w (Clear tag t d) h = refl
seen_message w (Sealed tag m t reply d) h = refl
seen_message w (Queued bytes) h = refl
seen_message w (Ticked seconds) h = refl
seen_message w (Dropped id) h = refl

dropped_messages : (ids : List ℕ) (h : History) → messages_of (with_dropped h ids) ≡ messages_of h
dropped_messages [] h = refl
dropped_messages (id ∷ ids) h = dropped_messages ids (Dropped id ∷ h)

large_messages : (w : List ℕ) (h : History) → messages_of (with_large None w h) ≡ messages_of h
large_messages w [] = refl
large_messages w (e ∷ h) = by_is (is_unseen_in None e) (large_messages w h)
  where
    by_is : (b : Bool) → messages_of (with_large None w h) ≡ messages_of h → messages_of (cond b (seen w e ∷ h) (e ∷ with_large None w h)) ≡ messages_of (e ∷ h)
    by_is true rest = seen_message w e h
    by_is false rest = on_message e (with_large None w h) h rest

before_messages : (ids : List ℕ) (h : History) → messages_of (dropped_before_large None ids h) ≡ messages_of h
before_messages ids [] = refl
before_messages ids (e ∷ h) = by_is (is_unseen_in None e) (before_messages ids h)
  where
    by_is : (b : Bool) → messages_of (dropped_before_large None ids h) ≡ messages_of h → messages_of (cond b (e ∷ with_dropped h ids) (e ∷ dropped_before_large None ids h)) ≡ messages_of (e ∷ h)
    by_is true rest = on_message e (with_dropped h ids) h (dropped_messages ids h)
    by_is false rest = on_message e (dropped_before_large None ids h) h rest

-- The bytes and the drops add none.
pub given_messages : (w ids : List ℕ) (h : History) → messages_of (with_large None w (dropped_before_large None ids h)) ≡ messages_of h
given_messages w ids h = large_messages w (dropped_before_large None ids h) ∙ before_messages ids h
