-- A session that is begun as the last chunk of a large PSK_EXCHANGE_RSP was fetched is live after it.
use Rattle.std.proofs.Common.{◌≡◌, ◌∙◌, ◌+◌, ◌==◌, ◌&&◌, ℕ, List, [], ◌∷◌, Bool, true, false, cond, Option, Some, None, length, refl, sym, ap, subst, arith, eqb-true}
use Rattle.std.specs.Prelude.{MatchBool, nat_lt, not}
use Rattle.std.proofs.lemmas.Bool.{and_left, and_parts, and_right, false≢true, le-ltb, not-true}
use Rattle.responder_machine.specs.History.{Entry, History, clear_turns, negotiation_of}
use Rattle.responder_machine.specs.History.Entry.{Clear, Sealed, Queued, Ticked, Dropped}
use Rattle.responder_machine.specs.May.{with_dropped}
use Rattle.responder_machine.specs.Responder.Outcome.{Adds}
use Rattle.responder_machine.specs.Session.{Events, after_exchange, after_record, id_in_record, is_live, session_of, when_live}
use Rattle.responder_machine.specs.Session.Event.{Heard}
use Rattle.responder_machine.specs.Setup.{RspSetup}
use Rattle.responder_machine.specs.Turn.{Effect, Turn, answer_in, code_in, takes}
use Rattle.responder_machine.specs.Turn.Effect.{NoEffect, Took, TookData}
use Rattle.spdm_grammar.specs.declared.names.request_code.TheConstants.{CHUNK_GET, END_SESSION, GET_VERSION, PSK_EXCHANGE}
use Rattle.spdm_machine.specs.Sessions.{id_in_exchange}
use Rattle.check_laws.specs.Changes.{IsFew}
use Rattle.check_laws.proofs.BegunSessions.{Begins, count_dropped, plain_begins, same_begins}
use Rattle.capture_machine.proofs.UnseenStands.{IsClearSince, IsQuiet}
use Rattle.capture_machine.specs.CapturedAnswers.{MayHaveLed, MayLeadToEntry, request_in, tag_in}
use Rattle.capture_machine.specs.LargeAnswers.{begun_with, dropped_before_large, id_begun, is_unseen_effect, is_unseen_in, is_untouched, seen, seen_turn, takes_get, touches, with_large}
use Rattle.capture_machine.specs.SessionTable.{begins, begun_count, last_begun}

-- ---- The history behind a last chunk.

-- The large response of the place has these bytes, and these sessions were dropped before it.
abbrev pub settled : Option ℕ → (whole ids : List ℕ) → History → History
settled place whole ids h = with_large place whole (dropped_before_large place ids h)

pub settled_here : (place : Option ℕ) (w ids : List ℕ) (e : Entry) (h : History) → is_unseen_in place e ≡ true → settled place w ids (e ∷ h) ≡ seen w e ∷ with_dropped h ids
settled_here place w ids e h is =
    ap (λ (b : Bool). with_large place w (cond b (e ∷ with_dropped h ids) (e ∷ dropped_before_large place ids h))) is
    ∙ ap (λ (b : Bool). cond b (seen w e ∷ with_dropped h ids) (e ∷ with_large place w (with_dropped h ids))) is

pub settled_behind : (place : Option ℕ) (w ids : List ℕ) (e : Entry) (h : History) → is_unseen_in place e ≡ false → settled place w ids (e ∷ h) ≡ e ∷ settled place w ids h
settled_behind place w ids e h not_it =
    ap (λ (b : Bool). with_large place w (cond b (e ∷ with_dropped h ids) (e ∷ dropped_before_large place ids h))) not_it
    ∙ ap (λ (b : Bool). cond b (seen w e ∷ dropped_before_large place ids h) (e ∷ settled place w ids h)) not_it

-- ---- A quiet entry.

-- Where more were begun than so many, the last one is this.
pub record IsBegunAs (n : ℕ) (id : Option ℕ) (h : History) : Type 0 where
  pub begun : Begins n h
  pub is_last : nat_lt n (begun_count h) ≡ true → Some (last_begun h) ≡ id

pub quiet_session : (version psk : Bool) (x s : Events) → version ≡ false → psk ≡ false → cond version [] (cond psk x s) ≡ s
quiet_session version psk x s one two = ap (λ b. cond b [] (cond psk x s)) one ∙ ap (λ b. cond b x s) two

-- Where counts, the last one and the sessions are the same.
pub alike_begins : (n : ℕ) (next h : History) → begun_count next ≡ begun_count h → last_begun next ≡ last_begun h
    → (nat_lt n (begun_count h) ≡ true → is_live (session_of (last_begun h) h) ≡ true → is_live (session_of (last_begun h) next) ≡ true) → Begins n h → Begins n next
alike_begins n next h count last live b = record {
  live = λ more. let was = subst (λ (m : ℕ). nat_lt n m ≡ true) count more in subst (λ (id : ℕ). is_live (session_of id next) ≡ true) (sym last) (live was (b.live was));
  few = λ more. subst IsFew (sym last) (b.few (subst (λ (m : ℕ). nat_lt n m ≡ true) count more));
}

pub alike_as : (n : ℕ) (id : Option ℕ) (next h : History) → begun_count next ≡ begun_count h → last_begun next ≡ last_begun h
    → (nat_lt n (begun_count h) ≡ true → is_live (session_of (last_begun h) h) ≡ true → is_live (session_of (last_begun h) next) ≡ true) → IsBegunAs n id h → IsBegunAs n id next
alike_as n id next h count last live b = record {
  begun = alike_begins n next h count last live b.begun;
  is_last = λ more. ap Some last ∙ b.is_last (subst (λ (m : ℕ). nat_lt n m ≡ true) count more);
}

pub quiet_live : (tag : ℕ) (t : Turn) (d : _) (h : History) → (takes GET_VERSION t ≡ false) × (takes PSK_EXCHANGE t ≡ false) → is_live (session_of (last_begun h) (Clear tag t d ∷ h)) ≡ is_live (session_of (last_begun h) h)
unfolding session_of
quiet_live tag t d h quiet =
    ap is_live (quiet_session (takes GET_VERSION t) (takes PSK_EXCHANGE t) (after_exchange (last_begun h) (session_of (last_begun h) h) t (negotiation_of (clear_turns h))) (session_of (last_begun h) h) quiet.0 quiet.1)

-- It is no record of that session, and it is not that session that was dropped.
pub quiet_begins : (n : ℕ) (id : Option ℕ) (e : Entry) (h : History) → IsQuiet e → touches id e ≡ false → IsBegunAs n id h → IsBegunAs n id (e ∷ h)
unfolding session_of
quiet_begins n id (Clear tag t d) h quiet other b =
    let none : begins t ≡ false = and_left (takes PSK_EXCHANGE t) _ quiet.1 in
    alike_as n id (Clear tag t d ∷ h) h (ap (λ x. cond x (begun_count h + 1) (begun_count h)) none) (ap (λ x. cond x (id_in_exchange (answer_in t.effect)) (last_begun h)) none) (λ more live. quiet_live tag t d h quiet ∙ live) b
quiet_begins n id (Sealed tag sealed t reply d) h quiet other b =
    alike_as n id (Sealed tag sealed t reply d ∷ h) h refl refl
    (λ more live.
    let not_it : (id_in_record sealed == last_begun h) ≡ false = ap (λ (o : Option ℕ). touches o (Sealed tag sealed t reply d)) (b.is_last more) ∙ other in
    ap (λ (x : Bool). is_live (cond x (after_record (session_of (last_begun h) h) sealed t reply) (session_of (last_begun h) h))) not_it ∙ live)
    b
quiet_begins n id (Dropped which) h quiet other b =
    alike_as n id (Dropped which ∷ h) h refl refl
    (λ more live.
    let not_it : (which == last_begun h) ≡ false = ap (λ (o : Option ℕ). touches o (Dropped which)) (b.is_last more) ∙ other in
    ap (λ (x : Bool). is_live (cond x [] (session_of (last_begun h) h))) not_it ∙ live)
    b
quiet_begins n id (Queued bytes) h quiet other b = absurd quiet
quiet_begins n id (Ticked seconds) h quiet other b = absurd quiet

pub quiet_count : (e : Entry) (h : History) → IsQuiet e → begun_count (e ∷ h) ≡ begun_count h
quiet_count (Clear tag t d) h quiet = ap (λ x. cond x (begun_count h + 1) (begun_count h)) (and_left (takes PSK_EXCHANGE t) _ quiet.1)
quiet_count (Sealed tag sealed t reply d) h quiet = refl
quiet_count (Dropped id) h quiet = refl
quiet_count (Queued bytes) h quiet = absurd quiet
quiet_count (Ticked seconds) h quiet = absurd quiet

-- ---- CHUNK_GET.

pub get_quiet : (t : Turn) → takes CHUNK_GET t ≡ true → (takes GET_VERSION t ≡ false) × (takes PSK_EXCHANGE t ≡ false)
get_quiet t gets =
    let code : code_in t.effect ≡ CHUNK_GET = eqb-true (code_in t.effect) CHUNK_GET gets in
    (ap (λ n. n == GET_VERSION) code, ap (λ n. n == PSK_EXCHANGE) code)

pub live_when : (s : Events) (sealed : List ℕ) (t : Turn) (reply : List ℕ) → is_live s ≡ true → is_live (when_live s (Heard sealed t reply)) ≡ true
live_when [] sealed t reply live = live
live_when (e ∷ s) sealed t reply live = refl

pub record_live : (here ends : Bool) (s : Events) (sealed : List ℕ) (t : Turn) (reply : List ℕ) → ends ≡ false → is_live s ≡ true → is_live (cond here (cond ends [] (when_live s (Heard sealed t reply))) s) ≡ true
record_live true true s sealed t reply none live = absurd (false≢true (sym none))
record_live true false s sealed t reply none live = live_when s sealed t reply live
record_live false ends s sealed t reply none live = live

pub get_begins : (n : ℕ) (e : Entry) (h : History) → takes_get e ≡ true → Begins n h → Begins n (e ∷ h)
unfolding session_of
get_begins n (Clear tag t d) h gets b =
    let quiet = get_quiet t gets in
    let none : begins t ≡ false = and_left (takes PSK_EXCHANGE t) _ quiet.1 in
    alike_begins n (Clear tag t d ∷ h) h (ap (λ x. cond x (begun_count h + 1) (begun_count h)) none) (ap (λ x. cond x (id_in_exchange (answer_in t.effect)) (last_begun h)) none) (λ more live. quiet_live tag t d h quiet ∙ live) b
get_begins n (Sealed tag sealed t reply d) h gets b =
    let none : takes END_SESSION t ≡ false = ap (λ m. m == END_SESSION) (eqb-true (code_in t.effect) CHUNK_GET gets) in
    alike_begins n (Sealed tag sealed t reply d ∷ h) h refl refl
    (λ more live. record_live (id_in_record sealed == last_begun h) (takes END_SESSION t) (session_of (last_begun h) h) sealed t reply none live) b
get_begins n (Queued bytes) h gets b = absurd (false≢true gets)
get_begins n (Ticked seconds) h gets b = absurd (false≢true gets)
get_begins n (Dropped id) h gets b = absurd (false≢true gets)

-- ---- The large answer itself.

pub none_begun : (x : Effect) → is_unseen_effect x ≡ true → ((code_in x == PSK_EXCHANGE) && not (length (answer_in x) == 0)) ≡ false
none_begun NoEffect is = refl
none_begun (Took asked m [] large) is = and_right _ false refl
none_begun (Took asked m (b ∷ bs) large) is = absurd (false≢true is)
none_begun (TookData bytes answer) is = refl

-- One that was not seen begins none.
pub unseen_count : (e : Entry) (h : History) → is_unseen_in None e ≡ true → begun_count (e ∷ h) ≡ begun_count h
unseen_count (Clear tag t d) h is = ap (λ b. cond b (begun_count h + 1) (begun_count h)) (none_begun t.effect is)
unseen_count (Sealed tag sealed t reply d) h is = absurd (false≢true is)
unseen_count (Queued bytes) h is = absurd (false≢true is)
unseen_count (Ticked seconds) h is = absurd (false≢true is)
unseen_count (Dropped id) h is = absurd (false≢true is)

pub as_by : (n : ℕ) (psk full : Bool) (id last : ℕ) (g : History) → begun_count g ≡ n → nat_lt n (cond (psk && full) (begun_count g + 1) (begun_count g)) ≡ true → Some (cond (psk && full) id last) ≡ cond psk (Some id) None
as_by n true true id last g same more = refl
as_by n true false id last g same more = absurd (false≢true (sym (le-ltb n (begun_count g) (omega (arith, same))) ∙ more))
as_by n false full id last g same more = absurd (false≢true (sym (le-ltb n (begun_count g) (omega (arith, same))) ∙ more))

-- With its bytes it begins the last one.
pub seen_as : (w : List ℕ) (e : Entry) (g : History) (n : ℕ) → begun_count g ≡ n → is_unseen_in None e ≡ true → nat_lt n (begun_count (seen w e ∷ g)) ≡ true → Some (last_begun (seen w e ∷ g)) ≡ id_begun (seen w e)
seen_as w (Clear tag t d) g n same is more =
    let u : Turn = seen_turn w t in
    as_by n (takes PSK_EXCHANGE u) (not (length (answer_in u.effect) == 0)) (id_in_exchange (answer_in u.effect)) (last_begun g) g same more
seen_as w (Sealed tag sealed t reply d) g n same is more = absurd (false≢true is)
seen_as w (Queued bytes) g n same is more = absurd (false≢true is)
seen_as w (Ticked seconds) g n same is more = absurd (false≢true is)
seen_as w (Dropped id) g n same is more = absurd (false≢true is)

module _ (r : RspSetup) (w ids : List ℕ) where
  seen_here : (e : Entry) (h : History) → is_unseen_in None e ≡ true → MayLeadToEntry r ids h (seen w e) → IsBegunAs (begun_count (e ∷ h)) (id_begun (seen w e)) (seen w e ∷ with_dropped h ids)
  seen_here e h is led =
      subst (λ (n : ℕ). IsBegunAs n (id_begun (seen w e)) (seen w e ∷ with_dropped h ids)) (sym (unseen_count e h is)) (record {
        begun = plain_begins r (with_dropped h ids) h ids (tag_in (seen w e)) (request_in (seen w e)) (Adds (seen w e)) led.0.1;
        is_last = seen_as w e (with_dropped h ids) (begun_count h) (count_dropped ids h) is;
      })

  by_unseen : (e : Entry) (h : History) (b : Bool) → is_unseen_in None e ≡ b → MatchBool b (Unit {0}) (IsQuiet e × IsClearSince h) → MatchBool b (MayLeadToEntry r ids h (seen w e)) (MayHaveLed r None w ids h)
      → cond b true (not (touches (cond b (id_begun (seen w e)) (begun_with None w h)) e) && is_untouched None (cond b (id_begun (seen w e)) (begun_with None w h)) h) ≡ true
      → (IsClearSince h → MayHaveLed r None w ids h → is_untouched None (begun_with None w h) h ≡ true → IsBegunAs (begun_count h) (begun_with None w h) (settled None w ids h))
      → IsBegunAs (begun_count (e ∷ h)) (cond b (id_begun (seen w e)) (begun_with None w h)) (settled None w ids (e ∷ h))
  by_unseen e h true is since led untouched rest = subst (IsBegunAs (begun_count (e ∷ h)) (id_begun (seen w e))) (sym (settled_here None w ids e h is)) (seen_here e h is led)
  by_unseen e h false is since led untouched rest =
      let id : Option ℕ = begun_with None w h in
      let parts = and_parts (not (touches id e)) _ untouched in
      let before = quiet_begins (begun_count h) id e (settled None w ids h) since.0 (not-true (touches id e) parts.0) (rest since.1 led parts.1) in
      subst (λ (n : ℕ). IsBegunAs n id (settled None w ids (e ∷ h))) (sym (quiet_count e h since.0)) (subst (IsBegunAs (begun_count h) id) (sym (settled_behind None w ids e h is)) before)

  pub clear_begins : (h : History) → IsClearSince h → MayHaveLed r None w ids h → is_untouched None (begun_with None w h) h ≡ true → IsBegunAs (begun_count h) (begun_with None w h) (settled None w ids h)
  clear_begins [] since led untouched = absurd since
  clear_begins (e ∷ h) since led untouched = by_unseen e h (is_unseen_in None e) refl since led untouched (clear_begins h)

-- ---- In a session.

pub counted : (e : Entry) (h g : History) → begun_count h ≡ begun_count g → begun_count (e ∷ h) ≡ begun_count (e ∷ g)
counted (Clear tag t d) h g same = ap (λ n. cond (begins t) (n + 1) n) same
counted (Sealed tag sealed t reply d) h g same = same
counted (Queued bytes) h g same = same
counted (Ticked seconds) h g same = same
counted (Dropped id) h g same = same

pub sealed_count : (w : List ℕ) (id : ℕ) (e : Entry) (h g : History) → is_unseen_in (Some id) e ≡ true → begun_count g ≡ begun_count h → begun_count (seen w e ∷ g) ≡ begun_count (e ∷ h)
sealed_count w id (Sealed tag sealed t reply d) h g is same = same
sealed_count w id (Clear tag t d) h g is same = absurd (false≢true is)
sealed_count w id (Queued bytes) h g is same = absurd (false≢true is)
sealed_count w id (Ticked seconds) h g is same = absurd (false≢true is)
sealed_count w id (Dropped which) h g is same = absurd (false≢true is)

pub count_within : (w ids : List ℕ) (id : ℕ) (h : History) → begun_count (settled (Some id) w ids h) ≡ begun_count h
count_within w ids id [] = refl
count_within w ids id (e ∷ h) = by_is (is_unseen_in (Some id) e) refl (count_within w ids id h)
  where
    by_is : (b : Bool) → is_unseen_in (Some id) e ≡ b → begun_count (settled (Some id) w ids h) ≡ begun_count h → begun_count (settled (Some id) w ids (e ∷ h)) ≡ begun_count (e ∷ h)
    by_is true is rest = ap begun_count (settled_here (Some id) w ids e h is) ∙ sealed_count w id e h (with_dropped h ids) is (count_dropped ids h)
    by_is false is rest = ap begun_count (settled_behind (Some id) w ids e h is) ∙ counted e (settled (Some id) w ids h) h rest

-- ---- Of either place.

pub settled_begins : (r : RspSetup) (place : Option ℕ) (w ids : List ℕ) (h : History) → (place ≡ None → IsClearSince h) → MayHaveLed r place w ids h → is_untouched place (begun_with place w h) h ≡ true → Begins (begun_count h) (settled place w ids h)
settled_begins r None w ids h since led untouched = (clear_begins r w ids h (since refl) led untouched).begun
settled_begins r (Some id) w ids h since led untouched = same_begins (begun_count h) (settled (Some id) w ids h) (count_within w ids id h)
