-- The sessions that an end shows past their handshake are those that it holds open.
use Rattle.std.proofs.Common.{refl, ◌≡◌, ◌∙◌, ◌+◌, ◌≤◌, ◌++◌, ◌∷◌, [], ℕ, List, Bool, true, false, Option, Some, None, ap, sym, arith, min, ◌-◌, ◌^◌, ◌*◌}
use Rattle.std.proofs.lemmas.Bool.{false≢true}
use Rattle.std.proofs.lemmas.List.Sums.{sum_by-cons}
use Rattle.std.specs.Prelude.{◌&&◌, if◌then◌else◌, count_by, cond}
use Rattle.link_world.specs.HeldOpen.{count_at, is_open, live_with}
use Rattle.requester_machine.proofs.MadeOrder.{in_order}
use Rattle.requester_machine.specs.Does.{IsMade}
use Rattle.requester_machine.specs.Order.{IsOrdered}
use Rattle.requester_machine.specs.Requesting.{Requesting}
use Rattle.requester_machine.specs.Session as asking
use Rattle.requester_machine.specs.Session.Step.{Accepted, Asked, Started, Took}
use Rattle.requester_machine.specs.Setup.{ReqSetup}
use Rattle.requester_machine.specs.Shown as shown
use Rattle.responder.specs.Standing.{views_at}
use Rattle.responder_machine.specs.Heard as heard
use Rattle.responder_machine.specs.History as served
use Rattle.responder_machine.specs.Place.{held_of}
use Rattle.responder_machine.specs.Responding.{Connection, connection_of}
use Rattle.responder_machine.specs.Session as serving
use Rattle.spdm_grammar.specs.declared.told.session_view.SessionView.{SessionView}
use Rattle.spdm_machine.specs.Sessions.{is_past_handshake, one_if}
use Rattle.world_machine.specs.Agreement.{holds}
use Rattle.world_machine.specs.Totals.{asked_live}

-- ---- Counts of views.

abbrev pub open_in : List SessionView → ℕ
open_in views = count_by is_open views

first_view : (view : SessionView) (views : List SessionView) → open_in (view ∷ views) ≡ one_if (is_open view) + open_in views
first_view view views = sum_by-cons (λ (v : SessionView). cond (is_open v) 1 0) view views

both_views : (xs ys : List SessionView) → open_in (xs ++ ys) ≡ open_in xs + open_in ys
both_views [] ys = omega arith
both_views (x ∷ xs) ys =
    let rest = both_views xs ys in
    let front = first_view x (xs ++ ys) in
    let own = first_view x xs in
    omega (arith, rest, front, own)

four_views : (a b c d : List SessionView) → open_in (a ++ b ++ c ++ d) ≡ open_in a + open_in b + open_in c + open_in d
four_views a b c d =
    let first = both_views (a ++ b ++ c) d in
    let second = both_views (a ++ b) c in
    let third = both_views a b in
    omega (arith, first, second, third)

one_view : (view : SessionView) (b : Bool) → is_open view ≡ b → open_in (view ∷ []) ≡ one_if b
one_view view b is =
    let front = first_view view [] in
    let same : one_if (is_open view) ≡ one_if b = ap one_if is in
    omega (arith, front, same)

-- ---- A requester.

-- What is established was accepted before.
was_accepted : (s : asking.Steps) → IsOrdered s → is_past_handshake (asking.stage_of s) ≡ true → asking.is_accepted s ≡ true
was_accepted [] ordered past = absurd (false≢true past)
was_accepted (Started n x ∷ []) ordered past = absurd (false≢true past)
was_accepted (Started n x ∷ (step ∷ older)) ordered past = absurd (false≢true (sym ordered))
was_accepted (Accepted answer ∷ older) ordered past = refl
was_accepted (Asked ask inner sealed ∷ older) ordered past = ordered.1
was_accepted (Took sealed inner effect ∷ []) ordered past = absurd (false≢true ordered.0)
was_accepted (Took sealed inner effect ∷ (Started n x ∷ older)) ordered past = absurd (false≢true ordered.0)
was_accepted (Took sealed inner effect ∷ (Accepted answer ∷ older)) ordered past = absurd (false≢true ordered.0)
was_accepted (Took sealed inner effect ∷ (Asked ask message record_sealed ∷ older)) ordered past = ordered.1.1
was_accepted (Took sealed inner effect ∷ (Took other message before ∷ older)) ordered past = absurd (false≢true ordered.0)

accepted_lives : (s : asking.Steps) → asking.is_accepted s ≡ true → asking.is_live s ≡ true
accepted_lives [] accepted = absurd (false≢true accepted)
accepted_lives (step ∷ s) accepted = refl

if_accepted : (view : SessionView) (accepted live past : Bool) → is_open view ≡ past → (past ≡ true → accepted ≡ true) → (accepted ≡ true → live ≡ true)
    → open_in (if accepted then view ∷ [] else []) ≡ one_if (live && past)
if_accepted view true true past is was lives = one_view view past is
if_accepted view true false past is was lives = absurd (false≢true (lives refl))
if_accepted view false live true is was lives = absurd (false≢true (was refl))
if_accepted view false true false is was lives = refl
if_accepted view false false false is was lives = refl

one_asked : (s : asking.Steps) → IsOrdered s → open_in (shown.view_if_accepted s) ≡ one_if (asking.is_live s && is_past_handshake (asking.stage_of s))
unfolding shown.view_of
one_asked s ordered =
    if_accepted (shown.view_of s) (asking.is_accepted s) (asking.is_live s) (is_past_handshake (asking.stage_of s)) refl (was_accepted s ordered) (accepted_lives s)

pub asked_views : (q : ReqSetup) (a : Requesting) → IsMade q a.history → open_in (shown.views_of a.history) ≡ asked_live a
asked_views q a made =
    let h = a.history in
    let own : (id : ℕ) → open_in (shown.view_if_accepted (asking.session_of id h)) ≡ one_if (holds h id) = λ id. one_asked (asking.session_of id h) (in_order q h id made).ordered in
    four_views (shown.view_if_accepted (asking.session_of 1 h)) (shown.view_if_accepted (asking.session_of 2 h)) (shown.view_if_accepted (asking.session_of 3 h)) (shown.view_if_accepted (asking.session_of 4 h))
    ∙ ap (λ (n : ℕ). n + open_in (shown.view_if_accepted (asking.session_of 2 h)) + open_in (shown.view_if_accepted (asking.session_of 3 h)) + open_in (shown.view_if_accepted (asking.session_of 4 h))) (own 1)
    ∙ ap (λ (n : ℕ). one_if (holds h 1) + n + open_in (shown.view_if_accepted (asking.session_of 3 h)) + open_in (shown.view_if_accepted (asking.session_of 4 h))) (own 2)
    ∙ ap (λ (n : ℕ). one_if (holds h 1) + one_if (holds h 2) + n + open_in (shown.view_if_accepted (asking.session_of 4 h))) (own 3)
    ∙ ap (λ (n : ℕ). one_if (holds h 1) + one_if (holds h 2) + one_if (holds h 3) + n) (own 4)

-- ---- The responder.

one_served : (s : serving.Events) → open_in (heard.view_if_live s) ≡ one_if (serving.is_live s && is_past_handshake (serving.stage_of s))
unfolding heard.view_of
one_served [] = refl
one_served (e ∷ s) = one_view (heard.view_of (e ∷ s)) (is_past_handshake (serving.stage_of (e ∷ s))) refl

pub served_views : (h : served.History) → open_in (heard.views_of h) ≡ held_of h
served_views h =
    let own : (id : ℕ) → open_in (heard.view_if_live (serving.session_of id h)) ≡ one_if (serving.is_live (serving.session_of id h) && is_past_handshake (serving.stage_of (serving.session_of id h))) = λ id. one_served (serving.session_of id h) in
    let view : ℕ → List SessionView = λ id. heard.view_if_live (serving.session_of id h) in
    let is : ℕ → ℕ = λ id. one_if (serving.is_live (serving.session_of id h) && is_past_handshake (serving.stage_of (serving.session_of id h))) in
    four_views (view 1) (view 2) (view 3) (view 4)
    ∙ ap (λ (n : ℕ). n + open_in (view 2) + open_in (view 3) + open_in (view 4)) (own 1)
    ∙ ap (λ (n : ℕ). is 1 + n + open_in (view 3) + open_in (view 4)) (own 2)
    ∙ ap (λ (n : ℕ). is 1 + is 2 + n + open_in (view 4)) (own 3)
    ∙ ap (λ (n : ℕ). is 1 + is 2 + is 3 + n) (own 4)

-- ---- There are few of them.

one_most : (b : Bool) → one_if b ≤ 1
one_most true = omega arith
one_most false = omega arith

four_most : (a b c d : Bool) → one_if a + one_if b + one_if c + one_if d ≤ 4
four_most a b c d =
    let first = one_most a in
    let second = one_most b in
    let third = one_most c in
    let fourth = one_most d in
    omega (arith, first, second, third, fourth)

pub asked_most : (a : Requesting) → asked_live a ≤ 4
asked_most a = four_most _ _ _ _

pub served_most : (c : Option Connection) → count_at (λ (d : Connection). held_of d.history) c ≤ 4
served_most None = omega arith
served_most (Some c) = four_most _ _ _ _

sum_most : (m n : ℕ) → m ≤ 4 → n ≤ 4 → m + n ≤ 8
sum_most m n p q = omega (arith, p, q)

pub with_most : (a : Requesting) (cs : List Connection) → live_with a cs ≤ 8
with_most a cs = sum_most (asked_live a) (count_at (λ (d : Connection). held_of d.history) (connection_of a.setup.eid cs)) (asked_most a) (served_most (connection_of a.setup.eid cs))

-- ---- As the program counts them.

at_views : (c : Option Connection) → open_in (views_at c) ≡ count_at (λ (d : Connection). held_of d.history) c
at_views None = refl
at_views (Some c) = served_views c.history

both_counted : (x y z m n : ℕ) → x ≡ min m (2 ^ 32 - 1) → y ≡ min n (2 ^ 32 - 1) → z ≡ min (x + y) (2 ^ 32 - 1) → m ≤ 4 → n ≤ 4 → z ≡ m + n
both_counted x y z m n first second both p q = omega (arith, first, second, both, p, q)

pub counted_with : (a : Requesting) (cs : List Connection) (eid x y z : ℕ) (asked answered : List SessionView) → IsMade a.setup a.history → a.setup.eid ≡ eid
    → asked ≡ shown.views_of a.history → answered ≡ views_at (connection_of eid cs) → x ≡ min (open_in asked) (2 ^ 32 - 1) → y ≡ min (open_in answered) (2 ^ 32 - 1) → z ≡ min (x + y) (2 ^ 32 - 1) → z ≡ live_with a cs
counted_with a cs eid x y z asked answered made own is are first second both =
    let mine : open_in asked ≡ asked_live a = ap open_in is ∙ asked_views a.setup a made in
    let theirs : open_in answered ≡ count_at (λ (d : Connection). held_of d.history) (connection_of a.setup.eid cs) =
    ap open_in are ∙ at_views (connection_of eid cs) ∙ ap (λ (n : ℕ). count_at (λ (d : Connection). held_of d.history) (connection_of n cs)) (sym own) in
    both_counted x y z (asked_live a) (count_at (λ (d : Connection). held_of d.history) (connection_of a.setup.eid cs))
    (first ∙ ap (λ (n : ℕ). min n (2 ^ 32 - 1)) mine) (second ∙ ap (λ (n : ℕ). min n (2 ^ 32 - 1)) theirs) both (asked_most a) (served_most (connection_of a.setup.eid cs))

-- One requester more: there are few in all.
pub counted_more : (live own next before most x : ℕ) → live ≡ before → own ≡ x → next ≡ min (live + own) (2 ^ 32 - 1) → before + x ≤ 8 * most → most ≤ 8 → next ≡ before + x
counted_more live own next before most x is its more few count = omega (arith, is, its, more, few, count)
