-- Where the order gives a reason, verify data are not alone wrong.
use Rattle.std.proofs.Common.{◌≡◌, ◌<◌, ◌≤◌, ◌-◌, ◌==◌, ◌&&◌, ◌||◌, ◌⊎◌, not, ℕ, suc, zero, List, [], ◌∷◌, refl, sym, ap, ◌∙◌, subst, length, take, drop, Bool, true, false, Option, Some, None, Result, Ok, Err, arith, eqb-true, inl, inr}
use Rattle.std.specs.Prelude.{MatchBool, if◌then◌else◌, bytes_eq, slice_index}
use Rattle.std.proofs.lemmas.Bool.{or_right}
use Rattle.std.proofs.lemmas.Option.{none-some}
use Rattle.std.proofs.lemmas.Slice.Eq.{bytes_eq-Decides}
use Rattle.mctp_framing.specs.Gathering.{Gathered}
use Rattle.mctp_framing.specs.Gathering.Gathered.{Whole, More, Dropped}
use Rattle.mctp_framing.specs.Packet.{PacketFields, parsed}
use Rattle.requester_machine.specs.History.{outstanding}
use Rattle.responder_machine.specs.Responder.Outcome.{Adds}
use Rattle.responder_machine.specs.Setup.{RspSetup, towards}
use Rattle.spdm_basis.proofs.Bools.{and_first, and_second}
use Rattle.spdm_basis.specs.declared.PacketFault.{PacketFault}
use Rattle.spdm_machine.specs.Packets.{gathered_from, body_type}
use Rattle.check_laws.specs.Laws.{OrderIsAlone, OrderIsReason}
use Rattle.check_laws.specs.Order.{asked_why, answered_why, asks_wrong, replies_wrong, coming_why, going_why, is_known, ordered_why, order_why}
use Rattle.check_laws.proofs.Carried.{AreLong, answers_leave, judging_long, led_made}
use Rattle.check_laws.proofs.LongAnswers.{most_hash}
use Rattle.check_laws.proofs.Ordering.{AreOf, before, leads_are}
use Rattle.check_laws.proofs.Reasons.{coming_is, going_is, reason_alone, right_by}
use Rattle.check_laws.proofs.Steadily.{IsSteady, steadily}
use Rattle.capture_machine.specs.Capture.{AsksBy, Begins, Copies, Leads, RepliesBy}
use Rattle.capture_machine.specs.Difference.{Why, IsVerifyApart, IsApartBy, ComesApartFrom, GoesApartTo, ComesApart, GoesApart, RepliesApart, CompletesApart, AreRepliesApart, is_apart, is_finish_apart, finish_in, is_other_type, verify_size}
use Rattle.capture_machine.specs.CapturedRequests.{owes}
use Rattle.capture_machine.specs.LargeAnswers.{judging}
use Rattle.capture_machine.specs.Difference.Why.{UnknownEnd}
use Rattle.capture_machine.specs.Rounds.{Dialogue, Round, dialogue_at}
use Rattle.world_machine.specs.Setup.{Configuration, known_of}

-- A record is of no other type.
of_six : (body : List ℕ) → (body_type body == 6) ≡ true → is_other_type body ≡ false
of_six body six =
    ap (λ (b : Bool). not (body_type body == 5 || b)) six ∙ ap not (or_right (body_type body == 5) true refl)

comes_none : (d : Dialogue) (g : Gathered) → ComesApart d g → asked_why d.round g ≡ None
comes_none d (Whole route body) c =
    let record_owed : (body_type body == 6 && owes d) ≡ true = and_first (body_type body == 6 && owes d) (is_finish_apart d (drop 1 body) (finish_in (outstanding d.requester))) c.1 in
    let six : (body_type body == 6) ≡ true = and_first (body_type body == 6) (owes d) record_owed in
    right_by (is_other_type body) (asks_wrong d.round route.owner route.tag body) (of_six body six) c.0
comes_none d More c = refl
comes_none d (Dropped cause) c = absurd c

-- ---- An answer from which another one is apart.

first_taken : (k : ℕ) (xs : List ℕ) → 0 < k → slice_index (take k xs) 0 ≡ slice_index xs 0
first_taken zero xs more = absurd (omega (arith, more))
first_taken (suc k) [] more = refl
first_taken (suc k) (x ∷ xs) more = refl

-- Bodies that are apart have one type, if they are longer than verify data.
pub one_type : (size : ℕ) (one other : List ℕ) → size < length one → is_apart size one other ≡ true → body_type one ≡ body_type other
one_type size one other more apart =
    let here : (length one == length other && not (bytes_eq one other)) ≡ true = and_first _ (bytes_eq (take (length one - size) one) (take (length other - size) other)) apart in
    let long : length one ≡ length other = eqb-true (length one) (length other) (and_first (length one == length other) _ here) in
    let front : take (length one - size) one ≡ take (length other - size) other = (bytes_eq-Decides _ _).0 (and_second (length one == length other && not (bytes_eq one other)) _ apart) in
    sym (first_taken (length one - size) one (omega arith)) ∙ ap (λ (l : List ℕ). slice_index l 0) front ∙ first_taken (length other - size) other (omega arith)

replies_typed : (r : RspSetup) (d : Dialogue) (round : Round) (answer : List ℕ) → AreLong d.responder → RepliesApart r d round answer → is_other_type answer ≡ false
replies_typed r d round answer all c =
    let made = (answers_leave r d round c.0 c.1 c.2 all c.3).made in
    let few : verify_size d ≤ 48 = most_hash _ in
    let long = made.long c.4 in
    ap (λ (n : ℕ). not (n == 5 || n == 6)) (sym (one_type (verify_size d) c.0 answer (omega arith) c.5)) ∙ made.typed

completes_typed : (r : RspSetup) (d : Dialogue) (round : Round) (answer : List ℕ) → AreLong d.responder → CompletesApart r d round answer → is_other_type answer ≡ false
completes_typed r d round answer all c =
    ap is_other_type (sym c.7) ∙ (led_made r (judging d.fetching round.body d.responder) round.tag round.body (Adds c.3) (judging_long d.fetching round.body d.responder all) c.5).typed

apart_typed : (r : RspSetup) (d : Dialogue) (o : Option Round) (answer : List ℕ) → AreLong d.responder → AreRepliesApart r d o answer → is_other_type answer ≡ false
apart_typed r d None answer all c = absurd c
apart_typed r d (Some round) answer all (inl c) = replies_typed r d round answer all c
apart_typed r d (Some round) answer all (inr c) = completes_typed r d round answer all c

goes_none : (r : RspSetup) (d : Dialogue) (g : Gathered) → AreLong d.responder → GoesApart r d g → answered_why d.round g ≡ None
goes_none r d (Whole route body) all c = right_by (is_other_type body) (replies_wrong d.round route.owner route.tag) (apart_typed r d d.round body all c.1) c.0
goes_none r d More all c = refl
goes_none r d (Dropped cause) all c = absurd c

-- ---- In each walk.

asks_keep : (d : Dialogue) (g : Gathered) (next : Dialogue) → AreLong d.responder → AsksBy d g next → AreLong next.responder
asks_keep d (Whole route body) next all c = by_kind c.2
  where
    by_kind : Copies d route.tag body next ⊎ Begins d route.tag body next → AreLong next.responder
    by_kind (inl k) = subst (λ (x : Dialogue). AreLong x.responder) (sym k.4) all
    by_kind (inr k) = subst (λ (x : Dialogue). AreLong x.responder) (sym k.2.3) all
asks_keep d More next all c = subst (λ (x : Dialogue). AreLong x.responder) (sym c) all
asks_keep d (Dropped cause) next all c = absurd c

replies_keep : (w : Configuration) (d : Dialogue) (g : Gathered) (next : Dialogue) → AreLong d.responder → RepliesBy w d g next → AreLong next.responder
replies_keep w d (Whole route body) next all c =
    let k = c.2 in
    subst (λ (x : Dialogue). AreLong x.responder) (sym k.4.3.2) (answers_leave (towards w.responder (known_of d.setup)) d k.0 body k.4.0 k.4.1 all k.4.2).kept
replies_keep w d More next all c = subst (λ (x : Dialogue). AreLong x.responder) (sym c) all
replies_keep w d (Dropped cause) next all c = absurd c

pub long_steady : (w : Configuration) → IsSteady w (λ d. AreLong d.responder)
long_steady w = record { begins = λ q. tt; asks = asks_keep; replies = replies_keep w }

from_none : (w : Configuration) (older : List (List ℕ)) (p : PacketFields) (ds : List Dialogue) (o : Option Dialogue) → AreOf (before w.responder.eid older) w.requesters ds → dialogue_at p.from ds ≡ o → ComesApartFrom w older p o
    → coming_why w.responder.eid older p (is_known p.from w.requesters) ≡ None
from_none w older p ds None are at c = absurd c
from_none w older p ds (Some d) are at c = sym (coming_is w older p ds d are at) ∙ comes_none d (gathered_from w.responder.eid d.setup.eid older p) c

to_none : (w : Configuration) (older : List (List ℕ)) (p : PacketFields) (ds : List Dialogue) (o : Option Dialogue) → Leads w older ds → dialogue_at p.to ds ≡ o → GoesApartTo w older p o
    → going_why w.responder.eid older p (is_known p.to w.requesters) ≡ None
to_none w older p ds None leads at c = absurd c
to_none w older p ds (Some d) leads at c =
    let all : AreLong d.responder = steadily w (λ x. AreLong x.responder) (long_steady w) older ds p.to d leads at in
    sym (going_is w older p ds d (leads_are w older ds leads) at) ∙ goes_none (towards w.responder (known_of d.setup)) d (gathered_from d.setup.eid w.responder.eid older p) all c

-- By the ends of the packet.
by_ends : (w : Configuration) (older : List (List ℕ)) (p : PacketFields) (ds : List Dialogue) (to from : Bool) (why : Why) → Leads w older ds
    → (if to then coming_why w.responder.eid older p (is_known p.from w.requesters) else (if from then going_why w.responder.eid older p (is_known p.to w.requesters) else Some UnknownEnd)) ≡ Some why
    → MatchBool to (ComesApartFrom w older p (dialogue_at p.from ds)) (MatchBool from (GoesApartTo w older p (dialogue_at p.to ds)) ⊥) → ⊥
by_ends w older p ds true from why leads is c = none-some why (sym (from_none w older p ds (dialogue_at p.from ds) (leads_are w older ds leads) refl c) ∙ is)
by_ends w older p ds false true why leads is c = none-some why (sym (to_none w older p ds (dialogue_at p.to ds) leads refl c) ∙ is)
by_ends w older p ds false false why leads is c = c

apart_by : (w : Configuration) (older : List (List ℕ)) (r : Result PacketFields PacketFault) (ds : List Dialogue) (why : Why) → Leads w older ds → ordered_why w.responder.eid w.requesters older r ≡ Some why → IsApartBy w older ds r → ⊥
apart_by w older (Err fault) ds why leads is c = c
apart_by w older (Ok p) ds why leads is c = by_ends w older p ds (p.to == w.responder.eid) (p.from == w.responder.eid) why leads is c

pub order_is_alone : OrderIsAlone
unfolding IsVerifyApart order_why
order_is_alone w older packet why is c = apart_by w older (parsed packet) c.0 why c.1 is c.2

pub order_is_reason : OrderIsReason
order_is_reason w older packet ds why leads is = reason_alone w older packet ds why leads is (order_is_alone w older packet why is)
