-- What the order tells of a request or an answer that it does not refuse.
use Rattle.std.proofs.Common.{◌≡◌, ◌<◌, ◌==◌, ◌&&◌, ◌||◌, ℕ, List, refl, sym, Bool, true, false, Option, Some, None, cond, arith, eqb-true}
use Rattle.std.proofs.lemmas.Bool.{false≢true}
use Rattle.std.proofs.lemmas.Bool.Decides.{nat_tests}
use Rattle.std.proofs.lemmas.Option.{none-some}
use Rattle.std.specs.Prelude.{nat_lt, not}
use Rattle.mctp_framing.specs.Cutting.{RouteFields}
use Rattle.mctp_framing.specs.Gathering.Gathered.{Whole}
use Rattle.spdm_basis.proofs.Bools.{and_first, and_second}
use Rattle.check_laws.specs.Keeping.{Kept}
use Rattle.check_laws.specs.Order.{answered_why, asked_why, asks_wrong, replies_wrong}
use Rattle.check_laws.specs.RepliesShown.{AnswersRound}
use Rattle.capture_machine.specs.Capture.{IsBody}
use Rattle.capture_machine.specs.Difference.{Why, is_copy, is_other_type, is_waiting, may_come}
use Rattle.capture_machine.specs.Difference.Why.{BadPacket, WrongTurn}
use Rattle.capture_machine.specs.Rounds.{Round, following_tag}
use Rattle.spdm_machine.specs.Packets.{body_type}

-- Two tests that both pass.
no_reason : (a b : Bool) (x y : Why) → cond a (Some x) (cond b (Some y) None) ≡ None → (a ≡ false) × (b ≡ false)
no_reason true b x y none = absurd (none-some x (sym none))
no_reason false true x y none = absurd (none-some y (sym none))
no_reason false false x y none = (refl, refl)

pub unwrapped : (a : Bool) → not a ≡ false → a ≡ true
unwrapped true is = refl
unwrapped false is = absurd (false≢true (sym is))

pub neither : (a b : Bool) → (a || b) ≡ false → (a ≡ false) × (b ≡ false)
neither true b none = absurd (false≢true (sym none))
neither false b none = (refl, none)

is_body : (body : List ℕ) → is_other_type body ≡ false → IsBody body
is_body body is = unwrapped (body_type body == 5 || body_type body == 6) is

-- ---- An answer.

pub record AnswersInTurn (k : Kept) (route : RouteFields) (answer : List ℕ) : Type 0 where
  pub body : IsBody answer
  pub other : is_other_type answer ≡ false
  pub owner : route.owner ≡ false
  pub right : replies_wrong k.round route.owner route.tag ≡ false
  pub round : Round
  pub answers : AnswersRound k route.tag round

waits_in : (k : Kept) (o : Option Round) (tag : ℕ) → k.round ≡ o → is_waiting o tag ≡ true → (round : Round) × AnswersRound k tag round
waits_in k None tag is waits = absurd (false≢true waits)
waits_in k (Some round) tag is waits =
    (round, (is, eqb-true round.tag tag (and_first (round.tag == tag) _ waits), positive round.waiting (and_second (round.tag == tag) _ waits)))
  where
    positive : (n : ℕ) → nat_lt 0 n ≡ true → 0 < n
    positive n test = grind (arith, nat_tests)

pub answers_in_turn : (k : Kept) (route : RouteFields) (answer : List ℕ) → answered_why k.round (Whole route answer) ≡ None → AnswersInTurn k route answer
answers_in_turn k route answer none =
    let tests = no_reason (is_other_type answer) (replies_wrong k.round route.owner route.tag) BadPacket WrongTurn none in
    let right = neither route.owner (not (is_waiting k.round route.tag)) tests.1 in
    let waits = waits_in k k.round route.tag refl (unwrapped (is_waiting k.round route.tag) right.1) in record {
      body = is_body answer tests.0;
      other = tests.0;
      owner = right.0;
      right = tests.1;
      round = waits.0;
      answers = waits.1;
    }

-- ---- A request.

pub record AsksInTurn (k : Kept) (route : RouteFields) (request : List ℕ) : Type 0 where
  pub body : IsBody request
  pub other : is_other_type request ≡ false
  pub owner : route.owner ≡ true
  pub right : asks_wrong k.round route.owner route.tag request ≡ false
  pub tag : is_copy k.round route.tag request ≡ false → route.tag ≡ following_tag k.round

next_by : (copy same comes : Bool) → (not copy && (not same || not comes)) ≡ false → copy ≡ false → same ≡ true
next_by true same comes none is = absurd (false≢true (sym is))
next_by false true comes none is = refl
next_by false false comes none is = absurd (false≢true (sym none))

pub asks_in_turn : (k : Kept) (route : RouteFields) (body : List ℕ) → asked_why k.round (Whole route body) ≡ None → AsksInTurn k route body
asks_in_turn k route body none =
    let tests = no_reason (is_other_type body) (asks_wrong k.round route.owner route.tag body) BadPacket WrongTurn none in
    let right = neither (not route.owner) (not (is_copy k.round route.tag body) && (not (route.tag == following_tag k.round) || not (may_come k.round body))) tests.1 in record {
      body = is_body body tests.0;
      other = tests.0;
      owner = unwrapped route.owner right.0;
      right = tests.1;
      tag = λ other. eqb-true route.tag (following_tag k.round) (next_by (is_copy k.round route.tag body) (route.tag == following_tag k.round) (may_come k.round body) right.1 other);
    }
