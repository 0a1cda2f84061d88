-- What is kept of a requester, and what a packet makes of it.
use Rattle.std.proofs.Common.{◌≡◌, ◌≢◌, ◌≤◌, ◌+◌, ◌==◌, ◌&&◌, not, ℕ, List, [], ◌∷◌, refl, sym, ap, ◌∙◌, subst, length, filter, Bool, true, false, Option, Some, None, Result, Ok, Err, cond, arith, eqb-true, ne_eqb}
use Rattle.mctp_framing.specs.Assembling.{Assembly, StandsForGroup, StandsFor}
use Rattle.mctp_framing.specs.Gathering.{Gathered, Receiver, gathered, group_of, is_ours}
use Rattle.mctp_framing.specs.Gathering.Gathered.{Whole, More, Dropped}
use Rattle.mctp_framing.specs.Lending.{TakesPacket}
use Rattle.mctp_framing.specs.Packet.{PacketFields, parsed}
use Rattle.spdm_basis.proofs.Bools.{and_first}
use Rattle.spdm_basis.specs.declared.PacketFault.{PacketFault}
use Rattle.spdm_machine.specs.Packets.{fields_in, fields_with, gathered_from}
use Rattle.check_laws.specs.Judged.{IsPair, Pair, receiver_of, waiting_in}
use Rattle.check_laws.specs.Order.{is_answer, is_request, round_after, round_answered, round_asked, round_by_answer, round_by_request, round_of}
use Rattle.check_laws.proofs.Ordering.{answered_is, asked_is, stays}
use Rattle.capture_machine.specs.Difference.{is_copy}
use Rattle.capture_machine.specs.Rounds.{Round}

-- ---- Requests that wait.

one_more : (round : Round) (tag : ℕ) (body : List ℕ) (b : Bool) → waiting_in (cond b (Some (record round { waiting = round.waiting + 1 })) (Some (record { tag = tag; body = body; waiting = 1; answered = false }))) ≤ round.waiting + 1
one_more round tag body true = omega arith
one_more round tag body false = omega arith

asked_few : (o : Option Round) (tag : ℕ) (body : List ℕ) → waiting_in (round_asked o tag body) ≤ waiting_in o + 1
asked_few None tag body = omega arith
asked_few (Some round) tag body = one_more round tag body (is_copy (Some round) tag body)

answered_few : (o : Option Round) → waiting_in (round_answered o) ≤ waiting_in o + 1
answered_few None = omega arith
answered_few (Some round) = omega arith

request_few : (o : Option Round) (g : Gathered) → waiting_in (round_by_request o g) ≤ waiting_in o + 1
request_few o (Whole route body) = asked_few o route.tag body
request_few o More = omega arith
request_few o (Dropped cause) = omega arith

answer_few : (o : Option Round) (g : Gathered) → waiting_in (round_by_answer o g) ≤ waiting_in o + 1
answer_few o (Whole route body) = answered_few o
answer_few o More = omega arith
answer_few o (Dropped cause) = omega arith

either_few : (o p q r : Option Round) (b c : Bool) → waiting_in p ≤ waiting_in o + 1 → waiting_in q ≤ waiting_in o + 1 → waiting_in r ≤ waiting_in o + 1 → waiting_in (cond b p (cond c q r)) ≤ waiting_in o + 1
either_few o p q r true c one two three = one
either_few o p q r false true one two three = two
either_few o p q r false false one two three = three

after_few : (own eid : ℕ) (older : List (List ℕ)) (o : Option Round) (r : Result PacketFields PacketFault) → waiting_in (round_after own eid older o r) ≤ waiting_in o + 1
after_few own eid older o (Err fault) = omega arith
after_few own eid older o (Ok p) =
    either_few o _ _ o (is_request own eid p) (is_answer own eid p) (request_few o (gathered_from own eid older p)) (answer_few o (gathered_from eid own older p)) (omega arith)

-- No more wait than packets came.
pub few_waiting : (own eid : ℕ) (older : List (List ℕ)) → waiting_in (round_of own eid older) ≤ length older
few_waiting own eid [] = omega arith
few_waiting own eid (packet ∷ older) =
    let before = few_waiting own eid older in
    let one = after_few own eid older (round_of own eid older) (parsed packet) in
    omega (arith, before, one)

-- ---- Packets of others.

pub other_gathers : (a : Assembly) (own peer : ℕ) (p : PacketFields) (given : List PacketFields) → a.receiver ≡ receiver_of own peer → is_ours (receiver_of own peer) p ≡ false → StandsFor a given → StandsFor a (p ∷ given)
other_gathers a own peer p given of other stands =
    let none : is_ours a.receiver p ≡ false = ap (λ (r : Receiver). is_ours r p) of ∙ other in
    subst (λ (b : Bool). StandsForGroup a.receiver.limit a.unfinished a.body (group_of (cond b (p ∷ filter (is_ours a.receiver) given) (filter (is_ours a.receiver) given)))) (sym none) stands

pub behind : (older : List (List ℕ)) (packet : List ℕ) (p : PacketFields) → parsed packet ≡ Ok p → fields_in (packet ∷ older) ≡ p ∷ fields_in older
behind older packet p is = ap (λ (r : Result PacketFields PacketFault). fields_with r (fields_in older)) is

off_second : (a b : Bool) → (a && b) ≡ false → (b && a) ≡ false
off_second true true off = off
off_second true false off = refl
off_second false true off = refl
off_second false false off = refl

by_end : (own eid : ℕ) (p : PacketFields) (b : Bool) → (p.to == own) ≡ b → eid ≢ own → (not b && (p.from == own && p.to == eid)) ≡ false → (p.to == eid && p.from == own) ≡ false
by_end own eid p true to apart other = ap (λ (b : Bool). b && p.from == own) (ne_eqb p.to eid (λ same. apart (sym same ∙ eqb-true _ _ to)))
by_end own eid p false to apart other = off_second (p.from == own) (p.to == eid) other

-- It is no answer for this requester.
none_answered : (own eid : ℕ) (p : PacketFields) → eid ≢ own → is_answer own eid p ≡ false → is_ours (receiver_of eid own) p ≡ false
none_answered own eid p apart other = by_end own eid p (p.to == own) refl apart other

pub stays_pair : (x : Pair) (own eid : ℕ) (older : List (List ℕ)) (packet : List ℕ) (p : PacketFields) → parsed packet ≡ Ok p → eid ≢ own → is_request own eid p ≡ false → is_answer own eid p ≡ false
    → IsPair x own eid older → IsPair x own eid (packet ∷ older)
stays_pair x own eid older packet p is apart ask other s = record {
  at = s.at;
  asks_of = s.asks_of;
  asks = subst (StandsFor x.requests) (sym (behind older packet p is)) (other_gathers x.requests own eid p (fields_in older) s.asks_of ask s.asks);
  answers_of = s.answers_of;
  answers = subst (StandsFor x.answers) (sym (behind older packet p is)) (other_gathers x.answers eid own p (fields_in older) s.answers_of (none_answered own eid p apart other) s.answers);
  round = s.round ∙ sym (stays own eid older (round_of own eid older) p ask other) ∙ sym (ap (round_after own eid older (round_of own eid older)) is);
}

-- ---- A packet of this requester.

pub asked_gathers : (x : Pair) (own eid : ℕ) (older : List (List ℕ)) (p : PacketFields) (g : Gathered) → IsPair x own eid older → g ≡ gathered x.requests.receiver (fields_in older) p → g ≡ gathered_from own eid older p
unfolding gathered_from
asked_gathers x own eid older p g s is = is ∙ ap (λ (r : Receiver). gathered r (fields_in older) p) s.asks_of

pub answered_gathers : (x : Pair) (own eid : ℕ) (older : List (List ℕ)) (p : PacketFields) (g : Gathered) → IsPair x own eid older → g ≡ gathered x.answers.receiver (fields_in older) p → g ≡ gathered_from eid own older p
unfolding gathered_from
answered_gathers x own eid older p g s is = is ∙ ap (λ (r : Receiver). gathered r (fields_in older) p) s.answers_of

pub asked_kept : (x new : Pair) (own eid : ℕ) (older : List (List ℕ)) (packet : List ℕ) (p : PacketFields) (g : Gathered) → IsPair x own eid older → parsed packet ≡ Ok p → is_request own eid p ≡ true → eid ≢ own
    → TakesPacket p x.requests new.requests → new.eid.number ≡ x.eid.number → new.answers ≡ x.answers → g ≡ gathered x.requests.receiver (fields_in older) p → new.round ≡ round_by_request x.round g
    → IsPair new own eid (packet ∷ older)
asked_kept x new own eid older packet p g s is ask apart takes same others gives round =
    let to : (p.to == own) ≡ true = and_first (p.to == own) (p.from == eid) ask in
    let from : (p.from == eid) ≡ true = ap (λ (b : Bool). b && p.from == eid) (sym to) ∙ ask in
    let other : is_ours (receiver_of eid own) p ≡ false = ap (λ (b : Bool). b && p.from == own) (ne_eqb p.to eid (λ e. apart (sym e ∙ eqb-true _ _ to))) in
    let kept : Assembly → Type 0 = λ a. (a.receiver ≡ receiver_of eid own) × StandsFor a (fields_in (packet ∷ older)) in
    let answers = subst kept (sym others) (s.answers_of, subst (StandsFor x.answers) (sym (behind older packet p is)) (other_gathers x.answers eid own p (fields_in older) s.answers_of other s.answers)) in record {
      at = same ∙ s.at;
      asks_of = takes.receiver ∙ s.asks_of;
      asks = subst (StandsFor new.requests) (sym (behind older packet p is)) (takes.stands (fields_in older) s.asks);
      answers_of = answers.0;
      answers = answers.1;
      round = round ∙ ap (λ (o : Option Round). round_by_request o g) s.round ∙ ap (round_by_request (round_of own eid older)) (asked_gathers x own eid older p g s gives)
          ∙ sym (asked_is own eid older (round_of own eid older) p to from) ∙ sym (ap (round_after own eid older (round_of own eid older)) is);
    }

pub answered_kept : (x new : Pair) (own eid : ℕ) (older : List (List ℕ)) (packet : List ℕ) (p : PacketFields) (g : Gathered) → IsPair x own eid older → parsed packet ≡ Ok p → is_answer own eid p ≡ true
    → TakesPacket p x.answers new.answers → new.eid.number ≡ x.eid.number → new.requests ≡ x.requests → g ≡ gathered x.answers.receiver (fields_in older) p → new.round ≡ round_by_answer x.round g
    → IsPair new own eid (packet ∷ older)
answered_kept x new own eid older packet p g s is answers takes same others gives round =
    let none : not (p.to == own) ≡ true = and_first (not (p.to == own)) (p.from == own && p.to == eid) answers in
    let to : (p.to == own) ≡ false = off (p.to == own) none in
    let ends : (p.from == own && p.to == eid) ≡ true = ap (λ (b : Bool). b && (p.from == own && p.to == eid)) (sym none) ∙ answers in
    let from : (p.from == own) ≡ true = and_first (p.from == own) (p.to == eid) ends in
    let at : (p.to == eid) ≡ true = ap (λ (b : Bool). b && p.to == eid) (sym from) ∙ ends in
    let other : is_ours (receiver_of own eid) p ≡ false = ap (λ (b : Bool). b && p.from == eid) to in
    let kept : Assembly → Type 0 = λ a. (a.receiver ≡ receiver_of own eid) × StandsFor a (fields_in (packet ∷ older)) in
    let asks = subst kept (sym others) (s.asks_of, subst (StandsFor x.requests) (sym (behind older packet p is)) (other_gathers x.requests own eid p (fields_in older) s.asks_of other s.asks)) in record {
      at = same ∙ s.at;
      asks_of = asks.0;
      asks = asks.1;
      answers_of = takes.receiver ∙ s.answers_of;
      answers = subst (StandsFor new.answers) (sym (behind older packet p is)) (takes.stands (fields_in older) s.answers);
      round = round ∙ ap (λ (o : Option Round). round_by_answer o g) s.round ∙ ap (round_by_answer (round_of own eid older)) (answered_gathers x own eid older p g s gives)
          ∙ sym (answered_is own eid older (round_of own eid older) p to from at) ∙ sym (ap (round_after own eid older (round_of own eid older)) is);
    }
  where
    off : (b : Bool) → not b ≡ true → b ≡ false
    off true e = sym e
    off false e = refl
