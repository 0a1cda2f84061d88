use Rattle.std.proofs.Common.{◌≡◌, ◌∙◌, ◌+◌, ◌<◌, ◌≤◌, ℕ, List, ap, drop, length, subst, sym, take, true, false, arith}
use Rattle.std.proofs.lemmas.Bool.{false≢true}
use Rattle.std.specs.Bool.{Decides}
use Rattle.std.specs.Prelude.{is_some, min, not}
use Rattle.check_requester.proofs.LargeCarried.{Carried, carried_all, held_on, last_is, rest_is, room_is, same_bytes, small_sum, stands_first, stands_on}
use Rattle.check_requester.proofs.large_carried.carries_rest.Goals as goal
use Rattle.check_requester.specs.LargeAsked.{IsHeldTo}
use Rattle.chunking.specs.Cutting.{chunk_count}
use Rattle.spdm_grammar.specs.Requests.{canonical_request}
use Rattle.capture_machine.specs.LargeRequests.{common_of}

pub loop-number-init : goal.loop-number-init
loop-number-init c = λ q h asked handle first long last held. record { held = held; stands = stands_first q h asked handle c.args.asking.now first.stands }

pub returns-then-is_none : goal.returns-then-is_none
returns-then-is_none c = λ q h asked handle first long last held is.
    let inv = c.loop-number.invariant q h asked handle first long last held in
    let none : is_some c.acknowledged.result ≡ false = c.is_none.ensures ∙ ap not c.if-is_none.true in
    let at_last = last_is q h asked handle first.sent first.out first.aim c.loop-number.number c.loop-number.asking c.acknowledged.new.self c.acknowledged.result c.acknowledged.new.out first.sizes inv.stands c.acknowledged.ensures none in
    let below : c.loop-number.number < c.args.count = c.loop-number-test.true in
    let same = last ∙ ap (chunk_count (common_of h).to_responder.transfer) is in
    omega (arith, at_last, below, same)

pub returns-then-not-stand_at : goal.returns-then-not-stand_at
returns-then-not-stand_at c = λ q h asked handle first long last held is.
    let inv = c.loop-number.invariant q h asked handle first long last held in
    let m : List ℕ = canonical_request asked in
    let n : ℕ = c.loop-number.number in
    let some : is_some c.acknowledged.result ≡ true = c.is_none.ensures ∙ ap not c.if-is_none.false in
    let room = room_is q h asked handle first.sent first.out first.aim n c.loop-number.asking c.acknowledged.new.self c.acknowledged.result c.acknowledged.new.out first.sizes inv.stands c.acknowledged.ensures some in
    let bytes = c.bytes_from-bytes.ensures ∙ ap (drop 13) (c.as_slice.ensures.value ∙ room) ∙ rest_is h handle m n in
    let tests = subst (λ (l : List ℕ). Decides c.stand_at.result (take (length l) (drop c.loop-number.at c.args.whole.now) ≡ l)) bytes c.stand_at.ensures in
    false≢true (sym c.if-not-stand_at.true ∙ tests.1 (same_bytes h m c.args.whole.now n c.loop-number.at inv.held is))

pub loop-number-preserved : goal.loop-number-preserved
loop-number-preserved c = λ q h asked handle first long last held.
    let inv = c.loop-number.invariant q h asked handle first long last held in
    let m : List ℕ = canonical_request asked in
    let n : ℕ = c.loop-number.number in
    let some : is_some c.acknowledged.result ≡ true = c.is_none.ensures ∙ ap not c.if-is_none.false in
    let room = room_is q h asked handle first.sent first.out first.aim n c.loop-number.asking c.acknowledged.new.self c.acknowledged.result c.acknowledged.new.out first.sizes inv.stands c.acknowledged.ensures some in
    let bytes = c.bytes_from-bytes.ensures ∙ ap (drop 13) (c.as_slice.ensures.value ∙ room) ∙ rest_is h handle m n in
    let tests = subst (λ (l : List ℕ). Decides c.stand_at.result (take (length l) (drop c.loop-number.at c.args.whole.now) ≡ l)) bytes c.stand_at.ensures in
    let sum = c.saturating_add-at.ensures ∙ ap (λ (l : List ℕ). min (c.loop-number.at + length l) 18446744073709551615) bytes ∙ small_sum h m c.args.whole.now n c.loop-number.at first.short inv.held in
    record {
      held = subst (IsHeldTo h m c.args.whole.now (n + 1)) (sym sum) (held_on h m c.args.whole.now n c.loop-number.at inv.held (tests.0 c.if-not-stand_at.false));
      stands = stands_on q h asked handle first.sent first.out first.aim n c.loop-number.asking c.acknowledged.new.self c.acknowledged.result c.acknowledged.new.out first.sizes inv.stands c.acknowledged.ensures some;
    }

pub returns : goal.returns
returns c = λ q h asked handle first long last held.
    let inv = c.loop-number.invariant q h asked handle first long last held in
    let over : c.args.count ≤ c.loop-number.number = c.loop-number-test.false in
    let below = c.loop-number.auto.number-end in
    let end : c.loop-number.number ≡ c.args.count = omega (arith, over, below) in
    carried_all c.loop-number.asking q h asked handle c.args.whole.now c.args.count c.loop-number.at first.wide long last
    (subst (λ (k : ℕ). Carried c.loop-number.asking q h asked handle c.args.whole.now k c.loop-number.at) end inv)
