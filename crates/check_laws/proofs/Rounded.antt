-- What a packet makes of the round in progress, in a walk and by the packets alone.
use Rattle.std.proofs.Common.{◌≡◌, ◌+◌, ◌%◌, ◌&&◌, ◌⊎◌, ℕ, List, refl, sym, ap, ◌∙◌, Bool, true, false, Option, Some, None, cond, inl, inr, arith, eq-eqb, ne_eqb}
use Rattle.std.specs.Prelude.{bytes_eq}
use Rattle.mctp_framing.specs.Gathering.{Gathered}
use Rattle.mctp_framing.specs.Gathering.Gathered.{Whole, More, Dropped}
use Rattle.responder_machine.proofs.Repeats.{bytes_eq-refl}
use Rattle.check_laws.specs.Order.{round_asked, round_answered, round_by_request, round_by_answer}
use Rattle.capture_machine.specs.Capture.{AsksBy, RepliesBy, Replies, Copies, Begins}
use Rattle.capture_machine.specs.Difference.{is_copy}
use Rattle.capture_machine.specs.Rounds.{Dialogue, Round, new_round, following_tag}
use Rattle.world_machine.specs.Setup.{Configuration}

-- What stays: the set-up; and what the round becomes.
pub record Turned (d next : Dialogue) (is : Option Round) : Type 0 where
  pub setup : next.setup ≡ d.setup
  pub round : next.round ≡ is

-- ---- A request.

pub copy_is : (o : Option Round) (round : Round) (tag : ℕ) (body : List ℕ) → o ≡ Some round → round.tag ≡ tag → round.body ≡ body → is_copy o tag body ≡ true
copy_is o round tag body is tagged bytes =
    ap (λ (x : Option Round). is_copy x tag body) is
    ∙ ap (λ (b : Bool). b && bytes_eq round.body body) (eq-eqb round.tag tag tagged)
    ∙ ap (λ (l : List ℕ). bytes_eq l body) bytes ∙ bytes_eq-refl body

pub no_copy : (o : Option Round) (tag : ℕ) (body : List ℕ) → tag ≡ following_tag o → is_copy o tag body ≡ false
no_copy None tag body next = refl
no_copy (Some round) tag body next =
    ap (λ (b : Bool). b && bytes_eq round.body body) (ne_eqb round.tag tag (λ same. let e : tag ≡ (round.tag + 1) % 8 = next in omega arith))

copied : (round : Round) (tag : ℕ) (body : List ℕ) → is_copy (Some round) tag body ≡ true → round_asked (Some round) tag body ≡ Some (record round { waiting = round.waiting + 1 })
copied round tag body is = ap (λ (b : Bool). cond b (Some (record round { waiting = round.waiting + 1 })) (Some (new_round tag body))) is

begun : (o : Option Round) (tag : ℕ) (body : List ℕ) → is_copy o tag body ≡ false → round_asked o tag body ≡ Some (new_round tag body)
begun None tag body not = refl
begun (Some round) tag body not = ap (λ (b : Bool). cond b (Some (record round { waiting = round.waiting + 1 })) (Some (new_round tag body))) not

asks_turned : (d : Dialogue) (tag : ℕ) (body : List ℕ) (next : Dialogue) → Copies d tag body next ⊎ Begins d tag body next → Turned d next (round_asked d.round tag body)
asks_turned d tag body next (inl c) =
    let is : is_copy (Some c.0) tag body ≡ true = copy_is (Some c.0) c.0 tag body refl c.2 c.3 in record {
      setup = ap (λ (x : Dialogue). x.setup) c.4;
      round = ap (λ (x : Dialogue). x.round) c.4 ∙ sym (copied c.0 tag body is) ∙ ap (λ (o : Option Round). round_asked o tag body) (sym c.1);
    }
asks_turned d tag body next (inr c) = record {
  setup = ap (λ (x : Dialogue). x.setup) c.2.3;
  round = ap (λ (x : Dialogue). x.round) c.2.3 ∙ sym (begun d.round tag body (no_copy d.round tag body c.1));
}

pub request_turned : (d : Dialogue) (g : Gathered) (next : Dialogue) → AsksBy d g next → Turned d next (round_by_request d.round g)
request_turned d (Whole route body) next c = asks_turned d route.tag body next c.2
request_turned d More next c = record { setup = ap (λ (x : Dialogue). x.setup) c; round = ap (λ (x : Dialogue). x.round) c }
request_turned d (Dropped cause) next c = absurd c

-- ---- An answer.

replies_turned : (w : Configuration) (d : Dialogue) (tag : ℕ) (answer : List ℕ) (next : Dialogue) → Replies w d tag answer next → Turned d next (round_answered d.round)
replies_turned w d tag answer next c = record {
  setup = ap (λ (x : Dialogue). x.setup) c.4.3.2;
  round = ap (λ (x : Dialogue). x.round) c.4.3.2 ∙ ap round_answered (sym c.1);
}

pub answer_turned : (w : Configuration) (d : Dialogue) (g : Gathered) (next : Dialogue) → RepliesBy w d g next → Turned d next (round_by_answer d.round g)
answer_turned w d (Whole route body) next c = replies_turned w d route.tag body next c.2
answer_turned w d More next c = record { setup = ap (λ (x : Dialogue). x.setup) c; round = ap (λ (x : Dialogue). x.round) c }
answer_turned w d (Dropped cause) next c = absurd c
