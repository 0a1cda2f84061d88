-- What is said of an answer in the clear to a request in the clear.
use Rattle.std.proofs.Common.{◌≡◌, ◌∙◌, ℕ, List, [], ◌∷◌, refl, sym, ap, subst, drop, Bool, None, arith}
use Rattle.std.proofs.lemmas.Option.{none-some}
use Rattle.std.specs.Prelude.{slice_index}
use Rattle.responder_machine.specs.Setup.{RspSetup}
use Rattle.spdm_machine.specs.Bodies.{clear_body}
use Rattle.check_responder.specs.JudgedResponder.{IsAnswerer}
use Rattle.check_responder.specs.ClearAnswers.{IsJudged, given_in, history_given}
use Rattle.check_responder.specs.Given.{IsGiven, IsGivenNever}
use Rattle.check_responder.specs.declared.judged_responder.JudgedResponder.{JudgedResponder}
use Rattle.check_responder.specs.declared.given.Given.{Given}
use Rattle.check_responder.specs.declared.given.Given.TheVariants as given
use Rattle.check_responder.specs.declared.given.Judged.{Judged}
use Rattle.check_responder.specs.declared.given.Judged.TheVariants as judged
use Rattle.std.specs.Option.{IfSome}
use Rattle.capture_machine.specs.Rounds.{Dialogue, Round}

-- A body of type 5 is its message in the clear.
pub clear_again : (body : List ℕ) → slice_index body 0 ≡ 5 → clear_body (drop 1 body) ≡ body
clear_again [] is = absurd (omega (arith, is))
clear_again (x ∷ body) is = ap (λ (n : ℕ). n ∷ body) (sym is)

module _ (r : RspSetup) (d : Dialogue) (tag : ℕ) (m reply : List ℕ) (waiting : ℕ) (answered : Bool) (new : JudgedResponder) where
  abbrev round : Round
  round = record { tag = tag; body = clear_body m; waiting = waiting; answered = answered }

  never : (result : Judged) → given_in result ≡ None → IsJudged r d.responder tag m reply result → IsGivenNever r d round (clear_body reply)
  never result none is = record {
    whole = λ c. none-some given.Whole (sym none ∙ is.given.whole.1 c);
    large = λ c. none-some given.Large (sym none ∙ is.given.large.1 c);
    last = λ c. none-some given.Last (sym none ∙ is.given.last.1 c);
  }

  given_as : (result : Judged) → IsJudged r d.responder tag m reply result → IfSome (given_in result) (λ (x : Given). IsAnswerer new r (history_given r d.responder tag m reply x)) → IsGiven r d round (clear_body reply) result new
  given_as (judged.Given given.Whole) is stands = (is.given.whole.0 refl, stands)
  given_as (judged.Given given.Large) is stands = is.given.large.0 refl
  given_as (judged.Given given.Last) is stands = is.given.last.0 refl
  given_as judged.Apart is stands = (never judged.Apart refl is, is.apart.0 refl)
  given_as judged.Refused is stands = (never judged.Refused refl is, λ c. other (is.apart.1 c))
    where
      other : judged.Refused ≡ judged.Apart → ⊥
      other same = absurd (cc)

-- The same of bodies.
pub judged_in_clear : (r : RspSetup) (d : Dialogue) (round : Round) (tag : ℕ) (body answer m reply : List ℕ) (result : Judged) (new : JudgedResponder) → round.tag ≡ tag → round.body ≡ body → slice_index body 0 ≡ 5 → slice_index answer 0 ≡ 5
    → m ≡ drop 1 body → reply ≡ drop 1 answer → IsJudged r d.responder tag m reply result → IfSome (given_in result) (λ (x : Given). IsAnswerer new r (history_given r d.responder tag m reply x)) → IsGiven r d round answer result new
judged_in_clear r d round tag body answer m reply result new tagged bodied clear plain is_m is_reply is stands =
    let one : IsGiven r d (record { tag = tag; body = clear_body m; waiting = round.waiting; answered = round.answered }) (clear_body reply) result new = given_as r d tag m reply round.waiting round.answered new result is stands in
    let own : clear_body m ≡ round.body = ap clear_body is_m ∙ clear_again body clear ∙ sym bodied in
    let its : clear_body reply ≡ answer = ap clear_body is_reply ∙ clear_again answer plain in
    let two = subst (λ (n : ℕ). IsGiven r d (record { tag = n; body = clear_body m; waiting = round.waiting; answered = round.answered }) (clear_body reply) result new) (sym tagged) one in
    let three = subst (λ (b : List ℕ). IsGiven r d (record { tag = round.tag; body = b; waiting = round.waiting; answered = round.answered }) (clear_body reply) result new) own two in
    subst (λ (l : List ℕ). IsGiven r d round l result new) its three
