-- What the calls tell of an answer to a record while nothing is fetched, where no fetch begins by it.
use Rattle.std.proofs.Common.{◌≡◌, ◌<◌, ◌==◌, ◌&&◌, ℕ, List, sym, ap, ◌∙◌, subst, drop, Bool, true, false, Option, Some, None, cond, eq-eqb}
use Rattle.std.specs.Prelude.{not, slice_index}
use Rattle.std.proofs.lemmas.Bool.{false≢true}
use Rattle.std.proofs.lemmas.Option.{none-some}
use Rattle.mctp_framing.specs.Cutting.{RouteFields}
use Rattle.check_ends.proofs.InTurn.{AnswersInTurn}
use Rattle.check_ends.proofs.KeptTyped.{kept_apart, kept_body}
use Rattle.check_responder.specs.JudgedResponder.{IsAnswerer}
use Rattle.check_requester.specs.JudgedRequester.{Carries}
use Rattle.check_responder.specs.Given.{IsGivenNever}
use Rattle.check_responder.specs.RecordAnswers.{IsGivenTo, history_behind}
use Rattle.check_responder.specs.declared.judged_responder.JudgedResponder.{JudgedResponder}
use Rattle.check_responder.specs.declared.given.Given.{Given}
use Rattle.check_responder.specs.declared.given.Given.TheVariants as given
use Rattle.check_laws.specs.ApartShown.{IsApartShown}
use Rattle.check_laws.specs.DropsShown.{id_begun, response_of}
use Rattle.check_laws.specs.Keeping.{Kept, restored}
use Rattle.check_laws.specs.KeptChanges.{begun_shown}
use Rattle.check_laws.specs.RepliesShown.{responder_for}
use Rattle.requester_machine.specs.Setup.{ReqSetup}
use Rattle.responder_machine.specs.History.{History, kept_of}
use Rattle.responder_machine.specs.Responder.{is_repeat}
use Rattle.responder_machine.specs.Setup.{RspSetup}
use Rattle.spdm_machine.specs.Bodies.{record_body}
use Rattle.capture_machine.specs.Rounds.{Round}
use Rattle.world_machine.specs.Setup.{Configuration}
use Rattle.check_fetched_ends.proofs.BegunTold.{six_again}

-- No session begins by the answer to a record.
pub none_begun : (h : History) (tag : ℕ) (body answer : List ℕ) → (slice_index body 0 == 5) ≡ false → None ≡ begun_shown h tag body answer
none_begun h tag body answer type = sym (ap (λ (b : Bool). cond (b && not (is_repeat (kept_of h) tag (drop 1 body))) (id_begun (response_of (drop 1 answer))) None) type)

module _ (w : Configuration) (q : ReqSetup) (older : List (List ℕ)) (k : Kept) (route : RouteFields) (answer : List ℕ) (carries : Carries w q older k) (turn : AnswersInTurn k route answer)
    (type : (slice_index turn.round.body 0 == 5) ≡ false) (sealed : (slice_index answer 0 == 5) ≡ false) where
  abbrev r : RspSetup
  r = responder_for w k

  abbrev h : History
  h = k.responder

  abbrev round : Round
  round = turn.round

  pub own_record : record_body (drop 1 turn.round.body) ≡ turn.round.body
  own_record = six_again round.body type (kept_body w q older k round carries turn.answers.0)

  own_body : (request : List ℕ) → request ≡ drop 1 round.body → record_body request ≡ round.body
  own_body request is = ap record_body is ∙ own_record

  pub given_is : (request : List ℕ) (result : Option Given) → request ≡ drop 1 turn.round.body → IsGivenTo (responder_for w k) k.responder turn.round.tag (record_body request) answer result → IsGivenTo (responder_for w k) k.responder turn.round.tag turn.round.body answer result
  given_is request result is told = subst (λ (b : List ℕ). IsGivenTo r h round.tag b answer result) (own_body request is) told

  pub behind_is : (new : JudgedResponder) (request : List ℕ) (brought : Given) → request ≡ drop 1 turn.round.body → IsAnswerer new (responder_for w k) (history_behind (responder_for w k) k.responder turn.round.tag (record_body request) answer brought)
      → IsAnswerer new (responder_for w k) (history_behind (responder_for w k) k.responder turn.round.tag turn.round.body answer brought)
  behind_is new request brought is stands = subst (λ (b : List ℕ). IsAnswerer new r (history_behind r h round.tag b answer brought)) (own_body request is) stands

  pub given_never : IsGivenTo (responder_for w k) k.responder turn.round.tag turn.round.body answer None → IsGivenNever (responder_for w k) (restored k) turn.round answer
  given_never told = record {
    whole = λ shown. none-some given.Whole (told.whole.1 shown);
    large = λ shown. none-some given.Large (told.large.1 shown);
    last = λ ends. none-some given.Last (told.last.1 ends);
  }

  -- Its verify data are not alone wrong, since it is a record.
  pub never_apart : IsApartShown (responder_for w k) (restored k) turn.round answer → ⊥
  never_apart apart = false≢true (sym sealed ∙ eq-eqb (slice_index answer 0) 5 (kept_apart w q older k round answer carries apart))
