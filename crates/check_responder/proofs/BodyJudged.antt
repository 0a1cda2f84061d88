-- What is said of an answer to a request, each in the clear or a record.
use Rattle.std.proofs.Common.{◌≡◌, ◌∙◌, ◌==◌, ◌||◌, ℕ, List, [], ◌∷◌, refl, sym, ap, subst, drop, Bool, true, false, Option, Some, None, eq-eqb, eqb-true, cond, arith}
use Rattle.std.proofs.lemmas.Bool.{false≢true}
use Rattle.std.proofs.lemmas.Option.{none-some}
use Rattle.std.specs.Option.{IfSome}
use Rattle.std.specs.Prelude.{slice_index}
use Rattle.responder_machine.specs.Answer.{Free}
use Rattle.responder_machine.specs.History.{History, kept_of}
use Rattle.responder_machine.specs.History.Entry.{Clear}
use Rattle.responder_machine.specs.May.{on_body, with_dropped}
use Rattle.responder_machine.specs.Place.{clear_place}
use Rattle.responder_machine.specs.Handling.{turn_of}
use Rattle.responder_machine.specs.Responder.{body_of, is_repeat, kept_reply, on_clear, on_record}
use Rattle.responder_machine.specs.Responder.Outcome.{Same, Adds}
use Rattle.responder_machine.specs.Setup.{RspSetup}
use Rattle.responder_machine.specs.Turn.{Turn}
use Rattle.spdm_machine.specs.Bodies.{clear_body, record_body}
use Rattle.check_laws.proofs.ApartShown.{record_silent}
use Rattle.check_responder.specs.JudgedResponder.{IsAnswerer}
use Rattle.check_laws.specs.AnswersShown.{values_shown_by}
use Rattle.check_laws.specs.ApartShown.{IsApartShown, answer_shown}
use Rattle.check_laws.specs.DropsShown.{drops_shown_by, outcome_shown}
use Rattle.check_laws.specs.LargeShown.{drops_before, large_shown, last_shown}
use Rattle.check_responder.specs.Given.{IsApartInClear, IsGiven, IsGivenNever, judged_of}
use Rattle.check_responder.specs.RecordAnswers.{IsGivenTo, history_behind}
use Rattle.check_responder.specs.declared.judged_responder.JudgedResponder.{JudgedResponder}
use Rattle.check_responder.specs.declared.given.Given.{Given}
use Rattle.check_responder.specs.declared.given.Given.TheVariants as given
use Rattle.check_responder.specs.declared.given.Judged.TheVariants as judged
use Rattle.capture_machine.specs.Capture.{IsBody}
use Rattle.capture_machine.specs.Difference.{carries_exchange}
use Rattle.capture_machine.specs.Rounds.{Dialogue, Round, no_draw}

-- ---- A record as the request.

other_six : (n : ℕ) → (n == 5) ≡ false → (n == 5 || n == 6) ≡ true → n ≡ 6
other_six n none is = eqb-true n 6 (sym (ap (λ (b : Bool). b || n == 6) none) ∙ is)

-- A body of type 6 is its record.
record_again : (body : List ℕ) → slice_index body 0 ≡ 6 → record_body (drop 1 body) ≡ body
record_again [] is = absurd (omega (arith, is))
record_again (x ∷ body) is = ap (λ (n : ℕ). n ∷ body) (sym is)

-- Its answer never has verify data.
record_not_apart : (r : RspSetup) (d : Dialogue) (round : Round) (request answer : List ℕ) → round.body ≡ record_body request → IsApartShown r d round answer → ⊥
unfolding outcome_shown
record_not_apart r d round request answer is shown =
    let h : History = d.responder in
    let g : History = with_dropped h (drops_shown_by r h round.tag (record_body request) answer) in
    let f : Free = values_shown_by r g round.tag (record_body request) answer in
    let carries : carries_exchange (answer_shown r h round.tag (record_body request) answer) ≡ true = subst (λ (b : List ℕ). carries_exchange (answer_shown r h round.tag b answer) ≡ true) is shown.2 in
    false≢true (sym (record_silent r round.tag request f g) ∙ carries)

given_to : (r : RspSetup) (d : Dialogue) (round : Round) (answer : List ℕ) (new : JudgedResponder) (result : Option Given) → IsGivenTo r d.responder round.tag round.body answer result
    → IfSome result (λ (x : Given). IsAnswerer new r (history_behind r d.responder round.tag round.body answer x)) → (IsApartShown r d round answer → ⊥) → IsGiven r d round answer (judged_of result) new
given_to r d round answer new None is stands apart =
    (record { whole = λ c. none-some given.Whole (is.whole.1 c); large = λ c. none-some given.Large (is.large.1 c); last = λ c. none-some given.Last (is.last.1 c) }, apart)
given_to r d round answer new (Some given.Whole) is stands apart = (is.whole.0 refl, stands)
given_to r d round answer new (Some given.Large) is stands apart = is.large.0 refl
given_to r d round answer new (Some given.Last) is stands apart = is.last.0 refl

pub judged_to_record : (r : RspSetup) (d : Dialogue) (round : Round) (body answer request : List ℕ) (result : Option Given) (new : JudgedResponder) → round.body ≡ body → IsBody body → (slice_index body 0 == 5) ≡ false → request ≡ drop 1 body
    → IsGivenTo r d.responder round.tag (record_body request) answer result → IfSome result (λ (x : Given). IsAnswerer new r (history_behind r d.responder round.tag (record_body request) answer x))
    → IsGiven r d round answer (judged_of result) new
judged_to_record r d round body answer request result new bodied typed record_is is_request told stands =
    let own : record_body request ≡ round.body = ap record_body is_request ∙ record_again body (other_six (slice_index body 0) record_is typed) ∙ sym bodied in
    given_to r d round answer new result
    (subst (λ (b : List ℕ). IsGivenTo r d.responder round.tag b answer result) own told)
    (subst (λ (b : List ℕ). IfSome result (λ (x : Given). IsAnswerer new r (history_behind r d.responder round.tag b answer x))) own stands)
    (record_not_apart r d round request answer (sym own))

-- ---- A record as the answer to a request in the clear.

either_clear : (again : Bool) (kept : List ℕ) (tag : ℕ) (t : Turn) → slice_index (body_of (cond again (Same (clear_body kept)) (Adds (Clear tag t no_draw)))) 0 ≡ 5
either_clear true kept tag t = refl
either_clear false kept tag t = refl

-- A request in the clear leads to an answer in the clear.
clear_first : (r : RspSetup) (g : History) (tag : ℕ) (body : List ℕ) (f : Free) → slice_index body 0 ≡ 5 → slice_index (body_of (on_body r g tag body f no_draw)) 0 ≡ 5
unfolding on_clear
clear_first r g tag body f clear =
    let m : List ℕ = drop 1 body in
    ap (λ (b : Bool). slice_index (body_of (cond b (on_clear r g tag m f no_draw) (on_record r g tag m f no_draw))) 0) (eq-eqb (slice_index body 0) 5 clear)
    ∙ either_clear (is_repeat (kept_of g) tag m) (kept_reply (kept_of g)) tag (turn_of r (clear_place g) m f)

never_other : (r : RspSetup) (d : Dialogue) (round : Round) (answer : List ℕ) → slice_index round.body 0 ≡ 5 → (slice_index answer 0 ≡ 5 → ⊥) → IsGivenNever r d round answer
unfolding outcome_shown large_shown last_shown
never_other r d round answer clear other =
    let h : History = d.responder in
    let tag : ℕ = round.tag in
    let body : List ℕ = round.body in
    let first : List ℕ → ℕ = λ l. slice_index l 0 in
    let g : History = with_dropped h (drops_shown_by r h tag body answer) in
    let before : History = with_dropped h (drops_before h body) in record {
      whole = λ c. other (sym (ap first c.2) ∙ clear_first r g tag body (values_shown_by r g tag body answer) clear);
      large = λ c. other (sym (ap first c.2) ∙ clear_first r before tag body (values_shown_by r before tag body answer) clear);
      last = λ c. other (sym (ap first c.2) ∙ clear_first r h tag body (values_shown_by r h tag body answer) clear);
    }

pub judged_otherwise : (r : RspSetup) (d : Dialogue) (round : Round) (body answer : List ℕ) (new : JudgedResponder) → round.body ≡ body → slice_index body 0 ≡ 5 → (slice_index answer 0 == 5) ≡ false → IsApartInClear r d round answer
    → IsGiven r d round answer judged.Refused new
judged_otherwise r d round body answer new bodied clear sealed apart = (never_other r d round answer (ap (λ (l : List ℕ). slice_index l 0) bodied ∙ clear) other, λ c. other (apart c))
  where
    other : slice_index answer 0 ≡ 5 → ⊥
    other is = false≢true (sym sealed ∙ eq-eqb (slice_index answer 0) 5 is)
