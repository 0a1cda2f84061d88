-- How a large response comes to be fetched, and what is there beside it.
use Rattle.std.proofs.Common.{◌≡◌, ◌+◌, ℕ, List, ◌∷◌, refl, sym, ap, ◌∙◌, subst, length, arith, true, Option, Some, None, inl, inr}
use Rattle.std.proofs.lemmas.Option.{none-some, same_Some}
use Rattle.responder_machine.specs.History.{Entry, History}
use Rattle.responder_machine.specs.History.Entry.{Clear, Sealed, Queued, Ticked, Dropped as Gone}
use Rattle.responder_machine.specs.May.{with_dropped}
use Rattle.responder_machine.specs.Place.{Place}
use Rattle.responder_machine.specs.Setup.{RspSetup}
use Rattle.capture_machine.proofs.FetchBegins.{large_leaves}
use Rattle.capture_machine.specs.CapturedAnswers.{Answers, AnswersAgain, AnswersLarge}
use Rattle.capture_machine.specs.LargeAnswers.{IsLargeAnswer, judging, place_again, place_named, place_of, repeats_large, unseen}
use Rattle.capture_machine.specs.Rounds.{Dialogue, Round}
use Rattle.check_late_laws.specs.FetchingLaws.{AnswersFrom, place_in}

-- ---- Lengths.

pub place_unseen : (h : History) (e : Entry) → place_of h (unseen e) ≡ place_of h e
place_unseen h (Clear tag t d) = refl
place_unseen h (Sealed tag m t reply d) = refl
place_unseen h (Queued bytes) = refl
place_unseen h (Ticked seconds) = refl
place_unseen h (Gone id) = refl

no_longer : (e : Entry) (h : History) → h ≡ e ∷ h → ⊥
no_longer e h same = let n : length h ≡ length h + 1 = ap length same ∙ (omega arith) in absurd (omega (arith, n))

-- A new LargeResponse, or the same again, with these bytes.
pub data Largely (r : RspSetup) (d : Dialogue) (round : Round) (answer : List ℕ) (h : History) (v : List ℕ) : Type 0 where
  First : AnswersLarge r d round answer h v → Largely r d round answer h v
  Again : AnswersAgain r d round answer h v → Largely r d round answer h v

-- By the sizes of this place.
pub record IsSized (r : RspSetup) (d : Dialogue) (round : Round) (answer : List ℕ) (h : History) (place : Place) (v : List ℕ) : Type 0 where
  pub fits : IsLargeAnswer place v
  pub largely : Largely r d round answer h v

-- Where no answer was fetched before it.
pub none_before : (r : RspSetup) (d : Dialogue) (round : Round) (answer : List ℕ) (h : History) (fetching : Option (List ℕ)) (v : List ℕ) → Answers r d round answer h fetching → d.fetching ≡ None → fetching ≡ Some v → Largely r d round answer h v
unfolding Answers
none_before r d round answer h fetching v (inl (plain, same)) none is = absurd (none-some v (sym none ∙ sym same ∙ is))
none_before r d round answer h fetching v (inr (inl (x, large, same))) none is = First (subst (AnswersLarge r d round answer h) (same_Some x v (sym same ∙ is)) large)
none_before r d round answer h fetching v (inr (inr (inl (x, again, same)))) none is = Again (subst (AnswersAgain r d round answer h) (same_Some x v (sym same ∙ is)) again)
none_before r d round answer h fetching v (inr (inr (inr (last, same)))) none is = absurd (none-some v (sym same ∙ is))

-- The place by whose sizes it goes.
pub from_largely : (r : RspSetup) (d : Dialogue) (round : Round) (answer : List ℕ) (h : History) (v : List ℕ) → Largely r d round answer h v → (place : Place) × AnswersFrom r d round answer h place
from_largely r d round answer h v (First large) = (place_in (judging d.fetching round.body d.responder) h, inl ((v, large), refl))
from_largely r d round answer h v (Again again) = (place_again (place_named round.body) h h, inr ((v, again), refl))

-- It may go on with any bytes of a length that is sent in chunks there.
pub any_large : (r : RspSetup) (d : Dialogue) (round : Round) (answer : List ℕ) (h : History) (place : Place) (v : List ℕ) → AnswersFrom r d round answer h place → IsLargeAnswer place v → Largely r d round answer h v
any_large r d round answer h place v (inl ((x, c), is)) fits =
    let at : place ≡ place_of (judging d.fetching round.body d.responder) c.1 = is ∙ ap (place_in (judging d.fetching round.body d.responder)) c.6 ∙ place_unseen (judging d.fetching round.body d.responder) c.1 in
    First (c.0, c.1, c.2, c.3, subst (λ (p : Place). IsLargeAnswer p v) at fits, c.5, c.6)
any_large r d round answer h place v (inr ((x, c), is)) fits =
    let at : place ≡ place_again (place_named round.body) d.responder d.responder = is ∙ ap (λ (l : History). place_again (place_named round.body) l l) c.4 in
    Again (c.0, c.1, c.2, subst (λ (p : Place). IsLargeAnswer p v) at fits, c.4)

pub some_large : (r : RspSetup) (d : Dialogue) (round : Round) (answer : List ℕ) (h : History) (place : Place) → AnswersFrom r d round answer h place → (v : List ℕ) × IsLargeAnswer place v
some_large r d round answer h place (inl ((x, c), is)) =
    let at : place ≡ place_of (judging d.fetching round.body d.responder) c.1 = is ∙ ap (place_in (judging d.fetching round.body d.responder)) c.6 ∙ place_unseen (judging d.fetching round.body d.responder) c.1 in
    (x, subst (λ (p : Place). IsLargeAnswer p x) (sym at) c.4)
some_large r d round answer h place (inr ((x, c), is)) =
    let at : place ≡ place_again (place_named round.body) d.responder d.responder = is ∙ ap (λ (l : History). place_again (place_named round.body) l l) c.4 in
    (x, subst (λ (p : Place). IsLargeAnswer p x) (sym at) c.3)

-- A repeat gets LargeResponse from then on.
pub repeats : (r : RspSetup) (d : Dialogue) (round : Round) (answer : List ℕ) (h : History) (place : Place) → AnswersFrom r d round answer h place → repeats_large (place_named round.body) h ≡ true
repeats r d round answer h place (inl ((x, c), is)) =
    let leaves = large_leaves r (with_dropped (judging d.fetching round.body d.responder) c.0) round.tag round.body c.1 c.2.1 c.3 in
    ap (repeats_large (place_named round.body)) c.6 ∙ leaves.last d.responder
repeats r d round answer h place (inr ((x, c), is)) = ap (repeats_large (place_named round.body)) c.4 ∙ c.2

-- Two that lead to one history go by the sizes of one place.
pub one_size : (r s : RspSetup) (d e : Dialogue) (round : Round) (answer : List ℕ) (h l : History) (place : Place) (v : List ℕ) → AnswersFrom r d round answer h place → Largely s e round answer l v → d.responder ≡ e.responder → d.fetching ≡ e.fetching → h ≡ l
    → IsLargeAnswer place v
one_size r s d e round answer h l place v (inl ((x, c), is)) (First k) responder fetch same =
    let judged : judging d.fetching round.body d.responder ≡ judging e.fetching round.body e.responder = ap (λ (o : Option (List ℕ)). judging o round.body d.responder) fetch ∙ ap (judging e.fetching round.body) responder in
    let at : place ≡ place_of (judging e.fetching round.body e.responder) k.1 =
    is ∙ ap (λ (g : History). place_in g h) judged ∙ ap (place_in (judging e.fetching round.body e.responder)) (same ∙ k.6) ∙ place_unseen (judging e.fetching round.body e.responder) k.1 in
    subst (λ (p : Place). IsLargeAnswer p v) (sym at) k.4
one_size r s d e round answer h l place v (inr ((x, c), is)) (Again k) responder fetch same =
    let at : place ≡ place_again (place_named round.body) e.responder e.responder = is ∙ ap (λ (g : History). place_again (place_named round.body) g g) (c.4 ∙ responder) in
    subst (λ (p : Place). IsLargeAnswer p v) (sym at) k.3
one_size r s d e round answer h l place v (inl ((x, c), is)) (Again k) responder fetch same =
    absurd (no_longer (unseen c.1) d.responder (responder ∙ sym k.4 ∙ sym same ∙ c.6))
one_size r s d e round answer h l place v (inr ((x, c), is)) (First k) responder fetch same =
    absurd (no_longer (unseen k.1) d.responder (sym c.4 ∙ same ∙ k.6 ∙ ap (λ (g : History). unseen k.1 ∷ g) (sym responder)))
