-- With which bytes an answer that goes whole may be given: those that follow it.
use Rattle.std.proofs.Common.{◌≡◌, ◌+◌, ◌-◌, ◌*◌, ◌==◌, ◌&&◌, ℕ, zero, suc, List, [], ◌∷◌, refl, sym, ap, ◌∙◌, subst, take, length, arith, Bool, true, false, Option, Some, None, cond, eqb-true}
use Rattle.std.proofs.lemmas.Bool.{false≢true, ne_eqb}
use Rattle.chunking.specs.Cutting.{chunk_end, unit_of}
use Rattle.responder_machine.specs.History.{Entry, History}
use Rattle.responder_machine.specs.May.{place_for, with_dropped}
use Rattle.responder_machine.specs.Place.{Place}
use Rattle.responder_machine.specs.Responder.{Outcome, after}
use Rattle.responder_machine.specs.Responder.Outcome.{Same, Unopened, Adds}
use Rattle.responder_machine.specs.Setup.{RspSetup}
use Rattle.spdm_basis.proofs.Bools.{suc_units}
use Rattle.capture_machine.proofs.FetchStates.{Fetch}
use Rattle.capture_machine.proofs.GetTells.{transfer_of}
use Rattle.capture_machine.specs.CapturedAnswers.{AreShown, MayLeadAfter, MayLeadTo}
use Rattle.capture_machine.specs.LargeAnswers.{is_unseen_in, place_named, takes_get, with_large}
use Rattle.check_late_laws.specs.Fetching.{HasSize, answer_by, bytes_given, bytes_in, gives_in, number_given, size_in, size_told}
use Rattle.check_late_laws.proofs.Cuts.{less_begins, same_begin}
use Rattle.check_late_laws.proofs.Gave.{Gave, bytes_begin, bytes_next, size_first, size_next}
use Rattle.check_late_laws.proofs.PlainWithin.{GoesWith}
use Rattle.check_late_laws.proofs.Stood.{Came, StandsAt, adds_none, came, dropped_same, entry_same, same_stands}
use Rattle.check_late_laws.proofs.Stood.Came.{Other, Chunk}

-- ---- The told length.

-- None before the first chunk, and one from then on.
abbrev pub Told : ℕ → Option ℕ → Type 0
Told zero o = o ≡ None
Told (suc n) o = (size : ℕ) × (o ≡ Some size)

told_step : (at : Option ℕ) (e : Entry) (h : History) (b c : Bool) (n : ℕ) → Told n (size_told at h)
    → Told (cond b 0 (cond c (n + 1) n)) (cond b None (cond (c && n == 0) (Some (size_in (answer_by e))) (size_told at h)))
told_step at e h true c n told = refl
told_step at e h false true zero told = (size_in (answer_by e), refl)
told_step at e h false true (suc n) told =
    let more : suc (suc n) ≡ suc n + 1 = omega arith in
    let some : (suc n == 0) ≡ false = ne_eqb (suc n) 0 (λ e. absurd (omega (arith, e))) in
    subst (λ (k : ℕ). Told k (cond (suc n == 0) (Some (size_in (answer_by e))) (size_told at h))) more (subst (λ (b : Bool). Told (suc (suc n)) (cond b (Some (size_in (answer_by e))) (size_told at h))) (sym some) told)
told_step at e h false false n told = told

pub told : (at : Option ℕ) (h : History) → Told (number_given at h) (size_told at h)
told at [] = refl
told at (e ∷ h) = told_step at e h (is_unseen_in at e) (gives_in at e) (number_given at h) (told at h)

none_by : (n : ℕ) (o : Option ℕ) → Told n o → n ≡ 0 → o ≡ None
none_by zero o told is = told
none_by (suc n) o told is = absurd (omega (arith, is))

pub none_told : (at : Option ℕ) (h : History) → number_given at h ≡ 0 → size_told at h ≡ None
none_told at h is = none_by (number_given at h) (size_told at h) (told at h) is

pub size_by : (n : ℕ) (o : Option ℕ) (v w : List ℕ) → Told n o → (n ≡ 0 → ⊥) → HasSize o v → HasSize o w → length w ≡ length v
size_by zero o v w is some one two = absurd (some refl)
size_by (suc n) o v w is some one two = subst (λ (x : Option ℕ). HasSize x w) is.1 two ∙ sym (subst (λ (x : Option ℕ). HasSize x v) is.1 one)

-- ---- One more chunk.

module _ (at : Option ℕ) (h : History) (v : List ℕ) (p : Place) (e : Entry) (g : Gave at h v p e) (place : Place) (here : StandsAt place at h v) where
  by_first : (b : Bool) → (number_given at h == 0) ≡ b → size_told at (e ∷ h) ≡ Some (length v)
  by_first true first = size_next at h v p e g ∙ ap (λ (b : Bool). cond b (Some (size_in (answer_by e))) (size_told at h)) first ∙ ap Some (size_first at h v p e g here.0.2 first)
  by_first false later = size_next at h v p e g ∙ ap (λ (b : Bool). cond b (Some (size_in (answer_by e))) (size_told at h)) later ∙ by_number (number_given at h) (told at h) refl
    where
      by_number : (n : ℕ) → Told n (size_told at h) → number_given at h ≡ n → size_told at h ≡ Some (length v)
      by_number zero none is = absurd (false≢true (sym later ∙ ap (λ (n : ℕ). n == 0) is))
      by_number (suc n) some is = some.1 ∙ ap Some (sym (subst (λ (o : Option ℕ). HasSize o v) some.1 here.1))

  pub told_whole : size_told at (e ∷ h) ≡ Some (length v)
  told_whole = by_first (number_given at h == 0) refl

module _ (at : Option ℕ) (h : History) (v w : List ℕ) (p : Place) (e : Entry) (g : Gave at h v p e) (place : Place) (here : StandsAt place at h v) (behind : StandsAt place at (e ∷ h) w) where
  pub whole_size : length w ≡ length v
  whole_size = subst (λ (o : Option ℕ). HasSize o w) (told_whole at h v p e g place here) behind.1

  pub same_to : take (chunk_end (transfer_of p) (number_given at h)) w ≡ take (chunk_end (transfer_of p) (number_given at h)) v
  same_to =
      let n : ℕ = number_given at h in
      let to : ℕ = suc n * unit_of (transfer_of p) - 4 in
      let ends : to ≡ chunk_end (transfer_of p) n = let e = suc_units n (unit_of (transfer_of p)) in omega (arith, e) in
      let begin = bytes_begin at h v p e g in
      let same : take (length (take to v)) w ≡ take to v = ap (λ (l : List ℕ). take (length l) w) (sym begin) ∙ behind.2 ∙ begin in
      ap (λ (k : ℕ). take k w) (sym ends) ∙ same_begin to v w whole_size same ∙ ap (λ (k : ℕ). take k v) ends

  size_before : (b : Bool) → (number_given at h == 0) ≡ b → HasSize (size_told at h) w
  size_before false later =
      subst (λ (o : Option ℕ). HasSize o w) (size_next at h v p e g ∙ ap (λ (b : Bool). cond b (Some (size_in (answer_by e))) (size_told at h)) later) behind.1
  size_before true first = subst (λ (o : Option ℕ). HasSize o w) (sym (by_number (number_given at h) (told at h) refl)) tt
    where
      by_number : (n : ℕ) → Told n (size_told at h) → number_given at h ≡ n → size_told at h ≡ None
      by_number zero none is = none
      by_number (suc n) some is = absurd (omega (arith, is, eqb-true (number_given at h) 0 first))

  pub stood_before : StandsAt place at h w
  stood_before =
      let more = bytes_next at h v p e g in
      (behind.0, size_before (number_given at h == 0) refl, less_begins (bytes_given at h) (bytes_in (number_given at h) (answer_by e)) w (ap (λ (l : List ℕ). take (length l) w) (sym more) ∙ behind.2 ∙ more))

-- ---- An answer.

-- What follows it stood before it, and it may be given with that.
pub record Stood (place : Place) (o : Outcome) (p : Place) (at : Option ℕ) (h : History) (v w : List ℕ) : Type 0 where
  pub stood : StandsAt place at h w
  pub goes : GoesWith o (transfer_of p) (number_given at h) v w

module _ (r : RspSetup) (h : History) (v w : List ℕ) (tag : ℕ) (body : List ℕ) (place : Place) (here : StandsAt place (place_named body) h v) where
  abbrev p : Place
  p = place_for (with_large (place_named body) v h) body

  sizes : StandsAt place (place_named body) h w → (number_given (place_named body) h ≡ 0 → ⊥) → length w ≡ length v
  sizes stood some = size_by (number_given (place_named body) h) (size_told (place_named body) h) v w (told (place_named body) h) some here.1 stood.1

  added : (e : Entry) → Came r h v tag body e → StandsAt place (place_named body) (e ∷ h) w → Stood place (Adds e) p (place_named body) h v w
  added e (Other none stays) behind =
      let stood = same_stands place (place_named body) (e ∷ h) h w (entry_same (place_named body) e h stays) behind in record {
        stood = stood;
        goes = record { size = sizes stood; chunk = λ other is gets. absurd (false≢true (sym none ∙ ap takes_get (same_entry e other is) ∙ gets)) };
      }
    where
      same_entry : (x y : Entry) → Adds x ≡ Adds y → x ≡ y
      same_entry x y is = cc
  added e (Chunk gets g) behind =
      let stood = stood_before (place_named body) h v w p e g place here behind in record {
        stood = stood;
        goes = record {
          size = sizes stood;
          chunk = λ other is takes. (whole_size (place_named body) h v w p e g place here behind, same_to (place_named body) h v w p e g place here behind);
        };
      }

  pub stood : (ids : List ℕ) (o : Outcome) → Fetch h v tag body → MayLeadAfter r (with_large (place_named body) v h) ids tag body o → AreShown r (with_large (place_named body) v h) body o ids
      → StandsAt place (place_named body) (after (with_dropped h ids) o) w → Stood place o p (place_named body) h v w
  stood ids (Same b) fetch may shown behind =
      let stood = same_stands place (place_named body) (with_dropped h ids) h w (dropped_same (place_named body) ids h) behind in
      record { stood = stood; goes = record { size = sizes stood; chunk = λ e is. absurd (let x = is in cc) } }
  stood ids (Unopened b) fetch may shown behind =
      let stood = same_stands place (place_named body) (with_dropped h ids) h w (dropped_same (place_named body) ids h) behind in
      record { stood = stood; goes = record { size = sizes stood; chunk = λ e is. absurd (let x = is in cc) } }
  stood ids (Adds e) fetch may shown behind =
      let none = adds_none r h v tag body ids e fetch may shown in
      let leads = subst (λ (l : List ℕ). MayLeadTo r (with_dropped (with_large (place_named body) v h) l) tag body (Adds e)) none may.1 in
      added e (came r h v tag body e fetch leads) (subst (λ (l : List ℕ). StandsAt place (place_named body) (e ∷ with_dropped h l) w) none behind)
