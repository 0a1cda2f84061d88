-- After LargeResponse no chunk was given yet.
use Rattle.std.proofs.Common.{◌≡◌, ◌+◌, ◌==◌, ◌&&◌, ◌++◌, ℕ, [], ◌∷◌, refl, sym, ap, ◌∙◌, Bool, true, false, Option, Some, None, cond}
use Rattle.std.proofs.lemmas.Bool.{false≢true}
use Rattle.responder_machine.specs.History.{Entry, History}
use Rattle.responder_machine.specs.History.Entry.{Clear, Sealed, Queued, Ticked, Dropped}
use Rattle.responder_machine.specs.Turn.{Turn, is_taken}
use Rattle.capture_machine.proofs.UnseenStands.{GoesLarge, StandsUnseen, UnseenStand}
use Rattle.capture_machine.specs.LargeAnswers.{is_in, is_kept_in, is_unseen, is_unseen_effect, is_unseen_in, repeats_large, takes_get}
use Rattle.check_late_laws.specs.Fetching.{answer_by, bytes_given, bytes_in, gives_in, number_given, size_in, size_told}

-- ---- One more entry.

-- An entry that was seen, and by which no chunk was given.
pub record StaysBy (at : Option ℕ) (e : Entry) : Type 0 where
  pub seen : is_unseen_in at e ≡ false
  pub none : gives_in at e ≡ false

pub number_stays : (at : Option ℕ) (e : Entry) (h : History) → StaysBy at e → number_given at (e ∷ h) ≡ number_given at h
number_stays at e h s =
    ap (λ (b : Bool). cond b 0 (cond (gives_in at e) (number_given at h + 1) (number_given at h))) s.seen ∙ ap (λ (b : Bool). cond b (number_given at h + 1) (number_given at h)) s.none

pub bytes_stay : (at : Option ℕ) (e : Entry) (h : History) → StaysBy at e → bytes_given at (e ∷ h) ≡ bytes_given at h
bytes_stay at e h s =
    ap (λ (b : Bool). cond b [] (cond (gives_in at e) (bytes_given at h ++ bytes_in (number_given at h) (answer_by e)) (bytes_given at h))) s.seen
    ∙ ap (λ (b : Bool). cond b (bytes_given at h ++ bytes_in (number_given at h) (answer_by e)) (bytes_given at h)) s.none

pub size_stays : (at : Option ℕ) (e : Entry) (h : History) → StaysBy at e → size_told at (e ∷ h) ≡ size_told at h
size_stays at e h s =
    ap (λ (b : Bool). cond b None (cond (gives_in at e && number_given at h == 0) (Some (size_in (answer_by e))) (size_told at h))) s.seen
    ∙ ap (λ (b : Bool). cond (b && number_given at h == 0) (Some (size_in (answer_by e))) (size_told at h)) s.none

-- ---- The last request of the place has no answer that was seen.

kept_in : (at : Option ℕ) (e : Entry) → is_kept_in at e ≡ true → is_in at e ≡ true
kept_in None (Clear tag t d) is = refl
kept_in None (Sealed tag m t reply d) is = absurd (false≢true is)
kept_in None (Queued bytes) is = absurd (false≢true is)
kept_in None (Ticked seconds) is = absurd (false≢true is)
kept_in None (Dropped id) is = absurd (false≢true is)
kept_in (Some id) (Sealed tag m t reply d) is = is
kept_in (Some id) (Clear tag t d) is = absurd (false≢true is)
kept_in (Some id) (Queued bytes) is = absurd (false≢true is)
kept_in (Some id) (Ticked seconds) is = absurd (false≢true is)
kept_in (Some id) (Dropped which) is = absurd (false≢true is)

idle_seen : (t : Turn) → (is_unseen_effect t.effect ≡ true → GoesLarge t) → is_taken t ≡ false → is_unseen_effect t.effect ≡ false
idle_seen t stands idle = by_unseen (is_unseen_effect t.effect) refl
  where
    by_unseen : (b : Bool) → is_unseen_effect t.effect ≡ b → b ≡ false
    by_unseen false is = refl
    by_unseen true is = absurd (false≢true (sym idle ∙ (stands is).taken))

not_kept : (at : Option ℕ) (e : Entry) → StandsUnseen e → is_kept_in at e ≡ false → is_unseen_in at e ≡ false
not_kept None (Clear tag t d) stands is = idle_seen t stands.1 is
not_kept None (Sealed tag m t reply d) stands is = refl
not_kept None (Queued bytes) stands is = refl
not_kept None (Ticked seconds) stands is = refl
not_kept None (Dropped id) stands is = refl
not_kept (Some id) (Sealed tag m t reply d) stands is = ap (λ (b : Bool). b && is_unseen_effect t.effect) is
not_kept (Some id) (Clear tag t d) stands is = refl
not_kept (Some id) (Queued bytes) stands is = refl
not_kept (Some id) (Ticked seconds) stands is = refl
not_kept (Some id) (Dropped which) stands is = refl

-- No chunk was given.
pub record IsFresh (at : Option ℕ) (h : History) : Type 0 where
  pub number : number_given at h ≡ 0
  pub bytes : bytes_given at h ≡ []
  pub size : size_told at h ≡ None

pub fresh : (at : Option ℕ) (h : History) → UnseenStand h → repeats_large at h ≡ true → IsFresh at h
fresh at [] stand is = absurd (false≢true is)
fresh at (e ∷ h) stand is = by_kept (is_kept_in at e) refl (λ last. fresh at h stand.1 last)
  where
    by_kept : (b : Bool) → is_kept_in at e ≡ b → (repeats_large at h ≡ true → IsFresh at h) → IsFresh at (e ∷ h)
    by_kept true kept before =
        let un : is_unseen e ≡ true = sym (ap (λ (b : Bool). cond b (is_unseen e) (repeats_large at h)) kept) ∙ is in
        let here : is_unseen_in at e ≡ true = ap (λ (b : Bool). b && is_unseen e) (kept_in at e kept) ∙ un in record {
          number = ap (λ (b : Bool). cond b 0 (cond (gives_in at e) (number_given at h + 1) (number_given at h))) here;
          bytes = ap (λ (b : Bool). cond b [] (cond (gives_in at e) (bytes_given at h ++ bytes_in (number_given at h) (answer_by e)) (bytes_given at h))) here;
          size = ap (λ (b : Bool). cond b None (cond (gives_in at e && number_given at h == 0) (Some (size_in (answer_by e))) (size_told at h))) here;
        }
    by_kept false kept before =
        let stays : StaysBy at e = record { seen = not_kept at e stand.0 kept; none = ap (λ (b : Bool). b && takes_get e) kept } in
        let rest = before (sym (ap (λ (b : Bool). cond b (is_unseen e) (repeats_large at h)) kept) ∙ is) in
        record { number = number_stays at e h stays ∙ rest.number; bytes = bytes_stay at e h stays ∙ rest.bytes; size = size_stays at e h stays ∙ rest.size }
