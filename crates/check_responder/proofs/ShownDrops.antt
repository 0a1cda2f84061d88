-- Which session an answer to a clear message shows as dropped, as the program tells it.
use Rattle.std.proofs.Common.{◌≡◌, ◌==◌, ◌<◌, ◌∙◌, ℕ, List, [], ◌∷◌, refl, ap, Bool, true, false, Option, Some, None, is_some, cond}
use Rattle.std.specs.Prelude.{slice_index, IfSome}
use Rattle.responder_machine.specs.BoundLaws.{messages_of}
use Rattle.responder_machine.specs.History.{History}
use Rattle.responder_machine.specs.History.Entry.{Dropped}
use Rattle.responder_machine.specs.May.{with_dropped}
use Rattle.responder_machine.specs.Place.{held_of}
use Rattle.spdm_grammar.specs.declared.names.response_code.TheConstants.{PSK_EXCHANGE_RSP}
use Rattle.spdm_machine.specs.Sessions.{id_in_exchange}
use Rattle.check_responder.specs.JudgedResponder.{shows_large}
use Rattle.check_responder.specs.ClearAnswers.{dropped_before, first_of_held}
use Rattle.check_laws.specs.DropsShown.{dropped_for, id_begun, may_be_dropped, response_of}

-- ---- The first of four.

abbrev picked : (all a b c d : Bool) → List ℕ
picked all a b c d = cond all (cond a (1 ∷ []) (cond b (2 ∷ []) (cond c (3 ∷ []) (cond d (4 ∷ []) [])))) []

module _ (h : History) where
  abbrev may : ℕ → Bool
  may id = may_be_dropped h id

  abbrev four : Bool
  four = held_of h == 4

  pub few_held : four ≡ false → first_of_held h ≡ []
  few_held few = ap (λ (b : Bool). picked b (may 1) (may 2) (may 3) (may 4)) few

  pub first_held : four ≡ true → may 1 ≡ true → first_of_held h ≡ 1 ∷ []
  first_held all a = ap (λ (x : Bool). picked x (may 1) (may 2) (may 3) (may 4)) all ∙ ap (λ (x : Bool). picked true x (may 2) (may 3) (may 4)) a

  pub second_held : four ≡ true → may 1 ≡ false → may 2 ≡ true → first_of_held h ≡ 2 ∷ []
  second_held all a b =
      ap (λ (x : Bool). picked x (may 1) (may 2) (may 3) (may 4)) all ∙ ap (λ (x : Bool). picked true x (may 2) (may 3) (may 4)) a ∙ ap (λ (x : Bool). picked true false x (may 3) (may 4)) b

  pub third_held : four ≡ true → may 1 ≡ false → may 2 ≡ false → may 3 ≡ true → first_of_held h ≡ 3 ∷ []
  third_held all a b c =
      ap (λ (x : Bool). picked x (may 1) (may 2) (may 3) (may 4)) all ∙ ap (λ (x : Bool). picked true x (may 2) (may 3) (may 4)) a ∙ ap (λ (x : Bool). picked true false x (may 3) (may 4)) b
      ∙ ap (λ (x : Bool). picked true false false x (may 4)) c

  pub last_held : four ≡ true → may 1 ≡ false → may 2 ≡ false → may 3 ≡ false → (d : Bool) → may 4 ≡ d → first_of_held h ≡ cond d (4 ∷ []) []
  last_held all a b c d is =
      ap (λ (x : Bool). picked x (may 1) (may 2) (may 3) (may 4)) all ∙ ap (λ (x : Bool). picked true x (may 2) (may 3) (may 4)) a ∙ ap (λ (x : Bool). picked true false x (may 3) (may 4)) b
      ∙ ap (λ (x : Bool). picked true false false x (may 4)) c ∙ ap (λ (x : Bool). picked true false false false x) is

-- ---- What an answer shows.

module _ (h : History) (reply : List ℕ) where
  abbrev response : List ℕ
  response = response_of reply

  abbrev id : ℕ
  id = id_in_exchange response

  pub large_drops : shows_large response ≡ true → dropped_before h reply ≡ first_of_held h
  large_drops large = ap (λ (b : Bool). cond b (first_of_held h) (dropped_for h (id_begun response))) large

  pub small_drops : shows_large response ≡ false → dropped_before h reply ≡ dropped_for h (id_begun response)
  small_drops small = ap (λ (b : Bool). cond b (first_of_held h) (dropped_for h (id_begun response))) small

  pub other_drops : shows_large response ≡ false → (slice_index response 1 == PSK_EXCHANGE_RSP) ≡ false → dropped_before h reply ≡ []
  other_drops small other = small_drops small ∙ ap (λ (b : Bool). dropped_for h (cond b (Some id) None)) other

  -- By the session that it begins.
  pub begun_drops : shows_large response ≡ false → (o : Option ℕ) → id_begun response ≡ o → dropped_before h reply ≡ dropped_for h o
  begun_drops small o is = small_drops small ∙ ap (dropped_for h) is

-- Drops are no messages.
pub few_dropped : (ids : List ℕ) (h : History) (n : ℕ) → messages_of h < n → messages_of (with_dropped h ids) < n
few_dropped [] h n few = few
few_dropped (id ∷ ids) h n few = few_dropped ids (Dropped id ∷ h) n few

-- ---- Answers that are given.

pub some_then : {A : Type 0} (P : Type 0) (o : Option A) → (is_some o ≡ true → P) → IfSome o (λ x. P)
some_then P None then_is = tt
some_then P (Some x) then_is = then_is refl
