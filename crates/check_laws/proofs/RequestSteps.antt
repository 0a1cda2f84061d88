-- What a request changes of what rows of the table depend on, by what is kept.
use Rattle.std.proofs.Common.{◌≡◌, ◌==◌, ◌+◌, ◌%◌, ◌∙◌, ℕ, List, [], ◌∷◌, Bool, true, false, cond, Option, Some, None, length, refl, ap, sym, subst, inl, inr, arith, eq-eqb, eqb-true}
use Rattle.std.specs.Prelude.{nat_lt, not}
use Rattle.std.proofs.lemmas.Bool.Decides.{nat_tests}
use Rattle.requester_machine.specs.History.{History, outstanding}
use Rattle.requester_machine.specs.History.Entry.{Told, TookClear, TookRecord}
use Rattle.requester_machine.specs.Message.{Sent}
use Rattle.requester_machine.specs.Message.Command.{Connect}
use Rattle.requester_machine.specs.Owed.{with_next}
use Rattle.check_laws.specs.ChangeLaws.{IsRequestStep}
use Rattle.check_laws.specs.Changes.{session_in}
use Rattle.check_laws.specs.KeptChanges.{KeptCopyIsRequest, KeptRoundIsRequest}
use Rattle.check_laws.specs.Keeping.{Kept, SendsKept, owed_with, owing, restored}
use Rattle.capture_machine.specs.Rounds.{Round, following_tag, new_round, no_draw}
use Rattle.capture_machine.specs.SessionTable.{accepted_in, is_new}

-- ---- What the requester takes: nothing.

-- Which message is sent on the newest entry counts for no length.
same_length : (o p : Option Sent) (h : History) → length (with_next o h) ≡ length (with_next p h)
same_length o p [] = refl
same_length o p (Told command sent d ∷ h) = refl
same_length o p (TookClear tag m led d ∷ h) = refl
same_length o p (TookRecord tag id sealed inner led d ∷ h) = refl

not_less : (n m : ℕ) → n ≡ m → nat_lt n m ≡ false
not_less n m same = grind (arith, nat_tests)

either_none : (b : Bool) → cond {A = Option ℕ} b None None ≡ None
either_none true = refl
either_none false = refl

accepts_none : (k : Kept) (body : List ℕ) (after : History) → SendsKept k body after → cond (nat_lt (length (owing k.owed k.requester)) (length after)) (accepted_in after) None ≡ None
accepts_none k body after (inl connects) =
    ap (λ (x : History). cond (nat_lt (length (owing k.owed k.requester)) (length x)) (accepted_in x) None) connects.4 ∙ either_none (nat_lt (length (owing k.owed k.requester)) (length (Told Connect connects.0 no_draw ∷ k.requester)))
accepts_none k body after (inr (inl commands)) =
    ap (λ (x : History). cond (nat_lt (length (owing k.owed k.requester)) (length x)) (accepted_in x) None) commands.3.4
    ∙ either_none (nat_lt (length (owing k.owed k.requester)) (length (Told commands.0 commands.3.0 no_draw ∷ k.requester)))
accepts_none k body after (inr (inr goes)) =
    let own : Sent = owed_with k goes.1 goes.0 in
    let before : owing k.owed k.requester ≡ with_next (Some goes.0) k.requester = ap (λ (o : Option Sent). owing o k.requester) goes.2 in
    let same : length (owing k.owed k.requester) ≡ length after = ap length before ∙ same_length (Some goes.0) (Some own) k.requester ∙ sym (ap length goes.6) in
    ap (λ (b : Bool). cond b (accepted_in after) None) (not_less (length (owing k.owed k.requester)) (length after) same)

-- ---- What it sent.

other_tag : (n m : ℕ) → m ≡ (n + 1) % 8 → not (n == m) ≡ true
other_tag n m next = by_test (n == m) refl
  where
    by_test : (b : Bool) → (n == m) ≡ b → not b ≡ true
    by_test false is = refl
    by_test true is = (let same : n ≡ m = eqb-true n m is in absurd (omega (arith, same, next)))

new_from : (o : Option Round) (tag : ℕ) (body : List ℕ) → tag ≡ following_tag o → is_new o (new_round tag body) ≡ true
new_from None tag body is = refl
new_from (Some round) tag body is = other_tag round.tag tag is

same_tag : (n : ℕ) → not (n == n) ≡ false
same_tag n = ap not (eq-eqb n n refl)

-- ---- The laws.

copied : (k : Kept) (round : Round) → k.round ≡ Some round → IsRequestStep None (restored k) (restored (record k { round = Some (record round { waiting = round.waiting + 1 }) }))
copied k round is = record {
  setup = refl;
  responder = refl;
  accepted = ap (λ (b : Bool). cond b (accepted_in (owing k.owed k.requester)) None) (not_less (length (owing k.owed k.requester)) (length (owing k.owed k.requester)) refl);
  asked = sym (
      ap (λ (o : Option Round). cond (is_new o (record round { waiting = round.waiting + 1 })) (session_in (outstanding (owing k.owed k.requester))) None) is
      ∙ ap (λ (b : Bool). cond b (session_in (outstanding (owing k.owed k.requester))) None) (same_tag round.tag)
      );
}

pub kept_copy_is_request : KeptCopyIsRequest
kept_copy_is_request k next tag body c = subst (λ (x : Kept). IsRequestStep None (restored k) (restored x)) (sym c.4) (copied k c.0 c.1)

began : (k : Kept) (tag : ℕ) (body : List ℕ) (after : History) → tag ≡ following_tag k.round → SendsKept k body after
    → IsRequestStep (session_in (outstanding after)) (restored k) (restored (record k { requester = after; owed = None; round = Some (new_round tag body) }))
began k tag body after is sends = record {
  setup = refl;
  responder = refl;
  accepted = accepts_none k body after sends;
  asked = sym (ap (λ (b : Bool). cond b (session_in (outstanding after)) None) (new_from k.round tag body is));
}

pub kept_round_is_request : KeptRoundIsRequest
kept_round_is_request k next tag body c = subst (λ (x : Kept). IsRequestStep (session_in (outstanding x.requester)) (restored k) (restored x)) (sym c.2.2) (began k tag body c.2.0 c.1 c.2.1)
