-- What an answer leaves of the request with which a repeat is compared: its tag, and whether its large response passed
-- unseen.
use Rattle.std.proofs.Common.{◌≡◌, ◌==◌, ◌&&◌, ◌+◌, ◌≤◌, ◌∙◌, ◌⊎◌, ℕ, List, [], ◌∷◌, refl, sym, ap, subst, drop, length, arith, Bool, true, false, Option, Some, None, is_some, cond, inl, inr, eq-eqb, eqb-true, ne_eqb}
use Rattle.std.specs.Prelude.{bytes_eq, slice_index}
use Rattle.std.proofs.lemmas.Bool.{false≢true}
use Rattle.check_late_laws.proofs.Late.CapsTurns.{Settling, turn_settles}
use Rattle.check_late_laws.proofs.Late.CapsTurns.Settling.{Renews, Tells, Stays}
use Rattle.check_fetched_ends.proofs.LateShown.{same_form}
use Rattle.check_late_laws.proofs.Late.WalksAnew.{kept_before, kept_large}
use Rattle.responder_machine.proofs.Making.{turn_message}
use Rattle.responder_machine.specs.Answer.{Free}
use Rattle.responder_machine.specs.Handling.{turn_of}
use Rattle.responder_machine.specs.History.{Entry, History, Kept, clear_turns, kept_of, phase_of}
use Rattle.responder_machine.specs.History.Entry.{Clear, Sealed, Queued, Ticked, Dropped}
use Rattle.responder_machine.specs.May.{with_dropped}
use Rattle.responder_machine.specs.Place.{clear_place}
use Rattle.responder_machine.specs.Refusal.{code_of}
use Rattle.responder_machine.specs.Responder.{Outcome, after, body_of, is_repeat, kept_reply}
use Rattle.responder_machine.specs.Responder.Outcome.{Same, Unopened, Adds}
use Rattle.responder_machine.specs.Setup.{RspSetup}
use Rattle.responder_machine.specs.Turn.{Turn, is_taken}
use Rattle.spdm_basis.proofs.Bools.{and_first}
use Rattle.spdm_grammar.specs.declared.names.request_code.TheConstants.{GET_CAPABILITIES}
use Rattle.capture_machine.proofs.DropsTell.{clear_form, kept_same}
use Rattle.capture_machine.proofs.PlainTells.{led_clear, led_record}
use Rattle.capture_machine.proofs.RecordAdds.{record_added}
use Rattle.capture_machine.proofs.SeenAnswers.{led_seen}
use Rattle.capture_machine.specs.CapturedAnswers.{Answers, MayLeadTo}
use Rattle.capture_machine.specs.LargeAnswers.{dropped_before_large, is_unseen, judging, place_named, repeats_large, unseen, with_large}
use Rattle.capture_machine.specs.Rounds.{Dialogue, Round, no_draw}

-- ---- Under another tag.

-- Nothing under this tag is a repeat.
abbrev pub NoneUnder : History → ℕ → Type 0
NoneUnder h n = (m : List ℕ) → is_repeat (kept_of h) n m ≡ false

pub kept_at : (k : Option Kept) (tag : ℕ) (own : List ℕ) → is_repeat k tag own ≡ true → (n : ℕ) → (n == tag) ≡ false → (m : List ℕ) → is_repeat k n m ≡ false
kept_at None tag own again n other m = absurd (false≢true again)
kept_at (Some k) tag own again n other m =
    let same : k.tag ≡ tag = eqb-true k.tag tag (and_first (k.tag == tag) _ again) in
    ap (λ (b : Bool). b && bytes_eq k.message m) (ne_eqb k.tag n (λ is. absurd (false≢true (sym other ∙ eq-eqb n tag (sym is ∙ same)))))

-- A message in the clear has this tag.
abbrev HasTag : ℕ → Entry → Type 0
HasTag tag (Clear n t d) = n ≡ tag
HasTag tag _ = Unit {0}

led_tagged : (r : RspSetup) (g : History) (tag : ℕ) (body : List ℕ) (e : Entry) → MayLeadTo r g tag body (Adds e) → HasTag tag e
led_tagged r g tag body e may = by_type (slice_index body 0 == 5) refl
  where
    by_type : (b : Bool) → (slice_index body 0 == 5) ≡ b → HasTag tag e
    by_type true type =
        let led = led_clear r g tag body (Adds e) type may in
        elim (clear_form r g tag (drop 1 body) led.free (Adds e) led.leads) [
          | inl same ↦ absurd (let x = same.1 in cc)
          | inr adds ↦
              let is : Clear tag (turn_of r (clear_place g) (drop 1 body) led.free) no_draw ≡ e = cc (sym adds) in
              subst (HasTag tag) is refl
        ]
    by_type false type =
        let led = led_record r g tag body (Adds e) type may in
        subst (HasTag tag) (record_added r led.free tag (drop 1 body) e g led.leads) tt

unseen_tagged : (tag : ℕ) (e : Entry) → HasTag tag e → HasTag tag (unseen e)
unseen_tagged tag (Clear n t d) is = is
unseen_tagged tag (Sealed n m t reply d) is = tt
unseen_tagged tag (Queued bytes) is = tt
unseen_tagged tag (Ticked seconds) is = tt
unseen_tagged tag (Dropped id) is = tt

front_none : (tag n : ℕ) (e : Entry) (g : History) → HasTag tag e → (n == tag) ≡ false → NoneUnder g n → NoneUnder (e ∷ g) n
front_none tag n (Clear own t d) g is other none m = by_taken (is_taken t)
  where
    apart : (own == n) ≡ false
    apart = ne_eqb own n (λ same. absurd (false≢true (sym other ∙ eq-eqb n tag (sym same ∙ is))))

    by_taken : (b : Bool) → is_repeat (cond b (Some (record { tag = own; message = t.message; reply = t.reply })) (kept_of g)) n m ≡ false
    by_taken true = ap (λ (b : Bool). b && bytes_eq t.message m) apart
    by_taken false = none m
front_none tag n (Sealed own x t reply d) g is other none m = none m
front_none tag n (Queued bytes) g is other none m = none m
front_none tag n (Ticked seconds) g is other none m = none m
front_none tag n (Dropped id) g is other none m = none m

same_none : (g h : History) (n : ℕ) → kept_of g ≡ kept_of h → NoneUnder h n → NoneUnder g n
same_none g h n same none m = ap (λ (k : Option Kept). is_repeat k n m) same ∙ none m

module _ (r : RspSetup) (d : Dialogue) (round : Round) (answer : List ℕ) (n : ℕ) (other : (n == round.tag) ≡ false) (none : NoneUnder d.responder n) where
  after_none : (k : History) (ids : List ℕ) (o : Outcome) → MayLeadTo r k round.tag round.body o → NoneUnder (after (with_dropped d.responder ids) o) n
  after_none k ids (Same b) may = same_none (with_dropped d.responder ids) d.responder n (kept_same ids d.responder) none
  after_none k ids (Unopened b) may = same_none (with_dropped d.responder ids) d.responder n (kept_same ids d.responder) none
  after_none k ids (Adds e) may = front_none round.tag n e (with_dropped d.responder ids) (led_tagged r k round.tag round.body e may) other (same_none (with_dropped d.responder ids) d.responder n (kept_same ids d.responder) none)

  pub answers_none : (next : History) (fetching : Option (List ℕ)) → Answers r d round answer next fetching → NoneUnder next n
  unfolding Answers
  answers_none next fetching (inl (a, same)) =
      subst (λ (l : History). NoneUnder l n) (sym a.6) (after_none (with_dropped (judging d.fetching round.body d.responder) a.0) a.0 a.1 a.2.1)
  answers_none next fetching (inr (inl (whole, a, same))) =
      subst (λ (l : History). NoneUnder l n) (sym a.6)
      (front_none round.tag n (unseen a.1) d.responder (unseen_tagged round.tag a.1 (led_tagged r (with_dropped (judging d.fetching round.body d.responder) a.0) round.tag round.body a.1 a.2.1)) other none)
  answers_none next fetching (inr (inr (inl (whole, a, same)))) = subst (λ (l : History). NoneUnder l n) (sym a.4) none
  answers_none next fetching (inr (inr (inr (a, same)))) =
      let place : Option ℕ = place_named round.body in
      let g : History = with_large place a.0 (dropped_before_large place a.1 d.responder) in
      subst (λ (l : History). NoneUnder l n) (sym a.8)
      (front_none round.tag n a.2 g (led_tagged r (judging d.fetching round.body d.responder) round.tag round.body a.2 a.4) other
      (same_none g d.responder n (kept_large place a.0 (dropped_before_large place a.1 d.responder) ∙ kept_before place a.1 d.responder) none))

-- ---- What passed unseen.

large_dropped : (ids : List ℕ) (h : History) → repeats_large None (with_dropped h ids) ≡ repeats_large None h
large_dropped [] h = refl
large_dropped (id ∷ ids) h = large_dropped ids (Dropped id ∷ h)

-- The request that passed unseen is the same as before.
pub record IsSameKept (h next : History) : Type 0 where
  pub kept : kept_of next ≡ kept_of h
  pub large : repeats_large None h ≡ true

front_same : (e : Entry) (g : History) → is_unseen e ≡ false → repeats_large None (e ∷ g) ≡ true → (kept_of (e ∷ g) ≡ kept_of g) × (repeats_large None g ≡ true)
front_same (Clear tag t d) g old large = by_taken (is_taken t) large
  where
    by_taken : (b : Bool) → cond b (is_unseen (Clear tag t d)) (repeats_large None g) ≡ true
        → (cond b (Some (record { tag = tag; message = t.message; reply = t.reply })) (kept_of g) ≡ kept_of g) × (repeats_large None g ≡ true)
    by_taken true is = absurd (false≢true (sym old ∙ is))
    by_taken false is = (refl, is)
front_same (Sealed tag m t reply d) g old large = (refl, large)
front_same (Queued bytes) g old large = (refl, large)
front_same (Ticked seconds) g old large = (refl, large)
front_same (Dropped id) g old large = (refl, large)

pub plain_same : (r : RspSetup) (k h : History) (ids : List ℕ) (tag : ℕ) (body : List ℕ) (o : Outcome) → MayLeadTo r k tag body o → repeats_large None (after (with_dropped h ids) o) ≡ true → IsSameKept h (after (with_dropped h ids) o)
plain_same r k h ids tag body (Same b) may large = record { kept = kept_same ids h; large = sym (large_dropped ids h) ∙ large }
plain_same r k h ids tag body (Unopened b) may large = record { kept = kept_same ids h; large = sym (large_dropped ids h) ∙ large }
plain_same r k h ids tag body (Adds e) may large =
    let same = front_same e (with_dropped h ids) (led_seen r k tag body e may) large in
    record { kept = same.0 ∙ kept_same ids h; large = sym (large_dropped ids h) ∙ same.1 }
