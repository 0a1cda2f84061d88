-- What a packet changes, by its kind.
use Rattle.std.proofs.Common.{◌≡◌, ◌≤◌, ◌∙◌, ◌+◌, ◌-◌, ◌%◌, ℕ, suc, List, [], ◌∷◌, Bool, true, false, cond, Option, Some, None, length, refl, sym, ap, arith, eq-eqb, ne_eqb, lt-ltb}
use Rattle.std.specs.Prelude.{nat_lt, not}
use Rattle.std.proofs.lemmas.Bool.{le-ltb}
use Rattle.requester_machine.specs.History as requester_history
use Rattle.requester_machine.specs.History.{outstanding}
use Rattle.responder_machine.specs.History.{Entry, History}
use Rattle.responder_machine.specs.History.Entry.{Clear, Sealed, Queued, Ticked, Dropped}
use Rattle.responder_machine.specs.May.{with_dropped}
use Rattle.responder_machine.specs.Responder.{Outcome, after}
use Rattle.responder_machine.specs.Responder.Outcome.{Same, Unopened, Adds}
use Rattle.responder_machine.specs.Turn.{answer_in}
use Rattle.spdm_machine.specs.Sessions.{id_in_exchange}
use Rattle.check_laws.proofs.BegunSessions.{count_dropped, large_count}
use Rattle.check_laws.proofs.StepsOfWalks.{sends_none}
use Rattle.check_laws.specs.ChangeLaws.{AnswerAsksNone, CopyChanges, CopyIsRequest, IsRequestChange, IsRequestStep, LargeAnswerChanges, RequestChanges, RoundIsRequest, WholeAnswerChanges, answered_by, begun_by}
use Rattle.check_laws.specs.Changes.{IsChange, answered_in, session_in, views_in}
use Rattle.check_laws.specs.declared.change.Change.{Change}
use Rattle.capture_machine.specs.LargeAnswers.{unseen}
use Rattle.capture_machine.specs.Rounds.{Dialogue, Round, following_tag, new_round}
use Rattle.capture_machine.specs.SessionTable.{accepted_in, begins, begun_count, is_new, last_begun}

no_more : (n m : ℕ) → m ≡ n → nat_lt n m ≡ false
no_more n m same = le-ltb n m (omega (arith, same))

-- ---- At the responder, by its histories.

abbrev pub begun_in : History → History → Option ℕ
begun_in h next = cond (nat_lt (begun_count h) (begun_count next)) (Some (last_begun next)) None

abbrev pub replied_in : History → History → Option ℕ
replied_in h next = cond (nat_lt (length h) (length next)) (answered_in next) None

pub none_begun : (h next : History) → begun_count next ≡ begun_count h → begun_in h next ≡ None
none_begun h next same = ap (λ b. cond b (Some (last_begun next)) None) (no_more (begun_count h) (begun_count next) same)

none_replied : (h next : History) → length next ≡ length h → replied_in h next ≡ None
none_replied h next same = ap (λ b. cond b (answered_in next) None) (no_more (length h) (length next) same)

-- After an entry that is no record.
no_record : (b : Bool) (o : Option ℕ) → o ≡ None → cond b o None ≡ None
no_record true o none = none
no_record false o none = refl

-- After a record.
one_longer : (h next : History) (o : Option ℕ) → length h ≤ length next → cond (nat_lt (length h) (suc (length next))) o None ≡ o
one_longer h next o few = ap (λ b. cond b o None) (lt-ltb (length h) (suc (length next)) (omega (arith, few)))

still_dropped : (ids : List ℕ) (h : History) → answered_in h ≡ None → answered_in (with_dropped h ids) ≡ None
still_dropped [] h none = none
still_dropped (id ∷ ids) h none = still_dropped ids (Dropped id ∷ h) refl

length_dropped : (ids : List ℕ) (h : History) → length h ≤ length (with_dropped h ids)
length_dropped [] h = omega arith
length_dropped (id ∷ ids) h = let more = length_dropped ids (Dropped id ∷ h) in omega (arith, more)

dropped_replied : (ids : List ℕ) (h : History) → replied_in h (with_dropped h ids) ≡ None
dropped_replied [] h = none_replied h h refl
dropped_replied (id ∷ ids) h = no_record _ (answered_in (with_dropped (Dropped id ∷ h) ids)) (still_dropped ids (Dropped id ∷ h) refl)

clear_begun : (n : ℕ) (h : History) (id : ℕ) (b : Bool) → begun_count h ≡ n
    → cond (nat_lt n (cond b (begun_count h + 1) (begun_count h))) (Some (cond b id (last_begun h))) None ≡ cond b (Some id) None
clear_begun n h id true same = ap (λ b. cond b (Some id) None) (lt-ltb n (begun_count h + 1) (omega (arith, same)))
clear_begun n h id false same = ap (λ b. cond b (Some (last_begun h)) None) (no_more n (begun_count h) same)

pub outcome_begun : (h : History) (ids : List ℕ) (o : Outcome) → begun_in h (after (with_dropped h ids) o) ≡ begun_by o
outcome_begun h ids (Same body) = none_begun h (with_dropped h ids) (count_dropped ids h)
outcome_begun h ids (Unopened body) = none_begun h (with_dropped h ids) (count_dropped ids h)
outcome_begun h ids (Adds (Clear tag t d)) = clear_begun (begun_count h) (with_dropped h ids) (id_in_exchange (answer_in t.effect)) (begins t) (count_dropped ids h)
outcome_begun h ids (Adds (Sealed tag sealed t reply d)) = none_begun h (Sealed tag sealed t reply d ∷ with_dropped h ids) (count_dropped ids h)
outcome_begun h ids (Adds (Queued bytes)) = none_begun h (Queued bytes ∷ with_dropped h ids) (count_dropped ids h)
outcome_begun h ids (Adds (Ticked seconds)) = none_begun h (Ticked seconds ∷ with_dropped h ids) (count_dropped ids h)
outcome_begun h ids (Adds (Dropped id)) = none_begun h (Dropped id ∷ with_dropped h ids) (count_dropped ids h)

pub entry_replied : (h next : History) (e : Entry) → length h ≤ length next → replied_in h (e ∷ next) ≡ answered_by (Adds e)
entry_replied h next (Clear tag t d) few = no_record (nat_lt (length h) (suc (length next))) None refl
entry_replied h next (Sealed tag sealed t reply d) few = one_longer h next _ few
entry_replied h next (Queued bytes) few = no_record (nat_lt (length h) (suc (length next))) None refl
entry_replied h next (Ticked seconds) few = no_record (nat_lt (length h) (suc (length next))) None refl
entry_replied h next (Dropped id) few = no_record (nat_lt (length h) (suc (length next))) None refl

outcome_replied : (h : History) (ids : List ℕ) (o : Outcome) → replied_in h (after (with_dropped h ids) o) ≡ answered_by o
outcome_replied h ids (Same body) = dropped_replied ids h
outcome_replied h ids (Unopened body) = dropped_replied ids h
outcome_replied h ids (Adds e) = entry_replied h (with_dropped h ids) e (length_dropped ids h)

pub whole_answer_changes : WholeAnswerChanges
whole_answer_changes d next ids o is =
    (ap (begun_in d.responder) is ∙ outcome_begun d.responder ids o, ap (replied_in d.responder) is ∙ outcome_replied d.responder ids o)

large_replied : (h : History) (e : Entry) → replied_in h (unseen e ∷ h) ≡ answered_by (Adds e)
large_replied h (Clear tag t d) = entry_replied h h (unseen (Clear tag t d)) (omega arith)
large_replied h (Sealed tag sealed t reply d) = entry_replied h h (unseen (Sealed tag sealed t reply d)) (omega arith)
large_replied h (Queued bytes) = entry_replied h h (Queued bytes) (omega arith)
large_replied h (Ticked seconds) = entry_replied h h (Ticked seconds) (omega arith)
large_replied h (Dropped id) = entry_replied h h (Dropped id) (omega arith)

pub large_answer_changes : LargeAnswerChanges
large_answer_changes d next entry is =
    (ap (begun_in d.responder) is ∙ none_begun d.responder (unseen entry ∷ d.responder) (large_count entry d.responder), ap (replied_in d.responder) is ∙ large_replied d.responder entry)

-- ---- Rounds.

abbrev asked_in : Option Round → requester_history.History → Option Round → Option ℕ
asked_in before h None = None
asked_in before h (Some round) = cond (is_new before round) (session_in (outstanding h)) None

same_tag : (before round : Round) (h : requester_history.History) → round.tag ≡ before.tag → asked_in (Some before) h (Some round) ≡ None
same_tag before round h same = ap (λ b. cond (not b) (session_in (outstanding h)) None) (eq-eqb before.tag round.tag (sym same))

new_tag : (before : Option Round) (round : Round) → round.tag ≡ following_tag before → is_new before round ≡ true
new_tag None round next = refl
new_tag (Some before) round next = ap not (ne_eqb before.tag round.tag (λ same. let e : round.tag ≡ (before.tag + 1) % 8 = next in omega (arith, same, e)))

pub answer_asks_none : AnswerAsksNone
answer_asks_none w d next tag answer c =
    let round : Round = record c.0 { waiting = c.0.waiting - 1; answered = true } in
    ap (λ (x : Dialogue). asked_in d.round x.requester x.round) c.4.3.2
    ∙ ap (λ (o : Option Round). asked_in o c.4.3.0 (Some round)) c.1
    ∙ same_tag c.0 round c.4.3.0 refl

-- ---- Requests.

none_named : (o : Option ℕ) → ((id : ℕ) → o ≡ Some id → ⊥) → o ≡ None
none_named None none = refl
none_named (Some id) none = absurd (none id refl)

request_change : (change : Change) (d next : Dialogue) (sent : Option ℕ) → IsRequestChange change d.responder sent → IsRequestStep sent d next → IsChange change d next
request_change change d next sent is step = record {
  begun = is.begun ∙ sym (none_begun d.responder next.responder (ap begun_count step.responder));
  accepted = is.accepted ∙ sym step.accepted;
  answered = is.answered ∙ sym (none_replied d.responder next.responder (ap length step.responder));
  asked = is.asked ∙ step.asked;
  views = is.views ∙ ap views_in (sym step.responder);
}

abbrev accepted_by : requester_history.History → requester_history.History → Option ℕ
accepted_by h next = cond (nat_lt (length h) (length next)) (accepted_in next) None

pub copy_is_request : CopyIsRequest
copy_is_request d next tag body c =
    let round : Round = record c.0 { waiting = c.0.waiting + 1 } in
    record {
      setup = sym (ap (λ (x : Dialogue). x.setup) c.4);
      responder = ap (λ (x : Dialogue). x.responder) c.4;
      accepted = ap (λ (x : Dialogue). accepted_by d.requester x.requester) c.4 ∙ ap (λ b. cond b (accepted_in d.requester) None) (no_more (length d.requester) (length d.requester) refl);
      asked = sym (ap (λ (x : Dialogue). asked_in d.round x.requester x.round) c.4 ∙ ap (λ (o : Option Round). asked_in o d.requester (Some round)) c.1 ∙ same_tag c.0 round d.requester refl);
    }

pub round_is_request : RoundIsRequest
round_is_request d next tag body b =
    let own : next.requester ≡ b.2.0 = ap (λ (x : Dialogue). x.requester) b.2.3 in
    let round : next.round ≡ Some (new_round tag body) = ap (λ (x : Dialogue). x.round) b.2.3 in
    record {
      setup = sym (ap (λ (x : Dialogue). x.setup) b.2.3);
      responder = ap (λ (x : Dialogue). x.responder) b.2.3;
      accepted = ap (accepted_by d.requester) own ∙ none_named (accepted_by d.requester b.2.0) (λ id. sends_none d body b.2.0 b.2.1 id b.2.2);
      asked = sym (ap (asked_in d.round next.requester) round ∙ ap (λ x. cond x (session_in (outstanding next.requester)) None) (new_tag d.round (new_round tag body) b.1));
    }

pub copy_changes : CopyChanges
copy_changes change d next tag body c is = request_change change d next None is (copy_is_request d next tag body c)

pub request_changes : RequestChanges
request_changes change d next tag body b is = request_change change d next (session_in (outstanding next.requester)) is (round_is_request d next tag body b)
