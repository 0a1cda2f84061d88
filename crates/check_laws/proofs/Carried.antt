-- In each walk an answer that carries PSK_EXCHANGE_RSP is longer than the verify data of either hash.
use Rattle.std.proofs.Common.{◌≡◌, ◌==◌, ℕ, List, [], ◌∷◌, refl, sym, subst, drop, Bool, true, false, Option, Some, None, cond, inl, inr}
use Rattle.std.specs.Prelude.{slice_index}
use Rattle.std.proofs.lemmas.Bool.{false≢true}
use Rattle.spdm_basis.specs.declared.causes.record_fault.RecordFault.{RecordFault}
use Rattle.spdm_grammar.specs.declared.told.phase.Phase.{Phase}
use Rattle.spdm_grammar.specs.declared.told.phase.Phase.TheVariants.{Fresh, Versioned, Capable, Negotiated}
use Rattle.spdm_machine.specs.Bodies.{clear_body, record_body}
use Rattle.responder_machine.specs.Answer.{Free}
use Rattle.responder_machine.specs.History.{History, Entry, ended_of, clear_turns, kept_of, phase_of}
use Rattle.responder_machine.specs.History.Entry.{Clear, Sealed, Queued, Ticked, Dropped}
use Rattle.responder_machine.specs.May.{IsAllowed, place_for, with_dropped}
use Rattle.responder_machine.specs.Place.{Place, clear_place}
use Rattle.responder_machine.specs.Records.{opening_fault}
use Rattle.responder_machine.specs.Responder.{Outcome, after, body_of, decrypt_error, in_session, in_session_by, is_repeat, kept_reply, on_clear, on_record, repeats, to_session}
use Rattle.responder_machine.specs.Responder.Outcome.{Same, Unopened, Adds}
use Rattle.responder_machine.specs.Session.{Events, id_in_record, last_of, session_of}
use Rattle.responder_machine.specs.Setup.{RspSetup}
use Rattle.responder_machine.specs.Turn.{is_taken}
use Rattle.capture_machine.specs.CapturedAnswers.{Answers, AnswersAgain, AnswersLarge, AnswersPlainly, Completes, MayLeadTo}
use Rattle.capture_machine.specs.Difference.{is_other_type}
use Rattle.capture_machine.specs.LargeAnswers.{dropped_before_large, is_unseen_in, judging, place_named, seen, unseen, with_large}
use Rattle.capture_machine.specs.Rounds.{Dialogue, Round, no_draw}
use Rattle.capture_machine.proofs.PlacesServed.{place_type}
use Rattle.check_laws.proofs.LongAnswers.{IsLong, turn_long}

-- A body of type 5 or 6 that is long, if it carries PSK_EXCHANGE_RSP.
pub record IsMade (body : List ℕ) : Type 0 where
  pub typed : is_other_type body ≡ false
  pub long : IsLong body

-- All replies to clear messages are long.
abbrev pub AreLong : History → Type 0
AreLong [] = Unit {0}
AreLong (Clear tag t d ∷ older) = IsLong (clear_body t.reply) × AreLong older
AreLong (Sealed tag sealed t reply d ∷ older) = AreLong older
AreLong (Queued bytes ∷ older) = AreLong older
AreLong (Ticked seconds ∷ older) = AreLong older
AreLong (Dropped id ∷ older) = AreLong older

-- ---- What a body leads to.

either_made : (b : Bool) (o p : Outcome) → IsMade (body_of o) → IsMade (body_of p) → IsMade (body_of (cond b o p))
either_made true o p one other = one
either_made false o p one other = other

record_made : (sealed : List ℕ) → IsMade (record_body sealed)
record_made sealed = record { typed = refl; long = λ is. absurd (false≢true is) }

error_made : (phase : Phase) → IsMade (decrypt_error phase)
error_made Fresh = record { typed = refl; long = λ is. absurd (false≢true is) }
error_made Versioned = record { typed = refl; long = λ is. absurd (false≢true is) }
error_made Capable = record { typed = refl; long = λ is. absurd (false≢true is) }
error_made Negotiated = record { typed = refl; long = λ is. absurd (false≢true is) }

clear_made : (m : List ℕ) → IsLong (clear_body m) → IsMade (clear_body m)
clear_made m long = record { typed = refl; long = long }

kept_long : (h : History) → AreLong h → IsLong (clear_body (kept_reply (kept_of h)))
kept_long [] all = λ is. absurd (false≢true is)
kept_long (Clear tag t d ∷ older) all = by_taken (is_taken t) all.0 (kept_long older all.1)
  where
    by_taken : (b : Bool) → IsLong (clear_body t.reply) → IsLong (clear_body (kept_reply (kept_of older)))
        → IsLong (clear_body (kept_reply (cond b (Some (record { tag = tag; message = t.message; reply = t.reply })) (kept_of older))))
    by_taken true here rest = here
    by_taken false here rest = rest
kept_long (Sealed tag sealed t reply d ∷ older) all = kept_long older all
kept_long (Queued bytes ∷ older) all = kept_long older all
kept_long (Ticked seconds ∷ older) all = kept_long older all
kept_long (Dropped id ∷ older) all = kept_long older all

on_clear_made : (r : RspSetup) (h : History) (tag : ℕ) (m : List ℕ) (f : Free) → AreLong h → IsAllowed h (clear_place h) f → IsMade (body_of (on_clear r h tag m f no_draw))
unfolding on_clear
on_clear_made r h tag m f all allowed =
    either_made (is_repeat (kept_of h) tag m) _ _ (clear_made _ (kept_long h all)) (clear_made _ (turn_long r (clear_place h) m f allowed.context))

in_session_made : (r : RspSetup) (phase : Phase) (s : Events) (f : Free) (tag : ℕ) (sealed : List ℕ) (o : Option RecordFault) → IsMade (body_of (in_session_by r phase s f tag sealed no_draw o))
in_session_made r phase s f tag sealed (Some fault) = error_made phase
in_session_made r phase s f tag sealed None = record_made _

to_session_made : (r : RspSetup) (phase : Phase) (s : Events) (f : Free) (tag : ℕ) (sealed : List ℕ) → IsMade (body_of (to_session r phase s f tag sealed no_draw))
unfolding in_session
to_session_made r phase [] f tag sealed = error_made phase
to_session_made r phase (e ∷ s) f tag sealed =
    either_made (repeats (last_of (e ∷ s)) sealed) _ _ (record_made _) (in_session_made r phase (e ∷ s) f tag sealed (opening_fault r.psk (e ∷ s) sealed))

on_record_made : (r : RspSetup) (h : History) (tag : ℕ) (sealed : List ℕ) (f : Free) → IsMade (body_of (on_record r h tag sealed f no_draw))
unfolding on_record
on_record_made r h tag sealed f =
    either_made (repeats (ended_of h) sealed) _ _ (record_made _) (to_session_made r (phase_of (clear_turns h)) (session_of (id_in_record sealed) h) f tag sealed)

body_made : (r : RspSetup) (h : History) (tag : ℕ) (body : List ℕ) (f : Free) (b : Bool) → AreLong h → (slice_index body 0 == 5) ≡ b → IsAllowed h (place_for h body) f
    → IsMade (body_of (cond b (on_clear r h tag (drop 1 body) f no_draw) (on_record r h tag (drop 1 body) f no_draw)))
body_made r h tag body f true all is allowed =
    on_clear_made r h tag (drop 1 body) f all (subst (λ (p : Place). IsAllowed h p f) (place_type h body true is) allowed)
body_made r h tag body f false all is allowed = on_record_made r h tag (drop 1 body) f

pub led_made : (r : RspSetup) (h : History) (tag : ℕ) (body : List ℕ) (o : Outcome) → AreLong h → MayLeadTo r h tag body o → IsMade (body_of o)
unfolding MayLeadTo
led_made r h tag body o all may = subst (λ (x : Outcome). IsMade (body_of x)) may.3 (body_made r h tag body may.0 (slice_index body 0 == 5) all refl may.1)

-- ---- What is kept.

after_long : (h : History) (o : Outcome) → AreLong h → IsLong (body_of o) → AreLong (after h o)
after_long h (Same body) all long = all
after_long h (Unopened body) all long = all
after_long h (Adds (Clear tag t d)) all long = (long, all)
after_long h (Adds (Sealed tag sealed t reply d)) all long = all
after_long h (Adds (Queued bytes)) all long = all
after_long h (Adds (Ticked seconds)) all long = all
after_long h (Adds (Dropped id)) all long = all

pub dropped_long : (h : History) (ids : List ℕ) → AreLong h → AreLong (with_dropped h ids)
dropped_long h [] all = all
dropped_long h (id ∷ ids) all = dropped_long (Dropped id ∷ h) ids all

-- With other bytes as its answer, or with none, an entry has the same reply.
seen_long : (answer : List ℕ) (e : Entry) (h : History) → AreLong (e ∷ h) → AreLong (seen answer e ∷ h)
seen_long answer (Clear tag t d) h all = all
seen_long answer (Sealed tag sealed t reply d) h all = all
seen_long answer (Queued bytes) h all = all
seen_long answer (Ticked seconds) h all = all
seen_long answer (Dropped id) h all = all

unseen_long : (e : Entry) (h : History) → AreLong (e ∷ h) → AreLong (unseen e ∷ h)
unseen_long (Clear tag t d) h all = all
unseen_long (Sealed tag sealed t reply d) h all = all
unseen_long (Queued bytes) h all = all
unseen_long (Ticked seconds) h all = all
unseen_long (Dropped id) h all = all

older_long : (e : Entry) (h : History) → AreLong (e ∷ h) → AreLong h
older_long (Clear tag t d) h all = all.1
older_long (Sealed tag sealed t reply d) h all = all
older_long (Queued bytes) h all = all
older_long (Ticked seconds) h all = all
older_long (Dropped id) h all = all

same_long : (e : Entry) (h g : History) → AreLong (e ∷ h) → AreLong g → AreLong (e ∷ g)
same_long (Clear tag t d) h g all other = (all.0, other)
same_long (Sealed tag sealed t reply d) h g all other = other
same_long (Queued bytes) h g all other = other
same_long (Ticked seconds) h g all other = other
same_long (Dropped id) h g all other = other

either_long : (b : Bool) (h g : History) → AreLong h → AreLong g → AreLong (cond b h g)
either_long true h g one other = one
either_long false h g one other = other

large_long : (place : Option ℕ) (answer : List ℕ) (h : History) → AreLong h → AreLong (with_large place answer h)
large_long place answer [] all = tt
large_long place answer (e ∷ older) all =
    either_long (is_unseen_in place e) _ _ (seen_long answer e older all) (same_long e older (with_large place answer older) all (large_long place answer older (older_long e older all)))

pub judging_long : (fetching : Option (List ℕ)) (body : List ℕ) (h : History) → AreLong h → AreLong (judging fetching body h)
judging_long None body h all = all
judging_long (Some whole) body h all = large_long (place_named body) whole h all

before_long : (place : Option ℕ) (ids : List ℕ) (h : History) → AreLong h → AreLong (dropped_before_large place ids h)
before_long place ids [] all = tt
before_long place ids (e ∷ older) all =
    let rest = older_long e older all in
    either_long (is_unseen_in place e) _ _ (same_long e older (with_dropped older ids) all (dropped_long older ids rest)) (same_long e older (dropped_before_large place ids older) all (before_long place ids older rest))

-- ---- An answer.

pub record Leaves (answer : List ℕ) (next : History) : Type 0 where
  pub made : IsMade answer
  pub kept : AreLong next

plainly : (r : RspSetup) (d : Dialogue) (round : Round) (answer : List ℕ) (next : History) → AreLong d.responder → AnswersPlainly r d round answer next → Leaves answer next
plainly r d round answer next all a =
    let from = dropped_long (judging d.fetching round.body d.responder) a.0 (judging_long d.fetching round.body d.responder all) in
    let made = led_made r (with_dropped (judging d.fetching round.body d.responder) a.0) round.tag round.body a.1 from a.2.1 in record {
      made = subst IsMade a.5 made;
      kept = subst AreLong (sym a.6) (after_long (with_dropped d.responder a.0) a.1 (dropped_long d.responder a.0 all) made.long);
    }

largely : (r : RspSetup) (d : Dialogue) (round : Round) (answer : List ℕ) (next : History) (whole : List ℕ) → AreLong d.responder → AnswersLarge r d round answer next whole → Leaves answer next
largely r d round answer next whole all a =
    let from = dropped_long (judging d.fetching round.body d.responder) a.0 (judging_long d.fetching round.body d.responder all) in
    let made = led_made r (with_dropped (judging d.fetching round.body d.responder) a.0) round.tag round.body (Adds a.1) from a.2.1 in record {
      made = subst IsMade a.5 made;
      kept = subst AreLong (sym a.6) (unseen_long a.1 d.responder (after_long d.responder (Adds a.1) all made.long));
    }

again : (r : RspSetup) (d : Dialogue) (round : Round) (answer : List ℕ) (next : History) (whole : List ℕ) → AreLong d.responder → AnswersAgain r d round answer next whole → Leaves answer next
again r d round answer next whole all a = record {
  made = led_made r d.responder round.tag round.body (Same answer) all a.1;
  kept = subst AreLong (sym a.4) all;
}

completes : (r : RspSetup) (d : Dialogue) (round : Round) (answer : List ℕ) (next : History) → AreLong d.responder → Completes r d round answer next → Leaves answer next
completes r d round answer next all a =
    let place : Option ℕ = place_named round.body in
    let made = led_made r (judging d.fetching round.body d.responder) round.tag round.body (Adds a.2) (judging_long d.fetching round.body d.responder all) a.4 in record {
      made = subst IsMade a.7 made;
      kept = subst AreLong (sym a.8) (after_long (with_large place a.0 (dropped_before_large place a.1 d.responder)) (Adds a.2) (large_long place a.0 (dropped_before_large place a.1 d.responder) (before_long place a.1 d.responder all)) made.long);
    }

pub answers_leave : (r : RspSetup) (d : Dialogue) (round : Round) (answer : List ℕ) (next : History) (fetching : Option (List ℕ)) → AreLong d.responder → Answers r d round answer next fetching → Leaves answer next
unfolding Answers
answers_leave r d round answer next fetching all (inl a) = plainly r d round answer next all a.0
answers_leave r d round answer next fetching all (inr (inl a)) = largely r d round answer next a.0 all a.1
answers_leave r d round answer next fetching all (inr (inr (inl a))) = again r d round answer next a.0 all a.1
answers_leave r d round answer next fetching all (inr (inr (inr a))) = completes r d round answer next all a.0
