-- Whatever a requester does adds to a history that it made, and takes one draw at most.
use Rattle.std.proofs.Common.{◌≡◌, ℕ, ◌≤◌, ◌+◌, List, [], ◌∷◌, drop, length, Bool, true, false, cond, not, ◌&&◌, ◌||◌, Option, Some, None, Result, Ok, Err, ◌==◌, refl, sym, ap, ◌∙◌, subst, arith, eqb-true}
use Rattle.std.specs.Prelude.{slice_index, nat_lt, unwrap_or}
use Rattle.spdm_basis.specs.declared.causes.record_fault.RecordFault.{RecordFault}
use Rattle.spdm_grammar.specs.declared.told.command_fault.CommandFault.{CommandFault}
use Rattle.spdm_grammar.specs.declared.told.event.ReqIgnored.{ReqIgnored}
use Rattle.spdm_grammar.specs.declared.told.event.ReqIgnored.TheVariants as ignored
use Rattle.spdm_machine.specs.Keys.{Draw}
use Rattle.requester_machine.specs.Setup.{ReqSetup}
use Rattle.requester_machine.specs.Asking.{Outcome, asks, asks_by, done, resent}
use Rattle.requester_machine.specs.Asking.Outcome.{Ignores, Warns, Adds}
use Rattle.requester_machine.specs.Bodies.{body_fault, first_cause, is_clear, is_record, is_out_of_place, error_in}
use Rattle.requester_machine.specs.ClearAnswers.{clear_led}
use Rattle.requester_machine.specs.Commands.{Free, command_fault}
use Rattle.requester_machine.specs.Does.{IsMade, requester_asks, requester_hears, command_chosen, body_chosen}
use Rattle.requester_machine.specs.Hearing.{hears, hears_by, hears_to, clear_outcome, on_record, record_outcome, came_to}
use Rattle.requester_machine.specs.History.{History, Led, draws_of, takes_draw, outstanding}
use Rattle.requester_machine.specs.History.Entry.{Told, TookClear}
use Rattle.requester_machine.specs.Message.{Command, Ask, Aim, Sent}
use Rattle.requester_machine.specs.Message.Aim.{Plain, ByChunks, ForChunk, InSession}
use Rattle.requester_machine.specs.Message.Command.{Connect, Open, Send, Beat, Update, Measure, End, Retry}
use Rattle.requester_machine.specs.Records.{answer_fault}
use Rattle.requester_machine.specs.Session.{session_of}
use Rattle.requester_machine.specs.Shown.{after}
use Rattle.std.proofs.lemmas.Bool.{not-false}

-- ---- Commands.

pub record Made (q : ReqSetup) (h : History) (o : Outcome) : Type 0 where
  pub made : IsMade q (after h o)
  pub most : draws_of q (after h o) ≤ draws_of q h + 1

drawn : (b : Bool) (n : ℕ) → cond b (n + 1) n ≤ n + 1
drawn true n = omega arith
drawn false n = omega arith

told : (q : ReqSetup) (h : History) (command : Command) (sent : Sent) (d : Draw) → requester_asks false q h command d ≡ Adds (Told command sent d) → IsMade q h → Made q h (Adds (Told command sent d))
told q h command sent d e made = record { made = (e, made); most = drawn (takes_draw q command) (draws_of q h) }

resent_made : (q : ReqSetup) (h : History) (o : Option Sent) → IsMade q h → Made q h (resent o)
resent_made q h None made = record { made = made; most = omega arith }
resent_made q h (Some sent) made = record { made = made; most = omega arith }

done_made : (q : ReqSetup) (h : History) (command : Command) (f : Free) (d : Draw) → requester_asks false q h command d ≡ done q h command f d → IsMade q h → Made q h (done q h command f d)
done_made q h Connect f d e made = told q h Connect _ d e made
done_made q h (Open summary) f d e made = told q h (Open summary) _ d e made
done_made q h (Send id bytes) f d e made = told q h (Send id bytes) _ d e made
done_made q h (Beat id) f d e made = told q h (Beat id) _ d e made
done_made q h (Update id all) f d e made = told q h (Update id all) _ d e made
done_made q h (Measure None op) f d e made = told q h (Measure None op) _ d e made
done_made q h (Measure (Some id) op) f d e made = told q h (Measure (Some id) op) _ d e made
done_made q h (End id) f d e made = told q h (End id) _ d e made
done_made q h Retry f d e made = resent_made q h (outstanding h) made

by_fault : (q : ReqSetup) (h : History) (command : Command) (f : Free) (d : Draw) (o : Option CommandFault) → requester_asks false q h command d ≡ asks_by q h command f d o → IsMade q h → Made q h (asks_by q h command f d o)
by_fault q h command f d (Some fault) e made = record { made = made; most = omega arith }
by_fault q h command f d None e made = done_made q h command f d e made

pub asks_made : (q : ReqSetup) (h : History) (command : Command) (d : Draw) → IsMade q h → Made q h (requester_asks false q h command d)
unfolding asks
asks_made q h command d made = by_fault q h command (command_chosen q h d) d (command_fault false q h command (command_chosen q h d)) refl made

-- ---- Bodies. None takes a draw.

pub record Took (q : ReqSetup) (h : History) (o : Outcome) : Type 0 where
  pub made : IsMade q (after h o)
  pub same : draws_of q (after h o) ≡ draws_of q h

five : (body : List ℕ) → (slice_index body 0 == 5) ≡ true → body ≡ 5 ∷ drop 1 body
five [] e = absurd (cc)
five (x ∷ body) e = ap (λ (n : ℕ). n ∷ body) (eqb-true x 5 e)

six : (body : List ℕ) → (slice_index body 0 == 6) ≡ true → body ≡ 6 ∷ drop 1 body
six [] e = absurd (cc)
six (x ∷ body) e = ap (λ (n : ℕ). n ∷ body) (eqb-true x 6 e)

-- A body without a fault.
record IsPlaced (aim : Aim) (owner : Bool) (body : List ℕ) : Type 0 where
  owned : owner ≡ false
  typed : (is_clear body || is_record body) ≡ true
  placed : is_out_of_place aim body ≡ false

six_tests : (a b c d e f : Bool) → first_cause ((a, ignored.NotResponse) ∷ (b, ignored.NothingOutstanding) ∷ (c, ignored.WrongTag) ∷ (d, ignored.OtherType) ∷ (e, ignored.WrongPlace) ∷ (f, ignored.TooLong) ∷ []) ≡ None
    → (a ≡ false) × (d ≡ false) × (e ≡ false)
six_tests true b c d e f n = absurd (cc)
six_tests false true c d e f n = absurd (cc)
six_tests false false true d e f n = absurd (cc)
six_tests false false false true e f n = absurd (cc)
six_tests false false false false true f n = absurd (cc)
six_tests false false false false false f n = (refl, refl, refl)

is_placed : (q : ReqSetup) (sent : Sent) (owner : Bool) (tag : ℕ) (body : List ℕ) → body_fault q (Some sent) owner tag body ≡ None → IsPlaced sent.aim owner body
unfolding body_fault
is_placed q sent owner tag body n =
    let t = six_tests owner false (not (sent.tag == tag)) (not (is_clear body || is_record body)) (is_out_of_place sent.aim body) (is_clear body && nat_lt q.transfer (length (drop 1 body))) n in
    record { owned = t.0; typed = not-false _ t.1; placed = t.2 }

-- Not a record: a clear message.
clear_told : (body : List ℕ) → (is_clear body || is_record body) ≡ true → is_record body ≡ false → is_clear body ≡ true
clear_told body typed other = go (is_clear body) (is_record body) typed other
  where
    go : (a b : Bool) → (a || b) ≡ true → b ≡ false → a ≡ true
    go true b e n = refl
    go false true e n = absurd (cc)
    go false false e n = absurd (cc)

record_told : (body : List ℕ) → (is_clear body || is_record body) ≡ true → is_clear body ≡ false → is_record body ≡ true
record_told body typed other = go (is_clear body) (is_record body) typed other
  where
    go : (a b : Bool) → (a || b) ≡ true → a ≡ false → b ≡ true
    go true b e n = absurd (cc)
    go false b e n = e

module _ (q : ReqSetup) (h : History) (owner : Bool) (tag : ℕ) (body : List ℕ) (d : Draw) (made : IsMade q h) where
  stands : (o : Outcome) → after h o ≡ h → Took q h o
  stands o e = record { made = subst (IsMade q) (sym e) made; same = ap (draws_of q) e }

  -- The same outcome for the body as it is kept.
  kept_as : (o : Outcome) (kept : List ℕ) → owner ≡ false → body ≡ kept → requester_hears q h owner tag body d ≡ o → requester_hears q h false tag kept d ≡ o
  kept_as o kept own same e = ap (λ (b : Bool). requester_hears q h b tag kept d) (sym own) ∙ ap (λ (l : List ℕ). requester_hears q h owner tag l d) (sym same) ∙ e

  led_made : (led : Result Led ReqIgnored) → owner ≡ false → is_clear body ≡ true → requester_hears q h owner tag body d ≡ clear_outcome tag (drop 1 body) d led → Took q h (clear_outcome tag (drop 1 body) d led)
  led_made (Err cause) own clear e = stands (Ignores cause) refl
  led_made (Ok led) own clear e = record { made = (kept_as (Adds (TookClear tag (drop 1 body) led d)) (5 ∷ drop 1 body) own (five body clear) e, made); same = refl }

  fault_made : (f : Free) (id : ℕ) (ask : Ask) (o : Option RecordFault) → owner ≡ false → is_record body ≡ true
      → requester_hears q h owner tag body d ≡ record_outcome q h f tag ask (came_to q h id ask (drop 1 body)) d o → Took q h (record_outcome q h f tag ask (came_to q h id ask (drop 1 body)) d o)
  fault_made f id ask (Some fault) own is e = stands (Ignores (ignored.Record fault)) refl
  fault_made f id ask None own is e = record { made = (kept_as _ (6 ∷ drop 1 body) own (six body is) e, made); same = refl }

  record_made : (f : Free) (id : ℕ) (ask : Ask) → owner ≡ false → is_record body ≡ true → requester_hears q h owner tag body d ≡ on_record q h f tag id ask (drop 1 body) d → Took q h (on_record q h f tag id ask (drop 1 body) d)
  unfolding on_record
  record_made f id ask own is e = fault_made f id ask (answer_fault q.psk (session_of id h) ask (drop 1 body)) own is e

  session_made : (f : Free) (id : ℕ) (ask : Ask) (b : Bool) → is_clear body ≡ b → owner ≡ false → (is_clear body || is_record body) ≡ true
      → requester_hears q h owner tag body d ≡ cond b (Warns (unwrap_or (error_in (drop 1 body)) 0)) (on_record q h f tag id ask (drop 1 body) d)
      → Took q h (cond b (Warns (unwrap_or (error_in (drop 1 body)) 0)) (on_record q h f tag id ask (drop 1 body) d))
  session_made f id ask true is own typed e = stands (Warns (unwrap_or (error_in (drop 1 body)) 0)) refl
  session_made f id ask false is own typed e = record_made f id ask own (record_told body typed is) e

  aim_made : (f : Free) (aim : Aim) → IsPlaced aim owner body → requester_hears q h owner tag body d ≡ hears_to q h f tag body d aim → Took q h (hears_to q h f tag body d aim)
  aim_made f (Plain asked) p e = led_made (clear_led q h f (Plain asked) asked (drop 1 body)) p.owned (clear_told body p.typed p.placed) e
  aim_made f (ByChunks asked handle number) p e = led_made (clear_led q h f (ByChunks asked handle number) asked (drop 1 body)) p.owned (clear_told body p.typed p.placed) e
  aim_made f (ForChunk asked handle number before) p e = led_made (clear_led q h f (ForChunk asked handle number before) asked (drop 1 body)) p.owned (clear_told body p.typed p.placed) e
  aim_made f (InSession id ask) p e = session_made f id ask (is_clear body) refl p.owned p.typed e

  waiting_made : (f : Free) (waiting : Option Sent) (o : Option ReqIgnored) → body_fault q waiting owner tag body ≡ o → requester_hears q h owner tag body d ≡ hears_by q h f tag body d waiting o
      → Took q h (hears_by q h f tag body d waiting o)
  waiting_made f waiting (Some cause) is e = stands (Ignores cause) refl
  waiting_made f None None is e = stands (Ignores ignored.NothingOutstanding) refl
  waiting_made f (Some sent) None is e = aim_made f sent.aim (is_placed q sent owner tag body is) e

  pub hears_made : Took q h (requester_hears q h owner tag body d)
  unfolding hears
  hears_made = waiting_made (body_chosen q h d) (outstanding h) (body_fault q (outstanding h) owner tag body) refl refl
