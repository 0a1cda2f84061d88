-- A record that gets LargeResponse has an answer that goes so: it was prepared for.
use Rattle.std.proofs.Common.{◌≡◌, ◌==◌, ◌&&◌, ℕ, List, [], ◌∷◌, sym, ap, ◌∙◌, drop, Bool, true, false, cond, is_some}
use Rattle.std.specs.Prelude.{not, slice_index}
use Rattle.std.proofs.lemmas.Bool.{not-false}
use Rattle.check_laws.specs.AnswersShown.{is_whole, values_shown_by}
use Rattle.check_laws.specs.LargeShown.{IsShownLarge, drops_before, first_dropped, large_shown}
use Rattle.responder_core.specs.OwnAnswers.{opens_in}
use Rattle.responder_machine.specs.Answer.{Free}
use Rattle.responder_machine.specs.History.{History, ended_of}
use Rattle.responder_machine.specs.May.{on_body, with_dropped}
use Rattle.responder_machine.specs.Place.{held_of}
use Rattle.responder_machine.specs.Responder.{repeats}
use Rattle.responder_machine.specs.Responder.Outcome.{Adds}
use Rattle.responder_machine.specs.Session.{Events, id_in_record, last_of, session_of}
use Rattle.responder_machine.specs.Setup.{RspSetup}
use Rattle.responder_machine.specs.Turn.{handle_in}
use Rattle.responder_session.specs.Took.{turn_in}
use Rattle.spdm_basis.proofs.Bools.{and_second}
use Rattle.capture_machine.specs.Rounds.{no_draw}
use Rattle.check_fetched_laws.proofs.LargeTaken.{large_taken}
use Rattle.check_fetched_laws.proofs.RecordTaken.{body_adds, entry_at}
use Rattle.check_fetched_ends.specs.Prepared.{NeverLarge}

module _ (r : RspSetup) (g : History) (tag : ℕ) (body answer : List ℕ) (type : (slice_index body 0 == 5) ≡ false) (large : IsShownLarge r g tag body answer) where
  abbrev m : List ℕ
  m = drop 1 body

  abbrev f : Free
  f = values_shown_by r g tag body answer

  abbrev s : Events
  s = session_of (id_in_record (drop 1 body)) g

  no_drops : drops_before g body ≡ []
  no_drops = ap (λ (b : Bool). cond (b && held_of g == 4) (first_dropped g (1 ∷ 2 ∷ 3 ∷ 4 ∷ [])) []) type

  pub adds : large_shown r g tag body answer ≡ Adds (entry_at r g tag body answer type (large_taken r g tag body answer type large) (values_shown_by r g tag body answer))
  unfolding large_shown
  adds =
      ap (λ (l : List ℕ). on_body r (with_dropped g l) tag body (values_shown_by r (with_dropped g l) tag body answer) no_draw) no_drops
      ∙ body_adds r g tag body answer type (large_taken r g tag body answer type large) f

  pub goes : is_some (handle_in (turn_in r (session_of (id_in_record (drop 1 body)) g) (values_shown_by r g tag body answer) (drop 1 body)).effect) ≡ true
  goes = not-false _ (sym (ap is_whole adds) ∙ large.1)

  pub opens : opens_in r (session_of (id_in_record (drop 1 body)) g) (drop 1 body) ≡ true
  opens = and_second (not (repeats (last_of s) m)) (opens_in r s m) (and_second (not (repeats (ended_of g) m)) (not (repeats (last_of s) m) && opens_in r s m) (and_second (not (slice_index body 0 == 5)) _ (large_taken r g tag body answer type large)))

  pub never_prepared : NeverLarge r g (drop 1 body) → ⊥
  never_prepared never = never opens f goes
