-- While a large response is fetched in a session, the answer to a record tells the outcome, whatever bytes stand for
-- the large one.
use Rattle.spdm_machine.specs.Bodies.{record_body}
use Rattle.std.proofs.Common.{◌≡◌, ◌≤◌, ℕ, List, ◌∷◌, refl, sym, ap, subst, length, drop, Bool, true, false, Option, Some, None, cond}
use Rattle.std.proofs.lemmas.Bool.{false≢true}
use Rattle.spdm_basis.specs.declared.causes.record_fault.RecordFault.{RecordFault}
use Rattle.spdm_grammar.specs.declared.told.phase.Phase.{Phase}
use Rattle.spdm_grammar.specs.declared.names.TheConstants.{MAX_MESSAGE_SIZE}
use Rattle.spdm_machine.specs.Keys.{Draw}
use Rattle.responder_machine.specs.Answer.{Free, answer_bytes}
use Rattle.responder_machine.specs.Place.{session_place}
use Rattle.responder_machine.specs.Records.{opening_fault, opened}
use Rattle.responder_machine.specs.Responder.{session_turn, sealed_entry, in_session, in_session_by, to_session, repeats, kept_record, body_of}
use Rattle.responder_machine.specs.Responder.Outcome.{Same, Adds}
use Rattle.responder_machine.specs.Session.{Events, last_of}
use Rattle.responder_machine.specs.Session.Event.{Heard}
use Rattle.responder_machine.specs.Setup.{RspSetup}
use Rattle.capture_machine.proofs.EventsAlike.{EventsAlike, last_alike, fault_alike, opened_alike, answered}
use Rattle.capture_machine.proofs.EventsAlike.EventsAlike.{NoEvent, Behind, Here}
use Rattle.capture_machine.proofs.RepliesTell.{OutcomesAlike}
use Rattle.capture_machine.proofs.FetchedRecords.{opened_told}

module _ (r : RspSetup) (tag : ℕ) (sealed : List ℕ) (f k : Free) (d : Draw) (few : length f.reply ≤ 1024) (less : length k.reply ≤ 1024) where
  -- The whole answers are no longer than any message.
  abbrev pub AreShort : Events → Events → Type 0
  AreShort s u = (length (answer_bytes r (session_place s) (drop 1 (opened r.psk s sealed)) f) ≤ MAX_MESSAGE_SIZE) × (length (answer_bytes r (session_place u) (drop 1 (opened r.psk u sealed)) k) ≤ MAX_MESSAGE_SIZE)

  entry_told : (s u : Events) → EventsAlike s u → AreShort s u
      → body_of (Adds (sealed_entry r s f tag sealed d (session_turn r s (opened r.psk s sealed) f))) ≡ body_of (Adds (sealed_entry r u k tag sealed d (session_turn r u (opened r.psk u sealed) k)))
      → OutcomesAlike (Adds (sealed_entry r s f tag sealed d (session_turn r s (opened r.psk s sealed) f))) (Adds (sealed_entry r u k tag sealed d (session_turn r u (opened r.psk u sealed) k)))
  entry_told s u a short =
      let P : List ℕ → Type 0 = λ text. length (answer_bytes r (session_place u) (drop 1 text) k) ≤ MAX_MESSAGE_SIZE
      → body_of (Adds (sealed_entry r s f tag sealed d (session_turn r s (opened r.psk s sealed) f))) ≡ body_of (Adds (sealed_entry r u k tag sealed d (session_turn r u text k)))
      → OutcomesAlike (Adds (sealed_entry r s f tag sealed d (session_turn r s (opened r.psk s sealed) f))) (Adds (sealed_entry r u k tag sealed d (session_turn r u text k))) in
      subst P (opened_alike r.psk s u sealed a)
      (λ brief same. (refl, refl, opened_told r s u (opened r.psk s sealed) f k a few less short.0 brief (ap (λ (l : List ℕ). drop 1 l) same), ap (λ (l : List ℕ). drop 1 l) same, refl)) short.1

  in_told : (phase : Phase) (s u : Events) (x : Option RecordFault) → EventsAlike s u → AreShort s u → body_of (in_session_by r phase s f tag sealed d x) ≡ body_of (in_session_by r phase u k tag sealed d x)
      → OutcomesAlike (in_session_by r phase s f tag sealed d x) (in_session_by r phase u k tag sealed d x)
  in_told phase s u (Some fault) a short same = refl
  in_told phase s u None a short same = entry_told s u a short same

  session_told : (phase : Phase) (s u : Events) → EventsAlike s u → AreShort s u → body_of (in_session r phase s f tag sealed d) ≡ body_of (in_session r phase u k tag sealed d) → OutcomesAlike (in_session r phase s f tag sealed d) (in_session r phase u k tag sealed d)
  unfolding in_session
  session_told phase s u a short =
      let P : Option RecordFault → Type 0 = λ x. body_of (in_session r phase s f tag sealed d) ≡ body_of (in_session_by r phase u k tag sealed d x) → OutcomesAlike (in_session r phase s f tag sealed d) (in_session_by r phase u k tag sealed d x) in
      subst P (fault_alike r.psk s u sealed a) (in_told phase s u (opening_fault r.psk s sealed) a short)

  repeat_told : (phase : Phase) (s u : Events) (b c : Bool) (kept other : List ℕ) → b ≡ c → kept ≡ other → EventsAlike s u → AreShort s u
      → body_of (cond b (Same kept) (in_session r phase s f tag sealed d)) ≡ body_of (cond c (Same other) (in_session r phase u k tag sealed d))
      → OutcomesAlike (cond b (Same kept) (in_session r phase s f tag sealed d)) (cond c (Same other) (in_session r phase u k tag sealed d))
  repeat_told phase s u true true kept other one two a short same = two
  repeat_told phase s u false false kept other one two a short same = session_told phase s u a short same
  repeat_told phase s u true false kept other one two a short same = absurd (false≢true (sym one))
  repeat_told phase s u false true kept other one two a short same = absurd (false≢true one)

  -- What a record leads to in the session.
  pub to_told : (phase : Phase) (s u : Events) → EventsAlike s u → AreShort s u → body_of (to_session r phase s f tag sealed d) ≡ body_of (to_session r phase u k tag sealed d)
      → OutcomesAlike (to_session r phase s f tag sealed d) (to_session r phase u k tag sealed d)
  to_told phase _ _ NoEvent short same = refl
  to_told phase _ _ (Behind e s u a) short same =
      let last = last_alike (e ∷ s) (e ∷ u) (Behind e s u a) in
      repeat_told phase (e ∷ s) (e ∷ u) (repeats (last_of (e ∷ s)) sealed) (repeats (last_of (e ∷ u)) sealed) _ _ (ap (λ x. repeats x sealed) last) (ap (λ x. record_body (kept_record x)) last) (Behind e s u a) short same
  to_told phase _ _ (Here m t x n large w v reply s u not a) short same =
      repeat_told phase _ _ (repeats (last_of (Heard m (answered t x n large w) reply ∷ s)) sealed) (repeats (last_of (Heard m (answered t x n large v) reply ∷ u)) sealed) _ _ refl refl (Here m t x n large w v reply s u not a) short same
