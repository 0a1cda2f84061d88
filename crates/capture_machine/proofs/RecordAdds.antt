-- A record that adds an entry opens in the session that it names, and the entry has the turn of its inner message.
use Rattle.std.proofs.Common.{◌≡◌, ℕ, List, [], ◌∷◌, Bool, true, false, Option, Some, None, cond}
use Rattle.spdm_basis.specs.declared.causes.record_fault.RecordFault.{RecordFault}
use Rattle.spdm_grammar.specs.declared.told.phase.Phase.{Phase}
use Rattle.responder_machine.specs.Answer.{Free}
use Rattle.responder_machine.specs.History.{History, Entry, ended_of, clear_turns, phase_of}
use Rattle.responder_machine.specs.Records.{opening_fault, opened}
use Rattle.responder_machine.specs.Responder.{session_turn, sealed_entry, in_session, in_session_by, to_session, on_record, repeats}
use Rattle.responder_machine.specs.Responder.Outcome.{Same, Adds}
use Rattle.responder_machine.specs.Session.{Events, session_of, id_in_record, last_of}
use Rattle.responder_machine.specs.Setup.{RspSetup}
use Rattle.capture_machine.specs.Rounds.{no_draw}

module _ (r : RspSetup) (f : Free) (tag : ℕ) (sealed : List ℕ) (e : Entry) where
  -- The entry of a record in a session.
  abbrev pub entry_in : Events → Entry
  entry_in s = sealed_entry r s f tag sealed no_draw (session_turn r s (opened r.psk s sealed) f)

  in_added : (phase : Phase) (s : Events) (x : Option RecordFault) → in_session_by r phase s f tag sealed no_draw x ≡ Adds e → entry_in s ≡ e
  in_added phase s (Some fault) is = absurd (cc)
  in_added phase s None is = cc

  repeat_added : (phase : Phase) (s : Events) (kept : List ℕ) (b : Bool) → cond b (Same kept) (in_session r phase s f tag sealed no_draw) ≡ Adds e → entry_in s ≡ e
  unfolding in_session
  repeat_added phase s kept true is = absurd (cc)
  repeat_added phase s kept false is = in_added phase s (opening_fault r.psk s sealed) is

  to_added : (phase : Phase) (s : Events) → to_session r phase s f tag sealed no_draw ≡ Adds e → entry_in s ≡ e
  to_added phase [] is = absurd (cc)
  to_added phase (x ∷ s) is = repeat_added phase (x ∷ s) _ (repeats (last_of (x ∷ s)) sealed) is

  ended_added : (phase : Phase) (s : Events) (kept : List ℕ) (b : Bool) → cond b (Same kept) (to_session r phase s f tag sealed no_draw) ≡ Adds e → entry_in s ≡ e
  ended_added phase s kept true is = absurd (cc)
  ended_added phase s kept false is = to_added phase s is

  pub record_added : (h : History) → on_record r h tag sealed f no_draw ≡ Adds e → entry_in (session_of (id_in_record sealed) h) ≡ e
  unfolding on_record
  record_added h is = ended_added (phase_of (clear_turns h)) (session_of (id_in_record sealed) h) _ (repeats (ended_of h) sealed) is
