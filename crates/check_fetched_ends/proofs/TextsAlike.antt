-- Whether a session takes a record, and what an answer to it holds, depends on no byte of a large response that was not
-- seen.
use Rattle.std.proofs.Common.{◌≡◌, ◌==◌, ◌&&◌, ℕ, List, sym, ap, ◌∙◌, drop, Bool, true, Option, Some}
use Rattle.std.specs.Prelude.{is_none, not, slice_index}
use Rattle.check_responder.specs.AnswerKeys.{will_take}
use Rattle.check_laws.specs.AnswersShown.{answered_text}
use Rattle.key_schedule.specs.Purpose.{Purpose, iv_of, key_of}
use Rattle.responder_machine.specs.History.{History, KeptRecord, ended_of}
use Rattle.responder_machine.specs.Records.{opened, opening_fault}
use Rattle.responder_machine.specs.Responder.{repeats, session_turn}
use Rattle.responder_machine.specs.Session.{Events, id_in_record, is_live, last_of, session_of, session_terms}
use Rattle.responder_machine.specs.Setup.{RspSetup}
use Rattle.responder_machine.specs.Turn.{updates}
use Rattle.secured_record.specs.Faults.{opened_text}
use Rattle.spdm_grammar.specs.declared.messages.choice.Choice.{Choice}
use Rattle.capture_machine.proofs.FetchedSessions.{ended_fetched}
use Rattle.capture_machine.proofs.UnseenStands.{UnseenStand}
use Rattle.capture_machine.specs.LargeAnswers.{with_large}
use Rattle.capture_machine.specs.Opening.{any_free, turn_in}
use Rattle.check_late_laws.proofs.Late.SeenAlike.{SeenAlike, fault_alike, last_alike, live_alike, opened_alike}
use Rattle.check_late_laws.proofs.Late.SeenOpens.{IsOne, number_by, one_key, purpose_by}
use Rattle.check_late_laws.proofs.Late.SeenSessions.{seen_alike}
use Rattle.check_late_laws.proofs.Late.SeenUpdates.{updates_alike}
use Rattle.check_fetched_ends.specs.InSession.{IsTextOf}

module _ (r : RspSetup) (which : ℕ) (h : History) (none : UnseenStand h) (body : List ℕ) where
  abbrev m : List ℕ
  m = drop 1 body

  abbrev u : Events
  u = session_of (id_in_record (drop 1 body)) h

  module _ (v : List ℕ) where
    abbrev g : History
    g = with_large (Some which) v h

    abbrev s : Events
    s = session_of (id_in_record (drop 1 body)) g

    a : SeenAlike s u
    a = seen_alike (id_in_record m) which v h none

    will_alike : will_take r g body ≡ will_take r h body
    will_alike =
        ap (λ (k : Option KeptRecord). not (slice_index body 0 == 5) && (not (repeats k m) && (not (repeats (last_of s) m) && (is_live s && is_none (opening_fault r.psk s m))))) (ended_fetched (Some which) v h)
        ∙ ap (λ (k : Option KeptRecord). not (slice_index body 0 == 5) && (not (repeats (ended_of h) m) && (not (repeats k m) && (is_live s && is_none (opening_fault r.psk s m))))) (last_alike s u a)
        ∙ ap (λ (b : Bool). not (slice_index body 0 == 5) && (not (repeats (ended_of h) m) && (not (repeats (last_of u) m) && (b && is_none (opening_fault r.psk s m))))) (live_alike s u a)
        ∙ ap (λ o. not (slice_index body 0 == 5) && (not (repeats (ended_of h) m) && (not (repeats (last_of u) m) && (is_live u && is_none o)))) (fault_alike r.psk s u m a)

    turns : updates 2 (turn_in r s m) ≡ updates 2 (turn_in r u m)
    turns = updates_alike r s u a any_free (opened r.psk s m) ∙ ap (λ (l : List ℕ). updates 2 (session_turn r u l any_free)) (opened_alike r.psk s u m a)

    text_of : Choice → Purpose → ℕ → List ℕ → List ℕ
    text_of c p n sealed = opened_text (key_of c.hash c.aead p) (iv_of c.hash p) n sealed

    text_alike : (sealed : List ℕ) → answered_text r s (turn_in r s m) sealed ≡ answered_text r u (turn_in r u m) sealed
    unfolding text_of
    text_alike sealed =
        let b : Bool = updates 2 (turn_in r u m) in
        let one : IsOne r.psk s u b = one_key r.psk s u b a in
        ap (λ (x : Bool). text_of (session_terms s).choice (purpose_by r.psk s x) (number_by s x) sealed) turns
        ∙ ap (λ (c : Choice). text_of c (purpose_by r.psk s b) (number_by s b) sealed) one.choice
        ∙ ap (λ (p : Purpose). text_of (session_terms u).choice p (number_by s b) sealed) one.purpose
        ∙ ap (λ (n : ℕ). text_of (session_terms u).choice (purpose_by r.psk u b) n sealed) one.number

  -- So it is with any other bytes.
  pub taken_moved : (v w : List ℕ) → will_take r (with_large (Some which) v h) body ≡ true → will_take r (with_large (Some which) w h) body ≡ true
  taken_moved v w is = will_alike w ∙ sym (will_alike v) ∙ is

  pub text_moved : (v w answer text : List ℕ) → IsTextOf r (with_large (Some which) v h) body answer text → IsTextOf r (with_large (Some which) w h) body answer text
  text_moved v w answer text is = record {
    taken = taken_moved v w is.taken;
    holds = is.holds ∙ text_alike v (drop 1 answer) ∙ sym (text_alike w (drop 1 answer));
    brief = is.brief;
  }
