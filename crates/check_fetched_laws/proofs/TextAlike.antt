-- What an answer to a record holds depends on no byte of the large response that is fetched in its session.
use Rattle.std.proofs.Common.{◌≡◌, ◌==◌, ◌+◌, ℕ, List, [], refl, sym, ap, ◌∙◌, drop, Bool, true, false, None, cond}
use Rattle.std.specs.Prelude.{slice_index}
use Rattle.std.proofs.lemmas.Bool.{false≢true}
use Rattle.key_schedule.specs.Purpose.{iv_of, key_of}
use Rattle.secured_record.specs.Faults.{opened_text}
use Rattle.responder_machine.specs.History.{History}
use Rattle.responder_machine.specs.May.{place_for}
use Rattle.responder_machine.specs.Place.{session_place}
use Rattle.responder_machine.specs.Records.{opened, response_purpose}
use Rattle.responder_machine.specs.Refusal.{has_pending}
use Rattle.responder_machine.specs.Responder.{session_turn}
use Rattle.responder_machine.specs.Session.{Events, id_in_record, response_epoch, response_next, session_of, session_terms}
use Rattle.responder_machine.specs.Setup.{RspSetup, towards}
use Rattle.responder_machine.specs.Turn.{Effect, Turn, takes, updates}
use Rattle.responder_machine.specs.Turn.Effect.{NoEffect, Took, TookData}
use Rattle.spdm_grammar.specs.Message.RequestMessage.{GetVersion, GetCapabilities, NegotiateAlgorithms, GetMeasurements, PskExchange, PskFinish, Heartbeat, KeyUpdate, EndSession, ChunkSend, ChunkGet}
use Rattle.spdm_grammar.specs.declared.names.request_code.TheConstants.{CHUNK_GET}
use Rattle.check_fetched_laws.proofs.SealedAlike.{session_within}
use Rattle.check_fetched_laws.proofs.SealedTurns.{session_same}
use Rattle.check_fetched_laws.proofs.WalksSound.{walk_stands}
use Rattle.check_fetched_laws.specs.AlikeAnswers.{ArePending, TextIsAlike, text_with}
use Rattle.capture_machine.proofs.EventsAlike.{EventsAlike, answer_alike, exchange_alike, finish_alike, finish_answer_alike, negotiation_alike, opened_alike, response_epoch_alike, response_number_alike, stage_alike}
use Rattle.capture_machine.proofs.FetchedSessions.{InSession, sessions_fetched}
use Rattle.capture_machine.proofs.PlacesServed.{place_type}
use Rattle.capture_machine.specs.LargeAnswers.{place_named, with_large}
use Rattle.capture_machine.specs.Opening.{any_free, turn_in}
use Rattle.world_machine.specs.Setup.{known_of}

-- ---- Whether all keys are updated.

-- CHUNK_GET updates none.
get_updates : (m : List ℕ) (x : Effect) → let t : Turn = record { message = m; refused = None; chunk = None; effect = x; reply = [] } in takes CHUNK_GET t ≡ true → updates 2 t ≡ false
get_updates m NoEffect gets = refl
get_updates m (TookData bytes answer) gets = refl
get_updates m (Took (KeyUpdate op tag) l answer large) gets = absurd (false≢true gets)
get_updates m (Took (ChunkGet handle number) l answer large) gets = refl
get_updates m (Took (ChunkSend c) l answer large) gets = refl
get_updates m (Took GetVersion l answer large) gets = refl
get_updates m (Took (GetCapabilities caps) l answer large) gets = refl
get_updates m (Took (NegotiateAlgorithms offer) l answer large) gets = refl
get_updates m (Took (GetMeasurements op) l answer large) gets = refl
get_updates m (Took (PskExchange x) l answer large) gets = refl
get_updates m (Took (PskFinish verify) l answer large) gets = refl
get_updates m (Took Heartbeat l answer large) gets = refl
get_updates m (Took EndSession l answer large) gets = refl

module _ (r : RspSetup) (s u : Events) (inner : List ℕ) (one : EventsAlike s u) (other : EventsAlike u s) (pending : has_pending (session_place s) ≡ has_pending (session_place u)) where
  abbrev t : Turn
  t = session_turn r s inner any_free

  abbrev k : Turn
  k = session_turn r u inner any_free

  updates_alike : updates 2 (session_turn r s inner any_free) ≡ updates 2 (session_turn r u inner any_free)
  updates_alike = by_gets (takes CHUNK_GET t) (takes CHUNK_GET k) refl refl
    where
      by_gets : (b c : Bool) → takes CHUNK_GET t ≡ b → takes CHUNK_GET k ≡ c → updates 2 t ≡ updates 2 k
      by_gets false c is at = ap (updates 2) (session_same r s u inner any_free one pending (λ gets. absurd (false≢true (sym is ∙ gets))))
      by_gets true false is at = sym (ap (updates 2) (session_same r u s inner any_free other (sym pending) (λ gets. absurd (false≢true (sym at ∙ gets)))))
      by_gets true true is at = get_updates t.message t.effect is ∙ sym (get_updates k.message k.effect at)

-- ---- The text.

-- By whether all keys are updated.
abbrev text_by : RspSetup → Events → Bool → List ℕ → List ℕ
text_by r s b x =
    let choice = (session_terms s).choice in
    let purpose = cond b (record (response_purpose r.psk s) { epoch = response_epoch s + 1 }) (response_purpose r.psk s) in
    opened_text (key_of choice.hash choice.aead purpose) (iv_of choice.hash purpose) (cond b 0 (response_next s)) x

module _ (r : RspSetup) (s u : Events) (e : EventsAlike s u) where
  text_same : (b : Bool) (x : List ℕ) → text_by r s b x ≡ text_by r u b x
  text_same b x =
      let negotiation = negotiation_alike s u e in
      let exchange = exchange_alike s u e in
      let answer = answer_alike s u e in
      let stage = stage_alike s u e in
      let epoch = response_epoch_alike s u e in
      let number = response_number_alike s u e in
      let finish = finish_alike s u e in
      let finished = finish_answer_alike s u e in
      cc

module _ (r : RspSetup) (h : History) (w v body : List ℕ) (type : (slice_index body 0 == 5) ≡ false) (within : InSession (place_named body) h) (waits : ArePending h body w v) where
  abbrev events : List ℕ → Events
  events x = session_of (id_in_record (drop 1 body)) (with_large (place_named body) x h)

  alike : (x y : List ℕ) → EventsAlike (events x) (events y)
  alike x y = sessions_fetched (id_in_record (drop 1 body)) (place_named body) x y h within

  here : (x : List ℕ) → place_for (with_large (place_named body) x h) body ≡ session_place (events x)
  here x = place_type (with_large (place_named body) x h) body false type

  same : (sealed : List ℕ) → text_with r h body w sealed ≡ text_with r h body v sealed
  same sealed =
      let m : List ℕ = drop 1 body in
      let pending : has_pending (session_place (events w)) ≡ has_pending (session_place (events v)) = sym (ap has_pending (here w)) ∙ waits ∙ ap has_pending (here v) in
      let inner : opened r.psk (events w) m ≡ opened r.psk (events v) m = opened_alike r.psk (events w) (events v) m (alike w v) in
      let turns : updates 2 (turn_in r (events w) m) ≡ updates 2 (turn_in r (events v) m) =
      updates_alike r (events w) (events v) (opened r.psk (events w) m) (alike w v) (alike v w) pending ∙ ap (λ (l : List ℕ). updates 2 (session_turn r (events v) l any_free)) inner in
      ap (λ (b : Bool). text_by r (events w) b sealed) turns ∙ text_same r (events w) (events v) (alike w v) (updates 2 (turn_in r (events v) m)) sealed

pub text_is_alike : TextIsAlike
text_is_alike c q older d w v round sealed walk fetching at type waits =
    same (towards c.responder (known_of d.setup)) d.responder w v round.body type
    (session_within d.responder w round.tag round.body type (walk_stands c q older d w round walk fetching at)) waits sealed
