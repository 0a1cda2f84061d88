-- Which records open as answers, in a history with some bytes as a large response that was not seen in a session, and
-- without; and under which keys.
use Rattle.std.proofs.Common.{◌≡◌, ◌+◌, ◌&&◌, ◌||◌, ℕ, List, [], ◌∷◌, refl, ap, ◌∙◌, take, Bool, true, false, Option, Some, cond}
use Rattle.std.specs.Prelude.{bytes_eq, is_none, not}
use Rattle.key_schedule.specs.Purpose.{Purpose}
use Rattle.responder_machine.specs.History.{Entry, History, KeptRecord, ended_of}
use Rattle.responder_machine.specs.History.Entry.{Clear, Sealed, Queued, Ticked, Dropped}
use Rattle.responder_machine.specs.Records.{opened, opening_fault, response_purpose}
use Rattle.responder_machine.specs.Responder.{repeats, session_turn}
use Rattle.responder_machine.specs.Session.{Events, id_bytes, id_in_record, is_live, last_of, response_epoch, response_next, session_of, session_terms}
use Rattle.responder_machine.specs.Session.Event.{Began, Heard, Waited}
use Rattle.responder_machine.specs.Setup.{RspSetup}
use Rattle.responder_machine.specs.Turn.{Effect, Turn, takes, updates}
use Rattle.responder_machine.specs.Turn.Effect.{NoEffect, Took, TookData}
use Rattle.spdm_grammar.specs.declared.messages.choice.Choice.{Choice}
use Rattle.spdm_grammar.specs.declared.names.request_code.TheConstants.{END_SESSION}
use Rattle.spdm_machine.specs.Keys.{record_fault}
use Rattle.capture_machine.proofs.FetchedSessions.{ended_fetched, takes_with}
use Rattle.capture_machine.proofs.UnseenStands.{UnseenStand}
use Rattle.capture_machine.specs.LargeAnswers.{effect_with, handle_shown, is_unseen_in, seen, seen_turn, with_large}
use Rattle.capture_machine.specs.Opening.{any_free, opens_again, opens_answering, opens_ended, opens_in_session, opens_next, opens_to, turn_in}
use Rattle.check_late_laws.proofs.Late.SeenAlike.{SeenAlike, answer_alike, answered, exchange_alike, fault_alike, finish_alike, finish_answer_alike, last_alike, live_alike, negotiation_alike, opened_alike, response_epoch_alike, response_number_alike, stage_alike}
use Rattle.check_late_laws.proofs.Late.SeenAlike.SeenAlike.{NoEvent, Behind, Here}
use Rattle.check_late_laws.proofs.Late.SeenSessions.{seen_alike}
use Rattle.check_late_laws.proofs.Late.SeenUpdates.{updates_alike}

-- ---- Keys of answers.

-- The purpose, and the number, by whether all keys are updated.
abbrev pub purpose_by : List ℕ → Events → Bool → Purpose
purpose_by psk s b = cond b (record (response_purpose psk s) { epoch = response_epoch s + 1 }) (response_purpose psk s)

abbrev pub number_by : Events → Bool → ℕ
number_by s b = cond b 0 (response_next s)

-- What an answer to a turn opens under.
pub record IsOne (psk : List ℕ) (s u : Events) (b : Bool) : Type 0 where
  pub choice : (session_terms s).choice ≡ (session_terms u).choice
  pub purpose : purpose_by psk s b ≡ purpose_by psk u b
  pub number : number_by s b ≡ number_by u b
  pub id : id_bytes s ≡ id_bytes u

pub one_key : (psk : List ℕ) (s u : Events) (b : Bool) → SeenAlike s u → IsOne psk s u b
one_key psk s u b a =
    let negotiation = negotiation_alike s u a in
    let exchange = exchange_alike s u a in
    let answer = answer_alike s u a in
    let stage = stage_alike s u a in
    let epoch = response_epoch_alike s u a in
    let number = response_number_alike s u a in
    let finish = finish_alike s u a in
    let finished = finish_answer_alike s u a in
    record { choice = cc; purpose = cc; number = cc; id = cc }

next_alike : (r : RspSetup) (s u : Events) (sealed : List ℕ) → SeenAlike s u → opens_next r s sealed ≡ opens_next r u sealed
unfolding opens_next
next_alike r s u sealed a =
    let live = live_alike s u a in
    let negotiation = negotiation_alike s u a in
    let exchange = exchange_alike s u a in
    let answer = answer_alike s u a in
    let stage = stage_alike s u a in
    let epoch = response_epoch_alike s u a in
    let number = response_number_alike s u a in
    let finish = finish_alike s u a in
    let finished = finish_answer_alike s u a in
    cc

-- As the answer to a turn, by whether it updates all keys.
abbrev opens_by : RspSetup → Events → Bool → List ℕ → Bool
opens_by r s b sealed = is_none (record_fault (session_terms s).choice (purpose_by r.psk s b) (number_by s b) (id_bytes s) sealed)

by_alike : (r : RspSetup) (s u : Events) (b : Bool) (sealed : List ℕ) → SeenAlike s u → opens_by r s b sealed ≡ opens_by r u b sealed
by_alike r s u b sealed a =
    let one = one_key r.psk s u b a in
    ap (λ (c : Choice). is_none (record_fault c (purpose_by r.psk s b) (number_by s b) (id_bytes s) sealed)) one.choice
    ∙ ap (λ (p : Purpose). is_none (record_fault (session_terms u).choice p (number_by s b) (id_bytes s) sealed)) one.purpose
    ∙ ap (λ (n : ℕ). is_none (record_fault (session_terms u).choice (purpose_by r.psk u b) n (id_bytes s) sealed)) one.number
    ∙ ap (λ (l : List ℕ). is_none (record_fault (session_terms u).choice (purpose_by r.psk u b) (number_by u b) l sealed)) one.id

to_alike : (r : RspSetup) (s u : Events) (t k : Turn) (sealed : List ℕ) → updates 2 t ≡ updates 2 k → SeenAlike s u → opens_to r s t sealed ≡ opens_to r u k sealed
unfolding opens_to
to_alike r s u t k sealed same a = ap (λ (b : Bool). opens_by r s b sealed) same ∙ by_alike r s u (updates 2 k) sealed a

-- ---- What opens.

again_alike : (r : RspSetup) (s u : Events) (sealed : List ℕ) → SeenAlike s u → opens_again r s sealed ≡ opens_again r u sealed
again_alike r _ _ sealed NoEvent = refl
again_alike r _ _ sealed (Behind (Began n x y) s u a) = again_alike r s u sealed a
again_alike r _ _ sealed (Behind (Waited n) s u a) = again_alike r s u sealed a
again_alike r _ _ sealed (Behind (Heard m t reply) s u a) = to_alike r s u t t sealed refl a
again_alike r _ _ sealed (Here m t x n large other w v reply s u not a) = to_alike r s u (answered t x n large w) (answered t x n other v) sealed refl a

updates_effect : (w : List ℕ) (k : ℕ) (t : Turn) (x : Effect) → updates 2 (record t { effect = effect_with w (Some k) x }) ≡ updates 2 (record t { effect = x })
updates_effect w k t NoEffect = refl
updates_effect w k t (Took a l old large) = refl
updates_effect w k t (TookData bytes old) = refl

pub updates_with : (w : List ℕ) (t : Turn) → updates 2 (seen_turn w t) ≡ updates 2 t
updates_with w t = updates_effect w (handle_shown t) t t.effect

to_here : (r : RspSetup) (w : List ℕ) (t : Turn) (s : Events) (sealed : List ℕ) → opens_to r s (seen_turn w t) sealed ≡ opens_to r s t sealed
unfolding opens_to
to_here r w t s sealed = ap (λ (b : Bool). opens_by r s b sealed) (updates_with w t)

module _ (r : RspSetup) (which : ℕ) (w : List ℕ) (sealed : List ℕ) where
  abbrev given : History → History
  given h = with_large (Some which) w h

  ended_behind : (e : Entry) (h : History) → UnseenStand h → opens_ended r (given h) sealed ≡ opens_ended r h sealed → opens_ended r (e ∷ given h) sealed ≡ opens_ended r (e ∷ h) sealed
  ended_behind (Sealed tag m t reply d) h none rest =
      ap (λ (b : Bool). cond (takes END_SESSION t) b (opens_ended r (given h) sealed)) (to_alike r (session_of (id_in_record m) (given h)) (session_of (id_in_record m) h) t t sealed refl (seen_alike (id_in_record m) which w h none))
      ∙ ap (cond (takes END_SESSION t) (opens_to r (session_of (id_in_record m) h) t sealed)) rest
  ended_behind (Clear tag t d) h none rest = rest
  ended_behind (Queued bytes) h none rest = rest
  ended_behind (Ticked seconds) h none rest = rest
  ended_behind (Dropped id) h none rest = rest

  ended_here : (e : Entry) (h : History) → opens_ended r (seen w e ∷ h) sealed ≡ opens_ended r (e ∷ h) sealed
  ended_here (Sealed tag m t reply d) h =
      ap (λ (b : Bool). cond b (opens_to r (session_of (id_in_record m) h) (seen_turn w t) sealed) (opens_ended r h sealed)) (takes_with w (Some (handle_shown t)) END_SESSION t)
      ∙ ap (λ (b : Bool). cond (takes END_SESSION t) b (opens_ended r h sealed)) (to_here r w t (session_of (id_in_record m) h) sealed)
  ended_here (Clear tag t d) h = refl
  ended_here (Queued bytes) h = refl
  ended_here (Ticked seconds) h = refl
  ended_here (Dropped id) h = refl

  ended_by : (e : Entry) (h : History) (b : Bool) → UnseenStand h → opens_ended r (given h) sealed ≡ opens_ended r h sealed → opens_ended r (cond b (seen w e ∷ h) (e ∷ given h)) sealed ≡ opens_ended r (e ∷ h) sealed
  ended_by e h true none rest = ended_here e h
  ended_by e h false none rest = ended_behind e h none rest

  ended_alike : (h : History) → UnseenStand h → opens_ended r (given h) sealed ≡ opens_ended r h sealed
  ended_alike [] none = refl
  ended_alike (e ∷ h) none = ended_by e h (is_unseen_in (Some which) e) none.1 (ended_alike h none.1)

  module _ (h : History) (none : UnseenStand h) where
    in_session : (s u : Events) (request : List ℕ) → SeenAlike s u → opens_in_session r (given h) s request sealed ≡ opens_in_session r h u request sealed
    in_session s u request a =
        let kept = ended_fetched (Some which) w h in
        let turns : updates 2 (turn_in r s request) ≡ updates 2 (turn_in r u request) =
        updates_alike r s u a any_free (opened r.psk s request) ∙ ap (λ (l : List ℕ). updates 2 (session_turn r u l any_free)) (opened_alike r.psk s u request a) in
        ap (λ (k : Option KeptRecord). cond (repeats k request) (opens_ended r (given h) sealed) (rest s)) kept
        ∙ ap (λ (b : Bool). cond (repeats (ended_of h) request) b (rest s)) (ended_alike h none)
        ∙ ap (cond (repeats (ended_of h) request) (opens_ended r h sealed))
        (parts (repeats (last_of s) request) (repeats (last_of u) request) (is_live s && is_none (opening_fault r.psk s request)) (is_live u && is_none (opening_fault r.psk u request)) _ _ _ _ _ _
        (ap (λ (k : Option KeptRecord). repeats k request) (last_alike s u a))
        (ap (λ (b : Bool). b && is_none (opening_fault r.psk s request)) (live_alike s u a) ∙ ap (λ o. is_live u && is_none o) (fault_alike r.psk s u request a))
        (again_alike r s u sealed a) (next_alike r s u sealed a) (to_alike r s u (turn_in r s request) (turn_in r u request) sealed turns a))
      where
        rest : Events → Bool
        rest x = cond (repeats (last_of x) request) (opens_again r x sealed || opens_next r x sealed) (cond (is_live x && is_none (opening_fault r.psk x request)) (opens_to r x (turn_in r x request) sealed) (opens_next r x sealed))

        parts : (b c d e x y k l m n : Bool) → b ≡ c → d ≡ e → x ≡ y → k ≡ l → m ≡ n → cond b (x || k) (cond d m k) ≡ cond c (y || l) (cond e n l)
        parts b c d e x y k l m n one two three four five = cc

    pub answering_alike : (is_clear : Bool) (request : List ℕ) → opens_answering r (given h) is_clear request sealed ≡ opens_answering r h is_clear request sealed
    answering_alike is_clear request =
        ap (λ (b : Bool). cond (is_clear || not (bytes_eq (take 4 request) (take 4 sealed))) b (opens_in_session r (given h) (session_of (id_in_record request) (given h)) request sealed))
        (next_alike r (session_of (id_in_record sealed) (given h)) (session_of (id_in_record sealed) h) sealed (seen_alike (id_in_record sealed) which w h none))
        ∙ ap (cond (is_clear || not (bytes_eq (take 4 request) (take 4 sealed))) (opens_next r (session_of (id_in_record sealed) h) sealed))
        (in_session (session_of (id_in_record request) (given h)) (session_of (id_in_record request) h) request (seen_alike (id_in_record request) which w h none))
