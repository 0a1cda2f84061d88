-- The ids of live sessions in a made history are from 1 to 4.
use Rattle.std.proofs.Common.{refl, ◌≡◌, ◌≤◌, ◌⊎◌, ℕ, List, [], ◌∷◌, true, false, Bool, inl, inr, sym, subst, ◌∙◌}
use Rattle.std.proofs.lemmas.Bool.{false≢true}
use Rattle.std.specs.Prelude.{if◌then◌else◌, ◌==◌}
use Rattle.responder_machine.proofs.Fresh.{IsFresh, turn_of-fresh, exchange-fresh}
use Rattle.responder_machine.proofs.Ids.{free_id-range}
use Rattle.responder_machine.proofs.Made.{made_clear}
use Rattle.responder_machine.specs.Does.{IsMade, chosen, clear_chosen}
use Rattle.responder_machine.specs.History.{History, clear_turns, negotiation_of}
use Rattle.responder_machine.specs.History.Entry.{Clear, Sealed, Queued, Ticked, Dropped}
use Rattle.spdm_machine.specs.Keys.{Draw}
use Rattle.responder_machine.specs.Laws.{LiveIdIsFromOneToFour}
use Rattle.responder_machine.specs.Place.{clear_place, held_of, free_id}
use Rattle.responder_machine.proofs.GivenIds.{given_is}
use Rattle.responder_machine.specs.Session.{Events, session_of, is_live, stage_of, after_clear, after_record, after_tick, id_in_record, gives_id}
use Rattle.spdm_machine.specs.Sessions.{is_past_handshake}
use Rattle.responder_machine.specs.Session.Event.{Began}
use Rattle.responder_machine.specs.Setup.{RspSetup}
use Rattle.responder_machine.specs.Turn.{Turn, takes, answer_in, request_in}
use Rattle.transcript.specs.Transcripts.{Negotiation}
use Rattle.spdm_grammar.specs.declared.names.request_code.TheConstants.{GET_VERSION, PSK_EXCHANGE, END_SESSION}

-- Of two lists the live one.
either-live : (b : Bool) (s n : Events) (P : Type 0) → (is_live s ≡ true → P) → (is_live n ≡ true → P) → is_live (if b then s else n) ≡ true → P
either-live true s n P x y h = x h
either-live false s n P x y h = y h

-- A session that is live after a clear turn was live, or was begun by it.
live_by : (versioned begun same past : Bool) (s b : Events) → is_live (if versioned then [] else (if begun then (if same then b else (if past then s else [])) else s)) ≡ true
    → (is_live s ≡ true) ⊎ ((begun ≡ true) × (same ≡ true))
live_by true begun same past s b h = absurd (false≢true h)
live_by false true true past s b h = inr (refl, refl)
live_by false true false true s b h = inl h
live_by false true false false s b h = absurd (false≢true h)
live_by false false same past s b h = inl h

live_after : (id : ℕ) (s : Events) (t : Turn) (n : Negotiation) → is_live (after_clear id s t n) ≡ true → (is_live s ≡ true) ⊎ ((takes PSK_EXCHANGE t ≡ true) × (gives_id id (answer_in t.effect) ≡ true))
live_after id s t n h = live_by (takes GET_VERSION t) (takes PSK_EXCHANGE t) (gives_id id (answer_in t.effect)) (is_past_handshake (stage_of s)) s (Began n (request_in t.effect) (answer_in t.effect) ∷ []) h

live_before_record : (s : Events) (m : List ℕ) (t : Turn) (reply : List ℕ) → is_live (after_record s m t reply) ≡ true → is_live s ≡ true
live_before_record [] m t reply h = either-live (takes END_SESSION t) [] [] (false ≡ true) (λ x. x) (λ x. x) h
live_before_record (v ∷ s) m t reply h = refl

live_before_tick : (s : Events) (seconds : ℕ) → is_live (after_tick s seconds) ≡ true → is_live s ≡ true
live_before_tick [] seconds h = absurd (false≢true h)
live_before_tick (v ∷ s) seconds h = refl

chosen-few : (r : RspSetup) (h : History) (d : Draw) → (clear_chosen r h d).id ≡ free_id h
unfolding chosen
chosen-few r h d = refl

-- The id of an exchange of a made history is in the range.
begun_in_range : (r : RspSetup) (h : History) (tag : ℕ) (t : Turn) (d : Draw) (id : ℕ) → IsMade r (Clear tag t d ∷ h) → takes PSK_EXCHANGE t ≡ true → gives_id id (answer_in t.effect) ≡ true → (1 ≤ id) × (id ≤ 4)
begun_in_range r h tag t d id made is same =
    let range = free_id-range h in
    let few : (clear_chosen r h d).id ≤ 4 = rw (chosen-few r h d) range.1 in
    let fresh : IsFresh (held_of h) (clear_chosen r h d).id t.effect = subst (λ (u : Turn). IsFresh (held_of h) (clear_chosen r h d).id u.effect) (made_clear r h tag t d made) (turn_of-fresh r (clear_place h) t.message (clear_chosen r h d) few) in
    let found = (exchange-fresh (held_of h) (clear_chosen r h d).id t.effect is fresh).0 in
    let number = given_is id (answer_in t.effect) same in
    subst (λ n. (1 ≤ n) × (n ≤ 4)) (sym (chosen-few r h d) ∙ sym found ∙ number) range

either_begun : (r : RspSetup) (h : History) (tag : ℕ) (t : Turn) (d : Draw) (id : ℕ) → IsMade r (Clear tag t d ∷ h) → (is_live (session_of id h) ≡ true → (1 ≤ id) × (id ≤ 4))
    → (is_live (session_of id h) ≡ true) ⊎ ((takes PSK_EXCHANGE t ≡ true) × (gives_id id (answer_in t.effect) ≡ true)) → (1 ≤ id) × (id ≤ 4)
either_begun r h tag t d id made older (inl live) = older live
either_begun r h tag t d id made older (inr begun) = begun_in_range r h tag t d id made begun.0 begun.1

pub live_ids : LiveIdIsFromOneToFour
unfolding session_of
live_ids r [] id made live = absurd (false≢true live)
live_ids r (Clear tag t d ∷ older) id made live =
    either_begun r older tag t d id made (live_ids r older id made.1) (live_after id (session_of id older) t (negotiation_of (clear_turns older)) live)
live_ids r (Sealed tag m t reply d ∷ older) id made live =
    either-live (id_in_record m == id) (after_record (session_of id older) m t reply) (session_of id older) _ (λ x. live_ids r older id made.1 (live_before_record (session_of id older) m t reply x)) (live_ids r older id made.1) live
live_ids r (Queued bytes ∷ older) id made live = live_ids r older id made.2 live
live_ids r (Ticked seconds ∷ older) id made live = live_ids r older id made (live_before_tick (session_of id older) seconds live)
live_ids r (Dropped which ∷ older) id made live = absurd made
