-- The history after LargeResponse, with its answer unseen and then seen again.
use Rattle.std.proofs.Common.{◌≡◌, ◌==◌, ◌&&◌, ℕ, List, [], ◌∷◌, refl, sym, ap, ◌∙◌, subst, drop, Bool, true, false, Option, Some, None, is_some, cond, inl, inr, eq-eqb}
use Rattle.std.specs.Prelude.{slice_index}
use Rattle.std.proofs.lemmas.Bool.{false≢true}
use Rattle.std.proofs.lemmas.Option.{none-some}
use Rattle.chunking.specs.Collecting.{joined_with, under_way}
use Rattle.spdm_grammar.specs.Message.{ChunkMessage, RequestMessage}
use Rattle.spdm_grammar.specs.declared.messages.error_code.ErrorCode.{ErrorCode}
use Rattle.responder_machine.specs.Answer.{Free, answer_bytes, request_at}
use Rattle.responder_machine.specs.Handling.{carried_turn, chunk_in, effect_of, goes_large, large_response, last_chunk_turn, request_effect, request_reply, taken_chunk, turn_by, turn_of}
use Rattle.responder_machine.specs.History.{Entry, History}
use Rattle.responder_machine.specs.History.Entry.{Clear, Sealed}
use Rattle.responder_machine.specs.LargeMessages.{chunks_of}
use Rattle.responder_machine.specs.Place.{Place, clear_place, inside, session_place}
use Rattle.responder_machine.specs.Records.{opened, reply_record}
use Rattle.responder_machine.specs.Refusal.{refusal}
use Rattle.responder_machine.specs.Responder.{data_turn, inner_refusal, inner_reply, session_turn, session_turn_by}
use Rattle.responder_machine.specs.Responder.Outcome.{Adds}
use Rattle.responder_machine.specs.Session.{Events, id_in_record, session_of, stage_of}
use Rattle.responder_machine.specs.Setup.{RspSetup}
use Rattle.responder_machine.specs.Turn.{Effect, Turn, answer_in, handle_in}
use Rattle.responder_machine.specs.Turn.Effect.{NoEffect, Took, TookData}
use Rattle.check_laws.specs.LargeShown.{whole_of}
use Rattle.check_fetched_laws.proofs.WholeGiven.{turn_handle}
use Rattle.check_fetched_laws.specs.JudgedFor.{BeginsJudging}
use Rattle.capture_machine.proofs.DropsTell.{clear_form}
use Rattle.capture_machine.proofs.PlacesServed.{named_clear, named_session}
use Rattle.capture_machine.proofs.PlainTells.{led_clear, led_record}
use Rattle.capture_machine.proofs.RecordAdds.{record_added}
use Rattle.capture_machine.specs.LargeAnswers.{effect_with, handle_shown, is_large, is_unseen, is_unseen_effect, is_unseen_in, place_named, seen, seen_turn, turn_with, unseen, with_large}
use Rattle.capture_machine.specs.Rounds.{no_draw}

-- ---- The handle that a reply shows.

shown_by : (q : Option RequestMessage) (m answer : List ℕ) (b : Bool) (n : ℕ) → is_some (handle_in (effect_of q m answer (cond b (Some n) None))) ≡ true → b ≡ true
shown_by None m answer b n large = absurd (false≢true large)
shown_by (Some asked) m answer true n large = refl
shown_by (Some asked) m answer false n large = absurd (false≢true large)

-- The reply of a turn shows the handle that was chosen.
abbrev ShowsHandle : Free → Turn → Type 0
ShowsHandle f t = is_some (handle_in t.effect) ≡ true → handle_shown t ≡ f.handle

module _ (r : RspSetup) (f : Free) where
  module _ (p : Place) (m : List ℕ) where
    large_reply : is_some (handle_in (request_effect r p m f)) ≡ true → request_reply r p m f ≡ large_response f.handle
    large_reply large = ap (λ (b : Bool). cond b (large_response f.handle) (answer_bytes r p m f)) (shown_by (request_at p m) m (answer_bytes r p m f) (goes_large p (answer_bytes r p m f)) f.handle large)

  module _ (p : Place) (m : List ℕ) where
    carried_shows : (c : ChunkMessage) (l : List ℕ) (o : Option ErrorCode) → ShowsHandle f (carried_turn r (inside p) m f c l o)
    carried_shows c l (Some e) = λ large. absurd (false≢true large)
    carried_shows c l None = λ large. ap (λ (x : List ℕ). handle_shown (taken_chunk m c (request_effect r (inside p) l f) x)) (large_reply (inside p) l large)

    chunk_shows : (c : ChunkMessage) (l : List ℕ) (b : Bool) → ShowsHandle f (cond b (last_chunk_turn r (inside p) m f c l) (taken_chunk m c NoEffect []))
    chunk_shows c l true = carried_shows c l (refusal r (inside p) l f)
    chunk_shows c l false = λ large. absurd (false≢true large)

    by_parts : (o : Option ErrorCode) (c : Option ChunkMessage) → ShowsHandle f (turn_by r p m f o c)
    by_parts (Some e) c = λ large. absurd (false≢true large)
    by_parts None None = λ large. ap (λ (x : List ℕ). slice_index x 4) (large_reply p m large)
    by_parts None (Some c) = chunk_shows c (joined_with (under_way (chunks_of p.turns)) c) c.last

    turn_shows : ShowsHandle f (turn_of r p m f)
    unfolding turn_of
    turn_shows = by_parts (refusal r p m f) (chunk_in (request_at p m))

  session_by : (s : Events) (inner : List ℕ) (o : Option ErrorCode) → is_some (handle_in (session_turn_by r s inner f o).effect) ≡ true → (handle_shown (session_turn_by r s inner f o) ≡ f.handle) × (handle_in (session_turn_by r s inner f o).effect ≡ Some f.handle)
  session_by s inner (Some e) large = absurd (false≢true large)
  session_by s inner None large = by_type (slice_index inner 0 == 5) large
    where
      by_type : (b : Bool) → let t = cond b (turn_of r (session_place s) (drop 1 inner) f) (data_turn f (drop 1 inner)) in is_some (handle_in t.effect) ≡ true → (handle_shown t ≡ f.handle) × (handle_in t.effect ≡ Some f.handle)
      by_type true large = (turn_shows (session_place s) (drop 1 inner) large, turn_handle r (session_place s) (drop 1 inner) f large)
      by_type false large = absurd (false≢true large)

  session_shows : (s : Events) (inner : List ℕ) → is_some (handle_in (session_turn r s inner f).effect) ≡ true → (handle_shown (session_turn r s inner f) ≡ f.handle) × (handle_in (session_turn r s inner f).effect ≡ Some f.handle)
  unfolding session_turn
  session_shows s inner large = session_by s inner (inner_refusal (stage_of s) inner) large

-- ---- Unseen, and seen again.

effect_back : (x : Effect) (n : ℕ) → handle_in x ≡ Some n → (effect_with (answer_in x) (Some n) (effect_with [] None x) ≡ x) × (is_unseen_effect (effect_with [] None x) ≡ true)
effect_back NoEffect n is = absurd (none-some n is)
effect_back (Took a m answer None) n is = absurd (none-some n is)
effect_back (Took a m answer (Some k)) n is = (ap (λ (o : Option ℕ). Took a m answer o) (sym is), refl)
effect_back (TookData bytes answer) n is = absurd (none-some n is)

turn_back : (t : Turn) (n : ℕ) → handle_shown t ≡ n → handle_in t.effect ≡ Some n → seen_turn (answer_in t.effect) (turn_with [] None t) ≡ t
turn_back t n shown is =
    ap (λ (k : ℕ). record t { effect = effect_with (answer_in t.effect) (Some k) (effect_with [] None t.effect) }) shown ∙ ap (λ (x : Effect). record t { effect = x }) (effect_back t.effect n is).0

-- The newest entry.
begun_by : (place : Option ℕ) (e : Entry) (h : History) → is_unseen_in place (unseen e) ≡ true → seen (whole_of e) (unseen e) ≡ e → with_large place (whole_of e) (unseen e ∷ h) ≡ e ∷ h
begun_by place e h un same =
    ap (λ (b : Bool). cond b (seen (whole_of e) (unseen e) ∷ h) (unseen e ∷ with_large place (whole_of e) h)) un ∙ ap (λ (x : Entry). x ∷ h) same

pub begins_judging : BeginsJudging
begins_judging r g h tag body e may large = by_type (slice_index body 0 == 5) refl
  where
    Back : Option ℕ → Entry → Type 0
    Back place x = with_large place (whole_of x) (unseen x ∷ h) ≡ x ∷ h

    by_type : (b : Bool) → (slice_index body 0 == 5) ≡ b → with_large (place_named body) (whole_of e) (unseen e ∷ h) ≡ e ∷ h
    by_type true type =
        let led = led_clear r g tag body (Adds e) type may in
        elim (clear_form r g tag (drop 1 body) led.free (Adds e) led.leads) [
          | inl same ↦ absurd (let x = same.1 in cc)
          | inr adds ↦
              let t : Turn = turn_of r (clear_place g) (drop 1 body) led.free in
              let same : Clear tag t no_draw ≡ e = cc (sym adds) in
              let big : is_some (handle_in t.effect) ≡ true = ap is_large same ∙ large in
              let handle = turn_handle r (clear_place g) (drop 1 body) led.free big in
              let back : with_large None (answer_in t.effect) (unseen (Clear tag t no_draw) ∷ h) ≡ Clear tag t no_draw ∷ h =
              begun_by None (Clear tag t no_draw) h (effect_back t.effect led.free.handle handle).1
              (ap (λ (x : Turn). Clear tag x no_draw) (turn_back t led.free.handle (turn_shows r led.free (clear_place g) (drop 1 body) big) handle)) in
              ap (λ (o : Option ℕ). with_large o (whole_of e) (unseen e ∷ h)) (named_clear body type) ∙ subst (λ (x : Entry). with_large None (whole_of x) (unseen x ∷ h) ≡ x ∷ h) same back
        ]
    by_type false type =
        let led = led_record r g tag body (Adds e) type may in
        let sealed : List ℕ = drop 1 body in
        let s : Events = session_of (id_in_record sealed) g in
        let t : Turn = session_turn r s (opened r.psk s sealed) led.free in
        let reply : List ℕ = reply_record r.psk s t (inner_reply t) led.free.pad in
        let same : Sealed tag sealed t reply no_draw ≡ e = record_added r led.free tag sealed e g led.leads in
        let big : is_some (handle_in t.effect) ≡ true = ap is_large same ∙ large in
        let shows = session_shows r led.free s (opened r.psk s sealed) big in
        let un : is_unseen_in (Some (id_in_record sealed)) (unseen (Sealed tag sealed t reply no_draw)) ≡ true =
        ap (λ (b : Bool). b && is_unseen (unseen (Sealed tag sealed t reply no_draw))) (eq-eqb (id_in_record sealed) (id_in_record sealed) refl) ∙ (effect_back t.effect led.free.handle shows.1).1 in
        let back : with_large (Some (id_in_record sealed)) (answer_in t.effect) (unseen (Sealed tag sealed t reply no_draw) ∷ h) ≡ Sealed tag sealed t reply no_draw ∷ h =
        begun_by (Some (id_in_record sealed)) (Sealed tag sealed t reply no_draw) h un (ap (λ (x : Turn). Sealed tag sealed x reply no_draw) (turn_back t led.free.handle shows.0 shows.1)) in
        ap (λ (o : Option ℕ). with_large o (whole_of e) (unseen e ∷ h)) (named_session body type)
        ∙ subst (λ (x : Entry). with_large (Some (id_in_record sealed)) (whole_of x) (unseen x ∷ h) ≡ x ∷ h) same back
