-- What an answer makes of the touches since the newest request in the clear that was taken.
use Rattle.std.proofs.Common.{◌≡◌, ◌==◌, ◌&&◌, ◌||◌, ◌⊎◌, ◌∙◌, ℕ, List, [], ◌∷◌, refl, sym, ap, subst, drop, Bool, true, false, Option, Some, None, cond, eq-eqb, eqb-true, inl, inr}
use Rattle.std.specs.Prelude.{bytes_eq, not, slice_index}
use Rattle.std.proofs.Math.Bool.{and-false}
use Rattle.std.proofs.lemmas.Bool.{and_parts, false≢true}
use Rattle.std.proofs.lemmas.Slice.Eq.{bytes_eq-Decides}
use Rattle.check_responder.proofs.KeysKept.{dropped_session as sessions_dropped}
use Rattle.check_laws.specs.KeptChanges.{is_kept_record}
use Rattle.check_late_laws.proofs.Late.SeenAlike.{last_alike, live_alike}
use Rattle.check_late_laws.proofs.Late.SeenSessions.{seen_alike}
use Rattle.check_late_laws.proofs.Late.SessionsQuiet.{none_dropped}
use Rattle.check_fetched_ends.specs.Marked.{is_taken_by, is_touched_by, touched_behind}
use Rattle.check_late_laws.proofs.Late.BehindSessions.{dropped_session}
use Rattle.check_late_laws.proofs.Late.WalksAnew.{kept_before, kept_large}
use Rattle.check_late_laws.specs.Late.Passed.{touched}
use Rattle.responder_machine.proofs.Making.{turn_message}
use Rattle.responder_machine.specs.Answer.{Free}
use Rattle.responder_machine.specs.Handling.{turn_of}
use Rattle.responder_machine.specs.History.{Entry, History, Kept, KeptRecord, clear_turns, ended_of, kept_of, phase_of}
use Rattle.responder_machine.specs.History.Entry.{Clear, Sealed, Queued, Ticked, Dropped}
use Rattle.responder_machine.specs.May.{MayDrop, with_dropped}
use Rattle.responder_machine.specs.Place.{clear_place}
use Rattle.responder_machine.specs.Records.{opened, opening_fault, reply_record}
use Rattle.responder_machine.specs.Responder.{Outcome, after, body_of, decrypt_error, in_session, in_session_by, inner_reply, is_repeat, kept_record, kept_reply, on_clear, on_record, repeats, sent_by, session_turn, to_session}
use Rattle.responder_machine.specs.Responder.Outcome.{Same, Unopened, Adds}
use Rattle.responder_machine.specs.Session.{Event, Events, id_in_record, is_live, last_of, session_of}
use Rattle.responder_machine.specs.Setup.{RspSetup}
use Rattle.responder_machine.specs.Turn.{Effect, Turn, answer_in, code_in, is_taken, takes}
use Rattle.spdm_basis.proofs.Bools.{and_first}
use Rattle.spdm_basis.specs.declared.causes.record_fault.RecordFault.{RecordFault}
use Rattle.spdm_grammar.specs.declared.names.request_code.TheConstants.{CHUNK_GET, PSK_EXCHANGE}
use Rattle.spdm_grammar.specs.declared.told.phase.Phase.{Phase}
use Rattle.spdm_machine.specs.Bodies.{clear_body, record_body}
use Rattle.spdm_machine.specs.Sessions.{id_in_exchange}
use Rattle.capture_machine.proofs.DropsTell.{kept_same}
use Rattle.capture_machine.proofs.FetchedSessions.{ended_fetched}
use Rattle.capture_machine.proofs.GetTells.{IsIdle, turn_idle}
use Rattle.capture_machine.proofs.PlacesServed.{named_session}
use Rattle.capture_machine.proofs.PlainTells.{led_clear, led_record}
use Rattle.capture_machine.proofs.UnseenStands.{UnseenStand}
use Rattle.capture_machine.specs.CapturedAnswers.{Answers, AreShown, MayHaveLed, MayLeadTo, belongs_to}
use Rattle.capture_machine.specs.LargeAnswers.{dropped_before_large, is_unseen_in, judging, place_named, seen, takes_get, turn_with, unseen, with_large}
use Rattle.capture_machine.specs.Rounds.{Dialogue, Round, no_draw}

-- ---- Other bytes as a large answer leave the touches.

touched_more : (id : ℕ) (e : Entry) (g h : History) → touched id g ≡ touched id h → touched id (e ∷ g) ≡ touched id (e ∷ h)
touched_more id (Clear tag t d) g h same = ap (λ (b : Bool). cond (is_taken t) false b) same
touched_more id (Sealed tag m t reply d) g h same = ap (λ (b : Bool). id_in_record m == id || b) same
touched_more id (Queued bytes) g h same = same
touched_more id (Ticked seconds) g h same = same
touched_more id (Dropped which) g h same = ap (λ (b : Bool). which == id || b) same

touched_seen : (id : ℕ) (w : List ℕ) (e : Entry) (h : History) → touched id (seen w e ∷ h) ≡ touched id (e ∷ h)
touched_seen id w (Clear tag t d) h = refl
touched_seen id w (Sealed tag m t reply d) h = refl
touched_seen id w (Queued bytes) h = refl
touched_seen id w (Ticked seconds) h = refl
touched_seen id w (Dropped which) h = refl

touched_by_place : (b : Bool) (id : ℕ) (w : List ℕ) (e : Entry) (g h : History) → touched id g ≡ touched id h → touched id (cond b (seen w e ∷ h) (e ∷ g)) ≡ touched id (e ∷ h)
touched_by_place true id w e g h same = touched_seen id w e h
touched_by_place false id w e g h same = touched_more id e g h same

touched_large : (id : ℕ) (place : Option ℕ) (w : List ℕ) (h : History) → touched id (with_large place w h) ≡ touched id h
touched_large id place w [] = refl
touched_large id place w (e ∷ h) = touched_by_place (is_unseen_in place e) id w e (with_large place w h) h (touched_large id place w h)

none_before : (b : Bool) (id : ℕ) (place : Option ℕ) (e : Entry) (h : History) → touched id (dropped_before_large place [] h) ≡ touched id h → touched id (cond b (e ∷ h) (e ∷ dropped_before_large place [] h)) ≡ touched id (e ∷ h)
none_before true id place e h same = refl
none_before false id place e h same = touched_more id e (dropped_before_large place [] h) h same

touched_before : (id : ℕ) (place : Option ℕ) (h : History) → touched id (dropped_before_large place [] h) ≡ touched id h
touched_before id place [] = refl
touched_before id place (e ∷ h) = none_before (is_unseen_in place e) id place e h (touched_before id place h)

kept_judging : (fetching : Option (List ℕ)) (body : List ℕ) (h : History) → kept_of (judging fetching body h) ≡ kept_of h
kept_judging None body h = refl
kept_judging (Some w) body h = kept_large (place_named body) w h

-- ---- A message in the clear.

-- Whether it is a repeat, and what it leads to then.
abbrev ClearForm : RspSetup → History → ℕ → List ℕ → Free → Outcome → Type 0
ClearForm r g tag m f o =
    ((is_repeat (kept_of g) tag m ≡ true) × (o ≡ Same (clear_body (kept_reply (kept_of g))))) ⊎ ((is_repeat (kept_of g) tag m ≡ false) × (o ≡ Adds (Clear tag (turn_of r (clear_place g) m f) no_draw)))

clear_form : (r : RspSetup) (g : History) (tag : ℕ) (m : List ℕ) (f : Free) (o : Outcome) → on_clear r g tag m f no_draw ≡ o → ClearForm r g tag m f o
unfolding on_clear
clear_form r g tag m f o leads = by_repeat (is_repeat (kept_of g) tag m) refl leads
  where
    by_repeat : (b : Bool) → is_repeat (kept_of g) tag m ≡ b → cond b (Same (clear_body (kept_reply (kept_of g)))) (Adds (Clear tag (turn_of r (clear_place g) m f) no_draw)) ≡ o → ClearForm r g tag m f o
    by_repeat true is led = inl (is, sym led)
    by_repeat false is led = inr (is, sym led)

same_message : (tag : ℕ) (one other : List ℕ) → one ≡ other → (tag == tag && bytes_eq one other) ≡ true
same_message tag one other is = ap (λ (b : Bool). b && bytes_eq one other) (eq-eqb tag tag refl) ∙ (bytes_eq-Decides one other).1 is

-- The touches as a message in the clear moves them.
abbrev ClearMoved : (h next : History) → ℕ → List ℕ → ℕ → Type 0
ClearMoved h next tag m id = touched id next ≡ cond (is_taken_by h next tag m) false (touched id h)

repeat_moved : (h next : History) (tag : ℕ) (m : List ℕ) (id : ℕ) → is_repeat (kept_of h) tag m ≡ true → next ≡ h → ClearMoved h next tag m id
repeat_moved h next tag m id again same =
    ap (touched id) same ∙ sym (ap (λ (b : Bool). cond (not b && is_repeat (kept_of next) tag m) false (touched id h)) again)

entry_moved : (h g : History) (tag : ℕ) (m : List ℕ) (t : Turn) (id : ℕ) → t.message ≡ m → kept_of g ≡ kept_of h → is_repeat (kept_of h) tag m ≡ false → (is_taken t ≡ false → touched id g ≡ touched id h)
    → ClearMoved h (Clear tag t no_draw ∷ g) tag m id
entry_moved h g tag m t id spells kept anew rest = by_taken (is_taken t) refl
  where
    newly : Option Kept
    newly = Some (record { tag = tag; message = t.message; reply = t.reply })

    right : (b : Bool) → is_taken t ≡ b → cond (is_taken_by h (Clear tag t no_draw ∷ g) tag m) false (touched id h) ≡ cond (is_repeat (cond b newly (kept_of g)) tag m) false (touched id h)
    right b taken =
        ap (λ (x : Bool). cond (not x && is_repeat (kept_of (Clear tag t no_draw ∷ g)) tag m) false (touched id h)) anew
        ∙ ap (λ (x : Bool). cond (is_repeat (cond x newly (kept_of g)) tag m) false (touched id h)) taken

    by_taken : (b : Bool) → is_taken t ≡ b → ClearMoved h (Clear tag t no_draw ∷ g) tag m id
    by_taken true taken =
        ap (λ (x : Bool). cond x false (touched id g)) taken
        ∙ sym (right true taken ∙ ap (λ (x : Bool). cond x false (touched id h)) (same_message tag t.message m spells))
    by_taken false taken =
        ap (λ (x : Bool). cond x false (touched id g)) taken ∙ rest taken
        ∙ sym (right false taken ∙ ap (λ (k : Option Kept). cond (is_repeat k tag m) false (touched id h)) kept ∙ ap (λ (x : Bool). cond x false (touched id h)) anew)

-- One that was refused shows no drop.
refused_drops : (r : RspSetup) (g : History) (body : List ℕ) (tag : ℕ) (t : Turn) (ids : List ℕ) → AreShown r g body (Adds (Clear tag t no_draw)) ids → IsIdle t → is_taken t ≡ false → ids ≡ []
refused_drops r g body tag t [] shown idle refused = refl
refused_drops r g body tag t (k ∷ []) shown idle refused =
    absurd (false≢true (sym (ap (λ (x : Effect). code_in x == PSK_EXCHANGE) (idle refused)) ∙ (and_parts (takes PSK_EXCHANGE t) (id_in_exchange (answer_in t.effect) == k) shown).0))
refused_drops r g body tag t (k ∷ j ∷ js) shown idle refused = absurd shown

same_drops : (r : RspSetup) (g : History) (body b : List ℕ) (ids : List ℕ) → AreShown r g body (Same b) ids → ids ≡ []
same_drops r g body b [] shown = refl
same_drops r g body b (k ∷ []) shown = absurd (false≢true shown)
same_drops r g body b (k ∷ j ∷ js) shown = absurd shown

module _ (r : RspSetup) (d : Dialogue) (round : Round) (answer : List ℕ) (next : History) (fetching : Option (List ℕ)) (type : (slice_index round.body 0 == 5) ≡ true) (id : ℕ) where
  abbrev h : History
  h = d.responder

  abbrev m : List ℕ
  m = drop 1 round.body

  plain_clear : (ids : List ℕ) (o : Outcome) → MayLeadTo r (with_dropped (judging d.fetching round.body d.responder) ids) round.tag round.body o → AreShown r (judging d.fetching round.body d.responder) round.body o ids → next ≡ after (with_dropped d.responder ids) o
      → ClearMoved d.responder next round.tag m id
  plain_clear ids o may shown behind =
      let j : History = judging d.fetching round.body h in
      let g : History = with_dropped j ids in
      let led = led_clear r g round.tag round.body o type may in
      let kept : kept_of g ≡ kept_of h = kept_same ids j ∙ kept_judging d.fetching round.body h in
      let t : Turn = turn_of r (clear_place g) m led.free in
      elim (clear_form r g round.tag m led.free o led.leads) [
        | inl same ↦
            let none : ids ≡ [] = same_drops r j round.body (clear_body (kept_reply (kept_of g))) ids (subst (λ (x : Outcome). AreShown r j round.body x ids) same.1 shown) in
            repeat_moved h next round.tag m id (sym (ap (λ (k : Option Kept). is_repeat k round.tag m) kept) ∙ same.0) (behind ∙ ap (λ (x : Outcome). after (with_dropped h ids) x) same.1 ∙ ap (λ (l : List ℕ). with_dropped h l) none)
        | inr adds ↦
            let refused : is_taken t ≡ false → ids ≡ [] = refused_drops r j round.body round.tag t ids (subst (λ (x : Outcome). AreShown r j round.body x ids) adds.1 shown) (turn_idle r (clear_place g) m led.free) in
            subst (λ (l : History). ClearMoved h l round.tag m id) (sym (behind ∙ ap (λ (x : Outcome). after (with_dropped h ids) x) adds.1))
            (entry_moved h (with_dropped h ids) round.tag m t id (turn_message r (clear_place g) m led.free) (kept_same ids h) (sym (ap (λ (k : Option Kept). is_repeat k round.tag m) kept) ∙ adds.0)
            (λ is. ap (λ (l : List ℕ). touched id (with_dropped h l)) (refused is)))
      ]

  large_clear : (ids : List ℕ) (e : Entry) → MayLeadTo r (with_dropped (judging d.fetching round.body d.responder) ids) round.tag round.body (Adds e) → next ≡ unseen e ∷ d.responder → ClearMoved d.responder next round.tag m id
  large_clear ids e may behind =
      let j : History = judging d.fetching round.body h in
      let g : History = with_dropped j ids in
      let led = led_clear r g round.tag round.body (Adds e) type may in
      let kept : kept_of g ≡ kept_of h = kept_same ids j ∙ kept_judging d.fetching round.body h in
      let t : Turn = turn_of r (clear_place g) m led.free in
      elim (clear_form r g round.tag m led.free (Adds e) led.leads) [
        | inl same ↦ absurd (let x = same.1 in cc)
        | inr adds ↦
            let is : e ≡ Clear round.tag t no_draw = (let x = adds.1 in cc) in
            subst (λ (l : History). ClearMoved h l round.tag m id) (sym (behind ∙ ap (λ (x : Entry). unseen x ∷ h) is))
            (entry_moved h h round.tag m (turn_with [] None t) id (turn_message r (clear_place g) m led.free) refl (sym (ap (λ (k : Option Kept). is_repeat k round.tag m) kept) ∙ adds.0) (λ refused. refl))
      ]

  again_clear : MayLeadTo r d.responder round.tag round.body (Same answer) → next ≡ d.responder → ClearMoved d.responder next round.tag m id
  again_clear may behind =
      let led = led_clear r h round.tag round.body (Same answer) type may in
      elim (clear_form r h round.tag m led.free (Same answer) led.leads) [ inl same ↦ repeat_moved h next round.tag m id same.0 behind | inr adds ↦ absurd (let x = adds.1 in cc) ]

  -- The last chunk was taken.
  last_clear : (w ids : List ℕ) (e : Entry) → MayLeadTo r (judging d.fetching round.body d.responder) round.tag round.body (Adds e) → takes_get e ≡ true
      → next ≡ e ∷ with_large (place_named round.body) w (dropped_before_large (place_named round.body) ids d.responder) → ClearMoved d.responder next round.tag m id
  last_clear w ids e may gets behind =
      let g : History = judging d.fetching round.body h in
      let led = led_clear r g round.tag round.body (Adds e) type may in
      let place : Option ℕ = place_named round.body in
      let settled : History = with_large place w (dropped_before_large place ids h) in
      let t : Turn = turn_of r (clear_place g) m led.free in
      elim (clear_form r g round.tag m led.free (Adds e) led.leads) [
        | inl same ↦ absurd (let x = same.1 in cc)
        | inr adds ↦
            let is : e ≡ Clear round.tag t no_draw = (let x = adds.1 in cc) in
            let got : takes CHUNK_GET t ≡ true = ap takes_get (sym is) ∙ gets in
            subst (λ (l : History). ClearMoved h l round.tag m id) (sym (behind ∙ ap (λ (x : Entry). x ∷ settled) is))
            (entry_moved h settled round.tag m t id (turn_message r (clear_place g) m led.free) (kept_large place w (dropped_before_large place ids h) ∙ kept_before place ids h)
            (sym (ap (λ (k : Option Kept). is_repeat k round.tag m) (kept_judging d.fetching round.body h)) ∙ adds.0)
            (λ refused. absurd (false≢true (sym (ap (λ (x : Effect). code_in x == CHUNK_GET) (turn_idle r (clear_place g) m led.free refused)) ∙ got))))
      ]

-- ---- A record.

module _ (r : RspSetup) (tag : ℕ) (m : List ℕ) (f : Free) where
  -- It is a repeat and gets its reply; or it gets an answer in the clear, and nothing comes of it; or it is taken.
  abbrev RecordForm : (kept live : Bool) → Outcome → Type 0
  RecordForm kept live o =
      ((b : List ℕ) × (o ≡ Same (record_body b)) × (kept ≡ true))
      ⊎ (((b : List ℕ) × (o ≡ Unopened b) × ((slice_index b 0 == 5) ≡ true)) ⊎ ((t : Turn) × (reply : List ℕ) × (o ≡ Adds (Sealed tag m t reply no_draw)) × (kept ≡ false) × (live ≡ true)))

  form_fault : (phase : Phase) (s : Events) (x : Option RecordFault) → RecordForm false true (in_session_by r phase s f tag m no_draw x)
  form_fault phase s (Some fault) = inr (inl (decrypt_error phase, refl, refl))
  form_fault phase s None =
      let t : Turn = session_turn r s (opened r.psk s m) f in
      inr (inr (t, reply_record r.psk s t (inner_reply t) f.pad, refl, refl, refl))

  form_last : (phase : Phase) (e : Event) (s : Events) (again : Bool) → RecordForm again true (cond again (Same (record_body (kept_record (last_of (e ∷ s))))) (in_session r phase (e ∷ s) f tag m no_draw))
  unfolding in_session
  form_last phase e s true = inl (kept_record (last_of (e ∷ s)), refl, refl)
  form_last phase e s false = form_fault phase (e ∷ s) (opening_fault r.psk (e ∷ s) m)

  form_session : (phase : Phase) (s : Events) → RecordForm (repeats (last_of s) m) (is_live s) (to_session r phase s f tag m no_draw)
  form_session phase [] = inr (inl (decrypt_error phase, refl, refl))
  form_session phase (e ∷ s) = form_last phase e s (repeats (last_of (e ∷ s)) m)

  form_ended : (ended : Bool) (kept : List ℕ) (phase : Phase) (s : Events) → RecordForm (ended || repeats (last_of s) m) (is_live s) (cond ended (Same (record_body kept)) (to_session r phase s f tag m no_draw))
  form_ended true kept phase s = inl (kept, refl, refl)
  form_ended false kept phase s = form_session phase s

  record_form : (g : History) → RecordForm (is_kept_record g m) (is_live (session_of (id_in_record m) g)) (on_record r g tag m f no_draw)
  unfolding on_record
  record_form g = form_ended (repeats (ended_of g) m) (kept_record (ended_of g)) (phase_of (clear_turns g)) (session_of (id_in_record m) g)

-- The form of what is led to.
form_led : (r : RspSetup) (tag : ℕ) (m : List ℕ) (f : Free) (g : History) (o : Outcome) → on_record r g tag m f no_draw ≡ o → RecordForm r tag m f (is_kept_record g m) (is_live (session_of (id_in_record m) g)) o
form_led r tag m f g o leads = subst (RecordForm r tag m f (is_kept_record g m) (is_live (session_of (id_in_record m) g))) leads (record_form r tag m f g)

-- Where its session is live after drops, it is a repeat as before them.
ended_dropped : (ids : List ℕ) (h : History) → ended_of (with_dropped h ids) ≡ ended_of h
ended_dropped [] h = refl
ended_dropped (id ∷ ids) h = ended_dropped ids (Dropped id ∷ h)

kept_dropped : (ids m : List ℕ) (h : History) → is_live (session_of (id_in_record m) (with_dropped h ids)) ≡ true → is_kept_record (with_dropped h ids) m ≡ is_kept_record h m
kept_dropped ids m h live =
    let n : ℕ = id_in_record m in
    elim (sessions_dropped n h ids) [
      | inl same ↦
          ap (λ (o : Option KeptRecord). repeats o m || repeats (last_of (session_of n (with_dropped h ids))) m) (ended_dropped ids h)
          ∙ ap (λ (s : Events). repeats (ended_of h) m || repeats (last_of s) m) same
      | inr gone ↦ absurd (false≢true (sym (ap is_live gone) ∙ live))
    ]

-- While bytes stand for a large response of its session, a record is a repeat as without them, and the session is live.
record_kept : (fetching : Option (List ℕ)) (body : List ℕ) (h : History) → (slice_index body 0 == 5) ≡ false → UnseenStand h → is_kept_record (judging fetching body h) (drop 1 body) ≡ is_kept_record h (drop 1 body)
record_kept None body h type stand = refl
record_kept (Some w) body h type stand =
    let m : List ℕ = drop 1 body in
    let n : ℕ = id_in_record m in
    ap (λ (p : Option ℕ). is_kept_record (with_large p w h) m) (named_session body type)
    ∙ ap (λ (o : Option KeptRecord). repeats o m || repeats (last_of (session_of n (with_large (Some n) w h))) m) (ended_fetched (Some n) w h)
    ∙ ap (λ (o : Option KeptRecord). repeats (ended_of h) m || repeats o m) (last_alike (session_of n (with_large (Some n) w h)) (session_of n h) (seen_alike n n w h stand))

record_live : (fetching : Option (List ℕ)) (body : List ℕ) (h : History) → (slice_index body 0 == 5) ≡ false → UnseenStand h
    → is_live (session_of (id_in_record (drop 1 body)) (judging fetching body h)) ≡ is_live (session_of (id_in_record (drop 1 body)) h)
record_live None body h type stand = refl
record_live (Some w) body h type stand =
    let n : ℕ = id_in_record (drop 1 body) in
    ap (λ (p : Option ℕ). is_live (session_of n (with_large p w h))) (named_session body type)
    ∙ live_alike (session_of n (with_large (Some n) w h)) (session_of n h) (seen_alike n n w h stand)

sealed_drops : (r : RspSetup) (g : History) (body : List ℕ) (tag : ℕ) (m : List ℕ) (t : Turn) (reply : List ℕ) (ids : List ℕ) → AreShown r g body (Adds (Sealed tag m t reply no_draw)) ids → ids ≡ []
sealed_drops r g body tag m t reply [] shown = refl
sealed_drops r g body tag m t reply (k ∷ []) shown = absurd (false≢true shown)
sealed_drops r g body tag m t reply (k ∷ j ∷ js) shown = absurd shown

and-all : (b : Bool) → (b && true) ≡ b
and-all true = refl
and-all false = refl

and-none : (b : Bool) → (b && not b) ≡ false
and-none true = refl
and-none false = refl

-- The touches as a record moves them.
abbrev RecordMoved : (h next : History) → (m answer : List ℕ) → ℕ → Type 0
RecordMoved h next m answer id = touched id next ≡ ((id_in_record m == id && is_touched_by h next m answer) || touched id h)

stays_moved : (h next : History) (m answer : List ℕ) (id : ℕ) → is_touched_by h next m answer ≡ false → next ≡ h → RecordMoved h next m answer id
stays_moved h next m answer id none same =
    ap (touched id) same
    ∙ sym (ap (λ (b : Bool). (id_in_record m == id && b) || touched id h) none ∙ ap (λ (b : Bool). b || touched id h) (and-false (id_in_record m == id)))

sets_moved : (h next : History) (m answer : List ℕ) (id : ℕ) → is_touched_by h next m answer ≡ true → touched id next ≡ (id_in_record m == id || touched id h) → RecordMoved h next m answer id
sets_moved h next m answer id is touches_it =
    touches_it ∙ sym (ap (λ (b : Bool). (id_in_record m == id && b) || touched id h) is ∙ ap (λ (b : Bool). b || touched id h) (and-all (id_in_record m == id)))

-- A record answers a record that was taken, or one that is a repeat.
touched_by_record : (h next : History) (m answer reply : List ℕ) (b : Bool) → answer ≡ record_body reply → is_kept_record h m ≡ b → is_touched_by h next m answer ≡ not b
touched_by_record h next m answer reply b sealed kept =
    let n : ℕ = id_in_record m in
    ap (λ (l : List ℕ). cond (slice_index l 0 == 5) (is_live (session_of n h) && not (is_live (session_of n next))) (not (is_kept_record h m))) sealed ∙ ap not kept

-- An answer in the clear to one whose session is gone.
touched_by_drop : (h next : History) (m answer : List ℕ) (live lives : Bool) → (slice_index answer 0 == 5) ≡ true → is_live (session_of (id_in_record m) h) ≡ live → is_live (session_of (id_in_record m) next) ≡ lives
    → is_touched_by h next m answer ≡ (live && not lives)
touched_by_drop h next m answer live lives clear before behind =
    let n : ℕ = id_in_record m in
    ap (λ (b : Bool). cond b (is_live (session_of n h) && not (is_live (session_of n next))) (not (is_kept_record h m))) clear
    ∙ ap (λ (b : Bool). b && not (is_live (session_of n next))) before ∙ ap (λ (b : Bool). live && not b) behind

module _ (r : RspSetup) (d : Dialogue) (round : Round) (answer : List ℕ) (next : History) (fetching : Option (List ℕ)) (type : (slice_index round.body 0 == 5) ≡ false) (stand : UnseenStand d.responder) (id : ℕ) where
  abbrev old : History
  old = d.responder

  abbrev request : List ℕ
  request = drop 1 round.body

  abbrev n : ℕ
  n = id_in_record (drop 1 round.body)

  abbrev j : History
  j = judging d.fetching round.body d.responder

  -- It was taken.
  taken_record : (t : Turn) (reply : List ℕ) (g : History) → is_kept_record d.responder request ≡ false → answer ≡ record_body reply → next ≡ Sealed round.tag request t reply no_draw ∷ g → touched id g ≡ touched id d.responder
      → RecordMoved d.responder next request answer id
  taken_record t reply g kept sealed behind same =
      sets_moved old next request answer id (touched_by_record old next request answer reply false sealed kept) (ap (touched id) behind ∙ ap (λ (b : Bool). n == id || b) same)

  -- Its session was dropped, or nothing was.
  dropped_record : (ids : List ℕ) (b : List ℕ) → MayDrop j ids → AreShown r j round.body (Unopened b) ids → (slice_index answer 0 == 5) ≡ true → next ≡ with_dropped d.responder ids → RecordMoved d.responder next request answer id
  dropped_record [] b may shown clear behind =
      stays_moved old next request answer id
      (touched_by_drop old next request answer (is_live (session_of n old)) (is_live (session_of n old)) clear refl (ap (λ (l : History). is_live (session_of n l)) behind) ∙ and-none (is_live (session_of n old)))
      behind
  dropped_record (k ∷ []) b may shown clear behind =
      let same : n ≡ k = eqb-true n k (and_first (n == k) (belongs_to r (session_of k j) request) shown) in
      let live : is_live (session_of n old) ≡ true =
      sym (record_live d.fetching round.body old type stand) ∙ subst (λ (x : ℕ). is_live (session_of x j) ≡ true) (sym same) may.0 in
      let gone : is_live (session_of n next) ≡ false =
      ap (λ (l : History). is_live (session_of n l)) behind ∙ ap is_live (dropped_session k n old) ∙ ap (λ (x : Bool). is_live (cond x [] (session_of n old))) (eq-eqb k n (sym same)) in
      sets_moved old next request answer id (touched_by_drop old next request answer true false clear live gone) (ap (touched id) behind ∙ ap (λ (x : ℕ). x == id || touched id old) (sym same))
  dropped_record (k ∷ l ∷ ls) b may shown clear behind = absurd shown

  kept_here : (ids : List ℕ) → ids ≡ [] → (b : Bool) → is_kept_record (with_dropped j ids) request ≡ b → is_kept_record d.responder request ≡ b
  kept_here ids none b is = sym (record_kept d.fetching round.body old type stand) ∙ sym (ap (λ (l : List ℕ). is_kept_record (with_dropped j l) request) none) ∙ is

  fresh : (ids : List ℕ) → is_kept_record (with_dropped j ids) request ≡ false → is_live (session_of n (with_dropped j ids)) ≡ true → is_kept_record d.responder request ≡ false
  fresh ids none live = sym (record_kept d.fetching round.body old type stand) ∙ sym (kept_dropped ids request j live) ∙ none

  plain_record : (ids : List ℕ) (o : Outcome) → MayDrop j ids → MayLeadTo r (with_dropped j ids) round.tag round.body o → AreShown r j round.body o ids → body_of o ≡ answer → next ≡ after (with_dropped d.responder ids) o
      → RecordMoved d.responder next request answer id
  plain_record ids o drops may shown gives behind =
      let g : History = with_dropped j ids in
      let led = led_record r g round.tag round.body o type may in
      elim (form_led r round.tag request led.free g o led.leads) [
        | inl same ↦
            let none : ids ≡ [] = same_drops r j round.body (record_body same.0) ids (subst (λ (x : Outcome). AreShown r j round.body x ids) same.1 shown) in
            stays_moved old next request answer id (touched_by_record old next request answer same.0 true (sym gives ∙ ap body_of same.1) (kept_here ids none true same.2))
            (behind ∙ ap (λ (x : Outcome). after (with_dropped old ids) x) same.1 ∙ ap (λ (l : List ℕ). with_dropped old l) none)
        | inr other ↦ elim other [
          | inl closed ↦
              dropped_record ids closed.0 drops (subst (λ (x : Outcome). AreShown r j round.body x ids) closed.1 shown)
              (ap (λ (l : List ℕ). slice_index l 0 == 5) (sym gives ∙ ap body_of closed.1) ∙ closed.2) (behind ∙ ap (λ (x : Outcome). after (with_dropped old ids) x) closed.1)
          | inr adds ↦
              let none : ids ≡ [] = sealed_drops r j round.body round.tag request adds.0 adds.1 ids (subst (λ (x : Outcome). AreShown r j round.body x ids) adds.2 shown) in
              taken_record adds.0 adds.1 (with_dropped old ids) (fresh ids adds.3 adds.4) (sym gives ∙ ap body_of adds.2)
              (behind ∙ ap (λ (x : Outcome). after (with_dropped old ids) x) adds.2) (ap (λ (l : List ℕ). touched id (with_dropped old l)) none)
        ]
      ]

  large_record : (ids : List ℕ) (e : Entry) → MayLeadTo r (with_dropped j ids) round.tag round.body (Adds e) → sent_by e ≡ answer → next ≡ unseen e ∷ d.responder → RecordMoved d.responder next request answer id
  large_record ids e may gives behind =
      let g : History = with_dropped j ids in
      let led = led_record r g round.tag round.body (Adds e) type may in
      elim (form_led r round.tag request led.free g (Adds e) led.leads) [
        | inl same ↦ absurd (let x = same.1 in cc)
        | inr other ↦ elim other [
          | inl closed ↦ absurd (let x = closed.1 in cc)
          | inr adds ↦
              let is : e ≡ Sealed round.tag request adds.0 adds.1 no_draw = (let x = adds.2 in cc) in
              taken_record (turn_with [] None adds.0) adds.1 old (fresh ids adds.3 adds.4) (sym gives ∙ ap sent_by is) (behind ∙ ap (λ (x : Entry). unseen x ∷ old) is) refl
        ]
      ]

  again_record : MayLeadTo r d.responder round.tag round.body (Same answer) → next ≡ d.responder → RecordMoved d.responder next request answer id
  again_record may behind =
      let led = led_record r old round.tag round.body (Same answer) type may in
      elim (form_led r round.tag request led.free old (Same answer) led.leads) [
        | inl same ↦
            let is : answer ≡ record_body same.0 = (let x = same.1 in cc) in
            stays_moved old next request answer id (touched_by_record old next request answer same.0 true is same.2) behind
        | inr other ↦ elim other [ inl closed ↦ absurd (let x = closed.1 in cc) | inr adds ↦ absurd (let x = adds.2 in cc) ]
      ]

  last_record : (w ids : List ℕ) (e : Entry) → MayLeadTo r j round.tag round.body (Adds e) → MayHaveLed r (place_named round.body) w ids d.responder → sent_by e ≡ answer
      → next ≡ e ∷ with_large (place_named round.body) w (dropped_before_large (place_named round.body) ids d.responder) → RecordMoved d.responder next request answer id
  last_record w ids e may have gives behind =
      let place : Option ℕ = place_named round.body in
      let led = led_record r j round.tag round.body (Adds e) type may in
      let none : ids ≡ [] = none_dropped r n w ids old (subst (λ (p : Option ℕ). MayHaveLed r p w ids old) (named_session round.body type) have) in
      let settled : History = with_large place w (dropped_before_large place ids old) in
      let same : touched id settled ≡ touched id old =
      touched_large id place w (dropped_before_large place ids old) ∙ ap (λ (l : List ℕ). touched id (dropped_before_large place l old)) none ∙ touched_before id place old in
      elim (form_led r round.tag request led.free j (Adds e) led.leads) [
        | inl again ↦ absurd (let x = again.1 in cc)
        | inr other ↦ elim other [
          | inl closed ↦ absurd (let x = closed.1 in cc)
          | inr adds ↦
              let is : e ≡ Sealed round.tag request adds.0 adds.1 no_draw = (let x = adds.2 in cc) in
              taken_record adds.0 adds.1 settled (fresh [] adds.3 adds.4) (sym gives ∙ ap sent_by is) (behind ∙ ap (λ (x : Entry). x ∷ settled) is) same
        ]
      ]

-- ---- An answer.

clear_moves : (r : RspSetup) (d : Dialogue) (round : Round) (answer : List ℕ) (next : History) (fetching : Option (List ℕ)) → (slice_index round.body 0 == 5) ≡ true → (id : ℕ) → Answers r d round answer next fetching
    → ClearMoved d.responder next round.tag (drop 1 round.body) id
unfolding Answers
clear_moves r d round answer next fetching type id (inl a) = plain_clear r d round answer next fetching type id a.0.0 a.0.1 a.0.2.1 a.0.3 a.0.6
clear_moves r d round answer next fetching type id (inr (inl a)) = large_clear r d round answer next fetching type id a.1.0 a.1.1 a.1.2.1 a.1.6
clear_moves r d round answer next fetching type id (inr (inr (inl a))) = again_clear r d round answer next fetching type id a.1.1 a.1.4
clear_moves r d round answer next fetching type id (inr (inr (inr a))) = last_clear r d round answer next fetching type id a.0.0 a.0.1 a.0.2 a.0.4 (and_first _ _ a.0.5) a.0.8

record_moves : (r : RspSetup) (d : Dialogue) (round : Round) (answer : List ℕ) (next : History) (fetching : Option (List ℕ)) → (slice_index round.body 0 == 5) ≡ false → UnseenStand d.responder → (id : ℕ) → Answers r d round answer next fetching
    → RecordMoved d.responder next (drop 1 round.body) answer id
unfolding Answers
record_moves r d round answer next fetching type stand id (inl a) = plain_record r d round answer next fetching type stand id a.0.0 a.0.1 a.0.2.0 a.0.2.1 a.0.3 a.0.5 a.0.6
record_moves r d round answer next fetching type stand id (inr (inl a)) = large_record r d round answer next fetching type stand id a.1.0 a.1.1 a.1.2.1 a.1.5 a.1.6
record_moves r d round answer next fetching type stand id (inr (inr (inl a))) = again_record r d round answer next fetching type stand id a.1.1 a.1.4
record_moves r d round answer next fetching type stand id (inr (inr (inr a))) = last_record r d round answer next fetching type stand id a.0.0 a.0.1 a.0.2 a.0.4 a.0.6 a.0.7 a.0.8

pub answer_moves : (r : RspSetup) (d : Dialogue) (round : Round) (answer : List ℕ) (next : History) (fetching : Option (List ℕ)) → UnseenStand d.responder → Answers r d round answer next fetching → (id : ℕ)
    → touched id next ≡ touched_behind d.responder next round.tag round.body answer id
answer_moves r d round answer next fetching stand answers id = by_type (slice_index round.body 0 == 5) refl
  where
    clear : Bool
    clear = cond (is_taken_by d.responder next round.tag (drop 1 round.body)) false (touched id d.responder)

    sealed : Bool
    sealed = (id_in_record (drop 1 round.body) == id && is_touched_by d.responder next (drop 1 round.body) answer) || touched id d.responder

    by_type : (b : Bool) → (slice_index round.body 0 == 5) ≡ b → touched id next ≡ cond (slice_index round.body 0 == 5) clear sealed
    by_type true is = clear_moves r d round answer next fetching is id answers ∙ sym (ap (λ (x : Bool). cond x clear sealed) is)
    by_type false is = record_moves r d round answer next fetching is stand id answers ∙ sym (ap (λ (x : Bool). cond x clear sealed) is)
