-- How a large response comes to be fetched: by LargeResponse, and by a repeat of one that was not fetched.
use Rattle.std.proofs.Common.{◌≡◌, ◌==◌, ◌&&◌, ◌⊎◌, ◌+◌, ◌*◌, ℕ, List, [], ◌∷◌, ◌++◌, refl, sym, ap, ◌∙◌, subst, drop, Bool, true, false, Option, Some, None, is_some, cond, inl, inr, eq-eqb}
use Rattle.std.specs.Prelude.{not, nat_le, slice_index, bytes_eq}
use Rattle.std.proofs.lemmas.Bool.{false≢true}
use Rattle.std.proofs.lemmas.Slice.Eq.{bytes_eq-Decides}
use Rattle.chunking.specs.Collecting.{joined}
use Rattle.chunking.specs.Cutting.{chunks_before}
use Rattle.spdm_grammar.specs.declared.names.request_code.TheConstants.{CHUNK_GET, END_SESSION, GET_VERSION, PSK_EXCHANGE, PSK_FINISH}
use Rattle.spdm_machine.specs.Bodies.{clear_body}
use Rattle.spdm_machine.specs.Sessions.{id_in_exchange, is_past_handshake}
use Rattle.transcript.specs.Transcripts.{Negotiation}
use Rattle.responder_machine.specs.Handling.{turn_of}
use Rattle.responder_machine.specs.History.{History, Entry, kept_of, clear_turns, negotiation_of}
use Rattle.responder_machine.specs.History.Entry.{Clear, Sealed, Queued, Ticked, Dropped}
use Rattle.responder_machine.specs.LargeMessages.{large_of, given_of}
use Rattle.responder_machine.specs.May.{place_for}
use Rattle.responder_machine.specs.Place.{Place, clear_place, session_place}
use Rattle.responder_machine.specs.Records.{opened, reply_record}
use Rattle.responder_machine.specs.Responder.{Outcome, on_clear, is_repeat, kept_reply, session_turn, inner_reply}
use Rattle.responder_machine.specs.Responder.Outcome.{Same, Adds}
use Rattle.responder_machine.specs.Session.{Events, session_of, turns_of, id_in_record, after_record, after_clear, when_live, stage_of, is_timed, idle_of, period_of, gives_id}
use Rattle.responder_machine.specs.Session.Event.{Began, Heard, Waited}
use Rattle.responder_machine.specs.Setup.{RspSetup}
use Rattle.responder_machine.specs.Turn.{Turn, Effect, is_taken, takes, handle_in, large_in, request_in, answer_in}
use Rattle.responder_machine.specs.Turn.Effect.{NoEffect, Took, TookData}
use Rattle.responder_machine.proofs.Making.{turn_message}
use Rattle.capture_machine.specs.CapturedAnswers.{MayLeadTo}
use Rattle.capture_machine.specs.LargeAnswers.{is_large, takes_get, unseen, is_unseen, is_unseen_effect, is_in, is_unseen_in, is_kept_in, seen, seen_turn, handle_shown, place_named, with_large, repeats_large, turn_with, effect_with}
use Rattle.capture_machine.specs.Rounds.{no_draw}
use Rattle.capture_machine.proofs.ChunksGiven.{Chunked, gets_in, gets_of, parts_of, gets_step, parts_step, bytes_in, answer_by, large_other, large_idle, given_idle}
use Rattle.capture_machine.proofs.ChunksGiven.Chunked.{Gone, Given}
use Rattle.capture_machine.proofs.DropsTell.{clear_form}
use Rattle.capture_machine.proofs.FetchedSessions.{takes_with}
use Rattle.capture_machine.proofs.FetchStates.{Fetch, Getting}
use Rattle.capture_machine.proofs.FetchStates.Getting.{Repeats, Seals}
use Rattle.capture_machine.proofs.FinishSmall.{finish_whole}
use Rattle.capture_machine.proofs.GetTells.{IsIdle, transfer_of, turn_idle, session_idle}
use Rattle.capture_machine.proofs.PlacesServed.{place_type, named_clear, named_session}
use Rattle.capture_machine.proofs.PlainTells.{ClearLed, RecordLed, led_clear, led_record}
use Rattle.capture_machine.proofs.RecordAdds.{record_added}
use Rattle.capture_machine.proofs.SmallGets.{turn_of_whole, session_whole}
use Rattle.capture_machine.proofs.UnseenStands.{GoesLarge, StandsUnseen, UnseenStand, since_from, with_idle}

-- ---- No chunk was given of the answer to the last request of a place, where that answer was not seen.

kept_in : (place : Option ℕ) (e : Entry) → is_kept_in place e ≡ true → is_in place e ≡ true
kept_in None (Clear tag t d) is = refl
kept_in None (Sealed tag m t reply d) is = absurd (false≢true is)
kept_in None (Queued bytes) is = absurd (false≢true is)
kept_in None (Ticked seconds) is = absurd (false≢true is)
kept_in None (Dropped id) is = absurd (false≢true is)
kept_in (Some id) (Sealed tag m t reply d) is = is
kept_in (Some id) (Clear tag t d) is = absurd (false≢true is)
kept_in (Some id) (Queued bytes) is = absurd (false≢true is)
kept_in (Some id) (Ticked seconds) is = absurd (false≢true is)
kept_in (Some id) (Dropped which) is = absurd (false≢true is)

-- What was not taken was seen.
idle_seen : (t : Turn) → (is_unseen_effect t.effect ≡ true → GoesLarge t) → is_taken t ≡ false → is_unseen_effect t.effect ≡ false
idle_seen t stands idle = by_unseen (is_unseen_effect t.effect) refl
  where
    by_unseen : (b : Bool) → is_unseen_effect t.effect ≡ b → b ≡ false
    by_unseen false is = refl
    by_unseen true is = absurd (false≢true (sym idle ∙ (stands is).taken))

not_kept : (place : Option ℕ) (e : Entry) → StandsUnseen e → is_kept_in place e ≡ false → is_unseen_in place e ≡ false
not_kept None (Clear tag t d) stands is = idle_seen t stands.1 is
not_kept None (Sealed tag m t reply d) stands is = refl
not_kept None (Queued bytes) stands is = refl
not_kept None (Ticked seconds) stands is = refl
not_kept None (Dropped id) stands is = refl
not_kept (Some id) (Sealed tag m t reply d) stands is = ap (λ (b : Bool). b && is_unseen_effect t.effect) is
not_kept (Some id) (Clear tag t d) stands is = refl
not_kept (Some id) (Queued bytes) stands is = refl
not_kept (Some id) (Ticked seconds) stands is = refl
not_kept (Some id) (Dropped which) stands is = refl

none_given : (place : Option ℕ) (h : History) → UnseenStand h → repeats_large place h ≡ true → (gets_of place h ≡ 0) × (parts_of place h ≡ [])
none_given place [] stand is = absurd (false≢true is)
none_given place (e ∷ h) stand is = by_kept (is_kept_in place e) refl (λ last. none_given place h stand.1 last)
  where
    by_kept : (b : Bool) → is_kept_in place e ≡ b → (repeats_large place h ≡ true → (gets_of place h ≡ 0) × (parts_of place h ≡ [])) → (gets_of place (e ∷ h) ≡ 0) × (parts_of place (e ∷ h) ≡ [])
    by_kept true kept before =
        let un : is_unseen e ≡ true = sym (ap (λ (b : Bool). cond b (is_unseen e) (repeats_large place h)) kept) ∙ is in
        let here : is_unseen_in place e ≡ true = ap (λ (b : Bool). b && is_unseen e) (kept_in place e kept) ∙ un in
        (ap (λ (b : Bool). cond b 0 (cond (gets_in place e) (gets_of place h + 1) (gets_of place h))) here, ap (λ (b : Bool). cond b [] (cond (gets_in place e) (parts_of place h ++ bytes_in (gets_of place h) (answer_by e)) (parts_of place h))) here)
    by_kept false kept before =
        let old = not_kept place e stand.0 kept in
        let none : gets_in place e ≡ false = ap (λ (b : Bool). b && takes_get e) kept in
        let rest = before (sym (ap (λ (b : Bool). cond b (is_unseen e) (repeats_large place h)) kept) ∙ is) in
        (gets_step place e h false old none ∙ rest.0, parts_step place e h false old none ∙ rest.1)

-- ---- What is pending with its bytes.

-- These bytes are, and no chunk of them was given.
abbrev IsFresh : List Turn → List ℕ → Type 0
IsFresh ts w = (large_of ts ≡ Some w) × (given_of ts ≡ 0)

large_given : (w : List ℕ) (k : ℕ) (x : Effect) → is_unseen_effect x ≡ true → large_in (effect_with w (Some k) x) ≡ Some w
large_given w k NoEffect is = absurd (false≢true is)
large_given w k (Took a m old large) is = refl
large_given w k (TookData bytes old) is = absurd (false≢true is)

turn_fresh : (w : List ℕ) (u : Turn) (ts : List Turn) → is_unseen_effect u.effect ≡ true → GoesLarge u → IsFresh (seen_turn w u ∷ ts) w
turn_fresh w u ts is goes =
    let now : Turn = seen_turn w u in
    let other : takes CHUNK_GET now ≡ false = takes_with w (Some (handle_shown u)) CHUNK_GET u ∙ goes.other in (
      large_other now ts goes.taken other ∙ large_given w (handle_shown u) u.effect is,
      ap (λ (b : Bool). cond (not b) (given_of ts) (cond (takes CHUNK_GET now) (given_of ts + 1) 0)) goes.taken ∙ ap (λ (b : Bool). cond b (given_of ts + 1) 0) other,
    )

clear_fresh : (w : List ℕ) (h : History) → UnseenStand h → repeats_large None h ≡ true → IsFresh (clear_turns (with_large None w h)) w
clear_fresh w [] stand is = absurd (false≢true is)
clear_fresh w (Clear tag t d ∷ h) stand is = by_taken (is_taken t) refl (λ last. clear_fresh w h stand.1 last)
  where
    by_taken : (b : Bool) → is_taken t ≡ b → (repeats_large None h ≡ true → IsFresh (clear_turns (with_large None w h)) w) → IsFresh (clear_turns (with_large None w (Clear tag t d ∷ h))) w
    by_taken true taken rest =
        let un : is_unseen_effect t.effect ≡ true = sym (ap (λ (b : Bool). cond b (is_unseen_effect t.effect) (repeats_large None h)) taken) ∙ is in
        subst (λ (b : Bool). IsFresh (clear_turns (cond b (Clear tag (seen_turn w t) d ∷ h) (Clear tag t d ∷ with_large None w h))) w) (sym un) (turn_fresh w t (clear_turns h) un (stand.0.1 un))
    by_taken false taken rest =
        let old = idle_seen t stand.0.1 taken in
        let before = rest (sym (ap (λ (b : Bool). cond b (is_unseen_effect t.effect) (repeats_large None h)) taken) ∙ is) in
        subst (λ (b : Bool). IsFresh (clear_turns (cond b (Clear tag (seen_turn w t) d ∷ h) (Clear tag t d ∷ with_large None w h))) w) (sym old)
        (large_idle t (clear_turns (with_large None w h)) taken ∙ before.0, given_idle t (clear_turns (with_large None w h)) taken ∙ before.1)
clear_fresh w (Sealed tag m t reply d ∷ h) stand is = clear_fresh w h stand.1 is
clear_fresh w (Queued bytes ∷ h) stand is = clear_fresh w h stand.1 is
clear_fresh w (Ticked seconds ∷ h) stand is = clear_fresh w h stand.1 is
clear_fresh w (Dropped id ∷ h) stand is = clear_fresh w h stand.1 is

-- In a session so, or nothing is pending there.
abbrev IsFreshIn : Events → List ℕ → Type 0
IsFreshIn s w = (large_of (turns_of s) ≡ None) ⊎ IsFresh (turns_of s) w

either_fresh : (b : Bool) (x y : Events) (w : List ℕ) → IsFreshIn x w → IsFreshIn y w → IsFreshIn (cond b x y) w
either_fresh true x y w one other = one
either_fresh false x y w one other = other

clear_after : (id : ℕ) (s : Events) (t : Turn) (n : Negotiation) (w : List ℕ) → IsFreshIn s w → IsFreshIn (after_clear id s t n) w
clear_after id s t n w before =
    either_fresh (takes GET_VERSION t) [] _ w (inl refl)
    (either_fresh (takes PSK_EXCHANGE t) _ s w
    (either_fresh (gives_id id (answer_in t.effect)) (Began n (request_in t.effect) (answer_in t.effect) ∷ []) _ w (inl refl) (either_fresh (is_past_handshake (stage_of s)) s [] w before (inl refl)))
    before)

live_fresh : (m : List ℕ) (u : Turn) (reply w : List ℕ) (s : Events) → is_unseen_effect u.effect ≡ true → GoesLarge u → IsFreshIn (when_live s (Heard m (seen_turn w u) reply)) w
live_fresh m u reply w [] is goes = inl refl
live_fresh m u reply w (x ∷ s) is goes = inr (turn_fresh w u (turns_of (x ∷ s)) is goes)

session_fresh : (id : ℕ) (w : List ℕ) (h : History) → UnseenStand h → repeats_large (Some id) h ≡ true → IsFreshIn (session_of id (with_large (Some id) w h)) w
unfolding session_of
session_fresh id w [] stand is = absurd (false≢true is)
session_fresh id w (Clear tag t d ∷ h) stand is =
    clear_after id (session_of id (with_large (Some id) w h)) t (negotiation_of (clear_turns (with_large (Some id) w h))) w (session_fresh id w h stand.1 is)
session_fresh id w (Sealed tag m t reply d ∷ h) stand is = by_id (id_in_record m == id) refl (λ last. session_fresh id w h stand.1 last)
  where
    by_id : (b : Bool) → (id_in_record m == id) ≡ b → (repeats_large (Some id) h ≡ true → IsFreshIn (session_of id (with_large (Some id) w h)) w) → IsFreshIn (session_of id (with_large (Some id) w (Sealed tag m t reply d ∷ h))) w
    by_id true at rest =
        let un : is_unseen_effect t.effect ≡ true = sym (ap (λ (b : Bool). cond b (is_unseen_effect t.effect) (repeats_large (Some id) h)) at) ∙ is in
        let here : ((id_in_record m == id) && is_unseen_effect t.effect) ≡ true = ap (λ (b : Bool). b && is_unseen_effect t.effect) at ∙ un in
        let s : Events = session_of id h in
        let now : Turn = seen_turn w t in
        subst (λ (b : Bool). IsFreshIn (session_of id (cond b (Sealed tag m now reply d ∷ h) (Sealed tag m t reply d ∷ with_large (Some id) w h))) w) (sym here)
        (subst (λ (b : Bool). IsFreshIn (cond b (after_record s m now reply) s) w) (sym at)
        (either_fresh (takes END_SESSION now) [] _ w (inl refl) (live_fresh m t reply w s un (stand.0 un).1)))
    by_id false at rest =
        let none : ((id_in_record m == id) && is_unseen_effect t.effect) ≡ false = ap (λ (b : Bool). b && is_unseen_effect t.effect) at in
        let before = rest (sym (ap (λ (b : Bool). cond b (is_unseen_effect t.effect) (repeats_large (Some id) h)) at) ∙ is) in
        subst (λ (b : Bool). IsFreshIn (session_of id (cond b (Sealed tag m (seen_turn w t) reply d ∷ h) (Sealed tag m t reply d ∷ with_large (Some id) w h))) w) (sym none)
        (subst (λ (b : Bool). IsFreshIn (cond b (after_record (session_of id (with_large (Some id) w h)) m t reply) (session_of id (with_large (Some id) w h))) w) (sym at) before)
session_fresh id w (Queued bytes ∷ h) stand is = session_fresh id w h stand.1 is
session_fresh id w (Ticked seconds ∷ h) stand is =
    let s : Events = session_of id (with_large (Some id) w h) in
    let before = session_fresh id w h stand.1 is in
    either_fresh (not (is_timed s)) s _ w before (either_fresh (nat_le (2 * period_of s) (idle_of s + seconds)) [] (Waited seconds ∷ s) w (inl refl) before)
session_fresh id w (Dropped which ∷ h) stand is = either_fresh (which == id) [] _ w (inl refl) (session_fresh id w h stand.1 is)

-- ---- It is fetched from then on.

chunked_from : (p : Place) (place : Option ℕ) (w : List ℕ) (h : History) → UnseenStand h → repeats_large place h ≡ true → IsFresh p.turns w → Chunked p place w h
chunked_from p place w h stand is fresh =
    let none = none_given place h stand is in
    Given fresh.0 (fresh.1 ∙ sym none.0) (none.1 ∙ ap (λ (n : ℕ). joined (chunks_before (transfer_of p) 0 w n)) (sym none.0))

session_from : (s : Events) (place : Option ℕ) (w : List ℕ) (h : History) → UnseenStand h → repeats_large place h ≡ true → IsFreshIn s w → Chunked (session_place s) place w h
session_from s place w h stand is (inl none) = Gone none
session_from s place w h stand is (inr fresh) = chunked_from (session_place s) place w h stand is fresh

-- Where the large response to the request with which a repeat is compared was not seen.
pub fetch_from : (h : History) (w : List ℕ) (tag : ℕ) (body : List ℕ) → UnseenStand h → repeats_large (place_named body) h ≡ true
    → ((slice_index body 0 == 5) ≡ true → is_repeat (kept_of h) tag (drop 1 body) ≡ true) → Fetch h w tag body
fetch_from h w tag body stand is again = by_type (slice_index body 0 == 5) refl
  where
    by_type : (b : Bool) → (slice_index body 0 == 5) ≡ b → Fetch h w tag body
    by_type true type =
        let named = named_clear body type in
        let last : repeats_large None h ≡ true = ap (λ (o : Option ℕ). repeats_large o h) (sym named) ∙ is in
        let chunked : Chunked (place_for (with_large None w h) body) None w h =
        subst (λ (p : Place). Chunked p None w h) (sym (place_type (with_large None w h) body true type)) (chunked_from (clear_place (with_large None w h)) None w h stand last (clear_fresh w h stand last)) in
        record { how = Repeats type (again type) (since_from h stand last); chunked = subst (λ (o : Option ℕ). Chunked (place_for (with_large o w h) body) o w h) (sym named) chunked }
    by_type false type =
        let id : ℕ = id_in_record (drop 1 body) in
        let named = named_session body type in
        let last : repeats_large (Some id) h ≡ true = ap (λ (o : Option ℕ). repeats_large o h) (sym named) ∙ is in
        let g : History = with_large (Some id) w h in
        let chunked : Chunked (place_for g body) (Some id) w h =
        subst (λ (p : Place). Chunked p (Some id) w h) (sym (place_type g body false type)) (session_from (session_of id g) (Some id) w h stand last (session_fresh id w h stand last)) in
        record { how = Seals type stand; chunked = subst (λ (o : Option ℕ). Chunked (place_for (with_large o w h) body) o w h) (sym named) chunked }

-- ---- By a repeat.

repeats_by : (b : Bool) (x y : List ℕ) (e : Entry) → cond b (Same x) (Adds e) ≡ Same y → b ≡ true
repeats_by true x y e is = refl
repeats_by false x y e is = absurd (cc)

same_repeats : (r : RspSetup) (h : History) (tag : ℕ) (body answer : List ℕ) → ClearLed r h tag body (Same answer) → is_repeat (kept_of h) tag (drop 1 body) ≡ true
unfolding on_clear
same_repeats r h tag body answer led =
    repeats_by (is_repeat (kept_of h) tag (drop 1 body)) (clear_body (kept_reply (kept_of h))) answer (Clear tag (turn_of r (clear_place h) (drop 1 body) led.free) no_draw) led.leads

pub again_begins : (r : RspSetup) (h : History) (w : List ℕ) (tag : ℕ) (body answer : List ℕ) → UnseenStand h → repeats_large (place_named body) h ≡ true → MayLeadTo r h tag body (Same answer) → Fetch h w tag body
again_begins r h w tag body answer stand is may = fetch_from h w tag body stand is (λ type. same_repeats r h tag body answer (led_clear r h tag body (Same answer) type may))

-- ---- By LargeResponse.

unseen_with : (x : Effect) → is_some (handle_in x) ≡ true → is_unseen_effect (effect_with [] None x) ≡ true
unseen_with NoEffect large = absurd (false≢true large)
unseen_with (Took a m answer large) is = refl
unseen_with (TookData bytes answer) large = absurd (false≢true large)

-- A turn whose answer goes by LargeResponse was taken, and is not CHUNK_GET.
large_turn : (t : Turn) → is_some (handle_in t.effect) ≡ true → IsIdle t → (takes CHUNK_GET t ≡ true → is_some (handle_in t.effect) ≡ false) → GoesLarge (turn_with [] None t)
large_turn t large idle small = record {
  taken = by_taken (is_taken t) refl;
  other = takes_with [] None CHUNK_GET t ∙ by_get (takes CHUNK_GET t) refl;
}
  where
    by_taken : (b : Bool) → is_taken t ≡ b → b ≡ true
    by_taken true is = refl
    by_taken false is = absurd (false≢true (sym (ap (λ (x : Effect). is_some (handle_in x)) (idle is)) ∙ large))

    by_get : (b : Bool) → takes CHUNK_GET t ≡ b → b ≡ false
    by_get false is = refl
    by_get true is = absurd (false≢true (sym (small is) ∙ large))

not_finish : (t : Turn) → is_some (handle_in t.effect) ≡ true → (takes PSK_FINISH t ≡ true → is_some (handle_in t.effect) ≡ false) → takes PSK_FINISH t ≡ false
not_finish t large small = by_finish (takes PSK_FINISH t) refl
  where
    by_finish : (b : Bool) → takes PSK_FINISH t ≡ b → b ≡ false
    by_finish false is = refl
    by_finish true is = absurd (false≢true (sym (small is) ∙ large))

-- What LargeResponse leaves in the history.
pub record Leaves (place : Option ℕ) (tag : ℕ) (body : List ℕ) (e : Entry) : Type 0 where
  pub stands : StandsUnseen (unseen e)
  pub last : (k : History) → repeats_large place (unseen e ∷ k) ≡ true
  pub again : (k : History) → (slice_index body 0 == 5) ≡ true → is_repeat (kept_of (unseen e ∷ k)) tag (drop 1 body) ≡ true

clear_leaves : (r : RspSetup) (h : History) (tag : ℕ) (body : List ℕ) (e : Entry) → ClearLed r h tag body (Adds e) → is_large e ≡ true → Leaves None tag body e
clear_leaves r h tag body e led large = elim (clear_form r h tag (drop 1 body) led.free (Adds e) led.leads) [
  | inl same ↦ absurd (let x = same.1 in cc)
  | inr adds ↦
      let m : List ℕ = drop 1 body in
      let t : Turn = turn_of r (clear_place h) m led.free in
      let is : Clear tag t no_draw ≡ e = cc (sym adds) in
      let big : is_some (handle_in t.effect) ≡ true = ap is_large is ∙ large in
      let goes = large_turn t big (turn_idle r (clear_place h) m led.free) (turn_of_whole r (clear_place h) m led.free refl) in
      let spells = turn_message r (clear_place h) m led.free in
      subst (Leaves None tag body) is (record {
        stands = (with_idle [] None t (turn_idle r (clear_place h) m led.free), λ un. goes);
        last = λ k. ap (λ (b : Bool). cond b (is_unseen_effect (effect_with [] None t.effect)) (repeats_large None k)) goes.taken ∙ unseen_with t.effect big;
        again = λ k type.
            ap (λ (b : Bool). is_repeat (cond b (Some (record { tag = tag; message = t.message; reply = t.reply })) (kept_of k)) tag m) goes.taken
            ∙ ap (λ (b : Bool). b && bytes_eq t.message m) (eq-eqb tag tag refl) ∙ (bytes_eq-Decides t.message m).1 spells;
      })
]

record_leaves : (r : RspSetup) (h : History) (tag : ℕ) (body : List ℕ) (e : Entry) → (slice_index body 0 == 5) ≡ false → RecordLed r h tag body (Adds e) → is_large e ≡ true → Leaves (Some (id_in_record (drop 1 body))) tag body e
record_leaves r h tag body e type led large =
    let sealed : List ℕ = drop 1 body in
    let s : Events = session_of (id_in_record sealed) h in
    let inner : List ℕ = opened r.psk s sealed in
    let t : Turn = session_turn r s inner led.free in
    let reply : List ℕ = reply_record r.psk s t (inner_reply t) led.free.pad in
    let is : Sealed tag sealed t reply no_draw ≡ e = record_added r led.free tag sealed e h led.leads in
    let big : is_some (handle_in t.effect) ≡ true = ap is_large is ∙ large in
    let goes = large_turn t big (session_idle r s inner led.free) (session_whole r s inner led.free) in
    let other = not_finish t big (finish_whole r s inner led.free) in
    subst (Leaves (Some (id_in_record sealed)) tag body) is (record {
      stands = λ un. (takes_with [] None PSK_FINISH t ∙ other, goes);
      last = λ k. ap (λ (b : Bool). cond b (is_unseen_effect (effect_with [] None t.effect)) (repeats_large (Some (id_in_record sealed)) k)) (eq-eqb (id_in_record sealed) (id_in_record sealed) refl) ∙ unseen_with t.effect big;
      again = λ k clear. absurd (false≢true (sym type ∙ clear));
    })

pub large_leaves : (r : RspSetup) (h : History) (tag : ℕ) (body : List ℕ) (e : Entry) → MayLeadTo r h tag body (Adds e) → is_large e ≡ true → Leaves (place_named body) tag body e
large_leaves r h tag body e may large = by_type (slice_index body 0 == 5) refl
  where
    by_type : (b : Bool) → (slice_index body 0 == 5) ≡ b → Leaves (place_named body) tag body e
    by_type true type = subst (λ (o : Option ℕ). Leaves o tag body e) (sym (named_clear body type)) (clear_leaves r h tag body e (led_clear r h tag body (Adds e) type may) large)
    by_type false type = subst (λ (o : Option ℕ). Leaves o tag body e) (sym (named_session body type)) (record_leaves r h tag body e type (led_record r h tag body (Adds e) type may) large)

pub large_begins : (r : RspSetup) (h k : History) (w : List ℕ) (tag : ℕ) (body : List ℕ) (e : Entry) → UnseenStand k → MayLeadTo r h tag body (Adds e) → is_large e ≡ true → Fetch (unseen e ∷ k) w tag body
large_begins r h k w tag body e stand may large =
    let leaves = large_leaves r h tag body e may large in
    fetch_from (unseen e ∷ k) w tag body (leaves.stands, stand) (leaves.last k) (leaves.again k)
