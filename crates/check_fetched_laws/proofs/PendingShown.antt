-- What is pending while a large response is fetched.
use Rattle.std.proofs.Common.{◌≡◌, ◌≢◌, ◌==◌, ◌||◌, ℕ, List, [], ◌∷◌, refl, sym, ap, ◌∙◌, drop, Bool, true, false, Option, Some, None, is_some, cond, inl, inr}
use Rattle.std.specs.Prelude.{not, slice_index}
use Rattle.std.proofs.Math.Bool.{or-true}
use Rattle.std.proofs.lemmas.Bool.{false≢true}
use Rattle.std.proofs.lemmas.Option.{none-some}
use Rattle.responder_rules.specs.LargeAnswer.{last_takes}
use Rattle.responder_machine.specs.History.{History, clear_turns, negotiation_of}
use Rattle.responder_machine.specs.History.Entry.{Clear, Sealed, Queued, Ticked, Dropped}
use Rattle.responder_machine.specs.LargeMessages.{given_of, large_of, still_pending}
use Rattle.responder_machine.specs.May.{place_for}
use Rattle.responder_machine.specs.Place.{Place, place_terms, session_place}
use Rattle.responder_machine.specs.Refusal.{has_pending}
use Rattle.responder_machine.specs.Session.{Events, id_in_record, is_timed, session_of, stage_of, turns_of, when_live, gives_id}
use Rattle.responder_machine.specs.Session.Event.{Began, Heard, Waited}
use Rattle.responder_machine.specs.Turn.{Effect, Turn, answer_in, handle_in, is_taken, large_in, request_in, takes}
use Rattle.responder_machine.specs.Turn.Effect.{NoEffect, Took, TookData}
use Rattle.spdm_grammar.specs.declared.names.request_code.TheConstants.{CHUNK_GET, END_SESSION, GET_MEASUREMENTS, GET_VERSION, PSK_EXCHANGE}
use Rattle.spdm_machine.specs.Sessions.{id_in_exchange, is_past_handshake}
use Rattle.check_fetched_laws.proofs.MeasuredSessions.{Measures, given_measures, goes_by_chunks, walks_measure}
use Rattle.check_fetched_laws.proofs.WalksSound.{walk_stands}
use Rattle.check_fetched_laws.specs.AlikeAnswers.{place_with}
use Rattle.check_fetched_laws.specs.JudgedFor.{PendingIsFetched, PendingIsMeasured}
use Rattle.capture_machine.proofs.ChunksGiven.{Chunked}
use Rattle.capture_machine.proofs.ChunksGiven.Chunked.{Gone, Given}
use Rattle.capture_machine.proofs.FetchedTold.{Stands}
use Rattle.capture_machine.proofs.PlacesServed.{named_session, place_type}
use Rattle.capture_machine.specs.LargeAnswers.{is_unseen_effect, place_named, with_large}

-- ---- The large answers of a session.

abbrev AllMeasure : List Turn → Type 0
AllMeasure [] = Unit {0}
AllMeasure (t ∷ ts) = (goes_by_chunks t ≡ true → takes GET_MEASUREMENTS t ≡ true) × AllMeasure ts

abbrev Within : Events → Type 0
Within s = AllMeasure (turns_of s)

cond_within : (b : Bool) (s u : Events) → Within s → Within u → Within (cond b s u)
cond_within true s u one two = one
cond_within false s u one two = two

live_within : (s : Events) (m : List ℕ) (t : Turn) (reply : List ℕ) → (goes_by_chunks t ≡ true → takes GET_MEASUREMENTS t ≡ true) → Within s → Within (when_live s (Heard m t reply))
live_within [] m t reply one rest = tt
live_within (e ∷ s) m t reply one rest = (one, rest)

within : (id : ℕ) (g : History) → Measures g → Within (session_of id g)
unfolding session_of
within id [] measures = tt
within id (Clear tag t d ∷ g) measures =
    let s : Events = session_of id g in
    let rest = within id g measures.1 in
    cond_within (takes GET_VERSION t) [] _ tt
    (cond_within (takes PSK_EXCHANGE t) _ s
    (cond_within (gives_id id (answer_in t.effect)) (Began (negotiation_of (clear_turns g)) (request_in t.effect) (answer_in t.effect) ∷ []) _ tt (cond_within (is_past_handshake (stage_of s)) s [] rest tt)) rest)
within id (Sealed tag m t reply d ∷ g) measures =
    let rest = within id g measures.1 in
    cond_within (id_in_record m == id) _ (session_of id g) (cond_within (takes END_SESSION t) [] _ tt (live_within (session_of id g) m t reply measures.0 rest)) rest
within id (Queued bytes ∷ g) measures = within id g measures.1
within id (Ticked seconds ∷ g) measures =
    let s : Events = session_of id g in
    let rest = within id g measures.1 in
    cond_within (not (is_timed s)) s _ rest (cond_within _ [] (Waited seconds ∷ s) tt rest)
within id (Dropped which ∷ g) measures = cond_within (which == id) [] (session_of id g) tt (within id g measures.1)

large_goes : (e : Effect) (w : List ℕ) → large_in e ≡ Some w → is_some (handle_in e) ≡ true
large_goes NoEffect w is = absurd (none-some w is)
large_goes (Took a m answer None) w is = absurd (none-some w is)
large_goes (Took a m answer (Some k)) w is = refl
large_goes (TookData bytes answer) w is = absurd (none-some w is)

last_measures : (ts : List Turn) (w : List ℕ) → AllMeasure ts → large_of ts ≡ Some w → last_takes GET_MEASUREMENTS ts ≡ true
last_measures [] w all large = absurd (none-some w large)
last_measures (t ∷ ts) w all large = by_passes (not (is_taken t) || takes CHUNK_GET t) refl (last_measures ts w all.1)
  where
    by_passes : (b : Bool) → (not (is_taken t) || takes CHUNK_GET t) ≡ b → (large_of ts ≡ Some w → last_takes GET_MEASUREMENTS ts ≡ true) → cond b (last_takes GET_MEASUREMENTS ts) (takes GET_MEASUREMENTS t) ≡ true
    by_passes true is rest = rest (sym (ap (λ (b : Bool). cond b (large_of ts) (large_in t.effect)) is) ∙ large)
    by_passes false is rest =
        let here : large_in t.effect ≡ Some w = sym (ap (λ (b : Bool). cond b (large_of ts) (large_in t.effect)) is) ∙ large in
        all.0 (ap (λ (b : Bool). is_unseen_effect t.effect || b) (large_goes t.effect w here) ∙ or-true (is_unseen_effect t.effect))

-- ---- A walk.

some_pending : (transfer given : ℕ) (x : Option (List ℕ)) → is_some (still_pending transfer given x) ≡ true → x ≢ None
some_pending transfer given None is none = false≢true is
some_pending transfer given (Some l) is none = none-some l (sym none)

chunked_large : (p : Place) (place : Option ℕ) (w : List ℕ) (h : History) → has_pending p ≡ true → Chunked p place w h → large_of p.turns ≡ Some w
chunked_large p place w h pending (Gone none) = absurd (some_pending (place_terms p).common.to_requester.transfer (given_of p.turns) (large_of p.turns) pending none)
chunked_large p place w h pending (Given large given parts) = large

pub pending_is_fetched : PendingIsFetched
pending_is_fetched c q older d w round walk fetching at pending other = by_stands (walk_stands c q older d w round walk fetching at)
  where
    by_stands : Stands d.responder w round.tag round.body → large_of (place_with d.responder round.body w).turns ≡ Some w
    by_stands (inl version) = absurd (other version)
    by_stands (inr fetch) = chunked_large (place_with d.responder round.body w) (place_named round.body) w d.responder pending fetch.chunked

pub pending_is_measured : PendingIsMeasured
pending_is_measured c q older d w round walk fetching at pending type =
    let h : History = d.responder in
    let id : ℕ = id_in_record (drop 1 round.body) in
    let g : History = with_large (Some id) w h in
    let here : place_with h round.body w ≡ session_place (session_of id g) =
    ap (λ (o : Option ℕ). place_for (with_large o w h) round.body) (named_session round.body type) ∙ place_type g round.body false type in
    let large : large_of (place_with h round.body w).turns ≡ Some w =
    pending_is_fetched c q older d w round walk fetching at pending (λ version. false≢true (sym type ∙ ap (λ (l : List ℕ). slice_index l 0 == 5) version)) in
    let there : large_of (turns_of (session_of id g)) ≡ Some w = ap (λ (p : Place). large_of p.turns) (sym here) ∙ large in
    record {
      large = there;
      more = ap has_pending (sym here) ∙ pending;
      measured = last_measures (turns_of (session_of id g)) w (within id g (given_measures (Some id) w h (walks_measure c q older d walk))) there;
    }
