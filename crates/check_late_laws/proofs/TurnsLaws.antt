-- What is kept after another LargeResponse, in response to which the requester asks for a chunk.
use Rattle.std.proofs.Common.{◌≡◌, ◌<◌, ◌+◌, ◌==◌, ◌&&◌, ◌||◌, ℕ, List, ◌∷◌, refl, sym, ap, ◌∙◌, subst, drop, length, Bool, true, false, Option, Some, Ok, inl, inr, cond, is_some}
use Rattle.std.specs.Prelude.{not, nat_lt, slice_index}
use Rattle.std.proofs.lemmas.Option.{none-some, same_Some}
use Rattle.mctp_framing.specs.Gathering.{Gathered}
use Rattle.mctp_framing.specs.Gathering.Gathered.{Whole, More, Dropped as Lost}
use Rattle.mctp_framing.specs.Packet.{PacketFields, parsed}
use Rattle.negotiate.specs.declared.shared.Common.{Common}
use Rattle.requester_machine.specs.History as requester_history
use Rattle.requester_machine.specs.History.{outstanding}
use Rattle.requester_machine.specs.Setup.{ReqSetup}
use Rattle.responder_machine.specs.History.{Entry, History, clear_turns}
use Rattle.responder_machine.specs.History.Entry.{Clear, Sealed, Queued, Ticked, Dropped}
use Rattle.responder_machine.specs.Handling.{goes_large}
use Rattle.responder_machine.specs.May.{with_dropped}
use Rattle.responder_machine.specs.Place.{Place, Where, clear_place, inside, place_terms, session_place}
use Rattle.spdm_machine.specs.Keys.{Draw}
use Rattle.responder_machine.specs.Refusal.{bytes_round, is_answer_too_long, sizes_are_known}
use Rattle.responder_machine.specs.Responder.Outcome.{Adds}
use Rattle.responder_machine.specs.Session.{id_in_record, session_of}
use Rattle.responder_machine.specs.Setup.{RspSetup, towards}
use Rattle.responder_machine.specs.Turn.{Turn}
use Rattle.spdm_grammar.specs.declared.told.phase.Phase.{Phase}
use Rattle.spdm_machine.specs.Packets.{gathered_from}
use Rattle.spdm_machine.specs.Terms.{terms_of}
use Rattle.transcript.specs.Transcripts.{Negotiation}
use Rattle.check_laws.proofs.AnsweredOn.{answers_on}
use Rattle.check_laws.proofs.OneWalk.{walks_alike}
use Rattle.check_laws.specs.Order.{is_answer}
use Rattle.check_laws.specs.Walks.{Walks}
use Rattle.capture_machine.proofs.DropsTell.{clear_form}
use Rattle.capture_machine.proofs.EventsAlike.{negotiation_alike}
use Rattle.capture_machine.proofs.FetchStates.{asking}
use Rattle.capture_machine.proofs.FetchedAnswers.{large_fetched}
use Rattle.capture_machine.proofs.FetchedSessions.{InSession, sessions_fetched}
use Rattle.capture_machine.proofs.Fetching.{IsSound, while_parts}
use Rattle.capture_machine.proofs.PlacesServed.{named_clear, named_session}
use Rattle.capture_machine.proofs.PlainTells.{led_clear}
use Rattle.capture_machine.proofs.UnseenStands.{UnseenStand}
use Rattle.capture_machine.proofs.WalksAlike.{kept}
use Rattle.capture_machine.specs.Capture.{Replies, RepliesBy}
use Rattle.capture_machine.specs.CapturedAnswers.{Answers, Hears, MayLeadTo}
use Rattle.capture_machine.specs.LargeAnswers.{IsLargeAnswer, is_fetching, place_named, place_of, unseen, with_large}
use Rattle.capture_machine.specs.Rounds.{Dialogue, Round}
use Rattle.world_machine.specs.Setup.{Configuration, known_of}
use Rattle.check_late_laws.specs.Fetching.{Fetching, IsFetchingOf, MayStand, dialogue_of, number_of}
use Rattle.check_late_laws.specs.FetchingLaws.{AnswersFrom, FetchingTurns, TurnsFetching, kept_behind, place_in}
use Rattle.check_late_laws.proofs.Asked.{fetched_walk}
use Rattle.check_late_laws.proofs.Begun.{any_large, place_unseen, some_large}
use Rattle.check_late_laws.proofs.BegunWalks.{behind, begun_keeps, both_fetched, replies_so, stands, answers_largely}
use Rattle.check_late_laws.proofs.GoesLaws.{FetchesOn, fetches_on, hears_same}
use Rattle.check_late_laws.proofs.NoCaps.{NoCaps, walks_caps}
use Rattle.check_late_laws.proofs.Packets.{came_replied}
use Rattle.check_late_laws.proofs.PlainWithin.{turns_same}
use Rattle.check_late_laws.proofs.TurnsBeside.{Turns, clear_beside, common_beside, phase_beside, same_turns}

-- ---- Sizes.

-- Whether a length is sent in chunks depends on the phase, on what both ends can do, and on where it is.
fits_moved : (p o : Place) (u : List ℕ) → p.phase ≡ o.phase → (place_terms p).common ≡ (place_terms o).common → p.at ≡ o.at → IsLargeAnswer p u → IsLargeAnswer o u
fits_moved p o u phase common at fits =
    let large : Phase → Common → Where → Bool = λ x c a. sizes_are_known x && nat_lt c.to_requester.transfer (bytes_round a + length u) in
    let long : Phase → Common → Where → Bool = λ x c a. sizes_are_known x && (nat_lt c.to_requester.max (length u) || (not c.chunk && nat_lt c.to_requester.transfer (bytes_round a + length u))) in
    let one : goes_large o u ≡ goes_large p u = sym (ap (λ (x : Phase). large x (place_terms p).common p.at) phase ∙ ap (λ (c : Common). large o.phase c p.at) common ∙ ap (large o.phase (place_terms o).common) at) in
    let two : is_answer_too_long o u ≡ is_answer_too_long p u = sym (ap (λ (x : Phase). long x (place_terms p).common p.at) phase ∙ ap (λ (c : Common). long o.phase c p.at) common ∙ ap (long o.phase (place_terms o).common) at) in
    (one ∙ fits.0, two ∙ fits.1, fits.2)

clear_fits : (g k : History) (b : Bool) (u : List ℕ) → Turns (clear_turns g) (clear_turns k) → IsLargeAnswer (cond b (inside (clear_place g)) (clear_place g)) u → IsLargeAnswer (cond b (inside (clear_place k)) (clear_place k)) u
clear_fits g k true u turns fits = fits_moved (inside (clear_place g)) (inside (clear_place k)) u (phase_beside (clear_turns g) (clear_turns k) turns) (common_beside (clear_turns g) (clear_turns k) turns) refl fits
clear_fits g k false u turns fits = fits_moved (clear_place g) (clear_place k) u (phase_beside (clear_turns g) (clear_turns k) turns) (common_beside (clear_turns g) (clear_turns k) turns) refl fits

-- What a request comes to is one of its place.
module _ (r : RspSetup) (h : History) (v w : List ℕ) (tag : ℕ) (body : List ℕ) (stand : UnseenStand h) (caps : NoCaps h) where
  abbrev g : History
  g = with_large (place_named body) v h

  abbrev k : History
  k = with_large (place_named body) w h

  turns_by : (b : Bool) → (slice_index body 0 == 5) ≡ b → Turns (clear_turns g) (clear_turns k)
  turns_by true type = subst (λ (x : Option ℕ). Turns (clear_turns (with_large x v h)) (clear_turns (with_large x w h))) (sym (named_clear body type)) (clear_beside v w h caps)
  turns_by false type = subst (Turns (clear_turns g)) (turns_same (place_named body) (id_in_record (drop 1 body)) v w h (named_session body type)) (same_turns (clear_turns g))

  sealed_fits : (b : Bool) → (slice_index body 0 == 5) ≡ b → (ids : List ℕ) (t : ℕ) (sealed : List ℕ) (turn : Turn) (reply : List ℕ) (d : Draw) (u : List ℕ) → MayLeadTo r (with_dropped g ids) tag body (Adds (Sealed t sealed turn reply d))
      → IsLargeAnswer (session_place (session_of (id_in_record sealed) g)) u → IsLargeAnswer (session_place (session_of (id_in_record sealed) k)) u
  sealed_fits true type ids t sealed turn reply d u may fits =
      let led = led_clear r (with_dropped g ids) tag body (Adds (Sealed t sealed turn reply d)) type may in
      elim (clear_form r (with_dropped g ids) tag (drop 1 body) led.free (Adds (Sealed t sealed turn reply d)) led.leads) [
        | inl same ↦ absurd (let x = same.1 in cc)
        | inr adds ↦ absurd (let x = adds in cc)
      ]
  sealed_fits false type ids t sealed turn reply d u may fits =
      let within : InSession (place_named body) h = record { id = id_in_record (drop 1 body); at = named_session body type; stand = stand } in
      let a = sessions_fetched (id_in_record sealed) (place_named body) v w h within in
      fits_moved (session_place (session_of (id_in_record sealed) g)) (session_place (session_of (id_in_record sealed) k)) u refl
      (ap (λ (n : Negotiation). (terms_of n).common) (negotiation_alike (session_of (id_in_record sealed) g) (session_of (id_in_record sealed) k) a)) refl fits

  pub entry_fits : (ids : List ℕ) (e : Entry) (u : List ℕ) → MayLeadTo r (with_dropped g ids) tag body (Adds e) → IsLargeAnswer (place_of g e) u → IsLargeAnswer (place_of k e) u
  entry_fits ids (Clear t turn d) u may fits = clear_fits g k (is_some turn.chunk) u (turns_by (slice_index body 0 == 5) refl) fits
  entry_fits ids (Sealed t sealed turn reply d) u may fits = sealed_fits (slice_index body 0 == 5) refl ids t sealed turn reply d u may fits
  entry_fits ids (Queued bytes) u may fits = clear_fits g k false u (turns_by (slice_index body 0 == 5) refl) fits
  entry_fits ids (Ticked seconds) u may fits = clear_fits g k false u (turns_by (slice_index body 0 == 5) refl) fits
  entry_fits ids (Dropped id) u may fits = clear_fits g k false u (turns_by (slice_index body 0 == 5) refl) fits

-- ---- Behind the answer.

module _ (w : Configuration) (q : ReqSetup) (older : List (List ℕ)) (packet : List ℕ) (p : PacketFields) (parses : parsed packet ≡ Ok p) (is : is_answer w.responder.eid q.eid p ≡ true) (f : Fetching) (own : IsFetchingOf w q older f) (tag : ℕ) (round : Round) (answer : List ℕ) (v : List ℕ) (h : History) (place : Place) (l : requester_history.History) (stand : MayStand f v) (at : f.kept.round ≡ Some round) (tagged : round.tag ≡ tag) (waits : 0 < round.waiting) (from : AnswersFrom (towards w.responder (known_of f.kept.setup)) (dialogue_of f v) round answer h place) (hears : Hears (dialogue_of f v) tag answer l) (gets : is_fetching (outstanding l) ≡ true) (made : (n : Dialogue) → Replies w (dialogue_of f v) tag answer n → RepliesBy w (dialogue_of f v) (gathered_from q.eid w.responder.eid older p) n) where
  abbrev r : RspSetup
  r = towards w.responder (known_of f.kept.setup)

  abbrev base : History
  base = f.kept.responder

  abbrev next : Fetching
  next = record { kept = kept_behind f.kept round l h; at = place_named round.body; place = place }

  sound_of : (u : List ℕ) → MayStand f u → IsSound (dialogue_of f u)
  sound_of u may = (walks_alike w q older (dialogue_of f u) (dialogue_of f u) (own.all u may) (own.all u may)).one

  on_of : (u : List ℕ) → MayStand f u → FetchesOn (dialogue_of f u) u round
  on_of u may = fetches_on (dialogue_of f u) u round tag answer l (sound_of u may) refl at (hears_same f v u tag answer l hears) gets

  some : (u : List ℕ) × IsLargeAnswer place u
  some = some_large r (dialogue_of f v) round answer h place from

  replied_with : RepliesBy w (dialogue_of f v) (gathered_from q.eid w.responder.eid older p) (behind (dialogue_of f v) round l h some.0)
  replied_with = made (behind (dialogue_of f v) round l h some.0) (replies_so w (dialogue_of f v) tag round answer l h some.0 at tagged waits (answers_largely r (dialogue_of f v) round answer h some.0 (any_large r (dialogue_of f v) round answer h place some.0 from some.1)) hears gets)

  stands_so : (u : List ℕ) → IsLargeAnswer place u → MayStand next u
  stands_so = stands w q older packet p parses is (dialogue_of f v) (own.all v stand) refl tag round answer h place l made at tagged waits from hears gets

  -- In another walk it is LargeResponse too, by the same sizes.
  same_fits : (u : List ℕ) → MayStand f u → (x : History) (fetching : Option (List ℕ)) (y : List ℕ) → AnswersFrom r (dialogue_of f v) round answer h place → Answers r (dialogue_of f u) round answer x fetching → fetching ≡ Some y → h ≡ x → IsLargeAnswer place y
  unfolding Answers
  same_fits u may x fetching y (inr ((z, again), sized)) answers is_y same = absurd (none-some v (sym again.0))
  same_fits u may x fetching y (inl ((z, c), sized)) (inl (plain, other)) is_y same =
      absurd (large_fetched r base (place_named round.body) u v round.tag round.body plain.0 c.0 plain.1 c.1 (asking base round.tag round.body (on_of v stand).fetch.how) plain.2 c.2 plain.3 plain.4 c.3 (plain.5 ∙ sym c.5))
  same_fits u may x fetching y (inl ((z, c), sized)) (inr (inl (y2, d, is_2))) is_y same =
      let one : unseen c.1 ∷ base ≡ unseen d.1 ∷ base = sym c.6 ∙ same ∙ d.6 in
      let fits : IsLargeAnswer (place_of (with_large (place_named round.body) u base) d.1) y = subst (IsLargeAnswer (place_of (with_large (place_named round.body) u base) d.1)) (same_Some y2 y (sym is_2 ∙ is_y)) d.4 in
      let here = entry_fits r base u v round.tag round.body (sound_of v stand).unseen (walks_caps w q older (dialogue_of f v) (own.all v stand)) d.0 d.1 y d.2.1 fits in
      let to : place ≡ place_of (with_large (place_named round.body) v base) d.1 = sized ∙ ap (place_in (with_large (place_named round.body) v base)) (same ∙ d.6) ∙ place_unseen (with_large (place_named round.body) v base) d.1 in
      subst (λ (o : Place). IsLargeAnswer o y) (sym to) here
  same_fits u may x fetching y (inl ((z, c), sized)) (inr (inr (inl (y2, again, is_2)))) is_y same = absurd (none-some u (sym again.0))
  same_fits u may x fetching y (inl ((z, c), sized)) (inr (inr (inr (last, none)))) is_y same = absurd (none-some y (sym none ∙ is_y))

  each_turned : (x : Dialogue) → Walks w q (packet ∷ older) x → (b : Dialogue) → Walks w q older b → (c : Replies w b tag answer x) → RepliesBy w b (gathered_from q.eid w.responder.eid older p) x → (u : List ℕ) × MayStand next u × (x.fetching ≡ Some u)
  each_turned x over b walk c replies =
      let fw = fetched_walk w q older f b own walk in
      let both = walks_alike w q older (dialogue_of f v) b (own.all v stand) walk in
      let after = ((kept w).replies (dialogue_of f v) b (gathered_from q.eid w.responder.eid older p) (behind (dialogue_of f v) round l h some.0) x both replied_with replies).alike in
      let other = both_fetched (Some some.0) x.fetching some.0 after.fetches refl in
      let parts = while_parts (is_fetching (outstanding c.4.3.0)) c.4.1 other.0 (ap (λ (y : Dialogue). y.fetching) (sym c.4.3.2) ∙ other.1) in
      let rounds : c.0 ≡ round = same_Some c.0 round (sym c.1 ∙ sym both.alike.round ∙ at) in
      let R : ReqSetup → Type 0 = λ s. Answers (towards w.responder (known_of s)) b c.0 answer c.4.0 c.4.1 in
      let A : Round → Type 0 = λ y. Answers r (dialogue_of f fw.whole) y answer c.4.0 c.4.1 in
      let moved = subst A rounds (answers_on r b (dialogue_of f fw.whole) c.0 answer c.4.0 c.4.1 (sym both.alike.responder) fw.fetches (subst R (sym both.alike.setup) c.4.2)) in
      (other.0, stands_so other.0 (same_fits fw.whole fw.stands c.4.0 c.4.1 other.0 from moved parts.1 (after.responder ∙ ap (λ (y : Dialogue). y.responder) c.4.3.2)), other.1)

  pub turns_keeps : ((x : Dialogue) → Walks w q (packet ∷ older) x → (b : Dialogue) × Walks w q older b × Replies w b tag answer x × RepliesBy w b (gathered_from q.eid w.responder.eid older p) x) → IsFetchingOf w q (packet ∷ older) next × (number_of next ≡ 0)
  turns_keeps come =
      begun_keeps w q older packet p parses is (dialogue_of f v) (own.all v stand) refl tag round answer h place l made at tagged waits from hears gets
      (λ x over. (let c = come x over in each_turned x over c.0 c.1 c.2 c.3))

pub fetching_turns : FetchingTurns
fetching_turns w q older packet p f after parses not_request is own c = by_gathered (gathered_from q.eid w.responder.eid older p) refl c
  where
    by_gathered : (y : Gathered) → gathered_from q.eid w.responder.eid older p ≡ y → TurnsFetching w f y after → IsFetchingOf w q (packet ∷ older) after × (number_of after ≡ 0)
    by_gathered (Whole route answer) g (body_is, owner, (round, (at, tagged, waits), (v, h, place, stand, from, (l, hears, gets, made)))) =
        subst (λ (x : Fetching). IsFetchingOf w q (packet ∷ older) x × (number_of x ≡ 0)) (sym made)
        (turns_keeps w q older packet p parses is f own route.tag round answer v h place l stand at tagged waits from hears gets
        (λ n one. subst (λ (y : Gathered). RepliesBy w (dialogue_of f v) y n) (sym g) (body_is, owner, one))
        (λ x over. (let came = came_replied w q older packet p parses is x over in (came.0, came.1, (subst (λ (y : Gathered). RepliesBy w came.0 y x) g came.2).2, came.2))))
    by_gathered More g c = absurd c
    by_gathered (Lost cause) g c = absurd c
