-- In the clear a large response begins to be fetched with its first chunk: by LargeResponse, and by LargeResponse
-- again.
use Rattle.std.proofs.Common.{◌≡◌, ◌≤◌, ◌+◌, ◌==◌, ◌&&◌, ◌||◌, ℕ, List, [], ◌∷◌, refl, sym, ap, ◌∙◌, subst, drop, length, Bool, true, false, Option, Some, None, is_some, cond, inl, inr}
use Rattle.std.specs.Prelude.{not, nat_lt, slice_index}
use Rattle.std.proofs.lemmas.Bool.{false≢true, not-true}
use Rattle.negotiate.specs.declared.shared.Common.{Common}
use Rattle.spdm_grammar.specs.declared.names.request_code.TheConstants.{GET_CAPABILITIES, GET_VERSION}
use Rattle.spdm_machine.specs.Bodies.{clear_body}
use Rattle.spdm_machine.specs.Terms.{no_negotiation, terms_of}
use Rattle.requester_machine.specs.Bodies.{has_tag}
use Rattle.requester_machine.specs.History as asker
use Rattle.requester_machine.specs.History.{next_tag, outstanding}
use Rattle.requester_machine.specs.Message.{Aim, Sent}
use Rattle.requester_machine.specs.Message.Aim.{Plain, ByChunks, ForChunk, InSession}
use Rattle.requester_machine.specs.Sending.{get_sent}
use Rattle.responder_machine.specs.Handling.{turn_of}
use Rattle.responder_machine.specs.History.{Entry, History, clear_turns, kept_of}
use Rattle.responder_machine.specs.History.Entry.{Clear, Sealed, Queued, Ticked, Dropped}
use Rattle.responder_machine.specs.May.{with_dropped}
use Rattle.responder_machine.specs.Place.{Place, clear_place, inside, place_terms}
use Rattle.responder_machine.specs.Refusal.{bytes_round, sizes_are_known}
use Rattle.responder_machine.specs.Responder.{is_repeat, kept_reply, on_clear, sent_by}
use Rattle.responder_machine.specs.Responder.Outcome.{Same, Adds}
use Rattle.responder_machine.specs.Setup.{RspSetup}
use Rattle.responder_machine.specs.Turn.{Effect, Turn, handle_in, is_taken, takes}
use Rattle.responder_machine.specs.Turn.Effect.{NoEffect}
use Rattle.responder_machine.specs.Answer.{Free}
use Rattle.check_fetched_laws.proofs.GetAnswers.{deaf, heard_so}
use Rattle.check_fetched_laws.proofs.GetSteps.{Fetches, tag_next}
use Rattle.check_fetched_laws.proofs.GetSteps.Fetches.{Owes}
use Rattle.check_fetched_laws.proofs.LargeHeard.{heard_first}
use Rattle.check_fetched_laws.proofs.LargeTurns.{unseen_large}
use Rattle.check_fetched_laws.proofs.ReadyGets.{IsBegun, LargeStand, begun, common_at, common_next, ready_begins}
use Rattle.check_fetched_laws.proofs.TurnsBoth.{Settles}
use Rattle.capture_machine.proofs.AskersAlike.{AskersAlike}
use Rattle.capture_machine.proofs.AskersHear.{next_later}
use Rattle.capture_machine.proofs.DropsTell.{clear_form}
use Rattle.capture_machine.proofs.FetchBegins.{large_leaves}
use Rattle.capture_machine.proofs.GetTells.{turn_idle}
use Rattle.capture_machine.proofs.PlacesServed.{named_clear}
use Rattle.capture_machine.proofs.PlainTells.{led_clear}
use Rattle.capture_machine.proofs.UnseenStands.{UnseenStand}
use Rattle.capture_machine.specs.CapturedAnswers.{Hears, HearsWhile, MayLeadAfter, MayLeadTo}
use Rattle.capture_machine.specs.CapturedRequests.{is_later}
use Rattle.capture_machine.specs.LargeAnswers.{IsLargeAnswer, is_fetching, is_large, place_again, place_named, place_of, repeats_large, turn_with, unseen}
use Rattle.capture_machine.specs.LargeRequests.{with_ack_to, with_next_piece}
use Rattle.capture_machine.specs.Rounds.{Dialogue, Round, following_tag, no_draw}

-- ---- Chunks are in common.

chunk_by : (known more over chunk : Bool) → (known && more) ≡ true → (known && (over || (not chunk && more))) ≡ false → chunk ≡ true
chunk_by false more over chunk goes fits = absurd (false≢true goes)
chunk_by true false over chunk goes fits = absurd (false≢true goes)
chunk_by true true true chunk goes fits = absurd (false≢true (sym fits))
chunk_by true true false true goes fits = refl
chunk_by true true false false goes fits = absurd (false≢true (sym fits))

large_chunks : (p : Place) (whole : List ℕ) → IsLargeAnswer p whole → (place_terms p).common.chunk ≡ true
large_chunks p whole large =
    chunk_by (sizes_are_known p.phase) (nat_lt (place_terms p).common.to_requester.transfer (bytes_round p.at + length whole)) (nat_lt (place_terms p).common.to_requester.max (length whole)) (place_terms p).common.chunk large.0 large.1

inside_chunks : (b : Bool) (p : Place) → (place_terms (cond b (inside p) p)).common ≡ (place_terms p).common
inside_chunks true p = refl
inside_chunks false p = refl

again_chunks : (all h : History) → (place_terms (place_again None all h)).common ≡ common_at (clear_turns all)
again_chunks all [] = refl
again_chunks all (Clear tag t d ∷ h) = by_taken (is_taken t) (again_chunks all h)
  where
    by_taken : (b : Bool) → (place_terms (place_again None all h)).common ≡ common_at (clear_turns all)
        → (place_terms (cond b (cond (is_some t.chunk) (inside (clear_place all)) (clear_place all)) (place_again None all h))).common ≡ common_at (clear_turns all)
    by_taken true rest = inside_chunks (is_some t.chunk) (clear_place all)
    by_taken false rest = rest
again_chunks all (Sealed tag m t reply d ∷ h) = again_chunks all h
again_chunks all (Queued bytes ∷ h) = again_chunks all h
again_chunks all (Ticked seconds ∷ h) = again_chunks all h
again_chunks all (Dropped id ∷ h) = again_chunks all h

-- ---- What was heard.

piece_none : (whole : List ℕ) (tag : ℕ) (m : List ℕ) (h : asker.History) (aim : Aim) → is_fetching (outstanding (with_next_piece whole tag m h aim)) ≡ true → is_fetching (outstanding h) ≡ true
piece_none whole tag m h (ByChunks a handle number) gets = absurd (false≢true gets)
piece_none whole tag m h (Plain a) gets = gets
piece_none whole tag m h (ForChunk a handle number before) gets = gets
piece_none whole tag m h (InSession id ask) gets = gets

ack_none : (whole : List ℕ) (tag : ℕ) (m : List ℕ) (h : asker.History) (b : Bool) → is_fetching (outstanding (cond b (with_ack_to whole tag m h (outstanding h)) h)) ≡ true → is_fetching (outstanding h) ≡ true
ack_none whole tag m h false gets = gets
ack_none whole tag m h true gets = by_waits (outstanding h) gets
  where
    by_waits : (o : Option Sent) → is_fetching (outstanding (with_ack_to whole tag m h o)) ≡ true → is_fetching (outstanding h) ≡ true
    by_waits None here = here
    by_waits (Some s) here = piece_none whole tag m h s.aim here

-- A chunk is asked for on an answer where none was, while no large request is sent.
none_sent : (d : Dialogue) (tag : ℕ) (answer : List ℕ) (g : asker.History) → is_fetching (outstanding d.requester) ≡ false → is_fetching (outstanding g) ≡ true → Hears d tag answer g → d.sending ≡ None
unfolding Hears
none_sent d tag answer g none goes heard = by_sending d.sending heard
  where
    by_sending : (o : Option (List ℕ)) → HearsWhile o d tag answer g → o ≡ None
    by_sending None x = refl
    by_sending (Some w) x =
        absurd (false≢true (sym none ∙ ack_none w tag (drop 1 answer) d.requester (has_tag (outstanding d.requester) tag) (sym (ap (λ (l : asker.History). is_fetching (outstanding l)) x) ∙ goes)))

module _ (d : Dialogue) (rd : Round) (at : d.round ≡ Some rd) (askers : AskersAlike d.round d.requester d.requester d.sending d.sending) (none : is_fetching (outstanding d.requester) ≡ false)
    (whole answer : List ℕ) (g : asker.History) (hear : Hears d rd.tag answer g) (goes : is_fetching (outstanding g) ≡ true) where
  alone : d.sending ≡ None
  alone = none_sent d rd.tag answer g none goes hear

  stays_not : g ≡ d.requester → ⊥
  stays_not same = false≢true (sym none ∙ ap (λ (l : asker.History). is_fetching (outstanding l)) (sym same) ∙ goes)

  -- Nothing is owed.
  rests : is_later (Some rd) (outstanding d.requester) ≡ false
  rests = by_waits (outstanding d.requester) refl
    where
      by_later : (s : Sent) → outstanding d.requester ≡ Some s → (b : Bool) → not (s.tag == rd.tag) ≡ b → b ≡ false
      by_later s waits false later = refl
      by_later s waits true later = absurd (stays_not (deaf d rd.tag answer g s alone waits (not-true (s.tag == rd.tag) later) hear))

      by_waits : (o : Option Sent) → outstanding d.requester ≡ o → is_later (Some rd) o ≡ false
      by_waits None waits = refl
      by_waits (Some s) waits = by_later s waits (not (s.tag == rd.tag)) refl

  begins : (next : History) → UnseenStand next → Settles next → LargeStand next → repeats_large None next ≡ true → is_repeat (kept_of next) rd.tag (drop 1 rd.body) ≡ true → answer ≡ clear_body (kept_reply (kept_of next))
      → (common_at (clear_turns next)).chunk ≡ true → length whole ≤ 4096 → Fetches g next whole rd
  begins next unseen_stand settles large last again is chunks short = elim (heard_so d rd.tag answer g alone hear) [
    | inr same ↦ absurd (stays_not same)
    | inl takes ↦
        let b : IsBegun next whole = begun whole next unseen_stand large last in
        let ready = ready_begins next whole settles b short chunks in
        let heard = heard_first d.setup d.requester takes.1 rd.tag answer takes.0 takes.2 (ap (λ (l : List ℕ). slice_index l 0 == 5) is) b.carried b.handle none (ap (drop 1) is ∙ b.reply)
        (sym (ap (λ (l : asker.History). is_fetching (outstanding l)) takes.3) ∙ goes) in
        let s : Sent = get_sent d.requester heard.0 b.handle 0 [] in
        let tag : next_tag d.requester ≡ following_tag (Some rd) =
        tag_next d.round d.requester d.requester d.sending d.sending askers alone (ap (λ (o : Option Round). is_later o (outstanding d.requester)) at ∙ rests) ∙ ap following_tag at in
        subst (λ (l : asker.History). Fetches l next whole rd) (sym takes.3)
        (Owes b.handle 0 (record { sent = s; asked = heard.0; before = []; waits = heard.1; aims = refl }) (next_later rd s tag) again ready)
  ]

  -- ---- LargeResponse.

  module _ (r : RspSetup) (type : (slice_index rd.body 0 == 5) ≡ true) where
    taken_large : (t : Turn) → is_some (handle_in t.effect) ≡ true → (is_taken t ≡ false → t.effect ≡ NoEffect) → is_taken t ≡ true
    taken_large t large idle = by_taken (is_taken t) refl
      where
        by_taken : (b : Bool) → is_taken t ≡ b → b ≡ true
        by_taken true is = refl
        by_taken false is = absurd (false≢true (sym (ap (λ (x : Effect). is_some (handle_in x)) (idle is)) ∙ large))

    pub large_begins : (dropped : List ℕ) (e : Entry) (next : History) → UnseenStand next → Settles next → LargeStand next → MayLeadAfter r d.responder dropped rd.tag rd.body (Adds e) → is_large e ≡ true
        → IsLargeAnswer (place_of d.responder e) whole → sent_by e ≡ answer → next ≡ unseen e ∷ d.responder → Fetches g next whole rd
    large_begins dropped e next unseen_stand settles stand may large fits sent is =
        let h : History = with_dropped d.responder dropped in
        let leaves = large_leaves r h rd.tag rd.body e may.1 large in
        let led = led_clear r h rd.tag rd.body (Adds e) type may.1 in
        elim (clear_form r h rd.tag (drop 1 rd.body) led.free (Adds e) led.leads) [
          | inl same ↦ absurd (let x = same.1 in cc)
          | inr adds ↦
              let t : Turn = turn_of r (clear_place h) (drop 1 rd.body) led.free in
              let same : Clear rd.tag t no_draw ≡ e = cc (sym adds) in
              let big : is_some (handle_in t.effect) ≡ true = ap is_large same ∙ large in
              let taken = taken_large t big (turn_idle r (clear_place h) (drop 1 rd.body) led.free) in
              let now : Entry = unseen (Clear rd.tag t no_draw) in
              let here : next ≡ now ∷ d.responder = is ∙ ap (λ (x : Entry). unseen x ∷ d.responder) (sym same) in
              let un = unseen_large t.effect big in
              let caps : takes GET_CAPABILITIES (turn_with [] None t) ≡ false = (subst Settles here settles).0 un in
              let version : takes GET_VERSION (turn_with [] None t) ≡ false = ((subst LargeStand here stand).0 un).sends.version in
              let before : (common_at (clear_turns d.responder)).chunk ≡ true =
              ap (λ (c : Common). c.chunk) (sym (inside_chunks (is_some t.chunk) (clear_place d.responder))) ∙ large_chunks (place_of d.responder (Clear rd.tag t no_draw)) whole (subst (λ (x : Entry). IsLargeAnswer (place_of d.responder x) whole) (sym same) fits) in
              let chunks : (common_at (clear_turns (now ∷ d.responder))).chunk ≡ true =
              ap (λ (c : Common). c.chunk) (common_next (turn_with [] None t) (clear_turns d.responder) caps ∙ ap (λ (b : Bool). cond b (terms_of no_negotiation).common (common_at (clear_turns d.responder))) version) ∙ before in
              let reply : answer ≡ clear_body (kept_reply (kept_of (now ∷ d.responder))) =
              sym sent ∙ ap sent_by (sym same) ∙ ap (λ (b : Bool). clear_body (kept_reply (cond b (Some (record { tag = rd.tag; message = t.message; reply = t.reply })) (kept_of d.responder)))) (sym taken) in
              let back : unseen e ∷ d.responder ≡ now ∷ d.responder = ap (λ (x : Entry). unseen x ∷ d.responder) (sym same) in
              let last : repeats_large None (now ∷ d.responder) ≡ true =
              ap (λ (l : History). repeats_large None l) (sym back) ∙ ap (λ (o : Option ℕ). repeats_large o (unseen e ∷ d.responder)) (sym (named_clear rd.body type)) ∙ leaves.last d.responder in
              let again : is_repeat (kept_of (now ∷ d.responder)) rd.tag (drop 1 rd.body) ≡ true = ap (λ (l : History). is_repeat (kept_of l) rd.tag (drop 1 rd.body)) (sym back) ∙ leaves.again d.responder type in
              subst (λ (l : History). Fetches g l whole rd) (sym here)
              (begins (now ∷ d.responder) (subst UnseenStand here unseen_stand) (subst Settles here settles) (subst LargeStand here stand) last again reply chunks fits.2)
        ]

    -- ---- LargeResponse again.

    same_by : (b : Bool) (x y : List ℕ) (e : Entry) → cond b (Same x) (Adds e) ≡ Same y → (b ≡ true) × (x ≡ y)
    same_by true x y e is = (refl, (cc))
    same_by false x y e is = absurd (cc)

    repeat_is : (f : Free) → on_clear r d.responder rd.tag (drop 1 rd.body) f no_draw ≡ Same answer → (is_repeat (kept_of d.responder) rd.tag (drop 1 rd.body) ≡ true) × (clear_body (kept_reply (kept_of d.responder)) ≡ answer)
    unfolding on_clear
    repeat_is f is = same_by (is_repeat (kept_of d.responder) rd.tag (drop 1 rd.body)) (clear_body (kept_reply (kept_of d.responder))) answer (Clear rd.tag (turn_of r (clear_place d.responder) (drop 1 rd.body) f) no_draw) is

    pub again_begins : (next : History) → UnseenStand next → Settles next → LargeStand next → MayLeadTo r d.responder rd.tag rd.body (Same answer) → repeats_large (place_named rd.body) d.responder ≡ true
        → IsLargeAnswer (place_again (place_named rd.body) d.responder d.responder) whole → next ≡ d.responder → Fetches g next whole rd
    again_begins next unseen_stand settles stand may last fits is =
        let named = named_clear rd.body type in
        let led = led_clear r d.responder rd.tag rd.body (Same answer) type may in
        let known = repeat_is led.free led.leads in
        let here : IsLargeAnswer (place_again None d.responder d.responder) whole = subst (λ (o : Option ℕ). IsLargeAnswer (place_again o d.responder d.responder) whole) named fits in
        let chunks : (common_at (clear_turns d.responder)).chunk ≡ true = ap (λ (c : Common). c.chunk) (sym (again_chunks d.responder d.responder)) ∙ large_chunks (place_again None d.responder d.responder) whole here in
        subst (λ (l : History). Fetches g l whole rd) (sym is)
        (begins d.responder (subst UnseenStand is unseen_stand) (subst Settles is settles) (subst LargeStand is stand) (ap (λ (o : Option ℕ). repeats_large o d.responder) (sym named) ∙ last) known.0 (sym known.1) chunks here.2)
