-- An answer that gives a chunk of a large response shows it.
use Rattle.std.proofs.Common.{◌≡◌, ◌≤◌, ◌==◌, ℕ, List, [], ◌∷◌, refl, sym, ap, ◌∙◌, subst, drop, length, Bool, true, false, Option, Some, None, is_some, cond, inl, inr}
use Rattle.std.specs.Prelude.{MatchBool, slice_index}
use Rattle.std.proofs.lemmas.Bool.{false≢true}
use Rattle.std.proofs.lemmas.Option.{none-some, same_Some}
use Rattle.chunking.specs.Cutting.{nth_chunk}
use Rattle.secured_record.specs.Format.{plain_text}
use Rattle.spdm_basis.proofs.Bools.{and_first}
use Rattle.spdm_grammar.specs.Message.{RequestMessage}
use Rattle.spdm_grammar.specs.Message.RequestMessage.{ChunkGet}
use Rattle.spdm_grammar.specs.Message.ResponseMessage.{ChunkResponse}
use Rattle.spdm_grammar.specs.Responses.{canonical_response}
use Rattle.spdm_grammar.specs.declared.messages.error_code.ErrorCode.{ErrorCode}
use Rattle.spdm_grammar.specs.declared.names.request_code.TheConstants.{CHUNK_GET}
use Rattle.spdm_machine.specs.Bodies.{clear_body}
use Rattle.responder_machine.specs.Answer.{Free, answer_bytes, request_at}
use Rattle.responder_machine.specs.Handling.{chunk_in, effect_of, goes_large, large_response, plain_turn, turn_by, turn_of}
use Rattle.responder_machine.specs.History.{Entry, History}
use Rattle.responder_machine.specs.History.Entry.{Clear, Dropped}
use Rattle.responder_machine.specs.LargeMessages.{given_of}
use Rattle.responder_machine.specs.May.{place_for, with_dropped}
use Rattle.responder_machine.specs.Place.{Place, clear_place, place_terms, session_place}
use Rattle.responder_machine.specs.Records.{opened}
use Rattle.responder_machine.specs.Refusal.{refusal}
use Rattle.responder_machine.specs.Responder.{Outcome, body_of, data_turn, inner_refusal, inner_reply, on_clear, on_record, sent_by, session_turn, session_turn_by}
use Rattle.responder_machine.specs.Responder.Outcome.{Same, Unopened, Adds}
use Rattle.responder_machine.specs.Session.{Events, id_in_record, session_of, stage_of}
use Rattle.responder_machine.specs.Setup.{RspSetup, towards}
use Rattle.responder_machine.specs.Turn.{Effect, Turn, answer_in, handle_in, is_data, takes}
use Rattle.responder_machine.specs.Turn.Effect.{NoEffect, Took, TookData}
use Rattle.check_laws.proofs.SessionShown.{text_is, updates_alike}
use Rattle.check_laws.specs.AnswersShown.{answered_text}
use Rattle.check_fetched_laws.proofs.ClearAlike.{Reading, reading}
use Rattle.check_fetched_laws.proofs.ClearAlike.Reading.{Again, Anew}
use Rattle.check_fetched_laws.proofs.WalksSound.{walk_stands}
use Rattle.check_fetched_laws.specs.AlikeAnswers.{ChunkIsShown, LastShowsChunk, ShowsChunk, chunk_given, gives_chunk}
use Rattle.capture_machine.proofs.ChunksGiven.{Chunked}
use Rattle.capture_machine.proofs.ChunksGiven.Chunked.{Gone, Given}
use Rattle.capture_machine.proofs.DropsTell.{clear_form, record_shown}
use Rattle.capture_machine.proofs.FetchStates.{Fetch}
use Rattle.capture_machine.proofs.FetchedAnswers.{again_none, always_none}
use Rattle.capture_machine.proofs.FetchedTold.{Stands, version_apart}
use Rattle.capture_machine.proofs.GetTells.{IsGet, session_get, turn_get}
use Rattle.capture_machine.proofs.PlacesServed.{place_type}
use Rattle.capture_machine.proofs.PlainTells.{form_of, led_clear, led_record}
use Rattle.capture_machine.proofs.RecordAdds.{record_added}
use Rattle.capture_machine.proofs.SmallGets.{gets_are_small}
use Rattle.capture_machine.specs.CapturedAnswers.{AreShown, MayLeadAfter, MayLeadTo}
use Rattle.capture_machine.specs.LargeAnswers.{is_large, judging, place_named, takes_get, with_large}
use Rattle.capture_machine.specs.Opening.{any_free, turn_in}
use Rattle.capture_machine.specs.Rounds.{no_draw}
use Rattle.world_machine.specs.Setup.{known_of}

-- ---- A turn of CHUNK_GET sends its answer.

sends_answer : (asked : RequestMessage) (m answer : List ℕ) (n : ℕ) (b : Bool) → is_some (handle_in (effect_of (Some asked) m answer (cond b (Some n) None))) ≡ false → cond b (large_response n) answer ≡ answer
sends_answer asked m answer n true small = absurd (false≢true (sym small))
sends_answer asked m answer n false small = refl

module _ (r : RspSetup) (p : Place) (m : List ℕ) (f : Free) where
  -- It is small, so it goes whole.
  abbrev SendsWhole : Turn → Type 0
  SendsWhole t = takes CHUNK_GET t ≡ true → is_some (handle_in t.effect) ≡ false → t.reply ≡ answer_in t.effect

  plain_sends : (q : Option RequestMessage) → request_at p m ≡ q → SendsWhole (plain_turn r p m f)
  plain_sends None is = λ gets small. absurd (false≢true (sym (ap (λ (q : Option RequestMessage). takes CHUNK_GET (record (plain_turn r p m f) { effect = effect_of q m (answer_bytes r p m f) (cond (goes_large p (answer_bytes r p m f)) (Some f.handle) None) })) is) ∙ gets))
  plain_sends (Some asked) is = λ gets small.
      let b : Bool = goes_large p (answer_bytes r p m f) in
      let answer : List ℕ = answer_bytes r p m f in
      sends_answer asked m answer f.handle b (sym (ap (λ (q : Option RequestMessage). is_some (handle_in (effect_of q m answer (cond b (Some f.handle) None)))) is) ∙ small)
      ∙ sym (ap (λ (q : Option RequestMessage). answer_in (effect_of q m answer (cond b (Some f.handle) None))) is)

  by_refusal : (x : Option ErrorCode) → SendsWhole (turn_by r p m f x None)
  by_refusal (Some e) = λ gets small. absurd (false≢true gets)
  by_refusal None = plain_sends (request_at p m) refl

  turn_sends : (handle number : ℕ) → request_at p m ≡ Some (ChunkGet handle number) → SendsWhole (turn_of r p m f)
  unfolding turn_of
  turn_sends handle number is = subst (λ (q : Option RequestMessage). SendsWhole (turn_by r p m f (refusal r p m f) (chunk_in q))) (sym is) (by_refusal (refusal r p m f))

session_sends_by : (r : RspSetup) (s : Events) (inner : List ℕ) (f : Free) (handle number : ℕ) (x : Option ErrorCode) → request_at (session_place s) (drop 1 inner) ≡ Some (ChunkGet handle number)
    → takes CHUNK_GET (session_turn_by r s inner f x) ≡ true → is_some (handle_in (session_turn_by r s inner f x).effect) ≡ false → (session_turn_by r s inner f x).reply ≡ answer_in (session_turn_by r s inner f x).effect
session_sends_by r s inner f handle number (Some e) is gets small = absurd (false≢true gets)
session_sends_by r s inner f handle number None is gets small = by_type (slice_index inner 0 == 5) gets small
  where
    by_type : (b : Bool) → let t = cond b (turn_of r (session_place s) (drop 1 inner) f) (data_turn f (drop 1 inner)) in takes CHUNK_GET t ≡ true → is_some (handle_in t.effect) ≡ false → t.reply ≡ answer_in t.effect
    by_type true gets small = turn_sends r (session_place s) (drop 1 inner) f handle number is gets small
    by_type false gets small = absurd (false≢true gets)

pub session_sends : (r : RspSetup) (s : Events) (inner : List ℕ) (f : Free) (handle number : ℕ) → request_at (session_place s) (drop 1 inner) ≡ Some (ChunkGet handle number)
    → takes CHUNK_GET (session_turn r s inner f) ≡ true → is_some (handle_in (session_turn r s inner f).effect) ≡ false → (session_turn r s inner f).reply ≡ answer_in (session_turn r s inner f).effect
unfolding session_turn
session_sends r s inner f handle number is gets small = session_sends_by r s inner f handle number (inner_refusal (stage_of s) inner) is gets small

pub get_no_data : (x : Effect) → takes CHUNK_GET (record { message = []; refused = None; chunk = None; effect = x; reply = [] }) ≡ true → is_data x ≡ false
get_no_data NoEffect gets = refl
get_no_data (Took a m answer large) gets = refl
get_no_data (TookData bytes answer) gets = absurd (false≢true gets)

-- The bytes that are pending are those that stand for the large response.
whole_is : (p : Place) (place : Option ℕ) (w : List ℕ) (h : History) (m : List ℕ) (t : Turn) (get : IsGet p m t) → Chunked p place w h → get.whole ≡ w
whole_is p place w h m t get (Gone none) = absurd (none-some get.whole (sym none ∙ get.large))
whole_is p place w h m t get (Given large given parts) = same_Some get.whole w (sym get.large ∙ large)

-- ---- An entry that gives one.

module _ (r : RspSetup) (h : History) (w : List ℕ) (tag : ℕ) (body : List ℕ) (e : Entry) (gets : takes_get e ≡ true) (stands : Stands h w tag body) where
  abbrev large : History
  large = with_large (place_named body) w h

  fetched : Stands h w tag body → MayLeadTo r large tag body (Adds e) → Fetch h w tag body
  fetched (inl is) may = absurd (version_apart r large tag body e is may gets)
  fetched (inr fetch) may = fetch

  clear_shows : (slice_index body 0 == 5) ≡ true → MayLeadTo r large tag body (Adds e) → (handle : ℕ) × (sent_by e ≡ clear_body (chunk_given h body w handle))
  clear_shows type may =
      let led = led_clear r large tag body (Adds e) type may in
      let m : List ℕ = drop 1 body in
      let here : place_for large body ≡ clear_place large = place_type large body true type in
      elim (clear_form r large tag m led.free (Adds e) led.leads) [
        | inl same ↦ absurd (let x = same.1 in cc)
        | inr adds ↦
            let t : Turn = turn_of r (clear_place large) m led.free in
            let same : Clear tag t no_draw ≡ e = cc (sym adds) in
            let takes_it : takes CHUNK_GET t ≡ true = ap takes_get same ∙ gets in
            let get = turn_get r (clear_place large) m led.free takes_it in
            let small : is_some (handle_in t.effect) ≡ false = ap is_large same ∙ gets_are_small r large tag body e may gets in
            let sends : t.reply ≡ answer_in t.effect = turn_sends r (clear_place large) m led.free get.handle (given_of (clear_place large).turns) get.asked takes_it small in
            let is : get.whole ≡ w = whole_is (clear_place large) (place_named body) w h m t get (subst (λ (p : Place). Chunked p (place_named body) w h) here (fetched stands may).chunked) in
            let at : Place → List ℕ → List ℕ = λ p l. canonical_response (ChunkResponse (nth_chunk (place_terms p).common.to_requester.transfer get.handle l (given_of p.turns))) in
            (get.handle, ap sent_by (sym same) ∙ ap clear_body (sends ∙ get.gives ∙ ap (at (clear_place large)) is ∙ ap (λ (p : Place). at p w) (sym here)))
      ]

  sealed_shows : (slice_index body 0 == 5) ≡ false → MayLeadTo r large tag body (Adds e)
      → let s = session_of (id_in_record (drop 1 body)) large in (handle : ℕ) × ((pad : List ℕ) × (length pad ≤ 16) × (answered_text r s (turn_in r s (drop 1 body)) (drop 1 (sent_by e)) ≡ plain_text (5 ∷ chunk_given h body w handle) pad))
  unfolding MayLeadTo
  sealed_shows type may =
      let sealed : List ℕ = drop 1 body in
      let s : Events = session_of (id_in_record sealed) large in
      let f : Free = may.0 in
      let inner : List ℕ = opened r.psk s sealed in
      let t : Turn = session_turn r s inner f in
      let leads : on_record r large tag sealed f no_draw ≡ Adds e = sym (ap (λ (b : Bool). cond b (on_clear r large tag sealed f no_draw) (on_record r large tag sealed f no_draw)) type) ∙ may.3 in
      let same = record_added r f tag sealed e large leads in
      let takes_it : takes CHUNK_GET t ≡ true = ap takes_get same ∙ gets in
      let get = session_get r s inner f takes_it in
      let small : is_some (handle_in t.effect) ≡ false = ap is_large same ∙ gets_are_small r large tag body e may gets in
      let sends : t.reply ≡ answer_in t.effect = session_sends r s inner f get.handle (given_of (session_place s).turns) get.asked takes_it small in
      let here : place_for large body ≡ session_place s = place_type large body false type in
      let is : get.whole ≡ w = whole_is (session_place s) (place_named body) w h (drop 1 inner) t get (subst (λ (p : Place). Chunked p (place_named body) w h) here (fetched stands may).chunked) in
      let at : Place → List ℕ → List ℕ = λ p l. canonical_response (ChunkResponse (nth_chunk (place_terms p).common.to_requester.transfer get.handle l (given_of p.turns))) in
      let reply : t.reply ≡ chunk_given h body w get.handle = sends ∙ get.gives ∙ ap (at (session_place s)) is ∙ ap (λ (p : Place). at p w) (sym here) in
      let text : inner_reply t ≡ 5 ∷ chunk_given h body w get.handle =
      ap (λ (b : Bool). cond b 1 5 ∷ t.reply) (get_no_data t.effect takes_it) ∙ ap (λ (l : List ℕ). 5 ∷ l) reply in
      let shown : answered_text r s (turn_in r s sealed) (drop 1 (sent_by e)) ≡ plain_text (inner_reply t) f.pad =
      ap (λ (x : Entry). answered_text r s (turn_in r s sealed) (drop 1 (sent_by x))) (sym same) ∙ text_is r s t (turn_in r s sealed) (inner_reply t) f.pad (updates_alike r s inner any_free f) in
      (get.handle, (f.pad, may.1.pad, shown ∙ ap (λ (l : List ℕ). plain_text l f.pad) text))

  shows : MayLeadTo r large tag body (Adds e) → ShowsChunk r h body (sent_by e) w
  shows may = by_type (slice_index body 0 == 5) refl
    where
      by_type : (b : Bool) → (slice_index body 0 == 5) ≡ b → let s = session_of (id_in_record (drop 1 body)) large in
          (handle : ℕ) × MatchBool b (sent_by e ≡ clear_body (chunk_given h body w handle))
          ((pad : List ℕ) × (length pad ≤ 16) × (answered_text r s (turn_in r s (drop 1 body)) (drop 1 (sent_by e)) ≡ plain_text (5 ∷ chunk_given h body w handle) pad))
      by_type true type = clear_shows type may
      by_type false type = sealed_shows type may

-- ---- An answer.

-- Nothing was dropped where a chunk is given.
none_dropped : (r : RspSetup) (h : History) (w : List ℕ) (tag : ℕ) (body ids : List ℕ) (e : Entry) → Stands h w tag body → MayLeadAfter r (with_large (place_named body) w h) ids tag body (Adds e) → AreShown r (with_large (place_named body) w h) body (Adds e) ids → ids ≡ []
none_dropped r h w tag body ids e stands may shown = by_type (slice_index body 0 == 5) refl
  where
    by_read : (slice_index body 0 == 5) ≡ true → Reading h tag (drop 1 body) → ids ≡ []
    by_read type (Again again) = again_none r h (place_named body) w ids tag body (Adds e) type again may shown
    by_read type (Anew reads code) = always_none r (with_large (place_named body) w h) ids tag body (Adds e) type reads may shown

    sealed : (slice_index body 0 == 5) ≡ false → (l : List ℕ) → MayLeadAfter r (with_large (place_named body) w h) l tag body (Adds e) → AreShown r (with_large (place_named body) w h) body (Adds e) l → l ≡ []
    sealed type [] may shown = refl
    sealed type (i ∷ other ∷ others) may shown = absurd shown
    sealed type (i ∷ []) may shown =
        let g : History = with_large (place_named body) w h in
        let led = led_record r (Dropped i ∷ g) tag body (Adds e) type may.1 in
        let known = record_shown r g (Dropped i ∷ g) tag body i (Adds e) (form_of r (Dropped i ∷ g) tag body (Adds e) led) shown in
        absurd (let x = known.0.1 in cc)

    by_type : (b : Bool) → (slice_index body 0 == 5) ≡ b → ids ≡ []
    by_type true type = by_read type (reading h w tag body type stands)
    by_type false type = sealed type ids may shown

pub chunk_is_shown : ChunkIsShown
chunk_is_shown c q older d w round answer next dropped outcome walk fetching at gives by =
    by_outcome outcome gives by.0 by.1 by.3
  where
    r : RspSetup
    r = towards c.responder (known_of d.setup)

    stands : Stands d.responder w round.tag round.body
    stands = walk_stands c q older d w round walk fetching at

    g : History
    g = with_large (place_named round.body) w d.responder

    judged : judging d.fetching round.body d.responder ≡ with_large (place_named round.body) w d.responder
    judged = ap (λ (o : Option (List ℕ)). judging o round.body d.responder) fetching

    by_outcome : (x : Outcome) → gives_chunk x ≡ true → MayLeadAfter (towards c.responder (known_of d.setup)) (judging d.fetching round.body d.responder) dropped round.tag round.body x
        → AreShown (towards c.responder (known_of d.setup)) (judging d.fetching round.body d.responder) round.body x dropped → body_of x ≡ answer → ShowsChunk (towards c.responder (known_of d.setup)) d.responder round.body answer w
    by_outcome (Same b) gives may shown is = absurd (false≢true gives)
    by_outcome (Unopened b) gives may shown is = absurd (false≢true gives)
    by_outcome (Adds e) gives may shown is =
        let led = subst (λ (l : History). MayLeadAfter r l dropped round.tag round.body (Adds e)) judged may in
        let none = none_dropped r d.responder w round.tag round.body dropped e stands led (subst (λ (l : History). AreShown r l round.body (Adds e) dropped) judged shown) in
        let here : MayLeadTo r g round.tag round.body (Adds e) = subst (λ (l : List ℕ). MayLeadTo r (with_dropped g l) round.tag round.body (Adds e)) none led.1 in
        subst (λ (l : List ℕ). ShowsChunk r d.responder round.body l w) is (shows r d.responder w round.tag round.body e gives stands here)

pub last_shows_chunk : LastShowsChunk
last_shows_chunk c q older d w round answer next walk fetching at a =
    let r : RspSetup = towards c.responder (known_of d.setup) in
    let stands : Stands d.responder w round.tag round.body = walk_stands c q older d w round walk fetching at in
    let judged : judging d.fetching round.body d.responder ≡ with_large (place_named round.body) w d.responder = ap (λ (o : Option (List ℕ)). judging o round.body d.responder) fetching in
    let may : MayLeadTo r (with_large (place_named round.body) w d.responder) round.tag round.body (Adds a.2) = subst (λ (l : History). MayLeadTo r l round.tag round.body (Adds a.2)) judged a.4 in
    subst (λ (l : List ℕ). ShowsChunk r d.responder round.body l w) a.7 (shows r d.responder w round.tag round.body a.2 (and_first _ _ a.5) stands may)
