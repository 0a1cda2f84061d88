-- What the answer to a record brings is determined by its inner message.
use Rattle.std.proofs.Common.{◌≡◌, ◌≤◌, ◌<◌, ◌+◌, ◌∙◌, ◌==◌, ◌&&◌, ◌||◌, ◌↔◌, ℕ, List, [], ◌∷◌, refl, sym, ap, length, drop, take, Bool, true, false, Some, None, cond, inl, inr, is_some, not, arith}
use Rattle.std.proofs.lemmas.Bool.{eq-eqb, eqb-true, false≢true}
use Rattle.std.proofs.lemmas.Bool.Decides.{nat_tests}
use Rattle.std.specs.Prelude.{nat_lt, slice_index}
use Rattle.byteorder.specs.Endian.{little_number}
use Rattle.responder_core.proofs.Whole.{no_data}
use Rattle.key_schedule.specs.Purpose.{iv_of, key_of}
use Rattle.responder_machine.specs.Answer.{Free, answer_bytes}
use Rattle.responder_machine.specs.Handling.{turn_of}
use Rattle.responder_machine.specs.History.{Entry, History}
use Rattle.responder_machine.specs.History.Entry.{Sealed}
use Rattle.responder_machine.specs.LargeMessages.{pending_of}
use Rattle.responder_machine.specs.Place.{session_place}
use Rattle.responder_machine.specs.Records.{opened, reply_number, reply_purpose, reply_record}
use Rattle.responder_machine.specs.Refusal.{has_pending}
use Rattle.responder_machine.specs.Responder.{Outcome, body_of, data_turn, inner_reply, is_open, on_record, sealed_entry, session_turn, session_turn_by}
use Rattle.responder_machine.specs.Responder.Outcome.{Adds}
use Rattle.responder_machine.specs.Session.{Event, Events, after_record, exchange_answer, exchange_of, id_in_record, is_live, session_of, session_terms, stage_of, turns_of, when_live}
use Rattle.responder_machine.specs.Session.Event.{Heard}
use Rattle.responder_machine.specs.Setup.{RspSetup}
use Rattle.responder_machine.specs.Turn.{Turn, code_in, handle_in, takes}
use Rattle.session_keys.proofs.Purposes.{size_of}
use Rattle.spdm_grammar.specs.declared.messages.error_code.ErrorCode.TheVariants.{InvalidRequest, RequestTooLarge, UnexpectedRequest}
use Rattle.spdm_grammar.specs.declared.names.request_code.TheConstants.{CHUNK_GET, END_SESSION}
use Rattle.spdm_grammar.specs.declared.names.error_number.TheConstants.{LARGE_RESPONSE}
use Rattle.spdm_grammar.specs.declared.names.response_code.TheConstants.{CHUNK_RESPONSE, CHUNK_SEND_ACK, ERROR}
use Rattle.spdm_machine.specs.Bodies.{record_body}
use Rattle.spdm_machine.specs.Keys.{Draw, sealed_of}
use Rattle.spdm_machine.specs.Sessions.{id_in_exchange}
use Rattle.check_responder.proofs.ClearJudged.{by_parts, parts_large, parts_last, parts_whole, whole_parts}
use Rattle.check_responder.proofs.LargeReplies.{turn_tells}
use Rattle.check_responder.proofs.LastTold.{last_tells}
use Rattle.check_responder.proofs.RecordShown.{at_opened, inner_shown}
use Rattle.check_laws.specs.AnswersShown.{answered_text, is_whole}
use Rattle.check_responder.specs.ClearAnswers.{given_of}
use Rattle.check_laws.specs.DropsShown.{response_of}
use Rattle.check_responder.specs.JudgedResponder.{AreTooLong, shows_large}
use Rattle.check_laws.specs.LargeShown.{ends_large}
use Rattle.check_responder.specs.RecordAnswers.{given_shown, has_large, has_last}
use Rattle.check_responder.specs.ShownBy.{IsRecordGiven, IsTaken, shows_last}
use Rattle.check_responder.specs.declared.given.Given.TheVariants as given
use Rattle.capture_machine.proofs.RecordsTell.{session_short}
use Rattle.capture_machine.specs.CapturedAnswers.{is_plain}
use Rattle.capture_machine.specs.LargeAnswers.{gives_last}
use Rattle.capture_machine.specs.Opening.{turn_in}
use Rattle.capture_machine.specs.Rounds.{no_draw}

pub first_true : (a b : Bool) → (a && b) ≡ true → a ≡ true
first_true true b is = refl
first_true false b is = absurd (false≢true is)

-- ---- A turn.

module _ (r : RspSetup) (s : Events) (inner : List ℕ) (f : Free) (least : 16 ≤ (session_terms s).common.to_requester.transfer) where
  abbrev left : Turn → Bool
  left t = takes CHUNK_GET t && not (is_some (pending_of (session_terms s).common.to_requester.transfer (t ∷ turns_of s)))

  -- Its reply shows LargeResponse, and the last chunk.
  abbrev Shows : Turn → Type 0
  Shows t = (is_some (handle_in t.effect) ≡ has_large (inner_reply t)) × (left t ≡ has_last (inner_reply t))

  spdm_shows : Shows (turn_of r (session_place s) (drop 1 inner) f)
  spdm_shows =
      let t : Turn = turn_of r (session_place s) (drop 1 inner) f in
      let typed = no_data r (session_place s) (drop 1 inner) f in (
        sym (turn_tells r (session_place s) (drop 1 inner) f) ∙ ap (λ (b : Bool). has_large (cond b 1 5 ∷ t.reply)) (sym typed),
        last_tells r s (drop 1 inner) f least ∙ ap (λ (b : Bool). has_last (cond b 1 5 ∷ t.reply)) (sym typed),
      )

  by_type : (b : Bool) → Shows (cond b (turn_of r (session_place s) (drop 1 inner) f) (data_turn f (drop 1 inner)))
  by_type true = spdm_shows
  by_type false = (refl, refl)

  by_tests : (a b c d : Bool) → Shows (session_turn_by r s inner f (cond a (Some InvalidRequest) (cond b (Some InvalidRequest) (cond c (Some UnexpectedRequest) (cond d (Some RequestTooLarge) None)))))
  by_tests true b c d = (refl, refl)
  by_tests false true c d = (refl, refl)
  by_tests false false true d = (refl, refl)
  by_tests false false false true = (refl, refl)
  by_tests false false false false = by_type (slice_index inner 0 == 5)

  turn_shows : Shows (session_turn r s inner f)
  unfolding session_turn
  turn_shows =
      by_tests (length inner == 0) (not (slice_index inner 0 == 5 || slice_index inner 0 == 1)) (slice_index inner 0 == 1 && not (is_open (stage_of s))) (slice_index inner 0 == 1 && nat_lt 1025 (length inner))

-- A last chunk is no LargeResponse.
no_large : (reply : List ℕ) → slice_index reply 1 ≡ CHUNK_RESPONSE → shows_large (response_of reply) ≡ false
no_large reply code =
    ap (λ (n : ℕ). shows_large (cond (n == CHUNK_SEND_ACK) (drop 6 reply) reply)) code ∙ ap (λ (n : ℕ). n == ERROR && slice_index reply 2 == LARGE_RESPONSE) code

one_alone : (inner : List ℕ) → has_last inner ≡ true → has_large inner ≡ false
one_alone inner last =
    let typed = first_true (slice_index inner 0 == 5) _ last in
    let shown : shows_last (drop 1 inner) ≡ true = ap (λ (b : Bool). b && shows_last (drop 1 inner)) (sym typed) ∙ last in
    ap (λ (b : Bool). b && shows_large (response_of (drop 1 inner))) typed ∙ no_large (drop 1 inner) (eqb-true _ CHUNK_RESPONSE (first_true _ (slice_index (drop 1 inner) 2 == 1) shown))

last_parts : (large last : Bool) → large ≡ false → last ≡ true → by_parts large last ≡ given.Last
last_parts true last none is = absurd (false≢true (sym none))
last_parts false true none is = refl
last_parts false false none is = absurd (false≢true is)

large_parts : (large last : Bool) → not large ≡ false → by_parts large last ≡ given.Large
large_parts true last is = refl
large_parts false last is = absurd (false≢true (sym is))

-- ---- The entry.

live_more : (s : Events) (e : Event) → is_live s ≡ true → when_live s e ≡ e ∷ s
live_more [] e live = absurd (false≢true live)
live_more (x ∷ s) e live = refl

no_end : (n : ℕ) → n ≡ CHUNK_GET → (n == END_SESSION) ≡ false
no_end n is = ap (λ (k : ℕ). k == END_SESSION) is

module _ (h : History) (tag : ℕ) (request : List ℕ) (t : Turn) (reply : List ℕ) (d : Draw) where
  abbrev s : Events
  s = session_of (id_in_record request) h

  abbrev entry : Entry
  entry = Sealed tag request t reply d

  session_behind : is_live s ≡ true → takes CHUNK_GET t ≡ true → session_of (id_in_record request) (entry ∷ h) ≡ Heard request t reply ∷ s
  unfolding session_of
  session_behind live get =
      ap (λ (b : Bool). cond b (after_record s request t reply) s) (eq-eqb (id_in_record request) (id_in_record request) refl)
      ∙ ap (λ (b : Bool). cond b [] (when_live s (Heard request t reply))) (no_end (code_in t.effect) (eqb-true (code_in t.effect) CHUNK_GET get))
      ∙ live_more s (Heard request t reply) live

  last_by : (b : Bool) → takes CHUNK_GET t ≡ b → is_live s ≡ true
      → (b && not (has_pending (session_place (session_of (id_in_record request) (entry ∷ h))))) ≡ (b && not (is_some (pending_of (session_terms s).common.to_requester.transfer (t ∷ turns_of s))))
  last_by false get live = refl
  last_by true get live = ap (λ (x : Events). not (has_pending (session_place x))) (session_behind live get)

  pub last_is : is_live s ≡ true → gives_last h entry ≡ (takes CHUNK_GET t && not (is_some (pending_of (session_terms s).common.to_requester.transfer (t ∷ turns_of s))))
  last_is live = last_by (takes CHUNK_GET t) refl live

-- ---- The record.

record_long : (psk : List ℕ) (s : Events) (t : Turn) (inner pad : List ℕ) → length (reply_record psk s t inner pad) ≡ length inner + length pad + 26
unfolding reply_record sealed_of
record_long psk s t inner pad =
    size_of (key_of (session_terms s).choice.hash (session_terms s).choice.aead (reply_purpose psk s t)) (iv_of (session_terms s).choice.hash (reply_purpose psk s t)) (id_in_exchange (exchange_of s)) (id_in_exchange (exchange_answer s)) (reply_number s t) inner pad
    (reply_record psk s t inner pad) refl

module _ (r : RspSetup) (h : History) (tag : ℕ) (request : List ℕ) (taken : IsTaken r h request) (least : 16 ≤ (session_terms (session_of (id_in_record request) h)).common.to_requester.transfer) (f : Free) where
  abbrev here : Events
  here = session_of (id_in_record request) h

  abbrev turn : Turn
  turn = session_turn r here (opened r.psk here request) f

  abbrev at : Outcome
  at = on_record r h tag request f no_draw

  at_is : at ≡ Adds (sealed_entry r here f tag request no_draw turn)
  at_is = at_opened r h tag request f taken.ended taken.last taken.opens

  live : is_live here ≡ true
  live = first_true (is_live here) _ taken.opens

  abbrev large : Bool
  large = is_some (handle_in turn.effect)

  abbrev last : Bool
  last = gives_last h (Sealed tag request turn (reply_record r.psk here turn (inner_reply turn) f.pad) no_draw)

  shows : (large ≡ has_large (inner_reply turn)) × (last ≡ has_last (inner_reply turn))
  shows =
      let of_turn = turn_shows r here (opened r.psk here request) f least in
      (of_turn.0, last_is h tag request turn (reply_record r.psk here turn (inner_reply turn) f.pad) no_draw live ∙ of_turn.1)

  given_is : given_of h at ≡ by_parts large last
  given_is = ap (given_of h) at_is

  plain_is : is_plain h at ≡ (not large && not last)
  plain_is = ap (is_plain h) at_is

  -- Each kind, in the words of what is shown.
  pub whole_told : (given_of h at ≡ given.Whole) ↔ (is_plain h at ≡ true)
  whole_told = (λ is. plain_is ∙ parts_whole large last (sym given_is ∙ is), λ is. given_is ∙ whole_parts large last (sym plain_is ∙ is))

  pub large_told : (given_of h at ≡ given.Large) ↔ (is_whole at ≡ false)
  large_told =
      let whole : is_whole at ≡ not large = ap is_whole at_is in
      (λ is. whole ∙ ap not (parts_large large last (sym given_is ∙ is)), λ is. given_is ∙ large_parts large last (sym whole ∙ is))

  pub last_told : (given_of h at ≡ given.Last) ↔ (ends_large h at ≡ true)
  last_told =
      let ends : ends_large h at ≡ last = ap (ends_large h) at_is in (
        λ is. ends ∙ (parts_last large last (sym given_is ∙ is)).1,
        λ is. let gives = sym ends ∙ is in given_is ∙ last_parts large last (shows.0 ∙ one_alone (inner_reply turn) (sym shows.1 ∙ gives)) gives,
      )

  module _ (sealed : List ℕ) where
    reply_is : body_of at ≡ record_body sealed → reply_record r.psk here turn (inner_reply turn) f.pad ≡ sealed
    reply_is body = ap (λ (l : List ℕ). drop 1 l) (sym (ap body_of at_is) ∙ body)

    abbrev part : List ℕ
    part = let text = answered_text r here (turn_in r here request) sealed in take (little_number 2 text) (drop 2 text)

    -- What it brings is determined by its text.
    pub part_is : IsRecordGiven r h tag request f (record_body sealed) → given_shown part ≡ given_of h at
    part_is given =
        let brief : length (inner_reply turn) < 65536 = (let few = session_short r here (opened r.psk here request) f given.short given.allowed.reply in omega (arith, few)) in
        ap given_shown (inner_shown r h tag request f sealed brief (reply_is given.body))
        ∙ ap (λ (b : Bool). by_parts b (has_last (inner_reply turn))) (sym shows.0) ∙ ap (by_parts large) (sym shows.1) ∙ sym given_is

    -- No answer is shorter than a record.
    pub size_never : length sealed < 26 → IsRecordGiven r h tag request f (record_body sealed) → ⊥
    size_never short a =
        (let long = record_long r.psk here turn (inner_reply turn) f.pad in
        let same = ap (λ (l : List ℕ). length l) (reply_is a.body) in
        omega (arith, short, long, same))

-- ---- Values that are too long.

pub not_given : (r : RspSetup) (h : History) (tag : ℕ) (request inner : List ℕ) (f : Free) (answer : List ℕ) → inner ≡ opened r.psk (session_of (id_in_record request) h) request
    → AreTooLong r (session_place (session_of (id_in_record request) h)) (drop 1 inner) f → IsRecordGiven r h tag request f answer → ⊥
not_given r h tag request inner f answer opens (inl long) a =
    (let same = ap (λ (l : List ℕ). length (answer_bytes r (session_place (session_of (id_in_record request) h)) (drop 1 l) f)) opens in
    let short = a.short in
    omega (arith, long, same, short))
not_given r h tag request inner f answer opens (inr long) a = (let most = a.allowed.measured_opaque in omega (arith, long, most))

-- ---- The test of a length.

under : (n : ℕ) → nat_lt 4096 n ≡ false → n ≤ 4096
under n is = grind (arith, nat_tests)

over : (n : ℕ) → n ≤ 4096 → nat_lt 4096 n ≡ false
over n few = grind (arith, nat_tests)

pub short_test : (n : ℕ) (b : Bool) → b ≡ nat_lt 4096 n → not b ≡ true → n ≤ 4096
short_test n false is ok = under n (sym is)
short_test n true is ok = absurd (false≢true ok)

pub test_short : (n : ℕ) (b : Bool) → b ≡ nat_lt 4096 n → n ≤ 4096 → not b ≡ true
test_short n b is few = ap not (is ∙ over n few)
