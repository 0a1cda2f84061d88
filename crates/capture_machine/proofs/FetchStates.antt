-- A large response in progress at the responder: how it begins, and what each answer leaves of it.
use Rattle.std.proofs.Common.{◌≡◌, ◌==◌, ℕ, List, [], ◌∷◌, refl, sym, ap, ◌∙◌, subst, drop, Bool, true, false, Option, Some, None, cond, inl, inr, arith}
use Rattle.std.specs.Prelude.{not, slice_index}
use Rattle.std.proofs.lemmas.Bool.{false_from_ne_true, false≢true, not-true}
use Rattle.spdm_basis.proofs.Bools.{and_first}
use Rattle.spdm_grammar.specs.Message.RequestMessage.{ChunkGet}
use Rattle.spdm_grammar.specs.Reading.{field_at, number_at}
use Rattle.spdm_grammar.specs.Requests.{canonical_request, chunk_get_layout, request_body}
use Rattle.spdm_grammar.specs.declared.names.request_code.TheConstants.{GET_VERSION, PSK_EXCHANGE}
use Rattle.spdm_machine.specs.Bodies.{clear_body}
use Rattle.responder_machine.specs.Handling.{turn_of}
use Rattle.responder_machine.specs.History.{History, Entry, kept_of}
use Rattle.responder_machine.specs.History.Entry.{Clear, Dropped}
use Rattle.responder_machine.specs.May.{with_dropped, place_for}
use Rattle.responder_machine.specs.Place.{Place, clear_place, session_place}
use Rattle.responder_machine.specs.Refusal.{code_of}
use Rattle.responder_machine.specs.Responder.{Outcome, after, is_repeat}
use Rattle.responder_machine.specs.Responder.Outcome.{Same, Unopened, Adds}
use Rattle.responder_machine.specs.Session.{Events, session_of, id_in_record}
use Rattle.responder_machine.specs.Setup.{RspSetup}
use Rattle.responder_machine.specs.Turn.{Turn, takes}
use Rattle.capture_machine.specs.CapturedAnswers.{MayLeadTo, MayLeadAfter, AreShown, is_plain}
use Rattle.capture_machine.specs.LargeAnswers.{is_large, is_unseen, is_unseen_in, seen, place_named, with_large}
use Rattle.capture_machine.specs.Rounds.{no_draw}
use Rattle.capture_machine.proofs.ChunksGiven.{Chunked}
use Rattle.capture_machine.proofs.ChunksGiven.Chunked.{Gone, Given}
use Rattle.capture_machine.proofs.DropsTell.{clear_form, record_shown}
use Rattle.capture_machine.proofs.FetchedAnswers.{Asking, always_none, again_none, repeated, turn_code}
use Rattle.capture_machine.proofs.FetchedAnswers.Asking.{Always, Again, Within}
use Rattle.capture_machine.proofs.FetchedSessions.{InSession}
use Rattle.capture_machine.proofs.FetchedTells.{ReadsAlways, get_reads}
use Rattle.capture_machine.proofs.PlacesServed.{Served, place_type, named_session, clear_served, record_served}
use Rattle.capture_machine.proofs.PlainTells.{ClearLed, RecordLed, led_clear, led_record, form_of}
use Rattle.capture_machine.proofs.SeenAnswers.{led_seen, led_stands}
use Rattle.capture_machine.proofs.UnseenStands.{IsClearSince, IsQuiet, StandsUnseen, UnseenStand, old_in, quiet_since}

-- The last request asks for a chunk in the clear, is a repeat of the clear request whose answer is large, or is a record.
pub data Getting (h : History) (tag : ℕ) (body : List ℕ) : Type 0 where
  Asks : (handle number : ℕ) → body ≡ clear_body (canonical_request (ChunkGet handle number)) → IsClearSince h → Getting h tag body
  Repeats : (slice_index body 0 == 5) ≡ true → is_repeat (kept_of h) tag (drop 1 body) ≡ true → IsClearSince h → Getting h tag body
  Seals : (slice_index body 0 == 5) ≡ false → UnseenStand h → Getting h tag body

-- These bytes stand for the large response that is fetched.
pub record Fetch (h : History) (w : List ℕ) (tag : ℕ) (body : List ℕ) : Type 0 where
  pub how : Getting h tag body
  pub chunked : Chunked (place_for (with_large (place_named body) w h) body) (place_named body) w h

pub asks_type : (handle number : ℕ) (body : List ℕ) → body ≡ clear_body (canonical_request (ChunkGet handle number)) → (slice_index body 0 == 5) ≡ true
asks_type handle number body is = ap (λ (l : List ℕ). slice_index l 0 == 5) is

asks_reads : (handle number : ℕ) (body : List ℕ) → body ≡ clear_body (canonical_request (ChunkGet handle number)) → ReadsAlways (drop 1 body)
asks_reads handle number body is = subst (λ (l : List ℕ). ReadsAlways (drop 1 l)) (sym is) (get_reads handle number)

pub asking : (h : History) (tag : ℕ) (body : List ℕ) → Getting h tag body → Asking h (place_named body) tag body
asking h tag body (Asks handle number is since) = Always (asks_type handle number body is) (asks_reads handle number body is)
asking h tag body (Repeats type again since) = Again type again
asking h tag body (Seals type stand) = Within type (record { id = id_in_record (drop 1 body); at = named_session body type; stand = stand })

-- ---- An answer that goes whole.

-- An entry whose answer was seen.
large_stays : (place : Option ℕ) (w : List ℕ) (e : Entry) (h : History) → is_unseen_in place e ≡ false → with_large place w (e ∷ h) ≡ e ∷ with_large place w h
large_stays place w e h old = ap (λ (b : Bool). cond b (seen w e ∷ h) (e ∷ with_large place w h)) old

pub served : (r : RspSetup) (h : History) (w : List ℕ) (tag : ℕ) (body : List ℕ) (e : Entry) → Fetch h w tag body → MayLeadTo r (with_large (place_named body) w h) tag body (Adds e) → Served (with_large (place_named body) w h) h (place_named body) w body e
served r h w tag body e fetch may = by_how fetch.how
  where
    by_how : Getting h tag body → Served (with_large (place_named body) w h) h (place_named body) w body e
    by_how (Asks handle number is since) = let type = asks_type handle number body is in clear_served r (with_large (place_named body) w h) h w tag body e type (led_clear r (with_large (place_named body) w h) tag body (Adds e) type may) fetch.chunked
    by_how (Repeats type again since) = clear_served r (with_large (place_named body) w h) h w tag body e type (led_clear r (with_large (place_named body) w h) tag body (Adds e) type may) fetch.chunked
    by_how (Seals type within) = record_served r (with_large (place_named body) w h) h w tag body e type (led_record r (with_large (place_named body) w h) tag body (Adds e) type may) fetch.chunked

get_codes : (handle number : ℕ) → (code_of (canonical_request (ChunkGet handle number)) ≡ GET_VERSION → ⊥) × (code_of (canonical_request (ChunkGet handle number)) ≡ PSK_EXCHANGE → ⊥)
unfolding field_at number_at request_body chunk_get_layout
get_codes handle number = (λ e. absurd (omega (arith, e)), λ e. absurd (omega (arith, e)))

module _ (r : RspSetup) (h : History) (w : List ℕ) (tag : ℕ) (body : List ℕ) where
  -- An answer to CHUNK_GET in the clear.
  got_quiet : (handle number : ℕ) (e : Entry) → body ≡ clear_body (canonical_request (ChunkGet handle number)) → MayLeadTo r (with_large (place_named body) w h) tag body (Adds e) → IsQuiet e
  got_quiet handle number e is may =
      let g : History = with_large (place_named body) w h in
      let m : List ℕ = drop 1 body in
      let same : m ≡ canonical_request (ChunkGet handle number) = ap (drop 1) is in
      let reads : ReadsAlways m = asks_reads handle number body is in
      let led = led_clear r g tag body (Adds e) (asks_type handle number body is) may in
      let t : Turn = turn_of r (clear_place g) m led.free in
      let codes = get_codes handle number in
      let code = λ (c : ℕ) (other : (0 == c) ≡ false) (takes_it : takes c t ≡ true). ap code_of (sym same) ∙ turn_code r (clear_place g) m led.free c other reads.no_chunk takes_it in
      let version : takes GET_VERSION t ≡ false = false_from_ne_true _ (λ x. codes.0 (code GET_VERSION refl x)) in
      let psk : takes PSK_EXCHANGE t ≡ false = false_from_ne_true _ (λ x. codes.1 (code PSK_EXCHANGE refl x)) in
      elim (clear_form r g tag m led.free (Adds e) led.leads) [
        | inl again ↦ absurd (let x = again.1 in cc)
        | inr adds ↦ let at : Clear tag t no_draw ≡ e = cc (sym adds) in subst IsQuiet at (version, psk)
      ]

  how_next : (e : Entry) → is_unseen e ≡ false → StandsUnseen e → Getting h tag body → MayLeadTo r (with_large (place_named body) w h) tag body (Adds e) → Getting (e ∷ h) tag body
  how_next e old stands (Asks handle number is since) may = Asks handle number is (quiet_since e h (old_in None e old) (got_quiet handle number e is may) since)
  how_next e old stands (Repeats type again since) may =
      let same = repeated r h (place_named body) w [] tag body (Adds e) again (led_clear r (with_large (place_named body) w h) tag body (Adds e) type may) in absurd (cc)
  how_next e old stands (Seals type stand) may = Seals type (stands, stand)

  none_kept : (o : Outcome) → Fetch h w tag body → MayLeadTo r (with_large (place_named body) w h) tag body o → is_plain (with_large (place_named body) w h) o ≡ true → Fetch (after h o) w tag body
  none_kept (Same b) fetch may plain = fetch
  none_kept (Unopened b) fetch may plain = fetch
  none_kept (Adds e) fetch may plain =
      let old : is_unseen e ≡ false = led_seen r (with_large (place_named body) w h) tag body e may in
      let stays = large_stays (place_named body) w e h (old_in (place_named body) e old) in
      record {
        how = how_next e old (led_stands r (with_large (place_named body) w h) tag body e may) fetch.how may;
        chunked = subst (λ (l : History). Chunked (place_for l body) (place_named body) w (e ∷ h)) (sym stays) ((served r h w tag body e fetch may).chunked (not-true (is_large e) (and_first _ _ plain)));
      }

  passes : (p : Place) (place : Option ℕ) (id : ℕ) → Chunked p place w h → Chunked p place w (Dropped id ∷ h)
  passes p place id (Gone none) = Gone none
  passes p None id (Given large given parts) = Given large given parts
  passes p (Some which) id (Given large given parts) = Given large given parts

  dropped_place : (place : Option ℕ) (id : ℕ) (b : Bool) (s : Events) → Chunked (session_place s) place w (Dropped id ∷ h) → Chunked (session_place (cond b [] s)) place w (Dropped id ∷ h)
  dropped_place place id true s chunked = Gone refl
  dropped_place place id false s chunked = chunked

  dropped_chunked : (id : ℕ) → (slice_index body 0 == 5) ≡ false → Chunked (place_for (with_large (place_named body) w h) body) (place_named body) w h
      → Chunked (place_for (Dropped id ∷ with_large (place_named body) w h) body) (place_named body) w (Dropped id ∷ h)
  unfolding session_of
  dropped_chunked id type chunked =
      let g : History = with_large (place_named body) w h in
      let s : Events = session_of (id_in_record (drop 1 body)) g in
      let c : Chunked (session_place s) (place_named body) w h = subst (λ (p : Place). Chunked p (place_named body) w h) (place_type g body false type) chunked in
      subst (λ (p : Place). Chunked p (place_named body) w (Dropped id ∷ h)) (sym (place_type (Dropped id ∷ g) body false type))
      (dropped_place (place_named body) id (id == id_in_record (drop 1 body)) s (passes (session_place s) (place_named body) id c))

  -- A dropped session stands before no request.
  drop_stays : (id : ℕ) → with_large (place_named body) w (Dropped id ∷ h) ≡ Dropped id ∷ with_large (place_named body) w h
  drop_stays id = large_stays (place_named body) w (Dropped id) h (old_in (place_named body) (Dropped id) refl)

  one_kept : (id : ℕ) (o : Outcome) → (slice_index body 0 == 5) ≡ false → UnseenStand h → Chunked (place_for (with_large (place_named body) w h) body) (place_named body) w h → MayLeadTo r (Dropped id ∷ with_large (place_named body) w h) tag body o → AreShown r (with_large (place_named body) w h) body o (id ∷ [])
      → Fetch (after (Dropped id ∷ h) o) w tag body
  one_kept id o type within chunked may shown =
      let known = record_shown r (with_large (place_named body) w h) (Dropped id ∷ with_large (place_named body) w h) tag body id o (form_of r (Dropped id ∷ with_large (place_named body) w h) tag body o (led_record r (Dropped id ∷ with_large (place_named body) w h) tag body o type may)) shown in
      subst (λ (x : Outcome). Fetch (after (Dropped id ∷ h) x) w tag body) (sym known.0.1) (record {
        how = Seals type (tt, within);
        chunked = subst (λ (l : History). Chunked (place_for l body) (place_named body) w (Dropped id ∷ h)) (sym (drop_stays id)) (dropped_chunked id type chunked);
      })

  nil_kept : (ids : List ℕ) (o : Outcome) → ids ≡ [] → Fetch h w tag body → MayLeadAfter r (with_large (place_named body) w h) ids tag body o → is_plain (with_large (place_named body) w h) o ≡ true → Fetch (after (with_dropped h ids) o) w tag body
  nil_kept ids o none fetch may plain =
      let P : List ℕ → Type 0 = λ l. MayLeadTo r (with_dropped (with_large (place_named body) w h) l) tag body o → Fetch (after (with_dropped h l) o) w tag body in
      subst P (sym none) (λ leads. none_kept o fetch leads plain) may.1

  session_kept : (ids : List ℕ) (o : Outcome) → (slice_index body 0 == 5) ≡ false → UnseenStand h → Chunked (place_for (with_large (place_named body) w h) body) (place_named body) w h → MayLeadAfter r (with_large (place_named body) w h) ids tag body o
      → AreShown r (with_large (place_named body) w h) body o ids → is_plain (with_large (place_named body) w h) o ≡ true → Fetch (after (with_dropped h ids) o) w tag body
  session_kept [] o type within chunked may shown plain = none_kept o (record { how = Seals type within; chunked = chunked }) may.1 plain
  session_kept (id ∷ []) o type within chunked may shown plain = one_kept id o type within chunked may.1 shown
  session_kept (id ∷ other ∷ others) o type within chunked may shown plain = absurd shown

  plain_by : (ids : List ℕ) (o : Outcome) → Getting h tag body → Chunked (place_for (with_large (place_named body) w h) body) (place_named body) w h → MayLeadAfter r (with_large (place_named body) w h) ids tag body o
      → AreShown r (with_large (place_named body) w h) body o ids → is_plain (with_large (place_named body) w h) o ≡ true → Fetch (after (with_dropped h ids) o) w tag body
  plain_by ids o (Asks handle number is since) chunked may shown plain =
      nil_kept ids o (always_none r (with_large (place_named body) w h) ids tag body o (asks_type handle number body is) (asks_reads handle number body is) may shown) (record { how = Asks handle number is since; chunked = chunked }) may plain
  plain_by ids o (Repeats type again since) chunked may shown plain =
      nil_kept ids o (again_none r h (place_named body) w ids tag body o type again may shown) (record { how = Repeats type again since; chunked = chunked }) may plain
  plain_by ids o (Seals type within) chunked may shown plain = session_kept ids o type within chunked may shown plain

  -- It is fetched on.
  pub plain_kept : (ids : List ℕ) (o : Outcome) → Fetch h w tag body → MayLeadAfter r (with_large (place_named body) w h) ids tag body o → AreShown r (with_large (place_named body) w h) body o ids → is_plain (with_large (place_named body) w h) o ≡ true
      → Fetch (after (with_dropped h ids) o) w tag body
  plain_kept ids o fetch may shown plain = plain_by ids o fetch.how fetch.chunked may shown plain
