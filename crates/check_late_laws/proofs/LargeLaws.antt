-- LargeResponse meanwhile may be given with each bytes that may stand, or with none.
use Rattle.std.proofs.Common.{◌≡◌, ◌+◌, ◌≤◌, ◌<◌, ◌==◌, ◌&&◌, ◌||◌, ℕ, List, refl, sym, ap, ◌∙◌, subst, drop, length, arith, Bool, true, false, Option, Some, None, cond, is_some, inl, inr}
use Rattle.std.specs.Prelude.{not, nat_lt, slice_index}
use Rattle.std.proofs.lemmas.Bool.{false≢true}
use Rattle.std.proofs.lemmas.Bool.Decides.{nat_tests}
use Rattle.std.proofs.lemmas.Option.{none-some}
use Rattle.requester_machine.specs.History.{outstanding}
use Rattle.requester_machine.specs.Setup.{ReqSetup}
use Rattle.responder_machine.proofs.Codes.{asked-code}
use Rattle.responder_machine.proofs.Tests.{contents_shown}
use Rattle.responder_machine.specs.Answer.{Free, answer_bytes, answer_to, request_at}
use Rattle.responder_machine.specs.Handling.{chunk_in, effect_of, goes_large, turn_by, turn_of}
use Rattle.responder_machine.specs.History.{Entry, History}
use Rattle.responder_machine.specs.History.Entry.{Clear}
use Rattle.responder_machine.specs.May.{with_dropped}
use Rattle.responder_machine.specs.Place.{Place, clear_place, place_terms}
use Rattle.responder_machine.specs.Refusal.{bytes_round, code_of, is_answer_too_long, refusal, sizes_are_known}
use Rattle.responder_machine.specs.Responder.Outcome.{Adds}
use Rattle.responder_machine.specs.Setup.{RspSetup, towards}
use Rattle.responder_machine.specs.Turn.{handle_in}
use Rattle.spdm_basis.proofs.Bools.{and_first, and_second}
use Rattle.spdm_grammar.specs.Message.{ChunkMessage, RequestMessage}
use Rattle.spdm_grammar.specs.Message.RequestMessage.{ChunkSend, GetVersion}
use Rattle.spdm_grammar.specs.Requests.{canonical_request}
use Rattle.spdm_grammar.specs.declared.messages.error_code.ErrorCode.{ErrorCode}
use Rattle.spdm_grammar.specs.declared.names.request_code.TheConstants.{CHUNK_GET, CHUNK_SEND}
use Rattle.spdm_machine.specs.Bodies.{clear_body}
use Rattle.capture_machine.proofs.TurnsAlike.{chunk_is}
use Rattle.spdm_grammar.specs.declared.names.request_code.TheConstants.{GET_VERSION}
use Rattle.std.proofs.lemmas.Bool.{eq-eqb}
use Rattle.capture_machine.proofs.DropsTell.{clear_form}
use Rattle.capture_machine.proofs.PlainTells.{led_clear}
use Rattle.capture_machine.proofs.SmallGets.{gets_are_small}
use Rattle.capture_machine.specs.CapturedAnswers.{MayLeadTo}
use Rattle.capture_machine.specs.LargeAnswers.{is_large, takes_get}
use Rattle.capture_machine.specs.Rounds.{no_draw}
use Rattle.check_laws.proofs.OneWalk.{walks_alike}
use Rattle.check_laws.specs.Order.{body_in}
use Rattle.capture_machine.proofs.FetchStates.{Fetch, Getting, asks_type}
use Rattle.capture_machine.proofs.FetchStates.Getting.{Asks, Repeats, Seals}
use Rattle.capture_machine.proofs.FetchedAnswers.{repeated}
use Rattle.capture_machine.proofs.Fetching.{IsSound}
use Rattle.capture_machine.specs.CapturedAnswers.{MayLeadAfter}
use Rattle.capture_machine.specs.LargeAnswers.{is_fetching, place_named, with_large}
use Rattle.capture_machine.specs.Rounds.{Round}
use Rattle.world_machine.specs.Setup.{Configuration, known_of}
use Rattle.check_late_laws.specs.Fetching.{Fetching, IsFetchingOf, MayStand, dialogue_of, number_given, size_told}
use Rattle.check_late_laws.specs.FetchingLaws.{LargeIsOfAll}
use Rattle.check_late_laws.proofs.GoesWith.{size_by, told}
use Rattle.check_late_laws.proofs.NoCaps.{walks_caps}
use Rattle.check_late_laws.proofs.PlainLaws.{Now, now}
use Rattle.check_late_laws.proofs.PlainLaws.Now.{Version, Chunk}
use Rattle.check_late_laws.proofs.PlainWithin.{large_within}
use Rattle.check_late_laws.proofs.TurnsLaws.{entry_fits}
use Rattle.check_late_laws.proofs.ClearMoved.{IsGetOnly, get_only}
use Rattle.check_late_laws.proofs.ClearMoved.IsGetOnly.{Unread as NoGet, Read as Get}
use Rattle.check_late_laws.proofs.SessionMoved.{got_takes}
use Rattle.check_late_laws.proofs.TurnsSame.{place_sized}
use Rattle.check_late_laws.proofs.VersionMoved.{IsVersionOnly, version_only}
use Rattle.check_late_laws.proofs.VersionMoved.IsVersionOnly.{Unread as NoVersion, Read as IsVersion}

-- ---- What goes large.

-- A turn with a large response, of a message that is no chunk.
pub record GoesSo (r : RspSetup) (p : Place) (m : List ℕ) (f : Free) : Type 0 where
  pub asked : RequestMessage
  pub is : request_at p m ≡ Some asked
  pub none : refusal r p m f ≡ None
  pub large : goes_large p (answer_bytes r p m f) ≡ true

plain_so : (q : Option RequestMessage) (m answer : List ℕ) (b : Bool) (handle : ℕ) → is_some (handle_in (effect_of q m answer (cond b (Some handle) None))) ≡ true → (asked : RequestMessage) × (q ≡ Some asked) × (b ≡ true)
plain_so None m answer b handle large = absurd (false≢true large)
plain_so (Some asked) m answer true handle large = (asked, refl, refl)
plain_so (Some asked) m answer false handle large = absurd (false≢true large)

module _ (r : RspSetup) (p : Place) (m : List ℕ) (f : Free) (whole : code_of m ≡ CHUNK_SEND → ⊥) where
  turn_so : (x : Option ErrorCode) (c : Option ChunkMessage) → refusal r p m f ≡ x → chunk_in (request_at p m) ≡ c → is_some (handle_in (turn_by r p m f x c).effect) ≡ true → GoesSo r p m f
  turn_so (Some e) c is sends large = absurd (false≢true large)
  turn_so None None is sends large =
      let parts = plain_so (request_at p m) m (answer_bytes r p m f) (goes_large p (answer_bytes r p m f)) f.handle large in
      record { asked = parts.0; is = parts.1; none = is; large = parts.2 }
  turn_so None (Some c) is sends large = absurd (whole (sym (asked-code p m (ChunkSend c) (chunk_is (request_at p m) c sends))))

  pub goes_so : is_some (handle_in (turn_of r p m f).effect) ≡ true → GoesSo r p m f
  unfolding turn_of
  goes_so large = turn_so (refusal r p m f) (chunk_in (request_at p m)) refl refl large

second_true : (a b : Bool) → (a || (not b && true)) ≡ false → b ≡ true
second_true false true is = refl
second_true false false is = absurd (false≢true (sym is))
second_true true b is = absurd (false≢true (sym is))

-- Where it goes large, it is sent in chunks, and is longer than the least transfer size.
long_answer : (r : RspSetup) (p : Place) (m : List ℕ) (f : Free) → bytes_round p.at ≡ 0 → refusal r p m f ≡ None → goes_large p (answer_bytes r p m f) ≡ true → 42 < length (answer_bytes r p m f)
long_answer r p m f round none large =
    let known : sizes_are_known p.phase ≡ true = and_first (sizes_are_known p.phase) _ large in
    let over : nat_lt (place_terms p).common.to_requester.transfer (bytes_round p.at + length (answer_bytes r p m f)) ≡ true = and_second (sizes_are_known p.phase) _ large in
    let brief : is_answer_too_long p (answer_bytes r p m f) ≡ false = contents_shown r p m f none 10 in
    let goes : (nat_lt (place_terms p).common.to_requester.max (length (answer_bytes r p m f)) || (not (place_terms p).common.chunk && true)) ≡ false =
    ap (λ (b : Bool). nat_lt (place_terms p).common.to_requester.max (length (answer_bytes r p m f)) || (not (place_terms p).common.chunk && b)) (sym over)
    ∙ ap (λ (b : Bool). b && (nat_lt (place_terms p).common.to_requester.max (length (answer_bytes r p m f)) || (not (place_terms p).common.chunk && nat_lt (place_terms p).common.to_requester.transfer (bytes_round p.at + length (answer_bytes r p m f))))) (sym known) ∙ brief in
    let low = place_sized p (second_true _ (place_terms p).common.chunk goes) in
    let more = less_of (place_terms p).common.to_requester.transfer (bytes_round p.at + length (answer_bytes r p m f)) over in
    omega (arith, more, low.0, round)
  where
    less_of : (n k : ℕ) → nat_lt n k ≡ true → n < k
    less_of n k is = grind (arith, nat_tests)

-- ---- In the clear none does meanwhile.

version_code : (body : List ℕ) → body ≡ clear_body (canonical_request GetVersion) → code_of (drop 1 body) ≡ GET_VERSION
version_code body is = ap (λ (l : List ℕ). code_of (drop 1 l)) is

other_than : (n k : ℕ) → (n == k) ≡ false → (m : ℕ) → m ≡ n → m ≡ k → ⊥
other_than n k apart m one two = false≢true (sym apart ∙ ap (λ (x : ℕ). x == k) (sym one) ∙ ap (λ (x : ℕ). x == k) two ∙ eq-eqb k k refl)

version_short : (r : RspSetup) (p : Place) (m : List ℕ) (f : Free) → request_at p m ≡ Some GetVersion → length (answer_bytes r p m f) ≤ 42
unfolding answer_bytes
version_short r p m f is = subst (λ (q : Option RequestMessage). length (answer_to r p m f q) ≤ 42) (sym is) (omega arith)

no_version : (r : RspSetup) (g : History) (tag : ℕ) (body : List ℕ) (e : Entry) → body ≡ clear_body (canonical_request GetVersion) → MayLeadTo r g tag body (Adds e) → is_large e ≡ true → ⊥
no_version r g tag body e is may large =
    let led = led_clear r g tag body (Adds e) (ap (λ (l : List ℕ). slice_index l 0 == 5) is) may in
    elim (clear_form r g tag (drop 1 body) led.free (Adds e) led.leads) [
      | inl same ↦ absurd (let x = same.1 in cc)
      | inr adds ↦
          let p : Place = clear_place g in
          let m : List ℕ = drop 1 body in
          let same : e ≡ Clear tag (turn_of r (clear_place g) (drop 1 body) led.free) no_draw = cc adds in
          let so = goes_so r p m led.free (other_than GET_VERSION CHUNK_SEND refl (code_of m) (version_code body is)) (ap is_large (sym same) ∙ large) in
          by_only p m led.free refl so (version_only (request_at p m) (λ x at. asked-code p m x at ∙ version_code body is))
    ]
  where
    by_only : (p : Place) (m : List ℕ) (f : Free) → bytes_round p.at ≡ 0 → GoesSo r p m f → IsVersionOnly (request_at p m) → ⊥
    by_only p m f round so (NoVersion at) = none-some so.asked (sym at ∙ so.is)
    by_only p m f round so (IsVersion at) = (let long = long_answer r p m f round so.none so.large in let few = version_short r p m f at in absurd (omega (arith, long, few)))

no_get : (r : RspSetup) (g : History) (tag : ℕ) (body : List ℕ) (e : Entry) → (slice_index body 0 == 5) ≡ true → code_of (drop 1 body) ≡ CHUNK_GET → MayLeadTo r g tag body (Adds e) → is_large e ≡ true → ⊥
no_get r g tag body e type code may large =
    let led = led_clear r g tag body (Adds e) type may in
    elim (clear_form r g tag (drop 1 body) led.free (Adds e) led.leads) [
      | inl same ↦ absurd (let x = same.1 in cc)
      | inr adds ↦
          let p : Place = clear_place g in
          let m : List ℕ = drop 1 body in
          let same : e ≡ Clear tag (turn_of r (clear_place g) (drop 1 body) led.free) no_draw = cc adds in
          let so = goes_so r p m led.free (other_than CHUNK_GET CHUNK_SEND refl (code_of m) code) (ap is_large (sym same) ∙ large) in
          by_only p m led.free so same (get_only (request_at p m) (λ x at. asked-code p m x at ∙ code))
    ]
  where
    by_only : (p : Place) (m : List ℕ) (f : Free) → GoesSo r p m f → e ≡ Clear tag (turn_of r p m f) no_draw → IsGetOnly (request_at p m) → ⊥
    by_only p m f so same (NoGet at) = none-some so.asked (sym at ∙ so.is)
    by_only p m f so same (Get a b at) = false≢true (sym (gets_are_small r g tag body e may (ap takes_get same ∙ got_takes r p m f a b at so.none)) ∙ large)

-- ---- Each LargeResponse.

module _ (w : Configuration) (q : ReqSetup) (older : List (List ℕ)) (f : Fetching) (own : IsFetchingOf w q older f) (round : Round) (at : f.kept.round ≡ Some round) where
  abbrev r : RspSetup
  r = towards w.responder (known_of f.kept.setup)

  abbrev k : History
  k = f.kept.responder

  module _ (v u : List ℕ) (stand : MayStand f v) (may : MayStand f u) (drops : List ℕ) (e : Entry) (leads : MayLeadAfter r (with_large (place_named round.body) v k) drops round.tag round.body (Adds e)) (large : is_large e ≡ true) where
    sound_of : (x : List ℕ) → MayStand f x → IsSound (dialogue_of f x)
    sound_of x is = (walks_alike w q older (dialogue_of f x) (dialogue_of f x) (own.all x is) (own.all x is)).one

    size : (number_given f.at k ≡ 0 → ⊥) → length u ≡ length v
    size some = size_by (number_given f.at k) (size_told f.at k) v u (told f.at k) some stand.1 may.1

    by_fetch : Now f round u → is_fetching (outstanding (dialogue_of f v).requester) ≡ true → Fetch k v round.tag round.body → MayLeadAfter r (with_large (place_named round.body) u k) drops round.tag round.body (Adds e)
    by_fetch (Version is) gets one = absurd (no_version r (with_dropped (with_large (place_named round.body) v k) drops) round.tag round.body e is leads.1 large)
    by_fetch (Chunk also two) gets one = by_how one.how
      where
        place : place_named round.body ≡ f.at
        place = ap (λ (o : Option Round). place_named (body_in o)) (sym at) ∙ own.there gets

        by_how : Getting k round.tag round.body → MayLeadAfter r (with_large (place_named round.body) u k) drops round.tag round.body (Adds e)
        by_how (Asks handle number is since) =
            absurd (no_get r (with_dropped (with_large (place_named round.body) v k) drops) round.tag round.body e (asks_type handle number round.body is) (ap (λ (l : List ℕ). code_of (drop 1 l)) is) leads.1 large)
        by_how (Repeats type again since) =
            let same = repeated r k (place_named round.body) v drops round.tag round.body (Adds e) again (led_clear r (with_dropped (with_large (place_named round.body) v k) drops) round.tag round.body (Adds e) type leads.1) in absurd (cc)
        by_how (Seals type within) =
            large_within r k v u round.tag round.body type within one two drops e (λ some. size (λ none. some (ap (λ (o : Option ℕ). number_given o k) place ∙ none))) leads large

    by_now : Now f round v → MayLeadAfter r (with_large (place_named round.body) u k) drops round.tag round.body (Adds e)
    by_now (Version is) = absurd (no_version r (with_dropped (with_large (place_named round.body) v k) drops) round.tag round.body e is leads.1 large)
    by_now (Chunk gets one) = by_fetch (now w q older f own round at u may) gets one

    pub large_moved : MayLeadAfter r (with_large (place_named round.body) u k) drops round.tag round.body (Adds e)
    large_moved = by_now (now w q older f own round at v stand)

pub large_is_of_all : LargeIsOfAll
large_is_of_all w q older f round answer v u x h own at stand may c =
    let r : RspSetup = towards w.responder (known_of f.kept.setup) in
    let sound : IsSound (dialogue_of f v) = (walks_alike w q older (dialogue_of f v) (dialogue_of f v) (own.all v stand) (own.all v stand)).one in
    let fits = entry_fits r f.kept.responder v u round.tag round.body sound.unseen (walks_caps w q older (dialogue_of f v) (own.all v stand)) c.0 c.1 x c.2.1 c.4 in
    (c.0, c.1, large_moved w q older f own round at v u stand may c.0 c.1 c.2 c.3, c.3, fits, c.5, c.6)
