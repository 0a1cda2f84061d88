-- A responder that knows the sizes of both ends takes the first chunk of a large request.
use Rattle.std.proofs.Common.{◌≡◌, ◌<◌, ◌≤◌, ◌+◌, ◌==◌, ◌&&◌, ◌||◌, ◌∙◌, ℕ, List, [], ◌∷◌, refl, sym, ap, subst, drop, length, Bool, true, false, Option, Some, None, is_none, is_some, cond, inl, inr, arith}
use Rattle.std.specs.Option.{option_or}
use Rattle.std.specs.Prelude.{if◌then◌else◌, nat_lt, not, slice_index}
use Rattle.std.proofs.lemmas.Bool.{false≢true}
use Rattle.std.proofs.lemmas.Bool.Decides.{nat_tests}
use Rattle.std.proofs.lemmas.Option.{none-some}
use Rattle.chunking.proofs.CutAndCollected.{collected-nth}
use Rattle.chunking.specs.Collecting.{answer_from, broken_rule, joined_with, under_way}
use Rattle.chunking.specs.Collecting.Collection.{Whole, More}
use Rattle.chunking.specs.Cutting.{IsCollectable, chunk_count, nth_chunk}
use Rattle.check_fetched_ends.proofs.LargeAsks.{chunk_sent, piece_read}
use Rattle.check_fetched_ends.proofs.LateShown.{same_form}
use Rattle.check_fetched_ends.proofs.OfferAwaited.{kept_judging}
use Rattle.check_fetched_ends.proofs.RoundAnswered.{taken_again, turn_taken}
use Rattle.check_laws.proofs.Large.Cuts.{two_chunks}
use Rattle.check_laws.proofs.Large.LargeSizes.{above, terms_wide}
use Rattle.negotiate.specs.declared.shared.Common.{Common}
use Rattle.negotiate.specs.declared.shared.Sizes.{Sizes}
use Rattle.requester_machine.specs.History as requester_history
use Rattle.requester_machine.specs.History.{connection_terms}
use Rattle.responder_machine.proofs.Making.{turn_message}
use Rattle.responder_machine.specs.Answer.{Free, answer_bytes, answer_of, answer_to, request_at}
use Rattle.responder_machine.specs.Handling.{turn_of}
use Rattle.responder_machine.specs.History.{Entry, History, Kept, clear_turns, kept_of, negotiation_of, phase_of}
use Rattle.responder_machine.specs.History.Entry.{Clear}
use Rattle.responder_machine.specs.LargeMessages.{chunks_of}
use Rattle.responder_machine.specs.May.{with_dropped}
use Rattle.responder_machine.specs.Place.{Place, clear_place, place_terms}
use Rattle.responder_machine.specs.Refusal.{chunk_fault, code_of, has_pending, is_answer_too_long, is_too_large, lacks_flag, phase_allows, refusal, refused_contents, refused_form, sizes_are_known, tests_of_contents, tests_of_form}
use Rattle.responder_machine.specs.Responder.{Outcome, after, is_repeat}
use Rattle.responder_machine.specs.Responder.Outcome.{Same, Adds}
use Rattle.responder_machine.specs.Setup.{RspSetup}
use Rattle.responder_machine.specs.SizeLaws.{HasSizes}
use Rattle.responder_machine.specs.Turn.{Turn, is_taken}
use Rattle.spdm_basis.proofs.Bools.{lt_false}
use Rattle.spdm_basis.specs.Tests.{first_of_tests}
use Rattle.spdm_grammar.specs.Message.{ChunkMessage, RequestMessage}
use Rattle.spdm_grammar.specs.Message.RequestMessage.{ChunkSend}
use Rattle.spdm_grammar.specs.Message.ResponseMessage.{ChunkSendAck}
use Rattle.spdm_grammar.specs.Requests.{canonical_request}
use Rattle.spdm_grammar.specs.Responses.{canonical_response}
use Rattle.spdm_grammar.specs.declared.ChunkFault.{ChunkFault}
use Rattle.spdm_grammar.specs.declared.messages.error_code.ErrorCode.{ErrorCode}
use Rattle.spdm_grammar.specs.declared.names.request_code.TheConstants.{CHUNK_SEND}
use Rattle.spdm_grammar.specs.declared.told.phase.Phase.{Phase}
use Rattle.spdm_grammar.specs.declared.told.phase.Phase.TheVariants.{Fresh, Versioned, Capable, Negotiated}
use Rattle.spdm_machine.specs.Terms.{Terms, hash_len, terms_of}
use Rattle.capture_machine.proofs.DropsTell.{clear_form, kept_same, turns_stay}
use Rattle.capture_machine.proofs.FetchBegins.{large_leaves}
use Rattle.capture_machine.proofs.PlainTells.{led_clear}
use Rattle.capture_machine.proofs.SmallGets.{get_fits}
use Rattle.capture_machine.specs.CapturedAnswers.{Answers, MayLeadTo}
use Rattle.capture_machine.specs.LargeAnswers.{judging}
use Rattle.capture_machine.specs.LargeRequests.{IsLargeRequest, common_of}
use Rattle.capture_machine.specs.Rounds.{Dialogue, Round, no_draw}

-- ---- The rules of collecting.

no_rule : (o : Option ChunkFault) (c : ChunkMessage) (x whole : List ℕ) (b : Bool) → answer_from o c x ≡ (if b then Whole whole else More) → o ≡ None
no_rule None c x whole b e = refl
no_rule (Some fault) c x whole true e = absurd (cc)
no_rule (Some fault) c x whole false e = absurd (cc)

-- The first chunk breaks none, whatever is in progress.
breaks_none : (max transfer handle : ℕ) (whole : List ℕ) (before : List ChunkMessage) → IsCollectable max transfer whole → 0 < chunk_count transfer whole → broken_rule max before (nth_chunk transfer handle whole 0) ≡ None
breaks_none max transfer handle whole before sound within =
    let c : ChunkMessage = nth_chunk transfer handle whole 0 in
    no_rule (broken_rule max [] c) c (joined_with [] c) whole (0 + 1 == chunk_count transfer whole) (collected-nth max transfer handle whole sound [] 0 within)

-- ---- No test holds.

abbrev AreFalse : List (Bool × ErrorCode) → Type 0
AreFalse [] = Unit {0}
AreFalse (t ∷ ts) = (t.0 ≡ false) × AreFalse ts

skips : (b : Bool) (e : ErrorCode) (rest : Option ErrorCode) → b ≡ false → rest ≡ None → (if b then Some e else rest) ≡ None
skips b e rest is none = rw is none

none_of : (ts : List (Bool × ErrorCode)) → AreFalse ts → first_of_tests ts ≡ None
none_of [] k = refl
none_of (t ∷ ts) k = skips t.0 t.1 (first_of_tests ts) k.0 (none_of ts k.1)

not_refused : (r : RspSetup) (p : Place) (m : List ℕ) (f : Free) → AreFalse (tests_of_form r p m) → AreFalse (tests_of_contents r p m f) → refusal r p m f ≡ None
unfolding refusal refused_form refused_contents
not_refused r p m f form contents =
    ap (λ (o : Option ErrorCode). option_or o (first_of_tests (tests_of_contents r p m f))) (none_of (tests_of_form r p m) form)
    ∙ none_of (tests_of_contents r p m f) contents

allows : (p : Phase) (b : Bool) → sizes_are_known p ≡ true → phase_allows p b CHUNK_SEND ≡ true
allows Fresh b known = absurd (false≢true known)
allows Versioned b known = absurd (false≢true known)
allows Capable b known = refl
allows Negotiated b known = refl

has_flag : (terms : Terms) → terms.common.chunk ≡ true → lacks_flag terms CHUNK_SEND ≡ false
has_flag terms is = rw is refl

has_chunks : (a b c : Bool) → (a || (not b && c)) ≡ false → c ≡ true → b ≡ true
has_chunks a true c is large = refl
has_chunks true false c is large = absurd (false≢true (sym is))
has_chunks false false c is large = absurd (false≢true (sym is ∙ large))

within_max : (max size : ℕ) (b : Bool) → (nat_lt max size || b) ≡ false → size ≤ max
within_max max size b is = by_test (nat_lt max size) refl is
  where
    by_test : (a : Bool) → nat_lt max size ≡ a → (a || b) ≡ false → size ≤ max
    by_test true over is = absurd (false≢true (sym is))
    by_test false under is = grind (arith, nat_tests)

short_answer : (a b c d : Bool) → b ≡ false → d ≡ false → (a && (b || (not c && d))) ≡ false
short_answer false b c d x y = refl
short_answer true true c d x y = absurd (false≢true (sym x))
short_answer true false true d x y = refl
short_answer true false false d x y = y

bytes_are : (r : RspSetup) (p : Place) (m : List ℕ) (f : Free) (v : RequestMessage) → request_at p m ≡ Some v → answer_bytes r p m f ≡ canonical_response (answer_of r p m f v)
unfolding answer_bytes
bytes_are r p m f v is = ap (answer_to r p m f) is

module _ (r : RspSetup) (g : History) (f : Free) (h : requester_history.History) (whole : List ℕ) (handle : ℕ) (small : handle < 256) (large : IsLargeRequest (common_of h) whole) (sizes : HasSizes r (common_of h))
    (same : common_of h ≡ (place_terms (clear_place g)).common) (known : sizes_are_known (phase_of (clear_turns g)) ≡ true) where
  abbrev transfer : ℕ
  transfer = (common_of h).to_responder.transfer

  abbrev p : Place
  p = clear_place g

  abbrev c : ChunkMessage
  c = nth_chunk transfer handle whole 0

  abbrev text : List ℕ
  text = canonical_request (ChunkSend c)

  chunks : (common_of h).chunk ≡ true
  chunks = has_chunks _ _ _ large.1 large.0

  over : transfer < length whole
  over = above transfer (length whole) large.0

  sound : IsCollectable r.max transfer whole
  sound =
      let wide = (terms_wide (requester_history.negotiation_of h) chunks).0 in
      let most : length whole ≤ (common_of h).to_responder.max = within_max _ _ _ large.1 in
      let max : (common_of h).to_responder.max ≡ r.max = ap (λ (s : Sizes). s.max) sizes.own in
      let longer = over in
      record { low = wide; large = omega (arith, longer); fits = omega (arith, most, max); short = large.2 }

  within : 0 < chunk_count transfer whole
  within = (let wide = sound.low in let two = two_chunks transfer (length whole) (omega (arith, wide)) over in omega (arith, two))

  reads : request_at p text ≡ Some (ChunkSend c)
  reads =
      let wide = (terms_wide (requester_history.negotiation_of h) chunks).1 in
      chunk_sent (request_at p text) c (piece_read (hash_len (place_terms p)) transfer handle 0 whole small (omega arith) large.2 (omega (arith, wide)))

  fits : length text ≤ r.transfer
  fits = subst (λ (n : ℕ). length text ≤ n) (ap (λ (s : Sizes). s.transfer) sizes.own) (get_fits transfer handle 0 whole sound.low)

  long : 4 ≤ length text
  long = omega arith

  form : AreFalse (tests_of_form r p text)
  form = (
    lt_false (length text) 4 long,
    (lt_false r.transfer (length text) fits, (refl, (refl, (refl, (refl, (ap not (allows (phase_of (clear_turns g)) (has_pending p) known), (refl, (ap is_none reads, tt)))))))),
  )

  acked : is_answer_too_long p (canonical_response (ChunkSendAck false handle 0 [])) ≡ false
  acked =
      let common : Common = (place_terms p).common in
      let there = subst (HasSizes r) same sizes in
      let least = there.least in
      let crossed = there.crossed in
      short_answer (sizes_are_known p.phase) (nat_lt common.to_requester.max 6) common.chunk (nat_lt common.to_requester.transfer 6) (lt_false common.to_requester.max 6 (omega (arith, least, crossed))) (lt_false common.to_requester.transfer 6 (omega (arith, least)))

  faultless : chunk_fault r p (Some (ChunkSend c)) ≡ None
  faultless = breaks_none r.max transfer handle whole (under_way (chunks_of p.turns)) sound within

  contents : AreFalse (tests_of_contents r p text f)
  contents = (
    has_flag (place_terms p) (ap (λ (x : Common). x.chunk) (sym same) ∙ chunks),
    (
      rw reads refl,
      (
        rw reads refl,
        (
          rw reads refl,
          (
            rw reads refl,
            (
              rw reads refl,
              (
                rw reads refl,
                (
                  ap (λ (o : Option RequestMessage). is_too_large (chunk_fault r p o)) reads ∙ ap is_too_large faultless,
                  (
                    ap (λ (o : Option RequestMessage). is_some (chunk_fault r p o)) reads ∙ ap is_some faultless,
                    (rw reads refl, (ap (is_answer_too_long p) (bytes_are r p text f (ChunkSend c) reads) ∙ acked, (refl, tt))),
                  ),
                ),
              ),
            ),
          ),
        ),
      ),
    ),
  )

  pub first_passes : refusal r (clear_place g) (canonical_request (ChunkSend (nth_chunk (common_of h).to_responder.transfer handle whole 0))) f ≡ None
  first_passes = not_refused r p text f form contents

-- ---- What is compared with a repeat behind the answer to a message that is not refused: this one.

module _ (r : RspSetup) (d : Dialogue) (round : Round) (type : (slice_index round.body 0 == 5) ≡ true) (rest : d.fetching ≡ None)
    (passes : (g : History) (f : Free) → clear_turns g ≡ clear_turns d.responder → refusal r (clear_place g) (drop 1 round.body) f ≡ None) where
  abbrev m : List ℕ
  m = drop 1 round.body

  judged : judging d.fetching round.body d.responder ≡ d.responder
  judged = ap (λ (o : Option (List ℕ)). judging o round.body d.responder) rest

  plainly : (k : History) (ids : List ℕ) (o : Outcome) → clear_turns k ≡ clear_turns d.responder → kept_of k ≡ kept_of d.responder → MayLeadTo r k round.tag round.body o → is_repeat (kept_of (after (with_dropped d.responder ids) o)) round.tag m ≡ true
  plainly k ids o turns keeps may =
      let led = led_clear r k round.tag round.body o type may in
      elim (clear_form r k round.tag m led.free o led.leads) [
        | inl same ↦
            let form = same_form r k round.tag m led.free same.0 (led.leads ∙ same.1) in
            subst (λ (x : Outcome). is_repeat (kept_of (after (with_dropped d.responder ids) x)) round.tag m ≡ true) (sym same.1)
            (ap (λ (x : Option Kept). is_repeat x round.tag m) (kept_same ids d.responder ∙ sym keeps) ∙ form.0)
        | inr adds ↦
            let t : Turn = turn_of r (clear_place k) m led.free in
            let taken : is_taken t ≡ true = elim (turn_taken r round.tag m (clear_place k) led.free) [
              | inl is ↦ is
              | inr refused ↦ absurd (none-some refused.0 (sym (passes k led.free turns) ∙ refused.1))
            ] in
            subst (λ (x : Outcome). is_repeat (kept_of (after (with_dropped d.responder ids) x)) round.tag m ≡ true) (sym adds) (taken_again r round.tag m t (with_dropped d.responder ids) taken (turn_message r (clear_place k) m led.free))
      ]

  pub first_taken : (answer : List ℕ) (next : History) (fetching : Option (List ℕ)) → Answers r d round answer next fetching → is_repeat (kept_of next) round.tag (drop 1 round.body) ≡ true
  unfolding Answers
  first_taken answer next fetching (inl (a, x)) =
      let k = judging d.fetching round.body d.responder in
      subst (λ (l : History). is_repeat (kept_of l) round.tag m ≡ true) (sym a.6)
      (plainly (with_dropped k a.0) a.0 a.1 (turns_stay a.0 k ∙ ap clear_turns judged) (kept_same a.0 k ∙ kept_judging d.fetching round.body d.responder) a.2.1)
  first_taken answer next fetching (inr (inl (whole, a, x))) =
      subst (λ (l : History). is_repeat (kept_of l) round.tag m ≡ true) (sym a.6)
      ((large_leaves r (with_dropped (judging d.fetching round.body d.responder) a.0) round.tag round.body a.1 a.2.1 a.3).again d.responder type)
  first_taken answer next fetching (inr (inr (inl (whole, a, x)))) =
      let led = led_clear r d.responder round.tag round.body (Same answer) type a.1 in
      subst (λ (l : History). is_repeat (kept_of l) round.tag m ≡ true) (sym a.4) (same_form r d.responder round.tag m led.free answer led.leads).0
  first_taken answer next fetching (inr (inr (inr (a, x)))) = absurd (none-some a.0 (sym rest ∙ a.3))
