-- CHUNK_GET in the clear for the next chunk is answered by it.
use Rattle.std.proofs.Common.{◌≡◌, ◌<◌, ◌≤◌, ◌+◌, ◌^◌, ◌==◌, ◌&&◌, ◌||◌, ℕ, List, [], refl, sym, ap, ◌∙◌, subst, length, Bool, true, false, Option, Some, None, is_some, is_none, cond, arith, eq-eqb}
use Rattle.std.specs.Prelude.{not, nat_lt, unwrap_or}
use Rattle.std.specs.Option.{option_or}
use Rattle.std.specs.Result.{result_ok}
use Rattle.std.proofs.Math.Bool.{and-false}
use Rattle.std.proofs.lemmas.Bool.{le-ltb}
use Rattle.chunking.specs.Cutting.{chunk_count, nth_chunk}
use Rattle.spdm_grammar.specs.Message.{RequestMessage}
use Rattle.spdm_grammar.specs.Message.RequestMessage.{ChunkGet}
use Rattle.spdm_grammar.specs.Message.ResponseMessage.{ChunkResponse}
use Rattle.spdm_grammar.specs.Requests.{request_in, request_layout}
use Rattle.spdm_grammar.specs.Responses.{canonical_response}
use Rattle.spdm_grammar.specs.declared.messages.error_code.ErrorCode.{ErrorCode}
use Rattle.spdm_grammar.specs.declared.messages.error_code.ErrorCode.TheVariants.{InvalidRequest, UnexpectedRequest, RequestTooLarge}
use Rattle.spdm_grammar.specs.declared.names.TheConstants.{MAX_MESSAGE_SIZE}
use Rattle.spdm_grammar.specs.declared.names.request_code.TheConstants.{CHUNK_GET}
use Rattle.spdm_grammar.specs.declared.told.phase.Phase.{Phase}
use Rattle.spdm_grammar.specs.declared.told.phase.Phase.TheVariants.{Fresh, Versioned, Capable, Negotiated}
use Rattle.spdm_grammar.proofs.Spellings.{spelling_read}
use Rattle.spdm_grammar.proofs.CanonicalRequests.{request_spelled}
use Rattle.spdm_machine.specs.Bodies.{clear_body}
use Rattle.spdm_machine.specs.Terms.{hash_len}
use Rattle.responder_machine.specs.Answer.{Free, answer_bytes, request_at}
use Rattle.responder_machine.specs.Handling.{chunk_in, effect_of, goes_large, large_response, plain_turn, turn_by, turn_of}
use Rattle.responder_machine.specs.History.{History, kept_of}
use Rattle.responder_machine.specs.History.Entry.{Clear}
use Rattle.responder_machine.specs.LargeMessages.{given_of, handle_of, pending_of}
use Rattle.responder_machine.specs.Place.{Place, clear_place, place_terms}
use Rattle.responder_machine.specs.Refusal.{bytes_round, has_pending, is_get_refused, phase_allows, refusal, refused_contents, refused_form, sizes_are_known}
use Rattle.responder_machine.specs.Responder.{is_repeat, kept_reply, on_clear}
use Rattle.responder_machine.specs.Responder.Outcome.{Same, Adds}
use Rattle.responder_machine.specs.Setup.{RspSetup}
use Rattle.responder_machine.specs.Turn.{Turn}
use Rattle.check_laws.proofs.LeastValues.{least_allowed}
use Rattle.check_laws.specs.AnswersShown.{least_values}
use Rattle.check_late_laws.proofs.Sized.{chunk_few, transfer_few}
use Rattle.check_fetched_laws.proofs.GetAlike.{answer_is, contents_is, fits, get_code, pending_is}
use Rattle.check_fetched_laws.specs.ClearChunks.{IsNextGet, NextIsGiven, RepeatIsSame, get_entry, get_message, get_response}
use Rattle.capture_machine.proofs.FetchedTells.{kept_large, repeat_same}
use Rattle.capture_machine.proofs.PlainTells.{led_clear}
use Rattle.capture_machine.specs.CapturedAnswers.{MayLeadTo, answer_at}
use Rattle.capture_machine.specs.LargeAnswers.{with_large}
use Rattle.capture_machine.specs.Rounds.{no_draw}

-- It is read as such, under any hash.
get_read : (n handle number : ℕ) → handle < 256 → number < 2 ^ 16 → request_in n (get_message handle number) ≡ Some (ChunkGet handle number)
get_read n handle number byte few = ap result_ok (spelling_read (request_layout n) 0 (ChunkGet handle number) (get_message handle number) (request_spelled n (ChunkGet handle number) (byte, few) tt).is)

allows_get : (phase : Phase) → phase_allows phase true CHUNK_GET ≡ true
allows_get Fresh = refl
allows_get Versioned = refl
allows_get Capable = refl
allows_get Negotiated = refl

module _ (r : RspSetup) (h : History) (whole : List ℕ) (tag handle number : ℕ) (next : IsNextGet r h whole tag handle number) where
  abbrev p : Place
  p = clear_place (with_large None whole h)

  abbrev m : List ℕ
  m = get_message handle number

  abbrev response : List ℕ
  response = get_response h whole handle number

  asked : request_at p m ≡ Some (ChunkGet handle number)
  asked = get_read (hash_len (place_terms p)) handle number next.byte next.few

  pending : pending_of (place_terms p).common.to_requester.transfer p.turns ≡ Some whole
  pending =
      pending_is p whole next.large (ap (λ (n : ℕ). nat_lt n (chunk_count (place_terms p).common.to_requester.transfer whole)) next.given ∙ next.more)

  allows : phase_allows p.phase (has_pending p) CHUNK_GET ≡ true
  allows = ap (λ (o : Option (List ℕ)). phase_allows p.phase (is_some o) CHUNK_GET) pending ∙ allows_get p.phase

  long : nat_lt r.transfer 6 ≡ false
  long = le-ltb r.transfer 6 next.room

  form_none : refused_form r p m ≡ None
  unfolding refused_form
  form_none =
      ap (λ (b : Bool). cond b (Some RequestTooLarge) (cond (not (phase_allows p.phase (has_pending p) CHUNK_GET)) (Some UnexpectedRequest) (cond (is_none (request_at p m)) (Some InvalidRequest) None))) long
      ∙ ap (λ (b : Bool). cond (not b) (Some UnexpectedRequest) (cond (is_none (request_at p m)) (Some InvalidRequest) None)) allows
      ∙ ap (λ (q : Option RequestMessage). cond (is_none q) (Some InvalidRequest) None) asked

  right : is_get_refused p (Some (ChunkGet handle number)) ≡ false
  right =
      ap (λ (b : Bool). not b || not (number == given_of p.turns)) (eq-eqb handle (handle_of p.turns) (sym next.same)) ∙ ap not (eq-eqb number (given_of p.turns) (sym next.given))

  module _ (f : Free) where
    none : refusal r p m f ≡ None
    unfolding refusal
    none =
        ap (λ (x : Option ErrorCode). option_or x (refused_contents r p m f)) form_none
        ∙ contents_is r m handle number p f asked
        ∙ ap (λ (b : Bool). get_code b (is_get_refused p (Some (ChunkGet handle number)))) next.chunks ∙ ap (get_code true) right

    answer : answer_bytes r p m f ≡ response
    answer =
        answer_is r m handle number p f asked
        ∙ ap (λ (o : Option (List ℕ)). canonical_response (ChunkResponse (nth_chunk (place_terms p).common.to_requester.transfer handle (unwrap_or o []) number))) pending

    small : goes_large p (answer_bytes r p m f) ≡ false
    small =
        let few = fits r m handle number p f asked next.chunks in
        let n : ℕ = length (answer_bytes r p m f) in
        ap (λ (b : Bool). sizes_are_known p.phase && b) (le-ltb (place_terms p).common.to_requester.transfer (bytes_round p.at + n) (omega (arith, few))) ∙ and-false (sizes_are_known p.phase)

    turn_is : Clear tag (turn_of r p m f) no_draw ≡ get_entry tag handle number response
    unfolding turn_of
    turn_is =
        let at : Option RequestMessage → List ℕ → Bool → Turn =
        λ q l b. record { message = m; refused = None; chunk = None; effect = effect_of q m l (cond b (Some f.handle) None); reply = cond b (large_response f.handle) l } in
        let turn : turn_by r p m f (refusal r p m f) (chunk_in (request_at p m)) ≡ plain_turn r p m f =
        ap (λ (x : Option ErrorCode). turn_by r p m f x (chunk_in (request_at p m))) none ∙ ap (λ (q : Option RequestMessage). turn_by r p m f None (chunk_in q)) asked in
        ap (λ (t : Turn). Clear tag t no_draw) (
        turn
        ∙ ap (λ (q : Option RequestMessage). at q (answer_bytes r p m f) (goes_large p (answer_bytes r p m f))) asked
        ∙ ap (at (Some (ChunkGet handle number)) (answer_bytes r p m f)) small
        ∙ ap (λ (l : List ℕ). at (Some (ChunkGet handle number)) l false) answer)

    pub gives : on_clear r (with_large None whole h) tag m f no_draw ≡ Adds (get_entry tag handle number response)
    unfolding on_clear
    gives =
        ap (λ y. cond (is_repeat y tag m) (Same (clear_body (kept_reply y))) (Adds (Clear tag (turn_of r p m f) no_draw))) (kept_large None whole h)
        ∙ ap (λ (b : Bool). cond b (Same (clear_body (kept_reply (kept_of h)))) (Adds (Clear tag (turn_of r p m f) no_draw))) next.anew
        ∙ ap Adds turn_is

pub next_is_given : NextIsGiven
unfolding MayLeadTo
next_is_given r h whole tag handle number outcome next = (to_given, from_given)
  where
    to_given : MayLeadTo r (with_large None whole h) tag (clear_body (get_message handle number)) outcome → outcome ≡ Adds (get_entry tag handle number (get_response h whole handle number))
    to_given may = sym may.3 ∙ gives r h whole tag handle number next may.0

    from_given : outcome ≡ Adds (get_entry tag handle number (get_response h whole handle number)) → MayLeadTo r (with_large None whole h) tag (clear_body (get_message handle number)) outcome
    from_given is =
        let g : History = with_large None whole h in
        let k : Free = least_values g (clear_place g) in
        let m : List ℕ = get_message handle number in
        let few : length (answer_bytes r (clear_place g) m k) ≤ MAX_MESSAGE_SIZE =
        subst (λ (l : List ℕ). length l ≤ MAX_MESSAGE_SIZE) (sym (answer r h whole tag handle number next k)) (chunk_few _ handle whole number (transfer_few (clear_place g))) in (
          k,
          least_allowed g (clear_place g) [] (omega arith),
          subst (λ (c : _). length (answer_at r (clear_place g) m k c) ≤ MAX_MESSAGE_SIZE) (sym (ap chunk_in (asked r h whole tag handle number next))) few,
          gives r h whole tag handle number next k ∙ sym is,
        )

pub repeat_is_same : RepeatIsSame
repeat_is_same r h whole tag message outcome again may =
    let led = led_clear r (with_large None whole h) tag (clear_body message) outcome refl may in
    sym led.leads ∙ repeat_same r h None whole [] tag message led.free again
