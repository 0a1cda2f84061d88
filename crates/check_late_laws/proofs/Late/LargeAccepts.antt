-- By LargeResponse in the clear the requester accepts no session, where it awaited no chunk.
use Rattle.std.proofs.Common.{◌≡◌, ◌&&◌, ℕ, List, [], ◌∷◌, refl, sym, ap, ◌∙◌, subst, drop, Bool, true, false, Option, Some, None, cond, inl, inr, arith}
use Rattle.std.specs.Prelude.{Result, Ok, Err}
use Rattle.std.proofs.lemmas.Bool.{false≢true}
use Rattle.std.proofs.lemmas.Option.{none-some, same_Some}
use Rattle.negotiate.specs.declared.shared.Common.{Common}
use Rattle.check_laws.specs.ChangeLaws.{accepted_by}
use Rattle.check_laws.specs.Keeping.{Kept, restored}
use Rattle.check_laws.specs.KeptChanges.{accepted_from}
use Rattle.check_laws.specs.RepliesShown.{no_values}
use Rattle.requester_machine.proofs.Heard.{heard}
use Rattle.requester_machine.specs.Answers.{goes_on, is_refused, may_be_large}
use Rattle.requester_machine.specs.Asking.{Outcome}
use Rattle.requester_machine.specs.Asking.Outcome.{Fails, Ignores, Warns, Resends, Adds}
use Rattle.requester_machine.specs.ClearAnswers.{ack_carries, carried_by, carried_led, clear_led, has_summary, read_led, reading_of}
use Rattle.requester_machine.specs.Commands.{Free}
use Rattle.requester_machine.specs.Hearing.{hears}
use Rattle.requester_machine.specs.History.{Entry, History, Led, connection_terms, outstanding}
use Rattle.requester_machine.specs.History.Effect.{Nothing, Refuses}
use Rattle.requester_machine.specs.History.Entry.{TookClear}
use Rattle.requester_machine.specs.Message.{Aim, Sent, asked_in}
use Rattle.requester_machine.specs.Message.Aim.{Plain, ByChunks, ForChunk, InSession}
use Rattle.requester_machine.specs.Sending.{get_sent, piece_of}
use Rattle.requester_machine.specs.Setup.{ReqSetup}
use Rattle.responder_machine.specs.Handling.{large_response}
use Rattle.spdm_grammar.specs.ErrorNumber.{error_number}
use Rattle.spdm_grammar.proofs.CanonicalResponses.{response_spelled}
use Rattle.spdm_grammar.proofs.Spellings.{spelling_read}
use Rattle.spdm_grammar.specs.Message.{ChunkMessage, RequestMessage, ResponseMessage}
use Rattle.spdm_grammar.specs.Message.ResponseMessage.{Error}
use Rattle.spdm_grammar.specs.Responses.{canonical_response, response_layout, response_reading}
use Rattle.spdm_grammar.specs.declared.names.spdm_version.TheConstants.{V1_2}
use Rattle.spdm_grammar.specs.declared.messages.error_code.ErrorCode.TheVariants.{LargeResponse}
use Rattle.spdm_grammar.specs.declared.told.event.ReqIgnored.{ReqIgnored}
use Rattle.spdm_grammar.specs.declared.messages.malformed.Malformed.{Malformed}
use Rattle.spdm_machine.specs.Terms.{hash_len}
use Rattle.capture_machine.specs.LargeAnswers.{is_fetching, is_for_chunk}
use Rattle.capture_machine.specs.Rounds.{no_draw}
use Rattle.capture_machine.specs.SessionTable.{accepted_in}

-- ---- Reading.

reads_large : (len handle : ℕ) (summary : Bool) → response_reading len summary (large_response handle) ≡ Ok (Error V1_2 (error_number LargeResponse) 0 (handle ∷ []))
reads_large len handle summary =
    let v : ResponseMessage = Error V1_2 (error_number LargeResponse) 0 (handle ∷ []) in
    spelling_read (response_layout len summary) 0 v (canonical_response v) (response_spelled len summary v (omega arith, omega arith) (inr refl, (λ e. absurd (omega (arith, e)), λ e. refl, omega arith))).is

-- ---- What it leads to.

module _ (q : ReqSetup) (h : History) (f : Free) (tag : ℕ) (m : List ℕ) where
  -- It accepts none.
  abbrev NoneBy : Result Led ReqIgnored → Type 0
  NoneBy (Ok led) = accepted_in (TookClear tag m led no_draw ∷ []) ≡ None
  NoneBy (Err cause) = Unit {0}

  error_none : (a : RequestMessage) (handle : ℕ) (b : Bool) → NoneBy (Ok (cond b (goes_on Nothing (get_sent h a handle 0 [])) (is_refused (error_number LargeResponse) (Refuses a))))
  error_none a handle true = refl
  error_none a handle false = refl

  whole_none : (at : ℕ) (a : RequestMessage) (handle : ℕ) → NoneBy (read_led q h f at a (large_response handle) (reading_of h a (large_response handle)))
  whole_none at a handle =
      subst (λ (x : Result ResponseMessage Malformed). NoneBy (read_led q h f at a (large_response handle) x)) (sym (reads_large (hash_len (connection_terms h)) handle (has_summary a)))
      (error_none a handle (may_be_large a && (connection_terms h).common.chunk))

  plain_none : (a : RequestMessage) (handle : ℕ) → NoneBy (clear_led q h f (Plain a) a (large_response handle))
  unfolding clear_led carried_by
  plain_none a handle = whole_none 0 a handle

  error_acked : (common : Common) (a : RequestMessage) (piece : ChunkMessage) (handle : ℕ) → NoneBy (carried_led q h f a (ack_carries h common a piece (reading_of h a (large_response handle))))
  error_acked common a piece handle =
      subst (λ (x : Result ResponseMessage Malformed). NoneBy (carried_led q h f a (ack_carries h common a piece x))) (sym (reads_large (hash_len (connection_terms h)) handle (has_summary a))) refl

  chunks_none : (a : RequestMessage) (own number handle : ℕ) → NoneBy (clear_led q h f (ByChunks a own number) a (large_response handle))
  unfolding clear_led carried_by
  chunks_none a own number handle = error_acked (connection_terms h).common a (piece_of (connection_terms h).common a own number) handle

  led_none : (aim : Aim) (a : RequestMessage) (handle : ℕ) → asked_in aim ≡ Some a → is_for_chunk aim ≡ false → NoneBy (clear_led q h f aim a (large_response handle))
  led_none (Plain x) a handle is other = subst (λ (y : RequestMessage). NoneBy (clear_led q h f (Plain y) a (large_response handle))) (sym (same_Some x a is)) (plain_none a handle)
  led_none (ByChunks x own number) a handle is other = subst (λ (y : RequestMessage). NoneBy (clear_led q h f (ByChunks y own number) a (large_response handle))) (sym (same_Some x a is)) (chunks_none a own number handle)
  led_none (ForChunk x own number before) a handle is other = absurd (false≢true (sym other))
  led_none (InSession id ask) a handle is other = absurd (none-some a is)

module _ (q : ReqSetup) (h : History) (f : Free) (tag : ℕ) (answer : List ℕ) (none : is_fetching (outstanding h) ≡ false) (handle : ℕ) (is : drop 1 answer ≡ large_response handle) where
  waits_none : (sent : Sent) → outstanding h ≡ Some sent → is_for_chunk sent.aim ≡ false
  waits_none sent waits = sym (ap is_fetching waits) ∙ none

  by_entry : (entry : Entry) → hears q h false tag answer f no_draw ≡ Adds entry → accepted_in (entry ∷ []) ≡ None
  by_entry entry adds = elim (heard q h false tag answer f no_draw entry adds) [
    | inl t ↦
        ap (λ (e : Entry). accepted_in (e ∷ [])) t.is
        ∙ subst (NoneBy q h f tag (drop 1 answer)) (ap (clear_led q h f t.sent.aim t.asked) (sym is) ∙ t.leads) (led_none q h f tag (drop 1 answer) t.sent.aim t.asked handle t.asks (waits_none t.sent t.waits))
    | inr o ↦ ap (λ (e : Entry). accepted_in (e ∷ [])) o.1.is
  ]

  by_outcome : (o : Outcome) → hears q h false tag answer f no_draw ≡ o → accepted_by o ≡ None
  by_outcome (Fails fault) same = refl
  by_outcome (Ignores cause) same = refl
  by_outcome (Warns code) same = refl
  by_outcome (Resends sent) same = refl
  by_outcome (Adds entry) same = by_entry entry same

pub large_accepts_none : (k : Kept) (tag : ℕ) (answer : List ℕ) (handle : ℕ) → is_fetching (outstanding (restored k).requester) ≡ false → drop 1 answer ≡ large_response handle → accepted_from k tag answer ≡ None
unfolding accepted_from
large_accepts_none k tag answer handle none is =
    by_outcome k.setup (restored k).requester no_values tag answer none handle is (hears k.setup (restored k).requester false tag answer no_values no_draw) refl
