-- While a chunk is asked for, the requester asks for one still on what it does not take, and on a chunk in the clear
-- that is not the last one.
use Rattle.std.proofs.Common.{◌≡◌, ◌∙◌, ◌==◌, ◌+◌, ℕ, List, [], ◌∷◌, refl, sym, ap, subst, drop, Bool, true, false, Option, Some, None, Result, Ok, Err, cond}
use Rattle.std.specs.Prelude.{not, slice_index, unwrap_or}
use Rattle.std.proofs.lemmas.Bool.{false≢true, not-false}
use Rattle.std.proofs.lemmas.Option.{same_Some}
use Rattle.check_laws.specs.ChangeLaws.{accepted_by}
use Rattle.chunking.specs.Collecting.{joined_with}
use Rattle.requester_machine.proofs.Heard.{test_is_false}
use Rattle.requester_machine.specs.Asking.{Outcome}
use Rattle.requester_machine.specs.Asking.Outcome.{Warns}
use Rattle.requester_machine.specs.Bodies.{body_fault, error_in, has_tag, is_clear}
use Rattle.requester_machine.specs.ClearAnswers.{carried_by, carried_led, chunk_carries, clear_led, collected, get_fault, has_summary}
use Rattle.requester_machine.specs.ClearAnswers.Carried.{Further, Whole}
use Rattle.requester_machine.specs.Commands.{Free}
use Rattle.requester_machine.specs.Hearing.{clear_outcome, hears, hears_by, hears_to, on_record}
use Rattle.requester_machine.specs.History.{Effect, History, Led, connection_terms, outstanding}
use Rattle.requester_machine.specs.History.Effect.{Nothing}
use Rattle.requester_machine.specs.History.Entry.{TookClear}
use Rattle.requester_machine.specs.Message.{Aim, Ask, Sent}
use Rattle.requester_machine.specs.Message.Aim.{Plain, ByChunks, ForChunk, InSession}
use Rattle.requester_machine.specs.Sending.{get_sent}
use Rattle.requester_machine.specs.Setup.{ReqSetup}
use Rattle.requester_machine.specs.Shown as shown
use Rattle.spdm_grammar.proofs.CanonicalResponses.{response_spelled}
use Rattle.spdm_grammar.proofs.Spellings.{spelling_read}
use Rattle.spdm_grammar.specs.Fields.{FitsChunk, IsSoundChunk}
use Rattle.spdm_grammar.specs.Message.{ChunkMessage, RequestMessage, ResponseMessage}
use Rattle.spdm_grammar.specs.Message.ResponseMessage.{ChunkResponse}
use Rattle.spdm_grammar.specs.Responses.{canonical_response, response_layout, response_reading}
use Rattle.spdm_grammar.specs.declared.told.event.ReqIgnored.{ReqIgnored}
use Rattle.spdm_grammar.specs.declared.messages.malformed.Malformed.{Malformed}
use Rattle.spdm_grammar.specs.declared.messages.part_faults.ChunkFault.{ChunkFault}
use Rattle.spdm_machine.specs.Bodies.{clear_body}
use Rattle.spdm_machine.specs.Terms.{hash_len}
use Rattle.capture_machine.specs.LargeAnswers.{is_fetching, is_for_chunk}
use Rattle.capture_machine.specs.Rounds.{no_draw}
use Rattle.capture_machine.specs.SessionTable.{accepted_in}

-- A chunk is asked for after an outcome, and by it no PSK_EXCHANGE_RSP is taken.
abbrev pub AsksOn : History → Outcome → Type 0
AsksOn h o = (is_fetching (outstanding (shown.after h o)) ≡ true) × (accepted_by o ≡ None)

module _ (q : ReqSetup) (h : History) (f : Free) (tag : ℕ) (body : List ℕ) (gets : is_fetching (outstanding h) ≡ true) where
  -- What a message leads to asks for a chunk, and brings nothing about.
  abbrev LeadsOn : Result Led ReqIgnored → Type 0
  LeadsOn (Err cause) = Unit {0}
  LeadsOn (Ok led) = (is_fetching led.next ≡ true) × (led.effect ≡ Nothing)

  clear_on : (m : List ℕ) (result : Result Led ReqIgnored) → LeadsOn result → AsksOn h (clear_outcome tag m no_draw result)
  clear_on m (Err cause) leads = (gets, refl)
  clear_on m (Ok led) leads = (leads.0, ap (λ (x : Effect). accepted_in (TookClear tag m (record led { effect = x }) no_draw ∷ [])) leads.1)

  collected_on : (a : RequestMessage) (c : ChunkMessage) (before : List ChunkMessage) (fault : Option ChunkFault) → c.last ≡ false → LeadsOn (carried_led q h f a (collected h a before c fault))
  collected_on a c before (Some fault) more = tt
  collected_on a c before None more =
      subst (λ (b : Bool). LeadsOn (carried_led q h f a (cond b (Whole (joined_with before c) 0) (Further (get_sent h a c.handle (c.number + 1) (c ∷ before)))))) (sym more) (refl, refl)

  reads_chunk : (len : ℕ) (summary : Bool) (c : ChunkMessage) → FitsChunk c → IsSoundChunk c → response_reading len summary (canonical_response (ChunkResponse c)) ≡ Ok (ChunkResponse c)
  reads_chunk len summary c fits sound =
      spelling_read (response_layout len summary) 0 (ChunkResponse c) (canonical_response (ChunkResponse c)) (response_spelled len summary (ChunkResponse c) fits sound).is

  led_on : (a : RequestMessage) (handle number : ℕ) (before : List ChunkMessage) (c : ChunkMessage) → FitsChunk c → IsSoundChunk c → c.last ≡ false
      → LeadsOn (clear_led q h f (ForChunk a handle number before) a (canonical_response (ChunkResponse c)))
  unfolding clear_led carried_by
  led_on a handle number before c fits sound more =
      subst (λ (x : Result ResponseMessage Malformed). LeadsOn (carried_led q h f a (chunk_carries q h a handle number before x))) (sym (reads_chunk (hash_len (connection_terms h)) (has_summary a) c fits sound))
      (collected_on a c before (get_fault q.max handle number before c) more)

  -- Nothing in the clear is taken for a session.
  session_on : (id : ℕ) (ask : Ask) → is_clear body ≡ true → AsksOn h (hears_to q h f tag body no_draw (InSession id ask))
  session_on id ask clear = subst (λ (b : Bool). AsksOn h (cond b (Warns (unwrap_or (error_in (drop 1 body)) 0)) (on_record q h f tag id ask (drop 1 body) no_draw))) (sym clear) (gets, refl)

  aims_on : (aim : Aim) → is_for_chunk aim ≡ true → is_clear body ≡ true
      → ((a : RequestMessage) (handle number : ℕ) (before : List ChunkMessage) → LeadsOn (clear_led q h f (ForChunk a handle number before) a (drop 1 body)))
      → AsksOn h (hears_to q h f tag body no_draw aim)
  aims_on (ForChunk a handle number before) for clear leads = clear_on (drop 1 body) _ (leads a handle number before)
  aims_on (InSession id ask) for clear leads = session_on id ask clear
  aims_on (Plain a) for clear leads = absurd (false≢true for)
  aims_on (ByChunks a handle number) for clear leads = absurd (false≢true for)

  by_cause : (waiting : Option Sent) (cause : Option ReqIgnored) → ((s : Sent) → waiting ≡ Some s → cause ≡ None → AsksOn h (hears_to q h f tag body no_draw s.aim))
      → AsksOn h (hears_by q h f tag body no_draw waiting cause)
  by_cause waiting (Some cause) asks = (gets, refl)
  by_cause None None asks = (gets, refl)
  by_cause (Some s) None asks = asks s refl refl

  -- On what comes under another tag.
  pub other_tag_on : (s : Sent) → outstanding h ≡ Some s → has_tag (Some s) tag ≡ false → AsksOn h (hears q h false tag body f no_draw)
  unfolding hears
  other_tag_on s waits apart = by_cause (outstanding h) (body_fault q (outstanding h) false tag body) (λ x is none. absurd (false≢true (sym apart ∙ ap (λ (o : Option Sent). has_tag o tag) (sym waits) ∙ right none)))
    where
      right : body_fault q (outstanding h) false tag body ≡ None → has_tag (outstanding h) tag ≡ true
      right none = not-false (has_tag (outstanding h) tag) (test_is_false q (outstanding h) false tag body none 2)

  -- On a chunk in the clear that is not the last one.
  pub chunk_on : (c : ChunkMessage) → FitsChunk c → IsSoundChunk c → c.last ≡ false → body ≡ clear_body (canonical_response (ChunkResponse c)) → AsksOn h (hears q h false tag body f no_draw)
  unfolding hears
  chunk_on c fits sound more is =
      by_cause (outstanding h) (body_fault q (outstanding h) false tag body)
      (λ s waits none. aims_on s.aim (sym (ap is_fetching waits) ∙ gets) (ap (λ (l : List ℕ). slice_index l 0 == 5) is)
      (λ a handle number before. subst (λ (l : List ℕ). LeadsOn (clear_led q h f (ForChunk a handle number before) a (drop 1 l))) (sym is) (led_on a handle number before c fits sound more)))

  -- On what comes in the clear, where it is asked for in a session.
  pub clear_in_session_on : (s : Sent) (id : ℕ) (ask : Ask) → outstanding h ≡ Some s → s.aim ≡ InSession id ask → is_clear body ≡ true → AsksOn h (hears q h false tag body f no_draw)
  unfolding hears
  clear_in_session_on s id ask waits aims clear =
      by_cause (outstanding h) (body_fault q (outstanding h) false tag body)
      (λ x is none. let same : s ≡ x = same_Some s x (sym waits ∙ is) in
      subst (λ (a : Aim). AsksOn h (hears_to q h f tag body no_draw a)) (sym aims ∙ ap (λ (y : Sent). y.aim) same) (session_on id ask clear))
