-- A requester that awaits the answer to a request in the clear, whole or in chunks, and no chunk of an answer, asks for
-- a chunk on LargeResponse alone, plain or in the acknowledgement of its last chunk; its request is one to which the
-- answer may be large.
use Rattle.std.proofs.Common.{◌≡◌, ◌==◌, ◌+◌, ◌∙◌, ℕ, List, refl, sym, ap, subst, drop, Bool, true, false, Option, Some, None, Result, Ok, Err, cond, eq-eqb, eqb-true}
use Rattle.std.specs.Prelude.{not, slice_index}
use Rattle.std.proofs.lemmas.Bool.{false≢true, not-false}
use Rattle.check_responder.specs.JudgedResponder.{shows_large}
use Rattle.check_laws.specs.DropsShown.{response_of}
use Rattle.check_late_laws.proofs.Late.AckBytes.{ack_bytes}
use Rattle.check_fetched_laws.proofs.LargeAsked.{ShowsIn, answer_shows, plain_shows, sent_plain}
use Rattle.negotiate.specs.declared.shared.Common.{Common}
use Rattle.requester_machine.proofs.ClearLeads.{ClearLeads, clear_leads}
use Rattle.requester_machine.proofs.ClearLeads.ClearLeads.{ByRefusal, ByLarge, BySend, ByGet, ByStop, ByVersion, ByCaps, ByChoice, ByMeasured, ByExchange}
use Rattle.requester_machine.proofs.Heard.{test_is_false}
use Rattle.requester_machine.specs.Answers.{may_be_large}
use Rattle.requester_machine.specs.Bodies.{body_fault, first_cause}
use Rattle.requester_machine.specs.ClearAnswers.{ack_carries, ack_tests, acknowledged, carried_by, carried_led, clear_led, has_summary, read_led, reading_of}
use Rattle.requester_machine.specs.ClearAnswers.Carried.{Whole, Further}
use Rattle.requester_machine.specs.Commands.{Free}
use Rattle.requester_machine.specs.Hearing.{clear_outcome, hears, hears_by, hears_to}
use Rattle.requester_machine.specs.History.{History, Led, connection_terms, outstanding}
use Rattle.requester_machine.specs.Message.{Aim, Sent, asked_in}
use Rattle.requester_machine.specs.Message.Aim.{Plain, ByChunks}
use Rattle.requester_machine.specs.Sending.{is_too_long, piece_of, piece_sent, plain_sent, request_sent}
use Rattle.requester_machine.specs.Setup.{ReqSetup}
use Rattle.requester_machine.specs.Shown.{after}
use Rattle.spdm_grammar.specs.Message.{ChunkMessage, RequestMessage, ResponseMessage}
use Rattle.spdm_grammar.specs.Message.RequestMessage.{NegotiateAlgorithms}
use Rattle.spdm_grammar.specs.Message.ResponseMessage.{ChunkSendAck, Error}
use Rattle.spdm_grammar.specs.Requests.{canonical_request}
use Rattle.spdm_grammar.specs.declared.told.event.ReqIgnored.{ReqIgnored}
use Rattle.spdm_grammar.specs.declared.messages.malformed.Malformed.{Malformed}
use Rattle.spdm_grammar.specs.declared.names.response_code.TheConstants.{CHUNK_SEND_ACK, ERROR}
use Rattle.spdm_basis.proofs.Bools.{and_first}
use Rattle.spdm_machine.specs.Terms.{hash_len}
use Rattle.capture_machine.specs.LargeAnswers.{is_fetching, is_for_chunk}
use Rattle.capture_machine.specs.Rounds.{no_draw}

-- LargeResponse that stands in no acknowledgement.
pub response_plain : (l : List ℕ) → shows_large l ≡ true → response_of l ≡ l
response_plain l large =
    let code : slice_index l 1 ≡ ERROR = eqb-true (slice_index l 1) ERROR (and_first (slice_index l 1 == ERROR) _ large) in ap (λ (n : ℕ). cond (n == CHUNK_SEND_ACK) (drop 6 l) l) code

-- What an acknowledgement carries.
response_acked : (m : List ℕ) → slice_index m 1 ≡ CHUNK_SEND_ACK → response_of m ≡ drop 6 m
response_acked m is = ap (λ (n : ℕ). cond (n == CHUNK_SEND_ACK) (drop 6 m) m) is

-- ---- What may be asked.

module _ (q : ReqSetup) (h : History) (f : Free) (m : List ℕ) where
  sends_none : (led : Led) (o : Option Sent) → led.next ≡ o → is_fetching o ≡ false → is_fetching led.next ≡ true → ⊥
  sends_none led o is none gets = false≢true (sym none ∙ ap is_fetching (sym is) ∙ gets)

  pub asks_may : (aim : Aim) (a : RequestMessage) (led : Led) → is_for_chunk aim ≡ false → ClearLeads q h f aim m a led → is_fetching led.next ≡ true → may_be_large a ≡ true
  asks_may aim a led plain (ByRefusal code is) gets = absurd (sends_none led None (ap (λ (l : Led). l.next) is) refl gets)
  asks_may aim a led plain (ByLarge handle may is) gets = may
  asks_may aim a led plain (BySend handle number aims more is) gets = absurd (sends_none led (Some (piece_sent (connection_terms h).common h a handle (number + 1))) (ap (λ (l : Led). l.next) is) refl gets)
  asks_may aim a led plain (ByGet handle number before c aims none more is) gets = absurd (false≢true (sym plain ∙ ap is_for_chunk aims))
  asks_may aim a led plain (ByStop why may is) gets = absurd (sends_none led None (ap (λ (l : Led). l.next) is) refl gets)
  asks_may aim a led plain (ByVersion answer asked is) gets = absurd (sends_none led _ (ap (λ (l : Led). l.next) is) refl gets)
  asks_may aim a led plain (ByCaps caps theirs answer common offer asked read settled offers short is) gets =
      absurd (sends_none led (Some (request_sent common h (NegotiateAlgorithms offer))) (ap (λ (l : Led). l.next) is) (sent_plain common h (NegotiateAlgorithms offer)) gets)
  asks_may aim a led plain (ByChoice offer answer asked is) gets = absurd (sends_none led None (ap (λ (l : Led). l.next) is) refl gets)
  asks_may aim a led plain (ByMeasured op answer finish asked is) gets = absurd (sends_none led None (ap (λ (l : Led). l.next) is) refl gets)
  asks_may aim a led plain (ByExchange exchange answer rsp asked read right is) gets = absurd (sends_none led _ (ap (λ (l : Led). l.next) is) refl gets)

  -- ---- What is shown.

  abbrev pub IsShownLarge : Type 0
  IsShownLarge = (shows_large (response_of m) ≡ true) × ((connection_terms h).common.chunk ≡ true)

  abbrev CarriesIn : Result Led ReqIgnored → Type 0
  CarriesIn (Ok led) = is_fetching led.next ≡ true → IsShownLarge
  CarriesIn (Err cause) = Unit {0}

  plain_in : (x : Result Led ReqIgnored) → ShowsIn q h f m x → CarriesIn x
  plain_in (Ok led) shows = λ gets. let is = shows gets in (ap shows_large (response_plain m is.0) ∙ is.0, is.1)
  plain_in (Err cause) shows = tt

  acked_in : (response : List ℕ) → slice_index m 1 ≡ CHUNK_SEND_ACK → response ≡ drop 6 m → (x : Result Led ReqIgnored) → ShowsIn q h f response x → CarriesIn x
  acked_in response code is (Ok led) shows = λ gets. let large = shows gets in (ap shows_large (response_acked m code ∙ sym is) ∙ large.0, large.1)
  acked_in response code is (Err cause) shows = tt

  read_in : (a : RequestMessage) (response : List ℕ) (x : Result ResponseMessage Malformed) → reading_of h a response ≡ x → ShowsIn q h f response (read_led q h f 6 a response x)
  read_in a response (Err fault) reads = tt
  read_in a response (Ok value) reads = answer_shows q h f response 6 a value reads

  module _ (a : RequestMessage) (handle number : ℕ) where
    abbrev common : Common
    common = (connection_terms h).common

    abbrev piece : ChunkMessage
    piece = piece_of common a handle number

    by_last : (response : List ℕ) → slice_index m 1 ≡ CHUNK_SEND_ACK → response ≡ drop 6 m → (early : Bool) (o : Option ReqIgnored) → CarriesIn (carried_led q h f a (acknowledged h common a piece early response o))
    by_last response code is early (Some cause) = tt
    by_last response code is true None = λ gets. absurd (false≢true gets)
    by_last response code is false None = by_piece piece.last
      where
        by_piece : (b : Bool) → CarriesIn (carried_led q h f a (cond b (Whole response 6) (Further (piece_sent common h a piece.handle (piece.number + 1)))))
        by_piece true = acked_in response code is (read_led q h f 6 a response (reading_of h a response)) (read_in a response (reading_of h a response) refl)
        by_piece false = λ gets. absurd (false≢true gets)

    ack_in : (x : Result ResponseMessage Malformed) → reading_of h a m ≡ x → CarriesIn (carried_led q h f a (ack_carries h common a piece x))
    ack_in (Err fault) reads = tt
    ack_in (Ok (Error version code detail extended)) reads = λ gets. absurd (false≢true gets)
    ack_in (Ok (ChunkSendAck early its_handle its_number response)) reads =
        let bytes = ack_bytes (hash_len (connection_terms h)) (has_summary a) m early its_handle its_number response reads in
        by_last response bytes.0 bytes.1 early (first_cause (ack_tests piece early its_handle its_number response))
    ack_in (Ok value) reads = tt

  chunks_in : (a : RequestMessage) (handle number : ℕ) → CarriesIn (clear_led q h f (ByChunks a handle number) a m)
  unfolding clear_led carried_by
  chunks_in a handle number = ack_in a handle number (reading_of h a m) refl

  whole_in : (a : RequestMessage) → CarriesIn (clear_led q h f (Plain a) a m)
  whole_in a = plain_in (clear_led q h f (Plain a) a m) (plain_shows q h f m a)

  -- Where it asks for a chunk.
  led_in : (x : Result Led ReqIgnored) (led : Led) → x ≡ Ok led → CarriesIn x → is_fetching led.next ≡ true → IsShownLarge
  led_in x led is shows = subst CarriesIn is shows

  pub chunk_shows : (a : RequestMessage) (handle number : ℕ) (led : Led) → clear_led q h f (ByChunks a handle number) a m ≡ Ok led → is_fetching led.next ≡ true → IsShownLarge
  chunk_shows a handle number led is gets = led_in (clear_led q h f (ByChunks a handle number) a m) led is (chunks_in a handle number) gets

  pub whole_shows : (a : RequestMessage) (led : Led) → clear_led q h f (Plain a) a m ≡ Ok led → is_fetching led.next ≡ true → IsShownLarge
  whole_shows a led is gets = led_in (clear_led q h f (Plain a) a m) led is (whole_in a) gets
