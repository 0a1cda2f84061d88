-- In a history that a requester made, the messages of a complete negotiation are what they should be.
use Rattle.std.proofs.Common.{◌≡◌, ◌+◌, ℕ, List, ◌∷◌, drop, Bool, cond, Option, Some, None, refl, sym, subst}
use Rattle.std.specs.Prelude.{Ok, Err, Result, unwrap_or}
use Rattle.chunking.specs.Collecting.{joined_with}
use Rattle.negotiate.specs.declared.shared.Common.{Common}
use Rattle.requester_machine.specs.Asking.{Outcome}
use Rattle.requester_machine.specs.Asking.Outcome.{Adds}
use Rattle.requester_machine.specs.Bodies.{body_fault, is_clear, error_in, first_cause}
use Rattle.requester_machine.specs.ClearAnswers.{Carried, ack_tests, acknowledged, ack_carries, collected, get_fault, chunk_carries, carried_by, carried_led, read_led, reading_of, clear_led}
use Rattle.requester_machine.specs.ClearAnswers.Carried.{Ignored, Refused, Further, Whole}
use Rattle.requester_machine.specs.Commands.{Free}
use Rattle.requester_machine.specs.Hearing.{hears, hears_by, hears_to, on_record, record_outcome, came_to, clear_outcome}
use Rattle.requester_machine.specs.History.{History, Led, outstanding, connection_terms, phase_of, negotiation_of, negotiates}
use Rattle.requester_machine.specs.History.Entry.{TookClear}
use Rattle.requester_machine.specs.Message.{Ask, Aim, Sent, asked_in}
use Rattle.requester_machine.specs.Message.Aim.{Plain, ByChunks, ForChunk, InSession}
use Rattle.requester_machine.specs.Sending.{piece_sent, piece_of, get_sent}
use Rattle.spdm_basis.specs.declared.causes.record_fault.RecordFault.{RecordFault}
use Rattle.spdm_grammar.specs.Message.{RequestMessage, ResponseMessage, ChunkMessage}
use Rattle.spdm_grammar.specs.Message.ResponseMessage.{Error, ChunkSendAck, ChunkResponse}
use Rattle.spdm_grammar.specs.declared.told.event.ReqIgnored.{ReqIgnored}
use Rattle.spdm_grammar.specs.declared.messages.malformed.Malformed.{Malformed}
use Rattle.spdm_grammar.specs.declared.messages.part_faults.ChunkFault.{ChunkFault}
use Rattle.spdm_machine.specs.Keys.{Draw}
use Rattle.requester_machine.specs.Setup.{ReqSetup}
use Rattle.spdm_agreement.proofs.Requester.ClearLeads.{either}
use Rattle.spdm_agreement.proofs.Requester.NegotiationInvariant.{PhaseSound, AskSound, LedSound, OwnReads, asked_of, answer_sound, ResultSound, refused_phase}

-- ---- What is carried goes on with what was asked.

abbrev SameAsk : RequestMessage → Carried → Type 0
SameAsk asked (Further next) = asked_in next.aim ≡ Some asked
SameAsk asked _ = Unit {0}

acknowledged_same : (h : History) (common : Common) (asked : RequestMessage) (piece : ChunkMessage) (early : Bool) (response : List ℕ) (cause : Option ReqIgnored) → SameAsk asked (acknowledged h common asked piece early response cause)
acknowledged_same h common asked piece early response (Some cause) = tt
acknowledged_same h common asked piece early response None =
    either (SameAsk asked) early (Refused (unwrap_or (error_in response) 0)) (cond piece.last (Whole response 6) (Further (piece_sent common h asked piece.handle (piece.number + 1)))) tt
    (either (SameAsk asked) piece.last (Whole response 6) (Further (piece_sent common h asked piece.handle (piece.number + 1))) tt refl)

ack_same : (h : History) (common : Common) (asked : RequestMessage) (piece : ChunkMessage) (reading : Result ResponseMessage Malformed) → SameAsk asked (ack_carries h common asked piece reading)
ack_same h common asked piece (Err fault) = tt
ack_same h common asked piece (Ok (Error version code detail extended)) = tt
ack_same h common asked piece (Ok (ChunkSendAck early handle number response)) = acknowledged_same h common asked piece early response (first_cause (ack_tests piece early handle number response))
ack_same h common asked piece (Ok _) = tt

collected_same : (h : History) (asked : RequestMessage) (before : List ChunkMessage) (c : ChunkMessage) (fault : Option ChunkFault) → SameAsk asked (collected h asked before c fault)
collected_same h asked before c (Some fault) = tt
collected_same h asked before c None = either (SameAsk asked) c.last (Whole (joined_with before c) 0) (Further (get_sent h asked c.handle (c.number + 1) (c ∷ before))) tt refl

chunk_same : (q : ReqSetup) (h : History) (asked : RequestMessage) (handle number : ℕ) (before : List ChunkMessage) (reading : Result ResponseMessage Malformed) → SameAsk asked (chunk_carries q h asked handle number before reading)
chunk_same q h asked handle number before (Err fault) = tt
chunk_same q h asked handle number before (Ok (Error version code detail extended)) = tt
chunk_same q h asked handle number before (Ok (ChunkResponse c)) = collected_same h asked before c (get_fault q.max handle number before c)
chunk_same q h asked handle number before (Ok _) = tt

module _ (q : ReqSetup) (own : OwnReads q) (h : History) (f : Free) (sound : PhaseSound (phase_of h) (negotiation_of h)) where
  abbrev Fine : Result Led ReqIgnored → Type 0
  Fine (Ok led) = LedSound (phase_of h) (negotiation_of h) led
  Fine (Err cause) = Unit {0}

  fine : (r : Result Led ReqIgnored) → ResultSound q own (phase_of h) (negotiation_of h) sound r → Fine r
  fine (Ok led) k = k
  fine (Err cause) k = tt

  read_fine : (place : ℕ) (asked : RequestMessage) (answer : List ℕ) (reading : Result ResponseMessage Malformed) → reading_of h asked answer ≡ reading → AskSound (negotiation_of h) (Some asked) → Fine (read_led q h f place asked answer reading)
  read_fine place asked answer (Err fault) r k = tt
  read_fine place asked answer (Ok value) r k = fine _ (answer_sound q own (phase_of h) (negotiation_of h) sound h f place asked answer value r k)

  carried_fine : (asked : RequestMessage) (carried : Carried) → SameAsk asked carried → AskSound (negotiation_of h) (Some asked) → Fine (carried_led q h f asked carried)
  carried_fine asked (Ignored cause) s k = tt
  carried_fine asked (Refused code) s k = (refused_phase q own (phase_of h) (negotiation_of h) sound (negotiates asked), tt)
  carried_fine asked (Further next) s k = (sound, subst (AskSound (negotiation_of h)) (sym s) k)
  carried_fine asked (Whole answer place) s k = read_fine place asked answer (reading_of h asked answer) refl k

  abbrev pub FineOutcome : Outcome → Type 0
  FineOutcome (Adds (TookClear tag m led d)) = LedSound (phase_of h) (negotiation_of h) led
  FineOutcome _ = Unit {0}

  clear_fine : (tag : ℕ) (m : List ℕ) (d : Draw) (r : Result Led ReqIgnored) → Fine r → FineOutcome (clear_outcome tag m d r)
  clear_fine tag m d (Err cause) k = tt
  clear_fine tag m d (Ok led) k = k

  plain_fine : (asked : RequestMessage) (m : List ℕ) → AskSound (negotiation_of h) (Some asked) → Fine (clear_led q h f (Plain asked) asked m)
  unfolding clear_led carried_by
  plain_fine asked m k = carried_fine asked (Whole m 0) tt k

  by_chunks_fine : (asked : RequestMessage) (handle number : ℕ) (m : List ℕ) → AskSound (negotiation_of h) (Some asked) → Fine (clear_led q h f (ByChunks asked handle number) asked m)
  unfolding clear_led carried_by
  by_chunks_fine asked handle number m k = carried_fine asked (ack_carries h (connection_terms h).common asked (piece_of (connection_terms h).common asked handle number) (reading_of h asked m)) (ack_same h (connection_terms h).common asked (piece_of (connection_terms h).common asked handle number) (reading_of h asked m)) k

  for_chunk_fine : (asked : RequestMessage) (handle number : ℕ) (before : List ChunkMessage) (m : List ℕ) → AskSound (negotiation_of h) (Some asked) → Fine (clear_led q h f (ForChunk asked handle number before) asked m)
  unfolding clear_led carried_by
  for_chunk_fine asked handle number before m k = carried_fine asked (chunk_carries q h asked handle number before (reading_of h asked m)) (chunk_same q h asked handle number before (reading_of h asked m)) k

  record_fine : (tag of : ℕ) (ask : Ask) (sealed : List ℕ) (d : Draw) (o : Option RecordFault) → FineOutcome (record_outcome q h f tag ask (came_to q h of ask sealed) d o)
  record_fine tag of ask sealed d (Some fault) = tt
  record_fine tag of ask sealed d None = tt

  on_record_fine : (tag of : ℕ) (ask : Ask) (sealed : List ℕ) (d : Draw) → FineOutcome (on_record q h f tag of ask sealed d)
  unfolding on_record
  on_record_fine tag of ask sealed d = record_fine tag of ask sealed d _

  to_fine : (tag : ℕ) (body : List ℕ) (d : Draw) (aim : Aim) → AskSound (negotiation_of h) (asked_in aim) → FineOutcome (hears_to q h f tag body d aim)
  to_fine tag body d (Plain asked) k = clear_fine tag (drop 1 body) d _ (plain_fine asked (drop 1 body) k)
  to_fine tag body d (ByChunks asked handle number) k = clear_fine tag (drop 1 body) d _ (by_chunks_fine asked handle number (drop 1 body) k)
  to_fine tag body d (ForChunk asked handle number before) k = clear_fine tag (drop 1 body) d _ (for_chunk_fine asked handle number before (drop 1 body) k)
  to_fine tag body d (InSession of ask) k = either FineOutcome (is_clear body) _ (on_record q h f tag of ask (drop 1 body) d) tt (on_record_fine tag of ask (drop 1 body) d)

  by_fine : (tag : ℕ) (body : List ℕ) (d : Draw) (o : Option Sent) (cause : Option ReqIgnored) → AskSound (negotiation_of h) (asked_of o) → FineOutcome (hears_by q h f tag body d o cause)
  by_fine tag body d o (Some cause) k = tt
  by_fine tag body d None None k = tt
  by_fine tag body d (Some x) None k = to_fine tag body d x.aim k

  pub heard_sound : (owner : Bool) (tag : ℕ) (body : List ℕ) (d : Draw) → AskSound (negotiation_of h) (asked_of (outstanding h)) → FineOutcome (hears q h owner tag body f d)
  unfolding hears
  heard_sound owner tag body d k = by_fine tag body d (outstanding h) (body_fault q (outstanding h) owner tag body) k
