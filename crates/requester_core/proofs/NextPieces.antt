-- A large request that goes on to its next chunk.
use Rattle.std.proofs.Common.{refl, ◌≡◌, ◌∙◌, ◌∷◌, ◌≤◌, ◌+◌, ◌-◌, ◌^◌, ℕ, List, true, false, Bool, Option, Some, None, ap, sym, subst, length, min}
use Rattle.std.specs.Prelude.{◌==◌, if◌then◌else◌}
use Rattle.requester_core.proofs.Answered.{any_free}
use Rattle.requester_core.proofs.Awaited.{chunks_room}
use Rattle.requester_core.proofs.Carrying.{count_few, next_within}
use Rattle.requester_core.proofs.Leading.{next_led, piece_small, small_sends}
use Rattle.requester_core.proofs.SessionsBegun.{clear_steps}
use Rattle.requester_core.specs.LargeRequests.{IsAcknowledged, SendsPiece, next_piece, piece_behind, piece_behind_sent}
use Rattle.requester_core.specs.Negotiating.{IsUpTo, IsUpToAsked, IsUpToSent}
use Rattle.requester_core.specs.Outgoing as outgoing
use Rattle.requester_core.specs.Outgoing.{IsCut, IsKept, IsKeptOf, message_for, tag_after}
use Rattle.requester_core.specs.Sessions as sessions
use Rattle.requester_core.specs.Sessions.{IsNamed, session_at, session_begun, session_for, slot_of}
use Rattle.requester_core.specs.Slot.{IsSlotOf}
use Rattle.requester_core.specs.ClearState.{Seen, StandsFor}
use Rattle.requester_core.specs.Outstanding.{kind_of}
use Rattle.requester_core.specs.Joined as joined
use Rattle.requester_core.specs.declared.joined.RequesterCore.{RequesterCore}
use Rattle.requester_core.specs.declared.in_sessions.sessions.Sessions.{Sessions}
use Rattle.requester_core.specs.declared.clear.outstanding.PendingRequest.{PendingRequest}
use Rattle.requester_core.specs.declared.clear.outstanding.Outstanding.TheVariants as waits
use Rattle.requester_core.specs.declared.clear.outstanding.TransferMode.{TransferMode}
use Rattle.requester_core.specs.declared.clear.outstanding.TransferMode.TheVariants as modes
use Rattle.chunking.specs.Cutting.{chunk_count, nth_chunk}
use Rattle.negotiate.specs.declared.shared.Common.{Common}
use Rattle.requester_machine.proofs.ClearLeads.ClearLeads.{BySend}
use Rattle.requester_machine.proofs.HoldsClear.{clear_holds}
use Rattle.requester_machine.specs.Answers.{goes_on}
use Rattle.requester_machine.specs.History.{History, connection_terms, negotiation_of, outstanding}
use Rattle.requester_machine.specs.History.Effect.{Nothing}
use Rattle.requester_machine.specs.History.Entry.{TookClear}
use Rattle.requester_machine.specs.Holds.{Holds, Waits}
use Rattle.requester_machine.specs.Message.{Aim, Sent, asked_in, body_of}
use Rattle.requester_machine.specs.Message.Aim.{ByChunks, ForChunk, InSession, Plain}
use Rattle.requester_machine.specs.Message.Content.{Clear}
use Rattle.requester_machine.specs.Order as order
use Rattle.requester_machine.specs.Order.{FitsWaits, IsInOrder, IsOrdered, waits_for}
use Rattle.requester_machine.specs.Sending.{piece_of, piece_sent}
use Rattle.requester_machine.specs.Session.{session_of}
use Rattle.requester_machine.specs.Setup.{ReqSetup}
use Rattle.requester_machine.specs.UnderWay.{HasSizes, IsOutstanding}
use Rattle.spdm_grammar.specs.Message.{RequestMessage}
use Rattle.spdm_grammar.specs.Message.RequestMessage.{ChunkSend}
use Rattle.spdm_grammar.specs.Requests.{canonical_request}
use Rattle.spdm_grammar.specs.declared.names.TheConstants.{MAX_MESSAGE_SIZE}
use Rattle.spdm_machine.specs.Bodies.{clear_body}
use Rattle.spdm_machine.specs.Keys.{Draw}

module _ (q : ReqSetup) (h : History) (sent : Sent) (asked : RequestMessage) (handle number : ℕ) (sizes : HasSizes q) (is_out : outstanding h ≡ Some sent) (aims : sent.aim ≡ ByChunks asked handle number) where
  abbrev common : Common
  common = (connection_terms h).common

  abbrev next : Sent
  next = piece_sent common h asked handle (number + 1)

  -- ---- The chunk that is outstanding.

  its_piece : Holds q h → IsOutstanding q h sent.content (ByChunks asked handle number)
  its_piece holds = subst (λ (a : Aim). IsOutstanding q h sent.content a) aims (subst (Waits q h) is_out holds.waits)

  kept : (seen : outgoing.Seen) → IsKeptOf (outstanding h) seen.request → seen.request ≡ canonical_request asked
  kept seen keeps = subst (λ (a : Option RequestMessage). IsKept a seen.request) (ap asked_in aims) (subst (λ (o : Option Sent). IsKeptOf o seen.request) is_out keeps)

  up_to : IsUpToSent (outstanding h) (negotiation_of h) → IsUpTo asked (negotiation_of h)
  up_to up = subst (λ (a : Option RequestMessage). IsUpToAsked a (negotiation_of h)) (ap asked_in aims) (subst (λ (o : Option Sent). IsUpToSent o (negotiation_of h)) is_out up)

  -- It is one of the chunks of the request.
  pub piece_cut : (old : Seen) → StandsFor old q h → IsCut (modes.ByChunks handle number) common.to_responder.transfer old.outgoing.request
  piece_cut old stands =
      let out = its_piece stands.holds in
      let piece = out.1 sizes in
      let room = chunks_room q h asked sizes stands.holds out.0 (up_to stands.shows.up_to) piece.chunks in
      subst (IsCut (modes.ByChunks handle number) common.to_responder.transfer) (sym (kept old.outgoing stands.shows.outgoing.request)) (room.least, room.most, piece.within)

  -- Whether it is the last.
  pub last_is : (old : Seen) (transfer : ℕ) (b : Bool) → StandsFor old q h → common.to_responder.transfer ≡ transfer
      → (IsCut (modes.ByChunks handle number) transfer old.outgoing.request → b ≡ (nth_chunk transfer handle old.outgoing.request number).last) → b ≡ (piece_of common asked handle number).last
  last_is old transfer b stands same tells =
      tells (subst (λ (n : ℕ). IsCut (modes.ByChunks handle number) n old.outgoing.request) same (piece_cut old stands))
      ∙ (λ i. (nth_chunk (sym same i) handle (kept old.outgoing stands.shows.outgoing.request i) number).last)

  -- ---- The clear part.

  holds_next : (of : ℕ) (m : List ℕ) (d : Draw) → (piece_of common asked handle number).last ≡ false → Holds q h → Holds q (TookClear of m (goes_on Nothing next) d ∷ h)
  holds_next of m d more holds = clear_holds q h any_free of m (goes_on Nothing next) d sent asked is_out (ap asked_in aims) (BySend handle number aims more refl) holds

  pub piece_sends : (kind : PendingRequest) (old : Seen) (new : outgoing.Seen) (tag : ℕ) (out : List ℕ) → kind_of asked ≡ kind → StandsFor old q h → (piece_of common asked handle number).last ≡ false
      → tag ≡ old.outgoing.tag → new ≡ record old.outgoing { tag = tag_after old.outgoing.tag; waiting = waits.InClear old.outgoing.tag kind (modes.ByChunks handle (number + 1)) }
      → out ≡ canonical_request (ChunkSend (piece_of common asked handle (number + 1))) → SendsPiece q h (Some next) (Some tag) out old (record old { outgoing = new })
  piece_sends kind old new tag out kinds stands more is sends written =
      let shows = stands.shows in
      let small = small_sends next h asked kind (modes.ByChunks handle (number + 1)) old.outgoing new tag (canonical_request (ChunkSend (piece_of common asked handle (number + 1)))) (piece_small common h asked handle number) kinds shows.outgoing.tag is sends in
      let leads = next_led h Nothing next asked old old.negotiating old.outgoing new tag (canonical_request (ChunkSend (piece_of common asked handle (number + 1)))) shows shows.negotiating (up_to shows.up_to) refl refl refl refl (kept old.outgoing shows.outgoing.request) small in
      (leads.tag_is, leads.content ∙ ap Clear (sym written), λ of m d. record { holds = holds_next of m d more stands.holds; shows = leads.follows of m d })

  -- ---- Which chunk is next.

  pub behind_last : (piece_of common asked handle number).last ≡ true → piece_behind h sent.aim ≡ None
  behind_last last = ap (piece_behind h) aims ∙ ap (λ (b : Bool). if b then None else Some next) last

  behind_other : (piece_of common asked handle number).last ≡ false → piece_behind h sent.aim ≡ Some next
  behind_other more = ap (piece_behind h) aims ∙ ap (λ (b : Bool). if b then None else Some next) more

  -- It is sent, as the program counts it.
  pub sends_behind : (kind : PendingRequest) (old : Seen) (new : outgoing.Seen) (tag : ℕ) (out : List ℕ) (transfer after : ℕ) → kind_of asked ≡ kind → StandsFor old q h → common.to_responder.transfer ≡ transfer
      → (piece_of common asked handle number).last ≡ false → after ≡ min (number + 1) (2 ^ 16 - 1) → length old.outgoing.request ≤ MAX_MESSAGE_SIZE
      → tag ≡ old.outgoing.tag → new ≡ record old.outgoing { tag = tag_after old.outgoing.tag; waiting = waits.InClear old.outgoing.tag kind (modes.ByChunks handle after) }
      → (IsCut (modes.ByChunks handle after) transfer old.outgoing.request → out ≡ message_for (modes.ByChunks handle after) transfer old.outgoing.request)
      → SendsPiece q h (piece_behind h sent.aim) (Some tag) out old (record old { outgoing = new })
  sends_behind kind old new tag out transfer after kinds stands same more is short tags sends tells =
      let keeps = kept old.outgoing stands.shows.outgoing.request in
      let cut = piece_cut old stands in
      let count = chunk_count common.to_responder.transfer old.outgoing.request in
      let other : (number + 1 == count) ≡ false = ap (λ (m : List ℕ). number + 1 == chunk_count common.to_responder.transfer m) keeps ∙ more in
      let within = next_within number count after cut.2 (count_few common.to_responder.transfer old.outgoing.request short) other is in
      let mode : modes.ByChunks handle after ≡ modes.ByChunks handle (number + 1) = ap (λ (n : ℕ). modes.ByChunks handle n) within.0 in
      let cut_next : IsCut (modes.ByChunks handle (number + 1)) common.to_responder.transfer old.outgoing.request = (cut.0, cut.1, within.1) in
      let cut_here = subst (λ (n : ℕ). IsCut (modes.ByChunks handle after) n old.outgoing.request) same (subst (λ (w : TransferMode). IsCut w common.to_responder.transfer old.outgoing.request) (sym mode) cut_next) in
      let written : out ≡ canonical_request (ChunkSend (piece_of common asked handle (number + 1))) = tells cut_here ∙ (λ i. message_for (mode i) (sym same i) (keeps i)) in
      subst (λ (o : Option Sent). SendsPiece q h o (Some tag) out old (record old { outgoing = new })) (sym (behind_other more))
      (piece_sends kind old new tag out kinds stands more tags (sends ∙ ap (λ (w : TransferMode). record old.outgoing { tag = tag_after old.outgoing.tag; waiting = waits.InClear old.outgoing.tag kind w }) mode) written)

  -- ---- The sessions.

  same_steps : (of : ℕ) (m : List ℕ) (d : Draw) (i : ℕ) → session_of i (TookClear of m (goes_on Nothing next) d ∷ h) ≡ session_of i h
  same_steps of m d i = clear_steps h of m (goes_on Nothing next) d i

  same_waits : (i : ℕ) → waits_for i (outstanding h) ≡ waits_for i (Some next)
  same_waits i = ap (waits_for i) is_out ∙ ap (order.waits_aim i) aims

  pub sessions_pass : (x : Sessions) (of : ℕ) (m : List ℕ) (d : Draw) → sessions.StandsFor x q h → Holds q (TookClear of m (goes_on Nothing next) d ∷ h) → sessions.StandsFor x q (TookClear of m (goes_on Nothing next) d ∷ h)
  sessions_pass x of m d stands holds = record {
    holds = holds;
    orders = λ i. (let o = stands.orders i in record {
      ordered = subst IsOrdered (sym (same_steps of m d i)) o.ordered;
      fits = subst (FitsWaits (waits_for i (Some next))) (sym (same_steps of m d i)) (subst (λ (w : order.Waits). FitsWaits w (session_of i h)) (same_waits i) o.fits);
    });
    slots = λ i. subst (IsSlotOf (slot_of x i) q.psk) (sym (same_steps of m d i)) (stands.slots i);
    named = subst (λ (o : Option ℕ). IsNamed o x.id) (ap session_for is_out ∙ ap session_at aims) stands.named;
  }

-- ---- The whole requester.

module _ (q : ReqSetup) (h : History) (old : RequesterCore) (talked : Seen) (message : List ℕ) (tag : ℕ) (out body : List ℕ) (sizes : HasSizes q) (stands : joined.StandsFor old q h) (written : body ≡ clear_body out) where
  abbrev now : RequesterCore
  now = record { clear_state = talked; gathered = old.gathered; sessions = old.sessions; message = message }

  by_last : (sent : Sent) (asked : RequestMessage) (handle number : ℕ) (b : Bool) → outstanding h ≡ Some sent → sent.aim ≡ ByChunks asked handle number
      → SendsPiece q h (if b then None else Some (piece_sent (connection_terms h).common h asked handle (number + 1))) (Some tag) out old.clear_state talked
      → IsAcknowledged q h (if b then None else Some (piece_sent (connection_terms h).common h asked handle (number + 1))) (Some tag) body now
  by_last sent asked handle number true is aims sends = absurd sends
  by_last sent asked handle number false is aims sends = (
    sends.0,
    written ∙ sym (ap body_of sends.1),
    λ of m d. record {
      clear_state = sends.2 of m d;
      sessions = sessions_pass q h sent asked handle number sizes is aims old.sessions of m d stands.sessions (sends.2 of m d).holds;
      gathers = record { max = stands.gathers.max; chunks = tt };
    },
  )

  by_aim : (sent : Sent) (aim : Aim) → outstanding h ≡ Some sent → sent.aim ≡ aim → SendsPiece q h (piece_behind h aim) (Some tag) out old.clear_state talked → IsAcknowledged q h (piece_behind h aim) (Some tag) body now
  by_aim sent (Plain asked) is aims sends = absurd sends
  by_aim sent (ByChunks asked handle number) is aims sends =
      by_last sent asked handle number (number + 1 == chunk_count (connection_terms h).common.to_responder.transfer (canonical_request asked)) is aims sends
  by_aim sent (ForChunk asked handle number before) is aims sends = absurd sends
  by_aim sent (InSession id ask) is aims sends = absurd sends

  by_out : (o : Option Sent) → outstanding h ≡ o → SendsPiece q h (piece_behind_sent h o) (Some tag) out old.clear_state talked → IsAcknowledged q h (piece_behind_sent h o) (Some tag) body now
  by_out None is sends = absurd sends
  by_out (Some sent) is sends = by_aim sent sent.aim is refl sends

  pub acknowledges : SendsPiece q h (next_piece h) (Some tag) out old.clear_state talked → IsAcknowledged q h (next_piece h) (Some tag) body now
  acknowledges sends = by_out (outstanding h) refl sends
