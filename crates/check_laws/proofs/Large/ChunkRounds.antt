-- While a large request is in progress the last round asks with a chunk that is not the last one.
use Rattle.std.proofs.Common.{◌≡◌, ◌∙◌, ◌⊎◌, ◌+◌, ◌-◌, ◌==◌, ℕ, List, [], ◌∷◌, refl, sym, ap, subst, length, arith, Bool, true, false, Option, Some, None, Result, Ok, Err, cond, inl, inr, ne_eqb}
use Rattle.std.specs.Prelude.{MatchBool}
use Rattle.std.proofs.lemmas.Bool.{false≢true}
use Rattle.std.proofs.lemmas.Option.{none-some, same_Some}
use Rattle.chunking.specs.Cutting.{chunk_count, nth_chunk}
use Rattle.mctp_framing.specs.Gathering.{Gathered}
use Rattle.mctp_framing.specs.Gathering.Gathered.{Whole, More, Dropped}
use Rattle.mctp_framing.specs.Packet.{PacketFields, parsed}
use Rattle.requester_machine.specs.History.{History, connection_terms, next_handle, outstanding}
use Rattle.requester_machine.specs.Message.{Aim, Sent, body_of}
use Rattle.requester_machine.specs.Message.Aim.{ByChunks}
use Rattle.requester_machine.specs.Setup.{ReqSetup}
use Rattle.spdm_basis.specs.declared.PacketFault.{PacketFault}
use Rattle.spdm_grammar.specs.Message.{RequestMessage}
use Rattle.spdm_grammar.specs.Message.RequestMessage.{ChunkSend}
use Rattle.spdm_grammar.specs.Requests.{canonical_request}
use Rattle.spdm_machine.specs.Bodies.{clear_body}
use Rattle.spdm_machine.specs.Packets.{gathered_from}
use Rattle.spdm_machine.specs.Terms.{Terms}
use Rattle.check_laws.proofs.OneWalk.{walks_alike}
use Rattle.check_laws.specs.Order.{is_answer, is_request}
use Rattle.check_laws.specs.Walks.{StepsBy, StepsTo, Walks}
use Rattle.capture_machine.proofs.AskersAlike.{AskersAlike, acked, transfer_of}
use Rattle.capture_machine.proofs.AskersAlike.AskersAlike.{Settled, Owing, Shown, Due}
use Rattle.capture_machine.proofs.AskersStep.{owed}
use Rattle.capture_machine.specs.Capture.{AsksBy, Begins, Copies, RepliesBy}
use Rattle.capture_machine.specs.CapturedRequests.{GoesOn, Sends, is_later, without_owed}
use Rattle.capture_machine.specs.LargeRequests.{IsLargeRequest, common_of, first_piece, is_last_piece, piece_with, still_sending}
use Rattle.capture_machine.specs.Rounds.{Dialogue, Round, new_dialogue, new_round}
use Rattle.world_machine.specs.Setup.{Configuration}
use Rattle.check_laws.specs.Large.Sending.{Beginning, IsSendingOf, Sending, dialogue_of}
use Rattle.check_laws.specs.Large.SendingAnswers.{IsChunkBody, SendingAsksChunk}
use Rattle.check_laws.proofs.Large.Cuts.{two_chunks}
use Rattle.check_laws.proofs.Large.Histories.{next_terms}
use Rattle.check_laws.proofs.Large.LargeSizes.{above, chunk_size}

-- A large request is in progress only after such a round.
abbrev pub AsksChunk : Dialogue → Type 0
AsksChunk d = (whole : List ℕ) → d.sending ≡ Some whole → (round : Round) × (d.round ≡ Some round) × IsChunkBody round.body

-- ---- The first chunk.

first_chunk : (h g : History) (asked : RequestMessage) (whole body : List ℕ) → connection_terms g ≡ connection_terms h → IsLargeRequest (common_of h) whole → body_of (first_piece g asked whole).content ≡ body → IsChunkBody body
first_chunk h g asked whole body terms large is =
    let transfer : ℕ = transfer_of h in
    let more = two_chunks transfer (length whole) (chunk_size h whole large) (above transfer (length whole) large.0) in
    let last : (0 + 1 == chunk_count transfer whole) ≡ false = ne_eqb (0 + 1) (chunk_count transfer whole) (λ same. absurd (omega (arith, same, more))) in (
      nth_chunk transfer (next_handle g) whole 0,
      last,
      sym is ∙ ap (λ (t : Terms). clear_body (canonical_request (ChunkSend (nth_chunk t.common.to_responder.transfer (next_handle g) whole 0)))) terms,
    )

-- ---- The next one.

sent_on : (b : Bool) (w whole : List ℕ) → cond b None (Some w) ≡ Some whole → b ≡ false
sent_on true w whole is = absurd (none-some whole is)
sent_on false w whole is = refl

next_chunk : (round : Option Round) (h g : History) (sd se : Option (List ℕ)) (s : Sent) (body whole : List ℕ) → AskersAlike round h g sd se → outstanding h ≡ Some s → is_later round (outstanding h) ≡ true
    → body_of s.content ≡ body → still_sending h sd s.aim ≡ Some whole → IsChunkBody body
next_chunk round _ _ _ _ s body whole (Settled h g agree not at) waits later is still = absurd (none-some whole still)
next_chunk round _ _ _ _ s body whole (Owing e f h g x t agree alike out sent like tagged else owing at) waits later is still = absurd (none-some whole still)
next_chunk round _ _ _ _ s body whole (Shown h g w v a b handle number x t u here there aim aims tags not at) waits later is still = absurd (false≢true (sym not ∙ ap (is_later round) (sym here) ∙ later))
next_chunk round _ _ _ _ s body whole (Due tag m h g w v a b handle number u owing at) waits later is still =
    let mine : History = acked tag m a w handle (number + 1) h in
    let p : Sent = piece_with h a w handle (number + 1) in
    let same : p ≡ s = same_Some p s waits in
    let more : is_last_piece mine w p.aim ≡ false = sent_on (is_last_piece mine w p.aim) w whole (ap (λ (x : Sent). still_sending mine (Some w) x.aim) same ∙ still) in
    (nth_chunk (transfer_of h) handle w (number + 1), more, sym is ∙ ap (λ (x : Sent). body_of x.content) (sym same))

-- ---- One step.

module _ (b : Dialogue) (alike : AskersAlike b.round b.requester b.requester b.sending b.sending) (here : AsksChunk b) where
  sends_chunk : (body : List ℕ) (h : History) (sending : Option (List ℕ)) (whole : List ℕ) → Sends b body h sending → sending ≡ Some whole → IsChunkBody body
  unfolding Sends
  sends_chunk body h sending whole (inl (told, none)) is = absurd (none-some whole (sym none ∙ is))
  sends_chunk body h sending whole (inr (inl goes)) is = next_chunk b.round b.requester b.requester b.sending b.sending goes.0 body whole alike goes.1.0 goes.1.1 goes.3 (sym goes.6 ∙ is)
  sends_chunk body h sending whole (inr (inr (bytes, inl large, at))) is = first_chunk b.requester b.requester large.2 bytes body refl large.6 large.7
  sends_chunk body h sending whole (inr (inr (bytes, inr owing, at))) is =
      let terms : connection_terms (without_owed b) ≡ connection_terms b.requester = ap connection_terms (owed b owing.2.1) ∙ next_terms None b.requester in
      first_chunk b.requester (without_owed b) owing.1 bytes body terms owing.5 owing.6

  asks_chunk : (d : Dialogue) (g : Gathered) → AsksBy b g d → AsksChunk d
  asks_chunk d (Whole route body) c = by_kind c.2
    where
      by_kind : Copies b route.tag body d ⊎ Begins b route.tag body d → AsksChunk d
      by_kind (inl k) = subst AsksChunk (sym k.4) (λ whole sends.
          let old = here whole sends in
          (record k.0 { waiting = k.0.waiting + 1 }, refl, subst IsChunkBody (ap (λ (x : Round). x.body) (same_Some old.0 k.0 (sym old.1 ∙ k.1))) old.2))
      by_kind (inr k) = subst AsksChunk (sym k.2.3) (λ whole sends. (new_round route.tag body, refl, sends_chunk body k.2.0 k.2.1 whole k.2.2 sends))
  asks_chunk d More c = subst AsksChunk (sym c) here
  asks_chunk d (Dropped cause) c = absurd c

  replies_chunk : (w : Configuration) (d : Dialogue) (g : Gathered) → RepliesBy w b g d → AsksChunk d
  replies_chunk w d (Whole route body) c = subst AsksChunk (sym c.2.4.3.2) (λ whole sends.
      let old = here whole sends in
      (record c.2.0 { waiting = c.2.0.waiting - 1; answered = true }, refl, subst IsChunkBody (ap (λ (x : Round). x.body) (same_Some old.0 c.2.0 (sym old.1 ∙ c.2.1))) old.2))
  replies_chunk w d More c = subst AsksChunk (sym c) here
  replies_chunk w d (Dropped cause) c = absurd c

  step_chunk : (w : Configuration) (eid : ℕ) (older : List (List ℕ)) (d : Dialogue) (r : Result PacketFields PacketFault) → StepsBy w eid older b d r → AsksChunk d
  step_chunk w eid older d (Err fault) c = subst AsksChunk (sym c) here
  step_chunk w eid older d (Ok p) c = by_ends (is_request w.responder.eid eid p) (is_answer w.responder.eid eid p) c
    where
      by_ends : (x y : Bool) → MatchBool x (AsksBy b (gathered_from w.responder.eid eid older p) d) (MatchBool y (RepliesBy w b (gathered_from eid w.responder.eid older p) d) (d ≡ b)) → AsksChunk d
      by_ends true y asks = asks_chunk d (gathered_from w.responder.eid eid older p) asks
      by_ends false true replies = replies_chunk w d (gathered_from eid w.responder.eid older p) replies
      by_ends false false same = subst AsksChunk (sym same) here

-- ---- All walks.

none_sent : (q : ReqSetup) → AsksChunk (new_dialogue q)
none_sent q = λ whole sends. absurd (none-some whole sends)

pub walk_chunk : (w : Configuration) (q : ReqSetup) (older : List (List ℕ)) (d : Dialogue) → Walks w q older d → AsksChunk d
unfolding StepsTo
walk_chunk w q [] d walk = subst AsksChunk (sym walk) (none_sent q)
walk_chunk w q (packet ∷ older) d walk =
    step_chunk walk.0 (walks_alike w q older walk.0 walk.0 walk.1 walk.1).alike.askers (walk_chunk w q older walk.0 walk.1) w q.eid older d (parsed packet) walk.2

pub sending_asks_chunk : SendingAsksChunk
sending_asks_chunk w q older s own =
    let b : Beginning = own.begins.0 in
    let whole : List ℕ = own.stands.0 in
    let walk = (own.all b whole own.begins.1 own.stands.1).0 in
    let one = walk_chunk w q older (dialogue_of s b whole) walk whole refl in
    subst IsChunkBody (ap (λ (x : Round). x.body) (same_Some one.0 s.round (sym one.1))) one.2
