-- In each walk the requester took as CAPABILITIES what the responder told last.
use Rattle.std.proofs.Common.{◌≡◌, ◌+◌, ◌-◌, ◌==◌, ◌∙◌, ◌⊎◌, ℕ, List, [], ◌∷◌, refl, sym, ap, subst, drop, Bool, true, false, Option, Some, None, Result, Ok, Err, inl, inr}
use Rattle.std.specs.Prelude.{MatchBool, slice_index}
use Rattle.std.proofs.lemmas.Bool.{false≢true}
use Rattle.std.proofs.lemmas.Option.{none-some, same_Some}
use Rattle.check_laws.proofs.OneWalk.{walks_alike}
use Rattle.check_laws.specs.Order.{is_answer, is_request}
use Rattle.check_laws.specs.Walks.{StepsBy, StepsTo, Walks}
use Rattle.check_late_laws.proofs.Late.CapsAsked.{AllAsk, AsksSo, IsCaps, IsFor, IsLater, sent_later}
use Rattle.check_fetched_ends.proofs.CapsBehind.{answers_behind}
use Rattle.check_fetched_laws.proofs.CapsSent.{Counts, IsBegun, IsTagged, IsTaken, hears_taken, sends_begun}
use Rattle.check_fetched_ends.proofs.CapsStand.{Behind, KeptCaps}
use Rattle.check_fetched_laws.proofs.SizesSeen.{common_same}
use Rattle.check_fetched_ends.specs.SameChunks.{IsTold, SameCapabilities, SameCommon}
use Rattle.check_late_laws.proofs.NoCaps.{NoCaps, walks_caps}
use Rattle.check_late_laws.proofs.TurnsBeside.{SameCaps}
use Rattle.mctp_framing.specs.Gathering.{Gathered}
use Rattle.mctp_framing.specs.Gathering.Gathered.{Whole, More, Dropped}
use Rattle.mctp_framing.specs.Packet.{PacketFields, parsed}
use Rattle.requester_machine.specs.History as requester_history
use Rattle.requester_machine.specs.History.{negotiation_of, outstanding, phase_of}
use Rattle.requester_machine.specs.Message.{Aim, Content, Sent, body_of}
use Rattle.requester_machine.specs.Setup.{ReqSetup}
use Rattle.requester_machine.specs.UnderWay.{is_capable}
use Rattle.responder_machine.specs.History as responder_history
use Rattle.responder_machine.specs.Refusal.{code_of}
use Rattle.responder_machine.specs.Setup.{towards}
use Rattle.spdm_basis.specs.declared.PacketFault.{PacketFault}
use Rattle.spdm_grammar.specs.Message.RequestMessage.{GetCapabilities}
use Rattle.spdm_grammar.specs.Requests.{canonical_request}
use Rattle.spdm_grammar.specs.declared.names.request_code.TheConstants.{GET_CAPABILITIES}
use Rattle.spdm_machine.specs.Bodies.{clear_body}
use Rattle.spdm_machine.specs.Packets.{gathered_from}
use Rattle.transcript.specs.Transcripts.{Negotiation}
use Rattle.capture_machine.proofs.AskersAlike.{AskersAlike}
use Rattle.capture_machine.specs.Capture.{AsksBy, Begins, Copies, Replies, RepliesBy}
use Rattle.capture_machine.specs.CapturedAnswers.{Hears}
use Rattle.capture_machine.specs.Rounds.{Dialogue, Round, new_dialogue, new_round}
use Rattle.world_machine.specs.Setup.{Configuration, known_of}

-- The requester's negotiation is that of the responder, while it counts.
abbrev pub TellsSame : requester_history.History → responder_history.History → Type 0
TellsSame h k = is_capable (phase_of h) ≡ true → IsTold k (negotiation_of h).get_capabilities (negotiation_of h).capabilities

-- What stands between two ends.
pub record Agrees (d : Dialogue) : Type 0 where
  pub asks : AllAsk d.requester
  pub body : (s : Sent) (round : Round) → outstanding d.requester ≡ Some s → d.round ≡ Some round → (s.tag == round.tag) ≡ true → body_of s.content ≡ round.body
  pub kept : KeptCaps d.responder
  pub later : (round : Round) → d.round ≡ Some round → is_capable (phase_of d.requester) ≡ true → IsLater round.body
  pub told : TellsSame d.requester d.responder

begins_agree : (q : ReqSetup) → Agrees (new_dialogue q)
begins_agree q = record {
  asks = λ s is. absurd (none-some s is);
  body = λ s round is at tagged. absurd (none-some s is);
  kept = λ kept is code. absurd (none-some kept is);
  later = λ round at known. absurd (false≢true known);
  told = λ known. absurd (false≢true known);
}

-- With other capabilities that are the same.
told_as : (k : responder_history.History) (n m : Negotiation) → SameCaps n m → IsTold k m.get_capabilities m.capabilities → IsTold k n.get_capabilities n.capabilities
told_as k n m same told = record { known = told.known; asked = told.asked ∙ sym same.asked; told = told.told ∙ sym same.told }

-- ---- A request.

copies_agree : (d : Dialogue) (tag : ℕ) (body : List ℕ) (next : Dialogue) → Agrees d → Copies d tag body next → Agrees next
copies_agree d tag body next all c =
    let again : Round = record c.0 { waiting = c.0.waiting + 1 } in
    subst Agrees (sym c.4) (record {
      asks = all.asks;
      body = λ s round is at tagged.
          let same = same_Some again round at in
          all.body s c.0 is c.1 (ap (λ (x : Round). s.tag == x.tag) same ∙ tagged) ∙ ap (λ (x : Round). x.body) same;
      kept = all.kept;
      later = λ round at known. subst IsLater (ap (λ (x : Round). x.body) (same_Some again round at)) (all.later c.0 c.1 known);
      told = all.told;
    })

begun_agrees : (d : Dialogue) (tag : ℕ) (body : List ℕ) (next : Dialogue) → AskersAlike d.round d.requester d.requester d.sending d.sending → Agrees d → Begins d tag body next → Agrees next
begun_agrees d tag body next askers all b =
    let begun = sends_begun d body b.2.0 b.2.1 askers all.asks b.2.2 in
    subst Agrees (sym b.2.3) (record {
      asks = λ s is. subst (AsksSo (is_capable (phase_of b.2.0))) (same_Some begun.sent s (sym begun.waits ∙ is)) begun.so;
      body = λ s round is at tagged. ap (λ (x : Sent). body_of x.content) (same_Some s begun.sent (sym is ∙ begun.waits)) ∙ begun.is ∙ ap (λ (x : Round). x.body) (same_Some (new_round tag body) round at);
      kept = all.kept;
      later = λ round at known.
          let own : IsLater body = subst IsLater begun.is (sent_later begun.sent (subst (λ (x : Bool). AsksSo x begun.sent) known begun.so)) in
          subst IsLater (ap (λ (x : Round). x.body) (same_Some (new_round tag body) round at)) own;
      told = λ known. let counts = begun.counts known in told_as d.responder (negotiation_of b.2.0) (negotiation_of d.requester) counts.1 (all.told counts.0);
    })

asks_agree : (d : Dialogue) (g : Gathered) (next : Dialogue) → AskersAlike d.round d.requester d.requester d.sending d.sending → Agrees d → AsksBy d g next → Agrees next
asks_agree d (Whole route body) next askers all asks = elim asks.2 [ inl copies ↦ copies_agree d route.tag body next all copies | inr begins ↦ begun_agrees d route.tag body next askers all begins ]
asks_agree d More next askers all asks = subst Agrees (sym asks) all
asks_agree d (Dropped cause) next askers all asks = absurd asks

-- ---- An answer.

module _ (d : Dialogue) (all : Agrees d) (round : Round) (at : d.round ≡ Some round) (answer : List ℕ) (g : requester_history.History) (k : responder_history.History) (taken : IsTaken d.requester g round answer) (behind : Behind d.responder k round.body answer) where
  -- GET_CAPABILITIES is the request of the round.
  caps_body : (entry : requester_history.Entry) (caps : IsCaps d.requester answer entry) → IsTagged d.requester round.tag → round.body ≡ clear_body (canonical_request (GetCapabilities caps.caps))
  caps_body entry caps tagged =
      let same : tagged.sent ≡ caps.sent = same_Some tagged.sent caps.sent (sym tagged.waits ∙ caps.waits) in
      let content = subst (λ (a : Aim). IsFor a caps.sent.content) caps.aims (all.asks caps.sent caps.waits).is in
      sym (all.body tagged.sent round tagged.waits at tagged.tagged) ∙ ap (λ (s : Sent). body_of s.content) same ∙ ap body_of content

  later_behind : is_capable (phase_of g) ≡ true → IsLater round.body
  later_behind known = elim taken.counts [
    | inl counts ↦ all.later round at (counts known).0
    | inr took ↦ subst IsLater (sym (caps_body took.0 took.2 took.3)) (λ type. refl)
  ]

  told_behind : TellsSame g k
  told_behind known = elim taken.counts [
    | inl counts ↦
        let old = counts known in
        told_as k (negotiation_of g) (negotiation_of d.requester) old.1 (behind.stays (all.later round at old.0) _ _ (all.told old.0))
    | inr took ↦
        let caps = took.2 in
        let body : round.body ≡ clear_body (canonical_request (GetCapabilities caps.caps)) = caps_body took.0 took.2 took.3 in
        let type : (slice_index round.body 0 == 5) ≡ true = ap (λ (l : List ℕ). slice_index l 0 == 5) body in
        let code : (code_of (drop 1 round.body) == GET_CAPABILITIES) ≡ true = ap (λ (l : List ℕ). code_of (drop 1 l) == GET_CAPABILITIES) body in
        let told = behind.tells type code caps.long in
        let n = ap negotiation_of took.1 in
        record {
          known = told.known;
          asked = told.asked ∙ ap (drop 1) body ∙ sym caps.asked ∙ sym (ap (λ (x : Negotiation). x.get_capabilities) n);
          told = told.told ∙ sym caps.told ∙ sym (ap (λ (x : Negotiation). x.capabilities) n);
        }
  ]

replied_agrees : (w : Configuration) (d : Dialogue) (tag : ℕ) (answer : List ℕ) (next : Dialogue) → AskersAlike d.round d.requester d.requester d.sending d.sending → NoCaps d.responder → Agrees d → Replies w d tag answer next → Agrees next
replied_agrees w d tag answer next askers caps all c =
    let round : Round = c.0 in
    let g = c.4.3.0 in
    let k = c.4.0 in
    let own : Round = record round { waiting = round.waiting - 1; answered = true } in
    let behind : Behind d.responder k round.body answer = answers_behind (towards w.responder (known_of d.setup)) d round answer caps all.kept k c.4.1 c.4.2 in
    let taken : IsTaken d.requester g round answer = hears_taken d round c.1 askers all.asks answer g (subst (λ (n : ℕ). Hears d n answer g) (sym c.2) c.4.3.1) in
    subst Agrees (sym c.4.3.2) (record {
      asks = taken.all;
      body = λ s other is at tagged.
          let same = same_Some own other at in
          let now : (s.tag == round.tag) ≡ true = ap (λ (x : Round). s.tag == x.tag) same ∙ tagged in
          all.body s round (taken.new s is now) c.1 now ∙ ap (λ (x : Round). x.body) same;
      kept = behind.kept;
      later = λ other at known. subst IsLater (ap (λ (x : Round). x.body) (same_Some own other at)) (later_behind d all round c.1 answer g k taken behind known);
      told = told_behind d all round c.1 answer g k taken behind;
    })

replies_agree : (w : Configuration) (d : Dialogue) (g : Gathered) (next : Dialogue) → AskersAlike d.round d.requester d.requester d.sending d.sending → NoCaps d.responder → Agrees d → RepliesBy w d g next → Agrees next
replies_agree w d (Whole route body) next askers caps all replies = replied_agrees w d route.tag body next askers caps all replies.2
replies_agree w d More next askers caps all replies = subst Agrees (sym replies) all
replies_agree w d (Dropped cause) next askers caps all replies = absurd replies

-- ---- A walk.

step_agrees : (w : Configuration) (eid : ℕ) (older : List (List ℕ)) (d next : Dialogue) (r : Result PacketFields PacketFault) → AskersAlike d.round d.requester d.requester d.sending d.sending → NoCaps d.responder → Agrees d → StepsBy w eid older d next r → Agrees next
step_agrees w eid older d next (Err fault) askers caps all step = subst Agrees (sym step) all
step_agrees w eid older d next (Ok p) askers caps all step = by_ends (is_request w.responder.eid eid p) (is_answer w.responder.eid eid p) step
  where
    by_ends : (b c : Bool) → MatchBool b (AsksBy d (gathered_from w.responder.eid eid older p) next) (MatchBool c (RepliesBy w d (gathered_from eid w.responder.eid older p) next) (next ≡ d)) → Agrees next
    by_ends true c asks = asks_agree d (gathered_from w.responder.eid eid older p) next askers all asks
    by_ends false true replies = replies_agree w d (gathered_from eid w.responder.eid older p) next askers caps all replies
    by_ends false false same = subst Agrees (sym same) all

pub walks_agree : (w : Configuration) (q : ReqSetup) (older : List (List ℕ)) (d : Dialogue) → Walks w q older d → Agrees d
unfolding StepsTo
walks_agree w q [] d walk = subst Agrees (sym walk) (begins_agree q)
walks_agree w q (packet ∷ older) d walk =
    step_agrees w q.eid older walk.0 d (parsed packet) (walks_alike w q older walk.0 walk.0 walk.1 walk.1).alike.askers (walks_caps w q older walk.0 walk.1) (walks_agree w q older walk.0 walk.1) walk.2

-- ---- The laws.

pub same_capabilities : SameCapabilities
same_capabilities w q older d walk known = (walks_agree w q older d walk).told known

pub same_common : SameCommon
same_common w q older d walk known =
    let told = same_capabilities w q older d walk known in
    common_same (negotiation_of d.requester) (responder_history.negotiation_of (responder_history.clear_turns d.responder)) (record { asked = sym told.asked; told = sym told.told })
