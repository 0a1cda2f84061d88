-- What a packet makes of each walk, and what is kept after it.
use Rattle.std.proofs.Common.{◌≡◌, ◌<◌, ◌+◌, ℕ, List, ◌∷◌, refl, sym, ap, ◌∙◌, subst, length, take, arith, Bool, true, false, Option, Some, Result, Ok, is_some}
use Rattle.std.specs.Prelude.{MatchBool}
use Rattle.std.proofs.lemmas.Option.{same_Some}
use Rattle.chunking.specs.Cutting.{chunk_end}
use Rattle.mctp_framing.specs.Packet.{PacketFields, parsed}
use Rattle.requester_machine.specs.History.{History, outstanding}
use Rattle.requester_machine.specs.Message.{Aim, Sent}
use Rattle.requester_machine.specs.Message.Aim.{ByChunks}
use Rattle.requester_machine.specs.Setup.{ReqSetup}
use Rattle.spdm_basis.specs.declared.PacketFault.{PacketFault}
use Rattle.spdm_grammar.specs.Message.{RequestMessage}
use Rattle.spdm_machine.specs.Packets.{gathered_from}
use Rattle.spdm_machine.specs.Terms.{Terms}
use Rattle.check_laws.proofs.OneWalk.{walks_alike}
use Rattle.check_laws.specs.Order.{is_answer, is_request}
use Rattle.check_laws.specs.Walks.{StepsBy, StepsTo, Walks}
use Rattle.capture_machine.proofs.Alike.{Alike}
use Rattle.capture_machine.proofs.AskersAlike.{AskersAlike, transfer_of}
use Rattle.capture_machine.proofs.ChunksTell.{SameBelow, some_bytes}
use Rattle.capture_machine.specs.Capture.{AsksBy, RepliesBy}
use Rattle.capture_machine.specs.CapturedRequests.{is_later, owes}
use Rattle.capture_machine.specs.Rounds.{Dialogue}
use Rattle.world_machine.specs.Setup.{Configuration}
use Rattle.check_laws.specs.Large.Sending as kept
use Rattle.check_laws.specs.Large.Sending.{Beginning, IsSendingOf, MayBegin, MayStand, Sending, SendsAs, asked_of, count_of, dialogue_of, handle_of, number_of, shown_by}
use Rattle.check_laws.proofs.Large.Cuts.{same_bytes}
use Rattle.check_laws.proofs.Large.Histories.{shown_terms, shown_waits}
use Rattle.check_laws.proofs.Large.Ways.{shown_way, way}

-- ---- Lengths.

-- Two chunks are there only of messages that hold some bytes each.
pub some_size : (transfer number : ℕ) (whole : List ℕ) → number + 1 < count_of transfer (length whole) → 12 < transfer
some_size transfer number whole more = some_bytes transfer whole (omega arith)

-- ---- Bytes that may stand.

number_is : (a b : RequestMessage) (one two n m : ℕ) → ByChunks a one n ≡ ByChunks b two m → n ≡ m
number_is a b one two n m same = ap number_in same
  where
    number_in : Aim → ℕ
    number_in (ByChunks asked handle number) = number
    number_in _ = 0

-- What a walk sends that is like one with bytes that may stand, may stand too.
pub stands_by : (s : Sending) (b : Beginning) (w : List ℕ) (g : History) (se : Option (List ℕ)) → MayBegin s.before b → AskersAlike (Some s.round) (shown_by s b w) g (Some w) se
    → is_later (Some s.round) (outstanding (shown_by s b w)) ≡ false → 12 < kept.transfer_of s → length s.bytes ≡ chunk_end (kept.transfer_of s) (number_of s) → MayStand s w
    → (v : List ℕ) × (se ≡ Some v) × MayStand s v
stands_by s b w g se may alike shown some held stand =
    let a = way (Some s.round) (shown_by s b w) g (Some w) se w alike refl in
    let x = shown_way (Some s.round) (shown_by s b w) g (Some w) se w alike refl shown in
    let own = shown_waits s b w may in
    let v : List ℕ = a.other in
    let one : x.sent ≡ own.sent = same_Some x.sent own.sent (sym x.waits ∙ own.waits) in
    let number : x.number ≡ number_of s = number_is x.asked (asked_of b) x.handle (handle_of s) x.number (number_of s) (sym x.aim ∙ ap (λ (m : Sent). m.aim) one ∙ own.aim) in
    let transfer : transfer_of (shown_by s b w) ≡ kept.transfer_of s = ap (λ (t : Terms). t.common.to_responder.transfer) (shown_terms s b w may) in
    let parts : SameBelow (kept.transfer_of s) x.handle w v (number_of s + 1) =
    subst (λ (n : ℕ). SameBelow (kept.transfer_of s) x.handle w v (n + 1)) number (subst (λ (n : ℕ). SameBelow n x.handle w v (x.number + 1)) transfer (x.parts v a.sends)) in
    let bytes = same_bytes (kept.transfer_of s) x.handle (number_of s) w v some parts in
    (v, a.sends, (sym a.size ∙ stand.0, ap (λ (n : ℕ). take n v) held ∙ sym bytes ∙ ap (λ (n : ℕ). take n w) (sym held) ∙ stand.1))

-- ---- One packet.

module _ (w : Configuration) (q : ReqSetup) (older : List (List ℕ)) (packet : List ℕ) (p : PacketFields) (parses : parsed packet ≡ Ok p) where
  parsed_step : (b n : Dialogue) → StepsBy w q.eid older b n (Ok p) → StepsBy w q.eid older b n (parsed packet)
  parsed_step b n step = subst (λ (r : Result PacketFields PacketFault). StepsBy w q.eid older b n r) (sym parses) step

  step_parsed : (b n : Dialogue) → StepsBy w q.eid older b n (parsed packet) → StepsBy w q.eid older b n (Ok p)
  step_parsed b n step = subst (λ (r : Result PacketFields PacketFault). StepsBy w q.eid older b n r) parses step

  abbrev Asking : Dialogue → Dialogue → Type 0
  Asking b n = AsksBy b (gathered_from w.responder.eid q.eid older p) n

  abbrev Replying : Dialogue → Dialogue → Type 0
  Replying b n = RepliesBy w b (gathered_from q.eid w.responder.eid older p) n

  -- A walk goes on with the packet.
  abbrev Steps : Dialogue → Dialogue → Type 0
  Steps b n = StepsBy w q.eid older b n (Ok p)

  pub goes : (b n : Dialogue) → Walks w q older b → Steps b n → Walks w q (packet ∷ older) n
  unfolding StepsTo
  goes b n walk step = (b, walk, parsed_step b n step)

  pub came : (n : Dialogue) → Walks w q (packet ∷ older) n → (b : Dialogue) × Walks w q older b × Steps b n
  unfolding StepsTo
  came n walk = (walk.0, walk.1, step_parsed walk.0 n walk.2)

  pub asks : is_request w.responder.eid q.eid p ≡ true → (b n : Dialogue) → Asking b n → Steps b n
  asks is b n one = subst (λ (x : Bool). MatchBool x (Asking b n) (MatchBool (is_answer w.responder.eid q.eid p) (Replying b n) (n ≡ b))) (sym is) one

  pub asked : is_request w.responder.eid q.eid p ≡ true → (b n : Dialogue) → Steps b n → Asking b n
  asked is b n one = subst (λ (x : Bool). MatchBool x (Asking b n) (MatchBool (is_answer w.responder.eid q.eid p) (Replying b n) (n ≡ b))) is one

  pub replies : is_request w.responder.eid q.eid p ≡ false → is_answer w.responder.eid q.eid p ≡ true → (b n : Dialogue) → Replying b n → Steps b n
  replies not is b n one =
      subst (λ (x : Bool). MatchBool x (Asking b n) (MatchBool (is_answer w.responder.eid q.eid p) (Replying b n) (n ≡ b))) (sym not)
      (subst (λ (x : Bool). MatchBool x (Replying b n) (n ≡ b)) (sym is) one)

  pub replied : is_request w.responder.eid q.eid p ≡ false → is_answer w.responder.eid q.eid p ≡ true → (b n : Dialogue) → Steps b n → Replying b n
  replied not is b n one =
      subst (λ (x : Bool). MatchBool x (Replying b n) (n ≡ b)) is
      (subst (λ (x : Bool). MatchBool x (Asking b n) (MatchBool (is_answer w.responder.eid q.eid p) (Replying b n) (n ≡ b))) not one)

  pub stays : is_request w.responder.eid q.eid p ≡ false → is_answer w.responder.eid q.eid p ≡ false → (b n : Dialogue) → n ≡ b → Steps b n
  stays not nor b n one =
      subst (λ (x : Bool). MatchBool x (Asking b n) (MatchBool (is_answer w.responder.eid q.eid p) (Replying b n) (n ≡ b))) (sym not)
      (subst (λ (x : Bool). MatchBool x (Replying b n) (n ≡ b)) (sym nor) one)

  pub stayed : is_request w.responder.eid q.eid p ≡ false → is_answer w.responder.eid q.eid p ≡ false → (b n : Dialogue) → Steps b n → n ≡ b
  stayed not nor b n one =
      subst (λ (x : Bool). MatchBool x (Replying b n) (n ≡ b)) nor
      (subst (λ (x : Bool). MatchBool x (Asking b n) (MatchBool (is_answer w.responder.eid q.eid p) (Replying b n) (n ≡ b))) not one)

-- What a step makes of each walk over some packets.
pub record Onward (w : Configuration) (q : ReqSetup) (older : List (List ℕ)) (Step : Dialogue → Dialogue → Type 0) (next : Sending) : Type 0 where
  pub held : length next.bytes ≡ chunk_end (kept.transfer_of next) (number_of next)
  pub more : number_of next + 1 < count_of (kept.transfer_of next) next.size
  pub begins : (b : Beginning) × MayBegin next.before b
  pub stands : (whole : List ℕ) × MayStand next whole
  pub all : (b : Beginning) (whole : List ℕ) → MayBegin next.before b → MayStand next whole
      → (x : Dialogue) × Walks w q older x × Step x (dialogue_of next b whole) × (owes (dialogue_of next b whole) ≡ is_some next.due)
  pub each : (x y : Dialogue) → Walks w q older x → Step x y → ((b : Beginning) (whole : List ℕ) → MayBegin next.before b → MayStand next whole → Alike (dialogue_of next b whole) y)
      → (b : Beginning) × (whole : List ℕ) × MayBegin next.before b × MayStand next whole × SendsAs next.before b whole y (dialogue_of next b whole)

-- It is kept after the packet.
pub keeps_on : (w : Configuration) (q : ReqSetup) (older : List (List ℕ)) (packet : List ℕ) (p : PacketFields) (Step : Dialogue → Dialogue → Type 0) (next : Sending) → parsed packet ≡ Ok p
    → ((b n : Dialogue) → Step b n → StepsBy w q.eid older b n (Ok p)) → ((b n : Dialogue) → StepsBy w q.eid older b n (Ok p) → Step b n)
    → Onward w q older Step next → IsSendingOf w q (packet ∷ older) next
keeps_on w q older packet p Step next parses into back on = record {
  held = on.held;
  more = on.more;
  begins = on.begins;
  stands = on.stands;
  all = λ b whole may stand. (walk b whole may stand, (on.all b whole may stand).3);
  each = λ d over.
      let from = came w q older packet p parses d over in
      on.each from.0 d from.1 (back from.0 d from.2) (λ b whole may stand. (walks_alike w q (packet ∷ older) (dialogue_of next b whole) d (walk b whole may stand) over).alike);
}
  where
    walk : (b : Beginning) (whole : List ℕ) → MayBegin next.before b → MayStand next whole → Walks w q (packet ∷ older) (dialogue_of next b whole)
    walk b whole may stand = let x = on.all b whole may stand in goes w q older packet p parses x.0 (dialogue_of next b whole) x.1 (into x.0 (dialogue_of next b whole) x.2)
