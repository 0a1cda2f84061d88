-- After packets the request of the last round has type 5 or 6, and an answer whose verify data are alone wrong is in
-- the clear.
use Rattle.std.proofs.Common.{◌≡◌, ◌∙◌, ◌≤◌, ◌==◌, ◌⊎◌, ℕ, List, [], ◌∷◌, sym, subst, Bool, true, false, Option, Some, None, Ok, Err, Result, inl, inr, arith, eqb-true}
use Rattle.std.specs.Prelude.{MatchBool}
use Rattle.mctp_framing.specs.Gathering.{Gathered}
use Rattle.mctp_framing.specs.Gathering.Gathered.{Whole, More, Dropped}
use Rattle.mctp_framing.specs.Packet.{PacketFields, parsed}
use Rattle.requester_machine.specs.Setup.{ReqSetup}
use Rattle.responder_machine.specs.Answer.{Free}
use Rattle.responder_machine.specs.History.{History}
use Rattle.responder_machine.specs.May.{with_dropped}
use Rattle.responder_machine.specs.Responder.{Outcome, body_of}
use Rattle.responder_machine.specs.Setup.{RspSetup}
use Rattle.spdm_basis.proofs.Bools.{and_first}
use Rattle.spdm_basis.specs.declared.PacketFault.{PacketFault}
use Rattle.spdm_machine.specs.Packets.{body_type, gathered_from}
use Rattle.check_laws.proofs.Alone.{long_steady, one_type}
use Rattle.check_laws.proofs.Carried.{AreLong, dropped_long, led_made}
use Rattle.check_laws.proofs.KeptWalks.{walks_keep}
use Rattle.check_laws.proofs.LongAnswers.{most_hash}
use Rattle.check_laws.proofs.Steadily.{IsSteady}
use Rattle.check_laws.specs.AnswersShown.{values_shown_by}
use Rattle.check_laws.specs.DropsShown.{drops_shown_by, outcome_shown}
use Rattle.check_laws.specs.Keeping.{Kept, restored}
use Rattle.check_requester.specs.JudgedRequester.{Carries}
use Rattle.check_laws.specs.Order.{is_answer, is_request}
use Rattle.check_responder.specs.Given.{IsApartInClear}
use Rattle.check_laws.specs.RepliesShown.{responder_for}
use Rattle.check_laws.specs.Walks.{StepsBy, StepsTo, Walks}
use Rattle.capture_machine.specs.Capture.{AsksBy, Begins, Copies, IsBody, RepliesBy}
use Rattle.capture_machine.specs.CapturedAnswers.{MayLeadTo}
use Rattle.capture_machine.specs.Difference.{verify_size}
use Rattle.capture_machine.specs.Rounds.{Dialogue, Round}
use Rattle.world_machine.specs.Setup.{Configuration}

-- ---- The request of a round.

abbrev HasBody : Option Round → Type 0
HasBody None = Unit {0}
HasBody (Some round) = IsBody round.body

asks_typed : (d : Dialogue) (g : Gathered) (next : Dialogue) → HasBody d.round → AsksBy d g next → HasBody next.round
asks_typed d (Whole route body) next here c = by_kind c.2
  where
    by_kind : Copies d route.tag body next ⊎ Begins d route.tag body next → HasBody next.round
    by_kind (inl k) = subst (λ (x : Dialogue). HasBody x.round) (sym k.4) (subst HasBody k.1 here)
    by_kind (inr k) = subst (λ (x : Dialogue). HasBody x.round) (sym k.2.3) c.0
asks_typed d More next here c = subst (λ (x : Dialogue). HasBody x.round) (sym c) here
asks_typed d (Dropped cause) next here c = absurd c

replies_typed : (w : Configuration) (d : Dialogue) (g : Gathered) (next : Dialogue) → HasBody d.round → RepliesBy w d g next → HasBody next.round
replies_typed w d (Whole route body) next here c = let k = c.2 in subst (λ (x : Dialogue). HasBody x.round) (sym k.4.3.2) (subst HasBody k.1 here)
replies_typed w d More next here c = subst (λ (x : Dialogue). HasBody x.round) (sym c) here
replies_typed w d (Dropped cause) next here c = absurd c

typed_steady : (w : Configuration) → IsSteady w (λ d. HasBody d.round)
typed_steady w = record { begins = λ q. tt; asks = asks_typed; replies = replies_typed w }

pub walk_body : (w : Configuration) (q : ReqSetup) (older : List (List ℕ)) (d : Dialogue) (round : Round) → Walks w q older d → d.round ≡ Some round → IsBody round.body
walk_body w q older d round walk is = subst HasBody is (walks_keep w (λ (x : Dialogue). HasBody x.round) (typed_steady w) q older d walk)

pub kept_body : (w : Configuration) (q : ReqSetup) (older : List (List ℕ)) (k : Kept) (round : Round) → Carries w q older k → k.round ≡ Some round → IsBody round.body
kept_body w q older k round carries is =
    walk_body w q older (record (restored k) { fetching = carries.0 }) round carries.1 is

-- ---- An answer whose verify data are alone wrong.

kept_long : (w : Configuration) (q : ReqSetup) (older : List (List ℕ)) (k : Kept) → Carries w q older k → AreLong k.responder
kept_long w q older k carries =
    walks_keep w (λ (d : Dialogue). AreLong d.responder) (long_steady w) q older (record (restored k) { fetching = carries.0 }) carries.1

walk_long : (w : Configuration) (q : ReqSetup) (older : List (List ℕ)) (d : Dialogue) → Walks w q older d → AreLong d.responder
walk_long w q older d walk = walks_keep w (λ (x : Dialogue). AreLong x.responder) (long_steady w) q older d walk

-- It is longer than the verify data, so its type is that of the one that would be right.
apart_typed : (r : RspSetup) (d : Dialogue) (round : Round) (answer : List ℕ) → AreLong d.responder → IsApartInClear r d round answer
unfolding MayLeadTo
apart_typed r d round answer are shown =
    let h : History = d.responder in
    let ids : List ℕ = drops_shown_by r h round.tag round.body answer in
    let g : History = with_dropped h ids in
    let f : Free = values_shown_by r g round.tag round.body answer in
    let o : Outcome = outcome_shown r h round.tag round.body answer in
    let may : MayLeadTo r g round.tag round.body o = (f, shown.0.0, shown.0.1, shown.0.2) in
    let made = led_made r g round.tag round.body o (dropped_long h ids are) may in
    let few : verify_size d ≤ 48 = most_hash _ in
    let long = made.long shown.2 in
    sym (one_type (verify_size d) (body_of o) answer (omega arith) shown.3) ∙ eqb-true (body_type (body_of o)) 5 (and_first (body_type (body_of o) == 5) _ shown.2)

pub kept_apart : (w : Configuration) (q : ReqSetup) (older : List (List ℕ)) (k : Kept) (round : Round) (answer : List ℕ) → Carries w q older k → IsApartInClear (responder_for w k) (restored k) round answer
kept_apart w q older k round answer carries = apart_typed (responder_for w k) (restored k) round answer (kept_long w q older k carries)

-- The same of a responder's history that a walk leads to.
pub walk_apart : (w : Configuration) (q : ReqSetup) (older : List (List ℕ)) (d e : Dialogue) (r : RspSetup) (round : Round) (answer : List ℕ) → Walks w q older d → d.responder ≡ e.responder → IsApartInClear r e round answer
walk_apart w q older d e r round answer walk same = apart_typed r e round answer (subst AreLong same (walk_long w q older d walk))
