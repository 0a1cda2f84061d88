-- All walks of one requester over the same packets are alike, and a message that it owes was sent on an answer.
use Rattle.std.proofs.Common.{◌≡◌, ◌+◌, ◌⊎◌, not, ℕ, List, [], ◌∷◌, refl, sym, ap, ◌∙◌, subst, Bool, true, false, Option, Some, None, Result, Ok, Err, inl, inr}
use Rattle.std.specs.Prelude.{MatchBool}
use Rattle.std.proofs.lemmas.Option.{none-some}
use Rattle.mctp_framing.specs.Packet.{PacketFields, parsed}
use Rattle.requester_machine.specs.History.{History, next_tag, outstanding}
use Rattle.requester_machine.specs.Message.{Command, Sent}
use Rattle.requester_machine.specs.Message.Command.{Connect}
use Rattle.requester_machine.specs.Setup.{ReqSetup}
use Rattle.responder_machine.specs.History as responder_history
use Rattle.spdm_basis.specs.declared.PacketFault.{PacketFault}
use Rattle.spdm_machine.specs.Packets.{gathered_from}
use Rattle.check_laws.specs.Order.{is_answer, is_request}
use Rattle.check_laws.specs.Walks.{StepsTo, StepsBy, Walks}
use Rattle.capture_machine.proofs.AskersAlike.{AskersAlike, acked, none_tag}
use Rattle.capture_machine.proofs.AskersAlike.AskersAlike.{Settled, Owing, Shown, Due}
use Rattle.capture_machine.proofs.AskersBegin.{dial, same_later}
use Rattle.capture_machine.proofs.AskersStep.{owed_sends, settled_sends}
use Rattle.capture_machine.proofs.SentFacts.{asked_tag}
use Rattle.capture_machine.proofs.WalksAlike.{BothAlike, kept}
use Rattle.capture_machine.specs.Capture.{AsksBy, RepliesBy}
use Rattle.capture_machine.specs.CapturedRequests.{BeginsLarge, BeginsOwed, GoesOn, Sends, Tells, is_later}
use Rattle.requester_machine.specs.Owed.{with_next}
use Rattle.capture_machine.specs.Rounds.{Dialogue, Round, following_tag, new_round, no_draw}
use Rattle.world_machine.specs.Setup.{Configuration}

-- ---- Alike.

step_alike : (w : Configuration) (eid : ℕ) (older : List (List ℕ)) (b c d e : Dialogue) (r : Result PacketFields PacketFault) → BothAlike b c → StepsBy w eid older b d r → StepsBy w eid older c e r → BothAlike d e
step_alike w eid older b c d e (Err fault) both one two = subst (λ (x : Dialogue). BothAlike x e) (sym one) (subst (BothAlike b) (sym two) both)
step_alike w eid older b c d e (Ok p) both one two = by_ends (is_request w.responder.eid eid p) (is_answer w.responder.eid eid p) one two
  where
    by_ends : (x y : Bool) → MatchBool x (AsksBy b (gathered_from w.responder.eid eid older p) d) (MatchBool y (RepliesBy w b (gathered_from eid w.responder.eid older p) d) (d ≡ b))
        → MatchBool x (AsksBy c (gathered_from w.responder.eid eid older p) e) (MatchBool y (RepliesBy w c (gathered_from eid w.responder.eid older p) e) (e ≡ c)) → BothAlike d e
    by_ends true y asks does = (kept w).asks b c (gathered_from w.responder.eid eid older p) d e both asks does
    by_ends false true replies does = (kept w).replies b c (gathered_from eid w.responder.eid older p) d e both replies does
    by_ends false false same does = subst (λ (x : Dialogue). BothAlike x e) (sym same) (subst (BothAlike b) (sym does) both)

pub walks_alike : (w : Configuration) (q : ReqSetup) (older : List (List ℕ)) (d e : Dialogue) → Walks w q older d → Walks w q older e → BothAlike d e
unfolding StepsTo
walks_alike w q [] d e one two = subst (λ (x : Dialogue). BothAlike x e) (sym one) (subst (BothAlike _) (sym two) ((kept w).begins q))
walks_alike w q (packet ∷ older) d e one two = step_alike w q.eid older one.0 two.0 d e (parsed packet) (walks_alike w q older one.0 two.0 one.1 two.1) one.2 two.2

-- ---- A request that begins a round is not owed.

-- By the message that is outstanding then.
pub not_later : (tag : ℕ) (body : List ℕ) (next : History) (s : Sent) → outstanding next ≡ Some s → s.tag ≡ tag → is_later (Some (new_round tag body)) (outstanding next) ≡ false
not_later tag body next s waits is = ap (is_later (Some (new_round tag body))) waits ∙ same_later tag body s is

pub told_later : (q : ReqSetup) (h : History) (c : Command) (tag : ℕ) (body : List ℕ) (next : History) → next_tag h ≡ tag → Tells q h c body next → is_later (Some (new_round tag body)) (outstanding next) ≡ false
told_later q h c tag body next at one = not_later tag body next one.0 (ap outstanding one.4) (asked_tag q h one.1.0 c one.0 no_draw one.1.2 ∙ at)

settled_later : (d : Dialogue) (tag : ℕ) (body : List ℕ) (next : History) (sending : Option (List ℕ)) → next_tag d.requester ≡ tag → sending ≡ None
    → (((c : Command) × ((c ≡ Connect) ⊎ (outstanding d.requester ≡ None)) × Tells d.setup d.requester c body next) × (sending ≡ None)) ⊎ ((w : List ℕ) × BeginsLarge d body next w × (sending ≡ Some w))
    → is_later (Some (new_round tag body)) (outstanding next) ≡ false
settled_later d tag body next sending at none (inl told) = told_later d.setup d.requester told.0.0 tag body next at told.0.2
settled_later d tag body next sending at none (inr large) = absurd (none-some large.0 (sym none ∙ large.2))

owed_later : (d : Dialogue) (s : Sent) (tag : ℕ) (body : List ℕ) (next : History) (sending : Option (List ℕ)) → outstanding d.requester ≡ Some s → s.tag ≡ tag → next_tag (with_next None d.requester) ≡ tag → sending ≡ None
    → (Tells d.setup (with_next None d.requester) Connect body next × (sending ≡ None)) ⊎ (GoesOn d body next sending ⊎ ((w : List ℕ) × BeginsOwed d body next w × (sending ≡ Some w)))
    → is_later (Some (new_round tag body)) (outstanding next) ≡ false
owed_later d s tag body next sending waits is at none (inl told) = told_later d.setup (with_next None d.requester) Connect tag body next at told.0
owed_later d s tag body next sending waits is at none (inr (inl goes)) = not_later tag body next s (ap outstanding goes.5 ∙ waits) is
owed_later d s tag body next sending waits is at none (inr (inr large)) = absurd (none-some large.0 (sym none ∙ large.2))

pub begun_later : (q : ReqSetup) (h g : History) (sd se : Option (List ℕ)) (r : responder_history.History) (round : Option Round) (fd : Option (List ℕ)) (tag : ℕ) (body : List ℕ) (next : History) (sending : Option (List ℕ))
    → AskersAlike round h g sd se → tag ≡ following_tag round → sending ≡ None → Sends (dial q h r round sd fd) body next sending → is_later (Some (new_round tag body)) (outstanding next) ≡ false
begun_later q _ _ _ _ r round fd tag body next sending (Settled h g agree not at) is none one =
    settled_later (dial q h r round None fd) tag body next sending (at ∙ sym is) none (settled_sends (dial q h r round None fd) body next sending not one)
begun_later q _ _ _ _ r round fd tag body next sending (Owing e f h g s t agree alike out sent like tagged else later at) is none one =
    owed_later (dial q (e ∷ h) r round None fd) s tag body next sending out (tagged ∙ sym is) (none_tag e f h alike ∙ at ∙ sym is) none
    (owed_sends (dial q (e ∷ h) r round None fd) s body next sending (ap (is_later round) out ∙ later) out one)
begun_later q _ _ _ _ r round fd tag body next sending (Shown h g w v a b handle number s t u waits wait aims aim tags not at) is none one =
    settled_later (dial q h r round (Some w) fd) tag body next sending (at ∙ sym is) none (settled_sends (dial q h r round (Some w) fd) body next sending (ap (is_later round) waits ∙ not) one)
begun_later q _ _ _ _ r round fd tag body next sending (Due old m h g w v a b handle number u later at) is none one =
    let mine : History = acked old m a w handle (number + 1) h in
    owed_later (dial q mine r round (Some w) fd) _ tag body next sending refl (at ∙ sym is) (at ∙ sym is) none (owed_sends (dial q mine r round (Some w) fd) _ body next sending later refl one)
