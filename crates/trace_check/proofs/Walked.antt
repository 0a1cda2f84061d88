-- What the walks of one requester have in common with the packets, and with the walks of all.
use Rattle.std.proofs.Common.{◌≡◌, ◌≢◌, ◌==◌, ◌||◌, ◌∙◌, ℕ, List, [], ◌∷◌, refl, ap, subst, Bool, true, false, cond, Option, Some, Result, Ok, Err, eqb-true}
use Rattle.std.proofs.lemmas.Bool.{or_right}
use Rattle.std.proofs.lemmas.Option.{none-some, same_Some}
use Rattle.std.specs.Prelude.{MatchBool, find}
use Rattle.mctp_framing.specs.Packet.{PacketFields, parsed}
use Rattle.requester_machine.specs.Setup.{ReqSetup}
use Rattle.spdm_basis.specs.declared.PacketFault.{PacketFault}
use Rattle.spdm_machine.specs.Packets.{gathered_from}
use Rattle.check_laws.proofs.PairWalks.{to_each}
use Rattle.check_laws.proofs.Rounded.{answer_turned, request_turned}
use Rattle.check_laws.specs.Judged.{AreApart}
use Rattle.check_laws.specs.Keeping.{Keeps, Kept}
use Rattle.check_laws.specs.Order.{is_answer, is_known, is_request, round_after, round_by_answer, round_by_request, round_of}
use Rattle.check_laws.specs.ReasonsEach.{IsOneOf}
use Rattle.check_laws.specs.Walks.{HaveWalks, StepsBy, StepsTo, WalkEach, Walks, all_between}
use Rattle.capture_machine.specs.Capture.{AsksBy, Leads, RepliesBy}
use Rattle.capture_machine.specs.Rounds.{Dialogue, Round}
use Rattle.world_machine.specs.Setup.{Configuration}

-- ---- The round under way.

step_round : (w : Configuration) (eid : ℕ) (older : List (List ℕ)) (d next : Dialogue) (r : Result PacketFields PacketFault) → StepsBy w eid older d next r → next.round ≡ round_after w.responder.eid eid older d.round r
step_round w eid older d next (Err fault) step = ap (λ (x : Dialogue). x.round) step
step_round w eid older d next (Ok p) step = by_ends (is_request w.responder.eid eid p) (is_answer w.responder.eid eid p) step
  where
    by_ends : (b c : Bool) → MatchBool b (AsksBy d (gathered_from w.responder.eid eid older p) next) (MatchBool c (RepliesBy w d (gathered_from eid w.responder.eid older p) next) (next ≡ d))
        → next.round ≡ cond b (round_by_request d.round (gathered_from w.responder.eid eid older p)) (cond c (round_by_answer d.round (gathered_from eid w.responder.eid older p)) d.round)
    by_ends true c asks = (request_turned d (gathered_from w.responder.eid eid older p) next asks).round
    by_ends false true replies = (answer_turned w d (gathered_from eid w.responder.eid older p) next replies).round
    by_ends false false same = ap (λ (x : Dialogue). x.round) same

-- That of a walk is that of the packets.
pub walks_round : (w : Configuration) (q : ReqSetup) (older : List (List ℕ)) (d : Dialogue) → Walks w q older d → d.round ≡ round_of w.responder.eid q.eid older
unfolding StepsTo
walks_round w q [] d walk = ap (λ (x : Dialogue). x.round) walk
walks_round w q (packet ∷ older) d walk =
    step_round w q.eid older walk.0 d (parsed packet) walk.2
    ∙ ap (λ (o : Option Round). round_after w.responder.eid q.eid older o (parsed packet)) (walks_round w q older walk.0 walk.1)

-- So is what is kept of it.
pub kept_round : (w : Configuration) (q : ReqSetup) (older : List (List ℕ)) (k : Kept) → Keeps w q older k → k.round ≡ round_of w.responder.eid q.eid older
kept_round w q older k keeps = ap (λ (x : Kept). x.round) keeps.4 ∙ walks_round w q older keeps.0 keeps.1

-- ---- One of all requesters.

known_by : (o : ReqSetup) (qs : List ReqSetup) (eid : ℕ) (q : ReqSetup) (b : Bool) → (o.eid == eid) ≡ b → (find (λ (x : ReqSetup). x.eid == eid) qs ≡ Some q → is_known eid qs ≡ true)
    → cond b (Some o) (find (λ (x : ReqSetup). x.eid == eid) qs) ≡ Some q → (o.eid == eid || is_known eid qs) ≡ true
known_by o qs eid q true e next is = ap (λ (b : Bool). b || is_known eid qs) e
known_by o qs eid q false e next is = or_right (o.eid == eid) (is_known eid qs) (next is)

-- It is known.
pub known_is : (qs : List ReqSetup) (eid : ℕ) (q : ReqSetup) → find (λ (x : ReqSetup). x.eid == eid) qs ≡ Some q → is_known eid qs ≡ true
known_is [] eid q is = absurd (none-some q is)
known_is (o ∷ qs) eid q is = known_by o qs eid q (o.eid == eid) refl (known_is qs eid q) is

apart_by : (own : ℕ) (o : ReqSetup) (qs : List ReqSetup) (eid : ℕ) (q : ReqSetup) (b : Bool) → (o.eid == eid) ≡ b → o.eid ≢ own → (find (λ (x : ReqSetup). x.eid == eid) qs ≡ Some q → eid ≢ own)
    → cond b (Some o) (find (λ (x : ReqSetup). x.eid == eid) qs) ≡ Some q → eid ≢ own
apart_by own o qs eid q true e apart next is = λ same. apart (eqb-true o.eid eid e ∙ same)
apart_by own o qs eid q false e apart next is = next is

-- It has another endpoint than the responder.
pub apart_is : (own : ℕ) (qs : List ReqSetup) (eid : ℕ) (q : ReqSetup) → AreApart own qs → find (λ (x : ReqSetup). x.eid == eid) qs ≡ Some q → eid ≢ own
apart_is own [] eid q apart is = absurd (none-some q is)
apart_is own (o ∷ qs) eid q apart is = apart_by own o qs eid q (o.eid == eid) refl apart.0 (apart_is own qs eid q apart.2) is

walk_by : (w : Configuration) (older : List (List ℕ)) (o : ReqSetup) (qs : List ReqSetup) (d : Dialogue) (eid : ℕ) (q : ReqSetup) (b : Bool) → Walks w o older d
    → (find (λ (x : ReqSetup). x.eid == eid) qs ≡ Some q → (e : Dialogue) × Walks w q older e) → cond b (Some o) (find (λ (x : ReqSetup). x.eid == eid) qs) ≡ Some q → (e : Dialogue) × Walks w q older e
walk_by w older o qs d eid q true walk next is = (d, subst (λ (x : ReqSetup). Walks w x older d) (same_Some o q is) walk)
walk_by w older o qs d eid q false walk next is = next is

-- It has a walk, where each has one.
walk_of : (w : Configuration) (older : List (List ℕ)) (qs : List ReqSetup) (ds : List Dialogue) (eid : ℕ) (q : ReqSetup) → WalkEach w older qs ds → find (λ (x : ReqSetup). x.eid == eid) qs ≡ Some q → (e : Dialogue) × Walks w q older e
walk_of w older [] [] eid q each is = absurd (none-some q is)
walk_of w older (o ∷ qs) (d ∷ ds) eid q each is = walk_by w older o qs d eid q (o.eid == eid) each.0 (walk_of w older qs ds eid q each.1) is
walk_of w older [] (d ∷ ds) eid q each is = absurd each
walk_of w older (o ∷ qs) [] eid q each is = absurd each

-- Packets over which it has none do not conform.
pub no_walk_leads : (w : Configuration) (q : ReqSetup) (packets : List (List ℕ)) → AreApart w.responder.eid w.requesters → IsOneOf w q → ((d : Dialogue) → Walks w q packets d → ⊥) → (ds : List Dialogue) → Leads w packets ds → ⊥
no_walk_leads w q packets apart known none ds leads =
    let it = walk_of w packets w.requesters ds q.eid q (to_each w packets ds apart leads).0 known in
    none it.0 it.1

have_by : (w : Configuration) (older : List (List ℕ)) (qs : List ReqSetup) (ds : List Dialogue) → WalkEach w older qs ds → HaveWalks w older qs
have_by w older [] [] each = tt
have_by w older (q ∷ qs) (d ∷ ds) each = ((d, each.0), have_by w older qs ds each.1)
have_by w older [] (d ∷ ds) each = absurd each
have_by w older (q ∷ qs) [] each = absurd each

-- Over packets that conform each has one.
pub have_walks : (w : Configuration) (older : List (List ℕ)) (ds : List Dialogue) → AreApart w.responder.eid w.requesters → Leads w older ds → HaveWalks w older w.requesters × (all_between w older ≡ true)
have_walks w older ds apart leads =
    let each = to_each w older ds apart leads in
    (have_by w older w.requesters ds each.0, each.1)
