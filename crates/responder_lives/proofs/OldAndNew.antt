-- What the responder did in its newest life, and what it did before, are of different sessions.
use Rattle.std.proofs.Common.{◌≡◌, ◌∙◌, ◌≤◌, ◌<◌, ◌++◌, ◌∷◌, ℕ, List, true, [], ap, arith, subst, sym}
use Rattle.key_schedule.specs.Purpose.{Kind}
use Rattle.key_schedule.specs.Purpose.Kind.{ApplicationRecord, HandshakeRecord, Verify}
use Rattle.key_schedule.specs.declared.direction.Direction.{Direction}
use Rattle.key_schedule.specs.declared.direction.Direction.TheVariants.{Request, Response}
use Rattle.requester_machine.specs.Requesting.{Requesting}
use Rattle.responder_lives.proofs.Restarted.{ends, past_of, past_served, served_below, setup_at}
use Rattle.responder_lives.specs.Restarts.{Again, AreRestarts, world_after_lives}
use Rattle.responder_machine.specs.Responding.{Connection}
use Rattle.responder_machine.specs.Setup.{RspSetup}
use Rattle.spdm_agreement.proofs.Messages.Beginnings.{is_sound_first, reading_of, transcript_of, transcript_tells}
use Rattle.spdm_agreement.proofs.Moves.Invariant.{Invariant, IsBackedAs}
use Rattle.spdm_agreement.proofs.Moves.Runs.{ever_matches, holds, same_finished}
use Rattle.spdm_agreement.proofs.Requester.Whole as asks
use Rattle.spdm_agreement.proofs.Responder.DataAnswered as serves
use Rattle.spdm_agreement.proofs.Worlds.Behind.{served_behind, served_new, served_old}
use Rattle.spdm_agreement.proofs.Worlds.Fits.{Fits, IsPair}
use Rattle.spdm_agreement.proofs.Worlds.Pairs.{state_of}
use Rattle.spdm_agreement.specs.Marks.{Served, HasBegun, HasOpened, next_served}
use Rattle.spdm_agreement.specs.Reading.{First}
use Rattle.spdm_agreement.specs.Story.{Past, asked_from, served_from, served_marks}
use Rattle.spdm_lives.proofs.Checks.{IsServedAs}
use Rattle.spdm_lives.proofs.LifeKept.{IsLife}
use Rattle.spdm_lives.proofs.ResponderDraws.{IsWithin, begun_within}
use Rattle.spdm_lives.proofs.ResponderSessions.{finished_began, opened_finished}
use Rattle.spdm_machine.proofs.Members.{IsIn}
use Rattle.world_machine.specs.Happenings.{Entry}
use Rattle.world_machine.specs.Setup.{WorldSetup}
use Rattle.world_machine.specs.World.{World}

abbrev pub Fit : WorldSetup → List Entry → List Again → World → Type 0
Fit w entries lives world = Fits (past_of w entries lives) (asks.IsKept (past_of w entries lives)) (serves.IsKept (past_of w entries lives)) world

module _ (w : WorldSetup) (entries : List Entry) (life : Again) (earlier : List Again) (are : AreRestarts w (life ∷ earlier))
    (old : Fit w entries earlier (world_after_lives w entries earlier)) (new : Fit w entries (life ∷ earlier) (world_after_lives w entries (life ∷ earlier))) where
  abbrev before : World
  before = world_after_lives w entries earlier

  abbrev world : World
  world = world_after_lives w entries (life ∷ earlier)

  abbrev prior : Past
  prior = past_of w entries earlier

  abbrev next : Past
  next = past_of w entries (life ∷ earlier)

  -- The connection, as it was before.
  pub then : (x : Connection) → IsIn world.responder.connections x → (y : Connection) × IsIn before.responder.connections y × (y.setup ≡ x.setup)
  then x m =
      let q = (ends w entries (life ∷ earlier) are).known_of x m in
      let y = (ends w entries earlier are.2).connection_of q.0 q.1 in
      (y.0, y.1, y.2 ∙ sym q.2)

  module _ (x : Connection) (m : IsIn world.responder.connections x) (y : Connection) (n : IsIn before.responder.connections y) (same : y.setup ≡ x.setup) where
    abbrev new_served : List Served
    new_served = served_marks x.setup x.history

    abbrev old_served : List Served
    old_served = served_from prior y.setup y.history

    -- The marks of the newest life stand in front of the older ones.
    pub parts : served_from next x.setup x.history ≡ new_served ++ old_served
    parts = served_behind next x.setup x.history ∙ ap (λ (l : List Served). new_served ++ l) (past_served w entries life earlier are old y x.setup n same)

    was : IsLife (setup_at w earlier) (record before { log = [] })
    was = ends w entries earlier are.2

    is : IsLife (setup_at w (life ∷ earlier)) (record world { log = [] })
    is = ends w entries (life ∷ earlier) are

    -- Its requester, as that was before.
    pub asker : (a : Requesting) × IsIn before.requesters a × (y.setup.peer ≡ a.setup.eid) × (y.setup.psk ≡ a.setup.psk)
    asker = was.apart.paired y n

    pub old_holds : Invariant (reading_of y.setup.psk) (asked_from prior asker.0.setup asker.0.history) old_served before.log
    old_holds =
        let pair : IsPair before.requesters before.responder.connections asker.0 y = record { requester = asker.1; connection = n; peer = asker.2 } in
        subst (λ (psk : List ℕ). Invariant (reading_of psk) (asked_from prior asker.0.setup asker.0.history) old_served before.log) (sym asker.3)
        (holds (reading_of asker.0.setup.psk) (state_of prior asker.0 y before.log) (old.pairs asker.0 y pair))

    within : (t : First) → HasBegun new_served t → IsWithin x.setup life.first t
    within t b =
        let own = is.serves x m in
        subst (λ n. IsWithin x.setup n t) is.first (begun_within x.setup world.responder.first own.setup x.history own.made own.life t b)

    -- No session is begun in both: each has a draw of its life.
    pub begun_once : (t : First) → HasBegun new_served t → HasBegun old_served t → ⊥
    begun_once t b o =
        let here = within t b in
        let low = here.low in
        let front = here.front in
        let last : (reading_of x.setup.psk).responder_draw t < next_served (reading_of x.setup.psk) old_served = subst (λ (r : RspSetup). (reading_of r.psk).responder_draw t < next_served (reading_of r.psk) old_served) same (old_holds.serves.below t o) in
        let first : next_served (reading_of x.setup.psk) old_served ≤ life.first = subst (λ (r : RspSetup). next_served (reading_of r.psk) old_served ≤ life.first) same (served_below w entries life earlier are old y n) in
        omega (arith, low, front, last, first)

    -- A T1 is that of one of them.
    pub one_begun : (t s : First) → HasBegun new_served t → HasBegun old_served s → transcript_of t ≡ transcript_of s → ⊥
    one_begun t s b o e =
        let there : is_sound_first x.setup.psk s ≡ true = subst (λ (r : RspSetup). is_sound_first r.psk s ≡ true) same (old_holds.serves.well s o) in
        let equal : t ≡ s = transcript_tells x.setup.psk t s (within t b).sound there e in
        begun_once t b (subst (HasBegun old_served) (sym equal) o)

    new_begun : (t : First) (u : List ℕ) → HasOpened new_served t u → HasBegun new_served t
    new_begun t u o = finished_began x.setup x.history t (opened_finished new_served t u o)

    old_begun : (t : First) (u : List ℕ) → HasOpened old_served t u → HasBegun old_served t
    old_begun t u o = old_holds.serves.replied t ((reading_of y.setup.psk).finish_answer t) (old_holds.serves.seconds t (old_holds.serves.opened t u o).0).1

    -- Nor is one opened in both.
    pub served_served : (t s : First) (u : List ℕ) → HasOpened new_served t u → HasOpened old_served s u → ⊥
    served_served t s u b o =
        let a = is.apart.paired x m in
        let pair : IsPair world.requesters world.responder.connections a.0 x = record { requester = a.1; connection = m; peer = a.2 } in
        let now : Invariant (reading_of a.0.setup.psk) (asked_from next a.0.setup a.0.history) (new_served ++ old_served) world.log =
        subst (λ (l : List Served). Invariant (reading_of a.0.setup.psk) (asked_from next a.0.setup a.0.history) l world.log) parts (holds (reading_of a.0.setup.psk) (state_of next a.0 x world.log) (new.pairs a.0 x pair)) in
        let equal : t ≡ s = same_finished (reading_of a.0.setup.psk) _ _ _ now t s u (served_new new_served old_served t u b) (served_old new_served old_served s u o) in
        begun_once t (new_begun t u b) (subst (HasBegun old_served) (sym equal) (old_begun s u o))

    -- ---- Nothing old of a requester passes.

    pub old_taken : (kind : Kind) (direction : Direction) (t1 : List ℕ) (e : ℕ) (i : List ℕ) → direction ≡ Request → IsServedAs new_served kind direction t1
        → IsBackedAs (reading_of y.setup.psk) (asked_from prior asker.0.setup asker.0.history) old_served kind direction t1 e i → ⊥
    old_taken Verify Request t1 e i d its back = one_begun its.0 back.0 its.1 (old_holds.links.accepted back.0 back.2) (its.2 ∙ sym back.1)
    old_taken HandshakeRecord Request t1 e i d its back = one_begun its.0 back.first its.1 (old_holds.links.accepted back.first back.story) (its.2 ∙ sym back.is)
    old_taken ApplicationRecord Request t1 e i d its back =
        served_served its.0 back.first t1 its.1 (ever_matches (reading_of y.setup.psk) _ _ _ old_holds back.first t1 back.is)
    old_taken Verify Response t1 e i d its back = absurd its
    old_taken HandshakeRecord Response t1 e i d its back = absurd its
    old_taken ApplicationRecord Response t1 e i d its back = absurd its
