-- The same of lives: what the responder takes in each of them are its turns, whatever was in those before it.
use Rattle.std.proofs.Common.{◌≡◌, List, [], ◌∷◌, refl, sym, ap, ◌∙◌, subst}
use Rattle.attestor.specs.Attesting.{attesting_over}
use Rattle.requester_machine.specs.Requesting.{Requesting}
use Rattle.responder_machine.specs.Responding.{Connection}
use Rattle.responder_machine.specs.Setup.{RspSetup}
use Rattle.spdm_agreement.proofs.Requester.AfterBody as bodies
use Rattle.spdm_agreement.proofs.Requester.Whole as asks
use Rattle.spdm_agreement.proofs.Worlds.AllEvents.{later_good}
use Rattle.spdm_agreement.proofs.Worlds.Fits.{Fits}
use Rattle.spdm_agreement.proofs.Worlds.Starts.{begun}
use Rattle.spdm_agreement.specs.Marks.{Served}
use Rattle.spdm_lives.proofs.Framed.{behind, from_framed}
use Rattle.spdm_lives.proofs.LifeSteps.{always}
use Rattle.spdm_lives.proofs.PastLives.{IsGood, always_good, framed, log_is, past_of, past_served, server}
use Rattle.spdm_lives.proofs.TranscriptsApart.{configured, lives_before}
use Rattle.spdm_lives.specs.Lives.{Life, AreLives, joined_log, world_of}
use Rattle.spdm_machine.proofs.Members.{IsIn, in_contained}
use Rattle.spdm_machine.specs.TagLog.{Log}
use Rattle.world_machine.proofs.Logs.{no_chance_before}
use Rattle.world_machine.specs.Chance.{NoChance}
use Rattle.world_machine.specs.Trace.{world_from}
use Rattle.world_machine.specs.World.{World, new_world}
use Rattle.attest_laws.proofs.Keeping as serves
use Rattle.attest_laws.proofs.Served.{AllServed, IsKept}
use Rattle.attest_laws.proofs.Verdicts.{decides}
use Rattle.attest_laws.proofs.Worlds.{measure, none_served, set_up}
use Rattle.attest_laws.specs.Lives.{LivesAttestAsConfigured, LivesMeasureAsConfigured, attested_life}
use Rattle.attest_laws.specs.Measured.{MeasuresAsConfigured}

-- What each life keeps.
life_fits : (life : Life) (earlier : List Life) → IsGood life earlier → NoChance (joined_log (life ∷ earlier)) → Fits (past_of earlier) (asks.IsKept (past_of earlier)) (IsKept (past_of earlier)) (framed life earlier)
life_fits life earlier k chance =
    let prior = past_of earlier in
    let is : begun prior life.setup ≡ behind (joined_log earlier) (new_world life.setup) = ap (λ (l : Log). record (new_world life.setup) { log = l }) (log_is earlier) in
    let same : world_from (begun prior life.setup) life.entries ≡ framed life earlier = ap (λ (x : World). world_from x life.entries) is ∙ from_framed (joined_log earlier) (new_world life.setup) life.entries in
    let later = later_good prior (asks.IsKept prior) (IsKept prior) (asks.starts prior k.openly) (asks.asks_well prior) (asks.hears_well prior) bodies.steady (serves.served_starts prior k.duly) (serves.does_well prior) (serves.waits prior)
    life.setup k.configured (λ none. k.begins) life.entries in
    subst (λ (x : World). NoChance x.log → Fits prior (asks.IsKept prior) (IsKept prior) x) same (λ n. later.fits n) chance

-- What a connection goes on from: turns of the responder in the lives before.
went_before : (life : Life) (earlier : List Life) → AreLives (life ∷ earlier) → NoChance (joined_log (life ∷ earlier)) → (x : Connection) → IsIn (world_of life).responder.connections x → AllServed x.setup ((past_of earlier).served x.setup)
went_before life [] are chance x m = none_served x.setup
went_before life (before ∷ older) are chance x m =
    let less = no_chance_before (world_of life).log (joined_log (before ∷ older)) chance in
    let k = always_good before older are.2 less in
    let q = (always life.setup are.0 life.entries).known_of x m in
    let y = server before older life.setup k are.1 are.0 q.0 q.1 in
    let all = ((life_fits before older k less).serves y.0 y.1).kept.all (went_before before older are.2 less y.0 y.1) in
    subst (λ (r : RspSetup). AllServed r ((past_of (before ∷ older)).served r)) (y.2 ∙ sym q.2)
    (subst (λ (l : List Served). AllServed y.0.setup l) (sym (past_served before k.configured older y.0 y.0.setup y.1 refl)) all)

measured_in_life : (life : Life) (earlier : List Life) → AreLives (life ∷ earlier) → NoChance (joined_log (life ∷ earlier)) → (a : Requesting) → IsIn (world_of life).requesters a → MeasuresAsConfigured (world_of life).responder.part a.history
measured_in_life life earlier are chance =
    measure (past_of earlier) (framed life earlier) (life_fits life earlier (always_good life earlier are chance) chance) (went_before life earlier are chance) (set_up life.setup life.entries)

pub lives_measure : LivesMeasureAsConfigured
lives_measure [] are chance = tt
lives_measure (life ∷ earlier) are chance = (
  λ a contained. measured_in_life life earlier are chance a (in_contained (world_of life).requesters a contained),
  lives_measure earlier (lives_before life earlier are) (no_chance_before (world_of life).log (joined_log earlier) chance),
)

pub lives_attest : LivesAttestAsConfigured
lives_attest w earlier n requester is rules happened may are chance =
    let life = attested_life w n (attesting_over requester rules) happened in
    decides w (configured life earlier are) n requester is rules happened may (measured_in_life life earlier are chance)
