-- In every world in which nothing agrees by chance, an attesting requester appraises what the responder is set up with.
use Rattle.std.proofs.Common.{◌≡◌, ◌≢◌, ◌∙◌, ℕ, List, [], Some, refl, sym, ap, subst}
use Rattle.appraise.specs.Answers.{IsAppraisal, IsTheAppraisal}
use Rattle.appraise.specs.Trusted.{IsTrusted}
use Rattle.appraise.specs.declared.appraisal.Appraisal.{Appraisal}
use Rattle.appraise.specs.declared.appraisal.Appraisal.TheVariants.{Trusted}
use Rattle.requester_machine.specs.Requesting.{Requesting, new_requesting}
use Rattle.requester_machine.specs.Setup.{ReqEnd, ReqSetup}
use Rattle.responder_machine.specs.Setup.{RspPart}
use Rattle.script_text.specs.declared.texts.rule.Rule.{Rule}
use Rattle.spdm_agreement.proofs.Worlds.AllEvents.{requester_in}
use Rattle.spdm_agreement.specs.Configured.{IsConfigured, IsRequester, setups_of}
use Rattle.spdm_grammar.specs.declared.names.TheConstants.{ALL_BLOCKS}
use Rattle.spdm_machine.proofs.Members.{IsIn, all_in, in_map, map_in}
use Rattle.spdm_progress.proofs.QuietWorlds.{always_differ}
use Rattle.world_machine.specs.Setup.{WorldSetup}
use Rattle.world_machine.specs.Trace.{world_after}
use Rattle.world_machine.specs.World.{World, new_world, requester_of}
use Rattle.attestor.specs.Attesting.{Attesting, Decision, attesting_over}
use Rattle.attestor.specs.Attesting.Decision.{Undecided, Measured, Failed}
use Rattle.attestor.specs.Standing.{IsAnswer}
use Rattle.attestor.specs.declared.progressed.Progressed.TheVariants.{Verdict}
use Rattle.attest_laws.proofs.AllBlocks.{WasMeasured, all_blocks}
use Rattle.attest_laws.proofs.Attesting.{Attends, WasDecided, attends}
use Rattle.attest_laws.proofs.Blocks.{stays_set_up}
use Rattle.attest_laws.proofs.Following.{Stands}
use Rattle.attest_laws.proofs.TakingPart.{all_stand}
use Rattle.attest_laws.proofs.Worlds.{measured_in}
use Rattle.attest_laws.specs.Attested.{AttestsAsConfigured, DecidesAsConfigured, Happened, MayAllHappen, WorldsAttestAsConfigured, attested_after, events_after}
use Rattle.attest_laws.specs.Measured.{MeasuresAsConfigured, configured_record}

-- ---- The beginning.

-- A requester of the beginning is set up as an end of the world.
begins_as : (w : WorldSetup) (n : ℕ) (a : Requesting) → requester_of n (new_world w) ≡ Some a → (e : ReqEnd) × IsIn w.requesters e × (a ≡ new_requesting e)
begins_as w n a is = in_map new_requesting w.requesters a (requester_in n (new_world w) a is)

-- Its endpoint is not the responder's.
differs : (w : WorldSetup) → IsConfigured w → (e : ReqEnd) → IsIn w.requesters e → w.responder.part.eid ≢ e.setup.eid
differs w c e m same =
    let in_setups = map_in (λ (x : ReqEnd). x.setup) w.requesters e m in
    (all_in IsRequester (setups_of w.requesters) c.requesters e.setup in_setups).other
    (sym same ∙ sym (all_in (λ (q : ReqSetup). q.responder ≡ w.responder.part.eid) (setups_of w.requesters) c.peers e.setup in_setups))

module _ (w : WorldSetup) (c : IsConfigured w) (n : ℕ) (a : Requesting) (is : requester_of n (new_world w) ≡ Some a) where
  begins : Stands w.responder.part n a.setup.eid a (new_world w)
  begins = (let o = begins_as w n a is in record {
    at = record { is = is; differ = always_differ w c [] };
    own = refl;
    setup = stays_set_up w [];
    differs = λ same. differs w c o.0 o.1 (same ∙ ap (λ (x : Requesting). x.setup.eid) o.2);
  })

  attends_first : (rules : List Rule) → Attends (attesting_over a rules)
  attends_first rules = (let o = begins_as w n a is in subst (λ (x : Requesting). Attends (attesting_over x rules)) (sym o.2) (record { requester = record { made = tt; asks = tt }; decided = tt }))

-- ---- The verdict.

-- What is answered is what the record comes to.
answered_so : (rules : List Rule) (configured : List ℕ) (decision : Decision) → ((blocks : List ℕ) → decision ≡ Measured blocks → blocks ≡ configured) → (appraisal : Appraisal) → IsAnswer rules decision (Verdict appraisal)
    → IsTheAppraisal rules configured appraisal
answered_so rules configured Undecided measured appraisal answer = absurd (cc)
answered_so rules configured (Measured blocks) measured appraisal answer = subst (λ (bytes : List ℕ). IsTheAppraisal rules bytes appraisal) (measured blocks refl) answer
answered_so rules configured Failed measured appraisal answer = absurd (cc)

-- It is Trusted exactly where the record is trusted.
trusted_so : (rules : List Rule) (bytes : List ℕ) (appraisal : Appraisal) → IsTheAppraisal rules bytes appraisal → (appraisal ≡ Trusted → IsTrusted rules bytes) × (IsTrusted rules bytes → appraisal ≡ Trusted)
trusted_so rules bytes appraisal is = (λ t. subst (IsAppraisal rules bytes) t is.0, λ t. sym (is.1 Trusted t))

was_decided : (a : Attesting) (blocks : List ℕ) → Attends a → a.decision ≡ Measured blocks → WasMeasured blocks a.requester.history
was_decided a blocks k is = subst (λ (d : Decision). WasDecided d a.requester) is k.decided

module _ (w : WorldSetup) (c : IsConfigured w) (n : ℕ) (requester : Requesting) (is : requester_of n (new_world w) ≡ Some requester) (rules : List Rule) (happened : List Happened) (may : MayAllHappen n requester.setup.eid happened) where
  abbrev first : Attesting
  first = attesting_over requester rules

  abbrev world : World
  world = world_after w (events_after n first happened)

  abbrev now : Attesting
  now = attested_after first happened

  stands : Stands w.responder.part n requester.setup.eid now.requester world
  stands = all_stand w.responder.part n requester.setup.eid first happened (new_world w) may (begins w c n requester is)

  -- Where requesters measure what the responder is set up with.
  module _ (all : (a : Requesting) → IsIn world.requesters a → MeasuresAsConfigured world.responder.part a.history) where
    measured : (blocks : List ℕ) → now.decision ≡ Measured blocks → blocks ≡ configured_record w.responder.part ALL_BLOCKS
    measured blocks decided =
        let kept = attends first happened (attends_first w c n requester is rules) in
        let measures = all now.requester (requester_in n world now.requester stands.at.is) in
        all_blocks w.responder.part blocks now.requester.history kept.requester.asks (subst (λ (part : RspPart). MeasuresAsConfigured part now.requester.history) stands.setup.part_is measures)
        (was_decided now blocks kept decided)

    pub decides : DecidesAsConfigured w.responder.part rules now.decision
    decides =
        let answered = answered_so rules (configured_record w.responder.part ALL_BLOCKS) now.decision measured in
        record { measured = measured; verdict = answered; trusted = λ appraisal answer. trusted_so rules (configured_record w.responder.part ALL_BLOCKS) appraisal (answered appraisal answer) }

  attested : AttestsAsConfigured w n first happened
  attested = record { is = stands.at.is; decides = λ chance. decides (measured_in w c (events_after n first happened) chance) }

pub worlds_attest : WorldsAttestAsConfigured
worlds_attest w c n requester is rules happened may = attested w c n requester is rules happened may
