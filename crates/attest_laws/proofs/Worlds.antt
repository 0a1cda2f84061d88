-- In every world in which nothing agrees by chance, requesters measure what the responder is set up with.
use Rattle.std.proofs.Common.{◌≡◌, ◌==◌, ℕ, length, List, [], ◌∷◌, ◌++◌, cond, Some, sym, ap, ◌∙◌, subst, bytes_eq}
use Rattle.measurements.specs.Blocks.{by_index, record_of}
use Rattle.measurements.specs.Records.{asked as blocks_asked}
use Rattle.requester_machine.specs.History.{Effect, History}
use Rattle.requester_machine.specs.History.{outstanding as waiting}
use Rattle.requester_machine.specs.History.Entry.{Told, TookClear, TookRecord}
use Rattle.requester_machine.specs.Session.{session_of, stage_of, t2_of}
use Rattle.requester_machine.specs.Requesting.{Requesting}
use Rattle.requester_machine.specs.Setup.{ReqSetup}
use Rattle.responder_machine.specs.Responding.{Connection}
use Rattle.responder_machine.specs.Setup.{RspPart, RspSetup}
use Rattle.spdm_agreement.proofs.Messages.Beginnings.{reading_of}
use Rattle.spdm_agreement.proofs.Moves.Earlier.{IsEarlier, earlier_if, earlier_self}
use Rattle.spdm_agreement.proofs.Moves.Runs.{heard_was_taken, holds}
use Rattle.spdm_agreement.proofs.Requester.AfterBody as bodies
use Rattle.spdm_agreement.proofs.Requester.Whole as asks
use Rattle.spdm_agreement.proofs.Responder.DataAnswered as answered
use Rattle.spdm_agreement.proofs.Worlds.AllEvents.{after_fits}
use Rattle.spdm_agreement.proofs.Worlds.Fits.{Fits, IsPair}
use Rattle.spdm_agreement.proofs.Worlds.Pairs.{state_of}
use Rattle.spdm_agreement.specs.Configured.{IsConfigured}
use Rattle.spdm_agreement.specs.Marks as marks
use Rattle.spdm_agreement.specs.Marks.{Asked, Exchange, heard, outstanding, taken}
use Rattle.spdm_agreement.specs.Story.{Past, no_past, asked_from, clear_marks, command_marks, taken_marks}
use Rattle.spdm_grammar.specs.declared.told.block_spec.BlockSpec.{BlockSpec}
use Rattle.spdm_machine.proofs.Members.{IsIn, in_contained}
use Rattle.spdm_machine.specs.Terms.{no_negotiation}
use Rattle.spdm_progress.specs.Measuring.{record_for}
use Rattle.world_machine.specs.Chance.{NoChance}
use Rattle.world_machine.specs.Happenings.{Entry}
use Rattle.world_machine.specs.Setup.{WorldSetup}
use Rattle.world_machine.specs.Trace.{world_after}
use Rattle.world_machine.specs.World.{World}
use Rattle.attest_laws.proofs.Blocks.{IsSetUp, stays_set_up}
use Rattle.attest_laws.proofs.Exchanges.{AreServed, earlier_served}
use Rattle.attest_laws.proofs.Keeping as serves
use Rattle.attest_laws.proofs.Served.{AllServed, IsKept}
use Rattle.attest_laws.proofs.Taking.{takes}
use Rattle.attest_laws.proofs.Waiting.{AreMeasured, IsMeasuredBy}
use Rattle.attest_laws.specs.Measured.{IsAsConfigured, MeasuresAsConfigured, WorldsMeasureAsConfigured, configured_record}

-- ---- One pair.

-- The exchanges under each T2 are turns of a session of the responder.
abbrev AllTurned : Past → RspSetup → ReqSetup → History → Type 0
AllTurned prior r q h = (u : List ℕ) → AreServed r (heard u (asked_from prior q h))

-- So it is of what was marked before.
heard_before : (u : List ℕ) (new older : List Asked) → IsEarlier (heard u older) (heard u (new ++ older))
heard_before u [] older = earlier_self (heard u older)
heard_before u (marks.Asked.Started id draw ∷ new) older = heard_before u new older
heard_before u (marks.Asked.Accepted first ∷ new) older = heard_before u new older
heard_before u (marks.Asked.Opened first second ∷ new) older = heard_before u new older
heard_before u (marks.Asked.Sealed second request ∷ new) older = heard_before u new older
heard_before u (marks.Asked.Heard second request reply ∷ new) older = earlier_if (bytes_eq second u) (request, reply) (heard u older) (heard u (new ++ older)) (heard_before u new older)

module _ (prior : Past) (part : RspPart) (r : RspSetup) (blocks : r.blocks ≡ part.blocks) (q : ReqSetup) where
  as_configured : (id number : ℕ) (brought : Effect) (now : History) → IsMeasuredBy r id number brought now → IsAsConfigured part id number brought now
  as_configured id number brought now k =
      let record_is : record_for r k.op ≡ configured_record part k.op = ap (λ (l : List BlockSpec). record_of (blocks_asked k.op (by_index l))) blocks in
      record {
        op = k.op;
        asked = k.asked;
        came = k.came ∙ ap (λ (l : List ℕ). Some l) record_is;
        taken = k.taken ∙ record_is;
        told = k.told ∙ ap (λ (l : List BlockSpec). cond (k.op == 0) (length (by_index l)) (length (blocks_asked k.op (by_index l)))) blocks;
      }

  older_turned : (new older : List Asked) → ((u : List ℕ) → AreServed r (heard u (new ++ older))) → (u : List ℕ) → AreServed r (heard u older)
  older_turned new older turned u = earlier_served r (heard u older) (heard u (new ++ older)) (heard_before u new older) (turned u)

  all_measured : (h : History) → AreMeasured prior r q h → AllTurned prior r q h → MeasuresAsConfigured part h
  all_measured [] measured turned = tt
  all_measured (Told command sent d ∷ older) measured turned = all_measured older measured (older_turned (command_marks older command sent d) (asked_from prior q older) turned)
  all_measured (TookClear tag m led d ∷ older) measured turned = all_measured older measured (older_turned (clear_marks older led.effect) (asked_from prior q older) turned)
  all_measured (TookRecord tag id sealed inner led d ∷ older) measured turned = (
    λ number told. (let t = turned (t2_of (session_of id older)) in as_configured id number led.effect (TookRecord tag id sealed inner led d ∷ older) (measured.0 number told t.negotiation t.turns t.are)),
    all_measured older measured.1 (older_turned (taken_marks (stage_of (session_of id older)) q (session_of id older) (waiting older) sealed inner led) (asked_from prior q older) turned),
  )

-- ---- All requesters.

-- In a world that goes on from this.
pub measure : (prior : Past) (world : World) → Fits prior (asks.IsKept prior) (IsKept prior) world → ((x : Connection) → IsIn world.responder.connections x → AllServed x.setup (prior.served x.setup)) → IsSetUp world.responder.part world.responder
    → (a : Requesting) → IsIn world.requesters a → MeasuresAsConfigured world.responder.part a.history
measure prior world k begins setup a is =
    let x = k.apart.served a is in
    let pair : IsPair world.requesters world.responder.connections a x.0 = record { requester = is; connection = x.1; peer = x.2 } in
    let s = state_of prior a x.0 world.log in
    let links = (holds (reading_of a.setup.psk) s (k.pairs a x.0 pair)).links in
    let serving = k.serves x.0 x.1 in
    all_measured prior world.responder.part x.0.setup (setup.blocks x.0 x.1) a.setup a.history (takes prior x.0.setup a.setup a.history (k.asks a is).made).1
    (λ u. earlier_served x.0.setup (heard u s.asked) (taken u s.served) (heard_was_taken (outstanding u s.asked) (heard u s.asked) (taken u s.served) (links.ahead u)) (serving.kept.all (begins x.0 x.1) u))

-- Nothing was taken before the first life.
pub none_served : (r : RspSetup) → AllServed r []
none_served r = λ u. record { negotiation = no_negotiation; turns = []; are = tt }

pub set_up : (w : WorldSetup) (entries : List Entry) → IsSetUp (world_after w entries).responder.part (world_after w entries).responder
set_up w entries = (let setup = stays_set_up w entries in subst (λ (part : RspPart). IsSetUp part (world_after w entries).responder) (sym setup.part_is) setup)

pub measured_in : (w : WorldSetup) → IsConfigured w → (entries : List Entry) → NoChance (world_after w entries).log → (a : Requesting) → IsIn (world_after w entries).requesters a
    → MeasuresAsConfigured (world_after w entries).responder.part a.history
measured_in w c entries chance =
    measure no_past (world_after w entries)
    (after_fits (asks.IsKept no_past) (IsKept no_past) (asks.starts no_past asks.begins_openly) (asks.asks_well no_past) (asks.hears_well no_past) bodies.steady (serves.served_starts no_past answered.begins_duly) (serves.does_well no_past) (serves.waits no_past) w c entries chance)
    (λ x m. none_served x.setup) (set_up w entries)

pub worlds_measure : WorldsMeasureAsConfigured
worlds_measure w c entries chance = λ a contained. measured_in w c entries chance a (in_contained (world_after w entries).requesters a contained)
