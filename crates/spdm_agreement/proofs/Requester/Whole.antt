-- What a requester keeps of its history: what is counted in its sessions is counted in its marks, and it asks with
-- application data under a verified key alone.
use Rattle.std.proofs.Common.{false}
use Rattle.requester_machine.specs.Asking.{Outcome}
use Rattle.requester_machine.specs.Asking.Outcome.{Fails, Ignores, Warns, Resends, Adds}
use Rattle.requester_machine.specs.Does.{IsMade, requester_asks, requester_hears}
use Rattle.requester_machine.specs.History.{History}
use Rattle.requester_machine.specs.Shown.{after}
use Rattle.requester_machine.specs.Setup.{ReqSetup}
use Rattle.spdm_agreement.specs.Story.{Past, no_past, asked_from}
use Rattle.requester_machine.proofs.Making.{asks_made, hears_made}
use Rattle.spdm_agreement.proofs.Requester.AfterBody as bodies
use Rattle.spdm_agreement.proofs.Requester.HistoryInvariant.{AskedKept}
use Rattle.spdm_agreement.proofs.Requester.OwnRequests.{asks_well_always}
use Rattle.spdm_agreement.proofs.Requester.DataVerified.{entry_openly, starts_openly}
use Rattle.spdm_agreement.proofs.Delivery.Data.{AsksOpenly}
use Rattle.spdm_agreement.proofs.Worlds.EndSteps.{AsksWell, HearsWell, AskedStarts, KeepsOpenly}

pub record IsKept (prior : Past) (q : ReqSetup) (h : History) : Type 0 where
  pub kept : AskedKept prior q h
  pub openly : AsksOpenly (asked_from prior q h)

after_openly : (prior : Past) → (q : ReqSetup) (h : History) (o : Outcome) → IsMade q (after h o) → IsKept prior q h → AsksOpenly (asked_from prior q (after h o))
after_openly prior q h (Fails fault) made k = k.openly
after_openly prior q h (Ignores cause) made k = k.openly
after_openly prior q h (Warns code) made k = k.openly
after_openly prior q h (Resends sent) made k = k.openly
after_openly prior q h (Adds e) made k = entry_openly prior q h e made k.kept (λ id held. (k.kept.held id held).stands) k.openly

pub asks_well : (prior : Past) → AsksWell prior (IsKept prior)
asks_well prior q h served log command d ready =
    let step = asks_well_always prior q h served log command d (record { setup = ready.setup; made = ready.made; kept = ready.kept.kept; reached = ready.reached; fresh = ready.fresh; draw = ready.draw }) in
    record {
      leads = step.leads;
      keeps = λ reached. record { kept = step.keeps reached; openly = after_openly prior q h (requester_asks false q h command d) (asks_made q h command d ready.made).made ready.kept };
      draws = step.draws;
    }

pub hears_well : (prior : Past) → HearsWell prior (IsKept prior)
hears_well prior q h served log owner tag body d ready =
    let step = bodies.hears_well prior q h served log owner tag body d (record { setup = ready.setup; made = ready.made; kept = ready.kept.kept; reached = ready.reached; fresh = ready.fresh; draw = ready.draw }) in
    record {
      leads = step.leads;
      keeps = λ reached. record { kept = step.keeps reached; openly = after_openly prior q h (requester_hears q h owner tag body d) (hears_made q h owner tag body d ready.made).made ready.kept };
      draws = step.draws;
    }

-- A requester may go on from here.
abbrev pub BeginsOpenly : Past → Type 0
BeginsOpenly prior = (q : ReqSetup) → AsksOpenly (prior.asked q)

pub starts : (prior : Past) → BeginsOpenly prior → AskedStarts (IsKept prior)
starts prior from q = record { kept = bodies.starts prior q; openly = from q }

-- Where nothing was before, it may begin.
pub begins_openly : BeginsOpenly no_past
begins_openly q = starts_openly

pub keeps_openly : (prior : Past) → KeepsOpenly prior (IsKept prior)
keeps_openly prior q h k = k.openly
