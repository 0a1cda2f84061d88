use Rattle.std.proofs.Common.{[], subst, sym, List, ℕ}
use Rattle.responder_core.proofs.Reached.{nothing_reached}
use Rattle.responder_core.specs.Negotiating.{StandsFor}
use Rattle.spdm_grammar.specs.declared.told.phase.Phase.TheVariants.{Fresh}
use Rattle.spdm_machine.specs.Terms.{no_choice, no_common}
use Rattle.responder_core.proofs.clear.negotiating.Negotiating.new.Goals as goal

pub returns : goal.returns
returns c = subst (λ (m : List ℕ). StandsFor (record { phase = Fresh; messages = m; common = no_common; choice = no_choice }) []) (sym c.new.ensures) nothing_reached
