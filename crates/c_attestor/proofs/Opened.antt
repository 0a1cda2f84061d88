-- An attestor over a new requester of a sound configuration is the one that the words and the text set up.
use Rattle.std.proofs.Common.{◌≡◌, subst}
use Rattle.std.specs.Prelude.{ℕ, List, [], None, Some, Ok}
use Rattle.attestor.specs.Attesting.{attesting_over}
use Rattle.attestor.specs.Standing.{StandsFor}
use Rattle.c_attestor.specs.Holding.{HoldsOpened}
use Rattle.c_attestor.specs.Opening.{SetsUp}
use Rattle.c_attestor.specs.declared.open_attestor.OpenAttestor.{OpenAttestor}
use Rattle.c_ends.specs.Setting.{first_draw, requester_argument, requester_in, set_up_in}
use Rattle.c_ends.specs.declared.config.RequesterConfig.{RequesterConfig}
use Rattle.requester.specs.Config.{config_fault}
use Rattle.requester.specs.SetUp.{end_of, setup_of}
use Rattle.requester.specs.declared.config.ReqConfig.{ReqConfig}
use Rattle.requester_machine.specs.Requesting.{new_requesting}
use Rattle.requester_machine.specs.Setup.{ReqSetup}
use Rattle.script_text.specs.PolicyText.{policy_in}
use Rattle.script_text.specs.declared.texts.rule.Rule.{Rule}

pub opened : (x : OpenAttestor) (c : RequesterConfig) (own : ReqConfig) (policy : List ℕ) (rules : List Rule) → setup_of own ≡ set_up_in c → policy_in 1 policy ≡ Ok rules → StandsFor x.attestor (attesting_over (new_requesting (end_of own c.seed.now (first_draw c.boot))) rules) → x.out ≡ [] → HoldsOpened (Some x) c policy
opened x c own policy rules set says stands out = record {
  rules = rules;
  says = says;
  holds = (subst (λ (s : ReqSetup). StandsFor x.attestor (attesting_over (new_requesting (record { setup = s; seed = c.seed.now; first = first_draw c.boot })) rules)) set stands, out);
}

-- Sound words set up a requester.
pub sets_up : (c : RequesterConfig) (own : ReqConfig) → requester_argument c ≡ None → setup_of own ≡ set_up_in c → config_fault own ≡ None → SetsUp c
sets_up c own words set sound = record { words = words; config = record { config = own; set = set; is = sound } }
