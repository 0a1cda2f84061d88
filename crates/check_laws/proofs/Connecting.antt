-- GET_VERSION goes on from what is kept at any place.
use Rattle.std.proofs.Common.{◌≡◌, ◌≤◌, length, ℕ, List, [], ◌∷◌, refl, sym, subst, false, replicate, arith}
use Rattle.requester_machine.proofs.Choosing.{allowed}
use Rattle.requester_machine.specs.Asking.{asks}
use Rattle.requester_machine.specs.Asking.Outcome.{Adds}
use Rattle.requester_machine.specs.Commands.{Free, command_fault}
use Rattle.requester_machine.specs.Does.{chosen}
use Rattle.requester_machine.specs.History.{History}
use Rattle.requester_machine.specs.History.Entry.{Told}
use Rattle.requester_machine.specs.May.{IsAllowed, IsSetUp}
use Rattle.requester_machine.specs.Message.Command.{Connect}
use Rattle.requester_machine.specs.Sending.{plain_sent}
use Rattle.requester_machine.specs.Setup.{ReqSetup}
use Rattle.spdm_grammar.specs.Message.RequestMessage.{GetVersion}
use Rattle.spdm_grammar.specs.Requests.{canonical_request}
use Rattle.spdm_machine.specs.Bodies.{clear_body}
use Rattle.spdm_machine.specs.Keys.{Draw}
use Rattle.check_laws.specs.Keeping.{ConnectsAlways, ConnectsKept}
use Rattle.capture_machine.proofs.AskersStep.{connect_body}
use Rattle.capture_machine.specs.CapturedRequests.{Tells}
use Rattle.capture_machine.specs.Rounds.{no_draw}

-- Some draw of 32 bytes.
pub some_draw : Draw
some_draw = record { number = 0; bytes = replicate 32 0 }

-- Some values that are allowed, with this padding.
abbrev pub values_with : ReqSetup → History → (pad : List ℕ) → Free
values_with q h pad = chosen q h some_draw pad

pub with_allowed : (q : ReqSetup) (h : History) (pad : List ℕ) → IsSetUp q → length pad ≤ 16 → IsAllowed q h (values_with q h pad)
unfolding some_draw
with_allowed q h pad set_up few = allowed q h some_draw pad set_up refl few

pub pad_with : (q : ReqSetup) (h : History) (pad : List ℕ) → (values_with q h pad).pad ≡ pad
unfolding chosen
pad_with q h pad = refl

abbrev pub some_values : ReqSetup → History → Free
some_values q h = values_with q h []

pub some_allowed : (q : ReqSetup) (h : History) → IsSetUp q → IsAllowed q h (some_values q h)
some_allowed q h set_up = with_allowed q h [] set_up (omega arith)

-- No test refuses Connect.
pub connects : (q : ReqSetup) (h : History) (f : Free) → asks false q h Connect f no_draw ≡ Adds (Told Connect (plain_sent h GetVersion) no_draw)
unfolding asks command_fault
connects q h f = refl

pub version_told : (q : ReqSetup) (h : History) → IsSetUp q → Tells q h Connect (clear_body (canonical_request GetVersion)) (Told Connect (plain_sent h GetVersion) no_draw ∷ h)
version_told q h set_up = (
  plain_sent h GetVersion,
  (some_values q h, some_allowed q h set_up, connects q h (some_values q h)),
  refl,
  refl,
  refl,
)

pub connects_always : ConnectsAlways
connects_always k body set_up = (
  λ goes. connect_body k.setup k.requester body goes.0 goes.1,
  λ is.
      let after : History = Told Connect (plain_sent k.requester GetVersion) no_draw ∷ k.requester in
      (after, subst (λ (l : List ℕ). ConnectsKept k l after) (sym is) (version_told k.setup k.requester set_up)),
)
