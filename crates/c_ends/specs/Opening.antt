-- Why a call does not open an end.
use Rattle.std.specs.Prelude.{◌≡◌, ℕ, List, map, Option, Some, None}
use Rattle.c_ends.specs.Codes.{argument_code, requester_code, responder_code}
use Rattle.c_ends.specs.Setting.{known_in, part_in, requester_argument, responder_argument, set_up_in}
use Rattle.c_ends.specs.declared.codes.TheConstants.{OPEN}
use Rattle.c_ends.specs.declared.config.Block.{Block}
use Rattle.c_ends.specs.declared.config.KnownRequester.{KnownRequester}
use Rattle.c_ends.specs.declared.config.RequesterConfig.{RequesterConfig}
use Rattle.c_ends.specs.declared.config.ResponderConfig.{ResponderConfig}
use Rattle.c_ends.specs.declared.open_requester.OpenRequester.{OpenRequester}
use Rattle.c_ends.specs.declared.open_responder.OpenResponder.{OpenResponder}
use Rattle.c_ends.specs.declared.requester_set_up.RequesterFault.{RequesterFault}
use Rattle.c_ends.specs.declared.requester_set_up.RequesterFault.TheVariants as requester_fault
use Rattle.c_ends.specs.declared.responder_set_up.ResponderFault.{ResponderFault}
use Rattle.c_ends.specs.declared.responder_set_up.ResponderFault.TheVariants as responder_fault
use Rattle.requester.specs.Config as requester
use Rattle.requester.specs.SetUp.{setup_of}
use Rattle.requester.specs.declared.config.ReqConfig.{ReqConfig}
use Rattle.requester.specs.declared.fault.ReqConfigFault.{ReqConfigFault}
use Rattle.requester.specs.declared.fault.ReqConfigFault.TheVariants as req
use Rattle.responder.specs.Config as responder
use Rattle.responder.specs.SetUp.{known_of, part_of}
use Rattle.responder.specs.declared.config.RspConfig.{RspConfig}
use Rattle.responder.specs.declared.fault.RspConfigFault.{RspConfigFault}
use Rattle.responder.specs.declared.fault.RspConfigFault.TheVariants as rsp

-- ---- A responder.

-- The configuration says what the words say.
pub record IsSetBy (c : ResponderConfig) (known : List KnownRequester) (blocks : List Block) (config : RspConfig) : Type 0 where
  pub part : part_of config ≡ part_in c blocks
  pub knows : map known_of config.known.now ≡ map known_in known

-- A configuration that says what the words say has this first fault, or none.
pub record HasResponderFault (c : ResponderConfig) (known : List KnownRequester) (blocks : List Block) (fault : Option RspConfigFault) : Type 0 where
  pub config : RspConfig
  pub set : IsSetBy c known blocks config
  pub is : responder.config_fault config ≡ fault

-- Sound words set up no responder for this fault: the configuration's first one. Memory may run out at any time.
abbrev pub IsConfigFault : ResponderConfig → List KnownRequester → List Block → RspConfigFault → Type 0
IsConfigFault c known blocks rsp.OutOfMemory = Unit {0}
IsConfigFault c known blocks fault = HasResponderFault c known blocks (Some fault)

-- The words set up no responder for this fault: their own first one, before any of the configuration.
abbrev pub IsResponderFault : ResponderConfig → List KnownRequester → List Block → ResponderFault → Type 0
IsResponderFault c known blocks (responder_fault.Argument fault) = responder_argument c known ≡ Some fault
IsResponderFault c known blocks (responder_fault.Config fault) = (responder_argument c known ≡ None) × IsConfigFault c known blocks fault

abbrev pub code_of_responder : ResponderFault → ℕ
code_of_responder (responder_fault.Argument fault) = argument_code fault
code_of_responder (responder_fault.Config fault) = responder_code fault

-- An answer of this number refuses to open a responder, at a handle that holds this: it is open already, or else the
-- words have the fault of the number.
pub record RefusesWords (c : ResponderConfig) (known : List KnownRequester) (blocks : List Block) (code : ℕ) : Type 0 where
  pub fault : ResponderFault
  pub is : code ≡ code_of_responder fault
  pub cause : IsResponderFault c known blocks fault

abbrev pub RefusesResponder : Option OpenResponder → ResponderConfig → List KnownRequester → List Block → (code : ℕ) → Type 0
RefusesResponder (Some held) c known blocks code = code ≡ OPEN
RefusesResponder None c known blocks code = RefusesWords c known blocks code

-- ---- A requester.

-- A configuration that says what the words say has this first fault, or none.
pub record HasRequesterFault (c : RequesterConfig) (fault : Option ReqConfigFault) : Type 0 where
  pub config : ReqConfig
  pub set : setup_of config ≡ set_up_in c
  pub is : requester.config_fault config ≡ fault

-- Sound words set up no requester for this fault: the configuration's first one; or memory ran out, and it has none.
abbrev pub IsRequesterConfigFault : RequesterConfig → ReqConfigFault → Type 0
IsRequesterConfigFault c req.OutOfMemory = HasRequesterFault c None
IsRequesterConfigFault c fault = HasRequesterFault c (Some fault)

abbrev pub IsRequesterFault : RequesterConfig → RequesterFault → Type 0
IsRequesterFault c (requester_fault.Argument fault) = requester_argument c ≡ Some fault
IsRequesterFault c (requester_fault.Config fault) = (requester_argument c ≡ None) × IsRequesterConfigFault c fault

abbrev pub code_of_requester : RequesterFault → ℕ
code_of_requester (requester_fault.Argument fault) = argument_code fault
code_of_requester (requester_fault.Config fault) = requester_code fault

pub record RefusesRequesterWords (c : RequesterConfig) (code : ℕ) : Type 0 where
  pub fault : RequesterFault
  pub is : code ≡ code_of_requester fault
  pub cause : IsRequesterFault c fault

abbrev pub RefusesRequester : Option OpenRequester → RequesterConfig → (code : ℕ) → Type 0
RefusesRequester (Some held) c code = code ≡ OPEN
RefusesRequester None c code = RefusesRequesterWords c code
