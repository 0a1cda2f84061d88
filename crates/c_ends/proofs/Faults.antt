-- The fault of a configuration that was made of a caller's words is that of the words.
use Rattle.std.proofs.Common.{◌≡◌}
use Rattle.std.specs.Prelude.{◌==◌, List, [], ◌∷◌, Bool, true, false, Some}
use Rattle.spdm_basis.specs.Tests.{first_of_tests}
use Rattle.c_ends.specs.Opening.{IsConfigFault, IsRequesterConfigFault, IsSetBy}
use Rattle.c_ends.specs.Setting.{set_up_in}
use Rattle.c_ends.specs.declared.config.Block.{Block}
use Rattle.c_ends.specs.declared.config.KnownRequester.{KnownRequester}
use Rattle.c_ends.specs.declared.config.RequesterConfig.{RequesterConfig}
use Rattle.c_ends.specs.declared.config.ResponderConfig.{ResponderConfig}
use Rattle.requester.specs.Config as requester
use Rattle.requester.specs.SetUp.{setup_of}
use Rattle.requester.specs.declared.config.ReqConfig.{ReqConfig}
use Rattle.requester.specs.declared.fault.ReqConfigFault.{ReqConfigFault}
use Rattle.requester.specs.declared.fault.ReqConfigFault.TheVariants as req
use Rattle.responder.specs.Config as responder
use Rattle.responder.specs.declared.config.RspConfig.{RspConfig}
use Rattle.responder.specs.declared.fault.RspConfigFault.{RspConfigFault}
use Rattle.responder.specs.declared.fault.RspConfigFault.TheVariants as rsp

pub responder_fault : (c : ResponderConfig) (known : List KnownRequester) (blocks : List Block) (o : RspConfig) (fault : RspConfigFault) → IsSetBy c known blocks o → responder.IsCause o fault → IsConfigFault c known blocks fault
responder_fault c known blocks o rsp.TooManyRequesters set is = record { config = o; set = set; is = is }
responder_fault c known blocks o rsp.SameEid set is = record { config = o; set = set; is = is }
responder_fault c known blocks o rsp.SamePsk set is = record { config = o; set = set; is = is }
responder_fault c known blocks o rsp.SizeRange set is = record { config = o; set = set; is = is }
responder_fault c known blocks o (rsp.Inventory of_blocks) set is = record { config = o; set = set; is = is }
responder_fault c known blocks o rsp.OutOfMemory set is = tt

-- No configuration of a requester has the fault that memory is wanting.
never_memory : (same range : Bool) → first_of_tests ((same, req.SameEid) ∷ (range, req.SizeRange) ∷ []) ≡ Some req.OutOfMemory → ⊥
never_memory true range is = cc
never_memory false true is = cc
never_memory false false is = cc

pub requester_fault : (c : RequesterConfig) (o : ReqConfig) (fault : ReqConfigFault) → setup_of o ≡ set_up_in c → requester.config_fault o ≡ Some fault → IsRequesterConfigFault c fault
requester_fault c o req.SameEid set is = record { config = o; set = set; is = is }
requester_fault c o req.SizeRange set is = record { config = o; set = set; is = is }
requester_fault c o req.OutOfMemory set is = absurd (never_memory (o.eid.number == o.responder.number) (requester.is_out_of_range o) is)
