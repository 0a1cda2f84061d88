-- Which end of the definitions a handle stands for, with the packets that it sends next. A handle that holds nothing
-- stands for none.
use Rattle.std.specs.Prelude.{◌≡◌, ℕ, List, Option, Some, None}
use Rattle.c_ends.specs.declared.open_requester.OpenRequester.{OpenRequester}
use Rattle.c_ends.specs.declared.open_responder.OpenResponder.{OpenResponder}
use Rattle.requester.specs.Standing as requester
use Rattle.requester_machine.specs.Requesting.{Requesting}
use Rattle.responder.specs.Standing as responder
use Rattle.responder.specs.Unharmed.{AreOthersKept}
use Rattle.responder_machine.specs.Responding.{Responding}

abbrev pub HoldsResponder : Option OpenResponder → Responding → (sends : List (List ℕ)) → Type 0
HoldsResponder None r sends = ⊥
HoldsResponder (Some x) r sends = responder.StandsFor x.responder r × (x.out ≡ sends)

-- A packet left the responder standing for one that is, towards each endpoint but the packet's source, what it was.
abbrev pub HoldsOthers : Option OpenResponder → Responding → (packet : List ℕ) → Type 0
HoldsOthers None r packet = ⊥
HoldsOthers (Some x) r packet = AreOthersKept r packet x.responder

abbrev pub HoldsRequester : Option OpenRequester → Requesting → (sends : List (List ℕ)) → Type 0
HoldsRequester None a sends = ⊥
HoldsRequester (Some x) a sends = requester.StandsFor x.requester a × (x.out ≡ sends)
