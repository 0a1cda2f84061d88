-- The labels of the key schedule (DSP0274, "BinConcat": bin_str0 to bin_str9).
use Rattle.std.specs.Prelude.{ℕ, List, codes}
use Rattle.key_schedule.specs.declared.direction.Direction.{Direction}
use Rattle.key_schedule.specs.declared.direction.Direction.TheVariants.{Request, Response}
use Rattle.key_schedule.specs.declared.label.Label.{Label}
use Rattle.key_schedule.specs.declared.label.Label.TheVariants.{RequestHandshake, ResponseHandshake, RequestData, ResponseData, Derived, Key, Iv, Finished, Update}

-- The text of a label, in ASCII.
abbrev pub label_text : Label → List ℕ
label_text RequestHandshake = codes "req hs data"
label_text ResponseHandshake = codes "rsp hs data"
label_text RequestData = codes "req app data"
label_text ResponseData = codes "rsp app data"
label_text Derived = codes "derived"
label_text Key = codes "key"
label_text Iv = codes "iv"
label_text Finished = codes "finished"
label_text Update = codes "traffic upd"

-- The label of a direction's secret during the handshake.
abbrev pub handshake_label : Direction → Label
handshake_label Request = RequestHandshake
handshake_label Response = ResponseHandshake

-- The label of a direction's secret after the handshake.
abbrev pub application_label : Direction → Label
application_label Request = RequestData
application_label Response = ResponseData
