-- A place of a responder as the program sees it.
use Rattle.std.specs.Prelude.{◌≡◌, Some, None, Result, Ok, Err, List, ℕ}
use Rattle.responder_machine.specs.Answer.{request_at}
use Rattle.responder_machine.specs.Place as place
use Rattle.responder_machine.specs.Place.{place_terms}
use Rattle.responder_machine.specs.Place.Where.{InClear, InChunks, InSession}
use Rattle.responder_machine.specs.Refusal.{has_pending, refused_form}
use Rattle.responder_machine.specs.Session.{stage_of}
use Rattle.responder_machine.specs.Setup.{RspSetup}
use Rattle.spdm_grammar.specs.Message.{request_message}
use Rattle.spdm_grammar.specs.declared.messages.error_code.ErrorCode.{ErrorCode}
use Rattle.spdm_grammar.specs.declared.messages.request.Request.{Request}
use Rattle.responder_rules.specs.declared.place.Place.{Place}
use Rattle.responder_rules.specs.declared.where_asked.Where.{Where}
use Rattle.responder_rules.specs.declared.where_asked.Where.TheVariants as seen

-- The program's names of the three kinds of places.
abbrev pub where_of : Where → place.Where
where_of seen.InClear = InClear
where_of seen.InChunks = InChunks
where_of seen.InSession = InSession

-- The program sees this place of the definitions.
pub record IsPlace (seen : Place) (p : place.Place) : Type 0 where
  pub at : p.at ≡ where_of seen.at
  pub phase : p.phase ≡ seen.phase
  pub stage : stage_of p.events ≡ seen.stage
  pub choice : (place_terms p).choice ≡ seen.choice
  pub common : (place_terms p).common ≡ seen.common
  pub pending : has_pending p ≡ seen.pending

-- The message is this request and is refused for no fault of its form; or it is refused with this code.
abbrev pub IsRead : RspSetup → place.Place → List ℕ → Result Request ErrorCode → Type 0
IsRead r p m (Ok request) = (refused_form r p m ≡ None) × (request_at p m ≡ Some (request_message request))
IsRead r p m (Err code) = refused_form r p m ≡ Some code
