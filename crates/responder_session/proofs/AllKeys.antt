-- Which turns update the keys of both directions. It depends on no free value.
use Rattle.std.proofs.Common.{◌≡◌, ◌∙◌, ap, sym, refl, ℕ, List, [], Bool, true, false, arith}
use Rattle.std.proofs.lemmas.Bool.Decides.{nat_tests}
use Rattle.std.proofs.lemmas.Option.{none-some}
use Rattle.std.specs.Prelude.{◌==◌, Option, Some, None, is_some, slice_index}
use Rattle.responder_machine.proofs.Turns.{plain_turn-asked, turn_of-plain, turn_of-refused}
use Rattle.responder_machine.specs.Answer.{Free, request_at}
use Rattle.responder_machine.specs.Handling.{chunk_in, turn_of}
use Rattle.responder_machine.specs.Place.{session_place}
use Rattle.responder_machine.specs.Refusal.{code_of, fits_stage, has_pending, lacks_flag, refusal, refused_form}
use Rattle.responder_machine.specs.Responder.{inner_refusal, session_turn}
use Rattle.responder_machine.specs.Session.{Events, session_terms, stage_of}
use Rattle.responder_machine.specs.Setup.{RspSetup}
use Rattle.responder_machine.specs.SizeLaws.{HasSizes}
use Rattle.responder_machine.specs.Turn.{updates}
use Rattle.spdm_grammar.specs.Message.{ChunkMessage, RequestMessage, request_message}
use Rattle.spdm_grammar.specs.Message.RequestMessage.{ChunkSend, KeyUpdate}
use Rattle.spdm_grammar.specs.declared.messages.error_code.ErrorCode.{ErrorCode}
use Rattle.spdm_grammar.specs.declared.told.phase.Stage.{Stage}
use Rattle.spdm_grammar.specs.declared.messages.request.Request.{Request}
use Rattle.spdm_grammar.specs.declared.messages.request.Request.TheVariants as request
use Rattle.responder_session.proofs.Allowed.{is_handled, only_handled}
use Rattle.responder_session.proofs.Contents.{inner-refused}
use Rattle.responder_session.proofs.Finish.{allowed_code}
use Rattle.responder_session.proofs.Opened.{data_deed}
use Rattle.responder_session.proofs.Updating.{update-answered, update-misplaced}
use Rattle.responder_session.specs.Turns.{answered_turn}

-- A request updates both keys, where it takes effect.
abbrev pub asks_all : RequestMessage → Bool
asks_all asked = updates 2 (answered_turn [] asked [])

-- ---- A request that does not.

chunk_unhandled : (asked : RequestMessage) (c : ChunkMessage) → chunk_in (Some asked) ≡ Some c → is_handled asked ≡ false
chunk_unhandled (ChunkSend chunk) c e = refl
chunk_unhandled _ c e = absurd (none-some c e)

plain_other : (r : RspSetup) (s : Events) (f : Free) (m : List ℕ) (asked : RequestMessage) (code : Option ErrorCode) → request_at (session_place s) m ≡ Some asked → chunk_in (Some asked) ≡ None
    → asks_all asked ≡ false → refusal r (session_place s) m f ≡ code → updates 2 (turn_of r (session_place s) m f) ≡ false
plain_other r s f m asked (Some code) is plain other h = ap (updates 2) (turn_of-refused r (session_place s) m f code h)
plain_other r s f m asked None is plain other h =
    ap (updates 2) (turn_of-plain r (session_place s) m f asked h is plain ∙ plain_turn-asked r (session_place s) m f asked is) ∙ other

other_by : (r : RspSetup) (s : Events) (f : Free) (m : List ℕ) (asked : RequestMessage) (c : Option ChunkMessage) → refused_form r (session_place s) m ≡ None → request_at (session_place s) m ≡ Some asked
    → asks_all asked ≡ false → chunk_in (Some asked) ≡ c → updates 2 (turn_of r (session_place s) m f) ≡ false
other_by r s f m asked None form is other e = plain_other r s f m asked (refusal r (session_place s) m f) is e other refl
other_by r s f m asked (Some c) form is other e =
    absurd (only_handled (stage_of s) asked (has_pending (session_place s)) (allowed_code r s m asked (stage_of s) form is refl) (chunk_unhandled asked c e))

pub other_turn : (r : RspSetup) (s : Events) (f : Free) (m : List ℕ) (asked : RequestMessage) → refused_form r (session_place s) m ≡ None → request_at (session_place s) m ≡ Some asked
    → asks_all asked ≡ false → false ≡ updates 2 (turn_of r (session_place s) m f)
other_turn r s f m asked form is other = sym (other_by r s f m asked (chunk_in (Some asked)) form is other refl)

pub other_request : (q : Request) → ((op tag : ℕ) → q ≡ request.KeyUpdate op tag → ⊥) → asks_all (request_message q) ≡ false
other_request (request.KeyUpdate op tag) other = absurd (other op tag refl)
other_request _ other = refl

-- ---- KEY_UPDATE.

all_by : (r : RspSetup) (s : Events) (f : Free) (m : List ℕ) (op tag : ℕ) (fits : Bool) → HasSizes r (session_terms s).common → refused_form r (session_place s) m ≡ None
    → request_at (session_place s) m ≡ Some (KeyUpdate op tag) → lacks_flag (session_terms s) (code_of m) ≡ false → (op == 2) ≡ true → fits_stage (stage_of s) op ≡ fits
    → fits ≡ updates 2 (turn_of r (session_place s) m f)
all_by r s f m op tag true sizes form is flag all h = sym (ap (updates 2) (update-answered r s m f op tag sizes form is flag h) ∙ all)
all_by r s f m op tag false sizes form is flag all h = sym (ap (updates 2) (update-misplaced r s m f op tag form is flag h))

pub all_turn : (r : RspSetup) (s : Events) (f : Free) (m : List ℕ) (op tag : ℕ) → HasSizes r (session_terms s).common → refused_form r (session_place s) m ≡ None
    → request_at (session_place s) m ≡ Some (KeyUpdate op tag) → lacks_flag (session_terms s) (code_of m) ≡ false → (op == 2) ≡ true
    → fits_stage (stage_of s) op ≡ updates 2 (turn_of r (session_place s) m f)
all_turn r s f m op tag sizes form is flag all = all_by r s f m op tag (fits_stage (stage_of s) op) sizes form is flag all refl

-- ---- Its operation.

pub is_two : (op : ℕ) → op ≡ 2 → (op == 2) ≡ true
is_two op is = grind (arith, nat_tests)

pub not_two : (op : ℕ) → (op ≡ 2 → ⊥) → (op == 2) ≡ false
not_two op other = by_test (op == 2) refl
  where
    by_test : (b : Bool) → (op == 2) ≡ b → b ≡ false
    by_test true e = absurd (other (grind (arith, nat_tests)))
    by_test false e = refl

-- ---- An inner message.

pub none_refused : (code : Option ErrorCode) → is_some code ≡ false → code ≡ None
none_refused None h = refl
none_refused (Some code) h = absurd (cc)

pub refused_other : (r : RspSetup) (s : Events) (f : Free) (stage : Stage) (inner : List ℕ) (code : Option ErrorCode) → stage ≡ stage_of s → code ≡ inner_refusal stage inner → is_some code ≡ true
    → false ≡ updates 2 (session_turn r s inner f)
refused_other r s f stage inner (Some code) at is h =
    sym (ap (updates 2) (inner-refused r s inner f code (ap (λ (x : Stage). inner_refusal x inner) (sym at) ∙ sym is)))
refused_other r s f stage inner None at is h = absurd (cc)

pub data_other : (r : RspSetup) (s : Events) (f : Free) (stage : Stage) (inner : List ℕ) (n : ℕ) → stage ≡ stage_of s → None ≡ inner_refusal stage inner → n ≡ slice_index inner 0 → (n ≡ 5 → ⊥)
    → false ≡ updates 2 (session_turn r s inner f)
data_other r s f stage inner n at none is other = sym (ap (updates 2) (data_deed r s f stage inner f.reply n at none is other refl).turn)
