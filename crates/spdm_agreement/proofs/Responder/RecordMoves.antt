-- A record that opens at a responder is a run of moves: comparisons, and PSK_FINISH taken, its refusal, or a request taken.
use Rattle.std.proofs.Common.{◌≡◌, ℕ, ◌+◌, ◌-◌, List, [], ◌∷◌, ◌++◌, Bool, true, false, cond, Some, None, ◌||◌, refl, sym, ap, ap₂, ◌∙◌, subst, arith, append_assoc, true≢false}
use Rattle.byteorder.specs.Endian.{little_number}
use Rattle.key_schedule.specs.Purpose.{Purpose, application_record}
use Rattle.key_schedule.specs.declared.direction.Direction.TheVariants.{Request, Response}
use Rattle.spdm_grammar.specs.declared.told.phase.Stage.{Stage}
use Rattle.spdm_grammar.specs.declared.told.phase.Stage.TheVariants as stage
use Rattle.responder_machine.specs.Answer.{Free}
use Rattle.responder_machine.specs.Records as records
use Rattle.spdm_machine.specs.Sessions.{purpose_in}
use Rattle.responder_machine.specs.Records.{opening_fault, opened, reply_record}
use Rattle.responder_machine.specs.Responder.{inner_reply}
use Rattle.responder_machine.specs.ResponderLog.{inner_acts, record_check, reply_made, opened_acts}
use Rattle.responder_machine.specs.Session.{Events, stage_of, is_live, session_terms, request_next, response_next, request_epoch, response_epoch, t1_of, t2_of}
use Rattle.spdm_machine.specs.Sessions.{is_past_handshake}
use Rattle.responder_machine.specs.Session.Event.{Heard}
use Rattle.responder_machine.specs.Setup.{RspSetup}
use Rattle.spdm_machine.specs.TagLog.{Act, Log, record_input, record_tag}
use Rattle.spdm_machine.specs.TagLog.Act.{Made}
use Rattle.responder_machine.specs.Turn.{Turn, takes, updates}
use Rattle.spdm_agreement.specs.Marks.{Asked, Served, Text, Exchange, HasBegun, handshake, served_open, taken, epoch_of, count_of}
use Rattle.spdm_agreement.specs.Marks as marks
use Rattle.spdm_agreement.specs.Marks.Served.{Finished, Refused, Took}
use Rattle.spdm_agreement.specs.Moves.{State, Move, IsPassed, request_shake, response_shake}
use Rattle.spdm_agreement.specs.Reading.{covered}
use Rattle.spdm_agreement.specs.Story.{served_first, served_turn, reply_text, taken_text}
use Rattle.spdm_agreement.proofs.Delivery.Data.{verifying, is_verification}
use Rattle.spdm_agreement.proofs.Messages.Beginnings.{reading_of, sealed_of}
use Rattle.spdm_agreement.proofs.Responder.Comparisons.{IsMoved, moves_by, chain, AreChecks, checks, passed_before}
use Rattle.spdm_agreement.proofs.Responder.RecordTags.{check_checks, inner_checks, check_passed, reply_input, opened_inner}
use Rattle.spdm_agreement.proofs.Responder.InnerTurns.{TurnIs}
use Rattle.spdm_agreement.proofs.Responder.Replies.{IsRoomy, tells_all, tells_any, tells_third}
use Rattle.spdm_agreement.proofs.Responder.Handshake.{ShakesAt, newest_begun}
use Rattle.spdm_agreement.proofs.Responder.FinishTurn.{refuse_told, finish_told, finish_inner, finish_second}
use Rattle.spdm_grammar.specs.declared.names.request_code.TheConstants.{PSK_FINISH}

-- A new key of the requester was not verified yet.
abbrev pub is_verifying : Stage → Bool
is_verifying stage.Handshake = false
is_verifying stage.Open = false
is_verifying stage.Verifying = true

-- The epochs, the numbers and the stage of a session are those counted in the marks under its T2.
pub record Counts (psk : List ℕ) (s : Events) (m : List Served) : Type 0 where
  pub request_epoch : request_epoch s ≡ epoch_of (reading_of psk).is_update (taken (t2_of s) m)
  pub request_next : request_next s ≡ count_of (reading_of psk).is_update 0 (taken (t2_of s) m)
  pub response_epoch : response_epoch s ≡ epoch_of (reading_of psk).is_update_all (taken (t2_of s) m)
  pub response_next : response_next s ≡ count_of (reading_of psk).is_update_all 1 (taken (t2_of s) m)
  pub stands : is_verifying (stage_of s) ≡ verifying (taken (t2_of s) m)

abbrev pub state : List Asked → List Served → Log → State
state asked served log = record { asked = asked; served = served; log = log }

both_checks : (a b : List Act) → AreChecks a → AreChecks b → AreChecks (a ++ b)
both_checks [] b x y = y
both_checks (Act.Checked p i v w ∷ a) b x y = both_checks a b x y
both_checks (Made p i v ∷ a) b x y = absurd x

-- What was compared before the reply is sealed.
abbrev pub compared : RspSetup → Events → List ℕ → List Act
compared r s sealed = inner_acts r s (opened r.psk s sealed) ++ record_check r s sealed

pub compares : (r : RspSetup) (s : Events) (sealed : List ℕ) (asked : List Asked) (m : List Served) (log : Log) → IsMoved (reading_of r.psk) (state asked m log) (state asked m (compared r s sealed ++ log))
compares r s sealed asked m log =
    checks (reading_of r.psk) asked m (compared r s sealed) log (both_checks (inner_acts r s (opened r.psk s sealed)) (record_check r s sealed) (inner_checks r s (opened r.psk s sealed)) (check_checks r s sealed))

-- The tag of the record was right.
pub passes : (r : RspSetup) (s : Events) (sealed : List ℕ) (log : Log) (p : Purpose) (number : ℕ) → opening_fault r.psk s sealed ≡ None → records.request_purpose r.psk s ≡ p → request_next s ≡ number
    → IsPassed p (covered (reading_of r.psk) (served_first s) p number (taken_text r.psk s sealed)) (compared r s sealed ++ log)
passes r s sealed log p number opens is_p is_number =
    let text = taken_text r.psk s sealed in
    let inner = inner_acts r s (opened r.psk s sealed) in
    let check = record_check r s sealed in
    let here = check_passed r s sealed log opens in
    let with_p = subst (λ (p : Purpose). IsPassed p (request_next s ∷ sealed_of (served_first s) p (request_next s) text) (check ++ log)) is_p here in
    let with_number = subst (λ (n : ℕ). IsPassed p (n ∷ sealed_of (served_first s) p n text) (check ++ log)) is_number with_p in
    subst (λ (l : Log). IsPassed p (number ∷ sealed_of (served_first s) p number text) l) (sym (append_assoc inner check log)) (passed_before p _ inner (check ++ log) with_number)

-- The tag of the reply.
abbrev reply_value : RspSetup → Events → Turn → List ℕ → List ℕ
reply_value r s t reply = record_tag (session_terms s).choice (records.reply_purpose r.psk s t) (records.reply_number s t) reply

made_is : (r : RspSetup) (s : Events) (t : Turn) (reply : List ℕ) (p : Purpose) (number : ℕ) → reply ≡ reply_record r.psk s t (inner_reply t) [] → records.reply_purpose r.psk s t ≡ p → records.reply_number s t ≡ number
    → Made p (covered (reading_of r.psk) (served_first s) p number (reply_text t)) (reply_value r s t reply) ≡ reply_made r s t reply
made_is r s t reply p number is is_p is_number =
    sym (ap (λ (i : List ℕ). Made (records.reply_purpose r.psk s t) i (reply_value r s t reply)) (ap (record_input (records.reply_number s t)) is ∙ reply_input r s t)
    ∙ ap₂ (λ (p : Purpose) (n : ℕ). Made p (n ∷ sealed_of (served_first s) p n (reply_text t)) (reply_value r s t reply)) is_p is_number)

-- ---- In the handshake.

-- What is known of a record and its turn.
pub record Opens (r : RspSetup) (s : Events) (f : Free) (sealed : List ℕ) (t : Turn) (reply : List ℕ) : Type 0 where
  pub live : is_live s ≡ true
  pub opens : opening_fault r.psk s sealed ≡ None
  pub room : IsRoomy s
  pub turn : TurnIs r s (opened r.psk s sealed) f t
  pub answers : reply ≡ reply_record r.psk s t (inner_reply t) []

same_number : (b : Bool) (n : ℕ) → b ≡ false → cond b 0 n ≡ n
same_number true n e = absurd (true≢false e)
same_number false n e = refl

same_purpose : (b : Bool) (p : Purpose) (epoch : ℕ) → b ≡ false → cond b (record p { epoch = epoch }) p ≡ p
same_purpose true p epoch e = absurd (true≢false e)
same_purpose false p epoch e = refl

shake_reply : (r : RspSetup) (s : Events) (t : Turn) → stage_of s ≡ stage.Handshake → updates 2 t ≡ false → records.reply_purpose r.psk s t ≡ response_shake (reading_of r.psk) (served_first s)
shake_reply r s t shakes quiet = same_purpose (updates 2 t) (records.response_purpose r.psk s) (response_epoch s + 1) quiet ∙ ap (λ (g : Stage). purpose_in g r.psk (t1_of s) (t2_of s) Response (response_epoch s)) shakes

pub shake_request : (r : RspSetup) (s : Events) → stage_of s ≡ stage.Handshake → records.request_purpose r.psk s ≡ request_shake (reading_of r.psk) (served_first s)
shake_request r s shakes = ap (λ (g : Stage). purpose_in g r.psk (t1_of s) (t2_of s) Request (request_epoch s)) shakes

finishes : (r : RspSetup) (s : Events) (f : Free) (sealed : List ℕ) (t : Turn) (reply : List ℕ) (asked : List Asked) (m : List Served) (log : Log) → Opens r s f sealed t reply → stage_of s ≡ stage.Handshake → ShakesAt s m → takes PSK_FINISH t ≡ true
    → IsMoved (reading_of r.psk) (state asked m (compared r s sealed ++ log)) (state asked (Finished (served_first s) (t2_of (Heard sealed t reply ∷ s)) ∷ m) (reply_made r s t reply ∷ compared r s sealed ++ log))
finishes r s f sealed t reply asked m log o shakes at finish =
    let x = served_first s in
    let told = finish_told r s (opened r.psk s sealed) f t shakes o.room o.turn finish in
    let past : is_past_handshake (stage_of s) ≡ false = ap is_past_handshake shakes in
    let text = taken_text r.psk s sealed in
    moves_by (reading_of r.psk) (Move.Finish x (t2_of (Heard sealed t reply ∷ s)) (request_next s) text (records.reply_number s t) (reply_text t) (reply_value r s t reply)) _ _ tt (
      newest_begun m x (at.last o.live past),
      passes r s sealed log (request_shake (reading_of r.psk) x) (request_next s) o.opens (shake_request r s shakes) refl,
      λ is. (let was = at.ready o.live past is.0 in (
        (was.0, same_number (updates 2 t) (response_next s) told.update ∙ was.1),
        told.reply,
        finish_second r.psk s sealed (opened r.psk s sealed) t reply finish told (finish_inner r.psk x text (opened r.psk s sealed) (opened_inner r.psk s sealed) is.1),
      )),
    )
    (ap (λ (a : Act). state asked (Finished x (t2_of (Heard sealed t reply ∷ s)) ∷ m) (a ∷ compared r s sealed ++ log))
    (made_is r s t reply (response_shake (reading_of r.psk) x) (records.reply_number s t) o.answers (shake_reply r s t shakes told.update) refl))

refuses : (r : RspSetup) (s : Events) (f : Free) (sealed : List ℕ) (t : Turn) (reply : List ℕ) (asked : List Asked) (m : List Served) (log : Log) → Opens r s f sealed t reply → stage_of s ≡ stage.Handshake → ShakesAt s m → takes PSK_FINISH t ≡ false
    → IsMoved (reading_of r.psk) (state asked m (compared r s sealed ++ log)) (state asked (Refused (served_first s) (reply_text t) ∷ m) (reply_made r s t reply ∷ compared r s sealed ++ log))
refuses r s f sealed t reply asked m log o shakes at none =
    let x = served_first s in
    let told = refuse_told r s (opened r.psk s sealed) f t shakes o.turn none in
    let past : is_past_handshake (stage_of s) ≡ false = ap is_past_handshake shakes in
    let text = taken_text r.psk s sealed in
    moves_by (reading_of r.psk) (Move.Refuse x (request_next s) text (records.reply_number s t) (reply_text t) (reply_value r s t reply)) _ _ tt (
      newest_begun m x (at.last o.live past),
      passes r s sealed log (request_shake (reading_of r.psk) x) (request_next s) o.opens (shake_request r s shakes) refl,
      λ is. (let was = at.ready o.live past is.0 in ((was.0, same_number (updates 2 t) (response_next s) told.1 ∙ was.1), told.0)),
    )
    (ap (λ (a : Act). state asked (Refused x (reply_text t) ∷ m) (a ∷ compared r s sealed ++ log))
    (made_is r s t reply (response_shake (reading_of r.psk) x) (records.reply_number s t) o.answers (shake_reply r s t shakes told.1) refl))

shakes_by : (r : RspSetup) (s : Events) (f : Free) (sealed : List ℕ) (t : Turn) (reply : List ℕ) (asked : List Asked) (m : List Served) (log : Log) (b : Bool) → Opens r s f sealed t reply → stage_of s ≡ stage.Handshake → ShakesAt s m → takes PSK_FINISH t ≡ b
    → IsMoved (reading_of r.psk) (state asked m (compared r s sealed ++ log))
    (state asked (cond b (Finished (served_first s) (t2_of (Heard sealed t reply ∷ s)) ∷ []) (Refused (served_first s) (reply_text t) ∷ []) ++ m) (reply_made r s t reply ∷ compared r s sealed ++ log))
shakes_by r s f sealed t reply asked m log true o shakes at is = finishes r s f sealed t reply asked m log o shakes at is
shakes_by r s f sealed t reply asked m log false o shakes at is = refuses r s f sealed t reply asked m log o shakes at is

-- ---- After it.

open_request : (r : RspSetup) (s : Events) (m : List Served) → is_past_handshake (stage_of s) ≡ true → Counts r.psk s m → records.request_purpose r.psk s ≡ marks.request_purpose (reading_of r.psk) (t2_of s) (taken (t2_of s) m)
open_request r s m past counts = go (stage_of s) past ∙ ap (application_record r.psk (t2_of s) Request) counts.request_epoch
  where
    go : (g : Stage) → is_past_handshake g ≡ true → purpose_in g r.psk (t1_of s) (t2_of s) Request (request_epoch s) ≡ application_record r.psk (t2_of s) Request (request_epoch s)
    go stage.Handshake e = absurd (true≢false (sym e))
    go stage.Open e = refl
    go stage.Verifying e = refl

open_response : (r : RspSetup) (s : Events) → is_past_handshake (stage_of s) ≡ true → records.response_purpose r.psk s ≡ application_record r.psk (t2_of s) Response (response_epoch s)
open_response r s past = go (stage_of s) past
  where
    go : (g : Stage) → is_past_handshake g ≡ true → purpose_in g r.psk (t1_of s) (t2_of s) Response (response_epoch s) ≡ application_record r.psk (t2_of s) Response (response_epoch s)
    go stage.Handshake e = absurd (true≢false (sym e))
    go stage.Open e = refl
    go stage.Verifying e = refl

next_purpose : (b : Bool) (psk u : List ℕ) (epoch : ℕ) → cond b (record (application_record psk u Response epoch) { epoch = epoch + 1 }) (application_record psk u Response epoch) ≡ application_record psk u Response (cond b (epoch + 1) epoch)
next_purpose true psk u epoch = refl
next_purpose false psk u epoch = refl

next_number : (b : Bool) (n : ℕ) → cond b 0 n ≡ cond b 1 (n + 1) - 1
next_number true n = refl
next_number false n = omega arith

-- The texts of the request and of its reply.
abbrev pub exchange_of : RspSetup → Events → List ℕ → Turn → Exchange
exchange_of r s sealed t = (taken_text r.psk s sealed, reply_text t)

pub updates_all : (r : RspSetup) (s : Events) (f : Free) (sealed : List ℕ) (t : Turn) (reply : List ℕ) → Opens r s f sealed t reply → (reading_of r.psk).is_update_all (exchange_of r s sealed t) ≡ updates 2 t
updates_all r s f sealed t reply o = tells_all r s (opened r.psk s sealed) f t (little_number 2 (taken_text r.psk s sealed)) (taken_text r.psk s sealed) (opened_inner r.psk s sealed) o.room o.turn

pub updates_any : (r : RspSetup) (s : Events) (f : Free) (sealed : List ℕ) (t : Turn) (reply : List ℕ) → Opens r s f sealed t reply → (reading_of r.psk).is_update (exchange_of r s sealed t) ≡ (updates 1 t || updates 2 t)
updates_any r s f sealed t reply o = tells_any r s (opened r.psk s sealed) f t (little_number 2 (taken_text r.psk s sealed)) (taken_text r.psk s sealed) (opened_inner r.psk s sealed) o.room o.turn

pub updates_third : (r : RspSetup) (s : Events) (f : Free) (sealed : List ℕ) (t : Turn) (reply : List ℕ) → Opens r s f sealed t reply → is_verification (exchange_of r s sealed t) ≡ updates 3 t
updates_third r s f sealed t reply o = tells_third r s (opened r.psk s sealed) f t (little_number 2 (taken_text r.psk s sealed)) (taken_text r.psk s sealed) (opened_inner r.psk s sealed) o.room o.turn

reply_key : (r : RspSetup) (s : Events) (f : Free) (sealed : List ℕ) (t : Turn) (reply : List ℕ) (m : List Served) → Opens r s f sealed t reply → is_past_handshake (stage_of s) ≡ true → Counts r.psk s m
    → records.reply_purpose r.psk s t ≡ marks.reply_purpose (reading_of r.psk) (t2_of s) (exchange_of r s sealed t ∷ taken (t2_of s) m)
reply_key r s f sealed t reply m o past counts =
    ap (λ (p : Purpose). cond (updates 2 t) (record p { epoch = response_epoch s + 1 }) p) (open_response r s past)
    ∙ next_purpose (updates 2 t) r.psk (t2_of s) (response_epoch s)
    ∙ ap₂ (λ (b : Bool) (n : ℕ). application_record r.psk (t2_of s) Response (cond b (n + 1) n)) (sym (updates_all r s f sealed t reply o)) counts.response_epoch

reply_at : (r : RspSetup) (s : Events) (f : Free) (sealed : List ℕ) (t : Turn) (reply : List ℕ) (m : List Served) → Opens r s f sealed t reply → Counts r.psk s m
    → records.reply_number s t ≡ marks.reply_number (reading_of r.psk) (exchange_of r s sealed t ∷ taken (t2_of s) m)
reply_at r s f sealed t reply m o counts =
    next_number (updates 2 t) (response_next s) ∙ ap₂ (λ (b : Bool) (n : ℕ). cond b 1 (n + 1) - 1) (sym (updates_all r s f sealed t reply o)) counts.response_next

takes_record : (r : RspSetup) (id : ℕ) (s : Events) (f : Free) (sealed : List ℕ) (t : Turn) (reply : List ℕ) (asked : List Asked) (m : List Served) (log : Log) → Opens r s f sealed t reply → is_past_handshake (stage_of s) ≡ true
    → served_open (reading_of r.psk) id m ≡ Some (served_first s, t2_of s) → Counts r.psk s m
    → IsMoved (reading_of r.psk) (state asked m (compared r s sealed ++ log)) (state asked (Took (t2_of s) (taken_text r.psk s sealed) (reply_text t) ∷ m) (reply_made r s t reply ∷ compared r s sealed ++ log))
takes_record r id s f sealed t reply asked m log o past held counts =
    let x = served_first s in
    let u = t2_of s in
    let text = taken_text r.psk s sealed in
    let all = exchange_of r s sealed t ∷ taken u m in
    moves_by (reading_of r.psk) (Move.Take x u text (reply_text t) (reply_value r s t reply)) _ _ tt (
      (id, held),
      passes r s sealed log (marks.request_purpose (reading_of r.psk) u (taken u m)) (marks.request_number (reading_of r.psk) (taken u m)) o.opens (open_request r s m past counts) counts.request_next,
    )
    (ap (λ (a : Act). state asked (Took u text (reply_text t) ∷ m) (a ∷ compared r s sealed ++ log))
    (made_is r s t reply (marks.reply_purpose (reading_of r.psk) u all) (marks.reply_number (reading_of r.psk) all) o.answers (reply_key r s f sealed t reply m o past counts) (reply_at r s f sealed t reply m o counts)))

-- ---- The whole record.

by_stage : (r : RspSetup) (id : ℕ) (s : Events) (f : Free) (sealed : List ℕ) (t : Turn) (reply : List ℕ) (asked : List Asked) (m : List Served) (log : Log) (g : Stage) → stage_of s ≡ g → Opens r s f sealed t reply → ShakesAt s m
    → (is_past_handshake (stage_of s) ≡ true → (served_open (reading_of r.psk) id m ≡ Some (served_first s, t2_of s)) × Counts r.psk s m)
    → IsMoved (reading_of r.psk) (state asked m (compared r s sealed ++ log)) (state asked (served_turn g r s sealed t reply ++ m) (reply_made r s t reply ∷ compared r s sealed ++ log))
by_stage r id s f sealed t reply asked m log stage.Handshake is o at held = shakes_by r s f sealed t reply asked m log (takes PSK_FINISH t) o is at refl
by_stage r id s f sealed t reply asked m log stage.Open is o at held = let past = ap is_past_handshake is in let h = held past in takes_record r id s f sealed t reply asked m log o past h.0 h.1
by_stage r id s f sealed t reply asked m log stage.Verifying is o at held = let past = ap is_past_handshake is in let h = held past in takes_record r id s f sealed t reply asked m log o past h.0 h.1

pub record_moves : (r : RspSetup) (id : ℕ) (s : Events) (f : Free) (sealed : List ℕ) (t : Turn) (reply : List ℕ) (asked : List Asked) (m : List Served) (log : Log) → Opens r s f sealed t reply → ShakesAt s m
    → (is_past_handshake (stage_of s) ≡ true → (served_open (reading_of r.psk) id m ≡ Some (served_first s, t2_of s)) × Counts r.psk s m)
    → IsMoved (reading_of r.psk) (state asked m log) (state asked (served_turn (stage_of s) r s sealed t reply ++ m) (opened_acts r s sealed t reply ++ log))
record_moves r id s f sealed t reply asked m log o at held =
    chain (reading_of r.psk) _ _ _ (compares r s sealed asked m log) (by_stage r id s f sealed t reply asked m log (stage_of s) refl o at held)
