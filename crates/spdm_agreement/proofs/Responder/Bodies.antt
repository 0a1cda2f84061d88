-- Whatever a responder does with a body is a run of moves, and its sessions stay those that its marks count.
use Rattle.std.proofs.Common.{◌≡◌, ℕ, ◌+◌, ◌≤◌, List, [], ◌∷◌, ◌++◌, drop, Bool, true, false, cond, Option, Some, None, ◌==◌, ◌||◌, refl, sym, ap, ◌∙◌, subst, arith, eqb-true, eq-eqb, true≢false}
use Rattle.std.specs.Prelude.{slice_index}
use Rattle.key_schedule.specs.declared.direction.Direction.TheVariants.{Response}
use Rattle.spdm_basis.specs.declared.causes.record_fault.RecordFault.{RecordFault}
use Rattle.spdm_grammar.specs.declared.told.phase.Phase.{Phase}
use Rattle.spdm_grammar.specs.declared.told.phase.Stage.{Stage}
use Rattle.spdm_grammar.specs.declared.told.phase.Stage.TheVariants as stage
use Rattle.responder_machine.specs.Answer.{Free}
use Rattle.responder_machine.specs.Does.{IsMade, chosen, clear_chosen, record_chosen, clear_does, record_does, responder_does}
use Rattle.responder_machine.specs.Handling.{turn_of}
use Rattle.responder_machine.specs.History.{History, kept_of, ended_of, clear_turns, phase_of, draws_of}
use Rattle.responder_machine.specs.History.Entry.{Clear, Sealed}
use Rattle.spdm_machine.specs.Keys.{Draw, verify_data}
use Rattle.responder_machine.specs.Place.{clear_place}
use Rattle.responder_machine.specs.Records.{opening_fault, opened, reply_record}
use Rattle.responder_machine.specs.Responder.{on_clear, on_record, to_session, in_session, in_session_by, session_turn, inner_reply, is_repeat, kept_reply, repeats, kept_record, decrypt_error}
use Rattle.spdm_machine.specs.Bodies.{clear_body, record_body}
use Rattle.responder_machine.specs.Responder.Outcome.{Same, Unopened, Adds}
use Rattle.responder_machine.specs.ResponderLog.{began_by, response_made, opened_acts, unopened_acts}
use Rattle.responder_machine.specs.Session.{Event, Events, session_of, stage_of, is_live, after_record, id_in_record, last_of, session_terms, t1_of, t2_of}
use Rattle.spdm_machine.specs.Sessions.{is_past_handshake}
use Rattle.responder_machine.specs.Session.Event.{Heard}
use Rattle.responder_machine.specs.Setup.{RspSetup}
use Rattle.spdm_machine.specs.TagLog.{Log}
use Rattle.responder_machine.specs.Turn.{Turn, takes, takes_draw}
use Rattle.world_machine.specs.Chance.{NoChance}
use Rattle.spdm_agreement.specs.Claims.{IsReached}
use Rattle.spdm_agreement.specs.Marks.{Asked, Served, next_served, taken}
use Rattle.spdm_agreement.specs.Marks.Served.{Finished, Refused}
use Rattle.spdm_agreement.specs.Moves.{State, Move, nothing_yet}
use Rattle.spdm_agreement.specs.Reading.{Reading}
use Rattle.spdm_agreement.specs.Story.{Past, served_from, served_first, served_turn, record_marks, reply_text, taken_text}
use Rattle.spdm_agreement.proofs.Moves.Invariant.{Invariant}
use Rattle.spdm_agreement.proofs.Worlds.EndSteps.{IsDraw, OwnLeads, serves_state, ServedReady, ServedStep, ServedStarts, Waits}
use Rattle.spdm_agreement.proofs.Moves.Runs.{run_good, starts_good, shaken, untaken}
use Rattle.spdm_agreement.proofs.Responder.OpenSessions.{ServedAt, served_stands, EndsByFinish}
use Rattle.spdm_agreement.proofs.Responder.FinishPlace.{made_steady, ends, takes_session}
use Rattle.spdm_agreement.proofs.Messages.Beginnings.{reading_of, is_sound_first, second_of}
use Rattle.spdm_agreement.proofs.Responder.Comparisons.{IsMoved, stays, moves_by, checks}
use Rattle.spdm_agreement.proofs.Responder.RecordTags.{unopened_checks, opened_inner}
use Rattle.spdm_agreement.proofs.Responder.InnerTurns.{turn_case}
use Rattle.spdm_agreement.proofs.Responder.Replies.{IsRoomy}
use Rattle.spdm_agreement.proofs.Responder.Handshake.{ShakesAt, newest_begun, shakes_stand}
use Rattle.spdm_agreement.proofs.Responder.FinishTurn.{finish_told, finish_inner, finish_second}
use Rattle.spdm_agreement.proofs.Responder.RecordMoves.{Opens, state, compared, compares, passes, shake_request, record_moves}
use Rattle.spdm_agreement.proofs.Responder.Counts.{IsCounted, cleared, ticked, own_record, elsewhere}
use Rattle.spdm_grammar.specs.declared.names.request_code.TheConstants.{GET_MEASUREMENTS, PSK_EXCHANGE, PSK_FINISH}

-- What is kept of a history: the sessions are counted.
abbrev pub AreCounted : (prior : Past) → RspSetup → History → Type 0
AreCounted prior r h = (id : ℕ) → IsCounted r.psk (session_of id h) (served_from prior r h)

-- The turn of a clear message.
abbrev pub clear_turn : RspSetup → History → List ℕ → Draw → Turn
clear_turn r h m d = turn_of r (clear_place h) m (clear_chosen r h d)

-- A session begins well: its beginning is sound and holds the number of the draw, and an answer of four bytes passes no
-- transfer size in it.
pub record BeginsWell (r : RspSetup) : Type 0 where
  pub begins : (h : History) → IsMade r h → (m : List ℕ) (d : Draw) → IsDraw d → takes PSK_EXCHANGE (clear_turn r h m d) ≡ true
      → (is_sound_first r.psk (served_first (began_by h (clear_turn r h m d))) ≡ true) × ((reading_of r.psk).responder_draw (served_first (began_by h (clear_turn r h m d))) ≡ d.number)
  pub room : (h : History) → IsMade r h → (id : ℕ) → is_live (session_of id h) ≡ true → IsRoomy (session_of id h)

leads_by : (r : Reading) (s z : State) → IsMoved r s z → OwnLeads r s z
leads_by r s z m = (m.moves, m.own, m.run)

-- ---- Nothing is added.

same : (prior : Past) → (r : RspSetup) (h : History) (asked : List Asked) (log : Log) (body : List ℕ) (d : Draw) (reply : List ℕ) → ServedReady prior (AreCounted prior) r h asked log d → ServedStep prior (AreCounted prior) r h asked log body d (Same reply)
same prior r h asked log body d reply ready = record {
  leads = leads_by (reading_of r.psk) _ _ (stays (reading_of r.psk) (serves_state prior r h asked log));
  keeps = λ reached. ready.kept;
  draws = let l = ready.fresh in omega arith;
}

unopened : (prior : Past) → (r : RspSetup) (h : History) (asked : List Asked) (log : Log) (body : List ℕ) (d : Draw) (reply : List ℕ) → ServedReady prior (AreCounted prior) r h asked log d → ServedStep prior (AreCounted prior) r h asked log body d (Unopened reply)
unopened prior r h asked log body d reply ready =
    let s = session_of (id_in_record (drop 1 body)) h in
    record {
      leads = leads_by (reading_of r.psk) _ _ (checks (reading_of r.psk) asked (served_from prior r h) (unopened_acts r s (drop 1 body)) log (unopened_checks r s (drop 1 body)));
      keeps = λ reached. ready.kept;
      draws = let l = ready.fresh in omega arith;
    }

-- ---- In the clear.

begins : (prior : Past) → (r : RspSetup) (h : History) (asked : List Asked) (log : Log) (m : List ℕ) (d : Draw) (b : Bool) → takes PSK_EXCHANGE (clear_turn r h m d) ≡ b → BeginsWell r → ServedReady prior (AreCounted prior) r h asked log d
    → IsMoved (reading_of r.psk) (serves_state prior r h asked log)
    (state asked (cond b (Served.Began (served_first (began_by h (clear_turn r h m d))) ∷ []) [] ++ served_from prior r h) (cond b (response_made r (began_by h (clear_turn r h m d)) ∷ []) [] ++ log))
begins prior r h asked log m d false is well ready = stays (reading_of r.psk) (serves_state prior r h asked log)
begins prior r h asked log m d true is well ready =
    let t = clear_turn r h m d in
    let s = began_by h t in
    let w = well.begins h ready.made m d ready.draw is in
    moves_by (reading_of r.psk) (Move.Begin (served_first s) (verify_data (session_terms s).choice r.psk (t1_of s) Response (t1_of s))) _ _ tt
    (w.0, subst (λ (n : ℕ). next_served (reading_of r.psk) (served_from prior r h) ≤ n) (sym w.1) ready.fresh) refl

clear_draws : (prior : Past) → (r : RspSetup) (h : History) (asked : List Asked) (log : Log) (m : List ℕ) (d : Draw) (b c : Bool) → takes PSK_EXCHANGE (clear_turn r h m d) ≡ b → BeginsWell r → ServedReady prior (AreCounted prior) r h asked log d
    → next_served (reading_of r.psk) (cond b (Served.Began (served_first (began_by h (clear_turn r h m d))) ∷ []) [] ++ served_from prior r h) + draws_of h ≤ d.number + cond (b || c) (draws_of h + 1) (draws_of h)
clear_draws prior r h asked log m d true c is well ready =
    let w = (well.begins h ready.made m d ready.draw is).1 in
    let n = (reading_of r.psk).responder_draw (served_first (began_by h (clear_turn r h m d))) in
    let e : n ≡ d.number = w in
    let k = draws_of h in
    let goal : (n + 1) + k ≤ d.number + (k + 1) = omega arith in goal
clear_draws prior r h asked log m d false true is well ready = let l = ready.fresh in omega arith
clear_draws prior r h asked log m d false false is well ready = let l = ready.fresh in omega arith

clear_kept : (prior : Past) → (r : RspSetup) (h : History) (tag : ℕ) (t : Turn) (d : Draw) → AreCounted prior r h → AreCounted prior r (Clear tag t d ∷ h)
unfolding session_of
clear_kept prior r h tag t d kept = λ id. cleared r.psk id (session_of id h) h t (served_from prior r h) (kept id)

adds_clear : (prior : Past) → (r : RspSetup) (h : History) (asked : List Asked) (log : Log) (body : List ℕ) (tag : ℕ) (m : List ℕ) (d : Draw) → BeginsWell r → ServedReady prior (AreCounted prior) r h asked log d
    → ServedStep prior (AreCounted prior) r h asked log body d (Adds (Clear tag (clear_turn r h m d) d))
adds_clear prior r h asked log body tag m d well ready = record {
  leads = leads_by (reading_of r.psk) _ _ (begins prior r h asked log m d (takes PSK_EXCHANGE (clear_turn r h m d)) refl well ready);
  keeps = λ reached. clear_kept prior r h tag (clear_turn r h m d) d ready.kept;
  draws = clear_draws prior r h asked log m d (takes PSK_EXCHANGE (clear_turn r h m d)) (takes GET_MEASUREMENTS (clear_turn r h m d)) refl well ready;
}

clear_by : (prior : Past) → (r : RspSetup) (h : History) (asked : List Asked) (log : Log) (body : List ℕ) (tag : ℕ) (m : List ℕ) (d : Draw) (b : Bool) → BeginsWell r → ServedReady prior (AreCounted prior) r h asked log d
    → ServedStep prior (AreCounted prior) r h asked log body d (cond b (Same (clear_body (kept_reply (kept_of h)))) (Adds (Clear tag (clear_turn r h m d) d)))
clear_by prior r h asked log body tag m d true well ready = same prior r h asked log body d _ ready
clear_by prior r h asked log body tag m d false well ready = adds_clear prior r h asked log body tag m d well ready

clear_step : (prior : Past) → (r : RspSetup) (h : History) (asked : List Asked) (log : Log) (body : List ℕ) (tag : ℕ) (m : List ℕ) (d : Draw) → BeginsWell r → ServedReady prior (AreCounted prior) r h asked log d
    → ServedStep prior (AreCounted prior) r h asked log body d (clear_does r h tag m d)
unfolding on_clear
clear_step prior r h asked log body tag m d well ready = clear_by prior r h asked log body tag m d (is_repeat (kept_of h) tag m) well ready

-- ---- In a session.

no_pad : (r : RspSetup) (h : History) (sealed : List ℕ) (d : Draw) → (record_chosen r h sealed d).pad ≡ []
unfolding chosen
no_pad r h sealed d = refl

next_by : (r : Reading) (g : Stage) (setup : RspSetup) (s : Events) (sealed : List ℕ) (t : Turn) (reply : List ℕ) (m : List Served) → next_served r (served_turn g setup s sealed t reply ++ m) ≡ next_served r m
next_by r stage.Handshake setup s sealed t reply m = go (takes PSK_FINISH t)
  where
    go : (b : Bool) → next_served r (cond b (Finished (served_first s) (t2_of (Heard sealed t reply ∷ s)) ∷ []) (Refused (served_first s) (reply_text t) ∷ []) ++ m) ≡ next_served r m
    go true = refl
    go false = refl
next_by r stage.Open setup s sealed t reply m = refl
next_by r stage.Verifying setup s sealed t reply m = refl

next_record : (r : Reading) (setup : RspSetup) (s : Events) (sealed : List ℕ) (t : Turn) (reply : List ℕ) (m : List Served) → next_served r (record_marks setup s sealed t reply ++ m) ≡ next_served r m
next_record r setup [] sealed t reply m = refl
next_record r setup (e ∷ s) sealed t reply m = next_by r (stage_of (e ∷ s)) setup (e ∷ s) sealed t reply m

more_draws : (b : Bool) (n : ℕ) → n ≤ cond b (n + 1) n
more_draws true n = omega arith
more_draws false n = omega arith

sealed_draws : (prior : Past) → (r : RspSetup) (h : History) (asked : List Asked) (log : Log) (s : Events) (sealed : List ℕ) (t : Turn) (reply : List ℕ) (d : Draw) → ServedReady prior (AreCounted prior) r h asked log d
    → next_served (reading_of r.psk) (record_marks r s sealed t reply ++ served_from prior r h) + draws_of h ≤ d.number + cond (takes_draw t) (draws_of h + 1) (draws_of h)
sealed_draws prior r h asked log s sealed t reply d ready =
    let l = ready.fresh in
    let more = more_draws (takes_draw t) (draws_of h) in
    let new = next_served (reading_of r.psk) (record_marks r s sealed t reply ++ served_from prior r h) in
    let old = next_served (reading_of r.psk) (served_from prior r h) in
    let e : new ≡ old = next_record (reading_of r.psk) r s sealed t reply (served_from prior r h) in
    let k = draws_of h in
    let j = cond (takes_draw t) (draws_of h + 1) (draws_of h) in
    let goal : new + k ≤ d.number + j = omega arith in goal

-- With PSK_FINISH nothing was taken under the T2 of the session.
untaken_yet : (r : RspSetup) (s : Events) (f : Free) (sealed : List ℕ) (t : Turn) (reply : List ℕ) (asked : List Asked) (m : List Served) (log : Log) → Opens r s f sealed t reply → ShakesAt s m
    → Invariant (reading_of r.psk) asked m (compared r s sealed ++ log) → NoChance (compared r s sealed ++ log) → stage_of s ≡ stage.Handshake → takes PSK_FINISH t ≡ true → taken (t2_of (Heard sealed t reply ∷ s)) m ≡ []
untaken_yet r s f sealed t reply asked m log o at k n shakes finish =
    let x = served_first s in
    let inner = opened r.psk s sealed in
    let text = taken_text r.psk s sealed in
    let past : is_past_handshake (stage_of s) ≡ false = ap is_past_handshake shakes in
    let told = finish_told r s inner f t shakes o.room o.turn finish in
    let is = (shaken (reading_of r.psk) (state asked m (compared r s sealed ++ log)) k n x _ text (newest_begun m x (at.last o.live past))
    (passes r s sealed log _ _ o.opens (shake_request r s shakes) refl)).1 in
    let was = (at.ready o.live past is.0).0 in
    let second : t2_of (Heard sealed t reply ∷ s) ≡ second_of r.psk x = finish_second r.psk s sealed inner t reply finish told (finish_inner r.psk x text inner (opened_inner r.psk s sealed) is.1) in
    ap (λ (u : List ℕ). taken u m) second ∙ untaken (reading_of r.psk) asked m (compared r s sealed ++ log) k x was

-- The invariant, once the tags of the record were compared.
compared_keeps : (r : RspSetup) (s : Events) (sealed : List ℕ) (asked : List Asked) (m : List Served) (log : Log) → IsReached (reading_of r.psk) (state asked m log) → NoChance (compared r s sealed ++ log) → Invariant (reading_of r.psk) asked m (compared r s sealed ++ log)
compared_keeps r s sealed asked m log reached n =
    let moved = compares r s sealed asked m log in
    (run_good (reading_of r.psk) moved.moves (state asked m log) (state asked m (compared r s sealed ++ log)) moved.run
    (run_good (reading_of r.psk) reached.moves nothing_yet (state asked m log) reached.run (starts_good (reading_of r.psk)))).holds n

kept_by : (prior : Past) → (r : RspSetup) (h : History) (id of : ℕ) (e : Event) (s : Events) (f : Free) (sealed : List ℕ) (t : Turn) (reply : List ℕ) (asked : List Asked) (log : Log) (b : Bool) → (of == id) ≡ b → session_of of h ≡ e ∷ s
    → Opens r (e ∷ s) f sealed t reply → EndsByFinish (stage_of (e ∷ s)) (e ∷ s) sealed t reply → ShakesAt (e ∷ s) (served_from prior r h) → ServedAt r.psk of (e ∷ s) (served_from prior r h) → ServedAt r.psk id (session_of id h) (served_from prior r h)
    → Invariant (reading_of r.psk) asked (served_from prior r h) (compared r (e ∷ s) sealed ++ log) → NoChance (compared r (e ∷ s) sealed ++ log) → AreCounted prior r h
    → IsCounted r.psk (cond b (after_record (session_of id h) sealed t reply) (session_of id h)) (record_marks r (e ∷ s) sealed t reply ++ served_from prior r h)
kept_by prior r h id of e s f sealed t reply asked log true is own o steady at served other k n kept =
    let here : session_of id h ≡ e ∷ s = sym (ap (λ (i : ℕ). session_of i h) (eqb-true of id is)) ∙ own in
    subst (λ (x : Events). IsCounted r.psk (after_record x sealed t reply) (record_marks r (e ∷ s) sealed t reply ++ served_from prior r h)) (sym here)
    (own_record r e s f sealed t reply (served_from prior r h) o steady (untaken_yet r (e ∷ s) f sealed t reply asked (served_from prior r h) log o at k n)
    (subst (λ (x : Events). IsCounted r.psk x (served_from prior r h)) own (kept of)))
kept_by prior r h id of e s f sealed t reply asked log false is own o steady at served other k n kept =
    elsewhere r id of e s (session_of id h) sealed t reply asked (served_from prior r h) (compared r (e ∷ s) sealed ++ log) k (λ same. true≢false (sym (eq-eqb of id same) ∙ is)) served other (kept id)

-- What is known of the session of a record.
pub record IsSession (prior : Past) (r : RspSetup) (h : History) (of : ℕ) (e : Event) (s : Events) : Type 0 where
  pub is : session_of of h ≡ e ∷ s
  pub at : ShakesAt (e ∷ s) (served_from prior r h)
  pub served : ServedAt r.psk of (e ∷ s) (served_from prior r h)
  pub room : IsRoomy (e ∷ s)

session_at : (prior : Past) → (r : RspSetup) (h : History) (of : ℕ) (e : Event) (s : Events) → IsMade r h → BeginsWell r → session_of of h ≡ e ∷ s → IsSession prior r h of e s
session_at prior r h of e s made well is =
    let steady = made_steady r h made in
    record {
      is = is;
      at = subst (λ (x : Events). ShakesAt x (served_from prior r h)) is (shakes_stand prior r h steady of);
      served = subst (λ (x : Events). ServedAt r.psk of x (served_from prior r h)) is (served_stands prior r.psk r h steady of);
      room = subst IsRoomy is (well.room h made of (ap is_live is));
    }

-- The record that answers, and the turn.
abbrev record_turn : RspSetup → History → Events → List ℕ → Draw → Turn
record_turn r h s sealed d = session_turn r s (opened r.psk s sealed) (record_chosen r h sealed d)

abbrev record_reply : RspSetup → History → Events → List ℕ → Draw → List ℕ
record_reply r h s sealed d = reply_record r.psk s (record_turn r h s sealed d) (inner_reply (record_turn r h s sealed d)) (record_chosen r h sealed d).pad

record_opens : (prior : Past) → (r : RspSetup) (h : History) (e : Event) (s : Events) (sealed : List ℕ) (d : Draw) → IsSession prior r h (id_in_record sealed) e s → opening_fault r.psk (e ∷ s) sealed ≡ None
    → Opens r (e ∷ s) (record_chosen r h sealed d) sealed (record_turn r h (e ∷ s) sealed d) (record_reply r h (e ∷ s) sealed d)
record_opens prior r h e s sealed d x none =
    let f = record_chosen r h sealed d in
    let t = record_turn r h (e ∷ s) sealed d in
    record {
      live = refl;
      opens = none;
      room = x.room;
      turn = turn_case r (e ∷ s) (opened r.psk (e ∷ s) sealed) f;
      answers = ap (λ (pad : List ℕ). reply_record r.psk (e ∷ s) t (inner_reply t) pad) (no_pad r h sealed d);
    }

record_leads : (prior : Past) → (r : RspSetup) (h : History) (asked : List Asked) (log : Log) (e : Event) (s : Events) (sealed : List ℕ) (d : Draw) → AreCounted prior r h → IsSession prior r h (id_in_record sealed) e s → opening_fault r.psk (e ∷ s) sealed ≡ None
    → IsMoved (reading_of r.psk) (serves_state prior r h asked log)
    (state asked (record_marks r (e ∷ s) sealed (record_turn r h (e ∷ s) sealed d) (record_reply r h (e ∷ s) sealed d) ++ served_from prior r h) (opened_acts r (e ∷ s) sealed (record_turn r h (e ∷ s) sealed d) (record_reply r h (e ∷ s) sealed d) ++ log))
record_leads prior r h asked log e s sealed d kept x none =
    let of = id_in_record sealed in
    record_moves r of (e ∷ s) (record_chosen r h sealed d) sealed (record_turn r h (e ∷ s) sealed d) (record_reply r h (e ∷ s) sealed d) asked (served_from prior r h) log (record_opens prior r h e s sealed d x none) x.at
    (λ past. (x.served.told past, (subst (λ (y : Events). IsCounted r.psk y (served_from prior r h)) x.is (kept of)).counts past))

record_kept : (prior : Past) → (r : RspSetup) (h : History) (asked : List Asked) (log : Log) (tag : ℕ) (e : Event) (s : Events) (sealed : List ℕ) (d : Draw) → ServedReady prior (AreCounted prior) r h asked log d → IsSession prior r h (id_in_record sealed) e s → opening_fault r.psk (e ∷ s) sealed ≡ None
    → NoChance (opened_acts r (e ∷ s) sealed (record_turn r h (e ∷ s) sealed d) (record_reply r h (e ∷ s) sealed d) ++ log)
    → AreCounted prior r (Sealed tag sealed (record_turn r h (e ∷ s) sealed d) (record_reply r h (e ∷ s) sealed d) d ∷ h)
unfolding session_of
record_kept prior r h asked log tag e s sealed d ready x none chance = λ id.
    (let of = id_in_record sealed in
    let f = record_chosen r h sealed d in
    let t = record_turn r h (e ∷ s) sealed d in
    let reply = record_reply r h (e ∷ s) sealed d in
    let inner = opened r.psk (e ∷ s) sealed in
    let steady = ends r (e ∷ s) (drop 1 inner) sealed t reply (stage_of (e ∷ s)) refl (takes_session r (e ∷ s) inner f) in
    let n = chance.1 in
    let k = compared_keeps r (e ∷ s) sealed asked (served_from prior r h) log ready.reached n in
    subst (λ (y : Events). IsCounted r.psk (cond (of == id) (after_record (session_of id h) sealed t reply) (session_of id h)) (record_marks r y sealed t reply ++ served_from prior r h)) (sym x.is)
    (kept_by prior r h id of e s f sealed t reply asked log (of == id) refl x.is (record_opens prior r h e s sealed d x none) steady x.at x.served (served_stands prior r.psk r h (made_steady r h ready.made) id) k n ready.kept))

adds_record : (prior : Past) → (r : RspSetup) (h : History) (asked : List Asked) (log : Log) (body : List ℕ) (tag : ℕ) (e : Event) (s : Events) (sealed : List ℕ) (d : Draw) → ServedReady prior (AreCounted prior) r h asked log d → IsSession prior r h (id_in_record sealed) e s → opening_fault r.psk (e ∷ s) sealed ≡ None
    → ServedStep prior (AreCounted prior) r h asked log body d (Adds (Sealed tag sealed (record_turn r h (e ∷ s) sealed d) (record_reply r h (e ∷ s) sealed d) d))
adds_record prior r h asked log body tag e s sealed d ready x none =
    let t = record_turn r h (e ∷ s) sealed d in
    let reply = record_reply r h (e ∷ s) sealed d in
    let of = id_in_record sealed in
    record {
      leads = subst (λ (y : Events). OwnLeads (reading_of r.psk) (serves_state prior r h asked log) (state asked (record_marks r y sealed t reply ++ served_from prior r h) (opened_acts r y sealed t reply ++ log))) (sym x.is)
          (leads_by (reading_of r.psk) _ _ (record_leads prior r h asked log e s sealed d ready.kept x none));
      keeps = λ reached. record_kept prior r h asked log tag e s sealed d ready x none (subst (λ (y : Events). NoChance (opened_acts r y sealed t reply ++ log)) x.is reached.no_chance);
      draws = sealed_draws prior r h asked log (session_of of h) sealed t reply d ready;
    }

in_session_step : (prior : Past) → (r : RspSetup) (h : History) (asked : List Asked) (log : Log) (body : List ℕ) (tag : ℕ) (phase : Phase) (e : Event) (s : Events) (sealed : List ℕ) (d : Draw) (o : Option RecordFault) → opening_fault r.psk (e ∷ s) sealed ≡ o
    → ServedReady prior (AreCounted prior) r h asked log d → IsSession prior r h (id_in_record sealed) e s → ServedStep prior (AreCounted prior) r h asked log body d (in_session_by r phase (e ∷ s) (record_chosen r h sealed d) tag sealed d o)
in_session_step prior r h asked log body tag phase e s sealed d (Some fault) is ready x = unopened prior r h asked log body d (decrypt_error phase) ready
in_session_step prior r h asked log body tag phase e s sealed d None is ready x = adds_record prior r h asked log body tag e s sealed d ready x is

live_step : (prior : Past) → (r : RspSetup) (h : History) (asked : List Asked) (log : Log) (body : List ℕ) (tag : ℕ) (phase : Phase) (e : Event) (s : Events) (sealed : List ℕ) (d : Draw) (b : Bool)
    → ServedReady prior (AreCounted prior) r h asked log d → IsSession prior r h (id_in_record sealed) e s
    → ServedStep prior (AreCounted prior) r h asked log body d (cond b (Same (record_body (kept_record (last_of (e ∷ s))))) (in_session r phase (e ∷ s) (record_chosen r h sealed d) tag sealed d))
unfolding in_session
live_step prior r h asked log body tag phase e s sealed d true ready x = same prior r h asked log body d _ ready
live_step prior r h asked log body tag phase e s sealed d false ready x = in_session_step prior r h asked log body tag phase e s sealed d (opening_fault r.psk (e ∷ s) sealed) refl ready x

session_step : (prior : Past) → (r : RspSetup) (h : History) (asked : List Asked) (log : Log) (body : List ℕ) (tag : ℕ) (phase : Phase) (s : Events) (sealed : List ℕ) (d : Draw) → session_of (id_in_record sealed) h ≡ s → BeginsWell r
    → ServedReady prior (AreCounted prior) r h asked log d → ServedStep prior (AreCounted prior) r h asked log body d (to_session r phase s (record_chosen r h sealed d) tag sealed d)
session_step prior r h asked log body tag phase [] sealed d is well ready = unopened prior r h asked log body d (decrypt_error phase) ready
session_step prior r h asked log body tag phase (e ∷ s) sealed d is well ready =
    live_step prior r h asked log body tag phase e s sealed d (repeats (last_of (e ∷ s)) sealed) ready (session_at prior r h (id_in_record sealed) e s ready.made well is)

record_by : (prior : Past) → (r : RspSetup) (h : History) (asked : List Asked) (log : Log) (body : List ℕ) (tag : ℕ) (sealed : List ℕ) (d : Draw) (b : Bool) → BeginsWell r → ServedReady prior (AreCounted prior) r h asked log d
    → ServedStep prior (AreCounted prior) r h asked log body d (cond b (Same (record_body (kept_record (ended_of h)))) (to_session r (phase_of (clear_turns h)) (session_of (id_in_record sealed) h) (record_chosen r h sealed d) tag sealed d))
record_by prior r h asked log body tag sealed d true well ready = same prior r h asked log body d _ ready
record_by prior r h asked log body tag sealed d false well ready = session_step prior r h asked log body tag (phase_of (clear_turns h)) (session_of (id_in_record sealed) h) sealed d refl well ready

record_step : (prior : Past) → (r : RspSetup) (h : History) (asked : List Asked) (log : Log) (body : List ℕ) (tag : ℕ) (sealed : List ℕ) (d : Draw) → BeginsWell r → ServedReady prior (AreCounted prior) r h asked log d
    → ServedStep prior (AreCounted prior) r h asked log body d (record_does r h tag sealed d)
unfolding on_record
record_step prior r h asked log body tag sealed d well ready = record_by prior r h asked log body tag sealed d (repeats (ended_of h) sealed) well ready

-- ---- All bodies.

does_by : (prior : Past) → (r : RspSetup) (h : History) (asked : List Asked) (log : Log) (tag : ℕ) (body : List ℕ) (d : Draw) (b : Bool) → BeginsWell r → ServedReady prior (AreCounted prior) r h asked log d
    → ServedStep prior (AreCounted prior) r h asked log body d (cond b (clear_does r h tag (drop 1 body) d) (record_does r h tag (drop 1 body) d))
does_by prior r h asked log tag body d true well ready = clear_step prior r h asked log body tag (drop 1 body) d well ready
does_by prior r h asked log tag body d false well ready = record_step prior r h asked log body tag (drop 1 body) d well ready

pub does_where : (prior : Past) → (r : RspSetup) (h : History) (asked : List Asked) (log : Log) (tag : ℕ) (body : List ℕ) (d : Draw) → BeginsWell r → ServedReady prior (AreCounted prior) r h asked log d
    → ServedStep prior (AreCounted prior) r h asked log body d (responder_does r h tag body d)
does_where prior r h asked log tag body d well ready = does_by prior r h asked log tag body d (slice_index body 0 == 5) well ready

-- ---- The beginning, queued data and time.

pub served_starts : (prior : Past) → ServedStarts (AreCounted prior)
unfolding session_of
served_starts prior r = λ id. record { counts = λ e. absurd (true≢false (sym e)) }

pub waits : (prior : Past) → Waits (AreCounted prior)
unfolding session_of
waits prior r h made kept = (λ bytes id. kept id, λ seconds id. ticked r.psk (session_of id h) seconds (served_from prior r h) (kept id))
