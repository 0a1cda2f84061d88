-- A responder keeps that what it took under a T2 are turns of one session.
use Rattle.std.proofs.Common.{◌≡◌, ◌==◌, ℕ, List, [], ◌∷◌, ◌++◌, length, drop, Bool, true, false, cond, Option, Some, None, refl, sym, ap, ◌∙◌, subst, arith, eqb-true, eq-eqb, true≢false}
use Rattle.std.specs.Prelude.{slice_index}
use Rattle.responder_machine.proofs.Making.{does_made}
use Rattle.responder_machine.proofs.Sizes.{session_sizes_set_up}
use Rattle.responder_machine.specs.Answer.{Free}
use Rattle.responder_machine.specs.Does.{IsMade, chosen, clear_chosen, record_chosen, responder_does}
use Rattle.responder_machine.specs.History.{History, ended_of, kept_of, clear_turns, phase_of}
use Rattle.responder_machine.specs.History.Entry.{Clear, Sealed, Queued, Ticked, Dropped}
use Rattle.responder_machine.specs.Records.{opening_fault}
use Rattle.responder_machine.specs.Responder.{Outcome, after, in_session, in_session_by, is_repeat, on_clear, on_record, repeats, session_turn, to_session}
use Rattle.responder_machine.specs.Responder.Outcome.{Same, Unopened, Adds}
use Rattle.responder_machine.specs.Session.{Event, Events, after_record, id_in_record, is_live, last_of, session_negotiation, session_of, stage_of, t2_of, turns_of}
use Rattle.responder_machine.specs.Session.Event.{Heard}
use Rattle.responder_machine.specs.Setup.{RspSetup}
use Rattle.responder_machine.specs.Turn.{Turn, takes}
use Rattle.spdm_agreement.proofs.Delivery.AtResponder.{opened_in}
use Rattle.spdm_agreement.proofs.Messages.Beginnings.{reading_of}
use Rattle.spdm_agreement.proofs.Moves.Runs.{holds}
use Rattle.spdm_agreement.proofs.Responder.Counts.{IsCounted, other_second, other_stage}
use Rattle.spdm_agreement.proofs.Responder.DataAnswered as serves
use Rattle.spdm_agreement.proofs.Responder.FinishPlace.{made_steady, record_entry}
use Rattle.spdm_agreement.proofs.Responder.OpenSessions.{ServedAt, served_stands}
use Rattle.spdm_agreement.proofs.Worlds.EndSteps.{DoesWell, ServedStarts, Waits, serves_state}
use Rattle.spdm_agreement.specs.Claims.{IsReached}
use Rattle.spdm_agreement.specs.Configured.{IsResponder}
use Rattle.spdm_agreement.specs.Marks.{Asked, Exchange, Served}
use Rattle.spdm_agreement.specs.Story.{Past, record_marks, served_from}
use Rattle.spdm_basis.specs.declared.causes.record_fault.RecordFault.{RecordFault}
use Rattle.spdm_grammar.specs.declared.names.request_code.TheConstants.{END_SESSION, GET_VERSION, PSK_EXCHANGE}
use Rattle.spdm_grammar.specs.declared.told.phase.Phase.{Phase}
use Rattle.spdm_machine.specs.Keys.{Draw}
use Rattle.spdm_machine.specs.TagLog.{Log}
use Rattle.attest_laws.proofs.Exchanges.{AreServed}
use Rattle.attest_laws.proofs.Served.{AllServed, IsKept, IsRecorded, IsShown, all_stage, cleared, cleared_taken, ended_by, gone, own_stage, past_marks, ticked}
use Rattle.attest_laws.proofs.Turns.{IsSettled}

-- ---- An entry stands with the draw that stood next.

abbrev HasDraw : Draw → Outcome → Type 0
HasDraw d (Same body) = Unit {0}
HasDraw d (Unopened body) = Unit {0}
HasDraw d (Adds (Clear tag t d')) = d ≡ d'
HasDraw d (Adds (Sealed tag m t reply d')) = d ≡ d'
HasDraw d (Adds _) = ⊥

either : (d : Draw) (b : Bool) (x y : Outcome) → HasDraw d x → HasDraw d y → HasDraw d (cond b x y)
either d true x y p q = p
either d false x y p q = q

clear_draw : (r : RspSetup) (h : History) (tag : ℕ) (m : List ℕ) (f : Free) (d : Draw) → HasDraw d (on_clear r h tag m f d)
unfolding on_clear
clear_draw r h tag m f d = either d (is_repeat (kept_of h) tag m) _ _ tt refl

fault_draw : (r : RspSetup) (phase : Phase) (s : Events) (f : Free) (tag : ℕ) (sealed : List ℕ) (d : Draw) (o : Option RecordFault) → HasDraw d (in_session_by r phase s f tag sealed d o)
fault_draw r phase s f tag sealed d (Some fault) = tt
fault_draw r phase s f tag sealed d None = refl

session_draw : (r : RspSetup) (phase : Phase) (s : Events) (f : Free) (tag : ℕ) (sealed : List ℕ) (d : Draw) → HasDraw d (to_session r phase s f tag sealed d)
unfolding in_session
session_draw r phase [] f tag sealed d = tt
session_draw r phase (e ∷ s) f tag sealed d = either d (repeats (last_of (e ∷ s)) sealed) _ (in_session r phase (e ∷ s) f tag sealed d) tt (fault_draw r phase (e ∷ s) f tag sealed d (opening_fault r.psk (e ∷ s) sealed))

record_draw : (r : RspSetup) (h : History) (tag : ℕ) (sealed : List ℕ) (f : Free) (d : Draw) → HasDraw d (on_record r h tag sealed f d)
unfolding on_record
record_draw r h tag sealed f d = either d (repeats (ended_of h) sealed) _ _ tt (session_draw r (phase_of (clear_turns h)) (session_of (id_in_record sealed) h) f tag sealed d)

does_draw : (r : RspSetup) (h : History) (tag : ℕ) (body : List ℕ) (d : Draw) → HasDraw d (responder_does r h tag body d)
does_draw r h tag body d =
    either d (slice_index body 0 == 5) _ _ (clear_draw r h tag (drop 1 body) (clear_chosen r h d) d) (record_draw r h tag (drop 1 body) (record_chosen r h (drop 1 body) d) d)

-- ---- A record.

settled : (r : RspSetup) (h : History) (sealed : List ℕ) (d : Draw) → IsResponder r → IsMade r h → length d.bytes ≡ 32 → is_live (session_of (id_in_record sealed) h) ≡ true
    → IsSettled r (session_negotiation (session_of (id_in_record sealed) h)) (session_of (id_in_record sealed) h) (record_chosen r h sealed d) (turns_of (session_of (id_in_record sealed) h))
unfolding chosen
settled r h sealed d setup made drawn live = record {
  negotiation = refl;
  sizes = session_sizes_set_up r h (id_in_record sealed) made setup.sizes.ordered setup.sizes.most live;
  turns = refl;
  nonce = drawn;
  opaque = refl;
  handle = omega arith;
}

recorded : (r : RspSetup) (h : History) (tag : ℕ) (sealed : List ℕ) (t : Turn) (reply : List ℕ) (d : Draw) → IsResponder r → IsMade r (Sealed tag sealed t reply d ∷ h) → length d.bytes ≡ 32 → is_live (session_of (id_in_record sealed) h) ≡ true
    → IsRecorded r (session_of (id_in_record sealed) h) sealed t reply
recorded r h tag sealed t reply d setup made drawn live =
    let s = session_of (id_in_record sealed) h in
    let f = record_chosen r h sealed d in record {
      turn = record {
        s = s;
        f = f;
        settled = settled r h sealed d setup made.1 drawn live;
        is = record_entry r h f tag tag sealed sealed t reply d d made.0 ∙ ap (λ (inner : List ℕ). session_turn r s inner f) (opened_in r.psk s sealed);
        reply = refl;
      };
      steady = (made_steady r (Sealed tag sealed t reply d ∷ h) made).0;
    }

module _ (prior : Past) (r : RspSetup) (h : History) (asked : List Asked) (log : Log) (made : IsMade r h) (reached : IsReached (reading_of r.psk) (serves_state prior r h asked log)) (old : IsKept prior r h) (sealed : List ℕ) (t : Turn) (reply : List ℕ) where
  abbrev of : ℕ
  of = id_in_record sealed

  abbrev marks : List Served
  marks = served_from prior r h

  stands : (id : ℕ) → ServedAt r.psk id (session_of id h) marks
  stands id = served_stands prior r.psk r h (made_steady r h made) id

  module _ (e : Event) (s : Events) (is : session_of of h ≡ e ∷ s) (k : IsRecorded r (e ∷ s) sealed t reply) where
    shown : IsShown r (e ∷ s) marks
    shown = subst (λ (x : Events). IsShown r x marks) is (old.held of)

    elsewhere : (id : ℕ) → (of == id) ≡ false → IsShown r (session_of id h) (record_marks r (e ∷ s) sealed t reply ++ marks)
    elsewhere id other =
        past_marks r (session_of id h) marks _
        (λ held. other_stage r (e ∷ s) sealed t reply (t2_of (session_of id h)) marks (stage_of (e ∷ s))
        (λ past same. other_second r.psk id of (e ∷ s) (session_of id h) asked marks log (holds (reading_of r.psk) (serves_state prior r h asked log) reached) (λ one. true≢false (sym (eq-eqb of id one) ∙ other))
        ((subst (λ (x : Events). ServedAt r.psk of x marks) is (stands of)).told past) ((stands id).told held) same))
        (old.held id)

    own : IsCounted r.psk (after_record (e ∷ s) sealed t reply) (record_marks r (e ∷ s) sealed t reply ++ marks) → IsShown r (after_record (e ∷ s) sealed t reply) (record_marks r (e ∷ s) sealed t reply ++ marks)
    own counted =
        ended_by r (Heard sealed t reply ∷ e ∷ s) (record_marks r (e ∷ s) sealed t reply ++ marks) (takes END_SESSION t)
        (λ goes_on. own_stage r e s sealed t reply marks (stage_of (e ∷ s)) refl k.steady k shown
        (subst (λ (b : Bool). IsCounted r.psk (cond b [] (Heard sealed t reply ∷ e ∷ s)) (record_marks r (e ∷ s) sealed t reply ++ marks)) goes_on counted))

    held_by : (id : ℕ) (b : Bool) → (of == id) ≡ b → IsCounted r.psk (cond b (after_record (session_of id h) sealed t reply) (session_of id h)) (record_marks r (e ∷ s) sealed t reply ++ marks)
        → IsShown r (cond b (after_record (session_of id h) sealed t reply) (session_of id h)) (record_marks r (e ∷ s) sealed t reply ++ marks)
    held_by id true same counted =
        let here : session_of id h ≡ e ∷ s = sym (ap (λ (i : ℕ). session_of i h) (eqb-true of id same)) ∙ is in
        subst (λ (x : Events). IsShown r (after_record x sealed t reply) (record_marks r (e ∷ s) sealed t reply ++ marks)) (sym here)
        (own (subst (λ (x : Events). IsCounted r.psk (after_record x sealed t reply) (record_marks r (e ∷ s) sealed t reply ++ marks)) here counted))
    held_by id false other counted = elsewhere id other

  abbrev Held : Events → Type 0
  Held s = (id : ℕ) → IsCounted r.psk (cond (of == id) (after_record (session_of id h) sealed t reply) (session_of id h)) (record_marks r s sealed t reply ++ marks)
      → IsShown r (cond (of == id) (after_record (session_of id h) sealed t reply) (session_of id h)) (record_marks r s sealed t reply ++ marks)

  none_by : (id : ℕ) (b : Bool) → (of == id) ≡ b → session_of of h ≡ [] → IsShown r (cond b (after_record (session_of id h) sealed t reply) (session_of id h)) marks
  none_by id true same is =
      let here : session_of id h ≡ [] = sym (ap (λ (i : ℕ). session_of i h) (eqb-true of id same)) ∙ is in
      subst (λ (x : Events). IsShown r (after_record x sealed t reply) marks) (sym here) (ended_by r [] marks (takes END_SESSION t) (λ goes_on. gone r marks))
  none_by id false other is = old.held id

  held_after : (s : Events) → session_of of h ≡ s → (is_live s ≡ true → IsRecorded r s sealed t reply) → Held s
  held_after [] is k = λ id counted. none_by id (of == id) refl is
  held_after (e ∷ s) is k = λ id counted. held_by e s is (k refl) id (of == id) refl counted

  all_after : (s : Events) → session_of of h ≡ s → (is_live s ≡ true → IsRecorded r s sealed t reply) → AllServed r (prior.served r) → AllServed r (record_marks r s sealed t reply ++ marks)
  all_after [] is k = old.all
  all_after (e ∷ s) is k = λ begins. all_stage r e s sealed t reply marks (stage_of (e ∷ s)) refl (k refl).steady (k refl) (shown e s is (k refl)) (old.all begins)

sealed_kept : (prior : Past) (r : RspSetup) (h : History) (asked : List Asked) (log : Log) (tag : ℕ) (sealed : List ℕ) (t : Turn) (reply : List ℕ) (d : Draw) → IsResponder r → IsMade r (Sealed tag sealed t reply d ∷ h) → length d.bytes ≡ 32
    → IsReached (reading_of r.psk) (serves_state prior r h asked log) → IsKept prior r h → serves.IsKept prior r (Sealed tag sealed t reply d ∷ h) → IsKept prior r (Sealed tag sealed t reply d ∷ h)
unfolding session_of
sealed_kept prior r h asked log tag sealed t reply d setup made drawn reached old new =
    let s = session_of (id_in_record sealed) h in record {
      kept = new;
      held = λ id. held_after prior r h asked log made.1 reached old sealed t reply s refl (λ live. recorded r h tag sealed t reply d setup made drawn live) id (new.counted id);
      all = all_after prior r h asked log made.1 reached old sealed t reply s refl (λ live. recorded r h tag sealed t reply d setup made drawn live);
    }

-- ---- In the clear.

clear_kept : (prior : Past) (r : RspSetup) (h : History) (tag : ℕ) (t : Turn) (d : Draw) → IsKept prior r h → serves.IsKept prior r (Clear tag t d ∷ h) → IsKept prior r (Clear tag t d ∷ h)
unfolding session_of
clear_kept prior r h tag t d old new = record {
  kept = new;
  held = λ id. cleared r id (session_of id h) h t (served_from prior r h) (takes GET_VERSION t) (takes PSK_EXCHANGE t) (old.held id);
  all = λ begins u. subst (λ (xs : List Exchange). AreServed r xs) (sym (cleared_taken u _ (served_from prior r h) (takes PSK_EXCHANGE t))) (old.all begins u);
}

-- ---- Whatever a responder does.

after_kept : (prior : Past) (r : RspSetup) (h : History) (asked : List Asked) (log : Log) (d : Draw) (o : Outcome) → IsResponder r → IsMade r (after h o) → length d.bytes ≡ 32 → HasDraw d o
    → IsReached (reading_of r.psk) (serves_state prior r h asked log) → IsKept prior r h → serves.IsKept prior r (after h o) → IsKept prior r (after h o)
after_kept prior r h asked log d (Same body) setup made drawn has reached old new = record { kept = new; held = old.held; all = old.all }
after_kept prior r h asked log d (Unopened body) setup made drawn has reached old new = record { kept = new; held = old.held; all = old.all }
after_kept prior r h asked log d (Adds (Clear tag t d')) setup made drawn has reached old new = clear_kept prior r h tag t d' old new
after_kept prior r h asked log d (Adds (Sealed tag sealed t reply d')) setup made drawn has reached old new =
    sealed_kept prior r h asked log tag sealed t reply d' setup made (ap (λ (x : Draw). length x.bytes) (sym has) ∙ drawn) reached old new
after_kept prior r h asked log d (Adds (Queued bytes)) setup made drawn has reached old new = absurd has
after_kept prior r h asked log d (Adds (Ticked seconds)) setup made drawn has reached old new = absurd has
after_kept prior r h asked log d (Adds (Dropped id)) setup made drawn has reached old new = absurd has

pub does_well : (prior : Past) → DoesWell prior (IsKept prior)
does_well prior r h asked log tag body d ready =
    let step = serves.does_well prior r h asked log tag body d (record { setup = ready.setup; made = ready.made; kept = ready.kept.kept; reached = ready.reached; fresh = ready.fresh; draw = ready.draw }) in
    let o = responder_does r h tag body d in
    record {
      leads = step.leads;
      keeps = λ reached. after_kept prior r h asked log d o ready.setup (does_made r h tag body d ready.made).made ready.draw.bytes (does_draw r h tag body d) ready.reached ready.kept (step.keeps reached);
      draws = step.draws;
    }

pub served_starts : (prior : Past) → serves.BeginsDuly prior → ServedStarts (IsKept prior)
unfolding session_of
served_starts prior duly r = record { kept = serves.served_starts prior duly r; held = λ id. gone r (prior.served r); all = λ begins. begins }

pub waits : (prior : Past) → Waits (IsKept prior)
unfolding session_of
waits prior r h made old =
    let l = serves.waits prior r h made old.kept in (
      λ bytes. record { kept = l.0 bytes; held = old.held; all = old.all },
      λ seconds. record { kept = l.1 seconds; held = λ id. ticked r (session_of id h) seconds (served_from prior r h) (old.held id); all = old.all },
    )
