-- Records, as the sessions of a connection take them.
use Rattle.std.proofs.Common.{refl, ◌∙◌, ◌≡◌, ◌≢◌, ◌≤◌, inl, inr, ℕ, zero, suc, List, [], ◌∷◌, true, false, Bool, Option, Some, None, length, ap, sym, subst, arith}
use Rattle.std.proofs.lemmas.Bool.{false≢true}
use Rattle.std.proofs.lemmas.Bool.Decides.{nat_tests}
use Rattle.std.proofs.lemmas.Option.{none-some}
use Rattle.std.specs.Prelude.{◌==◌, ◌<◌, ◌-◌, ◌^◌, ◌||◌, nat_lt, slice_index_or, if◌then◌else◌}
use Rattle.responder_core.specs.LiveSession as lives
use Rattle.responder_core.specs.LiveSession.{IsSlotOf, IsTaken, IsTakenIn}
use Rattle.responder_core.specs.Sessions.{IsAnswered, IsDelivered, IsSettled, StandsFor, body_by, slot_of}
use Rattle.responder_core.specs.declared.in_sessions.live_session.LiveSession.{LiveSession}
use Rattle.responder_core.specs.declared.in_sessions.sessions.Sessions.{Sessions}
use Rattle.responder_machine.proofs.Entries.{others_kept}
use Rattle.responder_machine.proofs.Within.{session_within}
use Rattle.responder_machine.specs.Answer.{Free}
use Rattle.responder_machine.specs.BoundLaws.{messages_of}
use Rattle.responder_machine.specs.Heard.{heard_of, record_id}
use Rattle.responder_machine.specs.History.{History, KeptRecord, clear_turns, ended_of, phase_of}
use Rattle.responder_machine.specs.History.Entry.{Sealed}
use Rattle.responder_machine.specs.Records.{opening_fault}
use Rattle.responder_machine.specs.Responder.{Outcome, after, body_of, decrypt_error, kept_record, on_record, repeats, to_session}
use Rattle.responder_machine.specs.Responder.Outcome.{Same, Unopened}
use Rattle.responder_machine.specs.Session.{Events, after_record, id_bytes, id_in_record, is_live, is_spent, period_of, request_next, session_of, session_terms, when_live}
use Rattle.responder_machine.specs.Session.Event.{Heard as HeardIn}
use Rattle.responder_machine.specs.Setup.{RspSetup}
use Rattle.responder_machine.specs.Turn.{Turn, takes}
use Rattle.responder_session.proofs.Records.{told_is_record}
use Rattle.responder_session.specs.Laws.{told_as}
use Rattle.responder_session.specs.Session as sessions
use Rattle.responder_session.specs.Took.{IsSessionAfter, reply_in, turn_in}
use Rattle.responder_machine.specs.SizeLaws.{HasSizes}
use Rattle.secured_record.specs.Faults.{fault_behind, fault_of}
use Rattle.spdm_machine.specs.Keys.{record_fault}
use Rattle.spdm_basis.specs.declared.values.session_id.SessionId.{SessionId}
use Rattle.spdm_basis.specs.declared.causes.record_fault.RecordFault.TheVariants.{KeySpent}
use Rattle.spdm_grammar.specs.declared.told.heard.Heard.{Heard}
use Rattle.responder_session.specs.Updates.{HasEpochs}
use Rattle.responder_session.specs.declared.told.RspAct.{RspAct}
use Rattle.responder_session.specs.declared.told.RspAct.TheVariants as act
use Rattle.responder_session.specs.declared.told.RspTold.{RspTold}
use Rattle.responder_session.specs.declared.told.RspTold.TheVariants as told
use Rattle.spdm_basis.specs.declared.causes.record_fault.RecordFault.{RecordFault}
use Rattle.spdm_grammar.specs.declared.told.heard.Heard.TheVariants as heard
use Rattle.spdm_grammar.specs.declared.names.request_code.TheConstants.{END_SESSION}
use Rattle.spdm_machine.specs.Bodies.{clear_body, record_body}
use Rattle.spdm_machine.specs.Keys.{Draw}
use Rattle.session_keys.proofs.Purposes.{header_fits}

-- ---- What stands after an entry that touches one session.

same_id : (i id : ℕ) → (i == id) ≡ true → id ≡ i
same_id i id h = grind (arith, nat_tests)

equal_id : (i id : ℕ) → i ≡ id → (i == id) ≡ true
equal_id i id h = grind (arith, nat_tests)

other_id : (i id : ℕ) → (i == id) ≡ false → i ≢ id
other_id i id h e = false≢true (sym h ∙ equal_id i id e)

by_id : (new : Sessions) (r : RspSetup) (h : History) (id i : ℕ) (b : Bool) → (i == id) ≡ b
    → IsSlotOf (slot_of new id) r (session_of id h) → ((i : ℕ) → i ≢ id → IsSlotOf (slot_of new i) r (session_of i h)) → IsSlotOf (slot_of new i) r (session_of i h)
by_id new r h id i true is own others = subst (λ (n : ℕ). IsSlotOf (slot_of new n) r (session_of n h)) (same_id i id is) own
by_id new r h id i false is own others = others i (other_id i id is)

pub standing_with : (new : Sessions) (r : RspSetup) (h : History) (id : ℕ) → IsSlotOf (slot_of new id) r (session_of id h)
    → ((i : ℕ) → i ≢ id → IsSlotOf (slot_of new i) r (session_of i h)) → new.ended ≡ ended_of h → StandsFor new r h
standing_with new r h id own others ended = record { slots = λ i. by_id new r h id i (i == id) refl own others; ended = ended }

-- ---- Outcomes that add nothing.

ended_is : (r : RspSetup) (h : History) (tag : ℕ) (sealed : List ℕ) (f : Free) (d : Draw) → repeats (ended_of h) sealed ≡ true → on_record r h tag sealed f d ≡ Same (record_body (kept_record (ended_of h)))
unfolding on_record
ended_is r h tag sealed f d again = ap (λ (b : Bool). if b then Same (record_body (kept_record (ended_of h))) else to_session r (phase_of (clear_turns h)) (session_of (id_in_record sealed) h) f tag sealed d) again

pub ended_again : (r : RspSetup) (h : History) (tag : ℕ) (sealed : List ℕ) (f : Free) (d : Draw) (new : Sessions) (out : List ℕ) → repeats (ended_of h) sealed ≡ true
    → StandsFor new r h → out ≡ kept_record (ended_of h) → IsAnswered r h tag sealed f d heard.Same new out
ended_again r h tag sealed f d new out again stands written =
    let is = ended_is r h tag sealed f d again in
    record {
      told = ap heard_of (sym is);
      body = ap record_body written ∙ ap body_of (sym is);
      stands = subst (λ (o : Outcome). StandsFor new r (after h o)) (sym is) stands;
    }

nothing_is : (r : RspSetup) (h : History) (tag : ℕ) (sealed : List ℕ) (f : Free) (d : Draw) → repeats (ended_of h) sealed ≡ false → session_of (id_in_record sealed) h ≡ []
    → on_record r h tag sealed f d ≡ Unopened (decrypt_error (phase_of (clear_turns h)))
unfolding on_record
nothing_is r h tag sealed f d other none =
    ap (λ (b : Bool). if b then Same (record_body (kept_record (ended_of h))) else to_session r (phase_of (clear_turns h)) (session_of (id_in_record sealed) h) f tag sealed d) other
    ∙ ap (λ (s : Events). to_session r (phase_of (clear_turns h)) s f tag sealed d) none

unopened_by : (r : RspSetup) (h : History) (tag : ℕ) (sealed : List ℕ) (f : Free) (d : Draw) (new : Sessions) (out : List ℕ)
    → on_record r h tag sealed f d ≡ Unopened (decrypt_error (phase_of (clear_turns h))) → StandsFor new r h → clear_body out ≡ decrypt_error (phase_of (clear_turns h)) → IsAnswered r h tag sealed f d heard.Unopened new out
unopened_by r h tag sealed f d new out is stands written = record {
  told = ap heard_of (sym is);
  body = written ∙ ap body_of (sym is);
  stands = subst (λ (o : Outcome). StandsFor new r (after h o)) (sym is) stands;
}

-- ---- The slot of the session that took a record.

taken_slot : (r : RspSetup) (s : Events) (f : Free) (sealed : List ℕ) (x : Option LiveSession) (result : RspTold) (out : List ℕ) → IsTakenIn r s f sealed x (Some result) out
    → (kept : LiveSession) × (x ≡ Some kept) × IsTaken r s f sealed kept result out
taken_slot r s f sealed None result out taken = absurd taken
taken_slot r s f sealed (Some kept) result out taken = (kept, refl, taken)

empty_slot : (r : RspSetup) (s : Events) (f : Free) (sealed : List ℕ) (x : Option LiveSession) (out : List ℕ) → IsTakenIn r s f sealed x None out → (x ≡ None) × (s ≡ [])
empty_slot r s f sealed None out taken = (refl, taken)
empty_slot r s f sealed (Some kept) out taken = absurd taken

-- No session has its id.
pub no_session : (r : RspSetup) (h : History) (tag : ℕ) (sealed : List ℕ) (f : Free) (d : Draw) (new : Sessions) (scratch out : List ℕ) → IsDelivered r h sealed f None new scratch
    → clear_body out ≡ decrypt_error (phase_of (clear_turns h)) → IsAnswered r h tag sealed f d heard.Unopened new out
no_session r h tag sealed f d new scratch out given written =
    let id = id_in_record sealed in
    let empty = empty_slot r (session_of id h) f sealed (slot_of new id) scratch given.taken in
    unopened_by r h tag sealed f d new out (nothing_is r h tag sealed f d given.anew empty.1)
    (standing_with new r h id (subst (λ (x : Option LiveSession). IsSlotOf x r (session_of id h)) (sym empty.0) empty.1) given.others given.ended) written

-- The session does not open it.
pub not_opened : (r : RspSetup) (h : History) (tag : ℕ) (sealed : List ℕ) (f : Free) (d : Draw) (new : Sessions) (fault : RecordFault) (scratch out : List ℕ)
    → IsDelivered r h sealed f (Some (told.Unopened fault)) new scratch
    → clear_body out ≡ decrypt_error (phase_of (clear_turns h)) → IsAnswered r h tag sealed f d heard.Unopened new out
not_opened r h tag sealed f d new fault scratch out given written =
    let id = id_in_record sealed in
    let slot = taken_slot r (session_of id h) f sealed (slot_of new id) (told.Unopened fault) scratch given.taken in
    let kept : LiveSession = slot.0 in
    let own : lives.StandsFor kept r (session_of id h) = record { session = slot.2.told.2; idle = slot.2.idle; period = slot.2.period; sizes = slot.2.sizes } in
    unopened_by r h tag sealed f d new out (told_is_record r h tag sealed f d kept.session (told.Unopened fault) slot.2.live given.anew slot.2.told)
    (standing_with new r h id (subst (λ (x : Option LiveSession). IsSlotOf x r (session_of id h)) (sym slot.1) own) given.others given.ended) written

-- It is the last record that the session took.
pub session_again : (r : RspSetup) (h : History) (tag : ℕ) (sealed : List ℕ) (f : Free) (d : Draw) (new : Sessions) (out : List ℕ) → IsDelivered r h sealed f (Some told.Same) new out
    → IsAnswered r h tag sealed f d heard.Same new out
session_again r h tag sealed f d new out given =
    let id = id_in_record sealed in
    let slot = taken_slot r (session_of id h) f sealed (slot_of new id) told.Same out given.taken in
    let kept : LiveSession = slot.0 in
    let own : lives.StandsFor kept r (session_of id h) = record { session = slot.2.told.1; idle = slot.2.idle; period = slot.2.period; sizes = slot.2.sizes } in
    let now = standing_with new r h id (subst (λ (x : Option LiveSession). IsSlotOf x r (session_of id h)) (sym slot.1) own) given.others given.ended in
    let is = told_is_record r h tag sealed f d kept.session told.Same slot.2.live given.anew slot.2.told in
    record {
      told = ap heard_of (sym is);
      body = ap record_body slot.2.written ∙ ap body_of (sym is);
      stands = subst (λ (o : Outcome). StandsFor new r (after h o)) (sym is) now;
    }

-- ---- A record that a session took.

heard_live : (s : Events) (sealed : List ℕ) (t : Turn) (reply : List ℕ) → is_live s ≡ true → takes END_SESSION t ≡ false → after_record s sealed t reply ≡ HeardIn sealed t reply ∷ s
heard_live [] sealed t reply live stays = absurd (false≢true live)
heard_live (e ∷ s) sealed t reply live stays = rw stays refl

ended_stays : (h : History) (sealed : List ℕ) (t : Turn) (reply : List ℕ) → takes END_SESSION t ≡ false → (if takes END_SESSION t then Some (record { sealed = sealed; reply = reply }) else ended_of h) ≡ ended_of h
ended_stays h sealed t reply stays = ap (λ (b : Bool). if b then Some (record { sealed = sealed; reply = reply }) else ended_of h) stays

pub epochs : (h : History) (id : ℕ) → messages_of h < 2 ^ 64 - 1 → HasEpochs (session_of id h)
epochs h id few =
    let within = session_within h id in
    record { request = omega (arith, within.request_updates, few); response = omega (arith, within.response_updates, few) }

-- ---- A record that opens has at most 4,160 bytes.

not_spent : (spent : Bool) (x : Option RecordFault) → (if spent then Some KeySpent else x) ≡ None → x ≡ None
not_spent true x h = absurd (none-some KeySpent (sym h))
not_spent false x h = h

header_passed : (x : Option RecordFault) (key iv : List ℕ) (number : ℕ) (sealed : List ℕ) → fault_behind x key iv number sealed ≡ None → x ≡ None
header_passed (Some fault) key iv number sealed h = absurd (none-some fault (sym h))
header_passed None key iv number sealed h = refl

opens_short : (psk : List ℕ) (s : Events) (sealed : List ℕ) → opening_fault psk s sealed ≡ None → length sealed ≤ 4160
unfolding opening_fault record_fault fault_of
opens_short psk s sealed h = header_fits (id_bytes s) (request_next s) sealed (header_passed _ _ _ _ _ (not_spent (is_spent s) _ h))

-- ---- The history after a record that a session took.

-- What a session that took a record shows of the slot.
record IsMoved (r : RspSetup) (s : Events) (sealed : List ℕ) (t : Turn) (reply : List ℕ) (kept : LiveSession) (out : List ℕ) : Type 0 where
  idle : kept.idle ≡ 0
  period : kept.period ≡ period_of s
  sizes : HasSizes r (session_terms s).common
  live : is_live s ≡ true
  written : out ≡ reply
  short : length sealed ≤ 4160

later_stands : (r : RspSetup) (h : History) (tag : ℕ) (sealed : List ℕ) (t : Turn) (reply : List ℕ) (d : Draw) (mid new : Sessions) (kept : LiveSession) (out : List ℕ)
    → slot_of mid (id_in_record sealed) ≡ Some kept → IsMoved r (session_of (id_in_record sealed) h) sealed t reply kept out
    → ((i : ℕ) → i ≢ id_in_record sealed → IsSlotOf (slot_of mid i) r (session_of i h)) → mid.ended ≡ ended_of h
    → IsSettled r sealed out mid new (id_in_record sealed)
    → IsSessionAfter kept.session r.psk (session_of (id_in_record sealed) h) sealed t reply
    → session_of (id_in_record sealed) (Sealed tag sealed t reply d ∷ h) ≡ after_record (session_of (id_in_record sealed) h) sealed t reply
    → StandsFor new r (Sealed tag sealed t reply d ∷ h)
later_stands r h tag sealed t reply d mid new kept out slot is others ended settled (inl (stays, session)) own_is =
    let id = id_in_record sealed in
    let s = session_of id h in
    let later : History = Sealed tag sealed t reply d ∷ h in
    let own : lives.StandsFor kept r (HeardIn sealed t reply ∷ s) = record { session = session; idle = is.idle; period = is.period; sizes = is.sizes } in
    let in_mid : IsSlotOf (slot_of mid id) r (HeardIn sealed t reply ∷ s) = subst (λ (x : Option LiveSession). IsSlotOf x r (HeardIn sealed t reply ∷ s)) (sym slot) own in
    let events : session_of id later ≡ HeardIn sealed t reply ∷ s = own_is ∙ heard_live s sealed t reply is.live stays in
    subst (λ (n : Sessions). StandsFor n r later) (sym (settled.live (HeardIn sealed t reply ∷ s) in_mid))
    (standing_with mid r later id (subst (λ (e : Events). IsSlotOf (slot_of mid id) r e) (sym events) in_mid)
    (λ i other. subst (λ (e : Events). IsSlotOf (slot_of mid i) r e) (sym (others_kept h tag sealed t reply d i (λ e. other (sym e)))) (others i other))
    (ended ∙ sym (ended_stays h sealed t reply stays)))
later_stands r h tag sealed t reply d mid new kept out slot is others ended settled (inr (ends, last)) own_is =
    let id = id_in_record sealed in
    let s = session_of id h in
    let later : History = Sealed tag sealed t reply d ∷ h in
    let gone = settled.gone kept (id_bytes s) slot (subst (λ (x : List ℕ). sessions.IsEnded kept.session (id_bytes s) sealed x) (sym is.written) last) is.short in
    let events : session_of id later ≡ [] = own_is ∙ ap (λ (b : Bool). if b then [] else when_live s (HeardIn sealed t reply)) ends in
    standing_with new r later id (subst (λ (x : Option LiveSession). IsSlotOf x r (session_of id later)) (sym gone.0) events)
    (λ i other. subst (λ (x : Option LiveSession). IsSlotOf x r (session_of i later)) (sym (settled.others i other))
    (subst (λ (e : Events). IsSlotOf (slot_of mid i) r e) (sym (others_kept h tag sealed t reply d i (λ e. other (sym e)))) (others i other)))
    (gone.1 ∙ ap (λ (x : List ℕ). Some (record { sealed = sealed; reply = x })) is.written ∙ sym (ap (λ (b : Bool). if b then Some (record { sealed = sealed; reply = reply }) else ended_of h) ends))

-- ---- The outcome of a record that a session took.

body_told : (id : SessionId) (told : RspAct) (out : List ℕ) → body_by (told_as id told) out ≡ record_body out
body_told id (act.Answered code) out = refl
body_told id act.Data out = refl
body_told id (act.Refused code) out = refl

pub moved : (r : RspSetup) (h : History) (tag : ℕ) (sealed : List ℕ) (f : Free) (d : Draw) (mid new : Sessions) (told_act : RspAct) (out : List ℕ) (told_heard : Heard)
    → IsDelivered r h sealed f (Some (told.Moved told_act)) mid out → IsSettled r sealed out mid new (id_in_record sealed) → told_heard ≡ told_as (record_id sealed) told_act
    → IsAnswered r h tag sealed f d told_heard new out
moved r h tag sealed f d mid new told_act out told_heard given settled heard_is =
    let id = id_in_record sealed in
    let s = session_of id h in
    let t = turn_in r s f sealed in
    let reply = reply_in r s f sealed in
    let slot = taken_slot r s f sealed (slot_of mid id) (told.Moved told_act) out given.taken in
    let kept : LiveSession = slot.0 in
    let outcome = told_is_record r h tag sealed f d kept.session (told.Moved told_act) slot.2.live given.anew slot.2.told in
    let is : IsMoved r s sealed t reply kept out = record { idle = slot.2.idle; period = slot.2.period; sizes = slot.2.sizes; live = slot.2.live; written = slot.2.written; short = opens_short r.psk s sealed slot.2.told.1 } in
    record {
      told = heard_is ∙ sym outcome.1;
      body = ap (λ (x : Heard). body_by x out) heard_is ∙ body_told (record_id sealed) told_act out ∙ ap record_body slot.2.written ∙ ap body_of (sym outcome.0);
      stands = subst (λ (o : Outcome). StandsFor new r (after h o)) (sym outcome.0)
          (later_stands r h tag sealed t reply d mid new kept out slot.1 is given.others given.ended settled slot.2.told.2 outcome.2);
    }

-- ---- What was delivered.

pub delivered : (r : RspSetup) (h : History) (sealed : List ℕ) (f : Free) (result : Option RspTold) (old mid : Sessions) (out : List ℕ) (id : ℕ) → StandsFor old r h → repeats (ended_of h) sealed ≡ false
    → messages_of h < 2 ^ 64 - 1 → id ≡ id_in_record sealed
    → ((s : Events) → HasEpochs s → IsSlotOf (slot_of old id) r s → IsTakenIn r s f sealed (slot_of mid id) result out)
    → ((i : ℕ) → i ≢ id → slot_of mid i ≡ slot_of old i) → mid.ended ≡ old.ended → IsDelivered r h sealed f result mid out
delivered r h sealed f result old mid out id stands anew few is taken others ended =
    let s = session_of (id_in_record sealed) h in
    let slot : IsSlotOf (slot_of old id) r s = subst (λ (n : ℕ). IsSlotOf (slot_of old n) r s) (sym is) (stands.slots (id_in_record sealed)) in
    record {
      anew = anew;
      taken = subst (λ (n : ℕ). IsTakenIn r s f sealed (slot_of mid n) result out) is (taken s (epochs h (id_in_record sealed) few) slot);
      others = λ i other. subst (λ (x : Option LiveSession). IsSlotOf x r (session_of i h)) (sym (others i (λ e. other (e ∙ is)))) (stands.slots i);
      ended = ended ∙ stands.ended;
    }

-- ---- No session.

abbrev no_live : Option LiveSession
no_live = None

at_any : (b : Bool) (n : ℕ) → (if b then no_live else slice_index_or (no_live ∷ no_live ∷ no_live ∷ no_live ∷ []) n no_live) ≡ no_live
at_any true n = refl
at_any false zero = refl
at_any false (suc zero) = refl
at_any false (suc (suc zero)) = refl
at_any false (suc (suc (suc zero))) = refl
at_any false (suc (suc (suc (suc n)))) = refl

pub empty_slots : (ended : Option KeptRecord) (id : ℕ) → slot_of (record { slots = None ∷ None ∷ None ∷ None ∷ []; ended = ended }) id ≡ None
empty_slots ended id = at_any (id == 0 || nat_lt 4 id) (id - 1)

none_yet : (id : ℕ) → session_of id [] ≡ []
unfolding session_of
none_yet id = refl

no_sessions : (r : RspSetup) (ended : Option KeptRecord) → ended ≡ None → StandsFor (record { slots = None ∷ None ∷ None ∷ None ∷ []; ended = ended }) r []
no_sessions r ended none = record {
  slots = λ id. subst (λ (x : Option LiveSession). IsSlotOf x r (session_of id [])) (sym (empty_slots ended id)) (none_yet id);
  ended = none;
}

pub no_sessions_in : (r : RspSetup) (first second third fourth : Option LiveSession) (ended : Option KeptRecord)
    → first ≡ None → second ≡ None → third ≡ None → fourth ≡ None → ended ≡ None
    → StandsFor (record { slots = first ∷ second ∷ third ∷ fourth ∷ []; ended = ended }) r []
no_sessions_in r first second third fourth ended is_first is_second is_third is_fourth none =
    subst (λ (x : Option LiveSession). StandsFor (record { slots = x ∷ second ∷ third ∷ fourth ∷ []; ended = ended }) r []) (sym is_first)
    (subst (λ (x : Option LiveSession). StandsFor (record { slots = None ∷ x ∷ third ∷ fourth ∷ []; ended = ended }) r []) (sym is_second)
    (subst (λ (x : Option LiveSession). StandsFor (record { slots = None ∷ None ∷ x ∷ fourth ∷ []; ended = ended }) r []) (sym is_third)
    (subst (λ (x : Option LiveSession). StandsFor (record { slots = None ∷ None ∷ None ∷ x ∷ []; ended = ended }) r []) (sym is_fourth)
    (no_sessions r ended none))))
