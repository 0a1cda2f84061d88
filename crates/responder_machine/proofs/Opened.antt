-- What a record shows that was taken.
use Rattle.std.proofs.Common.{refl, ◌≡◌, ◌≤◌, ℕ, ◌+◌, List, [], ◌∷◌, true, false, Bool, Option, Some, None, ap, sym, subst, arith}
use Rattle.std.proofs.lemmas.Bool.Decides.{nat_tests}
use Rattle.std.proofs.lemmas.Option.{none-some, same_Some}
use Rattle.std.specs.Prelude.{if◌then◌else◌, ◌==◌, ◌||◌, ◌*◌, not, nat_le}
use Rattle.spdm_basis.specs.declared.causes.record_fault.RecordFault.{RecordFault}
use Rattle.spdm_basis.specs.declared.causes.record_fault.RecordFault.TheVariants.{KeySpent}
use Rattle.spdm_grammar.specs.declared.told.phase.Phase.{Phase}
use Rattle.responder_machine.proofs.Refused.{turn_in}
use Rattle.responder_machine.proofs.Repeats.{not_first}
use Rattle.responder_machine.specs.Answer.{Free}
use Rattle.responder_machine.specs.Does.{record_chosen}
use Rattle.responder_machine.specs.History.{ended_of, phase_of, clear_turns, negotiation_of}
use Rattle.responder_machine.specs.History.Entry.{Clear, Sealed, Queued, Ticked, Dropped}
use Rattle.spdm_machine.specs.Keys.{Draw}
use Rattle.responder_machine.specs.Laws.{TakenRecordIsOpened}
use Rattle.responder_machine.specs.NumberLaws.{NumbersAreFew}
use Rattle.responder_machine.specs.Records.{opening_fault, opened, reply_record}
use Rattle.responder_machine.specs.Responder.{Outcome, on_record, to_session, in_session, in_session_by, session_turn, inner_reply, repeats, kept_record}
use Rattle.spdm_machine.specs.Bodies.{record_body}
use Rattle.responder_machine.specs.Responder.Outcome.{Same, Adds}
use Rattle.responder_machine.specs.Session.{Events, session_of, is_live, is_spent, last_of, id_in_record, stage_of, is_timed, period_of, idle_of, request_next, response_next, after_clear, after_record, after_tick, gives_id}
use Rattle.spdm_machine.specs.Sessions.{is_past_handshake}
use Rattle.responder_machine.specs.Session.Event.{Began, Heard, Waited}
use Rattle.responder_machine.specs.Setup.{RspSetup}
use Rattle.responder_machine.specs.Turn.{Turn, takes, updates, request_in, answer_in}
use Rattle.transcript.specs.Transcripts.{Negotiation}
use Rattle.spdm_grammar.specs.declared.names.request_code.TheConstants.{GET_VERSION, PSK_EXCHANGE, PSK_FINISH, END_SESSION}
use Rattle.std.proofs.lemmas.Bool.{eqb-true}

abbrev reply_in : Outcome → Option (List ℕ)
reply_in (Adds (Sealed tag m t reply d)) = Some reply
reply_in _ = None

-- What the session shows.
abbrev IsTakenBy : RspSetup → Events → List ℕ → Free → Turn → List ℕ → Type 0
IsTakenBy r s m f t reply =
    (is_live s ≡ true) × (repeats (last_of s) m ≡ false) × (opening_fault r.psk s m ≡ None)
    × (session_turn r s (opened r.psk s m) f ≡ t) × (reply_record r.psk s t (inner_reply t) f.pad ≡ reply)

abbrev IsOpenedBy : RspSetup → Events → List ℕ → Free → Turn → List ℕ → Option RecordFault → Type 0
IsOpenedBy r s m f t reply x = (x ≡ None) × (session_turn r s (opened r.psk s m) f ≡ t) × (reply_record r.psk s t (inner_reply t) f.pad ≡ reply)

by_fault : (r : RspSetup) (phase : Phase) (s : Events) (f : Free) (tag : ℕ) (m : List ℕ) (d : Draw) (t : Turn) (reply : List ℕ) (x : Option RecordFault)
    → in_session_by r phase s f tag m d x ≡ Adds (Sealed tag m t reply d) → IsOpenedBy r s m f t reply x
by_fault r phase s f tag m d t reply (Some fault) is = absurd (none-some t (ap turn_in is))
by_fault r phase s f tag m d t reply None is =
    let turn = same_Some _ _ (ap turn_in is) in
    (refl, turn, subst (λ (u : Turn). reply_record r.psk s u (inner_reply u) f.pad ≡ reply) turn (same_Some _ _ (ap reply_in is)))

in_session-opened : (r : RspSetup) (phase : Phase) (s : Events) (f : Free) (tag : ℕ) (m : List ℕ) (d : Draw) (t : Turn) (reply : List ℕ)
    → in_session r phase s f tag m d ≡ Adds (Sealed tag m t reply d) → IsOpenedBy r s m f t reply (opening_fault r.psk s m)
unfolding in_session
in_session-opened r phase s f tag m d t reply is = by_fault r phase s f tag m d t reply (opening_fault r.psk s m) is

to_session-taken : (r : RspSetup) (phase : Phase) (s : Events) (f : Free) (tag : ℕ) (m : List ℕ) (d : Draw) (t : Turn) (reply : List ℕ)
    → to_session r phase s f tag m d ≡ Adds (Sealed tag m t reply d) → IsTakenBy r s m f t reply
to_session-taken r phase [] f tag m d t reply is = absurd (none-some t (ap turn_in is))
to_session-taken r phase (v ∷ s) f tag m d t reply is =
    let new = not_first (repeats (last_of (v ∷ s)) m) (Same (record_body (kept_record (last_of (v ∷ s))))) (in_session r phase (v ∷ s) f tag m d) (Sealed tag m t reply d) refl is in
    let found = in_session-opened r phase (v ∷ s) f tag m d t reply new.1 in
    (refl, new.0, found.0, found.1, found.2)

pub taken_record_opened : TakenRecordIsOpened
unfolding on_record
taken_record_opened r h tag m f d t reply is =
    let new = not_first (repeats (ended_of h) m) (Same (record_body (kept_record (ended_of h)))) (to_session r (phase_of (clear_turns h)) (session_of (id_in_record m) h) f tag m d) (Sealed tag m t reply d) refl is in
    let found = to_session-taken r (phase_of (clear_turns h)) (session_of (id_in_record m) h) f tag m d t reply new.1 in
    (new.0, found.0, found.1, found.2, found.3, found.4)

-- ---- No number passes 65,536.

first_none : (b : Bool) (x : Option RecordFault) → (if b then Some KeySpent else x) ≡ None → b ≡ false
first_none true x h = absurd (none-some KeySpent (sym h))
first_none false x h = refl

unspent : (psk : List ℕ) (s : Events) (m : List ℕ) → opening_fault psk s m ≡ None → is_spent s ≡ false
unfolding opening_fault
unspent psk s m h = first_none (is_spent s) _ h

abbrev IsFew : Events → Type 0
IsFew s = (request_next s ≤ 65536) × (response_next s ≤ 65536)

either-few : (b : Bool) (s n : Events) → IsFew s → IsFew n → IsFew (if b then s else n)
either-few true s n x y = x
either-few false s n x y = y

when-few : (b : Bool) (s n : Events) → (b ≡ true → IsFew s) → IsFew n → IsFew (if b then s else n)
when-few true s n x y = x refl
when-few false s n x y = y

none-few : IsFew []
none-few = (omega arith, omega arith)

either_zero : (b : Bool) (n : ℕ) → n ≤ 65536 → (if b then 0 else n) ≤ 65536
either_zero true n h = omega arith
either_zero false n h = h

either_one : (b : Bool) (n : ℕ) → n ≤ 65536 → (if b then 1 else n) ≤ 65536
either_one true n h = omega arith
either_one false n h = h

one_more : (a b : ℕ) → (a == 65536 || b == 65536) ≡ false → a ≤ 65536 → b ≤ 65536 → (a + 1 ≤ 65536) × (b + 1 ≤ 65536)
one_more a b h x y = (grind (arith, nat_tests), grind (arith, nat_tests))

record_few : (s : Events) (m : List ℕ) (t : Turn) (reply : List ℕ) → is_spent s ≡ false → IsFew s → IsFew (after_record s m t reply)
record_few [] m t reply spent few = either-few (takes END_SESSION t) [] [] none-few none-few
record_few (v ∷ s) m t reply spent few =
    let more = one_more (request_next (v ∷ s)) (response_next (v ∷ s)) spent few.0 few.1 in
    either-few (takes END_SESSION t) [] (Heard m t reply ∷ v ∷ s) none-few
    (either_zero (takes PSK_FINISH t || updates 1 t || updates 2 t) _ more.0, either_zero (takes PSK_FINISH t) _ (either_one (updates 2 t) _ more.1))

clear_few : (id : ℕ) (s : Events) (t : Turn) (n : Negotiation) → IsFew s → IsFew (after_clear id s t n)
clear_few id s t n few =
    either-few (takes GET_VERSION t) [] _ none-few
    (either-few (takes PSK_EXCHANGE t) _ s
    (either-few (gives_id id (answer_in t.effect)) (Began n (request_in t.effect) (answer_in t.effect) ∷ []) _ none-few (either-few (is_past_handshake (stage_of s)) s [] few none-few))
    few)

tick_few : (s : Events) (seconds : ℕ) → IsFew s → IsFew (after_tick s seconds)
tick_few s seconds few = either-few (not (is_timed s)) s _ few (either-few (nat_le (2 * period_of s) (idle_of s + seconds)) [] (Waited seconds ∷ s) none-few few)

pub numbers_few : NumbersAreFew
unfolding session_of
numbers_few r [] id made = none-few
numbers_few r (Clear tag t d ∷ older) id made = clear_few id (session_of id older) t (negotiation_of (clear_turns older)) (numbers_few r older id made.1)
numbers_few r (Sealed tag m t reply d ∷ older) id made =
    when-few (id_in_record m == id) (after_record (session_of id older) m t reply) (session_of id older)
    (λ same. record_few (session_of id older) m t reply
    (subst (λ n. is_spent (session_of n older) ≡ false) (eqb-true (id_in_record m) id same) (unspent r.psk (session_of (id_in_record m) older) m (taken_record_opened r older tag m (record_chosen r older m d) d t reply made.0).3))
    (numbers_few r older id made.1))
    (numbers_few r older id made.1)
numbers_few r (Queued bytes ∷ older) id made = numbers_few r older id made.2
numbers_few r (Ticked seconds ∷ older) id made = tick_few (session_of id older) seconds (numbers_few r older id made)
numbers_few r (Dropped which ∷ older) id made = absurd made
