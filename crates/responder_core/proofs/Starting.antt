-- A session that begins, and sessions that GET_VERSION ends.
use Rattle.std.proofs.Common.{refl, ◌∙◌, ◌≡◌, ◌≢◌, ◌≤◌, ℕ, List, [], ◌∷◌, true, false, Bool, Option, Some, None, ap, sym, subst, arith}
use Rattle.std.proofs.lemmas.Bool.Decides.{nat_tests}
use Rattle.std.specs.Prelude.{◌==◌, ◌||◌, if◌then◌else◌, slice_index}
use Rattle.responder_core.proofs.Recorded.{standing_with}
use Rattle.responder_core.proofs.Waiting.{Visits, all_visited}
use Rattle.responder_core.specs.Beginning.{IsBeginningAt, held_part}
use Rattle.responder_core.specs.LiveSession as lives
use Rattle.responder_core.specs.LiveSession.{IsSlotOf}
use Rattle.responder_core.specs.Sessions.{StandsFor, slot_of}
use Rattle.responder_core.specs.declared.in_sessions.live_session.LiveSession.{LiveSession}
use Rattle.responder_core.specs.declared.in_sessions.sessions.Sessions.{Sessions}
use Rattle.responder_machine.proofs.GivenIds.{gives_other, gives_some}
use Rattle.responder_machine.proofs.Entries.{session_of-Clear}
use Rattle.responder_machine.specs.History.{History, clear_turns, ended_of, negotiation_of}
use Rattle.responder_machine.specs.History.Entry.{Clear}
use Rattle.responder_machine.specs.Session.{Events, after_clear, after_exchange, session_of}
use Rattle.responder_machine.specs.Setup.{RspSetup}
use Rattle.responder_machine.specs.Turn.{Turn, answer_in, code_in, request_in, takes}
use Rattle.responder_session.specs.Exchange.{begun}
use Rattle.responder_session.specs.Session as sessions
use Rattle.responder_session.specs.declared.session.RspSession.{RspSession}
use Rattle.spdm_grammar.specs.declared.names.request_code.TheConstants.{GET_VERSION, PSK_EXCHANGE}
use Rattle.spdm_machine.specs.Keys.{Draw}
use Rattle.spdm_machine.specs.Sessions.{id_in_exchange}
use Rattle.transcript.specs.Transcripts.{Negotiation}

other_code : (n : ℕ) → (n == PSK_EXCHANGE) ≡ true → (n == GET_VERSION) ≡ false
other_code n h = grind (arith, nat_tests)

other_number : (a b i : ℕ) → a ≡ b → i ≢ b → (a == i) ≡ false
other_number a b i h ne = grind (arith, nat_tests)

exchange_is : (id : ℕ) (s : Events) (t : Turn) (n : Negotiation) → takes PSK_EXCHANGE t ≡ true → after_clear id s t n ≡ after_exchange id s t n
exchange_is id s t n h =
    ap (λ (b : Bool). if b then [] else (if takes PSK_EXCHANGE t then after_exchange id s t n else s)) (other_code (code_in t.effect) h)
    ∙ ap (λ (b : Bool). if b then after_exchange id s t n else s) h

own_exchange : (id : ℕ) (s : Events) (t : Turn) (n : Negotiation) → id_in_exchange (answer_in t.effect) ≡ id → 1 ≤ id → after_exchange id s t n ≡ begun n (request_in t.effect) (answer_in t.effect)
own_exchange id s t n is least = ap (λ (b : Bool). if b then begun n (request_in t.effect) (answer_in t.effect) else held_part s) (gives_some id (answer_in t.effect) is least)

other_exchange : (id i : ℕ) (s : Events) (t : Turn) (n : Negotiation) → id_in_exchange (answer_in t.effect) ≡ id → i ≢ id → after_exchange i s t n ≡ held_part s
other_exchange id i s t n is ne = ap (λ (b : Bool). if b then begun n (request_in t.effect) (answer_in t.effect) else held_part s) (gives_other i (answer_in t.effect) (other_number (id_in_exchange (answer_in t.effect)) id i is ne))

begins : (r : RspSetup) (h : History) (t : Turn) (id : ℕ) (session : RspSession) (answer : List ℕ) (live : LiveSession) → IsBeginningAt r h t id session answer
    → live.session ≡ session → live.idle ≡ 0 → live.period ≡ slice_index answer 2 → lives.StandsFor live r (begun (negotiation_of (clear_turns h)) (request_in t.effect) answer)
begins r h t id session answer live is session_is idle period = record {
  session = subst (λ (x : RspSession). sessions.StandsFor x r.psk (begun (negotiation_of (clear_turns h)) (request_in t.effect) answer)) (sym session_is) is.session_is;
  idle = idle;
  period = period;
  sizes = is.sizes;
}

nothing_held : held_part [] ≡ []
nothing_held = refl

pub began : (r : RspSetup) (h : History) (tag : ℕ) (t : Turn) (d : Draw) (id : ℕ) (session : RspSession) (answer : List ℕ) (live : LiveSession) (v w x y z new : Sessions)
    → 1 ≤ id → IsBeginningAt r h t id session answer → StandsFor v r h → Visits r held_part 1 v w → Visits r held_part 2 w x → Visits r held_part 3 x y → Visits r held_part 4 y z
    → live.session ≡ session → live.idle ≡ 0 → live.period ≡ slice_index answer 2
    → slot_of new id ≡ Some live → ((i : ℕ) → i ≢ id → slot_of new i ≡ slot_of z i) → new.ended ≡ None → StandsFor new r (Clear tag t d ∷ h)
began r h tag t d id session answer live v w x y z new least is stands first second third fourth session_is idle period own others ended =
    let n = negotiation_of (clear_turns h) in
    let given : id_in_exchange (answer_in t.effect) ≡ id = ap id_in_exchange (sym is.answer_is) ∙ is.id_is in
    let events : session_of id (Clear tag t d ∷ h) ≡ begun n (request_in t.effect) answer =
    session_of-Clear id tag t d h ∙ exchange_is id (session_of id h) t n is.is_exchange ∙ own_exchange id (session_of id h) t n given least ∙ ap (begun n (request_in t.effect)) (sym is.answer_is) in
    let begun_is = begins r h t id session answer live is session_is idle period in
    standing_with new r (Clear tag t d ∷ h) id
    (subst (λ (o : Option LiveSession). IsSlotOf o r (session_of id (Clear tag t d ∷ h))) (sym own) (subst (λ (s : Events). lives.StandsFor live r s) (sym events) begun_is))
    (λ i other. subst (λ (s : Events). IsSlotOf (slot_of new i) r s) (sym (session_of-Clear i tag t d h ∙ exchange_is i (session_of i h) t n is.is_exchange ∙ other_exchange id i (session_of i h) t n given other))
    (subst (λ (o : Option LiveSession). IsSlotOf o r (held_part (session_of i h))) (sym (others i other))
    (all_visited r held_part v w x y z nothing_held first second third fourth i (session_of i h) (stands.slots i))))
    (ended ∙ sym (ap (λ (b : Bool). if b || takes PSK_EXCHANGE t then None else ended_of h) (other_code (code_in t.effect) is.is_exchange) ∙ ap (λ (b : Bool). if b then None else ended_of h) is.is_exchange))

-- GET_VERSION ends all of them.

abbrev pub no_events : Events → Events
no_events s = []

pub emptied : (r : RspSetup) (id : ℕ) (old new : Sessions) → slot_of new id ≡ None → ((i : ℕ) → i ≢ id → slot_of new i ≡ slot_of old i) → Visits r no_events id old new
emptied r id old new own others = record {
  own = λ s slot. subst (λ (x : Option LiveSession). IsSlotOf x r []) (sym own) refl;
  others = others;
}

pub cleared : (r : RspSetup) (h : History) (tag : ℕ) (t : Turn) (d : Draw) (a b c e g new : Sessions) → takes GET_VERSION t ≡ true → StandsFor a r h
    → Visits r no_events 1 a b → Visits r no_events 2 b c → Visits r no_events 3 c e → Visits r no_events 4 e g
    → ((i : ℕ) → slot_of new i ≡ slot_of g i) → new.ended ≡ None → StandsFor new r (Clear tag t d ∷ h)
cleared r h tag t d a b c e g new version stands first second third fourth slots ended = record {
  slots = λ id. subst (λ (s : Events). IsSlotOf (slot_of new id) r s)
      (sym (session_of-Clear id tag t d h ∙ ap (λ (b : Bool). if b then [] else (if takes PSK_EXCHANGE t then after_exchange id (session_of id h) t (negotiation_of (clear_turns h)) else session_of id h)) version))
      (subst (λ (x : Option LiveSession). IsSlotOf x r []) (sym (slots id)) (all_visited r no_events a b c e g refl first second third fourth id (session_of id h) (stands.slots id)));
  ended = ended ∙ sym (ap (λ (b : Bool). if b || takes PSK_EXCHANGE t then None else ended_of h) version);
}
