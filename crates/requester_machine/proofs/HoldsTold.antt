-- What a command leaves of what a made history holds.
use Rattle.std.proofs.Common.{refl, ◌≡◌, ◌∙◌, ◌≤◌, ℕ, List, [], ◌∷◌, true, false, Bool, Option, Some, None, ap, sym, subst, eq-eqb, arith, nat_lt}
use Rattle.std.specs.Prelude.{◌==◌, ◌&&◌, ◌||◌, not, if◌then◌else◌}
use Rattle.std.proofs.lemmas.Bool.{false≢true, not-false}
use Rattle.std.proofs.lemmas.Bool.Decides.{nat_tests}
use Rattle.negotiate.specs.declared.shared.Common.{Common}
use Rattle.spdm_grammar.specs.Message.{RequestMessage}
use Rattle.spdm_grammar.specs.Message.RequestMessage.{GetVersion, GetMeasurements}
use Rattle.spdm_grammar.specs.Requests.{canonical_request}
use Rattle.spdm_grammar.specs.declared.told.phase.Phase.{Phase}
use Rattle.spdm_grammar.specs.declared.told.phase.Phase.TheVariants.{Fresh, Versioned, Capable, Negotiated}
use Rattle.spdm_machine.specs.Keys.{Draw}
use Rattle.spdm_machine.specs.Terms.{terms_of}
use Rattle.transcript.specs.Transcripts.{Negotiation}
use Rattle.spdm_grammar.specs.declared.names.TheConstants.{MIN_DATA_TRANSFER_SIZE}
use Rattle.requester_machine.specs.Setup.{ReqSetup}
use Rattle.requester_machine.specs.Asking.{done, resent}
use Rattle.requester_machine.specs.Asking.Outcome.{Adds}
use Rattle.requester_machine.specs.Commands.{Free, command_fault, exchange_for, is_negotiated, is_nowhere, needs_connection, session_in}
use Rattle.requester_machine.specs.History.{History, Entry, outstanding, phase_of, negotiation_of, connection_terms}
use Rattle.requester_machine.specs.History.Entry.{Told}
use Rattle.requester_machine.specs.Message.{Command, Ask, Sent, asked_in}
use Rattle.requester_machine.specs.Message.Ask.{AskData, AskBeat, AskUpdate, AskMeasure, AskEnd}
use Rattle.requester_machine.specs.Message.Command.{Connect, Open, Send, Beat, Update, Measure, End, Retry}
use Rattle.requester_machine.specs.Records.{sealed_next}
use Rattle.requester_machine.specs.Sending.{plain_sent, request_sent, record_sent, is_too_long}
use Rattle.requester_machine.specs.Session.{Steps, session_of, session_negotiation, is_live, with_sent, begun}
use Rattle.requester_machine.specs.Session.Step.{Started, Asked}
use Rattle.requester_machine.specs.UnderWay.{IsCommon, is_capable, IsAwaited, IsSealed, AreBehind}
use Rattle.requester_machine.proofs.Entries.{test_is_false, request_sent-asks}
use Rattle.requester_machine.proofs.Holds.{live_stays, request_waits}
use Rattle.requester_machine.specs.Holds.{Holds, Waits, LiveAt}
use Rattle.requester_machine.proofs.Keeps.{Keeps, sent_keeps}
use Rattle.spdm_basis.proofs.Bools.{and_rest}
use Rattle.requester_machine.proofs.Few.{live_first}

-- ---- Connect.

connect_holds : (q : ReqSetup) (h : History) (d : Draw) → Holds q (Told Connect (plain_sent h GetVersion) d ∷ h)
unfolding session_of
connect_holds q h d = record { live = λ id live. absurd (false≢true live); known = λ s capable. absurd (false≢true capable); waits = (refl, refl) }

-- ---- What the tests showed.

is_phase : (p : Phase) → is_negotiated p ≡ true → p ≡ Negotiated
is_phase Fresh is = absurd (false≢true is)
is_phase Versioned is = absurd (false≢true is)
is_phase Capable is = absurd (false≢true is)
is_phase Negotiated is = refl

pub connected : (q : ReqSetup) (h : History) (command : Command) (f : Free) → command_fault false q h command f ≡ None → needs_connection command ≡ true → phase_of h ≡ Negotiated
connected q h command f none needs = is_phase (phase_of h) (not-false (is_negotiated (phase_of h)) (and_rest (needs_connection command) (not (is_negotiated (phase_of h))) (test_is_false false q h command f none 2) needs))

pub somewhere : (q : ReqSetup) (h : History) (command : Command) (f : Free) (id : ℕ) → command_fault false q h command f ≡ None → session_in command ≡ Some id → is_live (session_of id h) ≡ true
somewhere q h command f id none named = not-false (is_live (session_of id h)) (sym (ap (is_nowhere h) named) ∙ test_is_false false q h command f none 3)

-- ---- Open.

opened_live : (h : History) (n : Negotiation) (bytes : List ℕ) (s : Steps) (b : Bool) → phase_of h ≡ Negotiated → (is_live s ≡ true → (session_negotiation s ≡ n) × (phase_of h ≡ Negotiated))
    → is_live (if b then Started n bytes ∷ [] else s) ≡ true → (session_negotiation (if b then Started n bytes ∷ [] else s) ≡ n) × (phase_of h ≡ Negotiated)
opened_live h n bytes s true phase was live = (refl, phase)
opened_live h n bytes s false phase was live = was live

module _ (q : ReqSetup) (h : History) (f : Free) (summary : ℕ) (d : Draw) where
  open_live : (x : Sent) → asked_in x.aim ≡ Some (exchange_for q f summary) → phase_of h ≡ Negotiated → (id : ℕ) → LiveAt h id → LiveAt (Told (Open summary) x d ∷ h) id
  unfolding session_of
  open_live x asks phase id was =
      subst (λ (o : Option RequestMessage). is_live (begun id (negotiation_of h) o (session_of id h)) ≡ true → (session_negotiation (begun id (negotiation_of h) o (session_of id h)) ≡ negotiation_of h) × (phase_of h ≡ Negotiated)) (sym asks)
      (opened_live h (negotiation_of h) (canonical_request (exchange_for q f summary)) (session_of id h) (f.id == id) phase was)

  open_awaited : (x : Sent) → asked_in x.aim ≡ Some (exchange_for q f summary) → phase_of h ≡ Negotiated → IsAwaited q (Told (Open summary) x d ∷ h) (exchange_for q f summary)
  unfolding session_of
  open_awaited x asks phase =
      (phase, subst (λ (o : Option RequestMessage). begun f.id (negotiation_of h) o (session_of f.id h) ≡ Started (negotiation_of h) (canonical_request (exchange_for q f summary)) ∷ []) (sym asks) (rw (eq-eqb f.id f.id refl) refl))

  open_holds : phase_of h ≡ Negotiated → is_too_long (connection_terms h).common (canonical_request (exchange_for q f summary)) ≡ false → Holds q h
      → Holds q (Told (Open summary) (request_sent (connection_terms h).common h (exchange_for q f summary)) d ∷ h)
  open_holds phase short k = record {
    live = λ id. open_live (request_sent (connection_terms h).common h (exchange_for q f summary)) (request_sent-asks (connection_terms h).common h (exchange_for q f summary)) phase id (k.live id);
    known = k.known;
    waits = request_waits q h (connection_terms h).common (exchange_for q f summary) (λ x. Told (Open summary) x d ∷ h) (λ x asks. open_awaited x asks phase) (λ x s. refl)
        (λ s. (k.known s (ap is_capable phase)).their_least) (λ s. short);
  }

-- ---- Measurements in the clear.

above : (n m k : ℕ) → MIN_DATA_TRANSFER_SIZE ≤ n → n ≤ m → k ≤ 41 → (nat_lt m k ≡ false) × (nat_lt n k ≡ false)
above n m k least ordered small = (grind (arith, nat_tests), grind (arith, nat_tests))

neither : (a b c : Bool) → a ≡ false → b ≡ false → (a || (not c && b)) ≡ false
neither a b true x y = ap (λ (v : Bool). v || (false && b)) x ∙ ap (λ (w : Bool). false || (false && w)) y
neither a b false x y = ap (λ (v : Bool). v || (true && b)) x ∙ ap (λ (w : Bool). false || (true && w)) y

not_long : (q : ReqSetup) (common : Common) (op : ℕ) → IsCommon q common → is_too_long common (canonical_request (GetMeasurements op)) ≡ false
not_long q common op c =
    let a = above common.to_responder.transfer common.to_responder.max 4 c.their_least c.their_ordered (omega arith) in
    neither (nat_lt common.to_responder.max 4) (nat_lt common.to_responder.transfer 4) common.chunk a.0 a.1

measure_keeps : (h : History) (op : ℕ) (x : Sent) (d : Draw) (id : ℕ) → Keeps (session_of id h) (session_of id (Told (Measure None op) x d ∷ h))
unfolding session_of
measure_keeps h op x d id = sent_keeps id (Some x) (session_of id h)

measure_holds : (q : ReqSetup) (h : History) (op : ℕ) (d : Draw) → phase_of h ≡ Negotiated → Holds q h → Holds q (Told (Measure None op) (request_sent (connection_terms h).common h (GetMeasurements op)) d ∷ h)
measure_holds q h op d phase k = record {
  live = λ id. live_stays h (Told (Measure None op) (request_sent (connection_terms h).common h (GetMeasurements op)) d ∷ h) id (measure_keeps h op (request_sent (connection_terms h).common h (GetMeasurements op)) d id) refl refl (k.live id);
  known = k.known;
  waits = request_waits q h (connection_terms h).common (GetMeasurements op) (λ x. Told (Measure None op) x d ∷ h) (λ x asks. phase) (λ x s. refl)
      (λ s. (k.known s (ap is_capable phase)).their_least) (λ s. not_long q (connection_terms h).common op (k.known s (ap is_capable phase)));
}

-- ---- What is asked of a session.

asks_hold : (q : ReqSetup) (h later : History) (id : ℕ) (ask : Ask) (inner pad : List ℕ)
    → ((other : ℕ) → session_of other later ≡ with_sent other (Some (record_sent q h id (session_of id h) ask inner pad)) (session_of other h))
    → negotiation_of later ≡ negotiation_of h → phase_of later ≡ phase_of h → outstanding later ≡ Some (record_sent q h id (session_of id h) ask inner pad)
    → is_live (session_of id h) ≡ true → AreBehind q ask → Holds q h → Holds q later
asks_hold q h later id ask inner pad sessions same phase out live behind k = record {
  live = λ other. live_stays h later other (subst (Keeps (session_of other h)) (sym (sessions other)) (sent_keeps other (Some sent) (session_of other h))) same phase (k.live other);
  known = λ s capable. subst (λ (n : Negotiation). IsCommon q (terms_of n).common) (sym same) (k.known s (sym (ap is_capable phase) ∙ capable));
  waits = subst (Waits q later) (sym out) (sealed, behind);
}
  where
    sent : Sent
    sent = record_sent q h id (session_of id h) ask inner pad

    sealed : IsSealed q later id ask sent.content
    sealed = record {
      older = session_of id h;
      inner = inner;
      sealed = sealed_next q.psk (session_of id h) inner pad;
      pad = pad;
      live = live;
      steps = sessions id ∙ rw (eq-eqb id id refl) (live_first (session_of id h) (Asked ask inner (sealed_next q.psk (session_of id h) inner pad)) live);
      content_is = refl;
      sealed_is = refl;
    }

-- ---- All commands.

pub told_sent : (command : Command) (x y : Sent) (d : Draw) → Adds (Told command x d) ≡ Adds (Told command y d) → x ≡ y
told_sent command x y d is = cc is

pub resent_adds : {A : Type 0} (waiting : Option Sent) (entry : Entry) → resent waiting ≡ Adds entry → A
resent_adds None entry is = absurd (cc is)
resent_adds (Some sent) entry is = absurd (cc is)

pub told_holds : (q : ReqSetup) (h : History) (command : Command) (f : Free) (d : Draw) (sent : Sent)
    → command_fault false q h command f ≡ None → done q h command f d ≡ Adds (Told command sent d) → Holds q h → Holds q (Told command sent d ∷ h)
unfolding session_of
told_holds q h Connect f d sent none is k = subst (λ (x : Sent). Holds q (Told Connect x d ∷ h)) (told_sent Connect _ sent d is) (connect_holds q h d)
told_holds q h (Open summary) f d sent none is k =
    subst (λ (x : Sent). Holds q (Told (Open summary) x d ∷ h)) (told_sent (Open summary) _ sent d is) (open_holds q h f summary d (connected q h (Open summary) f none refl) (test_is_false false q h (Open summary) f none 8) k)
told_holds q h (Send id bytes) f d sent none is k =
    subst (λ (x : Sent). Holds q (Told (Send id bytes) x d ∷ h)) (told_sent (Send id bytes) _ sent d is) (asks_hold q h _ id AskData _ f.pad (λ other. refl) refl refl refl (somewhere q h (Send id bytes) f id none refl) tt k)
told_holds q h (Beat id) f d sent none is k =
    subst (λ (x : Sent). Holds q (Told (Beat id) x d ∷ h)) (told_sent (Beat id) _ sent d is) (asks_hold q h _ id AskBeat _ f.pad (λ other. refl) refl refl refl (somewhere q h (Beat id) f id none refl) tt k)
told_holds q h (Update id all) f d sent none is k =
    subst (λ (x : Sent). Holds q (Told (Update id all) x d ∷ h)) (told_sent (Update id all) _ sent d is) (asks_hold q h _ id (AskUpdate all) _ f.pad (λ other. refl) refl refl refl (somewhere q h (Update id all) f id none refl) tt k)
told_holds q h (Measure None op) f d sent none is k =
    subst (λ (x : Sent). Holds q (Told (Measure None op) x d ∷ h)) (told_sent (Measure None op) _ sent d is) (measure_holds q h op d (connected q h (Measure None op) f none refl) k)
told_holds q h (Measure (Some id) op) f d sent none is k =
    subst (λ (x : Sent). Holds q (Told (Measure (Some id) op) x d ∷ h)) (told_sent (Measure (Some id) op) _ sent d is) (asks_hold q h _ id (AskMeasure op) _ f.pad (λ other. refl) refl refl refl (somewhere q h (Measure (Some id) op) f id none refl) tt k)
told_holds q h (End id) f d sent none is k =
    subst (λ (x : Sent). Holds q (Told (End id) x d ∷ h)) (told_sent (End id) _ sent d is) (asks_hold q h _ id AskEnd _ f.pad (λ other. refl) refl refl refl (somewhere q h (End id) f id none refl) tt k)
told_holds q h Retry f d sent none is k = resent_adds (outstanding h) (Told Retry sent d) is
