-- The session that a requester has under a ReqSessionID was begun with this id, so a record names no other one.
use Rattle.std.proofs.Common.{◌≡◌, ◌≢◌, ◌≤◌, ◌∙◌, ℕ, zero, suc, List, [], ◌∷◌, Bool, true, false, Option, Some, None, refl, sym, ap, subst, take, arith}
use Rattle.std.specs.Prelude.{◌==◌, ◌||◌, ◌-◌, nat_lt, bytes_eq, if◌then◌else◌, slice_index, slice_index_or}
use Rattle.std.proofs.lemmas.Bool.{and_parts, eqb-true, false≢true}
use Rattle.std.proofs.lemmas.Bool.Decides.{nat_tests}
use Rattle.std.proofs.lemmas.Slice.Eq.{bytes_eq-Decides}
use Rattle.requester_core.specs.OwnRecords.{first_of, id_named}
use Rattle.requester_core.specs.Sessions.{StandsFor, slot_of}
use Rattle.requester_core.specs.Slot.{IsSlotOf}
use Rattle.requester_core.specs.declared.in_sessions.sessions.Sessions.{Sessions}
use Rattle.requester_core.specs.declared.in_sessions.slot.Slot.{Slot}
use Rattle.requester_core.specs.declared.in_sessions.slot.Slot.TheVariants as slot
use Rattle.requester_machine.specs.History.{Effect, History}
use Rattle.requester_machine.specs.History.Effect.{Answers, Refuses}
use Rattle.requester_machine.specs.History.Entry.{Told, TookClear, TookRecord}
use Rattle.requester_machine.specs.Message.{Aim, Ask, Command, Content, Sent, asked_in}
use Rattle.requester_machine.specs.Message.Aim.{ByChunks, ForChunk, InSession, Plain}
use Rattle.requester_machine.specs.Message.Command.{Beat, Connect, End, Measure, Open, Retry, Send, Update}
use Rattle.requester_machine.specs.Message.Content.{Clear, Sealed}
use Rattle.requester_machine.specs.Named.{names, session_named}
use Rattle.requester_machine.specs.Session.{Steps, after_clear, after_command, after_record, begun, ends, exchange_of, id_bytes, is_accepted, is_live, session_of, when_live, with_aim, with_content, with_sent}
use Rattle.requester_machine.specs.Session.Step.{Accepted, Started, Took}
use Rattle.requester_machine.specs.Setup.{ReqSetup}
use Rattle.spdm_grammar.specs.Message.{ExchangeMessage, RequestMessage}
use Rattle.spdm_grammar.specs.Message.RequestMessage.{PskExchange}
use Rattle.spdm_grammar.specs.Requests.{canonical_request}
use Rattle.spdm_machine.specs.Sessions.{id_in_exchange}
use Rattle.transcript.specs.Transcripts.{Negotiation}

-- ---- What began it.

abbrev HasId : ℕ → Steps → Type 0
HasId id s = is_live s ≡ true → (e : ExchangeMessage) × (exchange_of s ≡ canonical_request (PskExchange e)) × (e.req_id ≡ id)

none_has : (id : ℕ) → HasId id []
none_has id live = absurd (false≢true live)

pick_has : (id : ℕ) (b : Bool) (s t : Steps) → HasId id s → HasId id t → HasId id (if b then s else t)
pick_has id true s t one two = one
pick_has id false s t one two = two

accepted_has : (id : ℕ) (answer : List ℕ) (s : Steps) → HasId id s → HasId id (when_live s (Accepted answer))
accepted_has id answer [] has = none_has id
accepted_has id answer (x ∷ s) has = λ live. has refl

took_has : (id : ℕ) (sealed inner : List ℕ) (effect : Effect) (s : Steps) → HasId id s → HasId id (when_live s (Took sealed inner effect))
took_has id sealed inner effect [] has = none_has id
took_has id sealed inner effect (x ∷ s) has = λ live. has refl

content_has : (id : ℕ) (ask : Ask) (content : Content) (s : Steps) → HasId id s → HasId id (with_content ask content s)
content_has id ask (Clear message) s has = has
content_has id ask (Sealed sealed inner pad) [] has = none_has id
content_has id ask (Sealed sealed inner pad) (x ∷ s) has = λ live. has refl

aim_has : (id : ℕ) (aim : Aim) (content : Content) (s : Steps) → HasId id s → HasId id (with_aim id aim content s)
aim_has id (Plain asked) content s has = has
aim_has id (ByChunks asked handle number) content s has = has
aim_has id (ForChunk asked handle number before) content s has = has
aim_has id (InSession of ask) content s has = pick_has id (of == id) (with_content ask content s) s (content_has id ask content s has) has

sent_has : (id : ℕ) (next : Option Sent) (s : Steps) → HasId id s → HasId id (with_sent id next s)
sent_has id None s has = has
sent_has id (Some sent) s has = aim_has id sent.aim sent.content s has

started_has : (id : ℕ) (b : Bool) (n : Negotiation) (e : ExchangeMessage) (s : Steps) → (b ≡ true → e.req_id ≡ id) → HasId id s → HasId id (if b then Started n (canonical_request (PskExchange e)) ∷ [] else s)
started_has id true n e s same has = λ live. (e, refl, same refl)
started_has id false n e s same has = has

begun_has : (id : ℕ) (n : Negotiation) (asked : Option RequestMessage) (s : Steps) → HasId id s → HasId id (begun id n asked s)
begun_has id n (Some (PskExchange e)) s has = started_has id (e.req_id == id) n e s (λ same. eqb-true e.req_id id same) has
begun_has id n _ s has = has

command_has : (id : ℕ) (n : Negotiation) (c : Command) (sent : Sent) (s : Steps) → HasId id s → HasId id (after_command id n c sent s)
command_has id n Connect sent s has = none_has id
command_has id n (Open summary) sent s has = begun_has id n (asked_in sent.aim) s has
command_has id n (Send of bytes) sent s has = sent_has id (Some sent) s has
command_has id n (Beat of) sent s has = sent_has id (Some sent) s has
command_has id n (Update of all) sent s has = sent_has id (Some sent) s has
command_has id n (Measure of op) sent s has = sent_has id (Some sent) s has
command_has id n (End of) sent s has = sent_has id (Some sent) s has
command_has id n Retry sent s has = sent_has id (Some sent) s has

clear_has : (id : ℕ) (effect : Effect) (s : Steps) → HasId id s → HasId id (after_clear id effect s)
clear_has id (Answers (PskExchange e) answer) s has = pick_has id (e.req_id == id) (when_live s (Accepted answer)) s (accepted_has id answer s has) has
clear_has id (Refuses (PskExchange e)) s has = pick_has id (e.req_id == id) [] s (none_has id) has
clear_has id _ s has = has

record_has : (id : ℕ) (sealed inner : List ℕ) (effect : Effect) (s : Steps) → HasId id s → HasId id (after_record sealed inner effect s)
record_has id sealed inner effect s has = pick_has id (ends effect) [] (when_live s (Took sealed inner effect)) (none_has id) (took_has id sealed inner effect s has)

session_has : (id : ℕ) (h : History) → HasId id (session_of id h)
unfolding session_of
session_has id [] = none_has id
session_has id (Told command sent d ∷ older) = command_has id _ command sent (session_of id older) (session_has id older)
session_has id (TookClear tag m led d ∷ older) = sent_has id led.next (after_clear id led.effect (session_of id older)) (clear_has id led.effect (session_of id older) (session_has id older))
session_has id (TookRecord tag of sealed inner led d ∷ older) =
    pick_has id (of == id) (with_sent id led.next (after_record sealed inner led.effect (session_of id older))) (session_of id older)
    (sent_has id led.next (after_record sealed inner led.effect (session_of id older)) (record_has id sealed inner led.effect (session_of id older) (session_has id older))) (session_has id older)

id_of : (e : ExchangeMessage) (id : ℕ) → e.req_id ≡ id → id ≤ 4 → id_in_exchange (canonical_request (PskExchange e)) ≡ id
id_of e id same few = omega arith

live_id : (id : ℕ) (h : History) → id ≤ 4 → is_live (session_of id h) ≡ true → id_in_exchange (exchange_of (session_of id h)) ≡ id
live_id id h few live = (let has = session_has id h live in ap id_in_exchange has.1 ∙ id_of has.0 id has.2 few)

-- ---- Which session a record names.

accepted_live : (s : Steps) → is_accepted s ≡ true → is_live s ≡ true
accepted_live [] is = absurd (false≢true is)
accepted_live (x ∷ s) is = refl

-- A record that names a session has its id in front.
named_bytes : (sealed : List ℕ) (s : Steps) → names sealed s ≡ true → (is_live s ≡ true) × (id_bytes s ≡ take 4 sealed)
named_bytes sealed s is = (let two = and_parts (is_accepted s) (bytes_eq (id_bytes s) (take 4 sealed)) is in (accepted_live s two.0, (bytes_eq-Decides (id_bytes s) (take 4 sealed)).0 two.1))

first_byte : (s : Steps) (i : ℕ) → id_in_exchange (exchange_of s) ≡ i → i ≤ 4 → slice_index (id_bytes s) 0 ≡ i
first_byte s i is few = omega arith

names_one : (h : History) (sealed : List ℕ) (i j : ℕ) → i ≤ 4 → j ≤ 4 → names sealed (session_of i h) ≡ true → names sealed (session_of j h) ≡ true → i ≡ j
names_one h sealed i j few less one two =
    let a = named_bytes sealed (session_of i h) one in
    let b = named_bytes sealed (session_of j h) two in
    sym (first_byte (session_of i h) i (live_id i h few a.0) few) ∙ ap (λ (l : List ℕ). slice_index l 0) (a.1 ∙ sym b.1) ∙ first_byte (session_of j h) j (live_id j h less b.0) less

others_not : (h : History) (sealed : List ℕ) (i : ℕ) → i ≤ 4 → names sealed (session_of i h) ≡ true → (j : ℕ) → j ≤ 4 → j ≢ i → names sealed (session_of j h) ≡ false
others_not h sealed i few is j less other = by_test (names sealed (session_of j h)) refl
  where
    by_test : (b : Bool) → names sealed (session_of j h) ≡ b → names sealed (session_of j h) ≡ false
    by_test true same = absurd (other (names_one h sealed j i less few same is))
    by_test false same = same

-- The ids of sessions are from 1 to 4.
empty_slot : (x : Sessions) (id : ℕ) → (id == 0 || nat_lt 4 id) ≡ true → slot_of x id ≡ slot.Empty
empty_slot x id is = ap (λ (b : Bool). if b then slot.Empty else slice_index_or x.slots (id - 1) slot.Empty) is

live_slot : (psk : List ℕ) (s : Steps) (y : Slot) → y ≡ slot.Empty → IsSlotOf y psk s → is_live s ≡ true → ⊥
live_slot psk s y same is live = false≢true (sym (ap is_live (subst (λ (z : Slot). IsSlotOf z psk s) same is)) ∙ live)

pub few_ids : (x : Sessions) (q : ReqSetup) (h : History) (id : ℕ) → StandsFor x q h → is_live (session_of id h) ≡ true → (1 ≤ id) × (id ≤ 4)
few_ids x q h id stands live = by_test (id == 0 || nat_lt 4 id) refl
  where
    range : (n : ℕ) → (n == 0 || nat_lt 4 n) ≡ false → (1 ≤ n) × (n ≤ 4)
    range n is = (grind (arith, nat_tests), grind (arith, nat_tests))

    by_test : (b : Bool) → (id == 0 || nat_lt 4 id) ≡ b → (1 ≤ id) × (id ≤ 4)
    by_test true is = absurd (live_slot q.psk (session_of id h) (slot_of x id) (empty_slot x id is) (stands.slots id) live)
    by_test false is = range id is

first_by : (a b c d : Bool) (i : ℕ) → 1 ≤ i → i ≤ 4 → (i ≡ 1 → a ≡ true) → (i ≡ 2 → b ≡ true) → (i ≡ 3 → c ≡ true) → (i ≡ 4 → d ≡ true)
    → (i ≢ 1 → a ≡ false) → (i ≢ 2 → b ≡ false) → (i ≢ 3 → c ≡ false) → first_of a b c d ≡ Some i
first_by a b c d zero least most p q r s x y z = absurd (omega arith)
first_by a b c d (suc zero) least most p q r s x y z = rw (p refl) refl
first_by a b c d (suc (suc zero)) least most p q r s x y z = rw (x (λ e. omega arith), q refl) refl
first_by a b c d (suc (suc (suc zero))) least most p q r s x y z = rw (x (λ e. omega arith), y (λ e. omega arith), r refl) refl
first_by a b c d (suc (suc (suc (suc zero)))) least most p q r s x y z = rw (x (λ e. omega arith), y (λ e. omega arith), z (λ e. omega arith), s refl) refl
first_by a b c d (suc (suc (suc (suc (suc n))))) least most p q r s x y z = absurd (omega arith)

-- The session whose id stands in front is the one that is named.
pub id_is_named : (x : Sessions) (q : ReqSetup) (h : History) (sealed : List ℕ) (id : ℕ) → StandsFor x q h → names sealed (session_of id h) ≡ true → id_named h sealed ≡ Some id
id_is_named x q h sealed id stands is =
    let few = few_ids x q h id stands (named_bytes sealed (session_of id h) is).0 in
    let its = λ (j : ℕ) (same : id ≡ j). subst (λ (n : ℕ). names sealed (session_of n h) ≡ true) same is in
    let rest = others_not h sealed id few.1 is in
    first_by (names sealed (session_of 1 h)) (names sealed (session_of 2 h)) (names sealed (session_of 3 h)) (names sealed (session_of 4 h)) id few.0 few.1 (its 1) (its 2) (its 3) (its 4)
    (λ ne. rest 1 (omega arith) (λ e. ne (sym e))) (λ ne. rest 2 (omega arith) (λ e. ne (sym e))) (λ ne. rest 3 (omega arith) (λ e. ne (sym e)))

number_in : Option ℕ → ℕ
number_in None = 0
number_in (Some n) = n

named_by : (a b c d : Bool) (s : ℕ → Steps) (i : ℕ) → first_of a b c d ≡ Some i → (if a then s 1 else (if b then s 2 else (if c then s 3 else (if d then s 4 else [])))) ≡ s i
unfolding number_in
named_by true b c d s i is = ap s (ap number_in is)
named_by false true c d s i is = ap s (ap number_in is)
named_by false false true d s i is = ap s (ap number_in is)
named_by false false false true s i is = ap s (ap number_in is)
named_by false false false false s i is = absurd (cc)

pub named_session : (h : History) (sealed : List ℕ) (id : ℕ) → id_named h sealed ≡ Some id → session_named h sealed ≡ session_of id h
named_session h sealed id is = named_by (names sealed (session_of 1 h)) (names sealed (session_of 2 h)) (names sealed (session_of 3 h)) (names sealed (session_of 4 h)) (λ i. session_of i h) id is
