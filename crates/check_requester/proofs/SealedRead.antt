-- A record that a session seals opens in that session, and its inner message tells the command by which it is sent.
use Rattle.std.proofs.Common.{◌≡◌, ◌≤◌, ◌∙◌, ℕ, List, [], ◌∷◌, Bool, true, false, Some, None, refl, sym, ap, subst, length, take}
use Rattle.std.specs.Prelude.{◌&&◌, bytes_eq, is_none}
use Rattle.std.proofs.lemmas.Bool.{false≢true, not-false}
use Rattle.std.proofs.lemmas.Option.{none-some, same_Some}
use Rattle.std.proofs.lemmas.Slice.Eq.{bytes_eq-Decides}
use Rattle.requester_core.specs.Joined.{StandsFor}
use Rattle.requester_core.specs.OwnRecords.{id_named, opens_own}
use Rattle.requester_core.specs.declared.joined.RequesterCore.{RequesterCore}
use Rattle.psk_session.specs.OwnRecords.{own_fault, own_inner}
use Rattle.requester_machine.proofs.Entries.{test_is_false}
use Rattle.requester_machine.specs.Commands.{Free, command_fault, is_nowhere, session_in}
use Rattle.requester_machine.specs.History.{History, outstanding}
use Rattle.requester_machine.specs.Message.{Command}
use Rattle.requester_machine.specs.Message.Command.{Beat, Connect, End, Measure, Open, Retry, Send, Update}
use Rattle.requester_machine.specs.Named.{names, session_named}
use Rattle.requester_machine.specs.Order.{FitsWaits, waits_for}
use Rattle.requester_machine.specs.Order.Waits.{Rests}
use Rattle.requester_machine.specs.Order as orders
use Rattle.requester_machine.specs.Records.{request_purpose, sealed_next}
use Rattle.requester_machine.specs.Sending.{inner_data, inner_request, key_update, operation_of, update_tag}
use Rattle.requester_machine.specs.Session.{Steps, exchange_answer, exchange_of, id_bytes, is_accepted, is_live, request_next, session_of, session_terms}
use Rattle.requester_machine.specs.Setup.{ReqSetup}
use Rattle.secured_record.proofs.Records.{record_opens}
use Rattle.secured_record.specs.Format.{record_of}
use Rattle.key_schedule.specs.Purpose.{iv_of, key_of}
use Rattle.spdm_grammar.specs.Message.RequestMessage.{EndSession, GetMeasurements, Heartbeat}
use Rattle.spdm_machine.specs.Keys.{inner_message, record_fault, sealed_of}
use Rattle.spdm_machine.specs.Sessions.{id_in_exchange}
use Rattle.check_requester.proofs.AskedIds.{few_ids, id_is_named, named_session}
use Rattle.check_requester.specs.SealedTold.{command_told}
use Rattle.check_laws.specs.Showing.{IsCommandedIn, inner_for, values_shown}

-- ---- It opens.

pub sealed_opens : (psk : List ℕ) (s : Steps) (inner pad sealed : List ℕ) → length sealed ≤ 4160 → sealed ≡ sealed_next psk s inner pad → (own_fault psk s sealed ≡ None) × (own_inner psk s sealed ≡ inner)
unfolding sealed_next sealed_of own_fault own_inner record_fault inner_message
sealed_opens psk s inner pad sealed short is =
    let choice = (session_terms s).choice in
    let p = request_purpose psk s in
    let bytes : List ℕ = record_of (key_of choice.hash choice.aead p) (iv_of choice.hash p) (id_bytes s) (request_next s) inner pad in
    let same : bytes ≡ sealed = sym is in
    let opened = record_opens (key_of choice.hash choice.aead p) (iv_of choice.hash p) (id_in_exchange (exchange_of s)) (id_in_exchange (exchange_answer s)) (request_next s) inner pad (subst (λ (l : List ℕ). length l ≤ 4160) (sym same) short) in (
      subst (λ (l : List ℕ). record_fault choice p (request_next s) (id_bytes s) l ≡ None) same opened.0,
      subst (λ (l : List ℕ). inner_message choice p (request_next s) l ≡ inner) same opened.1,
    )

sealed_id : (psk : List ℕ) (s : Steps) (inner pad : List ℕ) → take 4 (sealed_next psk s inner pad) ≡ id_bytes s
unfolding sealed_next sealed_of record_of
sealed_id psk s inner pad = refl

-- It names that session, which took PSK_EXCHANGE_RSP.
pub sealed_names : (psk : List ℕ) (s : Steps) (inner pad sealed : List ℕ) → is_accepted s ≡ true → sealed ≡ sealed_next psk s inner pad → names sealed s ≡ true
sealed_names psk s inner pad sealed accepted is =
    ap (λ (b : Bool). b && bytes_eq (id_bytes s) (take 4 sealed)) accepted ∙ (bytes_eq-Decides (id_bytes s) (take 4 sealed)).1 (sym (ap (take 4) is ∙ sealed_id psk s inner pad))

-- ---- Which session a command asks.

asks_in : (h : History) (c : Command) (id : ℕ) (inner : List ℕ) → inner_for h c ≡ Some (id, inner) → session_in c ≡ Some id
asks_in h Connect id inner is = absurd (none-some (id, inner) is)
asks_in h (Open summary) id inner is = absurd (none-some (id, inner) is)
asks_in h (Send of bytes) id inner is = ap (λ (p : ℕ × List ℕ). Some p.0) (same_Some (of, inner_data bytes) (id, inner) is)
asks_in h (Beat of) id inner is = ap (λ (p : ℕ × List ℕ). Some p.0) (same_Some (of, inner_request Heartbeat) (id, inner) is)
asks_in h (Update of all) id inner is = ap (λ (p : ℕ × List ℕ). Some p.0) (same_Some (of, inner_request (key_update (session_of of h) (operation_of all))) (id, inner) is)
asks_in h (Measure None op) id inner is = absurd (none-some (id, inner) is)
asks_in h (Measure (Some of) op) id inner is = ap (λ (p : ℕ × List ℕ). Some p.0) (same_Some (of, inner_request (GetMeasurements op)) (id, inner) is)
asks_in h (End of) id inner is = ap (λ (p : ℕ × List ℕ). Some p.0) (same_Some (of, inner_request EndSession) (id, inner) is)
asks_in h Retry id inner is = absurd (none-some (id, inner) is)

asked_live : (q : ReqSetup) (h : History) (c : Command) (id : ℕ) (inner : List ℕ) (f : Free) → inner_for h c ≡ Some (id, inner) → command_fault false q h c f ≡ None → is_live (session_of id h) ≡ true
asked_live q h c id inner f is none =
    let test : is_nowhere h (session_in c) ≡ false = test_is_false false q h c f none 3 in
    not-false (is_live (session_of id h)) (ap (is_nowhere h) (sym (asks_in h c id inner is)) ∙ test)

rests_accepted : (s : Steps) → is_live s ≡ true → FitsWaits Rests s → is_accepted s ≡ true
rests_accepted [] live fits = absurd (false≢true live)
rests_accepted (x ∷ s) live fits = fits.1

-- A session that is asked something while nothing is outstanding took PSK_EXCHANGE_RSP.
asked_accepted : (seen : RequesterCore) (q : ReqSetup) (h : History) (id : ℕ) → StandsFor seen q h → outstanding h ≡ None → is_live (session_of id h) ≡ true → is_accepted (session_of id h) ≡ true
asked_accepted seen q h id stands none live =
    rests_accepted (session_of id h) live (subst (λ (w : orders.Waits). FitsWaits w (session_of id h)) (ap (waits_for id) none) (stands.sessions.orders id).fits)

-- ---- What tells the command.

update_told : (id : ℕ) (all : Bool) (tag : ℕ) → command_told id (5 ∷ 0x12 ∷ 0xE9 ∷ operation_of all ∷ tag ∷ []) ≡ Some (Update id all)
update_told id true tag = refl
update_told id false tag = refl

told_as : (one other : ℕ × List ℕ) (c : Command) → Some one ≡ Some other → command_told one.0 one.1 ≡ Some c → command_told other.0 other.1 ≡ Some c
told_as one other c is told = ap (λ (p : ℕ × List ℕ). command_told p.0 p.1) (sym (same_Some one other is)) ∙ told

pub command_is_told : (h : History) (c : Command) (id : ℕ) (inner : List ℕ) → inner_for h c ≡ Some (id, inner) → command_told id inner ≡ Some c
command_is_told h Connect id inner is = absurd (none-some (id, inner) is)
command_is_told h (Open summary) id inner is = absurd (none-some (id, inner) is)
command_is_told h (Send of bytes) id inner is = told_as (of, inner_data bytes) (id, inner) (Send of bytes) is refl
command_is_told h (Beat of) id inner is = told_as (of, inner_request Heartbeat) (id, inner) (Beat of) is refl
command_is_told h (Update of all) id inner is = told_as (of, inner_request (key_update (session_of of h) (operation_of all))) (id, inner) (Update of all) is (update_told of all (update_tag (session_of of h)))
command_is_told h (Measure None op) id inner is = absurd (none-some (id, inner) is)
command_is_told h (Measure (Some of) op) id inner is = told_as (of, inner_request (GetMeasurements op)) (id, inner) (Measure (Some of) op) is refl
command_is_told h (End of) id inner is = told_as (of, inner_request EndSession) (id, inner) (End of) is refl
command_is_told h Retry id inner is = absurd (none-some (id, inner) is)

-- ---- A record that a command sends.

-- It opens in the session that it names, and there its inner message tells a command that sends it.
pub record IsFound (q : ReqSetup) (h : History) (sealed : List ℕ) : Type 0 where
  pub id : ℕ
  pub command : Command
  pub named : id_named h sealed ≡ Some id
  pub few : id ≤ 4
  pub opens : opens_own q.psk (session_named h sealed) sealed ≡ true
  pub told : command_told id (own_inner q.psk (session_named h sealed) sealed) ≡ Some command
  pub shown : (inner : List ℕ) × (pad : List ℕ) × (inner_for h command ≡ Some (id, inner)) × (length pad ≤ 16) × (command_fault false q h command (values_shown EndSession) ≡ None) × (sealed ≡ sealed_next q.psk (session_of id h) inner pad)

pub found : (seen : RequesterCore) (q : ReqSetup) (h : History) (sealed : List ℕ) → StandsFor seen q h → outstanding h ≡ None → length sealed ≤ 4160 → IsCommandedIn q h sealed → IsFound q h sealed
found seen q h sealed stands none short shown =
    let command = shown.0 in
    let id = shown.1 in
    let inner = shown.2 in
    let pad = shown.3 in
    let s = session_of id h in
    let live = asked_live q h command id inner (values_shown EndSession) shown.4 shown.6 in
    let accepted = asked_accepted seen q h id stands none live in
    let opened = sealed_opens q.psk s inner pad sealed short shown.7 in
    let named = id_is_named seen.sessions q h sealed id stands.sessions (sealed_names q.psk s inner pad sealed accepted shown.7) in
    let same : session_named h sealed ≡ s = named_session h sealed id named in
    record {
      id = id;
      command = command;
      named = named;
      few = (few_ids seen.sessions q h id stands.sessions live).1;
      opens = ap (λ (x : Steps). opens_own q.psk x sealed) same ∙ ap (λ (b : Bool). b && is_none (own_fault q.psk s sealed)) accepted ∙ ap is_none opened.0;
      told = ap (λ (x : Steps). command_told id (own_inner q.psk x sealed)) same ∙ ap (command_told id) opened.1 ∙ command_is_told h command id inner shown.4;
      shown = (inner, pad, shown.4, shown.5, shown.6, shown.7);
    }
