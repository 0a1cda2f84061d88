-- A record that was passed in a session, and gets LargeResponse again: it and its reply open as the last ones under the keys that
-- the session has.
use Rattle.std.proofs.Common.{◌≡◌, ◌≤◌, ◌+◌, ◌-◌, ◌==◌, ◌&&◌, ◌∙◌, ℕ, List, [], ◌∷◌, refl, sym, ap, subst, drop, length, arith, Bool, true, false, Option, Some, None, is_none, cond}
use Rattle.std.specs.Prelude.{not, slice_index, bytes_eq}
use Rattle.std.proofs.lemmas.Option.{none-some}
use Rattle.std.proofs.lemmas.Slice.Eq.{bytes_eq-Decides}
use Rattle.check_fetched_ends.proofs.AgainStands.{chunk, inner, its, opens, wide}
use Rattle.check_late_laws.proofs.Late.MeasuredTurns.{answer_at, large_turn}
use Rattle.check_fetched_laws.proofs.NewestStands.{NewestIs}
use Rattle.check_fetched_ends.specs.AgainRead.{IsAskedIn, IsLargeAgain, holds_large, last_message}
use Rattle.key_schedule.specs.Purpose.{Purpose, iv_of, key_of}
use Rattle.responder_machine.specs.Answer.{request_at}
use Rattle.responder_machine.specs.Handling.{large_response}
use Rattle.responder_machine.specs.History.{History, ended_of}
use Rattle.responder_machine.specs.Place.{session_place}
use Rattle.responder_machine.specs.Records.{opened, opening_fault, reply_number, reply_purpose, reply_record, request_purpose, response_purpose}
use Rattle.responder_machine.specs.Responder.{repeats}
use Rattle.responder_machine.specs.Session.{Events, exchange_answer, exchange_of, id_bytes, id_in_record, is_spent, request_next, response_next, session_of, session_terms}
use Rattle.responder_machine.specs.Session.Event.{Heard}
use Rattle.responder_machine.specs.Setup.{RspSetup}
use Rattle.responder_machine.specs.Turn.{Turn}
use Rattle.responder_session.specs.LastRead.{last_opened, opens_last, opens_reply, reads_last, reply_opened}
use Rattle.secured_record.proofs.Records.{record_opens}
use Rattle.session_keys.proofs.Purposes.{size_of}
use Rattle.spdm_basis.specs.declared.causes.record_fault.RecordFault.{RecordFault}
use Rattle.spdm_basis.specs.declared.causes.record_fault.RecordFault.TheVariants.{KeySpent}
use Rattle.spdm_grammar.specs.declared.messages.choice.Choice.{Choice}
use Rattle.spdm_machine.specs.Keys.{inner_message, record_fault, sealed_of}
use Rattle.spdm_machine.specs.Sessions.{id_in_exchange}
use Rattle.capture_machine.specs.LargeAnswers.{is_unseen_effect, turn_with}

-- ---- A record.

none_of : (b : Bool) (o : Option RecordFault) → cond b (Some KeySpent) o ≡ None → o ≡ None
none_of true o is = absurd (none-some KeySpent (sym is))
none_of false o is = is

-- One that opens is a record of the present key.
opens_as : (psk : List ℕ) (s : Events) (sealed : List ℕ) → opening_fault psk s sealed ≡ None → record_fault (session_terms s).choice (request_purpose psk s) (request_next s) (id_bytes s) sealed ≡ None
unfolding opening_fault
opens_as psk s sealed is = none_of (is_spent s) _ is

record_long : (psk : List ℕ) (s : Events) (t : Turn) (inner pad : List ℕ) → length (reply_record psk s t inner pad) ≡ length inner + length pad + 26
unfolding reply_record sealed_of
record_long psk s t inner pad =
    size_of (key_of (session_terms s).choice.hash (session_terms s).choice.aead (reply_purpose psk s t)) (iv_of (session_terms s).choice.hash (reply_purpose psk s t)) (id_in_exchange (exchange_of s)) (id_in_exchange (exchange_answer s)) (reply_number s t) inner pad
    (reply_record psk s t inner pad) refl

-- The answer to a turn opens under its key.
pub reply_opens : (psk : List ℕ) (s : Events) (t : Turn) (inner pad : List ℕ) → length (reply_record psk s t inner pad) ≤ 4160
    → (record_fault (session_terms s).choice (reply_purpose psk s t) (reply_number s t) (id_bytes s) (reply_record psk s t inner pad) ≡ None)
    × (inner_message (session_terms s).choice (reply_purpose psk s t) (reply_number s t) (reply_record psk s t inner pad) ≡ inner)
unfolding reply_record sealed_of record_fault inner_message
reply_opens psk s t inner pad short =
    let choice : Choice = (session_terms s).choice in
    let p : Purpose = reply_purpose psk s t in
    record_opens (key_of choice.hash choice.aead p) (iv_of choice.hash p) (id_in_exchange (exchange_of s)) (id_in_exchange (exchange_answer s)) (reply_number s t) inner pad short

-- By the number before the next one.
later : (n : ℕ) → not (n + 1 == 0) ≡ true
later n = grind arith

before : (n : ℕ) → n + 1 - 1 ≡ n
before n = omega arith

opens_before : (n : ℕ) (x : ℕ → Option RecordFault) → x n ≡ None → (not (n + 1 == 0) && is_none (x (n + 1 - 1))) ≡ true
opens_before n x none = ap (λ (b : Bool). b && is_none (x (n + 1 - 1))) (later n) ∙ ap (λ (k : ℕ). is_none (x k)) (before n) ∙ ap is_none none

-- ---- The newest one.

module _ (r : RspSetup) (id : ℕ) (h : History) (is : NewestIs r id h) (un : is_unseen_effect is.t.effect ≡ true) where
  abbrev o : Events
  o = session_of (id_in_record is.m) is.before

  abbrev handle : ℕ
  handle = is.led.free.handle

  abbrev went : Turn
  went = large_turn r (session_of (id_in_record is.m) is.before) (inner r id h is un) (its r id h is un).op (its r id h is un).asks is.led.free

  abbrev S : Events
  S = Heard is.m (turn_with [] None went) is.reply ∷ session_of (id_in_record is.m) is.before

  pub session_is : session_of id h ≡ S
  session_is = is.session ∙ ap (λ (t : Turn). Heard is.m t is.reply ∷ o) (its r id h is un).turn

  short : length is.reply ≤ 4160
  short =
      let few = is.led.allowed.pad in
      let long = ap length (its r id h is un).reply ∙ record_long r.psk o went (5 ∷ large_response handle) is.led.free.pad in
      let six : length (5 ∷ large_response handle) ≡ 6 = refl in
      omega (arith, few, long, six)

  reply_is : (record_fault (session_terms o).choice (response_purpose r.psk o) (response_next o) (id_bytes o) is.reply ≡ None)
      × (inner_message (session_terms o).choice (response_purpose r.psk o) (response_next o) is.reply ≡ 5 ∷ large_response handle)
  reply_is =
      let same = (its r id h is un).reply in
      let its_opens = reply_opens r.psk o went (5 ∷ large_response handle) is.led.free.pad (subst (λ (l : List ℕ). length l ≤ 4160) same short) in
      subst (λ (l : List ℕ). (record_fault (session_terms o).choice (response_purpose r.psk o) (response_next o) (id_bytes o) l ≡ None)
      × (inner_message (session_terms o).choice (response_purpose r.psk o) (response_next o) l ≡ 5 ∷ large_response handle)) (sym same) its_opens

  last_is : last_opened r.psk S is.m ≡ inner r id h is un
  unfolding opened
  last_is = ap (λ (n : ℕ). inner_message (session_terms o).choice (request_purpose r.psk o) n is.m) (before (request_next o))

  pub shown : reply_opened r.psk S is.reply ≡ 5 ∷ large_response handle
  shown = ap (λ (n : ℕ). inner_message (session_terms o).choice (response_purpose r.psk o) n is.reply) (before (response_next o)) ∙ reply_is.1

  same_bytes : (l : List ℕ) → bytes_eq l l ≡ true
  same_bytes l = (bytes_eq-Decides l l).1 refl

  reads : reads_last r.psk S is.m is.reply ≡ true
  reads =
      let request : opens_last r.psk S is.m ≡ true = opens_before (request_next o) (λ n. record_fault (session_terms o).choice (request_purpose r.psk o) n (id_bytes o) is.m) (opens_as r.psk o is.m (opens r id h is un)) in
      let answer : opens_reply r.psk S is.reply ≡ true = opens_before (response_next o) (λ n. record_fault (session_terms o).choice (response_purpose r.psk o) n (id_bytes o) is.reply) reply_is.0 in
      ap (λ (b : Bool). (b && bytes_eq is.reply is.reply) && (opens_last r.psk S is.m && opens_reply r.psk S is.reply)) (same_bytes is.m)
      ∙ ap (λ (b : Bool). b && (opens_last r.psk S is.m && opens_reply r.psk S is.reply)) (same_bytes is.reply)
      ∙ ap (λ (b : Bool). b && opens_reply r.psk S is.reply) request ∙ answer

  -- So it is read again.
  module _ (anew : repeats (ended_of h) is.m ≡ false) where
    at : session_of (id_in_record is.m) h ≡ S
    at = ap (λ (n : ℕ). session_of n h) is.id_is ∙ session_is

    pub large_again : IsLargeAgain r h is.m is.reply is.led.free.handle
    large_again = record {
      anew = anew;
      reads = subst (λ (x : Events). reads_last r.psk x is.m is.reply ≡ true) (sym at) reads;
      large = subst (λ (x : Events). holds_large (reply_opened r.psk x is.reply) ≡ true) (sym at) (ap holds_large shown);
      handle_is = subst (λ (x : Events). is.led.free.handle ≡ slice_index (reply_opened r.psk x is.reply) 5) (sym at) (sym (ap (λ (l : List ℕ). slice_index l 5) shown));
    }

    pub asked_again : IsAskedIn r (session_of (id_in_record is.m) h) (last_message r h is.m) (its r id h is un).op
    asked_again =
        let Asked : Events → Type 0 = λ x. IsAskedIn r x (drop 1 (last_opened r.psk x is.m)) (its r id h is un).op in
        subst Asked (sym at) (record {
          live = refl;
          asks = ap (λ (l : List ℕ). request_at (session_place o) (drop 1 l)) last_is ∙ (its r id h is un).asks;
          found = (its r id h is un).found;
          chunk = chunk r id h is un;
          wide = wide r id h is un;
          some = (answer_at r o (inner r id h is un) (its r id h is un).op (its r id h is un).asks is.led.free, (its r id h is un).fits);
        })
