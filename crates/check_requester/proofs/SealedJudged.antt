-- Whether some command sends a record, by what it opens to.
use Rattle.std.proofs.Common.{◌≡◌, ◌≤◌, ◌<◌, ◌∙◌, ℕ, List, Bool, true, false, Option, Some, None, refl, sym, ap, subst, length, drop, arith}
use Rattle.std.specs.Prelude.{◌==◌, if◌then◌else◌, slice_index, unwrap_or}
use Rattle.std.proofs.lemmas.Bool.{false≢true}
use Rattle.std.proofs.lemmas.Option.{none-some, same_Some}
use Rattle.requester_core.specs.Joined.{StandsFor, command_of}
use Rattle.requester_core.specs.OwnRecords.{OpensAs, id_named}
use Rattle.requester_core.specs.declared.command.Command as declared
use Rattle.requester_core.specs.declared.joined.RequesterCore.{RequesterCore}
use Rattle.requester_machine.specs.History.{History, asks_session, outstanding}
use Rattle.requester_machine.specs.May.{IsSetUp}
use Rattle.requester_machine.specs.Message.{Command}
use Rattle.requester_machine.specs.Message.Command.{Beat, End, Measure, Send, Update}
use Rattle.requester_machine.specs.Named.{session_named}
use Rattle.requester_machine.specs.Setup.{ReqSetup}
use Rattle.spdm_machine.specs.Bodies.{record_body}
use Rattle.check_requester.proofs.SealedRead.{IsFound, found}
use Rattle.check_laws.proofs.ShownSealed.{from_shown, to_shown}
use Rattle.check_requester.specs.Commanded.{IsSentByCommand}
use Rattle.check_requester.specs.SealedTold.{IsSentBy, TellsCommand, command_told, request_told}
use Rattle.capture_machine.specs.CapturedRequests.{Tells}

-- ---- Only commands of a session are told.

abbrev AllAsk : Option Command → Type 0
AllAsk o = (c : Command) → o ≡ Some c → asks_session c ≡ true

pick_ask : (b : Bool) (x y : Option Command) → AllAsk x → AllAsk y → AllAsk (if b then x else y)
pick_ask true x y one two = one
pick_ask false x y one two = two

one_asks : (d : Command) → asks_session d ≡ true → AllAsk (Some d)
one_asks d its c is = subst (λ (x : Command). asks_session x ≡ true) (same_Some d c is) its

none_asks : AllAsk None
none_asks c is = absurd (none-some c is)

request_asks : (id code first second : ℕ) → AllAsk (request_told id code first second)
request_asks id code first second =
    pick_ask _ (Some (Beat id)) _ (one_asks (Beat id) refl)
    (pick_ask _ (Some (Update id (first == 2))) _ (one_asks (Update id (first == 2)) refl)
    (pick_ask _ (Some (Measure (Some id) second)) _ (one_asks (Measure (Some id) second) refl)
    (pick_ask _ (Some (End id)) None (one_asks (End id) refl) none_asks)))

pub told_asks : (id : ℕ) (inner : List ℕ) → AllAsk (command_told id inner)
told_asks id inner =
    pick_ask (slice_index inner 0 == 1) (Some (Send id (drop 1 inner))) _ (one_asks (Send id (drop 1 inner)) refl)
    (pick_ask (slice_index inner 0 == 5) (request_told id (slice_index inner 2) (slice_index inner 3) (slice_index inner 4)) None (request_asks id (slice_index inner 2) (slice_index inner 3) (slice_index inner 4)) none_asks)

pub number_as : (session n m : ℕ) → n ≡ m → (n < 256 → session ≡ n) → m < 256 → session ≡ m
number_as session n m same is few = is (subst (λ (x : ℕ). x < 256) (sym same) few) ∙ same

-- ---- What the record tells.

module _ (seen : RequesterCore) (q : ReqSetup) (h : History) (sealed : List ℕ) (stands : StandsFor seen q h) (none : outstanding h ≡ None) (short : length sealed ≤ 4160) where
  finds : (c : Command) (next : History) → Tells q h c (record_body sealed) next → IsFound q h sealed
  finds c next t = found seen q h sealed stands none short (to_shown q h c sealed next t)

  -- It does not open.
  pub shut : (out : List ℕ) (new : RequesterCore) → OpensAs q.psk (session_named h sealed) sealed false out → IsSentByCommand q h (record_body sealed) false new
  shut out new shuts = λ c next t. false≢true (sym shuts ∙ (finds c next t).opens)

  -- It opens, and this is told of it.
  module _ (out : List ℕ) (opens : OpensAs q.psk (session_named h sealed) sealed true out) (named : Option ℕ) (is_named : named ≡ id_named h sealed) (session : ℕ) (as_number : unwrap_or named 0 < 256 → session ≡ unwrap_or named 0) where
    its_session : (f : IsFound q h sealed) → session ≡ f.id
    its_session f =
        let is : unwrap_or named 0 ≡ f.id = ap (λ (o : Option ℕ). unwrap_or o 0) (is_named ∙ f.named) in
        let few = f.few in
        as_number (omega (arith, is, few)) ∙ is

    its_command : (f : IsFound q h sealed) → command_told session out ≡ Some f.command
    its_command f = ap (λ (n : ℕ). command_told n out) (its_session f) ∙ ap (command_told f.id) opens.1 ∙ f.told

    pub untold : (new : RequesterCore) → TellsCommand None (command_told session out) → IsSentByCommand q h (record_body sealed) false new
    untold new tells = λ c next t. let f = finds c next t in none-some f.command (sym tells ∙ its_command f)

    pub told : (command : declared.Command) (b : Bool) (new : RequesterCore) → IsSetUp q → TellsCommand (Some command) (command_told session out) → IsSentBy q h (command_of command) (record_body sealed) b new → IsSentByCommand q h (record_body sealed) b new
    told command true new set_up tells sent = (command_of command, sent.0, sent.1, sent.2)
    told command false new set_up tells sent = λ c next t.
        let f = finds c next t in
        let same : f.command ≡ command_of command = same_Some f.command (command_of command) (sym (its_command f) ∙ tells) in
        let again = from_shown q h f.command f.id f.shown.0 f.shown.1 sealed set_up f.shown.2 f.shown.3 f.shown.4 f.shown.5 in
        sent again.0 (subst (λ (x : Command). Tells q h x (record_body sealed) again.0) same again.1)

    pub asks_it : (command : declared.Command) → TellsCommand (Some command) (command_told session out) → asks_session (command_of command) ≡ true
    asks_it command tells = told_asks session out (command_of command) tells
