-- What a command leaves of what is kept.
use Rattle.std.proofs.Common.{refl, ◌≡◌, ◌∙◌, ◌≤◌, ◌+◌, ◌%◌, ℕ, List, [], ◌∷◌, true, false, Bool, Option, Some, None, ap, sym, subst, length, arith}
use Rattle.std.specs.Prelude.{if◌then◌else◌, is_some}
use Rattle.std.proofs.lemmas.Bool.{false≢true, not-false}
use Rattle.std.proofs.lemmas.List.{length-append}
use Rattle.negotiate.specs.declared.shared.Common.{Common}
use Rattle.requester_machine.proofs.Entries.{request_sent-asks, test_is_false}
use Rattle.requester_machine.specs.Holds.{Holds}
use Rattle.requester_machine.proofs.HoldsTold.{connected, told_holds}
use Rattle.requester_machine.specs.Asking.{asks, asks_by, done}
use Rattle.requester_machine.specs.Asking.Outcome.{Adds, Fails}
use Rattle.requester_machine.specs.Commands.{Free, command_fault, exchange_for, needs_connection}
use Rattle.requester_machine.specs.History.{History, begins_large, connection_terms, is_connect, larges_of, negotiation_of, next_tag, phase_of, sent_count}
use Rattle.requester_machine.specs.History.Entry.{Told}
use Rattle.requester_machine.specs.May.{IsAllowed}
use Rattle.requester_machine.specs.Message.{Command, Sent, asked_in}
use Rattle.requester_machine.specs.Message.Command.{Connect, Open}
use Rattle.requester_machine.specs.Message.Content.{Clear}
use Rattle.requester_machine.specs.Sending.{plain_sent, request_sent}
use Rattle.requester_machine.specs.Session.{session_of}
use Rattle.requester_machine.specs.Setup.{ReqSetup}
use Rattle.requester_machine.specs.UnderWay.{HasSizes, IsCommon, is_capable}
use Rattle.spdm_grammar.specs.Fields.{is_summary}
use Rattle.spdm_grammar.specs.Message.{RequestMessage}
use Rattle.spdm_grammar.specs.Message.RequestMessage.{GetVersion, PskExchange}
use Rattle.spdm_grammar.specs.Reading.{field_at, number_at}
use Rattle.spdm_grammar.specs.Requests.{IsSoundExchange, canonical_request}
use Rattle.spdm_grammar.specs.declared.told.command_fault.CommandFault.{CommandFault}
use Rattle.spdm_grammar.specs.declared.names.TheConstants.{MAX_MESSAGE_SIZE, MIN_DATA_TRANSFER_SIZE}
use Rattle.spdm_grammar.specs.declared.told.phase.Phase.TheVariants.{Fresh}
use Rattle.spdm_machine.specs.Keys.{Draw}
use Rattle.spdm_machine.specs.Terms.{Terms, hash_len, no_choice, no_common, no_negotiation, no_terms, terms_of}
use Rattle.transcript.specs.Transcripts.{Negotiation}
use Rattle.requester_core.specs.Commands.{IsDone, IsFailed, request_for}
use Rattle.requester_core.specs.Free.{IsFree}
use Rattle.requester_core.specs.Setup.{IsSetUp}
use Rattle.requester_core.specs.declared.free_values.FreeValues.{FreeValues}
use Rattle.requester_core.specs.declared.setup.Setup.{Setup}
use Rattle.requester_core.specs.Negotiating as negotiating
use Rattle.requester_core.specs.Negotiating.{IsShort, IsUpTo, IsUpToAsked, IsUpToSent}
use Rattle.requester_core.specs.Outgoing as outgoing
use Rattle.requester_core.specs.Outgoing.{IsKept, Sends, handle_after, tag_after}
use Rattle.requester_core.specs.ClearState.{Counts, Seen, Shows, StandsFor}
use Rattle.requester_core.specs.declared.clear.outstanding.PendingRequest.TheVariants as asked_kinds
use Rattle.requester_core.specs.declared.clear.outstanding.Outstanding.TheVariants as waits
use Rattle.requester_core.specs.declared.clear.outstanding.TransferMode.TheVariants as modes
use Rattle.requester_core.proofs.NoGets.{gathers_any, request_no_get}

-- ---- Nothing was said.

nothing_settled : terms_of no_negotiation ≡ no_terms
unfolding terms_of number_at field_at
nothing_settled = refl

nothing_long : IsShort no_negotiation
nothing_long = record { get_version = omega arith; version = omega arith; get_capabilities = omega arith; capabilities = omega arith; negotiate_algorithms = omega arith; algorithms = omega arith }

abbrev pub fresh : negotiating.Seen
fresh = record { phase = Fresh; messages = []; common = no_common; choice = no_choice }

pub fresh_stands : negotiating.StandsFor fresh Fresh no_negotiation
fresh_stands = record {
  phase = refl;
  messages = refl;
  common = ap (λ (t : Terms). t.common) nothing_settled;
  choice = ap (λ (t : Terms). t.choice) nothing_settled;
  short = nothing_long;
}

pub nothing_holds : (q : ReqSetup) → Holds q []
unfolding session_of
nothing_holds q = record { live = λ id live. absurd (false≢true live); known = λ s capable. absurd (false≢true capable); waits = tt }

pub nothing_stands : (q : ReqSetup) → StandsFor (record { negotiating = fresh; outgoing = record { tag = 0; handle = 0; waiting = waits.Nothing; request = [] }; brought = [] }) q []
nothing_stands q = record {
  holds = nothing_holds q;
  shows = record {
    negotiating = fresh_stands;
    outgoing = record { tag = refl; handle = refl; waiting = refl; request = tt };
    up_to = tt;
    brought = refl;
  };
}

-- ---- What was sent.

pub tag_more : (n : ℕ) → tag_after (n % 8) ≡ (n + 1) % 8
tag_more n = omega arith

handle_more : (n : ℕ) → handle_after (n % 256) ≡ (n + 1) % 256
handle_more n = omega arith

handles_by : (b : Bool) (n : ℕ) → (if b then handle_after (n % 256) else n % 256) ≡ (if b then n + 1 else n) % 256
handles_by true n = handle_more n
handles_by false n = refl

-- A message was sent after so many others and so many large requests.
pub sends_shown : (sents larges tag : ℕ) (x : Sent) (request : RequestMessage) (old new : outgoing.Seen) (out : List ℕ) → old.tag ≡ sents % 8 → old.handle ≡ larges % 256 → asked_in x.aim ≡ Some request → old.request ≡ canonical_request request → Sends x old new tag out
    → outgoing.StandsFor new ((sents + 1) % 8) ((if begins_large x.aim then larges + 1 else larges) % 256) (Some x)
sends_shown sents larges tag x request old new out is_tag is_handle asks keeps sends = record {
  tag = sends.tags ∙ ap tag_after is_tag ∙ tag_more sents;
  handle = sends.handles ∙ ap (λ (n : ℕ). if begins_large x.aim then handle_after n else n) is_handle ∙ handles_by (begins_large x.aim) larges;
  waiting = sends.waiting;
  request = subst (λ (o : Option RequestMessage). IsKept o new.request) (sym asks) (sends.request ∙ keeps);
}

up_to_by : (n : Negotiation) (o : Option RequestMessage) (request : RequestMessage) → o ≡ Some request → IsUpTo request n → IsUpToAsked o n
up_to_by n o request is up = subst (λ (a : Option RequestMessage). IsUpToAsked a n) (sym is) up

-- ---- Connect.

pub connect_asks : (q : ReqSetup) (h : History) (f : Free) (d : Draw) → asks false q h Connect f d ≡ Adds (Told Connect (plain_sent h GetVersion) d)
unfolding asks command_fault
connect_asks q h f d = refl

-- Nothing of the history before it counts.
pub connect_holds : (q : ReqSetup) (h : History) (d : Draw) → Holds q (Told Connect (plain_sent h GetVersion) d ∷ h)
unfolding session_of
connect_holds q h d = record { live = λ id live. absurd (false≢true live); known = λ s capable. absurd (false≢true capable); waits = (refl, refl) }

pub connect_done : (q : ReqSetup) (h : History) (f : Free) (d : Draw) (tag : ℕ) (old : Seen) (begun : negotiating.Seen) (kept new : outgoing.Seen) (out : List ℕ) → Counts old h
    → begun ≡ fresh → kept ≡ record old.outgoing { request = canonical_request GetVersion } → tag ≡ kept.tag
    → new ≡ record kept { tag = tag_after kept.tag; waiting = waits.InClear kept.tag asked_kinds.Version modes.Whole } → out ≡ kept.request
    → IsDone q h Connect f d tag (record { negotiating = begun; outgoing = new; brought = old.brought }) out
connect_done q h f d tag old begun kept new out counts begins keeps is sends written =
    let was : kept.tag ≡ next_tag h = ap (λ (s : outgoing.Seen). s.tag) keeps ∙ counts.tag in
    let now : new.tag ≡ tag_after kept.tag = ap (λ (s : outgoing.Seen). s.tag) sends in
    let holds_request : kept.request ≡ canonical_request GetVersion = ap (λ (s : outgoing.Seen). s.request) keeps in
    record {
      sent = plain_sent h GetVersion;
      outcome = connect_asks q h f d;
      tag_is = sym (is ∙ was);
      content = ap Clear (sym (written ∙ holds_request));
      asks = refl;
      stands = record {
        holds = connect_holds q h d;
        shows = record {
          negotiating = subst (λ (s : negotiating.Seen). negotiating.StandsFor s Fresh no_negotiation) (sym begins) fresh_stands;
          outgoing = record {
            tag = now ∙ ap tag_after was ∙ tag_more (sent_count h);
            handle = ap (λ (s : outgoing.Seen). s.handle) sends ∙ ap (λ (s : outgoing.Seen). s.handle) keeps ∙ counts.handle;
            waiting = ap (λ (s : outgoing.Seen). s.waiting) sends ∙ ap (λ (n : ℕ). waits.InClear n asked_kinds.Version modes.Whole) was;
            request = ap (λ (s : outgoing.Seen). s.request) sends ∙ holds_request;
          };
          up_to = refl;
          brought = counts.brought;
        };
      };
      gathers = gathers_any q (plain_sent h GetVersion) refl;
    }

-- What counts of a history that is kept.
pub counted : (old : Seen) (h : History) → Shows old h → Counts old h
counted old h shows = record { tag = shows.outgoing.tag; handle = shows.outgoing.handle; brought = shows.brought }

-- ---- Requests behind the negotiation.

-- A command has a fault, or none.
pub told_fails : (q : ReqSetup) (h : History) (command : Command) (f : Free) (d : Draw) (fault : CommandFault) → command_fault false q h command f ≡ Some fault → asks false q h command f d ≡ Fails fault
unfolding asks
told_fails q h command f d fault is = ap (asks_by q h command f d) is

told_does : (q : ReqSetup) (h : History) (command : Command) (f : Free) (d : Draw) → command_fault false q h command f ≡ None → asks false q h command f d ≡ done q h command f d
unfolding asks
told_does q h command f d is = ap (asks_by q h command f d) is

pub failed : (q : ReqSetup) (h : History) (command : Command) (f : Free) (d : Draw) (fault : CommandFault) (old : Seen) → Some fault ≡ command_fault false q h command f → IsFailed q h command f d fault old old
failed q h command f d fault old is = record { outcome = told_fails q h command f d fault (sym is); same = refl }

-- What is kept of the history with one more command, which sent this.
pub told_shows : (h : History) (command : Command) (x : Sent) (d : Draw) (request : RequestMessage) (old : Seen) (sending new : outgoing.Seen) (tag : ℕ) (out : List ℕ)
    → is_connect command ≡ false → asked_in x.aim ≡ Some request → ((n : Negotiation) → IsUpTo request n) → Shows old h
    → sending.tag ≡ old.outgoing.tag → sending.handle ≡ old.outgoing.handle → sending.request ≡ canonical_request request → Sends x sending new tag out
    → Shows (record old { outgoing = new }) (Told command x d ∷ h)
told_shows h command x d request old sending new tag out other asks up shows tags handles keeps sends = record {
  negotiating = subst (λ (b : Bool). negotiating.StandsFor old.negotiating (if b then Fresh else phase_of h) (if b then no_negotiation else negotiation_of h)) (sym other) shows.negotiating;
  outgoing = sends_shown (sent_count h) (larges_of h) tag x request sending new out (tags ∙ shows.outgoing.tag) (handles ∙ shows.outgoing.handle) asks keeps sends;
  up_to = up_to_by (if is_connect command then no_negotiation else negotiation_of h) (asked_in x.aim) request asks (up (if is_connect command then no_negotiation else negotiation_of h));
  brought = shows.brought;
}

-- A request that goes out by a command.
pub told_done : (q : ReqSetup) (h : History) (command : Command) (f : Free) (d : Draw) (common : Common) (request : RequestMessage) (old : Seen) (sending new : outgoing.Seen) (tag : ℕ) (out : List ℕ)
    → is_connect command ≡ false → request_for q command f ≡ Some request → ((n : Negotiation) → IsUpTo request n) → command_fault false q h command f ≡ None → done q h command f d ≡ Adds (Told command (request_sent common h request) d)
    → StandsFor old q h → sending.tag ≡ old.outgoing.tag → sending.handle ≡ old.outgoing.handle → sending.request ≡ canonical_request request → Sends (request_sent common h request) sending new tag out
    → IsDone q h command f d tag (record old { outgoing = new }) out
told_done q h command f d common request old sending new tag out other is_asked up none does stands tags handles keeps sends = record {
  sent = request_sent common h request;
  outcome = told_does q h command f d none ∙ does;
  tag_is = sends.tag_is;
  content = sends.content;
  asks = request_sent-asks common h request ∙ sym is_asked;
  stands = record {
    holds = told_holds q h command f d (request_sent common h request) none does stands.holds;
    shows = told_shows h command (request_sent common h request) d request old sending new tag out other (request_sent-asks common h request) up stands.shows tags handles keeps sends;
  };
  gathers = gathers_any q (request_sent common h request) (request_no_get common h request);
}

-- The sizes of the responder where there is a connection.
pub record HasRoom (common : Common) : Type 0 where
  pub least : MIN_DATA_TRANSFER_SIZE ≤ common.to_responder.transfer
  pub most : common.to_responder.transfer ≤ MAX_MESSAGE_SIZE

pub common_room : (q : ReqSetup) (common : Common) → IsCommon q common → HasRoom common
common_room q common c = (let a = c.their_ordered in let b = c.their_most in record { least = c.their_least; most = omega (arith, a, b) })

pub has_room : (q : ReqSetup) (h : History) (command : Command) (f : Free) → HasSizes q → command_fault false q h command f ≡ None → needs_connection command ≡ true → Holds q h → HasRoom (connection_terms h).common
has_room q h command f sizes none needs holds = common_room q (connection_terms h).common (holds.known sizes (ap is_capable (connected q h command f none needs)))

-- ---- PSK_EXCHANGE.

-- Its length, by what the program sees.
pub exchange_long : (q : ReqSetup) (f : Free) (summary : ℕ) (setup : Setup) (free : FreeValues) → IsSetUp setup q → IsFree free f → 12 + length q.hint + length f.context + length f.opaque ≤ MAX_MESSAGE_SIZE
    → (12 + length setup.hint.now + length free.context.now + length free.opaque.now ≤ MAX_MESSAGE_SIZE)
    × (length (canonical_request (exchange_for q f summary)) ≡ 12 + length setup.hint.now + length free.context.now + length free.opaque.now)
exchange_long q f summary setup free is_setup is_free short =
    let hint = ap length is_setup.hint in
    let context = ap length is_free.context in
    let opaque = ap length is_free.opaque in
    (omega (arith, hint, context, opaque, short), simp length-append (omega (arith, hint, context, opaque)))

-- It has an encoding.
pub exchange_sound : (q : ReqSetup) (h : History) (f : Free) (summary : ℕ) → IsAllowed q h f → is_summary summary ≡ true → IsSoundExchange (hash_len (connection_terms h)) (record { summary = summary; req_id = f.id; hint = q.hint; context = f.context; opaque = f.opaque })
exchange_sound q h f summary allowed kind = record {
  summary = kind;
  hint = (let short = allowed.exchange in omega (arith, short));
  context_long = allowed.context;
  context = (let short = allowed.exchange in omega (arith, short));
  opaque = allowed.opaque;
}

pub kind_known : (q : ReqSetup) (h : History) (f : Free) (summary : ℕ) → command_fault false q h (Open summary) f ≡ None → is_summary summary ≡ true
kind_known q h f summary none = not-false (is_summary summary) (test_is_false false q h (Open summary) f none 6)

-- The request as the program writes it.
pub exchange_is : (q : ReqSetup) (f : Free) (summary : ℕ) (setup : Setup) (free : FreeValues) → IsSetUp setup q → IsFree free f
    → exchange_for q f summary ≡ PskExchange (record { summary = summary; req_id = free.id; hint = setup.hint.now; context = free.context.now; opaque = free.opaque.now })
exchange_is q f summary setup free is_setup is_free = rw (is_setup.hint, is_free.id, is_free.context, is_free.opaque) refl

-- ---- What may be there.

pub some_if : {A : Type 0} (o : Option A) → is_some o ≡ true → (a : A) × (o ≡ Some a)
some_if None e = absurd (false≢true e)
some_if (Some a) e = (a, refl)
