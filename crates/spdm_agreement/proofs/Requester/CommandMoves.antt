-- What a requester does with a command is a run of moves, and keeps what its history keeps.
use Rattle.std.proofs.Common.{◌≡◌, ◌≤◌, ◌<◌, ◌+◌, ℕ, List, [], ◌∷◌, ◌++◌, length, Bool, true, false, cond, Option, Some, None, is_some, ◌==◌, ◌||◌, refl, sym, ap, ◌∙◌, subst, eqb-true, eq-eqb, true≢false, arith, bytes_eq}
use Rattle.requester_machine.specs.Asking.{Outcome}
use Rattle.requester_machine.specs.Asking.Outcome.{Fails, Ignores, Warns, Resends, Adds}
use Rattle.requester_machine.specs.Commands.{Free, exchange_for}
use Rattle.requester_machine.specs.Commands as commands
use Rattle.requester_machine.specs.Does.{IsMade, command_chosen, requester_asks, chosen}
use Rattle.requester_machine.specs.History.{History, outstanding, negotiation_of, connection_terms, draws_of, takes_draw, phase_of}
use Rattle.requester_machine.specs.History.Entry.{Told, TookClear, TookRecord}
use Rattle.requester_machine.specs.Message.{Command, Ask, Content, Sent, asked_in}
use Rattle.requester_machine.specs.Message.Ask.{AskFinish}
use Rattle.requester_machine.specs.Message.Content.{Clear, Sealed}
use Rattle.requester_machine.specs.Message.Command.{Connect, Open, Send, Beat, Update, Measure, End, Retry}
use Rattle.requester_machine.specs.Order.{waits_for, FitsWaits, Waits}
use Rattle.requester_machine.specs.Order.Waits.{Rests}
use Rattle.requester_machine.specs.RequesterLog.{acts_of, record_made, steps_at}
use Rattle.requester_machine.specs.Session.{Steps, session_of, is_live, t2_of, when_live, with_aim, begun, after_command}
use Rattle.requester_machine.specs.Session.Step.{Started, Asked}
use Rattle.requester_machine.specs.Shown.{after}
use Rattle.requester_machine.proofs.Choosing.{free_id-in_range, context-length}
use Rattle.requester_machine.proofs.MadeOrder.{in_order}
use Rattle.secured_record.specs.Format.{plain_text}
use Rattle.spdm_basis.specs.Sizes.{hash_size}
use Rattle.spdm_basis.specs.declared.values.hash_alg.HashAlg.{HashAlg}
use Rattle.spdm_basis.specs.declared.values.hash_alg.HashAlg.TheVariants.{Sha256, Sha384}
use Rattle.spdm_grammar.specs.Fields.{is_summary}
use Rattle.spdm_grammar.specs.Message.{RequestMessage, ExchangeMessage}
use Rattle.spdm_grammar.specs.Message.RequestMessage.{PskExchange}
use Rattle.spdm_grammar.specs.Requests.{canonical_request, request_in}
use Rattle.spdm_grammar.specs.declared.told.event.ReqIgnored.{ReqIgnored}
use Rattle.spdm_machine.specs.Keys.{Draw, context_of}
use Rattle.spdm_machine.specs.Sessions.{is_past_handshake}
use Rattle.requester_machine.specs.Setup.{ReqSetup}
use Rattle.spdm_machine.specs.TagLog.{Act, Log}
use Rattle.spdm_machine.specs.Terms.{hash_len}
use Rattle.spdm_agreement.specs.Claims.{IsReached}
use Rattle.spdm_agreement.specs.Configured.{IsRequester}
use Rattle.spdm_agreement.specs.Marks as marks
use Rattle.spdm_agreement.specs.Marks.{Served, Text, next_asked, waiting}
use Rattle.spdm_agreement.specs.Moves.Move.{Start}
use Rattle.spdm_agreement.specs.Story.{Past, asked_from, command_marks, content_marks, exchange_id}
use Rattle.spdm_agreement.proofs.Requester.ExchangeMoves.{exchange_read}
use Rattle.spdm_agreement.proofs.Requester.Comparisons.{check_leads, ignored_is_check, stays}
use Rattle.spdm_agreement.proofs.Requester.ClearLeads.{IsClear}
use Rattle.spdm_agreement.proofs.Requester.Entries.{CommandShape, IsAsked, IsBegun, IsClearAsk, told_shape, told_draw, no_clear_told, no_record_told}
use Rattle.spdm_agreement.proofs.Requester.Counts.{HeldAt, HeldWell, held_asked, held_past, held_past_sealed}
use Rattle.spdm_agreement.proofs.Requester.HistoryInvariant.{AskedKept, IsStarted, AimKept, ClearKept, waiting_in, waiting_text, is_held, clear_kept, other_kept, record_kept, none_in, held_open, apart}
use Rattle.spdm_agreement.proofs.Requester.Waiting.{stays_clear, is_finish, open_no_finish}
use Rattle.spdm_agreement.proofs.Requester.SealAndHear.{at, says}
use Rattle.spdm_agreement.proofs.Worlds.EndSteps.{OwnLeads, IsDraw, AskedStep, AskedReady, AsksWell}
use Rattle.spdm_agreement.proofs.Messages.Beginnings.{reading_of, is_negotiated}
use Rattle.transcript.specs.Transcripts as transcript
use Rattle.spdm_basis.proofs.Bools.{and_second}

-- Once a negotiation is complete, its messages are what they should be.
abbrev pub Negotiates : Type 0
Negotiates = (q : ReqSetup) (h : History) → IsRequester q → IsMade q h → commands.is_negotiated (phase_of h) ≡ true → is_negotiated (negotiation_of h) ≡ true

-- ---- Messages in the clear.

clear_marks_none : (s : Steps) (c : Content) → IsClear c → content_marks s c ≡ []
clear_marks_none s (Clear m) k = refl
clear_marks_none s (Sealed x inner pad) k = absurd k

clear_made_none : (psk : List ℕ) (s : Steps) (c : Content) → IsClear c → record_made psk s c ≡ []
clear_made_none psk s (Clear m) k = refl
clear_made_none psk s (Sealed x inner pad) k = absurd k

pub clear_leads : (psk : List ℕ) (s t : Steps) (m : List marks.Asked) (served : List Served) (log : Log) (c : Content) → IsClear c → OwnLeads (reading_of psk) (at m served log) (at (content_marks s c ++ m) served (record_made psk t c ++ log))
clear_leads psk s t m served log c k =
    subst (λ (l : List marks.Asked). OwnLeads (reading_of psk) (at m served log) (at (l ++ m) served (record_made psk t c ++ log))) (sym (clear_marks_none s c k))
    (subst (λ (l : List Act). OwnLeads (reading_of psk) (at m served log) (at m served (l ++ log))) (sym (clear_made_none psk t c k)) (stays (reading_of psk) (at m served log)))

-- ---- While nothing waits.

nothing_waits : (id : ℕ) (o : Option Sent) → is_some o ≡ false → (waits_for id o ≡ Rests) × (waiting_text id o ≡ None)
nothing_waits id None e = (refl, refl)
nothing_waits id (Some x) e = absurd (true≢false e)

rest_open : (w : Waits) (s : Steps) → w ≡ Rests → is_live s ≡ true → FitsWaits w s → is_held s ≡ true
rest_open w [] e l fits = absurd (true≢false (sym l))
rest_open w (x ∷ s) e l fits = ap is_past_handshake (subst (λ (y : Waits). FitsWaits y (x ∷ s)) e fits).0

-- A session that is asked something is held.
asked_held : (q : ReqSetup) (h : History) (f : Free) (x : Sent) (a : IsAsked q h f x) → IsMade q h → is_held (session_of a.id h) ≡ true
asked_held q h f x a made = rest_open (waits_for a.id (outstanding h)) (session_of a.id h) (nothing_waits a.id (outstanding h) a.free).0 a.live (in_order q h a.id made).fits

rests : (prior : Past) → (q : ReqSetup) (h : History) (id : ℕ) → is_some (outstanding h) ≡ false → AskedKept prior q h → is_held (session_of id h) ≡ true → HeldWell q.psk (session_of id h) (asked_from prior q h) None
rests prior q h id free kept held = subst (λ (w : Option Text). HeldWell q.psk (session_of id h) (asked_from prior q h) w) (nothing_waits id (outstanding h) free).1 (kept.held id held)

-- ---- What is asked of a session.

asked_leads : (prior : Past) → (q : ReqSetup) (h : History) (f : Free) (x : Sent) (served : List Served) (log : Log) → IsAsked q h f x → IsMade q h → AskedKept prior q h
    → OwnLeads (reading_of q.psk) (at (asked_from prior q h) served log) (at (content_marks (steps_at h x.aim) x.content ++ asked_from prior q h) served (record_made q.psk (steps_at h x.aim) x.content ++ log))
asked_leads prior q h f x served log a made kept =
    let held = asked_held q h f x a made in
    subst (λ (y : Sent). OwnLeads (reading_of q.psk) (at (asked_from prior q h) served log) (at (content_marks (steps_at h y.aim) y.content ++ asked_from prior q h) served (record_made q.psk (steps_at h y.aim) y.content ++ log))) (sym a.is)
    (says q.psk (session_of a.id h) a.id (asked_from prior q h) served log a.inner f.pad (and_second _ _ held) (held_open prior q h a.id made held) (rests prior q h a.id a.free kept held))

same_asked : (ask : Ask) (inner sealed : List ℕ) (s : Steps) → is_finish ask ≡ false → t2_of s ≡ t2_of (Asked ask inner sealed ∷ s)
same_asked AskFinish inner sealed s n = absurd (cc)
same_asked _ inner sealed s n = refl

-- The session itself.
pub own_asked : (psk : List ℕ) (ask : Ask) (inner sealed b : List ℕ) (s : Steps) (m : List marks.Asked) → is_finish ask ≡ false → is_live s ≡ true → HeldWell psk s m None
    → HeldWell psk (when_live s (Asked ask inner sealed)) (marks.Asked.Sealed (t2_of s) b ∷ m) (Some b)
own_asked psk ask inner sealed b [] m n l k = absurd (true≢false (sym l))
own_asked psk ask inner sealed b (y ∷ s) m n l k =
    subst (λ (u : List ℕ). HeldAt psk u (Asked ask inner sealed ∷ y ∷ s) (marks.Asked.Sealed (t2_of (y ∷ s)) b ∷ m) (Some b)) (same_asked ask inner sealed (y ∷ s) n)
    (held_asked psk (t2_of (y ∷ s)) (y ∷ s) m ask b sealed inner k)

-- Any session, of which s was asked something.
any_asked : (psk : List ℕ) (ask : Ask) (inner sealed b : List ℕ) (s other : Steps) (m : List marks.Asked) (c : Bool) → is_finish ask ≡ false → (c ≡ true → s ≡ other) → is_live s ≡ true
    → HeldWell psk s m None → (is_held other ≡ true → HeldWell psk other m None) → (c ≡ false → is_held other ≡ true → bytes_eq (t2_of s) (t2_of other) ≡ false)
    → is_held (cond c (when_live other (Asked ask inner sealed)) other) ≡ true
    → HeldWell psk (cond c (when_live other (Asked ask inner sealed)) other) (marks.Asked.Sealed (t2_of s) b ∷ m) (cond c (Some b) None)
any_asked psk ask inner sealed b s other m true n same l k all differs held =
    subst (λ (x : Steps). HeldWell psk (when_live x (Asked ask inner sealed)) (marks.Asked.Sealed (t2_of s) b ∷ m) (Some b)) (same refl) (own_asked psk ask inner sealed b s m n l k)
any_asked psk ask inner sealed b s other m false n same l k all differs held =
    held_past_sealed psk (t2_of s) (t2_of other) other m b None (differs refl held) (all held)

-- What a record that was asked changes.
abbrev AskedHeld : (prior : Past) → ReqSetup → History → Sent → ℕ → Type 0
AskedHeld prior q h y id =
    is_held (with_aim id y.aim y.content (session_of id h)) ≡ true
    → HeldWell q.psk (with_aim id y.aim y.content (session_of id h)) (content_marks (steps_at h y.aim) y.content ++ asked_from prior q h) (waiting_in id y.aim y.content)

asked_all : (prior : Past) → (q : ReqSetup) (h : History) (f : Free) (x : Sent) (served : List Served) (log : Log) (id : ℕ) → IsAsked q h f x → IsMade q h → AskedKept prior q h → IsReached (reading_of q.psk) (at (asked_from prior q h) served log) → AskedHeld prior q h x id
asked_all prior q h f x served log id a made kept reached =
    let own = asked_held q h f x a made in
    subst (λ (y : Sent). AskedHeld prior q h y id) (sym a.is)
    (any_asked q.psk a.ask a.inner _ (plain_text a.inner f.pad) (session_of a.id h) (session_of id h) (asked_from prior q h) (a.id == id) (open_no_finish a.ask a.stage)
    (λ e. ap (λ (n : ℕ). session_of n h) (eqb-true a.id id e)) a.live (rests prior q h a.id a.free kept own) (λ held. rests prior q h id a.free kept held)
    (λ e held. apart prior q h served log a.id id made reached e own held))

asked_waits : (prior : Past) → (q : ReqSetup) (h h' : History) (f : Free) (x : Sent) → IsAsked q h f x → AimKept prior q h' x.content x.aim
asked_waits prior q h h' f x a = subst (λ (y : Sent). AimKept prior q h' y.content y.aim) (sym a.is) (record_kept prior q h' a.id (plain_text a.inner f.pad) a.ask (open_no_finish a.ask a.stage) a.tells)

-- ---- Of a message in the clear.

clear_all : (prior : Past) → (q : ReqSetup) (h : History) (x : Sent) (id : ℕ) → IsClearAsk x → is_some (outstanding h) ≡ false → AskedKept prior q h → AskedHeld prior q h x id
clear_all prior q h x id a free kept held =
    let same = stays_clear id x.aim x.content (session_of id h) a.aim in
    subst (λ (w : Option Text). HeldWell q.psk (with_aim id x.aim x.content (session_of id h)) (content_marks (steps_at h x.aim) x.content ++ asked_from prior q h) w) (sym (none_in id x.aim x.content a.aim))
    (subst (λ (l : List marks.Asked). HeldWell q.psk (with_aim id x.aim x.content (session_of id h)) (l ++ asked_from prior q h) None) (sym (clear_marks_none (steps_at h x.aim) x.content a.content))
    (subst (λ (s : Steps). HeldWell q.psk s (asked_from prior q h) None) (sym same)
    (rests prior q h id free kept (subst (λ (s : Steps). is_held s ≡ true) same held))))

-- ---- Open.

begun_all : (psk : List ℕ) (n : transcript.Negotiation) (bytes : List ℕ) (s : Steps) (m : List marks.Asked) (id draw : ℕ) (c : Bool) → (is_held s ≡ true → HeldWell psk s m None)
    → is_held (cond c (Started n bytes ∷ []) s) ≡ true → HeldWell psk (cond c (Started n bytes ∷ []) s) (marks.Asked.Started id draw ∷ m) None
begun_all psk n bytes s m id draw true k held = absurd (true≢false (sym held))
begun_all psk n bytes s m id draw false k held = held_past psk [] (t2_of s) s m (marks.Asked.Started id draw ∷ m) None refl refl (k held)

abbrev BegunHeld : (prior : Past) → ReqSetup → History → Option RequestMessage → ℕ → ℕ → Type 0
BegunHeld prior q h o draw id =
    is_held (begun id (negotiation_of h) o (session_of id h)) ≡ true
    → HeldWell q.psk (begun id (negotiation_of h) o (session_of id h)) (marks.Asked.Started (exchange_id o) draw ∷ asked_from prior q h) None

opened_all : (prior : Past) → (q : ReqSetup) (h : History) (f : Free) (summary : ℕ) (x : Sent) (draw id : ℕ) → IsBegun q h f summary x → AskedKept prior q h → BegunHeld prior q h (asked_in x.aim) draw id
opened_all prior q h f summary x draw id b kept =
    subst (λ (o : Option RequestMessage). BegunHeld prior q h o draw id) (sym b.asks)
    (begun_all q.psk (negotiation_of h) (canonical_request (exchange_for q f summary)) (session_of id h) (asked_from prior q h) f.id draw (f.id == id) (λ held. rests prior q h id b.free kept held))

begun_own : (n : transcript.Negotiation) (bytes : List ℕ) (id : ℕ) (s : Steps) → cond (id == id) (Started n bytes ∷ []) s ≡ Started n bytes ∷ []
begun_own n bytes id s = ap (λ (c : Bool). cond c (Started n bytes ∷ []) s) (eq-eqb id id refl)

few_summary : (n : ℕ) → is_summary n ≡ true → n < 256
few_summary n e = by_tests (n == 0) (n == 1) refl refl
  where
    by_tests : (a b : Bool) → (n == 0) ≡ a → (n == 1) ≡ b → n < 256
    by_tests true b x y = (let k = eqb-true n 0 x in omega arith)
    by_tests false true x y = (let k = eqb-true n 1 y in omega arith)
    by_tests false false x y = (let k : n ≡ 255 = eqb-true n 255 (sym (ap (λ (c : Bool). c || (n == 1) || (n == 255)) x ∙ ap (λ (c : Bool). c || (n == 255)) y) ∙ e) in omega arith)

abbrev pub exchange_of_command : ReqSetup → History → Draw → ℕ → ExchangeMessage
exchange_of_command q h d summary = record { summary = summary; req_id = (command_chosen q h d).id; hint = q.hint; context = (command_chosen q h d).context; opaque = (command_chosen q h d).opaque }

pub context_chosen : (q : ReqSetup) (h : History) (d : Draw) → (command_chosen q h d).context ≡ context_of (connection_terms h).choice.hash d
unfolding chosen
context_chosen q h d = refl

size_small : (hash : HashAlg) → hash_size hash ≤ 48
size_small Sha256 = omega arith
size_small Sha384 = omega arith

id_chosen : (q : ReqSetup) (h : History) (d : Draw) → (command_chosen q h d).id ≤ 4
unfolding chosen
id_chosen q h d = (free_id-in_range h).1

opaque_chosen : (q : ReqSetup) (h : History) (d : Draw) → (command_chosen q h d).opaque ≡ q.opaque
unfolding chosen
opaque_chosen q h d = refl

pub command_read : (q : ReqSetup) (h : History) (d : Draw) (summary : ℕ) → IsRequester q → length d.bytes ≡ 32 → is_summary summary ≡ true
    → request_in (hash_len (connection_terms h)) (canonical_request (PskExchange (exchange_of_command q h d summary))) ≡ Some (PskExchange (exchange_of_command q h d summary))
command_read q h d summary setup bytes kind =
    let most : (command_chosen q h d).id ≤ 4 = id_chosen q h d in
    let hint : length q.hint ≤ 64 = setup.key.hint_most in
    let size : length (command_chosen q h d).context ≡ hash_size (connection_terms h).choice.hash = ap (λ (l : List ℕ). length l) (context_chosen q h d) ∙ context-length (connection_terms h).choice.hash d bytes in
    let small : hash_size (connection_terms h).choice.hash ≤ 48 = size_small (connection_terms h).choice.hash in
    let opaque : length (command_chosen q h d).opaque ≤ 1024 = subst (λ (l : List ℕ). length l ≤ 1024) (sym (opaque_chosen q h d)) setup.opaque in
    exchange_read (hash_len (connection_terms h)) (PskExchange (exchange_of_command q h d summary)) (few_summary summary kind, omega arith) (record {
      summary = kind;
      hint = omega arith;
      context_long = omega arith;
      context = omega arith;
      opaque = opaque;
    })

-- PSK_EXCHANGE waits, as its history says.
started : (prior : Past) → (q : ReqSetup) (h : History) (d : Draw) (summary : ℕ) (x : Sent) → IsBegun q h (command_chosen q h d) summary x → IsRequester q → IsDraw d → is_negotiated (negotiation_of h) ≡ true
    → IsStarted prior q (Told (Open summary) x d ∷ h) (exchange_of_command q h d summary)
unfolding session_of
started prior q h d summary x b setup draw ready =
    let id = (command_chosen q h d).id in
    record {
      draw = d;
      number = draw.number;
      bytes = draw.bytes;
      waits = ap (λ (o : Option RequestMessage). Some (exchange_id o, d.number)) b.asks;
      context = context_chosen q h d;
      session = ap (λ (o : Option RequestMessage). begun id (negotiation_of h) o (session_of id h)) b.asks ∙ begun_own (negotiation_of h) (canonical_request (PskExchange (exchange_of_command q h d summary))) id (session_of id h);
      negotiated = ready;
      read = command_read q h d summary setup draw.bytes b.kind;
    }

-- ---- All commands.

module _ (prior : Past) (q : ReqSetup) (h : History) (served : List Served) (log : Log) (d : Draw) (ready : AskedReady prior (AskedKept prior) q h served log d) where
  pub idle : (body : List ℕ) (o : Outcome) → after h o ≡ h → OwnLeads (reading_of q.psk) (at (asked_from prior q h) served log) (at (asked_from prior q h) served (acts_of q h body o ++ log)) → AskedStep prior (AskedKept prior) q h served log body d o
  idle body o same leads = record {
    leads = subst (λ (x : History). OwnLeads (reading_of q.psk) (at (asked_from prior q h) served log) (at (asked_from prior q x) served (acts_of q h body o ++ log))) (sym same) leads;
    keeps = λ reached. subst (AskedKept prior q) (sym same) ready.kept;
    draws = subst (λ (x : History). next_asked (asked_from prior q x) + draws_of q h ≤ d.number + draws_of q x) (sym same) (let f = ready.fresh in omega arith);
  }

  pub ignored_step : (body : List ℕ) (cause : ReqIgnored) → AskedStep prior (AskedKept prior) q h served log body d (Ignores cause)
  ignored_step body cause = idle body (Ignores cause) refl (check_leads (reading_of q.psk) (asked_from prior q h) served _ log (ignored_is_check q h body cause))

module _ (prior : Past) (negotiates : Negotiates) (q : ReqSetup) (h : History) (served : List Served) (log : Log) (d : Draw) (ready : AskedReady prior (AskedKept prior) q h served log d) where
  told_leads : (c : Command) (x : Sent) → CommandShape q h (command_chosen q h d) c x → OwnLeads (reading_of q.psk) (at (asked_from prior q h) served log) (at (command_marks h c x d ++ asked_from prior q h) served (record_made q.psk (steps_at h x.aim) x.content ++ log))
  told_leads Connect x k = clear_leads q.psk (steps_at h x.aim) (steps_at h x.aim) (asked_from prior q h) served log x.content k.content
  told_leads (Open summary) x k = (
    Start (exchange_id (asked_in x.aim)) d.number ∷ [],
    (tt, tt),
    (ready.fresh, ap (λ (l : List Act). at (marks.Asked.Started (exchange_id (asked_in x.aim)) d.number ∷ asked_from prior q h) served (l ++ log)) (sym (clear_made_none q.psk (steps_at h x.aim) x.content k.content))),
  )
  told_leads (Send of bytes) x k = asked_leads prior q h (command_chosen q h d) x served log k ready.made ready.kept
  told_leads (Beat of) x k = asked_leads prior q h (command_chosen q h d) x served log k ready.made ready.kept
  told_leads (Update of all) x k = asked_leads prior q h (command_chosen q h d) x served log k ready.made ready.kept
  told_leads (Measure None op) x k = clear_leads q.psk (steps_at h x.aim) (steps_at h x.aim) (asked_from prior q h) served log x.content k.0.content
  told_leads (Measure (Some of) op) x k = asked_leads prior q h (command_chosen q h d) x served log k ready.made ready.kept
  told_leads (End of) x k = asked_leads prior q h (command_chosen q h d) x served log k ready.made ready.kept
  told_leads Retry x k = absurd k

  told_held : (c : Command) (x : Sent) (id : ℕ) → CommandShape q h (command_chosen q h d) c x → is_held (after_command id (negotiation_of h) c x (session_of id h)) ≡ true
      → HeldWell q.psk (after_command id (negotiation_of h) c x (session_of id h)) (command_marks h c x d ++ asked_from prior q h) (waiting_in id x.aim x.content)
  told_held Connect x id k held = absurd (true≢false (sym held))
  told_held (Open summary) x id k held =
      subst (λ (w : Option Text). HeldWell q.psk (begun id (negotiation_of h) (asked_in x.aim) (session_of id h)) (marks.Asked.Started (exchange_id (asked_in x.aim)) d.number ∷ asked_from prior q h) w) (sym (none_in id x.aim x.content k.aim))
      (opened_all prior q h (command_chosen q h d) summary x d.number id k ready.kept held)
  told_held (Send of bytes) x id k held = asked_all prior q h (command_chosen q h d) x served log id k ready.made ready.kept ready.reached held
  told_held (Beat of) x id k held = asked_all prior q h (command_chosen q h d) x served log id k ready.made ready.kept ready.reached held
  told_held (Update of all) x id k held = asked_all prior q h (command_chosen q h d) x served log id k ready.made ready.kept ready.reached held
  told_held (Measure None op) x id k held = clear_all prior q h x id k.0 k.1 ready.kept held
  told_held (Measure (Some of) op) x id k held = asked_all prior q h (command_chosen q h d) x served log id k ready.made ready.kept ready.reached held
  told_held (End of) x id k held = asked_all prior q h (command_chosen q h d) x served log id k ready.made ready.kept ready.reached held
  told_held Retry x id k held = absurd k

  told_waits : (c : Command) (x : Sent) → CommandShape q h (command_chosen q h d) c x → AimKept prior q (Told c x d ∷ h) x.content x.aim
  told_waits Connect x k = clear_kept prior q (Told Connect x d ∷ h) x.content x.aim k.aim (other_kept prior q (Told Connect x d ∷ h) (asked_in x.aim) k.other)
  told_waits (Open summary) x k =
      clear_kept prior q (Told (Open summary) x d ∷ h) x.content x.aim k.aim
      (subst (λ (o : Option RequestMessage). ClearKept prior q (Told (Open summary) x d ∷ h) o) (sym k.asks) (started prior q h d summary x k ready.setup ready.draw (negotiates q h ready.setup ready.made k.negotiated)))
  told_waits (Send of bytes) x k = asked_waits prior q h (Told (Send of bytes) x d ∷ h) (command_chosen q h d) x k
  told_waits (Beat of) x k = asked_waits prior q h (Told (Beat of) x d ∷ h) (command_chosen q h d) x k
  told_waits (Update of all) x k = asked_waits prior q h (Told (Update of all) x d ∷ h) (command_chosen q h d) x k
  told_waits (Measure None op) x k = clear_kept prior q (Told (Measure None op) x d ∷ h) x.content x.aim k.0.aim (other_kept prior q (Told (Measure None op) x d ∷ h) (asked_in x.aim) k.0.other)
  told_waits (Measure (Some of) op) x k = asked_waits prior q h (Told (Measure (Some of) op) x d ∷ h) (command_chosen q h d) x k
  told_waits (End of) x k = asked_waits prior q h (Told (End of) x d ∷ h) (command_chosen q h d) x k
  told_waits Retry x k = absurd k

  told_kept : (c : Command) (x : Sent) → CommandShape q h (command_chosen q h d) c x → AskedKept prior q (Told c x d ∷ h)
  unfolding session_of
  told_kept c x k = record { held = λ id held. told_held c x id k held; waiting = told_waits c x k }

  grows : (b : Bool) (n a e : ℕ) → a ≤ e → a + n ≤ e + cond b (n + 1) n
  grows true n a e l = omega arith
  grows false n a e l = omega arith

  content_next : (s : Steps) (c : Content) (m : List marks.Asked) → next_asked (content_marks s c ++ m) ≡ next_asked m
  content_next s (Clear message) m = refl
  content_next s (Sealed x inner pad) m = refl

  content_draws : (s : Steps) (c : Content) (b : Bool) → next_asked (content_marks s c ++ asked_from prior q h) + draws_of q h ≤ d.number + cond b (draws_of q h + 1) (draws_of q h)
  content_draws s c b = grows b (draws_of q h) _ d.number (let e = content_next s c (asked_from prior q h) in let f = ready.fresh in omega arith)

  told_draws : (c : Command) (x : Sent) → CommandShape q h (command_chosen q h d) c x → next_asked (command_marks h c x d ++ asked_from prior q h) + draws_of q h ≤ d.number + cond (takes_draw q c) (draws_of q h + 1) (draws_of q h)
  told_draws Connect x k = content_draws (steps_at h x.aim) x.content (takes_draw q Connect)
  told_draws (Open summary) x k = omega arith
  told_draws (Send of bytes) x k = content_draws (steps_at h x.aim) x.content (takes_draw q (Send of bytes))
  told_draws (Beat of) x k = content_draws (steps_at h x.aim) x.content (takes_draw q (Beat of))
  told_draws (Update of all) x k = content_draws (steps_at h x.aim) x.content (takes_draw q (Update of all))
  told_draws (Measure None op) x k = content_draws (steps_at h x.aim) x.content (takes_draw q (Measure None op))
  told_draws (Measure (Some of) op) x k = content_draws (steps_at h x.aim) x.content (takes_draw q (Measure (Some of) op))
  told_draws (End of) x k = content_draws (steps_at h x.aim) x.content (takes_draw q (End of))
  told_draws Retry x k = absurd k

  told_step : (c : Command) (x : Sent) → CommandShape q h (command_chosen q h d) c x → AskedStep prior (AskedKept prior) q h served log [] d (Adds (Told c x d))
  told_step c x k = record { leads = told_leads c x k; keeps = λ reached. told_kept c x k; draws = told_draws c x k }

  asks_by : (c : Command) (o : Outcome) → requester_asks false q h c d ≡ o → AskedStep prior (AskedKept prior) q h served log [] d o
  asks_by c (Fails fault) is = idle prior q h served log d ready [] (Fails fault) refl (stays (reading_of q.psk) _)
  asks_by c (Ignores cause) is = ignored_step prior q h served log d ready [] cause
  asks_by c (Warns code) is = idle prior q h served log d ready [] (Warns code) refl (stays (reading_of q.psk) _)
  asks_by c (Resends sent) is = idle prior q h served log d ready [] (Resends sent) refl (stays (reading_of q.psk) _)
  asks_by c (Adds (Told command x d')) is =
      subst (λ (e : Draw). AskedStep prior (AskedKept prior) q h served log [] d (Adds (Told command x e))) (told_draw false q h c command (command_chosen q h d) d d' x is)
      (told_step command x (told_shape false q h c command (command_chosen q h d) d d' x is))
  asks_by c (Adds (TookClear tag m led d')) is = absurd (no_clear_told false q h c (command_chosen q h d) d d' tag m led is)
  asks_by c (Adds (TookRecord tag id sealed inner led d')) is = absurd (no_record_told false q h c (command_chosen q h d) d d' tag id sealed inner led is)

  pub asks_step : (c : Command) → AskedStep prior (AskedKept prior) q h served log [] d (requester_asks false q h c d)
  asks_step c = asks_by c (requester_asks false q h c d) refl

-- Whatever command comes.
pub asks_well : (prior : Past) → Negotiates → AsksWell prior (AskedKept prior)
asks_well prior negotiates q h served log c d ready = asks_step prior negotiates q h served log d ready c
