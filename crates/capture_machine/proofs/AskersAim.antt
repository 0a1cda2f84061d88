-- What the outstanding message of a requester asks for stands in the capture: it is of the type of the last round's
-- request, and where it asks for a large response of a session, a record of that session.
use Rattle.std.proofs.Common.{◌≡◌, ◌==◌, ℕ, List, [], ◌∷◌, refl, sym, ap, ◌∙◌, subst, drop, Bool, true, false, Option, Some, None, cond, inl, inr, eq-eqb}
use Rattle.std.specs.Prelude.{slice_index}
use Rattle.std.proofs.lemmas.Bool.{false≢true}
use Rattle.std.proofs.lemmas.Option.{none-some, same_Some}
use Rattle.spdm_grammar.specs.Message.{RequestMessage}
use Rattle.spdm_grammar.specs.Message.RequestMessage.{GetVersion, GetMeasurements, ChunkGet}
use Rattle.spdm_grammar.specs.Requests.{canonical_request}
use Rattle.spdm_machine.specs.Bodies.{clear_body}
use Rattle.spdm_machine.specs.Keys.{sealed_of}
use Rattle.secured_record.specs.Format.{record_of}
use Rattle.requester_machine.specs.Asking.{asks}
use Rattle.requester_machine.specs.Asking.Outcome.{Adds}
use Rattle.requester_machine.specs.Commands.{Free, exchange_for}
use Rattle.requester_machine.specs.History.{History, outstanding, begins_large}
use Rattle.requester_machine.specs.History.Entry.{Told, TookClear, TookRecord}
use Rattle.requester_machine.specs.Message.{Command, Ask, Aim, Sent, body_of}
use Rattle.requester_machine.specs.Message.Aim.{Plain, ByChunks, ForChunk, InSession}
use Rattle.requester_machine.specs.Message.Ask.{AskMeasure, AskChunk}
use Rattle.requester_machine.specs.Message.Command.{Connect, Open, Send, Beat, Update, Measure, End, Retry}
use Rattle.requester_machine.specs.Records.{sealed_next}
use Rattle.requester_machine.specs.Sending.{plain_sent, record_sent}
use Rattle.requester_machine.specs.Session.{Steps, Step, session_of, id_bytes, when_live, with_sent}
use Rattle.requester_machine.specs.Setup.{ReqSetup}
use Rattle.requester_machine.proofs.Entries.{asked}
use Rattle.responder_machine.specs.Session.{id_in_record}
use Rattle.capture_machine.specs.CapturedRequests.{Sends, Tells, is_later, without_owed}
use Rattle.requester_machine.specs.Owed.{with_next}
use Rattle.capture_machine.specs.LargeRequests.{first_piece}
use Rattle.capture_machine.specs.Rounds.{Dialogue, Round, no_draw}
use Rattle.capture_machine.proofs.AskTells.{sent_by_kind}

-- ---- What a body is.

-- The RspSessionID by which records of a session name it.
abbrev pub named_by : Steps → ℕ
named_by s = id_in_record (id_bytes s)

-- A record of the session that has this ReqSessionID.
pub record IsOf (h : History) (body : List ℕ) (id : ℕ) : Type 0 where
  pub sealed : (slice_index body 0 == 5) ≡ false
  pub named : id_in_record (drop 1 body) ≡ named_by (session_of id h)

-- Where the answer to what is asked of a session may be large, a body is a record of it.
abbrev pub IsWhere : History → List ℕ → ℕ → Ask → Type 0
IsWhere h body id (AskMeasure op) = IsOf h body id
IsWhere h body id (AskChunk op handle number before) = IsOf h body id
IsWhere h body id _ = Unit {0}

-- A body is of the type of what is asked for.
abbrev pub IsAt : History → List ℕ → Aim → Type 0
IsAt h body (Plain asked) = (slice_index body 0 == 5) ≡ true
IsAt h body (ByChunks asked handle number) = (slice_index body 0 == 5) ≡ true
IsAt h body (ForChunk asked handle number before) = (slice_index body 0 == 5) ≡ true
IsAt h body (InSession id ask) = IsWhere h body id ask

-- GET_VERSION and CHUNK_GET in the clear are encoded.
abbrev pub IsSpelled : Aim → List ℕ → Type 0
IsSpelled (Plain GetVersion) body = body ≡ clear_body (canonical_request GetVersion)
IsSpelled (ForChunk asked handle number before) body = body ≡ clear_body (canonical_request (ChunkGet handle number))
IsSpelled _ body = Unit {0}

-- So is the outstanding message, and the last round's request.
pub record IsAsked (h : History) (body : List ℕ) (s : Sent) : Type 0 where
  pub own : IsAt h (body_of s.content) s.aim
  pub here : IsAt h body s.aim
  pub spelled : IsSpelled s.aim (body_of s.content)

abbrev pub Asker : History → List ℕ → Type 0
Asker h body = (s : Sent) → outstanding h ≡ Some s → IsAsked h body s

-- ---- Records.

pub sealed_named : (psk : List ℕ) (s : Steps) (inner pad : List ℕ) → id_in_record (sealed_next psk s inner pad) ≡ named_by s
unfolding sealed_next sealed_of record_of
sealed_named psk s inner pad = refl

pub live_named : (s : Steps) (step : Step) → id_bytes (step ∷ s) ≡ id_bytes s → named_by (when_live s step) ≡ named_by s
live_named [] step same = refl
live_named (x ∷ s) step same = ap id_in_record same

pub same_id : (id : ℕ) (s u : Steps) → cond (id == id) s u ≡ s
same_id id s u = ap (λ (b : Bool). cond b s u) (eq-eqb id id refl)

-- A record that asks something of a session leaves its id.
pub sent_named : (q : ReqSetup) (h : History) (id : ℕ) (s u : Steps) (ask : Ask) (inner pad : List ℕ) → named_by (with_sent id (Some (record_sent q h id s ask inner pad)) u) ≡ named_by u
sent_named q h id s u ask inner pad = ap named_by (same_id id _ u) ∙ live_named u _ refl

-- ---- A command.

spells : (a : RequestMessage) → IsSpelled (Plain a) (clear_body (canonical_request a))
spells GetVersion = refl
spells _ = tt

-- What a message itself is.
pub record IsOwn (h : History) (s : Sent) : Type 0 where
  pub own : IsAt h (body_of s.content) s.aim
  pub spelled : IsSpelled s.aim (body_of s.content)

clear_own : (h g : History) (a : RequestMessage) (s : Sent) → s ≡ plain_sent h a → IsOwn g s
clear_own h g a s is = subst (IsOwn g) (sym is) (record { own = refl; spelled = spells a })

measure_own : (q : ReqSetup) (h : History) (f : Free) (id op : ℕ) (inner : List ℕ) (s : Sent) → s ≡ record_sent q h id (session_of id h) (AskMeasure op) inner f.pad → IsOwn (Told (Measure (Some id) op) s no_draw ∷ h) s
unfolding session_of
measure_own q h f id op inner s is =
    subst (λ (x : Sent). IsOwn (Told (Measure (Some id) op) x no_draw ∷ h) x) (sym is)
    (record {
      own = record { sealed = refl; named = sealed_named q.psk (session_of id h) inner f.pad ∙ sym (sent_named q h id (session_of id h) (session_of id h) (AskMeasure op) inner f.pad) };
      spelled = tt;
    })

told_own : (q : ReqSetup) (h : History) (f : Free) (c : Command) (s : Sent) → asks false q h c f no_draw ≡ Adds (Told c s no_draw) → begins_large s.aim ≡ false → IsOwn (Told c s no_draw ∷ h) s
told_own q h f Connect s e small = clear_own h _ GetVersion s ((sent_by_kind q h f Connect s no_draw (asked false q h Connect f no_draw (Told Connect s no_draw) e).1).0 small)
told_own q h f (Open summary) s e small =
    clear_own h _ (exchange_for q f summary) s ((sent_by_kind q h f (Open summary) s no_draw (asked false q h (Open summary) f no_draw (Told (Open summary) s no_draw) e).1).0 small)
told_own q h f (Measure None op) s e small =
    clear_own h _ (GetMeasurements op) s ((sent_by_kind q h f (Measure None op) s no_draw (asked false q h (Measure None op) f no_draw (Told (Measure None op) s no_draw) e).1).0 small)
told_own q h f (Measure (Some id) op) s e small =
    measure_own q h f id op _ s (sent_by_kind q h f (Measure (Some id) op) s no_draw (asked false q h (Measure (Some id) op) f no_draw (Told (Measure (Some id) op) s no_draw) e).1)
told_own q h f (Send id bytes) s e small =
    subst (IsOwn (Told (Send id bytes) s no_draw ∷ h)) (sym (sent_by_kind q h f (Send id bytes) s no_draw (asked false q h (Send id bytes) f no_draw (Told (Send id bytes) s no_draw) e).1)) (record { own = tt; spelled = tt })
told_own q h f (Beat id) s e small =
    subst (IsOwn (Told (Beat id) s no_draw ∷ h)) (sym (sent_by_kind q h f (Beat id) s no_draw (asked false q h (Beat id) f no_draw (Told (Beat id) s no_draw) e).1)) (record { own = tt; spelled = tt })
told_own q h f (Update id all) s e small =
    subst (IsOwn (Told (Update id all) s no_draw ∷ h)) (sym (sent_by_kind q h f (Update id all) s no_draw (asked false q h (Update id all) f no_draw (Told (Update id all) s no_draw) e).1)) (record { own = tt; spelled = tt })
told_own q h f (End id) s e small =
    subst (IsOwn (Told (End id) s no_draw ∷ h)) (sym (sent_by_kind q h f (End id) s no_draw (asked false q h (End id) f no_draw (Told (End id) s no_draw) e).1)) (record { own = tt; spelled = tt })
told_own q h f Retry s e small = absurd (sent_by_kind q h f Retry s no_draw (asked false q h Retry f no_draw (Told Retry s no_draw) e).1)

-- A message that begins a round is its request.
begins_asker : (h : History) (body : List ℕ) (s : Sent) → outstanding h ≡ Some s → IsOwn h s → body_of s.content ≡ body → Asker h body
begins_asker h body s waits own is = λ x waiting. subst (IsAsked h body) (same_Some s x (sym waits ∙ waiting)) (record {
  own = own.own;
  here = subst (λ (b : List ℕ). IsAt h b s.aim) is own.own;
  spelled = own.spelled;
})

tells_asker : (q : ReqSetup) (h : History) (c : Command) (body : List ℕ) (next : History) → Tells q h c body next → Asker next body
tells_asker q h c body next tells =
    subst (λ (l : History). Asker l body) (sym tells.4)
    (begins_asker (Told c tells.0 no_draw ∷ h) body tells.0 refl (told_own q h tells.1.0 c tells.0 tells.1.2 tells.2) tells.3)

-- ---- A large request.

large_type : (h : History) (body : List ℕ) (aim : Aim) → begins_large aim ≡ true → (slice_index body 0 == 5) ≡ true → IsAt h body aim
large_type h body (ByChunks asked handle number) large type = type
large_type h body (Plain asked) large type = absurd (false≢true large)
large_type h body (ForChunk asked handle number before) large type = absurd (false≢true large)
large_type h body (InSession id ask) large type = absurd (false≢true large)

owed_asker : (h g : History) (body old whole : List ℕ) (a : RequestMessage) (s : Sent) → Asker h old → outstanding h ≡ Some s → begins_large s.aim ≡ true → body_of (first_piece g a whole).content ≡ body → Asker (with_next (Some (first_piece g a whole)) h) body
owed_asker [] g body old whole a s asker waits large is = λ x waiting. absurd (none-some x waiting)
owed_asker (Told c sent d ∷ h) g body old whole a s asker waits large is = λ x waiting.
    let same : s ≡ x = same_Some s x (sym waits ∙ waiting) in
    record {
      own = (asker x waiting).own;
      here = large_type (Told c sent d ∷ h) body x.aim (ap (λ (y : Sent). begins_large y.aim) (sym same) ∙ large) (ap (λ (l : List ℕ). slice_index l 0 == 5) (sym is));
      spelled = (asker x waiting).spelled;
    }
owed_asker (TookClear tag m led d ∷ h) g body old whole a s asker waits large is =
    begins_asker (with_next (Some (first_piece g a whole)) (TookClear tag m led d ∷ h)) body (first_piece g a whole) refl (record { own = refl; spelled = tt }) is
owed_asker (TookRecord tag id sealed inner led d ∷ h) g body old whole a s asker waits large is =
    begins_asker (with_next (Some (first_piece g a whole)) (TookRecord tag id sealed inner led d ∷ h)) body (first_piece g a whole) refl (record { own = refl; spelled = tt }) is

-- ---- A request.

-- Nothing is owed before the first round.
has_round : (o : Option Round) (waits : Option Sent) → is_later o waits ≡ true → (round : Round) × (o ≡ Some round)
has_round None waits later = absurd (false≢true later)
has_round (Some round) waits later = (round, refl)

pub sends_asker : (d : Dialogue) (body : List ℕ) (next : History) (sending : Option (List ℕ)) → ((round : Round) → d.round ≡ Some round → Asker d.requester round.body) → Sends d body next sending → Asker next body
unfolding Sends
sends_asker d body next sending asker (inl (inl connects, none)) = tells_asker d.setup (without_owed d) Connect body next connects
sends_asker d body next sending asker (inl (inr commands, none)) = tells_asker d.setup d.requester commands.0 body next commands.2
sends_asker d body next sending asker (inr (inl goes)) =
    let round = has_round d.round (outstanding d.requester) goes.1.1 in
    let old = asker round.0 round.1 goes.0 goes.1.0 in
    subst (λ (l : History). Asker l body) (sym goes.5) (begins_asker d.requester body goes.0 goes.1.0 (record { own = old.own; spelled = old.spelled }) goes.3)
sends_asker d body next sending asker (inr (inr (whole, inl large, is))) =
    subst (λ (l : History). Asker l body) (sym large.8)
    (begins_asker (Told large.0 (first_piece d.requester large.2 whole) no_draw ∷ d.requester) body (first_piece d.requester large.2 whole) refl (record { own = refl; spelled = tt }) large.7)
sends_asker d body next sending asker (inr (inr (whole, inr owed, is))) =
    let round = has_round d.round (outstanding d.requester) owed.2.1 in
    subst (λ (l : History). Asker l body) (sym owed.7)
    (owed_asker d.requester (without_owed d) body round.0.body whole owed.1 owed.0 (asker round.0 round.1) owed.2.0 owed.3 owed.6)
