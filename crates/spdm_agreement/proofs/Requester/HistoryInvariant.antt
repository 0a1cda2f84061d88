-- What a requester's history keeps, beside that the requester made it: what is counted in each session that it holds is
-- counted in its marks, and what waits is what its marks say.
use Rattle.std.proofs.Common.{◌≡◌, ◌<◌, ◌^◌, ℕ, List, [], ◌∷◌, length, Bool, true, false, cond, Option, Some, None, ◌==◌, ◌&&◌, refl, sym, ap, ◌∙◌, bytes_eq}
use Rattle.std.proofs.lemmas.Slice.Eq.{bytes_eq-Decides}
use Rattle.requester_machine.specs.Does.{IsMade}
use Rattle.requester_machine.specs.History.{History, outstanding, negotiation_of, connection_terms}
use Rattle.requester_machine.specs.Message.{Ask, Aim, Content, Sent, asked_in}
use Rattle.requester_machine.specs.Message.Aim.{Plain, ByChunks, ForChunk, InSession}
use Rattle.requester_machine.specs.Message.Ask.{AskFinish}
use Rattle.requester_machine.specs.Session.{Steps, session_of, is_live, stage_of, t2_of}
use Rattle.requester_machine.specs.Session.Step.{Started, Accepted, Asked}
use Rattle.spdm_grammar.specs.Message.{RequestMessage, ExchangeMessage}
use Rattle.spdm_grammar.specs.Message.RequestMessage.{PskExchange}
use Rattle.spdm_grammar.specs.Requests.{canonical_request, request_in}
use Rattle.spdm_machine.specs.Keys.{Draw, context_of}
use Rattle.spdm_machine.specs.Sessions.{is_past_handshake}
use Rattle.requester_machine.specs.Setup.{ReqSetup}
use Rattle.spdm_machine.specs.TagLog.{Log}
use Rattle.spdm_machine.specs.Terms.{hash_len}
use Rattle.transcript.specs.Transcripts.{Negotiation}
use Rattle.spdm_agreement.specs.Claims.{IsReached}
use Rattle.spdm_agreement.specs.Marks.{Served, Text, asked_open, waiting, finishing}
use Rattle.spdm_agreement.specs.Story.{Past, asked_from, asked_first, sent_text}
use Rattle.spdm_agreement.proofs.Requester.OpenSessions.{asked_stands}
use Rattle.spdm_agreement.proofs.Requester.ExchangeMoves.{finish_inner}
use Rattle.spdm_agreement.proofs.Requester.ClearLeads.{IsClearAim, NoExchange}
use Rattle.spdm_agreement.proofs.Requester.Entries.{RequestTells}
use Rattle.spdm_agreement.proofs.Requester.Counts.{HeldWell}
use Rattle.spdm_agreement.proofs.Requester.Waiting.{made_steady, is_finish}
use Rattle.spdm_agreement.proofs.Requester.SealAndHear.{at}
use Rattle.spdm_agreement.proofs.Moves.Runs.{holds, one_id}
use Rattle.spdm_agreement.proofs.Messages.Beginnings.{reading_of, is_negotiated}
use Rattle.spdm_agreement.proofs.Moves.MarkEffects.{differ}

-- The text of the request that waits in the session of an id.
abbrev pub waiting_in : ℕ → Aim → Content → Option Text
waiting_in id (InSession of ask) c = cond (of == id) (Some (sent_text c)) None
waiting_in id _ c = None

abbrev pub waiting_text : ℕ → Option Sent → Option Text
waiting_text id None = None
waiting_text id (Some x) = waiting_in id x.aim x.content

abbrev pub is_held : Steps → Bool
is_held s = is_live s && is_past_handshake (stage_of s)

-- PSK_EXCHANGE waits for its answer.
pub record IsStarted (prior : Past) (q : ReqSetup) (h : History) (exchange : ExchangeMessage) : Type 0 where
  pub draw : Draw
  pub number : draw.number < 256 ^ 8
  pub bytes : length draw.bytes ≡ 32
  pub waits : waiting (asked_from prior q h) ≡ Some (exchange.req_id, draw.number)
  pub context : exchange.context ≡ context_of (connection_terms h).choice.hash draw
  pub session : session_of exchange.req_id h ≡ Started (negotiation_of h) (canonical_request (PskExchange exchange)) ∷ []
  pub negotiated : is_negotiated (negotiation_of h) ≡ true
  pub read : request_in (hash_len (connection_terms h)) (canonical_request (PskExchange exchange)) ≡ Some (PskExchange exchange)

-- PSK_FINISH does.
pub record IsFinishing (prior : Past) (q : ReqSetup) (h : History) (id : ℕ) : Type 0 where
  pub negotiation : Negotiation
  pub exchange : List ℕ
  pub answer : List ℕ
  pub sealed : List ℕ
  pub session : session_of id h ≡ Asked AskFinish (finish_inner q.psk (Accepted answer ∷ Started negotiation exchange ∷ [])) sealed ∷ Accepted answer ∷ Started negotiation exchange ∷ []
  pub waits : finishing (asked_from prior q h) ≡ Some (asked_first (session_of id h))

abbrev pub ClearKept : (prior : Past) → ReqSetup → History → Option RequestMessage → Type 0
ClearKept prior q h (Some (PskExchange exchange)) = IsStarted prior q h exchange
ClearKept prior q h _ = Unit {0}

abbrev pub RecordKept : (prior : Past) → ReqSetup → History → ℕ → Text → Ask → Type 0
RecordKept prior q h id b AskFinish = IsFinishing prior q h id
RecordKept prior q h id b ask = RequestTells ask b

abbrev pub AimKept : (prior : Past) → ReqSetup → History → Content → Aim → Type 0
AimKept prior q h c (InSession id ask) = RecordKept prior q h id (sent_text c) ask
AimKept prior q h c (Plain asked) = ClearKept prior q h (Some asked)
AimKept prior q h c (ByChunks asked handle number) = ClearKept prior q h (Some asked)
AimKept prior q h c (ForChunk asked handle number before) = ClearKept prior q h (Some asked)

abbrev pub WaitingKept : (prior : Past) → ReqSetup → History → Option Sent → Type 0
WaitingKept prior q h None = Unit {0}
WaitingKept prior q h (Some x) = AimKept prior q h x.content x.aim

pub record AskedKept (prior : Past) (q : ReqSetup) (h : History) : Type 0 where
  pub held : (id : ℕ) → is_held (session_of id h) ≡ true → HeldWell q.psk (session_of id h) (asked_from prior q h) (waiting_text id (outstanding h))
  pub waiting : WaitingKept prior q h (outstanding h)

-- ---- What waits.

pub clear_kept : (prior : Past) → (q : ReqSetup) (h : History) (c : Content) (aim : Aim) → IsClearAim aim → ClearKept prior q h (asked_in aim) → AimKept prior q h c aim
clear_kept prior q h c (Plain asked) k w = w
clear_kept prior q h c (ByChunks asked handle number) k w = w
clear_kept prior q h c (ForChunk asked handle number before) k w = w
clear_kept prior q h c (InSession id ask) k w = absurd k

pub kept_clear : (prior : Past) → (q : ReqSetup) (h : History) (c : Content) (aim : Aim) → IsClearAim aim → AimKept prior q h c aim → ClearKept prior q h (asked_in aim)
kept_clear prior q h c (Plain asked) k w = w
kept_clear prior q h c (ByChunks asked handle number) k w = w
kept_clear prior q h c (ForChunk asked handle number before) k w = w
kept_clear prior q h c (InSession id ask) k w = absurd k

pub other_kept : (prior : Past) → (q : ReqSetup) (h : History) (o : Option RequestMessage) → NoExchange o → ClearKept prior q h o
other_kept prior q h None n = tt
other_kept prior q h (Some (PskExchange exchange)) n = absurd n
other_kept prior q h (Some _) n = tt

pub record_kept : (prior : Past) → (q : ReqSetup) (h : History) (id : ℕ) (b : Text) (ask : Ask) → is_finish ask ≡ false → RequestTells ask b → RecordKept prior q h id b ask
record_kept prior q h id b AskFinish n t = absurd (cc)
record_kept prior q h id b _ n t = t

pub kept_record : (prior : Past) → (q : ReqSetup) (h : History) (id : ℕ) (b : Text) (ask : Ask) → is_finish ask ≡ false → RecordKept prior q h id b ask → RequestTells ask b
kept_record prior q h id b AskFinish n t = absurd (cc)
kept_record prior q h id b _ n t = t

pub kept_finish : (prior : Past) → (q : ReqSetup) (h : History) (id : ℕ) (b : Text) (ask : Ask) → is_finish ask ≡ true → RecordKept prior q h id b ask → IsFinishing prior q h id
kept_finish prior q h id b AskFinish n t = t
kept_finish prior q h id b _ n t = absurd (cc)

pub none_in : (id : ℕ) (aim : Aim) (c : Content) → IsClearAim aim → waiting_in id aim c ≡ None
none_in id (Plain asked) c k = refl
none_in id (ByChunks asked handle number) c k = refl
none_in id (ForChunk asked handle number before) c k = refl
none_in id (InSession of ask) c k = absurd k

-- ---- Sessions that are held are those of the marks, and differ in T2.

pub held_open : (prior : Past) → (q : ReqSetup) (h : History) (id : ℕ) → IsMade q h → is_held (session_of id h) ≡ true → asked_open (reading_of q.psk) id (asked_from prior q h) ≡ Some (asked_first (session_of id h), t2_of (session_of id h))
held_open prior q h id made held = (asked_stands prior q.psk q h (made_steady q h made) id).told held

pub apart : (prior : Past) → (q : ReqSetup) (h : History) (served : List Served) (log : Log) (id other : ℕ) → IsMade q h → IsReached (reading_of q.psk) (at (asked_from prior q h) served log) → (id == other) ≡ false
    → is_held (session_of id h) ≡ true → is_held (session_of other h) ≡ true → bytes_eq (t2_of (session_of id h)) (t2_of (session_of other h)) ≡ false
apart prior q h served log id other made reached differs one two = go (bytes_eq (t2_of (session_of id h)) (t2_of (session_of other h))) refl
  where
    go : (b : Bool) → bytes_eq (t2_of (session_of id h)) (t2_of (session_of other h)) ≡ b → bytes_eq (t2_of (session_of id h)) (t2_of (session_of other h)) ≡ false
    go true e =
        let same : t2_of (session_of id h) ≡ t2_of (session_of other h) = (bytes_eq-Decides _ _).0 e in
        absurd (differ id other differs
        (one_id (reading_of q.psk) (asked_from prior q h) served log (holds (reading_of q.psk) (at (asked_from prior q h) served log) reached) id other (asked_first (session_of id h)) (asked_first (session_of other h)) (t2_of (session_of id h))
        (held_open prior q h id made one) (held_open prior q h other made two ∙ ap (λ (u : List ℕ). Some (asked_first (session_of other h), u)) (sym same))))
    go false e = e
