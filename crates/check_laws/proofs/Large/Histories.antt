-- The requester's histories while a large request is in progress.
use Rattle.std.proofs.Common.{◌≡◌, ◌+◌, ◌==◌, ℕ, List, [], ◌∷◌, refl, sym, ap, ◌∙◌, subst, Bool, true, false, Option, Some, None, arith, cond}
use Rattle.std.specs.Prelude.{MatchBool}
use Rattle.std.proofs.Common.{ne_eqb}
use Rattle.std.proofs.lemmas.Bool.{false≢true}
use Rattle.chunking.specs.Cutting.{nth_chunk}
use Rattle.requester_machine.specs.History.{History, connection_terms, begins_large, negotiation_of, outstanding}
use Rattle.requester_machine.specs.History.Entry.{Told, TookClear, TookRecord}
use Rattle.requester_machine.specs.Message.{Sent, body_of}
use Rattle.requester_machine.specs.Message.Aim.{ByChunks}
use Rattle.requester_machine.specs.Owed.{with_next}
use Rattle.requester_machine.specs.Setup.{ReqSetup}
use Rattle.spdm_grammar.specs.Message.{RequestMessage}
use Rattle.spdm_grammar.specs.Message.RequestMessage.{ChunkSend}
use Rattle.spdm_grammar.specs.Requests.{canonical_request}
use Rattle.spdm_machine.specs.Bodies.{clear_body}
use Rattle.spdm_machine.specs.Terms.{Terms, no_negotiation, terms_of}
use Rattle.check_laws.specs.Keeping.{Kept}
use Rattle.capture_machine.proofs.AskersBegin.{large_command}
use Rattle.capture_machine.specs.LargeRequests.{MayHaveBegun, first_piece, piece_with}
use Rattle.check_laws.specs.Large.Sending.{Ack, Beginning, MayBegin, MaySend, Sending, acked_by, asked_of, begun_with, behind, behind_due, chunk_body, handle_of, is_upon_clear, number_in, number_of, requester_of, shown_by}
use Rattle.check_laws.specs.Large.Sending.Beginning.{ByCommand, ByItself}

-- ---- The terms.

pub next_terms : (o : Option Sent) (h : History) → connection_terms (with_next o h) ≡ connection_terms h
next_terms o [] = refl
next_terms o (Told command sent d ∷ h) = refl
next_terms o (TookClear tag m led d ∷ h) = refl
next_terms o (TookRecord tag id sealed inner led d ∷ h) = refl

pub begun_terms : (k : Kept) (b : Beginning) (whole : List ℕ) → MayBegin k b → connection_terms (begun_with k b whole) ≡ connection_terms k.requester
begun_terms k (ByCommand c a) whole may =
    let some = may.1 in
    ap (λ (x : Bool). terms_of (cond x no_negotiation (negotiation_of k.requester))) (large_command k.setup k.requester some.1.0 c some.0 some.1.2 some.2)
begun_terms k (ByItself a) whole may = next_terms (Some (first_piece k.requester a whole)) k.requester

pub behind_terms : (a : RequestMessage) (whole : List ℕ) (handle : ℕ) (acks : List Ack) (h : History) → connection_terms (behind a whole handle acks h) ≡ connection_terms h
behind_terms a whole handle [] h = refl
behind_terms a whole handle (ack ∷ acks) h = behind_terms a whole handle acks h

pub due_terms : (a : RequestMessage) (whole : List ℕ) (handle : ℕ) (due : Option Ack) (number : ℕ) (h : History) → connection_terms (behind_due a whole handle due number h) ≡ connection_terms h
due_terms a whole handle None number h = refl
due_terms a whole handle (Some ack) number h = refl

pub shown_terms : (s : Sending) (b : Beginning) (whole : List ℕ) → MayBegin s.before b → connection_terms (shown_by s b whole) ≡ connection_terms s.before.requester
shown_terms s b whole may = behind_terms (asked_of b) whole (handle_of s) s.acks (begun_with s.before b whole) ∙ begun_terms s.before b whole may

pub requester_terms : (s : Sending) (b : Beginning) (whole : List ℕ) → MayBegin s.before b → connection_terms (requester_of s b whole) ≡ connection_terms s.before.requester
requester_terms s b whole may = due_terms (asked_of b) whole (handle_of s) s.due (number_of s) (shown_by s b whole) ∙ shown_terms s b whole may

-- The body of a chunk.
pub piece_body : (s : Sending) (h : History) (a : RequestMessage) (whole : List ℕ) (number : ℕ) → connection_terms h ≡ connection_terms s.before.requester → body_of (piece_with h a whole (handle_of s) number).content ≡ chunk_body s whole number
piece_body s h a whole number terms = ap (λ (t : Terms). clear_body (canonical_request (ChunkSend (nth_chunk t.common.to_responder.transfer (handle_of s) whole number)))) terms

-- ---- What is outstanding.

-- The chunk of this number of these bytes.
pub record Waits (a : RequestMessage) (handle number : ℕ) (h : History) : Type 0 where
  pub sent : Sent
  pub waits : outstanding h ≡ Some sent
  pub aim : sent.aim ≡ ByChunks a handle number

pub upon_waits : (h : History) (x : Sent) → is_upon_clear h ≡ true → outstanding (with_next (Some x) h) ≡ Some x
upon_waits (TookClear tag m led d ∷ h) x is = refl
upon_waits [] x is = absurd (false≢true is)
upon_waits (Told c s d ∷ h) x is = absurd (false≢true is)
upon_waits (TookRecord tag id sealed inner led d ∷ h) x is = absurd (false≢true is)

pub begun_waits : (k : Kept) (b : Beginning) (whole : List ℕ) → MayBegin k b → outstanding (begun_with k b whole) ≡ Some (first_piece k.requester (asked_of b) whole)
begun_waits k (ByCommand c a) whole may = refl
begun_waits k (ByItself a) whole may = upon_waits k.requester (first_piece k.requester a whole) may.2

pub behind_waits : (a : RequestMessage) (whole : List ℕ) (handle : ℕ) (acks : List Ack) (h : History) → Waits a handle 0 h → Waits a handle (number_in acks) (behind a whole handle acks h)
behind_waits a whole handle [] h one = one
behind_waits a whole handle (ack ∷ acks) h one = record { sent = piece_with (behind a whole handle acks h) a whole handle (number_in acks + 1); waits = refl; aim = refl }

pub shown_waits : (s : Sending) (b : Beginning) (whole : List ℕ) → MayBegin s.before b → Waits (asked_of b) (handle_of s) (number_of s) (shown_by s b whole)
shown_waits s b whole may =
    behind_waits (asked_of b) whole (handle_of s) s.acks (begun_with s.before b whole)
    (record { sent = first_piece s.before.requester (asked_of b) whole; waits = begun_waits s.before b whole may; aim = refl })

-- ---- What began it.

pub later : (number : ℕ) → (number + 1 == 0) ≡ false
later number = ne_eqb (number + 1) 0 (λ is. omega arith)

pub acked_begun : (q : ReqSetup) (a : RequestMessage) (whole : List ℕ) (handle : ℕ) (ack : Ack) (number : ℕ) (h : History) → MayHaveBegun q (acked_by a whole handle ack (number + 1) h) ≡ MayHaveBegun q h
acked_begun q a whole handle ack number h = ap (λ (b : Bool). MatchBool b (Unit {0}) (MayHaveBegun q h)) (later number)

upon_begun : (q : ReqSetup) (h : History) (a : RequestMessage) (x : Sent) → is_upon_clear h ≡ true → begins_large x.aim ≡ true → MayHaveBegun q (with_next (Some x) h)
upon_begun q (TookClear tag m led d ∷ h) a x is large = subst (λ (b : Bool). MatchBool b (Unit {0}) (MayHaveBegun q h)) (sym large) tt
upon_begun q [] a x is large = absurd (false≢true is)
upon_begun q (Told c s d ∷ h) a x is large = absurd (false≢true is)
upon_begun q (TookRecord tag id sealed inner led d ∷ h) a x is large = absurd (false≢true is)

begun_from : (k : Kept) (b : Beginning) (whole : List ℕ) → MayBegin k b → MaySend k b whole → MayHaveBegun k.setup (begun_with k b whole)
begun_from k (ByCommand c a) whole may sends = sends
begun_from k (ByItself a) whole may sends = upon_begun k.setup k.requester a (first_piece k.requester a whole) may.2 refl

behind_begun : (q : ReqSetup) (a : RequestMessage) (whole : List ℕ) (handle : ℕ) (acks : List Ack) (h : History) → MayHaveBegun q h → MayHaveBegun q (behind a whole handle acks h)
behind_begun q a whole handle [] h may = may
behind_begun q a whole handle (ack ∷ acks) h may =
    subst (λ (P : Type 0). P) (sym (acked_begun q a whole handle ack (number_in acks) (behind a whole handle acks h))) (behind_begun q a whole handle acks h may)

due_begun : (q : ReqSetup) (a : RequestMessage) (whole : List ℕ) (handle : ℕ) (due : Option Ack) (number : ℕ) (h : History) → MayHaveBegun q h → MayHaveBegun q (behind_due a whole handle due number h)
due_begun q a whole handle None number h may = may
due_begun q a whole handle (Some ack) number h may = subst (λ (P : Type 0). P) (sym (acked_begun q a whole handle ack number h)) may

pub requester_begun : (s : Sending) (b : Beginning) (whole : List ℕ) → MayBegin s.before b → MaySend s.before b whole → MayHaveBegun s.before.setup (requester_of s b whole)
requester_begun s b whole may sends =
    due_begun s.before.setup (asked_of b) whole (handle_of s) s.due (number_of s) (shown_by s b whole)
    (behind_begun s.before.setup (asked_of b) whole (handle_of s) s.acks (begun_with s.before b whole) (begun_from s.before b whole may sends))
