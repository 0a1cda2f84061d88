-- While a large response is fetched, the answer to a clear request tells what it led to, whatever bytes stand for the
-- large one: to a repeat, to GET_VERSION and to CHUNK_GET.
use Rattle.std.proofs.Common.{◌≡◌, ◌≢◌, ℕ, List, [], ◌∷◌, refl, sym, ap, ◌∙◌, Bool, true, false, Option, Some, cond, arith}
use Rattle.spdm_grammar.specs.Message.RequestMessage.{GetVersion, ChunkSend, ChunkGet}
use Rattle.spdm_grammar.specs.Reading.{field_at, number_at}
use Rattle.spdm_grammar.specs.Requests.{canonical_request, request_in, request_body, get_version_layout, chunk_get_layout}
use Rattle.spdm_grammar.specs.declared.names.request_code.TheConstants.{CHUNK_SEND, PSK_EXCHANGE}
use Rattle.spdm_machine.specs.Bodies.{clear_body}
use Rattle.spdm_machine.specs.Terms.{hash_len}
use Rattle.responder_machine.specs.Answer.{Free}
use Rattle.responder_machine.specs.Handling.{turn_of}
use Rattle.responder_machine.specs.History.{History, Entry, Kept, kept_of}
use Rattle.responder_machine.specs.History.Entry.{Clear, Sealed, Queued, Ticked, Dropped}
use Rattle.responder_machine.specs.May.{with_dropped}
use Rattle.responder_machine.specs.Place.{Place, clear_place, place_terms}
use Rattle.responder_machine.specs.Refusal.{code_of}
use Rattle.responder_machine.specs.Responder.{on_clear, is_repeat, kept_reply, body_of}
use Rattle.responder_machine.specs.Responder.Outcome.{Same, Adds}
use Rattle.responder_machine.specs.Setup.{RspSetup}
use Rattle.responder_machine.specs.Turn.{is_taken}
use Rattle.responder_machine.proofs.Codes.{asked-code}
use Rattle.capture_machine.specs.LargeAnswers.{with_large, is_unseen_in, seen}
use Rattle.capture_machine.specs.Rounds.{no_draw}
use Rattle.capture_machine.proofs.TurnsAlike.{ReadAlike}
use Rattle.capture_machine.proofs.RepliesTell.{OutcomesAlike, clear_told}
use Rattle.capture_machine.proofs.DropsTell.{kept_same}

-- ---- What the bytes of a large answer leave as it is.

kept_entry : (w : List ℕ) (e : Entry) (h : History) → kept_of (seen w e ∷ h) ≡ kept_of (e ∷ h)
kept_entry w (Clear tag t d) h = refl
kept_entry w (Sealed tag m t reply d) h = refl
kept_entry w (Queued bytes) h = refl
kept_entry w (Ticked seconds) h = refl
kept_entry w (Dropped id) h = refl

kept_behind : (e : Entry) (h g : History) → kept_of h ≡ kept_of g → kept_of (e ∷ h) ≡ kept_of (e ∷ g)
kept_behind (Clear tag t d) h g same = ap (cond (is_taken t) (Some (record { tag = tag; message = t.message; reply = t.reply }))) same
kept_behind (Sealed tag m t reply d) h g same = same
kept_behind (Queued bytes) h g same = same
kept_behind (Ticked seconds) h g same = same
kept_behind (Dropped id) h g same = same

kept_by : (place : Option ℕ) (w : List ℕ) (e : Entry) (h : History) (b : Bool) → kept_of (with_large place w h) ≡ kept_of h → kept_of (cond b (seen w e ∷ h) (e ∷ with_large place w h)) ≡ kept_of (e ∷ h)
kept_by place w e h true same = kept_entry w e h
kept_by place w e h false same = kept_behind e (with_large place w h) h same

-- The clear request that is kept, and its reply.
pub kept_large : (place : Option ℕ) (w : List ℕ) (h : History) → kept_of (with_large place w h) ≡ kept_of h
kept_large place w [] = refl
kept_large place w (e ∷ h) = kept_by place w e h (is_unseen_in place e) (kept_large place w h)

-- ---- Requests that are read the same under any hash.

pub record ReadsAlways (m : List ℕ) : Type 0 where
  pub reads : (n k : ℕ) → request_in n m ≡ request_in k m
  pub no_chunk : code_of m ≢ CHUNK_SEND
  pub no_exchange : code_of m ≢ PSK_EXCHANGE

pub version_reads : ReadsAlways (canonical_request GetVersion)
unfolding field_at number_at request_body get_version_layout
version_reads = record { reads = λ n k. refl; no_chunk = λ e. absurd (omega (arith, e)); no_exchange = λ e. absurd (omega (arith, e)) }

pub get_reads : (handle number : ℕ) → ReadsAlways (canonical_request (ChunkGet handle number))
unfolding field_at number_at request_body chunk_get_layout
get_reads handle number = record { reads = λ n k. refl; no_chunk = λ e. absurd (omega (arith, e)); no_exchange = λ e. absurd (omega (arith, e)) }

read_always : (p o : Place) (m : List ℕ) → ReadsAlways m → ReadAlike p o m
read_always p o m reads = record {
  asked = reads.reads (hash_len (place_terms p)) (hash_len (place_terms o));
  chunks = λ c is. absurd (reads.no_chunk (sym (asked-code p m (ChunkSend c) is)));
  whole = λ c text is. absurd (reads.no_chunk (sym (asked-code p m (ChunkSend c) is)));
}

-- ---- What the answer tells.

-- To GET_VERSION or CHUNK_GET, whatever was dropped before it.
pub always_told : (r : RspSetup) (h : History) (place : Option ℕ) (w v : List ℕ) (ids others : List ℕ) (tag : ℕ) (m : List ℕ) (f k : Free) → ReadsAlways m
    → body_of (on_clear r (with_dropped (with_large place w h) ids) tag m f no_draw) ≡ body_of (on_clear r (with_dropped (with_large place v h) others) tag m k no_draw)
    → OutcomesAlike (on_clear r (with_dropped (with_large place w h) ids) tag m f no_draw) (on_clear r (with_dropped (with_large place v h) others) tag m k no_draw)
always_told r h place w v ids others tag m f k reads same =
    let one : History = with_dropped (with_large place w h) ids in
    let two : History = with_dropped (with_large place v h) others in
    clear_told r one two tag m f k no_draw (kept_same ids (with_large place w h) ∙ kept_large place w h ∙ sym (kept_large place v h) ∙ sym (kept_same others (with_large place v h)))
    (read_always (clear_place one) (clear_place two) m reads) same

same_kept : (r : RspSetup) (g : History) (tag : ℕ) (m : List ℕ) (f : Free) (o : Option Kept) → kept_of g ≡ o → is_repeat o tag m ≡ true → on_clear r g tag m f no_draw ≡ Same (clear_body (kept_reply o))
unfolding on_clear
same_kept r g tag m f o is repeats =
    ap (λ x. cond (is_repeat x tag m) (Same (clear_body (kept_reply x))) (Adds (Clear tag (turn_of r (clear_place g) m f) no_draw))) is
    ∙ ap (λ (b : Bool). cond b (Same (clear_body (kept_reply o))) (Adds (Clear tag (turn_of r (clear_place g) m f) no_draw))) repeats

-- To a repeat: the stored reply.
pub repeat_same : (r : RspSetup) (h : History) (place : Option ℕ) (w : List ℕ) (ids : List ℕ) (tag : ℕ) (m : List ℕ) (f : Free) → is_repeat (kept_of h) tag m ≡ true
    → on_clear r (with_dropped (with_large place w h) ids) tag m f no_draw ≡ Same (clear_body (kept_reply (kept_of h)))
repeat_same r h place w ids tag m f repeats = same_kept r (with_dropped (with_large place w h) ids) tag m f (kept_of h) (kept_same ids (with_large place w h) ∙ kept_large place w h) repeats
