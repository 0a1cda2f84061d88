-- In the clear a large response is ready to be given chunk by chunk: from LargeResponse on, and after each chunk.
use Rattle.std.proofs.Common.{◌≡◌, ◌<◌, ◌≤◌, ◌+◌, ◌-◌, ◌*◌, ◌^◌, ℕ, zero, suc, List, [], ◌∷◌, refl, sym, ap, ◌∙◌, length, Bool, true, false, Option, Some, None, is_some, cond, arith}
use Rattle.std.specs.Prelude.{nat_lt, not, slice_index, unwrap_or}
use Rattle.std.proofs.lemmas.Bool.{false≢true, lt-ltb}
use Rattle.std.proofs.lemmas.Bool.Decides.{nat_tests}
use Rattle.std.proofs.lemmas.Grind.{div_ceil_times}
use Rattle.std.proofs.lemmas.Nat.{mul-le}
use Rattle.chunking.proofs.ChunkSteps as step
use Rattle.chunking.specs.Cutting.{chunk_count, unit_of}
use Rattle.negotiate.specs.declared.shared.Common.{Common}
use Rattle.spdm_grammar.specs.Message.{ChunkMessage}
use Rattle.spdm_grammar.specs.declared.names.request_code.TheConstants.{CHUNK_GET, GET_CAPABILITIES, GET_VERSION, NEGOTIATE_ALGORITHMS}
use Rattle.spdm_machine.specs.Terms.{no_negotiation, terms_of}
use Rattle.transcript.specs.Transcripts.{Negotiation}
use Rattle.responder_machine.specs.History.{History, clear_turns, kept_of, negotiation_of}
use Rattle.responder_machine.specs.History.Entry.{Clear, Sealed, Queued, Ticked, Dropped}
use Rattle.responder_machine.specs.LargeMessages.{given_of, handle_of, large_of}
use Rattle.responder_machine.specs.Responder.{kept_reply}
use Rattle.responder_machine.specs.Turn.{Effect, Turn, answer_in, handle_in, is_taken, large_in, request_in, takes}
use Rattle.responder_machine.specs.Turn.Effect.{NoEffect, Took, TookData}
use Rattle.check_fetched_laws.proofs.LargeHeard.{large_reply}
use Rattle.check_fetched_laws.proofs.LargeTurns.{LargeStandsIn}
use Rattle.check_fetched_laws.proofs.TurnsBoth.{Settles}
use Rattle.check_fetched_laws.specs.ClearChunks.{get_entry, get_response}
use Rattle.capture_machine.proofs.ChunksGiven.{given_idle, large_idle, large_other}
use Rattle.capture_machine.proofs.FetchedSessions.{takes_with}
use Rattle.capture_machine.proofs.SmallGets.{chunk_sized}
use Rattle.capture_machine.proofs.UnseenStands.{GoesLarge, UnseenStand}
use Rattle.capture_machine.specs.LargeAnswers.{effect_with, handle_shown, is_unseen_effect, repeats_large, seen_turn, with_large}

-- ---- What both ends can do.

abbrev pub common_at : List Turn → Common
common_at ts = (terms_of (negotiation_of ts)).common

abbrev negotiation_by : (version caps offer : Bool) → Turn → Negotiation → Negotiation
negotiation_by version caps offer t n =
    cond version (record no_negotiation { get_version = request_in t.effect; version = answer_in t.effect })
    (cond caps (record n { get_capabilities = request_in t.effect; capabilities = answer_in t.effect })
    (cond offer (record n { negotiate_algorithms = request_in t.effect; algorithms = answer_in t.effect }) n))

common_by : (version caps offer : Bool) (t : Turn) (n : Negotiation) → caps ≡ false → (terms_of (negotiation_by version caps offer t n)).common ≡ cond version (terms_of no_negotiation).common (terms_of n).common
unfolding terms_of
common_by true caps offer t n not_it = refl
common_by false true offer t n not_it = absurd (false≢true (sym not_it))
common_by false false true t n not_it = refl
common_by false false false t n not_it = refl

-- Only GET_VERSION and GET_CAPABILITIES change it.
pub common_next : (t : Turn) (ts : List Turn) → takes GET_CAPABILITIES t ≡ false → common_at (t ∷ ts) ≡ cond (takes GET_VERSION t) (terms_of no_negotiation).common (common_at ts)
common_next t ts not_it = common_by (takes GET_VERSION t) (takes GET_CAPABILITIES t) (takes NEGOTIATE_ALGORITHMS t) t (negotiation_of ts) not_it

common_same : (t : Turn) (ts us : List Turn) → common_at ts ≡ common_at us → common_at (t ∷ ts) ≡ common_at (t ∷ us)
unfolding terms_of
common_same t ts us same = by_caps (takes GET_CAPABILITIES t) refl
  where
    both : (version caps offer : Bool) → caps ≡ true → (terms_of (negotiation_by version caps offer t (negotiation_of ts))).common ≡ (terms_of (negotiation_by version caps offer t (negotiation_of us))).common
    both true caps offer is = refl
    both false true offer is = refl
    both false false offer is = absurd (false≢true is)

    by_caps : (b : Bool) → takes GET_CAPABILITIES t ≡ b → common_at (t ∷ ts) ≡ common_at (t ∷ us)
    by_caps true is = both (takes GET_VERSION t) (takes GET_CAPABILITIES t) (takes NEGOTIATE_ALGORITHMS t) is
    by_caps false is = common_next t ts is ∙ ap (cond (takes GET_VERSION t) (terms_of no_negotiation).common) same ∙ sym (common_next t us is)

-- The bytes of a large response are not among it.
pub common_given : (whole : List ℕ) (h : History) → Settles h → common_at (clear_turns (with_large None whole h)) ≡ common_at (clear_turns h)
common_given whole [] settles = refl
common_given whole (Clear tag t d ∷ h) settles = by_unseen (is_unseen_effect t.effect) refl (common_given whole h settles.1)
  where
    by_unseen : (b : Bool) → is_unseen_effect t.effect ≡ b → common_at (clear_turns (with_large None whole h)) ≡ common_at (clear_turns h)
        → common_at (clear_turns (cond b (Clear tag (seen_turn whole t) d ∷ h) (Clear tag t d ∷ with_large None whole h))) ≡ common_at (t ∷ clear_turns h)
    by_unseen true is rest =
        let not_it : takes GET_CAPABILITIES t ≡ false = settles.0 is in
        common_next (seen_turn whole t) (clear_turns h) (takes_with whole (Some (handle_shown t)) GET_CAPABILITIES t ∙ not_it)
        ∙ ap (λ (b : Bool). cond b (terms_of no_negotiation).common (common_at (clear_turns h))) (takes_with whole (Some (handle_shown t)) GET_VERSION t)
        ∙ sym (common_next t (clear_turns h) not_it)
    by_unseen false is rest = common_same t (clear_turns (with_large None whole h)) (clear_turns h) rest
common_given whole (Sealed tag m t reply d ∷ h) settles = common_given whole h settles.1
common_given whole (Queued bytes ∷ h) settles = common_given whole h settles.1
common_given whole (Ticked seconds ∷ h) settles = common_given whole h settles.1
common_given whole (Dropped id ∷ h) settles = common_given whole h settles.1

-- ---- Ready.

-- The next chunk of these bytes is the one of this number, under this handle.
pub record IsReady (h : History) (whole : List ℕ) (handle number : ℕ) : Type 0 where
  pub byte : handle < 256
  pub short : length whole ≤ 4096
  pub chunks : (common_at (clear_turns (with_large None whole h))).chunk ≡ true
  pub large : large_of (clear_turns (with_large None whole h)) ≡ Some whole
  pub given : given_of (clear_turns (with_large None whole h)) ≡ number
  pub same : handle_of (clear_turns (with_large None whole h)) ≡ handle
  pub more : nat_lt number (chunk_count (common_at (clear_turns (with_large None whole h))).to_requester.transfer whole) ≡ true

count_small : (transfer number : ℕ) (whole : List ℕ) → 42 ≤ transfer → length whole ≤ 4096 → number < chunk_count transfer whole → number < 2 ^ 16
count_small transfer number whole low short within =
    let reached = step.reaches transfer 0 whole (omega (arith, low)) number within in
    let ones : number * 1 ≤ number * (transfer - 12) = mul-le number 1 number (transfer - 12) (omega arith) (omega (arith, low)) in
    omega (arith, reached, ones, short)

pub ready_few : (h : History) (whole : List ℕ) (handle number : ℕ) → IsReady h whole handle number → number < 2 ^ 16
ready_few h whole handle number ready =
    let n : Negotiation = negotiation_of (clear_turns (with_large None whole h)) in
    let more = ready.more in
    count_small (terms_of n).common.to_requester.transfer number whole (chunk_sized n ready.chunks) ready.short (grind (arith, nat_tests))

-- After a chunk that is not the last one.
pub ready_next : (h : History) (whole : List ℕ) (tag handle number : ℕ) → IsReady h whole handle number
    → nat_lt (number + 1) (chunk_count (common_at (clear_turns (with_large None whole h))).to_requester.transfer whole) ≡ true
    → IsReady (get_entry tag handle number (get_response h whole handle number) ∷ h) whole handle (number + 1)
ready_next h whole tag handle number ready more = record {
  byte = ready.byte;
  short = ready.short;
  chunks = ready.chunks;
  large = ready.large;
  given = ap (λ (n : ℕ). n + 1) ready.given;
  same = ready.same;
  more = more;
}

-- ---- LargeResponse.

-- It was sent for the last request that was taken, with this handle, and no chunk was given since.
pub record IsBegun (h : History) (whole : List ℕ) : Type 0 where
  pub carried : Option ChunkMessage
  pub handle : ℕ
  pub byte : handle < 256
  pub large : large_of (clear_turns (with_large None whole h)) ≡ Some whole
  pub given : given_of (clear_turns (with_large None whole h)) ≡ 0
  pub same : handle_of (clear_turns (with_large None whole h)) ≡ handle
  pub reply : kept_reply (kept_of h) ≡ large_reply carried handle

abbrev pub LargeStand : History → Type 0
LargeStand [] = Unit {0}
LargeStand (e ∷ h) = LargeStandsIn e × LargeStand h

large_given : (w : List ℕ) (k : ℕ) (x : Effect) → is_unseen_effect x ≡ true → large_in (effect_with w (Some k) x) ≡ Some w
large_given w k NoEffect is = absurd (false≢true is)
large_given w k (Took a m old large) is = refl
large_given w k (TookData bytes old) is = absurd (false≢true is)

handle_given : (w : List ℕ) (k : ℕ) (x : Effect) (rest : ℕ) → is_unseen_effect x ≡ true → unwrap_or (handle_in (effect_with w (Some k) x)) rest ≡ k
handle_given w k NoEffect rest is = absurd (false≢true is)
handle_given w k (Took a m old large) rest is = refl
handle_given w k (TookData bytes old) rest is = absurd (false≢true is)

-- What was not taken was seen.
idle_seen : (t : Turn) → (is_unseen_effect t.effect ≡ true → GoesLarge t) → is_taken t ≡ false → is_unseen_effect t.effect ≡ false
idle_seen t stands idle = by_unseen (is_unseen_effect t.effect) refl
  where
    by_unseen : (b : Bool) → is_unseen_effect t.effect ≡ b → b ≡ false
    by_unseen false is = refl
    by_unseen true is = absurd (false≢true (sym idle ∙ (stands is).taken))

-- The handle that is shown is the one that was sent.
shown_is : (c : Option ChunkMessage) (handle : ℕ) → slice_index (large_reply c handle) (cond (is_some c) 10 4) ≡ handle
shown_is None handle = refl
shown_is (Some c) handle = refl

pub begun : (whole : List ℕ) (h : History) → UnseenStand h → LargeStand h → repeats_large None h ≡ true → IsBegun h whole
begun whole [] stand large is = absurd (false≢true is)
begun whole (Clear tag t d ∷ h) stand large is = by_taken (is_taken t) refl (λ last. begun whole h stand.1 large.1 last)
  where
    taken_begun : is_taken t ≡ true → is_unseen_effect t.effect ≡ true → IsBegun (Clear tag t d ∷ h) whole
    taken_begun taken un =
        let sent = large.0 un in
        let goes = stand.0.1 un in
        let now : Turn = seen_turn whole t in
        let shown : handle_shown t ≡ sent.handle = ap (λ (l : List ℕ). slice_index l (cond (is_some t.chunk) 10 4)) sent.sends.reply ∙ shown_is t.chunk sent.handle in
        let other : takes CHUNK_GET now ≡ false = takes_with whole (Some (handle_shown t)) CHUNK_GET t ∙ goes.other in
        let turns : clear_turns (with_large None whole (Clear tag t d ∷ h)) ≡ now ∷ clear_turns h = ap (λ (b : Bool). clear_turns (cond b (Clear tag now d ∷ h) (Clear tag t d ∷ with_large None whole h))) un in
        record {
          carried = t.chunk;
          handle = sent.handle;
          byte = sent.byte;
          large = ap large_of turns ∙ large_other now (clear_turns h) goes.taken other ∙ large_given whole (handle_shown t) t.effect un;
          given =
              ap given_of turns ∙ ap (λ (b : Bool). cond (not b) (given_of (clear_turns h)) (cond (takes CHUNK_GET now) (given_of (clear_turns h) + 1) 0)) goes.taken
              ∙ ap (λ (b : Bool). cond b (given_of (clear_turns h) + 1) 0) other;
          same = ap handle_of turns ∙ handle_given whole (handle_shown t) t.effect (handle_of (clear_turns h)) un ∙ shown;
          reply = ap (λ (b : Bool). kept_reply (cond b (Some (record { tag = tag; message = t.message; reply = t.reply })) (kept_of h))) taken ∙ sent.sends.reply;
        }

    idle_begun : is_taken t ≡ false → IsBegun h whole → IsBegun (Clear tag t d ∷ h) whole
    idle_begun taken rest =
        let ts : List Turn = clear_turns (with_large None whole h) in
        let old = idle_seen t stand.0.1 taken in
        let turns : clear_turns (with_large None whole (Clear tag t d ∷ h)) ≡ t ∷ ts = ap (λ (b : Bool). clear_turns (cond b (Clear tag (seen_turn whole t) d ∷ h) (Clear tag t d ∷ with_large None whole h))) old in
        record {
          carried = rest.carried;
          handle = rest.handle;
          byte = rest.byte;
          large = ap large_of turns ∙ large_idle t ts taken ∙ rest.large;
          given = ap given_of turns ∙ given_idle t ts taken ∙ rest.given;
          same = ap handle_of turns ∙ ap (λ (x : Effect). unwrap_or (handle_in x) (handle_of ts)) (stand.0.0 taken) ∙ rest.same;
          reply = ap (λ (b : Bool). kept_reply (cond b (Some (record { tag = tag; message = t.message; reply = t.reply })) (kept_of h))) taken ∙ rest.reply;
        }

    by_taken : (b : Bool) → is_taken t ≡ b → (repeats_large None h ≡ true → IsBegun h whole) → IsBegun (Clear tag t d ∷ h) whole
    by_taken true taken rest = taken_begun taken (sym (ap (λ (b : Bool). cond b (is_unseen_effect t.effect) (repeats_large None h)) taken) ∙ is)
    by_taken false taken rest = idle_begun taken (rest (sym (ap (λ (b : Bool). cond b (is_unseen_effect t.effect) (repeats_large None h)) taken) ∙ is))
begun whole (Sealed tag m t reply d ∷ h) stand large is = let rest = begun whole h stand.1 large.1 is in record { carried = rest.carried; handle = rest.handle; byte = rest.byte; large = rest.large; given = rest.given; same = rest.same; reply = rest.reply }
begun whole (Queued bytes ∷ h) stand large is = absurd stand.0
begun whole (Ticked seconds ∷ h) stand large is = absurd stand.0
begun whole (Dropped id ∷ h) stand large is = let rest = begun whole h stand.1 large.1 is in record { carried = rest.carried; handle = rest.handle; byte = rest.byte; large = rest.large; given = rest.given; same = rest.same; reply = rest.reply }

first_more : (transfer : ℕ) (whole : List ℕ) → 42 ≤ transfer → nat_lt 0 (chunk_count transfer whole) ≡ true
first_more transfer whole low =
    let around = div_ceil_times (length whole + 4) (unit_of transfer) (omega (arith, low)) in
    by_count (chunk_count transfer whole) around.0
  where
    by_count : (n : ℕ) → length whole + 4 ≤ n * unit_of transfer → nat_lt 0 n ≡ true
    by_count zero reaches = absurd (omega (arith, reaches))
    by_count (suc n) reaches = lt-ltb 0 (suc n) (omega arith)

-- So it is ready, where chunks are in common.
pub ready_begins : (h : History) (whole : List ℕ) → Settles h → (b : IsBegun h whole) → length whole ≤ 4096 → (common_at (clear_turns h)).chunk ≡ true → IsReady h whole b.handle 0
ready_begins h whole settles b short chunks =
    let n : Negotiation = negotiation_of (clear_turns (with_large None whole h)) in
    let both : (common_at (clear_turns (with_large None whole h))).chunk ≡ true = ap (λ (c : Common). c.chunk) (common_given whole h settles) ∙ chunks in
    let low = chunk_sized n both in
    record {
      byte = b.byte;
      short = short;
      chunks = both;
      large = b.large;
      given = b.given;
      same = b.same;
      more = first_more (terms_of n).common.to_requester.transfer whole low;
    }
