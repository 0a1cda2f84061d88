-- After another request that a session takes, the large response that was fetched there is one that went by
-- LargeResponse, and of which no chunk is left: that is all by which it differs from the session in which that answer
-- was never seen.
use Rattle.std.proofs.Common.{◌≡◌, ◌≢◌, ◌+◌, ◌||◌, ℕ, List, [], ◌∷◌, refl, sym, ap, ◌∙◌, drop, Bool, true, false, Option, Some, None, is_some, cond}
use Rattle.std.specs.Prelude.{not, unwrap_or}
use Rattle.std.proofs.lemmas.Bool.{false≢true}
use Rattle.chunking.specs.Cutting.{chunks_of}
use Rattle.responder_core.proofs.PutAnswers.{own_same, was_unseen}
use Rattle.check_fetched_laws.proofs.PutBytes.{forgotten_is}
use Rattle.check_fetched_laws.specs.JudgedFor.{IsMeasured, session_with}
use Rattle.responder_rules.proofs.Replaced.{forgotten}
use Rattle.responder_rules.specs.LargeAnswer.{last_takes, left_by, turn_unseen}
use Rattle.responder_machine.specs.History.{History}
use Rattle.responder_machine.specs.LargeMessages.{given_of, handle_of, large_of, larges_of}
use Rattle.responder_machine.specs.Session.{Events, session_of, session_terms, turns_of}
use Rattle.responder_machine.specs.Session.Event.{Heard}
use Rattle.responder_machine.specs.Turn.{Effect, Turn, answer_in, handle_in, is_data, is_taken, large_in, request_in, takes, updates}
use Rattle.responder_machine.specs.Turn.Effect.{NoEffect, Took, TookData}
use Rattle.responder_session.proofs.Pendings.{forgotten_alike, turns_forgotten}
use Rattle.responder_session.specs.Data.{data_in}
use Rattle.responder_session.specs.Pending.{IsAlike, IsUncounted, events_unseen}
use Rattle.spdm_grammar.specs.declared.names.request_code.TheConstants.{CHUNK_GET, GET_MEASUREMENTS, KEY_UPDATE, PSK_FINISH}
use Rattle.spdm_grammar.specs.declared.told.phase.Stage.{Stage}
use Rattle.spdm_grammar.specs.declared.told.phase.Stage.TheVariants.{Open, Verifying}
use Rattle.capture_machine.proofs.ChunksGiven.{given_idle, large_idle, large_other}

-- ---- One more turn, which gives no chunk, and does not go by LargeResponse.

no_large : (x : Effect) → is_some (handle_in x) ≡ false → large_in x ≡ None
no_large NoEffect small = refl
no_large (Took a m answer None) small = refl
no_large (Took a m answer (Some handle)) small = absurd (false≢true (sym small))
no_large (TookData bytes answer) small = refl

no_handle : (o : Option ℕ) → is_some o ≡ false → o ≡ None
no_handle None small = refl
no_handle (Some n) small = absurd (false≢true (sym small))

left_same : (transfer : ℕ) (l k : List Turn) (o : Option (List ℕ)) → given_of l ≡ given_of k → handle_of l ≡ handle_of k → left_by transfer l o ≡ left_by transfer k o
left_same transfer l k None given handle = refl
left_same transfer l k (Some answer) given handle =
    ap (λ (n : ℕ). drop n (chunks_of transfer (handle_of l) answer)) given ∙ ap (λ (n : ℕ). drop (given_of k) (chunks_of transfer n answer)) handle

module _ (transfer : ℕ) (t : Turn) (none : takes CHUNK_GET t ≡ false) (small : is_some (handle_in t.effect) ≡ false) where
  -- Taken, it leaves nothing of what was there.
  left_taken : (ts : List Turn) → is_taken t ≡ true → left_by transfer (t ∷ ts) (large_of (t ∷ ts)) ≡ []
  left_taken ts taken = ap (left_by transfer (t ∷ ts)) (large_other t ts taken none ∙ no_large t.effect small)

  -- Refused, it leaves as much.
  left_refused : (ts : List Turn) → is_taken t ≡ false → left_by transfer (t ∷ ts) (large_of (t ∷ ts)) ≡ left_by transfer ts (large_of ts)
  left_refused ts refused =
      ap (left_by transfer (t ∷ ts)) (large_idle t ts refused)
      ∙ left_same transfer (t ∷ ts) ts (large_of ts) (given_idle t ts refused) (ap (λ (o : Option ℕ). unwrap_or o (handle_of ts)) (no_handle (handle_in t.effect) small))

  larges_same : (ts : List Turn) → larges_of (t ∷ ts) ≡ larges_of ts
  larges_same ts = ap (λ (b : Bool). cond b (larges_of ts + 1) (larges_of ts)) small

-- ---- One more record.

heard_alike : (m : List ℕ) (t : Turn) (reply : List ℕ) (s u : Events) → IsAlike s u → IsAlike (Heard m t reply ∷ s) (Heard m t reply ∷ u)
heard_alike m t reply s u a = record {
  live = refl;
  negotiation = a.negotiation;
  exchange = a.exchange;
  answer = a.answer;
  stage = ap (λ (x : Stage). cond (takes PSK_FINISH t) Open (cond (updates 3 t) Open (cond (takes KEY_UPDATE t) Verifying x))) a.stage;
  finish = ap (cond (takes PSK_FINISH t) (request_in t.effect)) a.finish;
  finished = ap (cond (takes PSK_FINISH t) (answer_in t.effect)) a.finished;
  request_epoch = ap (λ (n : ℕ). cond (updates 1 t || updates 2 t) (n + 1) n) a.request_epoch;
  response_epoch = ap (λ (n : ℕ). cond (updates 2 t) (n + 1) n) a.response_epoch;
  request_next = ap (λ (n : ℕ). cond (takes PSK_FINISH t || updates 1 t || updates 2 t) 0 (n + 1)) a.request_next;
  response_next = ap (λ (n : ℕ). cond (takes PSK_FINISH t) 0 (cond (updates 2 t) 1 (n + 1))) a.response_next;
  taken = ap (λ (n : ℕ). cond (is_data t.effect) (n + 1) n) a.taken;
  last = refl;
  held = ap (data_in t.effect) a.held;
  idle = refl;
}

-- The session differs so already.
pub uncounted_more : (m : List ℕ) (t : Turn) (reply : List ℕ) (s u : Events) → takes CHUNK_GET t ≡ false → is_some (handle_in t.effect) ≡ false → IsUncounted s u → IsUncounted (Heard m t reply ∷ s) (Heard m t reply ∷ u)
uncounted_more m t reply s u none small is = record {
  alike = heard_alike m t reply s u is.alike;
  large = record {
    left = by_taken (is_taken t) refl;
    count = larges_same transfer t none small (turns_of s) ∙ is.large.count ∙ sym (ap (λ (n : ℕ). n + 1) (larges_same transfer t none small (turns_of u)));
  };
}
  where
    transfer : ℕ
    transfer = (session_terms s).common.to_requester.transfer

    by_taken : (b : Bool) → is_taken t ≡ b → left_by transfer (t ∷ turns_of s) (large_of (t ∷ turns_of s)) ≡ left_by transfer (t ∷ turns_of u) (large_of (t ∷ turns_of u))
    by_taken true taken = left_taken transfer t none small (turns_of s) taken ∙ sym (left_taken transfer t none small (turns_of u) taken)
    by_taken false refused = left_refused transfer t none small (turns_of s) refused ∙ is.large.left ∙ sym (left_refused transfer t none small (turns_of u) refused)

-- The large response was pending, and the record was taken.
pub uncounted_first : (m : List ℕ) (t : Turn) (reply : List ℕ) (s : Events) → is_some (large_of (turns_of s)) ≡ true → last_takes GET_MEASUREMENTS (turns_of s) ≡ true → is_taken t ≡ true → takes CHUNK_GET t ≡ false
    → is_some (handle_in t.effect) ≡ false → IsUncounted (Heard m t reply ∷ s) (Heard m t reply ∷ events_unseen s)
uncounted_first m t reply s some measured taken none small =
    let transfer : ℕ = (session_terms s).common.to_requester.transfer in
    let u : Events = events_unseen s in
    let fewer : larges_of (turns_of s) ≡ larges_of (turns_of u) + 1 = (forgotten (turns_of s) some).larges ∙ sym (ap (λ (l : List Turn). larges_of l + 1) (turns_forgotten s)) in record {
      alike = heard_alike m t reply s u (forgotten_alike s measured);
      large = record {
        left = left_taken transfer t none small (turns_of s) taken ∙ sym (left_taken transfer t none small (turns_of u) taken);
        count = larges_same transfer t none small (turns_of s) ∙ fewer ∙ sym (ap (λ (n : ℕ). n + 1) (larges_same transfer t none small (turns_of u)));
      };
    }

-- ---- One more turn, whose answer goes by LargeResponse.

given_new : (t : Turn) (ts us : List Turn) → is_taken t ≡ true → takes CHUNK_GET t ≡ false → given_of (t ∷ ts) ≡ given_of (t ∷ us)
given_new t ts us taken none =
    let given : Bool → Bool → List Turn → ℕ = λ b c l. cond (not b) (given_of l) (cond c (given_of l + 1) 0) in
    ap (λ (b : Bool). given b (takes CHUNK_GET t) ts) taken
    ∙ ap (λ (c : Bool). given true c ts) none
    ∙ sym (ap (λ (c : Bool). given true c us) none)
    ∙ sym (ap (λ (b : Bool). given b (takes CHUNK_GET t) us) taken)

handle_new : (o : Option ℕ) (n k : ℕ) → is_some o ≡ true → unwrap_or o n ≡ unwrap_or o k
handle_new None n k some = absurd (false≢true some)
handle_new (Some handle) n k some = refl

-- Its chunks are left, whatever was there.
left_new : (transfer : ℕ) (t : Turn) (ts us : List Turn) → is_taken t ≡ true → takes CHUNK_GET t ≡ false → is_some (handle_in t.effect) ≡ true → left_by transfer (t ∷ ts) (large_of (t ∷ ts)) ≡ left_by transfer (t ∷ us) (large_of (t ∷ us))
left_new transfer t ts us taken none large =
    ap (left_by transfer (t ∷ ts)) (large_other t ts taken none)
    ∙ left_same transfer (t ∷ ts) (t ∷ us) (large_in t.effect) (given_new t ts us taken none) (handle_new (handle_in t.effect) (handle_of ts) (handle_of us) large)
    ∙ sym (ap (left_by transfer (t ∷ us)) (large_other t us taken none))

larges_new : (t : Turn) (ts : List Turn) → is_some (handle_in t.effect) ≡ true → larges_of (t ∷ ts) ≡ larges_of ts + 1
larges_new t ts large = ap (λ (b : Bool). cond b (larges_of ts + 1) (larges_of ts)) large

-- After it the sessions differ by the answer before it alone.
pub uncounted_turned : (m : List ℕ) (t : Turn) (reply : List ℕ) (s u : Events) → is_taken t ≡ true → takes CHUNK_GET t ≡ false → is_some (handle_in t.effect) ≡ true → IsAlike s u → larges_of (turns_of s) ≡ larges_of (turns_of u) + 1
    → IsUncounted (Heard m t reply ∷ s) (Heard m t reply ∷ u)
uncounted_turned m t reply s u taken none large alike more = record {
  alike = heard_alike m t reply s u alike;
  large = record {
    left = left_new (session_terms s).common.to_requester.transfer t (turns_of s) (turns_of u) taken none large;
    count = larges_new t (turns_of s) large ∙ ap (λ (n : ℕ). n + 1) more ∙ sym (ap (λ (n : ℕ). n + 1) (larges_new t (turns_of u) large));
  };
}

-- Where a large response is pending, it counts.
pub pending_counts : (s : Events) → is_some (large_of (turns_of s)) ≡ true → larges_of (turns_of s) ≡ larges_of (turns_of (events_unseen s)) + 1
pending_counts s some = (forgotten (turns_of s) some).larges ∙ sym (ap (λ (l : List Turn). larges_of l + 1) (turns_forgotten s))

pub pending_alike : (s : Events) → last_takes GET_MEASUREMENTS (turns_of s) ≡ true → IsAlike s (events_unseen s)
pending_alike s measured = forgotten_alike s measured

-- ---- The session in which the answer was not seen.

pub session_unseen : (id : ℕ) (h : History) (x y : List ℕ) → x ≢ y → IsMeasured id h x → IsMeasured id h y → session_of id h ≡ events_unseen (session_with id h x)
session_unseen id h x y apart one two =
    ap (session_of id) (sym (forgotten_is id x y apart h (one.large, two.large))) ∙ own_same turn_unseen was_unseen id _ one.measured
