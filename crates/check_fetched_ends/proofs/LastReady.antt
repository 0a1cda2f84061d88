-- All chunks of a large response may be asked for again after its request, whatever bytes it has.
use Rattle.std.proofs.Common.{◌≡◌, ◌≢◌, ◌≤◌, ◌<◌, ◌+◌, ◌^◌, ◌==◌, ◌&&◌, ◌||◌, ◌++◌, ◌∙◌, ℕ, zero, suc, List, [], ◌∷◌, refl, sym, ap, subst, length, arith, drop, Bool, true, false, Option, Some, None, cond, is_some, is_none}
use Rattle.std.specs.Prelude.{nat_lt, not, bytes_eq, slice_index, unwrap_or}
use Rattle.std.proofs.lemmas.Bool.{false≢true, lt-ltb, ltb-true}
use Rattle.std.proofs.lemmas.Bool.Decides.{nat_tests}
use Rattle.std.proofs.lemmas.Slice.Eq.{bytes_eq-Decides}
use Rattle.byteorder.specs.Endian.{little_bytes, little_number}
use Rattle.check_responder.specs.ClearAnswers.{tells_get}
use Rattle.chunking.specs.Cutting.{chunk_count}
use Rattle.check_fetched_laws.proofs.GetSteps.{next_of}
use Rattle.check_fetched_laws.proofs.ReadyGets.{IsBegun, IsReady, LargeStand, begun, common_at, ready_begins, ready_few, ready_next}
use Rattle.check_fetched_laws.proofs.TurnsBoth.{Settles}
use Rattle.check_fetched_laws.specs.ClearChunks.{IsNextGet, get_entry, get_message, get_response}
use Rattle.check_fetched_laws.specs.ClearSessions.{AreGets}
use Rattle.check_fetched_ends.specs.LastHeld.{CanBeGiven, count_at, gets_behind, transfer_at}
use Rattle.responder_machine.specs.History.{Entry, History, Kept, clear_turns, kept_of, negotiation_of}
use Rattle.responder_machine.specs.History.Entry.{Clear, Sealed, Queued, Ticked, Dropped}
use Rattle.responder_machine.specs.LargeMessages.{given_of, handle_of, large_of}
use Rattle.responder_machine.specs.Refusal.{code_of}
use Rattle.responder_machine.specs.Responder.{is_repeat}
use Rattle.responder_machine.specs.Setup.{RspSetup}
use Rattle.responder_machine.specs.Heard.{heard_in, no_id}
use Rattle.responder_machine.specs.Turn.{Effect, Turn, handle_in, is_data, is_taken, takes}
use Rattle.responder_machine.specs.Turn.Effect.{NoEffect, Took, TookData}
use Rattle.spdm_basis.proofs.Bools.{and_second}
use Rattle.spdm_grammar.specs.declared.messages.error_code.ErrorCode.{ErrorCode}
use Rattle.spdm_grammar.specs.declared.told.heard.Heard.TheVariants as heard
use Rattle.spdm_grammar.specs.declared.names.request_code.TheConstants.{CHUNK_GET}
use Rattle.secured_record.proofs.Records.{inner_length}
use Rattle.capture_machine.proofs.SmallGets.{chunk_sized}
use Rattle.capture_machine.proofs.UnseenStands.{UnseenStand}
use Rattle.capture_machine.specs.LargeAnswers.{effect_with, handle_shown, is_unseen_effect, repeats_large, seen_turn, with_large}
use Rattle.capture_machine.specs.Rounds.{no_draw}

-- ---- What stands of a history stands behind its newest entries too.

pub settles_behind : (es : List Entry) (h : History) → Settles (es ++ h) → Settles h
settles_behind [] h all = all
settles_behind (e ∷ es) h all = settles_behind es h all.1

pub unseen_behind : (es : List Entry) (h : History) → UnseenStand (es ++ h) → UnseenStand h
unseen_behind [] h all = all
unseen_behind (e ∷ es) h all = unseen_behind es h all.1

pub large_behind : (es : List Entry) (h : History) → LargeStand (es ++ h) → LargeStand h
large_behind [] h all = all
large_behind (e ∷ es) h all = large_behind es h all.1

bytes_same : (xs ys : List ℕ) → bytes_eq xs ys ≡ true → xs ≡ ys
bytes_same xs ys is = (bytes_eq-Decides xs ys).0 is

-- ---- Two CHUNK_GETs with numbers one apart are no repeat.

number_shown : (handle n : ℕ) → n < 2 ^ 16 → little_number 2 (drop 4 (get_message handle n)) ≡ n
number_shown handle n few = inner_length n [] few

get_other : (handle n : ℕ) → suc n < 2 ^ 16 → bytes_eq (get_message handle n) (get_message handle (suc n)) ≡ false
get_other handle n few = by_same (bytes_eq (get_message handle n) (get_message handle (suc n))) refl
  where
    by_same : (b : Bool) → bytes_eq (get_message handle n) (get_message handle (suc n)) ≡ b → b ≡ false
    by_same false is = refl
    by_same true is =
        let same = bytes_same (get_message handle n) (get_message handle (suc n)) is in
        let shown = ap (λ (l : List ℕ). little_number 2 (drop 4 l)) same in
        let one = number_shown handle n (omega (arith, few)) in
        let two = number_shown handle (suc n) few in
        absurd (omega (arith, shown, one, two))

repeat_not : (k : Kept) (tag : ℕ) (m : List ℕ) → bytes_eq k.message m ≡ false → is_repeat (Some k) tag m ≡ false
repeat_not k tag m other = ap (λ (b : Bool). k.tag == tag && b) other ∙ by_tag (k.tag == tag)
  where
    by_tag : (b : Bool) → (b && false) ≡ false
    by_tag true = refl
    by_tag false = refl

-- ---- CHUNK_GETs leave the handle.

none_in : (o : Option ℕ) (rest : ℕ) → is_some o ≡ false → unwrap_or o rest ≡ rest
none_in None rest is = refl
none_in (Some n) rest is = absurd (false≢true (sym is))

get_handle : (t : Turn) → (takes CHUNK_GET t && not (is_unseen_effect t.effect || is_some (handle_in t.effect))) ≡ true → is_some (handle_in t.effect) ≡ false
get_handle t is = by_parts (is_unseen_effect t.effect) (is_some (handle_in t.effect)) (and_second (takes CHUNK_GET t) _ is)
  where
    by_parts : (a b : Bool) → not (a || b) ≡ true → b ≡ false
    by_parts true b is = absurd (false≢true is)
    by_parts false true is = absurd (false≢true is)
    by_parts false false is = refl

pub gets_handle : (gets : List Entry) (h : History) → AreGets gets → handle_of (clear_turns (gets ++ h)) ≡ handle_of (clear_turns h)
gets_handle [] h are = refl
gets_handle (Clear tag t d ∷ gets) h are = none_in (handle_in t.effect) (handle_of (clear_turns (gets ++ h))) (get_handle t are.0) ∙ gets_handle gets h are.1
gets_handle (Sealed tag m t reply d ∷ gets) h are = absurd (false≢true are.0)
gets_handle (Queued bytes ∷ gets) h are = absurd (false≢true are.0)
gets_handle (Ticked seconds ∷ gets) h are = absurd (false≢true are.0)
gets_handle (Dropped id ∷ gets) h are = absurd (false≢true are.0)

-- ---- The code of a message whose answer went by LargeResponse.

no_data : (x : Effect) → is_some (handle_in x) ≡ true → is_data x ≡ false
no_data NoEffect is = refl
no_data (Took a m answer large) is = refl
no_data (TookData bytes answer) is = absurd (false≢true is)

pub large_code : (t : Turn) → is_some (handle_in t.effect) ≡ true → is_taken t ≡ true → takes CHUNK_GET t ≡ tells_get (heard_in t no_id t.refused) → takes CHUNK_GET t ≡ false → (code_of t.message == CHUNK_GET) ≡ false
large_code t large taken told other =
    ap (λ (b : Bool). tells_get (cond b (heard.Taken no_id) (heard.Answered (code_of t.message)))) (sym (no_data t.effect large))
    ∙ ap (λ (o : Option ErrorCode). tells_get (heard_in t no_id o)) (sym (none_refused t.refused taken)) ∙ sym told ∙ other
  where
    none_refused : (o : Option ErrorCode) → is_none o ≡ true → o ≡ None
    none_refused None is = refl
    none_refused (Some e) is = absurd (false≢true is)

-- ---- The request of a large answer whose bytes were not seen.

pub handle_given : (w : List ℕ) (k : ℕ) (x : Effect) (rest : ℕ) → is_unseen_effect x ≡ true → unwrap_or (handle_in (effect_with w (Some k) x)) rest ≡ k
handle_given w k NoEffect rest is = absurd (false≢true is)
handle_given w k (Took a m old large) rest is = refl
handle_given w k (TookData bytes old) rest is = absurd (false≢true is)

module _ (tag : ℕ) (t : Turn) (un : is_unseen_effect t.effect ≡ true) (before : History) where
  abbrev asked : Entry
  asked = Clear tag t no_draw

  pub turns_are : (other : List ℕ) (k : History) → clear_turns (with_large None other (Clear tag t no_draw ∷ k)) ≡ seen_turn other t ∷ clear_turns k
  turns_are other k = ap (λ (b : Bool). clear_turns (cond b (Clear tag (seen_turn other t) no_draw ∷ k) (asked ∷ with_large None other k))) un

  module _ (settles : Settles (Clear tag t no_draw ∷ before)) (stand : UnseenStand (Clear tag t no_draw ∷ before)) (large : LargeStand (Clear tag t no_draw ∷ before)) (chunks : (common_at (clear_turns (Clear tag t no_draw ∷ before))).chunk ≡ true) where
    taken : is_taken t ≡ true
    taken = (stand.0.1 un).taken

    last : repeats_large None (asked ∷ before) ≡ true
    last = ap (λ (b : Bool). cond b (is_unseen_effect t.effect) (repeats_large None before)) taken ∙ un

    abbrev begun_is : (other : List ℕ) → IsBegun (asked ∷ before) other
    begun_is other = begun other (asked ∷ before) stand large last

    handle_is : (other : List ℕ) → (begun_is other).handle ≡ handle_shown t
    handle_is other = sym (begun_is other).same ∙ ap handle_of (turns_are other before) ∙ handle_given other (handle_shown t) t.effect (handle_of (clear_turns before)) un

    pub ready_there : (other : List ℕ) → length other ≤ 4096 → IsReady (Clear tag t no_draw ∷ before) other (handle_shown t) 0
    ready_there other few = subst (λ (n : ℕ). IsReady (asked ∷ before) other n 0) (handle_is other) (ready_begins (asked ∷ before) other settles (begun_is other) few chunks)

    -- Nothing depends on the sessions.
    pub ready_moved : (other : List ℕ) (k : History) → length other ≤ 4096 → clear_turns k ≡ clear_turns before → IsReady (Clear tag t no_draw ∷ k) other (handle_shown t) 0
    ready_moved other k few same =
        let is = ready_there other few in
        let back : clear_turns (with_large None other (asked ∷ before)) ≡ clear_turns (with_large None other (asked ∷ k)) = turns_are other before ∙ ap (λ (l : List Turn). seen_turn other t ∷ l) (sym same) ∙ sym (turns_are other k) in
        record {
          byte = is.byte;
          short = is.short;
          chunks = subst (λ (l : List Turn). (common_at l).chunk ≡ true) back is.chunks;
          large = subst (λ (l : List Turn). large_of l ≡ Some other) back is.large;
          given = subst (λ (l : List Turn). given_of l ≡ 0) back is.given;
          same = subst (λ (l : List Turn). handle_of l ≡ handle_shown t) back is.same;
          more = subst (λ (l : List Turn). nat_lt 0 (chunk_count (common_at l).to_requester.transfer other) ≡ true) back is.more;
        }

    -- It is no CHUNK_GET.
    pub not_get : (k : History) (round handle number : ℕ) → (code_of t.message == CHUNK_GET) ≡ false → is_repeat (kept_of (Clear tag t no_draw ∷ k)) round (get_message handle number) ≡ false
    not_get k round handle number code =
        ap (λ (b : Bool). is_repeat (cond b (Some (record { tag = tag; message = t.message; reply = t.reply })) (kept_of k)) round (get_message handle number)) taken
        ∙ repeat_not (record { tag = tag; message = t.message; reply = t.reply }) round (get_message handle number) (by_same (bytes_eq t.message (get_message handle number)) refl)
      where
        by_same : (b : Bool) → bytes_eq t.message (get_message handle number) ≡ b → b ≡ false
        by_same false is = refl
        by_same true is = absurd (false≢true (sym code ∙ ap (λ (l : List ℕ). code_of l == CHUNK_GET) (bytes_same t.message (get_message handle number) is)))

-- ---- All chunks, one behind the other.

pub add_one : (n : ℕ) → n + 1 ≡ suc n
add_one n = omega arith

-- They leave the transfer size.
pub transfer_on : (tag handle : ℕ) (whole : List ℕ) (h : History) (n : ℕ) → transfer_at (gets_behind tag handle whole h n) whole ≡ transfer_at h whole
transfer_on tag handle whole h zero = refl
transfer_on tag handle whole h (suc n) = transfer_on tag handle whole h n

module _ (r : RspSetup) (room : 6 ≤ r.transfer) (h : History) (whole : List ℕ) (tag handle : ℕ) (ready : IsReady h whole handle 0) (anew : is_repeat (kept_of h) tag (get_message handle 0) ≡ false) where
  ready_at : (n : ℕ) → n < count_at h whole → IsReady (gets_behind tag handle whole h n) whole handle n
  ready_at zero within = ready
  ready_at (suc n) within =
      let more = lt-ltb (n + 1) (count_at h whole) (omega (arith, within)) in
      subst (IsReady (gets_behind tag handle whole h (suc n)) whole handle) (add_one n)
      (ready_next (gets_behind tag handle whole h n) whole tag handle n (ready_at n (omega (arith, within)))
      (ap (λ (x : ℕ). nat_lt (n + 1) (chunk_count x whole)) (transfer_on tag handle whole h n) ∙ more))

  anew_at : (n : ℕ) → n < 2 ^ 16 → is_repeat (kept_of (gets_behind tag handle whole h n)) tag (get_message handle n) ≡ false
  anew_at zero few = anew
  anew_at (suc n) few =
      let g : History = gets_behind tag handle whole h n in
      repeat_not (record { tag = tag; message = get_message handle n; reply = get_response g whole handle n }) tag (get_message handle (suc n)) (get_other handle n few)

  pub can_be_given : CanBeGiven r h whole tag handle
  can_be_given =
      let low = chunk_sized (negotiation_of (clear_turns (with_large None whole h))) ready.chunks in
      let more = ready.more in
      record {
        short = ready.short;
        wide = omega (arith, low);
        some = ltb-true 0 (count_at h whole) ready.more;
        next = λ n within.
            let is = ready_at n within in
            next_of r room (gets_behind tag handle whole h n) whole [] tag handle n is (anew_at n (ready_few (gets_behind tag handle whole h n) whole handle n is));
      }
