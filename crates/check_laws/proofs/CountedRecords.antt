-- How a change counts the records of a row.
use Rattle.std.proofs.Common.{◌≡◌, ◌∙◌, ◌==◌, ◌&&◌, ◌+◌, ◌-◌, ◌^◌, ◌<◌, ℕ, List, [], ◌∷◌, Bool, true, false, cond, Option, Some, None, length, refl, ap, sym, lt-ltb, eqb-true, eq-eqb}
use Rattle.std.specs.Prelude.{nat_lt}
use Rattle.std.proofs.lemmas.Bool.{false≢true}
use Rattle.requester_machine.specs.History as requester_history
use Rattle.requester_machine.specs.Message.{Aim, Sent}
use Rattle.requester_machine.specs.Message.Aim.{Plain, ByChunks, ForChunk, InSession}
use Rattle.responder_machine.specs.History.{History}
use Rattle.responder_machine.specs.History.Entry.{Clear, Sealed, Queued, Ticked, Dropped}
use Rattle.responder_machine.specs.Session.{id_in_record}
use Rattle.check_laws.specs.Changes.{answered_between, answered_in, asked_between, asked_by, session_in}
use Rattle.check_laws.specs.Rows.{one_more}
use Rattle.capture_machine.specs.Rounds.{Dialogue, Round}
use Rattle.capture_machine.specs.SessionTable.{is_named, is_new, is_of, last_reply, reply_between, request_between, request_by, with_one}

-- Below the largest number.
one_more_is : (count : ℕ) → count < 2 ^ 64 - 1 → one_more count ≡ count + 1
one_more_is count few = ap (λ b. cond b (count + 1) count) (lt-ltb count (2 ^ 64 - 1) few)

-- One more where something is so.
abbrev pub with_more : Bool → ℕ → ℕ
with_more b count = cond b (one_more count) count

either_reply : (b : Bool) (reply : List ℕ) (count : ℕ) → count < 2 ^ 64 - 1 → with_one (cond b (Some reply) None) count ≡ with_more b count
either_reply true reply count few = sym (one_more_is count few)
either_reply false reply count few = refl

last_counts : (id : ℕ) (h : History) (count : ℕ) → count < 2 ^ 64 - 1 → with_one (last_reply id h) count ≡ with_more (is_named (answered_in h) (Some id)) count
last_counts id [] count few = refl
last_counts id (Clear tag t d ∷ older) count few = refl
last_counts id (Sealed tag sealed t reply d ∷ older) count few = either_reply (id_in_record sealed == id) reply count few
last_counts id (Queued bytes ∷ older) count few = refl
last_counts id (Ticked seconds ∷ older) count few = refl
last_counts id (Dropped which ∷ older) count few = refl

module _ (before after : Dialogue) where
  longer_counts : (b : Bool) (id count : ℕ) → count < 2 ^ 64 - 1
      → with_one (cond b (last_reply id after.responder) None) count ≡ with_more (is_named (cond b (answered_in after.responder) None) (Some id)) count
  longer_counts true id count few = last_counts id after.responder count few
  longer_counts false id count few = refl

  pub answer_counts : (id count : ℕ) → count < 2 ^ 64 - 1 → with_one (reply_between before after id) count ≡ with_more (is_named (answered_between before after) (Some id)) count
  answer_counts id count few = longer_counts (nat_lt (length before.responder) (length after.responder)) id count few

  pub none_named : (asks : Option ℕ) → is_named asks None ≡ false
  none_named None = refl
  none_named (Some id) = refl

  turned : (one other : ℕ) → (one == other) ≡ (other == one)
  turned one other = by_cases (one == other) refl (other == one) refl
    where
      by_cases : (x : Bool) → (one == other) ≡ x → (y : Bool) → (other == one) ≡ y → (one == other) ≡ (other == one)
      by_cases true is true are = is ∙ sym are
      by_cases false is false are = is ∙ sym are
      by_cases true is false are = absurd (false≢true (sym are ∙ eq-eqb other one (sym (eqb-true _ _ is))))
      by_cases false is true are = absurd (false≢true (sym is ∙ eq-eqb one other (sym (eqb-true _ _ are))))

  aim_counts : (id : ℕ) (body : List ℕ) (sent : Option Sent) (count : ℕ) → count < 2 ^ 64 - 1 → with_one (cond (is_of id sent) (Some body) None) count ≡ with_more (is_named (Some id) (session_in sent)) count
  aim_counts id body None count few = refl
  aim_counts id body (Some sent) count few = by_aim sent.aim
    where
      by_aim : (aim : Aim) → with_one (cond (is_of id (Some (record sent { aim = aim }))) (Some body) None) count ≡ with_more (is_named (Some id) (session_in (Some (record sent { aim = aim })))) count
      by_aim (Plain asked) = refl
      by_aim (ByChunks asked handle number) = refl
      by_aim (ForChunk asked handle number before) = refl
      by_aim (InSession of ask) = either_reply (of == id) body count few ∙ ap (λ b. with_more b count) (turned of id)

  new_counts : (b : Bool) (id : ℕ) (body : List ℕ) (sent : Option Sent) (count : ℕ) → count < 2 ^ 64 - 1
      → with_one (cond (b && is_of id sent) (Some body) None) count ≡ with_more (is_named (Some id) (cond b (session_in sent) None)) count
  new_counts true id body sent count few = aim_counts id body sent count few
  new_counts false id body sent count few = refl

  round_counts : (id : ℕ) (round : Option Round) (count : ℕ) → count < 2 ^ 64 - 1 → with_one (request_by before after id round) count ≡ with_more (is_named (Some id) (asked_by before after round)) count
  round_counts id None count few = refl
  round_counts id (Some round) count few = new_counts (is_new before.round round) id round.body (requester_history.outstanding after.requester) count few

  pub request_counts : (asks : Option ℕ) (count : ℕ) → count < 2 ^ 64 - 1 → with_one (request_between before after asks) count ≡ with_more (is_named asks (asked_between before after)) count
  request_counts None count few = refl
  request_counts (Some id) count few = round_counts id after.round count few
