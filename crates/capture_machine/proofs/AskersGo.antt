-- The chunks of a large request one after another, and a request of one body from any requesters that are alike.
use Rattle.std.proofs.Common.{◌≡◌, ◌<◌, ◌+◌, ◌%◌, ◌==◌, ◌⊎◌, ℕ, List, refl, sym, ap, ◌∙◌, subst, length, Bool, true, false, Option, Some, None, arith, cond, inl, inr, eqb-true}
use Rattle.std.specs.Prelude.{not, slice_index}
use Rattle.std.specs.Bool.{OnTrue}
use Rattle.std.proofs.lemmas.Bool.{false≢true}
use Rattle.std.proofs.lemmas.Option.{none-some, same_Some}
use Rattle.chunking.specs.Cutting.{nth_chunk, chunk_count}
use Rattle.std.specs.Int.{div_ceil}
use Rattle.chunking.specs.Cutting.{unit_of}
use Rattle.spdm_grammar.specs.Message.{RequestMessage}
use Rattle.spdm_grammar.specs.Message.RequestMessage.{GetVersion}
use Rattle.spdm_grammar.specs.Requests.{canonical_request}
use Rattle.spdm_machine.specs.Bodies.{clear_body}
use Rattle.spdm_machine.specs.Terms.{Terms}
use Rattle.requester_machine.specs.Answers.{goes_on}
use Rattle.requester_machine.specs.Setup.{ReqSetup}
use Rattle.requester_machine.specs.History.{History, outstanding, next_tag, begins_large}
use Rattle.requester_machine.specs.History.Effect.{Nothing}
use Rattle.requester_machine.specs.History.Entry.{TookClear}
use Rattle.requester_machine.specs.Message.{Command, Sent, body_of}
use Rattle.requester_machine.specs.Message.Aim.{ByChunks}
use Rattle.requester_machine.specs.Message.Command.{Connect}
use Rattle.responder_machine.specs.History as responder_history
use Rattle.capture_machine.specs.CapturedRequests.{Sends, Tells, GoesOn, BeginsLarge, BeginsOwed, owes}
use Rattle.requester_machine.specs.Owed.{with_next}
use Rattle.capture_machine.specs.LargeRequests.{IsJudgedAtLast, piece_with, is_last_piece, still_sending}
use Rattle.capture_machine.specs.Rounds.{Dialogue, Round, no_draw, new_round}
use Rattle.capture_machine.proofs.Agrees.{Counted, Agree, counted_with}
use Rattle.capture_machine.proofs.ChunksTell.{SameBelow, whole_told}
use Rattle.capture_machine.proofs.SentFacts.{large_free}
use Rattle.capture_machine.proofs.AskersAlike.{UnderWay, AskersAlike, transfer_of, acked, piece_tells, below_next, under_way_next}
use Rattle.capture_machine.proofs.AskersAlike.AskersAlike.{Shown}
use Rattle.capture_machine.proofs.AskersBegin.{dial, same_later, tag_follows, settled_by}
use Rattle.capture_machine.proofs.AskersStep.{settled_sends, connects_settle, connect_body, into}

-- ---- A chunk was sent, and its acknowledgement is awaited.

connect_only : (q : ReqSetup) (h : History) (s : Sent) (body : List ℕ) (next : History) (c : Command) → outstanding h ≡ Some s → (c ≡ Connect) ⊎ (outstanding h ≡ None) → Tells q h c body next → Tells q h Connect body next
connect_only q h s body next c waits (inl is) tells = subst (λ (x : Command). Tells q h x body next) is tells
connect_only q h s body next c waits (inr none) tells = absurd (none-some s (sym none ∙ waits))

shown_sends : (d : Dialogue) (s : Sent) (body : List ℕ) (next : History) (sending : Option (List ℕ)) → outstanding d.requester ≡ Some s
    → (((c : Command) × ((c ≡ Connect) ⊎ (outstanding d.requester ≡ None)) × Tells d.setup d.requester c body next) × (sending ≡ None)) ⊎ ((w : List ℕ) × BeginsLarge d body next w × (sending ≡ Some w))
    → Tells d.setup d.requester Connect body next × (sending ≡ None)
shown_sends d s body next sending waits (inl a) = (connect_only d.setup d.requester s body next a.0.0 waits a.0.1 a.0.2, a.1)
shown_sends d s body next sending waits (inr a) =
    absurd (none-some s (sym (large_free d.setup d.requester a.1.3.0 a.1.0 a.1.1 no_draw a.1.3.2 a.1.4) ∙ waits))

pub shown_step : (q : ReqSetup) (h g : History) (s t : Sent) (r x : responder_history.History) (round : Option Round) (sd se fd fe : Option (List ℕ)) (tag : ℕ) (body : List ℕ) (next other : History) (sending sends : Option (List ℕ))
    → Counted h g → outstanding h ≡ Some s → outstanding g ≡ Some t → next_tag h ≡ tag → owes (dial q h r round sd fd) ≡ false → owes (dial q g x round se fe) ≡ false
    → Sends (dial q h r round sd fd) body next sending → Sends (dial q g x round se fe) body other sends → AskersAlike (Some (new_round tag body)) next other sending sends
shown_step q h g s t r x round sd se fd fe tag body next other sending sends counted waits wait at not nor one two =
    let a = shown_sends (dial q h r round sd fd) s body next sending waits (settled_sends (dial q h r round sd fd) body next sending not one) in
    let b = shown_sends (dial q g x round se fe) t body other sends wait (settled_sends (dial q g x round se fe) body other sends nor two) in
    into _ next other sending sends None None a.1 b.1 (connects_settle q h g body next other tag counted at a.0 b.0)

-- ---- The next chunk is owed.

not_first : (number : ℕ) → (number + 1 == 0) ≡ true → ⊥
not_first number is = let e = eqb-true (number + 1) 0 is in omega arith

at_true : (b : Bool) (P : Type 0) → b ≡ true → OnTrue b P → P
at_true true P is on = on
at_true false P is on = absurd (false≢true is)

-- The last chunk tells all of the request.
last_settles : (tag0 : ℕ) (m : List ℕ) (h g : History) (w v : List ℕ) (a b : RequestMessage) (handle number : ℕ) → UnderWay h g w v a b handle number
    → (nth_chunk (transfer_of h) handle w (number + 1)).chunk ≡ (nth_chunk (transfer_of h) handle v (number + 1)).chunk
    → number + 1 + 1 ≡ chunk_count (transfer_of h) w → w ≡ canonical_request a → v ≡ canonical_request b
    → Agree (acked tag0 m a w handle (number + 1) h) (acked tag0 m b v handle (number + 1) g)
last_settles tag0 m h g w v a b handle number u here last one two =
    let below = below_next (transfer_of h) handle (number + 1) w v u.parts here in
    let all : SameBelow (transfer_of h) handle w v (chunk_count (transfer_of h) w) = subst (SameBelow (transfer_of h) handle w v) last below in
    let bytes : w ≡ v = whole_told (transfer_of h) handle w v u.size (omega arith) all in
    let asks : a ≡ b = u.asked (sym one ∙ bytes ∙ two) in
    (under_way_next tag0 m h g w v a b handle number u here).resolves asks bytes

module _ (q : ReqSetup) (tag0 : ℕ) (m : List ℕ) (h g : History) (w v : List ℕ) (a b : RequestMessage) (handle number : ℕ) (u : UnderWay h g w v a b handle number)
    (r x : responder_history.History) (round : Option Round) (fd fe : Option (List ℕ)) (tag : ℕ) (body : List ℕ) (next other : History) (sending sends : Option (List ℕ)) (at : next_tag h ≡ tag) where
  abbrev mine : History
  mine = acked tag0 m a w handle (number + 1) h

  abbrev yours : History
  yours = acked tag0 m b v handle (number + 1) g

  abbrev p : Sent
  p = piece_with h a w handle (number + 1)

  abbrev o : Sent
  o = piece_with g b v handle (number + 1)

  abbrev one : Dialogue
  one = dial q mine r round (Some w) fd

  abbrev two : Dialogue
  two = dial q yours x round (Some v) fe

  tags : p.tag ≡ o.tag
  tags = ap (λ (n : ℕ). n % 8) u.counted.sent

  by_last : (l k : Bool) → is_last_piece mine w (ByChunks a handle (number + 1)) ≡ l → is_last_piece yours v (ByChunks b handle (number + 1)) ≡ k → l ≡ k
      → (nth_chunk (transfer_of h) handle w (number + 1)).chunk ≡ (nth_chunk (transfer_of h) handle v (number + 1)).chunk
      → IsJudgedAtLast q mine w (ByChunks a handle (number + 1)) → IsJudgedAtLast q yours v (ByChunks b handle (number + 1))
      → next ≡ mine → other ≡ yours → sending ≡ cond l None (Some w) → sends ≡ cond k None (Some v) → AskersAlike (Some (new_round tag body)) next other sending sends
  by_last true true is are same here judged judge after behind under over =
      let asks = at_true _ _ is judged in
      let ask = at_true _ _ are judge in
      let agree = last_settles tag0 m h g w v a b handle number u here (eqb-true _ _ is) asks.0 ask.0 in
      let P : History → Type 0 = λ l. Agree l yours in
      let Q : History → Type 0 = λ l. Agree next l in
      into _ next other sending sends None None under over
      (settled_by h g next other tag body (TookClear tag0 m (goes_on Nothing p) no_draw) p (subst Q (sym behind) (subst P (sym after) agree)) after refl refl at)
  by_last false false is are same here judged judge after behind under over =
      let way = under_way_next tag0 m h g w v a b handle number u here in
      let shown : AskersAlike (Some (new_round tag body)) mine yours (Some w) (Some v) =
      Shown mine yours w v a b handle (number + 1) p o way refl refl refl refl tags (same_later tag body p at)
      (tag_follows h (TookClear tag0 m (goes_on Nothing p) no_draw) p tag body refl at) in
      let P : History → Type 0 = λ l. AskersAlike (Some (new_round tag body)) l yours (Some w) (Some v) in
      let Q : History → Type 0 = λ l. AskersAlike (Some (new_round tag body)) next l (Some w) (Some v) in
      into _ next other sending sends (Some w) (Some v) under over (subst Q (sym behind) (subst P (sym after) shown))
  by_last true false is are same here judged judge after behind under over = absurd (false≢true (sym same))
  by_last false true is are same here judged judge after behind under over = absurd (false≢true same)

  lasts : is_last_piece mine w (ByChunks a handle (number + 1)) ≡ is_last_piece yours v (ByChunks b handle (number + 1))
  lasts =
      ap (λ (t : Terms). number + 1 + 1 == div_ceil (length w + 4) (unit_of t.common.to_responder.transfer)) u.terms
      ∙ ap (λ (n : ℕ). number + 1 + 1 == div_ceil (n + 4) (unit_of (transfer_of g))) u.size

  pub due_step : (Tells q (with_next None mine) Connect body next × (sending ≡ None)) ⊎ (GoesOn one body next sending ⊎ ((z : List ℕ) × BeginsOwed one body next z × (sending ≡ Some z)))
      → (Tells q (with_next None yours) Connect body other × (sends ≡ None)) ⊎ (GoesOn two body other sends ⊎ ((z : List ℕ) × BeginsOwed two body other z × (sends ≡ Some z)))
      → AskersAlike (Some (new_round tag body)) next other sending sends
  due_step (inl c) (inl e) =
      into _ next other sending sends None None c.1 e.1
      (connects_settle q (with_next None mine) (with_next None yours) body next other tag (counted_with _ _ h g refl refl u.counted) at c.0 e.0)
  due_step (inr (inl c)) (inr (inl e)) =
      let is : c.0 ≡ p = same_Some c.0 p (sym c.1.0) in
      let are : e.0 ≡ o = same_Some e.0 o (sym e.1.0) in
      let bodies : body_of p.content ≡ body_of o.content = ap (λ (y : Sent). body_of y.content) (sym is) ∙ c.3 ∙ sym e.3 ∙ ap (λ (y : Sent). body_of y.content) are in
      let short : length v < 65536 = subst (λ (n : ℕ). n < 65536) u.size u.short in
      let here = (piece_tells h g w v a b handle (number + 1) u.terms u.short short bodies).0 in
      by_last _ _ refl refl lasts here (subst (λ (y : Sent). IsJudgedAtLast q mine w y.aim) is c.4) (subst (λ (y : Sent). IsJudgedAtLast q yours v y.aim) are e.4) c.5 e.5
      (c.6 ∙ ap (λ (y : Sent). still_sending mine (Some w) y.aim) is) (e.6 ∙ ap (λ (y : Sent). still_sending yours (Some v) y.aim) are)
  due_step (inl c) (inr (inl e)) =
      let are : e.0 ≡ o = same_Some e.0 o (sym e.1.0) in
      let bodies : body_of o.content ≡ clear_body (canonical_request GetVersion) = ap (λ (y : Sent). body_of y.content) (sym are) ∙ e.3 ∙ connect_body q (with_next None mine) body next c.0 in
      absurd (let t = ap (λ (l : List ℕ). slice_index l 2) bodies in omega (arith, t))
  due_step (inr (inl c)) (inl e) =
      let is : c.0 ≡ p = same_Some c.0 p (sym c.1.0) in
      let bodies : body_of p.content ≡ clear_body (canonical_request GetVersion) = ap (λ (y : Sent). body_of y.content) (sym is) ∙ c.3 ∙ connect_body q (with_next None yours) body other e.0 in
      absurd (let t = ap (λ (l : List ℕ). slice_index l 2) bodies in omega (arith, t))
  due_step (inr (inr c)) e =
      let is : c.1.0 ≡ p = same_Some c.1.0 p (sym c.1.2.0) in
      absurd (not_first number (ap (λ (y : Sent). begins_large y.aim) (sym is) ∙ c.1.3))
  due_step c (inr (inr e)) =
      let are : e.1.0 ≡ o = same_Some e.1.0 o (sym e.1.2.0) in
      absurd (not_first number (ap (λ (y : Sent). begins_large y.aim) (sym are) ∙ e.1.3))
