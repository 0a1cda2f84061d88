-- A request of one body leads from requesters that are alike to requesters that are alike.
use Rattle.capture_machine.proofs.AskersAlike.AskersAlike.{Shown}
use Rattle.std.proofs.Common.{◌≡◌, ◌<◌, ◌==◌, ◌⊎◌, ℕ, List, ◌∷◌, refl, sym, ap, ◌∙◌, subst, length, Bool, true, false, Option, Some, None, arith, cond, inl, inr}
use Rattle.std.specs.Prelude.{not, slice_index}
use Rattle.std.proofs.lemmas.Bool.{false≢true}
use Rattle.std.proofs.lemmas.Option.{none-some, same_Some}
use Rattle.chunking.specs.Cutting.{nth_chunk}
use Rattle.spdm_grammar.specs.Message.{RequestMessage}
use Rattle.spdm_grammar.specs.Message.RequestMessage.{GetVersion}
use Rattle.spdm_grammar.specs.Requests.{canonical_request}
use Rattle.spdm_machine.specs.Bodies.{clear_body}
use Rattle.requester_machine.specs.Setup.{ReqSetup}
use Rattle.requester_machine.specs.History.{History, Entry, sent_in, outstanding, next_tag, next_handle, begins_large}
use Rattle.requester_machine.specs.History.Entry.{Told, TookClear, TookRecord}
use Rattle.requester_machine.specs.Message.{Command, Sent, body_of, asked_in}
use Rattle.requester_machine.specs.Message.Command.{Connect}
use Rattle.requester_machine.specs.Sending.{plain_sent}
use Rattle.requester_machine.specs.Session.{session_of, with_sent, after_record}
use Rattle.requester_machine.proofs.Entries.{asked}
use Rattle.responder_machine.specs.History as responder_history
use Rattle.capture_machine.specs.CapturedRequests.{Sends, Tells, GoesOn, BeginsLarge, BeginsOwed, is_later, owes, without_owed}
use Rattle.requester_machine.specs.Owed.{with_next}
use Rattle.capture_machine.specs.LargeRequests.{piece_with, first_piece}
use Rattle.capture_machine.specs.Rounds.{Dialogue, Round, no_draw, new_round, following_tag}
use Rattle.capture_machine.proofs.Agrees.{Counted, Agree, IsSmallIn, agree_with, counted_with}
use Rattle.capture_machine.proofs.AskTells.{sent_by_kind}
use Rattle.capture_machine.proofs.HearsAlike.SentAlike.{Equal, Padded}
use Rattle.capture_machine.proofs.AsksAlike.{terms_same, tag_same, handle_same}
use Rattle.capture_machine.proofs.HearsAlike.{SentAlike, EntryAlike, led_equal}
use Rattle.capture_machine.proofs.HeardNext.{IsOther}
use Rattle.capture_machine.proofs.TellsAlike.{connects_agree}
use Rattle.capture_machine.proofs.SentFacts.{asked_tag, large_free, tells_other}
use Rattle.capture_machine.proofs.AskersAlike.{UnderWay, AskersAlike, transfer_of, alike_told, entry_told, next_agree, below_next, piece_same, alike_aim, none_tag, piece_tells}
use Rattle.capture_machine.proofs.AskersBegin.{dial, tag_follows, settled_by, tells_settle, large_begins, same_later}

-- ---- What may begin a round, by whether a message is owed.

pub unowed : (d : Dialogue) → owes d ≡ false → without_owed d ≡ d.requester
unowed d not = ap (λ (b : Bool). cond b (with_next None d.requester) d.requester) not

pub owed : (d : Dialogue) → owes d ≡ true → without_owed d ≡ with_next None d.requester
owed d is = ap (λ (b : Bool). cond b (with_next None d.requester) d.requester) is

not_both : (d : Dialogue) → owes d ≡ false → owes d ≡ true → ⊥
not_both d not is = false≢true (sym not ∙ is)

pub settled_sends : (d : Dialogue) (body : List ℕ) (next : History) (sending : Option (List ℕ)) → owes d ≡ false → Sends d body next sending
    → (((c : Command) × ((c ≡ Connect) ⊎ (outstanding d.requester ≡ None)) × Tells d.setup d.requester c body next) × (sending ≡ None))
    ⊎ ((w : List ℕ) × BeginsLarge d body next w × (sending ≡ Some w))
unfolding Sends
settled_sends d body next sending not (inl (inl connects, none)) =
    let P : History → Type 0 = λ l. Tells d.setup l Connect body next in
    inl ((Connect, inl refl, subst P (unowed d not) connects), none)
settled_sends d body next sending not (inl (inr commands, none)) = inl ((commands.0, inr commands.1, commands.2), none)
settled_sends d body next sending not (inr (inl goes)) = absurd (not_both d not goes.1.1)
settled_sends d body next sending not (inr (inr (whole, inl large, is))) = inr (whole, large, is)
settled_sends d body next sending not (inr (inr (whole, inr begins, is))) = absurd (not_both d not begins.2.1)

pub owed_sends : (d : Dialogue) (s : Sent) (body : List ℕ) (next : History) (sending : Option (List ℕ)) → owes d ≡ true → outstanding d.requester ≡ Some s → Sends d body next sending
    → (Tells d.setup (with_next None d.requester) Connect body next × (sending ≡ None))
    ⊎ (GoesOn d body next sending ⊎ ((w : List ℕ) × BeginsOwed d body next w × (sending ≡ Some w)))
unfolding Sends
owed_sends d s body next sending is waits (inl (inl connects, none)) =
    let P : History → Type 0 = λ l. Tells d.setup l Connect body next in
    inl (subst P (owed d is) connects, none)
owed_sends d s body next sending is waits (inl (inr commands, none)) = absurd (none-some s (sym commands.1 ∙ waits))
owed_sends d s body next sending is waits (inr (inl goes)) = inr (inl goes)
owed_sends d s body next sending is waits (inr (inr (whole, inl large, so))) =
    absurd (none-some s (sym (large_free d.setup d.requester large.3.0 large.0 large.1 no_draw large.3.2 large.4) ∙ waits))
owed_sends d s body next sending is waits (inr (inr (whole, inr begins, so))) = inr (inr (whole, begins, so))

-- No command has the body of a first chunk.
not_large : (q : ReqSetup) (h : History) (c : Command) (body : List ℕ) (next : History) (d : Dialogue) (other : History) (w : List ℕ) → Tells q h c body next → BeginsLarge d body other w → ⊥
not_large q h c body next d other w one two = tells_other q h c body next (nth_chunk (transfer_of d.requester) (next_handle d.requester) w 0) one (sym two.7)

not_owed : (q : ReqSetup) (h : History) (c : Command) (body : List ℕ) (next : History) (d : Dialogue) (other : History) (w : List ℕ) → Tells q h c body next → BeginsOwed d body other w → ⊥
not_owed q h c body next d other w one two =
    tells_other q h c body next (nth_chunk (transfer_of (without_owed d)) (next_handle (without_owed d)) w 0) one (sym two.6)

-- ---- Nothing is owed.

pub settled_step : (q : ReqSetup) (h g : History) (r x : responder_history.History) (round : Option Round) (sd se fd fe : Option (List ℕ)) (tag : ℕ) (body : List ℕ) (next other : History) (sending sends : Option (List ℕ))
    → Agree h g → is_later round (outstanding h) ≡ false → next_tag h ≡ tag → Sends (dial q h r round sd fd) body next sending → Sends (dial q g x round se fe) body other sends
    → AskersAlike (Some (new_round tag body)) next other sending sends
settled_step q h g r x round sd se fd fe tag body next other sending sends agree not at one two =
    by_kind (settled_sends (dial q h r round sd fd) body next sending not one)
    (settled_sends (dial q g x round se fe) body other sends (ap (is_later round) (sym agree.waiting) ∙ not) two)
  where
    into : (a b : Option (List ℕ)) → sending ≡ a → sends ≡ b → AskersAlike (Some (new_round tag body)) next other a b → AskersAlike (Some (new_round tag body)) next other sending sends
    into a b p o alike =
        let P : Option (List ℕ) → Type 0 = λ l. AskersAlike (Some (new_round tag body)) next other l b in
        let Q : Option (List ℕ) → Type 0 = λ l. AskersAlike (Some (new_round tag body)) next other sending l in
        subst Q (sym o) (subst P (sym p) alike)

    by_kind : (((c : Command) × ((c ≡ Connect) ⊎ (outstanding h ≡ None)) × Tells q h c body next) × (sending ≡ None)) ⊎ ((w : List ℕ) × BeginsLarge (dial q h r round sd fd) body next w × (sending ≡ Some w))
        → (((c : Command) × ((c ≡ Connect) ⊎ (outstanding g ≡ None)) × Tells q g c body other) × (sends ≡ None)) ⊎ ((w : List ℕ) × BeginsLarge (dial q g x round se fe) body other w × (sends ≡ Some w))
        → AskersAlike (Some (new_round tag body)) next other sending sends
    by_kind (inl a) (inl b) = into None None a.1 b.1 (tells_settle q h g a.0.0 b.0.0 body next other tag agree at a.0.2 b.0.2)
    by_kind (inr a) (inr b) = into (Some a.0) (Some b.0) a.2 b.2 (large_begins q h g r x round sd se fd fe body next other a.0 b.0 tag agree at a.1 b.1)
    by_kind (inl a) (inr b) = absurd (not_large q h a.0.0 body next (dial q g x round se fe) other b.0 a.0.2 b.1)
    by_kind (inr a) (inl b) = absurd (not_large q g b.0.0 body other (dial q h r round sd fd) next a.0 b.0.2 a.1)

-- ---- A message is owed.

-- GET_VERSION in its place.
pub connects_settle : (q : ReqSetup) (h g : History) (body : List ℕ) (next other : History) (tag : ℕ) → Counted h g → next_tag h ≡ tag → Tells q h Connect body next → Tells q g Connect body other
    → AskersAlike (Some (new_round tag body)) next other None None
connects_settle q h g body next other tag counted at one two =
    settled_by h g next other tag body (Told Connect one.0 no_draw) one.0 (connects_agree q h g body next other counted one two) one.4 refl (asked_tag q h one.1.0 Connect one.0 no_draw one.1.2) at

pub connect_body : (q : ReqSetup) (h : History) (body : List ℕ) (next : History) → Tells q h Connect body next → body ≡ clear_body (canonical_request GetVersion)
connect_body q h body next one =
    let is : one.0 ≡ plain_sent h GetVersion = (sent_by_kind q h one.1.0 Connect one.0 no_draw (asked false q h Connect one.1.0 no_draw (Told Connect one.0 no_draw) one.1.2).1).0 one.2 in
    sym one.3 ∙ ap (λ (m : Sent). body_of m.content) is

alike_other : (s t : Sent) → SentAlike s t → IsOther s → IsOther t
alike_other _ _ (Equal s) other = other
alike_other _ _ (Padded tag psk s id ask inner pad padding) other = λ e. absurd (let t = ap (λ (l : List ℕ). slice_index l 0) e in omega (arith, t))

pub took_small : (e f : Entry) → EntryAlike e f → IsSmallIn e
took_small (TookClear tag m led d) f a = tt
took_small (TookRecord tag id sealed inner led d) f a = tt
took_small (Told c s d) f a = absurd a

-- It is sent as it was owed.
goes_settle : (e f : Entry) (h g : History) (s t : Sent) (tag : ℕ) (body : List ℕ) (next other : History) → Agree h g → EntryAlike e f → sent_in e ≡ Some s → sent_in f ≡ Some t → SentAlike s t
    → s.tag ≡ next_tag h → next_tag h ≡ tag → body_of s.content ≡ body → body_of t.content ≡ body → next ≡ e ∷ h → other ≡ f ∷ g → AskersAlike (Some (new_round tag body)) next other None None
goes_settle e f h g s t tag body next other agree alike sends sent like tagged at one two is are =
    let same : s ≡ t = alike_told s t like (one ∙ sym two) in
    let entry : e ≡ f = entry_told e f alike (sends ∙ ap Some same ∙ sym sent) in
    let P : Entry → Type 0 = λ x. Agree (e ∷ h) (x ∷ g) in
    let Q : History → Type 0 = λ l. Agree l (f ∷ g) in
    let O : History → Type 0 = λ l. Agree next l in
    settled_by h g next other tag body e s (subst O (sym are) (subst Q (sym is) (subst P entry (agree_with e h g (took_small e f alike) agree)))) is sends tagged at

-- It begins a large request.
owed_way : (e f : Entry) (h g : History) (a b : RequestMessage) (w v : List ℕ) (p o : Sent) (handle : ℕ) → Agree h g → EntryAlike e f → a ≡ b → length w ≡ length v → length w < 65536
    → p ≡ piece_with (with_next None (e ∷ h)) a w handle 0 → o ≡ piece_with (with_next None (f ∷ g)) b v handle 0
    → (nth_chunk (transfer_of (with_next None (e ∷ h))) handle w 0).chunk ≡ (nth_chunk (transfer_of (with_next None (e ∷ h))) handle v 0).chunk
    → UnderWay (with_next (Some p) (e ∷ h)) (with_next (Some o) (f ∷ g)) w v a b handle 0
unfolding session_of
owed_way (TookClear tag m led d) (TookClear tag' m' led' d') h g a b w v p o handle agree alike asks size short is are here =
    let none = next_agree (TookClear tag m led d) (TookClear tag' m' led' d') h g None alike agree in record {
      counted = counted_with _ _ h g refl (ap (λ (x : Sent). begins_large x.aim) is ∙ sym (ap (λ (x : Sent). begins_large x.aim) are)) agree.counted;
      terms = terms_same _ _ none;
      accepted = none.accepted;
      size = size;
      short = short;
      parts = below_next _ handle 0 w v (λ n less. absurd (omega arith)) here;
      asked = λ same. asks;
      resolves = λ one bytes.
          let pieces : p ≡ o = is ∙ piece_same (with_next None (TookClear tag m led d ∷ h)) (with_next None (TookClear tag' m' led' d' ∷ g)) w v a b handle 0 none.counted.sent (terms_same _ _ none) one bytes ∙ sym are in
          let P : Sent → Type 0 = λ x. Agree (with_next (Some p) (TookClear tag m led d ∷ h)) (with_next (Some x) (TookClear tag' m' led' d' ∷ g)) in
          subst P pieces (next_agree (TookClear tag m led d) (TookClear tag' m' led' d') h g (Some p) alike agree);
      sessions = λ id. inl (ap (λ (x : Sent). with_sent id (Some x) (session_of id (with_next None (TookClear tag m led d ∷ h)))) is ∙ none.sessions id ∙ sym (ap (λ (x : Sent). with_sent id (Some x) (session_of id (with_next None (TookClear tag' m' led' d' ∷ g)))) are));
    }
owed_way (TookRecord tag of sealed inner led d) (TookRecord tag' of' sealed' inner' led' d') h g a b w v p o handle agree alike asks size short is are here =
    let none = next_agree (TookRecord tag of sealed inner led d) (TookRecord tag' of' sealed' inner' led' d') h g None alike agree in record {
      counted = counted_with _ _ h g refl (ap (λ (x : Sent). begins_large x.aim) is ∙ sym (ap (λ (x : Sent). begins_large x.aim) are)) agree.counted;
      terms = terms_same _ _ none;
      accepted = none.accepted;
      size = size;
      short = short;
      parts = below_next _ handle 0 w v (λ n less. absurd (omega arith)) here;
      asked = λ same. asks;
      resolves = λ one bytes.
          let pieces : p ≡ o = is ∙ piece_same (with_next None (TookRecord tag of sealed inner led d ∷ h)) (with_next None (TookRecord tag' of' sealed' inner' led' d' ∷ g)) w v a b handle 0 none.counted.sent (terms_same _ _ none) one bytes ∙ sym are in
          let P : Sent → Type 0 = λ x. Agree (with_next (Some p) (TookRecord tag of sealed inner led d ∷ h)) (with_next (Some x) (TookRecord tag' of' sealed' inner' led' d' ∷ g)) in
          subst P pieces (next_agree (TookRecord tag of sealed inner led d) (TookRecord tag' of' sealed' inner' led' d') h g (Some p) alike agree);
      sessions = λ id. inl (ap (λ (x : Sent). cond (of == id) (with_sent id (Some x) (after_record sealed inner led.effect (session_of id h))) (session_of id h)) is ∙ none.sessions id
          ∙ sym (ap (λ (x : Sent). cond (of' == id) (with_sent id (Some x) (after_record sealed' inner' led'.effect (session_of id g))) (session_of id g)) are));
    }
owed_way (Told c s d) f h g a b w v p o handle agree alike asks size short is are here = absurd alike
owed_way (TookClear tag m led d) (Told c s x) h g a b w v p o handle agree alike asks size short is are here = absurd alike
owed_way (TookClear tag m led d) (TookRecord tag' id' sealed' inner' led' d') h g a b w v p o handle agree alike asks size short is are here = absurd alike
owed_way (TookRecord tag id sealed inner led d) (Told c s x) h g a b w v p o handle agree alike asks size short is are here = absurd alike
owed_way (TookRecord tag id sealed inner led d) (TookClear tag' m' led' d') h g a b w v p o handle agree alike asks size short is are here = absurd alike

with_waits : (e f : Entry) (h : History) (p : Sent) → EntryAlike e f → outstanding (with_next (Some p) (e ∷ h)) ≡ Some p
with_waits (TookClear tag m led d) f h p a = refl
with_waits (TookRecord tag id sealed inner led d) f h p a = refl
with_waits (Told c s d) f h p a = absurd a

with_tag : (e f : Entry) (h : History) (p : Sent) (tag : ℕ) (body : List ℕ) → EntryAlike e f → next_tag h ≡ tag → next_tag (with_next (Some p) (e ∷ h)) ≡ following_tag (Some (new_round tag body))
with_tag (TookClear x m led d) f h p tag body a at = tag_follows h (TookClear x m (record led { next = Some p }) d) p tag body refl at
with_tag (TookRecord x id sealed inner led d) f h p tag body a at = tag_follows h (TookRecord x id sealed inner (record led { next = Some p }) d) p tag body refl at
with_tag (Told c s d) f h p tag body a at = absurd a

-- The other entry is a message that came, too.
turned : (e f : Entry) → EntryAlike e f → EntryAlike f f
turned (TookClear tag m led d) (TookClear tag' m' led' d') a = (refl, refl, led_equal led', refl)
turned (TookRecord tag id sealed inner led d) (TookRecord tag' id' sealed' inner' led' d') a = (refl, refl, refl, refl, led_equal led', refl)
turned (Told c s d) f a = absurd a
turned (TookClear tag m led d) (Told c s x) a = absurd a
turned (TookClear tag m led d) (TookRecord tag' id' sealed' inner' led' d') a = absurd a
turned (TookRecord tag id sealed inner led d) (Told c s x) a = absurd a
turned (TookRecord tag id sealed inner led d) (TookClear tag' m' led' d') a = absurd a

-- Both first chunks are of one body.
owed_begins : (q : ReqSetup) (e f : Entry) (h g : History) (s t : Sent) (r x : responder_history.History) (round : Option Round) (fd fe : Option (List ℕ)) (tag : ℕ) (body : List ℕ) (next other : History) (w v : List ℕ)
    → Agree h g → EntryAlike e f → sent_in e ≡ Some s → sent_in f ≡ Some t → SentAlike s t → next_tag h ≡ tag → owes (dial q (e ∷ h) r round None fd) ≡ true → owes (dial q (f ∷ g) x round None fe) ≡ true
    → BeginsOwed (dial q (e ∷ h) r round None fd) body next w → BeginsOwed (dial q (f ∷ g) x round None fe) body other v
    → AskersAlike (Some (new_round tag body)) next other (Some w) (Some v)
owed_begins q e f h g s t r x round fd fe tag body next other w v agree alike sends sent like at is_owed are_owed one two =
    let h0 : History = with_next None (e ∷ h) in
    let g0 : History = with_next None (f ∷ g) in
    let none = next_agree e f h g None alike agree in
    let a : RequestMessage = one.1 in
    let b : RequestMessage = two.1 in
    let mine : one.0 ≡ s = same_Some one.0 s (sym one.2.0 ∙ sends) in
    let yours : two.0 ≡ t = same_Some two.0 t (sym two.2.0 ∙ sent) in
    let asks : a ≡ b = same_Some a b (sym one.4 ∙ ap (λ (m : Sent). asked_in m.aim) mine ∙ ap asked_in (alike_aim s t like) ∙ ap (λ (m : Sent). asked_in m.aim) (sym yours) ∙ two.4) in
    let handles = handle_same h0 g0 none in
    let handle : ℕ = next_handle h0 in
    let from = owed (dial q (e ∷ h) r round None fd) is_owed in
    let to = owed (dial q (f ∷ g) x round None fe) are_owed in
    let p : Sent = first_piece (without_owed (dial q (e ∷ h) r round None fd)) a w in
    let o : Sent = first_piece (without_owed (dial q (f ∷ g) x round None fe)) b v in
    let is : p ≡ piece_with h0 a w handle 0 = ap (λ l. first_piece l a w) from in
    let are : o ≡ piece_with g0 b v handle 0 = ap (λ l. first_piece l b v) to ∙ ap (λ (n : ℕ). piece_with g0 b v n 0) (sym handles) in
    let bodies : body_of (piece_with h0 a w handle 0).content ≡ body_of (piece_with g0 b v handle 0).content =
    ap (λ (m : Sent). body_of m.content) (sym is) ∙ one.6 ∙ sym two.6 ∙ ap (λ (m : Sent). body_of m.content) are in
    let short : length w < 65536 = omega (arith, one.5.2) in
    let told = piece_tells h0 g0 w v a b handle 0 (terms_same h0 g0 none) short (omega (arith, two.5.2)) bodies in
    let way = owed_way e f h g a b w v p o handle agree alike asks (told.1 refl) short is are told.0 in
    let tags : p.tag ≡ o.tag = ap (λ (m : Sent). m.tag) is ∙ tag_same h0 g0 none ∙ ap (λ (m : Sent). m.tag) (sym are) in
    let mine_tag : p.tag ≡ tag = ap (λ (m : Sent). m.tag) is ∙ none_tag e f h alike ∙ at in
    let shown : AskersAlike (Some (new_round tag body)) (with_next (Some p) (e ∷ h)) (with_next (Some o) (f ∷ g)) (Some w) (Some v) =
    Shown (with_next (Some p) (e ∷ h)) (with_next (Some o) (f ∷ g)) w v a b handle 0 p o way (with_waits e f h p alike) (with_waits f f g o (turned e f alike))
    (ap (λ (m : Sent). m.aim) is) (ap (λ (m : Sent). m.aim) are) tags (same_later tag body p mine_tag) (with_tag e f h p tag body alike at) in
    let P : History → Type 0 = λ l. AskersAlike (Some (new_round tag body)) l (with_next (Some o) (f ∷ g)) (Some w) (Some v) in
    let Q : History → Type 0 = λ l. AskersAlike (Some (new_round tag body)) next l (Some w) (Some v) in
    subst Q (sym two.7) (subst P (sym one.7) shown)

pub into : (round : Option Round) (next other : History) (sending sends a b : Option (List ℕ)) → sending ≡ a → sends ≡ b → AskersAlike round next other a b → AskersAlike round next other sending sends
into round next other sending sends a b p o alike =
    let P : Option (List ℕ) → Type 0 = λ l. AskersAlike round next other l b in
    let Q : Option (List ℕ) → Type 0 = λ l. AskersAlike round next other sending l in
    subst Q (sym o) (subst P (sym p) alike)

pub owing_step : (q : ReqSetup) (e f : Entry) (h g : History) (s t : Sent) (r x : responder_history.History) (round : Option Round) (fd fe : Option (List ℕ)) (tag : ℕ) (body : List ℕ) (next other : History) (sending sends : Option (List ℕ))
    → Agree h g → EntryAlike e f → sent_in e ≡ Some s → sent_in f ≡ Some t → SentAlike s t → s.tag ≡ next_tag h → IsOther s → next_tag h ≡ tag
    → owes (dial q (e ∷ h) r round None fd) ≡ true → owes (dial q (f ∷ g) x round None fe) ≡ true
    → (Tells q (with_next None (e ∷ h)) Connect body next × (sending ≡ None)) ⊎ (GoesOn (dial q (e ∷ h) r round None fd) body next sending ⊎ ((w : List ℕ) × BeginsOwed (dial q (e ∷ h) r round None fd) body next w × (sending ≡ Some w)))
    → (Tells q (with_next None (f ∷ g)) Connect body other × (sends ≡ None)) ⊎ (GoesOn (dial q (f ∷ g) x round None fe) body other sends ⊎ ((w : List ℕ) × BeginsOwed (dial q (f ∷ g) x round None fe) body other w × (sends ≡ Some w)))
    → AskersAlike (Some (new_round tag body)) next other sending sends
owing_step q e f h g s t r x round fd fe tag body next other sending sends agree alike out sent like tagged else at is_owed are_owed (inl a) (inl b) =
    into _ next other sending sends None None a.1 b.1
    (connects_settle q (with_next None (e ∷ h)) (with_next None (f ∷ g)) body next other tag (next_agree e f h g None alike agree).counted (none_tag e f h alike ∙ at) a.0 b.0)
owing_step q e f h g s t r x round fd fe tag body next other sending sends agree alike out sent like tagged else at is_owed are_owed (inr (inl a)) (inr (inl b)) =
    into _ next other sending sends None None a.6 b.6
    (goes_settle e f h g s t tag body next other agree alike out sent like tagged at
    (ap (λ (m : Sent). body_of m.content) (sym (same_Some a.0 s (sym a.1.0 ∙ out))) ∙ a.3)
    (ap (λ (m : Sent). body_of m.content) (sym (same_Some b.0 t (sym b.1.0 ∙ sent))) ∙ b.3) a.5 b.5)
owing_step q e f h g s t r x round fd fe tag body next other sending sends agree alike out sent like tagged else at is_owed are_owed (inr (inr a)) (inr (inr b)) =
    into _ next other sending sends (Some a.0) (Some b.0) a.2 b.2
    (owed_begins q e f h g s t r x round fd fe tag body next other a.0 b.0 agree alike out sent like at is_owed are_owed a.1 b.1)
owing_step q e f h g s t r x round fd fe tag body next other sending sends agree alike out sent like tagged else at is_owed are_owed (inl a) (inr (inl b)) =
    let body_is = ap (λ (m : Sent). body_of m.content) (sym (same_Some b.0 t (sym b.1.0 ∙ sent))) ∙ b.3 in
    absurd (alike_other s t like else (body_is ∙ connect_body q (with_next None (e ∷ h)) body next a.0))
owing_step q e f h g s t r x round fd fe tag body next other sending sends agree alike out sent like tagged else at is_owed are_owed (inr (inl a)) (inl b) =
    let body_is = ap (λ (m : Sent). body_of m.content) (sym (same_Some a.0 s (sym a.1.0 ∙ out))) ∙ a.3 in
    absurd (else (body_is ∙ connect_body q (with_next None (f ∷ g)) body other b.0))
owing_step q e f h g s t r x round fd fe tag body next other sending sends agree alike out sent like tagged else at is_owed are_owed (inl a) (inr (inr b)) =
    absurd (not_owed q (with_next None (e ∷ h)) Connect body next (dial q (f ∷ g) x round None fe) other b.0 a.0 b.1)
owing_step q e f h g s t r x round fd fe tag body next other sending sends agree alike out sent like tagged else at is_owed are_owed (inr (inr a)) (inl b) =
    absurd (not_owed q (with_next None (f ∷ g)) Connect body other (dial q (e ∷ h) r round None fd) next a.0 b.0 a.1)
owing_step q e f h g s t r x round fd fe tag body next other sending sends agree alike out sent like tagged else at is_owed are_owed (inr (inl a)) (inr (inr b)) =
    let mine : a.0 ≡ s = same_Some a.0 s (sym a.1.0 ∙ out) in
    let yours : b.1.0 ≡ t = same_Some b.1.0 t (sym b.1.2.0 ∙ sent) in
    absurd (false≢true (sym a.2 ∙ ap (λ (m : Sent). begins_large m.aim) mine ∙ ap begins_large (alike_aim s t like) ∙ ap (λ (m : Sent). begins_large m.aim) (sym yours) ∙ b.1.3))
owing_step q e f h g s t r x round fd fe tag body next other sending sends agree alike out sent like tagged else at is_owed are_owed (inr (inr a)) (inr (inl b)) =
    let mine : a.1.0 ≡ s = same_Some a.1.0 s (sym a.1.2.0 ∙ out) in
    let yours : b.0 ≡ t = same_Some b.0 t (sym b.1.0 ∙ sent) in
    absurd (false≢true (sym b.2 ∙ ap (λ (m : Sent). begins_large m.aim) yours ∙ ap begins_large (sym (alike_aim s t like)) ∙ ap (λ (m : Sent). begins_large m.aim) (sym mine) ∙ a.1.3))
