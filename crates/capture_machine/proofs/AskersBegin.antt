-- A command begins a round of one body: from requesters whose histories agree it leads to requesters that are alike.
use Rattle.std.proofs.Common.{◌≡◌, ◌≢◌, ◌<◌, ◌%◌, ◌+◌, ◌==◌, ◌⊎◌, ℕ, List, [], ◌∷◌, refl, sym, ap, ◌∙◌, subst, length, Bool, true, false, Option, Some, None, is_some, arith, cond, inl, inr, eqb-true}
use Rattle.std.specs.Prelude.{not}
use Rattle.std.proofs.lemmas.Bool.{false≢true}
use Rattle.std.proofs.lemmas.Bool.Decides.{nat_tests}
use Rattle.std.proofs.lemmas.Option.{same_Some}
use Rattle.std.proofs.Common.{eq-eqb}
use Rattle.chunking.specs.Cutting.{nth_chunk}
use Rattle.spdm_grammar.specs.Message.{RequestMessage, ExchangeMessage}
use Rattle.spdm_grammar.specs.Message.RequestMessage.{GetVersion, PskExchange}
use Rattle.spdm_grammar.specs.Requests.{canonical_request}
use Rattle.spdm_machine.specs.Terms.{Terms, terms_of, no_negotiation}
use Rattle.transcript.specs.Transcripts.{Negotiation}
use Rattle.requester_machine.specs.Setup.{ReqSetup}
use Rattle.requester_machine.specs.Asking.{asks}
use Rattle.requester_machine.specs.Asking.Outcome.{Adds}
use Rattle.requester_machine.specs.Commands.{Free, live_count, exchange_for}
use Rattle.requester_machine.specs.History.{History, Entry, sent_in, sent_count, outstanding, connection_terms, negotiation_of, next_tag, next_handle, begins_large, is_connect}
use Rattle.requester_machine.specs.History.Entry.{Told}
use Rattle.requester_machine.specs.May.{IsAllowed}
use Rattle.requester_machine.specs.Message.{Command, Sent, body_of}
use Rattle.requester_machine.specs.Message.Aim.{ByChunks}
use Rattle.requester_machine.specs.Message.Command.{Connect, Open, Send, Beat, Update, Measure, End, Retry}
use Rattle.requester_machine.specs.Sending.{plain_sent}
use Rattle.requester_machine.specs.Session.{Steps, session_of, is_accepted, is_live, begun}
use Rattle.requester_machine.specs.Session.Step.{Started}
use Rattle.requester_machine.proofs.Entries.{asked, test_is_false}
use Rattle.responder_machine.specs.History as responder_history
use Rattle.capture_machine.specs.CapturedRequests.{Tells, BeginsLarge, is_later}
use Rattle.capture_machine.specs.LargeRequests.{first_piece, piece_with}
use Rattle.capture_machine.specs.Rounds.{Dialogue, Round, no_draw, new_round, following_tag}
use Rattle.capture_machine.proofs.Agrees.{Agree, IsSmallIn, agree_with, counted_with}
use Rattle.capture_machine.proofs.AsksAlike.{asks_same, terms_same, tag_same, handle_same}
use Rattle.capture_machine.proofs.AskTells.{kind_of, clear_tells, same_sent}
use Rattle.capture_machine.proofs.AskTells.Kind.{InClear}
use Rattle.capture_machine.proofs.RecordTells.{sound_command}
use Rattle.capture_machine.proofs.TellsAlike.{tells_agree, kind_small}
use Rattle.capture_machine.proofs.SentFacts.{asked_tag, large_kind}
use Rattle.capture_machine.proofs.AskersAlike.{StepsAlike, UnderWay, AskersAlike, piece_tells, below_next, piece_same}
use Rattle.capture_machine.proofs.AskersAlike.AskersAlike.{Settled, Shown}

-- A dialogue of its parts.
abbrev pub dial : ReqSetup → History → responder_history.History → Option Round → Option (List ℕ) → Option (List ℕ) → Dialogue
dial q h r round sending fetching = record { setup = q; requester = h; responder = r; round = round; sending = sending; fetching = fetching }

-- ---- Tags.

-- A message under the tag of a round that it begins is not owed, and the next tag follows.
pub same_later : (tag : ℕ) (body : List ℕ) (s : Sent) → s.tag ≡ tag → is_later (Some (new_round tag body)) (Some s) ≡ false
same_later tag body s is = ap not (eq-eqb s.tag tag is)

pub tag_follows : (h : History) (e : Entry) (s : Sent) (tag : ℕ) (body : List ℕ) → sent_in e ≡ Some s → next_tag h ≡ tag → next_tag (e ∷ h) ≡ following_tag (Some (new_round tag body))
tag_follows h e s tag body sends is =
    ap (λ (b : Bool). cond b (sent_count h + 1) (sent_count h) % 8) (ap is_some sends) ∙ (omega arith)

-- ---- A command that sends a whole message.

pub settled_by : (h g next other : History) (tag : ℕ) (body : List ℕ) (e : Entry) (s : Sent) → Agree next other → next ≡ e ∷ h → sent_in e ≡ Some s → s.tag ≡ next_tag h → next_tag h ≡ tag
    → AskersAlike (Some (new_round tag body)) next other None None
settled_by h g next other tag body e s agree is sends tagged at =
    let P : History → Type 0 = λ l. is_later (Some (new_round tag body)) (outstanding l) ≡ false in
    let Q : History → Type 0 = λ l. next_tag l ≡ following_tag (Some (new_round tag body)) in
    let O : Option Sent → Type 0 = λ o. is_later (Some (new_round tag body)) o ≡ false in
    Settled next other agree (subst P (sym is) (subst O (sym sends) (same_later tag body s (tagged ∙ at)))) (subst Q (sym is) (tag_follows h e s tag body sends at))

pub tells_settle : (q : ReqSetup) (h g : History) (c e : Command) (body : List ℕ) (next other : History) (tag : ℕ) → Agree h g → next_tag h ≡ tag → Tells q h c body next → Tells q g e body other
    → AskersAlike (Some (new_round tag body)) next other None None
tells_settle q h g c e body next other tag agree at one two =
    settled_by h g next other tag body (Told c one.0 no_draw) one.0 (tells_agree q h g c e body next other agree one two) one.4 refl (asked_tag q h one.1.0 c one.0 no_draw one.1.2) at

-- ---- A command that begins a large request.

pub large_command : (q : ReqSetup) (h : History) (f : Free) (c : Command) (s : Sent) → asks false q h c f no_draw ≡ Adds (Told c s no_draw) → begins_large s.aim ≡ true → is_connect c ≡ false
large_command q h f Connect s e large =
    absurd (false≢true (ap (λ (m : Sent). begins_large m.aim) (same_sent Connect (plain_sent h GetVersion) s no_draw (asked false q h Connect f no_draw (Told Connect s no_draw) e).1) ∙ large))
large_command q h f (Open summary) s e large = refl
large_command q h f (Send id bytes) s e large = refl
large_command q h f (Beat id) s e large = refl
large_command q h f (Update id all) s e large = refl
large_command q h f (Measure o op) s e large = refl
large_command q h f (End id) s e large = refl
large_command q h f Retry s e large = refl

-- A session stays as it is, or is begun where none was live.
abbrev StaysOr : Steps → Steps → Type 0
StaysOr x s = (x ≡ s) ⊎ ((is_accepted x ≡ false) × (is_accepted s ≡ false))

dead : (s : Steps) → is_live s ≡ false → is_accepted s ≡ false
dead [] e = refl
dead (x ∷ s) e = absurd (false≢true (sym e))

pub not_four : (n : ℕ) → (n == 4) ≡ false → n ≢ 4
not_four n is = grind (arith, nat_tests)

begun_stays : (id : ℕ) (n : Negotiation) (x : ExchangeMessage) (s : Steps) (b : Bool) → (b ≡ true → is_live s ≡ false) → StaysOr (cond b (Started n (canonical_request (PskExchange x)) ∷ []) s) s
begun_stays id n x s true free = inr (refl, dead s (free refl))
begun_stays id n x s false free = inl refl

open_stays : (q : ReqSetup) (h : History) (f : Free) (summary id : ℕ) (a : RequestMessage) (s : Sent) → IsAllowed q h f → asks false q h (Open summary) f no_draw ≡ Adds (Told (Open summary) s no_draw) → exchange_for q f summary ≡ a
    → StaysOr (begun id (negotiation_of h) (Some a) (session_of id h)) (session_of id h)
open_stays q h f summary id a s fits adds is =
    let room : live_count h ≢ 4 = not_four (live_count h) (test_is_false false q h (Open summary) f (asked false q h (Open summary) f no_draw (Told (Open summary) s no_draw) adds).0 4) in
    let free : (f.id == id) ≡ true → is_live (session_of id h) ≡ false = λ same. subst (λ (n : ℕ). is_live (session_of n h) ≡ false) (eqb-true f.id id same) (fits.unused room) in
    let P : RequestMessage → Type 0 = λ x. StaysOr (begun id (negotiation_of h) (Some x) (session_of id h)) (session_of id h) in
    subst P is (begun_stays id (negotiation_of h) _ (session_of id h) (f.id == id) free)

told_stays : (q : ReqSetup) (h : History) (f : Free) (c : Command) (id : ℕ) (a : RequestMessage) (s p : Sent) → IsAllowed q h f → asks false q h c f no_draw ≡ Adds (Told c s no_draw) → kind_of q h f c ≡ InClear a
    → (w : List ℕ) (handle : ℕ) → is_connect c ≡ false → StaysOr (session_of id (Told c (piece_with h a w handle 0) no_draw ∷ h)) (session_of id h)
unfolding session_of
told_stays q h f Connect id a s p fits adds is w handle not = absurd (false≢true (sym not))
told_stays q h f (Open summary) id a s p fits adds is w handle not = open_stays q h f summary id a s fits adds (cc)
told_stays q h f (Send of bytes) id a s p fits adds is w handle not = absurd (cc)
told_stays q h f (Beat of) id a s p fits adds is w handle not = absurd (cc)
told_stays q h f (Update of all) id a s p fits adds is w handle not = absurd (cc)
told_stays q h f (Measure None op) id a s p fits adds is w handle not = inl refl
told_stays q h f (Measure (Some of) op) id a s p fits adds is w handle not = absurd (cc)
told_stays q h f (End of) id a s p fits adds is w handle not = absurd (cc)
told_stays q h f Retry id a s p fits adds is w handle not = absurd (cc)

both_stay : (x y s t : Steps) → s ≡ t → StaysOr x s → StaysOr y t → StepsAlike x y
both_stay x y s t same (inl one) (inl two) = inl (one ∙ same ∙ sym two)
both_stay x y s t same (inl one) (inr two) = inr (ap is_accepted (one ∙ same) ∙ two.1, two.0)
both_stay x y s t same (inr one) (inl two) = inr (one.0, ap is_accepted (two ∙ sym same) ∙ one.1)
both_stay x y s t same (inr one) (inr two) = inr (one.0, two.0)

told_terms : (c : Command) (p : Sent) (h : History) → is_connect c ≡ false → connection_terms (Told c p no_draw ∷ h) ≡ connection_terms h
told_terms c p h not = ap (λ (b : Bool). terms_of (cond b no_negotiation (negotiation_of h))) not

-- Both begin a large request in chunks of one first body.
pub large_begins : (q : ReqSetup) (h g : History) (r x : responder_history.History) (round : Option Round) (sd se fd fe : Option (List ℕ)) (body : List ℕ) (next other : History) (w v : List ℕ) (tag : ℕ)
    → Agree h g → next_tag h ≡ tag → BeginsLarge (dial q h r round sd fd) body next w → BeginsLarge (dial q g x round se fe) body other v
    → AskersAlike (Some (new_round tag body)) next other (Some w) (Some v)
large_begins q h g r x round sd se fd fe body next other w v tag agree at one two =
    let c : Command = one.0 in
    let e : Command = two.0 in
    let a : RequestMessage = one.2 in
    let b : RequestMessage = two.2 in
    let f : Free = one.3.0 in
    let k : Free = two.3.0 in
    let adds = one.3.2 in
    let there : asks false q h e k no_draw ≡ Adds (Told e two.1 no_draw) = asks_same false q h g agree e k no_draw ∙ two.3.2 in
    let is = large_kind q h f c one.1 a adds one.5 in
    let are = large_kind q h k e two.1 b there two.5 in
    let are_g = large_kind q g k e two.1 b two.3.2 two.5 in
    let not = large_command q h f c one.1 adds one.4 in
    let nor = large_command q g k e two.1 two.3.2 two.4 in
    let handle : ℕ = next_handle h in
    let handles = handle_same h g agree in
    let terms = terms_same h g agree in
    let short : length w < 65536 = omega (arith, one.6.2) in
    let few : length v < 65536 = omega (arith, two.6.2) in
    let bodies : body_of (piece_with h a w handle 0).content ≡ body_of (piece_with g b v handle 0).content =
    one.7 ∙ sym two.7 ∙ ap (λ (n : ℕ). body_of (piece_with g b v n 0).content) (sym handles) in
    let told = piece_tells h g w v a b handle 0 terms short few bodies in
    let tells = λ (same : canonical_request a ≡ canonical_request b).
    clear_tells q h g f k c e a b one.3.1 two.3.1 (sound_command false q h c f (asked false q h c f no_draw (Told c one.1 no_draw) adds).0)
    (sound_command false q h e k (asked false q h e k no_draw (Told e two.1 no_draw) there).0) is are same in
    let p : Sent = first_piece h a w in
    let o : Sent = first_piece g b v in
    let tags : p.tag ≡ o.tag = tag_same h g agree in
    let into : connection_terms (Told c p no_draw ∷ h) ≡ connection_terms h = told_terms c p h not in
    let small : IsSmallIn (Told c p no_draw) = λ y asks. kind_small q h f c a y one.3.1 is (same_Some a (PskExchange y) asks) in
    let way : UnderWay (Told c p no_draw ∷ h) (Told e o no_draw ∷ g) w v a b handle 0 = record {
      counted = counted_with (Told c p no_draw) (Told e o no_draw) h g refl refl agree.counted;
      terms = into ∙ terms ∙ sym (told_terms e o g nor);
      accepted = refl;
      size = told.1 refl;
      short = short;
      parts = below_next _ handle 0 w v (λ n less. absurd (omega arith))
          (ap (λ (t : Terms). (nth_chunk t.common.to_responder.transfer handle w 0).chunk) into ∙ told.0 ∙ ap (λ (t : Terms). (nth_chunk t.common.to_responder.transfer handle v 0).chunk) (sym into));
      asked = λ same. (tells same).1;
      resolves = λ asks bytes.
          let commands = (tells (ap canonical_request asks)).0 in
          let pieces : p ≡ o = piece_same h g w v a b handle 0 agree.counted.sent terms asks bytes ∙ ap (λ (n : ℕ). piece_with g b v n 0) handles in
          let P : Entry → Type 0 = λ y. Agree (Told c p no_draw ∷ h) (y ∷ g) in
          subst P (ap (λ y. Told y p no_draw) commands ∙ ap (λ y. Told e y no_draw) pieces) (agree_with (Told c p no_draw) h g small agree);
      sessions = λ id. both_stay _ _ (session_of id h) (session_of id g) (agree.sessions id) (told_stays q h f c id a one.1 p one.3.1 adds is w handle not) (told_stays q g k e id b two.1 o two.3.1 two.3.2 are_g v (next_handle g) nor);
    } in
    let shown : AskersAlike (Some (new_round tag body)) (Told c p no_draw ∷ h) (Told e o no_draw ∷ g) (Some w) (Some v) =
    Shown (Told c p no_draw ∷ h) (Told e o no_draw ∷ g) w v a b handle 0 p o way refl refl refl (ap (λ (n : ℕ). ByChunks b n 0) (sym handles)) tags
    (same_later tag body p at) (tag_follows h (Told c p no_draw) p tag body refl at) in
    let P : History → Type 0 = λ l. AskersAlike (Some (new_round tag body)) l (Told e o no_draw ∷ g) (Some w) (Some v) in
    let Q : History → Type 0 = λ l. AskersAlike (Some (new_round tag body)) next l (Some w) (Some v) in
    subst Q (sym two.8) (subst P (sym one.8) shown)
