-- A request that goes on from one of two alike dialogues goes on from the other.
use Rattle.std.proofs.Common.{◌≡◌, ◌+◌, ◌==◌, ◌&&◌, ◌⊎◌, not, ℕ, List, ◌∷◌, refl, sym, ap, ◌∙◌, subst, Bool, true, false, Option, Some, None, inl, inr}
use Rattle.std.proofs.lemmas.Bool.{false≢true}
use Rattle.std.proofs.lemmas.Option.{none-some, same_Some}
use Rattle.mctp_framing.specs.Gathering.{Gathered}
use Rattle.mctp_framing.specs.Gathering.Gathered.{Whole, More, Dropped}
use Rattle.requester_machine.specs.History.{History, Entry, begins_large, next_handle, outstanding, sent_in}
use Rattle.requester_machine.specs.History.Entry.{Told}
use Rattle.requester_machine.specs.Message.{Command, Sent, asked_in, body_of}
use Rattle.requester_machine.specs.Message.Command.{Connect}
use Rattle.requester_machine.specs.Setup.{ReqSetup}
use Rattle.responder_machine.specs.History as responder_history
use Rattle.spdm_grammar.specs.Message.{RequestMessage}
use Rattle.spdm_machine.specs.Packets.{body_type}
use Rattle.spdm_machine.specs.Terms.{Terms}
use Rattle.capture_machine.specs.Capture.{AsksBy, Begins, Copies, may_begin}
use Rattle.capture_machine.specs.CapturedRequests.{BeginsLarge, BeginsOwed, GoesOn, Sends, Tells, is_later, owes, without_owed}
use Rattle.requester_machine.specs.Owed.{with_next}
use Rattle.capture_machine.specs.Difference.{is_copy}
use Rattle.capture_machine.specs.LargeRequests.{IsLargeRequest, first_piece, piece_with}
use Rattle.capture_machine.specs.Rounds.{Dialogue, Round, following_tag, new_round, no_draw}
use Rattle.capture_machine.proofs.Agrees.{Agree}
use Rattle.capture_machine.proofs.Alike.{Alike}
use Rattle.capture_machine.proofs.AskersAlike.{AskersAlike, alike_aim, alike_tag, next_agree, piece_same}
use Rattle.capture_machine.proofs.AskersAlike.AskersAlike.{Settled, Owing, Shown, Due}
use Rattle.capture_machine.proofs.AskersBegin.{dial}
use Rattle.capture_machine.proofs.AskersHear.{later_tag}
use Rattle.capture_machine.proofs.AskersStep.{owed, owed_sends, settled_sends, unowed}
use Rattle.capture_machine.proofs.AsksAlike.{asks_same, handle_same, terms_same}
use Rattle.capture_machine.proofs.HearsAlike.{EntryAlike, SentAlike}
use Rattle.capture_machine.proofs.HearsAlike.SentAlike.{Equal, Padded}
use Rattle.check_laws.proofs.Allowed.{agree_equals, allowed_same, entry_equals}
use Rattle.check_laws.proofs.Rounded.{no_copy}
use Rattle.check_laws.specs.Going.{shows_padding}

-- ---- Commands.

pub tells_on : (q : ReqSetup) (h g : History) (c : Command) (body : List ℕ) (next : History) → Agree h g → Tells q h c body next → (other : History) × Tells q g c body other
tells_on q h g c body next a one = (
  Told c one.0 no_draw ∷ g,
  (one.0, (one.1.0, allowed_same q h g one.1.0 (agree_equals h g a) one.1.1, sym (asks_same false q h g a c one.1.0 no_draw) ∙ one.1.2), one.2, one.3, refl),
)

-- The first piece of a large request depends on no more than that.
piece_on : (h g : History) (asked : RequestMessage) (whole : List ℕ) → Agree h g → first_piece h asked whole ≡ first_piece g asked whole
piece_on h g asked whole a =
    piece_same h g whole whole asked asked (next_handle h) 0 a.counted.sent (terms_same h g a) refl refl ∙ ap (λ (n : ℕ). piece_with g asked whole n 0) (handle_same h g a)

large_on : (q : ReqSetup) (h g : History) (r x : responder_history.History) (round : Option Round) (sd se fd fe : Option (List ℕ)) (body : List ℕ) (next : History) (w : List ℕ) → Agree h g
    → BeginsLarge (dial q h r round sd fd) body next w → (other : History) × BeginsLarge (dial q g x round se fe) body other w
large_on q h g r x round sd se fd fe body next w a one = (
  Told one.0 (first_piece g one.2 w) no_draw ∷ g,
  (
    one.0,
    one.1,
    one.2,
    (one.3.0, allowed_same q h g one.3.0 (agree_equals h g a) one.3.1, sym (asks_same false q h g a one.0 one.3.0 no_draw) ∙ one.3.2),
    one.4,
    one.5,
    subst (λ (t : Terms). IsLargeRequest t.common w) (terms_same h g a) one.6,
    ap (λ (m : Sent). body_of m.content) (sym (piece_on h g one.2 w a)) ∙ one.7,
    refl,
  ),
)

-- ---- Nothing is owed.

settled_on : (q : ReqSetup) (h g : History) (r x : responder_history.History) (round : Option Round) (sd se fd fe : Option (List ℕ)) (body : List ℕ) (next : History) (sending : Option (List ℕ)) → Agree h g
    → is_later round (outstanding h) ≡ false → Sends (dial q h r round sd fd) body next sending → (other : History) × (sends : Option (List ℕ)) × Sends (dial q g x round se fe) body other sends
unfolding Sends
settled_on q h g r x round sd se fd fe body next sending a not one = by_kind (settled_sends (dial q h r round sd fd) body next sending not one)
  where
    bare : without_owed (dial q g x round se fe) ≡ g
    bare = unowed (dial q g x round se fe) (ap (is_later round) (sym a.waiting) ∙ not)

    by_command : (c : Command) → (c ≡ Connect) ⊎ (outstanding h ≡ None) → ((other : History) × Tells q g c body other) → (other : History) × (sends : Option (List ℕ)) × Sends (dial q g x round se fe) body other sends
    by_command c (inl is) two =
        let P : Command → Type 0 = λ y. Tells q g y body two.0 in
        let Q : History → Type 0 = λ l. Tells q l Connect body two.0 in
        (two.0, None, inl (inl (subst Q (sym bare) (subst P is two.1)), refl))
    by_command c (inr none) two = (two.0, None, inl (inr (c, sym a.waiting ∙ none, two.1), refl))

    by_kind : (((c : Command) × ((c ≡ Connect) ⊎ (outstanding h ≡ None)) × Tells q h c body next) × (sending ≡ None)) ⊎ ((w : List ℕ) × BeginsLarge (dial q h r round sd fd) body next w × (sending ≡ Some w))
        → (other : History) × (sends : Option (List ℕ)) × Sends (dial q g x round se fe) body other sends
    by_kind (inl told) = by_command told.0.0 told.0.1 (tells_on q h g told.0.0 body next a told.0.2)
    by_kind (inr large) =
        let two = large_on q h g r x round sd se fd fe body next large.0 a large.1 in
        (two.0, Some large.0, inr (inr (large.0, inl two.1, refl)))

-- ---- A message is owed.

-- A message that is shown is one, unless it is a record.
same_body : (s t : Sent) (body : List ℕ) → SentAlike s t → (body_type body == 6) ≡ false → body_of s.content ≡ body → body_of t.content ≡ body
same_body _ _ body (Equal s) clear is = is
same_body _ _ body (Padded tag psk s id ask inner pad padding) clear is = absurd (false≢true (sym clear ∙ ap (λ (l : List ℕ). body_type l == 6) (sym is)))

goes_on : (q : ReqSetup) (e f : Entry) (h g : History) (s t : Sent) (r x : responder_history.History) (round : Option Round) (fd fe : Option (List ℕ)) (body : List ℕ) (next : History) (sending : Option (List ℕ))
    → sent_in e ≡ Some s → sent_in f ≡ Some t → SentAlike s t → owes (dial q (f ∷ g) x round None fe) ≡ true → (body_type body == 6) ≡ false
    → GoesOn (dial q (e ∷ h) r round None fd) body next sending → GoesOn (dial q (f ∷ g) x round None fe) body (f ∷ g) None
goes_on q e f h g s t r x round fd fe body next sending out sent like are_owed clear one =
    let mine : one.0 ≡ s = same_Some one.0 s (sym one.1.0 ∙ out) in
    let small : begins_large t.aim ≡ false = ap begins_large (sym (alike_aim s t like)) ∙ ap (λ (m : Sent). begins_large m.aim) (sym mine) ∙ one.2 in
    let shown : body_of t.content ≡ body = same_body s t body like clear (ap (λ (m : Sent). body_of m.content) (sym mine) ∙ one.3) in
    (t, (sent, are_owed), small, shown, tt, refl, refl)

begins_on : (q : ReqSetup) (e f : Entry) (h g : History) (s t : Sent) (r x : responder_history.History) (round : Option Round) (fd fe : Option (List ℕ)) (body : List ℕ) (next : History) (w : List ℕ)
    → Agree h g → EntryAlike e f → sent_in e ≡ Some s → sent_in f ≡ Some t → SentAlike s t → owes (dial q (e ∷ h) r round None fd) ≡ true → owes (dial q (f ∷ g) x round None fe) ≡ true
    → BeginsOwed (dial q (e ∷ h) r round None fd) body next w → (other : History) × BeginsOwed (dial q (f ∷ g) x round None fe) body other w
begins_on q e f h g s t r x round fd fe body next w a alike out sent like is_owed are_owed one =
    let mine : one.0 ≡ s = same_Some one.0 s (sym one.2.0 ∙ out) in
    let aims : t.aim ≡ one.0.aim = sym (alike_aim s t like) ∙ ap (λ (m : Sent). m.aim) (sym mine) in
    let none = next_agree e f h g None alike a in
    let d : Dialogue = dial q (e ∷ h) r round None fd in
    let o : Dialogue = dial q (f ∷ g) x round None fe in
    let bare : first_piece (without_owed o) one.1 w ≡ first_piece (without_owed d) one.1 w =
    ap (λ l. first_piece l one.1 w) (owed o are_owed) ∙ sym (piece_on (with_next None (e ∷ h)) (with_next None (f ∷ g)) one.1 w none) ∙ ap (λ l. first_piece l one.1 w) (sym (owed d is_owed)) in (
      with_next (Some (first_piece (without_owed o) one.1 w)) (f ∷ g),
      (
        t,
        one.1,
        (sent, are_owed),
        ap begins_large aims ∙ one.3,
        ap asked_in aims ∙ one.4,
        subst (λ (c : Terms). IsLargeRequest c.common w) (entry_equals e f h g alike a).terms one.5,
        ap (λ (m : Sent). body_of m.content) bare ∙ one.6,
        refl,
      ),
    )

owing_on : (q : ReqSetup) (e f : Entry) (h g : History) (s t : Sent) (r x : responder_history.History) (round : Option Round) (fd fe : Option (List ℕ)) (body : List ℕ) (next : History) (sending : Option (List ℕ))
    → Agree h g → EntryAlike e f → sent_in e ≡ Some s → sent_in f ≡ Some t → SentAlike s t → owes (dial q (e ∷ h) r round None fd) ≡ true → owes (dial q (f ∷ g) x round None fe) ≡ true → (body_type body == 6) ≡ false
    → Sends (dial q (e ∷ h) r round None fd) body next sending → (other : History) × (sends : Option (List ℕ)) × Sends (dial q (f ∷ g) x round None fe) body other sends
unfolding Sends
owing_on q e f h g s t r x round fd fe body next sending a alike out sent like is_owed are_owed clear one =
    by_kind (owed_sends (dial q (e ∷ h) r round None fd) s body next sending is_owed out one)
  where
    by_kind : (Tells q (with_next None (e ∷ h)) Connect body next × (sending ≡ None))
        ⊎ (GoesOn (dial q (e ∷ h) r round None fd) body next sending ⊎ ((w : List ℕ) × BeginsOwed (dial q (e ∷ h) r round None fd) body next w × (sending ≡ Some w)))
        → (other : History) × (sends : Option (List ℕ)) × Sends (dial q (f ∷ g) x round None fe) body other sends
    by_kind (inl connects) =
        let two = tells_on q (with_next None (e ∷ h)) (with_next None (f ∷ g)) Connect body next (next_agree e f h g None alike a) connects.0 in
        let Q : History → Type 0 = λ l. Tells q l Connect body two.0 in
        (two.0, None, inl (inl (subst Q (sym (owed (dial q (f ∷ g) x round None fe) are_owed)) two.1), refl))
    by_kind (inr (inl goes)) = (f ∷ g, None, inr (inl (goes_on q e f h g s t r x round fd fe body next sending out sent like are_owed clear goes)))
    by_kind (inr (inr large)) =
        let two = begins_on q e f h g s t r x round fd fe body next large.0 a alike out sent like is_owed are_owed large.1 in
        (two.0, Some large.0, inr (inr (large.0, inr two.1, refl)))

-- ---- A body.

first_false : (b c : Bool) → b ≡ true → (b && c) ≡ false → c ≡ false
first_false true c is none = none
first_false false c is none = absurd (false≢true is)

sends_on : (q : ReqSetup) (h g : History) (r x : responder_history.History) (round : Option Round) (sd se fd fe : Option (List ℕ)) (body : List ℕ) (next : History) (sending : Option (List ℕ)) → AskersAlike round h g sd se → sd ≡ None
    → (is_later round (outstanding h) && body_type body == 6) ≡ false → Sends (dial q h r round sd fd) body next sending → (other : History) × (sends : Option (List ℕ)) × Sends (dial q g x round se fe) body other sends
sends_on q _ _ r x round _ _ fd fe body next sending (Settled h g agree not at) none plain one = settled_on q h g r x round None None fd fe body next sending agree not one
sends_on q _ _ r x round _ _ fd fe body next sending (Owing e f h g s t agree alike out sent like tagged else later at) none plain one =
    let is_owed : owes (dial q (e ∷ h) r round None fd) ≡ true = ap (is_later round) out ∙ later in
    let are_owed : owes (dial q (f ∷ g) x round None fe) ≡ true = ap (is_later round) sent ∙ sym (later_tag round s t (alike_tag s t like)) ∙ later in
    owing_on q e f h g s t r x round fd fe body next sending agree alike out sent like is_owed are_owed (first_false _ _ is_owed plain) one
sends_on q _ _ r x round _ _ fd fe body next sending (Shown h g w v a b handle number s t u waits wait aims aim tags not at) none plain one = absurd (none-some w (sym none))
sends_on q _ _ r x round _ _ fd fe body next sending (Due tag m h g w v a b handle number u later at) none plain one = absurd (none-some w (sym none))

begins_from : (d e : Dialogue) (tag : ℕ) (body : List ℕ) (next : Dialogue) → Alike d e → d.sending ≡ None → (owes d && body_type body == 6) ≡ false → Begins d tag body next → (other : Dialogue) × Begins e tag body other
begins_from d e tag body next a none plain one =
    let more = sends_on d.setup d.requester e.requester d.responder e.responder d.round d.sending e.sending d.fetching e.fetching body one.2.0 one.2.1 a.askers none plain one.2.2 in
    let S : ReqSetup → Type 0 = λ q. Sends (dial q e.requester e.responder d.round e.sending e.fetching) body more.0 more.1 in
    let R : Option Round → Type 0 = λ o. Sends (dial e.setup e.requester e.responder o e.sending e.fetching) body more.0 more.1 in (
      record e { requester = more.0; sending = more.1; round = Some (new_round tag body) },
      (ap (λ (o : Option Round). may_begin o body) (sym a.round) ∙ one.0, one.1 ∙ ap following_tag a.round, (more.0, more.1, subst R a.round (subst S a.setup more.2), refl)),
    )

copies_from : (d e : Dialogue) (tag : ℕ) (body : List ℕ) (next : Dialogue) → Alike d e → Copies d tag body next → (other : Dialogue) × Copies e tag body other
copies_from d e tag body next a one =
    (record e { round = Some (record one.0 { waiting = one.0.waiting + 1 }) }, (one.0, sym a.round ∙ one.1, one.2, one.3, refl))

no_padding : (o b c : Bool) → c ≡ false → (o && (b && not c)) ≡ false → (o && b) ≡ false
no_padding false b c none is = refl
no_padding true false c none is = refl
no_padding true true false none is = is
no_padding true true true none is = absurd (false≢true (sym none))

pub asks_from : (d e : Dialogue) (g : Gathered) (next : Dialogue) → Alike d e → d.sending ≡ None → shows_padding d g ≡ false → AsksBy d g next → (other : Dialogue) × AsksBy e g other
asks_from d e (Whole route body) next a none plain one = by_kind one.2
  where
    by_kind : Copies d route.tag body next ⊎ Begins d route.tag body next → (other : Dialogue) × AsksBy e (Whole route body) other
    by_kind (inl c) = let two = copies_from d e route.tag body next a c in (two.0, (one.0, one.1, inl two.1))
    by_kind (inr c) =
        let two = begins_from d e route.tag body next a none (no_padding (owes d) (body_type body == 6) (is_copy d.round route.tag body) (no_copy d.round route.tag body c.1) plain) c in
        (two.0, (one.0, one.1, inr two.1))
asks_from d e More next a none plain one = (e, refl)
asks_from d e (Dropped cause) next a none plain one = absurd one
