-- What is kept of alike dialogues, part by part.
use Rattle.std.proofs.Common.{◌≡◌, ℕ, List, [], ◌∷◌, refl, sym, ap, ◌∙◌, subst, Bool, true, false, Option, Some, None, cond}
use Rattle.std.proofs.lemmas.Bool.{false≢true}
use Rattle.std.proofs.lemmas.Option.{none-some}
use Rattle.requester_machine.specs.History.{Entry, History, outstanding}
use Rattle.requester_machine.specs.History.Entry.{Told, TookClear, TookRecord}
use Rattle.requester_machine.specs.Message.{Content, Sent}
use Rattle.requester_machine.specs.Message.Content.{Clear, Sealed}
use Rattle.requester_machine.specs.Session.{Steps, session_of}
use Rattle.check_laws.specs.Keeping.{Kept, kept_of}
use Rattle.check_laws.specs.Padding.{next_with, session_asked}
use Rattle.requester_machine.specs.Owed.{content_with, sent_with}
use Rattle.capture_machine.proofs.Agrees.{Agree}
use Rattle.capture_machine.proofs.AskersAlike.{AskersAlike, next_agree}
use Rattle.capture_machine.proofs.AskersAlike.AskersAlike.{Settled, Owing, Shown, Due}
use Rattle.capture_machine.proofs.HearsAlike.{EntryAlike, SentAlike}
use Rattle.capture_machine.specs.CapturedRequests.{is_later, owes}
use Rattle.requester_machine.specs.Owed.{with_next}
use Rattle.capture_machine.specs.Rounds.{Dialogue, Round, following_tag}

-- ---- The message that was sent last.

pub next_twice : (h : History) (x y : Option Sent) → with_next x (with_next y h) ≡ with_next x h
next_twice [] x y = refl
next_twice (Told command sent d ∷ h) x y = refl
next_twice (TookClear tag m led d ∷ h) x y = refl
next_twice (TookRecord tag id sealed inner led d ∷ h) x y = refl

content_twice : (psk : List ℕ) (s : Steps) (pad old : List ℕ) (c : Content) → content_with psk s pad (content_with psk s old c) ≡ content_with psk s pad c
content_twice psk s pad old (Clear m) = refl
content_twice psk s pad old (Sealed sealed inner own) = refl

pub sent_twice : (psk : List ℕ) (s : Steps) (pad old : List ℕ) (sent : Sent) → sent_with psk s pad (sent_with psk s old sent) ≡ sent_with psk s pad sent
sent_twice psk s pad old sent = ap (λ (c : Content). record sent { content = c }) (content_twice psk s pad old sent.content)

pub none_later : (round : Option Round) → is_later round None ≡ false
none_later None = refl
none_later (Some round) = refl

-- ---- A requester that owes a message.

-- The message, which has the next tag; and another may stand in its place.
pub record Owes (round : Option Round) (h : History) : Type 0 where
  pub sent : Sent
  pub waits : outstanding h ≡ Some sent
  pub tag : sent.tag ≡ following_tag round
  pub other : (x : Sent) → outstanding (with_next (Some x) h) ≡ Some x

other_waits : (e f : Entry) (h : History) → EntryAlike e f → (x : Sent) → outstanding (with_next (Some x) (e ∷ h)) ≡ Some x
other_waits (TookClear tag m led d) f h a x = refl
other_waits (TookRecord tag id sealed inner led d) f h a x = refl
other_waits (Told c s d) f h a x = absurd a

pub it_owes : (round : Option Round) (h g : History) (sd se : Option (List ℕ)) → AskersAlike round h g sd se → sd ≡ None → is_later round (outstanding h) ≡ true → Owes round h
it_owes round _ _ _ _ (Settled h g agree not at) none later = absurd (false≢true (sym not ∙ later))
it_owes round _ _ _ _ (Owing e f h g s t agree alike out sent like tagged else still at) none later = record { sent = s; waits = out; tag = tagged; other = other_waits e f h alike }
it_owes round _ _ _ _ (Shown h g w v a b handle number s t u waits wait aims aim tags not at) none later = absurd (none-some w (sym none))
it_owes round _ _ _ _ (Due tag m h g w v a b handle number u still at) none later = absurd (none-some w (sym none))

-- Two that owe a message owe one that differs in its padding alone.
pub both_owe : (round : Option Round) (h g : History) (sd se : Option (List ℕ)) → AskersAlike round h g sd se → sd ≡ None → is_later round (outstanding h) ≡ true → (s : Sent) × (t : Sent) × (outstanding h ≡ Some s) × (outstanding g ≡ Some t) × SentAlike s t
both_owe round _ _ _ _ (Settled h g agree not at) none later = absurd (false≢true (sym not ∙ later))
both_owe round _ _ _ _ (Owing e f h g s t agree alike out sent like tagged else still at) none later = (s, t, out, sent, like)
both_owe round _ _ _ _ (Shown h g w v a b handle number s t u waits wait aims aim tags not at) none later = absurd (none-some w (sym none))
both_owe round _ _ _ _ (Due tag m h g w v a b handle number u still at) none later = absurd (none-some w (sym none))

-- ---- Without what is owed.

abbrev pub bare : Option Round → History → History
bare round h = cond (is_later round (outstanding h)) (with_next None h) h

bare_by : (b c : Bool) (h g : History) → b ≡ true → c ≡ true → Agree (with_next None h) (with_next None g) → Agree (cond b (with_next None h) h) (cond c (with_next None g) g)
bare_by b c h g is are agree =
    let P : Bool → Type 0 = λ x. Agree (cond x (with_next None h) h) (cond c (with_next None g) g) in
    let Q : Bool → Type 0 = λ x. Agree (with_next None h) (cond x (with_next None g) g) in
    subst P (sym is) (subst Q (sym are) agree)

settled_bare : (b c : Bool) (h g : History) → b ≡ false → c ≡ false → Agree h g → Agree (cond b (with_next None h) h) (cond c (with_next None g) g)
settled_bare b c h g is are agree =
    let P : Bool → Type 0 = λ x. Agree (cond x (with_next None h) h) (cond c (with_next None g) g) in
    let Q : Bool → Type 0 = λ x. Agree h (cond x (with_next None g) g) in
    subst P (sym is) (subst Q (sym are) agree)

pub bare_agree : (round : Option Round) (h g : History) (sd se : Option (List ℕ)) → AskersAlike round h g sd se → sd ≡ None → is_later round (outstanding h) ≡ is_later round (outstanding g) → Agree (bare round h) (bare round g)
bare_agree round _ _ _ _ (Settled h g agree not at) none same = settled_bare _ _ h g not (sym same ∙ not) agree
bare_agree round _ _ _ _ (Owing e f h g s t agree alike out sent like tagged else still at) none same =
    let is : is_later round (outstanding (e ∷ h)) ≡ true = ap (is_later round) out ∙ still in
    bare_by _ _ (e ∷ h) (f ∷ g) is (sym same ∙ is) (next_agree e f h g None alike agree)
bare_agree round _ _ _ _ (Shown h g w v a b handle number s t u waits wait aims aim tags not at) none same = absurd (none-some w (sym none))
bare_agree round _ _ _ _ (Due tag m h g w v a b handle number u still at) none same = absurd (none-some w (sym none))

-- ---- What is kept.

-- By whether a message is owed.
abbrev pub kept_by : Bool → Dialogue → Kept
kept_by b d = record {
  setup = d.setup;
  requester = cond b (with_next None d.requester) d.requester;
  owed = cond b (next_with d.setup.psk d.requester [] (outstanding d.requester)) None;
  responder = d.responder;
  round = d.round;
}

pub kept_is : (b : Bool) (d : Dialogue) → owes d ≡ b → kept_of d ≡ kept_by b d
kept_is b d is = ap (λ (x : Bool). kept_by x d) is

-- The message that is kept.
pub owed_is : (d : Dialogue) (s : Sent) → owes d ≡ true → outstanding d.requester ≡ Some s → (kept_of d).owed ≡ Some (sent_with d.setup.psk (session_of (session_asked s.aim) (with_next None d.requester)) [] s)
owed_is d s is waits = ap (λ (k : Kept). k.owed) (kept_is true d is) ∙ ap (next_with d.setup.psk d.requester []) waits

pub none_owed : (d : Dialogue) → owes d ≡ false → (kept_of d).owed ≡ None
none_owed d not = ap (λ (k : Kept). k.owed) (kept_is false d not)

-- Where none is kept, none is owed.
pub not_owed : (d : Dialogue) → (kept_of d).owed ≡ None → owes d ≡ false
not_owed d none = by_owes (owes d) refl
  where
    by_waits : (o : Option Sent) → outstanding d.requester ≡ o → owes d ≡ true → owes d ≡ false
    by_waits None waits is = absurd (false≢true (sym (ap (is_later d.round) waits ∙ none_later d.round) ∙ is))
    by_waits (Some s) waits is = absurd (none-some _ (sym none ∙ owed_is d s is waits))

    by_owes : (b : Bool) → owes d ≡ b → owes d ≡ false
    by_owes false is = is
    by_owes true is = by_waits (outstanding d.requester) refl is
