-- Requesters that are alike show the same.
use Rattle.std.proofs.Common.{◌≡◌, ◌+◌, ◌&&◌, ℕ, suc, List, [], ◌∷◌, refl, sym, ap, ◌∙◌, length, take, Bool, true, false, Option, Some, None, cond, inl, inr}
use Rattle.std.specs.Prelude.{not, bytes_eq}
use Rattle.std.proofs.lemmas.Bool.{false≢true}
use Rattle.requester_machine.specs.History.{History, Entry, outstanding}
use Rattle.requester_machine.specs.History.Entry.{Told, TookClear, TookRecord}
use Rattle.requester_machine.specs.Message.{Aim, Sent}
use Rattle.requester_machine.specs.Message.Aim.{ByChunks}
use Rattle.requester_machine.specs.Session.{Steps, session_of, is_accepted, id_bytes}
use Rattle.requester_machine.specs.Setup.{ReqSetup}
use Rattle.spdm_grammar.specs.Message.{RequestMessage}
use Rattle.capture_machine.specs.CapturedRequests.{is_later, owes, without_owed}
use Rattle.requester_machine.specs.Owed.{with_next}
use Rattle.capture_machine.specs.LargeAnswers.{is_fetching, is_for_chunk}
use Rattle.capture_machine.specs.Opening.{opens_asking}
use Rattle.requester_machine.specs.Named.{names, session_named}
use Rattle.capture_machine.specs.Rounds.{Dialogue, Round}
use Rattle.capture_machine.specs.SessionTable.{accepted_in, is_of}
use Rattle.capture_machine.proofs.HearsAlike.{EntryAlike}
use Rattle.capture_machine.proofs.AskersAlike.{StepsAlike, AskersAlike, alike_aim, alike_tag, next_agree, acked}
use Rattle.capture_machine.proofs.AskersAlike.AskersAlike.{Settled, Owing, Shown, Due}
use Rattle.capture_machine.proofs.AskersHear.{later_tag}

-- ---- What the table of sessions looks at.

pub size_alike : (round : Option Round) (h g : History) (sd se : Option (List ℕ)) → AskersAlike round h g sd se → length h ≡ length g
size_alike round _ _ _ _ (Settled h g agree not at) = agree.counted.size
size_alike round _ _ _ _ (Owing e f h g s t agree alike out sent like tagged else later at) = ap suc agree.counted.size
size_alike round _ _ _ _ (Shown h g w v a b handle number s t u waits wait aims aim tags not at) = u.counted.size
size_alike round _ _ _ _ (Due tag m h g w v a b handle number u later at) = ap suc u.counted.size

entry_accepts : (e f : Entry) (h g : History) → EntryAlike e f → accepted_in (e ∷ h) ≡ accepted_in (f ∷ g)
entry_accepts (TookClear tag m led d) (TookClear tag' m' led' d') h g a = ap (λ effect. accepted_in (TookClear tag m (record led { effect = effect }) d ∷ h)) a.2.effect
entry_accepts (TookRecord tag id sealed inner led d) (TookRecord tag' id' sealed' inner' led' d') h g a = refl
entry_accepts (Told c s d) f h g a = absurd a
entry_accepts (TookClear tag m led d) (Told c s x) h g a = absurd a
entry_accepts (TookClear tag m led d) (TookRecord tag' id' sealed' inner' led' d') h g a = absurd a
entry_accepts (TookRecord tag id sealed inner led d) (Told c s x) h g a = absurd a
entry_accepts (TookRecord tag id sealed inner led d) (TookClear tag' m' led' d') h g a = absurd a

pub accepts_alike : (round : Option Round) (h g : History) (sd se : Option (List ℕ)) → AskersAlike round h g sd se → accepted_in h ≡ accepted_in g
accepts_alike round _ _ _ _ (Settled h g agree not at) = agree.accepted
accepts_alike round _ _ _ _ (Owing e f h g s t agree alike out sent like tagged else later at) = entry_accepts e f h g alike
accepts_alike round _ _ _ _ (Shown h g w v a b handle number s t u waits wait aims aim tags not at) = u.accepted
accepts_alike round _ _ _ _ (Due tag m h g w v a b handle number u later at) = refl

of_aim : (id : ℕ) (s t : Sent) → s.aim ≡ t.aim → is_of id (Some s) ≡ is_of id (Some t)
of_aim id s t same = ap (λ (a : Aim). is_of id (Some (record s { aim = a }))) same

of_chunk : (id : ℕ) (s : Sent) (a : RequestMessage) (handle number : ℕ) → s.aim ≡ ByChunks a handle number → is_of id (Some s) ≡ false
of_chunk id s a handle number is = ap (λ (x : Aim). is_of id (Some (record s { aim = x }))) is

pub of_alike : (id : ℕ) (round : Option Round) (h g : History) (sd se : Option (List ℕ)) → AskersAlike round h g sd se → is_of id (outstanding h) ≡ is_of id (outstanding g)
of_alike id round _ _ _ _ (Settled h g agree not at) = ap (is_of id) agree.waiting
of_alike id round _ _ _ _ (Owing e f h g s t agree alike out sent like tagged else later at) = ap (is_of id) out ∙ of_aim id s t (alike_aim s t like) ∙ ap (is_of id) (sym sent)
of_alike id round _ _ _ _ (Shown h g w v a b handle number s t u waits wait aims aim tags not at) =
    ap (is_of id) waits ∙ of_chunk id s a handle number aims ∙ sym (of_chunk id t b handle number aim) ∙ ap (is_of id) (sym wait)
of_alike id round _ _ _ _ (Due tag m h g w v a b handle number u later at) = refl

fetching_aim : (s t : Sent) → s.aim ≡ t.aim → is_fetching (Some s) ≡ is_fetching (Some t)
fetching_aim s t same = ap is_for_chunk same

-- Both fetch a large response, or neither does.
pub fetching_alike : (round : Option Round) (h g : History) (sd se : Option (List ℕ)) → AskersAlike round h g sd se → is_fetching (outstanding h) ≡ is_fetching (outstanding g)
fetching_alike round _ _ _ _ (Settled h g agree not at) = ap is_fetching agree.waiting
fetching_alike round _ _ _ _ (Owing e f h g s t agree alike out sent like tagged else later at) = ap is_fetching out ∙ fetching_aim s t (alike_aim s t like) ∙ ap is_fetching (sym sent)
fetching_alike round _ _ _ _ (Shown h g w v a b handle number s t u waits wait aims aim tags not at) =
    ap is_fetching waits ∙ ap is_for_chunk aims ∙ sym (ap is_for_chunk aim) ∙ ap is_fetching (sym wait)
fetching_alike round _ _ _ _ (Due tag m h g w v a b handle number u later at) = refl

-- ---- What the reasons look at.

abbrev bare : Bool → History → History
bare b h = cond b (with_next None h) h

-- The sessions after one acknowledgement are those before it.
acked_steps : (id tag : ℕ) (m : List ℕ) (a : RequestMessage) (w : List ℕ) (handle number : ℕ) (h : History) (b : Bool) → session_of id (bare b (acked tag m a w handle number h)) ≡ session_of id h
unfolding session_of
acked_steps id tag m a w handle number h true = refl
acked_steps id tag m a w handle number h false = refl

steps_by : (id : ℕ) (round : Option Round) (h g : History) (sd se : Option (List ℕ)) → AskersAlike round h g sd se → (b c : Bool) → is_later round (outstanding h) ≡ b → is_later round (outstanding g) ≡ c
    → StepsAlike (session_of id (bare b h)) (session_of id (bare c g))
steps_by id round _ _ _ _ (Settled h g agree not at) true c is are = absurd (false≢true (sym not ∙ is))
steps_by id round _ _ _ _ (Settled h g agree not at) false true is are = absurd (false≢true (sym is ∙ ap (is_later round) agree.waiting ∙ are))
steps_by id round _ _ _ _ (Settled h g agree not at) false false is are = inl (agree.sessions id)
steps_by id round _ _ _ _ (Owing e f h g s t agree alike out sent like tagged else later at) true true is are = inl ((next_agree e f h g None alike agree).sessions id)
steps_by id round _ _ _ _ (Owing e f h g s t agree alike out sent like tagged else later at) false c is are = absurd (false≢true (sym is ∙ ap (is_later round) out ∙ later))
steps_by id round _ _ _ _ (Owing e f h g s t agree alike out sent like tagged else later at) true false is are =
    absurd (false≢true (sym are ∙ ap (is_later round) sent ∙ sym (later_tag round s t (alike_tag s t like)) ∙ later))
steps_by id round _ _ _ _ (Shown h g w v a b handle number s t u waits wait aims aim tags not at) false false is are = u.sessions id
steps_by id round _ _ _ _ (Shown h g w v a b handle number s t u waits wait aims aim tags not at) true c is are = absurd (false≢true (sym not ∙ ap (is_later round) (sym waits) ∙ is))
steps_by id round _ _ _ _ (Shown h g w v a b handle number s t u waits wait aims aim tags not at) false true is are =
    absurd (false≢true (sym not ∙ later_tag round s t tags ∙ ap (is_later round) (sym wait) ∙ are))
steps_by id round _ _ _ _ (Due tag m h g w v a b handle number u later at) c e is are =
    let one = acked_steps id tag m a w handle (number + 1) h c in
    let two = acked_steps id tag m b v handle (number + 1) g e in
    elim (u.sessions id) [
      | inl same ↦ inl (one ∙ same ∙ sym two)
      | inr none ↦ inr (ap is_accepted one ∙ none.0, ap is_accepted two ∙ none.1)
    ]

pub steps_alike : (d e : Dialogue) → d.round ≡ e.round → AskersAlike d.round d.requester e.requester d.sending e.sending → (id : ℕ) → StepsAlike (session_of id (without_owed d)) (session_of id (without_owed e))
steps_alike d e same alike id =
    steps_by id d.round d.requester e.requester d.sending e.sending alike (owes d) (owes e) refl (ap (λ r. is_later r (outstanding e.requester)) same)

unnamed : (sealed : List ℕ) (s : Steps) → is_accepted s ≡ false → names sealed s ≡ false
unnamed sealed s none = ap (λ (b : Bool). b && bytes_eq (id_bytes s) (take 4 sealed)) none

-- Which session a record names.
named_alike : (sealed : List ℕ) (s t : Steps) → StepsAlike s t → names sealed s ≡ names sealed t
named_alike sealed s t (inl same) = ap (names sealed) same
named_alike sealed s t (inr none) = unnamed sealed s none.0 ∙ sym (unnamed sealed t none.1)

opens_pick : (q : ReqSetup) (sealed : List ℕ) (b c : Bool) (s t x y : Steps) → b ≡ c → (b ≡ true → s ≡ t) → opens_asking q x sealed ≡ opens_asking q y sealed → opens_asking q (cond b s x) sealed ≡ opens_asking q (cond c t y) sealed
opens_pick q sealed true true s t x y same one two = ap (λ z. opens_asking q z sealed) (one refl)
opens_pick q sealed false false s t x y same one two = two
opens_pick q sealed true false s t x y same one two = absurd (false≢true (sym same))
opens_pick q sealed false true s t x y same one two = absurd (false≢true same)

accepted_first : (b c : Bool) → (b && c) ≡ true → b ≡ true
accepted_first true c is = refl
accepted_first false c is = is

named_same : (sealed : List ℕ) (s t : Steps) → StepsAlike s t → names sealed s ≡ true → s ≡ t
named_same sealed s t (inl same) is = same
named_same sealed s t (inr none) is = absurd (false≢true (sym none.0 ∙ accepted_first (is_accepted s) _ is))

pub opens_alike : (q : ReqSetup) (h g : History) (sealed : List ℕ) → ((id : ℕ) → StepsAlike (session_of id h) (session_of id g)) → opens_asking q (session_named h sealed) sealed ≡ opens_asking q (session_named g sealed) sealed
opens_alike q h g sealed alike =
    let name = λ (id : ℕ). named_alike sealed (session_of id h) (session_of id g) (alike id) in
    let same = λ (id : ℕ). named_same sealed (session_of id h) (session_of id g) (alike id) in
    opens_pick q sealed _ _ _ _ _ _ (name 1) (same 1)
    (opens_pick q sealed _ _ _ _ _ _ (name 2) (same 2)
    (opens_pick q sealed _ _ _ _ _ _ (name 3) (same 3)
    (opens_pick q sealed _ _ _ _ [] [] (name 4) (same 4) refl)))
