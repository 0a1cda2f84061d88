-- What is kept of a requester after an answer that it heard.
use Rattle.std.proofs.Common.{arith, ◌≤◌, ◌+◌, ◌≡◌, ◌==◌, ◌<◌, ◌-◌, ◌^◌, ℕ, List, [], ◌∷◌, refl, sym, ap, ◌∙◌, subst, length, Bool, true, false, Option, Some, None, is_some, cond}
use Rattle.std.proofs.lemmas.Bool.{false≢true, not-true}
use Rattle.std.proofs.lemmas.Option.{none-some, same_Some}
use Rattle.requester_core.specs.Joined.{IsAnswered, IsSentAs, StandsFor}
use Rattle.requester_core.specs.OwnRecords.{session_awaited}
use Rattle.requester_core.specs.declared.joined.RequesterCore.{RequesterCore}
use Rattle.requester_core.specs.declared.reaction.Reaction.{Reaction}
use Rattle.requester_machine.specs.Asking.{Outcome}
use Rattle.requester_machine.specs.Asking.Outcome.{Fails, Ignores, Warns, Resends, Adds}
use Rattle.requester_machine.specs.Bodies.{has_tag}
use Rattle.requester_machine.specs.Hearing.{hears}
use Rattle.requester_machine.specs.History.{Entry, History, next_tag, outstanding, sent_in}
use Rattle.requester_machine.specs.History.Entry.{Told, TookClear, TookRecord}
use Rattle.requester_machine.specs.Message.{Sent, body_of}
use Rattle.requester_machine.specs.Owed.{sent_with, with_next}
use Rattle.requester_machine.specs.Session.{session_of}
use Rattle.requester_machine.specs.Setup.{ReqSetup}
use Rattle.requester_machine.specs.Shown.{after, event_of, sent_by}
use Rattle.responder_machine.specs.History as responder_history
use Rattle.check_requester.proofs.AcceptedBy.{accepted_shown, accepts, accepts_none}
use Rattle.check_laws.proofs.KeptParts.{Owes, it_owes, kept_is, next_twice}
use Rattle.check_laws.proofs.OneWalk.{walks_alike}
use Rattle.check_laws.proofs.Repadding.{agree_self, heard_with}
use Rattle.check_requester.specs.JudgedRequester.{Carries, IsAsker, IsKeptSetup}
use Rattle.check_requester.specs.HeardKept.{IsHeardAs, heard_kept}
use Rattle.check_laws.specs.KeptChanges.{accepted_from}
use Rattle.check_laws.specs.Keeping.{Kept, kept_of, owing, restored}
use Rattle.check_laws.specs.Padding.{next_with, session_asked}
use Rattle.check_laws.specs.RepliesShown.{answered, heard_from, no_values}
use Rattle.check_requester.specs.declared.judged_requester.JudgedRequester.{JudgedRequester}
use Rattle.check_requester.specs.declared.judged_setup.JudgedSetup.{JudgedSetup}
use Rattle.capture_machine.proofs.Agrees.{HaveIds}
use Rattle.capture_machine.proofs.AskersAlike.{AskersAlike}
use Rattle.capture_machine.proofs.AskersAlike.AskersAlike.{Settled, Owing, Shown, Due}
use Rattle.capture_machine.proofs.AskersHear.{later_round, next_later}
use Rattle.capture_machine.proofs.HeardNext.{heard_next, other_tag}
use Rattle.capture_machine.proofs.HearsAlike.{EntryAlike, OutcomeAlike, hears_alike}
use Rattle.capture_machine.specs.CapturedRequests.{is_later, owes}
use Rattle.capture_machine.specs.Rounds.{Dialogue, Round, following_tag, no_draw}
use Rattle.world_machine.specs.Setup.{Configuration}

-- ---- An entry that came.

pub waits_for : (e : Entry) (h : History) → is_some (event_of (Adds e)) ≡ true → outstanding (e ∷ h) ≡ sent_in e
waits_for (TookClear tag m led d) h told = refl
waits_for (TookRecord tag id sealed inner led d) h told = refl
waits_for (Told c s d) h told = absurd (false≢true told)

alike_waits : (e f : Entry) (h : History) → EntryAlike e f → outstanding (e ∷ h) ≡ sent_in e
alike_waits (TookClear tag m led d) f h alike = refl
alike_waits (TookRecord tag id sealed inner led d) f h alike = refl
alike_waits (Told c s d) f h alike = absurd alike

-- Where nothing is owed, the next tag is the one that follows.
settled_facts : (round : Option Round) (h g : History) (sd se : Option (List ℕ)) → AskersAlike round h g sd se → sd ≡ None → is_later round (outstanding h) ≡ false → HaveIds h × (next_tag h ≡ following_tag round)
settled_facts round _ _ _ _ (Settled h g agree not next) none rests = (agree.ids, next)
settled_facts round _ _ _ _ (Owing e f h g s t agree alike out sent like tagged else later next) none rests =
    absurd (false≢true (sym rests ∙ ap (is_later round) (alike_waits e f h alike ∙ out) ∙ later))
settled_facts round _ _ _ _ (Shown h g w v a b handle number s t u waits wait aims aim tags not next) none rests = absurd (none-some w (sym none))
settled_facts round _ _ _ _ (Due old m h g w v a b handle number u still next) none rests = absurd (none-some w (sym none))

module _ (w : Configuration) (q : ReqSetup) (older : List (List ℕ)) (k : Kept) (behind : responder_history.History) (round : Round) (tag : ℕ) (answer : List ℕ) (keeps : Carries w q older k) (is : k.round ≡ Some round) (one : round.tag ≡ tag) where
  abbrev h : History
  h = (restored k).requester

  abbrev o : Outcome
  o = hears k.setup h false tag answer no_values no_draw

  abbrev later : Option Sent → Bool
  later = is_later (Some round)

  -- With this history of the requester.
  abbrev at : History → Dialogue
  at l = record (restored k) { requester = l; responder = behind; round = Some (answered round) }

  abbrev seen : Kept
  seen = record k { responder = behind; round = Some (answered round) }

  askers : AskersAlike (Some round) h h None None
  askers =
      let d : Dialogue = record (restored k) { fetching = keeps.0 } in
      subst (λ (r : Option Round). AskersAlike r h h None None) is (walks_alike w q older d d keeps.1 keeps.1).alike.askers

  owes_by : owes (restored k) ≡ later (outstanding h)
  owes_by = ap (λ (r : Option Round). is_later r (outstanding h)) is

  owes_at : (l : History) (m : Option Sent) → outstanding l ≡ m → owes (at l) ≡ later m
  owes_at l m waits = ap (is_later (Some (answered round))) waits ∙ sym (later_round round (answered round) m refl)

  kept_back : kept_of (restored k) ≡ k
  kept_back = keeps.2

  -- Where the history stays, so does what is kept.
  same_kept : kept_of (at h) ≡ seen
  same_kept =
      kept_is (later (outstanding h)) (at h) (owes_at h (outstanding h) refl)
      ∙ ap (λ (x : Kept). record x { responder = behind; round = Some (answered round) }) (sym (kept_is (later (outstanding h)) (restored k) owes_by) ∙ kept_back)

  owed_there : k.owed ≡ cond (owes (restored k)) (next_with k.setup.psk h [] (outstanding h)) None
  owed_there = ap (λ (x : Kept). x.owed) (sym kept_back)

  some_owes : (b : Bool) → owes (restored k) ≡ b → is_some k.owed ≡ true → b ≡ true
  some_owes true owing some = refl
  some_owes false owing some = absurd (false≢true (sym (ap (λ (b : Bool). is_some (cond b (next_with k.setup.psk h [] (outstanding h)) None)) owing) ∙ sym (ap is_some owed_there) ∙ some))

  -- While a message is owed nothing is heard.
  pub deaf : is_some k.owed ≡ true → heard_from k tag answer ≡ h
  unfolding heard_from
  deaf some =
      let due : later (outstanding h) ≡ true = sym owes_by ∙ some_owes (owes (restored k)) refl some in
      let has : Owes (Some round) h = it_owes (Some round) h h None None askers refl due in
      let apart : has_tag (Some has.sent) tag ≡ false =
      ap (λ (n : ℕ). has.sent.tag == n) (sym one) ∙ not-true (has.sent.tag == round.tag) (sym (ap later has.waits) ∙ due) in
      other_tag k.setup h has.sent no_values tag answer no_draw has.waits apart

  pub deaf_accepts : is_some k.owed ≡ true → accepted_from k tag answer ≡ None
  unfolding heard_from accepted_from
  deaf_accepts some = accepts_none h o (deaf some)

  pub accepted_is : accepted_from k tag answer ≡ accepted_shown (outstanding h) (outstanding (after h o))
  unfolding accepted_from
  accepted_is = accepts k.setup h tag answer no_values no_draw o refl

  pub deaf_kept : is_some k.owed ≡ true → heard_kept k behind tag round answer ≡ seen
  deaf_kept some = ap (λ (l : History). kept_of (at l)) (deaf some) ∙ same_kept

  -- ---- Where nothing is owed.

  module _ (rests : k.owed ≡ None) where
    settled : later (outstanding h) ≡ false
    settled = by_owes (later (outstanding h)) refl
      where
        by_owes : (b : Bool) → later (outstanding h) ≡ b → b ≡ false
        by_owes false is = refl
        by_owes true is = absurd (false≢true (sym (ap is_some rests) ∙ some_next))
          where
            has : Owes (Some round) h
            has = it_owes (Some round) h h None None askers refl is

            some_next : is_some k.owed ≡ true
            some_next = ap is_some (owed_there ∙ ap (λ (b : Bool). cond b (next_with k.setup.psk h [] (outstanding h)) None) (owes_by ∙ is)) ∙ ap (λ (m : Option Sent). is_some (next_with k.setup.psk h [] m)) has.waits

    facts : HaveIds h × (next_tag h ≡ following_tag (Some round))
    facts = settled_facts (Some round) h h None None askers refl settled

    -- What is owed after an outcome, and the history with it.
    record Follows (x : Outcome) : Type 0 where
      owes : is_some (kept_of (at (after h x))).owed ≡ is_some (sent_by x)
      whole : owing (kept_of (at (after h x))).owed (kept_of (at (after h x))).requester ≡ after h x

    bare_by : (l : History) → owes (at l) ≡ false → (is_some (kept_of (at l)).owed ≡ false) × (owing (kept_of (at l)).owed (kept_of (at l)).requester ≡ l)
    bare_by l not =
        (ap (λ (x : Kept). is_some x.owed) (kept_is false (at l) not), ap (λ (x : Kept). owing x.owed x.requester) (kept_is false (at l) not))

    -- The history stays.
    stays : (is_some (kept_of (at h)).owed ≡ false) × (owing (kept_of (at h)).owed (kept_of (at h)).requester ≡ h)
    stays = bare_by h (owes_at h (outstanding h) refl ∙ settled)

    added : (e : Entry) (m : Option Sent) → hears k.setup h false tag answer no_values no_draw ≡ Adds e → is_some (event_of (Adds e)) ≡ true → sent_in e ≡ m → Follows (Adds e)
    added e None adds told out =
        let bare = bare_by (e ∷ h) (owes_at (e ∷ h) None (waits_for e h told ∙ out)) in
        record { owes = bare.0 ∙ ap is_some (sym out); whole = bare.1 }
    added e (Some s) adds told out =
        let l : History = e ∷ h in
        let waits : outstanding l ≡ Some s = waits_for e h told ∙ out in
        let due : owes (at l) ≡ true = owes_at l (Some s) waits ∙ next_later round s ((heard_next k.setup h false tag answer no_values no_draw e adds s out).0 ∙ facts.1) in
        let mine : Sent = sent_with k.setup.psk (session_of (session_asked s.aim) (with_next None l)) [] s in
        let alike : OutcomeAlike (Adds e) (Adds e) = subst (λ (x : Outcome). OutcomeAlike x x) adds (hears_alike k.setup h h (agree_self h facts.0) no_values no_values false tag answer no_draw) in
        let next : next_with k.setup.psk l [] (outstanding l) ≡ Some mine = ap (next_with k.setup.psk l []) waits in record {
          owes = ap (λ (x : Kept). is_some x.owed) (kept_is true (at l) due) ∙ ap is_some next ∙ ap is_some (sym out);
          whole =
              ap (λ (x : Kept). owing x.owed x.requester) (kept_is true (at l) due) ∙ ap (λ (m : Option Sent). owing m (with_next None l)) next ∙ next_twice l (Some mine) None
              ∙ ap (λ (m : Option Sent). with_next m l) (sym next) ∙ sym (heard_with k.setup h no_values tag answer [] e (Adds e) facts.0 adds alike);
        }

    follows : (x : Outcome) → o ≡ x → is_some (event_of x) ≡ true → Follows x
    follows (Adds e) adds told = added e (sent_in e) adds told refl
    follows (Ignores cause) adds told = record { owes = stays.0; whole = stays.1 }
    follows (Warns code) adds told = record { owes = stays.0; whole = stays.1 }
    follows (Fails fault) adds told = absurd (false≢true told)
    follows (Resends sent) adds told = absurd (false≢true told)

    pub heard_stands : (seen : RequesterCore) (sends : Bool) (out : List ℕ) → IsHeardAs k.setup h tag answer sends seen out
        → StandsFor seen k.setup (owing (heard_kept k behind tag round answer).owed (heard_kept k behind tag round answer).requester) × (sends ≡ is_some (heard_kept k behind tag round answer).owed)
    unfolding heard_from
    heard_stands seen sends out heard =
        let f = follows o refl heard.told in
        (subst (StandsFor seen k.setup) (sym f.whole) heard.stands, heard.sent ∙ sym f.owes)

-- ---- What the program keeps.

pub none_in : (o : Option Sent) → is_some o ≡ false → o ≡ None
none_in None is = refl
none_in (Some sent) is = absurd (false≢true (sym is))

sent_as : (o : Option Sent) (tag : Option ℕ) (body : List ℕ) → IsSentAs o tag body → is_some tag ≡ is_some o
sent_as None None body is = refl
sent_as (Some sent) (Some tag) body is = refl
sent_as None (Some tag) body is = absurd is
sent_as (Some sent) None body is = absurd is

body_as : (o : Option Sent) (sent : Sent) (tag : Option ℕ) (body : List ℕ) → o ≡ Some sent → IsSentAs o tag body → body ≡ body_of sent.content
body_as None sent tag body by is = absurd (none-some sent by)
body_as (Some s) sent None body by is = absurd is
body_as (Some s) sent (Some tag) body by is = is.1 ∙ ap (λ (x : Sent). body_of x.content) (same_Some s sent by)

pub heard_as : (q : ReqSetup) (h : History) (tag : ℕ) (body out : List ℕ) (reaction : Reaction) (sends : Bool) (new : RequesterCore) → IsAnswered q h (hears q h false tag body no_values no_draw) reaction out new → sends ≡ is_some reaction.tag
    → IsHeardAs q h tag body sends new out
heard_as q h tag body out reaction sends new is told = record {
  stands = is.stands;
  told = ap is_some is.event;
  sent = told ∙ sent_as (sent_by (hears q h false tag body no_values no_draw)) reaction.tag out is.sends;
  room = λ sent by. body_as (sent_by (hears q h false tag body no_values no_draw)) sent reaction.tag out by is.sends;
}

pub after_long : (h : History) (x : Outcome) → length (after h x) ≤ length h + 1
after_long h (Adds e) = omega arith
after_long h (Ignores cause) = omega arith
after_long h (Warns code) = omega arith
after_long h (Fails fault) = omega arith
after_long h (Resends sent) = omega arith

-- No message was sent in response to it, and then what stands for the history was changed to another that does.
pub heard_still : (q : ReqSetup) (h : History) (tag : ℕ) (body out other : List ℕ) (sends : Bool) (new still : RequesterCore) → IsHeardAs q h tag body sends new out → sends ≡ false → length h < 2 ^ 64 - 2
    → ((l : History) → length l < 2 ^ 64 - 1 → StandsFor new q l → StandsFor still q l) → IsHeardAs q h tag body sends still other
heard_still q h tag body out other sends new still heard none few same = record {
  stands = same (after h (hears q h false tag body no_values no_draw)) (let l = after_long h (hears q h false tag body no_values no_draw) in omega (arith, l, few)) heard.stands;
  told = heard.told;
  sent = heard.sent;
  room = λ sent by. absurd (false≢true (sym none ∙ heard.sent ∙ ap is_some by));
}

module _ (w : Configuration) (q : ReqSetup) (older : List (List ℕ)) (k : Kept) (behind : responder_history.History) (round : Round) (tag : ℕ) (answer : List ℕ) (keeps : Carries w q older k) (is : k.round ≡ Some round) (one : round.tag ≡ tag) where
  -- It hears nothing while it owes a message,
  pub deaf_asker : (old : JudgedRequester) → IsAsker old q k → old.owes ≡ true → IsAsker old q (heard_kept k behind tag round answer)
  deaf_asker old asker owing =
      subst (IsAsker old q) (sym (deaf_kept w q older k behind round tag answer keeps is one (sym asker.owes ∙ owing)))
      (record { kept = asker.kept; setup = asker.setup; stands = asker.stands; owes = asker.owes })

  -- and else what it is told.
  pub heard_asker : (old new : JudgedRequester) → IsAsker old q k → old.owes ≡ false → new.setup ≡ old.setup → length k.requester < 2 ^ 64 - 2
      → ((p : ReqSetup) (h : History) → IsKeptSetup old.setup p → length h < 2 ^ 64 - 2 → StandsFor old.asking p h → IsHeardAs p h tag answer new.owes new.asking new.room)
      → IsAsker new q (heard_kept k behind tag round answer)
  heard_asker old new asker rests same few heard =
      let none : k.owed ≡ None = none_in k.owed (sym asker.owes ∙ rests) in
      let bare : (restored k).requester ≡ k.requester = ap (λ (o : Option Sent). owing o k.requester) none in
      let own : StandsFor old.asking k.setup k.requester = subst (λ (x : ReqSetup). StandsFor old.asking x k.requester) (sym asker.setup) (subst (StandsFor old.asking q) bare asker.stands) in
      let limits : IsKeptSetup old.setup k.setup = subst (IsKeptSetup old.setup) (sym asker.setup) asker.kept in
      let here : IsHeardAs k.setup (restored k).requester tag answer new.owes new.asking new.room = subst (λ (h : History). IsHeardAs k.setup h tag answer new.owes new.asking new.room) (sym bare) (heard k.setup k.requester limits few own) in
      let stands = heard_stands w q older k behind round tag answer keeps is one none new.asking new.owes new.room here in
      record {
        kept = subst (λ (x : JudgedSetup). IsKeptSetup x q) (sym same) asker.kept;
        setup = asker.setup;
        stands = subst (λ (x : ReqSetup). StandsFor new.asking x (owing (heard_kept k behind tag round answer).owed (heard_kept k behind tag round answer).requester)) asker.setup stands.0;
        owes = stands.1;
      }

  -- What it accepts: nothing while it owes a message,
  pub deaf_accepted : (old : JudgedRequester) → IsAsker old q k → old.owes ≡ true → None ≡ accepted_from k tag answer
  deaf_accepted old asker owing = sym (deaf_accepts w q older k behind round tag answer keeps is one (sym asker.owes ∙ owing))

  -- and else what it awaits after, where it awaited no record before.
  pub heard_accepted : (old new : JudgedRequester) (before : Bool) (result : Option ℕ) → IsAsker old q k → old.owes ≡ false → length k.requester < 2 ^ 64 - 1
      → ((p : ReqSetup) (h : History) → IsKeptSetup old.setup p → length h < 2 ^ 64 - 1 → StandsFor old.asking p h → IsHeardAs p h tag answer new.owes new.asking new.room)
      → ((p : ReqSetup) (h : History) → StandsFor old.asking p h → before ≡ is_some (session_awaited (outstanding h)))
      → ((p : ReqSetup) (h : History) → StandsFor new.asking p h → result ≡ cond before None (session_awaited (outstanding h)))
      → result ≡ accepted_from k tag answer
  heard_accepted old new before result asker rests few heard first_told told =
      let none : k.owed ≡ None = none_in k.owed (sym asker.owes ∙ rests) in
      let bare : (restored k).requester ≡ k.requester = ap (λ (o : Option Sent). owing o k.requester) none in
      let own : StandsFor old.asking k.setup k.requester = subst (λ (x : ReqSetup). StandsFor old.asking x k.requester) (sym asker.setup) (subst (StandsFor old.asking q) bare asker.stands) in
      let limits : IsKeptSetup old.setup k.setup = subst (IsKeptSetup old.setup) (sym asker.setup) asker.kept in
      let here : IsHeardAs k.setup (restored k).requester tag answer new.owes new.asking new.room = subst (λ (h : History). IsHeardAs k.setup h tag answer new.owes new.asking new.room) (sym bare) (heard k.setup k.requester limits few own) in
      let first : before ≡ is_some (session_awaited (outstanding (restored k).requester)) = first_told k.setup k.requester own ∙ ap (λ (h : History). is_some (session_awaited (outstanding h))) (sym bare) in
      let last : History = after (restored k).requester (hears k.setup (restored k).requester false tag answer no_values no_draw) in
      told k.setup last here.stands ∙ ap (λ (b : Bool). cond b None (session_awaited (outstanding last))) first ∙ sym (accepted_is w q older k behind round tag answer keeps is one)
