-- Whether the requester asks for a chunk on an answer, as the program tells it.
use Rattle.std.proofs.Common.{◌≡◌, ◌∙◌, ◌<◌, ◌-◌, ◌^◌, ◌+◌, ◌==◌, ◌&&◌, ℕ, suc, List, ◌∷◌, refl, sym, ap, subst, length, Bool, true, false, Option, Some, None, is_some, arith}
use Rattle.std.specs.Prelude.{slice_index}
use Rattle.std.proofs.lemmas.Bool.{false≢true}
use Rattle.std.proofs.lemmas.Option.{none-some}
use Rattle.requester_core.specs.Joined.{StandsFor}
use Rattle.requester_core.specs.Owed.{TookFor}
use Rattle.requester_core.specs.OwnRecords.{session_aimed, session_awaited}
use Rattle.requester_core.specs.Slot.{shown_of}
use Rattle.requester_core.specs.declared.joined.RequesterCore.{RequesterCore}
use Rattle.requester_core.proofs.OwedClear.{out_last}
use Rattle.requester_machine.specs.Asking.{Outcome}
use Rattle.requester_machine.specs.Asking.Outcome.{Fails, Ignores, Warns, Resends, Adds}
use Rattle.requester_machine.specs.Hearing.{hears}
use Rattle.requester_machine.specs.History.{Entry, History, outstanding, sent_in}
use Rattle.requester_machine.specs.History.Entry.{Told, TookClear, TookRecord}
use Rattle.requester_machine.specs.Message.{Aim, Sent, body_of}
use Rattle.requester_machine.specs.Message.Aim.{ByChunks, ForChunk, InSession, Plain}
use Rattle.requester_machine.specs.Order.{stage_for}
use Rattle.requester_machine.specs.Owed.{with_next}
use Rattle.requester_machine.specs.Session.{session_of}
use Rattle.requester_machine.specs.Setup.{ReqSetup}
use Rattle.requester_machine.specs.Shown.{after, event_of, sent_by}
use Rattle.responder_machine.specs.Responder.{is_open}
use Rattle.spdm_grammar.specs.declared.names.request_code.TheConstants.{CHUNK_GET}
use Rattle.spdm_grammar.specs.declared.told.session_view.SessionView.{SessionView}
use Rattle.check_laws.specs.Keeping.{Kept, owing, restored}
use Rattle.check_laws.specs.RepliesShown.{heard_from, no_values}
use Rattle.responder_machine.specs.History as responder_history
use Rattle.check_requester.proofs.ChunkAsked.{heard_shows}
use Rattle.check_requester.proofs.FinishApart.{aimed_at, its_stage, shown_none}
use Rattle.check_requester.proofs.HearsKept.{after_long, deaf, none_in, waits_for}
use Rattle.check_requester.proofs.OwedTook.{IsAimed, IsNewest, IsSentUpon, heard_newest, kept_short}
use Rattle.check_requester.specs.JudgedRequester.{Carries, IsAsker, IsKeptSetup}
use Rattle.check_requester.specs.HeardKept.{IsHeardAs, ShowsChunk, asks_upon}
use Rattle.check_requester.specs.declared.judged_requester.JudgedRequester.{JudgedRequester}
use Rattle.capture_machine.specs.LargeAnswers.{asks_chunk, is_fetching, is_for_chunk}
use Rattle.capture_machine.specs.Rounds.{Round, no_draw}
use Rattle.world_machine.specs.Setup.{Configuration}

-- ---- What is outstanding, by what it shows.

clear_test : (aim : Aim) (body : List ℕ) → session_aimed aim ≡ None → ShowsChunk aim body → (slice_index body 2 == CHUNK_GET) ≡ is_for_chunk aim
clear_test (Plain asked) body none shows = shows
clear_test (ByChunks asked handle number) body none shows = shows
clear_test (ForChunk asked handle number before) body none shows = shows
clear_test (InSession id ask) body none shows = absurd (none-some id (sym none))

module _ (x : RequesterCore) (q : ReqSetup) (bare : History) (sent : Sent) (took : TookFor bare sent.aim) (shows : ShowsChunk sent.aim (body_of sent.content)) (stands : StandsFor x q (with_next (Some sent) bare)) where
  pub in_clear : None ≡ session_awaited (outstanding (with_next (Some sent) bare)) → (slice_index (body_of sent.content) 2 == CHUNK_GET) ≡ is_for_chunk sent.aim
  in_clear is = clear_test sent.aim (body_of sent.content) (sym (is ∙ ap session_awaited (out_last bare sent.aim sent took))) shows

  module _ (id : ℕ) (is : Some id ≡ session_awaited (outstanding (with_next (Some sent) bare))) where
    pub in_session : (view : SessionView) → Some view ≡ shown_of (session_of id (with_next (Some sent) bare)) → is_open view.stage ≡ is_for_chunk sent.aim
    in_session view at =
        let its = aimed_at x q bare sent took stands id is in
        let told : is_open (stage_for its.0) ≡ asks_chunk its.0 = subst (λ (a : Aim). ShowsChunk a (body_of sent.content)) its.1 shows in
        ap is_open (its_stage x q bare sent took stands id its.0 its.1 view at) ∙ told ∙ ap is_for_chunk (sym its.1)

    pub no_session : None ≡ shown_of (session_of id (with_next (Some sent) bare)) → ⊥
    no_session none =
        let its = aimed_at x q bare sent took stands id is in
        shown_none x q bare sent took stands id its.0 its.1 none

-- ---- What was heard.

whole_next : (e : Entry) (h : History) (s : Sent) → sent_in e ≡ Some s → with_next (Some s) (with_next None (e ∷ h)) ≡ e ∷ h
whole_next (Told command sent d) h s is = refl
whole_next (TookClear tag m led d) h s is = ap (λ (x : Option Sent). TookClear tag m (record led { next = x }) d ∷ h) (sym is)
whole_next (TookRecord tag id sealed inner led d) h s is = ap (λ (x : Option Sent). TookRecord tag id sealed inner (record led { next = x }) d ∷ h) (sym is)

long_next : (o : Option Sent) (e : Entry) (h : History) → length (with_next o (e ∷ h)) ≡ suc (length h)
long_next o (Told command sent d) h = refl
long_next o (TookClear tag m led d) h = refl
long_next o (TookRecord tag id sealed inner led d) h = refl

took_for : (e : Entry) (h : History) (s : Sent) → is_some (event_of (Adds e)) ≡ true → IsNewest (e ∷ h) → sent_in e ≡ Some s → TookFor (with_next None (e ∷ h)) s.aim
took_for (Told command sent d) h s told newest is = absurd (false≢true told)
took_for (TookClear tag m led d) h s told newest is = by_aim s.aim
  where
    by_aim : (aim : Aim) → TookFor (TookClear tag m (record led { next = None }) d ∷ h) aim
    by_aim (Plain asked) = refl
    by_aim (ByChunks asked handle number) = refl
    by_aim (ForChunk asked handle number before) = refl
    by_aim (InSession id ask) = refl
took_for (TookRecord tag of sealed inner led d) h s told newest is = by_aim s.aim (subst (IsSentUpon of) is newest)
  where
    by_aim : (aim : Aim) → IsAimed of aim → TookFor (TookRecord tag of sealed inner (record led { next = None }) d ∷ h) aim
    by_aim (Plain asked) same = refl
    by_aim (ByChunks asked handle number) same = refl
    by_aim (ForChunk asked handle number before) same = refl
    by_aim (InSession id ask) same = (refl, same)

and_none : (b : Bool) → (b && false) ≡ false
and_none true = refl
and_none false = refl

some_fetched : (o : Option Sent) → (is_fetching o && is_some o) ≡ is_fetching o
some_fetched None = refl
some_fetched (Some sent) = and_true (is_fetching (Some sent))
  where
    and_true : (b : Bool) → (b && true) ≡ b
    and_true true = refl
    and_true false = refl

module _ (w : Configuration) (q : ReqSetup) (older : List (List ℕ)) (k : Kept) (behind : responder_history.History) (round : Round) (tag : ℕ) (answer : List ℕ) (keeps : Carries w q older k) (is : k.round ≡ Some round) (one : round.tag ≡ tag) where
  abbrev h : History
  h = (restored k).requester

  abbrev o : Outcome
  o = hears k.setup h false tag answer no_values no_draw

  module _ (awaits : Bool) (waits : awaits ≡ is_fetching (outstanding h)) where
    -- While it owes a message it hears nothing.
    pub deaf_asks : is_some k.owed ≡ true → awaits ≡ asks_upon k tag answer
    deaf_asks some = waits ∙ sym (ap (λ (l : History). is_fetching (outstanding l)) (deaf w q older k behind round tag answer keeps is one some))

    none_upon : (x : Outcome) → is_some (event_of x) ≡ true → is_some (sent_by x) ≡ false → (awaits && is_some (outstanding (after h x))) ≡ is_fetching (outstanding (after h x))
    none_upon (Adds e) told none =
        let gone = waits_for e h told ∙ none_in (sent_in e) none in
        ap (λ (m : Option Sent). awaits && is_some m) gone ∙ and_none awaits ∙ sym (ap is_fetching gone)
    none_upon (Ignores cause) told none = ap (λ (b : Bool). b && is_some (outstanding h)) waits ∙ some_fetched (outstanding h)
    none_upon (Warns code) told none = ap (λ (b : Bool). b && is_some (outstanding h)) waits ∙ some_fetched (outstanding h)
    none_upon (Fails fault) told none = absurd (false≢true told)
    none_upon (Resends sent) told none = absurd (false≢true told)

    -- Where it sends nothing in response to it.
    pub silent_asks : (seen : RequesterCore) (out : List ℕ) → IsHeardAs k.setup h tag answer false seen out → (awaits && is_some (outstanding (after h o))) ≡ asks_upon k tag answer
    unfolding heard_from
    silent_asks seen out heard = none_upon o heard.told (sym heard.sent)

  -- And where it sends something.
  abbrev Tells : RequesterCore → List ℕ → Bool → Type 0
  Tells seen out result = (bare : History) (sent : Sent) → TookFor bare sent.aim → ShowsChunk sent.aim (body_of sent.content) → out ≡ body_of sent.content → length bare < 2 ^ 64 - 1
      → StandsFor seen k.setup (with_next (Some sent) bare) → result ≡ is_for_chunk sent.aim

  some_upon : (seen : RequesterCore) (out : List ℕ) (result : Bool) (x : Outcome) → o ≡ x → length h + 1 < 2 ^ 64 - 1 → is_some (event_of x) ≡ true → is_some (sent_by x) ≡ true
      → ((sent : Sent) → sent_by x ≡ Some sent → out ≡ body_of sent.content) → StandsFor seen k.setup (after h x) → Tells seen out result → result ≡ is_fetching (outstanding (after h x))
  some_upon seen out result (Adds e) adds few told some room stands tells = by_sent (sent_in e) refl
    where
      by_sent : (m : Option Sent) → sent_in e ≡ m → result ≡ is_fetching (outstanding (e ∷ h))
      by_sent None none = absurd (false≢true (sym (ap is_some none) ∙ some))
      by_sent (Some s) sends =
          let bare : History = with_next None (e ∷ h) in
          let newest = heard_newest k.setup h false tag answer no_values no_draw e adds in
          let shows = heard_shows k.setup h false tag answer no_values no_draw e adds s sends in
          tells bare s (took_for e h s told newest sends) shows (room s sends) (let long = long_next None e h in omega (arith, long, few)) (subst (StandsFor seen k.setup) (sym (whole_next e h s sends)) stands)
          ∙ sym (ap is_fetching (waits_for e h told ∙ sends))
  some_upon seen out result (Ignores cause) adds few told some room stands tells = absurd (false≢true some)
  some_upon seen out result (Warns code) adds few told some room stands tells = absurd (false≢true some)
  some_upon seen out result (Fails fault) adds few told some room stands tells = absurd (false≢true told)
  some_upon seen out result (Resends sent) adds few told some room stands tells = absurd (false≢true told)

  pub sends_asks : (seen : RequesterCore) (out : List ℕ) (result : Bool) → length h + 1 < 2 ^ 64 - 1 → IsHeardAs k.setup h tag answer true seen out → Tells seen out result → result ≡ asks_upon k tag answer
  unfolding heard_from
  sends_asks seen out result few heard tells = some_upon seen out result o refl few heard.told (sym heard.sent) heard.room heard.stands tells

-- ---- What the program tells.

module _ (w : Configuration) (q : ReqSetup) (older : List (List ℕ)) (k : Kept) (round : Round) (tag : ℕ) (answer : List ℕ) (keeps : Carries w q older k) (is : k.round ≡ Some round) (one : round.tag ≡ tag) (old : JudgedRequester) (asker : IsAsker old q k) where
  pub owing_fetches : (awaits : Bool) → awaits ≡ is_fetching (outstanding (restored k).requester) → old.owes ≡ true → awaits ≡ asks_upon k tag answer
  owing_fetches awaits waits owing = deaf_asks w q older k k.responder round tag answer keeps is one awaits waits (sym asker.owes ∙ owing)

  module _ (rests : old.owes ≡ false) (few : length older < 2 ^ 64 - 2) (sends : Bool) (new : RequesterCore) (out : List ℕ) (heard : (p : ReqSetup) (h : History) → IsKeptSetup old.setup p → length h < 2 ^ 64 - 1 → StandsFor old.asking p h → IsHeardAs p h tag answer sends new out) where
    short : length k.requester < 2 ^ 64 - 2
    short = (let s = kept_short w q older k keeps in omega (arith, s, few))

    bare : (restored k).requester ≡ k.requester
    bare = ap (λ (o : Option Sent). owing o k.requester) (none_in k.owed (sym asker.owes ∙ rests))

    here : IsHeardAs k.setup (restored k).requester tag answer sends new out
    here =
        let own : StandsFor old.asking k.setup k.requester = subst (λ (x : ReqSetup). StandsFor old.asking x k.requester) (sym asker.setup) (subst (StandsFor old.asking q) bare asker.stands) in
        let limits : IsKeptSetup old.setup k.setup = subst (IsKeptSetup old.setup) (sym asker.setup) asker.kept in
        subst (λ (h : History). IsHeardAs k.setup h tag answer sends new out) (sym bare) (heard k.setup k.requester limits (let s = short in omega (arith, s)) own)

    pub silent_fetches : (awaits result : Bool) → awaits ≡ is_fetching (outstanding (restored k).requester) → sends ≡ false
        → ((p : ReqSetup) (h : History) → IsKeptSetup old.setup p → length h < 2 ^ 64 - 1 → StandsFor new p h → result ≡ (awaits && is_some (outstanding h)))
        → result ≡ asks_upon k tag answer
    silent_fetches awaits result waits none tells =
        let o : Outcome = hears k.setup (restored k).requester false tag answer no_values no_draw in
        let limits : IsKeptSetup old.setup k.setup = subst (IsKeptSetup old.setup) (sym asker.setup) asker.kept in
        let long : length (after (restored k).requester o) < 2 ^ 64 - 1 =
        (let l = after_long (restored k).requester o in let e = ap length bare in let s = short in omega (arith, l, e, s)) in
        tells k.setup (after (restored k).requester o) limits long here.stands
        ∙ silent_asks w q older k k.responder round tag answer keeps is one awaits waits new out (subst (λ (b : Bool). IsHeardAs k.setup (restored k).requester tag answer b new out) none here)

    pub sending_fetches : (result : Bool) → sends ≡ true
        → ((p : ReqSetup) (b : History) (sent : Sent) → TookFor b sent.aim → ShowsChunk sent.aim (body_of sent.content) → out ≡ body_of sent.content → length b < 2 ^ 64 - 1 → StandsFor new p (with_next (Some sent) b) → result ≡ is_for_chunk sent.aim)
        → result ≡ asks_upon k tag answer
    sending_fetches result some tells =
        let long : length (restored k).requester + 1 < 2 ^ 64 - 1 = subst (λ (l : History). length l + 1 < 2 ^ 64 - 1) (sym bare) (let s = short in omega (arith, s)) in
        sends_asks w q older k k.responder round tag answer keeps is one new out result long (subst (λ (b : Bool). IsHeardAs k.setup (restored k).requester tag answer b new out) some here) (tells k.setup)
