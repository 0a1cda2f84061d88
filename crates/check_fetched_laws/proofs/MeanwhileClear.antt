-- What a request in the clear is answered with while a large response is fetched there.
use Rattle.std.proofs.Common.{◌≡◌, ◌+◌, ◌∙◌, ℕ, List, [], ◌∷◌, refl, sym, ap, subst, Bool, true, false, Option, Some, None, is_some}
use Rattle.std.proofs.lemmas.Bool.{false≢true}
use Rattle.std.proofs.lemmas.Option.{same_Some}
use Rattle.std.specs.Prelude.{not, nat_lt, if◌then◌else◌}
use Rattle.chunking.specs.Cutting.{chunk_count}
use Rattle.responder_machine.specs.History.{Entry, History, kept_of}
use Rattle.responder_machine.specs.History.Entry.{Dropped}
use Rattle.responder_machine.specs.LargeMessages.{given_of, still_pending}
use Rattle.responder_machine.specs.May.{with_dropped}
use Rattle.responder_machine.specs.Place.{place_terms}
use Rattle.responder_machine.specs.Responder.{Outcome, after, body_of, is_repeat, kept_reply, sent_by}
use Rattle.responder_machine.specs.Responder.Outcome.{Adds, Same}
use Rattle.responder_machine.specs.Setup.{RspSetup}
use Rattle.spdm_machine.specs.Bodies.{clear_body}
use Rattle.check_fetched_laws.specs.ClearChunks.{IsNextGet, NextIsGiven, RepeatIsSame, clear_with, get_entry, get_message, get_response}
use Rattle.check_fetched_laws.specs.StandsAlike.{IsAnew, VersionIsGiven, version_entry}
use Rattle.responder_machine.specs.Answer.{version_answer}
use Rattle.spdm_grammar.specs.Message.RequestMessage.{GetVersion}
use Rattle.spdm_grammar.specs.Requests.{canonical_request}
use Rattle.spdm_grammar.specs.Responses.{canonical_response}
use Rattle.check_fetched_laws.specs.ClearMeanwhile.{GetBeginsNone, GetCompletes, GetGoesOn, RepeatBeginsNone, RepeatGoesSame, VersionBeginsNone, VersionGoes}
use Rattle.capture_machine.specs.CapturedAnswers.{AnswersLarge, AnswersPlainly, AreShown, Completes, MayHaveLed, MayLeadAfter, MayLeadTo, is_plain}
use Rattle.capture_machine.specs.LargeAnswers.{begun_with, dropped_before_large, gives_last, is_large, is_untouched, judging, place_named, with_large}
use Rattle.capture_machine.specs.Rounds.{Dialogue, Round}

-- An answer that goes whole to a message in the clear, with these bytes as the large response.
abbrev pub Plainly : RspSetup → History → (whole : List ℕ) → (tag : ℕ) → (m answer : List ℕ) → (next : History) → Type 0
Plainly r h whole tag m answer next =
    (dropped : List ℕ) × (outcome : Outcome)
    × MayLeadAfter r (with_large None whole h) dropped tag (clear_body m) outcome
    × AreShown r (with_large None whole h) (clear_body m) outcome dropped
    × (is_plain (with_large None whole h) outcome ≡ true)
    × (body_of outcome ≡ answer)
    × (next ≡ after (with_dropped h dropped) outcome)

module _ (r : RspSetup) (d : Dialogue) (whole : List ℕ) (round : Round) (m answer : List ℕ) (next : History) (fetching : d.fetching ≡ Some whole) (body : round.body ≡ clear_body m) where
  abbrev Judged : Option (List ℕ) → List ℕ → Type 0
  Judged x b =
      (dropped : List ℕ) × (outcome : Outcome)
      × MayLeadAfter r (judging x b d.responder) dropped round.tag b outcome
      × AreShown r (judging x b d.responder) b outcome dropped
      × (is_plain (judging x b d.responder) outcome ≡ true)
      × (body_of outcome ≡ answer)
      × (next ≡ after (with_dropped d.responder dropped) outcome)

  pub to_plain : AnswersPlainly r d round answer next → Plainly r d.responder whole round.tag m answer next
  to_plain a = subst (Judged (Some whole)) body (subst (λ (x : Option (List ℕ)). Judged x round.body) fetching a)

  pub from_plain : Plainly r d.responder whole round.tag m answer next → AnswersPlainly r d round answer next
  from_plain p = subst (λ (x : Option (List ℕ)). Judged x round.body) (sym fetching) (subst (Judged (Some whole)) (sym body) p)

-- ---- A repeat.

pub repeat_goes_same : RepeatIsSame → RepeatGoesSame
repeat_goes_same law r d whole round m answer next fetching body again plainly = by_drops plain.0 plain.1 plain.2 plain.3 plain.5 plain.6
  where
    plain : Plainly r d.responder whole round.tag m answer next
    plain = to_plain r d whole round m answer next fetching body plainly

    h : History
    h = d.responder

    by_drops : (dropped : List ℕ) (outcome : Outcome) → MayLeadAfter r (with_large None whole h) dropped round.tag (clear_body m) outcome → AreShown r (with_large None whole h) (clear_body m) outcome dropped
        → body_of outcome ≡ answer → next ≡ after (with_dropped h dropped) outcome → (answer ≡ clear_body (kept_reply (kept_of h))) × (next ≡ h)
    by_drops [] outcome may shown is behind =
        let same : outcome ≡ Same (clear_body (kept_reply (kept_of h))) = law r h whole round.tag m outcome again may.1 in
        (sym is ∙ ap body_of same, behind ∙ ap (after h) same)
    by_drops (id ∷ []) outcome may shown is behind =
        let same : outcome ≡ Same (clear_body (kept_reply (kept_of h))) = law r (Dropped id ∷ h) whole round.tag m outcome again may.1 in
        absurd (false≢true (subst (λ (o : Outcome). AreShown r (with_large None whole h) (clear_body m) o (id ∷ [])) same shown))
    by_drops (id ∷ other ∷ others) outcome may shown is behind = absurd shown

-- ---- The next chunk.

module _ (r : RspSetup) (h : History) (whole : List ℕ) (tag handle number : ℕ) (get : IsNextGet r h whole tag handle number) where
  abbrev entry : Entry
  entry = get_entry tag handle number (get_response h whole handle number)

  -- A session that was dropped counts for nothing here.
  dropped_get : (id : ℕ) → IsNextGet r (Dropped id ∷ h) whole tag handle number
  dropped_get id = record {
    room = get.room;
    byte = get.byte;
    few = get.few;
    anew = get.anew;
    chunks = get.chunks;
    large = get.large;
    given = get.given;
    same = get.same;
    more = get.more;
  }

  abbrev transfer : ℕ
  transfer = (place_terms (clear_with h whole)).common.to_requester.transfer

  plain_is : is_plain (with_large None whole h) (Adds entry) ≡ nat_lt (number + 1) (chunk_count transfer whole)
  plain_is =
      ap (λ (o : Option (List ℕ)). not (not (is_some (still_pending transfer (given + 1) o)))) get.large
      ∙ ap (λ (n : ℕ). not (not (is_some (still_pending transfer (n + 1) (Some whole))))) get.given ∙ by_more (nat_lt (number + 1) (chunk_count transfer whole))
    where
      given : ℕ
      given = given_of (clear_with h whole).turns

      by_more : (b : Bool) → not (not (is_some (if b then Some whole else None))) ≡ b
      by_more true = refl
      by_more false = refl

pub get_goes_on : NextIsGiven → GetGoesOn
get_goes_on law r d whole round handle number answer next fetching body get = (to_given, from_given)
  where
    h : History
    h = d.responder

    m : List ℕ
    m = get_message handle number

    one : Entry
    one = entry r h whole round.tag handle number get

    more : Bool
    more = nat_lt (number + 1) (chunk_count (place_terms (clear_with h whole)).common.to_requester.transfer whole)

    by_drops : (dropped : List ℕ) (outcome : Outcome) → MayLeadAfter r (with_large None whole h) dropped round.tag (clear_body m) outcome → AreShown r (with_large None whole h) (clear_body m) outcome dropped
        → is_plain (with_large None whole h) outcome ≡ true → body_of outcome ≡ answer → next ≡ after (with_dropped h dropped) outcome
        → (answer ≡ clear_body (get_response h whole handle number)) × (more ≡ true) × (next ≡ one ∷ h)
    by_drops [] outcome may shown plain is behind =
        let same : outcome ≡ Adds one = (law r h whole round.tag handle number outcome get).0 may.1 in
        (sym is ∙ ap body_of same, sym (plain_is r h whole round.tag handle number get) ∙ ap (is_plain (with_large None whole h)) (sym same) ∙ plain, behind ∙ ap (after h) same)
    by_drops (id ∷ []) outcome may shown plain is behind =
        let same : outcome ≡ Adds one = (law r (Dropped id ∷ h) whole round.tag handle number outcome (dropped_get r h whole round.tag handle number get id)).0 may.1 in
        absurd (false≢true (subst (λ (o : Outcome). AreShown r (with_large None whole h) (clear_body m) o (id ∷ [])) same shown))
    by_drops (id ∷ other ∷ others) outcome may shown plain is behind = absurd shown

    to_given : AnswersPlainly r d round answer next → (answer ≡ clear_body (get_response h whole handle number)) × (more ≡ true) × (next ≡ one ∷ h)
    to_given a = let p = to_plain r d whole round m answer next fetching body a in by_drops p.0 p.1 p.2 p.3 p.4 p.5 p.6

    from_given : (answer ≡ clear_body (get_response h whole handle number)) × (more ≡ true) × (next ≡ one ∷ h) → AnswersPlainly r d round answer next
    from_given c =
        from_plain r d whole round m answer next fetching body
        ([], Adds one, (tt, (law r h whole round.tag handle number (Adds one) get).1 refl), tt, plain_is r h whole round.tag handle number get ∙ c.1, sym c.0, c.2)

-- ---- No other large answer.

module _ (r : RspSetup) (d : Dialogue) (whole : List ℕ) (round : Round) (m : List ℕ) (fetching : d.fetching ≡ Some whole) (body : round.body ≡ clear_body m) where
  -- What a message may lead to, with these bytes.
  led : (dropped : List ℕ) (outcome : Outcome) → MayLeadAfter r (judging d.fetching round.body d.responder) dropped round.tag round.body outcome
      → MayLeadAfter r (with_large None whole d.responder) dropped round.tag (clear_body m) outcome
  led dropped outcome may =
      let P : Option (List ℕ) → List ℕ → Type 0 = λ x b. MayLeadAfter r (judging x b d.responder) dropped round.tag b outcome in
      subst (P (Some whole)) body (subst (λ (x : Option (List ℕ)). P x round.body) fetching may)

-- These drops change nothing that is asked here.
dropped_large : (ids : List ℕ) (whole : List ℕ) (h : History) → with_dropped (with_large None whole h) ids ≡ with_large None whole (with_dropped h ids)
dropped_large [] whole h = refl
dropped_large (id ∷ ids) whole h = dropped_large ids whole (Dropped id ∷ h)

kept_gone : (ids : List ℕ) (h : History) → kept_of (with_dropped h ids) ≡ kept_of h
kept_gone [] h = refl
kept_gone (id ∷ ids) h = kept_gone ids (Dropped id ∷ h)

get_gone : (r : RspSetup) (ids : List ℕ) (h : History) (whole : List ℕ) (tag handle number : ℕ) → IsNextGet r h whole tag handle number → IsNextGet r (with_dropped h ids) whole tag handle number
get_gone r [] h whole tag handle number get = get
get_gone r (id ∷ ids) h whole tag handle number get = get_gone r ids (Dropped id ∷ h) whole tag handle number (dropped_get r h whole tag handle number get id)

same_adds : (a b : Entry) → Outcome.Adds a ≡ Adds b → a ≡ b
same_adds a b is = let e = is in cc

same_not : (l : List ℕ) (x : Entry) → Same l ≡ Adds x → ⊥
same_not l x is = absurd (let e = is in cc)

pub repeat_begins_none : RepeatIsSame → RepeatBeginsNone
repeat_begins_none law r d whole round m answer next other fetching body again = (no_large, no_last)
  where
    h : History
    h = d.responder

    same : (dropped : List ℕ) (outcome : Outcome) → MayLeadTo r (with_dropped (with_large None whole h) dropped) round.tag (clear_body m) outcome → outcome ≡ Same (clear_body (kept_reply (kept_of (with_dropped h dropped))))
    same dropped outcome may =
        law r (with_dropped h dropped) whole round.tag m outcome (ap (λ o. is_repeat o round.tag m) (kept_gone dropped h) ∙ again)
        (subst (λ (g : History). MayLeadTo r g round.tag (clear_body m) outcome) (dropped_large dropped whole h) may)

    no_large : AnswersLarge r d round answer next other → ⊥
    no_large c = same_not _ c.1 (sym (same c.0 (Adds c.1) (led r d whole round m fetching body c.0 (Adds c.1) c.2).1))

    no_last : Completes r d round answer next → ⊥
    no_last c =
        let P : Option (List ℕ) → List ℕ → Type 0 = λ x b. MayLeadTo r (judging x b h) round.tag b (Adds c.2) in
        same_not _ c.2 (sym (same [] (Adds c.2) (subst (P (Some whole)) body (subst (λ (x : Option (List ℕ)). P x round.body) fetching c.4))))

pub get_begins_none : NextIsGiven → GetBeginsNone
get_begins_none law r d whole round handle number answer next other fetching body get c =
    let h : History = d.responder in
    let m : List ℕ = get_message handle number in
    let may = led r d whole round m fetching body c.0 (Adds c.1) c.2 in
    let is = (law r (with_dropped h c.0) whole round.tag handle number (Adds c.1) (get_gone r c.0 h whole round.tag handle number get)).0
    (subst (λ (g : History). MayLeadTo r g round.tag (clear_body m) (Adds c.1)) (dropped_large c.0 whole h) may.1) in
    false≢true (sym (ap is_large (same_adds c.1 _ is)) ∙ c.3)

-- ---- The last chunk.

module _ (r : RspSetup) (d : Dialogue) (whole : List ℕ) (round : Round) (m answer : List ℕ) (next : History) (fetching : d.fetching ≡ Some whole) (body : round.body ≡ clear_body m) where
  abbrev Ends : List ℕ → Type 0
  Ends b =
      (dropped : List ℕ) × (entry : Entry)
      × MayLeadTo r (with_large (place_named b) whole d.responder) round.tag b (Adds entry)
      × (gives_last (with_large (place_named b) whole d.responder) entry ≡ true)
      × MayHaveLed r (place_named b) whole dropped d.responder
      × (sent_by entry ≡ answer)
      × (next ≡ entry ∷ with_large (place_named b) whole (dropped_before_large (place_named b) dropped d.responder))
      × (is_untouched (place_named b) (begun_with (place_named b) whole d.responder) d.responder ≡ true)

  abbrev Ended : Option (List ℕ) → List ℕ → List ℕ → Type 0
  Ended x w b =
      (dropped : List ℕ) × (entry : Entry)
      × MayLeadTo r (judging x b d.responder) round.tag b (Adds entry)
      × (gives_last (judging x b d.responder) entry ≡ true)
      × MayHaveLed r (place_named b) w dropped d.responder
      × (sent_by entry ≡ answer)
      × (next ≡ entry ∷ with_large (place_named b) w (dropped_before_large (place_named b) dropped d.responder))
      × (is_untouched (place_named b) (begun_with (place_named b) w d.responder) d.responder ≡ true)

  to_ends : Completes r d round answer next → Ends (clear_body m)
  to_ends c =
      let same : c.0 ≡ whole = same_Some c.0 whole (sym c.3 ∙ fetching) in
      let here : Ended d.fetching c.0 round.body = (c.1, c.2, c.4, c.5, c.6, c.7, c.8, c.9) in
      let mine : Ended (Some whole) whole round.body = subst (λ (x : Option (List ℕ)). Ended x whole round.body) fetching (subst (λ (w : List ℕ). Ended d.fetching w round.body) same here) in
      subst (λ (b : List ℕ). Ended (Some whole) whole b) body mine

  from_ends : Ends (clear_body m) → Completes r d round answer next
  from_ends e =
      let mine : Ended (Some whole) whole round.body = subst (λ (b : List ℕ). Ended (Some whole) whole b) (sym body) e in
      let here : Ended d.fetching whole round.body = subst (λ (x : Option (List ℕ)). Ended x whole round.body) (sym fetching) mine in
      (whole, here.0, here.1, fetching, here.2, here.3, here.4, here.5, here.6, here.7)

pub last_is : (r : RspSetup) (h : History) (whole : List ℕ) (tag handle number : ℕ) (get : IsNextGet r h whole tag handle number)
    → gives_last (with_large None whole h) (entry r h whole tag handle number get) ≡ not (nat_lt (number + 1) (chunk_count (transfer r h whole tag handle number get) whole))
last_is r h whole tag handle number get =
    sym (not_not _) ∙ ap not (plain_is r h whole tag handle number get)
  where
    not_not : (b : Bool) → not (not b) ≡ b
    not_not true = refl
    not_not false = refl

pub get_completes : NextIsGiven → GetCompletes
get_completes law r d whole round handle number answer next fetching body get = (to_last, from_last)
  where
    h : History
    h = d.responder

    m : List ℕ
    m = get_message handle number

    one : Entry
    one = entry r h whole round.tag handle number get

    more : Bool
    more = nat_lt (number + 1) (chunk_count (place_terms (clear_with h whole)).common.to_requester.transfer whole)

    Last : Type 0
    Last =
        (dropped : List ℕ)
        × (answer ≡ clear_body (get_response h whole handle number))
        × (more ≡ false)
        × MayHaveLed r None whole dropped h
        × (is_untouched None (begun_with None whole h) h ≡ true)
        × (next ≡ one ∷ with_large None whole (dropped_before_large None dropped h))

    not_true : (b : Bool) → not b ≡ true → b ≡ false
    not_true true is = absurd (false≢true is)
    not_true false is = refl

    to_last : Completes r d round answer next → Last
    to_last c =
        let e = to_ends r d whole round m answer next fetching body c in
        let is : e.1 ≡ one = same_adds e.1 one ((law r h whole round.tag handle number (Adds e.1) get).0 e.2) in (
          e.0,
          sym e.5 ∙ ap sent_by is,
          not_true more (sym (last_is r h whole round.tag handle number get) ∙ ap (gives_last (with_large None whole h)) (sym is) ∙ e.3),
          e.4,
          e.7,
          e.6 ∙ ap (λ (x : Entry). x ∷ with_large None whole (dropped_before_large None e.0 h)) is,
        )

    from_last : Last → Completes r d round answer next
    from_last l =
        from_ends r d whole round m answer next fetching body (
          l.0,
          one,
          (law r h whole round.tag handle number (Adds one) get).1 refl,
          last_is r h whole round.tag handle number get ∙ ap not l.2,
          l.3,
          sym l.1,
          l.5,
          l.4,
        )

-- ---- GET_VERSION.

version_gone : (r : RspSetup) (ids : List ℕ) (g : History) (tag : ℕ) → IsAnew r g tag → IsAnew r (with_dropped g ids) tag
version_gone r [] g tag anew = anew
version_gone r (id ∷ ids) g tag anew = version_gone r ids (Dropped id ∷ g) tag (record { room = anew.room; anew = anew.anew; sized = anew.sized })

pub version_goes : VersionIsGiven → VersionGoes
version_goes law r d whole round answer next fetching body anew = (to_given, from_given)
  where
    h : History
    h = d.responder

    g : History
    g = with_large None whole h

    m : List ℕ
    m = canonical_request GetVersion

    one : Entry
    one = version_entry round.tag

    by_drops : (dropped : List ℕ) (outcome : Outcome) → MayLeadAfter r g dropped round.tag (clear_body m) outcome → AreShown r g (clear_body m) outcome dropped
        → body_of outcome ≡ answer → next ≡ after (with_dropped h dropped) outcome → (answer ≡ clear_body (canonical_response version_answer)) × (next ≡ one ∷ h)
    by_drops [] outcome may shown is behind =
        let same : outcome ≡ Adds one = (law r g round.tag outcome anew).0 may.1 in
        (sym is ∙ ap body_of same, behind ∙ ap (after h) same)
    by_drops (id ∷ []) outcome may shown is behind =
        let same : outcome ≡ Adds one = (law r (Dropped id ∷ g) round.tag outcome (version_gone r (id ∷ []) g round.tag anew)).0 may.1 in
        absurd (false≢true (subst (λ (o : Outcome). AreShown r g (clear_body m) o (id ∷ [])) same shown))
    by_drops (id ∷ other ∷ others) outcome may shown is behind = absurd shown

    to_given : AnswersPlainly r d round answer next → (answer ≡ clear_body (canonical_response version_answer)) × (next ≡ one ∷ h)
    to_given a = let p = to_plain r d whole round m answer next fetching body a in by_drops p.0 p.1 p.2 p.3 p.5 p.6

    from_given : (answer ≡ clear_body (canonical_response version_answer)) × (next ≡ one ∷ h) → AnswersPlainly r d round answer next
    from_given c = from_plain r d whole round m answer next fetching body ([], Adds one, (tt, (law r g round.tag (Adds one) anew).1 refl), tt, refl, sym c.0, c.1)

pub version_begins_none : VersionIsGiven → VersionBeginsNone
version_begins_none law r d whole round answer next other fetching body anew = (no_large, no_last)
  where
    h : History
    h = d.responder

    g : History
    g = with_large None whole h

    m : List ℕ
    m = canonical_request GetVersion

    no_large : AnswersLarge r d round answer next other → ⊥
    no_large c =
        let is = (law r (with_dropped g c.0) round.tag (Adds c.1) (version_gone r c.0 g round.tag anew)).0 (led r d whole round m fetching body c.0 (Adds c.1) c.2).1 in
        false≢true (sym (ap is_large (same_adds c.1 _ is)) ∙ c.3)

    no_last : Completes r d round answer next → ⊥
    no_last c =
        let e = to_ends r d whole round m answer next fetching body c in
        let is = (law r g round.tag (Adds e.1) anew).0 e.2 in
        false≢true (sym (ap (gives_last g) (same_adds e.1 _ is)) ∙ e.3)
