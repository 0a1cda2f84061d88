-- An answer while a large response is fetched leads to one history at the responder, whatever bytes stand for the large
-- one; its last chunk tells them.
use Rattle.std.proofs.Common.{◌≡◌, ◌==◌, ◌⊎◌, ℕ, List, [], ◌∷◌, refl, sym, ap, ◌∙◌, subst, drop, Bool, true, Option, Some, None, inl, inr, arith}
use Rattle.std.specs.Prelude.{not, slice_index}
use Rattle.std.proofs.lemmas.Bool.{false≢true, not-true}
use Rattle.std.proofs.lemmas.Option.{none-some, same_Some}
use Rattle.spdm_basis.proofs.Bools.{and_first, and_second}
use Rattle.spdm_grammar.specs.Message.RequestMessage.{GetVersion}
use Rattle.spdm_grammar.specs.Requests.{canonical_request}
use Rattle.spdm_grammar.specs.declared.names.request_code.TheConstants.{CHUNK_GET}
use Rattle.spdm_machine.specs.Bodies.{clear_body}
use Rattle.requester_machine.specs.History as requester_history
use Rattle.requester_machine.specs.Setup.{ReqSetup}
use Rattle.responder_machine.specs.Handling.{turn_of}
use Rattle.responder_machine.specs.History.{History, Entry}
use Rattle.responder_machine.specs.History.Entry.{Clear}
use Rattle.responder_machine.specs.May.{with_dropped}
use Rattle.responder_machine.specs.Place.{clear_place}
use Rattle.responder_machine.specs.Refusal.{code_of}
use Rattle.responder_machine.specs.Responder.{Outcome, sent_by}
use Rattle.responder_machine.specs.Responder.Outcome.{Same, Unopened, Adds}
use Rattle.responder_machine.specs.Setup.{RspSetup}
use Rattle.capture_machine.specs.CapturedAnswers.{Answers, MayLeadTo, MayHaveLed, is_plain}
use Rattle.capture_machine.specs.LargeAnswers.{is_large, takes_get, gives_last, place_named, with_large, dropped_before_large}
use Rattle.capture_machine.specs.Rounds.{Round, no_draw}
use Rattle.capture_machine.proofs.Alike.FetchesAlike.{NoneFetched, BothFetched}
use Rattle.capture_machine.proofs.AskersBegin.{dial}
use Rattle.capture_machine.proofs.ChunksGiven.{answer_by, parts_of}
use Rattle.capture_machine.proofs.DropsTell.{clear_form}
use Rattle.capture_machine.proofs.FetchStates.{Fetch, asking, served}
use Rattle.capture_machine.proofs.FetchedAnswers.{Asking, turn_code, plain_fetched, adds_fetched, large_fetched}
use Rattle.capture_machine.proofs.FetchedAnswers.Asking.{Always}
use Rattle.capture_machine.proofs.FetchedTells.{ReadsAlways, version_reads}
use Rattle.capture_machine.proofs.LargeTells.{led_drops}
use Rattle.capture_machine.proofs.PlainTells.{led_clear, plain_next, entries_same, entries_erased}
use Rattle.capture_machine.proofs.RepliesAlike.{Told, into_fetched}
use Rattle.capture_machine.proofs.RepliesTell.{OutcomesAlike}
use Rattle.capture_machine.proofs.SmallGets.{gets_are_small}

-- The last request is GET_VERSION, in place of all that was asked; or the large response is fetched.
abbrev pub Stands : History → List ℕ → ℕ → List ℕ → Type 0
Stands h w tag body = (body ≡ clear_body (canonical_request GetVersion)) ⊎ Fetch h w tag body

version_asking : (h : History) (tag : ℕ) (body : List ℕ) → body ≡ clear_body (canonical_request GetVersion) → Asking h (place_named body) tag body
version_asking h tag body is = Always (ap (λ (l : List ℕ). slice_index l 0 == 5) is) (subst (λ (l : List ℕ). ReadsAlways (drop 1 l)) (sym is) version_reads)

asking_of : (h : History) (w : List ℕ) (tag : ℕ) (body : List ℕ) → Stands h w tag body → Asking h (place_named body) tag body
asking_of h w tag body (inl is) = version_asking h tag body is
asking_of h w tag body (inr fetch) = asking h tag body fetch.how

-- GET_VERSION is not answered by a chunk.
pub version_apart : (r : RspSetup) (h : History) (tag : ℕ) (body : List ℕ) (e : Entry) → body ≡ clear_body (canonical_request GetVersion) → MayLeadTo r h tag body (Adds e) → takes_get e ≡ true → ⊥
version_apart r h tag body e is may gets =
    let led = led_clear r h tag body (Adds e) (ap (λ (l : List ℕ). slice_index l 0 == 5) is) may in
    let reads : ReadsAlways (drop 1 body) = subst (λ (l : List ℕ). ReadsAlways (drop 1 l)) (sym is) version_reads in
    elim (clear_form r h tag (drop 1 body) led.free (Adds e) led.leads) [
      | inl same ↦ absurd (let x = same.1 in cc)
      | inr adds ↦
          let same : e ≡ Clear tag (turn_of r (clear_place h) (drop 1 body) led.free) no_draw = cc adds in
          let code : code_of (drop 1 body) ≡ CHUNK_GET = turn_code r (clear_place h) (drop 1 body) led.free CHUNK_GET refl reads.no_chunk (ap takes_get (sym same) ∙ gets) in
          let version : code_of (canonical_request GetVersion) ≡ CHUNK_GET = ap (λ (l : List ℕ). code_of (drop 1 l)) (sym is) ∙ code in
          absurd (omega (arith, version))
    ]

fetched_by : (r : RspSetup) (h k : History) (w : List ℕ) (tag : ℕ) (body : List ℕ) (e : Entry) → Stands h w tag body → MayLeadTo r k tag body (Adds e) → takes_get e ≡ true → Fetch h w tag body
fetched_by r h k w tag body e (inl is) may gets = absurd (version_apart r k tag body e is may gets)
fetched_by r h k w tag body e (inr fetch) may gets = fetch

module _ (r : RspSetup) (h : History) (w v : List ℕ) (tag : ℕ) (body : List ℕ) (one : Stands h w tag body) (other : Stands h v tag body) where
  -- Both sides tell alike whether a chunk is the last one.
  lasts : (e f : Entry) → e ≡ f → MayLeadTo r (with_large (place_named body) w h) tag body (Adds e) → MayLeadTo r (with_large (place_named body) v h) tag body (Adds f) → takes_get f ≡ true → gives_last (with_large (place_named body) w h) e ≡ gives_last (with_large (place_named body) v h) f
  lasts e f same may might gets =
      let a = served r h w tag body e (fetched_by r h (with_large (place_named body) v h) w tag body f one might gets) may in
      let b = served r h v tag body f (fetched_by r h (with_large (place_named body) v h) v tag body f other might gets) might in
      a.last (ap takes_get same ∙ gets) ∙ ap (λ (x : Entry). slice_index (answer_by x) 2 == 1) same ∙ sym (b.last gets)

  -- An answer that goes whole is not the last chunk.
  last_apart : (ids : List ℕ) (o : Outcome) (f : Entry) → ids ≡ [] → OutcomesAlike o (Adds f) → MayLeadTo r (with_dropped (with_large (place_named body) w h) ids) tag body o → is_plain (with_large (place_named body) w h) o ≡ true
      → MayLeadTo r (with_large (place_named body) v h) tag body (Adds f) → gives_last (with_large (place_named body) v h) f ≡ true → ⊥
  last_apart ids (Same b) f none alike may plain might last = alike
  last_apart ids (Unopened b) f none alike may plain might last = alike
  last_apart ids (Adds e) f none alike may plain might last =
      let same = entries_same e f alike (not-true _ (and_first _ _ plain)) in
      let leads = subst (λ (l : List ℕ). MayLeadTo r (with_dropped (with_large (place_named body) w h) l) tag body (Adds e)) none may in
      false≢true (sym (not-true _ (and_second (not (is_large e)) _ plain)) ∙ lasts e f same leads might (and_first _ _ last) ∙ last)

  -- The last chunk tells all of the answer.
  whole_told : (e f : Entry) → e ≡ f → MayLeadTo r (with_large (place_named body) w h) tag body (Adds e) → MayLeadTo r (with_large (place_named body) v h) tag body (Adds f) → gives_last (with_large (place_named body) w h) e ≡ true → gives_last (with_large (place_named body) v h) f ≡ true → w ≡ v
  whole_told e f same may might last late =
      let a = served r h w tag body e (fetched_by r h (with_large (place_named body) w h) w tag body e one may (and_first _ _ last)) may in
      let b = served r h v tag body f (fetched_by r h (with_large (place_named body) v h) v tag body f other might (and_first _ _ late)) might in
      sym (a.whole last) ∙ ap (λ (x : Entry). parts_of (place_named body) (x ∷ h)) same ∙ b.whole late

-- Both see the last chunk.
last_told : (r : RspSetup) (h : History) (w v x y ids others : List ℕ) (e f : Entry) (round : Round) (answer : List ℕ) (next other : History) (fetching fetches : Option (List ℕ)) (c : Bool)
    → Stands h w round.tag round.body → Stands h v round.tag round.body → w ≡ x → v ≡ y
    → MayLeadTo r (with_large (place_named round.body) w h) round.tag round.body (Adds e) → MayLeadTo r (with_large (place_named round.body) v h) round.tag round.body (Adds f)
    → gives_last (with_large (place_named round.body) w h) e ≡ true → gives_last (with_large (place_named round.body) v h) f ≡ true
    → MayHaveLed r (place_named round.body) x ids h → MayHaveLed r (place_named round.body) y others h → sent_by e ≡ sent_by f
    → next ≡ e ∷ with_large (place_named round.body) x (dropped_before_large (place_named round.body) ids h) → other ≡ f ∷ with_large (place_named round.body) y (dropped_before_large (place_named round.body) others h)
    → fetching ≡ None → fetches ≡ None → Told c next other fetching fetches
last_told r h w v x y ids others e f round answer next other fetching fetches c one two wx vy may might last late led lead sent is are none nothing =
    let place : Option ℕ = place_named round.body in
    let alike = adds_fetched r h place w v round.tag round.body [] [] e f (asking_of h w round.tag round.body one) (tt, may) (tt, might) sent in
    let same = entries_same e f alike (gets_are_small r (with_large place w h) round.tag round.body e may (and_first _ _ last)) in
    let bytes : x ≡ y = sym wx ∙ whole_told r h w v round.tag round.body one two e f same may might last late ∙ vy in
    let drops = led_drops r place x ids others h led (subst (λ (l : List ℕ). MayHaveLed r place l others h) (sym bytes) lead) in
    record {
      history =
          is ∙ ap (λ (z : Entry). z ∷ with_large place x (dropped_before_large place ids h)) same ∙ ap (λ (l : List ℕ). f ∷ with_large place x (dropped_before_large place l h)) drops
          ∙ ap (λ (l : List ℕ). f ∷ with_large place l (dropped_before_large place others h)) bytes ∙ sym are;
      fetched = into_fetched c fetching fetches None None none nothing NoneFetched;
    }

-- It leads to one history.
pub fetched_told : (r : RspSetup) (h : History) (w v : List ℕ) (q k : ReqSetup) (m n : requester_history.History) (s t : Option Round) (u x : Option (List ℕ)) (round : Round) (answer : List ℕ) (next other : History) (fetching fetches : Option (List ℕ)) (c : Bool)
    → Stands h w round.tag round.body → Stands h v round.tag round.body
    → Answers r (dial q m h s u (Some w)) round answer next fetching → Answers r (dial k n h t x (Some v)) round answer other fetches → Told c next other fetching fetches
unfolding Answers
fetched_told r h w v q k m n s t u x round answer next other fetching fetches c one two (inl a) (inl b) =
    let told = plain_fetched r h (place_named round.body) w v round.tag round.body a.0.0 b.0.0 a.0.1 b.0.1 (asking_of h w round.tag round.body one) a.0.2 b.0.2 a.0.3 b.0.3 (a.0.5 ∙ sym b.0.5) in
    record {
      history = a.0.6 ∙ plain_next (with_large (place_named round.body) w h) h a.0.0 b.0.0 a.0.1 b.0.1 told.0 told.1 a.0.4 ∙ sym b.0.6;
      fetched = into_fetched c fetching fetches (Some w) (Some v) a.1 b.1 (BothFetched w v);
    }
fetched_told r h w v q k m n s t u x round answer next other fetching fetches c one two (inr (inl a)) (inr (inl b)) =
    let alike = adds_fetched r h (place_named round.body) w v round.tag round.body a.1.0 b.1.0 a.1.1 b.1.1 (asking_of h w round.tag round.body one) a.1.2 b.1.2 (a.1.5 ∙ sym b.1.5) in
    record {
      history = a.1.6 ∙ ap (λ (y : Entry). y ∷ h) (entries_erased a.1.1 b.1.1 alike).0 ∙ sym b.1.6;
      fetched = into_fetched c fetching fetches (Some a.0) (Some b.0) a.2 b.2 (BothFetched a.0 b.0);
    }
fetched_told r h w v q k m n s t u x round answer next other fetching fetches c one two (inr (inr (inr a))) (inr (inr (inr b))) = last_told r h w v a.0.0 b.0.0 a.0.1 b.0.1 a.0.2 b.0.2 round answer next other fetching fetches c one two (same_Some w a.0.0 a.0.3) (same_Some v b.0.0 b.0.3) a.0.4 b.0.4 a.0.5 b.0.5 a.0.6 b.0.6 (a.0.7 ∙ sym b.0.7) a.0.8 b.0.8 a.1 b.1
fetched_told r h w v q k m n s t u x round answer next other fetching fetches c one two (inl a) (inr (inl b)) =
    absurd (large_fetched r h (place_named round.body) w v round.tag round.body a.0.0 b.1.0 a.0.1 b.1.1 (asking_of h w round.tag round.body one) a.0.2 b.1.2 a.0.3 a.0.4 b.1.3 (a.0.5 ∙ sym b.1.5))
fetched_told r h w v q k m n s t u x round answer next other fetching fetches c one two (inr (inl a)) (inl b) =
    absurd (large_fetched r h (place_named round.body) v w round.tag round.body b.0.0 a.1.0 b.0.1 a.1.1 (asking_of h w round.tag round.body one) b.0.2 a.1.2 b.0.3 b.0.4 a.1.3 (b.0.5 ∙ sym a.1.5))
fetched_told r h w v q k m n s t u x round answer next other fetching fetches c one two (inl a) (inr (inr (inr b))) =
    let told = plain_fetched r h (place_named round.body) w v round.tag round.body a.0.0 [] a.0.1 (Adds b.0.2) (asking_of h w round.tag round.body one) a.0.2 (tt, b.0.4) a.0.3 tt (a.0.5 ∙ sym b.0.7) in
    absurd (last_apart r h w v round.tag round.body one two a.0.0 a.0.1 b.0.2 told.0 told.1 a.0.2.1 a.0.4 b.0.4 b.0.5)
fetched_told r h w v q k m n s t u x round answer next other fetching fetches c one two (inr (inr (inr a))) (inl b) =
    let told = plain_fetched r h (place_named round.body) v w round.tag round.body b.0.0 [] b.0.1 (Adds a.0.2) (asking_of h w round.tag round.body one) b.0.2 (tt, a.0.4) b.0.3 tt (b.0.5 ∙ sym a.0.7) in
    absurd (last_apart r h v w round.tag round.body two one b.0.0 b.0.1 a.0.2 told.0 told.1 b.0.2.1 b.0.4 a.0.4 a.0.5)
fetched_told r h w v q k m n s t u x round answer next other fetching fetches c one two (inr (inl a)) (inr (inr (inr b))) =
    let alike = adds_fetched r h (place_named round.body) w v round.tag round.body a.1.0 [] a.1.1 b.0.2 (asking_of h w round.tag round.body one) a.1.2 (tt, b.0.4) (a.1.5 ∙ sym b.0.7) in
    let small = gets_are_small r (with_large (place_named round.body) v h) round.tag round.body b.0.2 b.0.4 (and_first _ _ b.0.5) in
    absurd (false≢true (sym small ∙ sym (entries_erased a.1.1 b.0.2 alike).1 ∙ a.1.3))
fetched_told r h w v q k m n s t u x round answer next other fetching fetches c one two (inr (inr (inr a))) (inr (inl b)) =
    let alike = adds_fetched r h (place_named round.body) v w round.tag round.body b.1.0 [] b.1.1 a.0.2 (asking_of h w round.tag round.body one) b.1.2 (tt, a.0.4) (b.1.5 ∙ sym a.0.7) in
    let small = gets_are_small r (with_large (place_named round.body) w h) round.tag round.body a.0.2 a.0.4 (and_first _ _ a.0.5) in
    absurd (false≢true (sym small ∙ sym (entries_erased b.1.1 a.0.2 alike).1 ∙ b.1.3))
fetched_told r h w v q k m n s t u x round answer next other fetching fetches c one two (inr (inr (inl a))) b = absurd (none-some w (sym a.1.0))
fetched_told r h w v q k m n s t u x round answer next other fetching fetches c one two a (inr (inr (inl b))) = absurd (none-some v (sym b.1.0))
