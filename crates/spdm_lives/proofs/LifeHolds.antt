-- What holds of one life that is behind others, where nothing agrees by chance over all of them.
use Rattle.std.proofs.Common.{◌≡◌, ℕ, List, [], ◌∷◌, ◌++◌, append-nil, true, refl, sym, ap, ◌∙◌, subst, inl, inr, true≢false}
use Rattle.key_schedule.specs.Purpose.{Purpose, Kind, verify}
use Rattle.key_schedule.specs.Purpose.Kind.{Verify, HandshakeRecord, ApplicationRecord}
use Rattle.key_schedule.specs.declared.direction.Direction.{Direction}
use Rattle.key_schedule.specs.declared.direction.Direction.TheVariants.{Request, Response}
use Rattle.requester_machine.specs.Requesting.{Requesting}
use Rattle.requester_machine.specs.Session as requester
use Rattle.responder_machine.specs.Responding.{Connection}
use Rattle.spdm_agreement.proofs.Delivery.AtResponder as taken_there
use Rattle.spdm_agreement.proofs.Delivery.Data.{answered_data, asked_data, data_prefix, taken_data}
use Rattle.spdm_agreement.proofs.Delivery.SealedAtRequester as sealed_here
use Rattle.spdm_agreement.proofs.Delivery.TakenAtRequester as heard_here
use Rattle.spdm_agreement.proofs.Messages.Beginnings.{reading_of}
use Rattle.spdm_agreement.proofs.Moves.Invariant.{IsBackedAs}
use Rattle.spdm_agreement.proofs.Moves.Runs.{holds}
use Rattle.spdm_agreement.proofs.Requester.AfterBody as bodies
use Rattle.spdm_agreement.proofs.Requester.OpenSessions.{asked_stands}
use Rattle.spdm_agreement.proofs.Requester.Waiting as requester_steady
use Rattle.spdm_agreement.proofs.Requester.Whole as asks
use Rattle.spdm_agreement.proofs.Responder.DataAnswered as serves
use Rattle.spdm_agreement.proofs.Worlds.AllEvents as worlds
use Rattle.spdm_agreement.proofs.Worlds.Behind.{asked_behind, served_behind, finished_in, heard_behind, open_opened, requests_behind, taken_behind}
use Rattle.spdm_agreement.proofs.Worlds.Fits.{IsPair}
use Rattle.spdm_agreement.proofs.Worlds.Pairs.{state_of}
use Rattle.spdm_agreement.specs.Claims.{in_order}
use Rattle.spdm_agreement.specs.Marks.{Served, Exchange, Text, IsOpened, HasFinished, HasOpened, heard, requests, taken}
use Rattle.spdm_agreement.specs.Reading.{First}
use Rattle.spdm_agreement.specs.Story.{Past, no_past, asked_first, asked_from, asked_marks, served_from, served_marks}
use Rattle.spdm_agreement.specs.Worlds.{HoldsTogether}
use Rattle.spdm_lives.proofs.Checks.{IsAskedAs, IsServedAs}
use Rattle.spdm_lives.proofs.LifeKept.{IsLife}
use Rattle.spdm_lives.proofs.LifeSteps.{always}
use Rattle.spdm_lives.proofs.OldAndNew as apart
use Rattle.spdm_lives.proofs.PastLives.{IsGood, framed, past_of, log_is}
use Rattle.spdm_lives.proofs.QuietMarks.{unheard, untaken}
use Rattle.spdm_lives.proofs.RequesterSessions.{opened_accepted}
use Rattle.spdm_lives.proofs.ResponderSessions.{finished_began}
use Rattle.spdm_lives.specs.Fresh.{NothingOld, NoOldSession, must_be_new}
use Rattle.spdm_lives.specs.Lives.{Life, joined_log, world_of}
use Rattle.spdm_machine.proofs.Members.{in_contained}
use Rattle.spdm_machine.specs.TagLog.{Log}
use Rattle.spdm_machine.specs.TagLog.Act.{Made, Checked}
use Rattle.world_machine.specs.Agreement.{Agreement, ArePair, DataPrefix, HashesAgree, IsMade, IsPrefixOf, Matched, SealedOnce}
use Rattle.world_machine.specs.World.{World}

-- A tag that was made is among more of them.
made_more : (p : Purpose) (i : List ℕ) (new old : Log) → IsMade p i new → IsMade p i (new ++ old)
made_more p i [] old m = absurd m
made_more p i (Made q j v ∷ new) old m = elim m [ inl e ↦ inl e | inr y ↦ inr (made_more p i new old y) ]
made_more p i (Checked q j v w ∷ new) old m = made_more p i new old m

same_prefix : (a b x y : List (List ℕ)) → a ≡ x → b ≡ y → IsPrefixOf x y → IsPrefixOf a b
same_prefix a b x y p q k = subst (λ (l : List (List ℕ)). IsPrefixOf l b) (sym p) (subst (IsPrefixOf x) (sym q) k)

not_both : {A : Type 0} (x : A) (l : List A) → x ∷ l ≡ [] → ⊥
not_both x l e = cc

module _ (life : Life) (earlier : List Life) (k : IsGood life earlier) where
  abbrev prior : Past
  prior = past_of earlier

  abbrev world : World
  world = world_of life

  abbrev whole : World
  whole = framed life earlier

  is_life : IsLife life.setup world
  is_life = always life.setup k.configured life.entries

  whole_pair : (a : Requesting) (c : Connection) → ArePair world a c → ArePair whole a c
  whole_pair a c pair = record { requester = pair.requester; connection = pair.connection; peer = pair.peer }

  its_pair : (a : Requesting) (c : Connection) → ArePair world a c → IsPair world.requesters world.responder.connections a c
  its_pair a c pair = record { requester = in_contained world.requesters a pair.requester; connection = in_contained world.responder.connections c pair.connection; peer = pair.peer }

  agrees : Agreement world
  agrees a c pair req rsp live held ids =
      worlds.agree prior (asks.IsKept prior) (serves.IsKept prior) (asks.starts prior k.openly) (asks.asks_well prior) (asks.hears_well prior) bodies.steady (serves.served_starts prior k.duly) (serves.does_well prior) (serves.waits prior) whole k.fits
      a c (whole_pair a c pair) req rsp live held ids

  matches : Matched world
  matches a c pair =
      worlds.match_all prior (asks.IsKept prior) (serves.IsKept prior) (asks.starts prior k.openly) (asks.asks_well prior) (asks.hears_well prior) bodies.steady (serves.served_starts prior k.duly) (serves.does_well prior) (serves.waits prior) whole k.fits
      (λ b x its. apart.opens_new life earlier k b x its) a c (whole_pair a c pair)

  shows_alike : HashesAgree world
  shows_alike a c pair req rsp live held same =
      worlds.hash_all prior (asks.IsKept prior) (serves.IsKept prior) (asks.starts prior k.openly) (asks.asks_well prior) (asks.hears_well prior) bodies.steady (serves.served_starts prior k.duly) (serves.does_well prior) (serves.waits prior) whole k.fits
      a c (whole_pair a c pair) req rsp live held same

  pub seals_once : SealedOnce whole.log
  seals_once =
      worlds.seal_once prior (asks.IsKept prior) (serves.IsKept prior) (asks.starts prior k.openly) (asks.asks_well prior) (asks.hears_well prior) bodies.steady (serves.served_starts prior k.duly) (serves.does_well prior) (serves.waits prior) whole k.fits

  sealed_here_once : SealedOnce world.log
  sealed_here_once p number b c is m n = seals_once p number b c is (made_more p (number ∷ b) world.log (joined_log earlier) m) (made_more p (number ∷ c) world.log (joined_log earlier) n)

  -- ---- Application data.

  all_data : (a : Requesting) (c : Connection) → IsPair world.requesters world.responder.connections a c → (u : List ℕ)
      → IsPrefixOf (in_order taken_data (taken u (served_from prior c.setup c.history))) (in_order asked_data (requests u (asked_from prior a.setup a.history)))
      × IsPrefixOf (in_order answered_data (heard u (asked_from prior a.setup a.history))) (in_order answered_data (taken u (served_from prior c.setup c.history)))
  all_data a c pair u =
      let s = state_of prior a c whole.log in
      data_prefix (reading_of a.setup.psk) s.asked s.served s.log (holds (reading_of a.setup.psk) s (k.fits.pairs a c pair))
      (asks.keeps_openly prior a.setup a.history (k.fits.asks a pair.requester).kept) (serves.serves_duly prior c.setup c.history (k.fits.serves c pair.connection).kept) u

  taken_alone : (c : Connection) (u : List ℕ) → taken u (prior.served c.setup) ≡ [] → taken u (served_from prior c.setup c.history) ≡ taken u (served_marks c.setup c.history)
  taken_alone c u none =
      ap (taken u) (served_behind prior c.setup c.history) ∙ taken_behind u (served_marks c.setup c.history) (prior.served c.setup) ∙ ap (λ (l : List Exchange). taken u (served_marks c.setup c.history) ++ l) none
      ∙ append-nil (taken u (served_marks c.setup c.history))

  requests_alone : (a : Requesting) (u : List ℕ) → requests u (prior.asked a.setup) ≡ [] → requests u (asked_from prior a.setup a.history) ≡ requests u (asked_marks a.setup a.history)
  requests_alone a u none =
      ap (requests u) (asked_behind prior a.setup a.history) ∙ requests_behind u (asked_marks a.setup a.history) (prior.asked a.setup) ∙ ap (λ (l : List Text). requests u (asked_marks a.setup a.history) ++ l) none
      ∙ append-nil (requests u (asked_marks a.setup a.history))

  heard_alone : (a : Requesting) (u : List ℕ) → heard u (prior.asked a.setup) ≡ [] → heard u (asked_from prior a.setup a.history) ≡ heard u (asked_marks a.setup a.history)
  heard_alone a u none =
      ap (heard u) (asked_behind prior a.setup a.history) ∙ heard_behind u (asked_marks a.setup a.history) (prior.asked a.setup) ∙ ap (λ (l : List Exchange). heard u (asked_marks a.setup a.history) ++ l) none
      ∙ append-nil (heard u (asked_marks a.setup a.history))

  -- What the responder took in this life, of what the requester sealed in it.
  requests_prefix : (a : Requesting) (c : Connection) (pair : IsPair world.requesters world.responder.connections a c) (u : List ℕ) (l : List Exchange) → taken u (served_marks c.setup c.history) ≡ l
      → IsPrefixOf (in_order taken_data (taken u (served_marks c.setup c.history))) (in_order asked_data (requests u (asked_marks a.setup a.history)))
  requests_prefix a c pair u [] e = subst (λ (x : List Exchange). IsPrefixOf (in_order taken_data x) (in_order asked_data (requests u (asked_marks a.setup a.history)))) (sym e) (in_order asked_data (requests u (asked_marks a.setup a.history)), refl)
  requests_prefix a c pair u (x ∷ l) e =
      let opens : ((t : First) → HasOpened (served_marks c.setup c.history) t u → ⊥) → ⊥ = λ none. not_both x l (sym e ∙ untaken c.setup c.history (is_life.serves c pair.connection).made u none) in
      let before = apart.before life earlier k a c pair in
      let old_taken : taken u (prior.served c.setup) ≡ [] = before.serves.quiet u (λ s o. opens (λ t n. apart.served_served life earlier k a c pair t s u n o)) in
      let old_requests : requests u (prior.asked a.setup) ≡ [] = (before.asks.quiet u (λ s o. opens (λ t n. apart.served_asked life earlier k a c pair t s u n o))).0 in
      subst (λ (y : List Text). IsPrefixOf (in_order taken_data (taken u (served_marks c.setup c.history))) (in_order asked_data y)) (requests_alone a u old_requests)
      (subst (λ (y : List Exchange). IsPrefixOf (in_order taken_data y) (in_order asked_data (requests u (asked_from prior a.setup a.history)))) (taken_alone c u old_taken) (all_data a c pair u).0)

  -- What the requester heard in this life, of what the responder sealed in it.
  responses_prefix : (a : Requesting) (c : Connection) (pair : IsPair world.requesters world.responder.connections a c) (u : List ℕ) (l : List Exchange) → heard u (asked_marks a.setup a.history) ≡ l
      → IsPrefixOf (in_order answered_data (heard u (asked_marks a.setup a.history))) (in_order answered_data (taken u (served_marks c.setup c.history)))
  responses_prefix a c pair u [] e = subst (λ (x : List Exchange). IsPrefixOf (in_order answered_data x) (in_order answered_data (taken u (served_marks c.setup c.history)))) (sym e) (in_order answered_data (taken u (served_marks c.setup c.history)), refl)
  responses_prefix a c pair u (x ∷ l) e =
      let opens : ((t : First) → IsOpened (asked_marks a.setup a.history) t u → ⊥) → ⊥ = λ none. not_both x l (sym e ∙ unheard a.setup a.history (is_life.asks a pair.requester).made u none) in
      let before = apart.before life earlier k a c pair in
      let old_taken : taken u (prior.served c.setup) ≡ [] = before.serves.quiet u (λ s o. opens (λ t n. apart.asked_served life earlier k a c pair t s u n o)) in
      let old_heard : heard u (prior.asked a.setup) ≡ [] = (before.asks.quiet u (λ s o. opens (λ t n. apart.asked_asked life earlier k a c pair t s u n o))).1 in
      subst (λ (y : List Exchange). IsPrefixOf (in_order answered_data y) (in_order answered_data (taken u (served_marks c.setup c.history)))) (heard_alone a u old_heard)
      (subst (λ (y : List Exchange). IsPrefixOf (in_order answered_data (heard u (asked_from prior a.setup a.history))) (in_order answered_data y)) (taken_alone c u old_taken) (all_data a c pair u).1)

  delivers : DataPrefix world
  delivers a c are u =
      let pair = its_pair a c are in
      let asked = (is_life.asks a pair.requester).made in
      let served = (is_life.serves c pair.connection).made in (
        same_prefix _ _ _ _ (taken_there.requests_are c.setup c.history served u) (sealed_here.requests_are a.setup a.history asked u) (requests_prefix a c pair u _ refl),
        same_prefix _ _ _ _ (heard_here.responses_are a.setup a.history asked u) (taken_there.responses_are c.setup c.history served u) (responses_prefix a c pair u _ refl),
      )

  pub holds_together : HoldsTogether world
  holds_together = record { agreement = agrees; data_prefix = delivers; matched = matches; hashes_agree = shows_alike; sealed_once = sealed_here_once }

  -- ---- Nothing old passes.

  old_asked : (a : Requesting) (c : Connection) (pair : IsPair world.requesters world.responder.connections a c) (kind : Kind) (direction : Direction) (t1 : List ℕ) (e : ℕ) (i : List ℕ) → must_be_new kind direction ≡ true
      → IsAskedAs (asked_marks a.setup a.history) kind direction t1 → IsBackedAs (reading_of a.setup.psk) (prior.asked a.setup) (prior.served c.setup) kind direction t1 e i → ⊥
  old_asked a c pair Verify Response t1 e i new is back = true≢false (sym new)
  old_asked a c pair Verify Request t1 e i new is back = is
  old_asked a c pair HandshakeRecord Response t1 e i new is back =
      apart.one_accepted life earlier k a c pair is.0 back.first is.1 ((apart.before life earlier k a c pair).links.replied back.first back.reply back.story) (is.2 ∙ sym back.is)
  old_asked a c pair HandshakeRecord Request t1 e i new is back = is
  old_asked a c pair ApplicationRecord Response t1 e i new is back = apart.asked_served life earlier k a c pair is.0 back.first t1 is.1 back.is
  old_asked a c pair ApplicationRecord Request t1 e i new is back = is

  old_served : (a : Requesting) (c : Connection) (pair : IsPair world.requesters world.responder.connections a c) (kind : Kind) (direction : Direction) (t1 : List ℕ) (e : ℕ) (i : List ℕ) → must_be_new kind direction ≡ true
      → IsServedAs (served_marks c.setup c.history) kind direction t1 → IsBackedAs (reading_of a.setup.psk) (prior.asked a.setup) (prior.served c.setup) kind direction t1 e i → ⊥
  old_served a c pair Verify Response t1 e i new is back = is
  old_served a c pair Verify Request t1 e i new is back =
      apart.one_begun life earlier k a c pair is.0 back.0 is.1 ((apart.before life earlier k a c pair).links.accepted back.0 back.2) (is.2 ∙ sym back.1)
  old_served a c pair HandshakeRecord Response t1 e i new is back = is
  old_served a c pair HandshakeRecord Request t1 e i new is back =
      apart.one_begun life earlier k a c pair is.0 back.first is.1 ((apart.before life earlier k a c pair).links.accepted back.first back.story) (is.2 ∙ sym back.is)
  old_served a c pair ApplicationRecord Response t1 e i new is back = is
  old_served a c pair ApplicationRecord Request t1 e i new is back = apart.served_asked life earlier k a c pair is.0 back.first t1 is.1 back.is

  was_made : (p : Purpose) (i : List ℕ) → IsMade p i (joined_log earlier) → IsMade p i prior.log
  was_made p i m = subst (IsMade p i) (sym (log_is earlier)) m

  pub nothing_old : NothingOld life earlier
  nothing_old p i new passed made = elim (is_life.checks.all p i passed) [
    | inl x ↦ (let c = is_life.apart.served x.0 x.1 in
        let pair : IsPair world.requesters world.responder.connections x.0 c.0 = record { requester = x.1; connection = c.1; peer = c.2 } in
        old_asked x.0 c.0 pair p.kind p.direction p.transcript p.epoch i new x.2.1 ((apart.before life earlier k x.0 c.0 pair).backed p i (was_made p i made) x.2.0))
    | inr x ↦ (let a = is_life.apart.paired x.0 x.1 in
        let pair : IsPair world.requesters world.responder.connections a.0 x.0 = record { requester = a.1; connection = x.1; peer = a.2 } in
        old_served a.0 x.0 pair p.kind p.direction p.transcript p.epoch i new x.2.1 ((apart.before life earlier k a.0 x.0 pair).backed p i (was_made p i made) (x.2.0 ∙ a.3)))
  ]

  pub no_old_session : NoOldSession life earlier
  no_old_session a m id held made =
      let is = in_contained world.requesters a m in
      let c = is_life.apart.served a is in
      let pair : IsPair world.requesters world.responder.connections a c.0 = record { requester = is; connection = c.1; peer = c.2 } in
      let s = requester.session_of id a.history in
      let t = asked_first s in
      let u = requester.t2_of s in
      let old = apart.before life earlier k a c.0 pair in
      let steady = requester_steady.made_steady a.setup a.history (is_life.asks a is).made in
      let here : IsOpened (asked_marks a.setup a.history) t u = open_opened (reading_of a.setup.psk) id (asked_marks a.setup a.history) t u ((asked_stands no_past a.setup.psk a.setup a.history steady id).told held) in
      let accepted = opened_accepted a.setup a.history (is_life.asks a is).made t u here in
      let all = holds (reading_of a.setup.psk) (state_of prior a c.0 whole.log) (k.fits.pairs a c.0 pair) in
      let finished = all.links.opened id (t, u) ((asked_stands prior a.setup.psk a.setup a.history steady id).told held) in
      let back = old.backed (verify a.setup.psk (requester.t1_of s) Response) (requester.t1_of s) (was_made _ _ made) refl in
      elim (finished_in (served_marks c.0.setup c.0.history) (prior.served c.0.setup) t (subst (λ (l : List Served). HasFinished l t) (served_behind prior c.0.setup c.0.history) finished)) [
        | inl new ↦ apart.one_begun life earlier k a c.0 pair t back.0 (finished_began c.0.setup c.0.history t new) back.2 (sym back.1)
        | inr before ↦ apart.accepted_once life earlier k a c.0 pair t accepted (old.links.finished t before)
      ]
