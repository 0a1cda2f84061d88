-- What holds of a world in which the responder started again, once or more often, where nothing agreed by chance.
use Rattle.std.proofs.Common.{◌≡◌, ◌∙◌, ◌++◌, ◌∷◌, ℕ, List, [], Some, true, inl, inr, append-nil, ap, refl, subst, sym, Contains}
use Rattle.std.proofs.lemmas.List.Elements.{Contains-append_left, Contains-append_right, Contains-push}
use Rattle.key_schedule.specs.Purpose.{Kind}
use Rattle.key_schedule.specs.Purpose.Kind.{ApplicationRecord, HandshakeRecord, Verify}
use Rattle.key_schedule.specs.declared.direction.Direction.{Direction}
use Rattle.key_schedule.specs.declared.direction.Direction.TheVariants.{Request, Response}
use Rattle.requester_machine.specs.Requesting.{Requesting}
use Rattle.requester_machine.specs.Session as requester
use Rattle.responder_lives.proofs.OldAndNew as old
use Rattle.responder_lives.proofs.Restarted.{asked_alone, chance_before, duly_at, ends, fits, framed, is_life, openly, past_of, setup_at}
use Rattle.responder_lives.specs.Laws.{HearsPrefixes, IsMatchedInLives, TakesNothingOld, TakesPrefixes}
use Rattle.responder_lives.specs.Restarts.{Again, AreRestarts, HasConnection, InOneLife, newest_world, world_after_lives}
use Rattle.responder_machine.specs.Responding.{Connection}
use Rattle.responder_machine.specs.Setup.{RspSetup}
use Rattle.spdm_agreement.proofs.Delivery.AtResponder as taken_there
use Rattle.spdm_agreement.proofs.Delivery.Data.{AsksOpenly, answered_data, asked_data, data_prefix, taken_data}
use Rattle.spdm_agreement.proofs.Delivery.SealedAtRequester as sealed_here
use Rattle.spdm_agreement.proofs.Delivery.TakenAtRequester as heard_here
use Rattle.spdm_agreement.proofs.Messages.Beginnings.{reading_of}
use Rattle.spdm_agreement.proofs.Moves.Invariant.{Invariant}
use Rattle.spdm_agreement.proofs.Moves.Runs.{ever_matches, holds, one_id, opened_matches}
use Rattle.spdm_agreement.proofs.Requester.AfterBody as bodies
use Rattle.spdm_agreement.proofs.Requester.EverOpened.{apart_told, opened_told}
use Rattle.spdm_agreement.proofs.Requester.Waiting as requester_steady
use Rattle.spdm_agreement.proofs.Requester.Whole as asks
use Rattle.spdm_agreement.proofs.Responder.DataAnswered as serves
use Rattle.spdm_agreement.proofs.Worlds.AllEvents as worlds
use Rattle.spdm_agreement.proofs.Worlds.Behind.{served_in, taken_behind}
use Rattle.spdm_agreement.proofs.Worlds.Fits.{Fits, IsPair}
use Rattle.spdm_agreement.proofs.Worlds.Pairs.{Stands, opened_there, state_of}
use Rattle.spdm_agreement.specs.Claims.{in_order}
use Rattle.spdm_agreement.specs.Marks.{Asked, Exchange, OpenedApart, Served, heard, requests, taken}
use Rattle.spdm_agreement.specs.Marks as marks
use Rattle.spdm_agreement.specs.Reading.{First}
use Rattle.spdm_agreement.specs.Story.{Past, asked_first, asked_marks, served_from, served_marks}
use Rattle.spdm_lives.proofs.Checks.{IsAskedAs}
use Rattle.spdm_lives.proofs.LifeKept.{IsLife}
use Rattle.spdm_lives.proofs.QuietMarks.{untaken}
use Rattle.spdm_machine.proofs.Members.{IsIn, in_contained}
use Rattle.world_machine.specs.Agreement as laws
use Rattle.world_machine.specs.Agreement.{Agreement, ArePair, HasOpened, HashesAgree, IsMade, IsPrefixOf, SealedOnce, WasOpened, responses_sealed}
use Rattle.world_machine.specs.Chance.{NoChance}
use Rattle.world_machine.specs.Happenings.{Entry}
use Rattle.world_machine.specs.Setup.{WorldSetup}
use Rattle.world_machine.specs.World.{World}

-- What is in a list is contained in it.
contained : {A : Type 0} (xs : List A) (x : A) → IsIn xs x → Contains xs x
contained [] x m = absurd m
contained (y ∷ others) x m = elim m [
  | inl e ↦ subst (Contains (y ∷ others)) (sym e) (Contains-append_left (y ∷ []) others y (Contains-push [] y))
  | inr k ↦ Contains-append_right (y ∷ []) others x (contained others x k)
]

same_prefix : (a b x y : List (List ℕ)) → a ≡ x → b ≡ y → IsPrefixOf x y → IsPrefixOf a b
same_prefix a b x y p q k = subst (λ (l : List (List ℕ)). IsPrefixOf l b) (sym p) (subst (IsPrefixOf x) (sym q) k)

not_both : {A : Type 0} (x : A) (l : List A) → x ∷ l ≡ [] → ⊥
not_both x l e = cc

-- A requester compares no tag of a request.
no_request : (m : List Asked) (kind : Kind) (direction : Direction) (t1 : List ℕ) → direction ≡ Request → IsAskedAs m kind direction t1 → ⊥
no_request m Verify Request t1 d is = absurd is
no_request m HandshakeRecord Request t1 d is = absurd is
no_request m ApplicationRecord Request t1 d is = absurd is
no_request m kind Response t1 d is = cc

module _ (w : WorldSetup) (entries : List Entry) where
  abbrev World_of : List Again → World
  World_of lives = world_after_lives w entries lives

  abbrev past : List Again → Past
  past lives = past_of w entries lives

  abbrev Goes : List Again → Type 0
  Goes lives = Fits (past lives) (asks.IsKept (past lives)) (serves.IsKept (past lives)) (World_of lives)

  -- ---- One life behind others.

  module _ (lives : List Again) (are : AreRestarts w lives) (chance : NoChance (World_of lives).log) where
    good : Goes lives
    good = fits w entries lives are chance

    is : IsLife (setup_at w lives) (record (World_of lives) { log = [] })
    is = ends w entries lives are

    pub agrees : Agreement (World_of lives)
    agrees a c pair req rsp live held ids =
        worlds.agree (past lives) (asks.IsKept (past lives)) (serves.IsKept (past lives)) (asks.starts (past lives) (openly w entries lives)) (asks.asks_well (past lives)) (asks.hears_well (past lives)) bodies.steady (serves.served_starts (past lives) (duly_at w entries lives are chance)) (serves.does_well (past lives)) (serves.waits (past lives))
        (World_of lives) good a c pair req rsp live held ids

    pub shows_alike : HashesAgree (World_of lives)
    shows_alike a c pair req rsp live held same =
        worlds.hash_all (past lives) (asks.IsKept (past lives)) (serves.IsKept (past lives)) (asks.starts (past lives) (openly w entries lives)) (asks.asks_well (past lives)) (asks.hears_well (past lives)) bodies.steady (serves.served_starts (past lives) (duly_at w entries lives are chance)) (serves.does_well (past lives)) (serves.waits (past lives))
        (World_of lives) good a c pair req rsp live held same

    pub seals_once : SealedOnce (World_of lives).log
    seals_once =
        worlds.seal_once (past lives) (asks.IsKept (past lives)) (serves.IsKept (past lives)) (asks.starts (past lives) (openly w entries lives)) (asks.asks_well (past lives)) (asks.hears_well (past lives)) bodies.steady (serves.served_starts (past lives) (duly_at w entries lives are chance)) (serves.does_well (past lives)) (serves.waits (past lives))
        (World_of lives) good

    stands : (a : Requesting) (c : Connection) → IsPair (World_of lives).requesters (World_of lives).responder.connections a c → Stands (past lives) a c (World_of lives).log
    stands a c pair =
        worlds.stands (past lives) (asks.IsKept (past lives)) (serves.IsKept (past lives)) (asks.starts (past lives) (openly w entries lives)) (asks.asks_well (past lives)) (asks.hears_well (past lives)) bodies.steady (serves.served_starts (past lives) (duly_at w entries lives are chance)) (serves.does_well (past lives)) (serves.waits (past lives))
        (World_of lives) good a c pair

    -- All that both ends of a pair did.
    now : (a : Requesting) (c : Connection) → IsPair (World_of lives).requesters (World_of lives).responder.connections a c → Invariant (reading_of a.setup.psk) (asked_marks a.setup a.history) (served_from (past lives) c.setup c.history) (World_of lives).log
    now a c pair =
        subst (λ (l : List Asked). Invariant (reading_of a.setup.psk) l (served_from (past lives) c.setup c.history) (World_of lives).log) (asked_alone w entries lives a.setup a.history)
        (holds (reading_of a.setup.psk) (state_of (past lives) a c (World_of lives).log) (good.pairs a c pair))

    pair_of : (a : Requesting) → IsIn (World_of lives).requesters a → (c : Connection) × IsPair (World_of lives).requesters (World_of lives).responder.connections a c
    pair_of a m = (let c = is.apart.served a m in (c.0, record { requester = m; connection = c.1; peer = c.2 }))

    all_data : (a : Requesting) (c : Connection) → IsPair (World_of lives).requesters (World_of lives).responder.connections a c → (u : List ℕ)
        → IsPrefixOf (in_order taken_data (taken u (served_from (past lives) c.setup c.history))) (in_order asked_data (requests u (asked_marks a.setup a.history)))
        × IsPrefixOf (in_order answered_data (heard u (asked_marks a.setup a.history))) (in_order answered_data (taken u (served_from (past lives) c.setup c.history)))
    all_data a c pair u =
        data_prefix (reading_of a.setup.psk) _ _ _ (now a c pair)
        (subst AsksOpenly (asked_alone w entries lives a.setup a.history) (asks.keeps_openly (past lives) a.setup a.history (good.asks a pair.requester).kept))
        (serves.serves_duly (past lives) c.setup c.history (good.serves c pair.connection).kept) u

    own : (c : Connection) → IsIn (World_of lives).responder.connections c → (Is : Connection → Type 0) → Is c → HasConnection (World_of lives) c.setup.peer Is
    own c m Is here = (c, contained (World_of lives).responder.connections c m, refl, here)

  -- ---- What the newest life took, or an earlier one did.

  -- Where the newest life took anything under a T2, no earlier one did.
  module _ (life : Again) (earlier : List Again) (are : AreRestarts w (life ∷ earlier)) (chance : NoChance (World_of (life ∷ earlier)).log) (c : Connection) (m : IsIn (World_of (life ∷ earlier)).responder.connections c) where
    was_good : Goes earlier
    was_good = fits w entries earlier are.2 (chance_before w entries life earlier chance)

    is_good : Goes (life ∷ earlier)
    is_good = fits w entries (life ∷ earlier) are chance

    pub then : (y : Connection) × IsIn (World_of earlier).responder.connections y × (y.setup ≡ c.setup)
    then = old.then w entries life earlier are was_good is_good c m

    pub parts : served_from (past (life ∷ earlier)) c.setup c.history ≡ served_marks c.setup c.history ++ served_from (past earlier) then.0.setup then.0.history
    parts = old.parts w entries life earlier are was_good is_good c m then.0 then.1 then.2

    pub taken_parts : (u : List ℕ) → taken u (served_from (past (life ∷ earlier)) c.setup c.history) ≡ taken u (served_marks c.setup c.history) ++ taken u (served_from (past earlier) then.0.setup then.0.history)
    taken_parts u = ap (taken u) parts ∙ taken_behind u (served_marks c.setup c.history) (served_from (past earlier) then.0.setup then.0.history)

    pub taken_new : (u : List ℕ) (x : Exchange) (l : List Exchange) → taken u (served_marks c.setup c.history) ≡ x ∷ l → taken u (served_from (past (life ∷ earlier)) c.setup c.history) ≡ taken u (served_marks c.setup c.history)
    taken_new u x l e =
        let made = ((ends w entries (life ∷ earlier) are).serves c m).made in
        let opens : ((t : First) → marks.HasOpened (served_marks c.setup c.history) t u → ⊥) → ⊥ = λ none. not_both x l (sym e ∙ untaken c.setup c.history made u none) in
        let old_holds = old.old_holds w entries life earlier are was_good is_good c m then.0 then.1 then.2 in
        let none : taken u (served_from (past earlier) then.0.setup then.0.history) ≡ [] =
        old_holds.serves.quiet u (λ s o. opens (λ t n. old.served_served w entries life earlier are was_good is_good c m then.0 then.1 then.2 t s u n o)) in
        taken_parts u ∙ ap (λ (z : List Exchange). taken u (served_marks c.setup c.history) ++ z) none ∙ append-nil (taken u (served_marks c.setup c.history))

    pub taken_old : (u : List ℕ) → taken u (served_marks c.setup c.history) ≡ [] → taken u (served_from (past (life ∷ earlier)) c.setup c.history) ≡ taken u (served_from (past earlier) then.0.setup then.0.history)
    taken_old u e = taken_parts u ∙ ap (λ (z : List Exchange). z ++ taken u (served_from (past earlier) then.0.setup then.0.history)) e

  -- What a responder took of what the requester sealed.
  takes_by : (lives : List Again) (are : AreRestarts w lives) (chance : NoChance (World_of lives).log) (a : Requesting) (c : Connection) → IsPair (World_of lives).requesters (World_of lives).responder.connections a c → (u : List ℕ) (l : List Exchange) → taken u (served_marks c.setup c.history) ≡ l
      → IsPrefixOf (in_order taken_data (taken u (served_marks c.setup c.history))) (in_order asked_data (requests u (asked_marks a.setup a.history)))
  takes_by [] are chance a c pair u l e = (all_data [] are chance a c pair u).0
  takes_by (life ∷ earlier) are chance a c pair u [] e =
      subst (λ (x : List Exchange). IsPrefixOf (in_order taken_data x) (in_order asked_data (requests u (asked_marks a.setup a.history)))) (sym e) (in_order asked_data (requests u (asked_marks a.setup a.history)), refl)
  takes_by (life ∷ earlier) are chance a c pair u (x ∷ l) e =
      subst (λ (z : List Exchange). IsPrefixOf (in_order taken_data z) (in_order asked_data (requests u (asked_marks a.setup a.history)))) (taken_new life earlier are chance c pair.connection u x l e)
      (all_data (life ∷ earlier) are chance a c pair u).0

  pub takes : (lives : List Again) → AreRestarts w lives → NoChance (World_of lives).log → TakesPrefixes (World_of lives)
  takes lives are chance a c both u =
      let pair : IsPair (World_of lives).requesters (World_of lives).responder.connections a c = record { requester = in_contained (World_of lives).requesters a both.requester; connection = in_contained (World_of lives).responder.connections c both.connection; peer = both.peer } in
      let l = ends w entries lives are in
      same_prefix _ _ _ _ (taken_there.requests_are c.setup c.history (l.serves c pair.connection).made u) (sealed_here.requests_are a.setup a.history (l.asks a pair.requester).made u) (takes_by lives are chance a c pair u _ refl)

  -- What was answered to all that was taken was answered in one life.
  answers_by : (lives : List Again) (are : AreRestarts w lives) (chance : NoChance (World_of lives).log) (c : Connection) (m : IsIn (World_of lives).responder.connections c) (u : List ℕ) (xs : List (List ℕ)) (l : List Exchange) → taken u (served_marks c.setup c.history) ≡ l
      → IsPrefixOf xs (in_order answered_data (taken u (served_from (past lives) c.setup c.history))) → InOneLife w entries lives c.setup.peer (λ d. IsPrefixOf xs (responses_sealed u d.history))
  answers_by [] are chance c m u xs l e is =
      let made = ((ends w entries [] are).serves c m).made in
      own [] are chance c m (λ d. IsPrefixOf xs (responses_sealed u d.history)) (subst (IsPrefixOf xs) (sym (taken_there.responses_are c.setup c.history made u)) is)
  answers_by (life ∷ earlier) are chance c m u xs [] e is =
      let y = then life earlier are chance c m in
      inr (subst (λ (r : RspSetup). InOneLife w entries earlier r.peer (λ d. IsPrefixOf xs (responses_sealed u d.history))) y.2
      (answers_by earlier are.2 (chance_before w entries life earlier chance) y.0 y.1 u xs _ refl
      (subst (λ (z : List Exchange). IsPrefixOf xs (in_order answered_data z)) (taken_old life earlier are chance c m u e) is)))
  answers_by (life ∷ earlier) are chance c m u xs (x ∷ l) e is =
      let made = ((ends w entries (life ∷ earlier) are).serves c m).made in
      inl (own (life ∷ earlier) are chance c m (λ d. IsPrefixOf xs (responses_sealed u d.history))
      (subst (IsPrefixOf xs) (sym (taken_there.responses_are c.setup c.history made u)) (subst (λ (z : List Exchange). IsPrefixOf xs (in_order answered_data z)) (taken_new life earlier are chance c m u x l e) is)))

  pub hears : (lives : List Again) → AreRestarts w lives → NoChance (World_of lives).log → HearsPrefixes w entries lives
  hears lives are chance a both u =
      let m = in_contained (World_of lives).requesters a both in
      let c = pair_of lives are chance a m in
      let made = ((ends w entries lives are).asks a m).made in
      subst (λ (eid : ℕ). InOneLife w entries lives eid (λ d. IsPrefixOf (laws.responses_taken u a.history) (responses_sealed u d.history))) c.1.peer
      (answers_by lives are chance c.0 c.1.connection u (laws.responses_taken u a.history) _ refl
      (subst (λ (xs : List (List ℕ)). IsPrefixOf xs (in_order answered_data (taken u (served_from (past lives) c.0.setup c.0.history)))) (sym (heard_here.responses_are a.setup a.history made u)) (all_data lives are chance a c.0 c.1 u).1))

  -- ---- Sessions match.

  opens_by : (lives : List Again) (are : AreRestarts w lives) (chance : NoChance (World_of lives).log) (c : Connection) (m : IsIn (World_of lives).responder.connections c) (t : First) (u : List ℕ) → marks.HasOpened (served_from (past lives) c.setup c.history) t u
      → InOneLife w entries lives c.setup.peer (λ d. HasOpened u d.history)
  opens_by [] are chance c m t u o = own [] are chance c m (λ d. HasOpened u d.history) (opened_there c.setup c.history t u o)
  opens_by (life ∷ earlier) are chance c m t u o =
      let y = then life earlier are chance c m in
      elim (served_in (served_marks c.setup c.history) (served_from (past earlier) y.0.setup y.0.history) t u (subst (λ (l : List Served). marks.HasOpened l t u) (parts life earlier are chance c m) o)) [
        | inl here ↦ inl (own (life ∷ earlier) are chance c m (λ d. HasOpened u d.history) (opened_there c.setup c.history t u here))
        | inr there ↦ inr (subst (λ (r : RspSetup). InOneLife w entries earlier r.peer (λ d. HasOpened u d.history)) y.2 (opens_by earlier are.2 (chance_before w entries life earlier chance) y.0 y.1 t u there))
      ]

  pub matches : (lives : List Again) → AreRestarts w lives → NoChance (World_of lives).log → (a : Requesting) → Contains (World_of lives).requesters a → IsMatchedInLives w entries lives a
  matches lives are chance a both =
      let m = in_contained (World_of lives).requesters a both in
      let c = pair_of lives are chance a m in
      let r = reading_of a.setup.psk in
      let k = now lives are chance a c.0 c.1 in
      let alone = asked_alone w entries lives a.setup a.history in
      let steady = requester_steady.made_steady a.setup a.history ((ends w entries lives are).asks a m).made in
      let told = λ (id : ℕ) (held : laws.holds a.history id ≡ true). (let s = requester.session_of id a.history in
      subst (λ (l : List Asked). marks.asked_open r id l ≡ Some (asked_first s, requester.t2_of s)) alone ((stands lives are chance a c.0 c.1).asked id held)) in
      let there = λ (t : First) (u : List ℕ) (o : marks.HasOpened (served_from (past lives) c.0.setup c.0.history) t u). subst (λ (eid : ℕ). InOneLife w entries lives eid (λ d. HasOpened u d.history)) c.1.peer (opens_by lives are chance c.0 c.1.connection t u o) in
      record {
        held = λ id live. (let s = requester.session_of id a.history in
            there (asked_first s) (requester.t2_of s) (opened_matches r _ _ _ k id (asked_first s) (requester.t2_of s) (told id live)));
        ids = λ id other live its same. (let s = requester.session_of id a.history in let o = requester.session_of other a.history in
            one_id r _ _ _ k other id (asked_first o) (asked_first s) (requester.t2_of s)
            (subst (λ (u : List ℕ). marks.asked_open r other (asked_marks a.setup a.history) ≡ Some (asked_first o, u)) same (told other its)) (told id live));
        opened = λ u was. (let o = opened_told a.setup a.history steady u was in there o.0 u (ever_matches r _ _ _ k o.0 u o.1));
        apart = apart_told a.setup a.history steady k.asks.seconds;
      }

  -- ---- Nothing old of a requester passes.

  pub nothing_old : (lives : List Again) → AreRestarts w lives → NoChance (World_of lives).log → TakesNothingOld w entries lives
  nothing_old [] are chance p i request passed made = absurd made
  nothing_old (life ∷ earlier) are chance p i request passed made =
      let newest = newest_world w entries (life ∷ earlier) in
      elim ((is_life w entries (life ∷ earlier) are).checks.all p i passed) [
        | inl x ↦ absurd (no_request (asked_marks x.0.setup x.0.history) p.kind p.direction p.transcript request x.2.1)
        | inr x ↦ (let m : IsIn (World_of (life ∷ earlier)).responder.connections x.0 = subst (λ (z : World). IsIn z.responder.connections x.0) (sym (framed w entries (life ∷ earlier))) x.1 in
            let was = was_good life earlier are chance x.0 m in
            let now_good = is_good life earlier are chance x.0 m in
            let y = then life earlier are chance x.0 m in
            let old_holds = old.old_holds w entries life earlier are was now_good x.0 m y.0 y.1 y.2 in
            old.old_taken w entries life earlier are was now_good x.0 m y.0 y.1 y.2 p.kind p.direction p.transcript p.epoch i request x.2.1
            (old_holds.backed p i made (x.2.0 ∙ ap (λ (r : RspSetup). r.psk) (sym y.2))))
      ]
