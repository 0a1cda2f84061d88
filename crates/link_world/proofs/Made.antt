-- A world is made of ends that a configuration sets up.
use Rattle.std.proofs.Common.{refl, ◌≡◌, ◌≢◌, ◌∙◌, ◌≤◌, ◌<◌, ◌+◌, ◌++◌, ◌∷◌, [], ℕ, zero, suc, List, false, Some, None, ap, sym, subst, length, arith, get_or, map, take, inl, inr}
use Rattle.std.proofs.lemmas.Bool.{eqb-false, ltb-false, or_parts}
use Rattle.std.proofs.lemmas.List.{length-map}
use Rattle.std.specs.List.{AllByRecursion}
use Rattle.std.specs.Option.{option_map}
use Rattle.std.specs.Prelude.{◌==◌, nat_lt}
use Rattle.script_ends.proofs.Made.{take_more}
use Rattle.script_ends.specs.Configured.{HasRequesterFault, HasResponderFault, IsRequesterFault, IsResponderFault, known_in, requester_in}
use Rattle.link_world.specs.Configured.{IsCause, HaveFirstFault, HaveNoFault}
use Rattle.link_world.specs.Making.{AreAskersFault, IsAskerFault, of_requester, of_responder}
use Rattle.link_world.specs.Standing.{AreApart, AreAskers, IsAsker, counted, eids_of, peers_of, taken_in}
use Rattle.link_world.specs.declared.ends.AddressedRequester.{AddressedRequester}
use Rattle.link_world.specs.declared.fault.WorldFault.{WorldFault}
use Rattle.link_world.specs.declared.fault.WorldFault.TheVariants as world
use Rattle.requester.specs.declared.fault.ReqConfigFault.{ReqConfigFault}
use Rattle.requester.specs.declared.fault.ReqConfigFault.TheVariants as reqfault
use Rattle.measurements.specs.Faults.{inventory_fault}
use Rattle.requester_machine.specs.Requesting.{Requesting, new_requesting}
use Rattle.responder.proofs.Limits.{first_none}
use Rattle.responder.specs.Config.{has_same_eid, is_eid_of_one, set_up_fault}
use Rattle.responder.specs.SetUp as known
use Rattle.responder.specs.declared.config.Known.{Known}
use Rattle.responder.specs.declared.config.RspConfig.{RspConfig}
use Rattle.responder.specs.declared.fault.RspConfigFault.{RspConfigFault}
use Rattle.responder.specs.declared.fault.RspConfigFault.TheVariants as rspfault
use Rattle.requester_machine.specs.Shown as asked
use Rattle.responder_machine.specs.History as served
use Rattle.responder_machine.specs.Responding.{new_connection}
use Rattle.responder_machine.specs.Setup as machine
use Rattle.responder_machine.specs.Setup.{RspPart}
use Rattle.script_text.specs.declared.configuration.config.ReqPart.{ReqPart}
use Rattle.script_text.specs.declared.configuration.config.ScriptConfig.{ScriptConfig}
use Rattle.spdm_basis.proofs.Options.{both}
use Rattle.world_machine.specs.Setup.{ends_from, first_draw, known_of, requester_seed}
use Rattle.world_machine.specs.Totals.{over_connections, over_requesters}

-- ---- The end points of the requesters differ.

abbrev head_eid : List machine.Known → ℕ
head_eid [] = 0
head_eid (k ∷ others) = k.eid

abbrev tail_of : List machine.Known → List machine.Known
tail_of [] = []
tail_of (k ∷ others) = others

module _ (responder : ℕ) (seed : List ℕ) (boot : ℕ) where
  abbrev made : ℕ → List ReqPart → List Requesting
  made n qs = map new_requesting (ends_from n seed boot (map (requester_in responder) qs))

  no_eid : (eid n : ℕ) (ks : List Known) (qs : List ReqPart) → map known.known_of ks ≡ known_in responder qs → is_eid_of_one eid ks ≡ false → AllByRecursion (λ (b : Requesting). b.setup.eid ≢ eid) (made n qs)
  no_eid eid n ks [] same none = tt
  no_eid eid n [] (q ∷ qs) same none = absurd (cc same)
  no_eid eid n (k ∷ ks) (q ∷ qs) same none =
      let off = or_parts (k.eid.number == eid) (is_eid_of_one eid ks) none in
      let its : k.eid.number ≡ q.eid.number = ap head_eid same in
      (λ e. eqb-false _ _ off.0 (its ∙ e), no_eid eid (n + 1) ks qs (ap tail_of same) off.1)

  pub made_apart : (eid n : ℕ) (ks : List Known) (qs : List ReqPart) → map known.known_of ks ≡ known_in responder qs → has_same_eid eid ks ≡ false → AllByRecursion (λ (b : Requesting). b.setup.eid ≢ eid) (made n qs) × AreApart (made n qs)
  made_apart eid n ks [] same none = (tt, tt)
  made_apart eid n [] (q ∷ qs) same none = absurd (cc same)
  made_apart eid n (k ∷ ks) (q ∷ qs) same none =
      let off = or_parts (is_eid_of_one eid (k ∷ ks)) (has_same_eid k.eid.number ks) none in
      let its : k.eid.number ≡ q.eid.number = ap head_eid same in
      let rest = made_apart k.eid.number (n + 1) ks qs (ap tail_of same) off.1 in
      (no_eid eid n (k ∷ ks) (q ∷ qs) same off.0, (subst (λ (e : ℕ). AllByRecursion (λ (b : Requesting). b.setup.eid ≢ e) (made (n + 1) qs)) its rest.0, rest.1))

  pub made_count : (n : ℕ) (qs : List ReqPart) → length (made n qs) ≡ length qs
  made_count n [] = refl
  made_count n (q ∷ qs) = (let rest = made_count (n + 1) qs in omega (arith, rest))

  -- The connections are with the requesters, in order.
  pub made_peers : (part : RspPart) (n : ℕ) (qs : List ReqPart) → peers_of (map (new_connection part) (known_in responder qs)) ≡ eids_of (made n qs)
  made_peers part n [] = refl
  made_peers part n (q ∷ qs) = ap (λ (l : List ℕ). q.eid.number ∷ l) (made_peers part (n + 1) qs)

  -- Nothing was taken yet.
  none_asked : (n : ℕ) (qs : List ReqPart) → over_requesters (λ a. asked.all_taken a.history) (made n qs) ≡ 0
  none_asked n [] = refl
  none_asked n (q ∷ qs) = (let rest = none_asked (n + 1) qs in omega (arith, rest))

  none_served : (part : RspPart) (ks : List machine.Known) → over_connections (λ c. served.all_taken c.history) (map (new_connection part) ks) ≡ 0
  none_served part [] = refl
  none_served part (k ∷ ks) = (let rest = none_served part ks in omega (arith, rest))

  pub none_taken : (part : RspPart) (n : ℕ) (qs : List ReqPart) → 0 ≡ counted (taken_in (made n qs) (map (new_connection part) (known_in responder qs)))
  none_taken part n qs =
      let none = none_asked n qs in
      let others = none_served part (known_in responder qs) in
      omega (arith, none, others)

-- ---- What a sound configuration tells.

pub record IsFew (c : ScriptConfig) : Type 0 where
  pub few : length c.requesters ≤ 8
  pub made_few : (seed : List ℕ) (boot : ℕ) → length (map new_requesting (ends_from 1 seed boot (map (requester_in c.responder.eid.number) c.requesters))) ≤ 8
  pub apart : (seed : List ℕ) (boot : ℕ) → AreApart (map new_requesting (ends_from 1 seed boot (map (requester_in c.responder.eid.number) c.requesters)))

pub sound_few : (c : ScriptConfig) → HasResponderFault c None → IsFew c
sound_few c s =
    let o : RspConfig = s.config in
    let none = first_none (set_up_fault o) (option_map _ (inventory_fault o.blocks.now)) s.is in
    let many = both (nat_lt 8 (length o.known.now)) _ _ none in
    let same = both (has_same_eid o.eid.number o.known.now) _ _ many.1 in
    let count : length o.known.now ≡ length c.requesters =
    sym (length-map o.known.now known.known_of) ∙ ap length s.sets_up.known ∙ length-map (map (requester_in c.responder.eid.number) c.requesters) known_of ∙ length-map c.requesters (requester_in c.responder.eid.number) in
    let few : length c.requesters ≤ 8 = subst (λ (n : ℕ). n ≤ 8) count (ltb-false 8 (length o.known.now) many.0) in
    record {
      few = few;
      made_few = λ seed boot. subst (λ (n : ℕ). n ≤ 8) (sym (made_count c.responder.eid.number seed boot 1 c.requesters)) few;
      apart = λ seed boot. (made_apart c.responder.eid.number seed boot o.eid.number 1 o.known.now c.requesters s.sets_up.known same.0).1;
    }

-- ---- One requester more.

length_take : {A : Type 0} (i : ℕ) (l : List A) → i < length l → length (take i l) ≡ i
length_take i [] inside = absurd (omega (arith, inside))
length_take zero (y ∷ l) inside = refl
length_take (suc i) (y ∷ l) inside = (let rest = length_take i l (omega (arith, inside)) in omega (arith, rest))

none_behind : (responder : ℕ) (qs : List ReqPart) (q : ReqPart) → HaveNoFault responder qs → HasRequesterFault responder q None → HaveNoFault responder (qs ++ q ∷ [])
none_behind responder [] q none own = (own, tt)
none_behind responder (p ∷ qs) q none own = (none.0, none_behind responder qs q none.1 own)

pub sound_more : (responder i : ℕ) (qs : List ReqPart) (q : ReqPart) → i < length qs → q ≡ get_or qs i q → HaveNoFault responder (take i qs) → HasRequesterFault responder q None → HaveNoFault responder (take (i + 1) qs)
sound_more responder i qs q inside is none own = subst (λ (l : List ReqPart). HaveNoFault responder l) (sym (take_more i qs q inside is)) (none_behind responder (take i qs) q none own)

are_behind : (xs : List AddressedRequester) (all : List Requesting) (x : AddressedRequester) (a : Requesting) → AreAskers xs all → IsAsker x a → AreAskers (xs ++ x ∷ []) (all ++ a ∷ [])
are_behind [] [] x a are own = (own, tt)
are_behind [] (b ∷ all) x a are own = absurd are
are_behind (y ∷ xs) [] x a are own = absurd are
are_behind (y ∷ xs) (b ∷ all) x a are own = (are.0, are_behind xs all x a are.1 own)

module _ (responder : ℕ) (seed : List ℕ) (boot : ℕ) where
  abbrev one : ℕ → ReqPart → Requesting
  one n q = new_requesting (record { setup = requester_in responder q; seed = requester_seed seed n; first = first_draw boot })

  made_more : (n : ℕ) (qs : List ReqPart) (q : ReqPart) → made responder seed boot n (qs ++ q ∷ []) ≡ made responder seed boot n qs ++ one (n + length qs) q ∷ []
  made_more n [] q = (let same : n ≡ n + 0 = omega arith in ap (λ (m : ℕ). one m q ∷ []) same)
  made_more n (p ∷ qs) q =
      let same : n + 1 + length qs ≡ n + length (p ∷ qs) = omega arith in
      ap (λ (l : List Requesting). one n p ∷ l) (made_more (n + 1) qs q ∙ ap (λ (m : ℕ). made responder seed boot (n + 1) qs ++ one m q ∷ []) same)

  pub askers_more : (i number : ℕ) (qs : List ReqPart) (q : ReqPart) (xs : List AddressedRequester) (x : AddressedRequester) → i < length qs → q ≡ get_or qs i q → number ≡ i + 1 → AreAskers xs (map new_requesting (ends_from 1 seed boot (map (requester_in responder) (take i qs))))
      → IsAsker x (new_requesting (record { setup = requester_in responder q; seed = requester_seed seed number; first = first_draw boot })) → AreAskers (xs ++ x ∷ []) (map new_requesting (ends_from 1 seed boot (map (requester_in responder) (take (i + 1) qs))))
  askers_more i number qs q xs x inside is numbered are own =
      let long = length_take i qs inside in
      let same : number ≡ 1 + length (take i qs) = omega (arith, numbered, long) in
      subst (λ (l : List Requesting). AreAskers (xs ++ x ∷ []) l)
      (sym (ap (λ (l : List ReqPart). made responder seed boot 1 l) (take_more i qs q inside is) ∙ made_more 1 (take i qs) q))
      (are_behind xs (made responder seed boot 1 (take i qs)) x (one (1 + length (take i qs)) q) are (subst (λ (m : ℕ). IsAsker x (one m q)) same own))

-- ---- The first fault.

first_fault : (responder i : ℕ) (qs : List ReqPart) (q : ReqPart) (fault : ReqConfigFault) → i < length qs → q ≡ get_or qs i q → HaveNoFault responder (take i qs) → HasRequesterFault responder q (Some fault) → HaveFirstFault responder qs fault
first_fault responder i [] q fault inside is none own = absurd (omega (arith, inside))
first_fault responder zero (p ∷ qs) q fault inside is none own = inl (subst (λ (o : ReqPart). HasRequesterFault responder o (Some fault)) is own)
first_fault responder (suc i) (p ∷ qs) q fault inside is none own = inr (none.0, first_fault responder i qs q fault (omega (arith, inside)) is none.1 own)

pub askers_fault : (responder i : ℕ) (qs : List ReqPart) (q : ReqPart) (fault : WorldFault) → i < length qs → q ≡ get_or qs i q → HaveNoFault responder (take i qs) → IsAskerFault responder q fault → AreAskersFault responder qs fault
askers_fault responder i qs q (world.Requester fault) inside is none own = first_fault responder i qs q fault inside is none own
askers_fault responder i qs q (world.Responder fault) inside is none own = absurd own
askers_fault responder i qs q world.OutOfMemory inside is none own = tt

pub responder_cause : (c : ScriptConfig) (fault : RspConfigFault) → IsResponderFault c fault → IsCause c (of_responder fault)
responder_cause c rspfault.TooManyRequesters is = is
responder_cause c rspfault.SameEid is = is
responder_cause c rspfault.SamePsk is = is
responder_cause c rspfault.SizeRange is = is
responder_cause c (rspfault.Inventory of_blocks) is = is
responder_cause c rspfault.OutOfMemory is = tt

pub requester_cause : (responder : ℕ) (q : ReqPart) (fault : ReqConfigFault) → IsRequesterFault responder q fault → IsAskerFault responder q (of_requester fault)
requester_cause responder q reqfault.SameEid is = is
requester_cause responder q reqfault.SizeRange is = is
requester_cause responder q reqfault.OutOfMemory is = tt
