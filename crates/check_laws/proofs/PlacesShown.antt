-- What packets show has places of each requester.
use Rattle.std.proofs.Common.{◌≡◌, ◌≢◌, ◌∙◌, ◌==◌, ◌+◌, ℕ, List, [], ◌∷◌, Bool, true, false, cond, Option, Some, None, Result, Ok, Err, length, map, reverse, refl, ap, sym, subst}
use Rattle.std.specs.Prelude.{MatchBool}
use Rattle.std.proofs.lemmas.Bool.{false≢true}
use Rattle.std.proofs.lemmas.Option.{none-some, same_Some}
use Rattle.std.specs.List.{AllByRecursion}
use Rattle.mctp_framing.specs.Packet.{PacketFields, parsed}
use Rattle.requester_machine.specs.Setup.{ReqSetup}
use Rattle.spdm_basis.specs.declared.PacketFault.{PacketFault}
use Rattle.spdm_machine.specs.Packets.{gathered_from}
use Rattle.check_laws.proofs.AllRows.{one_changes_rows, one_keeps_places}
use Rattle.check_laws.proofs.AskedRows.{change_of, is_change}
use Rattle.check_laws.proofs.OrderedRows.{in_order}
use Rattle.check_laws.proofs.OwnPlaces.{at_four, own_places}
use Rattle.check_laws.proofs.PairWalks.{IsFor, Made, known_at, of_it, to_each, walks_setup}
use Rattle.check_laws.proofs.Rounded.{answer_turned, request_turned}
use Rattle.check_laws.proofs.StepsOfWalks.{walks_step}
use Rattle.check_laws.specs.Changes.{IsStep}
use Rattle.check_laws.specs.Judged.{AreApart}
use Rattle.check_laws.specs.KeptRows.{ShownHavePlaces}
use Rattle.check_laws.specs.Rows.{ArePlaces, AreDistinct, HaveAllPlaces, PassesOnlyAt, StandFor, does_ask_as, is_live_as, new_place, places_after}
use Rattle.check_laws.specs.Walks.{StepsBy, StepsTo, WalkEach, Walks}
use Rattle.check_laws.specs.declared.places.Places.{Places}
use Rattle.capture_machine.proofs.Captures.{leads_too}
use Rattle.capture_machine.specs.Capture.{ComesFrom, Follows, FollowsBy, GoesTo}
use Rattle.capture_machine.specs.Rounds.{Dialogue, dialogue_at, new_dialogue, with_dialogue}
use Rattle.capture_machine.specs.SessionTable.{Row, has_begun, rows_after, rows_between}
use Rattle.world_machine.specs.Setup.{Configuration}

-- ---- The walks of the requesters.

-- A dialogue that is found is that of one of them.
found_walk : (w : Configuration) (older : List (List ℕ)) (eid : ℕ) (d : Dialogue) (qs : List ReqSetup) (ds : List Dialogue) → WalkEach w older qs ds → dialogue_at eid ds ≡ Some d → (q : ReqSetup) × Walks w q older d
found_walk w older eid d [] [] each found = absurd (none-some d found)
found_walk w older eid d (q ∷ qs) (x ∷ ds) each found = by_eid (x.setup.eid == eid) found (λ there. found_walk w older eid d qs ds each.1 there)
  where
    by_eid : (b : Bool) → cond b (Some x) (dialogue_at eid ds) ≡ Some d → (dialogue_at eid ds ≡ Some d → (o : ReqSetup) × Walks w o older d) → (o : ReqSetup) × Walks w o older d
    by_eid true here rest = (q, subst (Walks w q older) (same_Some x d here) each.0)
    by_eid false there rest = rest there
found_walk w older eid d [] (x ∷ ds) each found = absurd each
found_walk w older eid d (q ∷ qs) [] each found = absurd each

-- Their endpoints differ.
all_apart : (w : Configuration) (older : List (List ℕ)) (n : ℕ) (qs : List ReqSetup) (ds : List Dialogue) → AllByRecursion (λ (o : ReqSetup). o.eid ≢ n) qs → WalkEach w older qs ds → AllByRecursion (λ (x : Dialogue). x.setup.eid ≢ n) ds
all_apart w older n [] [] apart each = tt
all_apart w older n (q ∷ qs) (d ∷ ds) apart each =
    ((λ same. apart.0 (sym (ap (λ (s : ReqSetup). s.eid) (walks_setup w q older d each.0)) ∙ same)), all_apart w older n qs ds apart.1 each.1)
all_apart w older n [] (d ∷ ds) apart each = absurd each
all_apart w older n (q ∷ qs) [] apart each = absurd each

pub distinct : (w : Configuration) (older : List (List ℕ)) (own : ℕ) (qs : List ReqSetup) (ds : List Dialogue) → AreApart own qs → WalkEach w older qs ds → AreDistinct ds
distinct w older own [] [] apart each = tt
distinct w older own (q ∷ qs) (d ∷ ds) apart each =
    let same : q.eid ≡ d.setup.eid = sym (ap (λ (s : ReqSetup). s.eid) (walks_setup w q older d each.0)) in
    (subst (λ (n : ℕ). AllByRecursion (λ (x : Dialogue). x.setup.eid ≢ n) ds) same (all_apart w older q.eid qs ds apart.1 each.1), distinct w older own qs ds apart.2 each.1)
distinct w older own [] (d ∷ ds) apart each = absurd each
distinct w older own (q ∷ qs) [] apart each = absurd each

-- ---- Where nothing came yet.

no_places : Places
no_places = record { live = None ∷ None ∷ None ∷ None ∷ []; asks = None ∷ None ∷ None ∷ None ∷ [] }

new_places : (q : ReqSetup) → StandFor no_places (new_dialogue q) []
unfolding no_places
new_places q = record {
  live_at = λ slot few. subst (PassesOnlyAt (is_live_as q.eid (slot + 1)) []) (sym (at_four (λ n. None) None slot few)) tt;
  asks_at = λ slot few. subst (PassesOnlyAt (does_ask_as q.eid (slot + 1)) []) (sym (at_four (λ n. None) None slot few)) tt;
  rest = tt;
}

none_shown : (qs : List ReqSetup) → HaveAllPlaces (map new_dialogue qs) []
none_shown [] = tt
none_shown (q ∷ qs) = ((no_places, new_places q), none_shown qs)

-- ---- A packet.

found_places : (eid : ℕ) (d : Dialogue) (rows : List Row) (ds : List Dialogue) → HaveAllPlaces ds rows → dialogue_at eid ds ≡ Some d → (places : Places) × StandFor places d rows
found_places eid d rows [] have found = absurd (none-some d found)
found_places eid d rows (x ∷ ds) have found = by_eid (x.setup.eid == eid) found (λ there. found_places eid d rows ds have.1 there)
  where
    by_eid : (b : Bool) → cond b (Some x) (dialogue_at eid ds) ≡ Some d → (dialogue_at eid ds ≡ Some d → (places : Places) × StandFor places d rows) → (places : Places) × StandFor places d rows
    by_eid true here rest = (have.0.0, subst (λ (y : Dialogue). StandFor have.0.0 y rows) (same_Some x d here) have.0.1)
    by_eid false there rest = rest there

-- The places after a step.
stepped : (places : Places) (d next : Dialogue) (rows : List Row) → IsStep d next → StandFor places d rows → (other : Places) × StandFor other next (rows_between d next rows)
stepped places d next rows step are =
    let n : ℕ = length (reverse rows) in
    let b : Bool = has_begun d next in
    let other : Places = places_after places (change_of d next) (new_place (change_of d next) n) in
    (other, subst (ArePlaces other next) (sym (in_order d next rows b refl)) (own_places (change_of d next) d next (is_change d next) step places (reverse rows) n b refl refl are))

changed : (ds : List Dialogue) (d next : Dialogue) (rows : List Row) → AreDistinct ds → dialogue_at next.setup.eid ds ≡ Some d → IsStep d next → HaveAllPlaces ds rows → HaveAllPlaces (with_dialogue next ds) (rows_after ds (with_dialogue next ds) rows)
changed ds d next rows apart at step have =
    let own = found_places next.setup.eid d rows ds have at in
    let new = stepped own.0 d next rows step own.1 in
    subst (HaveAllPlaces (with_dialogue next ds)) (sym (one_changes_rows ds d next rows apart at have)) (one_keeps_places ds d next rows new.0 apart at have new.1)

module _ (w : Configuration) (older : List (List ℕ)) (packet : List ℕ) (p : PacketFields) (parses : parsed packet ≡ Ok p) (apart : AreApart w.responder.eid w.requesters)
    (ds : List Dialogue) (each : WalkEach w older w.requesters ds) (rows : List Row) (have : HaveAllPlaces ds rows) where
  made_have : (to : Bool) (at : ℕ) (d next : Dialogue) (after : List Dialogue) → IsFor w to at p → dialogue_at at ds ≡ Some d → Made w to d.setup.eid older p d next → next.setup ≡ d.setup → after ≡ with_dialogue next ds
      → HaveAllPlaces after (rows_after ds after rows)
  unfolding StepsTo
  made_have to at d next after is found made same all =
      let mine = found_walk w older at d w.requesters ds each found in
      let q : ReqSetup = mine.0 in
      let own : d.setup.eid ≡ q.eid = ap (λ (s : ReqSetup). s.eid) (walks_setup w q older d mine.1) in
      let end : d.setup.eid ≡ at = (known_at w older at d w.requesters ds each found).0 in
      let for : IsFor w to q.eid p = subst (λ (n : ℕ). IsFor w to n p) (sym end ∙ own) is in
      let here : Made w to q.eid older p d next = subst (λ (n : ℕ). Made w to n older p d next) own made in
      let P : Result PacketFields PacketFault → Type 0 = λ r. StepsBy w q.eid older d next r in
      let step : IsStep d next = walks_step w q older packet d next mine.1 (subst P (sym parses) (of_it w older q.eid p d next to for here)) in
      let there : dialogue_at next.setup.eid ds ≡ Some d = ap (λ (n : ℕ). dialogue_at n ds) (ap (λ (s : ReqSetup). s.eid) same ∙ end) ∙ found in
      subst (λ (xs : List Dialogue). HaveAllPlaces xs (rows_after ds xs rows)) (sym all) (changed ds d next rows (distinct w older w.responder.eid w.requesters ds apart each) there step have)

  comes_have : (after : List Dialogue) (o : Option Dialogue) → (p.to == w.responder.eid) ≡ true → dialogue_at p.from ds ≡ o → ComesFrom w older p ds after o → HaveAllPlaces after (rows_after ds after rows)
  comes_have after None to found c = absurd c
  comes_have after (Some d) to found c =
      let is : IsFor w true p.from p = record { to_is = to; end = refl; from_is = λ no. absurd (false≢true (sym no)) } in
      made_have true p.from d c.0 after is found c.1 (request_turned d (gathered_from w.responder.eid d.setup.eid older p) c.0 c.1).setup c.2

  goes_have : (after : List Dialogue) (o : Option Dialogue) → (p.to == w.responder.eid) ≡ false → (p.from == w.responder.eid) ≡ true → dialogue_at p.to ds ≡ o → GoesTo w older p ds after o → HaveAllPlaces after (rows_after ds after rows)
  goes_have after None to from found c = absurd c
  goes_have after (Some d) to from found c =
      let is : IsFor w false p.to p = record { to_is = to; end = refl; from_is = λ no. from } in
      made_have false p.to d c.0 after is found c.1 (answer_turned w d (gathered_from d.setup.eid w.responder.eid older p) c.0 c.1).setup c.2

  ends_have : (after : List Dialogue) (to from : Bool) → (p.to == w.responder.eid) ≡ to → (p.from == w.responder.eid) ≡ from
      → MatchBool to (ComesFrom w older p ds after (dialogue_at p.from ds)) (MatchBool from (GoesTo w older p ds after (dialogue_at p.to ds)) ⊥) → HaveAllPlaces after (rows_after ds after rows)
  ends_have after true from is at c = comes_have after (dialogue_at p.from ds) is refl c
  ends_have after false true is at c = goes_have after (dialogue_at p.to ds) is at refl c
  ends_have after false false is at c = absurd c

  pub packet_has : (after : List Dialogue) → FollowsBy w older ds after (Ok p) → HaveAllPlaces after (rows_after ds after rows)
  packet_has after c = ends_have after (p.to == w.responder.eid) (p.from == w.responder.eid) refl refl c

follows_have : (w : Configuration) (older : List (List ℕ)) (packet : List ℕ) (r : Result PacketFields PacketFault) → parsed packet ≡ r → AreApart w.responder.eid w.requesters → (ds after : List Dialogue) → WalkEach w older w.requesters ds → (rows : List Row)
    → HaveAllPlaces ds rows → FollowsBy w older ds after r → HaveAllPlaces after (rows_after ds after rows)
follows_have w older packet (Err fault) parses apart ds after each rows have c = absurd c
follows_have w older packet (Ok p) parses apart ds after each rows have c = packet_has w older packet p parses apart ds each rows have after c

-- ---- All packets.

pub shown_have_places : ShownHavePlaces
unfolding Follows
shown_have_places w [] ds rows apart shown =
    subst (λ (xs : List Dialogue). HaveAllPlaces xs rows) (sym shown.0) (subst (HaveAllPlaces (map new_dialogue w.requesters)) (sym shown.1) (none_shown w.requesters))
shown_have_places w (packet ∷ older) ds rows apart shown =
    let each = (to_each w older shown.0 apart (leads_too w older shown.0 shown.1 shown.2)).0 in
    subst (HaveAllPlaces ds) (sym shown.4) (follows_have w older packet (parsed packet) refl apart shown.0 ds each shown.1 (shown_have_places w older shown.0 shown.1 apart shown.2) shown.3)
