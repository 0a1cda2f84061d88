-- A responder may start again beside requesters that go on: what is kept of a world is kept with the marks of its earlier
-- lives behind those of the new one.
use Rattle.std.proofs.Common.{◌≡◌, ◌∙◌, ◌≤◌, ◌+◌, ◌==◌, ◌++◌, ℕ, List, [], ◌∷◌, map, append-nil, Option, Some, None, refl, sym, ap, subst, arith, eqb-true, eq-eqb}
use Rattle.requester_machine.specs.History as asked
use Rattle.requester_machine.specs.Requesting.{Requesting}
use Rattle.requester_machine.specs.Setup.{ReqSetup, ReqEnd}
use Rattle.responder_lives.proofs.Kept.{still_kept}
use Rattle.responder_lives.specs.Restarts.{Again, AreRestarts, newest_world, older_log, responder_at, restarted, world_after_lives}
use Rattle.responder_machine.proofs.Connected.{same_connection}
use Rattle.responder_machine.specs.Does as serving
use Rattle.responder_machine.specs.Responding.{Connection, all_draws, connection_of, new_connection}
use Rattle.responder_machine.specs.Setup.{Known, RspPart, RspSetup, towards}
use Rattle.spdm_agreement.proofs.Delivery.Data.{ServesDuly}
use Rattle.spdm_agreement.proofs.Messages.Beginnings.{reading_of}
use Rattle.spdm_agreement.proofs.Requester.AfterBody as bodies
use Rattle.spdm_agreement.proofs.Requester.DataVerified.{starts_openly}
use Rattle.spdm_agreement.proofs.Requester.Whole as asks
use Rattle.spdm_agreement.proofs.Responder.DataAnswered as serves
use Rattle.spdm_agreement.proofs.Worlds.AllEvents as worlds
use Rattle.spdm_agreement.proofs.Worlds.Behind.{asked_behind}
use Rattle.spdm_agreement.proofs.Worlds.Fits.{Apart, Fits, IsPair}
use Rattle.spdm_agreement.proofs.Worlds.Pairs.{state_of}
use Rattle.spdm_agreement.proofs.Worlds.Starts.{new_apart}
use Rattle.spdm_agreement.specs.Claims.{IsReached}
use Rattle.spdm_agreement.specs.Configured.{HasDraws, IsConfigured, IsResponder}
use Rattle.spdm_agreement.specs.Marks.{Asked, Served, next_asked, next_served}
use Rattle.spdm_agreement.specs.Story.{Past, no_past, asked_from, asked_marks, served_from}
use Rattle.spdm_lives.proofs.Framed.{behind, from_framed}
use Rattle.spdm_lives.proofs.LifeKept.{IsLife, IsServing}
use Rattle.spdm_lives.proofs.LifeSteps.{always, from_lives}
use Rattle.spdm_lives.proofs.PastLives.{find_one, served_of}
use Rattle.spdm_machine.proofs.Members.{IsIn, all_in, found_in, in_map, map_in}
use Rattle.spdm_machine.specs.TagLog.{Log}
use Rattle.world_machine.proofs.Logs.{no_chance_before}
use Rattle.world_machine.specs.Chance.{NoChance}
use Rattle.world_machine.specs.Happenings.{Entry}
use Rattle.world_machine.specs.Setup.{WorldSetup}
use Rattle.world_machine.specs.Trace.{world_after, world_from}
use Rattle.world_machine.specs.World.{World, entry_step}

-- The marks that the responder of each life goes on from: those of its earlier lives. Requesters have no past.
abbrev pub past_of : WorldSetup → List Entry → List Again → Past
past_of w entries [] = no_past
past_of w entries (life ∷ earlier) = record {
  asked = λ q. [];
  served = λ r. served_of (past_of w entries earlier) (connection_of r.peer (world_after_lives w entries earlier).responder.connections);
  log = [];
}

-- How the ends of the newest life are set up: the requesters as at first.
abbrev pub setup_at : WorldSetup → List Again → WorldSetup
setup_at w lives = record w { responder = responder_at w lives }

abbrev pub untold : World → World
untold world = record world { log = [] }

module _ (w : WorldSetup) (entries : List Entry) where
  abbrev World_of : List Again → World
  World_of lives = world_after_lives w entries lives

  abbrev Fit : List Again → World → Type 0
  Fit lives world = Fits (past_of w entries lives) (asks.IsKept (past_of w entries lives)) (serves.IsKept (past_of w entries lives)) world

  -- ---- Requesters have no past, whatever lives there were.

  no_asked : (lives : List Again) (q : ReqSetup) → (past_of w entries lives).asked q ≡ []
  no_asked [] q = refl
  no_asked (life ∷ earlier) q = refl

  pub asked_alone : (lives : List Again) (q : ReqSetup) (h : asked.History) → asked_from (past_of w entries lives) q h ≡ asked_marks q h
  asked_alone lives q h =
      asked_behind (past_of w entries lives) q h ∙ ap (λ (m : List Asked). asked_marks q h ++ m) (no_asked lives q) ∙ append-nil (asked_marks q h)

  pub openly : (lives : List Again) → asks.BeginsOpenly (past_of w entries lives)
  openly [] q = starts_openly
  openly (life ∷ earlier) q = starts_openly

  -- ---- The ends stay as they were set up, whatever agrees by chance.

  -- Tags aside.
  bare : (s : WorldSetup) (world : World) → IsLife s world → IsLife s (untold world)
  bare s world k = record {
    apart = k.apart;
    asks = k.asks;
    serves = k.serves;
    wear = k.wear;
    few = k.few;
    draws = k.draws;
    first = k.first;
    requester_of = k.requester_of;
    end_of = k.end_of;
    connection_of = k.connection_of;
    known_of = k.known_of;
    checks = record { all = λ p i x. absurd x };
  }

  no_draws : (part : RspPart) (known : List Known) → all_draws (map (new_connection part) known) ≡ 0
  no_draws part [] = refl
  no_draws part (q ∷ others) = (let none = no_draws part others in omega arith)

  -- The ends of a world in which the responder starts again.
  module _ (c : IsConfigured w) (s : WorldSetup) (world : World) (requesters : s.requesters ≡ w.requesters) (known : s.responder.known ≡ w.responder.known) (part : s.responder.part ≡ w.responder.part)
      (k : IsLife s (untold world)) (life : Again) (earlier : List Again) (draws : HasDraws life.first) where
    abbrev new : List Connection
    new = map (new_connection w.responder.part) w.responder.known

    -- the connection before, of a new one
    pub then : (x : Connection) → IsIn new x → (y : Connection) × IsIn world.responder.connections y × (y.setup ≡ x.setup)
    then x m =
        let o = in_map (new_connection w.responder.part) w.responder.known x m in
        let y = k.connection_of o.0 (subst (λ (l : List Known). IsIn l o.0) (sym known) o.1) in
        (y.0, y.1, y.2 ∙ ap (λ (p : RspPart). towards p o.0) part ∙ sym (ap (λ (z : Connection). z.setup) o.2))

    -- and the other way round
    now : (y : Connection) → IsIn world.responder.connections y → (x : Connection) × IsIn new x × (x.setup ≡ y.setup)
    now y m =
        let q = k.known_of y m in (
          new_connection w.responder.part q.0,
          map_in (new_connection w.responder.part) w.responder.known q.0 (subst (λ (l : List Known). IsIn l q.0) known q.1),
          sym (q.2 ∙ ap (λ (p : RspPart). towards p q.0) part),
        )

    pub apart_again : Apart world.requesters new
    apart_again = record {
      eids = k.apart.eids;
      keys = k.apart.keys;
      peers = (new_apart w c).peers;
      paired = λ x m. (let y = then x m in let a = k.apart.paired y.0 y.1 in
          (a.0, a.1, ap (λ (r : RspSetup). r.peer) (sym y.2) ∙ a.2, ap (λ (r : RspSetup). r.psk) (sym y.2) ∙ a.3));
      served = λ a m. (let y = k.apart.served a m in let x = now y.0 y.1 in (x.0, x.1, ap (λ (r : RspSetup). r.peer) x.2 ∙ y.2));
    }

    serves_again : (x : Connection) → IsIn new x → IsServing life.first x
    serves_again x m =
        let o = in_map (new_connection w.responder.part) w.responder.known x m in
        subst (IsServing life.first) (sym o.2) (record { setup = all_in (λ (q : Known). IsResponder (towards w.responder.part q)) w.responder.known c.responders o.0 o.1; made = tt; life = tt })

    pub life_again : IsLife (setup_at w (life ∷ earlier)) (untold (restarted (responder_at w (life ∷ earlier)) world))
    life_again = record {
      apart = apart_again;
      asks = k.asks;
      serves = serves_again;
      wear = (let none = no_draws w.responder.part w.responder.known in omega arith);
      few = omega arith;
      draws = draws;
      first = refl;
      requester_of = λ e m. k.requester_of e (subst (λ (l : List ReqEnd). IsIn l e) (sym requesters) m);
      end_of = λ a m. (let e = k.end_of a m in (e.0, subst (λ (l : List ReqEnd). IsIn l e.0) requesters e.1, e.2, e.3));
      connection_of = λ q m. (new_connection w.responder.part q, map_in (new_connection w.responder.part) w.responder.known q m, refl);
      known_of = λ x m. (let o = in_map (new_connection w.responder.part) w.responder.known x m in (o.0, o.1, ap (λ (y : Connection). y.setup) o.2));
      checks = record { all = λ p i x. absurd x };
    }

  -- The tags of the newest life stand in front of all older ones.
  pub framed : (lives : List Again) → World_of lives ≡ behind (older_log w entries lives) (newest_world w entries lives)
  framed [] = ap (λ (l : Log). record (world_after w entries) { log = l }) (sym (append-nil (world_after w entries).log))
  framed (life ∷ earlier) = from_framed (World_of earlier).log (untold (restarted (responder_at w (life ∷ earlier)) (World_of earlier))) life.entries

  pub configured : (lives : List Again) → AreRestarts w lives → IsConfigured w
  configured [] are = are
  configured (life ∷ earlier) are = configured earlier are.2

  unframed : (lives : List Again) → IsLife (setup_at w lives) (newest_world w entries lives) → IsLife (setup_at w lives) (untold (World_of lives))
  unframed lives k = subst (λ (x : World). IsLife (setup_at w lives) (untold x)) (sym (framed lives)) (bare (setup_at w lives) (newest_world w entries lives) k)

  -- So it is of all lives: of the tags of the newest one,
  pub is_life : (lives : List Again) → AreRestarts w lives → IsLife (setup_at w lives) (newest_world w entries lives)
  is_life [] are = always w are entries
  is_life (life ∷ earlier) are =
      let start = untold (restarted (responder_at w (life ∷ earlier)) (World_of earlier)) in
      let was = unframed earlier (is_life earlier are.2) in
      (from_lives (setup_at w (life ∷ earlier)) start life.entries
      (record { is = life_again (configured earlier are.2) (setup_at w earlier) (World_of earlier) refl refl refl was life earlier are.1 })).is

  -- and of the ends of the whole world.
  pub ends : (lives : List Again) → AreRestarts w lives → IsLife (setup_at w lives) (untold (World_of lives))
  ends lives are = unframed lives (is_life lives are)

  -- ---- What is kept where nothing agrees by chance.

  module _ (life : Again) (earlier : List Again) (are : AreRestarts w (life ∷ earlier)) (k : Fit earlier (World_of earlier)) where
    abbrev prior : Past
    prior = past_of w entries earlier

    abbrev next : Past
    next = past_of w entries (life ∷ earlier)

    abbrev before : World
    before = World_of earlier

    abbrev again : World
    again = restarted (responder_at w (life ∷ earlier)) before

    was : IsLife (setup_at w earlier) (untold before)
    was = ends earlier are.2

    known_then : (x : Connection) → IsIn again.responder.connections x → (y : Connection) × IsIn before.responder.connections y × (y.setup ≡ x.setup)
    known_then = then (configured earlier are.2) (setup_at w earlier) before refl refl refl was life earlier are.1

    connection_found : (y : Connection) → IsIn before.responder.connections y → connection_of y.setup.peer before.responder.connections ≡ Some y
    connection_found y m = find_one (λ (z : Connection). z.setup.peer == y.setup.peer) before.responder.connections y m (eq-eqb y.setup.peer y.setup.peer refl) (λ z n e. same_connection before.responder.connections was.apart.peers z y n m (eqb-true _ _ e))

    -- the marks before are those of that connection
    pub past_served : (y : Connection) (r : RspSetup) → IsIn before.responder.connections y → y.setup ≡ r → next.served r ≡ served_from prior y.setup y.history
    past_served y r m is = ap (λ (s : RspSetup). next.served s) (sym is) ∙ ap (served_of prior) (connection_found y m)

    same_asked : (q : ReqSetup) (h : asked.History) → asked_from prior q h ≡ asked_from next q h
    same_asked q h = asked_alone earlier q h ∙ sym (asked_alone (life ∷ earlier) q h)

    -- draws of the new life are above those before
    pub served_below : (y : Connection) → IsIn before.responder.connections y → next_served (reading_of y.setup.psk) (served_from prior y.setup y.history) ≤ life.first
    served_below y m =
        let fresh = (k.serves y m).fresh in
        let wear = was.wear in
        let few = was.few in
        let first = was.first in
        let behind = are.0 in
        omega arith

    duly_of : (o : Option Connection) (eid : ℕ) → connection_of eid before.responder.connections ≡ o → ServesDuly (served_of prior o)
    duly_of None eid is = record { duly = λ u. tt }
    duly_of (Some y) eid is = (k.serves y (found_in (λ (z : Connection). z.setup.peer == eid) before.responder.connections y is).0).kept.duly

    pub duly : serves.BeginsDuly next
    duly r = duly_of (connection_of r.peer before.responder.connections) r.peer refl

    pair_before : (a : Requesting) (x y : Connection) → IsPair again.requesters again.responder.connections a x → IsIn before.responder.connections y → y.setup ≡ x.setup → IsPair before.requesters before.responder.connections a y
    pair_before a x y pair m same = record { requester = pair.requester; connection = m; peer = ap (λ (r : RspSetup). r.peer) same ∙ pair.peer }

    reached_new : (a : Requesting) (x y : Connection) → IsIn before.responder.connections y → y.setup ≡ x.setup → x.history ≡ [] → IsReached (reading_of a.setup.psk) (state_of prior a y before.log) → IsReached (reading_of a.setup.psk) (state_of next a x before.log)
    reached_new a x y m same new reached =
        let served : served_from prior y.setup y.history ≡ served_from next x.setup x.history = sym (past_served y x.setup m same) ∙ ap (served_from next x.setup) (sym new) in
        subst (λ (s : List Served). IsReached (reading_of a.setup.psk) (record { asked = asked_from next a.setup a.history; served = s; log = before.log })) served
        (subst (λ (l : List Asked). IsReached (reading_of a.setup.psk) (record { asked = l; served = served_from prior y.setup y.history; log = before.log })) (same_asked a.setup a.history) reached)

    new_history : (x : Connection) → IsIn again.responder.connections x → x.history ≡ []
    new_history x m = (let o = in_map (new_connection w.responder.part) w.responder.known x m in ap (λ (z : Connection). z.history) o.2)

    no_draws_yet : all_draws again.responder.connections ≡ 0
    no_draws_yet = no_draws w.responder.part w.responder.known

    fresh_again : (x : Connection) → IsIn again.responder.connections x → next_served (reading_of x.setup.psk) (served_from next x.setup x.history) ≤ life.first + all_draws again.responder.connections
    fresh_again x m =
        let y = known_then x m in
        let same : served_from next x.setup x.history ≡ served_from prior y.0.setup y.0.history = ap (served_from next x.setup) (new_history x m) ∙ past_served y.0 x.setup y.1 y.2 in
        let key : reading_of y.0.setup.psk ≡ reading_of x.setup.psk = ap (λ (r : RspSetup). reading_of r.psk) y.2 in
        let low : next_served (reading_of x.setup.psk) (served_from next x.setup x.history) ≤ life.first =
        subst (λ (s : List Served). next_served (reading_of x.setup.psk) s ≤ life.first) (sym same)
        (subst (λ r. next_served r (served_from prior y.0.setup y.0.history) ≤ life.first) key (served_below y.0 y.1)) in
        omega (arith, low)

    pub fits_again : Fit (life ∷ earlier) again
    fits_again = record {
      apart = apart_again (configured earlier are.2) (setup_at w earlier) before refl refl refl was life earlier are.1;
      asks = λ a m. (let old = k.asks a m in record {
        setup = old.setup;
        made = old.made;
        kept = still_kept prior next a.setup a.history (same_asked a.setup a.history) old.kept;
        fresh = subst (λ (l : List Asked). next_asked l ≤ a.first + asked.draws_of a.setup a.history) (same_asked a.setup a.history) old.fresh;
        draws = old.draws;
        wear = old.wear;
      });
      serves = λ x m. (let y = known_then x m in record {
        setup = subst IsResponder y.2 (k.serves y.0 y.1).setup;
        made = subst (λ h. serving.IsMade x.setup h) (sym (new_history x m)) tt;
        kept = subst (λ h. serves.IsKept next x.setup h) (sym (new_history x m)) (serves.served_starts next duly x.setup);
        fresh = fresh_again x m;
      });
      wear = (let none = no_draws_yet in omega arith);
      draws = are.1;
      owned = k.owned;
      pairs = λ a x pair. (let y = known_then x pair.connection in
          reached_new a x y.0 y.1 y.2 (new_history x pair.connection) (k.pairs a y.0 (pair_before a x y.0 pair y.1 y.2)));
    }

    -- ---- And so it goes on.

    abbrev IsGood : World → Type 0
    IsGood world =
        worlds.IsGood next (asks.IsKept next) (serves.IsKept next) (asks.starts next (openly (life ∷ earlier))) (asks.asks_well next) (asks.hears_well next) bodies.steady (serves.served_starts next duly) (serves.does_well next) (serves.waits next) world

    from_good : (world : World) (events : List Entry) → IsGood world → IsGood (world_from world events)
    from_good world [] good = good
    from_good world (entry ∷ events) good =
        from_good (entry_step world entry).after events
        (worlds.happens_good next (asks.IsKept next) (serves.IsKept next) (asks.starts next (openly (life ∷ earlier))) (asks.asks_well next) (asks.hears_well next) bodies.steady (serves.served_starts next duly) (serves.does_well next) (serves.waits next)
        world entry.happening good)

    pub fits_after : NoChance (World_of (life ∷ earlier)).log → Fit (life ∷ earlier) (World_of (life ∷ earlier))
    fits_after chance = (from_good again life.entries (record { fits = λ n. fits_again })).fits chance

  -- No tags agreed by chance in the earlier lives either.
  pub chance_before : (life : Again) (earlier : List Again) → NoChance (World_of (life ∷ earlier)).log → NoChance (World_of earlier).log
  chance_before life earlier chance =
      no_chance_before (newest_world w entries (life ∷ earlier)).log (World_of earlier).log (subst (λ (x : World). NoChance x.log) (framed (life ∷ earlier)) chance)

  pub fits : (lives : List Again) → AreRestarts w lives → NoChance (World_of lives).log → Fit lives (World_of lives)
  fits [] are chance =
      worlds.after_fits (asks.IsKept no_past) (serves.IsKept no_past) (asks.starts no_past asks.begins_openly) (asks.asks_well no_past) (asks.hears_well no_past) bodies.steady (serves.served_starts no_past serves.begins_duly) (serves.does_well no_past) (serves.waits no_past)
      w are entries chance
  fits (life ∷ earlier) are chance = fits_after life earlier are (fits earlier are.2 (chance_before life earlier chance)) chance

  pub duly_at : (lives : List Again) → AreRestarts w lives → NoChance (World_of lives).log → serves.BeginsDuly (past_of w entries lives)
  duly_at [] are chance = serves.begins_duly
  duly_at (life ∷ earlier) are chance = duly life earlier are (fits earlier are.2 (chance_before life earlier chance))
