-- From where the ends of a life go on: the marks and tags of all lives before it.
use Rattle.std.proofs.Common.{◌≡◌, ℕ, ◌≤◌, ◌+◌, ◌==◌, List, [], ◌∷◌, map, find, Bool, true, false, cond, Option, Some, None, refl, sym, ap, ◌∙◌, subst, inl, inr, arith, eqb-true, eq-eqb, true≢false}
use Rattle.key_schedule.specs.Purpose.{Purpose}
use Rattle.requester_machine.specs.Requesting.{Requesting}
use Rattle.requester_machine.specs.Setup.{ReqSetup, ReqEnd}
use Rattle.responder_machine.proofs.Connected.{same_connection}
use Rattle.responder_machine.specs.Responding.{Connection, all_draws, connection_of}
use Rattle.responder_machine.specs.Setup.{RspSetup, RspPart, Known, towards}
use Rattle.spdm_agreement.proofs.Delivery.Data.{AsksOpenly, ServesDuly}
use Rattle.spdm_agreement.proofs.Messages.Beginnings.{reading_of}
use Rattle.spdm_agreement.proofs.Requester.AfterBody as bodies
use Rattle.spdm_agreement.proofs.Requester.DataVerified.{starts_openly}
use Rattle.spdm_agreement.proofs.Requester.Whole as asks
use Rattle.spdm_agreement.proofs.Responder.DataAnswered as serves
use Rattle.spdm_agreement.proofs.Worlds.AllEvents.{later_good}
use Rattle.spdm_agreement.proofs.Worlds.Fits.{IsPair, Fits}
use Rattle.spdm_agreement.proofs.Worlds.Starts.{MayBegin, begun, may_begin}
use Rattle.spdm_agreement.specs.Claims.{IsReached}
use Rattle.spdm_agreement.specs.Configured.{IsConfigured, setups_of}
use Rattle.spdm_agreement.specs.Marks.{Asked, Served, next_asked, next_served}
use Rattle.spdm_agreement.specs.Story.{Past, no_past, asked_from, served_from}
use Rattle.spdm_lives.proofs.Framed.{behind, from_framed}
use Rattle.spdm_lives.proofs.LifeKept.{IsLife}
use Rattle.spdm_lives.proofs.LifeSteps.{always}
use Rattle.spdm_lives.proofs.TranscriptsApart.{requester_before}
use Rattle.spdm_lives.specs.Lives.{Life, AreLives, GoesOn, RequestersGoOn, joined_log, world_of}
use Rattle.spdm_machine.proofs.Members.{IsIn, found_in, in_map, map_in}
use Rattle.spdm_machine.specs.Packets.{wear_limit}
use Rattle.spdm_machine.specs.TagLog.{Log}
use Rattle.world_machine.proofs.Logs.{no_chance_before}
use Rattle.world_machine.specs.Agreement.{IsMade}
use Rattle.world_machine.specs.Chance.{NoChance}
use Rattle.world_machine.specs.Setup.{WorldSetup, known_of}
use Rattle.world_machine.specs.Trace.{world_from}
use Rattle.world_machine.specs.World.{World, is_at, new_world}

-- ---- Marks and tags of lives.

abbrev pub asked_of : Past → Option Requesting → List Asked
asked_of prior None = []
asked_of prior (Some a) = asked_from prior a.setup a.history

abbrev pub served_of : Past → Option Connection → List Served
served_of prior None = []
served_of prior (Some c) = served_from prior c.setup c.history

-- The marks of the end of each set-up in all these lives, and all tags.
abbrev pub past_of : List Life → Past
past_of [] = no_past
past_of (life ∷ earlier) = record {
  asked = λ q. asked_of (past_of earlier) (find (is_at q.eid) (world_of life).requesters);
  served = λ r. served_of (past_of earlier) (connection_of r.peer (world_of life).responder.connections);
  log = joined_log (life ∷ earlier);
}

pub log_is : (earlier : List Life) → (past_of earlier).log ≡ joined_log earlier
log_is [] = refl
log_is (life ∷ earlier) = refl

-- ---- The ends of a life are found by their endpoints.

pub find_one : {A : Type 0} (p : A → Bool) (xs : List A) (x : A) → IsIn xs x → p x ≡ true → ((y : A) → IsIn xs y → p y ≡ true → y ≡ x) → find p xs ≡ Some x
find_one p [] x m is unique = absurd m
find_one {A = A} p (y ∷ others) x m is unique = go (p y) refl (λ l. find_one p others x l is (λ z n e. unique z (inr n) e))
  where
    go : (b : Bool) → p y ≡ b → (IsIn others x → find p others ≡ Some x) → cond b (Some y) (find p others) ≡ Some x
    go true e rest = ap (λ (z : A). Some z) (unique y (inl refl) e)
    go false e rest = elim m [ inl same ↦ absurd (true≢false (sym is ∙ ap p same ∙ e)) | inr l ↦ rest l ]

module _ (life : Life) (c : IsConfigured life.setup) where
  abbrev world : World
  world = world_of life

  kept : IsLife life.setup (world_of life)
  kept = always life.setup c life.entries

  requester_found : (a : Requesting) → IsIn world.requesters a → find (is_at a.setup.eid) world.requesters ≡ Some a
  requester_found a m = find_one (is_at a.setup.eid) world.requesters a m (eq-eqb a.setup.eid a.setup.eid refl) (λ b n e. kept.apart.eids b a n m (eqb-true _ _ e))

  connection_found : (x : Connection) → IsIn world.responder.connections x → connection_of x.setup.peer world.responder.connections ≡ Some x
  connection_found x m = find_one (λ (y : Connection). y.setup.peer == x.setup.peer) world.responder.connections x m (eq-eqb x.setup.peer x.setup.peer refl) (λ y n e. same_connection world.responder.connections kept.apart.peers y x n m (eqb-true _ _ e))

  pub past_asked : (earlier : List Life) (a : Requesting) (q : ReqSetup) → IsIn world.requesters a → a.setup ≡ q → (past_of (life ∷ earlier)).asked q ≡ asked_from (past_of earlier) a.setup a.history
  past_asked earlier a q m is =
      ap (λ (s : ReqSetup). (past_of (life ∷ earlier)).asked s) (sym is) ∙ ap (asked_of (past_of earlier)) (requester_found a m)

  pub past_served : (earlier : List Life) (x : Connection) (r : RspSetup) → IsIn world.responder.connections x → x.setup ≡ r → (past_of (life ∷ earlier)).served r ≡ served_from (past_of earlier) x.setup x.history
  past_served earlier x r m is =
      ap (λ (s : RspSetup). (past_of (life ∷ earlier)).served s) (sym is) ∙ ap (served_of (past_of earlier)) (connection_found x m)

-- ---- What is kept over lives.

-- The world of a life with the tags of those before it.
abbrev pub framed : Life → List Life → World
framed life earlier = behind (joined_log earlier) (world_of life)

abbrev pub LifeFits : Life → List Life → Type 0
LifeFits life earlier = Fits (past_of earlier) (asks.IsKept (past_of earlier)) (serves.IsKept (past_of earlier)) (framed life earlier)

-- Of a life behind others: its ends may begin, what they go on from was asked and answered as it should be, and its world
-- keeps what every world keeps.
pub record IsGood (life : Life) (earlier : List Life) : Type 0 where
  pub configured : IsConfigured life.setup
  pub begins : MayBegin (past_of earlier) life.setup
  pub openly : asks.BeginsOpenly (past_of earlier)
  pub duly : serves.BeginsDuly (past_of earlier)
  pub fits : LifeFits life earlier

pub begins_good : (life : Life) (earlier : List Life) → IsConfigured life.setup → MayBegin (past_of earlier) life.setup → asks.BeginsOpenly (past_of earlier) → serves.BeginsDuly (past_of earlier) → NoChance (joined_log (life ∷ earlier)) → IsGood life earlier
begins_good life earlier c may openly duly chance =
    let prior = past_of earlier in
    let is : begun prior life.setup ≡ behind (joined_log earlier) (new_world life.setup) = ap (λ (l : Log). record (new_world life.setup) { log = l }) (log_is earlier) in
    let same : world_from (begun prior life.setup) life.entries ≡ framed life earlier = ap (λ (x : World). world_from x life.entries) is ∙ from_framed (joined_log earlier) (new_world life.setup) life.entries in
    let later = later_good prior (asks.IsKept prior) (serves.IsKept prior) (asks.starts prior openly) (asks.asks_well prior) (asks.hears_well prior) bodies.steady (serves.served_starts prior duly) (serves.does_well prior) (serves.waits prior)
    life.setup c (λ none. may) life.entries in
    record {
      configured = c;
      begins = may;
      openly = openly;
      duly = duly;
      fits = subst (λ (x : World). NoChance x.log → Fits prior (asks.IsKept prior) (serves.IsKept prior) x) same (λ n. later.fits n) chance;
    }

-- ---- The next life.

end_after : (earlier later : List ReqEnd) → RequestersGoOn earlier later → (f : ReqEnd) → IsIn earlier f → (e : ReqEnd) × IsIn later e × (e.setup ≡ f.setup)
end_after [] [] go f m = absurd m
end_after [] (y ∷ later) go f m = absurd go
end_after (x ∷ earlier) [] go f m = absurd go
end_after (x ∷ earlier) (y ∷ later) go f m = elim m [
  | inl is ↦ (y, inl refl, go.0 ∙ sym (ap (λ (z : ReqEnd). z.setup) is))
  | inr l ↦ (let e = end_after earlier later go.2 f l in (e.0, inr e.1, e.2))
]

module _ (life : Life) (earlier : List Life) (later : WorldSetup) (k : IsGood life earlier) (go : GoesOn life.setup later) (c : IsConfigured later) where
  abbrev prior : Past
  prior = past_of earlier

  abbrev next : Past
  next = past_of (life ∷ earlier)

  is_life : IsLife life.setup (world_of life)
  is_life = always life.setup k.configured life.entries

  -- The requester that goes on as this end.
  pub asker : (e : ReqEnd) → IsIn later.requesters e → (a : Requesting) × IsIn (world_of life).requesters a × (a.setup ≡ e.setup) × (a.first + wear_limit ≤ e.first)
  asker e m =
      let f = requester_before life.setup.requesters later.requesters go.requesters e m in
      let a = is_life.requester_of f.0 f.1 in
      (a.0, a.1, a.2 ∙ sym f.2, (let first = a.3 in let l = f.3 in omega arith))

  -- What is known of requesters in the later life was known in the earlier one.
  known_before : (q : Known) → IsIn later.responder.known q → IsIn life.setup.responder.known q
  known_before q m =
      let s = in_map known_of (setups_of later.requesters) q (subst (λ (l : List Known). IsIn l q) c.known m) in
      let e = in_map (λ (x : ReqEnd). x.setup) later.requesters s.0 s.1 in
      let f = requester_before life.setup.requesters later.requesters go.requesters e.0 e.1 in
      subst (λ (l : List Known). IsIn l q) (sym k.configured.known)
      (subst (IsIn (map known_of (setups_of life.setup.requesters))) (ap known_of (sym (e.2 ∙ f.2)) ∙ sym s.2) (map_in known_of (setups_of life.setup.requesters) f.0.setup (map_in (λ (x : ReqEnd). x.setup) life.setup.requesters f.0 f.1)))

  -- The connection that goes on.
  pub server : (q : Known) → IsIn later.responder.known q → (x : Connection) × IsIn (world_of life).responder.connections x × (x.setup ≡ towards later.responder.part q)
  server q m = (let x = is_life.connection_of q (known_before q m) in (x.0, x.1, x.2 ∙ ap (λ (r : RspPart). towards r q) (sym go.part)))

  next_asks : (e : ReqEnd) → IsIn later.requesters e → next_asked (next.asked e.setup) ≤ e.first
  next_asks e m =
      let a = asker e m in
      let same = ap next_asked (past_asked life k.configured earlier a.0 e.setup a.1 a.2) in
      let fresh = (k.fits.asks a.0 a.1).fresh in
      let wear = (is_life.asks a.0 a.1).wear in
      let few = (is_life.asks a.0 a.1).few in
      let first = a.3 in
      omega arith

  next_serves : (q : Known) → IsIn later.responder.known q → next_served (reading_of q.psk) (next.served (towards later.responder.part q)) ≤ later.responder.first
  next_serves q m =
      let x = server q m in
      let key = ap (λ (r : RspSetup). r.psk) x.2 in
      let same = ap (next_served (reading_of q.psk)) (past_served life k.configured earlier x.0 (towards later.responder.part q) x.1 x.2) in
      let fresh = subst (λ (psk : List ℕ). next_served (reading_of psk) (served_from prior x.0.setup x.0.history) ≤ (world_of life).responder.first + all_draws (world_of life).responder.connections) key (k.fits.serves x.0 x.1).fresh in
      let wear = is_life.wear in
      let few = is_life.few in
      let first = is_life.first in
      let behind = go.responder in
      omega arith

  next_owned : (p : Purpose) (i : List ℕ) → IsMade p i next.log → (e : ReqEnd) × IsIn later.requesters e × (p.psk ≡ e.setup.psk)
  next_owned p i made =
      let a = k.fits.owned p i made in
      let f = is_life.end_of a.0 a.1 in
      let e = end_after life.setup.requesters later.requesters go.requesters f.0 f.1 in
      (e.0, e.1, a.2 ∙ ap (λ (q : ReqSetup). q.psk) (f.2 ∙ sym e.2))

  next_pairs : (e : ReqEnd) (q : Known) → IsIn later.requesters e → IsIn later.responder.known q → q.eid ≡ e.setup.eid
      → IsReached (reading_of e.setup.psk) (record { asked = next.asked e.setup; served = next.served (towards later.responder.part q); log = next.log })
  next_pairs e q m n same =
      let a = asker e m in
      let x = server q n in
      let pair : IsPair (world_of life).requesters (world_of life).responder.connections a.0 x.0 =
      record { requester = a.1; connection = x.1; peer = ap (λ (r : RspSetup). r.peer) x.2 ∙ same ∙ sym (ap (λ (s : ReqSetup). s.eid) a.2) } in
      subst (λ (psk : List ℕ). IsReached (reading_of psk) (record { asked = next.asked e.setup; served = next.served (towards later.responder.part q); log = next.log })) (ap (λ (s : ReqSetup). s.psk) a.2)
      (subst (λ (l : List Asked). IsReached (reading_of a.0.setup.psk) (record { asked = l; served = next.served (towards later.responder.part q); log = next.log })) (sym (past_asked life k.configured earlier a.0 e.setup a.1 a.2))
      (subst (λ (l : List Served). IsReached (reading_of a.0.setup.psk) (record { asked = asked_from prior a.0.setup a.0.history; served = l; log = next.log })) (sym (past_served life k.configured earlier x.0 (towards later.responder.part q) x.1 x.2))
      (k.fits.pairs a.0 x.0 pair)))

  pub next_begins : MayBegin (past_of (life ∷ earlier)) later
  next_begins = record { asked = next_asks; served = next_serves; owned = next_owned; pairs = next_pairs }

openly_of : (life : Life) (earlier : List Life) → IsGood life earlier → (o : Option Requesting) (eid : ℕ) → find (is_at eid) (world_of life).requesters ≡ o → AsksOpenly (asked_of (past_of earlier) o)
openly_of life earlier k None eid is = starts_openly
openly_of life earlier k (Some a) eid is = (k.fits.asks a (found_in (is_at eid) (world_of life).requesters a is).0).kept.openly

duly_of : (life : Life) (earlier : List Life) → IsGood life earlier → (o : Option Connection) (eid : ℕ) → connection_of eid (world_of life).responder.connections ≡ o → ServesDuly (served_of (past_of earlier) o)
duly_of life earlier k None eid is = record { duly = λ u. tt }
duly_of life earlier k (Some c) eid is = (k.fits.serves c (found_in (λ (y : Connection). y.setup.peer == eid) (world_of life).responder.connections c is).0).kept.duly

pub next_openly : (life : Life) (earlier : List Life) → IsGood life earlier → asks.BeginsOpenly (past_of (life ∷ earlier))
next_openly life earlier k q = openly_of life earlier k (find (is_at q.eid) (world_of life).requesters) q.eid refl

pub next_duly : (life : Life) (earlier : List Life) → IsGood life earlier → serves.BeginsDuly (past_of (life ∷ earlier))
next_duly life earlier k r = duly_of life earlier k (connection_of r.peer (world_of life).responder.connections) r.peer refl

-- ---- All lives.

pub always_good : (life : Life) (earlier : List Life) → AreLives (life ∷ earlier) → NoChance (joined_log (life ∷ earlier)) → IsGood life earlier
always_good life [] are chance = begins_good life [] are (may_begin life.setup) asks.begins_openly serves.begins_duly chance
always_good life (before ∷ older) are chance =
    let k = always_good before older are.2 (no_chance_before (world_of life).log (joined_log (before ∷ older)) chance) in
    begins_good life (before ∷ older) are.0 (next_begins before older life.setup k are.1 are.0) (next_openly before older k) (next_duly before older k) chance
