-- A connect in progress: which of its six packets waits, and what both ends hold; and what pumps, queued data and time
-- do to it.
use Rattle.std.proofs.Common.{[], ◌≡◌, ◌⊎◌, ℕ, suc, ◌<◌, ◌≤◌, List, length, Option, Some, None, sym, subst, inl, inr, arith}
use Rattle.spdm_grammar.specs.Lines.{Line}
use Rattle.spdm_grammar.specs.Message.{OfferMessage}
use Rattle.spdm_grammar.specs.Message.RequestMessage.{GetVersion, GetCapabilities, NegotiateAlgorithms}
use Rattle.spdm_grammar.specs.declared.messages.choice.Choice.{Choice}
use Rattle.spdm_grammar.specs.declared.told.event.Event.TheVariants as event
use Rattle.spdm_grammar.specs.declared.told.event.Finished.TheVariants as finished
use Rattle.spdm_machine.specs.Terms.{no_negotiation}
use Rattle.spdm_machine.proofs.Members.{IsIn}
use Rattle.requester_machine.specs.History as asked
use Rattle.requester_machine.specs.Setup.{requester_caps}
use Rattle.responder_machine.specs.History as served
use Rattle.world_machine.specs.World.{World, WorldStep, first_waiting, packet_of, delivers, turn, pumps}
use Rattle.responder_machine.specs.Responding.{Responding}
use Rattle.spdm_progress.proofs.Between.{Goes, GoesOn, Ends, IsGiven, IsStill, pumps_done}
use Rattle.spdm_progress.proofs.ClearKept.{at_moved, still_clear}
use Rattle.spdm_progress.proofs.ResponderBegins.{awaits_on, stands_on}
use Rattle.spdm_progress.proofs.PacketSteps.{Pair, AreEnds, At, RequestWaits, AnswerWaits, answer_waits, request_given, answer_given}
use Rattle.spdm_progress.proofs.RequesterStages.{Asks, IsOver, version_heard, capabilities_heard, algorithms_heard}
use Rattle.spdm_progress.proofs.ResponderStages.{AwaitsVersion, HasVersion, HasCapabilities, HasAlgorithms, get_version, version, get_capabilities, capabilities, negotiate_algorithms, algorithms, first_pair, two_pairs, three_pairs, version_answered, capabilities_answered, algorithms_answered}
use Rattle.spdm_progress.proofs.SetUps.{CanTalk, common_for, takes_answer, algorithms_size}

module _ (p : Pair) (ends : AreEnds p) (offer : OfferMessage) (choice : Choice) (can : CanTalk p.requester p.responder offer choice) where
  abbrev pub AsksVersion : ℕ → asked.History → Type 0
  AsksVersion tag h = Asks p.requester tag GetVersion get_version no_negotiation h

  abbrev pub AsksCapabilities : ℕ → asked.History → Type 0
  AsksCapabilities tag h = Asks p.requester tag (GetCapabilities (requester_caps p.requester)) (get_capabilities p.requester) first_pair h

  abbrev pub AsksAlgorithms : ℕ → asked.History → Type 0
  AsksAlgorithms tag h = Asks p.requester tag (NegotiateAlgorithms offer) (negotiate_algorithms offer) (two_pairs p.requester p.responder) h

  abbrev pub Capable : served.History → Type 0
  Capable h = HasCapabilities p.requester p.responder h

  abbrev pub Agreed : served.History → Type 0
  Agreed h = HasAlgorithms p.requester p.responder offer h

  -- A packet of the requester waits, or one of the responder.
  pub record Requested (k l tag : ℕ) (m : List ℕ) (Asked : asked.History → Type 0) (Served : served.History → Type 0) (world : World) : Type 0 where
    pub small : tag < 8
    pub waits : RequestWaits p ends tag m world
    pub pair : At p k l Asked Served world

  pub record Replied (k l tag : ℕ) (m : List ℕ) (Asked : asked.History → Type 0) (Served : served.History → Type 0) (world : World) : Type 0 where
    pub small : tag < 8
    pub waits : AnswerWaits p ends tag m world
    pub pair : At p k l Asked Served world

  -- The six packets of a connect.
  abbrev pub IsUnderWay : World → Type 0
  IsUnderWay world =
      ((tag : ℕ) × Requested 3 3 tag get_version (AsksVersion tag) AwaitsVersion world)
      ⊎ (((tag : ℕ) × Replied 3 2 tag version (AsksVersion tag) HasVersion world)
      ⊎ (((tag : ℕ) × Requested 2 2 tag (get_capabilities p.requester) (AsksCapabilities tag) HasVersion world)
      ⊎ (((tag : ℕ) × Replied 2 1 tag (capabilities p.responder) (AsksCapabilities tag) Capable world)
      ⊎ (((tag : ℕ) × Requested 1 1 tag (negotiate_algorithms offer) (AsksAlgorithms tag) Capable world)
      ⊎ ((tag : ℕ) × Replied 1 0 tag (algorithms p.responder offer) (AsksAlgorithms tag) Agreed world)))))

  pub record IsDone (world : World) : Type 0 where
    pub idle : first_waiting world.sent ≡ None
    pub pair : At p 0 0 (IsOver (three_pairs p.requester p.responder offer)) Agreed world

  abbrev pub done_line : Line
  done_line = Line.ToRequester p.number (event.Done finished.Connected)

  -- The connect goes on, or is done and its line was written.
  abbrev pub ConnectGoes : WorldStep → Type 0
  ConnectGoes s = Goes IsUnderWay IsDone done_line s

  -- ---- One packet.

  neg_short : length (negotiate_algorithms offer) < 64
  neg_short = (let size = can.own.size in omega arith)

  neg_long : 4 ≤ length (negotiate_algorithms offer)
  neg_long = (let size = can.own.size in omega arith)

  alg_short : length (algorithms p.responder offer) < 64
  alg_short = (let size = algorithms_size p.responder offer in omega arith)

  version_given : (world : World) (tag : ℕ) (x : Requested 3 3 tag get_version (AsksVersion tag) AwaitsVersion world) → Replied 3 2 tag version (AsksVersion tag) HasVersion (delivers world (suc x.waits.place) (packet_of (suc x.waits.place) world.sent)).after
  version_given world tag x =
      let s = request_given p ends 3 2 (AsksVersion tag) AwaitsVersion HasVersion tag get_version (λ v. Unit {0}) (λ v. version) x.small (omega arith)
      (λ h d drawn awaits. ([], tt, version_answered p.responder h tag d can.responder_room awaits)) world x.waits x.pair in
      record { small = x.small; waits = answer_waits p ends tag version s.before _ (omega arith) s.idle s.sends; pair = s.pair }

  version_taken : (world : World) (tag : ℕ) (x : Replied 3 2 tag version (AsksVersion tag) HasVersion world)
      → (next : ℕ) × Requested 2 2 next (get_capabilities p.requester) (AsksCapabilities next) HasVersion (delivers world (suc x.waits.place) (packet_of (suc x.waits.place) world.sent)).after
  version_taken world tag x =
      let s = answer_given p ends 2 2 (AsksVersion tag) (λ h. AsksCapabilities (asked.next_tag h)) HasVersion tag version event.Progress (λ h. Some (asked.next_tag h, get_capabilities p.requester, GetCapabilities (requester_caps p.requester))) x.small
      (λ h. omega arith) (λ h d asks. version_heard p.requester h tag d can.requester_room asks) (omega arith) world x.waits x.pair in
      (asked.next_tag x.pair.asked, record { small = s.pair.asks.small; waits = s.waits; pair = s.pair })

  capabilities_given : (world : World) (tag : ℕ) (x : Requested 2 2 tag (get_capabilities p.requester) (AsksCapabilities tag) HasVersion world)
      → Replied 2 1 tag (capabilities p.responder) (AsksCapabilities tag) Capable (delivers world (suc x.waits.place) (packet_of (suc x.waits.place) world.sent)).after
  capabilities_given world tag x =
      let s = request_given p ends 2 1 (AsksCapabilities tag) HasVersion Capable tag (get_capabilities p.requester) (λ v. Unit {0}) (λ v. capabilities p.responder) x.small (omega arith)
      (λ h d drawn has. ([], tt, capabilities_answered p.requester p.responder h tag d (common_for p.requester p.responder) can.responder_room can.own_caps can.together has)) world x.waits x.pair in
      record { small = x.small; waits = answer_waits p ends tag (capabilities p.responder) s.before _ (omega arith) s.idle s.sends; pair = s.pair }

  capabilities_taken : (world : World) (tag : ℕ) (x : Replied 2 1 tag (capabilities p.responder) (AsksCapabilities tag) Capable world)
      → (next : ℕ) × Requested 1 1 next (negotiate_algorithms offer) (AsksAlgorithms next) Capable (delivers world (suc x.waits.place) (packet_of (suc x.waits.place) world.sent)).after
  capabilities_taken world tag x =
      let s = answer_given p ends 1 1 (AsksCapabilities tag) (λ h. AsksAlgorithms (asked.next_tag h)) Capable tag (capabilities p.responder) event.Progress (λ h. Some (asked.next_tag h, negotiate_algorithms offer, NegotiateAlgorithms offer)) x.small
      (λ h. neg_short) (λ h d asks. capabilities_heard p.requester p.responder h tag d offer (common_for p.requester p.responder) can.requester_room can.their_caps can.offers asks) (omega arith) world x.waits x.pair in
      (asked.next_tag x.pair.asked, record { small = s.pair.asks.small; waits = s.waits; pair = s.pair })

  algorithms_given : (world : World) (tag : ℕ) (x : Requested 1 1 tag (negotiate_algorithms offer) (AsksAlgorithms tag) Capable world)
      → Replied 1 0 tag (algorithms p.responder offer) (AsksAlgorithms tag) Agreed (delivers world (suc x.waits.place) (packet_of (suc x.waits.place) world.sent)).after
  algorithms_given world tag x =
      let s = request_given p ends 1 0 (AsksAlgorithms tag) Capable Agreed tag (negotiate_algorithms offer) (λ v. Unit {0}) (λ v. algorithms p.responder offer) x.small neg_short
      (λ h d drawn has. ([], tt, algorithms_answered p.requester p.responder h tag d offer choice neg_long can.request_fits can.own.fits can.own.sound can.chosen (takes_answer p.requester p.responder offer choice h can has) has)) world x.waits x.pair in
      record { small = x.small; waits = answer_waits p ends tag (algorithms p.responder offer) s.before _ alg_short s.idle s.sends; pair = s.pair }

  algorithms_taken : (world : World) (tag : ℕ) (x : Replied 1 0 tag (algorithms p.responder offer) (AsksAlgorithms tag) Agreed world)
      → IsDone (delivers world (suc x.waits.place) (packet_of (suc x.waits.place) world.sent)).after × IsIn (delivers world (suc x.waits.place) (packet_of (suc x.waits.place) world.sent)).lines done_line
  algorithms_taken world tag x =
      let s = answer_given p ends 0 0 (AsksAlgorithms tag) (λ h. IsOver (three_pairs p.requester p.responder offer)) Agreed tag (algorithms p.responder offer) (event.Done finished.Connected) (λ h. None) x.small
      (λ h. tt) (λ h d asks. algorithms_heard p.requester p.responder h tag d offer choice can.answer_fits can.chosen asks) alg_short world x.waits x.pair in
      (record { idle = s.waits; pair = s.pair }, s.writes)

  pub one_given : (world : World) → IsUnderWay world → IsGiven IsUnderWay IsDone done_line world
  one_given world (inl x) = record { place = x.1.waits.place; first = x.1.waits.first; goes = GoesOn (inr (inl (x.0, version_given world x.0 x.1))) }
  one_given world (inr (inl x)) = record { place = x.1.waits.place; first = x.1.waits.first; goes = GoesOn (inr (inr (inl (version_taken world x.0 x.1)))) }
  one_given world (inr (inr (inl x))) = record { place = x.1.waits.place; first = x.1.waits.first; goes = GoesOn (inr (inr (inr (inl (x.0, capabilities_given world x.0 x.1))))) }
  one_given world (inr (inr (inr (inl x)))) = record { place = x.1.waits.place; first = x.1.waits.first; goes = GoesOn (inr (inr (inr (inr (inl (capabilities_taken world x.0 x.1)))))) }
  one_given world (inr (inr (inr (inr (inl x))))) = record { place = x.1.waits.place; first = x.1.waits.first; goes = GoesOn (inr (inr (inr (inr (inr (x.0, algorithms_given world x.0 x.1)))))) }
  one_given world (inr (inr (inr (inr (inr x))))) = (let e = algorithms_taken world x.0 x.1 in record { place = x.1.waits.place; first = x.1.waits.first; goes = Ends e.0 e.1 })

  pub done_idle : (world : World) → IsDone world → first_waiting world.sent ≡ None
  done_idle world d = d.idle

  -- Each stage stays so where the responder keeps what is clear.
  pub under_way_kept : (world : World) (r : Responding) → IsStill world r → IsUnderWay world → IsUnderWay (record world { responder = r })
  under_way_kept world r still (inl x) = inl (x.0, record { small = x.1.small; waits = x.1.waits; pair = at_moved p 3 3 _ _ world r (still_clear p world r still) awaits_on x.1.pair })
  under_way_kept world r still (inr (inl x)) = inr (inl (x.0, record { small = x.1.small; waits = x.1.waits; pair = at_moved p 3 2 _ _ world r (still_clear p world r still) (stands_on _ _ _) x.1.pair }))
  under_way_kept world r still (inr (inr (inl x))) = inr (inr (inl (x.0, record { small = x.1.small; waits = x.1.waits; pair = at_moved p 2 2 _ _ world r (still_clear p world r still) (stands_on _ _ _) x.1.pair })))
  under_way_kept world r still (inr (inr (inr (inl x)))) = inr (inr (inr (inl (x.0, record { small = x.1.small; waits = x.1.waits; pair = at_moved p 2 1 _ _ world r (still_clear p world r still) (stands_on _ _ _) x.1.pair }))))
  under_way_kept world r still (inr (inr (inr (inr (inl x))))) = inr (inr (inr (inr (inl (x.0, record { small = x.1.small; waits = x.1.waits; pair = at_moved p 1 1 _ _ world r (still_clear p world r still) (stands_on _ _ _) x.1.pair })))))
  under_way_kept world r still (inr (inr (inr (inr (inr x))))) = inr (inr (inr (inr (inr (x.0, record { small = x.1.small; waits = x.1.waits; pair = at_moved p 1 0 _ _ world r (still_clear p world r still) (stands_on _ _ _) x.1.pair })))))

  pub done_kept : (world : World) (r : Responding) → IsStill world r → IsDone world → IsDone (record world { responder = r })
  done_kept world r still d = record { idle = d.idle; pair = at_moved p 0 0 _ _ world r (still_clear p world r still) (stands_on _ _ _) d.pair }

  -- ---- Six packets are enough.

  -- A pump of one packet more.
  one_pumped : (count n : ℕ) (world : World) → first_waiting world.sent ≡ Some n → IsDone (pumps count (delivers world n (packet_of n world.sent)).after).after → IsDone (pumps (suc count) world).after
  unfolding pumps
  one_pumped count n world is d = subst (λ (o : Option ℕ). IsDone (turn world (pumps count) o).after) (sym is) d

  last_pumped : (count : ℕ) (world : World) (tag : ℕ) → Replied 1 0 tag (algorithms p.responder offer) (AsksAlgorithms tag) Agreed world → IsDone (pumps (suc count) world).after
  last_pumped count world tag x = one_pumped count (suc x.waits.place) world x.waits.first (pumps_done IsDone done_idle count _ (algorithms_taken world tag x).0)

  two_pumped : (count : ℕ) (world : World) (tag : ℕ) → Requested 1 1 tag (negotiate_algorithms offer) (AsksAlgorithms tag) Capable world → IsDone (pumps (suc (suc count)) world).after
  two_pumped count world tag x = one_pumped (suc count) (suc x.waits.place) world x.waits.first (last_pumped count _ tag (algorithms_given world tag x))

  three_pumped : (count : ℕ) (world : World) (tag : ℕ) → Replied 2 1 tag (capabilities p.responder) (AsksCapabilities tag) Capable world → IsDone (pumps (suc (suc (suc count))) world).after
  three_pumped count world tag x = (let y = capabilities_taken world tag x in one_pumped (suc (suc count)) (suc x.waits.place) world x.waits.first (two_pumped count _ y.0 y.1))

  four_pumped : (count : ℕ) (world : World) (tag : ℕ) → Requested 2 2 tag (get_capabilities p.requester) (AsksCapabilities tag) HasVersion world → IsDone (pumps (suc (suc (suc (suc count)))) world).after
  four_pumped count world tag x = one_pumped (suc (suc (suc count))) (suc x.waits.place) world x.waits.first (three_pumped count _ tag (capabilities_given world tag x))

  five_pumped : (count : ℕ) (world : World) (tag : ℕ) → Replied 3 2 tag version (AsksVersion tag) HasVersion world → IsDone (pumps (suc (suc (suc (suc (suc count))))) world).after
  five_pumped count world tag x = (let y = version_taken world tag x in one_pumped (suc (suc (suc (suc count)))) (suc x.waits.place) world x.waits.first (four_pumped count _ y.0 y.1))

  pub six_pumped : (count : ℕ) (world : World) (tag : ℕ) → Requested 3 3 tag get_version (AsksVersion tag) AwaitsVersion world → IsDone (pumps (suc (suc (suc (suc (suc (suc count)))))) world).after
  six_pumped count world tag x = one_pumped (suc (suc (suc (suc (suc count))))) (suc x.waits.place) world x.waits.first (five_pumped count _ tag (version_given world tag x))
