-- One turn of honest delivery: what it makes of the attesting requester and of its world, and what is told of it there.
use Rattle.std.proofs.Common.{◌≡◌, ◌∙◌, ◌==◌, ◌+◌, ℕ, zero, suc, List, [], ◌∷◌, ◌++◌, find, nat_lt, length, slice_index, Bool, true, false, cond, Option, Some, None, refl, sym, ap, subst, eqb-true, eq-eqb, inl, inr}
use Rattle.std.proofs.lemmas.Bool.{false≢true, ne_eqb}
use Rattle.spdm_basis.specs.declared.values.session_id.SessionId.{SessionId}
use Rattle.requester_machine.specs.Requesting.{PacketStep, Requesting, requester_given}
use Rattle.responder_machine.specs.Responding.{responder_hears}
use Rattle.responder_machine.specs.Setup.{RspPart}
use Rattle.spdm_grammar.specs.Lines.{Line, Whose}
use Rattle.spdm_grammar.specs.declared.told.event.Event.{Event}
use Rattle.spdm_machine.proofs.Members.{IsIn, found_in, none_some, some_same}
use Rattle.spdm_progress.proofs.Places.{first_is, number_is, of_same}
use Rattle.world_machine.specs.Happenings.Happening.{Inject}
use Rattle.world_machine.specs.World.{World, WorldStep, data_lines, delivers, first_waiting, given, given_to, given_to_requester, given_to_responder, happens, id_in_event, is_at, number_at, packet_lines, pumps, record_lines, requester_at, requester_of, taken_lines, turn, without_waiting}
use Rattle.attest_laws.proofs.Following.{Stands, elsewhere_stands, given_stands}
use Rattle.attest_laws.specs.Attested.{IsFor}
use Rattle.attest_laws.specs.Honest.{is_for, next_packet, waiting_at}

-- ---- What is told of requester n among some lines.

abbrev OfLine : ℕ → (Event → Type 0) → Line → Type 0
OfLine n P (Line.ToRequester m told) = m ≡ n → P told
OfLine n P _ = Unit {0}

abbrev pub AllTold : ℕ → (Event → Type 0) → List Line → Type 0
AllTold n P [] = Unit {0}
AllTold n P (line ∷ others) = OfLine n P line × AllTold n P others

pub told_both : (n : ℕ) (P : Event → Type 0) (xs ys : List Line) → AllTold n P xs → AllTold n P ys → AllTold n P (xs ++ ys)
told_both n P [] ys one other = other
told_both n P (x ∷ xs) ys one other = (one.0, told_both n P xs ys one.1 other)

pub one_told : (n : ℕ) (P : Event → Type 0) (xs : List Line) → AllTold n P xs → (told : Event) → IsIn xs (Line.ToRequester n told) → P told
one_told n P [] all told m = absurd m
one_told n P (x ∷ xs) all told m = elim m [ inl e ↦ subst (OfLine n P) (sym e) all.0 refl | inr k ↦ one_told n P xs all.1 told k ]

line_as : (n : ℕ) (P Q : Event → Type 0) → ((told : Event) → P told → Q told) → (line : Line) → OfLine n P line → OfLine n Q line
line_as n P Q so (Line.ToRequester m told) one = λ same. so told (one same)
line_as n P Q so (Line.State whose phase) one = tt
line_as n P Q so (Line.Session whose view) one = tt
line_as n P Q so (Line.At number) one = tt
line_as n P Q so (Line.Command m fault) one = tt
line_as n P Q so (Line.Reply fault) one = tt
line_as n P Q so (Line.ToResponder heard) one = tt
line_as n P Q so Line.ToNobody one = tt
line_as n P Q so (Line.Data whose id bytes) one = tt
line_as n P Q so (Line.Record m bytes) one = tt
line_as n P Q so (Line.Packet number bytes) one = tt
line_as n P Q so (Line.NoPacket number) one = tt

pub told_as : (n : ℕ) (P Q : Event → Type 0) → ((told : Event) → P told → Q told) → (xs : List Line) → AllTold n P xs → AllTold n Q xs
told_as n P Q so [] all = tt
told_as n P Q so (x ∷ xs) all = (line_as n P Q so x all.0, told_as n P Q so xs all.1)

-- ---- Lines of no requester.

module _ (n : ℕ) (P : Event → Type 0) where
  data_told : (who : Whose) (id : SessionId) (o : Option (List ℕ)) → AllTold n P (data_lines who id o)
  data_told who id None = tt
  data_told who id (Some bytes) = (tt, tt)

  record_told : (m : ℕ) (o : Option (List ℕ)) → AllTold n P (record_lines m o)
  record_told m None = tt
  record_told m (Some bytes) = (tt, tt)

  taken_told : (m : ℕ) (o : Option (SessionId × List ℕ)) → AllTold n P (taken_lines m o)
  taken_told m None = tt
  taken_told m (Some taken) = (tt, tt)

  packets_told : (count : ℕ) (packets : List (List ℕ)) → AllTold n P (packet_lines count packets)
  packets_told count [] = tt
  packets_told count (packet ∷ others) = (tt, packets_told (count + 1) others)

  given_told : (world : World) (m : ℕ) (step : PacketStep) → (m ≡ n → P step.event) → AllTold n P (given_to_requester world m step).lines
  given_told world m step so =
      let datas = data_lines (Whose.Requester m) (id_in_event step.event) step.taken in
      let records = record_lines m step.measured in (
        so,
        told_both n P (datas ++ records) (packet_lines (length world.sent) step.sent) (told_both n P datas records (data_told (Whose.Requester m) (id_in_event step.event) step.taken) (record_told m step.measured)) (packets_told (length world.sent) step.sent),
      )

-- ---- The requester that a packet is given to has a number.

abbrev IsSomewhere : List Requesting → Requesting → Type 0
IsSomewhere rs b = (place : ℕ) × (requester_at place rs ≡ Some b)

first_or : (x b : Requesting) (others : List Requesting) (eid : ℕ) (same : Bool) → cond same (Some x) (find (is_at eid) others) ≡ Some b → (find (is_at eid) others ≡ Some b → IsSomewhere others b) → IsSomewhere (x ∷ others) b
first_or x b others eid true is next = (zero, is)
first_or x b others eid false is next = (let k = next is in (suc k.0, k.1))

somewhere : (eid : ℕ) (rs : List Requesting) (b : Requesting) → find (is_at eid) rs ≡ Some b → IsSomewhere rs b
somewhere eid [] b is = absurd (none_some b is)
somewhere eid (x ∷ others) b is = first_or x b others eid (is_at eid x) is (somewhere eid others b)

-- ---- A packet is given.

for_it : (eid : ℕ) (packet : List ℕ) (short : Bool) → nat_lt (length packet) 2 ≡ short → cond short false (slice_index packet 1 == eid) ≡ true → IsFor eid packet
for_it eid packet true long is = absurd (false≢true is)
for_it eid packet false long is = (long, eqb-true (slice_index packet 1) eid is)

for_other : (eid : ℕ) (packet : List ℕ) → is_for eid packet ≡ false → IsFor eid packet → ⊥
for_other eid packet is x = false≢true (sym is ∙ is_so eid packet x)
  where
    is_so : (eid : ℕ) (packet : List ℕ) → IsFor eid packet → is_for eid packet ≡ true
    is_so eid packet x = ap (λ (b : Bool). cond b false (slice_index packet 1 == eid)) x.0 ∙ eq-eqb (slice_index packet 1) eid x.1

module _ (part : RspPart) (n eid : ℕ) (a : Requesting) (world : World) (k : Stands part n eid a world) (packet : List ℕ) where
  -- To another end.
  module _ (other : IsFor eid packet → ⊥) (P : Event → Type 0) where
    found_told : nat_lt (length packet) 2 ≡ false → (o : Option Requesting) → find (is_at (slice_index packet 1)) world.requesters ≡ o → AllTold n P (given_to world packet o).lines
    found_told long None is = (tt, tt)
    found_told long (Some b) is =
        let s = somewhere (slice_index packet 1) world.requesters b is in
        given_told n P world (number_at b.setup.eid world) (requester_given b packet)
        (λ same. absurd (other (
          long,
          sym (eqb-true b.setup.eid (slice_index packet 1) (found_in (is_at (slice_index packet 1)) world.requesters b is).1)
              ∙ ap (λ (x : Requesting). x.setup.eid) (some_same b a (sym s.1 ∙ ap (λ (m : ℕ). requester_of m world) (sym (number_is (suc s.0) world b s.1 k.at.differ) ∙ same) ∙ k.at.is)) ∙ k.own,
        )))

    end_told : nat_lt (length packet) 2 ≡ false → (b : Bool) → AllTold n P (cond b (given_to_responder world packet (responder_hears world.responder packet)) (given_to world packet (find (is_at (slice_index packet 1)) world.requesters))).lines
    end_told long true =
        let step = responder_hears world.responder packet in
        (tt, told_both n P (taken_lines (number_at (slice_index packet 2) world) step.taken) _ (taken_told n P (number_at (slice_index packet 2) world) step.taken) (packets_told n P (length world.sent) step.sent))
    end_told long false = found_told long (find (is_at (slice_index packet 1)) world.requesters) refl

    other_by : (b : Bool) → nat_lt (length packet) 2 ≡ b
        → AllTold n P (cond b (given_to world packet None) (cond (slice_index packet 1 == world.responder.part.eid) (given_to_responder world packet (responder_hears world.responder packet)) (given_to world packet (find (is_at (slice_index packet 1)) world.requesters)))).lines
    other_by true is = (tt, tt)
    other_by false is = end_told is (slice_index packet 1 == world.responder.part.eid)

    other_told : AllTold n P (given world packet).lines
    other_told = other_by (nat_lt (length packet) 2) refl

  -- To this one.
  own_step : IsFor eid packet → given world packet ≡ given_to_requester world (number_at a.setup.eid world) (requester_given a packet)
  own_step is =
      ap (λ (b : Bool). cond b (given_to world packet None) (by_end (slice_index packet 1 == world.responder.part.eid))) is.0
      ∙ ap by_end (ne_eqb (slice_index packet 1) world.responder.part.eid (λ same. k.differs (ap (λ (p : RspPart). p.eid) (sym k.setup.part_is) ∙ sym same ∙ is.1)))
      ∙ ap (λ (e : ℕ). given_to world packet (find (is_at e) world.requesters)) (is.1 ∙ sym k.own)
      ∙ ap (given_to world packet) (first_is n world a k.at.is k.at.differ)
    where
      by_end : Bool → WorldStep
      by_end b = cond b (given_to_responder world packet (responder_hears world.responder packet)) (given_to world packet (find (is_at (slice_index packet 1)) world.requesters))

  own_told : IsFor eid packet → AllTold n (λ told. told ≡ (requester_given a packet).event) (given world packet).lines
  own_told is =
      subst (λ (s : WorldStep). AllTold n (λ told. told ≡ (requester_given a packet).event) s.lines) (sym (own_step is))
      (given_told n (λ told. told ≡ (requester_given a packet).event) world (number_at a.setup.eid world) (requester_given a packet) (λ same. refl))

-- ---- A turn.

-- The requester is this one after a step, and this holds of all that was told of it.
pub record TurnsTo (part : RspPart) (n eid : ℕ) (new : Requesting) (P : Event → Type 0) (s : WorldStep) : Type 0 where
  pub stands : Stands part n eid new s.after
  pub told : AllTold n P s.lines

module _ (part : RspPart) (n eid : ℕ) (a : Requesting) (world : World) (k : Stands part n eid a world) where
  -- The same where a packet waits no longer.
  taken : (number : ℕ) → Stands part n eid a (without_waiting number world)
  taken number = record {
    at = record { is = of_same n world (without_waiting number world) (Some a) refl k.at.is; differ = k.at.differ };
    own = k.own;
    setup = k.setup;
    differs = k.differs;
  }

  abbrev ToOthers : WorldStep → Type 0
  ToOthers s = TurnsTo part n eid a (λ told. ⊥) s

  abbrev ToIt : List ℕ → WorldStep → Type 0
  ToIt packet s = TurnsTo part n eid (requester_given a packet).after (λ told. told ≡ (requester_given a packet).event) s

  none_by : (first : Option ℕ) → waiting_at world.sent first ≡ None → ToOthers (turn world (pumps zero) first)
  unfolding pumps
  none_by None is = record { stands = k; told = tt }
  none_by (Some number) is = subst (λ (o : Option (List ℕ)). ToOthers (turn_by number o)) (sym is) (record { stands = k; told = (tt, tt) })
    where
      turn_by : ℕ → Option (List ℕ) → WorldStep
      turn_by number o = record { lines = (delivers world number o).lines ++ []; after = (delivers world number o).after }

  other_by_turn : (packet : List ℕ) → (IsFor eid packet → ⊥) → (first : Option ℕ) → waiting_at world.sent first ≡ Some packet → ToOthers (turn world (pumps zero) first)
  unfolding pumps happens
  other_by_turn packet other None is = absurd (none_some packet is)
  other_by_turn packet other (Some number) is =
      subst (λ (o : Option (List ℕ)). ToOthers (turn_by number o)) (sym is)
      (record {
        stands = elsewhere_stands part n eid a (without_waiting number world) (taken number) (Inject packet) other;
        told = told_both n (λ told. ⊥) (given (without_waiting number world) packet).lines [] (other_told part n eid a (without_waiting number world) (taken number) packet other (λ told. ⊥)) tt;
      })
    where
      turn_by : ℕ → Option (List ℕ) → WorldStep
      turn_by number o = record { lines = (delivers world number o).lines ++ []; after = (delivers world number o).after }

  own_by_turn : (packet : List ℕ) → IsFor eid packet → (first : Option ℕ) → waiting_at world.sent first ≡ Some packet → ToIt packet (turn world (pumps zero) first)
  unfolding pumps happens
  own_by_turn packet own None is = absurd (none_some packet is)
  own_by_turn packet own (Some number) is =
      subst (λ (o : Option (List ℕ)). ToIt packet (turn_by number o)) (sym is)
      (record {
        stands = given_stands part n eid a (without_waiting number world) (taken number) packet own;
        told = told_both n (λ told. told ≡ (requester_given a packet).event) (given (without_waiting number world) packet).lines [] (own_told part n eid a (without_waiting number world) (taken number) packet own) tt;
      })
    where
      turn_by : ℕ → Option (List ℕ) → WorldStep
      turn_by number o = record { lines = (delivers world number o).lines ++ []; after = (delivers world number o).after }

  pub turned_none : next_packet world ≡ None → ToOthers (pumps 1 world)
  unfolding pumps
  turned_none is = none_by (first_waiting world.sent) is

  pub turned_other : (packet : List ℕ) → next_packet world ≡ Some packet → is_for eid packet ≡ false → ToOthers (pumps 1 world)
  unfolding pumps
  turned_other packet is other = other_by_turn packet (for_other eid packet other) (first_waiting world.sent) is

  pub turned_own : (packet : List ℕ) → next_packet world ≡ Some packet → is_for eid packet ≡ true → ToIt packet (pumps 1 world)
  unfolding pumps
  turned_own packet is own = own_by_turn packet (for_it eid packet (nat_lt (length packet) 2) refl own) (first_waiting world.sent) is
