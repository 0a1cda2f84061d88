-- Whether a large request may be begun, and by which body.
use Rattle.std.proofs.Common.{◌≡◌, ◌∙◌, ◌≤◌, ◌+◌, ◌%◌, ◌==◌, ◌&&◌, ℕ, List, [], ◌∷◌, refl, sym, ap, subst, length, Bool, true, false, Option, Some, None, Ok, Err, cond, arith}
use Rattle.std.specs.Prelude.{is_some, nat_le, not, slice_index}
use Rattle.std.proofs.lemmas.Bool.{false≢true, not-false}
use Rattle.std.proofs.lemmas.Bool.Decides.{nat_tests}
use Rattle.std.proofs.lemmas.Option.{none-some, same_Some}
use Rattle.requester_core.proofs.TakenBack.{any_took, without}
use Rattle.requester_core.specs.Joined.{IsCommanded, StandsFor}
use Rattle.requester_core.specs.Owed.{TookFor}
use Rattle.requester_core.specs.declared.joined.RequesterCore.{RequesterCore}
use Rattle.requester_machine.specs.Asking.{asks, asks_by}
use Rattle.requester_machine.specs.Asking.Outcome.{Fails}
use Rattle.requester_machine.specs.Commands.{Free, command_fault, is_long, is_negotiated, lacks, live_count}
use Rattle.requester_machine.specs.History.{History, begins_large, connection_terms, larges_of, next_handle, outstanding, phase_of}
use Rattle.requester_machine.specs.May.{IsSetUp}
use Rattle.requester_machine.specs.Message.{Aim, Sent, asked_in, body_of}
use Rattle.requester_machine.specs.Message.Aim.{ByChunks, ForChunk, InSession, Plain}
use Rattle.requester_machine.specs.Message.Command.{Open}
use Rattle.requester_machine.specs.Owed.{with_next}
use Rattle.requester_machine.specs.Setup.{ReqSetup}
use Rattle.requester_machine.specs.Shown.{fault_of}
use Rattle.spdm_basis.proofs.Bools.{and_first, and_second}
use Rattle.spdm_basis.proofs.Options.{none_out}
use Rattle.spdm_basis.specs.Tests.{first_of_tests}
use Rattle.spdm_grammar.specs.Message.{RequestMessage}
use Rattle.spdm_grammar.specs.declared.told.command_fault.CommandFault.{CommandFault}
use Rattle.spdm_grammar.specs.declared.told.command_fault.CommandFault.TheVariants as fault
use Rattle.check_requester.proofs.OwedSent.{Goes}
use Rattle.check_requester.proofs.OwedSent.Goes.{AsRecord, InClear}
use Rattle.check_requester.specs.JudgedRequester.{IsAsker, IsKeptSetup, is_first_chunk}
use Rattle.check_requester.specs.LargeAsked.{HasRoom, IsBegun, is_least_short, is_refused_late, least_length}
use Rattle.check_requester.specs.declared.judged_requester.JudgedRequester.{JudgedRequester}
use Rattle.check_requester.specs.declared.judged_setup.JudgedSetup.{JudgedSetup}
use Rattle.check_laws.specs.Keeping.{Keeps, Kept, owing}
use Rattle.check_laws.proofs.Large.CommandsShown.{open_is_shown}
use Rattle.check_laws.proofs.Large.Meanwhile.{owed_may_begin}
use Rattle.check_laws.proofs.Large.PiecesShown.{first_is_shown}
use Rattle.check_laws.specs.Large.LargeRequests.{IsBegunBy}
use Rattle.check_laws.specs.Large.Sending.{Beginning, MayBegin}
use Rattle.check_laws.specs.Large.Sending.Beginning.{ByCommand, ByItself}
use Rattle.check_laws.specs.Large.SendingLaws.{first_body}
use Rattle.check_laws.specs.Large.SendingShown.{CanOpen, IsLargeSize}
use Rattle.check_laws.specs.declared.sending_large.large_request.LargeRequest.{LargeRequest}
use Rattle.capture_machine.specs.LargeRequests.{IsLargeRequest, common_of}
use Rattle.capture_machine.specs.Rounds.{no_draw}
use Rattle.world_machine.specs.Setup.{Configuration}

-- ---- Open, with a kind of summary that there is none of.

-- It has a fault, and a late one where the tests before it pass.
pub record FaultIs (a b c : Bool) (o : Option CommandFault) : Type 0 where
  pub is : CommandFault
  pub at : o ≡ Some is
  pub passes : is_refused_late is ≡ true → (a ≡ false) × (b ≡ false) × (c ≡ false)
  pub late : a ≡ false → b ≡ false → c ≡ false → is_refused_late is ≡ true

fault_is : (a b c d : Bool) (rest : List (Bool × CommandFault))
    → FaultIs a b c (first_of_tests ((false, fault.Worn) ∷ (false, fault.NothingToRetry) ∷ (a, fault.Busy) ∷ (b, fault.NotConnected) ∷ (false, fault.NoSuchSession) ∷ (c, fault.SessionLimit) ∷ (d, fault.NotNegotiated) ∷ (true, fault.BadSummary) ∷ rest))
fault_is true b c d rest = record { is = fault.Busy; at = refl; passes = λ e. absurd (false≢true e); late = λ x y z. absurd (false≢true (sym x)) }
fault_is false true c d rest = record { is = fault.NotConnected; at = refl; passes = λ e. absurd (false≢true e); late = λ x y z. absurd (false≢true (sym y)) }
fault_is false false true d rest = record { is = fault.SessionLimit; at = refl; passes = λ e. absurd (false≢true e); late = λ x y z. absurd (false≢true (sym z)) }
fault_is false false false true rest = record { is = fault.NotNegotiated; at = refl; passes = λ e. (refl, refl, refl); late = λ x y z. refl }
fault_is false false false false rest = record { is = fault.BadSummary; at = refl; passes = λ e. (refl, refl, refl); late = λ x y z. refl }

module _ (q : ReqSetup) (h : History) (f : Free) where
  open_fault : FaultIs (is_some (outstanding h)) (not (is_negotiated (phase_of h))) (live_count h == 4) (command_fault false q h (Open 2) f)
  unfolding command_fault
  open_fault = fault_is (is_some (outstanding h)) (not (is_negotiated (phase_of h))) (live_count h == 4) (lacks (connection_terms h) (Open 2)) ((false, fault.KeySpent) ∷ (is_long q h f (Open 2), fault.TooLong) ∷ [])

  open_fails : asks false q h (Open 2) f no_draw ≡ Fails open_fault.is
  unfolding asks
  open_fails = ap (asks_by q h (Open 2) f no_draw) open_fault.at

  room_of : is_refused_late open_fault.is ≡ true → HasRoom h
  room_of late =
      let passes = open_fault.passes late in
      record { free = none_out (outstanding h) passes.0; connected = not-false (is_negotiated (phase_of h)) passes.1; room = passes.2 }

  late_by : HasRoom h → is_refused_late open_fault.is ≡ true
  late_by room = open_fault.late (ap is_some room.free) (ap not room.connected) room.room

  -- It is never done.
  pub never_open : (tag : ℕ) (out : List ℕ) (new : RequesterCore) → IsCommanded q h (asks false q h (Open 2) f no_draw) (Ok tag) out new → ⊥
  never_open tag out new did = none-some open_fault.is (sym (sym (ap fault_of open_fails) ∙ did.fault))

  pub refused_open : (x : CommandFault) (out : List ℕ) (new : RequesterCore) (b : Bool) → b ≡ is_refused_late x → IsCommanded q h (asks false q h (Open 2) f no_draw) (Err x) out new → (b ≡ true → HasRoom h) × (HasRoom h → b ≡ true) × StandsFor new q h
  refused_open x out new b is did =
      let same : open_fault.is ≡ x = fails_same open_fault.is x (sym open_fails ∙ did.0) in (
        λ late. room_of (ap is_refused_late same ∙ sym is ∙ late),
        λ room. is ∙ ap is_refused_late (sym same) ∙ late_by room,
        did.1,
      )
    where
      fails_same : (x y : CommandFault) → Fails x ≡ Fails y → x ≡ y
      fails_same x y e = cc

-- ---- Where none is owed.

from_le : (a b : ℕ) → nat_le a b ≡ true → a ≤ b
from_le a b is = grind (arith, nat_tests)

to_le : (a b : ℕ) → a ≤ b → nat_le a b ≡ true
to_le a b is = grind (arith, nat_tests)

both : (a b : Bool) → a ≡ true → b ≡ true → (a && b) ≡ true
both true b one two = two
both false b one two = absurd (false≢true one)

pub size_of : (k : Kept) (body whole : List ℕ) → IsLargeRequest (common_of k.requester) whole → first_body k whole ≡ body → IsLargeSize (common_of k.requester) (length whole)
size_of k body whole large is = ((first_is_shown k body _ (length whole)).0 (whole, large, is, refl, refl)).0

module _ (q : ReqSetup) (k : Kept) (setup : k.setup ≡ q) (set_up : IsSetUp q) (none : k.owed ≡ None) (body : List ℕ) where
  own_limits : IsSetUp k.setup
  own_limits = subst IsSetUp (sym setup) set_up

  can : HasRoom k.requester → is_least_short q k.requester ≡ true → CanOpen k
  can room short =
      let P : ReqSetup → Type 0 = λ x. (least_length x k.requester ≤ (common_of k.requester).to_responder.max) × (least_length x k.requester ≤ 4096) in
      let both_short = subst P (sym setup) (from_le _ _ (and_first (nat_le (least_length q k.requester) _) _ short), from_le _ _ (and_second (nat_le (least_length q k.requester) (common_of k.requester).to_responder.max) _ short)) in record {
        owed = none;
        free = room.free;
        connected = room.connected;
        room = room.room;
        most = both_short.0;
        short = both_short.1;
      }

  could : CanOpen k → HasRoom k.requester × (is_least_short q k.requester ≡ true)
  could c = (
    record { free = c.free; connected = c.connected; room = c.room },
    subst (λ (x : ReqSetup). is_least_short x k.requester ≡ true) setup (both _ _ (to_le (least_length k.setup k.requester) (common_of k.requester).to_responder.max c.most) (to_le (least_length k.setup k.requester) 4096 c.short)),
  )

  can_by : (b : Beginning) (whole : List ℕ) → MayBegin k b → IsLargeRequest (common_of k.requester) whole → first_body k whole ≡ body → CanOpen k
  can_by (ByCommand c a) whole may large is = (open_is_shown k (length whole) own_limits (size_of k body whole large is)).0 (c, a, may)
  can_by (ByItself a) whole may large is = absurd (none-some may.0 (sym none ∙ may.1))

  pub no_room : (HasRoom k.requester → ⊥) → IsBegun k body None
  no_room not b whole may large is = not (could (can_by b whole may large is)).0

  pub too_long : is_least_short q k.requester ≡ false → IsBegun k body None
  too_long not b whole may large is = false≢true (sym not ∙ (could (can_by b whole may large is)).1)

  pub begun_open : HasRoom k.requester → is_least_short q k.requester ≡ true → (o : Option LargeRequest) → IsBegunBy k body o → IsBegun k body o
  begun_open room short (Some large) c =
      let some = (open_is_shown k (length c.0) own_limits (size_of k body c.0 c.1 c.2)).1 (can room short) in
      ((ByCommand some.0 some.1, some.2), c)
  begun_open room short None c = λ b whole may large is. c whole large is

-- What is kept of the requester, where none is owed.
pub asker_as : (q : ReqSetup) (k : Kept) (old new : JudgedRequester) → IsAsker old q k → k.owed ≡ None → new.setup ≡ old.setup → new.owes ≡ old.owes → StandsFor new.asking q k.requester → IsAsker new q k
asker_as q k old new asker none setup owes stands = record {
  kept = subst (λ (x : JudgedSetup). IsKeptSetup x q) (sym setup) asker.kept;
  setup = asker.setup;
  stands = subst (λ (o : Option Sent). StandsFor new.asking q (owing o k.requester)) (sym none) stands;
  owes = owes ∙ asker.owes;
}

-- Or whatever is owed.
pub asker_still : (q : ReqSetup) (k : Kept) (old new : JudgedRequester) → IsAsker old q k → new.setup ≡ old.setup → new.owes ≡ old.owes → StandsFor new.asking q (owing k.owed k.requester) → IsAsker new q k
asker_still q k old new asker setup owes stands = record {
  kept = subst (λ (x : JudgedSetup). IsKeptSetup x q) (sym setup) asker.kept;
  setup = asker.setup;
  stands = stands;
  owes = owes ∙ asker.owes;
}

-- ---- Where a message is owed.

-- Its request, and that it is sent in chunks.
asked_large : (x : Sent) (aim : Aim) → x.aim ≡ aim → begins_large aim ≡ true → (a : RequestMessage) × (asked_in x.aim ≡ Some a)
asked_large x (Plain a) is large = absurd (false≢true large)
asked_large x (ByChunks a handle number) is large = (a, ap asked_in is)
asked_large x (ForChunk a handle number before) is large = absurd (false≢true large)
asked_large x (InSession id ask) is large = absurd (false≢true large)

handle_back : (n m : ℕ) → m ≡ n + 1 → (m % 256 + 255) % 256 ≡ n % 256
handle_back n m is = omega (arith, is)

module _ (w : Configuration) (q : ReqSetup) (older : List (List ℕ)) (k : Kept) (keeps : Keeps w q older k) (sent : Sent) (owed : k.owed ≡ Some sent) (took : TookFor k.requester sent.aim) (goes : Goes k.requester sent) (room : List ℕ) (room_is : room ≡ body_of sent.content) (body : List ℕ) where
  large_by : Goes k.requester sent → (slice_index room 0 == 6) ≡ false → is_first_chunk room ≡ true → begins_large sent.aim ≡ true
  large_by (AsRecord id ask sealed inner pad aims last content) other first =
      absurd (false≢true (sym other ∙ ap (λ (l : List ℕ). slice_index l 0 == 6) (room_is ∙ ap body_of content)))
  large_by (InClear m content shows) other first = sym shows ∙ ap is_first_chunk (sym (ap body_of content) ∙ sym room_is) ∙ first

  shows_by_large : Goes k.requester sent → begins_large sent.aim ≡ true → ((slice_index room 0 == 6) ≡ false) × (is_first_chunk room ≡ true)
  shows_by_large (AsRecord id ask sealed inner pad aims last content) large = absurd (false≢true (sym (ap begins_large aims) ∙ large))
  shows_by_large (InClear m content shows) large =
      let is = room_is ∙ ap body_of content in
      (ap (λ (l : List ℕ). slice_index l 0 == 6) is, ap is_first_chunk is ∙ shows ∙ large)

  begins_large_by : (b : Beginning) → MayBegin k b → begins_large sent.aim ≡ true
  begins_large_by (ByCommand c a) may = absurd (none-some sent (sym may.0 ∙ owed))
  begins_large_by (ByItself a) may = ap (λ (x : Sent). begins_large x.aim) (same_Some sent may.0 (sym owed ∙ may.1)) ∙ may.4

  pub not_first : ((slice_index room 0 == 6) ≡ false → is_first_chunk room ≡ true → ⊥) → IsBegun k body None
  not_first not b whole may large is = let shows = shows_by_large goes (begins_large_by b may) in not shows.0 shows.1

  module _ (other : (slice_index room 0 == 6) ≡ false) (first : is_first_chunk room ≡ true) where
    large : begins_large sent.aim ≡ true
    large = large_by goes other first

    may : (a : RequestMessage) × MayBegin k (ByItself a)
    may = let one = asked_large sent sent.aim refl large in (one.0, owed_may_begin w q older k sent one.0 keeps owed large one.1)

    pub own_handle : (handle : ℕ) → handle ≡ (next_handle (with_next (Some sent) k.requester) + 255) % 256 → next_handle k.requester ≡ handle
    own_handle handle is =
        let x = without k.requester sent (any_took k.requester sent.aim took) in
        sym (is ∙ handle_back (larges_of k.requester) (larges_of (with_next (Some sent) k.requester)) (x.larges ∙ ap (λ (b : Bool). cond b (larges_of k.requester + 1) (larges_of k.requester)) large))

    pub begun_owed : (o : Option LargeRequest) → IsBegunBy k body o → IsBegun k body o
    begun_owed (Some r) c = ((ByItself may.0, may.1), c)
    begun_owed None c = λ b whole m is same. c whole is same
