-- Which large requests a command may send.
use Rattle.std.proofs.Common.{◌≡◌, ◌<◌, ◌≤◌, ◌+◌, ◌-◌, ◌==◌, ◌||◌, ◌&&◌, ◌⊎◌, ℕ, List, [], ◌∷◌, refl, sym, ap, ◌∙◌, subst, length, min, replicate, Bool, true, false, Some, None, is_some, cond, arith, not, inl, inr}
use Rattle.std.specs.Prelude.{nat_lt}
use Rattle.std.proofs.lemmas.Bool.{false≢true, not-false}
use Rattle.std.proofs.lemmas.Bool.Decides.{nat_tests}
use Rattle.std.proofs.lemmas.Grind.{common_steps}
use Rattle.std.proofs.lemmas.Option.{none-some, same_Some}
use Rattle.negotiate.specs.declared.shared.Common.{Common}
use Rattle.requester_machine.proofs.Entries.{asked, test_is_false}
use Rattle.requester_machine.specs.Asking.{asks, asks_by}
use Rattle.requester_machine.specs.Asking.Outcome.{Adds}
use Rattle.requester_machine.specs.Commands.{Free, command_fault, exchange_for, is_negotiated, live_count}
use Rattle.requester_machine.specs.History.{History, begins_large, negotiation_of, next_handle, outstanding, phase_of}
use Rattle.requester_machine.specs.History.Entry.{Told}
use Rattle.requester_machine.specs.May.{IsAllowed, IsSetUp, MayAsk}
use Rattle.requester_machine.specs.Message.{Command, Sent}
use Rattle.requester_machine.specs.Message.Command.{Connect, Open, Send, Beat, Update, Measure, End, Retry}
use Rattle.requester_machine.specs.Sending.{is_too_long, piece_sent, plain_sent}
use Rattle.requester_machine.specs.Setup.{ReqSetup}
use Rattle.spdm_basis.proofs.Options.{none_out}
use Rattle.spdm_basis.specs.Tests.{first_of_tests}
use Rattle.spdm_grammar.specs.Message.{ExchangeMessage, RequestMessage}
use Rattle.spdm_grammar.specs.Message.RequestMessage.{GetVersion, GetCapabilities, NegotiateAlgorithms, GetMeasurements, PskExchange, PskFinish, Heartbeat, KeyUpdate, EndSession, ChunkSend, ChunkGet}
use Rattle.spdm_grammar.specs.Requests.{canonical_request}
use Rattle.spdm_grammar.specs.declared.told.command_fault.CommandFault.TheVariants as fault
use Rattle.spdm_grammar.specs.declared.names.TheConstants.{MAX_MESSAGE_SIZE}
use Rattle.check_laws.proofs.Connecting.{some_allowed, some_values}
use Rattle.check_laws.proofs.Shown.{connect_free, measure_free, open_free}
use Rattle.check_laws.specs.Keeping.{Kept}
use Rattle.check_laws.specs.Showing.{AreAllowed, command_shown, values_shown}
use Rattle.capture_machine.proofs.AskersBegin.{large_command}
use Rattle.capture_machine.proofs.AskTells.{kind_of, same_sent}
use Rattle.capture_machine.proofs.AskTells.Kind.{InClear}
use Rattle.capture_machine.proofs.SentFacts.{large_kind}
use Rattle.capture_machine.specs.LargeRequests.{common_of, first_piece}
use Rattle.capture_machine.specs.Rounds.{no_draw}
use Rattle.check_laws.specs.Large.Sending.{Beginning, MayBegin, MaySend, asked_of}
use Rattle.check_laws.specs.Large.Sending.Beginning.{ByCommand, ByItself}
use Rattle.check_laws.specs.Large.SendingShown.{CanOpen, IsCommandedLarge, IsLargeSize, OpenIsShown, WholeIsShown}
use Rattle.check_laws.proofs.Large.LargeSizes.{terms_size}

no_padding : (q : ReqSetup) (h : History) (f : Free) → IsAllowed q h f → IsAllowed q h (record f { pad = [] })
no_padding q h f fits = record {
  least = fits.least;
  most = fits.most;
  unused = fits.unused;
  context = fits.context;
  opaque = fits.opaque;
  exchange = fits.exchange;
  pad = omega arith;
}

-- ---- Whole bytes.

-- The first chunk of a request that a command sends.
abbrev piece_for : Kept → RequestMessage → Sent
piece_for k a = piece_sent (common_of k.requester) k.requester a (next_handle k.requester) 0

to_commanded : (k : Kept) (c : Command) (f : Free) (a : RequestMessage) → k.owed ≡ None → IsAllowed k.setup k.requester f → kind_of k.setup k.requester f c ≡ InClear a
    → asks false k.setup k.requester c f no_draw ≡ Adds (Told c (piece_for k a) no_draw) → IsCommandedLarge k a
to_commanded k Connect f a none fits is adds = absurd (false≢true (sym (large_command k.setup k.requester f Connect (piece_for k a) adds refl)))
to_commanded k (Open summary) f a none fits is adds =
    let it : exchange_for k.setup f summary ≡ a = cc in
    let A : RequestMessage → Type 0 = λ x. asks false k.setup k.requester (Open summary) f no_draw ≡ Adds (Told (Open summary) (piece_for k x) no_draw) in
    subst (IsCommandedLarge k) it (Open summary, none, refl, no_padding k.setup k.requester f fits, open_free k.setup k.requester summary f [] ∙ subst A (sym it) adds)
to_commanded k (Measure None op) f a none fits is adds =
    let it : GetMeasurements op ≡ a = cc in
    let A : RequestMessage → Type 0 = λ x. asks false k.setup k.requester (Measure None op) f no_draw ≡ Adds (Told (Measure None op) (piece_for k x) no_draw) in
    subst (IsCommandedLarge k) it (Measure None op, none, refl, tt, measure_free k.setup k.requester op _ f ∙ subst A (sym it) adds)
to_commanded k (Send id bytes) f a none fits is adds = absurd (cc)
to_commanded k (Beat id) f a none fits is adds = absurd (cc)
to_commanded k (Update id all) f a none fits is adds = absurd (cc)
to_commanded k (Measure (Some id) op) f a none fits is adds = absurd (cc)
to_commanded k (End id) f a none fits is adds = absurd (cc)
to_commanded k Retry f a none fits is adds = absurd (cc)

-- Some values that are allowed, at which the command sends it.
from_commanded : (k : Kept) (a : RequestMessage) → IsSetUp k.setup → (c : Command) → command_shown a ≡ Some c → AreAllowed k.setup k.requester a
    → asks false k.setup k.requester c (values_shown a) no_draw ≡ Adds (Told c (piece_for k a) no_draw) → MayAsk false k.setup k.requester c no_draw (Adds (Told c (piece_for k a) no_draw))
from_commanded k (PskExchange x) set_up c shown allowed adds = (values_shown (PskExchange x), allowed, adds)
from_commanded k GetVersion set_up c shown allowed adds =
    let is : Connect ≡ c = same_Some Connect c shown in
    let A : Command → Free → Type 0 = λ y f. asks false k.setup k.requester y f no_draw ≡ Adds (Told y (piece_for k GetVersion) no_draw) in
    let there : A Connect (some_values k.setup k.requester) = connect_free k.setup k.requester _ _ ∙ subst (λ (y : Command). A y (values_shown GetVersion)) (sym is) adds in
    (some_values k.setup k.requester, some_allowed k.setup k.requester set_up, subst (λ (y : Command). A y (some_values k.setup k.requester)) is there)
from_commanded k (GetMeasurements op) set_up c shown allowed adds =
    let is : Measure None op ≡ c = same_Some (Measure None op) c shown in
    let A : Command → Free → Type 0 = λ y f. asks false k.setup k.requester y f no_draw ≡ Adds (Told y (piece_for k (GetMeasurements op)) no_draw) in
    let there : A (Measure None op) (some_values k.setup k.requester) = measure_free k.setup k.requester op _ _ ∙ subst (λ (y : Command). A y (values_shown (GetMeasurements op))) (sym is) adds in
    (some_values k.setup k.requester, some_allowed k.setup k.requester set_up, subst (λ (y : Command). A y (some_values k.setup k.requester)) is there)
from_commanded k (GetCapabilities caps) set_up c shown allowed adds = absurd (none-some c shown)
from_commanded k (NegotiateAlgorithms offer) set_up c shown allowed adds = absurd (none-some c shown)
from_commanded k (PskFinish verify) set_up c shown allowed adds = absurd (none-some c shown)
from_commanded k Heartbeat set_up c shown allowed adds = absurd (none-some c shown)
from_commanded k (KeyUpdate op tag) set_up c shown allowed adds = absurd (none-some c shown)
from_commanded k EndSession set_up c shown allowed adds = absurd (none-some c shown)
from_commanded k (ChunkSend chunk) set_up c shown allowed adds = absurd (none-some c shown)
from_commanded k (ChunkGet handle number) set_up c shown allowed adds = absurd (none-some c shown)

pub whole_is_shown : WholeIsShown
whole_is_shown k whole set_up = (λ c. to c.0 c.1 c.2 c.3, λ c. back c.0 c.1 c.2)
  where
    to : (b : Beginning) → MayBegin k b → whole ≡ canonical_request (asked_of b) → MaySend k b whole → (asked : RequestMessage) × (whole ≡ canonical_request asked) × (MayBegin k (ByItself asked) ⊎ IsCommandedLarge k asked)
    to (ByItself a) may is sends = (a, is, inl may)
    to (ByCommand c a) may is sends =
        let kind = large_kind k.setup k.requester sends.0 c (first_piece k.requester a whole) a sends.2 refl in
        (a, is, inr (to_commanded k c sends.0 a may.0 sends.1 kind (sends.2 ∙ ap (λ (l : List ℕ). Adds (Told c (first_piece k.requester a l) no_draw)) is)))

    back : (a : RequestMessage) → whole ≡ canonical_request a → MayBegin k (ByItself a) ⊎ IsCommandedLarge k a → (b : Beginning) × MayBegin k b × (whole ≡ canonical_request (asked_of b)) × MaySend k b whole
    back a is (inl may) = (ByItself a, may, is, tt)
    back a is (inr one) =
        let c : Command = one.0 in
        let asks_it = from_commanded k a set_up c one.2 one.3 one.4 in
        let sends : MaySend k (ByCommand c a) whole = subst (λ (l : List ℕ). MayAsk false k.setup k.requester c no_draw (Adds (Told c (first_piece k.requester a l) no_draw))) (sym is) asks_it in
        (ByCommand c a, (one.1, (piece_for k a, asks_it, refl, refl)), is, sends)

-- ---- Open.

exchange_length : (x : ExchangeMessage) → length (canonical_request (PskExchange x)) ≡ 12 + length x.hint + length x.context + length x.opaque
exchange_length x = grind (arith, common_steps)

off : (a b : Bool) → (a || b) ≡ false → a ≡ false
off true b is = is
off false b is = refl

at_most : (a b : ℕ) → nat_lt a b ≡ false → b ≤ a
at_most a b is = grind (arith, nat_tests)

is_small : (transfer : ℕ) → 12 < transfer → nat_lt transfer 4 ≡ false
is_small transfer some = grind (arith, nat_tests)

small_sent : (b : Bool) (k : Kept) (a : RequestMessage) (s : Sent) → b ≡ false → cond b (piece_for k a) (plain_sent k.requester a) ≡ s → begins_large s.aim ≡ false
small_sent true k a s is same = absurd (false≢true (sym is))
small_sent false k a s is same = ap (λ (m : Sent). begins_large m.aim) (sym same)

to_open : (k : Kept) (c : Command) (f : Free) (a : RequestMessage) (s : Sent) → 12 < (common_of k.requester).to_responder.transfer → k.owed ≡ None → IsAllowed k.setup k.requester f → kind_of k.setup k.requester f c ≡ InClear a
    → asks false k.setup k.requester c f no_draw ≡ Adds (Told c s no_draw) → begins_large s.aim ≡ true → CanOpen k
to_open k Connect f a s some none fits is adds large = absurd (false≢true (sym (large_command k.setup k.requester f Connect s adds large)))
to_open k (Open summary) f a s some none fits is adds large =
    let fine = (asked false k.setup k.requester (Open summary) f no_draw (Told (Open summary) s no_draw) adds).0 in
    let test = test_is_false false k.setup k.requester (Open summary) f fine in
    let long = at_most (common_of k.requester).to_responder.max (length (canonical_request (exchange_for k.setup f summary))) (off _ _ (test 8)) in
    let size = exchange_length (record { summary = summary; req_id = f.id; hint = k.setup.hint; context = f.context; opaque = f.opaque }) in
    let context = fits.context in
    let short = fits.exchange in record {
      owed = none;
      free = none_out _ (test 1);
      connected = not-false (is_negotiated (phase_of k.requester)) (test 2);
      room = test 4;
      most = omega (arith, long, size, context);
      short = omega (arith, short, context);
    }
to_open k (Measure None op) f a s some none fits is adds large =
    let sent = same_sent (Measure None op) _ s no_draw (asked false k.setup k.requester (Measure None op) f no_draw (Told (Measure None op) s no_draw) adds).1 in
    absurd (false≢true (sym (small_sent (nat_lt (common_of k.requester).to_responder.transfer 4) k (GetMeasurements op) s (is_small _ some) sent) ∙ large))
to_open k (Send id bytes) f a s some none fits is adds large = absurd (cc)
to_open k (Beat id) f a s some none fits is adds large = absurd (cc)
to_open k (Update id all) f a s some none fits is adds large = absurd (cc)
to_open k (Measure (Some id) op) f a s some none fits is adds large = absurd (cc)
to_open k (End id) f a s some none fits is adds large = absurd (cc)
to_open k Retry f a s some none fits is adds large = absurd (cc)

no_fault : (a b c d : Bool) → a ≡ false → b ≡ false → c ≡ false → d ≡ false
    → first_of_tests ((false, fault.Worn) ∷ (false, fault.NothingToRetry) ∷ (a, fault.Busy) ∷ (b, fault.NotConnected) ∷ (false, fault.NoSuchSession) ∷ (c, fault.SessionLimit) ∷ (false, fault.NotNegotiated) ∷ (false, fault.BadSummary)
    ∷ (false, fault.KeySpent) ∷ (d, fault.TooLong) ∷ []) ≡ None
no_fault false false false false one two three four = refl
no_fault true b c d one two three four = absurd (false≢true (sym one))
no_fault false true c d one two three four = absurd (false≢true (sym two))
no_fault false false true d one two three four = absurd (false≢true (sym three))
no_fault false false false true one two three four = absurd (false≢true (sym four))

is_over : (a b : ℕ) → a < b → nat_lt a b ≡ true
is_over a b less = grind (arith, nat_tests)

no_more : (a b : ℕ) → b ≤ a → nat_lt a b ≡ false
no_more a b less = grind (arith, nat_tests)

module _ (k : Kept) (size : ℕ) (set_up : IsSetUp k.setup) (large : IsLargeSize (common_of k.requester) size) (can : CanOpen k) where
  abbrev common : Common
  common = common_of k.requester

  -- The longest that the responder takes.
  abbrev longest : ℕ
  longest = min common.to_responder.max MAX_MESSAGE_SIZE

  abbrev rest : ℕ
  rest = longest - 12 - length k.setup.hint

  abbrev context : List ℕ
  context = replicate rest 0

  abbrev values : Free
  values = record (some_values k.setup k.requester) { context = context; opaque = [] }

  abbrev open_asked : RequestMessage
  open_asked = exchange_for k.setup values 0

  context_long : length context ≡ rest
  context_long = grind (arith, common_steps)

  allowed : IsAllowed k.setup k.requester values
  allowed =
      let some = some_allowed k.setup k.requester set_up in
      let most = can.most in
      let short = can.short in
      let long = context_long in record {
        least = some.least;
        most = some.most;
        unused = some.unused;
        context = omega (arith, most, short, long);
        opaque = omega arith;
        exchange = omega (arith, most, short, long);
        pad = some.pad;
      }

  open_long : length (canonical_request open_asked) ≡ longest
  open_long =
      let most = can.most in
      let short = can.short in
      let long = context_long in
      let size = exchange_length (record { summary = 0; req_id = values.id; hint = k.setup.hint; context = values.context; opaque = values.opaque }) in
      omega (arith, most, short, long, size)

  fits : is_too_long common (canonical_request open_asked) ≡ false
  fits =
      let P : Bool → Bool → Bool = λ a b. a || (not b && nat_lt common.to_responder.transfer (length (canonical_request open_asked))) in
      ap (λ (a : Bool). P a common.chunk) (no_more common.to_responder.max (length (canonical_request open_asked)) (let l = open_long in omega (arith, l))) ∙ ap (P false) large.chunk

  fault_none : command_fault false k.setup k.requester (Open 0) values ≡ None
  unfolding command_fault
  fault_none =
      no_fault (is_some (outstanding k.requester)) (not (is_negotiated (phase_of k.requester))) (live_count k.requester == 4) (is_too_long common (canonical_request open_asked))
      (ap is_some can.free) (ap not can.connected) can.room fits

  over : nat_lt common.to_responder.transfer (length (canonical_request open_asked)) ≡ true
  over = is_over _ _ (let l = open_long in let a = large.over in let b = large.most in let c = large.short in omega (arith, l, a, b, c))

  sends : asks false k.setup k.requester (Open 0) values no_draw ≡ Adds (Told (Open 0) (piece_for k open_asked) no_draw)
  unfolding asks
  sends =
      ap (asks_by k.setup k.requester (Open 0) values no_draw) fault_none
      ∙ ap (λ (b : Bool). Adds (Told (Open 0) (cond b (piece_for k open_asked) (plain_sent k.requester open_asked)) no_draw)) over

  pub from_open : (c : Command) × (a : RequestMessage) × MayBegin k (ByCommand c a)
  from_open = (Open 0, open_asked, (can.owed, (piece_for k open_asked, (values, allowed, sends), refl, refl)))

pub open_is_shown : OpenIsShown
open_is_shown k size set_up large = (
  λ c.
      let may = c.2 in
      let some = may.1 in
      let f : Free = some.1.0 in
      to_open k c.0 f c.1 some.0 (terms_size (negotiation_of k.requester) large.chunk) may.0 some.1.1 (large_kind k.setup k.requester f c.0 some.0 c.1 some.1.2 some.3) some.1.2 some.2,
  λ can. from_open k size set_up large can,
)
