-- The steps of a requester.
use Rattle.std.proofs.Common.{refl, ◌≡◌, ◌≤◌, ◌<◌, ◌∙◌, ◌+◌, ◌^◌, ℕ, List, [], ◌∷◌, length, Bool, true, false, cond, Option, Result, Ok, Err, ap, sym, subst, arith}
use Rattle.std.proofs.lemmas.Bool.Decides.{nat_tests}
use Rattle.std.specs.Prelude.{unwrap_or}
use Rattle.requester_core.specs.Joined as joined
use Rattle.hmac_hkdf.specs.Draw.{Draws}
use Rattle.mctp_framing.specs.Assembling as assembling
use Rattle.mctp_framing.specs.Cutting.{RouteFields}
use Rattle.mctp_framing.specs.Gathering.{Gathered, Receiver, gathered}
use Rattle.mctp_framing.specs.Gathering.Gathered.{Dropped, More, Whole}
use Rattle.mctp_framing.specs.Packet.{PacketFields, parsed}
use Rattle.requester.specs.SetUp.{IsPart}
use Rattle.requester.specs.Standing.{IsCounted, IsGiven, IsHeard, StandsFor}
use Rattle.requester.specs.declared.part.Part.{Part}
use Rattle.requester.specs.declared.whole.Requester.{Requester}
use Rattle.requester_machine.proofs.Making.{hears_made}
use Rattle.requester_machine.specs.Asking.{Outcome}
use Rattle.requester_machine.specs.Does.{IsMade, requester_hears}
use Rattle.requester_machine.specs.History.{History, draws_of}
use Rattle.requester_machine.specs.Requesting.{PacketStep, Requesting, hears_gathered, hears_packet, ignores, is_worn, next_draw, requester_given, worn_step}
use Rattle.requester_machine.specs.Shown.{after}
use Rattle.spdm_basis.specs.declared.DropCause.{DropCause}
use Rattle.spdm_basis.specs.declared.PacketFault.{PacketFault}
use Rattle.spdm_grammar.specs.declared.told.event.Event.{Event}
use Rattle.spdm_grammar.specs.declared.told.event.Event.TheVariants as event
use Rattle.spdm_grammar.specs.declared.told.event.ReqIgnored.TheVariants as ignored
use Rattle.spdm_machine.specs.Packets.{fields_in, fields_with, gathered_from}
use Rattle.requester_machine.proofs.Runs.{one_more}

-- ---- Worn or not.

pub fresh_is : (old : Requester) (a : Requesting) → StandsFor old a → old.taken < 2 ^ 40 → is_worn a ≡ false
fresh_is old a stands few =
    let below : length a.given + a.commands < 2 ^ 40 = subst (λ (n : ℕ). n < 2 ^ 40) stands.count few in
    grind (arith, nat_tests, below)

pub worn_now : (old : Requester) (a : Requesting) → StandsFor old a → 2 ^ 40 ≤ old.taken → is_worn a ≡ true
worn_now old a stands many =
    let above : 2 ^ 40 ≤ length a.given + a.commands = subst (λ (n : ℕ). 2 ^ 40 ≤ n) stands.count many in
    grind (arith, nat_tests, above)

pub counts_few : (a : Requesting) → is_worn a ≡ false → length a.given + a.commands < 2 ^ 40
counts_few a fresh = grind (arith, nat_tests, fresh)

pub fresh_step : (a : Requesting) (packet : List ℕ) → is_worn a ≡ false → requester_given a packet ≡ hears_packet a packet (parsed packet)
unfolding requester_given
fresh_step a packet fresh = ap (λ (b : Bool). cond b (worn_step a) (hears_packet a packet (parsed packet))) fresh

pub worn_is : (a : Requesting) (packet : List ℕ) → is_worn a ≡ true → requester_given a packet ≡ worn_step a
unfolding requester_given
worn_is a packet worn = ap (λ (b : Bool). cond b (worn_step a) (hears_packet a packet (parsed packet))) worn

-- One more packet or command is counted.
pub counted : (old : Requester) (a : Requesting) → StandsFor old a → is_worn a ≡ false → IsCounted (record old { taken = old.taken + 1 }) a
counted old a stands fresh = record {
  fresh = fresh;
  count = ap (λ (n : ℕ). n + 1) stands.count;
  stands = record {
    part = stands.part;
    seed = stands.seed;
    number = stands.number;
    count = refl;
    receiver = stands.receiver;
    assembler = stands.assembler;
    asking = stands.asking;
    made = stands.made;
    entries = stands.entries;
    limit = stands.limit;
    first = stands.first;
  };
}

-- ---- A packet.

-- What a packet leaves that was counted, with this history.
pub record Takes (a : Requesting) (packet : List ℕ) (h : History) (old new : Requester) : Type 0 where
  pub part : new.part ≡ old.part
  pub draws : new.draws ≡ old.draws
  pub taken : new.taken ≡ old.taken
  pub receiver : new.assembler.receiver ≡ old.assembler.receiver
  pub assembler : assembling.StandsFor new.assembler (fields_in (packet ∷ a.given))
  pub asking : joined.StandsFor new.asking a.setup h

given_after : (a : Requesting) (packet : List ℕ) (h : History) (old new : Requester) → IsCounted old a → Takes a packet h old new → IsMade a.setup h → length h ≤ length a.history + 1 → draws_of a.setup h ≡ draws_of a.setup a.history
    → StandsFor new (record a { given = packet ∷ a.given; history = h })
given_after a packet h old new is takes made more drawn =
    let stands = is.stands in
    let count = is.count in
    let taken = takes.taken in
    let entries = stands.entries in
    let below = counts_few a is.fresh in
    record {
      part = subst (λ (part : Part). IsPart part a.setup) (sym takes.part) stands.part;
      seed = ap (λ (d : Draws). d.seed) takes.draws ∙ stands.seed;
      number = ap (λ (d : Draws). d.number) takes.draws ∙ stands.number ∙ ap (λ (n : ℕ). a.first + n) (sym drawn);
      count = omega (arith, count, taken);
      receiver = takes.receiver ∙ stands.receiver;
      assembler = takes.assembler;
      asking = takes.asking;
      made = made;
      entries = omega (arith, entries, more);
      limit = omega (arith, below);
      first = stands.first;
    }

-- Nothing comes of it.
rests : (a : Requesting) (packet : List ℕ) (told : Event) (out : List (List ℕ)) (old new : Requester) → IsCounted old a → Takes a packet a.history old new → out ≡ [] → hears_packet a packet (parsed packet) ≡ ignores a packet told
    → IsGiven (hears_packet a packet (parsed packet)) told out new
rests a packet told out old new is takes empty step =
    subst (λ (s : PacketStep). IsGiven s told out new) (sym step) (record {
      event = refl;
      sent = empty;
      stands = given_after a packet a.history old new is takes is.stands.made (omega arith) refl;
    })

pub broken_step : (a : Requesting) (packet : List ℕ) (fault : PacketFault) (out : List (List ℕ)) (old : Requester) → IsCounted old a → out ≡ [] → parsed packet ≡ Err fault
    → IsGiven (hears_packet a packet (parsed packet)) (event.Ignored (ignored.Packet fault)) out old
broken_step a packet fault out old is empty breaks =
    rests a packet (event.Ignored (ignored.Packet fault)) out old old is
    (record {
      part = refl;
      draws = refl;
      taken = refl;
      receiver = refl;
      assembler = subst (λ (p : Result PacketFields PacketFault). assembling.StandsFor old.assembler (fields_with p (fields_in a.given))) (sym breaks) is.stands.assembler;
      asking = is.stands.asking;
    }) empty (ap (hears_packet a packet) breaks)

-- What the assembler tells is what comes of the packet.
hears_is : (a : Requesting) (packet : List ℕ) (fields : PacketFields) (g : Gathered) (old : Requester) → IsCounted old a → parsed packet ≡ Ok fields → g ≡ gathered old.assembler.receiver (fields_in a.given) fields
    → hears_packet a packet (parsed packet) ≡ hears_gathered a packet g
unfolding gathered_from
hears_is a packet fields g old is parses told =
    ap (hears_packet a packet) parses ∙ ap (hears_gathered a packet) (sym (told ∙ ap (λ (r : Receiver). gathered r (fields_in a.given) fields) is.stands.receiver))

-- What the assembler keeps after it, with a history.
pub record Feeds (a : Requesting) (packet : List ℕ) (fields : PacketFields) (g : Gathered) (h : History) (old new : Requester) : Type 0 where
  pub parses : parsed packet ≡ Ok fields
  pub told : g ≡ gathered old.assembler.receiver (fields_in a.given) fields
  pub part : new.part ≡ old.part
  pub draws : new.draws ≡ old.draws
  pub taken : new.taken ≡ old.taken
  pub receiver : new.assembler.receiver ≡ old.assembler.receiver
  pub assembler : assembling.StandsFor new.assembler (fields ∷ fields_in a.given)
  pub asking : joined.StandsFor new.asking a.setup h

feeds_takes : (a : Requesting) (packet : List ℕ) (fields : PacketFields) (g : Gathered) (h : History) (old new : Requester) → Feeds a packet fields g h old new → Takes a packet h old new
feeds_takes a packet fields g h old new feeds = record {
  part = feeds.part;
  draws = feeds.draws;
  taken = feeds.taken;
  receiver = feeds.receiver;
  assembler = subst (λ (p : Result PacketFields PacketFault). assembling.StandsFor new.assembler (fields_with p (fields_in a.given))) (sym feeds.parses) feeds.assembler;
  asking = feeds.asking;
}

pub more_step : (a : Requesting) (packet : List ℕ) (fields : PacketFields) (out : List (List ℕ)) (old new : Requester) → IsCounted old a → out ≡ [] → Feeds a packet fields More a.history old new
    → IsGiven (hears_packet a packet (parsed packet)) event.More out new
more_step a packet fields out old new is empty feeds =
    rests a packet event.More out old new is (feeds_takes a packet fields More a.history old new feeds) empty (hears_is a packet fields More old is feeds.parses feeds.told)

pub dropped_step : (a : Requesting) (packet : List ℕ) (fields : PacketFields) (cause : DropCause) (out : List (List ℕ)) (old new : Requester) → IsCounted old a → out ≡ [] → Feeds a packet fields (Dropped cause) a.history old new
    → IsGiven (hears_packet a packet (parsed packet)) (event.Ignored (ignored.Dropped cause)) out new
dropped_step a packet fields cause out old new is empty feeds =
    rests a packet (event.Ignored (ignored.Dropped cause)) out old new is (feeds_takes a packet fields (Dropped cause) a.history old new feeds) empty (hears_is a packet fields (Dropped cause) old is feeds.parses feeds.told)

abbrev pub hears_route : Requesting → RouteFields → List ℕ → Outcome
hears_route a route body = requester_hears a.setup a.history route.owner route.tag body (next_draw a)

pub whole_step : (a : Requesting) (packet : List ℕ) (fields : PacketFields) (route : RouteFields) (body : List ℕ) (told : Event) (out : List (List ℕ)) (old new : Requester) → IsCounted old a
    → IsHeard a.setup a.history (hears_route a route body) told out new.asking → Feeds a packet fields (Whole route body) (after a.history (hears_route a route body)) old new
    → IsGiven (hears_packet a packet (parsed packet)) told out new
whole_step a packet fields route body told out old new is heard feeds =
    let o = hears_route a route body in
    let took = hears_made a.setup a.history route.owner route.tag body (next_draw a) is.stands.made in
    subst (λ (s : PacketStep). IsGiven s told out new) (sym (hears_is a packet fields (Whole route body) old is feeds.parses feeds.told)) (record {
      event = sym (ap (λ (e : Option Event). unwrap_or e event.More) heard.event);
      sent = heard.sent;
      stands = given_after a packet (after a.history o) old new is (feeds_takes a packet fields (Whole route body) (after a.history o) old new feeds) took.made (one_more a.history o) took.same;
    })
