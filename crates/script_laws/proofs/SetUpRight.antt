-- What a configuration in range sets up keeps the limits of a world.
use Rattle.std.proofs.Common.{◌≡◌, ◌≢◌, ◌∙◌, ◌+◌, ◌<◌, ◌≤◌, ◌==◌, ◌||◌, ◌&&◌, ◌++◌, ℕ, List, [], ◌∷◌, length, map, refl, sym, All, Bool, true, false, nat_lt, nat_eq, arith, append_assoc, length-append, None}
use Rattle.std.specs.List.{AllByRecursion}
use Rattle.std.specs.Prelude.{nat_le, not, bytes_eq}
use Rattle.std.proofs.lemmas.Bool.{not-true, leb-true, ltb-true, eqb-false, ne_eqb, or_parts, false≢true, true≢false}
use Rattle.std.proofs.lemmas.List.{length-map}
use Rattle.std.proofs.lemmas.List.Elements.{All-from_recursion}
use Rattle.std.proofs.lemmas.List.Sums.{sum_by-append}
use Rattle.std.proofs.lemmas.Slice.Eq.{bytes_eq-Decides}
use Rattle.measurements.specs.Blocks.{record_len}
use Rattle.measurements.specs.Faults.{has_bad_index, has_index, has_twice, inventory_fault}
use Rattle.requester_machine.specs.Setup.{ReqSetup}
use Rattle.responder_machine.specs.Setup.{Known, towards}
use Rattle.script_text.specs.Configuring.{has_block, has_psk, requester_has_eid}
use Rattle.script_text.specs.Measured.{block_size, sizes_of}
use Rattle.script_text.specs.Sound.{IsSoundConfig, are_bytes, are_bytes_in, are_sound_blocks, are_sound_requesters, is_sound_block, is_sound_end, is_sound_requester}
use Rattle.script_text.specs.declared.configuration.config.ReqPart.{ReqPart}
use Rattle.script_text.specs.declared.configuration.config.ScriptConfig.{ScriptConfig}
use Rattle.script_ends.specs.Configured.{configuration_in, requester_in, responder_in}
use Rattle.spdm_agreement.specs.Configured.{AreApart, HasKey, HasSizes, IsConfiguration, IsEid, IsRequester, IsResponder}
use Rattle.spdm_basis.proofs.Bools.{and_first, and_second, lt_false}
use Rattle.spdm_basis.specs.declared.values.eid.Eid.{Eid}
use Rattle.spdm_grammar.specs.declared.told.block_spec.BlockSpec.{BlockSpec}
use Rattle.spdm_grammar.specs.declared.messages.choice.FlagSet.{FlagSet}
use Rattle.spdm_grammar.specs.declared.names.TheConstants.{MIN_DATA_TRANSFER_SIZE, MAX_MESSAGE_SIZE}
use Rattle.world_machine.specs.Setup.{known_of}

-- ---- Numbers and bytes.

whole_if : (chunk ordered : Bool) → (chunk || ordered) ≡ true → chunk ≡ false → ordered ≡ true
whole_if true ordered h fails = absurd (true≢false fails)
whole_if false ordered h fails = h

one_size : (transfer max : ℕ) → transfer ≤ max → max ≤ transfer → max ≡ transfer
one_size transfer max more less = omega arith

pub has_sizes : (limit transfer max unit own : ℕ) (flags : FlagSet) → is_sound_end limit transfer max unit own flags ≡ true → HasSizes transfer max unit flags
has_sizes limit transfer max unit own flags h =
    let a = and_first _ _ (and_first _ _ h) in
    let units = and_second _ _ a in
    let t = and_first _ _ (and_first _ _ a) in
    let m = and_second _ _ (and_first _ _ a) in
    let ordered : transfer ≤ max = leb-true transfer max (and_first _ _ m) in
    record {
      least = leb-true MIN_DATA_TRANSFER_SIZE transfer (and_first _ _ t);
      ordered = ordered;
      most = leb-true max MAX_MESSAGE_SIZE (and_second _ _ m);
      whole = λ fails. one_size transfer max ordered (leb-true max transfer (whole_if flags.chunk (nat_le max transfer) (and_second _ _ h) fails));
      payload = leb-true 64 unit (and_first _ _ units);
      payload_most = leb-true unit 1024 (and_second _ _ units);
    }

pub own_fits : (limit transfer max unit own : ℕ) (flags : FlagSet) → is_sound_end limit transfer max unit own flags ≡ true → own ≤ limit
own_fits limit transfer max unit own flags h = leb-true own limit (and_second _ _ (and_first _ _ h))

abbrev IsByte : ℕ → Type 0
IsByte byte = byte < 256

each_byte : (bytes : List ℕ) → are_bytes bytes ≡ true → AllByRecursion IsByte bytes
each_byte [] h = tt
each_byte (b ∷ bytes) h = (ltb-true b 256 (and_first _ _ h), each_byte bytes (and_second _ _ h))

all_bytes : (bytes : List ℕ) (low high : ℕ) → are_bytes_in low high bytes ≡ true → All IsByte bytes
all_bytes bytes low high h = All-from_recursion IsByte bytes (each_byte bytes (and_first _ _ h))

at_least : (bytes : List ℕ) (low high : ℕ) → are_bytes_in low high bytes ≡ true → low ≤ length bytes
at_least bytes low high h = leb-true low (length bytes) (and_first _ _ (and_second _ _ h))

pub at_most : (bytes : List ℕ) (low high : ℕ) → are_bytes_in low high bytes ≡ true → length bytes ≤ high
at_most bytes low high h = leb-true (length bytes) high (and_second _ _ (and_second _ _ h))

is_eid : (eid : Eid) → IsEid eid.number
is_eid eid = record { least = eid.low; most = eid.high }

has_key : (hint psk : List ℕ) → are_bytes_in 0 64 hint ≡ true → are_bytes_in 1 64 psk ≡ true → HasKey hint psk
has_key hint psk h p = record {
  hint_most = at_most hint 0 64 h;
  hint_bytes = all_bytes hint 0 64 h;
  psk_least = at_least psk 1 64 p;
  psk_most = at_most psk 1 64 p;
  psk_bytes = all_bytes psk 1 64 p;
}

-- ---- Requesters.

-- the tests of a requester, taken apart
pub record IsFine (e : ℕ) (before : List ReqPart) (q : ReqPart) : Type 0 where
  pub sound : is_sound_requester q ≡ true
  pub few : length before < 8
  pub other : nat_eq e q.eid.number ≡ false
  pub new_eid : requester_has_eid q.eid.number before ≡ false
  pub new_psk : has_psk q.psk before ≡ false

pub is_fine : (e : ℕ) (before : List ReqPart) (q : ReqPart) →
    (is_sound_requester q && nat_lt (length before) 8 && not (e == q.eid.number || requester_has_eid q.eid.number before) && not (has_psk q.psk before)) ≡ true → IsFine e before q
is_fine e before q h =
    let a = and_first _ _ h in
    let b = and_first _ _ a in
    let eids = or_parts (nat_eq e q.eid.number) (requester_has_eid q.eid.number before) (not-true _ (and_second _ _ a)) in
    record {
      sound = and_first _ _ b;
      few = ltb-true (length before) 8 (and_second _ _ b);
      other = eids.0;
      new_eid = eids.1;
      new_psk = not-true _ (and_second _ _ h);
    }

is_requester : (eid : Eid) (q : ReqPart) → is_sound_requester q ≡ true → nat_eq eid.number q.eid.number ≡ false → IsRequester (requester_in eid.number q)
is_requester eid q sound other =
    let a = and_first _ _ sound in
    let b = and_first _ _ a in
    let end = and_first _ _ b in
    record {
      eid = is_eid q.eid;
      responder = is_eid eid;
      other = λ same. eqb-false eid.number q.eid.number other (sym same);
      sizes = has_sizes 16 q.transfer q.max q.unit q.pad q.flags end;
      key = has_key q.hint q.psk (and_second _ _ b) (and_second _ _ a);
      opaque = at_most q.opaque 0 1024 (and_second _ _ sound);
      opaque_bytes = all_bytes q.opaque 0 1024 (and_second _ _ sound);
      pad = own_fits 16 q.transfer q.max q.unit q.pad q.flags end;
    }

are_requesters : (eid : Eid) (before qs : List ReqPart) → are_sound_requesters eid.number before qs ≡ true → AllByRecursion IsRequester (map (requester_in eid.number) qs)
are_requesters eid before [] h = tt
are_requesters eid before (q ∷ qs) h =
    let fine = is_fine eid.number before q (and_first _ _ h) in
    (is_requester eid q fine.sound fine.other, are_requesters eid (before ++ q ∷ []) qs (and_second _ _ h))

pub are_few : (e : ℕ) (before qs : List ReqPart) → are_sound_requesters e before qs ≡ true → length before ≤ 8 → length before + length qs ≤ 8
are_few e before [] h few = omega (arith, few)
are_few e before (q ∷ qs) h few =
    let fine = is_fine e before q (and_first _ _ h) in
    let room = fine.few in
    let long = length-append before (q ∷ []) in
    let others : are_sound_requesters e (before ++ q ∷ []) qs ≡ true = and_second _ _ h in
    let rest : length (before ++ q ∷ []) + length qs ≤ 8 = are_few e (before ++ q ∷ []) qs others (omega (arith, long, room)) in
    omega (arith, rest, long)

-- one that stands among others has not what none of them has
pub eid_among : (x : ℕ) (front : List ReqPart) (q : ReqPart) (back : List ReqPart) → requester_has_eid x (front ++ q ∷ back) ≡ false → nat_eq q.eid.number x ≡ false
eid_among x [] q back h = (or_parts (nat_eq q.eid.number x) (requester_has_eid x back) h).0
eid_among x (y ∷ front) q back h = eid_among x front q back (or_parts (nat_eq y.eid.number x) (requester_has_eid x (front ++ q ∷ back)) h).1

pub psk_among : (psk : List ℕ) (front : List ReqPart) (q : ReqPart) (back : List ReqPart) → has_psk psk (front ++ q ∷ back) ≡ false → bytes_eq q.psk psk ≡ false
psk_among psk [] q back h = (or_parts (bytes_eq q.psk psk) (has_psk psk back) h).0
psk_among psk (y ∷ front) q back h = psk_among psk front q back (or_parts (bytes_eq y.psk psk) (has_psk psk (front ++ q ∷ back)) h).1

pub differ : (xs ys : List ℕ) → bytes_eq xs ys ≡ false → xs ≢ ys
differ xs ys fails same = false≢true (sym fails ∙ (bytes_eq-Decides xs ys).1 same)

abbrev IsOther : ReqSetup → ReqSetup → Type 0
IsOther q other = (q.eid ≢ other.eid) × (q.psk ≢ other.psk)

others_differ : (e : ℕ) (front : List ReqPart) (q : ReqPart) (back qs : List ReqPart) → are_sound_requesters e (front ++ q ∷ back) qs ≡ true →
    AllByRecursion (IsOther (requester_in e q)) (map (requester_in e) qs)
others_differ e front q back [] h = tt
others_differ e front q back (x ∷ qs) h =
    let fine = is_fine e (front ++ q ∷ back) x (and_first _ _ h) in
    let rest : are_sound_requesters e ((front ++ q ∷ back) ++ x ∷ []) qs ≡ true = and_second _ _ h in (
      (eqb-false q.eid.number x.eid.number (eid_among x.eid.number front q back fine.new_eid), differ q.psk x.psk (psk_among x.psk front q back fine.new_psk)),
      others_differ e front q (back ++ x ∷ []) qs (rw (append_assoc front (q ∷ back) (x ∷ [])) at rest),
    )

are_apart : (e : ℕ) (before qs : List ReqPart) → are_sound_requesters e before qs ≡ true → AreApart (map (requester_in e) qs)
are_apart e before [] h = tt
are_apart e before (q ∷ qs) h = (
  All-from_recursion (IsOther (requester_in e q)) (map (requester_in e) qs) (others_differ e before q [] qs (and_second _ _ h)),
  are_apart e (before ++ q ∷ []) qs (and_second _ _ h),
)

-- ---- Measurements.

record IsFineBlock (before : List BlockSpec) (b : BlockSpec) : Type 0 where
  low : 1 ≤ b.index
  high : b.index ≤ 254
  new : has_block b.index before ≡ false
  room : sizes_of before + block_size b ≤ 4054

is_fine_block : (before : List BlockSpec) (b : BlockSpec) → (is_sound_block b && not (has_block b.index before) && nat_le (sizes_of before + block_size b) 4054) ≡ true → IsFineBlock before b
is_fine_block before b h =
    let a = and_first _ _ h in
    let index = and_first _ _ (and_first _ _ (and_first _ _ a)) in
    record {
      low = leb-true 1 b.index (and_first _ _ index);
      high = leb-true b.index 254 (and_second _ _ index);
      new = not-true _ (and_second _ _ a);
      room = leb-true (sizes_of before + block_size b) 4054 (and_second _ _ h);
    }

in_range : (before blocks : List BlockSpec) → are_sound_blocks before blocks ≡ true → has_bad_index blocks ≡ false
in_range before [] h = refl
in_range before (b ∷ blocks) h =
    let fine = is_fine_block before b (and_first _ _ h) in
    let low = fine.low in
    let some : nat_eq b.index 0 ≡ false = ne_eqb b.index 0 (λ none. omega (arith, low, none)) in
    let rest : are_sound_blocks (before ++ b ∷ []) blocks ≡ true = and_second _ _ h in
    rw (some, lt_false 254 b.index fine.high) (in_range (before ++ b ∷ []) blocks rest)

-- one that stands among others has another index
block_among : (x : ℕ) (front : List BlockSpec) (b : BlockSpec) (back : List BlockSpec) → has_block x (front ++ b ∷ back) ≡ false → nat_eq b.index x ≡ false
block_among x [] b back h = (or_parts (nat_eq b.index x) (has_block x back) h).0
block_among x (y ∷ front) b back h = block_among x front b back (or_parts (nat_eq y.index x) (has_block x (front ++ b ∷ back)) h).1

index_once : (front : List BlockSpec) (b : BlockSpec) (back blocks : List BlockSpec) → are_sound_blocks (front ++ b ∷ back) blocks ≡ true → has_index b.index blocks ≡ false
index_once front b back [] h = refl
index_once front b back (x ∷ blocks) h =
    let fine = is_fine_block (front ++ b ∷ back) x (and_first _ _ h) in
    let rest : are_sound_blocks ((front ++ b ∷ back) ++ x ∷ []) blocks ≡ true = and_second _ _ h in
    let other : nat_eq x.index b.index ≡ false = ne_eqb x.index b.index (λ same. eqb-false b.index x.index (block_among x.index front b back fine.new) (sym same)) in
    rw (other, index_once front b (back ++ x ∷ []) blocks (rw (append_assoc front (b ∷ back) (x ∷ [])) at rest)) refl

none_twice : (before blocks : List BlockSpec) → are_sound_blocks before blocks ≡ true → has_twice blocks ≡ false
none_twice before [] h = refl
none_twice before (b ∷ blocks) h =
    let rest : are_sound_blocks (before ++ b ∷ []) blocks ≡ true = and_second _ _ h in
    rw (index_once before b [] blocks rest, none_twice (before ++ b ∷ []) blocks rest) refl

room_for : (before blocks : List BlockSpec) → are_sound_blocks before blocks ≡ true → sizes_of before ≤ 4054 → sizes_of before + record_len blocks ≤ 4054
room_for before [] h few = omega (arith, few)
room_for before (b ∷ blocks) h few =
    let fine = is_fine_block before b (and_first _ _ h) in
    let room = fine.room in
    let more : sizes_of (before ++ b ∷ []) ≡ sizes_of before + sizes_of (b ∷ []) = sum_by-append block_size before (b ∷ []) in
    let one : sizes_of (b ∷ []) ≡ block_size b = omega arith in
    let others : are_sound_blocks (before ++ b ∷ []) blocks ≡ true = and_second _ _ h in
    let rest : sizes_of (before ++ b ∷ []) + record_len blocks ≤ 4054 = room_for (before ++ b ∷ []) blocks others (omega (arith, more, one, room)) in
    omega (arith, rest, more, one)

pub no_fault : (blocks : List BlockSpec) → are_sound_blocks [] blocks ≡ true → inventory_fault blocks ≡ None
no_fault blocks h =
    let room = room_for [] blocks h (omega arith) in
    let few : nat_lt 4054 (record_len blocks) ≡ false = lt_false 4054 (record_len blocks) (omega (arith, room)) in
    rw (in_range [] blocks h, none_twice [] blocks h, few) refl

-- ---- The responder, and all of it.

towards_one : (c : ScriptConfig) → IsSoundConfig c → (q : ReqPart) → is_sound_requester q ≡ true → IsResponder (towards (responder_in c) (known_of (requester_in c.responder.eid.number q)))
towards_one c sound q fine =
    let r = c.responder in
    let end = and_first _ _ sound.responder in
    let opaque = and_second _ _ sound.responder in
    let beat = own_fits 255 r.transfer r.max r.unit r.beat r.flags end in
    let a = and_first _ _ fine in
    record {
      eid = is_eid r.eid;
      peer = is_eid q.eid;
      sizes = has_sizes 255 r.transfer r.max r.unit r.beat r.flags end;
      beat = omega (arith, beat);
      key = has_key q.hint q.psk (and_second _ _ (and_first _ _ a)) (and_second _ _ a);
      opaque = at_most r.opaque 0 1024 opaque;
      opaque_bytes = all_bytes r.opaque 0 1024 opaque;
      blocks = no_fault c.blocks sound.blocks;
    }

abbrev IsTowards : ScriptConfig → Known → Type 0
IsTowards c known = IsResponder (towards (responder_in c) known)

towards_all : (c : ScriptConfig) → IsSoundConfig c → (before qs : List ReqPart) → are_sound_requesters c.responder.eid.number before qs ≡ true →
    AllByRecursion (IsTowards c) (map known_of (map (requester_in c.responder.eid.number) qs))
towards_all c sound before [] h = tt
towards_all c sound before (q ∷ qs) h =
    let fine = is_fine c.responder.eid.number before q (and_first _ _ h) in
    (towards_one c sound q fine.sound, towards_all c sound (before ++ q ∷ []) qs (and_second _ _ h))

abbrev IsPeer : ℕ → ReqSetup → Type 0
IsPeer e q = q.responder ≡ e

all_peers : (e : ℕ) (qs : List ReqPart) → AllByRecursion (IsPeer e) (map (requester_in e) qs)
all_peers e [] = tt
all_peers e (q ∷ qs) = (refl, all_peers e qs)

pub is_configuration : (c : ScriptConfig) → IsSoundConfig c → IsConfiguration (configuration_in c)
is_configuration c sound =
    let e = c.responder.eid.number in
    let qs = map (requester_in e) c.requesters in
    let few = are_few e [] c.requesters sound.requesters (omega arith) in
    let count = length-map c.requesters (requester_in e) in
    record {
      count = omega (arith, few, count);
      requesters = All-from_recursion IsRequester qs (are_requesters c.responder.eid [] c.requesters sound.requesters);
      responders = All-from_recursion (IsTowards c) (map known_of qs) (towards_all c sound [] c.requesters sound.requesters);
      peers = All-from_recursion (IsPeer e) qs (all_peers e c.requesters);
      apart = are_apart e [] c.requesters sound.requesters;
    }
