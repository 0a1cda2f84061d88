-- What the lines of a configuration said so far is in range, and stays so with each line without a fault.
use Rattle.std.proofs.Common.{◌≡◌, ◌∙◌, ◌+◌, ◌==◌, ◌||◌, ◌&&◌, ◌++◌, ℕ, zero, suc, List, [], ◌∷◌, length, map, refl, sym, ap, Bool, true, false, nat_lt, nat_eq, arith, append_assoc, Option, Some, None}
use Rattle.std.specs.Prelude.{nat_le, not, is_none, bytes_eq}
use Rattle.std.proofs.lemmas.Bool.{not-false, not-true, ltb-false, leb-false, le-leb, lt-ltb, eqb-false, ne_eqb, or_parts, false≢true}
use Rattle.std.proofs.lemmas.List.{append-nil, map-append, length-map}
use Rattle.spdm_basis.proofs.Bools.{and_first, and_second}
use Rattle.spdm_grammar.specs.declared.told.block_spec.BlockSpec.{BlockSpec}
use Rattle.spdm_grammar.specs.declared.messages.choice.Suites.{Suites}
use Rattle.spdm_grammar.specs.declared.names.TheConstants.{MIN_DATA_TRANSFER_SIZE, MAX_MESSAGE_SIZE}
use Rattle.script_text.specs.Choices.{flags_of, is_flags, small_suites}
use Rattle.script_text.specs.Configuring.{config_fault, after_config, nothing_given, seed_fault, after_seed, opaque_fault, after_opaque, has_block, block_of, block_fault, after_block, has_numbers, has_flags, numbers_of, responder_has_eid, requester_has_eid, has_psk, responder_fault, after_responder, requester_fault, requester_of, after_requester, suite_fault, after_suite, after_suite_of, suite_end, suites_in, with_suites, end_fault, after_end}
use Rattle.script_text.specs.HexWords.{bytes_of, is_hex_in, most_bytes}
use Rattle.script_text.specs.Lines.{has_words, word}
use Rattle.script_text.specs.Measured.{block_size, sizes_of}
use Rattle.script_text.specs.Numbers.{is_number_in, value_of}
use Rattle.script_text.specs.Sound.{are_bytes_in, are_sound_blocks, are_sound_requesters, fits_word, is_sound_block, is_sound_end, is_sound_requester, is_within}
use Rattle.script_text.specs.declared.configuration.config.ReqPart.{ReqPart}
use Rattle.script_text.specs.declared.configuration.config_kind.ConfigKind.{ConfigKind}
use Rattle.script_text.specs.declared.configuration.config_kind.ConfigKind.TheVariants as kind
use Rattle.script_text.specs.declared.texts.faults.LineFault.TheVariants.{Incomplete, Order, Words}
use Rattle.script_text.specs.declared.configuration.partial_config.PartialConfig.{PartialConfig}
use Rattle.script_text.specs.declared.configuration.partial_config.RspLine.{RspLine}
use Rattle.spdm_basis.proofs.Options.{both}
use Rattle.script_laws.proofs.Words.{within, fits, bytes_in}
use Rattle.spdm_agreement.proofs.Responder.Exchange.{both_hold}

-- What is there has this property.
abbrev pub of_some : {A : Type 0} → (A → Bool) → Option A → Bool
of_some p None = true
of_some p (Some a) = p a

abbrev pub is_sound_line : RspLine → Bool
is_sound_line r = is_sound_end 255 r.transfer r.max r.unit r.beat r.flags

-- No requester has the endpoint of the responder.
abbrev pub is_apart : List ReqPart → RspLine → Bool
is_apart requesters r = not (requester_has_eid r.eid.number requesters)

-- Nothing is missing; a seed only where one is needed.
pub record IsWhole (needs : Bool) (given : PartialConfig) : Type 0 where
  pub seed : (needs && is_none given.seed) ≡ false
  pub responder : is_none given.responder ≡ false
  pub some : nat_eq (length given.requesters) 0 ≡ false

-- No endpoint is 0, so that requesters are apart from that one wherever they are apart.
pub record IsRight (needs : Bool) (given : PartialConfig) : Type 0 where
  pub seed : of_some (are_bytes_in 32 32) given.seed ≡ true
  pub opaque : of_some (are_bytes_in 0 1024) given.opaque ≡ true
  pub responder : of_some is_sound_line given.responder ≡ true
  pub apart : of_some (is_apart given.requesters) given.responder ≡ true
  pub blocks : are_sound_blocks [] given.blocks ≡ true
  pub requesters : are_sound_requesters 0 [] given.requesters ≡ true
  pub whole : given.ended ≡ true → IsWhole needs given

pub nothing_right : (needs : Bool) → IsRight needs nothing_given
nothing_right needs = record {
  seed = refl;
  opaque = refl;
  responder = refl;
  apart = refl;
  blocks = refl;
  requesters = refl;
  whole = λ e. absurd (false≢true e);
}

is_not : {A : Type 0} (b : Bool) → b ≡ false → b ≡ true → A
is_not b fails holds = absurd (false≢true (sym fails ∙ holds))

-- ---- Seed and opaque data.

seed_kept : (needs : Bool) (given : PartialConfig) (line : List ℕ) → seed_fault given line ≡ None → IsRight needs given → IsRight needs (after_seed given line)
unfolding seed_fault after_seed
seed_kept needs given line h is =
    let a = both _ _ _ h in
    let b = both _ _ _ a.1 in
    let c = both _ _ _ b.1 in
    record {
      seed = bytes_in 32 32 (word 1 line) (not-false _ c.0);
      opaque = is.opaque;
      responder = is.responder;
      apart = is.apart;
      blocks = is.blocks;
      requesters = is.requesters;
      whole = λ e. is_not given.ended a.0 e;
    }

opaque_kept : (needs : Bool) (given : PartialConfig) (line : List ℕ) → opaque_fault given line ≡ None → IsRight needs given → IsRight needs (after_opaque given line)
unfolding opaque_fault after_opaque
opaque_kept needs given line h is =
    let a = both _ _ _ h in
    let b = both _ _ _ a.1 in
    let c = both _ _ _ b.1 in
    record {
      seed = is.seed;
      opaque = bytes_in 0 1024 (word 1 line) (not-false _ c.0);
      responder = is.responder;
      apart = is.apart;
      blocks = is.blocks;
      requesters = is.requesters;
      whole = λ e. is_not given.ended a.0 e;
    }

-- ---- Measurements.

abbrev block_fits : List BlockSpec → BlockSpec → Bool
block_fits before b = is_sound_block b && not (has_block b.index before) && nat_le (sizes_of before + block_size b) 4054

one_block_more : (before blocks : List BlockSpec) (b : BlockSpec) → are_sound_blocks before blocks ≡ true → block_fits (before ++ blocks) b ≡ true →
    are_sound_blocks before (blocks ++ b ∷ []) ≡ true
one_block_more before [] b h fit = both_hold (block_fits before b) true (rw append-nil at fit) refl
one_block_more before (x ∷ blocks) b h fit =
    both_hold (block_fits before x) (are_sound_blocks (before ++ x ∷ []) (blocks ++ b ∷ [])) (and_first _ _ h)
    (one_block_more (before ++ x ∷ []) blocks b (and_second _ _ h) (rw (append_assoc before (x ∷ []) blocks) fit))

-- what the tests of a block's line say
record IsNewBlock (given : PartialConfig) (line : List ℕ) : Type 0 where
  not_ended : given.ended ≡ false
  index : is_number_in 1 254 (word 1 line) ≡ true
  value_type : is_number_in 0 255 (word 2 line) ≡ true
  value : is_hex_in 0 most_bytes (word 4 line) ≡ true
  new : has_block (value_of (word 1 line)) given.blocks ≡ false
  room : nat_lt 4054 (sizes_of given.blocks + block_size (block_of line)) ≡ false

is_new_block : (given : PartialConfig) (line : List ℕ) → block_fault given line ≡ None → IsNewBlock given line
unfolding block_fault
is_new_block given line h =
    let a = both _ _ _ h in
    let b = both _ _ _ a.1 in
    let c = both _ _ _ b.1 in
    let d = both _ _ _ c.1 in
    let e = both _ _ _ d.1 in
    let f = both _ _ _ e.1 in
    let g = both _ _ _ f.1 in
    let i = both _ _ _ g.1 in
    record { not_ended = a.0; index = not-false _ c.0; value_type = not-false _ d.0; value = not-false _ f.0; new = g.0; room = i.0 }

block_sound : (given : PartialConfig) (line : List ℕ) → IsNewBlock given line → block_fits given.blocks (block_of line) ≡ true
unfolding block_of
block_sound given line is =
    let index = value_of (word 1 line) in
    let value_type = value_of (word 2 line) in
    let bytes = bytes_of (word 4 line) in
    let first = both_hold (is_within 1 254 index) (nat_le value_type 255) (within 1 254 (word 1 line) is.index) (and_second _ _ (within 0 255 (word 2 line) is.value_type)) in
    let sound = both_hold (is_within 1 254 index && nat_le value_type 255) (fits_word bytes) first (fits (word 4 line) is.value) in
    let new = both_hold (is_sound_block (block_of line)) (not (has_block index given.blocks)) sound (ap not is.new) in
    both_hold (is_sound_block (block_of line) && not (has_block index given.blocks)) (nat_le (sizes_of given.blocks + block_size (block_of line)) 4054) new
    (le-leb (sizes_of given.blocks + block_size (block_of line)) 4054 (ltb-false 4054 (sizes_of given.blocks + block_size (block_of line)) is.room))

block_kept : (needs : Bool) (given : PartialConfig) (line : List ℕ) → block_fault given line ≡ None → IsRight needs given → IsRight needs (after_block given line)
unfolding after_block
block_kept needs given line h is = let new = is_new_block given line h in record {
  seed = is.seed;
  opaque = is.opaque;
  responder = is.responder;
  apart = is.apart;
  blocks = one_block_more [] given.blocks (block_of line) is.blocks (block_sound given line new);
  requesters = is.requesters;
  whole = λ e. is_not given.ended new.not_ended e;
}

-- ---- The responder.

end_sound : (limit : ℕ) (line : List ℕ) → has_numbers limit line ≡ true → has_flags line ≡ true →
    is_sound_end limit (value_of (word 2 line)) (value_of (word 3 line)) (value_of (word 4 line)) (value_of (word 5 line)) (flags_of (word 6 line)) ≡ true
end_sound limit line numbers flags =
    let t = value_of (word 2 line) in
    let m = value_of (word 3 line) in
    let u = value_of (word 4 line) in
    let o = value_of (word 5 line) in
    let own_test = is_number_in 0 limit (word 5 line) in
    let unit_test = is_number_in 64 1024 (word 4 line) in
    let max_test = is_number_in t MAX_MESSAGE_SIZE (word 3 line) in
    let transfer_test = is_number_in MIN_DATA_TRANSFER_SIZE MAX_MESSAGE_SIZE (word 2 line) in
    let eid_test = is_number_in 8 254 (word 1 line) in
    let own = within 0 limit (word 5 line) (and_second (eid_test && transfer_test && max_test && unit_test) own_test numbers) in
    let a = and_first (eid_test && transfer_test && max_test && unit_test) own_test numbers in
    let unit = within 64 1024 (word 4 line) (and_second (eid_test && transfer_test && max_test) unit_test a) in
    let b = and_first (eid_test && transfer_test && max_test) unit_test a in
    let max = within t MAX_MESSAGE_SIZE (word 3 line) (and_second (eid_test && transfer_test) max_test b) in
    let transfer = within MIN_DATA_TRANSFER_SIZE MAX_MESSAGE_SIZE (word 2 line) (and_second eid_test transfer_test (and_first (eid_test && transfer_test) max_test b)) in
    let wide = (flags_of (word 6 line)).chunk || nat_le m t in
    let t_is = is_within MIN_DATA_TRANSFER_SIZE MAX_MESSAGE_SIZE t in
    let m_is = is_within t MAX_MESSAGE_SIZE m in
    let u_is = is_within 64 1024 u in
    both_hold (t_is && m_is && u_is && nat_le o limit) wide
    (both_hold (t_is && m_is && u_is) (nat_le o limit) (both_hold (t_is && m_is) u_is (both_hold t_is m_is transfer max) unit) (and_second (nat_le 0 o) (nat_le o limit) own))
    (and_second (is_flags (word 6 line)) wide flags)

responder_kept : (needs : Bool) (given : PartialConfig) (line : List ℕ) → responder_fault given line ≡ None → IsRight needs given → IsRight needs (after_responder given line)
unfolding responder_fault after_responder
responder_kept needs given line h is =
    let a = both _ _ _ h in
    let b = both _ _ _ a.1 in
    let c = both _ _ _ b.1 in
    let d = both _ _ _ c.1 in
    let e = both _ _ _ d.1 in
    let f = both _ _ _ e.1 in
    record {
      seed = is.seed;
      opaque = is.opaque;
      responder = end_sound 255 line (not-false _ c.0) (not-false _ d.0);
      apart = ap not (or_parts (responder_has_eid (numbers_of line).eid.number given.responder) (requester_has_eid (numbers_of line).eid.number given.requesters) f.0).1;
      blocks = is.blocks;
      requesters = is.requesters;
      whole = λ e. is_not given.ended a.0 e;
    }

-- ---- Requesters.

abbrev pub requester_fits : ℕ → List ReqPart → ReqPart → Bool
requester_fits e before q =
    is_sound_requester q
    && nat_lt (length before) 8
    && not (e == q.eid.number || requester_has_eid q.eid.number before)
    && not (has_psk q.psk before)

one_requester_more : (e : ℕ) (before requesters : List ReqPart) (q : ReqPart) → are_sound_requesters e before requesters ≡ true → requester_fits e (before ++ requesters) q ≡ true →
    are_sound_requesters e before (requesters ++ q ∷ []) ≡ true
one_requester_more e before [] q h fit = both_hold (requester_fits e before q) true (rw append-nil at fit) refl
one_requester_more e before (x ∷ requesters) q h fit =
    both_hold (requester_fits e before x) (are_sound_requesters e (before ++ x ∷ []) (requesters ++ q ∷ [])) (and_first _ _ h)
    (one_requester_more e (before ++ x ∷ []) requesters q (and_second _ _ h) (rw (append_assoc before (x ∷ []) requesters) fit))

pub other_way : (a b : ℕ) → nat_eq a b ≡ false → nat_eq b a ≡ false
other_way a b h = ne_eqb b a (λ e. eqb-false a b h (sym e))

none_more : (e : ℕ) (qs : List ReqPart) (q : ReqPart) → requester_has_eid e qs ≡ false → nat_eq q.eid.number e ≡ false → requester_has_eid e (qs ++ q ∷ []) ≡ false
none_more e [] q h fails = rw fails refl
none_more e (x ∷ qs) q h fails = let p = or_parts (nat_eq x.eid.number e) (requester_has_eid e qs) h in rw (p.0, none_more e qs q p.1 fails) refl

apart_more : (r : Option RspLine) (qs : List ReqPart) (q : ReqPart) → of_some (is_apart qs) r ≡ true → responder_has_eid q.eid.number r ≡ false → of_some (is_apart (qs ++ q ∷ [])) r ≡ true
apart_more None qs q h fails = refl
apart_more (Some r) qs q h fails = ap not (none_more r.eid.number qs q (not-true _ h) (other_way r.eid.number q.eid.number fails))

not_zero : (q : ReqPart) → nat_eq 0 q.eid.number ≡ false
not_zero q = ne_eqb 0 q.eid.number (let low = q.eid.low in omega (arith, low))

-- what the tests of a requester's line say
record IsNew (given : PartialConfig) (line : List ℕ) : Type 0 where
  not_ended : given.ended ≡ false
  numbers : has_numbers 16 line ≡ true
  flags : has_flags line ≡ true
  hint : is_hex_in 0 64 (word 7 line) ≡ true
  psk : is_hex_in 1 64 (word 8 line) ≡ true
  opaque : is_hex_in 0 1024 (word 9 line) ≡ true
  few : nat_le 8 (length given.requesters) ≡ false
  responder_eid : responder_has_eid (numbers_of line).eid.number given.responder ≡ false
  new_eid : requester_has_eid (numbers_of line).eid.number given.requesters ≡ false
  new_psk : has_psk (bytes_of (word 8 line)) given.requesters ≡ false

is_new : (given : PartialConfig) (line : List ℕ) → requester_fault given line ≡ None → IsNew given line
unfolding requester_fault
is_new given line h =
    let a = both _ _ _ h in
    let b = both _ _ _ a.1 in
    let c = both _ _ _ b.1 in
    let d = both _ _ _ c.1 in
    let e = both _ _ _ d.1 in
    let f = both _ _ _ e.1 in
    let g = both _ _ _ f.1 in
    let i = both _ _ _ g.1 in
    let j = both _ _ _ i.1 in
    let k = both _ _ _ j.1 in
    let eids = or_parts (responder_has_eid (numbers_of line).eid.number given.responder) (requester_has_eid (numbers_of line).eid.number given.requesters) j.0 in
    record {
      not_ended = a.0;
      numbers = not-false _ c.0;
      hint = not-false _ d.0;
      psk = not-false _ e.0;
      opaque = not-false _ f.0;
      flags = not-false _ g.0;
      few = i.0;
      responder_eid = eids.0;
      new_eid = eids.1;
      new_psk = k.0;
    }

requester_fits_line : (given : PartialConfig) (line : List ℕ) → IsNew given line → requester_fits 0 given.requesters (requester_of line) ≡ true
unfolding requester_of
requester_fits_line given line new =
    let end = end_sound 16 line new.numbers new.flags in
    let hint = bytes_in 0 64 (word 7 line) new.hint in
    let psk = bytes_in 1 64 (word 8 line) new.psk in
    let opaque = bytes_in 0 1024 (word 9 line) new.opaque in
    let room : nat_lt (length given.requesters) 8 ≡ true = lt-ltb (length given.requesters) 8 (leb-false 8 (length given.requesters) new.few) in
    rw (end, hint, psk, opaque, room, not_zero (requester_of line), new.new_eid, new.new_psk) refl

requester_eid : (line : List ℕ) → (requester_of line).eid ≡ (numbers_of line).eid
unfolding requester_of
requester_eid line = refl

requester_kept : (needs : Bool) (given : PartialConfig) (line : List ℕ) → requester_fault given line ≡ None → IsRight needs given → IsRight needs (after_requester given line)
unfolding after_requester
requester_kept needs given line h is =
    let new = is_new given line h in
    let q = requester_of line in
    let other : responder_has_eid q.eid.number given.responder ≡ false = rw (requester_eid line) new.responder_eid in
    record {
      seed = is.seed;
      opaque = is.opaque;
      responder = is.responder;
      apart = apart_more given.responder given.requesters q is.apart other;
      blocks = is.blocks;
      requesters = one_requester_more 0 [] given.requesters q is.requesters (requester_fits_line given line new);
      whole = λ e. is_not given.ended new.not_ended e;
    }

-- ---- Algorithms.

-- a requester with the smaller algorithms
abbrev small : ReqPart → ReqPart
small q = record q { suites = small_suites }

any_small : (e : ℕ) (qs : List ReqPart) → requester_has_eid e (map small qs) ≡ requester_has_eid e qs
any_small e [] = refl
any_small e (q ∷ qs) = ap (λ b. nat_eq q.eid.number e || b) (any_small e qs)

psk_small : (psk : List ℕ) (qs : List ReqPart) → has_psk psk (map small qs) ≡ has_psk psk qs
psk_small psk [] = refl
psk_small psk (q ∷ qs) = ap (λ b. bytes_eq q.psk psk || b) (psk_small psk qs)

all_small : (e : ℕ) (before qs : List ReqPart) → are_sound_requesters e (map small before) (map small qs) ≡ are_sound_requesters e before qs
all_small e before [] = refl
all_small e before (q ∷ qs) =
    let behind : are_sound_requesters e (map small before ++ small q ∷ []) (map small qs) ≡ are_sound_requesters e (before ++ q ∷ []) qs =
    ap (λ front. are_sound_requesters e front (map small qs)) (sym (map-append small before (q ∷ []))) ∙ all_small e (before ++ q ∷ []) qs in
    rw (length-map before small, any_small q.eid.number before, psk_small q.psk before, behind) refl

small_with : (n : ℕ) (suites : Suites) (qs : List ReqPart) → map small (with_suites n suites qs) ≡ map small qs
small_with n suites [] = refl
small_with zero suites (q ∷ qs) = refl
small_with (suc n) suites (q ∷ qs) = ap (λ others. small q ∷ others) (small_with n suites qs)

any_with : (e n : ℕ) (suites : Suites) (qs : List ReqPart) → requester_has_eid e (with_suites n suites qs) ≡ requester_has_eid e qs
any_with e n suites qs = sym (any_small e (with_suites n suites qs)) ∙ ap (requester_has_eid e) (small_with n suites qs) ∙ any_small e qs

apart_with : (r : Option RspLine) (n : ℕ) (suites : Suites) (qs : List ReqPart) → of_some (is_apart qs) r ≡ true → of_some (is_apart (with_suites n suites qs)) r ≡ true
apart_with None n suites qs h = refl
apart_with (Some r) n suites qs h = rw (any_with r.eid.number n suites qs) h

suite_open : (given : PartialConfig) (line : List ℕ) → suite_fault given line ≡ None → given.ended ≡ false
unfolding suite_fault
suite_open given line h = let a = both _ _ _ h in (both _ _ _ a.1).0

suite_kept_of : (needs : Bool) (end : ℕ) (suites : Suites) (given : PartialConfig) → given.ended ≡ false → IsRight needs given → IsRight needs (after_suite_of end suites given)
suite_kept_of needs zero suites given open_ is = record {
  seed = is.seed;
  opaque = is.opaque;
  responder = is.responder;
  apart = is.apart;
  blocks = is.blocks;
  requesters = is.requesters;
  whole = λ e. is_not given.ended open_ e;
}
suite_kept_of needs (suc n) suites given open_ is = record {
  seed = is.seed;
  opaque = is.opaque;
  responder = is.responder;
  apart = apart_with given.responder n suites given.requesters is.apart;
  blocks = is.blocks;
  requesters =
      sym (all_small 0 [] (with_suites n suites given.requesters))
      ∙ ap (are_sound_requesters 0 []) (small_with n suites given.requesters)
      ∙ all_small 0 [] given.requesters
      ∙ is.requesters;
  whole = λ e. is_not given.ended open_ e;
}

suite_kept : (needs : Bool) (given : PartialConfig) (line : List ℕ) → suite_fault given line ≡ None → IsRight needs given → IsRight needs (after_suite given line)
unfolding after_suite
suite_kept needs given line h is = suite_kept_of needs (suite_end line) (suites_in line) given (suite_open given line h) is

-- ---- The end.

end_kept : (needs : Bool) (given : PartialConfig) (line : List ℕ) → end_fault needs given line ≡ None → IsRight needs given → IsRight needs (after_end given)
unfolding end_fault after_end
end_kept needs given line h is =
    let missing = is_none given.responder || nat_eq (length given.requesters) 0 || needs && is_none given.seed in
    let a = both given.ended Order _ h in
    let b = both (not (has_words 1 line)) Words _ a.1 in
    let c = both missing Incomplete None b.1 in
    let d = or_parts (is_none given.responder || nat_eq (length given.requesters) 0) (needs && is_none given.seed) c.0 in
    let e = or_parts (is_none given.responder) (nat_eq (length given.requesters) 0) d.0 in
    record {
      seed = is.seed;
      opaque = is.opaque;
      responder = is.responder;
      apart = is.apart;
      blocks = is.blocks;
      requesters = is.requesters;
      whole = λ ended. record { seed = d.1; responder = e.0; some = e.1 };
    }

-- ---- A line of any kind.

pub config_open : (needs : Bool) (given : PartialConfig) (k : ConfigKind) (line : List ℕ) → config_fault needs given k line ≡ None → given.ended ≡ false
unfolding seed_fault responder_fault opaque_fault block_fault requester_fault end_fault
config_open needs given kind.Seed line h = (both _ _ _ h).0
config_open needs given kind.Responder line h = (both _ _ _ h).0
config_open needs given kind.Opaque line h = (both _ _ _ h).0
config_open needs given kind.Block line h = (both _ _ _ h).0
config_open needs given kind.Requester line h = (both _ _ _ h).0
config_open needs given kind.Suite line h = suite_open given line h
config_open needs given kind.End line h = (both _ _ _ h).0

pub config_kept : (needs : Bool) (given : PartialConfig) (k : ConfigKind) (line : List ℕ) → config_fault needs given k line ≡ None → IsRight needs given → IsRight needs (after_config given k line)
config_kept needs given kind.Seed line h is = seed_kept needs given line h is
config_kept needs given kind.Responder line h is = responder_kept needs given line h is
config_kept needs given kind.Opaque line h is = opaque_kept needs given line h is
config_kept needs given kind.Block line h is = block_kept needs given line h is
config_kept needs given kind.Requester line h is = requester_kept needs given line h is
config_kept needs given kind.Suite line h is = suite_kept needs given line h is
config_kept needs given kind.End line h is = end_kept needs given line h is
