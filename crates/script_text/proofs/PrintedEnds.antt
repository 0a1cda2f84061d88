-- The printed lines of ends and of their algorithms are read back as they were.
use Rattle.std.proofs.Common.{◌≡◌, ℕ, suc, ◌+◌, ◌<◌, ◌≤◌, ◌++◌, List, [], ◌∷◌, length, refl, sym, ap, true, false, ◌&&◌, ◌||◌, nat_eq, nat_lt, arith, Some, None}
use Rattle.std.specs.Prelude.{nat_le, codes}
use Rattle.std.specs.Fmt.{decimal}
use Rattle.std.proofs.lemmas.Bool.{and_parts}
use Rattle.std.proofs.lemmas.Bool.Decides.{nat_tests}
use Rattle.spdm_basis.specs.declared.values.eid.Eid.{Eid}
use Rattle.spdm_grammar.specs.declared.messages.choice.FlagSet.{FlagSet}
use Rattle.spdm_grammar.specs.declared.names.TheConstants.{MIN_DATA_TRANSFER_SIZE, MAX_MESSAGE_SIZE}
use Rattle.script_text.specs.Configuring.{config_kind, responder_fault, after_responder}
use Rattle.script_text.specs.EndPoints.{eid_of}
use Rattle.script_text.specs.Lines.{words_of}
use Rattle.script_text.specs.Printing.{responder_words}
use Rattle.script_text.specs.Sound.{is_within, are_bytes_in, is_sound_end}
use Rattle.trace_text.specs.Spelling.{hex_word}
use Rattle.script_text.specs.declared.configuration.config_kind.ConfigKind.TheVariants as kind
use Rattle.script_text.specs.declared.configuration.config.ReqPart.{ReqPart}
use Rattle.script_text.specs.declared.configuration.config.RspPart.{RspPart}
use Rattle.script_text.specs.declared.configuration.partial_config.PartialConfig.{PartialConfig}
use Rattle.script_text.specs.declared.configuration.partial_config.RspLine.{RspLine}
use Rattle.trace_text.proofs.Decimals.{decimal_short}
use Rattle.script_text.proofs.EndPointLemmas.{eid_is}
use Rattle.script_text.proofs.PlainWords.{plain_decimal, plain_hex}
use Rattle.script_text.proofs.PrintedChoices.{flags_are}
use Rattle.std.specs.Prelude.{slice_set, slice_index_or}
use Rattle.spdm_grammar.specs.declared.messages.choice.Suites.{Suites}
use Rattle.script_text.specs.Choices.{end_in, small_suites, requester_in}
use Rattle.script_text.specs.Configuring.{requester_fault, after_requester, requester_of, requester_has_eid, has_psk, suite_fault, after_suite, with_suites}
use Rattle.script_text.specs.Printing.{flags_word, requester_words, suite_words, hash_word, aead_word}
use Rattle.script_text.specs.Sound.{is_sound_requester}
use Rattle.trace_text.specs.Spelling.{requester_word}
use Rattle.std.proofs.lemmas.Fmt.{decimal_digit}
use Rattle.script_text.proofs.PrintedChoices.{IsFlagsWord, hash_in-word, aead_in-word, plain_hash, plain_aead, short_hash, short_aead}
use Rattle.script_text.proofs.PrintedConfig.{IsTaken, IsNumberWord, IsBytesWord, number_is, bytes_are, plain_number}

-- the numbers and capabilities of an end in range
record IsEndParts (limit eid transfer max unit own : ℕ) (flags : FlagSet) : Type 0 where
  eid_is : IsNumberWord 8 254 eid
  transfer_is : IsNumberWord MIN_DATA_TRANSFER_SIZE MAX_MESSAGE_SIZE transfer
  max_is : IsNumberWord transfer MAX_MESSAGE_SIZE max
  unit_is : IsNumberWord 64 1024 unit
  own_is : IsNumberWord 0 limit own
  flags_is : IsFlagsWord flags
  fits : (flags.chunk || nat_le max transfer) ≡ true

end_parts : (limit : ℕ) (eid : Eid) (transfer max unit own : ℕ) (flags : FlagSet) → limit ≤ 255 → is_sound_end limit transfer max unit own flags ≡ true → IsEndParts limit eid.number transfer max unit own flags
end_parts limit eid transfer max unit own flags few sound =
    let a = and_parts (is_within MIN_DATA_TRANSFER_SIZE MAX_MESSAGE_SIZE transfer && is_within transfer MAX_MESSAGE_SIZE max && is_within 64 1024 unit && nat_le own limit) (flags.chunk || nat_le max transfer) sound in
    let b = and_parts (is_within MIN_DATA_TRANSFER_SIZE MAX_MESSAGE_SIZE transfer && is_within transfer MAX_MESSAGE_SIZE max && is_within 64 1024 unit) (nat_le own limit) a.0 in
    let c = and_parts (is_within MIN_DATA_TRANSFER_SIZE MAX_MESSAGE_SIZE transfer && is_within transfer MAX_MESSAGE_SIZE max) (is_within 64 1024 unit) b.0 in
    let d = and_parts (is_within MIN_DATA_TRANSFER_SIZE MAX_MESSAGE_SIZE transfer) (is_within transfer MAX_MESSAGE_SIZE max) c.0 in
    let t = and_parts (nat_le MIN_DATA_TRANSFER_SIZE transfer) (nat_le transfer MAX_MESSAGE_SIZE) d.0 in
    let m = and_parts (nat_le transfer max) (nat_le max MAX_MESSAGE_SIZE) d.1 in
    let u = and_parts (nat_le 64 unit) (nat_le unit 1024) c.1 in
    let t0 : MIN_DATA_TRANSFER_SIZE ≤ transfer = grind (arith, nat_tests, t.0) in
    let t1 : transfer ≤ MAX_MESSAGE_SIZE = grind (arith, nat_tests, t.1) in
    let m0 : transfer ≤ max = grind (arith, nat_tests, m.0) in
    let m1 : max ≤ MAX_MESSAGE_SIZE = grind (arith, nat_tests, m.1) in
    let u0 : 64 ≤ unit = grind (arith, nat_tests, u.0) in
    let u1 : unit ≤ 1024 = grind (arith, nat_tests, u.1) in
    let o1 : own ≤ limit = grind (arith, nat_tests, b.1) in
    record {
      eid_is = number_is 8 254 eid.number eid.low (omega (arith, eid.high)) (omega arith);
      transfer_is = number_is MIN_DATA_TRANSFER_SIZE MAX_MESSAGE_SIZE transfer t0 t1 (omega arith);
      max_is = number_is transfer MAX_MESSAGE_SIZE max m0 m1 (omega arith);
      unit_is = number_is 64 1024 unit u0 u1 (omega arith);
      own_is = number_is 0 limit own (omega arith) o1 (omega arith);
      flags_is = flags_are flags;
      fits = a.1;
    }

same_eid : (eid : Eid) → eid_of eid.number ≡ eid
same_eid eid = sym (eid_is eid eid.number refl eid.low (omega (arith, eid.high)))

-- ---- `responder`

-- what the line of a responder says
abbrev pub line_of_responder : RspPart → RspLine
line_of_responder r = record { eid = r.eid; transfer = r.transfer; max = r.max; unit = r.unit; beat = r.beat; flags = r.flags }

pub responder_taken : (given : PartialConfig) (r : RspPart) → given.ended ≡ false → given.responder ≡ None → given.requesters ≡ [] → is_sound_end 255 r.transfer r.max r.unit r.beat r.flags ≡ true →
    IsTaken given (responder_words r) (record given { responder = Some (line_of_responder r) })
unfolding config_kind responder_fault after_responder
responder_taken given r open_ none alone sound =
    let p = end_parts 255 r.eid r.transfer r.max r.unit r.beat r.flags (omega arith) sound in
    record {
      plain = rw (plain_number p.eid_is, plain_number p.transfer_is, plain_number p.max_is, plain_number p.unit_is, plain_number p.own_is, p.flags_is.plain) refl;
      first = 114;
      rest = 101 ∷ 115 ∷ 112 ∷ 111 ∷ 110 ∷ 100 ∷ 101 ∷ 114 ∷ [];
      others = decimal r.eid.number ∷ decimal r.transfer ∷ decimal r.max ∷ decimal r.unit ∷ decimal r.beat ∷ flags_word r.flags ∷ [];
      begins = refl;
      no_comment = refl;
      short = omega (arith, p.eid_is.short, p.transfer_is.short, p.max_is.short, p.unit_is.short, p.own_is.short, p.flags_is.short);
      kind = kind.Responder;
      is_kind = refl;
      good = λ line words. rw (open_, none, alone, words, p.eid_is.good, p.transfer_is.good, p.transfer_is.value, p.max_is.good, p.max_is.value, p.unit_is.good, p.own_is.good, p.flags_is.good, p.flags_is.value, p.fits) refl;
      leads = λ line words. rw (words, p.eid_is.value, p.transfer_is.value, p.max_is.value, p.unit_is.value, p.own_is.value, p.flags_is.value, same_eid r.eid) refl;
    }

-- ---- `requester`

-- a requester with the algorithms that it has without a line of its own
abbrev pub small : ReqPart → ReqPart
small q = record q { suites = small_suites }

record IsRequesterParts (q : ReqPart) : Type 0 where
  end_is : IsEndParts 16 q.eid.number q.transfer q.max q.unit q.pad q.flags
  hint_is : IsBytesWord 0 64 q.hint
  psk_is : IsBytesWord 1 64 q.psk
  opaque_is : IsBytesWord 0 1024 q.opaque

requester_parts : (q : ReqPart) → is_sound_requester q ≡ true → IsRequesterParts q
requester_parts q sound =
    let e = is_sound_end 16 q.transfer q.max q.unit q.pad q.flags in
    let a = and_parts (e && are_bytes_in 0 64 q.hint && are_bytes_in 1 64 q.psk) (are_bytes_in 0 1024 q.opaque) sound in
    let b = and_parts (e && are_bytes_in 0 64 q.hint) (are_bytes_in 1 64 q.psk) a.0 in
    let c = and_parts e (are_bytes_in 0 64 q.hint) b.0 in
    record {
      end_is = end_parts 16 q.eid q.transfer q.max q.unit q.pad q.flags (omega arith) c.0;
      hint_is = bytes_are 0 64 q.hint c.1;
      psk_is = bytes_are 1 64 q.psk b.1;
      opaque_is = bytes_are 0 1024 q.opaque a.1;
    }

requester_is : (q : ReqPart) → IsRequesterParts q → (line : List ℕ) → words_of line ≡ requester_words q → requester_of line ≡ small q
unfolding requester_of
requester_is q p line words =
    let e = p.end_is in
    rw (words, e.eid_is.value, e.transfer_is.value, e.max_is.value, e.unit_is.value, e.own_is.value, e.flags_is.value, p.hint_is.value, p.psk_is.value, p.opaque_is.value, same_eid q.eid) refl

pub requester_taken : (given : PartialConfig) (r : RspLine) (q : ReqPart) → given.ended ≡ false → given.responder ≡ Some r → is_sound_requester q ≡ true → nat_le 8 (length given.requesters) ≡ false →
    (nat_eq r.eid.number q.eid.number || requester_has_eid q.eid.number given.requesters) ≡ false → has_psk q.psk given.requesters ≡ false →
    IsTaken given (requester_words q) (record given { requesters = given.requesters ++ small q ∷ [] })
unfolding config_kind requester_fault after_requester
requester_taken given r q open_ responder sound room new_eid new_psk =
    let p = requester_parts q sound in
    let e = p.end_is in
    record {
      plain = rw (plain_number e.eid_is, plain_number e.transfer_is, plain_number e.max_is, plain_number e.unit_is, plain_number e.own_is, e.flags_is.plain, plain_hex q.hint p.hint_is.are, plain_hex q.psk p.psk_is.are, plain_hex q.opaque p.opaque_is.are) refl;
      first = 114;
      rest = 101 ∷ 113 ∷ 117 ∷ 101 ∷ 115 ∷ 116 ∷ 101 ∷ 114 ∷ [];
      others = decimal q.eid.number ∷ decimal q.transfer ∷ decimal q.max ∷ decimal q.unit ∷ decimal q.pad ∷ flags_word q.flags ∷ hex_word q.hint ∷ hex_word q.psk ∷ hex_word q.opaque ∷ [];
      begins = refl;
      no_comment = refl;
      short = omega (arith, e.eid_is.short, e.transfer_is.short, e.max_is.short, e.unit_is.short, e.own_is.short, e.flags_is.short, p.hint_is.short, p.psk_is.short, p.opaque_is.short);
      kind = kind.Requester;
      is_kind = refl;
      good = λ line words. rw (open_, responder, words, e.eid_is.good, e.transfer_is.good, e.transfer_is.value, e.max_is.good, e.max_is.value, e.unit_is.good, e.own_is.good, p.hint_is.good, p.psk_is.good, p.opaque_is.good, e.flags_is.good, e.flags_is.value, e.fits, room, e.eid_is.value, same_eid q.eid, new_eid, p.psk_is.value, new_psk) refl;
      leads = λ line words. rw (requester_is q p line words) refl;
    }

-- ---- `suite`

pub responder_suite_taken : (given : PartialConfig) (suites : Suites) → given.ended ≡ false → slice_index_or given.has_suites 0 false ≡ false →
    IsTaken given (suite_words (codes "r") suites) (record given { responder_suites = suites; has_suites = slice_set given.has_suites 0 true })
unfolding config_kind suite_fault after_suite end_in
responder_suite_taken given suites open_ new = record {
  plain = rw (plain_hash suites.hash, plain_aead suites.aead) refl;
  first = 115;
  rest = 117 ∷ 105 ∷ 116 ∷ 101 ∷ [];
  others = codes "r" ∷ hash_word suites.hash ∷ aead_word suites.aead ∷ [];
  begins = refl;
  no_comment = refl;
  short = omega (arith, short_hash suites.hash, short_aead suites.aead);
  kind = kind.Suite;
  is_kind = refl;
  good = λ line words. let none : nat_lt (length given.requesters) 0 ≡ false = grind (arith, nat_tests) in rw (open_, words, hash_in-word suites.hash, aead_in-word suites.aead, new, none) refl;
  leads = λ line words. rw (words, hash_in-word suites.hash, aead_in-word suites.aead) refl;
}

end_in-word : (m : ℕ) → m < 8 → end_in (requester_word (suc m)) ≡ Some (suc m)
unfolding end_in requester_in
end_in-word m few =
    let low : nat_le 49 (48 + suc m) ≡ true = grind (arith, nat_tests) in
    let high : nat_le (48 + suc m) 56 ≡ true = grind (arith, nat_tests) in
    rw (decimal_digit (suc m) (omega arith), low, high) (ap Some (omega arith))

pub requester_suite_taken : (given : PartialConfig) (m : ℕ) (suites : Suites) → given.ended ≡ false → m < 8 → m < length given.requesters → slice_index_or given.has_suites (suc m) false ≡ false →
    IsTaken given (suite_words (requester_word (suc m)) suites) (record given { requesters = with_suites m suites given.requesters; has_suites = slice_set given.has_suites (suc m) true })
unfolding config_kind suite_fault after_suite
requester_suite_taken given m suites open_ few configured new =
    let plain = plain_decimal (suc m) (omega arith) in
    record {
      plain = rw (plain, plain_hash suites.hash, plain_aead suites.aead) refl;
      first = 115;
      rest = 117 ∷ 105 ∷ 116 ∷ 101 ∷ [];
      others = requester_word (suc m) ∷ hash_word suites.hash ∷ aead_word suites.aead ∷ [];
      begins = refl;
      no_comment = refl;
      short = omega (arith, decimal_short (suc m) (omega arith), short_hash suites.hash, short_aead suites.aead);
      kind = kind.Suite;
      is_kind = refl;
      good = λ line words. let there : nat_lt (length given.requesters) (suc m) ≡ false = grind (arith, nat_tests) in rw (open_, words, end_in-word m few, hash_in-word suites.hash, aead_in-word suites.aead, new, there) refl;
      leads = λ line words. rw (words, end_in-word m few, hash_in-word suites.hash, aead_in-word suites.aead) refl;
    }
