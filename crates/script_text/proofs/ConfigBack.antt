-- A printed configuration is read back as it was.
use Rattle.std.proofs.Common.{◌≡◌, ℕ, zero, suc, ◌+◌, ◌<◌, ◌≤◌, ◌≢◌, ◌++◌, List, [], ◌∷◌, length, map, get_or, refl, sym, subst, ap, ◌∙◌, Bool, true, false, ◌&&◌, ◌||◌, nat_eq, nat_lt, arith, append_assoc, length-append, Option, Some, None, Ok, fold, cond, get_or-set_other}
use Rattle.std.specs.Prelude.{not, nat_le, codes, slice_set, unwrap_or, replicate}
use Rattle.std.proofs.lemmas.Bool.{and_parts, ne_eqb}
use Rattle.std.proofs.lemmas.Bool.Decides.{nat_tests}
use Rattle.std.proofs.lemmas.List.{append-nil, map-append, length-map}
use Rattle.std.specs.Str.{bytes_eq}
use Rattle.spdm_grammar.specs.declared.told.block_spec.BlockSpec.{BlockSpec}
use Rattle.spdm_grammar.specs.declared.messages.choice.Pick.{Pick}
use Rattle.spdm_grammar.specs.declared.messages.choice.Pick.TheVariants.{Small, Large, Both}
use Rattle.spdm_grammar.specs.declared.messages.choice.Suites.{Suites}
use Rattle.script_text.specs.Choices.{small_suites}
use Rattle.script_text.specs.Configuring.{config_of, nothing_given, has_block, requester_has_eid, has_psk, with_suites}
use Rattle.script_text.specs.Lines.{lines_of, words_of, word, is_too_long, is_passed_over}
use Rattle.script_text.specs.Measured.{block_size, sizes_of}
use Rattle.script_text.specs.Printing.{with_line, with_seed, with_opaque, with_block, with_requester, with_suite, with_requester_suites, responder_text, ends_text, config_text, block_words, requester_words, seed_words, responder_words, opaque_words, suite_words, is_small, script_text}
use Rattle.script_text.specs.Reading.{line_fault, after_line}
use Rattle.script_text.specs.ScriptText.{script_fault, after_script, script_in}
use Rattle.script_text.specs.Sound.{IsSoundConfig, is_sound_block, are_sound_blocks, is_sound_requester, are_sound_requesters, are_bytes_in, is_sound_end, are_sound_events, AreNumbered}
use Rattle.trace_text.specs.Spelling.{with_words, requester_word}
use Rattle.script_text.specs.declared.configuration.config.ReqPart.{ReqPart}
use Rattle.script_text.specs.declared.configuration.config.ScriptConfig.{ScriptConfig}
use Rattle.script_text.specs.declared.configuration.partial_config.PartialConfig.{PartialConfig}
use Rattle.script_text.specs.declared.configuration.partial_config.RspLine.{RspLine}
use Rattle.script_text.specs.declared.texts.script.Script.{Script}
use Rattle.script_text.specs.declared.texts.script_lines.ScriptReader.{ScriptReader}
use Rattle.script_text.proofs.PlainWords.{length-with_words, long_words}
use Rattle.script_text.proofs.PrintedConfig.{IsTaken, seed_taken, opaque_taken, block_taken, end_taken}
use Rattle.script_text.proofs.PrintedEnds.{small, line_of_responder, responder_taken, requester_taken, responder_suite_taken, requester_suite_taken}
use Rattle.script_text.proofs.PrintedLines.{line_of, words_of-line_of_some, line_is_text, lines_of-line, lines_of-ended, with_line-append_some, with_words-append}
use Rattle.script_text.proofs.ReadBack.{read_script, printed_events}

-- a reader of a script without events
abbrev pub reader_of : PartialConfig → ScriptReader
reader_of given = record { given = given; events = [] }

-- a text of whole lines is read, and leaves this
pub record Reads (text : List ℕ) (given : PartialConfig) : Type 0 where
  pub ends : (more : List ℕ) → lines_of (text ++ more) ≡ lines_of text ++ lines_of more
  pub goes_on : (more : List (List ℕ)) → read_script 1 (reader_of nothing_given) (lines_of text ++ more) ≡ read_script (1 + length (lines_of text)) (reader_of given) more

nothing_read : Reads [] nothing_given
nothing_read = record { ends = λ more. refl; goes_on = λ more. refl }

-- ---- one line more

short_line : (given after : PartialConfig) (words : List (List ℕ)) (t : IsTaken given words after) → is_too_long (line_of words) ≡ false
short_line given after words t =
    let short : long_words ((t.first ∷ t.rest) ∷ t.others) ≤ 16200 = rw t.begins at t.short in
    let step : long_words ((t.first ∷ t.rest) ∷ t.others) ≡ suc (length (t.first ∷ t.rest)) + long_words t.others = refl in
    let long = length-with_words (t.first ∷ t.rest) t.others in
    let few : length (with_words (t.first ∷ t.rest) t.others) ≤ 16384 = omega (arith, short, step, long) in
    rw t.begins (grind (arith, nat_tests, few))

shown_line : (given after : PartialConfig) (words : List (List ℕ)) (t : IsTaken given words after) → is_passed_over (line_of words) ≡ false
shown_line given after words t =
    let first : with_words (t.first ∷ t.rest) t.others ≡ t.first ∷ with_words t.rest t.others = with_words-append (t.first ∷ []) t.rest t.others in
    let some : nat_eq (length (t.first ∷ with_words t.rest t.others)) 0 ≡ false = ne_eqb _ _ (omega arith) in
    rw (t.begins, first, some, t.no_comment) refl

taken_fault : (given after : PartialConfig) (words : List (List ℕ)) (t : IsTaken given words after) → line_fault script_fault (reader_of given) (line_of words) ≡ None
taken_fault given after words t =
    let some : 0 < length words = rw t.begins (omega arith) in
    let are : words_of (line_of words) ≡ words = words_of-line_of_some words t.plain some in
    let first : word 0 (line_of words) ≡ t.first ∷ t.rest = rw (are, t.begins) refl in
    rw (short_line given after words t, shown_line given after words t, first, t.is_kind) (t.good (line_of words) are)

taken_after : (given after : PartialConfig) (words : List (List ℕ)) (number : ℕ) (t : IsTaken given words after) → after_line after_script (reader_of given) number (line_of words) ≡ reader_of after
taken_after given after words number t =
    let some : 0 < length words = rw t.begins (omega arith) in
    let are : words_of (line_of words) ≡ words = words_of-line_of_some words t.plain some in
    let first : word 0 (line_of words) ≡ t.first ∷ t.rest = rw (are, t.begins) refl in
    rw (shown_line given after words t, first, t.is_kind) (ap reader_of (t.leads (line_of words) are))

one_more : (text : List ℕ) (given after : PartialConfig) (words : List (List ℕ)) → Reads text given → IsTaken given words after → Reads (with_line text words) after
one_more text given after words r t =
    let some : 0 < length words = rw t.begins (omega arith) in
    let line = line_of words in
    let whole : with_line text words ≡ text ++ (line ++ 10 ∷ []) = with_line-append_some text words some in
    let ended : with_line text words ≡ (text ++ line) ++ 10 ∷ [] = whole ∙ sym (append_assoc text line (10 ∷ [])) in
    let one : lines_of (line ++ 10 ∷ []) ≡ line ∷ [] = lines_of-line line (line_is_text words t.plain) in
    let lines : lines_of (with_line text words) ≡ lines_of text ++ line ∷ [] = ap lines_of whole ∙ r.ends (line ++ 10 ∷ []) ∙ ap (λ ls. lines_of text ++ ls) one in
    let count : 1 + length (lines_of text) + 1 ≡ 1 + length (lines_of (with_line text words)) = omega (arith, ap (λ (ls : List (List ℕ)). length ls) lines, length-append (lines_of text) (line ∷ [])) in
    record {
      ends = λ more. ap (λ t. lines_of (t ++ more)) ended ∙ lines_of-ended (text ++ line) more ∙ ap (λ t. lines_of t ++ lines_of more) (sym ended);
      goes_on = λ more.
          ap (λ ls. read_script 1 (reader_of nothing_given) (ls ++ more)) lines
          ∙ ap (read_script 1 (reader_of nothing_given)) (append_assoc (lines_of text) (line ∷ []) more)
          ∙ r.goes_on (line ∷ more)
          ∙ rw (taken_fault given after words t, taken_after given after words (1 + length (lines_of text)) t) (ap (λ n. read_script n (reader_of after) more) count);
    }

-- ---- blocks and requesters

not_true : (b : Bool) → not b ≡ true → b ≡ false
not_true true h = sym h
not_true false h = refl

blocks_read : (text : List ℕ) (given : PartialConfig) (blocks : List BlockSpec) → Reads text given → given.ended ≡ false → are_sound_blocks given.blocks blocks ≡ true →
    Reads (fold with_block text blocks) (record given { blocks = given.blocks ++ blocks })
blocks_read text given [] r open_ sound = rw (append-nil given.blocks) r
blocks_read text given (b ∷ blocks) r open_ sound =
    let a = and_parts (is_sound_block b && not (has_block b.index given.blocks) && nat_le (sizes_of given.blocks + block_size b) 4054) (are_sound_blocks (given.blocks ++ b ∷ []) blocks) sound in
    let c = and_parts (is_sound_block b && not (has_block b.index given.blocks)) (nat_le (sizes_of given.blocks + block_size b) 4054) a.0 in
    let d = and_parts (is_sound_block b) (not (has_block b.index given.blocks)) c.0 in
    let room : nat_lt 4054 (sizes_of given.blocks + block_size b) ≡ false = grind (arith, nat_tests, c.1) in
    let after : PartialConfig = record given { blocks = given.blocks ++ b ∷ [] } in
    let here = one_more text given after (block_words b) r (block_taken given b open_ d.0 (not_true (has_block b.index given.blocks) d.1) room) in
    let rest = blocks_read (with_block text b) after blocks here open_ a.1 in
    rw (append_assoc given.blocks (b ∷ []) blocks) at rest

any_small : (e : ℕ) (before : List ReqPart) → requester_has_eid e (map small before) ≡ requester_has_eid e before
any_small e [] = refl
any_small e (q ∷ before) = ap (λ b. nat_eq q.eid.number e || b) (any_small e before)

psk_small : (psk : List ℕ) (before : List ReqPart) → has_psk psk (map small before) ≡ has_psk psk before
psk_small psk [] = refl
psk_small psk (q ∷ before) = ap (λ b. bytes_eq q.psk psk || b) (psk_small psk before)

requesters_read : (text : List ℕ) (given : PartialConfig) (r : RspLine) (before requesters : List ReqPart) → Reads text given → given.ended ≡ false → given.responder ≡ Some r → given.requesters ≡ map small before →
    are_sound_requesters r.eid.number before requesters ≡ true → Reads (fold with_requester text requesters) (record given { requesters = map small (before ++ requesters) })
requesters_read text given r before [] reads open_ responder are sound = rw (append-nil before, ← are) reads
requesters_read text given r before (q ∷ requesters) reads open_ responder are sound =
    let same = nat_eq r.eid.number q.eid.number || requester_has_eid q.eid.number before in
    let a = and_parts (is_sound_requester q && nat_lt (length before) 8 && not same && not (has_psk q.psk before)) (are_sound_requesters r.eid.number (before ++ q ∷ []) requesters) sound in
    let b = and_parts (is_sound_requester q && nat_lt (length before) 8 && not same) (not (has_psk q.psk before)) a.0 in
    let c = and_parts (is_sound_requester q && nat_lt (length before) 8) (not same) b.0 in
    let d = and_parts (is_sound_requester q) (nat_lt (length before) 8) c.0 in
    let count : length given.requesters ≡ length before = ap (λ (qs : List ReqPart). length qs) are ∙ length-map before small in
    let room : nat_le 8 (length given.requesters) ≡ false = rw count (grind (arith, nat_tests, d.1)) in
    let new_eid : (nat_eq r.eid.number q.eid.number || requester_has_eid q.eid.number given.requesters) ≡ false = rw (are, any_small q.eid.number before) (not_true same c.1) in
    let new_psk : has_psk q.psk given.requesters ≡ false = rw (are, psk_small q.psk before) (not_true (has_psk q.psk before) b.1) in
    let after : PartialConfig = record given { requesters = given.requesters ++ small q ∷ [] } in
    let here = one_more text given after (requester_words q) reads (requester_taken given r q open_ responder d.0 room new_eid new_psk) in
    let behind : after.requesters ≡ map small (before ++ q ∷ []) = ap (λ qs. qs ++ small q ∷ []) are ∙ sym (map-append small before (q ∷ [])) in
    let rest = requesters_read (with_requester text q) after r (before ++ q ∷ []) requesters here open_ responder behind a.1 in
    rw (append_assoc before (q ∷ []) requesters) at rest

-- ---- algorithms

small_is : (h a : Pick) → (is_small h && is_small a) ≡ true → (let s : Suites = record { hash = h; aead = a } in s) ≡ small_suites
small_is Small Small e = refl
small_is Small Large e = cc e
small_is Small Both e = cc e
small_is Large a e = cc e
small_is Both a e = cc e

-- no end from this number on had its line
abbrev AreFree : ℕ → List Bool → Type 0
AreFree n flags = (k : ℕ) → n ≤ k → get_or flags k false ≡ false

still_free : (n : ℕ) (flags : List Bool) → AreFree n flags → AreFree (n + 1) (slice_set flags n true)
still_free n flags free = λ k h. let ne : k ≢ n = omega arith in rw get_or-set_other (free k (omega arith))

-- the responder has its algorithms
record HasResponderSuites (text : List ℕ) (given : PartialConfig) (suites : Suites) : Type 0 where
  flags : List Bool
  reads : Reads text (record given { responder_suites = suites; has_suites = flags })
  free : AreFree 1 flags

responder_suites_by : (text : List ℕ) (given : PartialConfig) (suites : Suites) (is_same : Bool) → (is_small suites.hash && is_small suites.aead) ≡ is_same → Reads text given → given.ended ≡ false → given.responder_suites ≡ small_suites → AreFree 0 given.has_suites →
    HasResponderSuites (cond is_same text (with_line text (suite_words (codes "r") suites))) given suites
responder_suites_by text given suites true e r open_ before free = record {
  flags = given.has_suites;
  reads = rw (small_is suites.hash suites.aead e, ← before) r;
  free = λ k h. free k (omega arith);
}
responder_suites_by text given suites false e r open_ before free = record {
  flags = slice_set given.has_suites 0 true;
  reads = one_more text given (record given { responder_suites = suites; has_suites = slice_set given.has_suites 0 true }) (suite_words (codes "r") suites) r (responder_suite_taken given suites open_ (free 0 (omega arith)));
  free = still_free 0 given.has_suites free;
}

responder_suites_read : (text : List ℕ) (given : PartialConfig) (suites : Suites) → Reads text given → given.ended ≡ false → given.responder_suites ≡ small_suites → AreFree 0 given.has_suites →
    HasResponderSuites (with_suite text (codes "r") suites) given suites
responder_suites_read text given suites r open_ before free = responder_suites_by text given suites (is_small suites.hash && is_small suites.aead) refl r open_ before free

with_suites-at : (front : List ReqPart) (suites : Suites) (q : ReqPart) (rest : List ReqPart) → with_suites (length front) suites (front ++ q ∷ rest) ≡ front ++ (record q { suites = suites }) ∷ rest
with_suites-at [] suites q rest = refl
with_suites-at (x ∷ front) suites q rest = ap (λ qs. x ∷ qs) (with_suites-at front suites q rest)

-- the requesters have their algorithms
record HasRequesterSuites (text : List ℕ) (given : PartialConfig) (requesters : List ReqPart) : Type 0 where
  flags : List Bool
  reads : Reads text (record given { requesters = requesters; has_suites = flags })

-- one requester more has its algorithms
record HasOneMore (text : List ℕ) (given : PartialConfig) (n : ℕ) (requesters : List ReqPart) : Type 0 where
  flags : List Bool
  reads : Reads text (record given { requesters = requesters; has_suites = flags })
  free : AreFree (n + 1) flags

suites_by : (text : List ℕ) (given : PartialConfig) (front : List ReqPart) (q : ReqPart) (rest : List ReqPart) (is_same : Bool) → (is_small q.suites.hash && is_small q.suites.aead) ≡ is_same → Reads text given → given.ended ≡ false →
    given.requesters ≡ front ++ small q ∷ rest → length front < 8 → AreFree (suc (length front)) given.has_suites →
    HasOneMore (cond is_same text (with_line text (suite_words (requester_word (suc (length front))) q.suites))) given (suc (length front)) (front ++ q ∷ rest)
suites_by text given front q rest true e r open_ are few free =
    let same : small q ≡ q = ap (λ (s : Suites). record q { suites = s }) (sym (small_is q.suites.hash q.suites.aead e)) in
    let list : given.requesters ≡ front ++ q ∷ rest = are ∙ ap (λ (x : ReqPart). front ++ x ∷ rest) same in
    record {
      flags = given.has_suites;
      reads = rw (← list) r;
      free = λ k h. free k (omega arith);
    }
suites_by text given front q rest false e r open_ are few free =
    let m = length front in
    let count : length given.requesters ≡ length front + length (small q ∷ rest) = ap (λ (qs : List ReqPart). length qs) are ∙ length-append front (small q ∷ rest) in
    let list : with_suites m q.suites given.requesters ≡ front ++ q ∷ rest = ap (with_suites m q.suites) are ∙ with_suites-at front q.suites (small q) rest in
    let flags = slice_set given.has_suites (suc m) true in
    let taken = requester_suite_taken given m q.suites open_ few (omega (arith, count)) (free (suc m) (omega arith)) in
    record {
      flags = flags;
      reads = rw list at (one_more text given (record given { requesters = with_suites m q.suites given.requesters; has_suites = flags }) (suite_words (requester_word (suc m)) q.suites) r taken);
      free = still_free (suc m) given.has_suites free;
    }

requester_suites_read : (text : List ℕ) (given : PartialConfig) (n : ℕ) (front requesters : List ReqPart) → Reads text given → given.ended ≡ false → given.requesters ≡ front ++ map small requesters → n ≡ suc (length front) →
    length front + length requesters ≤ 8 → AreFree n given.has_suites → HasRequesterSuites (with_requester_suites text n requesters) given (front ++ requesters)
requester_suites_read text given n front [] r open_ are count few free = record { flags = given.has_suites; reads = rw (← are) r }
requester_suites_read text given n front (q ∷ requesters) r open_ are count few free =
    let free_here : AreFree (suc (length front)) given.has_suites = rw count at free in
    let one = suites_by text given front q (map small requesters) (is_small q.suites.hash && is_small q.suites.aead) refl r open_ are (omega (arith, few)) free_here in
    let after : PartialConfig = record given { requesters = front ++ q ∷ map small requesters; has_suites = one.flags } in
    let next : after.requesters ≡ (front ++ q ∷ []) ++ map small requesters = sym (append_assoc front (q ∷ []) (map small requesters)) in
    let long : length (front ++ q ∷ []) ≡ length front + 1 = length-append front (q ∷ []) in
    let counted : n + 1 ≡ suc (length (front ++ q ∷ [])) = omega (arith, count, long) in
    let free_next : AreFree (n + 1) one.flags = λ k h. one.free k (omega (arith, count)) in
    let P : ℕ → Type 0 = λ k. Reads (with_suite text (requester_word k) q.suites) after in
    let here : P n = subst P (sym count) one.reads in
    let rest = requester_suites_read (with_suite text (requester_word n) q.suites) after (n + 1) (front ++ q ∷ []) requesters here open_ next counted (omega (arith, long, few)) free_next in
    record {
      flags = rest.flags;
      reads = rw (append_assoc front (q ∷ []) requesters) at rest.reads;
    }

-- ---- the whole configuration

-- the opaque data that a reader has where a line says them, and where none is printed
abbrev opaque_given : List ℕ → Option (List ℕ)
opaque_given [] = None
opaque_given (b ∷ bytes) = Some (b ∷ bytes)

opaque_read : (text : List ℕ) (given : PartialConfig) (bytes : List ℕ) → Reads text given → given.ended ≡ false → given.opaque ≡ None → are_bytes_in 0 1024 bytes ≡ true → Reads (with_opaque text bytes) (record given { opaque = opaque_given bytes })
opaque_read text given [] r open_ none sound = rw (← none) r
opaque_read text given (b ∷ bytes) r open_ none sound = one_more text given (record given { opaque = Some (b ∷ bytes) }) (opaque_words (b ∷ bytes)) r (opaque_taken given (b ∷ bytes) open_ none sound)

opaque_is : (bytes : List ℕ) → unwrap_or (opaque_given bytes) [] ≡ bytes
opaque_is [] = refl
opaque_is (b ∷ bytes) = refl

seed_read : (seed : Option (List ℕ)) (bytes : List ℕ) → seed ≡ Some bytes → are_bytes_in 32 32 bytes ≡ true → Reads (with_seed [] seed) (record nothing_given { seed = seed })
seed_read seed bytes is sound =
    let P : Option (List ℕ) → Type 0 = λ o. Reads (with_seed [] o) (record nothing_given { seed = o }) in
    subst P (sym is) (one_more [] nothing_given (record nothing_given { seed = Some bytes }) (seed_words bytes) nothing_read (seed_taken nothing_given bytes refl refl sound))

-- what the lines of the ends leave
abbrev ends_given : ScriptConfig → PartialConfig
ends_given config = record {
  seed = config.seed;
  responder = Some (line_of_responder config.responder);
  opaque = opaque_given config.responder.opaque;
  blocks = config.blocks;
  requesters = map small config.requesters;
  responder_suites = small_suites;
  has_suites = replicate 9 false;
  ended = false;
}

free_replicate : (n k : ℕ) → get_or (replicate n false) k false ≡ false
free_replicate zero k = refl
free_replicate (suc n) zero = refl
free_replicate (suc n) (suc k) = free_replicate n k

all_free : AreFree 0 (replicate 9 false)
all_free k h = free_replicate 9 k

ends_read : (config : ScriptConfig) → IsSoundConfig config → Reads (ends_text config) (ends_given config)
ends_read config sound =
    let r = config.responder in
    let parts = and_parts (is_sound_end 255 r.transfer r.max r.unit r.beat r.flags) (are_bytes_in 0 1024 r.opaque) sound.responder in
    let g1 : PartialConfig = record nothing_given { seed = config.seed } in
    let r1 = seed_read config.seed sound.seed_bytes sound.seed sound.seed_size in
    let g2 : PartialConfig = record g1 { responder = Some (line_of_responder r) } in
    let r2 = one_more (with_seed [] config.seed) g1 g2 (responder_words r) r1 (responder_taken g1 r refl refl refl parts.0) in
    let g3 : PartialConfig = record g2 { opaque = opaque_given r.opaque } in
    let r3 = opaque_read (with_line (with_seed [] config.seed) (responder_words r)) g2 r.opaque r2 refl refl parts.1 in
    let r4 = blocks_read (responder_text config) g3 config.blocks r3 refl sound.blocks in
    requesters_read (fold with_block (responder_text config) config.blocks) (record g3 { blocks = config.blocks }) (line_of_responder r) [] config.requesters r4 refl refl refl sound.requesters

pub few_requesters : (responder : ℕ) (before requesters : List ReqPart) → length before ≤ 8 → are_sound_requesters responder before requesters ≡ true → length before + length requesters ≤ 8
few_requesters responder before [] few sound = omega (arith, few)
few_requesters responder before (q ∷ requesters) few sound =
    let same = nat_eq responder q.eid.number || requester_has_eid q.eid.number before in
    let a = and_parts (is_sound_requester q && nat_lt (length before) 8 && not same && not (has_psk q.psk before)) (are_sound_requesters responder (before ++ q ∷ []) requesters) sound in
    let b = and_parts (is_sound_requester q && nat_lt (length before) 8 && not same) (not (has_psk q.psk before)) a.0 in
    let c = and_parts (is_sound_requester q && nat_lt (length before) 8) (not same) b.0 in
    let room : length before < 8 = grind (arith, nat_tests, (and_parts (is_sound_requester q) (nat_lt (length before) 8) c.0).1) in
    let long : length (before ++ q ∷ []) ≡ length before + 1 = length-append before (q ∷ []) in
    let rest = few_requesters responder (before ++ q ∷ []) requesters (omega (arith, long, room)) a.1 in
    omega (arith, long, rest)

-- what is known of a configuration's text
pub record ReadsConfig (config : ScriptConfig) (text : List ℕ) : Type 0 where
  pub given : PartialConfig
  pub reads : Reads text given
  pub is : config_of given ≡ Some config
  pub front : List ℕ
  pub ended : text ≡ front ++ 10 ∷ []

end_read : (config : ScriptConfig) (q : ReqPart) (qs : List ReqPart) (seed : List ℕ) (flags : List Bool) (text : List ℕ) → config.requesters ≡ q ∷ qs → config.seed ≡ Some seed →
    Reads text (record (ends_given config) { requesters = config.requesters; responder_suites = config.responder.suites; has_suites = flags }) → ReadsConfig config (with_line text (codes "end" ∷ []))
end_read config q qs seed flags text are seeded r =
    let given : PartialConfig = record (ends_given config) { requesters = config.requesters; responder_suites = config.responder.suites; has_suites = flags } in
    let after : PartialConfig = record given { ended = true } in
    record {
      given = after;
      reads = one_more text given after (codes "end" ∷ []) r (end_taken given (line_of_responder config.responder) q qs seed refl refl are seeded);
      is = let whole : List ℕ → Option ScriptConfig = λ bytes. Some (record config { responder = record config.responder { opaque = bytes } }) in ap whole (opaque_is config.responder.opaque);
      front = text ++ codes "end";
      ended = refl;
    }

some_requester : (requesters : List ReqPart) → 0 < length requesters → (q : ReqPart) × (qs : List ReqPart) × (requesters ≡ q ∷ qs)
some_requester [] some = absurd (omega arith)
some_requester (q ∷ qs) some = (q, qs, refl)

pub config_read : (config : ScriptConfig) → IsSoundConfig config → ReadsConfig config (config_text config)
unfolding config_text
config_read config sound =
    let first = some_requester config.requesters sound.some in
    let few = few_requesters config.responder.eid.number [] config.requesters (omega arith) sound.requesters in
    let a = ends_read config sound in
    let b = responder_suites_read (ends_text config) (ends_given config) config.responder.suites a refl refl all_free in
    let given : PartialConfig = record (ends_given config) { responder_suites = config.responder.suites; has_suites = b.flags } in
    let c = requester_suites_read (with_suite (ends_text config) (codes "r") config.responder.suites) given 1 [] config.requesters b.reads refl refl refl few b.free in
    end_read config first.0 first.1 sound.seed_bytes c.flags (with_requester_suites (with_suite (ends_text config) (codes "r") config.responder.suites) 1 config.requesters) first.2 sound.seed c.reads

-- ---- the whole script

-- a printed configuration is a script without events
config_is_read : (config : ScriptConfig) (text : List ℕ) → ReadsConfig config text → script_in text ≡ Ok (record { config = config; events = [] })
unfolding script_in
config_is_read config text r =
    ap (read_script 1 (reader_of nothing_given)) (sym (append-nil (lines_of text)))
    ∙ r.reads.goes_on []
    ∙ rw r.is refl

-- what is printed of a script is read back as it was
pub printed_script : (script : Script) → IsSoundConfig script.config → are_sound_events (length script.config.requesters) script.events ≡ true → AreNumbered (1 + length (lines_of (config_text script.config))) script.events → length script.events ≤ 100000 →
    script_in (script_text script) ≡ Ok script
unfolding script_text
printed_script script config sound numbered room =
    let r = config_read script.config config in
    let few = few_requesters script.config.responder.eid.number [] script.config.requesters (omega arith) config.requesters in
    printed_events (config_text script.config) r.front script.config script.events r.ended (config_is_read script.config (config_text script.config) r) (omega (arith, few)) sound numbered room
