-- Scripts as texts: each line of the configuration and each event on a line of its own. This project's own.
use Rattle.std.specs.Prelude.{ℕ, List, [], ◌∷◌, ◌++◌, ◌+◌, ◌&&◌, codes, fold, if◌then◌else◌, Bool, true, false, Option, Some, None}
use Rattle.std.specs.Fmt.{decimal}
use Rattle.spdm_grammar.specs.declared.told.block_spec.BlockSpec.{BlockSpec}
use Rattle.spdm_grammar.specs.declared.messages.choice.FlagSet.{FlagSet}
use Rattle.spdm_grammar.specs.declared.messages.choice.Pick.{Pick}
use Rattle.spdm_grammar.specs.declared.messages.choice.Pick.TheVariants.{Small, Large, Both}
use Rattle.spdm_grammar.specs.declared.messages.choice.Suites.{Suites}
use Rattle.trace_text.specs.Spelling.{with_words, hex_word, requester_word}
use Rattle.script_text.specs.declared.configuration.config.ReqPart.{ReqPart}
use Rattle.script_text.specs.declared.configuration.config.RspPart.{RspPart}
use Rattle.script_text.specs.declared.configuration.config.ScriptConfig.{ScriptConfig}
use Rattle.script_text.specs.declared.events.event.Entry.{Entry}
use Rattle.script_text.specs.declared.events.event.LinkEvent.{LinkEvent}
use Rattle.script_text.specs.declared.events.event.LinkEvent.TheVariants as event
use Rattle.script_text.specs.declared.texts.script.Script.{Script}

-- A line of words after a text.
abbrev pub with_line : List ℕ → List (List ℕ) → List ℕ
with_line text [] = text ++ 10 ∷ []
with_line text (word ∷ words) = with_words (text ++ word) words ++ 10 ∷ []

-- ---- Lines of the configuration.

abbrev pub seed_words : List ℕ → List (List ℕ)
seed_words seed = codes "seed" ∷ hex_word seed ∷ []

-- The letters of capabilities, and `-` for none.
abbrev pub letter_if : Bool → ℕ → List ℕ
letter_if false letter = []
letter_if true letter = letter ∷ []

abbrev pub flag_letters : FlagSet → List ℕ
flag_letters f = letter_if f.measure 109 ++ letter_if f.heartbeat 104 ++ letter_if f.key_update 107 ++ letter_if f.chunk 99

abbrev pub word_or_none : List ℕ → List ℕ
word_or_none [] = codes "-"
word_or_none (c ∷ word) = c ∷ word

unfoldable pub flags_word : FlagSet → List ℕ
flags_word f = word_or_none (flag_letters f)

abbrev pub responder_words : RspPart → List (List ℕ)
responder_words r =
    codes "responder"
    ∷ decimal r.eid.number
    ∷ decimal r.transfer
    ∷ decimal r.max
    ∷ decimal r.unit
    ∷ decimal r.beat
    ∷ flags_word r.flags
    ∷ []

abbrev pub opaque_words : List ℕ → List (List ℕ)
opaque_words bytes = codes "opaque" ∷ hex_word bytes ∷ []

abbrev pub tcb_word : Bool → List ℕ
tcb_word false = codes "0"
tcb_word true = codes "1"

abbrev pub block_words : BlockSpec → List (List ℕ)
block_words b = codes "block" ∷ decimal b.index ∷ decimal b.value_type ∷ tcb_word b.tcb ∷ hex_word b.value ∷ []

abbrev pub requester_words : ReqPart → List (List ℕ)
requester_words q =
    codes "requester"
    ∷ decimal q.eid.number
    ∷ decimal q.transfer
    ∷ decimal q.max
    ∷ decimal q.unit
    ∷ decimal q.pad
    ∷ flags_word q.flags
    ∷ hex_word q.hint
    ∷ hex_word q.psk
    ∷ hex_word q.opaque
    ∷ []

abbrev pub hash_word : Pick → List ℕ
hash_word Small = codes "256"
hash_word Large = codes "384"
hash_word Both = codes "both"

abbrev pub aead_word : Pick → List ℕ
aead_word Small = codes "128"
aead_word Large = codes "256"
aead_word Both = codes "both"

abbrev pub suite_words : List ℕ → Suites → List (List ℕ)
suite_words end suites = codes "suite" ∷ end ∷ hash_word suites.hash ∷ aead_word suites.aead ∷ []

-- ---- Which lines a configuration has: those that say what an end has without them are left out.

abbrev pub is_small : Pick → Bool
is_small Small = true
is_small Large = false
is_small Both = false

abbrev pub with_seed : List ℕ → Option (List ℕ) → List ℕ
with_seed text None = text
with_seed text (Some seed) = with_line text (seed_words seed)

abbrev pub with_opaque : List ℕ → List ℕ → List ℕ
with_opaque text [] = text
with_opaque text (b ∷ bytes) = with_line text (opaque_words (b ∷ bytes))

abbrev pub with_block : List ℕ → BlockSpec → List ℕ
with_block text block = with_line text (block_words block)

abbrev pub with_requester : List ℕ → ReqPart → List ℕ
with_requester text requester = with_line text (requester_words requester)

abbrev pub with_suite : List ℕ → List ℕ → Suites → List ℕ
with_suite text end suites = if is_small suites.hash && is_small suites.aead then text else with_line text (suite_words end suites)

-- The algorithms of requesters of which the first has this number.
abbrev pub with_requester_suites : List ℕ → ℕ → List ReqPart → List ℕ
with_requester_suites text n [] = text
with_requester_suites text n (q ∷ qs) = with_requester_suites (with_suite text (requester_word n) q.suites) (n + 1) qs

-- The configuration, up to the seed and the line of the responder, and as a whole.
abbrev pub responder_text : ScriptConfig → List ℕ
responder_text config = with_opaque (with_line (with_seed [] config.seed) (responder_words config.responder)) config.responder.opaque

abbrev pub ends_text : ScriptConfig → List ℕ
ends_text config = fold with_requester (fold with_block (responder_text config) config.blocks) config.requesters

unfoldable pub config_text : ScriptConfig → List ℕ
config_text config =
    with_line (with_requester_suites (with_suite (ends_text config) (codes "r") config.responder.suites) 1 config.requesters) (codes "end" ∷ [])

-- ---- Events.

-- The session in which measurements are asked for, and `-` for the clear.
abbrev pub place_word : Option ℕ → List ℕ
place_word None = codes "-"
place_word (Some session) = decimal session

abbrev pub update_word : Bool → List ℕ
update_word false = codes "key"
update_word true = codes "all"

abbrev pub event_words : LinkEvent → List (List ℕ)
event_words (event.Connect q) = requester_word q ∷ codes "connect" ∷ []
event_words (event.Retry q) = requester_word q ∷ codes "retry" ∷ []
event_words (event.Open q summary) = requester_word q ∷ codes "open" ∷ decimal summary ∷ []
event_words (event.Send q session bytes) = requester_word q ∷ codes "send" ∷ decimal session ∷ hex_word bytes ∷ []
event_words (event.Beat q session) = requester_word q ∷ codes "beat" ∷ decimal session ∷ []
event_words (event.End q session) = requester_word q ∷ codes "end" ∷ decimal session ∷ []
event_words (event.Update q session all) = requester_word q ∷ codes "update" ∷ decimal session ∷ update_word all ∷ []
event_words (event.Measure q session op) = requester_word q ∷ codes "measure" ∷ place_word session ∷ decimal op ∷ []
event_words (event.Reply q bytes) = codes "reply" ∷ requester_word q ∷ hex_word bytes ∷ []
event_words (event.Deliver number) = codes "deliver" ∷ decimal number ∷ []
event_words (event.Lose number) = codes "lose" ∷ decimal number ∷ []
event_words (event.Inject bytes) = codes "inject" ∷ hex_word bytes ∷ []
event_words (event.Pump count) = codes "pump" ∷ decimal count ∷ []
event_words (event.Tick seconds) = codes "tick" ∷ decimal seconds ∷ []
event_words event.Show = codes "show" ∷ []

abbrev pub with_entry : List ℕ → Entry → List ℕ
with_entry text entry = with_line text (event_words entry.event)

-- A script: its configuration and then its events. The numbers of their lines are not printed.
unfoldable pub script_text : Script → List ℕ
script_text script = fold with_entry (config_text script.config) script.events
