-- The data that a record brings are short.
use Rattle.std.proofs.Common.{refl, ◌≡◌, ◌≤◌, ◌∙◌, ◌∷◌, ◌+◌, ◌++◌, ℕ, List, [], Bool, true, false, Option, Some, None, ap, sym, subst, arith, length, length-append, min}
use Rattle.std.specs.Prelude.{⊤, ◌==◌, ◌&&◌, ◌||◌, not, drop, if◌then◌else◌, nat_lt, slice_index, Result, Ok, Err}
use Rattle.std.specs.Option.{option_or}
use Rattle.std.proofs.lemmas.Bool.{false≢true}
use Rattle.std.proofs.lemmas.Bool.Decides.{nat_tests}
use Rattle.std.proofs.lemmas.Grind.{common_steps}
use Rattle.std.proofs.lemmas.Option.{none-some, same_Some}
use Rattle.chunking.proofs.FewChunks.{most, not_too_large}
use Rattle.chunking.specs.Collecting.{broken_rule, first_rule, joined, joined_with, later_rule, size_rule, told_by, told_size}
use Rattle.spdm_basis.proofs.Options.{both}
use Rattle.spdm_grammar.specs.Message.{ResponseMessage, ChunkMessage, MeasuredMessage}
use Rattle.spdm_grammar.specs.Message.ResponseMessage.{Measurements, PskFinishRsp, HeartbeatAck, KeyUpdateAck, EndSessionAck, ChunkResponse, Error}
use Rattle.spdm_grammar.specs.declared.told.event.BadReply.{BadReply}
use Rattle.spdm_grammar.specs.declared.told.event.BadReply.TheVariants as bad
use Rattle.spdm_grammar.specs.declared.messages.malformed.Malformed.{Malformed}
use Rattle.spdm_grammar.specs.declared.names.TheConstants.{MAX_MESSAGE_SIZE}
use Rattle.spdm_grammar.specs.declared.names.error_number.TheConstants.{LARGE_RESPONSE}
use Rattle.spdm_grammar.specs.declared.messages.part_faults.ChunkFault.{ChunkFault}
use Rattle.spdm_grammar.specs.declared.messages.part_faults.ChunkFault.TheVariants.{WrongHandle, WrongNumber}
use Rattle.spdm_machine.specs.Keys.{Draw}
use Rattle.spdm_machine.specs.Terms.{hash_len}
use Rattle.requester_machine.proofs.ClearLeads.{either}
use Rattle.requester_machine.proofs.Heard.{taken_opened}
use Rattle.requester_machine.specs.Answers.{is_refused, measured_led}
use Rattle.requester_machine.specs.Asking.Outcome.{Adds}
use Rattle.requester_machine.specs.Bodies.{is_clear}
use Rattle.requester_machine.specs.ClearAnswers.{get_fault}
use Rattle.requester_machine.specs.Commands.{Free, has_reached}
use Rattle.requester_machine.specs.Hearing.{came_to, hears}
use Rattle.requester_machine.specs.History.{Effect, Entry, History, Led}
use Rattle.requester_machine.specs.History.Effect.{Grants, Nothing}
use Rattle.requester_machine.specs.Holds.{Holds, Waits}
use Rattle.requester_machine.specs.InnerMessages.{Came, chunk_led, data_led, echoes, error_led, first_get, follows, inner_fault, inner_led, inner_led_by, message_in, message_led, op_in, or_lost, outlives_error, read_led, reading_of, update_led, verified_led, whole_led}
use Rattle.requester_machine.specs.Message.{Ask}
use Rattle.requester_machine.specs.Message.Aim.{InSession}
use Rattle.requester_machine.specs.Message.Ask.{AskBeat, AskChunk, AskData, AskEnd, AskFinish, AskMeasure, AskUpdate, AskVerify}
use Rattle.requester_machine.specs.Sending.{operation_of}
use Rattle.requester_machine.specs.Session.{session_terms}
use Rattle.requester_machine.specs.Setup.{ReqSetup}
use Rattle.requester_machine.specs.Shown.{blocks_in, blocks_of, bytes_in}
use Rattle.requester_machine.specs.UnderWay.{AreBehind, HasSizes, IsOutstanding}
use Rattle.requester_core.specs.InSession.{brought_by}
use Rattle.requester_machine.proofs.ResponseLengths.{measured_short, measured_value}

-- ---- A large answer.

-- A chunk that keeps the rule of sizes passes nothing.
sized : (told held : ℕ) (c : ChunkMessage) → size_rule told held c ≡ None → held + length c.chunk ≤ told
sized told held c is = grind (arith, common_steps)

first_short : (max : ℕ) (c : ChunkMessage) → first_rule max c ≡ None → length c.chunk ≤ MAX_MESSAGE_SIZE
first_short max c is =
    let parts = not_too_large (nat_lt (min max MAX_MESSAGE_SIZE) (told_by c)) (size_rule (told_by c) 0 c) is in
    let within = sized (told_by c) 0 c parts.1 in
    let told = most max (told_by c) parts.0 in
    omega (arith, within, told)

later_short : (before : List ChunkMessage) (c : ChunkMessage) → told_size before ≤ MAX_MESSAGE_SIZE → later_rule before c ≡ None → length (joined before ++ c.chunk) ≤ MAX_MESSAGE_SIZE
later_short [] c told is = absurd (none-some WrongNumber (sym is))
later_short (d ∷ earlier) c told is =
    let rule = size_rule (told_size (d ∷ earlier)) (length (joined (d ∷ earlier))) c in
    let handle = both (not (c.handle == d.handle)) WrongHandle (if not (c.number == d.number + 1) then Some WrongNumber else rule) is in
    let number = both (not (c.number == d.number + 1)) WrongNumber rule handle.1 in
    let within = sized (told_size (d ∷ earlier)) (length (joined (d ∷ earlier))) c number.1 in
    omega (arith, length-append (joined (d ∷ earlier)) c.chunk, within, told)

joined_by : (max : ℕ) (before : List ChunkMessage) (c : ChunkMessage) (b : Bool) → told_size before ≤ MAX_MESSAGE_SIZE → (if b then first_rule max c else later_rule before c) ≡ None → length (if b then c.chunk else joined before ++ c.chunk) ≤ MAX_MESSAGE_SIZE
joined_by max before c true told is = first_short max c is
joined_by max before c false told is = later_short before c told is

pub joined_short : (max handle number : ℕ) (before : List ChunkMessage) (c : ChunkMessage) → told_size before ≤ MAX_MESSAGE_SIZE → get_fault max handle number before c ≡ None → length (joined_with before c) ≤ MAX_MESSAGE_SIZE
joined_short max handle number before c told is =
    let rule = broken_rule max before c in
    let of_handle = both (not (c.handle == handle)) WrongHandle (if not (c.number == number) then Some WrongNumber else rule) is in
    let of_number = both (not (c.number == number)) WrongNumber rule of_handle.1 in
    joined_by max before c (c.number == 0) told of_number.1

-- ---- What a record leads to.

-- The data of an effect.
abbrev pub brings : Effect → Option (List ℕ)
brings effect = option_or (bytes_in effect) (blocks_in effect)

pub record Short (led : Led) : Type 0 where
  pub are : (data_is : List ℕ) → brings led.effect ≡ Some data_is → length data_is ≤ MAX_MESSAGE_SIZE

abbrev ShortIn : Result Led BadReply → Type 0
ShortIn (Ok led) = Short led
ShortIn (Err fault) = ⊤

pub no_data : (led : Led) → brings led.effect ≡ None → Short led
no_data led none = record { are = λ data_is is. absurd (none-some data_is (sym none ∙ is)) }

pub some_data : (led : Led) (bytes : List ℕ) → brings led.effect ≡ Some bytes → length bytes ≤ MAX_MESSAGE_SIZE → Short led
some_data led bytes some short = record { are = λ data_is is. subst (λ (x : List ℕ). length x ≤ MAX_MESSAGE_SIZE) (same_Some bytes data_is (sym some ∙ is)) short }

module _ (q : ReqSetup) (h : History) (f : Free) (came : Came) where
  measured_data : (op : ℕ) (answer : List ℕ) (measured : MeasuredMessage) → reading_of came answer ≡ Ok (Measurements measured) → length answer ≤ MAX_MESSAGE_SIZE → Short (measured_led op measured (Grants (AskMeasure op) answer))
  measured_data op answer measured reads short =
      let fits = measured_short (hash_len (session_terms came.steps)) answer measured reads in
      some_data _ measured.block_bytes (ap blocks_of (measured_value (hash_len (session_terms came.steps)) answer measured reads)) (omega (arith, fits, short))

  error_data : (ask : Ask) (code : ℕ) (extended : List ℕ) → ShortIn (error_led q h f came ask code extended)
  error_data ask code extended =
      either ShortIn (follows came ask code) (Ok (first_get q h f came (op_in ask) extended)) (if outlives_error ask then Ok (is_refused code Nothing) else Err _) (no_data _ refl)
      (either ShortIn (outlives_error ask) (Ok (is_refused code Nothing)) (Err _) (no_data _ refl) tt)

  update_data : (all echo : Bool) → ShortIn (update_led q h f came all echo)
  update_data all true = no_data _ refl
  update_data all false = tt

  verified_data : (echo : Bool) → ShortIn (verified_led came echo)
  verified_data true = no_data _ refl
  verified_data false = tt

  whole_data : (op : ℕ) (whole : List ℕ) (reading : Result ResponseMessage Malformed) → reading_of came whole ≡ reading → length whole ≤ MAX_MESSAGE_SIZE → ShortIn (whole_led q h f came op whole reading)
  whole_data op whole (Err fault) reads short = tt
  whole_data op whole (Ok (Error version code detail extended)) reads short =
      either Short (code == LARGE_RESPONSE && not (has_reached 65300 came.steps)) (first_get q h f came op extended) (is_refused code Nothing) (no_data _ refl) (no_data _ refl)
  whole_data op whole (Ok (Measurements measured)) reads short = measured_data op whole measured reads short
  whole_data op whole (Ok _) reads short = tt

  chunk_data : (op handle number : ℕ) (before : List ChunkMessage) (c : ChunkMessage) (fault : Option ChunkFault) → told_size before ≤ MAX_MESSAGE_SIZE → get_fault q.max handle number before c ≡ fault → ShortIn (chunk_led q h f came op before c fault)
  chunk_data op handle number before c (Some fault) told is = tt
  chunk_data op handle number before c None told is =
      either ShortIn c.last (whole_led q h f came op (joined_with before c) (reading_of came (joined_with before c))) (Ok _)
      (whole_data op (joined_with before c) (reading_of came (joined_with before c)) refl (joined_short q.max handle number before c told is)) (no_data _ refl)

  message_data : (ask : Ask) (value : ResponseMessage) → AreBehind q ask → reading_of came (message_in came) ≡ Ok value → length (message_in came) ≤ MAX_MESSAGE_SIZE → ShortIn (message_led q h f came ask value)
  message_data ask (Error version code detail extended) behind reads short = error_data ask code extended
  message_data AskFinish PskFinishRsp behind reads short = no_data _ refl
  message_data AskBeat HeartbeatAck behind reads short = no_data _ refl
  message_data (AskUpdate all) (KeyUpdateAck op tag) behind reads short = update_data all (echoes came (operation_of all) op tag)
  message_data AskVerify (KeyUpdateAck op tag) behind reads short = verified_data (echoes came 3 op tag)
  message_data (AskMeasure op) (Measurements measured) behind reads short = measured_data op (message_in came) measured reads short
  message_data AskEnd EndSessionAck behind reads short = no_data _ refl
  message_data (AskChunk op handle number before) (ChunkResponse c) behind reads short = chunk_data op handle number before c (get_fault q.max handle number before c) behind.told refl
  message_data ask value behind reads short = tt

  read_data : (ask : Ask) (reading : Result ResponseMessage Malformed) → AreBehind q ask → reading_of came (message_in came) ≡ reading → length (message_in came) ≤ MAX_MESSAGE_SIZE → ShortIn (read_led q h f came ask reading)
  read_data ask (Err fault) behind reads short = tt
  read_data ask (Ok value) behind reads short = message_data ask value behind reads short

  own_data : (ask : Ask) → length (message_in came) ≤ MAX_MESSAGE_SIZE → ShortIn (data_led came ask)
  own_data AskData short = some_data _ (message_in came) refl short
  own_data _ short = tt

  -- The inner message has a type, and is short.
  inner_short : (spdm data_type long over : Bool) (n : ℕ) → (spdm && long) ≡ false → (data_type && over) ≡ false → not (spdm || data_type) ≡ false → (long ≡ false → n ≤ MAX_MESSAGE_SIZE) → (over ≡ false → n ≤ MAX_MESSAGE_SIZE) → n ≤ MAX_MESSAGE_SIZE
  inner_short true data_type long over n a b c x y = x a
  inner_short false true long over n a b c x y = y b
  inner_short false false long over n a b c x y = absurd (false≢true (sym c))

  message_short : HasSizes q → inner_fault q came.inner ≡ None → length (message_in came) ≤ MAX_MESSAGE_SIZE
  message_short sizes none =
      let spdm = slice_index came.inner 0 == 5 && nat_lt q.transfer (length (message_in came)) in
      let data_long = slice_index came.inner 0 == 1 && nat_lt 1024 (length (message_in came)) in
      let no_type = not (slice_index came.inner 0 == 5 || slice_index came.inner 0 == 1) in
      let first = both spdm bad.TooLong (if data_long then Some bad.TooLong else (if no_type then Some (bad.Malformed 0) else None)) none in
      let second = both data_long bad.TooLong (if no_type then Some (bad.Malformed 0) else None) first.1 in
      let third = both no_type (bad.Malformed 0) None second.1 in
      inner_short (slice_index came.inner 0 == 5) (slice_index came.inner 0 == 1) (nat_lt q.transfer (length (message_in came))) (nat_lt 1024 (length (message_in came))) (length (message_in came)) first.0 second.0 third.0
      (λ is. at_most q.transfer (length (message_in came)) is sizes.transfer) (λ is. at_most 1024 (length (message_in came)) is (omega arith))
    where
      at_most : (n k : ℕ) → nat_lt n k ≡ false → n ≤ MAX_MESSAGE_SIZE → k ≤ MAX_MESSAGE_SIZE
      at_most n k is room = grind (arith, nat_tests)

  inner_data_by : (ask : Ask) (fault : Option BadReply) → HasSizes q → AreBehind q ask → inner_fault q came.inner ≡ fault → ShortIn (inner_led_by q h f came ask fault)
  inner_data_by ask (Some fault) sizes behind is = tt
  inner_data_by ask None sizes behind is =
      let short = message_short sizes is in
      either ShortIn (slice_index came.inner 0 == 5) (read_led q h f came ask (reading_of came (message_in came))) (data_led came ask) (read_data ask (reading_of came (message_in came)) behind refl short) (own_data ask short)

  or_lost_data : (result : Result Led BadReply) → ShortIn result → Short (or_lost came result)
  or_lost_data (Ok led) short = short
  or_lost_data (Err fault) short = no_data _ refl

  record_data : (ask : Ask) → HasSizes q → AreBehind q ask → Short (or_lost came (inner_led q h f came ask))
  unfolding inner_led
  record_data ask sizes behind = or_lost_data (inner_led_by q h f came ask (inner_fault q came.inner)) (inner_data_by ask (inner_fault q came.inner) sizes behind refl)

-- The data of a record that was taken.
pub brought_short : (q : ReqSetup) (h : History) (owner : Bool) (tag : ℕ) (body : List ℕ) (f : Free) (d : Draw) (entry : Entry) (data_is : List ℕ) → HasSizes q → Holds q h → hears q h owner tag body f d ≡ Adds entry → is_clear body ≡ false → brought_by entry ≡ Some data_is
    → length data_is ≤ MAX_MESSAGE_SIZE
brought_short q h owner tag body f d entry data_is sizes holds is sealed brings_it =
    let r = taken_opened q h owner tag body f d entry is sealed in
    let o : IsOutstanding q h r.sent.content (InSession r.id r.ask) = subst (IsOutstanding q h r.sent.content) r.aims (subst (Waits q h) r.waits holds.waits) in
    (record_data q h f (came_to q h r.id r.ask (drop 1 body)) r.ask sizes o.1).are data_is (ap brought_by (sym r.is) ∙ brings_it)
