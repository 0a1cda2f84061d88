-- The application data that a requester took are those in the texts of its marks.
use Rattle.std.proofs.Common.{◌≡◌, ℕ, ◌<◌, ◌≤◌, ◌==◌, ◌&&◌, ◌||◌, not, List, [], ◌∷◌, length, drop, nat_lt, slice_index, Bool, true, false, cond, Option, Some, None, Result, Ok, Err, refl, sym, ap, ◌∙◌, inl, inr, arith, true≢false, eqb-true}
use Rattle.std.proofs.lemmas.Bool.{leb-false, lt-leb, leb-true, le-leb}
use Rattle.requester_machine.specs.Commands.{Free}
use Rattle.requester_machine.specs.History.{History, Effect, Led}
use Rattle.requester_machine.specs.History.Effect.{Nothing, Answers, Refuses, Stops, Grants, Loses}
use Rattle.requester_machine.specs.InnerMessages.{Came, inner_led, inner_led_by, inner_fault, read_led, message_led, data_led, or_lost, reading_of, message_in}
use Rattle.spdm_basis.specs.Tests.{first_of_tests}
use Rattle.requester_machine.specs.Message.{Ask}
use Rattle.requester_machine.specs.Message.Ask.{AskFinish, AskData, AskBeat, AskUpdate, AskVerify, AskMeasure, AskChunk, AskEnd}
use Rattle.requester_machine.specs.Order.{may_bring}
use Rattle.requester_machine.specs.Session.{ends, is_data, answer_in}
use Rattle.spdm_grammar.specs.Message.{ResponseMessage}
use Rattle.spdm_grammar.specs.Message.ResponseMessage.{Error}
use Rattle.spdm_grammar.specs.declared.told.event.BadReply.{BadReply}
use Rattle.spdm_grammar.specs.declared.told.event.BadReply.TheVariants as bad
use Rattle.spdm_grammar.specs.declared.messages.malformed.Malformed.{Malformed}
use Rattle.requester_machine.specs.Setup.{ReqSetup}
use Rattle.spdm_agreement.proofs.Requester.RecordLeads.{RecordLed, record_shape}
use Rattle.spdm_agreement.proofs.Delivery.Data.{is_data_inner}

-- It asks with application data.
abbrev pub asks_data : Ask → Bool
asks_data AskData = true
asks_data _ = false

-- ---- What an inner message brings.

pub record BringsData (ask : Ask) (inner : List ℕ) (effect : Effect) : Type 0 where
  pub told : is_data effect ≡ (asks_data ask && is_data_inner inner)
  pub answer : is_data effect ≡ true → answer_in effect ≡ drop 1 inner

brings_none : (ask : Ask) (inner : List ℕ) (effect : Effect) → is_data effect ≡ false → (asks_data ask && is_data_inner inner) ≡ false → BringsData ask inner effect
brings_none ask inner effect none quiet = record { told = none ∙ sym quiet; answer = λ e. absurd (true≢false (sym e ∙ none)) }

-- A fault that an inner message has.
fault_quiet : (one five long5 long : Bool) (e : BadReply) → (one ≡ true → five ≡ false)
    → first_of_tests ((five && long5, bad.TooLong) ∷ (one && long, bad.TooLong) ∷ (not (five || one), bad.Malformed 0) ∷ []) ≡ Some e → (one && not long) ≡ false
fault_quiet false five long5 long e apart fault = refl
fault_quiet true five long5 true e apart fault = refl
fault_quiet true true long5 false e apart fault = absurd (true≢false (apart refl))
fault_quiet true false long5 false e apart fault = absurd (cc)

none_loud : (one long5 long : Bool) → first_of_tests ((false && long5, bad.TooLong) ∷ (one && long, bad.TooLong) ∷ (not (false || one), bad.Malformed 0) ∷ []) ≡ None → (one && not long) ≡ true
none_loud false long5 long e = absurd (cc)
none_loud true long5 true e = absurd (cc)
none_loud true long5 false e = refl

one_not_five : (inner : List ℕ) → (slice_index inner 0 == 1) ≡ true → (slice_index inner 0 == 5) ≡ false
one_not_five inner e = ap (λ (n : ℕ). n == 5) (eqb-true (slice_index inner 0) 1 e)

five_quiet : (inner : List ℕ) → (slice_index inner 0 == 5) ≡ true → is_data_inner inner ≡ false
five_quiet inner e = ap (λ (n : ℕ). (n == 1) && not (nat_lt 1025 (length inner))) (eqb-true (slice_index inner 0) 5 e)

-- The two lengths.
same_long : (inner : List ℕ) → (slice_index inner 0 == 1) ≡ true → nat_lt 1024 (length (drop 1 inner)) ≡ nat_lt 1025 (length inner)
same_long [] e = absurd (cc)
same_long (x ∷ inner) e = go (nat_lt 1024 (length inner)) refl
  where
    go : (b : Bool) → nat_lt 1024 (length inner) ≡ b → nat_lt 1024 (length inner) ≡ nat_lt 1025 (length (x ∷ inner))
    go true is = is ∙ sym (le-leb 1026 (length (x ∷ inner)) (let less : 1025 ≤ length inner = leb-true 1025 (length inner) is in omega arith))
    go false is = is ∙ sym (lt-leb 1026 (length (x ∷ inner)) (let less : length inner < 1025 = leb-false 1025 (length inner) is in omega arith))

-- What is not asked with application data is not answered with them.
other_brings : (effect : Effect) (ask : Ask) → asks_data ask ≡ false → may_bring effect ask ≡ true → is_data effect ≡ false
other_brings (Grants AskData answer) AskFinish quiet brings = absurd (cc)
other_brings (Grants AskData answer) AskData quiet brings = absurd (cc)
other_brings (Grants AskData answer) AskBeat quiet brings = absurd (cc)
other_brings (Grants AskData answer) (AskUpdate all) quiet brings = absurd (cc)
other_brings (Grants AskData answer) AskVerify quiet brings = absurd (cc)
other_brings (Grants AskData answer) (AskMeasure op) quiet brings = absurd (cc)
other_brings (Grants AskData answer) (AskChunk op handle number before) quiet brings = absurd (cc)
other_brings (Grants AskData answer) AskEnd quiet brings = absurd (cc)
other_brings (Grants AskFinish answer) ask quiet brings = refl
other_brings (Grants AskBeat answer) ask quiet brings = refl
other_brings (Grants (AskUpdate all) answer) ask quiet brings = refl
other_brings (Grants AskVerify answer) ask quiet brings = refl
other_brings (Grants (AskMeasure op) answer) ask quiet brings = refl
other_brings (Grants (AskChunk op handle number before) answer) ask quiet brings = refl
other_brings (Grants AskEnd answer) ask quiet brings = refl
other_brings Nothing ask quiet brings = refl
other_brings (Answers request answer) ask quiet brings = refl
other_brings (Refuses request) ask quiet brings = refl
other_brings Stops ask quiet brings = refl
other_brings Loses ask quiet brings = refl

ended_brings : (effect : Effect) → ends effect ≡ true → is_data effect ≡ false
ended_brings (Grants AskData answer) e = absurd (cc)
ended_brings (Grants AskFinish answer) e = refl
ended_brings (Grants AskBeat answer) e = refl
ended_brings (Grants (AskUpdate all) answer) e = refl
ended_brings (Grants AskVerify answer) e = refl
ended_brings (Grants (AskMeasure op) answer) e = refl
ended_brings (Grants (AskChunk op handle number before) answer) e = refl
ended_brings (Grants AskEnd answer) e = refl
ended_brings Nothing e = refl
ended_brings (Answers request answer) e = refl
ended_brings (Refuses request) e = refl
ended_brings Stops e = refl
ended_brings Loses e = refl

other_led : (q : ReqSetup) (h : History) (f : Free) (came : Came) (ask : Ask) (led : Led) → asks_data ask ≡ false → RecordLed q h f came ask led → BringsData ask came.inner led.effect
other_led q h f came ask led quiet k =
    let none : is_data led.effect ≡ false = elim k [ inl a ↦ other_brings led.effect ask quiet a.brings | inr e ↦ ended_brings led.effect e.ends_it ] in
    brings_none ask came.inner led.effect none (ap (λ (b : Bool). b && is_data_inner came.inner) quiet)

-- An SPDM message does not answer application data with such data.
message_quiet : (q : ReqSetup) (h : History) (f : Free) (came : Came) (value : ResponseMessage) → is_data (or_lost came (message_led q h f came AskData value)).effect ≡ false
message_quiet q h f came (Error version code detail extended) = refl
message_quiet q h f came _ = refl

read_quiet : (q : ReqSetup) (h : History) (f : Free) (came : Came) (r : Result ResponseMessage Malformed) → is_data (or_lost came (read_led q h f came AskData r)).effect ≡ false
read_quiet q h f came (Err fault) = refl
read_quiet q h f came (Ok value) = message_quiet q h f came value

typed_led : (q : ReqSetup) (h : History) (f : Free) (came : Came) (b : Bool) → (slice_index came.inner 0 == 5) ≡ b → inner_fault q came.inner ≡ None
    → BringsData AskData came.inner (or_lost came (cond b (read_led q h f came AskData (reading_of came (message_in came))) (data_led came AskData))).effect
typed_led q h f came true is none = brings_none AskData came.inner _ (read_quiet q h f came (reading_of came (message_in came))) (five_quiet came.inner is)
typed_led q h f came false is none =
    let one = slice_index came.inner 0 == 1 in
    let loud : (one && not (nat_lt 1024 (length (drop 1 came.inner)))) ≡ true =
    none_loud one (nat_lt q.transfer (length (drop 1 came.inner))) (nat_lt 1024 (length (drop 1 came.inner)))
    (ap (λ (b : Bool). first_of_tests ((b && nat_lt q.transfer (length (drop 1 came.inner)), bad.TooLong) ∷ (one && nat_lt 1024 (length (drop 1 came.inner)), bad.TooLong) ∷ (not (b || one), bad.Malformed 0) ∷ [])) (sym is) ∙ none) in
    record { told = sym (as_data one refl loud); answer = λ e. refl }
  where
    as_data : (one : Bool) → (slice_index came.inner 0 == 1) ≡ one → (one && not (nat_lt 1024 (length (drop 1 came.inner)))) ≡ true → is_data_inner came.inner ≡ true
    as_data true e l = ap (λ (b : Bool). b && not (nat_lt 1025 (length came.inner))) e ∙ ap not (sym (same_long came.inner e)) ∙ l
    as_data false e l = absurd (cc)

faulty_led : (q : ReqSetup) (h : History) (f : Free) (came : Came) (o : Option BadReply) → inner_fault q came.inner ≡ o → BringsData AskData came.inner (or_lost came (inner_led_by q h f came AskData o)).effect
faulty_led q h f came (Some e) is =
    brings_none AskData came.inner Loses refl (quiet (slice_index came.inner 0 == 1) refl)
  where
    quiet : (one : Bool) → (slice_index came.inner 0 == 1) ≡ one → is_data_inner came.inner ≡ false
    quiet false p = ap (λ (b : Bool). b && not (nat_lt 1025 (length came.inner))) p
    quiet true p =
        ap (λ (b : Bool). (slice_index came.inner 0 == 1) && not b) (sym (same_long came.inner p))
        ∙ fault_quiet (slice_index came.inner 0 == 1) (slice_index came.inner 0 == 5) (nat_lt q.transfer (length (drop 1 came.inner))) (nat_lt 1024 (length (drop 1 came.inner))) e (one_not_five came.inner) is
faulty_led q h f came None is = typed_led q h f came (slice_index came.inner 0 == 5) refl is

data_asked_led : (q : ReqSetup) (h : History) (f : Free) (came : Came) → BringsData AskData came.inner (or_lost came (inner_led q h f came AskData)).effect
unfolding inner_led
data_asked_led q h f came = faulty_led q h f came (inner_fault q came.inner) refl

pub brings : (q : ReqSetup) (h : History) (f : Free) (came : Came) (ask : Ask) → BringsData ask came.inner (or_lost came (inner_led q h f came ask)).effect
brings q h f came AskFinish = other_led q h f came AskFinish _ refl (record_shape q h f came AskFinish)
brings q h f came AskData = data_asked_led q h f came
brings q h f came AskBeat = other_led q h f came AskBeat _ refl (record_shape q h f came AskBeat)
brings q h f came (AskUpdate all) = other_led q h f came (AskUpdate all) _ refl (record_shape q h f came (AskUpdate all))
brings q h f came AskVerify = other_led q h f came AskVerify _ refl (record_shape q h f came AskVerify)
brings q h f came (AskMeasure op) = other_led q h f came (AskMeasure op) _ refl (record_shape q h f came (AskMeasure op))
brings q h f came (AskChunk op handle number before) = other_led q h f came (AskChunk op handle number before) _ refl (record_shape q h f came (AskChunk op handle number before))
brings q h f came AskEnd = other_led q h f came AskEnd _ refl (record_shape q h f came AskEnd)
