-- A text calls for one answer, and where nothing fails it is given.
use Rattle.std.proofs.Common.{◌≡◌, ◌∙◌, ◌≤◌, ◌<◌, ◌⊎◌, inl, inr, ℕ, List, [], ◌++◌, length, refl, ap, sym, subst, arith, drop, take, Bool, Option, Some, None, false, true, Result, Ok, Err}
use Rattle.std.proofs.lemmas.Bool.{false≢true, true≢false}
use Rattle.std.proofs.lemmas.List.{append-nil, take-append-drop}
use Rattle.std.proofs.lemmas.Option.{none-some, same_Some}
use Rattle.std.specs.Prelude.{is_ok}
use Rattle.std.specs.Result.{result_unwrap_or}
use Rattle.check_laws.proofs.Exclusive.{one_verdict}
use Rattle.check_laws.specs.Judged.{why_of}
use Rattle.check_laws.specs.Verdict.{IsSame, IsVerdict, OneVerdict}
use Rattle.check_laws.specs.declared.verdict.Verdict.{Verdict}
use Rattle.check_laws.specs.declared.verdict.Verdict.TheVariants as verdict
use Rattle.script_ends.specs.Configured.{configuration_in}
use Rattle.script_text.specs.Reading.{BadLine, bad_line_in}
use Rattle.script_text.specs.ScriptText.{capture_in}
use Rattle.script_text.specs.declared.configuration.config_text.TheConstants.{TEXT_LIMIT}
use Rattle.script_text.specs.declared.texts.faults.ScriptFault.{ScriptFault}
use Rattle.script_text.specs.declared.texts.script.Capture.{Capture}
use Rattle.spdm_grammar.specs.declared.told.why.Why as declared
use Rattle.spdm_grammar.specs.declared.told.why.Why.TheVariants as why
use Rattle.spdm_basis.specs.Stream.{Gives, HasFault, IsQuiet}
use Rattle.capture_machine.proofs.Captures.{beginning, has_table}
use Rattle.capture_machine.proofs.WalksAlike.{one_reason, one_table}
use Rattle.capture_machine.specs.Capture.{Conforms}
use Rattle.capture_machine.specs.Difference.{IsDifference, Why}
use Rattle.capture_machine.specs.Difference.Why.{BadPacket, BadRecord, BadReply, BadRequest, BadVerify, UnknownEnd, WrongTurn}
use Rattle.trace_check.specs.Answers.{Finding, HasFinding, HasVerdict, IsAnswered, IsCapture, IsExact, answer_for}
use Rattle.trace_check.specs.Answers.Finding.{BadText, Judged, LongText}
use Rattle.trace_check.specs.declared.answer.CheckAnswer.{CheckAnswer}
use Rattle.trace_check.specs.declared.answer.CheckAnswer.TheVariants as answer
use Rattle.trace_check.specs.declared.answer.CheckFault.{CheckFault}
use Rattle.trace_check.specs.declared.answer.CheckFault.TheVariants as fault
use Rattle.world_machine.specs.Setup.{Configuration}

-- ---- The reason that is told is that of the definitions.

abbrev reason_told : Why → declared.Why
reason_told BadPacket = why.BadPacket
reason_told UnknownEnd = why.UnknownEnd
reason_told WrongTurn = why.WrongTurn
reason_told BadRequest = why.BadRequest
reason_told BadReply = why.BadReply
reason_told BadVerify = why.BadVerify
reason_told BadRecord = why.BadRecord

told_again : (w : declared.Why) → reason_told (why_of w) ≡ w
told_again why.BadPacket = refl
told_again why.UnknownEnd = refl
told_again why.WrongTurn = refl
told_again why.BadRequest = refl
told_again why.BadReply = refl
told_again why.BadVerify = refl
told_again why.BadRecord = refl

one_told : (w v : declared.Why) → why_of w ≡ why_of v → w ≡ v
one_told w v same = sym (told_again w) ∙ ap reason_told same ∙ told_again v

-- ---- One finding.

always_one : OneVerdict
always_one = one_verdict beginning has_table one_table one_reason

-- A text has at most one verdict.
same_verdict : (text : List ℕ) (one other : Verdict) → HasVerdict text one → HasVerdict text other → IsSame one other
same_verdict text one other has its =
    let same : its.0 ≡ has.0 = ap (λ (r : Result Capture ScriptFault). result_unwrap_or r has.0) (sym its.1.1 ∙ has.1.1) in
    always_one (configuration_in has.0.config) has.0.packets one other has.2
    (subst (λ (c : Capture). IsVerdict (configuration_in c.config) c.packets other) same its.2)

same_answer : (one other : Verdict) → IsSame one other → answer_for (Judged one) ≡ answer_for (Judged other)
same_answer (verdict.Conforms table) (verdict.Conforms other) same = refl
same_answer (verdict.Differs packet w) (verdict.Differs other v) same =
    ap (λ (n : ℕ). answer_for (Judged (verdict.Differs n w))) same.0 ∙ ap (λ (x : declared.Why). answer_for (Judged (verdict.Differs other x))) (one_told w v same.1)
same_answer (verdict.Conforms table) (verdict.Differs other v) same = absurd same
same_answer (verdict.Differs packet w) (verdict.Conforms other) same = absurd same

short_long : (n m : ℕ) → n ≤ m → m < n → ⊥
short_long n m le lt = omega (arith, le, lt)

no_bad_line : (read : Result Capture ScriptFault) (c : Capture) (bad : BadLine) → read ≡ Ok c → bad_line_in read ≡ Some bad → ⊥
no_bad_line read c bad ok is = none-some bad (sym (ap bad_line_in ok) ∙ is)

pub one_answer : (text : List ℕ) (one other : Finding) → HasFinding text one → HasFinding text other → answer_for one ≡ answer_for other
one_answer text LongText LongText long its = refl
one_answer text LongText (BadText bad) long its = absurd (short_long (length text) TEXT_LIMIT its.0 long)
one_answer text LongText (Judged told) long its = absurd (short_long (length text) TEXT_LIMIT its.1.0 long)
one_answer text (BadText bad) LongText is long = absurd (short_long (length text) TEXT_LIMIT is.0 long)
one_answer text (BadText bad) (BadText other) is its = ap (λ (b : BadLine). answer_for (BadText b)) (same_Some bad other (sym is.1 ∙ its.1))
one_answer text (BadText bad) (Judged told) is its = absurd (no_bad_line (capture_in text) its.0 bad its.1.1 is.1)
one_answer text (Judged told) LongText is long = absurd (short_long (length text) TEXT_LIMIT is.1.0 long)
one_answer text (Judged told) (BadText bad) is its = absurd (no_bad_line (capture_in text) is.0 bad is.1.1 its.1)
one_answer text (Judged told) (Judged other) is its = same_answer told other (same_verdict text told other is its)

-- ---- What is answered where no call failed.

-- It is allocation failure, or comes of a finding.
abbrev IsTold : (text : List ℕ) → Result CheckAnswer CheckFault → Type 0
IsTold text given =
    (given ≡ Err fault.OutOfMemory) ⊎ ((f : Finding) × HasFinding text f × (given ≡ answer_for f))

told_of : (text : List ℕ) (old now : Option (List ℕ)) (given : Result CheckAnswer CheckFault)
    → IsAnswered text old now given → (given ≡ Err fault.ReadFault → ⊥) → (given ≡ Err fault.WriteFault → ⊥)
    → IsTold text given
told_of text old now (Ok answer.Conforms) is read wrote = inr (Judged (verdict.Conforms is.0), is.1.has, refl)
told_of text old now (Ok (answer.Differs packet w)) is read wrote = inr (Judged (verdict.Differs packet w), is.has, refl)
told_of text old now (Err (fault.Line line f)) is read wrote = inr (BadText (record { line = line; fault = f }), is, refl)
told_of text old now (Err fault.TooLong) is read wrote = inr (LongText, is, refl)
told_of text old now (Err fault.WriteFault) is read wrote = absurd (wrote refl)
told_of text old now (Err fault.ReadFault) is read wrote = absurd (read refl)
told_of text old now (Err fault.OutOfMemory) is read wrote = inl refl

pub exactly : (text : List ℕ) (old now : Option (List ℕ)) (found : Finding) (given : Result CheckAnswer CheckFault)
    → HasFinding text found → IsAnswered text old now given → (given ≡ Err fault.ReadFault → ⊥) → (given ≡ Err fault.WriteFault → ⊥)
    → (given ≡ Err fault.OutOfMemory) ⊎ (given ≡ answer_for found)
exactly text old now found given has is read wrote = by_told (told_of text old now given is read wrote)
  where
    by_told : IsTold text given
        → (given ≡ Err fault.OutOfMemory) ⊎ (given ≡ answer_for found)
    by_told (inl none) = inl none
    by_told (inr own) = inr (own.2 ∙ one_answer text own.0 found own.1 has)

-- A capture is judged.
pub completely : (text : List ℕ) (old now : Option (List ℕ)) (given : Result CheckAnswer CheckFault)
    → length text ≤ TEXT_LIMIT → bad_line_in (capture_in text) ≡ None
    → IsAnswered text old now given → (given ≡ Err fault.ReadFault → ⊥) → (given ≡ Err fault.WriteFault → ⊥)
    → (given ≡ Err fault.OutOfMemory) ⊎ (is_ok given ≡ true)
completely text old now (Ok told) short good is read wrote = inr refl
completely text old now (Err (fault.Line line f)) short good is read wrote = absurd (none-some (record { line = line; fault = f }) (sym good ∙ is.1))
completely text old now (Err fault.TooLong) short good is read wrote = absurd (short_long (length text) TEXT_LIMIT short is)
completely text old now (Err fault.WriteFault) short good is read wrote = absurd (wrote refl)
completely text old now (Err fault.ReadFault) short good is read wrote = absurd (read refl)
completely text old now (Err fault.OutOfMemory) short good is read wrote = inl refl

-- ---- The verdict on a capture.

-- What conforms has no first difference.
no_difference : (w : Configuration) (packets : List (List ℕ)) (number : ℕ) (why : Why) → Conforms w packets → IsDifference w packets number why → ⊥
no_difference w packets number why conforms is =
    is.first.at (beginning w (take number packets) (drop number packets) (subst (Conforms w) (sym (take-append-drop number packets)) conforms))

abbrev conforms_in : Result CheckAnswer CheckFault → Bool
conforms_in (Ok answer.Conforms) = true
conforms_in _ = false

abbrev number_in : Result CheckAnswer CheckFault → ℕ
number_in (Ok (answer.Differs packet w)) = packet
number_in _ = 0

abbrev reason_in : Result CheckAnswer CheckFault → declared.Why
reason_in (Ok (answer.Differs packet w)) = w
reason_in _ = why.BadPacket

judged_exactly : (capture : Capture) (told : Verdict) → IsVerdict (configuration_in capture.config) capture.packets told → IsExact capture (answer_for (Judged told))
judged_exactly capture (verdict.Conforms table) has =
    let w : Configuration = configuration_in capture.config in
    let conforms : Conforms w capture.packets = (has_table w capture.packets).1 _ has in
    record {
      conforms = (λ is. conforms, λ c. refl);
      differs = λ packet reason. (λ is. absurd (true≢false (ap conforms_in is)), λ d. absurd (no_difference w capture.packets packet (why_of reason) conforms d));
    }
judged_exactly capture (verdict.Differs number because) has =
    let w : Configuration = configuration_in capture.config in
    record {
      conforms = (λ is. absurd (false≢true (ap conforms_in is)), λ c. absurd (no_difference w capture.packets number (why_of because) c has));
      differs = λ packet reason. (
        (λ is. subst (λ (n : ℕ). IsDifference w capture.packets n (why_of reason)) (ap number_in is)
            (subst (λ (r : declared.Why). IsDifference w capture.packets number (why_of r)) (ap reason_in is) has)),
        (λ d. let one = one_reason w capture.packets number packet (why_of because) (why_of reason) has d in
            ap (λ (n : ℕ). answer_for (Judged (verdict.Differs n because))) one.0 ∙ ap (λ (r : declared.Why). answer_for (Judged (verdict.Differs packet r))) (one_told because reason one.1)),
      );
    }

-- A capture that is the text has this verdict.
text_exactly : (text : List ℕ) (capture : Capture) (told : Verdict) → IsCapture text capture → HasVerdict text told → IsExact capture (answer_for (Judged told))
text_exactly text capture told is has =
    let same : has.0 ≡ capture = ap (λ (r : Result Capture ScriptFault). result_unwrap_or r has.0) (sym has.1.1 ∙ is.1) in
    judged_exactly capture told (subst (λ (c : Capture). IsVerdict (configuration_in c.config) c.packets told) same has.2)

-- Where no call failed and memory did not run out, the verdict is exact.
pub exact_verdict : (text : List ℕ) (old now : Option (List ℕ)) (capture : Capture) (given : Result CheckAnswer CheckFault)
    → IsCapture text capture → IsAnswered text old now given → (given ≡ Err fault.ReadFault → ⊥) → (given ≡ Err fault.WriteFault → ⊥)
    → (given ≡ Err fault.OutOfMemory) ⊎ IsExact capture given
exact_verdict text old now capture given is answered read wrote = by_told (told_of text old now given answered read wrote)
  where
    by_finding : (f : Finding) → HasFinding text f → given ≡ answer_for f → IsExact capture given
    by_finding LongText long same = absurd (short_long (length text) TEXT_LIMIT is.0 long)
    by_finding (BadText bad) has same = absurd (no_bad_line (capture_in text) capture bad is.1 has.1)
    by_finding (Judged told) has same = subst (IsExact capture) (sym same) (text_exactly text capture told is has)

    by_told : IsTold text given → (given ≡ Err fault.OutOfMemory) ⊎ IsExact capture given
    by_told (inl none) = inl none
    by_told (inr own) = inr (by_finding own.0 own.1 own.2)

-- ---- What was read.

-- All that a source had left is its text.
pub read_is : (old : Option (List ℕ)) (bytes text : List ℕ) → Gives old bytes (Some []) → old ≡ Some text → bytes ≡ text
read_is old bytes text gives is =
    let given = gives text is in
    let rest : given.0 ≡ [] = sym (same_Some [] given.0 given.1) in
    sym (given.2 ∙ ap (λ (r : List ℕ). bytes ++ r) rest ∙ append-nil bytes)

-- A count that shows no fault shows none.
pub not_faulty : (before after : ℕ) → IsQuiet before after → HasFault before after → ⊥
not_faulty before after quiet (inl rose) = let same = quiet.0 in omega (arith, same, rose)
not_faulty before after quiet (inr last) = let low = quiet.1 in omega (arith, low, last)
