-- What a requester keeps while it waits for measurements in a session, by its own history alone: what was asked, and of
-- a large answer the chunks that came.
use Rattle.std.proofs.Common.{◌≡◌, ℕ, List, [], ◌∷◌, length, Bool, true, false, cond, Option, Some, None, refl, sym, ap, ◌∙◌, subst, inl, inr}
use Rattle.std.specs.Prelude.{nat_lt}
use Rattle.requester_machine.proofs.Entries.{asked}
use Rattle.requester_machine.specs.Asking.{Outcome, done, resent}
use Rattle.requester_machine.specs.Asking.Outcome.{Adds}
use Rattle.requester_machine.specs.Commands.{Free, exchange_for}
use Rattle.requester_machine.specs.Does.{command_chosen, requester_asks}
use Rattle.requester_machine.specs.History.{Effect, History, Led, connection_terms, next_handle, outstanding}
use Rattle.requester_machine.specs.History.Entry.{Told, TookClear, TookRecord}
use Rattle.requester_machine.specs.Message.{Aim, Ask, Command, Content, Sent}
use Rattle.requester_machine.specs.Message.Aim.{Plain, ByChunks, ForChunk, InSession}
use Rattle.requester_machine.specs.Message.Ask.{AskFinish, AskData, AskBeat, AskUpdate, AskVerify, AskMeasure, AskChunk, AskEnd}
use Rattle.requester_machine.specs.Message.Command.{Connect, Open, Send, Beat, Update, Measure, End, Retry}
use Rattle.requester_machine.specs.Sending.{inner_request, piece_sent, plain_sent}
use Rattle.requester_machine.specs.Session.{session_of, t2_of}
use Rattle.requester_machine.specs.Setup.{ReqSetup}
use Rattle.requester_machine.specs.Shown.{blocks_in, last_data}
use Rattle.responder_machine.specs.Setup.{RspSetup}
use Rattle.responder_machine.specs.Turn.{Turn}
use Rattle.secured_record.specs.Format.{plain_text}
use Rattle.spdm_agreement.proofs.Requester.ClearLeads.{IsClearAim, NextClear}
use Rattle.spdm_agreement.proofs.Requester.Entries.{IsTookClear}
use Rattle.spdm_agreement.specs.Marks.{Text, heard}
use Rattle.spdm_agreement.specs.Story.{Past, asked_from, sent_text}
use Rattle.spdm_grammar.specs.Message.{ChunkMessage, RequestMessage}
use Rattle.spdm_grammar.specs.Message.RequestMessage.{ChunkGet, GetMeasurements}
use Rattle.spdm_grammar.specs.Requests.{canonical_request}
use Rattle.spdm_grammar.specs.declared.told.event.Event.TheVariants as event
use Rattle.spdm_grammar.specs.declared.told.event.Finished.TheVariants as finished
use Rattle.spdm_machine.proofs.Members.{some_same}
use Rattle.spdm_machine.specs.Keys.{Draw}
use Rattle.spdm_progress.specs.Measuring.{number_for, record_for}
use Rattle.transcript.specs.Transcripts.{Negotiation}
use Rattle.attest_laws.proofs.Exchanges.{AreTurns}
use Rattle.attest_laws.proofs.Reading.{IsFetching}
use Rattle.attest_laws.proofs.Shapes.{op_asked}
use Rattle.attest_laws.specs.Measured.{last_command}

-- ---- What waits.

-- GET_MEASUREMENTS, by a command.
pub record AwaitsAnswer (h : History) (id op : ℕ) (text : Text) : Type 0 where
  pub pad : List ℕ
  pub text_is : text ≡ plain_text (inner_request (GetMeasurements op)) pad
  pub command : last_command h ≡ Some (Measure (Some id) op)

-- CHUNK_GET, for the chunk that comes next, whatever turns the exchanges of the session were.
pub record AwaitsChunk (prior : Past) (r : RspSetup) (q : ReqSetup) (h : History) (id op handle number : ℕ) (before : List ChunkMessage) (text : Text) : Type 0 where
  pub pad : List ℕ
  pub text_is : text ≡ plain_text (inner_request (ChunkGet handle number)) pad
  pub command : last_command h ≡ Some (Measure (Some id) op)
  pub fetching : (n : Negotiation) (turns : List Turn) → AreTurns r n (heard (t2_of (session_of id h)) (asked_from prior q h)) turns → IsFetching r n op handle number before turns

abbrev pub AskAwaits : Past → RspSetup → ReqSetup → History → (id : ℕ) → Text → Ask → Type 0
AskAwaits prior r q h id text (AskMeasure op) = AwaitsAnswer h id op text
AskAwaits prior r q h id text (AskChunk op handle number before) = AwaitsChunk prior r q h id op handle number before text
AskAwaits prior r q h id text _ = Unit {0}

abbrev pub AimAwaits : Past → RspSetup → ReqSetup → History → Content → Aim → Type 0
AimAwaits prior r q h c (InSession id ask) = AskAwaits prior r q h id (sent_text c) ask
AimAwaits prior r q h c _ = Unit {0}

abbrev pub Awaits : Past → RspSetup → ReqSetup → History → Option Sent → Type 0
Awaits prior r q h None = Unit {0}
Awaits prior r q h (Some x) = AimAwaits prior r q h x.content x.aim

-- Where measurements are asked for, a command asked for them.
pub awaited_command : (prior : Past) (r : RspSetup) (q : ReqSetup) (h : History) (id op : ℕ) (text : Text) (ask : Ask) → AskAwaits prior r q h id text ask → op_asked ask ≡ Some op → last_command h ≡ Some (Measure (Some id) op)
awaited_command prior r q h id op text (AskMeasure asked) k is = k.command ∙ ap (λ (n : ℕ). Some (Measure (Some id) n)) (some_same asked op is)
awaited_command prior r q h id op text (AskChunk asked handle number before) k is = k.command ∙ ap (λ (n : ℕ). Some (Measure (Some id) n)) (some_same asked op is)
awaited_command prior r q h id op text AskFinish k is = absurd (cc)
awaited_command prior r q h id op text AskData k is = absurd (cc)
awaited_command prior r q h id op text AskBeat k is = absurd (cc)
awaited_command prior r q h id op text (AskUpdate all) k is = absurd (cc)
awaited_command prior r q h id op text AskVerify k is = absurd (cc)
awaited_command prior r q h id op text AskEnd k is = absurd (cc)

-- ---- Commands.

abbrev ToldAwaits : Past → RspSetup → ReqSetup → History → Outcome → Type 0
ToldAwaits prior r q h (Adds (Told command x d)) = Awaits prior r q (Told command x d ∷ h) (Some x)
ToldAwaits prior r q h _ = Unit {0}

resent_awaits : (prior : Past) (r : RspSetup) (q : ReqSetup) (h : History) (o : Option Sent) → ToldAwaits prior r q h (resent o)
resent_awaits prior r q h None = tt
resent_awaits prior r q h (Some x) = tt

clear_awaits : (prior : Past) (r : RspSetup) (q : ReqSetup) (h : History) (c : Content) (aim : Aim) → IsClearAim aim → AimAwaits prior r q h c aim
clear_awaits prior r q h c (InSession id ask) is = absurd is
clear_awaits prior r q h c (Plain v) is = tt
clear_awaits prior r q h c (ByChunks v handle number) is = tt
clear_awaits prior r q h c (ForChunk v handle number before) is = tt

large_awaits : (prior : Past) (r : RspSetup) (q : ReqSetup) (h : History) (command : Command) (d : Draw) (b : Bool) (x y : Sent) → IsClearAim x.aim → IsClearAim y.aim → ToldAwaits prior r q h (Adds (Told command (cond b x y) d))
large_awaits prior r q h command d true x y one other = clear_awaits prior r q (Told command x d ∷ h) x.content x.aim one
large_awaits prior r q h command d false x y one other = clear_awaits prior r q (Told command y d ∷ h) y.content y.aim other

done_awaits : (prior : Past) (r : RspSetup) (q : ReqSetup) (h : History) (c : Command) (f : Free) (d : Draw) → ToldAwaits prior r q h (done q h c f d)
done_awaits prior r q h Connect f d = tt
done_awaits prior r q h (Open summary) f d =
    large_awaits prior r q h (Open summary) d (nat_lt (connection_terms h).common.to_responder.transfer (length (canonical_request (exchange_for q f summary)))) (piece_sent (connection_terms h).common h (exchange_for q f summary) (next_handle h) 0) (plain_sent h (exchange_for q f summary)) tt tt
done_awaits prior r q h (Send id bytes) f d = tt
done_awaits prior r q h (Beat id) f d = tt
done_awaits prior r q h (Update id all) f d = tt
done_awaits prior r q h (Measure None op) f d =
    large_awaits prior r q h (Measure None op) d (nat_lt (connection_terms h).common.to_responder.transfer (length (canonical_request (GetMeasurements op)))) (piece_sent (connection_terms h).common h (GetMeasurements op) (next_handle h) 0) (plain_sent h (GetMeasurements op)) tt tt
done_awaits prior r q h (Measure (Some id) op) f d = record { pad = f.pad; text_is = refl; command = refl }
done_awaits prior r q h (End id) f d = tt
done_awaits prior r q h Retry f d = resent_awaits prior r q h (outstanding h)

pub told_awaits : (prior : Past) (r : RspSetup) (q : ReqSetup) (h : History) (c : Command) (x : Sent) (d : Draw) → requester_asks false q h c d ≡ Adds (Told c x d) → Awaits prior r q (Told c x d ∷ h) (Some x)
told_awaits prior r q h c x d is =
    let a = asked false q h c (command_chosen q h d) d (Told c x d) is in
    subst (ToldAwaits prior r q h) a.1 (done_awaits prior r q h c (command_chosen q h d) d)

-- ---- Clear messages.

next_awaits : (prior : Past) (r : RspSetup) (q : ReqSetup) (h : History) (v : RequestMessage) (effect : Effect) (next : Option Sent) → NextClear v effect next → Awaits prior r q h next
next_awaits prior r q h v effect None k = tt
next_awaits prior r q h v effect (Some x) k = clear_awaits prior r q h x.content x.aim k.1

pub clear_led_awaits : (prior : Past) (r : RspSetup) (q : ReqSetup) (h now : History) (f : Free) (body m : List ℕ) (led : Led) → IsTookClear q h f body m led → Awaits prior r q now led.next
clear_led_awaits prior r q h now f body m led k = elim k.led_to [
  | inl x ↦ subst (λ (y : Led). Awaits prior r q now y.next) (sym x.is) tt
  | inr a ↦ next_awaits prior r q now k.asked led.effect led.next a.next
]

-- ---- What was measured.

-- With the newest entry, measurements came of an operation, and the command behind it asked for them.
pub record IsMeasuredBy (r : RspSetup) (id number : ℕ) (brought : Effect) (now : History) : Type 0 where
  pub op : ℕ
  pub asked : last_command now ≡ Some (Measure (Some id) op)
  pub came : blocks_in brought ≡ Some (record_for r op)
  pub taken : last_data now ≡ record_for r op
  pub told : number ≡ number_for r op

-- So it is of each record that tells measurements, where the exchanges of its session are turns of the responder.
abbrev pub AreMeasured : Past → RspSetup → ReqSetup → History → Type 0
AreMeasured prior r q [] = Unit {0}
AreMeasured prior r q (Told command sent d ∷ older) = AreMeasured prior r q older
AreMeasured prior r q (TookClear tag m led d ∷ older) = AreMeasured prior r q older
AreMeasured prior r q (TookRecord tag id sealed inner led d ∷ older) =
    ((number : ℕ) → led.event ≡ event.Done (finished.Measured number)
    → (n : Negotiation) (turns : List Turn) → AreTurns r n (heard (t2_of (session_of id older)) (asked_from prior q (TookRecord tag id sealed inner led d ∷ older))) turns
    → IsMeasuredBy r id number led.effect (TookRecord tag id sealed inner led d ∷ older))
    × AreMeasured prior r q older
