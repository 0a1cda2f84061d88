-- Whatever a requester does, what it measured in sessions was the responder's, where the exchanges of those sessions are
-- turns of the responder.
use Rattle.std.proofs.Common.{◌≡◌, ℕ, ◌==◌, List, [], ◌∷◌, Bool, true, false, cond, Option, Some, None, refl, sym, ap, ◌∙◌, subst, inl, inr, eq-eqb, true≢false}
use Rattle.std.specs.Prelude.{unwrap_or}
use Rattle.std.specs.Option.{option_or}
use Rattle.std.specs.Result.{result_ok}
use Rattle.requester_machine.proofs.MadeOrder.{in_order as ordered}
use Rattle.requester_machine.proofs.Steps.{asked_stage}
use Rattle.requester_machine.specs.Commands.{Free}
use Rattle.requester_machine.specs.Does.{IsMade, body_chosen}
use Rattle.requester_machine.specs.Hearing.{came_to}
use Rattle.requester_machine.specs.History.{Effect, History, Led, outstanding}
use Rattle.requester_machine.specs.History.Effect.{Grants}
use Rattle.requester_machine.specs.History.Entry.{Told, TookClear, TookRecord}
use Rattle.requester_machine.specs.Message.{Aim, Ask, Content, Sent}
use Rattle.requester_machine.specs.Message.Aim.{Plain, ByChunks, ForChunk, InSession}
use Rattle.requester_machine.specs.Message.Ask.{AskFinish, AskData, AskBeat, AskUpdate, AskVerify, AskMeasure, AskChunk, AskEnd}
use Rattle.requester_machine.specs.Message.Command.{Measure}
use Rattle.requester_machine.specs.Message.Content.{Clear, Sealed}
use Rattle.requester_machine.specs.Order.{stage_for}
use Rattle.requester_machine.specs.Session.{Steps, after_record, answer_in, ends, finishes, finish_answer, finish_of, exchange_answer, exchange_of, is_live, session_of, session_vca, stage_of, t2_of, with_aim, with_content, with_sent}
use Rattle.requester_machine.specs.Session.Step.{Took}
use Rattle.requester_machine.specs.Setup.{ReqSetup}
use Rattle.requester_machine.specs.Shown.{blocks_in, blocks_of, bytes_in, last_data}
use Rattle.responder_machine.specs.Setup.{RspSetup}
use Rattle.responder_machine.specs.Turn.{Turn}
use Rattle.spdm_agreement.proofs.Delivery.TakenAtRequester.{IsLedBy, led_by}
use Rattle.spdm_agreement.proofs.Requester.Entries.{IsTookRecord, clear_entry, record_entry}
use Rattle.spdm_agreement.proofs.Requester.RecordLeads.{NextRecord}
use Rattle.spdm_agreement.proofs.Requester.Waiting.{waited_for}
use Rattle.spdm_agreement.specs.Marks.{Exchange, heard}
use Rattle.spdm_agreement.specs.Story.{Past, ask_in, ask_of, asked_from, sent_text}
use Rattle.spdm_grammar.specs.Message.{ChunkMessage, ResponseMessage}
use Rattle.spdm_grammar.specs.declared.told.event.Event.TheVariants as event
use Rattle.spdm_grammar.specs.declared.told.event.Finished.TheVariants as finished
use Rattle.spdm_machine.proofs.Members.{some_same}
use Rattle.spdm_machine.specs.Bodies.{clear_body, record_body}
use Rattle.spdm_machine.specs.Keys.{Draw}
use Rattle.spdm_progress.proofs.MeasureStages.{measurements}
use Rattle.spdm_progress.specs.Measuring.{number_for, record_for}
use Rattle.transcript.specs.Transcripts as transcript
use Rattle.transcript.specs.Transcripts.{Negotiation}
use Rattle.attest_laws.proofs.Answering.{chunk_leads_on, heard_now, measure_leads}
use Rattle.attest_laws.proofs.Exchanges.{AreTurns}
use Rattle.attest_laws.proofs.Reading.{GetsChunk, IsFetching, IsMeasured, LeadsOn, NoGet, NoGetAim, measured_read}
use Rattle.attest_laws.proofs.Shapes.{AimShape, AskShape, LedShape, NextShape, led_shape, op_asked}
use Rattle.attest_laws.proofs.Waiting.{AreMeasured, AskAwaits, AimAwaits, Awaits, IsMeasuredBy, awaited_command, clear_led_awaits, told_awaits}
use Rattle.attest_laws.specs.Measured.{last_command}

-- ---- The T2 of a session stays.

took_second : (s : Steps) (sealed inner : List ℕ) (effect : Effect) → finishes effect ≡ false → t2_of (Took sealed inner effect ∷ s) ≡ t2_of s
took_second s sealed inner effect other = ap (λ (b : Bool). transcript.t2_of (session_vca s) (exchange_of s) (exchange_answer s) (finish_of s) (cond b (answer_in effect) (finish_answer s))) other

-- Also where a chunk is asked for.
asked_second : (y : Steps) (op handle number : ℕ) (before : List ChunkMessage) (c : Content) → t2_of (with_content (AskChunk op handle number before) c y) ≡ t2_of y
asked_second y op handle number before (Clear message) = refl
asked_second [] op handle number before (Sealed sealed inner pad) = refl
asked_second (x ∷ y) op handle number before (Sealed sealed inner pad) = refl

aimed_second : (y : Steps) (of id op handle number : ℕ) (before : List ChunkMessage) (c : Content) (b : Bool) → t2_of (cond b (with_content (AskChunk op handle number before) c y) y) ≡ t2_of y
aimed_second y of id op handle number before c true = asked_second y op handle number before c
aimed_second y of id op handle number before c false = refl

after_second : (s : Steps) (sealed inner : List ℕ) (effect : Effect) → is_live s ≡ true → ends effect ≡ false → finishes effect ≡ false → t2_of (after_record sealed inner effect s) ≡ t2_of s
after_second [] sealed inner effect live stays other = absurd (true≢false (sym live))
after_second (x ∷ s) sealed inner effect live stays other = ap (λ (b : Bool). t2_of (cond b [] (Took sealed inner effect ∷ x ∷ s))) stays ∙ took_second (x ∷ s) sealed inner effect other

-- ---- What was measured.

-- MEASUREMENTS that came whole are the newest data.
measured_so : (r : RspSetup) (tag of number op : ℕ) (sealed inner : List ℕ) (led : Led) (d : Draw) (h : History) → IsMeasured r op led → last_command h ≡ Some (Measure (Some of) op) → led.event ≡ event.Done (finished.Measured number)
    → IsMeasuredBy r of number led.effect (TookRecord tag of sealed inner led d ∷ h)
measured_so r tag of number op sealed inner led d h k command told =
    let w = measurements r op k.nonce in
    let effect : led.effect ≡ Grants (AskMeasure op) w = ap (λ (l : Led). l.effect) k.is in
    let blocks : blocks_in led.effect ≡ Some (record_for r op) = ap blocks_in effect ∙ ap (λ (o : Option ResponseMessage). blocks_of o) (ap result_ok (measured_read r op k.nonce k.whole k.few 32)) in
    let both : option_or (bytes_in led.effect) (blocks_in led.effect) ≡ Some (record_for r op) = ap (λ (e : Effect). option_or (bytes_in e) (blocks_in led.effect)) effect ∙ blocks in
    record {
      op = op;
      asked = command;
      came = blocks;
      taken = ap (λ (o : Option (List ℕ)). unwrap_or o (last_data h)) both;
      told = (let same : event.Done (finished.Measured number) ≡ event.Done (finished.Measured (number_for r op)) = sym told ∙ ap (λ (l : Led). l.event) k.is in cc);
    }

-- ---- A record.

module _ (prior : Past) (r : RspSetup) (q : ReqSetup) (h : History) (tag of : ℕ) (sealed inner : List ℕ) (led : Led) (d : Draw) (made : IsMade q (TookRecord tag of sealed inner led d ∷ h)) (older : Awaits prior r q h (outstanding h)) where
  abbrev f : Free
  f = body_chosen q h d

  abbrev s : Steps
  s = session_of of h

  abbrev now : History
  now = TookRecord tag of sealed inner led d ∷ h

  k : IsTookRecord q h f (record_body sealed) of sealed inner led
  k = record_entry q h false tag tag (record_body sealed) of sealed inner f led d d made.0

  l : IsLedBy q h f of sealed led
  l = led_by q h false tag tag (record_body sealed) of sealed inner f led d d made.0

  awaits : AskAwaits prior r q h of (sent_text l.sent.content) l.ask
  awaits = subst (AimAwaits prior r q h l.sent.content) l.aims (subst (Awaits prior r q h) l.waits older)

  live : is_live s ≡ true
  live = (waited_for q h f (record_body sealed) of sealed inner led k made.1).0

  staged : stage_of s ≡ stage_for l.ask
  staged =
      let w = waited_for q h f (record_body sealed) of sealed inner led k made.1 in
      (asked_stage k.ask s (ordered q h of made.1).ordered w.1).0 ∙ ap stage_for (sym (ap ask_in k.waits ∙ ap ask_of k.aims) ∙ ap ask_in l.waits ∙ ap ask_of l.aims)

  shape : LedShape of l.ask led
  shape = subst (LedShape of l.ask) (sym l.is) (led_shape q h f (came_to q h of l.ask sealed) l.ask)

  -- Where measurements were asked for.
  abbrev Turned : (n : Negotiation) → List Turn → Type 0
  Turned n turns = AreTurns r n (heard (t2_of s) (asked_from prior q now)) turns

  leads_by : (ask : Ask) → l.ask ≡ ask → AskAwaits prior r q h of (sent_text l.sent.content) ask → stage_of s ≡ stage_for ask → (op : ℕ) → op_asked ask ≡ Some op → (n : Negotiation) (turns : List Turn) → Turned n turns → LeadsOn r n of op turns led
  leads_by (AskMeasure op) is waits at asked same n turns are =
      subst (λ (o : ℕ). LeadsOn r n of o turns led) (some_same op asked same)
      (measure_leads prior q h f r tag of sealed inner led d l.sent l.ask l.waits l.aims l.is at n op is waits turns
      (subst (λ (xs : List Exchange). AreTurns r n xs turns) (heard_now prior q h f r tag of sealed inner led d l.sent l.ask l.waits l.aims l.is at) are))
  leads_by (AskChunk op handle number before) is waits at asked same n turns are =
      subst (λ (o : ℕ). LeadsOn r n of o turns led) (some_same op asked same)
      (chunk_leads_on prior q h f r tag of sealed inner led d l.sent l.ask l.waits l.aims l.is at n op handle number before is waits turns
      (subst (λ (xs : List Exchange). AreTurns r n xs turns) (heard_now prior q h f r tag of sealed inner led d l.sent l.ask l.waits l.aims l.is at) are))
  leads_by AskFinish is waits at asked same n turns are = absurd (cc)
  leads_by AskData is waits at asked same n turns are = absurd (cc)
  leads_by AskBeat is waits at asked same n turns are = absurd (cc)
  leads_by (AskUpdate all) is waits at asked same n turns are = absurd (cc)
  leads_by AskVerify is waits at asked same n turns are = absurd (cc)
  leads_by AskEnd is waits at asked same n turns are = absurd (cc)

  leads : (op : ℕ) → op_asked l.ask ≡ Some op → (n : Negotiation) (turns : List Turn) → Turned n turns → LeadsOn r n of op turns led
  leads = leads_by l.ask refl awaits staged

  command_of : (op : ℕ) → op_asked l.ask ≡ Some op → last_command h ≡ Some (Measure (Some of) op)
  command_of op is = awaited_command prior r q h of op (sent_text l.sent.content) l.ask awaits is

  measured : (number : ℕ) → led.event ≡ event.Done (finished.Measured number) → (n : Negotiation) (turns : List Turn) → Turned n turns → IsMeasuredBy r of number led.effect now
  measured number told n turns are =
      let asked = shape.told number told in
      elim (leads asked.0 asked.1 n turns are) [
        | inl quiet ↦ absurd (quiet.told number told)
        | inr x ↦ elim x [
          | inl m ↦ measured_so r tag of number asked.0 sealed inner led d h m (command_of asked.0 asked.1) told
          | inr g ↦ absurd (let same : event.Progress ≡ event.Done (finished.Measured number) = sym g.event_is ∙ told in cc)
        ]
      ]

  -- ---- What is asked for next.

  stays_by : (x : Sent) (o : Option Sent) → o ≡ Some x → NextRecord q h f (came_to q h of k.ask sealed) led.effect k.ask o → finishes led.effect ≡ false
  stays_by x None is n = absurd (cc)
  stays_by x (Some y) is n = n.other

  stays : (x : Sent) → led.next ≡ Some x → (ends led.effect ≡ false) × (finishes led.effect ≡ false)
  stays x is = elim k.led_to [
    | inl a ↦ (a.stays, stays_by x led.next is a.next)
    | inr e ↦ absurd (let none : None ≡ Some x = sym e.next ∙ is in cc)
  ]

  module _ (x : Sent) (next : led.next ≡ Some x) (id op handle number : ℕ) (before : List ChunkMessage) (aim : x.aim ≡ InSession id (AskChunk op handle number before)) (own : id ≡ of) where
    with_next : (b : Bool) → b ≡ true → t2_of (cond b (with_sent of led.next (after_record sealed inner led.effect s)) s) ≡ t2_of s
    with_next false is = absurd (true≢false (sym is))
    with_next true is =
        let goes = stays x next in
        ap (λ (o : Option Sent). t2_of (with_sent of o (after_record sealed inner led.effect s))) next
        ∙ ap (λ (a : Aim). t2_of (with_aim of a x.content (after_record sealed inner led.effect s))) aim
        ∙ aimed_second (after_record sealed inner led.effect s) of id op handle number before x.content (id == of)
        ∙ after_second s sealed inner led.effect live goes.0 goes.1

    second : t2_of (session_of id now) ≡ t2_of s
    unfolding session_of
    second = ap (λ (j : ℕ). t2_of (session_of j now)) own ∙ with_next (of == of) (eq-eqb of of refl)

    -- The chunks that came so far, and the number of the next.
    fetching_as : (n : Negotiation) (turns : List Turn) → (g : GetsChunk r n of op turns led) → IsFetching r n op handle number before turns
    fetching_as n turns g =
        let sent : x ≡ g.sent = some_same x g.sent (sym next ∙ g.next) in
        let same : InSession of (AskChunk op g.handle g.k g.before) ≡ InSession id (AskChunk op handle number before) = sym g.aim ∙ sym (ap (λ (y : Sent). y.aim) sent) ∙ aim in
        let handles : g.handle ≡ handle = cc in
        let numbers : g.k ≡ number = cc in
        let chunks : g.before ≡ before = cc in
        subst (λ (j : ℕ). IsFetching r n op j number before turns) handles
        (subst (λ (j : ℕ). IsFetching r n op g.handle j before turns) numbers
        (subst (λ (j : List ChunkMessage). IsFetching r n op g.handle g.k j turns) chunks g.fetching))

    asks_none : NoGet led.next → ⊥
    asks_none none = subst NoGetAim aim (subst NoGet next none)

    fetching : op_asked l.ask ≡ Some op → (n : Negotiation) (turns : List Turn) → AreTurns r n (heard (t2_of (session_of id now)) (asked_from prior q now)) turns → IsFetching r n op handle number before turns
    fetching asked n turns are =
        elim (leads op asked n turns (subst (λ (u : List ℕ). AreTurns r n (heard u (asked_from prior q now)) turns) second are)) [
          | inl quiet ↦ absurd (asks_none quiet.next)
          | inr y ↦ elim y [
            | inl m ↦ absurd (let none : None ≡ Some x = sym (ap (λ (z : Led). z.next) m.is) ∙ next in cc)
            | inr g ↦ fetching_as n turns g
          ]
        ]

  ask_by : (x : Sent) (id : ℕ) (ask : Ask) → led.next ≡ Some x → x.aim ≡ InSession id ask → AskShape of (op_asked l.ask) id (sent_text x.content) ask → AskAwaits prior r q now id (sent_text x.content) ask
  ask_by x id (AskMeasure op) next aim shaped = absurd shaped
  ask_by x id (AskChunk op handle number before) next aim shaped = record {
    pad = shaped.2.0;
    text_is = shaped.2.1;
    command = command_of op shaped.1 ∙ ap (λ (j : ℕ). Some (Measure (Some j) op)) (sym shaped.0);
    fetching = fetching x next id op handle number before aim shaped.0 shaped.1;
  }
  ask_by x id AskFinish next aim shaped = tt
  ask_by x id AskData next aim shaped = tt
  ask_by x id AskBeat next aim shaped = tt
  ask_by x id (AskUpdate all) next aim shaped = tt
  ask_by x id AskVerify next aim shaped = tt
  ask_by x id AskEnd next aim shaped = tt

  aim_by : (x : Sent) (aim : Aim) → led.next ≡ Some x → x.aim ≡ aim → AimShape of (op_asked l.ask) x.content aim → AimAwaits prior r q now x.content aim
  aim_by x (Plain v) next is shaped = tt
  aim_by x (ByChunks v handle number) next is shaped = tt
  aim_by x (ForChunk v handle number before) next is shaped = tt
  aim_by x (InSession id ask) next is shaped = ask_by x id ask next is shaped

  next_by : (o : Option Sent) → led.next ≡ o → NextShape of (op_asked l.ask) o → Awaits prior r q now o
  next_by None is shaped = tt
  next_by (Some x) is shaped = aim_by x x.aim is refl shaped

  next_awaits : Awaits prior r q now led.next
  next_awaits = next_by led.next refl shape.next

-- ---- All that a requester did.

pub takes : (prior : Past) (r : RspSetup) (q : ReqSetup) (h : History) → IsMade q h → Awaits prior r q h (outstanding h) × AreMeasured prior r q h
takes prior r q [] made = (tt, tt)
takes prior r q (Told c x d ∷ older) made = (told_awaits prior r q older c x d made.0, (takes prior r q older made.1).1)
takes prior r q (TookClear tag m led d ∷ older) made =
    let f = body_chosen q older d in
    (clear_led_awaits prior r q older (TookClear tag m led d ∷ older) f (clear_body m) m led (clear_entry q older false tag tag (clear_body m) m f led d d made.0), (takes prior r q older made.1).1)
takes prior r q (TookRecord tag of sealed inner led d ∷ older) made =
    let was = takes prior r q older made.1 in
    (next_awaits prior r q older tag of sealed inner led d made was.0, (measured prior r q older tag of sealed inner led d made was.0, was.1))
