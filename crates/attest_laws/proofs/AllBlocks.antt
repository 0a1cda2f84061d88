-- A requester that asks for all blocks alone, and in sessions: measurements are told it with records alone, and those are
-- the blocks of the responder.
use Rattle.std.proofs.Common.{◌≡◌, ◌⊎◌, ℕ, List, [], ◌∷◌, false, Option, Some, None, sym, ap, ◌∙◌, subst, inl, inr}
use Rattle.requester_machine.proofs.ClearLeads.{ClearLeads, clear_leads}
use Rattle.requester_machine.proofs.Entries.{asked, request_sent-asks}
use Rattle.requester_machine.proofs.Heard.{IsTaken, heard}
use Rattle.requester_machine.specs.Asking.{Outcome, asks, asks_by, done, resent}
use Rattle.requester_machine.specs.Asking.Outcome.{Adds}
use Rattle.requester_machine.specs.Commands.{Free, command_fault, exchange_for}
use Rattle.requester_machine.specs.Does.{IsMade, body_chosen, command_chosen, requester_asks, requester_hears}
use Rattle.requester_machine.specs.Hearing.{came_to}
use Rattle.requester_machine.specs.History.{History, Led, connection_terms, outstanding}
use Rattle.requester_machine.specs.History.Entry.{Told, TookClear, TookRecord}
use Rattle.requester_machine.specs.Message.{Aim, Command, Sent, asked_in}
use Rattle.requester_machine.specs.Message.Command.{Connect, Open, Send, Beat, Update, Measure, End, Retry}
use Rattle.requester_machine.specs.Setup.{ReqSetup}
use Rattle.requester_machine.specs.Shown.{after, last_data}
use Rattle.responder_machine.specs.Setup.{RspPart}
use Rattle.spdm_agreement.proofs.Requester.Entries.{IsTookRecord, record_entry}
use Rattle.spdm_agreement.proofs.Requester.RecordLeads.{NextRecord}
use Rattle.spdm_grammar.specs.Message.{RequestMessage}
use Rattle.spdm_grammar.specs.Message.RequestMessage.{GetMeasurements, NegotiateAlgorithms}
use Rattle.spdm_grammar.specs.declared.names.TheConstants.{ALL_BLOCKS}
use Rattle.spdm_grammar.specs.declared.told.command_fault.CommandFault.{CommandFault}
use Rattle.spdm_grammar.specs.declared.told.event.Event.TheVariants as event
use Rattle.spdm_grammar.specs.declared.told.event.Finished.TheVariants as finished
use Rattle.spdm_machine.proofs.Members.{some_same}
use Rattle.spdm_machine.specs.Bodies.{clear_body, record_body}
use Rattle.spdm_machine.specs.Keys.{Draw}
use Rattle.attest_laws.specs.Measured.{MeasuresAsConfigured, configured_record, last_command}

-- ---- What it was told.

-- Measurements are asked for in sessions alone, and those of all blocks alone.
abbrev pub AsksForAll : Command → Type 0
AsksForAll (Measure None op) = ⊥
AsksForAll (Measure (Some id) op) = op ≡ ALL_BLOCKS
AsksForAll command = Unit {0}

abbrev pub AllAsk : History → Type 0
AllAsk [] = Unit {0}
AllAsk (Told command sent d ∷ older) = AsksForAll command × AllAsk older
AllAsk (TookClear tag m led d ∷ older) = AllAsk older
AllAsk (TookRecord tag id sealed inner led d ∷ older) = AllAsk older

last_asks : (h : History) → AllAsk h → (command : Command) → last_command h ≡ Some command → AsksForAll command
last_asks [] all command is = absurd (cc)
last_asks (Told told sent d ∷ older) all command is = subst AsksForAll (some_same told command is) all.0
last_asks (TookClear tag m led d ∷ older) all command is = last_asks older all command is
last_asks (TookRecord tag id sealed inner led d ∷ older) all command is = last_asks older all command is

-- ---- No measurements are awaited in the clear.

abbrev IsOther : Option RequestMessage → Type 0
IsOther (Some (GetMeasurements op)) = ⊥
IsOther _ = Unit {0}

abbrev IsQuiet : Option Sent → Type 0
IsQuiet None = Unit {0}
IsQuiet (Some sent) = IsOther (asked_in sent.aim)

abbrev ToldQuiet : Outcome → Type 0
ToldQuiet (Adds (Told command sent d)) = IsQuiet (Some sent)
ToldQuiet _ = Unit {0}

resent_quiet : (o : Option Sent) → ToldQuiet (resent o)
resent_quiet None = tt
resent_quiet (Some sent) = tt

done_quiet : (q : ReqSetup) (h : History) (c : Command) (f : Free) (d : Draw) → AsksForAll c → ToldQuiet (done q h c f d)
done_quiet q h Connect f d asks = tt
done_quiet q h (Open summary) f d asks = subst IsOther (sym (request_sent-asks (connection_terms h).common h (exchange_for q f summary))) tt
done_quiet q h (Send id bytes) f d asks = tt
done_quiet q h (Beat id) f d asks = tt
done_quiet q h (Update id all) f d asks = tt
done_quiet q h (Measure None op) f d asks = absurd asks
done_quiet q h (Measure (Some id) op) f d asks = tt
done_quiet q h (End id) f d asks = tt
done_quiet q h Retry f d asks = resent_quiet (outstanding h)

told_quiet : (q : ReqSetup) (h : History) (c : Command) (sent : Sent) (d : Draw) → requester_asks false q h c d ≡ Adds (Told c sent d) → AsksForAll c → IsQuiet (Some sent)
told_quiet q h c sent d is asks =
    let a = asked false q h c (command_chosen q h d) d (Told c sent d) is in
    subst ToldQuiet a.1 (done_quiet q h c (command_chosen q h d) d asks)

-- What a clear message leads to that answers another request.
record LeadsOn (led : Led) : Type 0 where
  next : IsQuiet led.next
  told : (number : ℕ) → led.event ≡ event.Done (finished.Measured number) → ⊥

clear_leads_on : (q : ReqSetup) (h : History) (f : Free) (aim : Aim) (m : List ℕ) (asked : RequestMessage) (led : Led) → IsOther (Some asked) → ClearLeads q h f aim m asked led → LeadsOn led
clear_leads_on q h f aim m asked led other (ClearLeads.ByRefusal code is) = subst LeadsOn (sym is) (record { next = tt; told = λ n e. absurd (cc) })
clear_leads_on q h f aim m asked led other (ClearLeads.ByLarge handle large is) = subst LeadsOn (sym is) (record { next = other; told = λ n e. absurd (cc) })
clear_leads_on q h f aim m asked led other (ClearLeads.BySend handle number aims last is) = subst LeadsOn (sym is) (record { next = other; told = λ n e. absurd (cc) })
clear_leads_on q h f aim m asked led other (ClearLeads.ByGet handle number before c aims none last is) = subst LeadsOn (sym is) (record { next = other; told = λ n e. absurd (cc) })
clear_leads_on q h f aim m asked led other (ClearLeads.ByStop why negotiates is) = subst LeadsOn (sym is) (record { next = tt; told = λ n e. absurd (cc) })
clear_leads_on q h f aim m asked led other (ClearLeads.ByVersion answer asks is) = subst LeadsOn (sym is) (record { next = tt; told = λ n e. absurd (cc) })
clear_leads_on q h f aim m asked led other (ClearLeads.ByCaps caps theirs answer common offer asks read shared offered short is) =
    subst LeadsOn (sym is) (record { next = subst IsOther (sym (request_sent-asks common h (NegotiateAlgorithms offer))) tt; told = λ n e. absurd (cc) })
clear_leads_on q h f aim m asked led other (ClearLeads.ByChoice offer answer asks is) = subst LeadsOn (sym is) (record { next = tt; told = λ n e. absurd (cc) })
clear_leads_on q h f aim m asked led other (ClearLeads.ByMeasured op answer finish asks is) = absurd (subst (λ (v : RequestMessage). IsOther (Some v)) asks other)
clear_leads_on q h f aim m asked led other (ClearLeads.ByExchange exchange answer rsp asks read right is) = subst LeadsOn (sym is) (record { next = tt; told = λ n e. absurd (cc) })

-- With a clear message that was taken.
taken_leads_on : (q : ReqSetup) (h : History) (tag : ℕ) (m : List ℕ) (led : Led) (d : Draw) → requester_hears q h false tag (clear_body m) d ≡ Adds (TookClear tag m led d) → IsQuiet (outstanding h) → LeadsOn led
taken_leads_on q h tag m led d is quiet =
    elim (heard q h false tag (clear_body m) (body_chosen q h d) d (TookClear tag m led d) is) [
      | inl t ↦ by_entry t (clear_leads q h (body_chosen q h d) t.sent.aim m t.asked t.led t.asks t.leads)
      | inr o ↦ absurd (cc)
    ]
  where
    by_entry : (t : IsTaken q h tag (clear_body m) (body_chosen q h d) d (TookClear tag m led d)) → ClearLeads q h (body_chosen q h d) t.sent.aim m t.asked t.led → LeadsOn led
    by_entry t leads =
        let same : t.led ≡ led = (let e = t.is in cc) in
        subst LeadsOn same (clear_leads_on q h (body_chosen q h d) t.sent.aim m t.asked t.led (subst IsOther t.asks (subst IsQuiet t.waits quiet)) leads)

-- What goes out with a record, goes in a record.
record_quiet : (q : ReqSetup) (h : History) (f : Free) (body : List ℕ) (id : ℕ) (sealed inner : List ℕ) (led : Led) → IsTookRecord q h f body id sealed inner led → IsQuiet led.next
record_quiet q h f body id sealed inner led k = elim k.led_to [
  | inl a ↦ next_quiet led.next a.next
  | inr e ↦ subst IsQuiet (sym e.next) tt
]
  where
    next_quiet : (o : Option Sent) → NextRecord q h f (came_to q h id k.ask sealed) led.effect k.ask o → IsQuiet o
    next_quiet None n = tt
    next_quiet (Some sent) n = subst (λ (x : Sent). IsQuiet (Some x)) (sym n.is) tt

-- So it is whatever is told it and comes to it.
quiet : (q : ReqSetup) (h : History) → IsMade q h → AllAsk h → IsQuiet (outstanding h)
quiet q [] made all = tt
quiet q (Told c sent d ∷ older) made all = told_quiet q older c sent d made.0 all.0
quiet q (TookClear tag m led d ∷ older) made all = (taken_leads_on q older tag m led d made.0 (quiet q older made.1 all)).next
quiet q (TookRecord tag id sealed inner led d ∷ older) made all =
    let f = body_chosen q older d in
    record_quiet q older f (record_body sealed) id sealed inner led (record_entry q older false tag tag (record_body sealed) id sealed inner f led d d made.0)

-- No measurements are told it with a clear message.
pub clear_untold : (q : ReqSetup) (older : History) (tag : ℕ) (m : List ℕ) (led : Led) (d : Draw) → IsMade q (TookClear tag m led d ∷ older) → AllAsk older → (number : ℕ) → led.event ≡ event.Done (finished.Measured number) → ⊥
clear_untold q older tag m led d made all = (taken_leads_on q older tag m led d made.0 (quiet q older made.1 all)).told

-- ---- What was measured.

-- With this record measurements were told it, and then this was the last that it had taken.
pub record IsOf (blocks : List ℕ) (led : Led) (now : History) : Type 0 where
  pub number : ℕ
  pub told : led.event ≡ event.Done (finished.Measured number)
  pub last : last_data now ≡ blocks

-- So it was with some record.
abbrev pub WasMeasured : List ℕ → History → Type 0
WasMeasured blocks [] = ⊥
WasMeasured blocks (Told command sent d ∷ older) = WasMeasured blocks older
WasMeasured blocks (TookClear tag m led d ∷ older) = WasMeasured blocks older
WasMeasured blocks (TookRecord tag id sealed inner led d ∷ older) = IsOf blocks led (TookRecord tag id sealed inner led d ∷ older) ⊎ WasMeasured blocks older

-- Then it is what the responder is set up with, all of it.
pub all_blocks : (part : RspPart) (blocks : List ℕ) (h : History) → AllAsk h → MeasuresAsConfigured part h → WasMeasured blocks h → blocks ≡ configured_record part ALL_BLOCKS
all_blocks part blocks [] all measures was = absurd was
all_blocks part blocks (Told command sent d ∷ older) all measures was = all_blocks part blocks older all.1 measures was
all_blocks part blocks (TookClear tag m led d ∷ older) all measures was = all_blocks part blocks older all measures was
all_blocks part blocks (TookRecord tag id sealed inner led d ∷ older) all measures was = elim was [
  | inl o ↦ (let k = measures.0 o.number o.told in
      sym o.last ∙ k.taken ∙ ap (configured_record part) (last_asks older all (Measure (Some id) k.op) k.asked))
  | inr before ↦ all_blocks part blocks older all measures.1 before
]

-- ---- A command.

-- What a command leads to, where nothing changes by its fault or by Retry.
done_keeps : (P : History → Type 0) (q : ReqSetup) (h : History) (c : Command) (f : Free) (d : Draw) → P h → ((sent : Sent) → P (Told c sent d ∷ h)) → P (after h (done q h c f d))
done_keeps P q h Connect f d same more = more _
done_keeps P q h (Open summary) f d same more = more _
done_keeps P q h (Send id bytes) f d same more = more _
done_keeps P q h (Beat id) f d same more = more _
done_keeps P q h (Update id all) f d same more = more _
done_keeps P q h (Measure None op) f d same more = more _
done_keeps P q h (Measure (Some id) op) f d same more = more _
done_keeps P q h (End id) f d same more = more _
done_keeps P q h Retry f d same more = again (outstanding h)
  where
    again : (o : Option Sent) → P (after h (resent o))
    again None = same
    again (Some sent) = same

fault_keeps : (P : History → Type 0) (q : ReqSetup) (h : History) (c : Command) (f : Free) (d : Draw) (o : Option CommandFault) → P h → ((sent : Sent) → P (Told c sent d ∷ h)) → P (after h (asks_by q h c f d o))
fault_keeps P q h c f d (Some fault) same more = same
fault_keeps P q h c f d None same more = done_keeps P q h c f d same more

pub asks_keep : (P : History → Type 0) (q : ReqSetup) (h : History) (c : Command) (d : Draw) → P h → ((sent : Sent) → P (Told c sent d ∷ h)) → P (after h (requester_asks false q h c d))
unfolding asks
asks_keep P q h c d same more = fault_keeps P q h c (command_chosen q h d) d (command_fault false q h c (command_chosen q h d)) same more
