-- A requester's steps, whatever command comes.
use Rattle.std.proofs.Common.{inl, inr, ◌≡◌, ℕ, List, [], ◌∷◌, true, false, Option, Some, None, refl, sym, subst}
use Rattle.requester_machine.specs.Commands as commands
use Rattle.requester_machine.specs.Commands.{Free}
use Rattle.requester_machine.specs.Does.{IsMade, command_chosen, body_chosen}
use Rattle.requester_machine.specs.History.{History, Effect, Led, outstanding, phase_of, negotiation_of}
use Rattle.requester_machine.specs.History.Entry.{Told, TookClear, TookRecord}
use Rattle.requester_machine.specs.Hearing.{came_to}
use Rattle.requester_machine.specs.InnerMessages.{Came}
use Rattle.requester_machine.specs.Message.{Ask, Command, Sent, asked_in}
use Rattle.requester_machine.specs.Message.Command.{Connect, Open, Send, Beat, Update, Measure, End, Retry}
use Rattle.spdm_grammar.specs.Message.{RequestMessage}
use Rattle.spdm_grammar.specs.Message.RequestMessage.{GetCapabilities, NegotiateAlgorithms}
use Rattle.spdm_grammar.specs.declared.told.phase.Phase.{Phase}
use Rattle.spdm_grammar.specs.declared.told.phase.Phase.TheVariants.{Fresh, Versioned, Capable, Negotiated}
use Rattle.spdm_machine.specs.Keys.{Draw}
use Rattle.spdm_machine.specs.Bodies.{clear_body, record_body}
use Rattle.requester_machine.specs.Setup.{ReqSetup}
use Rattle.transcript.specs.Transcripts.{Negotiation}
use Rattle.spdm_agreement.specs.Configured.{IsRequester}
use Rattle.spdm_agreement.proofs.Requester.CommandMoves.{Negotiates, asks_well}
use Rattle.spdm_agreement.proofs.Requester.Entries.{CommandShape, IsAsked, NoNegotiation, IsTookRecord, told_shape, record_entry}
use Rattle.spdm_agreement.proofs.Requester.NegotiationMade.{heard_sound, FineOutcome}
use Rattle.spdm_agreement.proofs.Requester.HistoryInvariant.{AskedKept}
use Rattle.spdm_agreement.proofs.Requester.NegotiationInvariant.{PhaseSound, AskSound, OwnReads, asked_of}
use Rattle.spdm_agreement.proofs.Requester.RecordLeads.{NextRecord}
use Rattle.spdm_agreement.proofs.Worlds.EndSteps.{AsksWell}
use Rattle.spdm_agreement.proofs.Messages.Beginnings.{is_negotiated}
use Rattle.spdm_agreement.specs.Story.{Past}

plain_ask : (n : Negotiation) (o : Option RequestMessage) → NoNegotiation o → AskSound n o
plain_ask n None k = tt
plain_ask n (Some (GetCapabilities caps)) k = absurd k
plain_ask n (Some (NegotiateAlgorithms offer)) k = absurd k
plain_ask n (Some _) k = tt

asked_sound : (q : ReqSetup) (h : History) (f : Free) (n : Negotiation) (x : Sent) → IsAsked q h f x → AskSound n (asked_in x.aim)
asked_sound q h f n x a = subst (λ (z : Sent). AskSound n (asked_in z.aim)) (sym a.is) tt

next_sound : (q : ReqSetup) (h : History) (f : Free) (came : Came) (effect : Effect) (ask : Ask) (n : Negotiation) (next : Option Sent) → NextRecord q h f came effect ask next → AskSound n (asked_of next)
next_sound q h f came effect ask n None k = tt
next_sound q h f came effect ask n (Some x) k = subst (λ (z : Sent). AskSound n (asked_in z.aim)) (sym k.is) tt

told_sound : (q : ReqSetup) (h : History) (f : Free) (c : Command) (x : Sent) (d : Draw) → CommandShape q h f c x → PhaseSound (phase_of h) (negotiation_of h) → PhaseSound (phase_of (Told c x d ∷ h)) (negotiation_of (Told c x d ∷ h)) × AskSound (negotiation_of (Told c x d ∷ h)) (asked_in x.aim)
told_sound q h f Connect x d k s = (tt, plain_ask (negotiation_of (Told Connect x d ∷ h)) (asked_in x.aim) k.plain)
told_sound q h f (Open summary) x d k s = (s, subst (AskSound (negotiation_of h)) (sym k.asks) tt)
told_sound q h f (Send of bytes) x d k s = (s, asked_sound q h f (negotiation_of h) x k)
told_sound q h f (Beat of) x d k s = (s, asked_sound q h f (negotiation_of h) x k)
told_sound q h f (Update of all) x d k s = (s, asked_sound q h f (negotiation_of h) x k)
told_sound q h f (Measure None op) x d k s = (s, plain_ask (negotiation_of h) (asked_in x.aim) k.0.plain)
told_sound q h f (Measure (Some of) op) x d k s = (s, asked_sound q h f (negotiation_of h) x k)
told_sound q h f (End of) x d k s = (s, asked_sound q h f (negotiation_of h) x k)
told_sound q h f Retry x d k s = absurd k

record_sound : (q : ReqSetup) (h : History) (f : Free) (body : List ℕ) (of : ℕ) (sealed inner : List ℕ) (led : Led) (n : Negotiation) → IsTookRecord q h f body of sealed inner led → AskSound n (asked_of led.next)
record_sound q h f body of sealed inner led n k = elim k.led_to [ inl a ↦ next_sound q h f (came_to q h of k.ask sealed) led.effect k.ask n led.next a.next | inr e ↦ subst (λ (o : Option Sent). AskSound n (asked_of o)) (sym e.next) tt ]

pub made_sound : (q : ReqSetup) → OwnReads q → (h : History) → IsMade q h → PhaseSound (phase_of h) (negotiation_of h) × AskSound (negotiation_of h) (asked_of (outstanding h))
made_sound q own [] made = (tt, tt)
made_sound q own (Told c x d ∷ older) made = told_sound q older (command_chosen q older d) c x d (told_shape false q older c c (command_chosen q older d) d d x made.0) (made_sound q own older made.1).0
made_sound q own (TookClear tag m led d ∷ older) made =
    let k = made_sound q own older made.1 in
    subst (FineOutcome q own older (body_chosen q older d) k.0) made.0 (heard_sound q own older (body_chosen q older d) k.0 false tag (clear_body m) d k.1)
made_sound q own (TookRecord tag of sealed inner led d ∷ older) made =
    ((made_sound q own older made.1).0, record_sound q older (body_chosen q older d) (record_body sealed) of sealed inner led (negotiation_of older) (record_entry q older false tag tag (record_body sealed) of sealed inner (body_chosen q older d) led d d made.0))

complete : (p : Phase) (n : Negotiation) → commands.is_negotiated p ≡ true → PhaseSound p n → is_negotiated n ≡ true
complete Fresh n e s = absurd (cc)
complete Versioned n e s = absurd (cc)
complete Capable n e s = absurd (cc)
complete Negotiated n e s = rw (s.0.0, s.0.1, s.1.0, s.1.1, s.2.0, s.2.1) refl

pub negotiates : ((q : ReqSetup) → IsRequester q → OwnReads q) → Negotiates
negotiates own q h setup made e = complete (phase_of h) (negotiation_of h) e (made_sound q (own q setup) h made).0

-- Whatever command comes, where the own requests of a negotiation are read as they were written.
pub asks_well_by : (prior : Past) → ((q : ReqSetup) → IsRequester q → OwnReads q) → AsksWell prior (AskedKept prior)
asks_well_by prior own = asks_well prior (negotiates own)
