-- A session that a requester accepted has a context with the number of one of its draws. No premise of chance is needed.
use Rattle.std.proofs.Common.{◌≡◌, ℕ, ◌≤◌, ◌<◌, ◌+◌, List, [], ◌∷◌, ◌++◌, true, false, Option, is_some, refl, sym, ap, ◌∙◌, subst, inl, inr, arith}
use Rattle.requester_machine.specs.Answers.{with_answer}
use Rattle.requester_machine.specs.Commands.{exchange_for}
use Rattle.requester_machine.specs.Does.{IsMade, command_chosen, body_chosen}
use Rattle.requester_machine.specs.History.{History, Effect, Led, negotiation_of, outstanding}
use Rattle.requester_machine.specs.History.Effect.{Answers}
use Rattle.requester_machine.specs.History.Entry.{Told, TookClear, TookRecord}
use Rattle.requester_machine.specs.Message.{Command, Sent}
use Rattle.requester_machine.specs.Message.Command.{Open}
use Rattle.requester_machine.specs.Session.{Steps, session_of, is_live, stage_of, when_live}
use Rattle.requester_machine.specs.Session.Step.{Accepted}
use Rattle.requester_machine.specs.Setup.{ReqSetup}
use Rattle.spdm_agreement.proofs.Messages.Beginnings.{is_negotiated, is_request, context_number, context_in, transcript_of}
use Rattle.spdm_agreement.proofs.Requester.AnyCommand.{negotiates}
use Rattle.spdm_agreement.proofs.Requester.ClearLeads.{IsPlain}
use Rattle.spdm_agreement.proofs.Requester.CommandMoves.{command_read, context_chosen, exchange_of_command}
use Rattle.spdm_agreement.proofs.Requester.Entries.{CommandShape, IsBegun, told_shape, clear_entry}
use Rattle.spdm_agreement.proofs.Requester.ExchangeMoves.{context_told}
use Rattle.spdm_agreement.proofs.Requester.OwnRequests.{own_reads}
use Rattle.spdm_agreement.proofs.Requester.Waiting.{live_for}
use Rattle.spdm_agreement.proofs.Worlds.Behind.{accepted_old}
use Rattle.spdm_agreement.proofs.Worlds.EndSteps.{IsDraw}
use Rattle.spdm_agreement.specs.Configured.{IsRequester}
use Rattle.spdm_agreement.specs.Marks.{Asked, IsAccepted}
use Rattle.spdm_agreement.specs.Reading.{First}
use Rattle.spdm_agreement.specs.Story.{asked_marks, asked_first, clear_marks, command_marks, taken_marks}
use Rattle.spdm_grammar.specs.Message.{RequestMessage}
use Rattle.spdm_grammar.specs.Message.RequestMessage.{PskExchange}
use Rattle.spdm_grammar.specs.Requests.{canonical_request, request_in}
use Rattle.spdm_lives.proofs.RequesterSessions.{OpensWell, sessions_well, none_accepted, command_accepts, taken_accepts}
use Rattle.spdm_lives.specs.Apart.{Accepts, HasAccepted}
use Rattle.spdm_machine.specs.Bodies.{clear_body}
use Rattle.spdm_machine.specs.Keys.{Draw}
use Rattle.spdm_machine.specs.Packets.{wear_limit}
use Rattle.spdm_machine.specs.Terms.{terms_of, hash_len}
use Rattle.transcript.specs.Transcripts.{Negotiation}

-- A draw of a life that begins with this one.
pub record IsOfLife (first : ℕ) (d : Draw) : Type 0 where
  pub draw : IsDraw d
  pub low : first ≤ d.number
  pub high : d.number < first + wear_limit

-- So are those that stand with commands.
abbrev pub AreOfLife : (first : ℕ) → History → Type 0
AreOfLife first [] = Unit {0}
AreOfLife first (Told c x d ∷ older) = IsOfLife first d × AreOfLife first older
AreOfLife first (_ ∷ older) = AreOfLife first older

-- The number of the draw in the context of PSK_EXCHANGE.
abbrev pub draw_in : Negotiation → List ℕ → ℕ
draw_in n bytes = context_number (terms_of n).choice.hash (context_in (request_in (hash_len (terms_of n)) bytes))

-- A negotiation is complete, and a PSK_EXCHANGE under it holds a draw of the life.
pub record IsWithin (first : ℕ) (n : Negotiation) (bytes : List ℕ) : Type 0 where
  pub negotiated : is_negotiated n ≡ true
  pub exchange : is_request (hash_len (terms_of n)) bytes ≡ true
  pub low : first ≤ draw_in n bytes
  pub high : draw_in n bytes < first + wear_limit

begun_within : (q : ReqSetup) (h : History) (first summary : ℕ) (x : Sent) (d : Draw) → IsRequester q → IsMade q h → IsBegun q h (command_chosen q h d) summary x → IsOfLife first d
    → IsWithin first (negotiation_of h) (canonical_request (exchange_for q (command_chosen q h d) summary))
begun_within q h first summary x d setup made b of =
    let n = negotiation_of h in
    let read = command_read q h d summary setup of.draw.bytes b.kind in
    let number : draw_in n (canonical_request (PskExchange (exchange_of_command q h d summary))) ≡ d.number =
    ap (λ (o : Option RequestMessage). context_number (terms_of n).choice.hash (context_in o)) read ∙ ap (context_number (terms_of n).choice.hash) (context_chosen q h d)
    ∙ context_told (terms_of n).choice.hash d of.draw.number of.draw.bytes in
    record {
      negotiated = negotiates own_reads q h setup made b.negotiated;
      exchange = ap is_some read;
      low = (let l = of.low in omega arith);
      high = (let l = of.high in omega arith);
    }

opens_within : (q : ReqSetup) (first : ℕ) → IsRequester q → (h : History) → IsMade q h → AreOfLife first h → OpensWell q (IsWithin first) h
opens_within q first setup [] made of = tt
opens_within q first setup (Told c x d ∷ older) made of = by_command c x d older (opens_within q first setup older made.1 of.1) of.0 (told_shape false q older c c (command_chosen q older d) d d x made.0) made.1
  where
    by_command : (c : Command) (x : Sent) (d : Draw) (older : History) → OpensWell q (IsWithin first) older → IsOfLife first d → CommandShape q older (command_chosen q older d) c x → IsMade q older → OpensWell q (IsWithin first) (Told c x d ∷ older)
    by_command (Open summary) x d older all of shape made = (begun_within q older first summary x d setup made shape of, all)
    by_command _ x d older all of shape made = all
opens_within q first setup (TookClear tag m led d ∷ older) made of = opens_within q first setup older made.1 of
opens_within q first setup (TookRecord tag id sealed inner led d ∷ older) made of = opens_within q first setup older made.1 of

answered_within : (first : ℕ) (s : Steps) (answer : List ℕ) → is_live s ≡ true → (is_live s ≡ true → IsWithin first (asked_first s).negotiation (asked_first s).exchange)
    → IsWithin first (asked_first (when_live s (Accepted answer))).negotiation (asked_first (when_live s (Accepted answer))).exchange
answered_within first [] answer l w = absurd (cc)
answered_within first (x ∷ s) answer l w = w refl

plain_none : (h : History) (effect : Effect) (m : List Asked) (t : First) → IsPlain effect → IsAccepted (clear_marks h effect ++ m) t → IsAccepted m t
plain_none h (Answers (PskExchange exchange) answer) m t p a = absurd p
plain_none h (Answers _ answer) m t p a = a
plain_none h _ m t p a = a

-- Each session that was accepted.
pub accepted_within : (q : ReqSetup) (first : ℕ) → IsRequester q → (h : History) → IsMade q h → AreOfLife first h → (t : First) → IsAccepted (asked_marks q h) t → IsWithin first t.negotiation t.exchange
accepted_within q first setup [] made of t a = elim a [ ]
accepted_within q first setup (Told c x d ∷ older) made of t a = accepted_within q first setup older made.1 of.1 t (none_accepted (command_marks older c x d) (asked_marks q older) t (command_accepts older c x d) a)
accepted_within q first setup (TookClear tag m led d ∷ older) made of t a =
    let k = clear_entry q older false tag tag (clear_body m) m (body_chosen q older d) led d d made.0 in
    elim k.led_to [
      | inl x ↦ (let s = session_of x.exchange.req_id older in
          elim (subst (λ (l : Led). IsAccepted (clear_marks older l.effect ++ asked_marks q older) t) x.is a) [
            | inl e ↦ subst (λ (f : First). IsWithin first f.negotiation f.exchange) (sym e)
                (answered_within first s x.answer (live_for q older (body_chosen q older d) (clear_body m) m led k x.exchange x.asks made.1)
                (sessions_well q (IsWithin first) older made.1 (opens_within q first setup older made.1 of) x.exchange.req_id).began)
            | inr y ↦ accepted_within q first setup older made.1 of t y
          ])
      | inr p ↦ accepted_within q first setup older made.1 of t (plain_none older led.effect (asked_marks q older) t p.effect a)
    ]
accepted_within q first setup (TookRecord tag id sealed inner led d ∷ older) made of t a = accepted_within q first setup older made.1 of t (none_accepted (taken_marks (stage_of (session_of id older)) q (session_of id older) (outstanding older) sealed inner led) (asked_marks q older) t (taken_accepts q older id sealed inner led) a)

-- ---- A session that was accepted has a mark.

accepts_marked : (h : History) (effect : Effect) (m : List Asked) (t1 : List ℕ) → Accepts t1 h effect → (t : First) × IsAccepted (clear_marks h effect ++ m) t × (transcript_of t ≡ t1)
accepts_marked h (Answers (PskExchange exchange) answer) m t1 a = (asked_first (with_answer h exchange answer), inl refl, a)
accepts_marked h _ m t1 a = absurd a

pub has_accepted : (q : ReqSetup) (h : History) (t1 : List ℕ) → HasAccepted t1 h → (t : First) × IsAccepted (asked_marks q h) t × (transcript_of t ≡ t1)
has_accepted q [] t1 a = elim a [ ]
has_accepted q (Told c x d ∷ older) t1 a = (let o = has_accepted q older t1 a in (o.0, accepted_old (command_marks older c x d) (asked_marks q older) o.0 o.1, o.2))
has_accepted q (TookClear tag m led d ∷ older) t1 a = elim a [
  | inl x ↦ accepts_marked older led.effect (asked_marks q older) t1 x
  | inr y ↦ (let o = has_accepted q older t1 y in (o.0, accepted_old (clear_marks older led.effect) (asked_marks q older) o.0 o.1, o.2))
]
has_accepted q (TookRecord tag id sealed inner led d ∷ older) t1 a = (let o = has_accepted q older t1 a in (o.0, accepted_old (taken_marks (stage_of (session_of id older)) q (session_of id older) (outstanding older) sealed inner led) (asked_marks q older) o.0 o.1, o.2))
