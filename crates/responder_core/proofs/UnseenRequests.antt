-- A request whose large response was never seen: what it leaves of the clear part and of the sessions.
use Rattle.std.proofs.Common.{refl, ◌∙◌, ◌≡◌, ◌||◌, ℕ, zero, suc, List, [], ◌∷◌, true, false, Bool, Option, Some, None, cond, ap, sym, subst, arith}
use Rattle.std.proofs.lemmas.Bool.Decides.{nat_tests}
use Rattle.responder_core.proofs.Waiting.{Visits, all_visited}
use Rattle.responder_core.specs.Beginning.{held_part}
use Rattle.responder_core.specs.Connected as connected
use Rattle.responder_core.specs.LiveSession.{IsSlotOf}
use Rattle.responder_core.specs.Negotiating as negotiating
use Rattle.responder_core.specs.Sessions as sessions
use Rattle.responder_core.specs.Sessions.{slot_of}
use Rattle.responder_core.specs.ClearState as standing
use Rattle.responder_core.specs.UnseenRequests.{IsTurnOf, IsUnseenTurn}
use Rattle.responder_core.specs.declared.in_sessions.live_session.LiveSession.{LiveSession}
use Rattle.responder_core.specs.declared.in_sessions.sessions.Sessions.{Sessions}
use Rattle.responder_rules.specs.LargeAnswer as large_answer
use Rattle.responder_machine.proofs.Entries.{session_of-Clear}
use Rattle.responder_machine.specs.History.{History, Kept, clear_turns, ended_of, kept_of, negotiation_of, phase_of}
use Rattle.responder_machine.specs.History.Entry.{Clear}
use Rattle.responder_machine.specs.LargeMessages.{chunks_of, chunks_with}
use Rattle.responder_machine.specs.Refusal.{sizes_are_known}
use Rattle.responder_machine.specs.Session.{Events, after_exchange, gives_id, session_of}
use Rattle.responder_machine.specs.Session.Event.{Began}
use Rattle.responder_machine.specs.Setup.{RspSetup}
use Rattle.responder_machine.specs.SizeLaws.{HasSizes}
use Rattle.responder_machine.specs.Turn.{Turn, answer_in, request_in, takes}
use Rattle.spdm_grammar.specs.Message.{ChunkMessage}
use Rattle.spdm_grammar.specs.declared.names.request_code.TheConstants.{GET_CAPABILITIES, NEGOTIATE_ALGORITHMS, PSK_EXCHANGE}
use Rattle.spdm_grammar.specs.declared.told.phase.Phase.TheVariants.{Capable, Negotiated, Versioned}
use Rattle.spdm_machine.specs.Keys.{Draw}
use Rattle.spdm_machine.specs.Terms.{no_negotiation, terms_of}
use Rattle.transcript.specs.Transcripts.{Negotiation, vca_of}

module _ (t : Turn) (u : IsUnseenTurn t) where
  -- ---- The clear part.

  phase_passes : (older : List Turn) → phase_of (t ∷ older) ≡ phase_of older
  phase_passes older =
      ap (λ (b : Bool). cond b Versioned (cond (takes GET_CAPABILITIES t) Capable (cond (takes NEGOTIATE_ALGORITHMS t) Negotiated (phase_of older)))) u.no_version
      ∙ ap (λ (b : Bool). cond b Capable (cond (takes NEGOTIATE_ALGORITHMS t) Negotiated (phase_of older))) u.no_capabilities
      ∙ ap (λ (b : Bool). cond b Negotiated (phase_of older)) u.no_algorithms

  negotiation_passes : (older : List Turn) → negotiation_of (t ∷ older) ≡ negotiation_of older
  negotiation_passes older =
      let n : Negotiation = negotiation_of older in
      let anew : Negotiation = record no_negotiation { get_version = request_in t.effect; version = answer_in t.effect } in
      let able : Negotiation = record n { get_capabilities = request_in t.effect; capabilities = answer_in t.effect } in
      let agreed : Negotiation = record n { negotiate_algorithms = request_in t.effect; algorithms = answer_in t.effect } in
      ap (λ (b : Bool). cond b anew (cond (takes GET_CAPABILITIES t) able (cond (takes NEGOTIATE_ALGORITHMS t) agreed n))) u.no_version
      ∙ ap (λ (b : Bool). cond b able (cond (takes NEGOTIATE_ALGORITHMS t) agreed n)) u.no_capabilities ∙ ap (λ (b : Bool). cond b agreed n) u.no_algorithms

  pub standing_passes : (old : standing.Seen) (large : large_answer.Seen) (older : List Turn) → standing.StandsFor old older → large_answer.StandsFor large old.negotiating.common.to_requester.transfer (t ∷ older)
      → standing.StandsFor (record old { large = large }) (t ∷ older)
  standing_passes old large older x left =
      let n = x.negotiating in
      let same = sym (negotiation_passes older) in
      record {
        negotiating = record {
          phase = phase_passes older ∙ n.phase;
          messages = subst (λ (y : Negotiation). old.negotiating.messages ≡ vca_of y) same n.messages;
          up_to = subst (negotiating.IsUpTo old.negotiating.phase) same n.up_to;
          few = n.few;
          common = ap (λ (y : Negotiation). (terms_of y).common) (negotiation_passes older) ∙ n.common;
          choice = ap (λ (y : Negotiation). (terms_of y).choice) (negotiation_passes older) ∙ n.choice;
          settled = n.settled;
        };
        large = left;
      }

  pub sizes_pass : (r : RspSetup) (older : List Turn) → connected.HasSizesAt r older → connected.HasSizesAt r (t ∷ older)
  sizes_pass r older sizes = λ known. subst (λ (n : Negotiation). HasSizes r (terms_of n).common) (sym (negotiation_passes older)) (sizes (ap sizes_are_known (sym (phase_passes older)) ∙ known))

  -- No chunk of a large request is left.
  pub no_chunks : (older : List Turn) → chunks_of (t ∷ older) ≡ []
  no_chunks older = ap (λ (b : Bool). cond b (chunks_with t.chunk (chunks_of older)) (chunks_of older)) u.taken ∙ ap (λ (c : Option ChunkMessage). chunks_with c (chunks_of older)) u.whole

  pub kept_here : (tag : ℕ) (d : Draw) (h : History) (message reply : List ℕ) (exchange : Bool) → IsTurnOf t message reply exchange → kept_of (Clear tag t d ∷ h) ≡ Some (record { tag = tag; message = message; reply = reply })
  kept_here tag d h message reply exchange is =
      let kept : List ℕ → List ℕ → Option Kept = λ m l. Some (record { tag = tag; message = m; reply = l }) in
      ap (λ (b : Bool). cond b (kept t.message t.reply) (kept_of h)) u.taken ∙ ap (λ (m : List ℕ). kept m t.reply) is.message ∙ ap (kept message) is.reply

  -- ---- The sessions.

  module _ (r : RspSetup) (tag : ℕ) (d : Draw) (h : History) where
    ended_passes : (b : Bool) → takes PSK_EXCHANGE t ≡ b → ended_of (Clear tag t d ∷ h) ≡ cond b None (ended_of h)
    ended_passes b is = ap (λ (x : Bool). cond (x || takes PSK_EXCHANGE t) None (ended_of h)) u.no_version ∙ ap (λ (x : Bool). cond x None (ended_of h)) is

    session_by : (b : Bool) → takes PSK_EXCHANGE t ≡ b → (id : ℕ) → session_of id (Clear tag t d ∷ h) ≡ cond b (after_exchange id (session_of id h) t (negotiation_of (clear_turns h))) (session_of id h)
    session_by b is id =
        let begun : Events = after_exchange id (session_of id h) t (negotiation_of (clear_turns h)) in
        session_of-Clear id tag t d h ∙ ap (λ (x : Bool). cond x [] (cond (takes PSK_EXCHANGE t) begun (session_of id h))) u.no_version ∙ ap (λ (x : Bool). cond x begun (session_of id h)) is

    pub sessions_pass : (x : Sessions) → takes PSK_EXCHANGE t ≡ false → sessions.StandsFor x r h → sessions.StandsFor x r (Clear tag t d ∷ h)
    sessions_pass x other stands = record {
      slots = λ id. subst (IsSlotOf (slot_of x id) r) (sym (session_by false other id)) (stands.slots id);
      ended = stands.ended ∙ sym (ended_passes false other);
    }

    -- No bytes give an id.
    none_given : (id : ℕ) → gives_id id [] ≡ false
    none_given zero = refl
    none_given (suc n) = grind (arith, nat_tests)

    held_by : (id : ℕ) → takes PSK_EXCHANGE t ≡ true → session_of id (Clear tag t d ∷ h) ≡ held_part (session_of id h)
    held_by id exchange =
        let s : Events = session_of id h in
        let new : List ℕ → Events = λ l. Began (negotiation_of (clear_turns h)) (request_in t.effect) l ∷ [] in
        session_by true exchange id ∙ ap (λ (l : List ℕ). cond (gives_id id l) (new l) (held_part s)) u.unseen ∙ ap (λ (b : Bool). cond b (new []) (held_part s)) (none_given id)

    pub sessions_leave : (v w x y z new : Sessions) → takes PSK_EXCHANGE t ≡ true → sessions.StandsFor v r h → Visits r held_part 1 v w → Visits r held_part 2 w x → Visits r held_part 3 x y → Visits r held_part 4 y z
        → ((id : ℕ) → slot_of new id ≡ slot_of z id) → new.ended ≡ None → sessions.StandsFor new r (Clear tag t d ∷ h)
    sessions_leave v w x y z new exchange stands first second third fourth slots ended = record {
      slots = λ id. subst (IsSlotOf (slot_of new id) r) (sym (held_by id exchange))
          (subst (λ (o : Option LiveSession). IsSlotOf o r (held_part (session_of id h))) (sym (slots id)) (all_visited r held_part v w x y z refl first second third fourth id (session_of id h) (stands.slots id)));
      ended = ended ∙ sym (ended_passes true exchange);
    }
