-- What the ends did is what the definitions do.
use Rattle.std.proofs.Common.{refl, ◌≡◌, ◌∙◌, ◌+◌, ◌++◌, ◌∷◌, [], ℕ, List, Bool, true, false, Option, Some, None, ap, sym, subst, length, slice_set}
use Rattle.std.proofs.lemmas.List.{append-nil}
use Rattle.std.specs.Prelude.{◌==◌, if◌then◌else◌, find, nat_lt, slice_index, MatchResult, Result, Ok, Err}
use Rattle.script_ends.proofs.Tells.{requester_tells}
use Rattle.script_ends.specs.Told.{event_data, event_lines, is_answered}
use Rattle.link_world.proofs.Askers.{Hit, eid_of}
use Rattle.link_world.proofs.Changing.{requester_changed, responder_changed, responder_keeps}
use Rattle.link_world.proofs.Counting.{asked_more, heard_more, heard_peers, kept_more, kept_same, queued_peers, queued_same, told_same}
use Rattle.link_world.proofs.Taken.{requester_counts}
use Rattle.link_world.proofs.Telling.{responder_tells}
use Rattle.link_world.specs.Standing.{AreEnds, IsAsker, IsDone, IsGivenTo, counted, taken_in}
use Rattle.link_world.specs.Told.{heard_data, heard_lines, is_taken}
use Rattle.link_world.specs.Written.{has_full, text_of}
use Rattle.link_world.specs.declared.ends.AddressedRequester.{AddressedRequester}
use Rattle.link_world.specs.declared.ends.Ends.{Ends}
use Rattle.requester.specs.Standing as asking
use Rattle.requester_machine.proofs.SetUpKept.{given_setup, told_setup}
use Rattle.requester_machine.specs.Message.{Command}
use Rattle.requester_machine.specs.Requesting.{Requesting, requester_given, requester_told}
use Rattle.requester_machine.specs.Setup.{ReqSetup}
use Rattle.requester_machine.specs.Shown as shown
use Rattle.spdm_basis.specs.declared.values.eid.Eid.{Eid}
use Rattle.responder.specs.Standing as answering
use Rattle.responder_machine.specs.Independence.{after_reply}
use Rattle.responder_machine.specs.Responding.{Responding, connection_of, last_data, queues, reply_fault_of, responder_hears}
use Rattle.trace_text.specs.TraceLines.{line_text}
use Rattle.trace_text.specs.Whose.{fault_of}
use Rattle.spdm_grammar.specs.Lines.{Line, Whose}
use Rattle.spdm_grammar.specs.declared.told.command_fault.CommandFault.{CommandFault}
use Rattle.spdm_grammar.specs.declared.told.event.Event.{Event}
use Rattle.spdm_grammar.specs.declared.told.event.Event.TheVariants as event
use Rattle.spdm_grammar.specs.declared.told.event.Finished.TheVariants as finished
use Rattle.spdm_grammar.specs.declared.told.heard.Heard.{Heard}
use Rattle.spdm_grammar.specs.declared.told.heard.Heard.TheVariants as heard
use Rattle.spdm_grammar.specs.declared.told.heard.ReplyFault.{ReplyFault}
use Rattle.spdm_machine.specs.Sessions.{one_if}
use Rattle.world_machine.specs.World.{World, data_lines, is_at, given, given_to, given_to_requester, given_to_responder, id_in_event, number_at, packet_lines, record_lines, replied, replied_by, taken_lines, told, with_sent}

-- ---- No line of what is told is that of a packet.

heard_plain_data : (q : ℕ) (told : Heard) (last : List ℕ) → has_full (heard_data q told last) ≡ false
heard_plain_data q (heard.Taken id) last = refl
heard_plain_data q (heard.Answered code) last = refl
heard_plain_data q (heard.Refused code) last = refl
heard_plain_data q heard.Unopened last = refl
heard_plain_data q heard.Same last = refl
heard_plain_data q heard.More last = refl
heard_plain_data q (heard.Ignored cause) last = refl

event_plain_data : (q : ℕ) (told : Event) (last : List ℕ) → has_full (event_data q told last) ≡ false
event_plain_data q event.Progress last = refl
event_plain_data q event.More last = refl
event_plain_data q (event.Done finished.Connected) last = refl
event_plain_data q (event.Done (finished.Opened id)) last = refl
event_plain_data q (event.Done (finished.Answered id)) last = refl
event_plain_data q (event.Done (finished.Alive id)) last = refl
event_plain_data q (event.Done (finished.Updated id)) last = refl
event_plain_data q (event.Done (finished.Measured number)) last = refl
event_plain_data q (event.Done (finished.Ended id)) last = refl
event_plain_data q (event.Refused code) last = refl
event_plain_data q (event.Warned code) last = refl
event_plain_data q (event.Stopped why) last = refl
event_plain_data q (event.Lost id why) last = refl
event_plain_data q (event.Ignored why) last = refl

-- ---- Nothing, and nobody.

pub nothing_told : (w : World) (n : ℕ) (command : Command) (a : Option Requesting) (text : List ℕ) (sends : List (List ℕ)) (ends : Ends) → a ≡ None → sends ≡ [] → AreEnds ends w → IsGivenTo w (told w n command a) text text sends ends
nothing_told w n command None text sends ends none empty e = subst (λ (s : List (List ℕ)). IsGivenTo w (told w n command None) text text s ends) (sym empty) (record { front = []; plain = refl; lines = refl; text = sym (append-nil text); sent = sym (append-nil w.sent); ends = e })
nothing_told w n command (Some a) text sends ends none empty e = absurd (cc none)

pub to_nobody : (w : World) (packet : List ℕ) (a : Option Requesting) (old new : List ℕ) (sends : List (List ℕ)) (ends : Ends) → a ≡ None → sends ≡ [] → AreEnds ends w → new ≡ old ++ line_text Line.ToNobody → IsGivenTo w (given_to w packet a) old new sends ends
to_nobody w packet None old new sends ends none empty e text = subst (λ (s : List (List ℕ)). IsGivenTo w (given_to w packet None) old new s ends) (sym empty) (record {
  front = Line.ToNobody ∷ [];
  plain = refl;
  lines = refl;
  text = text ∙ ap (λ (t : List ℕ). old ++ t) (sym (append-nil (line_text Line.ToNobody)));
  sent = sym (append-nil w.sent);
  ends = e;
})
to_nobody w packet (Some a) old new sends ends none empty e text = absurd (cc none)

-- ---- A command.

fault_is : (answer : Result Unit CommandFault) → fault_of answer ≡ asking.fault_in answer
fault_is (Ok done) = refl
fault_is (Err fault) = refl

-- The asker at a place has changed.
pub record IsRenewed (k : ℕ) (old new : Ends) (asker : AddressedRequester) : Type 0 where
  pub items : new.requesters.items ≡ slice_set old.requesters.items k asker
  pub eid : new.eid ≡ old.eid
  pub responder : new.responder ≡ old.responder

module _ (w : World) (k : ℕ) (old new : Ends) (asker : AddressedRequester) (e : AreEnds old w) (h : Hit k old.requesters.items w.requesters) (r : IsRenewed k old new asker) (same : asker.eid ≡ h.seen.eid) where
  renewed : (after : Requesting) → after.setup ≡ h.a.setup → asking.StandsFor asker.requester after → IsAsker asker after
  renewed after setup stands = record {
    eid = ap (λ (s : ReqSetup). s.eid) setup ∙ h.stands.eid ∙ ap (λ (n : Eid). n.number) (sym same);
    stands = stands;
  }

  pub asker_told : (n : ℕ) (command : Command) (answer : Result Unit CommandFault) (sends : List (List ℕ)) (a : Option Requesting) (before after : List ℕ) → a ≡ Some h.a
      → asking.IsTold (requester_told h.a command) answer sends asker.requester → new.taken ≡ old.taken → after ≡ before ++ line_text (Line.Command n (fault_of answer)) → IsGivenTo w (told w n command a) before after sends new
  asker_told n command answer sends None before after is t count text = absurd (cc is)
  asker_told n command answer sends (Some a) before after is t count text =
      let step = requester_told h.a command in
      let kept = told_setup h.a command in
      subst (λ (o : Option Requesting). IsGivenTo w (told w n command o) before after sends new) (sym is)
      (record {
        front = Line.Command n step.fault ∷ [];
        plain = refl;
        lines = ap (λ (p : List (List ℕ)). Line.Command n step.fault ∷ packet_lines (length w.sent) p) (sym t.sent);
        text = text ∙ ap (λ (f : Option CommandFault). before ++ line_text (Line.Command n f)) (fault_is answer ∙ t.fault) ∙ ap (λ (t : List ℕ). before ++ t) (sym (append-nil (line_text (Line.Command n step.fault))));
        sent = ap (with_sent w.sent) (sym t.sent);
        ends = requester_changed w k old new asker step.after _ _ e h r.items r.eid r.responder (ap (λ (s : ReqSetup). s.eid) kept) (renewed step.after kept t.stands)
            (kept_same old.taken (taken_in w.requesters w.responder.connections) new.taken _ count e.taken (told_same h.a command k w.requesters w.responder.connections h.at e.apart));
      })

  pub asker_given : (n : ℕ) (packet : List ℕ) (tells : Event) (last : List ℕ) (sends : List (List ℕ)) (before after : List ℕ)
      → asking.IsGiven (requester_given h.a packet) tells sends asker.requester → last ≡ shown.last_data (requester_given h.a packet).after.history
      → new.taken ≡ counted (old.taken + one_if (is_answered tells)) → after ≡ before ++ text_of (event_lines n tells last) → IsGivenTo w (given_to_requester w n (requester_given h.a packet)) before after sends new
  asker_given n packet tells last sends before after g last_is count text =
      let step = requester_given h.a packet in
      let kept = given_setup h.a packet in
      let middle : List Line = data_lines (Whose.Requester n) (id_in_event step.event) step.taken in
      let records : List Line = record_lines n step.measured in
      let own : event_lines n tells last ≡ Line.ToRequester n step.event ∷ middle ++ records =
      ap (λ (t : Event). event_lines n t last) g.event ∙ ap (event_lines n step.event) last_is ∙ requester_tells n h.a packet in
      record {
        front = event_lines n tells last;
        plain = event_plain_data n tells last;
        lines = ap (λ (p : List (List ℕ)). Line.ToRequester n step.event ∷ middle ++ records ++ packet_lines (length w.sent) p) (sym g.sent)
            ∙ ap (λ (l : List Line). l ++ packet_lines (length w.sent) sends) (sym own);
        text = text;
        sent = ap (with_sent w.sent) (sym g.sent);
        ends = requester_changed w k old new asker step.after _ _ e h r.items r.eid r.responder (ap (λ (s : ReqSetup). s.eid) kept) (renewed step.after kept g.stands)
            (kept_more old.taken (taken_in w.requesters w.responder.connections) (one_if (is_answered step.event)) new.taken _ e.taken (count ∙ ap (λ (t : Event). counted (old.taken + one_if (is_answered t))) g.event)
            (asked_more step.after h.a (one_if (is_answered step.event)) k w.requesters w.responder.connections h.at e.apart (ap (λ (s : ReqSetup). s.eid) kept) (requester_counts h.a packet)));
      }

  pub asker_given_at : (a : Requesting) → h.a ≡ a → (n : ℕ) → n ≡ number_at (eid_of h.a) w → (packet : List ℕ) (tells : Event) (last : List ℕ) (sends : List (List ℕ)) (before after : List ℕ)
      → asking.IsGiven (requester_given h.a packet) tells sends asker.requester → last ≡ shown.last_data (requester_given h.a packet).after.history
      → new.taken ≡ counted (old.taken + one_if (is_answered tells)) → after ≡ before ++ text_of (event_lines n tells last) → IsGivenTo w (given_to_requester w (number_at (eid_of a) w) (requester_given a packet)) before after sends new
  asker_given_at a its n number packet tells last sends before after g last_is count text =
      subst (λ (b : Requesting). IsGivenTo w (given_to_requester w (number_at (eid_of b) w) (requester_given b packet)) before after sends new) its
      (subst (λ (m : ℕ). IsGivenTo w (given_to_requester w m (requester_given h.a packet)) before after sends new) number (asker_given n packet tells last sends before after g last_is count text))

-- ---- The responder.

pub responder_given : (w : World) (old new : Ends) (q : ℕ) (packet : List ℕ) (told : Heard) (last : List ℕ) (sends : List (List ℕ)) (before after : List ℕ) → AreEnds old w
    → new.requesters.items ≡ old.requesters.items → new.eid ≡ old.eid → answering.IsStep (responder_hears w.responder packet) told sends new.responder
    → q ≡ number_at (slice_index packet 2) w → last ≡ last_data (responder_hears w.responder packet).after → new.taken ≡ counted (old.taken + one_if (is_taken told)) → after ≡ before ++ text_of (heard_lines q told last)
    → IsGivenTo w (given_to_responder w packet (responder_hears w.responder packet)) before after sends new
responder_given w old new q packet told last sends before after e same eid s number last_is count text =
    let step = responder_hears w.responder packet in
    let n : ℕ = number_at (slice_index packet 2) w in
    let own : heard_lines q told last ≡ Line.ToResponder step.heard ∷ taken_lines n step.taken =
    ap (λ (m : ℕ). heard_lines m told last) number ∙ ap (λ (t : Heard). heard_lines n t last) s.told ∙ ap (heard_lines n step.heard) last_is ∙ responder_tells n w.responder packet in
    record {
      front = heard_lines q told last;
      plain = heard_plain_data q told last;
      lines = ap (λ (p : List (List ℕ)). Line.ToResponder step.heard ∷ taken_lines n step.taken ++ packet_lines (length w.sent) p) (sym s.sent)
          ∙ ap (λ (l : List Line). l ++ packet_lines (length w.sent) sends) (sym own);
      text = text;
      sent = ap (with_sent w.sent) (sym s.sent);
      ends = responder_changed w old new step.after _ _ e same eid s.stands (responder_keeps w.responder packet) (heard_peers w.responder packet e.responder.apart)
          (kept_more old.taken (taken_in w.requesters w.responder.connections) (one_if (is_taken step.heard)) new.taken _ e.taken (count ∙ ap (λ (t : Heard). counted (old.taken + one_if (is_taken t))) s.told)
          (heard_more w.responder packet w.requesters e.responder.apart));
    }

-- ---- Application data.

pub nothing_replied : (w : World) (bytes : List ℕ) (a : Option Requesting) (text : List ℕ) (ends : Ends) → a ≡ None → AreEnds ends w → IsDone w (replied w bytes a) text text ends
nothing_replied w bytes None text ends none e = record { plain = refl; text = sym (append-nil text); sent = refl; ends = e }
nothing_replied w bytes (Some a) text ends none e = absurd (cc none)

queues_part : (fault : Option ReplyFault) (r : Responding) (eid : ℕ) (bytes : List ℕ) → (queues fault r eid bytes).part ≡ r.part
queues_part (Some fault) r eid bytes = refl
queues_part None r eid bytes = refl

pub asker_replied : (w : World) (k : ℕ) (old new : Ends) (eid : ℕ) (bytes : List ℕ) (answer : Result Unit ReplyFault) (a : Option Requesting) (before after : List ℕ) → AreEnds old w → (h : Hit k old.requesters.items w.requesters)
    → a ≡ Some h.a → eid ≡ eid_of h.a → new.requesters.items ≡ old.requesters.items → new.eid ≡ old.eid → new.taken ≡ old.taken → fault_of answer ≡ reply_fault_of (connection_of eid w.responder.connections) bytes
    → answering.StandsFor new.responder (after_reply eid bytes w.responder) → after ≡ before ++ line_text (Line.Reply (fault_of answer)) → IsDone w (replied w bytes a) before after new
asker_replied w k old new eid bytes answer None before after e h is own same its count fault stands text = absurd (cc is)
asker_replied w k old new eid bytes answer (Some a) before after e h is own same its count fault stands text =
    let f : Option ReplyFault = reply_fault_of (connection_of eid w.responder.connections) bytes in
    subst (λ (o : Option Requesting). IsDone w (replied w bytes o) before after new) (sym is)
    (subst (λ (n : ℕ). IsDone w (replied_by w n bytes (connection_of n w.responder.connections)) before after new) own
    (record {
      plain = refl;
      text = text ∙ ap (λ (g : Option ReplyFault). before ++ line_text (Line.Reply g)) fault ∙ ap (λ (t : List ℕ). before ++ t) (sym (append-nil (line_text (Line.Reply f))));
      sent = refl;
      ends = responder_changed w old new (after_reply eid bytes w.responder) _ _ e same its stands (queues_part f w.responder eid bytes) (queued_peers f w.responder eid bytes)
          (count ∙ e.taken ∙ ap counted (sym (queued_same f w.responder eid bytes w.requesters)));
    }))

pub reply_fault_is : (answer : Result Unit ReplyFault) (f : Option ReplyFault) → MatchResult answer (λ done. f ≡ None) (λ fault. f ≡ Some fault) → fault_of answer ≡ f
reply_fault_is (Ok done) f is = sym is
reply_fault_is (Err fault) f is = sym is

-- ---- A packet goes by its byte 1.

module _ (w : World) (packet : List ℕ) (old new : List ℕ) (sends : List (List ℕ)) (ends : Ends) where
  abbrev By : Bool → Bool → Type 0
  By short own = IsGivenTo w (if short then given_to w packet None else (if own then given_to_responder w packet (responder_hears w.responder packet) else given_to w packet (find (is_at (slice_index packet 1)) w.requesters))) old new sends ends

  pub given_short : nat_lt (length packet) 2 ≡ true → IsGivenTo w (given_to w packet None) old new sends ends → IsGivenTo w (given w packet) old new sends ends
  given_short short g = subst (λ (b : Bool). By b (slice_index packet 1 == w.responder.part.eid)) (sym short) g

  pub given_own : nat_lt (length packet) 2 ≡ false → (slice_index packet 1 == w.responder.part.eid) ≡ true → IsGivenTo w (given_to_responder w packet (responder_hears w.responder packet)) old new sends ends → IsGivenTo w (given w packet) old new sends ends
  given_own long own g = subst (λ (b : Bool). By b (slice_index packet 1 == w.responder.part.eid)) (sym long) (subst (λ (b : Bool). By false b) (sym own) g)

  pub given_other : nat_lt (length packet) 2 ≡ false → (slice_index packet 1 == w.responder.part.eid) ≡ false → (a : Option Requesting) → find (is_at (slice_index packet 1)) w.requesters ≡ a → IsGivenTo w (given_to w packet a) old new sends ends → IsGivenTo w (given w packet) old new sends ends
  given_other long other a is g = subst (λ (b : Bool). By b (slice_index packet 1 == w.responder.part.eid)) (sym long) (subst (λ (b : Bool). By false b) (sym other) (subst (λ (o : Option Requesting). IsGivenTo w (given_to w packet o) old new sends ends) (sym is) g))
