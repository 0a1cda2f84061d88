-- The application data that a requester sealed are those in the texts of its marks.
use Rattle.std.proofs.Common.{◌≡◌, ℕ, ◌<◌, ◌≤◌, List, [], ◌∷◌, ◌++◌, length, nat_lt, Bool, true, false, cond, Option, Some, None, refl, sym, ap, ◌∙◌, subst, inl, inr, arith, append-nil}
use Rattle.std.proofs.lemmas.Bool.{leb-false}
use Rattle.requester_machine.proofs.Entries.{asked, test_is_false}
use Rattle.requester_machine.specs.Asking.{Outcome, done, resent}
use Rattle.requester_machine.specs.Asking.Outcome.{Adds}
use Rattle.requester_machine.specs.Commands.{Free, command_fault}
use Rattle.requester_machine.specs.Does.{IsMade, requester_asks, command_chosen, body_chosen}
use Rattle.requester_machine.specs.History.{History, Effect, Led, outstanding, connection_terms, next_handle}
use Rattle.requester_machine.specs.History.Effect.{Answers}
use Rattle.requester_machine.specs.History.Entry.{Told, TookClear, TookRecord}
use Rattle.requester_machine.specs.Hearing.{came_to}
use Rattle.requester_machine.specs.InnerMessages.{Came}
use Rattle.requester_machine.specs.Message.{Command, Ask, Content, Sent}
use Rattle.requester_machine.specs.Message.Command.{Connect, Open, Send, Beat, Update, Measure, End, Retry}
use Rattle.requester_machine.specs.Message.Content.{Clear, Sealed}
use Rattle.requester_machine.specs.RequesterLog.{steps_at}
use Rattle.requester_machine.specs.Sending.{request_sent, piece_sent, plain_sent, key_update, operation_of}
use Rattle.requester_machine.specs.Session.{Steps, session_of, stage_of, t2_of, finishes}
use Rattle.requester_machine.specs.Session.Step.{Took}
use Rattle.spdm_grammar.specs.Message.RequestMessage.{GetMeasurements, PskExchange, Heartbeat, EndSession}
use Rattle.spdm_grammar.specs.Requests.{canonical_request}
use Rattle.spdm_grammar.specs.declared.told.phase.Stage.{Stage}
use Rattle.spdm_grammar.specs.declared.told.phase.Stage.TheVariants as stage
use Rattle.spdm_machine.specs.Keys.{Draw}
use Rattle.spdm_machine.specs.Bodies.{record_body}
use Rattle.requester_machine.specs.Setup.{ReqSetup}
use Rattle.world_machine.specs.Agreement.{sent_under, requests_sealed}
use Rattle.secured_record.specs.Format.{plain_text}
use Rattle.spdm_agreement.specs.Claims.{in_order}
use Rattle.spdm_agreement.specs.Marks as marks
use Rattle.spdm_agreement.specs.Marks.{requests, heard}
use Rattle.spdm_agreement.specs.Reading.{First}
use Rattle.spdm_agreement.specs.Story.{asked_marks, command_marks, clear_marks, taken_marks, next_marks, content_marks, asked_first, request_text, answer_text, ask_in}
use Rattle.spdm_agreement.proofs.Requester.ClearLeads.{IsClear}
use Rattle.spdm_agreement.proofs.Requester.Entries.{IsTookRecord, record_entry}
use Rattle.spdm_agreement.proofs.Requester.RecordLeads.{NextRecord}
use Rattle.spdm_agreement.proofs.Delivery.Data.{asked_data, data_in}
use Rattle.spdm_agreement.proofs.Delivery.InnerText.{data_text, message_no_data, one_more}

-- ---- What one request adds.

-- Application data, or none.
data_chosen : (bytes pad : List ℕ) → length bytes ≤ 1024 → asked_data (plain_text (1 ∷ bytes) pad) ≡ bytes ∷ []
data_chosen bytes pad short =
    let d = data_text bytes pad short in
    ap (λ (b : Bool). cond b (data_in (plain_text (1 ∷ bytes) pad) ∷ []) []) d.0 ∙ ap (λ (l : List ℕ). l ∷ []) d.1

none_chosen : (message pad : List ℕ) → asked_data (plain_text (5 ∷ message) pad) ≡ []
none_chosen message pad = ap (λ (b : Bool). cond b (data_in (plain_text (5 ∷ message) pad) ∷ []) []) (message_no_data message pad)

-- What a command adds to the requests.
abbrev CommandAdds : History → List ℕ → List marks.Asked → Outcome → Type 0
CommandAdds h t2 old (Adds (Told command x d)) = in_order asked_data (requests t2 (command_marks h command x d ++ old)) ≡ in_order asked_data (requests t2 old) ++ sent_under t2 h command
CommandAdds h t2 old _ = Unit {0}

clear_adds : (s : Steps) (c : Content) (t2 : List ℕ) (old : List marks.Asked) → IsClear c → in_order asked_data (requests t2 (content_marks s c ++ old)) ≡ in_order asked_data (requests t2 old) ++ []
clear_adds s (Clear message) t2 old is = sym (append-nil (in_order asked_data (requests t2 old)))
clear_adds s (Sealed sealed inner pad) t2 old is = absurd is

request_adds : (s : Steps) (message pad t2 : List ℕ) (old : List marks.Asked) → in_order asked_data (requests t2 (marks.Asked.Sealed (t2_of s) (plain_text (5 ∷ message) pad) ∷ old)) ≡ in_order asked_data (requests t2 old) ++ []
request_adds s message pad t2 old = one_more asked_data (plain_text (5 ∷ message) pad) (requests t2 old) t2 (t2_of s) None (none_chosen message pad)

measured_clear : (h : History) (op : ℕ) → IsClear (request_sent (connection_terms h).common h (GetMeasurements op)).content
measured_clear h op = go (nat_lt (connection_terms h).common.to_responder.transfer (length (canonical_request (GetMeasurements op))))
  where
    go : (b : Bool) → IsClear (cond b (piece_sent (connection_terms h).common h (GetMeasurements op) (next_handle h) 0) (plain_sent h (GetMeasurements op))).content
    go true = tt
    go false = tt

resent_adds : (h : History) (t2 : List ℕ) (old : List marks.Asked) (o : Option Sent) → CommandAdds h t2 old (resent o)
resent_adds h t2 old None = tt
resent_adds h t2 old (Some x) = tt

done_adds : (q : ReqSetup) (h : History) (c : Command) (f : Free) (d : Draw) (t2 : List ℕ) (old : List marks.Asked) → command_fault false q h c f ≡ None → CommandAdds h t2 old (done q h c f d)
done_adds q h Connect f d t2 old none = sym (append-nil (in_order asked_data (requests t2 old)))
done_adds q h (Open summary) f d t2 old none = sym (append-nil (in_order asked_data (requests t2 old)))
done_adds q h (Send id bytes) f d t2 old none =
    let short : length bytes < 1025 = leb-false 1025 (length bytes) (test_is_false false q h (Send id bytes) f none 8) in
    one_more asked_data (plain_text (1 ∷ bytes) f.pad) (requests t2 old) t2 (t2_of (session_of id h)) (Some bytes) (data_chosen bytes f.pad (omega arith))
done_adds q h (Beat id) f d t2 old none = request_adds (session_of id h) (canonical_request Heartbeat) f.pad t2 old
done_adds q h (Update id all) f d t2 old none = request_adds (session_of id h) (canonical_request (key_update (session_of id h) (operation_of all))) f.pad t2 old
done_adds q h (Measure None op) f d t2 old none = clear_adds (steps_at h (request_sent (connection_terms h).common h (GetMeasurements op)).aim) (request_sent (connection_terms h).common h (GetMeasurements op)).content t2 old (measured_clear h op)
done_adds q h (Measure (Some id) op) f d t2 old none = request_adds (session_of id h) (canonical_request (GetMeasurements op)) f.pad t2 old
done_adds q h (End id) f d t2 old none = request_adds (session_of id h) (canonical_request EndSession) f.pad t2 old
done_adds q h Retry f d t2 old none = resent_adds h t2 old (outstanding h)

command_adds : (q : ReqSetup) (h : History) (c : Command) (x : Sent) (d : Draw) (t2 : List ℕ) (old : List marks.Asked) → requester_asks false q h c d ≡ Adds (Told c x d) → CommandAdds h t2 old (Adds (Told c x d))
command_adds q h c x d t2 old is =
    let a = asked false q h c (command_chosen q h d) d (Told c x d) is in
    subst (CommandAdds h t2 old) a.1 (done_adds q h c (command_chosen q h d) d t2 old a.0)

-- ---- Answers.

pub clear_same : (t2 : List ℕ) (old : List marks.Asked) (h : History) (effect : Effect) → (requests t2 (clear_marks h effect ++ old) ≡ requests t2 old) × (heard t2 (clear_marks h effect ++ old) ≡ heard t2 old)
clear_same t2 old h (Answers (PskExchange exchange) answer) = (refl, refl)
clear_same t2 old h _ = (refl, refl)

-- No request that goes out after an answer holds application data.
next_adds : (q : ReqSetup) (h : History) (f : Free) (came : Came) (effect : Effect) (ask : Ask) (next : Option Sent) (s : Steps) (t2 u b reply : List ℕ) (old : List marks.Asked) → NextRecord q h f came effect ask next
    → in_order asked_data (requests t2 ((next_marks s next ++ marks.Asked.Heard u b reply ∷ []) ++ old)) ≡ in_order asked_data (requests t2 old)
next_adds q h f came effect ask None s t2 u b reply old k = refl
next_adds q h f came effect ask (Some x) s t2 u b reply old k =
    subst (λ (y : Sent). in_order asked_data (requests t2 ((content_marks s y.content ++ marks.Asked.Heard u b reply ∷ []) ++ old)) ≡ in_order asked_data (requests t2 old)) (sym k.is)
    (elim k.kind [
      | inl v ↦ go k.inner _ v.1
      | inr c ↦ go k.inner _ c.5
    ])
  where
    go : (inner message : List ℕ) → inner ≡ 5 ∷ message → in_order asked_data (requests t2 (marks.Asked.Sealed (t2_of s) (plain_text inner f.pad) ∷ marks.Asked.Heard u b reply ∷ old)) ≡ in_order asked_data (requests t2 old)
    go inner message e =
        subst (λ (l : List ℕ). in_order asked_data (requests t2 (marks.Asked.Sealed (t2_of s) (plain_text l f.pad) ∷ marks.Asked.Heard u b reply ∷ old)) ≡ in_order asked_data (requests t2 old)) (sym e)
        (request_adds s message f.pad t2 (marks.Asked.Heard u b reply ∷ old) ∙ append-nil (in_order asked_data (requests t2 old)))

-- A record in the handshake leaves no request.
shake_same : (b : Bool) (x : First) (u t2 : List ℕ) (old : List marks.Asked) → requests t2 (cond b (marks.Asked.Opened x u ∷ []) [] ++ old) ≡ requests t2 old
shake_same true x u t2 old = refl
shake_same false x u t2 old = refl

next_none : (q : ReqSetup) (h : History) (f : Free) (came : Came) (effect : Effect) (ask : Ask) (o : Option Sent) (s : Steps) (t2 u b reply : List ℕ) (old : List marks.Asked) → o ≡ None
    → in_order asked_data (requests t2 ((next_marks s o ++ marks.Asked.Heard u b reply ∷ []) ++ old)) ≡ in_order asked_data (requests t2 old)
next_none q h f came effect ask None s t2 u b reply old e = refl
next_none q h f came effect ask (Some x) s t2 u b reply old e = absurd (cc)

record_same : (q : ReqSetup) (h : History) (f : Free) (body : List ℕ) (of : ℕ) (sealed inner : List ℕ) (led : Led) (s : Steps) (t2 u b reply : List ℕ) (old : List marks.Asked) → IsTookRecord q h f body of sealed inner led
    → in_order asked_data (requests t2 ((next_marks s led.next ++ marks.Asked.Heard u b reply ∷ []) ++ old)) ≡ in_order asked_data (requests t2 old)
record_same q h f body of sealed inner led s t2 u b reply old k = elim k.led_to [
  | inl a ↦ next_adds q h f (came_to q h of k.ask sealed) led.effect k.ask led.next s t2 u b reply old a.next
  | inr e ↦ next_none q h f (came_to q h of k.ask sealed) led.effect k.ask led.next s t2 u b reply old e.next
]

staged_same : (g : Stage) (q : ReqSetup) (h : History) (f : Free) (body : List ℕ) (of : ℕ) (sealed inner : List ℕ) (led : Led) (s : Steps) (t2 : List ℕ) (old : List marks.Asked) → IsTookRecord q h f body of sealed inner led
    → in_order asked_data (requests t2 (taken_marks g q s (outstanding h) sealed inner led ++ old)) ≡ in_order asked_data (requests t2 old)
staged_same stage.Handshake q h f body of sealed inner led s t2 old k = ap (in_order asked_data) (shake_same (finishes led.effect) (asked_first s) (t2_of (Took sealed inner led.effect ∷ s)) t2 old)
staged_same stage.Open q h f body of sealed inner led s t2 old k = record_same q h f body of sealed inner led (Took sealed inner led.effect ∷ s) t2 (t2_of s) (request_text (outstanding h)) (answer_text q.psk s (ask_in (outstanding h)) sealed) old k
staged_same stage.Verifying q h f body of sealed inner led s t2 old k = record_same q h f body of sealed inner led (Took sealed inner led.effect ∷ s) t2 (t2_of s) (request_text (outstanding h)) (answer_text q.psk s (ask_in (outstanding h)) sealed) old k

pub requests_are : (q : ReqSetup) (h : History) → IsMade q h → (t2 : List ℕ) → requests_sealed t2 h ≡ in_order asked_data (requests t2 (asked_marks q h))
requests_are q [] made t2 = refl
requests_are q (Told c x d ∷ older) made t2 =
    ap (λ (l : List (List ℕ)). l ++ sent_under t2 older c) (requests_are q older made.1 t2) ∙ sym (command_adds q older c x d t2 (asked_marks q older) made.0)
requests_are q (TookClear tag m led d ∷ older) made t2 = requests_are q older made.1 t2 ∙ ap (in_order asked_data) (sym (clear_same t2 (asked_marks q older) older led.effect).0)
requests_are q (TookRecord tag of sealed inner led d ∷ older) made t2 =
    requests_are q older made.1 t2
    ∙ sym (staged_same (stage_of (session_of of older)) q older (body_chosen q older d) (record_body sealed) of sealed inner led (session_of of older) t2 (asked_marks q older)
    (record_entry q older false tag tag (record_body sealed) of sealed inner (body_chosen q older d) led d d made.0))
