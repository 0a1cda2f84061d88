-- The first chunk of a large request that a requester owes has the next tag and the next handle.
use Rattle.std.proofs.Common.{◌≡◌, ◌∙◌, ◌⊎◌, ℕ, List, [], ◌∷◌, refl, sym, ap, subst, drop, Bool, true, false, Option, Some, None, Result, Ok, Err, inl, inr}
use Rattle.std.specs.Prelude.{MatchBool}
use Rattle.std.proofs.lemmas.Bool.{false≢true}
use Rattle.std.proofs.lemmas.Option.{none-some, same_Some}
use Rattle.mctp_framing.specs.Gathering.{Gathered}
use Rattle.mctp_framing.specs.Gathering.Gathered.{Whole, More, Dropped}
use Rattle.mctp_framing.specs.Packet.{PacketFields, parsed}
use Rattle.requester_machine.proofs.ClearLeads.{ClearLeads, clear_leads}
use Rattle.requester_machine.proofs.ClearLeads.ClearLeads.{ByRefusal, ByLarge, BySend, ByGet, ByStop, ByVersion, ByCaps, ByChoice, ByMeasured, ByExchange}
use Rattle.requester_machine.proofs.Heard.{heard}
use Rattle.requester_machine.specs.Asking.{Outcome}
use Rattle.requester_machine.specs.Asking.Outcome.{Fails, Ignores, Warns, Resends, Adds}
use Rattle.requester_machine.specs.Commands.{Free}
use Rattle.requester_machine.specs.Hearing.{hears}
use Rattle.requester_machine.specs.History.{Entry, History, Led, begins_large, next_handle, next_tag, outstanding}
use Rattle.requester_machine.specs.History.Entry.{Told, TookClear, TookRecord}
use Rattle.requester_machine.specs.Message.{Aim, Sent}
use Rattle.requester_machine.specs.Message.Aim.{ByChunks}
use Rattle.requester_machine.specs.Owed.{with_next}
use Rattle.requester_machine.specs.Sending.{piece_sent, plain_sent, request_sent}
use Rattle.requester_machine.specs.Setup.{ReqSetup}
use Rattle.requester_machine.specs.Shown.{after}
use Rattle.spdm_basis.specs.declared.PacketFault.{PacketFault}
use Rattle.spdm_grammar.specs.Message.{RequestMessage}
use Rattle.spdm_grammar.specs.Message.RequestMessage.{NegotiateAlgorithms}
use Rattle.spdm_machine.specs.Packets.{gathered_from}
use Rattle.check_laws.proofs.KeptParts.{it_owes, owed_is}
use Rattle.check_laws.specs.Keeping.{Keeps, Kept}
use Rattle.check_laws.specs.Order.{is_answer, is_request}
use Rattle.check_laws.specs.Walks.{StepsBy, StepsTo, Walks}
use Rattle.check_laws.proofs.Large.Begun.{alike_e, back, bare_e, e, owes_e, walk_e}
use Rattle.check_laws.proofs.Large.Histories.{later}
use Rattle.check_laws.proofs.Large.UponClear.{owed_upon}
use Rattle.check_laws.specs.Large.Sending.{is_upon_clear}
use Rattle.capture_machine.proofs.AskersStep.{owed}
use Rattle.capture_machine.proofs.HeardNext.{either_next, none_next, some_next}
use Rattle.capture_machine.specs.Capture.{AsksBy, Begins, Copies, RepliesBy}
use Rattle.capture_machine.specs.CapturedAnswers.{Hears, HearsWhile}
use Rattle.capture_machine.specs.CapturedRequests.{Sends}
use Rattle.capture_machine.specs.Rounds.{Dialogue, no_draw}
use Rattle.world_machine.specs.Setup.{Configuration}

-- ---- The newest entry.

-- The chunk has this handle.
abbrev pub HasHandle : ℕ → Aim → Type 0
HasHandle n (ByChunks asked handle number) = handle ≡ n
HasHandle n _ = Unit {0}

-- A first chunk that is sent after this history has its next tag and its next handle.
abbrev pub IsAt : History → Sent → Type 0
IsAt h s = begins_large s.aim ≡ true → (s.tag ≡ next_tag h) × HasHandle (next_handle h) s.aim

abbrev Own : History → Type 0
Own (TookClear tag m led d ∷ older) = (s : Sent) → led.next ≡ Some s → IsAt older s
Own _ = Unit {0}

none_large : (h : History) (s : Sent) → begins_large s.aim ≡ false → IsAt h s
none_large h s small = λ large. absurd (false≢true (sym small ∙ large))

clear_own : (q : ReqSetup) (h : History) (f : Free) (aim : Aim) (m : List ℕ) (asked : RequestMessage) (led : Led) → ClearLeads q h f aim m asked led → (s : Sent) → led.next ≡ Some s → IsAt h s
clear_own q h f aim m asked led (ByRefusal code is) = none_next (IsAt h) led.next (ap (λ (l : Led). l.next) is)
clear_own q h f aim m asked led (ByLarge handle may is) = some_next (IsAt h) led.next _ (ap (λ (l : Led). l.next) is) (λ large. absurd (false≢true large))
clear_own q h f aim m asked led (BySend handle number aims last is) = some_next (IsAt h) led.next _ (ap (λ (l : Led). l.next) is) (λ large. absurd (false≢true (sym (later number) ∙ large)))
clear_own q h f aim m asked led (ByGet handle number before c aims none last is) = some_next (IsAt h) led.next _ (ap (λ (l : Led). l.next) is) (λ large. absurd (false≢true large))
clear_own q h f aim m asked led (ByStop why may is) = none_next (IsAt h) led.next (ap (λ (l : Led). l.next) is)
clear_own q h f aim m asked led (ByVersion answer asks is) = some_next (IsAt h) led.next _ (ap (λ (l : Led). l.next) is) (λ large. absurd (false≢true large))
clear_own q h f aim m asked led (ByCaps caps theirs answer common offer asks read settled offers short is) =
    some_next (IsAt h) led.next (request_sent common h (NegotiateAlgorithms offer)) (ap (λ (l : Led). l.next) is)
    (either_next (IsAt h) _ (piece_sent common h (NegotiateAlgorithms offer) (next_handle h) 0) (plain_sent h (NegotiateAlgorithms offer)) (λ large. (refl, refl)) (λ large. absurd (false≢true large)))
clear_own q h f aim m asked led (ByChoice offer answer asks is) = none_next (IsAt h) led.next (ap (λ (l : Led). l.next) is)
clear_own q h f aim m asked led (ByMeasured op answer finish asks is) = none_next (IsAt h) led.next (ap (λ (l : Led). l.next) is)
clear_own q h f aim m asked led (ByExchange exchange answer rsp asks read right is) = some_next (IsAt h) led.next _ (ap (λ (l : Led). l.next) is) (λ large. absurd (false≢true large))

entry_own : (q : ReqSetup) (h : History) (tag : ℕ) (body : List ℕ) (f : Free) (x : Entry) → hears q h false tag body f no_draw ≡ Adds x → Own (x ∷ h)
entry_own q h tag body f x adds = elim (heard q h false tag body f no_draw x adds) [
  | inl taken ↦ subst (λ (y : Entry). Own (y ∷ h)) (sym taken.is) (clear_own q h f taken.sent.aim (drop 1 body) taken.asked taken.led (clear_leads q h f taken.sent.aim (drop 1 body) taken.asked taken.led taken.asks taken.leads))
  | inr opened ↦ subst (λ (y : Entry). Own (y ∷ h)) (sym opened.1.is) tt
]

outcome_own : (q : ReqSetup) (h : History) (tag : ℕ) (body : List ℕ) (f : Free) (o : Outcome) → hears q h false tag body f no_draw ≡ o → Own h → Own (after h o)
outcome_own q h tag body f (Adds x) adds own = entry_own q h tag body f x adds
outcome_own q h tag body f (Fails fault) is own = own
outcome_own q h tag body f (Ignores cause) is own = own
outcome_own q h tag body f (Warns code) is own = own
outcome_own q h tag body f (Resends sent) is own = own

-- Another message is outstanding.
small_own : (h : History) (s : Sent) → outstanding h ≡ Some s → begins_large s.aim ≡ false → Own h
small_own [] s waits small = tt
small_own (Told c x d ∷ h) s waits small = tt
small_own (TookClear tag m led d ∷ h) s waits small = λ x is. none_large h x (ap (λ (y : Sent). begins_large y.aim) (same_Some x s (sym is ∙ waits)) ∙ small)
small_own (TookRecord tag id sealed inner led d ∷ h) s waits small = tt

-- ---- All walks.

-- Where no large request is in progress.
abbrev OwnIn : Dialogue → Type 0
OwnIn d = d.sending ≡ None → Own d.requester

sends_own : (b : Dialogue) (body : List ℕ) (h : History) (sending : Option (List ℕ)) → Sends b body h sending → sending ≡ None → Own h
unfolding Sends
sends_own b body h sending (inl (inl tells, none)) is = subst Own (sym tells.4) tt
sends_own b body h sending (inl (inr commands, none)) is = subst Own (sym commands.2.4) tt
sends_own b body h sending (inr (inl goes)) is = subst Own (sym goes.5) (small_own b.requester goes.0 goes.1.0 goes.2)
sends_own b body h sending (inr (inr (whole, large, so))) is = absurd (none-some whole (sym is ∙ so))

asks_own : (b d : Dialogue) (g : Gathered) → OwnIn b → AsksBy b g d → OwnIn d
asks_own b d (Whole route body) own c = by_kind c.2
  where
    same_own : d.requester ≡ b.requester → d.sending ≡ b.sending → OwnIn d
    same_own is sends none = subst Own (sym is) (own (sym sends ∙ none))

    by_kind : Copies b route.tag body d ⊎ Begins b route.tag body d → OwnIn d
    by_kind (inl k) = same_own (ap (λ (x : Dialogue). x.requester) k.4) (ap (λ (x : Dialogue). x.sending) k.4)
    by_kind (inr k) = λ none. subst Own (sym (ap (λ (x : Dialogue). x.requester) k.2.3)) (sends_own b body k.2.0 k.2.1 k.2.2 (sym (ap (λ (x : Dialogue). x.sending) k.2.3) ∙ none))
asks_own b d More own c = λ none. subst Own (sym (ap (λ (x : Dialogue). x.requester) c)) (own (sym (ap (λ (x : Dialogue). x.sending) c) ∙ none))
asks_own b d (Dropped cause) own c = absurd c

heard_own : (b : Dialogue) (tag : ℕ) (answer : List ℕ) (next : History) → OwnIn b → b.sending ≡ None → Hears b tag answer next → Own next
unfolding Hears
heard_own b tag answer next own none c =
    let it = subst (λ (o : Option (List ℕ)). HearsWhile o b tag answer next) none c in
    subst Own (sym it.2) (outcome_own b.setup b.requester tag answer it.1.0 it.0 it.1.2 (own none))

replies_own : (w : Configuration) (b d : Dialogue) (g : Gathered) → OwnIn b → RepliesBy w b g d → OwnIn d
replies_own w b d (Whole route body) own c = λ none.
    subst Own (sym (ap (λ (x : Dialogue). x.requester) c.2.4.3.2)) (heard_own b route.tag body c.2.4.3.0 own (sym (ap (λ (x : Dialogue). x.sending) c.2.4.3.2) ∙ none) c.2.4.3.1)
replies_own w b d More own c = λ none. subst Own (sym (ap (λ (x : Dialogue). x.requester) c)) (own (sym (ap (λ (x : Dialogue). x.sending) c) ∙ none))
replies_own w b d (Dropped cause) own c = absurd c

step_own : (w : Configuration) (eid : ℕ) (older : List (List ℕ)) (b d : Dialogue) (r : Result PacketFields PacketFault) → OwnIn b → StepsBy w eid older b d r → OwnIn d
step_own w eid older b d (Err fault) own c = λ none. subst Own (sym (ap (λ (x : Dialogue). x.requester) c)) (own (sym (ap (λ (x : Dialogue). x.sending) c) ∙ none))
step_own w eid older b d (Ok p) own c = by_ends (is_request w.responder.eid eid p) (is_answer w.responder.eid eid p) c
  where
    by_ends : (x y : Bool) → MatchBool x (AsksBy b (gathered_from w.responder.eid eid older p) d) (MatchBool y (RepliesBy w b (gathered_from eid w.responder.eid older p) d) (d ≡ b)) → OwnIn d
    by_ends true y asks = asks_own b d (gathered_from w.responder.eid eid older p) own asks
    by_ends false true replies = replies_own w b d (gathered_from eid w.responder.eid older p) own replies
    by_ends false false same = λ none. subst Own (sym (ap (λ (x : Dialogue). x.requester) same)) (own (sym (ap (λ (x : Dialogue). x.sending) same) ∙ none))

walk_own : (w : Configuration) (q : ReqSetup) (older : List (List ℕ)) (d : Dialogue) → Walks w q older d → OwnIn d
unfolding StepsTo
walk_own w q [] d walk = λ none. subst Own (sym (ap (λ (x : Dialogue). x.requester) walk)) tt
walk_own w q (packet ∷ older) d walk = step_own w q.eid older walk.0 d (parsed packet) (walk_own w q older walk.0 walk.1) walk.2

-- ---- What is owed.

bare_at : (h : History) (x : Sent) → Own h → is_upon_clear (with_next None h) ≡ true → outstanding h ≡ Some x → IsAt (with_next None h) x
bare_at [] x own upon waits = absurd (false≢true upon)
bare_at (Told c y d ∷ h) x own upon waits = absurd (false≢true upon)
bare_at (TookClear tag m led d ∷ h) x own upon waits = own x waits
bare_at (TookRecord tag id sealed inner led d ∷ h) x own upon waits = absurd (false≢true upon)

pub owed_at : (w : Configuration) (q : ReqSetup) (older : List (List ℕ)) (k : Kept) (sent : Sent) → Keeps w q older k → k.owed ≡ Some sent → begins_large sent.aim ≡ true → (sent.tag ≡ next_tag k.requester) × HasHandle (next_handle k.requester) sent.aim
owed_at w q older k sent keeps owes_it large =
    let d : Dialogue = e w q older k keeps in
    let are = owes_e w q older k keeps sent owes_it in
    let has = it_owes k.round d.requester d.requester None None (alike_e w q older k keeps) refl are in
    let t : Sent = has.sent in
    let one = same_Some sent _ (sym owes_it ∙ ap (λ (x : Kept). x.owed) (sym (back w q older k keeps)) ∙ owed_is d t are has.waits) in
    let big : begins_large t.aim ≡ true = ap (λ (m : Sent). begins_large m.aim) (sym one) ∙ large in
    let upon = owed_upon w q older d t (walk_e w q older k keeps) (alike_e w q older k keeps) refl are has.waits big in
    let bare_is : with_next None d.requester ≡ k.requester = sym (owed d are) ∙ bare_e w q older k keeps in
    let found = bare_at d.requester t (walk_own w q older d (walk_e w q older k keeps) refl) upon.0 has.waits big in
    let P : History → Type 0 = λ l. (sent.tag ≡ next_tag l) × HasHandle (next_handle l) sent.aim in
    subst P bare_is (ap (λ (x : Sent). x.tag) one ∙ found.0, subst (HasHandle (next_handle (with_next None d.requester))) (sym (ap (λ (x : Sent). x.aim) one)) found.1)
