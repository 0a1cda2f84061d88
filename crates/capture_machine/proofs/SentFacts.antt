-- What holds of each message that a command sends.
use Rattle.std.proofs.Common.{◌≡◌, ◌≢◌, ℕ, List, refl, sym, ap, ◌∙◌, drop, Bool, true, false, Option, Some, None, is_some, arith, cond}
use Rattle.std.specs.Prelude.{slice_index}
use Rattle.std.proofs.lemmas.Bool.{false≢true}
use Rattle.std.proofs.lemmas.Option.{none-some, same_Some}
use Rattle.negotiate.specs.declared.shared.Common.{Common}
use Rattle.spdm_grammar.specs.Message.{RequestMessage, ChunkMessage}
use Rattle.spdm_grammar.specs.Message.RequestMessage.{GetVersion, GetMeasurements, ChunkSend}
use Rattle.spdm_grammar.specs.Requests.{canonical_request}
use Rattle.spdm_machine.specs.Bodies.{clear_body}
use Rattle.spdm_machine.specs.Keys.{Draw}
use Rattle.requester_machine.specs.Setup.{ReqSetup}
use Rattle.requester_machine.specs.Asking.{asks, done}
use Rattle.requester_machine.specs.Asking.Outcome.{Adds}
use Rattle.requester_machine.specs.Commands.{Free, exchange_for}
use Rattle.requester_machine.specs.History.{History, outstanding, begins_large, connection_terms, next_tag, next_handle}
use Rattle.requester_machine.specs.History.Entry.{Told}
use Rattle.requester_machine.specs.Message.{Command, Sent, body_of, asked_in}
use Rattle.requester_machine.specs.Message.Command.{Connect, Open, Send, Beat, Update, Measure, End, Retry}
use Rattle.requester_machine.specs.Sending.{plain_sent, piece_sent}
use Rattle.requester_machine.proofs.Entries.{asked, test_is_false}
use Rattle.capture_machine.specs.CapturedRequests.{Tells}
use Rattle.capture_machine.specs.Rounds.{no_draw}
use Rattle.capture_machine.proofs.AskTells.{Kind, kind_of, IsSent, sent_by_kind, same_sent, no_again}
use Rattle.capture_machine.proofs.AskTells.Kind.{InClear, OfSession, Again}
use Rattle.spdm_basis.proofs.Options.{none_out}

either_tag : (b : Bool) (h : History) (common : Common) (a : RequestMessage) → (cond b (piece_sent common h a (next_handle h) 0) (plain_sent h a)).tag ≡ next_tag h
either_tag true h common a = refl
either_tag false h common a = refl

-- It has the next tag.
pub sent_tag : (q : ReqSetup) (h : History) (f : Free) (c : Command) (s : Sent) (d : Draw) → done q h c f d ≡ Adds (Told c s d) → s.tag ≡ next_tag h
sent_tag q h f Connect s d e = ap (λ (m : Sent). m.tag) (sym (same_sent Connect _ s d e))
sent_tag q h f (Open summary) s d e = ap (λ (m : Sent). m.tag) (sym (same_sent (Open summary) _ s d e)) ∙ either_tag _ h (connection_terms h).common (exchange_for q f summary)
sent_tag q h f (Send id bytes) s d e = ap (λ (m : Sent). m.tag) (sym (same_sent (Send id bytes) _ s d e))
sent_tag q h f (Beat id) s d e = ap (λ (m : Sent). m.tag) (sym (same_sent (Beat id) _ s d e))
sent_tag q h f (Update id all) s d e = ap (λ (m : Sent). m.tag) (sym (same_sent (Update id all) _ s d e))
sent_tag q h f (Measure None op) s d e = ap (λ (m : Sent). m.tag) (sym (same_sent (Measure None op) _ s d e)) ∙ either_tag _ h (connection_terms h).common (GetMeasurements op)
sent_tag q h f (Measure (Some id) op) s d e = ap (λ (m : Sent). m.tag) (sym (same_sent (Measure (Some id) op) _ s d e))
sent_tag q h f (End id) s d e = ap (λ (m : Sent). m.tag) (sym (same_sent (End id) _ s d e))
sent_tag q h f Retry s d e = absurd (no_again (outstanding h) Retry s d e)

pub asked_tag : (q : ReqSetup) (h : History) (f : Free) (c : Command) (s : Sent) (d : Draw) → asks false q h c f d ≡ Adds (Told c s d) → s.tag ≡ next_tag h
asked_tag q h f c s d e = sent_tag q h f c s d (asked false q h c f d (Told c s d) e).1

-- A command begins a large request only where nothing is outstanding.

pub large_free : (q : ReqSetup) (h : History) (f : Free) (c : Command) (s : Sent) (d : Draw) → asks false q h c f d ≡ Adds (Told c s d) → begins_large s.aim ≡ true → outstanding h ≡ None
large_free q h f Connect s d e large =
    absurd (false≢true (ap (λ (m : Sent). begins_large m.aim) (same_sent Connect (plain_sent h GetVersion) s d (asked false q h Connect f d (Told Connect s d) e).1) ∙ large))
large_free q h f (Open summary) s d e large = none_out _ (test_is_false false q h (Open summary) f (asked false q h (Open summary) f d (Told (Open summary) s d) e).0 1)
large_free q h f (Send id bytes) s d e large = none_out _ (test_is_false false q h (Send id bytes) f (asked false q h (Send id bytes) f d (Told (Send id bytes) s d) e).0 1)
large_free q h f (Beat id) s d e large = none_out _ (test_is_false false q h (Beat id) f (asked false q h (Beat id) f d (Told (Beat id) s d) e).0 1)
large_free q h f (Update id all) s d e large = none_out _ (test_is_false false q h (Update id all) f (asked false q h (Update id all) f d (Told (Update id all) s d) e).0 1)
large_free q h f (Measure o op) s d e large = none_out _ (test_is_false false q h (Measure o op) f (asked false q h (Measure o op) f d (Told (Measure o op) s d) e).0 1)
large_free q h f (End id) s d e large = none_out _ (test_is_false false q h (End id) f (asked false q h (End id) f d (Told (End id) s d) e).0 1)
large_free q h f Retry s d e large = absurd (no_again (outstanding h) Retry s d (asked false q h Retry f d (Told Retry s d) e).1)

-- ---- No command has the body of CHUNK_SEND.

clear_other : (q : ReqSetup) (h : History) (f : Free) (c : Command) (a : RequestMessage) (x : ChunkMessage) → kind_of q h f c ≡ InClear a → canonical_request a ≢ canonical_request (ChunkSend x)
clear_other q h f Connect a x is e = let y : a ≡ GetVersion = cc in
    absurd (let t = ap (λ (l : List ℕ). slice_index l 1) (ap canonical_request (sym y) ∙ e) in omega (arith, t))
clear_other q h f (Open summary) a x is e = let y : a ≡ exchange_for q f summary = cc in
    absurd (let t = ap (λ (l : List ℕ). slice_index l 1) (ap canonical_request (sym y) ∙ e) in omega (arith, t))
clear_other q h f (Measure None op) a x is e = let y : a ≡ GetMeasurements op = cc in
    absurd (let t = ap (λ (l : List ℕ). slice_index l 1) (ap canonical_request (sym y) ∙ e) in omega (arith, t))
clear_other q h f (Send id bytes) a x is e = absurd (cc)
clear_other q h f (Beat id) a x is e = absurd (cc)
clear_other q h f (Update id all) a x is e = absurd (cc)
clear_other q h f (Measure (Some id) op) a x is e = absurd (cc)
clear_other q h f (End id) a x is e = absurd (cc)
clear_other q h f Retry a x is e = absurd (cc)

kind_other : (q : ReqSetup) (h : History) (f : Free) (c : Command) (kind : Kind) (s : Sent) (x : ChunkMessage) → kind_of q h f c ≡ kind → IsSent q h f kind s → begins_large s.aim ≡ false
    → body_of s.content ≢ clear_body (canonical_request (ChunkSend x))
kind_other q h f c (InClear a) s x is sent small e =
    let one : s ≡ plain_sent h a = sent.0 small in
    clear_other q h f c a x is (ap (λ (l : List ℕ). drop 1 l) (ap (λ (m : Sent). body_of m.content) (sym one) ∙ e))
kind_other q h f c (OfSession id ask inner) s x is sent small e =
    absurd (let t = ap (λ (l : List ℕ). slice_index l 0) (ap (λ (m : Sent). body_of m.content) (sym sent) ∙ e) in omega (arith, t))
kind_other q h f c Again s x is sent small e = sent

pub tells_other : (q : ReqSetup) (h : History) (c : Command) (body : List ℕ) (next : History) (x : ChunkMessage) → Tells q h c body next → body ≢ clear_body (canonical_request (ChunkSend x))
tells_other q h c body next x one e =
    kind_other q h one.1.0 c (kind_of q h one.1.0 c) one.0 x refl
    (sent_by_kind q h one.1.0 c one.0 no_draw (asked false q h c one.1.0 no_draw (Told c one.0 no_draw) one.1.2).1) one.2 (one.3 ∙ e)

-- ---- What a command that begins a large request asks for.

kind_asked : (q : ReqSetup) (h : History) (f : Free) (kind : Kind) (s : Sent) (a : RequestMessage) → IsSent q h f kind s → asked_in s.aim ≡ Some a → kind ≡ InClear a
kind_asked q h f (InClear b) s a sent asks = ap InClear (same_Some b a (sym sent.1 ∙ asks))
kind_asked q h f (OfSession id ask inner) s a sent asks = absurd (none-some a (sym (ap (λ (m : Sent). asked_in m.aim) sent) ∙ asks))
kind_asked q h f Again s a sent asks = absurd sent

pub large_kind : (q : ReqSetup) (h : History) (f : Free) (c : Command) (s : Sent) (a : RequestMessage) → asks false q h c f no_draw ≡ Adds (Told c s no_draw) → asked_in s.aim ≡ Some a → kind_of q h f c ≡ InClear a
large_kind q h f c s a e asks = kind_asked q h f (kind_of q h f c) s a (sent_by_kind q h f c s no_draw (asked false q h c f no_draw (Told c s no_draw) e).1) asks
