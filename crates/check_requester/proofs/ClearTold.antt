-- Whether a command sends a message in the clear.
use Rattle.std.proofs.Common.{◌≡◌, ◌∙◌, ℕ, List, [], ◌∷◌, refl, sym, ap, subst, Bool, true, false, Option, Some, None, Ok, Err, cond, eqb-true}
use Rattle.std.specs.Prelude.{◌==◌, Result, is_some}
use Rattle.std.specs.Bool.{Decides}
use Rattle.std.specs.Result.{is_err}
use Rattle.std.proofs.lemmas.Bool.{false≢true}
use Rattle.std.proofs.lemmas.Option.{none-some, same_Some}
use Rattle.requester_core.specs.Joined.{IsCommanded, IsDone, StandsFor}
use Rattle.requester_core.specs.Slot.{shown_of}
use Rattle.requester_core.specs.declared.joined.RequesterCore.{RequesterCore}
use Rattle.negotiate.specs.declared.shared.Common.{Common}
use Rattle.requester_machine.proofs.Entries.{asked, test_is_false}
use Rattle.requester_machine.specs.Asking.{Outcome, asks, asks_by, done}
use Rattle.requester_machine.specs.Asking.Outcome.{Adds, Fails}
use Rattle.requester_machine.specs.Commands.{Free, command_fault, exchange_for, live_count}
use Rattle.requester_machine.specs.History.{History, begins_large, connection_terms, next_handle}
use Rattle.requester_machine.specs.History.Entry.{Told}
use Rattle.requester_machine.specs.May.{IsAllowed}
use Rattle.requester_machine.specs.Message.{Command, Sent, body_of}
use Rattle.requester_machine.specs.Message.Command.{Beat, Connect, End, Measure, Open, Retry, Send, Update}
use Rattle.requester_machine.specs.Sending.{piece_sent, plain_sent}
use Rattle.requester_machine.specs.Session.{Steps, is_live, session_of}
use Rattle.requester_machine.specs.Setup.{ReqSetup}
use Rattle.requester_machine.specs.Shown.{after, fault_of, sent_by}
use Rattle.spdm_grammar.specs.Message.{RequestMessage}
use Rattle.spdm_grammar.specs.Message.RequestMessage.{GetMeasurements}
use Rattle.spdm_grammar.specs.Requests.{canonical_request}
use Rattle.spdm_grammar.specs.declared.told.command_fault.CommandFault.{CommandFault}
use Rattle.spdm_machine.specs.Bodies.{clear_body}
use Rattle.check_requester.specs.JudgedRequester.{is_first_chunk}
use Rattle.check_requester.specs.Commanded.{IsToldAs, is_in_clear}
use Rattle.capture_machine.proofs.AskTells.{same_sent}
use Rattle.capture_machine.specs.Rounds.{no_draw}
use Rattle.capture_machine.proofs.AskersBegin.{not_four}

-- ---- What it adds.

adds_by : (q : ReqSetup) (h : History) (c : Command) (f : Free) (o : Option CommandFault) → is_in_clear c ≡ true → fault_of (asks_by q h c f no_draw o) ≡ None → (s : Sent) × (asks_by q h c f no_draw o ≡ Adds (Told c s no_draw))
adds_by q h c f (Some why) clear none = absurd (none-some why (sym none))
adds_by q h Connect f None clear none = (_, refl)
adds_by q h (Open summary) f None clear none = (_, refl)
adds_by q h (Measure None op) f None clear none = (_, refl)
adds_by q h (Measure (Some id) op) f None clear none = absurd (false≢true clear)
adds_by q h (Send id bytes) f None clear none = absurd (false≢true clear)
adds_by q h (Beat id) f None clear none = absurd (false≢true clear)
adds_by q h (Update id all) f None clear none = absurd (false≢true clear)
adds_by q h (End id) f None clear none = absurd (false≢true clear)
adds_by q h Retry f None clear none = absurd (false≢true clear)

pub adds : (q : ReqSetup) (h : History) (c : Command) (f : Free) → is_in_clear c ≡ true → fault_of (asks false q h c f no_draw) ≡ None → (s : Sent) × (asks false q h c f no_draw ≡ Adds (Told c s no_draw))
unfolding asks
adds q h c f clear none = adds_by q h c f (command_fault false q h c f) clear none

-- The body shows whether it begins a large request.
large_shows : (b : Bool) (h : History) (common : Common) (a : RequestMessage) (s : Sent) → is_first_chunk (clear_body (canonical_request a)) ≡ false → cond b (piece_sent common h a (next_handle h) 0) (plain_sent h a) ≡ s → is_first_chunk (body_of s.content) ≡ begins_large s.aim
large_shows true h common a s none is = subst (λ (x : Sent). is_first_chunk (body_of x.content) ≡ begins_large x.aim) is refl
large_shows false h common a s none is = subst (λ (x : Sent). is_first_chunk (body_of x.content) ≡ begins_large x.aim) is none

pub shows_by : (q : ReqSetup) (h : History) (c : Command) (f : Free) (s : Sent) → is_in_clear c ≡ true → done q h c f no_draw ≡ Adds (Told c s no_draw) → is_first_chunk (body_of s.content) ≡ begins_large s.aim
shows_by q h Connect f s clear is = subst (λ (x : Sent). is_first_chunk (body_of x.content) ≡ begins_large x.aim) (same_sent Connect _ s no_draw is) refl
shows_by q h (Open summary) f s clear is = large_shows _ h (connection_terms h).common (exchange_for q f summary) s refl (same_sent (Open summary) _ s no_draw is)
shows_by q h (Measure None op) f s clear is = large_shows _ h (connection_terms h).common (GetMeasurements op) s refl (same_sent (Measure None op) _ s no_draw is)
shows_by q h (Measure (Some id) op) f s clear is = absurd (false≢true clear)
shows_by q h (Send id bytes) f s clear is = absurd (false≢true clear)
shows_by q h (Beat id) f s clear is = absurd (false≢true clear)
shows_by q h (Update id all) f s clear is = absurd (false≢true clear)
shows_by q h (End id) f s clear is = absurd (false≢true clear)
shows_by q h Retry f s clear is = absurd (false≢true clear)

-- ---- Whether it sends a body.

-- By what came of it and by the body that it sends.
pub record ToldBy (q : ReqSetup) (h : History) (c : Command) (f : Free) (body : List ℕ) (r : Result ℕ CommandFault) (out : List ℕ) (new : RequesterCore) : Type 0 where
  pub fails : is_err r ≡ true → IsToldAs q h c f body false new
  pub first : is_err r ≡ false → is_first_chunk out ≡ true → IsToldAs q h c f body false new
  pub whole : is_err r ≡ false → is_first_chunk out ≡ false → (b : Bool) → Decides b (out ≡ body) → IsToldAs q h c f body b new

module _ (q : ReqSetup) (h : History) (c : Command) (f : Free) (body : List ℕ) (clear : is_in_clear c ≡ true) (tag : ℕ) (out : List ℕ) (new : RequesterCore) (did : IsDone q h (asks false q h c f no_draw) tag out new) where
  one : (s : Sent) × (asks false q h c f no_draw ≡ Adds (Told c s no_draw))
  one = adds q h c f clear did.fault

  out_is : out ≡ body_of one.0.content
  out_is = did.body_is ∙ ap (λ (x : Sent). body_of x.content) (sym (same_Some one.0 did.sent (ap sent_by (sym one.1) ∙ did.sends)))

  first_is : is_first_chunk out ≡ begins_large one.0.aim
  first_is = ap is_first_chunk out_is ∙ shows_by q h c f one.0 clear (asked false q h c f no_draw (Told c one.0 no_draw) one.1).1

  it_is : (s : Sent) → asks false q h c f no_draw ≡ Adds (Told c s no_draw) → one.0 ≡ s
  it_is s is = same_sent c one.0 s no_draw (sym one.1 ∙ is)

  first_told : is_first_chunk out ≡ true → IsToldAs q h c f body false new
  first_told first = λ s is small same. false≢true (sym small ∙ ap (λ (x : Sent). begins_large x.aim) (sym (it_is s is)) ∙ sym first_is ∙ first)

  whole_told : is_first_chunk out ≡ false → (b : Bool) → Decides b (out ≡ body) → IsToldAs q h c f body b new
  whole_told small true same = (one.0, one.1, sym first_is ∙ small, sym out_is ∙ same.0 refl, subst (λ (o : Outcome). StandsFor new q (after h o)) one.1 did.stands)
  whole_told small false same = λ s is few its. false≢true (same.1 (out_is ∙ ap (λ (x : Sent). body_of x.content) (it_is s is) ∙ its))

fails_told : (q : ReqSetup) (h : History) (c : Command) (f : Free) (body : List ℕ) (why : CommandFault) (new : RequesterCore) → asks false q h c f no_draw ≡ Fails why → IsToldAs q h c f body false new
fails_told q h c f body why new fails = λ s is small same. let e : Fails why ≡ Adds (Told c s no_draw) = sym fails ∙ is in cc

pub told_by : (q : ReqSetup) (h : History) (c : Command) (f : Free) (body : List ℕ) (r : Result ℕ CommandFault) (out : List ℕ) (new : RequesterCore) → is_in_clear c ≡ true → IsCommanded q h (asks false q h c f no_draw) r out new → ToldBy q h c f body r out new
told_by q h c f body (Ok tag) out new clear did = record {
  fails = λ is. absurd (false≢true is);
  first = λ not first. first_told q h c f body clear tag out new did first;
  whole = λ not small b same. whole_told q h c f body clear tag out new did small b same;
}
told_by q h c f body (Err why) out new clear did = record {
  fails = λ is. fails_told q h c f body why new did.0;
  first = λ not first. absurd (false≢true (sym not));
  whole = λ not small b same. absurd (false≢true (sym not));
}

-- ---- Whether a session may have this id.

shown_live : (s : Steps) → is_some (shown_of s) ≡ true → is_live s ≡ true
shown_live [] is = absurd (false≢true is)
shown_live (step ∷ s) is = refl

-- Beside a session with it four are live.
pub taken_id : (q : ReqSetup) (h : History) (f : Free) → is_some (shown_of (session_of f.id h)) ≡ true → IsAllowed q h f → live_count h ≡ 4
taken_id q h f shown allowed = by_count (live_count h == 4) refl
  where
    by_count : (b : Bool) → (live_count h == 4) ≡ b → live_count h ≡ 4
    by_count true is = eqb-true (live_count h) 4 is
    by_count false is = absurd (false≢true (sym (allowed.unused (not_four (live_count h) is)) ∙ shown_live (session_of f.id h) shown))

-- And then Open sends nothing.
pub full_told : (q : ReqSetup) (h : History) (f : Free) (summary : ℕ) (body : List ℕ) (new : RequesterCore) → live_count h ≡ 4 → IsToldAs q h (Open summary) f body false new
full_told q h f summary body new full = λ s is small same.
    not_four (live_count h) (test_is_false false q h (Open summary) f (asked false q h (Open summary) f no_draw (Told (Open summary) s no_draw) is).0 4) full
