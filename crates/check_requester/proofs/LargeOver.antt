-- GET_VERSION over a large request that is sent in chunks.
use Rattle.std.proofs.Common.{◌≡◌, ◌+◌, ℕ, suc, List, [], ◌∷◌, refl, sym, subst, true, false, Option, Some, None, inl, inr, add-one}
use Rattle.std.proofs.lemmas.Bool.{false≢true}
use Rattle.requester_core.specs.Joined.{IsDone, StandsFor}
use Rattle.requester_core.specs.LargeRequests.{IsBrokenOff, IsSentOn}
use Rattle.requester_core.specs.Owed.{TookAny}
use Rattle.requester_core.specs.declared.joined.RequesterCore.{RequesterCore}
use Rattle.requester_machine.specs.Answers.{goes_on}
use Rattle.requester_machine.specs.Asking.{Outcome, asks}
use Rattle.requester_machine.specs.Commands.{Free}
use Rattle.requester_machine.specs.History.{History, begins_large, outstanding}
use Rattle.requester_machine.specs.History.Effect.{Nothing}
use Rattle.requester_machine.specs.History.Entry.{Told, TookClear, TookRecord}
use Rattle.requester_machine.specs.Message as message
use Rattle.requester_machine.specs.Message.{Sent}
use Rattle.requester_machine.specs.Message.Command.{Connect}
use Rattle.requester_machine.specs.Owed.{with_next}
use Rattle.requester_machine.specs.Sending.{plain_sent}
use Rattle.requester_machine.specs.Setup.{ReqSetup}
use Rattle.requester_machine.specs.Shown.{after}
use Rattle.spdm_grammar.specs.Message.{RequestMessage}
use Rattle.spdm_grammar.specs.Message.RequestMessage.{GetVersion}
use Rattle.spdm_grammar.specs.Requests.{canonical_request}
use Rattle.spdm_machine.specs.Bodies.{clear_body}
use Rattle.spdm_machine.specs.Keys.{Draw}
use Rattle.check_laws.proofs.Connecting.{connects, some_values, version_told}
use Rattle.check_laws.specs.Keeping.{owing}
use Rattle.check_requester.specs.JudgedRequester.{IsAsker, IsKeptSetup}
use Rattle.check_requester.specs.LargeAsked.{IsConnectedOver}
use Rattle.check_requester.specs.declared.judged_requester.JudgedRequester.{JudgedRequester}
use Rattle.check_requester.specs.declared.judged_setup.JudgedSetup.{JudgedSetup}
use Rattle.check_laws.proofs.Large.Histories.{later}
use Rattle.check_laws.proofs.Large.SendingReasons.{none_before}
use Rattle.check_laws.specs.Large.Sending.{Ack, Beginning, MayBegin, MayStand, Sending, asked_of, begun_with, behind, handle_of, is_upon_clear, number_in, number_of, shown_by}
use Rattle.check_laws.specs.Large.Sending.Beginning.{ByCommand, ByItself}
use Rattle.check_laws.specs.Large.SendingLaws.{without_due}
use Rattle.capture_machine.specs.CapturedRequests.{Tells}
use Rattle.capture_machine.specs.LargeRequests.{first_piece, piece_with}
use Rattle.capture_machine.specs.Rounds.{no_draw}

-- ---- The chunks behind the first one begin no large request.

next_on : (first older : History) (n : ℕ) (a : RequestMessage) (whole : List ℕ) (handle : ℕ) (ack : Ack) → IsSentOn first n older → IsSentOn first (suc n) (TookClear ack.tag ack.message (goes_on Nothing (piece_with older a whole handle (n + 1))) no_draw ∷ older)
unfolding IsSentOn
next_on first older n a whole handle ack on = (older, ack.tag, ack.message, piece_with older a whole handle (n + 1), no_draw, on, later n, refl)

none_on : (first : History) → IsSentOn first 0 first
unfolding IsSentOn
none_on first = refl

pub sent_on : (a : RequestMessage) (whole : List ℕ) (handle : ℕ) (acks : List Ack) (h : History) → IsSentOn h (number_in acks) (behind a whole handle acks h)
sent_on a whole handle [] h = none_on h
sent_on a whole handle (ack ∷ acks) h =
    subst (λ (n : ℕ). IsSentOn h n (behind a whole handle (ack ∷ acks) h)) (sym (add-one (number_in acks)))
    (next_on h (behind a whole handle acks h) (number_in acks) a whole handle ack (sent_on a whole handle acks h))

broken_by : (s : Sending) (o : Option Ack) (b : Beginning) (whole : List ℕ) → IsBrokenOff (begun_with s.before b whole) (number_of s) (without_due (record s { due = o }) b whole)
broken_by s None b whole = inl (sent_on (asked_of b) whole (handle_of s) s.acks (begun_with s.before b whole))
broken_by s (Some ack) b whole =
    inr (
      TookClear ack.tag ack.message (goes_on Nothing (piece_with (shown_by s b whole) (asked_of b) whole (handle_of s) (number_of s + 1))) no_draw ∷ shown_by s b whole,
      next_on (begun_with s.before b whole) (shown_by s b whole) (number_of s) (asked_of b) whole (handle_of s) ack (sent_on (asked_of b) whole (handle_of s) s.acks (begun_with s.before b whole)),
      refl,
    )

pub broken_off : (s : Sending) (b : Beginning) (whole : List ℕ) → IsBrokenOff (begun_with s.before b whole) (number_of s) (without_due s b whole)
broken_off s b whole = broken_by s s.due b whole

pub upon_any : (h : History) → is_upon_clear h ≡ true → outstanding h ≡ None → TookAny h
upon_any [] is none = absurd (false≢true is)
upon_any (Told c x d ∷ h) is none = absurd (false≢true is)
upon_any (TookClear tag m led d ∷ h) is none = none
upon_any (TookRecord tag id sealed inner led d ∷ h) is none = absurd (false≢true is)

-- ---- GET_VERSION.

-- What the program's call tells of it.
pub record TellsOver (old new : RequesterCore) (number tag : ℕ) (out : List ℕ) : Type 0 where
  pub told : (q : ReqSetup) (h over : History) (command : message.Command) (first : Sent) (begun : Draw) (f : Free) (d : Draw) → outstanding h ≡ None → StandsFor old q h → begins_large first.aim ≡ true
      → IsBrokenOff (Told command first begun ∷ h) number over → IsDone q over (asks false q over Connect f d) tag out new
  pub owed : (q : ReqSetup) (bare over : History) (sent first : Sent) (f : Free) (d : Draw) → TookAny bare → StandsFor old q (with_next (Some sent) bare) → begins_large first.aim ≡ true
      → IsBrokenOff (with_next (Some first) bare) number over → IsDone q over (asks false q over Connect f d) tag out new

module _ (q : ReqSetup) (s : Sending) (b : Beginning) (whole : List ℕ) (may : MayBegin s.before b) (stand : MayStand s whole) (seen : JudgedRequester) (asker : IsAsker seen q s.before) (number : ℕ) (is : number ≡ number_of s) (new : RequesterCore) (tag : ℕ) (out : List ℕ)
    (tells : TellsOver seen.asking new number tag out) where
  abbrev over : History
  over = without_due s b whole

  abbrev f : Free
  f = some_values q over

  done_by : (c : Beginning) → MayBegin s.before c → IsBrokenOff (begun_with s.before c whole) number over → IsDone q over (asks false q over Connect f no_draw) tag out new
  done_by (ByCommand command a) m off =
      tells.told q s.before.requester over command (first_piece s.before.requester a whole) no_draw f no_draw (none_before s.before (ByCommand command a) m)
      (subst (λ (o : Option Sent). StandsFor seen.asking q (owing o s.before.requester)) m.0 asker.stands) refl off
  done_by (ByItself a) m off =
      tells.owed q s.before.requester over m.0 (first_piece s.before.requester a whole) f no_draw (upon_any s.before.requester m.2 m.3)
      (subst (λ (o : Option Sent). StandsFor seen.asking q (owing o s.before.requester)) m.1 asker.stands) refl off

  done : IsDone q over (asks false q over Connect f no_draw) tag out new
  done = done_by b may (subst (λ (n : ℕ). IsBrokenOff (begun_with s.before b whole) n over) (sym is) (broken_off s b whole))

  pub connected_over : (after_all : JudgedRequester) → after_all.setup ≡ seen.setup → after_all.asking ≡ new → after_all.owes ≡ false → IsConnectedOver q s after_all
  connected_over after_all same now rests =
      let next : History = Told Connect (plain_sent over GetVersion) no_draw ∷ over in
      let stands : StandsFor new q next = subst (λ (o : Outcome). StandsFor new q (after over o)) (connects q over f) done.stands in record {
        beginning = b;
        whole = whole;
        after = next;
        may = may;
        stands = stand;
        tells = subst (λ (x : ReqSetup). Tells x over Connect (clear_body (canonical_request GetVersion)) next) (sym asker.setup) (version_told q over asker.kept.limits);
        asker = record {
          kept = subst (λ (x : JudgedSetup). IsKeptSetup x q) (sym same) asker.kept;
          setup = asker.setup;
          stands = subst (λ (x : RequesterCore). StandsFor x q next) (sym now) stands;
          owes = rests;
        };
      }
