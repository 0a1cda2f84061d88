-- What a record leaves of what a made history holds.
use Rattle.std.proofs.Common.{refl, ◌≡◌, ℕ, ◌+◌, List, [], ◌∷◌, true, false, Bool, Some, None, ap, sym, subst, eq-eqb}
use Rattle.std.specs.Prelude.{◌==◌, if◌then◌else◌}
use Rattle.std.proofs.lemmas.Bool.{false≢true}
use Rattle.spdm_machine.specs.Keys.{Draw}
use Rattle.requester_machine.specs.Setup.{ReqSetup}
use Rattle.requester_machine.specs.Answers.{goes_on}
use Rattle.requester_machine.specs.Commands.{Free}
use Rattle.requester_machine.specs.Hearing.{came_to}
use Rattle.requester_machine.specs.History.{History, Effect, Led, outstanding}
use Rattle.requester_machine.specs.History.Effect.{Nothing, Grants}
use Rattle.requester_machine.specs.History.Entry.{TookRecord}
use Rattle.requester_machine.specs.InnerMessages.{with_record}
use Rattle.requester_machine.specs.Message.{Ask, Sent}
use Rattle.requester_machine.specs.Message.Aim.{InSession}
use Rattle.requester_machine.specs.Message.Ask.{AskUpdate, AskVerify, AskChunk}
use Rattle.requester_machine.specs.Records.{answer_inner, sealed_next}
use Rattle.requester_machine.specs.Sending.{record_sent}
use Rattle.requester_machine.specs.Session.{Steps, Step, session_of, is_live, when_live, ends}
use Rattle.requester_machine.specs.Session.Step.{Asked, Took}
use Rattle.requester_machine.specs.UnderWay.{IsOutstanding, IsSealed, AreBehind}
use Rattle.requester_machine.proofs.Collected.{none_yet, one_more}
use Rattle.requester_machine.proofs.Holds.{live_stays}
use Rattle.requester_machine.specs.Holds.{Holds, Waits}
use Rattle.requester_machine.proofs.Keeps.{Keeps, behind_record}
use Rattle.requester_machine.proofs.RecordLeads.{RecordLeads}
use Rattle.requester_machine.proofs.RecordLeads.RecordLeads.{ByEnd, ByAnswer, ByUpdate, ByFirst, ByChunk}
use Rattle.requester_machine.proofs.Few.{live_first}

took_live : (s : Steps) (step : Step) → is_live s ≡ true → is_live (when_live s step) ≡ true
took_live [] step live = live
took_live (x ∷ s) step live = refl

-- The session after a record that does not end it, and the one that is sent next.
next_steps : (s : Steps) (took step : Step) (ended b : Bool) → ended ≡ false → b ≡ true → is_live s ≡ true
    → (if b then (if b then when_live (if ended then [] else when_live s took) step else (if ended then [] else when_live s took)) else s) ≡ step ∷ when_live s took
next_steps s took step true b stays is live = absurd (false≢true (sym stays))
next_steps s took step false false stays is live = absurd (false≢true is)
next_steps s took step false true stays is live = live_first (when_live s took) step (took_live s took live)

module _ (q : ReqSetup) (h : History) (f : Free) (tag id : ℕ) (ask : Ask) (sealed : List ℕ) (d : Draw) where
  abbrev Later : Led → Type 0
  Later led = Holds q (TookRecord tag id sealed (answer_inner q.psk (session_of id h) ask sealed) led d ∷ h)

  keeps : (led : Led) (other : ℕ) → Keeps (session_of other h) (session_of other (TookRecord tag id sealed (answer_inner q.psk (session_of id h) ask sealed) led d ∷ h))
  unfolding session_of
  keeps led other = behind_record (id == other) other sealed (answer_inner q.psk (session_of id h) ask sealed) led.effect led.next (session_of other h)

  with_waits : (led : Led) → Holds q h → Waits q (TookRecord tag id sealed (answer_inner q.psk (session_of id h) ask sealed) led d ∷ h) led.next → Later led
  with_waits led k waits = record {
    live = λ other. live_stays h (TookRecord tag id sealed (answer_inner q.psk (session_of id h) ask sealed) led d ∷ h) other (keeps led other) refl refl (k.live other);
    known = k.known;
    waits = waits;
  }

  -- Nothing is sent.
  rests : (led : Led) → led.next ≡ None → Holds q h → Later led
  rests led none k = with_waits led k (subst (Waits q (TookRecord tag id sealed (answer_inner q.psk (session_of id h) ask sealed) led d ∷ h)) (sym none) tt)

  -- A further record is sent.
  goes : (effect : Effect) (next : Ask) (text : List ℕ) → ends effect ≡ false → is_live (session_of id h) ≡ true → AreBehind q next → Holds q h
      → Later (goes_on effect (record_sent q h id (with_record (came_to q h id ask sealed) effect) next text f.pad))
  unfolding session_of
  goes effect next text stays live behind k =
      with_waits (goes_on effect (record_sent q h id (with_record (came_to q h id ask sealed) effect) next text f.pad)) k (
        record {
          older = with_record (came_to q h id ask sealed) effect;
          inner = text;
          sealed = sealed_next q.psk (with_record (came_to q h id ask sealed) effect) text f.pad;
          pad = f.pad;
          live = took_live (session_of id h) (Took sealed (answer_inner q.psk (session_of id h) ask sealed) effect) live;
          steps = next_steps (session_of id h) (Took sealed (answer_inner q.psk (session_of id h) ask sealed) effect) (Asked next text (sealed_next q.psk (with_record (came_to q h id ask sealed) effect) text f.pad)) (ends effect) (id == id) stays (eq-eqb id id refl) live;
          content_is = refl;
          sealed_is = refl;
        },
        behind,
      )

  as_led : (x led : Led) → led ≡ x → Later x → Later led
  as_led x led is k = subst Later (sym is) k

  record_led_holds : (led : Led) → is_live (session_of id h) ≡ true → AreBehind q ask → RecordLeads q h f (came_to q h id ask sealed) ask led → Holds q h → Later led
  record_led_holds led live behind (ByEnd is none) k = rests led none k
  record_led_holds led live behind (ByAnswer stays other brings none) k = rests led none k
  record_led_holds led live behind (ByUpdate all asks is) k = as_led _ led is (goes (Grants (AskUpdate all) _) AskVerify _ refl live tt k)
  record_led_holds led live behind (ByFirst op handle follows is) k = as_led _ led is (goes Nothing (AskChunk op handle 0 []) _ refl live (none_yet q.max handle) k)
  record_led_holds led live behind (ByChunk op handle number before c asks none more is) k =
      as_led _ led is (goes Nothing (AskChunk op c.handle (c.number + 1) (c ∷ before)) _ refl live (one_more q.max handle number before c none more (subst (AreBehind q) asks behind)) k)

pub record_holds : (q : ReqSetup) (h : History) (f : Free) (tag id : ℕ) (ask : Ask) (sealed : List ℕ) (d : Draw) (led : Led) (sent : Sent)
    → outstanding h ≡ Some sent → sent.aim ≡ InSession id ask → RecordLeads q h f (came_to q h id ask sealed) ask led → Holds q h
    → Holds q (TookRecord tag id sealed (answer_inner q.psk (session_of id h) ask sealed) led d ∷ h)
record_holds q h f tag id ask sealed d led sent waits aims leads k =
    let o : IsOutstanding q h sent.content (InSession id ask) = subst (IsOutstanding q h sent.content) aims (subst (Waits q h) waits k.waits) in
    let s : IsSealed q h id ask sent.content = o.0 in
    record_led_holds q h f tag id ask sealed d led (ap is_live s.steps) o.1 leads k
