-- Whether Connect, or some command, sends a body.
use Rattle.std.proofs.Common.{◌≡◌, ◌≢◌, ◌≤◌, ◌<◌, ◌∙◌, ℕ, List, [], ◌∷◌, Bool, true, false, Ok, Err, refl, sym, ap, subst, length, drop, arith, eq-eqb, eqb-true}
use Rattle.std.specs.Prelude.{◌==◌, Result, is_err, slice_index}
use Rattle.std.specs.Bool.{Decides}
use Rattle.std.proofs.lemmas.Bool.{false≢true}
use Rattle.std.proofs.lemmas.Option.{same_Some}
use Rattle.requester_core.specs.Joined.{IsCommanded, IsDone, StandsFor}
use Rattle.requester_core.specs.declared.joined.RequesterCore.{RequesterCore}
use Rattle.requester_machine.specs.Asking.{Outcome, asks}
use Rattle.requester_machine.specs.Asking.Outcome.{Adds, Fails}
use Rattle.requester_machine.specs.Commands.{Free}
use Rattle.requester_machine.specs.History.{History}
use Rattle.requester_machine.specs.History.Entry.{Told}
use Rattle.requester_machine.specs.May.{IsSetUp}
use Rattle.requester_machine.specs.Message.{Content, Sent, body_of}
use Rattle.requester_machine.specs.Message.Command.{Connect}
use Rattle.requester_machine.specs.Message.Content.{Clear, Sealed}
use Rattle.requester_machine.specs.Sending.{plain_sent}
use Rattle.requester_machine.specs.Setup.{ReqSetup}
use Rattle.requester_machine.specs.Shown.{after, sent_by}
use Rattle.spdm_grammar.specs.Message.RequestMessage.{GetVersion}
use Rattle.spdm_grammar.specs.Requests.{canonical_request}
use Rattle.spdm_grammar.specs.declared.told.command_fault.CommandFault.{CommandFault}
use Rattle.spdm_machine.specs.Bodies.{clear_body}
use Rattle.check_laws.proofs.Connecting.{connects, version_told}
use Rattle.check_requester.specs.Commanded.{IsSentByCommand}
use Rattle.check_requester.specs.SealedTold.{IsSentBy}
use Rattle.capture_machine.proofs.AskersStep.{connect_body}
use Rattle.capture_machine.specs.CapturedRequests.{Tells}
use Rattle.capture_machine.specs.Rounds.{no_draw}

-- ---- Connect.

-- It was done, and its body is compared.
pub connected : (q : ReqSetup) (h : History) (f : Free) (tag : ℕ) (out body : List ℕ) (new : RequesterCore) (b : Bool) → IsSetUp q → IsDone q h (asks false q h Connect f no_draw) tag out new → Decides b (out ≡ body) → IsSentBy q h Connect body b new
connected q h f tag out body new b set_up did same = by_test b same
  where
    it : did.sent ≡ plain_sent h GetVersion
    it = same_Some did.sent (plain_sent h GetVersion) (sym did.sends ∙ ap sent_by (connects q h f))

    out_is : out ≡ clear_body (canonical_request GetVersion)
    out_is = did.body_is ∙ ap (λ (x : Sent). body_of x.content) it

    by_test : (c : Bool) → Decides c (out ≡ body) → IsSentBy q h Connect body c new
    by_test true is = (
      Told Connect (plain_sent h GetVersion) no_draw ∷ h,
      subst (λ (l : List ℕ). Tells q h Connect l (Told Connect (plain_sent h GetVersion) no_draw ∷ h)) (sym out_is ∙ is.0 refl) (version_told q h set_up),
      subst (λ (o : Outcome). StandsFor new q (after h o)) (connects q h f) did.stands,
    )
    by_test false is = λ next t. false≢true (is.1 (out_is ∙ sym (connect_body q h body next t)))

fails_not : (q : ReqSetup) (h : History) (f : Free) (why : CommandFault) → asks false q h Connect f no_draw ≡ Fails why → ⊥
fails_not q h f why fails = let e : Fails why ≡ Adds (Told Connect (plain_sent h GetVersion) no_draw) = sym fails ∙ connects q h f in cc

-- By its result.
pub connect_ok : (q : ReqSetup) (h : History) (f : Free) (r : Result ℕ CommandFault) (out body : List ℕ) (new : RequesterCore) (b : Bool) → IsSetUp q → IsCommanded q h (asks false q h Connect f no_draw) r out new → Decides b (out ≡ body) → IsSentBy q h Connect body b new
connect_ok q h f (Ok tag) out body new b set_up did same = connected q h f tag out body new b set_up did same
connect_ok q h f (Err why) out body new b set_up did same = absurd (fails_not q h f why did.0)

pub connect_err : {A : Type 0} (q : ReqSetup) (h : History) (f : Free) (r : Result ℕ CommandFault) (out : List ℕ) (new : RequesterCore) → is_err r ≡ true → IsCommanded q h (asks false q h Connect f no_draw) r out new → A
connect_err q h f (Ok tag) out new is did = absurd (false≢true is)
connect_err q h f (Err why) out new is did = absurd (fails_not q h f why did.0)

-- ---- A body of another type.

kind_of_body : (c : Content) → slice_index (body_of c) 0 ≢ 5 → slice_index (body_of c) 0 ≢ 6 → ⊥
kind_of_body (Clear message) clear secured = clear refl
kind_of_body (Sealed sealed inner pad) clear secured = secured refl

pub other_kind : (q : ReqSetup) (h : History) (body : List ℕ) (new : RequesterCore) → slice_index body 0 ≢ 5 → slice_index body 0 ≢ 6 → IsSentByCommand q h body false new
other_kind q h body new clear secured = λ c next t.
    kind_of_body t.0.content (λ is. clear (ap (λ (l : List ℕ). slice_index l 0) (sym t.3) ∙ is)) (λ is. secured (ap (λ (l : List ℕ). slice_index l 0) (sym t.3) ∙ is))

-- ---- Its first byte.

pub first_in : (body : List ℕ) (n : ℕ) → (slice_index body 0 == n) ≡ true → 0 < n → body ≡ n ∷ drop 1 body
first_in [] n is some = absurd (let e = eqb-true 0 n is in omega (arith, e, some))
first_in (x ∷ body) n is some = ap (λ (y : ℕ). y ∷ body) (eqb-true x n is)

pub first_other : (body : List ℕ) (n : ℕ) → (slice_index body 0 == n) ≡ false → slice_index body 0 ≢ n
first_other body n is same = false≢true (sym is ∙ eq-eqb (slice_index body 0) n same)

pub short_rest : (body : List ℕ) (n : ℕ) → body ≡ n ∷ drop 1 body → length body ≤ 4161 → length (drop 1 body) ≤ 4160
short_rest body n is fits = (let e = ap length is in omega (arith, e, fits))
