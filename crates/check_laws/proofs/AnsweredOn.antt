-- An answer that goes on from one of two alike dialogues goes on from the other.
use Rattle.std.proofs.Common.{◌≡◌, ◌+◌, ◌-◌, ◌||◌, ℕ, List, ◌∷◌, refl, sym, ap, ◌∙◌, subst, drop, Bool, true, false, Option, Some, None, is_some}
use Rattle.std.specs.Prelude.{not}
use Rattle.mctp_framing.specs.Gathering.{Gathered}
use Rattle.mctp_framing.specs.Gathering.Gathered.{Whole, More, Dropped}
use Rattle.requester_machine.specs.Commands.{Free}
use Rattle.requester_machine.specs.Hearing.{hears}
use Rattle.requester_machine.specs.History.{History}
use Rattle.requester_machine.specs.May.{IsAllowed}
use Rattle.requester_machine.specs.Setup.{ReqSetup}
use Rattle.requester_machine.specs.Shown.{after}
use Rattle.responder_machine.specs.History as responder_history
use Rattle.responder_machine.specs.Setup.{RspSetup, towards}
use Rattle.capture_machine.specs.Capture.{Replies, RepliesBy}
use Rattle.capture_machine.specs.CapturedAnswers.{Answers, Hears}
use Rattle.capture_machine.specs.LargeAnswers.{while_fetched}
use Rattle.capture_machine.specs.LargeRequests.{with_ack}
use Rattle.capture_machine.specs.Rounds.{Dialogue, Round, no_draw}
use Rattle.world_machine.specs.Setup.{Configuration, known_of}
use Rattle.capture_machine.proofs.Alike.{Alike}
use Rattle.capture_machine.proofs.AskersAlike.{AskersAlike, acked}
use Rattle.capture_machine.proofs.AskersAlike.AskersAlike.{Settled, Owing, Shown, Due}
use Rattle.capture_machine.proofs.AskersBegin.{dial}
use Rattle.capture_machine.proofs.RepliesAlike.{gets, gets_alike, none_fetched}
use Rattle.check_laws.proofs.Allowed.{Equals, agree_equals, allowed_same, entry_equals}

-- ---- The requester's side.

-- The same values lead to something.
pub heard_by : (q : ReqSetup) (h g : History) (x : responder_history.History) (round : Option Round) (fe : Option (List ℕ)) (tag : ℕ) (body : List ℕ) (f : Free) → Equals h g → IsAllowed q h f
    → (other : History) × Hears (dial q g x round None fe) tag body other
unfolding Hears
heard_by q h g x round fe tag body f same allowed =
    (after g (hears q g false tag body f no_draw), (hears q g false tag body f no_draw, (f, allowed_same q h g f same allowed, refl), refl))

pub hears_on : (q : ReqSetup) (h g : History) (r x : responder_history.History) (round : Option Round) (sd se fd fe : Option (List ℕ)) (tag : ℕ) (body : List ℕ) (next : History) → AskersAlike round h g sd se
    → Hears (dial q h r round sd fd) tag body next → (other : History) × Hears (dial q g x round se fe) tag body other
unfolding Hears
hears_on q _ _ r x round _ _ fd fe tag body next (Settled h g agree not at) one = heard_by q h g x round fe tag body one.1.0 (agree_equals h g agree) one.1.1
hears_on q _ _ r x round _ _ fd fe tag body next (Owing e f h g s t agree alike out sent like tagged else later at) one =
    heard_by q (e ∷ h) (f ∷ g) x round fe tag body one.1.0 (entry_equals e f h g alike agree) one.1.1
hears_on q _ _ r x round _ _ fd fe tag body next (Shown h g w v a b handle number s t u waits wait aims aim tags not at) one = (with_ack v tag (drop 1 body) g, refl)
hears_on q _ _ r x round _ _ fd fe tag body next (Due old m h g w v a b handle number u later at) one = (with_ack v tag (drop 1 body) (acked old m b v handle (number + 1) g), refl)

-- ---- The responder's side.

pub answers_on : (r : RspSetup) (d e : Dialogue) (round : Round) (answer : List ℕ) (next : responder_history.History) (fetching : Option (List ℕ)) → d.responder ≡ e.responder → d.fetching ≡ e.fetching
    → Answers r d round answer next fetching → Answers r e round answer next fetching
unfolding Answers
answers_on r d e round answer next fetching same fetch one =
    let H : responder_history.History → Type 0 = λ h. Answers r (dial d.setup d.requester h d.round d.sending d.fetching) round answer next fetching in
    let F : Option (List ℕ) → Type 0 = λ o. Answers r (dial e.setup e.requester e.responder e.round e.sending o) round answer next fetching in
    subst F fetch (subst H same one)

-- ---- Both sides.

replied_from : (w : Configuration) (d e : Dialogue) (tag : ℕ) (answer : List ℕ) (next : Dialogue) → Alike d e → d.fetching ≡ None → Replies w d tag answer next → (other : Dialogue) × Replies w e tag answer other
replied_from w d e tag answer next a none one =
    let fetch : d.fetching ≡ e.fetching = none ∙ sym (none_fetched d.fetching e.fetching a.fetches none) in
    let R : ReqSetup → Type 0 = λ q. Answers (towards w.responder (known_of q)) e one.0 answer one.4.0 one.4.1 in
    let answers = subst R a.setup (answers_on (towards w.responder (known_of d.setup)) d e one.0 answer one.4.0 one.4.1 a.responder fetch one.4.2) in
    let heard = hears_on d.setup d.requester e.requester d.responder e.responder d.round d.sending e.sending d.fetching e.fetching tag answer one.4.3.0 a.askers one.4.3.1 in
    let S : ReqSetup → Type 0 = λ q. Hears (dial q e.requester e.responder d.round e.sending e.fetching) tag answer heard.0 in
    let O : Option Round → Type 0 = λ o. Hears (dial e.setup e.requester e.responder o e.sending e.fetching) tag answer heard.0 in
    let its : Hears e tag answer heard.0 = subst O a.round (subst S a.setup heard.1) in
    let known : (not (gets heard.0) || is_some one.4.1) ≡ true = ap (λ (b : Bool). not b || is_some one.4.1) (sym (gets_alike d e one.0 tag answer one.4.3.0 heard.0 a one.1 one.2 one.4.3.1 its)) ∙ one.4.3.3 in (
      record e {
        requester = heard.0;
        responder = one.4.0;
        fetching = while_fetched heard.0 one.4.1;
        round = Some (record one.0 { waiting = one.0.waiting - 1; answered = true });
      },
      (one.0, sym a.round ∙ one.1, one.2, one.3, (one.4.0, one.4.1, answers, (heard.0, its, refl, known))),
    )

pub replies_from : (w : Configuration) (d e : Dialogue) (g : Gathered) (next : Dialogue) → Alike d e → d.fetching ≡ None → RepliesBy w d g next → (other : Dialogue) × RepliesBy w e g other
replies_from w d e (Whole route body) next a none one =
    let two = replied_from w d e route.tag body next a none one.2 in (two.0, (one.0, one.1, two.1))
replies_from w d e More next a none one = (e, refl)
replies_from w d e (Dropped cause) next a none one = absurd one
