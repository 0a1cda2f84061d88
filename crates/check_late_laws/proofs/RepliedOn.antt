-- An answer that goes on from one walk goes on from another one in which the same bytes stand.
use Rattle.std.proofs.Common.{◌≡◌, ◌+◌, ◌||◌, ◌⊎◌, ℕ, List, ◌∷◌, refl, sym, ap, ◌∙◌, subst, drop, Bool, true, false, Option, Some, None, cond, inl, inr, is_some}
use Rattle.std.specs.Prelude.{not}
use Rattle.mctp_framing.specs.Cutting.{RouteFields}
use Rattle.mctp_framing.specs.Gathering.{Gathered}
use Rattle.mctp_framing.specs.Gathering.Gathered.{Whole, More, Dropped}
use Rattle.requester_machine.specs.Commands.{Free}
use Rattle.requester_machine.specs.Hearing.{hears}
use Rattle.requester_machine.specs.History.{History, outstanding}
use Rattle.requester_machine.specs.May.{IsAllowed}
use Rattle.requester_machine.specs.Setup.{ReqSetup}
use Rattle.requester_machine.specs.Shown.{after}
use Rattle.responder_machine.specs.History as responder_history
use Rattle.responder_machine.specs.Setup.{towards}
use Rattle.check_laws.proofs.Allowed.{Equals, agree_equals, allowed_same, entry_equals}
use Rattle.check_laws.proofs.AnsweredOn.{answers_on}
use Rattle.check_laws.specs.RepliesShown.{answered}
use Rattle.capture_machine.proofs.Alike.{Alike}
use Rattle.capture_machine.proofs.AskersAlike.{AskersAlike, acked}
use Rattle.capture_machine.proofs.AskersAlike.AskersAlike.{Settled, Owing, Shown, Due}
use Rattle.capture_machine.proofs.AskersBegin.{dial}
use Rattle.capture_machine.proofs.RepliesAlike.{gets, gets_alike}
use Rattle.capture_machine.specs.Capture.{IsBody, Replies, RepliesBy}
use Rattle.capture_machine.specs.CapturedAnswers.{Answers, Hears}
use Rattle.capture_machine.specs.LargeAnswers.{is_fetching, while_fetched}
use Rattle.capture_machine.specs.LargeRequests.{with_ack}
use Rattle.capture_machine.specs.Rounds.{Dialogue, Round, no_draw}
use Rattle.world_machine.specs.Setup.{Configuration, known_of}
use Rattle.check_late_laws.specs.Fetching.{Fetching, MayStand, dialogue_of}
use Rattle.check_late_laws.specs.FetchingLaws.{EndsFetching, FetchingIsReplied, GoesFetching, TurnsFetching, kept_behind}
use Rattle.check_late_laws.proofs.Asked.{fetched_walk}
use Rattle.check_late_laws.proofs.Begun.{from_largely}
use Rattle.check_late_laws.proofs.Begun.Largely.{First}
use Rattle.check_late_laws.proofs.Packets.{came_replied}
use Rattle.check_laws.proofs.OneWalk.{walks_alike}
use Rattle.check_laws.specs.Keeping.{Kept, kept_of}
use Rattle.std.proofs.lemmas.Option.{none-some}
use Rattle.capture_machine.specs.LargeAnswers.{place_named}
use Rattle.check_laws.proofs.AnsweredOn.{hears_on}

-- ---- Both sides.

replied_from : (w : Configuration) (d e : Dialogue) (tag : ℕ) (answer : List ℕ) (next : Dialogue) → Alike d e → d.fetching ≡ e.fetching → Replies w d tag answer next → (other : Dialogue) × Replies w e tag answer other
replied_from w d e tag answer next a fetch one =
    let R : ReqSetup → Type 0 = λ q. Answers (towards w.responder (known_of q)) e one.0 answer one.4.0 one.4.1 in
    let answers = subst R a.setup (answers_on (towards w.responder (known_of d.setup)) d e one.0 answer one.4.0 one.4.1 a.responder fetch one.4.2) in
    let heard = hears_on d.setup d.requester e.requester d.responder e.responder d.round d.sending e.sending d.fetching e.fetching tag answer one.4.3.0 a.askers one.4.3.1 in
    let S : ReqSetup → Type 0 = λ q. Hears (dial q e.requester e.responder d.round e.sending e.fetching) tag answer heard.0 in
    let O : Option Round → Type 0 = λ o. Hears (dial e.setup e.requester e.responder o e.sending e.fetching) tag answer heard.0 in
    let its : Hears e tag answer heard.0 = subst O a.round (subst S a.setup heard.1) in
    let known : (not (gets heard.0) || is_some one.4.1) ≡ true = ap (λ (b : Bool). not b || is_some one.4.1) (sym (gets_alike d e one.0 tag answer one.4.3.0 heard.0 a one.1 one.2 one.4.3.1 its)) ∙ one.4.3.3 in (
      record e {
        requester = heard.0;
        responder = one.4.0;
        fetching = while_fetched heard.0 one.4.1;
        round = Some (answered one.0);
      },
      (one.0, sym a.round ∙ one.1, one.2, one.3, (one.4.0, one.4.1, answers, (heard.0, its, refl, known))),
    )

pub replies_on : (w : Configuration) (d e : Dialogue) (g : Gathered) (next : Dialogue) → Alike d e → d.fetching ≡ e.fetching → RepliesBy w d g next → (other : Dialogue) × RepliesBy w e g other
replies_on w d e (Whole route body) next a fetch one =
    let two = replied_from w d e route.tag body next a fetch one.2 in (two.0, (one.0, one.1, two.1))
replies_on w d e More next a fetch one = (e, refl)
replies_on w d e (Dropped cause) next a fetch one = absurd one

-- ---- Each answer.

abbrev no_bytes : Option (List ℕ)
no_bytes = None

none_by : (b : Bool) → cond b no_bytes no_bytes ≡ no_bytes
none_by true = refl
none_by false = refl

abbrev Either : Configuration → Fetching → Gathered → Type 0
Either w f g = ((next : Fetching) × GoesFetching w f g next) ⊎ (((next : Fetching) × TurnsFetching w f g next) ⊎ ((next : Kept) × EndsFetching w f g next))

over_now : (w : Configuration) (f : Fetching) (v : List ℕ) (g : Gathered) (n : Dialogue) → MayStand f v → RepliesBy w (dialogue_of f v) g n → n.fetching ≡ None → Either w f g
over_now w f v g n stand replies none = inr (inr (kept_of n, (v, n, stand, replies, none, refl)))

on_answers : (w : Configuration) (f : Fetching) (v : List ℕ) (route : RouteFields) (answer : List ℕ) (n : Dialogue) → MayStand f v → IsBody answer → route.owner ≡ false → (c : Replies w (dialogue_of f v) route.tag answer n) → is_fetching (outstanding c.4.3.0) ≡ true
    → Answers (towards w.responder (known_of f.kept.setup)) (dialogue_of f v) c.0 answer c.4.0 c.4.1 → Either w f (Whole route answer)
unfolding Answers
on_answers w f v route answer n stand body_is owner c gets (inl (plain, same)) =
    inl (record f { kept = kept_behind f.kept c.0 c.4.3.0 c.4.0 }, (body_is, owner, (c.0, (c.1, c.2, c.3), (v, c.4.0, stand, plain, (c.4.3.0, c.4.3.1, gets, refl)))))
on_answers w f v route answer n stand body_is owner c gets (inr (inl (x, large, same))) =
    let from = from_largely (towards w.responder (known_of f.kept.setup)) (dialogue_of f v) c.0 answer c.4.0 x (First large) in (
    inr (inl (
      record { kept = kept_behind f.kept c.0 c.4.3.0 c.4.0; at = place_named c.0.body; place = from.0 },
      (body_is, owner, (c.0, (c.1, c.2, c.3), (v, c.4.0, from.0, stand, from.1, (c.4.3.0, c.4.3.1, gets, refl)))),
    ))
    )
on_answers w f v route answer n stand body_is owner c gets (inr (inr (inl (x, again, same)))) = absurd (none-some v (sym again.0))
on_answers w f v route answer n stand body_is owner c gets (inr (inr (inr (last, none)))) =
    over_now w f v (Whole route answer) n stand (body_is, owner, c) (ap (λ (x : Dialogue). x.fetching) c.4.3.2 ∙ ap (while_fetched c.4.3.0) none ∙ none_by (is_fetching (outstanding c.4.3.0)))

fetched_on : (w : Configuration) (f : Fetching) (v : List ℕ) (g : Gathered) (n : Dialogue) → MayStand f v → RepliesBy w (dialogue_of f v) g n → Either w f g
fetched_on w f v (Whole route answer) n stand (body_is, owner, c) = by_gets (is_fetching (outstanding c.4.3.0)) refl
  where
    by_gets : (b : Bool) → is_fetching (outstanding c.4.3.0) ≡ b → Either w f (Whole route answer)
    by_gets false none = over_now w f v (Whole route answer) n stand (body_is, owner, c) (ap (λ (x : Dialogue). x.fetching) c.4.3.2 ∙ ap (λ (b : Bool). cond b c.4.1 None) none)
    by_gets true gets = on_answers w f v route answer n stand body_is owner c gets c.4.2
fetched_on w f v More n stand same = inl (f, refl)
fetched_on w f v (Dropped cause) n stand c = absurd c

pub fetching_is_replied : FetchingIsReplied
fetching_is_replied w q older packet p f d parses not is own over =
    let from = came_replied w q older packet p parses is d over in
    let x = fetched_walk w q older f from.0 own from.1 in
    let e : Dialogue = dialogue_of f x.whole in
    let back = (walks_alike w q older from.0 e from.1 x.own).alike in
    let more = replies_on w from.0 e _ d back x.fetches from.2 in
    fetched_on w f x.whole _ more.0 x.stands more.1
