-- After DecryptError of which the requester is warned, only copies and GET_VERSION follow until the responder takes
-- another message in the clear.
use Rattle.std.proofs.Common.{◌≡◌, ◌≤◌, ◌<◌, ◌+◌, ◌-◌, ◌==◌, ◌⊎◌, ◌∙◌, ◌++◌, ℕ, List, [], ◌∷◌, refl, sym, ap, subst, drop, arith, Bool, true, false, Option, Some, None, Result, Ok, Err, inl, inr}
use Rattle.std.specs.Prelude.{MatchBool, not, slice_index}
use Rattle.std.proofs.lemmas.Bool.{false≢true}
use Rattle.std.proofs.lemmas.Option.{none-some, same_Some}
use Rattle.std.proofs.lemmas.Bool.Decides.{nat_tests}
use Rattle.capture_laws.proofs.Connecting.{IsBeginning, beginning_hears, beginning_sends, connects_begun}
use Rattle.capture_laws.proofs.Counted.{answers_count, count_drops, step_count}
use Rattle.capture_laws.proofs.First.{first_answers, session_fetches, stands_anew}
use Rattle.capture_laws.proofs.Shut.{IsShutAt, session_hears, shut_answers}
use Rattle.capture_laws.proofs.Versions.{IsAnew, anew_same, get_version, not_again, version_answered}
use Rattle.capture_laws.specs.Warned.{IsWarned, MayComeAgain, NoneBeginsAfterWarning, WalksOn, taken_count}
use Rattle.check_laws.specs.Order.{is_answer, is_request}
use Rattle.check_laws.specs.Walks.{StepsBy, StepsTo}
use Rattle.check_late_laws.proofs.Late.WalksAnew.{asks_keep}
use Rattle.check_late_laws.proofs.Late.WalksLed.{request_was_led}
use Rattle.check_late_laws.proofs.Late.WalksStand.{walk_sound}
use Rattle.mctp_framing.specs.Gathering.{Gathered}
use Rattle.mctp_framing.specs.Gathering.Gathered.{Whole, More, Dropped as Lost}
use Rattle.mctp_framing.specs.Packet.{PacketFields, parsed}
use Rattle.requester_machine.specs.History as requester_history
use Rattle.requester_machine.specs.History.{outstanding}
use Rattle.requester_machine.specs.Message.{Ask, Sent}
use Rattle.requester_machine.specs.Message.Aim.{InSession}
use Rattle.responder_machine.specs.History.{History}
use Rattle.responder_machine.specs.May.{with_dropped}
use Rattle.responder_machine.specs.Session.{id_in_record}
use Rattle.responder_machine.specs.Setup.{RspSetup, towards}
use Rattle.spdm_basis.specs.declared.PacketFault.{PacketFault}
use Rattle.spdm_machine.specs.Bodies.{clear_body}
use Rattle.spdm_machine.specs.Packets.{gathered_from}
use Rattle.capture_machine.proofs.DropsTell.{kept_same}
use Rattle.capture_machine.proofs.Fetching.{IsSound}
use Rattle.capture_machine.proofs.PlacesServed.{named_session}
use Rattle.capture_machine.proofs.SentFacts.{large_free}
use Rattle.capture_machine.specs.Capture.{AsksBy, Begins, Copies, RepliesBy, Replies}
use Rattle.capture_machine.specs.CapturedAnswers.{Answers}
use Rattle.capture_machine.specs.CapturedRequests.{IsOwed, Sends, is_later, without_owed}
use Rattle.capture_machine.specs.LargeAnswers.{judging, place_named, while_fetched}
use Rattle.capture_machine.specs.Rounds.{Dialogue, Round, new_round, no_draw}
use Rattle.world_machine.specs.Setup.{Configuration, known_of}

-- ---- What holds from then on.

-- The requester waits for the answer to the last round's record, which no session of the responder opens.
pub record IsShut (w : Configuration) (d : Dialogue) : Type 0 where
  pub round : Round
  pub last : d.round ≡ Some round
  pub sealed : (slice_index round.body 0 == 5) ≡ false
  pub sent : Sent
  pub waits : outstanding d.requester ≡ Some sent
  pub under : sent.tag ≡ round.tag
  pub id : ℕ
  pub ask : Ask
  pub asks : sent.aim ≡ InSession id ask
  pub fetches : while_fetched d.requester d.fetching ≡ d.fetching
  pub shut : IsShutAt (towards w.responder (known_of d.setup)) (judging d.fetching round.body d.responder) round.tag (drop 1 round.body)

-- The last round's request is GET_VERSION.
pub record IsConnecting (d : Dialogue) : Type 0 where
  pub round : Round
  pub last : d.round ≡ Some round
  pub body : round.body ≡ clear_body get_version
  pub begins : IsBeginning d.requester

-- One of these; and GET_VERSION would be no repeat.
pub record IsClosed (w : Configuration) (n : ℕ) (d : Dialogue) : Type 0 where
  pub least : n ≤ taken_count d.responder
  pub anew : IsAnew d.responder
  pub stands : IsShut w d ⊎ IsConnecting d

-- Or the responder took another message in the clear.
abbrev pub IsOn : Configuration → ℕ → Dialogue → Type 0
IsOn w n d = IsClosed w n d ⊎ (n < taken_count d.responder)

-- ---- A request.

module _ (w : Configuration) (n : ℕ) (d : Dialogue) where
  -- A copy.
  shut_copies : (tag : ℕ) (body : List ℕ) (next : Dialogue) → IsShut w d → Copies d tag body next → IsShut w next
  shut_copies tag body next s c =
      let same : s.round ≡ c.0 = same_Some s.round c.0 (sym s.last ∙ c.1) in
      subst (IsShut w) (sym c.4)
      (subst (λ (x : Round). IsShut w (record d { round = Some (record x { waiting = x.waiting + 1 }) })) same (record {
        round = record s.round { waiting = s.round.waiting + 1 };
        last = refl;
        sealed = s.sealed;
        sent = s.sent;
        waits = s.waits;
        under = s.under;
        id = s.id;
        ask = s.ask;
        asks = s.asks;
        fetches = s.fetches;
        shut = s.shut;
      }))

  connecting_copies : (tag : ℕ) (body : List ℕ) (next : Dialogue) → IsConnecting d → Copies d tag body next → IsConnecting next
  connecting_copies tag body next s c =
      let same : s.round ≡ c.0 = same_Some s.round c.0 (sym s.last ∙ c.1) in
      subst IsConnecting (sym c.4)
      (subst (λ (x : Round). IsConnecting (record d { round = Some (record x { waiting = x.waiting + 1 }) })) same (record {
        round = record s.round { waiting = s.round.waiting + 1 };
        last = refl;
        body = s.body;
        begins = s.begins;
      }))

  -- Nothing is owed.
  none_owed : IsShut w d → (sent : Sent) → IsOwed d sent → ⊥
  none_owed s sent owed =
      false≢true (sym (same_tag s.sent.tag s.round.tag s.under) ∙ ap (λ (o : Option Round). is_later o (Some s.sent)) (sym s.last) ∙ ap (is_later d.round) (sym s.waits) ∙ owed.1)
    where
      same_tag : (a b : ℕ) → a ≡ b → not (a == b) ≡ false
      same_tag a b is = grind (arith, nat_tests)

  -- GET_VERSION alone begins a round.
  shut_sends : (body : List ℕ) (next : requester_history.History) (sending : Option (List ℕ)) → IsShut w d → Sends d body next sending → (body ≡ clear_body get_version) × IsBeginning next
  unfolding Sends
  shut_sends body next sending s (inl (inl connect, none)) = connects_begun d.setup (without_owed d) body next connect
  shut_sends body next sending s (inl (inr command, none)) = absurd (none-some s.sent (sym command.1 ∙ s.waits))
  shut_sends body next sending s (inr (inl goes)) = absurd (none_owed s goes.0 goes.1)
  shut_sends body next sending s (inr (inr (whole, inl large, is))) =
      absurd (none-some s.sent (sym (large_free d.setup d.requester large.3.0 large.0 large.1 no_draw large.3.2 large.4) ∙ s.waits))
  shut_sends body next sending s (inr (inr (whole, inr owed, is))) = absurd (none_owed s owed.0 owed.2)

  either_sends : (body : List ℕ) (next : requester_history.History) (sending : Option (List ℕ)) → IsShut w d ⊎ IsConnecting d → Sends d body next sending → (body ≡ clear_body get_version) × IsBeginning next
  either_sends body next sending (inl s) sends = shut_sends body next sending s sends
  either_sends body next sending (inr s) sends = beginning_sends d body next sending s.begins sends

  stands_begins : (tag : ℕ) (body : List ℕ) (next : Dialogue) → IsShut w d ⊎ IsConnecting d → Begins d tag body next → IsConnecting next
  stands_begins tag body next s b =
      let begun = either_sends body b.2.0 b.2.1 s b.2.2 in
      subst IsConnecting (sym b.2.3) (record { round = new_round tag body; last = refl; body = begun.0; begins = begun.1 })

  stands_copies : (tag : ℕ) (body : List ℕ) (next : Dialogue) → IsShut w d ⊎ IsConnecting d → Copies d tag body next → IsShut w next ⊎ IsConnecting next
  stands_copies tag body next (inl s) c = inl (shut_copies tag body next s c)
  stands_copies tag body next (inr s) c = inr (connecting_copies tag body next s c)

  stands_asks : (g : Gathered) (next : Dialogue) → IsShut w d ⊎ IsConnecting d → AsksBy d g next → IsShut w next ⊎ IsConnecting next
  stands_asks (Whole route body) next s asks = elim asks.2 [ inl copies ↦ stands_copies route.tag body next s copies | inr begun ↦ inr (stands_begins route.tag body next s begun) ]
  stands_asks More next s asks = subst (λ (x : Dialogue). IsShut w x ⊎ IsConnecting x) (sym asks) s
  stands_asks (Lost cause) next s asks = absurd asks

  closed_asks : (g : Gathered) (next : Dialogue) → IsClosed w n d → AsksBy d g next → IsClosed w n next
  closed_asks g next closed asks =
      let same : next.responder ≡ d.responder = asks_keep d g next asks in
      record {
        least = subst (λ (h : History). n ≤ taken_count h) (sym same) closed.least;
        anew = subst IsAnew (sym same) closed.anew;
        stands = stands_asks g next closed.stands asks;
      }

-- ---- An answer.

-- What is between the two after an answer.
abbrev replied : Dialogue → Round → requester_history.History → History → Option (List ℕ) → Dialogue
replied d round g h fetching = record d {
  requester = g;
  responder = h;
  fetching = while_fetched g fetching;
  round = Some (record round { waiting = round.waiting - 1; answered = true });
}

module _ (w : Configuration) (n : ℕ) (d : Dialogue) (tag : ℕ) (answer : List ℕ) (next : Dialogue) (c : Replies w d tag answer next) where
  abbrev here : RspSetup
  here = towards w.responder (known_of d.setup)

  shut_next : (s : IsShut w d) → (s.round ≡ c.0) → IsShut w (replied d c.0 d.requester d.responder d.fetching)
  shut_next s same = subst (λ (x : Round). IsShut w (replied d x d.requester d.responder d.fetching)) same (record {
    round = record s.round { waiting = s.round.waiting - 1; answered = true };
    last = refl;
    sealed = s.sealed;
    sent = s.sent;
    waits = s.waits;
    under = s.under;
    id = s.id;
    ask = s.ask;
    asks = s.asks;
    fetches = ap (while_fetched d.requester) s.fetches;
    shut = subst (λ (o : Option (List ℕ)). IsShutAt here (judging o s.round.body d.responder) s.round.tag (drop 1 s.round.body)) (sym s.fetches) s.shut;
  })

  shut_replies : IsClosed w n d → IsShut w d → IsClosed w n next
  shut_replies closed s =
      let same : s.round ≡ c.0 = same_Some s.round c.0 (sym s.last ∙ c.1) in
      let answers : Answers here d s.round answer c.4.0 c.4.1 = subst (λ (x : Round). Answers here d x answer c.4.0 c.4.1) (sym same) c.4.2 in
      let still = shut_answers here d s.round s.sealed s.shut answer c.4.0 c.4.1 answers in
      let heard : c.4.3.0 ≡ d.requester = session_hears d tag answer c.4.3.0 (λ x waits. (s.id, s.ask, ap (λ (y : Sent). y.aim) (same_Some x s.sent (sym waits ∙ s.waits)) ∙ s.asks)) still.clear c.4.3.1 in
      let is : next ≡ replied d c.0 d.requester d.responder d.fetching =
      c.4.3.2 ∙ ap (λ (g : requester_history.History). replied d c.0 g c.4.0 c.4.1) heard ∙ ap (λ (h : History). replied d c.0 d.requester h c.4.1) still.same
      ∙ ap (replied d c.0 d.requester d.responder) still.fetches in
      subst (IsClosed w n) (sym is) (record { least = closed.least; anew = closed.anew; stands = inl (shut_next s same) })

  connecting_replies : IsClosed w n d → IsConnecting d → IsOn w n next
  connecting_replies closed s =
      let same : s.round ≡ c.0 = same_Some s.round c.0 (sym s.last ∙ c.1) in
      let is : c.0.body ≡ clear_body get_version = ap (λ (x : Round). x.body) (sym same) ∙ s.body in
      subst (IsOn w n) (sym c.4.3.2) (elim (version_answered here d c.0 is closed.anew answer c.4.0 c.4.1 c.4.2) [
        | inl more ↦ inr (omega (arith, more, closed.least))
        | inr refused ↦ inl (record {
          least = omega (arith, closed.least, answers_count here d c.0 answer c.4.0 c.4.1 c.4.2);
          anew = anew_same c.4.0 d.responder refused.0 closed.anew;
          stands = inr (record {
            round = record c.0 { waiting = c.0.waiting - 1; answered = true };
            last = refl;
            body = is;
            begins = beginning_hears here d tag answer c.4.3.0 refused.1 s.begins c.4.3.1;
          });
        })
      ])

  replies_on : IsClosed w n d → IsOn w n next
  replies_on closed = elim closed.stands [ inl s ↦ inl (shut_replies closed s) | inr s ↦ connecting_replies closed s ]

-- ---- A step.

replied_on : (w : Configuration) (n : ℕ) (d : Dialogue) (g : Gathered) (next : Dialogue) → IsClosed w n d → RepliesBy w d g next → IsOn w n next
replied_on w n d (Whole route body) next closed replies = replies_on w n d route.tag body next replies.2 closed
replied_on w n d More next closed replies = inl (subst (IsClosed w n) (sym replies) closed)
replied_on w n d (Lost cause) next closed replies = absurd replies

closed_step : (w : Configuration) (n eid : ℕ) (older : List (List ℕ)) (d next : Dialogue) (r : Result PacketFields PacketFault) → IsClosed w n d → StepsBy w eid older d next r → IsOn w n next
closed_step w n eid older d next (Err fault) closed step = inl (subst (IsClosed w n) (sym step) closed)
closed_step w n eid older d next (Ok p) closed step = by_ends (is_request w.responder.eid eid p) (is_answer w.responder.eid eid p) step
  where
    by_ends : (b c : Bool) → MatchBool b (AsksBy d (gathered_from w.responder.eid eid older p) next) (MatchBool c (RepliesBy w d (gathered_from eid w.responder.eid older p) next) (next ≡ d)) → IsOn w n next
    by_ends true c asks = inl (closed_asks w n d (gathered_from w.responder.eid eid older p) next closed asks)
    by_ends false true replies = replied_on w n d (gathered_from eid w.responder.eid older p) next closed replies
    by_ends false false same = inl (subst (IsClosed w n) (sym same) closed)

on_step : (w : Configuration) (n eid : ℕ) (older : List (List ℕ)) (d next : Dialogue) (r : Result PacketFields PacketFault) → IsOn w n d → StepsBy w eid older d next r → IsOn w n next
on_step w n eid older d next r (inl closed) step = closed_step w n eid older d next r closed step
on_step w n eid older d next r (inr more) step = inr (omega (arith, more, step_count w eid older d next r step))

walks_on : (w : Configuration) (n eid : ℕ) (older : List (List ℕ)) (d : Dialogue) (later : List (List ℕ)) (next : Dialogue) → IsOn w n d → WalksOn w eid older d later next → IsOn w n next
unfolding StepsTo
walks_on w n eid older d [] next on walk = subst (IsOn w n) (sym walk) on
walks_on w n eid older d (packet ∷ later) next on walk = on_step w n eid (later ++ older) walk.0 next (parsed packet) (walks_on w n eid older d later walk.0 on walk.1) walk.2

-- ---- From DecryptError on.

module _ (w : Configuration) (d : Dialogue) (tag : ℕ) (answer : List ℕ) (next : Dialogue) (sound : IsSound d) (anew : IsAnew d.responder) (x : IsWarned d tag answer) (c : Replies w d tag answer next) where
  abbrev there : RspSetup
  there = towards w.responder (known_of d.setup)

  same_round : x.round ≡ c.0
  same_round = same_Some x.round c.0 (sym x.last ∙ c.1)

  stays : while_fetched d.requester d.fetching ≡ d.fetching
  stays = session_fetches d x.sent x.id x.ask sound x.waits x.asks

  first_shut : (ids : List ℕ) → IsShutAt there (judging d.fetching x.round.body (with_dropped d.responder ids)) x.round.tag (drop 1 x.round.body)
      → IsShut w (replied d x.round d.requester (with_dropped d.responder ids) d.fetching)
  first_shut ids closed = record {
    round = record x.round { waiting = x.round.waiting - 1; answered = true };
    last = refl;
    sealed = x.sealed;
    sent = x.sent;
    waits = x.waits;
    under = x.under ∙ sym (ap (λ (y : Round). y.tag) same_round ∙ c.2);
    id = x.id;
    ask = x.ask;
    asks = x.asks;
    fetches = ap (while_fetched d.requester) stays;
    shut = subst (λ (o : Option (List ℕ)). IsShutAt there (judging o x.round.body (with_dropped d.responder ids)) x.round.tag (drop 1 x.round.body)) (sym stays) closed;
  }

  first_closed : IsClosed w (taken_count d.responder) next
  first_closed =
      let answers : Answers there d x.round answer c.4.0 c.4.1 = subst (λ (y : Round). Answers there d y answer c.4.0 c.4.1) (sym same_round) c.4.2 in
      let first = first_answers there d x.round x.sealed answer x.clear c.4.0 c.4.1 answers in
      let heard : c.4.3.0 ≡ d.requester = session_hears d tag answer c.4.3.0 (λ y waits. (x.id, x.ask, ap (λ (z : Sent). z.aim) (same_Some y x.sent (sym waits ∙ x.waits)) ∙ x.asks)) x.clear c.4.3.1 in
      let k : History = with_dropped d.responder first.dropped in
      let is : next ≡ replied d x.round d.requester k d.fetching =
      c.4.3.2 ∙ ap (λ (g : requester_history.History). replied d c.0 g c.4.0 c.4.1) heard ∙ ap (λ (h : History). replied d c.0 d.requester h c.4.1) first.is
      ∙ ap (replied d c.0 d.requester k) first.fetches ∙ ap (λ (y : Round). replied d y d.requester k d.fetching) (sym same_round) in
      subst (IsClosed w (taken_count d.responder)) (sym is) (record {
        least = omega (arith, count_drops first.dropped d.responder);
        anew = anew_same k d.responder (kept_same first.dropped d.responder) anew;
        stands = inl (first_shut first.dropped first.shut);
      })

-- ---- The law.

some_named : (o : Option ℕ) (id : ℕ) → o ≡ None → o ≡ Some id → ⊥
some_named o id is named = none-some id (sym is ∙ named)

ends : (w : Configuration) (n : ℕ) (d : Dialogue) → IsOn w n d → MayComeAgain w d → n < taken_count d.responder
ends w n d (inr more) again = more
ends w n d (inl closed) again = by_stands closed.stands
  where
    by_stands : IsShut w d ⊎ IsConnecting d → n < taken_count d.responder
    by_stands (inl s) =
        let same : s.round ≡ again.0 = same_Some s.round again.0 (sym s.last ∙ again.4) in
        absurd (some_named (place_named s.round.body) (id_in_record (drop 1 s.round.body)) (ap (λ (x : Round). place_named x.body) same ∙ again.5) (named_session s.round.body s.sealed))
    by_stands (inr s) =
        let same : s.round ≡ again.0 = same_Some s.round again.0 (sym s.last ∙ again.4) in
        let is : again.0.body ≡ clear_body get_version = ap (λ (x : Round). x.body) (sym same) ∙ s.body in
        absurd (not_again (towards w.responder (known_of d.setup)) d again.0 is closed.anew again.1 again.2 again.3 again.6)

pub none_begins : NoneBeginsAfterWarning
none_begins w q older later packet d warned after tag answer s walk free x replies on again =
    let anew = stands_anew (towards w.responder (known_of d.setup)) d.responder s free (request_was_led w q older d walk s free) in
    ends w (taken_count d.responder) after
    (walks_on w (taken_count d.responder) q.eid (packet ∷ older) warned later after (inl (first_closed w d tag answer warned (walk_sound w q older d walk) anew x replies)) on) again
