-- An answer with which a large one is fetched on in the clear: what the calls leave.
use Rattle.std.proofs.Common.{◌≡◌, ◌<◌, ◌-◌, ◌^◌, ℕ, List, Some, sym, length, arith}
use Rattle.check_requester.proofs.FewMessages.{kept_messages}
use Rattle.check_requester.specs.JudgedRequester.{Carries}
use Rattle.check_ends.specs.declared.party.Party.{Party}
use Rattle.check_laws.specs.Changes.{views_in}
use Rattle.check_laws.specs.RepliesShown.{responder_for}
use Rattle.check_fetched_ends.proofs.HasGets.{views_held}
use Rattle.check_fetched_ends.proofs.HeldWhy.{few_left}
use Rattle.check_fetched_ends.specs.Held.{IsHeldIn}
use Rattle.check_fetched_ends.specs.declared.clear_fetch.held.Held.{Held}
use Rattle.check_late_laws.specs.Fetching.{Fetching, IsFetchingOf}
use Rattle.requester_machine.specs.Setup.{ReqSetup}
use Rattle.responder_machine.specs.BoundLaws.{messages_of}
use Rattle.capture_machine.specs.SessionTable.{Row}
use Rattle.world_machine.specs.Setup.{Configuration}

module _ (w : Configuration) (q : ReqSetup) (older : List (List ℕ)) (rows : List Row) (f : Fetching) (own : IsFetchingOf w q older f) (party : Party) (held : Held) (kept : IsHeldIn party held w q f rows) where
  pub carries : Carries w q older f.kept
  carries = (Some own.stands.0, own.all own.stands.0 own.stands.1, own.kept)

  pub few : length older < 2 ^ 64 - 2 → messages_of kept.before.left < 2 ^ 64 - 1
  few less =
      let all = kept_messages w q older f.kept carries in
      let left = few_left party.answerer party.keys held (responder_for w f.kept) f.kept.responder kept.before in
      omega (arith, all, left, less)

  -- What is shown of the sessions is what was left.
  pub views_here : views_in kept.before.left ≡ views_in f.kept.responder
  views_here =
      let b = kept.before in
      sym (views_held held.late held.tag b.turn b.gets b.before b.left f.kept.responder b.behind b.are b.unseen b.left_is)
