-- While a large response is fetched in the clear, GET_VERSION is no repeat, and the requester awaits VERSION.
use Rattle.std.proofs.Common.{◌≡◌, ◌≤◌, ◌==◌, ◌∙◌, ℕ, List, ◌∷◌, refl, sym, ap, subst, drop, arith, Bool, true, false, Option, Some, None, inl, inr}
use Rattle.std.specs.Prelude.{slice_index}
use Rattle.std.proofs.lemmas.Bool.{false≢true}
use Rattle.std.proofs.lemmas.Option.{same_Some}
use Rattle.check_ends.specs.declared.party.Party.{Party}
use Rattle.check_laws.proofs.OneWalk.{walks_alike}
use Rattle.check_laws.specs.Keeping.{restored}
use Rattle.check_laws.specs.RepliesShown.{responder_for}
use Rattle.responder_core.specs.Connected as connected
use Rattle.responder_core.specs.declared.connected.Connection.{Connection}
use Rattle.check_fetched_laws.proofs.ReadyGets.{common_given}
use Rattle.check_fetched_laws.proofs.SettledCaps.{walks_settle}
use Rattle.check_fetched_laws.proofs.TurnsBoth.{Settles}
use Rattle.check_fetched_laws.specs.StandsAlike.{IsAnew, version_entry}
use Rattle.check_fetched_ends.proofs.HasGets.{common_held}
use Rattle.check_fetched_laws.proofs.HeldSettled.{left_turns}
use Rattle.check_fetched_ends.proofs.VersionHeld.{anew_held, version_held}
use Rattle.check_fetched_ends.specs.Held.{IsHeldIn, StandsBefore}
use Rattle.check_fetched_ends.specs.declared.clear_fetch.held.Held.{Held}
use Rattle.check_late_laws.specs.Fetching.{Fetching, IsFetchingOf, dialogue_of}
use Rattle.negotiate.specs.declared.shared.Common.{Common}
use Rattle.requester_machine.specs.History.{outstanding}
use Rattle.requester_machine.specs.Message.{Aim, Sent}
use Rattle.requester_machine.specs.Message.Aim.{Plain}
use Rattle.requester_machine.specs.Setup.{ReqSetup}
use Rattle.responder_machine.specs.History.{Entry, History, clear_turns, kept_of, negotiation_of}
use Rattle.responder_machine.specs.History.Entry.{Clear}
use Rattle.responder_machine.specs.Place.{clear_place, place_terms}
use Rattle.responder_machine.specs.Responder.{is_repeat}
use Rattle.responder_machine.specs.Setup.{RspSetup}
use Rattle.responder_machine.specs.SizeLaws.{HasSizes}
use Rattle.spdm_grammar.specs.Message.RequestMessage.{GetVersion}
use Rattle.spdm_grammar.specs.Requests.{canonical_request}
use Rattle.spdm_machine.specs.Bodies.{clear_body}
use Rattle.spdm_machine.specs.Terms.{terms_of}
use Rattle.capture_machine.proofs.FetchStates.{Fetch, Getting}
use Rattle.capture_machine.proofs.FetchStates.Getting.{Asks, Repeats, Seals}
use Rattle.capture_machine.proofs.Fetching.{IsSound}
use Rattle.capture_machine.proofs.FetchedTells.{kept_large}
use Rattle.capture_machine.specs.LargeAnswers.{is_fetching, is_for_chunk, with_large}
use Rattle.capture_machine.specs.Rounds.{Dialogue, Round, no_draw}
use Rattle.capture_machine.specs.SessionTable.{Row}
use Rattle.world_machine.specs.Setup.{Configuration}

module _ (w : Configuration) (q : ReqSetup) (older : List (List ℕ)) (rows : List Row) (f : Fetching) (own : IsFetchingOf w q older f) (party : Party) (held : Held) (kept : IsHeldIn party held w q f rows) (round : Round) (is : f.kept.round ≡ Some round) (version : round.body ≡ clear_body (canonical_request GetVersion)) where
  abbrev r : RspSetup
  r = responder_for w f.kept

  abbrev h : History
  h = f.kept.responder

  abbrev d : Dialogue
  d = dialogue_of f own.stands.0

  abbrev b : StandsBefore party.answerer party.keys held (responder_for w f.kept) f.kept.responder
  b = kept.before

  abbrev e : Entry
  e = Clear held.tag b.turn no_draw

  pub type : (slice_index round.body 0 == 5) ≡ true
  type = ap (λ (l : List ℕ). slice_index l 0 == 5) version

  anew_all : (4 ≤ r.transfer) × (is_repeat (kept_of h) round.tag (canonical_request GetVersion) ≡ false) × (is_repeat (kept_of b.left) round.tag (canonical_request GetVersion) ≡ false)
  anew_all = anew_held w q older d held.late held.tag b.turn b.gets b.before b.left round.tag (own.all own.stands.0 own.stands.1) b.behind b.are b.unseen b.left_is b.sized

  -- ---- Sizes.

  settles : Settles h
  settles = walks_settle w q older d (own.all own.stands.0 own.stands.1)

  before_sizes : HasSizes r (place_terms (clear_place b.before)).common
  before_sizes =
      let turns : clear_turns b.left ≡ clear_turns b.before = left_turns e b.before b.left b.left_is in
      subst (connected.HasSizesAt r) turns b.stands.sizes b.sized

  common_here : (place_terms (clear_place h)).common ≡ (place_terms (clear_place b.before)).common
  common_here = common_held held.late held.tag b.turn b.gets b.before h b.behind b.are b.unseen settles

  sizes_here : HasSizes r (place_terms (clear_place h)).common
  sizes_here = subst (HasSizes r) (sym common_here) before_sizes

  -- ---- GET_VERSION is no repeat.

  pub anew_with : (v : List ℕ) → IsAnew (responder_for w f.kept) (with_large None v f.kept.responder) round.tag
  anew_with v = record {
    room = anew_all.0;
    anew = ap (λ o. is_repeat o round.tag (canonical_request GetVersion)) (kept_large None v h) ∙ anew_all.1;
    sized = λ known. subst (HasSizes r) (sym (common_given v h settles)) sizes_here;
  }

  pub anew_left : IsAnew (responder_for w f.kept) kept.before.left round.tag
  anew_left = record { room = anew_all.0; anew = anew_all.2; sized = b.stands.sizes }

  -- A connection that took it follows what is fetched too.
  pub stands_behind : (seen : Connection) → connected.StandsFor seen (responder_for w f.kept) (version_entry round.tag ∷ kept.before.left) → connected.StandsFor seen (responder_for w f.kept) (version_entry round.tag ∷ f.kept.responder)
  stands_behind seen stands = version_held held.late held.tag b.turn b.gets b.before b.left h b.behind b.are b.unseen b.left_is seen r round.tag stands

  -- ---- The requester.

  sound : IsSound d
  sound = (walks_alike w q older d d (own.all own.stands.0 own.stands.1) (own.all own.stands.0 own.stands.1)).one

  not_fetched : (v : List ℕ) (rd : Round) → rd ≡ round → Fetch h v rd.tag rd.body → ⊥
  not_fetched v rd same fetch = by_how fetch.how
    where
      body_is : rd.body ≡ clear_body (canonical_request GetVersion)
      body_is = ap (λ (x : Round). x.body) same ∙ version

      by_how : Getting h rd.tag rd.body → ⊥
      by_how (Asks handle number asks since) = let codes = ap (λ (l : List ℕ). slice_index l 2) (sym asks ∙ body_is) in absurd (omega (arith, codes))
      by_how (Repeats clear again since) =
          let here : is_repeat (kept_of h) round.tag (canonical_request GetVersion) ≡ true =
          sym (ap (λ (x : Round). is_repeat (kept_of h) x.tag (drop 1 x.body)) same ∙ ap (λ (l : List ℕ). is_repeat (kept_of h) round.tag (drop 1 l)) version) ∙ again in
          false≢true (sym anew_all.1 ∙ here)
      by_how (Seals sealed stand) = false≢true (sym sealed ∙ ap (λ (l : List ℕ). slice_index l 0 == 5) body_is)

  -- It awaits VERSION.
  pub record AwaitsVersion : Type 0 where
    pub sent : Sent
    pub waits : outstanding (restored f.kept).requester ≡ Some sent
    pub aims : sent.aim ≡ Plain GetVersion

  pub awaits_version : AwaitsVersion
  awaits_version =
      let old = sound.fetched own.stands.0 refl in
      let same : old.0 ≡ round = same_Some old.0 round (sym old.1 ∙ is) in
      elim old.2.stands [
        | inl asked ↦ record { sent = old.2.sent; waits = old.2.waits; aims = asked.0 }
        | inr fetch ↦ absurd (not_fetched own.stands.0 old.0 same fetch.1)
      ]

  -- So it awaits no chunk.
  pub awaits_none : is_fetching (outstanding (restored f.kept).requester) ≡ false
  awaits_none = ap is_fetching awaits_version.waits ∙ ap is_for_chunk awaits_version.aims
