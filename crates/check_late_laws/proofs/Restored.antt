-- What a walk leads to, with no padding in the record that is owed: a walk leads to that too.
use Rattle.std.proofs.Common.{◌≡◌, ℕ, List, [], refl, sym, ap, ◌∙◌, subst, Bool, true, false, Option, Some, None, arith}
use Rattle.requester_machine.specs.History.{History, outstanding}
use Rattle.requester_machine.specs.Message.{Sent}
use Rattle.requester_machine.specs.Owed.{sent_with, with_next}
use Rattle.requester_machine.specs.Session.{session_of}
use Rattle.requester_machine.specs.Setup.{ReqSetup}
use Rattle.check_laws.proofs.FreePadding.{padding_is_free}
use Rattle.check_laws.proofs.KeptParts.{Owes, it_owes, kept_is, next_twice, sent_twice}
use Rattle.check_laws.proofs.OneWalk.{walks_alike}
use Rattle.check_laws.specs.Keeping.{Kept, kept_of, owing, restored}
use Rattle.check_laws.specs.Padding.{next_with, session_asked, with_padding}
use Rattle.check_laws.specs.Walks.{Walks}
use Rattle.capture_machine.proofs.AskersHear.{later_tag}
use Rattle.capture_machine.specs.CapturedRequests.{is_later, owes}
use Rattle.capture_machine.specs.Rounds.{Dialogue}
use Rattle.world_machine.specs.Setup.{Configuration}

-- What is kept of a dialogue, with the bytes that stand for its large response.
abbrev pub bare_of : Dialogue → Dialogue
bare_of d = record (restored (kept_of d)) { fetching = d.fetching }

abbrev small : Dialogue → Dialogue
small d = record d { sending = None }

small_is : (d : Dialogue) → d.sending ≡ None → small d ≡ d
small_is d none = ap (λ (o : Option (List ℕ)). record d { sending = o }) (sym none)

abbrev with_bytes : Option (List ℕ) → Kept → Dialogue
with_bytes o k = record (restored k) { fetching = o }

module _ (w : Configuration) (q : ReqSetup) (older : List (List ℕ)) (d : Dialogue) (walk : Walks w q older d) (none : d.sending ≡ None) where
  unowed_is : owes d ≡ false → bare_of d ≡ d
  unowed_is not = ap (with_bytes d.fetching) (kept_is false d not) ∙ small_is d none

  module _ (is : owes d ≡ true) (has : Owes d.round d.requester) where
    abbrev psk : List ℕ
    psk = d.setup.psk

    abbrev mine : Sent
    mine = sent_with psk (session_of (session_asked has.sent.aim) (with_next None d.requester)) [] has.sent

    abbrev plain : Dialogue
    plain = with_padding [] d

    next_is : next_with psk d.requester [] (outstanding d.requester) ≡ Some mine
    next_is = ap (next_with psk d.requester []) has.waits

    plain_is : plain.requester ≡ with_next (Some mine) d.requester
    plain_is = ap (λ (o : Option Sent). with_next o d.requester) next_is

    owed_is_plain : bare_of d ≡ plain
    owed_is_plain =
        let Q : History → Dialogue = λ h. record d { requester = h; sending = None } in
        ap (with_bytes d.fetching) (kept_is true d is) ∙ ap (λ (o : Option Sent). Q (owing o (with_next None d.requester))) next_is ∙ ap Q (next_twice d.requester (Some mine) None) ∙ ap Q (sym plain_is) ∙ small_is plain none

    waits_plain : outstanding plain.requester ≡ Some mine
    waits_plain = ap outstanding plain_is ∙ has.other mine

    owes_plain : owes plain ≡ true
    owes_plain = ap (is_later d.round) waits_plain ∙ later_tag d.round mine has.sent refl ∙ ap (is_later d.round) (sym has.waits) ∙ is

    bare_plain : with_next None plain.requester ≡ with_next None d.requester
    bare_plain = ap (with_next None) plain_is ∙ next_twice d.requester None (Some mine)

    again : next_with psk plain.requester [] (outstanding plain.requester) ≡ Some mine
    again =
        ap (next_with psk plain.requester []) waits_plain ∙ ap (λ (l : History). Some (sent_with psk (session_of (session_asked has.sent.aim) l) [] mine)) bare_plain
        ∙ ap Some (sent_twice psk (session_of (session_asked has.sent.aim) (with_next None d.requester)) [] [] has.sent)

    kept_plain : kept_of plain ≡ kept_of d
    kept_plain =
        kept_is true plain owes_plain
        ∙ ap (λ (l : History). record { setup = d.setup; requester = l; owed = next_with psk plain.requester [] (outstanding plain.requester); responder = d.responder; round = d.round }) bare_plain
        ∙ ap (λ (o : Option Sent). record { setup = d.setup; requester = with_next None d.requester; owed = o; responder = d.responder; round = d.round }) (again ∙ sym next_is)
        ∙ sym (kept_is true d is)

  pub bare_walks : Walks w q older (bare_of d) × (kept_of (bare_of d) ≡ kept_of d)
  bare_walks = by_owes (owes d) refl
    where
      by_owes : (b : Bool) → owes d ≡ b → Walks w q older (bare_of d) × (kept_of (bare_of d) ≡ kept_of d)
      by_owes false not = (subst (Walks w q older) (sym (unowed_is not)) walk, ap kept_of (unowed_is not))
      by_owes true is =
          let has = it_owes d.round d.requester d.requester d.sending d.sending (walks_alike w q older d d walk walk).alike.askers none is in
          let plain_too = owed_is_plain is has in
          (subst (Walks w q older) (sym plain_too) (padding_is_free w q older d [] walk is (omega arith)), ap kept_of plain_too ∙ kept_plain is has)
