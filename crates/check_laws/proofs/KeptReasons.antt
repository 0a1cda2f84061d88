-- What is kept of all requesters tells the reason of a refused packet.
use Rattle.std.proofs.Common.{◌≡◌, ◌==◌, ℕ, List, [], ◌∷◌, refl, sym, ap, ◌∙◌, subst, map, Bool, true, false, Option, Some, None, Result, Ok, Err, cond}
use Rattle.std.specs.Prelude.{MatchBool}
use Rattle.std.proofs.lemmas.Option.{none-some, same_Some}
use Rattle.mctp_framing.specs.Packet.{PacketFields, parsed}
use Rattle.requester_machine.specs.Setup.{ReqSetup}
use Rattle.responder_machine.specs.Setup.{towards}
use Rattle.spdm_basis.specs.declared.PacketFault.{PacketFault}
use Rattle.spdm_machine.specs.Packets.{gathered_from}
use Rattle.check_laws.proofs.EachWalks.{leads_is_each}
use Rattle.check_laws.proofs.GoingOn.{none_fetched, none_sent, other_walk}
use Rattle.check_laws.proofs.KeptAnswers.{kept_is_restored}
use Rattle.check_laws.proofs.Refused.{comes_one, goes_one}
use Rattle.check_laws.specs.Keeping.{Kept, restored}
use Rattle.check_laws.specs.Refusing.{IsKeptReason, KeepEach, KeptTellsReason}
use Rattle.check_laws.specs.Walks.{WalkEach}
use Rattle.capture_machine.proofs.Alike.{comes_alike, goes_alike}
use Rattle.capture_machine.specs.Capture.{Leads}
use Rattle.capture_machine.specs.Difference.{ComesApart, ComesApartFrom, GoesApart, GoesApartTo, IsApartBy, IsOtherwiseWrong, IsReason, IsVerifyApart, Why, comes_why, from_why, goes_why, to_why, why_by}
use Rattle.capture_machine.specs.Difference.Why.{BadPacket, UnknownEnd, WrongTurn, BadRequest, BadReply, BadVerify, BadRecord}
use Rattle.capture_machine.specs.Rounds.{Dialogue, dialogue_at, is_at}
use Rattle.world_machine.specs.Setup.{Configuration, known_of}

-- ---- The walk of what is kept.

restored_each : (w : Configuration) (older : List (List ℕ)) (qs : List ReqSetup) (ks : List Kept) → KeepEach w older qs ks → WalkEach w older qs (map restored ks)
restored_each w older [] [] each = tt
restored_each w older (q ∷ qs) (k ∷ ks) each = ((kept_is_restored w q older k each.0).0, restored_each w older qs ks each.1)
restored_each w older [] (k ∷ ks) each = absurd each
restored_each w older (q ∷ qs) [] each = absurd each

-- No large message is in progress in it.
abbrev IsSmall : Dialogue → Type 0
IsSmall d = (d.sending ≡ None) × (d.fetching ≡ None)

small_by : (b : Bool) (k : Kept) (rest : Option Dialogue) (e : Dialogue) → (rest ≡ Some e → IsSmall e) → cond b (Some (restored k)) rest ≡ Some e → IsSmall e
small_by true k rest e next at = subst IsSmall (same_Some (restored k) e at) (refl, refl)
small_by false k rest e next at = next at

all_small : (ks : List Kept) (eid : ℕ) (e : Dialogue) → dialogue_at eid (map restored ks) ≡ Some e → IsSmall e
all_small [] eid e at = absurd (none-some e at)
all_small (k ∷ ks) eid e at = small_by (is_at eid (restored k)) k (dialogue_at eid (map restored ks)) e (all_small ks eid e) at

-- ---- Two walks, of which one has no large message under way.

module _ (w : Configuration) (older : List (List ℕ)) (ds es : List Dialogue) (one : Leads w older ds) (two : Leads w older es) where
  none_there : (eid : ℕ) (o : Option Dialogue) → dialogue_at eid ds ≡ None → dialogue_at eid es ≡ o → dialogue_at eid es ≡ None
  none_there eid None none at = at
  none_there eid (Some e) none at =
      let back = other_walk w older es ds eid e two one at in
      absurd (none-some back.dialogue (sym none ∙ back.at))

  -- ---- Reasons.

  from_same : (p : PacketFields) (o : Option Dialogue) → dialogue_at p.from ds ≡ o → from_why w older p o ≡ from_why w older p (dialogue_at p.from es)
  from_same p None at = sym (ap (from_why w older p) (none_there p.from (dialogue_at p.from es) at refl))
  from_same p (Some d) at =
      let there = other_walk w older ds es p.from d one two at in
      let e : Dialogue = there.dialogue in
      let a = there.alike.alike in
      comes_alike d e (gathered_from w.responder.eid d.setup.eid older p) a ∙ ap (λ (q : ReqSetup). comes_why e (gathered_from w.responder.eid q.eid older p)) a.setup ∙ sym (ap (from_why w older p) there.at)

  to_same : (p : PacketFields) (o : Option Dialogue) → dialogue_at p.to ds ≡ o → to_why w older p o ≡ to_why w older p (dialogue_at p.to es)
  to_same p None at = sym (ap (to_why w older p) (none_there p.to (dialogue_at p.to es) at refl))
  to_same p (Some d) at =
      let there = other_walk w older ds es p.to d one two at in
      let e : Dialogue = there.dialogue in
      let a = there.alike.alike in
      goes_alike (towards w.responder (known_of d.setup)) d e (gathered_from d.setup.eid w.responder.eid older p) a
      ∙ ap (λ (q : ReqSetup). goes_why (towards w.responder (known_of q)) e (gathered_from q.eid w.responder.eid older p)) a.setup ∙ sym (ap (to_why w older p) there.at)

  why_same : (r : Result PacketFields PacketFault) → why_by w older ds r ≡ why_by w older es r
  why_same (Err fault) = refl
  why_same (Ok p) =
      ap (λ (o : Option Why). cond (p.to == w.responder.eid) o (cond (p.from == w.responder.eid) (to_why w older p (dialogue_at p.to ds)) (Some UnknownEnd))) (from_same p (dialogue_at p.from ds) refl)
      ∙ ap (λ (o : Option Why). cond (p.to == w.responder.eid) (from_why w older p (dialogue_at p.from es)) (cond (p.from == w.responder.eid) o (Some UnknownEnd))) (to_same p (dialogue_at p.to ds) refl)

  -- ---- Verify data.

  module _ (small : (eid : ℕ) (e : Dialogue) → dialogue_at eid es ≡ Some e → IsSmall e) where
    apart_from : (p : PacketFields) (o : Option Dialogue) → dialogue_at p.from ds ≡ o → ComesApartFrom w older p o → ComesApartFrom w older p (dialogue_at p.from es)
    apart_from p None at c = absurd c
    apart_from p (Some d) at c =
        let there = other_walk w older ds es p.from d one two at in
        let e : Dialogue = there.dialogue in
        let a = there.alike.alike in
        let none : d.sending ≡ None = none_sent d.round d.requester e.requester d.sending e.sending a.askers (small p.from e there.at).0 in
        let G : ReqSetup → Type 0 = λ q. ComesApart e (gathered_from w.responder.eid q.eid older p) in
        subst (ComesApartFrom w older p) (sym there.at) (subst G a.setup (comes_one d e a none (gathered_from w.responder.eid d.setup.eid older p) c))

    apart_to : (p : PacketFields) (o : Option Dialogue) → dialogue_at p.to ds ≡ o → GoesApartTo w older p o → GoesApartTo w older p (dialogue_at p.to es)
    apart_to p None at c = absurd c
    apart_to p (Some d) at c =
        let there = other_walk w older ds es p.to d one two at in
        let e : Dialogue = there.dialogue in
        let a = there.alike.alike in
        let less = (small p.to e there.at).1 in
        let none : d.fetching ≡ None = none_fetched d.fetching e.fetching a.fetches less in
        let G : ReqSetup → Type 0 = λ q. GoesApart (towards w.responder (known_of q)) e (gathered_from q.eid w.responder.eid older p) in
        subst (GoesApartTo w older p) (sym there.at) (subst G a.setup (goes_one (towards w.responder (known_of d.setup)) d e a none less (gathered_from d.setup.eid w.responder.eid older p) c))

    either_apart : (p : PacketFields) (to from : Bool) → MatchBool to (ComesApartFrom w older p (dialogue_at p.from ds)) (MatchBool from (GoesApartTo w older p (dialogue_at p.to ds)) ⊥)
        → MatchBool to (ComesApartFrom w older p (dialogue_at p.from es)) (MatchBool from (GoesApartTo w older p (dialogue_at p.to es)) ⊥)
    either_apart p true from c = apart_from p (dialogue_at p.from ds) refl c
    either_apart p false true c = apart_to p (dialogue_at p.to ds) refl c
    either_apart p false false c = absurd c

    apart_same : (r : Result PacketFields PacketFault) → IsApartBy w older ds r → IsApartBy w older es r
    apart_same (Err fault) c = absurd c
    apart_same (Ok p) c = either_apart p (p.to == w.responder.eid) (p.from == w.responder.eid) c

-- ---- The reason.

module _ (w : Configuration) (older : List (List ℕ)) (packet : List ℕ) (ks : List Kept) (leads : Leads w older (map restored ks)) where
  apart_kept : IsVerifyApart w older packet → IsApartBy w older (map restored ks) (parsed packet)
  unfolding IsVerifyApart
  apart_kept c = apart_same w older c.0 (map restored ks) c.1 leads (all_small ks) (parsed packet) c.2

  kept_apart : IsApartBy w older (map restored ks) (parsed packet) → IsVerifyApart w older packet
  unfolding IsVerifyApart
  kept_apart c = (map restored ks, leads, c)

  otherwise_kept : (why : Why) → IsOtherwiseWrong w older packet why → (IsApartBy w older (map restored ks) (parsed packet) → ⊥) × (why_by w older (map restored ks) (parsed packet) ≡ Some why)
  unfolding IsOtherwiseWrong
  otherwise_kept why c = (λ apart. c.0 (kept_apart apart), sym (why_same w older c.1.0 (map restored ks) c.1.1 leads (parsed packet)) ∙ c.1.2)

  kept_otherwise : (why : Why) → (IsApartBy w older (map restored ks) (parsed packet) → ⊥) × (why_by w older (map restored ks) (parsed packet) ≡ Some why) → IsOtherwiseWrong w older packet why
  unfolding IsOtherwiseWrong
  kept_otherwise why c = (λ apart. c.0 (apart_kept apart), (map restored ks, leads, c.1))

  to_kept : (why : Why) → IsReason w older packet why → IsKeptReason w older packet ks why
  to_kept BadVerify c = apart_kept c
  to_kept BadPacket c = otherwise_kept BadPacket c
  to_kept UnknownEnd c = otherwise_kept UnknownEnd c
  to_kept WrongTurn c = otherwise_kept WrongTurn c
  to_kept BadRequest c = otherwise_kept BadRequest c
  to_kept BadReply c = otherwise_kept BadReply c
  to_kept BadRecord c = otherwise_kept BadRecord c

  from_kept : (why : Why) → IsKeptReason w older packet ks why → IsReason w older packet why
  from_kept BadVerify c = kept_apart c
  from_kept BadPacket c = kept_otherwise BadPacket c
  from_kept UnknownEnd c = kept_otherwise UnknownEnd c
  from_kept WrongTurn c = kept_otherwise WrongTurn c
  from_kept BadRequest c = kept_otherwise BadRequest c
  from_kept BadReply c = kept_otherwise BadReply c
  from_kept BadRecord c = kept_otherwise BadRecord c

pub kept_tells_reason : KeptTellsReason
kept_tells_reason w older packet ks why apart all each =
    let leads : Leads w older (map restored ks) = (leads_is_each w older (map restored ks) apart).1 (restored_each w older w.requesters ks each, all) in
    (to_kept w older packet ks leads why, from_kept w older packet ks leads why)
