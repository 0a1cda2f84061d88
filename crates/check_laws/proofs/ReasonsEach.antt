-- Why a packet is refused depends on the one requester that it comes from or goes to.
use Rattle.std.proofs.Common.{◌≡◌, ◌==◌, ◌&&◌, not, ℕ, List, [], ◌∷◌, refl, sym, ap, ◌∙◌, subst, Bool, true, false, Some, Ok, cond, eqb-true}
use Rattle.std.specs.Prelude.{MatchBool, find}
use Rattle.std.proofs.lemmas.Bool.{false≢true}
use Rattle.std.proofs.lemmas.Option.{none-some, same_Some}
use Rattle.mctp_framing.specs.Packet.{PacketFields, parsed}
use Rattle.requester_machine.specs.Setup.{ReqSetup}
use Rattle.responder_machine.specs.Setup.{towards}
use Rattle.spdm_basis.proofs.Bools.{and_first, and_second}
use Rattle.spdm_machine.specs.Packets.{gathered_from}
use Rattle.check_laws.proofs.EachWalks.{each_had, leads_is_each}
use Rattle.check_laws.proofs.PairWalks.{to_each, walks_setup}
use Rattle.check_laws.specs.Judged.{AreApart}
use Rattle.check_laws.specs.ReasonsEach.{AnsweredReasonIsEach, AskedReasonIsEach, IsAnsweredApart, IsAnsweredReason, IsAskedApart, IsAskedReason, IsOneOf}
use Rattle.check_laws.specs.Walks.{HaveWalks, WalkEach, Walks, all_between}
use Rattle.capture_machine.specs.Capture.{Leads}
use Rattle.capture_machine.specs.Difference.{ComesApart, ComesApartFrom, GoesApart, GoesApartTo, IsApartBy, IsOtherwiseWrong, IsReason, IsVerifyApart, Why, comes_why, from_why, goes_why, to_why, why_by}
use Rattle.capture_machine.specs.Difference.Why.{BadPacket, UnknownEnd, WrongTurn, BadRequest, BadReply, BadVerify, BadRecord}
use Rattle.capture_machine.specs.Rounds.{Dialogue, dialogue_at}
use Rattle.world_machine.specs.Setup.{Configuration, known_of}

-- ---- The walk of one requester among those of all.

has : ReqSetup → ReqSetup → Bool
has q o = o.eid == q.eid

pub record At (w : Configuration) (older : List (List ℕ)) (q : ReqSetup) (ds : List Dialogue) : Type 0 where
  pub dialogue : Dialogue
  pub walk : Walks w q older dialogue
  pub found : dialogue_at q.eid ds ≡ Some dialogue

at_eid : (w : Configuration) (older : List (List ℕ)) (q o : ReqSetup) (d : Dialogue) → Walks w o older d → (o.eid == q.eid) ≡ (d.setup.eid == q.eid)
at_eid w older q o d walk = ap (λ (s : ReqSetup). s.eid == q.eid) (sym (walks_setup w o older d walk))

first_at : (w : Configuration) (older : List (List ℕ)) (q o : ReqSetup) (qs : List ReqSetup) (d : Dialogue) (ds : List Dialogue) (b : Bool) → (o.eid == q.eid) ≡ b → Walks w o older d
    → (find (λ (x : ReqSetup). x.eid == q.eid) qs ≡ Some q → At w older q ds) → cond b (Some o) (find (λ (x : ReqSetup). x.eid == q.eid) qs) ≡ Some q → At w older q (d ∷ ds)
first_at w older q o qs d ds true is walk rest found = record {
  dialogue = d;
  walk = subst (λ (x : ReqSetup). Walks w x older d) (same_Some o q found) walk;
  found = ap (λ (b : Bool). cond b (Some d) (dialogue_at q.eid ds)) (sym (at_eid w older q o d walk) ∙ is);
}
first_at w older q o qs d ds false is walk rest found =
    let a = rest found in
    record {
      dialogue = a.dialogue;
      walk = a.walk;
      found = ap (λ (b : Bool). cond b (Some d) (dialogue_at q.eid ds)) (sym (at_eid w older q o d walk) ∙ is) ∙ a.found;
    }

each_at : (w : Configuration) (older : List (List ℕ)) (q : ReqSetup) (qs : List ReqSetup) (ds : List Dialogue) → WalkEach w older qs ds → find (λ (x : ReqSetup). x.eid == q.eid) qs ≡ Some q → At w older q ds
each_at w older q [] ds each found = absurd (none-some q found)
each_at w older q (o ∷ qs) (d ∷ ds) each found = first_at w older q o qs d ds (o.eid == q.eid) refl each.0 (each_at w older q qs ds each.1) found
each_at w older q (o ∷ qs) [] each found = absurd each

-- ---- Any walk of it among those of the others.

pub record Put (w : Configuration) (older : List (List ℕ)) (q : ReqSetup) (qs : List ReqSetup) (n : Dialogue) : Type 0 where
  pub dialogues : List Dialogue
  pub each : WalkEach w older qs dialogues
  pub found : dialogue_at q.eid dialogues ≡ Some n

first_put : (w : Configuration) (older : List (List ℕ)) (q o : ReqSetup) (qs : List ReqSetup) (d n : Dialogue) (ds : List Dialogue) (b : Bool) → (o.eid == q.eid) ≡ b → Walks w o older d → WalkEach w older qs ds → Walks w q older n
    → (find (λ (x : ReqSetup). x.eid == q.eid) qs ≡ Some q → Put w older q qs n) → cond b (Some o) (find (λ (x : ReqSetup). x.eid == q.eid) qs) ≡ Some q → Put w older q (o ∷ qs) n
first_put w older q o qs d n ds true is walk each own rest found =
    let walk_o : Walks w o older n = subst (λ (x : ReqSetup). Walks w x older n) (sym (same_Some o q found)) own in
    record {
      dialogues = n ∷ ds;
      each = (walk_o, each);
      found = ap (λ (b : Bool). cond b (Some n) (dialogue_at q.eid ds)) (sym (at_eid w older q o n walk_o) ∙ is);
    }
first_put w older q o qs d n ds false is walk each own rest found =
    let a = rest found in
    record {
      dialogues = d ∷ a.dialogues;
      each = (walk, a.each);
      found = ap (λ (b : Bool). cond b (Some d) (dialogue_at q.eid a.dialogues)) (sym (at_eid w older q o d walk) ∙ is) ∙ a.found;
    }

pub put_at : (w : Configuration) (older : List (List ℕ)) (q : ReqSetup) (qs : List ReqSetup) (n : Dialogue) (ds : List Dialogue) → WalkEach w older qs ds → Walks w q older n → find (λ (x : ReqSetup). x.eid == q.eid) qs ≡ Some q → Put w older q qs n
put_at w older q [] n ds each own found = absurd (none-some q found)
put_at w older q (o ∷ qs) n (d ∷ ds) each own found = first_put w older q o qs d n ds (o.eid == q.eid) refl each.0 each.1 own (put_at w older q qs n ds each.1 own) found
put_at w older q (o ∷ qs) n [] each own found = absurd each

-- ---- One packet, from a requester or for it.

module _ (w : Configuration) (q : ReqSetup) (older : List (List ℕ)) (packet : List ℕ) (p : PacketFields) (parses : parsed packet ≡ Ok p)
    (apart : AreApart w.responder.eid w.requesters) (one : IsOneOf w q)
    (walks : HaveWalks w older w.requesters) (between : all_between w older ≡ true) where
  -- The walk of the requester in a walk over the packets.
  in_walk : (ds : List Dialogue) → Leads w older ds → At w older q ds
  in_walk ds leads = each_at w older q w.requesters ds (to_each w older ds apart leads).0 one

  -- A walk over the packets in which the requester has this one.
  with_walk : (n : Dialogue) → Walks w q older n → (ds : List Dialogue) × Leads w older ds × (dialogue_at q.eid ds ≡ Some n)
  with_walk n own =
      let had = each_had w older w.requesters walks in
      let put = put_at w older q w.requesters n had.0 had.1 own one in
      (put.dialogues, (leads_is_each w older put.dialogues apart).1 (put.each, between), put.found)

  -- ---- A request.

  module _ (to : (p.to == w.responder.eid) ≡ true) (from : p.from ≡ q.eid) where
    to_asked : (ds : List Dialogue) (d : Dialogue) → dialogue_at q.eid ds ≡ Some d → Walks w q older d → IsApartBy w older ds (Ok p) → ComesApart d (gathered_from w.responder.eid q.eid older p)
    to_asked ds d found walk c =
        let F : Bool → Type 0 = λ b. MatchBool b (ComesApartFrom w older p (dialogue_at p.from ds)) (MatchBool (p.from == w.responder.eid) (GoesApartTo w older p (dialogue_at p.to ds)) ⊥) in
        let G : ReqSetup → Type 0 = λ s. ComesApart d (gathered_from w.responder.eid s.eid older p) in
        subst G (walks_setup w q older d walk) (subst (ComesApartFrom w older p) (ap (λ n. dialogue_at n ds) from ∙ found) (subst F to c))

    from_asked : (ds : List Dialogue) (d : Dialogue) → dialogue_at q.eid ds ≡ Some d → Walks w q older d → ComesApart d (gathered_from w.responder.eid q.eid older p) → IsApartBy w older ds (Ok p)
    from_asked ds d found walk c =
        let F : Bool → Type 0 = λ b. MatchBool b (ComesApartFrom w older p (dialogue_at p.from ds)) (MatchBool (p.from == w.responder.eid) (GoesApartTo w older p (dialogue_at p.to ds)) ⊥) in
        let G : ReqSetup → Type 0 = λ s. ComesApart d (gathered_from w.responder.eid s.eid older p) in
        subst F (sym to) (subst (ComesApartFrom w older p) (sym (ap (λ n. dialogue_at n ds) from ∙ found)) (subst G (sym (walks_setup w q older d walk)) c))

    why_asked : (ds : List Dialogue) (d : Dialogue) → dialogue_at q.eid ds ≡ Some d → Walks w q older d → why_by w older ds (Ok p) ≡ comes_why d (gathered_from w.responder.eid q.eid older p)
    why_asked ds d found walk =
        ap (λ (b : Bool). cond b (from_why w older p (dialogue_at p.from ds)) (cond (p.from == w.responder.eid) (to_why w older p (dialogue_at p.to ds)) (Some UnknownEnd))) to
        ∙ ap (from_why w older p) (ap (λ n. dialogue_at n ds) from ∙ found)
        ∙ ap (λ (s : ReqSetup). comes_why d (gathered_from w.responder.eid s.eid older p)) (walks_setup w q older d walk)

    asked_apart : IsVerifyApart w older packet → IsAskedApart w q older (gathered_from w.responder.eid q.eid older p)
    unfolding IsVerifyApart
    asked_apart c = let a = in_walk c.0 c.1 in (a.dialogue, a.walk, to_asked c.0 a.dialogue a.found a.walk (subst (IsApartBy w older c.0) parses c.2))

    apart_asked : IsAskedApart w q older (gathered_from w.responder.eid q.eid older p) → IsVerifyApart w older packet
    unfolding IsVerifyApart
    apart_asked c = let a = with_walk c.0 c.1 in (a.0, a.1, subst (IsApartBy w older a.0) (sym parses) (from_asked a.0 c.0 a.2 c.1 c.2))

    asked_other : (why : Why) → IsOtherwiseWrong w older packet why
        → (IsAskedApart w q older (gathered_from w.responder.eid q.eid older p) → ⊥) × ((d : Dialogue) × Walks w q older d × (comes_why d (gathered_from w.responder.eid q.eid older p) ≡ Some why))
    unfolding IsOtherwiseWrong
    asked_other why c =
        let a = in_walk c.1.0 c.1.1 in
        (λ at. c.0 (apart_asked at), (a.dialogue, a.walk, sym (why_asked c.1.0 a.dialogue a.found a.walk) ∙ sym (ap (why_by w older c.1.0) parses) ∙ c.1.2))

    other_asked : (why : Why) → (IsAskedApart w q older (gathered_from w.responder.eid q.eid older p) → ⊥) × ((d : Dialogue) × Walks w q older d × (comes_why d (gathered_from w.responder.eid q.eid older p) ≡ Some why))
        → IsOtherwiseWrong w older packet why
    unfolding IsOtherwiseWrong
    other_asked why c =
        let a = with_walk c.1.0 c.1.1 in
        (λ at. c.0 (asked_apart at), (a.0, a.1, ap (why_by w older a.0) parses ∙ why_asked a.0 c.1.0 a.2 c.1.1 ∙ c.1.2))

    reason_asked : (why : Why) → IsReason w older packet why → IsAskedReason w q older (gathered_from w.responder.eid q.eid older p) why
    reason_asked BadVerify c = asked_apart c
    reason_asked BadPacket c = asked_other BadPacket c
    reason_asked UnknownEnd c = asked_other UnknownEnd c
    reason_asked WrongTurn c = asked_other WrongTurn c
    reason_asked BadRequest c = asked_other BadRequest c
    reason_asked BadReply c = asked_other BadReply c
    reason_asked BadRecord c = asked_other BadRecord c

    asked_reason : (why : Why) → IsAskedReason w q older (gathered_from w.responder.eid q.eid older p) why → IsReason w older packet why
    asked_reason BadVerify c = apart_asked c
    asked_reason BadPacket c = other_asked BadPacket c
    asked_reason UnknownEnd c = other_asked UnknownEnd c
    asked_reason WrongTurn c = other_asked WrongTurn c
    asked_reason BadRequest c = other_asked BadRequest c
    asked_reason BadReply c = other_asked BadReply c
    asked_reason BadRecord c = other_asked BadRecord c

  -- ---- An answer.

  module _ (no : (p.to == w.responder.eid) ≡ false) (back : (p.from == w.responder.eid) ≡ true) (end : p.to ≡ q.eid) where
    to_answered : (ds : List Dialogue) (d : Dialogue) → dialogue_at q.eid ds ≡ Some d → Walks w q older d → IsApartBy w older ds (Ok p)
        → GoesApart (towards w.responder (known_of q)) d (gathered_from q.eid w.responder.eid older p)
    to_answered ds d found walk c =
        let F : Bool → Bool → Type 0 = λ b e. MatchBool b (ComesApartFrom w older p (dialogue_at p.from ds)) (MatchBool e (GoesApartTo w older p (dialogue_at p.to ds)) ⊥) in
        let G : ReqSetup → Type 0 = λ s. GoesApart (towards w.responder (known_of s)) d (gathered_from s.eid w.responder.eid older p) in
        subst G (walks_setup w q older d walk) (subst (GoesApartTo w older p) (ap (λ n. dialogue_at n ds) end ∙ found) (subst (F false) back (subst (λ b. F b (p.from == w.responder.eid)) no c)))

    from_answered : (ds : List Dialogue) (d : Dialogue) → dialogue_at q.eid ds ≡ Some d → Walks w q older d → GoesApart (towards w.responder (known_of q)) d (gathered_from q.eid w.responder.eid older p)
        → IsApartBy w older ds (Ok p)
    from_answered ds d found walk c =
        let F : Bool → Bool → Type 0 = λ b e. MatchBool b (ComesApartFrom w older p (dialogue_at p.from ds)) (MatchBool e (GoesApartTo w older p (dialogue_at p.to ds)) ⊥) in
        let G : ReqSetup → Type 0 = λ s. GoesApart (towards w.responder (known_of s)) d (gathered_from s.eid w.responder.eid older p) in
        subst (λ b. F b (p.from == w.responder.eid)) (sym no) (subst (F false) (sym back) (subst (GoesApartTo w older p) (sym (ap (λ n. dialogue_at n ds) end ∙ found)) (subst G (sym (walks_setup w q older d walk)) c)))

    why_answered : (ds : List Dialogue) (d : Dialogue) → dialogue_at q.eid ds ≡ Some d → Walks w q older d
        → why_by w older ds (Ok p) ≡ goes_why (towards w.responder (known_of q)) d (gathered_from q.eid w.responder.eid older p)
    why_answered ds d found walk =
        ap (λ (b : Bool). cond b (from_why w older p (dialogue_at p.from ds)) (cond (p.from == w.responder.eid) (to_why w older p (dialogue_at p.to ds)) (Some UnknownEnd))) no
        ∙ ap (λ (b : Bool). cond b (to_why w older p (dialogue_at p.to ds)) (Some UnknownEnd)) back
        ∙ ap (to_why w older p) (ap (λ n. dialogue_at n ds) end ∙ found)
        ∙ ap (λ (s : ReqSetup). goes_why (towards w.responder (known_of s)) d (gathered_from s.eid w.responder.eid older p)) (walks_setup w q older d walk)

    answered_apart : IsVerifyApart w older packet → IsAnsweredApart w q older (gathered_from q.eid w.responder.eid older p)
    unfolding IsVerifyApart
    answered_apart c = let a = in_walk c.0 c.1 in (a.dialogue, a.walk, to_answered c.0 a.dialogue a.found a.walk (subst (IsApartBy w older c.0) parses c.2))

    apart_answered : IsAnsweredApart w q older (gathered_from q.eid w.responder.eid older p) → IsVerifyApart w older packet
    unfolding IsVerifyApart
    apart_answered c = let a = with_walk c.0 c.1 in (a.0, a.1, subst (IsApartBy w older a.0) (sym parses) (from_answered a.0 c.0 a.2 c.1 c.2))

    answered_other : (why : Why) → IsOtherwiseWrong w older packet why
        → (IsAnsweredApart w q older (gathered_from q.eid w.responder.eid older p) → ⊥)
        × ((d : Dialogue) × Walks w q older d × (goes_why (towards w.responder (known_of q)) d (gathered_from q.eid w.responder.eid older p) ≡ Some why))
    unfolding IsOtherwiseWrong
    answered_other why c =
        let a = in_walk c.1.0 c.1.1 in
        (λ at. c.0 (apart_answered at), (a.dialogue, a.walk, sym (why_answered c.1.0 a.dialogue a.found a.walk) ∙ sym (ap (why_by w older c.1.0) parses) ∙ c.1.2))

    other_answered : (why : Why) → (IsAnsweredApart w q older (gathered_from q.eid w.responder.eid older p) → ⊥)
        × ((d : Dialogue) × Walks w q older d × (goes_why (towards w.responder (known_of q)) d (gathered_from q.eid w.responder.eid older p) ≡ Some why)) → IsOtherwiseWrong w older packet why
    unfolding IsOtherwiseWrong
    other_answered why c =
        let a = with_walk c.1.0 c.1.1 in
        (λ at. c.0 (answered_apart at), (a.0, a.1, ap (why_by w older a.0) parses ∙ why_answered a.0 c.1.0 a.2 c.1.1 ∙ c.1.2))

    reason_answered : (why : Why) → IsReason w older packet why → IsAnsweredReason w q older (gathered_from q.eid w.responder.eid older p) why
    reason_answered BadVerify c = answered_apart c
    reason_answered BadPacket c = answered_other BadPacket c
    reason_answered UnknownEnd c = answered_other UnknownEnd c
    reason_answered WrongTurn c = answered_other WrongTurn c
    reason_answered BadRequest c = answered_other BadRequest c
    reason_answered BadReply c = answered_other BadReply c
    reason_answered BadRecord c = answered_other BadRecord c

    answered_reason : (why : Why) → IsAnsweredReason w q older (gathered_from q.eid w.responder.eid older p) why → IsReason w older packet why
    answered_reason BadVerify c = apart_answered c
    answered_reason BadPacket c = other_answered BadPacket c
    answered_reason UnknownEnd c = other_answered UnknownEnd c
    answered_reason WrongTurn c = other_answered WrongTurn c
    answered_reason BadRequest c = other_answered BadRequest c
    answered_reason BadReply c = other_answered BadReply c
    answered_reason BadRecord c = other_answered BadRecord c

-- ---- The laws.

not_true : (b : Bool) → not b ≡ true → b ≡ false
not_true false is = refl
not_true true is = absurd (false≢true is)

pub asked_reason_is_each : AskedReasonIsEach
asked_reason_is_each w q older packet p why apart one walks between parses asks =
    let to = and_first (p.to == w.responder.eid) (p.from == q.eid) asks in
    let from = eqb-true p.from q.eid (and_second (p.to == w.responder.eid) (p.from == q.eid) asks) in
    (reason_asked w q older packet p parses apart one walks between to from why, asked_reason w q older packet p parses apart one walks between to from why)

pub answered_reason_is_each : AnsweredReasonIsEach
answered_reason_is_each w q older packet p why apart one walks between parses answers =
    let no = not_true (p.to == w.responder.eid) (and_first (not (p.to == w.responder.eid)) (p.from == w.responder.eid && p.to == q.eid) answers) in
    let rest = and_second (not (p.to == w.responder.eid)) (p.from == w.responder.eid && p.to == q.eid) answers in
    let back = and_first (p.from == w.responder.eid) (p.to == q.eid) rest in
    let end = eqb-true p.to q.eid (and_second (p.from == w.responder.eid) (p.to == q.eid) rest) in
    (reason_answered w q older packet p parses apart one walks between no back end why, answered_reason w q older packet p parses apart one walks between no back end why)
