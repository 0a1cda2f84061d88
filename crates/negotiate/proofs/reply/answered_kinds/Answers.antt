use Rattle.std.proofs.Common.{◌≡◌, ◌+◌, ◌-◌, ℕ, true, false, List, [], ◌∷◌, ◌++◌, sym, ap, ◌∙◌, arith}
use Rattle.negotiate.specs.Tables.{behind_front}
use Rattle.negotiate.proofs.KindLists.{is_in, answered_after, kinds_in, after_other, after_known, after_new, after_none, all_done, Before, looked_at, kept_from}
use Rattle.negotiate.proofs.FewKinds.{room}
use Rattle.negotiate.proofs.reply.answered_kinds.Goals.{then-is_answered+then-not-contains, else-is_answered, else-is_answered-via-then-is_answered+else-not-contains, else-is_answered-via-else-is_answered}
use Rattle.negotiate.proofs.reply.answered_kinds.Goals as goal

pub push-requires : goal.push-requires
push-requires c =
    let offer = c.args.offer.now in
    let total = answered_after [] (kinds_in offer.count offer.tables.now) in
    let done = c.loop-i.kinds.items in
    let kind = c.byte_at-kind.result in
    let before : Before done offer.count c.loop-i.i c.loop-i.rest.now total kind = record { holds = c.loop-i.invariant; more = c.loop-i-test.true; front = c.byte_at-kind.ensures } in
    let new : is_in done kind ≡ false = ap (λ (l : List ℕ). is_in l kind) (sym c.as_slice.ensures.value) ∙ sym c.contains.ensures.value ∙ c.if-not-contains.true in
    (omega arith, room done (kinds_in (offer.count - (c.loop-i.i + 1)) (behind_front c.loop-i.rest.now)) (kinds_in offer.count offer.tables.now) kind (looked_at done offer.count c.loop-i.i c.loop-i.rest.now total kind before) (sym c.is_answered.ensures ∙ c.if-is_answered.true) new)

pub loop-i-preserved : goal.loop-i-preserved
loop-i-preserved c =
    let offer = c.args.offer.now in
    let all = kinds_in offer.count offer.tables.now in
    let total = answered_after [] all in
    let done = c.loop-i.kinds.items in
    let kind = c.byte_at-kind.result in
    let others = kinds_in (offer.count - (c.loop-i.i + 1)) (behind_front c.loop-i.rest.now) in
    let before : Before done offer.count c.loop-i.i c.loop-i.rest.now total kind = record { holds = c.loop-i.invariant; more = c.loop-i-test.true; front = c.byte_at-kind.ensures } in
    let kept = λ (now : List ℕ) (step : answered_after now others ≡ answered_after done (kind ∷ others)). kept_from done now offer.count c.loop-i.i c.loop-i.rest.now total c.behind_front-rest.result.now kind c.behind_front-rest.ensures before step in
    elim c.if-is_answered.branch [
      | then-is_answered+then-not-contains w ↦
          (let new : is_in done kind ≡ false = ap (λ (l : List ℕ). is_in l kind) (sym w.as_slice.ensures.value) ∙ sym w.contains.ensures.value ∙ w.if-not-contains.true in
          let items : c.if-is_answered.kinds.items ≡ (done ++ kind ∷ []) = cc (w.kinds-is, w.push.ensures.items) in
          kept c.if-is_answered.kinds.items (ap (λ (l : List ℕ). answered_after l others) items ∙ sym (after_new done kind others (sym c.is_answered.ensures ∙ w.if-is_answered.true) new)))
      | else-is_answered w ↦
          let items : c.if-is_answered.kinds.items ≡ done = cc (w.kinds-is) in
          let same = ap (λ (l : List ℕ). answered_after l others) items in
          elim w.else-is_answered.branch [
            | else-is_answered-via-then-is_answered+else-not-contains v ↦
                (let known : is_in done kind ≡ true = ap (λ (l : List ℕ). is_in l kind) (sym v.as_slice.ensures.value) ∙ sym v.contains.ensures.value ∙ v.if-not-contains.false in
                kept c.if-is_answered.kinds.items (same ∙ sym (after_known done kind others known)))
            | else-is_answered-via-else-is_answered v ↦
                kept c.if-is_answered.kinds.items (same ∙ sym (after_other done kind others (sym c.is_answered.ensures ∙ v.if-is_answered.false)))
          ]
    ]

pub returns : goal.returns
returns c =
    sym (all_done c.loop-i.kinds.items c.args.offer.now.count c.loop-i.i c.loop-i.rest.now c.loop-i-test.false)
    ∙ c.loop-i.invariant ∙ after_none (kinds_in c.args.offer.now.count c.args.offer.now.tables.now)
