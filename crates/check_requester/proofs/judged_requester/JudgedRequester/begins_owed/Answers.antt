use Rattle.std.proofs.Common.{◌∙◌, ◌==◌, ◌+◌, ◌%◌, ℕ, List, Option, Some, ap, refl, sym, subst}
use Rattle.std.proofs.lemmas.Bool.{false≢true}
use Rattle.std.specs.Prelude.{slice_index}
use Rattle.requester_core.specs.Joined.{StandsFor}
use Rattle.requester_machine.specs.Message.{Sent}
use Rattle.requester_machine.specs.Owed.{with_next}
use Rattle.check_requester.proofs.FinishApart.{long_with, owing_long}
use Rattle.check_requester.proofs.GoneOn.{some_of}
use Rattle.check_requester.proofs.LargeBegun.{asker_still, begun_owed, not_first, own_handle}
use Rattle.check_requester.proofs.OwedSent.{goes, out_owed}
use Rattle.check_requester.proofs.OwedTook.{kept_few, owed_took}
use Rattle.check_requester.proofs.CarriedBy.{keeps_carries}
use Rattle.check_requester.proofs.judged_requester.JudgedRequester.begins_owed.Goals as goal
use Rattle.check_requester.specs.JudgedRequester.{is_first_chunk}
use Rattle.check_laws.specs.Keeping.{owing}

pub returns-then-is_secured-clause-told : goal.returns-then-is_secured-clause-told
returns-then-is_secured-clause-told c = λ w q older k keeps few rests asker.
    let some = some_of k.owed (sym asker.owes ∙ rests) in
    let sent : Sent = some.0 in
    let took = owed_took w q older k sent (keeps_carries w q older k keeps) some.1 in
    let stands = subst (λ (o : Option Sent). StandsFor c.args.self.now.asking q (owing o k.requester)) some.1 asker.stands in
    let long = long_with k.requester sent (kept_few w q older k (keeps_carries w q older k keeps) few) in
    let room = c.write_outstanding.ensures.room q (with_next (Some sent) k.requester) sent asker.kept long stands (out_owed k.requester sent took) in
    let shape = goes q k.requester sent c.args.self.now.asking asker.kept.sizes took stands in
    not_first w q older k keeps sent some.1 took shape c.write_outstanding.new.room room c.args.body.now
    (λ other first. false≢true (sym other ∙ (ap (λ (l : List ℕ). slice_index l 0 == 6) (sym c.as_slice.ensures.value) ∙ sym c.is_secured.ensures ∙ c.if-is_secured.true)))

pub returns-then-is_secured-clause-kept : goal.returns-then-is_secured-clause-kept
returns-then-is_secured-clause-kept c = λ w q older k keeps few rests asker.
    asker_still q k c.args.self.now _ asker refl refl (c.write_outstanding.ensures.stands q (owing k.owed k.requester) asker.kept (owing_long k.owed k.requester (kept_few w q older k (keeps_carries w q older k keeps) few)) asker.stands)

pub returns-then-not-is_first_chunk-clause-told : goal.returns-then-not-is_first_chunk-clause-told
returns-then-not-is_first_chunk-clause-told c = λ w q older k keeps few rests asker.
    let some = some_of k.owed (sym asker.owes ∙ rests) in
    let sent : Sent = some.0 in
    let took = owed_took w q older k sent (keeps_carries w q older k keeps) some.1 in
    let stands = subst (λ (o : Option Sent). StandsFor c.args.self.now.asking q (owing o k.requester)) some.1 asker.stands in
    let long = long_with k.requester sent (kept_few w q older k (keeps_carries w q older k keeps) few) in
    let room = c.write_outstanding.ensures.room q (with_next (Some sent) k.requester) sent asker.kept long stands (out_owed k.requester sent took) in
    let shape = goes q k.requester sent c.args.self.now.asking asker.kept.sizes took stands in
    not_first w q older k keeps sent some.1 took shape c.write_outstanding.new.room room c.args.body.now
    (λ other first. false≢true (sym (ap is_first_chunk (sym c.as_slice-2.ensures.value) ∙ sym c.is_first_chunk.ensures ∙ c.if-not-is_first_chunk.true) ∙ first))

pub returns-then-not-is_first_chunk-clause-kept : goal.returns-then-not-is_first_chunk-clause-kept
returns-then-not-is_first_chunk-clause-kept c = λ w q older k keeps few rests asker.
    asker_still q k c.args.self.now _ asker refl refl (c.write_outstanding.ensures.stands q (owing k.owed k.requester) asker.kept (owing_long k.owed k.requester (kept_few w q older k (keeps_carries w q older k keeps) few)) asker.stands)

pub returns-clause-told : goal.returns-clause-told
returns-clause-told c = λ w q older k keeps few rests asker.
    let some = some_of k.owed (sym asker.owes ∙ rests) in
    let sent : Sent = some.0 in
    let took = owed_took w q older k sent (keeps_carries w q older k keeps) some.1 in
    let stands = subst (λ (o : Option Sent). StandsFor c.args.self.now.asking q (owing o k.requester)) some.1 asker.stands in
    let long = long_with k.requester sent (kept_few w q older k (keeps_carries w q older k keeps) few) in
    let room = c.write_outstanding.ensures.room q (with_next (Some sent) k.requester) sent asker.kept long stands (out_owed k.requester sent took) in
    let shape = goes q k.requester sent c.args.self.now.asking asker.kept.sizes took stands in
    let still = c.write_outstanding.ensures.stands q (with_next (Some sent) k.requester) asker.kept long stands in
    let own = asker_still q k c.args.self.now (record c.args.self.now { asking = c.write_outstanding.new.asking; room = c.write_outstanding.new.room }) asker refl refl
    (c.write_outstanding.ensures.stands q (owing k.owed k.requester) asker.kept (owing_long k.owed k.requester (kept_few w q older k (keeps_carries w q older k keeps) few)) asker.stands) in
    let other = (ap (λ (l : List ℕ). slice_index l 0 == 6) (sym c.as_slice.ensures.value) ∙ sym c.is_secured.ensures ∙ c.if-is_secured.false) in
    let first = (ap is_first_chunk (sym c.as_slice-2.ensures.value) ∙ sym c.is_first_chunk.ensures ∙ c.if-not-is_first_chunk.false) in
    begun_owed w q older k keeps sent some.1 took shape c.write_outstanding.new.room room c.args.body.now other first c.first_chunk.result
    (c.first_chunk.ensures q k own
    (own_handle w q older k keeps sent some.1 took shape c.write_outstanding.new.room room c.args.body.now other first _
    (ap (λ (n : ℕ). (n + 255) % 256) (c.next_handle.ensures q (with_next (Some sent) k.requester) still))))

pub returns-clause-kept : goal.returns-clause-kept
returns-clause-kept c = λ w q older k keeps few rests asker.
    asker_still q k c.args.self.now _ asker refl refl (c.write_outstanding.ensures.stands q (owing k.owed k.requester) asker.kept (owing_long k.owed k.requester (kept_few w q older k (keeps_carries w q older k keeps) few)) asker.stands)
