use Rattle.std.proofs.Common.{◌∙◌, refl, sym}
use Rattle.std.proofs.lemmas.Bool.{false≢true}
use Rattle.check_requester.proofs.AskedBy.{bare_kept, none_kept}
use Rattle.check_requester.proofs.LargeBegun.{asker_as, begun_open, no_room, too_long}
use Rattle.check_requester.proofs.OwedTook.{kept_few}
use Rattle.check_requester.proofs.CarriedBy.{keeps_carries}
use Rattle.check_requester.proofs.judged_requester.JudgedRequester.begins_open.Goals as goal

pub returns-then-not-has_room-clause-told : goal.returns-then-not-has_room-clause-told
returns-then-not-has_room-clause-told c = λ w q older k keeps few rests asker.
    let short = kept_few w q older k (keeps_carries w q older k keeps) few in
    let stands = bare_kept q k c.args.self.now asker rests in
    no_room q k asker.setup asker.kept.limits (none_kept q k c.args.self.now asker rests) c.args.body.now
    (λ room. false≢true (sym c.if-not-has_room.true ∙ c.has_room.ensures.none q k.requester asker.kept short stands room))

pub returns-then-not-has_room-clause-kept : goal.returns-then-not-has_room-clause-kept
returns-then-not-has_room-clause-kept c = λ w q older k keeps few rests asker.
    let stands = bare_kept q k c.args.self.now asker rests in
    asker_as q k c.args.self.now _ asker (none_kept q k c.args.self.now asker rests) refl refl (c.has_room.ensures.stands q k.requester asker.kept (kept_few w q older k (keeps_carries w q older k keeps) few) stands)

pub returns-then-not-is_least_short-clause-told : goal.returns-then-not-is_least_short-clause-told
returns-then-not-is_least_short-clause-told c = λ w q older k keeps few rests asker.
    let stands = bare_kept q k c.args.self.now asker rests in
    let still = c.has_room.ensures.stands q k.requester asker.kept (kept_few w q older k (keeps_carries w q older k keeps) few) stands in
    too_long q k asker.setup asker.kept.limits (none_kept q k c.args.self.now asker rests) c.args.body.now (sym (c.is_least_short.ensures q k.requester asker.kept still) ∙ c.if-not-is_least_short.true)

pub returns-then-not-is_least_short-clause-kept : goal.returns-then-not-is_least_short-clause-kept
returns-then-not-is_least_short-clause-kept c = λ w q older k keeps few rests asker.
    let stands = bare_kept q k c.args.self.now asker rests in
    asker_as q k c.args.self.now _ asker (none_kept q k c.args.self.now asker rests) refl refl (c.has_room.ensures.stands q k.requester asker.kept (kept_few w q older k (keeps_carries w q older k keeps) few) stands)

pub returns-clause-told : goal.returns-clause-told
returns-clause-told c = λ w q older k keeps few rests asker.
    let short = kept_few w q older k (keeps_carries w q older k keeps) few in
    let stands = bare_kept q k c.args.self.now asker rests in
    let still = c.has_room.ensures.stands q k.requester asker.kept short stands in
    let own = asker_as q k c.args.self.now (record c.args.self.now { asking = c.has_room.new.asking; room = c.has_room.new.room }) asker (none_kept q k c.args.self.now asker rests) refl refl still in
    begun_open q k asker.setup asker.kept.limits (none_kept q k c.args.self.now asker rests) c.args.body.now
    (c.has_room.ensures.room q k.requester asker.kept short stands c.if-not-has_room.false)
    (sym (c.is_least_short.ensures q k.requester asker.kept still) ∙ c.if-not-is_least_short.false) c.first_chunk.result
    (c.first_chunk.ensures q k own (sym (c.next_handle.ensures q k.requester still)))

pub returns-clause-kept : goal.returns-clause-kept
returns-clause-kept c = λ w q older k keeps few rests asker.
    let stands = bare_kept q k c.args.self.now asker rests in
    asker_as q k c.args.self.now _ asker (none_kept q k c.args.self.now asker rests) refl refl (c.has_room.ensures.stands q k.requester asker.kept (kept_few w q older k (keeps_carries w q older k keeps) few) stands)
