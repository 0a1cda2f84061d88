use Rattle.std.proofs.Common.{◌∙◌, ◌||◌, ap, sym, Bool}
use Rattle.check_fetched_ends.proofs.EndsSeen.{stands_like}
use Rattle.check_fetched_ends.proofs.marked_ends.repeats_record.Goals as goal
use Rattle.responder_machine.specs.Responder.{repeats}
use Rattle.responder_machine.specs.Session.{id_in_record, last_of, session_of}

pub returns-then-ended : goal.returns-then-ended
returns-then-ended c = λ w q older rows d stands walk other.
    let like = stands_like w q older d walk c.args.ends.now rows stands other in
    let last : Bool = repeats (last_of (session_of (id_in_record c.args.request.now) like.history)) c.args.request.now in
    c.if-ended.true ∙ sym (ap (λ (b : Bool). b || last) (sym (c.repeats_ended-ended.ensures like.responder like.history like.stands) ∙ c.if-ended.true)) ∙ like.records c.args.request.now

pub returns-else-ended : goal.returns-else-ended
returns-else-ended c = λ w q older rows d stands walk other.
    let like = stands_like w q older d walk c.args.ends.now rows stands other in
    let last : Bool = repeats (last_of (session_of (id_in_record c.args.request.now) like.history)) c.args.request.now in
    c.repeats_last-last.ensures like.responder like.history like.stands
    ∙ sym (ap (λ (b : Bool). b || last) (sym (c.repeats_ended-ended.ensures like.responder like.history like.stands) ∙ c.if-ended.false)) ∙ like.records c.args.request.now
