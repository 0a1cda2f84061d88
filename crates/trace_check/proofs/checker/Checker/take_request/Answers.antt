use Rattle.std.proofs.Common.{◌≡◌, ◌∙◌, ◌==◌, ℕ, ap, arith, eq-eqb, get_or, slice_set, subst, sym, true}
use Rattle.std.specs.Prelude.{◌∷◌}
use Rattle.mctp_framing.specs.Packet.{PacketFields, view_of}
use Rattle.check_laws.proofs.Telling.{coming_unknown, is_its_request}
use Rattle.check_laws.specs.Order.{is_request}
use Rattle.trace_check.proofs.AllPairs.{hit, none_known, one_of, refused_by, told_by}
use Rattle.trace_check.proofs.checker.Checker.take_request.Goals as goal
use Rattle.trace_check.specs.Checker.{AreKept}
use Rattle.trace_check.specs.JudgedPair.{StandsFor}
use Rattle.trace_check.specs.declared.judged_pair.JudgedPair.{JudgedPair}
use Rattle.capture_machine.specs.Difference.Why.{UnknownEnd}

pub returns-in-Some-get_mut : goal.returns-in-Some-get_mut
returns-in-Some-get_mut c = λ w older packet sound is few parses.
    let p : PacketFields = view_of c.args.view in
    let own : ℕ = w.responder.eid in
    let to : (p.to == own) ≡ true = eq-eqb p.to own (c.requires.own ∙ is.own) in
    let items = c.args.self.now.pairs.items in
    let found = hit w older is.rows p.from 0 c.in-Some.place items w.requesters is.pairs sound.apart (sym c.in-Some.ensures.place) in
    let item = c.in-Some-get_mut.ensures.item in
    let seen : JudgedPair = c.in-Some-get_mut.pair.now in
    let at = found.at in
    let there : c.in-Some.place ≡ found.k = omega (arith, at) in
    let same : seen ≡ found.seen = item.3.1 seen ∙ ap (λ (n : ℕ). get_or items n seen) there ∙ found.there seen in
    let pair = subst (λ (x : JudgedPair). StandsFor x w found.q older is.rows) (sym same) found.stands in
    let known = one_of w found.q p.from found.end found.known in
    let asks : is_request own found.q.eid p ≡ true = subst (λ (n : ℕ). is_request own n p ≡ true) (sym found.end) (is_its_request own p to) in
    let new : JudgedPair = c.take_request.new.self in
    told_by w found.q older packet is.rows c.take_request.result new _
    (c.take_request.ensures w found.q older is.rows packet (record { sound = sound; known = known; few = few; shows = is.shows; parses = parses }) asks pair is.entries)
    is.own is.answering
    (λ behind stands stay. subst (λ (n : ℕ). AreKept (slice_set items n new) w (packet ∷ older) behind w.requesters) (sym there) (found.change packet behind new stands stay))

pub returns-in-None : goal.returns-in-None
returns-in-None c = λ w older packet sound is few parses.
    let p : PacketFields = view_of c.args.view in
    let own : ℕ = w.responder.eid in
    refused_by w older c.args.self.now packet _ UnknownEnd is parses
    (coming_unknown own w.requesters older p (eq-eqb p.to own (c.requires.own ∙ is.own)) (none_known c.args.self.now.pairs.items w older is.rows w.requesters p.from 0 is.pairs (sym c.in-None.ensures.place)))
