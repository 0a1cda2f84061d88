use Rattle.std.proofs.Common.{◌≡◌, ◌∙◌, ◌==◌, ℕ, ap, arith, eq-eqb, false, get_or, ne_eqb, slice_set, subst, sym, true}
use Rattle.std.specs.Prelude.{◌∷◌}
use Rattle.mctp_framing.specs.Packet.{PacketFields, view_of}
use Rattle.spdm_machine.specs.Packets.{gathered_from}
use Rattle.check_laws.proofs.Telling.{going_unknown, is_its_answer}
use Rattle.check_laws.specs.Order.{is_answer}
use Rattle.trace_check.proofs.AllPairs.{given_by, hit, none_known, one_of, refused_by}
use Rattle.trace_check.proofs.checker.Checker.take_answer.Goals as goal
use Rattle.trace_check.specs.Checker.{AreKept}
use Rattle.trace_check.specs.JudgedPair.{StandsFor}
use Rattle.trace_check.specs.declared.judged_pair.JudgedPair.{JudgedPair}
use Rattle.capture_machine.specs.Difference.Why.{UnknownEnd}

pub returns-in-Some-get_mut : goal.returns-in-Some-get_mut
returns-in-Some-get_mut c = λ w older packet sound is few parses.
    let p : PacketFields = view_of c.args.view in
    let own : ℕ = w.responder.eid in
    let to : (p.to == own) ≡ false = ne_eqb p.to own (λ its. c.requires.other (its ∙ sym is.own)) in
    let from : (p.from == own) ≡ true = eq-eqb p.from own (c.requires.own ∙ is.own) in
    let items = c.args.self.now.pairs.items in
    let found = hit w older is.rows p.to 0 c.in-Some.place items w.requesters is.pairs sound.apart (sym c.in-Some.ensures.place) in
    let item = c.in-Some-get_mut.ensures.item in
    let seen : JudgedPair = c.in-Some-get_mut.pair.now in
    let at = found.at in
    let there : c.in-Some.place ≡ found.k = omega (arith, at) in
    let same : seen ≡ found.seen = item.3.1 seen ∙ ap (λ (n : ℕ). get_or items n seen) there ∙ found.there seen in
    let pair = subst (λ (x : JudgedPair). StandsFor x w found.q older is.rows) (sym same) found.stands in
    let known = one_of w found.q p.to found.end found.known in
    let answers : is_answer own found.q.eid p ≡ true = subst (λ (n : ℕ). is_answer own n p ≡ true) (sym found.end) (is_its_answer own p to from) in
    let new : JudgedPair = c.take_answer.new.self in
    given_by w found.q older packet is.rows c.take_answer.result new _
    (c.take_answer.ensures w found.q older is.rows packet (record { sound = sound; known = known; few = few; shows = is.shows; parses = parses }) answers is.answering pair is.entries)
    is.own is.answering
    (λ behind stands stay. subst (λ (n : ℕ). AreKept (slice_set items n new) w (packet ∷ older) behind w.requesters) (sym there) (found.change packet behind new stands stay))

pub returns-in-None : goal.returns-in-None
returns-in-None c = λ w older packet sound is few parses.
    let p : PacketFields = view_of c.args.view in
    let own : ℕ = w.responder.eid in
    let to : (p.to == own) ≡ false = ne_eqb p.to own (λ its. c.requires.other (its ∙ sym is.own)) in
    refused_by w older c.args.self.now packet _ UnknownEnd is parses
    (going_unknown own w.requesters older p to (eq-eqb p.from own (c.requires.own ∙ is.own)) (none_known c.args.self.now.pairs.items w older is.rows w.requesters p.to 0 is.pairs (sym c.in-None.ensures.place)))
