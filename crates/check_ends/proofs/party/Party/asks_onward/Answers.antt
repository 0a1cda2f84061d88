use Rattle.std.proofs.Common.{◌∙◌, ℕ, List, Bool, refl, subst, sym, true, false}
use Rattle.std.proofs.lemmas.Bool.{false≢true}
use Rattle.check_ends.proofs.InTurn.{asks_in_turn}
use Rattle.check_ends.proofs.SendingTold.{asker_before, completed, connected, few_earlier, refused_late, sent_on, way_with}
use Rattle.check_requester.proofs.CarriedBy.{keeps_carries}
use Rattle.check_ends.proofs.party.Party.asks_onward.Goals as goal
use Rattle.check_ends.specs.Conversation.{meanwhile}
use Rattle.check_requester.specs.LargeAsked.{IsEnded}
use Rattle.check_laws.specs.Large.LargeRequests.{IsToldNext}
use Rattle.check_laws.specs.Large.Sending.{MayStand, requester_of}
use Rattle.check_laws.specs.Large.SendingLaws.{whole_kept}
use Rattle.check_laws.specs.declared.sending_large.pieces.Piece.{Piece}

pub returns-then-is_get_version-clause-told : goal.returns-then-is_get_version-clause-told
returns-then-is_get_version-clause-told c = λ w q older rows packet route s at few none other may way table.
    let turn = asks_in_turn (meanwhile s) route c.args.body.now none in
    let asker = asker_before c.args.self.now.asker q s way.kept.asker in
    connected c.copy_is_request.ensures c.round_is_request.ensures w q older rows packet route c.args.body.now at s c.args.self.now c.args.large way turn c.ask.new.self
    (record {
      stands = λ before after step places. c.ask.ensures.table w _ before after rows step few table places;
      stay = λ before after step places. c.ask.ensures.places before after rows step places;
    })
    c.connects_over.new.self (c.is_get_version.ensures.0 c.if-is_get_version.true) may other
    (c.connects_over.ensures w q older way.earlier s way.sending way.before (c.number-number.ensures s way.chunks) asker)

pub returns-in-Between-clause-told : goal.returns-in-Between-clause-told
returns-in-Between-clause-told c = λ w q older rows packet route s at few none other may way table.
    let body = c.args.body.now in
    let turn = asks_in_turn (meanwhile s) route body none in
    let asker = asker_before c.args.self.now.asker q s way.kept.asker in
    let still = c.why_other-why.ensures.kept w q way.earlier s.before (keeps_carries w q way.earlier s.before way.before) (few_earlier c.args.self.now c.args.large w q older rows s way few) asker in
    let told = subst (λ (p : Piece). IsToldNext s route.tag body p c.args.large c.next.new.self) c.in-Between.is (c.next.ensures w q older s route.tag way.sending way.chunks may (turn.tag other)) in
    sent_on c.copy_is_request.ensures c.round_is_request.ensures w q older rows packet route body at s (record c.args.self.now { asker = c.why_other-why.new.self }) c.args.large
    (way_with c.args.self.now c.args.large w q older rows s c.why_other-why.new.self way still) turn c.ask-in-Between.new.self
    (record {
      stands = λ before after step places. c.ask-in-Between.ensures.table w _ before after rows step few table places;
      stay = λ before after step places. c.ask-in-Between.ensures.places before after rows step places;
    })
    told.0.0 told.0.1 c.next.new.self told.0.2

pub returns-else-not-ends_large-clause-told : goal.returns-else-not-ends_large-clause-told
returns-else-not-ends_large-clause-told c = λ w q older rows packet route s at few none other may way table.
    let body = c.args.body.now in
    let turn = asks_in_turn (meanwhile s) route body none in
    let asker = asker_before c.args.self.now.asker q s way.kept.asker in
    let few_before = few_earlier c.args.self.now c.args.large w q older rows s way few in
    let still = c.why_other-why.ensures.kept w q way.earlier s.before (keeps_carries w q way.earlier s.before way.before) few_before asker in
    let told = subst (λ (p : Piece). IsToldNext s route.tag body p c.args.large c.next.new.self) c.in-Last.is (c.next.ensures w q older s route.tag way.sending way.chunks may (turn.tag other)) in
    let bytes : List ℕ = c.next.new.self.pieces.bytes in
    let same = c.bytes.ensures in
    let number = c.number-number.ensures s way.chunks in
    let ends = subst (λ (b : Bool). IsEnded q s c.bytes.result.now b c.ends_large.new.self) c.if-not-ends_large.false
    (c.ends_large.ensures w q older way.earlier s way.sending way.before few_before (subst (MayStand s) (sym same) told.1) told.2 told.3 number still) in
    let ended = subst (λ (l : List ℕ). IsEnded q s l true c.ends_large.new.self) same ends in
    let next = whole_kept s (requester_of s ended.0 bytes) route.tag body in
    completed c.copy_is_request.ensures c.round_is_request.ensures w q older rows packet route body at s c.args.self.now c.args.large way turn c.ask-in-Last.new.self
    (record {
      stands = λ before after step places. c.ask-in-Last.ensures.table w _ before after rows step few table places;
      stay = λ before after step places. c.ask-in-Last.ensures.places before after rows step places;
    })
    c.ends_large.new.self bytes ended.0 ended.1 ((told.4 next).1 (ended.0, ended.1, ended.2, ended.3, refl)) ended.4

pub returns-then-not-ends_large-clause-told : goal.returns-then-not-ends_large-clause-told
returns-then-not-ends_large-clause-told c = λ w q older rows packet route s at few none other may way table.
    let body = c.args.body.now in
    let turn = asks_in_turn (meanwhile s) route body none in
    let asker = asker_before c.args.self.now.asker q s way.kept.asker in
    let few_before = few_earlier c.args.self.now c.args.large w q older rows s way few in
    let still = c.why_other-why.ensures.kept w q way.earlier s.before (keeps_carries w q way.earlier s.before way.before) few_before asker in
    let told = subst (λ (p : Piece). IsToldNext s route.tag body p c.args.large c.next.new.self) c.in-Last.is (c.next.ensures w q older s route.tag way.sending way.chunks may (turn.tag other)) in
    let same = c.bytes.ensures in
    let number = c.number-number.ensures s way.chunks in
    let ends = subst (λ (b : Bool). IsEnded q s c.bytes.result.now b c.ends_large.new.self) c.if-not-ends_large.true
    (c.ends_large.ensures w q older way.earlier s way.sending way.before few_before (subst (MayStand s) (sym same) told.1) told.2 told.3 number still) in
    let ended = subst (λ (l : List ℕ). IsEnded q s l false c.ends_large.new.self) same ends in
    refused_late w q older rows packet route body at s way.sending asker.kept.limits turn other c.args.self.now c.args.table.now c.why_other-why.result
    (c.why_other-why.ensures.why w q way.earlier s.before (keeps_carries w q way.earlier s.before way.before) few_before asker)
    (λ is. false≢true (sym c.if-is_get_version.false ∙ c.is_get_version.ensures.1 is)) told.0
    (λ next last. let it = (told.4 next).0 last in ended it.0 it.1 it.2 it.3)

pub returns-in-Other-clause-told : goal.returns-in-Other-clause-told
returns-in-Other-clause-told c = λ w q older rows packet route s at few none other may way table.
    let body = c.args.body.now in
    let turn = asks_in_turn (meanwhile s) route body none in
    let asker = asker_before c.args.self.now.asker q s way.kept.asker in
    let few_before = few_earlier c.args.self.now c.args.large w q older rows s way few in
    let told = subst (λ (p : Piece). IsToldNext s route.tag body p c.args.large c.next.new.self) c.in-Other.is (c.next.ensures w q older s route.tag way.sending way.chunks may (turn.tag other)) in
    refused_late w q older rows packet route body at s way.sending asker.kept.limits turn other c.args.self.now c.args.table.now c.why_other-why.result
    (c.why_other-why.ensures.why w q way.earlier s.before (keeps_carries w q way.earlier s.before way.before) few_before asker)
    (λ is. false≢true (sym c.if-is_get_version.false ∙ c.is_get_version.ensures.1 is)) told.0 told.1
