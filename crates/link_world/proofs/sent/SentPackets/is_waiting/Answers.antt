use Rattle.std.proofs.Common.{◌≡◌, ◌∙◌, ◌<◌, ◌≤◌, List, length, ap, sym, subst, arith, get_or}
use Rattle.link_world.proofs.Places.{waits_beyond, waits_number, waits_there}
use Rattle.link_world.specs.Sent.{packet_in, sent_of, waits_of}
use Rattle.link_world.specs.declared.sent.Place.{Place}
use Rattle.std.proofs.lemmas.List.{length-map}
use Rattle.link_world.proofs.sent.SentPackets.is_waiting.Goals as goal

pub returns-in-Some-get : goal.returns-in-Some-get
returns-in-Some-get c =
    let look = c.in-Some-get.ensures.lookup in
    let number = c.in-Some.ensures in
    let p = c.in-Some-get.place.now in
    let places = c.self.inside.places.items in
    let bytes = c.self.inside.bytes.items in
    let index = c.in-Some.index in
    let inside : index < length places = subst (λ (l : List Place). index < length l) c.deref.ensures.value look.3.0 in
    let is = look.3.1 p ∙ ap (λ (l : List Place). get_or l index p) c.deref.ensures.value in
    ap (λ (q : Place). q.waits) is
    ∙ sym (waits_there bytes index places p inside)
    ∙ waits_number c.args.number index (sent_of bytes places) number.0 number.1
    ∙ ap (waits_of c.args.number) c.self.view_is

pub returns-in-None-get : goal.returns-in-None-get
returns-in-None-get c =
    let number = c.in-Some.ensures in
    let index = c.in-Some.index in
    let places = c.self.inside.places.items in
    let sent = sent_of c.self.inside.bytes.items places in
    let beyond : length places ≤ index = subst (λ (l : List Place). length l ≤ index) c.deref.ensures.value c.in-None-get.ensures.lookup.3 in
    sym (waits_beyond index sent (omega (arith, beyond, length-map places (packet_in c.self.inside.bytes.items))))
    ∙ waits_number c.args.number index sent number.0 number.1
    ∙ ap (waits_of c.args.number) c.self.view_is
