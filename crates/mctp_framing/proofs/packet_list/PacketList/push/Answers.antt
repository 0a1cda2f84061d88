use Rattle.std.proofs.Common.{◌≡◌, ◌∙◌, ◌++◌, ◌+◌, ◌<◌, ◌≤◌, ◌∷◌, [], ℕ, List, length, ap, sym, arith, length-append}
use Rattle.std.proofs.lemmas.List.{length-map}
use Rattle.mctp_framing.specs.declared.packet_list.Span.{Span}
use Rattle.mctp_framing.specs.Spans.{span_of, bytes_at, packets_at, AreWithin, total_len}
use Rattle.mctp_framing.proofs.SpanList.{packets_at-pushed, AreWithin-pushed, total_len-pushed}
use Rattle.mctp_framing.proofs.packet_list.PacketList.push.Goals as goal

-- what is kept is that with the packet after it
abbrev Kept : List ℕ → List Span → List ℕ → List ℕ → List Span → Type 0
Kept bytes spans more all every = (all ≡ bytes ++ more) × (every ≡ spans ++ span_of bytes more ∷ [])

kept : (c : goal.After-add) → Kept c.self.inside.bytes.items c.self.inside.spans.items c.args.packet.now c.append-span.new.bytes.items c.add.new.spans.items
kept c =
    let add : Span → List Span = λ s. c.self.inside.spans.items ++ s ∷ [] in
    (c.append-span.ensures.items, c.add.ensures.items ∙ ap add c.append-span.ensures.span)

few : (now : List (List ℕ)) (bytes : List ℕ) (spans every : List Span) (s : Span) → packets_at bytes spans ≡ now → length now < 72 → every ≡ spans ++ s ∷ [] → length every ≤ 72
few now bytes spans every s view room more =
    let same : length now ≡ length spans = ap length (sym view) ∙ length-map spans (bytes_at bytes) in
    rw (more, length-append spans (s ∷ [])) (omega (arith, same, room))

fits : (now : List (List ℕ)) (bytes more all : List ℕ) (spans : List Span) → packets_at bytes spans ≡ now → total_len (packets_at bytes spans) ≡ length bytes →
    total_len now + length more ≤ 8192 → all ≡ bytes ++ more → length all ≤ 8192
fits now bytes more all spans view total room e =
    let same : total_len now ≡ length bytes = ap total_len (sym view) ∙ total in
    rw (e, length-append bytes more) (omega (arith, same, room))

seen : (bytes more all : List ℕ) (spans every : List Span) → AreWithin (length bytes) spans → Kept bytes spans more all every → packets_at all every ≡ packets_at bytes spans ++ more ∷ []
seen bytes more all spans every within k = rw (k.0, k.1) (packets_at-pushed bytes more spans within)

inside : (bytes more all : List ℕ) (spans every : List Span) → AreWithin (length bytes) spans → Kept bytes spans more all every → AreWithin (length all) every
inside bytes more all spans every within k = rw (k.0, k.1) (AreWithin-pushed bytes more spans within)

total : (bytes more all : List ℕ) (spans every : List Span) → AreWithin (length bytes) spans → total_len (packets_at bytes spans) ≡ length bytes → Kept bytes spans more all every →
    total_len (packets_at all every) ≡ length all
total bytes more all spans every within same k = rw (k.0, k.1) (total_len-pushed bytes more spans within same)

pub invariant_of-self : goal.invariant_of-self
invariant_of-self c =
    let i = c.self.inside in
    let v = c.self.invariant in
    let k = kept c in
    let all = c.append-span.new.bytes.items in
    let every = c.add.new.spans.items in
    let more = c.args.packet.now in (
      omega (arith, v.0, c.add.ensures.capacity),
      omega (arith, v.1, c.append-span.ensures.capacity),
      few c.args.self.now i.bytes.items i.spans.items every (span_of i.bytes.items more) c.self.view_is c.requires.packets k.1,
      fits c.args.self.now i.bytes.items more all i.spans.items c.self.view_is v.5 c.requires.bytes k.0,
      inside i.bytes.items more all i.spans.items every v.4 k,
      total i.bytes.items more all i.spans.items every v.4 v.5 k,
    )

pub returns : goal.returns
returns c =
    let i = c.self.inside in
    seen i.bytes.items c.args.packet.now c.append-span.new.bytes.items i.spans.items c.add.new.spans.items c.self.invariant.4 (kept c)
    ∙ ap (λ (ps : List (List ℕ)). ps ++ c.args.packet.now ∷ []) c.self.view_is
